-- Which certificates are certificates of a module.
use Rattle.std.specs.Prelude.{ℕ, Bool, true, false, not, ◌&&◌, ◌||◌, ◌==◌, if◌then◌else◌, List, [], ◌∷◌, length, slice_get, unwrap_or, Option, Some, None, is_some, is_none}
use Rattle.std.specs.List.{list_all, list_any, range_with_len, zip}
pub use Rattle.ir_ast.specs.Numbers.{small}
use Rattle.ir_ast.specs.declared.function.Function.{Function}
use Rattle.ir_ast.specs.declared.function.LocalSort.{LocalSort}
use Rattle.ir_ast.specs.declared.function.LocalSort.TheVariants as local
use Rattle.ir_ast.specs.declared.function.Parameter.{Parameter}
use Rattle.ir_ast.specs.declared.module.Module.{Module}
use Rattle.pools.specs.WordSets.{has_word}
use Rattle.types.specs.Globals.{global_named}
use Rattle.certs.specs.RootNames.{root_names}
use Rattle.certs.specs.Families.{family_of_type, family_of_value, is_reference, is_integer, is_address, may_be_outside, refers_to, same_bits}
use Rattle.certs.specs.declared.family.Family.{Family}
use Rattle.certs.specs.declared.section.Fact.{Fact}
use Rattle.certs.specs.declared.section.Fact.TheVariants as fact
use Rattle.certs.specs.declared.section.Claim.{Claim}
use Rattle.certs.specs.declared.section.Claim.TheVariants as claim
use Rattle.certs.specs.declared.section.Promise.{Promise}
use Rattle.certs.specs.declared.section.Section.{Section}

-- ---- numbers, layouts and words

-- a number other than 0
abbrev pub from_one : Option ℕ → Option ℕ
from_one None = None
from_one (Some n) = if n == 0 then None else Some n

-- a number that may come after `below`
abbrev pub is_count : ℕ → Bool
is_count n = is_some (from_one (small n))

-- below such a number, if a bound is given
abbrev pub below_fits : Option ℕ → Bool
below_fits None = true
below_fits (Some n) = is_count n

-- a struct's name names this layout
abbrev pub stands_for : (layout : ℕ) → Option ℕ → Bool
stands_for layout None = false
stands_for layout (Some own) = own == layout

-- a layout of the module to whose cells such a value may refer
abbrev pub layout_fits : Module → Family → (layout : ℕ) → Bool
layout_fits m family layout = refers_to layout family && list_any (stands_for layout) m.struct_of

-- words from 0 to 63, at least one
abbrev pub words_fit : List Bool → Bool
words_fit set = (length set == 64) && list_any (has_word set) (range_with_len 0 64)

-- ---- promises

-- at least one thing is promised
abbrev pub says_something : Promise → Bool
says_something promise = is_some promise.layout || promise.nonnull || is_some promise.below || promise.number

-- a layout that fits, if one is promised
abbrev pub promised_layout_fits : Module → Family → Option ℕ → Bool
promised_layout_fits m family None = true
promised_layout_fits m family (Some layout) = layout_fits m family layout

-- a bound that fits, if one is promised
abbrev pub promised_below_fits : Family → Option ℕ → Bool
promised_below_fits family None = true
promised_below_fits family (Some n) = is_integer family && is_count n

-- nothing else is promised of an address outside, which is a pointer of a text with the wide forms
abbrev pub promised_number_fits : Module → Family → Promise → Bool
promised_number_fits m family promise =
    not promise.number || (may_be_outside m family && (is_none promise.layout && (not promise.nonnull && is_none promise.below)))

-- what may be promised of such a value
abbrev pub promise_fits : Module → Family → Promise → Bool
promise_fits m family promise = says_something promise && promised_number_fits m family promise && promised_layout_fits m family promise.layout && (not promise.nonnull || is_reference family) && promised_below_fits family promise.below

-- nothing, or what may be promised
abbrev pub promised_fits : Module → Family → Option Promise → Bool
promised_fits m family None = true
promised_fits m family (Some promise) = promise_fits m family promise

-- what may be promised of a parameter
abbrev pub parameter_fits : Module → Function → Parameter → Option Promise → Bool
parameter_fits m f parameter promise = promised_fits m (family_of_value m f parameter.value) promise

-- ---- claims

-- a number of 64 bits, of which no more is said, may be given of a pointer that is an address outside
abbrev pub is_outside_fact : Module → Family → (bits : ℕ) → (below : Option ℕ) → Bool
is_outside_fact m family bits below = may_be_outside m family && ((bits == 64) && is_none below)

-- a fact that may be given of such a value
abbrev pub fact_fits : Module → Family → Fact → Bool
fact_fits m family (fact.Number bits below) = (is_some (same_bits family (small bits)) && below_fits below) || is_outside_fact m family bits below
fact_fits m family (fact.Reference layout nonnull age same) = layout_fits m family layout
fact_fits m family (fact.Address base words) = is_address family && words_fit words
fact_fits m family (fact.GlobalAddress symbol) = is_address family && is_some (global_named m symbol)

-- a parameter or an instruction's value
abbrev pub is_value_sort : Option LocalSort → Bool
is_value_sort (Some (local.Value written)) = true
is_value_sort (Some (local.Slot held)) = true
is_value_sort (Some (local.Element block place)) = true
is_value_sort _ = false

-- whether a local name is a value's
abbrev pub is_value : Function → (value : ℕ) → Bool
is_value f value = is_value_sort (slice_get f.sorts value)

-- the name of a root slot's alloca
abbrev pub is_root_name : Module → Function → (slot : ℕ) → Bool
is_root_name m f slot = is_value f slot && unwrap_or (slice_get (root_names m f) slot) false

-- a claim that is allowed, wherever it is
abbrev pub claim_fits : Module → Function → Claim → Bool
claim_fits m f (claim.Value value fact) = fact_fits m (family_of_value m f value) fact
claim_fits m f (claim.Slot slot nonnull holds) = is_root_name m f slot

-- a claim lists this value
abbrev pub lists : (value : ℕ) → Claim → Bool
lists value (claim.Value own fact) = own == value
lists value (claim.Slot slot nonnull holds) = false

-- a claim lists this slot
abbrev pub lists_slot : (slot : ℕ) → Claim → Bool
lists_slot slot (claim.Value value fact) = false
lists_slot slot (claim.Slot own nonnull holds) = own == slot

-- some claim lists what this one lists
abbrev pub is_listed : List Claim → Claim → Bool
is_listed claims (claim.Value value fact) = list_any (lists value) claims
is_listed claims (claim.Slot slot nonnull holds) = list_any (lists_slot slot) claims

-- no value and no slot is listed twice
abbrev pub lists_once : List Claim → Bool
lists_once [] = true
lists_once (claim ∷ claims) = not (is_listed claims claim) && lists_once claims

-- the value that a fact names besides its own
abbrev pub named_in_fact : Fact → Option ℕ
named_in_fact (fact.Reference layout nonnull age same) = same
named_in_fact (fact.Address base words) = Some base
named_in_fact _ = None

-- the value that a claim names besides the one that it lists
abbrev pub named_in : Claim → Option ℕ
named_in (claim.Value value fact) = named_in_fact fact
named_in (claim.Slot slot nonnull holds) = holds

-- some claim lists the value, if there is one
abbrev pub lists_named : List Claim → Option ℕ → Bool
lists_named claims None = true
lists_named claims (Some value) = list_any (lists value) claims

-- the claims list each value that one of them names
abbrev pub all_named_listed : List Claim → Bool
all_named_listed claims = list_all (λ claim. lists_named claims (named_in claim)) claims

-- the claims of a block
abbrev pub claims_fit : Module → Function → List Claim → Bool
claims_fit m f claims = list_all (claim_fits m f) claims && lists_once claims && all_named_listed claims

-- ---- sections

-- the entry has no claims
abbrev pub entry_is_empty : List (List Claim) → Bool
entry_is_empty [] = true
entry_is_empty ([] ∷ blocks) = true
entry_is_empty ((claim ∷ claims) ∷ blocks) = false

-- one promise for each parameter, or none
abbrev pub parameters_fit : Module → Function → List (Option Promise) → Bool
parameters_fit m f promises = (length promises == length f.parameters) && list_all (λ p. parameter_fits m f p.0 p.1) (zip f.parameters promises)

-- claims for each block
abbrev pub blocks_fit : Module → Function → List (List Claim) → Bool
blocks_fit m f blocks = (length blocks == length f.blocks) && entry_is_empty blocks && list_all (claims_fit m f) blocks

-- the certificate of a function
abbrev pub section_fits : Module → Function → Section → Bool
section_fits m f section = parameters_fit m f section.parameters && promised_fits m (family_of_type m f.returned) section.result && blocks_fit m f section.blocks

-- a certificate for each defined function
abbrev pub fits : Module → List Section → Bool
fits m sections = (length sections == length m.functions) && list_all (λ p. section_fits m p.0 p.1) (zip m.functions sections)
