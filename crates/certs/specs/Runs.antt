-- Claims in the order of what they list.
use Rattle.std.specs.Prelude.{ℕ, Bool, true, false, not, nat_lt, ◌&&◌, ◌||◌, List, [], ◌∷◌, Option, Some, None}
use Rattle.std.specs.List.{list_all, list_any}
use Rattle.certs.specs.Fits.{lists, lists_slot}
use Rattle.certs.specs.declared.section.Claim.{Claim}
use Rattle.certs.specs.declared.section.Claim.TheVariants as claim
use Rattle.certs.specs.declared.runs.Listed.{Listed}
use Rattle.certs.specs.declared.runs.Listed.TheVariants as listed

-- what a claim lists
abbrev pub listed_in : Claim → Listed
listed_in (claim.Value value fact) = listed.Value value
listed_in (claim.Slot slot nonnull holds) = listed.Slot slot

-- a claim lists this
abbrev pub lists_this : Listed → Claim → Bool
lists_this (listed.Value value) claim = lists value claim
lists_this (listed.Slot slot) claim = lists_slot slot claim

-- values come before slots, and both in the order of their numbers
abbrev pub comes_before : Listed → Listed → Bool
comes_before (listed.Value a) (listed.Value b) = nat_lt a b
comes_before (listed.Value a) (listed.Slot b) = true
comes_before (listed.Slot a) (listed.Value b) = false
comes_before (listed.Slot a) (listed.Slot b) = nat_lt a b

-- what each claim lists comes before what those after it list
abbrev pub is_run : List Claim → Bool
is_run [] = true
is_run (claim ∷ claims) = list_all (λ other. comes_before (listed_in claim) (listed_in other)) claims && is_run claims

-- no claim lists what one of some others lists
abbrev pub list_others : List Claim → (others : List Claim) → Bool
list_others claims others = list_all (λ claim. not (list_any (lists_this (listed_in claim)) others)) claims

-- one of four lists of claims lists the value, if there is one
abbrev pub some_list_named : (first second third rest : List Claim) → Option ℕ → Bool
some_list_named first second third rest None = true
some_list_named first second third rest (Some value) = list_any (lists value) first || list_any (lists value) second || list_any (lists value) third || list_any (lists value) rest
