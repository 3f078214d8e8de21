-- Sections that fit a function still fit it where the tables of its module have grown.
use Rattle.std.proofs.Common.{◌≡◌, inl, inr, ℕ, zero, suc, Bool, true, false, not, ◌&&◌, ◌||◌, ◌==◌, List, [], ◌∷◌, length, slice_get, is_some, is_none, unwrap_or, Option, None, Some, refl, sym, ap, ◌∙◌, subst}
use Rattle.std.specs.List.{list_all, list_any, zip}
use Rattle.lemmas.specs.Lists.{any_at}
use Rattle.lemmas.specs.Bools.{or_first, or_parts, or_second}
use Rattle.ir_ast.specs.Numbers.{small}
use Rattle.ir_ast.specs.declared.function.Function.{Function}
use Rattle.ir_ast.specs.declared.function.Parameter.{Parameter}
use Rattle.ir_ast.specs.declared.module.Module.{Module}
use Rattle.types.specs.Globals.{global_named, global_of_sort}
use Rattle.types.specs.References.{struct_in}
use Rattle.certs.specs.Families.{family_of_type, family_of_value, is_address, is_integer, is_reference, may_be_outside, refers_to, same_bits}
use Rattle.certs.specs.Fits.{all_named_listed, below_fits, blocks_fit, claim_fits, claims_fit, entry_is_empty, fact_fits, is_count, is_outside_fact, is_root_name, is_value, layout_fits, lists_once, parameter_fits, parameters_fit, promise_fits, promised_below_fits, promised_fits, promised_layout_fits, promised_number_fits, says_something, section_fits, stands_for, words_fit}
use Rattle.certs.specs.declared.family.Family.{Family}
use Rattle.certs.specs.declared.section.Claim.{Claim}
use Rattle.certs.specs.declared.section.Claim.TheVariants as claim
use Rattle.certs.specs.declared.section.Fact.{Fact}
use Rattle.certs.specs.declared.section.Fact.TheVariants as fact
use Rattle.certs.specs.declared.section.Promise.{Promise}
use Rattle.certs.specs.declared.section.Section.{Section}
use Rattle.replaced_fits.specs.Closed.{IsClosed, IsClosedFunction}
use Rattle.replaced_fits.proofs.GrownFamilies.{Becomes, Grows, address, bits, integer, outside, reference, refers, type_becomes, value_becomes}
use Rattle.replaced_fits.proofs.GrownSlots.{root_names_same}
use Rattle.replaced_fits.proofs.Implies.{Implies, both_imply, each_implies, either_implies, itself}

-- ---- lists

-- what passes a test, at its place
some_at : {A : Type 0} (p : A → Bool) (xs : List A) → list_any p xs ≡ true → (k : ℕ) × (x : A) × (slice_get xs k ≡ Some x) × (p x ≡ true)
some_at p [] h = absurd cc
some_at p (x ∷ xs) h = elim (or_parts (p x) (list_any p xs) h) [
  | inl here ↦ (0, x, refl, here)
  | inr there ↦ (let found = some_at p xs there in (suc found.0, found.1, found.2, found.3))
]

module _ (m n : Module) (g : Grows m n) (closed : IsClosed m) where
  -- ---- layouts

  name_by : (layout : ℕ) (found : Option (Option ℕ)) (k own : ℕ) → slice_get n.struct_of k ≡ found → struct_in found ≡ Some own → stands_for layout (Some own) ≡ true → list_any (stands_for layout) n.struct_of ≡ true
  name_by layout None k own at is stands = absurd cc
  name_by layout (Some x) k own at is stands = any_at (stands_for layout) n.struct_of k x at (ap (stands_for layout) is ∙ stands)

  stands_at : (layout : ℕ) (k : ℕ) (x : Option ℕ) → slice_get m.struct_of k ≡ Some x → stands_for layout x ≡ true → list_any (stands_for layout) n.struct_of ≡ true
  stands_at layout k None at stands = absurd cc
  stands_at layout k (Some own) at stands = name_by layout (slice_get n.struct_of k) k own refl (g.names k ∙ ap struct_in at) stands

  -- a layout of the module is one still
  pub layout_stays : (layout : ℕ) → Implies (list_any (stands_for layout) m.struct_of) (list_any (stands_for layout) n.struct_of)
  layout_stays layout h = let found = some_at (stands_for layout) m.struct_of h in stands_at layout found.0 found.1 found.2 found.3

  -- ---- values of families

  module _ (before after : Family) (becomes : Becomes before after) where
    layout_implies : (layout : ℕ) → Implies (layout_fits m before layout) (layout_fits n after layout)
    layout_implies layout = both_imply (refers_to layout before) (list_any (stands_for layout) m.struct_of) (refers_to layout after) (list_any (stands_for layout) n.struct_of) (refers before after layout becomes) (layout_stays layout)

    global_implies : (symbol : ℕ) → Implies (is_some (global_named m symbol)) (is_some (global_named n symbol))
    global_implies symbol h = ap (λ sorts. is_some (global_of_sort (slice_get sorts symbol))) g.sorts ∙ h

    fact_implies : (x : Fact) → Implies (fact_fits m before x) (fact_fits n after x)
    fact_implies (fact.Number k below) =
        either_implies (is_some (same_bits before (small k)) && below_fits below) (is_outside_fact m before k below) (is_some (same_bits after (small k)) && below_fits below) (is_outside_fact n after k below)
        (both_imply (is_some (same_bits before (small k))) (below_fits below) (is_some (same_bits after (small k))) (below_fits below) (bits before after (small k) becomes) (itself (below_fits below)))
        (both_imply (may_be_outside m before) ((k == 64) && is_none below) (may_be_outside n after) ((k == 64) && is_none below) (outside m n before after g.wide becomes) (itself ((k == 64) && is_none below)))
    fact_implies (fact.Reference layout nonnull age same) = layout_implies layout
    fact_implies (fact.Address base words) = both_imply (is_address before) (words_fit words) (is_address after) (words_fit words) (address before after becomes) (itself (words_fit words))
    fact_implies (fact.GlobalAddress symbol) = both_imply (is_address before) (is_some (global_named m symbol)) (is_address after) (is_some (global_named n symbol)) (address before after becomes) (global_implies symbol)

    promised_layout : (layout : Option ℕ) → Implies (promised_layout_fits m before layout) (promised_layout_fits n after layout)
    promised_layout None h = h
    promised_layout (Some layout) h = layout_implies layout h

    promised_below : (below : Option ℕ) → Implies (promised_below_fits before below) (promised_below_fits after below)
    promised_below None h = h
    promised_below (Some k) h = both_imply (is_integer before) (is_count k) (is_integer after) (is_count k) (integer before after becomes) (itself (is_count k)) h

    promised_null : (nonnull : Bool) → Implies (not nonnull || is_reference before) (not nonnull || is_reference after)
    promised_null nonnull = either_implies (not nonnull) (is_reference before) (not nonnull) (is_reference after) (itself (not nonnull)) (reference before after becomes)

    -- nothing but an address outside is promised
    abbrev stands_alone : Promise → Bool
    stands_alone p = is_none p.layout && (not p.nonnull && is_none p.below)

    promised_number : (p : Promise) → Implies (promised_number_fits m before p) (promised_number_fits n after p)
    promised_number p =
        either_implies (not p.number) (may_be_outside m before && stands_alone p) (not p.number) (may_be_outside n after && stands_alone p) (itself (not p.number))
        (both_imply (may_be_outside m before) (stands_alone p) (may_be_outside n after) (stands_alone p) (outside m n before after g.wide becomes) (itself (stands_alone p)))

    -- something that fits is promised, and a layout that fits
    abbrev begins_before : Promise → Bool
    begins_before p = says_something p && promised_number_fits m before p && promised_layout_fits m before p.layout

    abbrev begins_after : Promise → Bool
    begins_after p = says_something p && promised_number_fits n after p && promised_layout_fits n after p.layout

    begins_imply : (p : Promise) → Implies (begins_before p) (begins_after p)
    begins_imply p =
        both_imply (says_something p && promised_number_fits m before p) (promised_layout_fits m before p.layout) (says_something p && promised_number_fits n after p) (promised_layout_fits n after p.layout)
        (both_imply (says_something p) (promised_number_fits m before p) (says_something p) (promised_number_fits n after p) (itself (says_something p)) (promised_number p))
        (promised_layout p.layout)

    promise_implies : (p : Promise) → Implies (promise_fits m before p) (promise_fits n after p)
    promise_implies p =
        both_imply (begins_before p && (not p.nonnull || is_reference before)) (promised_below_fits before p.below) (begins_after p && (not p.nonnull || is_reference after)) (promised_below_fits after p.below)
        (both_imply (begins_before p) (not p.nonnull || is_reference before) (begins_after p) (not p.nonnull || is_reference after) (begins_imply p) (promised_null p.nonnull))
        (promised_below p.below)

    promised_implies : (promise : Option Promise) → Implies (promised_fits m before promise) (promised_fits n after promise)
    promised_implies None h = refl
    promised_implies (Some p) h = promise_implies p h

  -- ---- a function

  module _ (f : Function) (own : IsClosedFunction m f) where
    root_implies : (slot : ℕ) → Implies (is_root_name m f slot) (is_root_name n f slot)
    root_implies slot h = ap (λ names. is_value f slot && unwrap_or (slice_get names slot) false) (root_names_same m n g closed f own) ∙ h

    claim_implies : (x : Claim) → Implies (claim_fits m f x) (claim_fits n f x)
    claim_implies (claim.Value value x) = fact_implies (family_of_value m f value) (family_of_value n f value) (value_becomes m n g closed f own value) x
    claim_implies (claim.Slot slot nonnull holds) = root_implies slot

    claims_imply : (claims : List Claim) → Implies (claims_fit m f claims) (claims_fit n f claims)
    claims_imply claims =
        both_imply (list_all (claim_fits m f) claims && lists_once claims) (all_named_listed claims) (list_all (claim_fits n f) claims && lists_once claims) (all_named_listed claims)
        (both_imply (list_all (claim_fits m f) claims) (lists_once claims) (list_all (claim_fits n f) claims) (lists_once claims) (each_implies (claim_fits m f) (claim_fits n f) claims (λ k x e. claim_implies x)) (itself (lists_once claims)))
        (itself (all_named_listed claims))

    blocks_imply : (blocks : List (List Claim)) → Implies (blocks_fit m f blocks) (blocks_fit n f blocks)
    blocks_imply blocks =
        both_imply ((length blocks == length f.blocks) && entry_is_empty blocks) (list_all (claims_fit m f) blocks) ((length blocks == length f.blocks) && entry_is_empty blocks) (list_all (claims_fit n f) blocks)
        (itself ((length blocks == length f.blocks) && entry_is_empty blocks)) (each_implies (claims_fit m f) (claims_fit n f) blocks (λ k x e. claims_imply x))

    each_parameter : (xs : List Parameter) (ps : List (Option Promise)) → Implies (list_all (λ p. parameter_fits m f p.0 p.1) (zip xs ps)) (list_all (λ p. parameter_fits n f p.0 p.1) (zip xs ps))
    each_parameter xs ps = each_implies (λ p. parameter_fits m f p.0 p.1) (λ p. parameter_fits n f p.0 p.1) (zip xs ps)
        (λ k p e. promised_implies (family_of_value m f p.0.value) (family_of_value n f p.0.value) (value_becomes m n g closed f own p.0.value) p.1)

    parameters_imply : (ps : List (Option Promise)) → Implies (parameters_fit m f ps) (parameters_fit n f ps)
    parameters_imply ps =
        both_imply (length ps == length f.parameters) (list_all (λ p. parameter_fits m f p.0 p.1) (zip f.parameters ps)) (length ps == length f.parameters) (list_all (λ p. parameter_fits n f p.0 p.1) (zip f.parameters ps))
        (itself (length ps == length f.parameters)) (each_parameter f.parameters ps)

    -- a section of a function
    section_implies : (s : Section) → Implies (section_fits m f s) (section_fits n f s)
    section_implies s =
        both_imply (parameters_fit m f s.parameters && promised_fits m (family_of_type m f.returned) s.result) (blocks_fit m f s.blocks)
        (parameters_fit n f s.parameters && promised_fits n (family_of_type n f.returned) s.result) (blocks_fit n f s.blocks)
        (both_imply (parameters_fit m f s.parameters) (promised_fits m (family_of_type m f.returned) s.result)
        (parameters_fit n f s.parameters) (promised_fits n (family_of_type n f.returned) s.result)
        (parameters_imply s.parameters) (promised_implies (family_of_type m f.returned) (family_of_type n f.returned) (type_becomes m n g closed f.returned) s.result))
        (blocks_imply s.blocks)

  -- ---- all sections

  pub sections_imply : (fs : List Function) (ss : List Section) → ((k : ℕ) (f : Function) → slice_get fs k ≡ Some f → IsClosedFunction m f)
      → Implies (list_all (λ p. section_fits m p.0 p.1) (zip fs ss)) (list_all (λ p. section_fits n p.0 p.1) (zip fs ss))
  sections_imply [] ss own h = refl
  sections_imply (f ∷ fs) [] own h = refl
  sections_imply (f ∷ fs) (s ∷ ss) own h =
      both_imply (section_fits m f s) (list_all (λ p. section_fits m p.0 p.1) (zip fs ss)) (section_fits n f s) (list_all (λ p. section_fits n p.0 p.1) (zip fs ss))
      (section_implies f (own 0 f refl) s) (sections_imply fs ss (λ k x e. own (suc k) x e)) h
