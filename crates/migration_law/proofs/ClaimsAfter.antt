-- Promises and claims that fit before fit in opaque text.
use Rattle.std.proofs.Common.{◌≡◌, ℕ, Bool, true, false, not, ◌&&◌, ◌||◌, ◌==◌, if◌then◌else◌, List, is_some, is_none, unwrap_or, Option, None, Some, refl, sym, subst}
use Rattle.std.specs.List.{list_all, list_any}
use Rattle.lemmas.specs.Bools.{and_true, and_parts}
use Rattle.ir_ast.specs.Numbers.{small}
use Rattle.ir_ast.specs.declared.function.Function.{Function}
use Rattle.ir_ast.specs.declared.module.Module.{Module}
use Rattle.copies.specs.Opaque.{opaque_function}
use Rattle.types.specs.Globals.{global_named}
use Rattle.certs.specs.Families.{family_of_value, is_address, is_integer, is_opaque_text, is_reference, may_be_outside, refers_to, same_bits}
use Rattle.certs.specs.Fits.{all_named_listed, below_fits, claim_fits, claims_fit, fact_fits, is_count, is_outside_fact, layout_fits, lists_once, promise_fits, promised_below_fits, promised_fits, promised_layout_fits, promised_number_fits, says_something, stands_for, words_fit}
use Rattle.certs.specs.declared.family.Family.{Family}
use Rattle.certs.specs.declared.family.Family.TheVariants.{Opaque}
use Rattle.certs.specs.declared.section.Claim.{Claim}
use Rattle.certs.specs.declared.section.Claim.TheVariants as claim
use Rattle.certs.specs.declared.section.Fact.{Fact}
use Rattle.certs.specs.declared.section.Fact.TheVariants as fact
use Rattle.certs.specs.declared.section.Promise.{Promise}
use Rattle.certificate.specs.Migrated.{with_reference}
use Rattle.migration_law.specs.MigratedFits.{IsTypedFunction}
use Rattle.migration_law.proofs.Implies.{Implies, itself, both_imply, either_implies, all_imply}
use Rattle.migration_law.proofs.FamiliesAfter.{Becomes, o, numbers, refers, reference, address, integer, bits, outside, value_becomes}
use Rattle.migration_law.proofs.RootsAfter.{root_stays}

module _ (m : Module) where
  -- ---- values of families

  module _ (before after : Family) (becomes : Becomes before after) where
    layout_implies : (layout : ℕ) → Implies (layout_fits m before layout) (layout_fits (o m) after layout)
    layout_implies layout = both_imply (refers_to layout before) (list_any (stands_for layout) m.struct_of) (refers_to layout after) (list_any (stands_for layout) m.struct_of) (refers before after layout becomes) (itself (list_any (stands_for layout) m.struct_of))

    pub fact_implies : (x : Fact) → Implies (fact_fits m before x) (fact_fits (o m) after x)
    fact_implies (fact.Number n below) =
        either_implies (is_some (same_bits before (small n)) && below_fits below) (is_outside_fact m before n below) (is_some (same_bits after (small n)) && below_fits below) (is_outside_fact (o m) after n below)
        (both_imply (is_some (same_bits before (small n))) (below_fits below) (is_some (same_bits after (small n))) (below_fits below) (bits before after (small n) becomes) (itself (below_fits below)))
        (both_imply (may_be_outside m before) ((n == 64) && is_none below) (may_be_outside (o m) after) ((n == 64) && is_none below) (outside m (o m) before after refl becomes) (itself ((n == 64) && is_none below)))
    fact_implies (fact.Reference layout nonnull age same) = layout_implies layout
    fact_implies (fact.Address base words) = both_imply (is_address before) (words_fit words) (is_address after) (words_fit words) (address before after becomes) (itself (words_fit words))
    fact_implies (fact.GlobalAddress symbol) = both_imply (is_address before) (is_some (global_named m symbol)) (is_address after) (is_some (global_named m symbol)) (address before after becomes) (itself (is_some (global_named m symbol)))

    promised_layout : (layout : Option ℕ) → Implies (promised_layout_fits m before layout) (promised_layout_fits (o m) after layout)
    promised_layout None h = h
    promised_layout (Some layout) h = layout_implies layout h

    promised_below : (below : Option ℕ) → Implies (promised_below_fits before below) (promised_below_fits after below)
    promised_below None h = h
    promised_below (Some n) h = both_imply (is_integer before) (is_count n) (is_integer after) (is_count n) (integer before after becomes) (itself (is_count n)) h

    promised_null : (nonnull : Bool) → Implies (not nonnull || is_reference before) (not nonnull || is_reference after)
    promised_null nonnull = either_implies (not nonnull) (is_reference before) (not nonnull) (is_reference after) (itself (not nonnull)) (reference before after becomes)

    -- nothing but an address outside is promised
    abbrev stands_alone : Promise → Bool
    stands_alone p = is_none p.layout && (not p.nonnull && is_none p.below)

    promised_number : (p : Promise) → Implies (promised_number_fits m before p) (promised_number_fits (o m) after p)
    promised_number p =
        either_implies (not p.number) (may_be_outside m before && stands_alone p) (not p.number) (may_be_outside (o m) after && stands_alone p) (itself (not p.number))
        (both_imply (may_be_outside m before) (stands_alone p) (may_be_outside (o m) after) (stands_alone p) (outside m (o m) before after refl becomes) (itself (stands_alone p)))

    -- something that fits is promised, and a layout that fits
    abbrev begins_before : Promise → Bool
    begins_before p = says_something p && promised_number_fits m before p && promised_layout_fits m before p.layout

    abbrev begins_after : Promise → Bool
    begins_after p = says_something p && promised_number_fits (o m) after p && promised_layout_fits (o m) after p.layout

    begins_imply : (p : Promise) → Implies (begins_before p) (begins_after p)
    begins_imply p =
        both_imply (says_something p && promised_number_fits m before p) (promised_layout_fits m before p.layout) (says_something p && promised_number_fits (o m) after p) (promised_layout_fits (o m) after p.layout)
        (both_imply (says_something p) (promised_number_fits m before p) (says_something p) (promised_number_fits (o m) after p) (itself (says_something p)) (promised_number p))
        (promised_layout p.layout)

    promise_implies : (p : Promise) → Implies (promise_fits m before p) (promise_fits (o m) after p)
    promise_implies p =
        both_imply (begins_before p && (not p.nonnull || is_reference before)) (promised_below_fits before p.below) (begins_after p && (not p.nonnull || is_reference after)) (promised_below_fits after p.below)
        (both_imply (begins_before p) (not p.nonnull || is_reference before) (begins_after p) (not p.nonnull || is_reference after) (begins_imply p) (promised_null p.nonnull))
        (promised_below p.below)

    -- the layouts of a promise that has one
    old_layout : (p : Promise) (layout : ℕ) → promised_layout_fits m before p.layout ≡ true → list_any (stands_for layout) m.struct_of ≡ true → list_any (stands_for (unwrap_or p.layout layout)) m.struct_of ≡ true
    old_layout p layout h stands = by p.layout refl where
      by : (l : Option ℕ) → p.layout ≡ l → list_any (stands_for (unwrap_or p.layout layout)) m.struct_of ≡ true
      by None e = subst (λ z. list_any (stands_for (unwrap_or z layout)) m.struct_of ≡ true) (sym e) stands
      by (Some own) e =
          let fits : layout_fits m before own ≡ true = subst (λ z. promised_layout_fits m before z ≡ true) e h in
          subst (λ z. list_any (stands_for (unwrap_or z layout)) m.struct_of ≡ true) (sym e) (and_parts (refers_to own before) (list_any (stands_for own) m.struct_of) fits).1

    -- what is promised of a reference, as of `ptr`
    with_layout : (p : Promise) (layout : ℕ) → after ≡ Opaque → list_any (stands_for layout) m.struct_of ≡ true → promise_fits m before p ≡ true
        → promised_fits (o m) after (with_reference (Some layout) (Some p)) ≡ true
    with_layout p layout is stands h = by p.number where
      by : (number : Bool) → promise_fits (o m) after (if number then p else record { layout = Some (unwrap_or p.layout layout); nonnull = p.nonnull; below = p.below; number = false }) ≡ true
      by true = promise_implies p h
      by false =
          let all = and_parts (begins_before p && (not p.nonnull || is_reference before)) (promised_below_fits before p.below) h in
          let front = and_parts (begins_before p) (not p.nonnull || is_reference before) all.0 in
          let first = and_parts (says_something p && promised_number_fits m before p) (promised_layout_fits m before p.layout) front.0 in
          let own = unwrap_or p.layout layout in
          let fits : layout_fits (o m) after own ≡ true = and_true (refers_to own after) (list_any (stands_for own) m.struct_of) (subst (λ z. refers_to own z ≡ true) (sym is) refl) (old_layout p layout first.1 stands) in
          and_true (layout_fits (o m) after own && (not p.nonnull || is_reference after)) (promised_below_fits after p.below)
          (and_true (layout_fits (o m) after own) (not p.nonnull || is_reference after) fits (promised_null p.nonnull front.1))
          (promised_below p.below all.1)

    with_new : (layout : ℕ) → after ≡ Opaque → list_any (stands_for layout) m.struct_of ≡ true → promised_fits (o m) after (with_reference (Some layout) None) ≡ true
    with_new layout is stands =
        let fits : layout_fits (o m) after layout ≡ true = and_true (refers_to layout after) (list_any (stands_for layout) m.struct_of) (subst (λ z. refers_to layout z ≡ true) (sym is) refl) stands in
        and_true (layout_fits (o m) after layout && true) true (and_true (layout_fits (o m) after layout) true fits refl) refl

    pub promised_implies : (layout : Option ℕ) (promise : Option Promise) → ((l : ℕ) → layout ≡ Some l → (after ≡ Opaque) × (list_any (stands_for l) m.struct_of ≡ true))
        → Implies (promised_fits m before promise) (promised_fits (o m) after (with_reference layout promise))
    promised_implies None None is h = refl
    promised_implies None (Some p) is h = promise_implies p h
    promised_implies (Some layout) None is h = let r = is layout refl in with_new layout r.0 r.1
    promised_implies (Some layout) (Some p) is h = let r = is layout refl in with_layout p layout r.0 r.1 h

  -- ---- claims

  module _ (f : Function) (typed : IsTypedFunction m f) (opaque : is_opaque_text (o m) ≡ true) where
    abbrev made : Function
    made = opaque_function (numbers m) f

    claim_implies : (x : Claim) → Implies (claim_fits m f x) (claim_fits (o m) made x)
    claim_implies (claim.Value value x) = fact_implies (family_of_value m f value) (family_of_value (o m) made value) (value_becomes m f typed opaque value) x
    claim_implies (claim.Slot slot nonnull holds) = root_stays m f slot

    pub claims_imply : (claims : List Claim) → Implies (claims_fit m f claims) (claims_fit (o m) made claims)
    claims_imply claims =
        both_imply (list_all (claim_fits m f) claims && lists_once claims) (all_named_listed claims) (list_all (claim_fits (o m) made) claims && lists_once claims) (all_named_listed claims)
        (both_imply (list_all (claim_fits m f) claims) (lists_once claims) (list_all (claim_fits (o m) made) claims) (lists_once claims) (all_imply (claim_fits m f) (claim_fits (o m) made) claims claim_implies) (itself (lists_once claims)))
        (itself (all_named_listed claims))
