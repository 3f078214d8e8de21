-- What rows say once some are changed.
use Rattle.std.proofs.Common.{◌≡◌, ◌<◌, ◌≤◌, ℕ, length, List, ◌++◌, get_or, map, refl, sym, ap, ◌∙◌, Option, None, slice_set, ◌-◌, Result, Ok, Err, OnOk, OnErr}
use Rattle.std.proofs.Math.ListN.{get_or-map}
use Rattle.std.proofs.lemmas.List.{ext_get_or, map-set, length-map, set-append_left, set-append_right}
use Rattle.std.proofs.lemmas.List as lists
use Rattle.std.proofs.Math.Seq.{map-set_same}
use Rattle.fact_tables.specs.declared.known.Class.{Class}
use Rattle.fact_tables.specs.declared.known.Known.{Known}
use Rattle.fact_tables.specs.declared.known.Known.TheVariants.{Nothing}
use Rattle.fact_tables.specs.declared.known.Test.{Test}
use Rattle.fact_tables.specs.declared.row.Row.{Row}
use Rattle.fact_tables.specs.Sheets.{blank, row_at, known_of, class_of, test_of, EachRow}
use Rattle.fact_tables.specs.Values.{the_facts, facts_of_rows, ended_row}

pub same_facts : (v w : List Known) (c d : List Class) (t u : List (Option Test)) → v ≡ w → c ≡ d → t ≡ u → the_facts v c t ≡ the_facts w d u
same_facts v w c d t u e f g = ap (λ x. the_facts x c t) e ∙ ap (λ x. the_facts w x t) f ∙ ap (λ x. the_facts w d x) g

module _ (rows : List Row) (added : List Class) (v : ℕ) where
  pub known_row_facts : (known : Known) → facts_of_rows (slice_set rows v (record (row_at rows v) { known = known })) added ≡ record (facts_of_rows rows added) { values = slice_set (map known_of rows) v known }
  known_row_facts known = let row = record (row_at rows v) { known = known } in
      same_facts _ _ _ _ _ _ (map-set known_of rows v row) (ap (λ l. l ++ added) (map-set_same class_of rows v row blank refl)) (map-set_same test_of rows v row blank refl)

  pub class_row_facts : (class : Class) → v < length rows → facts_of_rows (slice_set rows v (record (row_at rows v) { class = class })) added ≡ record (facts_of_rows rows added) { classes = slice_set (map class_of rows ++ added) v class }
  class_row_facts class lt = let row = record (row_at rows v) { class = class } in
      same_facts _ _ _ _ _ _ (map-set_same known_of rows v row blank refl) (ap (λ l. l ++ added) (map-set class_of rows v row) ∙ sym (set-append_left (map class_of rows) added v class (rw length-map lt))) (map-set_same test_of rows v row blank refl)

  pub ended_row_facts : facts_of_rows (slice_set rows v (ended_row (row_at rows v))) added ≡ record (facts_of_rows rows added) { values = slice_set (map known_of rows) v Nothing; tests = slice_set (map test_of rows) v None }
  ended_row_facts = let row = ended_row (row_at rows v) in
      same_facts _ _ _ _ _ _ (map-set known_of rows v row) (ap (λ l. l ++ added) (map-set_same class_of rows v row blank refl)) (map-set test_of rows v row)

-- a class that was added is written
pub class_added_facts : (rows : List Row) (added : List Class) (c : ℕ) (class : Class) → length rows ≤ c → record (facts_of_rows rows added) { classes = map class_of rows ++ slice_set added (c - length rows) class } ≡ record (facts_of_rows rows added) { classes = slice_set (map class_of rows ++ added) c class }
class_added_facts rows added c class past = same_facts _ _ _ _ _ _ refl (sym (set-append_right (map class_of rows) added (length rows) c class (length-map rows class_of) past)) refl

-- what holds in any case holds after an error
pub on_err : {A E P : Type 0} (r : Result A E) → P → OnErr r P
on_err (Ok a) h = tt
on_err (Err e) h = h

-- what holds in either case holds
pub by_result : {A E P Q R : Type 0} (r : Result A E) → OnOk r P → OnErr r Q → (P → R) → (Q → R) → R
by_result (Ok a) p q f g = f p
by_result (Err e) p q f g = g q

-- ---- rows that change

module _ {X : Type 0} (q : Row → X) (change : ℕ → Row → Row) (before after : List Row) (each : EachRow change before after) where
  length_after : length (map q after) ≡ length (map q before)
  length_after = length-map after q ∙ each.0 ∙ sym (length-map before q)

  after_at : (i : ℕ) → i < length (map q after) → get_or (map q after) i (q blank) ≡ q (change i (row_at before i))
  after_at i lt = get_or-map q after i blank ∙ ap q (each.1 i (rw (← each.0, ← length-map after q) lt))

  -- each is as it was
  pub each_same : ((u : ℕ) (row : Row) → q (change u row) ≡ q row) → map q after ≡ map q before
  each_same same = ext_get_or (q blank) (map q after) (map q before) length_after (λ i lt. after_at i lt ∙ same i (row_at before i) ∙ sym (get_or-map q before i blank))

  -- each is mapped
  pub each_mapped : (f : X → X) → ((u : ℕ) (row : Row) → q (change u row) ≡ f (q row)) → map q after ≡ map f (map q before)
  each_mapped f same = ext_get_or (q blank) (map q after) (map f (map q before)) (length_after ∙ sym (length-map (map q before) f))
      (λ i lt. after_at i lt ∙ same i (row_at before i) ∙ ap f (sym (get_or-map q before i blank)) ∙ sym (lists.get_or-map f (map q before) i (q blank) (q blank) (rw (← length_after) lt)))
