-- Lists of predecessors: what each step adds to them.
use Rattle.std.proofs.Common.{◌≡◌, ◌<◌, ◌≤◌, ◌+◌, ◌⊎◌, inl, inr, ℕ, zero, suc, List, [], ◌∷◌, length, map, take, get_or, slice_get, refl, sym, ap, ◌∙◌, subst, arith, true, false, Bool, Some, None}
use Rattle.std.proofs.lemmas.Bool.{eq-eqb, ne_eqb, ltb-true, lt-ltb, le-ltb, cases_eq, cases_lt}
use Rattle.std.proofs.lemmas.List.Folds.{list_any_more}
use Rattle.std.specs.Prelude.{◌==◌, ◌&&◌, ◌||◌, nat_lt}
use Rattle.std.specs.List.{list_any}
use Rattle.lemmas.specs.Bools.{same_truth}
use Rattle.ir_ast.specs.declared.function.Function.{Function}
use Rattle.block_rules.specs.InstrContext.{block_end}
use Rattle.block_rules.specs.Edges.{end_leads, is_predecessor}
use Rattle.block_check.specs.Predecessors.{is_listed, Adds, ArePredecessors}

-- ---- truth values

or_false : (a : Bool) → a ≡ (a || false)
or_false true = refl
or_false false = refl

distribute : (a p q e : Bool) → ((a || (p && e)) || (q && e)) ≡ (a || ((p || q) && e))
distribute true p q e = refl
distribute false true true true = refl
distribute false true true false = refl
distribute false true false true = refl
distribute false true false false = refl
distribute false false q e = refl

or_nothing : (a b : Bool) → (a || (b && false)) ≡ a
or_nothing true b = refl
or_nothing false true = refl
or_nothing false false = refl

and_true : (a : Bool) → (a && true) ≡ a
and_true true = refl
and_true false = refl

and_false : (a : Bool) → (a && false) ≡ false
and_false true = refl
and_false false = refl

-- ---- what is added

-- one addition after another
pub adds_both : (a b c : List (List ℕ)) (from : ℕ) (p q : ℕ → Bool) → Adds a b from p → Adds b c from q → Adds a c from (λ to. p to || q to)
adds_both a b c from p q h k = record {
  as_many = k.as_many ∙ h.as_many;
  adds = λ to other lt.
      let within : to < length b = subst (λ n. to < n) (sym h.as_many) lt in
      k.adds to other within ∙ ap (λ x. x || (q to && (from == other))) (h.adds to other lt) ∙ distribute (is_listed a to other) (p to) (q to) (from == other);
}

-- the same said otherwise
pub adds_as : (a b : List (List ℕ)) (from : ℕ) (p q : ℕ → Bool) → Adds a b from p → ((to : ℕ) → p to ≡ q to) → Adds a b from q
adds_as a b from p q h same = record {
  as_many = h.as_many;
  adds = λ to other lt. h.adds to other lt ∙ ap (λ x. is_listed a to other || (x && (from == other))) (same to);
}

none_past : {X : Type 0} (xs : List X) (i : ℕ) → length xs ≤ i → slice_get xs i ≡ None
none_past [] i ge = refl
none_past (x ∷ xs) zero ge = absurd (omega (arith, ge))
none_past (x ∷ xs) (suc i) ge = none_past xs i (omega (arith, ge))

-- one element more of a list of which each leads somewhere
pub adds_more : {X : Type 0} (leads : ℕ → X → Bool) (xs : List X) (i : ℕ) (x : X) (from : ℕ) (a b c : List (List ℕ)) → i < length xs → x ≡ get_or xs i x → Adds a b from (λ to. list_any (leads to) (take i xs)) → Adds b c from (λ to. leads to x) → Adds a c from (λ to. list_any (leads to) (take (i + 1) xs))
adds_more leads xs i x from a b c lt is h k =
    adds_as a c from _ _ (adds_both a b c from _ _ h k) (λ to. ap (λ y. list_any (leads to) (take i xs) || leads to y) is ∙ sym (list_any_more (leads to) xs i x lt))

-- ---- the blocks one after another

-- the blocks with lower numbers are recorded
pub record ListsBelow (f : Function) (lists : List (List ℕ)) (n : ℕ) : Type 0 where
  pub as_many : length lists ≡ length f.blocks
  pub are : (to other : ℕ) → to < length f.blocks → is_listed lists to other ≡ (nat_lt other n && is_predecessor f to other)

abbrev none_here : {X : Type 0} → X → List ℕ
none_here x = []

none_length : {X : Type 0} (xs : List X) → length (map none_here xs) ≡ length xs
none_length [] = refl
none_length (x ∷ xs) = ap suc (none_length xs)

none_listed : {X : Type 0} (xs : List X) (to other : ℕ) → is_listed (map none_here xs) to other ≡ false
none_listed [] to other = refl
none_listed (x ∷ xs) zero other = refl
none_listed (x ∷ xs) (suc to) other = none_listed xs to other

-- at first none is recorded
pub none_below : (f : Function) (lists : List (List ℕ)) → lists ≡ map none_here f.blocks → ListsBelow f lists 0
none_below f lists e = record {
  as_many = ap length e ∙ none_length f.blocks;
  are = λ to other lt. ap (λ l. is_listed l to other) e ∙ none_listed f.blocks to other ∙ ap (λ x. x && is_predecessor f to other) (sym (le-ltb other 0 (omega arith)));
}

-- one block more
pub below_more : (f : Function) (n : ℕ) (a b : List (List ℕ)) → ListsBelow f a n → Adds a b n (λ to. is_predecessor f to n) → ListsBelow f b (n + 1)
below_more f n a b h k = record {
  as_many = k.as_many ∙ h.as_many;
  are = λ to other lt. k.adds to other (subst (λ x. to < x) (sym h.as_many) lt) ∙ ap (λ x. x || (is_predecessor f to n && (n == other))) (h.are to other lt) ∙ pick to other (cases_eq n other);
} where
  nearer : (other : ℕ) → other < n + 1 → (n ≡ other → ⊥) → other < n
  nearer other lt ne = elim (cases_lt other n) [ inl l ↦ l | inr ge ↦ absurd (ne (omega (arith, lt, ge))) ]

  pick : (to other : ℕ) → (n ≡ other) ⊎ (n ≡ other → ⊥) → ((nat_lt other n && is_predecessor f to other) || (is_predecessor f to n && (n == other))) ≡ (nat_lt other (n + 1) && is_predecessor f to other)
  pick to other (inl e) =
      ap (λ x. (x && is_predecessor f to other) || (is_predecessor f to n && (n == other))) (le-ltb other n (omega (arith, e)))
      ∙ ap (λ x. is_predecessor f to n && x) (eq-eqb n other e)
      ∙ and_true (is_predecessor f to n)
      ∙ ap (λ x. is_predecessor f to x) e
      ∙ ap (λ x. x && is_predecessor f to other) (sym (lt-ltb other (n + 1) (omega (arith, e))))
  pick to other (inr ne) =
      ap (λ x. (nat_lt other n && is_predecessor f to other) || (is_predecessor f to n && x)) (ne_eqb n other ne)
      ∙ or_nothing (nat_lt other n && is_predecessor f to other) (is_predecessor f to n)
      ∙ ap (λ x. x && is_predecessor f to other) (same_truth (nat_lt other n) (nat_lt other (n + 1)) (λ t. lt-ltb other (n + 1) (omega (arith, ltb-true other n t))) (λ t. lt-ltb other n (nearer other (ltb-true other (n + 1) t) ne)))

-- a block that does not exist leads nowhere
pub beyond : (f : Function) (to from : ℕ) → length f.blocks ≤ from → is_predecessor f to from ≡ false
beyond f to from ge = ap (λ b. elim (block_end b) [ None ↦ false | Some x ↦ end_leads f to x ]) (none_past f.blocks from ge)

-- at the end each is recorded
pub all_below : (f : Function) (lists : List (List ℕ)) (n : ℕ) → length f.blocks ≡ n → ListsBelow f lists n → ArePredecessors f lists
all_below f lists n len h = record {
  as_many = h.as_many;
  are = λ to other lt. h.are to other lt ∙ pick to other (cases_lt other n);
} where
  pick : (to other : ℕ) → (other < n) ⊎ (n ≤ other) → (nat_lt other n && is_predecessor f to other) ≡ is_predecessor f to other
  pick to other (inl lt) = ap (λ x. x && is_predecessor f to other) (lt-ltb other n lt)
  pick to other (inr ge) = ap (λ x. nat_lt other n && x) (beyond f to other (omega (arith, len, ge))) ∙ and_false (nat_lt other n) ∙ sym (beyond f to other (omega (arith, len, ge)))
