-- The tries of an allocation, over all cells of a pool in some order, are those of the order of a thread's steps.
use Rattle.std.proofs.Common.{◌≡◌, ◌≢◌, ℕ, suc, ◌+◌, ◌-◌, ◌==◌, inl, inr, Bool, true, false, List, [], ◌∷◌, length, slice_index, if◌then◌else◌, refl, sym, subst, arith}
use Rattle.lemmas.specs.Numbers.{test_yes, test_no}
use Rattle.lemmas.specs.Lists.{IsIn}
use Rattle.pools.specs.Heap.{Setup, layout_of, IsOfLayout}
use Rattle.colours.specs.Steps.{Step, Claim}
use Rattle.colours.specs.Mutator.{Phase, Ready, Trying, MayFollow, after_loss, phase_after}
use Rattle.colours.specs.Calls.{Trying as Tries, Steps, tries_of, Makes, AreEntries, MakesExactly, Ends, TriesFrom, AreApart, IsPoolInOrder, IsAllocation}
use Rattle.colours.specs.Lists.{listed, list_entries}

module _ (s : Setup) (stage layout : ℕ) where
  LastIs : List ℕ → Type 0
  LastIs [] = Unit {0}
  LastIs (last ∷ tried) = layout_of s last ≡ layout

  -- these cells were tried, this one comes next, and these are left after it
  record Under (tried : List ℕ) (cell : ℕ) (cells : List ℕ) : Type 0 where
    many : suc (length tried + length cells) ≡ slice_index s.pools layout
    here : IsOfLayout s layout cell
    new : IsIn cell tried → ⊥
    rest : (c : ℕ) → IsIn c cells → IsOfLayout s layout c
    later : (c : ℕ) → IsIn c cells → (IsIn c tried → ⊥) × (c ≢ cell)
    apart : AreApart cells
    same : LastIs tried

  phase_for : List ℕ → Phase
  phase_for [] = Ready
  phase_for (last ∷ tried) = Trying (last ∷ tried)

  next : (tried : List ℕ) (cell d : ℕ) (cells : List ℕ) → Under tried cell (d ∷ cells) → Under (cell ∷ tried) d cells
  unfolding LastIs
  next tried cell d cells u = record {
    many = let many = u.many in omega arith;
    here = u.rest d (inl refl);
    new = new;
    rest = λ c a. u.rest c (inr a);
    later = λ c a. (was c a, λ e. u.apart.0 (subst (λ k. IsIn k cells) e a));
    apart = u.apart.1;
    same = u.here.2;
  }
    where
      new : IsIn d (cell ∷ tried) → ⊥
      new (inl e) = (u.later d (inl refl)).1 e
      new (inr a) = (u.later d (inl refl)).0 a

      was : (c : ℕ) → IsIn c cells → IsIn c (cell ∷ tried) → ⊥
      was c a (inl e) = (u.later c (inr a)).1 e
      was c a (inr b) = (u.later c (inr a)).0 b

  may : (tried : List ℕ) (cell : ℕ) (cells : List ℕ) → Under tried cell cells → (won : Bool) → MayFollow s stage (phase_for tried) (Claim cell won)
  unfolding phase_for LastIs
  may [] cell cells u won = let o = u.here in (o.0, o.1)
  may (last ∷ tried) cell cells u won = (rw (u.same) (u.here), u.new)

  won_ready : (tried : List ℕ) (cell : ℕ) → phase_after s stage (phase_for tried) (Claim cell true) ≡ Ready
  unfolding phase_for
  won_ready [] cell = refl
  won_ready (last ∷ tried) cell = refl

  lost : (tried : List ℕ) (cell : ℕ) → phase_after s stage (phase_for tried) (Claim cell false) ≡ after_loss s tried cell
  unfolding phase_for
  lost [] cell = refl
  lost (last ∷ tried) cell = refl

  lost_last : (tried : List ℕ) (cell : ℕ) → Under tried cell [] → phase_after s stage (phase_for tried) (Claim cell false) ≡ Ready
  lost_last tried cell u =
      let many = u.many in
      let all : (length (cell ∷ tried) == slice_index s.pools layout) ≡ true = test_yes _ _ (omega arith) in
      rw (lost, u.here.2, all) refl

  lost_more : (tried : List ℕ) (cell d : ℕ) (cells : List ℕ) → Under tried cell (d ∷ cells) → phase_after s stage (phase_for tried) (Claim cell false) ≡ Trying (cell ∷ tried)
  lost_more tried cell d cells u =
      let many = u.many in
      let some : (length (cell ∷ tried) == slice_index s.pools layout) ≡ false = test_no _ _ (omega arith) in
      rw (lost, u.here.2, some) refl

  ended : (phase : Phase) → phase ≡ Ready → Ends s stage phase []
  ended phase e = rw e refl

  -- from here on the list tries the next cells, to the end of the call
  Good : List ℕ → ℕ → List ℕ → List Step → Type 0
  Good tried cell cells [] = ⊥
  Good tried cell cells (step ∷ steps) =
      ((won : Bool) × (step ≡ Claim cell won)) × MayFollow s stage (phase_for tried) step × Ends s stage (phase_after s stage (phase_for tried) step) steps × TriesFrom (cell ∷ cells) (step ∷ steps)

  -- what is good after a lost try
  goes_on : (tried : List ℕ) (cell d : ℕ) (cells : List ℕ) (steps : List Step) → Good (cell ∷ tried) d cells steps → Ends s stage (Trying (cell ∷ tried)) steps × TriesFrom (d ∷ cells) steps
  unfolding Good phase_for
  goes_on tried cell d cells [] g = absurd g
  goes_on tried cell d cells (step ∷ steps) g = ((refl, g.1, g.2), g.3)

  is_good : (tried : List ℕ) (cell d : ℕ) (cells : List ℕ) (steps : List Step) → Ends s stage (Trying (cell ∷ tried)) steps → TriesFrom (d ∷ cells) steps → Good (cell ∷ tried) d cells steps
  unfolding Good phase_for
  is_good tried cell d cells [] h t = absurd (cc (h))
  is_good tried cell d cells (Claim e won ∷ steps) h t = ((won, cc (t.0)), h.1, h.2, t)
  is_good tried cell d cells (_ ∷ steps) h t = absurd t

  module _ (thread : ℕ) where
    one : (tried : List ℕ) (cell : ℕ) (cells : List ℕ) (word : ℕ) (won : Bool) (found : List ℕ) (step : Step) (steps : List Step) → Under tried cell cells → (word == 0) ≡ won → step ≡ Claim cell won
        → Ends s stage (phase_after s stage (phase_for tried) (Claim cell won)) steps → TriesFrom cells steps → AreEntries thread stage (if won then Steps [] else tries_of cells) found steps
        → Good tried cell cells (step ∷ steps) × AreEntries thread stage (Tries cell cells) (word ∷ found) (step ∷ steps)
    unfolding Good
    one tried cell cells word won found step steps u w is ends tries entries =
        rw is (((won, refl), may tried cell cells u won, ends, (refl, tries)), (refl, sym w, rw w entries))

    -- what is to be shown of the list after a lost try
    Further : (tried : List ℕ) (cell : ℕ) (cells : List ℕ) (found : List ℕ) (steps : List Step) → Type 0
    Further tried cell [] found steps = Unit {0}
    Further tried cell (d ∷ cells) found steps =
        Makes thread stage (Tries d cells) found steps → Good (cell ∷ tried) d cells steps × AreEntries thread stage (Tries d cells) found steps

    step_made : (tried : List ℕ) (cell : ℕ) (cells : List ℕ) (word : ℕ) (won : Bool) (found : List ℕ) (step : Step) (steps : List Step) → Under tried cell cells → (word == 0) ≡ won → step ≡ Claim cell won
        → Makes thread stage (if won then Steps [] else tries_of cells) found steps
        → Further tried cell cells found steps
        → Good tried cell cells (step ∷ steps) × AreEntries thread stage (Tries cell cells) (word ∷ found) (step ∷ steps)
    unfolding Further
    step_made tried cell cells word true found step steps u w is h further =
        let none : steps ≡ [] = listed thread stage [] found steps h in
        one tried cell cells word true found step steps u w is (rw none (ended _ (won_ready tried cell))) (rw none tt) (list_entries thread stage [] tt found steps h)
    step_made tried cell [] word false found step steps u w is h further =
        let none : steps ≡ [] = listed thread stage [] found steps h in
        one tried cell [] word false found step steps u w is (rw none (ended _ (lost_last tried cell u))) (rw none tt) (list_entries thread stage [] tt found steps h)
    step_made tried cell (d ∷ cells) word false found step steps u w is h further =
        let r = further h in
        let good = goes_on tried cell d cells steps r.0 in
        one tried cell (d ∷ cells) word false found step steps u w is (rw (lost_more tried cell d cells u) good.0) good.1 r.1

    made_good : (cells : List ℕ) (tried : List ℕ) (cell : ℕ) → Under tried cell cells → (found : List ℕ) (steps : List Step) → Makes thread stage (Tries cell cells) found steps
        → Good tried cell cells steps × AreEntries thread stage (Tries cell cells) found steps
    unfolding Further
    made_good cells tried cell u [] [] h = absurd (cc (h))
    made_good cells tried cell u [] (step ∷ steps) h = absurd h
    made_good cells tried cell u (word ∷ found) [] h = absurd h
    made_good [] tried cell u (word ∷ found) (step ∷ steps) h =
        step_made tried cell [] word (word == 0) found step steps u refl h.1 h.2 tt
    made_good (d ∷ cells) tried cell u (word ∷ found) (step ∷ steps) h =
        step_made tried cell (d ∷ cells) word (word == 0) found step steps u refl h.1 h.2
        (made_good cells (cell ∷ tried) d (next tried cell d cells u) found steps)

    each_made : (steps : List Step) (cells : List ℕ) (tried : List ℕ) (cell : ℕ) → Under tried cell cells → Good tried cell cells steps → (found : List ℕ) × Makes thread stage (Tries cell cells) found steps
    unfolding Good
    each_made [] cells tried cell u g = absurd g
    each_made (step ∷ steps) cells tried cell u ((true, is), may, ends, tries) =
        let after : Ends s stage Ready steps = rw (is, won_ready tried cell) at ends in
        over steps after
      where
        over : (steps : List Step) → Ends s stage Ready steps → (found : List ℕ) × Makes thread stage (Tries cell cells) found (step ∷ steps)
        over [] h = (0 ∷ [], (λ x. absurd cc, is, refl))
        over (x ∷ xs) h = absurd (cc (h.0))
    each_made (step ∷ steps) [] tried cell u ((false, is), may, ends, tries) =
        let after : Ends s stage Ready steps = rw (is, lost_last tried cell u) at ends in
        over steps after
      where
        over : (steps : List Step) → Ends s stage Ready steps → (found : List ℕ) × Makes thread stage (Tries cell []) found (step ∷ steps)
        over [] h = (1 ∷ [], (λ x. absurd cc, is, refl))
        over (x ∷ xs) h = absurd (cc (h.0))
    each_made (step ∷ steps) (d ∷ cells) tried cell u ((false, is), may, ends, tries) =
        let after : Ends s stage (Trying (cell ∷ tried)) steps = rw (is, lost_more tried cell d cells u) at ends in
        let more_tries : TriesFrom (cell ∷ d ∷ cells) (Claim cell false ∷ steps) = rw is at tries in
        let rest = each_made steps cells (cell ∷ tried) d (next tried cell d cells u) (is_good tried cell d cells steps after more_tries.1) in
        (1 ∷ rest.0, (λ x. absurd cc, is, rest.1))

  start : (cell : ℕ) (cells : List ℕ) → IsPoolInOrder s layout (cell ∷ cells) → Under [] cell cells
  unfolding LastIs
  start cell cells p = record {
    many = let all = p.all in omega (arith, all);
    here = p.of_layout cell (inl refl);
    new = λ a. absurd a;
    rest = λ c a. p.of_layout c (inr a);
    later = λ c a. (λ b. absurd b, λ e. p.apart.0 (subst (λ k. IsIn k cells) e a));
    apart = p.apart.1;
    same = tt;
  }

  pub alloc_exact : (thread cell : ℕ) (cells : List ℕ) → IsPoolInOrder s layout (cell ∷ cells) → MakesExactly thread stage (Tries cell cells) (IsAllocation s stage cell cells)
  unfolding Good phase_for
  alloc_exact thread cell cells p = record {
    only = λ found steps h. only steps (made_good thread cells [] cell (start cell cells p) found steps h).0;
    entries = λ found steps h. (made_good thread cells [] cell (start cell cells p) found steps h).1;
    each = λ steps h. each_made thread steps cells [] cell (start cell cells p) (good steps h);
  }
    where
      only : (steps : List Step) → Good [] cell cells steps → IsAllocation s stage cell cells steps
      only [] g = absurd g
      only (step ∷ steps) g = ((g.0, (g.1, g.2)), g.3)

      good : (steps : List Step) → IsAllocation s stage cell cells steps → Good [] cell cells steps
      good [] h = absurd h.0
      good (step ∷ steps) ((is, call), tries) = (is, call.0, call.1, tries)
