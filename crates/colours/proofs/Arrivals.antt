-- The tries of a late thread are those of the order of a thread's steps.
use Rattle.std.proofs.Common.{◌≡◌, ℕ, ◌==◌, inl, inr, Bool, true, false, List, [], ◌∷◌, if◌then◌else◌, refl, sym, arith}
use Rattle.pools.specs.Heap.{Setup}
use Rattle.colours.specs.Colours.{done}
use Rattle.colours.specs.Steps.{Step, StoreStage, ReadPostedFirst, EnterStage, ReadPostedAgain}
use Rattle.colours.specs.Mutator.{Phase, Ready, Absent, Arriving as Comes, Entering, Leaving, MayFollow, phase_after}
use Rattle.colours.specs.Calls.{Beginning, Arriving, Checking, Steps, leaving, Makes, AreEntries, MakesExactly, EndsTry, IsTryToBegin}
use Rattle.colours.specs.Lists.{Silent, listed, list_made, list_entries}

module _ (s : Setup) (thread own : ℕ) where
  -- after the second look
  AfterLook : (entered : ℕ) → (same : Bool) → List Step → Type 0
  AfterLook entered same steps = EndsTry s entered (if same then Ready else Leaving) steps

  -- the list that is left is a try's end
  ends : (entered : ℕ) (same : Bool) (steps : List Step) → steps ≡ (if same then [] else StoreStage done [] ∷ []) → AfterLook entered same steps
  unfolding AfterLook
  ends entered true steps e = rw e refl
  ends entered false steps e = rw e (refl, (refl, refl), refl)

  -- and no other list is
  only_ends : (entered : ℕ) (same : Bool) (steps : List Step) → AfterLook entered same steps → steps ≡ (if same then [] else StoreStage done [] ∷ [])
  unfolding AfterLook
  only_ends entered true [] h = refl
  only_ends entered true (step ∷ steps) h = absurd (cc (h.0))
  only_ends entered false [] h = absurd (cc h)
  only_ends entered false (StoreStage next roots ∷ []) h = cc (h.1.0, h.1.1)
  only_ends entered false (StoreStage next roots ∷ step ∷ steps) h = absurd (cc (h.2.0))
  only_ends entered false (_ ∷ steps) h = absurd h.1

  -- what a thread finds makes it behave so
  only : (stage : ℕ) (found : List ℕ) (steps : List Step) → Makes thread own Beginning found steps → IsTryToBegin s stage steps
  unfolding AfterLook
  only stage [] [] h = absurd (cc h)
  only stage [] (step ∷ steps) h = absurd h
  only stage (p ∷ found) [] h = absurd h
  only stage (p ∷ []) (step ∷ []) h = absurd (cc (h.2))
  only stage (p ∷ []) (step ∷ x ∷ steps) h = absurd h.2
  only stage (p ∷ a ∷ found) (step ∷ []) h = absurd h.2
  only stage (p ∷ a ∷ []) (step ∷ x ∷ []) h = absurd (cc (h.2.2))
  only stage (p ∷ a ∷ []) (step ∷ x ∷ y ∷ steps) h = absurd h.2.2
  only stage (p ∷ a ∷ q ∷ found) (step ∷ x ∷ []) h = absurd h.2.2
  only stage (p ∷ a ∷ q ∷ found) (step ∷ x ∷ y ∷ steps) h =
      let last = ends p (q == p) steps (listed thread own (leaving p q) found steps h.2.2.2) in
      rw (h.1, h.2.1, h.2.2.1) (tt, (refl, refl, (refl, tt, last)))

  -- each step is that of its operation
  entries : (found : List ℕ) (steps : List Step) → Makes thread own Beginning found steps → AreEntries thread own Beginning found steps
  entries [] steps h = tt
  entries (p ∷ found) [] h = absurd h
  entries (p ∷ []) (step ∷ steps) h = rw (h.1) (refl, refl, tt)
  entries (p ∷ a ∷ found) (step ∷ []) h = absurd h.2
  entries (p ∷ a ∷ []) (step ∷ x ∷ steps) h = rw (h.1, h.2.1) (refl, refl, (refl, tt, tt))
  entries (p ∷ a ∷ q ∷ found) (step ∷ x ∷ []) h = absurd h.2.2
  entries (p ∷ a ∷ q ∷ found) (step ∷ x ∷ y ∷ steps) h =
      let last = list_entries thread own (leaving p q) (silent (q == p)) found steps h.2.2.2 in
      rw (h.1, h.2.1, h.2.2.1) (refl, refl, (refl, tt, (refl, refl, last)))
    where
      silent : (same : Bool) → Silent (if same then [] else StoreStage done [] ∷ [])
      silent true = tt
      silent false = (λ m. tt, tt)

  -- each list of the order is made
  each : (stage : ℕ) (steps : List Step) → IsTryToBegin s stage steps → (found : List ℕ) × Makes thread own Beginning found steps
  unfolding AfterLook
  each stage [] h = absurd h
  each stage (ReadPostedFirst p ∷ []) h = absurd (cc (h.1))
  each stage (ReadPostedFirst p ∷ EnterStage e ∷ []) h = absurd (cc (h.1.2))
  each stage (ReadPostedFirst p ∷ EnterStage e ∷ ReadPostedAgain q ∷ steps) h = go h.1.1 h.1.2.2
    where
      go : e ≡ p → EndsTry s e (if q == e then Ready else Leaving) steps → (found : List ℕ) × Makes thread own Beginning found (ReadPostedFirst p ∷ EnterStage e ∷ ReadPostedAgain q ∷ steps)
      go is last = rw (only_ends e (q == e) steps last, is) (
        p ∷ 0 ∷ q ∷ _,
        (λ x. absurd cc, refl, (λ x. absurd cc, refl, (λ x. absurd cc, refl, list_made thread own (leaving p q)))),
      )
  each stage (ReadPostedFirst p ∷ EnterStage e ∷ _ ∷ steps) h = absurd (h.1.2.1)
  each stage (ReadPostedFirst p ∷ _ ∷ steps) h = absurd (h.1.1)
  each stage (_ ∷ steps) h = absurd h.0

  pub begin_exact : (stage : ℕ) → MakesExactly thread own Beginning (IsTryToBegin s stage)
  begin_exact stage = record { only = only stage; entries = entries; each = each stage }
