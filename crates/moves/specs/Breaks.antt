-- The cause that shared words give for a move is the first by which the run breaks with it.
use Rattle.std.proofs.Common.{◌≡◌, ◌<◌, inl, inr, ℕ, Option, Some, None, List, [], ◌∷◌, MatchOption, refl, sym, ◌∙◌, subst, arith}
use Rattle.pools.specs.Heap.{Setup}
use Rattle.colours.specs.declared.place.Place.TheVariants.{Colour}
use Rattle.colours.specs.Colours.{done}
use Rattle.runs.specs.Machine.{WordValue, Machine}
use Rattle.runs.specs.Moves as moves
use Rattle.runs.specs.ModuleRuns.{Happening, OfThread}
use Rattle.runs.specs.Broken as broken
use Rattle.runs.specs.Broken.{IsBlue, IsReborn, IsGone, WentWrong, Touched, TouchedGone, used_by, Shows, GoesBefore}
use Rattle.moves.specs.declared.cause.Cause.{Cause}
use Rattle.moves.specs.declared.cause.Cause.TheVariants.{Wrong, TouchBlue, TouchBirth}
use Rattle.moves.specs.declared.moves.Move.{Move}
use Rattle.moves.specs.declared.moves.Move.TheVariants as made
use Rattle.moves.specs.declared.shared.Shared.{Shared}
use Rattle.moves.specs.Calls.{move_in}
use Rattle.moves.specs.Causes.{IsTouch, Breaks, IsStepCause}
use Rattle.moves.specs.Shared.{AreAfter}

-- a move by which a reference is used
by_touch : (s : Setup) (m : Machine) (starts : ℕ → m.State) (run : List Happening) (t : ℕ) (move : moves.Move) (used : WordValue) (shared : Shared) (cause : Option Cause)
    → used_by move ≡ Some used → ¬ WentWrong (OfThread t move ∷ run) → AreAfter s run shared → IsTouch shared used cause → IsStepCause s m starts (OfThread t move ∷ run) cause
by_touch s m starts run t move used shared cause e right b touch = go cause touch
  where
    out : (P : List Happening → WordValue → Type 0) → Touched P (OfThread t move ∷ run) → P run used
    out P x = subst (λ (o : Option WordValue). MatchOption o ⊥ (P run)) e x

    into : (P : List Happening → WordValue → Type 0) → P run used → Touched P (OfThread t move ∷ run)
    into P x = subst (λ (o : Option WordValue). MatchOption o ⊥ (P run)) (sym e) x

    IsBlueCell : ℕ → List Happening → WordValue → Type 0
    IsBlueCell cell before r = (r.cell ≡ cell) × IsBlue s before r

    IsRebornCell : ℕ → List Happening → WordValue → Type 0
    IsRebornCell cell before r = (r.cell ≡ cell) × IsReborn s before r

    none : IsTouch shared used None → ¬ TouchedGone s (OfThread t move ∷ run)
    none alive x = by_kind (out (IsGone s) x)
      where
        by_kind : IsGone s run used → ⊥
        by_kind (inl blue) = alive.0 (b.words (Colour used.cell) ∙ blue)
        by_kind (inr reborn) = reborn (sym (b.births used.cell) ∙ alive.1)

    less : (cell d : ℕ) → cell ≡ used.cell → used.cell ≡ d → d < cell → ⊥
    less cell d a f lt = omega (arith, a, f, lt)

    first_blue : (cell : ℕ) → IsTouch shared used (Some (TouchBlue cell)) → (c : broken.Cause) → GoesBefore c (broken.TouchBlue cell) → ¬ Shows s m starts (OfThread t move ∷ run) c
    first_blue cell touch broken.Wrong before x = right x
    first_blue cell touch (broken.TouchBlue d) (inl lt) x = absurd (omega (arith, lt))
    first_blue cell touch (broken.TouchBlue d) (inr lt) x = less cell d touch.0 (out (IsBlueCell d) x).0 lt.1
    first_blue cell touch (broken.TouchBirth d) (inl lt) x = absurd (omega (arith, lt))
    first_blue cell touch (broken.TouchBirth d) (inr lt) x = let same = lt.0 in absurd (omega (arith, same))
    first_blue cell touch (broken.ReachBlue d) (inl lt) x = absurd (omega (arith, lt))
    first_blue cell touch (broken.ReachBlue d) (inr lt) x = let same = lt.0 in absurd (omega (arith, same))
    first_blue cell touch (broken.ReachBirth d) (inl lt) x = absurd (omega (arith, lt))
    first_blue cell touch (broken.ReachBirth d) (inr lt) x = let same = lt.0 in absurd (omega (arith, same))

    first_birth : (cell : ℕ) → IsTouch shared used (Some (TouchBirth cell)) → (c : broken.Cause) → GoesBefore c (broken.TouchBirth cell) → ¬ Shows s m starts (OfThread t move ∷ run) c
    first_birth cell touch broken.Wrong before x = right x
    first_birth cell touch (broken.TouchBlue d) before x = touch.1 (b.words (Colour used.cell) ∙ (out (IsBlueCell d) x).1)
    first_birth cell touch (broken.TouchBirth d) (inl lt) x = absurd (omega (arith, lt))
    first_birth cell touch (broken.TouchBirth d) (inr lt) x = less cell d touch.0 (out (IsRebornCell d) x).0 lt.1
    first_birth cell touch (broken.ReachBlue d) (inl lt) x = absurd (omega (arith, lt))
    first_birth cell touch (broken.ReachBlue d) (inr lt) x = let same = lt.0 in absurd (omega (arith, same))
    first_birth cell touch (broken.ReachBirth d) (inl lt) x = absurd (omega (arith, lt))
    first_birth cell touch (broken.ReachBirth d) (inr lt) x = let same = lt.0 in absurd (omega (arith, same))

    go : (cause : Option Cause) → IsTouch shared used cause → IsStepCause s m starts (OfThread t move ∷ run) cause
    go None touch = (right, none touch)
    go (Some Wrong) touch = absurd touch
    go (Some (TouchBlue cell)) touch = record {
      shows = into (IsBlueCell cell) (sym touch.0, sym (b.words (Colour used.cell)) ∙ touch.1);
      first = first_blue cell touch;
    }
    go (Some (TouchBirth cell)) touch = record {
      shows = into (IsRebornCell cell) (sym touch.0, λ same. touch.2 (b.births used.cell ∙ same));
      first = first_birth cell touch;
    }

-- a move that uses none, and is not wrong
by_none : (s : Setup) (m : Machine) (starts : ℕ → m.State) (run : List Happening) (t : ℕ) (move : moves.Move)
    → used_by move ≡ None → ¬ WentWrong (OfThread t move ∷ run) → IsStepCause s m starts (OfThread t move ∷ run) None
by_none s m starts run t move e right = (right, λ x. subst (λ (o : Option WordValue). MatchOption o ⊥ (IsGone s run)) e x)

-- none goes before a thread that goes wrong
none_first : (c : broken.Cause) → GoesBefore c broken.Wrong → ⊥
none_first c (inl lt) = omega (arith, lt)
none_first c (inr lt) = let less = lt.1 in omega (arith, less)

-- each move
pub first_cause : (s : Setup) (m : Machine) (starts : ℕ → m.State) (run : List Happening) (t : ℕ) (roots : List WordValue) (shared : Shared) (move : Move) (cause : Option Cause)
    → AreAfter s run shared → Breaks shared move cause → IsStepCause s m starts (OfThread t (move_in roots move) ∷ run) cause
first_cause s m starts run t roots shared made.GoesWrong cause b x =
    subst (λ (c : Option Cause). IsStepCause s m starts (OfThread t moves.GoesWrong ∷ run) c) (sym x) (record { shows = tt; first = λ c before shown. none_first c before })
first_cause s m starts run t roots shared (made.ReadsWord base word value) cause b x = by_touch s m starts run t (moves.ReadsWord base word value) base shared cause refl (λ w. w) b x
first_cause s m starts run t roots shared (made.ReadsOldValue base word value) cause b x = by_touch s m starts run t (moves.ReadsOldValue base word value) base shared cause refl (λ w. w) b x
first_cause s m starts run t roots shared (made.StoresAfterBarrier base word value) cause b x = by_touch s m starts run t (moves.StoresAfterBarrier base word value) base shared cause refl (λ w. w) b x
first_cause s m starts run t roots shared (made.StoresPlain base word value) cause b x = by_touch s m starts run t (moves.StoresPlain base word value) base shared cause refl (λ w. w) b x
first_cause s m starts run t roots shared (made.Marks r) cause b x = by_touch s m starts run t (moves.Marks r) r shared cause refl (λ w. w) b x
first_cause s m starts run t roots shared made.Works cause b x =
    subst (λ (c : Option Cause). IsStepCause s m starts (OfThread t moves.Works ∷ run) c) (sym x) (by_none s m starts run t moves.Works refl (λ w. w))
first_cause s m starts run t roots shared (made.Claims r won) cause b x =
    subst (λ (c : Option Cause). IsStepCause s m starts (OfThread t (moves.Claims r won) ∷ run) c) (sym x) (by_none s m starts run t (moves.Claims r won) refl (λ w. w))
first_cause s m starts run t roots shared (made.ReadsPosted stage) cause b x =
    subst (λ (c : Option Cause). IsStepCause s m starts (OfThread t (moves.ReadsPosted stage) ∷ run) c) (sym x) (by_none s m starts run t (moves.ReadsPosted stage) refl (λ w. w))
first_cause s m starts run t roots shared (made.Answers stage) cause b x =
    subst (λ (c : Option Cause). IsStepCause s m starts (OfThread t (moves.StoresStage stage roots) ∷ run) c) (sym x) (by_none s m starts run t (moves.StoresStage stage roots) refl (λ w. w))
first_cause s m starts run t roots shared made.Ends cause b x =
    subst (λ (c : Option Cause). IsStepCause s m starts (OfThread t (moves.StoresStage done []) ∷ run) c) (sym x) (by_none s m starts run t (moves.StoresStage done []) refl (λ w. w))
first_cause s m starts run t roots shared (made.ReadsPostedFirst stage) cause b x =
    subst (λ (c : Option Cause). IsStepCause s m starts (OfThread t (moves.ReadsPostedFirst stage) ∷ run) c) (sym x) (by_none s m starts run t (moves.ReadsPostedFirst stage) refl (λ w. w))
first_cause s m starts run t roots shared (made.EntersStage stage) cause b x =
    subst (λ (c : Option Cause). IsStepCause s m starts (OfThread t (moves.EntersStage stage) ∷ run) c) (sym x) (by_none s m starts run t (moves.EntersStage stage) refl (λ w. w))
first_cause s m starts run t roots shared (made.ReadsPostedAgain stage) cause b x =
    subst (λ (c : Option Cause). IsStepCause s m starts (OfThread t (moves.ReadsPostedAgain stage) ∷ run) c) (sym x) (by_none s m starts run t (moves.ReadsPostedAgain stage) refl (λ w. w))
