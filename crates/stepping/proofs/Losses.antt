-- A step that frees nothing, stores no reference, begins no thread and leaves the roots of its thread unchanged loses nothing.
use Rattle.std.proofs.Common.{◌≡◌, ◌≢◌, ◌==◌, ◌&&◌, inl, inr, ℕ, Bool, true, false, Option, Some, None, List, ◌∷◌, if◌then◌else◌, refl, sym, ap, subst, ◌∙◌, MatchOption, arith}
use Rattle.lemmas.specs.Numbers.{test_true, test_no, raised, exchanged}
use Rattle.lemmas.specs.Lists.{IsIn}
use Rattle.pools.specs.Heap.{Setup}
use Rattle.colours.specs.declared.place.Place.TheVariants.{Colour, Word}
use Rattle.colours.specs.declared.turn.Turn.TheVariants.{MarkFound, Blacken, ClearWord, Free}
use Rattle.colours.specs.Colours.{mark_at, claim_at, grey, black, cycle_of}
use Rattle.colours.specs.Steps as step
use Rattle.colours.specs.Steps.{Step}
use Rattle.colours.specs.Mutator.{Phase, Ended, Absent, Arriving, Entering, Leaving, stage_of, phase_of, phase_after, MayFollow}
use Rattle.colours.specs.Collector.{posted_of}
use Rattle.colours.specs.Runs.{word_after, births_after, log_of, turns_of}
use Rattle.runs.specs.Machine.{WordValue, Machine}
use Rattle.runs.specs.Moves.{Move, Marks, StoresAfterBarrier, StoresPlain, Claims, ReadsPostedAgain, step_of, logged, steps_of, state_after, Follows}
use Rattle.runs.specs.ModuleRuns.{Happening, OfThread, OfCollector, share_of, heap_of, birth_of, birth_in, IsNext, IsModuleRun}
use Rattle.runs.specs.Broken.{IsUnderWay, IsRoot, globals, from, further, IsReachable, IsGone}
use Rattle.stepping.specs.Reach.{AddsNothing, LosesNothing}

-- the step frees no cell, stores no reference and begins no thread
abbrev pub AddsAndFreesNothing : Happening → Type 0
AddsAndFreesNothing (OfThread t move) = AddsNothing move
AddsAndFreesNothing (OfCollector (Free cell)) = ⊥
AddsAndFreesNothing (OfCollector turn) = Unit {0}

pub adds-nothing : (s : Setup) (m : Machine) (starts : ℕ → m.State) (run : List Happening) (happening : Happening) → LosesNothing s m starts run happening → AddsAndFreesNothing happening
adds-nothing s m starts run (OfThread t move) loses = loses.0
adds-nothing s m starts run (OfCollector (Free cell)) loses = loses
adds-nothing s m starts run (OfCollector turn) loses = tt

-- ---- words

-- the word of a cell holds a number that is not 0, so it is as it was, and so is its birth
abbrev pub IsAsItWas : Setup → List Happening → Happening → (cell word : ℕ) → Type 0
IsAsItWas s run happening cell word =
    word_after s (heap_of (happening ∷ run)) (Word cell word) ≢ 0
    → (word_after s (heap_of (happening ∷ run)) (Word cell word) ≡ word_after s (heap_of run) (Word cell word)) × (birth_in (happening ∷ run) cell word ≡ birth_in run cell word)

-- after a store of null or 0
stored-none : (b : Bool) (value was birth other : ℕ) → value ≡ 0 → (if b then value else was) ≢ 0 → ((if b then value else was) ≡ was) × ((if b then birth else other) ≡ other)
stored-none true value was birth other z n = absurd (n z)
stored-none false value was birth other z n = (refl, refl)

pub word-stays : (s : Setup) (run : List Happening) (happening : Happening) → AddsAndFreesNothing happening → (cell word : ℕ) → IsAsItWas s run happening cell word
unfolding word_after
word-stays s run (OfThread t (StoresAfterBarrier base place value)) quiet cell word n =
    stored-none ((base.cell == cell) && (place == word)) value.cell (word_after s (heap_of run) (Word cell word)) value.birth (birth_in run cell word) quiet n
word-stays s run (OfThread t (StoresPlain base place value)) quiet cell word n =
    stored-none ((base.cell == cell) && (place == word)) value.cell (word_after s (heap_of run) (Word cell word)) value.birth (birth_in run cell word) quiet n
word-stays s run (OfThread t move) quiet cell word n = (refl, refl)
word-stays s run (OfCollector (ClearWord of place)) quiet cell word n =
    stored-none ((of == cell) && (place == word)) 0 (word_after s (heap_of run) (Word cell word)) 0 (birth_in run cell word) refl n
word-stays s run (OfCollector turn) quiet cell word n = (refl, refl)

-- ---- colours

blackened : (b : Bool) (was cycle : ℕ) → was ≢ 0 → (if b then black cycle else was) ≢ 0
blackened true was cycle n = λ z. absurd (omega (arith, z))
blackened false was cycle n = n

-- the step frees no cell
abbrev pub KeepsClaims : Happening → Type 0
KeepsClaims (OfCollector (Free cell)) = ⊥
KeepsClaims happening = Unit {0}

pub nothing-freed : (happening : Happening) → AddsAndFreesNothing happening → KeepsClaims happening
nothing-freed (OfThread t move) quiet = tt
nothing-freed (OfCollector (Free cell)) quiet = quiet
nothing-freed (OfCollector turn) quiet = tt

-- a cell that is not free stays so
pub stays-claimed : (s : Setup) (run : List Happening) (happening : Happening) → KeepsClaims happening → (cell : ℕ) → word_after s (heap_of run) (Colour cell) ≢ 0 → word_after s (heap_of (happening ∷ run)) (Colour cell) ≢ 0
unfolding word_after
stays-claimed s run (OfThread t (Marks r)) keeps cell n = raised (r.cell == cell) (word_after s (heap_of run) (Colour cell)) (mark_at (stage_of (log_of t (heap_of run)))) n
stays-claimed s run (OfThread t (Claims r won)) keeps cell n = exchanged (r.cell == cell) (word_after s (heap_of run) (Colour cell)) (claim_at (stage_of (log_of t (heap_of run)))) n
stays-claimed s run (OfThread t move) keeps cell n = n
stays-claimed s run (OfCollector (MarkFound of colour)) keeps cell n = raised (of == cell) (word_after s (heap_of run) (Colour cell)) (grey (cycle_of (posted_of (turns_of (heap_of run))))) n
stays-claimed s run (OfCollector (Blacken of)) keeps cell n = blackened (of == cell) (word_after s (heap_of run) (Colour cell)) (cycle_of (posted_of (turns_of (heap_of run)))) n
stays-claimed s run (OfCollector (Free of)) keeps cell n = absurd keeps
stays-claimed s run (OfCollector turn) keeps cell n = n

-- ---- births

-- a cell that is not free is not claimed
pub same-birth : (s : Setup) (m : Machine) (starts : ℕ → m.State) (run : List Happening) (happening : Happening) → IsNext s m starts run happening → (cell : ℕ) → word_after s (heap_of run) (Colour cell) ≢ 0
    → birth_of s (happening ∷ run) cell ≡ birth_of s run cell
unfolding births_after
same-birth s m starts run (OfThread t (Claims r true)) next cell n = rw (test_no cell r.cell other) refl
  where
    other : cell ≢ r.cell
    other is =
        let here : word_after s (heap_of run) (Colour r.cell) ≢ 0 = subst (λ c. word_after s (heap_of run) (Colour c) ≢ 0) is n in
        let free : true ≡ (word_after s (heap_of run) (Colour r.cell) == 0) = next.2.2 in
        let held : (word_after s (heap_of run) (Colour r.cell) == 0) ≡ false = test_no (word_after s (heap_of run) (Colour r.cell)) 0 here in
        let clash : true ≡ false = free ∙ held in
        absurd cc
same-birth s m starts run (OfThread t (Claims r false)) next cell n = refl
same-birth s m starts run (OfThread t move) next cell n = refl
same-birth s m starts run (OfCollector turn) next cell n = refl

-- ---- roots

-- the step is not the one after which a late thread has begun
abbrev pub IsNoBegin : Step → Type 0
IsNoBegin (step.ReadPostedAgain stage) = ⊥
IsNoBegin step = Unit {0}

no-begin : (move : Move) → AddsNothing move → MatchOption (step_of move) (Unit {0}) IsNoBegin
no-begin (ReadsPostedAgain stage) adds = adds
no-begin move adds = tt

-- a thread that is under way after such a step was so before it
under_way-before : (s : Setup) (stage : ℕ) (phase : Phase) (made : Step) → IsNoBegin made → MayFollow s stage phase made → IsUnderWay (phase_after s stage phase made) → IsUnderWay phase
under_way-before s stage Absent (step.ReadPostedFirst posted) no_begin follows way = absurd way
under_way-before s stage Absent made no_begin follows way = absurd follows
under_way-before s stage (Arriving posted) (step.EnterStage next) no_begin follows way = absurd way
under_way-before s stage (Arriving posted) made no_begin follows way = absurd follows
under_way-before s stage Entering (step.ReadPostedAgain posted) no_begin follows way = absurd no_begin
under_way-before s stage Entering made no_begin follows way = absurd follows
under_way-before s stage Leaving (step.StoreStage next roots) no_begin follows way = absurd way
under_way-before s stage Leaving made no_begin follows way = absurd follows
under_way-before s stage Ended made no_begin follows way = absurd follows
under_way-before s stage phase made no_begin follows way = tt

-- the same for its move
pub was-under_way : (s : Setup) (t : ℕ) (log : List Step) (o : Option Step) → MatchOption o (Unit {0}) IsNoBegin → Follows s t log o → IsUnderWay (phase_of s t (logged o log)) → IsUnderWay (phase_of s t log)
was-under_way s t log None no_begin follows way = way
was-under_way s t log (Some made) no_begin follows way = under_way-before s (stage_of log) (phase_of s t log) made no_begin follows way

-- a root after the step was one before it
pub root-before : (s : Setup) (m : Machine) (starts : ℕ → m.State) (run : List Happening) (happening : Happening) → IsNext s m starts run happening → LosesNothing s m starts run happening
    → (r : WordValue) → IsRoot s m starts (happening ∷ run) r → IsRoot s m starts run r
root-before s m starts run (OfCollector turn) next loses r is = record { thread = is.thread; is_thread = is.is_thread; is_under_way = is.is_under_way; is_root = is.is_root }
root-before s m starts run (OfThread t move) next loses r is = go (t == is.thread) refl is.is_under_way is.is_root
  where
    own : IsUnderWay (phase_of s t (steps_of (move ∷ share_of t run))) → IsIn r (m.roots (state_after s m t (starts t) (move ∷ share_of t run))) → IsRoot s m starts run r
    own way is_root = record {
      thread = t;
      is_thread = next.0;
      is_under_way = was-under_way s t (steps_of (share_of t run)) (step_of move) (no-begin move loses.0) next.1.0 way;
      is_root = subst (λ (rs : List WordValue). IsIn r rs) loses.1 is_root;
    }

    go : (b : Bool) → (t == is.thread) ≡ b → IsUnderWay (phase_of s is.thread (steps_of (if b then move ∷ share_of is.thread run else share_of is.thread run)))
        → IsIn r (m.roots (state_after s m is.thread (starts is.thread) (if b then move ∷ share_of is.thread run else share_of is.thread run))) → IsRoot s m starts run r
    go true e way is_root =
        subst (λ (u : ℕ). IsUnderWay (phase_of s u (steps_of (move ∷ share_of u run))) → IsIn r (m.roots (state_after s m u (starts u) (move ∷ share_of u run))) → IsRoot s m starts run r)
        (test_true t is.thread e) own way is_root
    go false e way is_root = record { thread = is.thread; is_thread = is.is_thread; is_under_way = way; is_root = is_root }

-- ---- what can be reached

-- what can be reached after the step could be reached before it
reached-before : (s : Setup) (m : Machine) (starts : ℕ → m.State) (run : List Happening) (happening : Happening) → IsNext s m starts run happening → LosesNothing s m starts run happening
    → (r : WordValue) → IsReachable s m starts (happening ∷ run) r → IsReachable s m starts run r
reached-before s m starts run happening next loses _ globals = globals
reached-before s m starts run happening next loses _ (from r is_root n) = from r (root-before s m starts run happening next loses r is_root) n
reached-before s m starts run happening next loses _ (further r word reached is n) =
    let before = reached-before s m starts run happening next loses r reached in
    let same = word-stays s run happening (adds-nothing s m starts run happening loses) r.cell word n in
    let whole : (record { cell = word_after s (heap_of run) (Word r.cell word); birth = birth_in run r.cell word }) ≡ (record { cell = word_after s (heap_of (happening ∷ run)) (Word r.cell word); birth = birth_in (happening ∷ run) r.cell word })
    = sym (ap (λ c. record { cell = c; birth = birth_in (happening ∷ run) r.cell word }) same.0 ∙ ap (λ b. record { cell = word_after s (heap_of run) (Word r.cell word); birth = b }) same.1) in
    subst (λ (q : WordValue). IsReachable s m starts run q) whole (further r word before is (λ z. n (same.0 ∙ z)))

-- where nothing that is gone could be reached, nothing can be after the step
pub nothing-lost : (s : Setup) (m : Machine) (starts : ℕ → m.State) (run : List Happening) (happening : Happening) → IsModuleRun s m starts (happening ∷ run) → LosesNothing s m starts run happening
    → ((r : WordValue) → IsReachable s m starts run r → ¬ IsGone s run r) → (r : WordValue) → IsReachable s m starts (happening ∷ run) r → ¬ IsGone s (happening ∷ run) r
nothing-lost s m starts run happening is_run loses none r reached gone =
    let next = is_run.1 in
    let before = reached-before s m starts run happening next loses r reached in
    let not_free : word_after s (heap_of run) (Colour r.cell) ≢ 0 = λ z. none r before (inl z) in
    elim gone [
      | inl free ↦ stays-claimed s run happening (nothing-freed happening (adds-nothing s m starts run happening loses)) r.cell not_free free
      | inr reborn ↦ none r before (inr (λ e. reborn (same-birth s m starts run happening next r.cell not_free ∙ e)))
    ]
