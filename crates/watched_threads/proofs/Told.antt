-- What is told of the threads that the loop went over so far.
use Rattle.std.proofs.Common.{◌≡◌, ◌<◌, ◌⊎◌, inl, inr, ℕ, zero, suc, List, [], ◌∷◌, ◌++◌, length, Some, slice_get, refl, sym, ap, subst, ◌∙◌, arith}
use Rattle.machine.specs.declared.frame.Frame.{Frame}
use Rattle.machine.specs.declared.frame_place.FramePlace.{FramePlace}
use Rattle.machine.specs.Machine.{State}
use Rattle.mutators.specs.declared.thread_end.ThreadEnd.{ThreadEnd}
use Rattle.program_runner.specs.Threads.{ProgramThread}
use Rattle.watched_serving.specs.declared.beside.WatchedJob.{WatchedJob}
use Rattle.watched_threads.specs.Ends.{StandsAt, EndedSo, EndedBefore}

-- the newest frame is at the place that is told of frame 0
pub stands : (frames : List Frame) (state : State) (at : FramePlace) → state.frames ≡ frames → 0 < length frames
    → ((of : Frame) → slice_get frames 0 ≡ Some of → (at.function ≡ of.function) × (at.block ≡ of.block) × (at.place ≡ of.place)) → StandsAt state at
stands [] state at is some named = absurd (omega arith)
stands (frame ∷ below) state at is some named = let n = named frame refl in record { frame = frame; below = below; newest = is; function = n.0; block = n.1; place = n.2 }

-- what was there is there in a list with one more
get_there : {A : Type 0} (xs : List A) (y : A) (u : ℕ) (x : A) → slice_get xs u ≡ Some x → slice_get (xs ++ y ∷ []) u ≡ Some x
get_there [] y u x e = absurd cc
get_there (z ∷ xs) y zero x e = e
get_there (z ∷ xs) y (suc u) x e = get_there xs y u x e

-- and the one more is the last
get_last : {A : Type 0} (xs : List A) (y : A) (u : ℕ) → length xs ≡ u → slice_get (xs ++ y ∷ []) u ≡ Some y
get_last [] y zero e = refl
get_last [] y (suc u) e = absurd (omega arith)
get_last (z ∷ xs) y zero e = absurd (omega arith)
get_last (z ∷ xs) y (suc u) e = get_last xs y u (omega arith)

-- a number below the next one is below this one, or is this one
below_next : (u t : ℕ) → u < suc t → (u < t) ⊎ (u ≡ t)
below_next zero zero lt = inr refl
below_next zero (suc t) lt = inl (omega arith)
below_next (suc u) zero lt = absurd (omega arith)
below_next (suc u) (suc t) lt = elim (below_next u t (omega arith)) [
  | inl l ↦ inl (omega arith)
  | inr e ↦ inr (ap suc e)
]

-- the end of one thread more
pub one_end_more : (jobs : List (WatchedJob ProgramThread)) (ends : List ThreadEnd) (t : ℕ) (job : WatchedJob ProgramThread) (end : ThreadEnd) → EndedBefore jobs ends t → length ends ≡ t → slice_get jobs t ≡ Some job → EndedSo job end
    → EndedBefore jobs (ends ++ end ∷ []) (suc t)
one_end_more jobs ends t job end before many at so u other lt there = elim (below_next u t lt) [
  | inl l ↦ let was = before u other l there in (was.0, get_there ends end u was.0 was.1, was.2)
  | inr e ↦
      let same : Some job ≡ Some other = sym at ∙ (ap (slice_get jobs) (sym e) ∙ there) in
      let is : job ≡ other = cc in
      (end, get_last ends end u (many ∙ sym e), subst (λ (q : WatchedJob ProgramThread). EndedSo q end) is so)
]

-- of no thread
pub no_ends : (jobs : List (WatchedJob ProgramThread)) (ends : List ThreadEnd) → EndedBefore jobs ends 0
no_ends jobs ends u other lt there = absurd (omega arith)
