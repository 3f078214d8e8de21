-- What the roots of a thread's frames refer to, compared with a list frame by frame, the newest first.
use Rattle.std.proofs.Common.{◌≡◌, ◌≢◌, ◌<◌, ◌≤◌, ◌+◌, ◌++◌, ◌↔◌, ℕ, zero, suc, List, [], ◌∷◌, Some, slice_get, length, take, drop, map, refl, sym, ap, ◌∙◌, arith}
use Rattle.std.proofs.lemmas.List.{map-append, append_cancel_right, length-take-le}
use Rattle.ir_ast.specs.declared.module.Module.{Module}
use Rattle.machine.specs.declared.frame.Frame.{Frame}
use Rattle.machine.specs.Machine.{frame_roots, roots_of}
use Rattle.runs.specs.Machine.{WordValue}
use Rattle.program_safety.specs.Threads.{reference_in}
use Rattle.program_runner.specs.Newest.{names_of}

-- a place of a list holds an element
there : {X : Type 0} (xs : List X) (n : ℕ) → n < length xs → (x : X) × (slice_get xs n ≡ Some x) × (drop n xs ≡ x ∷ drop (n + 1) xs)
there [] n lt = absurd (omega (arith, lt))
there (x ∷ xs) zero lt = (x, refl, refl)
there (x ∷ xs) (suc n) lt =
    let later = there xs n (omega (arith, lt)) in
    let place : suc (n + 1) ≡ suc n + 1 = omega arith in
    (later.0, later.1, later.2 ∙ ap (λ k. later.0 ∷ drop k (x ∷ xs)) place)

-- what the first places of a list hold is what the list does
first_get : {X : Type 0} (xs : List X) (count n : ℕ) → n < count → slice_get (take count xs) n ≡ slice_get xs n
first_get xs zero n lt = absurd (omega (arith, lt))
first_get [] (suc count) n lt = refl
first_get (x ∷ xs) (suc count) zero lt = refl
first_get (x ∷ xs) (suc count) (suc n) lt = first_get xs count n (omega (arith, lt))

-- one of the first places does
pub there_first : {X : Type 0} (xs : List X) (count n : ℕ) → count ≤ length xs → n < count → (x : X) × (slice_get xs n ≡ Some x) × (drop n (take count xs) ≡ x ∷ drop (n + 1) (take count xs))
there_first xs count n few lt =
    let all = length-take-le count xs few in
    let at = there (take count xs) n (omega (arith, all, lt)) in
    (at.0, sym (first_get xs count n lt) ∙ at.1, at.2)

module _ (m : Module) where
  -- what the roots of a frame refer to
  abbrev pub own_names : Frame → List WordValue
  own_names frame = map reference_in (frame_roots m frame (slice_get m.functions frame.function))

  -- frames hold this list exactly if those from one on hold the rest of it
  abbrev pub IsRest : (frames : List Frame) (roots : List WordValue) (n : ℕ) (rest : List WordValue) → Type 0
  IsRest frames roots n rest = (names_of m frames ≡ roots) ↔ (names_of m (drop n frames) ≡ rest)

  -- those from one on hold what those below it do, and its own roots
  pub names_from : (frames : List Frame) (n : ℕ) (frame : Frame) → drop n frames ≡ frame ∷ drop (n + 1) frames → names_of m (drop n frames) ≡ names_of m (drop (n + 1) frames) ++ own_names frame
  names_from frames n frame is =
      ap (names_of m) is ∙ map-append reference_in (roots_of m (drop (n + 1) frames)) (frame_roots m frame (slice_get m.functions frame.function))

  -- with one frame more compared
  pub rest_before : (frames : List Frame) (roots : List WordValue) (n : ℕ) (rest before : List WordValue) (frame : Frame) → drop n frames ≡ frame ∷ drop (n + 1) frames
      → IsRest frames roots n rest → rest ≡ before ++ own_names frame → IsRest frames roots (n + 1) before
  rest_before frames roots n rest before frame there is ends = (
    (λ same. append_cancel_right (names_of m (drop (n + 1) frames)) before (own_names frame) (sym (names_from frames n frame there) ∙ is.0 same ∙ ends)),
    (λ same. is.1 (names_from frames n frame there ∙ ap (λ l. l ++ own_names frame) same ∙ sym ends)),
  )

  -- where the rest does not end with the frame's roots, the frames hold another list
  pub no_rest : (frames : List Frame) (roots : List WordValue) (n : ℕ) (rest : List WordValue) (frame : Frame) → drop n frames ≡ frame ∷ drop (n + 1) frames
      → IsRest frames roots n rest → ((before : List WordValue) → rest ≢ before ++ own_names frame) → names_of m frames ≢ roots
  no_rest frames roots n rest frame there is other same = other (names_of m (drop (n + 1) frames)) (sym (is.0 same) ∙ names_from frames n frame there)
