-- What the roots of a thread's newest frames refer to, and which frames stay as they are.
use Rattle.std.proofs.Common.{◌≡◌, ℕ, List, [], ◌∷◌, ◌++◌, length, map, take, drop, Option, slice_get, inl, inr, refl, sym, ap, ◌∙◌, subst}
use Rattle.std.proofs.lemmas.List.{append-nil, append_assoc, map-append, take-append-drop}
use Rattle.lemmas.specs.Lists.{in_either, in_first, IsIn}
use Rattle.ir_ast.specs.declared.module.Module.{Module}
use Rattle.machine.specs.declared.frame.Frame.{Frame}
use Rattle.machine.specs.declared.value.Value.{Value}
use Rattle.machine.specs.Machine.{action, after_answer, frame_roots, frames_returned, roots_of, set_register}
use Rattle.moves.specs.RootsAfter.{AddsNewest}
use Rattle.runs.specs.Machine as runs
use Rattle.runs.specs.Machine.{WordValue}
use Rattle.program_safety.specs.Threads.{ProgramThread, goes_on, given_as, names, reference_in}
use Rattle.program_runner.specs.Steps.{by_step}

-- what the roots of some frames refer to
abbrev pub names_of : Module → List Frame → List WordValue
names_of m frames = map reference_in (roots_of m frames)

-- those of the newest two frames of a thread, or of fewer where there are fewer
abbrev pub newest : ProgramThread → List WordValue
newest t = names_of t.program.of_module (take 2 t.state.frames)

-- the oldest frames, this number of them, are the same
pub record AreKept (count : ℕ) (before after : List Frame) : Type 0 where
  pub kept : List Frame
  pub newest : List Frame
  pub others : List Frame
  pub before_is : before ≡ newest ++ kept
  pub after_is : after ≡ others ++ kept
  pub count_is : length kept ≡ count

module _ (m : Module) where
  -- the roots of older frames come before those of newer ones
  roots_above : (newer older : List Frame) → roots_of m (newer ++ older) ≡ roots_of m older ++ roots_of m newer
  roots_above [] older = sym (append-nil (roots_of m older))
  roots_above (frame ∷ newer) older =
      let own = frame_roots m frame (slice_get m.functions frame.function) in
      ap (λ (l : List Value). l ++ own) (roots_above newer older) ∙ append_assoc (roots_of m older) (roots_of m newer) own

  -- and so does what they refer to
  pub names_above : (newer older : List Frame) → names_of m (newer ++ older) ≡ names_of m older ++ names_of m newer
  names_above newer older = ap (map reference_in) (roots_above newer older) ∙ map-append reference_in (roots_of m older) (roots_of m newer)

  -- where all but the newest two frames were there, only the roots of these two are added
  added_above : (before after gone : List Frame) → before ≡ gone ++ drop 2 after → AddsNewest (names_of m before) (names_of m after) (names_of m (take 2 after))
  added_above before after gone is r found =
      let split = ap (names_of m) (sym (take-append-drop 2 after)) ∙ names_above (take 2 after) (drop 2 after) in
      elim (in_either r (names_of m (drop 2 after)) (names_of m (take 2 after)) (subst (IsIn r) split found)) [
        | inl older ↦ inl (subst (IsIn r) (sym (ap (names_of m) is ∙ names_above gone (drop 2 after))) (in_first r (names_of m (drop 2 after)) (names_of m gone) older))
        | inr newer ↦ inr newer
      ]

  module _ (frame : Frame) (below : List Frame) where
    -- the roots of these frames are those of this frame and of those below it, or those of their newest two
    abbrev Adds : (after : List Frame) → Type 0
    Adds after = AddsNewest (names_of m (frame ∷ below)) (names_of m after) (names_of m (take 2 after))

    -- one frame above others
    one_above : (own : Frame) → Adds (own ∷ below)
    one_above own = by below refl where
      by : (frames : List Frame) → below ≡ frames → Adds (own ∷ below)
      by [] e = added_above (frame ∷ below) (own ∷ below) (frame ∷ []) (rw e refl)
      by (caller ∷ rest) e = added_above (frame ∷ below) (own ∷ below) (frame ∷ caller ∷ []) (rw e refl)

    -- two above them
    two_above : (called caller : Frame) → Adds (called ∷ caller ∷ below)
    two_above called caller = added_above (frame ∷ below) (called ∷ caller ∷ below) (frame ∷ []) refl

    -- and a frame that takes a result
    returned_to : (into : Option ℕ) (result : Value) → Adds (frames_returned into result below)
    returned_to into result = by below refl where
      by : (frames : List Frame) → below ≡ frames → Adds (frames_returned into result below)
      by [] e = rw e (λ r is. absurd is)
      by (caller ∷ []) e = rw e (added_above (frame ∷ caller ∷ []) (set_register into result caller ∷ []) (frame ∷ caller ∷ []) refl)
      by (caller ∷ (other ∷ rest)) e = rw e (added_above (frame ∷ caller ∷ other ∷ rest) (set_register into result caller ∷ other ∷ rest) (frame ∷ caller ∷ other ∷ []) refl)

-- after an answer each root was there, or is one of the newest frames
pub thread_adds_newest : (t : ProgramThread) (given : runs.Answer) → AddsNewest (names t) (names (goes_on t given)) (newest (goes_on t given))
thread_adds_newest t given = by t.state.frames where
  by : (frames : List Frame) → (let after = (after_answer t.program (record { frames = frames }) (given_as t.heap t.values (action t.program t.state) given)).frames in
      AddsNewest (names_of t.program.of_module frames) (names_of t.program.of_module after) (names_of t.program.of_module (take 2 after)))
  by [] = λ r is. absurd is
  by (frame ∷ below) = by_step t.program frame below (given_as t.heap t.values (action t.program t.state) given) (Adds t.program.of_module frame below) (one_above t.program.of_module frame below) (two_above t.program.of_module frame below) (returned_to t.program.of_module frame below)
      (slice_get t.program.of_module.functions frame.function) (λ ends r is. absurd is)
