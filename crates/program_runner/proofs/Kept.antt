-- An answer at which a thread goes on changes the two newest frames alone, and what is told of the roots above the others is so of all.
use Rattle.std.proofs.Common.{◌≡◌, ◌≤◌, ◌-◌, ℕ, List, [], ◌∷◌, ◌++◌, length, take, slice_get, refl, sym, ap, ◌∙◌, subst, arith}
use Rattle.std.proofs.lemmas.List.{append-nil, append_cancel_left, length-append, take_at}
use Rattle.ir_ast.specs.declared.module.Module.{Module}
use Rattle.layout.specs.Layouts.{LaidOut}
use Rattle.machine.specs.declared.answer.Answer.{Answer}
use Rattle.machine.specs.declared.frame.Frame.{Frame}
use Rattle.machine.specs.Machine.{State, action, after_answer, set_register}
use Rattle.moves.specs.declared.roots_after.RootsAfter.{RootsAfter}
use Rattle.moves.specs.declared.roots_after.RootsAfter.TheVariants.{Same, Others}
use Rattle.moves.specs.RootsAfter.{IsToldOfRoots}
use Rattle.program_runner.specs.Steps.{MayEnd, by_step}
use Rattle.program_runner.specs.Newest.{names_of, AreKept, names_above}

-- none need be the same
pub none_kept : (count : ℕ) (before after : List Frame) → count ≡ 0 → AreKept count before after
none_kept count before after e = record {
  kept = [];
  newest = before;
  others = after;
  before_is = sym (append-nil before);
  after_is = sym (append-nil after);
  count_is = sym e;
}

-- those below two frames, after others
two_changed : (frame caller : Frame) (rest others : List Frame) → AreKept (length (frame ∷ caller ∷ rest) - 2) (frame ∷ caller ∷ rest) (others ++ rest)
two_changed frame caller rest others = record {
  kept = rest;
  newest = frame ∷ caller ∷ [];
  others = others;
  before_is = refl;
  after_is = refl;
  count_is = omega arith;
}

-- those below the newest two
pub goes_on_above : (p : LaidOut) (state : State) (given : Answer) → (MayEnd (action p state) → ⊥) → AreKept (length state.frames - 2) state.frames (after_answer p state given).frames
goes_on_above p state given goes = by state.frames goes where
  by : (frames : List Frame) → (MayEnd (action p (record { frames = frames })) → ⊥) → AreKept (length frames - 2) frames (after_answer p (record { frames = frames }) given).frames
  by [] not = none_kept 0 [] [] refl
  by (frame ∷ []) not = none_kept 0 (frame ∷ []) (after_answer p (record { frames = frame ∷ [] }) given).frames refl
  by (frame ∷ (caller ∷ rest)) not =
      by_step p frame (caller ∷ rest) given (λ after. AreKept (length (frame ∷ caller ∷ rest) - 2) (frame ∷ caller ∷ rest) after)
      (λ own. two_changed frame caller rest (own ∷ caller ∷ []))
      (λ called above. two_changed frame caller rest (called ∷ above ∷ caller ∷ []))
      (λ into result. two_changed frame caller rest (set_register into result caller ∷ []))
      (slice_get p.of_module.functions frame.function) (λ ends. absurd (not ends))

-- the frames above those that are kept
above_kept : (count : ℕ) (frames own kept : List Frame) → frames ≡ own ++ kept → length kept ≡ count → take (length frames - count) frames ≡ own
above_kept count frames own kept is many =
    let long : length frames - count ≡ length own = let both = ap length is ∙ length-append own kept in omega (arith, both, many) in
    ap (λ n. take n frames) long ∙ ap (take (length own)) is ∙ take_at own kept (length own) refl

-- this number of frames is there, before and after
pub kept_there : (count : ℕ) (before after : List Frame) → AreKept count before after → (count ≤ length before) × (count ≤ length after)
kept_there count before after k =
    let first = ap length k.before_is ∙ length-append k.newest k.kept in
    let second = ap length k.after_is ∙ length-append k.others k.kept in
    let many = k.count_is in
    (omega (arith, first, many), omega (arith, second, many))

-- what is told of the roots above those frames is so of all roots
pub told_of_all : (m : Module) (count : ℕ) (before after : List Frame) (told : RootsAfter) → AreKept count before after
    → IsToldOfRoots told (names_of m (take (length before - count) before)) (names_of m (take (length after - count) after)) → IsToldOfRoots told (names_of m before) (names_of m after)
told_of_all m count before after told k is = by told (subst (λ l. IsToldOfRoots told (names_of m l) (names_of m k.others)) old (subst (λ l. IsToldOfRoots told (names_of m (take (length before - count) before)) (names_of m l)) new is)) where
  old : take (length before - count) before ≡ k.newest
  old = above_kept count before k.newest k.kept k.before_is k.count_is

  new : take (length after - count) after ≡ k.others
  new = above_kept count after k.others k.kept k.after_is k.count_is

  first : names_of m before ≡ names_of m k.kept ++ names_of m k.newest
  first = ap (names_of m) k.before_is ∙ names_above m k.newest k.kept

  second : names_of m after ≡ names_of m k.kept ++ names_of m k.others
  second = ap (names_of m) k.after_is ∙ names_above m k.others k.kept

  by : (v : RootsAfter) → IsToldOfRoots v (names_of m k.newest) (names_of m k.others) → IsToldOfRoots v (names_of m before) (names_of m after)
  by Same same = second ∙ ap (λ l. names_of m k.kept ++ l) same ∙ sym first
  by Others other = λ same. other (append_cancel_left (names_of m k.kept) (names_of m k.others) (names_of m k.newest) (sym second ∙ same ∙ first))
