-- A setup with numbers from outside that a seed draws is one of the program where the setup is, and begins as well.
use Rattle.std.proofs.Common.{◌≡◌, ◌<◌, ◌≤◌, ◌+◌, ◌^◌, ℕ, zero, suc, Bool, true, false, List, [], ◌∷◌, ◌++◌, Option, Some, None, length, slice_get, take, refl, sym, ap, subst, ◌∙◌, arith, true≢false}
use Rattle.std.specs.Prelude.{◌&&◌}
use Rattle.std.specs.List.{AllByRecursion}
use Rattle.lemmas.specs.All.{all_join}
use Rattle.lemmas.specs.Bools.{and_parts}
use Rattle.layout.specs.Layouts.{LaidOut}
use Rattle.certs.specs.declared.section.Section.{Section}
use Rattle.block_rules.specs.Promises.{promises_in}
use Rattle.machine.specs.Start.{StartsByReference, StartsWrongly}
use Rattle.trace_text.specs.Traces.{IsStartOf, IsTraceOf}
use Rattle.trace_text.specs.declared.trace.Setup.{Setup}
use Rattle.trace_text.specs.declared.trace.Start.{Start}
use Rattle.trace_text.specs.declared.trace.Trace.{Trace}
use Rattle.program_runner.specs.Threads.{MeetPromises}
use Rattle.program_runner.specs.Setups.{MayBegin, MayBeginBefore, IsSetupOf, IsSetupFault, HasNoFault, IsCertifiedSetup, IsSafeSetup, CertifiedSetupIsSafe}
use Rattle.program_runner.specs.declared.setup_fault.SetupFault.{SetupFault}
use Rattle.program_runner.specs.declared.setup_fault.SetupFault.TheVariants.{WrongArguments, ReferenceParameter, Memory}
use Rattle.replay.specs.Lists.{IsSoundList, IsFirstBreak}
use Rattle.replay.specs.Soaks.{actors_drawn, IsEndOfSeed}
use Rattle.replay.specs.declared.outcome.Break.{Break}
use Rattle.replay.specs.DrawnValues.{values_drawn, start_drawn, starts_drawn, setup_drawn, setup_by, setup_of_seed}
use Rattle.replay.proofs.DrawnNumbers.{values_below}

-- ---- lists of starts

-- as many
pub length-drawn : (seed thread : ℕ) (starts : List Start) → length (starts_drawn seed thread starts) ≡ length starts
length-drawn seed thread [] = refl
length-drawn seed thread (start ∷ more) = ap suc (length-drawn seed (suc thread) more)

-- those of two lists
drawn-append : (seed thread : ℕ) (starts : List Start) (last : Start) → starts_drawn seed thread (starts ++ last ∷ []) ≡ starts_drawn seed thread starts ++ start_drawn seed (thread + length starts) last ∷ []
drawn-append seed thread [] last =
    let same : thread ≡ thread + 0 = omega arith in
    ap (λ n. start_drawn seed n last ∷ []) same
drawn-append seed thread (start ∷ more) last =
    let same : suc thread + length more ≡ thread + suc (length more) = omega arith in
    ap (λ l. start_drawn seed thread start ∷ l) (drawn-append seed (suc thread) more last ∙ ap (λ n. starts_drawn seed (suc thread) more ++ start_drawn seed n last ∷ []) same)

-- with one start more
pub drawn-more : (seed : ℕ) (starts : List Start) (last : Start) (thread : ℕ) → thread ≡ length starts → starts_drawn seed 0 (starts ++ last ∷ []) ≡ starts_drawn seed 0 starts ++ start_drawn seed thread last ∷ []
drawn-more seed starts last thread is =
    let same : 0 + length starts ≡ thread = omega (arith, is) in
    drawn-append seed 0 starts last ∙ ap (λ n. starts_drawn seed 0 starts ++ start_drawn seed n last ∷ []) same

-- where a start is, there is the one with drawn numbers
drawn_at : (seed thread : ℕ) (starts : List Start) (t : ℕ) (begun : Start) → slice_get starts t ≡ Some begun → (u : ℕ) × (slice_get (starts_drawn seed thread starts) t ≡ Some (start_drawn seed u begun))
drawn_at seed thread [] t begun at = absurd cc
drawn_at seed thread (start ∷ more) zero begun at = (thread, ap (λ (s : Start). Some (start_drawn seed thread s)) (some_is start begun at))
  where
    some_is : (x y : Start) → Some x ≡ Some y → x ≡ y
    some_is x y e = cc
drawn_at seed thread (start ∷ more) (suc t) begun at = drawn_at seed (suc thread) more t begun at

-- and where that one is, there is a start
given_at : (seed thread : ℕ) (starts : List Start) (t : ℕ) (drawn : Start) → slice_get (starts_drawn seed thread starts) t ≡ Some drawn → (begun : Start) × (u : ℕ) × (slice_get starts t ≡ Some begun) × (drawn ≡ start_drawn seed u begun)
given_at seed thread [] t drawn at = absurd cc
given_at seed thread (start ∷ more) zero drawn at = (start, thread, refl, sym (some_is (start_drawn seed thread start) drawn at))
  where
    some_is : (x y : Start) → Some x ≡ Some y → x ≡ y
    some_is x y e = cc
given_at seed thread (start ∷ more) (suc t) drawn at = given_at seed (suc thread) more t drawn at

-- ---- a setup of the program

-- each of the starts is one of the program
are_starts : (p : LaidOut) (seed thread : ℕ) (starts : List Start) → p.of_module.wide ≡ true → AllByRecursion (IsStartOf p) starts → AllByRecursion (IsStartOf p) (starts_drawn seed thread starts)
are_starts p seed thread [] wide all = tt
are_starts p seed thread (start ∷ more) wide all = (
  (all.0.0, all.0.1, all_join (λ value. value < 2 ^ 64) start.values (values_drawn seed thread) all.0.2 (values_below seed thread), λ core. absurd (true≢false (sym wide ∙ core))),
  are_starts p seed (suc thread) more wide all.1,
)

-- the setup is one of the program
pub is_setup_drawn : (p : LaidOut) (seed : ℕ) (setup : Setup) → p.of_module.wide ≡ true → IsSetupOf p setup → IsSetupOf p (setup_drawn seed setup)
is_setup_drawn p seed setup wide is = record {
  one_each = is.one_each;
  starts = are_starts p seed 0 setup.starts wide is.starts;
  threads = subst (λ n. n ≤ 64) (sym (length-drawn seed 0 setup.starts)) is.threads;
}

-- so is a trace with that setup and without steps one of the program
pub is_trace_drawn : (p : LaidOut) (seed : ℕ) (start : Trace) → p.of_module.wide ≡ true → IsTraceOf p start → IsTraceOf p (record { setup = setup_drawn seed start.setup; steps = [] })
is_trace_drawn p seed start wide is = record {
  one_each = is.one_each;
  cells = is.cells;
  starts = are_starts p seed 0 start.setup.starts wide is.starts;
  threads = subst (λ n. n ≤ 64) (sym (length-drawn seed 0 start.setup.starts)) is.threads;
  actors = tt;
  steps = omega arith;
}

-- ---- its faults

-- what may begin with drawn numbers may begin without
may_begin_given : (p : LaidOut) (seed : ℕ) (setup : Setup) (t : ℕ) → MayBeginBefore p (setup_drawn seed setup).starts t → MayBeginBefore p setup.starts t
may_begin_given p seed setup t before u begun earlier at =
    let there = drawn_at seed 0 setup.starts u begun at in
    let may : MayBegin p (start_drawn seed there.0 begun) = before u (start_drawn seed there.0 begun) earlier there.1 in
    record { takes_integers = may.takes_integers; takes_these = may.takes_these }

-- a fault of it is one of the setup
pub fault_drawn : (p : LaidOut) (seed : ℕ) (setup : Setup) (fault : SetupFault) → IsSetupFault p (setup_drawn seed setup) fault → IsSetupFault p setup fault
fault_drawn p seed setup (ReferenceParameter t) is =
    let given = given_at seed 0 setup.starts t is.1.0 is.1.1 in
    (may_begin_given p seed setup t is.0, (given.0, given.2, subst (λ (s : Start). StartsByReference p s.function) given.3 is.1.2))
fault_drawn p seed setup (WrongArguments t) is =
    let given = given_at seed 0 setup.starts t is.1.0 is.1.1 in
    (may_begin_given p seed setup t is.0, (given.0, given.2, subst (λ (s : Start). StartsWrongly p s.function s.arguments) given.3 is.1.2))
fault_drawn p seed setup Memory is = absurd is

-- so is one of the setup from which the run of a seed begins
pub fault_of_seed : (p : LaidOut) (seed : ℕ) (setup : Setup) (drawn : Bool) (fault : SetupFault) → IsSetupFault p (setup_by drawn seed setup) fault → IsSetupFault p setup fault
fault_of_seed p seed setup true fault is = fault_drawn p seed setup fault is
fault_of_seed p seed setup false fault is = is

-- ---- certified setups

-- its threads begin with what the certificates promise
pub certified_drawn : (p : LaidOut) (seed : ℕ) (setup : Setup) (certs : List Section) → IsCertifiedSetup p setup certs → IsCertifiedSetup p (setup_drawn seed setup) certs
certified_drawn p seed setup certs is = record {
  certified = is.certified;
  promises = λ t drawn at.
      (let given = given_at seed 0 setup.starts t drawn at in
      subst (λ (s : Start). MeetPromises (promises_in (slice_get certs s.function)) s.arguments) (sym given.3) (is.promises t given.0 given.2));
}

-- so do those of the setup from which the run of a seed begins
pub certified_of_seed : (p : LaidOut) (seed : ℕ) (setup : Setup) (drawn : Bool) (certs : List Section) → IsCertifiedSetup p setup certs → IsCertifiedSetup p (setup_by drawn seed setup) certs
certified_of_seed p seed setup true certs is = certified_drawn p seed setup certs is
certified_of_seed p seed setup false certs is = is

-- numbers are drawn for modules of the wide forms alone
pub draws_wide : (drawn : Bool) (p : LaidOut) → drawn && p.of_module.wide ≡ true → p.of_module.wide ≡ true
draws_wide drawn p is = (and_parts drawn p.of_module.wide is).1

-- no run of it is broken
pub safe_of_seed : (p : LaidOut) (seed : ℕ) (setup : Setup) (drawn : Bool) (certs : List Section) → CertifiedSetupIsSafe → IsSetupOf p setup → HasNoFault p setup → IsCertifiedSetup p setup certs → IsSafeSetup p (setup_of_seed drawn p setup seed)
safe_of_seed p seed setup drawn certs law is none certified = go (drawn && p.of_module.wide) refl
  where
    go : (b : Bool) → drawn && p.of_module.wide ≡ b → IsSafeSetup p (setup_by b seed setup)
    go false e = law p setup certs is none certified
    go true e =
        law p (setup_drawn seed setup) certs (is_setup_drawn p seed setup (draws_wide drawn p e) is)
        (λ fault faulty. none fault (fault_drawn p seed setup fault faulty)) (certified_drawn p seed setup certs certified)

-- ---- the outcome of a seed

-- the outcome speaks of the setup with which that seed's run begins
pub end_alike : (p : LaidOut) (begins others : ℕ → Setup) (steps seed : ℕ) (end : Option Break) → begins seed ≡ others seed → IsEndOfSeed p begins steps seed end → IsEndOfSeed p others steps seed end
end_alike p begins others steps seed None same is = subst (λ (setup : Setup). IsSoundList p setup (actors_drawn (length setup.starts) seed steps)) same is
end_alike p begins others steps seed (Some b) same is = subst (λ (setup : Setup). IsFirstBreak p setup (actors_drawn (length setup.starts) seed steps) b) same is
