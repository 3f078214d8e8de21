-- What the first seed at which a search stops tells of the seeds before it.
use Rattle.std.proofs.Common.{◌≡◌, ◌<◌, ◌≤◌, ◌+◌, ◌-◌, ℕ, Bool, true, false, not, Option, Some, None, Ok, Err, arith, sym, ap, ◌∙◌, subst, List, true≢false}
use Rattle.std.specs.Prelude.{Result, IfOk, IfErr, ◌≢◌}
use Rattle.std.specs.Borrow.{Bor}
use Rattle.std.specs.List.{AllZip, slice_get, range_with_len}
use Rattle.rayon.specs.Lists.{filter_by_mask}
use Rattle.rayon.proofs.ListFacts.{AllZip-weaken}
use Rattle.layout.specs.Layouts.{LaidOut}
use Rattle.trace_text.specs.declared.trace.Setup.{Setup}
use Rattle.program_runner.specs.Setups.{IsSetupFault}
use Rattle.program_runner.specs.declared.setup_fault.SetupFault.{SetupFault}
use Rattle.program_runner.specs.declared.setup_fault.SetupFault.TheVariants.{Memory}
use Rattle.replay.specs.declared.outcome.Break.{Break}
use Rattle.replay.specs.declared.soaking.SeedEnd.{SeedEnd}
use Rattle.replay.specs.DrawnValues.{setup_of_seed}
use Rattle.replay.specs.Soaks.{IsSoundSeed, IsTold, is_sound, answer_in, IsLeastFrom}
use Rattle.replay.proofs.Firsts.{Passed, Found, first_is}

-- what is told of a seed
abbrev pub Ends : LaidOut → Setup → (drawn : Bool) → (steps : ℕ) → ℕ → SeedEnd → Type 0
Ends p setup drawn steps seed end = (end.seed ≡ seed) × IsTold p setup drawn steps seed end.told

-- the search stops here
abbrev pub stops : SeedEnd → Bool
stops end = not (is_sound end.told)

-- a seed that is passed is sound
passed : (p : LaidOut) (setup : Setup) (drawn : Bool) (steps seed : ℕ) (told : Result (Option Break) SetupFault) → IsTold p setup drawn steps seed told → not (is_sound told) ≡ false → IsSoundSeed p (setup_of_seed drawn p setup) steps seed
passed p setup drawn steps seed (Ok None) is e = is
passed p setup drawn steps seed (Ok (Some b)) is e = absurd (true≢false e)
passed p setup drawn steps seed (Err fault) is e = absurd (true≢false e)

-- so are all of a range
pub all_passed : (p : LaidOut) (setup : Setup) (drawn : Bool) (steps first past : ℕ) → Passed (Ends p setup drawn steps) stops first past → (seed : ℕ) → first ≤ seed → seed < past → IsSoundSeed p (setup_of_seed drawn p setup) steps seed
all_passed p setup drawn steps first past h seed low high =
    let one = h seed low high in
    passed p setup drawn steps seed one.0.told one.1.1 one.2

-- the seed at which the search stops is the least that breaks its run, or its fault is told
pub stopped : (p : LaidOut) (setup : Setup) (drawn : Bool) (steps first past : ℕ) (end : SeedEnd) → Found (Ends p setup drawn steps) stops first past (Some end)
    → IfOk (answer_in end.seed end.told) (IsLeastFrom p (setup_of_seed drawn p setup) steps first past) × IfErr (answer_in end.seed end.told) (λ e. e ≢ Memory → IsSetupFault p setup e)
stopped p setup drawn steps first past end h =
    let told : IsTold p setup drawn steps end.seed end.told = subst (λ n. IsTold p setup drawn steps n end.told) (sym h.3.0) h.3.1 in
    let low : first ≤ end.seed = subst (λ n. first ≤ n) (sym h.3.0) h.1 in
    let high : end.seed < past = subst (λ n. n < past) (sym h.3.0) h.2 in
    let before : Passed (Ends p setup drawn steps) stops first end.seed = subst (λ n. Passed (Ends p setup drawn steps) stops first n) (sym h.3.0) h.5 in
    by_case end.seed end.told told low high before h.4
  where
    by_case : (seed : ℕ) (told : Result (Option Break) SetupFault) → IsTold p setup drawn steps seed told → first ≤ seed → seed < past → Passed (Ends p setup drawn steps) stops first seed → not (is_sound told) ≡ true
        → IfOk (answer_in seed told) (IsLeastFrom p (setup_of_seed drawn p setup) steps first past) × IfErr (answer_in seed told) (λ e. e ≢ Memory → IsSetupFault p setup e)
    by_case seed (Ok None) told low high before stop = absurd (true≢false (sym stop))
    by_case seed (Ok (Some b)) told low high before stop = ((low, high, all_passed p setup drawn steps first seed before, told), tt)
    by_case seed (Err fault) told low high before stop = (tt, told)

-- what the search returns, from what its two closures say
pub found : (p : LaidOut) (setup : Setup) (drawn : Bool) (steps first past : ℕ) (ys : List ℕ) (xs : List SeedEnd) (bs : List Bool) (r : Option SeedEnd) → first ≤ past → ys ≡ range_with_len first (past - first) → AllZip (Ends p setup drawn steps) ys xs
    → AllZip (λ x b. (q : Bor SeedEnd) × (q.now ≡ x) × (b ≡ stops q.now)) xs bs → r ≡ slice_get (filter_by_mask xs bs) 0 → Found (Ends p setup drawn steps) stops first past r
found p setup drawn steps first past ys xs bs r low all ends tests is =
    let plain = AllZip-weaken (λ x b. (q : Bor SeedEnd) × (q.now ≡ x) × (b ≡ stops q.now)) (λ x b. b ≡ stops x)
    (λ x b h. h.2 ∙ ap stops h.1) xs bs tests in
    let over = subst (λ l. AllZip (Ends p setup drawn steps) l xs) all ends in
    let same : first + (past - first) ≡ past = omega arith in
    rw is (subst (λ n. Found (Ends p setup drawn steps) stops first n (slice_get (filter_by_mask xs bs) 0)) same (first_is (Ends p setup drawn steps) stops (past - first) first xs bs over plain))
