-- Why the heap may serve a thread that may begin.
use Rattle.std.proofs.Common.{◌≡◌, ◌<◌, ℕ, zero, suc, Bool, false, MatchBool, Some, List, [], ◌∷◌, length, map, slice_get, slice_index_or, refl, sym, ap, subst, ◌∙◌}
use Rattle.std.proofs.lemmas.Option.{slice_get_within}
use Rattle.pools.specs.Heap.{Setup as HeapSetup}
use Rattle.colours.specs.Steps.{Step}
use Rattle.layout.specs.Layouts.{LaidOut}
use Rattle.certs.specs.declared.section.Section.{Section}
use Rattle.machine.specs.Machine.{start}
use Rattle.machine.specs.Start.{argument_values, StartsByReference, StartsWrongly}
use Rattle.runs.specs.Promises.{IsCareful}
use Rattle.runs.specs.RealThreads.{IsRealShare}
use Rattle.heap_words.specs.Tokens.{Shared}
use Rattle.heap_table.specs.Holders.{Holder, MayCall, MayBegin}
use Rattle.heap_table.specs.Opening.{IsNew}
use Rattle.program_safety.specs.Safety.{IsCarefulProgram}
use Rattle.program_runner.specs.Heaps.{heap_of}
use Rattle.program_runner.specs.Kinds.{FitsThread}
use Rattle.program_runner.specs.Threads.{ProgramThread, program_machine}
use Rattle.serving.specs.declared.serving.ServingEnd.{ServingEnd}
use Rattle.serving.specs.Serving.{MayBeServed}
use Rattle.program_runner.specs.Setups.{begun_at}
use Rattle.program_runner.specs.SafeSetups.{begins, is_heap_for}
use Rattle.trace_text.specs.Arrivals.{is_late}
use Rattle.trace_text.specs.Traces.{IsStartOf}
use Rattle.trace_text.specs.declared.trace.Setup.{Setup}
use Rattle.trace_text.specs.declared.trace.Start.{Start}
use Rattle.mutators.specs.Faults.{MayStart}
use Rattle.mutators.specs.Jobs.{IsJobOf}

-- what is known of threads that may begin
abbrev pub BegunFits : Type 0
BegunFits = (p : LaidOut) (setup : Setup) (function : ℕ) (arguments values : List ℕ) → (StartsByReference p function → ⊥) → (StartsWrongly p function arguments → ⊥)
    → FitsThread (heap_of p setup) (record { heap = heap_of p setup; program = p; state = start p.of_module (slice_get p.of_module.functions function) function (argument_values arguments); values = values })

-- the heap knows which threads are late
late_at : (starts : List Start) (t : ℕ) (b : Start) → slice_get starts t ≡ Some b → slice_index_or (map (λ (begun : Start). is_late begun.arrival) starts) t false ≡ is_late b.arrival
late_at [] t b e = absurd cc
late_at (begun ∷ starts) zero b e = let is : begun ≡ b = cc in ap (λ (q : Start). is_late q.arrival) is
late_at (begun ∷ starts) (suc t) b e = late_at starts t b e

-- a thread that has made no step
no_step : (s : HeapSetup) (t : ℕ) (begun : ProgramThread) → IsRealShare s program_machine t begun [] begun
no_step s t begun = record { share = []; asked = tt; no_births = tt; steps = refl; leads_to = refl }

-- the heap may serve it
may_be_served : (p : LaidOut) (setup : Setup) (certs : List Section) (heap : Shared) (t : ℕ) (b : Start) (token : Holder) → IsCarefulProgram p certs → BegunFits → heap.setup ≡ heap_of p setup
    → slice_get setup.starts t ≡ Some b → IsStartOf p b → MayStart p certs b → IsNew heap t token → MayBeServed program_machine FitsThread heap token (is_late b.arrival) (begun_at p setup (Some b))
may_be_served p setup certs heap t b token careful fits same at is may new =
    let s = heap_of p setup in
    let begun = begun_at p setup (Some b) in
    let over : token.setup ≡ s = new.of.setup ∙ same in
    let late : slice_index_or heap.setup.late t false ≡ is_late b.arrival = ap (λ (q : HeapSetup). slice_index_or q.late t false) same ∙ late_at setup.starts t b at in
    let within : token.thread < length setup.starts = subst (λ n. n < length setup.starts) (sym new.number) (slice_get_within setup.starts t b at) in
    record {
      starts = subst (λ (l : Bool). MatchBool l (MayBegin heap token) (MayCall heap token)) late new.start;
      fits = subst (λ (q : HeapSetup). FitsThread q begun) (sym over) (fits p setup b.function b.arguments b.values may.begins.takes_integers may.begins.takes_these);
      careful = subst (λ (q : HeapSetup). IsCareful q program_machine token.thread begun) (sym over)
          (careful s (λ u. begun) (is_heap_for p setup) (λ u below. begins p setup certs b is may.begins may.meets) token.thread within);
      begun = subst (λ (log : List Step). IsRealShare token.setup program_machine token.thread begun log begun) (sym new.log) (no_step token.setup token.thread begun);
    }

-- the thread with its token, at the beginning of its function
pub job_of : (p : LaidOut) (setup : Setup) (certs : List Section) (heap : Shared) (t : ℕ) (b : Start) (token : Holder) (machine : ProgramThread) (late : Bool) (outcome : ServingEnd)
    → IsCarefulProgram p certs → BegunFits → heap.setup ≡ heap_of p setup → slice_get setup.starts t ≡ Some b → IsStartOf p b → MayStart p certs b → IsNew heap t token
    → machine ≡ begun_at p setup (Some b) → late ≡ is_late b.arrival → IsJobOf p setup heap t (record { me = token; machine = machine; is_late = late; outcome = outcome })
job_of p setup certs heap t b token machine late outcome careful fits same at is may new begun arrives = record {
  of = new.of;
  number = new.number;
  machine = begun ∙ ap (begun_at p setup) (sym at);
  may = subst (λ (l : Bool). MayBeServed program_machine FitsThread heap token l machine) (sym arrives)
      (subst (λ (q : ProgramThread). MayBeServed program_machine FitsThread heap token (is_late b.arrival) q) (sym begun) (may_be_served p setup certs heap t b token careful fits same at is may new));
}
