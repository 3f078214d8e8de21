-- Records with one entry more.
use Rattle.std.proofs.Common.{◌≡◌, ℕ, zero, suc, ◌+◌, ◌<◌, ◌^◌, ◌==◌, Bool, true, false, List, [], ◌∷◌, ◌++◌, length, reverse, take, Option, Some, None, refl, sym, ap, ◌∙◌, subst, if◌then◌else◌, add-one, arith}
use Rattle.std.specs.Prelude.{slice_get, unwrap_or}
use Rattle.std.proofs.lemmas.Option.{none-some}
use Rattle.record_text.specs.Entries.{first_entries}
use Rattle.lemmas.specs.Numbers.{test_same}
use Rattle.colours.specs.declared.turn.Turn.{Turn}
use Rattle.colours.specs.Steps.{Step}
use Rattle.colours.specs.Runs.{Event, ByThread, ByCollector}
use Rattle.runs.specs.Machine.{WordValue}
use Rattle.runs.specs.Moves.{Move, cells_of, step_of}
use Rattle.runs.specs.ModuleRuns.{Happening, OfThread, heap_of, with_step}
use Rattle.record_text.specs.declared.entry.Entry.{Entry}
use Rattle.record_text.specs.declared.steps.ThreadStep.{ThreadStep}
use Rattle.record_text.specs.declared.steps.Recorded.{Recorded}
use Rattle.record_text.specs.declared.steps.Recorded.TheVariants.{Thread, Root, Collector}
use Rattle.record_text.specs.Recorded.{recorded_of}
use Rattle.record_text.specs.Records.{IsKnown, run_of, with_said, roots_named, roots_after, roots_left, step_with}
use Rattle.record_text.specs.Written.{IsRecord}
use Rattle.layout.specs.Layouts.{LaidOut}
use Rattle.program_runner.specs.declared.setup_fault.SetupFault.TheVariants.{Memory}
use Rattle.trace_text.specs.declared.trace.Setup.{Setup}
use Rattle.step_records.specs.Recorded.{IsRecordWith, IsRecordOf, HasNamed, HasSaid, IsFaultOf}
use Rattle.step_records.specs.declared.record_fault.RecordFault.TheVariants.{Setup as OfSetup}

said_run : (entry : Entry) (entries : List Entry) (said : Recorded) → recorded_of entry ≡ said → run_of (entry ∷ entries) ≡ with_said said entries (run_of entries)
unfolding run_of
said_run entry entries said e = ap (λ x. with_said x entries (run_of entries)) e

no_run : run_of [] ≡ []
unfolding run_of
no_run = refl

-- the roots that a thread has named, of all threads
abbrev pub only : (thread : ℕ) → List ℕ → ℕ → List ℕ
only thread roots t = if thread == t then roots else []

same_if : {A : Type 0} (c : Bool) (x y : A) → x ≡ y → (if c then x else y) ≡ y
same_if true x y e = e
same_if false x y e = refl

no_roots : (thread t : ℕ) → only thread [] t ≡ []
no_roots thread t = same_if (thread == t) [] [] refl

-- what is named may be told in other words
pub renamed : (run : List Event) (f g : ℕ → List ℕ) (bytes : List ℕ) → ((t : ℕ) → f t ≡ g t) → IsRecordWith run f bytes → IsRecordWith run g bytes
renamed run f g bytes e is = record {
  entries = is.entries;
  is_record = is.is_record;
  few = is.few;
  say = record { known = is.say.known; says = is.say.says; names = λ t. is.say.names t ∙ e t };
}

-- one entry more that says this
module _ (run : List Event) (named : ℕ → List ℕ) (old new : List ℕ) (is : IsRecordWith run named old) (said : Recorded) (has : HasSaid new is.entries said) (known : IsKnown said) where
  with_entry : (longer : List Event) (after : ℕ → List ℕ) → with_said said is.entries run ≡ longer → ((t : ℕ) → roots_after t said (named t) ≡ after t) → IsRecordWith longer after new
  with_entry longer after e f = record {
    entries = has.entry ∷ is.entries;
    is_record = has.is_record;
    few = has.few;
    say = record {
      known = (is.say.known, subst IsKnown (sym has.reads) known);
      says = said_run has.entry is.entries said has.reads ∙ (ap (with_said said is.entries) is.say.says ∙ e);
      names = λ t. ap (λ x. roots_after t x (roots_named t is.entries)) has.reads ∙ (ap (roots_after t said) (is.say.names t) ∙ f t);
    };
  }

name_on : (c : Bool) (before : List ℕ) (cell : ℕ) → (if c then (if c then before else []) ++ cell ∷ [] else (if c then before else [])) ≡ (if c then before ++ cell ∷ [] else [])
name_on true before cell = refl
name_on false before cell = refl

-- a root more is named
pub with_root : (run : List Event) (thread : ℕ) (before : List ℕ) (cell : ℕ) (old new : List ℕ) (is : HasNamed run thread before old) → HasSaid new is.entries (Root thread cell) → HasNamed run thread (before ++ cell ∷ []) new
with_root run thread before cell old new is has = with_entry run (only thread before) old new is (Root thread cell) has tt run (only thread (before ++ cell ∷ [])) refl (λ t. name_on (thread == t) before cell)

left_on : (c : Bool) (roots : List ℕ) (step : ThreadStep) → roots_left step roots ≡ [] → (if c then roots_left step (if c then roots else []) else (if c then roots else [])) ≡ []
left_on true roots step e = e
left_on false roots step e = refl

-- a step of the thread that has named these roots
pub with_thread : (run : List Event) (thread : ℕ) (roots : List ℕ) (step : ThreadStep) (old new : List ℕ) (is : HasNamed run thread roots old) → HasSaid new is.entries (Thread thread step) → roots_left step roots ≡ []
    → IsRecordOf (ByThread thread (step_with roots step) ∷ run) new
with_thread run thread roots step old new is has left =
    let own : roots_named thread is.entries ≡ roots = is.say.names thread ∙ ap (λ (c : Bool). if c then roots else []) (test_same thread) in
    with_entry run (only thread roots) old new is (Thread thread step) has tt (ByThread thread (step_with roots step) ∷ run) (λ t. [])
    (ap (λ (named : List ℕ). ByThread thread (step_with named step) ∷ run) own) (λ t. left_on (thread == t) roots step left)

-- a step of the collector
pub with_turn : (run : List Event) (turn : Turn) (old new : List ℕ) (is : IsRecordOf run old) → HasSaid new is.entries (Collector turn) → IsRecordOf (ByCollector turn ∷ run) new
with_turn run turn old new is has = with_entry run (λ t. []) old new is (Collector turn) has tt (ByCollector turn ∷ run) (λ t. []) refl (λ t. refl)

-- before a thread names its roots, it has named none
pub none_named : (run : List Event) (thread : ℕ) (bytes : List ℕ) → IsRecordOf run bytes → HasNamed run thread [] bytes
none_named run thread bytes is = renamed run (λ t. []) (only thread []) bytes (λ t. sym (no_roots thread t)) is

pub named_none : (run : List Event) (thread : ℕ) (bytes : List ℕ) → HasNamed run thread [] bytes → IsRecordOf run bytes
named_none run thread bytes is = renamed run (only thread []) (λ t. []) bytes (no_roots thread) is

-- a move of a thread that is a step
pub with_move : (run : List Happening) (thread : ℕ) (move : Move) (roots : List ℕ) (step : ThreadStep) (old new : List ℕ) (is : HasNamed (heap_of run) thread roots old) → HasSaid new is.entries (Thread thread step)
    → step_of move ≡ Some (step_with roots step) → roots_left step roots ≡ [] → IsRecordOf (heap_of (OfThread thread move ∷ run)) new
with_move run thread move roots step old new is has e left =
    subst (λ (s : Option Step). IsRecordOf (with_step thread s (heap_of run)) new) (sym e) (with_thread (heap_of run) thread roots step old new is has left)

-- and one that is none
pub without_step : (run : List Happening) (thread : ℕ) (move : Move) (roots : List ℕ) (bytes : List ℕ) → HasNamed (heap_of run) thread roots bytes → step_of move ≡ None → roots ≡ [] → IsRecordOf (heap_of (OfThread thread move ∷ run)) bytes
without_step run thread move roots bytes is e none =
    subst (λ (s : Option Step). IsRecordOf (with_step thread s (heap_of run)) bytes) (sym e) (named_none (heap_of run) thread bytes (subst (λ (l : List ℕ). HasNamed (heap_of run) thread l bytes) none is))

no_entries : reverse (first_entries 0 []) ≡ []
unfolding first_entries
no_entries = refl

-- no byte is the record of no step
pub no_bytes : (bytes : List ℕ) → bytes ≡ [] → IsRecordOf [] bytes
no_bytes bytes e = subst (IsRecordOf []) (sym e) (record {
  entries = [];
  is_record = record { whole = refl; reads = no_entries };
  few = omega arith;
  say = record { known = tt; says = no_run; names = λ t. refl };
})

some_is : {A : Type 0} {x y : A} → Some x ≡ Some y → x ≡ y
some_is {A} {x} {y} e = ap (λ (o : Option A). unwrap_or o x) e

cells_after : (roots : List WordValue) (n : ℕ) (r : WordValue) → slice_get roots n ≡ Some r → cells_of (take (suc n) roots) ≡ cells_of (take n roots) ++ r.cell ∷ []
cells_after [] n r e = absurd (none-some r e)
cells_after (q ∷ roots) zero r e = ap (λ (x : WordValue). x.cell ∷ []) (some_is e)
cells_after (q ∷ roots) (suc n) r e = ap (λ (l : List ℕ). q.cell ∷ l) (cells_after roots n r e)

-- the cells of one reference more
pub cells_more : (roots : List WordValue) (n : ℕ) (r : WordValue) → slice_get roots n ≡ Some r → cells_of (take (n + 1) roots) ≡ cells_of (take n roots) ++ r.cell ∷ []
cells_more roots n r e = ap (λ k. cells_of (take k roots)) (add-one n) ∙ cells_after roots n r e

-- a record within the limit has room for one entry more
pub one_more : (bytes new : List ℕ) (entries : List Entry) (entry : Entry) (said : Recorded) → length bytes < 2 ^ 30 → recorded_of entry ≡ said → IsRecord bytes entries → IsRecord new (entry ∷ entries)
    → HasSaid new entries said
one_more bytes new entries entry said few reads old is = record {
  entry = entry;
  reads = reads;
  is_record = is;
  few = let before = old.whole in let after = is.whole in omega (arith, few, before, after);
}

-- memory is refused to a record as it is to a setup
pub of_memory : (p : LaidOut) (setup : Setup) → IsFaultOf p setup (OfSetup Memory)
of_memory p setup other = absurd (other refl)
