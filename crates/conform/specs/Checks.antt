-- A run that was recorded, and what is kept of it.
use Rattle.std.specs.Prelude.{ℕ, ◌≡◌, ◌<◌, Some, List, [], length, slice_get}
use Rattle.pools.specs.Heap.{Setup}
use Rattle.colours.specs.Runs.{Event, log_of, turns_of, IsHeapRun}
use Rattle.run_words.specs.Words.{AreAfter}
use Rattle.collector_places.specs.Places as collector
use Rattle.conform.specs.declared.run_check.RunCheck.{RunCheck}
use Rattle.conform.specs.declared.thread_check.CheckedThread.{CheckedThread}
use Rattle.conform.specs.Threads.{IsThreadAt}

-- these are the first threads before their first steps
pub record AreThreadsAtStart (s : Setup) (count : ℕ) (threads : List CheckedThread) : Type 0 where
  pub long : length threads ≡ count
  pub each : (t : ℕ) (x : CheckedThread) → slice_get threads t ≡ Some x → IsThreadAt s t [] x

-- the run is one of the heap's, and the words, the threads and the collector are where it leads
pub record IsCheckAfter (s : Setup) (run : List Event) (v : RunCheck) : Type 0 where
  pub is_run : IsHeapRun s run
  pub plan : v.plan.now ≡ s
  pub words : AreAfter s run v.words
  pub long : length v.threads.items ≡ s.threads
  pub threads : (t : ℕ) (x : CheckedThread) → slice_get v.threads.items t ≡ Some x → IsThreadAt s t (log_of t run) x
  pub collector : collector.Stands s (turns_of run) v.collector
