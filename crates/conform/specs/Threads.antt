-- A thread of a recorded run and its log.
use Rattle.std.specs.Prelude.{ℕ, ◌≡◌, ◌<◌, true, List, IsTrue}
use Rattle.lemmas.specs.Lists.{IsIn}
use Rattle.pools.specs.Heap.{Setup, cells, kind_of}
use Rattle.pools.specs.Layouts.{is_reference_kind}
use Rattle.colours.specs.Steps.{Step, ReadWord, ReadOldValue, StoreAfterBarrier, StorePlain, Claim, StoreStage}
use Rattle.colours.specs.Mutator.{MayUse, IsDisciplined}
use Rattle.watch.specs.Knows.{Knows}
use Rattle.thread_order.specs.Orders.{Stands}
use Rattle.conform.specs.declared.thread_check.CheckedThread.{CheckedThread}
use Rattle.conform.specs.Rules.{ComesNext}

-- the thread is where its log leads
pub record IsThreadAt (s : Setup) (thread : ℕ) (log : List Step) (x : CheckedThread) : Type 0 where
  pub order : Stands s thread log x.order
  pub holdings : Knows s log x.holdings

-- a reference word that is read or written has a cell's number; a cell that is won is one; the roots that are named are held
abbrev pub MayHold : Setup → List Step → Step → Type 0
MayHold s log (ReadWord cell word value) = (cell < cells s) × (IsTrue (is_reference_kind (kind_of s cell word)) → value < cells s)
MayHold s log (ReadOldValue cell word value) = (cell < cells s) × IsTrue (is_reference_kind (kind_of s cell word)) × (value < cells s)
MayHold s log (StoreAfterBarrier cell word value) = (cell < cells s) × IsTrue (is_reference_kind (kind_of s cell word)) × (value < cells s)
MayHold s log (StorePlain cell word value) = (cell < cells s) × (IsTrue (is_reference_kind (kind_of s cell word)) → value < cells s)
MayHold s log (Claim cell won) = (0 < cell) × (cell < cells s)
MayHold s log (StoreStage stage roots) = (c : ℕ) → IsIn c roots → MayUse s log c
MayHold s log step = Unit {0}

-- the thread has made the step: its order allowed it, and what it brings is in the heap
pub record IsMade (s : Setup) (thread : ℕ) (log : List Step) (step : Step) : Type 0 where
  pub next : ComesNext s thread log step
  pub holds : MayHold s log step
