-- What a thread that fits its heap reads.
use Rattle.std.proofs.Common.{◌≡◌, ◌<◌, ℕ, sym, subst}
use Rattle.pools.specs.Heap.{Setup, cells}
use Rattle.machine.specs.declared.action.Action.{Action}
use Rattle.machine.specs.declared.action.Action.TheVariants.{Read}
use Rattle.machine.specs.declared.value.Reference.{Reference}
use Rattle.machine.specs.Machine.{action}
use Rattle.moves.specs.Kinds.{AsksByKind}
use Rattle.program_safety.specs.Threads.{ProgramThread, asked_as}
use Rattle.program_runner.specs.Kinds.{FitsThread}
use Rattle.program_runner.specs.Keeps.{thread_keeps_kinds}

-- a word of a cell of the heap
pub read_cell : (s : Setup) (t : ProgramThread) (at : Reference) (word : ℕ) → FitsThread s t → action t.program t.state ≡ Read at word → at.cell < cells t.heap
read_cell s t at word fits asked =
    let asks = (thread_keeps_kinds s t fits).asks in
    let here : AsksByKind s (asked_as (Read at word)) = subst (λ (a : Action). AsksByKind s (asked_as a)) asked asks in
    subst (λ (heap : Setup). at.cell < cells heap) (sym fits.over) here.0
