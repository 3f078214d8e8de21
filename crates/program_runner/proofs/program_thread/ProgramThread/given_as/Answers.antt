-- A word that is read is one of a cell of the heap.
use Rattle.std.proofs.Common.{sym, ap, ◌∙◌}
use Rattle.machine.specs.Machine.{action}
use Rattle.program_safety.specs.Threads.{ProgramThread}
use Rattle.program_runner.proofs.CellsRead.{read_cell}
use Rattle.program_runner.proofs.program_thread.ProgramThread.given_as.Goals as goal

pub kind-requires : goal.kind-requires
kind-requires c =
    let kept = c.self.invariant.1 ∙ ap (λ (t : ProgramThread). action t.program t.state) c.self.view_is in
    read_cell c.requires.0 c.args.self.now c.in-Read-Got.at c.in-Read-Got.word c.requires.1.fits (sym kept ∙ c.in-Read-Got.is-0)
