-- Nothing is recorded before the first step.
use Rattle.step_records.proofs.Going.{begun}
use Rattle.step_records.proofs.recording.RecordedWorld.new.Goals as goal

pub returns-clause-ok : goal.returns-clause-ok
returns-clause-ok c =
    let world = c.in_ok-world.ensures.ok in
    begun c.args.program.now c.args.setup.now (record { world = c.in_ok-world.world; bytes = c.new-bytes.result }) world.0 world.1 world.2 c.new-bytes.ensures.items
