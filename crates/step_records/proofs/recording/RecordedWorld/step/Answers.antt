-- The step is the actor's, and the record has it.
use Rattle.std.proofs.Common.{List, sym, subst}
use Rattle.std.proofs.lemmas.Result.{on_ok_weaker}
use Rattle.replay.specs.Worlds.{run_of}
use Rattle.runs.specs.Machine.{WordValue}
use Rattle.step_records.specs.Named.{TellsNext}
use Rattle.step_records.specs.declared.recording.RecordedWorld.{RecordedWorld}
use Rattle.step_records.proofs.Going.{here, next, next_told, stepped}
use Rattle.step_records.proofs.Saying.{of_memory}
use Rattle.step_records.proofs.recording.RecordedWorld.step.Goals as goal

pub returns-in-Ok-clause-made : goal.returns-in-Ok-clause-made
returns-in-Ok-clause-made c p setup before is =
    let old = c.args.self.now in
    let made = c.in-Ok.made in
    let both = c.in-Ok.ensures.ok before is.afterwards in
    let told = next_told old.world before c.args.actor c.in_ok-roots.roots.items made (c.in_ok-roots.ensures before made is.afterwards both.0) in
    let named = subst (λ (l : List WordValue). TellsNext l made (next old.world before c.args.actor)) (sym c.as_slice.ensures.value) told in
    let new : RecordedWorld = record { world = c.step.new.self; bytes = c.put_made.new.bytes } in
    on_ok_weaker c.put_made.result (λ recorded. stepped p setup before c.args.actor old new is c.in-Ok.ensures.same both.1 recorded)
    (c.put_made.ensures.made (run_of old.world.program old.world.setup before) _ (here p setup before old is) named)

pub returns-clause-fault : goal.returns-clause-fault
returns-clause-fault c p setup = of_memory p setup
