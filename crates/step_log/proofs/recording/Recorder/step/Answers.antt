-- The step is recorded, and the world is the one after it.
use Rattle.std.proofs.Common.{refl}
use Rattle.step_log.proofs.Logged.{recorded}
use Rattle.step_log.proofs.recording.Recorder.step.Goals as goal

pub returns-clause-made : goal.returns-clause-made
returns-clause-made c p setup first before is =
    recorded p setup first before c.args.self.now (record { alloc = c.args.self.now.alloc; world = c.step.new.self; before = c.args.self.now.before; steps = c.push.new.self; notes = c.note.new.notes; numbers = c.take-from_outside.new.self }) c.args.actor
    (record { actor = c.args.actor; place = c.place_of-place.result; happening = c.happening_of.result; from_outside = c.take-from_outside.result; notes = c.len-notes.result }) c.in_ok-made.made is refl c.happening_of.ensures c.in_ok-made.ensures.same
    (c.in_ok-made.ensures.ok before is.afterwards) c.in_ok-push.ensures.ok
