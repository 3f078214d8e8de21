-- The entry of a thread says its step.
use Rattle.std.proofs.Common.{sym, ap, ◌∙◌}
use Rattle.std.proofs.lemmas.Option.{IfSome_then}
use Rattle.record_text.specs.Recorded.{recorded_of}
use Rattle.record_text.proofs.Said.{thread_said}
use Rattle.record_text.proofs.writing.entry_of.Goals as goal

pub returns-in-Thread-clause-some : goal.returns-in-Thread-clause-some
returns-in-Thread-clause-some c =
    let fields = c.fields_of_step.ensures in
    IfSome_then c.by_thread.result c.by_thread.ensures.some
    (λ entry is. ap recorded_of is.0 ∙ (thread_said c.in-Thread.thread c.fields_of_step.result c.in-Thread.step is.1 fields.no_root (fields.reads c.in-Thread.thread) ∙ sym c.in-Thread.is))
