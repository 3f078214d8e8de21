use Rattle.std.proofs.Common.{slice_get, ap, sym, ◌∙◌}
use Rattle.std.specs.Option.{option_copied}
use Rattle.recheck.proofs.Looks.{seen_same}
use Rattle.recheck.proofs.Tells.{interface_by_words}
use Rattle.recheck.proofs.interface.seen.Goals as goal

pub returns-then-looks_same-clause-unseen : goal.returns-then-looks_same-clause-unseen
returns-then-looks_same-clause-unseen c =
    seen_same (slice_get c.args.module.now.functions c.args.func) (slice_get c.args.certs.now.sections c.args.func) c.args.old.now c.in-Some.new.now c.args.past.now c.in-Some-section.next.now
    (ap (slice_get c.args.module.now.functions) (sym c.number.ensures) ∙ sym c.get.ensures.value ∙ ap option_copied c.in-Some.is) (sym c.section.ensures ∙ ap option_copied c.in-Some-section.is) (c.looks_same.ensures.looks c.if-looks_same.true)

pub returns-then-looks_same-clause-interface : goal.returns-then-looks_same-clause-interface
returns-then-looks_same-clause-interface c =
    interface_by_words c.args.module.now (slice_get c.args.module.now.functions c.args.func) (slice_get c.args.certs.now.sections c.args.func) c.args.old.now c.in-Some.new.now c.args.past.now c.in-Some-section.next.now
    (ap (slice_get c.args.module.now.functions) (sym c.number.ensures) ∙ sym c.get.ensures.value ∙ ap option_copied c.in-Some.is) (sym c.section.ensures ∙ ap option_copied c.in-Some-section.is)
    (c.looks_same.ensures.tells c.args.module.now c.if-looks_same.true)
