use Rattle.std.proofs.Common.{None, length, sym, ap, ◌∙◌, subst}
use Rattle.std.proofs.lemmas.List.{length-replicate}
use Rattle.machine.specs.Entered.{AreKept}
use Rattle.machine.proofs.Kept.{none_kept}
use Rattle.machine.proofs.entered.Entered.new.Goals as goal

pub invariant_of-result : goal.invariant_of-result
invariant_of-result c =
    let m = c.args.program.now.of_module in (
      ap length c.in_ok-tables.ensures ∙ length-replicate c.len.result None ∙ c.len.ensures ∙ ap (λ k. length k.functions) c.module.ensures.of_module,
      subst (AreKept m c.new.result) (sym c.in_ok-tables.ensures) (none_kept m c.new.result c.len.result),
    )
