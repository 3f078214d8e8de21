use Rattle.std.proofs.Common.{sym, ◌∙◌}
use Rattle.certs.proofs.SlotRoots.{is_root_same}
use Rattle.certs.proofs.fits.is_root_name.Goals as goal

pub returns-then-is_value : goal.returns-then-is_value
returns-then-is_value c =
    rw (sym c.is_value.ensures ∙ c.if-is_value.true) (c.is_root_found.ensures ∙ is_root_same c.args.module.now c.args.function.now c.args.slot)
