use Rattle.std.proofs.Common.{refl}
use Rattle.std.proofs.KnownBytes.{Appends-trans}
use Rattle.search_commands.proofs.hunts.broken.Goals as goal

pub returns : goal.returns
returns g c = (refl, Appends-trans _ _ _ _ _ (Appends-trans _ _ _ _ _ c.in_ok-write.ensures.bytes c.in_ok-write_break.ensures) c.in_ok-write_tried.ensures)
