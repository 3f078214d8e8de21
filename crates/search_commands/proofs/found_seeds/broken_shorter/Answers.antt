use Rattle.std.proofs.Common.{refl}
use Rattle.std.proofs.KnownBytes.{Appends-trans}
use Rattle.search_commands.proofs.found_seeds.broken_shorter.Goals as goal

pub returns : goal.returns
returns g c = (refl, Appends-trans _ _ _ _ _ c.in_ok-write_seed.ensures c.in_ok-write_shorter.ensures)
