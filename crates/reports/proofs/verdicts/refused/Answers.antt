use Rattle.std.proofs.Common.{refl}
use Rattle.std.proofs.KnownBytes.{Appends-trans}
use Rattle.reports.proofs.verdicts.refused.Goals as goal

pub returns : goal.returns
returns g c =
    let place = Appends-trans _ _ _ _ _ c.in_ok-write.ensures.bytes c.in_ok-write_place.ensures in
    let rule = Appends-trans _ _ _ _ _ place c.in_ok-write_rule.ensures in
    let detail = Appends-trans _ _ _ _ _ rule c.in_ok-write_detail.ensures in
    (refl, Appends-trans _ _ _ _ _ detail c.in_ok-writeln.ensures.bytes)
