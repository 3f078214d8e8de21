use Rattle.std.proofs.Common.{◌≡◌, true, rules}
use Rattle.layout.specs.Tours.{seen, is_new}
use Rattle.layout.proofs.TourSteps.{opens_first}
use Rattle.layout.proofs.ring.Tour.settle.Goals as goal

pub loop-place-init : goal.loop-place-init
loop-place-init c =
    let new : is_new c.args.self.now.places c.args.written ≡ true = search rules in
    opens_first c.args.«module».now (seen c.args.self.now) c.args.written c.requires.tour c.requires.none_open new (seen c.open.new.self) c.in_ok-open.ensures
