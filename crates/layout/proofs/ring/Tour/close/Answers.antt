use Rattle.std.proofs.Common.{arith}
use Rattle.layout.specs.Tours.{seen}
use Rattle.layout.proofs.TourSteps.{leaves, leaves_ring}
use Rattle.layout.proofs.ring.Tour.close.Goals as goal

pub returns-then-left-len : goal.returns-then-left-len
returns-then-left-len c =
    let lt = c.if-left-len.true in
    let len = c.len.ensures in
    leaves_ring c.args.«module».now (seen c.args.self.now) c.args.place c.args.written c.requires.tour c.requires.at c.requires.none_new (seen c.look_back.new.self) c.look_back.ensures
    c.as_slice.result.now c.as_slice.ensures.value c.count_before-left.result c.count_before-left.ensures (omega (arith, lt, len))
    c.truncate-then-left-len.new.self.items c.truncate.new.self.items c.truncate-then-left-len.ensures.items c.truncate.ensures.items

pub returns-else-left-len : goal.returns-else-left-len
returns-else-left-len c =
    let le = c.if-left-len.false in
    let len = c.len.ensures in
    leaves c.args.«module».now (seen c.args.self.now) c.args.place c.args.written c.requires.tour c.requires.at c.requires.none_new (seen c.look_back.new.self) c.look_back.ensures
    c.as_slice.result.now c.as_slice.ensures.value c.count_before-left.result c.count_before-left.ensures (omega (arith, le, len))
