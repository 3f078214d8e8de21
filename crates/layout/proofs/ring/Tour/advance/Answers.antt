use Rattle.std.proofs.Common.{◌≡◌, None, Some, slice_get, rules}
use Rattle.layout.specs.Tours.{seen, new_among, parts_of}
use Rattle.layout.proofs.TourSteps.{opens, top_there}
use Rattle.layout.proofs.ring.Tour.advance.Goals as goal

pub returns-in_default : goal.returns-in_default
returns-in_default c =
    let none : slice_get c.args.self.now.met.items c.args.place ≡ None = search rules in
    absurd (top_there c.args.«module».now (seen c.args.self.now) c.args.place c.requires none)

pub returns-in_ok-open-in-Some-new_among : goal.returns-in_ok-open-in-Some-new_among
returns-in_ok-open-in-Some-new_among c =
    let there : slice_get c.args.self.now.met.items c.args.place ≡ Some c.in-Some.written = search rules in
    let part : new_among c.args.self.now.places (parts_of c.args.«module».now (slice_get c.args.«module».now.types c.in-Some.written)) ≡ Some c.in-Some-new_among.part = search rules in
    opens c.args.«module».now (seen c.args.self.now) c.args.place c.in-Some.written c.in-Some-new_among.part c.requires there part
    c.push.new.self.items c.in_ok-push-in-Some-new_among.ensures.items (seen c.open.new.self) c.in_ok-open-in-Some-new_among.ensures
