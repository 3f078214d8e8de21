use Rattle.std.proofs.Common.{◌≡◌, ◌+◌, Some, ap, ◌∙◌, subst, slice_get, rules}
use Rattle.layout.specs.Tours.{IsCount, Ring, lowest, parts_of, recorded, seen}
use Rattle.types.specs.References.{layout_of_struct}
use Rattle.layout.proofs.ring.Tour.look_back.Goals as goal

pub returns-in-Some : goal.returns-in-Some
returns-in-Some c =
    let at : lowest c.args.self.now.places c.args.self.now.met.items (parts_of c.args.«module».now (slice_get c.args.«module».now.types c.args.written)) ≡ Some c.in-Some.at = search rules in
    Ring c.in-Some.at c.count_before-left.result at (subst (λ list. IsCount list (c.in-Some.at + 1) c.count_before-left.result) c.as_slice.ensures.value c.count_before-left.ensures)
    (c.record_one.ensures ∙ ap (λ bounds. recorded (layout_of_struct c.args.«module».now (slice_get c.args.«module».now.types c.args.written)) (record (seen c.args.self.now) { bounds = bounds })) c.truncate.ensures.items)
