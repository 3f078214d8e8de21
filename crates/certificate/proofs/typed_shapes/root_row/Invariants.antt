use Rattle.std.proofs.Common.{◌≡◌, drop}
use Rattle.certificate.specs.ShapeDrafts.{no_roots}
use Rattle.certificate.specs.TypedShapes.{typed_slots}
use Rattle.certificate.proofs.typed_shapes.root_row.Given as goal

abbrev pub invariant-loop-name : goal.invariant-loop-name
invariant-loop-name l = typed_slots l.slots l.function 0 l.is_root no_roots ≡ typed_slots l.slots l.function l.name (drop l.name l.is_root) l.roots
