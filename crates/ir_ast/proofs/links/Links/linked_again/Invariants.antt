use Rattle.std.proofs.Common.{◌≡◌, ◌<◌, ◌≤◌, length}
use Rattle.std.specs.Vec.{vec_capacity}
use Rattle.ir_ast.specs.Links.{AreListedTo, texts_of}
use Rattle.ir_ast.proofs.links.Links.linked_again.Given as goal

abbrev pub invariant-loop-number : goal.invariant-loop-number
invariant-loop-number l =
    (0 < length l.links.heads.items) × (length l.links.befores.items ≡ l.number) × (length l.spans ≤ vec_capacity l.links.befores) × AreListedTo l.number l.links (texts_of l.bytes l.spans)
