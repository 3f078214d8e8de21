use Rattle.std.proofs.Common.{◌≡◌, map, take}
use Rattle.certificate.specs.ShapeDrafts.{no_roots}
use Rattle.certificate.proofs.shape_draft.no_root_rows.Given as goal

abbrev pub invariant-loop-symbol : goal.invariant-loop-symbol
invariant-loop-symbol l = l.roots ≡ map (λ _. no_roots) (take l._symbol-index l.sorts)
