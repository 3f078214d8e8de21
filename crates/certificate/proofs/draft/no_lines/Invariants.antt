use Rattle.std.proofs.Common.{◌≡◌, [], map, take}
use Rattle.certificate.proofs.draft.no_lines.Given as goal

abbrev pub invariant-loop-block : goal.invariant-loop-block
invariant-loop-block l = l.blocks ≡ map (λ _. []) (take l._block-index l.function.blocks)
