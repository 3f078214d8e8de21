use Rattle.std.proofs.Common.{◌≡◌, drop}
use Rattle.certificate.specs.Drafts.{first_unlisted}
use Rattle.certificate.proofs.reader.first_unlisted.Given as goal

abbrev pub invariant-loop-wanted : goal.invariant-loop-wanted
invariant-loop-wanted l = first_unlisted l.block l.listed l.fn.wanted ≡ first_unlisted l.block l.listed (drop l.wanted-index l.fn.wanted)
