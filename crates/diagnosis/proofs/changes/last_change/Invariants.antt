use Rattle.std.proofs.Common.{◌≡◌, IfSome, take}
use Rattle.block_rules.specs.Edges.{entry_facts_at}
use Rattle.diagnosis.specs.Before.{seen, after_all}
use Rattle.diagnosis.specs.Changes.{ChangesIn}
use Rattle.diagnosis.proofs.changes.last_change.Given as goal

abbrev pub invariant-loop-index : goal.invariant-loop-index
invariant-loop-index l =
    (l.facts ≡ after_all l.fn.context (entry_facts_at (seen l.fn.context l.fn.at.func) l.fn.at.block) (take l.index l.body))
    × IfSome l.found (λ index. ChangesIn l.fn.context l.fn.at.func l.fn.at.block l.fn.at.place index l.fn.value l.fn.change)
