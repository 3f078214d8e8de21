use Rattle.std.proofs.Common.{◌≡◌, drop}
use Rattle.facts.specs.Contents.{set_of}
use Rattle.facts.proofs.Settled.{settle_each}
use Rattle.facts.proofs.contents.Contents.settle.Given as goal

abbrev pub invariant-loop-v : goal.invariant-loop-v
invariant-loop-v l = record {
  rest : settle_each l.ties l.ties.tied.items (set_of l.initial.self) ≡ settle_each l.ties (drop l.v-index l.ties.tied.items) (set_of l.self);
}
