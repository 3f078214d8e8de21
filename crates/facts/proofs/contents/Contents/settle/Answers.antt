use Rattle.std.proofs.Common.{◌≤◌, ◌∙◌, ap, arith, sym, length, List, ℕ}
use Rattle.std.proofs.lemmas.List.{at_drop_all}
use Rattle.facts.specs.Contents.{set_of}
use Rattle.facts.proofs.Settled.{settle_each, settled_facts}
use Rattle.facts.proofs.contents.Contents.settle.Goals as goal

pub returns : goal.returns
returns c =
    let list : List ℕ = c.args.ties.now.tied.items in
    let past : length list ≤ c.loop-v.v-index = omega (arith, ap length c.tied-v-items.ensures, c.loop-v-test.false) in
    record { ok = sym (c.loop-v.invariant.rest ∙ at_drop_all (λ (l : List ℕ). settle_each c.args.ties.now l (set_of c.loop-v.self)) list c.loop-v.v-index past) ∙ settled_facts c.args.ties.now c.requires.ties (set_of c.args.self.now) c.requires.own }
