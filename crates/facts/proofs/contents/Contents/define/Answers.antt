use Rattle.std.proofs.Common.{◌∙◌, ap, sym}
use Rattle.facts.specs.Contents.{set_of}
use Rattle.fact_tables.specs.SlotRows.{let_go_last}
use Rattle.facts.proofs.Loads.{defines}
use Rattle.facts.proofs.contents.Contents.define.Goals as goal

pub returns-clause-ok : goal.returns-clause-ok
returns-clause-ok c =
    let old = c.args.self.now in
    defines (set_of old) c.args.v c.last_of-last.result c.held_nonnull-nonnull.result
    (c.last_of-last.ensures old.values.classes ∙ ap (λ b. let_go_last c.last_of-last.result b old.slots) (sym c.held_nonnull-nonnull.ensures))
    c.define.new.self c.let_go.new.self c.let_go.ensures c.args.known c.in_ok-define.ensures.ok
