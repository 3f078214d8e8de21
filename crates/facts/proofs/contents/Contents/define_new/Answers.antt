use Rattle.std.proofs.Common.{◌∙◌, ◌++◌, ◌∷◌, [], ap, sym}
use Rattle.fact_tables.specs.declared.known.Known.TheVariants.{Cell}
use Rattle.facts.specs.Contents.{set_of}
use Rattle.fact_tables.specs.Rows.{held_nonnull}
use Rattle.facts.specs.Facts.{add_class}
use Rattle.fact_tables.specs.SlotRows.{let_go_last}
use Rattle.fact_tables.specs.Values.{ValueFacts}
use Rattle.facts.proofs.Loads.{defines}
use Rattle.std.specs.Prelude.{length}
use Rattle.facts.proofs.contents.Contents.define_new.Goals as goal

pub returns-clause-ok : goal.returns-clause-ok
returns-clause-ok c =
    let old = c.args.self.now in
    defines (add_class c.args.class (set_of old)) c.args.v c.last_of-last.result c.held_nonnull-nonnull.result
    (c.last_of-last.ensures (old.values.classes ++ c.args.class ∷ []) ∙ ap (λ b. let_go_last c.last_of-last.result b old.slots) (sym (c.held_nonnull-nonnull.ensures ∙ ap (λ (f : ValueFacts). held_nonnull f.classes c.last_of-last.result) c.in_ok-define_new.ensures.ok)))
    c.define_new.new.self c.let_go.new.self c.let_go.ensures (Cell (length old.values.classes) c.args.layout c.args.stale) c.in_ok-define_new.ensures.ok
