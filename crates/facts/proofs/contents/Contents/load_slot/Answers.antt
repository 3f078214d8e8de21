use Rattle.std.proofs.Common.{◌∙◌, ap, sym}
use Rattle.facts.specs.Contents.{set_of}
use Rattle.fact_tables.specs.SlotRows.{let_go_slot, let_go_last}
use Rattle.facts.proofs.Loads.{load_of, load_of_new}
use Rattle.facts.proofs.contents.Contents.load_slot.Goals as goal

pub returns-in_ok-define_of-in-Some-clause-ok : goal.returns-in_ok-define_of-in-Some-clause-ok
returns-in_ok-define_of-in-Some-clause-ok c =
    let old = c.args.self.now in
    load_of (set_of old) c.args.v c.args.s c.args.layout c.last_of-last.result c.held_nonnull-nonnull.result c.let_go_slot-filled.result
    (c.last_of-last.ensures old.values.classes ∙ ap (λ b. let_go_last c.last_of-last.result b old.slots) (sym c.held_nonnull-nonnull.ensures))
    (c.let_go_slot-filled.ensures ∙ ap (let_go_slot c.last_of-last.result c.held_nonnull-nonnull.result) c.slot-before.ensures)
    c.define_of.new.self c.let_go.new.self c.in-Some.class c.in-Some.is c.in_ok-define_of-in-Some.ensures.ok c.let_go.ensures

pub returns-in_ok-load_new-in-None-clause-ok : goal.returns-in_ok-load_new-in-None-clause-ok
returns-in_ok-load_new-in-None-clause-ok c =
    let old = c.args.self.now in
    load_of_new (set_of old) c.args.v c.args.s c.args.layout c.last_of-last.result c.held_nonnull-nonnull.result c.let_go_slot-filled.result
    (c.last_of-last.ensures old.values.classes ∙ ap (λ b. let_go_last c.last_of-last.result b old.slots) (sym c.held_nonnull-nonnull.ensures))
    (c.let_go_slot-filled.ensures ∙ ap (let_go_slot c.last_of-last.result c.held_nonnull-nonnull.result) c.slot-before.ensures)
    c.load_new.new.values c.let_go_others.new.self c.in-None.is c.load_new.new.self c.in_ok-load_new-in-None.ensures.ok.0 c.in_ok-load_new-in-None.ensures.ok.1 c.let_go_others.ensures
