use Rattle.std.proofs.Common.{◌≡◌, ◌<◌, ◌-◌, ◌∙◌, ap, arith, sym, length, slice_set, List, ℕ, Option, Some, None}
use Rattle.std.specs.Prelude.{nat_eq}
use Rattle.fact_tables.specs.EachListed.{each_listed}
use Rattle.indexmap.specs.IndexMap.{get}
use Rattle.fact_tables.specs.declared.known.SlotFact.{SlotFact}
use Rattle.fact_tables.specs.declared.uses.Use.{Use}
use Rattle.fact_tables.specs.Rows.{open_slot, slot_at, let_go}
use Rattle.fact_tables.specs.Uses.{use_at, chain}
use Rattle.fact_tables.proofs.Keepers.{slots_step}
use Rattle.fact_tables.proofs.Users.{chain_none}
use Rattle.fact_tables.proofs.slot_sweeps.let_go_each.Goals as goal

pub loop-step-preserved : goal.loop-step-preserved
loop-step-preserved c =
    let links : List Use = c.args.keepers.now.links.items in
    let slots : List SlotFact = c.loop-step.slots.items in
    let lt : c.loop-step.step < length links = omega (arith, c.loop-step-test.true, c.len-step-end.ensures, c.args.keepers.now.links.ok.0) in
    let is : use_at links c.loop-step.at ≡ Some c.in-Some.found = ap (λ (uses : List Use). use_at uses c.loop-step.at) (sym c.deref.ensures.value) ∙ sym c.in-Some.ensures in
    let changed : c.write.new.slots.items ≡ slice_set slots c.in-Some.found.user (let_go c.args.c c.args.nonnull (slot_at slots c.in-Some.found.user)) = c.write.ensures
    ∙ ap (slice_set slots c.in-Some.found.user) (c.let_go.ensures ∙ ap (let_go c.args.c c.args.nonnull) (c.slot_at-slot.ensures ∙ ap (λ (l : List SlotFact). slot_at l c.in-Some.found.user) c.deref-in-loop-step.ensures.value)) in
    slots_step (let_go c.args.c c.args.nonnull) (length links) c.loop-step.step links c.loop-step.at c.in-Some.found _ slots c.write.new.slots.items lt c.loop-step.invariant is changed

pub returns-in_default : goal.returns-in_default
returns-in_default c =
    let links : List Use = c.args.keepers.now.links.items in
    let none : use_at links c.loop-step.at ≡ None = ap (λ (uses : List Use). use_at uses c.loop-step.at) (sym c.deref.ensures.value) ∙ sym c.in_default.ensures in
    let newest : c.newest-at.result ≡ get nat_eq c.args.keepers.now.newest c.args.c = c.newest-at.ensures ∙ ap (get nat_eq c.args.keepers.now.newest) c.number.ensures in
    sym (ap (λ (at : Option ℕ). each_listed open_slot (λ s. let_go c.args.c c.args.nonnull) (chain (length links) links at) c.args.slots.now.items) (sym newest) ∙ c.loop-step.invariant ∙ ap (λ (us : List ℕ). each_listed open_slot (λ s. let_go c.args.c c.args.nonnull) us c.loop-step.slots.items) (chain_none (length links - c.loop-step.step) links c.loop-step.at none))
