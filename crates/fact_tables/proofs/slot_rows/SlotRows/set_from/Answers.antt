use Rattle.std.proofs.Common.{◌≡◌, ◌∙◌, ap, length, replicate, sym, List, ℕ, [], subst}
use Rattle.fact_tables.specs.EachListed.{each_listed, copied}
use Rattle.fact_tables.proofs.EachListed.{wiped_all, copied_all}
use Rattle.fact_tables.specs.declared.known.SlotFact.{SlotFact}
use Rattle.fact_tables.specs.Rows.{open_slot}
use Rattle.fact_tables.specs.SlotRows.{OnlyFilled, OnlyHolding, OnlyKeepers}
use Rattle.fact_tables.proofs.slot_rows.SlotRows.set_from.Goals as goal

module _ (c : goal.After-drop-self-inside-7) where
  abbrev others : List SlotFact
  others = c.other.inside.slots.items

  only : OnlyFilled c.args.filled.items others
  only = subst (OnlyFilled c.args.filled.items) (sym c.other.view_is) c.requires.filled

  long : length c.self.inside.slots.items ≡ length others
  long = ap length c.self.view_is ∙ c.requires.long ∙ sym (ap length c.other.view_is)

  same_slots : c.copy-2.new.slots.items ≡ others
  same_slots = c.copy-2.ensures ∙ ap (λ (from : List SlotFact). each_listed open_slot (copied open_slot from) c.deref-2.result.now c.copy.new.slots.items) c.deref-3.ensures.value ∙ copied_all open_slot c.deref-2.result.now c.copy.new.slots.items others
      (subst (λ (filled : List ℕ). OnlyFilled filled others) (sym c.deref-2.ensures.value) only)
      (c.copy.ensures ∙ ap (λ (m : List ℕ). each_listed open_slot (copied open_slot []) m c.self.inside.slots.items) c.deref.ensures.value ∙ wiped_all open_slot c.self.inside.filled.items c.self.inside.slots.items c.self.invariant.0 ∙ ap (λ n. replicate n open_slot) long)

pub invariant_of-self : goal.invariant_of-self
invariant_of-self c = (
  subst (OnlyFilled c.args.filled.items) (sym (same_slots c)) (only c),
  subst (OnlyHolding c.args.holding.items) (sym (same_slots c ∙ c.other.view_is)) c.requires.holding,
  subst (OnlyKeepers c.args.keepers) (sym (same_slots c ∙ c.other.view_is)) c.requires.keepers,
)

pub returns : goal.returns
returns c = same_slots c ∙ c.other.view_is
