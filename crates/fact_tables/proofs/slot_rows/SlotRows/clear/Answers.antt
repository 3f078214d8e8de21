use Rattle.std.proofs.Common.{◌≡◌, ◌∙◌, ap, length, replicate, ℕ, List, []}
use Rattle.fact_tables.specs.EachListed.{each_listed, copied}
use Rattle.fact_tables.proofs.EachListed.{wiped_all}
use Rattle.fact_tables.specs.Rows.{open_slot}
use Rattle.fact_tables.proofs.Keepers.{none_keep}
use Rattle.fact_tables.proofs.SlotLists.{all_open, none_holding}
use Rattle.fact_tables.proofs.slot_rows.SlotRows.clear.Goals as goal

empty : (c : goal.After-drop-self-inside-5) → c.copy.new.slots.items ≡ replicate (length c.self.inside.slots.items) open_slot
empty c = c.copy.ensures ∙ ap (λ (m : List ℕ). each_listed open_slot (copied open_slot []) m c.self.inside.slots.items) c.deref.ensures.value ∙ wiped_all open_slot c.self.inside.filled.items c.self.inside.slots.items c.self.invariant.0

pub invariant_of-self : goal.invariant_of-self
invariant_of-self c = (
  all_open c.clear.new.self.items (length c.self.inside.slots.items) c.copy.new.slots.items (empty c),
  none_holding c.clear-2.new.self.items (length c.self.inside.slots.items) c.copy.new.slots.items (empty c),
  none_keep c.new.result (length c.self.inside.slots.items) c.copy.new.slots.items (empty c),
)

pub returns : goal.returns
returns c = empty c ∙ ap (λ l. replicate (length l) open_slot) c.self.view_is
