use Rattle.std.proofs.Common.{◌≡◌, ◌∙◌, ap, length, replicate, [], ℕ, List}
use Rattle.fact_tables.specs.EachListed.{each_listed, copied}
use Rattle.fact_tables.proofs.EachListed.{wiped_all}
use Rattle.fact_tables.specs.Sheets.{blank}
use Rattle.fact_tables.proofs.Current.{blank_current}
use Rattle.fact_tables.proofs.OwnersOf.{blank_non_owners}
use Rattle.fact_tables.proofs.Sheets.{all_blank}
use Rattle.fact_tables.proofs.sheet.Sheet.clear.Goals as goal

empty : (c : goal.After-clear-4) → c.copy.new.rows.items ≡ replicate (length c.self.inside.rows.items) blank
empty c = c.copy.ensures ∙ ap (λ (m : List ℕ). each_listed blank (copied blank []) m c.self.inside.rows.items) c.deref.ensures.value ∙ wiped_all blank c.self.inside.marked.items c.self.inside.rows.items c.self.invariant.0

pub invariant_of-self : goal.invariant_of-self
invariant_of-self c = (
  all_blank c.clear.new.self.items (length c.self.inside.rows.items) c.copy.new.rows.items (empty c),
  blank_current c.clear-2.new.self.items (length c.self.inside.rows.items) c.copy.new.rows.items (empty c),
  blank_non_owners c.clear-4.new.self.items c.clear-3.new.self.items (length c.self.inside.rows.items) c.copy.new.rows.items (empty c),
)

pub returns : goal.returns
returns c = empty c ∙ ap (λ l. replicate (length l) blank) c.self.view_is
