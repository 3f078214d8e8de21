-- Where a reference becomes stale, or its class loses `fresh`.
use Rattle.std.specs.Prelude.{◌≡◌, ◌<◌, ℕ, ◌+◌, Bool, true, false, not, ◌&&◌, length, take}
use Rattle.fact_tables.specs.declared.known.Known.{Known}
use Rattle.fact_tables.specs.declared.known.Known.TheVariants as known
use Rattle.fact_tables.specs.Rows.{known_at, class_at}
use Rattle.facts.specs.Facts.{FactSet}
use Rattle.block_rules.specs.declared.context.RuleContext.{RuleContext as Given}
use Rattle.block_rules.specs.Edges.{entry_facts_at}
use Rattle.diagnosis.specs.Before.{seen, body_before, after_all}
use Rattle.diagnosis.specs.declared.changes.Change.{Change}
use Rattle.diagnosis.specs.declared.changes.Change.TheVariants as change

-- a reference of this class, stale or not, has changed so
abbrev pub cell_has : FactSet → (class : ℕ) → (stale : Bool) → Change → Bool
cell_has facts class stale change.Stale = stale
cell_has facts class stale change.Unfresh = not (class_at facts.classes class).fresh

-- what is known so is a reference that has changed so
abbrev pub known_has : FactSet → Known → Change → Bool
known_has facts (known.Cell class layout stale) how = cell_has facts class stale how
known_has facts _ how = false

-- what is known is a reference
abbrev pub is_cell : Known → Bool
is_cell (known.Cell class layout stale) = true
is_cell _ = false

-- a value is a reference that has changed so
abbrev pub has : FactSet → (value : ℕ) → Change → Bool
has facts value how = known_has facts (known_at facts.values value) how

-- a value is a reference that has not changed so
abbrev pub has_not : FactSet → (value : ℕ) → Change → Bool
has_not facts value how = is_cell (known_at facts.values value) && not (has facts value how)

-- a value is a reference before and after, and changes so in between
pub record ChangesAt (before after : FactSet) (value : ℕ) (how : Change) : Type 0 where
  pub not_before : has_not before value how ≡ true
  pub has_after : has after value how ≡ true

-- what is known of a block before the instruction with this number of the body, as far as it stands before this place of the block
abbrev pub at_index : Given → (func block place index : ℕ) → FactSet
at_index c func block place index = after_all c (entry_facts_at (seen c func) block) (take index (body_before c block place))

-- a value is a reference that changes so at the instruction with this number of the body, which stands before this place of the block
pub record ChangesIn (c : Given) (func block place index value : ℕ) (how : Change) : Type 0 where
  pub within : index < length (body_before c block place)
  pub changes : ChangesAt (at_index c func block place index) (at_index c func block place (index + 1)) value how
