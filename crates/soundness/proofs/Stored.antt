-- What a store of a reference leaves: its class is fresh no more, and each other class that is fresh stays so.
use Rattle.std.proofs.Common.{◌≡◌, ◌≢◌, ℕ, List, sym, ◌∙◌, true, false, inl, inr}
use Rattle.pools.specs.Heap.{Setup}
use Rattle.layout.specs.Layouts.{LaidOut}
use Rattle.shadow_stack.specs.Slots.{SlotTable}
use Rattle.fact_tables.specs.declared.known.Known.TheVariants.{Cell}
use Rattle.fact_tables.specs.Rows.{known_at, class_at, lost_class}
use Rattle.facts.specs.Facts.{FactSet, drop_fresh}
use Rattle.machine.specs.declared.value.Reference.{Reference}
use Rattle.machine.specs.declared.value.Value.{Value}
use Rattle.machine.specs.declared.value.Value.TheVariants as value
use Rattle.machine.specs.Log.{Log, Held, IsFresh, RefersToCell}
use Rattle.soundness.specs.Meaning.{Cells, Guarded, IsNullOrFresh, AreApart, Holds}
use Rattle.soundness.proofs.Lists.{at_set}
use Rattle.soundness.proofs.Change.{drop_keeps}
use Rattle.soundness.proofs.Named.{named_cells, log_keeps_named}
use Rattle.soundness.specs.Goes.{IsNamed, HasMember, HaveMembers}

-- some value is of a fresh class that a slot holds
member_named : (facts : FactSet) (c : ℕ) → (class_at facts.classes c).fresh ≡ true → HasMember facts c → IsNamed facts.values c
member_named facts c fr (inl m) = m
member_named facts c fr (inr n) = absurd (let x = sym fr ∙ n.1 in cc)

-- a class that is fresh where another's freshness has ended was so before, and is no such class
still_fresh : (facts : FactSet) (c d : ℕ) → (class_at (drop_fresh c facts).classes d).fresh ≡ true → ((class_at facts.classes d).fresh ≡ true) × (c ≢ d)
still_fresh facts c d = at_set (λ x. x.fresh ≡ true → ((class_at facts.classes d).fresh ≡ true) × (c ≢ d)) facts.classes c d _ lost_class (λ e lt z. absurd cc) (λ ne z. (z, ne)) (λ z. absurd cc)

-- what is apart from a cell refers to another one, if to any
other_cell : (layout : ℕ) (at : Reference) (v : Value) → AreApart (value.Cell layout at) v → RefersToCell v at.cell → ⊥
other_cell layout at value.Unset a z = z
other_cell layout at (value.Number n) a z = z
other_cell layout at value.Null a z = z
other_cell layout at (value.Cell own there) a z = a (sym z)
other_cell layout at (value.Address x) a z = z

-- what was fresh, and is apart from a stored value, stays so
fresh_stays : (log later : Log) (v stored : Value) → ((cell : ℕ) → IsFresh log cell → (RefersToCell stored cell → ⊥) → IsFresh later cell) → IsNullOrFresh log v → AreApart v stored → IsNullOrFresh later v
fresh_stays log later value.Unset stored fresh o a = o
fresh_stays log later (value.Number n) stored fresh o a = o
fresh_stays log later value.Null stored fresh o a = o
fresh_stays log later (value.Cell l at) stored fresh o a = fresh at.cell o (other_cell l at stored a)
fresh_stays log later (value.Address x) stored fresh o a = o

module _ (heap : Setup) (p : LaidOut) (table : SlotTable) (guarded : Guarded) (log : Log) (cells : Cells) (facts : FactSet) (registers slots : List Value) (h : Holds heap p table guarded log cells facts registers slots) (members : HaveMembers facts) where
  -- the class of an available reference is stored, and fresh no more
  pub class_stored : (later : Log) → ((r : Reference) → Held log r → Held later r) → (u c l : ℕ) → known_at facts.values u ≡ Cell c l false → ((cell : ℕ) → IsFresh log cell → (RefersToCell (cells c) cell → ⊥) → IsFresh later cell)
      → Holds heap p table guarded later (named_cells (drop_fresh c facts) cells) (drop_fresh c facts) registers slots
  class_stored later held u c l is fresh =
      log_keeps_named heap p table guarded log cells (drop_fresh c facts) registers slots (drop_keeps heap p table guarded log cells facts registers slots h c) later held
      (λ d w k s at fr o. let z = still_fresh facts c d fr in fresh_stays log later (cells d) (cells c) fresh o (h.alone w u d c k l s at is z.0 (λ e. z.1 (sym e))))
      (λ s d e fr. member_named facts d (still_fresh facts c d fr).0 (members.0 s d e))
