-- What is implied on an edge from block to block holds after it.
use Rattle.std.specs.Prelude.{◌≡◌, ℕ, List, length, None}
use Rattle.pools.specs.Heap.{Setup}
use Rattle.facts.specs.Facts.{FactSet}
use Rattle.block_rules.specs.InstrContext.{phis_of}
use Rattle.block_rules.specs.Edges.{RuleContext, claim_facts, entered, unmet_claim}
use Rattle.machine.specs.declared.value.Value.{Value}
use Rattle.machine.specs.Jumps.{put_phis}
use Rattle.machine.specs.Log.{Log}
use Rattle.soundness.specs.Meaning.{Cells, Holds}

-- the facts of a block hold of a thread, and each claim of a target is implied after its phis: then what the target begins with holds once its phis have taken their entries
abbrev pub ImpliedHolds : Type 0
ImpliedHolds =
    (heap : Setup) (s : RuleContext) (log : Log) (cells : Cells) (facts : FactSet) (registers slots : List Value) (from to : ℕ) → Holds heap s.program s.slots (λ cell. ⊥) log cells facts registers slots
    → length registers ≡ length s.function.locals → unmet_claim s to (entered s from to facts) ≡ None
    → (more : Cells) × Holds heap s.program s.slots (λ cell. ⊥) log more (claim_facts s to) (put_phis s.program.of_module s.function registers from (phis_of s.function to) registers) slots
