use Rattle.std.proofs.Common.{◌≡◌}
use Rattle.block_check.specs.Rows.{first_entry_facts}
use Rattle.block_check.specs.FunctionUnderCheck.{seen}
use Rattle.block_check.proofs.entry_rows.first_entry_facts.Given as goal

abbrev pub invariant-loop-number : goal.invariant-loop-number
invariant-loop-number l = l.blocks.items ≡ first_entry_facts (seen l.under_check) l.number
