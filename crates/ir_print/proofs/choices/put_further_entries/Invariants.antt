use Rattle.std.proofs.Common.{◌≡◌, ◌++◌, take}
use Rattle.std.specs.List.{flat_map}
use Rattle.std.specs.Prelude.{codes}
use Rattle.ir_print.specs.Choices.{incoming_text}
use Rattle.ir_print.proofs.choices.put_further_entries.Given as goal

abbrev pub invariant-loop-entry : goal.invariant-loop-entry
invariant-loop-entry l = l.out.items ≡ l.fn.out.items ++ flat_map (λ entry. codes ", " ++ incoming_text l.«module» l.locals l.written entry) (take l.entry-index l.entries)
