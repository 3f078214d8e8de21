use Rattle.ir_print_law.proofs.Numbered.{numbered_values_are_read}
use Rattle.ir_print_law.proofs.NamesRead.{locals_are_read, targets_are_read, new_values_are_read, labels_are_read, collectors_are_read, local_operands_are_read, global_operands_are_read, callees_are_read, struct_names_are_read}
use Rattle.ir_print_law.proofs.reading_laws.name_law.Goals as goal

pub returns-clause-locals : goal.returns-clause-locals
returns-clause-locals c = locals_are_read

pub returns-clause-local_operands : goal.returns-clause-local_operands
returns-clause-local_operands c = local_operands_are_read

pub returns-clause-global_operands : goal.returns-clause-global_operands
returns-clause-global_operands c = global_operands_are_read

pub returns-clause-callees : goal.returns-clause-callees
returns-clause-callees c = callees_are_read

pub returns-clause-structs : goal.returns-clause-structs
returns-clause-structs c = struct_names_are_read

pub returns-clause-targets : goal.returns-clause-targets
returns-clause-targets c = targets_are_read

pub returns-clause-new_values : goal.returns-clause-new_values
returns-clause-new_values c = new_values_are_read

pub returns-clause-labels : goal.returns-clause-labels
returns-clause-labels c = labels_are_read

pub returns-clause-collectors : goal.returns-clause-collectors
returns-clause-collectors c = collectors_are_read

pub returns-clause-numbered_values : goal.returns-clause-numbered_values
returns-clause-numbered_values c = numbered_values_are_read
