-- Operations, from the forms of their families.
use Rattle.grammar.specs.Grammar.{pure, ◌>>=◌}
use Rattle.ir_ast.specs.declared.op.Op.{Op}
use Rattle.ir_forms.specs.Input.{Form}

-- a form of one family of operations, as a form of operations
abbrev pub as_op : {Family : Type 0} → (Family → Op) → Form Family → Form Op
as_op op form = form >>= λ x. pure (op x)
