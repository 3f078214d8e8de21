-- What is printed of ends of blocks that write no type is read as these ends.
use Rattle.std.specs.Prelude.{ℕ, ◌<◌, ◌^◌, List, ◌++◌}
use Rattle.ir_ast.specs.Names.{number_of}
use Rattle.ir_ast.specs.declared.ends.End.TheVariants.{Jump, Unreachable, ReturnVoid}
use Rattle.ir_tokens.specs.Bytes.{Text}
use Rattle.ir_forms.specs.declared.uses.Wanted.TheVariants as wants
use Rattle.ir_forms.specs.declared.input.Input.{Input}
use Rattle.ir_forms.specs.Input.{advanced}
use Rattle.ir_forms.specs.Names.{with_local_use}
use Rattle.ir_forms.specs.Ends.{terminator}
use Rattle.ir_print.specs.Names.{name_at}
use Rattle.ir_print.specs.Ends.{end_text}
use Rattle.ir_print_law.specs.Readings.{IsKey}
use Rattle.ir_print_law.specs.Stands.{Stands, IsSeam, AreBlanks}
use Rattle.ir_ast.specs.declared.module.Module.{Module}

-- a jump is read as the jump to the block of this name
abbrev pub JumpsAreRead : Type 0
JumpsAreRead =
    (m : Module) (locals : List Text) (label : ℕ) (i : Input) (gap rest : Text) → IsKey (name_at locals label) → number_of (name_at locals label) i.locals.names < 2 ^ 32
    → AreBlanks gap → IsSeam rest → Stands i.cursor (gap ++ (end_text m locals (Jump label) ++ rest))
    → terminator.says i (Jump (number_of (name_at locals label) i.locals.names)) (with_local_use wants.Target (advanced (advanced i)))
    × Stands (with_local_use wants.Target (advanced (advanced i))).cursor rest

-- the end of a function without a result
abbrev pub EmptyReturnsAreRead : Type 0
EmptyReturnsAreRead =
    (m : Module) (locals : List Text) (i : Input) (gap rest : Text) → AreBlanks gap → IsSeam rest → Stands i.cursor (gap ++ (end_text m locals ReturnVoid ++ rest))
    → terminator.says i ReturnVoid (advanced (advanced i)) × Stands (advanced (advanced i)).cursor rest

-- what is never reached
abbrev pub UnreachablesAreRead : Type 0
UnreachablesAreRead =
    (m : Module) (locals : List Text) (i : Input) (gap rest : Text) → AreBlanks gap → IsSeam rest → Stands i.cursor (gap ++ (end_text m locals Unreachable ++ rest))
    → terminator.says i Unreachable (advanced i) × Stands (advanced i).cursor rest
