-- What is known of a state outside of the names of the function that is read.
use Rattle.std.specs.Prelude.{◌≡◌, ℕ, true, List}
use Rattle.ir_ast.specs.declared.function.LocalSort.{LocalSort}
use Rattle.ir_ast.specs.declared.module.Module.{Module}
use Rattle.ir_forms.specs.Cursor.{kind, spelled, is_local_number}
use Rattle.ir_forms.specs.declared.table.Table.{Table}
use Rattle.ir_forms.specs.declared.uses.LocalUse.{LocalUse}
use Rattle.ir_forms.specs.declared.input.Input.{Input}
use Rattle.name_text.specs.Readings.{AreBytes}
use Rattle.ir_print_law.specs.Stands.{AreDigits}
use Rattle.ir_print_law.proofs.Reading.{Reading}

-- the state with these local names, uses of them, and counts
abbrev pub with_own : Table LocalSort → List LocalUse → (values unnamed : ℕ) → Input → Input
with_own t uses values unnamed i = record i { locals = t; local_uses = uses; values = values; unnamed = unnamed }

-- What holds whatever the names of a function are: what is written is bytes, and a number in place of a local name is digits.
pub record Outside (m : Module) : Type 1 where
  pub reading : Reading m
  pub on_own : (i : Input) (t : Table LocalSort) (uses : List LocalUse) (values unnamed : ℕ) → reading.Fore i → reading.Fore (with_own t uses values unnamed i)
  pub from_own : (i : Input) (t : Table LocalSort) (uses : List LocalUse) (values unnamed : ℕ) → reading.Back (with_own t uses values unnamed i) → reading.Back i
  pub bytes : (i : Input) → reading.Fore i → AreBytes (spelled i.cursor)
  pub digits : (i : Input) → reading.Fore i → is_local_number (kind i.cursor) ≡ true → AreDigits (spelled i.cursor)
