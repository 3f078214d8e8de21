-- Modules of typed text, as far as migration depends on their types.
use Rattle.std.specs.Prelude.{◌≡◌, ℕ, false, Some, slice_get}
use Rattle.ir_ast.specs.declared.function.Function.{Function}
use Rattle.ir_ast.specs.declared.function.LocalSort.TheVariants as sort
use Rattle.ir_ast.specs.declared.function.Parameter.{Parameter}
use Rattle.ir_ast.specs.declared.module.Module.{Module}
use Rattle.ir_print_law.specs.Printable.{IsPrintable}
use Rattle.certs.specs.Families.{is_opaque_text}
use Rattle.migration_law.specs.MigratedFits.{IsTypedModule}

-- each parameter's value has the parameter's type
abbrev pub AreParametersTyped : Function → Type 0
AreParametersTyped f = (place : ℕ) (parameter : Parameter) → slice_get f.parameters place ≡ Some parameter → slice_get f.sorts parameter.value ≡ Some (sort.Value parameter.written)

-- in a printable module of a typed text each getelementptr is of a typed pointer
abbrev pub ArePrintableTyped : Type 0
ArePrintableTyped = (m : Module) → IsPrintable m → is_opaque_text m ≡ false → ((number : ℕ) (f : Function) → slice_get m.functions number ≡ Some f → AreParametersTyped f) → IsTypedModule m
