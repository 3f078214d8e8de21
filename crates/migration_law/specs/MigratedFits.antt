-- What is migrated fits.
use Rattle.std.specs.Prelude.{◌≡◌, ℕ, true, Some, is_some, Ok, slice_get}
use Rattle.ir_ast.specs.declared.elements.Element.{Element}
use Rattle.ir_ast.specs.declared.function.Function.{Function}
use Rattle.ir_ast.specs.declared.function.LocalSort.TheVariants as sort
use Rattle.ir_ast.specs.declared.function.Parameter.{Parameter}
use Rattle.ir_ast.specs.declared.instr.Instr.{Instr}
use Rattle.ir_ast.specs.declared.module.Module.{Module}
use Rattle.ir_ast.specs.declared.op.Op.TheVariants as op
use Rattle.copies.specs.Opaque.{opaque_module}
use Rattle.types.specs.References.{pointee}
use Rattle.types.specs.ValueTypes.{instruction_at}
use Rattle.certs.specs.Fits.{fits}
use Rattle.certs.specs.ForeignFit.{foreign_fits}
use Rattle.certs.specs.declared.certs.Certs.{Certs}
use Rattle.certificate.specs.Migrated.{IsMigration, is_typed_text}

-- each getelementptr of a function is of a typed pointer, and each parameter's value has the parameter's type
pub record IsTypedFunction (m : Module) (f : Function) : Type 0 where
  pub bases : (block place : ℕ) (instr : Instr) (x : Element) → instruction_at f block place ≡ Some instr → instr.op ≡ op.Element x → is_some (pointee m x.base_type) ≡ true
  pub parameters : (place : ℕ) (parameter : Parameter) → slice_get f.parameters place ≡ Some parameter → slice_get f.sorts parameter.value ≡ Some (sort.Value parameter.written)

-- so it is of each function of a module
abbrev pub IsTypedModule : Module → Type 0
IsTypedModule m = (number : ℕ) (f : Function) → slice_get m.functions number ≡ Some f → IsTypedFunction m f

-- sections that fit a module fit its opaque text once they are migrated
abbrev pub AreMigratedFitting : Type 0
AreMigratedFitting = (m : Module) (certs migrated : Certs) → is_typed_text m (opaque_module m) ≡ true → IsTypedModule m → fits m certs.sections ≡ true → IsMigration m certs (Ok migrated)
    → fits (opaque_module m) migrated.sections ≡ true

-- functions outside that fit a module are kept, and fit its opaque text
abbrev pub AreMigratedForeign : Type 0
AreMigratedForeign = (m : Module) (certs migrated : Certs) → foreign_fits m certs.foreign ≡ true → IsMigration m certs (Ok migrated) → (migrated.foreign ≡ certs.foreign) × (foreign_fits (opaque_module m) migrated.foreign ≡ true)
