-- With which types a function is written, and what a call of a declared name is of, does not depend on functions.
use Rattle.std.specs.List.{list_all, list_any, zip}
use Rattle.std.specs.Prelude.{List, None, Option, Some, if◌then◌else◌, length, nat_le, refl, ℕ, ◌&&◌, ◌||◌, ◌==◌, ◌≡◌}
use Rattle.block_rules.specs.Signature.{callable, callable_declare, is_argument_of, is_declared_as, is_foreign, is_of_type, is_runtime_type, is_written_as, may_be_given, signature_of}
use Rattle.type_kinds.specs.TypeKinds.{is_any_reference, is_bits, is_void}
use Rattle.block_rules.specs.declared.callee.Callee.TheVariants.{Foreign, NoFunction, OfRuntime}
use Rattle.block_rules.specs.declared.signature.RuntimeType.{RuntimeType}
use Rattle.block_rules.specs.declared.signature.RuntimeType.TheVariants.{Bits, Pointer, PointerToPointer, Void}
use Rattle.ir_ast.specs.declared.argument.Argument.{Argument}
use Rattle.ir_ast.specs.declared.function.Function.{Function}
use Rattle.ir_ast.specs.declared.items_of_module.Declare.{Declare}
use Rattle.ir_ast.specs.declared.module.Module.{Module}
use Rattle.ir_ast.specs.declared.runtime.Runtime.{Runtime}
use Rattle.types.specs.References.{is_opaque}
use Rattle.answers.proofs.Operands.{kind_of_same, place_kind_same}
use Rattle.answers.specs.Local.{with_functions}

is_runtime_type_by : (m : Module) (fs : List Function) (written : ℕ) (type : RuntimeType) → is_runtime_type (with_functions m fs) written type ≡ is_runtime_type m written type
is_runtime_type_by m fs written Void = λ along. is_void (kind_of_same m fs along written)
is_runtime_type_by m fs written (Bits bits) = λ along. is_bits bits (kind_of_same m fs along written)
is_runtime_type_by m fs written Pointer = λ along. is_any_reference (kind_of_same m fs along written)
is_runtime_type_by m fs written PointerToPointer = λ along. is_opaque m written || is_any_reference (place_kind_same m fs along written)

pub is_runtime_type_same : (m : Module) (fs : List Function) → is_runtime_type (with_functions m fs) ≡ is_runtime_type m
is_runtime_type_same m fs = λ along written type. is_runtime_type_by m fs written type along

is_of_type_by : (m : Module) (fs : List Function) (x : ℕ × RuntimeType) → is_of_type (with_functions m fs) x ≡ is_of_type m x
is_of_type_by m fs (written, type) = λ along. is_runtime_type_same m fs along written type

pub is_of_type_same : (m : Module) (fs : List Function) → is_of_type (with_functions m fs) ≡ is_of_type m
is_of_type_same m fs = λ along x. is_of_type_by m fs x along

is_argument_of_by : (m : Module) (fs : List Function) (x : Argument × RuntimeType) → is_argument_of (with_functions m fs) x ≡ is_argument_of m x
is_argument_of_by m fs (argument, type) = λ along. is_runtime_type_same m fs along argument.written type

pub is_argument_of_same : (m : Module) (fs : List Function) → is_argument_of (with_functions m fs) ≡ is_argument_of m
is_argument_of_same m fs = λ along x. is_argument_of_by m fs x along

pub is_declared_as_same : (m : Module) (fs : List Function) → is_declared_as (with_functions m fs) ≡ is_declared_as m
is_declared_as_same m fs = λ along declared runtime. let signature = signature_of runtime in
    is_runtime_type_same m fs along declared.returned signature.returned
    && ((length declared.parameters == length signature.parameters) && list_all (is_of_type_same m fs along) (zip declared.parameters signature.parameters))

pub is_written_as_same : (m : Module) (fs : List Function) → is_written_as (with_functions m fs) ≡ is_written_as m
is_written_as_same m fs = λ along returned arguments runtime. let signature = signature_of runtime in
    is_runtime_type_same m fs along returned signature.returned && list_all (is_argument_of_same m fs along) (zip arguments signature.parameters)

pub is_foreign_same : (m : Module) (fs : List Function) → is_foreign (with_functions m fs) ≡ is_foreign m
is_foreign_same m fs = λ along arguments declared. m.wide && (list_any (λ s. s == declared.symbol) m.trusted.functions
    && (may_be_given (kind_of_same m fs along declared.returned) && nat_le (length declared.parameters) arguments))

callable_by : (m : Module) (fs : List Function) (arguments number : ℕ) (declared : Declare) (runtime : Option Runtime) → callable (with_functions m fs) arguments number declared runtime ≡ callable m arguments number declared runtime
callable_by m fs arguments number declared None = λ along. if is_foreign_same m fs along arguments declared then Foreign number else NoFunction None
callable_by m fs arguments number declared (Some runtime) = λ along. if is_declared_as_same m fs along declared runtime && (arguments == length (signature_of runtime).parameters) then OfRuntime runtime else NoFunction (Some runtime)

pub callable_same : (m : Module) (fs : List Function) → callable (with_functions m fs) ≡ callable m
callable_same m fs = λ along arguments number declared runtime. callable_by m fs arguments number declared runtime along

callable_declare_by : (m : Module) (fs : List Function) (arguments number : ℕ) (declared : Option Declare) → callable_declare (with_functions m fs) arguments number declared ≡ callable_declare m arguments number declared
callable_declare_by m fs arguments number None = refl
callable_declare_by m fs arguments number (Some declared) = λ along. callable_same m fs along arguments number declared declared.runtime

pub callable_declare_same : (m : Module) (fs : List Function) → callable_declare (with_functions m fs) ≡ callable_declare m
callable_declare_same m fs = λ along arguments number declared. callable_declare_by m fs arguments number declared along
