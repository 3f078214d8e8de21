-- A module with other functions, and what of them one function is checked by.
use Rattle.std.specs.Prelude.{◌≡◌, ℕ, List, map, Option, Some, None, slice_get}
use Rattle.std.specs.List.{AllByRecursion}
use Rattle.ir_ast.specs.declared.function.Function.{Function}
use Rattle.ir_ast.specs.declared.instr.Instr.{Instr}
use Rattle.ir_ast.specs.declared.items_of_module.SymbolSort.{SymbolSort}
use Rattle.ir_ast.specs.declared.items_of_module.SymbolSort.TheVariants.{Defined}
use Rattle.ir_ast.specs.declared.module.Module.{Module}
use Rattle.ir_ast.specs.declared.op.Op.{Op}
use Rattle.ir_ast.specs.declared.op.Op.TheVariants.{Call}
use Rattle.certs.specs.declared.section.Mark.{Mark}
use Rattle.certs.specs.declared.section.Promise.{Promise}
use Rattle.certs.specs.declared.section.Section.{Section}
pub use Rattle.layout.specs.Functions.{with_functions, laid_with}
use Rattle.layout.specs.Layouts.{LaidOut}
use Rattle.block_rules.specs.Promises.{promises_in, promised_in, callee_mark}
use Rattle.block_rules.specs.InstrContext.{body_of}
use Rattle.block_rules.specs.Edges.{RuleContext}

-- ---- other functions

-- the same function, with the same certificate, among other functions and other certificates
abbrev pub context_with : RuleContext → List Function → (others : List Section) → RuleContext
context_with s fs others = record s { program = laid_with s.program fs; certs = others }

-- ---- what a caller sees of a function

-- the types with which a function is written: of its result and of its parameters
abbrev pub types_of : Option Function → Option (ℕ × List ℕ)
types_of None = None
types_of (Some f) = Some (f.returned, map (λ parameter. parameter.written) f.parameters)

-- what a caller sees of a function: its types, its mark, and what is promised of its parameters and its result
pub record Interface : Type 0 where
  pub types : Option (ℕ × List ℕ)
  pub mark : Mark
  pub parameters : List (Option Promise)
  pub result : Option Promise

-- of a function and its certificate
abbrev pub interface_of : Option Function → Option Section → Interface
interface_of f section = record { types = types_of f; mark = callee_mark section; parameters = promises_in section; result = promised_in section }

-- of the function with this number
abbrev pub interface_at : List Function → (certs : List Section) → (func : ℕ) → Interface
interface_at fs certs func = interface_of (slice_get fs func) (slice_get certs func)

-- ---- what a function calls

-- the number of the function that a name of this sort is
abbrev pub function_of_sort : Option SymbolSort → Option ℕ
function_of_sort (Some (Defined f)) = Some f
function_of_sort _ = None

-- the function that an operation calls, by its number
abbrev pub called_by : Module → Op → Option ℕ
called_by m (Call x) = function_of_sort (slice_get m.sorts x.callee)
called_by m _ = None

-- this holds of a number, if there is one
abbrev pub IfThere : (ℕ → Type 0) → Option ℕ → Type 0
IfThere P None = Unit {0}
IfThere P (Some n) = P n

-- this holds of each function that these instructions call
abbrev pub OfEachCalled : Module → (ℕ → Type 0) → List Instr → Type 0
OfEachCalled m P = AllByRecursion (λ instr. IfThere P (called_by m instr.op))

-- ---- what does not change

-- a function looks to its callers as it does among these other functions and certificates
abbrev pub LooksSame : LaidOut → (certs : List Section) → List Function → (others : List Section) → (func : ℕ) → Type 0
LooksSame p certs fs others func = interface_at fs others func ≡ interface_at p.of_module.functions certs func

-- so does each function that this one calls
abbrev pub CallsSame : LaidOut → (certs : List Section) → List Function → (others : List Section) → Function → Type 0
CallsSame p certs fs others f = (block : ℕ) → OfEachCalled p.of_module (LooksSame p certs fs others) (body_of f block)

-- a function and its certificate are the same among these other functions and certificates, and so is what it sees of those that it calls
pub record SameScope (p : LaidOut) (certs : List Section) (fs : List Function) (others : List Section) (func : ℕ) : Type 0 where
  pub code : slice_get fs func ≡ slice_get p.of_module.functions func
  pub section : slice_get others func ≡ slice_get certs func
  pub calls : (f : Function) → slice_get p.of_module.functions func ≡ Some f → CallsSame p certs fs others f
