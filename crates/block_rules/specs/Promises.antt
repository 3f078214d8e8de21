-- What the certificates of functions promise of parameters and results, and how they mark functions.
use Rattle.std.specs.Prelude.{ℕ, Bool, true, not, ◌&&◌, if◌then◌else◌, List, [], ◌∷◌, Option, Some, None}
use Rattle.std.specs.List.{list_all, zip}
use Rattle.ir_ast.specs.declared.argument.Argument.{Argument}
use Rattle.ir_ast.specs.declared.function.Function.{Function}
use Rattle.ir_ast.specs.declared.module.Module.{Module}
use Rattle.ir_ast.specs.declared.operand.Operand.{Operand}
use Rattle.shadow_stack.specs.Slots.{SlotTable}
use Rattle.certs.specs.declared.section.Mark.{Mark}
use Rattle.certs.specs.declared.section.Mark.TheVariants as mark
use Rattle.certs.specs.declared.section.Promise.{Promise}
use Rattle.certs.specs.declared.section.Section.{Section}
use Rattle.facts.specs.declared.given.Given.{Given}
use Rattle.facts.specs.declared.given.Given.TheVariants as given
use Rattle.facts.specs.Facts.{FactSet}
use Rattle.fact_tables.specs.Covers.{implied}
use Rattle.facts.specs.Claims.{is_below, promised_number}
use Rattle.type_kinds.specs.declared.type_kind.TypeKind.{TypeKind}
use Rattle.type_kinds.specs.declared.type_kind.TypeKind.TheVariants as kind
use Rattle.block_rules.specs.Operands.{known_of, is_nonnull, is_outside_value}
use Rattle.block_rules.specs.Integers.{below_of, known_layout, one_layout}

-- ---- what a certificate says of its function

-- what is promised of each parameter
abbrev pub promises_in : Option Section → List (Option Promise)
promises_in None = []
promises_in (Some section) = section.parameters

-- what is promised of the result
abbrev pub promised_in : Option Section → Option Promise
promised_in None = None
promised_in (Some section) = section.result

-- the mark by which a function is checked; without a certificate it may reach no safepoint
abbrev pub own_mark : Option Section → Mark
own_mark None = mark.None
own_mark (Some section) = section.mark

-- the mark by which a function is called; without a certificate it may reach one
abbrev pub callee_mark : Option Section → Mark
callee_mark None = mark.May
callee_mark (Some section) = section.mark

-- what a type says of a parameter or a result
abbrev pub given_by : TypeKind → Given
given_by (kind.Bits bits) = given.Number bits
given_by (kind.Reference layout) = given.Reference layout
given_by kind.AnyReference = given.AnyReference
given_by _ = given.Nothing

-- ---- what implies it

-- the layout that is promised is that of a reference
abbrev pub is_promised : (promised layout : Option ℕ) → Bool
is_promised None layout = true
is_promised (Some promised) layout = one_layout (Some promised) layout

-- K14: what is known of an operand implies what is promised of the result
abbrev pub keeps_promise : FactSet → Option Promise → Operand → Bool
keeps_promise facts None operand = true
keeps_promise facts (Some promise) operand =
    is_promised promise.layout (known_layout (known_of facts operand))
    && implied promise.nonnull (is_nonnull facts (known_of facts operand))
    && is_below (below_of facts operand) promise.below

-- K13, K14: a number is promised of an address outside, and of nothing else
abbrev pub says_what_it_is : (outside : Bool) → Option Promise → Bool
says_what_it_is outside promise = if promised_number promise then outside else not outside

-- K13: so it is with each argument; where there is no promise there is none of a number
abbrev pub say_what_they_are : Module → Function → SlotTable → FactSet → List Argument → List (Option Promise) → Bool
say_what_they_are m f slots facts [] promises = true
say_what_they_are m f slots facts (argument ∷ arguments) [] =
    not (is_outside_value m f slots facts argument.written argument.operand) && say_what_they_are m f slots facts arguments []
say_what_they_are m f slots facts (argument ∷ arguments) (promise ∷ promises) =
    says_what_it_is (is_outside_value m f slots facts argument.written argument.operand) promise && say_what_they_are m f slots facts arguments promises

-- what is known of an argument implies what is promised of its parameter
abbrev pub implies_promise : FactSet → Argument × Option Promise → Bool
implies_promise facts (argument, promise) = keeps_promise facts promise argument.operand

-- K13: what is known of each argument implies what is promised of its parameter
abbrev pub show_promises : FactSet → List Argument → List (Option Promise) → Bool
show_promises facts arguments promises = list_all (implies_promise facts) (zip arguments promises)
