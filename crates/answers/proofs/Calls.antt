-- What is asked of a call of a function that is known, and what is known after it, does not depend on functions.
use Rattle.std.specs.List.{list_all}
use Rattle.std.specs.Prelude.{Bool, List, None, Option, Some, [], false, not, refl, ℕ, ◌&&◌, ◌||◌, ◌∷◌, ◌≡◌}
use Rattle.block_rules.specs.Calls.{after_alloc_call, after_defined, after_foreign_call, after_integer_call, all_available, all_current, all_outside, all_passed, all_taken, all_values, alloc_conditions, are_root_arguments, defined_conditions, drop_arguments, foreign_conditions, integer_conditions, is_foreign_argument, is_taken, is_unrooted, is_written_to, is_written_with, may_root, no_slots, number_layouts, numbers_layout, past, read_call_conditions, receive_result, refused_conditions, root_conditions, safepoint_conditions, takes_address, takes_slot, within, write_call_conditions}
use Rattle.block_rules.specs.Integers.{define_number}
use Rattle.block_rules.specs.Places.{define_given}
use Rattle.block_rules.specs.Operands.{is_no_opaque_slot, is_null, known_fits, known_of, slot_named}
use Rattle.block_rules.specs.Promises.{callee_mark, given_by, promised_in, promises_in, say_what_they_are, says_what_it_is, show_promises}
use Rattle.type_kinds.specs.TypeKinds.{is_integer, is_pointer, is_reference}
use Rattle.block_rules.specs.declared.rule.Rule.TheVariants.{K1, K10, K12, K13, K17, K18, K2, K3, K9}
use Rattle.block_rules.specs.declared.instr_context.InstrContext.{InstrContext}
use Rattle.certs.specs.declared.section.Promise.{Promise}
use Rattle.fact_tables.specs.Rows.{slot_at}
use Rattle.facts.specs.Facts.{FactSet}
use Rattle.facts.specs.Claims.{receive}
use Rattle.ir_ast.specs.declared.argument.Argument.{Argument}
use Rattle.ir_ast.specs.declared.function.Function.{Function}
use Rattle.ir_ast.specs.declared.module.Module.{Module}
use Rattle.ir_ast.specs.declared.operand.Operand.{Operand}
use Rattle.ir_ast.specs.declared.runtime.Runtime.TheVariants.{Alloc, GcRead, GcRoot, GcWrite, Safepoint}
use Rattle.layout.specs.Layouts.{LaidOut}
use Rattle.safepoints.specs.Marks.{after_mark, is_may, marks_agree}
use Rattle.shadow_stack.specs.Slots.{SlotTable}
use Rattle.answers.proofs.Operands.{is_of_type_same, is_outside_value_same, is_passed_same, is_typed_same, is_value_same, kind_of_same, slot_kind_same}
use Rattle.answers.proofs.Places.{read_conditions_same, write_conditions_same}
use Rattle.answers.proofs.Signature.{is_written_as_same}
use Rattle.answers.specs.Local.{laid_with, with_functions}

pub all_values_same : (m : Module) (fs : List Function) → all_values (with_functions m fs) ≡ all_values m
all_values_same m fs = λ along f slots facts arguments. list_all (λ argument. is_value_same m fs along f slots facts argument.written argument.operand) arguments

pub all_passed_same : (m : Module) (fs : List Function) → all_passed (with_functions m fs) ≡ all_passed m
all_passed_same m fs = λ along f slots facts arguments. list_all (λ argument. is_passed_same m fs along f slots facts argument.written argument.operand) arguments

say_what_they_are_by : (m : Module) (fs : List Function) (f : Function) (slots : SlotTable) (facts : FactSet) (arguments : List Argument) (promises : List (Option Promise)) → say_what_they_are (with_functions m fs) f slots facts arguments promises ≡ say_what_they_are m f slots facts arguments promises
say_what_they_are_by m fs f slots facts [] promises = refl
say_what_they_are_by m fs f slots facts (argument ∷ arguments) [] = λ along. not (is_outside_value_same m fs along f slots facts argument.written argument.operand) && say_what_they_are_by m fs f slots facts arguments [] along
say_what_they_are_by m fs f slots facts (argument ∷ arguments) (promise ∷ promises) = λ along. says_what_it_is (is_outside_value_same m fs along f slots facts argument.written argument.operand) promise && say_what_they_are_by m fs f slots facts arguments promises along

pub say_what_they_are_same : (m : Module) (fs : List Function) → say_what_they_are (with_functions m fs) ≡ say_what_they_are m
say_what_they_are_same m fs = λ along f slots facts arguments promises. say_what_they_are_by m fs f slots facts arguments promises along

are_root_arguments_by : (m : Module) (fs : List Function) (f : Function) (slots : SlotTable) (facts : FactSet) (arguments : List Argument) → are_root_arguments (with_functions m fs) f slots facts arguments ≡ are_root_arguments m f slots facts arguments
are_root_arguments_by m fs f slots facts [] = refl
are_root_arguments_by m fs f slots facts (place ∷ rest) = λ along. is_of_type_same m fs along f facts place.written place.operand && all_values_same m fs along f slots facts rest

is_unrooted_by : (m : Module) (fs : List Function) (slots : SlotTable) (facts : FactSet) (slot : Option ℕ) → is_unrooted (with_functions m fs) slots facts slot ≡ is_unrooted m slots facts slot
is_unrooted_by m fs slots facts None = refl
is_unrooted_by m fs slots facts (Some s) = λ along. is_reference (slot_kind_same m fs along slots s) && not (slot_at facts.slots s).rooted

pub is_unrooted_same : (m : Module) (fs : List Function) → is_unrooted (with_functions m fs) ≡ is_unrooted m
is_unrooted_same m fs = λ along slots facts slot. is_unrooted_by m fs slots facts slot along

may_root_by : (m : Module) (fs : List Function) (slots : SlotTable) (facts : FactSet) (in_head : Bool) (arguments : List Argument) → may_root (with_functions m fs) slots facts in_head arguments ≡ may_root m slots facts in_head arguments
may_root_by m fs slots facts in_head (place ∷ metadata ∷ []) = λ along. in_head && is_null metadata.operand && is_unrooted_same m fs along slots facts (slot_named slots place.operand)
may_root_by m fs slots facts in_head _ = refl

pub may_root_same : (m : Module) (fs : List Function) → may_root (with_functions m fs) ≡ may_root m
may_root_same m fs = λ along slots facts in_head arguments. may_root_by m fs slots facts in_head arguments along

numbers_layout_by : (m : Module) (fs : List Function) (operand : Operand) → numbers_layout (with_functions m fs) operand ≡ numbers_layout m operand
numbers_layout_by m fs operand = refl

pub numbers_layout_same : (m : Module) (fs : List Function) → numbers_layout (with_functions m fs) ≡ numbers_layout m
numbers_layout_same m fs = λ along operand. numbers_layout_by m fs operand along

pub number_layouts_same : (m : Module) (fs : List Function) → number_layouts (with_functions m fs) ≡ number_layouts m
number_layouts_same m fs = λ along arguments. list_all (λ argument. numbers_layout_same m fs along argument.operand) arguments

-- after a call of dg_alloc the same is known
pub after_alloc_same : (m : Module) (fs : List Function) (result : Option ℕ) (arguments : List Argument) (facts : FactSet) → after_alloc_call (with_functions m fs) result arguments facts ≡ after_alloc_call m result arguments facts
after_alloc_same m fs None arguments facts = refl
after_alloc_same m fs (Some v) [] facts = refl
after_alloc_same m fs (Some v) (number ∷ rest) facts = refl

pub root_conditions_same : (m : Module) (fs : List Function) → root_conditions (with_functions m fs) ≡ root_conditions m
root_conditions_same m fs = λ along f slots here facts returned arguments. (K1, all_available slots facts arguments)
    ∷ (K2, are_root_arguments_by m fs f slots facts arguments along && is_written_as_same m fs along returned arguments GcRoot)
    ∷ (K3, all_current facts arguments)
    ∷ (K9, may_root_same m fs along slots facts here.in_head arguments)
    ∷ (K12, here.may_move_references) ∷ []

pub alloc_conditions_same : (m : Module) (fs : List Function) → alloc_conditions (with_functions m fs) ≡ alloc_conditions m
alloc_conditions_same m fs = λ along f slots here facts returned arguments. (K1, all_available slots facts arguments)
    ∷ (K2, all_values_same m fs along f slots facts arguments && is_written_as_same m fs along returned arguments Alloc && number_layouts_same m fs along arguments)
    ∷ (K12, here.may_move_references) ∷ []

pub safepoint_conditions_same : (m : Module) (fs : List Function) → safepoint_conditions (with_functions m fs) ≡ safepoint_conditions m
safepoint_conditions_same m fs = λ along here returned arguments. (K2, is_written_as_same m fs along returned arguments Safepoint)
    ∷ (K12, here.may_move_references)
    ∷ (K17, is_may here.mark) ∷ []

pub integer_conditions_same : (m : Module) (fs : List Function) → integer_conditions (with_functions m fs) ≡ integer_conditions m
integer_conditions_same m fs = λ along f slots here facts named returned arguments. (K1, all_available slots facts arguments)
    ∷ (K2, all_values_same m fs along f slots facts arguments && is_written_as_same m fs along returned arguments named)
    ∷ (K10, no_slots slots arguments)
    ∷ (K12, here.may_move_references) ∷ []

pub defined_conditions_same : (m : Module) (fs : List Function) → defined_conditions (with_functions m fs) ≡ defined_conditions m
defined_conditions_same m fs = λ along f slots here facts returned arguments called section. (K1, all_available slots facts arguments)
    ∷ (K2, all_passed_same m fs along f slots facts arguments && is_written_with returned arguments called)
    ∷ (K3, all_current facts arguments)
    ∷ (K10, no_slots slots arguments)
    ∷ (K12, here.may_move_references)
    ∷ (K13, show_promises facts arguments (promises_in section) && say_what_they_are_same m fs along f slots facts arguments (promises_in section))
    ∷ (K17, marks_agree here.mark (callee_mark section)) ∷ []

pub is_foreign_argument_same : (m : Module) (fs : List Function) → is_foreign_argument (with_functions m fs) ≡ is_foreign_argument m
is_foreign_argument_same m fs = λ along f slots facts argument. (is_integer (kind_of_same m fs along argument.written) && is_value_same m fs along f slots facts argument.written argument.operand)
    || ((is_null argument.operand && is_pointer (kind_of_same m fs along argument.written)) || is_outside_value_same m fs along f slots facts argument.written argument.operand)

pub is_taken_same : (m : Module) (fs : List Function) → is_taken (with_functions m fs) ≡ is_taken m
is_taken_same m fs = λ along f slots facts named argument. is_outside_value_same m fs along f slots facts argument.written argument.operand
    || (is_typed_same m fs along f argument.written argument.operand
    && (takes_address named || (known_fits (kind_of_same m fs along argument.written) (known_of facts argument.operand) && (takes_slot named || is_no_opaque_slot m slots argument.written argument.operand))))

pub all_taken_same : (m : Module) (fs : List Function) → all_taken (with_functions m fs) ≡ all_taken m
all_taken_same m fs = λ along f slots facts named arguments. list_all (is_taken_same m fs along f slots facts named) arguments

pub all_outside_same : (m : Module) (fs : List Function) → all_outside (with_functions m fs) ≡ all_outside m
all_outside_same m fs = λ along f slots facts arguments. list_all (λ argument. is_outside_value_same m fs along f slots facts argument.written argument.operand) arguments

pub foreign_conditions_same : (m : Module) (fs : List Function) → foreign_conditions (with_functions m fs) ≡ foreign_conditions m
foreign_conditions_same m fs = λ along f slots here facts returned arguments called. (K1, all_available slots facts arguments)
    ∷ (K2, list_all (is_foreign_argument_same m fs along f slots facts) (within called arguments) && all_taken_same m fs along f slots facts None (past called arguments) && is_written_to returned arguments called)
    ∷ (K3, all_current facts (past called arguments))
    ∷ (K10, no_slots slots arguments)
    ∷ (K12, here.may_move_references)
    ∷ (K18, all_outside_same m fs along f slots facts (past called arguments)) ∷ []

pub refused_conditions_same : (m : Module) (fs : List Function) → refused_conditions (with_functions m fs) ≡ refused_conditions m
refused_conditions_same m fs = λ along f slots here facts named arguments. (K1, all_available slots facts arguments)
    ∷ (K2, all_taken_same m fs along f slots facts named arguments)
    ∷ (K3, all_current facts arguments)
    ∷ (K10, takes_slot named || no_slots slots arguments)
    ∷ (K12, here.may_move_references)
    ∷ (K18, false) ∷ []

read_call_conditions_by : (p : LaidOut) (fs : List Function) (f : Function) (slots : SlotTable) (here : InstrContext) (facts : FactSet) (returned : ℕ) (arguments : List Argument) → read_call_conditions (laid_with p fs) f slots here facts returned arguments ≡ read_call_conditions p f slots here facts returned arguments
read_call_conditions_by p fs f slots here facts returned (object ∷ place ∷ []) = λ along. read_conditions_same p fs along f slots here facts returned object place
read_call_conditions_by p fs f slots here facts returned arguments = λ along. refused_conditions_same p.of_module fs along f slots here facts (Some GcRead) arguments

pub read_call_conditions_same : (p : LaidOut) (fs : List Function) → read_call_conditions (laid_with p fs) ≡ read_call_conditions p
read_call_conditions_same p fs = λ along f slots here facts returned arguments. read_call_conditions_by p fs f slots here facts returned arguments along

write_call_conditions_by : (p : LaidOut) (fs : List Function) (f : Function) (slots : SlotTable) (here : InstrContext) (facts : FactSet) (returned : ℕ) (arguments : List Argument) → write_call_conditions (laid_with p fs) f slots here facts returned arguments ≡ write_call_conditions p f slots here facts returned arguments
write_call_conditions_by p fs f slots here facts returned (value ∷ object ∷ place ∷ []) = λ along. write_conditions_same p fs along f slots here facts returned value object place
write_call_conditions_by p fs f slots here facts returned arguments = λ along. refused_conditions_same p.of_module fs along f slots here facts (Some GcWrite) arguments

pub write_call_conditions_same : (p : LaidOut) (fs : List Function) → write_call_conditions (laid_with p fs) ≡ write_call_conditions p
write_call_conditions_same p fs = λ along f slots here facts returned arguments. write_call_conditions_by p fs f slots here facts returned arguments along

receive_result_by : (m : Module) (fs : List Function) (result : Option ℕ) (returned : ℕ) (promise : Option Promise) (facts : FactSet) → receive_result (with_functions m fs) result returned promise facts ≡ receive_result m result returned promise facts
receive_result_by m fs None returned promise facts = refl
receive_result_by m fs (Some v) returned promise facts = λ along. receive v (given_by (kind_of_same m fs along returned)) promise facts

pub receive_result_same : (m : Module) (fs : List Function) → receive_result (with_functions m fs) ≡ receive_result m
receive_result_same m fs = λ along result returned promise facts. receive_result_by m fs result returned promise facts along

after_integer_call_by : (m : Module) (fs : List Function) (result : Option ℕ) (returned : ℕ) (facts : FactSet) → after_integer_call (with_functions m fs) result returned facts ≡ after_integer_call m result returned facts
after_integer_call_by m fs None returned facts = refl
after_integer_call_by m fs (Some v) returned facts = λ along. define_number v (kind_of_same m fs along returned) None facts

pub after_integer_call_same : (m : Module) (fs : List Function) → after_integer_call (with_functions m fs) ≡ after_integer_call m
after_integer_call_same m fs = λ along result returned facts. after_integer_call_by m fs result returned facts along

after_foreign_call_by : (m : Module) (fs : List Function) (result : Option ℕ) (returned : ℕ) (facts : FactSet) → after_foreign_call (with_functions m fs) result returned facts ≡ after_foreign_call m result returned facts
after_foreign_call_by m fs None returned facts = refl
after_foreign_call_by m fs (Some v) returned facts = λ along. define_given v (kind_of_same m fs along returned) facts

pub after_foreign_call_same : (m : Module) (fs : List Function) → after_foreign_call (with_functions m fs) ≡ after_foreign_call m
after_foreign_call_same m fs = λ along result returned facts. after_foreign_call_by m fs result returned facts along

pub after_defined_same : (m : Module) (fs : List Function) → after_defined (with_functions m fs) ≡ after_defined m
after_defined_same m fs = λ along result returned arguments section facts. receive_result_same m fs along result returned (promised_in section) (after_mark (callee_mark section) (drop_arguments arguments facts))
