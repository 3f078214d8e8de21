-- How calls are lowered.
use Rattle.std.specs.Prelude.{ℕ, Bool, List, [], ◌∷◌, ◌++◌, Option, Some, None, codes}
use Rattle.std.specs.Fmt.{decimal}
use Rattle.ir_ast.specs.IntegerFunctions.{taken_by}
use Rattle.ir_ast.specs.declared.argument.Argument.{Argument}
use Rattle.ir_ast.specs.declared.calls.Call.{Call}
use Rattle.ir_ast.specs.declared.instr.Instr.{Instr}
use Rattle.ir_ast.specs.declared.integer_function.IntegersTaken.{IntegersTaken}
use Rattle.ir_ast.specs.declared.integer_function.IntegersTaken.TheVariants.{Flagged}
use Rattle.ir_ast.specs.declared.module.Module.{Module}
use Rattle.ir_ast.specs.declared.outside.LayoutNumber.{LayoutNumber}
use Rattle.ir_ast.specs.declared.runtime.Runtime.{Runtime}
use Rattle.ir_ast.specs.declared.runtime.Runtime.TheVariants as runtime
use Rattle.ir_tokens.specs.Bytes.{Text}
use Rattle.ir_print.specs.Names.{global_text}
use Rattle.ir_print.specs.Operands.{argument_text}
use Rattle.ir_print.specs.Types.{type_text}
use Rattle.ir_print.specs.Instructions.{instruction_line, result_text}
use Rattle.types.specs.LayoutNumbers.{layout_meant}
use Rattle.types.specs.RuntimeCall.{runtime_called}
use Rattle.lowering.specs.declared.words.Seat.{Seat}
use Rattle.lowering.specs.Memory.{plain_line}
use Rattle.lowering.specs.Words.{load_text, local_line}

-- the line that stores null into the slot that is made a root
abbrev pub null_line : Module → (locals : List Text) → (arguments : List Argument) → Text
null_line m locals [] = []
null_line m locals (slot ∷ rest) = codes "  store ptr null, " ++ argument_text m locals slot ++ 10 ∷ []

-- a read of a reference, by the arguments of gcread
abbrev pub gcread_text : (recorded : Bool) → Module → (locals : List Text) → Seat → Instr → Call → (arguments : List Argument) → Text
gcread_text recorded m locals seat instr call (base ∷ place ∷ []) = load_text recorded m locals seat (record { result = instr.result; loaded = call.returned; place = place })
gcread_text recorded m locals seat instr call arguments = instruction_line m locals instr

-- how the call of the barrier begins
unfoldable pub barrier_word : Text
barrier_word = codes "  call void @dg_write("

-- the call of the barrier, with a value and its place
abbrev pub barrier_line : Module → (locals : List Text) → (value place : Argument) → Text
barrier_line m locals value place = barrier_word ++ argument_text m locals value ++ codes ", " ++ argument_text m locals place ++ codes ")\n"

-- a store of a reference after the barrier, by the arguments of gcwrite
abbrev pub gcwrite_text : Module → (locals : List Text) → Instr → (arguments : List Argument) → Text
gcwrite_text m locals instr (value ∷ base ∷ place ∷ []) = barrier_line m locals value place
gcwrite_text m locals instr arguments = instruction_line m locals instr

-- a call up to its first argument
abbrev pub call_head : Module → (locals : List Text) → Instr → Call → Text
call_head m locals instr call = codes "  " ++ result_text locals instr.result ++ codes "call " ++ type_text m call.returned ++ 32 ∷ global_text m call.callee ++ 40 ∷ []

-- a call of a function of an integer and a flag; for LLVM the flag would leave a result open, so it gets none that is set
abbrev pub flagged_line : (recorded : Bool) → Module → (locals : List Text) → Instr → Call → (taken : Argument) → Text
flagged_line recorded m locals instr call taken = local_line recorded ++ call_head m locals instr call ++ argument_text m locals taken ++ codes ", i1 false)\n"

-- a call of a function of integers, by what it takes; it makes no step on shared words
abbrev pub integers_text : (recorded : Bool) → Module → (locals : List Text) → Instr → Call → IntegersTaken → (arguments : List Argument) → Text
integers_text recorded m locals instr call Flagged (taken ∷ flag ∷ []) = flagged_line recorded m locals instr call taken
integers_text recorded m locals instr call _ arguments = plain_line recorded m locals instr

-- the end of a call of dg_alloc: the place of a layout in the table of layouts
abbrev pub layout_end : (layout : ℕ) → Text
layout_end layout = codes " " ++ decimal layout ++ codes ")\n"

-- a call of dg_alloc for this layout, by its place in the table of layouts
abbrev pub placed_line : Module → (locals : List Text) → Instr → Call → (number : Argument) → (layout : ℕ) → Text
placed_line m locals instr call number layout = call_head m locals instr call ++ type_text m number.written ++ layout_end layout

-- the same where a layout is meant
abbrev pub placed_by : Module → (locals : List Text) → Instr → Call → (number : Argument) → (layout : Option ℕ) → Text
placed_by m locals instr call number None = instruction_line m locals instr
placed_by m locals instr call number (Some layout) = placed_line m locals instr call number layout

-- by the arguments
abbrev pub placed_text : Module → (locals : List Text) → Instr → Call → (arguments : List Argument) → Text
placed_text m locals instr call (number ∷ []) = placed_by m locals instr call number (layout_meant m number.operand)
placed_text m locals instr call arguments = instruction_line m locals instr

-- a call of dg_alloc stands as it is where no numbers of layouts are listed: then they are the places in the table
abbrev pub alloc_text : Module → (locals : List Text) → Instr → Call → (numbers : List LayoutNumber) → Text
alloc_text m locals instr call [] = instruction_line m locals instr
alloc_text m locals instr call (line ∷ lines) = placed_text m locals instr call call.arguments

-- a call, by the function of the runtime that it calls; one of a function that is defined or only declared stands as it is
abbrev pub call_by : (recorded : Bool) → Module → (locals : List Text) → Seat → Instr → Call → Option Runtime → Text
call_by recorded m locals seat instr call None = plain_line recorded m locals instr
call_by recorded m locals seat instr call (Some runtime.Alloc) = alloc_text m locals instr call m.trusted.numbers
call_by recorded m locals seat instr call (Some runtime.Safepoint) = instruction_line m locals instr
call_by recorded m locals seat instr call (Some runtime.GcRoot) = plain_line recorded m locals instr ++ null_line m locals call.arguments
call_by recorded m locals seat instr call (Some runtime.GcRead) = gcread_text recorded m locals seat instr call call.arguments
call_by recorded m locals seat instr call (Some runtime.GcWrite) = gcwrite_text m locals instr call.arguments
call_by recorded m locals seat instr call (Some (runtime.Integer function bits)) = integers_text recorded m locals instr call (taken_by function) call.arguments
call_by recorded m locals seat instr call (Some (runtime.Float function bits)) = plain_line recorded m locals instr

-- a call
abbrev pub call_text : (recorded : Bool) → Module → (locals : List Text) → Seat → Instr → Call → Text
call_text recorded m locals seat instr call = call_by recorded m locals seat instr call (runtime_called m call.callee)
