-- Traces of a program, and the programs whose names are read as they are printed.
use Rattle.std.specs.Prelude.{◌≡◌, false, ℕ, ◌<◌, ◌≤◌, ◌^◌, List, length, map, sum, Option, Some, None, [], slice_get}
use Rattle.std.specs.List.{AllByRecursion}
use Rattle.moves.specs.Runs.{IsActor}
use Rattle.ir_ast.specs.Names.{name_at}
use Rattle.ir_ast.specs.StructNames.{struct_name}
use Rattle.ir_ast.specs.declared.function.Function.{Function}
use Rattle.ir_ast.specs.declared.module.Module.{Module}
use Rattle.layout.specs.Layouts.{LaidOut}
use Rattle.ir_tokens.specs.Bytes.{Text}
use Rattle.name_text.specs.Readings.{IsShort}
use Rattle.name_text.specs.declared.blank.Blank.TheVariants as blank
use Rattle.pools.specs.Heap.{cells_in}
use Rattle.trace_text.specs.Names.{function_named, layout_named}
use Rattle.trace_text.specs.declared.trace.Start.{Start}
use Rattle.trace_text.specs.declared.trace.Steps.{Steps}
use Rattle.trace_text.specs.declared.trace.Trace.{Trace}

-- the name of a function, if there is one
abbrev pub symbol_name : Module → Option Function → Text
symbol_name m None = []
symbol_name m (Some f) = name_at m.symbols f.symbol

-- each function and each layout has a short name, and is the one that has it
pub record AreNamed (p : LaidOut) : Type 0 where
  pub short_function : (function : ℕ) → function < length p.of_module.functions → IsShort blank.Kept (symbol_name p.of_module (slice_get p.of_module.functions function))
  pub function : (function : ℕ) → function < length p.of_module.functions → function_named p.of_module (Some (symbol_name p.of_module (slice_get p.of_module.functions function))) ≡ Some function
  pub short_layout : (layout : ℕ) → layout < length p.layouts → IsShort blank.Kept (struct_name p.of_module (slice_get p.of_module.structs layout))
  pub layout : (layout : ℕ) → layout < length p.layouts → layout_named p.of_module (Some (struct_name p.of_module (slice_get p.of_module.structs layout))) ≡ Some layout

-- a thread begins at a function of the program, with arguments of 64 bits; numbers from outside, of 64 bits too, are for texts of the wide forms
abbrev pub IsStartOf : LaidOut → Start → Type 0
IsStartOf p start =
    (start.function < length p.of_module.functions)
    × AllByRecursion (λ argument. argument < 2 ^ 64) start.arguments
    × AllByRecursion (λ value. value < 2 ^ 64) start.values
    × (p.of_module.wide ≡ false → start.values ≡ [])

-- how many steps there are
abbrev pub step_sum : List Steps → ℕ
step_sum steps = sum (map (λ (s : Steps). s.count) steps)

-- a trace of the program, within the limits of cells, threads and steps
pub record IsTraceOf (p : LaidOut) (trace : Trace) : Type 0 where
  pub one_each : length trace.setup.pools ≡ length p.layouts
  pub cells : cells_in trace.setup.pools ≤ 2 ^ 20
  pub starts : AllByRecursion (IsStartOf p) trace.setup.starts
  pub threads : length trace.setup.starts ≤ 64
  pub actors : AllByRecursion (λ (s : Steps). IsActor (length trace.setup.starts) s.actor) trace.steps
  pub steps : step_sum trace.steps ≤ 10000000
