-- The text of traces.
use Rattle.std.specs.Prelude.{ℕ, ◌==◌, if◌then◌else◌, List, [], ◌∷◌, ◌++◌, length, codes, Option, Some, None, unwrap_or, slice_get}
use Rattle.std.specs.List.{flat_map, range_with_len}
use Rattle.std.specs.Fmt.{decimal}
pub use Rattle.ir_ast.specs.Names.{name_at}
pub use Rattle.ir_ast.specs.StructNames.{struct_name}
use Rattle.ir_ast.specs.declared.function.Function.{Function}
use Rattle.ir_ast.specs.declared.module.Module.{Module}
use Rattle.ir_tokens.specs.Bytes.{Text}
use Rattle.layout.specs.Layouts.{LaidOut}
use Rattle.name_text.specs.Names as names
use Rattle.name_text.specs.declared.blank.Blank.TheVariants as blank
use Rattle.trace_text.specs.Arrivals.{start_word, version_of}
use Rattle.moves.specs.declared.actor.Actor.{Actor}
use Rattle.moves.specs.declared.actor.Actor.TheVariants as actor
use Rattle.trace_text.specs.declared.trace.Start.{Start}
use Rattle.trace_text.specs.declared.trace.Steps.{Steps}
use Rattle.trace_text.specs.declared.trace.Trace.{Trace}
use Rattle.trace_text.specs.declared.versions.Version.{Version}
use Rattle.trace_text.specs.declared.versions.Version.TheVariants.{One, Two}

-- ---- names

-- a name, in quotes where it is not plain
abbrev pub name_text : Text → Text
name_text = names.name_text blank.Kept

-- the name of a layout's type, without its sign
abbrev pub layout_text : Module → (layout : ℕ) → Text
layout_text = names.layout_text blank.Kept

-- the name of a function with its sign, if there is one
abbrev pub name_of_function : Module → Option Function → Text
name_of_function m None = []
name_of_function m (Some f) = names.global_text blank.Kept m f.symbol

-- the name of a defined function with its sign
abbrev pub function_text : Module → (function : ℕ) → Text
function_text m function = name_of_function m (slice_get m.functions function)

-- ---- lines

-- the line of a pool, unless it has no cell
abbrev pub pool_line : Module → (layout count : ℕ) → Text
pool_line m layout count = if count == 0 then [] else codes "pool " ++ layout_text m layout ++ 32 ∷ (decimal count ++ 10 ∷ [])

-- the line of a layout's pool
abbrev pub pool_text : Module → (pools : List ℕ) → (layout : ℕ) → Text
pool_text m pools layout = pool_line m layout (unwrap_or (slice_get pools layout) 0)

-- the lines of the pools of this number of layouts
abbrev pub pools_text : Module → (layouts : ℕ) → (pools : List ℕ) → Text
pools_text m layouts pools = flat_map (pool_text m pools) (range_with_len 0 layouts)

-- arguments, each after a blank
abbrev pub arguments_text : List ℕ → Text
arguments_text = flat_map (λ argument. 32 ∷ decimal argument)

-- the line of a thread
abbrev pub start_line : Module → Start → Text
start_line m start = start_word start.arrival ++ 32 ∷ function_text m start.function ++ arguments_text start.arguments ++ 10 ∷ []

-- the line of the numbers that it gets from outside, unless there is none
abbrev pub values_text : List ℕ → Text
values_text [] = []
values_text (value ∷ values) = codes "values" ++ (arguments_text (value ∷ values) ++ 10 ∷ [])

-- the lines of a thread
abbrev pub start_text : Module → Start → Text
start_text m start = start_line m start ++ values_text start.values

-- who makes steps
abbrev pub actor_text : Actor → Text
actor_text (actor.Thread thread) = codes "t " ++ decimal thread ++ 32 ∷ []
actor_text actor.Collector = codes "c "

-- a line of steps
abbrev pub steps_line : Steps → Text
steps_line steps = actor_text steps.actor ++ decimal steps.count ++ 10 ∷ []

-- the first line
abbrev pub heading_text : Version → Text
heading_text One = codes "trace 1" ++ 10 ∷ []
heading_text Two = codes "trace 2" ++ 10 ∷ []

-- the lines of a trace, for this number of layouts
abbrev pub trace_lines : Module → (layouts : ℕ) → Trace → Text
trace_lines m layouts trace =
    heading_text (version_of trace.setup.starts)
    ++ pools_text m layouts trace.setup.pools
    ++ flat_map (start_text m) trace.setup.starts
    ++ (codes "steps" ++ 10 ∷ flat_map steps_line trace.steps)
    ++ (codes "end" ++ 10 ∷ [])

-- the text of a trace
abbrev pub trace_shown : LaidOut → Trace → Text
trace_shown p trace = trace_lines p.of_module (length p.layouts) trace
