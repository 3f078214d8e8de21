-- The forms of names and numbers in a trace's text.
use Rattle.std.specs.Prelude.{ℕ, ◌+◌, Bool, true, false, nat_le, nat_lt, List, Option, Some, None, length, slice_get}
use Rattle.ir_ast.specs.declared.module.Module.{Module}
use Rattle.grammar.specs.Grammar.{◌>>◌, look}
use Rattle.name_text.specs.Numbers.{number_of_word}
use Rattle.trace_text.specs.Numbers.{count_of_word}
use Rattle.trace_text.specs.Names.{function_of_word, layout_of_word}
use Rattle.name_text.specs.Reader.{word}
use Rattle.name_text.specs.Forms.{syntax, wrong, skip, taken, taken_as, update}
use Rattle.trace_text.specs.Input.{Form, with_pool, with_start, with_steps}
use Rattle.moves.specs.declared.actor.Actor.{Actor}
use Rattle.trace_text.specs.declared.trace.Arrival.{Arrival}
use Rattle.trace_text.specs.declared.mistake.TraceMistake.TheVariants.{NoThread, TooManySteps}

-- ---- names and numbers

-- a defined function
unfoldable pub function_name : Module → Form ℕ
function_name m = look (λ i. function_of_word m (word i)) taken_as

-- a layout whose pool is not listed so far
abbrev pub layout_by : (layout : ℕ) → Option (Option ℕ) → Form ℕ
layout_by layout (Some None) = taken layout
layout_by layout (Some (Some count)) = syntax
layout_by layout None = syntax

-- the pool of the layout that is named is not listed so far
abbrev pub layout_named : Option ℕ → Form ℕ
layout_named None = syntax
layout_named (Some layout) = look (λ i. slice_get i.read.counts layout) (layout_by layout)

-- the name of a layout whose pool is not listed so far
unfoldable pub new_layout : Module → Form ℕ
new_layout m = look (λ i. layout_of_word m (word i)) layout_named

-- how many cells a pool has
unfoldable pub cell_count : Form ℕ
cell_count = look (λ i. count_of_word (word i)) taken_as

-- an argument
unfoldable pub argument : Form ℕ
argument = look (λ i. number_of_word (word i)) taken_as

-- a thread that begins
abbrev pub thread_by : (thread : ℕ) → Bool → Form ℕ
thread_by thread true = taken thread
thread_by thread false = wrong NoThread

-- a thread's number is below the count of the threads
abbrev pub thread_numbered : Option ℕ → Form ℕ
thread_numbered None = syntax
thread_numbered (Some thread) = look (λ i. nat_lt thread (length i.read.starts)) (thread_by thread)

-- the number of a thread
unfoldable pub thread : Form ℕ
thread = look (λ i. count_of_word (word i)) thread_numbered

-- ---- what is read

-- the pool of this layout has `count` cells
unfoldable pub put_pool : (layout count : ℕ) → Form (Unit {0})
put_pool layout count = update (with_pool layout count)

-- a thread begins so, at this function
unfoldable pub put_start : Arrival → (function : ℕ) → (arguments values : List ℕ) → Form (Unit {0})
put_start arrival function arguments values = update (with_start arrival function arguments values)

-- `count` more steps of this actor
unfoldable pub put_steps : Actor → (count : ℕ) → Form (Unit {0})
put_steps actor count = update (with_steps actor count)

-- `count` more steps are within the limit
abbrev pub steps_by : Actor → (count : ℕ) → Bool → Form (Unit {0})
steps_by actor count true = put_steps actor count >> skip
steps_by actor count false = wrong TooManySteps

-- with this number of steps more there are at most 10000000
abbrev pub steps_counted : Actor → Option ℕ → Form (Unit {0})
steps_counted actor None = syntax
steps_counted actor (Some count) = look (λ i. nat_le (i.read.made + count) 10000000) (steps_by actor count)

-- how many steps an actor makes
unfoldable pub step_count : Actor → Form (Unit {0})
step_count actor = look (λ i. count_of_word (word i)) (steps_counted actor)
