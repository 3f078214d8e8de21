-- The lines of a trace, and a trace's text.
use Rattle.std.specs.Prelude.{◌≡◌, ℕ, Bool, true, false, not, ◌&&◌, nat_le, nat_lt, if◌then◌else◌, List, [], length, map, Option, Some, None, slice_get, codes}
use Rattle.std.specs.List.{range_with_len}
use Rattle.std.proofs.Common.{lit<}
use Rattle.ir_ast.specs.declared.module.Module.{Module}
use Rattle.grammar.specs.Grammar.{pure, ◌>>=◌, ◌>>◌, step, checked, look, refuse}
use Rattle.grammar.specs.Many.{many}
use Rattle.grammar.specs.Takes.{Takes, TakesWhere, first_takes, first_takes_where, second_takes, look_takes}
use Rattle.name_text.specs.Places.{place}
use Rattle.layout.specs.Layouts.{LaidOut}
use Rattle.pools.specs.Heap.{cells_in}
use Rattle.ir_tokens.specs.Bytes.{Text as Bytes}
use Rattle.name_text.specs.Reader.{left, ended, begins, line_ends, recorded, recorded_falls}
use Rattle.name_text.specs.Forms.{skip, expect, line_end, word_taken, expect_takes}
use Rattle.trace_text.specs.Input.{Input, Form, start_of, emptied}
use Rattle.trace_text.specs.Forms.{function_name, new_layout, cell_count, argument, thread, put_pool, put_start, step_count}
use Rattle.trace_text.specs.Ends.{argument_takes}
use Rattle.trace_text.specs.Arrivals.{version, arrival, past_starts, arrival_takes}
use Rattle.moves.specs.declared.actor.Actor.{Actor}
use Rattle.moves.specs.declared.actor.Actor.TheVariants as actor
use Rattle.trace_text.specs.declared.trace.Arrival.{Arrival}
use Rattle.trace_text.specs.declared.trace.Trace.{Trace}
use Rattle.trace_text.specs.declared.versions.Version.{Version}
use Rattle.name_text.specs.declared.found.WordFault.{WordFault}
use Rattle.name_text.specs.declared.found.WordFault.TheVariants.{Syntax, Wrong, Memory}
use Rattle.trace_text.specs.declared.mistake.TraceMistake.{TraceMistake}
use Rattle.trace_text.specs.declared.mistake.TraceMistake.TheVariants.{NoThread, TooManySteps, TooManyCells}
use Rattle.trace_text.specs.declared.progress.TraceProgress.{TraceProgress}
use Rattle.trace_text.specs.declared.fault.TraceFault.{TraceFault}
use Rattle.trace_text.specs.declared.fault.TraceFault.TheVariants as fault

-- ---- pools

-- a pool after its first word
abbrev pub pool_after : Module → Form (Unit {0})
pool_after m = do
  layout ← new_layout m
  count ← cell_count
  line_end
  put_pool layout count

-- how many cells a layout has
unfoldable pub pool : Module → Form (Unit {0})
pool m = expect (codes "pool") >> pool_after m

-- a pool takes bytes
pub pool_takes : (m : Module) → Takes (pool m)
unfolding pool
pool_takes m = first_takes (expect (codes "pool")) (λ _. pool_after m) (expect_takes TraceProgress TraceMistake (codes "pool") (lit< tt))

-- no pool comes here
abbrev pub past_pools : Input → Bool
past_pools i = not (begins (codes "pool") i)

-- the pools
unfoldable pub pools : Module → Form (Unit {0})
pools m = many past_pools (pool m) (pool_takes m) >> pure tt

-- ---- threads

-- arguments up to the line's end
unfoldable pub arguments : Form (List ℕ)
arguments = many line_ends argument argument_takes

-- a line of numbers from outside comes here, in a text of the wide forms
abbrev pub has_values : Module → Input → Bool
has_values m i = m.wide && begins (codes "values") i

-- the line of the numbers that a thread gets from outside, if there is one
abbrev pub values_by : Bool → Form (List ℕ)
values_by false = pure []
values_by true = do
  expect (codes "values")
  given ← arguments
  line_end
  pure given

-- the numbers that a thread gets from outside, in the line after its own
unfoldable pub values : Module → Form (List ℕ)
values m = look (has_values m) values_by

-- whether fewer than 64 threads begin so far
abbrev pub has_room : Input → Bool
has_room i = nat_lt (length i.read.starts) 64

-- a start after its first word
abbrev pub start_after : Module → Arrival → Form (Unit {0})
start_after m begun = do
  function ← function_name m
  arguments ← arguments
  line_end
  values ← values m
  put_start begun function arguments values

-- how a thread begins, if there are not 64 of them
unfoldable pub start : Module → Version → Form (Unit {0})
start m v = checked has_room (λ i. Syntax (left i)) >> (arrival v >>= start_after m)

-- a start takes bytes
pub start_takes : (m : Module) (v : Version) → Takes (start m v)
unfolding start
start_takes m v =
    second_takes (checked has_room (λ i. Syntax (left i))) (λ _. arrival v >>= start_after m)
    (λ _. first_takes (arrival v) (start_after m) (arrival_takes v))

-- how the threads begin
unfoldable pub starts : Module → Version → Form (Unit {0})
starts m v = many (past_starts v) (start m v) (start_takes m v) >> pure tt

-- ---- steps

-- steps of an actor after their first words
abbrev pub steps_of : Actor → Form (Unit {0})
steps_of actor = step_count actor >> line_end

-- steps of a thread after their first word
abbrev pub thread_steps : Form (Unit {0})
thread_steps = thread >>= λ thread. steps_of (actor.Thread thread)

-- `t` begins steps of a thread, and `c` those of the collector
abbrev pub steps_by : Bool → Form (Unit {0})
steps_by true = skip >> thread_steps
steps_by false = expect (codes "c") >> steps_of actor.Collector

-- a line of steps
unfoldable pub steps_line : Form (Unit {0})
steps_line = look (begins (codes "t")) steps_by

-- a line of steps takes bytes
pub steps_line_takes : Takes steps_line
unfolding steps_line
steps_line_takes = look_takes (begins (codes "t")) steps_by each
  where
    each : (k : Bool) → TakesWhere (λ i. begins (codes "t") i ≡ k) (steps_by k)
    each true i a o p h = first_takes_where (λ i. begins (codes "t") i ≡ true) skip (λ _. thread_steps) (word_taken TraceProgress TraceMistake (codes "t") (lit< tt)) i a o p h
    each false i a o p h = first_takes (expect (codes "c")) (λ _. steps_of actor.Collector) (expect_takes TraceProgress TraceMistake (codes "c") (lit< tt)) i a o h

-- the steps end here
abbrev pub past_steps : Input → Bool
past_steps = begins (codes "end")

-- the steps
unfoldable pub all_steps : Form (Unit {0})
all_steps = many past_steps steps_line steps_line_takes >> pure tt

-- ---- the whole

-- the count that is listed, or 0
abbrev pub count_or_none : Option (Option ℕ) → ℕ
count_or_none (Some (Some count)) = count
count_or_none _ = 0

-- how many cells each of the layouts has; a pool that is not listed has none
abbrev pub counts_of : (layouts : ℕ) → List (Option ℕ) → List ℕ
counts_of layouts counts = map (λ layout. count_or_none (slice_get counts layout)) (range_with_len 0 layouts)

-- these counts, if all cells, with that of the globals, are within the limit
abbrev pub if_fitting : List ℕ → Option (List ℕ)
if_fitting counts = if nat_le (cells_in counts) 1048576 then Some counts else None

-- the pools of a program with these counts, if their cells are within the limit
abbrev pub pools_of : LaidOut → List (Option ℕ) → Option (List ℕ)
pools_of p counts = if_fitting (counts_of (length p.layouts) counts)

-- what is read, with these pools
abbrev pub trace_with : (pools : List ℕ) → Input → Trace
trace_with pools i = record { setup = record { pools = pools; starts = i.read.starts }; steps = i.read.steps }

-- the trace with these pools, if they are within the limit
abbrev pub finished_by : Option (List ℕ) → Form Trace
finished_by None = refuse (λ _. Wrong TooManyCells)
finished_by (Some pools) = step (trace_with pools) (recorded emptied) (recorded_falls emptied)

-- the trace, if its cells are within the limit
unfoldable pub finished : LaidOut → Form Trace
finished p = look (λ i. pools_of p i.read.counts) finished_by

-- the first line
unfoldable pub heading : Form Version
heading = do
  expect (codes "trace")
  v ← version
  line_end
  pure v

-- pools and threads
unfoldable pub setup : Module → Version → Form (Unit {0})
setup m v = pools m >> starts m v

-- steps between their first line and the text's end
unfoldable pub steps : Form (Unit {0})
steps = do
  expect (codes "steps")
  line_end
  all_steps
  expect (codes "end")
  line_end
  checked ended (λ i. Syntax (left i))

-- a text of a trace
unfoldable pub file : LaidOut → Form Trace
file p = do
  v ← heading
  setup p.of_module v
  steps
  finished p

-- the text is one of this trace, for this program
abbrev pub IsTrace : Bytes → LaidOut → Trace → Type 0
IsTrace bytes p trace = (o : Input) × (file p).says (start_of p bytes) trace o

-- a fault with its place
abbrev pub placed : Bytes → WordFault TraceMistake → TraceFault
placed bytes (Syntax rest) = fault.Syntax (place bytes rest)
placed bytes (Wrong (NoThread rest)) = fault.NoThread (place bytes rest)
placed bytes (Wrong (TooManySteps rest)) = fault.TooManySteps (place bytes rest)
placed bytes (Wrong TooManyCells) = fault.TooManyCells
placed bytes Memory = fault.Memory

-- the text is of the format up to a place, where it has this fault
abbrev pub IsFault : Bytes → LaidOut → TraceFault → Type 0
IsFault bytes p fault = (found : WordFault TraceMistake) × (file p).stuck (start_of p bytes) found × (placed bytes found ≡ fault)
