-- What a trace is read from, and what is read so far.
use Rattle.std.specs.Prelude.{ℕ, ◌+◌, false, List, [], ◌∷◌, ◌++◌, Some, None, length, replicate, slice_set}
use Rattle.layout.specs.Layouts.{LaidOut}
use Rattle.ir_tokens.specs.Bytes.{Text}
use Rattle.name_text.specs.Words.{past_lines}
use Rattle.name_text.specs.Reader as reader
use Rattle.name_text.specs.declared.reader.Reader.{Reader}
use Rattle.moves.specs.declared.actor.Actor.{Actor}
use Rattle.trace_text.specs.declared.trace.Arrival.{Arrival}
use Rattle.trace_text.specs.declared.mistake.TraceMistake.{TraceMistake}
use Rattle.trace_text.specs.declared.progress.TraceProgress.{TraceProgress}

-- a trace's text, and what is read of it so far
abbrev pub Input : Type 0
Input = Reader TraceProgress

-- a form of a trace's text
abbrev pub Form : Type 0 → Type 1
Form A = reader.Form TraceProgress TraceMistake A

-- for this number of layouts no pool is listed, no thread begins and no step is made
abbrev pub nothing_read : (layouts : ℕ) → TraceProgress
nothing_read layouts = record { counts = replicate layouts None; starts = []; steps = []; made = 0 }

-- the state before a text
abbrev pub start_of : LaidOut → Text → Input
start_of p bytes = record { rest = past_lines false bytes; read = nothing_read (length p.layouts) }

-- the pool of this layout has `count` cells
unfoldable pub with_pool : (layout count : ℕ) → TraceProgress → TraceProgress
with_pool layout count p = record p { counts = slice_set p.counts layout (Some count) }

-- one more thread begins
unfoldable pub with_start : Arrival → (function : ℕ) → (arguments values : List ℕ) → TraceProgress → TraceProgress
with_start arrival function arguments values p = record p { starts = p.starts ++ record { arrival = arrival; function = function; arguments = arguments; values = values } ∷ [] }

-- `count` more steps of this actor
unfoldable pub with_steps : Actor → (count : ℕ) → TraceProgress → TraceProgress
with_steps actor count p = record p { steps = p.steps ++ record { actor = actor; count = count } ∷ []; made = p.made + count }

-- with no start and no step left
unfoldable pub emptied : TraceProgress → TraceProgress
emptied p = record p { starts = []; steps = [] }
