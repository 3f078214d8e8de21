-- When threads begin, and how the lines and the version of a trace's text tell it.
use Rattle.std.specs.Prelude.{◌≡◌, ◌<◌, Bool, true, false, ◌&&◌, if◌then◌else◌, List, [], ◌∷◌, length, codes, is_none, Option, Some, None}
use Rattle.std.proofs.Common.{arith}
use Rattle.std.specs.List.{list_any}
use Rattle.std.specs.Str.{bytes_eq}
use Rattle.grammar.specs.Grammar.{look}
use Rattle.grammar.specs.Takes.{Takes, TakesWhere, look_takes}
use Rattle.ir_tokens.specs.Bytes.{Text}
use Rattle.name_text.specs.Reader.{word}
use Rattle.name_text.specs.Forms.{taken_as, taken_takes}
use Rattle.trace_text.specs.Input.{Input, Form}
use Rattle.trace_text.specs.declared.mistake.TraceMistake.{TraceMistake}
use Rattle.trace_text.specs.declared.progress.TraceProgress.{TraceProgress}
use Rattle.trace_text.specs.declared.trace.Arrival.{Arrival}
use Rattle.trace_text.specs.declared.trace.Arrival.TheVariants.{AtStart, Late}
use Rattle.trace_text.specs.declared.trace.Start.{Start}
use Rattle.trace_text.specs.declared.versions.Version.{Version}
use Rattle.trace_text.specs.declared.versions.Version.TheVariants.{One, Two}

-- ---- arrivals

-- the thread begins while others run
abbrev pub is_late : Arrival → Bool
is_late AtStart = false
is_late Late = true

-- the first word of the line of a thread that begins so
abbrev pub start_word : Arrival → Text
start_word AtStart = codes "start"
start_word Late = codes "late"

-- ---- versions

-- the lines of a text of this version may begin threads late
abbrev pub has_late : Version → Bool
has_late One = false
has_late Two = true

-- the version that a word is
abbrev pub version_of_word : (word : Text) → Option Version
version_of_word word = if bytes_eq word (codes "1") then Some One else (if bytes_eq word (codes "2") then Some Two else None)

-- the version in which threads that begin so are written
abbrev pub version_of : List Start → Version
version_of starts = if list_any (λ start. is_late start.arrival) starts then Two else One

-- when the thread begins whose line begins with this word
abbrev pub arrival_of_word : Version → (word : Text) → Option Arrival
arrival_of_word version word =
    if bytes_eq word (codes "start") then Some AtStart else (if bytes_eq word (codes "late") && has_late version then Some Late else None)

-- ---- forms

-- the version of a text
unfoldable pub version : Form Version
version = look (λ i. version_of_word (word i)) taken_as

-- the first word of a thread's line
unfoldable pub arrival : Version → Form Arrival
arrival version = look (λ i. arrival_of_word version (word i)) taken_as

-- no thread's line comes here
abbrev pub past_starts : Version → Input → Bool
past_starts version i = is_none (arrival_of_word version (word i))

-- a word with which a thread's line begins has bytes
arrival_has_bytes : (version : Version) (w : Text) (begun : Arrival) → arrival_of_word version w ≡ Some begun → 0 < length w
arrival_has_bytes version [] begun e = absurd cc
arrival_has_bytes version (byte ∷ w) begun e = omega arith

-- the first word of a thread's line takes bytes
pub arrival_takes : (version : Version) → Takes (arrival version)
unfolding arrival
arrival_takes version = look_takes (λ i. arrival_of_word version (word i)) taken_as each
  where
    each : (k : Option Arrival) → TakesWhere (λ i. arrival_of_word version (word i) ≡ k) (taken_as {D = TraceProgress} {M = TraceMistake} k)
    each None i a o p h = absurd h
    each (Some begun) i a o p h = taken_takes TraceProgress TraceMistake begun i a o (arrival_has_bytes version (word i) begun p) h
