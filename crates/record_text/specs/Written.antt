-- What is written for what an entry says.
use Rattle.std.specs.Prelude.{ℕ, ◌≡◌, ◌<◌, ◌+◌, ◌*◌, ◌^◌, List, ◌∷◌, ◌++◌, length, reverse}
use Rattle.std.specs.Int.{to_le_bytes, w16, w32, w64}
use Rattle.colours.specs.declared.turn.Turn.{Turn}
use Rattle.colours.specs.declared.turn.Turn.TheVariants as turn
use Rattle.record_text.specs.declared.entry.Entry.{Entry}
use Rattle.record_text.specs.declared.steps.ThreadStep.{ThreadStep}
use Rattle.record_text.specs.declared.steps.ThreadStep.TheVariants.{ReadWord, ReadOldValue, StoreAfterBarrier, StorePlain}
use Rattle.record_text.specs.declared.steps.Recorded.{Recorded}
use Rattle.record_text.specs.declared.steps.Recorded.TheVariants.{Thread, Root, Collector, Unknown}
use Rattle.record_text.specs.declared.writing.Fields.{Fields}
use Rattle.record_text.specs.Entries.{entries_of}

-- ---- bytes

-- the bytes of an entry
abbrev pub bytes_of : Entry → List ℕ
bytes_of e = e.actor ∷ e.kind ∷ (to_le_bytes w16 e.word ++ (to_le_bytes w32 e.cell ++ to_le_bytes w64 e.value))

-- the bytes are those of these entries, the newest first
pub record IsRecord (bytes : List ℕ) (entries : List Entry) : Type 0 where
  pub whole : length bytes ≡ length entries * 16
  pub reads : reverse (entries_of bytes) ≡ entries

-- ---- entries

-- the entry of an actor with these numbers
abbrev pub entry_by : (actor : ℕ) → Fields → Entry
entry_by actor f = record { actor = actor; kind = f.kind; word = f.word; cell = f.cell; value = f.value }

-- the word of a thread's step
abbrev pub word_of_step : ThreadStep → ℕ
word_of_step (ReadWord cell word value) = word
word_of_step (ReadOldValue cell word value) = word
word_of_step (StoreAfterBarrier cell word value) = word
word_of_step (StorePlain cell word value) = word
word_of_step step = 0

-- the word of a step of the collector
abbrev pub word_of_turn : Turn → ℕ
word_of_turn (turn.ScanWord cell word value) = word
word_of_turn (turn.ClearWord cell word) = word
word_of_turn turn = 0

-- the thread whose stage it reads
abbrev pub thread_of_turn : Turn → ℕ
thread_of_turn (turn.ReadStage thread stage) = thread
thread_of_turn turn = 0

-- the numbers of what is said fit the fields of an entry
abbrev pub Fits : Recorded → Type 0
Fits (Thread thread step) = (thread < 255) × (word_of_step step < 2 ^ 16)
Fits (Root thread cell) = thread < 255
Fits (Collector turn) = (thread_of_turn turn < 2 ^ 32) × (word_of_turn turn < 2 ^ 16)
Fits Unknown = Unit {0}
