-- What a thread gets for what it asked for, and what it reads by it.
use Rattle.std.proofs.Common.{◌≡◌, ◌≢◌, ◌<◌, ◌^◌, List, ℕ, zero, suc, refl, sym, ap, subst, ◌∙◌, arith, true, false, Bool, Option, Some, None, slice_get, inl, inr}
use Rattle.std.proofs.lemmas.Bool.Decides.{Decides-eqb}
use Rattle.std.specs.Prelude.{◌⊎◌, ◌==◌, if◌then◌else◌}
use Rattle.ir_ast.specs.declared.module.Module.{Module}
use Rattle.pools.specs.Heap.{Setup, kind_of, IsOfLayout}
use Rattle.pools.specs.Layouts.{words_of, kind_of_word}
use Rattle.pools.specs.declared.word_kind.WordKind.{WordKind}
use Rattle.pools.specs.declared.word_kind.WordKind.TheVariants as kind
use Rattle.layout.specs.Layouts.{LaidOut}
use Rattle.machine.specs.declared.action.Action.{Action}
use Rattle.machine.specs.declared.action.Action.TheVariants.{Local, Foreign, Read, StorePlain, Write, Alloc, Safepoint, End, Wrong}
use Rattle.machine.specs.declared.answer.Answer.{Answer}
use Rattle.machine.specs.declared.answer.Answer.TheVariants as answer
use Rattle.machine.specs.declared.value.Pointee.{Pointee}
use Rattle.machine.specs.declared.value.Pointee.TheVariants as place
use Rattle.machine.specs.Asks.{only_if, read_action}
use Rattle.machine.specs.Elements.{global_kind, is_read_as, read_value}
use Rattle.machine.specs.Machine.{alloc_value, given_value, read_at}
use Rattle.runs.specs.Machine as runs
use Rattle.runs.specs.Machine.{WordValue}
use Rattle.moves.specs.Kinds.{MayHold, AnswersByKind}
use Rattle.program_safety.specs.Threads.{asked_as, word_read, next_value, given_as}
use Rattle.program_runner.specs.Kinds.{FitsHeap, IsHeapWith}
use Rattle.program_runner.specs.Values.{PlaceFits, wrapped_below}

-- ---- words

-- the words of a cell of a layout are those of the layout
pub kind_there : (s : Setup) (p : LaidOut) → IsHeapWith s p → (layout cell word : ℕ) → IsOfLayout s layout cell → kind_of s cell word ≡ kind_of_word p.layouts layout word
unfolding kind_of
kind_there s p heap layout zero word of = absurd (omega (arith, of.0))
kind_there s p heap layout (suc cell) word of = ap (λ n. slice_get (words_of s.layouts n) word) of.2 ∙ ap (λ layouts. slice_get (words_of layouts layout) word) heap.layouts

-- the word of a global is one of the globals' cell
pub kind_global : (s : Setup) (p : LaidOut) → IsHeapWith s p → (g : ℕ) → global_kind p.of_module g ≢ None → kind_of s 0 g ≡ global_kind p.of_module g
unfolding kind_of
kind_global s p heap g there = by (global_kind p.of_module g) refl where
  by : (k : Option WordKind) → global_kind p.of_module g ≡ k → slice_get s.globals g ≡ global_kind p.of_module g
  by None e = absurd (there e)
  by (Some k) e = heap.globals g k e ∙ sym e

-- a word that is read is there
pub read_there : (m : Module) (written : ℕ) (k : Option WordKind) → is_read_as m written k ≡ true → k ≢ None
read_there m written None e = absurd cc
read_there m written (Some k) e = λ none. cc

-- ---- answers

-- what was read in a word of references is null or a cell, whose number has 32 bits
abbrev pub NamesCell : Option WordKind → WordValue → Type 0
NamesCell (Some (kind.Reference layout)) found = found.cell < 2 ^ 32
NamesCell k found = Unit {0}

-- an answer that hands over nothing
abbrev pub GivesNothing : Answer → Type 0
GivesNothing answer.Done = Unit {0}
GivesNothing answer.Answered = Unit {0}
GivesNothing _ = ⊥

-- what is given fits what was asked for
abbrev pub FitsAsked : Setup → Action → Answer → Type 0
FitsAsked s (Foreign bits) given = FitsHeap s (given_value given)
FitsAsked s (Read at word) given = FitsHeap s (read_value (kind_of s at.cell word) given)
FitsAsked s (Alloc layout) given = FitsHeap s (alloc_value (Some layout) given)
FitsAsked s asked given = GivesNothing given

module _ (s : Setup) where
  -- then nothing is read
  pub nothing_read : (k : Option WordKind) (given : Answer) → GivesNothing given → FitsHeap s (read_value k given)
  nothing_read None given h = tt
  nothing_read (Some (kind.Integer bits)) answer.Done h = tt
  nothing_read (Some (kind.Integer bits)) answer.Answered h = tt
  nothing_read (Some (kind.Integer bits)) (answer.Number n) h = absurd h
  nothing_read (Some (kind.Integer bits)) answer.Null h = absurd h
  nothing_read (Some (kind.Integer bits)) (answer.Cell at) h = absurd h
  nothing_read (Some (kind.Reference layout)) answer.Done h = tt
  nothing_read (Some (kind.Reference layout)) answer.Answered h = tt
  nothing_read (Some (kind.Reference layout)) (answer.Number n) h = absurd h
  nothing_read (Some (kind.Reference layout)) answer.Null h = absurd h
  nothing_read (Some (kind.Reference layout)) (answer.Cell at) h = absurd h

  -- and nothing claimed
  pub nothing_claimed : (layout : Option ℕ) (given : Answer) → GivesNothing given → FitsHeap s (alloc_value layout given)
  nothing_claimed layout answer.Done h = tt
  nothing_claimed layout answer.Answered h = tt
  nothing_claimed layout (answer.Number n) h = absurd h
  nothing_claimed layout answer.Null h = absurd h
  nothing_claimed layout (answer.Cell at) h = absurd h

  -- nor got from outside
  pub nothing_given : (given : Answer) → GivesNothing given → FitsHeap s (given_value given)
  nothing_given answer.Done h = tt
  nothing_given answer.Answered h = tt
  nothing_given (answer.Number n) h = absurd h
  nothing_given answer.Null h = absurd h
  nothing_given (answer.Cell at) h = absurd h

  -- nor is anything read at an address
  pub nothing_at : (p : LaidOut) (address : Option Pointee) (given : Answer) → GivesNothing given → FitsHeap s (read_at p address given)
  nothing_at p None given h = tt
  nothing_at p (Some place.OfNull) given h = tt
  nothing_at p (Some (place.Word layout at word)) given h = nothing_read (kind_of_word p.layouts layout word) given h
  nothing_at p (Some (place.Global g)) given h = nothing_read (global_kind p.of_module g) given h

  -- null, or a reference to a cell of the layout
  found : (layout : ℕ) (r : WordValue) → (r.cell ≡ 0) ⊎ IsOfLayout s layout r.cell → (b : Bool) → (r.cell == 0) ≡ b
      → FitsHeap s (read_value (Some (kind.Reference layout)) (if b then answer.Null else answer.Cell (record { cell = r.cell; birth = r.birth })))
  found layout r h true e = tt
  found layout r (inl z) false e = let t : (r.cell == 0) ≡ true = (Decides-eqb r.cell 0).1 z in absurd cc
  found layout r (inr of) false e = of

  -- the same of an alloc
  claimed : (layout : ℕ) (r : WordValue) → (r.cell ≡ 0) ⊎ IsOfLayout s layout r.cell → (b : Bool) → (r.cell == 0) ≡ b
      → FitsHeap s (alloc_value (Some layout) (if b then answer.Null else answer.Cell (record { cell = r.cell; birth = r.birth })))
  claimed layout r h true e = tt
  claimed layout r (inl z) false e = let t : (r.cell == 0) ≡ true = (Decides-eqb r.cell 0).1 z in absurd cc
  claimed layout r (inr of) false e = of

  -- what a word holds is read as it is
  word_fits : (k : Option WordKind) (r : WordValue) → MayHold s k r → FitsHeap s (read_value k (word_read k r))
  word_fits None r h = tt
  word_fits (Some (kind.Integer bits)) r h = h
  word_fits (Some (kind.Reference layout)) r h = found layout r h (r.cell == 0) refl

  -- what is answered in a run fits what a thread asked for, whatever numbers it has from outside
  pub given_fits : (values : List ℕ) (asked : Action) (given : runs.Answer) → AnswersByKind s (asked_as asked) given → FitsAsked s asked (given_as s values asked given)
  given_fits values (Foreign bits) given h = wrapped_below bits (next_value values)
  given_fits values (Read at word) runs.Done h = nothing_read (kind_of s at.cell word) answer.Done tt
  given_fits values (Read at word) (runs.Got r) h = word_fits (kind_of s at.cell word) r h
  given_fits values (Read at word) (runs.Answered stage) h = nothing_read (kind_of s at.cell word) answer.Done tt
  given_fits values (Alloc layout) runs.Done h = tt
  given_fits values (Alloc layout) (runs.Got r) h = claimed layout r h (r.cell == 0) refl
  given_fits values (Alloc layout) (runs.Answered stage) h = tt
  given_fits values Safepoint runs.Done h = tt
  given_fits values Safepoint (runs.Got r) h = tt
  given_fits values Safepoint (runs.Answered None) h = tt
  given_fits values Safepoint (runs.Answered (Some stage)) h = tt
  given_fits values Local given h = tt
  given_fits values (StorePlain at word v) given h = tt
  given_fits values (Write at word v) given h = tt
  given_fits values End given h = tt
  given_fits values Wrong given h = tt

  -- under a condition the same is asked for, or nothing
  pub only_gives : (b : Bool) (asked : Action) (given : Answer) → FitsAsked s (only_if b asked) given → FitsAsked s asked given ⊎ GivesNothing given
  only_gives true asked given h = inl h
  only_gives false asked given h = inr h

  -- what is read at an address fits
  pub read_fits : (p : LaidOut) → IsHeapWith s p → (loaded : ℕ) (address : Option Pointee) (given : Answer) → PlaceFits s address → FitsAsked s (read_action p loaded address) given → FitsHeap s (read_at p address given)
  read_fits p heap loaded None given at h = tt
  read_fits p heap loaded (Some place.OfNull) given at h = tt
  read_fits p heap loaded (Some (place.Word layout at word)) given of h =
      by (only_gives (is_read_as p.of_module loaded (kind_of_word p.layouts layout word)) (Read at word) given h) where
        by : FitsAsked s (Read at word) given ⊎ GivesNothing given → FitsHeap s (read_value (kind_of_word p.layouts layout word) given)
        by (inl g) = subst (λ k. FitsHeap s (read_value k given)) (kind_there s p heap layout at.cell word of) g
        by (inr g) = nothing_read (kind_of_word p.layouts layout word) given g
  read_fits p heap loaded (Some (place.Global g)) given of h = by (is_read_as p.of_module loaded (global_kind p.of_module g)) refl h where
    by : (b : Bool) → is_read_as p.of_module loaded (global_kind p.of_module g) ≡ b → FitsAsked s (only_if b (Read (record { cell = 0; birth = 0 }) g)) given → FitsHeap s (read_value (global_kind p.of_module g) given)
    by true e h = subst (λ k. FitsHeap s (read_value k given)) (kind_global s p heap g (read_there p.of_module loaded (global_kind p.of_module g) e)) h
    by false e h = nothing_read (global_kind p.of_module g) given h
