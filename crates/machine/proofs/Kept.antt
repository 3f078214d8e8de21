-- The functions that a thread entered.
use Rattle.std.proofs.Common.{◌≡◌, ◌<◌, ◌≤◌, ◌++◌, ℕ, zero, suc, List, [], ◌∷◌, length, get_or, refl, sym, ap, ◌∙◌, arith, inl, inr, Option, Some, None, slice_get, slice_set}
use Rattle.std.specs.Prelude.{◌+◌, replicate}
use Rattle.std.proofs.lemmas.List.{replicate-append-replicate}
use Rattle.lemmas.specs.Lists.{set_either, set_here}
use Rattle.ir_ast.specs.declared.function.Function.{Function}
use Rattle.ir_ast.specs.declared.module.Module.{Module}
use Rattle.shadow_stack.specs.Slots.{SlotTable, slots_of}
use Rattle.machine.specs.declared.frame.Frame.{Frame}
use Rattle.machine.specs.declared.value.Value.{Value}
use Rattle.machine.specs.Jumps.{HasRoom}
use Rattle.machine.specs.Entered.{WasEntered, WereEntered, AreKept}

-- ---- frames

-- what the functions of some frames were, they are where more were entered
pub were_stay : (tables more : List (Option SlotTable)) → ((function : ℕ) → WasEntered tables function → WasEntered more function) → (frames : List Frame) → WereEntered tables frames → WereEntered more frames
were_stay tables more stay [] were = tt
were_stay tables more stay (frame ∷ frames) were = (stay frame.function were.0, were_stay tables more stay frames were.1)

-- of one frame more
pub were_more : (tables : List (Option SlotTable)) (frames : List Frame) (frame : Frame) → WereEntered tables frames → WasEntered tables frame.function → WereEntered tables (frames ++ frame ∷ [])
were_more tables [] frame were was = (was, tt)
were_more tables (first ∷ frames) frame were was = (were.0, were_more tables frames frame were.1 was)

-- of one frame less
pub were_less : (tables : List (Option SlotTable)) (frames : List Frame) (frame : Frame) → WereEntered tables (frames ++ frame ∷ []) → WereEntered tables (frame ∷ frames)
were_less tables [] frame were = were
were_less tables (first ∷ frames) frame were = let rest = were_less tables frames frame were.1 in (rest.0, (were.0, rest.1))

-- of one of them
pub were_at : (tables : List (Option SlotTable)) (frames : List Frame) (i : ℕ) (d : Frame) → i < length frames → WereEntered tables frames → WasEntered tables (get_or frames i d).function
were_at tables [] i d within were = absurd (omega (arith, within))
were_at tables (frame ∷ frames) zero d within were = were.0
were_at tables (frame ∷ frames) (suc i) d within were = were_at tables frames i d (omega (arith, within)) were.1

-- ---- tables

-- at the beginning none was entered
none_at : (count function : ℕ) (table : SlotTable) → slice_get (replicate count None) function ≡ Some (Some table) → ⊥
none_at zero function table e = cc
none_at (suc count) zero table e = cc
none_at (suc count) (suc function) table e = none_at count function table e

pub none_kept : (m : Module) (values : List Value) (count : ℕ) → AreKept m values (replicate count None)
none_kept m values count function table e = absurd (none_at count function table e)

-- one function more that was not entered
pub one_more : (tables : List (Option SlotTable)) (count : ℕ) → tables ≡ replicate count None → tables ++ None ∷ [] ≡ replicate (count + 1) None
one_more tables count e = ap (λ l. l ++ None ∷ []) e ∙ replicate-append-replicate count 1 None

-- with more room the same is kept
pub kept_with_room : (m : Module) (values more : List Value) (tables : List (Option SlotTable)) → length values ≤ length more → AreKept m values tables → AreKept m more tables
kept_with_room m values more tables room kept function table e =
    let k = kept function table e in record { f = k.f; is = k.is; slots = k.slots; room = λ block. let r = k.room block in omega (arith, room, r) }

-- and with one function more
pub kept_with : (m : Module) (values : List Value) (tables : List (Option SlotTable)) (number : ℕ) (f : Function) → AreKept m values tables → slice_get m.functions number ≡ Some f → HasRoom f values
    → AreKept m values (slice_set tables number (Some (slots_of m f)))
kept_with m values tables number f kept is room function table e = elim (set_either tables number (Some (slots_of m f)) function (Some table) e) [
  | inl was ↦ kept function table was
  | inr put ↦ record { f = f; is = ap (slice_get m.functions) put.0 ∙ is; slots = let own : slots_of m f ≡ table = cc in sym own; room = room }
]

-- it was entered then
pub was_set : (tables : List (Option SlotTable)) (number : ℕ) (own : SlotTable) → number < length tables → WasEntered (slice_set tables number (Some own)) number
was_set tables number own lt = (own, set_here tables number (Some own) lt)

-- and so were the others
pub was_before : (tables : List (Option SlotTable)) (number : ℕ) (own : SlotTable) (function : ℕ) → WasEntered tables function → WasEntered (slice_set tables number (Some own)) function
was_before [] number own function was = was
was_before (first ∷ tables) zero own zero was = (own, refl)
was_before (first ∷ tables) zero own (suc function) was = was
was_before (first ∷ tables) (suc number) own zero was = was
was_before (first ∷ tables) (suc number) own (suc function) was = was_before tables number own function was
