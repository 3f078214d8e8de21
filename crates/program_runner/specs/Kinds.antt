-- Each reference that a thread of a program holds is to a cell of its layout, and each number has 64 bits, whatever the program.
use Rattle.std.specs.Prelude.{ℕ, ◌≡◌, ◌<◌, ◌^◌, List, [], ◌∷◌, Some, slice_get}
use Rattle.pools.specs.Heap.{Setup, IsOfLayout}
use Rattle.pools.specs.declared.word_kind.WordKind.{WordKind}
use Rattle.layout.specs.Layouts.{LaidOut}
use Rattle.machine.specs.declared.frame.Frame.{Frame}
use Rattle.machine.specs.declared.value.Value.{Value}
use Rattle.machine.specs.declared.value.Value.TheVariants as value
use Rattle.machine.specs.declared.value.Pointee.TheVariants as place
use Rattle.machine.specs.Elements.{global_kind}
use Rattle.machine.specs.Kinds.{register_at}
use Rattle.machine.specs.Machine.{slot_value}
use Rattle.program_safety.specs.Threads.{ProgramThread}

-- a number has 64 bits, and a value that refers to a cell refers to one of its layout
abbrev pub FitsHeap : Setup → Value → Type 0
FitsHeap s (value.Number n) = n < 2 ^ 64
FitsHeap s (value.Cell layout at) = IsOfLayout s layout at.cell
FitsHeap s (value.Address (place.Word layout at word)) = IsOfLayout s layout at.cell
FitsHeap s v = Unit {0}

-- so do the values of a frame
pub record FrameFits (s : Setup) (frame : Frame) : Type 0 where
  pub registers : (name : ℕ) → FitsHeap s (register_at frame.registers name)
  pub slots : (slot : ℕ) → FitsHeap s (slot_value frame.slots slot)

-- and those of all frames
abbrev pub FramesFit : Setup → List Frame → Type 0
FramesFit s [] = Unit {0}
FramesFit s (frame ∷ below) = FrameFits s frame × FramesFit s below

-- the heap has the program's layouts, and the word of each global that is an integer or a reference
pub record IsHeapWith (s : Setup) (p : LaidOut) : Type 0 where
  pub layouts : s.layouts ≡ p.layouts
  pub globals : (g : ℕ) (kind : WordKind) → global_kind p.of_module g ≡ Some kind → slice_get s.globals g ≡ Some kind

-- a thread is over this heap, which is one of its program, and what it holds fits
pub record FitsThread (s : Setup) (t : ProgramThread) : Type 0 where
  pub over : t.heap ≡ s
  pub heap : IsHeapWith s t.program
  pub frames : FramesFit s t.state.frames
