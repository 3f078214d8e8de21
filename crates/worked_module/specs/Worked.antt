-- A program, its certificates, a heap and threads of which all holds that the safety theorem asks for.
use Rattle.std.specs.Prelude.{◌≡◌, ◌<◌, ℕ, true, List, [], ◌∷◌}
use Rattle.pools.specs.Heap.{Setup, IsSetup}
use Rattle.layout.specs.Globals.{IsHeapFor}
use Rattle.layout.specs.Layouts.{LaidOut, AreLayouts}
use Rattle.certs.specs.Families.{is_opaque_text}
use Rattle.certs.specs.declared.section.Section.{Section}
use Rattle.program_safety.specs.Safety.{AreBegun, AreCertified}
use Rattle.program_safety.specs.Threads.{ProgramThread, asks, goes_on}
use Rattle.runs.specs.Machine.{WordValue, Read, StorePlain, Done, Got}
use Rattle.runs.specs.Moves.{null}

-- the program is laid out and certified, and these threads, one at least, begin at its functions over this heap of it; the first one has a step to make
pub record IsWorked (program : LaidOut) (certs : List Section) (heap : Setup) (starts : ℕ → ProgramThread) : Type 0 where
  pub laid_out : AreLayouts program.of_module program.layouts
  pub certified : AreCertified program certs
  pub of_program : IsHeapFor heap program
  pub set_up : IsSetup heap
  pub begun : AreBegun heap program certs starts
  pub some_thread : 0 < heap.threads
  -- the first thread first reads the word of the first global
  pub reads : asks (starts 0) ≡ Read null 0

-- there is such a program, whose text writes `ptr`
abbrev pub OpaqueIsWorked : Type 0
OpaqueIsWorked = (program : LaidOut) × (certs : List Section) × (heap : Setup) × (starts : ℕ → ProgramThread) × (is_opaque_text program.of_module ≡ true) × IsWorked program certs heap starts

-- a number as a word of a run
abbrev pub number_word : (n : ℕ) → WordValue
number_word n = record { cell = n; birth = 0 }

-- a program of the wide forms trusts the function with this name, which it calls; its first thread, which gets 300 from outside, then writes what a type of eight bits holds of that
pub record CallsOutside (program : LaidOut) (starts : ℕ → ProgramThread) : Type 0 where
  pub wide : program.of_module.wide ≡ true
  pub trusts : program.of_module.trusted.functions ≡ 1 ∷ []
  pub gets : (starts 0).values ≡ 300 ∷ []
  pub writes : asks (goes_on (goes_on (starts 0) (Got (number_word 0))) Done) ≡ StorePlain null 0 (number_word 44)

-- there is such a program of which all holds that the safety theorem asks for
abbrev pub ForeignIsWorked : Type 0
ForeignIsWorked = (program : LaidOut) × (certs : List Section) × (heap : Setup) × (starts : ℕ → ProgramThread) × CallsOutside program starts × IsWorked program certs heap starts
