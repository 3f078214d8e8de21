-- The numbers from outside that a seed draws for the threads of a setup.
use Rattle.std.specs.Prelude.{ℕ, zero, suc, ◌+◌, ◌*◌, ◌^◌, ◌&&◌, Bool, true, false, List, [], ◌∷◌, ◌++◌}
use Rattle.rand_core.specs.Stream.{Stream, next_u64}
use Rattle.layout.specs.Layouts.{LaidOut}
use Rattle.replay.specs.Draws.{seeded}
use Rattle.trace_text.specs.declared.trace.Setup.{Setup}
use Rattle.trace_text.specs.declared.trace.Start.{Start}

-- the next n numbers of 64 bits of a stream
unfoldable pub numbers_from : (count : ℕ) → Stream → List ℕ
numbers_from zero s = []
numbers_from (suc count) s = (next_u64 s).0 ∷ numbers_from count (next_u64 s).1

-- the 16 numbers that a seed draws for a thread, by a generator that it has for nothing else. A seed is below 2 to the 32
unfoldable pub values_drawn : (seed thread : ℕ) → List ℕ
values_drawn seed thread = numbers_from 16 (seeded (seed + (thread + 2) * 2 ^ 32))

-- the start of a thread, with the numbers that a seed draws for it after its own
abbrev pub start_drawn : (seed thread : ℕ) → Start → Start
start_drawn seed thread start = record start { values = start.values ++ values_drawn seed thread }

-- so are the starts of the threads from this one on
abbrev pub starts_drawn : (seed thread : ℕ) → List Start → List Start
starts_drawn seed thread [] = []
starts_drawn seed thread (start ∷ more) = start_drawn seed thread start ∷ starts_drawn seed (suc thread) more

-- and those of a setup
abbrev pub setup_drawn : (seed : ℕ) → Setup → Setup
setup_drawn seed setup = record setup { starts = starts_drawn seed 0 setup.starts }

-- the setup with or without them
abbrev pub setup_by : (drawn : Bool) → (seed : ℕ) → Setup → Setup
setup_by false seed setup = setup
setup_by true seed setup = setup_drawn seed setup

-- from what the run of a seed begins: the setup, with drawn numbers where they are wanted and the module may have the wide forms
abbrev pub setup_of_seed : (drawn : Bool) → LaidOut → Setup → (seed : ℕ) → Setup
setup_of_seed drawn p setup seed = setup_by (drawn && p.of_module.wide) seed setup
