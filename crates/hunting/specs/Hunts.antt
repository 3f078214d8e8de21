-- What a hunt finds.
use Rattle.std.specs.Prelude.{ℕ, ◌<◌, ◌≤◌}
use Rattle.layout.specs.Layouts.{LaidOut}
use Rattle.hunting.specs.Shorter.{IsBreaking}
use Rattle.hunting.specs.declared.biased_searching.BrokenSeed.{BrokenSeed}
use Rattle.hunting.specs.declared.searching.Hunted.{Hunted}
use Rattle.hunting.specs.declared.searching.Hunted.TheVariants.{Broken, Sound, NoStart}

-- a seed from the first one to below the last, with a trace whose last step is the first that breaks its run
abbrev pub IsBrokenIn : LaidOut → (first past : ℕ) → BrokenSeed → Type 0
IsBrokenIn p first past b = (first ≤ b.seed) × (b.seed < past) × IsBreaking p b.found.trace b.found.broken

-- of the seeds from the first one to below the last one is broken, or one of them could draw no start. Where nothing is found, nothing is said
abbrev pub IsHunted : LaidOut → (first past : ℕ) → Hunted → Type 0
IsHunted p first past (Broken b) = IsBrokenIn p first past b
IsHunted p first past Sound = Unit {0}
IsHunted p first past (NoStart seed) = (first ≤ seed) × (seed < past)
