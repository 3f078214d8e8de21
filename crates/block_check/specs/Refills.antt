-- How the scratch for an edge is filled again with what is known at the end of the block.
use Rattle.std.specs.Prelude.{Bool, true, false, List}
use Rattle.facts.specs.declared.entry.Entry.{Entry}
use Rattle.facts.specs.Facts.{FactSet}
use Rattle.facts.specs.TakenBack.{DifferBy}
use Rattle.block_check.specs.declared.edges.Refill.{Refill}
use Rattle.block_check.specs.declared.edges.Refill.TheVariants.{TakeBack, Copy}
use Rattle.block_check.specs.declared.edges.EdgeScratch.{EdgeScratch}

-- what was known at the exit can be got so: it may be taken back only if nothing else was changed
abbrev pub CanRefillBy : Refill → List Entry → (exit edge : FactSet) → Type 0
CanRefillBy TakeBack entries exit edge = DifferBy entries exit edge
CanRefillBy Copy entries exit edge = Unit {0}

-- the scratch for an edge gets what is known at this exit as it says
abbrev pub CanRefill : (exit : FactSet) → EdgeScratch → Type 0
CanRefill exit scratch = CanRefillBy scratch.refill scratch.entries exit scratch.edge

-- how the room is filled again
abbrev pub refill_after : (back : Bool) → Refill
refill_after true = TakeBack
refill_after false = Copy
