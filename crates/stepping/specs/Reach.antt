-- The first thing that is gone and can be reached, after a run.
use Rattle.std.specs.Prelude.{ℕ, ◌≡◌, ◌≢◌, ◌<◌, Option, Some, None, List, ◌∷◌}
use Rattle.lemmas.specs.Lists.{IsIn}
use Rattle.pools.specs.Heap.{Setup, cells}
use Rattle.colours.specs.declared.turn.Turn.{Turn}
use Rattle.colours.specs.declared.turn.Turn.TheVariants.{Free}
use Rattle.runs.specs.Machine.{WordValue, Machine}
use Rattle.runs.specs.Moves.{Move, StoresAfterBarrier, StoresPlain, ReadsPostedAgain, state_after}
use Rattle.runs.specs.ModuleRuns.{Happening, OfThread, OfCollector, share_of}
use Rattle.runs.specs.Broken.{IsRoot, IsReachable, IsGone, Shows, ReachBlue, ReachBirth}
use Rattle.stepping.specs.declared.gone.Gone.{Gone}
use Rattle.stepping.specs.declared.gone.Gone.TheVariants.{Blue, Reborn}
use Rattle.stepping.specs.declared.gone.HeapSchema.{HeapSchema}

-- the heap has these pools, layouts and globals
pub record IsSchemaOf (s : Setup) (schema : HeapSchema) : Type 0 where
  pub pools : s.pools ≡ schema.pools.now
  pub layouts : s.layouts ≡ schema.layouts.now
  pub globals : s.globals ≡ schema.globals.now

-- these are the roots of the threads under way, and cells of the heap, perhaps with nulls between them
pub record AreRoots (s : Setup) (m : Machine) (starts : ℕ → m.State) (run : List Happening) (roots : List WordValue) : Type 0 where
  pub are_roots : (r : WordValue) → IsIn r roots → r.cell ≢ 0 → IsRoot s m starts run r
  pub all : (r : WordValue) → IsRoot s m starts run r → r.cell ≢ 0 → IsIn r roots
  pub are_cells : (r : WordValue) → IsIn r roots → r.cell < cells s

-- the first thing that is gone and can be reached: the least cell that is free, or where there is none, the least that was claimed again
abbrev pub IsFirstGone : (s : Setup) (m : Machine) (starts : ℕ → m.State) → List Happening → Option Gone → Type 0
IsFirstGone s m starts run None = (r : WordValue) → IsReachable s m starts run r → ¬ IsGone s run r
IsFirstGone s m starts run (Some (Blue cell)) = Shows s m starts run (ReachBlue cell) × ((other : ℕ) → other < cell → ¬ Shows s m starts run (ReachBlue other))
IsFirstGone s m starts run (Some (Reborn cell)) =
    ((other : ℕ) → ¬ Shows s m starts run (ReachBlue other)) × Shows s m starts run (ReachBirth cell) × ((other : ℕ) → other < cell → ¬ Shows s m starts run (ReachBirth other))

-- the least cell that is free, or where there is none, the least that was claimed again
abbrev pub gone_of : (blue reborn : Option ℕ) → Option Gone
gone_of (Some cell) reborn = Some (Blue cell)
gone_of None (Some cell) = Some (Reborn cell)
gone_of None None = None

-- the move puts nothing but null or 0 into a word, and is not the one after which a late thread has begun
abbrev pub AddsNothing : Move → Type 0
AddsNothing (StoresAfterBarrier base word value) = value.cell ≡ 0
AddsNothing (StoresPlain base word value) = value.cell ≡ 0
AddsNothing (ReadsPostedAgain stage) = ⊥
AddsNothing move = Unit {0}

-- the step of the collector frees no cell
abbrev pub FreesNothing : Turn → Type 0
FreesNothing (Free cell) = ⊥
FreesNothing turn = Unit {0}

-- the step after this run frees no cell, stores no reference, begins no thread, and leaves the roots of its thread unchanged
abbrev pub LosesNothing : (s : Setup) (m : Machine) (starts : ℕ → m.State) → List Happening → Happening → Type 0
LosesNothing s m starts run (OfCollector turn) = FreesNothing turn
LosesNothing s m starts run (OfThread t move) = AddsNothing move × (m.roots (state_after s m t (starts t) (move ∷ share_of t run)) ≡ m.roots (state_after s m t (starts t) (share_of t run)))
