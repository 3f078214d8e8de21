-- What is to be shown of a machine, call by call, so that its threads obey the discipline at each move.
use Rattle.std.specs.Prelude.{ℕ, ◌<◌, ◌≡◌, List, [], ◌∷◌, slice_index}
use Rattle.lemmas.specs.Lists.{IsIn}
use Rattle.pools.specs.Heap.{Setup, IsOfLayout}
use Rattle.colours.specs.Mutator.{Fresh}
use Rattle.runs.specs.Machine.{WordValue, Action, Local, Read, StorePlain, Write, Alloc, Safepoint, Machine}
use Rattle.runs.specs.Moves.{Move, Works, ReadsWord, StoresAfterBarrier, StoresPlain, Claims, ReadsPosted, StoresStage, steps_of, answer_of}
use Rattle.runs.specs.Discipline.{Holds, MayName, MayCall, IsPossibleMove}

-- the move may end the call that the action asks for
abbrev pub EndsCall : Setup → (roots : List WordValue) → Action → Move → Type 0
EndsCall s roots Local Works = Unit {0}
EndsCall s roots (Read base word) (ReadsWord b w v) = (b ≡ base) × (w ≡ word)
EndsCall s roots (StorePlain base word value) (StoresPlain b w v) = (b ≡ base) × (w ≡ word) × (v ≡ value)
EndsCall s roots (Write base word value) (StoresAfterBarrier b w v) = (b ≡ base) × (w ≡ word) × (v ≡ value)
EndsCall s roots (Alloc layout) Works = slice_index s.pools layout ≡ 0
EndsCall s roots (Alloc layout) (Claims r won) = IsOfLayout s layout r.cell
EndsCall s roots Safepoint (ReadsPosted stage) = Unit {0}
EndsCall s roots Safepoint (StoresStage to rs) = rs ≡ roots
EndsCall s roots action move = ⊥

-- what the thread holds, and what is fresh, stays so
pub record Grows (s : Setup) (share more : List Move) : Type 0 where
  pub held : (r : WordValue) → Holds s share r → Holds s more r
  pub fresh : (cell : ℕ) → Fresh s (steps_of share) cell → Fresh s (steps_of more) cell

-- the predicate is about a share and the state after it, as the facts at an instruction's place are; this makes it sound for the machine
pub record IsSound (s : Setup) (m : Machine) (Sound : List Move → m.State → Type 0) : Type 0 where
  -- the thread may make the call that it asks for, and its roots may be named
  pub calls : (share : List Move) (state : m.State) → Sound share state → MayCall s share (m.action state)
  pub roots : (share : List Move) (state : m.State) → Sound share state → (r : WordValue) → IsIn r (m.roots state) → MayName s share r
  -- it lasts within a call, in which the thread may get more to hold
  pub grows : (share more : List Move) (state : m.State) → Sound share state → Grows s share more → Sound more state
  -- and holds again after the call
  pub goes_on : (share : List Move) (state : m.State) (move : Move) → Sound share state → EndsCall s (m.roots state) (m.action state) move → IsPossibleMove s share move
      → Sound (move ∷ share) (m.after_answer state (answer_of (m.action state) move))

-- a predicate that is sound, and holds of each thread's start
pub record AreSound (s : Setup) (m : Machine) (Sound : List Move → m.State → Type 0) (starts : ℕ → m.State) : Type 0 where
  pub sound : IsSound s m Sound
  pub begun : (t : ℕ) → t < s.threads → Sound [] (starts t)
