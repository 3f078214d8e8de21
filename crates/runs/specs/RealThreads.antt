-- A thread over the real heap: its log is that of a share of its machine, without births.
use Rattle.std.specs.Prelude.{ℕ, ◌≡◌, List, [], ◌∷◌, MatchOption}
use Rattle.pools.specs.Heap.{Setup}
use Rattle.colours.specs.Colours.{done}
use Rattle.colours.specs.Steps.{Step, StoreStage}
use Rattle.colours.specs.Mutator.{IsDisciplined, IsPossibleLog, Ready, Absent, phase_of}
use Rattle.runs.specs.Machine.{Machine}
use Rattle.runs.specs.Promises.{IsCareful}
use Rattle.runs.specs.Moves.{Move, ReadsWord, ReadsOldValue, Claims, step_of, steps_of, IsAsked, IsShare, state_after, HasEnded}

-- what the move brings has no birth: birth 0
abbrev pub BringsNoBirth : Move → Type 0
BringsNoBirth (ReadsWord base word value) = value.birth ≡ 0
BringsNoBirth (ReadsOldValue base word value) = value.birth ≡ 0
BringsNoBirth (Claims r won) = r.birth ≡ 0
BringsNoBirth move = Unit {0}

-- the same for each move of a share
abbrev pub HasNoBirths : List Move → Type 0
HasNoBirths [] = Unit {0}
HasNoBirths (move ∷ share) = HasNoBirths share × BringsNoBirth move

-- the log is what the machine asks for from its start, and leads to this state
pub record IsRealShare (s : Setup) (m : Machine) (thread : ℕ) (start : m.State) (log : List Step) (state : m.State) : Type 0 where
  pub share : List Move
  pub asked : IsShare s m thread start share
  pub no_births : HasNoBirths share
  pub steps : steps_of share ≡ log
  pub leads_to : state_after s m thread start share ≡ state

-- a whole share, up to the thread's end
pub record IsWholeShare (s : Setup) (m : Machine) (thread : ℕ) (start : m.State) (log : List Step) (state : m.State) : Type 0 where
  pub share : List Move
  pub asked : IsShare s m thread start share
  pub no_births : HasNoBirths share
  pub steps : steps_of share ≡ log
  pub leads_to : state_after s m thread start share ≡ state
  pub ended : HasEnded s thread share

-- what a thread of a real run leaves. Where it returned or ended: a whole share. Where it stopped or found no memory: a
-- beginning of one between two calls, with the finishing step at its end. Where a late thread never began: whole tries
pub data Left (s : Setup) (m : Machine) (thread : ℕ) (start : m.State) : List Step → Type 0 where
  whole : (log : List Step) (state : m.State) → IsWholeShare s m thread start log state → Left s m thread start log
  finished : (log : List Step) (state : m.State) → IsRealShare s m thread start log state → phase_of s thread log ≡ Ready → Left s m thread start (StoreStage done [] ∷ log)
  absent : (log : List Step) (state : m.State) → IsRealShare s m thread start log state → phase_of s thread log ≡ Absent → Left s m thread start log

-- each call that the machine asks for after a log of possible answers obeys the heap's discipline
abbrev pub MeetsConditions : (s : Setup) (m : Machine) (thread : ℕ) (start : m.State) → Type 0
MeetsConditions s m t start = (share : List Move) (move : Move) → IsShare s m t start share → IsPossibleLog s (steps_of share) → IsAsked s m t start share move
    → MatchOption (step_of move) (Unit {0}) (λ step. IsDisciplined s (steps_of share) step)

-- the same for a careful thread
abbrev pub CarefulMeetsConditions : (s : Setup) (m : Machine) → Type 0
CarefulMeetsConditions s m = (t : ℕ) (start : m.State) → IsCareful s m t start → MeetsConditions s m t start
