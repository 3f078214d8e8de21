-- What a seat of the shared table knows: the shares of its actors.
use Rattle.std.specs.Prelude.{ℕ, ◌+◌, ◌≤◌, ◌≡◌, List, [], ◌∷◌, ◌++◌}
use Rattle.pools.specs.Heap.{Setup}
use Rattle.colours.specs.Steps.{Step, ReadPosted}
use Rattle.colours.specs.declared.turn.Turn.{Turn}
use Rattle.colours.specs.Runs.{Event, ByThread, ByCollector}

-- a heap without threads and cells
abbrev pub no_setup : Setup
no_setup = record { threads = 0; late = []; layouts = []; pools = []; globals = []; values = [] }

-- who makes a step
pub data Actor : Type 0 where
  Thread : (number : ℕ) → Actor
  Collector : Actor

-- the steps of one actor, the newest first
pub data Share : Type 0 where
  OfThread : (thread : ℕ) (log : List Step) → Share
  OfCollector : (log : List Turn) → Share

-- what a seat knows: how the heap was set up, and shares of its run. The threads from `next` up to `until` were not dealt out yet, and have made no step
pub record View : Type 0 where
  pub setup : Setup
  pub next : ℕ
  pub until : ℕ
  pub shares : List Share

-- whose share it is
abbrev pub actor_of : Share → Actor
actor_of (OfThread thread log) = Thread thread
actor_of (OfCollector log) = Collector

-- the share with one step more; a step of another kind of actor leaves it
abbrev pub grown : Event → Share → Share
grown (ByThread u step) (OfThread thread log) = OfThread thread (step ∷ log)
grown (ByCollector turn) (OfCollector log) = OfCollector (turn ∷ log)
grown event share = share

-- the first of these shares grows
abbrev pub first_grown : Event → List Share → List Share
first_grown event [] = []
first_grown event (share ∷ shares) = grown event share ∷ shares

-- the view with one step more
abbrev pub logged : View → Event → View
logged v event = record { setup = v.setup; next = v.next; until = v.until; shares = first_grown event v.shares }

-- the view of one actor's seat
pub record IsSeatOf (share : Share) (v : View) : Type 0 where
  pub shares : v.shares ≡ share ∷ []
  pub dealt : v.until ≤ v.next

-- the first of these shares
abbrev pub first_share : List Share → Share
first_share [] = OfCollector []
first_share (share ∷ shares) = share

-- the share of a seat that has one
abbrev pub share_of : View → Share
share_of v = first_share v.shares

-- the next thread is dealt out
abbrev pub dealt : View → View
dealt v = record { setup = v.setup; next = v.next + 1; until = v.until; shares = v.shares }

-- what that thread's own seat knows
abbrev pub newcomer : View → View
newcomer v = record { setup = v.setup; next = 0; until = 0; shares = OfThread v.next [] ∷ [] }

-- a seat takes in the shares of another
abbrev pub joined : View → View → View
joined v w = record { setup = v.setup; next = v.next; until = v.until; shares = w.shares ++ v.shares }

-- and the other one is left with nothing
abbrev pub spent : View
spent = record { setup = no_setup; next = 0; until = 0; shares = [] }

-- a step for where no call has picked one
abbrev pub no_event : Event
no_event = ByThread 0 (ReadPosted 0)
