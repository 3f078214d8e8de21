-- A thread that asks for one safepoint after another, and has no roots.
use Rattle.std.specs.Prelude.{List, []}
use Rattle.pools.specs.Heap.{Setup}
use Rattle.runs.specs.Machine.{WordValue, Action, Safepoint, Answer}
use Rattle.moves.specs.Kinds.{KeepsKinds}
use Rattle.moves.specs.RootsAfter.{AddsNewest}

-- what each of its states asks for
abbrev pub asks : {State : Type 0} → State → Action
asks state = Safepoint

-- no answer changes the state
abbrev pub goes_on : {State : Type 0} → State → Answer → State
goes_on state answer = state

-- it names nothing
abbrev pub names : {State : Type 0} → State → List WordValue
names state = []

-- each heap serves it
abbrev pub Fits : {State : Type 0} → Setup → State → Type 0
Fits s state = Unit {0}

pub keeps_kinds : {State : Type 0} (s : Setup) (state : State) → Fits s state → KeepsKinds s asks goes_on names (λ x. Fits s x) state
keeps_kinds s state fits = record { asks = tt; roots_fit = λ r named. absurd named; goes_on = λ answer fit. tt }

pub keeps_roots : {State : Type 0} (state : State) (given : Answer) → AddsNewest (names state) (names (goes_on state given)) (names (goes_on state given))
keeps_roots state given r named = absurd named
