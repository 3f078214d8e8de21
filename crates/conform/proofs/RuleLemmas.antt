-- A step goes on exactly where it meets all that the rules ask.
use Rattle.std.proofs.Common.{◌≡◌, ◌≢◌, ℕ, ◌<◌, List, ◌∷◌, None, IsTrue, true, false, Option, Some}
use Rattle.pools.specs.declared.word_kind.WordKind.{WordKind}
use Rattle.pools.specs.declared.word_kind.WordKind.TheVariants.{Integer, Reference}
use Rattle.pools.specs.Heap.{Setup, kind_of}
use Rattle.pools.specs.Layouts.{is_reference_kind}
use Rattle.colours.specs.declared.turn.Turn.{Turn}
use Rattle.colours.specs.Steps.{Step, ReadWord, ReadOldValue, Mark, StoreAfterBarrier, StorePlain, Claim, ReadPosted, StoreStage, ReadPostedFirst, EnterStage, ReadPostedAgain}
use Rattle.colours.specs.Mutator.{MayStore, IsDisciplined}
use Rattle.colours.specs.Collector.{Collection, Collects}
use Rattle.colours.specs.Runs.{Event, ByThread, ByCollector, log_of, turns_of}
use Rattle.conform.specs.declared.rule.Rule.{Rule}
use Rattle.conform.specs.declared.rule.Rule.TheVariants as rule
use Rattle.conform.specs.Rules.{UsesHeld, NamesWord, StoresIntoFresh, StoresHeld, NamesHeld, AsksOfStep, Asks, KeepsIt, GoesOn, Breaks, ComesNext, is_order_rule, is_turn_rule}

-- where a value may be stored there is a word
pub stored_word : (s : Setup) (log : List Step) (o : Option WordKind) (value : ℕ) → MayStore s log o value → o ≢ None
stored_word s log None value m e = m
stored_word s log (Some kind) value m e = absurd cc

-- the parts of the discipline
pub uses_held : (s : Setup) (log : List Step) (step : Step) → IsDisciplined s log step → UsesHeld s log step
uses_held s log (ReadWord cell word value) d = d.0
uses_held s log (ReadOldValue cell word value) d = d.0
uses_held s log (Mark cell) d = d
uses_held s log (StoreAfterBarrier cell word value) d = d.0
uses_held s log (StorePlain cell word value) d = d.0
uses_held s log _ d = tt

pub names_word : (s : Setup) (log : List Step) (step : Step) → IsDisciplined s log step → NamesWord s step
names_word s log (ReadWord cell word value) d = d.1
names_word s log (ReadOldValue cell word value) d = d.1
names_word s log (StoreAfterBarrier cell word value) d = d.1
names_word s log (StorePlain cell word value) d = stored_word s log (kind_of s cell word) value d.2
names_word s log _ d = tt

pub into_fresh : (s : Setup) (log : List Step) (step : Step) → IsDisciplined s log step → StoresIntoFresh s log step
into_fresh s log (StorePlain cell word value) d = d.1
into_fresh s log _ d = tt

pub stores_held : (s : Setup) (log : List Step) (step : Step) → IsDisciplined s log step → StoresHeld s log step
stores_held s log (StoreAfterBarrier cell word value) d = d.2
stores_held s log (StorePlain cell word value) d = d.2
stores_held s log _ d = tt

pub names_held : (s : Setup) (log : List Step) (step : Step) → IsDisciplined s log step → NamesHeld s log step
names_held s log (StoreStage stage roots) d = d
names_held s log _ d = tt

-- a step that goes on meets what each rule asks
asks_of : (r : Rule) (s : Setup) (run : List Event) (t : ℕ) (step : Step) → GoesOn s run (ByThread t step) → AsksOfStep r s t (log_of t run) step
asks_of rule.Order s run t step g = λ _. g.0.1
asks_of rule.UnmarkedStore s run t step g = λ _. g.0.1
asks_of rule.UnmarkedRoots s run t step g = λ _. g.0.1
asks_of rule.Stage s run t step g = λ _. g.0.1
asks_of rule.Try s run t step g = λ _. g.0.1
asks_of rule.NotHeld s run t step g = uses_held s (log_of t run) step g.1
asks_of rule.Word s run t step g = names_word s (log_of t run) step g.1
asks_of rule.StoredValue s run t step g = stores_held s (log_of t run) step g.1
asks_of rule.NotFresh s run t step g = into_fresh s (log_of t run) step g.1
asks_of rule.RootNotHeld s run t step g = names_held s (log_of t run) step g.1
asks_of _ s run t step g = tt

asks : (r : Rule) (s : Setup) (run : List Event) (event : Event) → GoesOn s run event → Asks r s run event
asks rule.NoStep s run (ByThread t step) g = g.0.0
asks rule.Value s run (ByThread t step) g = g.0.2
asks r s run (ByThread t step) g = asks_of r s run t step g
asks rule.Value s run (ByCollector turn) g = g.0.1
asks rule.NoStep s run (ByCollector turn) g = tt
asks r s run (ByCollector turn) g = λ _. g.0.0

-- what the rule that tells of a step asks of it
pub order_asked : (r : Rule) (s : Setup) (t : ℕ) (log : List Step) (step : Step) → IsTrue (is_order_rule r step) → AsksOfStep r s t log step → ComesNext s t log step
order_asked rule.Order s t log step is a = a is
order_asked rule.UnmarkedStore s t log step is a = a is
order_asked rule.UnmarkedRoots s t log step is a = a is
order_asked rule.Stage s t log step is a = a is
order_asked rule.Try s t log step is a = a is
order_asked _ s t log step is a = absurd cc

pub turn_asked : (r : Rule) (s : Setup) (run : List Event) (turn : Turn) → IsTrue (is_turn_rule r turn) → Asks r s run (ByCollector turn) → (c : Collection) × Collects s (turn ∷ turns_of run) c
turn_asked rule.Value s run turn is a = absurd cc
turn_asked rule.NoStep s run turn is a = absurd cc
turn_asked r s run turn is a = a is

-- so one that breaks a rule does not go on
pub broken : (r : Rule) (s : Setup) (run : List Event) (event : Event) → Breaks r s run event → GoesOn s run event → ⊥
broken r s run event b g = b (asks r s run event g)
