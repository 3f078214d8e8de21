-- What each rule asks of a step, and that a step goes on exactly where it meets all of it.
use Rattle.std.specs.Prelude.{ℕ, ◌≡◌, ◌≢◌, ◌<◌, Bool, true, false, None, List, ◌∷◌, IsTrue}
use Rattle.lemmas.specs.Lists.{IsIn}
use Rattle.pools.specs.Heap.{Setup, kind_of}
use Rattle.pools.specs.Layouts.{is_reference_kind}
use Rattle.colours.specs.declared.turn.Turn.{Turn}
use Rattle.colours.specs.declared.turn.Turn.TheVariants as kind
use Rattle.colours.specs.Steps.{Step, ReadWord, ReadOldValue, Mark, StoreAfterBarrier, StorePlain, Claim, ReadPosted, StoreStage, ReadPostedFirst, EnterStage, ReadPostedAgain, Found, FoundBy, place_of}
use Rattle.colours.specs.Mutator.{stage_of, phase_of, MayFollow, Held, Fresh, MayUse, MayStore, IsDisciplined}
use Rattle.colours.specs.Collector.{Collection, Collects}
use Rattle.colours.specs.Runs.{Event, ByThread, ByCollector, log_of, turns_of, word_after, ask_in, MayHappen}
use Rattle.conform.specs.declared.rule.Rule.{Rule}
use Rattle.conform.specs.declared.rule.Rule.TheVariants as rule

-- ---- the parts of the discipline

-- the thread may use the step's cell
abbrev pub UsesHeld : Setup → List Step → Step → Type 0
UsesHeld s log (ReadWord cell word value) = MayUse s log cell
UsesHeld s log (ReadOldValue cell word value) = MayUse s log cell
UsesHeld s log (Mark cell) = Held s log cell
UsesHeld s log (StoreAfterBarrier cell word value) = MayUse s log cell
UsesHeld s log (StorePlain cell word value) = MayUse s log cell
UsesHeld s log step = Unit {0}

-- the word is there, and for a barriered store it holds references
abbrev pub NamesWord : Setup → Step → Type 0
NamesWord s (ReadWord cell word value) = kind_of s cell word ≢ None
NamesWord s (ReadOldValue cell word value) = IsTrue (is_reference_kind (kind_of s cell word))
NamesWord s (StoreAfterBarrier cell word value) = IsTrue (is_reference_kind (kind_of s cell word))
NamesWord s (StorePlain cell word value) = kind_of s cell word ≢ None
NamesWord s step = Unit {0}

-- a reference that is stored plainly goes into a fresh cell
abbrev pub StoresIntoFresh : Setup → List Step → Step → Type 0
StoresIntoFresh s log (StorePlain cell word value) = IsTrue (is_reference_kind (kind_of s cell word)) → Fresh s log cell
StoresIntoFresh s log step = Unit {0}

-- the stored value may be stored there
abbrev pub StoresHeld : Setup → List Step → Step → Type 0
StoresHeld s log (StoreAfterBarrier cell word value) = MayStore s log (kind_of s cell word) value
StoresHeld s log (StorePlain cell word value) = MayStore s log (kind_of s cell word) value
StoresHeld s log step = Unit {0}

-- the roots that are named are null or held
abbrev pub NamesHeld : Setup → List Step → Step → Type 0
NamesHeld s log (StoreStage stage roots) = (c : ℕ) → IsIn c roots → MayUse s log c
NamesHeld s log step = Unit {0}

-- ---- the rules

-- the thread's order allows the step
abbrev pub ComesNext : Setup → (thread : ℕ) → List Step → Step → Type 0
ComesNext s t log step = MayFollow s (stage_of log) (phase_of s t log) step

-- the rule is the one that tells of a step of this kind that its thread's order does not allow; of a stage that is stored it may be either of two
abbrev pub is_order_rule : Rule → Step → Bool
is_order_rule rule.UnmarkedStore (StoreAfterBarrier cell word value) = true
is_order_rule rule.Try (Claim cell won) = true
is_order_rule rule.UnmarkedRoots (StoreStage stage roots) = true
is_order_rule rule.Stage (StoreStage stage roots) = true
is_order_rule rule.Stage (EnterStage stage) = true
is_order_rule rule.Order (ReadWord cell word value) = true
is_order_rule rule.Order (ReadOldValue cell word value) = true
is_order_rule rule.Order (Mark cell) = true
is_order_rule rule.Order (StorePlain cell word value) = true
is_order_rule rule.Order (ReadPosted stage) = true
is_order_rule rule.Order (ReadPostedFirst stage) = true
is_order_rule rule.Order (ReadPostedAgain stage) = true
is_order_rule _ _ = false

-- the rule is the one that tells of a step of this kind that no place of the collector allows
abbrev pub is_turn_rule : Rule → Turn → Bool
is_turn_rule rule.Look (kind.ReadColour cell colour) = true
is_turn_rule rule.Sweep (kind.ClearWord cell word) = true
is_turn_rule rule.Sweep (kind.Free cell) = true
is_turn_rule rule.Post (kind.PostStage stage) = true
is_turn_rule rule.Turn (kind.ReadStage thread stage) = true
is_turn_rule rule.Turn (kind.MarkFound cell colour) = true
is_turn_rule rule.Turn (kind.ScanWord cell word value) = true
is_turn_rule rule.Turn (kind.Blacken cell) = true
is_turn_rule _ _ = false

-- what a rule asks of a thread's step after its log
abbrev pub AsksOfStep : Rule → Setup → (thread : ℕ) → List Step → Step → Type 0
AsksOfStep rule.Order s t log step = IsTrue (is_order_rule rule.Order step) → ComesNext s t log step
AsksOfStep rule.UnmarkedStore s t log step = IsTrue (is_order_rule rule.UnmarkedStore step) → ComesNext s t log step
AsksOfStep rule.UnmarkedRoots s t log step = IsTrue (is_order_rule rule.UnmarkedRoots step) → ComesNext s t log step
AsksOfStep rule.Stage s t log step = IsTrue (is_order_rule rule.Stage step) → ComesNext s t log step
AsksOfStep rule.Try s t log step = IsTrue (is_order_rule rule.Try step) → ComesNext s t log step
AsksOfStep rule.NotHeld s t log step = UsesHeld s log step
AsksOfStep rule.Word s t log step = NamesWord s step
AsksOfStep rule.StoredValue s t log step = StoresHeld s log step
AsksOfStep rule.NotFresh s t log step = StoresIntoFresh s log step
AsksOfStep rule.RootNotHeld s t log step = NamesHeld s log step
AsksOfStep _ s t log step = Unit {0}

-- what a rule asks of an event after a run
abbrev pub Asks : Rule → Setup → List Event → Event → Type 0
Asks rule.NoStep s run (ByThread t step) = t < s.threads
Asks rule.Value s run (ByThread t step) = Found step (word_after s run (place_of (ask_in run (ByThread t step))))
Asks rule s run (ByThread t step) = AsksOfStep rule s t (log_of t run) step
Asks rule.Value s run (ByCollector turn) = FoundBy turn (word_after s run (place_of (ask_in run (ByCollector turn))))
Asks rule.NoStep s run (ByCollector turn) = Unit {0}
Asks rule s run (ByCollector turn) = IsTrue (is_turn_rule rule turn) → (c : Collection) × Collects s (turn ∷ turns_of run) c

-- the step keeps the discipline, if it is a thread's
abbrev pub KeepsIt : Setup → List Event → Event → Type 0
KeepsIt s run (ByThread t step) = IsDisciplined s (log_of t run) step
KeepsIt s run (ByCollector turn) = Unit {0}

-- the step may be the next one of a run of threads that keep the discipline
abbrev pub GoesOn : Setup → List Event → Event → Type 0
GoesOn s run event = MayHappen s run event × KeepsIt s run event

-- the step breaks the rule
abbrev pub Breaks : Rule → Setup → List Event → Event → Type 0
Breaks rule s run event = ¬ Asks rule s run event
