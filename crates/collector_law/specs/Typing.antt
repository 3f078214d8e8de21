-- Each word fits its kind.
use Rattle.std.proofs.Common.{◌≡◌, inl, inr, ℕ, zero, suc, ◌==◌, ◌&&◌, Bool, true, false, Option, Some, None, List, [], ◌∷◌, slice_index, refl, if◌then◌else◌, pow_pos}
use Rattle.lemmas.specs.Numbers.{test_true}
use Rattle.lemmas.specs.Bools.{and_parts}
use Rattle.colours.specs.declared.place.Place.TheVariants.{Word}
use Rattle.pools.specs.Heap.{Setup, IsSetup, IsStartOf, kind_of}
use Rattle.pools.specs.declared.word_kind.WordKind.{WordKind}
use Rattle.pools.specs.declared.word_kind.WordKind.TheVariants.{Integer, Reference}
use Rattle.colours.specs.Steps.{Step, StoreAfterBarrier, StorePlain}
use Rattle.colours.specs.declared.turn.Turn.{Turn}
use Rattle.colours.specs.declared.turn.Turn.TheVariants.{ClearWord}
use Rattle.colours.specs.Mutator.{MayStore, IsDisciplined}
use Rattle.colours.specs.Runs.{Event, ByThread, ByCollector, log_of, word_after, IsRun, KeepsDiscipline, puts, value_put}
use Rattle.collector_law.specs.Laws.{FitsKind}
use Rattle.colours.specs.Frames.{word_left}

-- the globals fit at the start
at_start : (s : Setup) (k : Option WordKind) (v : ℕ) → IsStartOf k v → FitsKind s k v
at_start s None v h = tt
at_start s (Some (Integer bits)) v h = h
at_start s (Some (Reference layout)) v h = inl h

-- null fits each word
null_fits : (s : Setup) (k : Option WordKind) → FitsKind s k 0
null_fits s None = tt
null_fits s (Some (Integer bits)) = pow_pos bits
null_fits s (Some (Reference layout)) = inl refl

-- what may be stored fits
stored_fits : (s : Setup) (log : List Step) (k : Option WordKind) (v : ℕ) → MayStore s log k v → FitsKind s k v
stored_fits s log None v h = tt
stored_fits s log (Some (Integer bits)) v h = h
stored_fits s log (Some (Reference layout)) v (inl z) = inl z
stored_fits s log (Some (Reference layout)) v (inr h) = inr h.1

-- what a step puts into a word fits it
put_fits : (s : Setup) (log : List Step) (step : Step) (c i : ℕ) → IsDisciplined s log step → puts step c i ≡ true → FitsKind s (kind_of s c i) (value_put step)
put_fits s log (StoreAfterBarrier cell word value) c i d p =
    let q = and_parts (cell == c) (word == i) p in
    rw (← test_true cell c q.0, ← test_true word i q.1) (stored_fits s log (kind_of s cell word) value d.2)
put_fits s log (StorePlain cell word value) c i d p =
    let q = and_parts (cell == c) (word == i) p in
    rw (← test_true cell c q.0, ← test_true word i q.1) (stored_fits s log (kind_of s cell word) value d.2)
put_fits s log _ c i d p = absurd cc

-- a thread's step leaves each word fitting
step_fits : (s : Setup) (run : List Event) (t : ℕ) (step : Step) (c i : ℕ) → IsDisciplined s (log_of t run) step → FitsKind s (kind_of s c i) (word_after s run (Word c i)) → FitsKind s (kind_of s c i) (word_after s (ByThread t step ∷ run) (Word c i))
step_fits s run t step c i d h = rw word_left (go (puts step c i) refl)
  where
    go : (b : Bool) → puts step c i ≡ b → FitsKind s (kind_of s c i) (if b then value_put step else word_after s run (Word c i))
    go true e = put_fits s (log_of t run) step c i d e
    go false e = h

-- and so does one of the collector
turn_fits : (s : Setup) (run : List Event) (turn : Turn) (c i : ℕ) → FitsKind s (kind_of s c i) (word_after s run (Word c i)) → FitsKind s (kind_of s c i) (word_after s (ByCollector turn ∷ run) (Word c i))
unfolding word_after
turn_fits s run (ClearWord cell word) c i h = go ((cell == c) && (word == i))
  where
    go : (b : Bool) → FitsKind s (kind_of s c i) (if b then 0 else word_after s run (Word c i))
    go true = null_fits s (kind_of s c i)
    go false = h
turn_fits s run _ c i h = h

-- after each run each word fits its kind
pub fits : (s : Setup) (run : List Event) → IsSetup s → IsRun s run → KeepsDiscipline s run → (c i : ℕ) → FitsKind s (kind_of s c i) (word_after s run (Word c i))
unfolding word_after
fits s [] h r d zero i = at_start s (kind_of s 0 i) (slice_index s.values i) (h i)
fits s [] h r d (suc c) i = null_fits s (kind_of s (suc c) i)
fits s (ByThread t step ∷ run) h r d c i = step_fits s run t step c i d.1 (fits s run h r.0 d.0 c i)
fits s (ByCollector turn ∷ run) h r d c i = turn_fits s run turn c i (fits s run h r.0 d c i)
