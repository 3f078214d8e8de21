-- In runs without the collector's steps everything that is held or stored is alive.
use Rattle.std.proofs.Common.{◌≡◌, ◌≢◌, ℕ, zero, suc, ◌%◌, ◌^◌, ◌<◌, ◌==◌, ◌⊎◌, inl, inr, Bool, true, false, not, ◌&&◌, Option, Some, None, List, [], ◌∷◌, if◌then◌else◌, refl, arith, sym, ◌∙◌, subst, IsTrue, slice_index, pow_pos}
use Rattle.lemmas.specs.Numbers.{test_true, test_yes, test_false, not_null}
use Rattle.lemmas.specs.Bools.{and_parts}
use Rattle.colours.specs.declared.place.Place.TheVariants.{Colour, Word}
use Rattle.pools.specs.Heap.{Setup, IsSetup, IsStartOf, kind_of, IsOfLayout}
use Rattle.pools.specs.declared.word_kind.WordKind.{WordKind}
use Rattle.pools.specs.declared.word_kind.WordKind.TheVariants.{Integer, Reference}
use Rattle.pools.specs.Layouts.{is_reference_kind}
use Rattle.colours.specs.Colours.{claim_at, is_async}
use Rattle.colours.specs.Steps.{Step, ReadWord, ReadOldValue, Mark, StoreAfterBarrier, StorePlain, Claim, ReadPosted, StoreStage, ReadPostedFirst, EnterStage, ReadPostedAgain}
use Rattle.colours.specs.Mutator.{Phase, Ready, MarkingOld, MarkingNew, Writing, Trying, Answering, Ended, Absent, Arriving, Entering, Leaving, stage_of, phase_of, MayFollow, Held, Fresh, gains, Keeps, wins, stores, is_answer, IsDisciplined, MayUse, MayStore, IsPossible, MayFind}
use Rattle.colours.specs.Runs.{Event, ByThread, ByCollector, log_of, word_after, births_after, given, puts, value_put, IsAlive, MayHappen, IsRun, KeepsDiscipline, IsHeapRun, HasNoTurn, Kept, globals, held, further, birth_used, TouchesAlive}
use Rattle.colours.specs.Frames.{word_left, won_blue, alive_stays}

-- what a word of this kind holds: an integer that fits, or null or a reference that is alive
abbrev pub IsSound : Setup → List Event → Option WordKind → (value birth : ℕ) → Type 0
IsSound s run None value birth = Unit {0}
IsSound s run (Some (Integer bits)) value birth = value < 2 ^ bits
IsSound s run (Some (Reference layout)) value birth = (value ≡ 0) ⊎ (IsOfLayout s layout value × IsAlive s run value birth)

pub record Invariant (s : Setup) (run : List Event) : Type 0 where
  pub globals_alive : IsAlive s run 0 0
  pub held_alive : (t c : ℕ) → Held s (log_of t run) c → (c ≢ 0) × IsAlive s run c ((births_after s run).with_thread t c)
  pub words_sound : (c i : ℕ) → IsSound s run (kind_of s c i) (word_after s run (Word c i)) ((births_after s run).in_word c i)
  pub fresh_unstored : (t c d i : ℕ) → Fresh s (log_of t run) c → is_reference_kind (kind_of s d i) ≡ true → word_after s run (Word d i) ≢ c
  pub fresh_alone : (t u c : ℕ) → Fresh s (log_of t run) c → Held s (log_of u run) c → (t == u) ≡ true

-- ---- at the start

start_sound : (s : Setup) → IsSetup s → (c i : ℕ) → IsSound s [] (kind_of s c i) (word_after s [] (Word c i)) ((births_after s []).in_word c i)
unfolding word_after
start_sound s h zero i = at (kind_of s 0 i) (h i)
  where
    at : (k : Option WordKind) → IsStartOf k (slice_index s.values i) → IsSound s [] k (slice_index s.values i) ((births_after s []).in_word 0 i)
    at None e = tt
    at (Some (Integer bits)) e = e
    at (Some (Reference layout)) e = inl e
start_sound s h (suc c) i = at (kind_of s (suc c) i)
  where
    at : (k : Option WordKind) → IsSound s [] k 0 ((births_after s []).in_word (suc c) i)
    at None = tt
    at (Some (Integer bits)) = pow_pos bits
    at (Some (Reference layout)) = inl refl

start : (s : Setup) → IsSetup s → Invariant s []
unfolding word_after births_after
start s h = record {
  globals_alive = record { not_blue = λ e. absurd cc; same_birth = refl };
  held_alive = λ t c x. absurd x;
  words_sound = start_sound s h;
  fresh_unstored = λ t c d i x. absurd x;
  fresh_alone = λ t u c x. absurd x;
}

-- ---- a step

sound_reference : (s : Setup) (run : List Event) (k : Option WordKind) (v b : ℕ) → is_reference_kind k ≡ true → IsSound s run k v b → v ≢ 0 → IsAlive s run v b
sound_reference s run None v b e h n = absurd cc
sound_reference s run (Some (Integer bits)) v b e h n = absurd cc
sound_reference s run (Some (Reference layout)) v b e (inl z) n = absurd (n z)
sound_reference s run (Some (Reference layout)) v b e (inr a) n = a.1

claim_positive : (s : Setup) (stage : ℕ) (phase : Phase) (cell : ℕ) (won : Bool) → MayFollow s stage phase (Claim cell won) → 0 < cell
claim_positive s stage Ready cell won h = h.0
claim_positive s stage (Trying []) cell won h = h.0
claim_positive s stage (Trying (last ∷ tried)) cell won h = h.0.0
claim_positive s stage (MarkingOld c w old) cell won h = absurd h
claim_positive s stage (MarkingNew c w old) cell won h = absurd h
claim_positive s stage (Writing c w old new) cell won h = absurd h
claim_positive s stage (Answering next marked) cell won h = absurd h
claim_positive s stage Ended cell won h = absurd h
claim_positive s stage Absent cell won h = absurd h
claim_positive s stage (Arriving p) cell won h = absurd h
claim_positive s stage Entering cell won h = absurd h
claim_positive s stage Leaving cell won h = absurd h

claim_colours : (stage : ℕ) → claim_at stage ≢ 0
claim_colours stage = go (is_async stage) refl
  where
    go : (b : Bool) → is_async stage ≡ b → claim_at stage ≢ 0
    go true e = rw e (omega arith)
    go false e = let n : stage % 3 ≢ 0 = test_false (stage % 3) 0 e in rw e (omega arith)

-- what is found in a reference word is alive
found_alive : (s : Setup) (run : List Event) → Invariant s run → (cell word value c : ℕ) → ((is_reference_kind (kind_of s cell word) && (c == value)) && not (c == 0)) ≡ true
    → word_after s run (Word cell word) ≡ value → (c ≢ 0) × IsAlive s run c ((births_after s run).in_word cell word)
found_alive s run inv cell word value c g f =
    let p = and_parts (is_reference_kind (kind_of s cell word) && (c == value)) (not (c == 0)) g in
    let q = and_parts (is_reference_kind (kind_of s cell word)) (c == value) p.0 in
    let same : c ≡ value = test_true c value q.1 in
    let some : c ≢ 0 = not_null c p.1 in
    let v : word_after s run (Word cell word) ≡ c = f ∙ sym same in
    let a = sound_reference s run (kind_of s cell word) (word_after s run (Word cell word)) ((births_after s run).in_word cell word) q.0 (inv.words_sound cell word) (λ z. some (sym v ∙ z)) in
    (some, subst (λ (w : ℕ). IsAlive s run w ((births_after s run).in_word cell word)) v a)

-- a claim that was won leaves a colour
claimed : (s : Setup) (run : List Event) (t : ℕ) (step : Step) (c : ℕ) → MayHappen s run (ByThread t step) → wins step c ≡ true
    → word_after s (ByThread t step ∷ run) (Colour c) ≢ 0
unfolding word_after
claimed s run t (Claim cell won) c m g =
    let same : c ≡ cell = test_true c cell (and_parts won (c == cell) g).1 in
    let blue : word_after s run (Colour c) ≡ 0 = won_blue s run t (Claim cell won) c m g in
    rw (test_yes cell c (sym same), test_yes (word_after s run (Colour c)) 0 blue) (claim_colours (stage_of (log_of t run)))
claimed s run t _ c m g = absurd cc

-- what a step gives is alive
gained : (s : Setup) (run : List Event) (t : ℕ) (step : Step) → MayHappen s run (ByThread t step) → Invariant s run → (c : ℕ) → gains s step c ≡ true
    → (c ≢ 0) × IsAlive s (ByThread t step ∷ run) c (given (births_after s run) step c)
unfolding births_after
gained s run t (ReadWord cell word value) m inv c g =
    let a = found_alive s run inv cell word value c g m.2 in
    (a.0, alive_stays s run t (ReadWord cell word value) c _ m a.1)
gained s run t (ReadOldValue cell word value) m inv c g =
    let a = found_alive s run inv cell word value c g m.2 in
    (a.0, alive_stays s run t (ReadOldValue cell word value) c _ m a.1)
gained s run t (Claim cell won) m inv c g =
    let same : c ≡ cell = test_true c cell (and_parts won (c == cell) g).1 in
    let pos : 0 < cell = claim_positive s (stage_of (log_of t run)) (phase_of s t (log_of t run)) cell won m.1 in
    (λ z. absurd (omega arith), record { not_blue = claimed s run t (Claim cell won) c m g; same_birth = rw g })
gained s run t _ m inv c g = absurd cc

-- what the thread of the step holds after it
held_own : (s : Setup) (run : List Event) (t : ℕ) (step : Step) → MayHappen s run (ByThread t step) → Invariant s run → (c : ℕ)
    → Held s (step ∷ log_of t run) c
    → (c ≢ 0) × IsAlive s (ByThread t step ∷ run) c (if gains s step c then given (births_after s run) step c else (births_after s run).with_thread t c)
held_own s run t step m inv c h = go (gains s step c) refl h
  where
    go : (g : Bool) → gains s step c ≡ g → (IsTrue g ⊎ (Keeps step c × Held s (log_of t run) c))
        → (c ≢ 0) × IsAlive s (ByThread t step ∷ run) c (if g then given (births_after s run) step c else (births_after s run).with_thread t c)
    go true e x = gained s run t step m inv c e
    go false e (inl x) = absurd cc
    go false e (inr x) = let a = inv.held_alive t c x.1 in (a.0, alive_stays s run t step c _ m a.1)

held_next : (s : Setup) (run : List Event) (t : ℕ) (step : Step) → MayHappen s run (ByThread t step) → Invariant s run → (u c : ℕ)
    → Held s (log_of u (ByThread t step ∷ run)) c
    → (c ≢ 0) × IsAlive s (ByThread t step ∷ run) c ((births_after s (ByThread t step ∷ run)).with_thread u c)
unfolding births_after
held_next s run t step m inv u c h = go (t == u) refl h
  where
    go : (b : Bool) → (t == u) ≡ b → Held s (if b then step ∷ log_of u run else log_of u run) c
        → (c ≢ 0) × IsAlive s (ByThread t step ∷ run) c (if b && gains s step c then given (births_after s run) step c else (births_after s run).with_thread u c)
    go true e x =
        let same : t ≡ u = test_true t u e in
        let P : ℕ → Type 0 = λ v. Held s (step ∷ log_of v run) c → (c ≢ 0) × IsAlive s (ByThread t step ∷ run) c (if gains s step c then given (births_after s run) step c else (births_after s run).with_thread v c) in
        subst P same (held_own s run t step m inv c) x
    go false e x = let a = inv.held_alive u c x in (a.0, alive_stays s run t step c _ m a.1)

-- a value that may be stored in a word is sound there
stored_sound : (s : Setup) (run : List Event) (t : ℕ) (step : Step) → MayHappen s run (ByThread t step) → Invariant s run → (k : Option WordKind) (v : ℕ)
    → MayStore s (log_of t run) k v → IsSound s (ByThread t step ∷ run) k v ((births_after s run).with_thread t v)
stored_sound s run t step m inv None v h = tt
stored_sound s run t step m inv (Some (Integer bits)) v h = h
stored_sound s run t step m inv (Some (Reference layout)) v (inl z) = inl z
stored_sound s run t step m inv (Some (Reference layout)) v (inr h) = inr (h.1, alive_stays s run t step v _ m (inv.held_alive t v h.0).1)

sound_stays : (s : Setup) (run : List Event) (t : ℕ) (step : Step) → MayHappen s run (ByThread t step) → (k : Option WordKind) (v b : ℕ)
    → IsSound s run k v b → IsSound s (ByThread t step ∷ run) k v b
sound_stays s run t step m None v b h = tt
sound_stays s run t step m (Some (Integer bits)) v b h = h
sound_stays s run t step m (Some (Reference layout)) v b (inl z) = inl z
sound_stays s run t step m (Some (Reference layout)) v b (inr h) = inr (h.0, alive_stays s run t step v b m h.1)

-- what a disciplined step puts may be stored
puts_storable : (s : Setup) (log : List Step) (step : Step) (c i : ℕ) → IsDisciplined s log step → puts step c i ≡ true → MayStore s log (kind_of s c i) (value_put step)
puts_storable s log (StoreAfterBarrier cell word value) c i d p =
    let q = and_parts (cell == c) (word == i) p in
    rw (← test_true cell c q.0, ← test_true word i q.1) d.2
puts_storable s log (StorePlain cell word value) c i d p =
    let q = and_parts (cell == c) (word == i) p in
    rw (← test_true cell c q.0, ← test_true word i q.1) d.2
puts_storable s log _ c i d p = absurd cc

words_next : (s : Setup) (run : List Event) (t : ℕ) (step : Step) → MayHappen s run (ByThread t step) → IsDisciplined s (log_of t run) step → Invariant s run → (c i : ℕ)
    → IsSound s (ByThread t step ∷ run) (kind_of s c i) (word_after s (ByThread t step ∷ run) (Word c i)) ((births_after s (ByThread t step ∷ run)).in_word c i)
unfolding births_after
words_next s run t step m d inv c i = rw word_left (go (puts step c i) refl)
  where
    go : (b : Bool) → puts step c i ≡ b
        → IsSound s (ByThread t step ∷ run) (kind_of s c i) (if b then value_put step else word_after s run (Word c i)) (if b then (births_after s run).with_thread t (value_put step) else (births_after s run).in_word c i)
    go true e = stored_sound s run t step m inv (kind_of s c i) (value_put step) (puts_storable s (log_of t run) step c i d e)
    go false e = sound_stays s run t step m (kind_of s c i) _ _ (inv.words_sound c i)

-- ---- fresh cells

pub fresh_held : (s : Setup) (log : List Step) (c : ℕ) → Fresh s log c → Held s log c
fresh_held s [] c f = absurd f
fresh_held s (step ∷ log) c (inl w) = inl (win step w)
  where
    win : (step : Step) → wins step c ≡ true → gains s step c ≡ true
    win (Claim cell won) w = w
    win _ w = absurd cc
fresh_held s (step ∷ log) c (inr f) = inr (keep step f.0, fresh_held s log c f.2)
  where
    keep : (step : Step) → is_answer step ≡ false → Keeps step c
    keep (StoreStage stage roots) a = absurd cc
    keep _ a = tt

wins_no_put : (step : Step) (c d i : ℕ) → wins step c ≡ true → puts step d i ≡ false
wins_no_put (Claim cell won) c d i w = refl
wins_no_put _ c d i w = absurd cc

put_stores : (s : Setup) (step : Step) (c d i : ℕ) → puts step d i ≡ true → is_reference_kind (kind_of s d i) ≡ true → value_put step ≡ c → stores s step c ≡ true
put_stores s (StoreAfterBarrier cell word value) c d i p r v =
    let q = and_parts (cell == d) (word == i) p in
    rw (test_true cell d q.0, test_true word i q.1, r, test_yes c value (sym v)) refl
put_stores s (StorePlain cell word value) c d i p r v =
    let q = and_parts (cell == d) (word == i) p in
    rw (test_true cell d q.0, test_true word i q.1, r, test_yes c value (sym v)) refl
put_stores s _ c d i p r v = absurd cc

storable_held : (s : Setup) (log : List Step) (k : Option WordKind) (v : ℕ) → is_reference_kind k ≡ true → MayStore s log k v → v ≢ 0 → Held s log v
storable_held s log None v r h n = absurd cc
storable_held s log (Some (Integer bits)) v r h n = absurd cc
storable_held s log (Some (Reference layout)) v r (inl z) n = absurd (n z)
storable_held s log (Some (Reference layout)) v r (inr h) n = h.0

-- after a step of t, no word names a cell that is fresh with u
unstored_own : (s : Setup) (run : List Event) (t : ℕ) (step : Step) → MayHappen s run (ByThread t step) → Invariant s run → (c d i : ℕ) → c ≢ 0
    → Fresh s (step ∷ log_of t run) c → is_reference_kind (kind_of s d i) ≡ true → (if puts step d i then value_put step else word_after s run (Word d i)) ≢ c
unstored_own s run t step m inv c d i n (inl w) r e =
    let v : word_after s run (Word d i) ≡ c = rw (wins_no_put step c d i w) at e in
    let a = sound_reference s run (kind_of s d i) (word_after s run (Word d i)) ((births_after s run).in_word d i) r (inv.words_sound d i) (λ z. n (sym v ∙ z)) in
    let b : IsAlive s run c ((births_after s run).in_word d i) = subst (λ (x : ℕ). IsAlive s run x ((births_after s run).in_word d i)) v a in
    b.not_blue (won_blue s run t step c m w)
unstored_own s run t step m inv c d i n (inr f) r e = go (puts step d i) refl e
  where
    go : (b : Bool) → puts step d i ≡ b → (if b then value_put step else word_after s run (Word d i)) ≢ c
    go true p v = let s1 : stores s step c ≡ true = put_stores s step c d i p r v in absurd (cc (f.1))
    go false p v = inv.fresh_unstored t c d i f.2 r v

unstored_other : (s : Setup) (run : List Event) (t : ℕ) (step : Step) → IsDisciplined s (log_of t run) step → Invariant s run → (u c d i : ℕ) → c ≢ 0 → (t == u) ≡ false
    → Fresh s (log_of u run) c → is_reference_kind (kind_of s d i) ≡ true → (if puts step d i then value_put step else word_after s run (Word d i)) ≢ c
unstored_other s run t step dis inv u c d i n ne f r = go (puts step d i) refl
  where
    go : (b : Bool) → puts step d i ≡ b → (if b then value_put step else word_after s run (Word d i)) ≢ c
    go true p v =
        let h : Held s (log_of t run) (value_put step) = storable_held s (log_of t run) (kind_of s d i) (value_put step) r (puts_storable s (log_of t run) step d i dis p) (λ z. n (sym v ∙ z)) in
        let one : (u == t) ≡ true = inv.fresh_alone u t c f (subst (λ (x : ℕ). Held s (log_of t run) x) v h) in
        test_false t u ne (sym (test_true u t one))
    go false p v = inv.fresh_unstored u c d i f r v

unstored_next : (s : Setup) (run : List Event) (t : ℕ) (step : Step) → MayHappen s run (ByThread t step) → IsDisciplined s (log_of t run) step → Invariant s run → (u c d i : ℕ)
    → Fresh s (log_of u (ByThread t step ∷ run)) c → is_reference_kind (kind_of s d i) ≡ true → word_after s (ByThread t step ∷ run) (Word d i) ≢ c
unstored_next s run t step m dis inv u c d i f r = rw word_left (go (t == u) refl f)
  where
    some : c ≢ 0
    some = (held_next s run t step m inv u c (fresh_held s (log_of u (ByThread t step ∷ run)) c f)).0

    go : (b : Bool) → (t == u) ≡ b → Fresh s (if b then step ∷ log_of u run else log_of u run) c → (if puts step d i then value_put step else word_after s run (Word d i)) ≢ c
    go true e x =
        let P : ℕ → Type 0 = λ v. Fresh s (step ∷ log_of v run) c → (if puts step d i then value_put step else word_after s run (Word d i)) ≢ c in
        subst P (test_true t u e) (λ y. unstored_own s run t step m inv c d i some y r) x
    go false e x = unstored_other s run t step dis inv u c d i some e x r

-- nobody gets a cell that is fresh with a thread
gains_no_fresh : (s : Setup) (run : List Event) (t : ℕ) (step : Step) → MayHappen s run (ByThread t step) → Invariant s run → (u c : ℕ)
    → gains s step c ≡ true → Fresh s (log_of u run) c → ⊥
gains_no_fresh s run t (ReadWord cell word value) m inv u c g f =
    let q = and_parts (is_reference_kind (kind_of s cell word)) (c == value) (and_parts (is_reference_kind (kind_of s cell word) && (c == value)) (not (c == 0)) g).0 in
    inv.fresh_unstored u c cell word f q.0 (m.2 ∙ sym (test_true c value q.1))
gains_no_fresh s run t (ReadOldValue cell word value) m inv u c g f =
    let q = and_parts (is_reference_kind (kind_of s cell word)) (c == value) (and_parts (is_reference_kind (kind_of s cell word) && (c == value)) (not (c == 0)) g).0 in
    inv.fresh_unstored u c cell word f q.0 (m.2 ∙ sym (test_true c value q.1))
gains_no_fresh s run t (Claim cell won) m inv u c g f =
    (inv.held_alive u c (fresh_held s (log_of u run) c f)).1.not_blue (won_blue s run t (Claim cell won) c m g)
gains_no_fresh s run t _ m inv u c g f = absurd cc

alone_next : (s : Setup) (run : List Event) (t : ℕ) (step : Step) → MayHappen s run (ByThread t step) → Invariant s run → (u w c : ℕ)
    → Fresh s (log_of u (ByThread t step ∷ run)) c → Held s (log_of w (ByThread t step ∷ run)) c → (u == w) ≡ true
alone_next s run t step m inv u w c f h = go (t == u) (t == w) refl refl f h
  where
    go : (a b : Bool) → (t == u) ≡ a → (t == w) ≡ b → Fresh s (if a then step ∷ log_of u run else log_of u run) c → Held s (if b then step ∷ log_of w run else log_of w run) c → (u == w) ≡ true
    go true true p q x y = test_yes u w (sym (test_true t u p) ∙ test_true t w q)
    go true false p q (inl x) y = absurd ((inv.held_alive w c y).1.not_blue (won_blue s run t step c m x))
    go true false p q (inr x) y = inv.fresh_alone u w c x.2 y
    go false true p q x (inl y) = absurd (gains_no_fresh s run t step m inv u c y x)
    go false true p q x (inr y) = inv.fresh_alone u w c x y.1
    go false false p q x y = inv.fresh_alone u w c x y

-- ---- every run

step_next : (s : Setup) (run : List Event) (t : ℕ) (step : Step) → MayHappen s run (ByThread t step) → IsDisciplined s (log_of t run) step → Invariant s run → Invariant s (ByThread t step ∷ run)
step_next s run t step m dis inv = record {
  globals_alive = alive_stays s run t step 0 0 m inv.globals_alive;
  held_alive = held_next s run t step m inv;
  words_sound = words_next s run t step m dis inv;
  fresh_unstored = unstored_next s run t step m dis inv;
  fresh_alone = alone_next s run t step m inv;
}

invariant : (s : Setup) (run : List Event) → IsSetup s → IsRun s run → KeepsDiscipline s run → HasNoTurn run → Invariant s run
invariant s [] h r d n = start s h
invariant s (ByThread t step ∷ run) h r d n = step_next s run t step r.1 d.1 (invariant s run h r.0 d.0 n)
invariant s (ByCollector turn ∷ run) h r d n = absurd n

-- ---- what follows

pub kept_alive : (s : Setup) (run : List Event) → IsHeapRun s run → HasNoTurn run → (c b : ℕ) → Kept s run c b → IsAlive s run c b
kept_alive s run h n c b k = go k
  where
    inv : Invariant s run
    inv = invariant s run h.setup h.run_of h.discipline n

    go : {c b : ℕ} → Kept s run c b → IsAlive s run c b
    go globals = inv.globals_alive
    go (held t c x) = (inv.held_alive t c x).1
    go (further c b i x r e) = sound_reference s run (kind_of s c i) (word_after s run (Word c i)) ((births_after s run).in_word c i) r (inv.words_sound c i) e

use_alive : (s : Setup) (run : List Event) → Invariant s run → (t c : ℕ) → MayUse s (log_of t run) c → IsAlive s run c (birth_used (births_after s run) t c)
use_alive s run inv t zero h = inv.globals_alive
use_alive s run inv t (suc c) (inl e) = absurd cc
use_alive s run inv t (suc c) (inr h) = (inv.held_alive t (suc c) h).1

pub touches_alive : (s : Setup) (run : List Event) (t : ℕ) (step : Step) → IsHeapRun s (ByThread t step ∷ run) → HasNoTurn run → TouchesAlive s run t step
touches_alive s run t step h n = go step h.discipline.1
  where
    inv : Invariant s run
    inv = invariant s run h.setup h.run_of.0 h.discipline.0 n

    go : (step : Step) → IsDisciplined s (log_of t run) step → TouchesAlive s run t step
    go (ReadWord cell word value) d = use_alive s run inv t cell d.0
    go (ReadOldValue cell word value) d = use_alive s run inv t cell d.0
    go (Mark cell) d = use_alive s run inv t cell (inr d)
    go (StoreAfterBarrier cell word value) d = use_alive s run inv t cell d.0
    go (StorePlain cell word value) d = use_alive s run inv t cell d.0
    go (Claim cell won) d = tt
    go (ReadPosted stage) d = tt
    go (StoreStage stage roots) d = tt
    go (ReadPostedFirst stage) d = tt
    go (EnterStage stage) d = tt
    go (ReadPostedAgain stage) d = tt

pub answers_possible : (s : Setup) (run : List Event) (t : ℕ) (step : Step) → IsHeapRun s (ByThread t step ∷ run) → HasNoTurn run → IsPossible s (log_of t run) step
answers_possible s run t step h n = go step h.run_of.1
  where
    inv : Invariant s run
    inv = invariant s run h.setup h.run_of.0 h.discipline.0 n

    find : (k : Option WordKind) (v b : ℕ) → IsSound s run k v b → (is_reference_kind k ≡ true → ¬ Fresh s (log_of t run) v) → MayFind s (log_of t run) k v
    find None v b x f = tt
    find (Some (Integer bits)) v b x f = x
    find (Some (Reference layout)) v b (inl z) f = inl z
    find (Some (Reference layout)) v b (inr x) f = inr (x.0, f refl)

    read : (cell word value : ℕ) → word_after s run (Word cell word) ≡ value → MayFind s (log_of t run) (kind_of s cell word) value
    read cell word value e =
        subst (λ (v : ℕ). MayFind s (log_of t run) (kind_of s cell word) v) e
        (find (kind_of s cell word) (word_after s run (Word cell word)) ((births_after s run).in_word cell word) (inv.words_sound cell word) (λ r f. inv.fresh_unstored t _ cell word f r refl))

    go : (step : Step) → MayHappen s run (ByThread t step) → IsPossible s (log_of t run) step
    go (ReadWord cell word value) m = read cell word value m.2
    go (ReadOldValue cell word value) m = read cell word value m.2
    go (Claim cell true) m = λ x. (inv.held_alive t cell x).1.not_blue (won_blue s run t (Claim cell true) cell m (test_yes cell cell refl))
    go _ m = tt
