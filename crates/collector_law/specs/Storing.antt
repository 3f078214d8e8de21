-- The stores of a thread.
use Rattle.std.proofs.Common.{◌≡◌, ◌≢◌, ◌⊎◌, inl, inr, ℕ, ◌+◌, ◌*◌, ◌^◌, ◌<◌, ◌==◌, ◌&&◌, Bool, true, false, Option, Some, None, List, ◌∷◌, refl, sym, ap, ◌∙◌, subst, if◌then◌else◌, arith}
use Rattle.lemmas.specs.Numbers.{test_true, test_yes}
use Rattle.colours.specs.declared.place.Place.TheVariants.{Word}
use Rattle.pools.specs.Heap.{Setup, kind_of}
use Rattle.pools.specs.declared.word_kind.WordKind.{WordKind}
use Rattle.pools.specs.declared.word_kind.WordKind.TheVariants.{Integer, Reference}
use Rattle.pools.specs.Layouts.{is_reference_kind}
use Rattle.colours.specs.Colours.{done, cycle_of, claim_at, is_async}
use Rattle.colours.specs.Steps.{Step, StoreAfterBarrier, StorePlain}
use Rattle.colours.specs.Mutator.{Phase, Ready, MarkingNew, Writing, stage_of, phase_of, MayFollow, MayStore, Held, IsDisciplined}
use Rattle.colours.specs.Collector.{Collection, posted_of}
use Rattle.colours.specs.Runs.{Event, ByThread, log_of, turns_of, word_after, births_after, MayHappen, IsRun}
use Rattle.colours.specs.Stages.{handshake}
use Rattle.collector_law.specs.Invariant as law
use Rattle.collector_law.specs.Puts.{put_word, here_or_not, put_word-here, put_word-other}
use Rattle.collector_law.specs.Write.{after_store, IsStoring, written}
use Rattle.collector_law.specs.Plain.{after_plain, stored_plainly}
use Rattle.collector_law.specs.Match.{IsSync, IsInvariant, flat, Shows, Safe}
use Rattle.collector_law.specs.Match.{stage_in}
use Rattle.collector_law.specs.Events.{stage_stays, plain_begun, fresh_by}
use Rattle.collector_law.specs.Threads.{in_range, held_in, base_in, phase_put, phase_kept, held_kept, IsIdle, idle}
use Rattle.collector_law.specs.Numbers.{are_stages, posted_near, claim_black, claim_white}

-- a cycle is far below the number of the stage done
pub low_cycle : (s : Setup) (run : List Event) (S : law.State) → IsInvariant S → Shows s run S → IsRun s run → 3 * S.cycle + 6 < done
low_cycle s run S inv h r =
    let near = posted_near S.part S.cycle S.posted inv.stages.posted in
    let low : posted_of (turns_of run) < 3 * 2 ^ 60 = (handshake s run r).low in
    let same : S.posted ≡ posted_of (turns_of run) = h.posted in
    omega (arith, near, low, same)

-- what may be stored in a reference word, as a base
value_in : (s : Setup) (run : List Event) (S : law.State) → IsInvariant S → Shows s run S → (t : ℕ) → t < S.threads → (k : Option WordKind) (v : ℕ) → is_reference_kind k ≡ true → MayStore s (log_of t run) k v → law.IsBase S t v
value_in s run S inv h t lt None v e d = absurd d
value_in s run S inv h t lt (Some (Integer bits)) v e d = absurd cc
value_in s run S inv h t lt (Some (Reference layout)) v e (inl z) = inl z
value_in s run S inv h t lt (Some (Reference layout)) v e (inr x) = inr (held_in s run S inv h t v lt x.0).1

-- the test of a place
pair_test : (x i c j : ℕ) → ((c ≡ x) × (j ≡ i)) → ((x == c) && (i == j)) ≡ true
pair_test x i c j e = rw (test_yes x c (sym e.0), test_yes i j (sym e.1)) refl

-- and of another
pair_off : (x i c j : ℕ) → ((c ≡ x) × (j ≡ i) → ⊥) → ((x == c) && (i == j)) ≡ false
pair_off x i c j n = go (x == c) (i == j) refl refl
  where
    go : (a b : Bool) → (x == c) ≡ a → (i == j) ≡ b → (a && b) ≡ false
    go true true e f = absurd (n (sym (test_true x c e), sym (test_true i j f)))
    go true false e f = refl
    go false b e f = refl

-- a word after the store, and its birth
pub word_put : (s : Setup) (run : List Event) (S : law.State) → Shows s run S → (x i v c j : ℕ) → is_reference_kind (kind_of s c j) ≡ true
    → put_word S.word x i v c j ≡ (if (x == c) && (i == j) then v else word_after s run (Word c j))
word_put s run S h x i v c j r = elim (here_or_not x i c j) [
  | inl e ↦ put_word-here S.word x i v c j e ∙ rw (pair_test x i c j e) refl
  | inr n ↦ put_word-other S.word x i v c j n ∙ rw (pair_off x i c j n) (h.word c j r)
]

-- a store into a reference word leaves integer words out of the state
pub no_word_put : (s : Setup) (run : List Event) (S : law.State) → Shows s run S → (x i v c j : ℕ) → is_reference_kind (kind_of s x i) ≡ true → is_reference_kind (kind_of s c j) ≡ false → put_word S.word x i v c j ≡ 0
no_word_put s run S h x i v c j r n = elim (here_or_not x i c j) [
  | inl e ↦ absurd (differ (is_reference_kind (kind_of s c j)) n (subst (λ z. is_reference_kind (kind_of s z j) ≡ true) (sym e.0) (subst (λ z. is_reference_kind (kind_of s x z) ≡ true) (sym e.1) r)))
  | inr o ↦ put_word-other S.word x i v c j o ∙ h.no_word c j n
]
  where
    differ : (b : Bool) → b ≡ false → b ≡ true → ⊥
    differ b e f = cc

-- the state's births in words are those after the store
tag_put : (s : Setup) (run : List Event) (S : law.State) → IsInvariant S → Shows s run S → (t : ℕ) → t < S.threads → (x i v c j : ℕ) → ((v ≡ 0) ⊎ Held s (log_of t run) v) → is_reference_kind (kind_of s c j) ≡ true
    → put_word S.word x i v c j ≢ 0 → put_word S.tag x i (S.birth v) c j ≡ (if (x == c) && (i == j) then (births_after s run).with_thread t v else (births_after s run).in_word c j)
tag_put s run S inv h t lt x i v c j held r n = elim (here_or_not x i c j) [
  | inl e ↦ put_word-here S.tag x i (S.birth v) c j e ∙ rw (pair_test x i c j e) (elim held [
    | inl null ↦ absurd (n (put_word-here S.word x i v c j e ∙ null))
    | inr y ↦ sym (inv.live.held t v ((births_after s run).with_thread t v) lt (h.held t v y)).2
  ])
  | inr o ↦ put_word-other S.tag x i (S.birth v) c j o ∙ rw (pair_off x i c j o) (h.tag c j r (λ z. n (put_word-other S.word x i v c j o ∙ z)))
]

-- a reference that may be stored is null or held
null_or_held : (s : Setup) (log : List Step) (k : Option WordKind) (v : ℕ) → is_reference_kind k ≡ true → MayStore s log k v → (v ≡ 0) ⊎ Held s log v
null_or_held s log None v e d = absurd d
null_or_held s log (Some (Integer bits)) v e d = absurd cc
null_or_held s log (Some (Reference layout)) v e (inl z) = inl z
null_or_held s log (Some (Reference layout)) v e (inr x) = inr x.0

-- what is stored is another cell where the test says so
other_cell : (b r : Bool) → r ≡ true → (r && b) ≡ false → b ≡ true → ⊥
other_cell true true e f g = cc
other_cell true false e f g = cc
other_cell false r e f g = cc

-- ---- after the barrier

-- the state after a barriered store shows the run
write_shows : (s : Setup) (run : List Event) (S : law.State) → IsInvariant S → Shows s run S → (t x i v : ℕ) → t < S.threads → is_reference_kind (kind_of s x i) ≡ true → ((v ≡ 0) ⊎ Held s (log_of t run) v)
    → MayFollow s (stage_of (log_of t run)) (phase_of s t (log_of t run)) (StoreAfterBarrier x i v) → Shows s (ByThread t (StoreAfterBarrier x i v) ∷ run) (after_store S t x i v)
unfolding word_after births_after
write_shows s run S inv h t x i v lt ref held f = record {
  threads = h.threads;
  cells = h.cells;
  posted = h.posted;
  stage = λ u. h.stage u ∙ sym (stage_stays s t (StoreAfterBarrier x i v) run refl f u);
  phase = phase_put s run S h t (StoreAfterBarrier x i v) law.Ready refl;
  colour = λ c. h.colour c;
  word = λ c j r. word_put s run S h x i v c j r;
  no_word = λ c j n. no_word_put s run S h x i v c j ref n;
  tag = λ c j r n. tag_put s run S inv h t lt x i v c j held r n;
  birth = λ c. h.birth c;
  held = held_kept s run S t (StoreAfterBarrier x i v) (λ c. refl) h;
  fresh = λ u c y. elim (fresh_by s t (StoreAfterBarrier x i v) run u c y) [
    | inl z ↦ absurd (cc (z.1))
    | inr z ↦ (h.fresh u c z.1, λ is e. other_cell (c == v) (is_reference_kind (kind_of s x i)) ref (z.0 is).1 (test_yes c v (sym e)))
  ];
}

-- a barriered store leads to a state that satisfies the invariant
pub write_safe : (s : Setup) (run : List Event) (c : Collection) (t x i v : ℕ) → IsRun s run → MayHappen s run (ByThread t (StoreAfterBarrier x i v))
    → IsDisciplined s (log_of t run) (StoreAfterBarrier x i v) → Safe s run c → Safe s (ByThread t (StoreAfterBarrier x i v) ∷ run) c
write_safe s run c t x i v r m d f = go (phase_of s t (log_of t run)) refl m.1
  where
    S : law.State
    S = f.state

    lt : t < S.threads
    lt = in_range s run S f.shows t (StoreAfterBarrier x i v) m

    low : 3 * S.cycle + 6 < done
    low = low_cycle s run S f.inv f.shows r

    base : law.IsBase S t x
    base = base_in s run S f.inv f.shows t x lt d.0

    value : law.IsBase S t v
    value = value_in s run S f.inv f.shows t lt (kind_of s x i) v d.1 d.2

    build : (old : ℕ) → IsStoring cycle_of IsSync S t x i old v → Safe s (ByThread t (StoreAfterBarrier x i v) ∷ run) c
    build old w = record {
      state = after_store S t x i v;
      inv = written done cycle_of claim_at IsSync S t x i old v (are_stages S.cycle (omega (arith, low))) lt w f.inv;
      shows = write_shows s run S f.inv f.shows t x i v lt d.1 (null_or_held s (log_of t run) (kind_of s x i) v d.1 d.2) m.1;
      at = f.at;
    }

    go : (p : Phase) → phase_of s t (log_of t run) ≡ p → MayFollow s (stage_of (log_of t run)) p (StoreAfterBarrier x i v) → Safe s (ByThread t (StoreAfterBarrier x i v) ∷ run) c
    go (MarkingNew cell word old) e n = build old (record {
      base = base;
      replaced = stood.2;
      differs = λ o. subst (λ p. law.Differs p x i (S.word x i)) (sym is) (sym n.0, sym n.1, o);
      value = value;
      barrier = λ sync. inl (n.2 (ap is_async (sym (stage_in s run S f.shows t (plain_begun s (stage_of (log_of t run)) (phase_of s t (log_of t run)) (StoreAfterBarrier x i v) refl m.1))) ∙ sync));
      own = λ y h. absurd (subst (λ p. law.HasMarked p y) is h);
      busy = λ z. differ (sym z ∙ is);
    })
      where
        is : S.phase t ≡ law.MarkingNew cell word old
        is = f.shows.phase t ∙ ap flat e

        stood : law.Stands cycle_of IsSync S t (law.MarkingNew cell word old)
        stood = subst (λ p. law.Stands cycle_of IsSync S t p) is (f.inv.stands t lt)

        differ : law.Ready ≡ law.MarkingNew cell word old → ⊥
        differ z = cc
    go (Writing cell word old new) e n = build old (record {
      base = base;
      replaced = stood.2;
      differs = λ o. subst (λ p. law.Differs p x i (S.word x i)) (sym is) (sym n.0, sym n.1, o);
      value = value;
      barrier = λ sync. inr (subst (λ z. law.IsMarked S z) (sym n.2) stood.6);
      own = λ y h. n.2 ∙ subst (λ p. law.HasMarked p y) is h;
      busy = λ z. differ (sym z ∙ is);
    })
      where
        is : S.phase t ≡ law.Writing cell word old new
        is = f.shows.phase t ∙ ap flat e

        stood : law.Stands cycle_of IsSync S t (law.Writing cell word old new)
        stood = subst (λ p. law.Stands cycle_of IsSync S t p) is (f.inv.stands t lt)

        differ : law.Ready ≡ law.Writing cell word old new → ⊥
        differ z = cc
    go _ e n = absurd n

-- ---- plain

-- a plain store is made between two calls
plain_ready : (s : Setup) (stage : ℕ) (phase : Phase) (x i v : ℕ) → MayFollow s stage phase (StorePlain x i v) → phase ≡ Ready
plain_ready s stage Ready x i v m = refl
plain_ready s stage _ x i v m = absurd m

-- the state after a plain store of a reference shows the run
plain_shows : (s : Setup) (run : List Event) (S : law.State) → IsInvariant S → Shows s run S → (t x i v : ℕ) → t < S.threads → is_reference_kind (kind_of s x i) ≡ true → ((v ≡ 0) ⊎ Held s (log_of t run) v)
    → phase_of s t (log_of t run) ≡ Ready → Shows s (ByThread t (StorePlain x i v) ∷ run) (after_plain S t x i v)
unfolding word_after births_after
plain_shows s run S inv h t x i v lt ref held ready = record {
  threads = h.threads;
  cells = h.cells;
  posted = h.posted;
  stage = λ u. h.stage u ∙ sym (stage_stays s t (StorePlain x i v) run refl (rw ready tt) u);
  phase = phase_kept s run S h t (StorePlain x i v) (ap flat ready);
  colour = λ c. h.colour c;
  word = λ c j r. word_put s run S h x i v c j r;
  no_word = λ c j n. no_word_put s run S h x i v c j ref n;
  tag = λ c j r n. tag_put s run S inv h t lt x i v c j held r n;
  birth = λ c. h.birth c;
  held = held_kept s run S t (StorePlain x i v) (λ c. refl) h;
  fresh = λ u c y. elim (fresh_by s t (StorePlain x i v) run u c y) [
    | inl z ↦ absurd (cc (z.1))
    | inr z ↦ (h.fresh u c z.1, λ is e. other_cell (c == v) (is_reference_kind (kind_of s x i)) ref (z.0 is).1 (test_yes c v (sym e)))
  ];
}

-- a store of an integer changes nothing
plain_integer : (s : Setup) (run : List Event) (t x i v : ℕ) → MayHappen s run (ByThread t (StorePlain x i v)) → is_reference_kind (kind_of s x i) ≡ false → IsIdle s run t (StorePlain x i v)
unfolding word_after births_after
plain_integer s run t x i v m e = record {
  gains = λ c. refl;
  wins = λ c. refl;
  stage = stage_stays s t (StorePlain x i v) run refl m.1;
  colour = λ c. refl;
  word = λ c j r. rw (off c j r) refl;
  tag = λ c j r. rw (off c j r) refl;
  birth = λ c. refl;
  phase = ap flat (plain_ready s (stage_of (log_of t run)) (phase_of s t (log_of t run)) x i v m.1);
}
  where
    differ : (b : Bool) → b ≡ false → b ≡ true → ⊥
    differ b e f = cc

    off : (c j : ℕ) → is_reference_kind (kind_of s c j) ≡ true → ((x == c) && (i == j)) ≡ false
    off c j r = pair_off x i c j (λ z. differ (is_reference_kind (kind_of s x i)) e (subst (λ y. is_reference_kind (kind_of s y i) ≡ true) z.0 (subst (λ y. is_reference_kind (kind_of s c y) ≡ true) z.1 r)))

-- a plain store leads to a state that satisfies the invariant
pub plain_safe : (s : Setup) (run : List Event) (c : Collection) (t x i v : ℕ) → IsRun s run → MayHappen s run (ByThread t (StorePlain x i v))
    → IsDisciplined s (log_of t run) (StorePlain x i v) → Safe s run c → Safe s (ByThread t (StorePlain x i v) ∷ run) c
plain_safe s run c t x i v r m d f = go (is_reference_kind (kind_of s x i)) refl
  where
    S : law.State
    S = f.state

    lt : t < S.threads
    lt = in_range s run S f.shows t (StorePlain x i v) m

    ready : phase_of s t (log_of t run) ≡ Ready
    ready = plain_ready s (stage_of (log_of t run)) (phase_of s t (log_of t run)) x i v m.1

    go : (b : Bool) → is_reference_kind (kind_of s x i) ≡ b → Safe s (ByThread t (StorePlain x i v) ∷ run) c
    go false e = record { state = S; inv = f.inv; shows = idle s run S t (StorePlain x i v) (plain_integer s run t x i v m e) f.shows; at = f.at }
    go true e = record {
      state = after_plain S t x i v;
      inv = stored_plainly done cycle_of claim_at IsSync S t x i v (claim_black S.cycle) (λ st z. claim_white S.cycle st (omega (arith, z)) (omega (arith, z))) lt
          (f.shows.phase t ∙ ap flat ready) (f.shows.fresh t x (d.1 e)) (value_in s run S f.inv f.shows t lt (kind_of s x i) v e d.2) f.inv;
      shows = plain_shows s run S f.inv f.shows t x i v lt e (null_or_held s (log_of t run) (kind_of s x i) v e d.2) ready;
      at = f.at;
    }
