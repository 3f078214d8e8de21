-- The reads of a word.
use Rattle.std.proofs.Common.{◌≡◌, ◌≢◌, ◌⊎◌, inl, inr, ℕ, ◌<◌, ◌==◌, ◌&&◌, not, Bool, true, false, List, ◌∷◌, refl, sym, ap, ◌∙◌, subst}
use Rattle.std.proofs.lemmas.Bool.{cases_eq}
use Rattle.lemmas.specs.Numbers.{test_true, test_false, not_null}
use Rattle.lemmas.specs.Bools.{and_parts}
use Rattle.colours.specs.declared.place.Place.TheVariants.{Colour, Word}
use Rattle.pools.specs.Heap.{Setup, kind_of}
use Rattle.pools.specs.Layouts.{is_reference_kind}
use Rattle.colours.specs.Colours.{done, cycle_of}
use Rattle.colours.specs.Steps.{Step, ReadWord, ReadOldValue}
use Rattle.colours.specs.Mutator.{Phase, Ready, stage_of, phase_of, phase_after, MayFollow, Held, Fresh, IsDisciplined}
use Rattle.colours.specs.Collector.{Collection}
use Rattle.colours.specs.Runs.{Event, ByThread, log_of, word_after, births_after, MayHappen, IsRun}
use Rattle.collector_law.specs.Invariant as law
use Rattle.collector_law.specs.Puts.{put, put-here, put-other}
use Rattle.collector_law.specs.Write.{base-live}
use Rattle.collector_law.specs.Claim.{stands-grow}
use Rattle.collector_law.specs.Read.{after_read, reads}
use Rattle.collector_law.specs.Match.{seen, IsSync, flat, Shows, Safe}
use Rattle.collector_law.specs.Events.{stage_stays, held_by, fresh_by}
use Rattle.collector_law.specs.Threads.{in_range, not_done, base_in, phase_put, phase_kept, IsIdle, idle}
use Rattle.colours.specs.Colours.{claim_at}

-- a thread reads between two calls
read_ready : (s : Setup) (stage : ℕ) (phase : Phase) (cell word value : ℕ) → MayFollow s stage phase (ReadWord cell word value) → phase ≡ Ready
read_ready s stage Ready cell word value m = refl
read_ready s stage _ cell word value m = absurd m

-- a barriered store begins between two calls
read_old_ready : (s : Setup) (stage : ℕ) (phase : Phase) (cell word value : ℕ) → MayFollow s stage phase (ReadOldValue cell word value) → phase ≡ Ready
read_old_ready s stage Ready cell word value m = refl
read_old_ready s stage _ cell word value m = absurd m

-- ---- a read of an integer

-- a read of an integer changes nothing
read_integer : (s : Setup) (run : List Event) (t cell word value : ℕ) → MayHappen s run (ByThread t (ReadWord cell word value)) → is_reference_kind (kind_of s cell word) ≡ false → IsIdle s run t (ReadWord cell word value)
unfolding word_after births_after
read_integer s run t cell word value m e = record {
  gains = λ c. rw e refl;
  wins = λ c. refl;
  stage = stage_stays s t (ReadWord cell word value) run refl m.1;
  colour = λ c. refl;
  word = λ c i r. refl;
  tag = λ c i r. refl;
  birth = λ c. refl;
  phase = ap flat (read_ready s (stage_of (log_of t run)) (phase_of s t (log_of t run)) cell word value m.1);
}

-- ---- a read of a reference

-- what such a step gives
abbrev Gives : Setup → List Event → ℕ → Step → (x i : ℕ) → Type 0
Gives s run t step x i = (u c : ℕ) → Held s (log_of u (ByThread t step ∷ run)) c
    → ((u ≡ t) × (c ≢ 0) × (c ≡ word_after s run (Word x i)) × ((births_after s (ByThread t step ∷ run)).with_thread u c ≡ (births_after s run).in_word x i))
    ⊎ (((births_after s (ByThread t step ∷ run)).with_thread u c ≡ (births_after s run).with_thread u c) × Held s (log_of u run) c)

-- what a step gives is not null, and is the value
gain_parts : (r : Bool) (c value : ℕ) → ((r && (c == value)) && not (c == 0)) ≡ true → (c ≢ 0) × (c ≡ value)
gain_parts r c value g =
    let p = and_parts (r && (c == value)) (not (c == 0)) g in
    (not_null c p.1, test_true c value (and_parts r (c == value) p.0).1)

-- a read gives what the word names
read_gives : (s : Setup) (run : List Event) (t cell word value : ℕ) → MayHappen s run (ByThread t (ReadWord cell word value)) → Gives s run t (ReadWord cell word value) cell word
read_gives s run t cell word value m u c x = elim (held_by s t (ReadWord cell word value) run u c x) [
  | inl y ↦ let p = gain_parts (is_reference_kind (kind_of s cell word)) c value y.1 in inl (y.0, p.0, p.1 ∙ sym m.2, y.2)
  | inr y ↦ inr (y.0, y.2)
]

-- and so does the read of an old value
read_old_gives : (s : Setup) (run : List Event) (t cell word value : ℕ) → MayHappen s run (ByThread t (ReadOldValue cell word value)) → Gives s run t (ReadOldValue cell word value) cell word
read_old_gives s run t cell word value m u c x = elim (held_by s t (ReadOldValue cell word value) run u c x) [
  | inl y ↦ let p = gain_parts (is_reference_kind (kind_of s cell word)) c value y.1 in inl (y.0, p.0, p.1 ∙ sym m.2, y.2)
  | inr y ↦ inr (y.0, y.2)
]

-- what a read leaves as it was
record IsRead (s : Setup) (run : List Event) (t : ℕ) (step : Step) (x i : ℕ) : Type 0 where
  pub reference : is_reference_kind (kind_of s x i) ≡ true
  pub stage : (u : ℕ) → seen (phase_of s u (log_of u (ByThread t step ∷ run))) (stage_of (log_of u (ByThread t step ∷ run))) ≡ seen (phase_of s u (log_of u run)) (stage_of (log_of u run))
  pub colour : (c : ℕ) → word_after s (ByThread t step ∷ run) (Colour c) ≡ word_after s run (Colour c)
  pub word : (c j : ℕ) → word_after s (ByThread t step ∷ run) (Word c j) ≡ word_after s run (Word c j)
  pub tag : (c j : ℕ) → (births_after s (ByThread t step ∷ run)).in_word c j ≡ (births_after s run).in_word c j
  pub birth : (c : ℕ) → (births_after s (ByThread t step ∷ run)).of_cell c ≡ (births_after s run).of_cell c
  pub gives : Gives s run t step x i
  pub fresh : (u c : ℕ) → Fresh s (log_of u (ByThread t step ∷ run)) c → Fresh s (log_of u run) c

-- the state after a read shows the run
read_shows : (s : Setup) (run : List Event) (S : law.State) (t : ℕ) (step : Step) (x i : ℕ) (g : ℕ → law.Phase) → IsRead s run t step x i
    → ((u : ℕ) → g u ≡ flat (phase_of s u (log_of u (ByThread t step ∷ run)))) → Shows s run S → Shows s (ByThread t step ∷ run) (after_read S t x i g)
read_shows s run S t step x i g w phase h = record {
  threads = h.threads;
  cells = h.cells;
  posted = h.posted;
  stage = λ u. h.stage u ∙ sym (w.stage u);
  phase = phase;
  colour = λ c. h.colour c ∙ sym (w.colour c);
  word = λ c j r. h.word c j r ∙ sym (w.word c j);
  no_word = h.no_word;
  tag = λ c j r n. h.tag c j r n ∙ sym (w.tag c j);
  birth = λ c. h.birth c ∙ sym (w.birth c);
  held = λ u c y. elim (w.gives u c y) [
    | inl z ↦ let now = z.2 ∙ sym (h.word x i w.reference) in inr (z.0, z.1, now, z.3 ∙ sym (h.tag x i w.reference (λ null. z.1 (now ∙ null))))
    | inr z ↦ inl (subst (λ (b : ℕ). S.IsHeld u c b) (sym z.0) (h.held u c z.1))
  ];
  fresh = λ u c y. h.fresh u c (w.fresh u c y);
}

-- a read of a reference is such a step
is_read : (s : Setup) (run : List Event) (t cell word value : ℕ) → MayHappen s run (ByThread t (ReadWord cell word value)) → is_reference_kind (kind_of s cell word) ≡ true → IsRead s run t (ReadWord cell word value) cell word
unfolding word_after births_after
is_read s run t cell word value m e = record {
  reference = e;
  stage = stage_stays s t (ReadWord cell word value) run refl m.1;
  colour = λ c. refl;
  word = λ c j. refl;
  tag = λ c j. refl;
  birth = λ c. refl;
  gives = read_gives s run t cell word value m;
  fresh = λ u c y. elim (fresh_by s t (ReadWord cell word value) run u c y) [ inl z ↦ absurd (cc (z.1)) | inr z ↦ z.1 ];
}

-- and so is the read of an old value
is_read_old : (s : Setup) (run : List Event) (t cell word value : ℕ) → MayHappen s run (ByThread t (ReadOldValue cell word value)) → is_reference_kind (kind_of s cell word) ≡ true → IsRead s run t (ReadOldValue cell word value) cell word
unfolding word_after births_after
is_read_old s run t cell word value m e = record {
  reference = e;
  stage = stage_stays s t (ReadOldValue cell word value) run refl m.1;
  colour = λ c. refl;
  word = λ c j. refl;
  tag = λ c j. refl;
  birth = λ c. refl;
  gives = read_old_gives s run t cell word value m;
  fresh = λ u c y. elim (fresh_by s t (ReadOldValue cell word value) run u c y) [ inl z ↦ absurd (cc (z.1)) | inr z ↦ z.1 ];
}

-- ---- the invariant

-- a read leads to a state that satisfies the invariant
pub read_safe : (s : Setup) (run : List Event) (c : Collection) (t cell word value : ℕ) → IsRun s run → MayHappen s run (ByThread t (ReadWord cell word value))
    → IsDisciplined s (log_of t run) (ReadWord cell word value) → Safe s run c → Safe s (ByThread t (ReadWord cell word value) ∷ run) c
read_safe s run c t cell word value r m d f = go (is_reference_kind (kind_of s cell word)) refl
  where
    S : law.State
    S = f.state

    lt : t < S.threads
    lt = in_range s run S f.shows t (ReadWord cell word value) m

    go : (b : Bool) → is_reference_kind (kind_of s cell word) ≡ b → Safe s (ByThread t (ReadWord cell word value) ∷ run) c
    go false e = record { state = S; inv = f.inv; shows = idle s run S t (ReadWord cell word value) (read_integer s run t cell word value m e) f.shows; at = f.at }
    go true e = record {
      state = after_read S t cell word S.phase;
      inv = reads done cycle_of claim_at IsSync S t cell word S.phase lt (record {
        base = base_in s run S f.inv f.shows t cell lt d.0;
        not_ended = not_done s run S f.shows r t (ReadWord cell word value) refl m;
        differs = λ u y j x. x;
        old = λ u y lu x o. o;
        marked = λ u y x. x;
        answers = f.inv.stages.answers;
        ready = λ u lu x. (f.inv.stages.ended u lu x).0;
        stands = λ u lu. stands-grow cycle_of IsSync S S.colour S.birth (after_read S t cell word S.phase).IsHeld u (λ y b. elim b [ inl z ↦ inl z | inr z ↦ inr (inl z) ]) (λ y k. k) (S.phase u) (f.inv.stands u lu);
      }) f.inv;
      shows = read_shows s run S t (ReadWord cell word value) cell word S.phase (is_read s run t cell word value m e)
          (phase_kept s run S f.shows t (ReadWord cell word value) (ap flat (read_ready s (stage_of (log_of t run)) (phase_of s t (log_of t run)) cell word value m.1))) f.shows;
      at = f.at;
    }

-- the read of an old value does
pub read_old_safe : (s : Setup) (run : List Event) (c : Collection) (t cell word value : ℕ) → IsRun s run → MayHappen s run (ByThread t (ReadOldValue cell word value))
    → IsDisciplined s (log_of t run) (ReadOldValue cell word value) → Safe s run c → Safe s (ByThread t (ReadOldValue cell word value) ∷ run) c
read_old_safe s run c t cell word value r m d f = go (value == 0) refl
  where
    S : law.State
    S = f.state

    lt : t < S.threads
    lt = in_range s run S f.shows t (ReadOldValue cell word value) m

    base : law.IsBase S t cell
    base = base_in s run S f.inv f.shows t cell lt d.0

    now : S.word cell word ≡ value
    now = f.shows.word cell word d.1 ∙ m.2

    ready : S.phase t ≡ law.Ready
    ready = f.shows.phase t ∙ ap flat (read_old_ready s (stage_of (log_of t run)) (phase_of s t (log_of t run)) cell word value m.1)

    build : (q : law.Phase) → q ≡ flat (phase_after s (stage_of (log_of t run)) (phase_of s t (log_of t run)) (ReadOldValue cell word value))
        → ((y j n : ℕ) → law.Differs q y j n → (cell ≡ y) × (word ≡ j) × (n ≢ value)) → ((y : ℕ) → value ≢ y → law.OldIsNot q y)
        → ((p : ℕ) (marked : List ℕ) → q ≡ law.Answering p marked → ⊥)
        → law.Stands cycle_of IsSync (after_read S t cell word (put S.phase t q)) t q → Safe s (ByThread t (ReadOldValue cell word value) ∷ run) c
    build q is differs old answers stands = record {
      state = after_read S t cell word (put S.phase t q);
      inv = reads done cycle_of claim_at IsSync S t cell word (put S.phase t q) lt (record {
        base = base;
        not_ended = not_done s run S f.shows r t (ReadOldValue cell word value) refl m;
        differs = λ u y j x. elim (cases_eq u t) [
          | inl e ↦ let z = differs y j (S.word y j) (subst (λ p. law.Differs p y j (S.word y j)) (put-here S.phase t q u e) x) in absurd (z.2 (ap (λ w. S.word w j) (sym z.0) ∙ ap (λ w. S.word cell w) (sym z.1) ∙ now))
          | inr n ↦ subst (λ p. law.Differs p y j (S.word y j)) (put-other S.phase t q u n) x
        ];
        old = λ u y lu x o. elim (cases_eq u t) [
          | inl e ↦ subst (λ p. law.OldIsNot p y) (sym (put-here S.phase t q u e)) (old y (λ z. f.inv.fresh.unnamed u y cell word lu x (base-live done cycle_of claim_at IsSync S t cell lt f.inv base) (now ∙ z)))
          | inr n ↦ subst (λ p. law.OldIsNot p y) (sym (put-other S.phase t q u n)) o
        ];
        marked = λ u y x. elim (cases_eq u t) [
          | inl e ↦ absurd (subst (λ p. law.HasMarked p y) (ap S.phase e ∙ ready) x)
          | inr n ↦ subst (λ p. law.HasMarked p y) (sym (put-other S.phase t q u n)) x
        ];
        answers = λ u p marked lu x. elim (cases_eq u t) [
          | inl e ↦ absurd (answers p marked (sym (put-here S.phase t q u e) ∙ x))
          | inr n ↦ f.inv.stages.answers u p marked lu (sym (put-other S.phase t q u n) ∙ x)
        ];
        ready = λ u lu x. elim (cases_eq u t) [
          | inl e ↦ absurd (not_done s run S f.shows r t (ReadOldValue cell word value) refl m (ap S.stage (sym e) ∙ x))
          | inr n ↦ put-other S.phase t q u n ∙ (f.inv.stages.ended u lu x).0
        ];
        stands = λ u lu. elim (cases_eq u t) [
          | inl e ↦ subst (λ p. law.Stands cycle_of IsSync (after_read S t cell word (put S.phase t q)) u p) (sym (put-here S.phase t q u e))
              (subst (λ z. law.Stands cycle_of IsSync (after_read S t cell word (put S.phase t q)) z q) (sym e) stands)
          | inr n ↦ subst (λ p. law.Stands cycle_of IsSync (after_read S t cell word (put S.phase t q)) u p) (sym (put-other S.phase t q u n))
              (stands-grow cycle_of IsSync S S.colour S.birth (after_read S t cell word (put S.phase t q)).IsHeld u (λ y b. elim b [ inl z ↦ inl z | inr z ↦ inr (inl z) ]) (λ y k. k) (S.phase u) (f.inv.stands u lu))
        ];
      }) f.inv;
      shows = read_shows s run S t (ReadOldValue cell word value) cell word (put S.phase t q) (is_read_old s run t cell word value m d.1)
          (phase_put s run S f.shows t (ReadOldValue cell word value) q is) f.shows;
      at = f.at;
    }

    kept : (q : law.Phase) (y : ℕ) → law.IsBase S t y → law.IsBase (after_read S t cell word (put S.phase t q)) t y
    kept q y b = elim b [ inl z ↦ inl z | inr z ↦ inr (inl z) ]

    found : (q : law.Phase) → value ≢ 0 → law.IsBase (after_read S t cell word (put S.phase t q)) t value
    found q n = elim (f.inv.live.words cell word (base-live done cycle_of claim_at IsSync S t cell lt f.inv base)) [
      | inl null ↦ absurd (n (sym now ∙ null))
      | inr good ↦ inr (inr (refl, n, sym now, ap S.birth (sym now) ∙ sym good.1))
    ]

    go : (b : Bool) → (value == 0) ≡ b → Safe s (ByThread t (ReadOldValue cell word value) ∷ run) c
    go true e = build (law.MarkingNew cell word value) (rw e refl) (λ y j n x. x) (λ y x. x) (λ p marked x. cc)
        (kept (law.MarkingNew cell word value) cell base, inl (test_true value 0 e), λ x. inl (test_true value 0 e))
    go false e = build (law.MarkingOld cell word value) (rw e refl) (λ y j n x. x) (λ y x. x) (λ p marked x. cc)
        (kept (law.MarkingOld cell word value) cell base, test_false value 0 e, found (law.MarkingOld cell word value) (test_false value 0 e))
