-- What a step of the collector leaves as it was, and its moves between two steps.
use Rattle.std.proofs.Common.{◌≡◌, ◌≢◌, ◌⊎◌, inl, inr, ℕ, zero, suc, ◌+◌, ◌*◌, ◌%◌, ◌<◌, ◌≤◌, true, false, List, ◌∷◌, length, nat_lt, refl, sym, ap, ◌∙◌, subst, arith}
use Rattle.std.proofs.lemmas.Option.{slice_get_past}
use Rattle.lemmas.specs.Numbers.{test_yes, test_no, lt_true, lt_false}
use Rattle.lemmas.specs.Bools.{yes_or_no}
use Rattle.colours.specs.declared.place.Place.TheVariants.{Colour, Word}
use Rattle.pools.specs.Heap.{Setup, cells, kind_of, words_of_cell}
use Rattle.pools.specs.Layouts.{is_reference_kind}
use Rattle.colours.specs.Colours.{done, cycle_of, claim_at}
use Rattle.colours.specs.declared.turn.Turn.{Turn}
use Rattle.colours.specs.Collector.{Pass, posted_of, skip_integers, sweep_from, pass_from, after_wait, wait_from}
use Rattle.colours.specs.Runs.{Event, ByCollector, turns_of, word_after, births_after}
use Rattle.collector_law.specs.Invariant as law
use Rattle.collector_law.specs.Turn.{turned, scans}
use Rattle.collector_law.specs.Post.{traces, repeats}
use Rattle.collector_law.specs.Sweep.{rests}
use Rattle.collector_law.specs.Match.{IsSync, IsInvariant, Shows, Safe}
use Rattle.collector_law.specs.Numbers.{cycle_is}

-- the state after a step of the collector
abbrev pub afterwards : law.State → law.Part → (cycle posted : ℕ) → (ℕ → ℕ) → (ℕ → ℕ → ℕ) → law.State
afterwards S p k posted colour word = record S { part = p; cycle = k; posted = posted; colour = colour; word = word }

-- the posted stage, the colours and the words are those after the step
pub record IsAfter (s : Setup) (run : List Event) (S : law.State) (turn : Turn) (q : ℕ) (f : ℕ → ℕ) (g : ℕ → ℕ → ℕ) : Type 0 where
  pub posted : q ≡ posted_of (turns_of (ByCollector turn ∷ run))
  pub colour : (c : ℕ) → f c ≡ word_after s (ByCollector turn ∷ run) (Colour c)
  pub word : (c i : ℕ) → is_reference_kind (kind_of s c i) ≡ true → g c i ≡ word_after s (ByCollector turn ∷ run) (Word c i)
  pub no_word : (c i : ℕ) → is_reference_kind (kind_of s c i) ≡ false → g c i ≡ 0
  pub null : (c i : ℕ) → g c i ≢ 0 → S.word c i ≢ 0

-- a state with what the step changed shows the longer run
pub turn_shows : (s : Setup) (run : List Event) (S : law.State) (turn : Turn) (p : law.Part) (k posted : ℕ) (colour : ℕ → ℕ) (word : ℕ → ℕ → ℕ)
    → IsAfter s run S turn posted colour word → Shows s run S → Shows s (ByCollector turn ∷ run) (afterwards S p k posted colour word)
unfolding births_after
turn_shows s run S turn p k posted colour word w h = record {
  threads = h.threads;
  cells = h.cells;
  posted = w.posted;
  stage = h.stage;
  phase = h.phase;
  colour = w.colour;
  word = w.word;
  no_word = w.no_word;
  tag = λ c i r n. h.tag c i r (w.null c i n);
  birth = λ c. h.birth c;
  held = λ t c x. h.held t c x;
  fresh = h.fresh;
}

-- the step changes no word
pub record IsLook (s : Setup) (run : List Event) (turn : Turn) : Type 0 where
  pub posted : posted_of (turns_of run) ≡ posted_of (turns_of (ByCollector turn ∷ run))
  pub colour : (c : ℕ) → word_after s run (Colour c) ≡ word_after s (ByCollector turn ∷ run) (Colour c)
  pub word : (c i : ℕ) → word_after s run (Word c i) ≡ word_after s (ByCollector turn ∷ run) (Word c i)

-- a look shows the same state
pub look_shows : (s : Setup) (run : List Event) (S : law.State) (turn : Turn) → IsLook s run turn → Shows s run S → Shows s (ByCollector turn ∷ run) S
look_shows s run S turn w h = turn_shows s run S turn S.part S.cycle S.posted S.colour S.word (record {
  posted = h.posted ∙ w.posted;
  colour = λ c. h.colour c ∙ w.colour c;
  word = λ c i r. h.word c i r ∙ w.word c i;
  no_word = h.no_word;
  null = λ c i n. n;
}) h

-- the part is no word
pub moves : (s : Setup) (run : List Event) (S : law.State) (p : law.Part) → Shows s run S → Shows s run (turned S p)
moves s run S p h = record {
  threads = h.threads;
  cells = h.cells;
  posted = h.posted;
  stage = h.stage;
  phase = h.phase;
  colour = h.colour;
  word = h.word;
  no_word = h.no_word;
  tag = h.tag;
  birth = h.birth;
  held = h.held;
  fresh = h.fresh;
}

-- the cycle's stages and colours are those of the posted stage
pub cycle_in : (s : Setup) (run : List Event) (S : law.State) → IsInvariant S → Shows s run S → cycle_of (posted_of (turns_of run)) ≡ S.cycle
cycle_in s run S inv h = ap cycle_of (sym h.posted) ∙ cycle_is S.part S.cycle S.posted inv.stages.posted

-- ---- moves

-- the collector waits, and has reached this thread
abbrev pub IsWait : law.State → ℕ → Type 0
IsWait S thread = (S.part ≡ law.Waiting 1 thread) ⊎ ((S.part ≡ law.Waiting 2 thread) ⊎ (S.part ≡ law.Waiting 3 thread))

-- the wait goes on, or what comes after it begins
pub waits : (s : Setup) (run : List Event) (S : law.State) (stage thread : ℕ) → IsInvariant S → Shows s run S → thread ≤ s.threads → IsWait S thread → stage ≡ S.posted → Safe s run (wait_from s stage thread)
waits s run S stage thread inv h le at is = elim (yes_or_no (nat_lt thread s.threads)) [
  | inl e ↦ rw e (record { state = S; inv = inv; shows = h; at = (lt_true thread s.threads e, at) })
  | inr e ↦ let past : s.threads ≤ thread = lt_false thread s.threads e in let last : thread ≡ s.threads = omega (arith, le, past) in rw e (over last at)
]
  where
    over : thread ≡ s.threads → IsWait S thread → Safe s run (after_wait stage)
    over last (inl one) =
        let p : S.posted + 2 ≡ 3 * S.cycle = subst (λ z. law.posted_at z S.cycle S.posted) one inv.stages.posted in
        rw (test_yes (stage % 3) 1 (omega (arith, p, is))) (record { state = S; inv = inv; shows = h; at = inr (inl (one ∙ ap (law.Waiting 1) last)) })
    over last (inr (inl two)) =
        let p : S.posted + 1 ≡ 3 * S.cycle = subst (λ z. law.posted_at z S.cycle S.posted) two inv.stages.posted in
        rw (test_no (stage % 3) 1 (omega (arith, p, is)), test_yes (stage % 3) 2 (omega (arith, p, is))) (record { state = S; inv = inv; shows = h; at = two ∙ ap (law.Waiting 2) last })
    over last (inr (inr three)) =
        let p : S.posted ≡ 3 * S.cycle = subst (λ z. law.posted_at z S.cycle S.posted) three inv.stages.posted in
        rw (test_no (stage % 3) 1 (omega (arith, p, is)), test_no (stage % 3) 2 (omega (arith, p, is))) (record {
          state = turned S (law.Passing 0 false);
          inv = traces done cycle_of claim_at IsSync S (three ∙ ap (law.Waiting 3) (last ∙ sym h.threads)) inv;
          shows = moves s run S (law.Passing 0 false) h;
          at = (refl, omega arith);
        })

-- the pass goes on, or is made again
pub passes_on : (s : Setup) (run : List Event) (S : law.State) (p : Pass) → IsInvariant S → Shows s run S → S.part ≡ law.Passing p.next p.met_grey → (p.next < cells s) ⊎ (p.met_grey ≡ true) → Safe s run (pass_from s p)
passes_on s run S p inv h at left = elim (yes_or_no (nat_lt p.next (cells s))) [
  | inl e ↦ rw e (record { state = S; inv = inv; shows = h; at = (at, lt_true p.next (cells s) e) })
  | inr e ↦ rw e (elim left [
    | inl lt ↦ let past : cells s ≤ p.next = lt_false p.next (cells s) e in absurd (omega (arith, lt, past))
    | inr met ↦ rw met (record {
      state = turned S (law.Passing 0 false);
      inv = repeats done cycle_of claim_at IsSync S p.next (at ∙ ap (law.Passing p.next) met) inv;
      shows = moves s run S (law.Passing 0 false) h;
      at = (refl, omega arith);
    })
  ])
]

-- the sweep goes on, or is over
pub sweeps_on : (s : Setup) (run : List Event) (S : law.State) (cell : ℕ) → IsInvariant S → Shows s run S → S.part ≡ law.Sweeping cell → 0 < cell → Safe s run (sweep_from s cell)
sweeps_on s run S cell inv h at above = elim (yes_or_no (nat_lt cell (cells s))) [
  | inl e ↦ rw e (record { state = S; inv = inv; shows = h; at = (at, above) })
  | inr e ↦ let past : cells s ≤ cell = lt_false cell (cells s) e in rw e (record {
    state = turned S law.Resting;
    inv = rests done cycle_of claim_at IsSync S cell at (subst (λ n. n ≤ cell) (sym h.cells) past) inv;
    shows = moves s run S law.Resting h;
    at = inl refl;
  })
]

-- ---- over integer words

-- words that hold no reference are passed
pub skips : (s : Setup) (S : law.State) (c i left : ℕ) → ((j : ℕ) → is_reference_kind (kind_of s c j) ≡ false → S.word c j ≡ 0) → S.part ≡ law.Scanning c i 0 → IsInvariant S → IsInvariant (turned S (law.Scanning c (skip_integers s c i left) 0))
skips s S c i zero none at inv = subst (λ p. IsInvariant (turned S p)) at inv
skips s S c i (suc left) none at inv = elim (yes_or_no (is_reference_kind (kind_of s c i))) [
  | inl e ↦ rw e (subst (λ p. IsInvariant (turned S p)) at inv)
  | inr e ↦ rw e (skips s (turned S (law.Scanning c (suc i) 0)) c (suc i) left none refl
      (subst (λ v. IsInvariant (turned S (law.Scanning c (suc i) v))) (none i e) (scans done cycle_of claim_at IsSync S c i at inv)))
]

-- what is found before the end is a reference
pub skip_found : (s : Setup) (c i left : ℕ) → skip_integers s c i left < i + left → is_reference_kind (kind_of s c (skip_integers s c i left)) ≡ true
skip_found s c i zero lt = absurd (omega (arith, lt))
skip_found s c i (suc left) lt = elim (yes_or_no (is_reference_kind (kind_of s c i))) [
  | inl e ↦ rw e e
  | inr e ↦ rw e (skip_found s c (suc i) left (let lt2 : skip_integers s c (suc i) left < i + suc left = (rw e at lt) in omega (arith, lt2)))
]

-- past the last word of a cell the state has null
pub past_words : (s : Setup) (run : List Event) (S : law.State) → Shows s run S → (c j : ℕ) → length (words_of_cell s c) ≤ j → S.word c j ≡ 0
unfolding kind_of
past_words s run S h c j le = h.no_word c j (ap is_reference_kind (slice_get_past (words_of_cell s c) j le))
