-- How often the collector frees a cell: in each cycle at most once.
use Rattle.std.proofs.Common.{◌≡◌, ◌≢◌, ℕ, suc, ◌*◌, ◌%◌, ◌<◌, ◌≤◌, ◌==◌, nat_lt, inl, inr, Bool, true, false, List, [], ◌∷◌, if◌then◌else◌, refl, arith}
use Rattle.lemmas.specs.Numbers.{test_true, test_false}
use Rattle.pools.specs.Heap.{Setup, cells}
use Rattle.colours.specs.Colours.{cycle_of, grey}
use Rattle.colours.specs.declared.turn.Turn.{Turn}
use Rattle.colours.specs.declared.turn.Turn.TheVariants.{PostStage, ReadStage, MarkFound, ReadColour, ScanWord, Blacken, ClearWord, Free}
use Rattle.colours.specs.Collector.{Pass, Collection, Posting, Waiting, ShadingGlobals, Passing, Scanning, Shading, Sweeping, Clearing, posted_of, first_pass, sweep_from, pass_from, after_wait, wait_from, has_answered, in_turn, out_of_turn, with_grey, looked, is_white, Turns, Collects}

-- how often a log frees the cell
abbrev pub frees : ℕ → List Turn → ℕ
frees c [] = 0
frees c (Free cell ∷ log) = if cell == c then suc (frees c log) else frees c log
frees c (_ ∷ log) = frees c log

-- in a cycle's third stage, before its sweep
abbrev IsTraced : (posted freed : ℕ) → Type 0
IsTraced posted n = (posted % 3 ≡ 0) × (3 * n < posted)

-- and in its sweep, which is at this cell
abbrev IsSwept : (posted place cell freed : ℕ) → Type 0
IsSwept posted d c n = (posted % 3 ≡ 0) × (3 * n ≤ posted) × (d ≤ c → 3 * n < posted)

-- how often a cell may have been freed at this posted stage, by where the collector is
abbrev MayHaveFreed : (posted : ℕ) → Collection → (cell freed : ℕ) → Type 0
MayHaveFreed posted Posting c n = 3 * n ≤ posted
MayHaveFreed posted (Waiting t) c n = 3 * n < posted
MayHaveFreed posted ShadingGlobals c n = 3 * n < posted
MayHaveFreed posted (Passing p) c n = IsTraced posted n
MayHaveFreed posted (Scanning cell word p) c n = IsTraced posted n
MayHaveFreed posted (Shading value cell word p) c n = IsTraced posted n
MayHaveFreed posted (Sweeping d) c n = IsSwept posted d c n
MayHaveFreed posted (Clearing d word) c n = IsSwept posted d c n

-- ---- where the collector goes on

-- at a sweep from this cell on
at_sweep : (s : Setup) (posted d c n : ℕ) → IsSwept posted d c n → MayHaveFreed posted (sweep_from s d) c n
at_sweep s posted d c n h = go (nat_lt d (cells s))
  where
    go : (b : Bool) → MayHaveFreed posted (if b then Sweeping d else Posting) c n
    go true = h
    go false = h.1

-- at a pass, or after the last one
at_pass : (s : Setup) (posted : ℕ) (p : Pass) (c n : ℕ) → IsTraced posted n → MayHaveFreed posted (pass_from s p) c n
at_pass s posted p c n h = go (nat_lt p.next (cells s)) p.met_grey
  where
    swept : IsSwept posted 1 c n
    swept = (h.0, omega (arith, h.1), λ le. h.1)

    go : (b g : Bool) → MayHaveFreed posted (if b then Passing p else (if g then Passing (record { next = 0; met_grey = false; shaded = p.shaded }) else sweep_from s 1)) c n
    go true g = h
    go false true = h
    go false false = at_sweep s posted 1 c n swept

-- after a look
at_look : (s : Setup) (posted : ℕ) (p : Pass) (cell colour c n : ℕ) → IsTraced posted n → MayHaveFreed posted (looked s posted p cell colour) c n
at_look s posted p cell colour c n h = go (colour == grey (cycle_of posted))
  where
    go : (b : Bool) → MayHaveFreed posted (if b then Scanning cell 0 (with_grey p) else pass_from s p) c n
    go true = h
    go false = at_pass s posted p c n h

-- after a wait
afterwards_wait : (posted c n : ℕ) → 3 * n < posted → MayHaveFreed posted (after_wait posted) c n
afterwards_wait posted c n h = go (posted % 3 == 1) (posted % 3 == 2) refl refl
  where
    third : posted % 3 ≢ 1 → posted % 3 ≢ 2 → posted % 3 ≡ 0
    third p q = omega arith

    go : (p q : Bool) → (posted % 3 == 1) ≡ p → (posted % 3 == 2) ≡ q
        → MayHaveFreed posted (if p then Posting else (if q then ShadingGlobals else Passing first_pass)) c n
    go true q e f = omega arith
    go false true e f = h
    go false false e f = (third (test_false (posted % 3) 1 e) (test_false (posted % 3) 2 f), h)

-- at a wait, or after it
at_wait : (s : Setup) (posted thread c n : ℕ) → 3 * n < posted → MayHaveFreed posted (wait_from s posted thread) c n
at_wait s posted thread c n h = go (nat_lt thread s.threads)
  where
    go : (b : Bool) → MayHaveFreed posted (if b then Waiting thread else after_wait posted) c n
    go true = h
    go false = afterwards_wait posted c n h

-- the sweep has passed a freed cell
one_more : (s : Setup) (posted d c n : ℕ) → IsSwept posted d c n → MayHaveFreed posted (sweep_from s (suc d)) c (if d == c then suc n else n)
one_more s posted d c n h = go (d == c) refl
  where
    go : (b : Bool) → (d == c) ≡ b → MayHaveFreed posted (sweep_from s (suc d)) c (if b then suc n else n)
    go true e =
        let same : d ≡ c = test_true d c e in
        let below : 3 * n < posted = h.2 (omega arith) in
        let third : posted % 3 ≡ 0 = h.0 in
        at_sweep s posted (suc d) c (suc n) (third, omega arith, λ le. absurd (omega arith))
    go false e = at_sweep s posted (suc d) c n (h.0, h.1, λ le. h.2 (omega arith))

-- ---- each step

-- a step obeys the bound
freed_next : (s : Setup) (log : List Turn) (b : Collection) (turn : Turn) (to : Collection) (c : ℕ) → Turns s (posted_of log) b turn to
    → MayHaveFreed (posted_of log) b c (frees c log) → MayHaveFreed (posted_of (turn ∷ log)) to c (frees c (turn ∷ log))
freed_next s log Posting (PostStage stage) to c x h =
    let next : stage ≡ suc (posted_of log) = x.0 in
    rw (x.2) (at_wait s stage 0 c (frees c log) (omega arith))
freed_next s log (Waiting thread) (ReadStage t found) to c x h = rw (x.1) (go (has_answered (posted_of log) found))
  where
    go : (b : Bool) → MayHaveFreed (posted_of log) (if b then wait_from s (posted_of log) (suc thread) else Waiting thread) c (frees c log)
    go true = at_wait s (posted_of log) (suc thread) c (frees c log) h
    go false = h
freed_next s log ShadingGlobals (MarkFound cell colour) to c x h = rw (x.1) (omega arith)
freed_next s log (Passing p) (ReadColour cell colour) to c (inl x) h = rw (x.1) (at_look s (posted_of log) (in_turn p) cell colour c (frees c log) h)
freed_next s log (Passing p) (ReadColour cell colour) to c (inr x) h = rw (x.2) (at_look s (posted_of log) (out_of_turn p cell) cell colour c (frees c log) h)
freed_next s log (Scanning cell word p) (ScanWord d w value) to c x h = rw (x.3) (go (value == 0))
  where
    go : (b : Bool) → MayHaveFreed (posted_of log) (if b then Scanning cell (suc w) p else Shading value cell (suc w) p) c (frees c log)
    go true = h
    go false = h
freed_next s log (Scanning cell word p) (Blacken d) to c x h = rw (x.2) (at_pass s (posted_of log) p c (frees c log) h)
freed_next s log (Shading value cell word p) (MarkFound d colour) to c x h = rw (x.1) h
freed_next s log (Sweeping cell) (ReadColour d colour) to c x h = rw (x.1) (go (is_white (posted_of log) colour))
  where
    go : (b : Bool) → MayHaveFreed (posted_of log) (if b then Clearing cell 0 else sweep_from s (suc cell)) c (frees c log)
    go true = h
    go false = at_sweep s (posted_of log) (suc cell) c (frees c log) (h.0, h.1, λ le. h.2 (omega arith))
freed_next s log (Clearing cell word) (ClearWord d w) to c x h = rw (x.3) h
freed_next s log (Clearing cell word) (Free d) to c x h = rw (x.2, x.0) (one_more s (posted_of log) cell c (frees c log) h)
freed_next s log b turn to c x h = absurd x

-- so do all of a log
freed : (s : Setup) (log : List Turn) (at : Collection) (c : ℕ) → Collects s log at → MayHaveFreed (posted_of log) at c (frees c log)
freed s [] at c x = rw x (omega arith)
freed s (turn ∷ log) at c x = freed_next s log x.0 turn at c x.2 (freed s log x.0 c x.1)

-- whatever the place, a free has three stages
least : (posted : ℕ) (at : Collection) (c n : ℕ) → MayHaveFreed posted at c n → 3 * n ≤ posted
least posted Posting c n h = h
least posted (Waiting t) c n h = omega arith
least posted ShadingGlobals c n h = omega arith
least posted (Passing p) c n h = omega arith
least posted (Scanning cell word p) c n h = omega arith
least posted (Shading value cell word p) c n h = omega arith
least posted (Sweeping d) c n h = h.1
least posted (Clearing d word) c n h = h.1

-- each free of a cell has three stages of its own
pub freed_below : (s : Setup) (log : List Turn) (at : Collection) (c : ℕ) → Collects s log at → 3 * frees c log ≤ posted_of log
freed_below s log at c x = least (posted_of log) at c (frees c log) (freed s log at c x)
