-- A cause says that a run's end is broken, there is at most one, and only an end that isn't broken has none.
use Rattle.std.proofs.Common.{◌≡◌, ◌<◌, ◌≤◌, ◌⊎◌, inl, inr, ℕ, zero, suc, Option, Some, None, List, [], ◌∷◌, refl, sym, ◌∙◌, MatchOption, arith}
use Rattle.std.proofs.Math.Path.{ap}
use Rattle.std.proofs.lemmas.Bool.{cases_lt}
use Rattle.pools.specs.Heap.{Setup}
use Rattle.runs.specs.Machine.{WordValue, Machine}
use Rattle.runs.specs.ModuleRuns.{Happening, OfThread, OfCollector}
use Rattle.runs.specs.Broken.{IsBlue, IsReborn, IsGone, Touched, TouchedGone, used_by, IsBroken, Cause, Wrong, TouchBlue, TouchBirth, ReachBlue, ReachBirth, Shows, rank, cell_of, GoesBefore, IsCause}

-- ---- what is broken shows a cause, and the other way round

touched_so : (P Q : List Happening → WordValue → Type 0) → ((run : List Happening) (r : WordValue) → P run r → Q run r) → (run : List Happening) → Touched P run → Touched Q run
touched_so P Q f [] x = x
touched_so P Q f (OfThread t move ∷ run) x = go (used_by move) x
  where
    go : (o : Option WordValue) → MatchOption o ⊥ (P run) → MatchOption o ⊥ (Q run)
    go None y = y
    go (Some r) y = f run r y
touched_so P Q f (OfCollector turn ∷ run) x = x

-- a cause that shows says that the end is broken
pub shows_broken : (s : Setup) (m : Machine) (starts : ℕ → m.State) (run : List Happening) (cause : Cause) → Shows s m starts run cause → IsBroken s m starts run
shows_broken s m starts run Wrong x = inl x
shows_broken s m starts run (TouchBlue cell) x = inr (inl (touched_so (λ before r. (r.cell ≡ cell) × IsBlue s before r) (IsGone s) (λ before r y. inl y.1) run x))
shows_broken s m starts run (TouchBirth cell) x = inr (inl (touched_so (λ before r. (r.cell ≡ cell) × IsReborn s before r) (IsGone s) (λ before r y. inr y.1) run x))
shows_broken s m starts run (ReachBlue cell) x = inr (inr (x.0, x.1, inl x.3))
shows_broken s m starts run (ReachBirth cell) x = inr (inr (x.0, x.1, inr x.3))

-- a touch of a cell that was gone is one of a blue cell, or of one of another birth
touch_shows : (s : Setup) (run : List Happening) → TouchedGone s run
    → (cell : ℕ) × (Touched (λ before r. (r.cell ≡ cell) × IsBlue s before r) run ⊎ Touched (λ before r. (r.cell ≡ cell) × IsReborn s before r) run)
touch_shows s [] x = absurd x
touch_shows s (OfThread t move ∷ run) x = go (used_by move) x
  where
    go : (o : Option WordValue) → MatchOption o ⊥ (IsGone s run)
        → (cell : ℕ) × (MatchOption o ⊥ (λ r. (r.cell ≡ cell) × IsBlue s run r) ⊎ MatchOption o ⊥ (λ r. (r.cell ≡ cell) × IsReborn s run r))
    go None y = absurd y
    go (Some r) (inl y) = (r.cell, inl (refl, y))
    go (Some r) (inr y) = (r.cell, inr (refl, y))
touch_shows s (OfCollector turn ∷ run) x = absurd x

-- a broken end shows some cause
pub broken_shows : (s : Setup) (m : Machine) (starts : ℕ → m.State) (run : List Happening) → IsBroken s m starts run → (cause : Cause) × Shows s m starts run cause
broken_shows s m starts run (inl x) = (Wrong, x)
broken_shows s m starts run (inr (inl x)) = go (touch_shows s run x)
  where
    go : ((cell : ℕ) × (Touched (λ before r. (r.cell ≡ cell) × IsBlue s before r) run ⊎ Touched (λ before r. (r.cell ≡ cell) × IsReborn s before r) run))
        → (cause : Cause) × Shows s m starts run cause
    go (cell, inl y) = (TouchBlue cell, y)
    go (cell, inr y) = (TouchBirth cell, y)
broken_shows s m starts run (inr (inr (r, reached, inl blue))) = (ReachBlue r.cell, (r, reached, refl, blue))
broken_shows s m starts run (inr (inr (r, reached, inr reborn))) = (ReachBirth r.cell, (r, reached, refl, reborn))

-- ---- the order

same_cause : (c d : Cause) → rank c ≡ rank d → cell_of c ≡ cell_of d → c ≡ d
same_cause Wrong Wrong r e = refl
same_cause (TouchBlue a) (TouchBlue b) r e = ap TouchBlue e
same_cause (TouchBirth a) (TouchBirth b) r e = ap TouchBirth e
same_cause (ReachBlue a) (ReachBlue b) r e = ap ReachBlue e
same_cause (ReachBirth a) (ReachBirth b) r e = ap ReachBirth e
same_cause c d r e = absurd (omega (arith, r))

compared : (x y : ℕ) → (x < y) ⊎ (x ≡ y) ⊎ (y < x)
compared x y = go (cases_lt x y) (cases_lt y x)
  where
    go : ((x < y) ⊎ (y ≤ x)) → ((y < x) ⊎ (x ≤ y)) → (x < y) ⊎ (x ≡ y) ⊎ (y < x)
    go (inl a) b = inl a
    go (inr a) (inl b) = inr (inr b)
    go (inr a) (inr b) = inr (inl (omega (arith, a, b)))

-- of two causes one goes before the other, or they are one
in_order : (c d : Cause) → GoesBefore c d ⊎ (c ≡ d) ⊎ GoesBefore d c
in_order c d = go (compared (rank c) (rank d)) (compared (cell_of c) (cell_of d))
  where
    go : ((rank c < rank d) ⊎ (rank c ≡ rank d) ⊎ (rank d < rank c)) → ((cell_of c < cell_of d) ⊎ (cell_of c ≡ cell_of d) ⊎ (cell_of d < cell_of c))
        → GoesBefore c d ⊎ (c ≡ d) ⊎ GoesBefore d c
    go (inl x) y = inl (inl x)
    go (inr (inr x)) y = inr (inr (inl x))
    go (inr (inl x)) (inl y) = inl (inr (x, y))
    go (inr (inl x)) (inr (inl y)) = inr (inl (same_cause c d x y))
    go (inr (inl x)) (inr (inr y)) = inr (inr (inr (sym x, y)))

-- so there is at most one first cause
pub one_cause : (s : Setup) (m : Machine) (starts : ℕ → m.State) (run : List Happening) (c d : Cause) → IsCause s m starts run c → IsCause s m starts run d → c ≡ d
one_cause s m starts run c d x y = go (in_order c d)
  where
    go : (GoesBefore c d ⊎ (c ≡ d) ⊎ GoesBefore d c) → c ≡ d
    go (inl b) = absurd (y.first c b x.shows)
    go (inr (inl e)) = e
    go (inr (inr b)) = absurd (x.first d b y.shows)

-- ---- where no cause is first, none shows

split : (x k : ℕ) → x < suc k → (x < k) ⊎ (x ≡ k)
split x k h = go (compared x k)
  where
    go : ((x < k) ⊎ (x ≡ k) ⊎ (k < x)) → (x < k) ⊎ (x ≡ k)
    go (inl y) = inl y
    go (inr (inl y)) = inr y
    go (inr (inr y)) = absurd (omega (arith, h, y))

abbrev NoneIsFirst : (s : Setup) (m : Machine) (starts : ℕ → m.State) → List Happening → Type 0
NoneIsFirst s m starts run = (cause : Cause) → ¬ IsCause s m starts run cause

-- of a kind, if no cause of an earlier kind shows: below each cell
none_of_kind : (s : Setup) (m : Machine) (starts : ℕ → m.State) (run : List Happening) → NoneIsFirst s m starts run → (k : ℕ) → ((c : Cause) → rank c < k → ¬ Shows s m starts run c)
    → (n : ℕ) (c : Cause) → rank c ≡ k → cell_of c < n → ¬ Shows s m starts run c
none_of_kind s m starts run none k earlier zero c e h = absurd (omega (arith, h))
none_of_kind s m starts run none k earlier (suc n) c e h = go (none_of_kind s m starts run none k earlier n) (split (cell_of c) n h)
  where
    go : ((d : Cause) → rank d ≡ k → cell_of d < n → ¬ Shows s m starts run d) → ((cell_of c < n) ⊎ (cell_of c ≡ n)) → ¬ Shows s m starts run c
    go below (inl y) = below c e y
    go below (inr y) = λ shows. none c (record { shows = shows; first = first })
      where
        first : (other : Cause) → GoesBefore other c → ¬ Shows s m starts run other
        first other (inl b) = earlier other (rw (sym e) b)
        first other (inr b) = below other (b.0 ∙ e) (rw (sym y) b.1)

none_below : (s : Setup) (m : Machine) (starts : ℕ → m.State) (run : List Happening) → NoneIsFirst s m starts run → (k : ℕ) (c : Cause) → rank c < k → ¬ Shows s m starts run c
none_below s m starts run none zero c h = absurd (omega (arith, h))
none_below s m starts run none (suc k) c h = go (none_below s m starts run none k) (split (rank c) k h)
  where
    go : ((d : Cause) → rank d < k → ¬ Shows s m starts run d) → ((rank c < k) ⊎ (rank c ≡ k)) → ¬ Shows s m starts run c
    go below (inl y) = below c y
    go below (inr y) = none_of_kind s m starts run none k below (suc (cell_of c)) c y (omega arith)

-- so an end that has no cause isn't broken
pub some_cause : (s : Setup) (m : Machine) (starts : ℕ → m.State) (run : List Happening) → NoneIsFirst s m starts run → ¬ IsBroken s m starts run
some_cause s m starts run none broken =
    let x = broken_shows s m starts run broken in
    none_below s m starts run none (suc (rank x.0)) x.0 (omega arith) x.1
