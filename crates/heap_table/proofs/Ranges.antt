-- The collector stands at threads and cells of the heap.
use Rattle.std.proofs.Common.{◌≡◌, ℕ, suc, ◌-◌, ◌<◌, ◌%◌, ◌==◌, nat_lt, inl, inr, ◌⊎◌, ⊎_elim, Bool, true, false, Option, Some, None, List, [], ◌∷◌, length, if◌then◌else◌, refl, sym, subst, arith}
use Rattle.pools.specs.Heap.{Setup, cells, kind_of, words_of_cell}
use Rattle.pools.specs.declared.word_kind.WordKind.{WordKind}
use Rattle.pools.specs.declared.word_kind.WordKind.TheVariants.{Integer, Reference}
use Rattle.pools.specs.Layouts.{is_reference_kind}
use Rattle.colours.specs.declared.place.Place.TheVariants.{Word}
use Rattle.colours.specs.declared.turn.Turn.{Turn}
use Rattle.colours.specs.declared.turn.Turn.TheVariants.{PostStage, ReadStage, MarkFound, ReadColour, ScanWord, Blacken, ClearWord, Free}
use Rattle.colours.specs.Colours.{cycle_of, grey}
use Rattle.colours.specs.Collector.{Pass, Collection, Posting, Waiting, ShadingGlobals, Passing, Scanning, Shading, Sweeping, Clearing, posted_of, first_pass, sweep_from, pass_from, after_wait, wait_from, has_answered, without, in_turn, out_of_turn, with_grey, looked, shaded_too, is_white, reference_from, Turns, Collects}
use Rattle.colours.specs.Runs.{Event, ByThread, ByCollector, turns_of, word_after, IsHeapRun}
use Rattle.collector_law.specs.Laws.{FitsKind}
use Rattle.collector_law.specs.Theorems.{words_fit, skip_found}
use Rattle.lemmas.specs.Numbers.{lt_true}
use Rattle.lemmas.specs.Lists.{IsIn}
use Rattle.heap_table.specs.Sweepers.{AreCells, IsInRange}

sweeps : (s : Setup) (c : ℕ) → IsInRange s (sweep_from s c)
sweeps s c = go (nat_lt c (cells s)) refl
  where
    go : (b : Bool) → nat_lt c (cells s) ≡ b → IsInRange s (if b then Sweeping c else Posting)
    go true e = lt_true c (cells s) e
    go false e = tt

passes : (s : Setup) (p : Pass) → AreCells s p.shaded → IsInRange s (pass_from s p)
passes s p h = go (nat_lt p.next (cells s)) refl
  where
    again : (b : Bool) → IsInRange s (if b then Passing (record { next = 0; met_grey = false; shaded = p.shaded }) else sweep_from s 1)
    again true = (omega arith, h)
    again false = sweeps s 1

    go : (b : Bool) → nat_lt p.next (cells s) ≡ b → IsInRange s (if b then Passing p else (if p.met_grey then Passing (record { next = 0; met_grey = false; shaded = p.shaded }) else sweep_from s 1))
    go true e = (lt_true p.next (cells s) e, h)
    go false e = again p.met_grey

waited : (s : Setup) (stage : ℕ) → IsInRange s (after_wait stage)
waited s stage = go (stage % 3 == 1) (stage % 3 == 2)
  where
    go : (a b : Bool) → IsInRange s (if a then Posting else (if b then ShadingGlobals else Passing first_pass))
    go true b = tt
    go false true = tt
    go false false = (omega arith, λ c h. absurd h)

waits : (s : Setup) (stage t : ℕ) → IsInRange s (wait_from s stage t)
waits s stage t = go (nat_lt t s.threads) refl
  where
    go : (b : Bool) → nat_lt t s.threads ≡ b → IsInRange s (if b then Waiting t else after_wait stage)
    go true e = lt_true t s.threads e
    go false e = waited s stage

looks : (s : Setup) (stage : ℕ) (p : Pass) (c colour : ℕ) → c < cells s → AreCells s p.shaded → IsInRange s (looked s stage p c colour)
looks s stage p c colour lt h = go (colour == grey (cycle_of stage))
  where
    go : (b : Bool) → IsInRange s (if b then Scanning c 0 (with_grey p) else pass_from s p)
    go true = (lt, h)
    go false = passes s p h

less_here : (b : Bool) (x d : ℕ) (xs ys : List ℕ) → (IsIn d ys → IsIn d xs) → IsIn d (if b then xs else x ∷ ys) → (d ≡ x) ⊎ IsIn d xs
less_here true x d xs ys f k = inr k
less_here false x d xs ys f (inl e) = inl e
less_here false x d xs ys f (inr k) = inr (f k)

less : (c : ℕ) (ds : List ℕ) (d : ℕ) → IsIn d (without c ds) → IsIn d ds
less c [] d h = h
less c (x ∷ xs) d h = less_here (c == x) x d xs (without c xs) (λ k. less c xs d k) h

shades : (s : Setup) (stage : ℕ) (p : Pass) (c colour : ℕ) → c < cells s → AreCells s p.shaded → AreCells s (shaded_too stage p c colour).shaded
shades s stage p c colour lt h = go (nat_lt colour (grey (cycle_of stage)))
  where
    go : (b : Bool) → AreCells s (if b then record { next = p.next; met_grey = p.met_grey; shaded = c ∷ p.shaded } else p).shaded
    go true d (inl e) = omega (arith, e, lt)
    go true d (inr k) = h d k
    go false d k = h d k

-- a value read in a scan is null or a cell
fit_cell : (s : Setup) (k : Option WordKind) (v : ℕ) → FitsKind s k v → is_reference_kind k ≡ true → (v ≡ 0) ⊎ (v < cells s)
fit_cell s None v f e = absurd cc
fit_cell s (Some (Integer bits)) v f e = absurd cc
fit_cell s (Some (Reference layout)) v (inl z) e = inl z
fit_cell s (Some (Reference layout)) v (inr l) e = inr l.1

pub scanned : (s : Setup) (run : List Event) (c word w v : ℕ) → IsHeapRun s run → w ≡ reference_from s c word → w < length (words_of_cell s c) → word_after s run (Word c w) ≡ v → v < cells s
scanned s run c word w v r is lt found =
    let ref : is_reference_kind (kind_of s c w) ≡ true = subst (λ (x : ℕ). is_reference_kind (kind_of s c x) ≡ true) (sym is) (skip_found s c word (length (words_of_cell s c) - word) (omega (arith, is, lt))) in
    ⊎_elim (λ (z : v ≡ 0). omega arith) (λ (x : v < cells s). x) (fit_cell s (kind_of s c w) v (subst (FitsKind s (kind_of s c w)) found (words_fit s run r c w)) ref)

module _ (s : Setup) (run : List Event) (r : IsHeapRun s run) where
  -- where one step leads
  turn_in_range : (b : Collection) (turn : Turn) (c : Collection) → IsInRange s b → IsHeapRun s (ByCollector turn ∷ run) → Turns s (posted_of (turns_of run)) b turn c → IsInRange s c
  turn_in_range Posting (PostStage to) c h k t = subst (IsInRange s) (sym t.2) (waits s to 0)
  turn_in_range (Waiting thread) (ReadStage u found) c h k t = subst (IsInRange s) (sym t.1) (go (has_answered (posted_of (turns_of run)) found))
    where
      go : (x : Bool) → IsInRange s (if x then wait_from s (posted_of (turns_of run)) (suc thread) else Waiting thread)
      go true = waits s (posted_of (turns_of run)) (suc thread)
      go false = h
  turn_in_range ShadingGlobals (MarkFound d colour) c h k t = subst (IsInRange s) (sym t.1) tt
  turn_in_range (Passing p) (ReadColour d colour) c h k (inl t) = subst (IsInRange s) (sym t.1) (looks s (posted_of (turns_of run)) (in_turn p) d colour (omega (arith, t.0, h.0)) h.1)
  turn_in_range (Passing p) (ReadColour d colour) c h k (inr t) = subst (IsInRange s) (sym t.2) (looks s (posted_of (turns_of run)) (out_of_turn p d) d colour (h.1 d t.1) (λ x a. h.1 x (less d p.shaded x a)))
  turn_in_range (Scanning cell word p) (ScanWord d w value) c h k t = subst (IsInRange s) (sym t.3) (go (value == 0))
    where
      value_in : value < cells s
      value_in = scanned s run cell word w value r t.1 t.2 (subst (λ (x : ℕ). word_after s run (Word x w) ≡ value) t.0 k.run_of.1.1)

      go : (x : Bool) → IsInRange s (if x then Scanning cell (suc w) p else Shading value cell (suc w) p)
      go true = h
      go false = (value_in, h.0, h.1)
  turn_in_range (Scanning cell word p) (Blacken d) c h k t = subst (IsInRange s) (sym t.2) (passes s p h.1)
  turn_in_range (Shading value cell word p) (MarkFound d colour) c h k t = subst (IsInRange s) (sym t.1) (h.1, shades s (posted_of (turns_of run)) p value colour h.0 h.2)
  turn_in_range (Sweeping cell) (ReadColour d colour) c h k t = subst (IsInRange s) (sym t.1) (go (is_white (posted_of (turns_of run)) colour))
    where
      go : (x : Bool) → IsInRange s (if x then Clearing cell 0 else sweep_from s (suc cell))
      go true = h
      go false = sweeps s (suc cell)
  turn_in_range (Clearing cell word) (ClearWord d w) c h k t = subst (IsInRange s) (sym t.3) h
  turn_in_range (Clearing cell word) (Free d) c h k t = subst (IsInRange s) (sym t.2) (sweeps s (suc cell))
  turn_in_range _ _ c h k t = absurd t

pub in_range : (s : Setup) (run : List Event) → IsHeapRun s run → (c : Collection) → Collects s (turns_of run) c → IsInRange s c
in_range s [] r c t = subst (IsInRange s) (sym t) tt
in_range s (ByThread u step ∷ run) r c t = in_range s run (record { setup = r.setup; run_of = r.run_of.0; discipline = r.discipline.0 }) c t
in_range s (ByCollector turn ∷ run) r c t = let before : IsHeapRun s run = record { setup = r.setup; run_of = r.run_of.0; discipline = r.discipline } in
    turn_in_range s run before t.0 turn c (in_range s run before t.0 t.1) r t.2
