-- What follows for kept cells, for touches and for answers to handshakes.
use Rattle.std.proofs.Common.{◌≡◌, ◌≢◌, inl, inr, ℕ, zero, suc, ◌+◌, ◌*◌, ◌<◌, ◌==◌, ◌&&◌, Bool, true, false, Option, Some, None, List, [], ◌∷◌, refl, sym, ap, ◌∙◌, subst, if◌then◌else◌, arith}
use Rattle.lemmas.specs.Numbers.{test_true, test_yes}
use Rattle.lemmas.specs.Bools.{and_parts}
use Rattle.colours.specs.declared.place.Place.TheVariants.{Colour, Word}
use Rattle.pools.specs.Heap.{Setup, kind_of}
use Rattle.pools.specs.declared.word_kind.WordKind.{WordKind}
use Rattle.pools.specs.declared.word_kind.WordKind.TheVariants.{Integer, Reference}
use Rattle.pools.specs.Layouts.{is_reference_kind}
use Rattle.colours.specs.Colours.{done, cycle_of, claim_at, is_async, black}
use Rattle.colours.specs.Steps.{Step, ReadWord, ReadOldValue, Mark, StoreAfterBarrier, StorePlain, Claim, ReadPosted, StoreStage, ReadPostedFirst, EnterStage, ReadPostedAgain}
use Rattle.colours.specs.Mutator.{stage_of, phase_of, MayUse, MayFind, IsPossible, IsDisciplined, Fresh, wins}
use Rattle.colours.specs.Collector.{Collection, Posting, Sweeping, Clearing, posted_of}
use Rattle.colours.specs.Runs.{Event, ByThread, ByCollector, log_of, turns_of, word_after, births_after, MayHappen, IsRun, IsHeapRun, Kept, globals, held, further, IsAlive, birth_used, TouchesAlive}
use Rattle.colours.specs.Frames.{won_blue}
use Rattle.collector_law.specs.Invariant as law
use Rattle.collector_law.specs.Write.{base-live}
use Rattle.collector_law.specs.Law as heap
use Rattle.collector_law.specs.Laws.{IsClean, IsPastTrace, FitsKind, EachWordFits}
use Rattle.collector_law.specs.Match.{IsSync, IsAt, Shows}
use Rattle.collector_law.specs.Events.{holder}
use Rattle.collector_law.specs.Threads.{base_in}
use Rattle.collector_law.specs.Numbers.{sync_one, sync_two}
use Rattle.collector_law.specs.Moves.{cycle_in}
use Rattle.collector_law.specs.Claiming.{claim_cell}
use Rattle.collector_law.specs.Whole.{safe, collected}
use Rattle.collector_law.specs.Typing.{fits}

-- the globals' cell is never claimed
root_birth : (s : Setup) (run : List Event) → IsRun s run → (births_after s run).of_cell 0 ≡ 0
unfolding births_after
root_birth s [] r = refl
root_birth s (ByThread t step ∷ run) r = step_birth step r.1 (root_birth s run r.0)
  where
    step_birth : (step : Step) → MayHappen s run (ByThread t step) → (births_after s run).of_cell 0 ≡ 0 → (if wins step 0 then suc ((births_after s run).of_cell 0) else (births_after s run).of_cell 0) ≡ 0
    step_birth (Claim cell won) m e = go (won && (0 == cell)) refl
      where
        go : (b : Bool) → (won && (0 == cell)) ≡ b → (if b then suc ((births_after s run).of_cell 0) else (births_after s run).of_cell 0) ≡ 0
        go true w =
            let zero_is : 0 ≡ cell = test_true 0 cell (and_parts won (0 == cell) w).1 in
            let above : 0 < cell = (claim_cell s (stage_of (log_of t run)) (phase_of s t (log_of t run)) cell won m.1).0 in
            absurd (omega (arith, zero_is, above))
        go false w = e
    step_birth _ m e = e
root_birth s (ByCollector turn ∷ run) r = root_birth s run r.0

-- what is kept after the run is kept in the state
kept_in : (s : Setup) (run : List Event) (S : law.State) → IsRun s run → Shows s run S → {c b : ℕ} → Kept s run c b → heap.IsKept S c b
kept_in s run S r h globals = subst (λ b. heap.IsKept S 0 b) (h.birth 0 ∙ root_birth s run r) heap.Global
kept_in s run S r h (held t c x) = heap.Held t c ((births_after s run).with_thread t c) (subst (λ (n : ℕ). t < n) (sym h.threads) (holder s run r t c x)) (h.held t c x)
kept_in s run S r h (further c b i k ref n) =
    let some : S.word c i ≢ 0 = λ z. n (sym (h.word c i ref) ∙ z) in
    subst (λ v. heap.IsKept S v ((births_after s run).in_word c i)) (h.word c i ref)
    (subst (λ b. heap.IsKept S (S.word c i) b) (h.tag c i ref some) (heap.Named c b i (kept_in s run S r h k) some))

-- what is kept is alive
pub kept_alive : (s : Setup) (run : List Event) → IsHeapRun s run → (c b : ℕ) → Kept s run c b → IsAlive s run c b
kept_alive s run h c b k =
    let col = collected s run h.run_of in
    let f = safe s run h.setup h.run_of h.discipline col.0 col.1 in
    let y = heap.kept-safe done cycle_of claim_at IsSync f.state f.inv c b (kept_in s run f.state h.run_of f.shows k) in
    record { not_blue = λ e. y.0 (f.shows.colour c ∙ e); same_birth = sym (f.shows.birth c) ∙ sym y.1 }

-- a run without its last step is a run of the heap
before : (s : Setup) (run : List Event) (t : ℕ) (step : Step) → IsHeapRun s (ByThread t step ∷ run) → IsHeapRun s run
before s run t step h = record { setup = h.setup; run_of = h.run_of.0; discipline = h.discipline.0 }

-- what a thread may use is alive
use_alive : (s : Setup) (run : List Event) → IsHeapRun s run → (t c : ℕ) → MayUse s (log_of t run) c → IsAlive s run c (birth_used (births_after s run) t c)
use_alive s run h t zero d = kept_alive s run h 0 0 globals
use_alive s run h t (suc c) (inl e) = absurd cc
use_alive s run h t (suc c) (inr x) = kept_alive s run h (suc c) ((births_after s run).with_thread t (suc c)) (held t (suc c) x)

-- what a step touches is alive
pub touches_alive : (s : Setup) (run : List Event) (t : ℕ) (step : Step) → IsHeapRun s (ByThread t step ∷ run) → TouchesAlive s run t step
touches_alive s run t step h = go step h.discipline.1
  where
    h0 : IsHeapRun s run
    h0 = before s run t step h

    go : (step : Step) → IsDisciplined s (log_of t run) step → TouchesAlive s run t step
    go (ReadWord cell word value) d = use_alive s run h0 t cell d.0
    go (ReadOldValue cell word value) d = use_alive s run h0 t cell d.0
    go (Mark cell) d = use_alive s run h0 t cell (inr d)
    go (StoreAfterBarrier cell word value) d = use_alive s run h0 t cell d.0
    go (StorePlain cell word value) d = use_alive s run h0 t cell d.0
    go (Claim cell won) d = tt
    go (ReadPosted stage) d = tt
    go (StoreStage stage roots) d = tt
    go (ReadPostedFirst stage) d = tt
    go (EnterStage stage) d = tt
    go (ReadPostedAgain stage) d = tt

-- what is found in a word isn't fresh
not_fresh : (s : Setup) (run : List Event) → IsHeapRun s run → (t cell word : ℕ) → t < s.threads → MayUse s (log_of t run) cell → is_reference_kind (kind_of s cell word) ≡ true → ¬ Fresh s (log_of t run) (word_after s run (Word cell word))
not_fresh s run h t cell word lt used ref fr =
    let col = collected s run h.run_of in
    let f = safe s run h.setup h.run_of h.discipline col.0 col.1 in
    let in_lt : t < f.state.threads = subst (λ (n : ℕ). t < n) (sym f.shows.threads) lt in
    f.inv.fresh.unnamed t (word_after s run (Word cell word)) cell word in_lt (f.shows.fresh t (word_after s run (Word cell word)) fr)
    (base-live done cycle_of claim_at IsSync f.state t cell in_lt f.inv (base_in s run f.state f.inv f.shows t cell in_lt used)) (f.shows.word cell word ref)

-- each answer is a possible one
pub answers_possible : (s : Setup) (run : List Event) (t : ℕ) (step : Step) → IsHeapRun s (ByThread t step ∷ run) → IsPossible s (log_of t run) step
answers_possible s run t step h = go step h.run_of.1 h.discipline.1
  where
    h0 : IsHeapRun s run
    h0 = before s run t step h

    find : (k : Option WordKind) (v : ℕ) → FitsKind s k v → (is_reference_kind k ≡ true → ¬ Fresh s (log_of t run) v) → MayFind s (log_of t run) k v
    find None v x f = tt
    find (Some (Integer bits)) v x f = x
    find (Some (Reference layout)) v (inl z) f = inl z
    find (Some (Reference layout)) v (inr x) f = inr (x, f refl)

    read : (cell word value : ℕ) → t < s.threads → MayUse s (log_of t run) cell → word_after s run (Word cell word) ≡ value → MayFind s (log_of t run) (kind_of s cell word) value
    read cell word value lt used e =
        subst (λ (v : ℕ). MayFind s (log_of t run) (kind_of s cell word) v) e
        (find (kind_of s cell word) (word_after s run (Word cell word)) (fits s run h0.setup h0.run_of h0.discipline cell word) (not_fresh s run h0 t cell word lt used))

    go : (step : Step) → MayHappen s run (ByThread t step) → IsDisciplined s (log_of t run) step → IsPossible s (log_of t run) step
    go (ReadWord cell word value) m d = read cell word value m.0 d.0 m.2
    go (ReadOldValue cell word value) m d = read cell word value m.0 d.0 m.2
    go (Claim cell true) m d = λ x. (kept_alive s run h0 cell ((births_after s run).with_thread t cell) (held t cell x)).not_blue (won_blue s run t (Claim cell true) cell m (test_yes cell cell refl))
    go _ m d = tt

-- ---- the trace

-- where the collector is past the trace, the state's time is that of the sweep or after it
clean : (s : Setup) (c : Collection) (p : law.Part) (k posted : ℕ) → law.posted_at p k posted → IsAt s c p → IsClean posted c → law.time_of p ≡ law.Clean
clean s Posting p k posted at (inl e) n = ap law.time_of e
clean s Posting p k posted at (inr (inl e)) n =
    let q : posted + 2 ≡ 3 * k = subst (λ z. law.posted_at z k posted) e at in
    let odd : is_async posted ≡ false = sync_two k posted q in absurd cc
clean s Posting p k posted at (inr (inr e)) n =
    let q : posted + 1 ≡ 3 * k = subst (λ z. law.posted_at z k posted) e at in
    let odd : is_async posted ≡ false = sync_one k posted q in absurd cc
clean s (Sweeping cell) p k posted at e n = ap law.time_of e.0
clean s (Clearing cell word) p k posted at e n = ap law.time_of e
clean s _ p k posted at e n = absurd n

-- after the trace what is kept is black
pub kept_black : (s : Setup) (run : List Event) → IsHeapRun s run → IsPastTrace s run → (c b : ℕ) → Kept s run c b → word_after s run (Colour c) ≡ black (cycle_of (posted_of (turns_of run)))
kept_black s run h past c b k =
    let f = safe s run h.setup h.run_of h.discipline past.0 past.1 in
    let n : IsClean f.state.posted past.0 = subst (λ q. IsClean q past.0) (sym f.shows.posted) past.2 in
    let y : law.IsBlack f.state c = heap.kept-black done cycle_of claim_at IsSync f.state f.inv (clean s past.0 f.state.part f.state.cycle f.state.posted f.inv.stages.posted f.at n) c b (kept_in s run f.state h.run_of f.shows k) in
    let same : f.state.colour c ≡ word_after s run (Colour c) = f.shows.colour c in
    let cycle : cycle_of (posted_of (turns_of run)) ≡ f.state.cycle = cycle_in s run f.state f.inv f.shows in
    omega (arith, y, same, cycle)

-- ---- words

-- after each run of the heap each word fits its kind
pub words_fit : (s : Setup) (run : List Event) → IsHeapRun s run → EachWordFits s run
words_fit s run h cell word = fits s run h.setup h.run_of h.discipline cell word
