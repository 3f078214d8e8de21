-- A cover holds all that can be reached, none of it gone; and what a step makes of it.
use Rattle.std.proofs.Common.{◌≡◌, ◌≢◌, ◌<◌, ◌⊎◌, ◌==◌, ◌&&◌, inl, inr, ℕ, zero, suc, Bool, true, false, Option, List, [], ◌∷◌, slice_index, slice_index_or, if◌then◌else◌, refl, sym, ap, subst, ◌∙◌, IsTrue, MatchOption, arith}
use Rattle.std.proofs.lemmas.Bool.Decides.{nat_tests}
use Rattle.lemmas.specs.Numbers.{test_true, test_same}
use Rattle.lemmas.specs.Lists.{IsIn}
use Rattle.pools.specs.declared.word_kind.WordKind.TheVariants as kind
use Rattle.pools.specs.Heap.{Setup, cells, kind_of}
use Rattle.pools.specs.Layouts.{is_reference_kind}
use Rattle.colours.specs.declared.place.Place.TheVariants.{Colour, Word}
use Rattle.colours.specs.declared.turn.Turn.{Turn}
use Rattle.colours.specs.declared.turn.Turn.TheVariants.{Free}
use Rattle.colours.specs.Mutator.{phase_of}
use Rattle.colours.specs.Runs.{word_after}
use Rattle.runs.specs.Machine.{WordValue, Answer, Machine}
use Rattle.runs.specs.Moves.{Move, StoresAfterBarrier, StoresPlain, null, step_of, steps_of, state_after, ends_call, answer_of}
use Rattle.runs.specs.ModuleRuns.{Happening, OfThread, OfCollector, share_of, heap_of, birth_of, birth_in, IsNext}
use Rattle.runs.specs.Broken.{IsUnderWay, IsRoot, globals, from, further, IsReachable, IsGone}
use Rattle.moves.specs.declared.shared.Shared.{Shared}
use Rattle.moves.specs.RootsAfter.{AddsNewest}
use Rattle.moves.specs.Rows.{word_at}
use Rattle.moves.specs.Shared.{ThreadStateAfter}
use Rattle.stepping.specs.declared.walk.Walk.{Walk}
use Rattle.stepping.specs.Reach.{AreRoots, LosesNothing}
use Rattle.stepping.specs.Walks.{IsAtMost, IsSeen, IsClosed, IsNearlyClosed}
use Rattle.stepping.specs.Covers.{IsMet, IsKept, held_in, Covers, IsOver, IsStored, FreesNoneOf}
use Rattle.stepping.proofs.Losses.{IsNoBegin, was-under_way, adds-nothing, nothing-freed, word-stays, stays-claimed, same-birth, root-before}
use Rattle.stepping.proofs.Exact.{held-kind, listed-met, word-is}

-- ---- none of it is gone

module _ (s : Setup) (m : Machine) (starts : ℕ → m.State) (run : List Happening) (met : List Bool) (covers : Covers s m starts run met) where
  -- what can be reached is among the cells
  kept-all : (r : WordValue) → IsReachable s m starts run r → IsKept s run met r
  kept-all _ globals = covers.globals
  kept-all _ (from r is_root n) = covers.roots r is_root n
  kept-all _ (further r word reached is n) = covers.words r.cell word (kept-all r reached).is_met is n

  pub none-gone : (r : WordValue) → IsReachable s m starts run r → ¬ IsGone s run r
  none-gone r reached gone = elim gone [
    | inl blue ↦ covers.claimed r.cell (kept-all r reached).is_met blue
    | inr reborn ↦ reborn (kept-all r reached).birth
  ]

-- ---- after a step that loses nothing

module _ (s : Setup) (m : Machine) (starts : ℕ → m.State) (run : List Happening) (met : List Bool) (covers : Covers s m starts run met) where
  -- what is kept stays so
  kept-after : (happening : Happening) → IsNext s m starts run happening → (r : WordValue) → IsKept s run met r → IsKept s (happening ∷ run) met r
  kept-after happening next r kept = record { is_met = kept.is_met; birth = same-birth s m starts run happening next r.cell (covers.claimed r.cell kept.is_met) ∙ kept.birth }

  pub quiet-covers : (happening : Happening) → IsNext s m starts run happening → LosesNothing s m starts run happening → Covers s m starts (happening ∷ run) met
  quiet-covers happening next loses = record {
    claimed = λ cell is_met. stays-claimed s run happening (nothing-freed happening (adds-nothing s m starts run happening loses)) cell (covers.claimed cell is_met);
    globals = kept-after happening next null covers.globals;
    roots = λ r is_root n. kept-after happening next r (covers.roots r (root-before s m starts run happening next loses r is_root) n);
    words = words;
  }
    where
      words : (cell word : ℕ) → IsMet met cell → IsTrue (is_reference_kind (kind_of s cell word)) → (held_in s (happening ∷ run) cell word).cell ≢ 0 → IsKept s (happening ∷ run) met (held_in s (happening ∷ run) cell word)
      words cell word is_met is n =
          let same = word-stays s run happening (adds-nothing s m starts run happening loses) cell word n in
          let whole : held_in s run cell word ≡ held_in s (happening ∷ run) cell word =
          sym (ap (λ c. record { cell = c; birth = birth_in (happening ∷ run) cell word }) same.0 ∙ ap (λ b. record { cell = word_after s (heap_of run) (Word cell word); birth = b }) same.1) in
          subst (λ (q : WordValue). IsKept s (happening ∷ run) met q) whole (kept-after happening next (held_in s run cell word) (covers.words cell word is_met is (λ z. n (same.0 ∙ z))))

  -- after the freeing of another cell
  free-covers : (of : ℕ) → IsNext s m starts run (OfCollector (Free of)) → ¬ IsMet met of → Covers s m starts (OfCollector (Free of) ∷ run) met
  unfolding word_after
  free-covers of next other = record {
    claimed = λ cell is_met. claimed cell is_met (of == cell) refl;
    globals = kept-after (OfCollector (Free of)) next null covers.globals;
    roots = λ r is_root n. kept-after (OfCollector (Free of)) next r
        (covers.roots r (record { thread = is_root.thread; is_thread = is_root.is_thread; is_under_way = is_root.is_under_way; is_root = is_root.is_root }) n);
    words = λ cell word is_met is n. kept-after (OfCollector (Free of)) next (held_in s run cell word) (covers.words cell word is_met is n);
  }
    where
      claimed : (cell : ℕ) → IsMet met cell → (b : Bool) → (of == cell) ≡ b → (if b then 0 else word_after s (heap_of run) (Colour cell)) ≢ 0
      claimed cell is_met true e = let is : of ≡ cell = test_true of cell e in absurd (other (subst (λ c. IsMet met c) (sym is) is_met))
      claimed cell is_met false e = covers.claimed cell is_met

  -- after a step of the collector that frees none of them
  pub turn-covers : (turn : Turn) → IsNext s m starts run (OfCollector turn) → FreesNoneOf met turn → Covers s m starts (OfCollector turn ∷ run) met
  turn-covers (Free of) next frees = free-covers of next frees
  turn-covers turn next frees = quiet-covers (OfCollector turn) next tt

-- ---- after a move

-- a cell that was met was met, whatever stands for those outside the row
met-known : (met : List Bool) (cell : ℕ) → slice_index_or met cell false ≡ true → slice_index_or met cell true ≡ true
met-known [] cell is = refl
met-known (first ∷ met) zero is = is
met-known (first ∷ met) (suc cell) is = met-known met cell is

-- a word of the heap holds what it held, or what the move stored
abbrev put_in : (same : Bool) → (value was : WordValue) → WordValue
put_in same value was = record { cell = if same then value.cell else was.cell; birth = if same then value.birth else was.birth }

stored-or-same : (s : Setup) (base : WordValue) (place : ℕ) (value stored : WordValue) → (base.cell < cells s → IsTrue (is_reference_kind (kind_of s base.cell place)) → stored ≡ value)
    → (cell word : ℕ) (was : WordValue) → cell < cells s → IsTrue (is_reference_kind (kind_of s cell word)) → (same : Bool) → (base.cell == cell) ≡ same → (there : Bool) → (place == word) ≡ there
    → (put_in (same && there) value was ≡ was) ⊎ (put_in (same && there) value was ≡ stored)
stored-or-same s base place value stored is_stored cell word was lt is true e true f =
    let here : base.cell ≡ cell = test_true base.cell cell e in
    let at : place ≡ word = test_true place word f in
    let kind_is : IsTrue (is_reference_kind (kind_of s base.cell place)) = subst (λ c. IsTrue (is_reference_kind (kind_of s c place))) (sym here) (subst (λ p. IsTrue (is_reference_kind (kind_of s cell p))) (sym at) is) in
    inr (sym (is_stored (subst (λ c. c < cells s) (sym here) lt) kind_is))
stored-or-same s base place value stored is_stored cell word was lt is true e false f = inl refl
stored-or-same s base place value stored is_stored cell word was lt is false e there f = inl refl

held-after : (s : Setup) (run : List Happening) (t : ℕ) (move : Move) (stored : WordValue) → IsStored s move stored → (cell word : ℕ) → cell < cells s → IsTrue (is_reference_kind (kind_of s cell word))
    → (held_in s (OfThread t move ∷ run) cell word ≡ held_in s run cell word) ⊎ (held_in s (OfThread t move ∷ run) cell word ≡ stored)
unfolding word_after
held-after s run t (StoresAfterBarrier base place value) stored is_stored cell word lt is =
    stored-or-same s base place value stored is_stored cell word (held_in s run cell word) lt is (base.cell == cell) refl (place == word) refl
held-after s run t (StoresPlain base place value) stored is_stored cell word lt is =
    stored-or-same s base place value stored is_stored cell word (held_in s run cell word) lt is (base.cell == cell) refl (place == word) refl
held-after s run t move stored is_stored cell word lt is = inl refl

module _ (s : Setup) (m : Machine) (starts : ℕ → m.State) (run : List Happening) (t : ℕ) (move : Move) (next : IsNext s m starts run (OfThread t move))
    (w : Walk) (over : IsOver (cells s) w) (covers : Covers s m starts run w.met) (h : Shared) (thread_state : ThreadStateAfter s (OfThread t move ∷ run) h) where
  not-free : (cell : ℕ) → IsMet w.met cell → slice_index h.colours cell ≢ 0
  not-free cell is_met free = stays-claimed s run (OfThread t move) tt cell (covers.claimed cell is_met) (sym (thread_state.afterwards.words (Colour cell)) ∙ free)

  -- what was kept is seen after the move
  seen-kept : (r : WordValue) → IsKept s run w.met r → IsSeen h w r
  seen-kept r kept = record {
    met = met-known w.met r.cell kept.is_met;
    blue = λ free. absurd (not-free r.cell kept.is_met free);
    reborn = λ n. absurd (n (thread_state.afterwards.births r.cell ∙ same-birth s m starts run (OfThread t move) next r.cell (covers.claimed r.cell kept.is_met) ∙ kept.birth));
  }

  -- the walk is closed but for what the move stored, and for the roots of its thread
  pub nearly-closed : (roots own : List WordValue) (stored : WordValue) → AreRoots s m starts (OfThread t move ∷ run) roots → IsStored s move stored
      → ((r : WordValue) → IsRoot s m starts (OfThread t move ∷ run) r → IsRoot s m starts run r ⊎ IsIn r own) → IsNearlyClosed s h roots own stored w
  nearly-closed roots own stored are is_stored owns = record {
    listed = over.listed;
    free = λ cell is_met free. absurd (not-free cell is_met free);
    words_seen = λ place lt word is n. words (slice_index w.order place) word (over.shaped.are_met place lt) (over.shaped.within place lt) is n;
    globals_seen = seen-kept null covers.globals;
    roots_seen = λ r is_in n. elim (owns r (are.are_roots r is_in n)) [
      | inl is_root ↦ inl (seen-kept r (covers.roots r is_root n))
      | inr of_own ↦ inr of_own
    ];
  }
    where
      words : (cell word : ℕ) → IsMet w.met cell → cell < cells s → IsTrue (is_reference_kind (kind_of s cell word)) → (word_at h.words cell word).cell ≢ 0
          → IsSeen h w (word_at h.words cell word) ⊎ (word_at h.words cell word ≡ stored)
      words cell word is_met lt is n =
          let now = word-is s (OfThread t move ∷ run) h thread_state cell word in
          elim (held-after s run t move stored is_stored cell word lt is) [
            | inl same ↦ (let as_was : held_in s run cell word ≡ word_at h.words cell word = sym same ∙ now in
                inl (subst (λ (q : WordValue). IsSeen h w q) as_was (seen-kept (held_in s run cell word) (covers.words cell word is_met is (λ z. n (sym (ap (λ (q : WordValue). q.cell) as_was) ∙ z))))))
            | inr of_move ↦ inr (sym now ∙ of_move)
          ]

-- a root after a move is one of these, or was one before, if those of the thread are
pub root-or-own : (s : Setup) (m : Machine) (starts : ℕ → m.State) (run : List Happening) (t : ℕ) (move : Move) (own : List WordValue)
    → ((r : WordValue) → IsUnderWay (phase_of s t (steps_of (share_of t (OfThread t move ∷ run)))) → IsIn r (m.roots (state_after s m t (starts t) (share_of t (OfThread t move ∷ run)))) → IsRoot s m starts run r ⊎ IsIn r own)
    → (r : WordValue) → IsRoot s m starts (OfThread t move ∷ run) r → IsRoot s m starts run r ⊎ IsIn r own
root-or-own s m starts run t move own owns r is = go (t == is.thread) refl is.is_under_way is.is_root
  where
    go : (b : Bool) → (t == is.thread) ≡ b → IsUnderWay (phase_of s is.thread (steps_of (if b then move ∷ share_of is.thread run else share_of is.thread run)))
        → IsIn r (m.roots (state_after s m is.thread (starts is.thread) (if b then move ∷ share_of is.thread run else share_of is.thread run))) → IsRoot s m starts run r ⊎ IsIn r own
    go true e way is_root =
        subst (λ (u : ℕ). IsUnderWay (phase_of s u (steps_of (share_of u (OfThread t move ∷ run)))) → IsIn r (m.roots (state_after s m u (starts u) (share_of u (OfThread t move ∷ run)))) → IsRoot s m starts run r ⊎ IsIn r own)
        (test_true t is.thread e) (owns r) is.is_under_way is.is_root
    go false e way is_root = inl (record { thread = is.thread; is_thread = is.is_thread; is_under_way = way; is_root = is_root })

-- a root of the thread after a move by which it does not begin was one before, or is one of its newest frames
module _ (s : Setup) (m : Machine) (newest : m.State → List WordValue) (adds : (state : m.State) (given : Answer) → AddsNewest (m.roots state) (m.roots (m.after_answer state given)) (newest (m.after_answer state given)))
    (starts : ℕ → m.State) (run : List Happening) (t : ℕ) (move : Move) (next : IsNext s m starts run (OfThread t move)) (no_begin : MatchOption (step_of move) (Unit {0}) IsNoBegin) where
  before-or-newest : (state : m.State) (given : Answer) (r : WordValue) → (b : Bool) → IsIn r (m.roots (if b then m.after_answer state given else state))
      → IsIn r (m.roots state) ⊎ IsIn r (newest (if b then m.after_answer state given else state))
  before-or-newest state given r true is_in = adds state given r is_in
  before-or-newest state given r false is_in = inl is_in

  pub newest-own : (r : WordValue) → IsUnderWay (phase_of s t (steps_of (share_of t (OfThread t move ∷ run)))) → IsIn r (m.roots (state_after s m t (starts t) (share_of t (OfThread t move ∷ run))))
      → IsRoot s m starts run r ⊎ IsIn r (newest (state_after s m t (starts t) (share_of t (OfThread t move ∷ run))))
  newest-own r way is_in =
      subst (λ (share : List Move). IsUnderWay (phase_of s t (steps_of share)) → IsIn r (m.roots (state_after s m t (starts t) share)) → IsRoot s m starts run r ⊎ IsIn r (newest (state_after s m t (starts t) share))) (sym own) here way is_in
    where
      share : List Move
      share = share_of t run

      own : share_of t (OfThread t move ∷ run) ≡ move ∷ share
      own = rw (test_same t) refl

      here : IsUnderWay (phase_of s t (steps_of (move ∷ share))) → IsIn r (m.roots (state_after s m t (starts t) (move ∷ share))) → IsRoot s m starts run r ⊎ IsIn r (newest (state_after s m t (starts t) (move ∷ share)))
      here way is_in =
          elim (before-or-newest (state_after s m t (starts t) share) (answer_of (m.action (state_after s m t (starts t) share)) move) r (ends_call move (phase_of s t (steps_of (move ∷ share)))) is_in) [
            | inl was ↦ inl (record { thread = t; is_thread = next.0; is_under_way = was-under_way s t (steps_of share) (step_of move) no_begin next.1.0 way; is_root = was })
            | inr new ↦ inr new
          ]

-- ---- a walk that is closed

module _ (s : Setup) (m : Machine) (starts : ℕ → m.State) (run : List Happening) (h : Shared) (roots : List WordValue) (thread_state : ThreadStateAfter s run h) (are : AreRoots s m starts run roots)
    (w : Walk) (over : IsOver (cells s) w) (closed : IsClosed s h roots w) where
  kept-seen : (r : WordValue) → r.cell < cells s → IsSeen h w r → IsKept s run w.met r
  kept-seen r lt seen = record {
    is_met = listed-met w.met r.cell (omega (arith, lt, over.shaped.wide)) seen.met;
    birth = birth (slice_index h.births r.cell == r.birth) refl;
  }
    where
      birth : (b : Bool) → (slice_index h.births r.cell == r.birth) ≡ b → birth_of s run r.cell ≡ r.birth
      birth true e = sym (thread_state.afterwards.births r.cell) ∙ test_true (slice_index h.births r.cell) r.birth e
      birth false e =
          let isnt : slice_index h.births r.cell ≢ r.birth = grind (arith, nat_tests) in
          absurd (subst (λ (least : Option ℕ). IsAtMost least r.cell) over.none_reborn (seen.reborn isnt))

  -- its cells are a cover
  pub closed-covers : Covers s m starts run w.met
  closed-covers = record {
    claimed = λ cell is_met z. absurd (subst (λ (least : Option ℕ). IsAtMost least cell) over.none_free (closed.looked.free cell is_met (thread_state.afterwards.words (Colour cell) ∙ z)));
    globals = kept-seen null (omega arith) closed.globals_seen;
    roots = λ r is_root n. let is_in = are.all r is_root n in kept-seen r (are.are_cells r is_in) (closed.roots_seen r is_in n);
    words = λ cell word is_met is n. words cell word is_met is n;
  }
    where
      words : (cell word : ℕ) → IsMet w.met cell → IsTrue (is_reference_kind (kind_of s cell word)) → (held_in s run cell word).cell ≢ 0 → IsKept s run w.met (held_in s run cell word)
      words cell word is_met is n =
          let now = word-is s run h thread_state cell word in
          let at = closed.looked.listed cell is_met in
          let lt : cell < cells s = subst (λ c. c < cells s) at.2 (over.shaped.within at.0 at.1) in
          let m : (word_at h.words cell word).cell ≢ 0 = λ z. n (ap (λ (q : WordValue). q.cell) now ∙ z) in
          let seen = subst (λ c. IsTrue (is_reference_kind (kind_of s c word)) → (word_at h.words c word).cell ≢ 0 → IsSeen h w (word_at h.words c word)) at.2 (closed.looked.words_seen at.0 at.1 word) is m in
          let k = held-kind (kind_of s cell word) is in
          let below : (word_at h.words cell word).cell < cells s = elim (thread_state.shape.kinds cell word (kind.Reference k.0) lt k.1) [ inl null_is ↦ absurd (m null_is) | inr of_layout ↦ of_layout.1 ] in
          subst (λ (q : WordValue). IsKept s run w.met q) (sym now) (kept-seen (word_at h.words cell word) below seen)
