-- No run of a module is broken: what one thread promises and what the heap promises feed each other, one step at a time.
use Rattle.std.proofs.Common.{◌≡◌, ◌≢◌, ℕ, suc, ◌==◌, inl, inr, Bool, true, false, ◌&&◌, Option, Some, None, List, [], ◌∷◌, if◌then◌else◌, refl, sym, ◌∙◌, subst, IsTrue, MatchOption}
use Rattle.std.proofs.Math.Path.{ap}
use Rattle.lemmas.specs.Numbers.{test_true}
use Rattle.lemmas.specs.Bools.{and_parts}
use Rattle.pools.specs.declared.word_kind.WordKind.{WordKind}
use Rattle.pools.specs.declared.word_kind.WordKind.TheVariants as kind
use Rattle.pools.specs.Heap.{Setup, IsSetup, kind_of}
use Rattle.pools.specs.Layouts.{is_reference_kind}
use Rattle.colours.specs.declared.place.Place.TheVariants.{Word}
use Rattle.colours.specs.declared.turn.Turn.{Turn}
use Rattle.colours.specs.declared.turn.Turn.TheVariants.{PostStage, ReadStage, MarkFound, ReadColour, ScanWord, Blacken, ClearWord, Free}
use Rattle.colours.specs.Steps.{Step, ReadWord, ReadOldValue, Mark, StoreAfterBarrier, StorePlain, Claim, ReadPosted, StoreStage, ReadPostedFirst, EnterStage, ReadPostedAgain}
use Rattle.colours.specs.Mutator.{Held, Keeps, IsDisciplined, IsPossible, phase_of}
use Rattle.colours.specs.Runs.{Event, ByThread, ByCollector, log_of, word_after, births_after, puts, value_put, IsAlive, IsHeapRun, MayHappen, KeepsDiscipline, Kept, globals, held, further}
use Rattle.colours.specs.Frames.{word_left}
use Rattle.runs.specs.Machine.{WordValue, Machine}
use Rattle.runs.specs.Moves.{Move, Works, GoesWrong, ReadsWord, ReadsOldValue, Marks, StoresAfterBarrier, StoresPlain, Claims, ReadsPosted, StoresStage, ReadsPostedFirst, EntersStage, ReadsPostedAgain, step_of, steps_of, state_after, old_of, AsksFor}
use Rattle.runs.specs.Discipline.{Brings, Holds, MayTouch, MayName, MayPut, KeepsTo, ArePossible, IsPossibleMove}
use Rattle.runs.specs.ModuleRuns.{Happening, OfThread, OfCollector, share_of, with_step, heap_of, birth_of, birth_in, FindsBirth, IsNext, IsModuleRun}
use Rattle.runs.specs.Broken as broken
use Rattle.runs.specs.Broken.{IsRoot, Reached, IsReachable, IsGone, WentWrong, TouchedGone, IsBroken}
use Rattle.runs.specs.Promises.{AreCareful, HeapLaw, IsSafe, IsNeverWrong}
use Rattle.runs.specs.Shares.{same_cell, log_is, run_with, heap_run, is_share, brings_gains, leaves_keeps, holds_held, disciplined}
use Rattle.runs.specs.Births.{birth_stays, birth_given, birth_elsewhere, word_birth_left}

-- what holds of each end of a run: the heap part obeys the discipline, answers were possible, and the births of references are the heap's
pub record Invariant (s : Setup) (run : List Happening) : Type 0 where
  pub discipline : KeepsDiscipline s (heap_of run)
  pub possible : (t : ℕ) → ArePossible s (share_of t run)
  pub held_births : (t : ℕ) (r : WordValue) → Holds s (share_of t run) r → r.birth ≡ (births_after s (heap_of run)).with_thread t r.cell
  pub word_births : (c i : ℕ) → IsTrue (is_reference_kind (kind_of s c i)) → word_after s (heap_of run) (Word c i) ≢ 0 → birth_in run c i ≡ (births_after s (heap_of run)).in_word c i

start : (s : Setup) → Invariant s []
unfolding births_after
start s = record {
  discipline = tt;
  possible = λ t. tt;
  held_births = λ t r h. absurd h;
  word_births = zero_births s;
}
  where
    zero_births : (s : Setup) (c i : ℕ) → IsTrue (is_reference_kind (kind_of s c i)) → word_after s [] (Word c i) ≢ 0 → 0 ≡ (births_after s []).in_word c i
    zero_births s c i r n = refl

-- ---- a thread's move

discipline_with : (s : Setup) (t : ℕ) (o : Option Step) (h : List Event) → KeepsDiscipline s h → MatchOption o (Unit {0}) (λ step. IsDisciplined s (log_of t h) step)
    → KeepsDiscipline s (with_step t o h)
discipline_with s t None h d x = d
discipline_with s t (Some step) h d x = (d, x)

answered_with : (s : Setup) → HeapLaw s → (t : ℕ) (o : Option Step) (h : List Event) → IsHeapRun s (with_step t o h) → MatchOption o (Unit {0}) (λ step. IsPossible s (log_of t h) step)
answered_with s law t None h r = tt
answered_with s law t (Some step) h r = law.answered h t step r

stays_with : (s : Setup) → HeapLaw s → (t : ℕ) (o : Option Step) (h : List Event) → IsHeapRun s (with_step t o h) → IsHeapRun s h → (c : ℕ)
    → MatchOption o (Unit {0}) (λ step. Keeps step c) → Held s (log_of t h) c → (births_after s (with_step t o h)).with_thread t c ≡ (births_after s h).with_thread t c
stays_with s law t None h next run c k x = refl
stays_with s law t (Some step) h next run c k x = birth_stays s law h t step next run c x (inr (k, x))

elsewhere_with : (s : Setup) (t u : ℕ) (o : Option Step) (h : List Event) (c : ℕ) → (t == u) ≡ false
    → (births_after s (with_step t o h)).with_thread u c ≡ (births_after s h).with_thread u c
elsewhere_with s t u None h c e = refl
elsewhere_with s t u (Some step) h c e = birth_elsewhere s h t u step c e

-- a reference that a move brings has the birth that the heap gives
brought : (s : Setup) (run : List Happening) → Invariant s run → (t : ℕ) (move : Move) (r : WordValue) → Brings s move r
    → MatchOption (step_of move) (Unit {0}) (λ step. MayHappen s (heap_of run) (ByThread t step)) → FindsBirth s run move
    → r.birth ≡ (births_after s (heap_of (OfThread t move ∷ run))).with_thread t r.cell
brought s run inv t (ReadsWord base word value) r b m f =
    ap (λ (x : WordValue). x.birth) b.0 ∙ f ∙ inv.word_births base.cell word b.1 (λ z. b.2 (sym m.2 ∙ z))
    ∙ sym (birth_given s (heap_of run) t (ReadWord base.cell word value.cell) r.cell (brings_gains s (ReadsWord base word value) r b))
brought s run inv t (ReadsOldValue base word value) r b m f =
    ap (λ (x : WordValue). x.birth) b.0 ∙ f ∙ inv.word_births base.cell word b.1 (λ z. b.2 (sym m.2 ∙ z))
    ∙ sym (birth_given s (heap_of run) t (ReadOldValue base.cell word value.cell) r.cell (brings_gains s (ReadsOldValue base word value) r b))
brought s run inv t (Claims q won) r b m f =
    ap (λ (x : WordValue). x.birth) b.0 ∙ f ∙ ap (λ (c : ℕ). suc (birth_of s run c)) (sym (same_cell b.0))
    ∙ sym (birth_given s (heap_of run) t (Claim q.cell won) r.cell (brings_gains s (Claims q won) r b))
brought s run inv t Works r b m f = absurd b
brought s run inv t GoesWrong r b m f = absurd b
brought s run inv t (Marks q) r b m f = absurd b
brought s run inv t (StoresAfterBarrier base word value) r b m f = absurd b
brought s run inv t (StoresPlain base word value) r b m f = absurd b
brought s run inv t (ReadsPosted stage) r b m f = absurd b
brought s run inv t (StoresStage stage roots) r b m f = absurd b
brought s run inv t (ReadsPostedFirst stage) r b m f = absurd b
brought s run inv t (EntersStage stage) r b m f = absurd b
brought s run inv t (ReadsPostedAgain stage) r b m f = absurd b

put_held : (s : Setup) (share : List Move) (k : Option WordKind) (value : WordValue) → IsTrue (is_reference_kind k) → MayPut s share k value → value.cell ≢ 0 → Holds s share value
put_held s share None value r p n = absurd p
put_held s share (Some (kind.Integer bits)) value r p n = absurd cc
put_held s share (Some (kind.Reference layout)) value r (inl z) n = absurd (n z)
put_held s share (Some (kind.Reference layout)) value r (inr h) n = h.0

-- a step that puts nothing into a word
quiet : (s : Setup) (run : List Happening) → Invariant s run → (t : ℕ) (step : Step) (c i : ℕ) → puts step c i ≡ false → IsTrue (is_reference_kind (kind_of s c i))
    → word_after s (ByThread t step ∷ heap_of run) (Word c i) ≢ 0 → birth_in run c i ≡ (births_after s (ByThread t step ∷ heap_of run)).in_word c i
quiet s run inv t step c i p r n =
    let w : word_after s (ByThread t step ∷ heap_of run) (Word c i) ≡ word_after s (heap_of run) (Word c i) = rw (word_left, p) refl in
    let b : (births_after s (ByThread t step ∷ heap_of run)).in_word c i ≡ (births_after s (heap_of run)).in_word c i = rw (word_birth_left, p) refl in
    inv.word_births c i r (λ z. n (w ∙ z)) ∙ sym b

-- a step that stores a value
put : (s : Setup) (run : List Happening) → Invariant s run → (t : ℕ) (step : Step) (base : WordValue) (word : ℕ) (value : WordValue) (c i : ℕ)
    → puts step c i ≡ ((base.cell == c) && (word == i)) → value_put step ≡ value.cell → MayPut s (share_of t run) (kind_of s base.cell word) value → IsTrue (is_reference_kind (kind_of s c i))
    → word_after s (ByThread t step ∷ heap_of run) (Word c i) ≢ 0
    → (if (base.cell == c) && (word == i) then value.birth else birth_in run c i) ≡ (births_after s (ByThread t step ∷ heap_of run)).in_word c i
put s run inv t step base word value c i p v may r n = go ((base.cell == c) && (word == i)) refl
  where
    h : List Event
    h = heap_of run

    go : (b : Bool) → ((base.cell == c) && (word == i)) ≡ b → (if b then value.birth else birth_in run c i) ≡ (births_after s (ByThread t step ∷ h)).in_word c i
    go true e =
        let q = and_parts (base.cell == c) (word == i) e in
        let there : puts step c i ≡ true = p ∙ e in
        let w : word_after s (ByThread t step ∷ h) (Word c i) ≡ value.cell = rw (word_left, there, v) refl in
        let b : (births_after s (ByThread t step ∷ h)).in_word c i ≡ (births_after s h).with_thread t value.cell = rw (word_birth_left, there, v) refl in
        let ref : IsTrue (is_reference_kind (kind_of s base.cell word)) = rw (test_true base.cell c q.0, test_true word i q.1) r in
        inv.held_births t value (put_held s (share_of t run) (kind_of s base.cell word) value ref may (λ z. n (w ∙ z))) ∙ sym b
    go false e = quiet s run inv t step c i (p ∙ e) r n

word_next : (s : Setup) (run : List Happening) → Invariant s run → (t : ℕ) (move : Move) → KeepsTo s (share_of t run) move → (c i : ℕ) → IsTrue (is_reference_kind (kind_of s c i))
    → word_after s (heap_of (OfThread t move ∷ run)) (Word c i) ≢ 0 → birth_in (OfThread t move ∷ run) c i ≡ (births_after s (heap_of (OfThread t move ∷ run))).in_word c i
word_next s run inv t Works k c i r n = inv.word_births c i r n
word_next s run inv t GoesWrong k c i r n = inv.word_births c i r n
word_next s run inv t (ReadsWord base word value) k c i r n = quiet s run inv t (ReadWord base.cell word value.cell) c i refl r n
word_next s run inv t (ReadsOldValue base word value) k c i r n = quiet s run inv t (ReadOldValue base.cell word value.cell) c i refl r n
word_next s run inv t (Marks q) k c i r n = quiet s run inv t (Mark q.cell) c i refl r n
word_next s run inv t (StoresAfterBarrier base word value) k c i r n = put s run inv t (StoreAfterBarrier base.cell word value.cell) base word value c i refl refl k.2 r n
word_next s run inv t (StoresPlain base word value) k c i r n = put s run inv t (StorePlain base.cell word value.cell) base word value c i refl refl k.2 r n
word_next s run inv t (Claims q won) k c i r n = quiet s run inv t (Claim q.cell won) c i refl r n
word_next s run inv t (ReadsPosted stage) k c i r n = quiet s run inv t (ReadPosted stage) c i refl r n
word_next s run inv t (StoresStage stage roots) k c i r n = quiet s run inv t (StoreStage stage _) c i refl r n
word_next s run inv t (ReadsPostedFirst stage) k c i r n = quiet s run inv t (ReadPostedFirst stage) c i refl r n
word_next s run inv t (EntersStage stage) k c i r n = quiet s run inv t (EnterStage stage) c i refl r n
word_next s run inv t (ReadsPostedAgain stage) k c i r n = quiet s run inv t (ReadPostedAgain stage) c i refl r n

-- ---- the two promises at the end of a run

record Setting (s : Setup) (m : Machine) (starts : ℕ → m.State) : Type 0 where
  setup : IsSetup s
  law : HeapLaw s
  careful : AreCareful s m starts

heap_is : (s : Setup) (m : Machine) (starts : ℕ → m.State) → Setting s m starts → (run : List Happening) → IsModuleRun s m starts run → Invariant s run → IsHeapRun s (heap_of run)
heap_is s m starts g run r inv = record { setup = g.setup; run_of = heap_run s m starts run r; discipline = inv.discipline }

-- the thread obeys the discipline
keeps : (s : Setup) (m : Machine) (starts : ℕ → m.State) → Setting s m starts → (run : List Happening) → IsModuleRun s m starts run → Invariant s run
    → (t : ℕ) (move : Move) → IsNext s m starts run (OfThread t move) → KeepsTo s (share_of t run) move
keeps s m starts g run r inv t move n = (g.careful t n.0).moves (share_of t run) move (is_share s m starts run t r) (inv.possible t) n.1

thread_next : (s : Setup) (m : Machine) (starts : ℕ → m.State) → Setting s m starts → (run : List Happening) → IsModuleRun s m starts run → Invariant s run
    → (t : ℕ) (move : Move) → IsNext s m starts run (OfThread t move) → Invariant s (OfThread t move ∷ run)
thread_next s m starts g run r inv t move n = record {
  discipline = now.discipline;
  possible = λ u. possible_next u (t == u) refl;
  held_births = λ u q h. held_next u q (t == u) refl h;
  word_births = word_next s run inv t move kept;
}
  where
    h : List Event
    h = heap_of run

    kept : KeepsTo s (share_of t run) move
    kept = keeps s m starts g run r inv t move n

    before : IsHeapRun s h
    before = heap_is s m starts g run r inv

    now : IsHeapRun s (with_step t (step_of move) h)
    now = record {
      setup = g.setup;
      run_of = run_with s t (step_of move) h (heap_run s m starts run r) n.2;
      discipline = discipline_with s t (step_of move) h inv.discipline
          (subst (λ (log : List Step). MatchOption (step_of move) (Unit {0}) (λ step. IsDisciplined s log step)) (sym (log_is t run)) (disciplined s (share_of t run) move kept));
    }

    possible : IsPossibleMove s (share_of t run) move
    possible = subst (λ (log : List Step). MatchOption (step_of move) (Unit {0}) (λ step. IsPossible s log step)) (log_is t run) (answered_with s g.law t (step_of move) h now)

    possible_next : (u : ℕ) (b : Bool) → (t == u) ≡ b → ArePossible s (if b then move ∷ share_of u run else share_of u run)
    possible_next u true e = (inv.possible u, subst (λ (v : ℕ). IsPossibleMove s (share_of v run) move) (test_true t u e) possible)
    possible_next u false e = inv.possible u

    own : (q : WordValue) → Holds s (move ∷ share_of t run) q → q.birth ≡ (births_after s (with_step t (step_of move) h)).with_thread t q.cell
    own q (inl b) = brought s run inv t move q b n.2 n.3
    own q (inr x) =
        let x1 : Held s (log_of t h) q.cell = subst (λ (log : List Step). Held s log q.cell) (sym (log_is t run)) (holds_held s (share_of t run) q x.1) in
        inv.held_births t q x.1 ∙ sym (stays_with s g.law t (step_of move) h now before q.cell (leaves_keeps move q x.0) x1)

    held_next : (u : ℕ) (q : WordValue) (b : Bool) → (t == u) ≡ b → Holds s (if b then move ∷ share_of u run else share_of u run) q
        → q.birth ≡ (births_after s (with_step t (step_of move) h)).with_thread u q.cell
    held_next u q true e x =
        let P : ℕ → Type 0 = λ v. Holds s (move ∷ share_of v run) q → q.birth ≡ (births_after s (with_step t (step_of move) h)).with_thread v q.cell in
        subst P (test_true t u e) (own q) x
    held_next u q false e x = inv.held_births u q x ∙ sym (elsewhere_with s t u (step_of move) h q.cell e)

-- ---- a turn of the collector

turn_next : (s : Setup) (run : List Happening) → Invariant s run → (turn : Turn) → Invariant s (OfCollector turn ∷ run)
unfolding births_after word_after
turn_next s run inv turn = record {
  discipline = inv.discipline;
  possible = inv.possible;
  held_births = inv.held_births;
  word_births = λ c i r n. words turn c i r n;
}
  where
    words : (turn : Turn) (c i : ℕ) → IsTrue (is_reference_kind (kind_of s c i)) → word_after s (ByCollector turn ∷ heap_of run) (Word c i) ≢ 0
        → birth_in (OfCollector turn ∷ run) c i ≡ (births_after s (ByCollector turn ∷ heap_of run)).in_word c i
    words (PostStage stage) c i r n = inv.word_births c i r n
    words (ReadStage thread stage) c i r n = inv.word_births c i r n
    words (MarkFound cell colour) c i r n = inv.word_births c i r n
    words (ReadColour cell colour) c i r n = inv.word_births c i r n
    words (ScanWord cell word value) c i r n = inv.word_births c i r n
    words (Blacken cell) c i r n = inv.word_births c i r n
    words (Free cell) c i r n = inv.word_births c i r n
    words (ClearWord cell word) c i r n = go ((cell == c) && (word == i)) n
      where
        go : (b : Bool) → (if b then 0 else word_after s (heap_of run) (Word c i)) ≢ 0 → (if b then 0 else birth_in run c i) ≡ (births_after s (heap_of run)).in_word c i
        go true x = absurd (x refl)
        go false x = inv.word_births c i r x

-- ---- every run

invariant : (s : Setup) (m : Machine) (starts : ℕ → m.State) → Setting s m starts → (run : List Happening) → IsModuleRun s m starts run → Invariant s run
invariant s m starts g [] r = start s
invariant s m starts g (OfThread t move ∷ run) r = thread_next s m starts g run r.0 (invariant s m starts g run r.0) t move r.1
invariant s m starts g (OfCollector turn ∷ run) r = turn_next s run (invariant s m starts g run r.0) turn

-- ---- what follows

not_gone : (s : Setup) (run : List Happening) (r : WordValue) → IsAlive s (heap_of run) r.cell r.birth → ¬ IsGone s run r
not_gone s run r a (inl blue) = a.not_blue blue
not_gone s run r a (inr other) = other a.same_birth

-- what a thread holds is alive
holds_alive : (s : Setup) (m : Machine) (starts : ℕ → m.State) → Setting s m starts → (run : List Happening) → IsModuleRun s m starts run → Invariant s run
    → (t : ℕ) (r : WordValue) → Holds s (share_of t run) r → Kept s (heap_of run) r.cell r.birth
holds_alive s m starts g run e inv t r h =
    let x : Held s (log_of t (heap_of run)) r.cell = subst (λ (log : List Step). Held s log r.cell) (sym (log_is t run)) (holds_held s (share_of t run) r h) in
    subst (λ (b : ℕ). Kept s (heap_of run) r.cell b) (sym (inv.held_births t r h)) (held t r.cell x)

-- a base that a thread may touch
base_kept : (s : Setup) (m : Machine) (starts : ℕ → m.State) → Setting s m starts → (run : List Happening) → IsModuleRun s m starts run → Invariant s run
    → (t : ℕ) (r : WordValue) → MayTouch s (share_of t run) r → Kept s (heap_of run) r.cell r.birth
base_kept s m starts g run e inv t r (inl z) = subst (λ (q : WordValue). Kept s (heap_of run) q.cell q.birth) (sym z) globals
base_kept s m starts g run e inv t r (inr h) = holds_alive s m starts g run e inv t r h

-- each path of references is one from what is kept
reached_kept : (s : Setup) (m : Machine) (starts : ℕ → m.State) → Setting s m starts → (run : List Happening) → IsModuleRun s m starts run → Invariant s run
    → (r : WordValue) → IsReachable s m starts run r → Kept s (heap_of run) r.cell r.birth
reached_kept s m starts g run e inv r h = go h
  where
    root : (r : WordValue) → IsRoot s m starts run r → r.cell ≢ 0 → Kept s (heap_of run) r.cell r.birth
    root r x n = named ((g.careful x.thread x.is_thread).roots (share_of x.thread run) (is_share s m starts run x.thread e) (inv.possible x.thread) x.is_under_way r x.is_root)
      where
        named : MayName s (share_of x.thread run) r → Kept s (heap_of run) r.cell r.birth
        named (inl z) = absurd (n z)
        named (inr h) = holds_alive s m starts g run e inv x.thread r h

    go : {r : WordValue} → Reached s run (IsRoot s m starts run) r → Kept s (heap_of run) r.cell r.birth
    go broken.globals = globals
    go (broken.from r x n) = root r x n
    go (broken.further r i x ref n) =
        subst (λ (b : ℕ). Kept s (heap_of run) (word_after s (heap_of run) (Word r.cell i)) b) (sym (inv.word_births r.cell i ref n)) (further r.cell r.birth i (go x) ref n)

pub safe : (s : Setup) (m : Machine) (starts : ℕ → m.State) → IsSetup s → HeapLaw s → AreCareful s m starts → IsSafe s m starts
safe s m starts setup law careful run r broken = go broken
  where
    g : Setting s m starts
    g = record { setup = setup; law = law; careful = careful }

    inv : Invariant s run
    inv = invariant s m starts g run r

    wrong : (run : List Happening) → IsModuleRun s m starts run → ¬ WentWrong run
    wrong [] e x = x
    wrong (OfThread t GoesWrong ∷ run) e x = keeps s m starts g run e.0 (invariant s m starts g run e.0) t GoesWrong e.1
    wrong (OfThread t Works ∷ run) e x = x
    wrong (OfThread t (ReadsWord base word value) ∷ run) e x = x
    wrong (OfThread t (ReadsOldValue base word value) ∷ run) e x = x
    wrong (OfThread t (Marks q) ∷ run) e x = x
    wrong (OfThread t (StoresAfterBarrier base word value) ∷ run) e x = x
    wrong (OfThread t (StoresPlain base word value) ∷ run) e x = x
    wrong (OfThread t (Claims q won) ∷ run) e x = x
    wrong (OfThread t (ReadsPosted stage) ∷ run) e x = x
    wrong (OfThread t (StoresStage stage roots) ∷ run) e x = x
    wrong (OfThread t (ReadsPostedFirst stage) ∷ run) e x = x
    wrong (OfThread t (EntersStage stage) ∷ run) e x = x
    wrong (OfThread t (ReadsPostedAgain stage) ∷ run) e x = x
    wrong (OfCollector turn ∷ run) e x = x

    alive : (run : List Happening) → IsModuleRun s m starts run → (t : ℕ) (r : WordValue) → MayTouch s (share_of t run) r → ¬ IsGone s run r
    alive run e t r may =
        let inv = invariant s m starts g run e in
        not_gone s run r ((law.kept (heap_of run) (heap_is s m starts g run e inv)) r.cell r.birth (base_kept s m starts g run e inv t r may))

    touch : (t : ℕ) (move : Move) (run : List Happening) → IsModuleRun s m starts run → KeepsTo s (share_of t run) move → ¬ TouchedGone s (OfThread t move ∷ run)
    touch t (ReadsWord base word value) run e k = alive run e t base k.0
    touch t (ReadsOldValue base word value) run e k = alive run e t base k.0
    touch t (Marks q) run e k = alive run e t q (inr k)
    touch t (StoresAfterBarrier base word value) run e k = alive run e t base k.0
    touch t (StoresPlain base word value) run e k = alive run e t base k.0
    touch t Works run e k = λ x. x
    touch t GoesWrong run e k = λ x. x
    touch t (Claims q won) run e k = λ x. x
    touch t (ReadsPosted stage) run e k = λ x. x
    touch t (StoresStage stage roots) run e k = λ x. x
    touch t (ReadsPostedFirst stage) run e k = λ x. x
    touch t (EntersStage stage) run e k = λ x. x
    touch t (ReadsPostedAgain stage) run e k = λ x. x

    touched : (run : List Happening) → IsModuleRun s m starts run → ¬ TouchedGone s run
    touched [] e x = x
    touched (OfThread t move ∷ run) e x = touch t move run e.0 (keeps s m starts g run e.0 (invariant s m starts g run e.0) t move e.1) x
    touched (OfCollector turn ∷ run) e x = x

    go : ¬ IsBroken s m starts run
    go (inl x) = wrong run r x
    go (inr (inl x)) = touched run r x
    go (inr (inr x)) = not_gone s run x.0 (law.kept (heap_of run) (heap_is s m starts g run r inv) x.0.cell x.0.birth (reached_kept s m starts g run r inv x.0 x.1)) x.2

-- ---- no thread is at an instruction that has no meaning

pub never_wrong : (s : Setup) (m : Machine) (starts : ℕ → m.State) → IsSafe s m starts → IsNeverWrong s m starts
never_wrong s m starts safe run r t lt p w = safe (OfThread t GoesWrong ∷ run) (r, (lt, (tt, inr asked), tt, tt)) (inl tt)
  where
    share : List Move
    share = share_of t run

    asked : AsksFor s (m.roots (state_after s m t (starts t) share)) (old_of share) (m.action (state_after s m t (starts t) share)) (phase_of s t (steps_of share)) GoesWrong
    asked = rw (p, w) tt
