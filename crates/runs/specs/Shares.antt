-- Shares and logs, and what forgetting the births leaves of the discipline.
use Rattle.std.proofs.Common.{◌≡◌, ◌≢◌, ℕ, ◌==◌, inl, inr, Bool, true, false, not, ◌&&◌, Option, Some, None, List, [], ◌∷◌, if◌then◌else◌, refl, sym, ◌∙◌, subst, IsTrue, MatchOption}
use Rattle.std.proofs.Math.Path.{ap}
use Rattle.lemmas.specs.Numbers.{test_true, test_yes, test_no}
use Rattle.lemmas.specs.Lists.{IsIn}
use Rattle.pools.specs.declared.word_kind.WordKind.{WordKind}
use Rattle.pools.specs.declared.word_kind.WordKind.TheVariants as kind
use Rattle.pools.specs.Heap.{Setup, kind_of}
use Rattle.pools.specs.Layouts.{is_reference_kind}
use Rattle.colours.specs.Steps.{Step}
use Rattle.colours.specs.Mutator.{Held, Keeps, gains, IsDisciplined, IsPossible, IsPossibleLog, MayUse, MayStore}
use Rattle.colours.specs.Runs.{Event, ByThread, log_of, IsRun, MayHappen}
use Rattle.runs.specs.Machine.{WordValue, Machine}
use Rattle.runs.specs.Moves.{Move, Works, GoesWrong, ReadsWord, ReadsOldValue, Marks, StoresAfterBarrier, StoresPlain, Claims, ReadsPosted, StoresStage, ReadsPostedFirst, EntersStage, ReadsPostedAgain, cells_of, step_of, logged, steps_of, IsShare, IsAsked}
use Rattle.runs.specs.Discipline.{Brings, Leaves, Holds, MayTouch, MayName, MayPut, KeepsTo, ArePossible}
use Rattle.runs.specs.ModuleRuns.{Happening, OfThread, OfCollector, share_of, with_step, heap_of, IsModuleRun}

-- equal references have one cell
pub same_cell : {r q : WordValue} → r ≡ q → r.cell ≡ q.cell
same_cell e = ap (λ (x : WordValue). x.cell) e

-- ---- logs

log_with : (t u : ℕ) (o : Option Step) (h : List Event) → log_of t (with_step u o h) ≡ (if u == t then logged o (log_of t h) else log_of t h)
log_with t u None h = go (u == t)
  where
    go : (b : Bool) → log_of t h ≡ (if b then log_of t h else log_of t h)
    go true = refl
    go false = refl
log_with t u (Some step) h = refl

steps_with : (b : Bool) (move : Move) (share : List Move) → steps_of (if b then move ∷ share else share) ≡ (if b then logged (step_of move) (steps_of share) else steps_of share)
steps_with true move share = refl
steps_with false move share = refl

-- a thread's log in the heap run is that of its share
pub log_is : (t : ℕ) (run : List Happening) → log_of t (heap_of run) ≡ steps_of (share_of t run)
log_is t [] = refl
log_is t (OfThread u move ∷ run) =
    log_with t u (step_of move) (heap_of run)
    ∙ ap (λ (log : List Step). if u == t then logged (step_of move) log else log) (log_is t run)
    ∙ sym (steps_with (u == t) move (share_of t run))
log_is t (OfCollector turn ∷ run) = log_is t run

-- ---- the two parts of a module run

pub run_with : (s : Setup) (t : ℕ) (o : Option Step) (h : List Event) → IsRun s h → MatchOption o (Unit {0}) (λ step. MayHappen s h (ByThread t step)) → IsRun s (with_step t o h)
run_with s t None h r m = r
run_with s t (Some step) h r m = (r, m)

-- its steps on the heap are a heap run
pub heap_run : (s : Setup) (m : Machine) (starts : ℕ → m.State) (run : List Happening) → IsModuleRun s m starts run → IsRun s (heap_of run)
heap_run s m starts [] r = tt
heap_run s m starts (OfThread t move ∷ run) r = run_with s t (step_of move) (heap_of run) (heap_run s m starts run r.0) r.1.2
heap_run s m starts (OfCollector turn ∷ run) r = (heap_run s m starts run r.0, r.1)

-- and each thread's moves are a share that its machine asks for
pub is_share : (s : Setup) (m : Machine) (starts : ℕ → m.State) (run : List Happening) (t : ℕ) → IsModuleRun s m starts run → IsShare s m t (starts t) (share_of t run)
is_share s m starts [] t r = tt
is_share s m starts (OfThread u move ∷ run) t r = go (is_share s m starts run t r.0) (u == t) refl
  where
    go : IsShare s m t (starts t) (share_of t run) → (b : Bool) → (u == t) ≡ b → IsShare s m t (starts t) (if b then move ∷ share_of t run else share_of t run)
    go before true e = (before, subst (λ (v : ℕ). IsAsked s m v (starts v) (share_of v run) move) (test_true u t e) r.1.1)
    go before false e = before
is_share s m starts (OfCollector turn ∷ run) t r = is_share s m starts run t r.0

-- ---- without births

in_cells : (r : WordValue) (rs : List WordValue) → IsIn r rs → IsIn r.cell (cells_of rs)
in_cells r [] h = absurd h
in_cells r (q ∷ qs) (inl e) = inl (same_cell e)
in_cells r (q ∷ qs) (inr h) = inr (in_cells r qs h)

found : (k : Option WordKind) (value c : ℕ) → IsTrue (is_reference_kind k) → value ≢ 0 → c ≡ value → IsTrue (is_reference_kind k && (c == value) && not (c == 0))
found k value c h n e = rw (h, e, test_yes value value refl, test_no value 0 n) refl

-- what a move brings, its step gives
pub brings_gains : (s : Setup) (move : Move) (r : WordValue) → Brings s move r → MatchOption (step_of move) ⊥ (λ step. IsTrue (gains s step r.cell))
brings_gains s (ReadsWord base word value) r h = found (kind_of s base.cell word) value.cell r.cell h.1 h.2 (same_cell h.0)
brings_gains s (ReadsOldValue base word value) r h = found (kind_of s base.cell word) value.cell r.cell h.1 h.2 (same_cell h.0)
brings_gains s (Claims q won) r h = rw (h.1, test_yes r.cell q.cell (same_cell h.0)) refl
brings_gains s Works r h = absurd h
brings_gains s GoesWrong r h = absurd h
brings_gains s (Marks q) r h = absurd h
brings_gains s (StoresAfterBarrier base word value) r h = absurd h
brings_gains s (StoresPlain base word value) r h = absurd h
brings_gains s (ReadsPosted stage) r h = absurd h
brings_gains s (StoresStage stage roots) r h = absurd h
brings_gains s (ReadsPostedFirst stage) r h = absurd h
brings_gains s (EntersStage stage) r h = absurd h
brings_gains s (ReadsPostedAgain stage) r h = absurd h

-- and what it leaves, its step leaves
pub leaves_keeps : (move : Move) (r : WordValue) → Leaves move r → MatchOption (step_of move) (Unit {0}) (λ step. Keeps step r.cell)
leaves_keeps (StoresStage stage roots) r h = in_cells r roots h
leaves_keeps Works r h = tt
leaves_keeps GoesWrong r h = tt
leaves_keeps (ReadsWord base word value) r h = tt
leaves_keeps (ReadsOldValue base word value) r h = tt
leaves_keeps (Marks q) r h = tt
leaves_keeps (StoresAfterBarrier base word value) r h = tt
leaves_keeps (StoresPlain base word value) r h = tt
leaves_keeps (Claims q won) r h = tt
leaves_keeps (ReadsPosted stage) r h = tt
leaves_keeps (ReadsPostedFirst stage) r h = tt
leaves_keeps (EntersStage stage) r h = tt
leaves_keeps (ReadsPostedAgain stage) r h = tt

-- the cell of a reference that a share holds is held by its log
pub holds_held : (s : Setup) (share : List Move) (r : WordValue) → Holds s share r → Held s (steps_of share) r.cell
holds_held s [] r h = absurd h
holds_held s (move ∷ share) r (inl b) = go (step_of move) (brings_gains s move r b)
  where
    go : (o : Option Step) → MatchOption o ⊥ (λ step. IsTrue (gains s step r.cell)) → Held s (logged o (steps_of share)) r.cell
    go None x = absurd x
    go (Some step) x = inl x
holds_held s (move ∷ share) r (inr h) = go (holds_held s share r h.1) (step_of move) (leaves_keeps move r h.0)
  where
    go : Held s (steps_of share) r.cell → (o : Option Step) → MatchOption o (Unit {0}) (λ step. Keeps step r.cell) → Held s (logged o (steps_of share)) r.cell
    go before None x = before
    go before (Some step) x = inr (x, before)

-- what a move may touch, its steps may use
pub may_use : (s : Setup) (share : List Move) (r : WordValue) → MayTouch s share r → MayUse s (steps_of share) r.cell
may_use s share r (inl e) = inl (same_cell e)
may_use s share r (inr h) = inr (holds_held s share r h)

-- and what it may put
pub may_store : (s : Setup) (share : List Move) (k : Option WordKind) (value : WordValue) → MayPut s share k value → MayStore s (steps_of share) k value.cell
may_store s share None value h = h
may_store s share (Some (kind.Integer bits)) value h = h
may_store s share (Some (kind.Reference layout)) value (inl z) = inl z
may_store s share (Some (kind.Reference layout)) value (inr h) = inr (holds_held s share value h.0, h.1)

-- and so with all that it may name
pub name_cells : (s : Setup) (share : List Move) (roots : List WordValue) → ((r : WordValue) → IsIn r roots → MayName s share r) → (c : ℕ) → IsIn c (cells_of roots) → MayUse s (steps_of share) c
name_cells s share [] h c x = absurd x
name_cells s share (q ∷ qs) h c (inl e) = go (h q (inl refl))
  where
    go : MayName s share q → MayUse s (steps_of share) c
    go (inl z) = inl (e ∙ z)
    go (inr x) = inr (subst (λ (d : ℕ). Held s (steps_of share) d) (sym e) (holds_held s share q x))
name_cells s share (q ∷ qs) h c (inr x) = name_cells s share qs (λ r y. h r (inr y)) c x

-- the step of a move that obeys the discipline is disciplined
pub disciplined : (s : Setup) (share : List Move) (move : Move) → KeepsTo s share move → MatchOption (step_of move) (Unit {0}) (λ step. IsDisciplined s (steps_of share) step)
disciplined s share Works h = tt
disciplined s share GoesWrong h = tt
disciplined s share (ReadsWord base word value) h = (may_use s share base h.0, h.1)
disciplined s share (ReadsOldValue base word value) h = (may_use s share base h.0, h.1)
disciplined s share (Marks r) h = holds_held s share r h
disciplined s share (StoresAfterBarrier base word value) h = (may_use s share base h.0, h.1, may_store s share (kind_of s base.cell word) value h.2)
disciplined s share (StoresPlain base word value) h = (may_use s share base h.0, h.1, may_store s share (kind_of s base.cell word) value h.2)
disciplined s share (Claims r won) h = tt
disciplined s share (ReadsPosted stage) h = tt
disciplined s share (StoresStage stage roots) h = name_cells s share roots h
disciplined s share (ReadsPostedFirst stage) h = tt
disciplined s share (EntersStage stage) h = tt
disciplined s share (ReadsPostedAgain stage) h = tt

-- ---- possible answers

-- where each answer in the log was possible, each move of the share was
pub possible_share : (s : Setup) (share : List Move) → IsPossibleLog s (steps_of share) → ArePossible s share
possible_share s [] p = tt
possible_share s (move ∷ share) p = go (possible_share s share) (step_of move) p
  where
    go : (IsPossibleLog s (steps_of share) → ArePossible s share) → (o : Option Step) → IsPossibleLog s (logged o (steps_of share))
        → ArePossible s share × MatchOption o (Unit {0}) (λ step. IsPossible s (steps_of share) step)
    go rest None x = (rest x, tt)
    go rest (Some step) x = (rest x.0, x.1)
