-- Cells that are tried from a hint on are cells of the pool, each once.
use Rattle.std.proofs.Common.{◌≡◌, ◌≢◌, ◌≤◌, ◌<◌, ◌⊎◌, ◌-◌, inl, inr, ℕ, zero, suc, ◌==◌, Bool, true, false, Option, Some, None, List, [], ◌∷◌, length, sum, slice_index, if◌then◌else◌, nat_lt, min, refl, subst, ◌∙◌, MatchOption, arith}
use Rattle.std.proofs.lemmas.Bool.Decides.{nat_tests}
use Rattle.lemmas.specs.Lists.{IsIn, sum_cons}
use Rattle.lemmas.specs.Numbers.{test_false}
use Rattle.pools.specs.Heap.{Setup, IsOfLayout, layout_of, layout_at, is_late}
use Rattle.colours.specs.Steps.{Step, Claim}
use Rattle.colours.specs.Calls.{AreApart, IsPoolInOrder}
use Rattle.colours.specs.Hints.{pool_by_hint}
use Rattle.colours.specs.Colours.{done}
use Rattle.colours.specs.Mutator.{Phase, Ready, MarkingOld, MarkingNew, Writing, Trying, Answering, Ended, Absent, Arriving, Entering, Leaving, MayTry, stage_of, phase_of}
use Rattle.runs.specs.Machine.{WordValue, Action, Local, Read, StorePlain, Write, Alloc, Safepoint, End, Wrong, Machine}
use Rattle.runs.specs.Moves.{Move, Works, GoesWrong, ReadsWord, ReadsOldValue, Marks, StoresAfterBarrier, StoresPlain, Claims, ReadsPosted, StoresStage, ReadsPostedFirst, EntersStage, ReadsPostedAgain, step_of, steps_of, logged, phase_afterwards, ends_call, answer_of, state_after, old_of, IsOfTry, AsksFor, IsShare}
use Rattle.runs.specs.ModuleRuns.{Happening, share_of}
use Rattle.runs.specs.NextMoves.{next_move, next_move_in, try_of, sight_after, TriesInPool}
use Rattle.runs.specs.Tries.{hint_in, cells_of_pool, by_hint, IsByHint, TriesByHint, HintsInOrder}
use Rattle.runs.specs.Shares.{is_share}
use Rattle.runs.specs.Calls.{phase_with}
use Rattle.runs.specs.NextMoveLemmas.{ends_between}

-- ---- pools

-- a number that counts cells is that of a layout
pub within : (counts : List ℕ) (layout : ℕ) → slice_index counts layout ≢ 0 → layout < length counts
within [] layout n = absurd (n refl)
within (count ∷ counts) zero n = omega arith
within (count ∷ counts) (suc layout) n = let rest = within counts layout n in omega arith

-- a cell's pool has cells
has_cells : (counts : List ℕ) (place : ℕ) → place < sum counts → slice_index counts (layout_at counts place) ≢ 0
has_cells [] place lt = absurd (omega (arith, lt))
has_cells (count ∷ counts) place lt = go (has_cells counts (place - count)) (nat_lt place count) refl
  where
    go : (place - count < sum counts → slice_index counts (layout_at counts (place - count)) ≢ 0) → (b : Bool) → nat_lt place count ≡ b → slice_index (count ∷ counts) (if b then 0 else suc (layout_at counts (place - count))) ≢ 0
    go rest true e = λ z. let lt1 : place < count = grind (arith, nat_tests) in absurd (omega (arith, z, lt1))
    go rest false e =
        let ge : count ≤ place = grind (arith, nat_tests) in
        let parts = sum_cons count counts in
        rest (omega (arith, ge, parts, lt))

-- ---- cells in an order

-- the cell at a place of a list is in it
at-among : (cells : List ℕ) (k : ℕ) → k < length cells → IsIn (slice_index cells k) cells
at-among [] k lt = absurd (omega (arith, lt))
at-among (cell ∷ cells) zero lt = inl refl
at-among (cell ∷ cells) (suc k) lt = inr (at-among cells k (omega (arith, lt)))

-- two places of a list whose cells are apart hold two cells
at-apart : (cells : List ℕ) (k j : ℕ) → AreApart cells → k < j → j < length cells → slice_index cells j ≢ slice_index cells k
at-apart [] k j apart lt within = absurd (omega (arith, within))
at-apart (cell ∷ cells) zero zero apart lt within = absurd (omega (arith, lt))
at-apart (cell ∷ cells) zero (suc j) apart lt within = λ e. apart.0 (subst (λ c. IsIn c cells) e (at-among cells j (omega (arith, within))))
at-apart (cell ∷ cells) (suc k) zero apart lt within = absurd (omega (arith, lt))
at-apart (cell ∷ cells) (suc k) (suc j) apart lt within = at-apart cells k j apart.1 (omega (arith, lt)) (omega (arith, within))

-- the cells of a pool by a hint are those of the pool, each once
in_order : (s : Setup) (layout hint : ℕ) → layout < length s.pools → IsPoolInOrder s layout (cells_of_pool s layout hint)
in_order s layout hint lt = pool_by_hint s layout (min hint (slice_index s.pools layout)) lt (omega arith)

-- one of them is a cell of the layout
pub of_order : (s : Setup) (layout hint k : ℕ) → k < slice_index s.pools layout → IsOfLayout s layout (slice_index (cells_of_pool s layout hint) k)
of_order s layout hint k few =
    let pool = in_order s layout hint (within s.pools layout (λ z. omega (arith, few, z))) in
    let all = pool.all in
    pool.of_layout (slice_index (cells_of_pool s layout hint) k) (at-among (cells_of_pool s layout hint) k (omega (arith, few, all)))

-- ---- what was tried

-- the cell tried last is of the layout
abbrev pub IsLast : Setup → (layout : ℕ) → List ℕ → Type 0
IsLast s layout [] = ⊥
IsLast s layout (last ∷ tried) = layout_of s last ≡ layout

-- the cell is at one of the first places of the order, this number of them
abbrev pub IsBefore : (cells : List ℕ) → (count cell : ℕ) → Type 0
IsBefore cells count cell = (k : ℕ) × (k < count) × (cell ≡ slice_index cells k)

-- cells are left, those that were tried come first in the order, and they are of the layout
pub record TriedSo (s : Setup) (layout hint : ℕ) (tried : List ℕ) : Type 0 where
  pub few : length tried < slice_index s.pools layout
  pub before : (c : ℕ) → IsIn c tried → IsBefore (cells_of_pool s layout hint) (length tried) c
  pub last : IsLast s layout tried

-- the same, by the phase of a thread after its log
abbrev pub StandsSo : Setup → List Step → Action → Phase → Type 0
StandsSo s log action Ready = Unit {0}
StandsSo s log action (MarkingOld c i o) = Unit {0}
StandsSo s log action (MarkingNew c i o) = Unit {0}
StandsSo s log action (Writing c i o n) = Unit {0}
StandsSo s log action (Answering next marked) = Unit {0}
StandsSo s log action Ended = Unit {0}
StandsSo s log action Absent = Unit {0}
StandsSo s log action (Arriving posted) = Unit {0}
StandsSo s log action Entering = Unit {0}
StandsSo s log action Leaving = Unit {0}
StandsSo s log (Alloc layout) (Trying tried) = TriedSo s layout (hint_in s layout log) tried
StandsSo s log action (Trying tried) = ⊥

-- after one more lost try of a call
lost : (s : Setup) (log : List Step) (layout : ℕ) (tried : List ℕ) (cell : ℕ) → IsOfLayout s layout cell → cell ≡ by_hint s log layout tried
    → ((c : ℕ) → IsIn c tried → IsBefore (cells_of_pool s layout (hint_in s layout log)) (length tried) c) → length tried < slice_index s.pools layout
    → StandsSo s (Claim cell false ∷ log) (Alloc layout) (if length (cell ∷ tried) == slice_index s.pools (layout_of s cell) then Ready else Trying (cell ∷ tried))
lost s log layout tried cell o e before few = go (length (cell ∷ tried) == slice_index s.pools (layout_of s cell)) refl
  where
    sooner : (c : ℕ) → IsIn c (cell ∷ tried) → IsBefore (cells_of_pool s layout (hint_in s layout log)) (length (cell ∷ tried)) c
    sooner c (inl x) = (length tried, omega arith, x ∙ e)
    sooner c (inr x) = let b = before c x in let lt = b.1 in (b.0, omega (arith, lt), b.2)

    go : (z : Bool) → (length (cell ∷ tried) == slice_index s.pools (layout_of s cell)) ≡ z → StandsSo s (Claim cell false ∷ log) (Alloc layout) (if z then Ready else Trying (cell ∷ tried))
    go true x = tt
    go false x =
        let other : length (cell ∷ tried) ≢ slice_index s.pools layout = subst (λ (l : ℕ). length (cell ∷ tried) ≢ slice_index s.pools l) o.2 (test_false _ _ x) in
        record { few = omega (arith, few, other); before = sooner; last = o.2 }

-- the pool of a cell is not empty
pub some_cell : (s : Setup) (layout cell : ℕ) → IsOfLayout s layout cell → 0 < slice_index s.pools layout
unfolding layout_of
some_cell s layout cell o =
    let some : slice_index s.pools layout ≢ 0 = subst (λ (l : ℕ). slice_index s.pools l ≢ 0) o.2 (has_cells s.pools (cell - 1) (omega (arith, o.0, o.1))) in
    omega (arith, some)

stands_at : (s : Setup) (log : List Step) (stage : ℕ) (roots : List WordValue) (old : WordValue) (action : Action) (phase : Phase) (move : Move) → AsksFor s roots old action phase move → IsByHint s log action phase move
    → StandsSo s log action phase → StandsSo s (logged (step_of move) log) action (phase_afterwards s stage phase (step_of move))
stands_at s log stage roots old Local Ready Works a l f = tt
stands_at s log stage roots old Wrong Ready GoesWrong a l f = tt
stands_at s log stage roots old (Read base word) Ready (ReadsWord b w v) a l f = tt
stands_at s log stage roots old (StorePlain base word value) Ready (StoresPlain b w v) a l f = tt
stands_at s log stage roots old (Write base word value) Ready (ReadsOldValue b w v) a l f = go (v.cell == 0)
  where
    go : (z : Bool) → StandsSo s [] (Write base word value) (if z then MarkingNew b.cell w v.cell else MarkingOld b.cell w v.cell)
    go true = tt
    go false = tt
stands_at s log stage roots old (Write base word value) (MarkingOld c i o) (Marks r) a l f = tt
stands_at s log stage roots old (Write base word value) (MarkingNew c i o) (Marks r) a l f = tt
stands_at s log stage roots old (Write base word value) (MarkingNew c i o) (StoresAfterBarrier b w v) a l f = tt
stands_at s log stage roots old (Write base word value) (Writing c i o n) (StoresAfterBarrier b w v) a l f = tt
stands_at s log stage roots old (Alloc layout) Ready Works a l f = tt
stands_at s log stage roots old (Alloc layout) Ready (Claims r true) a l f = tt
stands_at s log stage roots old (Alloc layout) Ready (Claims r false) a l f = lost s log layout [] r.cell a l (λ c x. absurd x) (some_cell s layout r.cell a)
stands_at s log stage roots old (Alloc layout) (Trying tried) (Claims r true) a l f = tt
stands_at s log stage roots old (Alloc layout) (Trying tried) (Claims r false) a l f = lost s log layout tried r.cell a l f.before f.few
stands_at s log stage roots old Safepoint Ready (ReadsPosted posted) a l f = go (posted == stage)
  where
    go : (z : Bool) → StandsSo s [] Safepoint (if z then Ready else Answering posted [])
    go true = tt
    go false = tt
stands_at s log stage roots old Safepoint (Answering next marked) (Marks r) a l f = tt
stands_at s log stage roots old Safepoint (Answering next marked) (StoresStage to rs) a l f = go (to == done)
  where
    go : (z : Bool) → StandsSo s [] Safepoint (if z then Ended else Ready)
    go true = tt
    go false = tt
stands_at s log stage roots old End Ready (StoresStage to rs) a l f = go (to == done)
  where
    go : (z : Bool) → StandsSo s [] End (if z then Ended else Ready)
    go true = tt
    go false = tt
stands_at s log stage roots old action phase move a l f = absurd a

stands_try : (s : Setup) (log : List Step) (stage : ℕ) (action : Action) (phase : Phase) (move : Move) → IsOfTry phase move → StandsSo s log action (phase_afterwards s stage phase (step_of move))
stands_try s log stage action Absent (ReadsPostedFirst posted) a = tt
stands_try s log stage action (Arriving posted) (EntersStage next) a = tt
stands_try s log stage action Entering (ReadsPostedAgain posted) a = go (posted == stage)
  where
    go : (z : Bool) → StandsSo s log action (if z then Ready else Leaving)
    go true = tt
    go false = tt
stands_try s log stage action Leaving (StoresStage to rs) a = tt
stands_try s log stage action phase move a = absurd a

stands_between : (s : Setup) (log : List Step) (m : Machine) (state next : m.State) (move : Move) (phase : Phase) → StandsSo s log (m.action state) phase → StandsSo s log (m.action (if ends_call move phase then next else state)) phase
stands_between s log m state next move Ready f = tt
stands_between s log m state next move (MarkingOld c i o) f = tt
stands_between s log m state next move (MarkingNew c i o) f = tt
stands_between s log m state next move (Writing c i o n) f = tt
stands_between s log m state next move (Answering posted marked) f = tt
stands_between s log m state next move Ended f = tt
stands_between s log m state next move Absent f = tt
stands_between s log m state next move (Arriving posted) f = tt
stands_between s log m state next move Entering f = tt
stands_between s log m state next move Leaving f = tt
stands_between s log m state next move (Trying tried) f = rw (ends_between move (Trying tried) refl) f

-- after each share that goes by its hints
pub stands_so : (s : Setup) (m : Machine) (t : ℕ) (start : m.State) (share : List Move) → IsShare s m t start share → TriesByHint s m t start share
    → StandsSo s (steps_of share) (m.action (state_after s m t start share)) (phase_of s t (steps_of share))
stands_so s m t start [] h l = go (is_late s t)
  where
    go : (b : Bool) → StandsSo s [] (m.action start) (if b then Absent else Ready)
    go true = tt
    go false = tt
stands_so s m t start (move ∷ share) h l =
    stands_between s (steps_of (move ∷ share)) m state (m.after_answer state (answer_of (m.action state) move)) move (phase_of s t (steps_of (move ∷ share)))
    (subst (λ (next : Phase). StandsSo s (steps_of (move ∷ share)) (m.action state) next) (phase_with s t (steps_of share) (step_of move)) (go (stands_so s m t start share h.0 l.0) h.1.1))
  where
    state : m.State
    state = state_after s m t start share

    stage : ℕ
    stage = stage_of (steps_of share)

    phase : Phase
    phase = phase_of s t (steps_of share)

    go : StandsSo s (steps_of share) (m.action state) phase → IsOfTry phase move ⊎ AsksFor s (m.roots state) (old_of share) (m.action state) phase move → StandsSo s (steps_of (move ∷ share)) (m.action state) (phase_afterwards s stage phase (step_of move))
    go f (inl a) = stands_try s (steps_of (move ∷ share)) stage (m.action state) phase move a
    go f (inr a) = stands_at s (steps_of share) stage (m.roots state) (old_of share) (m.action state) phase move a l.1 f

-- ---- the next try

tries_in_pool : (s : Setup) (run : List Happening) (log : List Step) (action : Action) (phase : Phase) → StandsSo s log action phase → TriesInPool s (sight_after s run (by_hint s log)) action phase
tries_in_pool s run log (Alloc layout) Ready f = λ some. let o = of_order s layout (hint_in s layout log) 0 (omega (arith, some)) in ((o.0, o.1), o)
tries_in_pool s run log (Alloc layout) (Trying tried) f = (may tried f, of_order s layout (hint_in s layout log) (length tried) f.few)
  where
    may : (tried : List ℕ) → TriedSo s layout (hint_in s layout log) tried → MayTry s tried (by_hint s log layout tried)
    may [] g = absurd g.last
    may (last ∷ tried) g = (
      rw g.last (of_order s layout (hint_in s layout log) (length (last ∷ tried)) g.few),
      λ a.
          let few = g.few in
          let pool = in_order s layout (hint_in s layout log) (within s.pools layout (λ z. omega (arith, few, z))) in
          let all = pool.all in
          let b = g.before (by_hint s log layout (last ∷ tried)) a in
          at-apart (cells_of_pool s layout (hint_in s layout log)) b.0 (length (last ∷ tried)) pool.apart b.1 (omega (arith, few, all)) b.2,
    )
tries_in_pool s run log action phase f = tt

every : (P : Move → Type 0) → ((move : Move) → P move) → (o : Option Move) → MatchOption o (Unit {0}) P
every P f None = tt
every P f (Some move) = f move

next_by_hint : (s : Setup) (run : List Happening) (log : List Step) (stage : ℕ) (roots : List WordValue) (old : WordValue) (action : Action) (phase : Phase)
    → MatchOption (next_move s (sight_after s run (by_hint s log)) stage roots old action phase) (Unit {0}) (IsByHint s log action phase)
next_by_hint s run log stage roots old (Alloc layout) Ready = go (slice_index s.pools layout == 0)
  where
    go : (z : Bool) → IsByHint s log (Alloc layout) Ready (if z then Works else try_of (sight_after s run (by_hint s log)) ((sight_after s run (by_hint s log)).claim layout []))
    go true = tt
    go false = refl
next_by_hint s run log stage roots old (Alloc layout) (Trying tried) = refl
next_by_hint s run log stage roots old (Alloc layout) (MarkingOld c i o) = tt
next_by_hint s run log stage roots old (Alloc layout) (MarkingNew c i o) = tt
next_by_hint s run log stage roots old (Alloc layout) (Writing c i o n) = tt
next_by_hint s run log stage roots old (Alloc layout) (Answering next marked) = tt
next_by_hint s run log stage roots old (Alloc layout) Ended = tt
next_by_hint s run log stage roots old (Alloc layout) Absent = tt
next_by_hint s run log stage roots old (Alloc layout) (Arriving posted) = tt
next_by_hint s run log stage roots old (Alloc layout) Entering = tt
next_by_hint s run log stage roots old (Alloc layout) Leaving = tt
next_by_hint s run log stage roots old Local phase = every (IsByHint s log Local phase) (λ move. tt) (next_move s (sight_after s run (by_hint s log)) stage roots old Local phase)
next_by_hint s run log stage roots old Wrong phase = every (IsByHint s log Wrong phase) (λ move. tt) (next_move s (sight_after s run (by_hint s log)) stage roots old Wrong phase)
next_by_hint s run log stage roots old End phase = every (IsByHint s log End phase) (λ move. tt) (next_move s (sight_after s run (by_hint s log)) stage roots old End phase)
next_by_hint s run log stage roots old Safepoint phase = every (IsByHint s log Safepoint phase) (λ move. tt) (next_move s (sight_after s run (by_hint s log)) stage roots old Safepoint phase)
next_by_hint s run log stage roots old (Read base word) phase = every (IsByHint s log (Read base word) phase) (λ move. tt) (next_move s (sight_after s run (by_hint s log)) stage roots old (Read base word) phase)
next_by_hint s run log stage roots old (StorePlain base word value) phase = every (IsByHint s log (StorePlain base word value) phase) (λ move. tt) (next_move s (sight_after s run (by_hint s log)) stage roots old (StorePlain base word value) phase)
next_by_hint s run log stage roots old (Write base word value) phase = every (IsByHint s log (Write base word value) phase) (λ move. tt) (next_move s (sight_after s run (by_hint s log)) stage roots old (Write base word value) phase)

-- so that order goes on
pub keeps_order : (s : Setup) (m : Machine) → HintsInOrder s m
keeps_order s m starts run t r l = record {
  in_pool = tries_in_pool s run (steps_of share) (m.action state) (phase_of s t (steps_of share)) (stands_so s m t (starts t) share (is_share s m starts run t r) l);
  next = joined (next_move_in s m starts run (sight_after s run (by_hint s (steps_of share))) t)
      (next_by_hint s run (steps_of share) (stage_of (steps_of share)) (m.roots state) (old_of share) (m.action state) (phase_of s t (steps_of share)));
}
  where
    share : List Move
    share = share_of t run

    state : m.State
    state = state_after s m t (starts t) share

    joined : (o : Option Move) → MatchOption o (Unit {0}) (IsByHint s (steps_of share) (m.action state) (phase_of s t (steps_of share))) → MatchOption o (Unit {0}) (λ move. TriesByHint s m t (starts t) (move ∷ share))
    joined None x = tt
    joined (Some move) x = (l, x)
