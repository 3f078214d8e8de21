-- The tests of the next step say what the order says.
use Rattle.std.proofs.Common.{◌≡◌, ◌≢◌, ◌⊎◌, inl, inr, ℕ, zero, suc, ◌+◌, ◌<◌, ◌≤◌, ◌==◌, ◌&&◌, ◌||◌, not, nat_lt, Bool, true, false, List, [], ◌∷◌, ◌++◌, length, refl, sym, ap, ◌∙◌, subst, if◌then◌else◌, arith, IsTrue, drop, get_or, add-one, drop-cons}
use Rattle.std.specs.Prelude.{◌↔◌, reverse, IsFalse}
use Rattle.std.proofs.lemmas.List.{reverse-reverse, reverse-append}
use Rattle.lemmas.specs.Numbers.{test_true, test_false, test_yes, test_no, lt_true, lt_false, lt_yes, lt_no}
use Rattle.lemmas.specs.Bools.{yes_or_no, and_parts, and_true, not_true, not_false}
use Rattle.lemmas.specs.Lists.{IsIn, in_either}
use Rattle.pools.specs.Heap.{Setup, cells, layout_of, IsOfLayout}
use Rattle.colours.specs.Colours.{is_async, done}
use Rattle.colours.specs.Steps.{Step, ReadWord, ReadOldValue, Mark, StoreAfterBarrier, StorePlain, Claim, ReadPosted, StoreStage, ReadPostedFirst, EnterStage, ReadPostedAgain}
use Rattle.colours.specs.Mutator as order
use Rattle.colours.specs.Mutator.{MayFollow, MayTry, non_null, stage_of, phase_of}
use Rattle.watch.specs.CellSets.{has}
use Rattle.thread_order.specs.declared.at.At.{At}
use Rattle.thread_order.specs.declared.at.At.TheVariants.{Ready, MarkingOld, MarkingNew, Writing, Trying, Answering, Ended, Absent, Arriving, Entering, Leaving}
use Rattle.thread_order.specs.Marks.{are_marked}
use Rattle.thread_order.specs.Standings.{Standing, phase_at, HasTried, IsInPhase}
use Rattle.thread_order.specs.Follows.{is_none, is_cell, may_try, may_follow}
use Rattle.thread_order.specs.Orders.{Stands}

-- ---- tests on numbers

eq_test : (a b : ℕ) → IsTrue (a == b) ↔ (a ≡ b)
eq_test a b = (test_true a b, test_yes a b)

ne_test : (a b : ℕ) → IsTrue (not (a == b)) ↔ (a ≢ b)
ne_test a b = (λ t. test_false a b (not_true (a == b) t), λ n. rw (test_no a b n) refl)

false_test : (b : Bool) → IsTrue (not b) ↔ IsFalse b
false_test true = (λ t. absurd cc, λ f. absurd cc)
false_test false = (λ t. refl, λ f. refl)

both_test : (a b : Bool) (P Q : Type 0) → IsTrue a ↔ P → IsTrue b ↔ Q → IsTrue (a && b) ↔ (P × Q)
both_test a b P Q f g = (λ t. let k = and_parts a b t in (f.0 k.0, g.0 k.1), λ x. and_true a b (f.1 x.0) (g.1 x.1))

three_test : (a b c : Bool) (P Q R : Type 0) → IsTrue a ↔ P → IsTrue b ↔ Q → IsTrue c ↔ R → IsTrue (a && (b && c)) ↔ (P × Q × R)
three_test a b c P Q R f g h = (λ t. let k = and_parts a (b && c) t in let l = and_parts b c k.1 in (f.0 k.0, g.0 l.0, h.0 l.1), λ x. and_true a (b && c) (f.1 x.0) (and_true b c (g.1 x.1) (h.1 x.2)))

-- a test that matters only where another one fails
unless_test : (a b : Bool) (P : Type 0) → IsTrue b ↔ P → IsTrue (a || b) ↔ (IsFalse a → P)
unless_test true b P f = (λ t e. absurd cc, λ g. refl)
unless_test false b P f = (λ t e. f.0 t, λ g. f.1 (g refl))

-- or where it holds
where_test : (a b : Bool) (P : Type 0) → IsTrue b ↔ P → IsTrue (not a || b) ↔ (IsTrue a → P)
where_test true b P f = (λ t e. f.0 t, λ g. f.1 (g refl))
where_test false b P f = (λ t e. absurd cc, λ g. refl)

never : IsTrue false ↔ ⊥
never = (λ e. absurd cc, λ x. absurd x)

always : IsTrue true ↔ Unit {0}
always = (λ e. tt, λ x. refl)

-- ---- tests on lists

none_test : (roots : List ℕ) → IsTrue (is_none roots) ↔ (roots ≡ [])
none_test [] = (λ t. refl, λ e. refl)
none_test (root ∷ roots) = (λ t. absurd cc, λ e. absurd cc)

marked_test : (marked roots : List ℕ) → IsTrue (are_marked marked roots) ↔ (marked ≡ non_null roots)
marked_test [] [] = (λ t. refl, λ e. refl)
marked_test (mark ∷ marked) [] = (λ t. absurd cc, λ e. absurd cc)
marked_test [] (root ∷ roots) = elim (yes_or_no (root == 0)) [
  | inl z ↦ rw z (marked_test [] roots)
  | inr n ↦ rw n (λ t. absurd cc, λ e. absurd cc)
]
marked_test (mark ∷ marked) (root ∷ roots) = elim (yes_or_no (root == 0)) [
  | inl z ↦ rw z (marked_test (mark ∷ marked) roots)
  | inr n ↦ let k = marked_test marked roots in rw n (
    λ t. let p = and_parts (mark == root) (are_marked marked roots) t in let e : mark ≡ root = test_true _ _ p.0 in let f : marked ≡ non_null roots = k.0 p.1 in cc,
    λ e. let a : mark ≡ root = cc in let b : marked ≡ non_null roots = cc in and_true _ _ (test_yes _ _ a) (k.1 b),
  )
]

cell_test : (s : Setup) (cell : ℕ) → IsTrue (is_cell s cell) ↔ ((0 < cell) × (cell < cells s))
cell_test s cell = both_test (nat_lt 0 cell) (nat_lt cell (cells s)) (0 < cell) (cell < cells s) (lt_true 0 cell, lt_yes 0 cell) (lt_true cell (cells s), lt_yes cell (cells s))

-- ---- the next step

try_test : (v : Standing) (tried : List ℕ) (cell : ℕ) → HasTried v tried → IsTrue (may_try v cell) ↔ MayTry v.heap tried cell
try_test v [] cell h = absurd (h.some refl)
try_test v (last ∷ tried) cell h = let same : layout_of v.heap last ≡ v.pool = h.pool last (inl refl) in (
  λ t. let a = and_parts (is_cell v.heap cell) _ t in let b = and_parts (layout_of v.heap cell == v.pool) _ a.1 in let k = (cell_test v.heap cell).0 a.0 in
      ((k.0, k.1, test_true _ _ b.0 ∙ sym same), λ (is : IsIn cell (last ∷ tried)). absurd (let e : has v.is_tried cell ≡ true = (h.set cell).1 is in let f : has v.is_tried cell ≡ false = not_true _ b.1 in cc)),
  λ m. and_true _ _ ((cell_test v.heap cell).1 (m.0.0, m.0.1)) (and_true _ _ (test_yes _ _ (m.0.2 ∙ same)) (untried (has v.is_tried cell) (λ e. m.1 ((h.set cell).0 e)))),
)
  where
    untried : (b : Bool) → (b ≡ true → ⊥) → not b ≡ true
    untried true n = absurd (n refl)
    untried false n = refl

abbrev pub Tells : Standing → At → order.Phase → Step → Type 0
Tells v at phase step = IsTrue (may_follow v at step) ↔ MayFollow v.heap v.stage phase step

first_tells : (v : Standing) (step : Step) → Tells v Ready order.Ready step
first_tells v (ReadWord cell word value) = always
first_tells v (ReadOldValue cell word value) = always
first_tells v (StorePlain cell word value) = always
first_tells v (Claim cell won) = cell_test v.heap cell
first_tells v (ReadPosted posted) = always
first_tells v (StoreStage next roots) = both_test _ _ _ _ (eq_test next done) (none_test roots)
first_tells v (Mark c) = never
first_tells v (StoreAfterBarrier c w value) = never
first_tells v (ReadPostedFirst posted) = never
first_tells v (EnterStage next) = never
first_tells v (ReadPostedAgain posted) = never

old_tells : (v : Standing) (cell word old : ℕ) (step : Step) → Tells v (MarkingOld cell word old) (order.MarkingOld cell word old) step
old_tells v cell word old (Mark c) = eq_test c old
old_tells v cell word old _ = never

new_tells : (v : Standing) (cell word old : ℕ) (step : Step) → Tells v (MarkingNew cell word old) (order.MarkingNew cell word old) step
new_tells v cell word old (Mark c) = both_test _ _ _ _ (false_test (is_async v.stage)) (ne_test c 0)
new_tells v cell word old (StoreAfterBarrier c w value) = three_test _ _ _ _ _ _ (eq_test c cell) (eq_test w word) (unless_test (is_async v.stage) (value == 0) (value ≡ 0) (eq_test value 0))
new_tells v cell word old _ = never

write_tells : (v : Standing) (cell word old new : ℕ) (step : Step) → Tells v (Writing cell word old new) (order.Writing cell word old new) step
write_tells v cell word old new (StoreAfterBarrier c w value) = three_test _ _ _ _ _ _ (eq_test c cell) (eq_test w word) (eq_test value new)
write_tells v cell word old new _ = never

try_tells : (v : Standing) (tried : List ℕ) → HasTried v tried → (step : Step) → Tells v Trying (order.Trying tried) step
try_tells v tried h (Claim cell won) = try_test v tried cell h
try_tells v tried h _ = never

answer_tells : (v : Standing) (stage : ℕ) (step : Step) → Tells v (Answering stage) (order.Answering stage (reverse v.marked)) step
answer_tells v stage (Mark c) = both_test _ _ _ _ (refl_test (is_async stage)) (ne_test c 0)
  where
    refl_test : (b : Bool) → IsTrue b ↔ IsTrue b
    refl_test b = (λ t. t, λ t. t)
answer_tells v stage (StoreStage to roots) = both_test _ _ _ _ (eq_test to stage) (where_test (is_async stage) (are_marked v.marked roots) _ (subst (λ (l : List ℕ). IsTrue (are_marked v.marked roots) ↔ (l ≡ non_null roots)) (sym (reverse-reverse v.marked)) (marked_test v.marked roots)))
answer_tells v stage _ = never

absent_tells : (v : Standing) (step : Step) → Tells v Absent order.Absent step
absent_tells v (ReadPostedFirst posted) = always
absent_tells v _ = never

arriving_tells : (v : Standing) (stage : ℕ) (step : Step) → Tells v (Arriving stage) (order.Arriving stage) step
arriving_tells v stage (EnterStage next) = eq_test next stage
arriving_tells v stage _ = never

entering_tells : (v : Standing) (step : Step) → Tells v Entering order.Entering step
entering_tells v (ReadPostedAgain posted) = always
entering_tells v _ = never

leaving_tells : (v : Standing) (step : Step) → Tells v Leaving order.Leaving step
leaving_tells v (StoreStage next roots) = both_test _ _ _ _ (eq_test next done) (none_test roots)
leaving_tells v _ = never

ended_tells : (v : Standing) (step : Step) → Tells v Ended order.Ended step
ended_tells v _ = never

at_tells : (v : Standing) (at : At) (phase : order.Phase) (step : Step) → IsInPhase v at phase → Tells v at phase step
at_tells v Ready phase step e = rw e (first_tells v step)
at_tells v (MarkingOld cell word old) phase step e = rw e (old_tells v cell word old step)
at_tells v (MarkingNew cell word old) phase step e = rw e (new_tells v cell word old step)
at_tells v (Writing cell word old new) phase step e = rw e (write_tells v cell word old new step)
at_tells v Trying phase step e = rw (e.1) (try_tells v e.0 e.2 step)
at_tells v (Answering stage) phase step e = rw e (answer_tells v stage step)
at_tells v Ended phase step e = rw e (ended_tells v step)
at_tells v Absent phase step e = rw e (absent_tells v step)
at_tells v (Arriving stage) phase step e = rw e (arriving_tells v stage step)
at_tells v Entering phase step e = rw e (entering_tells v step)
at_tells v Leaving phase step e = rw e (leaving_tells v step)

-- what the test says of each log that led here
pub tells : (v : Standing) (step : Step) (s : Setup) (thread : ℕ) (log : List Step) → Stands s thread log v → IsTrue (may_follow v v.at step) ↔ MayFollow s (stage_of log) (phase_of s thread log) step
tells v step s thread log st = subst (λ x. IsTrue (may_follow v v.at step) ↔ MayFollow x (stage_of log) (phase_of s thread log) step) st.heap (subst (λ x. IsTrue (may_follow v v.at step) ↔ MayFollow v.heap x (phase_of s thread log) step) st.stage (at_tells v v.at (phase_of s thread log) step st.phase))

-- ---- the marks, one root after another

pub root_next : (left rest marked roots : List ℕ) (i : ℕ) → i < length roots → are_marked left (drop i roots) ≡ are_marked marked roots → are_marked left (get_or roots i 0 ∷ drop (i + 1) roots) ≡ are_marked rest (drop (i + 1) roots)
    → are_marked rest (drop (i + 1) roots) ≡ are_marked marked roots
root_next left rest marked roots i lt inv step = sym step ∙ (ap (are_marked left) (let k : drop i roots ≡ get_or roots i 0 ∷ drop (suc i) roots = drop-cons roots i 0 lt in rw add-one (sym k)) ∙ inv)

pub root_none : (left marked roots : List ℕ) (i : ℕ) → i < length roots → are_marked left (drop i roots) ≡ are_marked marked roots → are_marked left (get_or roots i 0 ∷ drop (i + 1) roots) ≡ false → false ≡ are_marked marked roots
root_none left marked roots i lt inv step = sym step ∙ (ap (are_marked left) (let k : drop i roots ≡ get_or roots i 0 ∷ drop (suc i) roots = drop-cons roots i 0 lt in rw add-one (sym k)) ∙ inv)

no_more : (left : List ℕ) → are_marked left [] ≡ is_none left
no_more [] = refl
no_more (x ∷ left) = refl

pub roots_end : (left marked roots : List ℕ) (i : ℕ) → length roots ≤ i → are_marked left (drop i roots) ≡ are_marked marked roots → is_none left ≡ are_marked marked roots
roots_end left marked roots i le inv = sym (no_more left) ∙ (ap (are_marked left) (sym (drop-past roots i le)) ∙ inv)
  where
    drop-past : (xs : List ℕ) (i : ℕ) → length xs ≤ i → drop i xs ≡ []
    drop-past [] zero le = refl
    drop-past [] (suc i) le = refl
    drop-past (x ∷ xs) zero le = absurd (omega arith)
    drop-past (x ∷ xs) (suc i) le = drop-past xs i (omega arith)

pub zero_root : (marked : List ℕ) (root : ℕ) (more : List ℕ) → root ≡ 0 → are_marked marked (root ∷ more) ≡ are_marked marked more
zero_root [] root more e = rw (test_yes root 0 e) refl
zero_root (x ∷ marked) root more e = rw (test_yes root 0 e) refl

pub empty_test : (xs : List ℕ) → (length xs == 0) ≡ is_none xs
empty_test [] = refl
empty_test (x ∷ xs) = test_no (suc (length xs)) 0 (λ (e : suc (length xs) ≡ 0). omega (arith, e))
