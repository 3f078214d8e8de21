-- What is known after the steps of a call.
use Rattle.std.proofs.Common.{◌≡◌, ◌≢◌, ◌⊎◌, inl, inr, ℕ, zero, suc, ◌<◌, Option, Some, None, List, [], ◌∷◌, ◌++◌, Bool, true, false, refl, sym, subst, if◌then◌else◌, arith}
use Rattle.std.specs.Prelude.{IsTrue, MatchBool}
use Rattle.lemmas.specs.Lists.{IsIn}
use Rattle.pools.specs.Heap.{Setup, cells, kind_of}
use Rattle.pools.specs.declared.word_kind.WordKind.{WordKind}
use Rattle.pools.specs.declared.word_kind.WordKind.TheVariants.{Integer, Reference}
use Rattle.pools.specs.Layouts.{is_reference_kind}
use Rattle.colours.specs.Colours.{is_async, done}
use Rattle.colours.specs.Steps.{Step, ReadWord, ReadOldValue, Mark, StoreAfterBarrier, Claim, ReadPosted, StoreStage, ReadPostedFirst, EnterStage, ReadPostedAgain}
use Rattle.colours.specs.Mutator.{MayUse, MayStore, MayFind, IsPossible, IsPossibleLog}
use Rattle.colours.specs.Calls.{marks, marks_of_new}
use Rattle.heap_table.specs.Allocs.{Allocates, lost}
use Rattle.heap_table.specs.Begins.{Begins}
use Rattle.heap_table.specs.Safepoints.{with_marks, before_answer}
use Rattle.heap_table.specs.Writes.{Replaces}
use Rattle.watch.specs.Knows.{Knows}
use Rattle.watch.specs.declared.holdings.Holdings.{Holdings}

-- ---- kinds

-- a word that holds references
pub of_references : (k : Option WordKind) (kind : WordKind) (layout : ℕ) → k ≡ Some kind → kind ≡ Reference layout → is_reference_kind k ≡ true
of_references k kind layout e f = rw e (rw f refl)

-- what may be stored there is a cell of the heap, or null
pub stored_low : (s : Setup) (log : List Step) (kind : WordKind) (layout value : ℕ) → kind ≡ Reference layout → MayStore s log (Some kind) value → value < cells s
stored_low s log kind layout value e may = go (subst (λ (k : WordKind). MayStore s log (Some k) value) e may)
  where
    go : MayStore s log (Some (Reference layout)) value → value < cells s
    go (inl z) = omega (arith, z)
    go (inr is) = is.1.1

-- ---- marks

abbrev pub MarksLeave : Setup → Holdings → Type 0
MarksLeave s x = (log : List Step) (cell : ℕ) → Knows s log x → Knows s (Mark cell ∷ log) x

after_marks : (s : Setup) (x : Holdings) (log : List Step) (cell : ℕ) → MarksLeave s x → Knows s log x → Knows s (marks cell ++ log) x
after_marks s x log zero m k = k
after_marks s x log (suc cell) m k = m log (suc cell) k

after_new : (s : Setup) (x : Holdings) (log : List Step) (new : ℕ) (b : Bool) → MarksLeave s x → Knows s log x → Knows s ((if b then [] else marks new) ++ log) x
after_new s x log new true m k = k
after_new s x log new false m k = after_marks s x log new m k

-- ---- a barriered store

before_it : (s : Setup) (steps log : List Step) → IsPossibleLog s (steps ++ log) → IsPossibleLog s log
before_it s [] log p = p
before_it s (step ∷ steps) log p = before_it s steps log p.0

found_cell : (s : Setup) (log : List Step) (kind : Option WordKind) (value : ℕ) → is_reference_kind kind ≡ true → MayFind s log kind value → value < cells s
found_cell s log None value e f = absurd cc
found_cell s log (Some (Integer bits)) value e f = absurd cc
found_cell s log (Some (Reference layout)) value e (inl z) = omega (arith, z)
found_cell s log (Some (Reference layout)) value e (inr is) = is.0.1

-- a value that was found in a word of references is a cell of the heap, or null
pub found_low : (s : Setup) (log : List Step) (cell word value : ℕ) → IsTrue (is_reference_kind (kind_of s cell word)) → IsPossible s log (ReadWord cell word value) → value < cells s
found_low s log cell word value kind may = found_cell s log (kind_of s cell word) value kind may

-- so is the one that a barriered store replaced
pub replaced_low : (s : Setup) (stage cell word old new : ℕ) (before after : List Step) → IsTrue (is_reference_kind (kind_of s cell word)) → Replaces stage cell word old new before after → IsPossibleLog s after → old < cells s
replaced_low s stage cell word old new before after kind made possible =
    let whole : IsPossibleLog s (StoreAfterBarrier cell word new ∷ (marks_of_new stage new ++ (marks old ++ (ReadOldValue cell word old ∷ before)))) = subst (λ (l : List Step). IsPossibleLog s l) made possible in
    found_cell s before (kind_of s cell word) old kind (before_it s (marks old) (ReadOldValue cell word old ∷ before) (before_it s (marks_of_new stage new) (marks old ++ (ReadOldValue cell word old ∷ before)) whole.0)).1

-- what is known then: x after the read of the old value, y after the store
pub replaced_known : (s : Setup) (x y : Holdings) (stage cell word old new : ℕ) (before after : List Step) → Replaces stage cell word old new before after → MarksLeave s x
    → Knows s (ReadOldValue cell word old ∷ before) x → ((log : List Step) → Knows s log x → Knows s (StoreAfterBarrier cell word new ∷ log) y) → Knows s after y
replaced_known s x y stage cell word old new before after made m k stored =
    subst (λ (l : List Step). Knows s l y) (sym made) (stored _ (after_new s x _ new (is_async stage) m (after_marks s x _ old m k)))

-- ---- an allocation

after_lost : (s : Setup) (x : Holdings) (cells : List ℕ) (log : List Step) → ((l : List Step) (c : ℕ) → Knows s l x → Knows s (Claim c false ∷ l) x) → Knows s log x → Knows s (lost cells ++ log) x
after_lost s x [] log f k = k
after_lost s x (c ∷ cells) log f k = f (lost cells ++ log) c (after_lost s x cells log f k)

pub none_known : (s : Setup) (x : Holdings) (layout result : ℕ) (before after : List Step) → Allocates s layout before result after → result ≡ 0
    → ((l : List Step) (c : ℕ) → Knows s l x → Knows s (Claim c false ∷ l) x) → Knows s before x → Knows s after x
none_known s x layout zero before after a e f k = subst (λ (l : List Step). Knows s l x) (sym a.3) (after_lost s x a.0 before f k)
none_known s x layout (suc n) before after a e f k = absurd (omega (arith, e))

pub won_known : (s : Setup) (x y : Holdings) (layout result : ℕ) (before after : List Step) → Allocates s layout before result after → result ≢ 0
    → ((l : List Step) (c : ℕ) → Knows s l x → Knows s (Claim c false ∷ l) x) → ((l : List Step) → 0 < result → result < cells s → Knows s l x → Knows s (Claim result true ∷ l) y) → Knows s before x → Knows s after y
won_known s x y layout zero before after a n f w k = absurd (n refl)
won_known s x y layout (suc c) before after a n f w k =
    let e : after ≡ Claim (suc c) true ∷ (lost a.0 ++ before) = a.2 in
    subst (λ (l : List Step). Knows s l y) (sym e) (w (lost a.0 ++ before) a.1.0.0 a.1.0.1 (after_lost s x a.0 before f k))

-- ---- an answer

with_known : (s : Setup) (x : Holdings) (roots : List ℕ) (log : List Step) → MarksLeave s x → Knows s log x → Knows s (with_marks roots log) x
with_known s x [] log m k = k
with_known s x (r ∷ rs) log m k = with_known s x rs (marks r ++ log) m (after_marks s x log r m k)

pub answer_known : (s : Setup) (x : Holdings) (posted : ℕ) (roots : List ℕ) (log : List Step) → MarksLeave s x → Knows s log x → Knows s (before_answer posted roots log) x
answer_known s x posted roots log m k = either_known (is_async posted)
  where
    either_known : (b : Bool) → Knows s (if b then with_marks roots log else log) x
    either_known true = with_known s x roots log m k
    either_known false = k

mark_use : (s : Setup) (log : List Step) (r c : ℕ) → MayUse s log c → MayUse s (marks r ++ log) c
mark_use s log zero c u = u
mark_use s log (suc r) c (inl e) = inl e
mark_use s log (suc r) c (inr h) = inr (inr (tt, h))

with_use : (s : Setup) (roots : List ℕ) (log : List Step) (c : ℕ) → MayUse s log c → MayUse s (with_marks roots log) c
with_use s [] log c u = u
with_use s (r ∷ rs) log c u = with_use s rs (marks r ++ log) c (mark_use s log r c u)

answer_use : (s : Setup) (posted : ℕ) (roots : List ℕ) (log : List Step) (c : ℕ) → MayUse s log c → MayUse s (before_answer posted roots log) c
answer_use s posted roots log c u = either_use (is_async posted)
  where
    either_use : (b : Bool) → MayUse s (if b then with_marks roots log else log) c
    either_use true = with_use s roots log c u
    either_use false = u

-- roots that may be used when the posted stage is looked at may be used at the answer
pub owed_use : (s : Setup) (posted : ℕ) (roots : List ℕ) (log : List Step) (c : ℕ) → MayUse s log c → MayUse s (before_answer posted roots (ReadPosted posted ∷ log)) c
owed_use s posted roots log c (inl e) = answer_use s posted roots (ReadPosted posted ∷ log) c (inl e)
owed_use s posted roots log c (inr h) = answer_use s posted roots (ReadPosted posted ∷ log) c (inr (inr (tt, h)))

-- ---- a try to begin

pub begun_known : (s : Setup) (x : Holdings) (before after : List Step) → Begins before true after
    → ((l : List Step) (stage : ℕ) → Knows s l x → Knows s (ReadPostedFirst stage ∷ l) x) → ((l : List Step) (stage : ℕ) → Knows s l x → Knows s (EnterStage stage ∷ l) x) → ((l : List Step) (stage : ℕ) → Knows s l x → Knows s (ReadPostedAgain stage ∷ l) x)
    → Knows s before x → Knows s after x
begun_known s x before after b f e a k = subst (λ (l : List Step). Knows s l x) (sym b.1) (a _ b.0 (e _ b.0 (f before b.0 k)))

pub left_known : (s : Setup) (x y : Holdings) (before after : List Step) → Begins before false after
    → ((l : List Step) (stage : ℕ) → Knows s l x → Knows s (ReadPostedFirst stage ∷ l) x) → ((l : List Step) (stage : ℕ) → Knows s l x → Knows s (EnterStage stage ∷ l) x) → ((l : List Step) (stage : ℕ) → Knows s l x → Knows s (ReadPostedAgain stage ∷ l) x)
    → ((l : List Step) → Knows s l x → Knows s (StoreStage done [] ∷ l) y) → Knows s before x → Knows s after y
left_known s x y before after b f e a d k = subst (λ (l : List Step). Knows s l y) (sym b.1.2) (d _ (a _ b.1.0 (e _ b.0 (f before b.0 k))))
