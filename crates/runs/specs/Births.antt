-- The births that a thread's references have are those with which the heap gave it the cells.
use Rattle.std.proofs.Common.{◌≡◌, ℕ, ◌==◌, true, false, List, ◌∷◌, if◌then◌else◌, refl, sym, ◌∙◌, subst, IsTrue}
use Rattle.lemmas.specs.Numbers.{test_yes, test_no}
use Rattle.pools.specs.Heap.{Setup}
use Rattle.colours.specs.Steps.{Step, ReadWord, ReadOldValue, Mark, StoreAfterBarrier, StorePlain, Claim, ReadPosted, StoreStage, ReadPostedFirst, EnterStage, ReadPostedAgain}
use Rattle.colours.specs.Mutator.{Held, gains, IsPossible}
use Rattle.colours.specs.Runs.{Event, ByThread, log_of, births_after, given, puts, value_put, IsAlive, IsHeapRun, held}
use Rattle.runs.specs.Promises.{HeapLaw}

own_log : (t : ℕ) (step : Step) (h : List Event) → log_of t (ByThread t step ∷ h) ≡ step ∷ log_of t h
own_log t step h = rw (test_yes t t refl) refl

-- only a claim gives a cell another birth, and what is held isn't claimed
same_birth_of : (s : Setup) (h : List Event) (t : ℕ) (step : Step) (c : ℕ) → IsPossible s (log_of t h) step → Held s (log_of t h) c
    → (births_after s (ByThread t step ∷ h)).of_cell c ≡ (births_after s h).of_cell c
unfolding births_after
same_birth_of s h t (Claim cell true) c p x = rw (test_no c cell (λ e. p (subst (λ (d : ℕ). Held s (log_of t h) d) e x))) refl
same_birth_of s h t (Claim cell false) c p x = refl
same_birth_of s h t (ReadWord cell word value) c p x = refl
same_birth_of s h t (ReadOldValue cell word value) c p x = refl
same_birth_of s h t (Mark cell) c p x = refl
same_birth_of s h t (StoreAfterBarrier cell word value) c p x = refl
same_birth_of s h t (StorePlain cell word value) c p x = refl
same_birth_of s h t (ReadPosted stage) c p x = refl
same_birth_of s h t (StoreStage stage roots) c p x = refl
same_birth_of s h t (ReadPostedFirst stage) c p x = refl
same_birth_of s h t (EnterStage stage) c p x = refl
same_birth_of s h t (ReadPostedAgain stage) c p x = refl

-- what was held, and is, keeps its birth
pub birth_stays : (s : Setup) → HeapLaw s → (h : List Event) (t : ℕ) (step : Step) → IsHeapRun s (ByThread t step ∷ h) → IsHeapRun s h → (c : ℕ)
    → Held s (log_of t h) c → Held s (step ∷ log_of t h) c → (births_after s (ByThread t step ∷ h)).with_thread t c ≡ (births_after s h).with_thread t c
birth_stays s law h t step next run c x y =
    let now : IsAlive s h c ((births_after s h).with_thread t c) = law.kept h run c _ (held t c x) in
    let y1 : Held s (log_of t (ByThread t step ∷ h)) c = subst (λ (log : List Step). Held s log c) (sym (own_log t step h)) y in
    let later : IsAlive s (ByThread t step ∷ h) c ((births_after s (ByThread t step ∷ h)).with_thread t c) = law.kept (ByThread t step ∷ h) next c _ (held t c y1) in
    sym later.same_birth ∙ same_birth_of s h t step c (law.answered h t step next) x ∙ now.same_birth

-- what a step gives has the birth that it was given
pub birth_given : (s : Setup) (h : List Event) (t : ℕ) (step : Step) (c : ℕ) → IsTrue (gains s step c)
    → (births_after s (ByThread t step ∷ h)).with_thread t c ≡ given (births_after s h) step c
unfolding births_after
birth_given s h t step c g = rw (test_yes t t refl, g) refl

-- and another thread's step changes nothing
pub birth_elsewhere : (s : Setup) (h : List Event) (t u : ℕ) (step : Step) (c : ℕ) → (t == u) ≡ false
    → (births_after s (ByThread t step ∷ h)).with_thread u c ≡ (births_after s h).with_thread u c
unfolding births_after
birth_elsewhere s h t u step c e = rw e refl

-- the birth in a word is that of what was put there, or what it was
pub word_birth_left : (s : Setup) (h : List Event) (t : ℕ) (step : Step) (c i : ℕ)
    → (births_after s (ByThread t step ∷ h)).in_word c i ≡ (if puts step c i then (births_after s h).with_thread t (value_put step) else (births_after s h).in_word c i)
unfolding births_after
word_birth_left s h t step c i = refl
