-- What a safepoint logs and returns.
use Rattle.std.specs.Prelude.{◌^◌, ◌<◌, ◌≢◌, Bool, MatchBool, if◌then◌else◌}
use Rattle.std.proofs.Common.{ℕ, zero, suc, ◌==◌, ◌≡◌, false, List, [], ◌∷◌, ◌++◌, reverse, sym, ap, ◌∙◌, append-nil, arith}
use Rattle.std.proofs.lemmas.Grind.{reverse_onto}
use Rattle.std.proofs.lemmas.List.{append_assoc}
use Rattle.lemmas.specs.Numbers.{test_no}
use Rattle.colours.specs.Colours.{is_async, done}
use Rattle.colours.specs.Steps.{Step, ReadPosted, StoreStage}
use Rattle.colours.specs.Mutator.{Answering, non_null, stage_of, phase_of}
use Rattle.colours.specs.Calls.{marks}
use Rattle.heap_words.specs.Tokens.{Shared}
use Rattle.heap_table.specs.Holders.{Holder, IsOf}

-- the log with the marks of these roots, in their order
abbrev pub with_marks : List ℕ → List Step → List Step
with_marks [] log = log
with_marks (root ∷ roots) log = with_marks roots (marks root ++ log)

-- the log before the answer: at an async stage it has the marks of the roots
abbrev pub before_answer : (posted : ℕ) → List ℕ → List Step → List Step
before_answer posted roots log = if is_async posted then with_marks roots log else log

-- the posted stage was read, and answered if it is another than the own one
abbrev pub Responds : (stage : ℕ) → (roots : List ℕ) → (before : List Step) → (answered : Bool) → (after : List Step) → Type 0
Responds stage roots before answered after = (posted : ℕ) × MatchBool answered
    ((posted ≢ stage) × (after ≡ StoreStage posted roots ∷ before_answer posted roots (ReadPosted posted ∷ before)))
    ((posted ≡ stage) × (after ≡ ReadPosted posted ∷ before))

-- the thread read another stage than its own, and has not begun to answer it
pub record OwesAnswer (heap : Shared) (token : Holder) (posted : ℕ) : Type 0 where
  pub of : IsOf heap token
  pub phase : phase_of token.setup token.thread token.log ≡ Answering posted []
  pub running : stage_of token.log ≢ done
  pub low : posted < 2 ^ 62

-- ---- the roots that an answer names

-- the marks, the newest first
abbrev pub pushed : List ℕ → List ℕ → List ℕ
pushed [] marked = marked
pushed (zero ∷ roots) marked = pushed roots marked
pushed (suc r ∷ roots) marked = pushed roots (suc r ∷ marked)

-- they are the roots that are not null, in their order
pub turned : (roots marked : List ℕ) → reverse (pushed roots marked) ≡ reverse marked ++ non_null roots
turned [] marked = sym (append-nil (reverse marked))
turned (zero ∷ roots) marked = turned roots marked
turned (suc r ∷ roots) marked = let no : (suc r == 0) ≡ false = test_no (suc r) 0 (λ e. omega arith) in rw no (turned roots (suc r ∷ marked) ∙ (ap (λ (l : List ℕ). l ++ non_null roots) (reverse_onto marked (suc r) []) ∙ append_assoc (reverse marked) (suc r ∷ []) (non_null roots)))
