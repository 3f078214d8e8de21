-- Answers that are put in their places.
use Rattle.std.proofs.Common.{◌≡◌, ◌≢◌, ◌<◌, ◌≤◌, ◌⊎◌, inl, inr, ◌==◌, ℕ, Bool, true, false, List, [], ◌∷◌, slice_get, Option, Some, None, refl, ap, sym, subst, ◌∙◌, eqb-true, eq-eqb, ◌+◌, ◌++◌, zero, suc, length, arith}
use Rattle.std.specs.Prelude.{slice_set}
use Rattle.std.proofs.lemmas.List.{length-append}
use Rattle.certs.specs.declared.section.Section.{Section}
use Rattle.layout.specs.Layouts.{LaidOut}
use Rattle.block_rules.specs.declared.block_fault.Refusal.{Refusal}
use Rattle.answers.specs.Answers.{IsAnswer}
use Rattle.answers.specs.Edited.{AreAnswersToFirst, put_answer, put_first}
use Rattle.std.proofs.lemmas.List.{length-set}
use Rattle.lemmas.specs.Lists.{get_some, set_is, set_other}
use Rattle.answers.proofs.Lists.{one_more}

-- there are as many
pub length_put : (funcs : List ℕ) (anew answers : List (Option Refusal)) (count : ℕ) → length (put_first funcs anew answers count) ≡ length answers
length_put funcs anew answers zero = refl
length_put funcs anew answers (suc count) = by (slice_get funcs count) (slice_get anew count) (length_put funcs anew answers count)
  where
    by : (func : Option ℕ) (answer : Option (Option Refusal)) → length (put_first funcs anew answers count) ≡ length answers → length (put_answer func answer (put_first funcs anew answers count)) ≡ length answers
    by None answer same = same
    by (Some func) None same = same
    by (Some func) (Some answer) same = length-set (put_first funcs anew answers count) func answer ∙ same

-- an answer is one that was put in its place, or the one that was there, and then none was put there
abbrev pub IsPutAt : (funcs : List ℕ) (anew answers : List (Option Refusal)) (count func : ℕ) → Option Refusal → Type 0
IsPutAt funcs anew answers count func answer =
    ((place : ℕ) × (slice_get funcs place ≡ Some func) × (slice_get anew place ≡ Some answer))
    ⊎ ((slice_get answers func ≡ Some answer) × ((place : ℕ) → place < count → slice_get funcs place ≡ Some func → ⊥))

-- where none is put there in the next step, it is as before
module _ (funcs : List ℕ) (anew answers : List (Option Refusal)) (count func : ℕ) (answer : Option Refusal) where
  as_before : IsPutAt funcs anew answers count func answer → (slice_get funcs count ≡ Some func → ⊥) → IsPutAt funcs anew answers (suc count) func answer
  as_before (inl h) other = inl h
  as_before (inr h) other = inr (h.0, missed)
    where
      missed : (place : ℕ) → place < suc count → slice_get funcs place ≡ Some func → ⊥
      missed place less at = by (place == count) refl
        where
          by : (b : Bool) → (place == count) ≡ b → ⊥
          by true e = other (subst (λ n. slice_get funcs n ≡ Some func) (eqb-true place count e) at)
          by false e =
              let differs : place ≢ count = λ h. let t = eq-eqb place count h in absurd cc in
              h.1 place (omega (arith, less, differs)) at

pub put_at : (funcs : List ℕ) (anew answers : List (Option Refusal)) (count func : ℕ) (answer : Option Refusal) → count ≤ length anew → slice_get (put_first funcs anew answers count) func ≡ Some answer
    → IsPutAt funcs anew answers count func answer
put_at funcs anew answers zero func answer few at = inr (at, λ place less is. absurd (omega (arith, less)))
put_at funcs anew answers (suc count) func answer few at = by (slice_get funcs count) refl (slice_get anew count) refl at (put_at funcs anew answers count func answer (omega (arith, few)))
  where
    by : (f : Option ℕ) → slice_get funcs count ≡ f → (x : Option (Option Refusal)) → slice_get anew count ≡ x → slice_get (put_answer f x (put_first funcs anew answers count)) func ≡ Some answer
        → (slice_get (put_first funcs anew answers count) func ≡ Some answer → IsPutAt funcs anew answers count func answer) → IsPutAt funcs anew answers (suc count) func answer
    by None none x is was earlier = as_before funcs anew answers count func answer (earlier was) (λ h. absurd cc)
    by (Some f) some None none was earlier = let there = get_some anew count (omega (arith, few)) in absurd (let t = there.1 in cc)
    by (Some f) some (Some x) is was earlier = here (func == f) refl
      where
        here : (b : Bool) → (func == f) ≡ b → IsPutAt funcs anew answers (suc count) func answer
        here true e =
            let same : func ≡ f = eqb-true func f e in
            let put : x ≡ answer = set_is (put_first funcs anew answers count) f x answer (subst (λ n. slice_get (slice_set (put_first funcs anew answers count) f x) n ≡ Some answer) same was) in
            inl (count, some ∙ ap Some (sym same), is ∙ ap Some put)
        here false e =
            let differs : func ≢ f = λ h. let t = eq-eqb func f h in absurd cc in
            as_before funcs anew answers count func answer (earlier (sym (set_other (put_first funcs anew answers count) f func x differs) ∙ was)) (λ h. let one : f ≡ func = cc in absurd (differs (sym one)))

-- ---- one answer more

pub answers_to_more : (program : LaidOut) (certs : List Section) (funcs : List ℕ) (answers more : List (Option Refusal)) (n func : ℕ) (answer : Option Refusal) → more ≡ answers ++ answer ∷ [] → length answers ≡ n
    → AreAnswersToFirst program certs funcs answers → slice_get funcs n ≡ Some func → IsAnswer program certs func answer → (length more ≡ n + 1) × AreAnswersToFirst program certs funcs more
answers_to_more program certs funcs answers more n func answer grown count so_far at here =
    let IsOne = λ (place : ℕ) (x : Option Refusal). (g : ℕ) → slice_get funcs place ≡ Some g → IsAnswer program certs g x in
    let last : IsOne (length answers) answer = subst (λ k. IsOne k answer) (sym count) (λ g is. let same : func ≡ g = cc in subst (λ k. IsAnswer program certs k answer) same here) in
    let longer = length-append answers (answer ∷ []) in (
      ap length grown ∙ omega (arith, longer, count),
      λ place g x is found. one_more IsOne answers answer (λ k y h g i. so_far k g y i h) last place x (subst (λ xs. slice_get xs place ≡ Some x) grown found) g is,
    )
