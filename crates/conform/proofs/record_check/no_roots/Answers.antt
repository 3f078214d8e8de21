use Rattle.std.proofs.Common.{ℕ, ◌≡◌, ◌∷◌, ◌+◌, List, [], ◌++◌, Some, length, length-append, inl, inr, arith, refl, sym, ap, subst, ◌∙◌}
use Rattle.std.specs.Prelude.{slice_get}
use Rattle.lemmas.specs.Lists.{get_either}
use Rattle.conform.proofs.Records.{none_named}
use Rattle.conform.proofs.record_check.no_roots.Goals as goal

pub loop-thread-init : goal.loop-thread-init
loop-thread-init c = subst (λ (l : List (List ℕ)). (length l ≡ 0) × ((t : ℕ) (x : List ℕ) → slice_get l t ≡ Some x → x ≡ [])) (sym c.new-roots.ensures.items) (refl, λ t x e. absurd cc)

pub loop-thread-preserved : goal.loop-thread-preserved
loop-thread-preserved c = let i = c.loop-thread.invariant in let l = i.0 in let old = c.loop-thread.roots.items in let new = c.new.result in
    let e = c.in_ok-push.ensures.items in
    subst (λ (l : List (List ℕ)). (length l ≡ c.loop-thread._thread + 1) × ((t : ℕ) (x : List ℕ) → slice_get l t ≡ Some x → x ≡ [])) (sym e)
    (length-append old (new ∷ []) ∙ omega (arith, l), λ t x got. elim (get_either old new t x got) [ inl before ↦ i.1 t x before | inr here ↦ here.1 ∙ c.new.ensures ])

pub returns : goal.returns
returns c = λ s same. let i = c.loop-thread.invariant in let l = i.0 in none_named s c.args.threads c.loop-thread.roots.items same (omega (arith, l, c.loop-thread-test.false, c.loop-thread.auto._thread-end)) i.1
