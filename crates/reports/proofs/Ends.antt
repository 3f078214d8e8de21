-- The text of the elements before a place, and of one more.
use Rattle.std.proofs.Common.{◌≡◌, ℕ, zero, suc, ◌+◌, List, [], ◌∷◌, ◌++◌, Some, take, slice_get, unwrap_or, sym, ap, ◌∙◌, append_assoc, append-nil, arith}
use Rattle.std.specs.List.{enumerate_from, flat_map}

-- counted from some number: the text of the elements before a place and that of the element there are the text of those before the next place
text_from : {X : Type 0} (f : ℕ × X → List ℕ) (n : ℕ) (xs : List X) (i : ℕ) (x : X) → slice_get xs i ≡ Some x
    → flat_map f (enumerate_from n (take (suc i) xs)) ≡ flat_map f (enumerate_from n (take i xs)) ++ f (n + i, x)
text_from f n [] i x e = absurd cc
text_from f n (first ∷ xs) zero x e =
    let same : first ≡ x = ap (λ o. unwrap_or o first) e in
    let there : n ≡ n + 0 = omega arith in
    append-nil (f (n, first)) ∙ ap (λ k. f (k, first)) there ∙ ap (λ y. f (n + 0, y)) same
text_from f n (first ∷ xs) (suc i) x e =
    let more = flat_map f (enumerate_from (n + 1) (take i xs)) in
    let there : n + 1 + i ≡ n + suc i = omega arith in
    ap (λ l. f (n, first) ++ l) (text_from f (n + 1) xs i x e) ∙ ap (λ k. f (n, first) ++ (more ++ f (k, x))) there ∙ sym (append_assoc (f (n, first)) more (f (n + suc i, x)))

-- and counted from 0
pub text_next : {X : Type 0} (f : ℕ × X → List ℕ) (xs : List X) (i : ℕ) (x : X) → slice_get xs i ≡ Some x
    → flat_map f (enumerate_from 0 (take (i + 1) xs)) ≡ flat_map f (enumerate_from 0 (take i xs)) ++ f (i, x)
text_next f xs i x e =
    let there : 0 + i ≡ i = omega arith in
    let next : i + 1 ≡ suc i = omega arith in
    ap (λ k. flat_map f (enumerate_from 0 (take k xs))) next ∙ text_from f 0 xs i x e ∙ ap (λ k. flat_map f (enumerate_from 0 (take i xs)) ++ f (k, x)) there
