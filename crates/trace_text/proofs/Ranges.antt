-- Texts of the numbers below a bound, one after the other.
use Rattle.std.proofs.Common.{◌≡◌, ℕ, List, [], ◌++◌, ◌+◌, ap, sym, ◌∙◌, arith, append_assoc}
use Rattle.std.specs.List.{flat_map, range_with_len}
use Rattle.std.proofs.lemmas.List.{flat_map_more}
use Rattle.std.proofs.lemmas.List.Folds.{flat_map-map}
use Rattle.std.specs.Prelude.{map}
use Rattle.std.proofs.lemmas.List.FromFn.{map-range_with_len_more}

-- a list of texts as one
abbrev joined : List (List ℕ) → List ℕ
joined = flat_map (λ text. text)

-- the text of the next number comes after those of the others
pub one_more_text : (f : ℕ → List ℕ) (out : List ℕ) (n : ℕ) → out ++ flat_map f (range_with_len 0 (n + 1)) ≡ (out ++ flat_map f (range_with_len 0 n)) ++ f n
one_more_text f out n =
    let texts : flat_map f (range_with_len 0 (n + 1)) ≡ flat_map f (range_with_len 0 n) ++ f n =
    sym (flat_map-map (λ (text : List ℕ). text) f (range_with_len 0 (n + 1)))
    ∙ ap joined (map-range_with_len_more f 0 n n (omega arith))
    ∙ sym (flat_map_more (λ (text : List ℕ). text) [] (map f (range_with_len 0 n)) (f n))
    ∙ ap (λ (text : List ℕ). text ++ f n) (flat_map-map (λ (text : List ℕ). text) f (range_with_len 0 n)) in
    ap (λ (text : List ℕ). out ++ text) texts ∙ sym (append_assoc out (flat_map f (range_with_len 0 n)) (f n))
