-- A list that ends with what the elements of another one refer to.
use Rattle.std.proofs.Common.{◌≡◌, ◌<◌, ◌+◌, ◌++◌, ◌==◌, ◌&&◌, ℕ, true, List, [], ◌∷◌, Some, slice_get, get_or, length, take, drop, map, refl, sym, ap, ◌∙◌, arith}
use Rattle.std.proofs.lemmas.List.{map-append, take_more, length-append, length-map}
use Rattle.std.proofs.lemmas.Option.{get_or_from_slice_get, slice_get_within, slice_get-map, slice_get_read}
use Rattle.std.proofs.Math.Seq.{drop-append_seam}
use Rattle.std.specs.Option.{option_map}
use Rattle.lemmas.specs.Numbers.{test_true, test_yes}
use Rattle.lemmas.specs.Bools.{and_parts}
use Rattle.runs.specs.Machine.{WordValue}

-- references whose cells and births are the same are one
pub one_reference : (a b : WordValue) → (a.cell == b.cell) && (a.birth == b.birth) ≡ true → a ≡ b
one_reference a b e =
    let parts = and_parts (a.cell == b.cell) (a.birth == b.birth) e in
    let whole : WordValue → WordValue = λ r. r in
    ap (λ n. whole (record { cell = n; birth = a.birth })) (test_true a.cell b.cell parts.0) ∙ ap (λ n. whole (record { cell = b.cell; birth = n })) (test_true a.birth b.birth parts.1)

-- and one reference has one cell and one birth
pub same_parts : (a b : WordValue) → a ≡ b → (a.cell == b.cell) && (a.birth == b.birth) ≡ true
same_parts a b e = rw (test_yes a.cell b.cell (ap (λ (r : WordValue). r.cell) e), test_yes a.birth b.birth (ap (λ (r : WordValue). r.birth) e)) refl

module _ {X R : Type 0} (names : X → R) where
  -- with one element more
  pub one_more : (own : List X) (last : List R) (n : ℕ) (x : X) (r : R) → n < length last → slice_get own n ≡ Some x → r ≡ get_or last n r → names x ≡ r
      → take n last ≡ map names (take n own) → take (n + 1) last ≡ map names (take (n + 1) own)
  one_more own last n x r lt is at same before =
      take_more last n r lt
      ∙ ap (λ l. l ++ get_or last n r ∷ []) before
      ∙ ap (λ y. map names (take n own) ++ y ∷ []) (sym at ∙ sym same ∙ ap names (sym (get_or_from_slice_get own n x x is)))
      ∙ sym (map-append names (take n own) (get_or own n x ∷ []))
      ∙ ap (map names) (sym (take_more own n x (slice_get_within own n x is)))

  -- its end is what they refer to
  ends_with : (own : List X) (roots before : List R) (start : ℕ) → start + length own ≡ length roots → roots ≡ before ++ map names own → drop start roots ≡ map names own
  ends_with own roots before start count is = go start at
    where
      at : start ≡ length before
      at = let long = ap length is ∙ length-append before (map names own) in let mapped : length (map names own) ≡ length own = length-map own names in omega (arith, long, mapped, count)

      go : (n : ℕ) → n ≡ length before → drop n roots ≡ map names own
      go n e = ap (λ k. drop k roots) e ∙ ap (drop (length before)) is ∙ drop-append_seam before (map names own)

  -- so each element of the end is what its own refers to
  pub named_at : (own : List X) (roots before : List R) (start n : ℕ) (x : X) (r : R) → start + length own ≡ length roots → slice_get own n ≡ Some x → n < length (drop start roots) → r ≡ get_or (drop start roots) n r
      → roots ≡ before ++ map names own → names x ≡ r
  named_at own roots before start n x r count is lt at whole =
      let here : slice_get (drop start roots) n ≡ Some r = slice_get_read (drop start roots) (length (drop start roots)) n r refl lt at in
      let there : slice_get (map names own) n ≡ Some (names x) = slice_get-map names own n ∙ ap (option_map names) is in
      let both : Some (names x) ≡ Some r = sym there ∙ ap (λ l. slice_get l n) (sym (ends_with own roots before start count whole)) ∙ here in
      cc
