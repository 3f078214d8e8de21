-- A name is found by its hash, and is kept as names are added.
use Rattle.std.proofs.Common.{◌≡◌, ◌<◌, ◌≤◌, ◌^◌, ◌-◌, arith, ℕ, length, suc, List, [], ◌∷◌, ◌++◌, refl, sym, ap, subst, inl, inr, ◌∙◌, true, false, Bool, Option, Some, None, slice_get}
use Rattle.std.specs.Prelude.{if◌then◌else◌, take, drop, IfSome}
use Rattle.std.specs.List.{AllByRecursion}
use Rattle.std.specs.Str.{bytes_eq}
use Rattle.std.proofs.lemmas.List.{drop-append-le, take-append-le, length-drop, length-append, take_all}
use Rattle.std.proofs.Math.Seq.{drop-append_seam}
use Rattle.std.proofs.lemmas.List.Quantifiers.{position-Some}
use Rattle.std.proofs.lemmas.Option.{slice_get-get_or}
use Rattle.std.proofs.lemmas.Slice.Eq.{bytes_eq-Decides}
use Rattle.lemmas.specs.All.{all_join}
use Rattle.lemmas.specs.Lists.{get_either, IsIn}
use Rattle.ir_ast.specs.Names.{place_of}
use Rattle.ir_ast.specs.Places.{map-push, map-length}
use Rattle.ir_ast.specs.Links.{hash_by, text_of, texts_of, listed, IsWithin, is_text, first_named, AreListed, AreDistinct, AreNames}
use Rattle.ir_ast.specs.declared.hash_key.HashKey.{HashKey}
use Rattle.ir_ast.specs.declared.links.Links.{Links}
use Rattle.ir_ast.proofs.Chains.{length_more}
use Rattle.ir_ast.specs.declared.links.Span.{Span}
use Rattle.ir_ast.proofs.HintsStay.{stays, here}

same : (xs ys : List ℕ) → bytes_eq xs ys ≡ true → xs ≡ ys
same xs ys e = (bytes_eq-Decides xs ys).0 e

itself : (xs : List ℕ) → bytes_eq xs xs ≡ true
itself xs = (bytes_eq-Decides xs xs).1 refl

-- ---- the first of the numbers

first_is : (text : List ℕ) (names : List (List ℕ)) (numbers : List ℕ) (m : ℕ) → first_named text names numbers ≡ Some m → is_text text (slice_get names m) ≡ true
first_is text names [] m e = absurd cc
first_is text names (n ∷ rest) m e = pick (is_text text (slice_get names n)) refl (first_is text names rest m) e where
  pick : (b : Bool) → is_text text (slice_get names n) ≡ b → (first_named text names rest ≡ Some m → is_text text (slice_get names m) ≡ true) → (if b then Some n else first_named text names rest) ≡ Some m → is_text text (slice_get names m) ≡ true
  pick true is later e = let at : n ≡ m = cc in subst (λ x. is_text text (slice_get names x) ≡ true) at is
  pick false is later e = later e

first_none : (text : List ℕ) (names : List (List ℕ)) (numbers : List ℕ) (m : ℕ) → first_named text names numbers ≡ None → IsIn m numbers → is_text text (slice_get names m) ≡ false
first_none text names [] m e one = absurd one
first_none text names (n ∷ rest) m e one = pick (is_text text (slice_get names n)) refl (first_none text names rest m) e where
  pick : (b : Bool) → is_text text (slice_get names n) ≡ b → (first_named text names rest ≡ None → IsIn m rest → is_text text (slice_get names m) ≡ false) → (if b then Some n else first_named text names rest) ≡ None → is_text text (slice_get names m) ≡ false
  pick true is later e = absurd cc
  pick false is later e = elim one [ inl at ↦ subst (λ x. is_text text (slice_get names x) ≡ false) (sym at) is | inr there ↦ later e there ]

module _ (text : List ℕ) (names : List (List ℕ)) (numbers : List ℕ) (distinct : AreDistinct names) (lists : (m : ℕ) → slice_get names m ≡ Some text → IsIn m numbers) where
  found_place : (m : ℕ) → first_named text names numbers ≡ Some m → place_of text names ≡ Some m
  found_place m e = pick (slice_get names m) refl (first_is text names numbers m e) where
    pick : (found : Option (List ℕ)) → slice_get names m ≡ found → is_text text found ≡ true → place_of text names ≡ Some m
    pick None at is = absurd cc
    pick (Some name) at is = subst (λ x. place_of x names ≡ Some m) (sym (same text name is)) (distinct m name at)

  no_place : first_named text names numbers ≡ None → place_of text names ≡ None
  no_place e = pick (place_of text names) refl where
    pick : (found : Option ℕ) → place_of text names ≡ found → found ≡ None
    pick None at = refl
    pick (Some m) at =
        let there = position-Some (bytes_eq text) names m [] at in
        let got = slice_get-get_or names m [] there.0 in
        let is = same text _ there.1 in
        let named : slice_get names m ≡ Some text = got ∙ ap Some (sym is) in
        let no = sym (ap (is_text text) named) ∙ first_none text names numbers m e (lists m named) in
        let yes = itself text in absurd cc

  -- what is found is the place
  pub first_place : first_named text names numbers ≡ place_of text names
  first_place = pick (first_named text names numbers) refl where
    pick : (found : Option ℕ) → first_named text names numbers ≡ found → found ≡ place_of text names
    pick None e = sym (no_place e)
    pick (Some m) e = sym (found_place m e)

-- a place is below a limit of the names
pub place_below : (text : List ℕ) (names : List (List ℕ)) (limit : ℕ) (found : Option ℕ) → found ≡ place_of text names → length names ≤ limit → IfSome found (λ n. n < limit)
place_below text names limit None e le = tt
place_below text names limit (Some n) e le = let there = position-Some (bytes_eq text) names n [] (sym e) in omega (arith, there.0, le)

-- ---- one name more

pub distinct_more : (names : List (List ℕ)) (text : List ℕ) → AreDistinct names → place_of text names ≡ None → AreDistinct (names ++ text ∷ [])
distinct_more names text distinct none m name at = elim (get_either names text m name at) [
  | inl was ↦ stays (bytes_eq name) names text m (distinct m name was)
  | inr is ↦ subst (λ n. place_of name (names ++ text ∷ []) ≡ Some n) (sym is.0) (subst (λ x. place_of x (names ++ text ∷ []) ≡ Some (length names)) (sym is.1) (here (bytes_eq text) names text none (itself text)))
]

-- ---- bytes that are added

module _ (bytes more : List ℕ) where
  text_kept : (span : Span) → IsWithin bytes span → text_of (bytes ++ more) span ≡ text_of bytes span
  text_kept span within =
      let first : span.start ≤ length bytes = omega (arith, within.0, within.1) in
      let long : span.end - span.start ≤ length (drop span.start bytes) = rw length-drop (omega (arith, within.0, within.1)) in
      ap (take (span.end - span.start)) (drop-append-le span.start bytes more first) ∙ take-append-le (span.end - span.start) (drop span.start bytes) more long

  pub texts_kept : (spans : List Span) → AllByRecursion (IsWithin bytes) spans → texts_of (bytes ++ more) spans ≡ texts_of bytes spans
  texts_kept [] within = refl
  texts_kept (span ∷ rest) within = rw (text_kept span within.0, texts_kept rest within.1) refl

  pub within_kept : (spans : List Span) → AllByRecursion (IsWithin bytes) spans → AllByRecursion (IsWithin (bytes ++ more)) spans
  within_kept [] within = tt
  within_kept (span ∷ rest) within = ((within.0.0, rw length-append (omega (arith, within.0.1))), within_kept rest within.1)

-- ---- a text that is added to the bytes

module _ (bytes text : List ℕ) (spans : List Span) (span : Span) (starts : span.start ≡ length bytes) (ends : span.end ≡ length (bytes ++ text)) where
  text_there : text_of (bytes ++ text) span ≡ text
  text_there =
      let long = length-append bytes text in
      ap (λ n. take (span.end - n) (drop n (bytes ++ text))) starts ∙ ap (take (span.end - length bytes)) (drop-append_seam bytes text) ∙ take_all (span.end - length bytes) text (omega (arith, ends, long))

  pub texts_more : AllByRecursion (IsWithin bytes) spans → texts_of (bytes ++ text) (spans ++ span ∷ []) ≡ texts_of bytes spans ++ text ∷ []
  texts_more within =
      map-push (text_of (bytes ++ text)) spans span ∙ ap (λ (ts : List (List ℕ)). ts ++ text_of (bytes ++ text) span ∷ []) (texts_kept bytes text spans within)
      ∙ ap (λ t. texts_of bytes spans ++ t ∷ []) text_there

  within_more : AllByRecursion (IsWithin bytes) spans → AllByRecursion (IsWithin (bytes ++ text)) (spans ++ span ∷ [])
  within_more within =
      let long = length-append bytes text in
      all_join (IsWithin (bytes ++ text)) spans (span ∷ []) (within_kept bytes text spans within) ((omega (arith, starts, ends, long), omega (arith, ends)), tt)

  module _ (room after : Links) (hash : ℕ) (key : after.key ≡ room.key) (hashed : hash ≡ hash_by room.key text) (kept : (other u : ℕ) → IsIn u (listed room.heads.items room.befores.items other) → IsIn u (listed after.heads.items after.befores.items other))
      (added : IsIn (length spans) (listed after.heads.items after.befores.items hash)) where
    listed_more : AreListed room (texts_of bytes spans) → AreListed after (texts_of bytes spans ++ text ∷ [])
    listed_more lists number name at = subst (λ (k : HashKey). IsIn number (listed after.heads.items after.befores.items (hash_by k name))) (sym key) (elim (get_either (texts_of bytes spans) text number name at) [
      | inl was ↦ kept (hash_by room.key name) number (lists number name was)
      | inr is ↦ subst (λ x. IsIn number (listed after.heads.items after.befores.items (hash_by room.key x))) (sym is.1)
          (subst (λ n. IsIn n (listed after.heads.items after.befores.items (hash_by room.key text))) (sym (is.0 ∙ map-length (text_of bytes) spans)) (subst (λ h. IsIn (length spans) (listed after.heads.items after.befores.items h)) hashed added))
    ])

    -- the table with one name more
    pub names_more : (old : Links) → AreNames bytes spans old → place_of text (texts_of bytes spans) ≡ None → AreListed room (texts_of bytes spans) → length after.befores.items ≡ suc (length spans) → length spans < 2 ^ 32
        → AreNames (bytes ++ text) (spans ++ span ∷ []) after
    names_more old were none lists one_more below = record {
      within = within_more were.within;
      one_each = one_more ∙ sym (length_more spans span);
      listed = subst (AreListed after) (sym (texts_more were.within)) (listed_more lists);
      distinct = subst AreDistinct (sym (texts_more were.within)) (distinct_more (texts_of bytes spans) text were.distinct none);
      limit = rw (length_more spans span) (omega (arith, below));
    }
