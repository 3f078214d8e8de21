-- The local names of a function while it is read: which of them are defined, as what, and that each is defined once.
use Rattle.std.proofs.Common.{◌≡◌, ℕ, zero, suc, ◌+◌, ◌<◌, ◌^◌, true, false, List, [], ◌∷◌, ◌++◌, length, map, slice_get, if◌then◌else◌, is_some, unwrap_or, get_or, Option, None, Some, refl, sym, ap, subst, ◌∙◌, arith, length-append, inl, inr, ◌⊎◌}
use Rattle.lemmas.specs.Lists.{in_first, in_longer, IsIn, get_either}
use Rattle.std.specs.Prelude.{slice_set}
use Rattle.std.specs.Fmt.{decimal}
use Rattle.std.proofs.lemmas.List.{map-append}
use Rattle.std.proofs.lemmas.Option.{slice_get-get_or, slice_get_within}
use Rattle.ir_ast.specs.Names.{place_of}
use Rattle.ir_ast.specs.declared.function.LocalSort.{LocalSort}
use Rattle.ir_ast.specs.declared.function.LocalSort.TheVariants as local
use Rattle.ir_forms.specs.Table.{mentioned, sorts_with}
use Rattle.ir_forms.specs.declared.table.Table.{Table}
use Rattle.ir_forms.specs.Names.{is_local}
use Rattle.ir_tokens.specs.Bytes.{Text}
use Rattle.ir_print.specs.Names.{name_at}
use Rattle.ir_print_law.proofs.DefinedNames.{Defines, IsNameKey, defines_name, defines_number, number_is_new}
use Rattle.ir_print_law.proofs.Reading.{Progress, with_named_value}
use Rattle.ir_print_law.proofs.Tables.{Begins, begins_with, stays, place_there, place_stays}

-- ---- lists

pub in_map : {A B : Type 0} (h : A → B) (xs : List A) (y : B) → IsIn y (map h xs) → (x : A) × IsIn x xs × (h x ≡ y)
in_map h [] y e = absurd e
in_map h (x ∷ xs) y (inl e) = (x, inl refl, sym e)
in_map h (x ∷ xs) y (inr e) = let p = in_map h xs y e in (p.0, inr p.1, p.2)

pub set_known : (xs : List LocalSort) (n : ℕ) (y : LocalSort) (k : ℕ) → is_local (Some y) ≡ true → is_local (slice_get xs k) ≡ true → is_local (slice_get (slice_set xs n y) k) ≡ true
set_known [] n y k is e = e
set_known (z ∷ xs) zero y zero is e = is
set_known (z ∷ xs) zero y (suc k) is e = e
set_known (z ∷ xs) (suc n) y zero is e = e
set_known (z ∷ xs) (suc n) y (suc k) is e = set_known xs n y k is e

more_known : (xs : List LocalSort) (y : LocalSort) (k : ℕ) → is_local (slice_get xs k) ≡ true → is_local (slice_get (xs ++ y ∷ []) k) ≡ true
more_known [] y k e = absurd cc
more_known (z ∷ xs) y zero e = e
more_known (z ∷ xs) y (suc k) e = more_known xs y k e

-- names that were there stay
pub name_stays : (names more : List Text) (n : ℕ) → n < length names → Begins names more → name_at more n ≡ name_at names n
name_stays names more n less b =
    let here = slice_get-get_or names n [] less in
    ap (λ (x : Option Text). unwrap_or x []) (stays names more n (get_or names n []) b here) ∙ sym (ap (λ (x : Option Text). unwrap_or x []) here)

pub names_stay : (ns : List ℕ) (names more : List Text) → ((n : ℕ) → IsIn n ns → n < length names) → Begins names more → map (name_at more) ns ≡ map (name_at names) ns
names_stay [] names more within b = refl
names_stay (n ∷ ns) names more within b =
    let e = name_stays names more n (within n (inl refl)) b in
    let r = names_stay ns names more (λ k h. within k (inr h)) b in
    ap (λ (x : Text). x ∷ map (name_at more) ns) e ∙ ap (λ (l : List Text). name_at names n ∷ l) r

-- ---- the table

-- what a name means is defined
abbrev pub IsSortOf : Progress → ℕ → LocalSort → Type 0
IsSortOf g n local.Unknown = Unit {0}
IsSortOf g n (local.Value t) = IsIn n g.values
IsSortOf g n (local.Slot held) = IsIn n g.values
IsSortOf g n (local.Element block place) = IsIn n g.values
IsSortOf g n (local.Block b) = slice_get g.labels b ≡ Some n

-- the keys of the names with these numbers
abbrev pub keys_at : List Text → List ℕ → List Text
keys_at names ns = map (name_at names) ns

-- This much is defined, except for the name that is pending; each name has one place, and numbers are counted on.
pub record Locals (g : Progress) (pending : Option ℕ) (t : Table LocalSort) (unnamed : ℕ) : Type 0 where
  pub same : length t.sorts ≡ length t.names
  pub places : (n : ℕ) (key : Text) → slice_get t.names n ≡ Some key → place_of key t.names ≡ Some n
  pub within : (n : ℕ) → IsIn n g.names → n < length t.names
  pub defines : Defines [] 0 (keys_at t.names g.names) unnamed
  pub sorted : (n : ℕ) (sort : LocalSort) → slice_get t.sorts n ≡ Some sort → IsSortOf g n sort
  pub known : (n : ℕ) → IsIn n g.names → (is_local (slice_get t.sorts n) ≡ true) ⊎ (pending ≡ Some n)

-- a mention of a name defines nothing
pub mention_keeps : (g : Progress) (pending : Option ℕ) (t : Table LocalSort) (unnamed : ℕ) (key : Text) → Locals g pending t unnamed → Locals g pending (mentioned key local.Unknown t) unnamed
mention_keeps g pending t unnamed key h = by (place_of key t.names) refl where
  more : List Text
  more = t.names ++ key ∷ []

  longer : length more ≡ length t.names + 1
  longer = length-append t.names (key ∷ [])

  fresh : place_of key t.names ≡ None → place_of key more ≡ Some (length t.names)
  fresh e = subst (λ (o : Option ℕ). place_of key (if is_some o then t.names else more) ≡ Some (unwrap_or o (length t.names))) e (place_there key t.names)

  by : (place : Option ℕ) → place_of key t.names ≡ place
      → Locals g pending (record { names = if is_some place then t.names else more; sorts = sorts_with place local.Unknown t.sorts }) unnamed
  by (Some n) e = record { same = h.same; places = h.places; within = h.within; defines = h.defines; sorted = h.sorted; known = h.known }
  by None e = record {
    same = let s = h.same in length-append t.sorts (local.Unknown ∷ []) ∙ ap (λ n. n + 1) s ∙ sym longer;
    places = λ n k there. elim (get_either t.names key n k there) [
      | inl p ↦ place_stays k t.names more n (begins_with t.names (key ∷ [])) (h.places n k p)
      | inr p ↦ subst (λ (x : Text). place_of x more ≡ Some n) (sym p.1) (fresh e ∙ ap Some (sym p.0))
    ];
    within = λ n there. let less = h.within n there in omega (arith, less, longer);
    defines = subst (λ (l : List Text). Defines [] 0 l unnamed) (sym (names_stay g.names t.names more h.within (begins_with t.names (key ∷ [])))) h.defines;
    sorted = λ n sort there. elim (get_either t.sorts local.Unknown n sort there) [
      | inl p ↦ h.sorted n sort p
      | inr p ↦ subst (IsSortOf g n) (sym p.1) tt
    ];
    known = λ n there. elim (h.known n there) [
      | inl p ↦ inl (more_known t.sorts local.Unknown n p)
      | inr p ↦ inr p
    ];
  }

-- ---- definitions

-- the key is defined nowhere, where its number means nothing
pub key_is_new : (g : Progress) (t : Table LocalSort) (unnamed : ℕ) (key : Text) (n : ℕ) → Locals g None t unnamed → slice_get t.names n ≡ Some key → is_local (slice_get t.sorts n) ≡ false → IsIn key (keys_at t.names g.names) → ⊥
key_is_new g t unnamed key n h at none there =
    let p = in_map (name_at t.names) g.names key there in
    let less = h.within p.0 p.1 in
    let here = slice_get-get_or t.names p.0 [] less in
    let named : get_or t.names p.0 [] ≡ key = sym (ap (λ (x : Option Text). unwrap_or x []) here) ∙ p.2 in
    let first : place_of key t.names ≡ Some p.0 = h.places p.0 key (here ∙ ap Some named) in
    let second : place_of key t.names ≡ Some n = h.places n key at in
    let same : p.0 ≡ n = cc in
    elim (h.known p.0 p.1) [
      | inl is ↦ let other : is_local (slice_get t.sorts p.0) ≡ false = ap (λ (k : ℕ). is_local (slice_get t.sorts k)) same ∙ none in cc
      | inr is ↦ cc
    ]

sort_further : (g : Progress) (n k : ℕ) (sort : LocalSort) → IsSortOf g k sort → IsSortOf (with_named_value g n) k sort
sort_further g n k local.Unknown h = tt
sort_further g n k (local.Value t) h = in_first k g.values (n ∷ []) h
sort_further g n k (local.Slot held) h = in_first k g.values (n ∷ []) h
sort_further g n k (local.Element block place) h = in_first k g.values (n ∷ []) h
sort_further g n k (local.Block b) h = h

-- the keys with one more
pub keys_more : (names : List Text) (ns : List ℕ) (n : ℕ) (key : Text) → slice_get names n ≡ Some key → keys_at names (ns ++ n ∷ []) ≡ keys_at names ns ++ key ∷ []
keys_more names ns n key at = map-append (name_at names) ns (n ∷ []) ∙ ap (λ (x : Text). keys_at names ns ++ x ∷ []) (ap (λ (x : Option Text). unwrap_or x []) at)

-- a value that is defined has no type yet
opened : (g : Progress) (t : Table LocalSort) (unnamed next n : ℕ) → n < length t.names → Locals g None t unnamed → Defines [] 0 (keys_at t.names (g.names ++ n ∷ [])) next
    → Locals (with_named_value g n) (Some n) t next
opened g t unnamed next n less h defines = record {
  same = h.same;
  places = h.places;
  within = λ k there. elim (in_longer k g.names n there) [
    | inl p ↦ h.within k p
    | inr p ↦ subst (λ (x : ℕ). x < length t.names) (sym p) less
  ];
  defines = defines;
  sorted = λ k sort there. sort_further g n k sort (h.sorted k sort there);
  known = λ k there. elim (in_longer k g.names n there) [
    | inl p ↦ elim (h.known k p) [
      | inl is ↦ inl is
      | inr is ↦ absurd cc
    ]
    | inr p ↦ inr (ap Some (sym p))
  ];
}

-- a name of a value that means nothing so far
pub value_named : (g : Progress) (t : Table LocalSort) (unnamed : ℕ) (key : Text) (n : ℕ) → Locals g None t unnamed → slice_get t.names n ≡ Some key → is_local (slice_get t.sorts n) ≡ false → IsNameKey key
    → Locals (with_named_value g n) (Some n) t unnamed
value_named g t unnamed key n h at none is =
    let new = key_is_new g t unnamed key n h at none in
    let less = slice_get_within t.names n key at in
    opened g t unnamed unnamed n less h
    (subst (λ (l : List Text). Defines [] 0 l unnamed) (sym (keys_more t.names g.names n key at)) (defines_name [] 0 (keys_at t.names g.names) unnamed key h.defines new is))

-- a value that has the next number
pub value_numbered : (g : Progress) (t : Table LocalSort) (unnamed n : ℕ) → unnamed < 2 ^ 64 → Locals g None t unnamed → slice_get t.names n ≡ Some (decimal unnamed)
    → Locals (with_named_value g n) (Some n) t (unnamed + 1)
value_numbered g t unnamed n few h at =
    let key = decimal unnamed in
    let new = number_is_new [] 0 (keys_at t.names g.names) unnamed few h.defines in
    let less = slice_get_within t.names n key at in
    opened g t unnamed (unnamed + 1) n less h
    (subst (λ (l : List Text). Defines [] 0 l (unnamed + 1)) (sym (keys_more t.names g.names n key at)) (defines_number [] 0 (keys_at t.names g.names) unnamed key h.defines new refl))
