-- What mentions and definitions of names do to tables that are side by side.
use Rattle.std.proofs.Common.{◌≡◌, ℕ, ◌+◌, ◌<◌, ◌≤◌, Bool, true, false, List, [], ◌∷◌, ◌++◌, inl, inr, length, map, zero, suc, Option, None, Some, refl, sym, ap, subst, ◌∙◌, arith, length-append, if◌then◌else◌, is_some, get_or, cond, not, position}
use Rattle.std.proofs.lemmas.List.{map-append, length-map}
use Rattle.std.proofs.lemmas.Option.{slice_get-map, slice_get-get_or, slice_get_within}
use Rattle.std.specs.Prelude.{slice_get, slice_set, nat_lt, eqb, option_and_then, option_map}
use Rattle.std.specs.List.{position_or_len}
use Rattle.std.proofs.lemmas.Bool.Decides.{nat_tests}
use Rattle.std.proofs.lemmas.Slice.Eq.{bytes_eq-Decides}
use Rattle.std.proofs.lemmas.List.Quantifiers.{position-Some}
use Rattle.ir_ast.specs.Places.{place_is_end}
use Rattle.std.specs.Str.{bytes_eq}
use Rattle.std.proofs.lemmas.List.Folds.{prefix_len-append}
use Rattle.lemmas.specs.Lists.{get_either, get_front, get_some, set_here, set_other, in_first, in_longer, last_in}
use Rattle.ir_ast.specs.Names.{place_of, number_of, numbered}
use Rattle.ir_ast.specs.declared.function.LocalSort.{LocalSort}
use Rattle.ir_ast.specs.declared.function.LocalSort.TheVariants as local
use Rattle.ir_ast.specs.declared.items_of_module.SymbolSort.{SymbolSort}
use Rattle.ir_ast.specs.declared.items_of_module.SymbolSort.TheVariants as symbol
use Rattle.ir_tokens.specs.Bytes.{Text}
use Rattle.ir_forms.specs.declared.table.Table.{Table}
use Rattle.ir_forms.specs.declared.uses.LocalUse.{LocalUse}
use Rattle.ir_forms.specs.declared.uses.StructUse.{StructUse}
use Rattle.ir_forms.specs.declared.uses.SymbolUse.{SymbolUse}
use Rattle.ir_forms.specs.Table.{mentioned, defined, sorts_with}
use Rattle.ir_forms.specs.Names.{is_local, is_symbol, is_function, is_declared}
use Rattle.ir_print_law.proofs.Tables.{name_begins, place_stays, place_there}
use Rattle.ir_print_law.specs.Standing.{sort_named}
use Rattle.ir_print_law.proofs.Seats.{Own, Symbols, Structs, bare, placeless}

-- a name is at its place
pub place_is_there : (x : Text) (names : List Text) (n : ℕ) → place_of x names ≡ Some n → slice_get names n ≡ Some x
place_is_there x names n e =
    let found = position-Some (bytes_eq x) names n x e in
    slice_get-get_or names n x found.0 ∙ ap Some (sym ((bytes_eq-Decides x (get_or names n x)).0 found.1))

-- ---- local names

sorts_bare : (place : Option ℕ) (x : LocalSort) (sorts : List LocalSort) → map bare (sorts_with place x sorts) ≡ sorts_with place (bare x) (map bare sorts)
sorts_bare None x sorts = map-append bare sorts (x ∷ [])
sorts_bare (Some n) x sorts = refl

-- a mention of one local name in both
pub own_mention : {a b : Table LocalSort} {uses more : List LocalUse} {values count unnamed number : ℕ} (key other : Text) → key ≡ other → Own a b uses more values count unnamed number
    → Own (mentioned key local.Unknown a) (mentioned other local.Unknown b) uses more values count unnamed number
own_mention {a = a} {b = b} {uses = uses} {more = more} {values = values} {count = count} {unnamed = unnamed} {number = number} key other same h =
    subst (λ (k : Text). Own (mentioned key local.Unknown a) (mentioned k local.Unknown b) uses more values count unnamed number) same (record {
      names = ap (numbered key) h.names;
      sorts =
          sorts_bare (place_of key a.names) local.Unknown a.sorts
          ∙ ap (λ (l : List LocalSort). sorts_with (place_of key a.names) local.Unknown l) h.sorts
          ∙ ap (λ (names : List Text). sorts_with (place_of key names) local.Unknown (map bare b.sorts)) h.names
          ∙ sym (sorts_bare (place_of key b.names) local.Unknown b.sorts);
      uses_are = h.uses_are;
      values_are = h.values_are;
      unnamed_is = h.unnamed_is;
    })

set_bare : (xs : List LocalSort) (n : ℕ) (x : LocalSort) → map bare (slice_set xs n x) ≡ slice_set (map bare xs) n (bare x)
set_bare [] n x = refl
set_bare (y ∷ xs) zero x = refl
set_bare (y ∷ xs) (suc n) x = ap (λ (l : List LocalSort). bare y ∷ l) (set_bare xs n x)

set_where : (t : Bool) (xs : List LocalSort) (n : ℕ) (x : LocalSort) → map bare (if t then slice_set xs n x else xs) ≡ (if t then slice_set (map bare xs) n (bare x) else map bare xs)
set_where true xs n x = set_bare xs n x
set_where false xs n x = refl

define_bare : (xs : List LocalSort) (n : ℕ) (x : LocalSort)
    → map bare (if nat_lt n (length xs) then slice_set xs n x else xs) ≡ (if nat_lt n (length (map bare xs)) then slice_set (map bare xs) n (bare x) else map bare xs)
define_bare xs n x = set_where (nat_lt n (length xs)) xs n x ∙ ap (λ (l : ℕ). if nat_lt n l then slice_set (map bare xs) n (bare x) else map bare xs) (sym (length-map xs bare))

-- a definition of one local name in both
pub own_define : {a b : Table LocalSort} {uses more : List LocalUse} {values count unnamed number : ℕ} (n m : ℕ) (x y : LocalSort) → n ≡ m → bare x ≡ bare y
    → Own a b uses more values count unnamed number → Own (defined n x a) (defined m y b) uses more values count unnamed number
own_define {a = a} {b = b} {uses = uses} {more = more} {values = values} {count = count} {unnamed = unnamed} {number = number} n m x y same alike h =
    subst (λ (k : ℕ). Own (defined n x a) (defined k y b) uses more values count unnamed number) same (record {
      names = h.names;
      sorts =
          define_bare a.sorts n x
          ∙ ap (λ (l : List LocalSort). if nat_lt n (length l) then slice_set l n (bare x) else l) h.sorts
          ∙ ap (λ (z : LocalSort). if nat_lt n (length (map bare b.sorts)) then slice_set (map bare b.sorts) n z else map bare b.sorts) alike
          ∙ sym (define_bare b.sorts n y);
      uses_are = h.uses_are;
      values_are = h.values_are;
      unnamed_is = h.unnamed_is;
    })

-- one value more in both
pub own_value : {a b : Table LocalSort} {uses more : List LocalUse} {values count unnamed number : ℕ} → Own a b uses more values count unnamed number → Own a b uses more (values + 1) (count + 1) unnamed number
own_value h = record { names = h.names; sorts = h.sorts; uses_are = h.uses_are; values_are = ap (λ (n : ℕ). n + 1) h.values_are; unnamed_is = h.unnamed_is }

-- one number more in both
pub own_number : {a b : Table LocalSort} {uses more : List LocalUse} {values count unnamed number : ℕ} → Own a b uses more values count unnamed number → Own a b uses more values count (unnamed + 1) (number + 1)
own_number h = record { names = h.names; sorts = h.sorts; uses_are = h.uses_are; values_are = h.values_are; unnamed_is = ap (λ (n : ℕ). n + 1) h.unnamed_is }

-- a use of one local name in both
pub own_use : {a b : Table LocalSort} {uses more : List LocalUse} {values count unnamed number : ℕ} (u v : LocalUse) → placeless u ≡ placeless v → Own a b uses more values count unnamed number
    → Own a b (uses ++ u ∷ []) (more ++ v ∷ []) values count unnamed number
own_use {uses = uses} {more = more} u v same h = record {
  names = h.names;
  sorts = h.sorts;
  uses_are =
      map-append placeless uses (u ∷ []) ∙ ap (λ (l : List LocalUse). l ++ placeless u ∷ []) h.uses_are ∙ ap (λ (w : LocalUse). map placeless more ++ w ∷ []) same
      ∙ sym (map-append placeless more (v ∷ []));
  values_are = h.values_are;
  unnamed_is = h.unnamed_is;
}

local_bare : (o : Option LocalSort) → is_local (option_map bare o) ≡ is_local o
local_bare None = refl
local_bare (Some local.Unknown) = refl
local_bare (Some (local.Value t)) = refl
local_bare (Some (local.Slot held)) = refl
local_bare (Some (local.Element block place)) = refl
local_bare (Some (local.Block b)) = refl

at_bare : (xs : List LocalSort) (n : ℕ) → is_local (slice_get xs n) ≡ is_local (slice_get (map bare xs) n)
at_bare xs n = sym (ap is_local (slice_get-map bare xs n) ∙ local_bare (slice_get xs n))

-- a local name is defined in both or in neither
pub known_same : (xs ys : List LocalSort) (n m : ℕ) → map bare xs ≡ map bare ys → n ≡ m → is_local (slice_get xs n) ≡ is_local (slice_get ys m)
known_same xs ys n m e same = at_bare xs n ∙ ap (λ (l : List LocalSort). is_local (slice_get l n)) e ∙ ap (λ (k : ℕ). is_local (slice_get (map bare ys) k)) same ∙ sym (at_bare ys m)

-- ---- global names

-- what a name means that comes into the table
further_sort : (o : Option SymbolSort) (sorts : List SymbolSort) (n : ℕ) → slice_get (sorts ++ symbol.Unknown ∷ []) n ≡ o → length sorts ≤ n → (is_symbol o ≡ false) × (is_function o ≡ false) × (is_declared o ≡ false)
further_sort None sorts n e past = (refl, refl, refl)
further_sort (Some x) sorts n e past = elim (get_either sorts symbol.Unknown n x e) [
  | inl h ↦ absurd (let less = slice_get_within sorts n x h in omega (arith, less, past))
  | inr h ↦ subst (λ (y : SymbolSort). (is_symbol (Some y) ≡ false) × (is_function (Some y) ≡ false) × (is_declared (Some y) ≡ false)) (sym h.1) (refl, refl, refl)
]

place_by_length : (p : Text → Bool) (xs : List Text) (n : ℕ) → position p xs ≡ Some n → n ≡ position_or_len p xs
place_by_length p xs n e = by (nat_lt (position_or_len p xs) (length xs)) e where
  by : (t : Bool) → cond t (Some (position_or_len p xs)) None ≡ Some n → n ≡ position_or_len p xs
  by true h = let same : position_or_len p xs ≡ n = cc in sym same
  by false h = absurd cc

-- a name that is nowhere in a table is at its end, if it comes in
new_place : (x name : Text) (names : List Text) (n : ℕ) → place_of x names ≡ None → place_of x (names ++ name ∷ []) ≡ Some n → length names ≤ n
new_place x name names n none at =
    let p = bytes_eq x in
    let end = place_is_end p names none in
    let same : eqb (position_or_len p names) (length names) ≡ true = grind (arith, nat_tests) in
    let first = place_by_length p (names ++ name ∷ []) n at in
    let sum = prefix_len-append (λ y. not (p y)) names (name ∷ []) ∙ ap (λ t. cond t (length names + position_or_len p (name ∷ [])) (position_or_len p names)) same in
    omega (arith, first, sum)

-- the tests of a sort
abbrev pub Tests : Option SymbolSort → Option SymbolSort → Type 0
Tests o p = (is_symbol o ≡ is_symbol p) × (is_function o ≡ is_function p) × (is_declared o ≡ is_declared p)

pub tests_same : (o p : Option SymbolSort) → o ≡ p → Tests o p
tests_same o p e = (ap is_symbol e, ap is_function e, ap is_declared e)

-- what is the same before and after on both sides is the same in both
tests_through : (o p q r : Option SymbolSort) → Tests o p → Tests p q → Tests r q → Tests o r
tests_through o p q r first both second = (first.0 ∙ both.0 ∙ sym second.0, first.1 ∙ both.1 ∙ sym second.1, first.2 ∙ both.2 ∙ sym second.2)

front_same : (sorts : List SymbolSort) (more : List SymbolSort) (n : ℕ) → n < length sorts → slice_get (sorts ++ more) n ≡ slice_get sorts n
front_same sorts more n less = let there = get_some sorts n less in get_front sorts more n there.0 there.1 ∙ sym there.1

-- a mention changes nothing of what a global name means
mention_named : (x name : Text) (t : Table SymbolSort) → length t.sorts ≡ length t.names → Tests (sort_named x (mentioned name symbol.Unknown t)) (sort_named x t)
mention_named x name t counted = by (place_of name t.names) refl where
  new : (place : Option ℕ) → place_of x t.names ≡ place
      → Tests (option_and_then (slice_get (t.sorts ++ symbol.Unknown ∷ [])) (place_of x (t.names ++ name ∷ []))) (option_and_then (slice_get t.sorts) place)
  new (Some n) e =
      let less = slice_get_within t.names n x (place_is_there x t.names n e) in
      let later = place_stays x t.names (t.names ++ name ∷ []) n (name ∷ [], refl) e in
      tests_same _ _ (ap (option_and_then (slice_get (t.sorts ++ symbol.Unknown ∷ []))) later ∙ front_same t.sorts (symbol.Unknown ∷ []) n (omega (arith, less, counted)))
  new None e = last (place_of x (t.names ++ name ∷ [])) refl where
    last : (place : Option ℕ) → place_of x (t.names ++ name ∷ []) ≡ place → Tests (option_and_then (slice_get (t.sorts ++ symbol.Unknown ∷ [])) place) None
    last None h = (refl, refl, refl)
    last (Some n) h = let past = new_place x name t.names n e h in further_sort (slice_get (t.sorts ++ symbol.Unknown ∷ []) n) t.sorts n refl (omega (arith, past, counted))

  by : (place : Option ℕ) → place_of name t.names ≡ place
      → Tests (option_and_then (slice_get (sorts_with place symbol.Unknown t.sorts)) (place_of x (if is_some place then t.names else t.names ++ name ∷ []))) (sort_named x t)
  by (Some n) e = (refl, refl, refl)
  by None e = new (place_of x t.names) refl

counted_mention : (name : Text) (t : Table SymbolSort) → length t.sorts ≡ length t.names → length (mentioned name symbol.Unknown t).sorts ≡ length (mentioned name symbol.Unknown t).names
counted_mention name t counted = by (place_of name t.names) where
  by : (place : Option ℕ) → length (sorts_with place symbol.Unknown t.sorts) ≡ length (if is_some place then t.names else t.names ++ name ∷ [])
  by (Some n) = counted
  by None = let a = length-append t.sorts (symbol.Unknown ∷ []) in let b = length-append t.names (name ∷ []) in omega (arith, counted, a, b)

-- a mention of one global name in both
pub symbols_mention : {a b : Table SymbolSort} {uses more : List SymbolUse} (name other : Text) → name ≡ other → Symbols a b uses more
    → Symbols (mentioned name symbol.Unknown a) (mentioned other symbol.Unknown b) uses more
symbols_mention {a = a} {b = b} {uses = uses} {more = more} name other same h =
    subst (λ (n : Text). Symbols (mentioned name symbol.Unknown a) (mentioned n symbol.Unknown b) uses more) same (record {
      alike = λ x. tests_through _ _ _ _ (mention_named x name a h.counted) (h.alike x) (mention_named x name b h.counted_too);
      counted = counted_mention name a h.counted;
      counted_too = counted_mention name b h.counted_too;
      used = λ u there.
          let r = h.used u there in
          (r.0, r.1, r.2, r.3, place_stays r.0 a.names (numbered name a.names) r.1.symbol (name_begins name a.names) r.4, place_stays r.0 b.names (numbered name b.names) u.symbol (name_begins name b.names) r.5);
    })

-- a use of one global name in both
pub symbols_use : {a b : Table SymbolSort} {uses more : List SymbolUse} (name : Text) (u v : SymbolUse) → u.is_call ≡ v.is_call → place_of name a.names ≡ Some u.symbol → place_of name b.names ≡ Some v.symbol
    → Symbols a b uses more → Symbols a b (uses ++ u ∷ []) (more ++ v ∷ [])
symbols_use {a = a} {b = b} {uses = uses} {more = more} name u v call at there h = record {
  alike = h.alike;
  counted = h.counted;
  counted_too = h.counted_too;
  used = λ w is. elim (in_longer w more v is) [
    | inl old ↦ let r = h.used w old in (r.0, r.1, in_first r.1 uses (u ∷ []) r.2, r.3, r.4, r.5)
    | inr new ↦ (name, u, last_in u uses, call ∙ ap (λ (x : SymbolUse). x.is_call) (sym new), at, there ∙ ap (λ (x : SymbolUse). Some x.symbol) (sym new))
  ];
}

-- ---- a global name that is defined

-- what a name means that is defined here
defined_here : (name : Text) (sort : SymbolSort) (t : Table SymbolSort) → length t.sorts ≡ length t.names
    → sort_named name (defined (number_of name t.names) sort (mentioned name symbol.Unknown t)) ≡ Some sort
defined_here name sort t counted =
    let n = number_of name t.names in
    let m = mentioned name symbol.Unknown t in
    let at = place_there name t.names in
    let less = slice_get_within m.names n name (place_is_there name m.names n at) in
    let same = counted_mention name t counted in
    let within : nat_lt n (length m.sorts) ≡ true = grind (arith, nat_tests) in
    ap (option_and_then (slice_get (if nat_lt n (length m.sorts) then slice_set m.sorts n sort else m.sorts))) at
    ∙ ap (λ (b : Bool). slice_get (if b then slice_set m.sorts n sort else m.sorts) n) within
    ∙ set_here m.sorts n sort (omega (arith, less, same))

set_or : (b : Bool) (sorts : List SymbolSort) (n p : ℕ) (sort : SymbolSort) → (p ≡ n → ⊥) → slice_get (if b then slice_set sorts n sort else sorts) p ≡ slice_get sorts p
set_or true sorts n p sort other = set_other sorts n p sort other
set_or false sorts n p sort other = refl

-- and what another name means
defined_else : (x name : Text) (sort : SymbolSort) (t : Table SymbolSort) → (x ≡ name → ⊥)
    → sort_named x (defined (number_of name t.names) sort (mentioned name symbol.Unknown t)) ≡ sort_named x (mentioned name symbol.Unknown t)
defined_else x name sort t other = by (place_of x m.names) refl where
  m : Table SymbolSort
  m = mentioned name symbol.Unknown t

  n : ℕ
  n = number_of name t.names

  by : (place : Option ℕ) → place_of x m.names ≡ place
      → option_and_then (slice_get (if nat_lt n (length m.sorts) then slice_set m.sorts n sort else m.sorts)) place ≡ option_and_then (slice_get m.sorts) place
  by None e = refl
  by (Some p) e = set_or (nat_lt n (length m.sorts)) m.sorts n p sort (λ same.
      let first = place_is_there x m.names p e in
      let second = place_is_there name m.names n (place_there name t.names) in
      let both : Some x ≡ Some name = sym first ∙ ap (slice_get m.names) same ∙ second in
      other cc)

length_set : (xs : List SymbolSort) (n : ℕ) (x : SymbolSort) → length (slice_set xs n x) ≡ length xs
length_set [] n x = refl
length_set (y ∷ xs) zero x = refl
length_set (y ∷ xs) (suc n) x = let e = length_set xs n x in omega (arith, e)

counted_define : (n : ℕ) (sort : SymbolSort) (t : Table SymbolSort) → length t.sorts ≡ length t.names → length (defined n sort t).sorts ≡ length (defined n sort t).names
counted_define n sort t counted = by (nat_lt n (length t.sorts)) where
  by : (b : Bool) → length (if b then slice_set t.sorts n sort else t.sorts) ≡ length t.names
  by true = length_set t.sorts n sort ∙ counted
  by false = counted

-- one global name is defined in both, as a function
pub symbols_define : {a b : Table SymbolSort} {uses more : List SymbolUse} (name other : Text) (f g : ℕ) → name ≡ other → Symbols a b uses more
    → Symbols (defined (number_of name a.names) (symbol.Defined f) (mentioned name symbol.Unknown a)) (defined (number_of other b.names) (symbol.Defined g) (mentioned other symbol.Unknown b)) uses more
symbols_define {a = a} {b = b} {uses = uses} {more = more} name other f g same h =
    subst (λ (n : Text). Symbols (defined (number_of name a.names) (symbol.Defined f) (mentioned name symbol.Unknown a)) (defined (number_of n b.names) (symbol.Defined g) (mentioned n symbol.Unknown b)) uses more) same (record {
      alike = λ x. by x (bytes_eq x name) refl;
      counted = counted_define (number_of name a.names) (symbol.Defined f) (mentioned name symbol.Unknown a) (counted_mention name a h.counted);
      counted_too = counted_define (number_of name b.names) (symbol.Defined g) (mentioned name symbol.Unknown b) (counted_mention name b h.counted_too);
      used = (symbols_mention name name refl h).used;
    }) where
      by : (x : Text) (t : Bool) → bytes_eq x name ≡ t
          → Tests (sort_named x (defined (number_of name a.names) (symbol.Defined f) (mentioned name symbol.Unknown a))) (sort_named x (defined (number_of name b.names) (symbol.Defined g) (mentioned name symbol.Unknown b)))
      by x true e =
          let is : x ≡ name = (bytes_eq-Decides x name).0 e in
          subst (λ (y : Text). Tests (sort_named y (defined (number_of name a.names) (symbol.Defined f) (mentioned name symbol.Unknown a))) (sort_named y (defined (number_of name b.names) (symbol.Defined g) (mentioned name symbol.Unknown b)))) (sym is) (
            ap is_symbol (defined_here name (symbol.Defined f) a h.counted) ∙ sym (ap is_symbol (defined_here name (symbol.Defined g) b h.counted_too)),
            ap is_function (defined_here name (symbol.Defined f) a h.counted) ∙ sym (ap is_function (defined_here name (symbol.Defined g) b h.counted_too)),
            ap is_declared (defined_here name (symbol.Defined f) a h.counted) ∙ sym (ap is_declared (defined_here name (symbol.Defined g) b h.counted_too)),
          )
      by x false e =
          let apart : x ≡ name → ⊥ = λ is. (let yes = (bytes_eq-Decides x name).1 is in cc) in
          tests_through _ _ _ _ (tests_same _ _ (defined_else x name (symbol.Defined f) a apart)) ((symbols_mention name name refl h).alike x) (tests_same _ _ (defined_else x name (symbol.Defined g) b apart))

-- a global name is defined so far where it is found as what it means
pub known_named : (name : Text) (t : Table SymbolSort) → length t.sorts ≡ length t.names
    → is_symbol (slice_get (mentioned name symbol.Unknown t).sorts (number_of name t.names)) ≡ is_symbol (sort_named name t)
known_named name t counted =
    let there = ap (option_and_then (slice_get (mentioned name symbol.Unknown t).sorts)) (place_there name t.names) in
    sym (ap is_symbol there) ∙ (mention_named name name t counted).0

-- ---- names of structs

-- a use of one name of a struct in both
pub structs_use : {names others : List Text} {uses more : List StructUse} (name other : Text) (u v : StructUse) → name ≡ other → u.name ≡ number_of name names → v.name ≡ number_of other others
    → Structs names others uses more → Structs (numbered name names) (numbered other others) (uses ++ u ∷ []) (more ++ v ∷ [])
structs_use {names = names} {others = others} {uses = uses} {more = more} name other u v same at there h = record {
  used = λ w is. elim (in_longer w more v is) [
    | inl old ↦
        let r = h.used w old in
        (r.0, r.1, in_first r.1 uses (u ∷ []) r.2, place_stays r.0 names (numbered name names) r.1.name (name_begins name names) r.3, place_stays r.0 others (numbered other others) w.name (name_begins other others) r.4)
    | inr new ↦ (
      name,
      u,
      last_in u uses,
      place_there name names ∙ ap Some (sym at),
      ap (λ (x : Text). place_of x (numbered other others)) same ∙ place_there other others ∙ ap Some (sym there) ∙ ap (λ (x : StructUse). Some x.name) (sym new),
    )
  ];
}
