-- The places of a function's names while it is read: each one is defined or used, and those of blocks mean their blocks.
use Rattle.std.proofs.Common.{◌≡◌, ℕ, ◌+◌, ◌<◌, Bool, true, false, List, [], ◌∷◌, ◌++◌, length, slice_get, if◌then◌else◌, is_some, unwrap_or, Option, None, Some, refl, sym, ap, subst, ◌∙◌, arith, length-append, inl, inr, ◌⊎◌}
use Rattle.lemmas.specs.Lists.{in_first, in_longer, last_in, IsIn, get_either, set_here, set_other}
use Rattle.std.specs.Prelude.{nat_lt, slice_set}
use Rattle.std.proofs.lemmas.Bool.Decides.{nat_tests}
use Rattle.std.proofs.lemmas.Option.{slice_get_within}
use Rattle.ir_print_law.proofs.DefinedLocals.{in_list}
use Rattle.ir_print_law.proofs.Named.{place_name}
use Rattle.ir_ast.specs.Names.{place_of, number_of, numbered}
use Rattle.ir_ast.specs.declared.function.LocalSort.{LocalSort}
use Rattle.ir_ast.specs.declared.function.LocalSort.TheVariants as local
use Rattle.ir_forms.specs.Table.{mentioned, defined, sorts_with}
use Rattle.ir_forms.specs.declared.table.Table.{Table}
use Rattle.ir_forms.specs.declared.uses.LocalUse.{LocalUse}
use Rattle.ir_tokens.specs.Bytes.{Text}
use Rattle.ir_print.specs.Names.{name_at}
use Rattle.ir_print_law.proofs.LocalNames.{keys_at}
use Rattle.ir_print_law.proofs.Reading.{Progress, with_named_value, with_named_label}
use Rattle.ir_print_law.proofs.Tables.{Begins, begins_itself, begins_with, stays, name_there}

-- the numbers from 0 to below `count`
abbrev pub AreFirst : List ℕ → (count : ℕ) → Type 0
AreFirst ns count = (length ns ≡ count) × ((place n : ℕ) → slice_get ns place ≡ Some n → n ≡ place)

-- a place that is used
abbrev pub IsUsed : List LocalUse → ℕ → Type 0
IsUsed uses n = (u : LocalUse) × IsIn u uses × (u.value ≡ n)

-- What is known of the places of names, where this much is defined, except for a value that is pending.
pub record Places (g : Progress) (pending : Option ℕ) (t : Table LocalSort) (uses : List LocalUse) : Type 0 where
  pub value_names : (n : ℕ) → IsIn n g.values → IsIn n g.names
  pub label_names : (n : ℕ) → IsIn n g.labels → IsIn n g.names
  pub apart : (n : ℕ) → pending ≡ Some n → IsIn n g.labels → ⊥
  pub disjoint : (n : ℕ) → IsIn n g.values → IsIn n g.labels → ⊥
  pub labels : (b n : ℕ) → slice_get g.labels b ≡ Some n → slice_get t.sorts n ≡ Some (local.Block b)
  pub covered : (n : ℕ) → n < length t.names → IsIn n g.names ⊎ IsUsed uses n
  -- as long as no name is used, names have their numbers in the order in which they are defined
  pub first : uses ≡ [] → AreFirst g.names (length t.names)

-- ---- lists

pub key_there : (names : List Text) (ns : List ℕ) (n : ℕ) → IsIn n ns → IsIn (name_at names n) (keys_at names ns)
key_there names [] n there = absurd there
key_there names (x ∷ ns) n (inl e) = inl (ap (name_at names) e)
key_there names (x ∷ ns) n (inr there) = inr (key_there names ns n there)

first_more : (ns : List ℕ) (count : ℕ) → AreFirst ns count → AreFirst (ns ++ count ∷ []) (count + 1)
first_more ns count h =
    let same = h.0 in
    let longer = length-append ns (count ∷ []) in (
      omega (arith, same, longer),
      λ place n e. elim (get_either ns count place n e) [
        | inl p ↦ h.1 place n p
        | inr p ↦ let at = p.0 in let is = p.1 in omega (arith, same, at, is)
      ],
    )

-- ---- a mention of a key

sorts_begin : (place : Option ℕ) (sorts : List LocalSort) → Begins sorts (sorts_with place local.Unknown sorts)
sorts_begin None sorts = begins_with sorts (local.Unknown ∷ [])
sorts_begin (Some n) sorts = begins_itself sorts

-- a place after a mention was there before, or is that of the key
old_or_key : (key : Text) (names : List Text) (n : ℕ) → n < length (numbered key names) → (n < length names) ⊎ (number_of key names ≡ n)
old_or_key key names n = by (place_of key names) where
  longer : length (names ++ key ∷ []) ≡ length names + 1
  longer = length-append names (key ∷ [])

  last : (t : Bool) → nat_lt n (length names) ≡ t → n < length names + 1 → (n < length names) ⊎ (length names ≡ n)
  last true e less = inl (grind (arith, nat_tests))
  last false e less = inr (grind (arith, nat_tests))

  by : (place : Option ℕ) → n < length (if is_some place then names else names ++ key ∷ []) → (n < length names) ⊎ (unwrap_or place (length names) ≡ n)
  by (Some p) less = inl less
  by None less = last (nat_lt n (length names)) refl (omega (arith, less, longer))

-- a key that was mentioned before, or that is new at the end
known_or_new : (key : Text) (names : List Text) → (number_of key names < length names) ⊎ ((number_of key names ≡ length names) × (length (numbered key names) ≡ length names + 1))
known_or_new key names = by (place_of key names) refl where
  by : (place : Option ℕ) → place_of key names ≡ place
      → (unwrap_or place (length names) < length names)
      ⊎ ((unwrap_or place (length names) ≡ length names) × (length (if is_some place then names else names ++ key ∷ []) ≡ length names + 1))
  by (Some p) e = inl (slice_get_within names p key (place_name key names p e))
  by None e = inr (refl, length-append names (key ∷ []))

-- a use of a key
pub use_places : (g : Progress) (pending : Option ℕ) (t : Table LocalSort) (uses : List LocalUse) (key : Text) (u : LocalUse) → u.value ≡ number_of key t.names
    → Places g pending t uses
    → Places g pending (mentioned key local.Unknown t) (uses ++ u ∷ [])
use_places g pending t uses key u is h = record {
  value_names = h.value_names;
  label_names = h.label_names;
  apart = h.apart;
  disjoint = h.disjoint;
  labels = λ b n e. stays t.sorts (sorts_with (place_of key t.names) local.Unknown t.sorts) n (local.Block b) (sorts_begin (place_of key t.names) t.sorts) (h.labels b n e);
  covered = λ n less. elim (old_or_key key t.names n less) [
    | inl old ↦ elim (h.covered n old) [
      | inl named ↦ inl named
      | inr used ↦ inr (used.0, in_first used.0 uses (u ∷ []) used.1, used.2)
    ]
    | inr new ↦ inr (u, last_in u uses, is ∙ new)
  ];
  first = λ none. absurd (let longer = length-append uses (u ∷ []) in let empty = ap length none in omega (arith, longer, empty));
}

-- ---- a definition

covered_more : (g : Progress) (t : Table LocalSort) (uses : List LocalUse) (key : Text) → Places g None t uses
    → (n : ℕ) → n < length (numbered key t.names) → IsIn n (g.names ++ number_of key t.names ∷ []) ⊎ IsUsed uses n
covered_more g t uses key h n less = elim (old_or_key key t.names n less) [
  | inl old ↦ elim (h.covered n old) [
    | inl named ↦ inl (in_first n g.names (number_of key t.names ∷ []) named)
    | inr used ↦ inr used
  ]
  | inr new ↦ inl (subst (λ x. IsIn x (g.names ++ number_of key t.names ∷ [])) new (last_in (number_of key t.names) g.names))
]

unused : (n : ℕ) (uses : List LocalUse) → uses ≡ [] → IsUsed uses n → ⊥
unused n uses none used = subst (λ l. IsIn used.0 l) none used.1

first_next : (g : Progress) (t : Table LocalSort) (uses : List LocalUse) (key : Text) → Places g None t uses → (IsIn (number_of key t.names) g.names → ⊥) → uses ≡ []
    → AreFirst (g.names ++ number_of key t.names ∷ []) (length (numbered key t.names))
first_next g t uses key h fresh none = elim (known_or_new key t.names) [
  | inl known ↦ elim (h.covered (number_of key t.names) known) [
    | inl named ↦ absurd (fresh named)
    | inr used ↦ absurd (unused (number_of key t.names) uses none used)
  ]
  | inr new ↦ subst (λ n. AreFirst (g.names ++ n ∷ []) (length (numbered key t.names))) (sym new.0)
      (subst (AreFirst (g.names ++ length t.names ∷ [])) (sym new.1) (first_more g.names (length t.names) (h.first none)))
]

-- a value that is defined has no type yet
pub value_places : (g : Progress) (t : Table LocalSort) (uses : List LocalUse) (key : Text) → Places g None t uses → (IsIn (number_of key t.names) g.names → ⊥)
    → Places (with_named_value g (number_of key t.names)) (Some (number_of key t.names)) (mentioned key local.Unknown t) uses
value_places g t uses key h fresh =
    let n = number_of key t.names in record {
      value_names = λ k there. elim (in_longer k g.values n there) [
        | inl old ↦ in_first k g.names (n ∷ []) (h.value_names k old)
        | inr new ↦ subst (λ x. IsIn x (g.names ++ n ∷ [])) (sym new) (last_in n g.names)
      ];
      label_names = λ k there. in_first k g.names (n ∷ []) (h.label_names k there);
      apart = λ k is there. let same : k ≡ n = cc in fresh (subst (λ x. IsIn x g.names) same (h.label_names k there));
      disjoint = λ k is there. elim (in_longer k g.values n is) [
        | inl old ↦ h.disjoint k old there
        | inr new ↦ fresh (subst (λ x. IsIn x g.names) new (h.label_names k there))
      ];
      labels = λ b k e. stays t.sorts (sorts_with (place_of key t.names) local.Unknown t.sorts) k (local.Block b) (sorts_begin (place_of key t.names) t.sorts) (h.labels b k e);
      covered = covered_more g t uses key h;
      first = first_next g t uses key h fresh;
    }

-- the table in which a name means this
sorted_as : (n : ℕ) (sort : LocalSort) (t : Table LocalSort) (P : List LocalSort → Type 0) → P t.sorts → P (slice_set t.sorts n sort) → P (defined n sort t).sorts
sorted_as n sort t P before afterwards = by (nat_lt n (length t.sorts)) where
  by : (b : Bool) → P (if b then slice_set t.sorts n sort else t.sorts)
  by true = afterwards
  by false = before

-- the value that is pending has a type from now on
pub sort_places : (g : Progress) (n : ℕ) (t : Table LocalSort) (uses : List LocalUse) (sort : LocalSort) → Places g (Some n) t uses → Places g None (defined n sort t) uses
sort_places g n t uses sort h = record {
  value_names = h.value_names;
  label_names = h.label_names;
  apart = λ k is there. absurd cc;
  disjoint = h.disjoint;
  labels = λ b k e.
      let other : n ≡ k → ⊥ = λ same. h.apart n refl (subst (λ x. IsIn x g.labels) (sym same) (in_list g.labels b k e)) in
      sorted_as n sort t (λ sorts. slice_get sorts k ≡ Some (local.Block b)) (h.labels b k e) (set_other t.sorts n k sort (λ e. other (sym e)) ∙ h.labels b k e);
  covered = h.covered;
  first = h.first;
}

-- a name that is defined as that of the next block
pub label_places : (g : Progress) (t : Table LocalSort) (uses : List LocalUse) (key : Text) → Places g None t uses → (IsIn (number_of key t.names) g.names → ⊥)
    → length (mentioned key local.Unknown t).sorts ≡ length (mentioned key local.Unknown t).names
    → Places (with_named_label g (number_of key t.names)) None (defined (number_of key t.names) (local.Block (length g.labels)) (mentioned key local.Unknown t)) uses
label_places g t uses key h fresh same =
    let n = number_of key t.names in
    let sort = local.Block (length g.labels) in
    let next = mentioned key local.Unknown t in
    let within : n < length next.names = slice_get_within next.names n key (name_there key t.names) in
    let less : n < length next.sorts = omega (arith, within, same) in
    let there : nat_lt n (length next.sorts) ≡ true = grind (arith, nat_tests) in record {
      value_names = λ k there. in_first k g.names (n ∷ []) (h.value_names k there);
      label_names = λ k there. elim (in_longer k g.labels n there) [
        | inl old ↦ in_first k g.names (n ∷ []) (h.label_names k old)
        | inr new ↦ subst (λ x. IsIn x (g.names ++ n ∷ [])) (sym new) (last_in n g.names)
      ];
      apart = λ k is there. absurd cc;
      disjoint = λ k is there. elim (in_longer k g.labels n there) [
        | inl old ↦ h.disjoint k is old
        | inr new ↦ fresh (subst (λ x. IsIn x g.names) new (h.value_names k is))
      ];
      labels = λ b k e. elim (get_either g.labels n b k e) [
        | inl old ↦
            let before = stays t.sorts next.sorts k (local.Block b) (sorts_begin (place_of key t.names) t.sorts) (h.labels b k old) in
            let other : n ≡ k → ⊥ = λ is. fresh (subst (λ x. IsIn x g.names) (sym is) (h.label_names k (in_list g.labels b k old))) in
            sorted_as n sort next (λ sorts. slice_get sorts k ≡ Some (local.Block b)) before (set_other next.sorts n k sort (λ e. other (sym e)) ∙ before)
        | inr new ↦
            let at : slice_get (slice_set next.sorts n sort) k ≡ Some (local.Block b) =
            ap (slice_get (slice_set next.sorts n sort)) new.1 ∙ set_here next.sorts n sort less ∙ ap (λ (x : ℕ). Some (local.Block x)) (sym new.0) in
            subst (λ (x : Bool). slice_get (if x then slice_set next.sorts n sort else next.sorts) k ≡ Some (local.Block b)) (sym there) at
      ];
      covered = covered_more g t uses key h;
      first = first_next g t uses key h fresh;
    }
