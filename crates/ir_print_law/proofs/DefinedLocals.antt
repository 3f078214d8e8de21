-- Local names that mean values and blocks from now on, and what is used in the end.
use Rattle.std.proofs.Common.{◌≡◌, ℕ, zero, suc, ◌+◌, ◌<◌, ◌^◌, Bool, true, false, not, List, [], ◌∷◌, ◌++◌, length, drop, slice_get, if◌then◌else◌, Option, None, Some, refl, sym, ap, subst, ◌∙◌, arith, inl, inr}
use Rattle.std.specs.Prelude.{nat_lt, slice_set, ◌==◌}
use Rattle.std.specs.Fmt.{decimal}
use Rattle.std.proofs.lemmas.Bool.Decides.{nat_tests}
use Rattle.std.proofs.lemmas.Option.{slice_get_within}
use Rattle.std.proofs.lemmas.List.{length-set}
use Rattle.lemmas.specs.Lists.{in_longer, last_in, IsIn, get_end, set_here, set_either}
use Rattle.ir_ast.specs.declared.function.LocalSort.{LocalSort}
use Rattle.ir_ast.specs.declared.function.LocalSort.TheVariants as local
use Rattle.ir_forms.specs.Table.{defined}
use Rattle.ir_forms.specs.declared.table.Table.{Table}
use Rattle.ir_forms.specs.declared.uses.Wanted.{Wanted}
use Rattle.ir_forms.specs.declared.uses.Wanted.TheVariants as wants
use Rattle.ir_forms.specs.Names.{is_local, is_wanted}
use Rattle.ir_tokens.specs.Bytes.{Text}
use Rattle.ir_print_law.proofs.DefinedNames.{Defines, IsNameKey, defines_name, defines_number, number_is_new}
use Rattle.ir_print_law.proofs.LocalNames.{Locals, IsSortOf, keys_at, keys_more, key_is_new, set_known}
use Rattle.ir_print_law.proofs.Reading.{Progress, with_named_value, with_named_label, IsValueSort}
use Rattle.ir_print_law.proofs.Tables.{begins_with, stays}

-- the table in which a name means this
sorted_as : (n : ℕ) (sort : LocalSort) (t : Table LocalSort) → n < length t.sorts → (P : Table LocalSort → Type 0) → P (record { names = t.names; sorts = slice_set t.sorts n sort }) → P (defined n sort t)
sorted_as n sort t less P h =
    let there : nat_lt n (length t.sorts) ≡ true = grind (arith, nat_tests) in
    subst (λ (b : Bool). P (record { names = t.names; sorts = if b then slice_set t.sorts n sort else t.sorts })) (sym there) h

value_sort : (g : Progress) (n : ℕ) (sort : LocalSort) → IsIn n g.values → IsValueSort sort → IsSortOf g n sort
value_sort g n local.Unknown there is = tt
value_sort g n (local.Value t) there is = there
value_sort g n (local.Slot held) there is = there
value_sort g n (local.Element block place) there is = there
value_sort g n (local.Block b) there is = absurd is

value_known : (sort : LocalSort) → IsValueSort sort → is_local (Some sort) ≡ true
value_known local.Unknown is = absurd is
value_known (local.Value t) is = refl
value_known (local.Slot held) is = refl
value_known (local.Element block place) is = refl
value_known (local.Block b) is = absurd is

-- the value that is pending has a type from now on
pub value_sorted : (g : Progress) (n : ℕ) (t : Table LocalSort) (unnamed : ℕ) (sort : LocalSort) → IsValueSort sort → Locals (with_named_value g n) (Some n) t unnamed
    → Locals (with_named_value g n) None (defined n sort t) unnamed
value_sorted g n t unnamed sort is h =
    let less : n < length t.sorts = (let w = h.within n (last_in n g.names) in let s = h.same in omega (arith, w, s)) in
    sorted_as n sort t less (λ x. Locals (with_named_value g n) None x unnamed) (record {
      same = length-set t.sorts n sort ∙ h.same;
      places = h.places;
      within = h.within;
      defines = h.defines;
      sorted = λ k x there. elim (set_either t.sorts n sort k x there) [
        | inl p ↦ h.sorted k x p
        | inr p ↦ subst (λ (j : ℕ). IsSortOf (with_named_value g n) j x) (sym p.0) (subst (IsSortOf (with_named_value g n) n) p.1 (value_sort (with_named_value g n) n sort (last_in n g.values) is))
      ];
      known = λ k there. elim (h.known k there) [
        | inl p ↦ inl (set_known t.sorts n sort k (value_known sort is) p)
        | inr p ↦ inl (let same : n ≡ k = cc in subst (λ (j : ℕ). is_local (slice_get (slice_set t.sorts n sort) j) ≡ true) same (ap is_local (set_here t.sorts n sort less) ∙ value_known sort is))
      ];
    })

label_further : (g : Progress) (n k : ℕ) (sort : LocalSort) → IsSortOf g k sort → IsSortOf (with_named_label g n) k sort
label_further g n k local.Unknown h = tt
label_further g n k (local.Value t) h = h
label_further g n k (local.Slot held) h = h
label_further g n k (local.Element block place) h = h
label_further g n k (local.Block b) h = stays g.labels (g.labels ++ n ∷ []) b k (begins_with g.labels (n ∷ [])) h

labelled : (g : Progress) (t : Table LocalSort) (unnamed next n : ℕ) → n < length t.names → Locals g None t unnamed → Defines [] 0 (keys_at t.names (g.names ++ n ∷ [])) next
    → Locals (with_named_label g n) None (defined n (local.Block (length g.labels)) t) next
labelled g t unnamed next n within h defines =
    let sort = local.Block (length g.labels) in
    let less : n < length t.sorts = (let s = h.same in omega (arith, within, s)) in
    sorted_as n sort t less (λ x. Locals (with_named_label g n) None x next) (record {
      same = length-set t.sorts n sort ∙ h.same;
      places = h.places;
      within = λ k there. elim (in_longer k g.names n there) [
        | inl p ↦ h.within k p
        | inr p ↦ subst (λ (x : ℕ). x < length t.names) (sym p) within
      ];
      defines = defines;
      sorted = λ k x there. elim (set_either t.sorts n sort k x there) [
        | inl p ↦ label_further g n k x (h.sorted k x p)
        | inr p ↦ subst (λ (j : ℕ). IsSortOf (with_named_label g n) j x) (sym p.0) (subst (IsSortOf (with_named_label g n) n) p.1 (get_end g.labels n))
      ];
      known = λ k there. elim (in_longer k g.names n there) [
        | inl p ↦ elim (h.known k p) [
          | inl is ↦ inl (set_known t.sorts n sort k refl is)
          | inr is ↦ absurd cc
        ]
        | inr p ↦ inl (subst (λ (j : ℕ). is_local (slice_get (slice_set t.sorts n sort) j) ≡ true) (sym p) (ap is_local (set_here t.sorts n sort less)))
      ];
    })

-- a label that means nothing so far
pub label_named : (g : Progress) (t : Table LocalSort) (unnamed : ℕ) (key : Text) (n : ℕ) → Locals g None t unnamed → slice_get t.names n ≡ Some key → is_local (slice_get t.sorts n) ≡ false → IsNameKey key
    → Locals (with_named_label g n) None (defined n (local.Block (length g.labels)) t) unnamed
label_named g t unnamed key n h at none is =
    let new = key_is_new g t unnamed key n h at none in
    let less = slice_get_within t.names n key at in
    labelled g t unnamed unnamed n less h
    (subst (λ (l : List Text). Defines [] 0 l unnamed) (sym (keys_more t.names g.names n key at)) (defines_name [] 0 (keys_at t.names g.names) unnamed key h.defines new is))

-- a label that has the next number
pub label_numbered : (g : Progress) (t : Table LocalSort) (unnamed n : ℕ) → unnamed < 2 ^ 64 → Locals g None t unnamed → slice_get t.names n ≡ Some (decimal unnamed)
    → Locals (with_named_label g n) None (defined n (local.Block (length g.labels)) t) (unnamed + 1)
label_numbered g t unnamed n few h at =
    let key = decimal unnamed in
    let new = number_is_new [] 0 (keys_at t.names g.names) unnamed few h.defines in
    let less = slice_get_within t.names n key at in
    labelled g t unnamed (unnamed + 1) n less h
    (subst (λ (l : List Text). Defines [] 0 l (unnamed + 1)) (sym (keys_more t.names g.names n key at)) (defines_number [] 0 (keys_at t.names g.names) unnamed key h.defines new refl))

-- ---- what is used

-- what a name may be used as
abbrev pub used : Progress → Wanted → List ℕ
used g wants.Value = g.values
used g wants.Block = g.labels
used g wants.Target = drop 1 g.labels

pub in_list : (xs : List ℕ) (b n : ℕ) → slice_get xs b ≡ Some n → IsIn n xs
in_list [] b n e = absurd cc
in_list (x ∷ xs) zero n e = inl cc
in_list (x ∷ xs) (suc b) n e = inr (in_list xs b n e)

in_rest : (xs : List ℕ) (b n : ℕ) → not (b == 0) ≡ true → slice_get xs b ≡ Some n → IsIn n (drop 1 xs)
in_rest [] b n some e = absurd cc
in_rest (x ∷ xs) zero n some e = absurd cc
in_rest (x ∷ xs) (suc b) n some e = in_list xs b n e

-- a name that means what is wanted in the end is one of those
pub wanted_is : (g : Progress) (t : Table LocalSort) (unnamed : ℕ) (wanted : Wanted) (n : ℕ) → Locals g None t unnamed → is_wanted wanted (slice_get t.sorts n) ≡ true → IsIn n (used g wanted)
wanted_is g t unnamed wanted n h is = by wanted (slice_get t.sorts n) is (h.sorted n) where
  by : (wanted : Wanted) (x : Option LocalSort) → is_wanted wanted x ≡ true → ((sort : LocalSort) → x ≡ Some sort → IsSortOf g n sort) → IsIn n (used g wanted)
  by wanted None e s = absurd cc
  by wanted (Some local.Unknown) e s = absurd cc
  by wants.Value (Some (local.Value t)) e s = s (local.Value t) refl
  by wants.Block (Some (local.Value t)) e s = absurd cc
  by wants.Target (Some (local.Value t)) e s = absurd cc
  by wants.Value (Some (local.Slot held)) e s = s (local.Slot held) refl
  by wants.Block (Some (local.Slot held)) e s = absurd cc
  by wants.Target (Some (local.Slot held)) e s = absurd cc
  by wants.Value (Some (local.Element block place)) e s = s (local.Element block place) refl
  by wants.Block (Some (local.Element block place)) e s = absurd cc
  by wants.Target (Some (local.Element block place)) e s = absurd cc
  by wants.Value (Some (local.Block b)) e s = absurd cc
  by wants.Block (Some (local.Block b)) e s = in_list g.labels b n (s (local.Block b) refl)
  by wants.Target (Some (local.Block b)) e s = in_rest g.labels b n e (s (local.Block b) refl)
