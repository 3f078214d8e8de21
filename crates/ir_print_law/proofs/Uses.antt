-- Uses of names that are right in the end.
use Rattle.std.proofs.Common.{◌≡◌, ℕ, Bool, true, false, not, List, [], ◌∷◌, slice_get, Option, None, Some, refl, sym, ap, subst, ◌∙◌, inl, inr}
use Rattle.std.specs.Prelude.{find, option_map, if◌then◌else◌}
use Rattle.lemmas.specs.Bools.{not_false}
use Rattle.lemmas.specs.Lists.{in_first, IsIn}
use Rattle.ir_ast.specs.declared.function.LocalSort.{LocalSort}
use Rattle.ir_forms.specs.declared.fault.Fault.{Fault}
use Rattle.ir_forms.specs.declared.table.Table.{Table}
use Rattle.ir_forms.specs.declared.uses.LocalUse.{LocalUse}
use Rattle.ir_forms.specs.declared.uses.StructUse.{StructUse}
use Rattle.ir_forms.specs.declared.uses.SymbolUse.{SymbolUse}
use Rattle.ir_forms.specs.declared.input.Input.{Input}
use Rattle.ir_forms.specs.Names.{is_wanted, first_missing}
use Rattle.ir_text.specs.Late.{is_right_symbol, is_right_struct, function_operand, wrong_symbol, wrong_struct, earliest, first_of_faults, late_fault}
use Rattle.ir_print_law.proofs.Tables.{Begins}

none_found : {A : Type 0} (p : A → Bool) (xs : List A) → find p xs ≡ None → (x : A) → IsIn x xs → p x ≡ false
none_found p [] e x there = absurd there
none_found p (y ∷ xs) e x there = by (p y) refl e (λ h there. none_found p xs h x there) where
  by : (t : Bool) → p y ≡ t → (if t then Some y else find p xs) ≡ None → (find p xs ≡ None → IsIn x xs → p x ≡ false) → p x ≡ false
  by true is h further = absurd cc
  by false is h further = elim there [
    | inl same ↦ ap p same ∙ is
    | inr there ↦ further h there
  ]

-- what is none with something made of it is none
pub none_mapped : {A B : Type 0} (g : A → B) (x : Option A) → option_map g x ≡ None → x ≡ None
none_mapped g None e = refl
none_mapped g (Some x) e = absurd cc

pub in_later : {A : Type 0} (xs ys : List A) (x : A) → Begins xs ys → IsIn x xs → IsIn x ys
in_later {A = A} xs ys x b there = subst (λ (l : List A). IsIn x l) (sym b.1) (in_first x xs b.0 there)

-- each use of a local name is right where none is missing
pub local_right : (t : Table LocalSort) (uses : List LocalUse) → first_missing t uses ≡ None → (u : LocalUse) → IsIn u uses → is_wanted u.wanted (slice_get t.sorts u.value) ≡ true
local_right t uses e u there =
    let p = λ (u : LocalUse). not (is_wanted u.wanted (slice_get t.sorts u.value)) in
    not_false (is_wanted u.wanted (slice_get t.sorts u.value)) (none_found p uses (none_mapped (λ (u : LocalUse). u.start) (find p uses) e) u there)

pub symbol_right : (i : Input) → wrong_symbol i ≡ None → (u : SymbolUse) → IsIn u i.symbol_uses → is_right_symbol i u ≡ true
symbol_right i e u there =
    let p = λ (u : SymbolUse). not (is_right_symbol i u) in
    not_false (is_right_symbol i u) (none_found p i.symbol_uses (none_mapped (λ (u : SymbolUse). u.start) (find p i.symbol_uses) e) u there)

pub struct_right : (i : Input) → wrong_struct i ≡ None → (u : StructUse) → IsIn u i.struct_uses → is_right_struct i u ≡ true
struct_right i e u there =
    let p = λ (u : StructUse). not (is_right_struct i u) in
    not_false (is_right_struct i u) (none_found p i.struct_uses (none_mapped (λ (u : StructUse). u.start) (find p i.struct_uses) e) u there)

none_earlier : (x y : Option ℕ) → earliest x y ≡ None → (x ≡ None) × (y ≡ None)
none_earlier None y e = (refl, e)
none_earlier (Some a) None e = absurd cc
none_earlier (Some a) (Some b) e = absurd cc

none_first : (x : Option Fault) (y : Option ℕ) → first_of_faults x y ≡ None → y ≡ None
none_first None None e = refl
none_first None (Some p) e = absurd cc
none_first (Some f) y e = absurd cc

-- without a late fault, nothing is missing and each use is right
pub nothing_late : (i : Input) → late_fault i ≡ None → (i.missing ≡ None) × (wrong_symbol i ≡ None) × (wrong_struct i ≡ None)
nothing_late i e =
    let a = none_first (function_operand i) (earliest (earliest i.missing (wrong_symbol i)) (wrong_struct i)) e in
    let b = none_earlier (earliest i.missing (wrong_symbol i)) (wrong_struct i) a in
    let c = none_earlier i.missing (wrong_symbol i) b.0 in
    (c.0, c.1, b.1)
