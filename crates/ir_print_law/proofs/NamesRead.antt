-- Printed names are read as those names.
use Rattle.std.proofs.Common.{◌≡◌, ℕ, ◌<◌, ◌^◌, Bool, true, false, not, [], ◌∷◌, ◌++◌, Option, refl, ap, sym, subst, ◌∙◌, arith, inl, inr, ◌⊎◌}
use Rattle.std.specs.Prelude.{nat_lt, slice_get, option_and_then}
use Rattle.std.specs.List.{list_all}
use Rattle.std.proofs.lemmas.Bool.Decides.{nat_tests}
use Rattle.ir_tokens.specs.declared.token.Kind.{Kind}
use Rattle.ir_tokens.specs.declared.token.Kind.TheVariants as k
use Rattle.ir_tokens.specs.Bytes.{Text, is_digit}
use Rattle.ir_ast.specs.LocalKeys.{key_of_name}
use Rattle.ir_ast.specs.Names.{place_of, number_of}
use Rattle.ir_ast.specs.declared.operand.Operand.TheVariants.{Local, Global}
use Rattle.ir_ast.specs.Keys.{name_again, no_number}
use Rattle.ir_forms.specs.Cursor.{kind, next, spelled, local_key}
use Rattle.ir_forms.specs.Place.{Place}
use Rattle.ir_forms.specs.Intrinsics.{is_intrinsic, is_left_out}
use Rattle.ir_forms.specs.declared.uses.Wanted.{Wanted}
use Rattle.ir_forms.specs.declared.uses.Wanted.TheVariants as wants
use Rattle.ir_forms.specs.declared.input.Input.{Input}
use Rattle.ir_forms.specs.Names.{struct_name, struct_number, used_symbol, symbol_number, callee, used_global, used_local, local_number, used_label, used_label_by, sort_of_symbol, may_be_operand, with_struct_use, with_symbol_use, with_local_use, target, new_value, is_known_local, is_local, new_label, quoted}
use Rattle.ir_forms.specs.Operand.{operand, operand_by}
use Rattle.name_text.specs.Names.{name_text}
use Rattle.name_text.specs.declared.blank.Blank.TheVariants as blank
use Rattle.ir_print.specs.Names.{key_text}
use Rattle.std.specs.Prelude.{codes}
use Rattle.lemmas.specs.Bools.{and_parts}
use Rattle.ir_ast.specs.declared.function.LocalSort.TheVariants.{Unknown}
use Rattle.ir_forms.specs.Table.{mentioned}
use Rattle.ir_forms.specs.Input.{advanced}
use Rattle.ir_forms.specs.declared.written.Word.{Word}
use Rattle.ir_tokens.specs.Bytes.{class_of}
use Rattle.ir_tokens.specs.Keywords.{word_kind, keywords}
use Rattle.ir_print.specs.Names.{local_text}
use Rattle.ir_print_law.specs.Readings.{IsKey, LocalsAreRead, LocalOperandsAreRead, TargetsAreRead, NewValuesAreRead, LabelsAreRead, CollectorsAreRead, GlobalOperandsAreRead, CalleesAreRead, StructNamesAreRead}
use Rattle.ir_print_law.specs.Stands.{Stands, IsSeam, AreBlanks, AreDigits}
use Rattle.name_text.specs.Reading.{name_spelled, digits_spelled}
use Rattle.ir_print_law.proofs.Spelled.{label_spelled, quoted_spelled}
use Rattle.ir_print_law.proofs.Words.{global_comes, local_comes, local_number_comes, word_comes, expected, quoted_comes, label_comes, seen}

-- ---- keys

-- a number is printed as it is
pub digits_text : (key : Text) → AreDigits key → key_text key ≡ key
digits_text [] own = absurd (omega (arith, own.0))
digits_text (b ∷ key) own = let digit = (and_parts (is_digit b) (list_all is_digit key) own.1).0 in rw digit refl

-- the key of a name is printed as that name
pub name_key_text : (name : Text) → key_text (key_of_name name) ≡ name_text blank.Kept name
name_key_text name = rw (no_number name) (ap (name_text blank.Kept) (name_again name))

-- a local name or a number in its place
abbrev IsLocalKind : Kind → Type 0
IsLocalKind x = (x ≡ k.LocalName) ⊎ (x ≡ k.LocalNumber)

-- the name with this key comes next
abbrev KeyComes : Place → Text → Text → Type 0
KeyComes place key rest = IsLocalKind (kind place) × (local_key place ≡ key) × Stands (next place) rest

key_comes : (place : Place) (gap key rest : Text) → IsKey key → AreBlanks gap → IsSeam rest → Stands place (gap ++ 37 ∷ (key_text key ++ rest)) → KeyComes place key rest
unfolding local_key
key_comes place gap key rest (inl digits) blanks seam at =
    let w = local_number_comes place gap key rest blanks digits.0 seam (subst (λ (x : Text). Stands place (gap ++ 37 ∷ (x ++ rest))) (digits_text key digits.0) at) in
    let spelled_so : spelled place ≡ key = w.2 ∙ digits_spelled key digits.0.1 in
    (inr w.0, rw (w.0, spelled_so) digits.1, w.3)
key_comes place gap key rest (inr named) blanks seam at =
    let name = named.0 in
    let text : key_text key ≡ name_text blank.Kept name = ap key_text named.2 ∙ name_key_text name in
    let w = local_comes place gap name rest blanks named.1 seam (subst (λ (x : Text). Stands place (gap ++ 37 ∷ (x ++ rest))) text at) in
    let spelled_so : spelled place ≡ name = w.2 ∙ name_spelled blank.Kept name named.1 in
    (inl w.0, rw (w.0, spelled_so) (sym named.2), w.3)

-- ---- local names

pub few : (n : ℕ) → n < 2 ^ 32 → nat_lt n 4294967296 ≡ true
few n less = grind (arith, nat_tests)

local_read : (wanted : Wanted) (i : Input) (key : Text) → local_key i.cursor ≡ key → number_of key i.locals.names < 2 ^ 32 → (used_local wanted).says i (number_of key i.locals.names) (with_local_use wanted i)
unfolding used_local
local_read wanted i key e less =
    let same : local_number i ≡ number_of key i.locals.names = ap (λ (x : Text). number_of x i.locals.names) e in
    (tt, i, (ap (λ (n : ℕ). nat_lt n 4294967296) same ∙ few (number_of key i.locals.names) less, refl), (same, refl))

label_by : (wanted : Wanted) (i o : Input) (n : ℕ) → IsLocalKind (kind i.cursor) → (used_local wanted).says i n o → (used_label wanted).says i n o
unfolding used_label
label_by wanted i o n (inl e) h = subst (λ (x : Kind). (used_label_by wanted x).says i n o) (sym e) h
label_by wanted i o n (inr e) h = subst (λ (x : Kind). (used_label_by wanted x).says i n o) (sym e) h

operand_is : (bits : Word) (i o : Input) (n : ℕ) → IsLocalKind (kind i.cursor) → (used_local wants.Value).says i n o → (operand bits).says i (Local n) o
unfolding operand
operand_is bits i o n (inl e) h = subst (λ (x : Kind). (operand_by bits x).says i (Local n) o) (sym e) (n, o, h, (refl, refl))
operand_is bits i o n (inr e) h = subst (λ (x : Kind). (operand_by bits x).says i (Local n) o) (sym e) (n, o, h, (refl, refl))

pub locals_are_read : LocalsAreRead
locals_are_read wanted locals value i gap rest is less blanks seam at =
    let w = key_comes i.cursor gap _ rest is blanks seam at in
    (label_by wanted i (with_local_use wanted i) _ w.0 (local_read wanted i _ w.1 less), w.1, w.2)

pub local_operands_are_read : LocalOperandsAreRead
local_operands_are_read bits locals value i gap rest is less blanks seam at =
    let w = key_comes i.cursor gap _ rest is blanks seam at in
    (operand_is bits i (with_local_use wants.Value i) _ w.0 (local_read wants.Value i _ w.1 less), w.1, w.2)

-- `label` and the name of a block
pub targets_are_read : TargetsAreRead
unfolding target word_kind keywords class_of
targets_are_read locals label i gap rest is less blanks seam at =
    let afterwards = 32 ∷ (local_text locals label ++ rest) in
    let w = word_comes i.cursor gap (codes "label") afterwards blanks refl refl at in
    let l = locals_are_read wants.Target locals label (advanced i) (32 ∷ []) rest is less refl seam w.3 in
    ((tt, advanced i, expected k.Label i w.0, l.0), l.1, l.2)

-- the name of a value that is defined
pub new_values_are_read : NewValuesAreRead
unfolding new_value local_key
new_values_are_read name i gap rest own less is_free room blanks seam at =
    let w = local_comes i.cursor gap name rest blanks own seam at in
    let spelled_so : spelled i.cursor ≡ name = w.2 ∙ name_spelled blank.Kept name own in
    let key : local_key i.cursor ≡ key_of_name name = rw (w.0, spelled_so) refl in
    let same : local_number i ≡ number_of (key_of_name name) i.locals.names = ap (λ (x : Text). number_of x i.locals.names) key in
    let in_range = ap (λ (n : ℕ). nat_lt n 4294967296) same ∙ few (number_of (key_of_name name) i.locals.names) less in
    let unknown : not (is_known_local i) ≡ true =
    ap (λ (x : Text). not (is_local (slice_get (mentioned x Unknown i.locals).sorts (number_of x i.locals.names)))) key ∙ ap not is_free in
    let has_room : nat_lt i.values 1000000 ≡ true = grind (arith, nat_tests) in
    ((tt, i, (tt, i, (tt, i, (in_range, refl), (unknown, refl)), (has_room, refl)), (same, refl)), key, w.3)

-- the label of a block
pub labels_are_read : LabelsAreRead
unfolding new_label local_key
labels_are_read block name i gap rest own less is_free blanks at =
    let w = label_comes i.cursor gap name rest blanks own at in
    let spelled_so : spelled i.cursor ≡ name = w.2 ∙ label_spelled name own in
    let key : local_key i.cursor ≡ key_of_name name = rw (w.0, spelled_so) refl in
    let same : local_number i ≡ number_of (key_of_name name) i.locals.names = ap (λ (x : Text). number_of x i.locals.names) key in
    let in_range = ap (λ (n : ℕ). nat_lt n 4294967296) same ∙ few (number_of (key_of_name name) i.locals.names) less in
    let unknown : not (is_known_local i) ≡ true =
    ap (λ (x : Text). not (is_local (slice_get (mentioned x Unknown i.locals).sorts (number_of x i.locals.names)))) key ∙ ap not is_free in
    ((tt, i, (tt, i, (in_range, refl), (unknown, refl)), (same, refl)), key, w.3)

-- a name in quotes
pub collectors_are_read : CollectorsAreRead
unfolding quoted
collectors_are_read name i gap rest own blanks seam at =
    let w = quoted_comes i.cursor gap name rest blanks own seam at in
    ((tt, i, (seen k.Quoted i w.0, refl), (w.2 ∙ quoted_spelled name own, refl)), w.3)

-- ---- global names

symbol_read : (is_call : Bool) (i : Input) (name : Text) → spelled i.cursor ≡ name → number_of name i.symbols.names < 2 ^ 32 → (used_symbol is_call).says i (number_of name i.symbols.names) (with_symbol_use is_call i)
unfolding used_symbol
symbol_read is_call i name e less =
    let same : symbol_number i ≡ number_of name i.symbols.names = ap (λ (x : Text). number_of x i.symbols.names) e in
    (tt, i, (ap (λ (n : ℕ). nat_lt n 4294967296) same ∙ few (number_of name i.symbols.names) less, refl), (same, refl))

global_read : (bits : Word) (i : Input) (name : Text) → kind i.cursor ≡ k.GlobalName → spelled i.cursor ≡ name → is_intrinsic name ≡ false
    → may_be_operand i.wide (option_and_then (slice_get i.symbols.sorts) (place_of name i.symbols.names)) name ≡ true → number_of name i.symbols.names < 2 ^ 32
    → (operand bits).says i (Global (number_of name i.symbols.names)) (with_symbol_use false i)
unfolding operand used_global
global_read bits i name is e own stands less =
    let n = number_of name i.symbols.names in
    let o = with_symbol_use false i in
    let no_intrinsic : not (is_intrinsic (spelled i.cursor)) ≡ true = ap (λ (x : Text). not (is_intrinsic x)) e ∙ ap not own in
    let none : may_be_operand i.wide (sort_of_symbol i) (spelled i.cursor) ≡ true =
    ap (λ (x : Text). may_be_operand i.wide (option_and_then (slice_get i.symbols.sorts) (place_of x i.symbols.names)) x) e ∙ stands in
    let used : used_global.says i n o = (tt, i, (tt, i, (no_intrinsic, refl), (none, refl)), symbol_read false i name e less) in
    subst (λ (x : Kind). (operand_by bits x).says i (Global n) o) (sym is) (n, o, used, (refl, refl))

pub global_operands_are_read : GlobalOperandsAreRead
global_operands_are_read bits name i gap rest own no_intrinsic stands less blanks seam at =
    let w = global_comes i.cursor gap name rest blanks own seam at in
    let e : spelled i.cursor ≡ name = w.2 ∙ name_spelled blank.Kept name own in
    (global_read bits i name w.0 e no_intrinsic stands less, e, w.3)

callee_read : (i : Input) (name : Text) → spelled i.cursor ≡ name → is_left_out i.wide name ≡ false → number_of name i.symbols.names < 2 ^ 32 → callee.says i (number_of name i.symbols.names) (with_symbol_use true i)
unfolding callee
callee_read i name e own less =
    (tt, i, (ap (λ (x : Text). not (is_left_out i.wide x)) e ∙ ap not own, refl), symbol_read true i name e less)

pub callees_are_read : CalleesAreRead
callees_are_read name i gap rest own known less blanks seam at =
    let w = global_comes i.cursor gap name rest blanks own seam at in
    let e : spelled i.cursor ≡ name = w.2 ∙ name_spelled blank.Kept name own in
    (callee_read i name e known less, e, w.3)

-- ---- names of structs

struct_read : (i : Input) (name : Text) → spelled i.cursor ≡ name → number_of name i.struct_names.names < 2 ^ 32 → struct_name.says i (number_of name i.struct_names.names) (with_struct_use i)
unfolding struct_name
struct_read i name e less =
    let same : struct_number i ≡ number_of name i.struct_names.names = ap (λ (x : Text). number_of x i.struct_names.names) e in
    (tt, i, (ap (λ (n : ℕ). nat_lt n 4294967296) same ∙ few (number_of name i.struct_names.names) less, refl), (same, refl))

pub struct_names_are_read : StructNamesAreRead
struct_names_are_read name i gap rest own less blanks seam at =
    let w = local_comes i.cursor gap name rest blanks own seam at in
    let e : spelled i.cursor ≡ name = w.2 ∙ name_spelled blank.Kept name own in
    (struct_read i name e less, e, w.3)
