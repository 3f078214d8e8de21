-- No call that is printed is one that is dropped.
use Rattle.std.proofs.Common.{◌≡◌, Bool, true, false, not, if◌then◌else◌, ◌∷◌, Option, None, Some, refl, ap, ◌∙◌}
use Rattle.std.specs.Prelude.{◌&&◌, ◌||◌, nat_le, length, take, drop, codes}
use Rattle.std.specs.Str.{bytes_eq}
use Rattle.ir_ast.specs.RuntimeNames.{runtime_of}
use Rattle.ir_ast.specs.declared.runtime.Runtime.{Runtime}
use Rattle.ir_ast.specs.declared.runtime.Runtime.TheVariants as runtime
use Rattle.ir_tokens.specs.Bytes.{Text}
use Rattle.ir_tokens.specs.declared.token.Kind.{Kind}
use Rattle.ir_tokens.specs.declared.token.Kind.TheVariants as k
use Rattle.ir_forms.specs.Cursor.{kind, kind_after, kind_third, name, name_third, next, same_kind, sees, spelling}
use Rattle.ir_forms.specs.Place.{Place}
use Rattle.ir_forms.specs.Intrinsics.{is_intrinsic, may_be_named, is_left_out, has_no_effect, is_dropped}
use Rattle.ir_forms.specs.Records.{is_tail, calls_dropped, drops_at, begins_record}
use Rattle.ir_forms.specs.StandIns.{stand_in, stand_in_by}
use Rattle.ir_forms.specs.declared.input.Input.{Input}
use Rattle.ir_forms.specs.declared.stand_ins.StandIn.TheVariants.{Itself}
use Rattle.name_text.specs.Names.{is_plain, quoted_text, name_text}
use Rattle.name_text.specs.declared.blank.Blank.TheVariants as blank
use Rattle.ir_print_law.specs.Stands.{Stands}
use Rattle.ir_print_law.proofs.OneKind.{and_false}

-- ---- names

pub and_last : (a b : Bool) → b ≡ false → (a && b) ≡ false
and_last true b e = e
and_last false b e = refl

-- what may stand in a text may stand in one of the wide forms
kept_by : (wide : Bool) (named : Option Runtime) (intrinsic : Bool) → (intrinsic && not (may_be_named wide named)) ≡ false → (intrinsic && not (may_be_named true named)) ≡ false
kept_by wide named false e = refl
kept_by true named true e = e
kept_by false None true e = absurd cc
kept_by false (Some (runtime.Integer function bits)) true e = absurd cc
kept_by false (Some (runtime.Float function bits)) true e = absurd cc
kept_by false (Some runtime.Alloc) true e = refl
kept_by false (Some runtime.Safepoint) true e = refl
kept_by false (Some runtime.GcRoot) true e = refl
kept_by false (Some runtime.GcRead) true e = refl
kept_by false (Some runtime.GcWrite) true e = refl

-- no name of an intrinsic begins with a quote
quote_kept : (bytes : Text) → is_left_out true (34 ∷ bytes) ≡ false
quote_kept bytes =
    and_false (is_intrinsic (34 ∷ bytes)) (not (may_be_named true (runtime_of (34 ∷ bytes))))
    (and_last (nat_le 5 (length (34 ∷ bytes))) (bytes_eq (take 5 (34 ∷ bytes)) (codes "llvm.")) refl)

-- a name that is not left out is not left out as it is printed
pub printed_kept : (wide : Bool) (name : Text) → is_left_out wide name ≡ false → is_left_out true (name_text blank.Kept name) ≡ false
printed_kept wide name e = by (is_plain name) where
  by : (t : Bool) → is_left_out true (if t then name else quoted_text blank.Kept name) ≡ false
  by true = kept_by wide (runtime_of name) (is_intrinsic name) e
  by false = quote_kept _

-- so a call of it is not dropped
pub printed_not_dropped : (wide : Bool) (name : Text) → is_left_out wide name ≡ false → is_dropped (name_text blank.Kept name) ≡ false
printed_not_dropped wide name e = and_false (is_left_out true (name_text blank.Kept name)) (has_no_effect (name_text blank.Kept name)) (printed_kept wide name e)

-- and nothing else stands in its place
stands_itself : (i : Input) → is_left_out true (name i.cursor) ≡ false → stand_in i ≡ Itself
stands_itself i e = ap (λ (b : Bool). if i.wide && sees k.GlobalName i.cursor then stand_in_by b (name i.cursor) else Itself) e ∙ by (i.wide && sees k.GlobalName i.cursor) where
  by : (t : Bool) → (if t then stand_in_by false (name i.cursor) else Itself) ≡ Itself
  by true = refl
  by false = refl

pub printed_itself : (wide : Bool) (called : Text) (i : Input) → is_left_out wide called ≡ false → spelling i.cursor ≡ 64 ∷ name_text blank.Kept called → stand_in i ≡ Itself
unfolding name
printed_itself wide called i e is = stands_itself i (ap (is_left_out true) (ap (drop 1) is) ∙ printed_kept wide called e)

-- ---- tokens

-- a call begins with a token of this kind
abbrev pub begins_call : Kind → Bool
begins_call k.Call = true
begins_call k.Tail = true
begins_call k.Notail = true
begins_call _ = false

no_tail : (x : Kind) → begins_call x ≡ false → is_tail x ≡ false
no_tail k.Tail e = absurd cc
no_tail k.Notail e = absurd cc
no_tail _ e = refl

no_call : (x : Kind) → begins_call x ≡ false → same_kind x k.Call ≡ false
unfolding same_kind
no_call k.Call e = absurd cc
no_call _ e = refl

-- where no call comes next, none that is dropped does
pub no_call_comes : (c : Place) → begins_call (kind c) ≡ false → drops_at c ≡ false
no_call_comes c e =
    ap (λ (t : Bool). if t then calls_dropped (next c) else calls_dropped c) (no_tail (kind c) e)
    ∙ and_false (same_kind (kind c) k.Call) (same_kind (kind_after c) k.Void && (same_kind (kind_third c) k.GlobalName && is_dropped (name_third c))) (no_call (kind c) e)

-- nor where the call that comes next is one of another name
pub other_call_comes : (c : Place) → kind c ≡ k.Call → is_dropped (name_third c) ≡ false → drops_at c ≡ false
other_call_comes c is e =
    ap (λ (x : Kind). if is_tail x then calls_dropped (next c) else calls_dropped c) is
    ∙ and_last (same_kind (kind c) k.Call) (same_kind (kind_after c) k.Void && (same_kind (kind_third c) k.GlobalName && is_dropped (name_third c)))
    (and_last (same_kind (kind_after c) k.Void) (same_kind (kind_third c) k.GlobalName && is_dropped (name_third c)) (and_last (same_kind (kind_third c) k.GlobalName) (is_dropped (name_third c)) e))

-- no call that is dropped comes next
abbrev pub Undropped : Text → Type 0
Undropped rest = (i : Input) → Stands i.cursor rest → drops_at i.cursor ≡ false

-- nothing begins here that has no effect
pub no_record : (i : Input) → sees k.DebugRecord i.cursor ≡ false → drops_at i.cursor ≡ false → begins_record i ≡ false
no_record i none undropped = ap (λ (x : Bool). x || (i.wide && drops_at i.cursor)) none ∙ and_last i.wide (drops_at i.cursor) undropped
