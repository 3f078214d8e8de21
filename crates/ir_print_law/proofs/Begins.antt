-- With which token a line of a function's body begins.
use Rattle.std.proofs.Common.{◌≡◌, true, false, List, [], ◌∷◌, ◌++◌, refl, ap, subst, ◌∙◌, inl, inr, ◌⊎◌}
use Rattle.std.specs.Prelude.{codes}
use Rattle.ir_ast.specs.declared.ends.End.{End}
use Rattle.ir_ast.specs.declared.ends.End.TheVariants as end
use Rattle.ir_ast.specs.declared.function.Function.{Function}
use Rattle.ir_ast.specs.declared.module.Module.{Module}
use Rattle.ir_ast.specs.declared.op.Op.{Op}
use Rattle.ir_ast.specs.declared.op.Op.TheVariants as op
use Rattle.ir_tokens.specs.declared.token.Kind.{Kind}
use Rattle.ir_tokens.specs.declared.token.Kind.TheVariants as k
use Rattle.ir_tokens.specs.Bytes.{Text, class_of}
use Rattle.ir_tokens.specs.Keywords.{word_kind, keywords}
use Rattle.ir_forms.specs.Cursor.{kind, same_kind}
use Rattle.ir_forms.specs.Place.{Place}
use Rattle.ir_forms.specs.Ends as ends
use Rattle.ir_forms.specs.Records.{drops_at}
use Rattle.ir_print.specs.Ends.{end_text}
use Rattle.ir_print.specs.Instructions.{op_text}
use Rattle.ir_print.specs.Names.{key_text}
use Rattle.ir_print_law.specs.Readings.{IsKey}
use Rattle.ir_print_law.specs.Stands.{Stands, IsSeam, AreBlanks}
use Rattle.ir_print_law.proofs.NamesRead.{digits_text, name_key_text}
use Rattle.ir_print_law.proofs.Words.{word_comes, local_comes, local_number_comes}
use Rattle.ir_print_law.specs.Printable.{IsOp, gives_value}
use Rattle.ir_print_law.proofs.Undropped.{begins_call, no_call_comes}
use Rattle.ir_print_law.proofs.OpNeeds.{begins_body_line}
use Rattle.ir_print_law.proofs.NumbersAgain.{number_no_phi}
use Rattle.ir_print_law.proofs.MemoryAgain.{memory_no_phi, plain_memory_kind}
use Rattle.ir_print_law.proofs.ElementsAgain.{element_no_phi}
use Rattle.ir_print_law.proofs.CastsAgain.{cast_no_phi}
use Rattle.ir_print_law.proofs.ChoicesAgain.{choice_no_phi}
use Rattle.ir_print_law.proofs.CallsAgain.{AreKept, call_no_phi, call_undropped, plain_call_kind}

-- a value's name begins a line
abbrev pub IsLocalKind : Kind → Type 0
IsLocalKind x = (x ≡ k.LocalName) ⊎ (x ≡ k.LocalNumber)

pub local_kind : (place : Place) (gap key rest : Text) → IsKey key → AreBlanks gap → IsSeam rest → Stands place (gap ++ 37 ∷ (key_text key ++ rest)) → IsLocalKind (kind place)
local_kind place gap key rest (inl digits) blanks seam at =
    inr (local_number_comes place gap key rest blanks digits.0 seam (subst (λ (x : Text). Stands place (gap ++ 37 ∷ (x ++ rest))) (digits_text key digits.0) at)).0
local_kind place gap key rest (inr named) blanks seam at =
    let e = named.2 in
    inl (local_comes place gap named.0 rest blanks named.1 seam (subst (λ (x : Text). Stands place (gap ++ 37 ∷ (x ++ rest))) (ap key_text e ∙ name_key_text named.0) at)).0

-- an operation without a value
pub plain_kind : (m : Module) (locals : List Text) (x : Op) (place : Place) (rest : Text) → gives_value m x ≡ false → Stands place (10 ∷ 32 ∷ 32 ∷ (op_text m locals x ++ rest))
    → (kind place ≡ k.Store) ⊎ (kind place ≡ k.Call)
plain_kind m locals (op.Memory x) place rest gives at = inl (plain_memory_kind m locals x place rest gives at)
plain_kind m locals (op.Call x) place rest gives at = inr (plain_call_kind m locals x place rest at)
plain_kind m locals (op.Number x) place rest gives at = absurd cc
plain_kind m locals (op.Element x) place rest gives at = absurd cc
plain_kind m locals (op.Cast x) place rest gives at = absurd cc
plain_kind m locals (op.Choice x) place rest gives at = absurd cc

-- an operation without a value is no call that is dropped
pub plain_undropped : (m : Module) (f : Function) → AreKept m → (x : Op) (place : Place) (rest : Text) → IsOp m f x → gives_value m x ≡ false → Stands place (10 ∷ 32 ∷ 32 ∷ (op_text m f.locals x ++ rest))
    → drops_at place ≡ false
plain_undropped m f kept (op.Memory x) place rest own gives at = no_call_comes place (ap begins_call (plain_memory_kind m f.locals x place rest gives at))
plain_undropped m f kept (op.Call x) place rest own gives at = call_undropped m f kept x place rest own gives at
plain_undropped m f kept (op.Number x) place rest own gives at = absurd cc
plain_undropped m f kept (op.Element x) place rest own gives at = absurd cc
plain_undropped m f kept (op.Cast x) place rest own gives at = absurd cc
plain_undropped m f kept (op.Choice x) place rest own gives at = absurd cc

-- an operation with a value, whose word is not that of a phi
pub value_word : (m : Module) (locals : List Text) (x : Op) (place : Place) (rest : Text) → gives_value m x ≡ true → Stands place (32 ∷ (op_text m locals x ++ 10 ∷ rest)) → same_kind (kind place) k.Phi ≡ false
value_word m locals (op.Number x) place rest gives at = number_no_phi m locals x place rest at
value_word m locals (op.Memory x) place rest gives at = memory_no_phi m locals x place rest gives at
value_word m locals (op.Element x) place rest gives at = element_no_phi m locals x place rest at
value_word m locals (op.Cast x) place rest gives at = cast_no_phi m locals x place rest at
value_word m locals (op.Choice x) place rest gives at = choice_no_phi m locals x place rest at
value_word m locals (op.Call x) place rest gives at = call_no_phi m locals x place rest at

-- the end of a block
pub end_kind : (m : Module) (locals : List Text) (x : End) (place : Place) (rest : Text) → Stands place (10 ∷ 32 ∷ 32 ∷ (end_text m locals x ++ 10 ∷ rest)) → ends.ends_block (kind place) ≡ true
unfolding class_of word_kind keywords
end_kind m locals (end.Jump target) place rest at = ap ends.ends_block (word_comes place (10 ∷ 32 ∷ 32 ∷ []) (codes "br") _ refl refl refl at).0
end_kind m locals (end.Branch condition_type condition taken other) place rest at = ap ends.ends_block (word_comes place (10 ∷ 32 ∷ 32 ∷ []) (codes "br") _ refl refl refl at).0
end_kind m locals (end.Switch written value otherwise cases) place rest at = ap ends.ends_block (word_comes place (10 ∷ 32 ∷ 32 ∷ []) (codes "switch") _ refl refl refl at).0
end_kind m locals end.Unreachable place rest at = ap ends.ends_block (word_comes place (10 ∷ 32 ∷ 32 ∷ []) (codes "unreachable") (10 ∷ rest) refl refl refl at).0
end_kind m locals end.ReturnVoid place rest at = ap ends.ends_block (word_comes place (10 ∷ 32 ∷ 32 ∷ []) (codes "ret") _ refl refl refl at).0
end_kind m locals (end.Return x) place rest at = ap ends.ends_block (word_comes place (10 ∷ 32 ∷ 32 ∷ []) (codes "ret") _ refl refl refl at).0

pub ends_begins : (x : Kind) → ends.ends_block x ≡ true → begins_body_line x ≡ true
ends_begins k.Ret e = refl
ends_begins k.Br e = refl
ends_begins k.Switch e = refl
ends_begins k.Unreachable e = refl
ends_begins _ e = absurd cc

pub ends_no_call : (x : Kind) → ends.ends_block x ≡ true → begins_call x ≡ false
ends_no_call k.Ret e = refl
ends_no_call k.Br e = refl
ends_no_call k.Switch e = refl
ends_no_call k.Unreachable e = refl
ends_no_call _ e = absurd cc
