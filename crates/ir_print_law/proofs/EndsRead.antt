-- Ends of blocks that write no type are read as they were printed.
use Rattle.std.proofs.Common.{◌≡◌, ℕ, Bool, [], ◌∷◌, ◌++◌, refl, sym, subst}
use Rattle.std.specs.Prelude.{codes}
use Rattle.ir_tokens.specs.declared.token.Kind.{Kind}
use Rattle.ir_tokens.specs.declared.token.Kind.TheVariants as k
use Rattle.ir_tokens.specs.Bytes.{Text, class_of}
use Rattle.ir_tokens.specs.Keywords.{word_kind, keywords}
use Rattle.ir_ast.specs.declared.ends.End.{End}
use Rattle.ir_ast.specs.declared.ends.End.TheVariants.{Jump, Unreachable, ReturnVoid}
use Rattle.ir_forms.specs.Cursor.{kind}
use Rattle.ir_forms.specs.declared.input.Input.{Input}
use Rattle.ir_forms.specs.Input.{advanced, skip}
use Rattle.ir_forms.specs.Names.{target}
use Rattle.grammar.specs.Grammar.{pure, ◌>>◌}
use Rattle.ir_forms.specs.Ends.{terminator, terminator_by, br, br_after, jump, branch, ret, ret_after, returned_value}
use Rattle.ir_forms.specs.Decorations.{either}
use Rattle.ir_print_law.specs.Ends.{JumpsAreRead, EmptyReturnsAreRead, UnreachablesAreRead}
use Rattle.ir_print.specs.Names.{local_text}
use Rattle.ir_print_law.specs.Stands.{Stands}
use Rattle.ir_print_law.proofs.NamesRead.{targets_are_read}
use Rattle.ir_print_law.proofs.Words.{word_comes, seen}

-- the word tells how the block ends
by_word : (x : Kind) (i o : Input) (end : End) → kind i.cursor ≡ x → (terminator_by x).says i end o → terminator.says i end o
unfolding terminator
by_word x i o end e h = subst (λ (y : Kind). (terminator_by y).says i end o) (sym e) h

jump_after : (i o : Input) (n : ℕ) → kind i.cursor ≡ k.Label → target.says i n o → br_after.says i (Jump n) o
jump_after i o n e h = subst (λ (t : Bool). (either jump branch t).says i (Jump n) o) (sym (seen k.Label i e)) (n, o, h, (refl, refl))

label_kind : (i : Input) (afterwards : Text) → Stands i.cursor ((32 ∷ []) ++ (codes "label" ++ 32 ∷ afterwards)) → kind i.cursor ≡ k.Label
unfolding word_kind keywords class_of
label_kind i afterwards at = (word_comes i.cursor (32 ∷ []) (codes "label") (32 ∷ afterwards) refl refl refl at).0

pub jumps_are_read : JumpsAreRead
unfolding br word_kind keywords class_of
jumps_are_read m locals label i gap rest is less blanks seam at =
    let w = word_comes i.cursor gap (codes "br") (32 ∷ (codes "label" ++ 32 ∷ (local_text locals label ++ rest))) blanks refl refl at in
    let t = targets_are_read locals label (advanced i) (32 ∷ []) rest is less refl seam w.3 in
    let e = label_kind (advanced i) (local_text locals label ++ rest) w.3 in
    (by_word k.Br i _ _ w.0 (tt, advanced i, (refl, refl), jump_after (advanced i) _ _ e t.0), t.2)

pub empty_returns_are_read : EmptyReturnsAreRead
unfolding ret word_kind keywords class_of
empty_returns_are_read m locals i gap rest blanks seam at =
    let w = word_comes i.cursor gap (codes "ret") (32 ∷ (codes "void" ++ rest)) blanks refl refl at in
    let v = word_comes (advanced i).cursor (32 ∷ []) (codes "void") rest refl refl seam w.3 in
    let o = advanced (advanced i) in
    let afterwards : ret_after.says (advanced i) ReturnVoid (advanced (advanced i)) =
    subst (λ (t : Bool). (either (skip >> pure ReturnVoid) returned_value t).says (advanced i) ReturnVoid (advanced (advanced i))) (sym (seen k.Void (advanced i) v.0)) (tt, o, (refl, refl), (refl, refl)) in
    (by_word k.Ret i o ReturnVoid w.0 (tt, advanced i, (refl, refl), afterwards), v.3)

pub unreachables_are_read : UnreachablesAreRead
unfolding word_kind keywords
unreachables_are_read m locals i gap rest blanks seam at =
    let w = word_comes i.cursor gap (codes "unreachable") rest blanks refl seam at in
    (by_word k.Unreachable i (advanced i) Unreachable w.0 (tt, advanced i, (refl, refl), (refl, refl)), w.3)
