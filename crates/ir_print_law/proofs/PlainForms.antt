-- Forms that read more in the wide forms read what is plain as simpler forms do.
use Rattle.std.proofs.Common.{◌≡◌, Bool, true, false, None, refl, sym, ap, subst, ◌∙◌}
use Rattle.ir_tokens.specs.declared.token.Kind.{Kind}
use Rattle.ir_tokens.specs.declared.token.Kind.TheVariants as k
use Rattle.ir_forms.specs.Calls.{begins_signature, signature_by, signature}
use Rattle.ir_forms.specs.Cursor.{kind, sees, same_kind}
use Rattle.ir_forms.specs.Written as w
use Rattle.ir_forms.specs.Written.{firm, type_within, starred, scalar_within, scalar, type_before, result_by, result_type}
use Rattle.ir_forms.specs.declared.input.Input.{Input}
use Rattle.ir_forms.specs.declared.written.WrittenType.{WrittenType}
use Rattle.ir_print_law.proofs.Undropped.{and_last}

-- ---- the type of a call's result

pub result_said : (i : Input) (p : WrittenType) (o : Input) → scalar.says i p o → result_type.says i p o
unfolding scalar scalar_within type_within firm starred type_before result_type
result_said i p o h = by i.wide where
  by : (wide : Bool) → (result_by wide).says i p o
  by false = h
  by true = let t = h.2.3 in (h.0, h.1, (h.2.0, h.2.1, h.2.2, (t.0, t.1, t.2, (t.3.3.0, t.3.2.1 ∙ t.3.3.1))), h.3)

-- ---- the types of a function's parameters

-- there are none before its name
pub signature_said : (i : Input) → kind i.cursor ≡ k.GlobalName → signature.says i None i
unfolding signature begins_signature sees same_kind
signature_said i is =
    subst (λ (t : Bool). (signature_by t).says i None i) (sym (and_last i.wide (same_kind (kind i.cursor) k.OpenRound) (ap (λ (x : Kind). same_kind x k.OpenRound) is))) (refl, refl)
