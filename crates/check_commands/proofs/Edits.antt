-- Sessions under edits, and the lines that are printed of them.
use Rattle.std.proofs.Common.{◌≡◌, ◌∙◌, ℕ, zero, suc, ◌+◌, List, [], ◌∷◌, ◌++◌, Some, take, slice_get, unwrap_or, refl, sym, ap, subst, append_assoc, append-nil, arith}
use Rattle.ir_ast.specs.declared.module.Module.{Module}
use Rattle.certs.specs.declared.certs.Certs.{Certs}
use Rattle.module_check.specs.Accepted.{IsLayoutReason, shaped}
use Rattle.recheck.specs.declared.edit.Edit.{Edit}
use Rattle.module_check.specs.declared.verdict.Reason.{Reason}
use Rattle.module_check.specs.declared.verdict.Reason.TheVariants as verdict
use Rattle.recheck.specs.Session.{State}
use Rattle.check_commands.specs.EditedFiles.{OfRechecked, no_session, not_rechecked}
use Rattle.reports.specs.Said.{OnError}
use Rattle.reports.specs.Report.{of_layout_reason}
use Rattle.check_commands.specs.Rechecks.{OfEdit, OfEdits}

-- the edits before a place, and then the one there, counted from some number
edits_from : (n : ℕ) (s t u : State) (edits : List Edit) (i : ℕ) (e : Edit) (told line : List ℕ) → slice_get edits i ≡ Some e
    → OfEdits n s (take i edits) t told → OfEdit (n + i) t e u line → OfEdits n s (take (suc i) edits) u (told ++ line)
edits_from n s t u [] i e told line at before one = absurd cc
edits_from n s t u (first ∷ edits) zero e told line at before one =
    let same : first ≡ e = ap (λ o. unwrap_or o first) at in
    let there : n + 0 ≡ n = omega arith in
    let own = subst (λ k. OfEdit k s first u line) there (subst (λ d. OfEdit (n + 0) s d u line) (sym same) (subst (λ r. OfEdit (n + 0) r e u line) (sym before.0) one)) in
    (u, line, [], own, (refl, refl), ap (λ l. l ++ line) before.1 ∙ sym (append-nil line))
edits_from n s t u (first ∷ edits) (suc i) e told line at before one =
    let there : n + suc i ≡ n + 1 + i = omega arith in
    let next = before.0 in
    let own = before.1 in
    let rest = before.2 in
    let more = edits_from (n + 1) next t u edits i e rest line at before.4 (subst (λ k. OfEdit k t e u line) there one) in
    (next, own, rest ++ line, before.3, more, ap (λ l. l ++ line) before.5 ∙ append_assoc own rest line)

-- and counted from 1
pub edits_next : (s t u : State) (edits : List Edit) (i : ℕ) (e : Edit) (told line : List ℕ) → slice_get edits i ≡ Some e
    → OfEdits 1 s (take i edits) t told → OfEdit (i + 1) t e u line → OfEdits 1 s (take (i + 1) edits) u (told ++ line)
edits_next s t u edits i e told line at before one =
    let number : i + 1 ≡ 1 + i = omega arith in
    let place : suc i ≡ i + 1 = omega arith in
    subst (λ k. OfEdits 1 s (take k edits) u (told ++ line)) place (edits_from 1 s t u edits i e told line at before (subst (λ k. OfEdit k t e u line) number one))

-- what is printed where no session begins
pub unbegun : (m : Module) (certs : Certs) (edits : List Edit) (v : Reason) → IsLayoutReason (shaped m certs) v → OfRechecked m certs edits (OnError (of_layout_reason m v))
unbegun m certs edits (verdict.Refused refusal) h = absurd h
unbegun m certs edits (verdict.Layout fault) h = no_session fault h
unbegun m certs edits verdict.Memory h = not_rechecked
