-- The fault with which the text of one function is refused.
use Rattle.std.proofs.Common.{◌≡◌, ◌≢◌, ◌∙◌, ℕ, List, Some, Ok, Err, ap, sym}
use Rattle.ir_tokens.specs.Bytes.{Text}
use Rattle.ir_tokens.specs.declared.lexed.Lexed.{Lexed}
use Rattle.ir_ast.specs.declared.items_of_module.SymbolSort.{SymbolSort}
use Rattle.copies.specs.declared.tables.Tables.{Tables}
use Rattle.ir_forms.specs.declared.fault.Fault.{Fault}
use Rattle.ir_forms.specs.declared.fault.Fault.TheVariants.{Memory}
use Rattle.ir_forms.specs.declared.input.Input.{Input}
use Rattle.ir_text.specs.Anew.{anew, answered_anew, judged_anew, read_anew, start_anew, with_sorts}
use Rattle.ir_text.specs.Late.{late_fault}
use Rattle.ir_text.specs.Read.{located}
use Rattle.ir_text.specs.declared.read_fault.ReadFault.{ReadFault}
use Rattle.ir_text.specs.declared.read_fault.ReadFault.TheVariants as shown

-- a name has a fault
pub refused_late : (t : Tables) (func : ℕ) (name bytes : Text) (lexed : Lexed) (start o : Input) (sorts : List SymbolSort) (f : Fault) (e : ReadFault) → start ≡ start_anew t func bytes lexed
    → (anew func name).read start ≡ Ok (tt, o) → sorts ≡ t.sorts → late_fault (with_sorts sorts o) ≡ Some f → e ≡ located bytes f → read_anew t func name bytes lexed ≡ Err e
unfolding read_anew
refused_late t func name bytes lexed start o sorts f e begun read same late is =
    ap (λ (i : Input). answered_anew t bytes ((anew func name).read i)) (sym begun) ∙ ap (answered_anew t bytes) read
    ∙ ap (judged_anew t bytes o) (ap (λ (s : List SymbolSort). late_fault (with_sorts s o)) (sym same) ∙ late) ∙ ap Err (sym is)

-- a form breaks
pub refused_form : (t : Tables) (func : ℕ) (name bytes : Text) (lexed : Lexed) (start : Input) (f g : Fault) (e : ReadFault) → start ≡ start_anew t func bytes lexed
    → Some g ≡ Some f → (g ≢ Memory → (anew func name).read start ≡ Err g) → e ≢ shown.Memory → e ≡ located bytes f → read_anew t func name bytes lexed ≡ Err e
unfolding read_anew
refused_form t func name bytes lexed start f g e begun given read not_memory is =
    let same : g ≡ f = cc in
    let broken = read (λ memory. not_memory (is ∙ ap (located bytes) (sym same ∙ memory))) in
    ap (λ (i : Input). answered_anew t bytes ((anew func name).read i)) (sym begun) ∙ ap (answered_anew t bytes) (broken ∙ ap Err same) ∙ ap Err (sym is)
