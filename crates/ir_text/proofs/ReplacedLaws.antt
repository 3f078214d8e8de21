-- What is made of a module and a function that is read anew is the module with that function, and what is refused is refused for the fault of its text.
use Rattle.std.proofs.Common.{◌≡◌, ℕ, Result, Ok, Err, ap, sym, subst, ◌∙◌}
use Rattle.std.specs.Prelude.{IfOk, IfErr, IsErrAnd, ◌≢◌}
use Rattle.ir_tokens.specs.Bytes.{Text}
use Rattle.ir_ast.specs.declared.module.Module.{Module}
use Rattle.ir_text.specs.declared.anew.Replacement.{Replacement}
use Rattle.copies.specs.declared.tables.Tables.{Tables}
use Rattle.ir_text.specs.declared.read_fault.ReadFault.{ReadFault}
use Rattle.ir_text.specs.declared.read_fault.ReadFault.TheVariants.{Memory}
use Rattle.ir_text.specs.Read.{Gives, gives_same}
use Rattle.ir_text.specs.Anew.{IsTextAnew, IsFaultAnew}
use Rattle.copies.specs.Tables.{tables_of}
use Rattle.ir_text.specs.Replaced.{name_of, with_replacement, IsReplaced, IsReplaceFault}

abbrev ok : {X : Type 0} → X → Result X ReadFault
ok x = Ok x

abbrev err : {X : Type 0} → ReadFault → Result X ReadFault
err e = Err e

same_ok : {X : Type 0} (x y : X) → ok x ≡ ok y → x ≡ y
same_ok x y same = cc

same_err : {X : Type 0} (e f : ReadFault) → err {X = X} e ≡ err {X = X} f → e ≡ f
same_err e f same = cc

ok_or_err : {X : Type 0} (x : X) (e : ReadFault) → ok x ≡ err e → ⊥
ok_or_err x e same = absurd cc

module _ (m : Module) (func : ℕ) (bytes : Text) (tables : Tables) (name : Text) (are_its : tables ≡ tables_of m) (is_its : name ≡ name_of m func) where
  of_module : (a : Replacement) → IsTextAnew tables func name bytes a → IsTextAnew (tables_of m) func (name_of m func) bytes a
  of_module a h = subst (λ (t : Tables). IsTextAnew t func (name_of m func) bytes a) are_its (subst (λ (x : Text). IsTextAnew tables func x bytes a) is_its h)

  to_tables : (a : Replacement) → IsTextAnew (tables_of m) func (name_of m func) bytes a → IsTextAnew tables func name bytes a
  to_tables a h = subst (λ (t : Tables). IsTextAnew t func name bytes a) (sym are_its) (subst (λ (x : Text). IsTextAnew (tables_of m) func x bytes a) (sym is_its) h)

  to_fault : (e : ReadFault) → IsReplaceFault m func bytes e → IsFaultAnew tables func name bytes e
  to_fault e h = subst (λ (t : Tables). IsFaultAnew t func name bytes e) (sym are_its) (subst (λ (x : Text). IsFaultAnew (tables_of m) func x bytes e) (sym is_its) h)

  -- ---- where a function is read, and the module is made with it

  pub found : (a : Replacement) (made : Result Module ReadFault) → IsTextAnew tables func name bytes a → Gives made (Ok (with_replacement m func a))
      → IfOk made (λ new. IsReplaced m func bytes new)
  found a (Ok new) h g = (a, of_module a h, same_ok (with_replacement m func a) new g)
  found a (Err e) h g = tt

  pub only : (a : Replacement) (made : Result Module ReadFault) (new : Module) → ((b : Replacement) → IsTextAnew tables func name bytes b → Gives (Ok a) (Ok b))
      → Gives made (Ok (with_replacement m func a)) → IsReplaced m func bytes new → Gives made (Ok new)
  only a made new reads g h =
      let same : a ≡ h.0 = sym (same_ok h.0 a (reads h.0 (to_tables h.0 h.1))) in
      gives_same made (Ok (with_replacement m func a)) (Ok new) g (ap (λ (x : Module). Ok x) (ap (with_replacement m func) same ∙ h.2))

  pub not_refused : (a : Replacement) (made : Result Module ReadFault) → Gives made (Ok (with_replacement m func a)) → IfErr made (λ e. e ≢ Memory → IsReplaceFault m func bytes e)
  not_refused a (Ok new) g = tt
  not_refused a (Err e) g = λ ne. absurd (ok_or_err (with_replacement m func a) e (g ne))

  pub no_fault : (a : Replacement) (made : Result Module ReadFault) (f : ReadFault) → ((b : ReadFault) → IsFaultAnew tables func name bytes b → Gives (Ok a) (Err b))
      → IsReplaceFault m func bytes f → Gives made (Err f)
  no_fault a made f fails h = absurd (ok_or_err a f (sym (fails f (to_fault f h))))

  -- ---- where the text is refused

  pub fault : (e : ReadFault) → (e ≢ Memory → IsFaultAnew tables func name bytes e) → e ≢ Memory → IsReplaceFault m func bytes e
  fault e h ne = subst (λ (t : Tables). IsFaultAnew t func (name_of m func) bytes e) are_its (subst (λ (x : Text). IsFaultAnew tables func x bytes e) is_its (h ne))

  pub no_text : (e : ReadFault) (new : Module) → ((b : Replacement) → IsTextAnew tables func name bytes b → Gives (Err e) (Ok b))
      → IsReplaced m func bytes new → Gives (Err e) (Ok new)
  no_text e new reads h = λ ne. absurd (ok_or_err h.0 e (reads h.0 (to_tables h.0 h.1) ne))

  pub only_fault : (e f : ReadFault) → ((b : ReadFault) → IsFaultAnew tables func name bytes b → Gives {X = Replacement} (Err e) (Err b))
      → IsReplaceFault m func bytes f → Gives {X = Module} (Err e) (Err f)
  only_fault e f fails h = λ ne. ap (λ (x : ReadFault). Err x) (same_err {X = Replacement} f e (fails f (to_fault f h) ne))

-- ---- where there is no memory for the tables

pub refused_for_memory : (P : ReadFault → Type 0) (r : Result Module ReadFault) → IsErrAnd r (λ e. e ≡ Memory) → IfErr r (λ e. e ≢ Memory → P e)
refused_for_memory P (Ok m) h = tt
refused_for_memory P (Err e) h = λ ne. absurd (ne h)

pub no_other_fault : (r : Result Module ReadFault) (f : ReadFault) → IsErrAnd r (λ e. e ≡ Memory) → Gives r (Err f)
no_other_fault (Ok m) f h = absurd h
no_other_fault (Err e) f h = λ ne. absurd (ne h)
