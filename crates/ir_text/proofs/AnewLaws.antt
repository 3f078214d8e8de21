-- What is read of one function is a text of it, and a text of it is read; what is refused has its fault first, and what has a fault first is refused for it.
use Rattle.std.proofs.Common.{◌≡◌, ◌<◌, ◌≤◌, ℕ, length, Option, Some, None, Result, Ok, Err, refl, ap, ◌∙◌, inl, inr, arith}
use Rattle.std.specs.Prelude.{IfOk, IfErr, ◌≢◌}
use Rattle.ir_tokens.specs.Bytes.{Text}
use Rattle.ir_tokens.specs.declared.lexed.Lexed.{Lexed}
use Rattle.ir_tokens.specs.Tokens.{IsLexed}
use Rattle.ir_tokens.specs.Position.{position_of}
use Rattle.ir_forms.specs.declared.fault.Fault.{Fault}
use Rattle.ir_forms.specs.declared.input.Input.{Input}
use Rattle.ir_forms.specs.Input.{Outcome}
use Rattle.ir_text.specs.declared.anew.Replacement.{Replacement}
use Rattle.copies.specs.declared.tables.Tables.{Tables}
use Rattle.ir_text.specs.declared.read_fault.ReadFault.{ReadFault}
use Rattle.ir_text.specs.declared.read_fault.ReadFault.TheVariants.{Memory, Limit}
use Rattle.ir_text.specs.Read.{Gives, located, text_limit, gives_same}
use Rattle.ir_text.specs.Anew.{anew, late_anew, anew_of, start_anew, IsReadAnew, FailsAnew, IsTextAnew, IsFaultAnew, judged_anew, answered_anew, read_anew}

module _ (t : Tables) (func : ℕ) (name : Text) where
  judged_is : (bytes : Text) (o : Input) (late : Option Fault) (a : Replacement) → judged_anew t bytes o late ≡ Ok a → (late ≡ None) × (anew_of t o ≡ a)
  judged_is bytes o None a e = (refl, cc)
  judged_is bytes o (Some f) a e = absurd cc

  judged_fails : (bytes : Text) (o : Input) (late : Option Fault) (e : ReadFault) → judged_anew t bytes o late ≡ Err e → (f : Fault) × (late ≡ Some f) × (located bytes f ≡ e)
  judged_fails bytes o None e h = absurd cc
  judged_fails bytes o (Some f) e h = (f, refl, cc)

  answered_is : (bytes : Text) (i : Input) (r : Outcome (Unit {0})) (a : Replacement) → (anew func name).read i ≡ r → answered_anew t bytes r ≡ Ok a → IsReadAnew t func name i a
  answered_is bytes i (Ok p) a is e =
      let j = judged_is bytes p.1 (late_anew t p.1) a e in
      (p.1, (anew func name).sound i tt p.1 is, j.0, j.1)
  answered_is bytes i (Err f) a is e = absurd cc

  answered_fails : (bytes : Text) (i : Input) (r : Outcome (Unit {0})) (e : ReadFault) → (anew func name).read i ≡ r → answered_anew t bytes r ≡ Err e → (f : Fault) × FailsAnew t func name i f × (located bytes f ≡ e)
  answered_fails bytes i (Ok p) e is h =
      let j = judged_fails bytes p.1 (late_anew t p.1) e h in
      (j.0, inr (p.1, (anew func name).sound i tt p.1 is, j.1), j.2)
  answered_fails bytes i (Err f) e is h = (f, inl ((anew func name).breaks i f is), cc)

  function_is_read : (bytes : Text) (lexed : Lexed) (a : Replacement) → IsReadAnew t func name (start_anew t func bytes lexed) a → read_anew t func name bytes lexed ≡ Ok a
  unfolding read_anew
  function_is_read bytes lexed a h = rw ((anew func name).again (start_anew t func bytes lexed) tt h.0 h.1, h.2, h.3) refl

  fault_is_read : (bytes : Text) (lexed : Lexed) (f : Fault) → FailsAnew t func name (start_anew t func bytes lexed) f → read_anew t func name bytes lexed ≡ Err (located bytes f)
  unfolding read_anew
  fault_is_read bytes lexed f (inl h) = rw ((anew func name).broken (start_anew t func bytes lexed) f h) refl
  fault_is_read bytes lexed f (inr h) = rw ((anew func name).again (start_anew t func bytes lexed) tt h.0 h.1, h.2) refl

  -- ---- the clauses of `read_function`, where the tokens of the text are these

  pub found : (bytes : Text) (lexed : Lexed) (r : Result Replacement ReadFault) → length bytes ≤ text_limit → IsLexed bytes lexed
      → Gives r (read_anew t func name bytes lexed) → IfOk r (λ a. IsTextAnew t func name bytes a)
  unfolding read_anew
  found bytes lexed (Ok a) short is e = (short, lexed, is, answered_is bytes (start_anew t func bytes lexed) ((anew func name).read (start_anew t func bytes lexed)) a refl e)
  found bytes lexed (Err e) short is g = tt

  pub fails : (bytes : Text) (lexed : Lexed) (r : Result Replacement ReadFault) → length bytes ≤ text_limit → IsLexed bytes lexed
      → Gives r (read_anew t func name bytes lexed) → IfErr r (λ e. e ≢ Memory → IsFaultAnew t func name bytes e)
  unfolding read_anew
  fails bytes lexed (Ok a) short is g = tt
  fails bytes lexed (Err e) short is g = λ ne. inr (short, lexed, is, answered_fails bytes (start_anew t func bytes lexed) ((anew func name).read (start_anew t func bytes lexed)) e refl (g ne))

  pub only : (bytes : Text) (lexed : Lexed) (r : Result Replacement ReadFault) (a : Replacement) → ((other : Lexed) → IsLexed bytes other → lexed ≡ other)
      → Gives r (read_anew t func name bytes lexed) → IsTextAnew t func name bytes a → Gives r (Ok a)
  only bytes lexed r a same g h =
      let e : lexed ≡ h.1 = same h.1 h.2 in
      gives_same r (read_anew t func name bytes lexed) (Ok a) g (ap (read_anew t func name bytes) e ∙ function_is_read bytes h.1 a h.3)

  pub only_fails : (bytes : Text) (lexed : Lexed) (r : Result Replacement ReadFault) (e : ReadFault) → length bytes ≤ text_limit → ((other : Lexed) → IsLexed bytes other → lexed ≡ other)
      → Gives r (read_anew t func name bytes lexed) → IsFaultAnew t func name bytes e → Gives r (Err e)
  only_fails bytes lexed r e short same g (inl h) = absurd (omega (arith, h.0))
  only_fails bytes lexed r e short same g (inr h) =
      let is : lexed ≡ h.1 = same h.1 h.2 in
      let f = h.3.0 in
      gives_same r (read_anew t func name bytes lexed) (Err e) g (ap (read_anew t func name bytes) is ∙ fault_is_read bytes h.1 f h.3.1 ∙ ap (λ (x : ReadFault). Err x) h.3.2)

  -- ---- the clauses where the text is too long

  pub too_long : (bytes : Text) → text_limit < length bytes → IsFaultAnew t func name bytes (Limit (position_of bytes text_limit))
  too_long bytes long = inl (long, refl)

  pub no_text : (bytes : Text) (a : Replacement) → text_limit < length bytes → IsTextAnew t func name bytes a → ⊥
  no_text bytes a long h = omega (arith, h.0)

  pub only_too_long : (bytes : Text) (e : ReadFault) → text_limit < length bytes → IsFaultAnew t func name bytes e → Limit (position_of bytes text_limit) ≡ e
  only_too_long bytes e long (inl h) = h.1
  only_too_long bytes e long (inr h) = absurd (omega (arith, h.0))
