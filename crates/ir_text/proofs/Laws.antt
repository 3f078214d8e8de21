-- What is read is a text, and a text is read; what is refused has its fault first, and what has a fault first is refused for it.
use Rattle.std.proofs.Common.{◌≡◌, ◌<◌, ◌≤◌, ℕ, Bool, true, false, List, length, Option, Some, None, Result, Ok, Err, refl, ap, sym, subst, ◌∙◌, inl, inr, arith}
use Rattle.std.specs.Prelude.{IfOk, IfErr, ◌≢◌}
use Rattle.ir_tokens.specs.declared.lexed.Lexed.{Lexed}
use Rattle.ir_tokens.specs.Tokens.{IsLexed}
use Rattle.ir_tokens.specs.Position.{position_of}
use Rattle.ir_ast.specs.declared.module.Module.{Module}
use Rattle.ir_forms.specs.declared.fault.Fault.{Fault}
use Rattle.ir_forms.specs.declared.input.Input.{Input}
use Rattle.ir_forms.specs.Input.{Outcome}
use Rattle.ir_text.specs.declared.read_fault.ReadFault.{ReadFault}
use Rattle.ir_text.specs.declared.read_fault.ReadFault.TheVariants.{Memory, Limit}
use Rattle.ir_text.specs.ItemsOfText.{whole}
use Rattle.ir_text.specs.Late.{late_fault}
use Rattle.ir_text.specs.Read.{Gives, IsText, IsTextIn, IsModule, IsModuleAs, IsTextAs, IsFaultAs, FailsAs, either_fault, last_fault, start_in, module_in, located, judged, answered, read_lexed, text_limit, gives_same}

judged_is : (wide : Bool) (bytes : List ℕ) (o : Input) (late : Option Fault) (m : Module) → judged wide bytes o late ≡ Ok m → (late ≡ None) × (module_in wide o ≡ m)
judged_is wide bytes o None m e = (refl, cc)
judged_is wide bytes o (Some f) m e = absurd cc

judged_fails : (wide : Bool) (bytes : List ℕ) (o : Input) (late : Option Fault) (e : ReadFault) → judged wide bytes o late ≡ Err e → (f : Fault) × (late ≡ Some f) × (located bytes f ≡ e)
judged_fails wide bytes o None e h = absurd cc
judged_fails wide bytes o (Some f) e h = (f, refl, cc)

answered_is : (keeps : Bool) (bytes : List ℕ) (i : Input) (r : Outcome (Unit {0})) (m : Module) → whole.read i ≡ r → answered keeps i.wide bytes r ≡ Ok m → IsModuleAs keeps i m
answered_is keeps bytes i (Ok p) m is e =
    let j = judged_is i.wide bytes p.1 (last_fault keeps p.1) m e in
    (p.1, whole.sound i tt p.1 is, j.0, j.1)
answered_is keeps bytes i (Err f) m is e = absurd cc

answered_fails : (keeps : Bool) (bytes : List ℕ) (i : Input) (r : Outcome (Unit {0})) (e : ReadFault) → whole.read i ≡ r → answered keeps i.wide bytes r ≡ Err e
    → (f : Fault) × FailsAs keeps i f × (located bytes f ≡ e)
answered_fails keeps bytes i (Ok p) e is h =
    let j = judged_fails i.wide bytes p.1 (last_fault keeps p.1) e h in
    (j.0, inr (p.1, whole.sound i tt p.1 is, j.1), j.2)
answered_fails keeps bytes i (Err f) e is h = (f, inl (whole.breaks i f is), cc)

pub module_is_read : (keeps wide : Bool) → (bytes : List ℕ) (lexed : Lexed) (m : Module) → IsModuleAs keeps (start_in wide bytes lexed) m → read_lexed keeps wide bytes lexed ≡ Ok m
unfolding read_lexed
module_is_read keeps wide bytes lexed m h = rw (whole.again (start_in wide bytes lexed) tt h.0 h.1, h.2, h.3) refl

pub fault_is_read : (keeps wide : Bool) → (bytes : List ℕ) (lexed : Lexed) (f : Fault) → FailsAs keeps (start_in wide bytes lexed) f → read_lexed keeps wide bytes lexed ≡ Err (located bytes f)
unfolding read_lexed
fault_is_read keeps wide bytes lexed f (inl h) = rw (whole.broken (start_in wide bytes lexed) f h) refl
fault_is_read keeps wide bytes lexed f (inr h) = rw (whole.again (start_in wide bytes lexed) tt h.0 h.1, h.2) refl

-- a module has the forms of its text
module_has_forms : (keeps : Bool) (i : Input) (m : Module) → IsModuleAs keeps i m → m.wide ≡ i.wide
module_has_forms keeps i m h = sym (ap (λ (x : Module). x.wide) h.3)

-- a text of which nothing is lost has no fault of a name
none_before : (late lost : Option Fault) → either_fault late lost ≡ None → late ≡ None
none_before None lost e = refl
none_before (Some f) lost e = absurd cc

names_hold : (keeps : Bool) (o : Input) → last_fault keeps o ≡ None → late_fault o ≡ None
names_hold true o e = none_before (late_fault o) o.lost e
names_hold false o e = e

-- so it is a text of its module
module_is : (keeps : Bool) (i : Input) (m : Module) → IsModuleAs keeps i m → IsModule i m
module_is keeps i m h = (h.0, h.1, names_hold keeps h.0 h.2, h.3)

-- a text of a module in some forms is one in the forms of the module
pub text_is : (wide : Bool) (bytes : List ℕ) (m : Module) → IsTextIn wide bytes m → IsText bytes m
text_is wide bytes m text = subst (λ (x : Bool). IsTextIn x bytes m) (sym (module_has_forms false (start_in wide bytes text.1) m text.3)) text

-- ---- the clauses of `read_as`, where the tokens of the text are these

module_read : (keeps wide : Bool) (bytes : List ℕ) (lexed : Lexed) (m : Module) → read_lexed keeps wide bytes lexed ≡ Ok m → IsModuleAs keeps (start_in wide bytes lexed) m
unfolding read_lexed
module_read keeps wide bytes lexed m e = answered_is keeps bytes (start_in wide bytes lexed) (whole.read (start_in wide bytes lexed)) m refl e

pub found : (keeps wide : Bool) → (bytes : List ℕ) (lexed : Lexed) (r : Result Module ReadFault) → length bytes ≤ text_limit → IsLexed bytes lexed
    → Gives r (read_lexed keeps wide bytes lexed) → IfOk r (λ m. IsTextAs keeps wide bytes m)
found keeps wide bytes lexed (Ok m) short is e = (short, lexed, is, module_read keeps wide bytes lexed m e)
found keeps wide bytes lexed (Err e) short is g = tt

pub text : (keeps wide : Bool) → (bytes : List ℕ) (lexed : Lexed) (r : Result Module ReadFault) → length bytes ≤ text_limit → IsLexed bytes lexed
    → Gives r (read_lexed keeps wide bytes lexed) → IfOk r (λ m. IsText bytes m)
text keeps wide bytes lexed (Ok m) short is e =
    let read : IsModule (start_in wide bytes lexed) m = module_is keeps (start_in wide bytes lexed) m (module_read keeps wide bytes lexed m e) in
    text_is wide bytes m (short, lexed, is, read)
text keeps wide bytes lexed (Err e) short is g = tt

pub forms : (keeps wide : Bool) → (bytes : List ℕ) (lexed : Lexed) (r : Result Module ReadFault) → Gives r (read_lexed keeps wide bytes lexed) → IfOk r (λ m. m.wide ≡ wide)
forms keeps wide bytes lexed (Ok m) e = module_has_forms keeps (start_in wide bytes lexed) m (module_read keeps wide bytes lexed m e)
forms keeps wide bytes lexed (Err e) g = tt

pub fails : (keeps wide : Bool) → (bytes : List ℕ) (lexed : Lexed) (r : Result Module ReadFault) → length bytes ≤ text_limit → IsLexed bytes lexed
    → Gives r (read_lexed keeps wide bytes lexed) → IfErr r (λ e. e ≢ Memory → IsFaultAs keeps wide bytes e)
unfolding read_lexed
fails keeps wide bytes lexed (Ok m) short is g = tt
fails keeps wide bytes lexed (Err e) short is g = λ ne. inr (short, lexed, is, answered_fails keeps bytes (start_in wide bytes lexed) (whole.read (start_in wide bytes lexed)) e refl (g ne))

pub only : (keeps wide : Bool) → (bytes : List ℕ) (lexed : Lexed) (r : Result Module ReadFault) (m : Module) → ((other : Lexed) → IsLexed bytes other → lexed ≡ other)
    → Gives r (read_lexed keeps wide bytes lexed) → IsTextAs keeps wide bytes m → Gives r (Ok m)
only keeps wide bytes lexed r m same g h =
    let e : lexed ≡ h.1 = same h.1 h.2 in
    gives_same r (read_lexed keeps wide bytes lexed) (Ok m) g (ap (read_lexed keeps wide bytes) e ∙ module_is_read keeps wide bytes h.1 m h.3)

pub only_fails : (keeps wide : Bool) → (bytes : List ℕ) (lexed : Lexed) (r : Result Module ReadFault) (e : ReadFault) → length bytes ≤ text_limit → ((other : Lexed) → IsLexed bytes other → lexed ≡ other)
    → Gives r (read_lexed keeps wide bytes lexed) → IsFaultAs keeps wide bytes e → Gives r (Err e)
only_fails keeps wide bytes lexed r e short same g (inl h) = absurd (omega (arith, h.0))
only_fails keeps wide bytes lexed r e short same g (inr h) =
    let is : lexed ≡ h.1 = same h.1 h.2 in
    let f = h.3.0 in
    gives_same r (read_lexed keeps wide bytes lexed) (Err e) g (ap (read_lexed keeps wide bytes) is ∙ fault_is_read keeps wide bytes h.1 f h.3.1 ∙ ap (λ (x : ReadFault). Err x) h.3.2)

-- ---- the clauses of `read_as`, where the text is too long

pub too_long : (keeps wide : Bool) → (bytes : List ℕ) → text_limit < length bytes → IsFaultAs keeps wide bytes (Limit (position_of bytes text_limit))
too_long keeps wide bytes long = inl (long, refl)

pub no_text : (keeps wide : Bool) → (bytes : List ℕ) (m : Module) → text_limit < length bytes → IsTextAs keeps wide bytes m → ⊥
no_text keeps wide bytes m long h = omega (arith, h.0)

pub only_too_long : (keeps wide : Bool) → (bytes : List ℕ) (e : ReadFault) → text_limit < length bytes → IsFaultAs keeps wide bytes e → Limit (position_of bytes text_limit) ≡ e
only_too_long keeps wide bytes e long (inl h) = h.1
only_too_long keeps wide bytes e long (inr h) = absurd (omega (arith, h.0))
