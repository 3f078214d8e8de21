-- Where a token ends: what follows it does not continue a name, and makes no label of it.
use Rattle.std.proofs.Common.{◌≡◌, ℕ, Bool, true, false, [], ◌∷◌, refl, ap, sym, ◌∙◌}
use Rattle.std.specs.Prelude.{◌==◌}
use Rattle.std.proofs.lemmas.Bool.{eqb-true}
use Rattle.ir_tokens.specs.declared.class.ByteClass.{ByteClass}
use Rattle.ir_tokens.specs.declared.class.ByteClass.TheVariants as c
use Rattle.ir_tokens.specs.declared.token.Kind.{Kind}
use Rattle.ir_tokens.specs.declared.token.Kind.TheVariants as k
use Rattle.ir_tokens.specs.Bytes.{Text, is_letter, is_digit, class_of, first_class, is_name, is_name_class}
use Rattle.ir_tokens.specs.Form.{begins}
use Rattle.ir_tokens.specs.Tokens.{label_or}
use Rattle.ir_forms.specs.Cursor.{is_plus}
use Rattle.ir_print_law.specs.Stands.{ends_token, IsSeam}

no_name_class : (x : ByteClass) → ends_token x ≡ true → is_name_class x ≡ false
no_name_class c.Letter e = absurd cc
no_name_class c.Digit e = absurd cc
no_name_class _ e = refl

pub no_name : (rest : Text) → IsSeam rest → begins is_name rest ≡ false
unfolding is_name
no_name [] e = refl
no_name (b ∷ bytes) e = no_name_class (class_of b) e

digit_by : (b : ℕ) (t u : Bool) → is_letter b ≡ t → is_digit b ≡ u → ends_token (class_of b) ≡ true → u ≡ false
unfolding class_of
digit_by b t false x y e = refl
digit_by b true true x y e = absurd (let q : ends_token (class_of b) ≡ false = rw x refl in cc)
digit_by b false true x y e = absurd (let q : ends_token (class_of b) ≡ false = rw (x, y) refl in cc)

pub no_digit : (rest : Text) → IsSeam rest → begins is_digit rest ≡ false
no_digit [] e = refl
no_digit (b ∷ bytes) e = digit_by b (is_letter b) (is_digit b) refl refl e

no_label_by : (x : ByteClass) → ends_token x ≡ true → (colon other : Kind) (i : Text) → (label_or colon other x).says i other i
no_label_by c.Colon e colon other i = absurd cc
no_label_by _ e colon other i = (refl, refl)

pub no_label : (rest : Text) → IsSeam rest → (colon other : Kind) → (label_or colon other (first_class rest)).says rest other rest
no_label rest e colon other = no_label_by (first_class rest) e colon other rest

-- a byte that passes a test is not one that does not
apart_by : (f : ℕ → Bool) (v b : ℕ) (t : Bool) → b == v ≡ t → f v ≡ false → f b ≡ true → b == v ≡ false
apart_by f v b false e none is = e
apart_by f v b true e none is =
    let other : f b ≡ false = ap f (eqb-true b v e) ∙ none in
    absurd (let both_ways = sym is ∙ other in cc)

pub apart : (f : ℕ → Bool) (v b : ℕ) → f v ≡ false → f b ≡ true → b == v ≡ false
apart f v b = apart_by f v b (b == v) refl

-- ---- signs

-- the class of a byte but for a plus, which is no token where the wide forms may not stand
abbrev pub but_plus : ByteClass → ByteClass
but_plus (c.Sign k.Plus) = c.Other
but_plus x = x

-- the class of a byte but for a plus
abbrev pub sign_class : ℕ → ByteClass
sign_class b = but_plus (class_of b)

-- the class is the sign of a plus
abbrev is_plus_class : ByteClass → Bool
is_plus_class (c.Sign x) = is_plus x
is_plus_class _ = false

sign_by : (y : ByteClass) (x : Kind) → but_plus y ≡ c.Sign x → (y ≡ c.Sign x) × (is_plus x ≡ false)
sign_by (c.Sign k.Plus) x e = absurd cc
sign_by (c.Sign _) x e = (e, sym (ap is_plus_class e))
sign_by _ x e = absurd cc

-- a byte of such a class is a sign, and no plus
pub sign_is : (b : ℕ) (x : Kind) → sign_class b ≡ c.Sign x → (class_of b ≡ c.Sign x) × (is_plus x ≡ false)
sign_is b x e = sign_by (class_of b) x e
