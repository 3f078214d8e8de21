-- Each printed word is one token, which spells what was printed.
use Rattle.std.proofs.Common.{◌≡◌, ℕ, ◌-◌, Bool, true, false, if◌then◌else◌, [], ◌∷◌, ◌++◌, length, take, Some, refl, ap, sym, subst, ◌∙◌, arith, length-append}
use Rattle.std.specs.List.{list_all, flat_map}
use Rattle.std.proofs.Math.Seq.{take-append_seam}
use Rattle.lemmas.specs.Bools.{and_parts}
use Rattle.ir_tokens.specs.declared.class.ByteClass.{ByteClass}
use Rattle.ir_tokens.specs.declared.class.ByteClass.TheVariants as c
use Rattle.ir_tokens.specs.declared.token.Kind.TheVariants as k
use Rattle.ir_tokens.specs.Bytes.{Text, is_digit, class_of, first_class, is_name}
use Rattle.ir_tokens.specs.Keywords.{word_kind}
use Rattle.ir_tokens.specs.Tokens.{token, token_by, word, number, quote}
use Rattle.ir_tokens.specs.Names.{bare, unquoted}
use Rattle.name_text.specs.Names.{begins_plain, is_plain, quoted_byte, quoted_text, name_text}
use Rattle.name_text.specs.Readings.{AreBytes}
use Rattle.name_text.specs.declared.blank.Blank.TheVariants as blank
use Rattle.name_text.specs.Reading.{quotes_read, passes, first_letter, in_quotes, global_token, local_token, quotes_spelled, name_spelled, digits_pass, digit_class, number_token, digits_spelled}
use Rattle.ir_print_law.specs.Stands.{IsSeam, AreDigits}
use Rattle.ir_print_law.proofs.Seams.{no_name, no_digit, no_label}

-- ---- words and numbers

-- a word that is written like a plain name
pub word_read : (w rest : Text) → is_plain w ≡ true → IsSeam rest → token.read (w ++ rest) ≡ Some (word_kind w, rest)
unfolding token word
word_read w rest plain seam =
    let parts = and_parts (begins_plain w) _ plain in
    let said : word.says (w ++ rest) (word_kind w) rest = (w, rest, (refl, passes w parts.1, no_name rest seam), no_label rest seam k.LabelName (word_kind w)) in
    token.again (w ++ rest) (word_kind w) rest (subst (λ (x : ByteClass). (token_by x).says (w ++ rest) (word_kind w) rest) (sym (first_letter w rest parts.0)) said)

pub first_digit : (digits rest : Text) → AreDigits digits → first_class (digits ++ rest) ≡ c.Digit
first_digit [] rest own = absurd (omega (arith, own.0))
first_digit (b ∷ digits) rest own = let digit = (and_parts (is_digit b) (list_all is_digit digits) own.1).0 in digit_class b digit

pub number_read : (digits rest : Text) → AreDigits digits → IsSeam rest → token.read (digits ++ rest) ≡ Some (k.Number, rest)
unfolding token number
number_read digits rest own seam =
    let said : number.says (digits ++ rest) k.Number rest = (digits, rest, (refl, digits_pass digits own.1, no_digit rest seam), no_label rest seam k.LabelNumber k.Number) in
    token.again (digits ++ rest) k.Number rest (subst (λ (x : ByteClass). (token_by x).says (digits ++ rest) k.Number rest) (sym (first_digit digits rest own)) said)

-- ---- names with their signs

module _ (name rest : Text) (own : AreBytes name) (seam : IsSeam rest) where
  pub global_read : token.read (64 ∷ (name_text blank.Kept name ++ rest)) ≡ Some (k.GlobalName, rest)
  global_read = global_token blank.Kept name own rest (no_name rest seam)

  pub local_read : token.read (37 ∷ (name_text blank.Kept name ++ rest)) ≡ Some (k.LocalName, rest)
  local_read = local_token blank.Kept name own rest (no_name rest seam)

  -- a text in quotes, which no colon makes a label
  pub quoted_read : token.read (quoted_text blank.Kept name ++ rest) ≡ Some (k.Quoted, rest)
  unfolding token quote class_of
  quoted_read =
      let inner = flat_map (quoted_byte blank.Kept) name in
      let bytes : Text = 34 ∷ (inner ++ 34 ∷ rest) in
      let said : quote.says bytes k.Quoted rest = (tt, rest, (tt, inner ++ 34 ∷ rest, (refl, refl), (name, quotes_read blank.Kept name rest own)), no_label rest seam k.LabelName k.Quoted) in
      ap token.read (in_quotes blank.Kept name own rest) ∙ token.again bytes k.Quoted rest said

-- the number of a value or a block without a name
pub local_number_read : (digits rest : Text) → AreDigits digits → IsSeam rest → token.read (37 ∷ (digits ++ rest)) ≡ Some (k.LocalNumber, rest)
local_number_read [] rest own seam = absurd (omega (arith, own.0))
local_number_read (b ∷ digits) rest own seam = number_token b digits rest own.1 (no_digit rest seam)

-- ---- labels

label_by : (name rest : Text) → AreBytes name → (t : Bool) → is_plain name ≡ t → token.read ((if t then name else quoted_text blank.Kept name) ++ 58 ∷ rest) ≡ Some (k.LabelName, rest)
unfolding token word quote class_of is_name
label_by name rest own true e =
    let parts = and_parts (begins_plain name) _ e in
    let said : word.says (name ++ 58 ∷ rest) k.LabelName rest = (name, 58 ∷ rest, (refl, passes name parts.1, refl), (tt, rest, (refl, refl), (refl, refl))) in
    token.again (name ++ 58 ∷ rest) k.LabelName rest (subst (λ (x : ByteClass). (token_by x).says (name ++ 58 ∷ rest) k.LabelName rest) (sym (first_letter name (58 ∷ rest) parts.0)) said)
label_by name rest own false e =
    let bytes : Text = 34 ∷ (flat_map (quoted_byte blank.Kept) name ++ 34 ∷ 58 ∷ rest) in
    let said : quote.says bytes k.LabelName rest = (tt, 58 ∷ rest, (tt, flat_map (quoted_byte blank.Kept) name ++ 34 ∷ 58 ∷ rest, (refl, refl), (name, quotes_read blank.Kept name (58 ∷ rest) own)), (tt, rest, (refl, refl), (refl, refl))) in
    ap token.read (in_quotes blank.Kept name own (58 ∷ rest)) ∙ token.again bytes k.LabelName rest said

pub label_read : (name rest : Text) → AreBytes name → token.read (name_text blank.Kept name ++ 58 ∷ rest) ≡ Some (k.LabelName, rest)
label_read name rest own = label_by name rest own (is_plain name) refl

pub label_number_read : (digits rest : Text) → AreDigits digits → token.read (digits ++ 58 ∷ rest) ≡ Some (k.LabelNumber, rest)
unfolding token number class_of
label_number_read digits rest own =
    let said : number.says (digits ++ 58 ∷ rest) k.LabelNumber rest = (digits, 58 ∷ rest, (refl, digits_pass digits own.1, refl), (tt, rest, (refl, refl), (refl, refl))) in
    token.again (digits ++ 58 ∷ rest) k.LabelNumber rest (subst (λ (x : ByteClass). (token_by x).says (digits ++ 58 ∷ rest) k.LabelNumber rest) (sym (first_digit digits (58 ∷ rest) own)) said)

-- ---- what they spell

pub quoted_spelled : (name : Text) → AreBytes name → unquoted (bare k.Quoted (quoted_text blank.Kept name)) ≡ name
quoted_spelled name own = quotes_spelled blank.Kept name own

pub label_spelled : (name : Text) → AreBytes name → unquoted (bare k.LabelName (name_text blank.Kept name ++ 58 ∷ [])) ≡ name
label_spelled name own =
    let long : length (name_text blank.Kept name ++ 58 ∷ []) - 1 ≡ length (name_text blank.Kept name) = omega (arith, length-append (name_text blank.Kept name) (58 ∷ [])) in
    ap unquoted (ap (λ (n : ℕ). take n (name_text blank.Kept name ++ 58 ∷ [])) long ∙ take-append_seam (name_text blank.Kept name) (58 ∷ [])) ∙ name_spelled blank.Kept name own

pub label_number_spelled : (digits : Text) → list_all is_digit digits ≡ true → unquoted (bare k.LabelNumber (digits ++ 58 ∷ [])) ≡ digits
label_number_spelled digits e =
    let long : length (digits ++ 58 ∷ []) - 1 ≡ length digits = omega (arith, length-append digits (58 ∷ [])) in
    ap unquoted (ap (λ (n : ℕ). take n (digits ++ 58 ∷ [])) long ∙ take-append_seam digits (58 ∷ [])) ∙ digits_spelled digits e
