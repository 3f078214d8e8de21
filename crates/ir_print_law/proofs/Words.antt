-- The next token of a printed text, after blanks.
use Rattle.std.proofs.Common.{◌≡◌, ℕ, Bool, true, false, if◌then◌else◌, [], ◌∷◌, ◌++◌, Some, refl, sym, arith, append_assoc}
use Rattle.std.specs.Prelude.{◌==◌, ◌||◌}
use Rattle.std.specs.List.{list_all, flat_map}
use Rattle.lemmas.specs.Bools.{and_parts, or_second, or_first}
use Rattle.ir_tokens.specs.declared.class.ByteClass.TheVariants as c
use Rattle.ir_tokens.specs.declared.token.Kind.{Kind}
use Rattle.ir_tokens.specs.declared.token.Kind.TheVariants as k
use Rattle.ir_tokens.specs.contracts.token.Kind.{the_type}
use Rattle.ir_tokens.specs.Bytes.{Text, is_letter, is_digit, class_of}
use Rattle.ir_tokens.specs.Keywords.{word_kind}
use Rattle.ir_tokens.specs.Tokens.{token, is_blank, begins_gap, past_gap}
use Rattle.ir_forms.specs.Place.{Place}
use Rattle.ir_forms.specs.Cursor.{kind, sees, same_kind, is_plus}
use Rattle.ir_forms.specs.declared.input.Input.{Input}
use Rattle.ir_forms.specs.Input.{expect, advanced}
use Rattle.name_text.specs.Names.{is_plain, quoted_byte, quoted_text, name_text}
use Rattle.name_text.specs.Readings.{AreBytes}
use Rattle.name_text.specs.declared.blank.Blank.TheVariants as blank
use Rattle.ir_print_law.specs.Stands.{Stands, IsSeam, AreBlanks, AreDigits}
use Rattle.name_text.specs.Seams.{is_no}
use Rattle.ir_print_law.proofs.Seams.{apart, sign_class, sign_is}
use Rattle.ir_print_law.proofs.NumberTokens.{word_no_plus}
use Rattle.ir_print_law.proofs.Spelled.{word_read, number_read, global_read, local_read, local_number_read, quoted_read, label_read}
use Rattle.ir_print_law.proofs.Standing.{Comes, comes}
use denote.Enum.Bare.{true_same}

-- ---- gaps

pub past_blanks : (gap at : Text) → AreBlanks gap → begins_gap at ≡ false → past_gap false (gap ++ at) ≡ at
unfolding past_gap
past_blanks [] [] blanks begins = refl
past_blanks [] (b ∷ bs) blanks begins = none_by (b == 59) (is_blank b) refl refl begins where
  none_by : (t u : Bool) → b == 59 ≡ t → is_blank b ≡ u → (t || u) ≡ false → past_gap false (b ∷ bs) ≡ b ∷ bs
  none_by true u e f h = absurd cc
  none_by false true e f h = absurd cc
  none_by false false e f h = rw (e, f) refl
past_blanks (b ∷ gap) at blanks begins =
    let parts = and_parts (is_blank b) (list_all is_blank gap) blanks in
    rw (apart is_blank 59 b refl parts.0, parts.0) (past_blanks gap at parts.1 begins)

-- no gap begins with a letter or a digit
pub no_gap : (b : ℕ) (bs : Text) → (is_letter b || is_digit b) ≡ true → begins_gap (b ∷ bs) ≡ false
no_gap b bs e = rw (is_no b 59 refl e, is_no b 32 refl e, is_no b 9 refl e, is_no b 10 refl e, is_no b 13 refl e) refl

-- ---- what comes

pub word_comes : (place : Place) (gap w rest : Text) → AreBlanks gap → is_plain w ≡ true → IsSeam rest → Stands place (gap ++ (w ++ rest)) → Comes place (word_kind w) w rest
word_comes place gap [] rest blanks plain seam at = absurd cc
word_comes place gap (b ∷ w) rest blanks plain seam at =
    let letter = (and_parts (is_letter b) _ plain).0 in
    comes place gap b (w ++ rest) (b ∷ w) rest (word_kind (b ∷ w)) (word_no_plus (b ∷ w)) (past_blanks gap (b ∷ (w ++ rest)) blanks (no_gap b (w ++ rest) (or_first (is_letter b) (is_digit b) letter)))
    (word_read (b ∷ w) rest plain seam) refl (omega arith) at

pub number_comes : (place : Place) (gap digits rest : Text) → AreBlanks gap → AreDigits digits → IsSeam rest → Stands place (gap ++ (digits ++ rest)) → Comes place k.Number digits rest
number_comes place gap [] rest blanks own seam at = absurd (omega (arith, own.0))
number_comes place gap (b ∷ digits) rest blanks own seam at =
    let digit = (and_parts (is_digit b) (list_all is_digit digits) own.1).0 in
    comes place gap b (digits ++ rest) (b ∷ digits) rest k.Number refl (past_blanks gap (b ∷ (digits ++ rest)) blanks (no_gap b (digits ++ rest) (or_second (is_letter b) (is_digit b) digit)))
    (number_read (b ∷ digits) rest own seam) refl (omega arith) at

pub sign_comes : (place : Place) (gap : Text) (b : ℕ) (rest : Text) (x : Kind) → AreBlanks gap → sign_class b ≡ c.Sign x → begins_gap (b ∷ rest) ≡ false → Stands place (gap ++ b ∷ rest) → Comes place x (b ∷ []) rest
unfolding token
sign_comes place gap b rest x blanks class begins at =
    let is = sign_is b x class in
    let of = is.0 in
    comes place gap b rest (b ∷ []) rest x is.1 (past_blanks gap (b ∷ rest) blanks begins) (rw of refl) refl (omega arith) at

pub comma_comes : (place : Place) (rest : Text) → Stands place (44 ∷ rest) → Comes place k.Comma (44 ∷ []) rest
unfolding class_of
comma_comes place rest at = sign_comes place [] 44 rest k.Comma refl refl refl at

pub open_round_comes : (place : Place) (rest : Text) → Stands place (40 ∷ rest) → Comes place k.OpenRound (40 ∷ []) rest
unfolding class_of
open_round_comes place rest at = sign_comes place [] 40 rest k.OpenRound refl refl refl at

pub close_round_comes : (place : Place) (rest : Text) → Stands place (41 ∷ rest) → Comes place k.CloseRound (41 ∷ []) rest
unfolding class_of
close_round_comes place rest at = sign_comes place [] 41 rest k.CloseRound refl refl refl at

-- ---- names

pub global_comes : (place : Place) (gap name rest : Text) → AreBlanks gap → AreBytes name → IsSeam rest → Stands place (gap ++ 64 ∷ (name_text blank.Kept name ++ rest)) → Comes place k.GlobalName (64 ∷ name_text blank.Kept name) rest
global_comes place gap name rest blanks own seam at =
    comes place gap 64 (name_text blank.Kept name ++ rest) (64 ∷ name_text blank.Kept name) rest k.GlobalName refl (past_blanks gap (64 ∷ (name_text blank.Kept name ++ rest)) blanks refl) (global_read name rest own seam) refl (omega arith) at

pub local_comes : (place : Place) (gap name rest : Text) → AreBlanks gap → AreBytes name → IsSeam rest → Stands place (gap ++ 37 ∷ (name_text blank.Kept name ++ rest)) → Comes place k.LocalName (37 ∷ name_text blank.Kept name) rest
local_comes place gap name rest blanks own seam at =
    comes place gap 37 (name_text blank.Kept name ++ rest) (37 ∷ name_text blank.Kept name) rest k.LocalName refl (past_blanks gap (37 ∷ (name_text blank.Kept name ++ rest)) blanks refl) (local_read name rest own seam) refl (omega arith) at

pub local_number_comes : (place : Place) (gap digits rest : Text) → AreBlanks gap → AreDigits digits → IsSeam rest → Stands place (gap ++ 37 ∷ (digits ++ rest)) → Comes place k.LocalNumber (37 ∷ digits) rest
local_number_comes place gap digits rest blanks own seam at =
    comes place gap 37 (digits ++ rest) (37 ∷ digits) rest k.LocalNumber refl (past_blanks gap (37 ∷ (digits ++ rest)) blanks refl) (local_number_read digits rest own seam) refl (omega arith) at

pub quoted_comes : (place : Place) (gap name rest : Text) → AreBlanks gap → AreBytes name → IsSeam rest → Stands place (gap ++ (quoted_text blank.Kept name ++ rest)) → Comes place k.Quoted (quoted_text blank.Kept name) rest
quoted_comes place gap name rest blanks own seam at =
    let bytes = (flat_map (quoted_byte blank.Kept) name ++ 34 ∷ []) ++ rest in
    comes place gap 34 bytes (quoted_text blank.Kept name) rest k.Quoted refl (past_blanks gap (34 ∷ bytes) blanks refl) (quoted_read name rest own seam) refl (omega arith) at

-- the label of a block
pub label_comes : (place : Place) (gap name rest : Text) → AreBlanks gap → AreBytes name → Stands place (gap ++ (name_text blank.Kept name ++ 58 ∷ rest)) → Comes place k.LabelName (name_text blank.Kept name ++ 58 ∷ []) rest
label_comes place gap name rest blanks own at = by name (is_plain name) refl (label_read name rest own) at where
  by : (name : Text) (t : Bool) → is_plain name ≡ t → token.read ((if t then name else quoted_text blank.Kept name) ++ 58 ∷ rest) ≡ Some (k.LabelName, rest)
      → Stands place (gap ++ ((if t then name else quoted_text blank.Kept name) ++ 58 ∷ rest)) → Comes place k.LabelName ((if t then name else quoted_text blank.Kept name) ++ 58 ∷ []) rest
  by name false e read at =
      let bytes = (flat_map (quoted_byte blank.Kept) name ++ 34 ∷ []) ++ 58 ∷ rest in
      comes place gap 34 bytes (quoted_text blank.Kept name ++ 58 ∷ []) rest k.LabelName refl (past_blanks gap (34 ∷ bytes) blanks refl) read (sym (append_assoc (quoted_text blank.Kept name) (58 ∷ []) rest)) (omega arith) at
  by [] true e read at = absurd cc
  by (b ∷ name) true e read at =
      let letter = (and_parts (is_letter b) _ e).0 in
      let bytes = name ++ 58 ∷ rest in
      comes place gap b bytes ((b ∷ name) ++ 58 ∷ []) rest k.LabelName refl (past_blanks gap (b ∷ bytes) blanks (no_gap b bytes (or_first (is_letter b) (is_digit b) letter))) read
      (sym (append_assoc (b ∷ name) (58 ∷ []) rest)) (omega arith) at

-- ---- a token of a kind

pub seen : (x : Kind) (i : Input) → kind i.cursor ≡ x → sees x i.cursor ≡ true
unfolding sees same_kind
seen x i e = true_same the_type (kind i.cursor) x e

pub expected : (x : Kind) (i : Input) → kind i.cursor ≡ x → (expect x).says i tt (advanced i)
expected x i e = (tt, i, (seen x i e, refl), (refl, refl))
