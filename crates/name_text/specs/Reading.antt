-- A printed name is read as that name.
use Rattle.std.proofs.Common.{◌≡◌, ℕ, zero, suc, ◌+◌, ◌-◌, ◌*◌, ◌/◌, ◌%◌, ◌<◌, ◌≤◌, Bool, true, false, not, if◌then◌else◌, List, [], ◌∷◌, ◌++◌, length, take, Some, None, refl, ap, sym, ◌∙◌, arith, append_assoc, length-append}
use Rattle.std.specs.Prelude.{◌==◌, ◌&&◌, ◌||◌, nat_lt, nat_le}
use Rattle.std.specs.List.{list_all, flat_map}
use Rattle.std.proofs.lemmas.Bool.Decides.{nat_tests}
use Rattle.std.proofs.lemmas.List.{append-nil}
use Rattle.std.proofs.Math.Seq.{take-append_seam, take-length}
use Rattle.lemmas.specs.Bools.{and_parts, not_true}
use Rattle.ir_tokens.specs.declared.class.ByteClass.{ByteClass}
use Rattle.ir_tokens.specs.declared.class.ByteClass.TheVariants as c
use Rattle.ir_tokens.specs.declared.token.Kind.{Kind}
use Rattle.ir_tokens.specs.declared.token.Kind.TheVariants as k
use Rattle.ir_tokens.specs.declared.token.Token.{Token}
use Rattle.ir_tokens.specs.Bytes.{Text, is_letter, is_digit, class_of, first_class, is_name, digit, next}
use Rattle.ir_tokens.specs.Form.{Form, Passes, IsQuoted, begins}
use Rattle.ir_tokens.specs.Tokens as tokens
use Rattle.ir_tokens.specs.Tokens.{token, quotation, global, global_by, local, local_by, past_gap, lex_from, lexed_of, make}
use Rattle.ir_tokens.specs.Names.{begins_quote, bare, unescaped, unescaped_from, unquoted, name_of}
use Rattle.name_text.specs.Names.{begins_plain, is_plain, first_shown, is_shown, hexadecimal, quoted_byte, quoted_text, name_text}
use Rattle.name_text.specs.Readings.{AreBytes, whole, GlobalsAreRead, LocalsAreRead, NumbersAreRead}
use Rattle.name_text.specs.declared.blank.Blank.{Blank}

-- ---- bytes between quotes

small_digit : (d : ℕ) → d < 10 → digit (48 + d) ≡ Some d
unfolding digit
small_digit d less =
    let low : nat_le 48 (48 + d) ≡ true = grind (arith, nat_tests) in
    let high : nat_le (48 + d) 57 ≡ true = grind (arith, nat_tests) in
    let same : 48 + d - 48 ≡ d = omega arith in
    rw (low, high) (ap (λ (n : ℕ). Some n) same)

large_digit : (d : ℕ) → 10 ≤ d → d < 16 → digit (55 + d) ≡ Some d
unfolding digit
large_digit d more less =
    let low : nat_le 48 (55 + d) ≡ true = grind (arith, nat_tests) in
    let high : nat_le (55 + d) 57 ≡ false = grind (arith, nat_tests) in
    let no_small : nat_le 97 (55 + d) ≡ false = grind (arith, nat_tests) in
    let from : nat_le 65 (55 + d) ≡ true = grind (arith, nat_tests) in
    let to : nat_le (55 + d) 70 ≡ true = grind (arith, nat_tests) in
    let same : 55 + d - 65 + 10 ≡ d = omega (arith, more) in
    rw (low, high, no_small, from, to) (ap (λ (n : ℕ). Some n) same)

digit_by : (d : ℕ) (t : Bool) → nat_lt d 10 ≡ t → d < 16 → digit (if t then 48 + d else 55 + d) ≡ Some d
digit_by d true e less = let few : d < 10 = grind (arith, nat_tests) in small_digit d few
digit_by d false e less = let many : 10 ≤ d = grind (arith, nat_tests) in large_digit d many less

hexadecimal_read : (d : ℕ) → d < 16 → digit (hexadecimal d) ≡ Some d
hexadecimal_read d less = digit_by d (nat_lt d 10) refl less

backslash_by : (d : ℕ) (t : Bool) → nat_lt d 10 ≡ t → d < 16 → (if t then 48 + d else 55 + d) == 92 ≡ false
backslash_by d true e less = grind (arith, nat_tests)
backslash_by d false e less = grind (arith, nat_tests)

escaped : (b : ℕ) (rest : Text) → b < 256 → next (92 ∷ hexadecimal (b / 16) ∷ hexadecimal (b % 16) ∷ rest) ≡ Some (b, rest)
unfolding next
escaped b rest less =
    let high : b / 16 < 16 = omega (arith, less) in
    let low : b % 16 < 16 = omega arith in
    let no_backslash = backslash_by (b / 16) (nat_lt (b / 16) 10) refl high in
    let same : 16 * (b / 16) + b % 16 ≡ b = omega arith in
    rw (no_backslash, hexadecimal_read (b / 16) high, hexadecimal_read (b % 16) low) (ap (λ (n : ℕ). Some (n, rest)) same)

module _ (blank : Blank) where
  -- a byte that is printed as it is can be no quote and no backslash
  pub shown_is : (b : ℕ) → is_shown blank b ≡ true → ((b == 34) ≡ false) × ((b == 92) ≡ false)
  shown_is b e =
      let shown = and_parts (nat_le (first_shown blank) b && nat_le b 126 && not (b == 34)) (not (b == 92)) e in
      let no_quote = and_parts (nat_le (first_shown blank) b && nat_le b 126) (not (b == 34)) shown.0 in
      (not_true (b == 34) no_quote.1, not_true (b == 92) shown.1)

  byte_by : (b : ℕ) (rest : Text) (t : Bool) → is_shown blank b ≡ t → b < 256 → next ((if t then b ∷ [] else 92 ∷ hexadecimal (b / 16) ∷ hexadecimal (b % 16) ∷ []) ++ rest) ≡ Some (b, rest)
  unfolding next
  byte_by b rest true e less = let shown = shown_is b e in rw (shown.0, shown.1) refl
  byte_by b rest false e less = escaped b rest less

  byte_read : (b : ℕ) (rest : Text) → b < 256 → next (quoted_byte blank b ++ rest) ≡ Some (b, rest)
  byte_read b rest less = byte_by b rest (is_shown blank b) refl less

  -- what is between the quotes
  abbrev inner : Text → Text
  inner = flat_map (quoted_byte blank)

  -- a text between quotes is read as that text
  pub quotes_read : (name rest : Text) → AreBytes name → IsQuoted (inner name ++ 34 ∷ rest) name rest
  quotes_read [] rest own = refl
  quotes_read (b ∷ name) rest own =
      (inner name ++ 34 ∷ rest, ap next (append_assoc (quoted_byte blank b) (inner name) (34 ∷ rest)) ∙ byte_read b (inner name ++ 34 ∷ rest) own.0, quotes_read name rest own.1)

  some_bytes_by : (b : ℕ) (t : Bool) → 0 < length (if t then b ∷ [] else 92 ∷ hexadecimal (b / 16) ∷ hexadecimal (b % 16) ∷ [])
  some_bytes_by b true = omega arith
  some_bytes_by b false = omega arith

  unescaped_is : (n : ℕ) (name : Text) → AreBytes name → length (inner name) ≤ n → unescaped_from n (inner name) ≡ name
  unfolding unescaped_from next
  unescaped_is zero [] own le = refl
  unescaped_is (suc n) [] own le = refl
  unescaped_is zero (b ∷ name) own le = absurd (omega (arith, le, some_bytes_by b (is_shown blank b), length-append (quoted_byte blank b) (inner name)))
  unescaped_is (suc n) (b ∷ name) own le =
      let more = unescaped_is n name own.1 (omega (arith, le, some_bytes_by b (is_shown blank b), length-append (quoted_byte blank b) (inner name))) in
      rw (byte_read b (inner name) own.0) (ap (λ (rest : Text). b ∷ rest) more)

-- ---- the token

plain_class : (b : ℕ) → is_letter b ≡ true → class_of b ≡ c.Letter
unfolding class_of
plain_class b e = rw e refl

is_name_by : (b : ℕ) (t : Bool) → is_letter b ≡ t → (is_letter b || is_digit b) ≡ true → is_name b ≡ true
unfolding is_name class_of
is_name_by b true e plain = rw e refl
is_name_by b false e plain = let digit : is_digit b ≡ true = rw e at plain in rw (e, digit) refl

-- the bytes of a plain name are those of a name
pub passes : (name : Text) → list_all (λ byte. is_letter byte || is_digit byte) name ≡ true → Passes is_name name
passes [] e = tt
passes (b ∷ name) e = let parts = and_parts (is_letter b || is_digit b) _ e in (is_name_by b (is_letter b) refl parts.0, passes name parts.1)

-- a plain name begins with a letter
pub first_letter : (name rest : Text) → begins_plain name ≡ true → first_class (name ++ rest) ≡ c.Letter
first_letter [] rest e = absurd cc
first_letter (b ∷ name) rest e = plain_class b e

letter_no_quote : (b : ℕ) → is_letter b ≡ true → (b == 34) ≡ false
letter_no_quote b e = by (b == 34) refl
  where
    by : (t : Bool) → (b == 34) ≡ t → (b == 34) ≡ false
    by true same = let q : is_letter b ≡ false = let is : b ≡ 34 = grind (arith, nat_tests) in ap is_letter is in absurd cc
    by false same = same

no_quote_by : (name : Text) → begins_plain name ≡ true → begins_quote name ≡ false
no_quote_by [] plain = refl
no_quote_by (b ∷ name) plain = letter_no_quote b plain

module _ (blank : Blank) (name : Text) (own : AreBytes name) where
  abbrev written : Bool → Text
  written plain = if plain then name else quoted_text blank name

  -- text in quotes, before more bytes
  pub in_quotes : (rest : Text) → quoted_text blank name ++ rest ≡ 34 ∷ (flat_map (quoted_byte blank) name ++ 34 ∷ rest)
  in_quotes rest = ap (λ (x : Text). 34 ∷ x) (append_assoc (flat_map (quoted_byte blank) name) (34 ∷ []) rest)

  -- what follows a sign
  after_sign : (rest : Text) → begins is_name rest ≡ false → (f : ByteClass → Form Kind) (x : Kind) → ((i : Text) → (f c.Letter).read i ≡ (tokens.name x).read i)
      → ((i : Text) → (f c.Quote).read i ≡ (quotation x).read i) → (t : Bool) → is_plain name ≡ t → (f (first_class (written t ++ rest))).read (written t ++ rest) ≡ Some (x, rest)
  unfolding class_of
  after_sign rest ends f x letter quote true e =
      let parts = and_parts (begins_plain name) _ e in
      let read = (tokens.name x).again (name ++ rest) x rest (name, rest, (refl, passes name parts.1, ends), (refl, refl)) in
      ap (λ (class : ByteClass). (f class).read (name ++ rest)) (first_letter name rest parts.0) ∙ letter (name ++ rest) ∙ read
  after_sign rest ends f x letter quote false e =
      let bytes : Text = 34 ∷ (flat_map (quoted_byte blank) name ++ 34 ∷ rest) in
      let read = (quotation x).again bytes x rest (tt, rest, (tt, flat_map (quoted_byte blank) name ++ 34 ∷ rest, (refl, refl), (name, quotes_read blank name rest own)), (refl, refl)) in
      ap (λ (i : Text). (f (first_class i)).read i) (in_quotes rest) ∙ quote bytes ∙ read

  -- a printed name after `@` is one token, where no name goes on after it
  pub global_token : (rest : Text) → begins is_name rest ≡ false → token.read (64 ∷ (name_text blank name ++ rest)) ≡ Some (k.GlobalName, rest)
  unfolding token global class_of
  global_token rest ends = after_sign rest ends global_by k.GlobalName (λ i. refl) (λ i. refl) (is_plain name) refl

  -- so is one after `%`
  pub local_token : (rest : Text) → begins is_name rest ≡ false → token.read (37 ∷ (name_text blank name ++ rest)) ≡ Some (k.LocalName, rest)
  unfolding token local class_of
  local_token rest ends = after_sign rest ends local_by k.LocalName (λ i. refl) (λ i. refl) (is_plain name) refl

  -- a text in quotes spells that text
  pub quotes_spelled : unquoted (quoted_text blank name) ≡ name
  quotes_spelled =
      let shown = flat_map (quoted_byte blank) name in
      let long : length (quoted_text blank name) - 2 ≡ length shown = omega (arith, length-append shown (34 ∷ [])) in
      ap unescaped (ap (λ (n : ℕ). take n (shown ++ 34 ∷ [])) long ∙ take-append_seam shown (34 ∷ [])) ∙ unescaped_is blank (length shown) name own (omega arith)

  spelled_by : (t : Bool) → is_plain name ≡ t → unquoted (written t) ≡ name
  spelled_by true e = rw (no_quote_by name (and_parts (begins_plain name) _ e).0) refl
  spelled_by false e = quotes_spelled

  -- a printed name spells that name
  pub name_spelled : unquoted (name_text blank name) ≡ name
  name_spelled = spelled_by (is_plain name) refl

-- ---- numbers

no_digit : (b : ℕ) → is_letter b ≡ true → is_digit b ≡ false
no_digit b letter = grind (arith, nat_tests)

no_letter : (b : ℕ) → is_digit b ≡ true → is_letter b ≡ false
no_letter b digit = by (is_letter b) refl
  where
    by : (t : Bool) → is_letter b ≡ t → is_letter b ≡ false
    by true letter = let no = no_digit b letter in absurd cc
    by false letter = letter

pub digit_class : (b : ℕ) → is_digit b ≡ true → class_of b ≡ c.Digit
unfolding class_of
digit_class b e = rw (no_letter b e, e) refl

pub digits_pass : (digits : Text) → list_all is_digit digits ≡ true → Passes is_digit digits
digits_pass [] e = tt
digits_pass (b ∷ digits) e = let parts = and_parts (is_digit b) (list_all is_digit digits) e in (parts.0, digits_pass digits parts.1)

-- a number after `%` is one token, where no digit goes on after it
pub number_token : (b : ℕ) (digits rest : Text) → list_all is_digit (b ∷ digits) ≡ true → begins is_digit rest ≡ false → token.read (37 ∷ b ∷ (digits ++ rest)) ≡ Some (k.LocalNumber, rest)
unfolding token local class_of
number_token b digits rest e ends =
    let number = b ∷ digits in
    let first = (and_parts (is_digit b) (list_all is_digit digits) e).0 in
    let read = (tokens.digits k.LocalNumber).again (number ++ rest) k.LocalNumber rest (number, rest, (refl, digits_pass number e, ends), (refl, refl)) in
    ap (λ (class : ByteClass). (local_by class).read (number ++ rest)) (digit_class b first) ∙ read

digit_no_quote : (b : ℕ) → is_digit b ≡ true → (b == 34) ≡ false
digit_no_quote b digit = grind (arith, nat_tests)

-- digits spell themselves
pub digits_spelled : (digits : Text) → list_all is_digit digits ≡ true → unquoted digits ≡ digits
digits_spelled [] e = refl
digits_spelled (b ∷ digits) e = rw (digit_no_quote b (and_parts (is_digit b) (list_all is_digit digits) e).0) refl

-- ---- the one token of a text

no_more : (n total : ℕ) (found : List Token) → lex_from n total false found [] ≡ record { tokens = found; bad = None }
unfolding lex_from past_gap
no_more zero total found = refl
no_more (suc n) total found = refl

whole_made : (text : Text) (x : Kind) → make (length text) true text x [] ≡ whole x text
whole_made text x =
    let start : length text - length text ≡ 0 = omega arith in
    let long : length text - 0 - 0 ≡ length text = omega arith in
    rw (start, long) refl

one_token : (first : ℕ) (w : Text) (x : Kind) → past_gap false (first ∷ w) ≡ first ∷ w → token.read (first ∷ w) ≡ Some (x, [])
    → lexed_of (first ∷ w) ≡ record { tokens = whole x (first ∷ w) ∷ []; bad = None }
unfolding lex_from
one_token first w x begins read =
    let made = whole_made (first ∷ w) x in
    rw (begins, read) (no_more (length w) (length (first ∷ w)) (make (length (first ∷ w)) true (first ∷ w) x [] ∷ []) ∙ ap (λ (t : Token). record { tokens = t ∷ []; bad = None }) made)

name_is : (x : Kind) (text name : Text) → unquoted (bare x text) ≡ name → name_of text (whole x text) ≡ name
name_is x text name e = ap (λ (s : Text). unquoted (bare x s)) (take-length text) ∙ e

pub globals_are_read : GlobalsAreRead
unfolding past_gap
globals_are_read blank name own =
    let text = 64 ∷ name_text blank name in
    let read = ap (λ (x : Text). token.read (64 ∷ x)) (sym (append-nil (name_text blank name))) ∙ global_token blank name own [] refl in
    (one_token 64 (name_text blank name) k.GlobalName refl read, name_is k.GlobalName text name (name_spelled blank name own))

pub locals_are_read : LocalsAreRead
unfolding past_gap
locals_are_read blank name own =
    let text = 37 ∷ name_text blank name in
    let read = ap (λ (x : Text). token.read (37 ∷ x)) (sym (append-nil (name_text blank name))) ∙ local_token blank name own [] refl in
    (one_token 37 (name_text blank name) k.LocalName refl read, name_is k.LocalName text name (name_spelled blank name own))

pub numbers_are_read : NumbersAreRead
unfolding past_gap
numbers_are_read [] some e = absurd (omega (arith, some))
numbers_are_read (b ∷ digits) some e =
    let read = ap (λ (x : Text). token.read (37 ∷ b ∷ x)) (sym (append-nil digits)) ∙ number_token b digits [] e refl in
    (one_token 37 (b ∷ digits) k.LocalNumber refl read, name_is k.LocalNumber (37 ∷ b ∷ digits) (b ∷ digits) (digits_spelled (b ∷ digits) e))
