-- A number in place of a local name is a token that spells digits, and the brace that closes is one byte.
use Rattle.std.proofs.Common.{◌≡◌, ℕ, ◌+◌, ◌-◌, ◌≤◌, Bool, true, false, not, if◌then◌else◌, List, [], ◌∷◌, ◌++◌, length, take, drop, Option, None, Some, refl, ap, sym, subst, ◌∙◌, arith, append_assoc, length-append}
use Rattle.std.specs.Prelude.{◌==◌, codes, unwrap_or}
use Rattle.std.specs.List.{list_all, AllByRecursion}
use Rattle.std.specs.Str.{bytes_eq}
use Rattle.std.proofs.lemmas.Bool.{eqb-true}
use Rattle.std.proofs.lemmas.List.{take_at, drop_at}
use Rattle.std.proofs.Math.Seq.{take-append_seam}
use Rattle.lemmas.specs.Bools.{and_parts, not_true}
use Rattle.ir_tokens.specs.declared.class.ByteClass.{ByteClass}
use Rattle.ir_tokens.specs.declared.class.ByteClass.TheVariants as c
use Rattle.ir_tokens.specs.declared.token.Kind.{Kind}
use Rattle.ir_tokens.specs.declared.token.Kind.TheVariants as k
use Rattle.ir_tokens.specs.declared.token.Token.{Token}
use Rattle.ir_tokens.specs.declared.lexed.Lexed.{Lexed}
use Rattle.ir_tokens.specs.Bytes.{Text, is_letter, is_digit, is_name, class_of, sign_of, first_class, next, after_backslash, pair_of, digit}
use Rattle.ir_tokens.specs.Form.{Form, pure, skip, ◌>>=◌, ◌>>◌, look, span, quoted, Passes, begins, IsSpan, IsQuoted}
use Rattle.ir_tokens.specs.Keywords.{keywords, kind_in, other_word, word_kind, is_integer_type, is_negative_number, is_lowercase_word}
use Rattle.ir_tokens.specs.Names.{spelling, bare, unquoted, name_of}
use Rattle.ir_tokens.specs.Tokens.{token, token_by, word, number, quote, local, local_by, global, global_by, is_record, record_by, record_name, group, group_by, metadata, metadata_by, name, digits, quotation, sign, label_or, Cut, IsLexed}
use Rattle.ir_forms.specs.Cursor.{is_local_number, is_plus}
use Rattle.ir_print_law.specs.Stands.{AreDigits}
use Rattle.ir_print_law.specs.Standing.{IsClosed}
use Rattle.name_text.specs.Reading.{digits_spelled}

-- a number in place of a local name spells digits
abbrev pub SpellsDigits : Text → Token → Type 0
SpellsDigits text t = is_local_number t.kind ≡ true → AreDigits (name_of text t)

-- each of these tokens spells digits where it is such a number
abbrev pub AllSpell : Text → List Token → Type 0
AllSpell text tokens = AllByRecursion (SpellsDigits text) tokens

-- ---- what a form leaves

-- the first bytes end with the second ones
abbrev Ends : Text → Text → Type 0
Ends i o = (front : Text) × (i ≡ front ++ o)

-- what ends with bytes that end with others ends with those
ends_further : (i m o : Text) → Ends i m → Ends m o → Ends i o
ends_further i m o a b = (a.0 ++ b.0, a.1 ∙ ap (λ (x : Text). a.0 ++ x) b.1 ∙ sym (append_assoc a.0 b.0 o))

-- the bytes end with what the form leaves, and this holds for what was read
abbrev Leaves : {A : Type 0} → Form A → (A → Type 0) → Type 0
Leaves {A = A} f P = (i : Text) (a : A) (o : Text) → f.says i a o → Ends i o × P a

-- nothing is asked
abbrev Any : {A : Type 0} → A → Type 0
Any a = Unit {0}

-- kinds of tokens of which more is known: numbers in place of local names, and the brace that closes
abbrev is_told : Kind → Bool
is_told k.CloseBrace = true
is_told x = is_local_number x

-- what is read is of none of these kinds
abbrev IsOther : Form Kind → Type 0
IsOther f = Leaves f (λ x. is_told x ≡ false)

-- a form without bytes leaves all of them
pure_leaves : {A : Type 0} (P : A → Type 0) (a : A) → P a → Leaves (pure a) P
pure_leaves P a p i b o h = (([], h.1), subst P h.0 p)

-- two forms, one after the other
bind_leaves : {A B : Type 0} (P : B → Type 0) (g : Form A) (f : A → Form B) → Leaves g Any → ((a : A) → Leaves (f a) P) → Leaves (g >>= f) P
bind_leaves P g f x y i b o h =
    let first = x i h.0 h.1 h.2 in
    let second = y h.0 h.1 b o h.3 in
    (ends_further i h.1 o first.0 second.0, second.1)

-- a form that the next byte tells
look_leaves : {A : Type 0} (P : A → Type 0) (f : ByteClass → Form A) → ((x : ByteClass) → Leaves (f x) P) → Leaves (look f) P
look_leaves P f x i = x (first_class i) i

-- bytes end with all but the first of them
ends_skipped : (i : Text) → Ends i (drop 1 i)
ends_skipped [] = ([], refl)
ends_skipped (b ∷ bytes) = (b ∷ [], refl)

-- a byte is passed over
skip_leaves : Leaves skip Any
skip_leaves i a o h = (subst (Ends i) h.1 (ends_skipped i), tt)

-- bytes that pass a test are passed over
span_leaves : (p : ℕ → Bool) → Leaves (span p) Any
span_leaves p i a o h = ((a, h.0), tt)

-- what follows the next byte of quoted text
Left : Text → Option (ℕ × Text) → Type 0
Left i None = Unit {0}
Left i (Some p) = Ends i p.1

-- either of two outcomes
either_left : (t : Bool) (i : Text) (x y : Option (ℕ × Text)) → Left i x → Left i y → Left i (if t then x else y)
either_left true i x y h g = h
either_left false i x y h g = g

-- two hexadecimal digits are passed over
pair_left : (i rest : Text) (x y : Option ℕ) → Ends i rest → Left i (pair_of rest x y)
unfolding Left
pair_left i rest None y h = tt
pair_left i rest (Some x) None h = tt
pair_left i rest (Some x) (Some y) h = h

-- a backslash is passed over with what it begins
backslash_left : (b : ℕ) (s : Text) → Left (b ∷ s) (after_backslash s)
unfolding Left
backslash_left b [] = tt
backslash_left b (x ∷ []) = either_left (x == 92) (b ∷ x ∷ []) (Some (92, [])) None (b ∷ x ∷ [], refl) tt
backslash_left b (x ∷ y ∷ rest) =
    either_left (x == 92) (b ∷ x ∷ y ∷ rest) (Some (92, y ∷ rest)) (pair_of rest (digit x) (digit y)) (b ∷ x ∷ [], refl)
    (pair_left (b ∷ x ∷ y ∷ rest) rest (digit x) (digit y) (b ∷ x ∷ y ∷ [], refl))

-- the next byte of a quoted text is passed over
next_left : (i : Text) → Left i (next i)
unfolding next Left
next_left [] = tt
next_left (b ∷ bytes) =
    either_left (b == 34) (b ∷ bytes) None (if b == 92 then after_backslash bytes else Some (b, bytes)) tt
    (either_left (b == 92) (b ∷ bytes) (after_backslash bytes) (Some (b, bytes)) (backslash_left b bytes) (b ∷ [], refl))

-- a quoted text is passed over
ends_quoted : (i text o : Text) → IsQuoted i text o → Ends i o
unfolding Left
ends_quoted i [] o h = (34 ∷ [], h)
ends_quoted i (b ∷ text) o h = ends_further i h.0 o (subst (Left i) h.1 (next_left i)) (ends_quoted h.0 text o h.2)

-- a quoted text is passed over, whatever it spells
quoted_leaves : Leaves quoted Any
quoted_leaves i a o h = (ends_quoted i h.0 o h.1, tt)

-- ---- the kinds of words

-- either of two kinds
either_other : (t : Bool) (x y : Kind) → is_told x ≡ false → is_told y ≡ false → is_told (if t then x else y) ≡ false
either_other true x y e f = e
either_other false x y e f = f

-- a word without a kind of its own is no such number
other_word_is : (w : Text) → is_told (other_word w) ≡ false
other_word_is w =
    either_other (is_negative_number w) k.Number _ refl
    (either_other (is_lowercase_word w) k.LowercaseWord _ refl (either_other (bytes_eq w (codes "...")) k.Dots k.Word refl refl))

-- no entry has the kind of such a number
abbrev AreOther : List (Text × Kind) → Type 0
AreOther = AllByRecursion (λ entry. is_told entry.1 ≡ false)

-- by whether an entry is that of the word
entry_by : (t : Bool) (x y : Kind) (r : Option Kind) → is_told x ≡ false → is_told (unwrap_or r y) ≡ false
    → is_told (unwrap_or (if t then Some x else r) y) ≡ false
entry_by true x y r e f = e
entry_by false x y r e f = f

-- a kind in the list is no such number, and neither is the one that a word has that is not in it
kind_in_is : (entries : List (Text × Kind)) (w : Text) (y : Kind) → AreOther entries → is_told y ≡ false → is_told (unwrap_or (kind_in entries w) y) ≡ false
kind_in_is [] w y h e = e
kind_in_is (entry ∷ entries) w y h e = entry_by (bytes_eq entry.0 w) entry.1 y (kind_in entries w) h.0 (kind_in_is entries w y h.1 e)

-- a test of each entry tells it of all
all_other : (entries : List (Text × Kind)) → list_all (λ entry. not (is_told entry.1)) entries ≡ true → AreOther entries
all_other [] e = tt
all_other (entry ∷ entries) e = let parts = and_parts (not (is_told entry.1)) _ e in (not_true (is_told entry.1) parts.0, all_other entries parts.1)

-- no keyword is such a number
keywords_other : list_all (λ entry. not (is_told entry.1)) keywords ≡ true
unfolding keywords
keywords_other = refl

-- no word is such a number
word_kind_is : (w : Text) → is_told (word_kind w) ≡ false
unfolding word_kind
word_kind_is w = either_other (is_integer_type w) k.IntegerType _ refl (kind_in_is keywords w (other_word w) (all_other keywords keywords_other) (other_word_is w))

-- ---- no word is a plus

-- neither of two kinds is a plus
either_no_plus : (t : Bool) (x y : Kind) → is_plus x ≡ false → is_plus y ≡ false → is_plus (if t then x else y) ≡ false
either_no_plus true x y e f = e
either_no_plus false x y e f = f

-- a word without a kind of its own
other_no_plus : (w : Text) → is_plus (other_word w) ≡ false
other_no_plus w =
    either_no_plus (is_negative_number w) k.Number _ refl
    (either_no_plus (is_lowercase_word w) k.LowercaseWord _ refl (either_no_plus (bytes_eq w (codes "...")) k.Dots k.Word refl refl))

entry_no_plus : (t : Bool) (x y : Kind) (r : Option Kind) → is_plus x ≡ false → is_plus (unwrap_or r y) ≡ false → is_plus (unwrap_or (if t then Some x else r) y) ≡ false
entry_no_plus true x y r e f = e
entry_no_plus false x y r e f = f

-- a kind in a list in which no entry is a plus
kind_no_plus : (entries : List (Text × Kind)) (w : Text) (y : Kind) → list_all (λ entry. not (is_plus entry.1)) entries ≡ true → is_plus y ≡ false → is_plus (unwrap_or (kind_in entries w) y) ≡ false
kind_no_plus [] w y h e = e
kind_no_plus (entry ∷ entries) w y h e =
    let parts = and_parts (not (is_plus entry.1)) _ h in
    entry_no_plus (bytes_eq entry.0 w) entry.1 y (kind_in entries w) (not_true (is_plus entry.1) parts.0) (kind_no_plus entries w y parts.1 e)

-- no keyword is a plus
keywords_no_plus : list_all (λ entry. not (is_plus entry.1)) keywords ≡ true
unfolding keywords
keywords_no_plus = refl

pub word_no_plus : (w : Text) → is_plus (word_kind w) ≡ false
unfolding word_kind
word_no_plus w = either_no_plus (is_integer_type w) k.IntegerType _ refl (kind_no_plus keywords w (other_word w) keywords_no_plus (other_no_plus w))

-- ---- which class a byte has

-- what the kind of a sign tells of its byte
abbrev IsSign : ℕ → Kind → Type 0
IsSign b k.CloseBrace = b == 125 ≡ true
IsSign b x = is_local_number x ≡ false

-- what a class tells of its byte
abbrev Told : ℕ → ByteClass → Type 0
Told b c.Digit = is_digit b ≡ true
Told b (c.Sign x) = IsSign b x
Told b _ = Unit {0}

-- either of two classes
either_told : (t : Bool) (b : ℕ) (x y : ByteClass) → Told b x → Told b y → Told b (if t then x else y)
either_told true b x y h g = h
either_told false b x y h g = g

-- the brace that closes, or another class
brace_told : (t : Bool) (b : ℕ) (y : ByteClass) → b == 125 ≡ t → Told b y → Told b (if t then c.Sign k.CloseBrace else y)
brace_told true b y e h = e
brace_told false b y e h = h

-- a sign is no number, and the brace that closes is this byte
sign_told : (b : ℕ) → Told b (sign_of b)
sign_told b =
    either_told (b == 61) b (c.Sign k.Equals) _ refl (either_told (b == 44) b (c.Sign k.Comma) _ refl
    (either_told (b == 40) b (c.Sign k.OpenRound) _ refl (either_told (b == 41) b (c.Sign k.CloseRound) _ refl
    (either_told (b == 91) b (c.Sign k.OpenSquare) _ refl (either_told (b == 93) b (c.Sign k.CloseSquare) _ refl
    (either_told (b == 123) b (c.Sign k.OpenBrace) _ refl (brace_told (b == 125) b _ refl
    (either_told (b == 42) b (c.Sign k.Star) _ refl (either_told (b == 60) b (c.Sign k.Less) _ refl
    (either_told (b == 62) b (c.Sign k.Greater) _ refl (either_told (b == 124) b (c.Sign k.Bar) _ refl
    (either_told (b == 43) b (c.Sign k.Plus) c.Other refl tt))))))))))))

-- the class of a byte that is neither a letter nor a digit
abbrev other_class : ℕ → ByteClass
other_class b =
    if b == 34 then c.Quote
    else (if b == 37 then c.Percent
    else (if b == 64 then c.At
    else (if b == 35 then c.Hash
    else (if b == 33 then c.Exclamation
    else (if b == 58 then c.Colon
    else sign_of b)))))

-- a byte that is neither a letter nor a digit
other_told : (b : ℕ) → Told b (other_class b)
other_told b =
    either_told (b == 34) b c.Quote _ tt (either_told (b == 37) b c.Percent _ tt (either_told (b == 64) b c.At _ tt
    (either_told (b == 35) b c.Hash _ tt (either_told (b == 33) b c.Exclamation _ tt (either_told (b == 58) b c.Colon (sign_of b) tt (sign_told b))))))

-- each byte has what its class tells
class_told : (b : ℕ) → Told b (class_of b)
unfolding class_of
class_told b = either_told (is_letter b) b c.Letter _ tt (by (is_digit b) refl) where
  by : (t : Bool) → is_digit b ≡ t → Told b (if t then c.Digit else other_class b)
  by true e = e
  by false e = other_told b

-- a byte of the class of digits is a digit
first_digit : (i : Text) → first_class i ≡ c.Digit → begins is_digit i ≡ true
first_digit [] e = absurd (let q = ap is_end e in cc) where
  is_end : ByteClass → Bool
  is_end c.End = true
  is_end _ = false
first_digit (b ∷ bytes) e = subst (Told b) e (class_told b)

-- ---- tokens

-- a word of this kind, and the bytes after it; it spells digits if it is a number in place of a local name, and one byte if it is the brace that closes
abbrev Reads : Text → Kind → Text → Type 0
Reads i x o = (w : Text) × (i ≡ w ++ o) × (is_local_number x ≡ true → AreDigits (unquoted (bare x w))) × (x ≡ k.CloseBrace → w ≡ 125 ∷ [])

-- a kind is no such number, or else anything follows
no_number : (x : Kind) (D : Type 0) → is_told x ≡ false → is_local_number x ≡ true → D
no_number k.CloseBrace D e h = absurd cc
no_number x D e h = absurd (let q = sym e ∙ h in cc)

-- and it is no such brace
no_brace : (x : Kind) (D : Type 0) → is_told x ≡ false → x ≡ k.CloseBrace → D
no_brace x D e h = absurd (let q = sym e ∙ ap is_told h in cc)

-- a form of other tokens
other_reads : (f : Form Kind) → IsOther f → (i : Text) (x : Kind) (o : Text) → f.says i x o → Reads i x o
other_reads f other i x o h = let p = other i x o h in (p.0.0, p.0.1, no_number x _ p.1, no_brace x _ p.1)

-- plain names
name_other : (x : Kind) → is_told x ≡ false → IsOther (name x)
name_other x e = bind_leaves (λ y. is_told y ≡ false) (span is_name) (λ _. pure x) (span_leaves is_name) (λ _. pure_leaves _ x e)

-- digits of another kind
digits_other : (x : Kind) → is_told x ≡ false → IsOther (digits x)
digits_other x e = bind_leaves (λ y. is_told y ≡ false) (span is_digit) (λ _. pure x) (span_leaves is_digit) (λ _. pure_leaves _ x e)

-- what comes after a byte
after_skip : (f : Form Kind) → IsOther f → IsOther (skip >> f)
after_skip f other = bind_leaves (λ y. is_told y ≡ false) skip (λ _. f) skip_leaves (λ _. other)

-- quoted text
quotation_other : (x : Kind) → is_told x ≡ false → IsOther (quotation x)
quotation_other x e =
    bind_leaves (λ y. is_told y ≡ false) (skip >> quoted) (λ _. pure x) (bind_leaves Any skip (λ _. quoted) skip_leaves (λ _. quoted_leaves)) (λ _. pure_leaves _ x e)

-- a label of another kind, or no label
label_other : (colon other : Kind) → is_told colon ≡ false → is_told other ≡ false → (x : ByteClass) → IsOther (label_or colon other x)
label_other colon other e f c.Colon = after_skip (pure colon) (pure_leaves (λ y. is_told y ≡ false) colon e)
label_other colon other e f _ = pure_leaves (λ y. is_told y ≡ false) other f

-- words and labels of plain names
word_other : IsOther word
unfolding word
word_other =
    bind_leaves (λ y. is_told y ≡ false) (span is_name) (λ t. look (label_or k.LabelName (word_kind t))) (span_leaves is_name)
    (λ t. look_leaves (λ y. is_told y ≡ false) (label_or k.LabelName (word_kind t)) (label_other k.LabelName (word_kind t) refl (word_kind_is t)))

-- quoted text and labels of quoted names
quote_other : IsOther quote
unfolding quote
quote_other =
    bind_leaves (λ y. is_told y ≡ false) (skip >> quoted) (λ _. look (label_or k.LabelName k.Quoted)) (bind_leaves Any skip (λ _. quoted) skip_leaves (λ _. quoted_leaves))
    (λ _. look_leaves (λ y. is_told y ≡ false) (label_or k.LabelName k.Quoted) (label_other k.LabelName k.Quoted refl refl))

-- names of symbols
global_other : IsOther global
unfolding global
global_other = after_skip (look global_by) (look_leaves _ global_by by) where
  by : (x : ByteClass) → IsOther (global_by x)
  by c.Quote = quotation_other k.GlobalName refl
  by c.Letter = name_other k.GlobalName refl
  by _ = λ i a o h. absurd h

-- names of debug records
record_other : IsOther record_name
unfolding record_name
record_other = bind_leaves (λ y. is_told y ≡ false) (span is_name) (λ name. record_by (is_record name)) (span_leaves is_name) (λ name. by (is_record name)) where
  by : (t : Bool) → IsOther (record_by t)
  by true = pure_leaves (λ y. is_told y ≡ false) k.DebugRecord refl
  by false = λ i a o h. absurd h

-- groups of attributes, and debug records
group_other : IsOther group
unfolding group
group_other = after_skip (look group_by) (look_leaves _ group_by by) where
  by : (x : ByteClass) → IsOther (group_by x)
  by c.Digit = digits_other k.AttributeGroup refl
  by c.Letter = record_other
  by _ = λ i a o h. absurd h

-- metadata
metadata_other : IsOther metadata
unfolding metadata
metadata_other = after_skip (look metadata_by) (look_leaves _ metadata_by by) where
  by : (x : ByteClass) → IsOther (metadata_by x)
  by c.Letter = name_other k.MetadataName refl
  by c.Digit = digits_other k.MetadataNumber refl
  by _ = pure_leaves (λ y. is_told y ≡ false) k.Exclamation refl

-- ---- numbers

-- each byte of a run of digits is a digit
all_digits : (w : Text) → Passes is_digit w → list_all is_digit w ≡ true
all_digits [] h = refl
all_digits (b ∷ w) h = rw h.0 (all_digits w h.1)

-- the run of digits at the start, where the first byte is one
span_digits : (i w o : Text) → begins is_digit i ≡ true → IsSpan is_digit i w o → AreDigits w
span_digits i [] o e h = absurd (let q = sym e ∙ ap (begins is_digit) h.0 ∙ h.2 in cc)
span_digits i (b ∷ w) o e h = (omega arith, all_digits (b ∷ w) h.1)

-- digits have no quotes
spelled_digits : (w : Text) → AreDigits w → AreDigits (unquoted w)
spelled_digits w own = subst AreDigits (sym (digits_spelled w own.1)) own

-- a label of digits spells them
label_digits : (w : Text) (b : ℕ) → AreDigits w → AreDigits (unquoted (bare k.LabelNumber (w ++ b ∷ [])))
label_digits w b own =
    let long : length (w ++ b ∷ []) - 1 ≡ length w = omega (arith, length-append w (b ∷ [])) in
    subst (λ (x : Text). AreDigits (unquoted x)) (sym (ap (λ (n : ℕ). take n (w ++ b ∷ [])) long ∙ take-append_seam w (b ∷ []))) (spelled_digits w own)

-- digits with a byte after them
label_reads : (i w m : Text) (x : Kind) (o : Text) → IsSpan is_digit i w m → AreDigits w → first_class m ≡ c.Colon → (skip >> pure k.LabelNumber).says m x o → Reads i x o
label_reads i w [] x o span own e h = absurd (let q = ap is_end e in cc) where
  is_end : ByteClass → Bool
  is_end c.End = true
  is_end _ = false
label_reads i w (b ∷ m) x o span own e h = (
  w ++ b ∷ [],
  span.0 ∙ ap (λ (y : Text). w ++ b ∷ y) (h.2.1 ∙ h.3.1) ∙ sym (append_assoc w (b ∷ []) o),
  λ _. subst (λ (y : Kind). AreDigits (unquoted (bare y (w ++ b ∷ [])))) h.3.0 (label_digits w b own),
  λ brace. absurd (let q = h.3.0 ∙ brace in cc),
)

-- a number, or the label that is one
number_reads : (i : Text) (x : Kind) (o : Text) → begins is_digit i ≡ true → number.says i x o → Reads i x o
unfolding number
number_reads i x o e h = by (first_class h.1) refl h.3 where
  by : (y : ByteClass) → first_class h.1 ≡ y → (label_or k.LabelNumber k.Number y).says h.1 x o → Reads i x o
  by c.Colon f s = label_reads i h.0 h.1 x o h.2 (span_digits i h.0 h.1 e h.2) f s
  by _ f s =
      let other = subst (λ (y : Kind). is_told y ≡ false) s.0 refl in
      (h.0, h.2.0 ∙ ap (λ (y : Text). h.0 ++ y) s.1, no_number x _ other, no_brace x _ other)

-- a number after its sign
number_after : (b : ℕ) (i : Text) (x : Kind) (o : Text) → begins is_digit i ≡ true → (digits k.LocalNumber).says i x o → Reads (b ∷ i) x o
number_after b i x o e h = (
  b ∷ h.0,
  ap (λ (y : Text). b ∷ y) (h.2.0 ∙ ap (λ (y : Text). h.0 ++ y) h.3.1),
  λ _. subst (λ (y : Kind). AreDigits (unquoted (bare y (b ∷ h.0)))) h.3.0 (spelled_digits h.0 (span_digits i h.0 h.1 e h.2)),
  λ brace. absurd (let q = h.3.0 ∙ brace in cc),
)

-- a local name, or a number in its place
local_reads : (b : ℕ) (i : Text) (x : Kind) (o : Text) → (look local_by).says i x o → Reads (b ∷ i) x o
local_reads b i x o h = by (first_class i) refl h where
  other : (f : Form Kind) → IsOther f → f.says i x o → Reads (b ∷ i) x o
  other f is s = let r = other_reads f is i x o s in (b ∷ r.0, ap (λ (y : Text). b ∷ y) r.1, no_number x _ (is i x o s).1, no_brace x _ (is i x o s).1)

  by : (y : ByteClass) → first_class i ≡ y → (local_by y).says i x o → Reads (b ∷ i) x o
  by c.Quote e s = other (quotation k.LocalName) (quotation_other k.LocalName refl) s
  by c.Letter e s = other (name k.LocalName) (name_other k.LocalName refl) s
  by c.Digit e s = number_after b i x o (first_digit i e) s
  by _ e s = absurd s

-- the brace that closes
brace_reads : (b : ℕ) (i : Text) (x : Kind) (o : Text) → b ≡ 125 → (sign k.CloseBrace).says (b ∷ i) x o → Reads (b ∷ i) x o
brace_reads b i x o is h = (
  b ∷ [],
  ap (λ (y : Text). b ∷ y) (h.2.1 ∙ h.3.1),
  λ number. absurd (let q = ap is_local_number h.3.0 ∙ number in cc),
  λ _. ap (λ (n : ℕ). n ∷ []) is,
)

-- a sign
sign_reads : (b : ℕ) (i : Text) (y x : Kind) (o : Text) → IsSign b y → (sign y).says (b ∷ i) x o → Reads (b ∷ i) x o
sign_reads b i k.CloseBrace x o is s = brace_reads b i x o (eqb-true b 125 is) s
sign_reads b i y x o is s = other_reads (sign y) (after_skip (pure y) (pure_leaves (λ z. is_told z ≡ false) y is)) (b ∷ i) x o s

-- each token
token_reads : (i : Text) (x : Kind) (o : Text) → token.says i x o → Reads i x o
unfolding token local
token_reads [] x o h = absurd h
token_reads (b ∷ i) x o h = by (class_of b) refl h where
  by : (y : ByteClass) → class_of b ≡ y → (token_by y).says (b ∷ i) x o → Reads (b ∷ i) x o
  by c.Letter e s = other_reads word word_other (b ∷ i) x o s
  by c.Digit e s = number_reads (b ∷ i) x o (subst (Told b) e (class_told b)) s
  by c.Quote e s = other_reads quote quote_other (b ∷ i) x o s
  by c.Percent e s = local_reads b i x o (subst (λ (y : Text). (look local_by).says y x o) (sym s.2.1) s.3)
  by c.At e s = other_reads global global_other (b ∷ i) x o s
  by c.Hash e s = other_reads group group_other (b ∷ i) x o s
  by c.Exclamation e s = other_reads metadata metadata_other (b ∷ i) x o s
  by (c.Sign y) e s = sign_reads b i y x o (subst (Told b) e (class_told b)) s
  by _ e s = absurd s

-- ---- the tokens of a text

-- the bytes that spell a token at this place
spelling_is : (front w o : Text) (t : Token) → t.start ≡ length front → t.length ≡ length w → take t.length (drop t.start (front ++ (w ++ o))) ≡ w
spelling_is front w o t e f = ap (λ (x : Text). take t.length x) (drop_at front (w ++ o) t.start (sym e)) ∙ take_at w o t.length (sym f)

-- each token that is cut from the text
cut_spells : (text front bytes : Text) (first : Bool) (ts : List Token) (last : Text) → text ≡ front ++ bytes → Cut (length text) first bytes ts last → AllSpell text ts
cut_spells text front bytes first [] last e h = tt
cut_spells text front bytes first (t ∷ ts) last e h = (here, cut_spells text ((front ++ h.0) ++ r.0) h.2 false ts last further h.9) where
  r : Reads h.1 t.kind h.2
  r = token_reads h.1 t.kind h.2 h.5

  whole : text ≡ (front ++ h.0) ++ (r.0 ++ h.2)
  whole = e ∙ ap (λ (x : Text). front ++ x) (h.3 ∙ ap (λ (x : Text). h.0 ++ x) r.1) ∙ sym (append_assoc front h.0 (r.0 ++ h.2))

  further : text ≡ ((front ++ h.0) ++ r.0) ++ h.2
  further = whole ∙ sym (append_assoc (front ++ h.0) r.0 h.2)

  long : length h.1 ≡ length r.0 + length h.2
  long = ap length r.1 ∙ length-append r.0 h.2

  all : length text ≡ length (front ++ h.0) + (length r.0 + length h.2)
  all = ap length whole ∙ length-append (front ++ h.0) (r.0 ++ h.2) ∙ ap (λ (n : ℕ). length (front ++ h.0) + n) (length-append r.0 h.2)

  spelled : spelling text t ≡ r.0
  spelled =
      let start : t.start ≡ length (front ++ h.0) = let s = h.6 in omega (arith, s, all, long) in
      let size : t.length ≡ length r.0 = let s = h.7 in omega (arith, s, long) in
      ap (λ (x : Text). take t.length (drop t.start x)) whole ∙ spelling_is (front ++ h.0) r.0 h.2 t start size

  here : SpellsDigits text t
  here = λ n. subst (λ (x : Text). AreDigits (unquoted (bare t.kind x))) (sym spelled) (r.2 n)

-- The tokens of a text spell digits where they are numbers in place of local names.
pub lexed_spell : (bytes : Text) (lexed : Lexed) → IsLexed bytes lexed → AllSpell bytes lexed.tokens
lexed_spell bytes lexed h = by lexed.bad h where
  by : (bad : Option ℕ) → IsLexed bytes (record { tokens = lexed.tokens; bad = bad }) → AllSpell bytes lexed.tokens
  by None s = cut_spells bytes [] bytes true lexed.tokens [] refl s
  by (Some place) s = cut_spells bytes [] bytes true lexed.tokens s.0 refl s.1

-- ---- the brace that closes

-- where the last of these tokens begins
abbrev pub last_start : List Token → ℕ
last_start [] = 0
last_start (t ∷ []) = t.start
last_start (t ∷ u ∷ ts) = last_start (u ∷ ts)

-- the last token begins within the bytes
pub last_within : (total : ℕ) (first : Bool) (bytes : Text) (t : Token) (ts : List Token) (last : Text) → Cut total first bytes (t ∷ ts) last → total ≤ last_start (t ∷ ts) + length bytes
last_within total first bytes t [] last h =
    let start = h.6 in
    let long = ap length h.3 ∙ length-append h.0 h.1 in
    omega (arith, start, long)
last_within total first bytes t (u ∷ ts) last h =
    let further = last_within total false h.2 u ts last h.9 in
    let long = ap length h.3 ∙ length-append h.0 h.1 in
    let size = h.7 in
    omega (arith, further, long, size)

-- where the last token is the brace that closes, its byte is there
pub last_brace : (text front bytes : Text) (first : Bool) (ts : List Token) (last : Text) → text ≡ front ++ bytes → Cut (length text) first bytes ts last → IsClosed ts
    → (further : Text) × (drop (last_start ts) text ≡ 125 ∷ further)
last_brace text front bytes first [] last e h closed = absurd closed
last_brace text front bytes first (t ∷ []) last e h closed =
    let r = token_reads h.1 t.kind h.2 h.5 in
    let at : h.1 ≡ 125 ∷ h.2 = r.1 ∙ ap (λ (w : Text). w ++ h.2) (r.3 closed) in
    let whole : text ≡ (front ++ h.0) ++ h.1 = e ∙ ap (λ (x : Text). front ++ x) h.3 ∙ sym (append_assoc front h.0 h.1) in
    let all = ap length whole ∙ length-append (front ++ h.0) h.1 in
    let start = h.6 in
    let place : t.start ≡ length (front ++ h.0) = omega (arith, start, all) in
    (h.2, ap (drop t.start) whole ∙ drop_at (front ++ h.0) h.1 t.start (sym place) ∙ at)
last_brace text front bytes first (t ∷ u ∷ ts) last e h closed =
    let r = token_reads h.1 t.kind h.2 h.5 in
    let whole : text ≡ (front ++ h.0) ++ (r.0 ++ h.2) = e ∙ ap (λ (x : Text). front ++ x) (h.3 ∙ ap (λ (x : Text). h.0 ++ x) r.1) ∙ sym (append_assoc front h.0 (r.0 ++ h.2)) in
    last_brace text ((front ++ h.0) ++ r.0) h.2 false (u ∷ ts) last (whole ∙ sym (append_assoc (front ++ h.0) r.0 h.2)) h.9 closed
