-- Where reading is in a text, and the token that comes next there.
use Rattle.std.proofs.Common.{◌≡◌, ℕ, zero, suc, ◌+◌, ◌-◌, ◌<◌, ◌≤◌, Bool, true, false, if◌then◌else◌, List, [], ◌∷◌, ◌++◌, length, take, drop, Some, None, refl, ap, sym, ◌∙◌, arith, append_assoc, length-append}
use Rattle.std.specs.Prelude.{◌==◌, ◌||◌, ◌&&◌, not, nat_lt}
use Rattle.std.proofs.lemmas.Bool.Decides.{nat_tests}
use Rattle.std.proofs.lemmas.List.{take_at, drop_at}
use Rattle.ir_tokens.specs.declared.token.Kind.{Kind}
use Rattle.ir_tokens.specs.declared.token.Token.{Token}
use Rattle.ir_tokens.specs.declared.lexed.Lexed.{Lexed}
use Rattle.ir_tokens.specs.Bytes.{Text}
use Rattle.ir_tokens.specs.Form.{Outcome}
use Rattle.ir_tokens.specs.Names.{bare, unquoted}
use Rattle.ir_tokens.specs.Tokens.{token, is_blank, past_gap, ends_line, before, make, ended, on_token, lex_at, lex_from}
use Rattle.ir_forms.specs.Place.{Place}
use Rattle.ir_print_law.specs.Stands.{Stands}
use Rattle.ir_forms.specs.Cursor.{kind, kind_first, here, is_plus, is_stop, spelling, spelled, spelled_first, start, start_first, size, size_first, begun_at, next, rest_of}

-- tokens before those that are read
abbrev afterwards : List Token → Lexed → Lexed
afterwards tokens l = record { tokens = tokens ++ l.tokens; bad = l.bad }

ended_after : (total : ℕ) (tokens found : List Token) (at : Text) → ended total (tokens ++ found) at ≡ afterwards tokens (ended total found at)
ended_after total tokens found [] = refl
ended_after total tokens found (b ∷ bytes) = refl

-- what was found before stays before what is read
lex_after : (n total : ℕ) (first : Bool) (tokens found : List Token) (bytes : Text) → lex_from n total first (tokens ++ found) bytes ≡ afterwards tokens (lex_from n total first found bytes)
unfolding lex_from
lex_after zero total first tokens found bytes = ended_after total tokens found (past_gap false bytes)
lex_after (suc n) total first tokens found bytes = at_by (past_gap false bytes) (first || ends_line (before bytes (past_gap false bytes)))
    (λ t rest. ap (λ (x : List Token). lex_from n total false x rest) (append_assoc tokens found (t ∷ [])) ∙ lex_after n total false tokens (found ++ t ∷ []) rest) where
      at_by : (at : Text) (begins : Bool) → ((t : Token) (rest : Text) → lex_from n total false ((tokens ++ found) ++ t ∷ []) rest ≡ afterwards tokens (lex_from n total false (found ++ t ∷ []) rest))
          → lex_at total begins (tokens ++ found) at (lex_from n total false) ≡ afterwards tokens (lex_at total begins found at (lex_from n total false))
      at_by [] begins more = refl
      at_by (b ∷ bytes) begins more = token_is (token.read (b ∷ bytes)) where
        token_is : (r : Outcome Kind)
            → on_token r (record { tokens = tokens ++ found; bad = Some (total - length (b ∷ bytes)) }) (λ x rest. lex_from n total false ((tokens ++ found) ++ make total begins (b ∷ bytes) x rest ∷ []) rest)
            ≡ afterwards tokens (on_token r (record { tokens = found; bad = Some (total - length (b ∷ bytes)) }) (λ x rest. lex_from n total false (found ++ make total begins (b ∷ bytes) x rest ∷ []) rest))
        token_is None = refl
        token_is (Some p) = more (make total begins (b ∷ bytes) p.0 p.1) p.1

-- one token comes, and those after it
lex_one : (n total : ℕ) (first : Bool) (bytes : Text) (b : ℕ) (bs rest : Text) (x : Kind) → past_gap false bytes ≡ b ∷ bs → token.read (b ∷ bs) ≡ Some (x, rest)
    → lex_from (suc n) total first [] bytes ≡ afterwards (make total (first || ends_line (before bytes (b ∷ bs))) (b ∷ bs) x rest ∷ []) (lex_from n total false [] rest)
unfolding lex_from
lex_one n total first bytes b bs rest x gap read =
    rw (gap, read) (lex_after n total false (make total (first || ends_line (before bytes (b ∷ bs))) (b ∷ bs) x rest ∷ []) [] rest)

-- the token of this kind comes next, spelled by this word, and the rest comes after it
abbrev pub Comes : Place → Kind → Text → Text → Type 0
Comes c x word rest = (kind c ≡ x) × (spelling c ≡ word) × (spelled c ≡ unquoted (bare x word)) × Stands (next c) rest

spelled_at : (front word rest : Text) (place long : ℕ) → place ≡ length front → long ≡ length word → take long (drop place (front ++ (word ++ rest))) ≡ word
spelled_at front word rest place long e f =
    ap (λ (x : Text). take long x) (drop_at front (word ++ rest) place (sym e)) ∙ take_at word rest long (sym f)

-- a token that is no plus is seen
pub seen_here : (wide : Bool) (t : Token) (ts : List Token) → is_plus t.kind ≡ false → here wide (t ∷ ts) ≡ t ∷ ts
seen_here wide t ts e = ap (λ (b : Bool). if b && not wide then [] else t ∷ ts) e

come_by : (c : Place) (front word rest : Text) (n : ℕ) (x : Kind) (t : Token) → is_plus x ≡ false → c.text ≡ front ++ (word ++ rest) → length rest ≤ n → t.kind ≡ x → t.start ≡ length front → t.length ≡ length word
    → c.rest ≡ t ∷ (lex_from n (length c.text) false [] rest).tokens → c.bad ≡ (lex_from n (length c.text) false [] rest).bad → Comes c x word rest
unfolding kind spelling spelled start size next
come_by c front word rest n x t plain text fits is from long there bad =
    let first : here c.wide c.rest ≡ t ∷ (lex_from n (length c.text) false [] rest).tokens =
    ap (here c.wide) there ∙ seen_here c.wide t (lex_from n (length c.text) false [] rest).tokens (ap is_plus is ∙ plain) in
    let spelled_so : take t.length (drop t.start c.text) ≡ word = ap (λ (y : Text). take t.length (drop t.start y)) text ∙ spelled_at front word rest t.start t.length from long in (
      ap kind_first first ∙ is,
      ap (λ (ts : List Token). take (size_first ts) (drop (start_first ts (length c.text)) c.text)) first ∙ spelled_so,
      ap (spelled_first c.text) there ∙ ap (λ (y : Text). unquoted (bare t.kind y)) spelled_so ∙ ap (λ (y : Kind). unquoted (bare y word)) is,
      (front ++ word, n, false, text ∙ sym (append_assoc front word rest), fits, ap rest_of there, bad),
    )

-- after a gap comes the token that the bytes are read as
pub comes : (c : Place) (gap : Text) (b : ℕ) (bs word rest : Text) (x : Kind) → is_plus x ≡ false → past_gap false (gap ++ b ∷ bs) ≡ b ∷ bs → token.read (b ∷ bs) ≡ Some (x, rest) → b ∷ bs ≡ word ++ rest → 0 < length word
    → Stands c (gap ++ b ∷ bs) → Comes c x word rest
comes c gap b bs word rest x plain past read parts some at = by at.1 at.4 at.5 at.6 where
  whole : c.text ≡ (at.0 ++ gap) ++ (word ++ rest)
  whole = at.3 ∙ sym (append_assoc at.0 gap (b ∷ bs)) ∙ ap (λ (y : Text). (at.0 ++ gap) ++ y) parts

  by : (n : ℕ) → length (gap ++ b ∷ bs) ≤ n → c.rest ≡ (lex_from n (length c.text) at.2 [] (gap ++ b ∷ bs)).tokens → c.bad ≡ (lex_from n (length c.text) at.2 [] (gap ++ b ∷ bs)).bad → Comes c x word rest
  by zero fits tokens bad = absurd (let size = length-append gap (b ∷ bs) in omega (arith, fits, size))
  by (suc n) fits tokens bad =
      let total = length c.text in
      let t = make total (at.2 || ends_line (before (gap ++ b ∷ bs) (b ∷ bs))) (b ∷ bs) x rest in
      let e = lex_one n total at.2 (gap ++ b ∷ bs) b bs rest x past read in
      let long : length (b ∷ bs) ≡ length word + length rest = ap length parts ∙ length-append word rest in
      let front_gap = length-append at.0 gap in
      let gap_rest = length-append gap (b ∷ bs) in
      let all : length c.text ≡ length (at.0 ++ gap) + (length word + length rest) = ap length whole ∙ length-append (at.0 ++ gap) (word ++ rest) ∙ ap (λ (y : ℕ). length (at.0 ++ gap) + y) (length-append word rest) in
      let fits_after : length rest ≤ n = omega (arith, fits, long, some, gap_rest) in
      let from : length c.text - length (b ∷ bs) ≡ length (at.0 ++ gap) = omega (arith, all, long) in
      let size : (length c.text - length rest) - (length c.text - length (b ∷ bs)) ≡ length word = omega (arith, all, long) in
      come_by c (at.0 ++ gap) word rest n x t plain whole fits_after refl from size (tokens ∙ ap (λ (y : Lexed). y.tokens) e) (bad ∙ ap (λ (y : Lexed). y.bad) e)

-- ---- where a token begins

-- the tokens of a place, where the first one of these bytes comes next
first_token : (c : Place) (gap : Text) (b : ℕ) (bs rest : Text) (x : Kind) → past_gap false (gap ++ b ∷ bs) ≡ b ∷ bs → token.read (b ∷ bs) ≡ Some (x, rest) → Stands c (gap ++ b ∷ bs)
    → (t : Token) × (t.kind ≡ x) × (t.start + length (b ∷ bs) ≡ length c.text) × (c.rest ≡ t ∷ rest_of c.rest)
first_token c gap b bs rest x past read at = by at.1 at.4 at.5 where
  by : (n : ℕ) → length (gap ++ b ∷ bs) ≤ n → c.rest ≡ (lex_from n (length c.text) at.2 [] (gap ++ b ∷ bs)).tokens
      → (t : Token) × (t.kind ≡ x) × (t.start + length (b ∷ bs) ≡ length c.text) × (c.rest ≡ t ∷ rest_of c.rest)
  by zero fits tokens = absurd (let size = length-append gap (b ∷ bs) in omega (arith, fits, size))
  by (suc n) fits tokens =
      let total = length c.text in
      let t = make total (at.2 || ends_line (before (gap ++ b ∷ bs) (b ∷ bs))) (b ∷ bs) x rest in
      let e = tokens ∙ ap (λ (y : Lexed). y.tokens) (lex_one n total at.2 (gap ++ b ∷ bs) b bs rest x past read) in
      let whole = ap length at.3 ∙ length-append at.0 (gap ++ b ∷ bs) in
      let size = length-append gap (b ∷ bs) in
      (t, refl, omega (arith, whole, size), e ∙ ap (λ (ts : List Token). t ∷ rest_of ts) (sym e))

-- the next token begins where these bytes do
pub begins_there : (c : Place) (gap : Text) (b : ℕ) (bs rest : Text) (x : Kind) → is_plus x ≡ false → past_gap false (gap ++ b ∷ bs) ≡ b ∷ bs → token.read (b ∷ bs) ≡ Some (x, rest) → Stands c (gap ++ b ∷ bs)
    → (start c + length (b ∷ bs) ≡ length c.text) × (drop (start c) c.text ≡ b ∷ bs)
unfolding start
begins_there c gap b bs rest x plain past read at =
    let first = first_token c gap b bs rest x past read at in
    let t = first.0 in
    let seen : here c.wide c.rest ≡ t ∷ rest_of c.rest = ap (here c.wide) first.3 ∙ seen_here c.wide first.0 (rest_of c.rest) (ap is_plus first.1 ∙ plain) in
    let from : start c ≡ t.start = ap (λ (ts : List Token). start_first ts (length c.text)) seen in
    let ends = first.2 in
    let whole : c.text ≡ (at.0 ++ gap) ++ b ∷ bs = at.3 ∙ sym (append_assoc at.0 gap (b ∷ bs)) in
    let size = ap length whole ∙ length-append (at.0 ++ gap) (b ∷ bs) in
    let place : start c ≡ length (at.0 ++ gap) = omega (arith, from, ends, size) in
    (omega (arith, from, ends), ap (drop (start c)) whole ∙ drop_at (at.0 ++ gap) (b ∷ bs) (start c) (sym place))

-- a token that begins before a place is none of those from there on
pub begun_next : (c : Place) (gap : Text) (b : ℕ) (bs rest : Text) (x : Kind) → is_plus x ≡ false → past_gap false (gap ++ b ∷ bs) ≡ b ∷ bs → token.read (b ∷ bs) ≡ Some (x, rest) → Stands c (gap ++ b ∷ bs)
    → (place : ℕ) → start c < place → begun_at place c.rest ≡ begun_at place (next c).rest
unfolding next
begun_next c gap b bs rest x plain past read at place less =
    let first = first_token c gap b bs rest x past read at in
    let own = (begins_there c gap b bs rest x plain past read at).0 in
    let ends = first.2 in
    let before_place : first.0.start < place = omega (arith, own, ends, less) in
    let test : nat_lt first.0.start place ≡ true = grind (arith, nat_tests) in
    ap (begun_at place) first.3 ∙ ap (λ (t : Bool). if t then begun_at place (rest_of c.rest) else first.0 ∷ rest_of c.rest) test

-- what is left after a gap is no longer
gap_short : (flag : Bool) (bs : Text) → length (past_gap flag bs) ≤ length bs
unfolding past_gap
gap_short flag [] = omega arith
gap_short true (b ∷ bs) = let h = gap_short (not (b == 10)) bs in omega (arith, h)
gap_short false (b ∷ bs) = by (b == 59) (is_blank b) (gap_short true bs) (gap_short false bs) where
  by : (t u : Bool) → length (past_gap true bs) ≤ length bs → length (past_gap false bs) ≤ length bs → length (if t then past_gap true bs else (if u then past_gap false bs else b ∷ bs)) ≤ length (b ∷ bs)
  by true u h g = omega (arith, h)
  by false true h g = omega (arith, g)
  by false false h g = omega arith

-- the tokens of bytes after a place begin from there on
late_tokens : (n total : ℕ) (first : Bool) (bytes : Text) (place : ℕ) → place + length bytes ≤ total → begun_at place (lex_from n total first [] bytes).tokens ≡ (lex_from n total first [] bytes).tokens
unfolding lex_from
late_tokens zero total first bytes place le = by (past_gap false bytes) where
  by : (at : Text) → begun_at place (ended total [] at).tokens ≡ (ended total [] at).tokens
  by [] = refl
  by (b ∷ bs) = refl
late_tokens (suc n) total first bytes place le = by (past_gap false bytes) (first || ends_line (before bytes (past_gap false bytes))) (gap_short false bytes) where
  by : (at : Text) (begins : Bool) → length at ≤ length bytes → begun_at place (lex_at total begins [] at (lex_from n total false)).tokens ≡ (lex_at total begins [] at (lex_from n total false)).tokens
  by [] begins short = refl
  by (b ∷ bs) begins short = token_is (token.read (b ∷ bs)) where
    token_is : (r : Outcome Kind)
        → begun_at place (on_token r (record { tokens = []; bad = Some (total - length (b ∷ bs)) }) (λ x rest. lex_from n total false ([] ++ make total begins (b ∷ bs) x rest ∷ []) rest)).tokens
        ≡ (on_token r (record { tokens = []; bad = Some (total - length (b ∷ bs)) }) (λ x rest. lex_from n total false ([] ++ make total begins (b ∷ bs) x rest ∷ []) rest)).tokens
    token_is None = refl
    token_is (Some p) =
        let t = make total begins (b ∷ bs) p.0 p.1 in
        let split = ap (λ (l : Lexed). l.tokens) (lex_after n total false (t ∷ []) [] p.1) in
        let test : nat_lt t.start place ≡ false = let later : place ≤ total - length (b ∷ bs) = omega (arith, le, short) in grind (arith, nat_tests) in
        ap (begun_at place) split ∙ ap (λ (u : Bool). if u then begun_at place (lex_from n total false [] p.1).tokens else t ∷ (lex_from n total false [] p.1).tokens) test ∙ sym split

-- so are all tokens that are left there
pub begun_late : (c : Place) (bytes : Text) (place : ℕ) → Stands c bytes → place + length bytes ≤ length c.text → begun_at place c.rest ≡ c.rest
begun_late c bytes place at le = ap (begun_at place) at.5 ∙ late_tokens at.1 (length c.text) at.2 bytes place le ∙ sym at.5
