-- What is read are the text's tokens, and a text's tokens are read.
use Rattle.std.proofs.Common.{◌≡◌, ◌≢◌, ℕ, zero, suc, ◌+◌, ◌-◌, ◌<◌, ◌≤◌, Bool, true, false, not, cond, List, [], ◌∷◌, ◌++◌, length, Option, Some, None, Result, Ok, Err, refl, ap, sym, subst, ◌∙◌, inl, inr, append_assoc, arith, length-append, ◌⊎◌}
use Rattle.std.specs.Prelude.{IfOk, ◌||◌, ◌==◌}
use Rattle.std.specs.declared.alloc.AllocError.{AllocError}
use Rattle.std.proofs.lemmas.Bool.{eqb-true}
use Rattle.std.proofs.lemmas.List.{append-nil, take_at}
use Rattle.lemmas.specs.Bools.{or_neither}
use Rattle.ir_tokens.specs.declared.class.ByteClass.{ByteClass}
use Rattle.ir_tokens.specs.declared.class.ByteClass.TheVariants as c
use Rattle.ir_tokens.specs.declared.token.Kind.{Kind}
use Rattle.ir_tokens.specs.declared.token.Kind.TheVariants as k
use Rattle.ir_tokens.specs.declared.token.Token.{Token}
use Rattle.ir_tokens.specs.declared.lexed.Lexed.{Lexed}
use Rattle.ir_tokens.specs.Bytes.{Text, class_of, is_name, is_name_class, is_digit, is_letter, sign_of}
use Rattle.ir_tokens.specs.Form.{Form, Outcome, pure, ◌>>◌, look, skip, span, quoted}
use Rattle.ir_tokens.specs.Keywords.{word_kind}
use Rattle.ir_tokens.specs.Tokens.{token, token_by, local, local_by, global, global_by, group, group_by, metadata, metadata_by, label_or, word, number, quote, is_blank, IsGap, begins_gap, ends_line, past_gap, Cut, IsLexed, make, ended, lex_at, lex_from, lexed_of, before}

-- ---- gaps

gap_step : (t u : Bool) (b : ℕ) (bs x y : Text) → b == 59 ≡ t → is_blank b ≡ u → ((gap : Text) × (bs ≡ gap ++ x) × IsGap true gap x) → ((gap : Text) × (bs ≡ gap ++ y) × IsGap false gap y)
    → (gap : Text) × (b ∷ bs ≡ gap ++ cond t x (cond u y (b ∷ bs))) × IsGap false gap (cond t x (cond u y (b ∷ bs)))
gap_step true u b bs x y e f g h = (b ∷ g.0, ap (λ (z : Text). b ∷ z) g.1, inl (eqb-true b 59 e, g.2))
gap_step false true b bs x y e f g h = (b ∷ h.0, ap (λ (z : Text). b ∷ z) h.1, inr (f, h.2))
gap_step false false b bs x y e f g h = ([], refl, tt)

gap_sound : (flag : Bool) (bs : Text) → (gap : Text) × (bs ≡ gap ++ past_gap flag bs) × IsGap flag gap (past_gap flag bs)
unfolding past_gap
gap_sound true [] = ([], refl, refl)
gap_sound false [] = ([], refl, tt)
gap_sound true (b ∷ bs) = let h = gap_sound (not (b == 10)) bs in (b ∷ h.0, ap (λ (z : Text). b ∷ z) h.1, h.2)
gap_sound false (b ∷ bs) = gap_step (b == 59) (is_blank b) b bs (past_gap true bs) (past_gap false bs) refl refl (gap_sound true bs) (gap_sound false bs)

ends_step : (t u : Bool) (b : ℕ) (bs x y : Text) → b == 59 ≡ t → is_blank b ≡ u → begins_gap x ≡ false → begins_gap y ≡ false → begins_gap (cond t x (cond u y (b ∷ bs))) ≡ false
ends_step true u b bs x y e f g h = g
ends_step false true b bs x y e f g h = h
ends_step false false b bs x y e f g h = rw (e, f) refl

gap_ends : (flag : Bool) (bs : Text) → begins_gap (past_gap flag bs) ≡ false
unfolding past_gap
gap_ends true [] = refl
gap_ends false [] = refl
gap_ends true (b ∷ bs) = gap_ends (not (b == 10)) bs
gap_ends false (b ∷ bs) = ends_step (b == 59) (is_blank b) b bs (past_gap true bs) (past_gap false bs) refl refl (gap_ends true bs) (gap_ends false bs)

blank_no_comment : (t : Bool) (b : ℕ) → b == 59 ≡ t → is_blank b ≡ true → b == 59 ≡ false
blank_no_comment false b e h = e
blank_no_comment true b e h = let q : is_blank 59 ≡ true = subst (λ (x : ℕ). is_blank x ≡ true) (eqb-true b 59 e) h in absurd cc

gap_again : (flag : Bool) (gap rest : Text) → IsGap flag gap rest → begins_gap rest ≡ false → past_gap flag (gap ++ rest) ≡ rest
unfolding past_gap
gap_again true [] rest h e = rw h refl
gap_again false [] [] h e = refl
gap_again false [] (b ∷ bs) h e = let p = or_neither (b == 59) (is_blank b) e in rw (p.0, p.1) refl
gap_again true (b ∷ gap) rest h e = gap_again (not (b == 10)) gap rest h e
gap_again false (b ∷ gap) rest (inl h) e = rw h.0 (gap_again true gap rest h.1 e)
gap_again false (b ∷ gap) rest (inr h) e = let q = blank_no_comment (b == 59) b refl h.0 in rw (q, h.0) (gap_again false gap rest h.1 e)

-- ---- a token begins where no gap does, and takes a byte

either_is : (t u : Bool) → (t || u) ≡ true → (t ≡ true) ⊎ (u ≡ true)
either_is true u e = inl refl
either_is false u e = inr e

gap_class : (b : ℕ) → (b == 59 || (b == 32 || b == 9 || b == 10 || b == 13)) ≡ true → class_of b ≡ c.Other
unfolding class_of
gap_class b e = elim (either_is (b == 59) (b == 32 || b == 9 || b == 10 || b == 13) e) [
  | inl h ↦ rw (eqb-true b 59 h) refl
  | inr h ↦ elim (either_is (b == 32 || b == 9 || b == 10) (b == 13) h) [
    | inr h ↦ rw (eqb-true b 13 h) refl
    | inl h ↦ elim (either_is (b == 32 || b == 9) (b == 10) h) [
      | inr h ↦ rw (eqb-true b 10 h) refl
      | inl h ↦ elim (either_is (b == 32) (b == 9) h) [
        | inl h ↦ rw (eqb-true b 32 h) refl
        | inr h ↦ rw (eqb-true b 9 h) refl
      ]
    ]
  ]
]

begins_by : (t : Bool) (b : ℕ) (bs : Text) (s : Kind) (rest : Text) → begins_gap (b ∷ bs) ≡ t → (token_by (class_of b)).says (b ∷ bs) s rest → t ≡ false
begins_by false b bs s rest e h = refl
begins_by true b bs s rest e h =
    let q = gap_class b e in
    let w : (token_by c.Other).says (b ∷ bs) s rest = subst (λ (x : ByteClass). (token_by x).says (b ∷ bs) s rest) q h in
    absurd w

token_begins : (at : Text) (s : Kind) (rest : Text) → token.says at s rest → begins_gap at ≡ false
unfolding token
token_begins [] s rest h = absurd h
token_begins (b ∷ bs) s rest h = begins_by (begins_gap (b ∷ bs)) b bs s rest refl h

skipped : {A : Type 0} (g : Form A) (b : ℕ) (bs : Text) (a : A) (o : Text) → (skip >> g).says (b ∷ bs) a o → length o < length (b ∷ bs)
skipped g b bs a o h = let p = g.moves h.1 a o h.3 in let q = ap length h.2.1 in omega arith

span_takes : (p : ℕ → Bool) (b : ℕ) (bs a o : Text) → p b ≡ true → (span p).says (b ∷ bs) a o → length o < length (b ∷ bs)
span_takes p b bs [] [] t h = let e = h.0 in absurd cc
span_takes p b bs [] (x ∷ xs) t h =
    let e : b ≡ x = let q = h.0 in cc in
    let f : p b ≡ false = rw e h.2 in
    absurd (let g = sym t ∙ f in cc)
span_takes p b bs (x ∷ xs) o t h = let q = ap length h.0 in omega (arith, length-append (x ∷ xs) o)

word_takes : (b : ℕ) (bs : Text) (s : Kind) (o : Text) → is_name b ≡ true → word.says (b ∷ bs) s o → length o < length (b ∷ bs)
unfolding word
word_takes b bs s o t h =
    let p = span_takes is_name b bs h.0 h.1 t h.2 in
    let q = (look (label_or k.LabelName (word_kind h.0))).moves h.1 s o h.3 in
    omega arith

number_takes : (b : ℕ) (bs : Text) (s : Kind) (o : Text) → is_digit b ≡ true → number.says (b ∷ bs) s o → length o < length (b ∷ bs)
unfolding number
number_takes b bs s o t h =
    let p = span_takes is_digit b bs h.0 h.1 t h.2 in
    let q = (look (label_or k.LabelNumber k.Number)).moves h.1 s o h.3 in
    omega arith

abbrev is_digit_class : ByteClass → Bool
is_digit_class c.Digit = true
is_digit_class _ = false

none_by : (t : Bool) (x y : ByteClass) → is_digit_class x ≡ false → is_digit_class y ≡ false → is_digit_class (cond t x y) ≡ false
none_by true x y e f = e
none_by false x y e f = f

sign_no_digit : (b : ℕ) → is_digit_class (sign_of b) ≡ false
sign_no_digit b =
    none_by (b == 61) (c.Sign k.Equals) _ refl (none_by (b == 44) (c.Sign k.Comma) _ refl (none_by (b == 40) (c.Sign k.OpenRound) _ refl (none_by (b == 41) (c.Sign k.CloseRound) _ refl (none_by (b == 91) (c.Sign k.OpenSquare) _ refl (none_by (b == 93) (c.Sign k.CloseSquare) _ refl (none_by (b == 123) (c.Sign k.OpenBrace) _ refl (none_by (b == 125) (c.Sign k.CloseBrace) _ refl (none_by (b == 42) (c.Sign k.Star) _ refl (none_by (b == 60) (c.Sign k.Less) _ refl (none_by (b == 62) (c.Sign k.Greater) _ refl (none_by (b == 124) (c.Sign k.Bar) _ refl (none_by (b == 43) (c.Sign k.Plus) _ refl refl))))))))))))

digit_by : (t u : Bool) (b : ℕ) → is_letter b ≡ t → is_digit b ≡ u → class_of b ≡ c.Digit → u ≡ true
unfolding class_of
digit_by t true b e f h = refl
digit_by true false b e f h = absurd (let q : c.Letter ≡ c.Digit = sym (rw e refl) ∙ h in let r = ap is_digit_class q in cc)
digit_by false false b e f h = absurd (
    let q : is_digit_class (class_of b) ≡ false = rw (e, f) (none_by (b == 34) c.Quote _ refl (none_by (b == 37) c.Percent _ refl (none_by (b == 64) c.At _ refl (none_by (b == 35) c.Hash _ refl (none_by (b == 33) c.Exclamation _ refl (none_by (b == 58) c.Colon _ refl (sign_no_digit b))))))) in
    let r = sym q ∙ ap is_digit_class h in cc)

takes_by : (x : ByteClass) (b : ℕ) (bs : Text) (s : Kind) (o : Text) → class_of b ≡ x → (token_by x).says (b ∷ bs) s o → length o < length (b ∷ bs)
unfolding local global group metadata quote is_name
takes_by c.Letter b bs s o e h = word_takes b bs s o (ap is_name_class e) h
takes_by c.Digit b bs s o e h = number_takes b bs s o (digit_by (is_letter b) (is_digit b) b refl refl e) h
takes_by c.Quote b bs s o e h =
    let p = skipped quoted b bs h.0 h.1 h.2 in
    let q = (look (label_or k.LabelName k.Quoted)).moves h.1 s o h.3 in
    omega arith
takes_by c.Percent b bs s o e h = skipped (look local_by) b bs s o h
takes_by c.At b bs s o e h = skipped (look global_by) b bs s o h
takes_by c.Hash b bs s o e h = skipped (look group_by) b bs s o h
takes_by c.Exclamation b bs s o e h = skipped (look metadata_by) b bs s o h
takes_by (c.Sign x) b bs s o e h = skipped (pure x) b bs s o h
takes_by _ b bs s o e h = absurd h

token_takes : (at : Text) (s : Kind) (o : Text) → token.says at s o → length o < length at
unfolding token
token_takes [] s o h = absurd h
token_takes (b ∷ bs) s o h = takes_by (class_of b) b bs s o refl h

-- ---- the whole text

nothing_or : {A : Type 0} (r : Outcome A) → ((p : A × Text) × (r ≡ Some p)) ⊎ (r ≡ None)
nothing_or None = inr refl
nothing_or (Some p) = inl (p, refl)

some : Kind × Text → Outcome Kind
some p = Some p

no_some : (p : Kind × Text) → None ≡ some p → ⊥
unfolding some
no_some p q = cc

none_says : (at : Text) → token.read at ≡ None → (s : Kind) (rest : Text) → token.says at s rest → ⊥
unfolding some
none_says at e s rest h = no_some (s, rest) (sym e ∙ token.again at s rest h)

-- the bytes before the rest are the gap
before_is : (bytes gap at : Text) → bytes ≡ gap ++ at → before bytes at ≡ gap
before_is bytes gap at e =
    let size : length (gap ++ at) - length at ≡ length gap = omega (arith, length-append gap at) in
    rw (e, size) (take_at gap at (length gap) refl)

-- how reading ends, by the place that it found
abbrev IsEnd : ℕ → Option ℕ → Text → Type 0
IsEnd total None last = last ≡ []
IsEnd total (Some place) last = (place + length last ≡ total) × (last ≢ []) × (begins_gap last ≡ false) × ((x : Kind) (rest : Text) → token.says last x rest → ⊥)

-- what reading gives of these bytes, after the tokens found before
abbrev Reads : ℕ → Bool → List Token → Text → Lexed → Type 0
Reads total first found bytes r =
    (more : List Token) × (last : Text) × (found ++ more ≡ r.tokens) × Cut total first bytes more last × IsEnd total r.bad last

-- one more token in front
reads_on : (total : ℕ) (first : Bool) (found : List Token) (bytes gap at rest : Text) (x : Kind) (r : Lexed) → length at ≤ total → bytes ≡ gap ++ at → IsGap false gap at → token.says at x rest
    → length rest < length at
    → Reads total false (found ++ make total (first || ends_line gap) at x rest ∷ []) rest r → Reads total first found bytes r
reads_on total first found bytes gap at rest x r le e g h short l = (
  make total (first || ends_line gap) at x rest ∷ l.0,
  l.1,
  sym (append_assoc found (make total (first || ends_line gap) at x rest ∷ []) l.0) ∙ l.2,
  (gap, at, rest, e, g, h, omega arith, omega arith, refl, l.3),
  l.4,
)

lex_by : (total : ℕ) (first : Bool) (found : List Token) (bytes at gap : Text) (more : List Token → Text → Lexed) → length bytes ≤ total → bytes ≡ gap ++ at → IsGap false gap at → begins_gap at ≡ false
    → ((x : Kind) (rest : Text) → length rest < length at → Reads total false (found ++ make total (first || ends_line gap) at x rest ∷ []) rest (more (found ++ make total (first || ends_line gap) at x rest ∷ []) rest))
    → Reads total first found bytes (lex_at total (first || ends_line gap) found at more)
lex_by total first found bytes [] gap more le e g ends goes = ([], [], append-nil found, (gap, e, g), refl)
lex_by total first found bytes (b ∷ bs) gap more le e g ends goes =
    let size : length (b ∷ bs) ≤ total = omega (arith, ap length e, length-append gap (b ∷ bs)) in
    elim (nothing_or (token.read (b ∷ bs))) [
      | inl p ↦
          let h = token.sound (b ∷ bs) p.0.0 p.0.1 p.1 in
          let short = token_takes (b ∷ bs) p.0.0 p.0.1 h in
          rw p.1 (reads_on total first found bytes gap (b ∷ bs) p.0.1 p.0.0 (more (found ++ make total (first || ends_line gap) (b ∷ bs) p.0.0 p.0.1 ∷ []) p.0.1) size e g h short (goes p.0.0 p.0.1 short))
      | inr n ↦ rw n ([], b ∷ bs, append-nil found, (gap, e, g), (omega arith, (λ x. cc), ends, none_says (b ∷ bs) n))
    ]

lex_is : (n total : ℕ) (first : Bool) (found : List Token) (bytes : Text) → length bytes ≤ n → length bytes ≤ total → Reads total first found bytes (lex_from n total first found bytes)
unfolding lex_from past_gap
lex_is zero total first found [] le lt = ([], [], append-nil found, ([], refl, tt), refl)
lex_is zero total first found (b ∷ bs) le lt = absurd (omega arith)
lex_is (suc n) total first found bytes le lt =
    let g = gap_sound false bytes in
    let w : before bytes (past_gap false bytes) ≡ g.0 = before_is bytes g.0 (past_gap false bytes) g.1 in
    let l = lex_by total first found bytes (past_gap false bytes) g.0 (lex_from n total false) lt g.1 g.2 (gap_ends false bytes)
    (λ x rest short. let size = ap length g.1 in lex_is n total false (found ++ make total (first || ends_line g.0) (past_gap false bytes) x rest ∷ []) rest (omega (arith, length-append g.0 (past_gap false bytes))) (omega (arith, length-append g.0 (past_gap false bytes)))) in
    rw w l

end_again : (total : ℕ) (bad : Option ℕ) (last : Text) (begins : Bool) (found : List Token) (more : List Token → Text → Lexed) → IsEnd total bad last
    → lex_at total begins found last more ≡ record { tokens = found; bad = bad }
end_again total None [] begins found more h = refl
end_again total None (b ∷ bs) begins found more h = absurd cc
end_again total (Some place) [] begins found more h = absurd (h.1 refl)
end_again total (Some place) (b ∷ bs) begins found more h =
    let at : total - length (b ∷ bs) ≡ place = omega (arith, h.0) in
    elim (nothing_or (token.read (b ∷ bs))) [
      | inl p ↦ absurd (h.3 p.0.0 p.0.1 (token.sound (b ∷ bs) p.0.0 p.0.1 p.1))
      | inr n ↦ rw (n, at) refl
    ]

ended_again : (total : ℕ) (bad : Option ℕ) (last : Text) (found : List Token) → IsEnd total bad last → ended total found last ≡ record { tokens = found; bad = bad }
ended_again total None [] found h = refl
ended_again total None (b ∷ bs) found h = absurd cc
ended_again total (Some place) [] found h = absurd (h.1 refl)
ended_again total (Some place) (b ∷ bs) found h =
    let at : total - length (b ∷ bs) ≡ place = omega (arith, h.0) in
    rw at refl

end_begins : (total : ℕ) (bad : Option ℕ) (last : Text) → IsEnd total bad last → begins_gap last ≡ false
end_begins total None last h = rw h refl
end_begins total (Some place) last h = h.2

make_is : (total : ℕ) (begins : Bool) (at : Text) (t : Token) (rest : Text) → t.start + length at ≡ total → t.length + length rest ≡ length at → t.begins_line ≡ begins
    → make total begins at t.kind rest ≡ t
make_is total begins at t rest e f g =
    let start : total - length at ≡ t.start = omega arith in
    let size : (total - length rest) - (total - length at) ≡ t.length = omega arith in
    rw (size, start, sym g) refl

at_again : (total : ℕ) (begins : Bool) (found : List Token) (at : Text) (x : Kind) (rest : Text) (more : List Token → Text → Lexed) → token.says at x rest
    → lex_at total begins found at more ≡ more (found ++ make total begins at x rest ∷ []) rest
at_again total begins found [] x rest more h = absurd (let p = token_takes [] x rest h in omega arith)
at_again total begins found (b ∷ bs) x rest more h = rw (token.again (b ∷ bs) x rest h) refl

abbrev lexed : List Token → Option ℕ → Lexed
lexed ts bad = record { tokens = ts; bad = bad }

lex_again : (n total : ℕ) (first : Bool) (found : List Token) (bytes : Text) (more : List Token) (last : Text) (bad : Option ℕ) → length bytes ≤ n → Cut total first bytes more last → IsEnd total bad last
    → lex_from n total first found bytes ≡ lexed (found ++ more) bad
unfolding lex_from
lex_again zero total first found bytes [] last bad le h e =
    let p : past_gap false bytes ≡ last = rw h.1 (gap_again false h.0 last h.2 (end_begins total bad last e)) in
    rw (p, append-nil found) (ended_again total bad last found e)
lex_again (suc n) total first found bytes [] last bad le h e =
    let p : past_gap false bytes ≡ last = rw h.1 (gap_again false h.0 last h.2 (end_begins total bad last e)) in
    rw (p, append-nil found) (end_again total bad last (first || ends_line (before bytes last)) found (lex_from n total false) e)
lex_again zero total first found bytes (t ∷ ts) last bad le h e =
    let takes = token_takes h.1 t.kind h.2 h.5 in
    absurd (omega (arith, ap length h.3, length-append h.0 h.1))
lex_again (suc n) total first found bytes (t ∷ ts) last bad le h e =
    let takes = token_takes h.1 t.kind h.2 h.5 in
    let begins = token_begins h.1 t.kind h.2 h.5 in
    let short : length h.2 ≤ n = omega (arith, ap length h.3, length-append h.0 h.1) in
    let p : past_gap false bytes ≡ h.1 = rw h.3 (gap_again false h.0 h.1 h.4 begins) in
    let w : before bytes h.1 ≡ h.0 = before_is bytes h.0 h.1 h.3 in
    let q = lex_again n total false (found ++ t ∷ []) h.2 ts last bad short h.9 e in
    let m = make_is total (first || ends_line h.0) h.1 t h.2 h.6 h.7 h.8 in
    rw (p, w) (at_again total (first || ends_line h.0) found h.1 t.kind h.2 (lex_from n total false) h.5
    ∙ rw m (q ∙ ap (λ (x : List Token). lexed x bad) (append_assoc found (t ∷ []) ts)))

-- ---- the contract

lexed_by : (bytes : Text) (tokens : List Token) (bad : Option ℕ) (more : List Token) (last : Text) → more ≡ tokens → Cut (length bytes) true bytes more last → IsEnd (length bytes) bad last
    → IsLexed bytes (lexed tokens bad)
lexed_by bytes tokens None more last e h f = subst (λ (x : List Token). Cut (length bytes) true bytes x []) e (subst (λ (x : Text). Cut (length bytes) true bytes more x) f h)
lexed_by bytes tokens (Some place) more last e h f = (last, subst (λ (x : List Token). Cut (length bytes) true bytes x last) e h, f.0, f.1, f.2, f.3)

lexed_is : (bytes : Text) → IsLexed bytes (lexed_of bytes)
lexed_is bytes =
    let r = lex_is (length bytes) (length bytes) true [] bytes (omega arith) (omega arith) in
    lexed_by bytes (lexed_of bytes).tokens (lexed_of bytes).bad r.0 r.1 r.2 r.3 r.4

again_by : (bytes : Text) (tokens : List Token) (bad : Option ℕ) → IsLexed bytes (lexed tokens bad) → lexed_of bytes ≡ lexed tokens bad
again_by bytes tokens None h = lex_again (length bytes) (length bytes) true [] bytes tokens [] None (omega arith) h refl
again_by bytes tokens (Some place) h = lex_again (length bytes) (length bytes) true [] bytes tokens h.0 (Some place) (omega arith) h.1 (h.2, h.3, h.4, h.5)

pub found : (bytes : Text) (r : Result Lexed AllocError) → IfOk r (λ l. l ≡ lexed_of bytes) → IfOk r (IsLexed bytes)
found bytes (Ok l) e = subst (IsLexed bytes) (sym e) (lexed_is bytes)
found bytes (Err d) e = tt

pub only : (bytes : Text) (r : Result Lexed AllocError) → IfOk r (λ l. l ≡ lexed_of bytes) → (l : Lexed) → IsLexed bytes l → IfOk r (λ found. found ≡ l)
only bytes (Ok f) e l h = e ∙ again_by bytes l.tokens l.bad h
only bytes (Err d) e l h = tt
