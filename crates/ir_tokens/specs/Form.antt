-- A form of bytes: its relation to a text, how it is read, and that both agree.
use Rattle.std.specs.Prelude.{◌≡◌, ℕ, zero, suc, ◌<◌, ◌≤◌, Bool, true, false, cond, if◌then◌else◌, ◌==◌, [], ◌∷◌, ◌++◌, length, take, drop, Option, Some, None, refl}
use Rattle.std.specs.List.{prefix_len}
use Rattle.std.proofs.Common.{◌∙◌, ap, subst, arith, length-drop, length-append}
use Rattle.std.proofs.lemmas.List.{take_at, drop_at}
use Rattle.std.proofs.lemmas.Bool.{eqb-true}
use Rattle.std.proofs.Math.Numerals.{one-add}
use Rattle.ir_tokens.specs.declared.class.ByteClass.{ByteClass}
use Rattle.ir_tokens.specs.Bytes.{Text, first_class, next, after_backslash, pair_of, digit}

-- what is read, and the bytes after it; nothing where the bytes begin otherwise
abbrev pub Outcome : Type 0 → Type 0
Outcome A = Option (A × Text)

-- A form of bytes. Its reading and its relation agree: what is read is in the relation (`sound`), and what is in the relation is read (`again`).
pub record Form (A : Type 0) : Type 1 where
  pub read : Text → Outcome A
  -- the first bytes begin with this form, which has this value, and the second bytes come after it
  pub says : Text → A → Text → Type 0
  pub sound : (i : Text) (a : A) (o : Text) → read i ≡ Some (a, o) → says i a o
  pub again : (i : Text) (a : A) (o : Text) → says i a o → read i ≡ Some (a, o)
  pub moves : (i : Text) (a : A) (o : Text) → says i a o → length o ≤ length i

-- this was read
abbrev pub done : {A : Type 0} → A × Text → Outcome A
done p = Some p

ok_is : {A : Type 0} (p q : A × Text) → done p ≡ done q → p ≡ q
ok_is p q e = cc

pub done_is : (A : Type 0) (a b : A) (i o : Text) → done (a, i) ≡ done (b, o) → (a ≡ b) × (i ≡ o)
done_is A a b i o e =
    let p = ok_is (a, i) (b, o) e in
    (ap (λ (x : A × Text). x.0) p, ap (λ (x : A × Text). x.1) p)

pub done_again : {A : Type 0} (a : A) (i : Text) (b : A) (o : Text) → (a ≡ b) × (i ≡ o) → done (a, i) ≡ done (b, o)
done_again a i b o h = let e = h.0 in let f = h.1 in cc

pub same_length : (i o : Text) → i ≡ o → length o ≤ length i
same_length i o e = let p = ap length e in omega arith

pub skip_moves : (i o : Text) → drop 1 i ≡ o → length o ≤ length i
skip_moves i o e = let p = ap length e in omega (arith, length-drop 1 i)

-- one part and then another
abbrev pub and_then : {A B : Type 0} → Outcome A → (A → Text → Outcome B) → Outcome B
and_then None f = None
and_then (Some p) f = f p.0 p.1

and_then_ok : {A B : Type 0} (r : Outcome A) (f : A → Text → Outcome B) (p : B × Text) → and_then r f ≡ Some p → (a : A) × (m : Text) × (r ≡ Some (a, m)) × (f a m ≡ Some p)
and_then_ok (Some q) f p e = (q.0, q.1, refl, e)
and_then_ok None f p e = absurd cc

and_then_again : {A B : Type 0} (r : Outcome A) (f : A → Text → Outcome B) (a : A) (m : Text) → r ≡ Some (a, m) → and_then r f ≡ f a m
and_then_again r f a m e = rw e refl

pub nothing : {A : Type 0} (p : A × Text) → None ≡ done p → ⊥
nothing p h = cc

pub bind_sound : {A B : Type 0} (g : Form A) (f : A → Form B) (i : Text) (b : B) (o : Text) → and_then (g.read i) (λ a. (f a).read) ≡ Some (b, o)
    → (a : A) × (m : Text) × g.says i a m × (f a).says m b o
bind_sound g f i b o e =
    let p = and_then_ok (g.read i) (λ a. (f a).read) (b, o) e in
    (p.0, p.1, g.sound i p.0 p.1 p.2, (f p.0).sound p.1 b o p.3)

pub bind_again : {A B : Type 0} (g : Form A) (f : A → Form B) (i : Text) (b : B) (o : Text) → ((a : A) × (m : Text) × g.says i a m × (f a).says m b o)
    → and_then (g.read i) (λ a. (f a).read) ≡ Some (b, o)
bind_again g f i b o p =
    and_then_again (g.read i) (λ a. (f a).read) p.0 p.1 (g.again i p.0 p.1 p.2) ∙ (f p.0).again p.1 b o p.3

pub bind_moves : {A B : Type 0} (g : Form A) (f : A → Form B) (i : Text) (b : B) (o : Text) → ((a : A) × (m : Text) × g.says i a m × (f a).says m b o) → length o ≤ length i
bind_moves g f i b o p =
    let x = g.moves i p.0 p.1 p.2 in
    let y = (f p.0).moves p.1 b o p.3 in
    omega arith

-- no byte, and this value
abbrev pub pure : {A : Type 0} → A → Form A
pure a = record {
  read = λ i. Some (a, i);
  says = λ i b o. (a ≡ b) × (i ≡ o);
  sound = λ i b o. done_is _ a b i o;
  again = λ i b o. done_again a i b o;
  moves = λ i b o h. same_length i o h.1;
}

-- a byte, whatever it is
abbrev pub skip : Form (Unit {0})
skip = record {
  read = λ i. Some (tt, drop 1 i);
  says = λ i b o. (tt ≡ b) × (drop 1 i ≡ o);
  sound = λ i b o. done_is _ tt b (drop 1 i) o;
  again = λ i b o. done_again tt (drop 1 i) b o;
  moves = λ i b o h. skip_moves i o h.1;
}

-- one form, and then another that may depend on its value
infixl 10 ◌>>=◌
abbrev pub ◌>>=◌ : {A B : Type 0} → Form A → (A → Form B) → Form B
g >>= f = record {
  read = λ i. and_then (g.read i) (λ a. (f a).read);
  says = λ i b o. (a : _) × (m : Text) × g.says i a m × (f a).says m b o;
  sound = bind_sound g f;
  again = bind_again g f;
  moves = bind_moves g f;
}

infixl 10 ◌>>◌
abbrev pub ◌>>◌ : {A B : Type 0} → Form A → Form B → Form B
g >> h = g >>= (λ _. h)

-- the form that the class of the next byte tells
abbrev pub look : {A : Type 0} → (ByteClass → Form A) → Form A
look f = record {
  read = λ i. (f (first_class i)).read i;
  says = λ i. (f (first_class i)).says i;
  sound = λ i. (f (first_class i)).sound i;
  again = λ i. (f (first_class i)).again i;
  moves = λ i. (f (first_class i)).moves i;
}

-- no bytes are of this form
abbrev pub refuse : {A : Type 0} → Form A
refuse = record {
  read = λ i. None;
  says = λ _ _ _. ⊥;
  sound = λ i a o. nothing (a, o);
  again = λ i a o h. absurd h;
  moves = λ i a o h. absurd h;
}

-- ---- the longest run of bytes that pass a test

-- each byte passes the test
abbrev pub Passes : (ℕ → Bool) → Text → Type 0
Passes p [] = Unit {0}
Passes p (b ∷ bs) = (p b ≡ true) × Passes p bs

-- the first byte passes the test
abbrev pub begins : (ℕ → Bool) → Text → Bool
begins p [] = false
begins p (b ∷ bs) = p b

-- these bytes pass the test, and no further one does
abbrev pub IsSpan : (ℕ → Bool) → Text → Text → Text → Type 0
IsSpan p i a o = (i ≡ a ++ o) × Passes p a × (begins p o ≡ false)

-- the longest front of bytes of a class
abbrev pub span_at : (ℕ → Bool) → Text → Outcome Text
span_at p i = Some (take (prefix_len p i) i, drop (prefix_len p i) i)

cut_by : (p : ℕ → Bool) (t : Bool) (b : ℕ) (bs : Text) → p b ≡ t → IsSpan p bs (take (prefix_len p bs) bs) (drop (prefix_len p bs) bs)
    → IsSpan p (b ∷ bs) (take (prefix_len p (b ∷ bs)) (b ∷ bs)) (drop (prefix_len p (b ∷ bs)) (b ∷ bs))
cut_by p true b bs e h = rw (e, one-add) (ap (λ (x : Text). b ∷ x) h.0, (e, h.1), h.2)
cut_by p false b bs e h = rw e (refl, tt, e)

cut : (p : ℕ → Bool) (i : Text) → IsSpan p i (take (prefix_len p i) i) (drop (prefix_len p i) i)
cut p [] = (refl, tt, refl)
cut p (b ∷ bs) = cut_by p (p b) b bs refl (cut p bs)

pub span_sound : (p : ℕ → Bool) (i a o : Text) → span_at p i ≡ Some (a, o) → IsSpan p i a o
span_sound p i a o e =
    let q = done_is _ (take (prefix_len p i) i) a (drop (prefix_len p i) i) o e in
    let h = cut p i in
    subst (λ (x : Text). IsSpan p i x o) q.0 (subst (λ (x : Text). IsSpan p i (take (prefix_len p i) i) x) q.1 h)

span_len : (p : ℕ → Bool) (a o : Text) → Passes p a → begins p o ≡ false → prefix_len p (a ++ o) ≡ length a
span_len p [] [] h e = refl
span_len p [] (b ∷ bs) h e = rw e refl
span_len p (b ∷ bs) o h e = rw (h.0, one-add) (ap suc (span_len p bs o h.1 e))

pub span_again : (p : ℕ → Bool) (i a o : Text) → IsSpan p i a o → span_at p i ≡ Some (a, o)
span_again p i a o h = rw (h.0, span_len p a o h.1 h.2, take_at a o (length a) refl, drop_at a o (length a) refl) refl

pub span_moves : (p : ℕ → Bool) (i a o : Text) → IsSpan p i a o → length o ≤ length i
span_moves p i a o h = let q = ap length h.0 in omega (arith, length-append a o)

-- the longest run of bytes that pass the test
abbrev pub span : (ℕ → Bool) → Form Text
span p = record { read = span_at p; says = IsSpan p; sound = span_sound p; again = span_again p; moves = span_moves p }

-- ---- quoted text

-- the bytes up to a quote spell this text, and go on after the quote
abbrev pub IsQuoted : Text → Text → Text → Type 0
IsQuoted i [] o = i ≡ 34 ∷ o
IsQuoted i (b ∷ bs) o = (m : Text) × (next i ≡ Some (b, m)) × IsQuoted m bs o

-- the bytes up to a quote spell some text
abbrev pub EndsQuoted : Text → Unit {0} → Text → Type 0
EndsQuoted i u o = (text : Text) × IsQuoted i text o

-- the quote that closes
abbrev pub close_at : Text → Outcome (Unit {0})
close_at [] = None
close_at (b ∷ bs) = if b == 34 then Some (tt, bs) else None

-- by the next byte of a quoted text, if there is one
abbrev pub on_next : {X : Type 0} → Option (ℕ × Text) → X → (ℕ → Text → X) → X
on_next None x f = x
on_next (Some p) x f = f p.0 p.1

-- a quoted text of at most n bytes, up to its closing quote
unfoldable pub quoted_from : ℕ → Text → Outcome (Unit {0})
quoted_from zero i = close_at i
quoted_from (suc n) i = on_next (next i) (close_at i) (λ b m. quoted_from n m)

closed : (t : Bool) (bs o : Text) (u : Unit {0}) → cond t (done (tt, bs)) None ≡ done (u, o) → (t ≡ true) × (bs ≡ o)
closed true bs o u e = let p = done_is _ tt u bs o e in (refl, p.1)
closed false bs o u e = absurd cc

close_sound : (i o : Text) (u : Unit {0}) → close_at i ≡ Some (u, o) → i ≡ 34 ∷ o
close_sound [] o u e = absurd cc
close_sound (b ∷ bs) o u e = let p = closed (b == 34) bs o u e in let q = eqb-true b 34 p.0 in rw (q, p.1) refl

-- each step leaves fewer bytes
abbrev Short : ℕ → Option (ℕ × Text) → Type 0
Short n None = Unit {0}
Short n (Some p) = length p.1 < n

cond_short : (t : Bool) (n : ℕ) (x y : Option (ℕ × Text)) → Short n x → Short n y → Short n (cond t x y)
cond_short true n x y h k = h
cond_short false n x y h k = k

pair_short : (n : ℕ) (rest : Text) (x y : Option ℕ) → length rest < n → Short n (pair_of rest x y)
pair_short n rest None y h = tt
pair_short n rest (Some x) None h = tt
pair_short n rest (Some x) (Some y) h = h

backslash_short : (xs : Text) → Short (suc (length xs)) (after_backslash xs)
backslash_short [] = tt
backslash_short (a ∷ []) = cond_short (a == 92) 2 (Some (92, [])) None (omega arith) tt
backslash_short (a ∷ b ∷ rest) = cond_short (a == 92) (suc (suc (suc (length rest)))) (Some (92, b ∷ rest)) (pair_of rest (digit a) (digit b)) (omega arith) (pair_short (suc (suc (suc (length rest)))) rest (digit a) (digit b) (omega arith))

next_short : (i : Text) → Short (length i) (next i)
unfolding next
next_short [] = tt
next_short (x ∷ xs) = cond_short (x == 34) (suc (length xs)) None (cond (x == 92) (after_backslash xs) (Some (x, xs))) tt (cond_short (x == 92) (suc (length xs)) (after_backslash xs) (Some (x, xs)) (backslash_short xs) (omega arith))

next_falls : (i : Text) (b : ℕ) (m : Text) → next i ≡ Some (b, m) → length m < length i
next_falls i b m e = subst (Short (length i)) e (next_short i)

quoted_sound : (n : ℕ) (i : Text) (u : Unit {0}) (o : Text) → quoted_from n i ≡ Some (u, o) → EndsQuoted i u o
unfolding quoted_from
quoted_sound zero i u o e = ([], close_sound i o u e)
quoted_sound (suc n) i u o e = quoted_by (next i) refl e (λ m. quoted_sound n m u o) where
  quoted_by : (r : Option (ℕ × Text)) → next i ≡ r → on_next r (close_at i) (λ b m. quoted_from n m) ≡ Some (u, o)
      → ((m : Text) → quoted_from n m ≡ Some (u, o) → EndsQuoted m u o) → EndsQuoted i u o
  quoted_by None is h again = ([], close_sound i o u h)
  quoted_by (Some p) is h again = let r = again p.1 h in (p.0 ∷ r.0, (p.1, is, r.1))

quoted_again : (n : ℕ) (i more o : Text) → length i ≤ n → IsQuoted i more o → quoted_from n i ≡ Some (tt, o)
unfolding quoted_from next
quoted_again zero i [] o le h = rw h refl
quoted_again (suc n) i [] o le h = rw h refl
quoted_again zero i (b ∷ bs) o le h = absurd (let p = next_falls i b h.0 h.1 in omega arith)
quoted_again (suc n) i (b ∷ bs) o le h =
    let p = next_falls i b h.0 h.1 in
    rw h.1 (quoted_again n h.0 bs o (omega arith) h.2)

quoted_moves : (i a o : Text) → IsQuoted i a o → length o ≤ length i
quoted_moves i [] o h = let p = ap length h in omega arith
quoted_moves i (b ∷ bs) o h = let p = next_falls i b h.0 h.1 in let q = quoted_moves h.0 bs o h.2 in omega arith

pub quoted_again_all : (i : Text) (u : Unit {0}) (o : Text) → EndsQuoted i u o → quoted_from (length i) i ≡ Some (u, o)
quoted_again_all i u o h = quoted_again (length i) i h.0 o (omega arith) h.1

pub quoted_sound_all : (i : Text) (u : Unit {0}) (o : Text) → quoted_from (length i) i ≡ Some (u, o) → EndsQuoted i u o
quoted_sound_all i u o e = quoted_sound (length i) i u o e

pub quoted_moves_all : (i : Text) (u : Unit {0}) (o : Text) → EndsQuoted i u o → length o ≤ length i
quoted_moves_all i u o h = quoted_moves i h.0 o h.1

-- the rest of a quoted text, after its first quote
abbrev pub quoted : Form (Unit {0})
quoted = record { read = λ i. quoted_from (length i) i; says = EndsQuoted; sound = quoted_sound_all; again = quoted_again_all; moves = quoted_moves_all }
