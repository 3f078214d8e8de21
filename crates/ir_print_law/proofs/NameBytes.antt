-- What tokens of bytes spell is bytes.
use Rattle.std.proofs.Common.{◌≡◌, ℕ, zero, suc, ◌+◌, ◌-◌, ◌<◌, ◌≤◌, Bool, true, false, List, [], ◌∷◌, length, take, drop, if◌then◌else◌, Option, None, Some, refl, arith}
use Rattle.std.specs.Prelude.{nat_le, ◌==◌, ◌&&◌}
use Rattle.std.proofs.lemmas.Bool.Decides.{nat_tests}
use Rattle.ir_tokens.specs.declared.token.Kind.{Kind}
use Rattle.ir_tokens.specs.declared.token.Kind.TheVariants as k
use Rattle.ir_tokens.specs.declared.token.Token.{Token}
use Rattle.ir_tokens.specs.Bytes.{Text, within, digit, pair_of, after_backslash, next}
use Rattle.ir_tokens.specs.Form.{on_next}
use Rattle.ir_tokens.specs.Names.{spelling, bare, begins_quote, inside, unescaped_from, unescaped, unquoted}
use Rattle.ir_forms.specs.Cursor.{spelled, spelled_first}
use Rattle.ir_forms.specs.Place.{Place}
use Rattle.name_text.specs.Readings.{AreBytes}

take_bytes : (n : ℕ) (s : Text) → AreBytes s → AreBytes (take n s)
take_bytes zero s h = tt
take_bytes (suc n) [] h = tt
take_bytes (suc n) (b ∷ s) h = (h.0, take_bytes n s h.1)

drop_bytes : (n : ℕ) (s : Text) → AreBytes s → AreBytes (drop n s)
drop_bytes zero s h = h
drop_bytes (suc n) [] h = tt
drop_bytes (suc n) (b ∷ s) h = drop_bytes n s h.1

-- a byte, and bytes after it
Read : Option (ℕ × Text) → Type 0
Read None = Unit {0}
Read (Some p) = (p.0 < 256) × AreBytes p.1

Low : Option ℕ → Type 0
Low None = Unit {0}
Low (Some n) = n < 16

either_read : (t : Bool) (x y : Option (ℕ × Text)) → Read x → Read y → Read (if t then x else y)
either_read true x y h g = h
either_read false x y h g = g

within_is : (low high byte : ℕ) → within low high byte ≡ true → (low ≤ byte) × (byte ≤ high)
within_is low high byte e = by (nat_le low byte) (nat_le byte high) refl refl e where
  by : (a b : Bool) → nat_le low byte ≡ a → nat_le byte high ≡ b → (a && b) ≡ true → (low ≤ byte) × (byte ≤ high)
  by true true x y e = (grind (arith, nat_tests), grind (arith, nat_tests))
  by true false x y e = absurd cc
  by false b x y e = absurd cc

digit_low : (byte : ℕ) → Low (digit byte)
unfolding digit Low
digit_low byte = first (within 48 57 byte) refl where
  third : (t : Bool) → within 65 70 byte ≡ t → Low (if t then Some (byte - 65 + 10) else None)
  third true e = let p = within_is 65 70 byte e in let low = p.0 in let high = p.1 in omega (arith, low, high)
  third false e = tt

  second : (t : Bool) → within 97 102 byte ≡ t → Low (if t then Some (byte - 97 + 10) else (if within 65 70 byte then Some (byte - 65 + 10) else None))
  second true e = let p = within_is 97 102 byte e in let low = p.0 in let high = p.1 in omega (arith, low, high)
  second false e = third (within 65 70 byte) refl

  first : (t : Bool) → within 48 57 byte ≡ t → Low (if t then Some (byte - 48) else (if within 97 102 byte then Some (byte - 97 + 10) else (if within 65 70 byte then Some (byte - 65 + 10) else None)))
  first true e = let p = within_is 48 57 byte e in let low = p.0 in let high = p.1 in omega (arith, low, high)
  first false e = second (within 97 102 byte) refl

pair_read : (rest : Text) (x y : Option ℕ) → AreBytes rest → Low x → Low y → Read (pair_of rest x y)
unfolding Low Read
pair_read rest None y h a b = tt
pair_read rest (Some x) None h a b = tt
pair_read rest (Some x) (Some y) h a b = (omega (arith, a, b), h)

backslash_read : (s : Text) → AreBytes s → Read (after_backslash s)
unfolding Read
backslash_read [] h = tt
backslash_read (a ∷ []) h = either_read (a == 92) (Some (92, [])) None (omega arith, tt) tt
backslash_read (a ∷ b ∷ rest) h = either_read (a == 92) (Some (92, b ∷ rest)) (pair_of rest (digit a) (digit b)) (omega arith, h.1) (pair_read rest (digit a) (digit b) h.1.1 (digit_low a) (digit_low b))

next_read : (s : Text) → AreBytes s → Read (next s)
unfolding next Read
next_read [] h = tt
next_read (byte ∷ bytes) h =
    either_read (byte == 34) None (if byte == 92 then after_backslash bytes else Some (byte, bytes)) tt
    (either_read (byte == 92) (after_backslash bytes) (Some (byte, bytes)) (backslash_read bytes h.1) h)

unescaped_bytes : (n : ℕ) (s : Text) → AreBytes s → AreBytes (unescaped_from n s)
unfolding unescaped_from Read
unescaped_bytes zero s h = tt
unescaped_bytes (suc n) s h = by (next s) (next_read s h) (λ x is. unescaped_bytes n x is) where
  by : (x : Option (ℕ × Text)) → Read x → ((t : Text) → AreBytes t → AreBytes (unescaped_from n t)) → AreBytes (on_next x [] (λ b rest. b ∷ unescaped_from n rest))
  by None is more = tt
  by (Some p) is more = (is.0, more p.1 is.1)

unquoted_bytes : (s : Text) → AreBytes s → AreBytes (unquoted s)
unquoted_bytes s h = by (begins_quote s) where
  by : (t : Bool) → AreBytes (if t then unescaped (inside s) else s)
  by true = let inner = take_bytes (length s - 2) (drop 1 s) (drop_bytes 1 s h) in unescaped_bytes (length (inside s)) (inside s) inner
  by false = h

bare_bytes : (x : Kind) (s : Text) → AreBytes s → AreBytes (bare x s)
bare_bytes k.LocalName s h = drop_bytes 1 s h
bare_bytes k.LocalNumber s h = drop_bytes 1 s h
bare_bytes k.GlobalName s h = drop_bytes 1 s h
bare_bytes k.AttributeGroup s h = drop_bytes 1 s h
bare_bytes k.MetadataName s h = drop_bytes 1 s h
bare_bytes k.MetadataNumber s h = drop_bytes 1 s h
bare_bytes k.LabelName s h = take_bytes (length s - 1) s h
bare_bytes k.LabelNumber s h = take_bytes (length s - 1) s h
bare_bytes _ s h = h

first_bytes : (text : Text) (ts : List Token) → AreBytes text → AreBytes (spelled_first text ts)
first_bytes text [] h = tt
first_bytes text (t ∷ ts) h = unquoted_bytes (bare t.kind (spelling text t)) (bare_bytes t.kind (spelling text t) (take_bytes t.length (drop t.start text) (drop_bytes t.start text h)))

-- the next token spells bytes in a text of bytes
pub spelled_bytes : (c : Place) → AreBytes c.text → AreBytes (spelled c)
unfolding spelled
spelled_bytes c h = first_bytes c.text c.rest h
