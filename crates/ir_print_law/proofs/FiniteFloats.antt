-- A number that is read from decimals has 64 bits.
use Rattle.std.proofs.Common.{◌≡◌, ℕ, ◌+◌, ◌*◌, ◌<◌, ◌^◌, Bool, true, false, T, if◌then◌else◌, List, length, drop, Option, None, Some, option_map, option_and_then, to_bits, codes, arith}
use Rattle.std.specs.Prelude.{◌==◌, slice_index}
use Rattle.std.specs.Float.{Float, binary64}
use Rattle.std.specs.Float.Numeral.{minus, scan_numeral, has_digits, nearest_float, numeral_digits, tens_up, tens_down}
use Rattle.std.specs.Float.Parse.{begins_with, read_word, read_unsigned, read_float, sign_len, parse_float}
use lib.Ieee.{nan, inf, fits}
use lib.Ieee.Bits.{to_bits-lt}
use lib.Ieee.Fits.{round-fits, nan-fits, inf-fits}

-- the number that was read is one of 64 bits
abbrev Held : Option (Float × ℕ) → Type 0
Held None = Unit {0}
Held (Some r) = T (fits binary64 r.0)

word_held : (negative : Bool) (bs : List ℕ) → Held (read_word negative bs)
word_held negative bs = by (begins_with bs (codes "infinity")) (begins_with bs (codes "inf")) (begins_with bs (codes "nan")) where
  by : (t u v : Bool) → Held (if t then Some (inf negative, 8) else (if u then Some (inf negative, 3) else (if v then Some (nan, 3) else None)))
  by true u v = inf-fits binary64 negative
  by false true v = inf-fits binary64 negative
  by false false true = nan-fits binary64
  by false false false = tt

unsigned_held : (negative : Bool) (bs : List ℕ) → Held (read_unsigned binary64 negative bs)
unsigned_held negative bs = by (has_digits (scan_numeral bs)) where
  by : (t : Bool) → Held (if t then Some (nearest_float binary64 negative (scan_numeral bs), (scan_numeral bs).len) else read_word negative bs)
  by true = round-fits binary64 negative (numeral_digits (scan_numeral bs) * 10 ^ tens_up (scan_numeral bs)) (10 ^ tens_down (scan_numeral bs))
  by false = word_held negative bs

float_held : (bs : List ℕ) → Held (read_float binary64 bs)
unfolding read_float
float_held bs = by (read_unsigned binary64 (slice_index bs 0 == minus) (drop (sign_len bs) bs)) (unsigned_held (slice_index bs 0 == minus) (drop (sign_len bs) bs)) where
  by : (x : Option (Float × ℕ)) → Held x → Held (option_map (λ r. (r.0, sign_len bs + r.1)) x)
  by None h = tt
  by (Some r) h = h

-- the bits of what decimals write, if they write a number
abbrev pub IsShort : Option Float → Type 0
IsShort None = Unit {0}
IsShort (Some x) = to_bits binary64 x < 2 ^ 64

pub parsed_short : (word : List ℕ) → IsShort (parse_float binary64 word)
parsed_short word = by (read_float binary64 word) (float_held word) where
  whole : (r : Float × ℕ) (t : Bool) → T (fits binary64 r.0) → IsShort (if t then Some r.0 else None)
  whole r true h = to_bits-lt binary64 r.0 h
  whole r false h = tt

  by : (x : Option (Float × ℕ)) → Held x → IsShort (option_and_then (λ r. if r.1 == length word then Some r.0 else None) x)
  by None h = tt
  by (Some r) h = whole r (r.1 == length word) h
