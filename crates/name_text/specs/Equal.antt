-- A text has the same bytes as itself.
use Rattle.std.specs.Prelude.{◌≡◌, true, [], ◌∷◌, refl}
use Rattle.std.specs.Str.{bytes_eq}
use Rattle.std.proofs.lemmas.Bool.{eq-eqb}
use Rattle.ir_tokens.specs.Bytes.{Text}

pub same_bytes : (w : Text) → bytes_eq w w ≡ true
same_bytes [] = refl
same_bytes (b ∷ w) = rw (eq-eqb b b refl) (same_bytes w)
