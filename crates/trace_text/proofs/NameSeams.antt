-- Printed names are words, in quotes too.
use Rattle.std.proofs.Common.{◌≡◌, ℕ, false, ◌∷◌, ◌++◌}
use Rattle.std.specs.Prelude.{◌==◌}
use Rattle.ir_tokens.specs.Bytes.{Text}
use Rattle.name_text.specs.Words.{may_end, past_blanks}
use Rattle.name_text.specs.declared.blank.Blank.TheVariants as blank
use Rattle.name_text.specs.NameWords.{names_are_words}
use Rattle.name_text.specs.Seams.{all_bytes, goes_on, past_word_on, blanks_on}
use Rattle.trace_text.specs.Print.{name_text}
use Rattle.trace_text.proofs.Seams.{IsWord}

-- a printed name is a word
pub name_word : (name : Text) → IsWord (name_text name)
name_word name rest ends = past_word_on false (name_text name) rest (all_bytes (name_text name) (names_are_words blank.Kept name)) ends

-- and is no blank and no comment
pub name_stays : (name rest : Text) → past_blanks (name_text name ++ rest) ≡ name_text name ++ rest
name_stays name rest = blanks_on (name_text name) rest (names_are_words blank.Kept name)

-- with a sign before it too
pub signed_word : (sign : ℕ) (w : Text) → may_end sign ≡ false → sign == 34 ≡ false → IsWord w → IsWord (sign ∷ w)
signed_word sign w inner no_quote is_word rest ends = rw (goes_on sign (w ++ rest) inner, no_quote) (is_word rest ends)
