-- A word as the tokens that are read from it.
use Rattle.std.proofs.Common.{◌≡◌, ℕ, ◌≤◌, ◌^◌, Bool, true, nat_le, if◌then◌else◌, None, length, Ok, refl, sym, ap, ◌∙◌, arith}
use Rattle.std.proofs.lemmas.Bool.Decides.{nat_tests}
use Rattle.ir_tokens.specs.declared.lexed.Lexed.{Lexed}
use Rattle.ir_tokens.specs.Tokens.{IsLexed, lexed_of}
use Rattle.ir_tokens.specs.Laws.{found}
use Rattle.ir_tokens.specs.Bytes.{Text}
use Rattle.name_text.specs.Naming.{name_from, name_in}
use Rattle.name_text.specs.declared.naming.Sigil.{Sigil}

pub is_lexed : (word : Text) → IsLexed word (lexed_of word)
is_lexed word = found word (Ok (lexed_of word)) refl

at_most : (n limit : ℕ) → n ≤ limit → nat_le n limit ≡ true
at_most n limit le = grind (arith, nat_tests)

pub name_by_tokens : (sign : Sigil) (word : Text) (lexed : Lexed) → length word ≤ 2 ^ 24 → lexed ≡ lexed_of word → name_from sign word lexed.bad lexed.tokens ≡ name_in sign word
name_by_tokens sign word lexed le e =
    ap (λ (l : Lexed). name_from sign word l.bad l.tokens) e
    ∙ sym (ap (λ (b : Bool). if b then name_from sign word (lexed_of word).bad (lexed_of word).tokens else None) (at_most (length word) (2 ^ 24) le))
