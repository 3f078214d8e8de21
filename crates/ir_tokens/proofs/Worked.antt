-- Texts and their tokens, by computation.
use Rattle.std.proofs.Common.{◌≡◌, ℕ, Bool, List, [], ◌∷◌, map, refl, true, false}
use Rattle.std.specs.Prelude.{Option, Some, None, codes}
use Rattle.ir_tokens.specs.declared.token.Kind.{Kind}
use Rattle.ir_tokens.specs.declared.token.Kind.TheVariants as k
use Rattle.ir_tokens.specs.Bytes.{Text, class_of, is_name, next, digit}
use Rattle.ir_tokens.specs.Form.{quoted_from}
use Rattle.ir_tokens.specs.Keywords.{keywords, word_kind}
use Rattle.ir_tokens.specs.Names.{name_of, unescaped_from}
use Rattle.ir_tokens.specs.Position.{position_of}
use Rattle.ir_tokens.specs.Tokens.{lexed_of, lex_from, past_gap, token, word, number, quote, local, global, group, metadata, record_name}

-- each token's kind, whether it begins a line, and the name that it spells; and the first bad place
abbrev seen : Text → List (Kind × Bool × Text) × Option ℕ
seen text = (map (λ t. (t.kind, t.begins_line, name_of text t)) (lexed_of text).tokens, (lexed_of text).bad)

abbrev both : (List (Kind × Bool × Text) × Option ℕ) → List (Kind × Bool × Text) → Option ℕ → Type 0
both s tokens bad = (s.0 ≡ tokens) × (s.1 ≡ bad)

-- Digits end where a letter begins, and a word takes digits and `-`.
numbers_and_words : both (seen (codes "12ab -5 -5a - 7")) (
    (k.Number, true, codes "12") ∷ (k.LowercaseWord, false, codes "ab") ∷ (k.Number, false, codes "-5") ∷ (k.Word, false, codes "-5a")
    ∷ (k.Word, false, codes "-") ∷ (k.Number, false, codes "7") ∷ []) None
unfolding lex_from past_gap token class_of word number word_kind keywords is_name
numbers_and_words = (refl, refl)

kinds_of_words : both (seen (codes "alloca sdiv i64 i i64x nounwind dso_Local ... .")) (
    (k.Alloca, true, codes "alloca") ∷ (k.LeftOut, false, codes "sdiv") ∷ (k.IntegerType, false, codes "i64") ∷ (k.LowercaseWord, false, codes "i")
    ∷ (k.LowercaseWord, false, codes "i64x") ∷ (k.LowercaseWord, false, codes "nounwind") ∷ (k.Word, false, codes "dso_Local")
    ∷ (k.Dots, false, codes "...") ∷ (k.Word, false, codes ".") ∷ []) None
unfolding lex_from past_gap token class_of word number word_kind keywords is_name
kinds_of_words = (refl, refl)

-- A `:` directly after a name, a number or quoted text makes a label, and is allowed nowhere else.
labels : both (seen (codes "add: 5: -5: \"x y\": ret :")) (
    (k.LabelName, true, codes "add") ∷ (k.LabelNumber, false, codes "5") ∷ (k.LabelName, false, codes "-5") ∷ (k.LabelName, false, codes "x y")
    ∷ (k.Ret, false, codes "ret") ∷ []) (Some 23)
unfolding lex_from past_gap token class_of word number word_kind keywords is_name quote quoted_from next digit unescaped_from
labels = (refl, refl)

names : both (seen (codes "%a %5 %\"5\" %5a @x @\"\" #0 !dbg !3 !{")) (
    (k.LocalName, true, codes "a") ∷ (k.LocalNumber, false, codes "5") ∷ (k.LocalName, false, codes "5") ∷ (k.LocalNumber, false, codes "5")
    ∷ (k.LowercaseWord, false, codes "a") ∷ (k.GlobalName, false, codes "x") ∷ (k.GlobalName, false, []) ∷ (k.AttributeGroup, false, codes "0")
    ∷ (k.MetadataName, false, codes "dbg") ∷ (k.MetadataNumber, false, codes "3") ∷ (k.Exclamation, false, codes "!") ∷ (k.OpenBrace, false, codes "{") ∷ []) None
unfolding lex_from past_gap token class_of word number word_kind keywords is_name quote quoted_from next digit unescaped_from local global group metadata
names = (refl, refl)

-- Two hexadecimal digits, or a second backslash, after a backslash.
escapes : both (seen (codes "\"a\\41\\\\b\"")) ((k.Quoted, true, codes "aA\\b") ∷ []) None
unfolding lex_from past_gap token class_of quote quoted_from next digit unescaped_from
escapes = (refl, refl)

-- Another escape makes the text bad, and so does its missing quote, each at the first byte of the token.
bad_escapes : (s : both (seen (codes " %\"\\z\"")) [] (Some 1)) × (t : both (seen (codes "\"\\4\"")) [] (Some 0)) × both (seen (codes "\"ab")) [] (Some 0)
unfolding lex_from past_gap token class_of quote local quoted_from next digit unescaped_from
bad_escapes = ((refl, refl), (refl, refl), (refl, refl))

bad_tokens : (s : both (seen (codes "@5")) [] (Some 0)) × (t : both (seen (codes "%")) [] (Some 0)) × (u : both (seen (codes "#a")) [] (Some 0)) × both (seen (codes "~")) [] (Some 0)
unfolding lex_from past_gap token class_of local global group record_name is_name
bad_tokens = ((refl, refl), (refl, refl), (refl, refl), (refl, refl))

-- A number with an exponent is more than one token.
exponents : both (seen (codes "1.25e+00")) (
    (k.Number, true, codes "1") ∷ (k.Word, false, codes ".25e") ∷ (k.Plus, false, codes "+") ∷ (k.Number, false, codes "00") ∷ []) None
unfolding lex_from past_gap token class_of word number word_kind keywords is_name
exponents = (refl, refl)

debug_records : both (seen (codes "#dbg_value( #dbg_ #0")) (
    (k.DebugRecord, true, codes "#dbg_value") ∷ (k.OpenRound, false, codes "(") ∷ (k.DebugRecord, false, codes "#dbg_") ∷ (k.AttributeGroup, false, codes "0") ∷ []) None
unfolding lex_from past_gap token class_of local global group record_name is_name
debug_records = (refl, refl)

-- A comment holds any byte and ends with its line, or with the text.
comments : both (seen (codes "= ; @5 \"\n, ; x\n | ;")) ((k.Equals, true, codes "=") ∷ (k.Comma, true, codes ",") ∷ (k.Bar, true, codes "|") ∷ []) None
unfolding lex_from past_gap token class_of
comments = (refl, refl)

positions : (s : position_of (codes "ab\ncd") 0 ≡ record { line = 1; column = 1 }) × (t : position_of (codes "ab\ncd") 2 ≡ record { line = 1; column = 3 })
    × (u : position_of (codes "ab\ncd") 3 ≡ record { line = 2; column = 1 }) × (position_of (codes "ab\ncd") 5 ≡ record { line = 2; column = 3 })
positions = (refl, refl, refl, refl)
