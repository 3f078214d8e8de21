-- Lines take something from what is left.
use Rattle.std.specs.Prelude.{◌≡◌, ℕ, ◌<◌, Bool, true, false, [], ◌∷◌, length, codes, slice_get}
use Rattle.std.proofs.Common.{lit<, arith}
use Rattle.ir_ast.specs.declared.function.Function.{Function}
use Rattle.ir_ast.specs.declared.module.Module.{Module}
use Rattle.grammar.specs.Takes.{Takes, TakesWhere, first_takes, look_takes}
use Rattle.ir_tokens.specs.Tokens.{lex_from, past_gap}
use Rattle.ir_tokens.specs.Bytes.{Text as Bytes}
use Rattle.certificate.specs.Names.{value_of_word}
use Rattle.certificate.specs.Drafts.{is_in}
use Rattle.name_text.specs.Reader.{word, begins}
use Rattle.name_text.specs.Forms.{expect, expect_takes, taken_takes}
use Rattle.certificate.specs.Input.{Progress}
use Rattle.certificate.specs.Forms.{free_by, new_value, new_value_named}
use Rattle.certificate.specs.Lines.{line, line_by, slot_claim, slot_after, value_claim, value_after}
use Rattle.certificate.specs.declared.naming.Naming.{Naming}
use Rattle.certificate.specs.declared.naming.Naming.TheVariants.{NoName, Unknown, Named}
use Rattle.certificate.specs.declared.mistake.Mistake.{Mistake}

-- a word that names a value has bytes
named_has_bytes : (f : Function) (w : Bytes) (value : ℕ) → value_of_word f w ≡ Named value → 0 < length w
unfolding lex_from past_gap
named_has_bytes f [] value e = absurd cc
named_has_bytes f (byte ∷ w) value e = omega arith

-- a name that is not listed so far takes bytes
free_takes : (value : ℕ) (in_block : Bool) → TakesWhere (λ i. 0 < length (word i)) (free_by value in_block)
free_takes value true i a o p h = absurd h
free_takes value false i a o p h = taken_takes Progress Mistake value i a o p h

-- the name of a new value takes bytes
new_value_takes : (f : Function) (block : ℕ) → Takes (new_value f block)
unfolding new_value
new_value_takes f block = look_takes (λ i. value_of_word f (word i)) (new_value_named block) each
  where
    each : (k : Naming) → TakesWhere (λ i. value_of_word f (word i) ≡ k) (new_value_named block k)
    each NoName i a o p h = absurd h
    each Unknown i a o p h = absurd h
    each (Named value) i a o p h = free_takes value (is_in block (slice_get i.read.draft.values value)) i a o (named_has_bytes f (word i) value p) h

-- a claim about a slot takes bytes
slot_claim_takes : (f : Function) (block : ℕ) → Takes (slot_claim f block)
unfolding slot_claim
slot_claim_takes f block = first_takes (expect (codes "slot")) (λ _. slot_after f block) (expect_takes Progress Mistake (codes "slot") (lit< tt))

-- a claim about a value takes bytes
value_claim_takes : (m : Module) (f : Function) (block : ℕ) → Takes (value_claim m f block)
unfolding value_claim
value_claim_takes m f block = first_takes (new_value f block) (λ value. value_after m f block value) (new_value_takes f block)

-- a claim of a block takes bytes
pub line_takes : (m : Module) (f : Function) (block : ℕ) → Takes (line m f block)
unfolding line
line_takes m f block = look_takes (begins (codes "slot")) (line_by m f block) each
  where
    each : (k : Bool) → TakesWhere (λ i. begins (codes "slot") i ≡ k) (line_by m f block k)
    each true i a o p h = slot_claim_takes f block i a o h
    each false i a o p h = value_claim_takes m f block i a o h
