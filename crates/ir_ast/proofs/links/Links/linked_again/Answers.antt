use Rattle.std.proofs.Common.{◌≡◌, ◌<◌, inl, inr, refl, ◌∙◌, ap, arith, sym, subst, length, slice_get, get_or, List, ℕ, Some}
use Rattle.std.specs.Prelude.{option_map}
use Rattle.std.proofs.lemmas.Bool.{cases_eq}
use Rattle.std.proofs.lemmas.Option.{slice_get-map, slice_get-get_or, slice_get_within}
use Rattle.lemmas.specs.Lists.{IsIn}
use Rattle.ir_ast.specs.Places.{map-length}
use Rattle.ir_ast.specs.Links.{hash_by, text_of, texts_of, listed}
use Rattle.ir_ast.specs.declared.hash_key.HashKey.{HashKey}
use Rattle.ir_ast.specs.declared.links.Span.{Span}
use Rattle.ir_ast.proofs.links.Links.linked_again.Goals as goal

-- the text that a name is
named : (bytes : List ℕ) (spans : List Span) (number : ℕ) (d : Span) (name : List ℕ) → number < length spans → slice_get (texts_of bytes spans) number ≡ Some name → text_of bytes (get_or spans number d) ≡ name
named bytes spans number d name lt at =
    let is : Some (text_of bytes (get_or spans number d)) ≡ Some name = sym (slice_get-map (text_of bytes) spans number ∙ ap (option_map (text_of bytes)) (slice_get-get_or spans number d lt)) ∙ at in cc

here : (c : goal.After-add) (number : ℕ) (name : List ℕ) → slice_get (texts_of c.args.bytes.now c.args.spans.now) number ≡ Some name → number ≡ c.loop-number.number
    → IsIn (length c.loop-number.links.befores.items) (listed c.add.new.self.heads.items c.add.new.self.befores.items (hash_by c.add.new.self.key name))
here c number name at same =
    let within : c.loop-number.number < length c.args.spans.now = omega (arith, c.loop-number-test.true, c.loop-number.auto.number-end) in
    let at_here : slice_get (texts_of c.args.bytes.now c.args.spans.now) c.loop-number.number ≡ Some name = ap (slice_get (texts_of c.args.bytes.now c.args.spans.now)) (sym same) ∙ at in
    let text : c.text_at.result.now ≡ name = c.text_at.ensures ∙ named c.args.bytes.now c.args.spans.now c.loop-number.number (record { start = 0; end = 0 }) name within at_here in
    let hash : c.hash_of-hash.result ≡ hash_by c.add.new.self.key name = c.hash_of-hash.ensures ∙ ap (hash_by c.loop-number.links.key) text ∙ ap (λ (key : HashKey). hash_by key name) (sym c.add.ensures.key) in
    subst (λ n. IsIn n (listed c.add.new.self.heads.items c.add.new.self.befores.items (hash_by c.add.new.self.key name))) (sym c.loop-number.invariant.1 ∙ refl)
    (subst (λ h. IsIn c.loop-number.number (listed c.add.new.self.heads.items c.add.new.self.befores.items h)) hash c.add.ensures.added)

pub loop-number-preserved : goal.loop-number-preserved
loop-number-preserved c = (
  omega (arith, c.add.ensures.heads, c.loop-number.invariant.0),
  omega (arith, c.add.ensures.one_more, c.loop-number.invariant.1),
  omega (arith, c.add.ensures.room, c.loop-number.invariant.2),
  (λ number name at lt. elim (cases_eq number c.loop-number.number) [
    | inl same ↦ subst (λ n. IsIn n (listed c.add.new.self.heads.items c.add.new.self.befores.items (hash_by c.add.new.self.key name))) (sym (same ∙ sym c.loop-number.invariant.1))
        (here c number name at same)
    | inr ne ↦ subst (λ (key : HashKey). IsIn number (listed c.add.new.self.heads.items c.add.new.self.befores.items (hash_by key name))) (sym c.add.ensures.key)
        (c.add.ensures.kept (hash_by c.loop-number.links.key name) number (c.loop-number.invariant.3 number name at (omega (arith, lt, ne))))
  ]),
)

pub returns-clause-listed : goal.returns-clause-listed
returns-clause-listed c number name at =
    let within = slice_get_within (texts_of c.args.bytes.now c.args.spans.now) number name at in
    let long = map-length (text_of c.args.bytes.now) c.args.spans.now in
    c.loop-number.invariant.3 number name at (omega (arith, within, long, c.loop-number-test.false, c.loop-number.auto.number-end))
