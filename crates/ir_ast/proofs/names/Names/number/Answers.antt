use Rattle.std.proofs.Common.{◌≡◌, ◌∙◌, ◌++◌, ◌∷◌, [], ap, arith, sym, subst, length, suc, List, ℕ, None, is_some, unwrap_or, if◌then◌else◌, Option}
use Rattle.lemmas.specs.Lists.{IsIn}
use Rattle.ir_ast.specs.Names.{place_of}
use Rattle.ir_ast.specs.Places.{map-length}
use Rattle.ir_ast.specs.Links.{text_of, texts_of, listed, AreListed, AreNames}
use Rattle.ir_ast.specs.declared.links.Span.{Span}
use Rattle.ir_ast.proofs.KeptNames.{texts_more, names_more}
use Rattle.ir_ast.proofs.names.Names.number.Goals as goal

module _ (c : goal.After-push_reserved) where
  abbrev bytes : List ℕ
  bytes = c.self.inside.bytes.items

  abbrev spans : List Span
  spans = c.self.inside.spans.items

  abbrev text : List ℕ
  text = c.args.text.now

  abbrev span : Span
  span = record { start = c.len-start.result; end = c.len-end.result }

  none : place_of text (texts_of bytes spans) ≡ None
  none = sym (c.find.ensures.place ∙ ap (λ bs. place_of text (texts_of bs c.deref-2.result.now)) c.deref.ensures.value ∙ ap (λ (ss : List Span). place_of text (texts_of bytes ss)) c.deref-2.ensures.value) ∙ c.in_default.is

  bytes_now : c.extend_from_slice.new.self.items ≡ bytes ++ text
  bytes_now = c.in_ok-extend_from_slice.ensures.items

  spans_now : c.push_reserved.new.self.items ≡ spans ++ span ∷ []
  spans_now = c.push_reserved.ensures.items ∙ ap (λ (ss : List Span). ss ++ span ∷ []) c.reserve.ensures.items

  starts : span.start ≡ length bytes
  starts = omega (arith, c.len-start.ensures, c.self.inside.bytes.ok.0)

  ends : span.end ≡ length (bytes ++ text)
  ends = let same = ap length bytes_now in omega (arith, c.len-end.ensures, c.extend_from_slice.new.self.ok.0, same)

  counted : c.len-number.result ≡ length spans
  counted = omega (arith, c.len-number.ensures, c.self.inside.spans.ok.0)

  lists : AreListed c.make_room.new.self (texts_of bytes spans)
  lists = subst (λ bs. AreListed c.make_room.new.self (texts_of bs spans)) c.deref-3.ensures.value (subst (λ (ss : List Span). AreListed c.make_room.new.self (texts_of c.deref-3.result.now ss)) c.deref-4.ensures.value c.make_room.ensures.listed)

  one_more : length c.add.new.self.befores.items ≡ suc (length spans)
  one_more = let same = ap (λ (ss : List Span). length ss) c.deref-4.ensures.value in omega (arith, c.add.ensures.one_more, c.make_room.ensures.one_each, same)

  added : IsIn (length spans) (listed c.add.new.self.heads.items c.add.new.self.befores.items c.in_ok-hash.hash)
  added = subst (λ n. IsIn n (listed c.add.new.self.heads.items c.add.new.self.befores.items c.in_ok-hash.hash)) counted c.add.ensures.added

  are_names : AreNames (bytes ++ text) (spans ++ span ∷ []) c.add.new.self
  are_names = names_more bytes text spans span starts ends c.make_room.new.self c.add.new.self c.in_ok-hash.hash c.add.ensures.key c.in_ok-hash.ensures.hash c.add.ensures.kept added
      c.self.inside.links c.self.invariant none lists one_more (omega (arith, counted, c.if-number-ge-TABLE_LIMIT.false))

  place_none : place_of text c.args.self.now ≡ None
  place_none = ap (place_of text) (sym c.self.view_is) ∙ none

pub invariant_of-self-2 : goal.invariant_of-self-2
invariant_of-self-2 c = subst (λ bs. AreNames bs c.push_reserved.new.self.items c.add.new.self) (sym (bytes_now c)) (subst (λ (ss : List Span). AreNames (bytes c ++ text c) ss c.add.new.self) (sym (spans_now c)) (are_names c))

pub returns-clause-number : goal.returns-clause-number
returns-clause-number c =
    counted c ∙ sym (map-length (text_of (bytes c)) (spans c)) ∙ ap length c.self.view_is ∙ sym (ap (λ (p : Option ℕ). unwrap_or p (length c.args.self.now)) (place_none c))

pub returns-clause-names : goal.returns-clause-names
returns-clause-names c =
    ap (λ bs. texts_of bs c.push_reserved.new.self.items) (bytes_now c) ∙ ap (texts_of (bytes c ++ text c)) (spans_now c)
    ∙ texts_more (bytes c) (text c) (spans c) (span c) (starts c) (ends c) c.self.invariant.within ∙ ap (λ (ns : List (List ℕ)). ns ++ text c ∷ []) c.self.view_is
    ∙ sym (ap (λ (p : Option ℕ). if is_some p then c.args.self.now else c.args.self.now ++ text c ∷ []) (place_none c))
