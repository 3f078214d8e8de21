-- What the rules let pass under a type is no other kind to the machine.
use Rattle.std.proofs.Common.{◌≡◌, ℕ, refl, sym, ap, ◌∙◌, true, false, Bool, Option, Some, None}
use Rattle.std.specs.Prelude.{◌||◌, ◌&&◌}
use Rattle.lemmas.specs.Bools.{and_parts, or_second, or_first}
use Rattle.ir_ast.specs.declared.module.Module.{Module}
use Rattle.pools.specs.declared.word_kind.WordKind.{WordKind}
use Rattle.pools.specs.declared.word_kind.WordKind.TheVariants as word
use Rattle.types.specs.References.{pointee, referenced_layout}
use Rattle.type_kinds.specs.declared.type_kind.TypeKind.{TypeKind}
use Rattle.type_kinds.specs.declared.type_kind.TypeKind.TheVariants.{NoValue, Bits, Reference, AnyReference, Address as AddressKind, Other}
use Rattle.block_rules.specs.Casts as c
use Rattle.type_kinds.specs.WantedWords.{wanted_by_load, holds_wanted}
use Rattle.type_kinds.specs.TypeKinds.{kind_of, kind_at, kind_held, place_kind, fits_layout, layout_of_kind, is_any_reference, may_be_reference}
use Rattle.machine.specs.Asks as a
use Rattle.machine.specs.Kinds as k
use Rattle.machine.specs.Kinds.{refers_to, is_layout}
use Rattle.soundness.specs.Meaning.{GoesWithType}
use Rattle.soundness.proofs.Lists.{turned}
use Rattle.soundness.proofs.KindLemmas.{refers_same, layout_same, bytes_same, leads_same}

-- of two tests of which the second fails the first passes
pub first_holds : (b : Bool) → (b || false) ≡ true → b ≡ true
first_holds true e = refl
first_holds false e = absurd cc

module _ (m : Module) where
  -- a type of a reference to a layout
  pub part_refers : (layout part : ℕ) → fits_layout layout (kind_of m part) ≡ true → refers_to m layout part ≡ true
  part_refers layout part e = by (kind_of m part) refl e where
    by : (x : TypeKind) → kind_of m part ≡ x → fits_layout layout x ≡ true → refers_to m layout part ≡ true
    by NoValue is e = absurd cc
    by (Bits bits) is e = absurd cc
    by (Reference other) is e = or_second (k.is_byte_pointer m part) (is_layout (referenced_layout m part) layout) (ap (λ x. is_layout x layout) (sym (layout_same m part) ∙ ap layout_of_kind is) ∙ e)
    by AnyReference is e = or_first (k.is_byte_pointer m part) (is_layout (referenced_layout m part) layout) (sym (bytes_same m part) ∙ ap is_any_reference is)
    by AddressKind is e = absurd cc
    by Other is e = absurd cc

  -- a type of a place of references to a layout
  pub place_refers : (layout to : ℕ) → fits_layout layout (place_kind m to) ≡ true → k.leads_to (refers_to m layout) (pointee m to) ≡ true
  place_refers layout to e = by (pointee m to) e where
    by : (q : Option ℕ) → fits_layout layout (kind_at m q) ≡ true → k.leads_to (refers_to m layout) q ≡ true
    by None e = absurd cc
    by (Some part) e = part_refers layout part e

  -- the rules let null pass to no other type than the machine does
  pub null_casts : (from to : ℕ) → c.casts_null m from to ≡ true → (k.may_refer m to || (k.may_lead m from && k.may_lead m to)) ≡ true
  null_casts from to e = pick (may_be_reference (kind_of m from) && may_be_reference (kind_of m to)) refl e where
    pick : (b : Bool) → (may_be_reference (kind_of m from) && may_be_reference (kind_of m to)) ≡ b → (b || (may_be_reference (place_kind m from) && may_be_reference (place_kind m to))) ≡ true
        → (k.may_refer m to || (k.may_lead m from && k.may_lead m to)) ≡ true
    pick true is e = or_first (k.may_refer m to) _ (sym (refers_same m to) ∙ (and_parts (may_be_reference (kind_of m from)) (may_be_reference (kind_of m to)) is).1)
    pick false is e =
        let b = and_parts (may_be_reference (place_kind m from)) (may_be_reference (place_kind m to)) e in
        or_second (k.may_refer m to) (k.may_lead m from && k.may_lead m to) (rw (sym (leads_same m from) ∙ b.0, sym (leads_same m to) ∙ b.1) refl)

  -- a kind to which a layout fits is one of references
  pub layout_refers : (layout : ℕ) (x : TypeKind) → fits_layout layout x ≡ true → may_be_reference x ≡ true
  layout_refers layout NoValue e = absurd cc
  layout_refers layout (Bits bits) e = absurd cc
  layout_refers layout (Reference other) e = refl
  layout_refers layout AnyReference e = refl
  layout_refers layout AddressKind e = absurd cc
  layout_refers layout Other e = absurd cc

  -- a type that says no layout is no reference to one
  pub no_reference : (held layout : ℕ) → referenced_layout m held ≡ None → kind_of m held ≡ Reference layout → ⊥
  no_reference held layout none is = let e : Some layout ≡ None = sym (ap layout_of_kind is) ∙ layout_same m held ∙ none in cc

  -- a slot that holds references to a layout, under another type
  pub held_casts : (to held : ℕ) (layout : Option ℕ) → GoesWithType m held layout → c.casts_slot (kind_held m (Some held) layout) (place_kind m to) ≡ true → k.leads_to (a.is_slot_under m layout) (pointee m to) ≡ true
  held_casts to held (Some layout) goes e = place_refers layout to e
  held_casts to held None goes e = by (kind_of m held) refl e where
    by : (x : TypeKind) → kind_of m held ≡ x → c.casts_slot x (place_kind m to) ≡ true → k.leads_to (a.is_slot_under m None) (pointee m to) ≡ true
    by NoValue is e = absurd cc
    by (Bits bits) is e = absurd cc
    by (Reference layout) is e = absurd (no_reference held layout goes is)
    by AnyReference is e = absurd cc
    by AddressKind is e = absurd cc
    by Other is e = absurd cc

  -- a word that may be loaded under a kind may be named as a place of it
  pub word_casts : (to : ℕ) (kind : TypeKind) (first : Option ℕ) (q : Option WordKind) → place_kind m to ≡ kind → holds_wanted (wanted_by_load kind first) q ≡ true → may_be_reference kind ≡ true → k.may_cast_word m to q ≡ true
  word_casts to NoValue first q is e r = absurd cc
  word_casts to (Bits bits) first q is e r = absurd cc
  word_casts to (Reference layout) first None is e r = absurd cc
  word_casts to (Reference layout) first (Some (word.Integer bits)) is e r = absurd cc
  word_casts to (Reference layout) first (Some (word.Reference other)) is e r = place_refers other to (ap (fits_layout other) is ∙ turned other layout e)
  word_casts to AnyReference None None is e r = absurd cc
  word_casts to AnyReference None (Some (word.Integer bits)) is e r = absurd cc
  word_casts to AnyReference None (Some (word.Reference other)) is e r = absurd cc
  word_casts to AnyReference (Some layout) None is e r = absurd cc
  word_casts to AnyReference (Some layout) (Some (word.Integer bits)) is e r = absurd cc
  word_casts to AnyReference (Some layout) (Some (word.Reference other)) is e r = place_refers other to (ap (fits_layout other) is)
  word_casts to AddressKind first q is e r = absurd cc
  word_casts to Other first q is e r = absurd cc
