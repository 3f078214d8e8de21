-- Bitcasts.
use Rattle.std.proofs.Common.{◌≡◌, ◌≢◌, ℕ, ◌<◌, ◌^◌, length, map, refl, sym, ap, ◌∙◌, subst, arith, true, false, Bool, Option, Some, None, slice_set, List, inl, inr}
use Rattle.std.specs.Prelude.{◌⊎◌, ◌==◌, ◌&&◌, ◌||◌, if◌then◌else◌, slice_get}
use Rattle.lemmas.specs.Lists.{at_map}
use Rattle.lemmas.specs.Numbers.{test_true, test_yes, test_false}
use Rattle.lemmas.specs.Bools.{and_parts, and_true, or_parts, or_first, or_second, or_false}
use Rattle.ir_ast.specs.Floats.{float_word}
use Rattle.ir_ast.specs.declared.function.Function.{Function}
use Rattle.ir_ast.specs.declared.casts.Cast.{Cast}
use Rattle.ir_ast.specs.declared.op.Op.TheVariants as op
use Rattle.ir_ast.specs.declared.operand.Constant.{Constant}
use Rattle.ir_ast.specs.declared.operand.Constant.TheVariants as constant
use Rattle.ir_ast.specs.declared.operand.Operand.{Operand}
use Rattle.ir_ast.specs.declared.operand.Operand.TheVariants as operand
use Rattle.pools.specs.Heap.{Setup}
use Rattle.pools.specs.Layouts.{kind_of_word}
use Rattle.pools.specs.declared.word_set.WordSet.{WordSet}
use Rattle.layout.specs.Globals.{IsHeapFor, global_word}
use Rattle.layout.specs.Layouts.{LaidOut}
use Rattle.types.specs.Globals.{points_to_global}
use Rattle.types.specs.RuntimeCall.{is_outside}
use Rattle.types.specs.ValueTypes.{has_type}
use Rattle.shadow_stack.specs.Slots.{SlotTable, slot_of, held_type, slot_layout}
use Rattle.certs.specs.declared.section.Section.{Section}
use Rattle.fact_tables.specs.declared.known.Known.{Known}
use Rattle.fact_tables.specs.declared.known.Known.TheVariants.{Nothing, Number, Cell, Null, Address, GlobalAddress}
use Rattle.fact_tables.specs.Rows.{known_at, class_at, off_base, values_without}
use Rattle.facts.specs.Facts.{FactSet, forget, define}
use Rattle.type_kinds.specs.declared.type_kind.TypeKind.{TypeKind}
use Rattle.type_kinds.specs.declared.type_kind.TypeKind.TheVariants.{NoValue, Bits, Reference, AnyReference, Address as AddressKind, Other}
use Rattle.block_rules.specs.declared.instr_context.InstrContext.{InstrContext}
use Rattle.block_rules.specs.FirstFailing.{first_failing}
use Rattle.block_rules.specs.declared.rule.Rule.TheVariants.{K1, K2, K19}
use Rattle.block_rules.specs.Casts as c
use Rattle.block_rules.specs.Integers.{define_number}
use Rattle.block_rules.specs.Operands as o
use Rattle.type_kinds.specs.WantedWords.{layout_of_word, first_layout, cell_words, wanted_by_load, each_word}
use Rattle.block_rules.specs.Places.{define_held}
use Rattle.block_rules.specs.Rules.{cast_conditions, casts_outside, after_op}
use Rattle.type_kinds.specs.TypeKinds.{kind_of, kind_held, place_kind, is_bits, is_integer, is_pointer, fits_layout, may_be_reference}
use Rattle.machine.specs.declared.value.Value.{Value}
use Rattle.machine.specs.declared.value.Value.TheVariants as value
use Rattle.machine.specs.declared.frame.Frame.{Frame}
use Rattle.machine.specs.Asks as a
use Rattle.machine.specs.Kinds as k
use Rattle.machine.specs.Kinds.{register_at, wrapped, bits_at, value_of, constant_value}
use Rattle.machine.specs.Machine as mc
use Rattle.machine.specs.Machine.{slot_value}
use Rattle.machine.specs.Log.{Log}
use Rattle.soundness.specs.Meaning.{Cells, Guarded, IsReferenceTo, IsOwn, IsAddressOf, IsGlobal, AreApart, Means, FitsSlot, Holds}
use Rattle.soundness.proofs.Lists.{at_other}
use Rattle.soundness.proofs.KindLemmas.{integer_same, pointer_type_same, refers_same, leads_same, constant_passes, bits_are}
use Rattle.soundness.proofs.Keep.{Beside, forget_cell, off_cell, without_same, means_without, known_within}
use Rattle.soundness.proofs.Change.{apart_turned, define_keeps, define_plain, new_keeps}
use Rattle.machine.specs.WrappedFits.{wrapped_fits}
use Rattle.soundness.proofs.Edges.{wrapped_le}
use Rattle.soundness.proofs.SlotsKeep.{same_written}
use Rattle.soundness.proofs.PlaceFacts.{holds_as_asked}
use Rattle.soundness.specs.Goes.{Goes}
use Rattle.soundness.proofs.Globals.{is_inside, word_is, word_casts_to, no_word}
use Rattle.soundness.proofs.Outside.{IsOutside, outside_is}
use Rattle.soundness.proofs.SameKinds.{first_holds, part_refers, null_casts, layout_refers, held_casts, word_casts}
use Rattle.soundness.proofs.RulesHold.{rules_hold}
use Rattle.soundness.proofs.Touches.{typed_so, operand_means}
use Rattle.soundness.proofs.Steps.{OpGoes, goes_local, chosen, bits_are_so, below_itself, available, base_is, known_set}

-- a bitcast of an operand
abbrev bitcast : (from : ℕ) → Operand → (to : ℕ) → Cast
bitcast from x to = record { from = from; operand = x; to = to }

module _ (heap : Setup) (p : LaidOut) (certs : List Section) (reaches : Bool) (f : Function) (table : SlotTable) (guarded : Guarded) (log : Log) (cells : Cells) (facts : FactSet) (frame : Frame) (h : Holds heap p table guarded log cells facts frame.registers frame.slots) where
  -- v is a reference of a new class that is not fresh, where a layout is known
  pub held_keeps : (v : ℕ) (layout : Option ℕ) (nonnull : Bool) (new : Value) → ((l : ℕ) → layout ≡ Some l → IsReferenceTo heap l new × IsOwn log guarded new) → (nonnull ≡ true → new ≢ value.Null)
      → ((w d l : ℕ) (s : Bool) → known_at facts.values w ≡ Cell d l s → (class_at facts.classes d).fresh ≡ true → AreApart (cells d) new)
      → (more : Cells) × Holds heap p table guarded log more (define_held v layout nonnull facts) (slice_set frame.registers v new) frame.slots
  held_keeps v None nonnull new refers known apart = (cells, define_plain heap p table guarded log cells facts frame.registers frame.slots h v Nothing new (λ d l s e. cc) tt)
  held_keeps v (Some layout) nonnull new refers known apart =
      let r = refers layout refl in (
        _,
        new_keeps heap p table guarded log cells facts frame.registers frame.slots h v layout false (record { nonnull = nonnull; fresh = false }) new r.0 (λ e. r.1)
            (record { nonnull = known; fresh = λ z. absurd cc }) (λ z. absurd cc) (λ z. apart) (λ z. absurd cc),
      )

  -- v is null
  pub null_keeps : (v : ℕ) (layout : Option ℕ) → (more : Cells) × Holds heap p table guarded log more (define_held v layout false facts) (slice_set frame.registers v value.Null) frame.slots
  null_keeps v layout = held_keeps v layout false value.Null (λ l e. (tt, tt)) (λ z. absurd cc) (λ w d l s is fr. apart_turned value.Null (cells d) tt)

  module _ (fits : IsHeapFor heap p) (from to : ℕ) where
    -- ---- constants

    number_keeps : (v n : ℕ) → from ≡ to → Holds heap p table guarded log cells (c.cast_number v n (kind_of p.of_module to) facts) (slice_set frame.registers v (value.Number (wrapped (bits_at p.of_module from) n))) frame.slots
    number_keeps v n equals = by (kind_of p.of_module to) refl where
      new : Value
      new = value.Number (wrapped (bits_at p.of_module from) n)

      plain : Holds heap p table guarded log cells (define v Nothing facts) (slice_set frame.registers v new) frame.slots
      plain = define_plain heap p table guarded log cells facts frame.registers frame.slots h v Nothing new (λ d l s e. cc) tt

      by : (x : TypeKind) → kind_of p.of_module to ≡ x → Holds heap p table guarded log cells (c.cast_number v n x facts) (slice_set frame.registers v new) frame.slots
      by (Bits bits) is =
          let b : bits_at p.of_module from ≡ bits = bits_are p.of_module from bits (ap (kind_of p.of_module) equals ∙ is) in
          let le = wrapped_le (bits_at p.of_module from) n in
          define_plain heap p table guarded log cells facts frame.registers frame.slots h v (Number bits _) new (λ d l s e. cc)
          (record { number = wrapped (bits_at p.of_module from) n; is = refl; fits = subst (λ z. wrapped (bits_at p.of_module from) n < 2 ^ z) b (wrapped_fits (bits_at p.of_module from) n); under = below_itself n (wrapped (bits_at p.of_module from) n) (omega (arith, le)) })
      by NoValue is = plain
      by (Reference layout) is = plain
      by AnyReference is = plain
      by AddressKind is = plain
      by Other is = plain

    float_keeps : (v n : ℕ) → from ≡ to → Holds heap p table guarded log cells (define_number v (kind_of p.of_module to) None facts) (slice_set frame.registers v (value.Number (wrapped (bits_at p.of_module from) (float_word (bits_at p.of_module from) n)))) frame.slots
    float_keeps v n equals = by (kind_of p.of_module to) refl where
      new : Value
      new = value.Number (wrapped (bits_at p.of_module from) (float_word (bits_at p.of_module from) n))

      plain : Holds heap p table guarded log cells (define v Nothing facts) (slice_set frame.registers v new) frame.slots
      plain = define_plain heap p table guarded log cells facts frame.registers frame.slots h v Nothing new (λ d l s e. cc) tt

      by : (x : TypeKind) → kind_of p.of_module to ≡ x → Holds heap p table guarded log cells (define_number v x None facts) (slice_set frame.registers v new) frame.slots
      by (Bits bits) is =
          let b : bits_at p.of_module from ≡ bits = bits_are p.of_module from bits (ap (kind_of p.of_module) equals ∙ is) in
          define_plain heap p table guarded log cells facts frame.registers frame.slots h v (Number bits None) new (λ d l s e. cc)
          (record {
            number = wrapped (bits_at p.of_module from) (float_word (bits_at p.of_module from) n);
            is = refl;
            fits = subst (λ z. wrapped (bits_at p.of_module from) (float_word (bits_at p.of_module from) n) < 2 ^ z) b (wrapped_fits (bits_at p.of_module from) (float_word (bits_at p.of_module from) n));
            under = tt;
          })
      by NoValue is = plain
      by (Reference layout) is = plain
      by AnyReference is = plain
      by AddressKind is = plain
      by Other is = plain

    constant_keeps : (v : ℕ) (x : Constant) → c.may_cast p table facts from to (operand.Constant x) ≡ true
        → (more : Cells) × Holds heap p table guarded log more (c.cast_constant p.of_module v from to x facts) (slice_set frame.registers v (constant_value p.of_module from x)) frame.slots
    constant_keeps v (constant.Number n) k19 = (cells, number_keeps v n (test_true from to (first_holds (from == to) k19)))
    constant_keeps v (constant.Float n) k19 = (cells, float_keeps v n (test_true from to (first_holds (from == to) k19)))
    constant_keeps v (constant.Truth b) k19 = (cells, define_plain heap p table guarded log cells facts frame.registers frame.slots h v Nothing value.Unset (λ d l s e. cc) tt)
    constant_keeps v constant.Null k19 = null_keeps v (c.layout_of_null (kind_of p.of_module from) (kind_of p.of_module to))

    constant_casts : (x : Constant) → o.constant_fits x (kind_of p.of_module from) ≡ true → c.may_cast p table facts from to (operand.Constant x) ≡ true → a.may_cast p from to (constant_value p.of_module from x) ≡ true
    constant_casts (constant.Number n) k2 e = chosen (from == to) false _ e (λ bad. absurd cc)
    constant_casts (constant.Float n) k2 e = chosen (from == to) false _ e (λ bad. absurd cc)
    constant_casts (constant.Truth b) k2 e = absurd cc
    constant_casts constant.Null k2 e = chosen (from == to) (c.casts_null p.of_module from to) _ e (null_casts p.of_module from to)

    constant_goes : (result : Option ℕ) (x : Constant) → o.constant_fits x (kind_of p.of_module from) ≡ true → c.may_cast p table facts from to (operand.Constant x) ≡ true
        → Goes heap p table frame.slots reaches guarded log (after_op p certs table result (op.Cast (bitcast from (operand.Constant x) to)) facts) (a.cast_of p f table frame.registers (bitcast from (operand.Constant x) to) None) (λ given. mc.set_register result (constant_value p.of_module from x) frame)
    constant_goes result x k2 k19 = goes_local heap p table frame.slots reaches guarded log _ _ _ (rw (constant_passes p.of_module from x k2, constant_casts x k2 k19) refl) (kept result) where
      kept : (result : Option ℕ) → (more : Cells) × Holds heap p table guarded log more (after_op p certs table result (op.Cast (bitcast from (operand.Constant x) to)) facts) (mc.set_register result (constant_value p.of_module from x) frame).registers (mc.set_register result (constant_value p.of_module from x) frame).slots
      kept None = (cells, h)
      kept (Some v) = constant_keeps v x k19

    -- ---- slots

    slot_goes : (result : Option ℕ) (u s : ℕ) → slot_of table u ≡ Some s → has_type p.of_module f from u ≡ true → c.may_cast p table facts from to (operand.Local u) ≡ true
        → Goes heap p table frame.slots reaches guarded log (after_op p certs table result (op.Cast (bitcast from (operand.Local u) to)) facts) (a.cast_of p f table frame.registers (bitcast from (operand.Local u) to) (slot_of table u)) (λ given. mc.cast_from result (register_at frame.registers u) (slot_of table u) frame)
    slot_goes result u s is k2 k19 =
        subst (λ x. Goes heap p table frame.slots reaches guarded log (after_op p certs table result (op.Cast (bitcast from (operand.Local u) to)) facts) (a.cast_of p f table frame.registers (bitcast from (operand.Local u) to) x) (λ given. mc.cast_from result (register_at frame.registers u) x frame)) (sym is)
        (goes_local heap p table frame.slots reaches guarded log _ _ _ (rw (k2, casts (held_type table s) (h.slot_types s) (rw is at k19)) refl) (kept result)) where
          casts : (held : Option ℕ) → FitsSlot heap p.of_module guarded log held (slot_layout table s) (slot_value frame.slots s) → ((from == to) || c.casts_slot (kind_held p.of_module held (slot_layout table s)) (place_kind p.of_module to)) ≡ true
              → a.may_cast_slot p.of_module (slot_layout table s) from to ≡ true
          casts None fits e = chosen (from == to) false _ e (λ bad. absurd cc)
          casts (Some held) fits e = chosen (from == to) (c.casts_slot (kind_held p.of_module (Some held) (slot_layout table s)) (place_kind p.of_module to)) _ e (held_casts p.of_module to held (slot_layout table s) fits.with_type)

          kept : (result : Option ℕ) → (more : Cells) × Holds heap p table guarded log more (after_op p certs table result (op.Cast (bitcast from (operand.Local u) to)) facts) frame.registers frame.slots
          kept None = (cells, h)
          kept (Some v) = rw is (cells, h)

    -- ---- values

    reference_casts : (layout : ℕ) (v : Value) → IsReferenceTo heap layout v → fits_layout layout (kind_of p.of_module to) ≡ true → a.may_cast_value p from to v ≡ true
    reference_casts layout value.Unset r e = absurd r
    reference_casts layout (value.Number n) r e = absurd r
    reference_casts layout value.Null r e = or_first (k.may_refer p.of_module to) _ (sym (refers_same p.of_module to) ∙ layout_refers p.of_module layout (kind_of p.of_module to) e)
    reference_casts layout (value.Cell own at) r e = part_refers p.of_module own to (subst (λ l. fits_layout l (kind_of p.of_module to) ≡ true) (sym r.0) e)
    reference_casts layout (value.Address at) r e = absurd r

    address_casts : (layout : ℕ) (words : WordSet) (base v : Value) → IsReferenceTo heap layout base → IsAddressOf p words base v → c.casts_words p.layouts layout words (place_kind p.of_module to) ≡ true → a.may_cast_value p from to v ≡ true
    address_casts layout words value.Unset v r is e = absurd r
    address_casts layout words (value.Number n) v r is e = absurd r
    address_casts layout words value.Null v r is e = ap (a.may_cast_value p from to) is ∙ sym (leads_same p.of_module to) ∙ (and_parts (may_be_reference (place_kind p.of_module to)) _ e).0
    address_casts layout words (value.Cell own at) v r is e =
        let b = and_parts (may_be_reference (place_kind p.of_module to)) (each_word (wanted_by_load (place_kind p.of_module to) (first_layout p.layouts layout words cell_words)) p.layouts layout words) e in
        let w = holds_as_asked heap p table guarded log cells facts frame.registers frame.slots fits h (wanted_by_load (place_kind p.of_module to) (first_layout p.layouts layout words cell_words)) layout is.0 words is.3 is.2 b.1 in
        ap (a.may_cast_value p from to) is.1 ∙ ap (λ l. k.may_cast_word p.of_module to (kind_of_word p.layouts l is.0)) r.0 ∙ word_casts p.of_module to (place_kind p.of_module to) (first_layout p.layouts layout words cell_words) (kind_of_word p.layouts layout is.0) refl w b.0
    address_casts layout words (value.Address at) v r is e = absurd r

    -- a global, as its word
    global_casts : (symbol : ℕ) (v : Value) → IsGlobal p.of_module symbol v → c.casts_global p.of_module to symbol ≡ true → a.may_cast_value p from to v ≡ true
    global_casts symbol v global e =
        ap (a.may_cast_value p from to) global.2 ∙ ap (k.may_cast_word p.of_module to) (sym (word_is p.of_module symbol global.0 global.1)) ∙ word_casts_to p.of_module to (global_word p.of_module symbol) e

    -- a number, to a type of as many bits
    number_casts : (bits : ℕ) → (is_bits bits (kind_of p.of_module from) && is_bits bits (kind_of p.of_module to)) ≡ true
        → (k.is_integer (slice_get p.of_module.types from) && (k.is_integer (slice_get p.of_module.types to) && (bits_at p.of_module from == bits_at p.of_module to))) ≡ true
    number_casts bits e =
        let m = p.of_module in
        let b = and_parts (is_bits bits (kind_of m from)) (is_bits bits (kind_of m to)) e in
        let one = bits_are_so bits (kind_of m from) b.0 in
        let other = bits_are_so bits (kind_of m to) b.1 in
        and_true (k.is_integer (slice_get m.types from)) (k.is_integer (slice_get m.types to) && (bits_at m from == bits_at m to)) (sym (integer_same m from) ∙ ap is_integer one)
        (and_true (k.is_integer (slice_get m.types to)) (bits_at m from == bits_at m to) (sym (integer_same m to) ∙ ap is_integer other)
        (test_yes (bits_at m from) (bits_at m to) (bits_are m from bits one ∙ sym (bits_are m to bits other))))

    known_casts : (known : Known) (v : Value) → Means heap p guarded log cells (length facts.classes) frame.registers known v → o.is_known facts known ≡ true → c.casts_known p facts from to known ≡ true → a.may_cast_value p from to v ≡ true
    known_casts Nothing v means is e = absurd cc
    known_casts (Number bits below) v means is e = ap (a.may_cast_value p from to) means.is ∙ or_first _ (k.is_pointer_type (slice_get p.of_module.types from) && k.is_pointer_type (slice_get p.of_module.types to)) (number_casts bits e)
    known_casts (Cell d l s) v means is e = reference_casts l v means.refers e
    known_casts Null v means is e = ap (a.may_cast_value p from to) means ∙ or_first (k.may_refer p.of_module to) _ (sym (refers_same p.of_module to) ∙ e)
    known_casts (Address base words) v means is e =
        let b = base_is heap p certs reaches f table guarded log cells facts frame h base (known_at facts.values base) refl is in
        let member = known_within heap p table guarded log cells facts frame.registers frame.slots h base b.0 b.1 b.2 b.3 in
        address_casts b.1 words (register_at frame.registers base) v member.refers means (subst (λ x. c.casts_base p to words x ≡ true) b.3 e)
    known_casts (GlobalAddress symbol) v means is e = global_casts symbol v means e

    -- a value under another name
    module _ (u v : ℕ) (other : u ≢ v) where
      is_off : known_at (values_without v facts.values) u ≡ off_base v (known_at facts.values u)
      is_off = at_other (map (off_base v) facts.values) v u Nothing Nothing (λ e. other (sym e)) ∙ at_map (off_base v) facts.values u Nothing refl

      beside : Beside cells (forget v facts) frame.slots (off_base v (known_at facts.values u))
      beside = record {
        fresh_here = λ d l s e fr w b m is ne. h.alone u w d b l m s (off_cell v (known_at facts.values u) d l s e) (forget_cell v facts.values w b m false is) fr ne;
        fresh_there = λ b m e w d l s is fr ne. h.alone w u d b l m s (forget_cell v facts.values w d l s is) (off_cell v (known_at facts.values u) b m false e) fr ne;
        fresh_slots = λ d l s e fr t out. h.alone_in_slots u t d l s (off_cell v (known_at facts.values u) d l s e) fr
            (without_same (known_at facts.values v) (values_without v facts.values) facts.classes facts.slots t u d l s (is_off ∙ e) out);
      }

      copy_keeps : Holds heap p table guarded log cells (define v (off_base v (known_at facts.values u)) facts) (slice_set frame.registers v (register_at frame.registers u)) frame.slots
      copy_keeps = define_keeps heap p table guarded log cells facts frame.registers frame.slots h v (off_base v (known_at facts.values u)) (register_at frame.registers u)
          (means_without heap p table guarded log cells (length facts.classes) frame.registers v (register_at frame.registers u) (known_at facts.values u) (register_at frame.registers u) (h.values u)) beside

    -- a value that the rules let be cast
    value_casts : (u : ℕ) → slot_of table u ≡ None → o.is_available table facts (operand.Local u) ≡ true → c.may_cast p table facts from to (operand.Local u) ≡ true → ((from == to) || a.may_cast_value p from to (register_at frame.registers u)) ≡ true
    value_casts u none k1 k19 =
        chosen (from == to) (c.casts_known p facts from to (known_at facts.values u)) _ (rw none at k19) (known_casts (known_at facts.values u) (register_at frame.registers u) (h.values u) (available heap p certs reaches f table guarded log cells facts frame h u none k1))

    value_goes : (result : Option ℕ) (u : ℕ) → slot_of table u ≡ None → o.is_available table facts (operand.Local u) ≡ true → has_type p.of_module f from u ≡ true → ((from == to) || a.may_cast_value p from to (register_at frame.registers u)) ≡ true
        → Goes heap p table frame.slots reaches guarded log (after_op p certs table result (op.Cast (bitcast from (operand.Local u) to)) facts) (a.cast_of p f table frame.registers (bitcast from (operand.Local u) to) (slot_of table u)) (λ given. mc.cast_from result (register_at frame.registers u) (slot_of table u) frame)
    value_goes result u none k1 k2 casts =
        subst (λ x. Goes heap p table frame.slots reaches guarded log (after_op p certs table result (op.Cast (bitcast from (operand.Local u) to)) facts) (a.cast_of p f table frame.registers (bitcast from (operand.Local u) to) x) (λ given. mc.cast_from result (register_at frame.registers u) x frame)) (sym none)
        (goes_local heap p table frame.slots reaches guarded log _ _ _ (rw (k2, none, set, casts) refl) (kept result)) where
          known : o.is_known facts (known_at facts.values u) ≡ true
          known = available heap p certs reaches f table guarded log cells facts frame h u none k1

          set : k.is_set (register_at frame.registers u) ≡ true
          set = known_set heap p certs reaches f table guarded log cells facts frame h (known_at facts.values u) (register_at frame.registers u) (h.values u) known

          -- what is named as itself stays
          named_so : (v : ℕ) (b : Bool) → (u == v) ≡ b → Holds heap p table guarded log cells (if b then facts else define v (off_base v (known_at facts.values u)) facts) (slice_set frame.registers v (register_at frame.registers u)) frame.slots
          named_so v true e = subst (λ w. Holds heap p table guarded log cells facts (slice_set frame.registers w (register_at frame.registers u)) frame.slots) (test_true u v e)
              (subst (λ xs. Holds heap p table guarded log cells facts xs frame.slots) (sym (same_written frame.registers u value.Unset)) h)
          named_so v false e = copy_keeps u v (test_false u v e)

          kept : (result : Option ℕ) → (more : Cells) × Holds heap p table guarded log more (after_op p certs table result (op.Cast (bitcast from (operand.Local u) to)) facts) (mc.set_register result (register_at frame.registers u) frame).registers (mc.set_register result (register_at frame.registers u) frame).slots
          kept None = (cells, h)
          kept (Some v) = rw none (cells, named_so v (u == v) refl)

    -- ---- globals

    -- a global as an operand
    global_goes : (result : Option ℕ) (x : Operand) (symbol : ℕ) (next : Option ℕ → FactSet) → next None ≡ facts → ((v : ℕ) → next (Some v) ≡ define v (GlobalAddress symbol) facts)
        → k.is_typed p.of_module f table from x ≡ true → IsGlobal p.of_module symbol (value_of p.of_module frame.registers from x) → ((from == to) || c.casts_global p.of_module to symbol) ≡ true
        → Goes heap p table frame.slots reaches guarded log (next result) (a.cast_of p f table frame.registers (bitcast from x to) None) (λ given. mc.set_register result (value_of p.of_module frame.registers from x) frame)
    global_goes result x symbol next none some typed global k19 = goes_local heap p table frame.slots reaches guarded log _ _ _ (rw (typed, ap k.is_set global.2, casts) refl) (kept result) where
      new : Value
      new = value_of p.of_module frame.registers from x

      casts : ((from == to) || a.may_cast_value p from to (value_of p.of_module frame.registers from x)) ≡ true
      casts = chosen (from == to) (c.casts_global p.of_module to symbol) _ k19 (global_casts symbol (value_of p.of_module frame.registers from x) global)

      kept : (result : Option ℕ) → (more : Cells) × Holds heap p table guarded log more (next result) (mc.set_register result new frame).registers (mc.set_register result new frame).slots
      kept None = (cells, subst (λ y. Holds heap p table guarded log cells y frame.registers frame.slots) (sym none) h)
      kept (Some v) = (
        cells,
        subst (λ y. Holds heap p table guarded log cells y (slice_set frame.registers v new) frame.slots) (sym (some v))
            (define_plain heap p table guarded log cells facts frame.registers frame.slots h v (GlobalAddress symbol) new (λ d l s e. cc) global),
      )

    -- ---- addresses outside

    -- of a pointer type, to a pointer type
    outside_casts : (x : Operand) → IsOutside heap p f table guarded log cells facts frame.registers frame.slots h from x → ((from == to) || is_pointer (kind_of p.of_module to)) ≡ true → ((from == to) || a.may_cast_value p from to (value_of p.of_module frame.registers from x)) ≡ true
    outside_casts x i e =
        let m = p.of_module in
        let pointers : is_pointer (kind_of m to) ≡ true → a.may_cast_value p from to (value_of m frame.registers from x) ≡ true = λ z. ap (a.may_cast_value p from to) i.number.is
        ∙ or_second (k.is_integer (slice_get m.types from) && (k.is_integer (slice_get m.types to) && (bits_at m from == bits_at m to))) _
        (and_true (k.is_pointer_type (slice_get m.types from)) (k.is_pointer_type (slice_get m.types to)) (sym (pointer_type_same m from) ∙ i.pointer) (sym (pointer_type_same m to) ∙ z)) in
        chosen (from == to) (is_pointer (kind_of m to)) _ e pointers

    -- a name of something outside
    outside_name_goes : (result : Option ℕ) (x : Operand) (next : Option ℕ → FactSet) → (i : IsOutside heap p f table guarded log cells facts frame.registers frame.slots h from x) → next None ≡ facts → ((v : ℕ) → next (Some v) ≡ define v (o.known_in p.of_module facts x) facts)
        → ((from == to) || is_pointer (kind_of p.of_module to)) ≡ true
        → Goes heap p table frame.slots reaches guarded log (next result) (a.cast_of p f table frame.registers (bitcast from x to) None) (λ given. mc.set_register result (value_of p.of_module frame.registers from x) frame)
    outside_name_goes result x next i none some e = goes_local heap p table frame.slots reaches guarded log _ _ _ (rw (i.typed, ap k.is_set i.number.is, outside_casts x i e) refl) (kept result) where
      new : Value
      new = value_of p.of_module frame.registers from x

      kept : (result : Option ℕ) → (more : Cells) × Holds heap p table guarded log more (next result) (mc.set_register result new frame).registers (mc.set_register result new frame).slots
      kept None = (cells, subst (λ y. Holds heap p table guarded log cells y frame.registers frame.slots) (sym none) h)
      kept (Some v) = (
        cells,
        subst (λ y. Holds heap p table guarded log cells y (slice_set frame.registers v new) frame.slots) (sym (some v ∙ ap (λ known. define v known facts) i.known))
            (define_plain heap p table guarded log cells facts frame.registers frame.slots h v (Number 64 i.below) new (λ d l s e. cc) i.number),
      )

    -- the rules let it be cast to its own type, or to a pointer type
    outside_to : (x : Operand) → IsOutside heap p f table guarded log cells facts frame.registers frame.slots h from x → (c.may_cast p table facts from to x || casts_outside p.of_module f table facts from to x) ≡ true → ((from == to) || is_pointer (kind_of p.of_module to)) ≡ true
    outside_to x i e = by (or_parts (c.may_cast p table facts from to x) (casts_outside p.of_module f table facts from to x) e) where
      no_bits : (bits : ℕ) (kind : TypeKind) → is_pointer kind ≡ true → is_bits bits kind ≡ true → ⊥
      no_bits bits NoValue q z = absurd cc
      no_bits bits (Bits n) q z = absurd cc
      no_bits bits (Reference l) q z = absurd cc
      no_bits bits AnyReference q z = absurd cc
      no_bits bits AddressKind q z = absurd cc
      no_bits bits Other q z = absurd cc

      own : (other : Bool) → (other ≡ true → ⊥) → ((from == to) || other) ≡ true → ((from == to) || is_pointer (kind_of p.of_module to)) ≡ true
      own other never z = chosen (from == to) other _ z (λ y. absurd (never y))

      named : (symbol : ℕ) → o.known_in p.of_module facts (operand.Global symbol) ≡ Number 64 i.below → c.casts_global p.of_module to symbol ≡ true → ⊥
      named symbol known z = pick (is_outside p.of_module symbol) refl known where
        pick : (b : Bool) → is_outside p.of_module symbol ≡ b → (if b then o.outside_known else GlobalAddress symbol) ≡ Number 64 i.below → ⊥
        pick true is y = let w = ap (λ q. c.casts_to (layout_of_word q) (place_kind p.of_module to)) (sym (no_word p.of_module symbol is)) ∙ z in absurd cc
        pick false is y = absurd cc

      cast_as : (x : Operand) → o.slot_named table x ≡ None → o.known_in p.of_module facts x ≡ Number 64 i.below → c.may_cast p table facts from to x ≡ true → ((from == to) || is_pointer (kind_of p.of_module to)) ≡ true
      cast_as (operand.Constant d) none known z = absurd cc
      cast_as (operand.Local u) none known z =
          own (c.casts_known p facts from to (known_at facts.values u)) (λ y. no_bits 64 (kind_of p.of_module from) i.pointer (and_parts (is_bits 64 (kind_of p.of_module from)) (is_bits 64 (kind_of p.of_module to)) (ap (c.casts_known p facts from to) (sym known) ∙ y)).0) (rw none at z)
      cast_as (operand.Global symbol) none known z = own (c.casts_global p.of_module to symbol) (named symbol known) z
      cast_as (operand.CastGlobal own_type symbol other) none known z = own (c.casts_global p.of_module to symbol) (named symbol known) z

      by : (c.may_cast p table facts from to x ≡ true) ⊎ (casts_outside p.of_module f table facts from to x ≡ true) → ((from == to) || is_pointer (kind_of p.of_module to)) ≡ true
      by (inl z) = cast_as x i.no_slot i.known z
      by (inr z) = or_second (from == to) (is_pointer (kind_of p.of_module to)) (and_parts (o.is_outside_value p.of_module f table facts from x) (is_pointer (kind_of p.of_module to)) z).1

    -- an address outside
    outside_goes : (result : Option ℕ) (x : Operand) → o.is_available table facts x ≡ true → IsOutside heap p f table guarded log cells facts frame.registers frame.slots h from x → ((from == to) || is_pointer (kind_of p.of_module to)) ≡ true
        → OpGoes heap p certs reaches f table guarded log facts frame result (op.Cast (bitcast from x to))
    outside_goes result (operand.Constant d) k1 i e = absurd (let z = i.known in cc)
    outside_goes result (operand.Local u) k1 i e = value_goes result u i.no_slot k1 (and_parts (has_type p.of_module f from u) _ i.typed).0 (outside_casts (operand.Local u) i e)
    outside_goes result (operand.Global symbol) k1 i e = outside_name_goes result (operand.Global symbol) (λ name. after_op p certs table name (op.Cast (bitcast from (operand.Global symbol) to)) facts) i refl (λ v. refl) e
    outside_goes result (operand.CastGlobal own symbol other) k1 i e =
        outside_name_goes result (operand.CastGlobal own symbol other) (λ name. after_op p certs table name (op.Cast (bitcast from (operand.CastGlobal own symbol other) to)) facts) i refl (λ v. refl) e

  -- ---- by the conditions

  -- a bitcast whose conditions hold goes: of a constant, of a slot, or of a value
  cast_by : (fits : IsHeapFor heap p) (here : InstrContext) (result : Option ℕ) (from : ℕ) (x : Operand) (to : ℕ) → first_failing (cast_conditions p f table here facts (bitcast from x to)) ≡ None
      → OpGoes heap p certs reaches f table guarded log facts frame result (op.Cast (bitcast from x to))
  cast_by fits here result from x to e =
      let all = rules_hold (cast_conditions p f table here facts (bitcast from x to)) e in
      let may = c.may_cast p table facts from to x || casts_outside p.of_module f table facts from to x in
      let k19 = and_parts (c.casts_operand p.of_module x) may (all K19) in
      by_outside (o.is_outside_value p.of_module f table facts from x) refl (all K1) (all K2) k19.0 k19.1 where
        of_name : (u : ℕ) → o.is_available table facts (operand.Local u) ≡ true → has_type p.of_module f from u ≡ true → c.may_cast p table facts from to (operand.Local u) ≡ true → (slot : Option ℕ) → slot_of table u ≡ slot
            → OpGoes heap p certs reaches f table guarded log facts frame result (op.Cast (bitcast from (operand.Local u) to))
        of_name u k1 k2 k19 None none = value_goes fits from to result u none k1 k2 (value_casts fits from to u none k1 k19)
        of_name u k1 k2 k19 (Some s) is = slot_goes fits from to result u s is k2 k19

        by : (x : Operand) → o.is_available table facts x ≡ true → o.is_typed p.of_module f from x ≡ true → c.casts_operand p.of_module x ≡ true → c.may_cast p table facts from to x ≡ true → OpGoes heap p certs reaches f table guarded log facts frame result (op.Cast (bitcast from x to))
        by (operand.Constant d) k1 k2 casts k19 = constant_goes fits from to result d k2 k19
        by (operand.Local u) k1 k2 casts k19 = of_name u k1 k2 k19 (slot_of table u) refl
        by (operand.Global symbol) k1 k2 casts k19 =
            global_goes fits from to result (operand.Global symbol) symbol (λ name. after_op p certs table name (op.Cast (bitcast from (operand.Global symbol) to)) facts) refl
            (λ v. ap (λ b. define v (if b then o.outside_known else GlobalAddress symbol) facts) (is_inside p.of_module from symbol k2))
            (typed_so p f table from (operand.Global symbol) k2 casts refl) (operand_means heap p certs reaches f table guarded log fits cells facts frame h from (operand.Global symbol) k2) k19
        by (operand.CastGlobal own symbol other) k1 k2 casts k19 =
            global_goes fits from to result (operand.CastGlobal own symbol other) symbol (λ name. after_op p certs table name (op.Cast (bitcast from (operand.CastGlobal own symbol other) to)) facts) refl
            (λ v. ap (λ b. define v (if b then o.outside_known else GlobalAddress symbol) facts) (is_inside p.of_module own symbol (and_parts (from == other) (points_to_global p.of_module own symbol) k2).1))
            (typed_so p f table from (operand.CastGlobal own symbol other) k2 casts refl) (operand_means heap p certs reaches f table guarded log fits cells facts frame h from (operand.CastGlobal own symbol other) k2)
            k19

        by_outside : (outside : Bool) → o.is_outside_value p.of_module f table facts from x ≡ outside → o.is_available table facts x ≡ true → (o.is_typed p.of_module f from x || outside) ≡ true → c.casts_operand p.of_module x ≡ true → (c.may_cast p table facts from to x || (outside && is_pointer (kind_of p.of_module to))) ≡ true
            → OpGoes heap p certs reaches f table guarded log facts frame result (op.Cast (bitcast from x to))
        by_outside true is k1 k2 casts k19 =
            let i = outside_is heap p f table guarded log cells facts frame.registers frame.slots h from x is in
            outside_goes fits from to result x k1 i (outside_to fits from to x i (ap (λ b. c.may_cast p table facts from to x || (b && is_pointer (kind_of p.of_module to))) is ∙ k19))
        by_outside false is k1 k2 casts k19 = by x k1 (sym (or_false (o.is_typed p.of_module f from x)) ∙ k2) casts (sym (or_false (c.may_cast p table facts from to x)) ∙ k19)

  pub cast_goes : (fits : IsHeapFor heap p) (here : InstrContext) (result : Option ℕ) (x : Cast) → first_failing (cast_conditions p f table here facts x) ≡ None → OpGoes heap p certs reaches f table guarded log facts frame result (op.Cast x)
  cast_goes fits here result x e = cast_by fits here result x.from x.operand x.to e
