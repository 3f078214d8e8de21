-- Loads from slots, and stores to slots.
use Rattle.std.proofs.Common.{◌≡◌, ◌≢◌, ℕ, ◌<◌, List, length, refl, sym, ap, ◌∙◌, subst, arith, true, false, Bool, Option, Some, None, inl, inr, slice_set}
use Rattle.std.specs.Prelude.{◌==◌, ◌||◌, ◌&&◌, not}
use Rattle.std.proofs.lemmas.List.{length-set}
use Rattle.lemmas.specs.Numbers.{test_true, test_yes}
use Rattle.lemmas.specs.Bools.{and_parts, or_second, or_first}
use Rattle.ir_ast.specs.declared.function.Function.{Function}
use Rattle.ir_ast.specs.declared.memory.MemoryOp.TheVariants as memory
use Rattle.ir_ast.specs.declared.operand.Constant.TheVariants as constant
use Rattle.ir_ast.specs.declared.operand.Operand.{Operand}
use Rattle.ir_ast.specs.declared.operand.Operand.TheVariants as operand
use Rattle.pools.specs.Heap.{Setup}
use Rattle.layout.specs.Layouts.{LaidOut}
use Rattle.types.specs.References.{is_opaque}
use Rattle.types.specs.ValueTypes.{has_type}
use Rattle.shadow_stack.specs.Slots.{SlotTable, slot_of, held_type, slot_layout, is_reference_held}
use Rattle.certs.specs.declared.section.Section.{Section}
use Rattle.fact_tables.specs.declared.known.Class.{Class}
use Rattle.fact_tables.specs.declared.known.Known.{Known}
use Rattle.fact_tables.specs.declared.known.Known.TheVariants.{Nothing, Number, Cell, Null, Address, GlobalAddress}
use Rattle.fact_tables.specs.Rows.{known_at, slot_at, class_at, lost_class, holds_class}
use Rattle.facts.specs.Facts.{FactSet, forget, set_known, add_class, load_held, load_slot, hold, store_slot}
use Rattle.type_kinds.specs.declared.type_kind.TypeKind.{TypeKind}
use Rattle.type_kinds.specs.declared.type_kind.TypeKind.TheVariants.{NoValue, Bits, Reference, AnyReference, Address as AddressKind, Other}
use Rattle.block_rules.specs.Operands as o
use Rattle.block_rules.specs.Places as r
use Rattle.block_rules.specs.Rules.{after_memory}
use Rattle.type_kinds.specs.TypeKinds.{kind_of, kind_held, is_integer, is_any_reference}
use Rattle.machine.specs.declared.value.Value.{Value}
use Rattle.machine.specs.declared.value.Value.TheVariants as value
use Rattle.machine.specs.declared.frame.Frame.{Frame}
use Rattle.machine.specs.Asks as a
use Rattle.machine.specs.Kinds as k
use Rattle.machine.specs.Kinds.{register_at, value_of, fits_layout_of}
use Rattle.machine.specs.Machine as mc
use Rattle.machine.specs.Machine.{slot_value}
use Rattle.machine.specs.Log.{Log}
use Rattle.soundness.specs.Meaning.{Cells, Guarded, IsReferenceTo, IsOwn, IsInteger, IsMember, AreApart, Means, GoesWithType, FitsHeld, FitsSlot, Holds}
use Rattle.soundness.proofs.Lists.{turned, got_set, longer, at_end}
use Rattle.soundness.proofs.KindLemmas.{integer_same, integer_bits, bytes_same, bits_are}
use Rattle.soundness.proofs.SameKinds.{no_reference}
use Rattle.soundness.proofs.Roots.{reference_no_integer}
use Rattle.soundness.proofs.Keep.{forget_keeps, put_keeps}
use Rattle.soundness.proofs.Change.{apart_turned, extend, extend_new, define_plain, learn_keeps, add_keeps}
use Rattle.soundness.proofs.SlotsKeep.{other_class, Fits, slot_keeps, fact_keeps}
use Rattle.soundness.specs.Goes.{Goes, IsNamed, HasMember, HaveMembers}
use Rattle.soundness.proofs.Steps.{goes_local, no_value, usable, integer_is, available}

-- a place that the rules take for a slot is that slot
module _ (p : LaidOut) (f : Function) (table : SlotTable) where
  -- by its written type
  pub place_is : (written v s : ℕ) → has_type p.of_module f written v ≡ true → slot_of table v ≡ Some s → k.slot_at_place p.of_module f table written (operand.Local v) ≡ Some s
  place_is written v s k2 is = rw k2 is

  -- a type under which a slot is stored to
  moves_is : (written held : ℕ) (layout : Option ℕ) → GoesWithType p.of_module held layout → r.moves_kind (written == held) (kind_of p.of_module written) (kind_held p.of_module (Some held) layout) ≡ true → a.is_slot_type p.of_module layout held written ≡ true
  moves_is written held (Some layout) goes e = pick (written == held) refl e where
    pick : (b : Bool) → (written == held) ≡ b → (b || is_any_reference (kind_of p.of_module written)) ≡ true → a.is_slot_type p.of_module (Some layout) held written ≡ true
    pick true same e = or_first (held == written) (k.is_byte_pointer p.of_module written) (turned written held same)
    pick false same e = or_second (held == written) (k.is_byte_pointer p.of_module written) (sym (bytes_same p.of_module written) ∙ e)
  moves_is written held None goes e = by (kind_of p.of_module held) refl e where
    by : (x : TypeKind) → kind_of p.of_module held ≡ x → r.moves_kind (written == held) (kind_of p.of_module written) x ≡ true → a.is_slot_type p.of_module None held written ≡ true
    by NoValue is e = absurd cc
    by (Bits bits) is e = or_first (held == written) false (turned written held e)
    by (Reference layout) is e = absurd (no_reference p.of_module held layout goes is)
    by AnyReference is e = absurd cc
    by AddressKind is e = absurd cc
    by Other is e = absurd cc

  -- a type under which a slot is loaded: its own, or i8*
  pub loaded_as : (written : ℕ) (held : Option ℕ) → r.loads_slot p.of_module written held ≡ true → a.is_loaded_as p.of_module held written ≡ true
  loaded_as written None e = absurd cc
  loaded_as written (Some held) e = pick (written == held) refl e where
    pick : (b : Bool) → (written == held) ≡ b → (b || (is_any_reference (kind_of p.of_module written) && not (is_opaque p.of_module written))) ≡ true → a.is_loaded_as p.of_module (Some held) written ≡ true
    pick true same e = or_first (held == written) (k.is_byte_pointer p.of_module written && not (is_opaque p.of_module written)) (turned written held same)
    pick false same e =
        or_second (held == written) (k.is_byte_pointer p.of_module written && not (is_opaque p.of_module written))
        (subst (λ b. (b && not (is_opaque p.of_module written)) ≡ true) (bytes_same p.of_module written) e)

module _ (heap : Setup) (p : LaidOut) (certs : List Section) (reaches : Bool) (f : Function) (table : SlotTable) (guarded : Guarded) (log : Log) (cells : Cells) (facts : FactSet) (frame : Frame) (h : Holds heap p table guarded log cells facts frame.registers frame.slots) where
  -- ---- loads

  -- the reference in a slot is of the class that the slot holds, or of a new one
  module _ (v s layout : ℕ) (members : HaveMembers (forget v facts)) (refers : IsReferenceTo heap layout (slot_value frame.slots s)) (own : IsOwn log guarded (slot_value frame.slots s)) where
    abbrev new : Value
    new = slot_value frame.slots s

    abbrev rest : FactSet
    rest = forget v facts

    abbrev there : List Value
    there = slice_set frame.registers v new

    kept : Holds heap p table guarded log cells rest there frame.slots
    kept = forget_keeps heap p table guarded log cells facts frame.registers frame.slots v new h

    here : v < length there → register_at there v ≡ new
    here lt = got_set frame.registers v new value.Unset (omega (arith, lt, length-set frame.registers v new))

    joins : (c : ℕ) → (slot_at rest.slots s).holds ≡ Some c → Holds heap p table guarded log cells (set_known v (Cell c layout false) rest) there frame.slots
    joins c is = put_keeps heap p table guarded log cells rest there frame.slots kept v (Cell c layout false)
        (λ lt. subst (IsMember heap guarded log cells (length rest.classes) c layout false) (sym (here lt)) (record { is = held.0; within = held.1; refers = refers; own = λ e. own }))
        (record {
          fresh_here = λ d l st e fr w b m is2 ne. let same : c ≡ d = cc in let u = named d same fr in kept.alone u.0 w d b u.1 m u.2 u.3 is2 fr ne;
          fresh_there = λ b m e w d l st is2 fr ne. let same : c ≡ b = cc in
              subst (AreApart (cells d)) (held.0 ∙ ap cells same) (kept.alone_in_slots w s d l st is2 fr (ap (holds_class d) is ∙ other_class c d (λ z. ne (sym z ∙ same))));
          fresh_slots = λ d l st e fr t out. let same : c ≡ d = cc in let u = named d same fr in kept.alone_in_slots u.0 t d u.1 u.2 u.3 fr out;
        }) where
          held : (new ≡ cells c) × (c < length rest.classes)
          held = (kept.slot_facts s).holds c is

          -- a fresh class is that of a value
          named : (d : ℕ) → c ≡ d → (class_at rest.classes d).fresh ≡ true → IsNamed rest.values d
          named d same fr = by (members.0 s d (is ∙ ap Some same)) where
            by : HasMember rest d → IsNamed rest.values d
            by (inl m) = m
            by (inr n) = absurd (let x = sym fr ∙ n.1 in cc)

    -- the class of a slot that holds none
    abbrev class_of : (nonnull : Bool) → Class
    class_of nonnull = record { nonnull = nonnull; fresh = false }

    abbrev more : Cells
    more = extend cells (length rest.classes) new

    begins : (nonnull : Bool) → (nonnull ≡ true → new ≢ value.Null) → Holds heap p table guarded log more (add_class (class_of nonnull) rest) there frame.slots
    begins nonnull known = add_keeps heap p table guarded log cells rest there frame.slots kept (class_of nonnull) new (record { nonnull = known; fresh = λ z. absurd cc })

    no_fresh : (nonnull : Bool) → (class_at (add_class (class_of nonnull) rest).classes (length rest.classes)).fresh ≡ true → ⊥
    no_fresh nonnull z = let e = sym (ap (λ x. x.fresh) (at_end rest.classes (class_of nonnull) lost_class)) ∙ z in absurd cc

    named_so : (nonnull : Bool) → (nonnull ≡ true → new ≢ value.Null) → (slot_at rest.slots s).holds ≡ None → Holds heap p table guarded log more (set_known v (Cell (length rest.classes) layout false) (add_class (class_of nonnull) rest)) there frame.slots
    named_so nonnull known is = put_keeps heap p table guarded log more (add_class (class_of nonnull) rest) there frame.slots (begins nonnull known) v (Cell (length rest.classes) layout false)
        (λ lt. subst (IsMember heap guarded log more (length (add_class (class_of nonnull) rest).classes) (length rest.classes) layout false) (sym (here lt))
        (record { is = sym (extend_new cells (length rest.classes) new); within = omega (arith, longer rest.classes (class_of nonnull)); refers = refers; own = λ e. own }))
        (record {
          fresh_here = λ d l st e fr. let same : length rest.classes ≡ d = cc in absurd (no_fresh nonnull (subst (λ x. (class_at (add_class (class_of nonnull) rest).classes x).fresh ≡ true) (sym same) fr));
          fresh_there = λ b m e w d l st is2 fr ne. let same : length rest.classes ≡ b = cc in
              subst (AreApart (more d)) (sym (extend_new cells (length rest.classes) new) ∙ ap more same) ((begins nonnull known).alone_in_slots w s d l st is2 fr (ap (holds_class d) is));
          fresh_slots = λ d l st e fr. let same : length rest.classes ≡ d = cc in absurd (no_fresh nonnull (subst (λ x. (class_at (add_class (class_of nonnull) rest).classes x).fresh ≡ true) (sym same) fr));
        })

    held_so : (nonnull : Bool) → (nonnull ≡ true → new ≢ value.Null) → (slot_at rest.slots s).holds ≡ None
        → Holds heap p table guarded log more (hold s (length rest.classes) (set_known v (Cell (length rest.classes) layout false) (add_class (class_of nonnull) rest))) there frame.slots
    held_so nonnull known is = fact_keeps heap p table guarded log more (set_known v (Cell (length rest.classes) layout false) (add_class (class_of nonnull) rest)) there frame.slots (named_so nonnull known is) s _ (record {
      means = record {
        nonnull = λ z w. ((named_so nonnull known is).classes (length rest.classes)).nonnull z (extend_new cells (length rest.classes) new ∙ w);
        holds = λ c e. let same : length rest.classes ≡ c = cc in (sym (extend_new cells (length rest.classes) new) ∙ ap more same, omega (arith, same, longer rest.classes (class_of nonnull)));
      };
      apart = λ w d l st is2 fr out. (named_so nonnull known is).alone_in_slots w s d l st is2 fr (ap (holds_class d) is);
    })

    pub reference_loaded : (more : Cells) × Holds heap p table guarded log more (load_slot v s layout facts) there frame.slots
    reference_loaded = by (slot_at rest.slots s).holds refl where
      nonnull : Bool
      nonnull = (slot_at rest.slots s).nonnull

      by : (holds : Option ℕ) → (slot_at rest.slots s).holds ≡ holds → (more : Cells) × Holds heap p table guarded log more (load_held v s layout nonnull holds rest) there frame.slots
      by (Some c) is = (cells, learn_keeps heap p table guarded log cells (set_known v (Cell c layout false) rest) there frame.slots (joins c is) c nonnull (λ z w. (kept.slot_facts s).nonnull z (((kept.slot_facts s).holds c is).0 ∙ w)))
      by None is = (more, held_so nonnull (kept.slot_facts s).nonnull is)

  -- what a slot without a layout holds, under its new name
  load_of_kind : (v s held : ℕ) (x : TypeKind) → kind_of p.of_module held ≡ x → HaveMembers (forget v facts) → FitsHeld heap p.of_module guarded log held None (slot_value frame.slots s)
      → (more : Cells) × Holds heap p table guarded log more (r.load_kind v s x facts) (slice_set frame.registers v (slot_value frame.slots s)) frame.slots
  load_of_kind v s held (Bits bits) is members fits =
      let i = fits.integer (sym (integer_same p.of_module held) ∙ ap is_integer is) in (
        cells,
        define_plain heap p table guarded log cells facts frame.registers frame.slots h v (Number bits None) (slot_value frame.slots s) (λ d l st e. cc)
            (subst (λ b. IsInteger b None (slot_value frame.slots s)) (bits_are p.of_module held bits is) i),
      )
  load_of_kind v s held (Reference layout) is members fits = absurd (no_reference p.of_module held layout fits.with_type is)
  load_of_kind v s held NoValue is members fits = (cells, define_plain heap p table guarded log cells facts frame.registers frame.slots h v Nothing (slot_value frame.slots s) (λ d l st e. cc) tt)
  load_of_kind v s held AnyReference is members fits = (cells, define_plain heap p table guarded log cells facts frame.registers frame.slots h v Nothing (slot_value frame.slots s) (λ d l st e. cc) tt)
  load_of_kind v s held AddressKind is members fits = (cells, define_plain heap p table guarded log cells facts frame.registers frame.slots h v Nothing (slot_value frame.slots s) (λ d l st e. cc) tt)
  load_of_kind v s held Other is members fits = (cells, define_plain heap p table guarded log cells facts frame.registers frame.slots h v Nothing (slot_value frame.slots s) (λ d l st e. cc) tt)

  -- by its type and its layout
  load_of_type : (v s : ℕ) (held layout : Option ℕ) → HaveMembers (forget v facts) → FitsSlot heap p.of_module guarded log held layout (slot_value frame.slots s)
      → (more : Cells) × Holds heap p table guarded log more (r.load_kind v s (kind_held p.of_module held layout) facts) (slice_set frame.registers v (slot_value frame.slots s)) frame.slots
  load_of_type v s None layout members fits = (cells, define_plain heap p table guarded log cells facts frame.registers frame.slots h v Nothing (slot_value frame.slots s) (λ d l st e. cc) tt)
  load_of_type v s (Some held) None members fits = load_of_kind v s held (kind_of p.of_module held) refl members fits
  load_of_type v s (Some held) (Some layout) members fits =
      let q = fits.reference (reference_no_integer p.of_module held fits.with_type) in
      reference_loaded v s layout members q.0 q.1

  -- a load from a slot
  pub slot_load_goes : (result : Option ℕ) (loaded place_type u s : ℕ) → ((v : ℕ) → result ≡ Some v → HaveMembers (forget v facts)) → slot_of table u ≡ Some s → has_type p.of_module f place_type u ≡ true → r.loads_slot p.of_module loaded (held_type table s) ≡ true
      → Goes heap p table frame.slots reaches guarded log (after_memory p table result (memory.Load loaded place_type (operand.Local u)) facts)
      (a.load_action p table loaded (k.slot_at_place p.of_module f table place_type (operand.Local u)) (k.address_at_place p.of_module f table frame.registers place_type (operand.Local u)))
      (λ given. mc.set_register result (mc.loaded_from p frame.slots (k.slot_at_place p.of_module f table place_type (operand.Local u)) (k.address_at_place p.of_module f table frame.registers place_type (operand.Local u)) given) frame)
  slot_load_goes result loaded place_type u s members is k2 loads =
      subst (λ x. Goes heap p table frame.slots reaches guarded log (after_memory p table result (memory.Load loaded place_type (operand.Local u)) facts)
      (a.load_action p table loaded x (k.address_at_place p.of_module f table frame.registers place_type (operand.Local u)))
      (λ given. mc.set_register result (mc.loaded_from p frame.slots x (k.address_at_place p.of_module f table frame.registers place_type (operand.Local u)) given) frame))
      (sym (place_is p f table place_type u s k2 is))
      (goes_local heap p table frame.slots reaches guarded log _ _ _ (rw (loaded_as p f table loaded (held_type table s) loads) refl) (loaded_keeps result members)) where
        loaded_keeps : (result : Option ℕ) → ((v : ℕ) → result ≡ Some v → HaveMembers (forget v facts))
            → (more : Cells) × Holds heap p table guarded log more (after_memory p table result (memory.Load loaded place_type (operand.Local u)) facts) (mc.set_register result (slot_value frame.slots s) frame).registers (mc.set_register result (slot_value frame.slots s) frame).slots
        loaded_keeps None members = (cells, h)
        loaded_keeps (Some v) members = rw is (load_of_type v s (held_type table s) (slot_layout table s) (members v refl) (h.slot_types s))

  -- ---- stores

  -- what is stored in a slot of references is a reference of its layout
  number_in : (stored held layout : ℕ) → is_reference_held p.of_module (Some held) ≡ true → is_integer (kind_of p.of_module stored) ≡ true → r.moves_kind (stored == held) (kind_of p.of_module stored) (Reference layout) ≡ true → ⊥
  number_in stored held layout is number moves = pick (stored == held) refl moves where
    by : (y : TypeKind) → is_integer y ≡ true → is_any_reference y ≡ true → ⊥
    by NoValue e z = absurd cc
    by (Bits bits) e z = absurd cc
    by (Reference l) e z = absurd cc
    by AnyReference e z = absurd cc
    by AddressKind e z = absurd cc
    by Other e z = absurd cc

    pick : (b : Bool) → (stored == held) ≡ b → (b || is_any_reference (kind_of p.of_module stored)) ≡ true → ⊥
    pick true same e =
        let whole : is_integer (kind_of p.of_module held) ≡ true = subst (λ y. is_integer (kind_of p.of_module y) ≡ true) (test_true stored held same) number in
        absurd (let y = sym whole ∙ integer_same p.of_module held ∙ reference_no_integer p.of_module held is in cc)
    pick false same e = by (kind_of p.of_module stored) number e

  -- what is known as a current reference to a layout is one, and is own
  known_reference : (layout : ℕ) (known : Known) (v : Value) → Means heap p guarded log cells (length facts.classes) frame.registers known v → o.is_known facts known ≡ true → o.known_fits (Reference layout) known ≡ true → o.is_current facts known ≡ true
      → IsReferenceTo heap layout v × IsOwn log guarded v
  known_reference layout Nothing v means is fits current = absurd cc
  known_reference layout (Number bits below) v means is fits current = absurd cc
  known_reference layout (Cell c l true) v means is fits current = absurd cc
  known_reference layout (Cell c l false) v means is fits current = (subst (λ x. IsReferenceTo heap x v) (sym (test_true layout l fits)) means.refers, means.own refl)
  known_reference layout Null v means is fits current = subst (λ x. IsReferenceTo heap layout x × IsOwn log guarded x) (sym means) (tt, tt)
  known_reference layout (Address base words) v means is fits current = absurd cc
  known_reference layout (GlobalAddress g) v means is fits current = absurd cc

  -- what is stored under the type of a slot of references is one, and is own
  reference_stored : (stored held layout : ℕ) (x : Operand) → is_reference_held p.of_module (Some held) ≡ true → o.is_available table facts x ≡ true → o.is_of_type p.of_module f facts stored x ≡ true → o.is_current facts (o.known_of facts x) ≡ true → o.slot_named table x ≡ None
      → r.moves_kind (stored == held) (kind_of p.of_module stored) (Reference layout) ≡ true → o.known_fits (Reference layout) (o.known_of facts x) ≡ true
      → IsReferenceTo heap layout (value_of p.of_module frame.registers stored x) × IsOwn log guarded (value_of p.of_module frame.registers stored x)
  reference_stored stored held layout (operand.Constant (constant.Number n)) is k1 k2 k3 none moves fits = absurd (number_in stored held layout is (integer_bits p.of_module n (kind_of p.of_module stored) (and_parts (o.fits_bits n (kind_of p.of_module stored)) true k2).0) moves)
  reference_stored stored held layout (operand.Constant (constant.Float n)) is k1 k2 k3 none moves fits = absurd (number_in stored held layout is (and_parts (is_integer (kind_of p.of_module stored)) true k2).0 moves)
  reference_stored stored held layout (operand.Constant (constant.Truth b)) is k1 k2 k3 none moves fits = absurd cc
  reference_stored stored held layout (operand.Constant constant.Null) is k1 k2 k3 none moves fits = (tt, tt)
  reference_stored stored held layout (operand.Local u) is k1 k2 k3 none moves fits = known_reference layout (known_at facts.values u) (register_at frame.registers u) (h.values u) (available heap p certs reaches f table guarded log cells facts frame h u none k1) fits k3
  reference_stored stored held layout (operand.Global g) is k1 k2 k3 none moves fits = absurd (no_value _ k2)
  reference_stored stored held layout (operand.CastGlobal a b c) is k1 k2 k3 none moves fits = absurd (no_value _ k2)

  -- what is stored fits the slot
  module _ (stored held : ℕ) (x : Operand) (k1 : o.is_available table facts x ≡ true) (k2 : o.is_of_type p.of_module f facts stored x ≡ true) (k3 : o.is_current facts (o.known_of facts x) ≡ true) (none : o.slot_named table x ≡ None) where
    abbrev given : Value
    given = value_of p.of_module frame.registers stored x

    value_fits : (layout : Option ℕ) → GoesWithType p.of_module held layout → r.moves_kind (stored == held) (kind_of p.of_module stored) (kind_held p.of_module (Some held) layout) ≡ true → o.known_fits (kind_held p.of_module (Some held) layout) (o.known_of facts x) ≡ true
        → FitsHeld heap p.of_module guarded log held layout given × (fits_layout_of layout given ≡ true)
    value_fits (Some layout) goes moves fits =
        let q = reference_stored stored held layout x goes k1 k2 k3 none moves fits in (
          record {
            with_type = goes;
            integer = λ z. absurd (let y = sym z ∙ reference_no_integer p.of_module held goes in cc);
            reference = λ z. q;
          },
          of_layout layout given q.0,
        ) where
          of_layout : (layout : ℕ) (v : Value) → IsReferenceTo heap layout v → k.fits_layout layout v ≡ true
          of_layout layout value.Unset q = absurd q
          of_layout layout (value.Number n) q = absurd q
          of_layout layout value.Null q = refl
          of_layout layout (value.Cell own at) q = test_yes own layout q.0
          of_layout layout (value.Address at) q = absurd q
    value_fits None goes moves fits = by (kind_of p.of_module held) refl moves where
      by : (y : TypeKind) → kind_of p.of_module held ≡ y → r.moves_kind (stored == held) (kind_of p.of_module stored) y ≡ true → FitsHeld heap p.of_module guarded log held None given × (true ≡ true)
      by NoValue is moves = absurd cc
      by (Bits bits) is moves =
          let i = integer_is heap p certs reaches f table guarded log cells facts frame h stored bits x (ap (kind_of p.of_module) (test_true stored held moves) ∙ is) k1 k2 none in (
            record {
              with_type = goes;
              integer = λ z. subst (λ b. IsInteger b None given) (sym (bits_are p.of_module held bits is)) (record { number = i.number; is = i.is; fits = i.fits; under = tt });
              reference = λ z. absurd (let y = sym z ∙ sym (integer_same p.of_module held) ∙ ap is_integer is in cc);
            },
            refl,
          )
      by (Reference layout) is moves = absurd (no_reference p.of_module held layout goes is)
      by AnyReference is moves = absurd cc
      by AddressKind is moves = absurd cc
      by Other is moves = absurd cc

  -- of a slot nothing is known where it takes what no class names
  apart_plain : (s : ℕ) (given : Value) → ((c : ℕ) → AreApart (cells c) given) → Fits cells facts (record (slot_at facts.slots s) { nonnull = false; holds = None }) given
  apart_plain s given apart = record { means = record { nonnull = λ z. absurd cc; holds = λ c z. absurd cc }; apart = λ v c l st is fr out. apart c }

  -- null is apart from each class
  apart_null : (given : Value) → given ≡ value.Null → (c : ℕ) → AreApart (cells c) given
  apart_null v e c = subst (AreApart (cells c)) (sym e) (apart_turned value.Null (cells c) tt)

  -- and so is a number
  apart_number : (given : Value) (n : ℕ) → given ≡ value.Number n → (c : ℕ) → AreApart (cells c) given
  apart_number v n e c = subst (AreApart (cells c)) (sym e) (apart_turned (value.Number n) (cells c) tt)

  -- what the slot is then known to hold
  stored_keeps : (stored s : ℕ) (x : Operand) → o.is_available table facts x ≡ true → o.is_of_type p.of_module f facts stored x ≡ true → o.is_current facts (o.known_of facts x) ≡ true → o.slot_named table x ≡ None
      → FitsSlot heap p.of_module guarded log (held_type table s) (slot_layout table s) (value_of p.of_module frame.registers stored x) → Holds heap p table guarded log cells (store_slot s (o.known_of facts x) facts) frame.registers (slice_set frame.slots s (value_of p.of_module frame.registers stored x))
  stored_keeps stored s (operand.Constant (constant.Number n)) k1 k2 k3 none fits = slot_keeps heap p table guarded log cells facts frame.registers frame.slots h s _ _ fits (apart_plain s _ (apart_number _ _ refl))
  stored_keeps stored s (operand.Constant (constant.Float n)) k1 k2 k3 none fits = slot_keeps heap p table guarded log cells facts frame.registers frame.slots h s _ _ fits (apart_plain s _ (apart_number _ _ refl))
  stored_keeps stored s (operand.Constant (constant.Truth b)) k1 k2 k3 none fits = absurd cc
  stored_keeps stored s (operand.Constant constant.Null) k1 k2 k3 none fits = slot_keeps heap p table guarded log cells facts frame.registers frame.slots h s _ _ fits (apart_plain s _ (apart_null _ refl))
  stored_keeps stored s (operand.Global g) k1 k2 k3 none fits = absurd (no_value _ k2)
  stored_keeps stored s (operand.CastGlobal a b c) k1 k2 k3 none fits = absurd (no_value _ k2)
  stored_keeps stored s (operand.Local u) k1 k2 k3 none fits = by (known_at facts.values u) refl (h.values u) (available heap p certs reaches f table guarded log cells facts frame h u none k1) (and_parts (has_type p.of_module f stored u) (o.known_fits (kind_of p.of_module stored) (known_at facts.values u)) k2).1 k3 where
    new : Value
    new = register_at frame.registers u

    by : (known : Known) → known_at facts.values u ≡ known → Means heap p guarded log cells (length facts.classes) frame.registers known new → o.is_known facts known ≡ true → o.known_fits (kind_of p.of_module stored) known ≡ true → o.is_current facts known ≡ true
        → Holds heap p table guarded log cells (store_slot s known facts) frame.registers (slice_set frame.slots s new)
    by Nothing is means known fits2 current = absurd cc
    by (Number bits below) is means known fits2 current = slot_keeps heap p table guarded log cells facts frame.registers frame.slots h s _ new fits (apart_plain s new (apart_number new means.number means.is))
    by (Cell c l true) is means known fits2 current = absurd cc
    by (Cell c l false) is means known fits2 current = slot_keeps heap p table guarded log cells facts frame.registers frame.slots h s _ new fits (record {
      means = record { nonnull = λ z w. (h.classes c).nonnull z (sym means.is ∙ w); holds = λ d e. let same : c ≡ d = cc in (means.is ∙ ap cells same, subst (λ y. y < length facts.classes) same means.within) };
      apart = λ v d m st is2 fr out. subst (AreApart (cells d)) (sym means.is) (h.alone v u d c m l st is2 is fr (λ z. let t = test_yes c d (sym z) in let y = sym t ∙ out in absurd cc));
    })
    by Null is means known fits2 current = slot_keeps heap p table guarded log cells facts frame.registers frame.slots h s _ new fits (apart_plain s new (apart_null new means))
    by (Address base words) is means known fits2 current = absurd cc
    by (GlobalAddress g) is means known fits2 current = absurd cc

  -- a store to a slot
  pub slot_store_goes : (result : Option ℕ) (stored : ℕ) (x : Operand) (place_type u s : ℕ) → o.is_available table facts x ≡ true → o.is_of_type p.of_module f facts stored x ≡ true → o.is_current facts (o.known_of facts x) ≡ true → o.slot_named table x ≡ None
      → slot_of table u ≡ Some s → has_type p.of_module f place_type u ≡ true → r.stores_slot p.of_module table stored (o.known_of facts x) s ≡ true
      → Goes heap p table frame.slots reaches guarded log (after_memory p table result (memory.Store stored x place_type (operand.Local u)) facts)
      (a.store_action p table stored (k.is_usable p.of_module f table frame.registers stored x) (value_of p.of_module frame.registers stored x) (k.slot_at_place p.of_module f table place_type (operand.Local u)) (k.address_at_place p.of_module f table frame.registers place_type (operand.Local u)))
      (λ given. mc.set_slot (k.slot_at_place p.of_module f table place_type (operand.Local u)) (value_of p.of_module frame.registers stored x) frame)
  slot_store_goes result stored x place_type u s k1 k2 k3 none is k2p stores =
      subst (λ y. Goes heap p table frame.slots reaches guarded log (after_memory p table result (memory.Store stored x place_type (operand.Local u)) facts)
      (a.store_action p table stored (k.is_usable p.of_module f table frame.registers stored x) (value_of p.of_module frame.registers stored x) y (k.address_at_place p.of_module f table frame.registers place_type (operand.Local u)))
      (λ given. mc.set_slot y (value_of p.of_module frame.registers stored x) frame)) (sym (place_is p f table place_type u s k2p is))
      (by (held_type table s) refl (h.slot_types s) stores) where
        new : Value
        new = value_of p.of_module frame.registers stored x

        by : (held : Option ℕ) → held_type table s ≡ held → FitsSlot heap p.of_module guarded log held (slot_layout table s) (slot_value frame.slots s)
            → (r.moves p.of_module stored held (kind_held p.of_module held (slot_layout table s)) && o.known_fits (kind_held p.of_module held (slot_layout table s)) (o.known_of facts x)) ≡ true
            → Goes heap p table frame.slots reaches guarded log (after_memory p table result (memory.Store stored x place_type (operand.Local u)) facts)
            (a.store_action p table stored (k.is_usable p.of_module f table frame.registers stored x) new (Some s) (k.address_at_place p.of_module f table frame.registers place_type (operand.Local u))) (λ given. mc.set_slot (Some s) new frame)
        by None at fits e = absurd cc
        by (Some held) at fits e =
            let kind = kind_held p.of_module (Some held) (slot_layout table s) in
            let b = and_parts (r.moves p.of_module stored (Some held) kind) (o.known_fits kind (o.known_of facts x)) e in
            let q = value_fits stored held x k1 k2 k3 none (slot_layout table s) fits.with_type b.0 b.1 in
            goes_local heap p table frame.slots reaches guarded log _ _ _ (rw (at, usable heap p certs reaches f table guarded log cells facts frame h stored x k1 k2 none, moves_is p f table stored held (slot_layout table s) fits.with_type b.0, q.1) refl)
            (cells, subst (λ z. Holds heap p table guarded log cells (r.after_store (o.known_of facts x) z facts) frame.registers (slice_set frame.slots s new)) (sym is) (stored_keeps stored s x k1 k2 k3 none (subst (λ y. FitsSlot heap p.of_module guarded log y (slot_layout table s) new) (sym at) q.0)))
