-- Operations on memory: allocas, and loads and stores of slots and of words.
use Rattle.std.proofs.Common.{◌≡◌, ℕ, List, refl, sym, ap, ◌∙◌, subst, true, false, Option, Some, None, Bool, inl, inr, slice_get}
use Rattle.std.specs.Prelude.{◌⊎◌, ◌&&◌, ◌||◌, not, if◌then◌else◌}
use Rattle.lemmas.specs.Bools.{and_parts, and_true, or_parts, not_true}
use Rattle.ir_ast.specs.declared.argument.Argument.{Argument}
use Rattle.ir_ast.specs.declared.function.Function.{Function}
use Rattle.ir_ast.specs.declared.memory.MemoryOp.{MemoryOp}
use Rattle.ir_ast.specs.declared.memory.MemoryOp.TheVariants as memory
use Rattle.ir_ast.specs.declared.op.Op.TheVariants as op
use Rattle.ir_ast.specs.declared.operand.Operand.{Operand}
use Rattle.ir_ast.specs.declared.operand.Operand.TheVariants as operand
use Rattle.pools.specs.Heap.{Setup}
use Rattle.layout.specs.Globals.{IsHeapFor}
use Rattle.layout.specs.Layouts.{LaidOut}
use Rattle.types.specs.References.{is_opaque}
use Rattle.types.specs.ValueTypes.{has_type}
use Rattle.shadow_stack.specs.Slots.{SlotTable, slot_of}
use Rattle.certs.specs.declared.section.Section.{Section}
use Rattle.fact_tables.specs.declared.known.Known.TheVariants.{Number}
use Rattle.facts.specs.Facts.{FactSet, drop_fresh_of}
use Rattle.block_rules.specs.declared.instr_context.InstrContext.{InstrContext}
use Rattle.block_rules.specs.Operands as o
use Rattle.block_rules.specs.Places as q
use Rattle.block_rules.specs.FirstFailing.{first_failing}
use Rattle.block_rules.specs.Barriers.{needs_no_barrier}
use Rattle.block_rules.specs.Casts as c
use Rattle.block_rules.specs.Rules.{is_count_available, is_count, is_datum, loads_outside, stores_outside, memory_conditions, after_memory}
use Rattle.type_kinds.specs.TypeKinds.{kind_of, is_integer}
use Rattle.machine.specs.declared.action.Action.TheVariants.{Local}
use Rattle.machine.specs.declared.value.Value.{Value}
use Rattle.machine.specs.Asks as a
use Rattle.machine.specs.Kinds as k
use Rattle.machine.specs.Machine as mc
use Rattle.machine.specs.declared.frame.Frame.{Frame}
use Rattle.machine.specs.Log.{Log, IsFresh}
use Rattle.soundness.proofs.Values.{of_value}
use Rattle.soundness.specs.Meaning.{Cells, Guarded, Holds}
use Rattle.soundness.specs.Goes.{Goes, HaveMembers}
use Rattle.soundness.proofs.Outside.{IsOutside, address_number, outside_is, usable_outside, outside_usable, inside_slot, given_goes}
use Rattle.soundness.proofs.Change.{define_plain}
use Rattle.soundness.proofs.PhiFacts.{drop_of_keeps}
use Rattle.soundness.proofs.Steps.{OpGoes, goes_local, none_of, alloca_goes, kind_bits, integer_is, number_usable, usable}
use Rattle.soundness.proofs.Touches.{IsPlace, no_slot_at}
use Rattle.soundness.proofs.RulesHold.{rules_hold}
use Rattle.block_rules.specs.declared.rule.Rule.TheVariants.{K1, K2, K3, K4, K6, K8, K10, K19}
use Rattle.block_rules.specs.Operands.{slot_named}
use Rattle.soundness.proofs.Moves.{slot_load_goes, slot_store_goes}
use Rattle.soundness.proofs.WordReads.{load_goes}
use Rattle.soundness.proofs.WordStores.{IsStored, store_goes}
use Rattle.soundness.proofs.Members.{define_members, forget_members, stored_members, alloca_members, load_place_members}

module _ (heap : Setup) (p : LaidOut) (certs : List Section) (reaches : Bool) (f : Function) (table : SlotTable) (guarded : Guarded) (log : Log) (guards : (cell : ℕ) → guarded cell → IsFresh log cell) (fits : IsHeapFor heap p) (here : InstrContext) (cells : Cells) (facts : FactSet) (frame : Frame)
    (h : Holds heap p table guarded log cells facts frame.registers frame.slots) (members : HaveMembers facts) where
  -- ---- places that are not outside, and addresses outside

  -- a load from a place that is not outside
  inside_load : (result : Option ℕ) (loaded place_type : ℕ) (place : Operand) → k.is_usable_outside p.of_module f table frame.registers place_type place ≡ false
      → Goes heap p table frame.slots reaches guarded log (after_memory p table result (memory.Load loaded place_type place) facts)
      (a.load_action p table loaded (k.slot_at_place p.of_module f table place_type place) (k.address_at_place p.of_module f table frame.registers place_type place))
      (λ given. mc.set_register result (mc.loaded_from p frame.slots (k.slot_at_place p.of_module f table place_type place) (k.address_at_place p.of_module f table frame.registers place_type place) given) frame)
      → OpGoes heap p certs reaches f table guarded log facts frame result (op.Memory (memory.Load loaded place_type place))
  inside_load result loaded place_type place inside goes =
      subst (λ b. Goes heap p table frame.slots reaches guarded log (after_memory p table result (memory.Load loaded place_type place) facts)
      (if b then a.asked_given (slice_get p.of_module.types loaded)
      else a.load_action p table loaded (k.slot_at_place p.of_module f table place_type place) (k.address_at_place p.of_module f table frame.registers place_type place))
      (λ given. mc.set_register result (if b then mc.given_value given
      else mc.loaded_from p frame.slots (k.slot_at_place p.of_module f table place_type place) (k.address_at_place p.of_module f table frame.registers place_type place) given) frame)) (sym inside) goes

  -- a store to one
  inside_store : (result : Option ℕ) (stored : ℕ) (x : Operand) (place_type : ℕ) (place : Operand) → k.is_usable_outside p.of_module f table frame.registers place_type place ≡ false
      → Goes heap p table frame.slots reaches guarded log (after_memory p table result (memory.Store stored x place_type place) facts)
      (a.store_action p table stored (k.is_usable p.of_module f table frame.registers stored x) (k.value_of p.of_module frame.registers stored x) (k.slot_at_place p.of_module f table place_type place) (k.address_at_place p.of_module f table frame.registers place_type place))
      (λ given. mc.set_slot (k.slot_at_place p.of_module f table place_type place) (k.value_of p.of_module frame.registers stored x) frame)
      → OpGoes heap p certs reaches f table guarded log facts frame result (op.Memory (memory.Store stored x place_type place))
  inside_store result stored x place_type place inside goes =
      subst (λ b. Goes heap p table frame.slots reaches guarded log (after_memory p table result (memory.Store stored x place_type place) facts)
      (if b then a.only_if (a.stores_outside p.of_module f table frame.registers stored x) Local
      else a.store_action p table stored (k.is_usable p.of_module f table frame.registers stored x) (k.value_of p.of_module frame.registers stored x) (k.slot_at_place p.of_module f table place_type place) (k.address_at_place p.of_module f table frame.registers place_type place))
      (λ given. mc.set_slot (k.slot_at_place p.of_module f table place_type place) (k.value_of p.of_module frame.registers stored x) frame)) (sym inside) goes

  -- the facts about an operand that is an address outside
  abbrev Outside : (written : ℕ) → Operand → Type 0
  Outside written x = IsOutside heap p f table guarded log cells facts frame.registers frame.slots h written x

  -- a place that is known to be a number is known to be one as an operand
  place_number : (written : ℕ) (below : Option ℕ) (x : Operand) → o.known_in p.of_module facts x ≡ Number 64 below → o.place_known p.of_module facts written x ≡ Number 64 below
  place_number written below (operand.Constant d) e = absurd cc
  place_number written below (operand.Local u) e = ap (o.place_under (is_opaque p.of_module written) u) e ∙ under (is_opaque p.of_module written) where
    under : (b : Bool) → o.place_under b u (Number 64 below) ≡ Number 64 below
    under true = refl
    under false = refl
  place_number written below (operand.Global symbol) e = e
  place_number written below (operand.CastGlobal from symbol to) e = e

  -- a load from an address outside
  outside_load : (result : Option ℕ) (loaded place_type : ℕ) (place : Operand) → Outside place_type place → is_datum (kind_of p.of_module loaded) ≡ true → OpGoes heap p certs reaches f table guarded log facts frame result (op.Memory (memory.Load loaded place_type place))
  outside_load result loaded place_type place i datum =
      subst (λ b. Goes heap p table frame.slots reaches guarded log (after_memory p table result (memory.Load loaded place_type place) facts)
      (if b then a.asked_given (slice_get p.of_module.types loaded)
      else a.load_action p table loaded (k.slot_at_place p.of_module f table place_type place) (k.address_at_place p.of_module f table frame.registers place_type place))
      (λ given. mc.set_register result (if b then mc.given_value given
      else mc.loaded_from p frame.slots (k.slot_at_place p.of_module f table place_type place) (k.address_at_place p.of_module f table frame.registers place_type place) given) frame)) (sym (usable_outside heap p f table guarded log cells facts frame.registers frame.slots h place_type place i))
      (given_goes heap p reaches table guarded log cells facts frame h result loaded (λ name. after_memory p table name (memory.Load loaded place_type place) facts) _ refl datum refl
      (λ v. ap (λ slot. q.load_place p table v loaded (o.place_known p.of_module facts place_type place) slot facts) i.no_slot ∙ ap (λ known. q.load_known p v (kind_of p.of_module loaded) known facts) (place_number place_type i.below place i.known)))

  -- a store of a number or of an address outside to one
  outside_store : (result : Option ℕ) (stored : ℕ) (x : Operand) (place_type : ℕ) (place : Operand) → Outside place_type place → a.stores_outside p.of_module f table frame.registers stored x ≡ true
      → OpGoes heap p certs reaches f table guarded log facts frame result (op.Memory (memory.Store stored x place_type place))
  outside_store result stored x place_type place i stores =
      subst (λ b. Goes heap p table frame.slots reaches guarded log (after_memory p table result (memory.Store stored x place_type place) facts)
      (if b then a.only_if (a.stores_outside p.of_module f table frame.registers stored x) Local
      else a.store_action p table stored (k.is_usable p.of_module f table frame.registers stored x) (k.value_of p.of_module frame.registers stored x) (k.slot_at_place p.of_module f table place_type place) (k.address_at_place p.of_module f table frame.registers place_type place))
      (λ given. mc.set_slot (k.slot_at_place p.of_module f table place_type place) (k.value_of p.of_module frame.registers stored x) frame)) (sym (usable_outside heap p f table guarded log cells facts frame.registers frame.slots h place_type place i))
      (goes_local heap p table frame.slots reaches guarded log _ _ _ (ap (λ b. a.only_if b Local) stores) (cells, kept)) where
        new : Value
        new = k.value_of p.of_module frame.registers stored x

        left : Frame
        left = mc.set_slot (k.slot_at_place p.of_module f table place_type place) (k.value_of p.of_module frame.registers stored x) frame

        kept : Holds heap p table guarded log cells (after_memory p table result (memory.Store stored x place_type place) facts) left.registers left.slots
        kept =
            subst (λ slot. Holds heap p table guarded log cells (q.after_store (o.known_of facts x) slot facts) left.registers left.slots) (sym i.no_slot)
            (subst (λ slot. Holds heap p table guarded log cells (drop_fresh_of (o.known_of facts x) facts) (mc.set_slot slot new frame).registers (mc.set_slot slot new frame).slots) (sym (no_slot_at p f table place_type place i.no_slot))
            (drop_of_keeps heap p table guarded log frame.slots cells (o.known_of facts x) facts frame.registers h))

  -- a load: from a slot, from an operand that is a place, or from an address outside
  load_by : (result : Option ℕ) (loaded place_type : ℕ) (place : Operand) → first_failing (memory_conditions p f table here facts result (memory.Load loaded place_type place)) ≡ None
      → OpGoes heap p certs reaches f table guarded log facts frame result (op.Memory (memory.Load loaded place_type place))
  load_by result loaded place_type place e =
      let all = rules_hold (memory_conditions p f table here facts result (memory.Load loaded place_type place)) e in
      let typed = o.is_typed p.of_module f place_type place in
      let may = q.may_load p table facts loaded place (o.place_known p.of_module facts place_type place) in
      let k4 = and_parts (not (o.is_null place)) (o.base_nonnull facts (o.place_known p.of_module facts place_type place)) (all K4) in
      elim (or_parts (typed && may) (loads_outside p.of_module f table facts loaded place_type place) (all K2)) [
        | inl inside ↦ let k2 = and_parts typed may inside in by place (all K1) k2.0 k2.1 (all K3) k4.0 k4.1 (all K19)
        | inr outside ↦
            let b = and_parts (o.is_outside_value p.of_module f table facts place_type place) (is_datum (kind_of p.of_module loaded)) outside in
            outside_load result loaded place_type place (outside_is heap p f table guarded log cells facts frame.registers frame.slots h place_type place b.0) b.1
      ] where
        loads : (x : Operand) → IsPlace p f table facts place_type x → q.loads_known p facts (kind_of p.of_module loaded) (o.place_known p.of_module facts place_type x) ≡ true → OpGoes heap p certs reaches f table guarded log facts frame result (op.Memory (memory.Load loaded place_type x))
        loads x s may = let g = load_goes heap p certs reaches f table guarded log guards fits cells facts frame h result loaded place_type x s may in inside_load result loaded place_type x g.0 g.1

        of_name : (u : ℕ) → o.is_available table facts (operand.Local u) ≡ true → has_type p.of_module f place_type u ≡ true → q.loads_local p table facts (o.place_known p.of_module facts place_type (operand.Local u)) loaded (slot_of table u) ≡ true → o.is_current facts (o.place_known p.of_module facts place_type (operand.Local u)) ≡ true
            → o.base_nonnull facts (o.place_known p.of_module facts place_type (operand.Local u)) ≡ true → (slot : Option ℕ) → slot_of table u ≡ slot → OpGoes heap p certs reaches f table guarded log facts frame result (op.Memory (memory.Load loaded place_type (operand.Local u)))
        of_name u k1 k2 may k3 k4 None none =
            loads (operand.Local u) (record { there = k1; typed = k2; current = k3; based = k4; casts = refl; varies = refl; no_slot = none }) (rw none at may)
        of_name u k1 k2 may k3 k4 (Some s) is =
            inside_load result loaded place_type (operand.Local u) (inside_slot p f table frame.registers place_type u s is)
            (slot_load_goes heap p certs reaches f table guarded log cells facts frame h result loaded place_type u s (λ v named. forget_members v facts members) is k2 (rw is at may))

        by : (x : Operand) → o.is_available table facts x ≡ true → o.is_typed p.of_module f place_type x ≡ true → q.may_load p table facts loaded x (o.place_known p.of_module facts place_type x) ≡ true → o.is_current facts (o.place_known p.of_module facts place_type x) ≡ true → not (o.is_null x) ≡ true → o.base_nonnull facts (o.place_known p.of_module facts place_type x) ≡ true
            → c.casts_operand p.of_module x ≡ true → OpGoes heap p certs reaches f table guarded log facts frame result (op.Memory (memory.Load loaded place_type x))
        by (operand.Constant d) k1 k2 may k3 some k4 k19 = absurd (let x = not_true (o.is_null_constant d) some in cc)
        by (operand.Local u) k1 k2 may k3 some k4 k19 = of_name u k1 k2 may k3 k4 (slot_of table u) refl
        by (operand.Global symbol) k1 k2 may k3 some k4 k19 =
            loads (operand.Global symbol) (record { there = k1; typed = k2; current = k3; based = k4; casts = k19; varies = refl; no_slot = refl }) may
        by (operand.CastGlobal own symbol other) k1 k2 may k3 some k4 k19 =
            loads (operand.CastGlobal own symbol other) (record { there = k1; typed = k2; current = k3; based = k4; casts = k19; varies = refl; no_slot = refl }) may

  -- a store: to a slot, or to an operand that is a place
  store_by : (result : Option ℕ) (stored : ℕ) (x : Operand) (place_type : ℕ) (place : Operand) → first_failing (memory_conditions p f table here facts result (memory.Store stored x place_type place)) ≡ None
      → OpGoes heap p certs reaches f table guarded log facts frame result (op.Memory (memory.Store stored x place_type place))
  store_by result stored x place_type place e =
      let all = rules_hold (memory_conditions p f table here facts result (memory.Store stored x place_type place)) e in
      let k1 = and_parts (o.is_available table facts x) (o.is_available table facts place) (all K1) in
      let value = o.is_value p.of_module f table facts stored x in
      let typed = o.is_typed p.of_module f place_type place in
      let may = q.may_store p table facts stored (o.known_of facts x) place (o.place_known p.of_module facts place_type place) in
      let one = q.is_one_layout p facts stored (o.place_known p.of_module facts place_type place) in
      let k3 = and_parts (o.is_current facts (o.known_of facts x)) (o.is_current facts (o.place_known p.of_module facts place_type place)) (all K3) in
      let k4 = and_parts (not (o.is_null place)) (o.base_nonnull facts (o.place_known p.of_module facts place_type place)) (all K4) in
      let none = none_of (o.slot_named table x) (all K10) in
      elim (or_parts (value && typed && may && one) (stores_outside p.of_module f table facts stored x place_type place) (all K2)) [
        | inl inside ↦
            let k2 = and_parts (value && typed) may (and_parts (value && typed && may) one inside).0 in
            let t = and_parts value typed k2.0 in
            by (record { there = k1.0; typed = of_value p.of_module f table facts stored x t.0; current = k3.0; no_slot = none }) place k1.1 t.1 k2.1 k3.1 k4.0 k4.1 (all K6) (all K19)
        | inr outside ↦
            let number = is_integer (kind_of p.of_module stored) && value in
            let b = and_parts (o.is_outside_value p.of_module f table facts place_type place) (number || o.is_outside_value p.of_module f table facts stored x) outside in
            outside_store result stored x place_type place (outside_is heap p f table guarded log cells facts frame.registers frame.slots h place_type place b.0) (stored_outside k1.0 none (or_parts number (o.is_outside_value p.of_module f table facts stored x) b.1))
      ] where
        stored_outside : o.is_available table facts x ≡ true → o.slot_named table x ≡ None → ((is_integer (kind_of p.of_module stored) && o.is_value p.of_module f table facts stored x) ≡ true) ⊎ (o.is_outside_value p.of_module f table facts stored x ≡ true) → a.stores_outside p.of_module f table frame.registers stored x ≡ true
        stored_outside k1 none (inl number) =
            let b = and_parts (is_integer (kind_of p.of_module stored)) (o.is_value p.of_module f table facts stored x) number in
            let bits = kind_bits heap p certs reaches f table guarded log cells facts frame h (kind_of p.of_module stored) b.0 in
            let given = of_value p.of_module f table facts stored x b.1 in
            and_true (k.is_usable p.of_module f table frame.registers stored x) (k.is_number (k.value_of p.of_module frame.registers stored x)) (usable heap p certs reaches f table guarded log cells facts frame h stored x k1 given none)
            (ap k.is_number (integer_is heap p certs reaches f table guarded log cells facts frame h stored bits.0 x bits.1 k1 given none).is)
        stored_outside k1 none (inr outside) =
            let i = outside_is heap p f table guarded log cells facts frame.registers frame.slots h stored x outside in
            and_true (k.is_usable p.of_module f table frame.registers stored x) (k.is_number (k.value_of p.of_module frame.registers stored x)) (outside_usable heap p f table guarded log cells facts frame.registers frame.slots h stored x i) (ap k.is_number i.number.is)

        stores : IsStored p f table facts stored x → (y : Operand) → IsPlace p f table facts place_type y → q.stores_known p facts (kind_of p.of_module stored) (o.known_of facts x) (o.place_known p.of_module facts place_type y) ≡ true
            → needs_no_barrier p.of_module table facts stored y (o.place_known p.of_module facts place_type y) ≡ true → OpGoes heap p certs reaches f table guarded log facts frame result (op.Memory (memory.Store stored x place_type y))
        stores v y s may k6 = let g = store_goes heap p certs reaches f table guarded log fits cells facts frame h members result stored x place_type y v s may k6 in inside_store result stored x place_type y g.0 g.1

        of_name : IsStored p f table facts stored x → (u : ℕ) → o.is_available table facts (operand.Local u) ≡ true → has_type p.of_module f place_type u ≡ true → q.stores_local p table facts (o.place_known p.of_module facts place_type (operand.Local u)) stored (o.known_of facts x) (slot_of table u) ≡ true
            → o.is_current facts (o.place_known p.of_module facts place_type (operand.Local u)) ≡ true → o.base_nonnull facts (o.place_known p.of_module facts place_type (operand.Local u)) ≡ true → needs_no_barrier p.of_module table facts stored (operand.Local u) (o.place_known p.of_module facts place_type (operand.Local u)) ≡ true → (slot : Option ℕ) → slot_of table u ≡ slot
            → OpGoes heap p certs reaches f table guarded log facts frame result (op.Memory (memory.Store stored x place_type (operand.Local u)))
        of_name v u k1 k2 may k3 k4 k6 None none =
            stores v (operand.Local u) (record { there = k1; typed = k2; current = k3; based = k4; casts = refl; varies = refl; no_slot = none }) (rw none at may) k6
        of_name v u k1 k2 may k3 k4 k6 (Some s) is =
            inside_store result stored x place_type (operand.Local u) (inside_slot p f table frame.registers place_type u s is)
            (slot_store_goes heap p certs reaches f table guarded log cells facts frame h result stored x place_type u s v.there v.typed v.current v.no_slot is k2 (rw is at may))

        by : IsStored p f table facts stored x → (y : Operand) → o.is_available table facts y ≡ true → o.is_typed p.of_module f place_type y ≡ true → q.may_store p table facts stored (o.known_of facts x) y (o.place_known p.of_module facts place_type y) ≡ true → o.is_current facts (o.place_known p.of_module facts place_type y) ≡ true → not (o.is_null y) ≡ true
            → o.base_nonnull facts (o.place_known p.of_module facts place_type y) ≡ true → needs_no_barrier p.of_module table facts stored y (o.place_known p.of_module facts place_type y) ≡ true → c.casts_operand p.of_module y ≡ true → OpGoes heap p certs reaches f table guarded log facts frame result (op.Memory (memory.Store stored x place_type y))
        by v (operand.Constant d) k1 k2 may k3 some k4 k6 k19 = absurd (let y = not_true (o.is_null_constant d) some in let z = (and_parts (o.is_null_constant d) _ may).0 in cc)
        by v (operand.Local u) k1 k2 may k3 some k4 k6 k19 = of_name v u k1 k2 may k3 k4 k6 (slot_of table u) refl
        by v (operand.Global symbol) k1 k2 may k3 some k4 k6 k19 =
            stores v (operand.Global symbol) (record { there = k1; typed = k2; current = k3; based = k4; casts = k19; varies = refl; no_slot = refl }) may k6
        by v (operand.CastGlobal own symbol other) k1 k2 may k3 some k4 k6 k19 =
            stores v (operand.CastGlobal own symbol other) (record { there = k1; typed = k2; current = k3; based = k4; casts = k19; varies = refl; no_slot = refl }) may k6

  -- the count of a buffer's elements is a number to the machine
  counted : (count : Option Argument) → is_count_available table facts count ≡ true → is_count p.of_module f table facts count ≡ true → a.is_count p.of_module f table frame.registers count ≡ true
  counted None k1 k2 = refl
  counted (Some x) k1 k2 =
      let b = and_parts (is_integer (kind_of p.of_module x.written) && o.is_value p.of_module f table facts x.written x.operand) (o.is_no_slot table x.operand) k2 in
      let c = and_parts (is_integer (kind_of p.of_module x.written)) (o.is_value p.of_module f table facts x.written x.operand) b.0 in
      let bits = kind_bits heap p certs reaches f table guarded log cells facts frame h (kind_of p.of_module x.written) c.0 in
      number_usable heap p certs reaches f table guarded log cells facts frame h x.written bits.0 x.operand bits.1 k1 (of_value p.of_module f table facts x.written x.operand c.1) (none_of (o.slot_named table x.operand) b.1)

  -- a buffer, whose address is one outside
  buffer_goes : (result : Option ℕ) (held : ℕ) (count : Option Argument) → first_failing (memory_conditions p f table here facts result (memory.Buffer held count)) ≡ None → OpGoes heap p certs reaches f table guarded log facts frame result (op.Memory (memory.Buffer held count))
  buffer_goes result held count e =
      let all = rules_hold (memory_conditions p f table here facts result (memory.Buffer held count)) e in
      goes_local heap p table frame.slots reaches guarded log _ _ _
      (ap (λ b. a.only_if b Local) (and_true p.of_module.wide (a.is_count p.of_module f table frame.registers count) (all K8) (counted count (all K1) (all K2))))
      (kept result) where
        kept : (result : Option ℕ) → (more : Cells) × Holds heap p table guarded log more (after_memory p table result (memory.Buffer held count) facts) (mc.set_register result k.outside_address frame).registers (mc.set_register result k.outside_address frame).slots
        kept None = (cells, h)
        kept (Some v) = (cells, define_plain heap p table guarded log cells facts frame.registers frame.slots h v (Number 64 None) k.outside_address (λ c l s e. cc) address_number)

  -- an operation on memory whose conditions hold goes
  pub memory_goes : (result : Option ℕ) (x : MemoryOp) → first_failing (memory_conditions p f table here facts result x) ≡ None → OpGoes heap p certs reaches f table guarded log facts frame result (op.Memory x)
  memory_goes result (memory.Alloca held) e = alloca_goes heap p certs reaches f table guarded log cells facts frame h result held
  memory_goes result (memory.Buffer held count) e = buffer_goes result held count e
  memory_goes result (memory.Load loaded place_type place) e = load_by result loaded place_type place e
  memory_goes result (memory.Store stored x place_type place) e = store_by result stored x place_type place e

-- ---- what is known of slots stays

module _ (p : LaidOut) (table : SlotTable) (facts : FactSet) (members : HaveMembers facts) where
  -- an operation on memory
  pub memory_members : (result : Option ℕ) (x : MemoryOp) → HaveMembers (after_memory p table result x facts)
  memory_members result (memory.Store stored x place_type place) = stored_members facts members x (slot_named table place)
  memory_members None (memory.Alloca held) = members
  memory_members None (memory.Buffer held count) = members
  memory_members None (memory.Load loaded place_type place) = members
  memory_members (Some v) (memory.Alloca held) = alloca_members facts members (slot_of table v)
  memory_members (Some v) (memory.Buffer held count) = define_members v o.outside_known facts members
  memory_members (Some v) (memory.Load loaded place_type place) = load_place_members facts members p table v loaded (o.place_known p.of_module facts place_type place) (slot_named table place)
