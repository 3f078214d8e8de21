-- Calls of gcread and gcwrite.
use Rattle.std.proofs.Common.{◌≡◌, ℕ, List, [], ◌∷◌, length, refl, sym, ap, ◌∙◌, subst, true, false, Bool, Option, Some, None}
use Rattle.std.specs.Prelude.{◌==◌, ◌&&◌, ◌||◌, not, is_some}
use Rattle.lemmas.specs.Numbers.{test_true}
use Rattle.lemmas.specs.Bools.{and_parts}
use Rattle.ir_ast.specs.declared.function.Function.{Function}
use Rattle.ir_ast.specs.declared.items_of_module.Declare.{Declare}
use Rattle.ir_ast.specs.declared.module.Module.{Module}
use Rattle.ir_ast.specs.declared.argument.Argument.{Argument}
use Rattle.ir_ast.specs.declared.operand.Constant.TheVariants as constant
use Rattle.ir_ast.specs.declared.operand.Operand.{Operand}
use Rattle.ir_ast.specs.declared.operand.Operand.TheVariants as operand
use Rattle.ir_ast.specs.declared.runtime.Runtime.{Runtime}
use Rattle.ir_ast.specs.declared.runtime.Runtime.TheVariants as runtime
use Rattle.pools.specs.Heap.{Setup}
use Rattle.layout.specs.Globals.{IsHeapFor}
use Rattle.layout.specs.Layouts.{LaidOut}
use Rattle.types.specs.References.{pointee}
use Rattle.shadow_stack.specs.Slots.{SlotTable}
use Rattle.certs.specs.declared.section.Section.{Section}
use Rattle.facts.specs.Facts.{FactSet}
use Rattle.block_rules.specs.declared.signature.RuntimeType.TheVariants as types
use Rattle.block_rules.specs.declared.instr_context.InstrContext.{InstrContext}
use Rattle.type_kinds.specs.declared.type_kind.TypeKind.{TypeKind}
use Rattle.type_kinds.specs.declared.type_kind.TypeKind.TheVariants.{NoValue, Bits, Reference, AnyReference, Address as AddressKind, Other}
use Rattle.block_rules.specs.Barriers.{may_read, may_write, read_conditions, write_conditions, after_read_call, after_write}
use Rattle.block_rules.specs.Calls.{read_call_conditions, write_call_conditions}
use Rattle.block_rules.specs.Casts.{casts_operand}
use Rattle.block_rules.specs.Operands as o
use Rattle.block_rules.specs.Places as r
use Rattle.block_rules.specs.FirstFailing.{first_failing}
use Rattle.block_rules.specs.Signature.{is_runtime_type, is_declared_as, is_written_as}
use Rattle.type_kinds.specs.TypeKinds.{kind_of, kind_at, is_any_reference, is_pointer, may_be_reference}
use Rattle.machine.specs.declared.action.Action.{Action}
use Rattle.machine.specs.declared.answer.Answer.{Answer}
use Rattle.machine.specs.declared.frame.Frame.{Frame}
use Rattle.machine.specs.Asks as a
use Rattle.machine.specs.Kinds as k
use Rattle.machine.specs.Log.{Log, IsFresh}
use Rattle.machine.specs.Machine as mc
use Rattle.types.specs.References.{is_opaque}
use Rattle.block_rules.specs.Places.{is_one_layout}
use Rattle.soundness.proofs.Values.{of_value}
use Rattle.soundness.specs.Meaning.{Cells, Guarded, Holds}
use Rattle.soundness.proofs.KindLemmas.{pointer_same}
use Rattle.soundness.specs.Goes.{Goes, HaveMembers}
use Rattle.soundness.proofs.Callees.{two_parameters, three_parameters, read_types, read_declared, write_types, write_declared}
use Rattle.soundness.proofs.WordReads.{read_goes}
use Rattle.soundness.proofs.Steps.{no_pointer, integer_points, none_of, usable}
use Rattle.soundness.proofs.RulesHold.{rules_hold}
use Rattle.block_rules.specs.declared.rule.Rule.TheVariants.{K1, K2, K3, K4, K10, K19}
use Rattle.soundness.proofs.WordStores.{IsStored, write_goes}
use Rattle.soundness.proofs.Touches.{IsPlace}

-- a kind that passes as `i8*` is it
any_reference : (kind : TypeKind) → is_any_reference kind ≡ true → kind ≡ AnyReference
any_reference NoValue e = absurd cc
any_reference (Bits bits) e = absurd cc
any_reference (Reference layout) e = absurd cc
any_reference AnyReference e = refl
any_reference AddressKind e = absurd cc
any_reference Other e = absurd cc

-- a type of places of `i8*` is one of pointers
is_place : (m : Module) (written : ℕ) → is_runtime_type m written types.PointerToPointer ≡ true → is_pointer (kind_of m written) ≡ true
is_place m written e = pointer_same m written ∙ leads (is_opaque m written) (pointee m written) e where
  leads : (b : Bool) (part : Option ℕ) → (b || is_any_reference (kind_at m part)) ≡ true → (b || is_some part) ≡ true
  leads true part e = refl
  leads false None e = absurd cc
  leads false (Some part) e = refl

-- a place of such a type that is not null is no constant
no_constant : (m : Module) (f : Function) (written : ℕ) (x : Operand) → o.is_typed m f written x ≡ true → is_runtime_type m written types.PointerToPointer ≡ true → not (o.is_null x) ≡ true → o.is_constant x ≡ false
no_constant m f written (operand.Constant (constant.Number n)) typed e some = absurd (no_pointer n (kind_of m written) typed (is_place m written e))
no_constant m f written (operand.Constant (constant.Float n)) typed e some = absurd (integer_points (kind_of m written) typed (is_place m written e))
no_constant m f written (operand.Constant (constant.Truth b)) typed e some = absurd cc
no_constant m f written (operand.Constant constant.Null) typed e some = absurd cc
no_constant m f written (operand.Local u) typed e some = refl
no_constant m f written (operand.Global symbol) typed e some = refl
no_constant m f written (operand.CastGlobal from symbol to) typed e some = refl

-- a place of an access that is allowed
access_place : (p : LaidOut) (f : Function) (table : SlotTable) (facts : FactSet) (written : ℕ) (x : Operand) → o.is_available table facts x ≡ true → o.is_typed p.of_module f written x ≡ true → o.is_current facts (o.place_known p.of_module facts written x) ≡ true → o.is_based facts x (o.place_known p.of_module facts written x) ≡ true
    → o.is_no_slot table x ≡ true → casts_operand p.of_module x ≡ true → is_runtime_type p.of_module written types.PointerToPointer ≡ true → IsPlace p f table facts written x
access_place p f table facts written x k1 k2 k3 k4 k10 k19 type =
    let k = and_parts (not (o.is_null x)) (o.base_nonnull facts (o.place_known p.of_module facts written x)) k4 in
    record { there = k1; typed = k2; current = k3; based = k.1; casts = k19; varies = no_constant p.of_module f written x k2 type k.0; no_slot = none_of (o.slot_named table x) k10 }

module _ (heap : Setup) (p : LaidOut) (certs : List Section) (reaches : Bool) (f : Function) (table : SlotTable) (guarded : Guarded) (log : Log) (guards : (cell : ℕ) → guarded cell → IsFresh log cell) (fits : IsHeapFor heap p) (here : InstrContext) (cells : Cells) (facts : FactSet) (frame : Frame)
    (h : Holds heap p table guarded log cells facts frame.registers frame.slots) (members : HaveMembers facts) (result : Option ℕ) (returned : ℕ) (defined : Option Function) (d : Declare) where
  -- what a call asks for
  abbrev asked : List Argument → Runtime → Action
  asked arguments called = a.call_action p f table frame.registers returned arguments (Some d) defined (Some called)

  -- the frame after it
  abbrev afterwards : List Argument → Runtime → Answer → Frame
  afterwards arguments called given = mc.after_call p f table result arguments (Some called) given frame

  -- ---- gcread

  -- a read under `i8*` for an object that may be used
  read_by : (object place : Argument) → a.are_gcread_types p.of_module d.returned d.parameters ≡ true → a.are_gcread_types p.of_module returned (object.written ∷ place.written ∷ []) ≡ true → k.is_usable p.of_module f table frame.registers object.written object.operand ≡ true
      → kind_of p.of_module returned ≡ AnyReference → IsPlace p f table facts place.written place.operand → r.loads_known p facts AnyReference (o.place_known p.of_module facts place.written place.operand) ≡ true
      → Goes heap p table frame.slots reaches guarded log (after_read_call p result (object ∷ place ∷ []) facts) (asked (object ∷ place ∷ []) runtime.GcRead) (afterwards (object ∷ place ∷ []) runtime.GcRead)
  read_by object place declared written object_usable kind s loads =
      subst (λ x. Goes heap p table frame.slots reaches guarded log (after_read_call p result (object ∷ place ∷ []) facts) x (afterwards (object ∷ place ∷ []) runtime.GcRead)) (sym (rw (declared, written, object_usable) refl))
      (read_goes heap p certs reaches f table guarded log guards fits cells facts frame h result returned place.written place.operand (λ name. after_read_call p name (object ∷ place ∷ []) facts) s
      (subst (λ x. r.loads_known p facts x (o.place_known p.of_module facts place.written place.operand) ≡ true) (sym kind) loads) refl (λ n. ap (λ x. r.load_known p n x (o.place_known p.of_module facts place.written place.operand) facts) (sym kind)))

  -- a call of gcread with this object and place that the rules allow
  read_pair : (object place : Argument) → is_declared_as p.of_module d runtime.GcRead ≡ true → first_failing (read_conditions p f table here facts returned object place) ≡ None
      → Goes heap p table frame.slots reaches guarded log (after_read_call p result (object ∷ place ∷ []) facts) (asked (object ∷ place ∷ []) runtime.GcRead) (afterwards (object ∷ place ∷ []) runtime.GcRead)
  read_pair object place declared e =
      let all = rules_hold (read_conditions p f table here facts returned object place) e in
      let k1 = and_parts (o.is_available table facts object.operand) (o.is_available table facts place.operand) (all K1) in
      let k2 = and_parts (o.is_value p.of_module f table facts object.written object.operand && o.is_typed p.of_module f place.written place.operand && may_read p table facts place.operand (o.place_known p.of_module facts place.written place.operand)) (is_written_as p.of_module returned (object ∷ place ∷ []) runtime.GcRead) (all K2) in
      let m = and_parts (o.is_value p.of_module f table facts object.written object.operand && o.is_typed p.of_module f place.written place.operand) (may_read p table facts place.operand (o.place_known p.of_module facts place.written place.operand)) k2.0 in
      let t = and_parts (o.is_value p.of_module f table facts object.written object.operand) (o.is_typed p.of_module f place.written place.operand) m.0 in
      let k3 = and_parts (o.is_current facts (o.known_of facts object.operand)) (o.is_current facts (o.place_known p.of_module facts place.written place.operand)) (all K3) in
      let k10 = and_parts (o.is_no_slot table object.operand) (o.is_no_slot table place.operand) (all K10) in
      let w = and_parts (is_runtime_type p.of_module returned types.Pointer) (is_runtime_type p.of_module object.written types.Pointer && (is_runtime_type p.of_module place.written types.PointerToPointer && true)) k2.1 in
      let w2 = and_parts (is_runtime_type p.of_module object.written types.Pointer) (is_runtime_type p.of_module place.written types.PointerToPointer && true) w.1 in
      let w3 = and_parts (is_runtime_type p.of_module place.written types.PointerToPointer) true w2.1 in
      let s = access_place p f table facts place.written place.operand k1.1 t.1 k3.1 (all K4) k10.1 (all K19) w3.0 in
      read_by object place (read_declared p.of_module d declared) (read_types p.of_module returned object.written place.written w.0 w2.0 w3.0)
      (usable heap p certs reaches f table guarded log cells facts frame h object.written object.operand k1.0 (of_value p.of_module f table facts object.written object.operand t.0) (none_of (o.slot_named table object.operand) k10.0))
      (any_reference (kind_of p.of_module returned) w.0) s (reads s.no_slot m.1) where
        reads : o.slot_named table place.operand ≡ None → may_read p table facts place.operand (o.place_known p.of_module facts place.written place.operand) ≡ true → r.loads_known p facts AnyReference (o.place_known p.of_module facts place.written place.operand) ≡ true
        reads none e = rw none at e

  -- a call of gcread that the rules allow
  pub gcread_goes : (arguments : List Argument) → is_declared_as p.of_module d runtime.GcRead ≡ true → (length arguments == 2) ≡ true → first_failing (read_call_conditions p f table here facts returned arguments) ≡ None
      → Goes heap p table frame.slots reaches guarded log (after_read_call p result arguments facts) (asked arguments runtime.GcRead) (afterwards arguments runtime.GcRead)
  gcread_goes arguments declared arity e =
      let parts = two_parameters arguments (test_true (length arguments) 2 arity) in
      subst (λ x. Goes heap p table frame.slots reaches guarded log (after_read_call p result x facts) (asked x runtime.GcRead) (afterwards x runtime.GcRead)) (sym parts.2)
      (read_pair parts.0 parts.1 declared (subst (λ x. first_failing (read_call_conditions p f table here facts returned x) ≡ None) parts.2 e))

  -- ---- gcwrite

  -- a write of a value under `i8*` for an object that may be used
  write_by : (stored object place : Argument) → a.are_gcwrite_types p.of_module d.returned d.parameters ≡ true → a.are_gcwrite_types p.of_module returned (stored.written ∷ object.written ∷ place.written ∷ []) ≡ true
      → k.is_usable p.of_module f table frame.registers stored.written stored.operand ≡ true → k.is_usable p.of_module f table frame.registers object.written object.operand ≡ true
      → kind_of p.of_module stored.written ≡ AnyReference → IsStored p f table facts stored.written stored.operand → IsPlace p f table facts place.written place.operand → r.stores_known p facts AnyReference (o.known_of facts stored.operand) (o.place_known p.of_module facts place.written place.operand) ≡ true
      → Goes heap p table frame.slots reaches guarded log (after_write (stored ∷ object ∷ place ∷ []) facts) (asked (stored ∷ object ∷ place ∷ []) runtime.GcWrite) (afterwards (stored ∷ object ∷ place ∷ []) runtime.GcWrite)
  write_by stored object place declared written stored_usable object_usable kind i s stores =
      subst (λ x. Goes heap p table frame.slots reaches guarded log (after_write (stored ∷ object ∷ place ∷ []) facts) x (afterwards (stored ∷ object ∷ place ∷ []) runtime.GcWrite)) (sym (rw (declared, written, stored_usable, object_usable) refl))
      (write_goes heap p certs reaches f table guarded log fits cells facts frame h members stored.written stored.operand place.written place.operand i s (ap may_be_reference kind)
      (subst (λ x. r.stores_known p facts x (o.known_of facts stored.operand) (o.place_known p.of_module facts place.written place.operand) ≡ true) (sym kind) stores))

  -- a call of gcwrite with this value, object and place that the rules allow
  write_triple : (stored object place : Argument) → is_declared_as p.of_module d runtime.GcWrite ≡ true → first_failing (write_conditions p f table here facts returned stored object place) ≡ None
      → Goes heap p table frame.slots reaches guarded log (after_write (stored ∷ object ∷ place ∷ []) facts) (asked (stored ∷ object ∷ place ∷ []) runtime.GcWrite) (afterwards (stored ∷ object ∷ place ∷ []) runtime.GcWrite)
  write_triple stored object place declared e =
      let all = rules_hold (write_conditions p f table here facts returned stored object place) e in
      let k1 = and_parts (o.is_available table facts stored.operand && o.is_available table facts object.operand) (o.is_available table facts place.operand) (all K1) in
      let k1s = and_parts (o.is_available table facts stored.operand) (o.is_available table facts object.operand) k1.0 in
      let k2 = and_parts (o.is_value p.of_module f table facts stored.written stored.operand && o.is_value p.of_module f table facts object.written object.operand && o.is_typed p.of_module f place.written place.operand && may_write p table facts stored.operand place.operand (o.place_known p.of_module facts place.written place.operand) && is_one_layout p facts stored.written (o.place_known p.of_module facts place.written place.operand))
      (is_written_as p.of_module returned (stored ∷ object ∷ place ∷ []) runtime.GcWrite) (all K2) in
      let one = and_parts (o.is_value p.of_module f table facts stored.written stored.operand && o.is_value p.of_module f table facts object.written object.operand && o.is_typed p.of_module f place.written place.operand && may_write p table facts stored.operand place.operand (o.place_known p.of_module facts place.written place.operand)) (is_one_layout p facts stored.written (o.place_known p.of_module facts place.written place.operand)) k2.0 in
      let m = and_parts (o.is_value p.of_module f table facts stored.written stored.operand && o.is_value p.of_module f table facts object.written object.operand && o.is_typed p.of_module f place.written place.operand) (may_write p table facts stored.operand place.operand (o.place_known p.of_module facts place.written place.operand)) one.0 in
      let t = and_parts (o.is_value p.of_module f table facts stored.written stored.operand && o.is_value p.of_module f table facts object.written object.operand) (o.is_typed p.of_module f place.written place.operand) m.0 in
      let v = and_parts (o.is_value p.of_module f table facts stored.written stored.operand) (o.is_value p.of_module f table facts object.written object.operand) t.0 in
      let k3 = and_parts (o.is_current facts (o.known_of facts stored.operand) && o.is_current facts (o.known_of facts object.operand)) (o.is_current facts (o.place_known p.of_module facts place.written place.operand)) (all K3) in
      let k3s = and_parts (o.is_current facts (o.known_of facts stored.operand)) (o.is_current facts (o.known_of facts object.operand)) k3.0 in
      let k10 = and_parts (o.is_no_slot table stored.operand && o.is_no_slot table object.operand) (o.is_no_slot table place.operand) (all K10) in
      let k10s = and_parts (o.is_no_slot table stored.operand) (o.is_no_slot table object.operand) k10.0 in
      let w = and_parts (is_runtime_type p.of_module returned types.Void)
      (is_runtime_type p.of_module stored.written types.Pointer && (is_runtime_type p.of_module object.written types.Pointer && (is_runtime_type p.of_module place.written types.PointerToPointer && true))) k2.1 in
      let w1 = and_parts (is_runtime_type p.of_module stored.written types.Pointer) (is_runtime_type p.of_module object.written types.Pointer && (is_runtime_type p.of_module place.written types.PointerToPointer && true)) w.1 in
      let w2 = and_parts (is_runtime_type p.of_module object.written types.Pointer) (is_runtime_type p.of_module place.written types.PointerToPointer && true) w1.1 in
      let w3 = and_parts (is_runtime_type p.of_module place.written types.PointerToPointer) true w2.1 in
      let none = none_of (o.slot_named table stored.operand) k10s.0 in
      let s = access_place p f table facts place.written place.operand k1.1 t.1 k3.1 (all K4) k10.1 (all K19) w3.0 in
      write_by stored object place (write_declared p.of_module d declared) (write_types p.of_module returned stored.written object.written place.written w.0 w1.0 w2.0 w3.0)
      (usable heap p certs reaches f table guarded log cells facts frame h stored.written stored.operand k1s.0 (of_value p.of_module f table facts stored.written stored.operand v.0) none)
      (usable heap p certs reaches f table guarded log cells facts frame h object.written object.operand k1s.1 (of_value p.of_module f table facts object.written object.operand v.1) (none_of (o.slot_named table object.operand) k10s.1))
      (any_reference (kind_of p.of_module stored.written) w1.0) (record { there = k1s.0; typed = of_value p.of_module f table facts stored.written stored.operand v.0; current = k3s.0; no_slot = none }) s (writes s.no_slot m.1) where
        writes : o.slot_named table place.operand ≡ None → may_write p table facts stored.operand place.operand (o.place_known p.of_module facts place.written place.operand) ≡ true → r.stores_known p facts AnyReference (o.known_of facts stored.operand) (o.place_known p.of_module facts place.written place.operand) ≡ true
        writes none e = rw none at e

  -- a call of gcwrite that the rules allow
  pub gcwrite_goes : (arguments : List Argument) → is_declared_as p.of_module d runtime.GcWrite ≡ true → (length arguments == 3) ≡ true → first_failing (write_call_conditions p f table here facts returned arguments) ≡ None
      → Goes heap p table frame.slots reaches guarded log (after_write arguments facts) (asked arguments runtime.GcWrite) (afterwards arguments runtime.GcWrite)
  gcwrite_goes arguments declared arity e =
      let parts = three_parameters arguments (test_true (length arguments) 3 arity) in
      subst (λ x. Goes heap p table frame.slots reaches guarded log (after_write x facts) (asked x runtime.GcWrite) (afterwards x runtime.GcWrite)) (sym parts.3)
      (write_triple parts.0 parts.1 parts.2 declared (subst (λ x. first_failing (write_call_conditions p f table here facts returned x) ≡ None) parts.3 e))
