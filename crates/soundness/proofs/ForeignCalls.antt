-- Calls of functions outside that are trusted.
use Rattle.std.proofs.Common.{◌≡◌, ℕ, Bool, List, [], ◌∷◌, length, refl, sym, ◌∙◌, subst, arith, true, false, Option, Some, None, slice_get, inl, inr}
use Rattle.std.proofs.lemmas.Bool.Decides.{nat_tests}
use Rattle.std.specs.Prelude.{◌≤◌, ◌==◌, ◌&&◌, ◌||◌, nat_le, take, drop}
use Rattle.std.specs.List.{list_all, list_any, zip}
use Rattle.lemmas.specs.Numbers.{test_true}
use Rattle.lemmas.specs.Bools.{and_parts, and_true, or_first, or_second, or_parts}
use Rattle.ir_ast.specs.declared.argument.Argument.{Argument}
use Rattle.ir_ast.specs.declared.function.Function.{Function}
use Rattle.ir_ast.specs.declared.items_of_module.Declare.{Declare}
use Rattle.pools.specs.Heap.{Setup}
use Rattle.layout.specs.Layouts.{LaidOut}
use Rattle.shadow_stack.specs.Slots.{SlotTable}
use Rattle.certs.specs.declared.section.Section.{Section}
use Rattle.fact_tables.specs.declared.known.Known.TheVariants.{Nothing}
use Rattle.facts.specs.Facts.{FactSet}
use Rattle.block_rules.specs.declared.instr_context.InstrContext.{InstrContext}
use Rattle.block_rules.specs.declared.rule.Rule.TheVariants.{K1, K2, K10, K18}
use Rattle.type_kinds.specs.declared.type_kind.TypeKind.{TypeKind}
use Rattle.type_kinds.specs.declared.type_kind.TypeKind.TheVariants.{NoValue, Bits, Reference, AnyReference, Address, Other}
use Rattle.block_rules.specs.Calls as c
use Rattle.block_rules.specs.Calls.{all_available, no_slots, all_outside, within, past, is_foreign_argument, is_written_at, is_written_to, foreign_conditions, after_foreign_call}
use Rattle.block_rules.specs.FirstFailing.{first_failing}
use Rattle.block_rules.specs.Operands as o
use Rattle.block_rules.specs.Signature.{is_foreign}
use Rattle.type_kinds.specs.TypeKinds.{kind_of, is_void, is_integer, is_pointer}
use Rattle.machine.specs.declared.action.Action.TheVariants.{Local}
use Rattle.machine.specs.declared.frame.Frame.{Frame}
use Rattle.machine.specs.declared.value.Value.TheVariants as value
use Rattle.machine.specs.Asks as a
use Rattle.machine.specs.Kinds as k
use Rattle.machine.specs.Log.{Log}
use Rattle.machine.specs.Machine as mc
use Rattle.soundness.specs.Goes.{Goes}
use Rattle.soundness.specs.Meaning.{Cells, Guarded, Holds}
use Rattle.soundness.proofs.Change.{define_plain}
use Rattle.soundness.proofs.KindLemmas.{void_same}
use Rattle.soundness.proofs.Outside.{outside_is, usable_outside, null_at, given_goes}
use Rattle.soundness.proofs.RulesHold.{rules_hold}
use Rattle.soundness.proofs.Steps.{goes_local, kind_bits, none_of, number_usable}
use Rattle.soundness.proofs.Values.{of_value}

-- void is the kind without a value
void_is : (x : TypeKind) → is_void x ≡ true → x ≡ NoValue
void_is NoValue e = refl
void_is (Bits bits) e = absurd cc
void_is (Reference layout) e = absurd cc
void_is AnyReference e = absurd cc
void_is Address e = absurd cc
void_is Other e = absurd cc

module _ (heap : Setup) (p : LaidOut) (certs : List Section) (reaches : Bool) (f : Function) (table : SlotTable) (guarded : Guarded) (log : Log) (here : InstrContext) (cells : Cells) (facts : FactSet) (frame : Frame) (h : Holds heap p table guarded log cells facts frame.registers frame.slots) (result : Option ℕ) (returned : ℕ) where
  -- an argument that the rules allow is taken
  argument_taken : (argument : Argument) → o.is_available table facts argument.operand ≡ true → is_foreign_argument p.of_module f table facts argument ≡ true → o.is_no_slot table argument.operand ≡ true
      → (k.is_usable_number p.of_module f table frame.registers argument.written argument.operand || a.is_address_argument p.of_module f table frame.registers argument) ≡ true
  argument_taken argument k1 k2 k10 =
      let m = p.of_module in
      let usable = k.is_usable_number m f table frame.registers argument.written argument.operand in
      let address = a.is_address_argument m f table frame.registers argument in
      let null = k.is_null_at m argument.written argument.operand in
      let outside = k.is_usable_outside m f table frame.registers argument.written argument.operand in
      elim (or_parts (is_integer (kind_of m argument.written) && o.is_value m f table facts argument.written argument.operand) ((o.is_null argument.operand && is_pointer (kind_of m argument.written)) || o.is_outside_value m f table facts argument.written argument.operand) k2) [
        | inl number ↦
            let b = and_parts (is_integer (kind_of m argument.written)) (o.is_value m f table facts argument.written argument.operand) number in
            let bits = kind_bits heap p certs reaches f table guarded log cells facts frame h (kind_of m argument.written) b.0 in
            or_first usable address
            (number_usable heap p certs reaches f table guarded log cells facts frame h argument.written bits.0 argument.operand bits.1 k1 (of_value m f table facts argument.written argument.operand b.1) (none_of (o.slot_named table argument.operand) k10))
        | inr other ↦ or_second usable address (elim (or_parts (o.is_null argument.operand && is_pointer (kind_of m argument.written)) (o.is_outside_value m f table facts argument.written argument.operand) other) [
          | inl e ↦ let b = and_parts (o.is_null argument.operand) (is_pointer (kind_of m argument.written)) e in or_first null outside (null_at m argument.written argument.operand b.0 b.1)
          | inr e ↦
              or_second null outside
              (usable_outside heap p f table guarded log cells facts frame.registers frame.slots h argument.written argument.operand (outside_is heap p f table guarded log cells facts frame.registers frame.slots h argument.written argument.operand e))
        ])
      ]

  -- past the parameters each is an address outside
  past_taken : (arguments : List Argument) → all_outside p.of_module f table facts arguments ≡ true → a.are_outside_arguments p.of_module f table frame.registers [] arguments ≡ true
  past_taken [] e = refl
  past_taken (argument ∷ arguments) e =
      let b = and_parts (o.is_outside_value p.of_module f table facts argument.written argument.operand) (all_outside p.of_module f table facts arguments) e in
      and_true (k.is_usable_outside p.of_module f table frame.registers argument.written argument.operand) (a.are_outside_arguments p.of_module f table frame.registers [] arguments)
      (usable_outside heap p f table guarded log cells facts frame.registers frame.slots h argument.written argument.operand (outside_is heap p f table guarded log cells facts frame.registers frame.slots h argument.written argument.operand b.0)) (past_taken arguments b.1)

  -- in the place of a parameter each is taken, written with its type
  all_taken : (types : List ℕ) (arguments : List Argument) → length types ≤ length arguments → list_all is_written_at (zip arguments types) ≡ true → all_available table facts arguments ≡ true
      → list_all (is_foreign_argument p.of_module f table facts) (take (length types) arguments) ≡ true → no_slots table arguments ≡ true → all_outside p.of_module f table facts (drop (length types) arguments) ≡ true
      → a.are_outside_arguments p.of_module f table frame.registers types arguments ≡ true
  all_taken [] arguments enough written k1 k2 k10 k18 = past_taken arguments k18
  all_taken (type ∷ types) [] enough written k1 k2 k10 k18 = absurd (omega (arith, enough))
  all_taken (type ∷ types) (argument ∷ arguments) enough written k1 k2 k10 k18 =
      let w = and_parts (argument.written == type) (list_all is_written_at (zip arguments types)) written in
      let a1 = and_parts (o.is_available table facts argument.operand) (all_available table facts arguments) k1 in
      let a2 = and_parts (is_foreign_argument p.of_module f table facts argument) (list_all (is_foreign_argument p.of_module f table facts) (take (length types) arguments)) k2 in
      let a10 = and_parts (o.is_no_slot table argument.operand) (no_slots table arguments) k10 in
      and_true (argument.written == type) _ w.0
      (and_true (k.is_usable_number p.of_module f table frame.registers argument.written argument.operand || a.is_address_argument p.of_module f table frame.registers argument) (a.are_outside_arguments p.of_module f table frame.registers types arguments)
      (argument_taken argument a1.0 a2.0 a10.0) (all_taken types arguments (omega (arith, enough)) w.1 a1.1 a2.1 a10.1 k18))

  -- a function without a result gives nothing
  asks_nothing : is_void (kind_of p.of_module returned) ≡ true → a.asked_outside (slice_get p.of_module.types returned) ≡ Local
  asks_nothing e = rw (sym (void_same p.of_module returned) ∙ e) refl

  gives_nothing : kind_of p.of_module returned ≡ NoValue → (name : Option ℕ)
      → (more : Cells) × Holds heap p table guarded log more (after_foreign_call p.of_module name returned facts) (mc.set_register name value.Unset frame).registers (mc.set_register name value.Unset frame).slots
  gives_nothing kind None = (cells, h)
  gives_nothing kind (Some v) = rw kind (cells, define_plain heap p table guarded log cells facts frame.registers frame.slots h v Nothing value.Unset (λ c l s e. cc) tt)

  -- another one gives a number of its type, or an address outside
  asks_given : (is_integer (kind_of p.of_module returned) || is_pointer (kind_of p.of_module returned)) ≡ true → a.asked_outside (slice_get p.of_module.types returned) ≡ a.asked_given (slice_get p.of_module.types returned)
  asks_given e = rw (sym (void_same p.of_module returned) ∙ no_void (kind_of p.of_module returned) e) refl where
    no_void : (x : TypeKind) → (is_integer x || is_pointer x) ≡ true → is_void x ≡ false
    no_void NoValue e = absurd cc
    no_void (Bits bits) e = refl
    no_void (Reference layout) e = refl
    no_void AnyReference e = refl
    no_void Address e = refl
    no_void Other e = absurd cc

  -- a call of a function outside that the rules allow
  pub foreign_goes : (defined : Option Function) (d : Declare) (arguments : List Argument) → is_foreign p.of_module (length arguments) d ≡ true → first_failing (foreign_conditions p.of_module f table here facts returned arguments (Some d)) ≡ None
      → Goes heap p table frame.slots reaches guarded log (after_foreign_call p.of_module result returned facts) (a.call_action p f table frame.registers returned arguments (Some d) defined None) (λ given. mc.after_call p f table result arguments None given frame)
  foreign_goes defined d arguments trusted e =
      let m = p.of_module in
      let all = rules_hold (foreign_conditions m f table here facts returned arguments (Some d)) e in
      let is_trusted = list_any (λ s. s == d.symbol) m.trusted.functions in
      let gives = is_void (kind_of m d.returned) || (is_integer (kind_of m d.returned) || is_pointer (kind_of m d.returned)) in
      let arity = nat_le (length d.parameters) (length arguments) in
      let wide = and_parts m.wide (is_trusted && (gives && arity)) trusted in
      let right = and_parts gives arity (and_parts is_trusted (gives && arity) wide.1).1 in
      let enough : length d.parameters ≤ length arguments = let e = right.1 in grind (arith, nat_tests, e) in
      let within_taken = list_all (is_foreign_argument m f table facts) (within (Some d) arguments) in
      let past_typed = c.all_taken m f table facts None (past (Some d) arguments) in
      let k2 = and_parts (within_taken && past_typed) (is_written_to returned arguments (Some d)) (all K2) in
      let within_so = and_parts within_taken past_typed k2.0 in
      let types = and_parts (returned == d.returned) (list_all is_written_at (zip arguments d.parameters)) k2.1 in
      let taken = all_taken d.parameters arguments enough types.1 (all K1) within_so.0 (all K10) (all K18) in
      let fit = a.are_outside_arguments m f table frame.registers d.parameters arguments in
      let may : (m.wide && ((returned == d.returned) && fit)) ≡ true = and_true m.wide ((returned == d.returned) && fit) wide.0 (and_true (returned == d.returned) fit types.0 taken) in
      let asked : a.call_action p f table frame.registers returned arguments (Some d) defined None ≡ a.asked_outside (slice_get m.types returned) = rw may refl in
      let datum = is_integer (kind_of m returned) || is_pointer (kind_of m returned) in
      let given : (is_void (kind_of m returned) || datum) ≡ true = subst (λ t. (is_void (kind_of m t) || (is_integer (kind_of m t) || is_pointer (kind_of m t))) ≡ true) (sym (test_true returned d.returned types.0)) right.0 in
      elim (or_parts (is_void (kind_of m returned)) datum given) [
        | inl nothing ↦ goes_local heap p table frame.slots reaches guarded log _ _ _ (asked ∙ asks_nothing nothing) (gives_nothing (void_is (kind_of m returned) nothing) result)
        | inr some ↦ given_goes heap p reaches table guarded log cells facts frame h result returned (λ name. after_foreign_call m name returned facts) _ (asked ∙ asks_given some) some refl (λ v. refl)
      ]
