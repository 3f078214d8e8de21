-- The phis of a certified block may take their entries.
use Rattle.std.proofs.Common.{◌≡◌, ℕ, suc, List, [], ◌∷◌, refl, subst, true, false, Bool, Option, Some, None, is_some, slice_get, sym, ap, ◌∙◌}
use Rattle.std.specs.Prelude.{◌||◌, ◌&&◌, ◌++◌, not, if◌then◌else◌}
use Rattle.lemmas.specs.Bools.{and_parts, and_true, or_second}
use Rattle.ir_ast.specs.declared.choices.Incoming.{Incoming}
use Rattle.ir_ast.specs.declared.choices.Phi.{Phi}
use Rattle.ir_ast.specs.declared.function.Function.{Function}
use Rattle.ir_ast.specs.declared.function.LocalSort.{LocalSort}
use Rattle.ir_ast.specs.declared.function.LocalSort.TheVariants as sort
use Rattle.ir_ast.specs.declared.module.Module.{Module}
use Rattle.ir_ast.specs.declared.operand.Operand.{Operand}
use Rattle.ir_ast.specs.declared.operand.Operand.TheVariants as operand
use Rattle.types.specs.Globals.{points_to_global}
use Rattle.types.specs.RuntimeCall.{is_outside}
use Rattle.types.specs.ValueTypes.{is_value_of, has_type, target_of}
use Rattle.shadow_stack.specs.Slots.{SlotTable, slot_of, is_opaque_address}
use Rattle.block_rules.specs.declared.rule.Rule.{Rule}
use Rattle.block_rules.specs.declared.rule.Rule.TheVariants.{K2, K16}
use Rattle.block_rules.specs.declared.instr_context.InstrContext.{InstrContext}
use Rattle.type_kinds.specs.declared.type_kind.TypeKind.{TypeKind}
use Rattle.type_kinds.specs.declared.type_kind.TypeKind.TheVariants.{NoValue, Bits, Reference, AnyReference, Address, Other}
use Rattle.block_rules.specs.FirstFailing.{first_failing}
use Rattle.type_kinds.specs.TypeKinds.{kind_of, is_integer, is_pointer, may_be_reference}
use Rattle.block_rules.specs.Integers.{may_choose}
use Rattle.block_rules.specs.Rules.{phi_conditions, is_entry, may_come_in, all_come_in}
use Rattle.block_rules.specs.Certified.{PhisPass, stands}
use Rattle.block_rules.specs.Edges.{RuleContext, are_entries}
use Rattle.machine.specs.Jumps as j
use Rattle.machine.specs.Kinds as k
use Rattle.soundness.proofs.KindLemmas.{constant_passes, integer_same, pointer_type_same, refers_same}
use Rattle.soundness.proofs.Steps.{none_of}
use Rattle.soundness.proofs.RulesHold.{rules_hold, first_passes, unbroken}

-- what may be chosen is an integer or a reference
scalar_kind : (x : TypeKind) → may_choose x ≡ true → (is_integer x || may_be_reference x) ≡ true
scalar_kind NoValue e = absurd cc
scalar_kind (Bits bits) e = refl
scalar_kind (Reference layout) e = refl
scalar_kind AnyReference e = refl
scalar_kind Address e = absurd cc
scalar_kind Other e = absurd cc

module _ (m : Module) (f : Function) (table : SlotTable) where
  -- a name that may come in has the written type: a value, or where the text has the wide forms an address, or the name of a buffer
  value_typed : (written v : ℕ) → is_entry m f written v (slice_get f.sorts v) ≡ true → has_type m f written v ≡ true
  value_typed written v e = by (slice_get f.sorts v) refl e where
    by : (given : Option LocalSort) → slice_get f.sorts v ≡ given → is_entry m f written v given ≡ true → is_value_of m f written given ≡ true
    by None is e = absurd cc
    by (Some sort.Unknown) is e = absurd cc
    by (Some (sort.Value type)) is e = e
    by (Some (sort.Slot held)) is e = ap (is_value_of m f written) (sym is) ∙ (and_parts m.wide (has_type m f written v) e).1
    by (Some (sort.Element block place)) is e = ap (is_value_of m f written) (sym is) ∙ (and_parts m.wide (has_type m f written v) e).1
    by (Some (sort.Block block)) is e = absurd cc

  -- a name of something outside comes in at a pointer type
  outside_typed : (written symbol : ℕ) (other : Bool) → (is_outside m symbol && is_pointer (kind_of m written)) ≡ true → (is_outside m symbol && (other || (is_outside m symbol && k.is_pointer_type (slice_get m.types written))) && (m.wide || true)) ≡ true
  outside_typed written symbol other e =
      let b = and_parts (is_outside m symbol) (is_pointer (kind_of m written)) e in
      let there = and_true (is_outside m symbol) (k.is_pointer_type (slice_get m.types written)) b.0 (sym (pointer_type_same m written) ∙ b.1) in
      and_true (is_outside m symbol && (other || (is_outside m symbol && k.is_pointer_type (slice_get m.types written)))) (m.wide || true)
      (and_true (is_outside m symbol) (other || (is_outside m symbol && k.is_pointer_type (slice_get m.types written))) b.0 (or_second other _ there)) (or_second m.wide true refl)

  -- an entry that the rules let come in has the written type, and is no address in a cell or of a global
  operand_typed : (written : ℕ) (x : Operand) → may_come_in m f table written x ≡ true → j.entry_fits m f table written (Some x) ≡ true
  operand_typed written (operand.Constant c) e = rw (constant_passes m written c e) (or_second m.wide true refl)
  operand_typed written (operand.Local v) e =
      let all = and_parts (is_entry m f written v (slice_get f.sorts v) && not (is_some (slot_of table v))) (m.wide || not (is_opaque_address m table written (operand.Local v))) e in
      let b = and_parts (is_entry m f written v (slice_get f.sorts v)) (not (is_some (slot_of table v))) all.0 in
      rw (value_typed written v b.0, none_of (slot_of table v) b.1, all.1) refl
  operand_typed written (operand.Global g) e = outside_typed written g (points_to_global m written g) e
  operand_typed written (operand.CastGlobal from g to) e = outside_typed written g _ e

  entry_typed : (written from : ℕ) (incoming : List Incoming) → all_come_in m f table written incoming ≡ true → j.entry_fits m f table written (j.entry_for f from incoming) ≡ true
  entry_typed written from [] e = refl
  entry_typed written from (entry ∷ incoming) e =
      let b = and_parts (may_come_in m f table written entry.operand) (all_come_in m f table written incoming) e in
      pick (j.is_block from (target_of f entry.from)) (operand_typed written entry.operand b.0) (entry_typed written from incoming b.1) where
        pick : (b : Bool) → j.entry_fits m f table written (Some entry.operand) ≡ true → j.entry_fits m f table written (j.entry_for f from incoming) ≡ true
            → j.entry_fits m f table written (if b then Some entry.operand else j.entry_for f from incoming) ≡ true
        pick true first rest = first
        pick false first rest = rest

  scalar_written : (written : ℕ) → may_choose (kind_of m written) ≡ true → k.is_scalar m written ≡ true
  scalar_written written e =
      subst (λ x. (x || k.may_refer m written) ≡ true) (integer_same m written)
      (subst (λ x. (is_integer (kind_of m written) || x) ≡ true) (refers_same m written) (scalar_kind (kind_of m written) e))

  -- a phi that the rules allow may take its entry
  pub phi_fits_so : (from : ℕ) (here : InstrContext) (phi : Phi) → first_failing (phi_conditions m f table here phi) ≡ None → j.phi_fits m f table from phi ≡ true
  phi_fits_so from here phi e =
      let all = rules_hold (phi_conditions m f table here phi) e in
      let b = and_parts (may_choose (kind_of m phi.written)) (all_come_in m f table phi.written phi.incoming) (all K2) in
      rw (scalar_written phi.written b.0, entry_typed phi.written from phi.incoming b.1) refl

-- the phis of a block that obey the rules may take their entries from a block
pub phis_fit_so : (s : RuleContext) (block place from : ℕ) (phis : List Phi) → PhisPass s block place phis → j.phis_fit s.program.of_module s.function s.slots from phis ≡ true
phis_fit_so s block place from [] pass = refl
phis_fit_so s block place from (phi ∷ phis) pass =
    let conditions = phi_conditions s.program.of_module s.function s.slots (stands s block place) phi in
    let entries : List (Rule × Bool) = (K16, are_entries s.function block phi.incoming) ∷ [] in
    let allowed = first_passes conditions entries (unbroken (first_failing (conditions ++ entries)) pass.0) in
    rw (phi_fits_so s.program.of_module s.function s.slots from (stands s block place) phi allowed, phis_fit_so s block (suc place) from phis pass.1) refl
