-- The rules ask the same of a function, and imply the same of it, among other functions and certificates.
use Rattle.std.specs.Prelude.{◌≡◌, ℕ, zero, suc, ◌+◌, List, [], ◌∷◌, ◌++◌, length, take, slice_get, Option, Some, None, refl}
use Rattle.std.specs.List.{AllByRecursion}
use Rattle.std.proofs.Common.{ap, sym, subst, ◌∙◌}
use Rattle.ir_ast.specs.declared.choices.Phi.{Phi}
use Rattle.ir_ast.specs.declared.ends.End.{End}
use Rattle.ir_ast.specs.declared.function.Function.{Function}
use Rattle.ir_ast.specs.declared.instr.Instr.{Instr}
use Rattle.ir_ast.specs.declared.op.Op.{Op}
use Rattle.ir_ast.specs.declared.op.Op.TheVariants as op
use Rattle.certs.specs.declared.section.Section.{Section}
use Rattle.layout.specs.Layouts.{LaidOut}
use Rattle.shadow_stack.specs.Slots.{SlotTable}
use Rattle.facts.specs.Facts.{FactSet}
use Rattle.block_rules.specs.declared.block_fault.Breach.{Breach}
use Rattle.block_rules.specs.declared.rule.Rule.TheVariants.{K16}
use Rattle.block_rules.specs.declared.instr_context.InstrContext.{InstrContext}
use Rattle.block_rules.specs.FirstFailing.{first_failing}
use Rattle.block_rules.specs.InstrContext.{phis_of, body_of, end_of}
use Rattle.block_rules.specs.Promises.{promised_in, own_mark}
use Rattle.block_rules.specs.Rules.{op_conditions, after_op}
use Rattle.block_rules.specs.Signature.{callable_sort}
use Rattle.block_rules.specs.Calls.{call_conditions, after_call}
use Rattle.block_rules.specs.Edges.{RuleContext, edges, are_entries, entry_facts_at}
use Rattle.block_rules.specs.Certified.{stands, breach_by, breach_of, phi_breach, breach, end_breach, PhisPass, Passes, Follows, EndPasses, phi_count, end_place, IsCertified, BreaksAt, AtPhi, InBody, AtEnd}
use Rattle.answers.specs.Local.{laid_with, context_with, called_by, IfThere, LooksSame}
use Rattle.answers.proofs.Rules.{number_conditions_same, memory_conditions_same, element_conditions_same, cast_conditions_same, choice_conditions_same, phi_conditions_same, end_conditions_same, after_memory_same, after_named_same}
use Rattle.answers.proofs.InstrContext.{instr_context_same}
use Rattle.answers.proofs.Edges.{entry_facts_at_same, unmet_on_same}
use Rattle.answers.proofs.Seen.{callee_same, callee_looks_same, call_same, after_call_same}

-- ---- instructions

module _ (p : LaidOut) (certs : List Section) (fs : List Function) (others : List Section) where
  abbrev Same : ℕ → Type 0
  Same = LooksSame p certs fs others

  op_conditions_same : (f : Function) (slots : SlotTable) (here : InstrContext) (facts : FactSet) (result : Option ℕ) (x : Op) → IfThere Same (called_by p.of_module x)
      → op_conditions (laid_with p fs) others f slots here facts result x ≡ op_conditions p certs f slots here facts result x
  op_conditions_same f slots here facts result (op.Number x) h = λ along. number_conditions_same p fs along f slots here facts x
  op_conditions_same f slots here facts result (op.Memory x) h = λ along. memory_conditions_same p fs along f slots here facts result x
  op_conditions_same f slots here facts result (op.Element x) h = λ along. element_conditions_same p fs along f slots here facts x
  op_conditions_same f slots here facts result (op.Cast x) h = λ along. cast_conditions_same p fs along f slots here facts x
  op_conditions_same f slots here facts result (op.Choice x) h = λ along. choice_conditions_same p fs along f slots here facts x
  op_conditions_same f slots here facts result (op.Call x) h =
      let sort = slice_get p.of_module.sorts x.callee in
      let count = length x.arguments in
      ap (call_conditions (laid_with p fs) others f slots here facts x.returned x.arguments) (callee_same p certs fs others x.callee count sort h)
      ∙ call_same p certs fs others f slots here facts x.returned x.arguments (callable_sort p.of_module x.callee count sort) (callee_looks_same p certs fs others x.callee count sort h)

  after_op_same : (slots : SlotTable) (result : Option ℕ) (x : Op) (facts : FactSet) → IfThere Same (called_by p.of_module x)
      → after_op (laid_with p fs) others slots result x facts ≡ after_op p certs slots result x facts
  after_op_same slots result (op.Memory x) facts h = λ along. after_memory_same p fs along slots result x facts
  after_op_same slots result (op.Call x) facts h =
      let sort = slice_get p.of_module.sorts x.callee in
      let count = length x.arguments in
      ap (λ callee. after_call (laid_with p fs) others slots result x.returned x.arguments callee facts) (callee_same p certs fs others x.callee count sort h)
      ∙ after_call_same p certs fs others slots result x.returned x.arguments (callable_sort p.of_module x.callee count sort) facts (callee_looks_same p certs fs others x.callee count sort h)
  after_op_same slots None _ facts h = refl
  after_op_same slots (Some v) x facts h = λ along. after_named_same p fs along slots v x facts

-- ---- a context

module _ (s : RuleContext) (fs : List Function) (others : List Section) where
  abbrev other : RuleContext
  other = context_with s fs others

  -- the functions that an instruction calls look the same
  abbrev Fine : Instr → Type 0
  Fine instr = IfThere (LooksSame s.program s.certs fs others) (called_by s.program.of_module instr.op)

  stands_same : (block place : ℕ) → stands other block place ≡ stands s block place
  stands_same block place = λ along. instr_context_same s.program.of_module fs along s.function s.slots (promised_in s.section) (own_mark s.section) block place

  phi_breach_same : (block place : ℕ) (phi : Phi) → phi_breach other block (stands other block place) phi ≡ phi_breach s block (stands s block place) phi
  phi_breach_same block place phi = λ along.
      breach_by (first_failing (phi_conditions_same s.program.of_module fs along s.function s.slots (stands_same block place along) phi ++ (K16, are_entries s.function block phi.incoming) ∷ []))

  breach_same : (here : InstrContext) (facts : FactSet) (instr : Instr) → Fine instr → breach other here facts instr ≡ breach s here facts instr
  breach_same here facts instr fine = ap (λ listed. breach_by (first_failing listed)) (op_conditions_same s.program s.certs fs others s.function s.slots here facts instr.result instr.op fine)

  body_breach_same : (block place : ℕ) (facts : FactSet) (instr : Instr) → Fine instr → breach other (stands other block place) facts instr ≡ breach s (stands s block place) facts instr
  body_breach_same block place facts instr fine = ap (λ here. breach other here facts instr) (stands_same block place) ∙ breach_same (stands s block place) facts instr fine

  end_breach_same : (block place : ℕ) (facts : FactSet) (x : End) → end_breach other block (stands other block place) facts x ≡ end_breach s block (stands s block place) facts x
  end_breach_same block place facts x = λ along.
      breach_of (first_failing (end_conditions_same s.program fs along s.function s.slots (stands_same block place along) facts x)) (unmet_on_same s fs others along block facts (edges x))

  -- ---- what passes

  phis_pass : (block place : ℕ) (phis : List Phi) → PhisPass s block place phis → PhisPass other block place phis
  phis_pass block place [] h = tt
  phis_pass block place (phi ∷ phis) h = (phi_breach_same block place phi ∙ h.0, phis_pass block (suc place) phis h.1)

  passes : (block place : ℕ) (facts : FactSet) (instr : Instr) (next : FactSet) → Fine instr → Passes s (stands s block place) facts instr next → Passes other (stands other block place) facts instr next
  passes block place facts instr next fine h = record {
    keeps = body_breach_same block place facts instr fine ∙ h.keeps;
    facts_after = h.facts_after ∙ sym (after_op_same s.program s.certs fs others s.slots instr.result instr.op facts fine);
  }

  follow : (block place : ℕ) (facts : FactSet) (instrs : List Instr) (last : FactSet) → AllByRecursion Fine instrs → Follows s block place facts instrs last → Follows other block place facts instrs last
  follow block place facts [] last fine h = h
  follow block place facts (instr ∷ instrs) last fine h = (h.0, passes block place facts instr h.0 fine.0 h.1, follow block (suc place) h.0 instrs last fine.1 h.2)

  end_passes : (block place : ℕ) (facts : FactSet) (x : Option End) → EndPasses s block place facts x → EndPasses other block place facts x
  end_passes block place facts None h = tt
  end_passes block place facts (Some x) h = end_breach_same block place facts x ∙ h

  -- ---- a block

  -- so do those that its body calls
  abbrev AllFine : (block : ℕ) → Type 0
  AllFine block = AllByRecursion Fine (body_of s.function block)

  all_pass : (block : ℕ) → PhisPass s block 0 (phis_of s.function block) → PhisPass other block 0 (phis_of s.function block)
  all_pass block h = phis_pass block 0 (phis_of s.function block) h

  -- the same instructions lead from the same facts to the same facts
  lead : (block : ℕ) (instrs : List Instr) (last : FactSet) → AllByRecursion Fine instrs → Follows s block (phi_count s block) (entry_facts_at s block) instrs last → Follows other block (phi_count s block) (entry_facts_at other block) instrs last
  lead block instrs last fine h =
      let given : entry_facts_at other block ≡ entry_facts_at s block = λ along. entry_facts_at_same s fs others along block in
      subst (λ (facts : FactSet). Follows other block (phi_count s block) facts instrs last) (sym given) (follow block (phi_count s block) (entry_facts_at s block) instrs last fine h)

  pub block_stays : (block : ℕ) → AllFine block → IsCertified s block → IsCertified other block
  block_stays block fine h = record {
    phis = all_pass block h.phis;
    last = h.last;
    body = lead block (body_of s.function block) h.last fine h.body;
    end = end_passes block (end_place s block) h.last (end_of s.function block) h.end;
  }

  first_fine : (place : ℕ) (instrs : List Instr) → AllByRecursion Fine instrs → AllByRecursion Fine (take place instrs)
  first_fine zero instrs h = tt
  first_fine (suc place) [] h = tt
  first_fine (suc place) (instr ∷ instrs) h = (h.0, first_fine place instrs h.1)

  one_fine : (place : ℕ) (instrs : List Instr) (instr : Instr) → AllByRecursion Fine instrs → slice_get instrs place ≡ Some instr → Fine instr
  one_fine place [] instr h at = absurd cc
  one_fine zero (x ∷ instrs) instr h at = let same : x ≡ instr = cc in subst Fine same h.0
  one_fine (suc place) (x ∷ instrs) instr h at = one_fine place instrs instr h.1 at

  pub breach_stays : (block place : ℕ) (broken : Breach) → AllFine block → BreaksAt s block place broken → BreaksAt other block place broken
  breach_stays block place broken fine (AtPhi i phi found passes at is) =
      AtPhi i phi found (phis_pass block 0 (take i (phis_of s.function block)) passes) at (phi_breach_same block i phi ∙ is)
  breach_stays block place broken fine (InBody i instr before found passes follows at is) =
      let body = body_of s.function block in
      InBody i instr before found (all_pass block passes) (lead block (take i body) before (first_fine i body fine) follows) at
      (body_breach_same block (phi_count s block + i) before instr (one_fine i body instr fine at) ∙ is)
  breach_stays block place broken fine (AtEnd x before found passes follows at is) =
      AtEnd x before found (all_pass block passes) (lead block (body_of s.function block) before fine follows) at (end_breach_same block (end_place s block) before x ∙ is)
