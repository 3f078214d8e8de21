-- When a block is certified, and its first refusal.
use Rattle.std.specs.Prelude.{◌≡◌, ℕ, suc, ◌+◌, List, [], ◌∷◌, ◌++◌, length, take, slice_get, Option, Some, None}
use Rattle.ir_ast.specs.declared.choices.Phi.{Phi}
use Rattle.ir_ast.specs.declared.ends.End.{End}
use Rattle.ir_ast.specs.declared.function.Function.{Function}
use Rattle.ir_ast.specs.declared.instr.Instr.{Instr}
use Rattle.certs.specs.declared.section.Section.{Section}
use Rattle.layout.specs.Layouts.{LaidOut}
use Rattle.shadow_stack.specs.Slots.{slots_of}
use Rattle.facts.specs.Facts.{FactSet}
use Rattle.block_rules.specs.declared.rule.Rule.{Rule}
use Rattle.block_rules.specs.declared.rule.Rule.TheVariants.{K15, K16}
use Rattle.block_rules.specs.declared.instr_context.InstrContext.{InstrContext}
use Rattle.block_rules.specs.FirstFailing.{first_failing}
use Rattle.block_rules.specs.InstrContext.{phis_of, body_of, end_of, instr_context}
use Rattle.block_rules.specs.Promises.{promised_in, own_mark}
use Rattle.block_rules.specs.Rules.{conditions, phi_conditions, end_conditions, after}
use Rattle.block_rules.specs.declared.block_fault.BlockFault.{BlockFault}
use Rattle.block_rules.specs.declared.block_fault.BlockFault.TheVariants.{Refused, Memory}
use Rattle.block_rules.specs.declared.block_fault.Breach.{Breach}
use Rattle.block_rules.specs.declared.block_fault.Detail.{Detail}
use Rattle.block_rules.specs.declared.block_fault.Refusal.{Refusal}
use Rattle.block_rules.specs.Edges.{RuleContext, entry_facts_at, edges, unmet_on, are_entries}

-- where the instruction at a place of a block is
abbrev pub stands : RuleContext → (block place : ℕ) → InstrContext
stands s block place = instr_context s.program.of_module s.function s.slots (promised_in s.section) (own_mark s.section) block place

-- ---- what breaks a rule

-- a rule is failed, if one is
abbrev pub breach_by : Option Rule → Option Breach
breach_by None = None
breach_by (Some rule) = Some (record { rule = rule; detail = None })

-- a claim of a target is not implied, if one is not
abbrev pub unmet : Option Detail → Option Breach
unmet None = None
unmet (Some detail) = Some (record { rule = K15; detail = Some detail })

-- a rule is failed, or else a claim of a target is not implied
abbrev pub breach_of : Option Rule → Option Detail → Option Breach
breach_of None detail = unmet detail
breach_of (Some rule) detail = breach_by (Some rule)

-- what a phi of a block breaks, if it breaks a rule: also K16 is asked of it
abbrev pub phi_breach : RuleContext → (block : ℕ) → InstrContext → Phi → Option Breach
phi_breach s block here phi =
    breach_by (first_failing (phi_conditions s.program.of_module s.function s.slots here phi ++ (K16, are_entries s.function block phi.incoming) ∷ []))

-- what an instruction of a block's body breaks by what is known before it, if it breaks a rule
abbrev pub breach : RuleContext → InstrContext → FactSet → Instr → Option Breach
breach s here facts instr = breach_by (first_failing (conditions s.program s.certs s.function s.slots here facts instr))

-- what the end of a block breaks by what is known before it, if it breaks a rule: also the claims of its targets have to be implied
abbrev pub end_breach : RuleContext → (block : ℕ) → InstrContext → FactSet → End → Option Breach
end_breach s block here facts x =
    breach_of (first_failing (end_conditions s.program s.function s.slots here facts x)) (unmet_on s block facts (edges x))

-- ---- when a block is certified

-- the phis from this place of a block on obey the rules
abbrev pub PhisPass : RuleContext → (block place : ℕ) → List Phi → Type 0
PhisPass s block place [] = Unit {0}
PhisPass s block place (phi ∷ phis) = (phi_breach s block (stands s block place) phi ≡ None) × PhisPass s block (suc place) phis

-- an instruction of a body obeys the rules, and these are the facts after it
pub record Passes (s : RuleContext) (here : InstrContext) (facts : FactSet) (instr : Instr) (next : FactSet) : Type 0 where
  pub keeps : breach s here facts instr ≡ None
  pub facts_after : next ≡ after s.program s.certs s.slots facts instr

-- there is a list of fact sets, from before these instructions to after them, each next one by the rules; the first instruction is at this place of the block
abbrev pub Follows : RuleContext → (block place : ℕ) → FactSet → List Instr → FactSet → Type 0
Follows s block place facts [] last = last ≡ facts
Follows s block place facts (instr ∷ instrs) last =
    (next : FactSet) × Passes s (stands s block place) facts instr next × Follows s block (suc place) next instrs last

-- the end of a block obeys the rules, if there is one
abbrev pub EndPasses : RuleContext → (block place : ℕ) → FactSet → Option End → Type 0
EndPasses s block place facts None = Unit {0}
EndPasses s block place facts (Some x) = end_breach s block (stands s block place) facts x ≡ None

-- how many phis a block has
abbrev pub phi_count : RuleContext → (block : ℕ) → ℕ
phi_count s block = length (phis_of s.function block)

-- at which place of a block its end is
abbrev pub end_place : RuleContext → (block : ℕ) → ℕ
end_place s block = phi_count s block + length (body_of s.function block)

-- the block is certified: its phis obey the rules, the rules lead from what it begins with through its body, and its end obeys them
pub record IsCertified (s : RuleContext) (block : ℕ) : Type 0 where
  pub phis : PhisPass s block 0 (phis_of s.function block)
  pub last : FactSet
  pub body : Follows s block (phi_count s block) (entry_facts_at s block) (body_of s.function block) last
  pub end : EndPasses s block (end_place s block) last (end_of s.function block)

-- ---- the first breach of a block

-- the rules hold up to a place of the block, and what is there is broken in this way: a phi, an instruction of the body, or the end
pub data BreaksAt (s : RuleContext) (block : ℕ) : (place : ℕ) → Breach → Type 0 where
  AtPhi :
      (place : ℕ) (phi : Phi) (broken : Breach) → PhisPass s block 0 (take place (phis_of s.function block)) → slice_get (phis_of s.function block) place ≡ Some phi
      → phi_breach s block (stands s block place) phi ≡ Some broken → BreaksAt s block place broken
  InBody :
      (place : ℕ) (instr : Instr) (before : FactSet) (broken : Breach) → PhisPass s block 0 (phis_of s.function block)
      → Follows s block (phi_count s block) (entry_facts_at s block) (take place (body_of s.function block)) before → slice_get (body_of s.function block) place ≡ Some instr
      → breach s (stands s block (phi_count s block + place)) before instr ≡ Some broken → BreaksAt s block (phi_count s block + place) broken
  AtEnd :
      (x : End) (before : FactSet) (broken : Breach) → PhisPass s block 0 (phis_of s.function block)
      → Follows s block (phi_count s block) (entry_facts_at s block) (body_of s.function block) before → end_of s.function block ≡ Some x
      → end_breach s block (stands s block (end_place s block)) before x ≡ Some broken → BreaksAt s block (end_place s block) broken

-- a function of a program, with its slots and its certificate, among the certificates of all
abbrev pub context_of : LaidOut → (certs : List Section) → Function → Option Section → RuleContext
context_of program certs f section = record { program = program; certs = certs; function = f; slots = slots_of program.of_module f; section = section }

-- a block of a function of the program is certified; a function that does not exist has no such block
abbrev pub IsCertifiedIn : LaidOut → (certs : List Section) → Option Section → Option Function → (block : ℕ) → Type 0
IsCertifiedIn program certs section None block = ⊥
IsCertifiedIn program certs section (Some f) block = IsCertified (context_of program certs f section) block

-- a block of a function of the program breaks a rule at a place
abbrev pub BreaksIn : LaidOut → (certs : List Section) → Option Section → Option Function → (block place : ℕ) → Breach → Type 0
BreaksIn program certs section None block place broken = ⊥
BreaksIn program certs section (Some f) block place broken = BreaksAt (context_of program certs f section) block place broken

-- a block of the program is certified
abbrev pub BlockCertified : LaidOut → List Section → (func block : ℕ) → Type 0
BlockCertified program certs func block = IsCertifiedIn program certs (slice_get certs func) (slice_get program.of_module.functions func) block

-- this is the first refusal of a block of the program: the place where it breaks, and what it breaks there
pub record FirstRefusal (program : LaidOut) (certs : List Section) (func block : ℕ) (refusal : Refusal) : Type 0 where
  pub of_func : refusal.func ≡ func
  pub of_block : refusal.block ≡ block
  pub breaks : BreaksIn program certs (slice_get certs func) (slice_get program.of_module.functions func) block refusal.instr (record { rule = refusal.rule; detail = refusal.detail })

-- this holds of a refusal, if the fault is one
abbrev pub IfRefused : BlockFault → (Refusal → Type 0) → Type 0
IfRefused (Refused refusal) P = P refusal
IfRefused Memory P = Unit {0}
