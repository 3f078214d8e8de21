-- What the rules lead to, step by step and all at once.
use Rattle.std.proofs.Common.{◌≡◌, ◌∙◌, ◌++◌, ℕ, suc, List, [], ◌∷◌, ap, refl}
use Rattle.std.specs.List.{fold}
use Rattle.ir_ast.specs.declared.instr.Instr.{Instr}
use Rattle.facts.specs.Facts.{FactSet}
use Rattle.block_rules.specs.Certified.{Follows}
use Rattle.block_rules.specs.Edges.{RuleContext}
use Rattle.block_rules.specs.Rules.{after}

-- the last of the fact sets is what is known after all of the instructions
pub followed : (s : RuleContext) (block place : ℕ) (facts : FactSet) (instrs : List Instr) (last : FactSet) → Follows s block place facts instrs last
    → last ≡ fold (λ known instr. after s.program s.certs s.slots known instr) facts instrs
followed s block place facts [] last h = h
followed s block place facts (instr ∷ instrs) last h =
    followed s block (suc place) h.0 instrs last h.2 ∙ ap (λ known. fold (λ known instr. after s.program s.certs s.slots known instr) known instrs) h.1.facts_after

-- one instruction more
pub followed_more : (s : RuleContext) (facts : FactSet) (instrs : List Instr) (instr : Instr)
    → fold (λ known instr. after s.program s.certs s.slots known instr) facts (instrs ++ instr ∷ []) ≡ after s.program s.certs s.slots (fold (λ known instr. after s.program s.certs s.slots known instr) facts instrs) instr
followed_more s facts [] instr = refl
followed_more s facts (first ∷ instrs) instr = followed_more s (after s.program s.certs s.slots facts first) instrs instr
