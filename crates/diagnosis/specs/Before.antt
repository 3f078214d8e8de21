-- What is known before an instruction.
use Rattle.std.specs.Prelude.{ℕ, ◌-◌, List, length, take, slice_get}
use Rattle.std.specs.List.{fold}
use Rattle.ir_ast.specs.declared.instr.Instr.{Instr}
use Rattle.certs.specs.declared.section.Claim.{Claim}
use Rattle.facts.specs.Facts.{FactSet, nothing_known}
use Rattle.block_rules.specs.declared.context.RuleContext.{RuleContext as Given}
use Rattle.block_rules.specs.Edges.{RuleContext, claims_in, entry_facts_at}
use Rattle.block_rules.specs.InstrContext.{phis_of, body_of}
use Rattle.block_rules.specs.Rules.{after}

-- a function as the rules see it
abbrev pub seen : Given → (func : ℕ) → RuleContext
seen c func = record { program = c.program.now; certs = c.certs.now.sections; function = c.function.now; slots = c.slots.now; section = slice_get c.certs.now.sections func }

-- the claims of a block
abbrev pub claims_of : Given → (func block : ℕ) → List Claim
claims_of c func block = claims_in (slice_get c.certs.now.sections func) block

-- nothing is known of the values and slots of the function
abbrev pub nothing_of : Given → FactSet
nothing_of c = nothing_known (length c.function.now.locals) (length c.slots.now.held)

-- what is known after these instructions
abbrev pub after_all : Given → FactSet → List Instr → FactSet
after_all c facts instrs = fold (λ known instr. after c.program.now c.certs.now.sections c.slots.now known instr) facts instrs

-- the instructions of the body of a block before this place of the block
abbrev pub body_before : Given → (block place : ℕ) → List Instr
body_before c block place = take (place - length (phis_of c.function.now block)) (body_of c.function.now block)

-- What is known before the instruction at a place of a block: the rules lead there from what the block begins with.
abbrev pub facts_before : Given → (func block place : ℕ) → FactSet
facts_before c func block place = after_all c (entry_facts_at (seen c func) block) (body_before c block place)
