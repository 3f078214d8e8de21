-- The edges out of a block: where they lead, what they imply, and which claims of their targets are not implied.
use Rattle.std.specs.Prelude.{ℕ, ◌==◌, Bool, true, false, not, ◌&&◌, ◌||◌, if◌then◌else◌, List, [], ◌∷◌, map, length, position, slice_get, Option, Some, None}
use Rattle.std.specs.List.{list_all, list_any, range_with_len}
use Rattle.ir_ast.specs.declared.choices.Incoming.{Incoming}
use Rattle.ir_ast.specs.declared.choices.Phi.{Phi}
use Rattle.ir_ast.specs.declared.ends.End.{End}
use Rattle.ir_ast.specs.declared.ends.End.TheVariants.{Jump, Branch, Switch}
use Rattle.ir_ast.specs.declared.function.Function.{Function}
use Rattle.ir_ast.specs.declared.function.Parameter.{Parameter}
use Rattle.ir_ast.specs.declared.module.Module.{Module}
use Rattle.ir_ast.specs.declared.operand.Constant.{Constant}
use Rattle.ir_ast.specs.declared.operand.Constant.TheVariants as constant
use Rattle.ir_ast.specs.declared.operand.Operand.{Operand}
use Rattle.ir_ast.specs.declared.operand.Operand.TheVariants.{Constant as Written, Local, Global, CastGlobal}
use Rattle.layout.specs.Layouts.{LaidOut}
use Rattle.types.specs.ValueTypes.{target_of}
use Rattle.shadow_stack.specs.Slots.{SlotTable}
use Rattle.certs.specs.declared.section.Claim.{Claim}
use Rattle.certs.specs.declared.section.Promise.{Promise}
use Rattle.certs.specs.declared.section.Section.{Section}
use Rattle.facts.specs.declared.entry.Entry.{Entry}
use Rattle.facts.specs.declared.given.Given.{Given}
use Rattle.fact_tables.specs.declared.known.Known.{Known}
use Rattle.fact_tables.specs.declared.known.Known.TheVariants.{Nothing, Number, Null}
use Rattle.fact_tables.specs.Rows.{test_at}
use Rattle.facts.specs.Facts.{FactSet, learn_test, after_phis}
use Rattle.facts.specs.Claims.{facts_of_claims, facts_of_parameters, implies_claim}
use Rattle.type_kinds.specs.declared.type_kind.TypeKind.{TypeKind}
use Rattle.type_kinds.specs.declared.type_kind.TypeKind.TheVariants as kind
use Rattle.block_rules.specs.Operands.{known_in}
use Rattle.type_kinds.specs.TypeKinds.{kind_of}
use Rattle.block_rules.specs.InstrContext.{phis_of, end_of}
use Rattle.block_rules.specs.Bounds.{below_next}
use Rattle.block_rules.specs.Promises.{promises_in, given_by}
use Rattle.block_rules.specs.declared.block_fault.Detail.{Detail}

-- a function of a program, with its slots and its certificate, among the certificates of all
pub record RuleContext : Type 0 where
  pub program : LaidOut
  pub certs : List Section
  pub function : Function
  pub slots : SlotTable
  pub section : Option Section

-- ---- what a block begins with

-- the claims of a block in a certificate
abbrev pub claims_in : Option Section → (block : ℕ) → List Claim
claims_in None block = []
claims_in (Some section) block = elim (slice_get section.blocks block) [ None ↦ [] | Some claims ↦ claims ]

-- the parameters, each with what its type says and what is promised of it
abbrev pub parameters_given : Module → List Parameter → List (Option Promise) → List (ℕ × Given × Option Promise)
parameters_given m [] promises = []
parameters_given m (parameter ∷ parameters) [] = (parameter.value, given_by (kind_of m parameter.written), None) ∷ parameters_given m parameters []
parameters_given m (parameter ∷ parameters) (promise ∷ promises) = (parameter.value, given_by (kind_of m parameter.written), promise) ∷ parameters_given m parameters promises

-- what the entry begins with: the parameters
abbrev pub entry_facts : RuleContext → FactSet
entry_facts s =
    facts_of_parameters (length s.function.locals) (length s.slots.held) (parameters_given s.program.of_module s.function.parameters (promises_in s.section))

-- what a block that may be entered from others begins with: its claims
abbrev pub claim_facts : RuleContext → (block : ℕ) → FactSet
claim_facts s block = facts_of_claims s.slots (length s.function.locals) (length s.slots.held) (claims_in s.section block)

-- what a block begins with
abbrev pub entry_facts_at : RuleContext → (block : ℕ) → FactSet
entry_facts_at s block = elim (block == 0) [ true ↦ entry_facts s | false ↦ claim_facts s block ]

-- ---- the edges out of a block

-- an edge out of a block: the label of its target, and the value that decides it, if a value does, with what it is on this edge
pub record Edge : Type 0 where
  pub target : ℕ
  pub decided : Option (ℕ × Bool)

-- an edge that no value decides
abbrev pub open_edge : (target : ℕ) → Edge
open_edge target = record { target = target; decided = None }

-- the edges of a branch on an operand
abbrev pub branch_edges : Operand → (taken other : ℕ) → List Edge
branch_edges (Local c) taken other = record { target = taken; decided = Some (c, true) } ∷ record { target = other; decided = Some (c, false) } ∷ []
branch_edges _ taken other = open_edge taken ∷ open_edge other ∷ []

-- the edges out of a block that ends so, in the order in which the end names them
abbrev pub edges : End → List Edge
edges (Jump target) = open_edge target ∷ []
edges (Branch condition_type condition taken other) = branch_edges condition taken other
edges (Switch written value otherwise cases) = open_edge otherwise ∷ map (λ case. open_edge case.target) cases
edges _ = []

-- what an edge implies by what decides it
abbrev pub decided_facts : Option (ℕ × Bool) → FactSet → FactSet
decided_facts None facts = facts
decided_facts (Some (c, taken)) facts = learn_test (test_at facts.tests c) taken facts

-- ---- phis

-- this is the number, if there is one
abbrev pub is_number : ℕ → Option ℕ → Bool
is_number n None = false
is_number n (Some other) = other == n

-- the operand that comes in from a block: the first that is named for it
abbrev pub operand_from : Function → (from : ℕ) → List Incoming → Option Operand
operand_from f from [] = None
operand_from f from (entry ∷ incoming) = if is_number from (target_of f entry.from) then Some entry.operand else operand_from f from incoming

-- what is known of a number that comes in at a type of this kind
abbrev pub number_comes_in : (n : ℕ) → TypeKind → Known
number_comes_in n (kind.Bits bits) = Number bits (below_next n)
number_comes_in n _ = Nothing

-- what is known of a floating point number that comes in at a type of this kind
abbrev pub float_comes_in : TypeKind → Known
float_comes_in (kind.Bits bits) = Number bits None
float_comes_in _ = Nothing

-- what is known of a constant that comes in
abbrev pub constant_comes_in : Constant → TypeKind → Known
constant_comes_in (constant.Number n) kind = number_comes_in n kind
constant_comes_in (constant.Float n) kind = float_comes_in kind
constant_comes_in constant.Null kind = Null
constant_comes_in (constant.Truth b) kind = Nothing

-- what is known of what comes in
abbrev pub known_comes_in : Module → FactSet → TypeKind → Option Operand → Known
known_comes_in m facts kind None = Nothing
known_comes_in m facts kind (Some (Written c)) = constant_comes_in c kind
known_comes_in m facts kind (Some operand) = known_in m facts operand

-- a phi, with what is known of what comes in from a block
abbrev pub phi_comes_in : Module → Function → (from : ℕ) → FactSet → Phi → Entry
phi_comes_in m f from facts phi = record { phi = phi.value; known = known_comes_in m facts (kind_of m phi.written) (operand_from f from phi.incoming) }

-- each of these phis
abbrev pub comes_in : Module → Function → (from : ℕ) → FactSet → List Phi → List Entry
comes_in m f from facts phis = map (phi_comes_in m f from facts) phis

-- what is known after the phis of a block that is entered from another
abbrev pub entered : RuleContext → (from to : ℕ) → FactSet → FactSet
entered s from to facts = after_phis (comes_in s.program.of_module s.function from facts (phis_of s.function to)) facts

-- ---- what is implied

-- the first claim of a block that is not implied by these facts
abbrev pub unmet_claim : RuleContext → (block : ℕ) → FactSet → Option ℕ
unmet_claim s block facts = position (λ claim. not (implies_claim s.slots facts (claim_facts s block) claim)) (claims_in s.section block)

-- K15: the first claim of a target that is not implied where it is entered from a block with these facts
abbrev pub unmet_at : RuleContext → (from : ℕ) → FactSet → (to : Option ℕ) → Option Detail
unmet_at s from facts None = None
unmet_at s from facts (Some to) = elim (unmet_claim s to (entered s from to facts)) [ None ↦ None | Some claim ↦ Some (record { target = to; claim = claim }) ]

-- the first claim that is not implied, on the first of some edges where one is not
abbrev pub unmet_on : RuleContext → (from : ℕ) → FactSet → List Edge → Option Detail
unmet_on s from facts [] = None
unmet_on s from facts (edge ∷ edges) =
    elim (unmet_at s from (decided_facts edge.decided facts) (target_of s.function edge.target)) [ None ↦ unmet_on s from facts edges | Some detail ↦ Some detail ]

-- ---- where the entries of a phi come from

-- a block that ends so leads to a block
abbrev pub end_leads : Function → (to : ℕ) → End → Bool
end_leads f to x = list_any (λ edge. is_number to (target_of f edge.target)) (edges x)

-- a block is entered from another: that one's end leads there
abbrev pub is_predecessor : Function → (to from : ℕ) → Bool
is_predecessor f to from = elim (end_of f from) [ None ↦ false | Some x ↦ end_leads f to x ]

-- a block that exists is entered from it
abbrev pub precedes : Function → (to : ℕ) → (from : Option ℕ) → Bool
precedes f to None = false
precedes f to (Some from) = is_predecessor f to from

-- two constants are one
abbrev pub is_same_constant : Constant → Constant → Bool
is_same_constant (constant.Number n) (constant.Number m) = n == m
is_same_constant (constant.Float n) (constant.Float m) = n == m
is_same_constant constant.Null constant.Null = true
is_same_constant (constant.Truth true) (constant.Truth true) = true
is_same_constant (constant.Truth false) (constant.Truth false) = true
is_same_constant _ _ = false

-- two operands are one
abbrev pub is_same_operand : Operand → Operand → Bool
is_same_operand (Written c) (Written d) = is_same_constant c d
is_same_operand (Local v) (Local w) = v == w
is_same_operand (Global g) (Global h) = g == h
is_same_operand (CastGlobal from g to) (CastGlobal from_other h to_other) = (from == from_other) && (g == h) && (to == to_other)
is_same_operand _ _ = false

-- an operand is this one, if there is one
abbrev pub is_operand : Operand → Option Operand → Bool
is_operand operand None = true
is_operand operand (Some other) = is_same_operand other operand

-- an operand that is named for a block is the first that is named for it
abbrev pub agrees_from : Function → List Incoming → Operand → (from : Option ℕ) → Bool
agrees_from f incoming operand None = true
agrees_from f incoming operand (Some from) = is_operand operand (operand_from f from incoming)

-- K16: an entry of a phi is for a predecessor, and no other for that one differs
abbrev pub is_entry_of : Function → (to : ℕ) → List Incoming → Incoming → Bool
is_entry_of f to incoming entry = precedes f to (target_of f entry.from) && agrees_from f incoming entry.operand (target_of f entry.from)

-- an entry is there
abbrev pub is_there : Option Operand → Bool
is_there None = false
is_there (Some operand) = true

-- K16: each predecessor has an entry
abbrev pub has_each : Function → (to : ℕ) → List Incoming → Bool
has_each f to incoming = list_all (λ from. not (is_predecessor f to from) || is_there (operand_from f from incoming)) (range_with_len 0 (length f.blocks))

-- K16: the entries of a phi are those of the block's predecessors
abbrev pub are_entries : Function → (to : ℕ) → List Incoming → Bool
are_entries f to incoming = list_all (is_entry_of f to incoming) incoming && has_each f to incoming
