-- What a block begins with, and which claims of its targets are not implied, does not depend on functions.
use Rattle.std.specs.Prelude.{List, None, Option, Some, [], false, length, map, not, position, refl, true, ℕ, ◌==◌, ◌∷◌, ◌≡◌}
use Rattle.block_rules.specs.Promises.{given_by, promises_in}
use Rattle.block_rules.specs.InstrContext.{phis_of}
use Rattle.block_rules.specs.Edges.{RuleContext, Edge, comes_in, decided_facts, entered, entry_facts, entry_facts_at, known_comes_in, claim_facts, claims_in, operand_from, parameters_given, phi_comes_in, unmet_at, unmet_claim, unmet_on, edges}
use Rattle.certs.specs.declared.section.Promise.{Promise}
use Rattle.certs.specs.declared.section.Section.{Section}
use Rattle.facts.specs.Facts.{FactSet, after_phis}
use Rattle.facts.specs.Claims.{facts_of_parameters, implies_claim}
use Rattle.ir_ast.specs.declared.function.Function.{Function}
use Rattle.ir_ast.specs.declared.function.Parameter.{Parameter}
use Rattle.ir_ast.specs.declared.module.Module.{Module}
use Rattle.ir_ast.specs.declared.operand.Operand.{Operand}
use Rattle.ir_ast.specs.declared.operand.Operand.TheVariants.{Constant as Written}
use Rattle.type_kinds.specs.declared.type_kind.TypeKind.{TypeKind}
use Rattle.types.specs.ValueTypes.{target_of}
use Rattle.answers.proofs.Operands.{kind_of_same, known_in_same}
use Rattle.answers.specs.Local.{context_with, with_functions}

parameters_given_by : (m : Module) (fs : List Function) (parameters : List Parameter) (promises : List (Option Promise)) → parameters_given (with_functions m fs) parameters promises ≡ parameters_given m parameters promises
parameters_given_by m fs [] promises = refl
parameters_given_by m fs (parameter ∷ parameters) [] = λ along. (parameter.value, given_by (kind_of_same m fs along parameter.written), None) ∷ parameters_given_by m fs parameters [] along
parameters_given_by m fs (parameter ∷ parameters) (promise ∷ promises) = λ along. (parameter.value, given_by (kind_of_same m fs along parameter.written), promise) ∷ parameters_given_by m fs parameters promises along

pub parameters_given_same : (m : Module) (fs : List Function) → parameters_given (with_functions m fs) ≡ parameters_given m
parameters_given_same m fs = λ along parameters promises. parameters_given_by m fs parameters promises along

pub entry_facts_same : (s : RuleContext) (fs : List Function) (others : List Section) → entry_facts (context_with s fs others) ≡ entry_facts s
entry_facts_same s fs others = λ along. facts_of_parameters (length s.function.locals) (length s.slots.held) (parameters_given_same s.program.of_module fs along s.function.parameters (promises_in s.section))

pub claim_facts_same : (s : RuleContext) (fs : List Function) (others : List Section) → claim_facts (context_with s fs others) ≡ claim_facts s
claim_facts_same s fs others = refl

pub entry_facts_at_same : (s : RuleContext) (fs : List Function) (others : List Section) → entry_facts_at (context_with s fs others) ≡ entry_facts_at s
entry_facts_at_same s fs others = λ along block. elim (block == 0) [ true ↦ entry_facts_same s fs others along | false ↦ claim_facts_same s fs others along block ]

known_comes_in_by : (m : Module) (fs : List Function) (facts : FactSet) (kind : TypeKind) (operand : Option Operand) → known_comes_in (with_functions m fs) facts kind operand ≡ known_comes_in m facts kind operand
known_comes_in_by m fs facts kind None = refl
known_comes_in_by m fs facts kind (Some (Written c)) = refl
known_comes_in_by m fs facts kind (Some operand) = λ along. known_in_same m fs along facts operand

known_comes_in_same : (m : Module) (fs : List Function) → known_comes_in (with_functions m fs) ≡ known_comes_in m
known_comes_in_same m fs = λ along facts kind operand. known_comes_in_by m fs facts kind operand along

pub phi_comes_in_same : (m : Module) (fs : List Function) → phi_comes_in (with_functions m fs) ≡ phi_comes_in m
phi_comes_in_same m fs = λ along f from facts phi. record { phi = phi.value; known = known_comes_in_same m fs along facts (kind_of_same m fs along phi.written) (operand_from f from phi.incoming) }

pub comes_in_same : (m : Module) (fs : List Function) → comes_in (with_functions m fs) ≡ comes_in m
comes_in_same m fs = λ along f from facts phis. map (phi_comes_in_same m fs along f from facts) phis

pub entered_same : (s : RuleContext) (fs : List Function) (others : List Section) → entered (context_with s fs others) ≡ entered s
entered_same s fs others = λ along from to facts. after_phis (comes_in_same s.program.of_module fs along s.function from facts (phis_of s.function to)) facts

pub unmet_claim_same : (s : RuleContext) (fs : List Function) (others : List Section) → unmet_claim (context_with s fs others) ≡ unmet_claim s
unmet_claim_same s fs others = λ along block facts. position (λ claim. not (implies_claim s.slots facts (claim_facts_same s fs others along block) claim)) (claims_in s.section block)

unmet_at_by : (s : RuleContext) (fs : List Function) (others : List Section) (from : ℕ) (facts : FactSet) (to : Option ℕ) → unmet_at (context_with s fs others) from facts to ≡ unmet_at s from facts to
unmet_at_by s fs others from facts None = refl
unmet_at_by s fs others from facts (Some to) = λ along. elim (unmet_claim_same s fs others along to (entered_same s fs others along from to facts)) [ None ↦ None | Some claim ↦ Some (record { target = to; claim = claim }) ]

pub unmet_at_same : (s : RuleContext) (fs : List Function) (others : List Section) → unmet_at (context_with s fs others) ≡ unmet_at s
unmet_at_same s fs others = λ along from facts to. unmet_at_by s fs others from facts to along

unmet_on_by : (s : RuleContext) (fs : List Function) (others : List Section) (from : ℕ) (facts : FactSet) (edges : List Edge) → unmet_on (context_with s fs others) from facts edges ≡ unmet_on s from facts edges
unmet_on_by s fs others from facts [] = refl
unmet_on_by s fs others from facts (edge ∷ edges) = λ along. elim (unmet_at_same s fs others along from (decided_facts edge.decided facts) (target_of s.function edge.target)) [ None ↦ unmet_on_by s fs others from facts edges along | Some detail ↦ Some detail ]

pub unmet_on_same : (s : RuleContext) (fs : List Function) (others : List Section) → unmet_on (context_with s fs others) ≡ unmet_on s
unmet_on_same s fs others = λ along from facts edges. unmet_on_by s fs others from facts edges along
