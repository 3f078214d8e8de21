-- What is asked of a call of a defined function, and what is known after it, depends on what its callers see of that function.
use Rattle.std.specs.Prelude.{◌≡◌, ℕ, Bool, true, false, ◌&&◌, ◌==◌, if◌then◌else◌, List, [], ◌∷◌, length, map, slice_get, Option, Some, None, is_none, refl}
use Rattle.std.specs.List.{list_all, zip}
use Rattle.std.proofs.Common.{ap, sym, subst, ◌∙◌}
use Rattle.std.proofs.lemmas.List.{length-map}
use Rattle.ir_ast.specs.declared.argument.Argument.{Argument}
use Rattle.ir_ast.specs.declared.function.Function.{Function}
use Rattle.ir_ast.specs.declared.function.Parameter.{Parameter}
use Rattle.ir_ast.specs.declared.items_of_module.Declare.{Declare}
use Rattle.ir_ast.specs.declared.items_of_module.SymbolSort.{SymbolSort}
use Rattle.ir_ast.specs.declared.items_of_module.SymbolSort.TheVariants.{Unknown, Global, Declared, Defined}
use Rattle.ir_ast.specs.declared.module.Module.{Module}
use Rattle.ir_ast.specs.declared.runtime.Runtime.{Runtime}
use Rattle.ir_ast.specs.declared.runtime.Runtime.TheVariants.{Alloc, Safepoint, GcRoot, GcRead, GcWrite, Integer, Float}
use Rattle.certs.specs.declared.section.Section.{Section}
use Rattle.layout.specs.Layouts.{LaidOut}
use Rattle.shadow_stack.specs.Slots.{SlotTable}
use Rattle.safepoints.specs.Marks.{marks_agree, after_mark}
use Rattle.facts.specs.Facts.{FactSet}
use Rattle.block_rules.specs.declared.callee.Callee.{Callee}
use Rattle.block_rules.specs.declared.callee.Callee.TheVariants.{OfRuntime, OfModule, Foreign, NoFunction}
use Rattle.block_rules.specs.declared.rule.Rule.TheVariants.{K1, K2, K3, K10, K12, K13, K17}
use Rattle.block_rules.specs.declared.instr_context.InstrContext.{InstrContext}
use Rattle.block_rules.specs.Promises.{show_promises}
use Rattle.block_rules.specs.RuntimeNames.{runtime_named}
use Rattle.block_rules.specs.Signature.{signature_of, is_declared_as, is_foreign, callable, callable_declare, callable_function, callable_sort}
use Rattle.block_rules.specs.Calls.{all_available, all_current, no_slots, is_written_for, is_written_with, defined_conditions, call_conditions, drop_arguments, after_call}
use Rattle.answers.specs.Local.{with_functions, laid_with, types_of, Interface, function_of_sort, IfThere, LooksSame}
use Rattle.answers.proofs.Signature.{callable_declare_same}
use Rattle.answers.proofs.Calls.{after_alloc_same, all_passed_same, say_what_they_are_same, root_conditions_same, alloc_conditions_same, safepoint_conditions_same, integer_conditions_same, foreign_conditions_same, read_call_conditions_same, write_call_conditions_same, refused_conditions_same, receive_result_same, after_integer_call_same, after_foreign_call_same}
use Rattle.answers.proofs.Places.{after_read_call_same}

-- ---- types

-- arguments are written with these types
abbrev are_written : List Argument → List ℕ → Bool
are_written [] types = true
are_written (argument ∷ arguments) [] = true
are_written (argument ∷ arguments) (written ∷ types) = (argument.written == written) && are_written arguments types

-- a call is written with these types, if there are any
abbrev fits_types : (returned : ℕ) → List Argument → Option (ℕ × List ℕ) → Bool
fits_types returned arguments None = false
fits_types returned arguments (Some types) = (returned == types.0) && are_written arguments types.1

written_each : (arguments : List Argument) (parameters : List Parameter) → list_all is_written_for (zip arguments parameters) ≡ are_written arguments (map (λ (parameter : Parameter). parameter.written) parameters)
written_each [] parameters = refl
written_each (argument ∷ arguments) [] = refl
written_each (argument ∷ arguments) (parameter ∷ parameters) = ap (λ b. (argument.written == parameter.written) && b) (written_each arguments parameters)

written_by_types : (returned : ℕ) (arguments : List Argument) (f : Option Function) → is_written_with returned arguments f ≡ fits_types returned arguments (types_of f)
written_by_types returned arguments None = refl
written_by_types returned arguments (Some f) = ap (λ b. (returned == f.returned) && b) (written_each arguments f.parameters)

written_same : (returned : ℕ) (arguments : List Argument) (f g : Option Function) → types_of f ≡ types_of g → is_written_with returned arguments f ≡ is_written_with returned arguments g
written_same returned arguments f g same = written_by_types returned arguments f ∙ ap (fits_types returned arguments) same ∙ sym (written_by_types returned arguments g)

-- what a call is of, by the types of the function that is meant
abbrev callee_by_types : Module → (callee arguments number : ℕ) → Option (ℕ × List ℕ) → Callee
callee_by_types m callee arguments number None = NoFunction None
callee_by_types m callee arguments number (Some types) =
    let named = runtime_named (slice_get m.symbols callee) in
    if (arguments == length types.1) && is_none named then OfModule number else NoFunction named

callee_is : (m : Module) (callee arguments number : ℕ) (f : Option Function) → callable_function m callee arguments number f ≡ callee_by_types m callee arguments number (types_of f)
callee_is m callee arguments number None = refl
callee_is m callee arguments number (Some f) =
    ap (λ n. if (arguments == n) && is_none (runtime_named (slice_get m.symbols callee)) then OfModule number else NoFunction (runtime_named (slice_get m.symbols callee)))
    (sym (length-map f.parameters (λ (parameter : Parameter). parameter.written)))

-- ---- callees

-- this holds of the function that is called, if the module defines it
abbrev pub IfDefined : (ℕ → Type 0) → Callee → Type 0
IfDefined P (OfModule number) = P number
IfDefined P (OfRuntime runtime) = Unit {0}
IfDefined P (Foreign number) = Unit {0}
IfDefined P (NoFunction named) = Unit {0}

no_module_by : (P : ℕ → Type 0) (b : Bool) (runtime : Runtime) → IfDefined P (if b then OfRuntime runtime else NoFunction (Some runtime))
no_module_by P true runtime = tt
no_module_by P false runtime = tt

no_module_foreign : (P : ℕ → Type 0) (b : Bool) (number : ℕ) → IfDefined P (if b then Foreign number else NoFunction None)
no_module_foreign P true number = tt
no_module_foreign P false number = tt

no_module_callable : (P : ℕ → Type 0) (m : Module) (arguments number : ℕ) (declared : Declare) (runtime : Option Runtime) → IfDefined P (callable m arguments number declared runtime)
no_module_callable P m arguments number declared None = no_module_foreign P (is_foreign m arguments declared) number
no_module_callable P m arguments number declared (Some runtime) = no_module_by P (is_declared_as m declared runtime && (arguments == length (signature_of runtime).parameters)) runtime

no_module_declared : (P : ℕ → Type 0) (m : Module) (arguments number : ℕ) (declared : Option Declare) → IfDefined P (callable_declare m arguments number declared)
no_module_declared P m arguments number None = tt
no_module_declared P m arguments number (Some declared) = no_module_callable P m arguments number declared declared.runtime

this_module_by : (P : ℕ → Type 0) (b : Bool) (number : ℕ) (named : Option Runtime) → P number → IfDefined P (if b then OfModule number else NoFunction named)
this_module_by P true number named h = h
this_module_by P false number named h = tt

this_module : (P : ℕ → Type 0) (m : Module) (callee arguments number : ℕ) (types : Option (ℕ × List ℕ)) → P number → IfDefined P (callee_by_types m callee arguments number types)
this_module P m callee arguments number None h = tt
this_module P m callee arguments number (Some types) h =
    this_module_by P ((arguments == length types.1) && is_none (runtime_named (slice_get m.symbols callee))) number (runtime_named (slice_get m.symbols callee)) h

-- ---- among other functions and certificates

module _ (p : LaidOut) (certs : List Section) (fs : List Function) (others : List Section) where
  -- what looks the same to its callers
  abbrev Same : ℕ → Type 0
  Same = LooksSame p certs fs others

  -- a call is of the same function
  pub callee_same : (callee arguments : ℕ) (sort : Option SymbolSort) → IfThere Same (function_of_sort sort) → callable_sort (with_functions p.of_module fs) callee arguments sort ≡ callable_sort p.of_module callee arguments sort
  callee_same callee arguments None h = refl
  callee_same callee arguments (Some Unknown) h = refl
  callee_same callee arguments (Some (Global g)) h = refl
  callee_same callee arguments (Some (Declared d)) h = λ along. callable_declare_same p.of_module fs along arguments d (slice_get p.of_module.declares d)
  callee_same callee arguments (Some (Defined f)) h =
      let m = p.of_module in
      callee_is (with_functions m fs) callee arguments f (slice_get fs f)
      ∙ ap (callee_by_types m callee arguments f) (ap (λ (x : Interface). x.types) h)
      ∙ sym (callee_is m callee arguments f (slice_get m.functions f))

  -- and it looks the same, if the module defines it
  pub callee_looks_same : (callee arguments : ℕ) (sort : Option SymbolSort) → IfThere Same (function_of_sort sort) → IfDefined Same (callable_sort p.of_module callee arguments sort)
  callee_looks_same callee arguments None h = tt
  callee_looks_same callee arguments (Some Unknown) h = tt
  callee_looks_same callee arguments (Some (Global g)) h = tt
  callee_looks_same callee arguments (Some (Declared d)) h = no_module_declared Same p.of_module arguments d (slice_get p.of_module.declares d)
  callee_looks_same callee arguments (Some (Defined f)) h =
      let m = p.of_module in
      subst (IfDefined Same) (sym (callee_is m callee arguments f (slice_get m.functions f))) (this_module Same m callee arguments f (types_of (slice_get m.functions f)) h)

  defined_same : (f : Function) (slots : SlotTable) (here : InstrContext) (facts : FactSet) (returned : ℕ) (arguments : List Argument) (called : ℕ) → Same called
      → defined_conditions (with_functions p.of_module fs) f slots here facts returned arguments (slice_get fs called) (slice_get others called)
      ≡ defined_conditions p.of_module f slots here facts returned arguments (slice_get p.of_module.functions called) (slice_get certs called)
  defined_same f slots here facts returned arguments called h =
      let written = written_same returned arguments (slice_get fs called) (slice_get p.of_module.functions called) (ap (λ (x : Interface). x.types) h) in
      λ along.
      (K1, all_available slots facts arguments)
      ∷ (K2, all_passed_same p.of_module fs along f slots facts arguments && written along)
      ∷ (K3, all_current facts arguments)
      ∷ (K10, no_slots slots arguments)
      ∷ (K12, here.may_move_references)
      ∷ (K13, show_promises facts arguments (h along).parameters && say_what_they_are_same p.of_module fs along f slots facts arguments (h along).parameters)
      ∷ (K17, marks_agree here.mark (h along).mark) ∷ []

  -- what is asked of a call
  pub call_same : (f : Function) (slots : SlotTable) (here : InstrContext) (facts : FactSet) (returned : ℕ) (arguments : List Argument) (callee : Callee) → IfDefined Same callee
      → call_conditions (laid_with p fs) others f slots here facts returned arguments callee ≡ call_conditions p certs f slots here facts returned arguments callee
  call_same f slots here facts returned arguments (OfRuntime Alloc) h = λ along. alloc_conditions_same p.of_module fs along f slots here facts returned arguments
  call_same f slots here facts returned arguments (OfRuntime GcRoot) h = λ along. root_conditions_same p.of_module fs along f slots here facts returned arguments
  call_same f slots here facts returned arguments (OfRuntime Safepoint) h = λ along. safepoint_conditions_same p.of_module fs along here returned arguments
  call_same f slots here facts returned arguments (OfRuntime GcRead) h = λ along. read_call_conditions_same p fs along f slots here facts returned arguments
  call_same f slots here facts returned arguments (OfRuntime GcWrite) h = λ along. write_call_conditions_same p fs along f slots here facts returned arguments
  call_same f slots here facts returned arguments (OfRuntime (Integer function bits)) h = λ along. integer_conditions_same p.of_module fs along f slots here facts (Integer function bits) returned arguments
  call_same f slots here facts returned arguments (OfRuntime (Float function bits)) h = λ along. integer_conditions_same p.of_module fs along f slots here facts (Float function bits) returned arguments
  call_same f slots here facts returned arguments (OfModule called) h = defined_same f slots here facts returned arguments called h
  call_same f slots here facts returned arguments (Foreign d) h = λ along. foreign_conditions_same p.of_module fs along f slots here facts returned arguments (slice_get p.of_module.declares d)
  call_same f slots here facts returned arguments (NoFunction named) h = λ along. refused_conditions_same p.of_module fs along f slots here facts named arguments

  -- what is known after a call
  pub after_call_same : (slots : SlotTable) (result : Option ℕ) (returned : ℕ) (arguments : List Argument) (callee : Callee) (facts : FactSet) → IfDefined Same callee
      → after_call (laid_with p fs) others slots result returned arguments callee facts ≡ after_call p certs slots result returned arguments callee facts
  after_call_same slots result returned arguments (OfRuntime Alloc) facts h = after_alloc_same p.of_module fs result arguments facts
  after_call_same slots result returned arguments (OfRuntime GcRoot) facts h = refl
  after_call_same slots result returned arguments (OfRuntime Safepoint) facts h = refl
  after_call_same slots result returned arguments (OfRuntime GcRead) facts h = λ along. after_read_call_same p fs along result arguments facts
  after_call_same slots result returned arguments (OfRuntime GcWrite) facts h = refl
  after_call_same slots result returned arguments (OfRuntime (Integer function bits)) facts h = λ along. after_integer_call_same p.of_module fs along result returned facts
  after_call_same slots result returned arguments (OfRuntime (Float function bits)) facts h = λ along. after_integer_call_same p.of_module fs along result returned facts
  after_call_same slots result returned arguments (OfModule called) facts h =
      λ along. receive_result_same p.of_module fs along result returned (h along).result (after_mark (h along).mark (drop_arguments arguments facts))
  after_call_same slots result returned arguments (Foreign d) facts h = λ along. after_foreign_call_same p.of_module fs along result returned facts
  after_call_same slots result returned arguments (NoFunction named) facts h = refl
