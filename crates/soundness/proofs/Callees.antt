-- Which function a call is of, and the types of the runtime's functions.
use Rattle.std.proofs.Common.{◌≡◌, ℕ, List, [], ◌∷◌, length, refl, sym, ap, ◌∙◌, subst, arith, true, false, Bool, Option, Some, None, slice_get}
use Rattle.std.specs.Prelude.{◌==◌, ◌&&◌, if◌then◌else◌, is_none, map}
use Rattle.std.specs.List.{list_all, zip}
use Rattle.lemmas.specs.Numbers.{test_true}
use Rattle.lemmas.specs.Bools.{and_parts}
use Rattle.ir_ast.specs.FloatFunctions as floats
use Rattle.ir_ast.specs.IntegerFunctions.{widths}
use Rattle.ir_ast.specs.declared.argument.Argument.{Argument}
use Rattle.ir_ast.specs.declared.float_function.FloatFunction.{FloatFunction}
use Rattle.ir_ast.specs.declared.function.Function.{Function}
use Rattle.ir_ast.specs.declared.integer_function.IntegerFunction.{IntegerFunction}
use Rattle.ir_ast.specs.declared.items_of_module.Declare.{Declare}
use Rattle.ir_ast.specs.declared.items_of_module.SymbolSort.{SymbolSort}
use Rattle.ir_ast.specs.declared.items_of_module.SymbolSort.TheVariants as symbol
use Rattle.ir_ast.specs.declared.module.Module.{Module}
use Rattle.ir_ast.specs.declared.runtime.Runtime.{Runtime}
use Rattle.ir_ast.specs.declared.runtime.Runtime.TheVariants as runtime
use Rattle.types.specs.RuntimeCall.{runtime_called, runtime_of_declare, runtime_of_sort}
use Rattle.block_rules.specs.declared.callee.Callee.TheVariants.{OfRuntime, OfModule, Foreign, NoFunction}
use Rattle.block_rules.specs.declared.signature.RuntimeType.TheVariants as types
use Rattle.block_rules.specs.Signature.{signature_of, is_runtime_type, is_of_type, is_argument_of, is_declared_as, is_written_as, is_foreign, callable, callable_declare, callable_function, callable_sort, callee_of}
use Rattle.block_rules.specs.RuntimeNames.{runtime_named}
use Rattle.machine.specs.Asks as a
use Rattle.soundness.proofs.KindLemmas.{bits_same, void_same, bytes_same, place_bytes_same}

-- ---- which function a call is of

-- what the rules take for a callee is declared so
pub record IsCallee (m : Module) (callee count : ℕ) (called : Runtime) (declared : Option Declare) : Type 0 where
  pub declare : Declare
  pub is_declared : declared ≡ Some declare
  pub types : is_declared_as m declare called ≡ true
  pub arity : (count == length (signature_of called).parameters) ≡ true

module _ (m : Module) (callee count : ℕ) (called : Runtime) where
  -- a function outside is none of the runtime
  outside : (number : ℕ) (trusted : Bool) → (if trusted then Foreign number else NoFunction None) ≡ OfRuntime called → ⊥
  outside number true e = absurd cc
  outside number false e = absurd cc

  -- by the function that a declaration is of
  of_runtime : (number : ℕ) (declared : Declare) (t : Option Runtime) → declared.runtime ≡ t → callable m count number declared t ≡ OfRuntime called → IsCallee m callee count called (Some declared) × (declared.runtime ≡ Some called)
  of_runtime number declared None is e = absurd (outside number (is_foreign m count declared) e)
  of_runtime number declared (Some own) is e = pick (is_declared_as m declared own && (count == length (signature_of own).parameters)) refl e where
    pick : (b : Bool) → (is_declared_as m declared own && (count == length (signature_of own).parameters)) ≡ b → (if b then OfRuntime own else NoFunction (Some own)) ≡ OfRuntime called → IsCallee m callee count called (Some declared) × (declared.runtime ≡ Some called)
    pick false t e = absurd cc
    pick true t e =
        let same : own ≡ called = cc in
        let b = and_parts (is_declared_as m declared own) (count == length (signature_of own).parameters) t in (
          record { declare = declared; is_declared = refl; types = subst (λ x. is_declared_as m declared x ≡ true) same b.0; arity = subst (λ x. (count == length (signature_of x).parameters) ≡ true) same b.1 },
          is ∙ ap Some same,
        )

  -- by the declaration, if there is one
  of_declare : (number : ℕ) (q : Option Declare) → callable_declare m count number q ≡ OfRuntime called → IsCallee m callee count called q × (runtime_of_declare q ≡ Some called)
  of_declare number None e = absurd cc
  of_declare number (Some declared) e = of_runtime number declared declared.runtime refl e

  -- by what the name is
  of_sort : (q : Option SymbolSort) → callable_sort m callee count q ≡ OfRuntime called → IsCallee m callee count called (a.declare_of_sort m q) × (runtime_of_sort m q ≡ Some called)
  of_sort None e = absurd cc
  of_sort (Some symbol.Unknown) e = absurd cc
  of_sort (Some (symbol.Global g)) e = absurd cc
  of_sort (Some (symbol.Defined d)) e = by (slice_get m.functions d) e where
    by : (q : Option Function) → callable_function m callee count d q ≡ OfRuntime called → IsCallee m callee count called None × (◌≡◌ {A = Option Runtime} None (Some called))
    by None e = absurd cc
    by (Some function) e = pick ((count == length function.parameters) && is_none (runtime_named (slice_get m.symbols callee))) e where
      pick : (b : Bool) → (if b then OfModule d else NoFunction (runtime_named (slice_get m.symbols callee))) ≡ OfRuntime called → IsCallee m callee count called None × (◌≡◌ {A = Option Runtime} None (Some called))
      pick true e = absurd cc
      pick false e = absurd cc
  of_sort (Some (symbol.Declared d)) e = of_declare d (slice_get m.declares d) e

  -- by the name of the callee
  pub callee_is : callee_of m callee count ≡ OfRuntime called → IsCallee m callee count called (a.declare_of m callee) × (runtime_called m callee ≡ Some called)
  callee_is e = of_sort (slice_get m.sorts callee) e

-- what the rules take for a defined function is one, and takes this number of arguments
pub record IsDefined (m : Module) (callee count number : ℕ) : Type 0 where
  pub function : Function
  pub there : slice_get m.functions number ≡ Some function
  pub named : a.number_called m callee ≡ Some number
  pub no_runtime : runtime_called m callee ≡ None
  pub no_declare : a.declare_of m callee ≡ None
  pub arity : (count == length function.parameters) ≡ true

module _ (m : Module) (callee count number : ℕ) where
  none_declared : (d : ℕ) (q : Option Declare) → callable_declare m count d q ≡ OfModule number → ⊥
  none_declared d None e = absurd cc
  none_declared d (Some declared) e = by declared.runtime e where
    outside : (trusted : Bool) → (if trusted then Foreign d else NoFunction None) ≡ OfModule number → ⊥
    outside true e = absurd cc
    outside false e = absurd cc

    by : (t : Option Runtime) → callable m count d declared t ≡ OfModule number → ⊥
    by None e = outside (is_foreign m count declared) e
    by (Some own) e = pick (is_declared_as m declared own && (count == length (signature_of own).parameters)) e where
      pick : (b : Bool) → (if b then OfRuntime own else NoFunction (Some own)) ≡ OfModule number → ⊥
      pick true e = absurd cc
      pick false e = absurd cc

  pub defined_is : callee_of m callee count ≡ OfModule number → IsDefined m callee count number
  defined_is e = by (slice_get m.sorts callee) refl e where
    by : (q : Option SymbolSort) → slice_get m.sorts callee ≡ q → callable_sort m callee count q ≡ OfModule number → IsDefined m callee count number
    by None is e = absurd cc
    by (Some symbol.Unknown) is e = absurd cc
    by (Some (symbol.Global g)) is e = absurd cc
    by (Some (symbol.Declared d)) is e = absurd (none_declared d (slice_get m.declares d) e)
    by (Some (symbol.Defined d)) is e = of_function (slice_get m.functions d) refl e where
      of_function : (q : Option Function) → slice_get m.functions d ≡ q → callable_function m callee count d q ≡ OfModule number → IsDefined m callee count number
      of_function None at e = absurd cc
      of_function (Some function) at e = pick ((count == length function.parameters) && is_none (runtime_named (slice_get m.symbols callee))) refl e where
        pick : (b : Bool) → ((count == length function.parameters) && is_none (runtime_named (slice_get m.symbols callee))) ≡ b → (if b then OfModule d else NoFunction (runtime_named (slice_get m.symbols callee))) ≡ OfModule number → IsDefined m callee count number
        pick false t e = absurd cc
        pick true t e =
            let same : d ≡ number = cc in
            record {
              function = function;
              there = subst (λ n. slice_get m.functions n ≡ Some function) same at;
              named = ap a.number_of_sort is ∙ ap Some same;
              no_runtime = ap (runtime_of_sort m) is;
              no_declare = ap (a.declare_of_sort m) is;
              arity = (and_parts (count == length function.parameters) (is_none (runtime_named (slice_get m.symbols callee))) t).0;
            }

-- what the rules take for a function outside is only declared, none of the runtime, and trusted
pub record IsForeign (m : Module) (callee count number : ℕ) : Type 0 where
  pub declare : Declare
  pub is_declared : a.declare_of m callee ≡ Some declare
  pub there : slice_get m.declares number ≡ Some declare
  pub no_runtime : runtime_called m callee ≡ None
  pub no_function : a.number_called m callee ≡ None
  pub trusted : is_foreign m count declare ≡ true

module _ (m : Module) (callee count number : ℕ) where
  -- no function that the module defines is outside
  none_defined : (d : ℕ) (q : Option Function) → callable_function m callee count d q ≡ Foreign number → ⊥
  none_defined d None e = absurd cc
  none_defined d (Some function) e = pick ((count == length function.parameters) && is_none (runtime_named (slice_get m.symbols callee))) e where
    pick : (b : Bool) → (if b then OfModule d else NoFunction (runtime_named (slice_get m.symbols callee))) ≡ Foreign number → ⊥
    pick true e = absurd cc
    pick false e = absurd cc

  -- nor is a function of the runtime
  none_of_runtime : (own : Runtime) (right : Bool) → (if right then OfRuntime own else NoFunction (Some own)) ≡ Foreign number → ⊥
  none_of_runtime own true e = absurd cc
  none_of_runtime own false e = absurd cc

  -- by the function of the runtime that a declaration is of, if it is of one
  by_runtime : (d : ℕ) (declared : Declare) (t : Option Runtime) → slice_get m.sorts callee ≡ Some (symbol.Declared d) → slice_get m.declares d ≡ Some declared → declared.runtime ≡ t → callable m count d declared t ≡ Foreign number → IsForeign m callee count number
  by_runtime d declared (Some own) is at named e = absurd (none_of_runtime own (is_declared_as m declared own && (count == length (signature_of own).parameters)) e)
  by_runtime d declared None is at named e = pick (is_foreign m count declared) refl e where
    pick : (b : Bool) → is_foreign m count declared ≡ b → (if b then Foreign d else NoFunction None) ≡ Foreign number → IsForeign m callee count number
    pick false t e = absurd cc
    pick true t e =
        let same : d ≡ number = cc in
        record {
          declare = declared;
          is_declared = ap (a.declare_of_sort m) is ∙ at;
          there = subst (λ n. slice_get m.declares n ≡ Some declared) same at;
          no_runtime = ap (runtime_of_sort m) is ∙ ap runtime_of_declare at ∙ named;
          no_function = ap a.number_of_sort is;
          trusted = t;
        }

  -- by the declaration, if there is one
  by_declare : (d : ℕ) (q : Option Declare) → slice_get m.sorts callee ≡ Some (symbol.Declared d) → slice_get m.declares d ≡ q → callable_declare m count d q ≡ Foreign number → IsForeign m callee count number
  by_declare d None is at e = absurd cc
  by_declare d (Some declared) is at e = by_runtime d declared declared.runtime is at refl e

  -- by the name of the callee
  pub foreign_is : callee_of m callee count ≡ Foreign number → IsForeign m callee count number
  foreign_is e = by (slice_get m.sorts callee) refl e where
    by : (q : Option SymbolSort) → slice_get m.sorts callee ≡ q → callable_sort m callee count q ≡ Foreign number → IsForeign m callee count number
    by None is e = absurd cc
    by (Some symbol.Unknown) is e = absurd cc
    by (Some (symbol.Global g)) is e = absurd cc
    by (Some (symbol.Declared d)) is e = by_declare d (slice_get m.declares d) is refl e
    by (Some (symbol.Defined d)) is e = absurd (none_defined d (slice_get m.functions d) e)

-- ---- the types of the runtime's functions

-- a list of one is it
pub one_parameter : {X : Type 0} (xs : List X) → (length xs ≡ 1) → (x : X) × (xs ≡ x ∷ [])
one_parameter [] e = absurd (omega arith)
one_parameter (x ∷ []) e = (x, refl)
one_parameter (x ∷ y ∷ xs) e = absurd (omega arith)

-- and a list of two are they
pub two_parameters : {X : Type 0} (xs : List X) → (length xs ≡ 2) → (x : X) × (y : X) × (xs ≡ x ∷ y ∷ [])
two_parameters [] e = absurd (omega arith)
two_parameters (x ∷ []) e = absurd (omega arith)
two_parameters (x ∷ y ∷ []) e = (x, y, refl)
two_parameters (x ∷ y ∷ z ∷ xs) e = absurd (omega arith)

-- and a list of three
pub three_parameters : {X : Type 0} (xs : List X) → (length xs ≡ 3) → (x : X) × (y : X) × (z : X) × (xs ≡ x ∷ y ∷ z ∷ [])
three_parameters [] e = absurd (omega arith)
three_parameters (x ∷ []) e = absurd (omega arith)
three_parameters (x ∷ y ∷ []) e = absurd (omega arith)
three_parameters (x ∷ y ∷ z ∷ []) e = (x, y, z, refl)
three_parameters (x ∷ y ∷ z ∷ w ∷ xs) e = absurd (omega arith)

module _ (m : Module) where
  -- the types of dg_alloc are those of the machine
  pub alloc_types : (returned written : ℕ) → is_runtime_type m returned types.Pointer ≡ true → is_runtime_type m written (types.Bits 32) ≡ true → a.are_alloc_types m returned (written ∷ []) ≡ true
  alloc_types returned written a b = rw (sym (bytes_same m returned) ∙ a, sym (bits_same m 32 written) ∙ b) refl

  -- so are those with which it is declared
  pub alloc_declared : (d : Declare) → is_declared_as m d runtime.Alloc ≡ true → a.are_alloc_types m d.returned d.parameters ≡ true
  alloc_declared d e =
      let a = and_parts (is_runtime_type m d.returned types.Pointer) ((length d.parameters == 1) && list_all (is_of_type m) (zip d.parameters ((types.Bits 32) ∷ []))) e in
      let b = and_parts (length d.parameters == 1) (list_all (is_of_type m) (zip d.parameters ((types.Bits 32) ∷ []))) a.1 in
      let p = one_parameter d.parameters (test_true (length d.parameters) 1 b.0) in
      let c = and_parts (is_runtime_type m p.0 (types.Bits 32)) true (subst (λ x. list_all (is_of_type m) (zip x ((types.Bits 32) ∷ [])) ≡ true) p.1 b.1) in
      rw p.1 (alloc_types d.returned p.0 a.0 c.0)

  -- the types of gcroot are those of the machine
  pub root_types : (returned place metadata : ℕ) → is_runtime_type m returned types.Void ≡ true → is_runtime_type m place types.PointerToPointer ≡ true → is_runtime_type m metadata types.Pointer ≡ true → a.are_gcroot_types m returned (place ∷ metadata ∷ []) ≡ true
  root_types returned place metadata a b c = rw (sym (void_same m returned) ∙ a, sym (place_bytes_same m place) ∙ b, sym (bytes_same m metadata) ∙ c) refl

  -- so are those with which it is declared
  pub root_declared : (d : Declare) → is_declared_as m d runtime.GcRoot ≡ true → a.are_gcroot_types m d.returned d.parameters ≡ true
  root_declared d e =
      let expected = types.PointerToPointer ∷ types.Pointer ∷ [] in
      let a = and_parts (is_runtime_type m d.returned types.Void) ((length d.parameters == 2) && list_all (is_of_type m) (zip d.parameters expected)) e in
      let b = and_parts (length d.parameters == 2) (list_all (is_of_type m) (zip d.parameters expected)) a.1 in
      let p = two_parameters d.parameters (test_true (length d.parameters) 2 b.0) in
      let all = subst (λ x. list_all (is_of_type m) (zip x expected) ≡ true) p.2 b.1 in
      let c = and_parts (is_runtime_type m p.0 types.PointerToPointer) (is_runtime_type m p.1 types.Pointer && true) all in
      let g = and_parts (is_runtime_type m p.1 types.Pointer) true c.1 in
      rw p.2 (root_types d.returned p.0 p.1 a.0 c.0 g.0)

  -- the types of gcread are those of the machine
  pub read_types : (returned object place : ℕ) → is_runtime_type m returned types.Pointer ≡ true → is_runtime_type m object types.Pointer ≡ true → is_runtime_type m place types.PointerToPointer ≡ true → a.are_gcread_types m returned (object ∷ place ∷ []) ≡ true
  read_types returned object place a b c = rw (sym (bytes_same m returned) ∙ a, sym (bytes_same m object) ∙ b, sym (place_bytes_same m place) ∙ c) refl

  -- so are those with which it is declared
  pub read_declared : (d : Declare) → is_declared_as m d runtime.GcRead ≡ true → a.are_gcread_types m d.returned d.parameters ≡ true
  read_declared d e =
      let expected = types.Pointer ∷ types.PointerToPointer ∷ [] in
      let a = and_parts (is_runtime_type m d.returned types.Pointer) ((length d.parameters == 2) && list_all (is_of_type m) (zip d.parameters expected)) e in
      let b = and_parts (length d.parameters == 2) (list_all (is_of_type m) (zip d.parameters expected)) a.1 in
      let p = two_parameters d.parameters (test_true (length d.parameters) 2 b.0) in
      let all = subst (λ x. list_all (is_of_type m) (zip x expected) ≡ true) p.2 b.1 in
      let c = and_parts (is_runtime_type m p.0 types.Pointer) (is_runtime_type m p.1 types.PointerToPointer && true) all in
      let g = and_parts (is_runtime_type m p.1 types.PointerToPointer) true c.1 in
      rw p.2 (read_types d.returned p.0 p.1 a.0 c.0 g.0)

  -- the types of gcwrite are those of the machine
  pub write_types : (returned stored object place : ℕ) → is_runtime_type m returned types.Void ≡ true → is_runtime_type m stored types.Pointer ≡ true → is_runtime_type m object types.Pointer ≡ true → is_runtime_type m place types.PointerToPointer ≡ true
      → a.are_gcwrite_types m returned (stored ∷ object ∷ place ∷ []) ≡ true
  write_types returned stored object place a b c d = rw (sym (void_same m returned) ∙ a, sym (bytes_same m stored) ∙ b, sym (bytes_same m object) ∙ c, sym (place_bytes_same m place) ∙ d) refl

  -- so are those with which it is declared
  pub write_declared : (d : Declare) → is_declared_as m d runtime.GcWrite ≡ true → a.are_gcwrite_types m d.returned d.parameters ≡ true
  write_declared d e =
      let expected = types.Pointer ∷ types.Pointer ∷ types.PointerToPointer ∷ [] in
      let a = and_parts (is_runtime_type m d.returned types.Void) ((length d.parameters == 3) && list_all (is_of_type m) (zip d.parameters expected)) e in
      let b = and_parts (length d.parameters == 3) (list_all (is_of_type m) (zip d.parameters expected)) a.1 in
      let p = three_parameters d.parameters (test_true (length d.parameters) 3 b.0) in
      let all = subst (λ x. list_all (is_of_type m) (zip x expected) ≡ true) p.3 b.1 in
      let c = and_parts (is_runtime_type m p.0 types.Pointer) (is_runtime_type m p.1 types.Pointer && (is_runtime_type m p.2 types.PointerToPointer && true)) all in
      let g = and_parts (is_runtime_type m p.1 types.Pointer) (is_runtime_type m p.2 types.PointerToPointer && true) c.1 in
      let k = and_parts (is_runtime_type m p.2 types.PointerToPointer) true g.1 in
      rw p.3 (write_types d.returned p.0 p.1 p.2 a.0 c.0 g.0 k.0)

  -- what is declared with numbers of these widths is so to the machine
  widths_declared : (taken written : List ℕ) → length written ≡ length (map types.Bits taken) → list_all (is_of_type m) (zip written (map types.Bits taken)) ≡ true → a.are_of_widths m taken written ≡ true
  widths_declared [] [] same e = refl
  widths_declared [] (w ∷ written) same e = absurd (omega (arith, same))
  widths_declared (bits ∷ taken) [] same e = absurd (omega (arith, same))
  widths_declared (bits ∷ taken) (w ∷ written) same e =
      let b = and_parts (is_runtime_type m w (types.Bits bits)) (list_all (is_of_type m) (zip written (map types.Bits taken))) e in
      rw (sym (bits_same m bits w) ∙ b.0, widths_declared taken written (omega (arith, same)) b.1) refl

  -- so are the types with which a function of integers is declared
  pub integer_declared : (function : IntegerFunction) (bits : ℕ) (d : Declare) → is_declared_as m d (runtime.Integer function bits) ≡ true → a.are_integer_types m function bits d.returned d.parameters ≡ true
  integer_declared function bits d e =
      let expected = map types.Bits (widths function bits) in
      let a = and_parts (is_runtime_type m d.returned (types.Bits bits)) ((length d.parameters == length expected) && list_all (is_of_type m) (zip d.parameters expected)) e in
      let b = and_parts (length d.parameters == length expected) (list_all (is_of_type m) (zip d.parameters expected)) a.1 in
      rw (sym (bits_same m bits d.returned) ∙ a.0, widths_declared (widths function bits) d.parameters (test_true (length d.parameters) (length expected) b.0) b.1) refl

  -- what is written with numbers of these widths is so to the machine
  widths_written : (taken : List ℕ) (arguments : List Argument) → length arguments ≡ length (map types.Bits taken) → list_all (is_argument_of m) (zip arguments (map types.Bits taken)) ≡ true → a.are_of_widths m taken (a.written_types arguments) ≡ true
  widths_written [] [] same e = refl
  widths_written [] (argument ∷ arguments) same e = absurd (omega (arith, same))
  widths_written (bits ∷ taken) [] same e = absurd (omega (arith, same))
  widths_written (bits ∷ taken) (argument ∷ arguments) same e =
      let b = and_parts (is_runtime_type m argument.written (types.Bits bits)) (list_all (is_argument_of m) (zip arguments (map types.Bits taken))) e in
      rw (sym (bits_same m bits argument.written) ∙ b.0, widths_written taken arguments (omega (arith, same)) b.1) refl

  -- so are the types with which a call of a function of integers is written
  pub integer_written : (function : IntegerFunction) (bits returned : ℕ) (arguments : List Argument) → length arguments ≡ length (map types.Bits (widths function bits)) → is_written_as m returned arguments (runtime.Integer function bits) ≡ true
      → a.are_integer_types m function bits returned (a.written_types arguments) ≡ true
  integer_written function bits returned arguments same e =
      let b = and_parts (is_runtime_type m returned (types.Bits bits)) (list_all (is_argument_of m) (zip arguments (map types.Bits (widths function bits)))) e in
      rw (sym (bits_same m bits returned) ∙ b.0, widths_written (widths function bits) arguments same b.1) refl

  -- so are the types with which a function of floating point numbers is declared
  pub float_declared : (function : FloatFunction) (bits : ℕ) (d : Declare) → is_declared_as m d (runtime.Float function bits) ≡ true → a.are_float_types m function bits d.returned d.parameters ≡ true
  float_declared function bits d e =
      let taken = floats.widths (floats.taken_by function) bits in
      let expected = map types.Bits taken in
      let a = and_parts (is_runtime_type m d.returned (types.Bits bits)) ((length d.parameters == length expected) && list_all (is_of_type m) (zip d.parameters expected)) e in
      let b = and_parts (length d.parameters == length expected) (list_all (is_of_type m) (zip d.parameters expected)) a.1 in
      rw (sym (bits_same m bits d.returned) ∙ a.0, widths_declared taken d.parameters (test_true (length d.parameters) (length expected) b.0) b.1) refl

  -- and those with which a call of it is written
  pub float_written : (function : FloatFunction) (bits returned : ℕ) (arguments : List Argument) → length arguments ≡ length (map types.Bits (floats.widths (floats.taken_by function) bits)) → is_written_as m returned arguments (runtime.Float function bits) ≡ true
      → a.are_float_types m function bits returned (a.written_types arguments) ≡ true
  float_written function bits returned arguments same e =
      let taken = floats.widths (floats.taken_by function) bits in
      let b = and_parts (is_runtime_type m returned (types.Bits bits)) (list_all (is_argument_of m) (zip arguments (map types.Bits taken))) e in
      rw (sym (bits_same m bits returned) ∙ b.0, widths_written taken arguments same b.1) refl
