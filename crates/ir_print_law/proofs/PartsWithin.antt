-- Numbers of operands and types are within the tables where these are printable, whatever names come after those of the tables.
use Rattle.std.proofs.Common.{◌≡◌, ℕ, false, suc, ◌<◌, arith, drop, map, slice_get, List, [], ◌∷◌, ◌++◌, length, Option, Some, sym, ap, subst, ◌∙◌, inl, inr}
use Rattle.std.specs.List.{AllByRecursion}
use Rattle.std.proofs.lemmas.List.{map-append}
use Rattle.std.proofs.lemmas.Option.{slice_get_within}
use Rattle.lemmas.specs.Lists.{in_either, in_first, in_second, IsIn}
use Rattle.ir_ast.specs.Names.{place_of}
use Rattle.ir_ast.specs.declared.argument.Argument.{Argument}
use Rattle.ir_ast.specs.declared.function.Function.{Function}
use Rattle.ir_ast.specs.declared.ir_type.IrType.TheVariants as type
use Rattle.ir_ast.specs.declared.items_of_module.Declare.{Declare}
use Rattle.ir_ast.specs.declared.items_of_module.Global.{Global}
use Rattle.ir_ast.specs.declared.items_of_module.SymbolSort.TheVariants as symbol
use Rattle.ir_ast.specs.declared.module.Module.{Module}
use Rattle.ir_ast.specs.declared.operand.Operand.{Operand}
use Rattle.ir_ast.specs.declared.operand.Operand.TheVariants as operand
use Rattle.ir_tokens.specs.Bytes.{Text}
use Rattle.ir_print.specs.Names.{name_at}
use Rattle.ir_print_law.specs.Definitions.{IsUsed, value_keys, label_keys, target_keys, defined_globals, declared_functions, defined_functions, functions_of}
use Rattle.ir_print_law.specs.ModuleNames.{HasModuleNames}
use Rattle.ir_print_law.specs.Parts.{IsType, IsVoid, IsPointer, IsPlaceType, IsOperand, IsArgument, ArePair, IsConverted, IsReturned}
use Rattle.ir_print_law.specs.PartsWithin.{HasType, HasSymbol, HasGlobal, HasFunction, HasAddress, HasLocal, HasValue, HasBlock, HasTarget, IsOperandWithin, IsArgumentWithin, ArePairWithin, IsConvertedWithin}
use Rattle.ir_print_law.specs.Shapes.{Shape, Pointer, Opaque, word_of_shape}
use Rattle.ir_print_law.proofs.DefinedWithin.{AreDefinedWithin, all_at, any_all}
use Rattle.ir_print_law.proofs.FoundNames.{found_number, in_all, place_in, place_after, item_in, each_number, item_keys, items_stay}
use Rattle.ir_print_law.proofs.FunctionEnds.{whole_of, values_are, labels_are, rest_keys}
use Rattle.ir_print_law.proofs.LocalNames.{keys_at, names_stay}
use Rattle.ir_print_law.proofs.Shown.{shape_within}
use Rattle.ir_print_law.proofs.Tables.{begins_with}
use Rattle.ir_forms.specs.declared.written.Word.{Word}

-- ---- types

-- the type of a place
pub place_type_within : (m : Module) (shape : Shape) (held place : ℕ) → IsPlaceType m shape held place → place < length m.types
place_type_within m shape held place (inl h) = slice_get_within m.types place (type.Pointer held) h.1
place_type_within m shape held place (inr h) = slice_get_within m.types place type.Opaque h.1

pub void_within : (m : Module) (written : ℕ) → IsVoid m written → HasType m written
void_within m written h = slice_get_within m.types written type.Void h

-- ---- symbols

-- the module with more global names
abbrev pub wide_module : Module → (more : List Text) → Module
wide_module m more = record m { symbols = m.symbols ++ more }

module _ (m : Module) (own : HasModuleNames m) where
  pub globals_have : AllByRecursion (λ (x : Global). HasSymbol m x.symbol) m.globals
  globals_have =
      all_at (λ x. Unit {0}) (λ (x : Global). HasSymbol m x.symbol) m.globals (λ k x e u. own.sorts x.symbol (symbol.Global k) (own.globals k x e)) (any_all m.globals)

  pub declares_have : AllByRecursion (λ (x : Declare). HasSymbol m x.symbol) m.declares
  declares_have =
      all_at (λ x. Unit {0}) (λ (x : Declare). HasSymbol m x.symbol) m.declares (λ k x e u. own.sorts x.symbol (symbol.Declared k) (own.declares k x e)) (any_all m.declares)

  pub functions_have : AllByRecursion (λ (x : Function). HasSymbol m x.symbol) m.functions
  functions_have =
      all_at (λ x. Unit {0}) (λ (x : Function). HasSymbol m x.symbol) m.functions (λ k x e u. own.sorts x.symbol (symbol.Defined k) (own.functions k x e)) (any_all m.functions)

  pub globals_stay : (more : List Text) → defined_globals (wide_module m more) ≡ defined_globals m
  globals_stay more = items_stay (λ (x : Global). x.symbol) m.globals m.symbols (m.symbols ++ more) globals_have (begins_with m.symbols more)

  pub declared_stay : (more : List Text) → declared_functions (wide_module m more) ≡ declared_functions m
  declared_stay more = items_stay (λ (x : Declare). x.symbol) m.declares m.symbols (m.symbols ++ more) declares_have (begins_with m.symbols more)

  pub functions_stay : (more : List Text) → functions_of (wide_module m more) ≡ functions_of m
  functions_stay more =
      let begins = begins_with m.symbols more in
      let declared = declared_stay more in
      let defined : defined_functions (wide_module m more) ≡ defined_functions m =
      items_stay (λ (x : Function). x.symbol) m.functions m.symbols (m.symbols ++ more) functions_have begins in
      ap (λ (l : List Text). l ++ defined_functions (wide_module m more)) declared ∙ ap (λ (l : List Text). declared_functions m ++ l) defined

  -- each name is at its first place
  at_places : (n : ℕ) (key : Text) → slice_get m.symbols n ≡ Some key → place_of key m.symbols ≡ Some n
  at_places n key e = (own.symbols n key e).1

  global_numbers : List ℕ
  global_numbers = map (λ (x : Global). x.symbol) m.globals

  global_there : (n : ℕ) → IsIn n global_numbers → HasGlobal m n
  unfolding global_numbers
  global_there n there =
      let p = item_in (λ (x : Global). x.symbol) m.globals n there in (
        each_number (λ (x : Global). x.symbol) (HasSymbol m) m.globals n globals_have there,
        (p.0, subst (λ (k : ℕ). slice_get m.sorts k ≡ Some (symbol.Global p.0)) p.3 (own.globals p.0 p.1 p.2), slice_get_within m.globals p.0 p.1 p.2),
      )

  -- the numbers of all functions
  abbrev function_numbers : List ℕ
  function_numbers = map (λ (x : Declare). x.symbol) m.declares ++ map (λ (x : Function). x.symbol) m.functions

  function_keys : functions_of m ≡ keys_at m.symbols function_numbers
  function_keys =
      let declared = item_keys (λ (x : Declare). x.symbol) m.declares m.symbols in
      let defined = item_keys (λ (x : Function). x.symbol) m.functions m.symbols in
      ap (λ (l : List Text). l ++ defined_functions m) declared
      ∙ ap (λ (l : List Text). keys_at m.symbols (map (λ (x : Declare). x.symbol) m.declares) ++ l) defined
      ∙ sym (map-append (name_at m.symbols) (map (λ (x : Declare). x.symbol) m.declares) (map (λ (x : Function). x.symbol) m.functions))

  function_there : (n : ℕ) → IsIn n function_numbers → HasFunction m n
  function_there n there = elim (in_either n (map (λ (x : Declare). x.symbol) m.declares) (map (λ (x : Function). x.symbol) m.functions) there) [
    | inl declared ↦
        let p = item_in (λ (x : Declare). x.symbol) m.declares n declared in (
          each_number (λ (x : Declare). x.symbol) (HasSymbol m) m.declares n declares_have declared,
          inl (
            p.0,
            subst (λ (k : ℕ). slice_get m.sorts k ≡ Some (symbol.Declared p.0)) p.3 (own.declares p.0 p.1 p.2),
            slice_get_within m.declares p.0 p.1 p.2,
          ),
        )
    | inr defined ↦
        let p = item_in (λ (x : Function). x.symbol) m.functions n defined in (
          each_number (λ (x : Function). x.symbol) (HasSymbol m) m.functions n functions_have defined,
          inr (
            p.0,
            subst (λ (k : ℕ). slice_get m.sorts k ≡ Some (symbol.Defined p.0)) p.3 (own.functions p.0 p.1 p.2),
            slice_get_within m.functions p.0 p.1 p.2,
          ),
        )
  ]

  pub callee_within : (n : ℕ) → ((more : List Text) → IsIn (name_at (m.symbols ++ more) n) (functions_of (wide_module m more))) → HasFunction m n
  callee_within n found =
      let same : (more : List Text) → functions_of (wide_module m more) ≡ keys_at m.symbols function_numbers = λ more. functions_stay more ∙ function_keys in
      function_there n (found_number m.symbols function_numbers n (λ k there. (function_there k there).0) at_places
      (λ more. subst (λ (l : List Text). IsIn (name_at (m.symbols ++ more) n) l) (same more) (found more)))

  -- the numbers of all globals and functions
  address_numbers : List ℕ
  address_numbers = global_numbers ++ function_numbers

  address_keys : (more : List Text) → defined_globals (wide_module m more) ++ functions_of (wide_module m more) ≡ keys_at m.symbols address_numbers
  unfolding global_numbers address_numbers
  address_keys more =
      ap (λ (l : List Text). l ++ functions_of (wide_module m more)) (globals_stay more ∙ item_keys (λ (x : Global). x.symbol) m.globals m.symbols)
      ∙ ap (λ (l : List Text). keys_at m.symbols global_numbers ++ l) (functions_stay more ∙ function_keys)
      ∙ sym (map-append (name_at m.symbols) global_numbers function_numbers)

  address_there : (n : ℕ) → IsIn n address_numbers → HasAddress m n
  unfolding address_numbers
  address_there n there = elim (in_either n global_numbers function_numbers there) [
    | inl global ↦ inl (global_there n global)
    | inr function ↦ inr (function_there n function)
  ]

  address_symbol : (n : ℕ) → HasAddress m n → HasSymbol m n
  address_symbol n (inl h) = h.0
  address_symbol n (inr h) = h.0

  -- a name that is used as an operand is among both
  address_used : (more : List Text) (name : Text) → IsUsed (wide_module m more) false name → IsIn name (defined_globals (wide_module m more) ++ functions_of (wide_module m more))
  address_used more name (inl is) = in_first name (defined_globals (wide_module m more)) (functions_of (wide_module m more)) is
  address_used more name (inr h) =
      in_second name (defined_globals (wide_module m more)) (functions_of (wide_module m more)) (in_first name (declared_functions (wide_module m more)) (defined_functions (wide_module m more)) h.1)

  pub address_within : (n : ℕ) → ((more : List Text) → IsUsed (wide_module m more) false (name_at (m.symbols ++ more) n)) → HasAddress m n
  address_within n found =
      address_there n (found_number m.symbols address_numbers n (λ k there. address_symbol k (address_there k there)) at_places
      (λ more. subst (λ (l : List Text). IsIn (name_at (m.symbols ++ more) n) l) (address_keys more) (address_used more (name_at (m.symbols ++ more) n) (found more))))

-- ---- local names

-- the function with more local names
abbrev pub wide : Function → (more : List Text) → Function
wide f more = record f { locals = f.locals ++ more }

module _ (f : Function) (h : AreDefinedWithin f) where
  pub value_within : (value : ℕ) → ((more : List Text) → IsIn (name_at (f.locals ++ more) value) (value_keys (wide f more))) → HasValue f value
  value_within value found =
      let ns = (whole_of f).values in
      let within : (n : ℕ) → IsIn n ns → HasLocal f n = λ n there. (h.values n there).0 in
      let same : (more : List Text) → value_keys (wide f more) ≡ keys_at f.locals ns =
      λ more. sym (values_are (wide f more)) ∙ names_stay ns f.locals (f.locals ++ more) within (begins_with f.locals more) in
      h.values value (found_number f.locals ns value within h.places (λ more. subst (λ (l : List Text). IsIn (name_at (f.locals ++ more) value) l) (same more) (found more)))

  labels_stay : (more : List Text) → label_keys (wide f more) ≡ keys_at f.locals (whole_of f).labels
  labels_stay more = sym (labels_are (wide f more)) ∙ names_stay (whole_of f).labels f.locals (f.locals ++ more) h.within (begins_with f.locals more)

  pub block_within : (label : ℕ) → ((more : List Text) → IsIn (name_at (f.locals ++ more) label) (label_keys (wide f more))) → HasBlock f label
  block_within label found =
      let ns = (whole_of f).labels in
      let there = found_number f.locals ns label h.within h.places (λ more. subst (λ (l : List Text). IsIn (name_at (f.locals ++ more) label) l) (labels_stay more) (found more)) in
      let place = place_in ns label there in
      let block = h.labels place.0 label place.1 in
      (h.within label there, (place.0, block.0, block.1))

  pub target_within : (label : ℕ) → ((more : List Text) → IsIn (name_at (f.locals ++ more) label) (target_keys (wide f more))) → HasTarget f label
  target_within label found =
      let ns = (whole_of f).labels in
      let within : (n : ℕ) → IsIn n (drop 1 ns) → HasLocal f n = λ n there. h.within n (in_all ns n there) in
      let same : (more : List Text) → target_keys (wide f more) ≡ keys_at f.locals (drop 1 ns) = λ more. ap (drop 1) (labels_stay more) ∙ sym (rest_keys f.locals ns) in
      let there = found_number f.locals (drop 1 ns) label within h.places (λ more. subst (λ (l : List Text). IsIn (name_at (f.locals ++ more) label) l) (same more) (found more)) in
      let place = place_after ns label there in
      let block = h.labels (suc place.0) label place.1 in
      (within label there, (suc place.0, block.0, omega arith, block.1))

-- what holds of a module and a function, whatever names come
abbrev pub Wide : Module → Function → (Module → Function → Type 0) → Type 0
Wide m f P = (more : List Text) → P (wide_module m more) (wide f more)

-- ---- lists

-- what holds of each element, whatever names come
pub all_wide : {A : Type 0} (P : List Text → A → Type 0) (Q : A → Type 0) (xs : List A) → ((x : A) → ((more : List Text) → P more x) → Q x) → ((more : List Text) → AllByRecursion (P more) xs)
    → AllByRecursion Q xs
all_wide P Q [] on h = tt
all_wide P Q (x ∷ xs) on h = (on x (λ more. (h more).0), all_wide P Q xs on (λ more. (h more).1))

-- ---- operands

module _ (m : Module) (f : Function) (own : HasModuleNames m) (h : AreDefinedWithin f) where
  pub type_within : (shape : Shape) (written : ℕ) (more : List Text) → IsType (wide_module m more) shape written → HasType m written
  type_within shape written more is = shape_within m.types m.struct_names shape written is.0

  pub pointer_within : (written : ℕ) (more : List Text) → IsPointer (wide_module m more) written → HasType m written
  pointer_within written more is = type_within is.0 written more is.1

  pub operand_within : (x : Operand) → Wide m f (λ m f. (bits : Word) × IsOperand m f bits x) → IsOperandWithin m f x
  operand_within (operand.Constant x) is = tt
  operand_within (operand.Local value) is = value_within f h value (λ more. (is more).1)
  operand_within (operand.Global n) is = address_within m own n (λ more. (is more).1.0)
  operand_within (operand.CastGlobal from n to) is =
      (pointer_within from [] (is []).1.0, address_within m own n (λ more. (is more).1.1.0), pointer_within to [] (is []).1.2)

  pub argument_within : (x : Argument) → Wide m f (λ m f. IsArgument m f x) → IsArgumentWithin m f x
  argument_within x is = (type_within (is []).0 x.written [] (is []).1.0, operand_within x.operand (λ more. (word_of_shape (is more).0, (is more).2)))

  pub arguments_within : (xs : List Argument) → Wide m f (λ m f. AllByRecursion (IsArgument m f) xs) → AllByRecursion (IsArgumentWithin m f) xs
  arguments_within xs is = all_wide (λ more x. IsArgument (wide_module m more) (wide f more) x) (IsArgumentWithin m f) xs argument_within is

  pub pair_within : (written : ℕ) (first second : Operand) → Wide m f (λ m f. ArePair m f written first second) → ArePairWithin m f written first second
  pair_within written first second is = (
    type_within (is []).0 written [] (is []).1.0,
    operand_within first (λ more. (word_of_shape (is more).0, (is more).2)),
    operand_within second (λ more. (word_of_shape (is more).0, (is more).3)),
  )

  pub converted_within : (from : ℕ) (x : Operand) (to : ℕ) → Wide m f (λ m f. IsConverted m f from x to) → IsConvertedWithin m f from x to
  converted_within from x to is =
      let argument = argument_within (record { written = from; operand = x }) (λ more. (is more).0) in
      let into = (is []).1 in
      (argument.0, argument.1, type_within into.0 to [] into.1.0)

  pub returned_within : (t : ℕ) → IsReturned (wide_module m []) t → HasType m t
  returned_within t (inl void) = slice_get_within m.types t type.Void void
  returned_within t (inr is) = type_within is.0 t [] is.1.0
