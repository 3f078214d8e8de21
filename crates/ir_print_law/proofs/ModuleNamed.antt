-- What the names of a module mean where reading ends.
use Rattle.std.proofs.Common.{◌≡◌, ℕ, zero, suc, ◌<◌, List, [], ◌∷◌, ◌++◌, length, map, slice_get, Some, refl, ap, arith, inl, inr}
use Rattle.std.specs.List.{AllByRecursion}
use Rattle.std.proofs.lemmas.Option.{slice_get_within}
use Rattle.lemmas.specs.All.{all_get}
use Rattle.ir_ast.specs.declared.function.Function.{Function}
use Rattle.ir_ast.specs.declared.items_of_module.Declare.{Declare}
use Rattle.ir_ast.specs.declared.items_of_module.Global.{Global}
use Rattle.ir_ast.specs.declared.items_of_module.StructType.{StructType}
use Rattle.ir_ast.specs.declared.items_of_module.SymbolSort.{SymbolSort}
use Rattle.ir_ast.specs.declared.items_of_module.SymbolSort.TheVariants as symbol
use Rattle.ir_forms.specs.declared.input.Input.{Input}
use Rattle.ir_text.specs.Read.{module_of}
use Rattle.ir_print_law.specs.FunctionNames.{HasNames}
use Rattle.ir_print_law.specs.ModuleNames.{IsNumbered, HasModuleNames}
use Rattle.ir_print_law.proofs.ModuleState.{no_one, Stands, symbols_of}
use Rattle.ir_print_law.proofs.ModuleTables.{OwnsSymbol}

-- the number of an item, and the item of a number
number_at : {A : Type 0} (number : A → ℕ) (xs : List A) (place : ℕ) (x : A) → slice_get xs place ≡ Some x → slice_get (map number xs ++ []) place ≡ Some (number x)
number_at number [] place x e = absurd cc
number_at number (y ∷ xs) zero x e = let same : y ≡ x = cc in ap (λ z. Some (number z)) same
number_at number (y ∷ xs) (suc place) x e = number_at number xs place x e

item_at : {A : Type 0} (number : A → ℕ) (xs : List A) (place n : ℕ) → slice_get (map number xs ++ []) place ≡ Some n → IsNumbered number xs place n
item_at number [] place n e = absurd cc
item_at number (y ∷ xs) zero n e = (y, refl, cc)
item_at number (y ∷ xs) (suc place) n e = item_at number xs place n e

module _ (e : Input) (h : Stands no_one e) where
  -- what a name means owns it
  symbol_owned : (n : ℕ) (sort : SymbolSort) → slice_get e.symbols.sorts n ≡ Some sort → (sort ≡ symbol.Unknown → ⊥) → OwnsSymbol (symbols_of no_one e) sort n
  symbol_owned n sort there some = elim (h.symbols.owned n sort there) [
    | inl none ↦ absurd (some none)
    | inr own ↦ own
  ]

  layout_at : (layout name : ℕ) → slice_get e.struct_names.sorts name ≡ Some (Some layout)
      → IsNumbered (λ (s : StructType). s.name) e.structs layout name × (name < length e.struct_names.names)
  layout_at layout name there = elim (h.structs.owned name (Some layout) there) [
    | inl none ↦ absurd cc
    | inr own ↦
        let less = slice_get_within e.struct_names.sorts name (Some layout) there in
        let same = h.structs.same in
        (item_at (λ (s : StructType). s.name) e.structs layout name own, omega (arith, less, same))
  ]

  -- what the names mean, where each function has its names
  pub has_names : AllByRecursion HasNames e.functions → HasModuleNames (module_of e)
  has_names all = record {
    struct_names = λ number name there. (h.structs.bytes number name there, h.structs.places number name there);
    structs = λ layout struct there. h.structs.known struct.name (Some layout) (number_at (λ (s : StructType). s.name) e.structs layout struct there);
    layouts = layout_at;
    symbols = λ number name there. (h.symbols.bytes number name there, h.symbols.places number name there);
    sorts = λ name sort there. let less = slice_get_within e.symbols.sorts name sort there in let same = h.symbols.same in omega (arith, less, same);
    globals = λ number global there. h.symbols.known global.symbol (symbol.Global number) (number_at (λ (x : Global). x.symbol) e.globals number global there);
    declares = λ number declared there. h.symbols.known declared.symbol (symbol.Declared number) (number_at (λ (x : Declare). x.symbol) e.declares number declared there);
    functions = λ number f there. h.symbols.known f.symbol (symbol.Defined number) (number_at (λ (x : Function). x.symbol) e.functions number f there);
    named_globals = λ name number there. item_at (λ (x : Global). x.symbol) e.globals number name (symbol_owned name (symbol.Global number) there (λ none. absurd cc));
    named_declares = λ name number there. item_at (λ (x : Declare). x.symbol) e.declares number name (symbol_owned name (symbol.Declared number) there (λ none. absurd cc));
    named_functions = λ name number there. item_at (λ (x : Function). x.symbol) e.functions number name (symbol_owned name (symbol.Defined number) there (λ none. absurd cc));
    own = λ number f there. all_get HasNames e.functions number f all there;
  }
