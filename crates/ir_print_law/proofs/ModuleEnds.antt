-- What is known of a module's names where reading ends.
use Rattle.std.proofs.Common.{◌≡◌, ℕ, suc, ◌<◌, List, [], ◌∷◌, ◌++◌, length, map, slice_get, unwrap_or, Option, None, Some, refl, sym, ap, subst, ◌∙◌, arith, append_assoc, inl, inr}
use Rattle.std.specs.List.{AllByRecursion}
use Rattle.std.proofs.lemmas.List.{append-nil}
use Rattle.std.proofs.lemmas.Option.{slice_get-get_or, slice_get_within}
use Rattle.lemmas.specs.All.{all_join}
use Rattle.lemmas.specs.Lists.{in_either, in_longer, IsIn}
use Rattle.ir_ast.specs.declared.function.Function.{Function}
use Rattle.ir_ast.specs.declared.items_of_module.Declare.{Declare}
use Rattle.ir_ast.specs.declared.items_of_module.Global.{Global}
use Rattle.ir_ast.specs.declared.items_of_module.StructType.{StructType}
use Rattle.ir_ast.specs.declared.items_of_module.SymbolSort.{SymbolSort}
use Rattle.ir_ast.specs.declared.items_of_module.SymbolSort.TheVariants as symbol
use Rattle.ir_forms.specs.declared.table.Table.{Table}
use Rattle.ir_forms.specs.declared.input.Input.{Input}
use Rattle.ir_text.specs.Read.{module_of}
use Rattle.ir_tokens.specs.Bytes.{Text}
use Rattle.name_text.specs.Readings.{AreBytes}
use Rattle.ir_print.specs.Names.{name_at}
use Rattle.ir_print_law.specs.Definitions.{AreNew, defined_structs, defined_globals, declared_functions, defined_functions, functions_of}
use Rattle.ir_print_law.specs.Printable.{IsSymbol}
use Rattle.ir_print_law.proofs.LocalNames.{keys_at}
use Rattle.ir_print_law.proofs.ModuleState.{no_one, struct_names_of, symbols_of, Stands}
use Rattle.ir_print_law.proofs.ModuleTables.{IsTable, OwnsStruct, OwnsSymbol}

-- ---- keys of numbers

-- the key of a number at some place
abbrev IsKeyAt : List Text → List ℕ → Text → Type 0
IsKeyAt names ns x = (place : ℕ) × (n : ℕ) × (slice_get ns place ≡ Some n) × (name_at names n ≡ x)

key_at : (names : List Text) (ns : List ℕ) (x : Text) → IsIn x (keys_at names ns) → IsKeyAt names ns x
key_at names [] x there = absurd there
key_at names (n ∷ ns) x (inl e) = (0, n, refl, sym e)
key_at names (n ∷ ns) x (inr there) = let p = key_at names ns x there in (suc p.0, p.1, p.2, p.3)

-- names of numbers at two places are two names
abbrev AreApart : List Text → List ℕ → Type 0
AreApart names ns = (place other n k : ℕ) → slice_get ns place ≡ Some n → slice_get ns other ≡ Some k → name_at names n ≡ name_at names k → place ≡ other

-- no name of the second is one of the first
abbrev AreOthers : List Text → List Text → Type 0
AreOthers seen names = (x : Text) → IsIn x seen → IsIn x names → ⊥

new_keys : (names : List Text) (seen : List Text) (ns : List ℕ) → AreApart names ns → AreOthers seen (keys_at names ns) → AreNew seen (keys_at names ns)
new_keys names seen [] apart others = tt
new_keys names seen (n ∷ ns) apart others =
    (λ there. others (name_at names n) there (inl refl), new_keys names (seen ++ name_at names n ∷ []) ns further next) where
      further : AreApart names ns
      further p o a b x y e = let same = apart (suc p) (suc o) a b x y e in omega (arith, same)

      next : AreOthers (seen ++ name_at names n ∷ []) (keys_at names ns)
      next x there later = elim (in_longer x seen (name_at names n) there) [
        | inl p ↦ others x p (inr later)
        | inr p ↦ let q = key_at names ns x later in let same = apart 0 (suc q.0) n q.1 refl q.2 (sym p ∙ sym q.3) in omega (arith, same)
      ]

new_append : (seen xs ys : List Text) → AreNew seen xs → AreNew (seen ++ xs) ys → AreNew seen (xs ++ ys)
new_append seen [] ys a b = subst (λ (l : List Text). AreNew l ys) (append-nil seen) b
new_append seen (x ∷ xs) ys a b = (a.0, new_append (seen ++ x ∷ []) xs ys a.1 (subst (λ (l : List Text). AreNew l ys) (sym (append_assoc seen (x ∷ []) xs)) b))

all_keys : (P : Text → Type 0) (names : List Text) (ns : List ℕ) → ((place n : ℕ) → slice_get ns place ≡ Some n → P (name_at names n)) → AllByRecursion P (keys_at names ns)
all_keys P names [] each = tt
all_keys P names (n ∷ ns) each = (each 0 n refl, all_keys P names ns (λ place k e. each (suc place) k e))

keys_are : {A : Type 0} (number : A → ℕ) (names : List Text) (xs : List A) → keys_at names (map number xs ++ []) ≡ map (λ x. name_at names (number x)) xs
keys_are number names [] = refl
keys_are number names (x ∷ xs) = ap (λ (l : List Text). name_at names (number x) ∷ l) (keys_are number names xs)

-- ---- names in a table

name_there : {S : Type 0} (nothing : S) (Owns : S → ℕ → Type 0) (Good : Text → Type 0) (t : Table S) (n : ℕ) (a : S) → IsTable nothing Owns Good t
    → slice_get t.sorts n ≡ Some a → slice_get t.names n ≡ Some (name_at t.names n)
name_there nothing Owns Good t n a h sorted =
    let less : n < length t.names = (let w = slice_get_within t.sorts n a sorted in let s = h.same in omega (arith, w, s)) in
    let here = slice_get-get_or t.names n [] less in
    here ∙ ap Some (sym (ap (λ (x : Option Text). unwrap_or x []) here))

-- two numbers of one name are one number
same_number : {S : Type 0} (nothing : S) (Owns : S → ℕ → Type 0) (Good : Text → Type 0) (t : Table S) (n k : ℕ) (a b : S) → IsTable nothing Owns Good t
    → slice_get t.sorts n ≡ Some a → slice_get t.sorts k ≡ Some b → name_at t.names n ≡ name_at t.names k → n ≡ k
same_number nothing Owns Good t n k a b h x y e =
    let first = h.places n (name_at t.names n) (name_there nothing Owns Good t n a h x) in
    let second = h.places k (name_at t.names k) (name_there nothing Owns Good t k b h y) in
    cc

-- so they mean the same
same_sort : {S : Type 0} (nothing : S) (Owns : S → ℕ → Type 0) (Good : Text → Type 0) (t : Table S) (n k : ℕ) (a b : S) → IsTable nothing Owns Good t → Owns a n → Owns b k
    → name_at t.names n ≡ name_at t.names k → Some a ≡ Some b
same_sort nothing Owns Good t n k a b h x y e =
    let first = h.known n a x in
    let second = h.known k b y in
    sym first ∙ ap (slice_get t.sorts) (same_number nothing Owns Good t n k a b h first second e) ∙ second

module _ (e : Input) (h : Stands no_one e) where
  -- ---- structs

  structs_apart : AreApart e.struct_names.names (struct_names_of no_one e)
  structs_apart place other n k x y same =
      let sorts = same_sort None (OwnsStruct (struct_names_of no_one e)) AreBytes e.struct_names n k (Some place) (Some other) h.structs x y same in
      cc

  struct_bytes : (place n : ℕ) → slice_get (struct_names_of no_one e) place ≡ Some n → AreBytes (name_at e.struct_names.names n)
  struct_bytes place n own =
      h.structs.good n (Some place) (name_at e.struct_names.names n) own
      (name_there None (OwnsStruct (struct_names_of no_one e)) AreBytes e.struct_names n (Some place) h.structs (h.structs.known n (Some place) own))

  -- the names of structs are bytes, and each is new
  pub structs_end : AllByRecursion AreBytes (defined_structs (module_of e)) × AreNew [] (defined_structs (module_of e))
  structs_end =
      let are = keys_are (λ (s : StructType). s.name) e.struct_names.names e.structs in (
        subst (AllByRecursion AreBytes) are (all_keys AreBytes e.struct_names.names (struct_names_of no_one e) struct_bytes),
        subst (AreNew []) are (new_keys e.struct_names.names [] (struct_names_of no_one e) structs_apart (λ x there later. there)),
      )

  -- ---- globals and functions

  one_sort : (n k : ℕ) (a b : SymbolSort) → OwnsSymbol (symbols_of no_one e) a n → OwnsSymbol (symbols_of no_one e) b k
      → name_at e.symbols.names n ≡ name_at e.symbols.names k → Some a ≡ Some b
  one_sort n k a b x y same = same_sort symbol.Unknown (OwnsSymbol (symbols_of no_one e)) (IsSymbol e.wide) e.symbols n k a b h.symbols x y same

  symbol_good : (n : ℕ) (a : SymbolSort) → OwnsSymbol (symbols_of no_one e) a n → IsSymbol e.wide (name_at e.symbols.names n)
  symbol_good n a x =
      h.symbols.good n a (name_at e.symbols.names n) x (name_there symbol.Unknown (OwnsSymbol (symbols_of no_one e)) (IsSymbol e.wide) e.symbols n a h.symbols (h.symbols.known n a x))

  globals_are : keys_at e.symbols.names (symbols_of no_one e).globals ≡ defined_globals (module_of e)
  globals_are = keys_are (λ (g : Global). g.symbol) e.symbols.names e.globals

  declares_are : keys_at e.symbols.names (symbols_of no_one e).declares ≡ declared_functions (module_of e)
  declares_are = keys_are (λ (d : Declare). d.symbol) e.symbols.names e.declares

  functions_are : keys_at e.symbols.names (symbols_of no_one e).functions ≡ defined_functions (module_of e)
  functions_are = keys_are (λ (f : Function). f.symbol) e.symbols.names e.functions

  globals_new : AreNew [] (keys_at e.symbols.names (symbols_of no_one e).globals)
  globals_new =
      new_keys e.symbols.names [] (symbols_of no_one e).globals
      (λ place other n k x y same. let sorts = one_sort n k (symbol.Global place) (symbol.Global other) x y same in cc)
      (λ x there later. there)

  declares_new : AreNew (keys_at e.symbols.names (symbols_of no_one e).globals) (keys_at e.symbols.names (symbols_of no_one e).declares)
  declares_new =
      new_keys e.symbols.names (keys_at e.symbols.names (symbols_of no_one e).globals) (symbols_of no_one e).declares
      (λ place other n k x y same. let sorts = one_sort n k (symbol.Declared place) (symbol.Declared other) x y same in cc)
      (λ x there later.
      let p = key_at e.symbols.names (symbols_of no_one e).globals x there in
      let q = key_at e.symbols.names (symbols_of no_one e).declares x later in
      let sorts = one_sort p.1 q.1 (symbol.Global p.0) (symbol.Declared q.0) p.2 q.2 (p.3 ∙ sym q.3) in
      absurd cc)

  functions_new : AreNew (keys_at e.symbols.names (symbols_of no_one e).globals ++ keys_at e.symbols.names (symbols_of no_one e).declares)
      (keys_at e.symbols.names (symbols_of no_one e).functions)
  functions_new =
      new_keys e.symbols.names (keys_at e.symbols.names (symbols_of no_one e).globals ++ keys_at e.symbols.names (symbols_of no_one e).declares) (symbols_of no_one e).functions
      (λ place other n k x y same. let sorts = one_sort n k (symbol.Defined place) (symbol.Defined other) x y same in cc)
      (λ x there later.
      let q = key_at e.symbols.names (symbols_of no_one e).functions x later in
      elim (in_either x (keys_at e.symbols.names (symbols_of no_one e).globals) (keys_at e.symbols.names (symbols_of no_one e).declares) there) [
        | inl g ↦
            let p = key_at e.symbols.names (symbols_of no_one e).globals x g in
            let sorts = one_sort p.1 q.1 (symbol.Global p.0) (symbol.Defined q.0) p.2 q.2 (p.3 ∙ sym q.3) in
            absurd cc
        | inr d ↦
            let p = key_at e.symbols.names (symbols_of no_one e).declares x d in
            let sorts = one_sort p.1 q.1 (symbol.Declared p.0) (symbol.Defined q.0) p.2 q.2 (p.3 ∙ sym q.3) in
            absurd cc
      ])

  -- the names of globals and functions are bytes that are not left out, and each is new
  pub symbols_end : AllByRecursion (IsSymbol e.wide) (defined_globals (module_of e) ++ functions_of (module_of e)) × AreNew [] (defined_globals (module_of e) ++ functions_of (module_of e))
  symbols_end =
      let names = e.symbols.names in
      let gs = keys_at names (symbols_of no_one e).globals in
      let ds = keys_at names (symbols_of no_one e).declares in
      let fs = keys_at names (symbols_of no_one e).functions in
      let are : gs ++ (ds ++ fs) ≡ defined_globals (module_of e) ++ functions_of (module_of e) =
      ap (λ (l : List Text). l ++ (ds ++ fs)) globals_are ∙ ap (λ (l : List Text). defined_globals (module_of e) ++ (l ++ fs)) declares_are
      ∙ ap (λ (l : List Text). defined_globals (module_of e) ++ (declared_functions (module_of e) ++ l)) functions_are in (
        subst (AllByRecursion (IsSymbol e.wide)) are
            (all_join (IsSymbol e.wide) gs (ds ++ fs) (all_keys (IsSymbol e.wide) names (symbols_of no_one e).globals (λ place n x. symbol_good n (symbol.Global place) x))
            (all_join (IsSymbol e.wide) ds fs (all_keys (IsSymbol e.wide) names (symbols_of no_one e).declares (λ place n x. symbol_good n (symbol.Declared place) x))
            (all_keys (IsSymbol e.wide) names (symbols_of no_one e).functions (λ place n x. symbol_good n (symbol.Defined place) x)))),
        subst (AreNew []) are (new_append [] gs (ds ++ fs) globals_new (new_append gs ds fs declares_new functions_new)),
      )
