-- What is known of names after a definition.
use Rattle.std.proofs.Common.{◌≡◌, ℕ, suc, true, false, not, List, [], ◌∷◌, ◌++◌, length, slice_get, Option, None, Some, refl, sym, ap, subst, ◌∙◌, arith, inl, inr}
use Rattle.std.specs.Prelude.{drop, ◌==◌}
use Rattle.std.proofs.lemmas.Bool.Decides.{nat_tests}
use Rattle.lemmas.specs.Bools.{not_true}
use Rattle.lemmas.specs.Lists.{in_first, in_longer, last_in, IsIn}
use Rattle.ir_ast.specs.Names.{place_of, number_of, numbered}
use Rattle.ir_ast.specs.declared.function.Function.{Function}
use Rattle.ir_ast.specs.declared.function.LocalSort.{LocalSort}
use Rattle.ir_ast.specs.declared.function.LocalSort.TheVariants as local
use Rattle.ir_ast.specs.declared.items_of_module.SymbolSort.{SymbolSort}
use Rattle.ir_ast.specs.declared.items_of_module.SymbolSort.TheVariants as symbol
use Rattle.ir_ast.specs.declared.module.Module.{Module}
use Rattle.ir_tokens.specs.Bytes.{Text}
use Rattle.ir_forms.specs.declared.table.Table.{Table}
use Rattle.ir_forms.specs.declared.uses.LocalUse.{LocalUse}
use Rattle.ir_forms.specs.declared.uses.StructUse.{StructUse}
use Rattle.ir_forms.specs.declared.uses.SymbolUse.{SymbolUse}
use Rattle.ir_forms.specs.declared.uses.Wanted.{Wanted}
use Rattle.ir_forms.specs.declared.uses.Wanted.TheVariants as wants
use Rattle.ir_forms.specs.Table.{mentioned, defined}
use Rattle.ir_forms.specs.Names.{is_symbol, is_function, is_local, is_wanted}
use Rattle.ir_forms.specs.Names as names
use Rattle.ir_text.specs.Late.{is_right}
use Rattle.ir_text.specs.Late as late
use Rattle.ir_print_law.specs.Definitions.{defined_globals, declared_functions}
use Rattle.ir_print_law.proofs.Named.{sort_at, sort_number, even_defined, place_numbered}
use Rattle.ir_print_law.proofs.Reading.{IsValueSort}
use Rattle.ir_print_law.proofs.Used.{is_defined}
use Rattle.ir_print_law.proofs.Known.{Tells, tells_defined, known_keys, StructsKnown, SymbolsKnown, LocalsKnown, structs_mentioned, symbols_mentioned, locals_mentioned}

-- an element before the last one
before_last : (xs : List Text) (k name : Text) → IsIn name (xs ++ k ∷ []) → (name ≡ k → ⊥) → IsIn name xs
before_last xs k name is ne = elim (in_longer name xs k is) [
  | inl a ↦ a
  | inr e ↦ absurd (ne e)
]

-- what is none of the list with this at its end is another one
not_last : {A : Type 0} (xs : List Text) (k name : Text) → (IsIn name (xs ++ k ∷ []) → ⊥) → name ≡ k → A
not_last xs k name none e = absurd (none (subst (λ (x : Text). IsIn x (xs ++ k ∷ [])) (sym e) (last_in k xs)))

-- ---- structs

pub structs_defined : (m : Module) (structs : List Text) (t : Table (Option ℕ)) (uses : List StructUse) (k : Text) (layout : ℕ) → StructsKnown m structs t uses
    → StructsKnown m (structs ++ k ∷ []) (defined (number_of k t.names) (Some layout) (mentioned k None t)) uses
structs_defined m structs t uses k layout h =
    let g = structs_mentioned m structs t uses k h in
    let place = place_numbered k t.names in
    record {
      even = even_defined (mentioned k None t) (number_of k t.names) (Some layout) g.even;
      known = tells_defined (λ x. IsIn x structs) (λ x. IsIn x (structs ++ k ∷ [])) late.is_struct (mentioned k None t) k (number_of k t.names) (Some layout) g.even place
          (λ name is e. refl) (λ name is ne. before_last structs k name is ne) g.known;
      new = tells_defined (λ name. IsIn name structs → ⊥) (λ name. IsIn name (structs ++ k ∷ []) → ⊥) (λ s. not (names.is_struct s)) (mentioned k None t) k (number_of k t.names) (Some layout) g.even place
          (λ name none e. not_last structs k name none e) (λ name none ne. λ is. none (in_first name structs (k ∷ []) is)) g.new;
      uses_so = g.uses_so;
    }

-- a name that is not among the structs is new
pub struct_is_new : (m : Module) (structs : List Text) (t : Table (Option ℕ)) (uses : List StructUse) (k : Text) → StructsKnown m structs t uses → (IsIn k structs → ⊥)
    → names.is_struct (slice_get (mentioned k None t).sorts (number_of k t.names)) ≡ false
struct_is_new m structs t uses k h none =
    let g = structs_mentioned m structs t uses k h in
    ap names.is_struct (sort_number t k None) ∙ not_true (names.is_struct (sort_at (mentioned k None t) k)) (g.new k none)

-- ---- global names

symbols_defined : (m : Module) (symbols globals functions more_globals more_functions : List Text) (t : Table SymbolSort) (uses : List SymbolUse) (k : Text) (sort : SymbolSort)
    → ((name : Text) → IsIn name more_globals → name ≡ k → is_right false (Some sort) ≡ true) → ((name : Text) → IsIn name more_globals → (name ≡ k → ⊥) → IsIn name globals)
    → ((name : Text) → IsIn name more_functions → name ≡ k → is_right true (Some sort) ≡ true) → ((name : Text) → IsIn name more_functions → (name ≡ k → ⊥) → IsIn name functions)
    → (IsIn k (defined_globals m) → not (is_function (Some sort)) ≡ true) → (IsIn k (declared_functions m) → not (is_defined (Some sort)) ≡ true) → SymbolsKnown m symbols globals functions t uses
    → SymbolsKnown m (symbols ++ k ∷ []) more_globals more_functions (defined (number_of k t.names) sort (mentioned k symbol.Unknown t)) uses
symbols_defined m symbols globals functions more_globals more_functions t uses k sort global_here global_before function_here function_before no_function no_defined h =
    let g = symbols_mentioned m symbols globals functions t uses k h in
    let place = place_numbered k t.names in
    record {
      even = even_defined (mentioned k symbol.Unknown t) (number_of k t.names) sort g.even;
      are_globals = tells_defined (λ x. IsIn x globals) (λ x. IsIn x more_globals) (is_right false) (mentioned k symbol.Unknown t) k (number_of k t.names) sort g.even place global_here global_before g.are_globals;
      are_functions = tells_defined (λ x. IsIn x functions) (λ x. IsIn x more_functions) (is_right true) (mentioned k symbol.Unknown t) k (number_of k t.names) sort g.even place function_here function_before g.are_functions;
      new = tells_defined (λ name. IsIn name symbols → ⊥) (λ name. IsIn name (symbols ++ k ∷ []) → ⊥) (λ s. not (is_symbol s)) (mentioned k symbol.Unknown t) k (number_of k t.names) sort g.even place
          (λ name none e. not_last symbols k name none e) (λ name none ne. λ is. none (in_first name symbols (k ∷ []) is)) g.new;
      no_function = tells_defined (λ x. IsIn x (defined_globals m)) (λ x. IsIn x (defined_globals m)) (λ s. not (is_function s)) (mentioned k symbol.Unknown t) k (number_of k t.names) sort g.even place
          (λ name is e. no_function (subst (λ (x : Text). IsIn x (defined_globals m)) e is)) (λ name is ne. is) g.no_function;
      no_defined = tells_defined (λ x. IsIn x (declared_functions m)) (λ x. IsIn x (declared_functions m)) (λ s. not (is_defined s)) (mentioned k symbol.Unknown t) k (number_of k t.names) sort g.even place
          (λ name is e. no_defined (subst (λ (x : Text). IsIn x (declared_functions m)) e is)) (λ name is ne. is) g.no_defined;
      uses_so = g.uses_so;
    }

pub global_defined : (m : Module) (symbols globals functions : List Text) (t : Table SymbolSort) (uses : List SymbolUse) (k : Text) (number : ℕ) → (IsIn k functions → ⊥) → SymbolsKnown m symbols globals functions t uses
    → SymbolsKnown m (symbols ++ k ∷ []) (globals ++ k ∷ []) functions (defined (number_of k t.names) (symbol.Global number) (mentioned k symbol.Unknown t)) uses
global_defined m symbols globals functions t uses k number apart h =
    symbols_defined m symbols globals functions (globals ++ k ∷ []) functions t uses k (symbol.Global number)
    (λ name is e. refl) (λ name is ne. before_last globals k name is ne)
    (λ name is e. absurd (apart (subst (λ (x : Text). IsIn x functions) e is))) (λ name is ne. is)
    (λ is. refl) (λ is. refl) h

-- this sort is a function
abbrev pub IsFunctionSort : SymbolSort → Type 0
IsFunctionSort (symbol.Declared number) = Unit {0}
IsFunctionSort (symbol.Defined number) = Unit {0}
IsFunctionSort _ = ⊥

right_function : (sort : SymbolSort) → IsFunctionSort sort → is_right true (Some sort) ≡ true
right_function symbol.Unknown is = absurd is
right_function (symbol.Global number) is = absurd is
right_function (symbol.Declared number) is = refl
right_function (symbol.Defined number) is = refl

pub function_defined : (m : Module) (symbols globals functions : List Text) (t : Table SymbolSort) (uses : List SymbolUse) (k : Text) (sort : SymbolSort) → IsFunctionSort sort
    → (IsIn k globals → ⊥) → (IsIn k (defined_globals m) → ⊥) → (IsIn k (declared_functions m) → not (is_defined (Some sort)) ≡ true) → SymbolsKnown m symbols globals functions t uses
    → SymbolsKnown m (symbols ++ k ∷ []) globals (functions ++ k ∷ []) (defined (number_of k t.names) sort (mentioned k symbol.Unknown t)) uses
function_defined m symbols globals functions t uses k sort is_function_sort apart never other h =
    symbols_defined m symbols globals functions globals (functions ++ k ∷ []) t uses k sort
    (λ name is e. absurd (apart (subst (λ (x : Text). IsIn x globals) e is))) (λ name is ne. is)
    (λ name is e. right_function sort is_function_sort) (λ name is ne. before_last functions k name is ne)
    (λ is. absurd (never is)) other h

-- a name that is not among the symbols is new
pub symbol_is_new : (m : Module) (symbols globals functions : List Text) (t : Table SymbolSort) (uses : List SymbolUse) (k : Text) → SymbolsKnown m symbols globals functions t uses → (IsIn k symbols → ⊥)
    → is_symbol (slice_get (mentioned k symbol.Unknown t).sorts (number_of k t.names)) ≡ false
symbol_is_new m symbols globals functions t uses k h none =
    let g = symbols_mentioned m symbols globals functions t uses k h in
    ap is_symbol (sort_number t k symbol.Unknown) ∙ not_true (is_symbol (sort_at (mentioned k symbol.Unknown t) k)) (g.new k none)

-- ---- local names

-- a value whose type is still to be read
pub value_begun : (f : Function) (seen values labels : List Text) (t : Table LocalSort) (uses : List LocalUse) (k : Text) → LocalsKnown f seen values labels [] t uses
    → LocalsKnown f (seen ++ k ∷ []) values labels ((k, number_of k t.names) ∷ []) (mentioned k local.Unknown t) uses
value_begun f seen values labels t uses k h =
    let g = locals_mentioned f seen values labels [] t uses k h in
    record {
      even = g.even;
      known = g.known;
      new = λ key none. g.new key (λ is. none (in_first key seen (k ∷ []) is));
      waits = (place_numbered k t.names, tt);
      uses_so = g.uses_so;
    }

right_value : (sort : LocalSort) → IsValueSort sort → is_wanted wants.Value (Some sort) ≡ true
right_value local.Unknown is = absurd is
right_value (local.Value shown) is = refl
right_value (local.Slot held) is = refl
right_value (local.Element block place) is = refl
right_value (local.Block number) is = absurd is

pub dropped : (xs : List Text) (name : Text) → IsIn name (drop 1 xs) → IsIn name xs
dropped [] name is = is
dropped (x ∷ xs) name is = inr is

-- the value has a type from here on
pub value_set : (f : Function) (seen values labels : List Text) (t : Table LocalSort) (uses : List LocalUse) (k : Text) (n : ℕ) (sort : LocalSort) → IsValueSort sort
    → IsIn k seen → (IsIn k labels → ⊥) → LocalsKnown f seen values labels ((k, n) ∷ []) t uses
    → LocalsKnown f seen (values ++ k ∷ []) labels [] (defined n sort t) uses
value_set f seen values labels t uses k n sort is_value there apart h = record {
  even = even_defined t n sort h.even;
  known = known;
  new = tells_defined (λ key. IsIn key seen → ⊥) (λ key. IsIn key seen → ⊥) (λ s. not (is_local s)) t k n sort h.even h.waits.0
      (λ name none e. absurd (none (subst (λ (x : Text). IsIn x seen) (sym e) there))) (λ name none ne. none) h.new;
  waits = tt;
  uses_so = h.uses_so;
} where
  known : (wanted : Wanted) → Tells (λ x. IsIn x (known_keys (values ++ k ∷ []) labels wanted)) (is_wanted wanted) (defined n sort t)
  known wants.Value = tells_defined (λ x. IsIn x values) (λ x. IsIn x (values ++ k ∷ [])) (is_wanted wants.Value) t k n sort h.even h.waits.0
      (λ name is e. right_value sort is_value) (λ name is ne. before_last values k name is ne) (h.known wants.Value)
  known wants.Block = tells_defined (λ x. IsIn x labels) (λ x. IsIn x labels) (is_wanted wants.Block) t k n sort h.even h.waits.0
      (λ name is e. absurd (apart (subst (λ (x : Text). IsIn x labels) e is))) (λ name is ne. is) (h.known wants.Block)
  known wants.Target = tells_defined (λ x. IsIn x (drop 1 labels)) (λ x. IsIn x (drop 1 labels)) (is_wanted wants.Target) t k n sort h.even h.waits.0
      (λ name is e. absurd (apart (subst (λ (x : Text). IsIn x labels) e (dropped labels name is)))) (λ name is ne. is) (h.known wants.Target)

-- the label of the block that comes next
pub label_defined : (f : Function) (seen values labels : List Text) (t : Table LocalSort) (uses : List LocalUse) (k : Text) → (IsIn k values → ⊥) → LocalsKnown f seen values labels [] t uses
    → LocalsKnown f (seen ++ k ∷ []) values (labels ++ k ∷ []) [] (defined (number_of k t.names) (local.Block (length labels)) (mentioned k local.Unknown t)) uses
label_defined f seen values labels t uses k apart h =
    let g = locals_mentioned f seen values labels [] t uses k h in
    let place = place_numbered k t.names in
    record {
      even = even_defined (mentioned k local.Unknown t) (number_of k t.names) (local.Block (length labels)) g.even;
      known = known g place;
      new = tells_defined (λ key. IsIn key seen → ⊥) (λ key. IsIn key (seen ++ k ∷ []) → ⊥) (λ s. not (is_local s)) (mentioned k local.Unknown t) k (number_of k t.names) (local.Block (length labels)) g.even place
          (λ name none e. not_last seen k name none e) (λ name none ne. λ is. none (in_first name seen (k ∷ []) is)) g.new;
      waits = tt;
      uses_so = g.uses_so;
    } where
      further : (labels : List Text) (name : Text) → IsIn name (drop 1 (labels ++ k ∷ [])) → is_wanted wants.Target (Some (local.Block (length labels))) ≡ true
      further [] name is = absurd is
      further (x ∷ labels) name is = let e : suc (length labels) == 0 ≡ false = grind (arith, nat_tests) in ap not e

      earlier : (labels : List Text) (name : Text) → IsIn name (drop 1 (labels ++ k ∷ [])) → (name ≡ k → ⊥) → IsIn name (drop 1 labels)
      earlier [] name is ne = absurd is
      earlier (x ∷ labels) name is ne = before_last labels k name is ne

      known : LocalsKnown f seen values labels [] (mentioned k local.Unknown t) uses → place_of k (numbered k t.names) ≡ Some (number_of k t.names)
          → (wanted : Wanted) → Tells (λ x. IsIn x (known_keys values (labels ++ k ∷ []) wanted)) (is_wanted wanted) (defined (number_of k t.names) (local.Block (length labels)) (mentioned k local.Unknown t))
      known g place wants.Value = tells_defined (λ x. IsIn x values) (λ x. IsIn x values) (is_wanted wants.Value) (mentioned k local.Unknown t) k (number_of k t.names) (local.Block (length labels)) g.even place
          (λ name is e. absurd (apart (subst (λ (x : Text). IsIn x values) e is))) (λ name is ne. is) (g.known wants.Value)
      known g place wants.Block = tells_defined (λ x. IsIn x labels) (λ x. IsIn x (labels ++ k ∷ [])) (is_wanted wants.Block) (mentioned k local.Unknown t) k (number_of k t.names) (local.Block (length labels)) g.even place
          (λ name is e. refl) (λ name is ne. before_last labels k name is ne) (g.known wants.Block)
      known g place wants.Target = tells_defined (λ x. IsIn x (drop 1 labels)) (λ x. IsIn x (drop 1 (labels ++ k ∷ []))) (is_wanted wants.Target) (mentioned k local.Unknown t) k (number_of k t.names) (local.Block (length labels)) g.even place
          (λ name is e. further labels name is) (λ name is ne. earlier labels name is ne) (g.known wants.Target)

-- a key that is not among those that were seen is new
pub local_is_new : (f : Function) (seen values labels : List Text) (pending : List (Text × ℕ)) (t : Table LocalSort) (uses : List LocalUse) (k : Text) → LocalsKnown f seen values labels pending t uses → (IsIn k seen → ⊥)
    → is_local (slice_get (mentioned k local.Unknown t).sorts (number_of k t.names)) ≡ false
local_is_new f seen values labels pending t uses k h none =
    let g = locals_mentioned f seen values labels pending t uses k h in
    ap is_local (sort_number t k local.Unknown) ∙ not_true (is_local (sort_at (mentioned k local.Unknown t) k)) (g.new k none)
