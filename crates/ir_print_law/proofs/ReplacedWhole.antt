-- A module in which one function is replaced can be printed, and its names mean its items.
use Rattle.std.proofs.Common.{◌≡◌, ℕ, zero, suc, ◌<◌, ◌≤◌, List, [], ◌∷◌, ◌++◌, length, map, slice_get, Option, Some, refl, ap, sym, subst, ◌∙◌, inl, inr}
use Rattle.std.specs.Prelude.{slice_set}
use Rattle.std.specs.List.{AllByRecursion}
use Rattle.std.proofs.lemmas.List.{length-set}
use Rattle.lemmas.specs.All.{all_so}
use Rattle.lemmas.specs.Lists.{get_some, set_either}
use Rattle.ir_ast.specs.declared.function.Function.{Function}
use Rattle.ir_ast.specs.declared.items_of_module.SymbolSort.TheVariants as symbol
use Rattle.ir_ast.specs.declared.ir_type.IrType.{IrType}
use Rattle.ir_ast.specs.declared.module.Module.{Module}
use Rattle.ir_tokens.specs.Bytes.{Text}
use Rattle.ir_forms.specs.declared.input.Input.{Input}
use Rattle.ir_text.specs.Anew.{start_anew, anew, anew_of}
use Rattle.copies.specs.Tables.{tables_of}
use Rattle.ir_text.specs.Replaced.{name_in, put_function, with_replacement, IsReplaced}
use Rattle.name_text.specs.Readings.{AreBytes}
use Rattle.ir_print.specs.Names.{name_at}
use Rattle.ir_print_law.specs.Definitions.{AreNew, defined_globals, declared_functions, defined_functions}
use Rattle.ir_print_law.specs.FunctionNames.{HasNames}
use Rattle.ir_print_law.specs.Growing.{IsReplacedAlone}
use Rattle.ir_print_law.specs.ModuleNames.{IsNumbered}
use Rattle.ir_print_law.specs.Printable.{IsFunction, IsStructType, IsGlobal, IsDeclare, IsSymbol}
use Rattle.ir_print_law.specs.Wholes.{IsWhole}
use Rattle.ir_print_law.proofs.AnewRead.{IsRead, function_read}
use Rattle.ir_print_law.proofs.LongerOps.{function_again, struct_again, global_again, declare_again}
use Rattle.ir_print_law.proofs.LongerTypes.{with_types}
use Rattle.ir_print_law.proofs.ModuleRead.{read_is_printable, read_has_names, read_is_ordered}
use Rattle.ir_print_law.proofs.Tables.{Begins, AreOrdered, begins_itself}
use Rattle.ir_text.specs.Read.{IsText}

-- ---- lists in which one element is replaced

-- what each element gives stays, where the new one gives what the old one gave
map_set : {A B : Type 0} (g : A → B) (xs : List A) (place : ℕ) (x y : A) → slice_get xs place ≡ Some x → g y ≡ g x → map g (slice_set xs place y) ≡ map g xs
map_set {B = B} g [] place x y at e = refl
map_set {B = B} g (z ∷ xs) zero x y at e = let same : z ≡ x = cc in ap (λ (b : B). b ∷ map g xs) (e ∙ ap g (sym same))
map_set {B = B} g (z ∷ xs) (suc place) x y at e = ap (λ (l : List B). g z ∷ l) (map_set g xs place x y at e)

pub all_set : {A : Type 0} (P : A → Type 0) (xs : List A) (place : ℕ) (y : A) → AllByRecursion P xs → P y → AllByRecursion P (slice_set xs place y)
all_set P [] place y all p = tt
all_set P (z ∷ xs) zero y all p = (p, all.1)
all_set P (z ∷ xs) (suc place) y all p = (all.0, all_set P xs place y all.1 p)

-- the new element has the old one's number
numbered_set : {A : Type 0} (number : A → ℕ) (xs : List A) (place : ℕ) (x y : A) → slice_get xs place ≡ Some x → number y ≡ number x
    → (other name : ℕ) → IsNumbered number xs other name → IsNumbered number (slice_set xs place y) other name
numbered_set number [] place x y at e other name h = h
numbered_set number (z ∷ xs) zero x y at e zero name h =
    let same : z ≡ x = cc in
    let here = h.1 in
    let found : z ≡ h.0 = cc in
    (y, refl, e ∙ ap number (sym same ∙ found) ∙ h.2)
numbered_set number (z ∷ xs) zero x y at e (suc other) name h = h
numbered_set number (z ∷ xs) (suc place) x y at e zero name h = h
numbered_set number (z ∷ xs) (suc place) x y at e (suc other) name h = numbered_set number xs place x y at e other name h

-- ---- the module with the function

module _ (m : Module) (whole : IsWhole m) (func : ℕ) (old : Function) (at : slice_get m.functions func ≡ Some old) where
  -- the module with these types and this function
  abbrev pub edited : List IrType → Function → Module
  edited types f = with_types m types (slice_set m.functions func f)

  module _ (types : List IrType) (f : Function) (more : Begins m.types types) (order : AreOrdered types) (symbol_is : f.symbol ≡ old.symbol)
      (function_is : IsFunction (with_types m types m.functions) f) (has_names : HasNames f) where
    same_names : defined_functions (edited types f) ≡ defined_functions m
    same_names = map_set (λ (g : Function). name_at m.symbols g.symbol) m.functions func old f at (ap (name_at m.symbols) symbol_is)

    edited_whole : IsWhole (edited types f)
    edited_whole = let h = whole.printable in let n = whole.names in record {
      printable = record {
        struct_names = h.struct_names;
        symbols = subst
            (λ (names : List Text). AllByRecursion (IsSymbol m.wide) (defined_globals m ++ (declared_functions m ++ names)) × AreNew [] (defined_globals m ++ (declared_functions m ++ names)))
            (sym same_names) h.symbols;
        structs = all_so (IsStructType m) (IsStructType (edited types f)) m.structs (struct_again m types (slice_set m.functions func f) (more, order) same_names) h.structs;
        globals = all_so (IsGlobal m) (IsGlobal (edited types f)) m.globals (global_again m types (slice_set m.functions func f) (more, order) same_names) h.globals;
        few_globals = h.few_globals;
        declares = all_so (IsDeclare m) (IsDeclare (edited types f)) m.declares (declare_again m types (slice_set m.functions func f) (more, order) same_names) h.declares;
        few_declares = h.few_declares;
        functions = all_set (IsFunction (edited types f)) m.functions func f
            (all_so (IsFunction m) (IsFunction (edited types f)) m.functions (function_again m types (slice_set m.functions func f) (more, order) same_names) h.functions)
            (function_again (with_types m types m.functions) types (slice_set m.functions func f) (begins_itself types, order) same_names f function_is);
        few_functions = subst (λ (k : ℕ). k ≤ 65535) (sym (length-set m.functions func f)) h.few_functions;
      };
      names = record {
        struct_names = n.struct_names;
        structs = n.structs;
        layouts = n.layouts;
        symbols = n.symbols;
        sorts = n.sorts;
        globals = n.globals;
        declares = n.declares;
        functions = λ number g there. elim (set_either m.functions func f number g there) [
          | inl p ↦ n.functions number g p
          | inr p ↦
              let its : g.symbol ≡ old.symbol = ap (λ (x : Function). x.symbol) (sym p.1) ∙ symbol_is in
              ap (slice_get m.sorts) its ∙ n.functions func old at ∙ ap (λ (k : ℕ). Some (symbol.Defined k)) (sym p.0)
        ];
        named_globals = n.named_globals;
        named_declares = n.named_declares;
        named_functions = λ name number there.
            numbered_set (λ (g : Function). g.symbol) m.functions func old f at symbol_is number name (n.named_functions name number there);
        own = λ number g there. elim (set_either m.functions func f number g there) [
          | inl p ↦ n.own number g p
          | inr p ↦ subst HasNames p.1 has_names
        ];
      };
      ordered = order;
    }

  -- the module with what was read
  abbrev built : List IrType → (names : List Text) → (sorts : List (Option ℕ)) → (symbols : List Text) → List Function → Module
  built types names sorts symbols read = record m {
    types = types;
    struct_names = names;
    struct_of = sorts;
    symbols = symbols;
    functions = put_function func (slice_get read 0) m.functions;
  }

  pub read_edits : (o : Input) (f : Function) → IsRead m old f o → with_replacement m func (anew_of (tables_of m) o) ≡ edited o.types f
  read_edits o f h =
      let names = o.struct_names.names in
      let sorts = o.struct_names.sorts in
      ap (λ (x : List Text). built o.types x sorts o.symbols.names o.functions) h.end.struct_names
      ∙ ap (λ (x : List (Option ℕ)). built o.types m.struct_names x o.symbols.names o.functions) h.end.struct_of
      ∙ ap (λ (x : List Text). built o.types m.struct_names m.struct_of x o.functions) h.end.symbols
      ∙ ap (λ (x : List Function). built o.types m.struct_names m.struct_of m.symbols x) h.functions

  -- what was read, in the place of the old function, is the module that comes of it
  abbrev pub Becomes : Module → Type 0
  Becomes n = (o : Input) × (f : Function) × IsRead m old f o × (edited o.types f ≡ n)

  pub becomes : (bytes : Text) (n : Module) → AreBytes bytes → IsReplaced m func bytes n → Becomes n
  becomes bytes n own h =
      let text = h.1 in
      let read = text.3 in
      let said = subst (λ (name : Text). (anew func name).says (start_anew (tables_of m) func bytes text.1) tt read.0) (ap (name_in m) at) read.1 in
      let got = function_read m whole.names func old at bytes text.1 read.0 whole.ordered own text.2 said read.2 in
      (read.0, got.0, got.1, sym (read_edits read.0 got.0 got.1) ∙ ap (with_replacement m func) read.3 ∙ h.2)

  old_whole : (bytes : Text) (n : Module) → AreBytes bytes → IsReplaced m func bytes n → IsWhole n
  old_whole bytes n own h =
      let b = becomes bytes n own h in
      let is = b.2 in
      subst IsWhole b.3 (edited_whole b.0.types b.1 is.begins is.ordered is.symbol_is is.function_is is.has_names)

  old_alone : (bytes : Text) (n : Module) → AreBytes bytes → IsReplaced m func bytes n → IsReplacedAlone m func n
  old_alone bytes n own h =
      let b = becomes bytes n own h in
      (b.1, sym b.3 ∙ ap (λ (types : List IrType). edited types b.1) (ap (λ (x : Module). x.types) b.3))

-- the module in which a function is replaced
pub replaced_is_whole : (m : Module) (func : ℕ) (bytes : Text) (n : Module) → IsWhole m → func < length m.functions → AreBytes bytes → IsReplaced m func bytes n → IsWhole n
replaced_is_whole m func bytes n whole within own h = let old = get_some m.functions func within in old_whole m whole func old.0 old.1 bytes n own h

-- and nothing of the module is another then but its types and that function
pub replaced_is_alone : (m : Module) (func : ℕ) (bytes : Text) (n : Module) → IsWhole m → func < length m.functions → AreBytes bytes → IsReplaced m func bytes n → IsReplacedAlone m func n
replaced_is_alone m func bytes n whole within own h = let old = get_some m.functions func within in old_alone m whole func old.0 old.1 bytes n own h

-- a module that is read
pub read_is_whole : (bytes : Text) (m : Module) → AreBytes bytes → IsText bytes m → IsWhole m
read_is_whole bytes m own is = record {
  printable = read_is_printable bytes m own is;
  names = read_has_names bytes m own is;
  ordered = read_is_ordered bytes m own is;
}
