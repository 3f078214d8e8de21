-- What is printed of a module in which one function is replaced.
use Rattle.std.proofs.Common.{◌≡◌, ◌<◌, ℕ, zero, suc, List, [], ◌∷◌, ◌++◌, length, slice_get, Some, refl, sym, ap, subst, ◌∙◌, append_assoc}
use Rattle.std.specs.Prelude.{slice_set}
use Rattle.std.specs.List.{AllByRecursion, flat_map}
use Rattle.ir_print_law.specs.EqualParts.{same3}
use Rattle.lemmas.specs.Lists.{get_some, set_here}
use Rattle.ir_ast.specs.declared.function.Function.{Function}
use Rattle.ir_ast.specs.declared.ir_type.IrType.{IrType}
use Rattle.ir_ast.specs.declared.module.Module.{Module}
use Rattle.ir_tokens.specs.Bytes.{Text}
use Rattle.ir_print.specs.Items.{declare_line, function_text, global_line, struct_line}
use Rattle.ir_print_law.specs.Growing.{AreReplacedAlone, ReplacingKeepsTables}
use Rattle.ir_print_law.specs.Printable.{IsDeclare, IsFunction, IsGlobal, IsStructType}
use Rattle.ir_print_law.specs.Wholes.{IsWhole}
use Rattle.replaced_text.specs.ReplacedText.{AreReplacedPrinted, IsPrintedWith}
use Rattle.replaced_text.proofs.Texts.{declare, function, global, lines, struct}
use Rattle.replaced_text.proofs.Types.{Stay, with_types}

-- a text after another one, in front of two more
joined : (a b c d : Text) → a ++ (b ++ c ++ d) ≡ (a ++ b) ++ c ++ d
joined a b c d = sym (append_assoc a (b ++ c) d) ∙ ap (λ (t : Text). t ++ d) (sym (append_assoc a b c))

-- the texts of functions, with one of them in the place of another one
module _ (shown again : Function → Text) (P : Function → Type 0) (same : (x : Function) → P x → shown x ≡ again x) where
  split : (xs : List Function) (place : ℕ) (x y : Function) → slice_get xs place ≡ Some x → AllByRecursion P xs
      → (front : Text) × (rest : Text) × (flat_map shown xs ≡ front ++ shown x ++ rest) × (flat_map again (slice_set xs place y) ≡ front ++ again y ++ rest)
  split [] place x y at h = absurd cc
  split (z ∷ xs) zero x y at h =
      let here : z ≡ x = cc in
      ([], flat_map shown xs, ap (λ (k : Function). shown k ++ flat_map shown xs) here, ap (λ (t : Text). again y ++ t) (sym (lines P shown again xs same h.1)))
  split (z ∷ xs) (suc place) x y at h =
      let more = split xs place x y at h.1 in
      let front : Text = shown z ++ more.0 in (
        front,
        more.1,
        ap (λ (t : Text). shown z ++ t) more.2 ∙ joined (shown z) more.0 (shown x) more.1,
        ap (λ (t : Text). t ++ flat_map again (slice_set xs place y)) (sym (same z h.0)) ∙ ap (λ (t : Text). shown z ++ t) more.3 ∙ joined (shown z) more.0 (again y) more.1,
      )

module _ (m : Module) (whole : IsWhole m) (func : ℕ) (old : Function) (at : slice_get m.functions func ≡ Some old) (less : func < length m.functions) where
  edited_printed : (types : List IrType) (f : Function) → Stay m.types types → IsPrintedWith m func (with_types m types (slice_set m.functions func f))
  edited_printed types f more =
      let fs = slice_set m.functions func f in
      let n = with_types m types fs in
      let h = whole.printable in
      let structs = lines (IsStructType m) (struct_line m) (struct_line n) m.structs (struct m types fs more) h.structs in
      let globals = lines (IsGlobal m) (global_line m) (global_line n) m.globals (global m types fs more) h.globals in
      let declares = lines (IsDeclare m) (declare_line m) (declare_line n) m.declares (declare m types fs more) h.declares in
      let functions = split (function_text m) (function_text n) (IsFunction m) (λ x is. function m types fs more x is) m.functions func old f at h.functions in
      let items = flat_map (struct_line m) m.structs ++ flat_map (global_line m) m.globals ++ flat_map (declare_line m) m.declares in
      record {
        old = old;
        new = f;
        old_is = at;
        new_is = set_here m.functions func f less;
        front = items ++ functions.0;
        rest = functions.1;
        text = ap (λ (t : Text). items ++ t) functions.2 ∙ joined items functions.0 (function_text m old) functions.1;
        text_with = same3 (λ a b c. a ++ b ++ c ++ flat_map (function_text n) fs) (sym structs) (sym globals) (sym declares)
            ∙ ap (λ (t : Text). items ++ t) functions.3 ∙ joined items functions.0 (function_text n f) functions.1;
        struct_names = refl;
        symbols = refl;
      }

pub replaced_printed : ReplacingKeepsTables → AreReplacedAlone → AreReplacedPrinted
replaced_printed grown alone m func bytes n whole less own is =
    let old = get_some m.functions func less in
    let only = alone m func bytes n whole less own is in
    subst (IsPrintedWith m func) (sym only.1) (edited_printed m whole func old.0 old.1 less n.types only.0 (grown m func bytes n is).types)
