-- A function that is read in the tables of its module, to which its text adds nothing.
use Rattle.std.proofs.Common.{◌≡◌, ◌≢◌, ℕ, Bool, List, slice_get, Option, Some, None, Ok, Err, ap, sym, subst, ◌∙◌}
use Rattle.std.specs.Prelude.{IfSome}
use Rattle.ir_ast.specs.declared.function.Function.{Function}
use Rattle.ir_ast.specs.declared.ir_type.IrType.{IrType}
use Rattle.ir_ast.specs.declared.items_of_module.SymbolSort.{SymbolSort}
use Rattle.ir_ast.specs.declared.module.Module.{Module}
use Rattle.ir_tokens.specs.Bytes.{Text}
use Rattle.ir_text.specs.Anew.{IsTextAnew, IsFaultAnew}
use Rattle.ir_text.specs.Read.{Gives}
use Rattle.copies.specs.Tables.{tables_of}
use Rattle.ir_text.specs.Replaced.{name_of, with_parts, with_replacement, IsReplaced, IsReplaceFault}
use Rattle.ir_text.specs.declared.anew.Replacement.{Replacement}
use Rattle.copies.specs.declared.tables.Tables.{Tables}
use Rattle.ir_text.specs.declared.read_fault.ReadFault.{ReadFault}
use Rattle.ir_text.specs.declared.read_fault.ReadFault.TheVariants as read
use Rattle.recheck.specs.Edits.{code_fault}
use Rattle.recheck.specs.Put.{with_function}
use Rattle.recheck.specs.declared.edit_fault.EditFault.{EditFault}
use Rattle.recheck.specs.declared.edit_fault.EditFault.TheVariants.{Memory}
use Rattle.recheck.proofs.Results.{same_ok, same_err, ok_or_err, err_or_ok}

-- the fault of a text is not that of memory where that of the edit is not
pub code_differs : (f : ReadFault) (e : EditFault) → e ≡ code_fault f → e ≢ Memory → f ≢ read.Memory
code_differs f e is differs h = differs (is ∙ ap code_fault h)

-- the tables are those of the module in which the other ones are its own
pub record AreTables (m : Module) (t : Tables) : Type 0 where
  pub types : t.types ≡ m.types
  pub struct_names : t.struct_names ≡ m.struct_names
  pub struct_of : t.struct_of ≡ m.struct_of
  pub symbols : t.symbols ≡ m.symbols
  pub wide : t.wide ≡ m.wide

-- what the names stand for stays
sorts_stay : (t : Tables) (func : ℕ) (name bytes : Text) (a : Replacement) → IsTextAnew t func name bytes a → a.tables.sorts ≡ t.sorts
sorts_stay t func name bytes a h = ap (λ (x : Replacement). x.tables.sorts) (sym h.3.3)

module _ (m : Module) (func : ℕ) (bytes : Text) (tables : Tables) (name : Text) (are_its : tables ≡ tables_of m) (is_its : name ≡ name_of m func) where
  of_module : (a : Replacement) → IsTextAnew tables func name bytes a → IsTextAnew (tables_of m) func (name_of m func) bytes a
  of_module a h = subst (λ (t : Tables). IsTextAnew t func (name_of m func) bytes a) are_its (subst (λ (x : Text). IsTextAnew tables func x bytes a) is_its h)

  to_tables : (a : Replacement) → IsTextAnew (tables_of m) func (name_of m func) bytes a → IsTextAnew tables func name bytes a
  to_tables a h = subst (λ (t : Tables). IsTextAnew t func name bytes a) (sym are_its) (subst (λ (x : Text). IsTextAnew (tables_of m) func x bytes a) (sym is_its) h)

  to_fault : (e : ReadFault) → IsReplaceFault m func bytes e → IsFaultAnew tables func name bytes e
  to_fault e h = subst (λ (t : Tables). IsFaultAnew t func name bytes e) (sym are_its) (subst (λ (x : Text). IsFaultAnew (tables_of m) func x bytes e) (sym is_its) h)

  of_fault : (e : ReadFault) → IsFaultAnew tables func name bytes e → IsReplaceFault m func bytes e
  of_fault e h = subst (λ (t : Tables). IsFaultAnew t func (name_of m func) bytes e) are_its (subst (λ (x : Text). IsFaultAnew tables func x bytes e) is_its h)

  -- ---- what is read

  pub tables_same : (a : Replacement) → IsTextAnew tables func name bytes a → AreTables m a.tables → a.tables ≡ tables_of m
  tables_same a h are =
      let sorts : a.tables.sorts ≡ m.sorts = sorts_stay (tables_of m) func (name_of m func) bytes a (of_module a h) in
      made a.tables are sorts
    where
      made : (t : Tables) → AreTables m t → t.sorts ≡ m.sorts → t ≡ tables_of m
      made t of_t sorts =
          ap (λ (x : List IrType). record t { types = x }) of_t.types
          ∙ ap (λ (x : List Text). record t { types = m.types; struct_names = x }) of_t.struct_names
          ∙ ap (λ (x : List (Option ℕ)). record t { types = m.types; struct_names = m.struct_names; struct_of = x }) of_t.struct_of
          ∙ ap (λ (x : List Text). record t { types = m.types; struct_names = m.struct_names; struct_of = m.struct_of; symbols = x }) of_t.symbols
          ∙ ap (λ (x : List SymbolSort). record t { types = m.types; struct_names = m.struct_names; struct_of = m.struct_of; symbols = m.symbols; sorts = x }) sorts
          ∙ ap (λ (x : Bool). record t { types = m.types; struct_names = m.struct_names; struct_of = m.struct_of; symbols = m.symbols; sorts = m.sorts; wide = x }) of_t.wide

  module_same : (a : Replacement) (f : Function) → IsTextAnew tables func name bytes a → AreTables m a.tables → Some f ≡ slice_get a.functions 0 → with_replacement m func a ≡ with_function m func f
  module_same a f h are at =
      ap (λ (t : Tables). with_parts m func t (slice_get a.functions 0)) (tables_same a h are) ∙ ap (with_parts m func (tables_of m)) (sym at)

  -- the module with the function that is read
  pub within_found : (a : Replacement) (f : Function) → IsTextAnew tables func name bytes a → AreTables m a.tables → Some f ≡ slice_get a.functions 0 → IsReplaced m func bytes (with_function m func f)
  within_found a f h are at = (a, of_module a h, module_same a f h are at)

  -- there is no other one
  pub within_one : (a : Replacement) (f : Function) → IsTextAnew tables func name bytes a → AreTables m a.tables → Some f ≡ slice_get a.functions 0
      → ((b : Replacement) → IsTextAnew tables func name bytes b → Gives (Ok a) (Ok b)) → (n : Module) → IsReplaced m func bytes n → n ≡ with_function m func f
  within_one a f h are at reads n is =
      let same : is.0 ≡ a = same_ok {E = ReadFault} is.0 a (reads is.0 (to_tables is.0 is.1)) in
      sym is.2 ∙ ap (with_replacement m func) same ∙ module_same a f h are at

  -- the same of what is read, if it is a function
  pub some_found : (a : Replacement) (o : Option Function) → IsTextAnew tables func name bytes a → AreTables m a.tables → o ≡ slice_get a.functions 0 → IfSome o (λ f. IsReplaced m func bytes (with_function m func f))
  some_found a None h are at = tt
  some_found a (Some f) h are at = within_found a f h are at

  pub some_one : (a : Replacement) (o : Option Function) → IsTextAnew tables func name bytes a → AreTables m a.tables → o ≡ slice_get a.functions 0
      → ((b : Replacement) → IsTextAnew tables func name bytes b → Gives (Ok a) (Ok b)) → (n : Module) → IsReplaced m func bytes n → IfSome o (λ f. n ≡ with_function m func f)
  some_one a None h are at reads n is = tt
  some_one a (Some f) h are at reads n is = within_one a f h are at reads n is

  -- what is read has no fault
  pub within_unread : (a : Replacement) → ((f : ReadFault) → IsFaultAnew tables func name bytes f → Gives (Ok a) (Err f)) → (f : ReadFault) → IsReplaceFault m func bytes f → ⊥
  within_unread a fails f h = err_or_ok a f (fails f (to_fault f h))

  -- ---- what is refused

  pub within_accepted : (f : ReadFault) (e : EditFault) → e ≡ code_fault f → ((b : Replacement) → IsTextAnew tables func name bytes b → Gives (Err f) (Ok b)) → (n : Module) → IsReplaced m func bytes n → e ≢ Memory → ⊥
  within_accepted f e is reads n h differs = ok_or_err h.0 f (reads h.0 (to_tables h.0 h.1) (code_differs f e is differs))

  pub within_refused : (f : ReadFault) (e : EditFault) → e ≡ code_fault f → (f ≢ read.Memory → IsFaultAnew tables func name bytes f) → e ≢ Memory → (g : ReadFault) × IsReplaceFault m func bytes g × (code_fault g ≡ e)
  within_refused f e is fault differs = (f, of_fault f (fault (code_differs f e is differs)), sym is)

  pub within_same : (f : ReadFault) (e : EditFault) → e ≡ code_fault f → ((g : ReadFault) → IsFaultAnew tables func name bytes g → Gives {X = Replacement} (Err f) (Err g))
      → (g : ReadFault) → IsReplaceFault m func bytes g → e ≢ Memory → e ≡ code_fault g
  within_same f e is fails g h differs =
      let one : g ≡ f = same_err {X = Replacement} g f (fails g (to_fault g h) (code_differs f e is differs)) in
      is ∙ ap code_fault (sym one)
