-- The numbers of a module that is read are within its tables.
use Rattle.std.proofs.Common.{◌≡◌, ℕ, Bool, true, false, List, ◌++◌, length, sym, subst, arith, inl, inr, ◌⊎◌}
use Rattle.std.specs.List.{AllByRecursion}
use Rattle.lemmas.specs.All.{all_so}
use Rattle.lemmas.specs.Lists.{IsIn}
use Rattle.ir_ast.specs.declared.function.Function.{Function}
use Rattle.ir_ast.specs.declared.function.Parameter.{Parameter}
use Rattle.ir_ast.specs.declared.items_of_module.Declare.{Declare}
use Rattle.ir_ast.specs.declared.items_of_module.Global.{Global}
use Rattle.ir_ast.specs.declared.module.Module.{Module}
use Rattle.ir_tokens.specs.Bytes.{Text}
use Rattle.ir_forms.specs.Cursor.{spelled}
use Rattle.ir_text.specs.Read.{IsText}
use Rattle.name_text.specs.Readings.{AreBytes}
use Rattle.ir_print_law.specs.ModuleNames.{HasModuleNames}
use Rattle.ir_print_law.specs.Parts.{IsVoid}
use Rattle.ir_print_law.specs.PartsWithin.{AreSlotsBelow, HasType, HasSymbol, HasValue}
use Rattle.ir_print_law.specs.Printable.{IsPassed, IsParameter, IsAnyType, IsStructType, IsGlobal, IsDeclare, IsBlock, IsPrintable}
use Rattle.ir_print_law.specs.Definitions.{IsUsed}
use Rattle.ir_print_law.specs.Within.{IsParameterWithin, IsBlockWithin, IsFunctionWithin, IsStructWithin, IsGlobalWithin, IsDeclareWithin, IsWithin}
use Rattle.ir_print_law.proofs.DefinedWithin.{all_at, both, defined_within}
use Rattle.ir_print_law.proofs.FunctionNames.{function_names}
use Rattle.ir_print_law.proofs.FunctionsRead.{function_parts}
use Rattle.ir_print_law.proofs.ModuleRead.{FunctionKeeps, read_so, read_is_printable, read_has_names}
use Rattle.ir_print_law.proofs.OpsWithin.{blocks_within}
use Rattle.ir_print_law.proofs.PartsWithin.{wide_module, wide, globals_have, declares_have, functions_have, globals_stay, declared_stay, functions_stay, void_within}
use Rattle.ir_print_law.proofs.Shown.{shape_within}
use Rattle.ir_print_law.proofs.Slots.{slots_there}
use Rattle.ir_print_law.proofs.Outside.{Outside}
use Rattle.ir_print_law.proofs.Reading.{Reading}
use Rattle.ir_print_law.proofs.Tables.{begins_itself, begins_further, begins_length, begins_with}
use Rattle.ir_print_law.proofs.Uses.{local_right}

-- ---- a module with more global names

module _ {m : Module} (own : HasModuleNames m) (more : List Text) where
  uses_stay : (is_call : Bool) (name : Text) → IsUsed m is_call name → IsUsed (wide_module m more) is_call name
  uses_stay true name is = subst (λ (l : List Text). IsIn name l) (sym (functions_stay m own more)) is
  uses_stay false name (inl is) = inl (subst (λ (l : List Text). IsIn name l) (sym (globals_stay m own more)) is)
  uses_stay false name (inr h) = inr (h.0, subst (λ (l : List Text). IsIn name l) (sym (declared_stay m own more)) h.1, h.2)

  -- what is known of a state of the module is known of it in the one with more names
  abbrev wide_reading : Reading m → Reading (wide_module m more)
  wide_reading r = record {
    Fore = r.Fore;
    Back = r.Back;
    ordered = r.ordered;
    bytes = r.bytes;
    forms = r.forms;
    has_types = r.has_types;
    has_structs = r.has_structs;
    has_symbols = λ i back. begins_further i.symbols.names m.symbols (m.symbols ++ more) (r.has_symbols i back) (begins_with m.symbols more);
    on_token = r.on_token;
    from_token = r.from_token;
    on_type = r.on_type;
    from_type = r.from_type;
    on_struct = r.on_struct;
    from_struct = r.from_struct;
    struct_is = r.struct_is;
    on_symbol = r.on_symbol;
    from_symbol = r.from_symbol;
    symbol_is = λ i is_call back. uses_stay is_call (spelled i.cursor) (r.symbol_is i is_call back);
    on_lost = r.on_lost;
    from_lost = r.from_lost;
  }

  abbrev wide_outside : Outside m → Outside (wide_module m more)
  wide_outside w = record {
    reading = wide_reading w.reading;
    on_own = w.on_own;
    from_own = w.from_own;
    bytes = w.bytes;
    digits = w.digits;
  }

-- ---- a function

-- the numbers of a function are within the tables, except for its own symbol
abbrev pub IsInner : Module → Function → Type 0
IsInner m f =
    HasType m f.returned × AllByRecursion (IsParameterWithin m f) f.parameters × (length f.sorts ≡ length f.locals) × AreSlotsBelow (length m.types) f.sorts × AllByRecursion (IsBlockWithin m f) f.blocks

returned_has : (m : Module) (t : ℕ) → IsVoid m t ⊎ IsPassed m t → HasType m t
returned_has m t (inl void) = void_within m t void
returned_has m t (inr is) = shape_within m.types m.struct_names is.0 t is.1.0

parameters_have : (m : Module) (f : Function) (xs : List Parameter) → AllByRecursion (IsParameter m) xs → AllByRecursion (λ (x : Parameter). HasValue f x.value) xs
    → AllByRecursion (IsParameterWithin m f) xs
parameters_have m f xs is own =
    all_so (λ (x : Parameter). IsParameter m x × HasValue f x.value) (IsParameterWithin m f) xs (λ x h. (shape_within m.types m.struct_names h.0.0 x.written h.0.1.0, h.1))
    (both (IsParameter m) (λ (x : Parameter). HasValue f x.value) xs is own)

-- so it is where the names of the module mean its items
abbrev pub IsInnerOf : Module → Function → Type 0
IsInnerOf m f = HasModuleNames m → IsInner m f

pub inner_keeps : FunctionKeeps IsInnerOf
inner_keeps m w symbol returned ps c bs i i1 i2 i3 i4 i5 i6 o s1 s2 s3 s4 s5 s6 s7 locals uses values unnamed fore =
    let f : Function = record { symbol = symbol; returned = returned; parameters = ps; collector = c; locals = o.locals.names; sorts = o.locals.sorts; blocks = bs } in
    let x = function_parts w f i i1 i2 i3 i4 i5 i6 o s1 s2 s3 s4 s5 s6 s7 locals uses values unnamed (begins_itself o.locals.names) fore in
    let end = x.0.0 in (
      end.outside,
      λ missing back.
          let y = x.1 missing back in (
            y.0,
            λ is own.
                let names = function_names f o.local_uses o.unnamed (length i2.locals.names) end.numbers end.names end.places (local_right o.locals o.local_uses missing) x.0.1 in
                let within = defined_within f o.local_uses o.unnamed names end.names end.places in
                let blocks : (more : List Text) → AllByRecursion (IsBlock (wide_module m more) (wide f more)) bs =
                λ more.
                ((function_parts (wide_outside own more w) (wide f more) i i1 i2 i3 i4 i5 i6 o s1 s2 s3 s4 s5 s6 s7 locals uses values unnamed (begins_with o.locals.names more) fore).1 missing back).5 in
                let types = begins_length o.types m.types (w.reading.has_types o back) in
                let slots = slots_there m ps c bs i i1 i2 i3 i4 i5 i6 o s1 s2 s3 s4 s5 s6 s7 locals in (
                  returned_has m returned is,
                  parameters_have m f ps y.1 within.parameters,
                  within.sorts,
                  λ value held at. (let less = slots value held at in omega (arith, less, types)),
                  blocks_within m f own within blocks,
                ),
          ),
    )

-- ---- the items of a module

module _ (m : Module) (names : HasModuleNames m) where
  result_has : (t : ℕ) → IsVoid m t ⊎ IsAnyType m t → HasType m t
  result_has t (inl void) = void_within m t void
  result_has t (inr is) = shape_within m.types m.struct_names is.0 t is.1.0

  -- where its functions are within its tables, so is the module
  pub all_within : IsPrintable m → AllByRecursion (IsInnerOf m) m.functions → IsWithin m
  all_within h inner =
      record {
        structs = all_at (IsStructType m) (IsStructWithin m) m.structs
            (λ k x e is. ((names.layouts k x.name (names.structs k x e)).1, shape_within m.types m.struct_names is.0 x.body is.1.0)) h.structs;
        globals = all_so (λ (x : Global). HasSymbol m x.symbol × IsGlobal m x) (IsGlobalWithin m) m.globals
            (λ x is. (is.0, shape_within m.types m.struct_names is.1.0 x.held is.1.1.0))
            (both (λ (x : Global). HasSymbol m x.symbol) (IsGlobal m) m.globals (globals_have m names) h.globals);
        declares = all_so (λ (x : Declare). HasSymbol m x.symbol × IsDeclare m x) (IsDeclareWithin m) m.declares
            (λ x is. (
              is.0,
              result_has x.returned is.1.0,
              all_so (IsAnyType m) (HasType m) x.parameters (λ t any. shape_within m.types m.struct_names any.0 t any.1.0) is.1.1,
            ))
            (both (λ (x : Declare). HasSymbol m x.symbol) (IsDeclare m) m.declares (declares_have m names) h.declares);
        functions = all_so (λ (x : Function). HasSymbol m x.symbol × IsInnerOf m x) (IsFunctionWithin m) m.functions
            (λ x is. let inside = is.1 names in record { symbol = is.0; returned = inside.0; parameters = inside.1; sorts = inside.2; slots = inside.3; blocks = inside.4 })
            (both (λ (x : Function). HasSymbol m x.symbol) (IsInnerOf m) m.functions (functions_have m names) inner);
      }

-- a module that is read
pub read_is_within : (bytes : Text) (m : Module) → AreBytes bytes → IsText bytes m → IsWithin m
read_is_within bytes m own is =
    all_within m (read_has_names bytes m own is) (read_is_printable bytes m own is)
    (read_so IsInnerOf inner_keeps (λ m. AllByRecursion (IsInnerOf m) m.functions) (λ o h. h.4) bytes m own is)
