-- What is known of a state while one function is read in the tables of its module, and of where that reading ends.
use Rattle.std.proofs.Common.{◌≡◌, ℕ, ◌≤◌, Bool, true, false, List, [], ◌∷◌, ◌++◌, length, map, slice_get, if◌then◌else◌, is_some, unwrap_or, Option, None, Some, zero, suc, refl, ap, sym, subst, ◌∙◌, arith, inl, inr, ◌⊎◌}
use Rattle.std.specs.Prelude.{is_none}
use Rattle.lemmas.specs.Lists.{in_first, in_second, last_in, IsIn, get_either}
use Rattle.ir_ast.specs.Names.{place_of, number_of, numbered}
use Rattle.ir_ast.specs.RuntimeNames.{runtime_of}
use Rattle.ir_ast.specs.Types.{numbered_type}
use Rattle.ir_ast.specs.declared.function.Function.{Function}
use Rattle.ir_ast.specs.declared.ir_type.IrType.{IrType}
use Rattle.ir_ast.specs.declared.items_of_module.Declare.{Declare}
use Rattle.ir_ast.specs.declared.items_of_module.Global.{Global}
use Rattle.ir_ast.specs.declared.items_of_module.StructType.{StructType}
use Rattle.ir_ast.specs.declared.items_of_module.SymbolSort.{SymbolSort}
use Rattle.ir_ast.specs.declared.items_of_module.SymbolSort.TheVariants as symbol
use Rattle.ir_ast.specs.declared.module.Module.{Module}
use Rattle.ir_tokens.specs.Bytes.{Text}
use Rattle.ir_forms.specs.declared.fault.Fault.{Fault}
use Rattle.ir_forms.specs.Cursor.{spelled, start, size}
use Rattle.ir_forms.specs.Table.{sorts_with}
use Rattle.ir_forms.specs.declared.uses.StructUse.{StructUse}
use Rattle.ir_forms.specs.declared.uses.SymbolUse.{SymbolUse}
use Rattle.ir_forms.specs.declared.input.Input.{Input}
use Rattle.ir_forms.specs.Input.{advanced}
use Rattle.ir_forms.specs.Names.{struct_number, with_struct_use, symbol_number, with_symbol_use, is_declared}
use Rattle.ir_forms.specs.Written.{with_type_interned}
use Rattle.ir_text.specs.Late.{is_struct, is_right, may_use}
use Rattle.name_text.specs.Readings.{AreBytes}
use Rattle.ir_print.specs.Names.{name_at}
use Rattle.ir_print_law.specs.Definitions.{defined_structs, declared_functions, defined_functions, IsUsed}
use Rattle.ir_print_law.specs.ModuleNames.{HasModuleNames}
use Rattle.ir_print_law.proofs.LongerTypes.{with_types}
use Rattle.ir_print_law.proofs.ModuleState.{Kept, kept_of, Made, made_of, next_bytes, next_spells, number_spells, struct_name_begins, symbol_begins}
use Rattle.ir_print_law.proofs.NameBytes.{spelled_bytes}
use Rattle.ir_print_law.proofs.NumberTokens.{AllSpell}
use Rattle.ir_print_law.proofs.Outside.{Outside}
use Rattle.ir_print_law.proofs.Reading.{with_lost, Reading}
use Rattle.ir_print_law.proofs.OneKind.{IsNext, type_ordered}
use Rattle.ir_print_law.proofs.Used.{used_so}
use Rattle.ir_print_law.proofs.Tables.{Begins, AreOrdered, begins_further, type_begins, name_there, stays}

-- the names of globals and functions are those of the module, or one is used that the module does not have
abbrev pub AreItsSymbols : Module → Input → Type 0
AreItsSymbols m i = (i.symbols.names ≡ m.symbols) ⊎ ((u : SymbolUse) × IsIn u i.symbol_uses × (length m.symbols ≤ u.symbol))

-- the same of the names of structs
abbrev pub AreItsStructs : Module → Input → Type 0
AreItsStructs m i =
    ((i.struct_names.names ≡ m.struct_names) × (i.struct_names.sorts ≡ m.struct_of))
    ⊎ ((u : StructUse) × IsIn u i.struct_uses × (length m.struct_names ≤ u.name))

-- each name that means a struct means it in the module
abbrev pub AreItsLayouts : Module → List (Option ℕ) → Type 0
AreItsLayouts m sorts = (name layout : ℕ) → slice_get sorts name ≡ Some (Some layout) → slice_get m.struct_of name ≡ Some (Some layout)

-- What is known of the names and types that were read, and of the text that is left.
pub record Anew (m : Module) (i : Input) : Type 0 where
  pub bytes : AreBytes i.cursor.text
  pub spell : AllSpell i.cursor.text i.cursor.rest
  pub ordered : AreOrdered i.types
  pub symbols : AreItsSymbols m i
  pub structs : AreItsStructs m i
  pub layouts : AreItsLayouts m i.struct_names.sorts
  pub forms : i.wide ≡ m.wide

-- Reading goes on to an end with these types, where each name that is used is one of the module's and means something that may be used so.
pub record Arrives (m : Module) (types : List IrType) (i : Input) : Type 0 where
  pub begins : Begins i.types types
  pub struct_names : Begins i.struct_names.names m.struct_names
  pub symbols : Begins i.symbols.names m.symbols
  pub struct_uses : (u : StructUse) → IsIn u i.struct_uses → is_struct (slice_get m.struct_of u.name) ≡ true
  pub symbol_uses : (u : SymbolUse) → IsIn u i.symbol_uses → may_use m.wide u.is_call (slice_get m.sorts u.symbol) (name_at m.symbols u.symbol) ≡ true
  pub missing : i.missing ≡ None
  pub ordered : AreOrdered types
  pub forms : i.wide ≡ m.wide

-- ---- mentions of names

-- a name that is there changes nothing
pub names_same : (name : Text) (names : List Text) (n : ℕ) → place_of name names ≡ Some n → numbered name names ≡ names
names_same name names n e = ap (λ (o : Option ℕ). if is_some o then names else names ++ name ∷ []) e

-- a new name has the next number
number_next : (name : Text) (names : List Text) → place_of name names ≡ None → number_of name names ≡ length names
number_next name names e = ap (λ (o : Option ℕ). unwrap_or o (length names)) e

-- the use of the struct name that is here
abbrev struct_use : Input → StructUse
struct_use i = record { name = struct_number i; start = start i.cursor }

-- the use of the global name that is here
abbrev symbol_use : (is_call : Bool) → Input → SymbolUse
symbol_use is_call i = record { symbol = symbol_number i; is_call = is_call; start = start i.cursor; length = size i.cursor }

module _ (m : Module) where
  structs_used : (i : Input) (place : Option ℕ) → place_of (spelled i.cursor) i.struct_names.names ≡ place → AreItsStructs m i → AreItsStructs m (with_struct_use i)
  structs_used i place e (inr h) = inr (h.0, in_first h.0 i.struct_uses (struct_use i ∷ []) h.1, h.2)
  structs_used i (Some n) e (inl h) = inl (
    names_same (spelled i.cursor) i.struct_names.names n e ∙ h.0,
    ap (λ (o : Option ℕ). sorts_with o None i.struct_names.sorts) e ∙ h.1,
  )
  structs_used i None e (inl h) =
      let next = number_next (spelled i.cursor) i.struct_names.names e in
      let same = ap (λ (l : List Text). length l) h.0 in
      inr (struct_use i, last_in (struct_use i) i.struct_uses, subst (λ (k : ℕ). length m.struct_names ≤ k) (sym (next ∙ same)) (omega arith))

  layouts_used : (sorts : List (Option ℕ)) (place : Option ℕ) → AreItsLayouts m sorts → AreItsLayouts m (sorts_with place None sorts)
  layouts_used sorts (Some n) h = h
  layouts_used sorts None h = λ name layout e. elim (get_either sorts None name (Some layout) e) [
    | inl p ↦ h name layout p
    | inr p ↦ let none = p.1 in absurd cc
  ]

  symbols_used : (i : Input) (is_call : Bool) (place : Option ℕ) → place_of (spelled i.cursor) i.symbols.names ≡ place → AreItsSymbols m i → AreItsSymbols m (with_symbol_use is_call i)
  symbols_used i is_call place e (inr h) = inr (h.0, in_first h.0 i.symbol_uses (symbol_use is_call i ∷ []) h.1, h.2)
  symbols_used i is_call (Some n) e (inl h) = inl (names_same (spelled i.cursor) i.symbols.names n e ∙ h)
  symbols_used i is_call None e (inl h) =
      let next = number_next (spelled i.cursor) i.symbols.names e in
      let same = ap (λ (l : List Text). length l) h in
      inr (symbol_use is_call i, last_in (symbol_use is_call i) i.symbol_uses, subst (λ (k : ℕ). length m.symbols ≤ k) (sym (next ∙ same)) (omega arith))

  -- ---- before and after a token, a type and a name

  pub anew_next : (i : Input) → Anew m i → Anew m (advanced i)
  anew_next i h = record {
    bytes = next_bytes i.cursor h.bytes;
    spell = next_spells i.cursor h.spell;
    ordered = h.ordered;
    symbols = h.symbols;
    structs = h.structs;
    layouts = h.layouts;
    forms = h.forms;
  }

  pub anew_type : (i : Input) (t : IrType) → IsNext i.types t → Anew m i → Anew m (with_type_interned t i)
  anew_type i t last h = record {
    bytes = h.bytes;
    spell = h.spell;
    ordered = type_ordered t i.types last h.ordered;
    symbols = h.symbols;
    structs = h.structs;
    layouts = h.layouts;
    forms = h.forms;
  }

  pub anew_struct : (i : Input) → Anew m i → Anew m (with_struct_use i)
  anew_struct i h = record {
    bytes = next_bytes i.cursor h.bytes;
    spell = next_spells i.cursor h.spell;
    ordered = h.ordered;
    symbols = h.symbols;
    structs = structs_used i (place_of (spelled i.cursor) i.struct_names.names) refl h.structs;
    layouts = layouts_used i.struct_names.sorts (place_of (spelled i.cursor) i.struct_names.names) h.layouts;
    forms = h.forms;
  }

  pub anew_symbol : (i : Input) (is_call : Bool) → Anew m i → Anew m (with_symbol_use is_call i)
  anew_symbol i is_call h = record {
    bytes = next_bytes i.cursor h.bytes;
    spell = next_spells i.cursor h.spell;
    ordered = h.ordered;
    symbols = symbols_used i is_call (place_of (spelled i.cursor) i.symbols.names) refl h.symbols;
    structs = h.structs;
    layouts = h.layouts;
    forms = h.forms;
  }

  pub anew_lost : (i : Input) (lost : Option Fault) → Anew m i → Anew m (with_lost lost i)
  anew_lost i lost h = record {
    bytes = h.bytes;
    spell = h.spell;
    ordered = h.ordered;
    symbols = h.symbols;
    structs = h.structs;
    layouts = h.layouts;
    forms = h.forms;
  }

  module _ (types : List IrType) where
    pub arrives_token : (i : Input) → Arrives m types (advanced i) → Arrives m types i
    arrives_token i b = record {
      begins = b.begins;
      struct_names = b.struct_names;
      symbols = b.symbols;
      struct_uses = b.struct_uses;
      symbol_uses = b.symbol_uses;
      missing = b.missing;
      ordered = b.ordered;
      forms = b.forms;
    }

    pub arrives_type : (i : Input) (t : IrType) → Arrives m types (with_type_interned t i) → Arrives m types i
    arrives_type i t b = record {
      begins = begins_further i.types (numbered_type t i.types) types (type_begins t i.types) b.begins;
      struct_names = b.struct_names;
      symbols = b.symbols;
      struct_uses = b.struct_uses;
      symbol_uses = b.symbol_uses;
      missing = b.missing;
      ordered = b.ordered;
      forms = b.forms;
    }

    pub arrives_struct : (i : Input) → Arrives m types (with_struct_use i) → Arrives m types i
    arrives_struct i b = record {
      begins = b.begins;
      struct_names = struct_name_begins i m.struct_names b.struct_names;
      symbols = b.symbols;
      struct_uses = λ u there. b.struct_uses u (in_first u i.struct_uses (struct_use i ∷ []) there);
      symbol_uses = b.symbol_uses;
      missing = b.missing;
      ordered = b.ordered;
      forms = b.forms;
    }

    pub arrives_symbol : (i : Input) (is_call : Bool) → Arrives m types (with_symbol_use is_call i) → Arrives m types i
    arrives_symbol i is_call b = record {
      begins = b.begins;
      struct_names = b.struct_names;
      symbols = symbol_begins i m.symbols b.symbols;
      struct_uses = b.struct_uses;
      symbol_uses = λ u there. b.symbol_uses u (in_first u i.symbol_uses (symbol_use is_call i ∷ []) there);
      missing = b.missing;
      ordered = b.ordered;
      forms = b.forms;
    }

    pub arrives_lost : (i : Input) (lost : Option Fault) → Arrives m types (with_lost lost i) → Arrives m types i
    arrives_lost i lost b = record {
      begins = b.begins;
      struct_names = b.struct_names;
      symbols = b.symbols;
      struct_uses = b.struct_uses;
      symbol_uses = b.symbol_uses;
      missing = b.missing;
      ordered = b.ordered;
      forms = b.forms;
    }

    -- ---- what a name is that is used

    named : {A : Type 0} (name_of : A → Text) (xs : List A) (place : ℕ) (x : A) (name : Text) → slice_get xs place ≡ Some x → name_of x ≡ name → IsIn name (map name_of xs)
    named name_of [] place x name at e = absurd cc
    named name_of (y ∷ xs) zero x name at e = let same : y ≡ x = cc in inl (sym (ap name_of same ∙ e))
    named name_of (y ∷ xs) (suc place) x name at e = inr (named name_of xs place x name at e)

    module _ (names : HasModuleNames m) where
      pub struct_is : (i : Input) → Arrives m types (with_struct_use i) → IsIn (spelled i.cursor) (defined_structs m)
      struct_is i b = by (slice_get m.struct_of (struct_number i)) refl (b.struct_uses (struct_use i) (last_in (struct_use i) i.struct_uses)) where
        at : slice_get m.struct_names (struct_number i) ≡ Some (spelled i.cursor)
        at =
            let name = spelled i.cursor in
            stays (numbered name i.struct_names.names) m.struct_names (struct_number i) name b.struct_names (name_there name i.struct_names.names)

        by : (x : Option (Option ℕ)) → slice_get m.struct_of (struct_number i) ≡ x → is_struct x ≡ true → IsIn (spelled i.cursor) (defined_structs m)
        by None same is = absurd cc
        by (Some None) same is = absurd cc
        by (Some (Some layout)) same is =
            let x = (names.layouts layout (struct_number i) same).0 in
            named (λ (s : StructType). name_at m.struct_names s.name) m.structs layout x.0 (spelled i.cursor) x.1
            (ap (name_at m.struct_names) x.2 ∙ ap (λ (o : Option Text). unwrap_or o []) at)

      pub symbol_is : (i : Input) (is_call : Bool) → Arrives m types (with_symbol_use is_call i) → IsUsed m is_call (spelled i.cursor)
      symbol_is i is_call b = elim (used_so m.wide is_call sort (name_at m.symbols (symbol_number i)) (b.symbol_uses (symbol_use is_call i) (last_in (symbol_use is_call i) i.symbol_uses))) [
        | inl is ↦ by is_call sort refl is
        | inr h ↦ subst (λ (c : Bool). IsUsed m c name) (sym h.0)
            (inr (h.1.0, declared sort refl h.1.1, ap (λ (t : Text). is_none (runtime_of t)) (sym (its (symbol_number i) refl)) ∙ h.1.2))
      ] where
        name : Text
        name = spelled i.cursor

        sort : Option SymbolSort
        sort = slice_get m.sorts (symbol_number i)

        at : slice_get m.symbols (symbol_number i) ≡ Some name
        at = stays (numbered name i.symbols.names) m.symbols (symbol_number i) name b.symbols (name_there name i.symbols.names)

        its : (n : ℕ) → n ≡ symbol_number i → name_at m.symbols n ≡ name
        its n e = ap (name_at m.symbols) e ∙ ap (λ (o : Option Text). unwrap_or o []) at

        declared : (x : Option SymbolSort) → slice_get m.sorts (symbol_number i) ≡ x → is_declared x ≡ true → IsIn name (declared_functions m)
        declared None same is = absurd cc
        declared (Some symbol.Unknown) same is = absurd cc
        declared (Some (symbol.Global g)) same is = absurd cc
        declared (Some (symbol.Declared d)) same is =
            let x = names.named_declares (symbol_number i) d same in
            named (λ (d : Declare). name_at m.symbols d.symbol) m.declares d x.0 name x.1 (its x.0.symbol x.2)
        declared (Some (symbol.Defined f)) same is = absurd cc

        by : (is_call : Bool) (x : Option SymbolSort) → slice_get m.sorts (symbol_number i) ≡ x → is_right is_call x ≡ true → IsUsed m is_call name
        by is_call None same is = absurd cc
        by is_call (Some symbol.Unknown) same is = absurd cc
        by true (Some (symbol.Global g)) same is = absurd cc
        by false (Some (symbol.Global g)) same is =
            let x = names.named_globals (symbol_number i) g same in
            inl (named (λ (g : Global). name_at m.symbols g.symbol) m.globals g x.0 name x.1 (its x.0.symbol x.2))
        by false (Some (symbol.Declared d)) same is = absurd cc
        by true (Some (symbol.Declared d)) same is = in_first name (declared_functions m) (defined_functions m) (declared (Some (symbol.Declared d)) same refl)
        by false (Some (symbol.Defined f)) same is = absurd cc
        by true (Some (symbol.Defined f)) same is =
            let x = names.named_functions (symbol_number i) f same in
            in_second name (declared_functions m) (defined_functions m) (named (λ (f : Function). name_at m.symbols f.symbol) m.functions f x.0 name x.1 (its x.0.symbol x.2))

      -- The reading of the function, where `P` holds of what no form changes that reads a type or an operand.
      abbrev pub anew_reading : (P : Kept → Type 0) → Reading (with_types m types m.functions)
      anew_reading P = record {
        Fore = λ i. Anew m i × P (kept_of i);
        Back = Arrives m types;
        ordered = λ i back. back.ordered;
        bytes = λ i f back. spelled_bytes i.cursor f.0.bytes;
        forms = λ i b. b.forms;
        has_types = λ i b. b.begins;
        has_structs = λ i b. b.struct_names;
        has_symbols = λ i b. b.symbols;
        on_token = λ i f. (anew_next i f.0, f.1);
        from_token = arrives_token;
        on_type = λ i t last f. (anew_type i t last f.0, f.1);
        from_type = arrives_type;
        on_struct = λ i f. (anew_struct i f.0, f.1);
        from_struct = arrives_struct;
        struct_is = struct_is;
        on_symbol = λ i is_call f. (anew_symbol i is_call f.0, f.1);
        from_symbol = arrives_symbol;
        symbol_is = symbol_is;
        on_lost = λ i lost f. (anew_lost i lost f.0, f.1);
        from_lost = arrives_lost;
      }

      -- What is known outside of the function's names, where these items are made.
      abbrev pub anew_outside : (made : Made) → Outside (with_types m types m.functions)
      anew_outside made = record {
        reading = anew_reading (λ k. made_of k ≡ made);
        on_own = λ i t uses values unnamed f. (
          record { bytes = f.0.bytes; spell = f.0.spell; ordered = f.0.ordered; symbols = f.0.symbols; structs = f.0.structs; layouts = f.0.layouts; forms = f.0.forms },
          f.1,
        );
        from_own = λ i t uses values unnamed b. record {
          begins = b.begins;
          struct_names = b.struct_names;
          symbols = b.symbols;
          struct_uses = b.struct_uses;
          symbol_uses = b.symbol_uses;
          missing = b.missing;
          ordered = b.ordered;
          forms = b.forms;
        };
        bytes = λ i f. spelled_bytes i.cursor f.0.bytes;
        digits = λ i f is. number_spells i.cursor f.0.spell is;
      }
