-- One function that is read in the tables of a module is good in that module with the types that its text adds, and no name is new.
use Rattle.std.proofs.Common.{◌≡◌, ℕ, ◌<◌, ◌≤◌, Bool, true, List, [], ◌∷◌, ◌++◌, length, slice_get, unwrap_or, Option, None, Some, refl, ap, ap₂, sym, subst, ◌∙◌, arith, inl, inr}
use Rattle.std.proofs.lemmas.Option.{slice_get-get_or}
use Rattle.std.proofs.lemmas.Slice.Eq.{bytes_eq-Decides}
use Rattle.lemmas.specs.Lists.{IsIn}
use Rattle.ir_ast.specs.Names.{place_of, numbered}
use Rattle.ir_ast.specs.declared.block.Block.{Block}
use Rattle.ir_ast.specs.declared.function.Function.{Function}
use Rattle.ir_ast.specs.declared.function.Parameter.{Parameter}
use Rattle.ir_ast.specs.declared.ir_type.IrType.{IrType}
use Rattle.ir_ast.specs.declared.items_of_module.SymbolSort.{SymbolSort}
use Rattle.ir_ast.specs.declared.items_of_module.SymbolSort.TheVariants as symbol
use Rattle.ir_ast.specs.declared.module.Module.{Module}
use Rattle.ir_tokens.specs.Bytes.{Text}
use Rattle.ir_tokens.specs.Tokens.{IsLexed}
use Rattle.ir_tokens.specs.declared.lexed.Lexed.{Lexed}
use Rattle.ir_tokens.specs.declared.token.Kind.{Kind}
use Rattle.ir_tokens.specs.declared.token.Kind.TheVariants as k
use Rattle.ir_forms.specs.Cursor.{kind, sees, spelled}
use Rattle.ir_forms.specs.declared.uses.StructUse.{StructUse}
use Rattle.ir_forms.specs.declared.uses.SymbolUse.{SymbolUse}
use Rattle.ir_forms.specs.declared.input.Input.{Input}
use Rattle.ir_forms.specs.Input.{unexpected}
use Rattle.ir_forms.specs.Names.{symbol_number, with_symbol, new_symbol, first_missing}
use Rattle.ir_text.specs.Anew.{start_anew, is_named, named_head, ends, anew, with_sorts, late_anew}
use Rattle.ir_text.specs.ItemsOfText.{function_name_by, function_name, open_body, with_function}
use Rattle.ir_text.specs.Late.{is_struct, may_use, wrong_symbol, wrong_struct}
use Rattle.copies.specs.Tables.{tables_of}
use Rattle.name_text.specs.Readings.{AreBytes}
use Rattle.ir_print.specs.Names.{name_at}
use Rattle.ir_print_law.specs.FunctionNames.{HasNames}
use Rattle.ir_print_law.specs.ModuleNames.{HasModuleNames}
use Rattle.ir_print_law.specs.Printable.{IsFunction}
use Rattle.ir_print_law.proofs.AnewState.{AreItsSymbols, Anew, Arrives, names_same, anew_reading, anew_outside}
use Rattle.ir_print_law.proofs.Forms.{Keeps}
use Rattle.ir_print_law.proofs.FunctionsRead.{function_keeps}
use Rattle.ir_print_law.proofs.ItemTypes.{defined_result_keeps}
use Rattle.ir_print_law.proofs.LongerTypes.{with_types}
use Rattle.ir_print_law.proofs.ModuleRead.{neither, read_function, after_function}
use Rattle.ir_print_law.proofs.ModuleState.{Kept, kept_of, Made, made_of, between, next_bytes, next_spells, symbol_begins}
use Rattle.ir_print_law.proofs.NumberTokens.{lexed_spell}
use Rattle.ir_print_law.proofs.Passes.{skip_passes, check_passes}
use Rattle.ir_print_law.proofs.Tables.{Begins, AreOrdered, begins_itself, place_stays, place_there}
use Rattle.ir_print_law.proofs.Used.{used_known}
use Rattle.ir_print_law.proofs.Uses.{struct_right, symbol_right, nothing_late}
use Rattle.ir_print_law.proofs.WithinRead.{IsInnerOf, inner_keeps}

-- no item is made
abbrev nothing_made : Made
nothing_made = record { structs = []; globals = []; declares = []; functions = [] }

-- At the end of reading each name is one of the module's.
pub record Ended (m : Module) (o : Input) : Type 0 where
  pub symbols : o.symbols.names ≡ m.symbols
  pub struct_names : o.struct_names.names ≡ m.struct_names
  pub struct_of : o.struct_names.sorts ≡ m.struct_of
  pub arrives : Arrives m o.types o

-- What is read: this function, with the old one's name, in a table of types that begins with the module's.
pub record IsRead (m : Module) (old f : Function) (o : Input) : Type 0 where
  pub end : Ended m o
  pub ordered : AreOrdered o.types
  pub begins : Begins m.types o.types
  pub functions : o.functions ≡ f ∷ []
  pub symbol_is : f.symbol ≡ old.symbol
  pub function_is : IsFunction (with_types m o.types m.functions) f
  pub has_names : HasNames f
  pub inner : IsInnerOf (with_types m o.types m.functions) f

module _ (m : Module) (names : HasModuleNames m) where
  -- ---- the end of reading

  symbol_past : (n : ℕ) (sort : SymbolSort) → slice_get m.sorts n ≡ Some sort → length m.symbols ≤ n → ⊥
  symbol_past n sort same past = let less : n < length m.symbols = names.sorts n sort same in omega (arith, less, past)

  struct_past : (o : Input) → Anew m o → (x : Option (Option ℕ)) (n : ℕ) → slice_get o.struct_names.sorts n ≡ x → is_struct x ≡ true → length m.struct_names ≤ n → ⊥
  struct_past o h None n same is past = absurd cc
  struct_past o h (Some None) n same is past = absurd cc
  struct_past o h (Some (Some layout)) n same is past =
      let less : n < length m.struct_names = (names.layouts layout n (h.layouts n layout same)).1 in
      omega (arith, less, past)

  -- where no name has a fault, no name is new
  ended : (o : Input) → Anew m o → late_anew (tables_of m) o ≡ None → Ended m o
  ended o h none = record {
    symbols = symbols_are;
    struct_names = structs_are.0;
    struct_of = structs_are.1;
    arrives = record {
      begins = begins_itself o.types;
      struct_names = subst (λ (l : List Text). Begins o.struct_names.names l) structs_are.0 (begins_itself o.struct_names.names);
      symbols = subst (λ (l : List Text). Begins o.symbols.names l) symbols_are (begins_itself o.symbols.names);
      struct_uses = λ u there. ap (λ (l : List (Option ℕ)). is_struct (slice_get l u.name)) (sym structs_are.1) ∙ struct_uses u there;
      symbol_uses = symbol_uses;
      missing = late.0;
      ordered = h.ordered;
      forms = h.forms;
    };
  } where
    late : (o.missing ≡ None) × (wrong_symbol (with_sorts m.sorts o) ≡ None) × (wrong_struct (with_sorts m.sorts o) ≡ None)
    late = nothing_late (with_sorts m.sorts o) none

    used : (u : SymbolUse) → IsIn u o.symbol_uses → may_use o.wide u.is_call (slice_get m.sorts u.symbol) (name_at o.symbols.names u.symbol) ≡ true
    used u there = symbol_right (with_sorts m.sorts o) late.1 u there

    struct_uses : (u : StructUse) → IsIn u o.struct_uses → is_struct (slice_get o.struct_names.sorts u.name) ≡ true
    struct_uses u there = struct_right (with_sorts m.sorts o) late.2 u there

    symbols_are : o.symbols.names ≡ m.symbols
    symbols_are = elim h.symbols [
      | inl e ↦ e
      | inr p ↦
          let x = used_known o.wide p.0.is_call (slice_get m.sorts p.0.symbol) (name_at o.symbols.names p.0.symbol) (used p.0 p.1) in
          absurd (symbol_past p.0.symbol x.0 x.1 p.2)
    ]

    symbol_uses : (u : SymbolUse) → IsIn u o.symbol_uses → may_use m.wide u.is_call (slice_get m.sorts u.symbol) (name_at m.symbols u.symbol) ≡ true
    symbol_uses u there =
        ap₂ (λ (wide : Bool) (l : List Text). may_use wide u.is_call (slice_get m.sorts u.symbol) (name_at l u.symbol)) (sym h.forms) (sym symbols_are) ∙ used u there

    structs_are : (o.struct_names.names ≡ m.struct_names) × (o.struct_names.sorts ≡ m.struct_of)
    structs_are = elim h.structs [
      | inl e ↦ e
      | inr p ↦ absurd (struct_past o h (slice_get o.struct_names.sorts p.0.name) p.0.name refl (struct_uses p.0 p.1) p.2)
    ]

  -- ---- the function's name

  module _ (func : ℕ) (old : Function) (at : slice_get m.functions func ≡ Some old) where
    -- the name of the function
    abbrev own_name : Text
    own_name = name_at m.symbols old.symbol

    placed : place_of own_name m.symbols ≡ Some old.symbol
    placed =
        let less : old.symbol < length m.symbols = names.sorts old.symbol (symbol.Defined func) (names.functions func old at) in
        let here = slice_get-get_or m.symbols old.symbol [] less in
        (names.symbols old.symbol own_name (here ∙ ap (λ (x : Text). Some x) (sym (ap (λ (o : Option Text). unwrap_or o []) here)))).1

    own_symbols : (i : Input) → spelled i.cursor ≡ own_name → AreItsSymbols m i → AreItsSymbols m (with_symbol (symbol.Defined func) i)
    own_symbols i is (inr h) = inr h
    own_symbols i is (inl h) = inl (names_same (spelled i.cursor) i.symbols.names old.symbol there ∙ h) where
      there : place_of (spelled i.cursor) i.symbols.names ≡ Some old.symbol
      there = ap (λ (x : Text). place_of x i.symbols.names) is ∙ ap (place_of own_name) h ∙ placed

    anew_named : (i : Input) → spelled i.cursor ≡ own_name → Anew m i → Anew m (with_symbol (symbol.Defined func) i)
    anew_named i is h = record {
      bytes = next_bytes i.cursor h.bytes;
      spell = next_spells i.cursor h.spell;
      ordered = h.ordered;
      symbols = own_symbols i is h.symbols;
      structs = h.structs;
      layouts = h.layouts;
      forms = h.forms;
    }

    module _ (types : List IrType) where
      arrives_named : (i : Input) → Arrives m types (with_symbol (symbol.Defined func) i) → Arrives m types i
      arrives_named i b = record {
        begins = b.begins;
        struct_names = b.struct_names;
        symbols = symbol_begins i m.symbols b.symbols;
        struct_uses = b.struct_uses;
        symbol_uses = b.symbol_uses;
        missing = b.missing;
        ordered = b.ordered;
        forms = b.forms;
      }

      its_number : (i : Input) → spelled i.cursor ≡ own_name → Arrives m types (with_symbol (symbol.Defined func) i) → symbol_number i ≡ old.symbol
      its_number i is b =
          let new : place_of (spelled i.cursor) m.symbols ≡ Some (symbol_number i) =
          place_stays (spelled i.cursor) (numbered (spelled i.cursor) i.symbols.names) m.symbols (symbol_number i) b.symbols (place_there (spelled i.cursor) i.symbols.names) in
          let was : place_of (spelled i.cursor) m.symbols ≡ Some old.symbol = ap (λ (x : Text). place_of x m.symbols) is ∙ placed in
          cc

      new_name_keeps : (P : Kept → Type 0) (i : Input) → spelled i.cursor ≡ own_name
          → Keeps (λ i. Anew m i × P (kept_of i)) (λ n o. Anew m o × P (kept_of o)) (Arrives m types) (new_symbol (symbol.Defined func)) (λ n. n ≡ old.symbol) i
      unfolding new_symbol
      new_name_keeps P i is n o h f =
          let rules = h.2 in
          let same : i ≡ h.1 = rules.2.2.1 ∙ rules.2.3.1 ∙ rules.3.1 in
          let number : symbol_number i ≡ n = ap symbol_number same ∙ h.3.0 in
          let end : with_symbol (symbol.Defined func) i ≡ o = ap (with_symbol (symbol.Defined func)) same ∙ h.3.1 in (
            subst (λ (j : Input). Anew m j × P (kept_of j)) end (anew_named i is f.0, f.1),
            λ b. let back = subst (Arrives m types) (sym end) b in (arrives_named i back, sym number ∙ its_number i is back),
          )

      name_by : (P : Kept → Type 0) (x : Kind) (i : Input) → spelled i.cursor ≡ own_name
          → Keeps (λ i. Anew m i × P (kept_of i)) (λ n o. Anew m o × P (kept_of o)) (Arrives m types) (function_name_by (symbol.Defined func) x) (λ n. n ≡ old.symbol) i
      name_by P k.GlobalName i is n o h f = new_name_keeps P i is n o h f
      name_by P _ i is n o h f = absurd h

      name_keeps : (P : Kept → Type 0) (i : Input) → spelled i.cursor ≡ own_name
          → Keeps (λ i. Anew m i × P (kept_of i)) (λ n o. Anew m o × P (kept_of o)) (Arrives m types) (function_name (symbol.Defined func)) (λ n. n ≡ old.symbol) i
      unfolding function_name
      name_keeps P i is n o h f = name_by P (kind i.cursor) i is n o h f

      -- ---- the end of the function

      arrives_function : (symbol returned : ℕ) (ps : List Parameter) (c : Option Text) (bs : List Block) (i : Input) → Arrives m types (after_function symbol returned ps c bs i)
          → (first_missing i.locals i.local_uses ≡ None) × Arrives m types i
      unfolding with_function
      arrives_function symbol returned ps c bs i b =
          let none = neither i.missing (first_missing i.locals i.local_uses) b.missing in (
            none.1,
            record {
              begins = b.begins;
              struct_names = b.struct_names;
              symbols = b.symbols;
              struct_uses = b.struct_uses;
              symbol_uses = b.symbol_uses;
              missing = none.0;
              ordered = b.ordered;
              forms = b.forms;
            },
          )

    anew_function : (symbol returned : ℕ) (ps : List Parameter) (c : Option Text) (bs : List Block) (i : Input) → Anew m i → Anew m (after_function symbol returned ps c bs i)
    unfolding with_function
    anew_function symbol returned ps c bs i h = record {
      bytes = h.bytes;
      spell = h.spell;
      ordered = h.ordered;
      symbols = h.symbols;
      structs = h.structs;
      layouts = h.layouts;
      forms = h.forms;
    }

    only_function : (symbol returned : ℕ) (ps : List Parameter) (c : Option Text) (bs : List Block) (i : Input) → made_of (kept_of i) ≡ nothing_made
        → (after_function symbol returned ps c bs i).functions ≡ read_function symbol returned ps c bs i ∷ []
    unfolding with_function
    only_function symbol returned ps c bs i e = ap (λ (x : Made). x.functions ++ read_function symbol returned ps c bs i ∷ []) e

    pub function_read : (bytes : Text) (lexed : Lexed) (o : Input) → AreOrdered m.types → AreBytes bytes → IsLexed bytes lexed
        → (anew func own_name).says (start_anew (tables_of m) func bytes lexed) tt o → late_anew (tables_of m) o ≡ None → (f : Function) × IsRead m old f o
    unfolding anew named_head ends
    function_read bytes lexed o order own is said none =
        let i = start_anew (tables_of m) func bytes lexed in
        let first : Anew m i = record {
          bytes = own;
          spell = lexed_spell bytes lexed is;
          ordered = order;
          symbols = inl refl;
          structs = inl (refl, refl);
          layouts = λ name layout e. e;
          forms = refl;
        } in
        let types = o.types in
        let front = said.2 in
        let s0 = front.2.2 in
        let s1 = front.2.3 in
        let s2 = s1.3 in
        let s3 = s2.3 in
        let s4 = s3.3 in
        let s5 = s4.3 in
        let s6 = s5.3 in
        let s7 = s6.3 in
        let u1 = front.3 in
        let u2 = u1.3 in
        let u3 = u2.3 in
        let opened = subst (λ (j : Input). open_body.says j u1.0 u1.1) (sym s7.3.1) u1.2 in
        let last : said.1 ≡ o = said.3.2.1 ∙ said.3.3.1 in
        let end : after_function s3.0 s1.0 s5.0 s7.0 u2.0 u3.1 ≡ o = ap (λ x. with_function x u2.0 u3.1) s7.3.0 ∙ u3.3.1 ∙ last in
        let f = read_function s3.0 s1.0 s5.0 s7.0 u2.0 u3.1 in
        let r = anew_reading m types names (λ (x : Kept). x ≡ between nothing_made) in
        let b0 = check_passes r (λ j. sees k.Define j.cursor) unexpected i s0.0 s0.1 s0.2 (first, refl) in
        let b1 = skip_passes r s0.1 front.2.0 front.2.1 s0.3 b0.0 in
        let b2 = defined_result_keeps r front.2.1 s1.0 s1.1 s1.2 b1.0 in
        let b3 = check_passes r (is_named own_name) unexpected s1.1 s2.0 s2.1 s2.2 b2.0 in
        let spells : spelled s2.1.cursor ≡ own_name =
        ap (λ (j : Input). spelled j.cursor) (sym s2.2.1) ∙ (bytes_eq-Decides (spelled s1.1.cursor) own_name).0 s2.2.0 in
        let b4 = name_keeps types (λ (x : Kept). x ≡ between nothing_made) s2.1 spells s3.0 s3.1 s3.2 b3.0 in
        let quiet = b4.0.1 in
        let b5 = function_keeps (anew_outside m types names nothing_made) s3.0 s1.0 s5.0 s7.0 u2.0 s3.1 s4.1 s5.1 s6.1 s7.1 u1.1 u2.1 u3.1 s4.2 s5.2 s6.2 s7.2 opened u2.2 u3.2
        (ap (λ (x : Kept). x.locals) quiet) (ap (λ (x : Kept). x.local_uses) quiet) (ap (λ (x : Kept). x.values) quiet) (ap (λ (x : Kept). x.unnamed) quiet)
        (b4.0.0, ap made_of quiet) in
        let inner = inner_keeps (with_types m types m.functions) (anew_outside m types names nothing_made) s3.0 s1.0 s5.0 s7.0 u2.0 s3.1 s4.1 s5.1 s6.1 s7.1 u1.1 u2.1 u3.1 s4.2 s5.2 s6.2 s7.2 opened u2.2 u3.2
        (ap (λ (x : Kept). x.locals) quiet) (ap (λ (x : Kept). x.local_uses) quiet) (ap (λ (x : Kept). x.values) quiet) (ap (λ (x : Kept). x.unnamed) quiet)
        (b4.0.0, ap made_of quiet) in
        let there : Anew m o = subst (Anew m) end (anew_function s3.0 s1.0 s5.0 s7.0 u2.0 u3.1 b5.0.0) in
        let over = ended o there none in
        let c6 = arrives_function types s3.0 s1.0 s5.0 s7.0 u2.0 u3.1 (subst (Arrives m types) (sym end) over.arrives) in
        let c5 = b5.1 c6.0 c6.1 in
        let c4 = b4.1 c5.0 in
        let c3 = b3.1 c4.0 in
        let c2 = b2.1 c3.0 in
        let c1 = b1.1 c2.0 in
        let c0 = b0.1 c1.0 in
        let good = c5.1 c2.1 in (
          f,
          record {
            end = over;
            ordered = there.ordered;
            begins = c0.0.begins;
            functions = ap (λ (j : Input). j.functions) (sym end) ∙ only_function s3.0 s1.0 s5.0 s7.0 u2.0 u3.1 b5.0.1;
            symbol_is = c4.1;
            function_is = good.0;
            has_names = good.1;
            inner = (inner.1 c6.0 c6.1).1 c2.1;
          },
        )
