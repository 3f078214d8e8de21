-- Names that are defined by items of a module, and items that are added to it.
use Rattle.std.proofs.Common.{◌≡◌, ℕ, suc, ◌+◌, ◌<◌, ◌≤◌, true, false, not, List, [], ◌∷◌, ◌++◌, length, map, slice_get, unwrap_or, Option, None, Some, refl, sym, ap, subst, ◌∙◌, arith, length-append}
use Rattle.std.specs.Prelude.{nat_lt}
use Rattle.std.proofs.lemmas.Bool.Decides.{nat_tests}
use Rattle.std.proofs.lemmas.List.{append-nil}
use Rattle.std.proofs.lemmas.Option.{slice_get_within}
use Rattle.lemmas.specs.Bools.{not_true}
use Rattle.lemmas.specs.Lists.{get_end, get_some}
use Rattle.ir_ast.specs.RuntimeNames.{runtime_of}
use Rattle.ir_ast.specs.declared.block.Block.{Block}
use Rattle.ir_ast.specs.declared.function.Function.{Function}
use Rattle.ir_ast.specs.declared.function.Parameter.{Parameter}
use Rattle.ir_ast.specs.declared.items_of_module.Declare.{Declare}
use Rattle.ir_ast.specs.declared.items_of_module.Global.{Global}
use Rattle.ir_ast.specs.declared.items_of_module.StructType.{StructType}
use Rattle.ir_ast.specs.declared.items_of_module.SymbolSort.{SymbolSort}
use Rattle.ir_ast.specs.declared.items_of_module.SymbolSort.TheVariants as symbol
use Rattle.ir_tokens.specs.Bytes.{Text}
use Rattle.ir_forms.specs.Cursor.{spelled}
use Rattle.ir_forms.specs.Intrinsics.{is_left_out}
use Rattle.ir_forms.specs.Table.{mentioned, defined}
use Rattle.ir_forms.specs.declared.table.Table.{Table}
use Rattle.ir_forms.specs.declared.input.Input.{Input}
use Rattle.ir_forms.specs.Names.{struct_number, symbol_number, is_known_struct, is_known_symbol, with_struct, with_symbol, new_struct, new_symbol}
use Rattle.ir_text.specs.DataItems.{with_outside}
use Rattle.ir_text.specs.ItemsOfText.{with_struct_type, with_global, with_declare, function_of, with_function}
use Rattle.name_text.specs.Readings.{AreBytes}
use Rattle.ir_print.specs.Names.{name_at}
use Rattle.ir_print_law.specs.Printable.{IsSymbol}
use Rattle.ir_print_law.proofs.Forms.{Keeps, Any}
use Rattle.ir_print_law.proofs.ModuleState.{Pending, no_one, struct_names_of, symbols_of, Stands, Kept, kept_of, Leads, next_bytes, next_place, next_spells, struct_name_begins, symbol_begins}
use Rattle.ir_print_law.proofs.ModuleTables.{AreStructs, AreSymbols, Owned, OwnsStruct, OwnsSymbol, table_mentions, struct_defines, global_defines, declared_defines, data_defines, defined_defines, more_globals, more_declares, more_functions}
use Rattle.ir_print_law.proofs.NameBytes.{spelled_bytes}
use Rattle.ir_print_law.proofs.Tables.{name_there, stays}

-- ---- lists of numbers

nil_first : (xs : List ℕ) (n : ℕ) → (xs ++ []) ++ n ∷ [] ≡ xs ++ n ∷ []
nil_first xs n = ap (λ (l : List ℕ). l ++ n ∷ []) (append-nil xs)

plain_length : {A : Type 0} (number : A → ℕ) (xs : List A) → length (map number xs ++ []) ≡ length xs
plain_length number [] = refl
plain_length number (x ∷ xs) = ap suc (plain_length number xs)

added : {A : Type 0} (number : A → ℕ) (xs : List A) (x : A) → map number xs ++ number x ∷ [] ≡ map number (xs ++ x ∷ []) ++ []
added number [] x = refl
added number (y ∷ xs) x = ap (λ (l : List ℕ). number y ∷ l) (added number xs x)

added_length : {A : Type 0} (xs : List A) (x : A) (most : ℕ) → length xs + 1 ≤ most → length (xs ++ x ∷ []) + 0 ≤ most
added_length xs x most le = let e = length-append xs (x ∷ []) in omega (arith, le, e)

fits_one : (n most : ℕ) → nat_lt n most ≡ true → n + 1 ≤ most
fits_one n most less = let l : n < most = grind (arith, nat_tests) in omega (arith, l)

-- ---- struct names

-- the name of this struct is defined, and the struct is not there yet
abbrev pub struct_pending : ℕ → Pending
struct_pending n = record { structs = n ∷ []; globals = []; declares = []; functions = [] }

stands_struct_name : (i : Input) → is_known_struct i ≡ false → Stands no_one i → Stands (struct_pending (struct_number i)) (with_struct i)
stands_struct_name i none h = record {
  bytes = next_bytes i.cursor h.bytes;
  spell = next_spells i.cursor h.spell;
  place = next_place i.cursor ∙ h.place;
  ordered = h.ordered;
  once = h.once;
  structs = subst (λ (l : List ℕ). AreStructs l (defined n (Some (length i.structs)) t)) (nil_first (map (λ (s : StructType). s.name) i.structs) n)
      (subst (λ (k : ℕ). AreStructs (own ++ n ∷ []) (defined n (Some k) t)) (plain_length (λ (s : StructType). s.name) i.structs) made);
  symbols = h.symbols;
  few_globals = h.few_globals;
  few_declares = h.few_declares;
  few_functions = h.few_functions;
} where
  n : ℕ
  n = struct_number i

  own : List ℕ
  own = struct_names_of no_one i

  t : Table (Option ℕ)
  t = mentioned (spelled i.cursor) None i.struct_names

  made : AreStructs (own ++ n ∷ []) (defined n (Some (length own)) t)
  made = struct_defines own t n (spelled i.cursor) (name_there (spelled i.cursor) i.struct_names.names) none (spelled_bytes i.cursor h.bytes)
      (table_mentions None (OwnsStruct own) AreBytes i.struct_names (spelled i.cursor) (spelled_bytes i.cursor h.bytes) h.structs)

leads_struct_name : (e i : Input) → Leads e (with_struct i) → Leads e i
leads_struct_name e i b = record {
  end = b.end;
  types = b.types;
  struct_names = struct_name_begins i e.struct_names.names b.struct_names;
  symbols = b.symbols;
  struct_uses = b.struct_uses;
  symbol_uses = b.symbol_uses;
  missing = b.missing;
  forms = b.forms;
}

-- a name of a struct that is defined here
pub new_struct_keeps : (e : Input) (P : Kept → Type 0) (i : Input)
    → Keeps (λ i. Stands no_one i × P (kept_of i)) (λ n o. Stands (struct_pending n) o × P (kept_of o)) (Leads e) new_struct Any i
unfolding new_struct
new_struct_keeps e P i n o h f =
    let rules = h.2 in
    let before = rules.2.2.1 ∙ rules.2.3.1 in
    let same : i ≡ h.1 = before ∙ rules.3.1 in
    let new : is_known_struct i ≡ false = not_true (is_known_struct i) (ap (λ (j : Input). not (is_known_struct j)) before ∙ rules.3.0) in
    let number : struct_number i ≡ n = ap struct_number same ∙ h.3.0 in
    let end : with_struct i ≡ o = ap with_struct same ∙ h.3.1 in (
      subst (λ (k : ℕ). Stands (struct_pending k) o × P (kept_of o)) number
          (subst (λ (j : Input). Stands (struct_pending (struct_number i)) j × P (kept_of j)) end (stands_struct_name i new f.0, f.1)),
      λ b. (leads_struct_name e i (subst (Leads e) (sym end) b), tt),
    )

-- the struct is there
pub struct_added : (s : StructType) (i : Input) → Stands (struct_pending s.name) i → Stands no_one (with_struct_type s i)
struct_added s i h = record {
  bytes = h.bytes;
  spell = h.spell;
  place = h.place;
  ordered = h.ordered;
  once = h.once;
  structs = subst (λ (l : List ℕ). AreStructs l i.struct_names) (added (λ (x : StructType). x.name) i.structs s) h.structs;
  symbols = h.symbols;
  few_globals = h.few_globals;
  few_declares = h.few_declares;
  few_functions = h.few_functions;
}

-- ---- names of globals and functions

-- the name of this global is defined, and the global is not there yet
abbrev pub global_pending : ℕ → Pending
global_pending n = record { structs = []; globals = n ∷ []; declares = []; functions = [] }

-- the same of a declared function
abbrev pub declare_pending : ℕ → Pending
declare_pending n = record { structs = []; globals = []; declares = n ∷ []; functions = [] }

-- the same of a defined function
abbrev pub function_pending : ℕ → Pending
function_pending n = record { structs = []; globals = []; declares = []; functions = n ∷ [] }

-- the table after a mention of the name that is here
abbrev seen_symbols : Input → Table SymbolSort
seen_symbols i = mentioned (spelled i.cursor) symbol.Unknown i.symbols

-- a name of a symbol may be defined here
abbrev IsNewName : Input → Type 0
IsNewName i = (is_known_symbol i ≡ false) × (is_left_out i.wide (spelled i.cursor) ≡ false)

is_seen : (i : Input) → Stands no_one i → AreSymbols i.wide (symbols_of no_one i) (seen_symbols i)
is_seen i h = table_mentions symbol.Unknown (OwnsSymbol (symbols_of no_one i)) (IsSymbol i.wide) i.symbols (spelled i.cursor) (spelled_bytes i.cursor h.bytes) h.symbols

is_named : (i : Input) → IsNewName i → Stands no_one i → IsSymbol i.wide (spelled i.cursor)
is_named i new h = (spelled_bytes i.cursor h.bytes, new.1)

there : (i : Input) → slice_get (seen_symbols i).names (symbol_number i) ≡ Some (spelled i.cursor)
there i = name_there (spelled i.cursor) i.symbols.names

stands_global_name : (i : Input) → nat_lt (length i.globals) 4096 ≡ true → IsNewName i → Stands no_one i
    → Stands (global_pending (symbol_number i)) (with_symbol (symbol.Global (length i.globals)) i)
stands_global_name i few new h = record {
  bytes = next_bytes i.cursor h.bytes;
  spell = next_spells i.cursor h.spell;
  place = next_place i.cursor ∙ h.place;
  ordered = h.ordered;
  once = h.once;
  structs = h.structs;
  symbols = subst (λ (l : List ℕ). AreSymbols i.wide (record own { globals = l }) (defined n (symbol.Global (length i.globals)) t))
      (nil_first (map (λ (g : Global). g.symbol) i.globals) n)
      (subst (λ (k : ℕ). AreSymbols i.wide (more_globals own n) (defined n (symbol.Global k) t)) (plain_length (λ (g : Global). g.symbol) i.globals)
      (global_defines i.wide own t n (spelled i.cursor) (there i) new.0 (is_named i new h) (is_seen i h)));
  few_globals = fits_one (length i.globals) 4096 few;
  few_declares = h.few_declares;
  few_functions = h.few_functions;
} where
  n : ℕ
  n = symbol_number i

  own : Owned
  own = symbols_of no_one i

  t : Table SymbolSort
  t = seen_symbols i

stands_declare_name : (i : Input) → nat_lt (length i.declares) 65535 ≡ true → IsNewName i → Stands no_one i
    → Stands (declare_pending (symbol_number i)) (with_symbol (symbol.Declared (length i.declares)) i)
stands_declare_name i few new h = record {
  bytes = next_bytes i.cursor h.bytes;
  spell = next_spells i.cursor h.spell;
  place = next_place i.cursor ∙ h.place;
  ordered = h.ordered;
  once = h.once;
  structs = h.structs;
  symbols = subst (λ (l : List ℕ). AreSymbols i.wide (record own { declares = l }) (defined n (symbol.Declared (length i.declares)) t))
      (nil_first (map (λ (d : Declare). d.symbol) i.declares) n)
      (subst (λ (k : ℕ). AreSymbols i.wide (more_declares own n) (defined n (symbol.Declared k) t)) (plain_length (λ (d : Declare). d.symbol) i.declares)
      (declared_defines i.wide own t n (spelled i.cursor) (there i) new.0 (is_named i new h) (is_seen i h)));
  few_globals = h.few_globals;
  few_declares = fits_one (length i.declares) 65535 few;
  few_functions = h.few_functions;
} where
  n : ℕ
  n = symbol_number i

  own : Owned
  own = symbols_of no_one i

  t : Table SymbolSort
  t = seen_symbols i

stands_function_name : (i : Input) → nat_lt (length i.functions) 65535 ≡ true → IsNewName i → Stands no_one i
    → Stands (function_pending (symbol_number i)) (with_symbol (symbol.Defined (length i.functions)) i)
stands_function_name i few new h = record {
  bytes = next_bytes i.cursor h.bytes;
  spell = next_spells i.cursor h.spell;
  place = next_place i.cursor ∙ h.place;
  ordered = h.ordered;
  once = h.once;
  structs = h.structs;
  symbols = subst (λ (l : List ℕ). AreSymbols i.wide (record own { functions = l }) (defined n (symbol.Defined (length i.functions)) t))
      (nil_first (map (λ (f : Function). f.symbol) i.functions) n)
      (subst (λ (k : ℕ). AreSymbols i.wide (more_functions own n) (defined n (symbol.Defined k) t)) (plain_length (λ (f : Function). f.symbol) i.functions)
      (defined_defines i.wide own t n (spelled i.cursor) (there i) new.0 (is_named i new h) (is_seen i h)));
  few_globals = h.few_globals;
  few_declares = h.few_declares;
  few_functions = fits_one (length i.functions) 65535 few;
} where
  n : ℕ
  n = symbol_number i

  own : Owned
  own = symbols_of no_one i

  t : Table SymbolSort
  t = seen_symbols i

leads_symbol_name : (e i : Input) (sort : SymbolSort) → Leads e (with_symbol sort i) → Leads e i
leads_symbol_name e i sort b = record {
  end = b.end;
  types = b.types;
  struct_names = b.struct_names;
  symbols = symbol_begins i e.symbols.names b.symbols;
  struct_uses = b.struct_uses;
  symbol_uses = b.symbol_uses;
  missing = b.missing;
  forms = b.forms;
}

-- a name that is defined here, where it is known what is pending then
symbol_keeps : (e : Input) (P : Kept → Type 0) (pending : ℕ → Pending) (sort : SymbolSort) (i : Input)
    → (IsNewName i → Stands no_one i → Stands (pending (symbol_number i)) (with_symbol sort i))
    → Keeps (λ i. Stands no_one i × P (kept_of i)) (λ n o. Stands (pending n) o × P (kept_of o)) (Leads e) (new_symbol sort) Any i
unfolding new_symbol
symbol_keeps e P pending sort i stands n o h f =
    let rules = h.2 in
    let first = rules.2.2.1 in
    let before = first ∙ rules.2.3.1 in
    let same : i ≡ h.1 = before ∙ rules.3.1 in
    let new : is_known_symbol i ≡ false = not_true (is_known_symbol i) (ap (λ (j : Input). not (is_known_symbol j)) before ∙ rules.3.0) in
    let stays : is_left_out i.wide (spelled i.cursor) ≡ false = not_true (is_left_out i.wide (spelled i.cursor)) rules.2.2.0 in
    let number : symbol_number i ≡ n = ap symbol_number same ∙ h.3.0 in
    let end : with_symbol sort i ≡ o = ap (with_symbol sort) same ∙ h.3.1 in (
      subst (λ (k : ℕ). Stands (pending k) o × P (kept_of o)) number
          (subst (λ (j : Input). Stands (pending (symbol_number i)) j × P (kept_of j)) end (stands (new, stays) f.0, f.1)),
      λ b. (leads_symbol_name e i sort (subst (Leads e) (sym end) b), tt),
    )

-- a name that is defined here has this number where reading ends
pub named_at_end : (e i : Input) (sort : SymbolSort) (n : ℕ) (o : Input) → (new_symbol sort).says i n o → Leads e o → name_at e.symbols.names n ≡ spelled i.cursor
unfolding new_symbol
named_at_end e i sort n o h back =
    let rules = h.2 in
    let same : i ≡ h.1 = rules.2.2.1 ∙ rules.2.3.1 ∙ rules.3.1 in
    let number : symbol_number i ≡ n = ap symbol_number same ∙ h.3.0 in
    let end : with_symbol sort i ≡ o = ap (with_symbol sort) same ∙ h.3.1 in
    let leads = subst (Leads e) (sym end) back in
    let at = stays (seen_symbols i).names e.symbols.names (symbol_number i) (spelled i.cursor) leads.symbols (there i) in
    ap (name_at e.symbols.names) (sym number) ∙ ap (λ (x : Option Text). unwrap_or x []) at

-- a name of a global
pub new_global_keeps : (e : Input) (P : Kept → Type 0) (i : Input) → nat_lt (length i.globals) 4096 ≡ true
    → Keeps (λ i. Stands no_one i × P (kept_of i)) (λ n o. Stands (global_pending n) o × P (kept_of o)) (Leads e) (new_symbol (symbol.Global (length i.globals))) Any i
new_global_keeps e P i few = symbol_keeps e P global_pending (symbol.Global (length i.globals)) i (stands_global_name i few)

-- a name of a declared function
pub new_declare_keeps : (e : Input) (P : Kept → Type 0) (i : Input) (number : ℕ) → length i.declares ≡ number → nat_lt number 65535 ≡ true
    → Keeps (λ i. Stands no_one i × P (kept_of i)) (λ n o. Stands (declare_pending n) o × P (kept_of o)) (Leads e) (new_symbol (symbol.Declared number)) Any i
new_declare_keeps e P i number same few =
    symbol_keeps e P declare_pending (symbol.Declared number) i (λ new h.
    subst (λ (k : ℕ). Stands (declare_pending (symbol_number i)) (with_symbol (symbol.Declared k) i)) same
    (stands_declare_name i (ap (λ (k : ℕ). nat_lt k 65535) same ∙ few) new h))

-- a name of a defined function
pub new_function_keeps : (e : Input) (P : Kept → Type 0) (i : Input) (number : ℕ) → length i.functions ≡ number → nat_lt number 65535 ≡ true
    → Keeps (λ i. Stands no_one i × P (kept_of i)) (λ n o. Stands (function_pending n) o × P (kept_of o)) (Leads e) (new_symbol (symbol.Defined number)) Any i
new_function_keeps e P i number same few =
    symbol_keeps e P function_pending (symbol.Defined number) i (λ new h.
    subst (λ (k : ℕ). Stands (function_pending (symbol_number i)) (with_symbol (symbol.Defined k) i)) same
    (stands_function_name i (ap (λ (k : ℕ). nat_lt k 65535) same ∙ few) new h))

-- the global is there
pub global_added : (g : Global) (i : Input) → Stands (global_pending g.symbol) i → Stands no_one (with_global g i)
global_added g i h = record {
  bytes = h.bytes;
  spell = h.spell;
  place = h.place;
  ordered = h.ordered;
  once = h.once;
  structs = h.structs;
  symbols = subst (λ (l : List ℕ). AreSymbols i.wide (record (symbols_of no_one i) { globals = l }) i.symbols) (added (λ (x : Global). x.symbol) i.globals g) h.symbols;
  few_globals = added_length i.globals g 4096 h.few_globals;
  few_declares = h.few_declares;
  few_functions = h.few_functions;
}

-- the declared function is there
pub declare_added : (d : Declare) (i : Input) → Stands (declare_pending d.symbol) i → Stands no_one (with_declare d i)
declare_added d i h = record {
  bytes = h.bytes;
  spell = h.spell;
  place = h.place;
  ordered = h.ordered;
  once = h.once;
  structs = h.structs;
  symbols = subst (λ (l : List ℕ). AreSymbols i.wide (record (symbols_of no_one i) { declares = l }) i.symbols) (added (λ (x : Declare). x.symbol) i.declares d) h.symbols;
  few_globals = h.few_globals;
  few_declares = added_length i.declares d 65535 h.few_declares;
  few_functions = h.few_functions;
}

-- ---- data

one_less : (n most : ℕ) → n + 1 ≤ most → n + 0 ≤ most
one_less n most le = omega (arith, le)

-- the name of data, which was taken for that of a global
abbrev data_name : (s returned : ℕ) → Input → Declare
data_name s returned i = record { symbol = s; runtime = runtime_of (name_at i.symbols.names s); returned = returned; parameters = [] }

-- the name is declared, and no global is pending
pub data_added : (s number returned : ℕ) (i : Input) → length i.declares ≡ number → nat_lt number 65535 ≡ true → Stands (global_pending s) i → Stands no_one (with_outside s number returned i)
data_added s number returned i same few h = record {
  bytes = h.bytes;
  spell = h.spell;
  place = h.place;
  ordered = h.ordered;
  once = h.once;
  structs = h.structs;
  symbols = subst (λ (l : List ℕ). AreSymbols i.wide (record { globals = l; declares = map (λ (d : Declare). d.symbol) (i.declares ++ data_name s returned i ∷ []) ++ []; functions = own.functions }) table) (sym (append-nil own.globals))
      (subst (λ (l : List ℕ). AreSymbols i.wide (record own { declares = l }) table) (nil_first (map (λ (d : Declare). d.symbol) i.declares) s ∙ added (λ (d : Declare). d.symbol) i.declares (data_name s returned i))
      (subst (λ (k : ℕ). AreSymbols i.wide (more_declares own s) (defined s (symbol.Declared k) i.symbols)) (plain_length (λ (d : Declare). d.symbol) i.declares ∙ same)
      (data_defines i.wide own i.symbols s h.symbols)));
  few_globals = one_less (length i.globals) 4096 h.few_globals;
  few_declares = added_length i.declares (data_name s returned i) 65535 (fits_one (length i.declares) 65535 (ap (λ (k : ℕ). nat_lt k 65535) same ∙ few));
  few_functions = h.few_functions;
} where
  own : Owned
  own = record (symbols_of no_one i) { globals = map (λ (g : Global). g.symbol) i.globals }

  table : Table SymbolSort
  table = defined s (symbol.Declared number) i.symbols

-- what leads on from there leads on from before it
pub leads_data : (e : Input) (s number returned : ℕ) (i : Input) → Leads e (with_outside s number returned i) → Leads e i
leads_data e s number returned i b = record {
  end = b.end;
  types = b.types;
  struct_names = b.struct_names;
  symbols = b.symbols;
  struct_uses = b.struct_uses;
  symbol_uses = b.symbol_uses;
  missing = b.missing;
  forms = b.forms;
}

-- the name is the same where reading ends
pub data_named : (e : Input) (s : ℕ) (i : Input) → Stands (global_pending s) i → Leads e i → name_at i.symbols.names s ≡ name_at e.symbols.names s
data_named e s i h b =
    let globals = map (λ (g : Global). g.symbol) i.globals in
    let sort = symbol.Global (length globals) in
    let less = slice_get_within i.symbols.sorts s sort (h.symbols.known s sort (get_end globals s)) in
    let same = h.symbols.same in
    let name = get_some i.symbols.names s (omega (arith, less, same)) in
    ap (λ (x : Option Text). unwrap_or x []) (name.1 ∙ sym (stays i.symbols.names e.symbols.names s name.0 b.symbols name.1))

-- ---- defined functions

-- the defined function is there
pub function_added : (symbol returned : ℕ) (ps : List Parameter) (c : Option Text) (bs : List Block) (i : Input) → Stands (function_pending symbol) i
    → Stands no_one (with_function (record { symbol = symbol; returned = returned; parameters = ps; collector = c }) bs i)
unfolding with_function
function_added symbol returned ps c bs i h = record {
  bytes = h.bytes;
  spell = h.spell;
  place = h.place;
  ordered = h.ordered;
  once = h.once;
  structs = h.structs;
  symbols = subst (λ (l : List ℕ). AreSymbols i.wide (record (symbols_of no_one i) { functions = l }) i.symbols) (added (λ (x : Function). x.symbol) i.functions f) h.symbols;
  few_globals = h.few_globals;
  few_declares = h.few_declares;
  few_functions = added_length i.functions f 65535 h.few_functions;
} where
  f : Function
  f = function_of (record { symbol = symbol; returned = returned; parameters = ps; collector = c }) bs i
