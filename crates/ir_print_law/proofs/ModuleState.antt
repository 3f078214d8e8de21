-- What is known of a state between and within the items of a module, and of where reading ends.
use Rattle.std.proofs.Common.{◌≡◌, ℕ, ◌+◌, ◌≤◌, Bool, true, false, if◌then◌else◌, List, [], ◌∷◌, ◌++◌, length, map, slice_get, unwrap_or, Option, None, Some, refl, sym, ap, subst, ◌∙◌, inl, inr, ◌⊎◌}
use Rattle.std.specs.Prelude.{is_none}
use Rattle.lemmas.specs.Lists.{in_first, in_second, last_in, IsIn}
use Rattle.ir_ast.specs.Names.{numbered}
use Rattle.ir_ast.specs.RuntimeNames.{runtime_of}
use Rattle.ir_ast.specs.Types.{numbered_type}
use Rattle.ir_ast.specs.declared.function.Function.{Function}
use Rattle.ir_ast.specs.declared.function.LocalSort.{LocalSort}
use Rattle.ir_ast.specs.declared.ir_type.IrType.{IrType}
use Rattle.ir_ast.specs.declared.items_of_module.Declare.{Declare}
use Rattle.ir_ast.specs.declared.items_of_module.Global.{Global}
use Rattle.ir_ast.specs.declared.items_of_module.StructType.{StructType}
use Rattle.ir_ast.specs.declared.items_of_module.SymbolSort.{SymbolSort}
use Rattle.ir_ast.specs.declared.items_of_module.SymbolSort.TheVariants as symbol
use Rattle.ir_tokens.specs.Bytes.{Text}
use Rattle.ir_tokens.specs.declared.token.Token.{Token}
use Rattle.ir_forms.specs.declared.fault.Fault.{Fault}
use Rattle.ir_forms.specs.Cursor.{kind, kind_first, here, is_stop, next, rest_of, spelled, spelled_first, start, size, is_local_number}
use Rattle.ir_forms.specs.Place.{Place}
use Rattle.ir_forms.specs.Table.{empty}
use Rattle.ir_forms.specs.declared.table.Table.{Table}
use Rattle.ir_forms.specs.declared.uses.LocalUse.{LocalUse}
use Rattle.ir_forms.specs.declared.uses.StructUse.{StructUse}
use Rattle.ir_forms.specs.declared.uses.SymbolUse.{SymbolUse}
use Rattle.ir_forms.specs.declared.input.Input.{Input}
use Rattle.ir_forms.specs.Input.{advanced}
use Rattle.ir_forms.specs.Names.{struct_number, with_struct_use, symbol_number, with_symbol_use, is_declared}
use Rattle.ir_forms.specs.Written.{with_type_interned}
use Rattle.ir_text.specs.Late.{is_struct, is_right, is_right_struct, is_right_symbol, may_use}
use Rattle.ir_text.specs.Read.{module_of}
use Rattle.name_text.specs.Readings.{AreBytes}
use Rattle.ir_print.specs.Names.{name_at}
use Rattle.ir_print_law.specs.Stands.{AreDigits}
use Rattle.ir_print_law.specs.OneTypes.{AreOnce}
use Rattle.ir_print_law.proofs.OneTypes.{once_more}
use Rattle.ir_print_law.specs.Definitions.{defined_structs, declared_functions, defined_functions, IsUsed}
use Rattle.ir_print_law.specs.Printable.{IsSymbol}
use Rattle.ir_print_law.proofs.ModuleTables.{AreStructs, AreSymbols, Owned, OwnsStruct, OwnsSymbol, table_mentions}
use Rattle.ir_print_law.proofs.NameBytes.{spelled_bytes}
use Rattle.ir_print_law.proofs.NumberTokens.{AllSpell}
use Rattle.ir_print_law.proofs.Outside.{Outside, with_own}
use Rattle.ir_print_law.proofs.DefinedLocals.{in_list}
use Rattle.ir_print_law.proofs.Reading.{with_lost, Reading}
use Rattle.ir_print_law.proofs.OneKind.{IsNext, type_ordered}
use Rattle.ir_print_law.proofs.Used.{used_so}
use Rattle.ir_print_law.proofs.Tables.{Begins, AreOrdered, begins_further, type_begins, name_begins, name_there, stays}

-- ---- before a place

-- names that are defined, of which the item is not there yet
pub record Pending : Type 0 where
  pub structs : List ℕ
  pub globals : List ℕ
  pub declares : List ℕ
  pub functions : List ℕ

-- each item is there
abbrev pub no_one : Pending
no_one = record { structs = []; globals = []; declares = []; functions = [] }

-- the names of structs, in their order
abbrev pub struct_names_of : Pending → Input → List ℕ
struct_names_of p i = map (λ (s : StructType). s.name) i.structs ++ p.structs

-- the names of globals and of functions, in their order
abbrev pub symbols_of : Pending → Input → Owned
symbols_of p i = record {
  globals = map (λ (g : Global). g.symbol) i.globals ++ p.globals;
  declares = map (λ (d : Declare). d.symbol) i.declares ++ p.declares;
  functions = map (λ (f : Function). f.symbol) i.functions ++ p.functions;
}

-- What is known of the names and types that were read, and of the text that is left.
pub record Stands (p : Pending) (i : Input) : Type 0 where
  pub bytes : AreBytes i.cursor.text
  pub spell : AllSpell i.cursor.text i.cursor.rest
  pub place : i.cursor.wide ≡ i.wide
  pub ordered : AreOrdered i.types
  pub once : AreOnce i.types
  pub structs : AreStructs (struct_names_of p i) i.struct_names
  pub symbols : AreSymbols i.wide (symbols_of p i) i.symbols
  pub few_globals : length i.globals + length p.globals ≤ 4096
  pub few_declares : length i.declares + length p.declares ≤ 65535
  pub few_functions : length i.functions + length p.functions ≤ 65535

-- what no form changes that reads a type or an operand
pub record Kept : Type 0 where
  pub locals : Table LocalSort
  pub local_uses : List LocalUse
  pub values : ℕ
  pub unnamed : ℕ
  pub structs : List StructType
  pub globals : List Global
  pub declares : List Declare
  pub functions : List Function

-- what of it a state has
abbrev pub kept_of : Input → Kept
kept_of i = record {
  locals = i.locals;
  local_uses = i.local_uses;
  values = i.values;
  unnamed = i.unnamed;
  structs = i.structs;
  globals = i.globals;
  declares = i.declares;
  functions = i.functions;
}

-- ---- from a place to the end

-- Reading goes on to this end, where each name that is used means something that may be used so.
pub record Leads (e i : Input) : Type 0 where
  pub end : Stands no_one e
  pub types : Begins i.types e.types
  pub struct_names : Begins i.struct_names.names e.struct_names.names
  pub symbols : Begins i.symbols.names e.symbols.names
  pub struct_uses : (u : StructUse) → IsIn u i.struct_uses → is_right_struct e u ≡ true
  pub symbol_uses : (u : SymbolUse) → IsIn u i.symbol_uses → is_right_symbol e u ≡ true
  pub missing : i.missing ≡ None
  pub forms : i.wide ≡ e.wide

-- ---- the text that is left

-- the text stays the same after a token
pub next_bytes : (c : Place) → AreBytes c.text → AreBytes (next c).text
unfolding next
next_bytes c h = h

-- whether the wide forms may stand stays the same after a token
pub next_place : (c : Place) → (next c).wide ≡ c.wide
unfolding next
next_place c = refl

rest_spells : (text : Text) (ts : List Token) → AllSpell text ts → AllSpell text (rest_of ts)
rest_spells text [] h = h
rest_spells text (t ∷ ts) h = h.1

-- and so do the tokens
pub next_spells : (c : Place) → AllSpell c.text c.rest → AllSpell (next c).text (next c).rest
unfolding next
next_spells c h = rest_spells c.text c.rest h

-- a number in place of a local name is digits
pub number_spells : (c : Place) → AllSpell c.text c.rest → is_local_number (kind c) ≡ true → AreDigits (spelled c)
unfolding kind spelled
number_spells c h is = by c.rest h is where
  seen : (b : Bool) (t : Token) (ts : List Token) → is_local_number (kind_first (if b then [] else t ∷ ts)) ≡ true → is_local_number t.kind ≡ true
  seen true t ts e = absurd cc
  seen false t ts e = e

  by : (ts : List Token) → AllSpell c.text ts → is_local_number (kind_first (here c.wide ts)) ≡ true → AreDigits (spelled_first c.text ts)
  by [] h is = absurd cc
  by (t ∷ ts) h is = h.0 (seen (is_stop c.wide t.kind) t ts is)

-- ---- names that are used

-- the name of one of these items is among their names
named_in : {A : Type 0} (number : A → ℕ) (names : List Text) (xs : List A) (n : ℕ) (name : Text) → IsIn n (map number xs ++ []) → slice_get names n ≡ Some name
    → IsIn name (map (λ x. name_at names (number x)) xs)
named_in number names [] n name there at = absurd there
named_in number names (x ∷ xs) n name (inl e) at = inl (sym (ap (name_at names) (sym e) ∙ ap (λ (o : Option Text). unwrap_or o []) at))
named_in number names (x ∷ xs) n name (inr there) at = inr (named_in number names xs n name there at)

-- a name that is used as a struct's is one of theirs
pub struct_named : (e i : Input) → Leads e (with_struct_use i) → IsIn (spelled i.cursor) (defined_structs (module_of e))
struct_named e i b = by (slice_get e.struct_names.sorts (struct_number i)) refl right where
  at : slice_get e.struct_names.names (struct_number i) ≡ Some (spelled i.cursor)
  at =
      let name = spelled i.cursor in
      stays (numbered name i.struct_names.names) e.struct_names.names (struct_number i) name b.struct_names (name_there name i.struct_names.names)

  use_here : StructUse
  use_here = record { name = struct_number i; start = start i.cursor }

  right : is_struct (slice_get e.struct_names.sorts (struct_number i)) ≡ true
  right = b.struct_uses use_here (last_in use_here i.struct_uses)

  by : (x : Option (Option ℕ)) → slice_get e.struct_names.sorts (struct_number i) ≡ x → is_struct x ≡ true → IsIn (spelled i.cursor) (defined_structs (module_of e))
  by None same is = absurd cc
  by (Some None) same is = absurd cc
  by (Some (Some layout)) same is = elim (b.end.structs.owned (struct_number i) (Some layout) same) [
    | inl none ↦ absurd cc
    | inr own ↦
        let n = struct_number i in
        named_in (λ (s : StructType). s.name) e.struct_names.names e.structs n (spelled i.cursor) (in_list (struct_names_of no_one e) layout n own) at
  ]

-- a name that is called is a function's, and one that is an operand is a global's or that of something outside
pub symbol_named : (e i : Input) (is_call : Bool) → Leads e (with_symbol_use is_call i) → IsUsed (module_of e) is_call (spelled i.cursor)
symbol_named e i is_call b = elim (used_so e.wide is_call sort (name_at e.symbols.names (symbol_number i)) right) [
  | inl is ↦ by is_call sort refl is
  | inr h ↦ subst (λ (c : Bool). IsUsed (module_of e) c (spelled i.cursor)) (sym h.0)
      (inr (h.1.0, declared sort refl h.1.1, ap (λ (name : Text). is_none (runtime_of name)) (sym its) ∙ h.1.2))
] where
  at : slice_get e.symbols.names (symbol_number i) ≡ Some (spelled i.cursor)
  at = stays (numbered (spelled i.cursor) i.symbols.names) e.symbols.names (symbol_number i) (spelled i.cursor) b.symbols (name_there (spelled i.cursor) i.symbols.names)

  its : name_at e.symbols.names (symbol_number i) ≡ spelled i.cursor
  its = ap (λ (o : Option Text). unwrap_or o []) at

  sort : Option SymbolSort
  sort = slice_get e.symbols.sorts (symbol_number i)

  use_here : SymbolUse
  use_here = record { symbol = symbol_number i; is_call = is_call; start = start i.cursor; length = size i.cursor }

  right : may_use e.wide is_call sort (name_at e.symbols.names (symbol_number i)) ≡ true
  right = b.symbol_uses use_here (last_in use_here i.symbol_uses)

  owned : (x : SymbolSort) → slice_get e.symbols.sorts (symbol_number i) ≡ Some x → (x ≡ symbol.Unknown) ⊎ OwnsSymbol (symbols_of no_one e) x (symbol_number i)
  owned x same = b.end.symbols.owned (symbol_number i) x same

  declared : (x : Option SymbolSort) → slice_get e.symbols.sorts (symbol_number i) ≡ x → is_declared x ≡ true → IsIn (spelled i.cursor) (declared_functions (module_of e))
  declared None same is = absurd cc
  declared (Some symbol.Unknown) same is = absurd cc
  declared (Some (symbol.Global g)) same is = absurd cc
  declared (Some (symbol.Declared d)) same is = elim (owned (symbol.Declared d) same) [
    | inl none ↦ absurd cc
    | inr own ↦ named_in (λ (x : Declare). x.symbol) e.symbols.names e.declares (symbol_number i) (spelled i.cursor)
        (in_list (symbols_of no_one e).declares d (symbol_number i) own) at
  ]
  declared (Some (symbol.Defined f)) same is = absurd cc

  by : (is_call : Bool) (x : Option SymbolSort) → slice_get e.symbols.sorts (symbol_number i) ≡ x → is_right is_call x ≡ true → IsUsed (module_of e) is_call (spelled i.cursor)
  by is_call None same is = absurd cc
  by is_call (Some symbol.Unknown) same is = absurd cc
  by true (Some (symbol.Global g)) same is = absurd cc
  by false (Some (symbol.Global g)) same is = elim (owned (symbol.Global g) same) [
    | inl none ↦ absurd cc
    | inr own ↦
        let n = symbol_number i in
        inl (named_in (λ (x : Global). x.symbol) e.symbols.names e.globals n (spelled i.cursor) (in_list (symbols_of no_one e).globals g n own) at)
  ]
  by false (Some (symbol.Declared d)) same is = absurd cc
  by true (Some (symbol.Declared d)) same is = in_first (spelled i.cursor) (declared_functions (module_of e)) (defined_functions (module_of e)) (declared (Some (symbol.Declared d)) same refl)
  by false (Some (symbol.Defined f)) same is = absurd cc
  by true (Some (symbol.Defined f)) same is = elim (owned (symbol.Defined f) same) [
    | inl none ↦ absurd cc
    | inr own ↦ in_second (spelled i.cursor) (declared_functions (module_of e)) (defined_functions (module_of e))
        (named_in (λ (x : Function). x.symbol) e.symbols.names e.functions (symbol_number i) (spelled i.cursor)
        (in_list (symbols_of no_one e).functions f (symbol_number i) own) at)
  ]

-- ---- the reading of a module that ends there

-- after a token
pub stands_next : (p : Pending) (i : Input) → Stands p i → Stands p (advanced i)
stands_next p i h = record {
  bytes = next_bytes i.cursor h.bytes;
  spell = next_spells i.cursor h.spell;
  place = next_place i.cursor ∙ h.place;
  ordered = h.ordered;
  once = h.once;
  structs = h.structs;
  symbols = h.symbols;
  few_globals = h.few_globals;
  few_declares = h.few_declares;
  few_functions = h.few_functions;
}

-- after a type
pub stands_type : (p : Pending) (i : Input) (t : IrType) → IsNext i.types t → Stands p i → Stands p (with_type_interned t i)
stands_type p i t last h = record {
  bytes = h.bytes;
  spell = h.spell;
  place = h.place;
  ordered = type_ordered t i.types last h.ordered;
  once = once_more t i.types h.once;
  structs = h.structs;
  symbols = h.symbols;
  few_globals = h.few_globals;
  few_declares = h.few_declares;
  few_functions = h.few_functions;
}

-- after a name of a struct
pub stands_struct : (p : Pending) (i : Input) → Stands p i → Stands p (with_struct_use i)
stands_struct p i h = record {
  bytes = next_bytes i.cursor h.bytes;
  spell = next_spells i.cursor h.spell;
  place = next_place i.cursor ∙ h.place;
  ordered = h.ordered;
  once = h.once;
  structs = table_mentions None (OwnsStruct (struct_names_of p i)) AreBytes i.struct_names (spelled i.cursor) (spelled_bytes i.cursor h.bytes) h.structs;
  symbols = h.symbols;
  few_globals = h.few_globals;
  few_declares = h.few_declares;
  few_functions = h.few_functions;
}

-- after a name of a global or a function
pub stands_symbol : (p : Pending) (i : Input) (is_call : Bool) → Stands p i → Stands p (with_symbol_use is_call i)
stands_symbol p i is_call h = record {
  bytes = next_bytes i.cursor h.bytes;
  spell = next_spells i.cursor h.spell;
  place = next_place i.cursor ∙ h.place;
  ordered = h.ordered;
  once = h.once;
  structs = h.structs;
  symbols = table_mentions symbol.Unknown (OwnsSymbol (symbols_of p i)) (IsSymbol i.wide) i.symbols (spelled i.cursor) (spelled_bytes i.cursor h.bytes) h.symbols;
  few_globals = h.few_globals;
  few_declares = h.few_declares;
  few_functions = h.few_functions;
}

-- where something else is lost
pub stands_lost : (p : Pending) (i : Input) (lost : Option Fault) → Stands p i → Stands p (with_lost lost i)
stands_lost p i lost h = record {
  bytes = h.bytes;
  spell = h.spell;
  place = h.place;
  ordered = h.ordered;
  once = h.once;
  structs = h.structs;
  symbols = h.symbols;
  few_globals = h.few_globals;
  few_declares = h.few_declares;
  few_functions = h.few_functions;
}

-- names that are read further on begin with those before a mention
pub struct_name_begins : (i : Input) (names : List Text) → Begins (numbered (spelled i.cursor) i.struct_names.names) names → Begins i.struct_names.names names
struct_name_begins i names b = begins_further i.struct_names.names (numbered (spelled i.cursor) i.struct_names.names) names (name_begins (spelled i.cursor) i.struct_names.names) b

-- the same of names of globals and functions
pub symbol_begins : (i : Input) (names : List Text) → Begins (numbered (spelled i.cursor) i.symbols.names) names → Begins i.symbols.names names
symbol_begins i names b = begins_further i.symbols.names (numbered (spelled i.cursor) i.symbols.names) names (name_begins (spelled i.cursor) i.symbols.names) b

-- before a token
pub leads_token : (e i : Input) → Leads e (advanced i) → Leads e i
leads_token e i b = record {
  end = b.end;
  types = b.types;
  struct_names = b.struct_names;
  symbols = b.symbols;
  struct_uses = b.struct_uses;
  symbol_uses = b.symbol_uses;
  missing = b.missing;
  forms = b.forms;
}

-- before a type
pub leads_type : (e i : Input) (t : IrType) → Leads e (with_type_interned t i) → Leads e i
leads_type e i t b = record {
  end = b.end;
  types = begins_further i.types (numbered_type t i.types) e.types (type_begins t i.types) b.types;
  struct_names = b.struct_names;
  symbols = b.symbols;
  struct_uses = b.struct_uses;
  symbol_uses = b.symbol_uses;
  missing = b.missing;
  forms = b.forms;
}

-- before a name of a struct
pub leads_struct : (e i : Input) → Leads e (with_struct_use i) → Leads e i
leads_struct e i b = record {
  end = b.end;
  types = b.types;
  struct_names = struct_name_begins i e.struct_names.names b.struct_names;
  symbols = b.symbols;
  struct_uses = λ u there. b.struct_uses u (in_first u i.struct_uses (record { name = struct_number i; start = start i.cursor } ∷ []) there);
  symbol_uses = b.symbol_uses;
  missing = b.missing;
  forms = b.forms;
}

-- before a name of a global or a function
pub leads_symbol : (e i : Input) (is_call : Bool) → Leads e (with_symbol_use is_call i) → Leads e i
leads_symbol e i is_call b = record {
  end = b.end;
  types = b.types;
  struct_names = b.struct_names;
  symbols = symbol_begins i e.symbols.names b.symbols;
  struct_uses = b.struct_uses;
  symbol_uses = λ u there. b.symbol_uses u
      (in_first u i.symbol_uses (record { symbol = symbol_number i; is_call = is_call; start = start i.cursor; length = size i.cursor } ∷ []) there);
  missing = b.missing;
  forms = b.forms;
}

-- before something else was lost
pub leads_lost : (e i : Input) (lost : Option Fault) → Leads e (with_lost lost i) → Leads e i
leads_lost e i lost b = record {
  end = b.end;
  types = b.types;
  struct_names = b.struct_names;
  symbols = b.symbols;
  struct_uses = b.struct_uses;
  symbol_uses = b.symbol_uses;
  missing = b.missing;
  forms = b.forms;
}

-- The reading of a module, where these names are pending and `P` holds of what no form changes that reads a type or an operand.
abbrev pub reading_of : (e : Input) (P : Kept → Type 0) (p : Pending) → Reading (module_of e)
reading_of e P p = record {
  Fore = λ i. Stands p i × P (kept_of i);
  Back = Leads e;
  ordered = λ i back. back.end.ordered;
  bytes = λ i f back. spelled_bytes i.cursor f.0.bytes;
  forms = λ i b. b.forms;
  has_types = λ i b. b.types;
  has_structs = λ i b. b.struct_names;
  has_symbols = λ i b. b.symbols;
  on_token = λ i f. (stands_next p i f.0, f.1);
  from_token = leads_token e;
  on_type = λ i t last f. (stands_type p i t last f.0, f.1);
  from_type = leads_type e;
  on_struct = λ i f. (stands_struct p i f.0, f.1);
  from_struct = leads_struct e;
  struct_is = struct_named e;
  on_symbol = λ i is_call f. (stands_symbol p i is_call f.0, f.1);
  from_symbol = leads_symbol e;
  symbol_is = symbol_named e;
  on_lost = λ i lost f. (stands_lost p i lost f.0, f.1);
  from_lost = leads_lost e;
}

-- ---- the same outside of a function's names

-- the items of a module so far
pub record Made : Type 0 where
  pub structs : List StructType
  pub globals : List Global
  pub declares : List Declare
  pub functions : List Function

-- the items of a state
abbrev pub made_of : Kept → Made
made_of k = record { structs = k.structs; globals = k.globals; declares = k.declares; functions = k.functions }

-- no function is being read
abbrev pub between : Made → Kept
between made = record {
  locals = empty;
  local_uses = [];
  values = 0;
  unnamed = 0;
  structs = made.structs;
  globals = made.globals;
  declares = made.declares;
  functions = made.functions;
}

-- the state with these in their places
abbrev pub with_kept : Kept → Input → Input
with_kept k i = record i {
  locals = k.locals;
  local_uses = k.local_uses;
  values = k.values;
  unnamed = k.unnamed;
  structs = k.structs;
  globals = k.globals;
  declares = k.declares;
  functions = k.functions;
}

-- where reading ends depends on none of them
pub leads_kept : (e i : Input) (k : Kept) → Leads e (with_kept k i) → Leads e i
leads_kept e i k b = record {
  end = b.end;
  types = b.types;
  struct_names = b.struct_names;
  symbols = b.symbols;
  struct_uses = b.struct_uses;
  symbol_uses = b.symbol_uses;
  missing = b.missing;
  forms = b.forms;
}

-- nothing of it depends on the names of a function
pub stands_own : (p : Pending) (i : Input) (t : Table LocalSort) (uses : List LocalUse) (values unnamed : ℕ) → Stands p i → Stands p (with_own t uses values unnamed i)
stands_own p i t uses values unnamed h = record {
  bytes = h.bytes;
  spell = h.spell;
  place = h.place;
  ordered = h.ordered;
  once = h.once;
  structs = h.structs;
  symbols = h.symbols;
  few_globals = h.few_globals;
  few_declares = h.few_declares;
  few_functions = h.few_functions;
}

-- What is known outside of a function's names, where these names are pending and these items are made.
abbrev pub outside_of : (e : Input) (made : Made) (p : Pending) → Outside (module_of e)
outside_of e made p = record {
  reading = reading_of e (λ k. made_of k ≡ made) p;
  on_own = λ i t uses values unnamed f. (stands_own p i t uses values unnamed f.0, f.1);
  from_own = λ i t uses values unnamed b. leads_kept e i (kept_of (with_own t uses values unnamed i)) b;
  bytes = λ i f. spelled_bytes i.cursor f.0.bytes;
  digits = λ i f is. number_spells i.cursor f.0.spell is;
}
