-- What global names mean so far in a whole text, and what they mean in a module with the same names.
use Rattle.std.proofs.Common.{◌≡◌, ℕ, zero, suc, ◌<◌, Bool, true, false, List, [], ◌∷◌, ◌++◌, ◌⊎◌, inl, inr, length, map, Option, None, Some, refl, sym, ap, ap₂, subst, ◌∙◌, arith, if◌then◌else◌}
use Rattle.std.proofs.lemmas.Bool.Decides.{nat_tests}
use Rattle.std.proofs.lemmas.List.{append-nil, length-map}
use Rattle.std.proofs.lemmas.Option.{slice_get-map, slice_get_within}
use Rattle.std.specs.Prelude.{nat_lt, slice_get, option_and_then, option_map}
use Rattle.lemmas.specs.Lists.{get_some}
use Rattle.ir_ast.specs.Names.{place_of, name_at}
use Rattle.ir_ast.specs.declared.function.Function.{Function}
use Rattle.ir_ast.specs.declared.items_of_module.Declare.{Declare}
use Rattle.ir_ast.specs.declared.items_of_module.Global.{Global}
use Rattle.ir_ast.specs.declared.items_of_module.StructType.{StructType}
use Rattle.ir_ast.specs.declared.items_of_module.SymbolSort.{SymbolSort}
use Rattle.ir_ast.specs.declared.items_of_module.SymbolSort.TheVariants as symbol
use Rattle.ir_ast.specs.declared.module.Module.{Module}
use Rattle.ir_tokens.specs.Bytes.{Text}
use Rattle.ir_forms.specs.Names.{is_symbol, is_function, is_declared}
use Rattle.ir_forms.specs.declared.input.Input.{Input}
use Rattle.ir_text.specs.Anew.{sort_before, sorts_before}
use Rattle.ir_text.specs.Read.{module_of}
use Rattle.ir_print_law.specs.Definitions.{defined_structs, defined_globals, declared_functions, defined_functions}
use Rattle.ir_print_law.specs.ModuleNames.{HasModuleNames}
pub use Rattle.ir_print_law.proofs.Operands.{named_at as name_here}
use Rattle.ir_print_law.proofs.ModuleState.{no_one, Stands, Leads, symbols_of}
use Rattle.ir_print_law.proofs.ModuleTables.{OwnsSymbol}
use Rattle.ir_print_law.proofs.Tables.{Begins, begins_itself, stays}
use Rattle.ir_text.specs.Late.{may_use, is_struct}
use Rattle.ir_print_law.specs.Places.{symbol_in, struct_in, AreRight}
use Rattle.ir_print_law.proofs.Used.{used_known}
use Rattle.ir_print_law.proofs.AnewTables.{Tests, tests_same, place_is_there}
use Rattle.ir_print_law.specs.Standing.{sort_named, MeanAlike, symbols_before, HaveSameNames}

-- ---- names of items

-- the item with this number has this name, by the numbers of names of the items
pub named_at : {A : Type 0} (number : A → ℕ) (names : List Text) (xs : List A) (g : ℕ) (name : Text) → slice_get (map (λ x. name_at names (number x)) xs) g ≡ Some name
    → (x : A) × (slice_get xs g ≡ Some x) × (name_at names (number x) ≡ name)
named_at number names [] g name e = absurd cc
named_at number names (x ∷ xs) zero name e = (x, refl, cc)
named_at number names (x ∷ xs) (suc g) name e = named_at number names xs g name e

pub name_of_item : {A : Type 0} (number : A → ℕ) (names : List Text) (xs : List A) (g : ℕ) (x : A) (name : Text) → slice_get xs g ≡ Some x → name_at names (number x) ≡ name
    → slice_get (map (λ x. name_at names (number x)) xs) g ≡ Some name
name_of_item number names xs g x name at is = slice_get-map (λ y. name_at names (number y)) xs g ∙ ap (option_map (λ y. name_at names (number y))) at ∙ ap Some is

-- what an item has as the number of its name
owned_at : {A : Type 0} (number : A → ℕ) (xs : List A) (g k : ℕ) → slice_get (map number xs ++ []) g ≡ Some k → (x : A) × (slice_get xs g ≡ Some x) × (number x ≡ k)
owned_at number [] g k e = absurd cc
owned_at number (x ∷ xs) zero k e = (x, refl, cc)
owned_at number (x ∷ xs) (suc g) k e = owned_at number xs g k e

owns_at : {A : Type 0} (number : A → ℕ) (xs : List A) (g : ℕ) (x : A) → slice_get xs g ≡ Some x → slice_get (map number xs ++ []) g ≡ Some (number x)
owns_at number xs g x e = ap (λ (l : List ℕ). slice_get l g) (append-nil (map number xs)) ∙ slice_get-map number xs g ∙ ap (option_map number) e

-- the name of what a name stands for, if it stands for something
abbrev pub item_name : Module → SymbolSort → Option Text
item_name m symbol.Unknown = None
item_name m (symbol.Global g) = slice_get (defined_globals m) g
item_name m (symbol.Declared d) = slice_get (declared_functions m) d
item_name m (symbol.Defined f) = slice_get (defined_functions m) f

same_item : (m n : Module) → HaveSameNames m n → (sort : SymbolSort) → item_name n sort ≡ item_name m sort
same_item m n h symbol.Unknown = refl
same_item m n h (symbol.Global g) = ap (λ (l : List Text). slice_get l g) h.globals
same_item m n h (symbol.Declared d) = ap (λ (l : List Text). slice_get l d) h.declares
same_item m n h (symbol.Defined f) = ap (λ (l : List Text). slice_get l f) h.functions

-- ---- a module whose names are its own

module _ (m : Module) (names : HasModuleNames m) where
  -- where a name has this number and stands for something, it is found there
  found : (number : ℕ) (name : Text) (sort : SymbolSort) → slice_get m.sorts number ≡ Some sort → name_at m.symbols number ≡ name → symbol_in m name ≡ Some sort
  found number name sort at is =
      let there = get_some m.symbols number (names.sorts number sort at) in
      let same : there.0 ≡ name = sym (name_here m.symbols number there.0 there.1) ∙ is in
      let place = (names.symbols number there.0 there.1).1 in
      ap (λ (t : Text). option_and_then (slice_get m.sorts) (place_of t m.symbols)) (sym same) ∙ ap (option_and_then (slice_get m.sorts)) place ∙ at

  -- the name of an item stands for it
  pub means_item : (name : Text) (sort : SymbolSort) → item_name m sort ≡ Some name → symbol_in m name ≡ Some sort
  means_item name symbol.Unknown e = absurd cc
  means_item name (symbol.Global g) e =
      let x = named_at (λ (x : Global). x.symbol) m.symbols m.globals g name e in found x.0.symbol name (symbol.Global g) (names.globals g x.0 x.1) x.2
  means_item name (symbol.Declared d) e =
      let x = named_at (λ (x : Declare). x.symbol) m.symbols m.declares d name e in found x.0.symbol name (symbol.Declared d) (names.declares d x.0 x.1) x.2
  means_item name (symbol.Defined f) e =
      let x = named_at (λ (x : Function). x.symbol) m.symbols m.functions f name e in found x.0.symbol name (symbol.Defined f) (names.functions f x.0 x.1) x.2

  -- what a name stands for has that name
  item_is : (number : ℕ) (name : Text) (sort : SymbolSort) → slice_get m.symbols number ≡ Some name → slice_get m.sorts number ≡ Some sort → is_symbol (Some sort) ≡ true → item_name m sort ≡ Some name
  item_is number name symbol.Unknown there at is = absurd cc
  item_is number name (symbol.Global g) there at is =
      let x = names.named_globals number g at in name_of_item (λ (x : Global). x.symbol) m.symbols m.globals g x.0 name x.1 (ap (name_at m.symbols) x.2 ∙ name_here m.symbols number name there)
  item_is number name (symbol.Declared d) there at is =
      let x = names.named_declares number d at in name_of_item (λ (x : Declare). x.symbol) m.symbols m.declares d x.0 name x.1 (ap (name_at m.symbols) x.2 ∙ name_here m.symbols number name there)
  item_is number name (symbol.Defined f) there at is =
      let x = names.named_functions number f at in name_of_item (λ (x : Function). x.symbol) m.symbols m.functions f x.0 name x.1 (ap (name_at m.symbols) x.2 ∙ name_here m.symbols number name there)

  pub item_meant : (name : Text) (sort : SymbolSort) → symbol_in m name ≡ Some sort → is_symbol (Some sort) ≡ true → item_name m sort ≡ Some name
  item_meant name sort e is = by (place_of name m.symbols) refl e where
    by : (place : Option ℕ) → place_of name m.symbols ≡ place → option_and_then (slice_get m.sorts) place ≡ Some sort → item_name m sort ≡ Some name
    by None at e = absurd cc
    by (Some number) at e = item_is number name sort (place_is_there name m.symbols number at) e is

  -- the same of structs
  pub means_struct : (name : Text) (layout : ℕ) → slice_get (defined_structs m) layout ≡ Some name → struct_in m name ≡ Some (Some layout)
  means_struct name layout e =
      let x = named_at (λ (x : StructType). x.name) m.struct_names m.structs layout name e in
      let at = names.structs layout x.0 x.1 in
      let there = get_some m.struct_names x.0.name (names.layouts layout x.0.name at).1 in
      let same : there.0 ≡ name = sym (name_here m.struct_names x.0.name there.0 there.1) ∙ x.2 in
      let place = (names.struct_names x.0.name there.0 there.1).1 in
      ap (λ (t : Text). option_and_then (slice_get m.struct_of) (place_of t m.struct_names)) (sym same) ∙ ap (option_and_then (slice_get m.struct_of)) place ∙ at

-- ---- a state of reading

-- the items of a state are the first ones at the end
pub record First (i e : Input) : Type 0 where
  pub globals : Begins i.globals e.globals
  pub declares : Begins i.declares e.declares
  pub functions : Begins i.functions e.functions
  pub names : Begins i.symbols.names e.symbols.names

module _ (i e : Input) (here : Stands no_one i) (first : First i e) where
  -- what a name means so far has that name at the end
  owned_name : {A : Type 0} (number : A → ℕ) (xs ys : List A) (g k : ℕ) (name : Text) → Begins xs ys → slice_get (map number xs ++ []) g ≡ Some k → slice_get i.symbols.names k ≡ Some name
      → slice_get (map (λ y. name_at e.symbols.names (number y)) ys) g ≡ Some name
  owned_name number xs ys g k name b own there =
      let x = owned_at number xs g k own in
      let at = stays xs ys g x.0 b x.1 in
      let later = stays i.symbols.names e.symbols.names k name first.names there in
      name_of_item number e.symbols.names ys g x.0 name at (ap (name_at e.symbols.names) x.2 ∙ name_here e.symbols.names k name later)

  so_far : (k : ℕ) (name : Text) (sort : SymbolSort) → slice_get i.symbols.names k ≡ Some name → OwnsSymbol (symbols_of no_one i) sort k → item_name (module_of e) sort ≡ Some name
  so_far k name symbol.Unknown there own = absurd own
  so_far k name (symbol.Global g) there own = owned_name (λ (x : Global). x.symbol) i.globals e.globals g k name first.globals own there
  so_far k name (symbol.Declared d) there own = owned_name (λ (x : Declare). x.symbol) i.declares e.declares d k name first.declares own there
  so_far k name (symbol.Defined f) there own = owned_name (λ (x : Function). x.symbol) i.functions e.functions f k name first.functions own there

  -- what a name means so far
  pub meant_at : (k : ℕ) (name : Text) (sort : SymbolSort) → slice_get i.symbols.names k ≡ Some name → slice_get i.symbols.sorts k ≡ Some sort → is_symbol (Some sort) ≡ true
      → OwnsSymbol (symbols_of no_one i) sort k × (item_name (module_of e) sort ≡ Some name)
  meant_at k name sort there at is = elim (here.symbols.owned k sort at) [
    | inl none ↦ absurd (let bad = sym (ap (λ (x : SymbolSort). is_symbol (Some x)) none) ∙ is in cc)
    | inr own ↦ (own, so_far k name sort there own)
  ]

  -- an item that is there is what its name means
  item_here : {A : Type 0} (number : A → ℕ) (build : ℕ → SymbolSort) (xs ys : List A) → ((g k : ℕ) → slice_get (map number xs ++ []) g ≡ Some k → OwnsSymbol (symbols_of no_one i) (build g) k)
      → Begins xs ys → (g : ℕ) (name : Text) → g < length xs → slice_get (map (λ y. name_at e.symbols.names (number y)) ys) g ≡ Some name → sort_named name i.symbols ≡ Some (build g)
  item_here number build xs ys owns b g name less e0 =
      let x = get_some xs g less in
      let y = named_at number e.symbols.names ys g name e0 in
      let one : Some x.0 ≡ Some y.0 = sym (stays xs ys g x.0 b x.1) ∙ y.1 in
      let same : x.0 ≡ y.0 = cc in
      let k = number x.0 in
      let at = here.symbols.known k (build g) (owns g k (owns_at number xs g x.0 x.1)) in
      let within = slice_get_within i.symbols.sorts k (build g) at in
      let counted = here.symbols.same in
      let there = get_some i.symbols.names k (omega (arith, within, counted)) in
      let later = stays i.symbols.names e.symbols.names k there.0 first.names there.1 in
      let is : there.0 ≡ name = sym (name_here e.symbols.names k there.0 later) ∙ ap (λ (z : _). name_at e.symbols.names (number z)) same ∙ y.2 in
      let place = here.symbols.places k there.0 there.1 in
      ap (λ (t : Text). option_and_then (slice_get i.symbols.sorts) (place_of t i.symbols.names)) (sym is) ∙ ap (option_and_then (slice_get i.symbols.sorts)) place ∙ at

  -- so each item that stands before is what its name means so far
  pub global_here : (g : ℕ) (name : Text) → g < length i.globals → slice_get (defined_globals (module_of e)) g ≡ Some name → sort_named name i.symbols ≡ Some (symbol.Global g)
  global_here = item_here (λ (x : Global). x.symbol) symbol.Global i.globals e.globals (λ g k own. own) first.globals

  pub declare_here : (d : ℕ) (name : Text) → d < length i.declares → slice_get (declared_functions (module_of e)) d ≡ Some name → sort_named name i.symbols ≡ Some (symbol.Declared d)
  declare_here = item_here (λ (x : Declare). x.symbol) symbol.Declared i.declares e.declares (λ g k own. own) first.declares

  pub function_here : (f : ℕ) (name : Text) → f < length i.functions → slice_get (defined_functions (module_of e)) f ≡ Some name → sort_named name i.symbols ≡ Some (symbol.Defined f)
  function_here = item_here (λ (x : Function). x.symbol) symbol.Defined i.functions e.functions (λ g k own. own) first.functions

-- ---- both

no_function : (o : Option SymbolSort) → is_symbol o ≡ false → (is_function o ≡ false) × (is_declared o ≡ false)
no_function None e = (refl, refl)
no_function (Some symbol.Unknown) e = (refl, refl)
no_function (Some (symbol.Global g)) e = absurd cc
no_function (Some (symbol.Declared d)) e = absurd cc
no_function (Some (symbol.Defined f)) e = absurd cc

-- it is known what a name means, or it means nothing
known : (o : Option SymbolSort) → ((sort : SymbolSort) × (o ≡ Some sort) × (is_symbol (Some sort) ≡ true)) ⊎ (is_symbol o ≡ false)
known None = inr refl
known (Some symbol.Unknown) = inr refl
known (Some (symbol.Global g)) = inl (symbol.Global g, refl, refl)
known (Some (symbol.Declared d)) = inl (symbol.Declared d, refl, refl)
known (Some (symbol.Defined f)) = inl (symbol.Defined f, refl, refl)

-- two meanings are alike where each is the other one, if it is one
pub alike_by : (o p : Option SymbolSort) → ((sort : SymbolSort) → o ≡ Some sort → is_symbol (Some sort) ≡ true → p ≡ Some sort) → ((sort : SymbolSort) → p ≡ Some sort → is_symbol (Some sort) ≡ true → o ≡ Some sort)
    → Tests o p
alike_by o p there back = elim (known o) [
  | inl x ↦ tests_same o p (x.1 ∙ sym (there x.0 x.1 x.2))
  | inr none ↦ elim (known p) [
    | inl y ↦ tests_same o p (back y.0 y.1 y.2 ∙ sym y.1)
    | inr neither ↦
        let a = no_function o none in
        let b = no_function p neither in
        (none ∙ sym neither, a.0 ∙ sym b.0, a.1 ∙ sym b.1)
  ]
]

-- what stands before a function: all globals and declared functions, and the functions of lower numbers
abbrev pub IsEarlier : (func : ℕ) → SymbolSort → Type 0
IsEarlier func (symbol.Defined f) = f < func
IsEarlier func _ = Unit {0}

earlier_sort : (func : ℕ) (sort : SymbolSort) → IsEarlier func sort → sort_before func sort ≡ sort
earlier_sort func symbol.Unknown h = refl
earlier_sort func (symbol.Global g) h = refl
earlier_sort func (symbol.Declared d) h = refl
earlier_sort func (symbol.Defined f) h = let less : nat_lt f func ≡ true = grind (arith, nat_tests) in ap (λ (b : Bool). if b then symbol.Defined f else symbol.Unknown) less

-- what is meant before the function is meant in the module
before_is : (func : ℕ) (x : Option SymbolSort) (sort : SymbolSort) → option_map (sort_before func) x ≡ Some sort → is_symbol (Some sort) ≡ true → (x ≡ Some sort) × IsEarlier func sort
before_is func None sort e is = absurd cc
before_is func (Some symbol.Unknown) sort e is = absurd (let same : symbol.Unknown ≡ sort = cc in let bad = ap (λ (x : SymbolSort). is_symbol (Some x)) same ∙ is in cc)
before_is func (Some (symbol.Global g)) sort e is = (e, let same : symbol.Global g ≡ sort = cc in subst (IsEarlier func) same tt)
before_is func (Some (symbol.Declared d)) sort e is = (e, let same : symbol.Declared d ≡ sort = cc in subst (IsEarlier func) same tt)
before_is func (Some (symbol.Defined f)) sort e is = by (nat_lt f func) refl e where
  by : (b : Bool) → nat_lt f func ≡ b → Some (if b then symbol.Defined f else symbol.Unknown) ≡ Some sort → (Some (symbol.Defined f) ≡ Some sort) × IsEarlier func sort
  by true less e = (e, let same : symbol.Defined f ≡ sort = cc in subst (IsEarlier func) same (grind (arith, nat_tests)))
  by false less e = absurd (let same : symbol.Unknown ≡ sort = cc in let bad = ap (λ (x : SymbolSort). is_symbol (Some x)) same ∙ is in cc)

mapped_named : (func : ℕ) (name : Text) (m : Module) → sort_named name (symbols_before m func) ≡ option_map (sort_before func) (symbol_in m name)
mapped_named func name m = by (place_of name m.symbols) where
  by : (place : Option ℕ) → option_and_then (slice_get (sorts_before func m.sorts)) place ≡ option_map (sort_before func) (option_and_then (slice_get m.sorts) place)
  by None = refl
  by (Some n) = slice_get-map (sort_before func) m.sorts n

module _ (m : Module) (names : HasModuleNames m) (i e : Input) (here : Stands no_one i) (first : First i e) (same : HaveSameNames m (module_of e)) (func : ℕ)
    (globals : length i.globals ≡ length e.globals) (declares : length i.declares ≡ length e.declares) (functions : length i.functions ≡ func) where
  item_later : (sort : SymbolSort) (name : Text) → item_name m sort ≡ Some name → IsEarlier func sort → sort_named name i.symbols ≡ Some sort
  item_later symbol.Unknown name is h = absurd cc
  item_later (symbol.Global g) name is h =
      let there = ap (λ (l : List Text). slice_get l g) same.globals ∙ is in
      let less = slice_get_within (defined_globals (module_of e)) g name there in
      let counted = length-map e.globals (λ (x : Global). name_at e.symbols.names x.symbol) in
      global_here i e here first g name (omega (arith, less, counted, globals)) there
  item_later (symbol.Declared d) name is h =
      let there = ap (λ (l : List Text). slice_get l d) same.declares ∙ is in
      let less = slice_get_within (declared_functions (module_of e)) d name there in
      let counted = length-map e.declares (λ (x : Declare). name_at e.symbols.names x.symbol) in
      declare_here i e here first d name (omega (arith, less, counted, declares)) there
  item_later (symbol.Defined f) name is h = function_here i e here first f name (omega (arith, h, functions)) (ap (λ (l : List Text). slice_get l f) same.functions ∙ is)

  owned_earlier : (sort : SymbolSort) (k : ℕ) → OwnsSymbol (symbols_of no_one i) sort k → IsEarlier func sort
  owned_earlier symbol.Unknown k own = tt
  owned_earlier (symbol.Global g) k own = tt
  owned_earlier (symbol.Declared d) k own = tt
  owned_earlier (symbol.Defined f) k own =
      let x = owned_at (λ (x : Function). x.symbol) i.functions f k own in
      let less = slice_get_within i.functions f x.0 x.1 in
      omega (arith, less, functions)

  later_means : (name : Text) (sort : SymbolSort) → sort_named name i.symbols ≡ Some sort → is_symbol (Some sort) ≡ true → sort_named name (symbols_before m func) ≡ Some sort
  later_means name sort at is = by (place_of name i.symbols.names) refl at where
    by : (place : Option ℕ) → place_of name i.symbols.names ≡ place → option_and_then (slice_get i.symbols.sorts) place ≡ Some sort → sort_named name (symbols_before m func) ≡ Some sort
    by None found at = absurd cc
    by (Some k) found at =
        let own = meant_at i e here first k name sort (place_is_there name i.symbols.names k found) at is in
        let item = sym (same_item m (module_of e) same sort) ∙ own.1 in
        mapped_named func name m ∙ ap (option_map (sort_before func)) (means_item m names name sort item) ∙ ap Some (earlier_sort func sort (owned_earlier sort k own.0))

  earlier_means : (name : Text) (sort : SymbolSort) → sort_named name (symbols_before m func) ≡ Some sort → is_symbol (Some sort) ≡ true → sort_named name i.symbols ≡ Some sort
  earlier_means name sort at is =
      let x = before_is func (symbol_in m name) sort (sym (mapped_named func name m) ∙ at) is in
      item_later sort name (item_meant m names name sort x.0 is) x.1

  -- each global name is so far what it is in the module before the function
  pub mean_alike : MeanAlike i.symbols (symbols_before m func)
  mean_alike name = alike_by (sort_named name i.symbols) (sort_named name (symbols_before m func)) (later_means name) (earlier_means name)

-- ---- names that are used

struct_known : (x : Option (Option ℕ)) → is_struct x ≡ true → (layout : ℕ) × (x ≡ Some (Some layout))
struct_known None e = absurd cc
struct_known (Some None) e = absurd cc
struct_known (Some (Some layout)) e = (layout, refl)

-- each name that is used up to a state means in the module what it is used for, where reading goes on to an end with the same names
module _ (m : Module) (names : HasModuleNames m) (o e : Input) (leads : Leads e o) (same : HaveSameNames m (module_of e)) where
  itself : First e e
  itself = record { globals = begins_itself e.globals; declares = begins_itself e.declares; functions = begins_itself e.functions; names = begins_itself e.symbols.names }

  pub are_right : AreRight m o
  are_right = record {
    symbols = λ name u there place.
        let is = leads.symbol_uses u there in
        let x = used_known e.wide u.is_call (slice_get e.symbols.sorts u.symbol) (name_at e.symbols.names u.symbol) is in
        let at = stays o.symbols.names e.symbols.names u.symbol name leads.symbols (place_is_there name o.symbols.names u.symbol place) in
        let own = meant_at e e leads.end itself u.symbol name x.0 at x.1 x.2 in
        let item = sym (same_item m (module_of e) same x.0) ∙ own.1 in
        ap₂ (λ (wide : Bool) (s : Option SymbolSort). may_use wide u.is_call s name) leads.forms (means_item m names name x.0 item ∙ sym x.1)
        ∙ ap (may_use e.wide u.is_call (slice_get e.symbols.sorts u.symbol)) (sym (name_here e.symbols.names u.symbol name at)) ∙ is;
    structs = λ name u there place.
        let is = leads.struct_uses u there in
        let x = struct_known (slice_get e.struct_names.sorts u.name) is in
        let at = stays o.struct_names.names e.struct_names.names u.name name leads.struct_names (place_is_there name o.struct_names.names u.name place) in
        elim (leads.end.structs.owned u.name (Some x.0) x.1) [
          | inl none ↦ absurd (let bad : Some x.0 ≡ None = none in cc)
          | inr own ↦
              let y = owned_at (λ (z : StructType). z.name) e.structs x.0 u.name own in
              let item = name_of_item (λ (z : StructType). z.name) e.struct_names.names e.structs x.0 y.0 name y.1 (ap (name_at e.struct_names.names) y.2 ∙ name_here e.struct_names.names u.name name at) in
              ap is_struct (means_struct m names name x.0 (sym (ap (λ (l : List Text). slice_get l x.0) same.structs) ∙ item))
        ];
  }
