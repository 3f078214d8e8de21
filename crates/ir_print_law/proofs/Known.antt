-- What is known of the names of a module, at each place of its printed text as it is read again.
use Rattle.std.proofs.Common.{◌≡◌, ℕ, Bool, true, false, not, List, [], ◌∷◌, ◌++◌, Option, None, Some, refl, sym, ap, ◌∙◌, inl, inr, ◌⊎◌}
use Rattle.std.specs.Prelude.{drop}
use Rattle.std.specs.List.{AllByRecursion}
use Rattle.std.specs.Str.{bytes_eq}
use Rattle.std.proofs.lemmas.Slice.Eq.{bytes_eq-Decides}
use Rattle.lemmas.specs.All.{all_join, all_so}
use Rattle.lemmas.specs.Lists.{IsIn}
use Rattle.ir_ast.specs.Names.{place_of, number_of, numbered}
use Rattle.ir_ast.specs.declared.function.Function.{Function}
use Rattle.ir_ast.specs.declared.function.LocalSort.{LocalSort}
use Rattle.ir_ast.specs.declared.function.LocalSort.TheVariants as local
use Rattle.ir_ast.specs.declared.items_of_module.Declare.{Declare}
use Rattle.ir_ast.specs.declared.items_of_module.Global.{Global}
use Rattle.ir_ast.specs.declared.items_of_module.StructType.{StructType}
use Rattle.ir_ast.specs.declared.items_of_module.SymbolSort.{SymbolSort}
use Rattle.ir_ast.specs.declared.items_of_module.SymbolSort.TheVariants as symbol
use Rattle.ir_ast.specs.declared.module.Module.{Module}
use Rattle.ir_tokens.specs.Bytes.{Text}
use Rattle.ir_forms.specs.declared.table.Table.{Table}
use Rattle.ir_forms.specs.declared.uses.LocalUse.{LocalUse}
use Rattle.ir_forms.specs.declared.uses.StructUse.{StructUse}
use Rattle.ir_forms.specs.declared.uses.SymbolUse.{SymbolUse}
use Rattle.ir_forms.specs.declared.uses.Wanted.{Wanted}
use Rattle.ir_forms.specs.declared.uses.Wanted.TheVariants as wants
use Rattle.ir_forms.specs.Table.{mentioned, defined}
use Rattle.ir_forms.specs.declared.input.Input.{Input}
use Rattle.ir_forms.specs.Names.{is_symbol, is_function, is_local, is_wanted}
use Rattle.ir_forms.specs.Names as names
use Rattle.ir_text.specs.Late.{is_right}
use Rattle.ir_text.specs.Late as late
use Rattle.ir_forms.specs.Intrinsics.{is_left_out}
use Rattle.name_text.specs.Readings.{AreBytes}
use Rattle.ir_print_law.specs.Readings.{IsKey}
use Rattle.ir_print_law.specs.Definitions.{IsUsed, defined_structs, defined_globals, declared_functions, used_keys}
use Rattle.ir_print_law.proofs.State.{Invariant}
use Rattle.ir_print_law.proofs.Used.{is_defined, used_stands}
use Rattle.ir_print_law.proofs.Named.{IsEven, sort_at, sort_kept, sort_defined, sort_defined_other, even_mentioned, numbered_stays, place_numbered}

-- ---- lists

pub same_or_not : (x y : Text) → (x ≡ y) ⊎ (x ≡ y → ⊥)
same_or_not x y = by (bytes_eq x y) refl where
  by : (b : Bool) → bytes_eq x y ≡ b → (x ≡ y) ⊎ (x ≡ y → ⊥)
  by true e = inl ((bytes_eq-Decides x y).0 e)
  by false e = inr (λ same. let t = (bytes_eq-Decides x y).1 same in absurd (let h = sym e ∙ t in cc))

-- ---- what is known of names

-- the sort of each name of which this holds passes the test
abbrev pub Tells : {S : Type 0} → (Fact : Text → Type 0) → (test : Option S → Bool) → Table S → Type 0
Tells Fact test t = (name : Text) → Fact name → test (sort_at t name) ≡ true

pub tells_mentioned : {S : Type 0} (Fact : Text → Type 0) (test : Option S → Bool) (t : Table S) (k : Text) (nothing : S) → IsEven t → test None ≡ test (Some nothing) → Tells Fact test t
    → Tells Fact test (mentioned k nothing t)
tells_mentioned Fact test t k nothing even same h = λ name fact. sort_kept t k name nothing test even same ∙ h name fact

pub tells_defined : {S : Type 0} (Fact Further : Text → Type 0) (test : Option S → Bool) (t : Table S) (k : Text) (n : ℕ) (s : S) → IsEven t → place_of k t.names ≡ Some n
    → ((name : Text) → Further name → name ≡ k → test (Some s) ≡ true) → ((name : Text) → Further name → (name ≡ k → ⊥) → Fact name)
    → Tells Fact test t → Tells Further test (defined n s t)
tells_defined Fact Further test t k n s even place here before h = λ name further. elim (same_or_not name k) [
  | inl e ↦ ap (λ (x : Text). test (sort_at (defined n s t) x)) e ∙ ap test (sort_defined t k n s even place) ∙ here name further e
  | inr ne ↦ ap test (sort_defined_other t k name n s ne place) ∙ h name (before name further ne)
]

-- ---- how far reading has come

-- what was defined so far
pub record Far : Type 0 where
  pub structs : List Text
  -- the global names, of which some are globals and some are functions
  pub symbols : List Text
  pub globals : List Text
  pub functions : List Text
  -- the local names, of which some are values and some are blocks
  pub seen : List Text
  pub values : List Text
  pub labels : List Text
  -- the value whose type is read just now, with its number
  pub pending : List (Text × ℕ)
  pub count : ℕ
  pub unnamed : ℕ
  -- the items so far
  pub struct_types : List StructType
  pub global_items : List Global
  pub declares : List Declare
  pub defines : List Function

abbrev pub known_keys : (values labels : List Text) → Wanted → List Text
known_keys values labels wants.Value = values
known_keys values labels wants.Block = labels
known_keys values labels wants.Target = drop 1 labels

-- a use of a name that has this number
abbrev pub IsStructUse : Module → List Text → StructUse → Type 0
IsStructUse m names u = (name : Text) × IsIn name (defined_structs m) × (place_of name names ≡ Some u.name)

abbrev pub IsSymbolUse : Module → List Text → SymbolUse → Type 0
IsSymbolUse m names u = (name : Text) × IsUsed m u.is_call name × (place_of name names ≡ Some u.symbol)

abbrev pub IsLocalUse : Function → List Text → LocalUse → Type 0
IsLocalUse f names u = (key : Text) × IsIn key (used_keys f u.wanted) × (place_of key names ≡ Some u.value)

-- a name that has this number
abbrev pub HasNumber : List Text → Text × ℕ → Type 0
HasNumber names p = place_of p.0 names ≡ Some p.1

pub record StructsKnown (m : Module) (structs : List Text) (t : Table (Option ℕ)) (uses : List StructUse) : Type 0 where
  pub even : IsEven t
  pub known : Tells (λ x. IsIn x structs) late.is_struct t
  pub new : Tells (λ name. IsIn name structs → ⊥) (λ s. not (names.is_struct s)) t
  pub uses_so : AllByRecursion (IsStructUse m t.names) uses

pub record SymbolsKnown (m : Module) (symbols globals functions : List Text) (t : Table SymbolSort) (uses : List SymbolUse) : Type 0 where
  pub even : IsEven t
  pub are_globals : Tells (λ x. IsIn x globals) (is_right false) t
  pub are_functions : Tells (λ x. IsIn x functions) (is_right true) t
  pub new : Tells (λ name. IsIn name symbols → ⊥) (λ s. not (is_symbol s)) t
  pub no_function : Tells (λ x. IsIn x (defined_globals m)) (λ s. not (is_function s)) t
  pub no_defined : Tells (λ x. IsIn x (declared_functions m)) (λ s. not (is_defined s)) t
  pub uses_so : AllByRecursion (IsSymbolUse m t.names) uses

pub record LocalsKnown (f : Function) (seen values labels : List Text) (pending : List (Text × ℕ)) (t : Table LocalSort) (uses : List LocalUse) : Type 0 where
  pub even : IsEven t
  pub known : (wanted : Wanted) → Tells (λ x. IsIn x (known_keys values labels wanted)) (is_wanted wanted) t
  pub new : Tells (λ key. IsIn key seen → ⊥) (λ s. not (is_local s)) t
  pub waits : AllByRecursion (HasNumber t.names) pending
  pub uses_so : AllByRecursion (IsLocalUse f t.names) uses

-- the counts and the items
pub record Counted (far : Far) (values unnamed : ℕ) (missing : Option ℕ) (structs : List StructType) (globals : List Global) (declares : List Declare) (functions : List Function) : Type 0 where
  pub values_are : values ≡ far.count
  pub unnamed_is : unnamed ≡ far.unnamed
  pub none_missing : missing ≡ None
  pub structs_are : structs ≡ far.struct_types
  pub globals_are : globals ≡ far.global_items
  pub declares_are : declares ≡ far.declares
  pub functions_are : functions ≡ far.defines

-- what holds of the state so far
abbrev pub Holds : Module → Function → Far → Input → Type 0
Holds m f far i =
    StructsKnown m far.structs i.struct_names i.struct_uses
    × SymbolsKnown m far.symbols far.globals far.functions i.symbols i.symbol_uses
    × LocalsKnown f far.seen far.values far.labels far.pending i.locals i.local_uses
    × Counted far i.values i.unnamed i.missing i.structs i.globals i.declares i.functions

-- ---- a mention of a name

struct_test : names.is_struct None ≡ names.is_struct (Some None)
struct_test = refl

pub structs_mentioned : (m : Module) (structs : List Text) (t : Table (Option ℕ)) (uses : List StructUse) (k : Text) → StructsKnown m structs t uses → StructsKnown m structs (mentioned k None t) uses
structs_mentioned m structs t uses k h = record {
  even = even_mentioned t k None h.even;
  known = tells_mentioned (λ x. IsIn x structs) late.is_struct t k None h.even refl h.known;
  new = tells_mentioned (λ name. IsIn name structs → ⊥) (λ s. not (names.is_struct s)) t k None h.even refl h.new;
  uses_so = all_so (IsStructUse m t.names) (IsStructUse m (numbered k t.names)) uses (λ u x. (x.0, x.1, numbered_stays k x.0 t.names u.name x.2)) h.uses_so;
}

pub struct_used : (m : Module) (structs : List Text) (t : Table (Option ℕ)) (uses : List StructUse) (k : Text) (start : ℕ) → IsIn k (defined_structs m) → StructsKnown m structs t uses
    → StructsKnown m structs (mentioned k None t) (uses ++ record { name = number_of k t.names; start = start } ∷ [])
struct_used m structs t uses k start is_in h =
    let g = structs_mentioned m structs t uses k h in
    record {
      even = g.even;
      known = g.known;
      new = g.new;
      uses_so = all_join (IsStructUse m (numbered k t.names)) uses ((record { name = number_of k t.names; start = start }) ∷ []) g.uses_so ((k, is_in, place_numbered k t.names), tt);
    }

pub symbols_mentioned : (m : Module) (symbols globals functions : List Text) (t : Table SymbolSort) (uses : List SymbolUse) (k : Text) → SymbolsKnown m symbols globals functions t uses
    → SymbolsKnown m symbols globals functions (mentioned k symbol.Unknown t) uses
symbols_mentioned m symbols globals functions t uses k h = record {
  even = even_mentioned t k symbol.Unknown h.even;
  are_globals = tells_mentioned (λ x. IsIn x globals) (is_right false) t k symbol.Unknown h.even refl h.are_globals;
  are_functions = tells_mentioned (λ x. IsIn x functions) (is_right true) t k symbol.Unknown h.even refl h.are_functions;
  new = tells_mentioned (λ name. IsIn name symbols → ⊥) (λ s. not (is_symbol s)) t k symbol.Unknown h.even refl h.new;
  no_function = tells_mentioned (λ x. IsIn x (defined_globals m)) (λ s. not (is_function s)) t k symbol.Unknown h.even refl h.no_function;
  no_defined = tells_mentioned (λ x. IsIn x (declared_functions m)) (λ s. not (is_defined s)) t k symbol.Unknown h.even refl h.no_defined;
  uses_so = all_so (IsSymbolUse m t.names) (IsSymbolUse m (numbered k t.names)) uses (λ u x. (x.0, x.1, numbered_stays k x.0 t.names u.symbol x.2)) h.uses_so;
}

pub symbol_used : (m : Module) (symbols globals functions : List Text) (t : Table SymbolSort) (uses : List SymbolUse) (k : Text) (is_call : Bool) (start size : ℕ) → IsUsed m is_call k
    → SymbolsKnown m symbols globals functions t uses
    → SymbolsKnown m symbols globals functions (mentioned k symbol.Unknown t) (uses ++ record { symbol = number_of k t.names; is_call = is_call; start = start; length = size } ∷ [])
symbol_used m symbols globals functions t uses k is_call start size is_in h =
    let g = symbols_mentioned m symbols globals functions t uses k h in
    record {
      even = g.even;
      are_globals = g.are_globals;
      are_functions = g.are_functions;
      new = g.new;
      no_function = g.no_function;
      no_defined = g.no_defined;
      uses_so = all_join (IsSymbolUse m (numbered k t.names)) uses ((record { symbol = number_of k t.names; is_call = is_call; start = start; length = size }) ∷ []) g.uses_so ((k, is_in, place_numbered k t.names), tt);
    }

unknown_same : (wanted : Wanted) → is_wanted wanted None ≡ is_wanted wanted (Some local.Unknown)
unknown_same wanted = refl

pub locals_mentioned : (f : Function) (seen values labels : List Text) (pending : List (Text × ℕ)) (t : Table LocalSort) (uses : List LocalUse) (k : Text) → LocalsKnown f seen values labels pending t uses
    → LocalsKnown f seen values labels pending (mentioned k local.Unknown t) uses
locals_mentioned f seen values labels pending t uses k h = record {
  even = even_mentioned t k local.Unknown h.even;
  known = λ wanted. tells_mentioned (λ x. IsIn x (known_keys values labels wanted)) (is_wanted wanted) t k local.Unknown h.even (unknown_same wanted) (h.known wanted);
  new = tells_mentioned (λ key. IsIn key seen → ⊥) (λ s. not (is_local s)) t k local.Unknown h.even refl h.new;
  waits = all_so (HasNumber t.names) (HasNumber (numbered k t.names)) pending (λ p e. numbered_stays k p.0 t.names p.1 e) h.waits;
  uses_so = all_so (IsLocalUse f t.names) (IsLocalUse f (numbered k t.names)) uses (λ u x. (x.0, x.1, numbered_stays k x.0 t.names u.value x.2)) h.uses_so;
}

pub local_used : (f : Function) (seen values labels : List Text) (pending : List (Text × ℕ)) (t : Table LocalSort) (uses : List LocalUse) (k : Text) (wanted : Wanted) (start : ℕ) → IsIn k (used_keys f wanted)
    → LocalsKnown f seen values labels pending t uses
    → LocalsKnown f seen values labels pending (mentioned k local.Unknown t) (uses ++ record { value = number_of k t.names; wanted = wanted; start = start } ∷ [])
local_used f seen values labels pending t uses k wanted start is_in h =
    let g = locals_mentioned f seen values labels pending t uses k h in
    record {
      even = g.even;
      known = g.known;
      new = g.new;
      waits = g.waits;
      uses_so = all_join (IsLocalUse f (numbered k t.names)) uses ((record { value = number_of k t.names; wanted = wanted; start = start }) ∷ []) g.uses_so ((k, is_in, place_numbered k t.names), tt);
    }

-- ---- no type, operand or operation breaks it

-- what is used is named as it is read
pub record AreNamed (m : Module) (f : Function) : Type 0 where
  pub is_key : (wanted : Wanted) (key : Text) → IsIn key (used_keys f wanted) → IsKey key
  pub is_symbol : (is_call : Bool) (name : Text) → IsUsed m is_call name → AreBytes name × (is_left_out m.wide name ≡ false)

abbrev pub known : (m : Module) (f : Function) → AreNamed m f → (far : Far) → Invariant m f
known m f named far = record {
  is_key = named.is_key;
  is_symbol = named.is_symbol;
  Holds = Holds m f far;
  on_token = λ i h. h;
  on_type = λ i t h. h;
  on_struct = λ i is_in h. (struct_used m far.structs i.struct_names i.struct_uses _ _ is_in h.0, h.1, h.2, h.3);
  on_symbol = λ i is_call is_in h. (h.0, symbol_used m far.symbols far.globals far.functions i.symbols i.symbol_uses _ is_call _ _ is_in h.1, h.2, h.3);
  on_local = λ i wanted is_in h. (h.0, h.1, local_used f far.seen far.values far.labels far.pending i.locals i.local_uses _ wanted _ is_in h.2, h.3);
  may_stand = λ i name used h. used_stands m (sort_at i.symbols name) name used (h.1.no_function name) (h.1.no_defined name);
}
