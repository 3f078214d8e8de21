-- What is known of a state while a module is read: of what was read before it, and of where reading ends.
use Rattle.std.specs.Prelude.{◌≡◌, ◌<◌, ℕ, Bool, Option, List, [], ◌∷◌, ◌++◌, length}
use Rattle.lemmas.specs.Lists.{IsIn}
use Rattle.ir_ast.specs.declared.function.Function.{Function}
use Rattle.ir_ast.specs.declared.function.LocalSort.{LocalSort}
use Rattle.ir_ast.specs.declared.function.LocalSort.TheVariants as local
use Rattle.ir_ast.specs.declared.ir_type.IrType.{IrType}
use Rattle.ir_ast.specs.declared.module.Module.{Module}
use Rattle.ir_tokens.specs.declared.token.Kind.TheVariants as k
use Rattle.ir_forms.specs.Cursor.{kind, spelled, local_key}
use Rattle.ir_forms.specs.declared.fault.Fault.{Fault}
use Rattle.ir_forms.specs.declared.uses.Wanted.{Wanted}
use Rattle.ir_forms.specs.declared.input.Input.{Input}
use Rattle.ir_forms.specs.Input.{advanced}
use Rattle.ir_forms.specs.Names.{with_struct_use, with_symbol_use, with_local_use, with_sort, new_value, numbered_value, unnamed_value, new_label, numbered_label, unnamed_label}
use Rattle.ir_forms.specs.Written.{with_type_interned}
use Rattle.name_text.specs.Readings.{AreBytes}
use Rattle.ir_print_law.specs.Definitions.{defined_structs, used_keys, IsUsed}
use Rattle.ir_print_law.proofs.Forms.{Keeps, Any}
use Rattle.ir_print_law.proofs.OneKind.{IsNext}
use Rattle.ir_print_law.proofs.Tables.{Begins, AreOrdered}

-- the state where this is lost
abbrev pub with_lost : Option Fault → Input → Input
with_lost lost i = record i { lost = lost }

-- `Fore` holds after a form that names nothing new where it holds before it. `Back` says that reading goes on to this module: where it holds after such a form, it holds before it.
pub record Reading (m : Module) : Type 1 where
  pub Fore : Input → Type 0
  pub Back : Input → Type 0
  pub ordered : (i : Input) → Back i → AreOrdered m.types
  pub bytes : (i : Input) → Fore i → Back i → AreBytes (spelled i.cursor)
  pub forms : (i : Input) → Back i → i.wide ≡ m.wide
  pub has_types : (i : Input) → Back i → Begins i.types m.types
  pub has_structs : (i : Input) → Back i → Begins i.struct_names.names m.struct_names
  pub has_symbols : (i : Input) → Back i → Begins i.symbols.names m.symbols
  pub on_token : (i : Input) → Fore i → Fore (advanced i)
  pub from_token : (i : Input) → Back (advanced i) → Back i
  pub on_type : (i : Input) (t : IrType) → IsNext i.types t → Fore i → Fore (with_type_interned t i)
  pub from_type : (i : Input) (t : IrType) → Back (with_type_interned t i) → Back i
  pub on_struct : (i : Input) → Fore i → Fore (with_struct_use i)
  pub from_struct : (i : Input) → Back (with_struct_use i) → Back i
  pub struct_is : (i : Input) → Back (with_struct_use i) → IsIn (spelled i.cursor) (defined_structs m)
  pub on_symbol : (i : Input) (is_call : Bool) → Fore i → Fore (with_symbol_use is_call i)
  pub from_symbol : (i : Input) (is_call : Bool) → Back (with_symbol_use is_call i) → Back i
  pub symbol_is : (i : Input) (is_call : Bool) → Back (with_symbol_use is_call i) → IsUsed m is_call (spelled i.cursor)
  pub on_lost : (i : Input) (lost : Option Fault) → Fore i → Fore (with_lost lost i)
  pub from_lost : (i : Input) (lost : Option Fault) → Back (with_lost lost i) → Back i

-- The same within a function.
pub record Within (m : Module) (f : Function) : Type 1 where
  pub reading : Reading m
  pub has_locals : (i : Input) → reading.Back i → Begins i.locals.names f.locals
  pub on_local : (i : Input) (wanted : Wanted) → reading.Fore i → reading.Fore (with_local_use wanted i)
  pub from_local : (i : Input) (wanted : Wanted) → reading.Back (with_local_use wanted i) → reading.Back i
  pub local_is : (i : Input) (wanted : Wanted) → reading.Back (with_local_use wanted i) → IsIn (local_key i.cursor) (used_keys f wanted)

-- what a name means that is a value
abbrev pub IsValueSort : LocalSort → Type 0
IsValueSort (local.Value t) = Unit {0}
IsValueSort (local.Slot held) = Unit {0}
IsValueSort (local.Element block place) = Unit {0}
IsValueSort _ = ⊥

-- the same, where what a slot holds is one of this number of types
abbrev pub IsSortWithin : (count : ℕ) → LocalSort → Type 0
IsSortWithin count (local.Slot held) = held < count
IsSortWithin count sort = IsValueSort sort

-- the same of what is no slot
abbrev pub IsPlainSort : LocalSort → Type 0
IsPlainSort (local.Slot held) = ⊥
IsPlainSort sort = IsValueSort sort

pub value_sort : (count : ℕ) (sort : LocalSort) → IsSortWithin count sort → IsValueSort sort
value_sort count (local.Value t) is = tt
value_sort count (local.Slot held) is = tt
value_sort count (local.Element block place) is = tt
value_sort count local.Unknown is = absurd is
value_sort count (local.Block b) is = absurd is

pub plain_sort : (count : ℕ) (sort : LocalSort) → IsPlainSort sort → IsSortWithin count sort
plain_sort count (local.Value t) is = tt
plain_sort count (local.Element block place) is = tt
plain_sort count (local.Slot held) is = absurd is
plain_sort count local.Unknown is = absurd is
plain_sort count (local.Block b) is = absurd is

-- The same while a value with this number is named that has no type yet, and after that, where it has one.
pub record Naming (m : Module) (f : Function) (value : ℕ) : Type 1 where
  pub within : Within m f
  pub After : Input → Type 0
  pub on_value : (i : Input) (sort : LocalSort) → IsSortWithin (length i.types) sort → within.reading.Fore i → After (with_sort value sort i)
  pub from_value : (i : Input) (sort : LocalSort) → within.reading.Back (with_sort value sort i) → within.reading.Back i

-- The same for what holds before, and for what is known from after it.
pub record Kit (m : Module) (f : Function) (Fore Back : Input → Type 0) : Type 0 where
  pub ordered : (i : Input) → Back i → AreOrdered m.types
  pub bytes : (i : Input) → Fore i → Back i → AreBytes (spelled i.cursor)
  pub forms : (i : Input) → Back i → i.wide ≡ m.wide
  pub has_types : (i : Input) → Back i → Begins i.types m.types
  pub has_structs : (i : Input) → Back i → Begins i.struct_names.names m.struct_names
  pub has_symbols : (i : Input) → Back i → Begins i.symbols.names m.symbols
  pub has_locals : (i : Input) → Back i → Begins i.locals.names f.locals
  pub on_token : (i : Input) → Fore i → Fore (advanced i)
  pub from_token : (i : Input) → Back (advanced i) → Back i
  pub on_type : (i : Input) (t : IrType) → IsNext i.types t → Fore i → Fore (with_type_interned t i)
  pub from_type : (i : Input) (t : IrType) → Back (with_type_interned t i) → Back i
  pub on_struct : (i : Input) → Fore i → Fore (with_struct_use i)
  pub from_struct : (i : Input) → Back (with_struct_use i) → Back i
  pub struct_is : (i : Input) → Back (with_struct_use i) → IsIn (spelled i.cursor) (defined_structs m)
  pub on_symbol : (i : Input) (is_call : Bool) → Fore i → Fore (with_symbol_use is_call i)
  pub from_symbol : (i : Input) (is_call : Bool) → Back (with_symbol_use is_call i) → Back i
  pub symbol_is : (i : Input) (is_call : Bool) → Back (with_symbol_use is_call i) → IsUsed m is_call (spelled i.cursor)
  pub on_lost : (i : Input) (lost : Option Fault) → Fore i → Fore (with_lost lost i)
  pub from_lost : (i : Input) (lost : Option Fault) → Back (with_lost lost i) → Back i
  pub on_local : (i : Input) (wanted : Wanted) → Fore i → Fore (with_local_use wanted i)
  pub from_local : (i : Input) (wanted : Wanted) → Back (with_local_use wanted i) → Back i
  pub local_is : (i : Input) (wanted : Wanted) → Back (with_local_use wanted i) → IsIn (local_key i.cursor) (used_keys f wanted)

abbrev pub within_of : {m : Module} {f : Function} {Fore Back : Input → Type 0} → Kit m f Fore Back → Within m f
within_of {Fore = Fore} {Back = Back} kit = record {
  reading = record {
    Fore = Fore;
    Back = Back;
    ordered = kit.ordered;
    bytes = kit.bytes;
    forms = kit.forms;
    has_types = kit.has_types;
    has_structs = kit.has_structs;
    has_symbols = kit.has_symbols;
    on_token = kit.on_token;
    from_token = kit.from_token;
    on_type = kit.on_type;
    from_type = kit.from_type;
    on_struct = kit.on_struct;
    from_struct = kit.from_struct;
    struct_is = kit.struct_is;
    on_symbol = kit.on_symbol;
    from_symbol = kit.from_symbol;
    symbol_is = kit.symbol_is;
    on_lost = kit.on_lost;
    from_lost = kit.from_lost;
  };
  has_locals = kit.has_locals;
  on_local = kit.on_local;
  from_local = kit.from_local;
  local_is = kit.local_is;
}

-- what a function defined so far, by the numbers of its names: all of them, its values, and its blocks
pub record Progress : Type 0 where
  pub names : List ℕ
  pub values : List ℕ
  pub labels : List ℕ

abbrev pub with_named_value : Progress → ℕ → Progress
with_named_value g n = record { names = g.names ++ n ∷ []; values = g.values ++ n ∷ []; labels = g.labels }

abbrev pub with_named_label : Progress → ℕ → Progress
with_named_label g n = record { names = g.names ++ n ∷ []; values = g.values; labels = g.labels ++ n ∷ [] }

-- What holds while the blocks of a function are read, where this much is defined, and while one value more has no type yet.
pub record Builder (m : Module) (f : Function) (Back : Input → Type 0) (Fore : Progress → Input → Type 0) (Open : Progress → ℕ → Input → Type 0) : Type 0 where
  pub kit : (g : Progress) → Kit m f (Fore g) Back
  pub open_kit : (g : Progress) (n : ℕ) → Kit m f (Open g n) Back
  pub on_sort : (g : Progress) (n : ℕ) (i : Input) (sort : LocalSort) → IsSortWithin (length i.types) sort → Open g n i → Fore (with_named_value g n) (with_sort n sort i)
  pub from_sort : (n : ℕ) (i : Input) (sort : LocalSort) → Back (with_sort n sort i) → Back i
  pub named : (g : Progress) (i : Input) → kind i.cursor ≡ k.LocalName → Keeps (Fore g) (Open g) Back new_value Any i
  pub numbered : (g : Progress) (i : Input) → kind i.cursor ≡ k.LocalNumber → Keeps (Fore g) (Open g) Back numbered_value Any i
  pub unnamed : (g : Progress) (i : Input) → Keeps (Fore g) (Open g) Back unnamed_value Any i
  pub named_label : (g : Progress) (i : Input) → kind i.cursor ≡ k.LabelName → Keeps (Fore g) (λ n. Fore (with_named_label g n)) Back (new_label (length g.labels)) Any i
  pub numbered_label_is : (g : Progress) (i : Input) → kind i.cursor ≡ k.LabelNumber → Keeps (Fore g) (λ n. Fore (with_named_label g n)) Back (numbered_label (length g.labels)) Any i
  pub unnamed_label_is : (g : Progress) (i : Input) → Keeps (Fore g) (λ n. Fore (with_named_label g n)) Back (unnamed_label (length g.labels)) Any i

abbrev pub naming_of : {m : Module} {f : Function} {Back : Input → Type 0} {Fore : Progress → Input → Type 0} {Open : Progress → ℕ → Input → Type 0} → Builder m f Back Fore Open → (g : Progress) (n : ℕ) → Naming m f n
naming_of {Fore = Fore} b g n = record {
  within = within_of (b.open_kit g n);
  After = Fore (with_named_value g n);
  on_value = λ i sort is h. b.on_sort g n i sort is h;
  from_value = λ i sort h. b.from_sort n i sort h;
}
