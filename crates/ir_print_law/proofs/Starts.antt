-- What a printable module gives: its names are read as they are printed, and reading begins with nothing known.
use Rattle.std.proofs.Common.{◌≡◌, ℕ, ◌+◌, ◌<◌, ◌≤◌, ◌^◌, Bool, true, false, List, [], ◌∷◌, ◌++◌, length, map, refl, sym, subst, arith, length-append, inl, inr}
use Rattle.std.specs.List.{AllByRecursion, flat_map}
use Rattle.lemmas.specs.All.{all_in, all_join, all_first, all_second}
use Rattle.lemmas.specs.Lists.{in_first, in_second, IsIn}
use Rattle.ir_ast.specs.declared.block.Block.{Block}
use Rattle.ir_ast.specs.declared.function.Function.{Function}
use Rattle.ir_ast.specs.declared.module.Module.{Module}
use Rattle.ir_tokens.specs.Bytes.{Text}
use Rattle.ir_tokens.specs.Tokens.{lexed_of}
use Rattle.ir_forms.specs.Intrinsics.{is_left_out}
use Rattle.ir_forms.specs.declared.uses.Wanted.{Wanted}
use Rattle.ir_forms.specs.declared.uses.Wanted.TheVariants as wants
use Rattle.ir_text.specs.Read.{start_in}
use Rattle.name_text.specs.Readings.{AreBytes}
use Rattle.ir_print.specs.Names.{name_at}
use Rattle.ir_print_law.specs.Readings.{IsKey}
use Rattle.ir_print_law.specs.Definitions.{AreDefined, defined_keys, parameter_keys, block_keys, value_keys_of, value_keys, label_keys, defined_globals, declared_functions, defined_functions, functions_of, used_keys, IsUsed}
use Rattle.ir_print_law.specs.Printable.{IsFunction, IsPrintable, IsSymbol}
use Rattle.ir_print_law.proofs.State.{Ready}
use Rattle.ir_print_law.proofs.Defining.{dropped}
use Rattle.ir_print_law.proofs.WholeFunctionEnds.{nobody, no_key, locals_empty}
use Rattle.ir_print_law.proofs.Known.{Far, AreNamed, known}
use Rattle.ir_print_law.proofs.NewLabels.{decimal_key}
use Rattle.ir_print_law.proofs.NewValues.{IsNext, unnamed_then}
use Rattle.ir_print_law.proofs.Steady.{next_key, taken}
use Rattle.ir_print_law.proofs.WholeEnds.{start_stands}

-- ---- keys

key_here : (unnamed : ℕ) (key : Text) → unnamed < 2 ^ 64 → IsNext unnamed key → IsKey key
key_here unnamed key less (inl e) = subst IsKey (sym e) (decimal_key unnamed less)
key_here unnamed key less (inr named) = inr named

keys_all : (seen : List Text) (unnamed : ℕ) (keys : List Text) → unnamed + length keys < 2 ^ 64 → AreDefined seen unnamed keys → AllByRecursion IsKey keys
keys_all seen unnamed [] less h = tt
keys_all seen unnamed (key ∷ keys) less h =
    let next = next_key seen unnamed key keys h in
    let most = taken unnamed key next.1.0 in
    (key_here unnamed key (omega (arith, less)) next.1.0, keys_all (seen ++ key ∷ []) (unnamed_then unnamed key next.1.0) keys (omega (arith, less, most)) next.1.1)

-- the keys of a block
abbrev pub BlockKeys : (locals : List Text) → Block → Type 0
BlockKeys locals b = IsKey (name_at locals b.label) × AllByRecursion IsKey (value_keys_of locals b)

blocks_all : (locals : List Text) (bs : List Block) → AllByRecursion IsKey (flat_map (block_keys locals) bs) → AllByRecursion (BlockKeys locals) bs
blocks_all locals [] h = tt
blocks_all locals (b ∷ bs) h =
    let own = all_first IsKey (block_keys locals b) (flat_map (block_keys locals) bs) h in
    ((own.0, own.1), blocks_all locals bs (all_second IsKey (block_keys locals b) (flat_map (block_keys locals) bs) h))

values_all : (locals : List Text) (bs : List Block) → AllByRecursion (BlockKeys locals) bs → AllByRecursion IsKey (flat_map (value_keys_of locals) bs)
values_all locals [] h = tt
values_all locals (b ∷ bs) h = all_join IsKey (value_keys_of locals b) (flat_map (value_keys_of locals) bs) h.0.1 (values_all locals bs h.1)

labels_all : (locals : List Text) (bs : List Block) → AllByRecursion (BlockKeys locals) bs → AllByRecursion IsKey (map (λ (b : Block). name_at locals b.label) bs)
labels_all locals [] h = tt
labels_all locals (b ∷ bs) h = (h.0.0, labels_all locals bs h.1)

block_count : (locals : List Text) (bs : List Block) → length (flat_map (block_keys locals) bs) ≡ length bs + length (flat_map (value_keys_of locals) bs)
block_count locals [] = refl
block_count locals (b ∷ bs) =
    let a = length-append (block_keys locals b) (flat_map (block_keys locals) bs) in
    let c = length-append (value_keys_of locals b) (flat_map (value_keys_of locals) bs) in
    let d = block_count locals bs in
    omega (arith, a, c, d)

-- the keys of a function are read as they are printed
pub function_keys : (m : Module) (f : Function) → IsFunction m f → AllByRecursion IsKey (parameter_keys f) × AllByRecursion (BlockKeys f.locals) f.blocks
function_keys m f is =
    let values = is.values in
    let blocks = is.few_blocks in
    let a = length-append (parameter_keys f) (flat_map (block_keys f.locals) f.blocks) in
    let b = length-append (parameter_keys f) (flat_map (value_keys_of f.locals) f.blocks) in
    let c = block_count f.locals f.blocks in
    let all = keys_all [] 0 (defined_keys f) (omega (arith, values, blocks, a, b, c)) is.definitions in
    (all_first IsKey (parameter_keys f) (flat_map (block_keys f.locals) f.blocks) all, blocks_all f.locals f.blocks (all_second IsKey (parameter_keys f) (flat_map (block_keys f.locals) f.blocks) all))

-- ---- what is used is named as it is read

symbol_named : (m : Module) → IsPrintable m → (is_call : Bool) (name : Text) → IsUsed m is_call name → AreBytes name × (is_left_out m.wide name ≡ false)
symbol_named m is true name there = all_in (IsSymbol m.wide) (defined_globals m ++ functions_of m) name is.symbols.0 (in_second name (defined_globals m) (functions_of m) there)
symbol_named m is false name (inl there) = all_in (IsSymbol m.wide) (defined_globals m ++ functions_of m) name is.symbols.0 (in_first name (defined_globals m) (functions_of m) there)
symbol_named m is false name (inr h) =
    all_in (IsSymbol m.wide) (defined_globals m ++ functions_of m) name is.symbols.0 (in_second name (defined_globals m) (functions_of m) (in_first name (declared_functions m) (defined_functions m) h.1))

pub nobody_named : (m : Module) → IsPrintable m → AreNamed m nobody
nobody_named m is = record { is_key = λ wanted key there. absurd (no_key wanted key there); is_symbol = symbol_named m is }

pub function_named : (m : Module) (f : Function) → IsPrintable m → IsFunction m f → AreNamed m f
function_named m f is function = record { is_key = key; is_symbol = symbol_named m is } where
  key : (wanted : Wanted) (key : Text) → IsIn key (used_keys f wanted) → IsKey key
  key wants.Value k there =
      let keys = function_keys m f function in
      all_in IsKey (value_keys f) k (all_join IsKey (parameter_keys f) (flat_map (value_keys_of f.locals) f.blocks) keys.0 (values_all f.locals f.blocks keys.1)) there
  key wants.Block k there = all_in IsKey (label_keys f) k (labels_all f.locals f.blocks (function_keys m f function).1) there
  key wants.Target k there = all_in IsKey (label_keys f) k (labels_all f.locals f.blocks (function_keys m f function).1) (dropped (label_keys f) k there)

-- ---- the beginning

abbrev pub far_start : Far
far_start = record {
  structs = [];
  symbols = [];
  globals = [];
  functions = [];
  seen = [];
  values = [];
  labels = [];
  pending = [];
  count = 0;
  unnamed = 0;
  struct_types = [];
  global_items = [];
  declares = [];
  defines = [];
}

-- nothing is known before the first token
pub ready_at_start : (m : Module) (named : AreNamed m nobody) (bytes : Text) → length bytes ≤ 16777216 → Ready (known m nobody named far_start) 0 (start_in m.wide bytes (lexed_of bytes)) bytes
ready_at_start m named bytes few = record {
  stands = start_stands m.wide bytes;
  ordered = λ number x e. absurd cc;
  forms = refl;
  room = record { types = omega (arith, few); structs = omega (arith, few); symbols = omega (arith, few); locals = omega (arith, few) };
  holds = (
    record { even = refl; known = λ name is. absurd is; new = λ name none. refl; uses_so = tt },
    record { even = refl; are_globals = λ name is. absurd is; are_functions = λ name is. absurd is; new = λ name none. refl; no_function = λ name is. refl; no_defined = λ name is. refl; uses_so = tt },
    locals_empty,
    record { values_are = refl; unnamed_is = refl; none_missing = refl; structs_are = refl; globals_are = refl; declares_are = refl; functions_are = refl },
  );
}
