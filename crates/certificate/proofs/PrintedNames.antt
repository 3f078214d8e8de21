-- Printed names are read as what they name.
use Rattle.std.proofs.Common.{◌≡◌, ℕ, zero, suc, ◌<◌, Bool, true, false, ◌||◌, List, [], ◌∷◌, length, slice_get, Option, Some, None, is_some, refl, ap, ◌∙◌}
use Rattle.std.specs.Prelude.{◌==◌, if◌then◌else◌, unwrap_or}
use Rattle.std.specs.List.{list_any}
use Rattle.std.proofs.lemmas.Bool.{eqb-true}
use Rattle.lemmas.specs.Lists.{get_some}
use Rattle.ir_ast.specs.Names.{place_of}
use Rattle.ir_ast.specs.declared.block.Block.{Block}
use Rattle.ir_ast.specs.declared.function.Function.{Function}
use Rattle.ir_ast.specs.declared.function.LocalSort.{LocalSort}
use Rattle.ir_ast.specs.declared.function.LocalSort.TheVariants as local
use Rattle.ir_ast.specs.declared.module.Module.{Module}
use Rattle.types.specs.Globals.{global_named}
use Rattle.types.specs.RuntimeCall.{is_outside}
use Rattle.ir_tokens.specs.Bytes.{Text}
use Rattle.name_text.specs.Naming.{name_in}
use Rattle.certificate.specs.Names.{value_of_word, value_by, block_of_word, function_of_word, global_by, global_of_word, outside_of_word, layout_of_word}
use Rattle.certificate.specs.Print.{name_text, key_text, name_at, local_text, global_text, layout_text, struct_name}
use Rattle.name_text.specs.Readings.{IsShort}
use Rattle.name_text.specs.declared.blank.Blank.TheVariants as blank
use Rattle.certificate.specs.Named.{AreNames, AreKeys, IsNamedFunction, IsNamed}
use Rattle.certs.specs.Fits.{is_value, is_value_sort, stands_for}
use Rattle.certificate.specs.declared.naming.Naming.TheVariants as naming
use Rattle.name_text.specs.declared.naming.Sigil.TheVariants as sigil
use Rattle.name_text.specs.Words.{is_word}
use Rattle.name_text.specs.Seams.{all_bytes}
use Rattle.certificate.proofs.PrintedWords.{key_read, layout_read, global_read, name_word}

-- a name of a table, as it is printed
name_is : (names : List Text) (number : ℕ) → AreNames names → number < length names
    → (name : Text) × (name_text (name_at names number) ≡ name_text name) × (is_word (name_text name) ≡ true) × IsShort blank.Kept name × (place_of name names ≡ Some number)
name_is names number are lt =
    let p = get_some names number lt in
    let q = are number p.0 p.1 in
    let at : name_at names number ≡ p.0 = ap (λ (x : Option Text). unwrap_or x []) p.1 in
    (p.0, ap name_text at, name_word p.0, q.0, q.1)

-- a key of a table, as it is printed
key_is : (keys : List Text) (number : ℕ) → AreKeys keys → number < length keys
    → (key : Text) × (key_text (name_at keys number) ≡ key_text key) × (is_word (key_text key) ≡ true) × (name_in sigil.Local (37 ∷ key_text key) ≡ Some key) × (place_of key keys ≡ Some number)
key_is keys number are lt =
    let p = get_some keys number lt in
    let q = are number p.0 p.1 in
    let r = key_read p.0 q.0 in
    let at : name_at keys number ≡ p.0 = ap (λ (x : Option Text). unwrap_or x []) p.1 in
    (p.0, ap key_text at, r.1, r.0, q.1)

value_sort : (f : Function) (value : ℕ) → is_value f value ≡ true → value_by (Some value) (slice_get f.sorts value) ≡ naming.Named value
value_sort f value e = by (slice_get f.sorts value) e
  where
    by : (s : Option LocalSort) → is_value_sort s ≡ true → value_by (Some value) s ≡ naming.Named value
    by None e = absurd cc
    by (Some (local.Value written)) e = refl
    by (Some (local.Slot held)) e = refl
    by (Some (local.Element block place)) e = refl
    by (Some local.Unknown) e = absurd cc
    by (Some (local.Block block)) e = absurd cc

-- a value's name is one word, which names it
pub value_printed : (f : Function) (value : ℕ) → IsNamedFunction f → is_value f value ≡ true → (value_of_word f (local_text f value) ≡ naming.Named value) × (is_word (local_text f value) ≡ true)
value_printed f value named e =
    let n = key_is f.locals value named.names (named.values value e) in
    (rw (n.1, n.3, n.4) (value_sort f value e), rw n.1 (all_bytes (key_text n.0) n.2))

-- so is a block's
pub block_printed : (f : Function) (number : ℕ) (block : Block) → IsNamedFunction f → slice_get f.blocks number ≡ Some block → (block_of_word f (local_text f block.label) ≡ naming.Named number) × (is_word (local_text f block.label) ≡ true)
block_printed f number block named e =
    let l = named.labels number block e in
    let n = key_is f.locals block.label named.names l.0 in
    (rw (n.1, n.3, n.4, l.1) refl, rw n.1 (all_bytes (key_text n.0) n.2))

-- and a function's
pub function_printed : (m : Module) (number : ℕ) (f : Function) → IsNamed m → slice_get m.functions number ≡ Some f → (function_of_word m (global_text m f.symbol) ≡ naming.Named number) × (is_word (global_text m f.symbol) ≡ true)
function_printed m number f named e =
    let l = named.functions number f e in
    let n = name_is m.symbols f.symbol named.symbols l.0 in
    (rw (n.1, global_read n.0 n.3, n.4, l.1) refl, rw n.1 (all_bytes (name_text n.0) n.2))

symbol_is : (symbol : ℕ) (g : Option ℕ) → is_some g ≡ true → global_by symbol g ≡ naming.Named symbol
symbol_is symbol None e = absurd cc
symbol_is symbol (Some g) e = refl

-- and a global's
pub global_printed : (m : Module) (symbol : ℕ) → IsNamed m → is_some (global_named m symbol) ≡ true → (global_of_word m (global_text m symbol) ≡ naming.Named symbol) × (is_word (global_text m symbol) ≡ true)
global_printed m symbol named e =
    let n = name_is m.symbols symbol named.symbols (named.globals symbol e) in
    (rw (n.1, global_read n.0 n.3, n.4) (symbol_is symbol (global_named m symbol) e), rw n.1 (all_bytes (name_text n.0) n.2))

outside_by : (symbol : ℕ) (is : Bool) → is ≡ true → (if is then naming.Named symbol else naming.Unknown) ≡ naming.Named symbol
outside_by symbol true e = refl
outside_by symbol false e = absurd cc

-- and that of a function outside
pub outside_printed : (m : Module) (symbol : ℕ) → IsNamed m → is_outside m symbol ≡ true → (outside_of_word m (global_text m symbol) ≡ naming.Named symbol) × (is_word (global_text m symbol) ≡ true)
outside_printed m symbol named e =
    let n = name_is m.symbols symbol named.symbols (named.outside symbol e) in
    (rw (n.1, global_read n.0 n.3, n.4) (outside_by symbol (is_outside m symbol) e), rw n.1 (all_bytes (name_text n.0) n.2))

struct_found : (layout : ℕ) (xs : List (Option ℕ)) → list_any (stands_for layout) xs ≡ true → (name : ℕ) × (slice_get xs name ≡ Some (Some layout))
struct_found layout [] e = absurd cc
struct_found layout (x ∷ xs) e = by x e (struct_found layout xs)
  where
    by : (x : Option ℕ) → (stands_for layout x || list_any (stands_for layout) xs) ≡ true → (list_any (stands_for layout) xs ≡ true → (name : ℕ) × (slice_get xs name ≡ Some (Some layout))) → (name : ℕ) × (slice_get (x ∷ xs) name ≡ Some (Some layout))
    by None e more = let p = more e in (suc p.0, p.1)
    by (Some own) e more = here (own == layout) refl e
      where
        here : (b : Bool) → own == layout ≡ b → (b || list_any (stands_for layout) xs) ≡ true → (name : ℕ) × (slice_get (Some own ∷ xs) name ≡ Some (Some layout))
        here true is e = (zero, ap (λ n. Some (Some n)) (eqb-true own layout is))
        here false is e = let p = more e in (suc p.0, p.1)

-- and a layout's, without its sign
pub layout_printed : (m : Module) (layout : ℕ) → IsNamed m → list_any (stands_for layout) m.struct_of ≡ true → (layout_of_word m (layout_text m layout) ≡ naming.Named layout) × (is_word (layout_text m layout) ≡ true)
layout_printed m layout named e =
    let found = struct_found layout m.struct_of e in
    let l = named.layouts layout found.0 found.1 in
    let n = name_is m.struct_names found.0 named.structs l.3 in
    let text : layout_text m layout ≡ name_text n.0 = ap (λ x. name_text (struct_name m x)) l.1 ∙ ap (λ x. name_text (name_at m.struct_names x)) l.2 ∙ n.1 in
    (rw (text, layout_read n.0 n.3, n.4, found.1) refl, rw text n.2)
