-- All globals of a module, and the functions after them.
use Rattle.std.proofs.Common.{◌≡◌, ◌+◌, ◌≤◌, Bool, true, false, List, [], ◌∷◌, ◌++◌, length, map, refl, sym, ap, subst, ◌∙◌, arith, append_assoc, length-append}
use Rattle.std.specs.List.{AllByRecursion, flat_map}
use Rattle.std.proofs.lemmas.List.{append-nil}
use Rattle.lemmas.specs.Lists.{IsIn}
use Rattle.grammar.specs.Many.{Listed}
use Rattle.ir_ast.specs.declared.function.Function.{Function}
use Rattle.ir_ast.specs.declared.module.Module.{Module}
use Rattle.ir_tokens.specs.declared.token.Kind.{Kind}
use Rattle.ir_tokens.specs.declared.token.Kind.TheVariants as k
use Rattle.ir_tokens.specs.Bytes.{Text}
use Rattle.ir_tokens.specs.Tokens.{past_gap}
use Rattle.ir_forms.specs.Cursor.{kind}
use Rattle.ir_forms.specs.declared.input.Input.{Input}
use Rattle.ir_text.specs.ItemsOfText.{item, at_end_of_text}
use Rattle.name_text.specs.Readings.{AreBytes}
use Rattle.ir_print.specs.Items.{function_text, declare_line, global_line, global_word}
use Rattle.ir_ast.specs.declared.items_of_module.Global.{Global}
use Rattle.ir_print_law.proofs.GlobalLines.{global_goes, line_is, after_word, word_seam}
use Rattle.ir_print_law.proofs.DeclareLists.{declared_names, declares_begin, declares_go, later_than}
use Rattle.ir_print_law.proofs.Words.{global_comes}
use Rattle.ir_ast.specs.declared.items_of_module.Declare.{Declare}
use Rattle.ir_print_law.proofs.Types.{Comes}
use Rattle.ir_print_law.proofs.Results.{begins_item}
use Rattle.ir_print_law.proofs.FunctionLists.{function_names}
use Rattle.ir_print.specs.Names.{name_at}
use Rattle.ir_print_law.specs.Stands.{Stands, AreBlanks}
use Rattle.ir_print_law.specs.Definitions.{AreNew, defined_globals, declared_functions}
use Rattle.ir_print_law.specs.Printable.{IsFunction, IsGlobal, IsDeclare, IsPrintable, IsSymbol}
use Rattle.ir_print_law.specs.PartsAgain.{AreAlike}
use Rattle.ir_print_law.specs.Again.{IsGlobalAgain, IsDeclareAgain, IsFunctionAgain}
use Rattle.ir_print_law.proofs.State.{Ready}
use Rattle.ir_print_law.proofs.Steps.{unlike}
use Rattle.ir_print_law.proofs.WholeFunctionEnds.{nobody, Reaches, reaches_further, widens_reaches, IsModuleLater}
use Rattle.ir_print_law.proofs.Known.{Far, AreNamed, known}
use Rattle.ir_print_law.proofs.OpsGiven.{types_given}
use Rattle.ir_print_law.proofs.Steady.{outside, seen_too}

abbrev pub global_names : Module → List Global → List Text
global_names m ys = map (λ (y : Global). name_at m.symbols y.symbol) ys

abbrev is_global_kind : Kind → Bool
is_global_kind k.GlobalName = true
is_global_kind _ = false

global_kind : (m : Module) (y : Global) (i : Input) (gap rest : Text) → AreBytes (name_at m.symbols y.symbol) → AreBlanks gap → Stands i.cursor (gap ++ (global_line m y ++ rest)) → kind i.cursor ≡ k.GlobalName
global_kind m y i gap rest own blanks at =
    (global_comes i.cursor gap (name_at m.symbols y.symbol) (global_word y.is_constant ++ after_word m y rest) blanks own (word_seam y.is_constant (after_word m y rest))
    (subst (λ (t : Text). Stands i.cursor (gap ++ t)) (line_is m y rest) at)).0

-- the lines of declared functions and the defined functions
abbrev pub functions_text : Module → List Declare → List Function → Text
functions_text m ds fs = flat_map (declare_line m) ds ++ flat_map (function_text m) fs

globals_begin : (m : Module) (ys : List Global) (ds : List Declare) (fs : List Function) → AllByRecursion (IsSymbol m.wide) (global_names m ys) → past_gap false (10 ∷ []) ≡ []
    → Comes begins_item (10 ∷ (flat_map (global_line m) ys ++ functions_text m ds fs))
globals_begin m [] ds fs own past = declares_begin m ds fs past
globals_begin m (y ∷ ys) ds fs own past = λ i at.
    ap begins_item (global_kind m y i (10 ∷ []) (flat_map (global_line m) ys ++ functions_text m ds fs) own.0.0 refl
    (subst (λ (t : Text). Stands i.cursor (10 ∷ t)) (append_assoc (global_line m y) (flat_map (global_line m) ys) (functions_text m ds fs)) at))

-- the names and items that stay, and those that come with globals and functions
pub record WithGlobals (far now : Far) (globals functions : List Text) (zs : List Global) (xs : List Declare) (gs : List Function) : Type 0 where
  pub same_structs : now.structs ≡ far.structs
  pub more_globals : now.globals ≡ far.globals ++ globals
  pub more_functions : now.functions ≡ far.functions ++ functions
  pub same_struct_types : now.struct_types ≡ far.struct_types
  pub more_items : now.global_items ≡ far.global_items ++ zs
  pub more_declares : now.declares ≡ far.declares ++ xs
  pub more_defines : now.defines ≡ far.defines ++ gs

module _ (m : Module) (is : IsPrintable m) (named : AreNamed m nobody) (ds : List Declare) (fs : List Function) where
  abbrev functions_here : List Text
  functions_here = declared_names m ds ++ function_names m fs

  abbrev pub GlobalsGo : List Global → Far → Input → Type 0
  GlobalsGo ys far i =
      (us : List (Unit {0})) × (o : Input) × (now : Far) × (gs : List Function) × (xs : List Declare) × (zs : List Global) × (gap : Text) × Listed at_end_of_text item.says i us o
      × Ready (known m nobody named now) 0 o gap × (past_gap false gap ≡ []) × Reaches i o × WithGlobals far now (global_names m ys) (declared_names m ds ++ function_names m fs) zs xs gs
      × ((n : Module) → IsModuleLater o n → AreAlike (IsGlobalAgain m n) ys zs)
      × ((n : Module) → IsModuleLater o n → AreAlike (IsDeclareAgain m n) ds xs) × ((n : Module) → IsModuleLater o n → AreAlike (IsFunctionAgain m n) fs gs)

  pub globals_go : (ys : List Global) (far : Far) (i : Input) (gap : Text) → AreBlanks gap → past_gap false gap ≡ [] → past_gap false (10 ∷ []) ≡ [] → AllByRecursion (IsGlobal m) ys
      → AllByRecursion (IsDeclare m) ds → AllByRecursion (IsFunction m) fs → AllByRecursion (IsSymbol m.wide) (global_names m ys) → AllByRecursion (IsSymbol m.wide) (declared_names m ds ++ function_names m fs)
      → AreNew far.symbols (global_names m ys ++ (declared_names m ds ++ function_names m fs)) → ((name : Text) → IsIn name far.globals → IsIn name far.symbols) → far.functions ≡ []
      → ((name : Text) → IsIn name (declared_names m ds ++ function_names m fs) → IsIn name (defined_globals m) → ⊥)
      → ((name : Text) → IsIn name (function_names m fs) → IsIn name (declared_functions m) → ⊥) → length far.global_items + length ys ≤ 4096 → length far.declares + length ds ≤ 65535 → length far.defines + length fs ≤ 65535 → outside far ≡ far
      → Ready (known m nobody named far) 0 i (gap ++ (flat_map (global_line m) ys ++ functions_text m ds fs)) → GlobalsGo ys far i
  globals_go [] far i gap blanks past past_line are declares functions own symbols new globals none never other few few_declares few_functions out ready =
      let h = declares_go m is named ds fs far i gap blanks past past_line declares functions symbols new globals never other few_declares few_functions out ready in
      let w = h.10 in (
        h.0,
        h.1,
        h.2,
        h.3,
        h.4,
        [],
        h.5,
        h.6,
        h.7,
        h.8,
        h.9,
        record {
          same_structs = w.same_structs;
          more_globals = w.same_globals ∙ sym (append-nil far.globals);
          more_functions = w.more_functions;
          same_struct_types = w.same_struct_types;
          more_items = w.same_items ∙ sym (append-nil far.global_items);
          more_declares = w.more_declares;
          more_defines = w.more_defines;
        },
        λ n later. tt,
        h.11,
        h.12,
      )
  globals_go (y ∷ ys) far i gap blanks past past_line are declares functions own symbols new globals none never other few few_declares few_functions out ready =
      let name = name_at m.symbols y.symbol in
      let afterwards = flat_map (global_line m) ys ++ functions_text m ds fs in
      let here = subst (λ (t : Text). Ready (known m nobody named far) 0 i (gap ++ t)) (append_assoc (global_line m y) (flat_map (global_line m) ys) (functions_text m ds fs)) ready in
      let one = global_goes m nobody named (types_given m) far y i gap afterwards are.0 own.0.0 own.0.1 new.0 (λ g. subst (λ (l : List Text). IsIn name l) none g) (omega (arith, few))
      (globals_begin m ys ds fs own.1 past_line) blanks here in
      let p = one.0 in
      let x = one.1 in
      let mid : Far = record far { symbols = far.symbols ++ name ∷ []; globals = far.globals ++ name ∷ []; global_items = far.global_items ++ x ∷ [] } in
      let size = length-append far.global_items (x ∷ []) in
      let out_mid : outside mid ≡ mid = ap (λ (z : Far). record z { symbols = far.symbols ++ name ∷ []; globals = far.globals ++ name ∷ []; global_items = far.global_items ++ x ∷ [] }) out in
      let next = globals_go ys mid p (10 ∷ []) refl past_line past_line are.1 declares functions own.1 symbols new.1 (λ k h. seen_too far.globals far.symbols name globals k h) none never other
      (omega (arith, few, size)) few_declares few_functions out_mid one.3 in
      let o = next.1 in
      let w = next.11 in
      let goes = unlike k.End is_global_kind i refl (ap is_global_kind (global_kind m y i gap afterwards own.0.0 blanks here.stands)) in (
        tt ∷ next.0,
        next.1,
        next.2,
        next.3,
        next.4,
        x ∷ next.5,
        next.6,
        (goes, p, one.2, next.7),
        next.8,
        next.9,
        reaches_further i p o (widens_reaches i p one.4) next.10,
        record {
          same_structs = w.same_structs;
          more_globals = w.more_globals ∙ append_assoc far.globals (name ∷ []) (global_names m ys);
          more_functions = w.more_functions;
          same_struct_types = w.same_struct_types;
          more_items = w.more_items ∙ append_assoc far.global_items (x ∷ []) next.5;
          more_declares = w.more_declares;
          more_defines = w.more_defines;
        },
        λ n later. (one.5 n p.locals.names (later_than p o n next.10 later), next.12 n later),
        next.13,
        next.14,
      )
