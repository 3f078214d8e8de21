-- All defined functions of a module, up to the end of its text.
use Rattle.std.proofs.Common.{◌≡◌, ◌+◌, ◌≤◌, Bool, true, false, List, [], ◌∷◌, ◌++◌, length, map, refl, sym, ap, subst, ◌∙◌, arith, append_assoc, length-append, inl, inr}
use Rattle.std.specs.Prelude.{codes}
use Rattle.std.specs.List.{AllByRecursion, flat_map}
use Rattle.std.proofs.lemmas.List.{append-nil}
use Rattle.lemmas.specs.Lists.{in_first, IsIn}
use Rattle.grammar.specs.Many.{Listed}
use Rattle.ir_ast.specs.declared.function.Function.{Function}
use Rattle.ir_ast.specs.declared.module.Module.{Module}
use Rattle.ir_tokens.specs.declared.token.Kind.{Kind}
use Rattle.ir_tokens.specs.declared.token.Kind.TheVariants as k
use Rattle.ir_tokens.specs.Bytes.{Text, class_of}
use Rattle.ir_tokens.specs.Keywords.{word_kind, keywords}
use Rattle.ir_tokens.specs.Tokens.{past_gap}
use Rattle.ir_forms.specs.Cursor.{kind}
use Rattle.ir_forms.specs.declared.input.Input.{Input}
use Rattle.ir_text.specs.ItemsOfText.{item, at_end_of_text}
use Rattle.ir_print.specs.Items.{function_text}
use Rattle.ir_print.specs.Names.{name_at}
use Rattle.ir_print_law.specs.Stands.{Stands, AreBlanks}
use Rattle.ir_print_law.proofs.Words.{word_comes, seen}
use Rattle.ir_print_law.specs.Definitions.{AreNew, defined_globals, declared_functions}
use Rattle.ir_print_law.specs.Printable.{IsFunction, IsPrintable, IsSymbol}
use Rattle.ir_print_law.proofs.Tables.{begins_further, begins_itself}
use Rattle.ir_print_law.specs.PartsAgain.{AreAlike}
use Rattle.ir_print_law.specs.Again.{IsFunctionAgain}
use Rattle.ir_print_law.proofs.State.{Ready}
use Rattle.ir_print_law.proofs.Steps.{unlike}
use Rattle.ir_print_law.proofs.WholeFunctionEnds.{nobody, Reaches, reaches_further, IsModuleLater}
use Rattle.ir_print_law.proofs.FunctionLines.{definition_goes}
use Rattle.ir_print_law.proofs.Known.{Far, AreNamed, known}
use Rattle.ir_print_law.proofs.OpsGiven.{types_given, ops_given}
use Rattle.ir_print_law.proofs.Starts.{function_named, function_keys}
use Rattle.ir_print_law.proofs.Steady.{outside}
use Rattle.ir_print_law.proofs.WholeEnds.{ends_there}

abbrev pub function_names : Module → List Function → List Text
function_names m fs = map (λ (f : Function). name_at m.symbols f.symbol) fs

abbrev is_define : Kind → Bool
is_define k.Define = true
is_define _ = false

pub define_comes : (m : Module) (f : Function) (i : Input) (gap rest : Text) → AreBlanks gap → Stands i.cursor (gap ++ (function_text m f ++ rest)) → kind i.cursor ≡ k.Define
unfolding class_of word_kind keywords
define_comes m f i gap rest blanks at = (word_comes i.cursor gap (codes "define") _ blanks refl refl at).0

later_again : (p o : Input) (n : Module) → Reaches p o → IsModuleLater o n → IsModuleLater p n
later_again p o n a b = record {
  types = begins_further p.types o.types n.types a.types b.types;
  structs = begins_further p.struct_names.names o.struct_names.names n.struct_names a.structs b.structs;
  symbols = begins_further p.symbols.names o.symbols.names n.symbols a.symbols b.symbols;
}

-- the names and items that stay, and those that come with defined functions
pub record WithFunctions (far now : Far) (names : List Text) (gs : List Function) : Type 0 where
  pub same_structs : now.structs ≡ far.structs
  pub same_globals : now.globals ≡ far.globals
  pub more_functions : now.functions ≡ far.functions ++ names
  pub same_struct_types : now.struct_types ≡ far.struct_types
  pub same_items : now.global_items ≡ far.global_items
  pub same_declares : now.declares ≡ far.declares
  pub more_defines : now.defines ≡ far.defines ++ gs

module _ (m : Module) (is : IsPrintable m) (named : AreNamed m nobody) where
  abbrev pub FunctionsGo : List Function → Far → Input → Type 0
  FunctionsGo fs far i =
      (us : List (Unit {0})) × (o : Input) × (now : Far) × (gs : List Function) × (gap : Text) × Listed at_end_of_text item.says i us o × Ready (known m nobody named now) 0 o gap × (past_gap false gap ≡ [])
      × Reaches i o × WithFunctions far now (function_names m fs) gs × ((n : Module) → IsModuleLater o n → AreAlike (IsFunctionAgain m n) fs gs)

  pub functions_go : (fs : List Function) (far : Far) (i : Input) (gap : Text) → AreBlanks gap → past_gap false gap ≡ [] → past_gap false (10 ∷ []) ≡ [] → AllByRecursion (IsFunction m) fs
      → AllByRecursion (IsSymbol m.wide) (function_names m fs) → AreNew far.symbols (function_names m fs) → ((name : Text) → IsIn name far.globals → IsIn name far.symbols)
      → ((name : Text) → IsIn name (function_names m fs) → IsIn name (defined_globals m) → ⊥) → ((name : Text) → IsIn name (function_names m fs) → IsIn name (declared_functions m) → ⊥) → length far.defines + length fs ≤ 65535 → outside far ≡ far
      → Ready (known m nobody named far) 0 i (gap ++ flat_map (function_text m) fs) → FunctionsGo fs far i
  functions_go [] far i gap blanks past past_line are symbols new globals never other few out ready =
      let here = subst (λ (t : Text). Ready (known m nobody named far) 0 i t) (append-nil gap) ready in (
        [],
        i,
        far,
        [],
        gap,
        (seen k.End i (ends_there i.cursor gap past here.stands).0, refl),
        here,
        past,
        record { types = begins_itself i.types; structs = begins_itself i.struct_names.names; symbols = begins_itself i.symbols.names },
        record {
          same_structs = refl;
          same_globals = refl;
          more_functions = sym (append-nil far.functions);
          same_struct_types = refl;
          same_items = refl;
          same_declares = refl;
          more_defines = sym (append-nil far.defines);
        },
        λ n later. tt,
      )
  functions_go (f ∷ fs) far i gap blanks past past_line are symbols new globals never other few out ready =
      let name = name_at m.symbols f.symbol in
      let f_named = function_named m f is are.0 in
      let keys = function_keys m f are.0 in
      let outer = subst (λ (x : Far). Ready (known m nobody named x) 0 i (gap ++ flat_map (function_text m) (f ∷ fs))) (sym out) ready in
      let one = definition_goes m f f_named named (types_given m) (ops_given m f f_named) far i gap (flat_map (function_text m) fs) are.0 keys.0 keys.1 symbols.0.0 symbols.0.1 new.0
      (λ g. new.0 (globals name g)) (never name (inl refl)) (other name (inl refl)) (omega (arith, few)) blanks outer in
      let p = one.0 in
      let g = one.1 in
      let mid : Far = record (outside far) { symbols = far.symbols ++ name ∷ []; functions = far.functions ++ name ∷ []; defines = far.defines ++ g ∷ [] } in
      let size = length-append far.defines (g ∷ []) in
      let next = functions_go fs mid p (10 ∷ []) refl past_line past_line are.1 symbols.1 new.1 (λ k h. in_first k far.symbols (name ∷ []) (globals k h)) (λ k h. never k (inr h)) (λ k h. other k (inr h)) (omega (arith, few, size)) refl one.3 in
      let o = next.1 in
      let now = next.2 in
      let w = next.9 in
      let goes = unlike k.End is_define i refl (ap is_define (define_comes m f i gap (flat_map (function_text m) fs) blanks ready.stands)) in (
        tt ∷ next.0,
        next.1,
        next.2,
        g ∷ next.3,
        next.4,
        (goes, p, one.2, next.5),
        next.6,
        next.7,
        reaches_further i p o one.4 next.8,
        record {
          same_structs = w.same_structs;
          same_globals = w.same_globals;
          more_functions = w.more_functions ∙ append_assoc far.functions (name ∷ []) (function_names m fs);
          same_struct_types = w.same_struct_types;
          same_items = w.same_items;
          same_declares = w.same_declares;
          more_defines = w.more_defines ∙ append_assoc far.defines (g ∷ []) next.3;
        },
        λ n later. (one.5 n (later_again p o n next.8 later), next.10 n later),
      )
