-- All struct types of a module, and the whole text after them.
use Rattle.std.proofs.Common.{◌≡◌, ◌+◌, ◌<◌, ◌^◌, Bool, true, false, List, [], ◌∷◌, ◌++◌, length, map, refl, sym, ap, subst, ◌∙◌, arith, append_assoc, length-append}
use Rattle.std.specs.Prelude.{codes}
use Rattle.std.specs.List.{AllByRecursion, flat_map}
use Rattle.std.proofs.lemmas.List.{append-nil}
use Rattle.grammar.specs.Many.{Listed}
use Rattle.ir_ast.specs.declared.function.Function.{Function}
use Rattle.ir_ast.specs.declared.module.Module.{Module}
use Rattle.ir_tokens.specs.declared.token.Kind.{Kind}
use Rattle.ir_tokens.specs.declared.token.Kind.TheVariants as k
use Rattle.ir_tokens.specs.Bytes.{Text, class_of}
use Rattle.ir_tokens.specs.Tokens.{past_gap}
use Rattle.ir_forms.specs.Cursor.{kind}
use Rattle.ir_forms.specs.declared.input.Input.{Input}
use Rattle.ir_text.specs.ItemsOfText.{item, item_by, at_end_of_text}
use Rattle.name_text.specs.Readings.{AreBytes}
use Rattle.ir_print.specs.Items.{struct_line, global_line}
use Rattle.ir_ast.specs.declared.items_of_module.Global.{Global}
use Rattle.ir_ast.specs.declared.items_of_module.StructType.{StructType}
use Rattle.ir_print_law.proofs.StructLines.{struct_goes, line_is}
use Rattle.ir_print_law.proofs.GlobalLists.{global_names, functions_text, GlobalsGo}
use Rattle.ir_print_law.proofs.DeclareLists.{declared_names, later_than}
use Rattle.ir_print_law.proofs.Words.{local_comes}
use Rattle.ir_print.specs.Types.{type_text}
use Rattle.ir_ast.specs.declared.items_of_module.Declare.{Declare}
use Rattle.ir_print_law.proofs.FunctionLists.{function_names}
use Rattle.ir_print.specs.Names.{name_at}
use Rattle.ir_print_law.specs.Stands.{Stands, AreBlanks}
use Rattle.ir_print_law.specs.Definitions.{AreNew}
use Rattle.ir_print_law.specs.Printable.{IsStructType, IsPrintable}
use Rattle.ir_print_law.specs.PartsAgain.{AreAlike}
use Rattle.ir_print_law.specs.Again.{IsStructAgain, IsGlobalAgain, IsDeclareAgain, IsFunctionAgain}
use Rattle.ir_print_law.proofs.State.{Ready}
use Rattle.ir_print_law.proofs.Steps.{unlike}
use Rattle.ir_print_law.proofs.WholeFunctionEnds.{nobody, Reaches, reaches_further, widens_reaches, IsModuleLater}
use Rattle.ir_print_law.proofs.Known.{Far, AreNamed, known}
use Rattle.ir_print_law.proofs.OpsGiven.{types_given}
use Rattle.ir_print_law.proofs.Steady.{outside}

abbrev pub struct_names : Module → List StructType → List Text
struct_names m ss = map (λ (s : StructType). name_at m.struct_names s.name) ss

abbrev is_local_name : Kind → Bool
is_local_name k.LocalName = true
is_local_name _ = false

struct_kind : (m : Module) (s : StructType) (i : Input) (gap rest : Text) → AreBytes (name_at m.struct_names s.name) → AreBlanks gap → Stands i.cursor (gap ++ (struct_line m s ++ rest)) → kind i.cursor ≡ k.LocalName
unfolding class_of
struct_kind m s i gap rest own blanks at =
    (local_comes i.cursor gap (name_at m.struct_names s.name) (codes " = type " ++ (type_text m s.body ++ 10 ∷ rest)) blanks own refl (subst (λ (t : Text). Stands i.cursor (gap ++ t)) (line_is m s rest) at)).0

item_is : (x : Kind) (i o : Input) → kind i.cursor ≡ x → (item_by x).says i tt o → item.says i tt o
unfolding item
item_is x i o e h = subst (λ (y : Kind). (item_by y).says i tt o) (sym e) h

-- the names and items that come with all items
pub record WithAll (far now : Far) (structs globals functions : List Text) (ts : List StructType) (zs : List Global) (xs : List Declare) (gs : List Function) : Type 0 where
  pub more_structs : now.structs ≡ far.structs ++ structs
  pub more_globals : now.globals ≡ far.globals ++ globals
  pub more_functions : now.functions ≡ far.functions ++ functions
  pub more_struct_types : now.struct_types ≡ far.struct_types ++ ts
  pub more_items : now.global_items ≡ far.global_items ++ zs
  pub more_declares : now.declares ≡ far.declares ++ xs
  pub more_defines : now.defines ≡ far.defines ++ gs

module _ (m : Module) (is : IsPrintable m) (named : AreNamed m nobody) (ys : List Global) (ds : List Declare) (fs : List Function) where
  abbrev after_structs : Text
  after_structs = flat_map (global_line m) ys ++ functions_text m ds fs

  abbrev pub StructsGo : List StructType → Far → Input → Type 0
  StructsGo ss far i =
      (us : List (Unit {0})) × (o : Input) × (now : Far) × (gs : List Function) × (xs : List Declare) × (zs : List Global) × (ts : List StructType) × (gap : Text) × Listed at_end_of_text item.says i us o
      × Ready (known m nobody named now) 0 o gap × (past_gap false gap ≡ []) × Reaches i o
      × WithAll far now (struct_names m ss) (global_names m ys) (declared_names m ds ++ function_names m fs) ts zs xs gs
      × ((n : Module) → IsModuleLater o n → AreAlike (IsStructAgain m n) ss ts)
      × ((n : Module) → IsModuleLater o n → AreAlike (IsGlobalAgain m n) ys zs)
      × ((n : Module) → IsModuleLater o n → AreAlike (IsDeclareAgain m n) ds xs) × ((n : Module) → IsModuleLater o n → AreAlike (IsFunctionAgain m n) fs gs)

  -- what the items after the struct types need
  abbrev pub ComesAfter : Far → Type 0
  ComesAfter far =
      (i : Input) (gap : Text) → AreBlanks gap → past_gap false gap ≡ [] → outside far ≡ far → Ready (known m nobody named far) 0 i (gap ++ after_structs) → GlobalsGo m is named ds fs ys far i

  pub structs_go : (ss : List StructType) (far : Far) (i : Input) (gap : Text) → AreBlanks gap → past_gap false gap ≡ [] → past_gap false (10 ∷ []) ≡ [] → AllByRecursion (IsStructType m) ss
      → AllByRecursion AreBytes (struct_names m ss) → AreNew far.structs (struct_names m ss) → length far.struct_types + length ss < 2 ^ 32 → outside far ≡ far
      → ((structs : List Text) (ts : List StructType) → ComesAfter (record far { structs = structs; struct_types = ts }))
      → Ready (known m nobody named far) 0 i (gap ++ (flat_map (struct_line m) ss ++ after_structs)) → StructsGo ss far i
  structs_go [] far i gap blanks past past_line are own new few out afterwards ready =
      let h = afterwards far.structs far.struct_types i gap blanks past out ready in
      let w = h.11 in (
        h.0,
        h.1,
        h.2,
        h.3,
        h.4,
        h.5,
        [],
        h.6,
        h.7,
        h.8,
        h.9,
        h.10,
        record {
          more_structs = w.same_structs ∙ sym (append-nil far.structs);
          more_globals = w.more_globals;
          more_functions = w.more_functions;
          more_struct_types = w.same_struct_types ∙ sym (append-nil far.struct_types);
          more_items = w.more_items;
          more_declares = w.more_declares;
          more_defines = w.more_defines;
        },
        λ n later. tt,
        h.12,
        h.13,
        h.14,
      )
  structs_go (s ∷ ss) far i gap blanks past past_line are own new few out afterwards ready =
      let name = name_at m.struct_names s.name in
      let text = flat_map (struct_line m) ss ++ after_structs in
      let here = subst (λ (t : Text). Ready (known m nobody named far) 0 i (gap ++ t)) (append_assoc (struct_line m s) (flat_map (struct_line m) ss) after_structs) ready in
      let one = struct_goes m nobody named (types_given m) far s are.0.0 i gap text own.0 new.0 (omega (arith, few)) are.0.1 are.0.2 blanks here in
      let p = one.1 in
      let x = one.6.0 in
      let mid : Far = record far { structs = far.structs ++ name ∷ []; struct_types = far.struct_types ++ x ∷ [] } in
      let size = length-append far.struct_types (x ∷ []) in
      let ready_p = subst (λ (z : Far). Ready (known m nobody named z) 0 p (10 ∷ text)) one.6.1 one.4 in
      let out_mid : outside mid ≡ mid = ap (λ (z : Far). record z { structs = far.structs ++ name ∷ []; struct_types = far.struct_types ++ x ∷ [] }) out in
      let next = structs_go ss mid p (10 ∷ []) refl past_line past_line are.1 own.1 new.1 (omega (arith, few, size)) out_mid afterwards ready_p in
      let o = next.1 in
      let w = next.12 in
      let e = struct_kind m s i gap text own.0 blanks here.stands in
      let goes = unlike k.End is_local_name i refl (ap is_local_name e) in (
        tt ∷ next.0,
        next.1,
        next.2,
        next.3,
        next.4,
        next.5,
        x ∷ next.6,
        next.7,
        (goes, p, item_is k.LocalName i p e one.3, next.8),
        next.9,
        next.10,
        reaches_further i p o (widens_reaches i p one.5) next.11,
        record {
          more_structs = w.more_structs ∙ append_assoc far.structs (name ∷ []) (struct_names m ss);
          more_globals = w.more_globals;
          more_functions = w.more_functions;
          more_struct_types = w.more_struct_types ∙ append_assoc far.struct_types (x ∷ []) next.6;
          more_items = w.more_items;
          more_declares = w.more_declares;
          more_defines = w.more_defines;
        },
        λ n later. (one.6.2 n p.locals.names (later_than p o n next.11 later), next.13 n later),
        next.14,
        next.15,
        next.16,
      )
