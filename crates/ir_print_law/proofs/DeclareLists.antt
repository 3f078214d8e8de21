-- All declared functions of a module, and the functions after them.
use Rattle.std.proofs.Common.{◌≡◌, ℕ, ◌+◌, ◌≤◌, Bool, true, false, List, [], ◌∷◌, ◌++◌, length, map, refl, sym, ap, subst, ◌∙◌, arith, append_assoc, length-append, inl, inr}
use Rattle.std.specs.Prelude.{codes}
use Rattle.std.specs.List.{AllByRecursion, flat_map}
use Rattle.std.proofs.lemmas.List.{append-nil}
use Rattle.lemmas.specs.Lists.{in_first, IsIn}
use Rattle.grammar.specs.Many.{Listed}
use Rattle.ir_ast.specs.declared.function.Function.{Function}
use Rattle.ir_ast.specs.declared.module.Module.{Module}
use Rattle.ir_tokens.specs.declared.token.Kind.{Kind}
use Rattle.ir_tokens.specs.declared.token.Kind.TheVariants as k
use Rattle.ir_tokens.specs.Bytes.{Text, class_of}
use Rattle.ir_tokens.specs.Keywords.{word_kind, keywords}
use Rattle.ir_tokens.specs.Tokens.{past_gap}
use Rattle.ir_forms.specs.Cursor.{kind}
use Rattle.ir_forms.specs.declared.input.Input.{Input}
use Rattle.ir_text.specs.ItemsOfText.{item, at_end_of_text}
use Rattle.ir_print.specs.Items.{function_text, declare_line}
use Rattle.ir_print.specs.Operands.{listed}
use Rattle.ir_print.specs.Types.{type_text}
use Rattle.ir_ast.specs.declared.items_of_module.Declare.{Declare}
use Rattle.ir_print_law.proofs.Tables.{begins_further, begins_itself}
use Rattle.ir_print_law.proofs.Types.{Comes}
use Rattle.ir_print_law.proofs.DeclareLines.{declare_goes}
use Rattle.ir_print_law.proofs.Results.{begins_item}
use Rattle.ir_print_law.proofs.FunctionLists.{function_names, define_comes, functions_go}
use Rattle.ir_print.specs.Names.{name_at, global_text}
use Rattle.ir_print_law.specs.Stands.{Stands, AreBlanks}
use Rattle.ir_print_law.proofs.Words.{word_comes}
use Rattle.ir_print_law.specs.Definitions.{AreNew, defined_globals, declared_functions}
use Rattle.ir_print_law.specs.Printable.{IsFunction, IsDeclare, IsPrintable, IsSymbol}
use Rattle.ir_print_law.specs.PartsAgain.{AreAlike}
use Rattle.ir_print_law.specs.Again.{IsDeclareAgain, IsFunctionAgain}
use Rattle.ir_print_law.proofs.State.{Ready, IsLater}
use Rattle.ir_print_law.proofs.Steps.{unlike}
use Rattle.ir_print_law.proofs.WholeFunctionEnds.{nobody, Reaches, reaches_further, widens_reaches, IsModuleLater}
use Rattle.ir_print_law.proofs.Known.{Far, AreNamed, known}
use Rattle.ir_print_law.proofs.OpsGiven.{types_given}
use Rattle.ir_print_law.proofs.Steady.{outside}
use Rattle.ir_print_law.proofs.WholeEnds.{ends_there}

abbrev pub declared_names : Module → List Declare → List Text
declared_names m ds = map (λ (d : Declare). name_at m.symbols d.symbol) ds

abbrev is_declare : Kind → Bool
is_declare k.Declare = true
is_declare _ = false

declare_comes : (m : Module) (d : Declare) (i : Input) (gap rest : Text) → AreBlanks gap → Stands i.cursor (gap ++ (declare_line m d ++ rest)) → kind i.cursor ≡ k.Declare
unfolding class_of word_kind keywords
declare_comes m d i gap rest blanks at = (word_comes i.cursor gap (codes "declare") _ blanks refl refl at).0

parts_long : (m : Module) (ps : List ℕ) → length ps ≤ length (flat_map (λ (p : ℕ). codes ", " ++ type_text m p) ps)
parts_long m [] = omega arith
parts_long m (p ∷ ps) = let a = length-append (codes ", " ++ type_text m p) (flat_map (λ (p : ℕ). codes ", " ++ type_text m p) ps) in let b = parts_long m ps in omega (arith, a, b)

listed_long : (m : Module) (ps : List ℕ) → length ps ≤ length (listed (type_text m) ps) + 1
listed_long m [] = omega arith
listed_long m (p ∷ ps) = let a = length-append (type_text m p) (flat_map (λ (p : ℕ). codes ", " ++ type_text m p) ps) in let b = parts_long m ps in omega (arith, a, b)

line_long : (m : Module) (d : Declare) → length d.parameters ≤ length (declare_line m d) + 1
line_long m d =
    let a = codes "declare " ++ type_text m d.returned ++ 32 ∷ global_text m d.symbol in
    let x = length-append (a ++ 40 ∷ listed (type_text m) d.parameters) (codes ")\n") in
    let y = length-append a (40 ∷ listed (type_text m) d.parameters) in
    let z = listed_long m d.parameters in
    omega (arith, x, y, z)

-- after a line comes a declared function, a defined one, or the end
pub declares_begin : (m : Module) (ds : List Declare) (fs : List Function) → past_gap false (10 ∷ []) ≡ [] → Comes begins_item (10 ∷ (flat_map (declare_line m) ds ++ flat_map (function_text m) fs))
declares_begin m [] [] past = λ i at. ap begins_item (ends_there i.cursor (10 ∷ []) past at).0
declares_begin m [] (f ∷ fs) past = λ i at. ap begins_item (define_comes m f i (10 ∷ []) (flat_map (function_text m) fs) refl at)
declares_begin m (d ∷ ds) fs past = λ i at.
    ap begins_item (declare_comes m d i (10 ∷ []) (flat_map (declare_line m) ds ++ flat_map (function_text m) fs) refl
    (subst (λ (t : Text). Stands i.cursor (10 ∷ t)) (append_assoc (declare_line m d) (flat_map (declare_line m) ds) (flat_map (function_text m) fs)) at))

-- the names and items that stay, and those that come with declared functions
pub record WithDeclares (far now : Far) (names : List Text) (xs : List Declare) (gs : List Function) : Type 0 where
  pub same_structs : now.structs ≡ far.structs
  pub same_globals : now.globals ≡ far.globals
  pub more_functions : now.functions ≡ far.functions ++ names
  pub same_struct_types : now.struct_types ≡ far.struct_types
  pub same_items : now.global_items ≡ far.global_items
  pub more_declares : now.declares ≡ far.declares ++ xs
  pub more_defines : now.defines ≡ far.defines ++ gs

pub later_than : (p o : Input) (n : Module) → Reaches p o → IsModuleLater o n → IsLater p n p.locals.names
later_than p o n a b = record {
  types = begins_further p.types o.types n.types a.types b.types;
  structs = begins_further p.struct_names.names o.struct_names.names n.struct_names a.structs b.structs;
  symbols = begins_further p.symbols.names o.symbols.names n.symbols a.symbols b.symbols;
  locals = begins_itself p.locals.names;
}

module _ (m : Module) (is : IsPrintable m) (named : AreNamed m nobody) where
  abbrev pub DeclaresGo : List Declare → List Function → Far → Input → Type 0
  DeclaresGo ds fs far i =
      (us : List (Unit {0})) × (o : Input) × (now : Far) × (gs : List Function) × (xs : List Declare) × (gap : Text) × Listed at_end_of_text item.says i us o × Ready (known m nobody named now) 0 o gap
      × (past_gap false gap ≡ []) × Reaches i o × WithDeclares far now (declared_names m ds ++ function_names m fs) xs gs
      × ((n : Module) → IsModuleLater o n → AreAlike (IsDeclareAgain m n) ds xs) × ((n : Module) → IsModuleLater o n → AreAlike (IsFunctionAgain m n) fs gs)

  pub declares_go : (ds : List Declare) (fs : List Function) (far : Far) (i : Input) (gap : Text) → AreBlanks gap → past_gap false gap ≡ [] → past_gap false (10 ∷ []) ≡ [] → AllByRecursion (IsDeclare m) ds
      → AllByRecursion (IsFunction m) fs → AllByRecursion (IsSymbol m.wide) (declared_names m ds ++ function_names m fs) → AreNew far.symbols (declared_names m ds ++ function_names m fs)
      → ((name : Text) → IsIn name far.globals → IsIn name far.symbols) → ((name : Text) → IsIn name (declared_names m ds ++ function_names m fs) → IsIn name (defined_globals m) → ⊥)
      → ((name : Text) → IsIn name (function_names m fs) → IsIn name (declared_functions m) → ⊥) → length far.declares + length ds ≤ 65535 → length far.defines + length fs ≤ 65535 → outside far ≡ far
      → Ready (known m nobody named far) 0 i (gap ++ (flat_map (declare_line m) ds ++ flat_map (function_text m) fs)) → DeclaresGo ds fs far i
  declares_go [] fs far i gap blanks past past_line are functions symbols new globals never other few few_functions out ready =
      let h = functions_go m is named fs far i gap blanks past past_line functions symbols new globals never other few_functions out ready in
      let w = h.9 in (
        h.0,
        h.1,
        h.2,
        h.3,
        [],
        h.4,
        h.5,
        h.6,
        h.7,
        h.8,
        record {
          same_structs = w.same_structs;
          same_globals = w.same_globals;
          more_functions = w.more_functions;
          same_struct_types = w.same_struct_types;
          same_items = w.same_items;
          more_declares = w.same_declares ∙ sym (append-nil far.declares);
          more_defines = w.more_defines;
        },
        λ n later. tt,
        h.10,
      )
  declares_go (d ∷ ds) fs far i gap blanks past past_line are functions symbols new globals never other few few_functions out ready =
      let name = name_at m.symbols d.symbol in
      let afterwards = flat_map (declare_line m) ds ++ flat_map (function_text m) fs in
      let here = subst (λ (t : Text). Ready (known m nobody named far) 0 i (gap ++ t)) (append_assoc (declare_line m d) (flat_map (declare_line m) ds) (flat_map (function_text m) fs)) ready in
      let unnamed : 0 ≡ far.unnamed = ap (λ (x : Far). x.unnamed) out in
      let room = here.room.types in
      let a = length-append gap (declare_line m d ++ afterwards) in
      let b = length-append (declare_line m d) afterwards in
      let c = line_long m d in
      let one = declare_goes m nobody named (types_given m) far d i gap afterwards are.0 symbols.0.0 symbols.0.1 new.0 (λ g. new.0 (globals name g)) (never name (inl refl)) (omega (arith, few))
      (omega (arith, unnamed, room, a, b, c)) (declares_begin m ds fs past_line) blanks here in
      let p = one.0 in
      let x = one.1 in
      let mid : Far = record far { symbols = far.symbols ++ name ∷ []; functions = far.functions ++ name ∷ []; declares = far.declares ++ x ∷ []; unnamed = 0 } in
      let size = length-append far.declares (x ∷ []) in
      let out_mid : outside mid ≡ mid = ap (λ (y : Far). record y { symbols = far.symbols ++ name ∷ []; functions = far.functions ++ name ∷ []; declares = far.declares ++ x ∷ []; unnamed = 0 }) out in
      let next = declares_go ds fs mid p (10 ∷ []) refl past_line past_line are.1 functions symbols.1 new.1 (λ k h. in_first k far.symbols (name ∷ []) (globals k h)) (λ k h. never k (inr h)) other
      (omega (arith, few, size)) few_functions out_mid one.3 in
      let o = next.1 in
      let now = next.2 in
      let w = next.10 in
      let goes = unlike k.End is_declare i refl (ap is_declare (declare_comes m d i gap afterwards blanks here.stands)) in (
        tt ∷ next.0,
        next.1,
        next.2,
        next.3,
        x ∷ next.4,
        next.5,
        (goes, p, one.2, next.6),
        next.7,
        next.8,
        reaches_further i p o (widens_reaches i p one.4) next.9,
        record {
          same_structs = w.same_structs;
          same_globals = w.same_globals;
          more_functions = w.more_functions ∙ append_assoc far.functions (name ∷ []) (declared_names m ds ++ function_names m fs);
          same_struct_types = w.same_struct_types;
          same_items = w.same_items;
          more_declares = w.more_declares ∙ append_assoc far.declares (x ∷ []) next.4;
          more_defines = w.more_defines;
        },
        λ n later. (one.5 n p.locals.names (later_than p o n next.9 later), next.11 n later),
        next.12,
      )
