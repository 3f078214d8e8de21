-- The line of a declared function is read as that function.
use Rattle.std.proofs.Common.{◌≡◌, ℕ, ◌+◌, ◌<◌, Bool, true, false, List, [], ◌∷◌, ◌++◌, length, slice_get, Some, refl, sym, ap, ap₂, subst, ◌∙◌, arith, append_assoc}
use Rattle.std.specs.Prelude.{◌&&◌, codes, nat_lt}
use Rattle.std.proofs.lemmas.Bool.Decides.{nat_tests}
use Rattle.lemmas.specs.Lists.{IsIn}
use Rattle.ir_ast.specs.declared.function.Function.{Function}
use Rattle.ir_ast.specs.declared.items_of_module.Declare.{Declare}
use Rattle.ir_ast.specs.declared.items_of_module.SymbolSort.TheVariants as symbol
use Rattle.ir_ast.specs.declared.module.Module.{Module}
use Rattle.ir_tokens.specs.declared.token.Kind.{Kind}
use Rattle.ir_tokens.specs.declared.token.Kind.TheVariants as k
use Rattle.ir_tokens.specs.Bytes.{Text, class_of}
use Rattle.ir_tokens.specs.Keywords.{word_kind, keywords}
use Rattle.ir_forms.specs.Cursor.{sees, spelled}
use Rattle.ir_ast.specs.RuntimeNames.{runtime_of}
use Rattle.ir_forms.specs.Intrinsics.{is_left_out}
use Rattle.ir_forms.specs.declared.input.Input.{Input}
use Rattle.ir_forms.specs.Names.{with_symbol}
use Rattle.ir_text.specs.ItemsOfText.{declaration, declare_by, names_left_out, function_name, function_name_by, item, item_by, with_declare}
use Rattle.ir_text.specs.Parameters.{declared_parameters}
use Rattle.ir_print.specs.Items.{declare_line}
use Rattle.name_text.specs.Names.{name_text}
use Rattle.name_text.specs.Reading.{name_spelled}
use Rattle.name_text.specs.Readings.{AreBytes}
use Rattle.name_text.specs.declared.blank.Blank.TheVariants as blank
use Rattle.ir_print.specs.Names.{name_at, global_text}
use Rattle.ir_print.specs.Operands.{listed}
use Rattle.ir_print_law.specs.Stands.{AreBlanks}
use Rattle.ir_print.specs.Types.{type_text}
use Rattle.ir_print_law.proofs.Words.{global_comes}
use Rattle.ir_print_law.specs.Definitions.{defined_globals}
use Rattle.ir_print_law.specs.Printable.{IsDeclare}
use Rattle.ir_print_law.proofs.Tables.{stays, begins_itself}
use Rattle.ir_print_law.specs.Again.{IsDeclareAgain}
use Rattle.ir_print_law.proofs.State.{Ready, IsLater}
use Rattle.ir_print_law.proofs.Steps.{word_skipped, word_seen, sign_reads}
use Rattle.ir_print_law.proofs.Types.{Comes}
use Rattle.ir_print_law.proofs.DeclaredLists.{dots_said, declared_go, far_numbered}
use Rattle.ir_print_law.proofs.Defining.{function_defined}
use Rattle.ir_print_law.proofs.WholeForms.{Goes, Widens, widens_further, grows_widens, later_widened}
use Rattle.ir_print_law.proofs.Known.{Far, AreNamed, known, SymbolsKnown}
use Rattle.ir_print_law.proofs.Needs.{TypesRead}
use Rattle.ir_print_law.proofs.NewNames.{SymbolsThen, new_symbol_goes}
use Rattle.ir_print_law.proofs.Results.{declared_result_reads, declared_end_reads, begins_item}
use Rattle.ir_print_law.proofs.Undropped.{and_last}

pub below_most : (n : ℕ) → n < 65535 → nat_lt n 65535 ≡ true
below_most n less = grind (arith, nat_tests)

abbrev after_open : Module → Declare → (rest : Text) → Text
after_open m d rest = listed (type_text m) d.parameters ++ 41 ∷ 10 ∷ rest

abbrev after_result : Module → Declare → (rest : Text) → Text
after_result m d rest = 32 ∷ 64 ∷ (name_text blank.Kept (name_at m.symbols d.symbol) ++ 40 ∷ after_open m d rest)

line_is : (m : Module) (d : Declare) (rest : Text) → declare_line m d ++ rest ≡ codes "declare " ++ (type_text m d.returned ++ after_result m d rest)
line_is m d rest =
    let a = codes "declare " in
    let t = type_text m d.returned in
    let g = 32 ∷ global_text m d.symbol in
    let l = 40 ∷ listed (type_text m) d.parameters in
    let e = codes ")\n" in
    append_assoc (a ++ t ++ g ++ l) e rest ∙ append_assoc (a ++ t ++ g) l (e ++ rest) ∙ append_assoc (a ++ t) g (l ++ (e ++ rest)) ∙ append_assoc a t (g ++ (l ++ (e ++ rest)))

module _ (m : Module) (f : Function) (named : AreNamed m f) (types : TypesRead m) (far : Far) where
  abbrev far_named : Text → Far
  far_named name = record far { symbols = far.symbols ++ name ∷ []; functions = far.functions ++ name ∷ [] }

  -- what is known after the line
  abbrev pub far_declared : Text → Declare → Far
  far_declared name d = record far { symbols = far.symbols ++ name ∷ []; functions = far.functions ++ name ∷ []; declares = far.declares ++ d ∷ []; unnamed = 0 }

  abbrev pub DeclareGoes : Declare → Input → (rest : Text) → Type 0
  DeclareGoes d i rest =
      (o : Input) × (x : Declare) × item.says i tt o × Ready (known m f named (far_declared (name_at m.symbols d.symbol) x)) 0 o (10 ∷ rest) × Widens i o
      × ((n : Module) (others : List Text) → IsLater o n others → IsDeclareAgain m n d x)

  name_step : (name : Text) (number : ℕ) (i : Input) → (IsIn name far.globals → ⊥) → (IsIn name (defined_globals m) → ⊥)
      → SymbolsThen m f named far far.globals (far.functions ++ name ∷ []) name (symbol.Declared number) i
  name_step name number i apart never = λ h e.
      subst (λ (x : Text). SymbolsKnown m (far.symbols ++ x ∷ []) far.globals (far.functions ++ x ∷ []) (with_symbol (symbol.Declared number) i).symbols i.symbol_uses) e
      (function_defined m far.symbols far.globals far.functions i.symbols i.symbol_uses (spelled i.cursor) (symbol.Declared number) tt
      (λ is. apart (subst (λ (x : Text). IsIn x far.globals) e is)) (λ is. never (subst (λ (x : Text). IsIn x (defined_globals m)) e is)) (λ is. refl) h)

  name_reads : (number : ℕ) (i : Input) (name rest : Text) → AreBytes name → is_left_out m.wide name ≡ false → (IsIn name far.symbols → ⊥) → (IsIn name far.globals → ⊥) → (IsIn name (defined_globals m) → ⊥)
      → Ready (known m f named far) 0 i (32 ∷ 64 ∷ (name_text blank.Kept name ++ 40 ∷ rest))
      → Goes (known m f named (far_named name)) 0 (function_name (symbol.Declared number)) i (40 ∷ rest) (λ n o. slice_get o.symbols.names n ≡ Some name)
  unfolding function_name class_of
  name_reads number i name rest own allowed none apart never ready =
      let e = (global_comes i.cursor (32 ∷ []) name (40 ∷ rest) refl own refl ready.stands).0 in
      let a = new_symbol_goes m f named far far.globals (far.functions ++ name ∷ []) (symbol.Declared number) name i (32 ∷ []) (40 ∷ rest) 0 own allowed none
      (name_step name number i apart never) refl refl ready in
      let n = a.0 in
      let o = a.1 in
      (a.0, a.1, subst (λ (x : Kind). (function_name_by (symbol.Declared number) x).says i n o) (sym e) a.2, a.3, a.4, a.5)

  pub declare_goes : (d : Declare) (i : Input) (gap rest : Text) → IsDeclare m d → AreBytes (name_at m.symbols d.symbol) → is_left_out m.wide (name_at m.symbols d.symbol) ≡ false
      → (IsIn (name_at m.symbols d.symbol) far.symbols → ⊥) → (IsIn (name_at m.symbols d.symbol) far.globals → ⊥) → (IsIn (name_at m.symbols d.symbol) (defined_globals m) → ⊥)
      → length far.declares < 65535 → far.unnamed + length d.parameters < 4294967295 → Comes begins_item (10 ∷ rest) → AreBlanks gap
      → Ready (known m f named far) 0 i (gap ++ (declare_line m d ++ rest)) → DeclareGoes d i rest
  unfolding item declaration declared_parameters class_of word_kind keywords
  declare_goes d i gap rest is own allowed none apart never few few_parameters comes blanks ready =
      let name = name_at m.symbols d.symbol in
      let afterwards = type_text m d.returned ++ after_result m d rest in
      let v = known m f named far in
      let w = known m f named (far_named name) in
      let here = subst (λ (t : Text). Ready (known m f named far) 0 i (gap ++ t)) (line_is m d rest) ready in
      let kind_is = word_seen v (codes "declare") i gap (32 ∷ afterwards) 0 blanks refl refl here in
      let a = word_skipped v (codes "declare") i gap (32 ∷ afterwards) 0 0 blanks refl refl (omega arith) here in
      let p = a.1 in
      let b = declared_result_reads m f v types d.returned p (32 ∷ []) name (40 ∷ after_open m d rest) is.0 own refl refl a.3 in
      let q = b.1 in
      let spelled_is : spelled q.cursor ≡ name_at m.symbols d.symbol =
      (global_comes q.cursor (32 ∷ []) name (40 ∷ after_open m d rest) refl own refl b.3.stands).2 ∙ name_spelled blank.Kept name own in
      let number = length i.declares in
      let kept : names_left_out q ≡ false =
      and_last q.wide (sees k.GlobalName q.cursor && is_left_out q.wide (spelled q.cursor))
      (and_last (sees k.GlobalName q.cursor) (is_left_out q.wide (spelled q.cursor)) (ap₂ is_left_out b.3.forms spelled_is ∙ allowed)) in
      let c = name_reads (length i.declares) q name (after_open m d rest) own allowed none apart never b.3 in
      let r = c.1 in
      let g = sign_reads w 40 k.OpenRound r [] (after_open m d rest) 0 0 refl refl refl (omega arith) c.3 in
      let s = g.1 in
      let e = declared_go m f named types d.parameters (far_named name) s (10 ∷ rest) is.1 few_parameters g.3 in
      let t = e.1 in
      let now = far_numbered m f named types (far_named name) e.2 in
      let h = sign_reads (known m f named now) 41 k.CloseRound t [] (10 ∷ rest) 0 0 refl refl refl (omega arith) e.4 in
      let u = h.1 in
      let l = declared_end_reads m f (known m f named now) types u (10 ∷ rest) comes h.3 in
      let x : Declare = record { symbol = c.0; runtime = runtime_of (spelled q.cursor); returned = b.0; parameters = e.0 } in
      let y = l.1 in
      let o = with_declare x y in
      let k_holds = l.3.holds in
      let room_y = l.3.room in
      let counted : length i.declares < 65535 = subst (λ (y : List Declare). length y < 65535) (sym ready.holds.3.declares_are) few in
      let wide_o : Widens y o = record { types = begins_itself y.types; structs = begins_itself y.struct_names.names; symbols = begins_itself y.symbols.names; locals = begins_itself y.locals.names } in
      let wide_t = widens_further t u o (grows_widens t u h.4) (widens_further u y o (grows_widens u y l.4) wide_o) in
      let wide_r = widens_further r s o (grows_widens r s g.4) (widens_further s t o e.5 wide_t) in
      let wide_q = widens_further q r o c.4 wide_r in
      let wide_i = widens_further i p o (grows_widens i p a.4) (widens_further p q o (grows_widens p q b.4) wide_q) in (
        with_declare (record { symbol = c.0; runtime = runtime_of (spelled q.cursor); returned = b.0; parameters = e.0 }) l.1,
        record { symbol = c.0; runtime = runtime_of (spelled q.cursor); returned = b.0; parameters = e.0 },
        subst (λ (z : Kind). (item_by z).says i tt o) (sym kind_is) (
          tt,
          i,
          (below_most number counted, refl),
          (tt, p, a.2, (b.0, q, b.2, subst (λ (z : Bool). (declare_by (length i.declares) b.0 z).says q tt o) (sym kept) (c.0, r, c.2, (tt, s, g.2, (e.0, t, (e.0, t, e.3, (false, t, dots_said t (10 ∷ rest) e.4.stands, (refl, refl))), (tt, u, h.2, (l.0, y, l.2, (refl, refl)))))))),
        ),
        record {
          stands = l.3.stands;
          ordered = l.3.ordered;
          forms = l.3.forms;
          room = record { types = room_y.types; structs = room_y.structs; symbols = room_y.symbols; locals = room_y.locals };
          holds = (
            k_holds.0,
            k_holds.1,
            k_holds.2,
            record {
              values_are = k_holds.3.values_are;
              unnamed_is = refl;
              none_missing = k_holds.3.none_missing;
              structs_are = k_holds.3.structs_are;
              globals_are = k_holds.3.globals_are;
              declares_are = ap (λ (z : List Declare). z ++ x ∷ []) k_holds.3.declares_are;
              functions_are = k_holds.3.functions_are;
            },
          );
        },
        wide_i,
        λ n others later.
            let at_r = later_widened r o n others wide_r later in
            record {
              symbol = stays r.symbols.names n.symbols c.0 name at_r.symbols c.5;
              runtime = is.2 ∙ ap runtime_of (sym spelled_is);
              returned = b.5 n others (later_widened q o n others wide_q later);
              parameters = e.6 n others (later_widened t o n others wide_t later);
            },
      )
