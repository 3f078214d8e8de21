-- A defined function is read as that function.
use Rattle.std.proofs.Common.{◌≡◌, ℕ, suc, ◌<◌, false, List, [], ◌∷◌, ◌++◌, length, map, slice_get, Some, refl, sym, ap, subst, ◌∙◌, arith, append_assoc, length-append}
use Rattle.std.specs.Prelude.{codes}
use Rattle.std.specs.List.{AllByRecursion, flat_map}
use Rattle.std.proofs.lemmas.List.{append-nil}
use Rattle.lemmas.specs.Lists.{IsIn}
use Rattle.ir_print_law.proofs.DeclareLines.{below_most}
use Rattle.ir_ast.specs.declared.function.Function.{Function}
use Rattle.ir_ast.specs.declared.function.Parameter.{Parameter}
use Rattle.ir_ast.specs.declared.items_of_module.SymbolSort.TheVariants as symbol
use Rattle.ir_ast.specs.declared.module.Module.{Module}
use Rattle.ir_tokens.specs.declared.token.Kind.{Kind}
use Rattle.ir_tokens.specs.declared.token.Kind.TheVariants as k
use Rattle.ir_tokens.specs.Bytes.{Text, class_of}
use Rattle.ir_tokens.specs.Keywords.{word_kind, keywords}
use Rattle.ir_forms.specs.Cursor.{spelled}
use Rattle.ir_forms.specs.Intrinsics.{is_left_out}
use Rattle.ir_forms.specs.declared.input.Input.{Input}
use Rattle.ir_forms.specs.Names.{with_symbol}
use Rattle.ir_text.specs.ItemsOfText.{definition, head, function_name, function_name_by, item, item_by}
use Rattle.ir_text.specs.Parameters.{parameters}
use Rattle.ir_print.specs.Blocks.{block_text}
use Rattle.ir_print.specs.Items.{head_line, function_text, parameter_text, collector_text}
use Rattle.name_text.specs.Names.{name_text}
use Rattle.name_text.specs.Readings.{AreBytes}
use Rattle.name_text.specs.declared.blank.Blank.TheVariants as blank
use Rattle.ir_print.specs.Names.{name_at, global_text}
use Rattle.ir_print.specs.Operands.{listed}
use Rattle.ir_print_law.specs.Readings.{IsKey}
use Rattle.ir_print_law.specs.Stands.{AreBlanks}
use Rattle.ir_print.specs.Types.{type_text}
use Rattle.ir_print_law.proofs.Words.{global_comes}
use Rattle.ir_print_law.specs.Definitions.{AreDefined, defined_keys, parameter_key, parameter_keys, value_keys_of, block_keys, defined_globals, declared_functions}
use Rattle.ir_print_law.specs.Printable.{IsFunction}
use Rattle.ir_print_law.proofs.Tables.{Begins, stays, begins_further}
use Rattle.ir_print_law.specs.PartsAgain.{AreAlike, IsResultAgain}
use Rattle.ir_print_law.specs.Again.{IsParameterAgain, IsFunctionAgain}
use Rattle.ir_print_law.proofs.State.{Ready, IsLater}
use Rattle.ir_print_law.proofs.Steps.{word_skipped, word_seen, sign_reads}
use Rattle.ir_print_law.proofs.BlockLines.{HasKeys}
use Rattle.ir_print_law.proofs.Defining.{function_defined}
use Rattle.ir_print_law.proofs.WholeForms.{Goes, Widens, widens_further, grows_widens, ready_as}
use Rattle.ir_print_law.proofs.WholeFunctionEnds.{nobody, locals_enter, far_function, Reaches, widens_reaches, reaches_further, IsModuleLater, body_goes, same_outside}
use Rattle.ir_print_law.proofs.Known.{Far, AreNamed, known, SymbolsKnown}
use Rattle.ir_print_law.proofs.Needs.{TypesRead}
use Rattle.ir_print_law.proofs.NewNames.{SymbolsThen, new_symbol_goes}
use Rattle.ir_print_law.proofs.OpNeeds.{OpsRead}
use Rattle.ir_print_law.proofs.ParameterLists.{parameters_go}
use Rattle.ir_print_law.proofs.Results.{defined_result_reads, head_end_reads}
use Rattle.ir_print_law.proofs.Steady.{Steady, outside}

-- the head of a function after its parameters
abbrev after_close : Function → (rest : Text) → Text
after_close f rest = collector_text f.collector ++ 32 ∷ 123 ∷ 10 ∷ rest

abbrev after_open : Module → Function → (rest : Text) → Text
after_open m f rest = listed (parameter_text m f.locals) f.parameters ++ 41 ∷ after_close f rest

abbrev after_result : Module → Function → (rest : Text) → Text
after_result m f rest = 32 ∷ 64 ∷ (name_text blank.Kept (name_at m.symbols f.symbol) ++ 40 ∷ after_open m f rest)

head_is : (m : Module) (f : Function) (rest : Text) → head_line m f ++ rest ≡ codes "define " ++ (type_text m f.returned ++ after_result m f rest)
head_is m f rest =
    let a = codes "define " in
    let t = type_text m f.returned in
    let g = 32 ∷ global_text m f.symbol in
    let l = 40 ∷ listed (parameter_text m f.locals) f.parameters in
    let c = 41 ∷ collector_text f.collector in
    let e = codes " {\n" in
    append_assoc (a ++ t ++ g ++ l ++ c) e rest ∙ append_assoc (a ++ t ++ g ++ l) c (e ++ rest) ∙ append_assoc (a ++ t ++ g) l (c ++ (e ++ rest))
    ∙ append_assoc (a ++ t) g (l ++ (c ++ (e ++ rest))) ∙ append_assoc a t (g ++ (l ++ (c ++ (e ++ rest))))

-- the text of a function, and what follows it
function_is : (m : Module) (f : Function) (rest : Text) → function_text m f ++ rest ≡ head_line m f ++ (flat_map (block_text m f.locals) f.blocks ++ 125 ∷ 10 ∷ rest)
function_is m f rest =
    let blocks = flat_map (block_text m f.locals) f.blocks in
    append_assoc (head_line m f ++ blocks) (codes "}\n") rest ∙ append_assoc (head_line m f) blocks (125 ∷ 10 ∷ rest)

module _ (m : Module) (f : Function) (named : AreNamed m f) (nobody_named : AreNamed m nobody) (types : TypesRead m) (ops : OpsRead m f named) (far : Far) where
  -- what is known after the name of the function
  abbrev far_named : Text → Far
  far_named name = record (outside far) { symbols = far.symbols ++ name ∷ []; functions = far.functions ++ name ∷ [] }

  abbrev pub IsDefinitionRead : Function → Input → Type 0
  IsDefinitionRead g o = (n : Module) → IsModuleLater o n → IsFunctionAgain m n f g

  abbrev pub DefinitionGoes : Input → (rest : Text) → Type 0
  DefinitionGoes i rest =
      (o : Input) × (g : Function) × item.says i tt o × Ready (known m nobody nobody_named (far_function m f named nobody_named ops (far_named (name_at m.symbols f.symbol)) g)) 0 o (10 ∷ rest)
      × Reaches i o × IsDefinitionRead g o

  first_steady : (name : Text) → AreDefined [] 0 (defined_keys f) → Steady (far_named name) (map (parameter_key f.locals) f.parameters ++ flat_map (block_keys f.locals) f.blocks)
  first_steady name h = record {
    none_waits = refl;
    few_unnamed = omega arith;
    counted = refl;
    labels_seen = λ key is. absurd is;
    values_seen = λ key is. absurd is;
    defines_next = h;
  }

  name_step : (name : Text) (number : ℕ) (i : Input) → (IsIn name far.globals → ⊥) → (IsIn name (defined_globals m) → ⊥) → (IsIn name (declared_functions m) → ⊥)
      → SymbolsThen m f named (outside far) far.globals (far.functions ++ name ∷ []) name (symbol.Defined number) i
  name_step name number i apart never other = λ h e.
      subst (λ (x : Text). SymbolsKnown m (far.symbols ++ x ∷ []) far.globals (far.functions ++ x ∷ []) (with_symbol (symbol.Defined number) i).symbols i.symbol_uses) e
      (function_defined m far.symbols far.globals far.functions i.symbols i.symbol_uses (spelled i.cursor) (symbol.Defined number) tt
      (λ is. apart (subst (λ (x : Text). IsIn x far.globals) e is)) (λ is. never (subst (λ (x : Text). IsIn x (defined_globals m)) e is))
      (λ is. absurd (other (subst (λ (x : Text). IsIn x (declared_functions m)) e is))) h)

  -- the name of the function
  name_reads : (number : ℕ) (i : Input) (name rest : Text) → AreBytes name → is_left_out m.wide name ≡ false → (IsIn name far.symbols → ⊥) → (IsIn name far.globals → ⊥) → (IsIn name (defined_globals m) → ⊥)
      → (IsIn name (declared_functions m) → ⊥) → Ready (known m f named (outside far)) 0 i (32 ∷ 64 ∷ (name_text blank.Kept name ++ 40 ∷ rest))
      → Goes (known m f named (far_named name)) 0 (function_name (symbol.Defined number)) i (40 ∷ rest) (λ n o. slice_get o.symbols.names n ≡ Some name)
  unfolding function_name class_of
  name_reads number i name rest own allowed none apart never other ready =
      let e = (global_comes i.cursor (32 ∷ []) name (40 ∷ rest) refl own refl ready.stands).0 in
      let a = new_symbol_goes m f named (outside far) far.globals (far.functions ++ name ∷ []) (symbol.Defined number) name i (32 ∷ []) (40 ∷ rest) 0 own allowed none
      (name_step name number i apart never other) refl refl ready in
      let n = a.0 in
      let o = a.1 in
      (a.0, a.1, subst (λ (x : Kind). (function_name_by (symbol.Defined number) x).says i n o) (sym e) a.2, a.3, a.4, a.5)

  map_size : (ps : List Parameter) → length (map (parameter_key f.locals) ps) ≡ length ps
  map_size [] = refl
  map_size (x ∷ ps) = ap suc (map_size ps)

  -- what comes later comes later than an earlier place too
  later_than : (t o : Input) (n : Module) (others : List Text) → Reaches t o → IsModuleLater o n → Begins t.locals.names others → IsLater t n others
  later_than t o n others a b locals = record {
    types = begins_further t.types o.types n.types a.types b.types;
    structs = begins_further t.struct_names.names o.struct_names.names n.struct_names a.structs b.structs;
    symbols = begins_further t.symbols.names o.symbols.names n.symbols a.symbols b.symbols;
    locals = locals;
  }

  pub definition_goes : (i : Input) (gap rest : Text) → IsFunction m f → AllByRecursion IsKey (parameter_keys f) → AllByRecursion (HasKeys m f named ops) f.blocks
      → AreBytes (name_at m.symbols f.symbol) → is_left_out m.wide (name_at m.symbols f.symbol) ≡ false → (IsIn (name_at m.symbols f.symbol) far.symbols → ⊥) → (IsIn (name_at m.symbols f.symbol) far.globals → ⊥)
      → (IsIn (name_at m.symbols f.symbol) (defined_globals m) → ⊥) → (IsIn (name_at m.symbols f.symbol) (declared_functions m) → ⊥) → length far.defines < 65535 → AreBlanks gap
      → Ready (known m nobody nobody_named (outside far)) 0 i (gap ++ (function_text m f ++ rest)) → DefinitionGoes i rest
  unfolding item definition head parameters class_of word_kind keywords
  definition_goes i gap rest is keys block_keys_are own allowed none apart never other few blanks ready =
      let name = name_at m.symbols f.symbol in
      let bytes = flat_map (block_text m f.locals) f.blocks ++ 125 ∷ 10 ∷ rest in
      let afterwards = type_text m f.returned ++ after_result m f bytes in
      let v = known m f named (outside far) in
      let w = known m f named (far_named name) in
      let here = subst (λ (t : Text). Ready (known m nobody nobody_named (outside far)) 0 i (gap ++ t)) (function_is m f rest ∙ head_is m f bytes) ready in
      let entered = ready_as (known m nobody nobody_named (outside far)) (known m f named (outside far)) i (gap ++ (codes "define " ++ afterwards)) 0 (λ h. (h.0, h.1, locals_enter f i.locals i.local_uses h.2, h.3)) here in
      let kind_is = word_seen v (codes "define") i gap (32 ∷ afterwards) 0 blanks refl refl entered in
      let a = word_skipped v (codes "define") i gap (32 ∷ afterwards) 0 0 blanks refl refl (omega arith) entered in
      let p = a.1 in
      let b = defined_result_reads m f v types f.returned p (32 ∷ []) name (40 ∷ after_open m f bytes) is.returned own refl refl a.3 in
      let q = b.1 in
      let number = length i.functions in
      let c = name_reads (length i.functions) q name (after_open m f bytes) own allowed none apart never other b.3 in
      let r = c.1 in
      let d = sign_reads w 40 k.OpenRound r [] (after_open m f bytes) 0 0 refl refl refl (omega arith) c.3 in
      let s = d.1 in
      let value_size = length-append (parameter_keys f) (flat_map (value_keys_of f.locals) f.blocks) in
      let parameter_size = map_size f.parameters in
      let values = is.values in
      let e = parameters_go m f named types f.parameters (flat_map (block_keys f.locals) f.blocks) (far_named name) s (after_close f bytes) is.parameters keys (first_steady name is.definitions)
      (omega (arith, values, value_size, parameter_size)) (omega arith) d.3 in
      let t = e.1 in
      let now = e.2 in
      let on = e.6 in
      let g = sign_reads (known m f named now) 41 k.CloseRound t [] (after_close f bytes) 0 0 refl refl refl (omega arith) e.4 in
      let u = g.1 in
      let h = head_end_reads m f (known m f named now) types f.collector u (10 ∷ bytes) is.collector g.3 in
      let x = h.1 in
      let l = body_goes m f named nobody_named ops c.0 b.0 e.0 h.0 now x rest is.blocks block_keys_are (subst (λ (y : List Text). Steady now y) (sym (append-nil (flat_map (block_keys f.locals) f.blocks))) on.steady)
      on.values_are on.labels_are is.values is.few_blocks is.has_block h.3 in
      let o = l.0 in
      let made = l.1 in
      let read = l.5 in
      let counted : length i.functions < 65535 = subst (λ (y : List Function). length y < 65535) (sym ready.holds.3.functions_are) few in
      let wide_t = widens_further t u x (grows_widens t u g.4) (grows_widens u x h.4) in
      let wide_r = widens_further r s x (grows_widens r s d.4) (widens_further s t x e.5 wide_t) in
      let wide_q = widens_further q r x c.4 wide_r in
      let wide_i = widens_further i p x (grows_widens i p a.4) (widens_further p q x (grows_widens p q b.4) wide_q) in
      let reach = λ (y : Input) (wide : Widens y x). reaches_further y x o (widens_reaches y x wide) l.4 in (
        l.0,
        l.1,
        subst (λ (y : Kind). (item_by y).says i tt o) (sym kind_is) (
          tt,
          i,
          (below_most number counted, refl),
          (
            record { symbol = c.0; returned = b.0; parameters = e.0; collector = h.0 },
            x,
            (tt, p, a.2, (b.0, q, b.2, (c.0, r, c.2, (tt, s, d.2, (e.0, t, e.3, (tt, u, g.2, (h.0, x, h.2, (refl, refl)))))))),
            l.2,
          ),
        ),
        subst (λ (y : Far). Ready (known m nobody nobody_named y) 0 o (10 ∷ rest)) (same_outside m f named nobody_named ops (far_named name) now made on.same_outside) l.3,
        reach i wide_i,
        λ n later.
            let locals_of = λ (y : Input) (wide : Widens y x). begins_further y.locals.names x.locals.names made.locals wide.locals read.4 in
            let at_q = later_than q o n made.locals (reach q wide_q) later (locals_of q wide_q) in
            let at_r = later_than r o n made.locals (reach r wide_r) later (locals_of r wide_r) in
            let at_t = later_than t o n made.locals (reach t wide_t) later (locals_of t wide_t) in
            record {
              symbol = subst (λ (x : ℕ). slice_get n.symbols x ≡ Some (name_at m.symbols f.symbol)) (sym read.0) (stays r.symbols.names n.symbols c.0 name at_r.symbols c.5);
              returned = subst (λ (t : ℕ). IsResultAgain m n f.returned t) (sym read.1) (b.5 n made.locals at_q);
              parameters = subst (λ (l : List Parameter). AreAlike (IsParameterAgain m n f.locals made.locals) f.parameters l) (sym read.2) (e.7 n made.locals at_t);
              collector = sym h.5 ∙ sym read.3;
              blocks = read.5 n later;
            },
      )
