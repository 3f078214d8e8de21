-- Where one function is read in the tables of a module, types stay at their places and stay once each, and names of structs mean the same
-- structs.
use Rattle.std.proofs.Common.{◌≡◌, ℕ, zero, suc, List, [], ◌∷◌, ◌++◌, length, Option, None, Some, refl, ap, sym, subst, ◌∙◌}
use Rattle.std.specs.Prelude.{slice_get, unwrap_or}
use Rattle.ir_ast.specs.Names.{place_of}
use Rattle.ir_ast.specs.declared.function.Function.{Function}
use Rattle.ir_ast.specs.declared.ir_type.IrType.{IrType}
use Rattle.ir_ast.specs.declared.items_of_module.SymbolSort.{SymbolSort}
use Rattle.ir_ast.specs.declared.items_of_module.SymbolSort.TheVariants as symbol
use Rattle.ir_ast.specs.declared.module.Module.{Module}
use Rattle.ir_tokens.specs.Bytes.{Text}
use Rattle.ir_tokens.specs.declared.token.Kind.{Kind}
use Rattle.ir_tokens.specs.declared.token.Kind.TheVariants as k
use Rattle.ir_forms.specs.Cursor.{kind, sees, spelled}
use Rattle.ir_forms.specs.Table.{sorts_with}
use Rattle.ir_forms.specs.declared.decorating.Spot.TheVariants as spot
use Rattle.ir_forms.specs.declared.input.Input.{Input}
use Rattle.ir_forms.specs.Input.{unexpected}
use Rattle.ir_forms.specs.Written.{with_type_interned}
use Rattle.ir_forms.specs.Names.{new_symbol, new_value, numbered_value, unnamed_value, new_label, numbered_label, unnamed_label}
use Rattle.ir_text.specs.Anew.{start_anew, is_named, named_head, ends, anew, anew_of}
use Rattle.ir_text.specs.ItemsOfText.{function_name_by, function_name, open_body, with_function}
use Rattle.copies.specs.Tables.{tables_of}
use Rattle.ir_text.specs.Replaced.{name_of, with_replacement, IsReplaced}
use Rattle.ir_print_law.specs.Growing.{TablesStay}
use Rattle.ir_print_law.specs.OneTypes.{AreOnce, HasOneTypes}
use Rattle.ir_print_law.proofs.Blocks.{blocks_keep, parameters_keep}
use Rattle.ir_print_law.proofs.FunctionEnds.{nothing}
use Rattle.ir_print_law.proofs.FunctionNamed.{taken, next_taken, new_value_is, new_label_is}
use Rattle.ir_print_law.proofs.FunctionsRead.{head_end_keeps, open_body_passes}
use Rattle.ir_print_law.proofs.ItemTypes.{defined_result_keeps}
use Rattle.ir_print_law.proofs.OneTypes.{once_more, one_types}
use Rattle.ir_print_law.proofs.Passes.{skip_passes, check_passes, expect_passes}
use Rattle.ir_print_law.proofs.Reading.{Kit, Builder, Reading, within_of}
use Rattle.ir_print_law.proofs.Tables.{Begins, begins_itself, begins_further, type_begins, stays}

-- a name that is new means no struct, as a number without a name does
new_means : (sorts : List (Option ℕ)) (name : ℕ) → unwrap_or (slice_get (sorts ++ None ∷ []) name) None ≡ unwrap_or (slice_get sorts name) None
new_means [] zero = refl
new_means [] (suc name) = refl
new_means (x ∷ sorts) zero = refl
new_means (x ∷ sorts) (suc name) = new_means sorts name

mention_means : (place : Option ℕ) (sorts : List (Option ℕ)) (name : ℕ) → unwrap_or (slice_get (sorts_with place None sorts) name) None ≡ unwrap_or (slice_get sorts name) None
mention_means None sorts name = new_means sorts name
mention_means (Some n) sorts name = refl

module _ (m : Module) where
  -- types stay at their places, names of structs mean what they mean in the module, and where the module has each type once, so it is still
  abbrev HasGrown : List IrType → List (Option ℕ) → Type 0
  HasGrown types sorts = Begins m.types types × ((name : ℕ) → unwrap_or (slice_get sorts name) None ≡ unwrap_or (slice_get m.struct_of name) None) × (AreOnce m.types → AreOnce types)

  abbrev Grown : Input → Type 0
  Grown i = HasGrown i.types i.struct_names.sorts

  -- nothing is asked of where reading goes on to
  abbrev pub Nowhere : Input → Type 0
  Nowhere i = ⊥

  abbrev kit : (f : Function) → Kit m f Grown Nowhere
  kit f = record {
    ordered = λ i back. absurd back;
    bytes = λ i h back. absurd back;
    forms = λ i back. absurd back;
    has_types = λ i back. absurd back;
    has_structs = λ i back. absurd back;
    has_symbols = λ i back. absurd back;
    has_locals = λ i back. absurd back;
    on_token = λ i h. h;
    from_token = λ i back. back;
    on_type = λ i t last h. (begins_further m.types i.types (with_type_interned t i).types h.0 (type_begins t i.types), h.1, λ once. once_more t i.types (h.2 once));
    from_type = λ i t back. back;
    on_struct = λ i h. (h.0, λ name. mention_means (place_of (spelled i.cursor) i.struct_names.names) i.struct_names.sorts name ∙ h.1 name, h.2);
    from_struct = λ i back. back;
    struct_is = λ i back. absurd back;
    on_symbol = λ i is_call h. h;
    from_symbol = λ i is_call back. back;
    symbol_is = λ i is_call back. absurd back;
    on_lost = λ i lost h. h;
    from_lost = λ i lost back. back;
    on_local = λ i wanted h. h;
    from_local = λ i wanted back. back;
    local_is = λ i wanted back. absurd back;
  }

  -- ---- names of the function

  value_grown : (i : Input) (n : ℕ) (o : Input) → new_value.says i n o → Grown i → Grown o
  value_grown i n o said h = subst Grown (new_value_is i n o said).3 h

  numbered_grown : (i : Input) (n : ℕ) (o : Input) → numbered_value.says i n o → Grown i → Grown o
  unfolding numbered_value
  numbered_grown i n o said h = value_grown said.1 n o said.3 (subst Grown (next_taken i said.0 said.1 said.2).1.1 h)

  unnamed_grown : (i : Input) (n : ℕ) (o : Input) → unnamed_value.says i n o → Grown i → Grown o
  unfolding unnamed_value
  unnamed_grown i n o said h =
      let form = said.3 in
      subst Grown form.3.1 (subst Grown (form.2.2.1 ∙ form.2.3.1) (subst Grown (taken i said.0 said.1 said.2).1 h))

  label_grown : (b : ℕ) (i : Input) (n : ℕ) (o : Input) → (new_label b).says i n o → Grown i → Grown o
  label_grown b i n o said h = subst Grown (new_label_is b i n o said).2 h

  numbered_label_grown : (b : ℕ) (i : Input) (n : ℕ) (o : Input) → (numbered_label b).says i n o → Grown i → Grown o
  unfolding numbered_label
  numbered_label_grown b i n o said h = label_grown b said.1 n o said.3 (subst Grown (next_taken i said.0 said.1 said.2).1.1 h)

  unnamed_label_grown : (b : ℕ) (i : Input) (n : ℕ) (o : Input) → (unnamed_label b).says i n o → Grown i → Grown o
  unfolding unnamed_label
  unnamed_label_grown b i n o said h =
      let form = said.3 in
      subst Grown form.3.1 (subst Grown form.2.1 (subst Grown (taken i said.0 said.1 said.2).1 h))

  abbrev builder : (f : Function) → Builder m f Nowhere (λ g. Grown) (λ g n. Grown)
  builder f = record {
    kit = λ g. kit f;
    open_kit = λ g n. kit f;
    on_sort = λ g n i sort is h. h;
    from_sort = λ n i sort back. back;
    named = λ g i is n o said h. (value_grown i n o said h, λ back. absurd back);
    numbered = λ g i is n o said h. (numbered_grown i n o said h, λ back. absurd back);
    unnamed = λ g i n o said h. (unnamed_grown i n o said h, λ back. absurd back);
    named_label = λ g i is n o said h. (label_grown (length g.labels) i n o said h, λ back. absurd back);
    numbered_label_is = λ g i is n o said h. (numbered_label_grown (length g.labels) i n o said h, λ back. absurd back);
    unnamed_label_is = λ g i n o said h. (unnamed_label_grown (length g.labels) i n o said h, λ back. absurd back);
  }

  -- ---- the function

  symbol_grown : (sort : SymbolSort) (i : Input) (n : ℕ) (o : Input) → (new_symbol sort).says i n o → Grown i → Grown o
  unfolding new_symbol
  symbol_grown sort i n o said h =
      let rules = said.2 in
      let same : i ≡ said.1 = rules.2.2.1 ∙ rules.2.3.1 ∙ rules.3.1 in
      subst Grown said.3.1 (subst Grown same h)

  name_by : (sort : SymbolSort) (x : Kind) (i : Input) (n : ℕ) (o : Input) → (function_name_by sort x).says i n o → Grown i → Grown o
  name_by sort k.GlobalName i n o said h = symbol_grown sort i n o said h
  name_by sort _ i n o said h = absurd said

  name_grown : (sort : SymbolSort) (i : Input) (n : ℕ) (o : Input) → (function_name sort).says i n o → Grown i → Grown o
  unfolding function_name
  name_grown sort i n o said h = name_by sort (kind i.cursor) i n o said h

  -- any function of the module
  abbrev pub some_function : Function
  some_function = record { symbol = 0; returned = 0; parameters = []; collector = None; locals = []; sorts = []; blocks = [] }

  function_grown : (func : ℕ) (name : Text) (i o : Input) → (anew func name).says i tt o → Grown i → Grown o
  unfolding anew named_head ends with_function
  function_grown func name i o said h =
      let b = builder some_function in
      let r : Reading m = (within_of (kit some_function)).reading in
      let front = said.2 in
      let s0 = front.2.2 in
      let s1 = front.2.3 in
      let s2 = s1.3 in
      let s3 = s2.3 in
      let s4 = s3.3 in
      let s5 = s4.3 in
      let s6 = s5.3 in
      let s7 = s6.3 in
      let u1 = front.3 in
      let u2 = u1.3 in
      let u3 = u2.3 in
      let opened = subst (λ (j : Input). open_body.says j u1.0 u1.1) (sym s7.3.1) u1.2 in
      let a0 = check_passes r (λ j. sees k.Define j.cursor) unexpected i s0.0 s0.1 s0.2 h in
      let a1 = skip_passes r s0.1 front.2.0 front.2.1 s0.3 a0.0 in
      let a2 = defined_result_keeps r front.2.1 s1.0 s1.1 s1.2 a1.0 in
      let a3 = check_passes r (is_named name) unexpected s1.1 s2.0 s2.1 s2.2 a2.0 in
      let a4 = name_grown (symbol.Defined func) s2.1 s3.0 s3.1 s3.2 a3.0 in
      let a5 = expect_passes r k.OpenRound s3.1 s4.0 s4.1 s4.2 a4 in
      let a6 = parameters_keep b nothing s4.1 s5.0 s5.1 s5.2 a5.0 in
      let a7 = expect_passes r k.CloseRound s5.1 s6.0 s6.1 s6.2 a6.0 in
      let a8 = head_end_keeps r spot.Defined s6.1 s7.0 s7.1 s7.2 a7.0 in
      let a9 = open_body_passes r s7.1 u1.0 u1.1 opened a8.0 in
      let a10 = blocks_keep b nothing u1.1 refl u2.0 u2.1 u2.2 a9.0 in
      let a11 = expect_passes r k.CloseBrace u2.1 u3.0 u3.1 u3.2 a10.0 in
      let last : said.1 ≡ o = said.3.2.1 ∙ said.3.3.1 in
      subst Grown last (subst Grown u3.3.1 a11.0)

-- the state after a function that replaces one, and the module that comes of it
replaced_grown : (m : Module) (func : ℕ) (bytes : Text) (n : Module) → IsReplaced m func bytes n
    → (o : Input) × Grown m o × (with_replacement m func (anew_of (tables_of m) o) ≡ n)
replaced_grown m func bytes n h =
    let text = h.1 in
    let read = text.3 in
    let start = start_anew (tables_of m) func bytes text.1 in
    (read.0, function_grown m func (name_of m func) start read.0 read.1 (begins_itself m.types, λ name. refl, λ once. once), ap (with_replacement m func) read.3 ∙ h.2)

-- the tables of a module only grow where one function is replaced
pub tables_stay : (m : Module) (func : ℕ) (bytes : Text) (n : Module) → IsReplaced m func bytes n → TablesStay m n
tables_stay m func bytes n h =
    let g = replaced_grown m func bytes n h in
    let grown = g.1 in
    subst (TablesStay m) g.2 (record {
      types = λ written type at. stays m.types g.0.types written type grown.0 at;
      names = grown.1;
      structs = refl;
    })

-- each type stays once in the table where one function is replaced
pub replaced_has_one_types : (m : Module) (func : ℕ) (bytes : Text) (n : Module) → HasOneTypes m → IsReplaced m func bytes n → HasOneTypes n
replaced_has_one_types m func bytes n one h =
    let g = replaced_grown m func bytes n h in
    let grown = g.1 in
    subst HasOneTypes g.2 (one_types (with_replacement m func (anew_of (tables_of m) g.0)) (grown.2 one.once))
