-- The line of a global is read as that global.
use Rattle.std.proofs.Common.{◌≡◌, ℕ, ◌<◌, Bool, true, false, List, [], ◌∷◌, ◌++◌, length, Option, None, Some, refl, sym, ap, ap₂, subst, ◌∙◌, arith, append_assoc, length-append}
use Rattle.std.specs.Prelude.{codes, nat_lt, ◌==◌}
use Rattle.std.specs.Fmt.{decimal}
use Rattle.std.proofs.lemmas.Bool.Decides.{nat_tests}
use Rattle.lemmas.specs.Lists.{IsIn}
use Rattle.ir_print_law.proofs.ListsAgain.{trailing_said}
use Rattle.ir_print_law.proofs.ArgumentsAgain.{decorations_said}
use Rattle.ir_ast.specs.declared.function.Function.{Function}
use Rattle.ir_ast.specs.declared.ir_type.IrType.{IrType}
use Rattle.ir_ast.specs.declared.items_of_module.Global.{Global}
use Rattle.ir_ast.specs.declared.items_of_module.SymbolSort.TheVariants as symbol
use Rattle.ir_ast.specs.declared.module.Module.{Module}
use Rattle.ir_ast.specs.declared.operand.Constant.{Constant}
use Rattle.ir_ast.specs.declared.operand.Constant.TheVariants as constant
use Rattle.ir_tokens.specs.declared.token.Kind.{Kind}
use Rattle.ir_tokens.specs.declared.token.Kind.TheVariants as k
use Rattle.ir_tokens.specs.Bytes.{Text, class_of}
use Rattle.ir_tokens.specs.Keywords.{word_kind, keywords}
use Rattle.ir_forms.specs.Cursor.{kind, kind_after, next, same_kind, spelled, begins_line}
use Rattle.ir_forms.specs.Intrinsics.{is_left_out}
use Rattle.ir_forms.specs.declared.input.Input.{Input}
use Rattle.ir_forms.specs.Input.{advanced, expect}
use Rattle.ir_forms.specs.Names.{with_symbol}
use Rattle.ir_forms.specs.Written.{has_opaque, word_of}
use Rattle.ir_forms.specs.declared.decorating.Spot.TheVariants as spot
use Rattle.ir_forms.specs.declared.decorating.Trail.TheVariants as trail
use Rattle.ir_forms.specs.Decorations.{begins_decoration}
use Rattle.ir_forms.specs.declared.written.Word.{Word}
use Rattle.ir_forms.specs.declared.written.FloatType.TheVariants as size
use Rattle.ir_forms.specs.declared.written.Word.TheVariants as sort
use Rattle.ir_text.specs.DataItems.{begins_data_by, begins_data, begins_external}
use Rattle.ir_text.specs.ItemsOfText.{global, global_by, value_by, is_constant, is_constant_by, initial, is_initial, item, item_by, with_global}
use Rattle.ir_text.specs.Starts.{is_external}
use Rattle.ir_print_law.specs.Fits.{FitsType, constant_shown}
use Rattle.ir_print.specs.Items.{global_line, global_word}
use Rattle.name_text.specs.Names.{name_text}
use Rattle.name_text.specs.Readings.{AreBytes}
use Rattle.name_text.specs.declared.blank.Blank.TheVariants as blank
use Rattle.ir_print.specs.Names.{name_at, global_text}
use Rattle.ir_print.specs.Operands.{constant_text, is_bit, number_text, truth_text, bit_of}
use Rattle.ir_print_law.specs.Stands.{Stands, IsSeam, AreBlanks}
use Rattle.ir_print.specs.Types.{type_text}
use Rattle.ir_print_law.specs.Readings.{after_constant}
use Rattle.ir_print_law.proofs.FloatConstants.{float_number_said}
use Rattle.ir_print_law.proofs.OperandsAgain.{constant_ready, constant_grows}
use Rattle.ir_print_law.proofs.Constants.{are_digits, constants_are_read, integer_types_are_read, wide}
use Rattle.ir_print_law.proofs.Words.{global_comes, local_comes, word_comes, number_comes, sign_comes}
use Rattle.ir_print_law.specs.Again.{IsGlobalAgain}
use Rattle.ir_print_law.specs.Printable.{IsGlobal, IsInitial}
use Rattle.ir_print_law.specs.Definitions.{defined_structs}
use Rattle.ir_print_law.specs.Parts.{IsType}
use Rattle.ir_print_law.specs.Shapes.{Shape, Integer, Float, Pointer, Array, Empty, Struct, Named, Opaque, HasShape, IsWritten, word_of_shape, is_held_shape}
use Rattle.ir_print_law.proofs.Tables.{stays, begins_itself}
use Rattle.ir_print_law.proofs.State.{Invariant, Ready, IsLater}
use Rattle.ir_print_law.proofs.Shown.{shown, shape_stays, bits_read}
use Rattle.ir_print_law.proofs.Steps.{word_skipped, word_seen, sign_reads, passed, unlike, grows_advanced}
use Rattle.ir_print_law.proofs.Types.{Comes, EndsType, ends_type}
use Rattle.ir_print_law.proofs.Defining.{global_defined}
use Rattle.ir_print_law.proofs.WholeForms.{Widens, widens_further, grows_widens, later_widened}
use Rattle.ir_print_law.proofs.Known.{Far, AreNamed, known, SymbolsKnown}
use Rattle.ir_print_law.proofs.Needs.{TypesRead}
use Rattle.ir_print_law.proofs.NewNames.{SymbolsThen, new_symbol_goes}
use Rattle.ir_print_law.proofs.Results.{begins_item, item_ungrouped}
use Rattle.ir_print_law.proofs.Undropped.{and_last}

below_most : (n : ℕ) → n < 4096 → nat_lt n 4096 ≡ true
below_most n less = grind (arith, nat_tests)

-- the first value is printed by the shape of the type
text_shown : (m : Module) (shape : Shape) (held : ℕ) (x : Constant) → HasShape m.types m.struct_names shape held → IsInitial (word_of_shape shape) x → constant_text m held x ≡ constant_shown (word_of_shape shape) x
text_shown m (Integer bits) held (constant.Number n) h is = ap (λ (t : Option IrType). number_text (is_bit t) n) h
text_shown m (Integer bits) held (constant.Float n) h is = refl
text_shown m (Integer bits) held constant.Null h is = absurd is
text_shown m (Integer bits) held (constant.Truth t) h is = absurd is
text_shown m (Float size.Single) held (constant.Number n) h is = absurd is
text_shown m (Float size.Double) held (constant.Number n) h is = absurd is
text_shown m (Float t) held (constant.Float n) h is = refl
text_shown m (Float t) held constant.Null h is = refl
text_shown m (Float t) held (constant.Truth u) h is = refl
text_shown m (Pointer part) held constant.Null h is = refl
text_shown m (Pointer part) held (constant.Number n) h is = absurd is
text_shown m (Pointer part) held (constant.Float n) h is = refl
text_shown m (Pointer part) held (constant.Truth t) h is = absurd is
text_shown m (Array count part) held constant.Null h is = refl
text_shown m (Array count part) held (constant.Number n) h is = absurd is
text_shown m (Array count part) held (constant.Float n) h is = refl
text_shown m (Array count part) held (constant.Truth t) h is = absurd is
text_shown m Empty held constant.Null h is = refl
text_shown m Empty held (constant.Number n) h is = absurd is
text_shown m Empty held (constant.Float n) h is = refl
text_shown m Empty held (constant.Truth t) h is = absurd is
text_shown m (Struct first rest) held constant.Null h is = refl
text_shown m (Struct first rest) held (constant.Number n) h is = absurd is
text_shown m (Struct first rest) held (constant.Float n) h is = refl
text_shown m (Struct first rest) held (constant.Truth t) h is = absurd is
text_shown m (Named name) held constant.Null h is = refl
text_shown m (Named name) held (constant.Number n) h is = absurd is
text_shown m (Named name) held (constant.Float n) h is = refl
text_shown m (Named name) held (constant.Truth t) h is = absurd is
text_shown m Opaque held constant.Null h is = refl
text_shown m Opaque held (constant.Number n) h is = absurd is
text_shown m Opaque held (constant.Float n) h is = refl
text_shown m Opaque held (constant.Truth t) h is = absurd is

fits : (word : Word) (x : Constant) → IsInitial word x → FitsType word x
fits (sort.Integer bits) (constant.Number n) is = is
fits sort.Float (constant.Float n) is = is
fits sort.Double (constant.Float n) is = is
fits sort.Pointer constant.Null is = tt
fits (sort.Integer bits) (constant.Float n) is = absurd is
fits (sort.Integer bits) constant.Null is = absurd is
fits (sort.Integer bits) (constant.Truth t) is = absurd is
fits sort.Float (constant.Number n) is = absurd is
fits sort.Float constant.Null is = absurd is
fits sort.Float (constant.Truth t) is = absurd is
fits sort.Double (constant.Number n) is = absurd is
fits sort.Double constant.Null is = absurd is
fits sort.Double (constant.Truth t) is = absurd is
fits sort.Pointer (constant.Number n) is = absurd is
fits sort.Pointer (constant.Float n) is = absurd is
fits sort.Pointer (constant.Truth t) is = absurd is

-- such a token comes
initial_comes : (word : Word) (x : Constant) (i : Input) (rest : Text) → IsInitial word x → Stands i.cursor (32 ∷ (constant_shown word x ++ 10 ∷ rest)) → is_initial word (kind i.cursor) ≡ true
unfolding class_of word_kind keywords
initial_comes (sort.Integer bits) (constant.Number n) i rest is at = by (bits == 1) refl at where
  truth : (t : Bool) → bits == 1 ≡ true → Stands i.cursor (32 ∷ (truth_text t ++ 10 ∷ rest)) → is_initial (sort.Integer bits) (kind i.cursor) ≡ true
  truth true e at = ap (is_initial (sort.Integer bits)) (word_comes i.cursor (32 ∷ []) (codes "true") (10 ∷ rest) refl refl refl at).0 ∙ e
  truth false e at = ap (is_initial (sort.Integer bits)) (word_comes i.cursor (32 ∷ []) (codes "false") (10 ∷ rest) refl refl refl at).0 ∙ e

  by : (one : Bool) → bits == 1 ≡ one → Stands i.cursor (32 ∷ (number_text one n ++ 10 ∷ rest)) → is_initial (sort.Integer bits) (kind i.cursor) ≡ true
  by true e at = truth (bit_of n) e at
  by false e at = ap (is_initial (sort.Integer bits)) (number_comes i.cursor (32 ∷ []) (decimal n) (10 ∷ rest) refl (are_digits n (wide bits n is.1 is.2)) refl at).0
initial_comes sort.Float (constant.Float n) i rest is at = ap (is_initial sort.Float) (float_number_said sort.Float n i (32 ∷ []) (10 ∷ rest) is.0 is.1 refl refl at).0
initial_comes sort.Double (constant.Float n) i rest is at = ap (is_initial sort.Double) (float_number_said sort.Double n i (32 ∷ []) (10 ∷ rest) refl is refl refl at).0
initial_comes sort.Pointer constant.Null i rest is at = ap (is_initial sort.Pointer) (word_comes i.cursor (32 ∷ []) (codes "null") (10 ∷ rest) refl refl refl at).0
initial_comes (sort.Integer bits) (constant.Float n) i rest is at = absurd is
initial_comes (sort.Integer bits) constant.Null i rest is at = absurd is
initial_comes (sort.Integer bits) (constant.Truth t) i rest is at = absurd is
initial_comes sort.Float (constant.Number n) i rest is at = absurd is
initial_comes sort.Float constant.Null i rest is at = absurd is
initial_comes sort.Float (constant.Truth t) i rest is at = absurd is
initial_comes sort.Double (constant.Number n) i rest is at = absurd is
initial_comes sort.Double constant.Null i rest is at = absurd is
initial_comes sort.Double (constant.Truth t) i rest is at = absurd is
initial_comes sort.Pointer (constant.Number n) i rest is at = absurd is
initial_comes sort.Pointer (constant.Float n) i rest is at = absurd is
initial_comes sort.Pointer (constant.Truth t) i rest is at = absurd is

initial_ends : (word : Word) (x : Kind) → is_initial word x ≡ true → ends_type x ≡ true
initial_ends word k.Star e = absurd cc
initial_ends word k.OpenRound e = absurd cc
initial_ends word _ e = refl

-- no data has a type that a global may hold
held_begins : (wide opaque : Bool) (structs : List Text) (shape : Shape) (i : Input) (rest : Text) → IsWritten wide opaque structs shape → is_held_shape shape ≡ true → IsSeam rest
    → Stands i.cursor (32 ∷ (shown false shape ++ rest)) → begins_data_by (kind i.cursor) (kind_after i.cursor) ≡ false
unfolding class_of word_kind keywords kind kind_after next same_kind
held_begins wide opaque structs (Integer bits) i rest own is seam at =
    ap (λ (x : Kind). begins_data_by x (kind_after i.cursor)) (integer_types_are_read bits i (32 ∷ []) rest own.0 own.1 refl seam at).0
held_begins wide opaque structs (Float size.Single) i rest own is seam at = ap (λ (x : Kind). begins_data_by x (kind_after i.cursor)) (word_comes i.cursor (32 ∷ []) (codes "float") rest refl refl seam at).0
held_begins wide opaque structs (Float size.Double) i rest own is seam at = ap (λ (x : Kind). begins_data_by x (kind_after i.cursor)) (word_comes i.cursor (32 ∷ []) (codes "double") rest refl refl seam at).0
held_begins wide opaque structs Opaque i rest own is seam at = ap (λ (x : Kind). begins_data_by x (kind_after i.cursor)) (word_comes i.cursor (32 ∷ []) (codes "ptr") rest refl refl seam at).0
held_begins wide opaque structs (Pointer (Named name)) i rest own is seam at =
    let a = local_comes i.cursor (32 ∷ []) name (42 ∷ rest) refl own.1.0 refl (subst (λ (t : Text). Stands i.cursor (32 ∷ t)) (append_assoc (37 ∷ name_text blank.Kept name) (42 ∷ []) rest) at) in
    let b = sign_comes (next i.cursor) [] 42 rest k.Star refl refl refl a.3 in
    ap₂ begins_data_by a.0 b.0
held_begins wide opaque structs (Pointer (Integer bits)) i rest own is seam at = absurd cc
held_begins wide opaque structs (Pointer (Float t)) i rest own is seam at = absurd cc
held_begins wide opaque structs (Pointer (Pointer part)) i rest own is seam at = absurd cc
held_begins wide opaque structs (Pointer (Array count part)) i rest own is seam at = absurd cc
held_begins wide opaque structs (Pointer Empty) i rest own is seam at = absurd cc
held_begins wide opaque structs (Pointer (Struct first more)) i rest own is seam at = absurd cc
held_begins wide opaque structs (Pointer Opaque) i rest own is seam at = absurd cc
held_begins wide opaque structs (Array count part) i rest own is seam at = absurd cc
held_begins wide opaque structs Empty i rest own is seam at = absurd cc
held_begins wide opaque structs (Struct first more) i rest own is seam at = absurd cc
held_begins wide opaque structs (Named name) i rest own is seam at = absurd cc

no_data : (m : Module) (shape : Shape) (held : ℕ) (i : Input) (rest : Text) → IsType m shape held → is_held_shape shape ≡ true → type_text m held ≡ shown false shape → IsSeam rest
    → Stands i.cursor (32 ∷ (type_text m held ++ rest)) → begins_data i ≡ false
unfolding begins_data
no_data m shape held i rest own is shows seam at =
    and_last i.wide (begins_data_by (kind i.cursor) (kind_after i.cursor))
    (held_begins m.wide (has_opaque m.types) (defined_structs m) shape i rest own.2 is seam (subst (λ (t : Text). Stands i.cursor (32 ∷ (t ++ rest))) shows at))

not_external : (x : Kind) (i : Input) → kind i.cursor ≡ x → is_external x ≡ false → begins_external i ≡ false
unfolding begins_external
not_external x i is none = and_last i.wide (is_external (kind i.cursor)) (ap is_external is ∙ none)

pub word_seam : (c : Bool) (rest : Text) → IsSeam (global_word c ++ rest)
unfolding class_of
word_seam true rest = refl
word_seam false rest = refl

abbrev pub after_word : Module → Global → (rest : Text) → Text
after_word m g rest = type_text m g.held ++ 32 ∷ (constant_text m g.held g.initial ++ 10 ∷ rest)

pub line_is : (m : Module) (g : Global) (rest : Text) → global_line m g ++ rest ≡ 64 ∷ (name_text blank.Kept (name_at m.symbols g.symbol) ++ (global_word g.is_constant ++ after_word m g rest))
line_is m g rest =
    let a = global_text m g.symbol in
    let w = global_word g.is_constant in
    let t = type_text m g.held in
    let c = 32 ∷ constant_text m g.held g.initial in
    append_assoc (a ++ w ++ t ++ c) (10 ∷ []) rest ∙ append_assoc (a ++ w ++ t) c (10 ∷ rest) ∙ append_assoc (a ++ w) t (c ++ 10 ∷ rest) ∙ append_assoc a w (t ++ (c ++ 10 ∷ rest))

module _ (m : Module) (f : Function) (named : AreNamed m f) (types : TypesRead m) (far : Far) where
  abbrev far_named : Text → Far
  far_named name = record far { symbols = far.symbols ++ name ∷ []; globals = far.globals ++ name ∷ [] }

  -- what is known after the line
  abbrev pub far_global : Text → Global → Far
  far_global name g = record far { symbols = far.symbols ++ name ∷ []; globals = far.globals ++ name ∷ []; global_items = far.global_items ++ g ∷ [] }

  abbrev pub GlobalGoes : Global → Input → (rest : Text) → Type 0
  GlobalGoes g i rest =
      (o : Input) × (x : Global) × item.says i tt o × Ready (known m f named (far_global (name_at m.symbols g.symbol) x)) 0 o (10 ∷ rest) × Widens i o
      × ((n : Module) (others : List Text) → IsLater o n others → IsGlobalAgain m n g x)

  name_step : (name : Text) (number : ℕ) (i : Input) → (IsIn name far.functions → ⊥) → SymbolsThen m f named far (far.globals ++ name ∷ []) far.functions name (symbol.Global number) i
  name_step name number i apart = λ h e.
      subst (λ (x : Text). SymbolsKnown m (far.symbols ++ x ∷ []) (far.globals ++ x ∷ []) far.functions (with_symbol (symbol.Global number) i).symbols i.symbol_uses) e
      (global_defined m far.symbols far.globals far.functions i.symbols i.symbol_uses (spelled i.cursor) number (λ is. apart (subst (λ (x : Text). IsIn x far.functions) e is)) h)

  -- `=`, and whether the global is constant
  word_reads : (v : Invariant m f) (c : Bool) (i : Input) (rest : Text) → Ready v 0 i (global_word c ++ rest)
      → (p : Input) × (o : Input) × ((expect k.Equals).says i tt p) × is_constant.says p c o × Ready v 0 o (32 ∷ rest) × Widens i o × (begins_external p ≡ false)
  unfolding is_constant class_of word_kind keywords
  word_reads v true i rest ready =
      let a = sign_reads v 61 k.Equals i (32 ∷ []) (codes " constant " ++ rest) 0 0 refl refl refl (omega arith) ready in
      let p = a.1 in
      let e = word_seen v (codes "constant") p (32 ∷ []) (32 ∷ rest) 0 refl refl refl a.3 in
      let b = word_skipped v (codes "constant") p (32 ∷ []) (32 ∷ rest) 0 0 refl refl refl (omega arith) a.3 in
      let o = b.1 in
      let plain = decorations_said spot.Global p (ap (begins_decoration spot.Global (begins_line p.cursor)) e) in
      (a.1, b.1, a.2, (tt, p, plain, subst (λ (x : Kind). (is_constant_by x).says p true o) (sym e) (tt, o, b.2, (refl, refl))), b.3, widens_further i p o (grows_widens i p a.4) (grows_widens p o b.4), not_external k.Constant p e refl)
  word_reads v false i rest ready =
      let a = sign_reads v 61 k.Equals i (32 ∷ []) (codes " global " ++ rest) 0 0 refl refl refl (omega arith) ready in
      let p = a.1 in
      let e = word_seen v (codes "global") p (32 ∷ []) (32 ∷ rest) 0 refl refl refl a.3 in
      let b = word_skipped v (codes "global") p (32 ∷ []) (32 ∷ rest) 0 0 refl refl refl (omega arith) a.3 in
      let o = b.1 in
      let plain = decorations_said spot.Global p (ap (begins_decoration spot.Global (begins_line p.cursor)) e) in
      (a.1, b.1, a.2, (tt, p, plain, subst (λ (x : Kind). (is_constant_by x).says p false o) (sym e) (tt, o, b.2, (refl, refl))), b.3, widens_further i p o (grows_widens i p a.4) (grows_widens p o b.4), not_external k.Global p e refl)

  pub global_goes : (g : Global) (i : Input) (gap rest : Text) → IsGlobal m g → AreBytes (name_at m.symbols g.symbol) → is_left_out m.wide (name_at m.symbols g.symbol) ≡ false
      → (IsIn (name_at m.symbols g.symbol) far.symbols → ⊥) → (IsIn (name_at m.symbols g.symbol) far.functions → ⊥) → length far.global_items < 4096 → Comes begins_item (10 ∷ rest) → AreBlanks gap
      → Ready (known m f named far) 0 i (gap ++ (global_line m g ++ rest)) → GlobalGoes g i rest
  unfolding item global initial class_of
  global_goes g i gap rest is own allowed none apart few comes blanks ready =
      let name = name_at m.symbols g.symbol in
      let shape = is.0 in
      let is_type = is.1 in
      let bits = word_of_shape shape in
      let w = known m f named (far_named name) in
      let here = subst (λ (t : Text). Ready (known m f named far) 0 i (gap ++ t)) (line_is m g rest) ready in
      let afterwards = global_word g.is_constant ++ after_word m g rest in
      let seam = word_seam g.is_constant (after_word m g rest) in
      let number = length i.globals in
      let kind_is = (global_comes i.cursor gap name afterwards blanks own seam here.stands).0 in
      let a = new_symbol_goes m f named far (far.globals ++ name ∷ []) far.functions (symbol.Global (length i.globals)) name i gap afterwards 0 own allowed none (name_step name (length i.globals) i apart) blanks seam here in
      let p = a.1 in
      let b = word_reads w g.is_constant p (after_word m g rest) a.3 in
      let q = b.1 in
      let shown = text_shown m shape g.held g.initial is_type.0 is.3 in
      let constant_bytes = 32 ∷ (constant_shown bits g.initial ++ 10 ∷ rest) in
      let ready_q = subst (λ (t : Text). Ready (known m f named (far_named name)) 0 q (32 ∷ (type_text m g.held ++ 32 ∷ (t ++ 10 ∷ rest)))) shown b.4 in
      let ends : EndsType (32 ∷ (constant_shown (word_of_shape shape) g.initial ++ 10 ∷ rest)) = (refl, λ j at. initial_ends (word_of_shape shape) (kind j.cursor) (initial_comes (word_of_shape shape) g.initial j rest is.3 at)) in
      let t = types.held w shape g.held q (32 ∷ []) constant_bytes 0 is_type is.2 refl ends ready_q in
      let r = t.1 in
      let plain = no_data m shape g.held q (32 ∷ (constant_shown (word_of_shape shape) g.initial ++ 10 ∷ rest)) is_type is.2 (types.types_shown m shape g.held is_type.0 is_type.1) refl ready_q.stands in
      let bits_are : word_of t.0 ≡ word_of_shape shape = bits_read shape 64 t.0 r t.5 in
      let tested = initial_comes bits g.initial r rest is.3 t.3.stands in
      let c = constants_are_read bits g.initial r (fits bits g.initial is.3) (32 ∷ []) (10 ∷ rest) refl refl t.3.stands in
      let said : (initial (word_of_shape shape)).says r g.initial (after_constant g.initial r) = (tt, r, (tested, refl), c.0) in
      let said_here = subst (λ (x : Word). (initial x).says r g.initial (after_constant g.initial r)) (sym bits_are) said in
      let size = length-append (constant_shown bits g.initial) (10 ∷ rest) in
      let ready_s = constant_ready w g.initial r constant_bytes (10 ∷ rest) 0 t.3 c.1 (omega (arith, size)) in
      let s = after_constant g.initial r in
      let trail = trailing_said trail.Global s (unlike k.Comma begins_item s refl (comes s c.1)) in
      let ungrouped = decorations_said spot.GlobalEnd s (item_ungrouped (begins_line s.cursor) (kind s.cursor) (comes s c.1)) in
      let x : Global = record { symbol = a.0; is_constant = g.is_constant; held = t.0.id; initial = g.initial } in
      let o = with_global x s in
      let h = ready_s.holds in
      let room_s = ready_s.room in
      let counted : length i.globals < 4096 = subst (λ (y : List Global). length y < 4096) (sym ready.holds.3.globals_are) few in
      let wide_s : Widens s o = record { types = begins_itself s.types; structs = begins_itself s.struct_names.names; symbols = begins_itself s.symbols.names; locals = begins_itself s.locals.names } in
      let wide_r = widens_further r s o (grows_widens r s (constant_grows w g.initial r)) wide_s in
      let wide_p = widens_further p q o b.5 (widens_further q r o (grows_widens q r t.4) wide_r) in (
        with_global (record { symbol = a.0; is_constant = g.is_constant; held = t.0.id; initial = g.initial }) (after_constant g.initial r),
        record { symbol = a.0; is_constant = g.is_constant; held = t.0.id; initial = g.initial },
        subst (λ (z : Kind). (item_by z).says i tt o) (sym kind_is) (
          a.0,
          p,
          (tt, i, (below_most number counted, refl), a.2),
          (tt, b.0, b.2, subst (λ (z : Bool). (global_by a.0 z).says b.0 tt o) (sym b.6) (g.is_constant, q, b.3, subst (λ (z : Bool). (value_by a.0 g.is_constant z).says q tt o) (sym plain) (t.0, r, t.2, (g.initial, s, said_here, (tt, s, trail, (tt, s, ungrouped, (refl, refl))))))),
        ),
        record {
          stands = ready_s.stands;
          ordered = ready_s.ordered;
          forms = ready_s.forms;
          room = record { types = room_s.types; structs = room_s.structs; symbols = room_s.symbols; locals = room_s.locals };
          holds = (
            h.0,
            h.1,
            h.2,
            record {
              values_are = h.3.values_are;
              unnamed_is = h.3.unnamed_is;
              none_missing = h.3.none_missing;
              structs_are = h.3.structs_are;
              globals_are = ap (λ (z : List Global). z ++ x ∷ []) h.3.globals_are;
              declares_are = h.3.declares_are;
              functions_are = h.3.functions_are;
            },
          );
        },
        widens_further i p o a.4 wide_p,
        λ n others later.
            let at_p = later_widened p o n others wide_p later in
            let at_r = later_widened r o n others wide_r later in
            let has_shape = shape_stays r.types n.types r.struct_names.names n.struct_names shape x.held at_r.types at_r.structs t.5.has_shape in
            record {
              symbol = stays p.symbols.names n.symbols a.0 name at_p.symbols a.5;
              is_constant = refl;
              held = (shape, is_type.0, has_shape);
              initial = refl;
            },
      )
