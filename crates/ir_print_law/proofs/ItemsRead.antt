-- Struct types, globals and declared functions, as they are read.
use Rattle.std.proofs.Common.{◌≡◌, ℕ, Bool, true, false, List, [], ◌∷◌, ◌++◌, length, refl, sym, ap, subst, ◌∙◌, append_assoc, inl}
use Rattle.std.specs.Prelude.{nat_lt}
use Rattle.std.specs.List.{AllByRecursion}
use Rattle.std.proofs.lemmas.List.{append-nil}
use Rattle.lemmas.specs.All.{all_join}
use Rattle.grammar.specs.Grammar.{look, ◌>>=◌, ◌>>◌}
use Rattle.ir_ast.specs.declared.ir_type.IrType.TheVariants as type
use Rattle.ir_ast.specs.declared.function.Function.{Function}
use Rattle.ir_ast.specs.declared.items_of_module.Declare.{Declare}
use Rattle.ir_ast.specs.declared.items_of_module.Global.{Global}
use Rattle.ir_ast.specs.declared.items_of_module.StructType.{StructType}
use Rattle.ir_ast.specs.declared.items_of_module.SymbolSort.{SymbolSort}
use Rattle.ir_ast.specs.declared.items_of_module.SymbolSort.TheVariants as symbol
use Rattle.ir_ast.specs.declared.module.Module.{Module}
use Rattle.ir_ast.specs.declared.operand.Constant.{Constant}
use Rattle.ir_tokens.specs.declared.token.Kind.{Kind}
use Rattle.ir_tokens.specs.declared.token.Kind.TheVariants as k
use Rattle.ir_forms.specs.Cursor.{kind, spelled}
use Rattle.ir_ast.specs.RuntimeNames.{runtime_of}
use Rattle.ir_forms.specs.declared.input.Input.{Input}
use Rattle.ir_forms.specs.declared.written.WrittenType.{WrittenType}
use Rattle.ir_forms.specs.Input.{Form, skip, expect}
use Rattle.ir_forms.specs.Names.{with_number_taken}
use Rattle.ir_forms.specs.Outside.{lost_here}
use Rattle.ir_forms.specs.Written.{has_opaque, is_held, word_of}
use Rattle.ir_forms.specs.declared.decorating.Spot.TheVariants as spot
use Rattle.ir_forms.specs.declared.decorating.Trail.TheVariants as trail
use Rattle.ir_forms.specs.declared.written.Word.{Word}
use Rattle.ir_text.specs.DataItems.{begins_data, begins_external, with_outside, data_item}
use Rattle.ir_text.specs.ItemsOfText.{struct_type, with_struct_type, is_constant, global_value, value_by, global_by, global_afterwards, global, with_global, function_name_by, function_name, declaration, declare_by, names_left_out, with_declare}
use Rattle.ir_text.specs.Read.{module_of}
use Rattle.ir_print.specs.Names.{name_at}
use Rattle.ir_print_law.specs.Definitions.{defined_structs}
use Rattle.ir_print_law.specs.Printable.{IsStructType, IsGlobal, IsDeclare, IsInitial}
use Rattle.ir_print_law.proofs.Arguments.{bits_written}
use Rattle.ir_print_law.proofs.Decorations.{decorations_pass, past_brackets_passes, trailing_passes}
use Rattle.ir_print_law.proofs.Forms.{Keeps, Any}
use Rattle.ir_print_law.proofs.FunctionsRead.{head_end_keeps}
use Rattle.ir_print_law.proofs.ItemTypes.{IsFirst, body_keeps, initial_keeps, declared_result_keeps}
use Rattle.ir_print_law.proofs.LinesRead.{is_constant_passes, past_item_passes, declared_parameters_keep}
use Rattle.ir_print_law.proofs.Looks.{bits_are, held_is}
use Rattle.ir_print_law.proofs.ModuleItems.{struct_pending, global_pending, declare_pending, new_struct_keeps, named_at_end, new_global_keeps, new_declare_keeps, struct_added, global_added, declare_added, data_added, leads_data, data_named}
use Rattle.ir_print_law.proofs.ModuleState.{Pending, no_one, Stands, Kept, kept_of, Leads, leads_kept, reading_of, Made, between}
use Rattle.ir_print_law.proofs.Operands.{AreBits}
use Rattle.ir_print_law.proofs.Passes.{Passes, skip_passes, expect_passes, lost_passes}
use Rattle.ir_print_law.proofs.Tokens.{intern_goes}
use Rattle.ir_print_law.proofs.TypesThat.{IsFit, held_keeps, type_of}

-- ---- items that were made

-- the second list is the first one with further ones that are good
abbrev pub Grows : {A : Type 0} → (A → Type 0) → List A → List A → Type 0
Grows {A = A} P xs ys = (more : List A) × (ys ≡ xs ++ more) × AllByRecursion P more

-- nothing was added
pub grows_not : {A : Type 0} (P : A → Type 0) (xs : List A) → Grows P xs xs
grows_not P xs = ([], sym (append-nil xs), tt)

-- one was added
pub grows_by : {A : Type 0} (P : A → Type 0) (xs : List A) (x : A) → P x → Grows P xs (xs ++ x ∷ [])
grows_by P xs x h = (x ∷ [], refl, (h, tt))

-- more were added, and then more again
pub grows_further : {A : Type 0} (P : A → Type 0) (xs ys zs : List A) → Grows P xs ys → Grows P ys zs → Grows P xs zs
grows_further {A = A} P xs ys zs a b = (a.0 ++ b.0, b.1 ∙ ap (λ (l : List A). l ++ b.0) a.1 ∙ append_assoc xs a.0 b.0, all_join P a.0 b.0 a.2 b.2)

-- a module has these items, and then those, of which the further ones are good
pub record Grown (m : Module) (Good : Function → Type 0) (a b : Made) : Type 0 where
  pub structs : Grows (IsStructType m) a.structs b.structs
  pub globals : Grows (IsGlobal m) a.globals b.globals
  pub declares : Grows (IsDeclare m) a.declares b.declares
  pub functions : Grows Good a.functions b.functions

-- no item was added
pub grown_not : (m : Module) (Good : Function → Type 0) (a : Made) → Grown m Good a a
grown_not m Good a = record {
  structs = grows_not (IsStructType m) a.structs;
  globals = grows_not (IsGlobal m) a.globals;
  declares = grows_not (IsDeclare m) a.declares;
  functions = grows_not Good a.functions;
}

-- items were added, and then more again
pub grown_further : (m : Module) (Good : Function → Type 0) (a b c : Made) → Grown m Good a b → Grown m Good b c → Grown m Good a c
grown_further m Good a b c x y = record {
  structs = grows_further (IsStructType m) a.structs b.structs c.structs x.structs y.structs;
  globals = grows_further (IsGlobal m) a.globals b.globals c.globals x.globals y.globals;
  declares = grows_further (IsDeclare m) a.declares b.declares c.declares x.declares y.declares;
  functions = grows_further Good a.functions b.functions c.functions x.functions y.functions;
}

-- no name is pending, no function is being read, and these items are made
abbrev pub IsBetween : Made → Input → Type 0
IsBetween made i = Stands no_one i × (kept_of i ≡ between made)

-- an item goes from the items made so far to further ones, which are good where reading goes on to its end
abbrev pub Goes : {A : Type 0} → (e : Input) (Good : Function → Type 0) → Form A → Type 0
Goes {A = A} e Good form =
    (i : Input) (made : Made) (a : A) (o : Input) → form.says i a o → IsBetween made i
    → (later : Made) × IsBetween later o × (Leads e o → Leads e i × Grown (module_of e) Good made later)

module _ (e : Input) (Good : Function → Type 0) where
  -- ---- struct types

  pub struct_type_goes : Goes e Good struct_type
  unfolding struct_type
  struct_type_goes i made a o h f =
      let r = reading_of e (λ (x : Kept). x ≡ between made) (struct_pending h.0) in
      let t1 = h.3 in
      let t2 = t1.3 in
      let t3 = t2.3 in
      let s : StructType = record { name = h.0; body = t3.0 } in
      let later : Made = record made { structs = made.structs ++ s ∷ [] } in
      let b0 = new_struct_keeps e (λ (x : Kept). x ≡ between made) i h.0 h.1 h.2 f in
      let b1 = expect_passes r k.Equals h.1 t1.0 t1.1 t1.2 b0.0 in
      let b2 = expect_passes r k.Type t1.1 t2.0 t2.1 t2.2 b1.0 in
      let b3 = body_keeps r t2.1 t3.0 t3.1 t3.2 b2.0 in
      let there : IsBetween later (with_struct_type s t3.1) = (struct_added s t3.1 b3.0.0, ap (λ (x : Kept). record x { structs = x.structs ++ s ∷ [] }) b3.0.1) in (
        later,
        subst (IsBetween later) t3.3.1 there,
        λ back.
            let c3 = b3.1 (leads_kept e t3.1 (kept_of (with_struct_type s t3.1)) (subst (Leads e) (sym t3.3.1) back)) in
            let c0 = b0.1 (b1.1 (b2.1 c3.0).0).0 in (
              c0.0,
              record {
                structs = grows_by (IsStructType (module_of e)) made.structs s c3.1;
                globals = grows_not (IsGlobal (module_of e)) made.globals;
                declares = grows_not (IsDeclare (module_of e)) made.declares;
                functions = grows_not Good made.functions;
              },
            ),
      )

  -- ---- globals

  global_of : (symbol : ℕ) (is_constant : Bool) (w : WrittenType) (x : Constant) → IsFit (module_of e) is_held w → IsFirst (word_of w) x
      → IsGlobal (module_of e) (record { symbol = symbol; is_constant = is_constant; held = w.id; initial = x })
  global_of symbol is_constant w x fit first =
      let m = module_of e in
      let shape = fit.0.0 in
      let own = fit.0.1 in
      let bits = bits_are m 64 w shape own in
      let fits = subst AreBits (sym bits) (bits_written m.wide (has_opaque m.types) (defined_structs m) shape own.is_written) in
      (shape, type_of m w shape own, sym (held_is m 64 w shape own) ∙ fit.1, subst (λ (b : Word). IsInitial b x) bits (first fits))

  declared_grows : (made : Made) (d : Declare) → IsDeclare (module_of e) d → Grown (module_of e) Good made (record made { declares = made.declares ++ d ∷ [] })
  declared_grows made d is = record {
    structs = grows_not (IsStructType (module_of e)) made.structs;
    globals = grows_not (IsGlobal (module_of e)) made.globals;
    declares = grows_by (IsDeclare (module_of e)) made.declares d is;
    functions = grows_not Good made.functions;
  }

  -- a name is taken for that of a global, and these items are made
  abbrev IsPending : ℕ → Made → Input → Type 0
  IsPending s made i = Stands (global_pending s) i × (kept_of i ≡ between made)

  -- what follows goes on to further items
  abbrev Follows : ℕ → Form (Unit {0}) → Type 0
  Follows s form =
      (i : Input) (made : Made) (a : Unit {0}) (o : Input) → form.says i a o → IsPending s made i
      → (later : Made) × IsBetween later o × (Leads e o → Leads e i × Grown (module_of e) Good made later)

  -- a form that preserves what is known, and then one that goes on
  follows : {A : Type 0} (s : ℕ) (g : Form A) (f : A → Form (Unit {0})) → ((made : Made) → Passes (reading_of e (λ (x : Kept). x ≡ between made) (global_pending s)) g)
      → ((a : A) → Follows s (f a)) → Follows s (g >>= f)
  follows s g f passes goes i made a o h fore =
      let b = passes made i h.0 h.1 h.2 fore in
      let x = goes h.0 h.1 made a o h.3 b.0 in
      (x.0, x.1, λ back. let c = x.2 back in ((b.1 c.0).0, c.1))

  value_goes : (s : ℕ) (is_fixed : Bool) → Follows s (global_value s is_fixed)
  value_goes s is_fixed i made a o h f =
      let r = reading_of e (λ (x : Kept). x ≡ between made) (global_pending s) in
      let t4 = h.3 in
      let t5 = t4.3 in
      let t6 = t5.3 in
      let g : Global = record { symbol = s; is_constant = is_fixed; held = h.0.id; initial = t4.0 } in
      let later : Made = record made { globals = made.globals ++ g ∷ [] } in
      let b3 = held_keeps r i h.0 h.1 h.2 f in
      let b4 = initial_keeps r (word_of h.0) h.1 t4.0 t4.1 t4.2 b3.0 in
      let b5 = trailing_passes r trail.Global t4.1 t5.0 t5.1 t5.2 b4.0 in
      let b6 = decorations_pass r spot.GlobalEnd t5.1 t6.0 t6.1 t6.2 b5.0 in
      let there : IsBetween later (with_global g t6.1) = (global_added g t6.1 b6.0.0, ap (λ (x : Kept). record x { globals = x.globals ++ g ∷ [] }) b6.0.1) in (
        later,
        subst (IsBetween later) t6.3.1 there,
        λ back.
            let c6 = b6.1 (leads_kept e t6.1 (kept_of (with_global g t6.1)) (subst (Leads e) (sym t6.3.1) back)) in
            let c5 = b5.1 c6.0 in
            let c4 = b4.1 c5.0 in
            let c3 = b3.1 c4.0 in (
              c3.0,
              record {
                structs = grows_not (IsStructType (module_of e)) made.structs;
                globals = grows_by (IsGlobal (module_of e)) made.globals g (global_of s is_fixed h.0 t4.0 c3.1 c4.1);
                declares = grows_not (IsDeclare (module_of e)) made.declares;
                functions = grows_not Good made.functions;
              },
            ),
      )

  -- the name of data is declared
  data_goes : (s : ℕ) → Follows s (data_item s)
  unfolding data_item
  data_goes s i made a o h f =
      let r = reading_of e (λ (x : Kept). x ≡ between made) (global_pending s) in
      let same : i ≡ h.1 = h.2.2.1 ∙ h.2.3.1 in
      let before : IsPending s made h.1 = subst (IsPending s made) same f in
      let number = length h.1.declares in
      let few : nat_lt number 65535 ≡ true = ap (λ (j : Input). nat_lt (length j.declares) 65535) (sym same) ∙ h.2.2.0 in
      let t1 = h.3.2 in
      let t2 = h.3.3 in
      let b1 = lost_passes r h.1 t1.0 t1.1 t1.2 before in
      let b2 = past_item_passes r t1.1 h.3.0 h.3.1 t1.3 b1.0 in
      let b3 = intern_goes r type.Void h.3.1 tt t2.0 t2.1 t2.2 b2.0 in
      let d : Declare = record { symbol = s; runtime = runtime_of (name_at t2.1.symbols.names s); returned = t2.0; parameters = [] } in
      let later : Made = record made { declares = made.declares ++ d ∷ [] } in
      let counted : length t2.1.declares ≡ number = ap (λ (x : Kept). length x.declares) (b3.0.1 ∙ sym before.1) in
      let there : IsBetween later (with_outside s number t2.0 t2.1) = (data_added s number t2.0 t2.1 counted few b3.0.0, ap (λ (x : Kept). record x { declares = x.declares ++ d ∷ [] }) b3.0.1) in (
        later,
        subst (IsBetween later) t2.3.1 there,
        λ back.
            let c4 = leads_data e s number t2.0 t2.1 (subst (Leads e) (sym t2.3.1) back) in
            let c3 = b3.1 c4 in
            let c1 = b1.1 (b2.1 c3.0).0 in
            (subst (Leads e) (sym same) c1.0, declared_grows made d (inl c3.1.0, tt, ap runtime_of (data_named e s t2.1 b3.0.0 c4))),
      )

  value_by_goes : (s : ℕ) (is_fixed t : Bool) → Follows s (value_by s is_fixed t)
  value_by_goes s is_fixed true = data_goes s
  value_by_goes s is_fixed false = value_goes s is_fixed

  by_goes : (s : ℕ) (t : Bool) → Follows s (global_by s t)
  by_goes s true =
      follows s lost_here (λ _. skip >> (is_constant >> data_item s)) (λ made. lost_passes (reading_of e (λ (x : Kept). x ≡ between made) (global_pending s)))
      (λ _. follows s skip (λ _. is_constant >> data_item s) (λ made. skip_passes (reading_of e (λ (x : Kept). x ≡ between made) (global_pending s)))
      (λ _. follows s is_constant (λ _. data_item s) (λ made. is_constant_passes (reading_of e (λ (x : Kept). x ≡ between made) (global_pending s))) (λ _. data_goes s)))
  by_goes s false =
      follows s is_constant (λ t. look begins_data (value_by s t)) (λ made. is_constant_passes (reading_of e (λ (x : Kept). x ≡ between made) (global_pending s)))
      (λ t i made a o h f. value_by_goes s t (begins_data i) i made a o h f)

  afterwards_goes : (s : ℕ) → Follows s (global_afterwards s)
  afterwards_goes s =
      follows s (expect k.Equals) (λ _. look begins_external (global_by s)) (λ made. expect_passes (reading_of e (λ (x : Kept). x ≡ between made) (global_pending s)) k.Equals)
      (λ _ i made a o h f. by_goes s (begins_external i) i made a o h f)

  pub global_goes : Goes e Good global
  unfolding global
  global_goes i made a o h f =
      let named = h.2 in
      let same = named.2.1 in
      let few : nat_lt (length named.1.globals) 4096 ≡ true = ap (λ (j : Input). nat_lt (length j.globals) 4096) (sym same) ∙ named.2.0 in
      let b0 = new_global_keeps e (λ (x : Kept). x ≡ between made) named.1 few h.0 h.1 named.3 (subst (IsBetween made) same f) in
      let x = afterwards_goes h.0 h.1 made a o h.3 b0.0 in
      (x.0, x.1, λ back. let c = x.2 back in (subst (Leads e) (sym same) (b0.1 c.0).0, c.1))

  -- ---- declared functions

  -- no function is being read, but numbers of parameters are counted
  abbrev IsCounting : Made → Kept → Type 0
  IsCounting made x = record x { unnamed = 0 } ≡ between made

  stands_taken : (p : Pending) (i : Input) → Stands p i → Stands p (with_number_taken i)
  stands_taken p i h = record {
    bytes = h.bytes;
    spell = h.spell;
    place = h.place;
    ordered = h.ordered;
    once = h.once;
    structs = h.structs;
    symbols = h.symbols;
    few_globals = h.few_globals;
    few_declares = h.few_declares;
    few_functions = h.few_functions;
  }

  named_by : (made : Made) (number : ℕ) (x : Kind) (i : Input) → length made.declares ≡ number → nat_lt number 65535 ≡ true
      → Keeps (λ i. Stands no_one i × IsCounting made (kept_of i)) (λ n o. Stands (declare_pending n) o × IsCounting made (kept_of o)) (Leads e)
      (function_name_by (symbol.Declared number) x) Any i
  named_by made number k.GlobalName i same few n o h f = new_declare_keeps e (IsCounting made) i number (ap (λ (x : Kept). length x.declares) f.1 ∙ same) few n o h f
  named_by made number _ i same few n o h f = absurd h

  declare_name_keeps : (made : Made) (number : ℕ) (i : Input) → length made.declares ≡ number → nat_lt number 65535 ≡ true
      → Keeps (λ i. Stands no_one i × IsCounting made (kept_of i)) (λ n o. Stands (declare_pending n) o × IsCounting made (kept_of o)) (Leads e)
      (function_name (symbol.Declared number)) Any i
  unfolding function_name
  declare_name_keeps made number i same few n o h f = named_by made number (kind i.cursor) i same few n o h f

  -- the name has its number where reading ends
  named_by_kind : (sort : SymbolSort) (x : Kind) (i : Input) (n : ℕ) (o : Input) → (function_name_by sort x).says i n o → Leads e o → name_at e.symbols.names n ≡ spelled i.cursor
  named_by_kind sort k.GlobalName i n o h back = named_at_end e i sort n o h back
  named_by_kind sort _ i n o h back = absurd h

  function_named : (sort : SymbolSort) (i : Input) (n : ℕ) (o : Input) → (function_name sort).says i n o → Leads e o → name_at e.symbols.names n ≡ spelled i.cursor
  unfolding function_name
  function_named sort i n o h back = named_by_kind sort (kind i.cursor) i n o h back

  pub declaration_goes : Goes e Good declaration
  unfolding declaration
  declaration_goes i made a o h f = by (names_left_out h.3.3.1) h.3.3.3 where
    m : Module
    m = module_of e

    same : i ≡ h.1
    same = h.2.1

    number : ℕ
    number = length h.1.declares

    before : IsBetween made h.1
    before = subst (IsBetween made) same f

    by : (t : Bool) → (declare_by number h.3.3.0 t).says h.3.3.1 a o → (later : Made) × IsBetween later o × (Leads e o → Leads e i × Grown m Good made later)
    by true said =
        let r = reading_of e (λ (x : Kept). x ≡ between made) no_one in
        let s1 = h.3 in
        let s2 = s1.3 in
        let s3 = said.3 in
        let s4 = s3.3 in
        let s5 = s4.3 in
        let b1 = skip_passes r h.1 s1.0 s1.1 s1.2 before in
        let b2 = declared_result_keeps r s1.1 s2.0 s2.1 s2.2 b1.0 in
        let b3 = skip_passes r s2.1 said.0 said.1 said.2 b2.0 in
        let b4 = expect_passes r k.OpenRound said.1 s3.0 s3.1 s3.2 b3.0 in
        let b5 = past_brackets_passes r s3.1 s4.0 s4.1 s4.2 b4.0 in
        let b6 = head_end_keeps r spot.Declared s4.1 s5.0 s5.1 s5.2 b5.0 in (
          made,
          subst (IsBetween made) s5.3.1 b6.0,
          λ back.
              let c6 = b6.1 (subst (Leads e) (sym s5.3.1) back) in
              let c2 = b2.1 (b3.1 (b4.1 (b5.1 c6.0).0).0).0 in
              (subst (Leads e) (sym same) (b1.1 c2.0).0, grown_not m Good made),
        )
    by false s3 =
        let few : nat_lt number 65535 ≡ true = ap (λ (j : Input). nat_lt (length j.declares) 65535) (sym same) ∙ h.2.0 in
        let counted : length made.declares ≡ number = sym (ap (λ (x : Kept). length x.declares) before.1) in
        let s1 = h.3 in
        let s2 = s1.3 in
        let s4 = s3.3 in
        let s5 = s4.3 in
        let s6 = s5.3 in
        let s7 = s6.3 in
        let d : Declare = record { symbol = s3.0; runtime = runtime_of (spelled s2.1.cursor); returned = s2.0; parameters = s5.0 } in
        let later : Made = record made { declares = made.declares ++ d ∷ [] } in
        let r = reading_of e (IsCounting made) no_one in
        let q = reading_of e (IsCounting made) (declare_pending s3.0) in
        let b1 = skip_passes r h.1 s1.0 s1.1 s1.2 (before.0, ap (λ (x : Kept). record x { unnamed = 0 }) before.1) in
        let b2 = declared_result_keeps r s1.1 s2.0 s2.1 s2.2 b1.0 in
        let b3 = declare_name_keeps made number s2.1 counted few s3.0 s3.1 s3.2 b2.0 in
        let b4 = expect_passes q k.OpenRound s3.1 s4.0 s4.1 s4.2 b3.0 in
        let b5 = declared_parameters_keep q (λ j g. (stands_taken (declare_pending s3.0) j g.0, g.1)) (λ j b. leads_kept e j (kept_of (with_number_taken j)) b)
        s4.1 s5.0 s5.1 s5.2 b4.0 in
        let b6 = expect_passes q k.CloseRound s5.1 s6.0 s6.1 s6.2 b5.0 in
        let b7 = head_end_keeps q spot.Declared s6.1 s7.0 s7.1 s7.2 b6.0 in
        let there : IsBetween later (with_declare d s7.1) = (declare_added d s7.1 b7.0.0, ap (λ (x : Kept). record x { declares = x.declares ++ d ∷ [] }) b7.0.1) in (
          later,
          subst (IsBetween later) s7.3.1 there,
          λ back.
              let c7 = b7.1 (leads_kept e s7.1 (kept_of (with_declare d s7.1)) (subst (Leads e) (sym s7.3.1) back)) in
              let c5 = b5.1 (b6.1 c7.0).0 in
              let c3 = (b4.1 c5.0).0 in
              let c2 = b2.1 (b3.1 c3).0 in
              let c1 = b1.1 c2.0 in
              let runtime = ap runtime_of (sym (function_named (symbol.Declared number) s2.1 s3.0 s3.1 s3.2 c3)) in (
                subst (Leads e) (sym same) c1.0,
                declared_grows made d (c2.1, c5.1, runtime),
              ),
        )
