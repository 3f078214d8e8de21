-- The parameters of a function use no local name.
use Rattle.std.proofs.Common.{◌≡◌, ◌+◌, ℕ, List, [], ◌∷◌, subst, ◌∙◌}
use Rattle.std.specs.Fmt as text
use Rattle.grammar.specs.Many.{Listed}
use Rattle.ir_ast.specs.declared.function.LocalSort.TheVariants as local
use Rattle.ir_ast.specs.declared.function.Parameter.{Parameter}
use Rattle.ir_ast.specs.declared.module.Module.{Module}
use Rattle.ir_tokens.specs.declared.token.Kind.{Kind}
use Rattle.ir_tokens.specs.declared.token.Kind.TheVariants as k
use Rattle.ir_forms.specs.Cursor.{kind, local_key}
use Rattle.ir_forms.specs.Table.{mentioned, defined}
use Rattle.ir_forms.specs.declared.input.Input.{Input}
use Rattle.ir_forms.specs.declared.written.WrittenType.{WrittenType}
use Rattle.ir_forms.specs.Input.{advanced, expect}
use Rattle.ir_forms.specs.Names.{numbered_value, unnamed_value}
use Rattle.ir_forms.specs.Lists.{at_round}
use Rattle.ir_forms.specs.declared.decorating.Spot.TheVariants as spot
use Rattle.ir_text.specs.Parameters.{parameter_type_by, parameter_type, parameter_name_by, parameter_name, parameter, parameters}
use Rattle.ir_print_law.proofs.Decorations.{decorations_pass, separator_passes}
use Rattle.ir_print_law.proofs.FunctionNamed.{IsTaken, IsNewValue, taken, next_taken, new_value_is}
use Rattle.ir_print_law.proofs.Outside.{Outside}
use Rattle.ir_print_law.proofs.Passes.{expect_passes}
use Rattle.ir_print_law.proofs.Reading.{Reading}
use Rattle.ir_print_law.proofs.TypesThat.{passed_keeps}

-- no local name is used
still : {m : Module} → Outside m → Reading m
still w =
    let r = w.reading in record {
      Fore = λ i. r.Fore i × (i.local_uses ≡ []);
      Back = r.Back;
      ordered = r.ordered;
      bytes = λ i h back. r.bytes i h.0 back;
      forms = r.forms;
      has_types = r.has_types;
      has_structs = r.has_structs;
      has_symbols = r.has_symbols;
      on_token = λ i h. (r.on_token i h.0, h.1);
      from_token = r.from_token;
      on_type = λ i t last h. (r.on_type i t last h.0, h.1);
      from_type = r.from_type;
      on_struct = λ i h. (r.on_struct i h.0, h.1);
      from_struct = r.from_struct;
      struct_is = r.struct_is;
      on_symbol = λ i is_call h. (r.on_symbol i is_call h.0, h.1);
      from_symbol = r.from_symbol;
      symbol_is = r.symbol_is;
      on_lost = λ i lost h. (r.on_lost i lost h.0, h.1);
      from_lost = r.from_lost;
    }

module _ {m : Module} (w : Outside m) where
  abbrev Unused : Input → Type 0
  Unused i = w.reading.Fore i × (i.local_uses ≡ [])

  taken_unused : (i o : Input) → IsTaken i o → Unused i → Unused o
  taken_unused i o took h = subst Unused took.1 (w.on_own i i.locals i.local_uses i.values (i.unnamed + 1) h.0, h.1)

  value_unused : (i : Input) (n : ℕ) (o : Input) → IsNewValue i n o → Unused i → Unused o
  value_unused i n o new h =
      subst Unused new.3 (w.on_own (advanced i) (mentioned (local_key i.cursor) local.Unknown i.locals) i.local_uses (i.values + 1) i.unnamed (w.reading.on_token i h.0), h.1)

  unnamed_unused : (i : Input) (n : ℕ) (o : Input) → unnamed_value.says i n o → Unused i → Unused o
  unfolding unnamed_value
  unnamed_unused i n o said h =
      let key = text.decimal i.unnamed in
      let form = said.3 in
      let same = form.2.2.1 ∙ form.2.3.1 in
      let j = form.1 in
      let before = subst Unused same (taken_unused i said.1 (taken i said.0 said.1 said.2) h) in
      subst Unused form.3.1 (w.on_own j (mentioned key local.Unknown j.locals) j.local_uses (j.values + 1) j.unnamed before.0, before.1)

  numbered_unused : (i : Input) (n : ℕ) (o : Input) → numbered_value.says i n o → Unused i → Unused o
  unfolding numbered_value
  numbered_unused i n o said h =
      let next = next_taken i said.0 said.1 said.2 in
      value_unused said.1 n o (new_value_is said.1 n o said.3) (taken_unused i said.1 next.1 h)

  name_unused : (x : Kind) (i : Input) (n : ℕ) (o : Input) → (parameter_name_by x).says i n o → Unused i → Unused o
  name_unused k.LocalName = λ i n o said h. value_unused i n o (new_value_is i n o said) h
  name_unused k.LocalNumber = numbered_unused
  name_unused k.Comma = unnamed_unused
  name_unused k.CloseRound = unnamed_unused
  name_unused _ = λ i n o said h. absurd said

  type_unused : (x : Kind) (i : Input) (a : WrittenType) (o : Input) → (parameter_type_by x).says i a o → (still w).Fore i → (still w).Fore o
  type_unused k.Void = λ i a o said h. absurd said
  type_unused _ = λ i a o said h. (passed_keeps (still w) i a o said h).0

  parameter_unused : (i : Input) (x : Parameter) (o : Input) → parameter.says i x o → Unused i → Unused o
  unfolding parameter parameter_type parameter_name still
  parameter_unused i x o h fore =
      let t = h.3 in
      let u = t.3 in
      let v = u.3 in
      let z = v.3 in
      let a = type_unused (kind i.cursor) i h.0 h.1 h.2 fore in
      let c = decorations_pass (still w) spot.Parameter h.1 t.0 t.1 t.2 a in
      let d = name_unused (kind t.1.cursor) t.1 u.0 u.1 u.2 c.0 in
      let j = u.1 in
      let e : Unused v.1 = subst Unused v.2.1 (w.on_own j (defined u.0 (local.Value h.0.id) j.locals) j.local_uses j.values j.unnamed d.0, d.1) in
      let s = separator_passes (still w) k.CloseRound v.1 z.0 z.1 z.2 e in
      subst Unused z.3.1 s.0

  each_unused : (i : Input) (xs : List Parameter) (o : Input) → Listed at_round parameter.says i xs o → Unused i → Unused o
  each_unused i [] o h fore = subst Unused h.1 fore
  each_unused i (x ∷ xs) o h fore = each_unused h.1 xs o h.3 (parameter_unused i x h.1 h.2 fore)

  -- where none was used before them
  pub parameters_unused : (i : Input) (ps : List Parameter) (o : Input) → parameters.says i ps o → w.reading.Fore i → i.local_uses ≡ [] → o.local_uses ≡ []
  unfolding parameters
  parameters_unused i ps o h fore none = (each_unused i ps o h (fore, none)).1

  -- nor does a token
  pub expect_unused : (x : Kind) (i : Input) (a : Unit {0}) (o : Input) → (expect x).says i a o → w.reading.Fore i → i.local_uses ≡ [] → o.local_uses ≡ []
  unfolding still
  expect_unused x i a o h fore none = (expect_passes (still w) x i a o h (fore, none)).0.1
