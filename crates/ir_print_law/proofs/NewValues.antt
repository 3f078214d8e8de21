-- Local names that are defined are read, and from there on it is known what they mean.
use Rattle.std.proofs.Common.{◌≡◌, ℕ, ◌+◌, ◌<◌, ◌^◌, false, List, [], ◌∷◌, ◌++◌, slice_get, Some, refl, sym, ap, subst, ◌∙◌, arith, inl, inr, ◌⊎◌}
use Rattle.lemmas.specs.Lists.{IsIn}
use Rattle.std.specs.Fmt as text
use Rattle.ir_ast.specs.LocalKeys.{key_of_name}
use Rattle.ir_ast.specs.Names.{number_of, numbered}
use Rattle.ir_ast.specs.declared.function.Function.{Function}
use Rattle.ir_ast.specs.declared.function.LocalSort.TheVariants as local
use Rattle.ir_ast.specs.declared.module.Module.{Module}
use Rattle.ir_tokens.specs.declared.token.Kind.{Kind}
use Rattle.ir_tokens.specs.declared.token.Kind.TheVariants as k
use Rattle.ir_tokens.specs.Bytes.{Text}
use Rattle.ir_forms.specs.Cursor.{kind, local_key}
use Rattle.ir_forms.specs.Table.{mentioned}
use Rattle.ir_forms.specs.declared.input.Input.{Input}
use Rattle.ir_forms.specs.Input.{Form}
use Rattle.ir_forms.specs.Names as names
use Rattle.name_text.specs.Names.{name_text}
use Rattle.name_text.specs.Readings.{AreBytes}
use Rattle.name_text.specs.declared.blank.Blank.TheVariants as blank
use Rattle.ir_print.specs.Names.{key_text}
use Rattle.ir_print_law.specs.Stands.{Stands, IsSeam, AreBlanks}
use Rattle.ir_print_law.proofs.Constants.{are_digits}
use Rattle.ir_print_law.proofs.NamesRead.{digits_text, name_key_text, new_values_are_read}
use Rattle.ir_print_law.proofs.Numbered.{numbered_values_are_read}
use Rattle.ir_print_law.proofs.Words.{local_comes, local_number_comes}
use Rattle.ir_print_law.proofs.Tables.{begins_itself, name_begins, name_length, name_there, number_within}
use Rattle.ir_print_law.proofs.State.{Ready}
use Rattle.ir_print_law.proofs.Known.{Far, AreNamed, Holds, LocalsKnown, known}
use Rattle.ir_print_law.proofs.Defining.{local_is_new, value_begun}
use Rattle.ir_print_law.proofs.WholeForms.{Widens}
use Rattle.ir_print_law.proofs.NewNames.{one_byte}

-- ---- keys

-- a key that is defined next: the next number, or a name
abbrev pub IsNext : (unnamed : ℕ) → Text → Type 0
IsNext unnamed key = (key ≡ text.decimal unnamed) ⊎ ((name : Text) × AreBytes name × (key ≡ key_of_name name))

-- the numbers that are taken then
abbrev pub unnamed_then : (unnamed : ℕ) (key : Text) → IsNext unnamed key → ℕ
unnamed_then unnamed key (inl e) = unnamed + 1
unnamed_then unnamed key (inr named) = unnamed

-- the kind of token that a key is in the text
abbrev pub kind_then : (with_digits with_letters : Kind) (unnamed : ℕ) (key : Text) → IsNext unnamed key → Kind
kind_then with_digits with_letters unnamed key (inl e) = with_digits
kind_then with_digits with_letters unnamed key (inr named) = with_letters

-- the next number of the function, which is this one
number_read : (u : ℕ) (i : Input) (gap rest : Text) → i.unnamed ≡ u → u < 4294967295 → number_of (text.decimal u) i.locals.names < 2 ^ 32
    → names.is_local (slice_get (mentioned (text.decimal u) local.Unknown i.locals).sorts (number_of (text.decimal u) i.locals.names)) ≡ false → i.values < 1000000
    → AreBlanks gap → IsSeam rest → Stands i.cursor (gap ++ 37 ∷ (text.decimal u ++ rest))
    → names.numbered_value.says i (number_of (text.decimal u) i.locals.names) (names.with_value (names.with_number_taken i))
    × (local_key i.cursor ≡ text.decimal u) × Stands (names.with_value (names.with_number_taken i)).cursor rest
number_read u i gap rest e =
    subst (λ (u : ℕ). u < 4294967295 → number_of (text.decimal u) i.locals.names < 2 ^ 32
    → names.is_local (slice_get (mentioned (text.decimal u) local.Unknown i.locals).sorts (number_of (text.decimal u) i.locals.names)) ≡ false → i.values < 1000000
    → AreBlanks gap → IsSeam rest → Stands i.cursor (gap ++ 37 ∷ (text.decimal u ++ rest))
    → names.numbered_value.says i (number_of (text.decimal u) i.locals.names) (names.with_value (names.with_number_taken i))
    × (local_key i.cursor ≡ text.decimal u) × Stands (names.with_value (names.with_number_taken i)).cursor rest) e (numbered_values_are_read i gap rest)

module _ (m : Module) (f : Function) (named : AreNamed m f) (far : Far) where
  -- ---- values

  abbrev pub far_value : (key : Text) (n unnamed : ℕ) → Far
  far_value key n unnamed = record far { seen = far.seen ++ key ∷ []; pending = (key, n) ∷ []; count = far.count + 1; unnamed = unnamed }

  -- the form that defines a value by its name or its number
  abbrev pub value_by : (key : Text) → IsNext far.unnamed key → Form ℕ
  value_by key (inl e) = names.numbered_value
  value_by key (inr named) = names.new_value

  -- the value was read, and waits for its type
  abbrev pub ValueGoes : Text → Form ℕ → Kind → (unnamed : ℕ) → Input → (rest : Text) → (s : ℕ) → Type 0
  ValueGoes key form x unnamed i rest s =
      (kind i.cursor ≡ x)
      × ((n : ℕ) × (o : Input) × form.says i n o × Ready (known m f named (far_value key n unnamed)) s o rest × Widens i o × (slice_get o.locals.names n ≡ Some key))

  value_known : (key : Text) (i o : Input) (unnamed : ℕ) → Holds m f far i → far.pending ≡ [] → local_key i.cursor ≡ key
      → o.locals ≡ mentioned (local_key i.cursor) local.Unknown i.locals → o.local_uses ≡ i.local_uses
      → LocalsKnown f (far.seen ++ key ∷ []) far.values far.labels ((key, number_of key i.locals.names) ∷ []) o.locals o.local_uses
  value_known key i o unnamed h none e locals uses =
      let before = subst (λ (p : List _). LocalsKnown f far.seen far.values far.labels p i.locals i.local_uses) none h.2 in
      subst (λ (t : _). LocalsKnown f (far.seen ++ key ∷ []) far.values far.labels ((key, number_of key i.locals.names) ∷ []) t o.local_uses) (sym locals)
      (subst (λ (x : Text). LocalsKnown f (far.seen ++ key ∷ []) far.values far.labels ((key, number_of key i.locals.names) ∷ []) (mentioned x local.Unknown i.locals) o.local_uses) (sym e)
      (subst (λ (u : List _). LocalsKnown f (far.seen ++ key ∷ []) far.values far.labels ((key, number_of key i.locals.names) ∷ []) (mentioned key local.Unknown i.locals) u) (sym uses)
      (value_begun f far.seen far.values far.labels i.locals i.local_uses key before)))

  named_value : (name : Text) (i : Input) (gap rest : Text) (s : ℕ) → AreBytes name → (IsIn (key_of_name name) far.seen → ⊥) → far.count < 1000000 → far.pending ≡ []
      → AreBlanks gap → IsSeam rest → Ready (known m f named far) s i (gap ++ 37 ∷ (name_text blank.Kept name ++ rest))
      → ValueGoes (key_of_name name) names.new_value k.LocalName far.unnamed i rest s
  named_value name i gap rest s own none many waits blanks seam ready =
      let key = key_of_name name in
      let h = ready.holds in
      let r = ready.room in
      let one = one_byte gap 37 (name_text blank.Kept name) rest s in
      let room_locals = r.locals in
      let within = number_within key i.locals.names in
      let number : number_of key i.locals.names < 2 ^ 32 = omega (arith, room_locals, within) in
      let counted : i.values < 1000000 = subst (λ (n : ℕ). n < 1000000) (sym h.3.values_are) many in
      let new = local_is_new f far.seen far.values far.labels far.pending i.locals i.local_uses key h.2 none in
      let w = new_values_are_read name i gap rest own number new counted blanks seam ready.stands in
      let longer = name_length (local_key i.cursor) i.locals.names in (
        (local_comes i.cursor gap name rest blanks own seam ready.stands).0,
        (
          number_of key i.locals.names,
          names.with_value i,
          w.0,
          record {
            stands = w.2;
            ordered = ready.ordered;
            forms = ready.forms;
            room = record {
              types = let a = r.types in omega (arith, a, one);
              structs = let a = r.structs in omega (arith, a, one);
              symbols = let a = r.symbols in omega (arith, a, one);
              locals = omega (arith, room_locals, one, longer);
            };
            holds = (
              h.0,
              h.1,
              value_known key i (names.with_value i) far.unnamed h waits w.1 refl refl,
              record {
                values_are = ap (λ (n : ℕ). n + 1) h.3.values_are;
                unnamed_is = h.3.unnamed_is;
                none_missing = h.3.none_missing;
                structs_are = h.3.structs_are;
                globals_are = h.3.globals_are;
                declares_are = h.3.declares_are;
                functions_are = h.3.functions_are;
              },
            );
          },
          record { types = begins_itself i.types; structs = begins_itself i.struct_names.names; symbols = begins_itself i.symbols.names; locals = name_begins (local_key i.cursor) i.locals.names },
          subst (λ (x : Text). slice_get (numbered x i.locals.names) (number_of key i.locals.names) ≡ Some key) (sym w.1) (name_there key i.locals.names),
        ),
      )

  number_value : (i : Input) (gap rest : Text) (s : ℕ) → (IsIn (text.decimal far.unnamed) far.seen → ⊥) → far.count < 1000000 → far.unnamed < 4294967295 → far.pending ≡ []
      → AreBlanks gap → IsSeam rest → Ready (known m f named far) s i (gap ++ 37 ∷ (text.decimal far.unnamed ++ rest))
      → ValueGoes (text.decimal far.unnamed) names.numbered_value k.LocalNumber (far.unnamed + 1) i rest s
  number_value i gap rest s none many few_numbers waits blanks seam ready =
      let key = text.decimal far.unnamed in
      let h = ready.holds in
      let r = ready.room in
      let one = one_byte gap 37 (text.decimal far.unnamed) rest s in
      let room_locals = r.locals in
      let within = number_within key i.locals.names in
      let number : number_of key i.locals.names < 2 ^ 32 = omega (arith, room_locals, within) in
      let counted : i.values < 1000000 = subst (λ (n : ℕ). n < 1000000) (sym h.3.values_are) many in
      let wide : far.unnamed < 2 ^ 64 = omega (arith, few_numbers) in
      let new = local_is_new f far.seen far.values far.labels far.pending i.locals i.local_uses key h.2 none in
      let w = number_read far.unnamed i gap rest h.3.unnamed_is few_numbers number new counted blanks seam ready.stands in
      let longer = name_length (local_key i.cursor) i.locals.names in (
        (local_number_comes i.cursor gap (text.decimal far.unnamed) rest blanks (are_digits far.unnamed wide) seam ready.stands).0,
        (
          number_of key i.locals.names,
          names.with_value (names.with_number_taken i),
          w.0,
          record {
            stands = w.2;
            ordered = ready.ordered;
            forms = ready.forms;
            room = record {
              types = let a = r.types in omega (arith, a, one);
              structs = let a = r.structs in omega (arith, a, one);
              symbols = let a = r.symbols in omega (arith, a, one);
              locals = omega (arith, room_locals, one, longer);
            };
            holds = (
              h.0,
              h.1,
              value_known key i (names.with_value (names.with_number_taken i)) (far.unnamed + 1) h waits w.1 refl refl,
              record {
                values_are = ap (λ (n : ℕ). n + 1) h.3.values_are;
                unnamed_is = ap (λ (n : ℕ). n + 1) h.3.unnamed_is;
                none_missing = h.3.none_missing;
                structs_are = h.3.structs_are;
                globals_are = h.3.globals_are;
                declares_are = h.3.declares_are;
                functions_are = h.3.functions_are;
              },
            );
          },
          record { types = begins_itself i.types; structs = begins_itself i.struct_names.names; symbols = begins_itself i.symbols.names; locals = name_begins (local_key i.cursor) i.locals.names },
          subst (λ (x : Text). slice_get (numbered x i.locals.names) (number_of key i.locals.names) ≡ Some key) (sym w.1) (name_there key i.locals.names),
        ),
      )

  -- a value is defined by its next number or its name
  pub value_goes : (key : Text) (is : IsNext far.unnamed key) (i : Input) (gap rest : Text) (s : ℕ) → (IsIn key far.seen → ⊥) → far.count < 1000000 → far.unnamed < 4294967295 → far.pending ≡ []
      → AreBlanks gap → IsSeam rest → Ready (known m f named far) s i (gap ++ 37 ∷ (key_text key ++ rest))
      → ValueGoes key (value_by key is) (kind_then k.LocalNumber k.LocalName far.unnamed key is) (unnamed_then far.unnamed key is) i rest s
  value_goes key (inl e) i gap rest s none many few_numbers waits blanks seam ready =
      let wide : far.unnamed < 2 ^ 64 = omega (arith, few_numbers) in
      let own = digits_text (text.decimal far.unnamed) (are_digits far.unnamed wide) in
      let shown : key_text key ≡ text.decimal far.unnamed = ap key_text e ∙ own in
      subst (λ (x : Text). ValueGoes x names.numbered_value k.LocalNumber (far.unnamed + 1) i rest s) (sym e)
      (number_value i gap rest s (λ is. none (subst (λ (x : Text). IsIn x far.seen) (sym e) is)) many few_numbers waits blanks seam
      (subst (λ (x : Text). Ready (known m f named far) s i (gap ++ 37 ∷ (x ++ rest))) shown ready))
  value_goes key (inr other) i gap rest s none many few_numbers waits blanks seam ready =
      let e = other.2 in
      let shown : key_text key ≡ name_text blank.Kept other.0 = ap key_text e ∙ name_key_text other.0 in
      subst (λ (x : Text). ValueGoes x names.new_value k.LocalName far.unnamed i rest s) (sym e)
      (named_value other.0 i gap rest s other.1 (λ is. none (subst (λ (x : Text). IsIn x far.seen) (sym e) is)) many waits blanks seam
      (subst (λ (x : Text). Ready (known m f named far) s i (gap ++ 37 ∷ (x ++ rest))) shown ready))
