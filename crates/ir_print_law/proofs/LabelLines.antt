-- The label of a block is read as the label of the block that comes next.
use Rattle.std.proofs.Common.{◌≡◌, ℕ, suc, ◌+◌, ◌<◌, ◌≤◌, ◌^◌, List, [], ◌∷◌, ◌++◌, length, slice_get, Some, refl, sym, ap, subst, ◌∙◌, arith, length-append, inl, inr, ◌⊎◌}
use Rattle.lemmas.specs.Lists.{IsIn}
use Rattle.std.specs.Fmt as text
use Rattle.ir_print_law.proofs.DeclareLines.{below_most}
use Rattle.ir_ast.specs.LocalKeys.{key_of_name}
use Rattle.ir_ast.specs.Names.{number_of, numbered}
use Rattle.ir_ast.specs.declared.function.Function.{Function}
use Rattle.ir_ast.specs.declared.function.LocalSort.TheVariants as local
use Rattle.ir_ast.specs.declared.module.Module.{Module}
use Rattle.ir_tokens.specs.declared.token.Kind.{Kind}
use Rattle.ir_tokens.specs.declared.token.Kind.TheVariants as k
use Rattle.ir_tokens.specs.Bytes.{Text}
use Rattle.ir_forms.specs.Cursor.{kind, local_key}
use Rattle.ir_forms.specs.Place.{Place}
use Rattle.ir_forms.specs.Table.{mentioned, defined}
use Rattle.ir_forms.specs.declared.input.Input.{Input}
use Rattle.ir_forms.specs.Names as names
use Rattle.ir_text.specs.Blocks.{block_label, label_by}
use Rattle.name_text.specs.Names.{name_text}
use Rattle.name_text.specs.declared.blank.Blank.TheVariants as blank
use Rattle.ir_print.specs.Names.{key_text}
use Rattle.ir_print_law.specs.Readings.{IsKey}
use Rattle.ir_print_law.specs.Stands.{Stands}
use Rattle.ir_print_law.proofs.Constants.{are_digits}
use Rattle.ir_print_law.proofs.NamesRead.{digits_text, name_key_text, labels_are_read}
use Rattle.ir_print_law.proofs.Words.{label_comes}
use Rattle.ir_print_law.proofs.Tables.{begins_itself, name_begins, name_length, name_there, number_within}
use Rattle.ir_print_law.proofs.State.{Ready}
use Rattle.ir_print_law.proofs.Known.{Far, AreNamed, LocalsKnown, known}
use Rattle.ir_print_law.proofs.Defining.{local_is_new, label_defined}
use Rattle.ir_print_law.proofs.WholeForms.{Widens}
use Rattle.ir_print_law.proofs.NewLabels.{label_number_comes, numbered_label_read}
use Rattle.ir_print_law.proofs.NewValues.{IsNext, unnamed_then}

label_by_kind : (block : ℕ) (x : Kind) (i o : Input) (n : ℕ) → block < 65535 → kind i.cursor ≡ x → (label_by block x).says i n o → (block_label block).says i n o
unfolding block_label
label_by_kind block x i o n less e h = (tt, i, (below_most block less, refl), subst (λ (y : Kind). (label_by block y).says i n o) (sym e) h)

two_bytes : (word rest : Text) (s : ℕ) → suc (length rest + s) ≤ length (10 ∷ (word ++ 58 ∷ rest)) + s
two_bytes word rest s = let w = length-append word (58 ∷ rest) in omega (arith, w)

-- a label comes
pub label_kind : (place : Place) (key rest : Text) → IsKey key → Stands place (10 ∷ (key_text key ++ 58 ∷ rest)) → (kind place ≡ k.LabelName) ⊎ (kind place ≡ k.LabelNumber)
label_kind place key rest (inl digits) at = inr (label_number_comes place key rest digits.0 (subst (λ (x : Text). Stands place (10 ∷ (x ++ 58 ∷ rest))) (digits_text key digits.0) at)).0
label_kind place key rest (inr named) at =
    let e = named.2 in
    inl (label_comes place (10 ∷ []) named.0 rest refl named.1 (subst (λ (x : Text). Stands place (10 ∷ (x ++ 58 ∷ rest))) (ap key_text e ∙ name_key_text named.0) at)).0

module _ (m : Module) (f : Function) (named : AreNamed m f) (far : Far) where
  abbrev pub far_label : (key : Text) (unnamed : ℕ) → Far
  far_label key unnamed = record far { seen = far.seen ++ key ∷ []; labels = far.labels ++ key ∷ []; pending = []; unnamed = unnamed }

  abbrev pub LabelGoes : Text → (block unnamed : ℕ) → Input → (rest : Text) → Type 0
  LabelGoes key block unnamed i rest =
      (n : ℕ) × (o : Input) × (block_label block).says i n o × Ready (known m f named (far_label key unnamed)) 0 o rest × Widens i o × (slice_get o.locals.names n ≡ Some key)

  -- the state after a label, which the form leaves
  afterwards_label : (key : Text) (i o : Input) (unnamed : ℕ) (rest : Text) → Ready (known m f named far) 0 i (10 ∷ (key_text key ++ 58 ∷ rest)) → (IsIn key far.values → ⊥) → far.pending ≡ []
      → local_key i.cursor ≡ key → Stands o.cursor rest → o ≡ names.with_label (length far.labels) (record i { unnamed = o.unnamed }) → o.unnamed ≡ unnamed
      → Ready (known m f named (far_label key unnamed)) 0 o rest × Widens i o × (slice_get o.locals.names (number_of key i.locals.names) ≡ Some key)
  afterwards_label key i o unnamed rest ready apart none e at is counted =
      subst (λ (o : Input). Stands o.cursor rest → o.unnamed ≡ unnamed
      → Ready (known m f named (far_label key unnamed)) 0 o rest × Widens i o × (slice_get o.locals.names (number_of key i.locals.names) ≡ Some key)) (sym is) made at counted where
        now : Input
        now = names.with_label (length far.labels) (record i { unnamed = o.unnamed })

        locals : LocalsKnown f (far.seen ++ key ∷ []) far.values (far.labels ++ key ∷ []) [] (names.with_label (length far.labels) (record i { unnamed = o.unnamed })).locals i.local_uses
        locals =
            subst (λ (x : Text). LocalsKnown f (far.seen ++ key ∷ []) far.values (far.labels ++ key ∷ []) []
            (defined (number_of x i.locals.names) (local.Block (length far.labels)) (mentioned x local.Unknown i.locals)) i.local_uses) (sym e)
            (label_defined f far.seen far.values far.labels i.locals i.local_uses key apart
            (subst (λ (p : List _). LocalsKnown f far.seen far.values far.labels p i.locals i.local_uses) none ready.holds.2))

        made : Stands (names.with_label (length far.labels) (record i { unnamed = o.unnamed })).cursor rest → o.unnamed ≡ unnamed
            → Ready (known m f named (far_label key unnamed)) 0 (names.with_label (length far.labels) (record i { unnamed = o.unnamed })) rest
            × Widens i (names.with_label (length far.labels) (record i { unnamed = o.unnamed }))
            × (slice_get (names.with_label (length far.labels) (record i { unnamed = o.unnamed })).locals.names (number_of key i.locals.names) ≡ Some key)
        made at counted =
            let h = ready.holds in
            let r = ready.room in
            let one = two_bytes (key_text key) rest 0 in
            let longer = name_length (local_key i.cursor) i.locals.names in (
              record {
                stands = at;
                ordered = ready.ordered;
                forms = ready.forms;
                room = record {
                  types = let a = r.types in omega (arith, a, one);
                  structs = let a = r.structs in omega (arith, a, one);
                  symbols = let a = r.symbols in omega (arith, a, one);
                  locals = let a = r.locals in omega (arith, a, one, longer);
                };
                holds = (
                  h.0,
                  h.1,
                  locals,
                  record {
                    values_are = h.3.values_are;
                    unnamed_is = counted;
                    none_missing = h.3.none_missing;
                    structs_are = h.3.structs_are;
                    globals_are = h.3.globals_are;
                    declares_are = h.3.declares_are;
                    functions_are = h.3.functions_are;
                  },
                );
              },
              record { types = begins_itself i.types; structs = begins_itself i.struct_names.names; symbols = begins_itself i.symbols.names; locals = name_begins (local_key i.cursor) i.locals.names },
              subst (λ (x : Text). slice_get (numbered x i.locals.names) (number_of key i.locals.names) ≡ Some key) (sym e) (name_there key i.locals.names),
            )

  pub label_goes : (key : Text) (is : IsNext far.unnamed key) (i : Input) (rest : Text) → (IsIn key far.seen → ⊥) → (IsIn key far.values → ⊥) → far.pending ≡ [] → far.unnamed < 4294967295 → length far.labels < 65535
      → Ready (known m f named far) 0 i (10 ∷ (key_text key ++ 58 ∷ rest)) → LabelGoes key (length far.labels) (unnamed_then far.unnamed key is) i rest
  label_goes key (inl e) i rest none apart waits few_numbers few_labels ready =
      let h = ready.holds in
      let room_locals = ready.room.locals in
      let wide : far.unnamed < 2 ^ 64 = omega (arith, few_numbers) in
      let within = number_within (text.decimal far.unnamed) i.locals.names in
      let number : number_of (text.decimal far.unnamed) i.locals.names < 2 ^ 32 = omega (arith, room_locals, within) in
      let shown : key_text key ≡ text.decimal far.unnamed = ap key_text e ∙ digits_text (text.decimal far.unnamed) (are_digits far.unnamed wide) in
      let new = local_is_new f far.seen far.values far.labels far.pending i.locals i.local_uses (text.decimal far.unnamed) h.2 (λ is. none (subst (λ (x : Text). IsIn x far.seen) (sym e) is)) in
      let w = numbered_label_read far.unnamed (length far.labels) i rest h.3.unnamed_is few_numbers number new (subst (λ (x : Text). Stands i.cursor (10 ∷ (x ++ 58 ∷ rest))) shown ready.stands) in
      let o = names.with_label (length far.labels) (names.with_number_taken i) in
      let afterwards = afterwards_label key i (names.with_label (length far.labels) (names.with_number_taken i)) (far.unnamed + 1) rest ready apart waits (w.1 ∙ sym e) w.2 refl (ap (λ (n : ℕ). n + 1) h.3.unnamed_is) in (
        number_of key i.locals.names,
        o,
        label_by_kind (length far.labels) k.LabelNumber i o (number_of key i.locals.names) few_labels w.3
            (subst (λ (x : Text). (names.numbered_label (length far.labels)).says i (number_of x i.locals.names) (names.with_label (length far.labels) (names.with_number_taken i))) (sym e) w.0),
        afterwards.0,
        afterwards.1,
        afterwards.2,
      )
  label_goes key (inr other) i rest none apart waits few_numbers few_labels ready =
      let h = ready.holds in
      let e = other.2 in
      let room_locals = ready.room.locals in
      let within = number_within (key_of_name other.0) i.locals.names in
      let number : number_of (key_of_name other.0) i.locals.names < 2 ^ 32 = omega (arith, room_locals, within) in
      let shown : key_text key ≡ name_text blank.Kept other.0 = ap key_text e ∙ name_key_text other.0 in
      let new = local_is_new f far.seen far.values far.labels far.pending i.locals i.local_uses (key_of_name other.0) h.2 (λ is. none (subst (λ (x : Text). IsIn x far.seen) (sym e) is)) in
      let at = subst (λ (x : Text). Stands i.cursor (10 ∷ (x ++ 58 ∷ rest))) shown ready.stands in
      let w = labels_are_read (length far.labels) other.0 i (10 ∷ []) rest other.1 number new refl at in
      let o = names.with_label (length far.labels) i in
      let afterwards = afterwards_label key i (names.with_label (length far.labels) i) far.unnamed rest ready apart waits (w.1 ∙ sym e) w.2 refl h.3.unnamed_is in (
        number_of key i.locals.names,
        o,
        label_by_kind (length far.labels) k.LabelName i o (number_of key i.locals.names) few_labels (label_comes i.cursor (10 ∷ []) other.0 rest refl other.1 at).0
            (subst (λ (x : Text). (names.new_label (length far.labels)).says i (number_of x i.locals.names) (names.with_label (length far.labels) i)) (sym e) w.0),
        afterwards.0,
        afterwards.1,
        afterwards.2,
      )
