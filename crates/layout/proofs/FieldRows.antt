-- The fields by what is known of the types are those of the structs.
use Rattle.std.proofs.Common.{◌≡◌, ◌<◌, ◌≤◌, inl, inr, ℕ, false, List, [], length, map, slice_get, Some, refl, ap, sym, subst, ◌∙◌}
use Rattle.ir_ast.specs.declared.items_of_module.StructType.{StructType}
use Rattle.ir_ast.specs.declared.module.Module.{Module}
use Rattle.ir_ast.specs.Places.{map-length}
use Rattle.layout.specs.FieldRows.{IsFieldRow, AreFieldRows}
use Rattle.layout.specs.Rings.{one_list}
use Rattle.layout.specs.Survey.{IsSettled, IsLarge, MarkFits, fields_at, is_new, mark_at, span_of, struct_fields}
use Rattle.layout.specs.declared.survey.SizeMark.{SizeMark}
use Rattle.layout.specs.declared.survey.SizeMark.TheVariants.{New, Open, Endless, Large, Known}
use Rattle.layout.proofs.Turns.{length_at}
use Rattle.std.specs.Option.{option_map}
use Rattle.std.proofs.lemmas.Option.{slice_get-map}

module _ (m : Module) (marks : List SizeMark) (fields : List ℕ) (settled : IsSettled m marks fields) where
  mark_is : (t : ℕ) (k : SizeMark) → mark_at marks t ≡ k → MarkFits m fields t k
  mark_is t k e = subst (MarkFits m fields t) e (settled.survey.fits t)

  no_open : (i t : ℕ) → slice_get {X = ℕ} [] i ≡ Some t → ⊥
  no_open i t h = cc

  row_by : (struct : StructType) (k : SizeMark) → mark_at marks struct.body ≡ k → struct_fields marks fields struct ≡ fields_at fields (span_of k)
  row_by struct k e = ap (λ (x : SizeMark). fields_at fields (span_of x)) e

  row_is : (struct : StructType) (k : SizeMark) → mark_at marks struct.body ≡ k → IsFieldRow m struct (struct_fields marks fields struct)
  row_is struct New e = let h : is_new New ≡ false = subst (λ (x : SizeMark). is_new x ≡ false) e (settled.met struct.body) in absurd cc
  row_is struct Open e = let at = settled.survey.open_in struct.body e in absurd (no_open at.0 struct.body at.1)
  row_is struct Endless e = inr ((λ fs s. absurd (mark_is struct.body Endless e fs s)), row_by struct Endless e)
  row_is struct Large e =
      let l : IsLarge m struct.body = mark_is struct.body Large e in
      inr ((λ fs s. subst (λ (x : List ℕ). 64 < length x) (one_list m struct.body l.fields fs l.scalars s) l.many), row_by struct Large e)
  row_is struct (Known span) e =
      let k = mark_is struct.body (Known span) e in
      let few : length (fields_at fields span) ≤ 64 = subst (λ n. n ≤ 64) (sym (length_at fields span k.0)) k.0.few in
      subst (IsFieldRow m struct) (sym (row_by struct (Known span) e)) (inl (k.1, few))

  -- the rows are those of the module's structs
  pub are_rows : (rows : List (List ℕ)) → rows ≡ map (struct_fields marks fields) m.structs → AreFieldRows m rows
  are_rows rows is = record {
    one_each = ap length is ∙ map-length (struct_fields marks fields) m.structs;
    each = λ s struct row at there.
        let f = struct_fields marks fields in
        let here : slice_get rows s ≡ Some (f struct) = ap (λ (x : List (List ℕ)). slice_get x s) is ∙ slice_get-map f m.structs s ∙ ap (option_map f) at in
        let same : f struct ≡ row = (let both : Some (f struct) ≡ Some row = sym here ∙ there in cc) in
        subst (IsFieldRow m struct) same (row_is struct (mark_at marks struct.body) refl);
  }
