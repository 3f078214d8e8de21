-- A printed type is read as a type that was read before.
use Rattle.std.proofs.Common.{◌≡◌, ℕ, zero, suc, ◌+◌, ◌<◌, ◌≤◌, Bool, true, false, not, [], ◌∷◌, ◌++◌, length, slice_get, Option, None, Some, is_some, unwrap_or, refl, sym, ap, subst, ◌∙◌, arith, append_assoc}
use Rattle.std.specs.Prelude.{codes, nat_lt, ◌==◌}
use Rattle.std.specs.Fmt as text
use Rattle.std.proofs.lemmas.Bool.Decides.{nat_tests}
use Rattle.lemmas.specs.Numbers.{test_same}
use Rattle.grammar.specs.Grammar.{◌>>◌}
use Rattle.ir_ast.specs.Names.{place_of}
use Rattle.ir_ast.specs.declared.function.Function.{Function}
use Rattle.ir_ast.specs.declared.ir_type.IrType.{IrType}
use Rattle.ir_ast.specs.declared.ir_type.IrType.TheVariants as type
use Rattle.ir_ast.specs.declared.module.Module.{Module}
use Rattle.ir_tokens.specs.declared.class.ByteClass.TheVariants as c
use Rattle.ir_tokens.specs.Tokens.{begins_gap}
use Rattle.ir_tokens.specs.declared.token.Kind.{Kind}
use Rattle.ir_tokens.specs.declared.token.Kind.TheVariants as k
use Rattle.ir_tokens.specs.Bytes.{Text, class_of}
use Rattle.ir_tokens.specs.Keywords.{word_kind, keywords}
use Rattle.ir_forms.specs.Cursor.{kind, next, sees, start, spelling, spelled, left_out}
use Rattle.ir_forms.specs.declared.input.Input.{Input}
use Rattle.ir_forms.specs.declared.written.WrittenType.{WrittenType}
use Rattle.ir_forms.specs.Input.{Form, left, unread, advanced, skip, expect, expect_takes, start_of}
use Rattle.ir_forms.specs.Names.{is_at}
use Rattle.ir_forms.specs.Place.{Place}
use Rattle.ir_forms.specs.Written as w
use Rattle.ir_forms.specs.Written.{has_opaque, no_parameters, integer, bits_at, begins_unread_type}
use Rattle.ir_forms.specs.declared.written.FloatType.{FloatType}
use Rattle.ir_forms.specs.declared.written.FloatType.TheVariants as size
use Rattle.ir_print_law.specs.Stands.{Stands, IsSeam, AreBlanks}
use Rattle.ir_print_law.proofs.Seams.{sign_class}
use Rattle.ir_print_law.proofs.Constants.{integer_types_are_read, are_digits}
use Rattle.name_text.specs.declared.blank.Blank.TheVariants as blank
use Rattle.name_text.specs.Reading.{name_spelled}
use Rattle.ir_print_law.proofs.Words.{word_comes, sign_comes, number_comes, local_comes, seen}
use Rattle.ir_print_law.specs.Definitions.{defined_structs}
use Rattle.ir_print_law.specs.Shapes.{Shape, Integer, Float, Pointer, Array, Empty, Struct, Named, Opaque, HasShape, IsWritten, IsStruct, levels}
use Rattle.ir_print_law.proofs.State.{Invariant, Ready, Reads, Any}
use Rattle.ir_print_law.proofs.Shown.{shown, field_count, IsTypeRead, shape_stays, shape_within, some_level}
use Rattle.ir_print_law.proofs.Steps.{go_on, so, said_then, token_then, shorter, checked_then, test_reads, looked, sign_reads, sign_skipped, sign_kind, word_reads, word_skipped, word_seen, intern_pointer_reads, unlike, grows_further, grows_advanced, passed}
use Rattle.ir_print_law.proofs.Types.{Comes, length_said, opaque_type_reads}

-- a token of this kind begins no parameters
abbrev pub no_round : Kind → Bool
no_round k.OpenRound = false
no_round _ = true

-- what may follow a type that is written again
abbrev pub EndsAgain : Text → Type 0
EndsAgain rest = IsSeam rest × Comes no_round rest

-- a comma is not the end
comma_no_end : k.Comma ≡ k.End → ⊥
comma_no_end x = cc

-- a star ends a type that is written again
pub star_ends : (rest : Text) → EndsAgain (42 ∷ rest)
unfolding class_of
star_ends rest = (refl, λ i at. ap no_round (sign_comes i.cursor [] 42 rest k.Star refl refl refl at).0)

-- so does a bracket
square_ends : (rest : Text) → EndsAgain (93 ∷ rest)
unfolding class_of
square_ends rest = (refl, λ i at. ap no_round (sign_comes i.cursor [] 93 rest k.CloseSquare refl refl refl at).0)

-- so do further fields and the brace after them
field_ends : (shape : Shape) (rest : Text) → IsStruct shape → EndsAgain (shown true shape ++ (codes " }" ++ rest))
unfolding class_of
field_ends Empty rest is = (refl, λ i at. ap no_round (sign_comes i.cursor (32 ∷ []) 125 rest k.CloseBrace refl refl refl at).0)
field_ends (Struct first others) rest is = (refl, λ i at. ap no_round (sign_comes i.cursor [] 44 _ k.Comma refl refl refl at).0)
field_ends (Integer bits) rest is = absurd is
field_ends (Float t) rest is = absurd is
field_ends (Pointer part) rest is = absurd is
field_ends (Array count part) rest is = absurd is
field_ends (Named name) rest is = absurd is
field_ends Opaque rest is = absurd is

-- an integer type is the same again
integer_said : (bits : ℕ) (i : Input) → kind i.cursor ≡ k.IntegerType → integer.says i bits (advanced i) → (w.integer_again bits).says i tt (advanced i)
unfolding w.integer_again integer
integer_said bits i is h =
    let value : bits_at i ≡ bits = ap bits_at h.2.1 ∙ h.3.0 in
    let same : bits_at i == bits ≡ true = ap (λ n. n == bits) value ∙ test_same bits in
    (tt, i, (tt, i, (tt, i, (seen k.IntegerType i is, refl), (h.2.0, refl)), (same, refl)), (refl, refl))

-- the name of a struct is the same again
name_said : (name : Text) (n : ℕ) (i : Input) → kind i.cursor ≡ k.LocalName → spelled i.cursor ≡ name → place_of name i.struct_names.names ≡ Some n → (w.name_again n).says i tt (advanced i)
unfolding w.name_again w.is_named
name_said name n i is e place =
    let there : w.is_named n i ≡ true = ap (λ (x : Text). is_at n (place_of x i.struct_names.names)) e ∙ ap (is_at n) place ∙ test_same n in
    (tt, i, (tt, i, (seen k.LocalName i is, refl), (there, refl)), (refl, refl))

-- such a type is here
float_seen : (t : FloatType) (word : Text) (i : Input) → kind i.cursor ≡ k.LeftOut → spelling i.cursor ≡ word → i.wide ≡ true → w.float_of word ≡ Some t → w.float_here i ≡ Some t
unfolding w.float_here
float_seen t word i is spelled_so forms of = rw (forms, seen k.LeftOut i is, spelled_so) of

-- a type of floating point numbers is the same again
float_said : (t : FloatType) (i : Input) → w.float_here i ≡ Some t → w.is_same_float t t ≡ true → (w.float_again t).says i tt (advanced i)
unfolding w.float_again
float_said t i here same = subst (λ (x : Option FloatType). (w.float_again_by t x).says i tt (advanced i)) (sym here) (tt, i, (same, refl), (refl, refl))

-- the length of an array is the same again
length_again_said : (count : ℕ) (i : Input) → kind i.cursor ≡ k.Number → w.array_length.says i count (advanced i) → (w.length_again count).says i tt (advanced i)
unfolding w.length_again w.array_length
length_again_said count i is h =
    let m = h.2.2.1 in
    let has : is_some (w.length_at i) ≡ true = ap (λ (j : Input). is_some (w.length_at j)) m ∙ h.2.3.0 in
    let value : unwrap_or (w.length_at i) 0 ≡ count = ap (λ (j : Input). unwrap_or (w.length_at j) 0) (m ∙ h.2.3.1) ∙ h.3.0 in
    (tt, i, (tt, i, (tt, i, (seen k.Number i is, refl), (has, refl)), (at_by (w.length_at i) has value, refl)), (refl, refl)) where
      at_by : (x : Option ℕ) → is_some x ≡ true → unwrap_or x 0 ≡ count → is_at count x ≡ true
      at_by None e v = absurd cc
      at_by (Some n) e v = ap (λ k. k == count) v ∙ test_same count

-- a token other than `ptr`
abbrev pub no_ptr : Kind → Bool
no_ptr k.Ptr = false
no_ptr _ = true

-- a type of a text without `ptr` begins so
typed_comes : (wide : Bool) (structs : _) (shape : Shape) (place : Place) (gap afterwards : Text) → IsWritten wide false structs shape → AreBlanks gap → IsSeam afterwards → Stands place (gap ++ (shown false shape ++ afterwards)) → no_ptr (kind place) ≡ true
unfolding class_of word_kind keywords
typed_comes wide structs (Integer bits) place gap afterwards own blanks seam at = ap no_ptr (integer_types_are_read bits (start_of place) gap afterwards own.0 own.1 blanks seam at).0
typed_comes wide structs (Float size.Single) place gap afterwards own blanks seam at = ap no_ptr (word_comes place gap (codes "float") afterwards blanks refl seam at).0
typed_comes wide structs (Float size.Double) place gap afterwards own blanks seam at = ap no_ptr (word_comes place gap (codes "double") afterwards blanks refl seam at).0
typed_comes wide structs (Pointer part) place gap afterwards own blanks seam at =
    typed_comes wide structs part place gap (42 ∷ afterwards) own.1 blanks refl (subst (λ (x : Text). Stands place (gap ++ x)) (append_assoc (shown false part) (42 ∷ []) afterwards) at)
typed_comes wide structs (Array count part) place gap afterwards own blanks seam at = ap no_ptr (sign_comes place gap 91 _ k.OpenSquare blanks refl refl at).0
typed_comes wide structs Empty place gap afterwards own blanks seam at = ap no_ptr (sign_comes place gap 123 _ k.OpenBrace blanks refl refl at).0
typed_comes wide structs (Struct first rest) place gap afterwards own blanks seam at = ap no_ptr (sign_comes place gap 123 _ k.OpenBrace blanks refl refl at).0
typed_comes wide structs (Named name) place gap afterwards own blanks seam at = ap no_ptr (local_comes place gap name afterwards blanks own.0 seam at).0
typed_comes wide structs Opaque place gap afterwards own blanks seam at = absurd cc

module _ {m : Module} {f : Function} (v : Invariant m f) where
  -- a type of this shape is read again
  abbrev AgainClaim : Shape → Type 0
  AgainClaim shape =
      (room number : ℕ) (i : Input) (gap rest : Text) (s : ℕ) → IsWritten m.wide (has_opaque m.types) (defined_structs m) shape → HasShape i.types i.struct_names.names shape number → levels shape ≤ room → AreBlanks gap → EndsAgain rest
      → Ready v s i (gap ++ (shown false shape ++ rest)) → Reads v s (w.again_within room number) i rest Any

  -- further fields are read
  abbrev FieldsClaim : Shape → Type 0
  FieldsClaim shape =
      (fuel room number : ℕ) (i : Input) (rest : Text) (s : ℕ) → IsWritten m.wide (has_opaque m.types) (defined_structs m) shape → IsStruct shape → HasShape i.types i.struct_names.names shape number → levels shape ≤ suc room → field_count shape < fuel
      → Ready v s i (shown true shape ++ (codes " }" ++ rest)) → Reads v s (w.fields_again (w.again_within room) fuel number) i rest (λ _ o. left o + field_count shape ≤ left i)

  -- each type has a level
  no_level : (shape : Shape) → levels shape ≤ 0 → ⊥
  no_level shape le = let some = some_level shape in absurd (omega (arith, le, some))

  -- the type at this number, and no parameters after it
  over_reads : (room number : ℕ) (x : IrType) (i : Input) (rest : Text) (s : ℕ) → slice_get i.types number ≡ Some x → EndsAgain rest
      → Reads v s (w.again_by (w.again_within room) (Some x)) i rest Any → Reads v s (w.again_within (suc room) number) i rest Any
  unfolding w.again_within
  over_reads room number x i rest s e ends h =
      go_on v (w.again_over (w.again_within room) number) (λ _. no_parameters) i rest rest s s Any Any
      (looked v (w.type_at number) (w.again_by (w.again_within room)) i rest s Any (Some x) e h)
      (λ _ o ready g h. so v no_parameters o rest s (λ _ p. o ≡ p) Any
      (test_reads v (λ i. not (sees k.OpenRound i.cursor)) (λ i. left_out i.cursor) o rest s (ap not (unlike k.OpenRound no_round o refl (ends.1 o ready.stands))) ready)
      (λ _ p g h. tt))

  -- a form that reads one token and nothing else
  one_token : (form : Form (Unit {0})) (i : Input) (bytes rest : Text) (s t : ℕ) → form.says i tt (advanced i) → Ready v s i bytes → Stands (next i.cursor) rest → length rest + t ≤ length bytes + s → Reads v t form i rest Any
  one_token form i bytes rest s t said ready at le = (tt, advanced i, said, passed v i bytes rest s t ready at le, grows_advanced v i, tt)

  -- a sign that is seen and skipped
  see_skip : (b : ℕ) (x : Kind) (i : Input) (gap rest : Text) (s : ℕ) → AreBlanks gap → sign_class b ≡ c.Sign x → begins_gap (b ∷ rest) ≡ false → Ready v s i (gap ++ b ∷ rest) → Reads v s (w.sees_type x >> skip) i rest (λ _ o. advanced i ≡ o)
  see_skip b x i gap rest s blanks class begins ready =
      checked_then v (λ i. sees x i.cursor) (unread begins_unread_type) skip i rest s (λ _ o. advanced i ≡ o) (seen x i (sign_kind v b x i gap rest s blanks class begins ready))
      (sign_skipped v b x i gap rest s s blanks class begins (omega arith) ready)

  -- an array is read again
  array_claim : (count : ℕ) (shape : Shape) → AgainClaim shape → AgainClaim (Array count shape)
  unfolding class_of word_kind keywords
  array_claim count shape claim zero number i gap rest s own has le blanks ends ready = absurd (no_level (Array count shape) le)
  array_claim count shape claim (suc room) number i gap rest s own has le blanks ends ready =
      let inner = w.again_within room in
      let t4 = 93 ∷ rest in
      let t3 = shown false shape ++ t4 in
      let t2 = codes " x " ++ t3 in
      let t1 = text.decimal count ++ t2 in
      let ready : Ready v s i (gap ++ 91 ∷ (text.decimal count ++ (codes " x " ++ (shown false shape ++ 93 ∷ rest)))) = simp append_assoc at ready in
      over_reads room number (type.Array count has.0) i rest s has.1 ends
      (checked_then v (λ i. sees k.OpenSquare i.cursor) (unread begins_unread_type) (square_form has.0) i rest s Any (seen k.OpenSquare i (sign_kind v 91 k.OpenSquare i gap t1 s blanks refl refl ready))
      (go_on v skip (λ _. length_form has.0) i t1 rest s s (λ _ o. advanced i ≡ o) Any (sign_skipped v 91 k.OpenSquare i gap t1 s s blanks refl refl (omega arith) ready)
      (λ _ o ready g e.
      let n = number_comes o.cursor [] (text.decimal count) t2 refl (are_digits count own.0) refl ready.stands in
      token_then v (w.length_again count) (λ _. x_form has.0) o tt t1 t2 rest s s s Any (length_again_said count o n.0 (length_said v count o own.0 n.0 n.1)) ready n.3 (shorter v [] (text.decimal count) t2 s s (omega arith))
      (λ ready.
      go_on v (expect k.X) (λ _. part_form has.0) (advanced o) (32 ∷ t3) rest s s (λ _ q. advanced (advanced o) ≡ q) Any
      (word_reads v (codes "x") (advanced o) (32 ∷ []) (32 ∷ t3) s s refl refl refl (omega arith) ready)
      (λ _ q ready h e.
      let there = shape_stays i.types q.types i.struct_names.names q.struct_names.names shape has.0 (grows_further i o q g (grows_further o (advanced o) q (grows_advanced v o) h)).types
      (grows_further i o q g (grows_further o (advanced o) q (grows_advanced v o) h)).structs has.2 in
      go_on v (w.again_within room has.0) (λ _. expect k.CloseSquare) q t4 rest s s Any Any
      (claim room has.0 q (32 ∷ []) t4 s own.1 there (omega (arith, le)) refl (square_ends rest) ready)
      (λ _ r ready g h. so v (expect k.CloseSquare) r rest s (λ _ x. advanced r ≡ x) Any (sign_reads v 93 k.CloseSquare r [] rest s s refl refl refl (omega arith) ready) (λ _ x g e. tt)))))))
    where
      part_form : ℕ → Form (Unit {0})
      part_form p = w.again_within room p >> expect k.CloseSquare

      x_form : ℕ → Form (Unit {0})
      x_form p = expect k.X >> part_form p

      length_form : ℕ → Form (Unit {0})
      length_form p = w.length_again count >> x_form p

      square_form : ℕ → Form (Unit {0})
      square_form p = skip >> length_form p

  -- further fields
  fields_claim : (first others : Shape) → AgainClaim first → FieldsClaim others → FieldsClaim (Struct first others)
  unfolding w.fields_again class_of
  fields_claim first others claim more zero room number i rest s own is has le less ready = absurd (omega (arith, less))
  fields_claim first others claim more (suc fuel) room number i rest s own is has le less ready =
      let inner = w.again_within room in
      let afterwards = shown true others ++ (codes " }" ++ rest) in
      let ready : Ready v s i (44 ∷ 32 ∷ (shown false first ++ (shown true others ++ (codes " }" ++ rest)))) = simp append_assoc at ready in
      let a = sign_reads v 44 k.Comma i [] (32 ∷ (shown false first ++ afterwards)) s s refl refl refl (omega arith) ready in
      let first_there = shape_stays i.types a.1.types i.struct_names.names a.1.struct_names.names first has.0 a.4.types a.4.structs has.4 in
      let b = claim room has.0 a.1 (32 ∷ []) afterwards s own.1 first_there (omega (arith, le)) refl (field_ends others rest own.0) a.3 in
      let g = grows_further i a.1 b.1 a.4 b.4 in
      let others_there = shape_stays i.types b.1.types i.struct_names.names b.1.struct_names.names others has.1 g.types g.structs has.5 in
      let d = more fuel room has.1 b.1 rest s own.2 own.0 others_there (omega (arith, le)) (omega (arith, less)) b.3 in
      let x = expect_takes k.Comma comma_no_end i a.0 a.1 a.2 in
      let y = (w.again_within room has.0).moves a.1 b.0 b.1 b.2 in
      let z = d.5 in
      looked v (w.type_at number) (w.field_or (λ first rest. w.again_within room first >> w.fields_again (w.again_within room) fuel rest)) i rest s (λ _ o. left o + (field_count others + 1) ≤ left i) (Some (type.Struct has.0 has.1)) has.2
      (d.0, d.1, (a.0, a.1, a.2, (b.0, b.1, b.2, d.2)), d.3, grows_further i b.1 d.1 g d.4, omega (arith, x, y, z))

  -- after the last field the brace closes
  no_field : FieldsClaim Empty
  unfolding w.fields_again class_of
  no_field zero room number i rest s own is has le less ready = absurd (omega (arith, less))
  no_field (suc fuel) room number i rest s own is has le less ready =
      let a = sign_reads v 125 k.CloseBrace i (32 ∷ []) rest s s refl refl refl (omega arith) ready in
      let x = (expect k.CloseBrace).moves i a.0 a.1 a.2 in
      looked v (w.type_at number) (w.field_or (λ first rest. w.again_within room first >> w.fields_again (w.again_within room) fuel rest)) i rest s (λ _ o. left o + 0 ≤ left i) (Some type.EmptyStruct) has
      (a.0, a.1, a.2, a.3, a.4, omega (arith, x))

  -- a struct is read again
  struct_claim : (first others : Shape) → AgainClaim first → FieldsClaim others → AgainClaim (Struct first others)
  unfolding class_of
  struct_claim first others claim more zero number i gap rest s own has le blanks ends ready = absurd (no_level (Struct first others) le)
  struct_claim first others claim more (suc room) number i gap rest s own has le blanks ends ready =
      let afterwards = shown true others ++ (codes " }" ++ rest) in
      let ready : Ready v s i (gap ++ 123 ∷ 32 ∷ (shown false first ++ (shown true others ++ (codes " }" ++ rest)))) = simp append_assoc at ready in
      let a = see_skip 123 k.OpenBrace i gap (32 ∷ (shown false first ++ afterwards)) s blanks refl refl ready in
      let first_there = shape_stays i.types a.1.types i.struct_names.names a.1.struct_names.names first has.0 a.4.types a.4.structs has.4 in
      let b = claim room has.0 a.1 (32 ∷ []) afterwards s own.1 first_there (omega (arith, le)) refl (field_ends others rest own.0) a.3 in
      let g = grows_further i a.1 b.1 a.4 b.4 in
      let others_there = shape_stays i.types b.1.types i.struct_names.names b.1.struct_names.names others has.1 g.types g.structs has.5 in
      let try = more (suc (field_count others)) room has.1 b.1 rest s own.2 own.0 others_there (omega (arith, le)) (omega arith) b.3 in
      let few = try.5 in
      let d = more (suc (left b.1)) room has.1 b.1 rest s own.2 own.0 others_there (omega (arith, le)) (omega (arith, few)) b.3 in
      over_reads room number (type.Struct has.0 has.1) i rest s has.2 ends
      (d.0, d.1, (b.0, b.1, (a.0, a.1, a.2, b.2), d.2), d.3, grows_further i b.1 d.1 g d.4, tt)

  -- each type is read again
  pub again_claims : (shape : Shape) → AgainClaim shape × FieldsClaim shape
  unfolding class_of word_kind keywords
  again_claims (Integer bits) = (by, λ fuel room number i rest s own is has le less ready. absurd is) where
    by : AgainClaim (Integer bits)
    by zero number i gap rest s own has le blanks ends ready = absurd (no_level (Integer bits) le)
    by (suc room) number i gap rest s own has le blanks ends ready =
        let r = integer_types_are_read bits i gap rest own.0 own.1 blanks ends.0 ready.stands in
        over_reads room number (type.Integer bits) i rest s has ends
        (one_token (w.integer_again bits) i (gap ++ (shown false (Integer bits) ++ rest)) rest s s (integer_said bits i r.0 r.1) ready r.2 (shorter v gap (shown false (Integer bits)) rest s s (omega arith)))
  again_claims (Float size.Single) = (by, λ fuel room number i rest s own is has le less ready. absurd is) where
    by : AgainClaim (Float size.Single)
    by zero number i gap rest s own has le blanks ends ready = absurd (no_level (Float size.Single) le)
    by (suc room) number i gap rest s own has le blanks ends ready =
        let r = word_comes i.cursor gap (codes "float") rest blanks refl ends.0 ready.stands in
        over_reads room number type.Float i rest s has ends
        (one_token (w.float_again size.Single) i (gap ++ (codes "float" ++ rest)) rest s s (float_said size.Single i (float_seen size.Single (codes "float") i r.0 r.1 (ready.forms ∙ own) refl) refl) ready r.3
        (shorter v gap (codes "float") rest s s (omega arith)))
  again_claims (Float size.Double) = (by, λ fuel room number i rest s own is has le less ready. absurd is) where
    by : AgainClaim (Float size.Double)
    by zero number i gap rest s own has le blanks ends ready = absurd (no_level (Float size.Double) le)
    by (suc room) number i gap rest s own has le blanks ends ready =
        let r = word_comes i.cursor gap (codes "double") rest blanks refl ends.0 ready.stands in
        over_reads room number type.Double i rest s has ends
        (one_token (w.float_again size.Double) i (gap ++ (codes "double" ++ rest)) rest s s (float_said size.Double i (float_seen size.Double (codes "double") i r.0 r.1 (ready.forms ∙ own) refl) refl) ready r.3
        (shorter v gap (codes "double") rest s s (omega arith)))
  again_claims (Named name) = (by, λ fuel room number i rest s own is has le less ready. absurd is) where
    by : AgainClaim (Named name)
    by zero number i gap rest s own has le blanks ends ready = absurd (no_level (Named name) le)
    by (suc room) number i gap rest s own has le blanks ends ready =
        let r = local_comes i.cursor gap name rest blanks own.0 ends.0 ready.stands in
        over_reads room number (type.Named has.0) i rest s has.1 ends
        (one_token (w.name_again has.0) i (gap ++ (shown false (Named name) ++ rest)) rest s s (name_said name has.0 i r.0 (r.2 ∙ name_spelled blank.Kept name own.0) has.2) ready r.3
        (shorter v gap (shown false (Named name)) rest s s (omega arith)))
  again_claims Empty = (by, no_field) where
    by : AgainClaim Empty
    by zero number i gap rest s own has le blanks ends ready = absurd (no_level Empty le)
    by (suc room) number i gap rest s own has le blanks ends ready =
        let a = see_skip 123 k.OpenBrace i gap (125 ∷ rest) s blanks refl refl ready in
        over_reads room number type.EmptyStruct i rest s has ends
        (go_on v (w.sees_type k.OpenBrace >> skip) (λ _. expect k.CloseBrace) i (125 ∷ rest) rest s s (λ _ o. advanced i ≡ o) Any a
        (λ _ o ready g e. so v (expect k.CloseBrace) o rest s (λ _ p. advanced o ≡ p) Any (sign_reads v 125 k.CloseBrace o [] rest s s refl refl refl (omega arith) ready) (λ _ p g e. tt)))
  again_claims (Pointer shape) = (by (again_claims shape).0, λ fuel room number i rest s own is has le less ready. absurd is) where
    by : AgainClaim shape → AgainClaim (Pointer shape)
    by claim zero number i gap rest s own has le blanks ends ready = absurd (no_level (Pointer shape) le)
    by claim (suc room) number i gap rest s own has le blanks ends ready =
        over_reads room number (type.Pointer has.0) i rest s has.1 ends
        (go_on v (w.again_within room has.0) (λ _. expect k.Star) i (42 ∷ rest) rest s s Any Any
        (claim room has.0 i gap (42 ∷ rest) s own.1 has.2 (omega (arith, le)) blanks (star_ends rest)
        (subst (λ (x : Text). Ready v s i (gap ++ x)) (append_assoc (shown false shape) (42 ∷ []) rest) ready))
        (λ _ o ready g e. so v (expect k.Star) o rest s (λ _ p. advanced o ≡ p) Any (sign_reads v 42 k.Star o [] rest s s refl refl refl (omega arith) ready) (λ _ p g e. tt)))
  again_claims Opaque = (by, λ fuel room number i rest s own is has le less ready. absurd is) where
    by : AgainClaim Opaque
    by zero number i gap rest s own has le blanks ends ready = absurd (no_level Opaque le)
    by (suc room) number i gap rest s own has le blanks ends ready =
        over_reads room number type.Opaque i rest s has ends
        (checked_then v (λ i. sees k.Ptr i.cursor) (unread begins_unread_type) skip i rest s Any (seen k.Ptr i (word_seen v (codes "ptr") i gap rest s blanks refl ends.0 ready))
        (so v skip i rest s (λ _ o. advanced i ≡ o) Any (word_skipped v (codes "ptr") i gap rest s s blanks refl ends.0 (omega arith) ready) (λ _ o g e. tt)))
  again_claims (Array count shape) = (array_claim count shape (again_claims shape).0, λ fuel room number i rest s own is has le less ready. absurd is)
  again_claims (Struct first others) = (struct_claim first others (again_claims first).0 (again_claims others).1, fields_claim first others (again_claims first).0 (again_claims others).1)

  -- the same type again
  pub again_reads : (shape : Shape) (p : WrittenType) (i : Input) (gap rest : Text) (s : ℕ) → IsWritten m.wide (has_opaque m.types) (defined_structs m) shape → HasShape i.types i.struct_names.names shape p.id → levels shape ≤ 64 → AreBlanks gap → EndsAgain rest
      → Ready v s i (gap ++ (shown false shape ++ rest)) → Reads v s (w.again p) i rest Any
  unfolding w.again
  again_reads shape p i gap rest s own has le blanks ends ready = (again_claims shape).0 64 p.id i gap rest s own has le blanks ends ready

  -- a pointer to the same type, in a text without `ptr`
  pub pointer_again_reads : (shape : Shape) (p : WrittenType) (i : Input) (gap rest : Text) (s : ℕ) → has_opaque m.types ≡ false → IsWritten m.wide (has_opaque m.types) (defined_structs m) shape → IsTypeRead shape 64 p i
      → levels shape < 64 → AreBlanks gap → Ready v s i (gap ++ (shown false (Pointer shape) ++ rest)) → Reads v s (w.pointer_again p) i rest (λ n o. HasShape o.types o.struct_names.names (Pointer shape) n)
  unfolding w.pointer_again class_of
  pointer_again_reads shape p i gap rest s plain own read le blanks ready =
      let ready = subst (λ (x : Text). Ready v s i (gap ++ x)) (append_assoc (shown false shape) (42 ∷ []) rest) ready in
      let fits = read.fits in
      let room : nat_lt 0 p.room ≡ true = let some : 0 < p.room = omega (arith, fits, le) in grind (arith, nat_tests) in
      let good : ℕ → Input → Type 0 = λ n o. HasShape o.types o.struct_names.names (Pointer shape) n in
      let a = again_reads shape p i gap (42 ∷ rest) s own read.has_shape (omega (arith, le)) blanks (star_ends rest) ready in
      let star = sign_comes a.1.cursor [] 42 rest k.Star refl refl refl a.3.stands in
      let typed = typed_comes m.wide (defined_structs m) shape i.cursor gap (42 ∷ rest) (subst (λ (b : Bool). IsWritten m.wide b (defined_structs m) shape) plain own) blanks refl ready.stands in
      looked v (λ i. sees k.Ptr i.cursor) (w.opaque_or w.opaque_type (w.starred_again p)) i rest s good false (unlike k.Ptr no_ptr i refl typed)
      (looked v (λ i. start i.cursor) (λ from. w.again p >> w.further_star p.room >> w.intern_pointer from (type.Pointer p.id)) i rest s good (start i.cursor) refl
      (said_then v (w.again p >> w.further_star p.room) (λ _. w.intern_pointer (start i.cursor) (type.Pointer p.id)) i (advanced a.1) tt rest s good
      (a.0, a.1, a.2, (tt, a.1, (tt, a.1, (seen k.Star a.1 star.0, refl), (room, refl)), (refl, refl))) (grows_further i a.1 (advanced a.1) a.4 (grows_advanced v a.1))
      (so v (w.intern_pointer (start i.cursor) (type.Pointer p.id)) (advanced a.1) rest s (λ n o. slice_get o.types n ≡ Some (type.Pointer p.id)) good
      (intern_pointer_reads v (start i.cursor) (type.Pointer p.id) (advanced a.1) rest s (
        plain,
        (let g = grows_further i a.1 (advanced a.1) a.4 (grows_advanced v a.1) in
            shape_within (advanced a.1).types (advanced a.1).struct_names.names shape p.id (shape_stays i.types (advanced a.1).types i.struct_names.names (advanced a.1).struct_names.names shape p.id g.types g.structs read.has_shape)),
      )
      (passed v a.1 (42 ∷ rest) rest s (s + 1) a.3 star.3 (omega arith)))
      (λ n o g there.
      let h = grows_further i (advanced a.1) o (grows_further i a.1 (advanced a.1) a.4 (grows_advanced v a.1)) g in
      (p.id, there, shape_stays i.types o.types i.struct_names.names o.struct_names.names shape p.id h.types h.structs read.has_shape)))))

  -- `ptr`, whatever is written before it
  pub opaque_again_reads : (p : WrittenType) (i : Input) (gap rest : Text) (s : ℕ) → has_opaque m.types ≡ true → AreBlanks gap → IsSeam rest → Ready v s i (gap ++ (codes "ptr" ++ rest))
      → Reads v s (w.pointer_again p) i rest (λ n o. slice_get o.types n ≡ Some type.Opaque)
  unfolding w.pointer_again class_of word_kind keywords
  opaque_again_reads p i gap rest s is blanks seam ready =
      looked v (λ i. sees k.Ptr i.cursor) (w.opaque_or w.opaque_type (w.starred_again p)) i rest s (λ n o. slice_get o.types n ≡ Some type.Opaque) true
      (seen k.Ptr i (word_seen v (codes "ptr") i gap rest s blanks refl seam ready)) (opaque_type_reads v i gap rest s is blanks seam ready)
