-- A printed type is read as a type of the same shape: arrays, structs, and all types.
use Rattle.std.proofs.Common.{◌≡◌, ℕ, zero, suc, ◌+◌, ◌<◌, ◌≤◌, ◌^◌, Bool, true, false, not, List, [], ◌∷◌, ◌++◌, refl, sym, ap, subst, ◌∙◌, arith, append_assoc}
use Rattle.std.specs.Prelude.{codes, min}
use Rattle.std.specs.Fmt as text
use Rattle.grammar.specs.Grammar.{checked, ◌>>=◌, ◌>>◌}
use Rattle.grammar.specs.Many.{many, Listed}
use Rattle.ir_ast.specs.declared.function.Function.{Function}
use Rattle.ir_ast.specs.declared.ir_type.IrType.TheVariants as type
use Rattle.ir_ast.specs.declared.module.Module.{Module}
use Rattle.ir_tokens.specs.declared.token.Kind.{Kind}
use Rattle.ir_tokens.specs.declared.token.Kind.TheVariants as k
use Rattle.ir_tokens.specs.Bytes.{Text, class_of}
use Rattle.ir_tokens.specs.Keywords.{word_kind, keywords}
use Rattle.ir_forms.specs.Cursor.{kind}
use Rattle.ir_forms.specs.declared.input.Input.{Input}
use Rattle.ir_forms.specs.declared.written.Base.TheVariants as base
use Rattle.ir_forms.specs.declared.written.WrittenType.{WrittenType}
use Rattle.ir_forms.specs.declared.written.FloatType.{FloatType}
use Rattle.ir_forms.specs.declared.written.FloatType.TheVariants as size
use Rattle.ir_forms.specs.Place.{Place}
use Rattle.ir_forms.specs.Input.{Form, unexpected, advanced, skip, expect, start_of}
use Rattle.ir_forms.specs.Written as w
use Rattle.ir_forms.specs.Written.{has_opaque, part, firm, begins_type}
use Rattle.ir_print_law.specs.Stands.{Stands, IsSeam, AreBlanks}
use Rattle.ir_print_law.specs.Stars.{stars}
use Rattle.ir_print_law.proofs.Constants.{integer_types_are_read, are_digits}
use Rattle.ir_print_law.proofs.Words.{sign_comes, number_comes, local_comes, word_comes, seen}
use Rattle.ir_print_law.specs.Definitions.{defined_structs}
use Rattle.ir_print_law.specs.Shapes.{Shape, Integer, Float, Pointer, Array, Empty, Struct, Named, Opaque, IsWritten, IsStruct, levels, is_struct_shape}
use Rattle.ir_print_law.proofs.State.{Invariant, Ready, Grows, Reads, Any}
use Rattle.ir_print_law.proofs.Shown.{shown, field_count, IsTypeRead, shape_stays, shape_within, read_stays, some_level}
use Rattle.ir_print_law.proofs.Looks.{starred, stars_of, MayStar, starred_parts}
use Rattle.ir_print_law.proofs.Steps.{go_on, so, given, said_then, token_then, shorter, test_reads, looked, less_spare, sign_reads, sign_skipped, sign_kind, word_reads, unlike, grows_itself, grows_further}
use Rattle.ir_print_law.proofs.Types.{EndsType, ends_type, HasStars, length_said, named_read, integer_read, float_read, opaque_read, interned_read, over_read}

-- what was read of fields stays
abbrev pub AreFields : (most : ℕ) → Shape → List WrittenType → Input → Type 0
AreFields most (Struct first rest) (p ∷ ps) o = IsTypeRead first most p o × AreFields most rest ps o
AreFields most Empty [] o = Unit {0}
AreFields most _ _ o = ⊥

-- what was read of fields stays
fields_stay : (most : ℕ) (shape : Shape) (ps : List WrittenType) (i o : Input) → Grows i o → AreFields most shape ps i → AreFields most shape ps o
fields_stay most (Struct first rest) (p ∷ ps) i o g h = (read_stays first most p i o g h.0, fields_stay most rest ps i o g h.1)
fields_stay most Empty [] i o g h = h
fields_stay most (Struct first rest) [] i o g h = absurd h
fields_stay most Empty (p ∷ ps) i o g h = absurd h
fields_stay most (Integer bits) ps i o g h = absurd h
fields_stay most (Float t) ps i o g h = absurd h
fields_stay most (Pointer part) ps i o g h = absurd h
fields_stay most (Array count part) ps i o g h = absurd h
fields_stay most (Named name) ps i o g h = absurd h
fields_stay most Opaque ps i o g h = absurd h

-- the forms after the parts of an array
abbrev square_after : ℕ → WrittenType → Form WrittenType
square_after n p = w.interned base.Aggregate p.room (type.Array n p.id)

-- after the part of an array its bracket closes
abbrev part_after : ℕ → WrittenType → Form WrittenType
part_after n p = expect k.CloseSquare >> square_after n p

-- after the `x` of an array comes its part
abbrev x_after : (room n : ℕ) → Form WrittenType
x_after room n = part room >>= part_after n

-- after the length of an array comes an `x`
abbrev length_afterwards : (room n : ℕ) → Form WrittenType
length_afterwards room n = expect k.X >> x_after room n

-- a bracket ends a type
ends_square : (afterwards : Text) → EndsType (93 ∷ afterwards)
unfolding class_of
ends_square afterwards = (refl, λ i at. ap ends_type (sign_comes i.cursor [] 93 afterwards k.CloseSquare refl refl refl at).0)

-- a token of this kind closes no brace
abbrev no_close : Kind → Bool
no_close k.CloseBrace = false
no_close _ = true

-- so do further fields, and the brace after them
ends_field : (shape : Shape) (rest : Text) → IsStruct shape → EndsType (shown true shape ++ (codes " }" ++ rest))
unfolding class_of
ends_field Empty rest is = (refl, λ i at. ap ends_type (sign_comes i.cursor (32 ∷ []) 125 rest k.CloseBrace refl refl refl at).0)
ends_field (Struct first others) rest is = (refl, λ i at. ap ends_type (sign_comes i.cursor [] 44 _ k.Comma refl refl refl at).0)
ends_field (Integer bits) rest is = absurd is
ends_field (Float t) rest is = absurd is
ends_field (Pointer part) rest is = absurd is
ends_field (Array count part) rest is = absurd is
ends_field (Named name) rest is = absurd is
ends_field Opaque rest is = absurd is

-- which token a type begins with, at any place
pub shape_comes : (wide opaque : Bool) (structs : List Text) (shape : Shape) (place : Place) (gap afterwards : Text) → IsWritten wide opaque structs shape → AreBlanks gap → IsSeam afterwards → Stands place (gap ++ (shown false shape ++ afterwards)) → begins_type (kind place) ≡ true
unfolding class_of word_kind keywords
shape_comes wide opaque structs (Integer bits) place gap afterwards own blanks seam at = ap begins_type (integer_types_are_read bits (start_of place) gap afterwards own.0 own.1 blanks seam at).0
shape_comes wide opaque structs (Float size.Single) place gap afterwards own blanks seam at = ap begins_type (word_comes place gap (codes "float") afterwards blanks refl seam at).0
shape_comes wide opaque structs (Float size.Double) place gap afterwards own blanks seam at = ap begins_type (word_comes place gap (codes "double") afterwards blanks refl seam at).0
shape_comes wide opaque structs (Pointer part) place gap afterwards own blanks seam at =
    shape_comes wide opaque structs part place gap (42 ∷ afterwards) own.1 blanks refl (subst (λ (x : Text). Stands place (gap ++ x)) (append_assoc (shown false part) (42 ∷ []) afterwards) at)
shape_comes wide opaque structs (Array count part) place gap afterwards own blanks seam at = ap begins_type (sign_comes place gap 91 _ k.OpenSquare blanks refl refl at).0
shape_comes wide opaque structs Empty place gap afterwards own blanks seam at = ap begins_type (sign_comes place gap 123 _ k.OpenBrace blanks refl refl at).0
shape_comes wide opaque structs (Struct first rest) place gap afterwards own blanks seam at = ap begins_type (sign_comes place gap 123 _ k.OpenBrace blanks refl refl at).0
shape_comes wide opaque structs (Named name) place gap afterwards own blanks seam at = ap begins_type (local_comes place gap name afterwards blanks own.0 seam at).0
shape_comes wide opaque structs Opaque place gap afterwards own blanks seam at = ap begins_type (word_comes place gap (codes "ptr") afterwards blanks refl seam at).0

module _ {m : Module} {f : Function} (v : Invariant m f) where
  -- which token a type begins with
  pub type_begins : (shape : Shape) (i : Input) (gap afterwards : Text) → IsWritten m.wide (has_opaque m.types) (defined_structs m) shape → AreBlanks gap → IsSeam afterwards → Stands i.cursor (gap ++ (shown false shape ++ afterwards)) → begins_type (kind i.cursor) ≡ true
  type_begins shape i gap afterwards own blanks seam at = shape_comes m.wide (has_opaque m.types) (defined_structs m) shape i.cursor gap afterwards own blanks seam at

  -- a type with stars after it is read
  abbrev PartClaim : Shape → Type 0
  PartClaim shape =
      (count n : ℕ) (i : Input) (gap rest : Text) (s : ℕ) → IsWritten m.wide (has_opaque m.types) (defined_structs m) (starred count shape) → levels shape + count ≤ n → AreBlanks gap → EndsType rest
      → Ready v s i (gap ++ (shown false shape ++ (stars count ++ rest))) → Reads v s (part n) i rest (IsTypeRead (starred count shape) n)

  -- further fields were read
  abbrev FieldsRead : (n : ℕ) → Shape → WrittenType → (s : ℕ) → Input → Text → Type 0
  FieldsRead n shape p s i rest =
      (ps : List WrittenType) × (o1 : Input) × (o : Input) × (w.field_of p).says i p o1 × Listed w.at_brace (w.field (firm n)).says o1 ps o
      × Ready v (s + field_count shape) o (codes " }" ++ rest) × Grows i o × AreFields n shape ps o

  -- further fields are read
  abbrev FieldsClaim : Shape → Type 0
  FieldsClaim shape =
      (n : ℕ) (i : Input) (rest : Text) (s : ℕ) (p : WrittenType) → IsWritten m.wide (has_opaque m.types) (defined_structs m) shape → IsStruct shape → levels shape ≤ suc n
      → Ready v s i (shown true shape ++ (codes " }" ++ rest)) → FieldsRead n shape p s i rest

  -- a token ends before stars
  seam_after : (count : ℕ) (rest : Text) → IsSeam rest → IsSeam (stars count ++ rest)
  unfolding class_of
  seam_after zero rest seam = seam
  seam_after (suc count) rest seam = refl

  -- ---- arrays

  -- an array is read
  array_read : (count room : ℕ) (shape : Shape) (i : Input) (gap afterwards : Text) (s : ℕ) → PartClaim shape → count < 2 ^ 64 → IsWritten m.wide (has_opaque m.types) (defined_structs m) shape → levels shape ≤ room → AreBlanks gap
      → Ready v s i (gap ++ (shown false (Array count shape) ++ afterwards)) → Reads v s (w.base room (firm room)) i afterwards (IsTypeRead (Array count shape) (suc room))
  unfolding class_of word_kind keywords
  array_read count room shape i gap afterwards s claim less own le blanks ready =
      let good = IsTypeRead (Array count shape) (suc room) in
      let d = text.decimal count in
      let t = shown false shape in
      let ready : Ready v s i (gap ++ 91 ∷ (text.decimal count ++ (codes " x " ++ (shown false shape ++ 93 ∷ afterwards)))) = simp append_assoc at ready in
      looked v (λ i. kind i.cursor) (w.base_by room (firm room)) i afterwards s good k.OpenSquare (sign_kind v 91 k.OpenSquare i gap _ s blanks refl refl ready)
      (go_on v skip (λ _. w.array_after (firm room)) i (text.decimal count ++ (codes " x " ++ (shown false shape ++ 93 ∷ afterwards))) afterwards (s + 1) s (λ _ o. advanced i ≡ o) good
      (sign_skipped v 91 k.OpenSquare i gap _ s (s + 1) blanks refl refl (omega arith) ready)
      (λ _ o ready g e.
      let c = number_comes o.cursor [] (text.decimal count) (codes " x " ++ (shown false shape ++ 93 ∷ afterwards)) refl (are_digits count less) refl ready.stands in
      token_then v w.array_length (length_afterwards room) o count (text.decimal count ++ (codes " x " ++ (shown false shape ++ 93 ∷ afterwards))) (codes " x " ++ (shown false shape ++ 93 ∷ afterwards)) afterwards (s + 1) (s + 1) s good
      (length_said v count o less c.0 c.1) ready c.3 (shorter v [] (text.decimal count) _ (s + 1) (s + 1) (omega arith))
      (λ ready.
      go_on v (expect k.X) (λ _. x_after room count) (advanced o) (32 ∷ (shown false shape ++ 93 ∷ afterwards)) afterwards (s + 1) s (λ _ q. advanced (advanced o) ≡ q) good
      (word_reads v (codes "x") (advanced o) (32 ∷ []) (32 ∷ (shown false shape ++ 93 ∷ afterwards)) (s + 1) (s + 1) refl refl refl (omega arith) ready)
      (λ _ o ready g e.
      go_on v (part room) (part_after count) o (93 ∷ afterwards) afterwards (s + 1) s (IsTypeRead shape room) good
      (claim 0 room o (32 ∷ []) (93 ∷ afterwards) (s + 1) own (omega (arith, le)) refl (ends_square afterwards) ready)
      (λ p o ready g read.
      go_on v (expect k.CloseSquare) (λ _. square_after count p) o afterwards afterwards (s + 1) s (λ _ q. advanced o ≡ q) good
      (sign_reads v 93 k.CloseSquare o [] afterwards (s + 1) (s + 1) refl refl refl (omega arith) ready)
      (λ _ q ready h e.
      let fits = read.fits in
      interned_read v base.Aggregate p.room (suc room) (type.Array count p.id) (Array count shape) q afterwards s
      (shape_within q.types q.struct_names.names shape p.id (shape_stays o.types q.types o.struct_names.names q.struct_names.names shape p.id h.types h.structs read.has_shape)) refl refl (omega (arith, fits))
      (λ n r grows ordered there. (
        p.id,
        there,
        shape_stays o.types r.types o.struct_names.names r.struct_names.names shape p.id
            (grows_further o q r h grows).types (grows_further o q r h grows).structs read.has_shape,
      ))
      ready))))))

  -- ---- fields

  -- no brace closes before a type
  no_brace : (shape : Shape) (i : Input) (afterwards : Text) (s : ℕ) → IsWritten m.wide (has_opaque m.types) (defined_structs m) shape → IsSeam afterwards → Ready v s i (32 ∷ (shown false shape ++ afterwards)) → w.at_brace i ≡ false
  no_brace shape i afterwards s own seam ready = unlike k.CloseBrace begins_type i refl (type_begins shape i (32 ∷ []) afterwards own refl seam ready.stands)

  -- a comma, and a further field after it
  comma_read : (shape : Shape) (i : Input) (afterwards : Text) (s : ℕ) → IsWritten m.wide (has_opaque m.types) (defined_structs m) shape → IsSeam afterwards → Ready v s i (44 ∷ 32 ∷ (shown false shape ++ afterwards))
      → Reads v (s + 1) w.after_field i (32 ∷ (shown false shape ++ afterwards)) Any
  unfolding w.after_field class_of
  comma_read shape i afterwards s own seam ready =
      let text = 32 ∷ (shown false shape ++ afterwards) in
      looked v w.at_brace w.comma_or i (32 ∷ (shown false shape ++ afterwards)) (s + 1) Any false (unlike k.CloseBrace no_close i refl (ap no_close (sign_kind v 44 k.Comma i [] (32 ∷ (shown false shape ++ afterwards)) s refl refl refl ready)))
      (go_on v (expect k.Comma) (λ _. checked (λ i. not (w.at_brace i)) unexpected) i (32 ∷ (shown false shape ++ afterwards)) (32 ∷ (shown false shape ++ afterwards)) (s + 1) (s + 1) (λ _ o. advanced i ≡ o) Any
      (sign_reads v 44 k.Comma i [] (32 ∷ (shown false shape ++ afterwards)) s (s + 1) refl refl refl (omega arith) ready)
      (λ _ o ready g e. so v (checked (λ i. not (w.at_brace i)) unexpected) o (32 ∷ (shown false shape ++ afterwards)) (s + 1) (λ _ p. o ≡ p) Any
      (test_reads v (λ i. not (w.at_brace i)) unexpected o (32 ∷ (shown false shape ++ afterwards)) (s + 1) (ap not (no_brace shape o afterwards (s + 1) own seam ready)) ready)
      (λ _ p g h. tt)))

  -- a further field is read, and those after it
  fields_read : (first others : Shape) → PartClaim first → FieldsClaim others → FieldsClaim (Struct first others)
  fields_read first others claim more n i rest s p own is le ready =
      let afterwards = shown true others ++ (codes " }" ++ rest) in
      let ends = ends_field others rest own.0 in
      let ready : Ready v s i (44 ∷ 32 ∷ (shown false first ++ (shown true others ++ (codes " }" ++ rest)))) = simp append_assoc at ready in
      let a = comma_read first i (shown true others ++ (codes " }" ++ rest)) s own.1 ends.0 ready in
      let b = claim 0 n a.1 (32 ∷ []) (shown true others ++ (codes " }" ++ rest)) (s + 1) own.1 (omega (arith, le)) refl ends a.3 in
      let d = more n b.1 rest (s + 1) b.0 own.2 own.0 (omega (arith, le)) b.3 in (
        b.0 ∷ d.0,
        a.1,
        d.2,
        (tt, a.1, a.2, (refl, refl)),
        (no_brace first a.1 (shown true others ++ (codes " }" ++ rest)) (s + 1) own.1 ends.0 a.3, d.1, (b.0, b.1, b.2, d.3), d.4),
        less_spare v d.2 (codes " }" ++ rest) (s + 1 + field_count others) (s + (field_count others + 1)) (omega arith) d.5,
        grows_further i b.1 d.2 (grows_further i a.1 b.1 a.4 b.4) d.6,
        (read_stays first n b.0 b.1 d.2 d.6 b.5, d.7),
      )

  -- after the last field the brace closes
  no_field_read : FieldsClaim Empty
  unfolding w.after_field class_of
  no_field_read n i rest s p own is le ready =
      let closes : w.at_brace i ≡ true = seen k.CloseBrace i (sign_kind v 125 k.CloseBrace i (32 ∷ []) rest s refl refl refl ready) in
      let a = looked v w.at_brace w.comma_or i (codes " }" ++ rest) s Any true closes (given v tt i (codes " }" ++ rest) s Any ready tt) in
      ([], a.1, a.1, (tt, a.1, a.2, (refl, refl)), (closes_there a, refl), less_spare v a.1 (codes " }" ++ rest) s (s + 0) (omega arith) a.3, a.4, tt) where
        closes_there : (a : Reads v s w.after_field i (codes " }" ++ rest) Any) → w.at_brace a.1 ≡ true
        closes_there a = seen k.CloseBrace a.1 (sign_kind v 125 k.CloseBrace a.1 (32 ∷ []) rest s refl refl refl a.3)

  -- ---- structs

  -- fields come before those of a struct
  before_read : (room : ℕ) (shape : Shape) (ps : List WrittenType) (whole : WrittenType) (i : Input) (bytes : Text) (s : ℕ) → AreFields room shape ps i → IsTypeRead Empty (suc room) whole i
      → Ready v (s + field_count shape) i bytes → Reads v s (w.before ps whole) i bytes (IsTypeRead shape (suc room))
  unfolding w.before
  before_read room Empty [] whole i bytes s fields read ready = given v whole i bytes s (IsTypeRead Empty (suc room)) (less_spare v i bytes (s + 0) s (omega arith) ready) read
  before_read room (Struct first rest) (p ∷ ps) whole i bytes s fields read ready =
      let good = IsTypeRead (Struct first rest) (suc room) in
      go_on v (w.before ps whole) (w.field_before p) i bytes bytes (s + 1) s (IsTypeRead rest (suc room)) good
      (before_read room rest ps whole i bytes (s + 1) fields.1 read (less_spare v i bytes (s + (field_count rest + 1)) (s + 1 + field_count rest) (omega arith) ready))
      (λ q o ready g later.
      let one = read_stays first room p i o g fields.0 in
      let a = one.fits in
      let b = later.fits in
      interned_read v base.Aggregate (min p.room q.room) (suc room) (type.Struct p.id q.id) (Struct first rest) o bytes s
      (shape_within o.types o.struct_names.names first p.id one.has_shape, shape_within o.types o.struct_names.names rest q.id later.has_shape) refl refl (omega (arith, a, b))
      (λ n r grows ordered there. (
        p.id,
        q.id,
        there,
        (ordered n (type.Struct p.id q.id) there).1,
        shape_stays o.types r.types o.struct_names.names r.struct_names.names first p.id grows.types grows.structs one.has_shape,
        shape_stays o.types r.types o.struct_names.names r.struct_names.names rest q.id grows.types grows.structs later.has_shape,
      ))
      ready)
  before_read room Empty (p ∷ ps) whole i bytes s fields read ready = absurd fields
  before_read room (Struct first rest) [] whole i bytes s fields read ready = absurd fields
  before_read room (Integer bits) ps whole i bytes s fields read ready = absurd fields
  before_read room (Float t) ps whole i bytes s fields read ready = absurd fields
  before_read room (Pointer part) ps whole i bytes s fields read ready = absurd fields
  before_read room (Array count part) ps whole i bytes s fields read ready = absurd fields
  before_read room (Named name) ps whole i bytes s fields read ready = absurd fields
  before_read room Opaque ps whole i bytes s fields read ready = absurd fields

  -- the brace that closes a struct, and the struct with the fields before it
  closed_read : (room : ℕ) (shape : Shape) (ps : List WrittenType) (i : Input) (gap afterwards : Text) (s t : ℕ) → AreBlanks gap → s + field_count shape ≤ t → AreFields room shape ps i → Ready v t i (gap ++ 125 ∷ afterwards)
      → Reads v s (w.close_struct room ps) i afterwards (IsTypeRead shape (suc room))
  unfolding w.struct_of class_of
  closed_read room shape ps i gap afterwards s t blanks le fields ready =
      let good = IsTypeRead shape (suc room) in
      go_on v (expect k.CloseBrace) (λ _. w.struct_of room ps) i afterwards afterwards (s + field_count shape + 1) s (λ _ o. advanced i ≡ o) good
      (sign_reads v 125 k.CloseBrace i gap afterwards t (s + field_count shape + 1) blanks refl refl (omega (arith, le)) ready)
      (λ _ o ready g e.
      go_on v (w.interned base.Aggregate room type.EmptyStruct) (w.before ps) o afterwards afterwards (s + field_count shape) s (IsTypeRead Empty (suc room)) good
      (interned_read v base.Aggregate room (suc room) type.EmptyStruct Empty o afterwards (s + field_count shape) tt refl refl (omega arith) (λ n o g ordered there. there) ready)
      (λ whole q ready h read. before_read room shape ps whole q afterwards s (fields_stay room shape ps i q (grows_further i o q g h) fields) read ready))

  -- `{}` is read
  empty_braced : (room : ℕ) (i : Input) (gap afterwards : Text) (s : ℕ) → AreBlanks gap → Ready v s i (gap ++ (codes "{}" ++ afterwards)) → Reads v s (w.braced room (firm room)) i afterwards (IsTypeRead Empty (suc room))
  unfolding class_of
  empty_braced room i gap afterwards s blanks ready =
      let good = IsTypeRead Empty (suc room) in
      go_on v skip (λ _. w.fields_afterwards room (firm room)) i (125 ∷ afterwards) afterwards s s (λ _ o. advanced i ≡ o) good
      (sign_skipped v 123 k.OpenBrace i gap (125 ∷ afterwards) s s blanks refl refl (omega arith) ready)
      (λ _ o ready g e.
      let closes = seen k.CloseBrace o (sign_kind v 125 k.CloseBrace o [] afterwards s refl refl refl ready) in
      said_then v (many w.at_brace (w.field (firm room)) (w.field_takes (firm room))) (w.close_struct room) o o [] afterwards s good (closes, refl) (grows_itself o)
      (closed_read room Empty [] o [] afterwards s s refl (omega arith) tt ready))

  -- so it is as a type
  empty_read : (room : ℕ) (i : Input) (gap afterwards : Text) (s : ℕ) → AreBlanks gap → Ready v s i (gap ++ (codes "{}" ++ afterwards)) → Reads v s (w.base room (firm room)) i afterwards (IsTypeRead Empty (suc room))
  unfolding class_of
  empty_read room i gap afterwards s blanks ready =
      looked v (λ i. kind i.cursor) (w.base_by room (firm room)) i afterwards s (IsTypeRead Empty (suc room)) k.OpenBrace (sign_kind v 123 k.OpenBrace i gap (125 ∷ afterwards) s blanks refl refl ready)
      (empty_braced room i gap afterwards s blanks ready)

  -- a struct with fields is read
  struct_braced : (first others : Shape) (room : ℕ) (i : Input) (gap afterwards : Text) (s : ℕ) → PartClaim first → FieldsClaim others → IsWritten m.wide (has_opaque m.types) (defined_structs m) (Struct first others)
      → levels (Struct first others) ≤ suc room → AreBlanks gap → Ready v s i (gap ++ 123 ∷ 32 ∷ (shown false first ++ (shown true others ++ (codes " }" ++ afterwards))))
      → Reads v s (w.braced room (firm room)) i afterwards (IsTypeRead (Struct first others) (suc room))
  unfolding class_of
  struct_braced first others room i gap afterwards s claim more own le blanks ready =
      let good = IsTypeRead (Struct first others) (suc room) in
      let ends = ends_field others afterwards own.0 in
      go_on v skip (λ _. w.fields_afterwards room (firm room)) i (32 ∷ (shown false first ++ (shown true others ++ (codes " }" ++ afterwards)))) afterwards (s + 1) s (λ _ o. advanced i ≡ o) good
      (sign_skipped v 123 k.OpenBrace i gap _ s (s + 1) blanks refl refl (omega arith) ready)
      (λ _ o ready g e.
      let b = claim 0 room o (32 ∷ []) (shown true others ++ (codes " }" ++ afterwards)) (s + 1) own.1 (omega (arith, le)) refl ends ready in
      let d = more room b.1 afterwards (s + 1) b.0 own.2 own.0 (omega (arith, le)) b.3 in
      let opens = no_brace first o (shown true others ++ (codes " }" ++ afterwards)) (s + 1) own.1 ends.0 ready in
      said_then v (many w.at_brace (w.field (firm room)) (w.field_takes (firm room))) (w.close_struct room) o d.2 (b.0 ∷ d.0) afterwards s good
      (opens, d.1, (b.0, b.1, b.2, d.3), d.4) (grows_further o b.1 d.2 b.4 d.6)
      (closed_read room (Struct first others) (b.0 ∷ d.0) d.2 (32 ∷ []) afterwards s (s + 1 + field_count others) refl (omega arith) (read_stays first room b.0 b.1 d.2 d.6 b.5, d.7) d.5))

  -- so it is as a type
  struct_type_read : (first others : Shape) (room : ℕ) (i : Input) (gap afterwards : Text) (s : ℕ) → PartClaim first → FieldsClaim others → IsWritten m.wide (has_opaque m.types) (defined_structs m) (Struct first others)
      → levels (Struct first others) ≤ suc room → AreBlanks gap → Ready v s i (gap ++ (shown false (Struct first others) ++ afterwards)) → Reads v s (w.base room (firm room)) i afterwards (IsTypeRead (Struct first others) (suc room))
  unfolding class_of
  struct_type_read first others room i gap afterwards s claim more own le blanks ready =
      let ready : Ready v s i (gap ++ 123 ∷ 32 ∷ (shown false first ++ (shown true others ++ (codes " }" ++ afterwards)))) = simp append_assoc at ready in
      looked v (λ i. kind i.cursor) (w.base_by room (firm room)) i afterwards s (IsTypeRead (Struct first others) (suc room)) k.OpenBrace (sign_kind v 123 k.OpenBrace i gap _ s blanks refl refl ready)
      (struct_braced first others room i gap afterwards s claim more own le blanks ready)

  -- ---- all types

  -- a type before its stars
  at_base : (shape : Shape) (count room : ℕ) (i : Input) (gap rest : Text) (s : ℕ) → MayStar (has_opaque m.types) count → HasStars count shape → stars_of shape ≡ 0 → levels shape + count ≤ suc room → EndsType rest
      → Reads v s (w.base room (firm room)) i (stars count ++ rest) (IsTypeRead shape (suc room)) → Reads v s (part (suc room)) i rest (IsTypeRead (starred count shape) (suc room))
  at_base shape count room i gap rest s may has none le ends h = over_read v count room shape i rest s may has none le ends h

  -- no type has no level
  no_levels : (shape : Shape) (count : ℕ) → levels shape + count ≤ 0 → ⊥
  no_levels shape count le = let some = some_level shape in absurd (omega (arith, le, some))

  -- each type is read
  pub claims : (shape : Shape) → PartClaim shape × FieldsClaim shape
  claims (Integer bits) = (by, λ n i rest s p own is le ready. absurd is) where
    by : PartClaim (Integer bits)
    by count zero i gap rest s own le blanks ends ready = absurd (no_levels (Integer bits) count le)
    by count (suc room) i gap rest s own le blanks ends ready =
        let p = starred_parts m.wide (has_opaque m.types) (defined_structs m) count (Integer bits) own in
        over_read v count room (Integer bits) i rest s p.0 tt refl le ends (integer_read v bits room i gap (stars count ++ rest) s p.1.0 p.1.1 blanks (seam_after count rest ends.0) ready)
  claims (Float t) = (by, λ n i rest s p own is le ready. absurd is) where
    by : PartClaim (Float t)
    by count zero i gap rest s own le blanks ends ready = absurd (no_levels (Float t) count le)
    by count (suc room) i gap rest s own le blanks ends ready =
        let p = starred_parts m.wide (has_opaque m.types) (defined_structs m) count (Float t) own in
        over_read v count room (Float t) i rest s p.0 tt refl le ends (float_read v t room i gap (stars count ++ rest) s p.1 blanks (seam_after count rest ends.0) ready)
  claims (Named name) = (by, λ n i rest s p own is le ready. absurd is) where
    by : PartClaim (Named name)
    by count zero i gap rest s own le blanks ends ready = absurd (no_levels (Named name) count le)
    by count (suc room) i gap rest s own le blanks ends ready =
        let p = starred_parts m.wide (has_opaque m.types) (defined_structs m) count (Named name) own in
        over_read v count room (Named name) i rest s p.0 tt refl le ends (named_read v name room i gap (stars count ++ rest) s p.1.0 p.1.1 blanks (seam_after count rest ends.0) ready)
  claims Empty = (by, no_field_read) where
    by : PartClaim Empty
    by count zero i gap rest s own le blanks ends ready = absurd (no_levels Empty count le)
    by count (suc room) i gap rest s own le blanks ends ready =
        let p = starred_parts m.wide (has_opaque m.types) (defined_structs m) count Empty own in
        over_read v count room Empty i rest s p.0 tt refl le ends (empty_read room i gap (stars count ++ rest) s blanks ready)
  claims Opaque = (by, λ n i rest s p own is le ready. absurd is) where
    none_after : (count : ℕ) → MayStar (has_opaque m.types) count → has_opaque m.types ≡ true → HasStars count Opaque
    none_after zero may is = refl
    none_after (suc count) may is = absurd (let both : false ≡ true = sym may ∙ is in cc)

    by : PartClaim Opaque
    by count zero i gap rest s own le blanks ends ready = absurd (no_levels Opaque count le)
    by count (suc room) i gap rest s own le blanks ends ready =
        let p = starred_parts m.wide (has_opaque m.types) (defined_structs m) count Opaque own in
        over_read v count room Opaque i rest s p.0 (none_after count p.0 p.1) refl le ends (opaque_read v room i gap (stars count ++ rest) s p.1 blanks (seam_after count rest ends.0) ready)
  claims (Pointer shape) = (by (claims shape).0, λ n i rest s p own is le ready. absurd is) where
    by : PartClaim shape → PartClaim (Pointer shape)
    by claim count n i gap rest s own le blanks ends ready =
        claim (suc count) n i gap rest s own (omega (arith, le)) blanks ends
        (subst (λ (x : Text). Ready v s i (gap ++ x)) (append_assoc (shown false shape) (42 ∷ []) (stars count ++ rest)) ready)
  claims (Array size shape) = (by (claims shape).0, λ n i rest s p own is le ready. absurd is) where
    by : PartClaim shape → PartClaim (Array size shape)
    by claim count zero i gap rest s own le blanks ends ready = absurd (no_levels (Array size shape) count le)
    by claim count (suc room) i gap rest s own le blanks ends ready =
        let p = starred_parts m.wide (has_opaque m.types) (defined_structs m) count (Array size shape) own in
        over_read v count room (Array size shape) i rest s p.0 tt refl le ends (array_read size room shape i gap (stars count ++ rest) s claim p.1.0 p.1.1 (omega (arith, le)) blanks ready)
  claims (Struct first others) = (by (claims first).0 (claims others).1, fields_read first others (claims first).0 (claims others).1) where
    by : PartClaim first → FieldsClaim others → PartClaim (Struct first others)
    by claim more count zero i gap rest s own le blanks ends ready = absurd (no_levels (Struct first others) count le)
    by claim more count (suc room) i gap rest s own le blanks ends ready =
        let p = starred_parts m.wide (has_opaque m.types) (defined_structs m) count (Struct first others) own in
        over_read v count room (Struct first others) i rest s p.0 tt refl le ends (struct_type_read first others room i gap (stars count ++ rest) s claim more p.1 (omega (arith, le)) blanks ready)

  -- the body of a named struct
  pub braced_reads : (shape : Shape) (i : Input) (gap rest : Text) (s : ℕ) → is_struct_shape shape ≡ true → IsWritten m.wide (has_opaque m.types) (defined_structs m) shape → levels shape ≤ 64 → AreBlanks gap
      → Ready v s i (gap ++ (shown false shape ++ rest)) → Reads v s (w.braced 63 (firm 63)) i rest (IsTypeRead shape 64)
  braced_reads Empty i gap rest s is own le blanks ready = empty_braced 63 i gap rest s blanks ready
  braced_reads (Struct first others) i gap rest s is own le blanks ready =
      let ready : Ready v s i (gap ++ 123 ∷ 32 ∷ (shown false first ++ (shown true others ++ (codes " }" ++ rest)))) = simp append_assoc at ready in
      struct_braced first others 63 i gap rest s (claims first).0 (claims others).1 own le blanks ready
  braced_reads _ i gap rest s is own le blanks ready = absurd cc
