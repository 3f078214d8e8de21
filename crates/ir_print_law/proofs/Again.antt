-- A second mention of a type is read alike in both.
use Rattle.std.proofs.Common.{◌≡◌, ℕ, zero, suc, ◌<◌, Bool, true, false, List, Option, None, Some, refl, sym, ap, ◌∙◌, arith}
use Rattle.std.specs.Prelude.{nat_lt, ◌==◌}
use Rattle.std.proofs.lemmas.Bool.Decides.{nat_tests}
use Rattle.grammar.specs.Grammar.{◌>>◌}
use Rattle.ir_ast.specs.Names.{place_of}
use Rattle.ir_ast.specs.declared.ir_type.IrType.TheVariants as type
use Rattle.ir_tokens.specs.Bytes.{Text}
use Rattle.ir_tokens.specs.declared.token.Kind.{Kind}
use Rattle.ir_tokens.specs.declared.token.Kind.TheVariants as k
use Rattle.ir_forms.specs.Cursor.{sees, start, spelled}
use Rattle.ir_forms.specs.declared.input.Input.{Input}
use Rattle.ir_forms.specs.declared.written.WrittenType.{WrittenType}
use Rattle.ir_forms.specs.Input.{Form, left, limit, unexpected, unread, skip, expect_takes}
use Rattle.ir_forms.specs.Names.{is_at}
use Rattle.ir_forms.specs.Written.{float_here, float_again_by, float_again, is_same_float, begins_unread_type, begins_unread_type, sees_type, bits_at, integer_again, is_named, name_again, length_again, length_at, array_again, type_at, field_or, fields_again, again_by, again_over, again_within, again, further_star, starred_again, opaque_or, opaque_type, pointer_again, intern_pointer}
use Rattle.ir_forms.specs.declared.written.FloatType.{FloatType}
use Rattle.ir_forms.specs.declared.written.FloatType.TheVariants as size
use Rattle.ir_forms.specs.declared.fault.Fault.TheVariants.{Unexpected}
use Rattle.ir_print_law.proofs.Tables.{place_stays}
use Rattle.ir_print_law.specs.Shapes.{Shape, Integer, Float, Pointer, Array, Empty, Struct, Named, Opaque}
use Rattle.ir_print_law.proofs.Seats.{Seat, Beside, Grown, grown_further, spelled_same, sees_same}
use Rattle.ir_print_law.proofs.Sim.{Any, At, Both, Same, past, both, then, then_said, refuses, tested, so, looks, looks_any, looks_known}
use Rattle.ir_print_law.proofs.AnewSteps.{skip_same, expect_same, rule, seen}
use Rattle.ir_print_law.proofs.AnewTables.{place_is_there}
use Rattle.ir_print_law.proofs.AnewTypes.{float_here_same, Shows, SameType, shows_later, Written, bits_at_same, has_bits_same, length_at_same, has_length_same, no_parameters_same, opaque_at, pointer_at}

-- ---- numbers

wanted_is : (wanted n : ℕ) → (n == wanted) ≡ true → n ≡ wanted
wanted_is wanted n e = grind (arith, nat_tests)

itself : (n : ℕ) → (n == n) ≡ true
itself n = grind (arith, nat_tests)

at_is : (wanted : ℕ) (place : Option ℕ) → is_at wanted place ≡ true → place ≡ Some wanted
at_is wanted None e = absurd cc
at_is wanted (Some n) e = ap Some (wanted_is wanted n e)

is_there : (wanted : ℕ) (place : Option ℕ) → place ≡ Some wanted → is_at wanted place ≡ true
is_there wanted place e = ap (is_at wanted) e ∙ itself wanted

-- two names at one place are one name
one_name : (x y : Text) (names : List Text) (n : ℕ) → place_of x names ≡ Some n → place_of y names ≡ Some n → x ≡ y
one_name x y names n a b =
    let first = place_is_there x names n a in
    let second = place_is_there y names n b in
    let same : Some x ≡ Some y = sym first ∙ second in
    cc

place_later : (name : Text) (n : ℕ) (i o : Input) → Grown i o → place_of name i.struct_names.names ≡ Some n → place_of name o.struct_names.names ≡ Some n
place_later name n i o g e = place_stays name i.struct_names.names o.struct_names.names n g.1 e

module _ (s : Seat) where
  sees_type_same : (x : Kind) → Same s (sees_type x)
  sees_type_same x = rule s (λ i. sees x i.cursor) (unread begins_unread_type) (λ i j b. sees_same s x i.cursor j.cursor b.along)

  float_again_by_same : (wanted : FloatType) (t : Option FloatType) → Same s (float_again_by wanted t)
  float_again_by_same wanted None i j = refuses s (unread begins_unread_type) i j
  float_again_by_same wanted (Some t) i j = both s (rule s (λ _. is_same_float wanted t) (λ i. Unexpected (start i.cursor)) (λ i j b. refl)) (skip_same s) i j

  -- a type of floating point numbers again
  float_again_same : (wanted : FloatType) → Same s (float_again wanted)
  unfolding float_again
  float_again_same wanted i j = looks s float_here float_here (float_again_by wanted) (float_again_by wanted) i j (λ beside. float_here_same s i j beside) (λ t. float_again_by_same wanted t i j)

  integer_same : (bits : ℕ) → Same s (integer_again bits)
  unfolding integer_again
  integer_same bits = both s (both s (both s (sees_type_same k.IntegerType) (has_bits_same s)) (rule s (λ i. bits_at i == bits) unexpected (λ i j b. ap (λ (n : ℕ). n == bits) (bits_at_same s i j b)))) (skip_same s)

  length_same : (n : ℕ) → Same s (length_again n)
  unfolding length_again
  length_same n = both s (both s (both s (seen s k.Number) (has_length_same s)) (rule s (λ i. is_at n (length_at i)) unexpected (λ i j b. ap (is_at n) (length_at_same s i j b)))) (skip_same s)

  -- the name of a struct again, by its number in each table
  named_so : (name : Text) (a b : ℕ) (i j : Input) → place_of name i.struct_names.names ≡ Some a → place_of name j.struct_names.names ≡ Some b → Beside s i j
      → is_named a i ≡ true → is_named b j ≡ true
  unfolding is_named
  named_so name a b i j at there beside e =
      let found = at_is a (place_of (spelled i.cursor) i.struct_names.names) e in
      let same = one_name (spelled i.cursor) name i.struct_names.names a found at in
      let own : spelled j.cursor ≡ name = sym (spelled_same s i.cursor j.cursor beside.along) ∙ same in
      is_there b (place_of (spelled j.cursor) j.struct_names.names) (ap (λ (t : Text). place_of t j.struct_names.names) own ∙ there)

  name_again_at : (name : Text) (a b : ℕ) (i j : Input) → place_of name i.struct_names.names ≡ Some a → place_of name j.struct_names.names ≡ Some b → At s Any (name_again a) (name_again b) i j
  unfolding name_again
  name_again_at name a b i j at there =
      past s (then s (sees_type_same k.LocalName i j) (λ _ _ m q _ x y.
      tested s (is_named a) (is_named b) unexpected unexpected m q
      (named_so name a b m q (place_later name a i m x at) (place_later name b j q y there)))) (skip_same s)

  -- ---- structs and arrays

  -- what is read again of the inner types
  abbrev Inner : (ℕ → Form (Unit {0})) → Type 0
  Inner inner = (shape : Shape) (a b : ℕ) (i j : Input) → Shows i.types i.struct_names.names shape a → Shows j.types j.struct_names.names shape b → At s Any (inner a) (inner b) i j

  array_again_at : (inner : ℕ → Form (Unit {0})) → Inner inner → (n : ℕ) (shape : Shape) (a b : ℕ) (i j : Input)
      → Shows i.types i.struct_names.names shape a → Shows j.types j.struct_names.names shape b → At s Any (array_again inner n a) (array_again inner n b) i j
  array_again_at inner each n shape a b i j h g =
      then s (sees_type_same k.OpenSquare i j) (λ _ _ i1 j1 _ x1 y1.
      then s (skip_same s i1 j1) (λ _ _ i2 j2 _ x2 y2.
      then s (length_same n i2 j2) (λ _ _ i3 j3 _ x3 y3.
      then s (expect_same s k.X i3 j3) (λ _ _ i4 j4 _ x4 y4.
      past s (each shape a b i4 j4
      (shows_later i i4 shape a (grown_further i i1 i4 x1 (grown_further i1 i2 i4 x2 (grown_further i2 i3 i4 x3 x4))) h)
      (shows_later j j4 shape b (grown_further j j1 j4 y1 (grown_further j1 j2 j4 y2 (grown_further j2 j3 j4 y3 y4))) g)) (expect_same s k.CloseSquare)))))

  fields_again_at : (inner : ℕ → Form (Unit {0})) → Inner inner → (shape : Shape) (most other a b : ℕ) (i j : Input)
      → Shows i.types i.struct_names.names shape a → Shows j.types j.struct_names.names shape b → left j < other → At s Any (fields_again inner most a) (fields_again inner other b) i j
  unfolding fields_again
  fields_again_at inner each shape zero other a b i j h g less = refuses s unexpected i j
  fields_again_at inner each shape (suc most) zero a b i j h g less = absurd (omega (arith, less))
  fields_again_at inner each (Struct first rest) (suc most) (suc other) a b i j h g less =
      looks_known s (type_at a) (type_at b) (field_or (λ first rest. inner first >> fields_again inner most rest)) (field_or (λ first rest. inner first >> fields_again inner other rest)) i j
      (Some (type.Struct h.0 h.1)) (Some (type.Struct g.0 g.1)) h.2 g.2
      (then_said s (expect_same s k.Comma i j) (λ _ _ i1 j1 _ x1 y1 took.
      then_said s (each first h.0 g.0 i1 j1 (shows_later i i1 first h.0 x1 h.3) (shows_later j j1 first g.0 y1 g.3)) (λ _ _ i2 j2 _ x2 y2 read.
      let fewer = expect_takes k.Comma (λ x. cc) j tt j1 took in
      let further = (inner g.0).moves j1 tt j2 read in
      fields_again_at inner each rest most other h.1 g.1 i2 j2
      (shows_later i i2 rest h.1 (grown_further i i1 i2 x1 x2) h.4) (shows_later j j2 rest g.1 (grown_further j j1 j2 y1 y2) g.4) (omega (arith, less, fewer, further)))))
  fields_again_at inner each (Integer bits) (suc most) (suc other) a b i j h g less =
      looks_known s (type_at a) (type_at b) (field_or (λ first rest. inner first >> fields_again inner most rest)) (field_or (λ first rest. inner first >> fields_again inner other rest)) i j _ _ h g (expect_same s k.CloseBrace i j)
  fields_again_at inner each (Float size.Single) (suc most) (suc other) a b i j h g less =
      looks_known s (type_at a) (type_at b) (field_or (λ first rest. inner first >> fields_again inner most rest)) (field_or (λ first rest. inner first >> fields_again inner other rest)) i j _ _ h g (expect_same s k.CloseBrace i j)
  fields_again_at inner each (Float size.Double) (suc most) (suc other) a b i j h g less =
      looks_known s (type_at a) (type_at b) (field_or (λ first rest. inner first >> fields_again inner most rest)) (field_or (λ first rest. inner first >> fields_again inner other rest)) i j _ _ h g (expect_same s k.CloseBrace i j)
  fields_again_at inner each (Pointer part) (suc most) (suc other) a b i j h g less =
      looks_known s (type_at a) (type_at b) (field_or (λ first rest. inner first >> fields_again inner most rest)) (field_or (λ first rest. inner first >> fields_again inner other rest)) i j _ _ h.1 g.1 (expect_same s k.CloseBrace i j)
  fields_again_at inner each (Array count part) (suc most) (suc other) a b i j h g less =
      looks_known s (type_at a) (type_at b) (field_or (λ first rest. inner first >> fields_again inner most rest)) (field_or (λ first rest. inner first >> fields_again inner other rest)) i j _ _ h.1 g.1 (expect_same s k.CloseBrace i j)
  fields_again_at inner each Empty (suc most) (suc other) a b i j h g less =
      looks_known s (type_at a) (type_at b) (field_or (λ first rest. inner first >> fields_again inner most rest)) (field_or (λ first rest. inner first >> fields_again inner other rest)) i j _ _ h g (expect_same s k.CloseBrace i j)
  fields_again_at inner each (Named name) (suc most) (suc other) a b i j h g less =
      looks_known s (type_at a) (type_at b) (field_or (λ first rest. inner first >> fields_again inner most rest)) (field_or (λ first rest. inner first >> fields_again inner other rest)) i j _ _ h.1 g.1 (expect_same s k.CloseBrace i j)
  fields_again_at inner each Opaque (suc most) (suc other) a b i j h g less =
      looks_known s (type_at a) (type_at b) (field_or (λ first rest. inner first >> fields_again inner most rest)) (field_or (λ first rest. inner first >> fields_again inner other rest)) i j _ _ h g (expect_same s k.CloseBrace i j)

  -- ---- a type again

  opens : (x : Kind) → Same s (sees_type x >> skip)
  opens x = both s (sees_type_same x) (skip_same s)

  again_over_at : (inner : ℕ → Form (Unit {0})) → Inner inner → (shape : Shape) (a b : ℕ) (i j : Input)
      → Shows i.types i.struct_names.names shape a → Shows j.types j.struct_names.names shape b → At s Any (again_over inner a) (again_over inner b) i j
  again_over_at inner each (Integer bits) a b i j h g = looks_known s (type_at a) (type_at b) (again_by inner) (again_by inner) i j _ _ h g (integer_same bits i j)
  again_over_at inner each (Float size.Single) a b i j h g = looks_known s (type_at a) (type_at b) (again_by inner) (again_by inner) i j _ _ h g (float_again_same size.Single i j)
  again_over_at inner each (Float size.Double) a b i j h g = looks_known s (type_at a) (type_at b) (again_by inner) (again_by inner) i j _ _ h g (float_again_same size.Double i j)
  again_over_at inner each (Named name) a b i j h g =
      looks_known s (type_at a) (type_at b) (again_by inner) (again_by inner) i j (Some (type.Named h.0)) (Some (type.Named g.0)) h.1 g.1 (name_again_at name h.0 g.0 i j h.2 g.2)
  again_over_at inner each (Pointer part) a b i j h g =
      looks_known s (type_at a) (type_at b) (again_by inner) (again_by inner) i j (Some (type.Pointer h.0)) (Some (type.Pointer g.0)) h.1 g.1
      (past s (each part h.0 g.0 i j h.2 g.2) (expect_same s k.Star))
  again_over_at inner each Opaque a b i j h g = looks_known s (type_at a) (type_at b) (again_by inner) (again_by inner) i j _ _ h g (opens k.Ptr i j)
  again_over_at inner each (Array count part) a b i j h g =
      looks_known s (type_at a) (type_at b) (again_by inner) (again_by inner) i j (Some (type.Array count h.0)) (Some (type.Array count g.0)) h.1 g.1
      (array_again_at inner each count part h.0 g.0 i j h.2 g.2)
  again_over_at inner each Empty a b i j h g =
      looks_known s (type_at a) (type_at b) (again_by inner) (again_by inner) i j _ _ h g (both s (opens k.OpenBrace) (expect_same s k.CloseBrace) i j)
  again_over_at inner each (Struct first rest) a b i j h g =
      looks_known s (type_at a) (type_at b) (again_by inner) (again_by inner) i j (Some (type.Struct h.0 h.1)) (Some (type.Struct g.0 g.1)) h.2 g.2
      (then s (then s (opens k.OpenBrace i j) (λ _ _ i1 j1 _ x1 y1. each first h.0 g.0 i1 j1 (shows_later i i1 first h.0 x1 h.3) (shows_later j j1 first g.0 y1 g.3))) (λ _ _ i2 j2 _ x2 y2.
      looks_known s left left (λ most. fields_again inner (suc most) h.1) (λ most. fields_again inner (suc most) g.1) i2 j2 (left i2) (left j2) refl refl
      (fields_again_at inner each rest (suc (left i2)) (suc (left j2)) h.1 g.1 i2 j2 (shows_later i i2 rest h.1 x2 h.4) (shows_later j j2 rest g.1 y2 g.4) (omega arith))))

  within_at : (levels : ℕ) → Inner (again_within levels)
  unfolding again_within
  within_at zero shape a b i j h g = refuses s unexpected i j
  within_at (suc room) shape a b i j h g = past s (again_over_at (again_within room) (within_at room) shape a b i j h g) (no_parameters_same s)

  pub again_at : (w u : WrittenType) (i j : Input) → SameType i j w.id u.id → At s Any (again w) (again u) i j
  unfolding again
  again_at w u i j h = within_at 64 h.0 w.id u.id i j h.1 h.2

  -- ---- a pointer to a type that is written before it

  star_again : (room other : ℕ) → room ≡ other → Both s Any (further_star room) (further_star other)
  star_again room other same i j =
      past s (past s (seen s k.Star i j) (λ i j. tested s (λ _. nat_lt 0 room) (λ _. nat_lt 0 other) limit limit i j (λ b e. sym (ap (λ (n : ℕ). nat_lt 0 n) same) ∙ e))) (skip_same s)

  pub pointer_again_at : (w u : WrittenType) (i j : Input) → Written i j w u → At s Any (pointer_again w) (pointer_again u) i j
  unfolding pointer_again
  pointer_again_at w u i j h =
      looks s (λ i. sees k.Ptr i.cursor) (λ i. sees k.Ptr i.cursor) (opaque_or opaque_type (starred_again w)) (opaque_or opaque_type (starred_again u)) i j (λ b. sees_same s k.Ptr i.cursor j.cursor b.along) which where
        which : (t : Bool) → At s Any (opaque_or opaque_type (starred_again w) t) (opaque_or opaque_type (starred_again u) t) i j
        which true = so s {V = SameType} (λ o p a b v. tt) (opaque_at s i j)
        which false =
            looks_any s (λ i. start i.cursor) (λ i. start i.cursor) (λ start. again w >> further_star w.room >> intern_pointer start (type.Pointer w.id)) (λ start. again u >> further_star u.room >> intern_pointer start (type.Pointer u.id)) i j
            (λ from there. past s (past s (again_at w u i j h.3) (star_again w.room u.room h.2)) (λ i j. so s (λ o p a b v. tt) (pointer_at s (type.Pointer w.id) (type.Pointer u.id) from there i j)))
