-- Types are read alike in both, each with its own numbers in each table.
use Rattle.std.proofs.Common.{◌≡◌, ℕ, zero, suc, ◌-◌, Bool, true, false, not, List, [], ◌∷◌, inl, Option, None, Some, refl, sym, ap, ap₂, subst, ◌∙◌}
use Rattle.std.specs.Prelude.{nat_lt, nat_le, ◌&&◌, min, slice_get, is_some, unwrap_or}
use Rattle.grammar.specs.Grammar.{pure, refuse, look, ◌>>=◌, ◌>>◌}
use Rattle.ir_ast.specs.Names.{place_of}
use Rattle.ir_ast.specs.declared.ir_type.IrType.{IrType}
use Rattle.ir_ast.specs.declared.ir_type.IrType.TheVariants as type
use Rattle.ir_tokens.specs.Bytes.{Text}
use Rattle.ir_tokens.specs.declared.token.Kind.{Kind}
use Rattle.ir_tokens.specs.declared.token.Kind.TheVariants as k
use Rattle.ir_forms.specs.Cursor.{kind, sees, start, name, left_out}
use Rattle.ir_forms.specs.Number.{decimal, natural}
use Rattle.ir_forms.specs.declared.fault.Fault.{Fault}
use Rattle.ir_forms.specs.declared.fault.Fault.TheVariants.{OutOfRange, OtherPointer}
use Rattle.ir_forms.specs.declared.input.Input.{Input}
use Rattle.ir_forms.specs.declared.written.Base.{Base}
use Rattle.ir_forms.specs.declared.written.Base.TheVariants as base
use Rattle.ir_forms.specs.declared.written.WrittenType.{WrittenType}
use Rattle.ir_forms.specs.Input.{limit, unexpected, unread, skip}
use Rattle.ir_forms.specs.Written.{float_entry, float_base, float_here, float_by, float_written, float_scalar, integer_scalar, is_float, place_in_table, with_type_interned, with_type_interned_falls, intern, is_second_kind, interned_pointer, intern_pointer, opaque_type, bits_at, has_bits, integer, Firm, begins_unread_type, part_of, interned, length_at, has_length, array_length, array_after, at_brace, comma_or, after_field, field, field_takes, before, struct_of, fields_afterwards, base_by, at_star, star_or, pointers, stars_after, starred, no_parameters, with_stars, no_type, over, firm, type_within, is_pointer, is_scalar, word_of, is_passed, then_allowed, type_that, any_type, scalar_within, scalar, passed_type, pointer_type, result_stars, type_before, word_before, result_by, result_type}
use Rattle.ir_forms.specs.Written as written
use Rattle.ir_forms.specs.declared.written.FloatType.{FloatType}
use Rattle.ir_print_law.proofs.Tables.{type_begins, type_there, begins_itself, stays, place_stays}
use Rattle.ir_print_law.specs.Shapes.{Shape, Integer, Float, Pointer, Array, Empty, Struct, Named, Opaque}
use Rattle.ir_print_law.proofs.Seats.{Seat, Beside, Grown, grown_further, name_same, spelling_same, sees_same}
use Rattle.ir_print_law.proofs.Sim.{Between, Equal, Pointwise, At, Both, Same, past, both, by, then, give, gives, refuses, excused, tested, so, looks, looks_any, tells, kinds, lists_of}
use Rattle.ir_print_law.proofs.AnewSteps.{steps, takes, skip_same, expect_same, rule, seen}
use Rattle.ir_print_law.proofs.Names.{struct_name_at}

-- ---- types of one shape

-- the type with this number has this shape in a table of types, where names of structs have numbers
abbrev pub Shows : (types : List IrType) → (names : List Text) → Shape → (number : ℕ) → Type 0
Shows types names (Integer bits) number = slice_get types number ≡ Some (type.Integer bits)
Shows types names (Float t) number = slice_get types number ≡ Some (float_entry t)
Shows types names (Pointer part) number = (p : ℕ) × (slice_get types number ≡ Some (type.Pointer p)) × Shows types names part p
Shows types names (Array count part) number = (p : ℕ) × (slice_get types number ≡ Some (type.Array count p)) × Shows types names part p
Shows types names Empty number = slice_get types number ≡ Some type.EmptyStruct
Shows types names (Struct first rest) number =
    (f : ℕ) × (r : ℕ) × (slice_get types number ≡ Some (type.Struct f r)) × Shows types names first f × Shows types names rest r
Shows types names (Named name) number = (n : ℕ) × (slice_get types number ≡ Some (type.Named n)) × (place_of name names ≡ Some n)
Shows types names Opaque number = slice_get types number ≡ Some type.Opaque

-- both numbers are those of types of one shape
abbrev pub SameType : Between ℕ ℕ
SameType o p a b = (shape : Shape) × Shows o.types o.struct_names.names shape a × Shows p.types p.struct_names.names shape b

-- a shape stays where the tables grow
pub shows_later : (i o : Input) (shape : Shape) (n : ℕ) → Grown i o → Shows i.types i.struct_names.names shape n → Shows o.types o.struct_names.names shape n
shows_later i o (Integer bits) n g h = stays i.types o.types n _ g.0 h
shows_later i o (Float t) n g h = stays i.types o.types n _ g.0 h
shows_later i o (Pointer part) n g h = (h.0, stays i.types o.types n _ g.0 h.1, shows_later i o part h.0 g h.2)
shows_later i o (Array count part) n g h = (h.0, stays i.types o.types n _ g.0 h.1, shows_later i o part h.0 g h.2)
shows_later i o Empty n g h = stays i.types o.types n _ g.0 h
shows_later i o (Struct first rest) n g h = (h.0, h.1, stays i.types o.types n _ g.0 h.2, shows_later i o first h.0 g h.3, shows_later i o rest h.1 g h.4)
shows_later i o (Named name) n g h = (h.0, stays i.types o.types n _ g.0 h.1, place_stays name i.struct_names.names o.struct_names.names h.0 g.1 h.2)
shows_later i o Opaque n g h = stays i.types o.types n _ g.0 h

pub type_later : (i j o p : Input) (a b : ℕ) → Grown i o → Grown j p → SameType i j a b → SameType o p a b
type_later i j o p a b x y h = (h.0, shows_later i o h.0 a x h.1, shows_later j p h.0 b y h.2)

-- two written types of one shape, which look alike
abbrev pub Written : Between WrittenType WrittenType
Written o p w u = (w.base ≡ u.base) × (w.stars ≡ u.stars) × (w.room ≡ u.room) × SameType o p w.id u.id

pub written_later : (i j o p : Input) (w u : WrittenType) → Grown i o → Grown j p → Written i j w u → Written o p w u
written_later i j o p w u x y h = (h.0, h.1, h.2, type_later i j o p w.id u.id x y h.3)

all_later : (i j o p : Input) (ws us : List WrittenType) → Grown i o → Grown j p → Pointwise Written i j ws us → Pointwise Written o p ws us
all_later i j o p [] [] x y h = tt
all_later i j o p (w ∷ ws) (u ∷ us) x y h = (written_later i j o p w u x y h.0, all_later i j o p ws us x y h.1)
all_later i j o p [] (u ∷ us) x y h = absurd h
all_later i j o p (w ∷ ws) [] x y h = absurd h

-- what depends on the base and the stars alone is the same of both
pub looks_same : {X : Type 0} (g : Base → ℕ → X) (w u : WrittenType) → w.base ≡ u.base → w.stars ≡ u.stars → g w.base w.stars ≡ g u.base u.stars
looks_same g w u b n = ap₂ g b n

pub bits_same : (o p : Input) (w u : WrittenType) → Written o p w u → word_of w ≡ word_of u
bits_same o p w u h = ap₂ (λ (b : Base) (n : ℕ). word_of (record { base = b; stars = n; id = 0; room = 0 })) h.0 h.1

module _ (s : Seat) where
  -- ---- the table of types

  -- these types are at these numbers
  abbrev Interned : IrType → IrType → Between ℕ ℕ
  Interned t u o p a b = (slice_get o.types a ≡ Some t) × (slice_get p.types b ≡ Some u)

  pub intern_at : (t u : IrType) → Both s (Interned t u) (intern t) (intern u)
  unfolding intern
  intern_at t u i j = past s (excused s (λ i. nat_lt (place_in_table t i) 4294967296) (λ i. nat_lt (place_in_table u i) 4294967296) limit limit i j tt)
      (λ i j. steps s {V = Interned t u} (place_in_table t) (place_in_table u) (with_type_interned t) (with_type_interned u) (with_type_interned_falls t) (with_type_interned_falls u) i j
      (λ b. (
        inl b.along,
        b.own,
        b.symbols,
        b.structs,
        b.missing,
        b.functions,
        b.forms,
        (type_begins t i.types, begins_itself i.struct_names.names, begins_itself i.symbols.names, begins_itself i.struct_names.sorts),
        (type_begins u j.types, begins_itself j.struct_names.names, begins_itself j.symbols.names, begins_itself j.struct_names.sorts),
      )) (λ b. (type_there t i.types, type_there u j.types)))

  interned_later : (t u : IrType) (i j o p : Input) (a b : ℕ) → Grown i o → Grown j p → Interned t u i j a b → Interned t u o p a b
  interned_later t u i j o p a b x y h = (stays i.types o.types a t x.0 h.0, stays j.types p.types b u y.0 h.1)

  -- a pointer of another kind is an excuse
  interned_pointer_at : (t u : IrType) (from there : ℕ) (other further : Bool) → Both s (Interned t u) (interned_pointer from t other) (interned_pointer there u further)
  interned_pointer_at t u from there other further i j =
      then s (intern_at t u i j) (λ a b m q v x y.
      then s (excused s (λ _. not other) (λ _. not further) (λ _. OtherPointer from) (λ _. OtherPointer there) m q tt) (λ _ _ n r _ z e.
      give s {V = Interned t u} a b (interned_later t u m q n r a b z e v)))

  pub pointer_at : (t u : IrType) (from there : ℕ) → Both s (Interned t u) (intern_pointer from t) (intern_pointer there u)
  unfolding intern_pointer
  pointer_at t u from there i j = looks_any s (is_second_kind t) (is_second_kind u) (interned_pointer from t) (interned_pointer there u) i j (λ x y. interned_pointer_at t u from there x y i j)

  pub opaque_at : Both s SameType opaque_type opaque_type
  unfolding opaque_type
  opaque_at i j = looks_any s (λ i. start i.cursor) (λ i. start i.cursor) (λ start. skip >> intern_pointer start type.Opaque) (λ start. skip >> intern_pointer start type.Opaque) i j
      (λ from there. past s (skip_same s i j) (λ i j. so s {V = Interned type.Opaque type.Opaque} (λ o p a b v. (Opaque, v.0, v.1)) (pointer_at type.Opaque type.Opaque from there i j)))

  -- ---- types inside of types

  pub bits_at_same : (i j : Input) → Beside s i j → bits_at i ≡ bits_at j
  unfolding bits_at
  bits_at_same i j b = ap decimal (name_same s i.cursor j.cursor b.along)

  pub length_at_same : (i j : Input) → Beside s i j → length_at i ≡ length_at j
  unfolding length_at
  length_at_same i j b = ap natural (spelling_same s i.cursor j.cursor b.along)

  pub has_length_same : Same s has_length
  has_length_same = rule s (λ i. is_some (length_at i)) (λ i. OutOfRange (start i.cursor)) (λ i j b. ap (λ (n : Option ℕ). is_some n) (length_at_same i j b))

  pub brace_same : (i j : Input) → Beside s i j → at_brace i ≡ at_brace j
  brace_same i j b = sees_same s k.CloseBrace i.cursor j.cursor b.along

  star_same : (i j : Input) → Beside s i j → at_star i ≡ at_star j
  star_same i j b = sees_same s k.Star i.cursor j.cursor b.along

  pub has_bits_same : Same s has_bits
  has_bits_same = rule s (λ i. nat_le 1 (bits_at i) && nat_le (bits_at i) 64) (λ i. OutOfRange (start i.cursor))
      (λ i j b. ap (λ (n : ℕ). nat_le 1 n && nat_le n 64) (bits_at_same i j b))

  integer_at : Both s Equal integer integer
  unfolding integer
  integer_at i j = past s (has_bits_same i j) (λ i j. takes s {V = Equal} bits_at bits_at i j (bits_at_same i j))

  array_length_at : Both s Equal array_length array_length
  unfolding array_length
  array_length_at i j = past s (past s (seen s k.Number i j) has_length_same)
      (λ i j. takes s {V = Equal} (λ i. unwrap_or (length_at i) 0) (λ i. unwrap_or (length_at i) 0) i j (λ b. ap (λ (n : Option ℕ). unwrap_or n 0) (length_at_same i j b)))

  -- these types have one shape, where they are in the tables
  abbrev Makes : Input → Input → IrType → IrType → Type 0
  Makes i j t u = (o p : Input) (a b : ℕ) → Grown i o → Grown j p → Interned t u o p a b → SameType o p a b

  interned_at : (x : Base) (room other : ℕ) (t u : IrType) (i j : Input) → room ≡ other → Makes i j t u → At s Written (interned x room t) (interned x other u) i j
  interned_at x room other t u i j same make =
      then s (intern_at t u i j) (λ a b m q v g h. give s {V = Written} (part_of x room a) (part_of x other b) (refl, refl, same, make m q a b g h v))

  array_after_at : (inner : Firm) → Both s Written inner.form inner.form → Both s Written (array_after inner) (array_after inner)
  array_after_at inner each i j =
      by s (array_length_at i j) (λ n i j.
      past s (expect_same s k.X i j) (λ i j.
      then s (each i j) (λ v u m q h x y.
      then s (expect_same s k.CloseSquare m q) (λ _ _ n2 r _ z e.
      interned_at base.Aggregate v.room u.room (type.Array n v.id) (type.Array n u.id) n2 r h.2 (λ o p a b g f at.
      let shape = type_later m q o p v.id u.id (grown_further m n2 o z g) (grown_further q r p e f) h.3 in
      (Array n shape.0, (v.id, at.0, shape.1), (u.id, at.1, shape.2)))))))

  -- ---- structs

  after_field_same : Same s after_field
  unfolding after_field
  after_field_same = tells s at_brace comma_or brace_same which where
    which : (t : Bool) → Same s (comma_or t)
    which true = gives s {A = Unit {0}} {B = Unit {0}} tt tt
    which false = both s (expect_same s k.Comma) (rule s (λ i. not (at_brace i)) unexpected (λ i j b. ap not (brace_same i j b)))

  field_at : (inner : Firm) → Both s Written inner.form inner.form → Both s Written (field inner) (field inner)
  field_at inner each i j = then s (each i j) (λ v u m q h x y. then s (after_field_same m q) (λ _ _ n r _ z e. give s {V = Written} v u (written_later m q n r v u z e h)))

  before_at : (ws us : List WrittenType) (v u : WrittenType) (i j : Input) → Pointwise Written i j ws us → Written i j v u → At s Written (before ws v) (before us u) i j
  unfolding before
  before_at [] [] v u i j h own = give s {V = Written} v u own
  before_at (w ∷ ws) (x ∷ us) v u i j h own =
      then s (before_at ws us v u i j h.1 own) (λ a b m q r g f.
      let first = written_later i j m q w x g f h.0 in
      interned_at base.Aggregate (min w.room a.room) (min x.room b.room) (type.Struct w.id a.id) (type.Struct x.id b.id) m q (ap₂ min first.2 r.2) (λ o p c d y z at.
      let one = type_later m q o p w.id x.id y z first.3 in
      let rest = type_later m q o p a.id b.id y z r.3 in
      (Struct one.0 rest.0, (w.id, a.id, at.0, one.1, rest.1), (x.id, b.id, at.1, one.2, rest.2))))
  before_at [] (x ∷ us) v u i j h own = absurd h
  before_at (w ∷ ws) [] v u i j h own = absurd h

  fields_at : (room : ℕ) (inner : Firm) → Both s Written inner.form inner.form → Both s Written (fields_afterwards room inner) (fields_afterwards room inner)
  unfolding struct_of
  fields_at room inner each i j =
      then s (lists_of s Written at_brace (field inner) (field_takes inner) written_later brace_same (field_at inner each) i j) (λ ws us m q h x y.
      then s (expect_same s k.CloseBrace m q) (λ _ _ n r _ z e.
      then s (interned_at base.Aggregate room room type.EmptyStruct type.EmptyStruct n r refl (λ o p a b g f at. (Empty, at.0, at.1))) (λ a b c d own g f.
      before_at ws us a b c d (all_later n r c d ws us g f (all_later m q n r ws us z e h)) own)))

  -- ---- before the stars

  -- the type of floating point numbers that is here
  pub float_here_same : (i j : Input) → Beside s i j → float_here i ≡ float_here j
  unfolding float_here
  float_here_same i j b = rw (b.forms, sees_same s k.LeftOut i.cursor j.cursor b.along, spelling_same s i.cursor j.cursor b.along) refl

  float_by_at : (room : ℕ) (t : Option FloatType) → Both s Written (float_by room t) (float_by room t)
  float_by_at room None i j = refuses s (unread begins_unread_type) i j
  float_by_at room (Some t) i j = past s (skip_same s i j) (λ i j. interned_at (float_base t) room room (float_entry t) (float_entry t) i j refl (λ o p a b g f at. (Float t, at.0, at.1)))

  float_at : (room : ℕ) → Both s Written (float_written room) (float_written room)
  float_at room i j = looks s float_here float_here (float_by room) (float_by room) i j (λ beside. float_here_same i j beside) (λ t. float_by_at room t i j)

  base_by_at : (room : ℕ) (inner : Firm) → Both s Written inner.form inner.form → (x : Kind) → Both s Written (base_by room inner x) (base_by room inner x)
  base_by_at room inner each k.IntegerType i j =
      by s (integer_at i j) (λ bits i j. interned_at (base.Integer bits) room room (type.Integer bits) (type.Integer bits) i j refl (λ o p a b g f at. (Integer bits, at.0, at.1)))
  base_by_at room inner each k.LocalName i j =
      then s (struct_name_at s i j) (λ a b m q h x y.
      interned_at base.Named room room (type.Named a) (type.Named b) m q refl (λ o p c d g f at. (
        Named h.0,
        (a, at.0, place_stays h.0 m.struct_names.names o.struct_names.names a g.1 h.1),
        (b, at.1, place_stays h.0 q.struct_names.names p.struct_names.names b f.1 h.2),
      )))
  base_by_at room inner each k.OpenSquare i j = past s (skip_same s i j) (array_after_at inner each)
  base_by_at room inner each k.OpenBrace i j = past s (skip_same s i j) (fields_at room inner each)
  base_by_at room inner each k.Ptr i j = then s (opaque_at i j) (λ a b m q h x y. give s {V = Written} (part_of base.Opaque room a) (part_of base.Opaque room b) (refl, refl, refl, h))
  base_by_at room inner each k.LeftOut i j = float_at room i j
  base_by_at room inner each k.Void i j = refuses s _ i j
  base_by_at room inner each _ i j = refuses s (unread begins_unread_type) i j

  -- ---- stars

  abbrev Found : Between (ℕ × ℕ) (ℕ × ℕ)
  Found o p a b = (a.0 ≡ b.0) × SameType o p a.1 b.1

  stars_at : (from there room a b : ℕ) (i j : Input) → SameType i j a b → At s Found (pointers from room a) (pointers there room b) i j
  unfolding pointers
  stars_at from there zero a b i j h = looks s at_star at_star (star_or (refuse limit) (pure (0, a))) (star_or (refuse limit) (pure (0, b))) i j (λ beside. star_same i j beside) which where
    which : (t : Bool) → At s Found (star_or (refuse limit) (pure (0, a)) t) (star_or (refuse limit) (pure (0, b)) t) i j
    which true = refuses s limit i j
    which false = give s {V = Found} (0, a) (0, b) (refl, h)
  stars_at from there (suc room) a b i j h =
      looks s at_star at_star (star_or (skip >> intern_pointer from (type.Pointer a) >>= pointers from room) (pure (suc room, a))) (star_or (skip >> intern_pointer there (type.Pointer b) >>= pointers there room) (pure (suc room, b)))
      i j (λ beside. star_same i j beside) (which (λ c d m q. stars_at from there room c d m q)) where
        which : ((c d : ℕ) (m q : Input) → SameType m q c d → At s Found (pointers from room c) (pointers there room d) m q) → (t : Bool)
            → At s Found (star_or (skip >> intern_pointer from (type.Pointer a) >>= pointers from room) (pure (suc room, a)) t) (star_or (skip >> intern_pointer there (type.Pointer b) >>= pointers there room) (pure (suc room, b)) t) i j
        which further true =
            then s (past s (skip_same s i j) (pointer_at (type.Pointer a) (type.Pointer b) from there)) (λ c d m q v x y.
            let part = type_later i j m q a b x y h in
            further c d m q (Pointer part.0, (a, v.0, part.1), (b, v.1, part.2)))
        which further false = give s {V = Found} (suc room, a) (suc room, b) (refl, h)

  after_by : (from there : ℕ) (w u : WrittenType) (x : Base) (i j : Input) → w.room ≡ u.room → SameType i j w.id u.id → At s Found (stars_after from w x) (stars_after there u x) i j
  after_by from there w u base.Opaque i j same h = give s {V = Found} (w.room, w.id) (u.room, u.id) (same, h)
  after_by from there w u (base.Integer bits) i j same h = subst (λ (room : ℕ). At s Found (pointers from w.room w.id) (pointers there room u.id) i j) same (stars_at from there w.room w.id u.id i j h)
  after_by from there w u base.Float i j same h = subst (λ (room : ℕ). At s Found (pointers from w.room w.id) (pointers there room u.id) i j) same (stars_at from there w.room w.id u.id i j h)
  after_by from there w u base.Double i j same h = subst (λ (room : ℕ). At s Found (pointers from w.room w.id) (pointers there room u.id) i j) same (stars_at from there w.room w.id u.id i j h)
  after_by from there w u base.Named i j same h = subst (λ (room : ℕ). At s Found (pointers from w.room w.id) (pointers there room u.id) i j) same (stars_at from there w.room w.id u.id i j h)
  after_by from there w u base.Aggregate i j same h = subst (λ (room : ℕ). At s Found (pointers from w.room w.id) (pointers there room u.id) i j) same (stars_at from there w.room w.id u.id i j h)

  pub no_parameters_same : Same s no_parameters
  no_parameters_same = rule s (λ i. not (sees k.OpenRound i.cursor)) (λ i. left_out i.cursor) (λ i j b. ap not (sees_same s k.OpenRound i.cursor j.cursor b.along))

  starred_at : (from there : ℕ) (v u : WrittenType) (i j : Input) → Written i j v u → At s Written (starred from v) (starred there u) i j
  unfolding starred
  starred_at from there v u i j h =
      then s (subst (λ (x : Base). At s Found (stars_after from v v.base) (stars_after there u x) i j) h.0 (after_by from there v u v.base i j h.2 h.3)) (λ f g m q found x y.
      then s (no_parameters_same m q) (λ _ _ n r _ z e.
      give s {V = Written} (with_stars v f) (with_stars u g) (h.0, ap₂ (λ (a b : ℕ). a - b) h.2 found.0, found.0, type_later m q n r f.1 g.1 z e found.1)))

  -- ---- a type

  base_at : (room : ℕ) (inner : Firm) → Both s Written inner.form inner.form → Both s Written (written.base room inner) (written.base room inner)
  base_at room inner each i j = kinds s (base_by room inner) (base_by room inner) i j (λ x. base_by_at room inner each x i j)

  over_at : (room : ℕ) (inner : Firm) → Both s Written inner.form inner.form → Both s Written (over room inner) (over room inner)
  over_at room inner each i j =
      looks_any s (λ i. start i.cursor) (λ i. start i.cursor) (λ start. look (λ i. kind i.cursor) (base_by room inner) >>= starred start) (λ start. look (λ i. kind i.cursor) (base_by room inner) >>= starred start) i j
      (λ from there. then s (base_at room inner each i j) (λ v u m q h x y. starred_at from there v u m q h))

  firm_at : (levels : ℕ) → Both s Written (firm levels).form (firm levels).form
  unfolding firm no_type
  firm_at zero i j = refuses s _ i j
  firm_at (suc room) i j = over_at room (firm room) (firm_at room) i j

  type_at : (room : ℕ) → Both s Written (type_within room) (type_within room)
  unfolding type_within
  type_at room = firm_at (suc room)

  pub any_type_at : Both s Written any_type any_type
  unfolding any_type
  any_type_at = type_at 63

  -- types that are allowed alike where they look alike
  abbrev IsByLooks : (WrittenType → Bool) → Type 0
  IsByLooks may_stand = (w u : WrittenType) → w.base ≡ u.base → w.stars ≡ u.stars → may_stand w ≡ may_stand u

  then_allowed_at : (may_stand : WrittenType → Bool) → IsByLooks may_stand → (fault other : Fault) (w u : WrittenType) (i j : Input) → Written i j w u
      → At s Written (then_allowed may_stand w fault) (then_allowed may_stand u other) i j
  then_allowed_at may_stand looks fault other w u i j h =
      then s (tested s (λ _. may_stand w) (λ _. may_stand u) _ _ i j (λ b e. sym (looks w u h.0 h.1) ∙ e)) (λ _ _ n r _ z e. give s {V = Written} w u (written_later i j n r w u z e h))

  type_that_at : (may_stand : WrittenType → Bool) → IsByLooks may_stand → (room : ℕ) → Both s Written (type_that may_stand room) (type_that may_stand room)
  type_that_at may_stand looks room i j =
      looks_any s (λ i. left_out i.cursor) (λ i. left_out i.cursor) (λ fault. type_within room >>= λ w. then_allowed may_stand w fault) (λ fault. type_within room >>= λ w. then_allowed may_stand w fault) i j
      (λ fault other. then s (type_at room i j) (λ w u m q h x y. then_allowed_at may_stand looks fault other w u m q h))

  scalar_looks : IsByLooks is_scalar
  scalar_looks w u b n = ap₂ (λ (x : Base) (k : ℕ). is_scalar (record { base = x; stars = k; id = 0; room = 0 })) b n

  passed_looks : IsByLooks is_passed
  passed_looks w u b n = ap₂ (λ (x : Base) (k : ℕ). is_passed (record { base = x; stars = k; id = 0; room = 0 })) b n

  pub scalar_at : Both s Written scalar scalar
  unfolding scalar scalar_within
  scalar_at = type_that_at is_scalar scalar_looks 63

  -- types of floating point numbers, and others, look alike
  is_float_same : (w u : WrittenType) → w.base ≡ u.base → w.stars ≡ u.stars → is_float w ≡ is_float u
  is_float_same w u b n = ap₂ (λ (x : Base) (k : ℕ). is_float (record { base = x; stars = k; id = 0; room = 0 })) b n

  pub float_scalar_at : Both s Written float_scalar float_scalar
  unfolding float_scalar
  float_scalar_at i j = then s (scalar_at i j) (λ w u m q h x y.
      then s (tested s (λ _. is_float w) (λ _. is_float u) unexpected unexpected m q (λ b e. sym (is_float_same w u h.0 h.1) ∙ e))
      (λ _ _ n r _ z e. give s {V = Written} w u (written_later m q n r w u z e h)))

  pub integer_scalar_at : Both s Written integer_scalar integer_scalar
  unfolding integer_scalar
  integer_scalar_at i j = then s (scalar_at i j) (λ w u m q h x y.
      then s (tested s (λ _. not (is_float w)) (λ _. not (is_float u)) unexpected unexpected m q (λ b e. ap not (sym (is_float_same w u h.0 h.1)) ∙ e))
      (λ _ _ n r _ z e. give s {V = Written} w u (written_later m q n r w u z e h)))

  pub passed_at : Both s Written passed_type passed_type
  unfolding passed_type
  passed_at = type_that_at is_passed passed_looks 63

  pub pointer_type_at : Both s Written pointer_type pointer_type
  unfolding pointer_type
  pointer_type_at i j = then s (any_type_at i j) (λ w u m q h x y.
      then s (tested s (λ _. is_pointer w) (λ _. is_pointer u) unexpected unexpected m q (λ b e. sym (ap₂ (λ (x : Base) (k : ℕ). is_pointer (record { base = x; stars = k; id = 0; room = 0 })) h.0 h.1) ∙ e))
      (λ _ _ n r _ z e. give s {V = Written} w u (written_later m q n r w u z e h)))

  -- ---- the type of a call's result

  result_stars_at : (from there : ℕ) (v u : WrittenType) (i j : Input) → Written i j v u → At s Written (result_stars from v) (result_stars there u) i j
  result_stars_at from there v u i j h =
      then s (subst (λ (x : Base). At s Found (stars_after from v v.base) (stars_after there u x) i j) h.0 (after_by from there v u v.base i j h.2 h.3)) (λ f g m q found x y.
      give s {V = Written} (with_stars v f) (with_stars u g) (h.0, ap₂ (λ (a b : ℕ). a - b) h.2 found.0, found.0, found.1))

  type_before_at : Both s Written type_before type_before
  unfolding type_before
  type_before_at i j =
      looks_any s (λ i. start i.cursor) (λ i. start i.cursor) (λ start. written.base 63 (firm 63) >>= result_stars start) (λ start. written.base 63 (firm 63) >>= result_stars start) i j
      (λ from there. then s (base_at 63 (firm 63) (firm_at 63) i j) (λ v u m q h x y. result_stars_at from there v u m q h))

  word_before_at : (fault other : Fault) → Both s Written (word_before fault) (word_before other)
  word_before_at fault other i j = then s (type_before_at i j) (λ w u m q h x y. then_allowed_at is_scalar scalar_looks fault other w u m q h)

  result_by_at : (wide : Bool) → Both s Written (result_by wide) (result_by wide)
  result_by_at true i j = looks_any s (λ i. left_out i.cursor) (λ i. left_out i.cursor) word_before word_before i j (λ fault other. word_before_at fault other i j)
  result_by_at false i j = scalar_at i j

  -- the type of a call's result
  pub result_type_at : Both s Written result_type result_type
  unfolding result_type
  result_type_at i j = looks s (λ i. i.wide) (λ i. i.wide) result_by result_by i j (λ beside. beside.forms) (λ t. result_by_at t i j)
