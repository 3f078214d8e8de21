-- A type that is read has a shape.
use Rattle.std.proofs.Common.{◌≡◌, ℕ, zero, suc, ◌+◌, ◌<◌, ◌≤◌, ◌^◌, Bool, true, false, List, [], ◌∷◌, length, if◌then◌else◌, Option, None, Some, unwrap_or, refl, sym, ap, subst, ◌∙◌, arith}
use Rattle.std.specs.Prelude.{nat_lt, nat_le, max, min, ◌&&◌, ◌==◌, option_and_then}
use Rattle.std.specs.List.{AllByRecursion}
use Rattle.std.proofs.lemmas.Bool.Decides.{nat_tests}
use Rattle.lemmas.specs.All.{all_so}
use Rattle.lemmas.specs.Bools.{and_parts}
use Rattle.grammar.specs.Grammar.{pure, refuse, step, ◌>>=◌, ◌>>◌}
use Rattle.grammar.specs.Many.{Listed}
use Rattle.ir_ast.specs.declared.ir_type.IrType.{IrType}
use Rattle.ir_ast.specs.declared.ir_type.IrType.TheVariants as type
use Rattle.ir_ast.specs.declared.module.Module.{Module}
use Rattle.ir_tokens.specs.declared.token.Kind.{Kind}
use Rattle.ir_tokens.specs.declared.token.Kind.TheVariants as k
use Rattle.ir_forms.specs.declared.fault.Fault.TheVariants.{OutOfRange}
use Rattle.ir_forms.specs.Cursor.{start, kind, sees, spelling}
use Rattle.ir_forms.specs.Number as numbers
use Rattle.ir_forms.specs.declared.input.Input.{Input}
use Rattle.ir_forms.specs.declared.written.Base.{Base}
use Rattle.ir_forms.specs.declared.written.Base.TheVariants as base
use Rattle.ir_forms.specs.declared.written.WrittenType.{WrittenType}
use Rattle.ir_forms.specs.declared.written.FloatType.{FloatType}
use Rattle.ir_forms.specs.declared.written.FloatType.TheVariants as size
use Rattle.ir_forms.specs.Input.{limit, advanced, advanced_falls, skip}
use Rattle.ir_forms.specs.Names.{struct_name}
use Rattle.ir_forms.specs.Written as w
use Rattle.ir_forms.specs.Written.{has_opaque, intern_pointer, opaque_type, stars_after, part_of, integer, bits_at, length_at, array_length, pointers, star_or, at_star, at_brace, comma_or, after_field, field, field_takes, before, struct_of, starred as with_starred, with_stars, interned, part, firm, Firm, no_type, result_stars, type_before}
use Rattle.ir_print_law.specs.Definitions.{defined_structs}
use Rattle.ir_print_law.specs.Shapes.{Shape, Integer, Float, Pointer, Array, Empty, Struct, Named, Opaque, HasShape, IsWritten, IsStruct, levels}
use Rattle.ir_print_law.proofs.Forms.{Keeps, Same, Any, stepped, where_true, all, each}
use Rattle.ir_print_law.proofs.Looks.{starred, base_of, stars_of, IsTypeOf, IsShaped, starred_levels, starred_base, starred_stars}
use Rattle.ir_print_law.proofs.Reading.{Reading}
use Rattle.ir_print_law.proofs.Tokens.{IsAt, IsInterned, Has, having, skip_keeps, expect_keeps, pointer_goes, interned_keeps, struct_name_keeps}

-- a number of bits that an integer type may have
abbrev AreBits : ℕ → Type 0
AreBits bits = (1 ≤ bits) × (bits ≤ 64)

-- what stars make of a type
abbrev IsStarred : Module → (room pointee : ℕ) → ℕ × ℕ → Type 0
IsStarred m room pointee found =
    (shape : Shape) → HasShape m.types m.struct_names shape pointee → IsWritten m.wide (has_opaque m.types) (defined_structs m) shape
    → (count : ℕ) × (found.0 + count ≡ room) × HasShape m.types m.struct_names (starred count shape) found.1 × IsWritten m.wide (has_opaque m.types) (defined_structs m) (starred count shape)

-- a type without stars
abbrev pub IsBare : Module → (most : ℕ) → WrittenType → Type 0
IsBare m most p = (shape : Shape) × IsTypeOf m most p shape × (p.stars ≡ 0)

-- a struct without stars, with room for `most` levels in all
abbrev pub IsWhole : Module → (most : ℕ) → WrittenType → Type 0
IsWhole m most p = (shape : Shape) × IsTypeOf m most p shape × (p.stars ≡ 0) × IsStruct shape

-- types with room for this many levels are read, and are in the table then
abbrev pub Inner : Module → (room : ℕ) → Firm → Type 1
Inner m room inner = (r : Reading m) (i : Input) → Keeps r.Fore (λ w. Has r.Fore w.id) r.Back inner.form (IsShaped m room) i

module _ {m : Module} (r : Reading m) where
  -- ---- stars

  star_keeps : (from room pointee : ℕ) (i : Input) → Keeps (Has r.Fore pointee) (λ found. Has r.Fore found.1) r.Back (pointers from room pointee) (IsStarred m room pointee) i
  unfolding pointers
  star_keeps from zero pointee i = by (at_star i) where
    by : (t : Bool) → Keeps (Has r.Fore pointee) (λ found. Has r.Fore found.1) r.Back (star_or (refuse limit) (pure (0, pointee)) t) (IsStarred m 0 pointee) i
    by true = λ a o h f. absurd h
    by false = λ a o h f. (subst (λ (x : ℕ × ℕ). Has r.Fore x.1 o) h.0 (subst (Has r.Fore pointee) h.1 f), λ b. (subst r.Back (sym h.1) b, subst (IsStarred m 0 pointee) h.0 (λ shape has own. (0, refl, has, own))))
  star_keeps from (suc room) pointee i = by (at_star i) (λ n j. star_keeps from room n j) where
    by : (t : Bool) → ((n : ℕ) (j : Input) → Keeps (Has r.Fore n) (λ found. Has r.Fore found.1) r.Back (pointers from room n) (IsStarred m room n) j)
        → Keeps (Has r.Fore pointee) (λ found. Has r.Fore found.1) r.Back (star_or (skip >> intern_pointer from (type.Pointer pointee) >>= pointers from room) (pure (suc room, pointee)) t) (IsStarred m (suc room) pointee) i
    by true further = λ a o h f.
        let x = skip_keeps (having r pointee) i h.2.0 h.2.1 h.2.2 f in
        let y = pointer_goes r from (type.Pointer pointee) h.2.1 (λ next. (next, x.0.1)) h.0 h.1 h.2.3 x.0.0 in
        let z = further h.0 h.1 a o h.3 y.0 in (
          z.0,
          λ b.
              let c = z.1 b in
              let d = y.1 c.0 in
              let e = x.1 d.0 in (
                e.0,
                λ shape has own.
                    let u = c.1 (Pointer shape) (pointee, d.1.0, has) (d.1.1.0, own) in
                    let n = u.1 in
                    (suc u.0, omega (arith, n), u.2, u.3),
              ),
        )
    by false further = λ a o h f. (subst (λ (x : ℕ × ℕ). Has r.Fore x.1 o) h.0 (subst (Has r.Fore pointee) h.1 f), λ b. (subst r.Back (sym h.1) b, subst (IsStarred m (suc room) pointee) h.0 (λ shape has own. (0, omega arith, has, own))))

  -- the stars after a base, if it takes any
  after_keeps : (from : ℕ) (p : WrittenType) (x : Base) (i : Input) → Keeps (Has r.Fore p.id) (λ found. Has r.Fore found.1) r.Back (stars_after from p x) (IsStarred m p.room p.id) i
  after_keeps from p (base.Integer bits) i = star_keeps from p.room p.id i
  after_keeps from p base.Float i = star_keeps from p.room p.id i
  after_keeps from p base.Double i = star_keeps from p.room p.id i
  after_keeps from p base.Named i = star_keeps from p.room p.id i
  after_keeps from p base.Aggregate i = star_keeps from p.room p.id i
  after_keeps from p base.Opaque i = λ a o h f. (subst (λ (x : ℕ × ℕ). Has r.Fore x.1 o) h.0 (subst (Has r.Fore p.id) h.1 f), λ b. (subst r.Back (sym h.1) b, subst (IsStarred m p.room p.id) h.0 (λ shape has own. (0, omega arith, has, own))))

  starred_type : (most : ℕ) (p : WrittenType) (found : ℕ × ℕ) → IsBare m most p → IsStarred m p.room p.id found → IsShaped m most (with_stars p found)
  starred_type most p found bare stars =
      let shape = bare.0 in
      let own = bare.1 in
      let u = stars shape own.has_shape own.is_written in
      let fits = own.fits in
      let none = bare.2 ∙ refl in
      let flat = own.stars_are in
      let n = u.1 in
      let levels_e = starred_levels u.0 shape in
      let stars_e = starred_stars u.0 shape in (
        starred u.0 shape,
        record {
          has_shape = u.2;
          fits = omega (arith, fits, n, levels_e);
          is_written = u.3;
          base_is = own.base_is ∙ sym (starred_base u.0 shape);
          stars_are = omega (arith, n, stars_e, none, flat);
        },
      )

  -- the stars of a type that a round bracket may follow
  result_stars_keep : (from most : ℕ) (p : WrittenType) (i : Input) → Keeps (Has r.Fore p.id) (λ w. Has r.Fore w.id) r.Back (result_stars from p) (λ w. IsBare m most p → IsShaped m most w) i
  result_stars_keep from most p i w o h f =
      let x = after_keeps from p p.base i h.0 h.1 h.2 f in
      let end = h.3 in (
        subst (λ (y : WrittenType). Has r.Fore y.id o) end.0 (subst (Has r.Fore h.0.1) end.1 x.0),
        λ b.
            let c = x.1 (subst r.Back (sym end.1) b) in
            (c.0, λ bare. subst (IsShaped m most) end.0 (starred_type most p h.0 bare c.1)),
      )

  starred_keeps : (from most : ℕ) (p : WrittenType) (i : Input) → Keeps (Has r.Fore p.id) (λ w. Has r.Fore w.id) r.Back (with_starred from p) (λ w. IsBare m most p → IsShaped m most w) i
  unfolding with_starred
  starred_keeps from most p i w o h f = result_stars_keep from most p i w o (h.0, h.1, h.2, (h.3.3.0, h.3.2.1 ∙ h.3.3.1)) f

  -- ---- types before their stars

  integer_keeps : (i : Input) → Keeps r.Fore (Same r.Fore) r.Back integer AreBits i
  unfolding integer
  integer_keeps i =
      where_true r.Back r.Fore (Same r.Fore) AreBits (λ i. nat_le 1 (bits_at i) && nat_le (bits_at i) 64) (λ i. OutOfRange (start i.cursor)) (step bits_at advanced advanced_falls) i
      (λ e. stepped r.Back r.Fore (Same r.Fore) AreBits bits_at advanced advanced_falls i
      (λ f. (
        r.on_token i f,
        λ b.
            let t = and_parts (nat_le 1 (bits_at i)) (nat_le (bits_at i) 64) e in
            let low = t.0 in
            let high = t.1 in
            (r.from_token i b, (grind (arith, nat_tests), grind (arith, nat_tests))),
      )))

  bare_of : (b : Base) (room most : ℕ) (t : IrType) (shape : Shape) (p : WrittenType) → b ≡ base_of shape → stars_of shape ≡ 0 → levels shape + room ≡ most → IsWritten m.wide (has_opaque m.types) (defined_structs m) shape
      → IsInterned m b room t p → (IsAt m t p.id → HasShape m.types m.struct_names shape p.id) → IsBare m most p
  bare_of b room most t shape p base_is flat fits written own has =
      let e = own.3 in (
        shape,
        record {
          has_shape = has own.0;
          fits = ap (λ n. levels shape + n) e ∙ fits;
          is_written = written;
          base_is = own.1 ∙ base_is;
          stars_are = own.2 ∙ sym flat;
        },
        own.2,
      )

  integer_type_keeps : (room : ℕ) (i : Input) → Keeps r.Fore (λ w. Has r.Fore w.id) r.Back (integer >>= λ bits. interned (base.Integer bits) room (type.Integer bits)) (IsBare m (suc room)) i
  integer_type_keeps room i p o h f =
      let x = integer_keeps i h.0 h.1 h.2 f in
      let y = interned_keeps r (base.Integer h.0) room (type.Integer h.0) h.1 tt p o h.3 x.0 in (
        y.0,
        λ b.
            let c = y.1 b in
            let d = x.1 c.0 in
            (d.0, bare_of (base.Integer h.0) room (suc room) (type.Integer h.0) (Integer h.0) p refl refl (omega arith) d.1 c.1 (λ at. at.0)),
      )

  -- where a type of floating point numbers is named, the wide forms may stand
  float_here_is : (i : Input) (t : FloatType) → w.float_here i ≡ Some t → i.wide ≡ true
  unfolding w.float_here
  float_here_is i t e = pick i.wide refl e where
    pick : (b : Bool) → i.wide ≡ b → (if b && sees k.LeftOut i.cursor then w.float_of (spelling i.cursor) else None) ≡ Some t → i.wide ≡ true
    pick true is e = is
    pick false is e = absurd cc

  -- a type of floating point numbers
  float_keeps : (room : ℕ) (i : Input) → Keeps r.Fore (λ w. Has r.Fore w.id) r.Back (w.float_written room) (IsBare m (suc room)) i
  float_keeps room i = by (w.float_here i) refl where
    by : (t : Option FloatType) → w.float_here i ≡ t → Keeps r.Fore (λ w. Has r.Fore w.id) r.Back (w.float_by room t) (IsBare m (suc room)) i
    by None e = λ p o h f. absurd h
    by (Some size.Single) e = λ p o h f.
        let x = skip_keeps r i h.0 h.1 h.2 f in
        let y = interned_keeps r base.Float room type.Float h.1 tt p o h.3 x.0 in (
          y.0,
          λ b.
              let c = y.1 b in
              let d = x.1 c.0 in
              (d.0, bare_of base.Float room (suc room) type.Float (Float size.Single) p refl refl (omega arith) (sym (r.forms i d.0) ∙ float_here_is i size.Single e) c.1 (λ at. at.0)),
        )
    by (Some size.Double) e = λ p o h f.
        let x = skip_keeps r i h.0 h.1 h.2 f in
        let y = interned_keeps r base.Double room type.Double h.1 tt p o h.3 x.0 in (
          y.0,
          λ b.
              let c = y.1 b in
              let d = x.1 c.0 in
              (d.0, bare_of base.Double room (suc room) type.Double (Float size.Double) p refl refl (omega arith) (sym (r.forms i d.0) ∙ float_here_is i size.Double e) c.1 (λ at. at.0)),
        )

  named_type_keeps : (room : ℕ) (i : Input) → Keeps r.Fore (λ w. Has r.Fore w.id) r.Back (struct_name >>= λ name. interned base.Named room (type.Named name)) (IsBare m (suc room)) i
  named_type_keeps room i p o h f =
      let x = struct_name_keeps r i h.0 h.1 h.2 f in
      let y = interned_keeps r base.Named room (type.Named h.0) h.1 tt p o h.3 x.0 in (
        y.0,
        λ b.
            let c = y.1 b in
            let d = x.1 c.0 in
            (d.0, bare_of base.Named room (suc room) (type.Named h.0) (Named d.1.0) p refl refl (omega arith) (d.1.2, d.1.3) c.1 (λ at. (h.0, at.0, d.1.1))),
      )

  -- ---- `ptr`

  pub opaque_keeps : (i : Input) → Keeps r.Fore (Has r.Fore) r.Back opaque_type (IsAt m type.Opaque) i
  unfolding opaque_type
  opaque_keeps i n o h f =
      let x = skip_keeps r i h.0 h.1 h.2 f in
      let y = pointer_goes r (start i.cursor) type.Opaque h.1 (λ next. next) n o h.3 x.0 in
      (y.0, λ b. let c = y.1 b in ((x.1 c.0).0, c.1))

  opaque_type_keeps : (room : ℕ) (i : Input) → Keeps r.Fore (λ w. Has r.Fore w.id) r.Back (opaque_type >>= λ id. pure (part_of base.Opaque room id)) (IsBare m (suc room)) i
  opaque_type_keeps room i p o h f =
      let x = opaque_keeps i h.0 h.1 h.2 f in (
        subst (λ (y : WrittenType). Has r.Fore y.id o) h.3.0 (subst (Has r.Fore h.0) h.3.1 x.0),
        λ b.
            let c = x.1 (subst r.Back (sym h.3.1) b) in
            let own = bare_of base.Opaque room (suc room) type.Opaque Opaque (part_of base.Opaque room h.0) refl refl (omega arith) c.1.1 (c.1, refl, refl, refl) (λ at. at.0) in
            (c.0, subst (IsBare m (suc room)) h.3.0 own),
      )

  -- ---- arrays

  small_less : (n : ℕ) → unwrap_or (numbers.small n) 0 < 2 ^ 64
  small_less n = by (nat_lt n 18446744073709551616) refl where
    by : (t : Bool) → nat_lt n 18446744073709551616 ≡ t → unwrap_or (if t then Some n else None) 0 < 2 ^ 64
    by true less = grind (arith, nat_tests)
    by false less = omega arith

  opposite_less : (x : Option ℕ) → unwrap_or (option_and_then numbers.not_below_zero x) 0 < 2 ^ 64
  opposite_less None = omega arith
  opposite_less (Some n) = by (n == 0) where
    by : (t : Bool) → unwrap_or (if t then Some 0 else None) 0 < 2 ^ 64
    by true = omega arith
    by false = omega arith

  natural_less : (s : List ℕ) → unwrap_or (numbers.natural s) 0 < 2 ^ 64
  unfolding numbers.natural
  natural_less [] = small_less (numbers.decimal [])
  natural_less (byte ∷ digits) = by (byte == 45) where
    by : (t : Bool) → unwrap_or (if t then option_and_then numbers.not_below_zero (numbers.small (numbers.decimal digits)) else numbers.small (numbers.decimal (byte ∷ digits))) 0 < 2 ^ 64
    by true = opposite_less (numbers.small (numbers.decimal digits))
    by false = small_less (numbers.decimal (byte ∷ digits))

  length_keeps : (i : Input) → Keeps r.Fore (Same r.Fore) r.Back array_length (λ n. n < 2 ^ 64) i
  unfolding array_length length_at
  length_keeps i n o h f =
      let same = h.2.2.1 ∙ h.2.3.1 in
      let x = stepped r.Back r.Fore (Same r.Fore) (λ n. n < 2 ^ 64) (λ i. unwrap_or (length_at i) 0) advanced advanced_falls h.1
      (λ f. (r.on_token h.1 f, λ b. (r.from_token h.1 b, natural_less (spelling h.1.cursor)))) n o h.3 (subst r.Fore same f) in
      (x.0, λ b. let c = x.1 b in (subst r.Back (sym same) c.0, c.1))

  array_keeps : (room : ℕ) (inner : Firm) → Inner m room inner → (i : Input)
      → Keeps r.Fore (λ w. Has r.Fore w.id) r.Back (w.array inner) (IsBare m (suc room)) i
  array_keeps room inner part i p o h f =
      let t = h.3 in
      let u = t.3 in
      let v = u.3 in
      let z = v.3 in
      let a = skip_keeps r i h.0 h.1 h.2 f in
      let b = length_keeps h.1 t.0 t.1 t.2 a.0 in
      let c = expect_keeps r k.X t.1 u.0 u.1 u.2 b.0 in
      let d = part r u.1 v.0 v.1 v.2 c.0 in
      let e = expect_keeps (having r v.0.id) k.CloseSquare v.1 z.0 z.1 z.2 d.0 in
      let g = interned_keeps r base.Aggregate v.0.room (type.Array t.0 v.0.id) z.1 e.0.1 p o z.3 e.0.0 in (
        g.0,
        λ back.
            let gb = g.1 back in
            let eb = e.1 gb.0 in
            let db = d.1 eb.0 in
            let cb = c.1 db.0 in
            let bb = b.1 cb.0 in
            let ab = a.1 bb.0 in
            let own = db.1.1 in
            let shape = db.1.0 in
            let fits = own.fits in
            (ab.0, bare_of base.Aggregate v.0.room (suc room) (type.Array t.0 v.0.id) (Array t.0 shape) p refl refl (omega (arith, fits)) (bb.1, own.is_written) gb.1 (λ at. (v.0.id, at.0, own.has_shape))),
      )

  after_field_keeps : (i : Input) → Keeps r.Fore (Same r.Fore) r.Back after_field Any i
  unfolding after_field
  after_field_keeps i = by (at_brace i) where
    by : (t : Bool) → Keeps r.Fore (Same r.Fore) r.Back (comma_or t) Any i
    by true = λ a o h f. (subst r.Fore h.1 f, λ b. (subst r.Back (sym h.1) b, tt))
    by false = λ a o h f.
        let x = expect_keeps r k.Comma i h.0 h.1 h.2 f in
        (subst r.Fore h.3.1 x.0, λ b. let c = x.1 (subst r.Back (sym h.3.1) b) in (c.0, tt))

-- ---- structs

fits_struct : (p whole room a b : ℕ) → a + p ≡ room → b + whole ≡ suc room → max (suc a) b + min p whole ≡ suc room
fits_struct p whole room a b e g = omega (arith, e, g)

module _ {m : Module} where
  field_keeps : (r : Reading m) (room : ℕ) (inner : Firm) → Inner m room inner → (i : Input) → Keeps r.Fore (λ w. Has r.Fore w.id) r.Back (field inner) (IsShaped m room) i
  field_keeps r room inner part i p o h f =
      let t = h.3 in
      let a = part r i h.0 h.1 h.2 f in
      let b = after_field_keeps (having r h.0.id) h.1 t.0 t.1 t.2 a.0 in (
        subst (λ (y : WrittenType). Has r.Fore y.id o) t.3.0 (subst (Has r.Fore h.0.id) t.3.1 b.0),
        λ back.
            let c = b.1 (subst r.Back (sym t.3.1) back) in
            let d = a.1 c.0 in
            (d.0, subst (IsShaped m room) t.3.0 d.1),
      )

  -- the type of each field is in the table after them
  fields_there : (r : Reading m) (room : ℕ) (inner : Firm) → Inner m room inner → (i : Input) (xs : List WrittenType) (o : Input) → Listed at_brace (field inner).says i xs o → r.Fore i
      → AllByRecursion (λ (p : WrittenType). p.id < length o.types) xs
  fields_there r room inner part i [] o h f = tt
  fields_there r room inner part i (a ∷ xs) o h f =
      let x = field_keeps r room inner part i a h.1 h.2 f in
      let y = each r.Back (Has r.Fore a.id) Any at_brace (field inner)
      (λ j b p said fore. let z = field_keeps (having r a.id) room inner part j b p said fore in (z.0.0, λ k. ((z.1 k).0, tt))) h.1 xs o h.3 x.0 in
      (y.0.1, fields_there r room inner part h.1 xs o h.3 x.0.0)

  whole_of : (room : ℕ) (p whole w : WrittenType) → IsInterned m base.Aggregate (min p.room whole.room) (type.Struct p.id whole.id) w → IsShaped m room p → IsWhole m (suc room) whole → IsWhole m (suc room) w
  whole_of room p whole w own field rest =
      let e = own.3 in
      let first_fits = field.1.fits in
      let rest_fits = rest.1.fits in (
        Struct field.0 rest.0,
        record {
          has_shape = (p.id, whole.id, own.0.0, own.0.1.1, field.1.has_shape, rest.1.has_shape);
          fits = ap (λ n. levels (Struct field.0 rest.0) + n) e ∙ fits_struct p.room whole.room room (levels field.0) (levels rest.0) first_fits rest_fits;
          is_written = (rest.3, field.1.is_written, rest.1.is_written);
          base_is = own.1;
          stars_are = own.2;
        },
        own.2,
        tt,
      )

  before_keeps : (r : Reading m) (room : ℕ) (parts : List WrittenType) (whole : WrittenType) (i : Input) → AllByRecursion (λ (p : WrittenType). p.id < length i.types) parts
      → Keeps (Has r.Fore whole.id) (λ w. Has r.Fore w.id) r.Back (before parts whole) (λ w. AllByRecursion (IsShaped m room) parts → IsWhole m (suc room) whole → IsWhole m (suc room) w) i
  unfolding before
  before_keeps r room [] whole i there w o h f = (
    subst (λ (y : WrittenType). Has r.Fore y.id o) h.0 (subst (Has r.Fore whole.id) h.1 f),
    λ b. (subst r.Back (sym h.1) b, λ fields is_whole. subst (IsWhole m (suc room)) h.0 is_whole),
  )
  before_keeps r room (p ∷ parts) whole i there w o h f =
      let a = before_keeps (having r p.id) room parts whole i there.1 h.0 h.1 h.2 ((f.0, there.0), f.1) in
      let b = interned_keeps r base.Aggregate (min p.room h.0.room) (type.Struct p.id h.0.id) h.1 (a.0.0.1, a.0.1) w o h.3 a.0.0.0 in (
        b.0,
        λ back.
            let c = b.1 back in
            let d = a.1 c.0 in
            (d.0, λ fields is_whole. whole_of room p h.0 w c.1 fields.0 (d.1 fields.1 is_whole)),
      )

  pub struct_keeps : (r : Reading m) (room : ℕ) (inner : Firm) → Inner m room inner → (i : Input) → Keeps r.Fore (λ w. Has r.Fore w.id) r.Back (w.braced room inner) (IsWhole m (suc room)) i
  unfolding struct_of
  struct_keeps r room inner part i p o h f =
      let t = h.3 in
      let u = t.3 in
      let v = u.3 in
      let a = skip_keeps r i h.0 h.1 h.2 f in
      let b = all r.Back r.Fore (IsShaped m room) at_brace (field inner) (field_takes inner) (λ j x q said fore. let y = field_keeps r room inner part j x q said fore in (y.0.0, y.1)) h.1 t.0 t.1 t.2 a.0 in
      let c = expect_keeps r k.CloseBrace t.1 u.0 u.1 u.2 b.0 in
      let d = interned_keeps r base.Aggregate room type.EmptyStruct u.1 tt v.0 v.1 v.2 c.0 in
      let stays_there : (n : ℕ) → n < length t.1.types → n < length v.1.types = λ n less.
      (interned_keeps (having r n) base.Aggregate room type.EmptyStruct u.1 tt v.0 v.1 v.2 (expect_keeps (having r n) k.CloseBrace t.1 u.0 u.1 u.2 (b.0, less)).0).0.0.1 in
      let there = all_so (λ (x : WrittenType). x.id < length t.1.types) (λ (x : WrittenType). x.id < length v.1.types) t.0 (λ x less. stays_there x.id less) (fields_there r room inner part h.1 t.0 t.1 t.2 a.0) in
      let e = before_keeps r room t.0 v.0 v.1 there p o v.3 d.0 in (
        e.0,
        λ back.
            let eb = e.1 back in
            let db = d.1 eb.0 in
            let cb = c.1 db.0 in
            let bb = b.1 cb.0 in
            let ab = a.1 bb.0 in
            (ab.0, eb.1 bb.1 (Empty, record { has_shape = db.1.0.0; fits = let e = db.1.3 in omega (arith, e); is_written = tt; base_is = db.1.1; stars_are = db.1.2 }, db.1.2, tt)),
      )

  -- ---- a type

  base_keeps : (r : Reading m) (room : ℕ) (inner : Firm) → Inner m room inner → (x : Kind) (i : Input) → Keeps r.Fore (λ w. Has r.Fore w.id) r.Back (w.base_by room inner x) (IsBare m (suc room)) i
  base_keeps r room inner part k.IntegerType i = integer_type_keeps r room i
  base_keeps r room inner part k.LocalName i = named_type_keeps r room i
  base_keeps r room inner part k.OpenSquare i = array_keeps r room inner part i
  base_keeps r room inner part k.Ptr i = opaque_type_keeps r room i
  base_keeps r room inner part k.OpenBrace i = λ p o h f. let x = struct_keeps r room inner part i p o h f in (x.0, λ b. let c = x.1 b in (c.0, (c.1.0, c.1.1, c.1.2)))
  base_keeps r room inner part k.LeftOut i = float_keeps r room i
  base_keeps r room inner part _ i = λ p o h f. absurd h

  pub part_keeps : (r : Reading m) (levels : ℕ) (i : Input) → Keeps r.Fore (λ w. Has r.Fore w.id) r.Back (part levels) (IsShaped m levels) i
  unfolding firm no_type
  part_keeps r zero i p o h f = absurd h
  part_keeps r (suc room) i p o h f =
      let a = base_keeps r room (firm room) (λ q. part_keeps q room) (kind i.cursor) i h.0 h.1 h.2 f in
      let b = starred_keeps r (start i.cursor) (suc room) h.0 h.1 p o h.3 a.0 in
      (b.0, λ back. let c = b.1 back in let d = a.1 c.0 in (d.0, c.1 d.1))

  -- so it is before the types of a function's parameters
  pub type_before_keeps : (r : Reading m) (i : Input) → Keeps r.Fore (λ w. Has r.Fore w.id) r.Back type_before (IsShaped m 64) i
  unfolding type_before
  type_before_keeps r i p o h f =
      let a = base_keeps r 63 (firm 63) (λ q. part_keeps q 63) (kind i.cursor) i h.0 h.1 h.2 f in
      let b = result_stars_keep r (start i.cursor) 64 h.0 h.1 p o h.3 a.0 in
      (b.0, λ back. let c = b.1 back in let d = a.1 c.0 in (d.0, c.1 d.1))
