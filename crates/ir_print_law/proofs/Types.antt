-- A printed type is read as a type of the same shape.
use Rattle.std.proofs.Common.{◌≡◌, ℕ, zero, suc, ◌+◌, ◌<◌, ◌≤◌, ◌^◌, Bool, true, false, not, [], ◌∷◌, ◌++◌, length, slice_get, if◌then◌else◌, Some, is_some, unwrap_or, refl, sym, ap, subst, ◌∙◌, arith, length-append}
use Rattle.std.specs.Prelude.{codes, nat_lt}
use Rattle.std.specs.List.{list_all}
use Rattle.std.specs.Fmt as text
use Rattle.std.proofs.lemmas.Bool.Decides.{nat_tests}
use Rattle.ir_print_law.proofs.Looks.{starred_base, starred_levels, starred_stars, starred, base_of, stars_of, MayStar}
use Rattle.lemmas.specs.Bools.{and_parts}
use Rattle.lemmas.specs.Lists.{IsIn}
use Rattle.grammar.specs.Grammar.{pure, refuse, ◌>>=◌, ◌>>◌}
use Rattle.ir_ast.specs.Names.{number_of, numbered, place_of}
use Rattle.ir_ast.specs.declared.function.Function.{Function}
use Rattle.ir_ast.specs.declared.ir_type.IrType.{IrType}
use Rattle.ir_ast.specs.declared.ir_type.IrType.TheVariants as type
use Rattle.ir_ast.specs.declared.module.Module.{Module}
use Rattle.ir_tokens.specs.declared.token.Kind.{Kind}
use Rattle.ir_tokens.specs.declared.token.Kind.TheVariants as k
use Rattle.ir_tokens.specs.Bytes.{Text, class_of, is_digit}
use Rattle.ir_tokens.specs.Keywords.{word_kind, keywords}
use Rattle.ir_forms.specs.Cursor.{kind, sees, start, spelled, spelling, left_out}
use Rattle.ir_forms.specs.Number as numbers
use Rattle.ir_forms.specs.declared.input.Input.{Input}
use Rattle.ir_forms.specs.declared.written.Base.{Base}
use Rattle.ir_forms.specs.declared.written.Base.TheVariants as base
use Rattle.ir_forms.specs.declared.written.FloatType.{FloatType}
use Rattle.ir_forms.specs.declared.written.FloatType.TheVariants as size
use Rattle.ir_forms.specs.declared.written.WrittenType.{WrittenType}
use Rattle.ir_forms.specs.Input.{limit, advanced, skip}
use Rattle.ir_forms.specs.Names.{struct_name, with_struct_use}
use Rattle.ir_forms.specs.Written as w
use Rattle.ir_forms.specs.Written.{has_opaque, intern, intern_pointer, opaque_type, integer, pointers, stars_after, star_or, at_star, starred as with_starred, with_stars, no_parameters, part_of, interned, part, firm}
use Rattle.name_text.specs.Names.{name_text, is_plain, quoted_text}
use Rattle.name_text.specs.Readings.{AreBytes}
use Rattle.name_text.specs.declared.blank.Blank.TheVariants as blank
use Rattle.ir_print_law.specs.Stands.{Stands, IsSeam, AreBlanks, AreDigits}
use Rattle.ir_print_law.specs.Stars.{stars}
use Rattle.name_text.specs.Spelled.{number_is}
use Rattle.ir_print_law.proofs.Constants.{integer_types_are_read, are_digits, no_minus}
use Rattle.ir_print_law.proofs.NamesRead.{struct_names_are_read}
use Rattle.ir_print_law.proofs.Words.{local_comes, word_comes, seen}
use Rattle.ir_print_law.specs.Definitions.{defined_structs}
use Rattle.ir_print_law.specs.Shapes.{Shape, Integer, Float, Pointer, Array, Empty, Struct, Named, Opaque, HasShape, levels}
use Rattle.ir_print_law.proofs.Tables.{AreInOrder, IsInOrder, begins_itself, name_begins, name_length, place_there, place_stays, number_within}
use Rattle.ir_print_law.proofs.State.{Invariant, Ready, Grows, Reads}
use Rattle.ir_print_law.proofs.Shown.{shown, IsTypeRead, shape_stays, shape_within}
use Rattle.ir_print_law.proofs.Steps.{go_on, so, given, token_then, shorter, checked_then, looked, sign_skipped, sign_kind, word_skipped, word_seen, intern_reads, intern_pointer_reads, unlike}

-- ---- what follows a type

-- a token of this kind ends a type
abbrev pub ends_type : Kind → Bool
ends_type k.Star = false
ends_type k.OpenRound = false
ends_type _ = true

-- where these bytes come next, the kind of the next token passes the test
abbrev pub Comes : (Kind → Bool) → Text → Type 0
Comes test rest = (i : Input) → Stands i.cursor rest → test (kind i.cursor) ≡ true

-- a type ends before these bytes
abbrev pub EndsType : Text → Type 0
EndsType rest = IsSeam rest × Comes ends_type rest

-- a printed name is not empty
name_text_some : (name : Text) → 1 ≤ length (name_text blank.Kept name)
name_text_some name = by name (is_plain name) refl where
  by : (name : Text) (t : Bool) → is_plain name ≡ t → 1 ≤ length (if t then name else quoted_text blank.Kept name)
  by name false e = omega arith
  by [] true e = absurd cc
  by (b ∷ name) true e = omega arith

-- digits spell their number
natural_of : (digits : Text) (n : ℕ) → AreDigits digits → numbers.decimal digits ≡ n → n < 2 ^ 64 → numbers.natural digits ≡ Some n
unfolding numbers.natural
natural_of [] n own is less = absurd (let h = own.0 in omega (arith, h))
natural_of (b ∷ digits) n own is less =
    let minus = no_minus b (and_parts (is_digit b) (list_all is_digit digits) own.1).0 in
    let small : nat_lt n 18446744073709551616 ≡ true = grind (arith, nat_tests) in
    rw (minus, is, small) refl

-- a printed length spells that length
natural_is : (n : ℕ) → n < 2 ^ 64 → numbers.natural (text.decimal n) ≡ Some n
natural_is n less = natural_of (text.decimal n) n (are_digits n less) (number_is n less) less

-- fewer stars may be written, too
may_fewer : (opaque : Bool) (count : ℕ) → MayStar opaque (suc count) → MayStar opaque count
may_fewer opaque zero may = tt
may_fewer opaque (suc count) may = may

-- `ptr` has no stars after it
abbrev pub HasStars : ℕ → Shape → Type 0
HasStars count Opaque = count ≡ 0
HasStars count _ = Unit {0}

module _ {m : Module} {f : Function} (v : Invariant m f) where
  -- ---- stars

  -- `count` stars were read
  abbrev StarsRead : (count room : ℕ) → Shape → ℕ × ℕ → Input → Type 0
  StarsRead count room shape found o = (found.0 + count ≡ room) × HasShape o.types o.struct_names.names (starred count shape) found.1

  -- no star comes
  star_free : (i : Input) (rest : Text) (s : ℕ) → EndsType rest → Ready v s i rest → at_star i ≡ false
  star_free i rest s ends ready = unlike k.Star ends_type i refl (ends.1 i ready.stands)

  -- stars are read as pointer types
  stars_read : (from count room number : ℕ) (shape : Shape) (i : Input) (rest : Text) (s : ℕ) → MayStar (has_opaque m.types) count → count ≤ room → HasShape i.types i.struct_names.names shape number → EndsType rest
      → Ready v s i (stars count ++ rest) → Reads v s (pointers from room number) i rest (StarsRead count room shape)
  unfolding pointers class_of
  stars_read from zero zero number shape i rest s may le has ends ready =
      looked v at_star (star_or (refuse limit) (pure (0, number))) i rest s (StarsRead 0 0 shape) false (star_free i rest s ends ready)
      (given v (0, number) i rest s (StarsRead 0 0 shape) ready (refl, has))
  stars_read from zero (suc room) number shape i rest s may le has ends ready =
      looked v at_star (star_or (skip >> intern_pointer from (type.Pointer number) >>= pointers from room) (pure (suc room, number))) i rest s (StarsRead 0 (suc room) shape) false (star_free i rest s ends ready)
      (given v (suc room, number) i rest s (StarsRead 0 (suc room) shape) ready (omega arith, has))
  stars_read from (suc count) zero number shape i rest s may le has ends ready = absurd (omega (arith, le))
  stars_read from (suc count) (suc room) number shape i rest s may le has ends ready =
      let afterwards = stars count ++ rest in
      let good = StarsRead (suc count) (suc room) shape in
      let star = skip >> intern_pointer from (type.Pointer number) in
      looked v at_star (star_or (skip >> intern_pointer from (type.Pointer number) >>= pointers from room) (pure (suc room, number))) i rest s good true
      (seen k.Star i (sign_kind v 42 k.Star i [] afterwards s refl refl refl ready))
      (go_on v star (pointers from room) i afterwards rest s s (λ n o. HasShape o.types o.struct_names.names (Pointer shape) n) good
      (go_on v skip (λ _. intern_pointer from (type.Pointer number)) i afterwards afterwards (s + 1) s (λ _ o. advanced i ≡ o) (λ n o. HasShape o.types o.struct_names.names (Pointer shape) n)
      (sign_skipped v 42 k.Star i [] afterwards s (s + 1) refl refl refl (omega arith) ready)
      (λ _ o ready g e. so v (intern_pointer from (type.Pointer number)) o afterwards s (λ n p. slice_get p.types n ≡ Some (type.Pointer number)) (λ n p. HasShape p.types p.struct_names.names (Pointer shape) n)
      (intern_pointer_reads v from (type.Pointer number) o afterwards s
      (may, shape_within o.types o.struct_names.names shape number (shape_stays i.types o.types i.struct_names.names o.struct_names.names shape number g.types g.structs has)) ready)
      (λ n p h there. (
        number,
        there,
        shape_stays o.types p.types o.struct_names.names p.struct_names.names shape number h.types h.structs
            (shape_stays i.types o.types i.struct_names.names o.struct_names.names shape number g.types g.structs has),
      ))))
      (λ n o ready g has. so v (pointers from room n) o rest s (StarsRead count room (Pointer shape)) good
      (stars_read from count room n (Pointer shape) o rest s (may_fewer (has_opaque m.types) count may) (omega (arith, le)) has ends ready)
      (λ found p h read. let e = read.0 in (omega (arith, e), read.1))))

  -- the stars after a base, if it takes any
  after_read : (shape : Shape) (from count : ℕ) (p : WrittenType) (i : Input) (rest : Text) (s most : ℕ) → MayStar (has_opaque m.types) count → HasStars count shape → stars_of shape ≡ 0 → count ≤ p.room
      → IsTypeRead shape most p i → EndsType rest → Ready v s i (stars count ++ rest) → Reads v s (stars_after from p p.base) i rest (StarsRead count p.room shape)
  after_read (Integer bits) from count p i rest s most may has none le read ends ready =
      subst (λ (b : Base). Reads v s (stars_after from p b) i rest (StarsRead count p.room (Integer bits))) (sym read.base_is) (stars_read from count p.room p.id (Integer bits) i rest s may le read.has_shape ends ready)
  after_read (Float size.Single) from count p i rest s most may has none le read ends ready =
      subst (λ (b : Base). Reads v s (stars_after from p b) i rest (StarsRead count p.room (Float size.Single))) (sym read.base_is) (stars_read from count p.room p.id (Float size.Single) i rest s may le read.has_shape ends ready)
  after_read (Float size.Double) from count p i rest s most may has none le read ends ready =
      subst (λ (b : Base). Reads v s (stars_after from p b) i rest (StarsRead count p.room (Float size.Double))) (sym read.base_is) (stars_read from count p.room p.id (Float size.Double) i rest s may le read.has_shape ends ready)
  after_read (Array size part) from count p i rest s most may has none le read ends ready =
      subst (λ (b : Base). Reads v s (stars_after from p b) i rest (StarsRead count p.room (Array size part))) (sym read.base_is) (stars_read from count p.room p.id (Array size part) i rest s may le read.has_shape ends ready)
  after_read Empty from count p i rest s most may has none le read ends ready =
      subst (λ (b : Base). Reads v s (stars_after from p b) i rest (StarsRead count p.room Empty)) (sym read.base_is) (stars_read from count p.room p.id Empty i rest s may le read.has_shape ends ready)
  after_read (Struct first others) from count p i rest s most may has none le read ends ready =
      subst (λ (b : Base). Reads v s (stars_after from p b) i rest (StarsRead count p.room (Struct first others))) (sym read.base_is) (stars_read from count p.room p.id (Struct first others) i rest s may le read.has_shape ends ready)
  after_read (Named name) from count p i rest s most may has none le read ends ready =
      subst (λ (b : Base). Reads v s (stars_after from p b) i rest (StarsRead count p.room (Named name))) (sym read.base_is) (stars_read from count p.room p.id (Named name) i rest s may le read.has_shape ends ready)
  after_read (Pointer part) from count p i rest s most may has none le read ends ready = absurd cc
  after_read Opaque from count p i rest s most may has none le read ends ready =
      let ready : Ready v s i rest = subst (λ (c : ℕ). Ready v s i (stars c ++ rest)) has ready in
      subst (λ (b : Base). Reads v s (stars_after from p b) i rest (StarsRead count p.room Opaque)) (sym read.base_is)
      (subst (λ (c : ℕ). Reads v s (stars_after from p base.Opaque) i rest (StarsRead c p.room Opaque)) (sym has)
      (given v (p.room, p.id) i rest s (StarsRead 0 p.room Opaque) ready (omega arith, read.has_shape)))

  -- the stars after what was read
  starred_read : (from count room : ℕ) (shape : Shape) (p : WrittenType) (i : Input) (rest : Text) (s : ℕ) → MayStar (has_opaque m.types) count → HasStars count shape → stars_of shape ≡ 0 → levels shape + count ≤ suc room → EndsType rest
      → IsTypeRead shape (suc room) p i → Ready v s i (stars count ++ rest) → Reads v s (with_starred from p) i rest (IsTypeRead (starred count shape) (suc room))
  unfolding with_starred
  starred_read from count room shape p i rest s may has none le ends read ready =
      let good = IsTypeRead (starred count shape) (suc room) in
      let fits = read.fits in
      go_on v (stars_after from p p.base) (λ found. no_parameters >> pure (with_stars p found)) i rest rest s s (StarsRead count p.room shape) good
      (after_read shape from count p i rest s (suc room) may has none (omega (arith, fits, le)) read ends ready)
      (λ found o ready g stars.
      let plain = unlike k.OpenRound ends_type o refl (ends.1 o ready.stands) in
      let e = stars.0 in
      let levels_e = starred_levels count shape in
      let stars_e = starred_stars count shape in
      checked_then v (λ i. not (sees k.OpenRound i.cursor)) (λ i. left_out i.cursor) (pure (with_stars p found)) o rest s good (ap not plain)
      (given v (with_stars p found) o rest s good ready (record {
        has_shape = stars.1;
        fits = omega (arith, fits, e, levels_e);
        base_is = read.base_is ∙ sym (starred_base count shape);
        stars_are = omega (arith, e, stars_e, none);
      })))

  -- a type before its stars, and then the stars
  pub over_read : (count room : ℕ) (shape : Shape) (i : Input) (rest : Text) (s : ℕ) → MayStar (has_opaque m.types) count → HasStars count shape → stars_of shape ≡ 0 → levels shape + count ≤ suc room → EndsType rest
      → Reads v s (w.base room (firm room)) i (stars count ++ rest) (IsTypeRead shape (suc room)) → Reads v s (part (suc room)) i rest (IsTypeRead (starred count shape) (suc room))
  unfolding firm
  over_read count room shape i rest s may has none le ends h =
      let good = IsTypeRead (starred count shape) (suc room) in
      looked v (λ i. start i.cursor) (λ from. w.base room (firm room) >>= with_starred from) i rest s good (start i.cursor) refl
      (go_on v (w.base room (firm room)) (with_starred (start i.cursor)) i (stars count ++ rest) rest s s (IsTypeRead shape (suc room)) good h
      (λ p o ready g read. starred_read (start i.cursor) count room shape p o rest s may has none le ends read ready))

  -- ---- types before their stars

  -- a type that comes into the table
  pub interned_read : (b : Base) (room most : ℕ) (t : IrType) (shape : Shape) (i : Input) (bytes : Text) (s : ℕ) → IsInOrder (has_opaque m.types) (length i.types) t → b ≡ base_of shape → stars_of shape ≡ 0 → levels shape + room ≡ most
      → ((n : ℕ) (o : Input) → Grows i o → AreInOrder (has_opaque m.types) o.types → slice_get o.types n ≡ Some t → HasShape o.types o.struct_names.names shape n)
      → Ready v (s + 1) i bytes → Reads v s (interned b room t) i bytes (IsTypeRead shape most)
  interned_read b room most t shape i bytes s last base_is none fits has ready =
      go_on v (intern t) (λ id. pure (part_of b room id)) i bytes bytes s s (λ n o. slice_get o.types n ≡ Some t) (IsTypeRead shape most)
      (intern_reads v t i bytes s last ready)
      (λ n o ready g there. given v (part_of b room n) o bytes s (IsTypeRead shape most) ready
      (record { has_shape = has n o g ready.ordered there; fits = fits; base_is = base_is; stars_are = sym none }))

  -- an integer type is read
  pub integer_read : (bits room : ℕ) (i : Input) (gap afterwards : Text) (s : ℕ) → 1 ≤ bits → bits ≤ 64 → AreBlanks gap → IsSeam afterwards → Ready v s i (gap ++ (shown false (Integer bits) ++ afterwards))
      → Reads v s (w.base room (firm room)) i afterwards (IsTypeRead (Integer bits) (suc room))
  integer_read bits room i gap afterwards s some most blanks seam ready =
      let r = integer_types_are_read bits i gap afterwards some most blanks seam ready.stands in
      let good = IsTypeRead (Integer bits) (suc room) in
      looked v (λ i. kind i.cursor) (w.base_by room (firm room)) i afterwards s good k.IntegerType r.0
      (token_then v integer (λ n. interned (base.Integer n) room (type.Integer n)) i bits (gap ++ (shown false (Integer bits) ++ afterwards)) afterwards afterwards s (s + 1) s good r.1 ready r.2
      (shorter v gap (shown false (Integer bits)) afterwards s (s + 1) (omega arith))
      (λ ready. interned_read (base.Integer bits) room (suc room) (type.Integer bits) (Integer bits) (advanced i) afterwards s tt refl refl (omega arith) (λ n o g ordered there. there) ready))

  -- the word of a type of floating point numbers is read as that type
  float_by_word : (t : FloatType) (word : Text) (room : ℕ) (i : Input) (gap afterwards : Text) (s : ℕ) → is_plain word ≡ true → word_kind word ≡ k.LeftOut → w.float_of word ≡ Some t → 1 ≤ length word
      → ((n : ℕ) → IsInOrder (has_opaque m.types) n (w.float_entry t)) → m.wide ≡ true → AreBlanks gap → IsSeam afterwards → Ready v s i (gap ++ (word ++ afterwards))
      → Reads v s (w.base room (firm room)) i afterwards (IsTypeRead (Float t) (suc room))
  unfolding w.float_here
  float_by_word t word room i gap afterwards s plain left of some order wide blanks seam ready =
      let good = IsTypeRead (Float t) (suc room) in
      let comes = word_comes i.cursor gap word afterwards blanks plain seam ready.stands in
      let is : kind i.cursor ≡ k.LeftOut = comes.0 ∙ left in
      let spelled_so : spelling i.cursor ≡ word = comes.1 in
      let forms : i.wide ≡ true = ready.forms ∙ wide in
      let here : w.float_here i ≡ Some t = rw (forms, seen k.LeftOut i is, spelled_so) of in
      looked v (λ i. kind i.cursor) (w.base_by room (firm room)) i afterwards s good k.LeftOut is
      (looked v w.float_here (w.float_by room) i afterwards s good (Some t) here
      (go_on v skip (λ _. interned (w.float_base t) room (w.float_entry t)) i afterwards afterwards (s + 1) s (λ _ o. advanced i ≡ o) good
      (word_skipped v word i gap afterwards s (s + 1) blanks plain seam (omega (arith, some)) ready)
      (λ _ o ready g e. interned_read (w.float_base t) room (suc room) (w.float_entry t) (Float t) o afterwards s (order (length o.types)) refl refl (omega arith) (λ n o g ordered there. there) ready)))

  -- a type of floating point numbers is read
  pub float_read : (t : FloatType) (room : ℕ) (i : Input) (gap afterwards : Text) (s : ℕ) → m.wide ≡ true → AreBlanks gap → IsSeam afterwards → Ready v s i (gap ++ (shown false (Float t) ++ afterwards))
      → Reads v s (w.base room (firm room)) i afterwards (IsTypeRead (Float t) (suc room))
  unfolding word_kind keywords
  float_read size.Single room i gap afterwards s wide blanks seam ready = float_by_word size.Single (codes "float") room i gap afterwards s refl refl refl (omega arith) (λ n. tt) wide blanks seam ready
  float_read size.Double room i gap afterwards s wide blanks seam ready = float_by_word size.Double (codes "double") room i gap afterwards s refl refl refl (omega arith) (λ n. tt) wide blanks seam ready

  -- the name of a struct
  pub struct_read : (name : Text) (i : Input) (gap afterwards : Text) (s : ℕ) → AreBytes name → IsIn name (defined_structs m) → AreBlanks gap → IsSeam afterwards
      → Ready v s i (gap ++ 37 ∷ (name_text blank.Kept name ++ afterwards)) → Reads v (s + 1) struct_name i afterwards (λ n o. place_of name o.struct_names.names ≡ Some n)
  struct_read name i gap afterwards s own there blanks seam ready =
      let room = ready.room in
      let names = i.struct_names.names in
      let a = length-append gap (37 ∷ (name_text blank.Kept name ++ afterwards)) in
      let b = length-append (name_text blank.Kept name) afterwards in
      let some = name_text_some name in
      let types = room.types in
      let structs = room.structs in
      let symbols = room.symbols in
      let locals = room.locals in
      let within = number_within name names in
      let few : number_of name i.struct_names.names < 2 ^ 32 = omega (arith, within, structs) in
      let r = struct_names_are_read name i gap afterwards own few blanks seam ready.stands in
      let longer = name_length (spelled i.cursor) names in (
        number_of name names,
        with_struct_use i,
        r.0,
        record {
          stands = r.2;
          ordered = ready.ordered;
          forms = ready.forms;
          room = record {
            types = omega (arith, types, a, b, some);
            structs = omega (arith, structs, a, b, some, longer);
            symbols = omega (arith, symbols, a, b, some);
            locals = omega (arith, locals, a, b, some);
          };
          holds = v.on_struct i (subst (λ (x : Text). IsIn x (defined_structs m)) (sym r.1) there) ready.holds;
        },
        record {
          types = begins_itself i.types;
          structs = name_begins (spelled i.cursor) names;
          symbols = begins_itself i.symbols.names;
          locals = begins_itself i.locals.names;
        },
        subst (λ (x : Text). place_of name (numbered x names) ≡ Some (number_of name names)) (sym r.1) (place_there name names),
      )

  -- the name of a struct is read as a type
  pub named_read : (name : Text) (room : ℕ) (i : Input) (gap afterwards : Text) (s : ℕ) → AreBytes name → IsIn name (defined_structs m) → AreBlanks gap → IsSeam afterwards
      → Ready v s i (gap ++ (shown false (Named name) ++ afterwards)) → Reads v s (w.base room (firm room)) i afterwards (IsTypeRead (Named name) (suc room))
  named_read name room i gap afterwards s own there blanks seam ready =
      let good = IsTypeRead (Named name) (suc room) in
      looked v (λ i. kind i.cursor) (w.base_by room (firm room)) i afterwards s good k.LocalName (local_comes i.cursor gap name afterwards blanks own seam ready.stands).0
      (go_on v struct_name (λ n. interned base.Named room (type.Named n)) i afterwards afterwards (s + 1) s (λ n o. place_of name o.struct_names.names ≡ Some n) good
      (struct_read name i gap afterwards s own there blanks seam ready)
      (λ n o ready g is. interned_read base.Named room (suc room) (type.Named n) (Named name) o afterwards s tt refl refl (omega arith)
      (λ k p h ordered found. (n, found, place_stays name o.struct_names.names p.struct_names.names n h.structs is)) ready))

  -- ---- `ptr`

  -- `ptr` is read, and comes into the table
  pub opaque_type_reads : (i : Input) (gap afterwards : Text) (s : ℕ) → has_opaque m.types ≡ true → AreBlanks gap → IsSeam afterwards → Ready v s i (gap ++ (codes "ptr" ++ afterwards))
      → Reads v s opaque_type i afterwards (λ n o. slice_get o.types n ≡ Some type.Opaque)
  unfolding opaque_type class_of
  opaque_type_reads i gap afterwards s is blanks seam ready =
      let good : ℕ → Input → Type 0 = λ n o. slice_get o.types n ≡ Some type.Opaque in
      looked v (λ i. start i.cursor) (λ from. skip >> intern_pointer from type.Opaque) i afterwards s good (start i.cursor) refl
      (go_on v skip (λ _. intern_pointer (start i.cursor) type.Opaque) i afterwards afterwards (s + 1) s (λ _ o. advanced i ≡ o) good
      (word_skipped v (codes "ptr") i gap afterwards s (s + 1) blanks refl seam (omega arith) ready)
      (λ _ o ready g e. intern_pointer_reads v (start i.cursor) type.Opaque o afterwards s is ready))

  -- so it is as a type
  pub opaque_read : (room : ℕ) (i : Input) (gap afterwards : Text) (s : ℕ) → has_opaque m.types ≡ true → AreBlanks gap → IsSeam afterwards → Ready v s i (gap ++ (codes "ptr" ++ afterwards))
      → Reads v s (w.base room (firm room)) i afterwards (IsTypeRead Opaque (suc room))
  unfolding class_of word_kind keywords
  opaque_read room i gap afterwards s is blanks seam ready =
      let good = IsTypeRead Opaque (suc room) in
      looked v (λ i. kind i.cursor) (w.base_by room (firm room)) i afterwards s good k.Ptr (word_seen v (codes "ptr") i gap afterwards s blanks refl seam ready)
      (go_on v opaque_type (λ id. pure (part_of base.Opaque room id)) i afterwards afterwards s s (λ n o. slice_get o.types n ≡ Some type.Opaque) good
      (opaque_type_reads i gap afterwards s is blanks seam ready)
      (λ n o ready g there. given v (part_of base.Opaque room n) o afterwards s good ready (record { has_shape = there; fits = omega arith; base_is = refl; stars_are = refl })))

  -- ---- arrays

  -- the length of an array is read
  pub length_said : (count : ℕ) (i : Input) → count < 2 ^ 64 → kind i.cursor ≡ k.Number → spelling i.cursor ≡ text.decimal count → w.array_length.says i count (advanced i)
  unfolding w.array_length w.length_at
  length_said count i less is spelled_so =
      let e : w.length_at i ≡ Some count = ap numbers.natural spelled_so ∙ natural_is count less in
      (tt, i, (tt, i, (seen k.Number i is, refl), (ap is_some e, refl)), (ap (λ x. unwrap_or x 0) e, refl))
