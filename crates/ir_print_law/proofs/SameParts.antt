-- Parts of instructions that are those of another module again have their texts: names, types and operands.
use Rattle.std.proofs.Common.{◌≡◌, ℕ, zero, suc, ◌<◌, List, [], ◌∷◌, ◌++◌, length, Option, unwrap_or, refl, sym, ap, ◌∙◌, arith, inl, inr}
use Rattle.std.specs.Prelude.{codes}
use Rattle.std.specs.Fmt.{decimal}
use Rattle.std.specs.List.{flat_map}
use Rattle.std.proofs.lemmas.Option.{slice_get_within}
use Rattle.ir_forms.specs.declared.written.FloatType.TheVariants as size
use Rattle.ir_print_law.specs.EqualParts.{same2, same3, same4}
use Rattle.ir_ast.specs.declared.argument.Argument.{Argument}
use Rattle.ir_ast.specs.declared.module.Module.{Module}
use Rattle.ir_ast.specs.declared.operand.Constant.{Constant}
use Rattle.ir_ast.specs.declared.operand.Operand.{Operand}
use Rattle.ir_ast.specs.declared.operand.Operand.TheVariants as operand
use Rattle.ir_tokens.specs.Bytes.{Text}
use Rattle.name_text.specs.Names.{name_text}
use Rattle.name_text.specs.declared.blank.Blank.TheVariants as blank
use Rattle.ir_print.specs.Names.{name_at, key_text, local_text, global_text}
use Rattle.ir_print.specs.Operands.{constant_text, operand_text, typed_text, argument_text, listed}
use Rattle.ir_print.specs.Parts.{converted_text, pair_text, placed_text}
use Rattle.ir_print.specs.Types.{type_text, type_within, fields_text}
use Rattle.ir_print_law.specs.PartsAgain.{AreAlike, IsNameAgain, IsTypeAgain, IsResultAgain, IsOperandAgain, IsArgumentAgain}
use Rattle.ir_print_law.specs.Shapes.{Shape, Integer, Float, Pointer, Array, Empty, Struct, Named, Opaque, HasShape}
use Rattle.ir_print_law.proofs.Named.{place_name}
use Rattle.ir_print_law.proofs.OperandsAgain.{constant_by_shape}
use Rattle.ir_print_law.proofs.PrintedTypes.{at_type, at_field, void_shown}

-- ---- texts of equal parts

-- lists whose elements are written alike
pub lines_same : {A B : Type 0} (Alike : A → B → Type 0) (line : A → Text) (other : B → Text) (xs : List A) (ys : List B) → ((x : A) (y : B) → Alike x y → line x ≡ other y) → AreAlike Alike xs ys
    → flat_map line xs ≡ flat_map other ys
lines_same Alike line other [] [] f h = refl
lines_same Alike line other [] (y ∷ ys) f h = absurd h
lines_same Alike line other (x ∷ xs) [] f h = absurd h
lines_same Alike line other (x ∷ xs) (y ∷ ys) f h = same2 (λ a b. a ++ b) (f x y h.0) (lines_same Alike line other xs ys f h.1)

-- so are lists with commas between the elements
pub listed_same : {A B : Type 0} (Alike : A → B → Type 0) (line : A → Text) (other : B → Text) (xs : List A) (ys : List B) → ((x : A) (y : B) → Alike x y → line x ≡ other y) → AreAlike Alike xs ys
    → listed line xs ≡ listed other ys
listed_same Alike line other [] [] f h = refl
listed_same Alike line other [] (y ∷ ys) f h = absurd h
listed_same Alike line other (x ∷ xs) [] f h = absurd h
listed_same {A = A} {B = B} Alike line other (x ∷ xs) (y ∷ ys) f h =
    same2 (λ a b. a ++ b) (f x y h.0)
    (lines_same Alike (λ (a : A). codes ", " ++ line a) (λ (b : B). codes ", " ++ other b) xs ys (λ a b e. ap (λ (t : Text). codes ", " ++ t) (f a b e)) h.1)

-- one name, with its number in each of two tables
pub name_same : (names others : List Text) (x y : ℕ) → IsNameAgain names others x y → name_at names x ≡ name_at others y
name_same names others x y h = sym (ap (λ (k : Option Text). unwrap_or k []) h)

-- ---- types

nothing_within : (m n : Module) (t u : ℕ) → type_within 0 m t ≡ type_within 0 n u
unfolding type_within
nothing_within m n t u = refl

module _ (m n : Module) where
  -- types of this shape are written alike, with room for any number of levels
  abbrev PartSame : Shape → Type 0
  PartSame shape = (room t u : ℕ) → HasShape m.types m.struct_names shape t → HasShape n.types n.struct_names shape u → type_within room m t ≡ type_within room n u

  -- so are they as the further fields of structs
  abbrev FieldsSame : Shape → Type 0
  FieldsSame shape =
      (room most more t u : ℕ) → HasShape m.types m.struct_names shape t → HasShape n.types n.struct_names shape u → t < most → u < more
      → fields_text (type_within room m) m most t ≡ fields_text (type_within room n) n more u

  pub both_same : (shape : Shape) → PartSame shape × FieldsSame shape
  both_same (Integer bits) = (part_same, fields_same) where
    part_same : PartSame (Integer bits)
    part_same zero t u h g = nothing_within m n t u
    part_same (suc room) t u h g = at_type m room t _ h ∙ sym (at_type n room u _ g)

    fields_same : FieldsSame (Integer bits)
    fields_same room zero more t u h g less below = absurd (omega (arith, less))
    fields_same room (suc most) zero t u h g less below = absurd (omega (arith, below))
    fields_same room (suc most) (suc more) t u h g less below = at_field m room most t _ h ∙ sym (at_field n room more u _ g)
  both_same (Pointer shape) = (part_same (both_same shape).0, fields_same) where
    part_same : PartSame shape → PartSame (Pointer shape)
    part_same inner zero t u h g = nothing_within m n t u
    part_same inner (suc room) t u h g = at_type m room t _ h.1 ∙ ap (λ (x : Text). x ++ 42 ∷ []) (inner room h.0 g.0 h.2 g.2) ∙ sym (at_type n room u _ g.1)

    fields_same : FieldsSame (Pointer shape)
    fields_same room zero more t u h g less below = absurd (omega (arith, less))
    fields_same room (suc most) zero t u h g less below = absurd (omega (arith, below))
    fields_same room (suc most) (suc more) t u h g less below = at_field m room most t _ h.1 ∙ sym (at_field n room more u _ g.1)
  both_same (Array count shape) = (part_same (both_same shape).0, fields_same) where
    part_same : PartSame shape → PartSame (Array count shape)
    part_same inner zero t u h g = nothing_within m n t u
    part_same inner (suc room) t u h g =
        at_type m room t _ h.1 ∙ ap (λ (x : Text). 91 ∷ decimal count ++ codes " x " ++ x ++ 93 ∷ []) (inner room h.0 g.0 h.2 g.2) ∙ sym (at_type n room u _ g.1)

    fields_same : FieldsSame (Array count shape)
    fields_same room zero more t u h g less below = absurd (omega (arith, less))
    fields_same room (suc most) zero t u h g less below = absurd (omega (arith, below))
    fields_same room (suc most) (suc more) t u h g less below = at_field m room most t _ h.1 ∙ sym (at_field n room more u _ g.1)
  both_same (Float size.Single) = (part_same, fields_same) where
    part_same : PartSame (Float size.Single)
    part_same zero t u h g = nothing_within m n t u
    part_same (suc room) t u h g = at_type m room t _ h ∙ sym (at_type n room u _ g)

    fields_same : FieldsSame (Float size.Single)
    fields_same room zero more t u h g less below = absurd (omega (arith, less))
    fields_same room (suc most) zero t u h g less below = absurd (omega (arith, below))
    fields_same room (suc most) (suc more) t u h g less below = at_field m room most t _ h ∙ sym (at_field n room more u _ g)
  both_same (Float size.Double) = (part_same, fields_same) where
    part_same : PartSame (Float size.Double)
    part_same zero t u h g = nothing_within m n t u
    part_same (suc room) t u h g = at_type m room t _ h ∙ sym (at_type n room u _ g)

    fields_same : FieldsSame (Float size.Double)
    fields_same room zero more t u h g less below = absurd (omega (arith, less))
    fields_same room (suc most) zero t u h g less below = absurd (omega (arith, below))
    fields_same room (suc most) (suc more) t u h g less below = at_field m room most t _ h ∙ sym (at_field n room more u _ g)
  both_same Empty = (part_same, fields_same) where
    part_same : PartSame Empty
    part_same zero t u h g = nothing_within m n t u
    part_same (suc room) t u h g = at_type m room t _ h ∙ sym (at_type n room u _ g)

    fields_same : FieldsSame Empty
    fields_same room zero more t u h g less below = absurd (omega (arith, less))
    fields_same room (suc most) zero t u h g less below = absurd (omega (arith, below))
    fields_same room (suc most) (suc more) t u h g less below = at_field m room most t _ h ∙ sym (at_field n room more u _ g)
  both_same (Struct first others) = (part_same (both_same first).0 (both_same others).1, fields_same (both_same first).0 (both_same others).1) where
    part_same : PartSame first → FieldsSame others → PartSame (Struct first others)
    part_same inner further zero t u h g = nothing_within m n t u
    part_same inner further (suc room) t u h g =
        let within : t < length m.types = slice_get_within m.types t _ h.2 in
        let inside : u < length n.types = slice_get_within n.types u _ g.2 in
        let before = h.3 in
        let earlier = g.3 in
        at_type m room t _ h.2
        ∙ same2 (λ a b. codes "{ " ++ a ++ b ++ codes " }") (inner room h.0 g.0 h.4 g.4)
        (further room (length m.types) (length n.types) h.1 g.1 h.5 g.5 (omega (arith, within, before)) (omega (arith, inside, earlier)))
        ∙ sym (at_type n room u _ g.2)

    fields_same : PartSame first → FieldsSame others → FieldsSame (Struct first others)
    fields_same inner further room zero more t u h g less below = absurd (omega (arith, less))
    fields_same inner further room (suc most) zero t u h g less below = absurd (omega (arith, below))
    fields_same inner further room (suc most) (suc more) t u h g less below =
        let before = h.3 in
        let earlier = g.3 in
        at_field m room most t _ h.2
        ∙ same2 (λ a b. codes ", " ++ a ++ b) (inner room h.0 g.0 h.4 g.4) (further room most more h.1 g.1 h.5 g.5 (omega (arith, less, before)) (omega (arith, below, earlier)))
        ∙ sym (at_field n room more u _ g.2)
  both_same Opaque = (part_same, fields_same) where
    part_same : PartSame Opaque
    part_same zero t u h g = nothing_within m n t u
    part_same (suc room) t u h g = at_type m room t _ h ∙ sym (at_type n room u _ g)

    fields_same : FieldsSame Opaque
    fields_same room zero more t u h g less below = absurd (omega (arith, less))
    fields_same room (suc most) zero t u h g less below = absurd (omega (arith, below))
    fields_same room (suc most) (suc more) t u h g less below = at_field m room most t _ h ∙ sym (at_field n room more u _ g)
  both_same (Named name) = (part_same, fields_same) where
    part_same : PartSame (Named name)
    part_same zero t u h g = nothing_within m n t u
    part_same (suc room) t u h g =
        at_type m room t _ h.1
        ∙ ap (λ (x : Option Text). 37 ∷ name_text blank.Kept (unwrap_or x [])) (place_name name m.struct_names h.0 h.2 ∙ sym (place_name name n.struct_names g.0 g.2))
        ∙ sym (at_type n room u _ g.1)

    fields_same : FieldsSame (Named name)
    fields_same room zero more t u h g less below = absurd (omega (arith, less))
    fields_same room (suc most) zero t u h g less below = absurd (omega (arith, below))
    fields_same room (suc most) (suc more) t u h g less below = at_field m room most t _ h.1 ∙ sym (at_field n room more u _ g.1)

  pub type_same : (t u : ℕ) → IsTypeAgain m n t u → type_text m t ≡ type_text n u
  type_same t u h = (both_same h.0).0 64 t u h.1 h.2

  pub result_same : (t u : ℕ) → IsResultAgain m n t u → type_text m t ≡ type_text n u
  result_same t u (inl h) = void_shown m t h.0 ∙ sym (void_shown n u h.1)
  result_same t u (inr h) = type_same t u h

  pub constant_same : (t u : ℕ) (x y : Constant) → IsTypeAgain m n t u → x ≡ y → constant_text m t x ≡ constant_text n u y
  constant_same t u x y h e = constant_by_shape m h.0 t x h.1 ∙ sym (constant_by_shape n h.0 u x h.2) ∙ ap (constant_text n u) e

  pub global_same : (x y : ℕ) → IsNameAgain m.symbols n.symbols x y → global_text m x ≡ global_text n y
  global_same x y h = ap (λ (k : Text). 64 ∷ name_text blank.Kept k) (name_same m.symbols n.symbols x y h)

-- ---- instructions

module _ (m n : Module) (locals others : List Text) where
  pub local_same : (x y : ℕ) → IsNameAgain locals others x y → local_text locals x ≡ local_text others y
  local_same x y h = ap (λ (k : Text). 37 ∷ key_text k) (name_same locals others x y h)

  pub operand_same : (t u : ℕ) (x y : Operand) → IsTypeAgain m n t u → IsOperandAgain m n locals others x y → operand_text m locals t x ≡ operand_text n others u y
  operand_same t u (operand.Constant x) (operand.Constant y) type h = constant_same m n t u x y type h
  operand_same t u (operand.Local x) (operand.Local y) type h = local_same x y h
  operand_same t u (operand.Global x) (operand.Global y) type h = global_same m n x y h
  operand_same t u (operand.CastGlobal a x to) (operand.CastGlobal b y into) type h =
      same3 (λ k l o. codes "bitcast (" ++ k ++ 32 ∷ l ++ codes " to " ++ o ++ 41 ∷ []) (type_same m n a b h.0) (global_same m n x y h.1) (type_same m n to into h.2)
  operand_same t u _ _ type h = absurd h

  pub typed_same : (t u : ℕ) (x y : Operand) → IsTypeAgain m n t u → IsOperandAgain m n locals others x y → typed_text m locals t x ≡ typed_text n others u y
  typed_same t u x y type h = same2 (λ a b. a ++ 32 ∷ b) (type_same m n t u type) (operand_same t u x y type h)

  pub argument_same : (x y : Argument) → IsArgumentAgain m n locals others x y → argument_text m locals x ≡ argument_text n others y
  argument_same x y h = typed_same x.written y.written x.operand y.operand h.0 h.1

  pub converted_same : (x y : Argument) (to into : ℕ) → IsArgumentAgain m n locals others x y → IsTypeAgain m n to into → converted_text m locals x to ≡ converted_text n others y into
  converted_same x y to into h type = same2 (λ a b. a ++ codes " to " ++ b) (argument_same x y h) (type_same m n to into type)

  pub pair_same : (x y : Argument) (b d : Operand) → IsArgumentAgain m n locals others x y → IsOperandAgain m n locals others b d → pair_text m locals x b ≡ pair_text n others y d
  pair_same x y b d h g = same2 (λ k l. k ++ codes ", " ++ l) (argument_same x y h) (operand_same x.written y.written b d h.0 g)

  pub placed_same : (t u : ℕ) (x y : Argument) → IsTypeAgain m n t u → IsArgumentAgain m n locals others x y → placed_text m locals t x ≡ placed_text n others u y
  placed_same t u x y type h = same2 (λ a b. a ++ codes ", " ++ b) (type_same m n t u type) (argument_same x y h)
