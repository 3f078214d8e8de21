-- What a value is where the tables of its module have grown.
use Rattle.std.proofs.Common.{◌≡◌, ◌⊎◌, inl, inr, ◌<◌, ℕ, zero, suc, Bool, true, false, List, [], ◌∷◌, length, slice_get, is_some, if◌then◌else◌, Option, None, Some, refl, sym, ap, ap₂, ◌∙◌, subst}
use Rattle.lemmas.specs.All.{all_get}
use Rattle.lemmas.specs.Lists.{get_some}
use Rattle.ir_ast.specs.declared.argument.Argument.{Argument}
use Rattle.ir_ast.specs.declared.block.Block.{Block}
use Rattle.ir_ast.specs.declared.function.Function.{Function}
use Rattle.ir_ast.specs.declared.function.LocalSort.{LocalSort}
use Rattle.ir_ast.specs.declared.function.LocalSort.TheVariants as sort
use Rattle.ir_ast.specs.declared.instr.Instr.{Instr}
use Rattle.ir_ast.specs.declared.ir_type.IrType.{IrType}
use Rattle.ir_ast.specs.declared.ir_type.IrType.TheVariants as type
use Rattle.ir_ast.specs.declared.items_of_module.StructType.{StructType}
use Rattle.ir_ast.specs.declared.module.Module.{Module}
use Rattle.ir_ast.specs.declared.op.Op.{Op}
use Rattle.ir_ast.specs.declared.op.Op.TheVariants as op
use Rattle.types.specs.Elements.{body_in, body_named, body_of_layout, element_type, field_at, field_by, field_in, index_number, is_i32, is_integer as is_integer_type, number_in, part_after, part_at, part_of, type_at, written_out}
use Rattle.types.specs.References.{is_opaque, is_opaque_type, struct_named}
use Rattle.types.specs.ValueTypes.{instruction_at, instruction_in}
use Rattle.certs.specs.Families.{family_after, family_in, family_of_element, family_of_op, family_of_part, family_of_pointer, family_of_slot, family_of_sort, family_of_struct, family_of_type, family_of_value, is_address, is_integer, is_opaque_text, is_reference, may_be_outside, refers_to, same_bits}
use Rattle.certs.specs.declared.family.Family.{Family}
use Rattle.certs.specs.declared.family.Family.TheVariants.{Number, Reference, AnyReference, Address, Opaque, Nothing}
use Rattle.replaced_fits.specs.Closed.{AreBodyTypesBelow, ArePartsBelow, AreTypesBelow, IsClosed, IsClosedFunction}
use Rattle.replaced_fits.proofs.Implies.{Implies}

-- Types stay at their places in the second module, names of structs mean what they meant, and all else of the tables is the same.
pub record Grows (m n : Module) : Type 0 where
  pub types : (written : ℕ) (t : IrType) → slice_get m.types written ≡ Some t → slice_get n.types written ≡ Some t
  pub names : (name : ℕ) → struct_named n name ≡ struct_named m name
  pub structs : n.structs ≡ m.structs
  pub globals : n.globals ≡ m.globals
  pub declares : n.declares ≡ m.declares
  pub sorts : n.sorts ≡ m.sorts
  pub shapes : n.shapes ≡ m.shapes
  pub opaque : is_opaque_text n ≡ is_opaque_text m
  pub wide : n.wide ≡ m.wide

-- what such a value is then: the same, or anything, where nothing was known of it
abbrev pub Becomes : (before after : Family) → Type 0
Becomes before after = (after ≡ before) ⊎ (before ≡ Nothing)

-- ---- what may be said of it may be said of it then

pub refers : (before after : Family) (layout : ℕ) → Becomes before after → Implies (refers_to layout before) (refers_to layout after)
refers before after layout (inl e) h = subst (λ x. refers_to layout x ≡ true) (sym e) h
refers before after layout (inr e) h = let no : false ≡ true = subst (λ x. refers_to layout x ≡ true) e h in absurd cc

pub reference : (before after : Family) → Becomes before after → Implies (is_reference before) (is_reference after)
reference before after (inl e) h = subst (λ x. is_reference x ≡ true) (sym e) h
reference before after (inr e) h = let no : false ≡ true = subst (λ x. is_reference x ≡ true) e h in absurd cc

pub address : (before after : Family) → Becomes before after → Implies (is_address before) (is_address after)
address before after (inl e) h = subst (λ x. is_address x ≡ true) (sym e) h
address before after (inr e) h = let no : false ≡ true = subst (λ x. is_address x ≡ true) e h in absurd cc

pub integer : (before after : Family) → Becomes before after → Implies (is_integer before) (is_integer after)
integer before after (inl e) h = subst (λ x. is_integer x ≡ true) (sym e) h
integer before after (inr e) h = let no : false ≡ true = subst (λ x. is_integer x ≡ true) e h in absurd cc

pub bits : (before after : Family) (b : Option ℕ) → Becomes before after → Implies (is_some (same_bits before b)) (is_some (same_bits after b))
bits before after b (inl e) h = subst (λ x. is_some (same_bits x b) ≡ true) (sym e) h
bits before after b (inr e) h = let no : false ≡ true = subst (λ x. is_some (same_bits x b) ≡ true) e h in absurd cc

wide_too : (m n : Module) (f : Family) → n.wide ≡ m.wide → may_be_outside m f ≡ true → may_be_outside n f ≡ true
wide_too m n (Number bits) e h = h
wide_too m n (Reference layout) e h = e ∙ h
wide_too m n AnyReference e h = e ∙ h
wide_too m n Address e h = e ∙ h
wide_too m n Opaque e h = e ∙ h
wide_too m n Nothing e h = h

pub outside : (m n : Module) (before after : Family) → n.wide ≡ m.wide → Becomes before after → Implies (may_be_outside m before) (may_be_outside n after)
outside m n before after wide (inl e) h = subst (λ x. may_be_outside n x ≡ true) (sym e) (wide_too m n before wide h)
outside m n before after wide (inr e) h = let no : false ≡ true = subst (λ x. may_be_outside m x ≡ true) e h in absurd cc

-- ---- types

module _ (m n : Module) (g : Grows m n) (closed : IsClosed m) where
  pub type_same : (written : ℕ) → written < length m.types → slice_get n.types written ≡ slice_get m.types written
  type_same written less = let here = get_some m.types written less in g.types written here.0 here.1 ∙ sym here.1

  after_same : (found : Option IrType) → family_after n found ≡ family_after m found
  after_same None = refl
  after_same (Some type.Void) = refl
  after_same (Some (type.Integer bits)) = refl
  after_same (Some type.Float) = refl
  after_same (Some type.Double) = refl
  after_same (Some (type.Pointer part)) = refl
  after_same (Some type.Opaque) = refl
  after_same (Some (type.Array length part)) = refl
  after_same (Some type.EmptyStruct) = refl
  after_same (Some (type.Struct first rest)) = refl
  after_same (Some (type.Named name)) = ap family_of_struct (g.names name)

  pointer_same : (part : ℕ) → part < length m.types → family_of_pointer n part ≡ family_of_pointer m part
  pointer_same part less = ap (family_after n) (type_same part less) ∙ after_same (slice_get m.types part)

  in_same : (t : IrType) → ArePartsBelow (length m.types) t → family_in n (Some t) ≡ family_in m (Some t)
  in_same type.Void h = refl
  in_same (type.Integer bits) h = refl
  in_same type.Float h = refl
  in_same type.Double h = refl
  in_same (type.Pointer part) h = pointer_same part h
  in_same type.Opaque h = refl
  in_same (type.Array length part) h = refl
  in_same type.EmptyStruct h = refl
  in_same (type.Struct first rest) h = refl
  in_same (type.Named name) h = refl

  -- what a value of a type is
  pub type_becomes : (written : ℕ) → Becomes (family_of_type m written) (family_of_type n written)
  type_becomes written = by (slice_get m.types written) refl where
    by : (found : Option IrType) → slice_get m.types written ≡ found → Becomes (family_of_type m written) (family_of_type n written)
    by None e = inr (ap (family_in m) e)
    by (Some t) e = inl (ap (family_in n) (g.types written t e) ∙ in_same t (closed.parts written t e) ∙ sym (ap (family_in m) e))

  slot_same : (held : ℕ) → held < length m.types → family_of_slot n held ≡ family_of_slot m held
  slot_same held less = ap₂ (λ b x. if b then Opaque else x) g.opaque (pointer_same held less)

  pub opaque_same : (written : ℕ) → written < length m.types → is_opaque n written ≡ is_opaque m written
  opaque_same written less = ap is_opaque_type (type_same written less)

  -- ---- parts of types

  -- a part is found then too, and it was in the table
  abbrev IsFoundThen : (before after : Option ℕ) → Type 0
  IsFoundThen before after = (before ≡ None) ⊎ ((part : ℕ) × (before ≡ Some part) × (after ≡ Some part) × (part < length m.types))

  abbrev pub IsClosedType : Option IrType → Type 0
  IsClosedType None = Unit {0}
  IsClosedType (Some t) = ArePartsBelow (length m.types) t

  pub closed_at : (written : ℕ) → IsClosedType (slice_get m.types written)
  closed_at written = by (slice_get m.types written) refl where
    by : (found : Option IrType) → slice_get m.types written ≡ found → IsClosedType found
    by None e = tt
    by (Some t) e = closed.parts written t e

  field_found : (t : Option IrType) (k : ℕ) → IsClosedType t → IsFoundThen (field_in m t k) (field_in n t k)
  field_found None k h = inl refl
  field_found (Some type.Void) k h = inl refl
  field_found (Some (type.Integer bits)) k h = inl refl
  field_found (Some type.Float) k h = inl refl
  field_found (Some type.Double) k h = inl refl
  field_found (Some (type.Pointer part)) k h = inl refl
  field_found (Some type.Opaque) k h = inl refl
  field_found (Some (type.Array length part)) k h = inl refl
  field_found (Some type.EmptyStruct) k h = inl refl
  field_found (Some (type.Struct first rest)) zero h = inr (first, refl, refl, h.0)
  field_found (Some (type.Struct first rest)) (suc k) h =
      subst (λ (x : Option IrType). IsFoundThen (field_in m (slice_get m.types rest) k) (field_in n x k)) (sym (type_same rest h.1)) (field_found (slice_get m.types rest) k (closed_at rest))
  field_found (Some (type.Named name)) k h = inl refl

  field_of : (written k : ℕ) → written < length m.types → IsFoundThen (field_in m (slice_get m.types written) k) (field_in n (slice_get n.types written) k)
  field_of written k less =
      subst (λ (x : Option IrType). IsFoundThen (field_in m (slice_get m.types written) k) (field_in n x k)) (sym (type_same written less)) (field_found (slice_get m.types written) k (closed_at written))

  body_same : (name : ℕ) → body_named n name ≡ body_named m name
  body_same name = ap (body_of_layout n) (g.names name) ∙ by (struct_named m name) where
    by : (layout : Option ℕ) → body_of_layout n layout ≡ body_of_layout m layout
    by None = refl
    by (Some layout) = ap (λ structs. body_in (slice_get structs layout)) g.structs

  body_below : (name body : ℕ) → body_named m name ≡ Some body → body < length m.types
  body_below name body = by (struct_named m name) where
    at : (layout : ℕ) (found : Option StructType) → slice_get m.structs layout ≡ found → body_in found ≡ Some body → body < length m.types
    at layout None e h = absurd cc
    at layout (Some struct) e h = let same : struct.body ≡ body = cc in subst (λ (x : ℕ). x < length m.types) same (closed.structs layout struct e)

    by : (layout : Option ℕ) → body_of_layout m layout ≡ Some body → body < length m.types
    by None h = absurd cc
    by (Some layout) h = at layout (slice_get m.structs layout) refl h

  -- the field of a type that may be a name
  named_field : (name k : ℕ) (body : Option ℕ) → body_named m name ≡ body → IsFoundThen (field_in m (type_at m body) k) (field_in n (type_at n body) k)
  named_field name k None e = inl refl
  named_field name k (Some body) e = field_of body k (body_below name body e)

  written_field : (written k : ℕ) (t : Option IrType) → written < length m.types → slice_get m.types written ≡ t → IsFoundThen (field_in m (type_at m (written_out m written t)) k) (field_in n (type_at n (written_out n written t)) k)
  written_field written k None less e = inl refl
  written_field written k (Some type.Void) less e = field_of written k less
  written_field written k (Some (type.Integer bits)) less e = field_of written k less
  written_field written k (Some type.Float) less e = field_of written k less
  written_field written k (Some type.Double) less e = field_of written k less
  written_field written k (Some (type.Pointer part)) less e = field_of written k less
  written_field written k (Some type.Opaque) less e = field_of written k less
  written_field written k (Some (type.Array length part)) less e = field_of written k less
  written_field written k (Some type.EmptyStruct) less e = field_of written k less
  written_field written k (Some (type.Struct first rest)) less e = field_of written k less
  written_field written k (Some (type.Named name)) less e =
      subst (λ (x : Option ℕ). IsFoundThen (field_in m (type_at m (body_named m name)) k) (field_in n (type_at n x) k)) (sym (body_same name)) (named_field name k (body_named m name) refl)

  field_at_found : (written k : ℕ) → written < length m.types → IsFoundThen (field_at m written k) (field_at n written k)
  field_at_found written k less =
      subst (λ (x : Option IrType). IsFoundThen (field_at m written k) (field_in n (type_at n (written_out n written x)) k)) (sym (type_same written less))
      (written_field written k (slice_get m.types written) less refl)

  -- ---- indices

  integer_then : (written : ℕ) → Implies (is_integer_type (slice_get m.types written)) (is_integer_type (slice_get n.types written))
  integer_then written = by (slice_get m.types written) refl where
    by : (found : Option IrType) → slice_get m.types written ≡ found → is_integer_type found ≡ true → is_integer_type (slice_get n.types written) ≡ true
    by None e h = absurd cc
    by (Some t) e h = ap is_integer_type (g.types written t e) ∙ h

  i32_then : (written : ℕ) → Implies (is_i32 (slice_get m.types written)) (is_i32 (slice_get n.types written))
  i32_then written = by (slice_get m.types written) refl where
    by : (found : Option IrType) → slice_get m.types written ≡ found → is_i32 found ≡ true → is_i32 (slice_get n.types written) ≡ true
    by None e h = absurd cc
    by (Some t) e h = ap is_i32 (g.types written t e) ∙ h

  -- a number that is found only where a test holds
  number_then : (b c : Bool) (x : Option ℕ) → Implies b c → ((if b then x else None) ≡ None) ⊎ ((if c then x else None) ≡ (if b then x else None))
  number_then false c x h = inl refl
  number_then true c x h = inr (ap (λ t. if t then x else None) (h refl))

  part_then : (b c : Bool) (part : ℕ) → Implies b c → part < length m.types → IsFoundThen (if b then Some part else None) (if c then Some part else None)
  part_then false c part h less = inl refl
  part_then true c part h less = inr (part, refl, ap (λ t. if t then Some part else None) (h refl), less)

  field_by_found : (written : ℕ) (before after : Option ℕ) → written < length m.types → (before ≡ None) ⊎ (after ≡ before) → IsFoundThen (field_by m written before) (field_by n written after)
  field_by_found written before after less (inl e) = inl (ap (field_by m written) e)
  field_by_found written before after less (inr e) = subst (λ (x : Option ℕ). IsFoundThen (field_by m written before) (field_by n written x)) (sym e) (by before) where
    by : (k : Option ℕ) → IsFoundThen (field_by m written k) (field_by n written k)
    by None = inl refl
    by (Some k) = field_at_found written k less

  index_found : (written : ℕ) (index : Argument) → written < length m.types → IsFoundThen (field_by m written (index_number m index)) (field_by n written (index_number n index))
  index_found written index less =
      field_by_found written (index_number m index) (index_number n index) less
      (number_then (is_i32 (slice_get m.types index.written)) (is_i32 (slice_get n.types index.written)) (number_in index.operand) (i32_then index.written))

  part_by : (written : ℕ) (index : Argument) (t : Option IrType) → written < length m.types → IsClosedType t → IsFoundThen (part_of m written t index) (part_of n written t index)
  part_by written index None less h = index_found written index less
  part_by written index (Some type.Void) less h = index_found written index less
  part_by written index (Some (type.Integer bits)) less h = index_found written index less
  part_by written index (Some type.Float) less h = index_found written index less
  part_by written index (Some type.Double) less h = index_found written index less
  part_by written index (Some (type.Pointer part)) less h = index_found written index less
  part_by written index (Some type.Opaque) less h = index_found written index less
  part_by written index (Some (type.Array length part)) less h = part_then (is_integer_type (slice_get m.types index.written)) (is_integer_type (slice_get n.types index.written)) part (integer_then index.written) h
  part_by written index (Some type.EmptyStruct) less h = index_found written index less
  part_by written index (Some (type.Struct first rest)) less h = index_found written index less
  part_by written index (Some (type.Named name)) less h = index_found written index less

  part_found : (written : ℕ) (index : Argument) → written < length m.types → IsFoundThen (part_at m written index) (part_at n written index)
  part_found written index less =
      subst (λ (x : Option IrType). IsFoundThen (part_at m written index) (part_of n written x index)) (sym (type_same written less)) (part_by written index (slice_get m.types written) less (closed_at written))

  parts_found : (indices : List Argument) (before after : Option ℕ) → IsFoundThen before after → IsFoundThen (part_after m before indices) (part_after n after indices)
  parts_found indices before after (inl e) = inl (ap (λ x. part_after m x indices) e)
  parts_found [] before after (inr p) = inr (p.0, ap (λ x. part_after m x []) p.1, ap (λ x. part_after n x []) p.2, p.3)
  parts_found (index ∷ indices) before after (inr p) =
      subst (λ (x : Option ℕ). IsFoundThen (part_after m x (index ∷ indices)) (part_after n after (index ∷ indices))) (sym p.1)
      (subst (λ (x : Option ℕ). IsFoundThen (part_after m (Some p.0) (index ∷ indices)) (part_after n x (index ∷ indices))) (sym p.2)
      (parts_found indices (part_at m p.0 index) (part_at n p.0 index) (part_found p.0 index p.3)))

  element_found : (source : ℕ) (indices : List Argument) → source < length m.types → IsFoundThen (element_type m source indices) (element_type n source indices)
  element_found source [] less = inl refl
  element_found source (first ∷ indices) less = parts_found indices (Some source) (Some source) (inr (source, refl, refl, less))

  -- ---- values

  part_becomes : (before after : Option ℕ) → IsFoundThen before after → Becomes (family_of_part m before) (family_of_part n after)
  part_becomes before after (inl e) = inr (ap (family_of_part m) e)
  part_becomes before after (inr p) = inl (ap (family_of_part n) p.2 ∙ pointer_same p.0 p.3 ∙ sym (ap (family_of_part m) p.1))

  either_becomes : (b c : Bool) (before after : Family) → c ≡ b → Becomes before after → Becomes (if b then Opaque else before) (if c then Opaque else after)
  either_becomes true c before after e h = inl (ap (λ x. if x then Opaque else after) e)
  either_becomes false c before after e h = subst (λ (x : Bool). Becomes before (if x then Opaque else after)) (sym e) h

  op_becomes : (x : Op) → AreTypesBelow (length m.types) x → Becomes (family_of_op m x) (family_of_op n x)
  op_becomes (op.Number x) h = inl refl
  op_becomes (op.Memory x) h = inl refl
  op_becomes (op.Element x) h =
      either_becomes (is_opaque m x.base_type) (is_opaque n x.base_type) (family_of_part m (element_type m x.source x.indices)) (family_of_part n (element_type n x.source x.indices)) (opaque_same x.base_type h.1)
      (part_becomes (element_type m x.source x.indices) (element_type n x.source x.indices) (element_found x.source x.indices h.0))
  op_becomes (op.Cast x) h = inl refl
  op_becomes (op.Choice x) h = inl refl
  op_becomes (op.Call x) h = inl refl

  module _ (f : Function) (own : IsClosedFunction m f) where
    instr_below : (block place : ℕ) (instr : Instr) → instruction_at f block place ≡ Some instr → AreTypesBelow (length m.types) instr.op
    instr_below block place instr = by (slice_get f.blocks block) refl where
      by : (found : Option Block) → slice_get f.blocks block ≡ found → instruction_in found place ≡ Some instr → AreTypesBelow (length m.types) instr.op
      by None e h = absurd cc
      by (Some b) e h =
          let within : AreBodyTypesBelow (length m.types) b = all_get (AreBodyTypesBelow (length m.types)) f.blocks block b own.blocks e in
          all_get (λ (x : Instr). AreTypesBelow (length m.types) x.op) b.body place instr within h

    element_becomes : (block place : ℕ) → Becomes (family_of_element m (instruction_at f block place)) (family_of_element n (instruction_at f block place))
    element_becomes block place = by (instruction_at f block place) refl where
      by : (found : Option Instr) → instruction_at f block place ≡ found → Becomes (family_of_element m found) (family_of_element n found)
      by None e = inl refl
      by (Some instr) e = op_becomes instr.op (instr_below block place instr e)

    -- what a local name's value is
    pub value_becomes : (value : ℕ) → Becomes (family_of_value m f value) (family_of_value n f value)
    value_becomes value = by (slice_get f.sorts value) refl where
      by : (found : Option LocalSort) → slice_get f.sorts value ≡ found → Becomes (family_of_sort m f found) (family_of_sort n f found)
      by None e = inl refl
      by (Some sort.Unknown) e = inl refl
      by (Some (sort.Value written)) e = type_becomes written
      by (Some (sort.Slot held)) e = inl (slot_same held (own.slots value held e))
      by (Some (sort.Element block place)) e = element_becomes block place
      by (Some (sort.Block block)) e = inl refl
