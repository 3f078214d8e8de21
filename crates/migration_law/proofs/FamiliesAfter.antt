-- What a value is before and after its text is made opaque.
use Rattle.std.proofs.Common.{◌≡◌, ◌⊎◌, inl, inr, ℕ, zero, suc, Bool, true, false, List, [], ◌∷◌, map, slice_get, is_some, if◌then◌else◌, ◌==◌, Option, None, Some, refl, sym, ap, ◌∙◌, subst, true≢false, option_map}
use Rattle.std.proofs.lemmas.Option.{slice_get-map}
use Rattle.std.specs.List.{list_any}
use Rattle.lemmas.specs.Bools.{or_first, or_second}
use Rattle.lemmas.specs.Numbers.{test_same}
use Rattle.ir_ast.specs.declared.block.Block.{Block}
use Rattle.ir_ast.specs.declared.function.Function.{Function}
use Rattle.ir_ast.specs.declared.function.LocalSort.{LocalSort}
use Rattle.ir_ast.specs.declared.function.LocalSort.TheVariants as sort
use Rattle.ir_ast.specs.declared.instr.Instr.{Instr}
use Rattle.ir_ast.specs.declared.ir_type.IrType.{IrType}
use Rattle.ir_ast.specs.declared.ir_type.IrType.TheVariants as type
use Rattle.ir_ast.specs.declared.module.Module.{Module}
use Rattle.ir_ast.specs.declared.op.Op.{Op}
use Rattle.ir_ast.specs.declared.op.Op.TheVariants as op
use Rattle.copies.specs.Opaque.{new_number, opaque_block, opaque_function, opaque_instr, opaque_argument, opaque_module, opaque_op, opaque_sort, opaque_type, opaque_types}
use Rattle.types.specs.Elements.{element_type}
use Rattle.types.specs.References.{is_opaque, is_opaque_type, layout_after, layout_of_struct, part_of_pointer, pointee, referenced_layout, struct_in, struct_named}
use Rattle.types.specs.ValueTypes.{instruction_at, instruction_in}
use Rattle.certs.specs.Families.{family_after, family_in, family_of_element, family_of_op, family_of_part, family_of_pointer, family_of_sort, family_of_struct, family_of_type, family_of_value, is_address, is_integer, is_opaque_text, is_reference, may_be_outside, refers_to, same_bits}
use Rattle.certs.specs.Fits.{stands_for}
use Rattle.certs.specs.declared.family.Family.{Family}
use Rattle.certs.specs.declared.family.Family.TheVariants.{Number, Reference, AnyReference, Address, Opaque, Nothing}
use Rattle.migration_law.specs.MigratedFits.{IsTypedFunction}
use Rattle.migration_law.proofs.Implies.{Implies}
use Rattle.migration_law.proofs.Tables.{type_after, none_after}

-- what such a value is in opaque text: the same, or what a `ptr` is, where it is no integer
abbrev pub Becomes : (before after : Family) → Type 0
Becomes before after = (after ≡ before) ⊎ ((after ≡ Opaque) × (is_integer before ≡ false))

-- ---- what may be said of it may be said of it then

pub refers : (before after : Family) (layout : ℕ) → Becomes before after → Implies (refers_to layout before) (refers_to layout after)
refers before after layout (inl e) h = subst (λ x. refers_to layout x ≡ true) (sym e) h
refers before after layout (inr p) h = subst (λ x. refers_to layout x ≡ true) (sym p.0) refl

pub reference : (before after : Family) → Becomes before after → Implies (is_reference before) (is_reference after)
reference before after (inl e) h = subst (λ x. is_reference x ≡ true) (sym e) h
reference before after (inr p) h = subst (λ x. is_reference x ≡ true) (sym p.0) refl

pub address : (before after : Family) → Becomes before after → Implies (is_address before) (is_address after)
address before after (inl e) h = subst (λ x. is_address x ≡ true) (sym e) h
address before after (inr p) h = subst (λ x. is_address x ≡ true) (sym p.0) refl

pub integer : (before after : Family) → Becomes before after → Implies (is_integer before) (is_integer after)
integer before after (inl e) h = subst (λ x. is_integer x ≡ true) (sym e) h
integer before after (inr p) h = absurd (true≢false (sym h ∙ p.1))

no_bits : (f : Family) (b : Option ℕ) → is_integer f ≡ false → is_some (same_bits f b) ≡ false
no_bits (Number bits) b e = absurd (true≢false e)
no_bits (Reference layout) b e = refl
no_bits AnyReference b e = refl
no_bits Address b e = refl
no_bits Opaque b e = refl
no_bits Nothing b e = refl

pub bits : (before after : Family) (b : Option ℕ) → Becomes before after → Implies (is_some (same_bits before b)) (is_some (same_bits after b))
bits before after b (inl e) h = subst (λ x. is_some (same_bits x b) ≡ true) (sym e) h
bits before after b (inr p) h = absurd (true≢false (sym h ∙ no_bits before b p.1))

-- a pointer that may be an address outside stands in a text with the wide forms
wide_there : (m : Module) (f : Family) → may_be_outside m f ≡ true → m.wide ≡ true
wide_there m (Number bits) h = absurd (true≢false (sym h))
wide_there m (Reference layout) h = h
wide_there m AnyReference h = h
wide_there m Address h = h
wide_there m Opaque h = h
wide_there m Nothing h = absurd (true≢false (sym h))

wide_too : (m n : Module) (f : Family) → n.wide ≡ m.wide → may_be_outside m f ≡ true → may_be_outside n f ≡ true
wide_too m n (Number bits) e h = h
wide_too m n (Reference layout) e h = e ∙ h
wide_too m n AnyReference e h = e ∙ h
wide_too m n Address e h = e ∙ h
wide_too m n Opaque e h = e ∙ h
wide_too m n Nothing e h = h

pub outside : (m n : Module) (before after : Family) → n.wide ≡ m.wide → Becomes before after → Implies (may_be_outside m before) (may_be_outside n after)
outside m n before after wide (inl e) h = subst (λ x. may_be_outside n x ≡ true) (sym e) (wide_too m n before wide h)
outside m n before after wide (inr p) h = subst (λ x. may_be_outside n x ≡ true) (sym p.0) (wide ∙ wide_there m before h)

-- ---- what is no integer

no_integer_by : (b : Bool) → is_integer (if b then AnyReference else Address) ≡ false
no_integer_by true = refl
no_integer_by false = refl

no_integer_struct : (layout : Option ℕ) → is_integer (family_of_struct layout) ≡ false
no_integer_struct None = refl
no_integer_struct (Some layout) = refl

no_integer_after : (m : Module) (t : Option IrType) → is_integer (family_after m t) ≡ false
no_integer_after m None = refl
no_integer_after m (Some type.Void) = refl
no_integer_after m (Some (type.Integer bits)) = no_integer_by (bits == 8)
no_integer_after m (Some type.Float) = refl
no_integer_after m (Some type.Double) = refl
no_integer_after m (Some (type.Pointer part)) = refl
no_integer_after m (Some type.Opaque) = refl
no_integer_after m (Some (type.Array length part)) = refl
no_integer_after m (Some type.EmptyStruct) = refl
no_integer_after m (Some (type.Struct first rest)) = refl
no_integer_after m (Some (type.Named name)) = no_integer_struct (struct_named m name)

no_integer_pointer : (m : Module) (part : ℕ) → is_integer (family_of_pointer m part) ≡ false
no_integer_pointer m part = no_integer_after m (slice_get m.types part)

no_integer_part : (m : Module) (part : Option ℕ) → is_integer (family_of_part m part) ≡ false
no_integer_part m None = refl
no_integer_part m (Some part) = no_integer_pointer m part

no_integer_if : (b : Bool) (other : Family) → is_integer other ≡ false → is_integer (if b then Opaque else other) ≡ false
no_integer_if true other e = refl
no_integer_if false other e = e

-- ---- types

module _ (m : Module) where
  abbrev pub o : Module
  o = opaque_module m

  abbrev pub numbers : List ℕ
  numbers = (opaque_types m.types).numbers

  -- what a value of a type is
  pub type_becomes : (n : ℕ) → Becomes (family_of_type m n) (family_of_type o (new_number numbers n))
  type_becomes n = by (slice_get m.types n) refl where
    moved : (x y : Option IrType) → slice_get m.types n ≡ x → slice_get o.types (new_number numbers n) ≡ y → Becomes (family_in m x) (family_in o y) → Becomes (family_of_type m n) (family_of_type o (new_number numbers n))
    moved x y ex ey h = subst (λ z. Becomes (family_in m z) (family_of_type o (new_number numbers n))) (sym ex) (subst (λ z. Becomes (family_in m x) (family_in o z)) (sym ey) h)

    some : (t : IrType) → slice_get m.types n ≡ Some t → ((parts : List ℕ) → Becomes (family_in m (Some t)) (family_in o (Some (opaque_type parts t)))) → Becomes (family_of_type m n) (family_of_type o (new_number numbers n))
    some t e h = let a = type_after m.types n t e in moved (Some t) (Some (opaque_type a.0 t)) e a.1 (h a.0)

    by : (found : Option IrType) → slice_get m.types n ≡ found → Becomes (family_of_type m n) (family_of_type o (new_number numbers n))
    by None e = moved None None e (none_after m.types n e) (inl refl)
    by (Some type.Void) e = some type.Void e (λ parts. inl refl)
    by (Some (type.Integer bits)) e = some (type.Integer bits) e (λ parts. inl refl)
    by (Some type.Float) e = some type.Float e (λ parts. inl refl)
    by (Some type.Double) e = some type.Double e (λ parts. inl refl)
    by (Some (type.Pointer part)) e = some (type.Pointer part) e (λ parts. inr (refl, no_integer_pointer m part))
    by (Some type.Opaque) e = some type.Opaque e (λ parts. inl refl)
    by (Some (type.Array length part)) e = some (type.Array length part) e (λ parts. inl refl)
    by (Some type.EmptyStruct) e = some type.EmptyStruct e (λ parts. inl refl)
    by (Some (type.Struct first rest)) e = some (type.Struct first rest) e (λ parts. inl refl)
    by (Some (type.Named name)) e = some (type.Named name) e (λ parts. inl refl)

  -- a typed pointer is `ptr`
  pub pointer_is_opaque : (n : ℕ) → is_some (pointee m n) ≡ true → is_opaque o (new_number numbers n) ≡ true
  pointer_is_opaque n = by (slice_get m.types n) refl where
    no : (x : Option IrType) → slice_get m.types n ≡ x → part_of_pointer x ≡ None → is_some (pointee m n) ≡ true → is_opaque o (new_number numbers n) ≡ true
    no x e none h = absurd (true≢false (sym h ∙ ap (λ y. is_some (part_of_pointer y)) e ∙ ap is_some none))

    by : (found : Option IrType) → slice_get m.types n ≡ found → is_some (pointee m n) ≡ true → is_opaque o (new_number numbers n) ≡ true
    by None e = no None e refl
    by (Some type.Void) e = no (Some type.Void) e refl
    by (Some (type.Integer bits)) e = no (Some (type.Integer bits)) e refl
    by (Some type.Float) e = no (Some type.Float) e refl
    by (Some type.Double) e = no (Some type.Double) e refl
    by (Some (type.Pointer part)) e = λ h. ap is_opaque_type (type_after m.types n (type.Pointer part) e).1
    by (Some type.Opaque) e = no (Some type.Opaque) e refl
    by (Some (type.Array length part)) e = no (Some (type.Array length part)) e refl
    by (Some type.EmptyStruct) e = no (Some type.EmptyStruct) e refl
    by (Some (type.Struct first rest)) e = no (Some (type.Struct first rest)) e refl
    by (Some (type.Named name)) e = no (Some (type.Named name)) e refl

  -- `ptr` is `ptr`
  pub opaque_stays : (n : ℕ) → is_opaque m n ≡ true → is_opaque o (new_number numbers n) ≡ true
  opaque_stays n = by (slice_get m.types n) refl where
    no : (x : Option IrType) → slice_get m.types n ≡ x → is_opaque_type x ≡ false → is_opaque m n ≡ true → is_opaque o (new_number numbers n) ≡ true
    no x e none h = absurd (true≢false (sym h ∙ ap is_opaque_type e ∙ none))

    by : (found : Option IrType) → slice_get m.types n ≡ found → is_opaque m n ≡ true → is_opaque o (new_number numbers n) ≡ true
    by None e = no None e refl
    by (Some type.Void) e = no (Some type.Void) e refl
    by (Some (type.Integer bits)) e = no (Some (type.Integer bits)) e refl
    by (Some type.Float) e = no (Some type.Float) e refl
    by (Some type.Double) e = no (Some type.Double) e refl
    by (Some (type.Pointer part)) e = no (Some (type.Pointer part)) e refl
    by (Some type.Opaque) e = λ h. ap is_opaque_type (type_after m.types n type.Opaque e).1
    by (Some (type.Array length part)) e = no (Some (type.Array length part)) e refl
    by (Some type.EmptyStruct) e = no (Some type.EmptyStruct) e refl
    by (Some (type.Struct first rest)) e = no (Some (type.Struct first rest)) e refl
    by (Some (type.Named name)) e = no (Some (type.Named name)) e refl

  -- a type that is `ptr` is of its family
  opaque_family : (n : ℕ) → is_opaque o n ≡ true → family_of_type o n ≡ Opaque
  opaque_family n = by (slice_get o.types n) refl where
    by : (found : Option IrType) → slice_get o.types n ≡ found → is_opaque o n ≡ true → family_of_type o n ≡ Opaque
    by (Some type.Opaque) e h = ap (family_in o) e
    by None e h = absurd (true≢false (sym h ∙ ap is_opaque_type e))
    by (Some type.Void) e h = absurd (true≢false (sym h ∙ ap is_opaque_type e))
    by (Some (type.Integer bits)) e h = absurd (true≢false (sym h ∙ ap is_opaque_type e))
    by (Some type.Float) e h = absurd (true≢false (sym h ∙ ap is_opaque_type e))
    by (Some type.Double) e h = absurd (true≢false (sym h ∙ ap is_opaque_type e))
    by (Some (type.Pointer part)) e h = absurd (true≢false (sym h ∙ ap is_opaque_type e))
    by (Some (type.Array length part)) e h = absurd (true≢false (sym h ∙ ap is_opaque_type e))
    by (Some type.EmptyStruct) e h = absurd (true≢false (sym h ∙ ap is_opaque_type e))
    by (Some (type.Struct first rest)) e h = absurd (true≢false (sym h ∙ ap is_opaque_type e))
    by (Some (type.Named name)) e h = absurd (true≢false (sym h ∙ ap is_opaque_type e))

  -- a pointer to a named struct is a typed pointer
  pub points : (n layout : ℕ) → referenced_layout m n ≡ Some layout → is_some (pointee m n) ≡ true
  points n layout h = by (pointee m n) refl where
    by : (part : Option ℕ) → pointee m n ≡ part → is_some (pointee m n) ≡ true
    by (Some part) e = ap is_some e
    by None e = absurd (let none : referenced_layout m n ≡ None = ap (layout_after m) e in let both : Some layout ≡ None = sym h ∙ none in cc)

  -- a value of such a type is what a `ptr` is
  pub reference_is_opaque : (n layout : ℕ) → referenced_layout m n ≡ Some layout → family_of_type o (new_number numbers n) ≡ Opaque
  reference_is_opaque n layout h = opaque_family (new_number numbers n) (pointer_is_opaque n (points n layout h))

  -- a layout that a type names is one of the module
  named_in : (names : List (Option ℕ)) (n layout : ℕ) → slice_get names n ≡ Some (Some layout) → list_any (stands_for layout) names ≡ true
  named_in [] n layout e = absurd cc
  named_in (x ∷ names) zero layout e =
      let same : x ≡ Some layout = cc in
      or_first (stands_for layout x) (list_any (stands_for layout) names) (subst (λ y. stands_for layout y ≡ true) (sym same) (test_same layout))
  named_in (x ∷ names) (suc n) layout e = or_second (stands_for layout x) (list_any (stands_for layout) names) (named_in names n layout e)

  named_by : (name layout : ℕ) (found : Option (Option ℕ)) → slice_get m.struct_of name ≡ found → struct_in found ≡ Some layout → list_any (stands_for layout) m.struct_of ≡ true
  named_by name layout None e h = absurd cc
  named_by name layout (Some None) e h = absurd cc
  named_by name layout (Some (Some own)) e h = named_in m.struct_of name layout (e ∙ ap Some h)

  of_struct : (t : Option IrType) (layout : ℕ) → layout_of_struct m t ≡ Some layout → list_any (stands_for layout) m.struct_of ≡ true
  of_struct None layout h = absurd cc
  of_struct (Some type.Void) layout h = absurd cc
  of_struct (Some (type.Integer bits)) layout h = absurd cc
  of_struct (Some type.Float) layout h = absurd cc
  of_struct (Some type.Double) layout h = absurd cc
  of_struct (Some (type.Pointer part)) layout h = absurd cc
  of_struct (Some type.Opaque) layout h = absurd cc
  of_struct (Some (type.Array length part)) layout h = absurd cc
  of_struct (Some type.EmptyStruct) layout h = absurd cc
  of_struct (Some (type.Struct first rest)) layout h = absurd cc
  of_struct (Some (type.Named name)) layout h = named_by name layout (slice_get m.struct_of name) refl h

  of_part : (part : Option ℕ) (layout : ℕ) → layout_after m part ≡ Some layout → list_any (stands_for layout) m.struct_of ≡ true
  of_part None layout h = absurd cc
  of_part (Some part) layout h = of_struct (slice_get m.types part) layout h

  pub reference_stands : (n layout : ℕ) → referenced_layout m n ≡ Some layout → list_any (stands_for layout) m.struct_of ≡ true
  reference_stands n layout h = of_part (pointee m n) layout h

  -- ---- local names

  module _ (f : Function) (typed : IsTypedFunction m f) (opaque : is_opaque_text o ≡ true) where
    abbrev made : Function
    made = opaque_function numbers f

    in_block : (found : Option Block) (place : ℕ) → instruction_in (option_map (opaque_block numbers) found) place ≡ option_map (opaque_instr numbers) (instruction_in found place)
    in_block None place = refl
    in_block (Some block) place = slice_get-map (opaque_instr numbers) block.body place

    instruction_after : (block place : ℕ) → instruction_at made block place ≡ option_map (opaque_instr numbers) (instruction_at f block place)
    instruction_after block place = ap (λ z. instruction_in z place) (slice_get-map (opaque_block numbers) f.blocks block) ∙ in_block (slice_get f.blocks block) place

    op_becomes : (block place : ℕ) (instr : Instr) (x : Op) → instruction_at f block place ≡ Some instr → instr.op ≡ x → Becomes (family_of_op m x) (family_of_op o (opaque_op numbers x))
    op_becomes block place instr (op.Element x) at is =
        let base = pointer_is_opaque x.base_type (typed.bases block place instr x at is) in
        inr (ap (λ b. if b then Opaque else family_of_part o (element_type o (new_number numbers x.source) (map (opaque_argument numbers) x.indices))) base, no_integer_if (is_opaque m x.base_type) (family_of_part m (element_type m x.source x.indices)) (no_integer_part m (element_type m x.source x.indices)))
    op_becomes block place instr (op.Number x) at is = inl refl
    op_becomes block place instr (op.Memory x) at is = inl refl
    op_becomes block place instr (op.Cast x) at is = inl refl
    op_becomes block place instr (op.Choice x) at is = inl refl
    op_becomes block place instr (op.Call x) at is = inl refl

    element_becomes : (block place : ℕ) → Becomes (family_of_element m (instruction_at f block place)) (family_of_element o (instruction_at made block place))
    element_becomes block place = subst (λ z. Becomes (family_of_element m (instruction_at f block place)) (family_of_element o z)) (sym (instruction_after block place)) (by (instruction_at f block place) refl) where
      by : (found : Option Instr) → instruction_at f block place ≡ found → Becomes (family_of_element m found) (family_of_element o (option_map (opaque_instr numbers) found))
      by None e = inl refl
      by (Some instr) e = op_becomes block place instr instr.op e refl

    sort_becomes : (found : Option LocalSort) → Becomes (family_of_sort m f found) (family_of_sort o made (option_map (opaque_sort numbers) found))
    sort_becomes None = inl refl
    sort_becomes (Some sort.Unknown) = inl refl
    sort_becomes (Some (sort.Value written)) = type_becomes written
    sort_becomes (Some (sort.Slot held)) =
        inr (ap (λ b. if b then Opaque else family_of_pointer o (new_number numbers held)) opaque, no_integer_if (is_opaque_text m) (family_of_pointer m held) (no_integer_pointer m held))
    sort_becomes (Some (sort.Element block place)) = element_becomes block place
    sort_becomes (Some (sort.Block block)) = inl refl

    -- what a local name's value is
    pub value_becomes : (value : ℕ) → Becomes (family_of_value m f value) (family_of_value o made value)
    value_becomes value = subst (λ z. Becomes (family_of_value m f value) (family_of_sort o made z)) (sym (slice_get-map (opaque_sort numbers) f.sorts value)) (sort_becomes (slice_get f.sorts value))

    -- that of a parameter
    pub parameter_family : (value written : ℕ) → slice_get f.sorts value ≡ Some (sort.Value written) → family_of_value o made value ≡ family_of_type o (new_number numbers written)
    parameter_family value written e = ap (λ z. family_of_sort o made z) (slice_get-map (opaque_sort numbers) f.sorts value ∙ ap (option_map (opaque_sort numbers)) e)
