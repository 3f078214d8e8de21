-- What each slot of a function holds is in the table of types while the function is read.
use Rattle.std.proofs.Common.{◌≡◌, ◌<◌, ℕ, Bool, true, false, List, length, if◌then◌else◌, Option, None, Some, refl, sym, subst, ◌∙◌, inl, inr}
use Rattle.std.specs.Prelude.{nat_lt, slice_set}
use Rattle.std.specs.Fmt.{decimal}
use Rattle.lemmas.specs.Lists.{get_either, set_either}
use Rattle.ir_ast.specs.Names.{place_of}
use Rattle.ir_ast.specs.declared.block.Block.{Block}
use Rattle.ir_ast.specs.declared.function.Function.{Function}
use Rattle.ir_ast.specs.declared.function.LocalSort.{LocalSort}
use Rattle.ir_ast.specs.declared.function.LocalSort.TheVariants as local
use Rattle.ir_ast.specs.declared.function.Parameter.{Parameter}
use Rattle.ir_ast.specs.declared.module.Module.{Module}
use Rattle.ir_tokens.specs.declared.token.Kind.TheVariants as k
use Rattle.ir_tokens.specs.Bytes.{Text}
use Rattle.ir_forms.specs.Table.{defined, empty, mentioned, sorts_with}
use Rattle.ir_forms.specs.declared.decorating.Spot.TheVariants as spot
use Rattle.ir_forms.specs.declared.input.Input.{Input}
use Rattle.ir_forms.specs.declared.table.Table.{Table}
use Rattle.ir_text.specs.Blocks.{blocks}
use Rattle.ir_forms.specs.Input.{expect}
use Rattle.ir_forms.specs.Cursor.{local_key}
use Rattle.ir_forms.specs.Names.{key_number, local_number, new_value, numbered_value, unnamed_value, new_label, numbered_label, unnamed_label}
use Rattle.ir_text.specs.ItemsOfText.{head_end, open_body}
use Rattle.ir_text.specs.Parameters.{parameters}
use Rattle.ir_print_law.specs.PartsWithin.{AreSlotsBelow}
use Rattle.ir_print_law.proofs.Blocks.{blocks_keep, parameters_keep}
use Rattle.ir_print_law.proofs.FunctionEnds.{nothing}
use Rattle.ir_print_law.proofs.FunctionNamed.{taken, next_taken, new_value_is, new_label_is}
use Rattle.ir_print_law.proofs.FunctionsRead.{head_end_keeps, open_body_passes}
use Rattle.ir_print_law.proofs.Growth.{Nowhere, some_function}
use Rattle.ir_print_law.proofs.Passes.{expect_passes}
use Rattle.ir_print_law.proofs.Reading.{Kit, Builder, Reading, IsSortWithin, within_of}
use Rattle.ir_print_law.proofs.Tables.{type_further}

-- a name that is new stands for nothing so far
new_slots : (count : ℕ) (sorts : List LocalSort) (place : Option ℕ) → AreSlotsBelow count sorts → AreSlotsBelow count (sorts_with place local.Unknown sorts)
new_slots count sorts (Some n) h value held at = h value held at
new_slots count sorts None h value held at = elim (get_either sorts local.Unknown value (local.Slot held) at) [
  | inl p ↦ h value held p
  | inr p ↦ absurd (let no = p.1 in cc)
]

-- the name stands for this from now on
put_slots : (count n : ℕ) (sort : LocalSort) (t : Table LocalSort) → ((held : ℕ) → sort ≡ local.Slot held → held < count) → AreSlotsBelow count t.sorts → AreSlotsBelow count (defined n sort t).sorts
put_slots count n sort t own h = by (nat_lt n (length t.sorts)) where
  by : (b : Bool) → AreSlotsBelow count (if b then slice_set t.sorts n sort else t.sorts)
  by false = h
  by true = λ value held at. elim (set_either t.sorts n sort value (local.Slot held) at) [
    | inl p ↦ h value held p
    | inr p ↦ own held p.1
  ]

-- a slot of a sort of a value is in the table
sort_slot : (count : ℕ) (sort : LocalSort) → IsSortWithin count sort → (held : ℕ) → sort ≡ local.Slot held → held < count
sort_slot count (local.Slot own) is held e = let same : own ≡ held = cc in subst (λ (x : ℕ). x < count) same is
sort_slot count (local.Value t) is held e = absurd cc
sort_slot count (local.Element block place) is held e = absurd cc
sort_slot count local.Unknown is held e = absurd is
sort_slot count (local.Block b) is held e = absurd is

abbrev Slots : Input → Type 0
Slots i = AreSlotsBelow (length i.types) i.locals.sorts

module _ (m : Module) where
  abbrev kit : (f : Function) → Kit m f Slots (Nowhere m)
  kit f = record {
    ordered = λ i back. absurd back;
    bytes = λ i h back. absurd back;
    forms = λ i back. absurd back;
    has_types = λ i back. absurd back;
    has_structs = λ i back. absurd back;
    has_symbols = λ i back. absurd back;
    has_locals = λ i back. absurd back;
    on_token = λ i h. h;
    from_token = λ i back. back;
    on_type = λ i t next h value held at. type_further t i.types held (h value held at);
    from_type = λ i t back. back;
    on_struct = λ i h. h;
    from_struct = λ i back. back;
    struct_is = λ i back. absurd back;
    on_symbol = λ i is_call h. h;
    from_symbol = λ i is_call back. back;
    symbol_is = λ i is_call back. absurd back;
    on_lost = λ i lost h. h;
    from_lost = λ i lost back. back;
    on_local = λ i wanted h. new_slots (length i.types) i.locals.sorts (place_of _ i.locals.names) h;
    from_local = λ i wanted back. back;
    local_is = λ i wanted back. absurd back;
  }

  -- ---- names of the function

  value_slots : (i : Input) (n : ℕ) (o : Input) → new_value.says i n o → Slots i → Slots o
  value_slots i n o said h = subst Slots (new_value_is i n o said).3 (new_slots (length i.types) i.locals.sorts (place_of _ i.locals.names) h)

  numbered_slots : (i : Input) (n : ℕ) (o : Input) → numbered_value.says i n o → Slots i → Slots o
  unfolding numbered_value
  numbered_slots i n o said h = value_slots said.1 n o said.3 (subst Slots (next_taken i said.0 said.1 said.2).1.1 h)

  unnamed_slots : (i : Input) (n : ℕ) (o : Input) → unnamed_value.says i n o → Slots i → Slots o
  unfolding unnamed_value
  unnamed_slots i n o said h =
      let form = said.3 in
      let before = subst Slots (form.2.2.1 ∙ form.2.3.1) (subst Slots (taken i said.0 said.1 said.2).1 h) in
      let j = form.1 in
      subst Slots form.3.1 (new_slots (length j.types) j.locals.sorts (place_of (decimal i.unnamed) j.locals.names) before)

  label_slots : (b : ℕ) (i : Input) (n : ℕ) (o : Input) → (new_label b).says i n o → Slots i → Slots o
  label_slots b i n o said h =
      subst Slots (new_label_is b i n o said).2
      (put_slots (length i.types) (local_number i) (local.Block b) (mentioned (local_key i.cursor) local.Unknown i.locals) (λ held e. absurd cc)
      (new_slots (length i.types) i.locals.sorts (place_of (local_key i.cursor) i.locals.names) h))

  numbered_label_slots : (b : ℕ) (i : Input) (n : ℕ) (o : Input) → (numbered_label b).says i n o → Slots i → Slots o
  unfolding numbered_label
  numbered_label_slots b i n o said h = label_slots b said.1 n o said.3 (subst Slots (next_taken i said.0 said.1 said.2).1.1 h)

  unnamed_label_slots : (b : ℕ) (i : Input) (n : ℕ) (o : Input) → (unnamed_label b).says i n o → Slots i → Slots o
  unfolding unnamed_label
  unnamed_label_slots b i n o said h =
      let form = said.3 in
      let before = subst Slots form.2.1 (subst Slots (taken i said.0 said.1 said.2).1 h) in
      let j = form.1 in
      subst Slots form.3.1
      (put_slots (length j.types) (key_number (decimal i.unnamed) j) (local.Block b) (mentioned (decimal i.unnamed) local.Unknown j.locals) (λ held e. absurd cc)
      (new_slots (length j.types) j.locals.sorts (place_of (decimal i.unnamed) j.locals.names) before))

  abbrev builder : (f : Function) → Builder m f (Nowhere m) (λ g. Slots) (λ g n. Slots)
  builder f = record {
    kit = λ g. kit f;
    open_kit = λ g n. kit f;
    on_sort = λ g n i sort is h. put_slots (length i.types) n sort i.locals (sort_slot (length i.types) sort is) h;
    from_sort = λ n i sort back. back;
    named = λ g i is n o said h. (value_slots i n o said h, λ back. absurd back);
    numbered = λ g i is n o said h. (numbered_slots i n o said h, λ back. absurd back);
    unnamed = λ g i n o said h. (unnamed_slots i n o said h, λ back. absurd back);
    named_label = λ g i is n o said h. (label_slots (length g.labels) i n o said h, λ back. absurd back);
    numbered_label_is = λ g i is n o said h. (numbered_label_slots (length g.labels) i n o said h, λ back. absurd back);
    unnamed_label_is = λ g i n o said h. (unnamed_label_slots (length g.labels) i n o said h, λ back. absurd back);
  }

  -- so it is after the parameters and blocks of a function, where none of its own names was read before
  pub slots_there : (ps : List Parameter) (c : Option Text) (bs : List Block) (i i1 i2 i3 i4 i5 i6 o : Input)
      → (expect k.OpenRound).says i tt i1 → parameters.says i1 ps i2 → (expect k.CloseRound).says i2 tt i3 → (head_end spot.Defined).says i3 c i4
      → open_body.says i4 tt i5 → blocks.says i5 bs i6 → (expect k.CloseBrace).says i6 tt o → i.locals ≡ empty → AreSlotsBelow (length o.types) o.locals.sorts
  slots_there ps c bs i i1 i2 i3 i4 i5 i6 o s1 s2 s3 s4 s5 s6 s7 none =
      let b = builder (some_function m) in
      let r : Reading m = (within_of (kit (some_function m))).reading in
      let start : Slots i = subst (λ (t : Table LocalSort). AreSlotsBelow (length i.types) t.sorts) (sym none) (λ value held at. absurd cc) in
      let a1 = expect_passes r k.OpenRound i tt i1 s1 start in
      let a2 = parameters_keep b nothing i1 ps i2 s2 a1.0 in
      let a3 = expect_passes r k.CloseRound i2 tt i3 s3 a2.0 in
      let a4 = head_end_keeps r spot.Defined i3 c i4 s4 a3.0 in
      let a5 = open_body_passes r i4 tt i5 s5 a4.0 in
      let a6 = blocks_keep b nothing i5 refl bs i6 s6 a5.0 in
      (expect_passes r k.CloseBrace i6 tt o s7 a6.0).0
