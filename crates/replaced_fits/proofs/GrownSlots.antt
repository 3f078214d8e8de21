-- The slots of a function where the tables of its module have grown.
use Rattle.std.proofs.Common.{◌≡◌, ◌<◌, ℕ, suc, false, List, [], ◌∷◌, ◌++◌, length, slice_get, is_some, unwrap_or, if◌then◌else◌, ◌||◌, Option, None, Some, refl, ap, ap₂, ◌∙◌}
use Rattle.std.specs.Prelude.{replicate}
use Rattle.std.specs.List.{AllByRecursion}
use Rattle.lemmas.specs.All.{all_get, all_join}
use Rattle.ir_ast.specs.Names.{name_at}
use Rattle.ir_ast.specs.Shapes.{root_shape}
use Rattle.ir_ast.specs.declared.block.Block.{Block}
use Rattle.ir_ast.specs.declared.function.Function.{Function}
use Rattle.ir_ast.specs.declared.instr.Instr.{Instr}
use Rattle.ir_ast.specs.declared.ir_type.IrType.{IrType}
use Rattle.ir_ast.specs.declared.ir_type.IrType.TheVariants as type
use Rattle.ir_ast.specs.declared.items_of_module.SymbolSort.{SymbolSort}
use Rattle.ir_ast.specs.declared.items_of_module.SymbolSort.TheVariants as symbol
use Rattle.ir_ast.specs.declared.memory.MemoryOp.TheVariants as memory
use Rattle.ir_ast.specs.declared.module.Module.{Module}
use Rattle.ir_ast.specs.declared.op.Op.{Op}
use Rattle.ir_ast.specs.declared.op.Op.TheVariants as op
use Rattle.shadow_stack.specs.Slots.{draft_of, names_of, addresses_of, is_among, is_reference_held, layouts_from, recorded, recorded_blocks, recorded_op, shape_by, slot_rooted, slot_rooted_by, slot_shape, slots_of, with_names_of, with_root, with_roots, with_roots_of}
use Rattle.shadow_stack.specs.declared.draft.Draft.{Draft}
use Rattle.types.specs.References.{is_opaque, layout_after, layout_of_struct, part_of_pointer, referenced_layout}
use Rattle.types.specs.RuntimeCall.{runtime_called, runtime_of_declare, runtime_of_sort}
use Rattle.certs.specs.RootNames.{root_names, roots_of_blocks}
use Rattle.replaced_fits.specs.Closed.{AreBodyTypesBelow, AreTypesBelow, IsClosed, IsClosedFunction}
use Rattle.replaced_fits.proofs.GrownFamilies.{Grows, IsClosedType, closed_at, opaque_same, type_same}

module _ (m n : Module) (g : Grows m n) (closed : IsClosed m) where
  -- ---- references

  layout_same : (found : Option IrType) → layout_of_struct n found ≡ layout_of_struct m found
  layout_same None = refl
  layout_same (Some type.Void) = refl
  layout_same (Some (type.Integer bits)) = refl
  layout_same (Some type.Float) = refl
  layout_same (Some type.Double) = refl
  layout_same (Some (type.Pointer part)) = refl
  layout_same (Some type.Opaque) = refl
  layout_same (Some (type.Array length part)) = refl
  layout_same (Some type.EmptyStruct) = refl
  layout_same (Some (type.Struct first rest)) = refl
  layout_same (Some (type.Named name)) = g.names name

  referenced_by : (t : Option IrType) → IsClosedType m n g closed t → layout_after n (part_of_pointer t) ≡ layout_after m (part_of_pointer t)
  referenced_by None h = refl
  referenced_by (Some type.Void) h = refl
  referenced_by (Some (type.Integer bits)) h = refl
  referenced_by (Some type.Float) h = refl
  referenced_by (Some type.Double) h = refl
  referenced_by (Some (type.Pointer part)) h = ap (layout_of_struct n) (type_same m n g closed part h) ∙ layout_same (slice_get m.types part)
  referenced_by (Some type.Opaque) h = refl
  referenced_by (Some (type.Array length part)) h = refl
  referenced_by (Some type.EmptyStruct) h = refl
  referenced_by (Some (type.Struct first rest)) h = refl
  referenced_by (Some (type.Named name)) h = refl

  referenced_same : (held : ℕ) → held < length m.types → referenced_layout n held ≡ referenced_layout m held
  referenced_same held less = ap (λ x. layout_after n (part_of_pointer x)) (type_same m n g closed held less) ∙ referenced_by (slice_get m.types held) (closed_at m n g closed held)

  -- what each slot holds is in the table
  abbrev AreBelow : List ℕ → Type 0
  AreBelow held = AllByRecursion (λ (t : ℕ). t < length m.types) held

  held_same : (held : List ℕ) (slot : ℕ) → AreBelow held → is_reference_held n (slice_get held slot) ≡ is_reference_held m (slice_get held slot)
  held_same held slot below = by (slice_get held slot) refl where
    by : (found : Option ℕ) → slice_get held slot ≡ found → is_reference_held n found ≡ is_reference_held m found
    by None e = refl
    by (Some t) e =
        let less = all_get (λ (x : ℕ). x < length m.types) held slot t below e in
        ap₂ (λ a b. is_some a || b) (referenced_same t less) (opaque_same m n g closed t less)

  -- ---- roots

  runtime_same : (callee : ℕ) → runtime_called n callee ≡ runtime_called m callee
  runtime_same callee = ap (λ sorts. runtime_of_sort n (slice_get sorts callee)) g.sorts ∙ by (slice_get m.sorts callee) where
    by : (sort : Option SymbolSort) → runtime_of_sort n sort ≡ runtime_of_sort m sort
    by None = refl
    by (Some symbol.Unknown) = refl
    by (Some (symbol.Global x)) = refl
    by (Some (symbol.Declared d)) = ap (λ declares. runtime_of_declare (slice_get declares d)) g.declares
    by (Some (symbol.Defined x)) = refl

  rooted_same : (names : List (Option ℕ)) (x : Op) → slot_rooted_by n names x ≡ slot_rooted_by m names x
  rooted_same names (op.Number x) = refl
  rooted_same names (op.Memory x) = refl
  rooted_same names (op.Element x) = refl
  rooted_same names (op.Cast x) = refl
  rooted_same names (op.Choice x) = refl
  rooted_same names (op.Call x) = ap (slot_rooted names x.arguments) (runtime_same x.callee)

  module _ (names : List (Option ℕ)) (held : List ℕ) (below : AreBelow held) where
    root_same : (slot : Option ℕ) (roots : List ℕ) → with_root n held slot roots ≡ with_root m held slot roots
    root_same None roots = refl
    root_same (Some slot) roots = ap (λ b. if b then (if is_among roots slot then roots else roots ++ slot ∷ []) else roots) (held_same held slot below)

    one_same : (x : Op) (roots : List ℕ) → with_root n held (slot_rooted_by n names x) roots ≡ with_root m held (slot_rooted_by m names x) roots
    one_same x roots = ap (λ slot. with_root n held slot roots) (rooted_same names x) ∙ root_same (slot_rooted_by m names x) roots

    body_same : (body : List Instr) (roots : List ℕ) → with_roots n names held body roots ≡ with_roots m names held body roots
    body_same [] roots = refl
    body_same (instr ∷ body) roots = ap (with_roots n names held body) (one_same instr.op roots) ∙ body_same body (with_root m held (slot_rooted_by m names instr.op) roots)

    roots_same : (blocks : List Block) (roots : List ℕ) → with_roots_of n names held blocks roots ≡ with_roots_of m names held blocks roots
    roots_same [] roots = refl
    roots_same (block ∷ blocks) roots = ap (with_roots_of n names held blocks) (body_same block.body roots) ∙ roots_same blocks (with_roots m names held block.body roots)

  -- ---- slots

  shape_same : (f : Function) (name : Option ℕ) → shape_by n f name ≡ shape_by m f name
  shape_same f None = refl
  shape_same f (Some name) = ap (λ shapes. root_shape shapes f.symbol (name_at f.locals name)) g.shapes

  slot_same : (f : Function) (name : Option ℕ) (held : ℕ) → held < length m.types → slot_shape n f name held ≡ slot_shape m f name held
  slot_same f name held less =
      ap (λ b. if b then shape_by n f name else referenced_layout n held) (opaque_same m n g closed held less)
      ∙ ap₂ (λ x y. if is_opaque m held then x else y) (shape_same f name) (referenced_same held less)

  layouts_same : (f : Function) (names : List (Option ℕ)) (slot : ℕ) (held : List ℕ) → AreBelow held → layouts_from n f names slot held ≡ layouts_from m f names slot held
  layouts_same f names slot [] below = refl
  layouts_same f names slot (t ∷ held) below = ap₂ (λ x xs. x ∷ xs) (slot_same f (unwrap_or (slice_get names slot) None) t below.0) (layouts_same f names (suc slot) held below.1)

  op_below : (name : Option ℕ) (x : Op) (draft : Draft) → AreTypesBelow (length m.types) x → AreBelow draft.held → AreBelow (recorded_op name x draft).held
  op_below name (op.Memory (memory.Alloca held)) draft less below = all_join (λ (t : ℕ). t < length m.types) draft.held (held ∷ []) below (less, tt)
  op_below name (op.Memory (memory.Buffer held count)) draft less below = below
  op_below name (op.Memory (memory.Load loaded place_type place)) draft less below = below
  op_below name (op.Memory (memory.Store stored x place_type place)) draft less below = below
  op_below name (op.Number x) draft less below = below
  op_below name (op.Element x) draft less below = below
  op_below name (op.Cast x) draft less below = below
  op_below name (op.Choice x) draft less below = below
  op_below name (op.Call x) draft less below = below

  body_below : (body : List Instr) (draft : Draft) → AllByRecursion (λ (x : Instr). AreTypesBelow (length m.types) x.op) body → AreBelow draft.held → AreBelow (recorded body draft).held
  body_below [] draft own below = below
  body_below (instr ∷ body) draft own below = body_below body (recorded_op instr.result instr.op draft) own.1 (op_below instr.result instr.op draft own.0 below)

  blocks_below : (blocks : List Block) (draft : Draft) → AllByRecursion (AreBodyTypesBelow (length m.types)) blocks → AreBelow draft.held → AreBelow (recorded_blocks blocks draft).held
  blocks_below [] draft own below = below
  blocks_below (block ∷ blocks) draft own below = blocks_below blocks (recorded block.body draft) own.1 (body_below block.body draft own.0 below)

  module _ (f : Function) (own : IsClosedFunction m f) where
    below : AreBelow (draft_of f).held
    below = blocks_below f.blocks _ own.blocks tt

    slots_same : slots_of n f ≡ slots_of m f
    slots_same =
        let draft = draft_of f in
        let names = names_of draft.origins in
        λ along. record {
          names = names;
          addresses = addresses_of draft.origins;
          held = draft.held;
          layouts = layouts_same f (with_names_of f.blocks []) 0 draft.held below along;
          roots = roots_same names draft.held below f.blocks [] along;
        }

    -- the names of the root slots
    pub root_names_same : root_names n f ≡ root_names m f
    root_names_same = ap (λ slots. roots_of_blocks slots f.blocks (replicate (length f.locals) false)) slots_same
