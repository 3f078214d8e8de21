-- Shapes that fit a module still fit where its tables have grown.
use Rattle.std.proofs.Common.{◌≡◌, ◌<◌, ℕ, true, false, not, ◌&&◌, ◌||◌, List, length, slice_get, is_none, is_some, unwrap_or, if◌then◌else◌, Option, None, Some, refl, sym, ap, ap₂, ◌∙◌, subst}
use Rattle.std.specs.List.{list_all}
use Rattle.lemmas.specs.All.{all_get}
use Rattle.ir_ast.specs.Shapes.{shape_at}
use Rattle.ir_ast.specs.declared.block.Block.{Block}
use Rattle.ir_ast.specs.declared.function.Function.{Function}
use Rattle.ir_ast.specs.declared.instr.Instr.{Instr}
use Rattle.ir_ast.specs.declared.items_of_module.Global.{Global}
use Rattle.ir_ast.specs.declared.memory.MemoryOp.TheVariants as memory
use Rattle.ir_ast.specs.declared.module.Module.{Module}
use Rattle.ir_ast.specs.declared.op.Op.{Op}
use Rattle.ir_ast.specs.declared.op.Op.TheVariants as op
use Rattle.ir_ast.specs.declared.shapes.Shapes.{Shapes}
use Rattle.certs.specs.Families.{is_opaque_text}
use Rattle.certs.specs.Fits.{is_value}
use Rattle.certs.specs.ShapesFit.{all_shapes_fit, body_fits, global_fits, op_fits, root_of, root_row_fits, roots_fit, row_fits, shape_fits, shapes_fit, slot_fits}
use Rattle.replaced_fits.specs.Closed.{AreBodyTypesBelow, AreTypesBelow, IsClosed, IsClosedFunction}
use Rattle.replaced_fits.proofs.GrownFamilies.{Grows, opaque_same}
use Rattle.replaced_fits.proofs.GrownSections.{layout_stays}
use Rattle.replaced_fits.proofs.GrownSlots.{root_names_same}
use Rattle.replaced_fits.proofs.Implies.{Implies, both_imply, each_implies}

module _ (m n : Module) (g : Grows m n) (closed : IsClosed m) where
  shape_implies : (shape : Option ℕ) → Implies (shape_fits m shape) (shape_fits n shape)
  shape_implies None h = refl
  shape_implies (Some layout) h = layout_stays m n g closed layout h

  row_implies : (row : List (Option ℕ)) → Implies (row_fits m row) (row_fits n row)
  row_implies row = each_implies (shape_fits m) (shape_fits n) row (λ k x e. shape_implies x)

  global_same : (given : Shapes) (global : Global) → global.held < length m.types → global_fits n given global ≡ global_fits m given global
  global_same given global less = ap (λ b. if b then is_some (shape_at given.globals global.symbol) else is_none (shape_at given.globals global.symbol)) (opaque_same m n g closed global.held less)

  globals_imply : (given : Shapes) → Implies (list_all (global_fits m given) m.globals) (list_all (global_fits n given) n.globals)
  globals_imply given h =
      subst (λ globals. list_all (global_fits n given) globals ≡ true) (sym g.globals)
      (each_implies (global_fits m given) (global_fits n given) m.globals (λ k x e t. global_same given x (closed.globals k x e) ∙ t) h)

  -- ---- root slots

  module _ (given : Shapes) (f : Function) (own : IsClosedFunction m f) where
    slot_same : (name held : ℕ) → held < length m.types → slot_fits n given f name held ≡ slot_fits m given f name held
    slot_same name held less =
        ap₂ (λ a names. not a || not (is_value f name && unwrap_or (slice_get names name) false) || is_some (root_of given f name)) (opaque_same m n g closed held less) (root_names_same m n g closed f own)

    op_implies : (result : Option ℕ) (x : Op) → AreTypesBelow (length m.types) x → Implies (op_fits m given f result x) (op_fits n given f result x)
    op_implies None x below h = refl
    op_implies (Some name) (op.Memory (memory.Alloca held)) below h = slot_same name held below ∙ h
    op_implies (Some name) (op.Memory (memory.Buffer held count)) below h = refl
    op_implies (Some name) (op.Memory (memory.Load loaded place_type place)) below h = refl
    op_implies (Some name) (op.Memory (memory.Store stored x place_type place)) below h = refl
    op_implies (Some name) (op.Number x) below h = refl
    op_implies (Some name) (op.Element x) below h = refl
    op_implies (Some name) (op.Cast x) below h = refl
    op_implies (Some name) (op.Choice x) below h = refl
    op_implies (Some name) (op.Call x) below h = refl

    body_implies : (k : ℕ) (block : Block) → slice_get f.blocks k ≡ Some block → Implies (body_fits m given f block.body) (body_fits n given f block.body)
    body_implies k block at =
        let within : AreBodyTypesBelow (length m.types) block = all_get (AreBodyTypesBelow (length m.types)) f.blocks k block own.blocks at in
        each_implies (λ (x : Instr). op_fits m given f x.result x.op) (λ (x : Instr). op_fits n given f x.result x.op) block.body
        (λ j x e. op_implies x.result x.op (all_get (λ (y : Instr). AreTypesBelow (length m.types) y.op) block.body j x within e))

    roots_imply : Implies (roots_fit m given f) (roots_fit n given f)
    roots_imply = each_implies (λ (block : Block). body_fits m given f block.body) (λ (block : Block). body_fits n given f block.body) f.blocks body_implies

  -- ---- all shapes

  -- the functions of the first module pass in the second one
  abbrev Pass : Shapes → Type 0
  Pass given = list_all (roots_fit n given) m.functions ≡ true

  functions_pass : (given : Shapes) → list_all (roots_fit m given) m.functions ≡ true → Pass given
  functions_pass given h = each_implies (roots_fit m given) (roots_fit n given) m.functions (λ k f e. roots_imply given f (closed.functions k f e)) h

  all_imply : (given : Shapes) → (Pass given → list_all (roots_fit n given) n.functions ≡ true) → Implies (all_shapes_fit m given) (all_shapes_fit n given)
  all_imply given keep =
      let words_m = list_all (row_fits m) given.words in
      let words_n = list_all (row_fits n) given.words in
      let roots_m = list_all (root_row_fits m) given.roots in
      let roots_n = list_all (root_row_fits n) given.roots in
      let words : Implies words_m words_n = each_implies (row_fits m) (row_fits n) given.words (λ k row e. row_implies row) in
      let roots : Implies roots_m roots_n = each_implies (root_row_fits m) (root_row_fits n) given.roots (λ k x e. row_implies x.layouts) in
      both_imply (words_m && row_fits m given.globals && roots_m && list_all (global_fits m given) m.globals) (list_all (roots_fit m given) m.functions)
      (words_n && row_fits n given.globals && roots_n && list_all (global_fits n given) n.globals) (list_all (roots_fit n given) n.functions)
      (both_imply (words_m && row_fits m given.globals && roots_m) (list_all (global_fits m given) m.globals) (words_n && row_fits n given.globals && roots_n) (list_all (global_fits n given) n.globals)
      (both_imply (words_m && row_fits m given.globals) roots_m (words_n && row_fits n given.globals) roots_n
      (both_imply words_m (row_fits m given.globals) words_n (row_fits n given.globals) words (row_implies given.globals))
      roots)
      (globals_imply given))
      (λ h. keep (functions_pass given h))

  -- shapes that fit the first module fit the second one, if each of its functions has them for its root slots where those of the first one do
  pub shapes_imply : (shapes : Option Shapes) → ((given : Shapes) → shapes ≡ Some given → Pass given → list_all (roots_fit n given) n.functions ≡ true) → Implies (shapes_fit m shapes) (shapes_fit n shapes)
  shapes_imply None keep h = ap not g.opaque ∙ h
  shapes_imply (Some given) keep h = both_imply (is_opaque_text m) (all_shapes_fit m given) (is_opaque_text n) (all_shapes_fit n given) (λ t. g.opaque ∙ t) (all_imply given (keep given refl)) h
