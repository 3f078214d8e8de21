-- Which certificate fits a function does not depend on other functions.
use Rattle.std.specs.Prelude.{List, None, Option, Some, if◌then◌else◌, is_none, is_some, length, not, refl, replicate, slice_get, unwrap_or, ℕ, false, ◌&&◌, ◌==◌, ◌||◌, ◌≡◌}
use Rattle.std.specs.List.{list_all, zip}
use Rattle.ir_ast.specs.Numbers.{small}
use Rattle.ir_ast.specs.declared.block.Block.{Block}
use Rattle.ir_ast.specs.declared.function.Function.{Function}
use Rattle.ir_ast.specs.declared.function.LocalSort.{LocalSort}
use Rattle.ir_ast.specs.declared.function.LocalSort.TheVariants as sort
use Rattle.ir_ast.specs.declared.function.Parameter.{Parameter}
use Rattle.ir_ast.specs.declared.instr.Instr.{Instr}
use Rattle.ir_ast.specs.declared.ir_type.IrType.{IrType}
use Rattle.ir_ast.specs.declared.ir_type.IrType.TheVariants.{Integer, Named, Pointer}
use Rattle.ir_ast.specs.declared.memory.MemoryOp.TheVariants.{Alloca}
use Rattle.ir_ast.specs.declared.module.Module.{Module}
use Rattle.ir_ast.specs.declared.op.Op.{Op}
use Rattle.ir_ast.specs.declared.op.Op.TheVariants.{Element, Memory}
use Rattle.ir_ast.specs.declared.shapes.Shapes.{Shapes}
use Rattle.types.specs.References.{is_opaque}
use Rattle.types.specs.ValueTypes.{instruction_at}
use Rattle.certs.specs.Families.{family_after, family_in, family_of_type, is_opaque_text, family_of_slot, family_of_part, family_of_op, family_of_element, family_of_sort, family_of_value, is_address, is_integer, is_reference, may_be_outside, same_bits}
use Rattle.certs.specs.Fits.{below_fits, blocks_fit, claim_fits, claims_fit, all_named_listed, entry_is_empty, fact_fits, is_outside_fact, is_value, lists_once, parameter_fits, parameters_fit, promise_fits, promised_below_fits, promised_fits, promised_layout_fits, promised_number_fits, says_something, section_fits}
use Rattle.certs.specs.RootNames.{root_names, roots_of_blocks}
use Rattle.certs.specs.ShapesFit.{body_fits, op_fits, root_of, roots_fit, slot_fits}
use Rattle.certs.specs.declared.family.Family.{Family}
use Rattle.certs.specs.declared.family.Family.TheVariants.{Nothing, Number, Opaque}
use Rattle.certs.specs.declared.section.Claim.{Claim}
use Rattle.certs.specs.declared.section.Claim.TheVariants as claim
use Rattle.certs.specs.declared.section.Fact.{Fact}
use Rattle.certs.specs.declared.section.Fact.TheVariants as fact
use Rattle.certs.specs.declared.section.Promise.{Promise}
use Rattle.certs.specs.declared.section.Section.{Section}
use Rattle.answers.proofs.Slots.{slots_of_same}
use Rattle.answers.proofs.Types.{element_type_same, global_named_same}
use Rattle.answers.specs.Local.{with_functions}

module _ (m : Module) (fs : List Function) where
  -- ---- what a value is

  family_after_by : (type : Option IrType) → family_after (with_functions m fs) type ≡ family_after m type
  family_after_by None = refl
  family_after_by (Some (Integer bits)) = refl
  family_after_by (Some (Named name)) = refl
  family_after_by _ = refl

  family_after_same : family_after (with_functions m fs) ≡ family_after m
  family_after_same = λ along type. family_after_by type along

  family_in_by : (type : Option IrType) → family_in (with_functions m fs) type ≡ family_in m type
  family_in_by (Some (Pointer part)) = λ along. family_after_same along (slice_get m.types part)
  family_in_by _ = refl

  family_of_type_same : family_of_type (with_functions m fs) ≡ family_of_type m
  family_of_type_same = λ along written. family_in_by (slice_get m.types written) along

  family_of_slot_same : family_of_slot (with_functions m fs) ≡ family_of_slot m
  family_of_slot_same = λ along held. if is_opaque_text m then Opaque else family_after_same along (slice_get m.types held)

  family_of_part_by : (part : Option ℕ) → family_of_part (with_functions m fs) part ≡ family_of_part m part
  family_of_part_by None = refl
  family_of_part_by (Some part) = λ along. family_after_same along (slice_get m.types part)

  family_of_op_by : (x : Op) → family_of_op (with_functions m fs) x ≡ family_of_op m x
  family_of_op_by (Element x) = λ along. if is_opaque m x.base_type then Opaque else family_of_part_by (element_type_same m fs along x.source x.indices) along
  family_of_op_by _ = refl

  family_of_element_by : (instr : Option Instr) → family_of_element (with_functions m fs) instr ≡ family_of_element m instr
  family_of_element_by None = refl
  family_of_element_by (Some instr) = family_of_op_by instr.op

  family_of_sort_by : (f : Function) (x : Option LocalSort) → family_of_sort (with_functions m fs) f x ≡ family_of_sort m f x
  family_of_sort_by f (Some (sort.Value written)) = λ along. family_of_type_same along written
  family_of_sort_by f (Some (sort.Slot held)) = λ along. family_of_slot_same along held
  family_of_sort_by f (Some (sort.Element block place)) = family_of_element_by (instruction_at f block place)
  family_of_sort_by f _ = refl

  family_of_value_same : family_of_value (with_functions m fs) ≡ family_of_value m
  family_of_value_same = λ along f value. family_of_sort_by f (slice_get f.sorts value) along

  -- ---- promises

  promised_layout_fits_by : (family : Family) (layout : Option ℕ) → promised_layout_fits (with_functions m fs) family layout ≡ promised_layout_fits m family layout
  promised_layout_fits_by family None = refl
  promised_layout_fits_by family (Some layout) = refl

  may_be_outside_by : (family : Family) → may_be_outside (with_functions m fs) family ≡ may_be_outside m family
  may_be_outside_by (Number bits) = refl
  may_be_outside_by Nothing = refl
  may_be_outside_by _ = refl

  promised_number_fits_same : promised_number_fits (with_functions m fs) ≡ promised_number_fits m
  promised_number_fits_same = λ along family promise. not promise.number || (may_be_outside_by family along && (is_none promise.layout && (not promise.nonnull && is_none promise.below)))

  promise_fits_same : promise_fits (with_functions m fs) ≡ promise_fits m
  promise_fits_same = λ along family promise.
      says_something promise && promised_number_fits_same along family promise && promised_layout_fits_by family promise.layout along && (not promise.nonnull || is_reference family) && promised_below_fits family promise.below

  promised_fits_by : (family : Family) (promise : Option Promise) → promised_fits (with_functions m fs) family promise ≡ promised_fits m family promise
  promised_fits_by family None = refl
  promised_fits_by family (Some promise) = λ along. promise_fits_same along family promise

  promised_fits_same : promised_fits (with_functions m fs) ≡ promised_fits m
  promised_fits_same = λ along family promise. promised_fits_by family promise along

  parameter_fits_same : parameter_fits (with_functions m fs) ≡ parameter_fits m
  parameter_fits_same = λ along f parameter promise. promised_fits_same along (family_of_value_same along f parameter.value) promise

  -- ---- claims

  is_outside_fact_same : is_outside_fact (with_functions m fs) ≡ is_outside_fact m
  is_outside_fact_same = λ along family bits below. may_be_outside_by family along && ((bits == 64) && is_none below)

  fact_fits_by : (family : Family) (x : Fact) → fact_fits (with_functions m fs) family x ≡ fact_fits m family x
  fact_fits_by family (fact.Number bits below) = λ along. (is_some (same_bits family (small bits)) && below_fits below) || is_outside_fact_same along family bits below
  fact_fits_by family (fact.Reference layout nonnull age same) = refl
  fact_fits_by family (fact.Address base words) = refl
  fact_fits_by family (fact.GlobalAddress symbol) = λ along. is_address family && is_some (global_named_same m fs along symbol)

  fact_fits_same : fact_fits (with_functions m fs) ≡ fact_fits m
  fact_fits_same = λ along family x. fact_fits_by family x along

  root_names_same : root_names (with_functions m fs) ≡ root_names m
  root_names_same = λ along f. roots_of_blocks (slots_of_same m fs along f) f.blocks (replicate (length f.locals) false)

  claim_fits_by : (f : Function) (x : Claim) → claim_fits (with_functions m fs) f x ≡ claim_fits m f x
  claim_fits_by f (claim.Value value fact) = λ along. fact_fits_same along (family_of_value_same along f value) fact
  claim_fits_by f (claim.Slot slot nonnull holds) = λ along. is_value f slot && unwrap_or (slice_get (root_names_same along f) slot) false

  claim_fits_same : claim_fits (with_functions m fs) ≡ claim_fits m
  claim_fits_same = λ along f x. claim_fits_by f x along

  claims_fit_same : claims_fit (with_functions m fs) ≡ claims_fit m
  claims_fit_same = λ along f claims. list_all (claim_fits_same along f) claims && lists_once claims && all_named_listed claims

  -- ---- sections

  parameters_fit_same : parameters_fit (with_functions m fs) ≡ parameters_fit m
  parameters_fit_same = λ along f promises. (length promises == length f.parameters) && list_all (λ p. parameter_fits_same along f p.0 p.1) (zip f.parameters promises)

  blocks_fit_same : blocks_fit (with_functions m fs) ≡ blocks_fit m
  blocks_fit_same = λ along f blocks. (length blocks == length f.blocks) && entry_is_empty blocks && list_all (claims_fit_same along f) blocks

  pub section_fits_same : section_fits (with_functions m fs) ≡ section_fits m
  section_fits_same = λ along f section.
      parameters_fit_same along f section.parameters && promised_fits_same along (family_of_type_same along f.returned) section.result && blocks_fit_same along f section.blocks

  -- ---- shapes

  slot_fits_same : (shapes : Shapes) → slot_fits (with_functions m fs) shapes ≡ slot_fits m shapes
  slot_fits_same shapes = λ along f name held. not (is_opaque m held) || not (is_value f name && unwrap_or (slice_get (root_names_same along f) name) false) || is_some (root_of shapes f name)

  op_fits_by : (shapes : Shapes) (f : Function) (name : Option ℕ) (x : Op) → op_fits (with_functions m fs) shapes f name x ≡ op_fits m shapes f name x
  op_fits_by shapes f (Some name) (Memory (Alloca held)) = λ along. slot_fits_same shapes along f name held
  op_fits_by shapes f _ _ = refl

  body_fits_same : (shapes : Shapes) → body_fits (with_functions m fs) shapes ≡ body_fits m shapes
  body_fits_same shapes = λ along f body. list_all (λ (instr : Instr). op_fits_by shapes f instr.result instr.op along) body

  pub roots_fit_same : (shapes : Shapes) → roots_fit (with_functions m fs) shapes ≡ roots_fit m shapes
  roots_fit_same shapes = λ along f. list_all (λ (block : Block). body_fits_same shapes along f block.body) f.blocks
