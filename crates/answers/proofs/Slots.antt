-- The slots of a function do not depend on other functions.
use Rattle.std.specs.Prelude.{List, None, Option, Some, [], if◌then◌else◌, is_some, refl, slice_get, suc, unwrap_or, ℕ, ◌||◌, ◌++◌, ◌∷◌, ◌≡◌}
use Rattle.ir_ast.specs.declared.block.Block.{Block}
use Rattle.ir_ast.specs.declared.function.Function.{Function}
use Rattle.ir_ast.specs.declared.instr.Instr.{Instr}
use Rattle.ir_ast.specs.declared.module.Module.{Module}
use Rattle.ir_ast.specs.declared.op.Op.{Op}
use Rattle.ir_ast.specs.declared.op.Op.TheVariants.{Call}
use Rattle.shadow_stack.specs.Slots.{addresses_of, draft_of, is_among, layouts_from, shape_by, with_names_of, is_reference_held, names_of, slot_rooted, slot_rooted_by, slots_of, with_root, with_roots, with_roots_of}
use Rattle.types.specs.References.{is_opaque}
use Rattle.answers.proofs.Types.{referenced_layout_same, runtime_called_same}
use Rattle.answers.specs.Local.{with_functions}

is_reference_held_by : (m : Module) (fs : List Function) (number : Option ℕ) → is_reference_held (with_functions m fs) number ≡ is_reference_held m number
is_reference_held_by m fs None = refl
is_reference_held_by m fs (Some held) = λ along. is_some (referenced_layout_same m fs along held) || is_opaque m held

pub is_reference_held_same : (m : Module) (fs : List Function) → is_reference_held (with_functions m fs) ≡ is_reference_held m
is_reference_held_same m fs = λ along number. is_reference_held_by m fs number along

slot_rooted_by_by : (m : Module) (fs : List Function) (names : List (Option ℕ)) (x : Op) → slot_rooted_by (with_functions m fs) names x ≡ slot_rooted_by m names x
slot_rooted_by_by m fs names (Call x) = λ along. slot_rooted names x.arguments (runtime_called_same m fs along x.callee)
slot_rooted_by_by m fs names _ = refl

pub slot_rooted_by_same : (m : Module) (fs : List Function) → slot_rooted_by (with_functions m fs) ≡ slot_rooted_by m
slot_rooted_by_same m fs = λ along names x. slot_rooted_by_by m fs names x along

with_root_by : (m : Module) (fs : List Function) (held : List ℕ) (number : Option ℕ) (roots : List ℕ) → with_root (with_functions m fs) held number roots ≡ with_root m held number roots
with_root_by m fs held None roots = refl
with_root_by m fs held (Some slot) roots = λ along. if is_reference_held_same m fs along (slice_get held slot) then (if is_among roots slot then roots else roots ++ slot ∷ []) else roots

pub with_root_same : (m : Module) (fs : List Function) → with_root (with_functions m fs) ≡ with_root m
with_root_same m fs = λ along held number roots. with_root_by m fs held number roots along

with_roots_by : (m : Module) (fs : List Function) (names : List (Option ℕ)) (held : List ℕ) (instrs : List Instr) (roots : List ℕ) → with_roots (with_functions m fs) names held instrs roots ≡ with_roots m names held instrs roots
with_roots_by m fs names held [] roots = refl
with_roots_by m fs names held (instr ∷ instrs) roots = λ along. with_roots_by m fs names held instrs (with_root_same m fs along held (slot_rooted_by_same m fs along names instr.op) roots) along

pub with_roots_same : (m : Module) (fs : List Function) → with_roots (with_functions m fs) ≡ with_roots m
with_roots_same m fs = λ along names held instrs roots. with_roots_by m fs names held instrs roots along

with_roots_of_by : (m : Module) (fs : List Function) (names : List (Option ℕ)) (held : List ℕ) (blocks : List Block) (roots : List ℕ) → with_roots_of (with_functions m fs) names held blocks roots ≡ with_roots_of m names held blocks roots
with_roots_of_by m fs names held [] roots = refl
with_roots_of_by m fs names held (block ∷ blocks) roots = λ along. with_roots_of_by m fs names held blocks (with_roots_same m fs along names held block.body roots) along

pub with_roots_of_same : (m : Module) (fs : List Function) → with_roots_of (with_functions m fs) ≡ with_roots_of m
with_roots_of_same m fs = λ along names held blocks roots. with_roots_of_by m fs names held blocks roots along

shape_by_by : (m : Module) (fs : List Function) (f : Function) (name : Option ℕ) → shape_by (with_functions m fs) f name ≡ shape_by m f name
shape_by_by m fs f None = refl
shape_by_by m fs f (Some name) = refl

layouts_from_by : (m : Module) (fs : List Function) (f : Function) (names : List (Option ℕ)) (slot : ℕ) (held : List ℕ) → layouts_from (with_functions m fs) f names slot held ≡ layouts_from m f names slot held
layouts_from_by m fs f names slot [] = refl
layouts_from_by m fs f names slot (held ∷ rest) = λ along. (if is_opaque m held then shape_by_by m fs f (unwrap_or (slice_get names slot) None) along else referenced_layout_same m fs along held) ∷ layouts_from_by m fs f names (suc slot) rest along

pub slots_of_same : (m : Module) (fs : List Function) → slots_of (with_functions m fs) ≡ slots_of m
slots_of_same m fs = λ along f. let draft = draft_of f in
    let names = names_of draft.origins in
    record { names = names; addresses = addresses_of draft.origins; held = draft.held; layouts = layouts_from_by m fs f (with_names_of f.blocks []) 0 draft.held along; roots = with_roots_of_same m fs along names draft.held f.blocks [] }
