-- The roots, and the row that tells of each slot whether it is one.
use Rattle.std.proofs.Common.{◌≡◌, ◌<◌, ℕ, zero, suc, Bool, true, false, ◌||◌, nat_eq, List, [], ◌∷◌, ◌++◌, length, replicate, slice_set, slice_index_or, refl, ap, sym, subst, ◌∙◌, inl, inr}
use Rattle.std.specs.Prelude.{Option, Some, None, slice_get, unwrap_or}
use Rattle.std.proofs.lemmas.List.Folds.{list_any-append}
use Rattle.std.proofs.lemmas.Option.{unwrap_or-slice_get}
use Rattle.std.proofs.lemmas.List.{get_or-set_same, get_or-set_other}
use Rattle.std.proofs.lemmas.Bool.{cases_eq, eq-eqb, ne_eqb}
use Rattle.ir_ast.specs.declared.block.Block.{Block}
use Rattle.ir_ast.specs.declared.instr.Instr.{Instr}
use Rattle.ir_ast.specs.declared.module.Module.{Module}
use Rattle.shadow_stack.specs.Slots.{SlotTable, is_among, slot_rooted_by, with_root, with_roots, with_roots_of}

or_true : (b : Bool) → true ≡ (b || true)
or_true true = refl
or_true false = refl

or_false : (b : Bool) → b ≡ (b || false)
or_false true = refl
or_false false = refl

-- one entry is set, and the others stay
at_set : (xs : List Bool) (i t : ℕ) → i < length xs → unwrap_or (slice_get (slice_set xs i true) t) false ≡ (unwrap_or (slice_get xs t) false || nat_eq t i)
at_set xs i t h =
    unwrap_or-slice_get (slice_set xs i true) t false
    ∙ elim (cases_eq t i) [
      | inl same ↦ ap (λ k. slice_index_or (slice_set xs i true) k false) same ∙ get_or-set_same xs i true false h
          ∙ or_true (unwrap_or (slice_get xs t) false) ∙ ap (λ b. unwrap_or (slice_get xs t) false || b) (sym (eq-eqb t i same))
      | inr other ↦ get_or-set_other xs i t true false other ∙ sym (unwrap_or-slice_get xs t false)
          ∙ or_false (unwrap_or (slice_get xs t) false) ∙ ap (λ b. unwrap_or (slice_get xs t) false || b) (sym (ne_eqb t i other))
    ]

-- the row of the roots with one more
pub rooted_push : (rooted : List Bool) (roots : List ℕ) (slot : ℕ) → slot < length rooted
    → ((t : ℕ) → unwrap_or (slice_get rooted t) false ≡ is_among roots t)
    → (t : ℕ) → unwrap_or (slice_get (slice_set rooted slot true) t) false ≡ is_among (roots ++ slot ∷ []) t
rooted_push rooted roots slot h same t =
    at_set rooted slot t h ∙ ap (λ b. b || nat_eq t slot) (same t)
    ∙ ap (λ b. is_among roots t || b) (or_false (nat_eq t slot))
    ∙ sym (list_any-append (nat_eq t) roots (slot ∷ []))

-- of marks that are all false, no slot's is true
pub none_rooted : (count slot : ℕ) → unwrap_or (slice_get (replicate count false) slot) false ≡ false
none_rooted zero slot = refl
none_rooted (suc count) zero = refl
none_rooted (suc count) (suc slot) = none_rooted count slot

-- where there is no slot, no call makes one a root
no_root : (m : Module) (slot : Option ℕ) (roots : List ℕ) → with_root m [] slot roots ≡ roots
no_root m None roots = refl
no_root m (Some slot) roots = refl

no_roots_in : (m : Module) (names : List (Option ℕ)) (instrs : List Instr) (roots : List ℕ) → with_roots m names [] instrs roots ≡ roots
no_roots_in m names [] roots = refl
no_roots_in m names (instr ∷ instrs) roots = ap (with_roots m names [] instrs) (no_root m (slot_rooted_by m names instr.op) roots) ∙ no_roots_in m names instrs roots

pub no_roots : (m : Module) (names : List (Option ℕ)) (blocks : List Block) (roots : List ℕ) → with_roots_of m names [] blocks roots ≡ roots
no_roots m names [] roots = refl
no_roots m names (block ∷ blocks) roots = ap (with_roots_of m names [] blocks) (no_roots_in m names block.body roots) ∙ no_roots m names blocks roots

-- so a table without slots has all its roots
pub all_roots : (m : Module) (table : SlotTable) (blocks : List Block) → table.held ≡ []
    → table ≡ record { names = table.names; addresses = table.addresses; held = table.held; layouts = table.layouts; roots = with_roots_of m table.names table.held blocks table.roots }
all_roots m table blocks none =
    let same : table.roots ≡ with_roots_of m table.names table.held blocks table.roots = subst (λ held. table.roots ≡ with_roots_of m table.names held blocks table.roots) (sym none) (sym (no_roots m table.names blocks table.roots)) in
    let rooted : List ℕ → SlotTable = λ roots. record { names = table.names; addresses = table.addresses; held = table.held; layouts = table.layouts; roots = roots } in
    ap rooted same
