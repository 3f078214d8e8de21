-- The slots of a certified function: each that has a name and is of reference type is a root; the others hold null.
use Rattle.std.proofs.Common.{◌≡◌, ℕ, zero, suc, List, [], ◌∷◌, ◌++◌, length, map, refl, sym, ap, ◌∙◌, subst, arith, true, false, Bool, Option, Some, None, inl, inr, slice_get, slice_set}
use Rattle.std.specs.Prelude.{◌==◌, ◌||◌, ◌⊎◌, unwrap_or}
use Rattle.std.specs.List.{Contains}
use Rattle.lemmas.specs.Numbers.{test_true}
use Rattle.lemmas.specs.Bools.{or_parts}
use Rattle.ir_ast.specs.declared.block.Block.{Block}
use Rattle.ir_ast.specs.declared.function.Function.{Function}
use Rattle.ir_ast.specs.declared.instr.Instr.{Instr}
use Rattle.ir_ast.specs.declared.module.Module.{Module}
use Rattle.ir_ast.specs.declared.memory.MemoryOp.TheVariants as memory
use Rattle.ir_ast.specs.declared.op.Op.{Op}
use Rattle.ir_ast.specs.declared.op.Op.TheVariants as op
use Rattle.ir_ast.specs.declared.operand.Operand.{Operand}
use Rattle.ir_ast.specs.declared.operand.Operand.TheVariants as operand
use Rattle.shadow_stack.specs.declared.draft.Draft.{Draft}
use Rattle.shadow_stack.specs.declared.draft.Origin.{Origin}
use Rattle.shadow_stack.specs.declared.draft.Origin.TheVariants.{Nowhere, Slot, Address, Same}
use Rattle.shadow_stack.specs.Hops.{hops_slot}
use Rattle.shadow_stack.specs.Slots.{SlotTable, slots_of, slot_of, held_type, is_among, is_reference_held, origin_of, origin_at, hops, slot_at, put, recorded_op, recorded, recorded_blocks, draft_of}
use Rattle.block_rules.specs.Rules.{may_hold, names_root}
use Rattle.type_kinds.specs.TypeKinds.{kind_of, is_integer}
use Rattle.machine.specs.declared.value.Value.{Value}
use Rattle.machine.specs.declared.value.Value.TheVariants as value
use Rattle.machine.specs.Machine.{slot_value, initial}
use Rattle.soundness.proofs.KindLemmas.{integer_same}
use Rattle.soundness.proofs.Lists.{at_set, at_set_got, replicated}
use Rattle.soundness.proofs.Roots.{reference_no_integer}

-- ---- the allocas that have names

-- an instruction, if it is an alloca that has a name, is as this says of its name and type
abbrev pub AllocaIs : (P : (name held : ℕ) → Type 0) → (result : Option ℕ) → Op → Type 0
AllocaIs P result (op.Memory (memory.Alloca held)) = (w : ℕ) → result ≡ Some w → P w held
AllocaIs P result _ = Unit {0}

-- so is each of some instructions
abbrev pub AllNamed : (P : (name held : ℕ) → Type 0) → List Instr → Type 0
AllNamed P [] = Unit {0}
AllNamed P (instr ∷ instrs) = AllocaIs P instr.result instr.op × AllNamed P instrs

-- and each of some blocks
abbrev pub BlocksNamed : (P : (name held : ℕ) → Type 0) → List Block → Type 0
BlocksNamed P [] = Unit {0}
BlocksNamed P (block ∷ blocks) = AllNamed P block.body × BlocksNamed P blocks

-- a list with one element more has what it had
still_there : (xs : List ℕ) (y s t : ℕ) → slice_get xs s ≡ Some t → slice_get (xs ++ y ∷ []) s ≡ Some t
still_there [] y s t e = absurd cc
still_there (x ∷ xs) y zero t e = e
still_there (x ∷ xs) y (suc s) t e = still_there xs y s t e

-- and that one
last_there : (xs : List ℕ) (y : ℕ) → slice_get (xs ++ y ∷ []) (length xs) ≡ Some y
last_there [] y = refl
last_there (x ∷ xs) y = last_there xs y

-- an operand is no new slot
no_new : (x : Operand) (s : ℕ) → origin_of x ≡ Slot s → ⊥
no_new (operand.Local v) s e = absurd cc
no_new (operand.Constant c) s e = absurd cc
no_new (operand.Global g) s e = absurd cc
no_new (operand.CastGlobal a g b) s e = absurd cc

module _ (P : (name held : ℕ) → Type 0) where
  -- each name that was defined as a slot has such an alloca
  abbrev Comes : Draft → Type 0
  Comes draft = (w s : ℕ) → origin_at draft.origins w ≡ Slot s → (held : ℕ) × (slice_get draft.held s ≡ Some held) × P w held

  comes_alloca : (result : Option ℕ) (held : ℕ) (draft : Draft) → AllocaIs P result (op.Memory (memory.Alloca held)) → Comes draft → Comes (recorded_op result (op.Memory (memory.Alloca held)) draft)
  comes_alloca None held draft is comes = λ w s e. let c = comes w s e in (c.0, still_there draft.held held s c.0 c.1, c.2)
  comes_alloca (Some v) held draft is comes = λ w s. at_set (λ o. o ≡ Slot s → (t : ℕ) × (slice_get (draft.held ++ held ∷ []) s ≡ Some t) × P w t) draft.origins v w (Slot (length draft.held)) Nowhere
      (λ same lt e. let n : length draft.held ≡ s = cc in (held, subst (λ i. slice_get (draft.held ++ held ∷ []) i ≡ Some held) n (last_there draft.held held), is w (ap Some same)))
      (λ ne e. let c = comes w s e in (c.0, still_there draft.held held s c.0 c.1, c.2)) (λ e. absurd cc)

  -- what is defined as no slot leaves them
  comes_other : (result : Option ℕ) (origin : Origin) (draft : Draft) → ((s : ℕ) → origin ≡ Slot s → ⊥) → Comes draft → Comes (record { origins = put result origin draft.origins; held = draft.held })
  comes_other None origin draft other comes = comes
  comes_other (Some v) origin draft other comes = λ w s. at_set (λ o. o ≡ Slot s → (t : ℕ) × (slice_get draft.held s ≡ Some t) × P w t) draft.origins v w origin Nowhere
      (λ same lt e. absurd (other s e)) (λ ne e. comes w s e) (λ e. absurd cc)

  comes_op : (result : Option ℕ) (x : Op) (draft : Draft) → AllocaIs P result x → Comes draft → Comes (recorded_op result x draft)
  comes_op result (op.Memory (memory.Alloca held)) draft is comes = comes_alloca result held draft is comes
  comes_op result (op.Element x) draft is comes = comes_other result Address draft (λ s e. absurd cc) comes
  comes_op result (op.Cast x) draft is comes = comes_other result (origin_of x.operand) draft (no_new x.operand) comes
  comes_op result _ draft is comes = comes

  comes_all : (instrs : List Instr) (draft : Draft) → AllNamed P instrs → Comes draft → Comes (recorded instrs draft)
  comes_all [] draft all comes = comes
  comes_all (instr ∷ instrs) draft all comes = comes_all instrs (recorded_op instr.result instr.op draft) all.1 (comes_op instr.result instr.op draft all.0 comes)

  comes_blocks : (blocks : List Block) (draft : Draft) → BlocksNamed P blocks → Comes draft → Comes (recorded_blocks blocks draft)
  comes_blocks [] draft all comes = comes
  comes_blocks (block ∷ blocks) draft all comes = comes_blocks blocks (recorded block.body draft) all.1 (comes_all block.body draft all.0 comes)

  comes_of : (f : Function) → BlocksNamed P f.blocks → Comes (draft_of f)
  comes_of f all = comes_blocks f.blocks _ all (λ w s e. absurd (let z : Nowhere ≡ Slot s = sym (replicated (length f.locals) w Nowhere) ∙ e in cc))

-- ---- the slots that have names

-- bitcasts lead back to a name that was defined as the slot
hops_from : (origins : List Origin) (n w : ℕ) (o : Origin) (s : ℕ) → origin_at origins w ≡ o → hops origins n o ≡ Slot s → (v : ℕ) × (origin_at origins v ≡ Slot s)
hops_from origins zero w o s is e = (w, is ∙ e)
hops_from origins (suc n) w Nowhere s is e = hops_from origins n w Nowhere s is e
hops_from origins (suc n) w (Slot t) s is e = hops_from origins n w (Slot t) s is e
hops_from origins (suc n) w Address s is e = hops_from origins n w Address s is e
hops_from origins (suc n) w (Same v) s is e = hops_from origins n v (origin_at origins v) s refl e

slot_at_is : (o : Origin) (s : ℕ) → slot_at o ≡ Some s → o ≡ Slot s
slot_at_is Nowhere s e = absurd cc
slot_at_is (Slot t) s e = let z : t ≡ s = cc in ap Slot z
slot_at_is Address s e = absurd cc
slot_at_is (Same v) s e = absurd cc

of_name : (g : Origin → Option ℕ) (origins : List Origin) (v s : ℕ) → unwrap_or (slice_get (map g origins) v) None ≡ Some s → g (origin_at origins v) ≡ Some s
of_name g [] v s e = absurd cc
of_name g (o ∷ origins) zero s e = e
of_name g (o ∷ origins) (suc v) s e = of_name g origins v s e

by_name : (g : Origin → Option ℕ) (origins : List Origin) (v s : ℕ) → origin_at origins v ≡ Slot s → unwrap_or (slice_get (map g origins) v) None ≡ g (Slot s)
by_name g [] v s e = absurd cc
by_name g (o ∷ origins) zero s e = ap g e
by_name g (o ∷ origins) (suc v) s e = by_name g origins v s e

-- each slot of reference type that has a name is a root, where the rules allow each alloca
abbrev pub NamesRoots : Module → SlotTable → Type 0
NamesRoots m table = (v s : ℕ) → slot_of table v ≡ Some s → is_reference_held m (held_type table s) ≡ true → is_among table.roots s ≡ true

pub names_roots : (m : Module) (f : Function) → BlocksNamed (λ w held. may_hold m (slots_of m f) (Some w) held ≡ true) f.blocks → NamesRoots m (slots_of m f)
names_roots m f all v s named reference =
    let origins = (draft_of f).origins in
    let at = of_name (λ o. slot_at (hops origins (length origins) o)) origins v s named in
    let w = hops_from origins (length origins) v (origin_at origins v) s refl (slot_at_is (hops origins (length origins) (origin_at origins v)) s at) in
    let c = comes_of (λ w held. may_hold m (slots_of m f) (Some w) held ≡ true) f all w.0 s w.1 in
    let whole : is_integer (kind_of m c.0) ≡ false = integer_same m c.0 ∙ reference_no_integer m c.0 (subst (λ q. is_reference_held m q ≡ true) c.1 reference) in
    let slot : slot_of (slots_of m f) w.0 ≡ Some s = by_name (λ o. slot_at (hops origins (length origins) o)) origins w.0 s w.1 ∙ ap slot_at (hops_slot origins (length origins) s) in
    root (is_integer (kind_of m c.0)) whole (subst (λ q. (is_integer (kind_of m c.0) || names_root (slots_of m f) q) ≡ true) slot c.2) where
      root : (b : Bool) → b ≡ false → (b || is_among (slots_of m f).roots s) ≡ true → is_among (slots_of m f).roots s ≡ true
      root true none e = absurd cc
      root false none e = e

-- ---- what the other slots hold

-- each slot of reference type is a root, or holds null
abbrev pub AreRooted : Module → SlotTable → List Value → Type 0
AreRooted m table slots = (s : ℕ) → is_reference_held m (held_type table s) ≡ true → (is_among table.roots s ≡ true) ⊎ (slot_value slots s ≡ value.Null)

-- at the beginning each holds null
begins_null : (m : Module) (held : List ℕ) (s : ℕ) → is_reference_held m (slice_get held s) ≡ true → slot_value (map (initial m) held) s ≡ value.Null
begins_null m [] s e = absurd cc
begins_null m (t ∷ held) zero e = let whole = reference_no_integer m t e in rw whole refl
begins_null m (t ∷ held) (suc s) e = begins_null m held s e

pub rooted_first : (m : Module) (table : SlotTable) → AreRooted m table (map (initial m) table.held)
rooted_first m table s reference = inr (begins_null m table.held s reference)

-- and so it stays where only roots are written
pub rooted_set : (m : Module) (table : SlotTable) (slots : List Value) (s : ℕ) (v : Value) → (is_reference_held m (held_type table s) ≡ true → is_among table.roots s ≡ true) → AreRooted m table slots → AreRooted m table (slice_set slots s v)
rooted_set m table slots s v root rooted t reference =
    at_set_got (λ x. (is_among table.roots t ≡ true) ⊎ (x ≡ value.Null)) slots s t v value.Unset
    (λ same. inl (subst (λ i. is_among table.roots i ≡ true) same (root (subst (λ i. is_reference_held m (held_type table i) ≡ true) (sym same) reference)))) (rooted t reference)

-- ---- what the roots have

among_contained : (slots : List Value) (roots : List ℕ) (s : ℕ) → is_among roots s ≡ true → Contains (map (slot_value slots) roots) (slot_value slots s)
among_contained slots [] s e = absurd cc
among_contained slots (root ∷ roots) s e = elim (or_parts (s == root) (is_among roots s) e) [
  | inl same ↦ (0, omega arith, ap (slot_value slots) (sym (test_true s root same)))
  | inr afterwards ↦ (let c = among_contained slots roots s afterwards in (suc c.0, omega (arith, c.1), c.2))
]

-- what each slot of reference type holds is null, or among the roots of the frame
pub has_roots : (m : Module) (table : SlotTable) (slots : List Value) → AreRooted m table slots → (s : ℕ) → is_reference_held m (held_type table s) ≡ true
    → (slot_value slots s ≡ value.Null) ⊎ Contains (map (slot_value slots) table.roots) (slot_value slots s)
has_roots m table slots rooted s reference = elim (rooted s reference) [ inl among ↦ inr (among_contained slots table.roots s among) | inr null ↦ inl null ]
