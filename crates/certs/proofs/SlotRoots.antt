-- Root slots that are found by going over a function's instructions are those of the function's table of slots.
use Rattle.std.proofs.Common.{◌≡◌, ℕ, zero, suc, ◌<◌, ◌≤◌, Bool, true, false, cond, ◌&&◌, ◌||◌, nat_eq, nat_lt, List, [], ◌∷◌, ◌++◌, length, map, slice_get, slice_set, Option, Some, None, refl, ap, sym, ◌∙◌, ◌⊎◌, arith, inl, inr, length-append}
use Rattle.std.specs.Prelude.{◌==◌, unwrap_or, slice_index_or, replicate}
use Rattle.std.specs.List.{list_any}
use Rattle.std.proofs.lemmas.Bool.{cases_eq, eq-eqb, ne_eqb}
use Rattle.std.proofs.lemmas.List.{length-set, get_or-set_same, get_or-set_other}
use Rattle.std.proofs.lemmas.List.Folds.{list_any-append}
use Rattle.std.proofs.lemmas.Option.{unwrap_or-slice_get}
use Rattle.lemmas.specs.Lists.{length_replicate, get_front, get_end}
use Rattle.ir_ast.specs.declared.argument.Argument.{Argument}
use Rattle.ir_ast.specs.declared.block.Block.{Block}
use Rattle.ir_ast.specs.declared.function.Function.{Function}
use Rattle.ir_ast.specs.declared.instr.Instr.{Instr}
use Rattle.ir_ast.specs.declared.memory.MemoryOp.TheVariants.{Alloca}
use Rattle.ir_ast.specs.declared.module.Module.{Module}
use Rattle.ir_ast.specs.declared.op.Op.{Op}
use Rattle.ir_ast.specs.declared.op.Op.TheVariants.{Memory, Element, Cast, Call}
use Rattle.ir_ast.specs.declared.operand.Operand.{Operand}
use Rattle.ir_ast.specs.declared.operand.Operand.TheVariants.{Constant, Local, Global, CastGlobal}
use Rattle.ir_ast.specs.declared.runtime.Runtime.{Runtime}
use Rattle.ir_ast.specs.declared.runtime.Runtime.TheVariants.{GcRoot}
use Rattle.shadow_stack.specs.declared.draft.Draft.{Draft}
use Rattle.shadow_stack.specs.declared.draft.Origin.{Origin}
use Rattle.shadow_stack.specs.declared.draft.Origin.TheVariants as origin
use Rattle.shadow_stack.specs.Hops.{hops_nowhere, hops_slot, hops_address}
use Rattle.shadow_stack.specs.Slots.{slots_of, is_among, put, origin_of, recorded_op, recorded, recorded_blocks, draft_of, origin_at, hop, hops, slot_at, names_of, is_reference_held, operand_slot, first_slot, slot_rooted, slot_rooted_by, with_root, with_roots, with_roots_of}
use Rattle.types.specs.RuntimeCall.{runtime_called}
use Rattle.certs.specs.RootNames.{is_among_roots, is_root, root_recorded, roots_recorded, roots_of_blocks, root_names}
use Rattle.certs.specs.Roots.{nowhere, source_of_operand, source_recorded, source_after, source_after_blocks, source_of, allocated_at, allocated_by, allocated_within, allocated, is_alloca_of, leads_to, first_leads_to, roots_by, roots, some_roots, is_rooted, is_alloca, some_alloca, has_alloca, is_root_alloca, is_root_found}
use Rattle.certs.specs.declared.roots.Source.{Source}
use Rattle.certs.specs.declared.roots.Source.TheVariants.{Nowhere, Held, Same}
use Rattle.certs.specs.declared.roots.SlotName.{SlotName}

-- a bitcast leads to what its operand leads to
pub allocated_on : (f : Function) (n name other : ℕ) → source_of f name ≡ Same other → allocated_within f (suc n) name ≡ allocated_within f n other
unfolding allocated_within
allocated_on f n name other e = rw e refl

-- ---- what a name was defined as

-- a name's source is its origin, whose slot holds the source's type
abbrev Agrees : (held : List ℕ) → Source → Origin → Type 0
Agrees held Nowhere origin.Nowhere = Unit {0}
Agrees held Nowhere origin.Address = Unit {0}
Agrees held (Held written) (origin.Slot slot) = slice_get held slot ≡ Some written
Agrees held (Same value) (origin.Same other) = value ≡ other
Agrees held _ _ = ⊥

agrees_more : (held : List ℕ) (written : ℕ) (s : Source) (o : Origin) → Agrees held s o → Agrees (held ++ written ∷ []) s o
agrees_more held written Nowhere origin.Nowhere h = tt
agrees_more held written Nowhere origin.Address h = tt
agrees_more held written (Held w) (origin.Slot slot) h = get_front held (written ∷ []) slot w h
agrees_more held written (Same v) (origin.Same w) h = h
agrees_more held written Nowhere (origin.Slot slot) h = absurd h
agrees_more held written Nowhere (origin.Same w) h = absurd h
agrees_more held written (Held w) origin.Nowhere h = absurd h
agrees_more held written (Held w) origin.Address h = absurd h
agrees_more held written (Held w) (origin.Same v) h = absurd h
agrees_more held written (Same v) origin.Nowhere h = absurd h
agrees_more held written (Same v) origin.Address h = absurd h
agrees_more held written (Same v) (origin.Slot slot) h = absurd h

-- a name's source and origin, where an instruction of some name defines another
set_agrees : (value name : ℕ) (held : List ℕ) (os : List Origin) (s t : Source) (o : Origin) → value < length os → Agrees held s o → Agrees held t (origin_at os value)
    → Agrees held (cond (name == value) s t) (origin_at (slice_set os name o) value)
set_agrees value name held os s t o within new old = elim (cases_eq name value) [
  | inl same ↦ rw (eq-eqb name value same, sym same) (subst_at name within new same)
  | inr other ↦ rw (ne_eqb name value other, get_or-set_other os name value o origin.Nowhere (λ e. other (sym e))) old
]
  where
    subst_at : (name : ℕ) → value < length os → Agrees held s o → name ≡ value → Agrees held s (origin_at (slice_set os name o) name)
    subst_at name within new same = let w : name < length os = omega (arith, same) in rw (get_or-set_same os name o origin.Nowhere w) new

operand_agrees : (held : List ℕ) (operand : Operand) → Agrees held (source_of_operand operand) (origin_of operand)
operand_agrees held (Constant c) = tt
operand_agrees held (Local value) = refl
operand_agrees held (Global symbol) = tt
operand_agrees held (CastGlobal from symbol to) = tt

put_length : (name : Option ℕ) (o : Origin) (os : List Origin) → length (put name o os) ≡ length os
put_length None o os = refl
put_length (Some value) o os = length-set os value o

recorded_length : (name : Option ℕ) (op : Op) (d : Draft) → length (recorded_op name op d).origins ≡ length d.origins
recorded_length name (Memory (Alloca held)) d = put_length name (origin.Slot (length d.held)) d.origins
recorded_length name (Element x) d = put_length name origin.Address d.origins
recorded_length name (Cast x) d = put_length name (origin_of x.operand) d.origins
recorded_length name _ d = refl

recorded_agrees : (value : ℕ) (name : Option ℕ) (op : Op) (d : Draft) (s : Source) → value < length d.origins → Agrees d.held s (origin_at d.origins value)
    → Agrees (recorded_op name op d).held (source_recorded value name op s) (origin_at (recorded_op name op d).origins value)
recorded_agrees value None (Memory (Alloca held)) d s within h = agrees_more d.held held s (origin_at d.origins value) h
recorded_agrees value (Some name) (Memory (Alloca held)) d s within h =
    set_agrees value name (d.held ++ held ∷ []) d.origins (Held held) s (origin.Slot (length d.held)) within (get_end d.held held) (agrees_more d.held held s (origin_at d.origins value) h)
recorded_agrees value None (Element x) d s within h = h
recorded_agrees value (Some name) (Element x) d s within h = set_agrees value name d.held d.origins nowhere s origin.Address within tt h
recorded_agrees value None (Cast x) d s within h = h
recorded_agrees value (Some name) (Cast x) d s within h =
    set_agrees value name d.held d.origins (source_of_operand x.operand) s (origin_of x.operand) within (operand_agrees d.held x.operand) h
recorded_agrees value name _ d s within h = h

after_agrees : (value : ℕ) (instrs : List Instr) (d : Draft) (s : Source) → value < length d.origins → Agrees d.held s (origin_at d.origins value)
    → (length (recorded instrs d).origins ≡ length d.origins) × Agrees (recorded instrs d).held (source_after value instrs s) (origin_at (recorded instrs d).origins value)
after_agrees value [] d s within h = (refl, h)
after_agrees value (instr ∷ instrs) d s within h =
    let len = recorded_length instr.result instr.op d in
    let r = after_agrees value instrs (recorded_op instr.result instr.op d) (source_recorded value instr.result instr.op s) (omega (arith, len)) (recorded_agrees value instr.result instr.op d s within h) in
    (r.0 ∙ len, r.1)

blocks_agree : (value : ℕ) (blocks : List Block) (d : Draft) (s : Source) → value < length d.origins → Agrees d.held s (origin_at d.origins value)
    → Agrees (recorded_blocks blocks d).held (source_after_blocks value blocks s) (origin_at (recorded_blocks blocks d).origins value)
blocks_agree value [] d s within h = h
blocks_agree value (block ∷ blocks) d s within h =
    let r = after_agrees value block.body d s within h in
    blocks_agree value blocks (recorded block.body d) (source_after value block.body s) (omega (arith, r.0)) r.1

-- ---- no two names are of one slot

-- each name of a slot is the only one, and the slot has a type
abbrev Apart : Draft → Type 0
Apart d = ((i j slot : ℕ) → origin_at d.origins i ≡ origin.Slot slot → origin_at d.origins j ≡ origin.Slot slot → i ≡ j) × ((i slot : ℕ) → origin_at d.origins i ≡ origin.Slot slot → slot < length d.held)

-- what is at a place after a write: what is written, or what was there
set_cases : (os : List Origin) (name : ℕ) (o : Origin) (i : ℕ) → ((i ≡ name) × (origin_at (slice_set os name o) i ≡ o)) ⊎ (origin_at (slice_set os name o) i ≡ origin_at os i)
set_cases [] name o i = inr refl
set_cases (x ∷ os) zero o zero = inl (refl, refl)
set_cases (x ∷ os) zero o (suc i) = inr refl
set_cases (x ∷ os) (suc name) o zero = inr refl
set_cases (x ∷ os) (suc name) o (suc i) = elim (set_cases os name o i) [
  | inl h ↦ inl (ap suc h.0, h.1)
  | inr h ↦ inr h
]

slot_is : (s t : ℕ) (o : Origin) → o ≡ origin.Slot s → o ≡ origin.Slot t → s ≡ t
slot_is s t o e h = cc

-- an origin that is no slot is written
other_apart : (os : List Origin) (held : List ℕ) (name : ℕ) (o : Origin) → ((slot : ℕ) → o ≡ origin.Slot slot → ⊥) → Apart (record { origins = os; held = held }) → Apart (record { origins = slice_set os name o; held = held })
other_apart os held name o none h = (one, two)
  where
    was : (i slot : ℕ) → origin_at (slice_set os name o) i ≡ origin.Slot slot → origin_at os i ≡ origin.Slot slot
    was i slot e = elim (set_cases os name o i) [
      | inl w ↦ absurd (none slot (sym w.1 ∙ e))
      | inr w ↦ sym w ∙ e
    ]

    one : (i j slot : ℕ) → origin_at (slice_set os name o) i ≡ origin.Slot slot → origin_at (slice_set os name o) j ≡ origin.Slot slot → i ≡ j
    one i j slot e g = h.0 i j slot (was i slot e) (was j slot g)

    two : (i slot : ℕ) → origin_at (slice_set os name o) i ≡ origin.Slot slot → slot < length held
    two i slot e = h.1 i slot (was i slot e)

-- a new slot is written
slot_apart : (os : List Origin) (held : List ℕ) (name written : ℕ) → Apart (record { origins = os; held = held })
    → Apart (record { origins = slice_set os name (origin.Slot (length held)); held = held ++ written ∷ [] })
slot_apart os held name written h = (one, two)
  where
    new : Origin
    new = origin.Slot (length held)

    longer : length (held ++ written ∷ []) ≡ suc (length held)
    longer = omega (arith, length-append held (written ∷ []))

    was : (i slot : ℕ) → origin_at (slice_set os name new) i ≡ origin.Slot slot → ((i ≡ name) × (slot ≡ length held)) ⊎ (origin_at os i ≡ origin.Slot slot)
    was i slot e = elim (set_cases os name new i) [
      | inl w ↦ inl (w.0, slot_is slot (length held) (origin_at (slice_set os name new) i) e w.1)
      | inr w ↦ inr (sym w ∙ e)
    ]

    one : (i j slot : ℕ) → origin_at (slice_set os name new) i ≡ origin.Slot slot → origin_at (slice_set os name new) j ≡ origin.Slot slot → i ≡ j
    one i j slot e g = elim (was i slot e) [
      | inl w ↦ elim (was j slot g) [
        | inl v ↦ w.0 ∙ sym v.0
        | inr v ↦ let less = h.1 j slot v in absurd (omega (arith, w.1, less))
      ]
      | inr w ↦ elim (was j slot g) [
        | inl v ↦ let less = h.1 i slot w in absurd (omega (arith, v.1, less))
        | inr v ↦ h.0 i j slot w v
      ]
    ]

    two : (i slot : ℕ) → origin_at (slice_set os name new) i ≡ origin.Slot slot → slot < length (held ++ written ∷ [])
    two i slot e = elim (was i slot e) [
      | inl w ↦ omega (arith, w.1, longer)
      | inr w ↦ let less = h.1 i slot w in omega (arith, less, longer)
    ]

-- a type more, and no name
held_apart : (os : List Origin) (held : List ℕ) (written : ℕ) → Apart (record { origins = os; held = held }) → Apart (record { origins = os; held = held ++ written ∷ [] })
held_apart os held written h = (h.0, λ i slot e. let less = h.1 i slot e in omega (arith, less, length-append held (written ∷ [])))

no_slot : (operand : Operand) (slot : ℕ) → origin_of operand ≡ origin.Slot slot → ⊥
no_slot (Constant c) slot e = cc
no_slot (Local value) slot e = cc
no_slot (Global symbol) slot e = cc
no_slot (CastGlobal from symbol to) slot e = cc

recorded_apart : (name : Option ℕ) (op : Op) (d : Draft) → Apart d → Apart (recorded_op name op d)
recorded_apart None (Memory (Alloca held)) d h = held_apart d.origins d.held held h
recorded_apart (Some name) (Memory (Alloca held)) d h = slot_apart d.origins d.held name held h
recorded_apart None (Element x) d h = h
recorded_apart (Some name) (Element x) d h = other_apart d.origins d.held name origin.Address (λ slot e. cc) h
recorded_apart None (Cast x) d h = h
recorded_apart (Some name) (Cast x) d h = other_apart d.origins d.held name (origin_of x.operand) (no_slot x.operand) h
recorded_apart name _ d h = h

after_apart : (instrs : List Instr) (d : Draft) → Apart d → Apart (recorded instrs d)
after_apart [] d h = h
after_apart (instr ∷ instrs) d h = after_apart instrs (recorded_op instr.result instr.op d) (recorded_apart instr.result instr.op d h)

blocks_apart : (blocks : List Block) (d : Draft) → Apart d → Apart (recorded_blocks blocks d)
blocks_apart [] d h = h
blocks_apart (block ∷ blocks) d h = blocks_apart blocks (recorded block.body d) (after_apart block.body d h)

nowhere_at : (n i : ℕ) → origin_at (replicate n origin.Nowhere) i ≡ origin.Nowhere
nowhere_at zero i = refl
nowhere_at (suc n) zero = refl
nowhere_at (suc n) (suc i) = nowhere_at n i

none_apart : (n : ℕ) → Apart (record { origins = replicate n origin.Nowhere; held = [] })
none_apart n = (λ i j slot e g. absurd (none i slot e), λ i slot e. absurd (none i slot e))
  where
    none : (i slot : ℕ) → origin_at (replicate n origin.Nowhere) i ≡ origin.Slot slot → ⊥
    none i slot e = let z = nowhere_at n i in cc

after_length : (instrs : List Instr) (d : Draft) → length (recorded instrs d).origins ≡ length d.origins
after_length [] d = refl
after_length (instr ∷ instrs) d = after_length instrs (recorded_op instr.result instr.op d) ∙ recorded_length instr.result instr.op d

blocks_length : (blocks : List Block) (d : Draft) → length (recorded_blocks blocks d).origins ≡ length d.origins
blocks_length [] d = refl
blocks_length (block ∷ blocks) d = blocks_length blocks (recorded block.body d) ∙ after_length block.body d

past_end : (os : List Origin) (i : ℕ) → length os ≤ i → origin_at os i ≡ origin.Nowhere
past_end [] i le = refl
past_end (o ∷ os) zero le = absurd (omega arith)
past_end (o ∷ os) (suc i) le = past_end os i (omega arith)

module _ (m : Module) (f : Function) where
  abbrev start : Draft
  start = record { origins = replicate (length f.locals) origin.Nowhere; held = [] }

  abbrev os : List Origin
  os = (draft_of f).origins

  abbrev held : List ℕ
  held = (draft_of f).held

  abbrev names : List (Option ℕ)
  names = names_of os

  as_many : length os ≡ length f.locals
  as_many = blocks_length f.blocks start ∙ length_replicate (length f.locals) origin.Nowhere

  all_apart : Apart (draft_of f)
  all_apart = blocks_apart f.blocks start (none_apart (length f.locals))

  agrees_at : (value : ℕ) → Agrees held (source_of f value) (origin_at os value)
  agrees_at value = pick (nat_lt value (length f.locals)) refl
    where
      pick : (b : Bool) → nat_lt value (length f.locals) ≡ b → Agrees held (cond b (source_after_blocks value f.blocks nowhere) nowhere) (origin_at os value)
      pick true e =
          let within : value < length start.origins = grind (arith, e, length_replicate (length f.locals) origin.Nowhere) in
          let first : Agrees start.held nowhere (origin_at start.origins value) = rw (nowhere_at (length f.locals) value) tt in
          blocks_agree value f.blocks start nowhere within first
      pick false e =
          let past : length os ≤ value = grind (arith, e, as_many) in
          rw (past_end os value past) tt

  -- the alloca to which a name leads is its slot's
  abbrev Leads : Option SlotName → Option ℕ → Type 0
  Leads None None = Unit {0}
  Leads (Some found) (Some slot) = (slice_get held slot ≡ Some found.held) × (origin_at os found.name ≡ origin.Slot slot)
  Leads _ _ = ⊥

  leads_here : (value : ℕ) (s : Source) (o : Origin) → origin_at os value ≡ o → Agrees held s o → Leads (allocated_at value s) (slot_at o)
  leads_here value Nowhere origin.Nowhere e h = tt
  leads_here value Nowhere origin.Address e h = tt
  leads_here value (Held w) (origin.Slot slot) e h = (h, e)
  leads_here value (Same v) (origin.Same w) e h = tt
  leads_here value Nowhere (origin.Slot slot) e h = absurd h
  leads_here value Nowhere (origin.Same w) e h = absurd h
  leads_here value (Held w) origin.Nowhere e h = absurd h
  leads_here value (Held w) origin.Address e h = absurd h
  leads_here value (Held w) (origin.Same v) e h = absurd h
  leads_here value (Same v) origin.Nowhere e h = absurd h
  leads_here value (Same v) origin.Address e h = absurd h
  leads_here value (Same v) (origin.Slot slot) e h = absurd h

  leads_on : (n value : ℕ) (s : Source) (o : Origin) → origin_at os value ≡ o → Agrees held s o → ((other : ℕ) → Leads (allocated_within f n other) (slot_at (hops os n (origin_at os other))))
      → Leads (allocated_by value s (λ other. allocated_within f n other)) (slot_at (hops os n (hop os o)))
  leads_on n value Nowhere origin.Nowhere e h more = rw (hops_nowhere os n) tt
  leads_on n value Nowhere origin.Address e h more = rw (hops_address os n) tt
  leads_on n value (Held w) (origin.Slot slot) e h more = rw (hops_slot os n slot) (h, e)
  leads_on n value (Same v) (origin.Same w) e h more = rw (sym h) (more v)
  leads_on n value Nowhere (origin.Slot slot) e h more = absurd h
  leads_on n value Nowhere (origin.Same w) e h more = absurd h
  leads_on n value (Held w) origin.Nowhere e h more = absurd h
  leads_on n value (Held w) origin.Address e h more = absurd h
  leads_on n value (Held w) (origin.Same v) e h more = absurd h
  leads_on n value (Same v) origin.Nowhere e h more = absurd h
  leads_on n value (Same v) origin.Address e h more = absurd h
  leads_on n value (Same v) (origin.Slot slot) e h more = absurd h

  leads_within : (n value : ℕ) → Leads (allocated_within f n value) (slot_at (hops os n (origin_at os value)))
  unfolding allocated_within
  leads_within zero value = leads_here value (source_of f value) (origin_at os value) refl (agrees_at value)
  leads_within (suc n) value = leads_on n value (source_of f value) (origin_at os value) refl (agrees_at value) (leads_within n)

  mapped_at : (g : Origin → Option ℕ) (xs : List Origin) (i : ℕ) → g origin.Nowhere ≡ None → unwrap_or (slice_get (map g xs) i) None ≡ g (origin_at xs i)
  mapped_at g [] i e = sym e
  mapped_at g (x ∷ xs) zero e = refl
  mapped_at g (x ∷ xs) (suc i) e = mapped_at g xs i e

  abbrev slot_of_name : ℕ → Option ℕ
  slot_of_name value = unwrap_or (slice_get names value) None

  leads : (value : ℕ) → Leads (allocated f value) (slot_of_name value)
  leads value =
      rw (mapped_at (λ o. slot_at (hops os (length os) o)) os value (ap slot_at (hops_nowhere os (length os))), as_many)
      (leads_within (length f.locals) value)

  -- ---- roots

  abbrev is_slot : (slot : ℕ) → Option ℕ → Bool
  is_slot slot None = false
  is_slot slot (Some other) = nat_eq slot other

  same_alloca : (slot name : ℕ) → origin_at os name ≡ origin.Slot slot → (found : Option SlotName) (other : Option ℕ) → Leads found other → is_alloca_of name found ≡ is_slot slot other
  same_alloca slot name e None None h = refl
  same_alloca slot name e None (Some other) h = absurd h
  same_alloca slot name e (Some found) None h = absurd h
  same_alloca slot name e (Some found) (Some other) h = elim (cases_eq found.name name) [
    | inl same ↦
        let q : slot ≡ other = slot_is slot other (origin_at os name) e (ap (origin_at os) (sym same) ∙ h.1) in
        eq-eqb found.name name same ∙ sym (eq-eqb slot other q)
    | inr differ ↦ ne_eqb found.name name differ ∙ sym (ne_eqb slot other (λ q. differ (all_apart.0 found.name name slot (h.1 ∙ ap (λ x. origin.Slot x) (sym q)) e)))
  ]

  module _ (slot name : ℕ) (e : origin_at os name ≡ origin.Slot slot) where
    operand_same : (operand : Operand) → leads_to f name operand ≡ is_slot slot (operand_slot names operand)
    operand_same (Local value) = same_alloca slot name e (allocated f value) (slot_of_name value) (leads value)
    operand_same _ = refl

    first_same : (arguments : List Argument) → first_leads_to f name arguments ≡ is_slot slot (first_slot names arguments)
    first_same [] = refl
    first_same (argument ∷ arguments) = operand_same argument.operand

    call_same : (arguments : List Argument) (called : Option Runtime) → roots_by f name arguments called ≡ is_slot slot (slot_rooted names arguments called)
    call_same arguments (Some GcRoot) = first_same arguments
    call_same arguments _ = refl

    op_same : (op : Op) → roots m f name op ≡ is_slot slot (slot_rooted_by m names op)
    op_same (Call x) = call_same x.arguments (runtime_called m x.callee)
    op_same _ = refl

    abbrev fits_root : Bool
    fits_root = is_reference_held m (slice_get held slot)

    or_false : (b : Bool) → (b || false) ≡ b
    or_false true = refl
    or_false false = refl

    and_false : (b : Bool) → (b && false) ≡ false
    and_false true = refl
    and_false false = refl

    among_more : (xs : List ℕ) (other : ℕ) → is_among (xs ++ other ∷ []) slot ≡ (is_among xs slot || nat_eq slot other)
    among_more xs other = list_any-append (nat_eq slot) xs (other ∷ []) ∙ ap (λ b. is_among xs slot || b) (or_false (nat_eq slot other))

    same_added : (xs : List ℕ) (fits new : Bool) → is_among xs slot ≡ new → is_among (cond fits (cond new xs (xs ++ slot ∷ [])) xs) slot ≡ (is_among xs slot || (fits && nat_eq slot slot))
    same_added xs false new e = sym (or_false (is_among xs slot))
    same_added xs true true e = rw e refl
    same_added xs true false e = among_more xs slot

    other_added : (xs : List ℕ) (other : ℕ) (fits here new : Bool) → nat_eq slot other ≡ false → is_among (cond here (cond new xs (xs ++ other ∷ [])) xs) slot ≡ (is_among xs slot || (fits && nat_eq slot other))
    other_added xs other fits here new e = grown here new ∙ sym (ap (λ b. is_among xs slot || (fits && b)) e ∙ ap (λ b. is_among xs slot || b) (and_false fits) ∙ or_false (is_among xs slot))
      where
        grown : (here new : Bool) → is_among (cond here (cond new xs (xs ++ other ∷ [])) xs) slot ≡ is_among xs slot
        grown false new = refl
        grown true true = refl
        grown true false = among_more xs other ∙ ap (λ b. is_among xs slot || b) e ∙ or_false (is_among xs slot)

    -- a slot is among the roots with one more, if that fits and is new
    root_added : (xs : List ℕ) (r : Option ℕ) → is_among (with_root m held r xs) slot ≡ (is_among xs slot || (fits_root && is_slot slot r))
    root_added xs None = sym (ap (λ b. is_among xs slot || b) (and_false fits_root) ∙ or_false (is_among xs slot))
    root_added xs (Some other) = elim (cases_eq slot other) [
      | inl same ↦ rw (sym same) (same_added xs fits_root (is_among xs slot) refl)
      | inr differ ↦ other_added xs other fits_root (is_reference_held m (slice_get held other)) (is_among xs other) (ne_eqb slot other differ)
    ]

    merged : (a r x y : Bool) → ((a || (r && x)) || (r && y)) ≡ (a || (r && (x || y)))
    merged true r x y = refl
    merged false true x y = refl
    merged false false x y = refl

    roots_in : (instrs : List Instr) (xs : List ℕ) → is_among (with_roots m names held instrs xs) slot ≡ (is_among xs slot || (fits_root && some_roots m f name instrs))
    roots_in [] xs = sym (ap (λ b. is_among xs slot || b) (and_false fits_root) ∙ or_false (is_among xs slot))
    roots_in (instr ∷ instrs) xs =
        roots_in instrs (with_root m held (slot_rooted_by m names instr.op) xs)
        ∙ ap (λ b. b || (fits_root && some_roots m f name instrs)) (root_added xs (slot_rooted_by m names instr.op) ∙ ap (λ b. is_among xs slot || (fits_root && b)) (sym (op_same instr.op)))
        ∙ merged (is_among xs slot) fits_root (roots m f name instr.op) (some_roots m f name instrs)

    abbrev some_blocks : List Block → Bool
    some_blocks blocks = list_any (λ (block : Block). some_roots m f name block.body) blocks

    roots_in_blocks : (blocks : List Block) (xs : List ℕ) → is_among (with_roots_of m names held blocks xs) slot ≡ (is_among xs slot || (fits_root && some_blocks blocks))
    roots_in_blocks [] xs = sym (ap (λ b. is_among xs slot || b) (and_false fits_root) ∙ or_false (is_among xs slot))
    roots_in_blocks (block ∷ blocks) xs =
        roots_in_blocks blocks (with_roots m names held block.body xs)
        ∙ ap (λ b. b || (fits_root && some_blocks blocks)) (roots_in block.body xs)
        ∙ merged (is_among xs slot) fits_root (some_roots m f name block.body) (some_blocks blocks)

  root_by : (found : Option SlotName) (other : Option ℕ) → Leads found other → is_among_roots (slots_of m f) other ≡ is_root_alloca m f found
  root_by None None h = refl
  root_by None (Some slot) h = absurd h
  root_by (Some found) None h = absurd h
  root_by (Some found) (Some slot) h = roots_in_blocks slot found.name h.1 f.blocks [] ∙ ap (λ (o : Option ℕ). is_reference_held m o && is_rooted m f found.name) h.0

  root_same : (value : ℕ) → is_root (slots_of m f) value ≡ is_root_alloca m f (allocated f value)
  root_same value = root_by (allocated f value) (slot_of_name value) (leads value)

  -- ---- the names of root slots

  module _ (value : ℕ) where
    abbrev recorded_is : List Bool → Bool
    recorded_is rs = slice_index_or rs value false

    abbrev rooted : Bool
    rooted = is_root (slots_of m f) value

    op_recorded : (name : Option ℕ) (op : Op) (rs : List Bool) → value < length rs → (length (root_recorded (slots_of m f) op name rs) ≡ length rs) × (recorded_is (root_recorded (slots_of m f) op name rs) ≡ cond (is_alloca name value op) rooted (recorded_is rs))
    op_recorded None (Memory (Alloca h)) rs within = (refl, refl)
    op_recorded (Some name) (Memory (Alloca h)) rs within = (
      length-set rs name (is_root (slots_of m f) name),
      elim (cases_eq name value) [
        | inl same ↦ rw (eq-eqb name value same) (ap (λ (x : ℕ). recorded_is (slice_set rs x (is_root (slots_of m f) x))) same ∙ get_or-set_same rs value rooted false within)
        | inr other ↦ rw (ne_eqb name value other) (get_or-set_other rs name value (is_root (slots_of m f) name) false (λ e. other (sym e)))
      ],
    )
    op_recorded name _ rs within = (refl, refl)

    either_recorded : (a b x y : Bool) → cond b x (cond a x y) ≡ cond (a || b) x y
    either_recorded true true x y = refl
    either_recorded true false x y = refl
    either_recorded false b x y = refl

    instrs_recorded : (instrs : List Instr) (rs : List Bool) → value < length rs → (length (roots_recorded (slots_of m f) instrs rs) ≡ length rs) × (recorded_is (roots_recorded (slots_of m f) instrs rs) ≡ cond (some_alloca value instrs) rooted (recorded_is rs))
    instrs_recorded [] rs within = (refl, refl)
    instrs_recorded (instr ∷ instrs) rs within =
        let one = op_recorded instr.result instr.op rs within in
        let more = instrs_recorded instrs (root_recorded (slots_of m f) instr.op instr.result rs) (omega (arith, one.0, within)) in
        (more.0 ∙ one.0, more.1 ∙ ap (λ b. cond (some_alloca value instrs) rooted b) one.1 ∙ either_recorded (is_alloca instr.result value instr.op) (some_alloca value instrs) rooted (recorded_is rs))

    abbrev some_block_alloca : List Block → Bool
    some_block_alloca blocks = list_any (λ (block : Block). some_alloca value block.body) blocks

    blocks_recorded : (blocks : List Block) (rs : List Bool) → value < length rs → recorded_is (roots_of_blocks (slots_of m f) blocks rs) ≡ cond (some_block_alloca blocks) rooted (recorded_is rs)
    blocks_recorded [] rs within = refl
    blocks_recorded (block ∷ blocks) rs within =
        let one = instrs_recorded block.body rs within in
        blocks_recorded blocks (roots_recorded (slots_of m f) block.body rs) (omega (arith, one.0, within))
        ∙ ap (λ b. cond (some_block_alloca blocks) rooted b) one.1 ∙ either_recorded (some_alloca value block.body) (some_block_alloca blocks) rooted (recorded_is rs)

    none_recorded : (n : ℕ) → recorded_is (replicate n false) ≡ false
    none_recorded n = none n value
      where
        none : (n i : ℕ) → slice_index_or (replicate n false) i false ≡ false
        none zero i = refl
        none (suc n) zero = refl
        none (suc n) (suc i) = none n i

    op_length : (name : Option ℕ) (op : Op) (rs : List Bool) → length (root_recorded (slots_of m f) op name rs) ≡ length rs
    op_length None (Memory (Alloca h)) rs = refl
    op_length (Some name) (Memory (Alloca h)) rs = length-set rs name (is_root (slots_of m f) name)
    op_length name _ rs = refl

    instrs_length : (instrs : List Instr) (rs : List Bool) → length (roots_recorded (slots_of m f) instrs rs) ≡ length rs
    instrs_length [] rs = refl
    instrs_length (instr ∷ instrs) rs = instrs_length instrs (root_recorded (slots_of m f) instr.op instr.result rs) ∙ op_length instr.result instr.op rs

    blocks_recorded_length : (blocks : List Block) (rs : List Bool) → length (roots_of_blocks (slots_of m f) blocks rs) ≡ length rs
    blocks_recorded_length [] rs = refl
    blocks_recorded_length (block ∷ blocks) rs = blocks_recorded_length blocks (roots_recorded (slots_of m f) block.body rs) ∙ instrs_length block.body rs

    past_names : (rs : List Bool) (i : ℕ) → length rs ≤ i → slice_index_or rs i false ≡ false
    past_names [] i le = refl
    past_names (r ∷ rs) zero le = absurd (omega arith)
    past_names (r ∷ rs) (suc i) le = past_names rs i (omega arith)

    as_and : (a r s : Bool) → r ≡ s → cond a r false ≡ (a && s)
    as_and true r s e = e
    as_and false r s e = refl

    abbrev unnamed : List Bool
    unnamed = replicate (length f.locals) false

    found_by : (b : Bool) → nat_lt value (length f.locals) ≡ b → recorded_is (root_names m f) ≡ (b && has_alloca f value && is_root_alloca m f (allocated f value))
    found_by true e =
        let within : value < length unnamed = grind (arith, e, length_replicate (length f.locals) false) in
        blocks_recorded f.blocks unnamed within ∙ ap (λ b. cond (has_alloca f value) rooted b) (none_recorded (length f.locals)) ∙ as_and (has_alloca f value) rooted (is_root_alloca m f (allocated f value)) (root_same value)
    found_by false e =
        past_names (root_names m f) value (grind (arith, e, length_replicate (length f.locals) false, blocks_recorded_length f.blocks unnamed))

  pub is_root_same : (value : ℕ) → is_root_found m f value ≡ unwrap_or (slice_get (root_names m f) value) false
  is_root_same value = sym (unwrap_or-slice_get (root_names m f) value false ∙ found_by value (nat_lt value (length f.locals)) refl)
