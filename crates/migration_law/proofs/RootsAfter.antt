-- A root slot stays one.
use Rattle.std.proofs.Common.{◌≡◌, ℕ, zero, suc, Bool, true, false, ◌||◌, nat_eq, List, [], ◌∷◌, ◌++◌, length, map, replicate, slice_get, slice_set, unwrap_or, is_some, if◌then◌else◌, Option, None, Some, refl, sym, ap, ◌∙◌, subst, option_map, inl, inr, eqb-true}
use Rattle.std.proofs.lemmas.Option.{slice_get-map}
use Rattle.std.proofs.lemmas.List.{map-append}
use Rattle.lemmas.specs.Bools.{or_first, or_second, or_parts, or_false}
use Rattle.ir_ast.specs.Places.{map-length}
use Rattle.ir_ast.specs.declared.argument.Argument.{Argument}
use Rattle.ir_ast.specs.declared.block.Block.{Block}
use Rattle.ir_ast.specs.declared.function.Function.{Function}
use Rattle.ir_ast.specs.declared.function.LocalSort.{LocalSort}
use Rattle.ir_ast.specs.declared.function.LocalSort.TheVariants as sort
use Rattle.ir_ast.specs.declared.instr.Instr.{Instr}
use Rattle.ir_ast.specs.declared.items_of_module.Declare.{Declare}
use Rattle.ir_ast.specs.declared.items_of_module.SymbolSort.{SymbolSort}
use Rattle.ir_ast.specs.declared.items_of_module.SymbolSort.TheVariants as symbol
use Rattle.ir_ast.specs.declared.memory.MemoryOp.TheVariants as memory
use Rattle.ir_ast.specs.declared.module.Module.{Module}
use Rattle.ir_ast.specs.declared.op.Op.{Op}
use Rattle.ir_ast.specs.declared.op.Op.TheVariants as op
use Rattle.ir_ast.specs.declared.operand.Operand.{Operand}
use Rattle.ir_ast.specs.declared.operand.Operand.TheVariants as operand
use Rattle.ir_ast.specs.declared.runtime.Runtime.{Runtime}
use Rattle.ir_ast.specs.declared.runtime.Runtime.TheVariants as runtime
use Rattle.copies.specs.Opaque.{new_number, opaque_argument, opaque_block, opaque_declare, opaque_function, opaque_instr, opaque_op, opaque_operand, opaque_sort}
use Rattle.shadow_stack.specs.Slots.{draft_of, first_slot, is_among, is_reference_held, names_of, operand_slot, origin_of, recorded, recorded_blocks, recorded_op, slot_of, slot_rooted, slot_rooted_by, slots_of, with_root, with_roots, with_roots_of}
use Rattle.types.specs.References.{is_opaque, referenced_layout}
use Rattle.types.specs.RuntimeCall.{runtime_called, runtime_of_declare, runtime_of_sort}
use Rattle.certs.specs.Fits.{is_root_name, is_value, is_value_sort}
use Rattle.certs.specs.RootNames.{is_among_roots, is_root, root_names, root_recorded, roots_of_blocks, roots_recorded}
use Rattle.migration_law.proofs.Implies.{Implies, itself, both_imply}
use Rattle.migration_law.proofs.FamiliesAfter.{o, numbers, opaque_stays, points, pointer_is_opaque}

-- the type of something
abbrev TypeOf : {A : Type 0} → A → Type 0
TypeOf {A = A} a = A

-- ---- lists of numbers

-- what is in the first list is in the second
abbrev Within : (first second : List ℕ) → Type 0
Within first second = (slot : ℕ) → Implies (is_among first slot) (is_among second slot)

among_front : (xs ys : List ℕ) (slot : ℕ) → Implies (is_among xs slot) (is_among (xs ++ ys) slot)
among_front [] ys slot h = absurd cc
among_front (x ∷ xs) ys slot h = elim (or_parts (nat_eq slot x) (is_among xs slot) h) [
  | inl e ↦ or_first (nat_eq slot x) (is_among (xs ++ ys) slot) e
  | inr e ↦ or_second (nat_eq slot x) (is_among (xs ++ ys) slot) (among_front xs ys slot e)
]

among_end : (xs ys : List ℕ) (slot : ℕ) → Implies (is_among ys slot) (is_among (xs ++ ys) slot)
among_end [] ys slot h = h
among_end (x ∷ xs) ys slot h = or_second (nat_eq slot x) (is_among (xs ++ ys) slot) (among_end xs ys slot h)

among_either : (xs ys more : List ℕ) (slot : ℕ) → Implies (is_among xs slot) (is_among more slot) → Implies (is_among ys slot) (is_among more slot) → Implies (is_among (xs ++ ys) slot) (is_among more slot)
among_either [] ys more slot f g h = g h
among_either (x ∷ xs) ys more slot f g h = elim (or_parts (nat_eq slot x) (is_among (xs ++ ys) slot) h) [
  | inl e ↦ f (or_first (nat_eq slot x) (is_among xs slot) e)
  | inr e ↦ among_either xs ys more slot (λ t. f (or_second (nat_eq slot x) (is_among xs slot) t)) g e
]

-- a number that is equal to one of them
same_among : (xs : List ℕ) (slot other : ℕ) → is_among (slot ∷ []) other ≡ true → is_among xs slot ≡ true → is_among xs other ≡ true
same_among xs slot other h t =
    let same : other ≡ slot = eqb-true other slot (sym (or_false (nat_eq other slot)) ∙ h) in
    subst (λ n. is_among xs n ≡ true) (sym same) t

-- with a number, where it is new
abbrev added : (slot : ℕ) → (roots : List ℕ) → List ℕ
added slot roots = if is_among roots slot then roots else roots ++ slot ∷ []

added_holds : (slot : ℕ) (roots : List ℕ) → Within roots (added slot roots)
added_holds slot roots other h = by (is_among roots slot) where
  by : (b : Bool) → is_among (if b then roots else roots ++ slot ∷ []) other ≡ true
  by true = h
  by false = among_front roots (slot ∷ []) other h

-- the number itself, by another one that is equal to it
added_there : (slot : ℕ) (roots : List ℕ) (other : ℕ) → Implies (is_among (slot ∷ []) other) (is_among (added slot roots) other)
added_there slot roots other h = by (is_among roots slot) refl where
  by : (b : Bool) → is_among roots slot ≡ b → is_among (if b then roots else roots ++ slot ∷ []) other ≡ true
  by false e = among_end roots (slot ∷ []) other h
  by true e = same_among roots slot other h e

added_within : (slot : ℕ) (roots more : List ℕ) → Within roots more → Within (added slot roots) (added slot more)
added_within slot roots more w other h = by (is_among roots slot) h where
  by : (b : Bool) → is_among (if b then roots else roots ++ slot ∷ []) other ≡ true → is_among (added slot more) other ≡ true
  by true t = added_holds slot more other (w other t)
  by false t = among_either roots (slot ∷ []) (added slot more) other (λ t. added_holds slot more other (w other t)) (added_there slot more other) t

-- ---- lists of tests

-- each test of the first list implies the one of the second
abbrev Below : List Bool → List Bool → Type 0
Below [] [] = Unit {0}
Below (x ∷ xs) (y ∷ ys) = Implies x y × Below xs ys
Below xs ys = ⊥

below_itself : (xs : List Bool) → Below xs xs
below_itself [] = tt
below_itself (x ∷ xs) = (itself x, below_itself xs)

below_set : (xs ys : List Bool) (i : ℕ) (a b : Bool) → Below xs ys → Implies a b → Below (slice_set xs i a) (slice_set ys i b)
below_set [] [] i a b h f = tt
below_set [] (y ∷ ys) i a b h f = absurd h
below_set (x ∷ xs) [] i a b h f = absurd h
below_set (x ∷ xs) (y ∷ ys) zero a b h f = (f, h.1)
below_set (x ∷ xs) (y ∷ ys) (suc i) a b h f = (h.0, below_set xs ys i a b h.1 f)

below_get : (xs ys : List Bool) (i : ℕ) → Below xs ys → Implies (unwrap_or (slice_get xs i) false) (unwrap_or (slice_get ys i) false)
below_get [] [] i h t = t
below_get [] (y ∷ ys) i h t = absurd h
below_get (x ∷ xs) [] i h t = absurd h
below_get (x ∷ xs) (y ∷ ys) zero h t = h.0 t
below_get (x ∷ xs) (y ∷ ys) (suc i) h t = below_get xs ys i h.1 t

module _ (m : Module) where
  -- ---- the functions of the runtime

  runtime_after : (found : Option Declare) → runtime_of_declare (option_map (opaque_declare (numbers m)) found) ≡ runtime_of_declare found
  runtime_after None = refl
  runtime_after (Some declared) = refl

  sort_called : (found : Option SymbolSort) → runtime_of_sort (o m) found ≡ runtime_of_sort m found
  sort_called None = refl
  sort_called (Some symbol.Unknown) = refl
  sort_called (Some (symbol.Global g)) = refl
  sort_called (Some (symbol.Declared d)) = ap runtime_of_declare (slice_get-map (opaque_declare (numbers m)) m.declares d) ∙ runtime_after (slice_get m.declares d)
  sort_called (Some (symbol.Defined f)) = refl

  same_called : (callee : ℕ) → runtime_called (o m) callee ≡ runtime_called m callee
  same_called callee = sort_called (slice_get m.sorts callee)

  -- ---- what holds references holds them

  held_by : (held : ℕ) (found : Option ℕ) → referenced_layout m held ≡ found → (is_some found || is_opaque m held) ≡ true → is_opaque (o m) (new_number (numbers m) held) ≡ true
  held_by held None e h = opaque_stays m held h
  held_by held (Some layout) e h = pointer_is_opaque m held (points m held layout e)

  held_reference : (held : Option ℕ) → Implies (is_reference_held m held) (is_reference_held (o m) (option_map (new_number (numbers m)) held))
  held_reference None h = h
  held_reference (Some held) h = or_second (is_some (referenced_layout (o m) (new_number (numbers m) held))) (is_opaque (o m) (new_number (numbers m) held)) (held_by held (referenced_layout m held) refl h)

  module _ (f : Function) where
    abbrev made : Function
    made = opaque_function (numbers m) f

    -- ---- what names were defined as

    abbrev Draft : Type 0
    Draft = TypeOf (draft_of f)

    abbrev draft_made : Draft → Draft
    draft_made d = record { origins = d.origins; held = map (new_number (numbers m)) d.held }

    origin_same : (x : Operand) → origin_of (opaque_operand x) ≡ origin_of x
    origin_same (operand.Constant c) = refl
    origin_same (operand.Local value) = refl
    origin_same (operand.Global g) = refl
    origin_same (operand.CastGlobal from g to) = refl

    op_draft : (name : Option ℕ) (x : Op) (d : Draft) → recorded_op name (opaque_op (numbers m) x) (draft_made d) ≡ draft_made (recorded_op name x d)
    op_draft name (op.Number x) d = refl
    op_draft name (op.Memory (memory.Alloca held)) d = rw (map-length (new_number (numbers m)) d.held, map-append (new_number (numbers m)) d.held (held ∷ [])) refl
    op_draft name (op.Memory (memory.Buffer held count)) d = refl
    op_draft name (op.Memory (memory.Load loaded place_type place)) d = refl
    op_draft name (op.Memory (memory.Store stored x place_type place)) d = refl
    op_draft name (op.Element x) d = refl
    op_draft name (op.Cast x) d = rw (origin_same x.operand) refl
    op_draft name (op.Choice x) d = refl
    op_draft name (op.Call x) d = refl

    body_draft : (body : List Instr) (d : Draft) → recorded (map (opaque_instr (numbers m)) body) (draft_made d) ≡ draft_made (recorded body d)
    body_draft [] d = refl
    body_draft (instr ∷ body) d = ap (recorded (map (opaque_instr (numbers m)) body)) (op_draft instr.result instr.op d) ∙ body_draft body (recorded_op instr.result instr.op d)

    blocks_draft : (blocks : List Block) (d : Draft) → recorded_blocks (map (opaque_block (numbers m)) blocks) (draft_made d) ≡ draft_made (recorded_blocks blocks d)
    blocks_draft [] d = refl
    blocks_draft (block ∷ blocks) d = ap (recorded_blocks (map (opaque_block (numbers m)) blocks)) (body_draft block.body d) ∙ blocks_draft blocks (recorded block.body d)

    draft_same : draft_of made ≡ draft_made (draft_of f)
    draft_same = blocks_draft f.blocks _

    -- ---- root slots

    slot_same : (names : List (Option ℕ)) (x : Operand) → operand_slot names (opaque_operand x) ≡ operand_slot names x
    slot_same names (operand.Constant c) = refl
    slot_same names (operand.Local value) = refl
    slot_same names (operand.Global g) = refl
    slot_same names (operand.CastGlobal from g to) = refl

    first_same : (names : List (Option ℕ)) (arguments : List Argument) → first_slot names (map (opaque_argument (numbers m)) arguments) ≡ first_slot names arguments
    first_same names [] = refl
    first_same names (x ∷ arguments) = slot_same names x.operand

    rooted_same : (names : List (Option ℕ)) (arguments : List Argument) (called : Option Runtime) → slot_rooted names (map (opaque_argument (numbers m)) arguments) called ≡ slot_rooted names arguments called
    rooted_same names arguments None = refl
    rooted_same names arguments (Some runtime.GcRoot) = first_same names arguments
    rooted_same names arguments (Some runtime.Alloc) = refl
    rooted_same names arguments (Some runtime.Safepoint) = refl
    rooted_same names arguments (Some runtime.GcRead) = refl
    rooted_same names arguments (Some runtime.GcWrite) = refl
    rooted_same names arguments (Some (runtime.Integer function bits)) = refl
    rooted_same names arguments (Some (runtime.Float function bits)) = refl

    op_rooted : (names : List (Option ℕ)) (x : Op) → slot_rooted_by (o m) names (opaque_op (numbers m) x) ≡ slot_rooted_by m names x
    op_rooted names (op.Number x) = refl
    op_rooted names (op.Memory x) = refl
    op_rooted names (op.Element x) = refl
    op_rooted names (op.Cast x) = refl
    op_rooted names (op.Choice x) = refl
    op_rooted names (op.Call x) = ap (slot_rooted names (map (opaque_argument (numbers m)) x.arguments)) (same_called x.callee) ∙ rooted_same names x.arguments (runtime_called m x.callee)

    root_within : (held : List ℕ) (slot : Option ℕ) (roots more : List ℕ) → Within roots more → Within (with_root m held slot roots) (with_root (o m) (map (new_number (numbers m)) held) slot more)
    root_within held None roots more w = w
    root_within held (Some slot) roots more w = by (is_reference_held m (slice_get held slot)) refl where
      holds : is_reference_held m (slice_get held slot) ≡ true → is_reference_held (o m) (slice_get (map (new_number (numbers m)) held) slot) ≡ true
      holds e = subst (λ x. is_reference_held (o m) x ≡ true) (sym (slice_get-map (new_number (numbers m)) held slot)) (held_reference (slice_get held slot) e)

      grows : (b : Bool) → Within roots (if b then added slot more else more)
      grows true other t = added_holds slot more other (w other t)
      grows false other t = w other t

      by : (b : Bool) → is_reference_held m (slice_get held slot) ≡ b → Within (if b then added slot roots else roots) (if is_reference_held (o m) (slice_get (map (new_number (numbers m)) held) slot) then added slot more else more)
      by true e = subst (λ (b : Bool). Within (added slot roots) (if b then added slot more else more)) (sym (holds e)) (added_within slot roots more w)
      by false e = grows (is_reference_held (o m) (slice_get (map (new_number (numbers m)) held) slot))

    body_within : (names : List (Option ℕ)) (held : List ℕ) (body : List Instr) (roots more : List ℕ) → Within roots more
        → Within (with_roots m names held body roots) (with_roots (o m) names (map (new_number (numbers m)) held) (map (opaque_instr (numbers m)) body) more)
    body_within names held [] roots more w = w
    body_within names held (instr ∷ body) roots more w =
        let slot = slot_rooted_by m names instr.op in
        let same = op_rooted names instr.op in
        body_within names held body (with_root m held slot roots) (with_root (o m) (map (new_number (numbers m)) held) (slot_rooted_by (o m) names (opaque_op (numbers m) instr.op)) more)
        (subst (λ (x : Option ℕ). Within (with_root m held slot roots) (with_root (o m) (map (new_number (numbers m)) held) x more)) (sym same) (root_within held slot roots more w))

    blocks_within : (names : List (Option ℕ)) (held : List ℕ) (blocks : List Block) (roots more : List ℕ) → Within roots more
        → Within (with_roots_of m names held blocks roots) (with_roots_of (o m) names (map (new_number (numbers m)) held) (map (opaque_block (numbers m)) blocks) more)
    blocks_within names held [] roots more w = w
    blocks_within names held (block ∷ blocks) roots more w =
        blocks_within names held blocks (with_roots m names held block.body roots) (with_roots (o m) names (map (new_number (numbers m)) held) (map (opaque_instr (numbers m)) block.body) more) (body_within names held block.body roots more w)

    names_same : (slots_of (o m) made).names ≡ (slots_of m f).names
    names_same = ap (λ (d : Draft). names_of d.origins) draft_same

    roots_within : Within (slots_of m f).roots (slots_of (o m) made).roots
    roots_within =
        subst (λ (d : Draft). Within (slots_of m f).roots (with_roots_of (o m) (names_of d.origins) d.held (map (opaque_block (numbers m)) f.blocks) [])) (sym draft_same)
        (blocks_within (names_of (draft_of f).origins) (draft_of f).held f.blocks [] [] (λ slot t. t))

    -- ---- names of root slots

    among_within : (slot : Option ℕ) → Implies (is_among_roots (slots_of m f) slot) (is_among_roots (slots_of (o m) made) slot)
    among_within None t = t
    among_within (Some slot) t = roots_within slot t

    is_root_stays : (value : ℕ) → Implies (is_root (slots_of m f) value) (is_root (slots_of (o m) made) value)
    is_root_stays value t =
        let same : slot_of (slots_of (o m) made) value ≡ slot_of (slots_of m f) value = ap (λ (names : List (Option ℕ)). unwrap_or (slice_get names value) None) names_same in
        subst (λ (slot : Option ℕ). is_among_roots (slots_of (o m) made) slot ≡ true) (sym same) (among_within (slot_of (slots_of m f) value) t)

    op_below : (x : Op) (name : Option ℕ) (xs ys : List Bool) → Below xs ys → Below (root_recorded (slots_of m f) x name xs) (root_recorded (slots_of (o m) made) (opaque_op (numbers m) x) name ys)
    op_below (op.Memory (memory.Alloca held)) (Some value) xs ys h = below_set xs ys value (is_root (slots_of m f) value) (is_root (slots_of (o m) made) value) h (is_root_stays value)
    op_below (op.Memory (memory.Alloca held)) None xs ys h = h
    op_below (op.Memory (memory.Buffer held count)) name xs ys h = h
    op_below (op.Memory (memory.Load loaded place_type place)) name xs ys h = h
    op_below (op.Memory (memory.Store stored x place_type place)) name xs ys h = h
    op_below (op.Number x) name xs ys h = h
    op_below (op.Element x) name xs ys h = h
    op_below (op.Cast x) name xs ys h = h
    op_below (op.Choice x) name xs ys h = h
    op_below (op.Call x) name xs ys h = h

    body_below : (body : List Instr) (xs ys : List Bool) → Below xs ys → Below (roots_recorded (slots_of m f) body xs) (roots_recorded (slots_of (o m) made) (map (opaque_instr (numbers m)) body) ys)
    body_below [] xs ys h = h
    body_below (instr ∷ body) xs ys h =
        body_below body (root_recorded (slots_of m f) instr.op instr.result xs) (root_recorded (slots_of (o m) made) (opaque_op (numbers m) instr.op) instr.result ys) (op_below instr.op instr.result xs ys h)

    blocks_below : (blocks : List Block) (xs ys : List Bool) → Below xs ys → Below (roots_of_blocks (slots_of m f) blocks xs) (roots_of_blocks (slots_of (o m) made) (map (opaque_block (numbers m)) blocks) ys)
    blocks_below [] xs ys h = h
    blocks_below (block ∷ blocks) xs ys h =
        blocks_below blocks (roots_recorded (slots_of m f) block.body xs) (roots_recorded (slots_of (o m) made) (map (opaque_instr (numbers m)) block.body) ys) (body_below block.body xs ys h)

    names_below : Below (root_names m f) (root_names (o m) made)
    names_below = blocks_below f.blocks (replicate (length f.locals) false) (replicate (length f.locals) false) (below_itself (replicate (length f.locals) false))

    sort_same : (found : Option LocalSort) → is_value_sort (option_map (opaque_sort (numbers m)) found) ≡ is_value_sort found
    sort_same None = refl
    sort_same (Some sort.Unknown) = refl
    sort_same (Some (sort.Value written)) = refl
    sort_same (Some (sort.Slot held)) = refl
    sort_same (Some (sort.Element block place)) = refl
    sort_same (Some (sort.Block block)) = refl

    value_same : (value : ℕ) → is_value made value ≡ is_value f value
    value_same value = ap is_value_sort (slice_get-map (opaque_sort (numbers m)) f.sorts value) ∙ sort_same (slice_get f.sorts value)

    -- the name of a root slot's alloca is one
    pub root_stays : (value : ℕ) → Implies (is_root_name m f value) (is_root_name (o m) made value)
    root_stays value =
        both_imply (is_value f value) (unwrap_or (slice_get (root_names m f) value) false) (is_value made value) (unwrap_or (slice_get (root_names (o m) made) value) false)
        (λ t. value_same value ∙ t) (below_get (root_names m f) (root_names (o m) made) value names_below)
