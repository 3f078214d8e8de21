-- What is marked in one pass is what is called.
use Rattle.std.proofs.Common.{◌≡◌, ◌<◌, ℕ, zero, suc, Bool, true, false, ◌&&◌, ◌||◌, List, [], ◌∷◌, length, map, Option, Some, None, slice_get, refl, sym, ap, ◌∙◌, arith}
use Rattle.std.specs.Prelude.{◌==◌, filter, replicate, slice_set, unwrap_or}
use Rattle.std.specs.List.{list_any}
use Rattle.std.proofs.lemmas.Bool.{eqb-true, eq-eqb}
use Rattle.std.proofs.lemmas.List.{length-set}
use Rattle.std.proofs.lemmas.Option.{slice_get_within}
use Rattle.lemmas.specs.Lists.{length_replicate, set_here, set_other}
use Rattle.ir_ast.specs.declared.block.Block.{Block}
use Rattle.ir_ast.specs.declared.function.Function.{Function}
use Rattle.ir_ast.specs.declared.instr.Instr.{Instr}
use Rattle.ir_ast.specs.declared.items_of_module.Declare.{Declare}
use Rattle.ir_ast.specs.declared.items_of_module.SymbolSort.{SymbolSort}
use Rattle.ir_ast.specs.declared.module.Module.{Module}
use Rattle.ir_ast.specs.declared.op.Op.{Op}
use Rattle.ir_ast.specs.declared.op.Op.TheVariants as op
use Rattle.types.specs.RuntimeCall.{is_outside, is_outside_sort}
use Rattle.module_check.specs.Trusts.{op_calls, block_calls, function_calls, calls, outside_called, mark_op, mark_body, mark_blocks, mark_functions, is_marked, marked, is_marked_outside, outside_marked}

-- ---- a mark

or_true : (a : Bool) → (a || true) ≡ true
or_true true = refl
or_true false = refl

or_nothing : (a : Bool) → (a || false) ≡ a
or_nothing true = refl
or_nothing false = refl

or_three : (a b c : Bool) → ((a || b) || c) ≡ (a || (b || c))
or_three true b c = refl
or_three false b c = refl

set_marks : (called : List Bool) (callee s : ℕ) → s < length called → is_marked (slice_set called callee true) s ≡ (is_marked called s || callee == s)
set_marks called callee s lt = by (callee == s) refl
  where
    by : (same : Bool) → callee == s ≡ same → is_marked (slice_set called callee true) s ≡ (is_marked called s || callee == s)
    by true e =
        ap (λ (x : ℕ). is_marked (slice_set called x true) s) (eqb-true callee s e) ∙ ap (λ (x : Option Bool). unwrap_or x false) (set_here called s true lt)
        ∙ sym (ap (λ b. is_marked called s || b) e ∙ or_true (is_marked called s))
    by false e =
        ap (λ (x : Option Bool). unwrap_or x false) (set_other called callee s true (λ same. (let no : true ≡ false = sym (eq-eqb callee s (sym same)) ∙ e in cc)))
        ∙ sym (ap (λ b. is_marked called s || b) e ∙ or_nothing (is_marked called s))

-- ---- what marks a name, and leaves as many marks

op_marks : (x : Op) (called : List Bool) (s : ℕ) → s < length called → (is_marked (mark_op x called) s ≡ (is_marked called s || op_calls s x)) × (length (mark_op x called) ≡ length called)
op_marks (op.Call x) called s lt = (set_marks called x.callee s lt, length-set called x.callee true)
op_marks (op.Number x) called s lt = (sym (or_nothing (is_marked called s)), refl)
op_marks (op.Memory x) called s lt = (sym (or_nothing (is_marked called s)), refl)
op_marks (op.Element x) called s lt = (sym (or_nothing (is_marked called s)), refl)
op_marks (op.Cast x) called s lt = (sym (or_nothing (is_marked called s)), refl)
op_marks (op.Choice x) called s lt = (sym (or_nothing (is_marked called s)), refl)

body_marks : (body : List Instr) (called : List Bool) (s : ℕ) → s < length called
    → (is_marked (mark_body body called) s ≡ (is_marked called s || list_any (λ (instr : Instr). op_calls s instr.op) body)) × (length (mark_body body called) ≡ length called)
body_marks [] called s lt = (sym (or_nothing (is_marked called s)), refl)
body_marks (instr ∷ body) called s lt =
    let one = op_marks instr.op called s lt in
    let rest = list_any (λ (instr : Instr). op_calls s instr.op) body in
    let more = body_marks body (mark_op instr.op called) s (omega (arith, lt, one.1)) in
    (more.0 ∙ ap (λ b. b || rest) one.0 ∙ or_three (is_marked called s) (op_calls s instr.op) rest, more.1 ∙ one.1)

blocks_mark : (blocks : List Block) (called : List Bool) (s : ℕ) → s < length called
    → (is_marked (mark_blocks blocks called) s ≡ (is_marked called s || list_any (block_calls s) blocks)) × (length (mark_blocks blocks called) ≡ length called)
blocks_mark [] called s lt = (sym (or_nothing (is_marked called s)), refl)
blocks_mark (block ∷ blocks) called s lt =
    let one = body_marks block.body called s lt in
    let rest = list_any (block_calls s) blocks in
    let more = blocks_mark blocks (mark_body block.body called) s (omega (arith, lt, one.1)) in
    (more.0 ∙ ap (λ b. b || rest) one.0 ∙ or_three (is_marked called s) (block_calls s block) rest, more.1 ∙ one.1)

functions_mark : (functions : List Function) (called : List Bool) (s : ℕ) → s < length called
    → (is_marked (mark_functions functions called) s ≡ (is_marked called s || list_any (function_calls s) functions)) × (length (mark_functions functions called) ≡ length called)
functions_mark [] called s lt = (sym (or_nothing (is_marked called s)), refl)
functions_mark (f ∷ functions) called s lt =
    let one = blocks_mark f.blocks called s lt in
    let rest = list_any (function_calls s) functions in
    let more = functions_mark functions (mark_blocks f.blocks called) s (omega (arith, lt, one.1)) in
    (more.0 ∙ ap (λ b. b || rest) one.0 ∙ or_three (is_marked called s) (function_calls s f) rest, more.1 ∙ one.1)

-- ---- of a module

none_marked : (n s : ℕ) → is_marked (replicate n false) s ≡ false
none_marked zero zero = refl
none_marked zero (suc s) = refl
none_marked (suc n) zero = refl
none_marked (suc n) (suc s) = none_marked n s

module _ (m : Module) (s : ℕ) where
  -- the name of a function outside has a mark
  outside_within : is_outside m s ≡ true → s < length m.sorts
  outside_within e = by (slice_get m.sorts s) refl e
    where
      by : (sort : Option SymbolSort) → slice_get m.sorts s ≡ sort → is_outside_sort m sort ≡ true → s < length m.sorts
      by None at e = absurd cc
      by (Some sort) at e = slice_get_within m.sorts s sort at

  -- which says whether it is called
  called_is : is_outside m s ≡ true → is_marked (marked m) s ≡ calls m s
  called_is e =
      let none = replicate (length m.sorts) false in
      let within = outside_within e in
      let marks = functions_mark m.functions none s (omega (arith, within, length_replicate (length m.sorts) false)) in
      marks.0 ∙ ap (λ b. b || calls m s) (none_marked (length m.sorts) s)

  same_test : is_marked_outside m (marked m) s ≡ (is_outside m s && calls m s)
  same_test = by (is_outside m s) refl
    where
      by : (outside : Bool) → is_outside m s ≡ outside → (is_outside m s && is_marked (marked m) s) ≡ (is_outside m s && calls m s)
      by false e = ap (λ b. b && is_marked (marked m) s) e ∙ sym (ap (λ b. b && calls m s) e)
      by true e = ap (λ b. b && is_marked (marked m) s) e ∙ called_is e ∙ sym (ap (λ b. b && calls m s) e)

-- the functions outside that are marked are those that are called
pub outside_same : (m : Module) → outside_marked m (marked m) m.declares ≡ outside_called m
outside_same m = ap (λ (test : ℕ → Bool). filter test (map (λ (d : Declare). d.symbol) m.declares)) (λ along s. same_test m s along)
