-- K16 by what is found of a function once: its predecessors, and what comes in to its phis.
use Rattle.std.proofs.Common.{◌≡◌, ◌<◌, ◌≤◌, ◌+◌, ◌⊎◌, inl, inr, ℕ, zero, suc, List, [], ◌∷◌, length, refl, sym, ap, ◌∙◌, subst, arith, true, false, Bool, Option, Some, None}
use Rattle.std.proofs.lemmas.Bool.{eqb-true, eq-eqb, cases_lt, cases_Bool, and_from, and_parts, or_cases, or_left, or_right, not-true, not_from_false, both_ways}
use Rattle.std.specs.Prelude.{◌==◌, ◌&&◌, ◌||◌, not, slice_get, slice_index_or}
use Rattle.std.specs.List.{list_all, range_with_len}
use Rattle.lemmas.specs.Bools.{same_truth}
use Rattle.ir_ast.specs.declared.block.Block.{Block}
use Rattle.ir_ast.specs.declared.function.Function.{Function}
use Rattle.ir_ast.specs.declared.choices.Incoming.{Incoming}
use Rattle.types.specs.ValueTypes.{target_of}
use Rattle.block_rules.specs.InstrContext.{block_phis, phis_of}
use Rattle.block_rules.specs.Edges.{operand_from, is_operand, is_predecessor, precedes, agrees_from, is_entry_of, is_there, has_each, are_entries}
use Rattle.block_check.specs.Entries.{recorded_from, is_target_listed, is_recorded, is_entry_recorded, has_each_recorded}
use Rattle.block_check.specs.PhiOperands.{OperandTable, AreOperands, AreOperandTables, entries_at}
use Rattle.block_check.specs.Predecessors.{is_in}
use Rattle.block_check.specs.FunctionUnderCheck.{IsReady}
use Rattle.block_check.specs.declared.under_check.FunctionUnderCheck.{FunctionUnderCheck}
use Rattle.block_check.proofs.Leads.{beyond}

-- the table of a block; of a block that does not exist it is empty
table_at : (f : Function) (blocks : List Block) (tables : List OperandTable) → AreOperandTables f blocks tables → (to : ℕ) → AreOperands f (block_phis (slice_get blocks to)) (slice_index_or tables to [])
table_at f [] [] h to = λ place from. refl
table_at f [] (t ∷ ts) h to = absurd h
table_at f (b ∷ bs) [] h to = absurd h
table_at f (b ∷ bs) (t ∷ ts) h zero = h.0
table_at f (b ∷ bs) (t ∷ ts) h (suc to) = table_at f bs ts h.1 to

-- what is recorded is what comes in
pub recorded_is : (s : FunctionUnderCheck) → IsReady s → (to place from : ℕ) → recorded_from s to place from ≡ operand_from s.context.function.now from (entries_at (phis_of s.context.function.now to) place)
recorded_is s ready to place from = table_at s.context.function.now s.context.function.now.blocks s.operands.now ready.operands to place from

-- each of these blocks has an entry
abbrev has_each_of : Function → (blocks : List ℕ) → List Incoming → Bool
has_each_of f blocks incoming = list_all (λ from. is_there (operand_from f from incoming)) blocks

all_same : {X : Type 0} (p q : X → Bool) (xs : List X) → ((x : X) → p x ≡ q x) → list_all p xs ≡ list_all q xs
all_same p q [] same = refl
all_same p q (x ∷ xs) same = ap (λ e. e && list_all p xs) (same x) ∙ ap (λ e. q x && e) (all_same p q xs same)

-- a test holds of each number of a list
in_all : (q : ℕ → Bool) (xs : List ℕ) → ((x : ℕ) → is_in xs x ≡ true → q x ≡ true) → list_all q xs ≡ true
in_all q [] each = refl
in_all q (x ∷ xs) each =
    and_from (q x) (list_all q xs) (each x (or_left (x == x) (is_in xs x) (eq-eqb x x refl))) (in_all q xs (λ y t. each y (or_right (y == x) (is_in xs y) t)))

all_in : (q : ℕ → Bool) (xs : List ℕ) (x : ℕ) → list_all q xs ≡ true → is_in xs x ≡ true → q x ≡ true
all_in q [] x all there = absurd cc
all_in q (y ∷ ys) x all there =
    let parts : (q y ≡ true) × (list_all q ys ≡ true) = and_parts (q y) (list_all q ys) all in
    elim (or_cases (x == y) (is_in ys x) there) [
      | inl e ↦ subst (λ z. q z ≡ true) (sym (eqb-true x y e)) parts.0
      | inr later ↦ all_in q ys x parts.1 later
    ]

-- a test holds of each number of a range
range_all : (q : ℕ → Bool) (a n : ℕ) → ((x : ℕ) → x < a + n → q x ≡ true) → list_all q (range_with_len a n) ≡ true
range_all q a zero each = refl
range_all q a (suc n) each = and_from (q a) (list_all q (range_with_len (a + 1) n)) (each a (omega arith)) (range_all q (a + 1) n (λ x lt. each x (omega (arith, lt))))

all_range : (q : ℕ → Bool) (a n x : ℕ) → list_all q (range_with_len a n) ≡ true → a ≤ x → x < a + n → q x ≡ true
all_range q a zero x all ge lt = absurd (omega (arith, ge, lt))
all_range q a (suc n) x all ge lt =
    let parts : (q a ≡ true) × (list_all q (range_with_len (a + 1) n) ≡ true) = and_parts (q a) (list_all q (range_with_len (a + 1) n)) all in
    elim (cases_lt a x) [
      | inl l ↦ all_range q (a + 1) n x parts.1 (omega (arith, l)) (omega (arith, lt))
      | inr g ↦ let e : a ≡ x = omega (arith, ge, g) in subst (λ z. q z ≡ true) e parts.0
    ]

-- each block of a list has an entry exactly where each predecessor has one
each_is : (f : Function) (blocks : List ℕ) (to : ℕ) (incoming : List Incoming) → ((from : ℕ) → is_in blocks from ≡ is_predecessor f to from) → has_each_of f blocks incoming ≡ has_each f to incoming
each_is f blocks to incoming same = same_truth (has_each_of f blocks incoming) (has_each f to incoming) there back
  where
    has : ℕ → Bool
    has from = is_there (operand_from f from incoming)

    there : list_all has blocks ≡ true → has_each f to incoming ≡ true
    there all = range_all (λ from. not (is_predecessor f to from) || has from) 0 (length f.blocks) (λ from lt. by from (cases_Bool (is_predecessor f to from)))
      where
        by : (from : ℕ) → (is_predecessor f to from ≡ true) ⊎ (is_predecessor f to from ≡ false) → (not (is_predecessor f to from) || has from) ≡ true
        by from (inl t) = or_right (not (is_predecessor f to from)) (has from) (all_in has blocks from all (same from ∙ t))
        by from (inr e) = or_left (not (is_predecessor f to from)) (has from) (not_from_false (is_predecessor f to from) e)

    back : has_each f to incoming ≡ true → list_all has blocks ≡ true
    back all = in_all has blocks (λ from t. by from (sym (same from) ∙ t) (cases_lt from (length f.blocks)))
      where
        by : (from : ℕ) → is_predecessor f to from ≡ true → (from < length f.blocks) ⊎ (length f.blocks ≤ from) → has from ≡ true
        by from t (inl lt) = found from t (or_cases (not (is_predecessor f to from)) (has from) (all_range (λ x. not (is_predecessor f to x) || has x) 0 (length f.blocks) from all (omega arith) (omega (arith, lt))))
          where
            found : (from : ℕ) → is_predecessor f to from ≡ true → (not (is_predecessor f to from) ≡ true) ⊎ (has from ≡ true) → has from ≡ true
            found from t (inl no_edge) = absurd (both_ways (is_predecessor f to from) (not-true (is_predecessor f to from) no_edge) t)
            found from t (inr e) = e
        by from t (inr ge) = absurd (both_ways (is_predecessor f to from) (beyond f to from ge) t)

-- K16 by what is recorded
pub entries_are : (s : FunctionUnderCheck) (to place : ℕ) (incoming : List Incoming) → IsReady s → to < length s.context.function.now.blocks → entries_at (phis_of s.context.function.now to) place ≡ incoming → (list_all (is_entry_recorded s to place) incoming && has_each_recorded s to place) ≡ are_entries s.context.function.now to incoming
entries_are s to place incoming ready lt at =
    ap (λ x. x && has_each_recorded s to place) (all_same (is_entry_recorded s to place) (is_entry_of f to incoming) incoming entry_is)
    ∙ ap (λ x. list_all (is_entry_of f to incoming) incoming && x) (all_same (λ from. is_there (recorded_from s to place from)) (λ from. is_there (operand_from f from incoming)) blocks (λ from. ap is_there (comes from)) ∙ each_is f blocks to incoming (λ from. ready.predecessors.are to from lt))
  where
    f : Function
    f = s.context.function.now

    blocks : List ℕ
    blocks = slice_index_or s.predecessors.now to []

    comes : (from : ℕ) → recorded_from s to place from ≡ operand_from f from incoming
    comes from = recorded_is s ready to place from ∙ ap (λ x. operand_from f from x) at

    listed : (from : Option ℕ) → is_target_listed s to from ≡ precedes f to from
    listed None = refl
    listed (Some from) = ready.predecessors.are to from lt

    agrees : (entry : Incoming) (from : Option ℕ) → is_recorded s to place entry.operand from ≡ agrees_from f incoming entry.operand from
    agrees entry None = refl
    agrees entry (Some from) = ap (λ x. is_operand entry.operand x) (comes from)

    entry_is : (entry : Incoming) → is_entry_recorded s to place entry ≡ is_entry_of f to incoming entry
    entry_is entry =
        ap (λ x. x && is_recorded s to place entry.operand (target_of f entry.from)) (listed (target_of f entry.from))
        ∙ ap (λ x. precedes f to (target_of f entry.from) && x) (agrees entry (target_of f entry.from))
