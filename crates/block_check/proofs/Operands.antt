-- Tables of the operands that come in to phis: what each step adds to them.
use Rattle.std.proofs.Common.{◌≡◌, ◌⊎◌, inl, inr, ◌<◌, ◌+◌, ◌&&◌, cond, ℕ, zero, suc, List, [], ◌∷◌, ◌++◌, length, take, get_or, refl, sym, ap, ◌∙◌, subst, arith, true, false, Bool, Option, Some, None}
use Rattle.std.proofs.lemmas.Bool.{eqb-true, eq-eqb, ne_eqb, cases_Bool, and_parts}
use Rattle.std.proofs.lemmas.List.{take_more, length-take-le}
use Rattle.std.specs.Prelude.{◌==◌, if◌then◌else◌}
use Rattle.std.specs.Option.{option_or}
use Rattle.lemmas.specs.Bools.{same_truth}
use Rattle.ir_ast.specs.declared.block.Block.{Block}
use Rattle.ir_ast.specs.declared.choices.Incoming.{Incoming}
use Rattle.ir_ast.specs.declared.choices.Phi.{Phi}
use Rattle.ir_ast.specs.declared.function.Function.{Function}
use Rattle.ir_ast.specs.declared.operand.Operand.{Operand}
use Rattle.types.specs.ValueTypes.{target_of}
use Rattle.block_rules.specs.Edges.{is_number, operand_from}
use Rattle.block_check.specs.PhiOperands.{OperandTable, operand_at, AddsAt, AreOperands, AreOperandTables, entries_at}

or_none : (a : Option Operand) → option_or a None ≡ a
or_none None = refl
or_none (Some x) = refl

or_assoc : (a b c : Option Operand) → option_or (option_or a b) c ≡ option_or a (option_or b c)
or_assoc None b c = refl
or_assoc (Some x) b c = refl

both_at : (b : Bool) (x y : Option Operand) → option_or (if b then x else None) (if b then y else None) ≡ (if b then option_or x y else None)
both_at true x y = refl
both_at false x y = refl

either : (b : Bool) (x : Option Operand) → (if b then x else x) ≡ x
either true x = refl
either false x = refl

-- one addition after another
adds_both : (a b c : OperandTable) (place : ℕ) (g h : ℕ → Option Operand) → AddsAt a b place g → AddsAt b c place h → AddsAt a c place (λ from. option_or (g from) (h from))
adds_both a b c place g h k l = λ p from.
    l p from
    ∙ ap (λ x. option_or x (if p == place then h from else None)) (k p from)
    ∙ or_assoc (operand_at a p from) (if p == place then g from else None) (if p == place then h from else None)
    ∙ ap (λ x. option_or (operand_at a p from) x) (both_at (p == place) (g from) (h from))

-- ---- one operand

one_place : (place from p other : ℕ) (x : Option Operand) → (if p == place then (if from == other then x else None) else None) ≡ cond ((place == p) && (from == other)) x None
one_place place from p other x =
    ap (λ b. if b then (if from == other then x else None) else None) (same_truth (p == place) (place == p) (λ t. eq-eqb place p (sym (eqb-true p place t))) (λ t. eq-eqb p place (sym (eqb-true place p t))))
    ∙ pick (place == p) (from == other)
  where
    pick : (b c : Bool) → (if b then (if c then x else None) else None) ≡ cond (b && c) x None
    pick true true = refl
    pick true false = refl
    pick false c = refl

-- an operand that is recorded stays
pub adds_no_other : (a : OperandTable) (place from : ℕ) (first operand : Operand) → Some first ≡ operand_at a place from → AddsAt a a place (λ other. if from == other then Some operand else None)
adds_no_other a place from first operand there = λ p other.
    pick p other (cases_Bool ((place == p) && (from == other)))
    ∙ ap (λ x. option_or (operand_at a p other) x) (sym (one_place place from p other (Some operand)))
  where
    pick : (p other : ℕ) → (((place == p) && (from == other)) ≡ true) ⊎ (((place == p) && (from == other)) ≡ false) → operand_at a p other ≡ option_or (operand_at a p other) (cond ((place == p) && (from == other)) (Some operand) None)
    pick p other (inl t) =
        let parts : ((place == p) ≡ true) × ((from == other) ≡ true) = and_parts (place == p) (from == other) t in
        let here : Some first ≡ operand_at a p other = there ∙ ap (λ n. operand_at a n from) (eqb-true place p parts.0) ∙ ap (λ n. operand_at a p n) (eqb-true from other parts.1) in
        subst (λ o. o ≡ option_or o (cond ((place == p) && (from == other)) (Some operand) None)) here refl
    pick p other (inr e) = sym (or_none (operand_at a p other)) ∙ ap (λ b. option_or (operand_at a p other) (cond b (Some operand) None)) (sym e)

-- an operand is recorded where none was
pub adds_one : (a b : OperandTable) (place from : ℕ) (operand : Operand) → None ≡ operand_at a place from → ((key : ℕ × ℕ) → operand_at b key.0 key.1 ≡ cond ((place == key.0) && (from == key.1)) (Some operand) (operand_at a key.0 key.1)) → AddsAt a b place (λ other. if from == other then Some operand else None)
adds_one a b place from operand none updates = λ p other.
    updates (p, other)
    ∙ pick p other (cases_Bool ((place == p) && (from == other)))
    ∙ ap (λ x. option_or (operand_at a p other) x) (sym (one_place place from p other (Some operand)))
  where
    pick : (p other : ℕ) → (((place == p) && (from == other)) ≡ true) ⊎ (((place == p) && (from == other)) ≡ false) → cond ((place == p) && (from == other)) (Some operand) (operand_at a p other) ≡ option_or (operand_at a p other) (cond ((place == p) && (from == other)) (Some operand) None)
    pick p other (inl t) =
        let parts : ((place == p) ≡ true) × ((from == other) ≡ true) = and_parts (place == p) (from == other) t in
        let here : None ≡ operand_at a p other = none ∙ ap (λ n. operand_at a n from) (eqb-true place p parts.0) ∙ ap (λ n. operand_at a p n) (eqb-true from other parts.1) in
        subst (λ o. cond ((place == p) && (from == other)) (Some operand) o ≡ option_or o (cond ((place == p) && (from == other)) (Some operand) None)) here refl
    pick p other (inr e) =
        ap (λ b. cond b (Some operand) (operand_at a p other)) e
        ∙ sym (or_none (operand_at a p other))
        ∙ ap (λ b. option_or (operand_at a p other) (cond b (Some operand) None)) (sym e)

-- ---- entries

-- what comes in by the entries of two lists
comes_in_both : (f : Function) (from : ℕ) (xs ys : List Incoming) → operand_from f from (xs ++ ys) ≡ option_or (operand_from f from xs) (operand_from f from ys)
comes_in_both f from [] ys = refl
comes_in_both f from (x ∷ xs) ys = pick (is_number from (target_of f x.from)) (comes_in_both f from xs ys)
  where
    pick : (b : Bool) → operand_from f from (xs ++ ys) ≡ option_or (operand_from f from xs) (operand_from f from ys) → (if b then Some x.operand else operand_from f from (xs ++ ys)) ≡ option_or (if b then Some x.operand else operand_from f from xs) (operand_from f from ys)
    pick true rest = refl
    pick false rest = rest

-- where nothing comes in nothing is added
pub adds_none : (a : OperandTable) (place : ℕ) (added : ℕ → Option Operand) → ((from : ℕ) → added from ≡ None) → AddsAt a a place added
adds_none a place added none = λ p from.
    sym (or_none (operand_at a p from))
    ∙ ap (λ x. option_or (operand_at a p from) x) (sym (either (p == place) None) ∙ ap (λ x. if p == place then x else None) (sym (none from)))

-- one entry more
pub adds_more : (f : Function) (place : ℕ) (entries : List Incoming) (i : ℕ) (entry : Incoming) (a b c : OperandTable) → i < length entries → entry ≡ get_or entries i entry → AddsAt a b place (λ from. operand_from f from (take i entries)) → AddsAt b c place (λ from. operand_from f from (entry ∷ [])) → AddsAt a c place (λ from. operand_from f from (take (i + 1) entries))
adds_more f place entries i entry a b c lt is h k =
    let more : take i entries ++ entry ∷ [] ≡ take (i + 1) entries = ap (λ z. take i entries ++ z ∷ []) is ∙ sym (take_more entries i entry lt) in
    subst (λ es. AddsAt a c place (λ from. operand_from f from es)) more
    (λ p from. adds_both a b c place _ _ h k p from ∙ ap (λ x. option_or (operand_at a p from) (if p == place then x else None)) (sym (comes_in_both f from (take i entries) (entry ∷ []))))

-- ---- phis

-- what comes in to one phi more
last_is : (f : Function) (phis : List Phi) (phi : Phi) (p from : ℕ) → option_or (operand_from f from (entries_at phis p)) (if p == length phis then operand_from f from phi.incoming else None) ≡ operand_from f from (entries_at (phis ++ phi ∷ []) p)
last_is f [] phi zero from = refl
last_is f [] phi (suc p) from = ap (λ b. option_or None (if b then operand_from f from phi.incoming else None)) (ne_eqb (suc p) 0 (λ e. omega (arith, e)))
last_is f (x ∷ xs) phi zero from =
    ap (λ b. option_or (operand_from f from x.incoming) (if b then operand_from f from phi.incoming else None)) (ne_eqb 0 (suc (length xs)) (λ e. omega (arith, e)))
    ∙ or_none (operand_from f from x.incoming)
last_is f (x ∷ xs) phi (suc p) from =
    ap (λ b. option_or (operand_from f from (entries_at xs p)) (if b then operand_from f from phi.incoming else None)) (same_truth (suc p == suc (length xs)) (p == length xs) (λ t. eq-eqb p (length xs) (omega (arith, eqb-true (suc p) (suc (length xs)) t))) (λ t. eq-eqb (suc p) (suc (length xs)) (omega (arith, eqb-true p (length xs) t))))
    ∙ last_is f xs phi p from

-- at first nothing is recorded
pub operands_none : (f : Function) (a : OperandTable) → a ≡ [] → AreOperands f [] a
operands_none f a e = λ p from. ap (λ t. operand_at t p from) e

pub operands_more : (f : Function) (phis : List Phi) (i : ℕ) (phi : Phi) (a b : OperandTable) → i < length phis → phi ≡ get_or phis i phi → AreOperands f (take i phis) a → AddsAt a b i (λ from. operand_from f from phi.incoming) → AreOperands f (take (i + 1) phis) b
operands_more f phis i phi a b lt is h k =
    let len : length (take i phis) ≡ i = length-take-le i phis (omega (arith, lt)) in
    let more : take i phis ++ phi ∷ [] ≡ take (i + 1) phis = ap (λ z. take i phis ++ z ∷ []) is ∙ sym (take_more phis i phi lt) in
    subst (λ ps. AreOperands f ps b) more
    (λ p from.
    k p from
    ∙ ap (λ x. option_or x (if p == i then operand_from f from phi.incoming else None)) (h p from)
    ∙ ap (λ n. option_or (operand_from f from (entries_at (take i phis) p)) (if p == n then operand_from f from phi.incoming else None)) (sym len)
    ∙ last_is f (take i phis) phi p from)

-- ---- blocks

-- a table more
last_table : (f : Function) (blocks : List Block) (tables : List OperandTable) (block : Block) (operands : OperandTable) → AreOperandTables f blocks tables → AreOperands f block.phis operands → AreOperandTables f (blocks ++ block ∷ []) (tables ++ operands ∷ [])
last_table f [] [] block operands h k = (k, tt)
last_table f [] (t ∷ ts) block operands h k = absurd h
last_table f (b ∷ bs) [] block operands h k = absurd h
last_table f (b ∷ bs) (t ∷ ts) block operands h k = (h.0, last_table f bs ts block operands h.1 k)

-- what comes in to the phis of one block more
pub tables_more : (f : Function) (blocks : List Block) (i : ℕ) (block : Block) (a b : List OperandTable) (operands : OperandTable) → i < length blocks → block ≡ get_or blocks i block → AreOperandTables f (take i blocks) a → AreOperands f block.phis operands → b ≡ a ++ operands ∷ [] → AreOperandTables f (take (i + 1) blocks) b
tables_more f blocks i block a b operands lt is h k e =
    let more : take i blocks ++ block ∷ [] ≡ take (i + 1) blocks = ap (λ z. take i blocks ++ z ∷ []) is ∙ sym (take_more blocks i block lt) in
    subst (λ bs. AreOperandTables f bs b) more (subst (λ ts. AreOperandTables f (take i blocks ++ block ∷ []) ts) (sym e) (last_table f (take i blocks) a block operands h k))
