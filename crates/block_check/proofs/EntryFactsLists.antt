-- What the blocks of a function begin with, in a list.
use Rattle.std.proofs.Common.{◌≡◌, ◌∙◌, ◌+◌, ◌++◌, ℕ, zero, suc, List, [], ◌∷◌, map, length, sym, ap, subst, slice_get, Option, Some, None, arith}
use Rattle.std.specs.List.{range_with_len}
use Rattle.ir_ast.specs.declared.function.Function.{Function}
use Rattle.certs.specs.declared.section.Section.{Section}
use Rattle.layout.specs.Layouts.{LaidOut}
use Rattle.shadow_stack.specs.Slots.{SlotTable, slots_of}
use Rattle.facts.specs.Facts.{FactSet}
use Rattle.block_rules.specs.Certified.{context_of}
use Rattle.block_rules.specs.Edges.{RuleContext, entry_facts_at}
use Rattle.block_check.specs.Rows.{first_entry_facts, AreEntryFacts, AreEntryFactsOf, AreEntryFactsIn, AreRowsOf, AreRowsIn}
use Rattle.block_check.specs.FunctionUnderCheck.{seen, IsReady}
use Rattle.block_check.specs.declared.under_check.FunctionUnderCheck.{FunctionUnderCheck}

got_from : {X : Type 0} (f : ℕ → X) (a n i : ℕ) (x : X) → slice_get (map f (range_with_len a n)) i ≡ Some x → x ≡ f (a + i)
got_from f a zero i x e = absurd cc
got_from f a (suc n) zero x e = let is : x ≡ f a = cc in is ∙ ap f (omega arith)
got_from f a (suc n) (suc i) x e = got_from f (a + 1) n i x e ∙ ap f (omega arith)

one_more : {X : Type 0} (f : ℕ → X) (a n : ℕ) → map f (range_with_len a (suc n)) ≡ map f (range_with_len a n) ++ f (a + n) ∷ []
one_more f a zero = ap (λ i. f i ∷ []) (omega arith)
one_more f a (suc n) = ap (λ xs. f a ∷ xs) (one_more f (a + 1) n ∙ ap (λ i. map f (range_with_len (a + 1) n) ++ f i ∷ []) (omega arith))

-- what one block more begins with
pub more_entry_facts : (s : RuleContext) (count : ℕ) → first_entry_facts s (count + 1) ≡ first_entry_facts s count ++ entry_facts_at s count ∷ []
more_entry_facts s count =
    let more : count + 1 ≡ suc count = omega arith in
    let here : 0 + count ≡ count = omega arith in
    ap (first_entry_facts s) more ∙ one_more (entry_facts_at s) 0 count ∙ ap (λ (i : ℕ). first_entry_facts s count ++ entry_facts_at s i ∷ []) here

-- what is found of the first blocks is what they begin with
pub entry_facts_here : (s : RuleContext) (count : ℕ) → AreEntryFacts s (first_entry_facts s count)
entry_facts_here s count block facts e = got_from (entry_facts_at s) 0 count block facts e ∙ ap (entry_facts_at s) (omega arith)

-- what is found of all blocks of a function is what its first blocks begin with
pub entry_facts_of_rows : (program : LaidOut) (certs : List Section) (func : ℕ) (rows : List FactSet) → AreRowsOf program certs func rows → AreEntryFactsOf program certs func rows
entry_facts_of_rows program certs func rows h = pick (slice_get program.of_module.functions func) h where
  pick : (f : Option Function) → AreRowsIn program certs (slice_get certs func) f rows → AreEntryFactsIn program certs (slice_get certs func) f rows
  pick None h = tt
  pick (Some f) h = subst (λ (l : List FactSet). AreEntryFacts (context_of program certs f (slice_get certs func)) l) (sym h) (entry_facts_here (context_of program certs f (slice_get certs func)) _)

-- where nothing was found before nothing is wrong
pub no_entry_facts : (s : RuleContext) → AreEntryFacts s []
no_entry_facts s block facts e = absurd cc

-- of a function that exists
pub entry_facts_there : (program : LaidOut) (certs : List Section) (func : ℕ) (f : Function) (rows : List FactSet) → slice_get program.of_module.functions func ≡ Some f → AreEntryFactsOf program certs func rows → AreEntryFacts (context_of program certs f (slice_get certs func)) rows
entry_facts_there program certs func f rows e h = subst (λ (found : Option Function). AreEntryFactsIn program certs (slice_get certs func) found rows) e h

pub nothing_there : (program : LaidOut) (certs : List Section) (func : ℕ) → AreEntryFactsOf program certs func []
nothing_there program certs func = pick (slice_get program.of_module.functions func) where
  pick : (found : Option Function) → AreEntryFactsIn program certs (slice_get certs func) found []
  pick None = tt
  pick (Some f) = no_entry_facts (context_of program certs f (slice_get certs func))

-- as the definitions see the function, with its slots
pub entry_facts_seen : (program : LaidOut) (certs : List Section) (func : ℕ) (f : Function) (slots : SlotTable) (rows : List FactSet) → slots ≡ slots_of program.of_module f → AreEntryFacts (context_of program certs f (slice_get certs func)) rows
    → AreEntryFacts (record { program = program; certs = certs; function = f; slots = slots; section = slice_get certs func }) rows
entry_facts_seen program certs func f slots rows e h = subst (λ (s : SlotTable). AreEntryFacts (record { program = program; certs = certs; function = f; slots = s; section = slice_get certs func }) rows) (sym e) h

-- what is found of all its blocks is so of the function of the program
pub rows_there : (program : LaidOut) (certs : List Section) (func : ℕ) (f : Function) (slots : SlotTable) (rows : List FactSet) → slice_get program.of_module.functions func ≡ Some f → slots ≡ slots_of program.of_module f
    → rows ≡ first_entry_facts (record { program = program; certs = certs; function = f; slots = slots; section = slice_get certs func }) (length f.blocks) → AreRowsOf program certs func rows
rows_there program certs func f slots rows e same h =
    subst (λ (found : Option Function). AreRowsIn program certs (slice_get certs func) found rows) (sym e) (h ∙ ap (λ (s : SlotTable). first_entry_facts (record { program = program; certs = certs; function = f; slots = s; section = slice_get certs func }) (length f.blocks)) same)

abbrev count_of : Option Function → ℕ
count_of None = zero
count_of (Some f) = length f.blocks

-- and so is what is found of all blocks of a function under check
pub rows_seen : (program : LaidOut) (certs : List Section) (func : ℕ) (f : Function) (s : FunctionUnderCheck) (count : ℕ) (rows : List FactSet) → IsReady s → s.func ≡ func → s.context.program.now ≡ program → s.context.certs.now.sections ≡ certs
    → slice_get program.of_module.functions func ≡ Some f → count ≡ length f.blocks → rows ≡ first_entry_facts (seen s) count → AreRowsOf program certs func rows
rows_seen program certs func f s count rows ready same_func same_program same_certs there all h =
    let here : slice_get program.of_module.functions func ≡ Some s.context.function.now = subst (λ (p : LaidOut). slice_get p.of_module.functions func ≡ Some s.context.function.now) same_program (subst (λ (n : ℕ). slice_get s.context.program.now.of_module.functions n ≡ Some s.context.function.now) same_func ready.there) in
    let long : count ≡ length s.context.function.now.blocks = all ∙ ap count_of (sym there ∙ here) in
    let found : AreRowsOf s.context.program.now s.context.certs.now.sections s.func rows = rows_there s.context.program.now s.context.certs.now.sections s.func s.context.function.now s.context.slots.now rows ready.there ready.slots (h ∙ ap (first_entry_facts (seen s)) long) in
    subst (λ (p : LaidOut). AreRowsOf p certs func rows) same_program
    (subst (λ (c : List Section). AreRowsOf s.context.program.now c func rows) same_certs
    (subst (λ (n : ℕ). AreRowsOf s.context.program.now s.context.certs.now.sections n rows) same_func found))
