-- A program in which one function is replaced, or its certificate.
use Rattle.std.specs.Prelude.{◌≡◌, ◌≢◌, ◌<◌, ◌==◌, ◌&&◌, ◌++◌, ℕ, zero, suc, Bool, not, if◌then◌else◌, false, List, [], ◌∷◌, length, slice_get, slice_set, Option, Some, None}
use Rattle.std.specs.List.{list_any}
use Rattle.ir_ast.specs.declared.block.Block.{Block}
use Rattle.ir_ast.specs.declared.function.Function.{Function}
use Rattle.ir_ast.specs.declared.instr.Instr.{Instr}
use Rattle.ir_ast.specs.declared.module.Module.{Module}
use Rattle.certs.specs.declared.section.Section.{Section}
use Rattle.layout.specs.Layouts.{LaidOut}
use Rattle.block_rules.specs.declared.block_fault.Refusal.{Refusal}
use Rattle.answers.specs.Local.{laid_with, called_by, LooksSame}
use Rattle.answers.specs.Answers.{IsAnswer}
use Rattle.answers.specs.declared.callers.Callers.{Callers}
use Rattle.answers.specs.declared.callers.Callers.TheVariants.{SeeChange, SeeNone}

-- ---- callers

-- this is the number, if there is one
abbrev pub is_number : ℕ → Option ℕ → Bool
is_number n None = false
is_number n (Some other) = other == n

-- an instruction calls this function
abbrev pub instruction_calls : Module → (called : ℕ) → Instr → Bool
instruction_calls m called instr = is_number called (called_by m instr.op)

-- a block does
abbrev pub block_calls : Module → (called : ℕ) → Block → Bool
block_calls m called block = list_any (instruction_calls m called) block.body

-- a function calls this one
abbrev pub calls : Module → (called : ℕ) → Function → Bool
calls m called f = list_any (block_calls m called) f.blocks

-- a function, if there is one, calls this one
abbrev pub calls_it : Module → (called : ℕ) → Option Function → Bool
calls_it m called None = false
calls_it m called (Some f) = calls m called f

-- the function with another number calls this one
abbrev pub is_caller : Module → (called other : ℕ) → Bool
is_caller m called other = not (other == called) && calls_it m called (slice_get m.functions other)

-- those of the first `count` functions that call this one, but for itself, by their numbers
abbrev pub callers_below : Module → (called : ℕ) → (count : ℕ) → List ℕ
callers_below m called zero = []
callers_below m called (suc count) =
    if is_caller m called count then callers_below m called count ++ count ∷ [] else callers_below m called count

-- ---- what is checked again

-- the functions whose answers may change where this one is replaced: itself, and its callers where they see a change
abbrev pub touched : Module → (replaced : ℕ) → Callers → List ℕ
touched m replaced SeeChange = replaced ∷ callers_below m replaced (length m.functions)
touched m replaced SeeNone = replaced ∷ []

-- each of these numbers is below `count`
abbrev pub AreWithin : (count : ℕ) → (funcs : List ℕ) → Type 0
AreWithin count funcs = (place func : ℕ) → slice_get funcs place ≡ Some func → func < count

-- the answers to the first of these functions, in their order
abbrev pub AreAnswersToFirst : LaidOut → (certs : List Section) → (funcs : List ℕ) → List (Option Refusal) → Type 0
AreAnswersToFirst program certs funcs answers =
    (place func : ℕ) (answer : Option Refusal) → slice_get funcs place ≡ Some func → slice_get answers place ≡ Some answer → IsAnswer program certs func answer

-- the answers to these functions, in their order
abbrev pub AreAnswersTo : LaidOut → (certs : List Section) → (funcs : List ℕ) → List (Option Refusal) → Type 0
AreAnswersTo program certs funcs answers = (length answers ≡ length funcs) × AreAnswersToFirst program certs funcs answers

-- with this answer to this function, if there are both
abbrev pub put_answer : (func : Option ℕ) → (answer : Option (Option Refusal)) → List (Option Refusal) → List (Option Refusal)
put_answer (Some func) (Some answer) answers = slice_set answers func answer
put_answer _ _ answers = answers

-- with the answers to the first `count` of these functions in their places
abbrev pub put_first : (funcs : List ℕ) → (anew answers : List (Option Refusal)) → (count : ℕ) → List (Option Refusal)
put_first funcs anew answers zero = answers
put_first funcs anew answers (suc count) = put_answer (slice_get funcs count) (slice_get anew count) (put_first funcs anew answers count)

-- ---- the edit

-- the function looks to its callers as before, if they see no change
abbrev pub IfUnseen : Callers → Type 0 → Type 0
IfUnseen SeeChange P = Unit {0}
IfUnseen SeeNone P = P

-- all other functions and their certificates are the same, and so are the tables and layouts; this is what callers see of the one function
pub record IsEdited (p : LaidOut) (certs : List Section) (q : LaidOut) (others : List Section) (func : ℕ) (callers : Callers) : Type 0 where
  pub tables : q ≡ laid_with p q.of_module.functions
  pub code : (other : ℕ) → other ≢ func → slice_get q.of_module.functions other ≡ slice_get p.of_module.functions other
  pub sections : (other : ℕ) → other ≢ func → slice_get others other ≡ slice_get certs other
  pub unseen : IfUnseen callers (LooksSame p certs q.of_module.functions others func)
