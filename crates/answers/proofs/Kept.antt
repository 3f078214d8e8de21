-- The answers that are kept are answers after the edit.
use Rattle.std.proofs.Common.{◌≡◌, ◌≢◌, ◌<◌, inl, inr, ◌==◌, ◌&&◌, ℕ, Bool, true, false, not, List, [], ◌∷◌, slice_get, Option, Some, None, refl, ap, sym, subst, ◌∙◌, eqb-true, eq-eqb, ◌+◌, ◌++◌, zero, suc, length, arith}
use Rattle.std.specs.Prelude.{if◌then◌else◌}
use Rattle.std.proofs.lemmas.Option.{slice_get_within}
use Rattle.ir_ast.specs.declared.block.Block.{Block}
use Rattle.ir_ast.specs.declared.function.Function.{Function}
use Rattle.ir_ast.specs.declared.instr.Instr.{Instr}
use Rattle.ir_ast.specs.declared.module.Module.{Module}
use Rattle.ir_ast.specs.declared.op.Op.{Op}
use Rattle.ir_ast.specs.declared.op.Op.TheVariants as op
use Rattle.certs.specs.declared.section.Section.{Section}
use Rattle.layout.specs.Layouts.{LaidOut}
use Rattle.block_rules.specs.InstrContext.{block_body, body_of}
use Rattle.block_rules.specs.declared.block_fault.Refusal.{Refusal}
use Rattle.answers.specs.Local.{with_functions, laid_with, interface_of, called_by, IfThere, OfEachCalled, LooksSame, SameScope}
use Rattle.answers.specs.Laws.{StayCertified, StayRefused}
use Rattle.answers.specs.Answers.{IsAnswer, AreAnswers, AreAnswersSoFar}
use Rattle.answers.specs.Edited.{is_number, instruction_calls, block_calls, calls, calls_it, is_caller, callers_below, touched, AreWithin, AreAnswersTo, put_first, IsEdited}
use Rattle.answers.specs.declared.callers.Callers.{Callers}
use Rattle.answers.specs.declared.callers.Callers.TheVariants.{SeeChange, SeeNone}
use Rattle.std.proofs.lemmas.List.{length-append}
use Rattle.lemmas.specs.All.{all_so}
use Rattle.lemmas.specs.Lists.{get_end, get_front}
use Rattle.answers.proofs.Lists.{one_more, none_pass, none_passes_at}
use Rattle.answers.proofs.Put.{length_put, IsPutAt, put_at}

-- what an operation calls does not depend on functions
called_same : (m : Module) (fs : List Function) (x : Op) → called_by (with_functions m fs) x ≡ called_by m x
called_same m fs (op.Call x) = refl
called_same m fs (op.Number x) = refl
called_same m fs (op.Memory x) = refl
called_same m fs (op.Element x) = refl
called_same m fs (op.Cast x) = refl
called_same m fs (op.Choice x) = refl

module _ (p : LaidOut) (certs : List Section) (q : LaidOut) (others : List Section) (replaced : ℕ) (callers : Callers) (edit : IsEdited p certs q others replaced callers) where
  abbrev Same : ℕ → Type 0
  Same = LooksSame p certs q.of_module.functions others

  called_as : (x : Op) → called_by q.of_module x ≡ called_by p.of_module x
  called_as x = ap (λ (r : LaidOut). called_by r.of_module x) edit.tables ∙ called_same p.of_module q.of_module.functions x

  others_same : (n : ℕ) → n ≢ replaced → Same n
  others_same n other =
      ap (λ (f : Option Function). interface_of f (slice_get others n)) (edit.code n other)
      ∙ ap (interface_of (slice_get p.of_module.functions n)) (edit.sections n other)

  -- what is called looks the same, where it is another function, or nobody sees a change
  called_looks : (called : Option ℕ) → is_number replaced called ≡ false → IfThere Same called
  called_looks None e = tt
  called_looks (Some n) e = others_same n (λ h. let t = eq-eqb n replaced h in cc)

  body_looks : (f : Function) (block : Option Block) → ((b : Block) → block ≡ Some b → block_calls q.of_module replaced b ≡ false) → OfEachCalled p.of_module Same (block_body block)
  body_looks f None none = tt
  body_looks f (Some b) none =
      all_so (λ instr. instruction_calls q.of_module replaced instr ≡ false) (λ instr. IfThere Same (called_by p.of_module instr.op)) b.body
      (λ instr e. called_looks (called_by p.of_module instr.op) (ap (is_number replaced) (sym (called_as instr.op)) ∙ e))
      (none_pass (instruction_calls q.of_module replaced) b.body (none b refl))

  -- where a function does not call the replaced one, all that it calls looks the same
  looks_by : (f : Function) → calls q.of_module replaced f ≡ false → (block : ℕ) → OfEachCalled p.of_module Same (body_of f block)
  looks_by f none block =
      body_looks f (slice_get f.blocks block) (λ b at. none_passes_at (block_calls q.of_module replaced) f.blocks block b none at)

all_look : (m : Module) (P : ℕ → Type 0) (xs : List Instr) → ((n : ℕ) → P n) → OfEachCalled m P xs
all_look m P [] each = tt
all_look m P (x ∷ xs) each = (by (called_by m x.op), all_look m P xs each)
  where
    by : (called : Option ℕ) → IfThere P called
    by None = tt
    by (Some n) = each n

-- where callers see no change, each function looks the same
all_same : (p : LaidOut) (certs : List Section) (q : LaidOut) (others : List Section) (replaced : ℕ) (edit : IsEdited p certs q others replaced SeeNone) (n : ℕ) → LooksSame p certs q.of_module.functions others n
all_same p certs q others replaced edit n = by (n == replaced) refl
  where
    by : (b : Bool) → (n == replaced) ≡ b → LooksSame p certs q.of_module.functions others n
    by true e = subst (LooksSame p certs q.of_module.functions others) (sym (eqb-true n replaced e)) edit.unseen
    by false e = others_same p certs q others replaced SeeNone edit n (λ h. let t = eq-eqb n replaced h in cc)

-- ---- functions that are not checked again

-- a list of numbers misses one
abbrev pub Misses : (xs : List ℕ) → (n : ℕ) → Type 0
Misses xs n = (place : ℕ) → slice_get xs place ≡ Some n → ⊥

-- the replaced function is checked again
not_replaced : (m : Module) (replaced : ℕ) (callers : Callers) (func : ℕ) → Misses (touched m replaced callers) func → func ≢ replaced
not_replaced m replaced SeeChange func misses e = misses 0 (ap Some (sym e))
not_replaced m replaced SeeNone func misses e = misses 0 (ap Some (sym e))

-- a list of numbers holds one
abbrev Holds : (xs : List ℕ) → (n : ℕ) → Type 0
Holds xs n = (place : ℕ) × (slice_get xs place ≡ Some n)

-- a caller is among the callers
stands_below : (m : Module) (called count func : ℕ) → func < count → is_caller m called func ≡ true → Holds (callers_below m called count) func
stands_below m called zero func less e = absurd (omega (arith, less))
stands_below m called (suc count) func less e = by (func == count) refl (is_caller m called count) refl (λ below. stands_below m called count func below e)
  where
    by : (same : Bool) → (func == count) ≡ same → (calls_it : Bool) → is_caller m called count ≡ calls_it → (func < count → Holds (callers_below m called count) func)
        → Holds (if calls_it then callers_below m called count ++ count ∷ [] else callers_below m called count) func
    by true same true is earlier = (length (callers_below m called count), get_end (callers_below m called count) count ∙ ap Some (sym (eqb-true func count same)))
    by true same false is earlier = absurd (let neither : true ≡ false = sym e ∙ ap (is_caller m called) (eqb-true func count same) ∙ is in cc)
    by false differs true is earlier =
        let other : func ≢ count = λ h. let t = eq-eqb func count h in absurd cc in
        let there = earlier (omega (arith, less, other)) in
        (there.0, get_front (callers_below m called count) (count ∷ []) there.0 func there.1)
    by false differs false is earlier =
        let other : func ≢ count = λ h. let t = eq-eqb func count h in absurd cc in
        earlier (omega (arith, less, other))

no_caller : (m : Module) (called count func : ℕ) → func < count → Misses (callers_below m called count) func → is_caller m called func ≡ false
no_caller m called count func less misses = by (is_caller m called func) refl
  where
    by : (b : Bool) → is_caller m called func ≡ b → b ≡ false
    by true e = let there = stands_below m called count func less e in absurd (misses there.0 there.1)
    by false e = refl

-- another function that is no caller does not call it
not_calls : (m : Module) (called func : ℕ) (f : Function) → func ≢ called → slice_get m.functions func ≡ Some f → is_caller m called func ≡ false → calls m called f ≡ false
not_calls m called func f other at e = by (func == called) refl e
  where
    by : (b : Bool) → (func == called) ≡ b → (not b && calls_it m called (slice_get m.functions func)) ≡ false → calls m called f ≡ false
    by true same h = absurd (other (eqb-true func called same))
    by false differs h = ap (calls_it m called) (sym at) ∙ h

calls_same : (p : LaidOut) (certs : List Section) (q : LaidOut) (others : List Section) (replaced : ℕ) (callers : Callers) (edit : IsEdited p certs q others replaced callers) (func : ℕ) (f : Function)
    → slice_get q.of_module.functions func ≡ Some f → func < length q.of_module.functions → Misses (touched q.of_module replaced callers) func → (block : ℕ)
    → OfEachCalled p.of_module (LooksSame p certs q.of_module.functions others) (body_of f block)
calls_same p certs q others replaced SeeNone edit func f at less misses block = all_look p.of_module (LooksSame p certs q.of_module.functions others) (body_of f block) (all_same p certs q others replaced edit)
calls_same p certs q others replaced SeeChange edit func f at less misses block =
    let none = no_caller q.of_module replaced (length q.of_module.functions) func less (λ place is. misses (suc place) is) in
    looks_by p certs q others replaced SeeChange edit f (not_calls q.of_module replaced func f (not_replaced q.of_module replaced SeeChange func misses) at none) block

-- a function that is not checked again has the same scope
scope : (p : LaidOut) (certs : List Section) (q : LaidOut) (others : List Section) (replaced : ℕ) (callers : Callers) (edit : IsEdited p certs q others replaced callers) (func : ℕ)
    → func < length q.of_module.functions → Misses (touched q.of_module replaced callers) func → SameScope p certs q.of_module.functions others func
scope p certs q others replaced callers edit func less misses =
    let other : func ≢ replaced = not_replaced q.of_module replaced callers func misses in
    record {
      code = edit.code func other;
      section = edit.sections func other;
      calls = λ f at. calls_same p certs q others replaced callers edit func f (edit.code func other ∙ at) less misses;
    }

-- the answer that is kept is one after the edit
stays : StayCertified → StayRefused → (p : LaidOut) (certs : List Section) (q : LaidOut) (others : List Section) (func : ℕ) → q ≡ laid_with p q.of_module.functions → SameScope p certs q.of_module.functions others func
    → (answer : Option Refusal) → IsAnswer p certs func answer → IsAnswer q others func answer
stays certified refused p certs q others func tables same None h =
    subst (λ (r : LaidOut). IsAnswer r others func None) (sym tables) (certified p certs q.of_module.functions others func same h)
stays certified refused p certs q others func tables same (Some refusal) h =
    subst (λ (r : LaidOut). IsAnswer r others func (Some refusal)) (sym tables) (refused p certs q.of_module.functions others func refusal same h)

-- ---- all answers

module _ (certified : StayCertified) (refused : StayRefused) (p : LaidOut) (certs : List Section) (q : LaidOut) (others : List Section) (replaced : ℕ) (callers : Callers) (edit : IsEdited p certs q others replaced callers)
    (funcs : List ℕ) (funcs_are : funcs ≡ touched q.of_module replaced callers) (before anew : List (Option Refusal)) (are : AreAnswers p certs before) (count : length before ≡ length q.of_module.functions)
    (are_anew : AreAnswersTo q others funcs anew) where
  each_after : (func : ℕ) (answer : Option Refusal) → func < length q.of_module.functions → IsPutAt funcs anew before (length funcs) func answer → IsAnswer q others func answer
  each_after func answer less (inl h) = are_anew.1 h.0 func answer h.1 h.2
  each_after func answer less (inr h) =
      let misses : Misses funcs func = λ place at. h.1 place (slice_get_within funcs place func at) at in
      let misses_touched : Misses (touched q.of_module replaced callers) func = subst (λ (xs : List ℕ). Misses xs func) funcs_are misses in
      stays certified refused p certs q others func edit.tables (scope p certs q others replaced callers edit func less misses_touched) answer (are.each func answer h.0)

  pub all_after : (after : List (Option Refusal)) → after ≡ put_first funcs anew before (length funcs) → AreAnswers q others after
  all_after after is =
      let many : length after ≡ length q.of_module.functions = ap length is ∙ length_put funcs anew before (length funcs) ∙ count in
      record {
        one_each = many;
        each = λ func answer at.
            each_after func answer (omega (arith, slice_get_within after func answer at, many))
            (put_at funcs anew before (length funcs) func answer (omega (arith, are_anew.0)) (subst (λ (xs : List (Option Refusal)). slice_get xs func ≡ Some answer) is at));
      }

-- ---- numbers of functions

below_within : (m : Module) (called count place func : ℕ) → slice_get (callers_below m called count) place ≡ Some func → func < count
below_within m called zero place func at = absurd cc
below_within m called (suc count) place func at = by (is_caller m called count) at (below_within m called count)
  where
    by : (b : Bool) → slice_get (if b then callers_below m called count ++ count ∷ [] else callers_below m called count) place ≡ Some func
        → ((n g : ℕ) → slice_get (callers_below m called count) n ≡ Some g → g < count) → func < suc count
    by true h earlier = one_more (λ n g. g < suc count) (callers_below m called count) count (λ n g is. omega (arith, earlier n g is)) (omega arith) place func h
    by false h earlier = omega (arith, earlier place func h)

-- there are functions of the numbers that are checked again
pub touched_within : (m : Module) (replaced : ℕ) (callers : Callers) (funcs : List ℕ) → funcs ≡ touched m replaced callers → replaced < length m.functions → AreWithin (length m.functions) funcs
touched_within m replaced callers funcs is less = subst (AreWithin (length m.functions)) (sym is) (by callers)
  where
    by : (c : Callers) → AreWithin (length m.functions) (touched m replaced c)
    by SeeNone zero func at = let same : replaced ≡ func = cc in subst (λ n. n < length m.functions) same less
    by SeeNone (suc place) func at = absurd cc
    by SeeChange zero func at = let same : replaced ≡ func = cc in subst (λ n. n < length m.functions) same less
    by SeeChange (suc place) func at = below_within m replaced (length m.functions) place func at

-- ---- one answer more

-- where the list of answers grows by one, so far so good
pub answers_more : (program : LaidOut) (certs : List Section) (answers more : List (Option Refusal)) (n : ℕ) (answer : Option Refusal) → more ≡ answers ++ answer ∷ [] → length answers ≡ n → AreAnswersSoFar program certs answers
    → IsAnswer program certs n answer → (length more ≡ n + 1) × AreAnswersSoFar program certs more
answers_more program certs answers more n answer grown count so_far here =
    let last : IsAnswer program certs (length answers) answer = subst (λ k. IsAnswer program certs k answer) (sym count) here in
    let longer = length-append answers (answer ∷ []) in
    (ap length grown ∙ omega (arith, longer, count), subst (AreAnswersSoFar program certs) (sym grown) (one_more (IsAnswer program certs) answers answer so_far last))

-- these are all of them
pub all_answers : (program : LaidOut) (certs : List Section) (answers : List (Option Refusal)) (n : ℕ) → (length answers ≡ n) × AreAnswersSoFar program certs answers → n ≡ length program.of_module.functions → AreAnswers program certs answers
all_answers program certs answers n h count = record { one_each = h.0 ∙ count; each = h.1 }
