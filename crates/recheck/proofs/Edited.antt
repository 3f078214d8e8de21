-- What is put in the place of a function's code and section is what the edit asks for, and what is refused is refused for its first fault.
use Rattle.std.proofs.Common.{◌≡◌, ◌≢◌, ◌⊎◌, inl, inr, ℕ, true, false, List, length, slice_get, Option, Some, None, Result, Ok, Err, refl, ap, sym, subst, ◌∙◌}
use Rattle.std.specs.Prelude.{slice_set, IfOk, IfErr, OnOk, OnErr, IfSome}
use Rattle.ir_ast.specs.declared.function.Function.{Function}
use Rattle.ir_ast.specs.declared.module.Module.{Module}
use Rattle.ir_tokens.specs.Bytes.{Text}
use Rattle.ir_text.specs.Read.{Gives}
use Rattle.ir_text.specs.Replaced.{IsReplaced, IsReplaceFault, put_function}
use Rattle.copies.specs.declared.tables.Tables.{Tables}
use Rattle.ir_text.specs.declared.read_fault.ReadFault.{ReadFault}
use Rattle.ir_text.specs.declared.read_fault.ReadFault.TheVariants as read
use Rattle.certs.specs.declared.certs.Certs.{Certs}
use Rattle.certs.specs.declared.section.Section.{Section}
use Rattle.layout.specs.Functions.{laid_with}
use Rattle.layout.specs.Grown.{LayoutsStay}
use Rattle.layout.specs.Layouts.{LaidOut, AreLayouts, AreSizes, wants_shapes}
use Rattle.block_rules.specs.declared.block_fault.Refusal.{Refusal}
use Rattle.answers.specs.Answers.{AreAnswers}
use Rattle.answers.specs.KeptRows.{AreKept}
use Rattle.recheck.specs.declared.edit.Edit.{Edit}
use Rattle.recheck.specs.declared.edit.Edit.TheVariants as edit
use Rattle.recheck.specs.Edits.{AreRead, IsShapedSection, IsCode, HasTextFault, IsReadAt, IsRead, IsEditedAt, IsEdited, HasSectionFault, HasCodeFault, IsFaultAt, IsEditFault, IsEditAccepted, IsRefusedBy, code_fault, name_in, no_function, text_with}
use Rattle.recheck.specs.Named.{function_named}
use Rattle.recheck.specs.Put.{state, with_function, IsTextPut, IsBothPut, IsReadAnew, AreReady, IsKept}
use Rattle.recheck.specs.Session.{IsAnswered}
use Rattle.recheck.specs.Interface.{rechecked_by}
use Rattle.recheck.specs.declared.edit_fault.EditFault.{EditFault}
use Rattle.recheck.specs.declared.edit_fault.EditFault.TheVariants.{Memory, ShapesWanted}
use Rattle.recheck.specs.declared.kept.KeptWork.{KeptWork}
use Rattle.std.proofs.lemmas.List.{length-set}
use Rattle.recheck.proofs.Puts.{put_so}
use Rattle.recheck.proofs.Results.{same_ok, same_err, ok_or_err, err_or_ok}
use Rattle.recheck.proofs.Sizes.{sizes_with, layouts_with}
use Rattle.recheck.proofs.Within.{code_differs}

-- ---- code that is read as a module

true_or_false : true ≡ false → ⊥
true_or_false e = absurd cc

-- the module with what was read has as many functions
length_put : (func : ℕ) (f : Option Function) (fs : List Function) → length (put_function func f fs) ≡ length fs
length_put func None fs = refl
length_put func (Some f) fs = length-set fs func f

replaced_length : (m : Module) (func : ℕ) (code : Text) (n : Module) → IsReplaced m func code n → length n.functions ≡ length m.functions
replaced_length m func code n is = ap (λ (x : Module). length x.functions) (sym is.2) ∙ length_put func (slice_get is.0.functions 0) m.functions

-- ---- the text of the code

module _ (m : Module) (func : ℕ) (code : Text) where
  -- the text is refused
  module _ (f : ReadFault) (e : EditFault) (is : e ≡ code_fault f) where
    -- what is refused is no code
    pub text_accepted : ((n : Module) → IsReplaced m func code n → Gives (Err f) (Ok n)) → (n : Module) → IsReplaced m func code n → e ≢ Memory → ⊥
    text_accepted only n h differs = ok_or_err n f (only n h (code_differs f e is differs))

    -- it has the fault
    pub text_refused : (f ≢ read.Memory → IsReplaceFault m func code f) → e ≢ Memory → HasTextFault m func code e
    text_refused fault differs = inl (f, fault (code_differs f e is differs), sym is)

    -- and no other one
    pub text_same : ((n : Module) → IsReplaced m func code n → Gives (Err f) (Ok n)) → ((g : ReadFault) → IsReplaceFault m func code g → Gives {X = Module} (Err f) (Err g))
        → (x : EditFault) → HasTextFault m func code x → e ≢ Memory → e ≡ x
    text_same only fails x (inl h) differs =
        let one : h.0 ≡ f = same_err {X = Module} h.0 f (fails h.0 h.1 (code_differs f e is differs)) in
        is ∙ ap code_fault (sym one) ∙ h.2
    text_same only fails x (inr h) differs = absurd (text_accepted only h.0 h.1 differs)

  -- the text is read as this module
  module _ (o : Module) (only : (n : Module) → IsReplaced m func code n → Gives (Ok o) (Ok n)) (fails : (f : ReadFault) → IsReplaceFault m func code f → Gives (Ok o) (Err f)) where
    -- there is no other one
    pub text_one : (n : Module) → IsReplaced m func code n → n ≡ o
    text_one n h = same_ok {E = ReadFault} n o (only n h)

    -- where shapes are wanted for it, there is no code
    pub wanted_accepted : wants_shapes o ≡ true → (n : Module) → IsCode m func code n → ⊥
    wanted_accepted wanted n h = let no : wants_shapes o ≡ false = subst (λ (x : Module). wants_shapes x ≡ false) (text_one n h.0) h.1 in absurd (true_or_false (sym wanted ∙ no))

    -- and that is the fault
    pub wanted_same : wants_shapes o ≡ true → (x : EditFault) → HasTextFault m func code x → ShapesWanted ≡ x
    wanted_same wanted x (inl h) = absurd (err_or_ok o h.0 (fails h.0 h.1))
    wanted_same wanted x (inr h) = h.3

    -- where they are not, there is no fault
    pub unwanted_unread : wants_shapes o ≡ false → (x : EditFault) → HasTextFault m func code x → ⊥
    unwanted_unread unwanted x (inl h) = err_or_ok o h.0 (fails h.0 h.1)
    unwanted_unread unwanted x (inr h) = true_or_false (sym h.2 ∙ ap wants_shapes (text_one h.0 h.1) ∙ unwanted)

module _ (m same_m : Module) (same : same_m ≡ m) (func : ℕ) (code : Text) where
  of_code : (n : Module) → IsCode same_m func code n → IsCode m func code n
  of_code n h = subst (λ (x : Module). IsCode x func code n) same h

  to_code : (n : Module) → IsCode m func code n → IsCode same_m func code n
  to_code n h = subst (λ (x : Module). IsCode x func code n) (sym same) h

  of_fault : (e : EditFault) → HasTextFault same_m func code e → HasTextFault m func code e
  of_fault e h = subst (λ (x : Module). HasTextFault x func code e) same h

  to_fault : (e : EditFault) → HasTextFault m func code e → HasTextFault same_m func code e
  to_fault e h = subst (λ (x : Module). HasTextFault x func code e) (sym same) h

  -- what is refused is no code
  pub code_accepted : (e : EditFault) → ((n : Module) → IsCode same_m func code n → e ≢ Memory → ⊥) → (n : Module) → IsCode m func code n → e ≢ Memory → ⊥
  code_accepted e only n h = only n (to_code n h)

  -- it has the fault
  pub code_refused : (e : EditFault) → (text : Text) → (e ≢ Memory → HasTextFault same_m func code e) → e ≢ Memory → HasCodeFault m func code text e
  code_refused e text fault differs = inl (of_fault e (fault differs))

  -- and no other one
  pub code_same : (e : EditFault) → ((n : Module) → IsCode same_m func code n → e ≢ Memory → ⊥) → ((x : EditFault) → HasTextFault same_m func code x → e ≢ Memory → e ≡ x)
      → (text : Text) (x : EditFault) → HasCodeFault m func code text x → e ≢ Memory → e ≡ x
  code_same e only fails text x (inl h) differs = fails x (to_fault x h) differs
  code_same e only fails text x (inr h) differs = absurd (only h.0 (to_code h.0 h.1) differs)

-- this is the module of the code, which has no fault
pub record IsTheCode (m : Module) (func : ℕ) (code : Text) (n : Module) : Type 0 where
  pub is_read : IsCode m func code n
  pub one : (o : Module) → IsCode m func code o → o ≡ n
  pub unread : (e : EditFault) → HasTextFault m func code e → ⊥

pub the_code : (m same_m : Module) → same_m ≡ m → (func : ℕ) (code : Text) (n : Module) → IsCode same_m func code n → ((o : Module) → IsCode same_m func code o → o ≡ n)
    → ((e : EditFault) → HasTextFault same_m func code e → ⊥) → IsTheCode m func code n
the_code m same_m same func code n found only fails = record {
  is_read = of_code m same_m same func code n found;
  one = λ o h. only o (to_code m same_m same func code o h);
  unread = λ e h. fails e (to_fault m same_m same func code e h);
}

-- ---- code that is read, with the section of a text

module _ (m : Module) (func : ℕ) (code text : Text) (n : Module) (is : IsTheCode m func code n) where
  -- a fault of the two is one of the section
  pub only_section : (e : EditFault) → HasCodeFault m func code text e → HasSectionFault n func text e
  only_section e (inl h) = absurd (is.unread e h)
  only_section e (inr h) = subst (λ (o : Module). HasSectionFault o func text e) (is.one h.0 h.1) h.2

  -- a fault of the section is one of the two
  pub section_of_code : (e : EditFault) → HasSectionFault n func text e → HasCodeFault m func code text e
  section_of_code e h = inr (n, is.is_read, h)

  -- a section with the code is one with the module that was read
  pub with_code : (o : Module) (section : Section) → AreRead m func code text o section → IsShapedSection text n func section
  with_code o section h = subst (λ (x : Module). IsShapedSection text x func section) (is.one o h.0) h.1

-- a program laid out of the module that was read, and the section
pub anew_read : (m : Module) (func : ℕ) (code text : Text) (n : Module) (q : LaidOut) (section : Section) → IsCode m func code n → IsShapedSection text n func section
    → (q.of_module ≡ n) × AreLayouts n q.layouts × AreSizes n q.sizes → IsReadAnew m func code text q section
anew_read m func code text n q section is_read is laid = record {
  are_read = subst (λ (x : Module). AreRead m func code text x section) (sym laid.0) (is_read, is);
  laid_out = subst (λ (x : Module). AreLayouts x q.layouts) (sym laid.0) laid.1;
  sized = subst (λ (x : Module). AreSizes x q.sizes) (sym laid.0) laid.2;
}

-- it is in the place of the old one, with the section
pub both_anew : (p q : LaidOut) (certs others : List Section) (func : ℕ) (old : Function) (past section : Section) (code text : Text) (count : ℕ) → IsReadAnew p.of_module func code text q section
    → others ≡ slice_set certs func section → slice_get p.of_module.functions func ≡ Some old → slice_get certs func ≡ Some past
    → count ≡ rechecked_by q.of_module others func (Some old) (Some past) → IsBothPut p certs func code text q others count
both_anew p q certs others func old past section code text count read e at past_at counted = record {
  of_code = read.are_read.0.0;
  laid_out = read.laid_out;
  sized = read.sized;
  of_text = put_so p certs q others func old past section text count read.are_read.1 e at past_at counted;
}

-- ---- the function in the place of the old one

at_some : {A : Type 0} (P : A → Type 0) (o : Option A) (x : A) → o ≡ Some x → IfSome o P → P x
at_some P None x e h = absurd cc
at_some P (Some y) x e h = let same : y ≡ x = cc in subst P same h

module _ (m same_m : Module) (same : same_m ≡ m) (func : ℕ) (code : Text) where
  -- a function was read, so the module with it is the one of the code
  pub the_place : wants_shapes m ≡ false → (r : Result (Option Function) EditFault) (f : Function) → r ≡ Ok (Some f)
      → IfOk r (λ o. IfSome o (λ g. IsReplaced same_m func code (with_function same_m func g)))
      → ((n : Module) → IsReplaced same_m func code n → IfOk r (λ o. IfSome o (λ g. n ≡ with_function same_m func g)))
      → ((g : ReadFault) → IsReplaceFault same_m func code g → IsRefusedBy r (code_fault g)) → IsTheCode m func code (with_function m func f)
  the_place unwanted (Err e) f is found one fails = absurd cc
  the_place unwanted (Ok o) f is found one fails =
      let some : o ≡ Some f = cc in
      record {
        is_read = (subst (λ (x : Module). IsReplaced x func code (with_function x func f)) same (at_some (λ g. IsReplaced same_m func code (with_function same_m func g)) o f some found), unwanted);
        one = λ n h. here o some one n h.0;
        unread = unread o some one fails;
      }
    where
      -- there is no other module
      here : (o : Option Function) → o ≡ Some f → ((n : Module) → IsReplaced same_m func code n → IfSome o (λ g. n ≡ with_function same_m func g)) → (n : Module) → IsReplaced m func code n → n ≡ with_function m func f
      here o some one n h =
          subst (λ (x : Module). n ≡ with_function x func f) same (at_some (λ g. n ≡ with_function same_m func g) o f some (one n (subst (λ (x : Module). IsReplaced x func code n) (sym same) h)))

      unread : (o : Option Function) → o ≡ Some f → ((n : Module) → IsReplaced same_m func code n → IfSome o (λ g. n ≡ with_function same_m func g)) → ((g : ReadFault) → IsReplaceFault same_m func code g → ⊥)
          → (e : EditFault) → HasTextFault m func code e → ⊥
      unread o some one fails e (inl h) = fails h.0 (subst (λ (x : Module). IsReplaceFault x func code h.0) (sym same) h.1)
      unread o some one fails e (inr h) = true_or_false (sym h.2 ∙ ap wants_shapes (here o some one h.0 h.1) ∙ unwanted)

  -- the code has the fault for which it is refused
  pub within_fault : (e : EditFault) → (f : ReadFault) × IsReplaceFault same_m func code f × (code_fault f ≡ e) → HasTextFault m func code e
  within_fault e h = inl (h.0, subst (λ (x : Module). IsReplaceFault x func code h.0) same h.1, h.2)

  -- and is none
  pub within_none : (e : EditFault) → ((n : Module) → IsReplaced same_m func code n → e ≢ Memory → ⊥) → (n : Module) → IsReplaced m func code n → e ≢ Memory → ⊥
  within_none e only n h = only n (subst (λ (x : Module). IsReplaced x func code n) (sym same) h)

  -- and has no other one
  pub within_refused : (e : EditFault) → ((n : Module) → IsReplaced same_m func code n → e ≢ Memory → ⊥) → ((f : ReadFault) → IsReplaceFault same_m func code f → e ≢ Memory → e ≡ code_fault f)
      → (text : Text) (x : EditFault) → HasCodeFault m func code text x → e ≢ Memory → e ≡ x
  within_refused e only fails text x (inl (inl h)) differs = fails h.0 (subst (λ (x : Module). IsReplaceFault x func code h.0) (sym same) h.1) differs ∙ h.2
  within_refused e only fails text x (inl (inr h)) differs = absurd (within_none e only h.0 h.1 differs)
  within_refused e only fails text x (inr h) differs = absurd (within_none e only h.0 h.1.0 differs)

both_in_place : LayoutsStay → (p q : LaidOut) (certs others : List Section) (func : ℕ) (f : Function) (code text : Text) (count : ℕ)
    → q ≡ laid_with p (slice_set p.of_module.functions func f) → IsReplaced p.of_module func code (with_function p.of_module func f) → AreLayouts p.of_module p.layouts → AreSizes p.of_module p.sizes
    → IsTextPut p certs func text q others count → IsBothPut p certs func code text q others count
both_in_place stay p q certs others func f code text count e is_read laid sized of_text = record {
  of_code = subst (λ (r : LaidOut). IsReplaced p.of_module func code r.of_module) (sym e) is_read;
  laid_out = subst (λ (r : LaidOut). AreLayouts r.of_module r.layouts) (sym e) (layouts_with stay p.of_module (slice_set p.of_module.functions func f) p.layouts laid);
  sized = subst (λ (r : LaidOut). AreSizes r.of_module r.sizes) (sym e) (sizes_with p.of_module (slice_set p.of_module.functions func f) p.sizes sized);
  of_text = of_text;
}

-- the program with the function in the place of the old one, if it is accepted
pub place_put : LayoutsStay → (p q : LaidOut) (certs others : List Section) (func : ℕ) (f : Function) (code text : Text) (r : Result ℕ EditFault)
    → OnOk r (q ≡ laid_with p (slice_set p.of_module.functions func f)) → IsReplaced p.of_module func code (with_function p.of_module func f) → AreLayouts p.of_module p.layouts → AreSizes p.of_module p.sizes
    → IfOk r (λ count. IsTextPut p certs func text q others count) → IfOk r (λ count. IsBothPut p certs func code text q others count)
place_put stay p q certs others func f code text (Ok count) e is_read laid sized of_text = both_in_place stay p q certs others func f code text count e is_read laid sized of_text
place_put stay p q certs others func f code text (Err x) e is_read laid sized of_text = tt

-- the faults for which it is refused
pub place_fault : (m : Module) (func : ℕ) (code text : Text) (n : Module) (r : Result ℕ EditFault) → IsCode m func code n → IfErr r (λ e. e ≢ Memory → HasSectionFault n func text e)
    → IfErr r (λ e. e ≢ Memory → HasCodeFault m func code text e)
place_fault m func code text n (Ok count) is_read h = tt
place_fault m func code text n (Err e) is_read h = λ differs. inr (n, is_read, h differs)

-- ---- tables that are ready

-- they are those of the program with the function in the place of the old one, or of the old one
pub ready_in_place : (p q : LaidOut) (func : ℕ) (f : Function) (tables : Option Tables) (S T : Type 0) (r : Result ℕ EditFault) → AreReady p.of_module tables → OnOk r (q ≡ laid_with p (slice_set p.of_module.functions func f))
    → OnErr r ((q ≡ p) × S × T) → AreReady q.of_module tables
ready_in_place p q func f None S T r h placed kept = tt
ready_in_place p q func f (Some tables) S T (Ok count) h placed kept = subst (λ (x : LaidOut). AreReady x.of_module (Some tables)) (sym placed) h
ready_in_place p q func f (Some tables) S T (Err x) h placed kept = subst (λ (x : LaidOut). AreReady x.of_module (Some tables)) (sym kept.0) h

-- or there are none
pub ready_anew : (p q : LaidOut) (S : Type 0) (before after : KeptWork) (r : Result ℕ EditFault) → AreReady p.of_module before.tables → OnOk r (after.tables ≡ None) → OnErr r ((q ≡ p) × S × (after ≡ before)) → AreReady q.of_module after.tables
ready_anew p q S before after (Ok count) h none kept = subst (AreReady q.of_module) (sym none) tt
ready_anew p q S before after (Err x) h none kept =
    subst (λ (k : KeptWork). AreReady q.of_module k.tables) (sym kept.2) (subst (λ (x : LaidOut). AreReady x.of_module before.tables) (sym kept.0) h)

-- ---- one function

-- the edit gives this code, and this text of a section with it
abbrev pub IsOfCode : LaidOut → (certs : List Section) → (func : ℕ) → Edit → (code text : Text) → Type 0
IsOfCode p certs func e code text =
    ((name : Text) × (e ≡ edit.Code name code) × (text ≡ text_with p.of_module (slice_get p.of_module.functions func) (slice_get certs func)))
    ⊎ ((name : Text) × (e ≡ edit.Both name code text))

-- a section is in its place, and the answers go with it
section_answered : (p : LaidOut) (certs others : List Section) (func : ℕ) (text : Text) (before after : List (Option Refusal)) (count : ℕ) → IsAnswered p certs before → IsTextPut p certs func text p others count → AreAnswers p others after
    → IsAnswered p others after
section_answered p certs others func text before after count kept h are = record {
  laid_out = kept.laid_out;
  sized = kept.sized;
  one_each = ap length h.2.certs_are ∙ length-set certs func h.0 ∙ kept.one_each;
  are_answers = are;
}

-- so it is where the code is another one too
code_answered : (p q : LaidOut) (certs others : List Section) (func : ℕ) (code text : Text) (before after : List (Option Refusal)) (count : ℕ) → IsAnswered p certs before → IsBothPut p certs func code text q others count → AreAnswers q others after
    → IsAnswered q others after
code_answered p q certs others func code text before after count kept h are = record {
  laid_out = h.laid_out;
  sized = h.sized;
  one_each = ap length h.of_text.2.certs_are ∙ length-set certs func h.of_text.0 ∙ kept.one_each ∙ sym (replaced_length p.of_module func code q.of_module h.of_code);
  are_answers = are;
}

-- where all is as before, so are the answers
answered_as_before : (p q : LaidOut) (certs others : List Section) (before after : List (Option Refusal)) → IsAnswered p certs before → (q ≡ p) × (others ≡ certs) × (after ≡ before) → IsAnswered q others after
answered_as_before p q certs others before after kept same =
    subst (λ (x : LaidOut). IsAnswered x others after) (sym same.0) (subst (λ (x : List Section). IsAnswered p x after) (sym same.1) (subst (λ (x : List (Option Refusal)). IsAnswered p certs x) (sym same.2) kept))

-- what a session keeps, where a section is put in its place or refused
pub section_kept : (p : LaidOut) (certs others : Certs) (func : ℕ) (text : Text) (before after : KeptWork) (r : Result ℕ EditFault) → IsKept p certs.sections before → after.tables ≡ before.tables
    → IfOk r (λ count. IsTextPut p certs.sections func text p others.sections count) → OnOk r (AreAnswers p others.sections after.functions.answers)
    → OnErr r ((others ≡ certs) × (after.functions.answers ≡ before.functions.answers)) → AreKept p others.sections after.functions.rows → IsKept p others.sections after
section_kept p certs others func text before after (Ok count) kept tables put are same rows = record {
  rows = rows;
  answered = section_answered p certs.sections others.sections func text before.functions.answers after.functions.answers count kept.answered put are;
  ready = subst (AreReady p.of_module) (sym tables) kept.ready;
}
section_kept p certs others func text before after (Err x) kept tables put are same rows = record {
  rows = rows;
  answered = answered_as_before p p certs.sections others.sections before.functions.answers after.functions.answers kept.answered (refl, ap (λ (c : Certs). c.sections) same.0, same.1);
  ready = subst (AreReady p.of_module) (sym tables) kept.ready;
}

-- and where code is
pub code_kept : (p q : LaidOut) (certs others : Certs) (func : ℕ) (code text : Text) (before after : KeptWork) (r : Result ℕ EditFault) → IsKept p certs.sections before
    → IfOk r (λ count. IsBothPut p certs.sections func code text q others.sections count) → OnOk r (AreAnswers q others.sections after.functions.answers) → AreReady q.of_module after.tables
    → OnErr r ((q ≡ p) × (others ≡ certs) × (after.functions.answers ≡ before.functions.answers)) → AreKept q others.sections after.functions.rows → IsKept q others.sections after
code_kept p q certs others func code text before after (Ok count) kept put are ready same rows = record {
  rows = rows;
  answered = code_answered p q certs.sections others.sections func code text before.functions.answers after.functions.answers count kept.answered put are;
  ready = ready;
}
code_kept p q certs others func code text before after (Err x) kept put are ready same rows = record {
  rows = rows;
  answered = answered_as_before p q certs.sections others.sections before.functions.answers after.functions.answers kept.answered (same.0, ap (λ (c : Certs). c.sections) same.1, same.2);
  ready = ready;
}

module _ (p : LaidOut) (own : Certs) (certs : List Section) (func : ℕ) (e : Edit) where
  -- ---- of a section

  module _ (name text : Text) (is : e ≡ edit.Cert name text) where
    pub section_edited : (before : KeptWork) → IsKept p certs before → (others : List Section) (r : Result ℕ EditFault) → IfOk r (λ count. IsTextPut p certs func text p others count)
        → (n : ℕ) → IfOk r (λ count. IsEditedAt (state p own certs n) func e (state p own others count))
    section_edited before kept others (Ok count) h n =
        subst (λ (x : Edit). IsEditedAt (state p own certs n) func x (state p own others count)) (sym is)
        (p.of_module, h.0, (refl, h.1), record { of_module = refl; shapes = refl; foreign = refl; laid_out = kept.answered.laid_out; sized = kept.answered.sized; certs = h.2.certs_are; rechecked = h.2.rechecked })
    section_edited before kept others (Err x) h n = tt

    pub section_fault_at : (r : Result ℕ EditFault) → IfErr r (λ f. f ≢ Memory → HasSectionFault p.of_module func text f) → (n : ℕ) → IfErr r (λ f. f ≢ Memory → IsFaultAt (state p own certs n) func e f)
    section_fault_at (Ok count) h n = tt
    section_fault_at (Err f) h n = λ differs. subst (λ (x : Edit). IsFaultAt (state p own certs n) func x f) (sym is) (h differs)

    pub section_accepted_at : (r : Result ℕ EditFault) → ((section : Section) → IsShapedSection text p.of_module func section → IsEditAccepted r) → (n : ℕ) (m : Module) (section : Section) → IsReadAt (state p own certs n) func e m section → IsEditAccepted r
    section_accepted_at r only n m section h =
        let at : (p.of_module ≡ m) × IsShapedSection text m func section = subst (λ (x : Edit). IsReadAt (state p own certs n) func x m section) is h in
        only section (subst (λ (x : Module). IsShapedSection text x func section) (sym at.0) at.1)

    pub section_refused_at : (r : Result ℕ EditFault) → ((f : EditFault) → HasSectionFault p.of_module func text f → IsRefusedBy r f) → (n : ℕ) (f : EditFault) → IsFaultAt (state p own certs n) func e f → IsRefusedBy r f
    section_refused_at r only n f h = only f (subst (λ (x : Edit). IsFaultAt (state p own certs n) func x f) is h)

  -- ---- of code

  module _ (code text : Text) (is : IsOfCode p certs func e code text) where
    to_read : (n : ℕ) (m : Module) (section : Section) → IsReadAt (state p own certs n) func e m section → AreRead p.of_module func code text m section
    to_read n m section h = elim is [
      | inl x ↦ subst (λ (y : Text). AreRead p.of_module func code y m section) (sym x.2) (subst (λ (y : Edit). IsReadAt (state p own certs n) func y m section) x.1 h)
      | inr x ↦ subst (λ (y : Edit). IsReadAt (state p own certs n) func y m section) x.1 h
    ]

    of_read : (n : ℕ) (m : Module) (section : Section) → AreRead p.of_module func code text m section → IsReadAt (state p own certs n) func e m section
    of_read n m section h = elim is [
      | inl x ↦ subst (λ (y : Edit). IsReadAt (state p own certs n) func y m section) (sym x.1) (subst (λ (y : Text). AreRead p.of_module func code y m section) x.2 h)
      | inr x ↦ subst (λ (y : Edit). IsReadAt (state p own certs n) func y m section) (sym x.1) h
    ]

    to_fault_put : (n : ℕ) (f : EditFault) → IsFaultAt (state p own certs n) func e f → HasCodeFault p.of_module func code text f
    to_fault_put n f h = elim is [
      | inl x ↦ subst (λ (y : Text). HasCodeFault p.of_module func code y f) (sym x.2) (subst (λ (y : Edit). IsFaultAt (state p own certs n) func y f) x.1 h)
      | inr x ↦ subst (λ (y : Edit). IsFaultAt (state p own certs n) func y f) x.1 h
    ]

    of_fault_put : (n : ℕ) (f : EditFault) → HasCodeFault p.of_module func code text f → IsFaultAt (state p own certs n) func e f
    of_fault_put n f h = elim is [
      | inl x ↦ subst (λ (y : Edit). IsFaultAt (state p own certs n) func y f) (sym x.1) (subst (λ (y : Text). HasCodeFault p.of_module func code y f) x.2 h)
      | inr x ↦ subst (λ (y : Edit). IsFaultAt (state p own certs n) func y f) (sym x.1) h
    ]

    pub code_edited : (q : LaidOut) (others : List Section) (r : Result ℕ EditFault) → IfOk r (λ count. IsBothPut p certs func code text q others count)
        → (n : ℕ) → IfOk r (λ count. IsEditedAt (state p own certs n) func e (state q own others count))
    code_edited q others (Ok count) h n = (
      q.of_module,
      h.of_text.0,
      of_read n q.of_module h.of_text.0 ((h.of_code, h.laid_out.1), h.of_text.1),
      record { of_module = refl; shapes = refl; foreign = refl; laid_out = h.laid_out; sized = h.sized; certs = h.of_text.2.certs_are; rechecked = h.of_text.2.rechecked },
    )
    code_edited q others (Err x) h n = tt

    pub code_fault_at : (r : Result ℕ EditFault) → IfErr r (λ f. f ≢ Memory → HasCodeFault p.of_module func code text f) → (n : ℕ) → IfErr r (λ f. f ≢ Memory → IsFaultAt (state p own certs n) func e f)
    code_fault_at (Ok count) h n = tt
    code_fault_at (Err f) h n = λ differs. of_fault_put n f (h differs)

    pub code_accepted_at : (r : Result ℕ EditFault) → ((m : Module) (section : Section) → AreRead p.of_module func code text m section → IsEditAccepted r)
        → (n : ℕ) (m : Module) (section : Section) → IsReadAt (state p own certs n) func e m section → IsEditAccepted r
    code_accepted_at r only n m section h = only m section (to_read n m section h)

    pub code_refused_at : (r : Result ℕ EditFault) → ((f : EditFault) → HasCodeFault p.of_module func code text f → IsRefusedBy r f) → (n : ℕ) (f : EditFault) → IsFaultAt (state p own certs n) func e f → IsRefusedBy r f
    code_refused_at r only n f h = only f (to_fault_put n f h)

-- ---- the function that is named

-- what the name in an edit stands for
pub named_here : (m same_m : Module) → same_m ≡ m → (e : Edit) (name : Text) → name ≡ name_in e → (found named : Option ℕ) → found ≡ function_named same_m name → found ≡ named → function_named m (name_in e) ≡ named
named_here m same_m same e name is found named number there =
    ap (λ (x : Module). function_named x (name_in e)) (sym same) ∙ ap (function_named same_m) (sym is) ∙ sym number ∙ there

module _ (p : LaidOut) (own : Certs) (certs : List Section) (func : ℕ) (e : Edit) (named : function_named p.of_module (name_in e) ≡ Some func) where
  pub named_edited : (q : LaidOut) (others : List Section) (r : Result ℕ EditFault) → ((n : ℕ) → IfOk r (λ count. IsEditedAt (state p own certs n) func e (state q own others count)))
      → (n : ℕ) → IfOk r (λ count. IsEdited (state p own certs n) e (state q own others count))
  named_edited q others (Ok count) h n = (func, named, h n)
  named_edited q others (Err x) h n = tt

  pub named_fault : (r : Result ℕ EditFault) → ((n : ℕ) → IfErr r (λ f. f ≢ Memory → IsFaultAt (state p own certs n) func e f)) → (n : ℕ) → IfErr r (λ f. f ≢ Memory → IsEditFault (state p own certs n) e f)
  named_fault (Ok count) h n = tt
  named_fault (Err f) h n = λ differs. inr (func, named, h n differs)

  one_name : (other : ℕ) → function_named p.of_module (name_in e) ≡ Some other → other ≡ func
  one_name other is = let same : Some other ≡ Some func = sym is ∙ named in cc

  pub named_accepted : (r : Result ℕ EditFault) → ((n : ℕ) (m : Module) (section : Section) → IsReadAt (state p own certs n) func e m section → IsEditAccepted r) → (n : ℕ) (m : Module) (section : Section) → IsRead (state p own certs n) e m section → IsEditAccepted r
  named_accepted r only n m section h = only n m section (subst (λ (f : ℕ). IsReadAt (state p own certs n) f e m section) (one_name h.0 h.1) h.2)

  pub named_refused : (r : Result ℕ EditFault) → ((n : ℕ) (f : EditFault) → IsFaultAt (state p own certs n) func e f → IsRefusedBy r f) → (n : ℕ) (f : EditFault) → IsEditFault (state p own certs n) e f → IsRefusedBy r f
  named_refused r only n f (inl h) = absurd (neither (sym h.0 ∙ named)) where
    neither : ◌≡◌ {A = Option ℕ} None (Some func) → ⊥
    neither h = absurd cc
  named_refused r only n f (inr h) = only n f (subst (λ (g : ℕ). IsFaultAt (state p own certs n) g e f) (one_name h.0 h.1) h.2)

-- ---- where no function is named

module _ (p : LaidOut) (own : Certs) (certs : List Section) (e : Edit) (none : function_named p.of_module (name_in e) ≡ None) (f : EditFault) (is : f ≡ no_function e) where
  pub none_fault : (n : ℕ) → f ≢ Memory → IsEditFault (state p own certs n) e f
  none_fault n differs = inl (none, sym is)

  some_named : (func : ℕ) → function_named p.of_module (name_in e) ≡ Some func → ⊥
  some_named func h = absurd (let both : ◌≡◌ {A = Option ℕ} None (Some func) = sym none ∙ h in cc)

  pub none_accepted : (n : ℕ) (m : Module) (section : Section) → IsRead (state p own certs n) e m section → f ≢ Memory → ⊥
  none_accepted n m section h differs = some_named h.0 h.1

  pub none_refused : (n : ℕ) (g : EditFault) → IsEditFault (state p own certs n) e g → f ≢ Memory → f ≡ g
  none_refused n g (inl h) differs = is ∙ h.1
  none_refused n g (inr h) differs = absurd (some_named h.0 h.1)
