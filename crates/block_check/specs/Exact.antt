-- A block that is certified has no refusal, and a block has one at most.
use Rattle.std.proofs.Common.{◌≡◌, ◌⊎◌, ◌<◌, ℕ, subst, refl, sym, ap, ◌∙◌, Option, Some, None, List, Result, Ok, Err, MatchResult, IsOkUnless, inl, inr, slice_get}
use Rattle.std.proofs.lemmas.Bool.{cases_order}
use Rattle.ir_ast.specs.declared.function.Function.{Function}
use Rattle.certs.specs.declared.section.Section.{Section}
use Rattle.layout.specs.Layouts.{LaidOut}
use Rattle.block_rules.specs.declared.block_fault.BlockFault.{BlockFault}
use Rattle.block_rules.specs.declared.block_fault.BlockFault.TheVariants.{Refused, Memory}
use Rattle.block_rules.specs.declared.block_fault.Breach.{Breach}
use Rattle.block_rules.specs.declared.block_fault.Refusal.{Refusal}
use Rattle.block_rules.specs.Certified.{context_of, IsCertifiedIn, BreaksIn, BlockCertified, FirstRefusal, IfRefused}
use Rattle.block_rules.specs.Functions.{AreBlocksCertified, IsFirstInFunction, IsFunctionFault}
use Rattle.block_check.specs.Follows.{never_both, one_break}

not_both : (program : LaidOut) (certs : List Section) (section : Option Section) (f : Option Function) (b place : ℕ) (broken : Breach) → IsCertifiedIn program certs section f b → BreaksIn program certs section f b place broken → ⊥
not_both program certs section None b place broken h k = h
not_both program certs section (Some f) b place broken h k =
    never_both (context_of program certs f section) b place broken h k

one_place : (program : LaidOut) (certs : List Section) (section : Option Section) (f : Option Function) (b p q : ℕ) (r t : Breach) → BreaksIn program certs section f b p r → BreaksIn program certs section f b q t → (p ≡ q) × (r ≡ t)
one_place program certs section None b p q r t h k = absurd h
one_place program certs section (Some f) b p q r t h k =
    one_break (context_of program certs f section) b p q r t h k

same_refusal : (a b : Refusal) → a.func ≡ b.func → a.block ≡ b.block → a.instr ≡ b.instr → a.rule ≡ b.rule → a.detail ≡ b.detail → a ≡ b
same_refusal a b func block instr rule detail =
    ap (λ x. record a { func = x }) func
    ∙ ap (λ x. record a { func = b.func; block = x }) block
    ∙ ap (λ x. record a { func = b.func; block = b.block; instr = x }) instr
    ∙ ap (λ x. record a { func = b.func; block = b.block; instr = b.instr; rule = x }) rule
    ∙ ap (λ x. record a { func = b.func; block = b.block; instr = b.instr; rule = b.rule; detail = x }) detail

-- a certified block has no refusal
pub not_refused : (program : LaidOut) (certs : List Section) (func b : ℕ) (refusal : Refusal) → BlockCertified program certs func b → FirstRefusal program certs func b refusal → ⊥
not_refused program certs func b refusal h k =
    not_both program certs (slice_get certs func) (slice_get program.of_module.functions func) b refusal.instr (record { rule = refusal.rule; detail = refusal.detail }) h k.breaks

-- the first refusal of a block is one
pub one_refusal : (program : LaidOut) (certs : List Section) (func b : ℕ) (r t : Refusal) → FirstRefusal program certs func b r → FirstRefusal program certs func b t → r ≡ t
one_refusal program certs func b r t h k =
    let e = one_place program certs (slice_get certs func) (slice_get program.of_module.functions func) b r.instr t.instr (record { rule = r.rule; detail = r.detail }) (record { rule = t.rule; detail = t.detail }) h.breaks k.breaks in
    same_refusal r t (h.of_func ∙ sym k.of_func) (h.of_block ∙ sym k.of_block) e.0 (ap (λ x. x.rule) e.1) (ap (λ x. x.detail) e.1)

-- of a certified block an exact answer is yes, if memory was enough
pub certified_only : {T : Type 0} (program : LaidOut) (certs : List Section) (func b : ℕ) (answer : Result T BlockFault) → MatchResult answer (λ _. BlockCertified program certs func b) (λ fault. IfRefused fault (FirstRefusal program certs func b)) → BlockCertified program certs func b → IsOkUnless answer Memory
certified_only program certs func b (Ok x) h k = tt
certified_only program certs func b (Err (Refused refusal)) h k = absurd (not_refused program certs func b refusal k h)
certified_only program certs func b (Err Memory) h k = refl

-- and of a block that is refused it is its first refusal
pub refused_only : {T : Type 0} (program : LaidOut) (certs : List Section) (func b : ℕ) (answer : Result T BlockFault) → MatchResult answer (λ _. BlockCertified program certs func b) (λ fault. IfRefused fault (FirstRefusal program certs func b)) → (refusal : Refusal) → FirstRefusal program certs func b refusal → (answer ≡ Err (Refused refusal)) ⊎ (answer ≡ Err Memory)
refused_only program certs func b (Ok x) h refusal k = absurd (not_refused program certs func b refusal h k)
refused_only program certs func b (Err (Refused other)) h refusal k = inl (ap (λ x. Err (Refused x)) (one_refusal program certs func b other refusal h k))
refused_only program certs func b (Err Memory) h refusal k = inr refl

-- ---- all blocks of a function

-- where each block is certified none is refused
function_not_refused : (program : LaidOut) (certs : List Section) (func count : ℕ) (refusal : Refusal) → AreBlocksCertified program certs func count → IsFirstInFunction program certs func count refusal → ⊥
function_not_refused program certs func count refusal h k = not_refused program certs func refusal.block refusal (h refusal.block k.within) k.refused

-- the first refusal of a function is one
function_one_refusal : (program : LaidOut) (certs : List Section) (func count : ℕ) (r t : Refusal) → IsFirstInFunction program certs func count r → IsFirstInFunction program certs func count t → r ≡ t
function_one_refusal program certs func count r t h k = pick (cases_order r.block t.block)
  where
    pick : (r.block ≡ t.block) ⊎ ((r.block < t.block) ⊎ (t.block < r.block)) → r ≡ t
    pick (inl e) = one_refusal program certs func t.block r t (subst (λ b. FirstRefusal program certs func b r) e h.refused) k.refused
    pick (inr (inl lt)) = absurd (not_refused program certs func r.block r (k.before r.block lt) h.refused)
    pick (inr (inr lt)) = absurd (not_refused program certs func t.block t (h.before t.block lt) k.refused)

-- of a function whose blocks are certified an exact answer is yes, if memory was enough
pub function_certified_only : {T : Type 0} (program : LaidOut) (certs : List Section) (func count : ℕ) (answer : Result T BlockFault) → MatchResult answer (λ _. AreBlocksCertified program certs func count) (IsFunctionFault program certs func count) → AreBlocksCertified program certs func count → IsOkUnless answer Memory
function_certified_only program certs func count (Ok x) h k = tt
function_certified_only program certs func count (Err (Refused refusal)) h k = absurd (function_not_refused program certs func count refusal k h)
function_certified_only program certs func count (Err Memory) h k = refl

-- and of one that is refused it is its first refusal
pub function_refused_only : {T : Type 0} (program : LaidOut) (certs : List Section) (func count : ℕ) (answer : Result T BlockFault) → MatchResult answer (λ _. AreBlocksCertified program certs func count) (IsFunctionFault program certs func count) → (refusal : Refusal) → IsFirstInFunction program certs func count refusal → (answer ≡ Err (Refused refusal)) ⊎ (answer ≡ Err Memory)
function_refused_only program certs func count (Ok x) h refusal k = absurd (function_not_refused program certs func count refusal h k)
function_refused_only program certs func count (Err (Refused other)) h refusal k = inl (ap (λ x. Err (Refused x)) (function_one_refusal program certs func count other refusal h k))
function_refused_only program certs func count (Err Memory) h refusal k = inr refl
