-- The first of the refusals is the verdict of the check.
use Rattle.std.proofs.Common.{◌≡◌, ◌<◌, ◌+◌, ◌⊎◌, ℕ, List, [], ◌∷◌, ◌++◌, slice_get, MatchOption, arith, subst, sym, inl, inr}
use Rattle.std.proofs.lemmas.Bool.{cases_order}
use Rattle.certs.specs.declared.section.Section.{Section}
use Rattle.layout.specs.Layouts.{LaidOut}
use Rattle.block_rules.specs.Certified.{BlockCertified, FirstRefusal}
use Rattle.block_rules.specs.Functions.{AreBlocksCertified, IsFunctionCertified, IsFirstInFunction, blocks_in}
use Rattle.block_rules.specs.declared.block_fault.Refusal.{Refusal}
use Rattle.module_check.specs.Accepted.{IsModuleCertified, IsFirstInModule}
use Rattle.block_check.specs.RefusedBlocks.{AreOfBlocks, NoBlock, Certified, Refused}
use Rattle.module_check.specs.Refusals.{AreOfFunctions, NoFunction, Further}

-- what holds below a number, and at it, holds below the next one
one_more : (P : ℕ → Type 0) (n : ℕ) → ((k : ℕ) → k < n → P k) → P n → (k : ℕ) → k < n + 1 → P k
one_more P n below here k lt = pick (cases_order k n)
  where
    pick : (k ≡ n) ⊎ ((k < n) ⊎ (n < k)) → P k
    pick (inl e) = subst P (sym e) here
    pick (inr (inl less)) = below k less
    pick (inr (inr more)) = absurd (omega (arith, lt, more))

module _ (program : LaidOut) (certs : List Section) where
  -- ---- in a function

  -- the first of the refusals is that of the first blocks; where there is none, they are certified
  abbrev IsFirst : (func count : ℕ) → List Refusal → Type 0
  IsFirst func count refusals = MatchOption (slice_get refusals 0) (AreBlocksCertified program certs func count) (IsFirstInFunction program certs func count)

  -- the first refusal of some blocks is that of one block more
  wider : (func block : ℕ) (refusal : Refusal) → IsFirstInFunction program certs func block refusal → IsFirstInFunction program certs func (block + 1) refusal
  wider func block refusal h = record { of_function = h.of_function; within = omega (arith, h.within); refused = h.refused; before = h.before }

  add_certified : (func block : ℕ) (refusals : List Refusal) → IsFirst func block refusals → BlockCertified program certs func block → IsFirst func (block + 1) refusals
  add_certified func block [] all here = one_more (λ b. BlockCertified program certs func b) block all here
  add_certified func block (first ∷ more) h here = wider func block first h

  add_refused : (func block : ℕ) (refusals : List Refusal) (refusal : Refusal) → IsFirst func block refusals → FirstRefusal program certs func block refusal → IsFirst func (block + 1) (refusals ++ refusal ∷ [])
  add_refused func block [] refusal all h = record {
    of_function = h.of_func;
    within = omega (arith, h.of_block);
    refused = subst (λ b. FirstRefusal program certs func b refusal) (sym h.of_block) h;
    before = subst (λ b. AreBlocksCertified program certs func b) (sym h.of_block) all;
  }
  add_refused func block (first ∷ more) refusal h k = wider func block first h

  first_in_function : (func count : ℕ) (refusals : List Refusal) → AreOfBlocks program certs func count refusals → IsFirst func count refusals
  first_in_function func count refusals NoBlock = λ b lt. absurd (omega (arith, lt))
  first_in_function func count refusals (Certified block before h here) = add_certified func block before (first_in_function func block before h) here
  first_in_function func count refusals (Refused block before refusal h here) = add_refused func block before refusal (first_in_function func block before h) here

  -- ---- in a module

  -- the first of the refusals is that of the first functions; where there is none, they are certified
  abbrev IsFirstOfAll : (count : ℕ) → List Refusal → Type 0
  IsFirstOfAll count refusals = MatchOption (slice_get refusals 0) (IsModuleCertified program certs count) (IsFirstInModule program certs count)

  add_function : (func : ℕ) (before further : List Refusal) → IsFirstOfAll func before → IsFirst func (blocks_in program func) further → IsFirstOfAll (func + 1) (before ++ further)
  add_function func [] [] all here = one_more (λ f. IsFunctionCertified program certs f) func all here
  add_function func [] (first ∷ more) all h = record {
    within = omega (arith, h.of_function);
    refused = subst (λ f. IsFirstInFunction program certs f (blocks_in program f) first) (sym h.of_function) h;
    before = subst (λ f. IsModuleCertified program certs f) (sym h.of_function) all;
  }
  add_function func (first ∷ more) further h k = record { within = omega (arith, h.within); refused = h.refused; before = h.before }

  pub first_in_module : (count : ℕ) (refusals : List Refusal) → AreOfFunctions program certs count refusals → IsFirstOfAll count refusals
  first_in_module count refusals NoFunction = λ f lt. absurd (omega (arith, lt))
  first_in_module count refusals (Further func before further h here) = add_function func before further (first_in_module func before h) (first_in_function func (blocks_in program func) further here)
