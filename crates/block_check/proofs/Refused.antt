-- A block where a rule is broken is refused, and one block more of a function is certified.
use Rattle.std.proofs.Common.{◌≡◌, ◌<◌, ◌+◌, ◌⊎◌, inl, inr, ℕ, List, refl, sym, subst, slice_get, arith}
use Rattle.std.proofs.lemmas.Bool.{cases_order}
use Rattle.certs.specs.declared.section.Section.{Section}
use Rattle.layout.specs.Layouts.{LaidOut}
use Rattle.block_rules.specs.declared.block_fault.Breach.{Breach}
use Rattle.block_rules.specs.Certified.{BreaksAt, BreaksIn, BlockCertified, FirstRefusal}
use Rattle.block_rules.specs.Functions.{AreBlocksCertified}
use Rattle.block_check.specs.declared.under_check.FunctionUnderCheck.{FunctionUnderCheck}
use Rattle.block_check.specs.FunctionUnderCheck.{seen, IsReady}

-- what a walk found of a block holds of the same block by another name
pub found_of : (w s : FunctionUnderCheck) (wb b : ℕ) (place : ℕ) (broken : Breach) → w ≡ s → wb ≡ b → BreaksAt (seen w) wb place broken → BreaksAt (seen s) b place broken
found_of w s wb b place broken e k h = subst (λ n. BreaksAt (seen s) n place broken) k (subst (λ x. BreaksAt (seen x) wb place broken) e h)

-- the first place of a block where a rule is broken is its refusal
pub refused_at : (s : FunctionUnderCheck) (b place : ℕ) (broken : Breach) → IsReady s → BreaksAt (seen s) b place broken
    → FirstRefusal s.context.program.now s.context.certs.now.sections s.func b (record { func = s.func; block = b; instr = place; rule = broken.rule; detail = broken.detail })
refused_at s b place broken ready h =
    let certs = s.context.certs.now.sections in
    let section = slice_get certs s.func in
    let here = subst (λ slots. BreaksAt (record { program = s.context.program.now; certs = certs; function = s.context.function.now; slots = slots; section = section }) b place broken) ready.slots h in
    record { of_func = refl; of_block = refl; breaks = subst (λ f. BreaksIn s.context.program.now certs section f b place broken) (sym ready.there) here }

-- one block more
pub one_more : (program : LaidOut) (certs : List Section) (func count : ℕ) → AreBlocksCertified program certs func count → BlockCertified program certs func count → AreBlocksCertified program certs func (count + 1)
one_more program certs func count before last block lt = pick (cases_order block count)
  where
    pick : (block ≡ count) ⊎ ((block < count) ⊎ (count < block)) → BlockCertified program certs func block
    pick (inl e) = subst (λ b. BlockCertified program certs func b) (sym e) last
    pick (inr (inl below)) = before block below
    pick (inr (inr above)) = absurd (omega (arith, lt, above))
