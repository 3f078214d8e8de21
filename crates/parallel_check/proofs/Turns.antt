-- The numbers with one remainder, one after the other.
use Rattle.std.proofs.Common.{◌≡◌, ◌⊎◌, ◌<◌, ◌≤◌, ◌∙◌, ℕ, ◌+◌, ◌*◌, ◌/◌, ◌%◌, List, arith, inl, inr, ap, subst, sym}
use Rattle.std.proofs.Math.Nat.{add-mod_right, mod-eq_of_lt}
use Rattle.std.proofs.lemmas.Bool.{cases_order}
use Rattle.std.proofs.lemmas.Nat.{div-add-mod', row_fits}
use Rattle.certs.specs.declared.section.Section.{Section}
use Rattle.layout.specs.Layouts.{LaidOut}
use Rattle.block_rules.specs.Functions.{IsFunctionCertified}
use Rattle.parallel_check.specs.Shares.{IsOf, IsShareCertified}

-- the quotient and the remainder of a number make it
made : (n w r : ℕ) → n % w ≡ r → n ≡ n / w * w + r
made n w r is = sym (div-add-mod' n w) ∙ ap (λ k. n / w * w + k) is

-- of two numbers with one remainder, the one with the lesser quotient is less by `w` at least
apart : (w r m n : ℕ) → m % w ≡ r → n % w ≡ r → m / w < n / w → m + w ≤ n
apart w r m n at_m at_n less = omega (arith, made m w r at_m, made n w r at_n, row_fits (m / w) w (n / w) w less (omega arith))

-- a number that has the remainder of another, and is below the next such one, is not after it
not_after : (w r m n : ℕ) → 0 < w → m % w ≡ r → n % w ≡ r → m < n + w → (m < n) ⊎ (m ≡ n)
not_after w r m n some at_m at_n near = pick (cases_order (m / w) (n / w))
  where
    pick : (m / w ≡ n / w) ⊎ ((m / w < n / w) ⊎ (n / w < m / w)) → (m < n) ⊎ (m ≡ n)
    pick (inl same) = inr (made m w r at_m ∙ ap (λ q. q * w + r) same ∙ sym (made n w r at_n))
    pick (inr (inl less)) = inl (omega (arith, some, apart w r m n at_m at_n less))
    pick (inr (inr more)) = absurd (omega (arith, near, apart w r n m at_n at_m more))

-- a worker's first function is the one with its number
pub is_first : (workers worker : ℕ) → worker < workers → IsOf workers worker worker
is_first workers worker less = mod-eq_of_lt less

-- and of each one the next one is `workers` after it
pub is_next : (workers worker number : ℕ) → IsOf workers worker number → IsOf workers worker (number + workers)
is_next workers worker number mine = add-mod_right number workers ∙ mine

-- before a worker's first function there is none of its
pub none_yet : (program : LaidOut) (certs : List Section) (workers worker : ℕ) → worker < workers → IsShareCertified program certs (IsOf workers worker) worker
none_yet program certs workers worker less func before mine =
    let small : func % workers ≡ func = mod-eq_of_lt (omega (arith, before, less)) in
    absurd (omega (arith, before, small, mine))

-- a worker's functions up to one of them are certified, and so are those before the next one
pub one_more : (program : LaidOut) (certs : List Section) (workers worker number : ℕ) → worker < workers → IsOf workers worker number → IsShareCertified program certs (IsOf workers worker) number → IsFunctionCertified program certs number
    → IsShareCertified program certs (IsOf workers worker) (number + workers)
one_more program certs workers worker number some mine before here func near of_worker = pick (not_after workers worker func number (omega (arith, some)) of_worker mine near)
  where
    pick : (func < number) ⊎ (func ≡ number) → IsFunctionCertified program certs func
    pick (inl earlier) = before func earlier of_worker
    pick (inr same) = subst (λ n. IsFunctionCertified program certs n) (sym same) here

-- a share that is certified up to some function is so up to each one before it
pub up_to : (program : LaidOut) (certs : List Section) (Share : ℕ → Type 0) (count number : ℕ) → count ≤ number → IsShareCertified program certs Share number → IsShareCertified program certs Share count
up_to program certs Share count number within all func before mine = all func (omega (arith, before, within)) mine
