-- The first fault of all workers is the first fault of the module.
use Rattle.std.proofs.Common.{◌≡◌, ◌⊎◌, ◌<◌, ◌≤◌, ℕ, zero, suc, ◌+◌, ◌%◌, nat_lt, Bool, true, false, List, [], ◌∷◌, length, fold, slice_index_or, Option, Some, None, MatchOption, if◌then◌else◌, arith, inl, inr, refl, subst, ltb-true, ltb-false}
use Rattle.std.proofs.lemmas.Bool.{cases_lt}
use Rattle.std.proofs.lemmas.Nat.{mod_below}
use Rattle.certs.specs.declared.section.Section.{Section}
use Rattle.layout.specs.Layouts.{LaidOut}
use Rattle.block_rules.specs.Functions.{IsFunctionCertified}
use Rattle.block_rules.specs.declared.block_fault.BlockFault.{BlockFault}
use Rattle.block_rules.specs.declared.block_fault.BlockFault.TheVariants.{Refused, Memory}
use Rattle.block_rules.specs.declared.block_fault.Refusal.{Refusal}
use Rattle.module_check.specs.Accepted.{IsModuleCertified, IsModuleFault}
use Rattle.parallel_check.specs.Shares.{IsFirstFault, IsFirstInShare, IsOf, IsOfFirst, IsShareCertified, earlier}

module _ (program : LaidOut) (certs : List Section) (count : ℕ) where
  module _ (One Other Both : ℕ → Type 0) (divided : (func : ℕ) → Both func → One func ⊎ Other func) where
    -- where both shares are certified up to some function, so are the two together
    both_certified : (n : ℕ) → IsShareCertified program certs One n → IsShareCertified program certs Other n → IsShareCertified program certs Both n
    both_certified n one other func before of_both = pick (divided func of_both)
      where
        pick : One func ⊎ Other func → IsFunctionCertified program certs func
        pick (inl mine) = one func before mine
        pick (inr theirs) = other func before theirs

    -- what is certified up to some function is so up to each one before it
    less : (Share : ℕ → Type 0) (n l : ℕ) → l ≤ n → IsShareCertified program certs Share n → IsShareCertified program certs Share l
    less Share n l within all func before mine = all func (omega (arith, before, within)) mine

    -- a refusal that is the first one of its share, where the other share is certified before it
    still_first : (Share : ℕ → Type 0) (refusal : Refusal) → IsFirstInShare program certs Share count refusal → IsShareCertified program certs Both refusal.func → IsFirstInShare program certs Both count refusal
    still_first Share refusal first before = record { within = first.within; refused = first.refused; before = before }

    -- of the first refusals of both shares the earlier one is first in the two together
    first_of_two : (one other : Refusal) → IsFirstInShare program certs One count one → IsFirstInShare program certs Other count other
        → IsFirstFault program certs Both count (earlier (Some (Refused one)) (Some (Refused other)))
    first_of_two one other first second = pick (nat_lt other.func one.func) refl
      where
        pick : (is_less : Bool) → nat_lt other.func one.func ≡ is_less → IsFirstInShare program certs Both count (if is_less then other else one)
        pick true is = still_first Other other second (both_certified other.func (less One one.func other.func (omega (arith, ltb-true other.func one.func is)) first.before) second.before)
        pick false is = still_first One one first (both_certified one.func first.before (less Other other.func one.func (omega (arith, ltb-false other.func one.func is)) second.before))

    -- the earlier of the first faults of both shares is the first one of the two together
    merged : (one other : Option BlockFault) → IsFirstFault program certs One count one → IsFirstFault program certs Other count other → IsFirstFault program certs Both count (earlier one other)
    merged None None one other = both_certified count one other
    merged None (Some (Refused refusal)) one first = still_first Other refusal first (both_certified refusal.func (less One count refusal.func (omega (arith, first.within)) one) first.before)
    merged None (Some Memory) one other = tt
    merged (Some (Refused refusal)) None first other = still_first One refusal first (both_certified refusal.func first.before (less Other count refusal.func (omega (arith, first.within)) other))
    merged (Some Memory) None one other = tt
    merged (Some (Refused one)) (Some (Refused other)) first second = first_of_two one other first second
    merged (Some (Refused one)) (Some Memory) first second = tt
    merged (Some Memory) (Some other) first second = tt

  -- of one worker more
  divided : (workers some func : ℕ) → IsOfFirst workers (some + 1) func → IsOfFirst workers some func ⊎ IsOf workers some func
  divided workers some func within = pick (cases_lt (func % workers) some)
    where
      pick : (func % workers < some) ⊎ (some ≤ func % workers) → IsOfFirst workers some func ⊎ IsOf workers some func
      pick (inl before) = inl before
      pick (inr last) = inr (omega (arith, within, last))

  -- the first of the faults of some workers and of those after them
  folded : (workers some all : ℕ) (first : Option BlockFault) (faults : List (Option BlockFault)) → some + length faults ≡ all → IsFirstFault program certs (IsOfFirst workers some) count first
      → ((i : ℕ) (d : Option BlockFault) → i < length faults → IsFirstFault program certs (IsOf workers (some + i)) count (slice_index_or faults i d)) → IsFirstFault program certs (IsOfFirst workers all) count (fold earlier first faults)
  folded workers some all first [] as_many so_far each = subst (λ n. IsFirstFault program certs (IsOfFirst workers n) count first) (omega (arith, as_many)) so_far
  folded workers some all first (fault ∷ faults) as_many so_far each =
      let here : IsFirstFault program certs (IsOf workers some) count fault = subst (λ n. IsFirstFault program certs (IsOf workers n) count fault) (omega arith) (each zero fault (omega arith)) in
      let next = merged (IsOfFirst workers some) (IsOf workers some) (IsOfFirst workers (some + 1)) (divided workers some) first fault so_far here in
      folded workers (some + 1) all (earlier first fault) faults (omega (arith, as_many)) next
      (λ i d less. subst (λ n. IsFirstFault program certs (IsOf workers n) count (slice_index_or faults i d)) (omega arith) (each (suc i) d (omega (arith, less))))

  -- before the first worker there is no function
  none_first : (workers : ℕ) → IsFirstFault program certs (IsOfFirst workers 0) count None
  none_first workers func before of_none = absurd (omega (arith, of_none))

  -- all workers have all functions
  all_have_all : (workers : ℕ) (fault : Option BlockFault) → 1 ≤ workers → IsFirstFault program certs (IsOfFirst workers workers) count fault → MatchOption fault (IsModuleCertified program certs count) (IsModuleFault program certs count)
  all_have_all workers None some all = λ func before. all func before (mod_below func workers (omega (arith, some)))
  all_have_all workers (Some (Refused refusal)) some first =
      record { within = first.within; refused = first.refused; before = λ func before. first.before func before (mod_below func workers (omega (arith, some))) }
  all_have_all workers (Some Memory) some first = tt

  -- the first of the faults of all workers is the first in the module
  pub first_in_module : (workers : ℕ) (faults : List (Option BlockFault)) → 1 ≤ workers → length faults ≡ workers → ((i : ℕ) (d : Option BlockFault) → i < workers → IsFirstFault program certs (IsOf workers i) count (slice_index_or faults i d))
      → MatchOption (fold earlier None faults) (IsModuleCertified program certs count) (IsModuleFault program certs count)
  first_in_module workers faults some as_many each =
      all_have_all workers (fold earlier None faults) some (folded workers 0 workers None faults (omega (arith, as_many)) (none_first workers)
      (λ i d less. subst (λ n. IsFirstFault program certs (IsOf workers n) count (slice_index_or faults i d)) (omega arith) (each i d (omega (arith, less, as_many)))))
