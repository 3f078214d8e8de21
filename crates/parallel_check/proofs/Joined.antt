-- The ranges of the workers follow one another, from no function to all.
use Rattle.std.proofs.Common.{◌≡◌, ◌<◌, ◌≤◌, ℕ, ◌+◌, ◌*◌, ◌/◌, List, [], ◌++◌, append-nil, append_assoc, arith, subst, sym}
use Rattle.std.proofs.Math.Nat.{div-le_of_le-mul, div-mul-le_self}
use Rattle.std.proofs.lemmas.Nat.{div-mul-add, div_below, le-div, mul-le}
use Rattle.certs.specs.declared.section.Section.{Section}
use Rattle.layout.specs.Layouts.{LaidOut}
use Rattle.block_rules.specs.declared.block_fault.Refusal.{Refusal}
use Rattle.module_check.specs.Refusals.{AreOfFunctions, AreOfRange, NoFunction, Further}
use Rattle.parallel_check.specs.Shares.{AreOfWorker, range_from}

-- before the first worker there is no function
pub none_before : (workers count : ℕ) → 1 ≤ workers → range_from workers count 0 ≡ 0
none_before workers count some =
    let below : 0 * count / workers < 1 = div_below (0 * count) workers 1 (omega arith) (omega (arith, some)) in
    omega (arith, below)

-- a range ends after it begins
pub ordered : (workers count worker : ℕ) → 1 ≤ workers → range_from workers count worker ≤ range_from workers count (worker + 1)
ordered workers count worker some =
    let more : worker * count ≤ (worker + 1) * count = mul-le worker count (worker + 1) count (omega arith) (omega arith) in
    le-div (worker * count / workers) ((worker + 1) * count) workers (omega (arith, some)) (omega (arith, more, div-mul-le_self (worker * count) workers))

-- none is longer than there are functions
pub within : (workers count worker : ℕ) → worker ≤ workers → range_from workers count worker ≤ count
within workers count worker less = div-le_of_le-mul workers (mul-le worker count workers count less (omega arith))

-- after the last worker there are all functions
pub all_after : (workers count : ℕ) → 1 ≤ workers → range_from workers count workers ≡ count
all_after workers count some =
    let turned : count * workers + 0 ≡ workers * count = omega arith in
    subst (λ n. n / workers ≡ count) turned (div-mul-add count workers 0 (omega (arith, some)))

module _ (program : LaidOut) (certs : List Section) where
  -- the refusals of two ranges that follow one another
  joined : (from a b : ℕ) (before further : List Refusal) → AreOfRange program certs from a before → AreOfRange program certs a b further → AreOfRange program certs from b (before ++ further)
  joined from a b before further first NoFunction = subst (AreOfRange program certs from a) (sym (append-nil before)) first
  joined from a b before further first (Further func some more rest here) =
      subst (AreOfRange program certs from (func + 1)) (append_assoc before some more) (Further func (before ++ some) more (joined from a func before some first rest) here)

  -- those of no worker
  pub of_none : (workers count : ℕ) → 1 ≤ workers → AreOfFunctions program certs (range_from workers count 0) []
  of_none workers count some = subst (λ n. AreOfFunctions program certs n []) (sym (none_before workers count some)) NoFunction

  -- those of one worker more
  pub of_next : (workers count worker : ℕ) (before further : List Refusal) → AreOfFunctions program certs (range_from workers count worker) before → AreOfWorker program certs workers count worker further
      → AreOfFunctions program certs (range_from workers count (worker + 1)) (before ++ further)
  of_next workers count worker before further first rest = joined 0 (range_from workers count worker) (range_from workers count (worker + 1)) before further first rest

  -- those of all workers are those of all functions
  pub of_all : (workers count : ℕ) (refusals : List Refusal) → 1 ≤ workers → AreOfFunctions program certs (range_from workers count workers) refusals → AreOfFunctions program certs count refusals
  of_all workers count refusals some are = subst (λ n. AreOfFunctions program certs n refusals) (all_after workers count some) are
