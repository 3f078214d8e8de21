-- Sets of words that lie below a word.
use Rattle.std.proofs.Common.{◌≡◌, ℕ, zero, suc, ◌+◌, ◌-◌, ◌<◌, ◌≤◌, Bool, true, false, cond, not, ◌&&◌, ◌||◌, nat_lt, Option, Some, refl, ap, sym, ◌∙◌, arith}
use Rattle.std.proofs.lemmas.Bool.{lt-ltb, le-ltb}
use Rattle.std.specs.Prelude.{is_some}
use Rattle.std.specs.List.{find, list_all, range_with_len}
use Rattle.pools.specs.WordSets.{has_word}
use Rattle.pools.specs.declared.word_set.WordSet.{WordSet}
use Rattle.block_rules.specs.Elements.{lie_below}

lie_from : (set : WordSet) (count first n : ℕ) → count ≤ first → list_all (λ w. not (has_word set w) || nat_lt w count) (range_with_len first n) ≡ not (is_some (find (has_word set) (range_with_len first n)))
lie_from set count first zero le = refl
lie_from set count first (suc n) le = rw (le-ltb first count le) (by (has_word set first) (lie_from set count (first + 1) n (omega (arith, le))))
  where
    by : (b : Bool) → list_all (λ w. not (has_word set w) || nat_lt w count) (range_with_len (first + 1) n) ≡ not (is_some (find (has_word set) (range_with_len (first + 1) n))) → ((not b || false) && list_all (λ w. not (has_word set w) || nat_lt w count) (range_with_len (first + 1) n)) ≡ not (is_some (cond b (Some first) (find (has_word set) (range_with_len (first + 1) n))))
    by true more = refl
    by false more = more

held_too : (a b : Bool) → ((not a || true) && b) ≡ b
held_too true b = refl
held_too false b = refl

lie_up_to : (set : WordSet) (count first before n all : ℕ) → first + before ≡ count → all ≡ before + n → list_all (λ w. not (has_word set w) || nat_lt w count) (range_with_len first all) ≡ list_all (λ w. not (has_word set w) || nat_lt w count) (range_with_len count n)
lie_up_to set count first zero n all is e =
    let same : first ≡ count = omega (arith, is) in
    let many : all ≡ n = omega (arith, e) in
    ap (λ k. list_all (λ w. not (has_word set w) || nat_lt w count) (range_with_len k all)) same ∙ ap (λ m. list_all (λ w. not (has_word set w) || nat_lt w count) (range_with_len count m)) many
lie_up_to set count first (suc before) n zero is e = absurd (omega (arith, e))
lie_up_to set count first (suc before) n (suc all) is e =
    rw (lt-ltb first count (omega (arith, is))) (held_too (has_word set first) _ ∙ lie_up_to set count (first + 1) before n all (omega (arith, is)) (omega (arith, e)))

-- a set lies below a word of a cell if none from that one on is of it
pub lies_none : (set : WordSet) (count : ℕ) → count < 64 → not (is_some (find (has_word set) (range_with_len count (64 - count)))) ≡ lie_below count set
lies_none set count lt = sym (lie_from set count count (64 - count) (omega arith)) ∙ sym (lie_up_to set count 0 count (64 - count) 64 (omega arith) (omega (arith, lt)))

pub lies_after : (set : WordSet) (count : ℕ) (found : Option ℕ) (none : Bool) → count < 64 → found ≡ find (has_word set) (range_with_len count (64 - count)) → is_some found ≡ not none → none ≡ lie_below count set
lies_after set count found none lt is other =
    not_not none ∙ (ap (λ b. not b) (sym other) ∙ (ap (λ (o : Option ℕ). not (is_some o)) is ∙ lies_none set count lt))
  where
    not_not : (b : Bool) → b ≡ not (not b)
    not_not true = refl
    not_not false = refl

all_below : (set : WordSet) (count first n : ℕ) → first + n ≤ count → list_all (λ w. not (has_word set w) || nat_lt w count) (range_with_len first n) ≡ true
all_below set count first zero le = refl
all_below set count first (suc n) le =
    rw (lt-ltb first count (omega (arith, le))) (held_too (has_word set first) _ ∙ all_below set count (first + 1) n (omega (arith, le)))

-- each set lies below the end of a cell
pub lies_all : (set : WordSet) (count : ℕ) → 64 ≤ count → lie_below count set ≡ true
lies_all set count le = all_below set count 0 64 (omega (arith, le))
