-- What is known of claims in order, and of claims that are compared run by run.
use Rattle.std.proofs.Common.{◌≡◌, ℕ, zero, suc, ◌+◌, ◌-◌, ◌<◌, ◌≤◌, Bool, true, false, not, ◌&&◌, ◌||◌, List, [], ◌∷◌, ◌++◌, length, take, drop, Some, None, slice_get, refl, ap, sym, ◌∙◌, arith, append_assoc, subst, get_or, length-append}
use Rattle.std.specs.Prelude.{Option}
use Rattle.std.specs.List.{list_all, list_any}
use Rattle.std.proofs.lemmas.List.{take-append-drop, length-take-le, take_all, take_at}
use Rattle.std.proofs.lemmas.Bool.Decides.{nat_tests}
use Rattle.lemmas.specs.Bools.{and_parts, and_true}
use Rattle.lemmas.specs.Numbers.{lt_true, lt_yes, lt_false, test_no}
use Rattle.certs.specs.Fits.{lists, is_listed, lists_once, lists_named}
use Rattle.certs.specs.Runs.{listed_in, lists_this, comes_before, is_run, list_others, some_list_named}
use Rattle.certs.specs.declared.section.Claim.{Claim}
use Rattle.certs.specs.declared.section.Claim.TheVariants as claim
use Rattle.certs.specs.declared.runs.Listed.{Listed}
use Rattle.certs.specs.declared.runs.Listed.TheVariants as listed

any_append : (test : Claim → Bool) (xs ys : List Claim) → list_any test (xs ++ ys) ≡ (list_any test xs || list_any test ys)
any_append test [] ys = refl
any_append test (x ∷ xs) ys = ap (λ b. test x || b) (any_append test xs ys) ∙ moved (test x) (list_any test xs) (list_any test ys)
  where
    moved : (a b c : Bool) → (a || (b || c)) ≡ ((a || b) || c)
    moved true b c = refl
    moved false b c = refl

-- ---- the order

-- what comes before something is not the same
before_other : (a : Claim) (x : Listed) → comes_before (listed_in a) x ≡ true → lists_this x a ≡ false
before_other (claim.Value v f) (listed.Value w) e = let less = lt_true v w e in test_no v w (λ same. absurd (omega (arith, less, same)))
before_other (claim.Value v f) (listed.Slot w) e = refl
before_other (claim.Slot v n h) (listed.Value w) e = refl
before_other (claim.Slot v n h) (listed.Slot w) e = let less = lt_true v w e in test_no v w (λ same. absurd (omega (arith, less, same)))

after_other : (a : Claim) (x : Listed) → comes_before x (listed_in a) ≡ true → lists_this x a ≡ false
after_other (claim.Value v f) (listed.Value w) e = let less = lt_true w v e in test_no v w (λ same. absurd (omega (arith, less, same)))
after_other (claim.Value v f) (listed.Slot w) e = refl
after_other (claim.Slot v n h) (listed.Value w) e = refl
after_other (claim.Slot v n h) (listed.Slot w) e = let less = lt_true w v e in test_no v w (λ same. absurd (omega (arith, less, same)))

in_order : (x y z : Listed) → comes_before x y ≡ true → comes_before y z ≡ true → comes_before x z ≡ true
in_order (listed.Value a) (listed.Value b) (listed.Value c) e h = let p = lt_true a b e in let q = lt_true b c h in lt_yes a c (omega (arith, p, q))
in_order (listed.Value a) (listed.Value b) (listed.Slot c) e h = refl
in_order (listed.Value a) (listed.Slot b) (listed.Value c) e h = absurd cc
in_order (listed.Value a) (listed.Slot b) (listed.Slot c) e h = refl
in_order (listed.Slot a) (listed.Value b) z e h = absurd cc
in_order (listed.Slot a) (listed.Slot b) (listed.Value c) e h = absurd cc
in_order (listed.Slot a) (listed.Slot b) (listed.Slot c) e h = let p = lt_true a b e in let q = lt_true b c h in lt_yes a c (omega (arith, p, q))

-- of two different ones, one comes before the other
one_before : (a : Claim) (x : Listed) → comes_before (listed_in a) x ≡ false → lists_this x a ≡ false → comes_before x (listed_in a) ≡ true
one_before (claim.Value v f) (listed.Value w) e h = let le = lt_false v w e in lt_yes w v (grind (arith, nat_tests, le, h))
one_before (claim.Value v f) (listed.Slot w) e h = absurd cc
one_before (claim.Slot v n k) (listed.Value w) e h = refl
one_before (claim.Slot v n k) (listed.Slot w) e h = let le = lt_false v w e in lt_yes w v (grind (arith, nat_tests, le, h))

abbrev before_all : Listed → List Claim → Bool
before_all x claims = list_all (λ other. comes_before x (listed_in other)) claims

all_after : (x y : Listed) (claims : List Claim) → comes_before x y ≡ true → before_all y claims ≡ true → before_all x claims ≡ true
all_after x y [] e h = refl
all_after x y (c ∷ cs) e h =
    let p = and_parts (comes_before y (listed_in c)) (before_all y cs) h in
    and_true (comes_before x (listed_in c)) (before_all x cs) (in_order x y (listed_in c) e p.0) (all_after x y cs e p.1)

-- what comes before all of them is listed by none
none_after : (x : Listed) (claims : List Claim) → before_all x claims ≡ true → list_any (lists_this x) claims ≡ false
none_after x [] h = refl
none_after x (c ∷ cs) h =
    let p = and_parts (comes_before x (listed_in c)) (before_all x cs) h in
    rw (after_other c x p.0) (none_after x cs p.1)

-- ---- a run

run_head : (c : Claim) (cs : List Claim) → is_run (c ∷ cs) ≡ true → before_all (listed_in c) cs ≡ true
run_head c cs h = (and_parts (before_all (listed_in c) cs) (is_run cs) h).0

run_rest : (c : Claim) (cs : List Claim) → is_run (c ∷ cs) ≡ true → is_run cs ≡ true
run_rest c cs h = (and_parts (before_all (listed_in c) cs) (is_run cs) h).1

before_middle : (x : Listed) (front after : List Claim) (m : Claim) → before_all x (front ++ m ∷ after) ≡ true → comes_before x (listed_in m) ≡ true
before_middle x [] after m h = (and_parts (comes_before x (listed_in m)) (before_all x after) h).0
before_middle x (c ∷ front) after m h = before_middle x front after m ((and_parts (comes_before x (listed_in c)) (before_all x (front ++ m ∷ after)) h).1)

before_front : (x : Listed) (front more : List Claim) → before_all x (front ++ more) ≡ true → before_all x front ≡ true
before_front x [] more h = refl
before_front x (c ∷ front) more h =
    let p = and_parts (comes_before x (listed_in c)) (before_all x (front ++ more)) h in
    and_true (comes_before x (listed_in c)) (before_all x front) p.0 (before_front x front more p.1)

run_front : (front more : List Claim) → is_run (front ++ more) ≡ true → is_run front ≡ true
run_front [] more h = refl
run_front (c ∷ front) more h = and_true (before_all (listed_in c) front) (is_run front) (before_front (listed_in c) front more (run_head c (front ++ more) h)) (run_front front more (run_rest c (front ++ more) h))

-- past a claim that comes before what is looked for
listed_after : (x : Listed) (front after : List Claim) (m : Claim) → is_run (front ++ m ∷ after) ≡ true → comes_before (listed_in m) x ≡ true
    → (is_run after ≡ true) × (list_any (lists_this x) (front ++ m ∷ after) ≡ list_any (lists_this x) after)
listed_after x [] after m h e = (run_rest m after h, rw (before_other m x e) refl)
listed_after x (c ∷ front) after m h e =
    let first = before_middle (listed_in c) front after m (run_head c (front ++ m ∷ after) h) in
    let more = listed_after x front after m (run_rest c (front ++ m ∷ after) h) e in
    (more.0, rw (before_other c x (in_order (listed_in c) (listed_in m) x first e)) more.1)

-- before a claim that comes after it
listed_before : (x : Listed) (front after : List Claim) (m : Claim) → is_run (front ++ m ∷ after) ≡ true → comes_before (listed_in m) x ≡ false → lists_this x m ≡ false
    → list_any (lists_this x) (front ++ m ∷ after) ≡ list_any (lists_this x) front
listed_before x [] after m h e other =
    let first : comes_before x (listed_in m) ≡ true = one_before m x e other in
    rw (after_other m x first) (none_after x after (all_after x (listed_in m) after first (run_head m after h)))
listed_before x (c ∷ front) after m h e other = ap (λ b. lists_this x c || b) (listed_before x front after m (run_rest c (front ++ m ∷ after) h) e other)

module _ (x : Listed) (run rest front back after : List Claim) (m : Claim) (at : ℕ) (before : front ≡ take at rest) (behind : back ≡ drop at rest) (parts : back ≡ m ∷ after) where
  whole : rest ≡ front ++ m ∷ after
  whole = sym (take-append-drop at rest) ∙ ap (λ l. l ++ drop at rest) (sym before) ∙ ap (λ l. front ++ l) (sym behind ∙ parts)

  pub past_middle : is_run rest ≡ true → list_any (lists_this x) run ≡ list_any (lists_this x) rest → comes_before (listed_in m) x ≡ true → (is_run after ≡ true) × (list_any (lists_this x) run ≡ list_any (lists_this x) after)
  past_middle h same e = let so = listed_after x front after m (subst (λ l. is_run l ≡ true) whole h) e in (so.0, same ∙ ap (λ l. list_any (lists_this x) l) whole ∙ so.1)

  pub before_the_middle : is_run rest ≡ true → list_any (lists_this x) run ≡ list_any (lists_this x) rest → comes_before (listed_in m) x ≡ false → lists_this x m ≡ false → (is_run front ≡ true) × (list_any (lists_this x) run ≡ list_any (lists_this x) front)
  before_the_middle h same e other =
      let ordered : is_run (front ++ m ∷ after) ≡ true = subst (λ l. is_run l ≡ true) whole h in
      (run_front front (m ∷ after) ordered, same ∙ ap (λ l. list_any (lists_this x) l) whole ∙ listed_before x front after m ordered e other)

pub split_first : (back : List Claim) (m : Claim) → 1 ≤ length back → m ≡ get_or back 0 m → back ≡ m ∷ take (length back - 1) (drop 1 back)
split_first [] m some e = absurd (omega (arith, some))
split_first (b ∷ bs) m some e =
    let one : length (b ∷ bs) - 1 ≡ length bs = omega arith in
    ap (λ x. x ∷ bs) (sym e) ∙ ap (λ l. m ∷ l) (sym (ap (λ n. take n bs) one ∙ take_all (length bs) bs (omega arith)))

-- all of some claims with the next one
before_longer : (x : Listed) (cs : List Claim) (n : ℕ) (m : Claim) → before_all x (take n cs) ≡ true → slice_get cs n ≡ Some m → comes_before x (listed_in m) ≡ true → before_all x (take (suc n) cs) ≡ true
before_longer x [] n m h at e = absurd cc
before_longer x (c ∷ cs) zero m h at e = let same : c ≡ m = cc in and_true (comes_before x (listed_in c)) true (rw same e) refl
before_longer x (c ∷ cs) (suc n) m h at e =
    let p = and_parts (comes_before x (listed_in c)) (before_all x (take n cs)) h in
    and_true (comes_before x (listed_in c)) (before_all x (take (suc n) cs)) p.0 (before_longer x cs n m p.1 at e)

taken_before : (x : Listed) (cs : List Claim) (n : ℕ) (m : Claim) → before_all x (take (suc n) cs) ≡ true → slice_get cs n ≡ Some m → comes_before x (listed_in m) ≡ true
taken_before x [] n m h at = absurd cc
taken_before x (c ∷ cs) zero m h at = let same : c ≡ m = cc in rw (sym same) ((and_parts (comes_before x (listed_in c)) true h).0)
taken_before x (c ∷ cs) (suc n) m h at = taken_before x cs n m ((and_parts (comes_before x (listed_in c)) (before_all x (take (suc n) cs)) h).1) at

-- a run with the next claim, which comes after its last
run_longer : (cs : List Claim) (n : ℕ) (last m : Claim) → is_run (take (suc n) cs) ≡ true → slice_get cs n ≡ Some last → slice_get cs (suc n) ≡ Some m → comes_before (listed_in last) (listed_in m) ≡ true
    → is_run (take (suc (suc n)) cs) ≡ true
run_longer [] n last m h at next e = absurd cc
run_longer (c ∷ []) zero last m h at next e = absurd cc
run_longer (c ∷ d ∷ cs) zero last m h at next e =
    let same : c ≡ last = cc in
    let other : d ≡ m = cc in
    let first : comes_before (listed_in c) (listed_in d) ≡ true = rw (same, other) e in
    rw first refl
run_longer (c ∷ cs) (suc n) last m h at next e =
    let before = taken_before (listed_in c) cs n last (run_head c (take (suc n) cs) h) at in
    and_true (before_all (listed_in c) (take (suc (suc n)) cs)) (is_run (take (suc (suc n)) cs))
    (before_longer (listed_in c) cs (suc n) m (run_head c (take (suc n) cs) h) next (in_order (listed_in c) (listed_in last) (listed_in m) before e))
    (run_longer cs n last m (run_rest c (take (suc n) cs) h) at next e)

pub run_one : (cs : List Claim) → is_run (take 1 cs) ≡ true
run_one [] = refl
run_one (c ∷ cs) = refl

-- the same where the next place is n
pub run_more : (cs : List Claim) (n : ℕ) (last m : Claim) → 0 < n → is_run (take n cs) ≡ true → slice_get cs (n - 1) ≡ Some last → slice_get cs n ≡ Some m → comes_before (listed_in last) (listed_in m) ≡ true
    → is_run (take (n + 1) cs) ≡ true
run_more cs zero last m lt h at next e = absurd (omega (arith, lt))
run_more cs (suc n) last m lt h at next e =
    let two : suc n + 1 ≡ suc (suc n) = omega arith in
    let one : suc n - 1 ≡ n = omega arith in
    rw two (run_longer cs n last m h (subst (λ i. slice_get cs i ≡ Some last) one at) next e)

at_place : (xs : List Claim) (i : ℕ) (x : Claim) → i < length xs → x ≡ get_or xs i x → slice_get xs i ≡ Some x
at_place [] i x lt e = absurd (omega (arith, lt))
at_place (y ∷ xs) zero x lt e = ap Some (sym e)
at_place (y ∷ xs) (suc i) x lt e = at_place xs i x (omega (arith, lt)) e

pub run_next : (cs : List Claim) (n : ℕ) (last m : Claim) → 0 < n → n < length cs → is_run (take n cs) ≡ true → last ≡ get_or cs (n - 1) last → m ≡ get_or cs n m → comes_before (listed_in last) (listed_in m) ≡ true
    → is_run (take (n + 1) cs) ≡ true
run_next cs n last m lt within h at next e = run_more cs n last m lt h (at_place cs (n - 1) last (omega (arith, within)) at) (at_place cs n m within next) e

-- ---- each value and slot once

listed_same : (c : Claim) (cs : List Claim) → is_listed cs c ≡ list_any (lists_this (listed_in c)) cs
listed_same (claim.Value v f) cs = refl
listed_same (claim.Slot s n h) cs = refl

-- claims in order list each thing once
run_once : (cs : List Claim) → is_run cs ≡ true → lists_once cs ≡ true
run_once [] h = refl
run_once (c ∷ cs) h =
    rw (listed_same c cs ∙ none_after (listed_in c) cs (run_head c cs h)) (run_once cs (run_rest c cs h))

-- of two lists each thing is listed once, where it is in each, and none of the first in the second
once_append : (xs ys : List Claim) → lists_once (xs ++ ys) ≡ (lists_once xs && (lists_once ys && list_others xs ys))
once_append [] ys = sym (ap (λ b. b) (and_yes (lists_once ys)))
  where
    and_yes : (a : Bool) → (a && true) ≡ a
    and_yes true = refl
    and_yes false = refl
once_append (x ∷ xs) ys =
    ap (λ b. not b && lists_once (xs ++ ys)) (listed_same x (xs ++ ys) ∙ any_append (lists_this (listed_in x)) xs ys)
    ∙ ap (λ b. not (list_any (lists_this (listed_in x)) xs || list_any (lists_this (listed_in x)) ys) && b) (once_append xs ys)
    ∙ moved (list_any (lists_this (listed_in x)) xs) (list_any (lists_this (listed_in x)) ys) (lists_once xs) (lists_once ys) (list_others xs ys)
    ∙ ap (λ b. (not b && lists_once xs) && (lists_once ys && (not (list_any (lists_this (listed_in x)) ys) && list_others xs ys))) (sym (listed_same x xs))
  where
    moved : (a b c d e : Bool) → (not (a || b) && (c && (d && e))) ≡ ((not a && c) && (d && (not b && e)))
    moved true b c d e = refl
    moved false true true true e = refl
    moved false true true false e = refl
    moved false true false d e = refl
    moved false false c d e = same c (d && e)
      where
        same : (c x : Bool) → (c && x) ≡ (c && x)
        same c x = refl

-- one thing twice among the first claims is twice among all
pub once_not : (done run others : List Claim) → list_others done run ≡ false → lists_once (done ++ (run ++ others)) ≡ false
once_not done run others apart =
    ap lists_once (sym (append_assoc done run others)) ∙ once_append (done ++ run) others
    ∙ ap (λ b. b && (lists_once others && list_others (done ++ run) others)) (once_append done run ∙ ap (λ b. lists_once done && (lists_once run && b)) apart ∙ never (lists_once done) (lists_once run))
  where
    never : (a b : Bool) → (a && (b && false)) ≡ false
    never true true = refl
    never true false = refl
    never false b = refl

module _ (claims done others run rest : List Claim) (before : ℕ) (first : done ≡ take before claims) (behind : others ≡ drop before claims) (both : run ++ rest ≡ others) where
  all_claims : claims ≡ done ++ (run ++ rest)
  all_claims = sym (take-append-drop before claims) ∙ ap (λ l. l ++ drop before claims) (sym first) ∙ ap (λ l. done ++ l) (sym behind ∙ sym both)

  pub listed_twice : list_others done run ≡ false → false ≡ lists_once claims
  listed_twice apart = sym (ap lists_once all_claims ∙ once_not done run rest apart)

  -- the claims that were compared, with a run after them
  pub compared : before ≤ length claims → lists_once (take before claims) ≡ true → is_run run ≡ true → list_others done run ≡ true → (before + length run ≤ length claims) × (lists_once (take (before + length run) claims) ≡ true)
  compared within h ordered apart =
      let long : length (done ++ run) ≡ before + length run = length-append done run ∙ ap (λ n. n + length run) (ap length first ∙ length-take-le before claims within) in
      let all : claims ≡ (done ++ run) ++ rest = all_claims ∙ sym (append_assoc done run rest) in
      let count : length claims ≡ length (done ++ run) + length rest = ap length all ∙ length-append (done ++ run) rest in
      let so : take (before + length run) claims ≡ done ++ run = ap (λ l. take (before + length run) l) all ∙ take_at (done ++ run) rest (before + length run) long in
      let once : lists_once done ≡ true = subst (λ l. lists_once l ≡ true) (sym first) h in (
        omega (arith, long, count),
        ap lists_once so ∙ once_append done run ∙ and_true (lists_once done) (lists_once run && list_others done run) once (and_true (lists_once run) (list_others done run) (run_once run ordered) apart),
      )

-- ---- values that are named

pub listed_of_four : (first second third rest others more claims : List Claim) (value : Option ℕ) → third ++ rest ≡ others → second ++ others ≡ more → first ++ more ≡ claims
    → some_list_named first second third rest value ≡ lists_named claims value
listed_of_four first second third rest others more claims None a b c = refl
listed_of_four first second third rest others more claims (Some value) a b c = rw (sym c, sym b, sym a) (sym (
    any_append (lists value) first (second ++ (third ++ rest))
    ∙ ap (λ t. list_any (lists value) first || t) (any_append (lists value) second (third ++ rest) ∙ ap (λ t. list_any (lists value) second || t) (any_append (lists value) third rest))
    ∙ moved (list_any (lists value) first) (list_any (lists value) second) (list_any (lists value) third) (list_any (lists value) rest)))
  where
    moved : (a b c d : Bool) → (a || (b || (c || d))) ≡ (a || b || c || d)
    moved true b c d = refl
    moved false true c d = refl
    moved false false true d = refl
    moved false false false d = refl
