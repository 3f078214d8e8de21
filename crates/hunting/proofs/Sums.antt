-- Lines of steps in parts: who makes them, and how many steps they are.
use Rattle.std.proofs.Common.{◌≡◌, ◌+◌, ◌-◌, ◌≤◌, ◌<◌, ℕ, zero, suc, Some, List, [], ◌∷◌, ◌++◌, length, map, take, drop, slice_get, min, refl, sym, ap, ap₂, subst, ◌∙◌, add-one, arith}
use Rattle.std.specs.List.{AllByRecursion}
use Rattle.std.proofs.lemmas.List.Sums.{sum_by-cons}
use Rattle.lemmas.specs.Lists.{first_more}
use Rattle.moves.specs.Runs.{IsActor}
use Rattle.moves.specs.declared.actor.Actor.{Actor}
use Rattle.lemmas.specs.All.{all_join, all_get}
use Rattle.trace_text.specs.Traces.{step_sum}
use Rattle.trace_text.specs.declared.trace.Steps.{Steps}
use Rattle.hunting.specs.Parts.{AreOfActors, between, with_at_most}

-- ---- parts of lists

-- no elements have first ones
take_none : (A : Type 0) (n : ℕ) → take {A = A} n [] ≡ []
take_none A zero = refl
take_none A (suc n) = refl

-- the first elements and the others
take_drop : {A : Type 0} (n : ℕ) (xs : List A) → take n xs ++ drop n xs ≡ xs
take_drop zero xs = refl
take_drop (suc n) [] = refl
take_drop (suc n) (x ∷ xs) = ap (λ l. x ∷ l) (take_drop n xs)

-- the first elements, those between, and the others
in_parts : (from to : ℕ) (lines : List Steps) → from ≤ to → take from lines ++ between from to lines ++ drop to lines ≡ lines
in_parts zero to lines le = let all : to - zero ≡ to = omega arith in rw all (take_drop to lines)
in_parts (suc from) zero lines le = absurd (omega (arith, le))
in_parts (suc from) (suc to) [] le = rw (take_none Steps (suc to - suc from)) refl
in_parts (suc from) (suc to) (line ∷ lines) le =
    let less : suc to - suc from ≡ to - from = omega arith in
    rw less (ap (λ l. line ∷ l) (in_parts from to lines (omega (arith, le))))

-- what holds of each holds of each of the first, and of each of the others
pub all_take : {A : Type 0} (P : A → Type 0) (n : ℕ) (xs : List A) → AllByRecursion P xs → AllByRecursion P (take n xs)
all_take P zero xs all = tt
all_take P (suc n) [] all = tt
all_take P (suc n) (x ∷ xs) all = (all.0, all_take P n xs all.1)

pub all_drop : {A : Type 0} (P : A → Type 0) (n : ℕ) (xs : List A) → AllByRecursion P xs → AllByRecursion P (drop n xs)
all_drop P zero xs all = all
all_drop P (suc n) [] all = tt
all_drop P (suc n) (x ∷ xs) all = all_drop P n xs all.1

-- ---- how many steps

pub sum_cons : (line : Steps) (lines : List Steps) → step_sum (line ∷ lines) ≡ line.count + step_sum lines
sum_cons line lines = sum_by-cons (λ x. x) line.count (map (λ (s : Steps). s.count) lines)

pub sum_append : (one other : List Steps) → step_sum (one ++ other) ≡ step_sum one + step_sum other
sum_append [] other =
    let none : step_sum [] ≡ 0 = refl in
    let all : step_sum ([] ++ other) ≡ step_sum other = refl in
    omega (arith, none, all)
sum_append (line ∷ one) other =
    let more = sum_append one other in
    let this = sum_cons line one in
    let all = sum_cons line (one ++ other) in
    omega (arith, more, this, all)

-- the first lines have no more steps than all
pub sum_take : (n : ℕ) (lines : List Steps) → step_sum (take n lines) ≤ step_sum lines
sum_take n lines =
    let parts = sum_append (take n lines) (drop n lines) in
    let whole = ap step_sum (take_drop n lines) in
    omega (arith, parts, whole)

-- and one line more has its steps more
pub sum_more : (lines : List Steps) (i : ℕ) (line : Steps) → slice_get lines i ≡ Some line → step_sum (take (i + 1) lines) ≡ step_sum (take i lines) + line.count
sum_more lines i line is =
    let more = ap step_sum (first_more lines i line is) in
    let parts = sum_append (take i lines) (line ∷ []) in
    let one = sum_cons line [] in
    omega (arith, more, parts, one)

-- ---- lines in the place of others

-- lines that are joined of the first ones of a list, others, and the last ones of it
pub joined_parts : (from to : ℕ) (lines seen first others last steps : List Steps) → seen ≡ lines → first ≡ take from seen → last ≡ drop to seen → steps ≡ first ++ others ++ last
    → steps ≡ take from lines ++ others ++ drop to lines
joined_parts from to lines seen first others last steps same front back is =
    is ∙ ap₂ (λ (f l : List Steps). f ++ others ++ l) front back ∙ ap (λ (l : List Steps). take from l ++ others ++ drop to l) same

-- a line that has the actor of another one and no more than a number of its steps
pub cut_line : (count : ℕ) (cut found line : Steps) → cut.actor ≡ found.actor → cut.count ≡ min count found.count → found ≡ line → cut ≡ with_at_most count line
cut_line count cut found line actor least same =
    let made : Actor → ℕ → Steps = λ a n. record { actor = a; count = n } in
    ap₂ made (actor ∙ ap (λ (s : Steps). s.actor) same) (least ∙ ap (λ (s : Steps). min count s.count) same)

pub all_replaced : (threads from to : ℕ) (lines others : List Steps) → AreOfActors threads lines → AreOfActors threads others → AreOfActors threads (take from lines ++ others ++ drop to lines)
all_replaced threads from to lines others are these =
    let P = λ (s : Steps). IsActor threads s.actor in
    all_join P (take from lines ++ others) (drop to lines) (all_join P (take from lines) others (all_take P from lines are) these) (all_drop P to lines are)

pub sum_replaced : (from to : ℕ) (lines others : List Steps) → from ≤ to → step_sum others ≤ step_sum (between from to lines) → step_sum (take from lines ++ others ++ drop to lines) ≤ step_sum lines
sum_replaced from to lines others le few =
    let outer = sum_append (take from lines ++ others) (drop to lines) in
    let inner = sum_append (take from lines) others in
    let outer_before = sum_append (take from lines ++ between from to lines) (drop to lines) in
    let inner_before = sum_append (take from lines) (between from to lines) in
    let whole = ap step_sum (in_parts from to lines le) in
    omega (arith, outer, inner, outer_before, inner_before, whole, few)

-- the line at a place is among those from there on
pub sum_between : (place to : ℕ) (lines : List Steps) (line : Steps) → slice_get lines place ≡ Some line → place < to → line.count ≤ step_sum (between place to lines)
sum_between place to [] line is lt = absurd cc
sum_between place zero lines line is lt = absurd (omega (arith, lt))
sum_between zero (suc to) (first ∷ lines) line is lt =
    let same : first ≡ line = cc in
    let all = sum_cons first (take to lines) in
    let count = ap (λ (s : Steps). s.count) same in
    let past : suc to - zero ≡ suc to = omega arith in
    rw past (omega (arith, all, count))
sum_between (suc place) (suc to) (first ∷ lines) line is lt =
    let less : suc to - suc place ≡ to - place = omega arith in
    rw less (sum_between place to lines line is (omega (arith, lt)))

-- so are it and the next one
pub two_between : (place : ℕ) (lines : List Steps) (one next : Steps) → slice_get lines place ≡ Some one → slice_get lines (suc place) ≡ Some next
    → between place (suc (suc place)) lines ≡ one ∷ next ∷ []
two_between place [] one next is then = absurd cc
two_between zero (first ∷ []) one next is then = absurd cc
two_between zero (first ∷ second ∷ lines) one next is then = cc
two_between (suc place) (first ∷ lines) one next is then =
    let less : suc (suc (suc place)) - suc place ≡ suc (suc place) - place = omega arith in
    rw less (two_between place lines one next is then)

-- ---- a list without one element

pub length_without : {A : Type 0} (place : ℕ) (xs : List A) → place < length xs → length (take place xs ++ drop (suc place) xs) ≡ length xs - 1
length_without place [] lt = absurd (omega (arith, lt))
length_without zero (x ∷ xs) lt = omega arith
length_without (suc place) (x ∷ xs) lt = let fewer = length_without place xs (omega (arith, lt)) in omega (arith, fewer, lt)
