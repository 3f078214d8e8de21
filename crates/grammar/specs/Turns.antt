-- Forms one after another whose values are dropped: a recursion on a count of turns, beside a loop that counts up.
use Rattle.std.proofs.Common.{◌≡◌, ℕ, zero, suc, ◌+◌, ◌-◌, ◌<◌, ◌≤◌, Bool, true, false, List, [], ◌∷◌, ◌++◌, if◌then◌else◌, Ok, Err, refl, ap, ◌∙◌, arith}
use Rattle.grammar.specs.Outcome.{Outcome, Parser, and_then}
use Rattle.grammar.specs.Many.{many_from}

pub one_more : {X : Type 0} {x : X} (f : ℕ → X) (n at : ℕ) → at < n → x ≡ f (n - at) → x ≡ f (suc (n - (at + 1)))
one_more f n at below e = let turn : n - at ≡ suc (n - (at + 1)) = omega arith in e ∙ ap f turn

pub no_more : {X : Type 0} {x : X} (f : ℕ → X) (n at : ℕ) → n ≤ at → x ≡ f (n - at) → x ≡ f 0
no_more f n at done e = let none : n - at ≡ 0 = omega arith in e ∙ ap f none

abbrev passed : {S E : Type 0} → S → Outcome S E (Unit {0})
passed o = Ok (tt, o)

-- what is left to read after at most n turns, whatever was found so far
abbrev pub turns : {S E A : Type 0} → (S → Bool) → Parser S E A → ℕ → S → Outcome S E (Unit {0})
turns stop item n i = and_then (many_from stop item n [] i) (λ _ o. Ok (tt, o))

module _ {S E A : Type 0} (stop : S → Bool) (item : Parser S E A) where
  forgets : (n : ℕ) (found more : List A) (i : S) → and_then (many_from stop item n found i) (λ _ o. passed {E = E} o) ≡ and_then (many_from stop item n more i) (λ _ o. passed {E = E} o)
  unfolding many_from
  forgets zero found more i = refl
  forgets (suc n) found more i = by_stop (stop i) (item i) (λ a m. forgets n (found ++ a ∷ []) (more ++ a ∷ []) m)
    where
      by_item : (r : Outcome S E A) → ((a : A) (m : S) → and_then (many_from stop item n (found ++ a ∷ []) m) (λ _ o. passed {E = E} o) ≡ and_then (many_from stop item n (more ++ a ∷ []) m) (λ _ o. passed {E = E} o))
          → and_then (and_then r (λ a. many_from stop item n (found ++ a ∷ []))) (λ _ o. passed {E = E} o) ≡ and_then (and_then r (λ a. many_from stop item n (more ++ a ∷ []))) (λ _ o. passed {E = E} o)
      by_item (Ok p) same = same p.0 p.1
      by_item (Err e) same = refl

      by_stop : (t : Bool) (r : Outcome S E A) → ((a : A) (m : S) → and_then (many_from stop item n (found ++ a ∷ []) m) (λ _ o. passed {E = E} o) ≡ and_then (many_from stop item n (more ++ a ∷ []) m) (λ _ o. passed {E = E} o))
          → and_then (if t then Ok (found, i) else and_then r (λ a. many_from stop item n (found ++ a ∷ []))) (λ _ o. passed {E = E} o) ≡ and_then (if t then Ok (more, i) else and_then r (λ a. many_from stop item n (more ++ a ∷ []))) (λ _ o. passed {E = E} o)
      by_stop true r same = refl
      by_stop false r same = by_item r same

  pub turn_ends : (n : ℕ) (i : S) → stop i ≡ true → turns stop item (suc n) i ≡ Ok (tt, i)
  unfolding many_from
  turn_ends n i e = rw e refl

  pub turn_goes : (n : ℕ) (i : S) (a : A) (m : S) → stop i ≡ false → item i ≡ Ok (a, m) → turns stop item (suc n) i ≡ turns stop item n m
  unfolding many_from
  turn_goes n i a m e r = rw (e, r) (forgets n (a ∷ []) [] m)

  pub turn_breaks : (n : ℕ) (i : S) (e : E) → stop i ≡ false → item i ≡ Err e → turns stop item (suc n) i ≡ Err e
  unfolding many_from
  turn_breaks n i e not_stop r = rw (not_stop, r) refl

  pub no_turns : (i : S) → turns stop item 0 i ≡ Ok (tt, i)
  unfolding many_from
  no_turns i = refl

  -- ---- a loop of n turns: what reading from its beginning gives is what reading from here with the turns that are left gives

  -- the test holds here
  pub loop_ends : {x : Outcome S E (Unit {0})} {n at : ℕ} {i : S} → at < n → x ≡ turns stop item (n - at) i → stop i ≡ true → x ≡ Ok (tt, i)
  loop_ends {n = n} {at = at} {i = i} below e holds = one_more (λ k. turns stop item k i) n at below e ∙ turn_ends (n - (at + 1)) i holds

  -- one more form is read
  pub loop_goes : {x : Outcome S E (Unit {0})} {n at : ℕ} {i : S} → at < n → x ≡ turns stop item (n - at) i → stop i ≡ false → (a : A) (m : S) → item i ≡ Ok (a, m) → x ≡ turns stop item (n - (at + 1)) m
  loop_goes {n = n} {at = at} {i = i} below e not_stop a m r = one_more (λ k. turns stop item k i) n at below e ∙ turn_goes (n - (at + 1)) i a m not_stop r

  -- the next form has a fault
  pub loop_breaks : {x : Outcome S E (Unit {0})} {n at : ℕ} {i : S} → at < n → x ≡ turns stop item (n - at) i → stop i ≡ false → (d : E) → item i ≡ Err d → x ≡ Err d
  loop_breaks {n = n} {at = at} {i = i} below e not_stop d r = one_more (λ k. turns stop item k i) n at below e ∙ turn_breaks (n - (at + 1)) i d not_stop r

  -- no turn is left
  pub loop_done : {x : Outcome S E (Unit {0})} {n at : ℕ} {i : S} → n ≤ at → x ≡ turns stop item (n - at) i → x ≡ Ok (tt, i)
  loop_done {n = n} {at = at} {i = i} past e = no_more (λ k. turns stop item k i) n at past e ∙ no_turns i
