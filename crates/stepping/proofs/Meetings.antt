-- A walk after one more reference, and after several.
use Rattle.std.proofs.Common.{◌≡◌, ◌≢◌, ◌≤◌, ◌<◌, ◌⊎◌, ◌+◌, ◌-◌, ◌==◌, inl, inr, ℕ, zero, suc, not, Bool, true, false, Option, Some, None, List, [], ◌∷◌, ◌++◌, length, slice_get, slice_set, slice_index, slice_index_or, sum_by, if◌then◌else◌, refl, sym, ap, ◌∙◌, IsTrue, arith, add-one}
use Rattle.std.proofs.lemmas.Bool.Decides.{nat_tests}
use Rattle.std.proofs.lemmas.List.{get_or-set_same, get_or-set_other, get_or_past, get_or_append_left, length-append}
use Rattle.std.proofs.lemmas.List.Sums.{sum_by-set}
use Rattle.std.proofs.Math.ListN.{length-set}
use Rattle.pools.specs.declared.word_kind.WordKind.{WordKind}
use Rattle.pools.specs.Layouts.{is_reference_kind}
use Rattle.runs.specs.Machine.{WordValue}
use Rattle.runs.specs.Moves.{null}
use Rattle.moves.specs.declared.shared.Shared.{Shared}
use Rattle.stepping.specs.declared.walk.Walk.{Walk}
use Rattle.stepping.specs.Walks.{least, blue_with, reborn_with, met_with, meeting, following, following_first, looking_at, looking, unmet, IsAtMost, IsSeen}

-- ---- the cells that were met

-- a cell that was not met is one of the row
pub new-within : (met : List Bool) (cell : ℕ) → slice_index_or met cell true ≡ false → cell < length met
new-within met cell e = grind (arith, get_or_past met cell true)

-- a cell is met, after itself
met-here : (met : List Bool) (cell : ℕ) → slice_index_or (met_with met cell) cell true ≡ true
met-here met cell = go (slice_index_or met cell true) refl
  where
    go : (b : Bool) → slice_index_or met cell true ≡ b → slice_index_or (if not b then slice_set met cell true else met) cell true ≡ true
    go true e = e
    go false e = get_or-set_same met cell true true (new-within met cell e)

-- one that is met stays so
met-stays : (met : List Bool) (cell other : ℕ) → slice_index_or met other true ≡ true → slice_index_or (met_with met cell) other true ≡ true
met-stays met cell other was = go (slice_index_or met cell true) refl
  where
    at : (b : Bool) → (other == cell) ≡ b → slice_index_or met cell true ≡ false → slice_index_or (slice_set met cell true) other true ≡ true
    at true same e =
        let is : other ≡ cell = grind (arith, nat_tests) in
        rw is (get_or-set_same met cell true true (new-within met cell e))
    at false differs e =
        let isnt : other ≢ cell = grind (arith, nat_tests) in
        get_or-set_other met cell other true true isnt ∙ was

    go : (b : Bool) → slice_index_or met cell true ≡ b → slice_index_or (if not b then slice_set met cell true else met) other true ≡ true
    go true e = was
    go false e = at (other == cell) refl e

-- a cell that is met was met before, or is this one
pub met-before : (met : List Bool) (cell other : ℕ) → slice_index_or (slice_set met cell true) other false ≡ true → (slice_index_or met other false ≡ true) ⊎ (other ≡ cell)
met-before met cell other is = go (other == cell) refl
  where
    go : (b : Bool) → (other == cell) ≡ b → (slice_index_or met other false ≡ true) ⊎ (other ≡ cell)
    go true e = inr (grind (arith, nat_tests))
    go false e =
        let isnt : other ≢ cell = grind (arith, nat_tests) in
        inl (sym (get_or-set_other met cell other true false isnt) ∙ is)

-- ---- how many are left

-- how a reference changes the row and the order
pub record Widens (before after : Walk) : Type 0 where
  pub wide : length after.met ≡ length before.met
  pub left : length after.order + sum_by unmet after.met ≡ length before.order + sum_by unmet before.met
  pub longer : length before.order ≤ length after.order
  pub same : (place : ℕ) → place < length before.order → slice_index after.order place ≡ slice_index before.order place

widens-none : (w : Walk) → Widens w w
widens-none w = record { wide = refl; left = refl; longer = omega arith; same = λ place lt. refl }

widens-both : (v w x : Walk) → Widens v w → Widens w x → Widens v x
widens-both v w x a b = record {
  wide = b.wide ∙ a.wide;
  left = b.left ∙ a.left;
  longer = omega (arith, a.longer, b.longer);
  same = λ place lt. b.same place (omega (arith, lt, a.longer)) ∙ a.same place lt;
}

pub widens-meeting : (h : Shared) (w : Walk) (r : WordValue) → Widens w (meeting h w r)
widens-meeting h w r = go (slice_index_or w.met r.cell true) refl
  where
    wide-set : length (slice_set w.met r.cell true) ≡ length w.met
    wide-set = length-set w.met r.cell true

    go : (b : Bool) → slice_index_or w.met r.cell true ≡ b
        → Widens w (record { met = if not b then slice_set w.met r.cell true else w.met; order = if not b then w.order ++ r.cell ∷ [] else w.order; blue = blue_with h w.blue r; reborn = reborn_with h w.reborn r })
    go true e = record { wide = refl; left = refl; longer = omega arith; same = λ place lt. refl }
    go false e =
        let counted = sum_by-set unmet w.met r.cell true true (new-within w.met r.cell e) in
        let was : unmet (slice_index_or w.met r.cell true) ≡ 1 = ap unmet e in
        let long : length (w.order ++ r.cell ∷ []) ≡ length w.order + 1 = length-append w.order (r.cell ∷ []) in
        record {
          wide = wide-set;
          left = omega (arith, counted, was, long);
          longer = omega (arith, long);
          same = λ place lt. get_or_append_left w.order (r.cell ∷ []) 0 place lt;
        }

-- ---- what is seen

pub at_most-least : (least_so_far : Option ℕ) (cell other : ℕ) → IsAtMost least_so_far other → IsAtMost (Some (least least_so_far cell)) other
at_most-least None cell other h = absurd h
at_most-least (Some first) cell other h = omega (arith, h)

at_most-here : (least_so_far : Option ℕ) (cell : ℕ) → IsAtMost (Some (least least_so_far cell)) cell
at_most-here None cell = omega arith
at_most-here (Some first) cell = omega arith

-- a reference is seen, after itself
pub seen-meeting : (h : Shared) (w : Walk) (r : WordValue) → IsSeen h (meeting h w r) r
seen-meeting h w r = record {
  met = met-here w.met r.cell;
  blue = λ e. blue (slice_index h.colours r.cell == 0) refl e;
  reborn = λ n. reborn (slice_index h.births r.cell == r.birth) refl n;
}
  where
    blue : (b : Bool) → (slice_index h.colours r.cell == 0) ≡ b → slice_index h.colours r.cell ≡ 0 → IsAtMost (if b then Some (least w.blue r.cell) else w.blue) r.cell
    blue true e z = at_most-here w.blue r.cell
    blue false e z = let isnt : slice_index h.colours r.cell ≢ 0 = grind (arith, nat_tests) in absurd (isnt z)

    reborn : (b : Bool) → (slice_index h.births r.cell == r.birth) ≡ b → slice_index h.births r.cell ≢ r.birth → IsAtMost (if b then w.reborn else Some (least w.reborn r.cell)) r.cell
    reborn true e n = let is : slice_index h.births r.cell ≡ r.birth = grind (arith, nat_tests) in absurd (n is)
    reborn false e n = at_most-here w.reborn r.cell

-- what is seen stays so
seen-stays : (h : Shared) (w : Walk) (r q : WordValue) → IsSeen h w q → IsSeen h (meeting h w r) q
seen-stays h w r q was = record {
  met = met-stays w.met r.cell q.cell was.met;
  blue = λ e. blue (slice_index h.colours r.cell == 0) (was.blue e);
  reborn = λ n. reborn (slice_index h.births r.cell == r.birth) (was.reborn n);
}
  where
    blue : (b : Bool) → IsAtMost w.blue q.cell → IsAtMost (if b then Some (least w.blue r.cell) else w.blue) q.cell
    blue true most = at_most-least w.blue r.cell q.cell most
    blue false most = most

    reborn : (b : Bool) → IsAtMost w.reborn q.cell → IsAtMost (if b then w.reborn else Some (least w.reborn r.cell)) q.cell
    reborn true most = most
    reborn false most = at_most-least w.reborn r.cell q.cell most

-- ---- several references

-- the walk after some references of this kind
pub data Meets (h : Shared) (P : WordValue → Type 0) (w : Walk) : Walk → Type 0 where
  met-none : Meets h P w w
  met-more : (v : Walk) (r : WordValue) → Meets h P w v → P r → Meets h P w (meeting h v r)

-- first these, and then those
pub meets-both : (h : Shared) (P : WordValue → Type 0) (w v : Walk) → Meets h P w v → (x : Walk) → Meets h P v x → Meets h P w x
meets-both h P w v before _ met-none = before
meets-both h P w v before _ (met-more x r later is_such) = met-more x r (meets-both h P w v before x later) is_such

-- any reference
abbrev pub Any : WordValue → Type 0
Any r = Unit {0}

module _ (h : Shared) (P : WordValue → Type 0) (w : Walk) where
  pub meets-following : (v : Walk) (r : WordValue) → (r.cell ≢ 0 → P r) → Meets h P w v → Meets h P w (following h v r)
  meets-following v r is_such meets = go (r.cell == 0) refl
    where
      go : (b : Bool) → (r.cell == 0) ≡ b → Meets h P w (if b then v else meeting h v r)
      go true e = meets
      go false e = met-more v r meets (is_such (grind (arith, nat_tests)))

  -- after a root, and after the first of several
  pub meets-first : (found : List WordValue) (count : ℕ) → ((place : ℕ) → place < count → (slice_index_or found place null).cell ≢ 0 → P (slice_index_or found place null)) → Meets h P w (following_first h found w count)
  unfolding following_first
  meets-first found zero are_such = met-none
  meets-first found (suc count) are_such =
      meets-following (following_first h found w count) (slice_index_or found count null) (are_such count (omega arith))
      (meets-first found count (λ place lt. are_such place (omega (arith, lt))))

  meets-looking_at : (v : Walk) (kind : Option WordKind) (r : WordValue) → (IsTrue (is_reference_kind kind) → r.cell ≢ 0 → P r) → Meets h P w v → Meets h P w (looking_at h v kind r)
  meets-looking_at v kind r is_such meets = go (is_reference_kind kind) is_such
    where
      go : (b : Bool) → (IsTrue b → r.cell ≢ 0 → P r) → Meets h P w (if b then following h v r else v)
      go true such = meets-following v r (such refl) meets
      go false such = meets

  -- after the words of a cell
  pub meets-looking : (kinds : List WordKind) (row : List WordValue) (count : ℕ)
      → ((word : ℕ) → IsTrue (is_reference_kind (slice_get kinds word)) → (slice_index_or row word null).cell ≢ 0 → P (slice_index_or row word null)) → Meets h P w (looking h kinds row w count)
  unfolding looking
  meets-looking kinds row zero are_such = met-none
  meets-looking kinds row (suc word) are_such =
      meets-looking_at (looking h kinds row w word) (slice_get kinds word) (slice_index_or row word null) (are_such word) (meets-looking kinds row word are_such)

  -- the row and the order grow
  pub widens-meets : (v : Walk) → Meets h P w v → Widens w v
  widens-meets _ met-none = widens-none w
  widens-meets _ (met-more v r meets is_such) = widens-both w v (meeting h v r) (widens-meets v meets) (widens-meeting h v r)

  -- what is seen stays so
  pub stays-meets : (q : WordValue) → IsSeen h w q → (v : Walk) → Meets h P w v → IsSeen h v q
  stays-meets q was _ met-none = was
  stays-meets q was _ (met-more v r meets is_such) = seen-stays h v r q (stays-meets q was v meets)

-- ---- what several see

pub seen-following : (h : Shared) (w : Walk) (r : WordValue) → r.cell ≢ 0 → IsSeen h (following h w r) r
seen-following h w r n = go (r.cell == 0) refl
  where
    go : (b : Bool) → (r.cell == 0) ≡ b → IsSeen h (if b then w else meeting h w r) r
    go true e = let is : r.cell ≡ 0 = grind (arith, nat_tests) in absurd (n is)
    go false e = seen-meeting h w r

stays-following : (h : Shared) (w : Walk) (r q : WordValue) → IsSeen h w q → IsSeen h (following h w r) q
stays-following h w r q was = stays-meets h Any w q was (following h w r) (meets-following h Any w w r (λ n. tt) met-none)

-- each of the first references was seen
pub seen-first : (h : Shared) (found : List WordValue) (w : Walk) (count place : ℕ) → place < count → (slice_index_or found place null).cell ≢ 0
    → IsSeen h (following_first h found w count) (slice_index_or found place null)
unfolding following_first
seen-first h found w zero place lt n = absurd (omega (arith, lt))
seen-first h found w (suc last) place lt n = go (λ less. seen-first h found w last place less n) (place == last) refl
  where
    go : (place < last → IsSeen h (following_first h found w last) (slice_index_or found place null)) → (b : Bool) → (place == last) ≡ b
        → IsSeen h (following h (following_first h found w last) (slice_index_or found last null)) (slice_index_or found place null)
    go rest true e =
        let here : place ≡ last = grind (arith, nat_tests) in
        rw (← here) (seen-following h (following_first h found w place) (slice_index_or found place null) n)
    go rest false e =
        let isnt : place ≢ last = grind (arith, nat_tests) in
        stays-following h (following_first h found w last) (slice_index_or found last null) (slice_index_or found place null) (rest (omega (arith, lt, isnt)))

seen-looking_at : (h : Shared) (w : Walk) (kind : Option WordKind) (r : WordValue) → IsTrue (is_reference_kind kind) → r.cell ≢ 0 → IsSeen h (looking_at h w kind r) r
seen-looking_at h w kind r is n = go (is_reference_kind kind) is
  where
    go : (b : Bool) → IsTrue b → IsSeen h (if b then following h w r else w) r
    go true t = seen-following h w r n
    go false t = absurd cc

stays-looking_at : (h : Shared) (w : Walk) (kind : Option WordKind) (r q : WordValue) → IsSeen h w q → IsSeen h (looking_at h w kind r) q
stays-looking_at h w kind r q was = stays-meets h Any w q was (looking_at h w kind r) (meets-looking_at h Any w w kind r (λ is n. tt) met-none)

-- what its reference words hold is seen
pub seen-looking : (h : Shared) (kinds : List WordKind) (row : List WordValue) (w : Walk) (count word : ℕ) → word < count
    → IsTrue (is_reference_kind (slice_get kinds word)) → (slice_index_or row word null).cell ≢ 0 → IsSeen h (looking h kinds row w count) (slice_index_or row word null)
unfolding looking
seen-looking h kinds row w zero word lt is n = absurd (omega (arith, lt))
seen-looking h kinds row w (suc last) word lt is n = go (λ less. seen-looking h kinds row w last word less is n) (word == last) refl
  where
    go : (word < last → IsSeen h (looking h kinds row w last) (slice_index_or row word null)) → (b : Bool) → (word == last) ≡ b
        → IsSeen h (looking_at h (looking h kinds row w last) (slice_get kinds last) (slice_index_or row last null)) (slice_index_or row word null)
    go rest true e =
        let here : word ≡ last = grind (arith, nat_tests) in
        rw (← here) (seen-looking_at h (looking h kinds row w word) (slice_get kinds word) (slice_index_or row word null) is n)
    go rest false e =
        let isnt : word ≢ last = grind (arith, nat_tests) in
        stays-looking_at h (looking h kinds row w last) (slice_get kinds last) (slice_index_or row last null) (slice_index_or row word null)
        (rest (omega (arith, lt, isnt)))

-- ---- one by one

-- after one more root
pub first-more : (h : Shared) (found : List WordValue) (w : Walk) (place : ℕ) (r : WordValue) → slice_index_or found place null ≡ r → following h (following_first h found w place) r ≡ following_first h found w (place + 1)
unfolding following_first
first-more h found w place r is = rw (add-one, is) refl

-- the row stays as wide
pub first-wide : (h : Shared) (found : List WordValue) (w now : Walk) (count limit : ℕ) → now ≡ following_first h found w count → length w.met ≤ limit → length now.met ≤ limit
first-wide h found w now count limit is few =
    let wide = (widens-meets h Any w (following_first h found w count) (meets-first h Any w found count (λ place lt n. tt))).wide in
    rw is (omega (arith, wide, few))

-- after one more word
pub looking-more : (h : Shared) (kinds : List WordKind) (row : List WordValue) (w : Walk) (word : ℕ) (kind : WordKind) (held : WordValue) → slice_get kinds word ≡ Some kind → held ≡ slice_index_or row word null
    → looking_at h (looking h kinds row w word) (Some kind) held ≡ looking h kinds row w (word + 1)
unfolding looking
looking-more h kinds row w word kind held is here = rw (add-one, is, here) refl

-- what the words of a cell do to the row and the order
pub widens-looking : (h : Shared) (kinds : List WordKind) (row : List WordValue) (w : Walk) (count : ℕ) → Widens w (looking h kinds row w count)
widens-looking h kinds row w count = widens-meets h Any w (looking h kinds row w count) (meets-looking h Any w kinds row count (λ word is n. tt))

-- the row stays as wide
pub looking-wide : (h : Shared) (kinds : List WordKind) (row : List WordValue) (w now : Walk) (count limit : ℕ) → now ≡ looking h kinds row w count → length w.met ≤ limit → length now.met ≤ limit
looking-wide h kinds row w now count limit is few =
    let wide = (widens-looking h kinds row w count).wide in
    rw is (omega (arith, wide, few))

-- the order stays as long
pub looking-longer : (h : Shared) (kinds : List WordKind) (row : List WordValue) (w now : Walk) (count : ℕ) → now ≡ looking h kinds row w count → length w.order ≤ length now.order
looking-longer h kinds row w now count is = let widens = widens-looking h kinds row w count in rw is (omega (arith, widens.longer))

-- and after one more cell fewer are left
pub looking-smaller : (h : Shared) (kinds : List WordKind) (row : List WordValue) (w now : Walk) (count looked : ℕ) → now ≡ looking h kinds row w count → looked < length w.order
    → length now.order + sum_by unmet now.met - (looked + 1) < length w.order + sum_by unmet w.met - looked
looking-smaller h kinds row w now count looked is lt = let widens = widens-looking h kinds row w count in rw is (omega (arith, widens.left, lt))
