-- What a walk met can be reached; and a walk that looked at all that it met has met all that can be reached.
use Rattle.std.proofs.Common.{◌≡◌, ◌≢◌, ◌≤◌, ◌<◌, ◌+◌, ◌*◌, ◌==◌, inl, inr, ℕ, zero, suc, not, min, nat_le, nat_lt, Bool, true, false, Option, Some, None, List, [], ◌∷◌, ◌++◌, length, slice_get, slice_set, slice_index, slice_index_or, sum_by, replicate, if◌then◌else◌, refl, sym, ap, subst, ◌∙◌, IsTrue, IfSome, arith}
use Rattle.std.proofs.lemmas.Bool.Decides.{nat_tests}
use Rattle.std.proofs.lemmas.List.{get_or_append_left, length-append, get_or-replicate, get_or_past, get_or-set_same, get_or-set_other, length-replicate}
use Rattle.std.proofs.lemmas.List.Folds.{sum_by-replicate}
use Rattle.std.proofs.lemmas.Option.{slice_get_past, slice_get_cases}
use Rattle.std.proofs.Math.Seq.{get_or-append_seam}
use Rattle.lemmas.specs.Lists.{IsIn}
use Rattle.pools.specs.declared.word_kind.WordKind.{WordKind}
use Rattle.pools.specs.Heap.{Setup, kind_of, words_of_cell}
use Rattle.pools.specs.Layouts.{is_reference_kind}
use Rattle.runs.specs.Machine.{WordValue}
use Rattle.runs.specs.Moves.{null}
use Rattle.moves.specs.declared.shared.Shared.{Shared}
use Rattle.moves.specs.Rows.{word_at}
use Rattle.stepping.specs.declared.walk.Walk.{Walk}
use Rattle.stepping.specs.Walks.{Found, globals, root, further, least, blue_with, order_with, begun, meeting, following_first, looking, unmet, IsAtMost, IsSeen, IsFound, IsFoundReborn, IsSound, IsListed, AreFreeRecorded, AreSeen, IsLooked, IsShaped}
use Rattle.stepping.proofs.Meetings.{new-within, met-before, at_most-least, Widens, widens-meeting, Meets, met-none, met-more, Any, meets-first, meets-looking, widens-meets, stays-meets, seen-meeting, seen-first, seen-looking}

-- ---- what was met is there

-- where a list has no element it is over
pub none-past : (each : List ℕ) (place : ℕ) → slice_get each place ≡ None → length each ≤ place
none-past each place none = elim ((slice_get_cases each place).1) [
  | inl is ↦ (let clash : Some is.0 ≡ None = sym is.2 ∙ none in absurd cc)
  | inr over ↦ over.0
]

shaped-meeting : (cells : ℕ) (h : Shared) (w : Walk) (r : WordValue) → IsShaped cells w → IsShaped cells (meeting h w r)
shaped-meeting cells h w r shaped =
    let widens = widens-meeting h w r in
    record { wide = widens.wide ∙ shaped.wide; left = widens.left ∙ shaped.left; within = within (slice_index_or w.met r.cell true) refl; are_met = are_met (slice_index_or w.met r.cell true) refl }
  where
    last : (place : ℕ) → (b : Bool) → (place == length w.order) ≡ b → r.cell < length w.met → place < length (w.order ++ r.cell ∷ []) → slice_index (w.order ++ r.cell ∷ []) place < cells
    last place true e new lt =
        let is : place ≡ length w.order = grind (arith, nat_tests) in
        let here : slice_index (w.order ++ r.cell ∷ []) place ≡ r.cell = ap (λ p. slice_index (w.order ++ r.cell ∷ []) p) is ∙ get_or-append_seam w.order r.cell [] 0 in
        rw here (omega (arith, new, shaped.wide))
    last place false e new lt =
        let isnt : place ≢ length w.order = grind (arith, nat_tests) in
        let long : length (w.order ++ r.cell ∷ []) ≡ length w.order + 1 = length-append w.order (r.cell ∷ []) in
        let less : place < length w.order = omega (arith, isnt, long, lt) in
        rw (get_or_append_left w.order (r.cell ∷ []) 0 place less) (shaped.within place less)

    within : (b : Bool) → slice_index_or w.met r.cell true ≡ b → (place : ℕ) → place < length (if not b then w.order ++ r.cell ∷ [] else w.order) → slice_index (if not b then w.order ++ r.cell ∷ [] else w.order) place < cells
    within true e place lt = shaped.within place lt
    within false e place lt = last place (place == length w.order) refl (new-within w.met r.cell e) lt

    set : slice_index_or w.met r.cell true ≡ false → (cell : ℕ) → (b : Bool) → (cell == r.cell) ≡ b → (b ≡ false → slice_index_or w.met cell false ≡ true) → slice_index_or (slice_set w.met r.cell true) cell false ≡ true
    set new cell true e was =
        let is : cell ≡ r.cell = grind (arith, nat_tests) in
        rw is (get_or-set_same w.met r.cell true false (new-within w.met r.cell new))
    set new cell false e was =
        let isnt : cell ≢ r.cell = grind (arith, nat_tests) in
        get_or-set_other w.met r.cell cell true false isnt ∙ was refl

    last-met : (place : ℕ) → (b : Bool) → (place == length w.order) ≡ b → slice_index_or w.met r.cell true ≡ false → place < length (w.order ++ r.cell ∷ [])
        → slice_index_or (slice_set w.met r.cell true) (slice_index (w.order ++ r.cell ∷ []) place) false ≡ true
    last-met place true e new lt =
        let is : place ≡ length w.order = grind (arith, nat_tests) in
        let here : slice_index (w.order ++ r.cell ∷ []) place ≡ r.cell = ap (λ p. slice_index (w.order ++ r.cell ∷ []) p) is ∙ get_or-append_seam w.order r.cell [] 0 in
        rw here (get_or-set_same w.met r.cell true false (new-within w.met r.cell new))
    last-met place false e new lt =
        let isnt : place ≢ length w.order = grind (arith, nat_tests) in
        let long : length (w.order ++ r.cell ∷ []) ≡ length w.order + 1 = length-append w.order (r.cell ∷ []) in
        let less : place < length w.order = omega (arith, isnt, long, lt) in
        rw (get_or_append_left w.order (r.cell ∷ []) 0 place less) (set new (slice_index w.order place) (slice_index w.order place == r.cell) refl (λ other. shaped.are_met place less))

    are_met : (b : Bool) → slice_index_or w.met r.cell true ≡ b → (place : ℕ) → place < length (if not b then w.order ++ r.cell ∷ [] else w.order)
        → slice_index_or (if not b then slice_set w.met r.cell true else w.met) (slice_index (if not b then w.order ++ r.cell ∷ [] else w.order) place) false ≡ true
    are_met true e place lt = shaped.are_met place lt
    are_met false e place lt = last-met place (place == length w.order) refl e lt

-- after several references
pub shaped-meets : (cells : ℕ) (h : Shared) (P : WordValue → Type 0) (w : Walk) → IsShaped cells w → (v : Walk) → Meets h P w v → IsShaped cells v
shaped-meets cells h P w shaped _ met-none = shaped
shaped-meets cells h P w shaped _ (met-more v r meets is_such) = shaped-meeting cells h v r (shaped-meets cells h P w shaped v meets)

-- the row before any reference is met
shaped-begun : (cells : ℕ) → IsShaped cells (begun cells)
shaped-begun cells =
    let wide : length (replicate cells false) ≡ cells = length-replicate cells false in
    let counted : sum_by unmet (replicate cells false) ≡ cells * 1 = sum_by-replicate unmet cells false in
    record { wide = wide; left = omega (arith, counted); within = λ place lt. absurd (omega (arith, lt)); are_met = λ place lt. absurd (omega (arith, lt)) }

-- ---- what was met can be reached

-- what holds of both holds of the least
least-one : (P : ℕ → Type 0) (least_so_far : Option ℕ) (cell : ℕ) → IfSome least_so_far P → P cell → P (least least_so_far cell)
least-one P None cell h here = here
least-one P (Some first) cell h here = go (nat_le first cell) refl
  where
    go : (b : Bool) → nat_le first cell ≡ b → P (min first cell)
    go true e =
        let le : first ≤ cell = grind (arith, nat_tests) in
        let is : first ≡ min first cell = omega (arith, le) in
        subst P is h
    go false e =
        let gt : cell < first = grind (arith, nat_tests) in
        let is : cell ≡ min first cell = omega (arith, gt) in
        subst P is here

module _ (s : Setup) (h : Shared) (roots : List WordValue) where
  sound-cells : (w : Walk) (r : WordValue) → Found s h roots r → IsSound s h roots w → (place : ℕ) → place < length (order_with w.met w.order r.cell) → IsFound s h roots (slice_index (order_with w.met w.order r.cell) place)
  sound-cells w r found sound = go (slice_index_or w.met r.cell true)
    where
      last : (place : ℕ) → (b : Bool) → (place == length w.order) ≡ b → place < length (w.order ++ r.cell ∷ []) → IsFound s h roots (slice_index (w.order ++ r.cell ∷ []) place)
      last place true e lt =
          let is : place ≡ length w.order = grind (arith, nat_tests) in
          let here : slice_index (w.order ++ r.cell ∷ []) place ≡ r.cell = ap (λ p. slice_index (w.order ++ r.cell ∷ []) p) is ∙ get_or-append_seam w.order r.cell [] 0 in
          rw here (record { birth = r.birth; is_found = found })
      last place false e lt =
          let isnt : place ≢ length w.order = grind (arith, nat_tests) in
          let long : length (w.order ++ r.cell ∷ []) ≡ length w.order + 1 = length-append w.order (r.cell ∷ []) in
          let less : place < length w.order = omega (arith, isnt, long, lt) in
          rw (get_or_append_left w.order (r.cell ∷ []) 0 place less) (sound.cells place less)

      go : (b : Bool) → (place : ℕ) → place < length (if not b then w.order ++ r.cell ∷ [] else w.order) → IsFound s h roots (slice_index (if not b then w.order ++ r.cell ∷ [] else w.order) place)
      go true place lt = sound.cells place lt
      go false place lt = last place (place == length w.order) refl lt

  sound-meeting : (w : Walk) (r : WordValue) → Found s h roots r → IsSound s h roots w → IsSound s h roots (meeting h w r)
  sound-meeting w r found sound = record {
    cells = sound-cells w r found sound;
    blue = blue (slice_index h.colours r.cell == 0) refl;
    reborn = reborn (slice_index h.births r.cell == r.birth) refl;
  }
    where
      here : IsFound s h roots r.cell
      here = record { birth = r.birth; is_found = found }

      blue : (b : Bool) → (slice_index h.colours r.cell == 0) ≡ b → IfSome (if b then Some (least w.blue r.cell) else w.blue) (λ cell. (slice_index h.colours cell ≡ 0) × IsFound s h roots cell)
      blue true e =
          let is : slice_index h.colours r.cell ≡ 0 = grind (arith, nat_tests) in
          least-one (λ cell. (slice_index h.colours cell ≡ 0) × IsFound s h roots cell) w.blue r.cell sound.blue (is, here)
      blue false e = sound.blue

      reborn : (b : Bool) → (slice_index h.births r.cell == r.birth) ≡ b → IfSome (if b then w.reborn else Some (least w.reborn r.cell)) (IsFoundReborn s h roots)
      reborn true e = sound.reborn
      reborn false e =
          let isnt : slice_index h.births r.cell ≢ r.birth = grind (arith, nat_tests) in
          least-one (IsFoundReborn s h roots) w.reborn r.cell sound.reborn (record { birth = r.birth; is_found = found; is_reborn = isnt })

  -- after several references that can be reached
  pub sound-meets : (w : Walk) → IsSound s h roots w → (v : Walk) → Meets h (Found s h roots) w v → IsSound s h roots v
  sound-meets w sound _ met-none = sound
  sound-meets w sound _ (met-more v r meets found) = sound-meeting v r found (sound-meets w sound v meets)

-- ---- what was met is in the order, and is not free

listed-meeting : (h : Shared) (w : Walk) (r : WordValue) → IsListed w → IsListed (meeting h w r)
listed-meeting h w r was = listed (slice_index_or w.met r.cell true) refl
  where
    listed : (b : Bool) → slice_index_or w.met r.cell true ≡ b → (cell : ℕ) → slice_index_or (if not b then slice_set w.met r.cell true else w.met) cell false ≡ true
        → (place : ℕ) × (place < length (if not b then w.order ++ r.cell ∷ [] else w.order)) × (slice_index (if not b then w.order ++ r.cell ∷ [] else w.order) place ≡ cell)
    listed true e cell is = was cell is
    listed false e cell is =
        let long : length (w.order ++ r.cell ∷ []) ≡ length w.order + 1 = length-append w.order (r.cell ∷ []) in
        elim (met-before w.met r.cell cell is) [
          | inl before ↦ (let old = was cell before in (old.0, omega (arith, old.1, long), get_or_append_left w.order (r.cell ∷ []) 0 old.0 old.1 ∙ old.2))
          | inr same ↦ (length w.order, omega (arith, long), get_or-append_seam w.order r.cell [] 0 ∙ sym same)
        ]

recorded-meeting : (h : Shared) (w : Walk) (r : WordValue) → AreFreeRecorded h w → AreFreeRecorded h (meeting h w r)
recorded-meeting h w r was cell is free = go (slice_index_or w.met r.cell true) is
  where
    later : IsAtMost w.blue cell → IsAtMost (blue_with h w.blue r) cell
    later most = here (slice_index h.colours r.cell == 0)
      where
        here : (b : Bool) → IsAtMost (if b then Some (least w.blue r.cell) else w.blue) cell
        here true = at_most-least w.blue r.cell cell most
        here false = most

    now : cell ≡ r.cell → IsAtMost (blue_with h w.blue r) cell
    now same = subst (λ c. IsAtMost (blue_with h w.blue r) c) (sym same) ((seen-meeting h w r).blue (sym (ap (slice_index h.colours) same) ∙ free))

    go : (b : Bool) → slice_index_or (if not b then slice_set w.met r.cell true else w.met) cell false ≡ true → IsAtMost (blue_with h w.blue r) cell
    go true met = later (was cell met free)
    go false met = elim (met-before w.met r.cell cell met) [
      | inl before ↦ later (was cell before free)
      | inr same ↦ now same
    ]

module _ (h : Shared) (P : WordValue → Type 0) (w : Walk) where
  pub listed-meets : IsListed w → (v : Walk) → Meets h P w v → IsListed v
  listed-meets was _ met-none = was
  listed-meets was _ (met-more v r meets is_such) = listed-meeting h v r (listed-meets was v meets)

  pub recorded-meets : AreFreeRecorded h w → (v : Walk) → Meets h P w v → AreFreeRecorded h v
  recorded-meets was _ met-none = was
  recorded-meets was _ (met-more v r meets is_such) = recorded-meeting h v r (recorded-meets was v meets)

-- ---- before any reference is met

none-met : (cells cell : ℕ) → slice_index_or (replicate cells false) cell false ≡ true → ⊥
none-met cells cell is = go (nat_lt cell cells) refl is
  where
    go : (b : Bool) → nat_lt cell cells ≡ b → slice_index_or (replicate cells false) cell false ≡ true → ⊥
    go true e is =
        let lt : cell < cells = grind (arith, nat_tests) in
        let no : slice_index_or (replicate cells false) cell false ≡ false = get_or-replicate cells cell false false lt in
        cc
    go false e is =
        let wide : length (replicate cells false) ≡ cells = length-replicate cells false in
        let ge : cells ≤ cell = grind (arith, nat_tests) in
        let no : slice_index_or (replicate cells false) cell false ≡ false = get_or_past (replicate cells false) cell false (omega (arith, wide, ge)) in
        cc

module _ (s : Setup) (h : Shared) (roots : List WordValue) where
  -- ---- the roots

  root-at : (each : List WordValue) (place : ℕ) → place < length each → IsIn (slice_index_or each place null) each
  root-at [] place lt = absurd (omega (arith, lt))
  root-at (first ∷ each) zero lt = inl refl
  root-at (first ∷ each) (suc place) lt = inr (root-at each place (omega (arith, lt)))

  place-of : (each : List WordValue) (r : WordValue) → IsIn r each → (place : ℕ) × (place < length each) × (slice_index_or each place null ≡ r)
  place-of [] r is_in = absurd is_in
  place-of (first ∷ each) r (inl is) = (0, omega arith, sym is)
  place-of (first ∷ each) r (inr later) = let rest = place-of each r later in (suc rest.0, omega (arith, rest.1), rest.2)

  -- each of them was met
  pub roots-seen : (w : Walk) (r : WordValue) → IsIn r roots → r.cell ≢ 0 → IsSeen h (following_first h roots w (length roots)) r
  roots-seen w r is_in n = go (place-of roots r is_in)
    where
      go : (place : ℕ) × (place < length roots) × (slice_index_or roots place null ≡ r) → IsSeen h (following_first h roots w (length roots)) r
      go at = subst (λ (q : WordValue). q.cell ≢ 0 → IsSeen h (following_first h roots w (length roots)) q) at.2 (seen-first h roots w (length roots) at.0 at.1) n

  -- the walk before it looks into cells
  abbrev pub rooted : (cells : ℕ) → Walk
  rooted cells = following_first h roots (meeting h (begun cells) null) (length roots)

  pub rooted-by : (cells : ℕ) (first met w : Walk) → first ≡ begun cells → met ≡ meeting h first null → w ≡ following_first h roots met (length roots) → w ≡ rooted cells
  rooted-by cells first met w e f g = rw (g, f, e) refl

  meets-roots : (w : Walk) → Meets h (Found s h roots) w (following_first h roots w (length roots))
  meets-roots w = meets-first h (Found s h roots) w roots (length roots) (λ place lt n. root (slice_index_or roots place null) (root-at roots place lt) n)

  globals-met : (cells : ℕ) → Meets h (Found s h roots) (begun cells) (meeting h (begun cells) null)
  globals-met cells = met-more (begun cells) null met-none globals

  pub shaped-rooted : (cells : ℕ) → IsShaped cells (rooted cells)
  shaped-rooted cells =
      shaped-meets cells h (Found s h roots) (meeting h (begun cells) null) (shaped-meets cells h (Found s h roots) (begun cells) (shaped-begun cells) (meeting h (begun cells) null) (globals-met cells))
      (rooted cells) (meets-roots (meeting h (begun cells) null))

  pub sound-rooted : (cells : ℕ) → IsSound s h roots (rooted cells)
  sound-rooted cells =
      let begun-sound : IsSound s h roots (begun cells) = record { cells = λ place lt. absurd (omega (arith, lt)); blue = tt; reborn = tt } in
      sound-meets s h roots (meeting h (begun cells) null) (sound-meets s h roots (begun cells) begun-sound (meeting h (begun cells) null) (globals-met cells))
      (rooted cells) (meets-roots (meeting h (begun cells) null))

  pub looked-rooted : (cells : ℕ) → IsLooked s h (rooted cells) 0
  looked-rooted cells = record {
    listed = listed-meets h (Found s h roots) first (listed-meeting h (begun cells) null (λ cell is. absurd (none-met cells cell is))) (rooted cells) (meets-roots first);
    free = recorded-meets h (Found s h roots) first (recorded-meeting h (begun cells) null (λ cell is free. absurd (none-met cells cell is))) (rooted cells) (meets-roots first);
    words_seen = λ place lt. absurd (omega (arith, lt));
  }
    where
      first : Walk
      first = meeting h (begun cells) null

  pub globals-seen : (cells : ℕ) → IsSeen h (rooted cells) null
  globals-seen cells = stays-meets h (Found s h roots) (meeting h (begun cells) null) null (seen-meeting h (begun cells) null) (rooted cells) (meets-roots (meeting h (begun cells) null))

module _ (s : Setup) (h : Shared) where
  -- ---- the walk over the cells that were met

  -- a word that holds references is one of the cell
  word-within : (kinds : List WordKind) (word : ℕ) → IsTrue (is_reference_kind (slice_get kinds word)) → word < length kinds
  word-within kinds word is = go (nat_lt word (length kinds)) refl
    where
      go : (b : Bool) → nat_lt word (length kinds) ≡ b → word < length kinds
      go true e = grind (arith, nat_tests)
      go false e =
          let ge : length kinds ≤ word = grind (arith, nat_tests) in
          let none : slice_get kinds word ≡ None = slice_get_past kinds word ge in
          absurd (lost (subst (λ (k : Option WordKind). IsTrue (is_reference_kind k)) none is))
        where
          lost : IsTrue false → ⊥
          lost t = cc

  -- the walk after the words of a cell of the heap
  abbrev looked_into : Walk → (cell : ℕ) → Walk
  looked_into w cell = looking h (words_of_cell s cell) (slice_index_or h.words cell []) w (length (words_of_cell s cell))

  -- what they hold was met
  seen-into : (w : Walk) (cell : ℕ) → AreSeen s h (looked_into w cell) cell
  unfolding kind_of
  seen-into w cell word is n =
      seen-looking h (words_of_cell s cell) (slice_index_or h.words cell []) w (length (words_of_cell s cell)) word (word-within (words_of_cell s cell) word is) is n

  -- after references of this kind
  meets-into : (P : WordValue → Type 0) (w : Walk) (cell : ℕ) → ((word : ℕ) → IsTrue (is_reference_kind (kind_of s cell word)) → (word_at h.words cell word).cell ≢ 0 → P (word_at h.words cell word)) → Meets h P w (looked_into w cell)
  unfolding kind_of
  meets-into P w cell are_such = meets-looking h P w (words_of_cell s cell) (slice_index_or h.words cell []) (length (words_of_cell s cell)) are_such

  any-into : (w : Walk) (cell : ℕ) → Meets h Any w (looked_into w cell)
  any-into w cell = meets-into Any w cell (λ word is n. tt)

  pub shaped-into : (cells : ℕ) (w : Walk) (cell : ℕ) → IsShaped cells w → IsShaped cells (looked_into w cell)
  shaped-into cells w cell shaped = shaped-meets cells h Any w shaped (looked_into w cell) (any-into w cell)

  pub stays-into : (w : Walk) (cell : ℕ) (r : WordValue) → IsSeen h w r → IsSeen h (looked_into w cell) r
  stays-into w cell r was = stays-meets h Any w r was (looked_into w cell) (any-into w cell)

  pub sound-into : (roots : List WordValue) (w : Walk) (looked cell : ℕ) → looked < length w.order → slice_index w.order looked ≡ cell → IsSound s h roots w → IsSound s h roots (looked_into w cell)
  sound-into roots w looked cell lt is sound = go (subst (λ c. IsFound s h roots c) is (sound.cells looked lt))
    where
      go : IsFound s h roots cell → IsSound s h roots (looked_into w cell)
      go found = sound-meets s h roots w sound (looked_into w cell) (meets-into (Found s h roots) w cell (λ word kind n. further (record { cell = cell; birth = found.birth }) word found.is_found kind n))

  -- after one more cell
  pub looked-more : (w : Walk) (looked cell : ℕ) → looked < length w.order → slice_index w.order looked ≡ cell → IsLooked s h w looked → IsLooked s h (looked_into w cell) (looked + 1)
  looked-more w looked cell lt is was = record {
    listed = listed-meets h Any w was.listed (looked_into w cell) (any-into w cell);
    free = recorded-meets h Any w was.free (looked_into w cell) (any-into w cell);
    words_seen = λ place below. words place (place == looked) refl below;
  }
    where
      widens : Widens w (looked_into w cell)
      widens = widens-meets h Any w (looked_into w cell) (any-into w cell)

      words : (place : ℕ) → (b : Bool) → (place == looked) ≡ b → place < looked + 1 → AreSeen s h (looked_into w cell) (slice_index (looked_into w cell).order place)
      words place true e below =
          let here : place ≡ looked = grind (arith, nat_tests) in
          let cell_is : slice_index (looked_into w cell).order place ≡ cell = ap (λ p. slice_index (looked_into w cell).order p) here ∙ widens.same looked lt ∙ is in
          subst (λ c. AreSeen s h (looked_into w cell) c) (sym cell_is) (seen-into w cell)
      words place false e below =
          let isnt : place ≢ looked = grind (arith, nat_tests) in
          let less : place < looked = omega (arith, below, isnt) in
          let cell_is : slice_index (looked_into w cell).order place ≡ slice_index w.order place = widens.same place (omega (arith, less, lt)) in
          subst (λ c. AreSeen s h (looked_into w cell) c) (sym cell_is)
          (λ word kind n. stays-into w cell (word_at h.words (slice_index w.order place) word) (was.words_seen place less word kind n))
