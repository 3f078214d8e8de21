-- A walk that looked at all that it met finds the first thing that is gone and can be reached after a run.
use Rattle.std.proofs.Common.{◌≡◌, ◌≢◌, ◌<◌, inl, inr, ℕ, zero, suc, Bool, true, false, Option, Some, None, List, [], ◌∷◌, length, slice_index, slice_index_or, refl, sym, ap, subst, ◌∙◌, IsTrue, IfSome, arith}
use Rattle.lemmas.specs.Lists.{IsIn}
use Rattle.pools.specs.declared.word_kind.WordKind.{WordKind}
use Rattle.pools.specs.declared.word_kind.WordKind.TheVariants as kind
use Rattle.pools.specs.Heap.{Setup, cells, kind_of}
use Rattle.pools.specs.Layouts.{is_reference_kind}
use Rattle.colours.specs.declared.place.Place.TheVariants.{Colour, Word}
use Rattle.runs.specs.Machine.{WordValue, Machine}
use Rattle.runs.specs.ModuleRuns.{Happening, birth_in}
use Rattle.runs.specs.Broken as broken
use Rattle.runs.specs.Broken.{IsReachable}
use Rattle.moves.specs.declared.shared.Shared.{Shared}
use Rattle.moves.specs.Rows.{word_at}
use Rattle.moves.specs.Shared.{HasShape, ThreadStateAfter}
use Rattle.stepping.specs.declared.walk.Walk.{Walk}
use Rattle.stepping.specs.Covers.{held_in}
use Rattle.stepping.specs.Reach.{AreRoots, IsFirstGone, gone_of}
use Rattle.stepping.specs.Walks.{Found, globals, root, further, IsAtMost, IsSeen, IsFound, IsFoundReborn, IsClosed, IsWhole}

-- ---- all that can be reached was met

-- a word that holds references has a kind
pub held-kind : (k : Option WordKind) → IsTrue (is_reference_kind k) → (layout : ℕ) × (k ≡ Some (kind.Reference layout))
held-kind None is = absurd cc
held-kind (Some (kind.Integer bits)) is = absurd cc
held-kind (Some (kind.Reference layout)) is = (layout, refl)

-- a cell of the row that is met was listed
pub listed-met : (met : List Bool) (cell : ℕ) → cell < length met → slice_index_or met cell true ≡ true → slice_index_or met cell false ≡ true
listed-met [] cell lt is = absurd (omega (arith, lt))
listed-met (first ∷ met) zero lt is = is
listed-met (first ∷ met) (suc cell) lt is = listed-met met cell (omega (arith, lt)) is

module _ (s : Setup) (h : Shared) (roots : List WordValue) (shape : HasShape s h) (are_cells : (r : WordValue) → IsIn r roots → r.cell < cells s) where
  -- what can be reached is a cell
  found-cell : (r : WordValue) → Found s h roots r → r.cell < cells s
  found-cell _ globals = omega arith
  found-cell _ (root r is_in n) = are_cells r is_in
  found-cell _ (further r word found is n) =
      let k = held-kind (kind_of s r.cell word) is in
      let fits = shape.kinds r.cell word (kind.Reference k.0) (found-cell r found) k.1 in
      elim fits [ inl null_is ↦ absurd (n null_is) | inr of_layout ↦ of_layout.1 ]

  -- all that can be reached was met
  pub seen-all : (w : Walk) → length w.met ≡ cells s → IsClosed s h roots w → (r : WordValue) → Found s h roots r → IsSeen h w r
  seen-all w wide closed _ globals = closed.globals_seen
  seen-all w wide closed _ (root r is_in n) = closed.roots_seen r is_in n
  seen-all w wide closed _ (further r word found is n) =
      let seen = seen-all w wide closed r found in
      let lt : r.cell < length w.met = let below = found-cell r found in omega (arith, below, wide) in
      let at = closed.looked.listed r.cell (listed-met w.met r.cell lt seen.met) in
      let words = closed.looked.words_seen at.0 at.1 in
      subst (λ c. IsTrue (is_reference_kind (kind_of s c word)) → (word_at h.words c word).cell ≢ 0 → IsSeen h w (word_at h.words c word)) at.2 (words word) is n

-- ---- as after the run

-- what a word holds
pub word-is : (s : Setup) (run : List Happening) (h : Shared) → ThreadStateAfter s run h → (cell word : ℕ) → held_in s run cell word ≡ word_at h.words cell word
word-is s run h thread_state cell word =
    sym (ap (λ c. record { cell = c; birth = birth_in run cell word }) (thread_state.afterwards.words (Word cell word)))
    ∙ ap (λ b. record { cell = (word_at h.words cell word).cell; birth = b }) (sym (thread_state.afterwards.word_births cell word))

module _ (s : Setup) (m : Machine) (starts : ℕ → m.State) (run : List Happening) (h : Shared) (roots : List WordValue)
    (thread_state : ThreadStateAfter s run h) (are : AreRoots s m starts run roots) where
  -- what is found can be reached
  reachable : (r : WordValue) → Found s h roots r → IsReachable s m starts run r
  reachable _ globals = broken.globals
  reachable _ (root r is_in n) = broken.from r (are.are_roots r is_in n) n
  reachable _ (further r word found is n) =
      subst (λ (q : WordValue). IsReachable s m starts run q) (word-is s run h thread_state r.cell word)
      (broken.further r word (reachable r found) is (λ z. n (thread_state.afterwards.words (Word r.cell word) ∙ z)))

  -- and what can be reached is found
  found-all : (r : WordValue) → IsReachable s m starts run r → Found s h roots r
  found-all _ broken.globals = globals
  found-all _ (broken.from r is_root n) = root r (are.all r is_root n) n
  found-all _ (broken.further r word reached is n) =
      subst (λ (q : WordValue). Found s h roots q) (sym (word-is s run h thread_state r.cell word))
      (further r word (found-all r reached) is (λ z. n (sym (thread_state.afterwards.words (Word r.cell word)) ∙ z)))

  -- the first that is gone, by the least of what was met
  abbrev IsFreeCell : ℕ → Type 0
  IsFreeCell cell = (slice_index h.colours cell ≡ 0) × IsFound s h roots cell

  first-of : (blue reborn : Option ℕ) → IfSome blue IsFreeCell → IfSome reborn (IsFoundReborn s h roots)
      → ((r : WordValue) → Found s h roots r → slice_index h.colours r.cell ≡ 0 → IsAtMost blue r.cell)
      → ((r : WordValue) → Found s h roots r → slice_index h.births r.cell ≢ r.birth → IsAtMost reborn r.cell)
      → IsFirstGone s m starts run (gone_of blue reborn)
  first-of (Some cell) reborn free claimed blues reborns = (
    (record { cell = cell; birth = free.1.birth }, reachable (record { cell = cell; birth = free.1.birth }) free.1.is_found, refl, sym (thread_state.afterwards.words (Colour cell)) ∙ free.0),
    λ other lt shown.
        let most = blues shown.0 (found-all shown.0 shown.1) (thread_state.afterwards.words (Colour shown.0.cell) ∙ shown.3) in
        absurd (omega (arith, lt, most, shown.2)),
  )
  first-of None (Some cell) free claimed blues reborns = (
    λ other shown. blues shown.0 (found-all shown.0 shown.1) (thread_state.afterwards.words (Colour shown.0.cell) ∙ shown.3),
    (record { cell = cell; birth = claimed.birth }, reachable (record { cell = cell; birth = claimed.birth }) claimed.is_found, refl, λ z. claimed.is_reborn (thread_state.afterwards.births cell ∙ z)),
    λ other lt shown.
        let most = reborns shown.0 (found-all shown.0 shown.1) (λ z. shown.3 (sym (thread_state.afterwards.births shown.0.cell) ∙ z)) in
        absurd (omega (arith, lt, most, shown.2)),
  )
  first-of None None free claimed blues reborns = λ r reached gone.
      elim gone [
        | inl blue ↦ blues r (found-all r reached) (thread_state.afterwards.words (Colour r.cell) ∙ blue)
        | inr reborn ↦ reborns r (found-all r reached) (λ z. reborn (sym (thread_state.afterwards.births r.cell) ∙ z))
      ]

  -- a walk that looked at all that it met finds it
  pub first-gone : (w : Walk) → length w.met ≡ cells s → IsWhole s h roots w → IsFirstGone s m starts run (gone_of w.blue w.reborn)
  first-gone w wide whole =
      let seen = seen-all s h roots thread_state.shape are.are_cells w wide whole.closed in
      first-of w.blue w.reborn whole.sound.blue whole.sound.reborn (λ r found. (seen r found).blue) (λ r found. (seen r found).reborn)
