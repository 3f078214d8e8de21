-- Each step but a look of a pass leads from a place to one place at most, in the code and in the order.
use Rattle.std.proofs.Common.{◌≡◌, ◌≢◌, ◌⊎◌, inl, inr, ℕ, zero, suc, ◌+◌, ◌-◌, ◌%◌, ◌^◌, ◌<◌, ◌≤◌, ◌==◌, ◌&&◌, nat_lt, Bool, true, false, Option, Some, None, List, [], ◌∷◌, length, refl, sym, ap, ◌∙◌, subst, if◌then◌else◌, arith, IsTrue}
use Rattle.std.specs.Prelude.{nat_le}
use Rattle.lemmas.specs.Numbers.{test_true, test_false, test_yes, test_no, lt_true, lt_false, lt_yes, lt_no}
use Rattle.lemmas.specs.Bools.{yes_or_no, and_parts, and_true}
use Rattle.std.proofs.lemmas.Bool.Decides.{nat_tests}
use Rattle.pools.specs.Heap.{Setup, cells, words_of_cell, kind_of}
use Rattle.pools.specs.Layouts.{is_reference_kind}
use Rattle.colours.specs.declared.turn.Turn.{Turn}
use Rattle.colours.specs.declared.turn.Turn.TheVariants.{PostStage, ReadStage, MarkFound, ReadColour, ScanWord, Blacken, ClearWord, Free}
use Rattle.colours.specs.Colours.{cycle_of, grey}
use Rattle.colours.specs.Collector as order
use Rattle.colours.specs.Collector.{Collection, posted_of, Turns, has_answered, is_white, reference_from, skip_integers}
use Rattle.collector_law.specs.Theorems.{skip_found}
use Rattle.collector_places.specs.declared.spot.Pass.{Pass}
use Rattle.collector_places.specs.declared.spot.Spot.{Spot}
use Rattle.collector_places.specs.declared.spot.Spot.TheVariants.{Posting, Waiting, ShadingGlobals, Passing, Scanning, Shading, Sweeping, Clearing}
use Rattle.collector_places.specs.Counts.{count_of, looks_at, shades_of}
use Rattle.collector_places.specs.Spots.{IsTold, IsPassAt, IsAt, IsUnlooked}
use Rattle.collector_places.specs.Nexts.{pass_from, sweep_from, after_wait, wait_from, only_if, after_turn}
use Rattle.collector_places.specs.Places.{NamesCell}
use Rattle.collector_places.proofs.CountLemmas.{mark_told, scan_told, blacken_told}
use Rattle.collector_places.proofs.PassLemmas.{IsNear, sweep_at, pass_at, wait_at}

-- the step is a look of a pass
abbrev pub IsLook : Spot → Turn → Type 0
IsLook (Passing p) (ReadColour cell colour) = Unit {0}
IsLook _ _ = ⊥

le_true : (a b : ℕ) → nat_le a b ≡ true → a ≤ b
le_true a b e = grind (arith, nat_tests)

le_yes : (a b : ℕ) → a ≤ b → nat_le a b ≡ true
le_yes a b e = grind (arith, nat_tests)

-- the reference word in turn is not before this word
skip_above : (s : Setup) (cell word left : ℕ) → word ≤ skip_integers s cell word left
skip_above s cell word zero = omega arith
skip_above s cell word (suc left) = elim (yes_or_no (is_reference_kind (kind_of s cell word))) [
  | inl e ↦ rw e (omega arith)
  | inr e ↦ let k = skip_above s cell (suc word) left in rw e (omega (arith, k))
]

-- a test that lets a spot through held, and the spot is that one
pub passed : (b : Bool) (spot next : Spot) → only_if b spot ≡ Some next → (b ≡ true) × (spot ≡ next)
passed true spot next e = (refl, cc)
passed false spot next e = absurd cc

-- the code comes to a spot that stands for a place to which the order leads
abbrev pub Follows : (near : Setup → ℕ → ℕ → Type 0) → Setup → List Turn → Collection → Turn → Spot → Type 0
Follows near s log c turn next = (d : Collection) × Turns s (posted_of log) c turn d × IsAt near s (turn ∷ log) next d

-- the order's place is one for which a spot of the code stands
abbrev pub Reaches : (near : Setup → ℕ → ℕ → Type 0) → Setup → List Turn → Option Spot → Turn → Collection → Type 0
Reaches near s log found turn d = (next : Spot) × (found ≡ Some next) × IsAt near s (turn ∷ log) next d

module _ (near : Setup → ℕ → ℕ → Type 0) (is : IsNear near) (s : Setup) (log : List Turn) where
  -- the test held, so the order goes on
  onward : (turn : Turn) (c d : Collection) (b : Bool) (spot next : Spot) → only_if b spot ≡ Some next → (b ≡ true → Turns s (posted_of log) c turn d) → (b ≡ true → IsAt near s (turn ∷ log) spot d) → Follows near s log c turn next
  onward turn c d b spot next e f g = let p = passed b spot next e in (d, f p.0, subst (λ x. IsAt near s (turn ∷ log) x d) p.1 (g p.0))

  -- the order goes on, so the test holds
  reached : (turn : Turn) (d : Collection) (b : Bool) (spot : Spot) → b ≡ true → IsAt near s (turn ∷ log) spot d → Reaches near s log (only_if b spot) turn d
  reached turn d b spot e at = (spot, (rw e refl), at)

  pass_told : (turn : Turn) (p : Pass) (q : order.Pass) → IsPassAt near s log p q → IsTold s (turn ∷ log) p.rounds q → IsPassAt near s (turn ∷ log) p q
  pass_told turn p q at t = record { next = at.next; met = at.met; told = t }

  -- ---- the spots after each step

  waits : (thread t found : ℕ) → IsUnlooked log
      → IsAt near s (ReadStage t found ∷ log) (if has_answered (posted_of log) found then wait_from s (posted_of log) (suc thread) else Waiting thread)
      (if has_answered (posted_of log) found then order.wait_from s (posted_of log) (suc thread) else order.Waiting thread)
  waits thread t found none = elim (yes_or_no (has_answered (posted_of log) found)) [
    | inl e ↦ rw e (wait_at near is s (ReadStage t found ∷ log) (posted_of log) (suc thread) none)
    | inr e ↦ rw e (refl, none)
  ]

  posts : (to : ℕ) → IsAt near s (PostStage to ∷ log) (wait_from s to 0) (order.wait_from s to 0)
  posts to = wait_at near is s (PostStage to ∷ log) to 0 (λ c. (refl, refl))

  scans : (cell w value : ℕ) (p : Pass) (q : order.Pass) → IsPassAt near s log p q → (value ≢ 0 → value < cells s)
      → IsAt near s (ScanWord cell w value ∷ log) (if value == 0 then Scanning cell (suc w) p else Shading value cell (suc w) p) (if value == 0 then order.Scanning cell (suc w) q else order.Shading value cell (suc w) q)
  scans cell w value p q at names = elim (yes_or_no (value == 0)) [
    | inl e ↦ rw e (q, refl, pass_told (ScanWord cell w value) p q at (scan_told s log p.rounds cell w value q at.told))
    | inr e ↦ rw e (q, refl, pass_told (ScanWord cell w value) p q at (scan_told s log p.rounds cell w value q at.told), names (test_false value 0 e))
  ]

  marks : (value cell word colour : ℕ) (p : Pass) (q : order.Pass) → IsPassAt near s log p q → value < cells s
      → IsAt near s (MarkFound value colour ∷ log) (Scanning cell word p) (order.Scanning cell word (order.shaded_too (posted_of log) q value colour))
  marks value cell word colour p q at lt = (order.shaded_too (posted_of log) q value colour, refl, record { next = next; met = met; told = mark_told s log p.rounds value colour q at.told lt })
    where
      next : near s (order.shaded_too (posted_of log) q value colour).next p.next
      next = elim (yes_or_no (nat_lt colour (grey (cycle_of (posted_of log))))) [ inl e ↦ rw e at.next | inr e ↦ rw e at.next ]

      met : (order.shaded_too (posted_of log) q value colour).met_grey ≡ p.met_grey
      met = elim (yes_or_no (nat_lt colour (grey (cycle_of (posted_of log))))) [ inl e ↦ rw e at.met | inr e ↦ rw e at.met ]

  sweeps : (cell d colour : ℕ) → IsAt near s (ReadColour d colour ∷ log) (if is_white (posted_of log) colour then Clearing cell 0 else sweep_from s (suc cell)) (if is_white (posted_of log) colour then order.Clearing cell 0 else order.sweep_from s (suc cell))
  sweeps cell d colour = elim (yes_or_no (is_white (posted_of log) colour)) [
    | inl e ↦ rw e refl
    | inr e ↦ rw e (sweep_at near is s (ReadColour d colour ∷ log) (suc cell))
  ]

  -- the word that is scanned holds references
  names : (cell word w value : ℕ) → NamesCell s (ScanWord cell w value) → w ≡ reference_from s cell word → w < length (words_of_cell s cell) → value < cells s
  names cell word w value n e lt = n (subst (λ x. IsTrue (is_reference_kind (kind_of s cell x))) (sym e) (found (subst (λ x. x < length (words_of_cell s cell)) e lt)))
    where
      found : reference_from s cell word < length (words_of_cell s cell) → IsTrue (is_reference_kind (kind_of s cell (reference_from s cell word)))
      found h = let k = skip_above s cell word (length (words_of_cell s cell) - word) in rw (skip_found s cell word (length (words_of_cell s cell) - word) (omega (arith, k, h))) refl

  -- ---- from the code to the order

  pub follows : (spot : Spot) (turn : Turn) (next : Spot) (c : Collection) → (IsLook spot turn → ⊥) → NamesCell s turn → after_turn s (posted_of log) spot turn ≡ Some next → IsAt near s log spot c → Follows near s log c turn next
  follows Posting (PostStage to) next c free n e at = rw at (onward (PostStage to) order.Posting (order.wait_from s to 0) _ _ next e
      (λ t. let p = and_parts _ _ t in (test_true _ _ p.0, lt_true _ _ p.1, refl)) (λ t. posts to))
  follows Posting _ next c free n e at = absurd cc
  follows (Waiting thread) (ReadStage t found) next c free n e at = rw (at.0) (onward (ReadStage t found) (order.Waiting thread) _ _ _ next e (λ x. (test_true _ _ x, refl)) (λ x. waits thread t found at.1))
  follows (Waiting thread) _ next c free n e at = absurd cc
  follows ShadingGlobals (MarkFound cell colour) next c free n e at = rw at (onward (MarkFound cell colour) order.ShadingGlobals order.Posting _ _ next e (λ x. (test_true _ _ x, refl)) (λ x. refl))
  follows ShadingGlobals _ next c free n e at = absurd cc
  follows (Passing p) (ReadColour cell colour) next c free n e at = absurd (free tt)
  follows (Passing p) _ next c free n e at = absurd cc
  follows (Scanning cell word p) (ScanWord d w value) next c free n e at = let q = at.0 in rw (at.1) (onward (ScanWord d w value) (order.Scanning cell word q) (if value == 0 then order.Scanning cell (suc w) q else order.Shading value cell (suc w) q) _ _ next e
      (λ x. let a = and_parts _ _ x in let b = and_parts _ _ a.1 in (test_true _ _ a.0, test_true _ _ b.0, lt_true _ _ b.1, refl))
      (λ x. let a = and_parts _ _ x in let b = and_parts _ _ a.1 in let same : d ≡ cell = test_true _ _ a.0 in
      rw same (scans cell w value p q at.2 (λ y. names cell word w value (rw same at n) (test_true _ _ b.0) (lt_true _ _ b.1)))))
  follows (Scanning cell word p) (Blacken d) next c free n e at = let q = at.0 in rw (at.1) (onward (Blacken d) (order.Scanning cell word q) (order.pass_from s q) _ _ next e
      (λ x. let a = and_parts _ _ x in (test_true _ _ a.0, le_true _ _ a.1, refl))
      (λ x. pass_at near is s (Blacken d ∷ log) p q (pass_told (Blacken d) p q at.2 (blacken_told s log p.rounds d q at.2.told))))
  follows (Scanning cell word p) _ next c free n e at = absurd cc
  follows (Shading value cell word p) (MarkFound d colour) next c free n e at = let q = at.0 in rw (at.1) (onward (MarkFound d colour) (order.Shading value cell word q) _ _ _ next e
      (λ x. (test_true _ _ x, refl)) (λ x. let same : d ≡ value = test_true _ _ x in rw same (marks value cell word colour p q at.2 at.3)))
  follows (Shading value cell word p) _ next c free n e at = absurd cc
  follows (Sweeping cell) (ReadColour d colour) next c free n e at = rw at (onward (ReadColour d colour) (order.Sweeping cell) _ _ _ next e (λ x. (test_true _ _ x, refl)) (λ x. sweeps cell d colour))
  follows (Sweeping cell) _ next c free n e at = absurd cc
  follows (Clearing cell word) (ClearWord d w) next c free n e at = rw at (onward (ClearWord d w) (order.Clearing cell word) (order.Clearing cell (suc word)) _ _ next e
      (λ x. let a = and_parts _ _ x in let b = and_parts _ _ a.1 in (test_true _ _ a.0, test_true _ _ b.0, lt_true _ _ b.1, refl)) (λ x. refl))
  follows (Clearing cell word) (Free d) next c free n e at = rw at (onward (Free d) (order.Clearing cell word) (order.sweep_from s (suc cell)) _ _ next e
      (λ x. let a = and_parts _ _ x in (test_true _ _ a.0, le_true _ _ a.1, refl)) (λ x. sweep_at near is s (Free d ∷ log) (suc cell)))
  follows (Clearing cell word) _ next c free n e at = absurd cc

  -- ---- and from the order to the code

  pub reaches : (spot : Spot) (turn : Turn) (c d : Collection) → (IsLook spot turn → ⊥) → NamesCell s turn → IsAt near s log spot c → Turns s (posted_of log) c turn d → Reaches near s log (after_turn s (posted_of log) spot turn) turn d
  reaches Posting turn c d free n at t = go turn (subst (λ x. Turns s (posted_of log) x turn d) at t)
    where
      go : (turn : Turn) → Turns s (posted_of log) order.Posting turn d → Reaches near s log (after_turn s (posted_of log) Posting turn) turn d
      go (PostStage to) t = rw (t.2) (reached (PostStage to) (order.wait_from s to 0) _ _ (and_true _ _ (test_yes _ _ t.0) (lt_yes _ _ t.1)) (posts to))
      go _ t = absurd t
  reaches (Waiting thread) turn c d free n at t = go turn (subst (λ x. Turns s (posted_of log) x turn d) at.0 t)
    where
      go : (turn : Turn) → Turns s (posted_of log) (order.Waiting thread) turn d → Reaches near s log (after_turn s (posted_of log) (Waiting thread) turn) turn d
      go (ReadStage u found) t = rw (t.1) (reached (ReadStage u found) _ _ _ (test_yes _ _ t.0) (waits thread u found at.1))
      go _ t = absurd t
  reaches ShadingGlobals turn c d free n at t = go turn (subst (λ x. Turns s (posted_of log) x turn d) at t)
    where
      go : (turn : Turn) → Turns s (posted_of log) order.ShadingGlobals turn d → Reaches near s log (after_turn s (posted_of log) ShadingGlobals turn) turn d
      go (MarkFound cell colour) t = reached (MarkFound cell colour) d _ Posting (test_yes _ _ t.0) t.1
      go _ t = absurd t
  reaches (Passing p) turn c d free n at t = go turn free (subst (λ x. Turns s (posted_of log) x turn d) at.1 t)
    where
      go : (turn : Turn) → (IsLook (Passing p) turn → ⊥) → Turns s (posted_of log) (order.Passing at.0) turn d → Reaches near s log (after_turn s (posted_of log) (Passing p) turn) turn d
      go (ReadColour cell colour) free t = absurd (free tt)
      go _ free t = absurd t
  reaches (Scanning cell word p) turn c d free n at t = go turn n (subst (λ x. Turns s (posted_of log) x turn d) at.1 t)
    where
      go : (turn : Turn) → NamesCell s turn → Turns s (posted_of log) (order.Scanning cell word at.0) turn d → Reaches near s log (after_turn s (posted_of log) (Scanning cell word p) turn) turn d
      go (ScanWord e w value) n t = rw (t.0, t.3) (reached (ScanWord cell w value) _ _ _ (and_true _ _ (test_yes cell cell refl) (and_true _ _ (test_yes _ _ t.1) (lt_yes _ _ t.2)))
          (scans cell w value p at.0 at.2 (λ y. names cell word w value (rw (t.0) at n) t.1 t.2)))
      go (Blacken e) n t = rw (t.2) (reached (Blacken e) _ _ _ (and_true _ _ (test_yes _ _ t.0) (le_yes _ _ t.1)) (pass_at near is s (Blacken e ∷ log) p at.0 (pass_told (Blacken e) p at.0 at.2 (blacken_told s log p.rounds e at.0 at.2.told))))
      go _ n t = absurd t
  reaches (Shading value cell word p) turn c d free n at t = go turn (subst (λ x. Turns s (posted_of log) x turn d) at.1 t)
    where
      go : (turn : Turn) → Turns s (posted_of log) (order.Shading value cell word at.0) turn d → Reaches near s log (after_turn s (posted_of log) (Shading value cell word p) turn) turn d
      go (MarkFound e colour) t = rw (t.0, t.1) (reached (MarkFound value colour) _ _ _ (test_yes value value refl) (marks value cell word colour p at.0 at.2 at.3))
      go _ t = absurd t
  reaches (Sweeping cell) turn c d free n at t = go turn (subst (λ x. Turns s (posted_of log) x turn d) at t)
    where
      go : (turn : Turn) → Turns s (posted_of log) (order.Sweeping cell) turn d → Reaches near s log (after_turn s (posted_of log) (Sweeping cell) turn) turn d
      go (ReadColour e colour) t = rw (t.1) (reached (ReadColour e colour) _ _ _ (test_yes _ _ t.0) (sweeps cell e colour))
      go _ t = absurd t
  reaches (Clearing cell word) turn c d free n at t = go turn (subst (λ x. Turns s (posted_of log) x turn d) at t)
    where
      go : (turn : Turn) → Turns s (posted_of log) (order.Clearing cell word) turn d → Reaches near s log (after_turn s (posted_of log) (Clearing cell word) turn) turn d
      go (ClearWord e w) t = reached (ClearWord e w) d _ (Clearing cell (suc word)) (and_true _ _ (test_yes _ _ t.0) (and_true _ _ (test_yes _ _ t.1) (lt_yes _ _ t.2))) t.3
      go (Free e) t = rw (t.2) (reached (Free e) _ _ _ (and_true _ _ (test_yes _ _ t.0) (le_yes _ _ t.1)) (sweep_at near is s (Free e ∷ log) (suc cell)))
      go _ t = absurd t
