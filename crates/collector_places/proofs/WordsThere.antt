-- A step that the order allows is one on a word of the heap.
use Rattle.std.proofs.Common.{◌≡◌, ◌⊎◌, inl, inr, ℕ, suc, ◌<◌, ◌≤◌, nat_lt, List, ◌∷◌, length, sym, subst, ◌∙◌, arith}
use Rattle.lemmas.specs.Numbers.{lt_true, lt_false}
use Rattle.lemmas.specs.Bools.{yes_or_no}
use Rattle.pools.specs.Heap.{Setup, cells, words_of_cell}
use Rattle.colours.specs.declared.turn.Turn.{Turn}
use Rattle.colours.specs.declared.turn.Turn.TheVariants.{PostStage, ReadStage, MarkFound, ReadColour, ScanWord, Blacken, ClearWord, Free}
use Rattle.colours.specs.Steps.{place_of, turn_of}
use Rattle.colours.specs.Collector as order
use Rattle.colours.specs.Collector.{Collection, posted_of, Turns, Collects}
use Rattle.heap_rule.specs.Rule.{HasPlace}
use Rattle.collector_places.specs.declared.spot.Spot.{Spot}
use Rattle.collector_places.specs.declared.spot.Spot.TheVariants.{Posting, Waiting, ShadingGlobals, Passing, Scanning, Shading, Sweeping, Clearing}
use Rattle.collector_places.specs.Counts.{count_of}
use Rattle.collector_places.specs.Spots.{IsAt, IsBehind, IsPlaced, IsPassAt}
use Rattle.collector_places.specs.Places.{Places, Stands}
use Rattle.collector_places.proofs.CountLemmas.{count-in}

module _ (s : Setup) (log : List Turn) (n cycle : ℕ) where
  there : (spot : Spot) (turn : Turn) (b c : Collection) → IsPlaced s n spot → IsAt IsBehind s log spot b → Turns s (posted_of log) b turn c → HasPlace s (place_of (turn_of cycle turn))
  there Posting turn b c p at t = go turn (subst (λ x. Turns s (posted_of log) x turn c) at t)
    where
      go : (turn : Turn) → Turns s (posted_of log) order.Posting turn c → HasPlace s (place_of (turn_of cycle turn))
      go (PostStage to) t = tt
      go _ t = absurd t
  there (Waiting thread) turn b c p at t = go turn (subst (λ x. Turns s (posted_of log) x turn c) at.0 t)
    where
      go : (turn : Turn) → Turns s (posted_of log) (order.Waiting thread) turn c → HasPlace s (place_of (turn_of cycle turn))
      go (ReadStage u found) t = let k = p.thread in let e = t.0 in omega (arith, k, e)
      go _ t = absurd t
  there ShadingGlobals turn b c p at t = go turn (subst (λ x. Turns s (posted_of log) x turn c) at t)
    where
      go : (turn : Turn) → Turns s (posted_of log) order.ShadingGlobals turn c → HasPlace s (place_of (turn_of cycle turn))
      go (MarkFound cell colour) t = let e = t.0 in omega (arith, e)
      go _ t = absurd t
  there (Passing x) turn b c p at t = go turn (subst (λ x. Turns s (posted_of log) x turn c) at.1 t)
    where
      q : order.Pass
      q = at.0

      most : q.next ≤ x.next
      most = elim at.2.next [ inl same ↦ omega (arith, same) | inr far ↦ let k = far.1 in omega (arith, k) ]

      look : (cell colour : ℕ) → Turns s (posted_of log) (order.Passing at.0) (ReadColour cell colour) c → cell < cells s
      look cell colour (inl y) = let e = y.0 in let k = at.3 in omega (arith, e, k, most)
      look cell colour (inr y) = let more = count-in cell q.shaded y.1 in elim (yes_or_no (nat_lt cell (cells s))) [
        | inl e ↦ lt_true _ _ e
        | inr e ↦ let k = at.2.told.cells_alone cell (lt_false _ _ e) in absurd (omega (arith, k, more))
      ]

      go : (turn : Turn) → Turns s (posted_of log) (order.Passing at.0) turn c → HasPlace s (place_of (turn_of cycle turn))
      go (ReadColour cell colour) t = look cell colour t
      go _ t = absurd t
  there (Scanning cell word x) turn b c p at t = go turn (subst (λ x. Turns s (posted_of log) x turn c) at.1 t)
    where
      go : (turn : Turn) → Turns s (posted_of log) (order.Scanning cell word at.0) turn c → HasPlace s (place_of (turn_of cycle turn))
      go (ScanWord d w value) t = let e = t.0 in let k = p.cell in (omega (arith, e, k), subst (λ y. w < length (words_of_cell s y)) (sym e) t.2)
      go (Blacken d) t = let e = t.0 in let k = p.cell in omega (arith, e, k)
      go _ t = absurd t
  there (Shading value cell word x) turn b c p at t = go turn (subst (λ x. Turns s (posted_of log) x turn c) at.1 t)
    where
      go : (turn : Turn) → Turns s (posted_of log) (order.Shading value cell word at.0) turn c → HasPlace s (place_of (turn_of cycle turn))
      go (MarkFound d colour) t = let e = t.0 in let k = at.3 in omega (arith, e, k)
      go _ t = absurd t
  there (Sweeping cell) turn b c p at t = go turn (subst (λ x. Turns s (posted_of log) x turn c) at t)
    where
      go : (turn : Turn) → Turns s (posted_of log) (order.Sweeping cell) turn c → HasPlace s (place_of (turn_of cycle turn))
      go (ReadColour d colour) t = let e = t.0 in let k = p.cell in omega (arith, e, k)
      go _ t = absurd t
  there (Clearing cell word) turn b c p at t = go turn (subst (λ x. Turns s (posted_of log) x turn c) at t)
    where
      go : (turn : Turn) → Turns s (posted_of log) (order.Clearing cell word) turn c → HasPlace s (place_of (turn_of cycle turn))
      go (ClearWord d w) t = let e = t.0 in let k = p.cell in (omega (arith, e, k), subst (λ y. w < length (words_of_cell s y)) (sym e) t.2)
      go (Free d) t = let e = t.0 in let k = p.cell in omega (arith, e, k)
      go _ t = absurd t

pub words_there : (s : Setup) (log : List Turn) (v : Places) (turn : Turn) (c : Collection) (cycle : ℕ) → Stands s log v → Collects s (turn ∷ log) c → HasPlace s (place_of (turn_of cycle turn))
words_there s log v turn c cycle st collects = let k = st.all collects.0 collects.1 in there s log v.turns cycle k.0 turn collects.0 c (st.placed k.0 k.1) k.2 collects.2
