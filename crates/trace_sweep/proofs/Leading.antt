-- A step tells all of what it found that the next place depends on.
use Rattle.std.proofs.Common.{◌≡◌, ℕ, nat_lt, inl, inr, List, length, refl, sym, ap, ◌∙◌}
use Rattle.lemmas.specs.Bools.{yes_or_no}
use Rattle.pools.specs.Heap.{Setup, words_of_cell}
use Rattle.colours.specs.declared.turn.Turn.{Turn}
use Rattle.colours.specs.Collector.{Collection, Posting, Waiting, ShadingGlobals, Passing, Scanning, Shading, Sweeping, Clearing, reference_from}
use Rattle.trace_sweep.specs.Collecting.{Collecting, turn_of, moved}
use Rattle.trace_sweep.specs.Cycles.{found_in, LeadsOn}

abbrev collector : (heap : Setup) (posted : ℕ) (at : Collection) (listed : List ℕ) → Collecting
collector heap posted at listed = record { heap = heap; posted = posted; at = at; listed = listed }

told : (heap : Setup) (posted : ℕ) (at : Collection) (listed : List ℕ) (found : ℕ) → moved (collector heap posted at listed) (found_in (turn_of (collector heap posted at listed) found)) ≡ moved (collector heap posted at listed) found
told heap posted Posting listed found = refl
told heap posted (Waiting thread) listed found = refl
told heap posted ShadingGlobals listed found = refl
told heap posted (Passing p) listed found = refl
told heap posted (Scanning cell word p) listed found = elim (yes_or_no (nat_lt (reference_from heap cell word) (length (words_of_cell heap cell)))) [
  | inl f ↦ rw f refl
  | inr f ↦ rw f refl
]
told heap posted (Shading value cell word p) listed found = refl
told heap posted (Sweeping cell) listed found = refl
told heap posted (Clearing cell word) listed found = elim (yes_or_no (nat_lt word (length (words_of_cell heap cell)))) [
  | inl f ↦ rw f refl
  | inr f ↦ rw f refl
]

pub leads_on : (before : Collecting) (found : ℕ) (turn : Turn) (afterwards : Collecting) → turn ≡ turn_of before found → afterwards ≡ moved before found → LeadsOn before turn afterwards
leads_on before found turn afterwards is to s log here =
    to ∙ (sym (told before.heap before.posted before.at before.listed found) ∙ (ap (λ (t : Turn). moved before (found_in t)) (sym is) ∙ ap (λ (c : Collecting). moved c (found_in turn)) here))
