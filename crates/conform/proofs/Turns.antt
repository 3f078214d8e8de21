-- A step of the collector that meets the rules leads from one run to the next.
use Rattle.std.proofs.Common.{◌≡◌, ℕ, ◌<◌, List, ◌∷◌, refl, sym, ap, ◌∙◌, subst, IsTrue}
use Rattle.pools.specs.Heap.{Setup, cells, kind_of}
use Rattle.pools.specs.Layouts.{is_reference_kind}
use Rattle.colours.specs.declared.place.Place.{Place}
use Rattle.colours.specs.declared.ask.Ask.{Ask}
use Rattle.colours.specs.declared.turn.Turn.{Turn}
use Rattle.colours.specs.declared.turn.Turn.TheVariants.{ScanWord}
use Rattle.colours.specs.Colours.{cycle_of}
use Rattle.colours.specs.Steps.{FoundBy, place_of, turn_of}
use Rattle.colours.specs.Collector.{Collection, posted_of, Collects}
use Rattle.colours.specs.Runs.{Event, ByCollector, turns_of, word_after, ask_in, IsHeapRun}
use Rattle.collector_law.specs.Laws.{EachWordFits}
use Rattle.heap_rule.specs.Rule.{HasPlace}
use Rattle.run_words.specs.Words.{Words, AreAfter, word_in}
use Rattle.collector_places.specs.Places.{NamesCell}
use Rattle.conform.proofs.Steps.{fits_within}

-- the operation is that of the run's next step
pub turn_ask : (run : List Event) (turn : Turn) (posted cycle : ℕ) (ask : Ask) → posted ≡ posted_of (turns_of run) → cycle ≡ cycle_of posted → ask ≡ turn_of cycle turn → ask_in run (ByCollector turn) ≡ ask
turn_ask run turn posted cycle ask e f g = sym (g ∙ ap (λ n. turn_of n turn) (f ∙ ap cycle_of e))

-- and its word holds what is said
pub turn_found : (s : Setup) (run : List Event) (w : Words) (turn : Turn) (ask : Ask) (p : Place) (n : ℕ) → AreAfter s run w → ask_in run (ByCollector turn) ≡ ask → p ≡ place_of ask → HasPlace w.heap p → n ≡ word_in w p
    → FoundBy turn n → FoundBy turn (word_after s run (place_of (ask_in run (ByCollector turn))))
turn_found s run w turn ask p n are e f here is found = subst (FoundBy turn) (is ∙ (are.words p (subst (λ x. HasPlace x p) are.heap here) ∙ ap (word_after s run) (f ∙ ap place_of (sym e)))) found

-- a word of references holds a cell's number
pub names_cell : (s : Setup) (run : List Event) (turn : Turn) → EachWordFits s run → FoundBy turn (word_after s run (place_of (ask_in run (ByCollector turn)))) → NamesCell s turn
names_cell s run (ScanWord cell word value) fits f = λ ref. subst (λ v. v < cells s) f (fits_within s (kind_of s cell word) _ (fits cell word) ref)
names_cell s run _ fits f = tt

pub turn_longer : (s : Setup) (run : List Event) (turn : Turn) (c : Collection) → IsHeapRun s run → Collects s (turn ∷ turns_of run) c → FoundBy turn (word_after s run (place_of (ask_in run (ByCollector turn)))) → IsHeapRun s (ByCollector turn ∷ run)
turn_longer s run turn c r collects f = record { setup = r.setup; run_of = (r.run_of, ((c, collects), f)); discipline = r.discipline }
