-- The collector's next step, as the sweeper makes it.
use Rattle.std.proofs.Common.{◌≡◌, ℕ, ◌<◌, nat_lt, inl, inr, true, false, Some, List, ◌∷◌, length, refl, sym, ap, subst, ◌∙◌, arith}
use Rattle.pools.specs.Heap.{Setup, cells, words_of_cell}
use Rattle.colours.specs.declared.place.Place.TheVariants.{Word}
use Rattle.colours.specs.declared.ask.Ask.{Ask}
use Rattle.colours.specs.declared.turn.Turn.{Turn}
use Rattle.colours.specs.declared.turn.Turn.TheVariants.{PostStage, ReadStage, MarkFound, ReadColour, ScanWord, Blacken, ClearWord, Free}
use Rattle.colours.specs.Colours.{cycle_of}
use Rattle.colours.specs.Steps.{turn_of, place_of, FoundBy}
use Rattle.colours.specs.Collector.{Collection, Posting, Waiting, ShadingGlobals, Passing, Scanning, Shading, Sweeping, Clearing, posted_of, reference_from, Turns, Collects}
use Rattle.colours.specs.Runs.{Event, ByCollector, turns_of, word_after, IsHeapRun}
use Rattle.lemmas.specs.Bools.{yes_or_no}
use Rattle.trace_sweep.specs.Turns.{turn_in, is_at_limit}
use Rattle.trace_sweep.specs.Collecting as machine
use Rattle.trace_sweep.specs.Cycles.{collector_after, LeadsOn}
use Rattle.trace_sweep.specs.Stands.{StandsAfter, ExtendsLogs}
use Rattle.trace_sweep.specs.Order.{turn_of-turn_in, moved-stands, asked-some}
use Rattle.heap_rule.specs.View.{Share, OfCollector, grown}
use Rattle.heap_rule.specs.Rule.{HasPlace, told, Happens, IsStepBy, IsShareIn}
use Rattle.heap_words.specs.Tokens as words
use Rattle.heap_table.specs.Sweepers.{IsInRange}
use Rattle.heap_table.specs.SweeperView.{turns_in}
use Rattle.heap_table.proofs.Ranges.{in_range, scanned}

-- the word of a step is one of the heap
turn_there : (s : Setup) (stage cycle : ℕ) (b : Collection) (turn : Turn) (c : Collection) → IsInRange s b → Turns s stage b turn c → HasPlace s (place_of (turn_of cycle turn))
turn_there s stage cycle Posting (PostStage to) c h t = tt
turn_there s stage cycle (Waiting thread) (ReadStage u found) c h t = omega (arith, t.0, h)
turn_there s stage cycle ShadingGlobals (MarkFound d colour) c h t = omega (arith, t.0)
turn_there s stage cycle (Passing p) (ReadColour d colour) c h (inl t) = omega (arith, t.0, h.0)
turn_there s stage cycle (Passing p) (ReadColour d colour) c h (inr t) = h.1 d t.1
turn_there s stage cycle (Scanning cell word p) (ScanWord d w value) c h t = (omega (arith, t.0, h.0), subst (λ (x : ℕ). w < length (words_of_cell s x)) (sym t.0) t.2)
turn_there s stage cycle (Scanning cell word p) (Blacken d) c h t = omega (arith, t.0, h.0)
turn_there s stage cycle (Shading value cell word p) (MarkFound d colour) c h t = omega (arith, t.0, h.0)
turn_there s stage cycle (Sweeping cell) (ReadColour d colour) c h t = omega (arith, t.0, h)
turn_there s stage cycle (Clearing cell word) (ClearWord d w) c h t = (omega (arith, t.0, h), subst (λ (x : ℕ). w < length (words_of_cell s x)) (sym t.0) t.2)
turn_there s stage cycle (Clearing cell word) (Free d) c h t = omega (arith, t.0, h)
turn_there s stage cycle _ _ c h t = absurd t

-- the step says what it found, where the caller is told of a store what was stored
says_told : (s : Setup) (stage cycle : ℕ) (listed : List ℕ) (c : Collection) (n : ℕ) → FoundBy (turn_in s stage listed c (told (turn_of cycle (turn_in s stage listed c 0)) n)) n
says_told s stage cycle listed Posting n = tt
says_told s stage cycle listed (Waiting thread) n = refl
says_told s stage cycle listed ShadingGlobals n = refl
says_told s stage cycle listed (Passing p) n = refl
says_told s stage cycle listed (Scanning cell word p) n = elim (yes_or_no (nat_lt (reference_from s cell word) (length (words_of_cell s cell)))) [
  | inl f ↦ rw f refl
  | inr f ↦ rw f tt
]
says_told s stage cycle listed (Shading value cell word p) n = refl
says_told s stage cycle listed (Sweeping cell) n = refl
says_told s stage cycle listed (Clearing cell word) n = elim (yes_or_no (nat_lt word (length (words_of_cell s cell)))) [
  | inl f ↦ rw f tt
  | inr f ↦ rw f tt
]

-- a step that reads a reference says the number found
scan_is : (s : Setup) (stage : ℕ) (listed : List ℕ) (c : Collection) (n : ℕ) → machine.scans (turn_in s stage listed c n) ≡ true → (d : ℕ) × (w : ℕ) × (turn_in s stage listed c n ≡ ScanWord d w n)
scan_is s stage listed Posting n e = absurd cc
scan_is s stage listed (Waiting thread) n e = absurd cc
scan_is s stage listed ShadingGlobals n e = absurd cc
scan_is s stage listed (Passing p) n e = absurd cc
scan_is s stage listed (Scanning cell word p) n e = elim (yes_or_no (nat_lt (reference_from s cell word) (length (words_of_cell s cell)))) [
  | inl f ↦ (cell, reference_from s cell word, rw f refl)
  | inr f ↦ absurd (let g : machine.scans (Blacken cell) ≡ true = (rw f at e) in cc)
]
scan_is s stage listed (Shading value cell word p) n e = absurd cc
scan_is s stage listed (Sweeping cell) n e = absurd cc
scan_is s stage listed (Clearing cell word) n e = elim (yes_or_no (nat_lt word (length (words_of_cell s cell)))) [
  | inl f ↦ absurd (let g : machine.scans (ClearWord cell word) ≡ true = (rw f at e) in cc)
  | inr f ↦ absurd (let g : machine.scans (Free cell) ≡ true = (rw f at e) in cc)
]

scan_below : (s : Setup) (run : List Event) (stage : ℕ) (b : Collection) (d w n : ℕ) (c : Collection) → IsHeapRun s run → Turns s stage b (ScanWord d w n) c → word_after s run (Word d w) ≡ n → n < cells s
scan_below s run stage (Scanning cell word p) d w n c r t found = scanned s run cell word w n r t.1 t.2 (subst (λ (x : ℕ). word_after s run (Word x w) ≡ n) t.0 found)
scan_below s run stage _ d w n c r t found = absurd t

module _ (s : Setup) (log : List Turn) (col : machine.Collecting) (ask : Ask) (stands : StandsAfter s log col) (placed : (c : Collection) → Collects s log c → IsInRange s c) (asked : machine.ask_of col ≡ Some ask) where
  more : is_at_limit col.posted col.at ≡ false
  more = (asked-some col ask asked).0

  ask_is : ask ≡ turn_of (cycle_of col.posted) (turn_in col.heap col.posted col.listed col.at 0)
  ask_is = (asked-some col ask asked).1

  after_turn : (n : ℕ) → StandsAfter s (machine.turn_of col n ∷ log) (machine.moved col n)
  after_turn n = moved-stands s log col n stands more

  pub place_there : HasPlace s (place_of ask)
  place_there = let k = (after_turn 0).collects in subst (λ (a : Ask). HasPlace s (place_of a)) (sym ask_is) (turn_there s (posted_of log) (cycle_of col.posted) k.0 (machine.turn_of col 0) (after_turn 0).place (placed k.0 k.1) k.2)

  pub may_turn : (share : Share) → share ≡ OfCollector log → (n : ℕ) → IsStepBy s share (ByCollector (machine.turn_of col (told ask n))) ask n
  may_turn share is n = subst (λ (x : Share). IsStepBy s x (ByCollector (machine.turn_of col (told ask n))) ask n) (sym is) record {
    may = ((after_turn (told ask n)).place, (after_turn (told ask n)).collects);
    operation = ap (λ (x : ℕ). turn_of (cycle_of x) (machine.turn_of col (told ask n))) (sym stands.posted) ∙ (turn_of-turn_in (cycle_of col.posted) col.heap col.posted col.listed col.at (told ask n) 0 ∙ sym ask_is);
    says = subst (λ (a : Ask). FoundBy (turn_in col.heap col.posted col.listed col.at (told a n)) n) (sym ask_is) (says_told col.heap col.posted (cycle_of col.posted) col.listed col.at n);
  }

-- what a scan found may be taken
pub fits_next : (s : Setup) (log : List Turn) (share : Share) (col : machine.Collecting) (n : ℕ) → share ≡ OfCollector log → col.heap ≡ machine.plan_of s → Happens s share (ByCollector (machine.turn_of col n)) → machine.FitsNext col n
fits_next s log share col n is heap h e =
    let k = scan_is col.heap col.posted col.listed col.at n e in
    let turn : machine.turn_of col n ≡ ScanWord k.0 k.1 n = k.2 in
    let r : IsHeapRun s (ByCollector (ScanWord k.0 k.1 n) ∷ h.run) = subst (λ (t : Turn). IsHeapRun s (ByCollector t ∷ h.run)) turn h.is_run in
    let before : IsHeapRun s h.run = record { setup = r.setup; run_of = r.run_of.0; discipline = r.discipline } in
    let c = r.run_of.1.0 in
    let low = scan_below s h.run (posted_of (turns_of h.run)) c.1.0 k.0 k.1 n c.0 before c.1.2 r.run_of.1.1 in
    subst (λ (x : Setup). n < cells x) (sym heap) low

-- what the sweeper keeps is true after the step
pub sweeper_next : (s : Setup) (log : List Turn) (share : Share) (token after : words.Holding) (col new : machine.Collecting) (turn : Turn) → token.setup ≡ s → share ≡ OfCollector log
    → StandsAfter s log col → col ≡ collector_after s log → after ≡ record { table = token.table; setup = token.setup; share = grown (ByCollector turn) share } → Happens s share (ByCollector turn) → ExtendsLogs col turn new → LeadsOn col turn new
    → (after.share ≡ OfCollector (turns_in after.share)) × StandsAfter after.setup (turns_in after.share) new × (new ≡ collector_after after.setup (turns_in after.share)) × ((c : Collection) → Collects after.setup (turns_in after.share) c → IsInRange after.setup c)
sweeper_next s log share token after col new turn set is stands led now h extends leads = (
  share_is ∙ ap OfCollector (sym log_is),
  subst (λ (x : Setup). StandsAfter x (turns_in after.share) new) (sym setup_is) (subst (λ (l : List Turn). StandsAfter s l new) (sym log_is) (extends s log stands)),
  subst (λ (x : Setup). new ≡ collector_after x (turns_in after.share)) (sym setup_is) (subst (λ (l : List Turn). new ≡ collector_after s l) (sym log_is) (leads s log led)),
  subst (λ (x : Setup). (c : Collection) → Collects x (turns_in after.share) c → IsInRange x c) (sym setup_is) (subst (λ (l : List Turn). (c : Collection) → Collects s l c → IsInRange s c) (sym log_is) range),
)
  where
    setup_is : after.setup ≡ s
    setup_is = ap (λ (x : words.Holding). x.setup) now ∙ set

    share_is : after.share ≡ OfCollector (turn ∷ log)
    share_is = ap (λ (x : words.Holding). x.share) now ∙ ap (grown (ByCollector turn)) is

    log_is : turns_in after.share ≡ turn ∷ log
    log_is = ap turns_in share_is

    mine : turns_of h.run ≡ log
    mine = subst (λ (x : Share). IsShareIn h.run x) is h.mine

    range : (c : Collection) → Collects s (turn ∷ log) c → IsInRange s c
    range c k = in_range s (ByCollector turn ∷ h.run) h.is_run c (subst (λ (l : List Turn). Collects s (turn ∷ l) c) (sym mine) k)
