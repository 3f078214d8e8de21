-- Against the discipline: a machine names no roots, and its thread uses its cell when it was freed, or claimed again. Three ends are broken.
use Rattle.std.proofs.Common.{◌≡◌, ◌≢◌, ◌<◌, ◌⊎◌, inl, inr, ℕ, zero, suc, true, List, [], ◌∷◌, refl, sym, subst, IsTrue, lit<, lit≤, arith}
use Rattle.pools.specs.declared.word_kind.WordKind.TheVariants as kind
use Rattle.pools.specs.Heap.{Setup, kind_of, layout_of, is_late}
use Rattle.pools.specs.Layouts.{is_reference_kind}
use Rattle.colours.specs.declared.place.Place.TheVariants.{Word}
use Rattle.colours.specs.declared.turn.Turn.TheVariants.{PostStage, ReadStage, MarkFound, ReadColour, ScanWord, Blacken, ClearWord, Free}
use Rattle.colours.specs.Collector.{Collection, Posting, Collects}
use Rattle.colours.specs.Runs.{turns_of, word_after, births_after}
use Rattle.runs.specs.Machine.{WordValue, Action, Alloc, Read, Write, Safepoint}
use Rattle.runs.specs.Moves.{ReadsWord, ReadsOldValue, StoresAfterBarrier, Claims, ReadsPosted, StoresStage, null}
use Rattle.runs.specs.ModuleRuns.{Happening, OfThread, OfCollector, heap_of, birth_in, IsModuleRun}
use Rattle.runs.specs.Broken as broken
use Rattle.runs.specs.Broken.{IsRoot, Reached, IsReachable, IsGone, IsBroken, Cause, Wrong, TouchBlue, TouchBirth, ReachBlue, ReachBirth, Shows, GoesBefore, IsCause}
use Rattle.worked_runs.proofs.Scripts.{Script, first, forgetful}
use Rattle.runs.specs.Causes.{shows_broken}

abbrev heap : Setup
heap = record { threads = 2; late = []; layouts = (kind.Integer 64 ∷ kind.Reference 0 ∷ []) ∷ []; pools = 1 ∷ []; globals = kind.Reference 0 ∷ []; values = 0 ∷ [] }

-- the first thread makes this call after three safepoints, and the second one claims a cell there
abbrev starts : (last : List WordValue → Action) → ℕ → Script
starts last zero = record { code = (λ v. Alloc 0) ∷ (λ v. Safepoint) ∷ (λ v. Safepoint) ∷ (λ v. Safepoint) ∷ last ∷ []; values = [] }
starts last (suc t) = record { code = (λ v. Safepoint) ∷ (λ v. Safepoint) ∷ (λ v. Safepoint) ∷ (λ v. Alloc 0) ∷ []; values = [] }

abbrev old : WordValue
old = record { cell = 1; birth = 1 }

abbrev anew : WordValue
anew = record { cell = 1; birth = 2 }

abbrev at0 : (c : Collection) × Collects heap [] c
at0 = (Posting, refl)

abbrev run1 : List Happening
run1 = OfThread 0 (Claims old true) ∷ []

is_run1 : (last : List WordValue → Action) → IsModuleRun heap forgetful (starts last) run1
unfolding word_after births_after layout_of kind_of is_late
is_run1 last = (tt, (lit< tt, ((lit< tt, lit< tt), inr (lit< tt, lit< tt, refl)), (lit< tt, (lit< tt, lit< tt), refl), refl))

abbrev run2 : List Happening
run2 = OfCollector (PostStage 1) ∷ run1

abbrev at1 : (c : Collection) × Collects heap (turns_of (heap_of run2)) c
unfolding kind_of layout_of
at1 = (_, (at0.0, at0.1, (refl, lit< tt, refl)))

is_run2 : (last : List WordValue → Action) → IsModuleRun heap forgetful (starts last) run2
unfolding word_after births_after layout_of kind_of is_late
is_run2 last = (is_run1 last, (at1, tt))

abbrev run3 : List Happening
run3 = OfThread 0 (ReadsPosted 1) ∷ run2

is_run3 : (last : List WordValue → Action) → IsModuleRun heap forgetful (starts last) run3
unfolding word_after births_after layout_of kind_of is_late
is_run3 last = (is_run2 last, (lit< tt, (tt, inr tt), (lit< tt, tt, refl), tt))

abbrev run4 : List Happening
run4 = OfThread 0 (StoresStage 1 []) ∷ run3

is_run4 : (last : List WordValue → Action) → IsModuleRun heap forgetful (starts last) run4
unfolding word_after births_after layout_of kind_of is_late
is_run4 last = (is_run3 last, (lit< tt, ((refl, λ e. absurd cc), inr refl), (lit< tt, (refl, λ e. absurd cc), tt), tt))

abbrev run5 : List Happening
run5 = OfThread 1 (ReadsPosted 1) ∷ run4

is_run5 : (last : List WordValue → Action) → IsModuleRun heap forgetful (starts last) run5
unfolding word_after births_after layout_of kind_of is_late
is_run5 last = (is_run4 last, (lit< tt, (tt, inr tt), (lit< tt, tt, refl), tt))

abbrev run6 : List Happening
run6 = OfThread 1 (StoresStage 1 []) ∷ run5

is_run6 : (last : List WordValue → Action) → IsModuleRun heap forgetful (starts last) run6
unfolding word_after births_after layout_of kind_of is_late
is_run6 last = (is_run5 last, (lit< tt, ((refl, λ e. absurd cc), inr refl), (lit< tt, (refl, λ e. absurd cc), tt), tt))

abbrev run7 : List Happening
run7 = OfCollector (ReadStage 0 1) ∷ run6

abbrev at2 : (c : Collection) × Collects heap (turns_of (heap_of run7)) c
unfolding kind_of layout_of
at2 = (_, (at1.0, at1.1, (refl, refl)))

is_run7 : (last : List WordValue → Action) → IsModuleRun heap forgetful (starts last) run7
unfolding word_after births_after layout_of kind_of is_late
is_run7 last = (is_run6 last, (at2, refl))

abbrev run8 : List Happening
run8 = OfCollector (ReadStage 1 1) ∷ run7

abbrev at3 : (c : Collection) × Collects heap (turns_of (heap_of run8)) c
unfolding kind_of layout_of
at3 = (_, (at2.0, at2.1, (refl, refl)))

is_run8 : (last : List WordValue → Action) → IsModuleRun heap forgetful (starts last) run8
unfolding word_after births_after layout_of kind_of is_late
is_run8 last = (is_run7 last, (at3, refl))

abbrev run9 : List Happening
run9 = OfCollector (PostStage 2) ∷ run8

abbrev at4 : (c : Collection) × Collects heap (turns_of (heap_of run9)) c
unfolding kind_of layout_of
at4 = (_, (at3.0, at3.1, (refl, lit< tt, refl)))

is_run9 : (last : List WordValue → Action) → IsModuleRun heap forgetful (starts last) run9
unfolding word_after births_after layout_of kind_of is_late
is_run9 last = (is_run8 last, (at4, tt))

abbrev run10 : List Happening
run10 = OfThread 0 (ReadsPosted 2) ∷ run9

is_run10 : (last : List WordValue → Action) → IsModuleRun heap forgetful (starts last) run10
unfolding word_after births_after layout_of kind_of is_late
is_run10 last = (is_run9 last, (lit< tt, (tt, inr tt), (lit< tt, tt, refl), tt))

abbrev run11 : List Happening
run11 = OfThread 0 (StoresStage 2 []) ∷ run10

is_run11 : (last : List WordValue → Action) → IsModuleRun heap forgetful (starts last) run11
unfolding word_after births_after layout_of kind_of is_late
is_run11 last = (is_run10 last, (lit< tt, ((refl, λ e. absurd cc), inr refl), (lit< tt, (refl, λ e. absurd cc), tt), tt))

abbrev run12 : List Happening
run12 = OfThread 1 (ReadsPosted 2) ∷ run11

is_run12 : (last : List WordValue → Action) → IsModuleRun heap forgetful (starts last) run12
unfolding word_after births_after layout_of kind_of is_late
is_run12 last = (is_run11 last, (lit< tt, (tt, inr tt), (lit< tt, tt, refl), tt))

abbrev run13 : List Happening
run13 = OfThread 1 (StoresStage 2 []) ∷ run12

is_run13 : (last : List WordValue → Action) → IsModuleRun heap forgetful (starts last) run13
unfolding word_after births_after layout_of kind_of is_late
is_run13 last = (is_run12 last, (lit< tt, ((refl, λ e. absurd cc), inr refl), (lit< tt, (refl, λ e. absurd cc), tt), tt))

abbrev run14 : List Happening
run14 = OfCollector (ReadStage 0 2) ∷ run13

abbrev at5 : (c : Collection) × Collects heap (turns_of (heap_of run14)) c
unfolding kind_of layout_of
at5 = (_, (at4.0, at4.1, (refl, refl)))

is_run14 : (last : List WordValue → Action) → IsModuleRun heap forgetful (starts last) run14
unfolding word_after births_after layout_of kind_of is_late
is_run14 last = (is_run13 last, (at5, refl))

abbrev run15 : List Happening
run15 = OfCollector (ReadStage 1 2) ∷ run14

abbrev at6 : (c : Collection) × Collects heap (turns_of (heap_of run15)) c
unfolding kind_of layout_of
at6 = (_, (at5.0, at5.1, (refl, refl)))

is_run15 : (last : List WordValue → Action) → IsModuleRun heap forgetful (starts last) run15
unfolding word_after births_after layout_of kind_of is_late
is_run15 last = (is_run14 last, (at6, refl))

abbrev run16 : List Happening
run16 = OfCollector (MarkFound 0 1) ∷ run15

abbrev at7 : (c : Collection) × Collects heap (turns_of (heap_of run16)) c
unfolding kind_of layout_of
at7 = (_, (at6.0, at6.1, (refl, refl)))

is_run16 : (last : List WordValue → Action) → IsModuleRun heap forgetful (starts last) run16
unfolding word_after births_after layout_of kind_of is_late
is_run16 last = (is_run15 last, (at7, refl))

abbrev run17 : List Happening
run17 = OfCollector (PostStage 3) ∷ run16

abbrev at8 : (c : Collection) × Collects heap (turns_of (heap_of run17)) c
unfolding kind_of layout_of
at8 = (_, (at7.0, at7.1, (refl, lit< tt, refl)))

is_run17 : (last : List WordValue → Action) → IsModuleRun heap forgetful (starts last) run17
unfolding word_after births_after layout_of kind_of is_late
is_run17 last = (is_run16 last, (at8, tt))

abbrev run18 : List Happening
run18 = OfThread 0 (ReadsPosted 3) ∷ run17

is_run18 : (last : List WordValue → Action) → IsModuleRun heap forgetful (starts last) run18
unfolding word_after births_after layout_of kind_of is_late
is_run18 last = (is_run17 last, (lit< tt, (tt, inr tt), (lit< tt, tt, refl), tt))

abbrev run19 : List Happening
run19 = OfThread 0 (StoresStage 3 []) ∷ run18

is_run19 : (last : List WordValue → Action) → IsModuleRun heap forgetful (starts last) run19
unfolding word_after births_after layout_of kind_of is_late
is_run19 last = (is_run18 last, (lit< tt, ((refl, λ e. refl), inr refl), (lit< tt, (refl, λ e. refl), tt), tt))

abbrev run20 : List Happening
run20 = OfThread 1 (ReadsPosted 3) ∷ run19

is_run20 : (last : List WordValue → Action) → IsModuleRun heap forgetful (starts last) run20
unfolding word_after births_after layout_of kind_of is_late
is_run20 last = (is_run19 last, (lit< tt, (tt, inr tt), (lit< tt, tt, refl), tt))

abbrev run21 : List Happening
run21 = OfThread 1 (StoresStage 3 []) ∷ run20

is_run21 : (last : List WordValue → Action) → IsModuleRun heap forgetful (starts last) run21
unfolding word_after births_after layout_of kind_of is_late
is_run21 last = (is_run20 last, (lit< tt, ((refl, λ e. refl), inr refl), (lit< tt, (refl, λ e. refl), tt), tt))

abbrev run22 : List Happening
run22 = OfCollector (ReadStage 0 3) ∷ run21

abbrev at9 : (c : Collection) × Collects heap (turns_of (heap_of run22)) c
unfolding kind_of layout_of
at9 = (_, (at8.0, at8.1, (refl, refl)))

is_run22 : (last : List WordValue → Action) → IsModuleRun heap forgetful (starts last) run22
unfolding word_after births_after layout_of kind_of is_late
is_run22 last = (is_run21 last, (at9, refl))

abbrev run23 : List Happening
run23 = OfCollector (ReadStage 1 3) ∷ run22

abbrev at10 : (c : Collection) × Collects heap (turns_of (heap_of run23)) c
unfolding kind_of layout_of
at10 = (_, (at9.0, at9.1, (refl, refl)))

is_run23 : (last : List WordValue → Action) → IsModuleRun heap forgetful (starts last) run23
unfolding word_after births_after layout_of kind_of is_late
is_run23 last = (is_run22 last, (at10, refl))

abbrev run24 : List Happening
run24 = OfCollector (ReadColour 0 2) ∷ run23

abbrev at11 : (c : Collection) × Collects heap (turns_of (heap_of run24)) c
unfolding kind_of layout_of
at11 = (_, (at10.0, at10.1, inl (refl, refl)))

is_run24 : (last : List WordValue → Action) → IsModuleRun heap forgetful (starts last) run24
unfolding word_after births_after layout_of kind_of is_late
is_run24 last = (is_run23 last, (at11, refl))

abbrev run25 : List Happening
run25 = OfCollector (ScanWord 0 0 0) ∷ run24

abbrev at12 : (c : Collection) × Collects heap (turns_of (heap_of run25)) c
unfolding kind_of layout_of
at12 = (_, (at11.0, at11.1, (refl, refl, lit< tt, refl)))

is_run25 : (last : List WordValue → Action) → IsModuleRun heap forgetful (starts last) run25
unfolding word_after births_after layout_of kind_of is_late
is_run25 last = (is_run24 last, (at12, refl))

abbrev run26 : List Happening
run26 = OfCollector (Blacken 0) ∷ run25

abbrev at13 : (c : Collection) × Collects heap (turns_of (heap_of run26)) c
unfolding kind_of layout_of
at13 = (_, (at12.0, at12.1, (refl, lit≤ tt, refl)))

is_run26 : (last : List WordValue → Action) → IsModuleRun heap forgetful (starts last) run26
unfolding word_after births_after layout_of kind_of is_late
is_run26 last = (is_run25 last, (at13, tt))

abbrev run27 : List Happening
run27 = OfCollector (ReadColour 1 1) ∷ run26

abbrev at14 : (c : Collection) × Collects heap (turns_of (heap_of run27)) c
unfolding kind_of layout_of
at14 = (_, (at13.0, at13.1, inl (refl, refl)))

is_run27 : (last : List WordValue → Action) → IsModuleRun heap forgetful (starts last) run27
unfolding word_after births_after layout_of kind_of is_late
is_run27 last = (is_run26 last, (at14, refl))

abbrev run28 : List Happening
run28 = OfCollector (ReadColour 0 3) ∷ run27

abbrev at15 : (c : Collection) × Collects heap (turns_of (heap_of run28)) c
unfolding kind_of layout_of
at15 = (_, (at14.0, at14.1, inl (refl, refl)))

is_run28 : (last : List WordValue → Action) → IsModuleRun heap forgetful (starts last) run28
unfolding word_after births_after layout_of kind_of is_late
is_run28 last = (is_run27 last, (at15, refl))

abbrev run29 : List Happening
run29 = OfCollector (ReadColour 1 1) ∷ run28

abbrev at16 : (c : Collection) × Collects heap (turns_of (heap_of run29)) c
unfolding kind_of layout_of
at16 = (_, (at15.0, at15.1, inl (refl, refl)))

is_run29 : (last : List WordValue → Action) → IsModuleRun heap forgetful (starts last) run29
unfolding word_after births_after layout_of kind_of is_late
is_run29 last = (is_run28 last, (at16, refl))

abbrev run30 : List Happening
run30 = OfCollector (ReadColour 1 1) ∷ run29

abbrev at17 : (c : Collection) × Collects heap (turns_of (heap_of run30)) c
unfolding kind_of layout_of
at17 = (_, (at16.0, at16.1, (refl, refl)))

is_run30 : (last : List WordValue → Action) → IsModuleRun heap forgetful (starts last) run30
unfolding word_after births_after layout_of kind_of is_late
is_run30 last = (is_run29 last, (at17, refl))

abbrev run31 : List Happening
run31 = OfCollector (ClearWord 1 0) ∷ run30

abbrev at18 : (c : Collection) × Collects heap (turns_of (heap_of run31)) c
unfolding kind_of layout_of
at18 = (_, (at17.0, at17.1, (refl, refl, lit< tt, refl)))

is_run31 : (last : List WordValue → Action) → IsModuleRun heap forgetful (starts last) run31
unfolding word_after births_after layout_of kind_of is_late
is_run31 last = (is_run30 last, (at18, tt))

abbrev run32 : List Happening
run32 = OfCollector (ClearWord 1 1) ∷ run31

abbrev at19 : (c : Collection) × Collects heap (turns_of (heap_of run32)) c
unfolding kind_of layout_of
at19 = (_, (at18.0, at18.1, (refl, refl, lit< tt, refl)))

is_run32 : (last : List WordValue → Action) → IsModuleRun heap forgetful (starts last) run32
unfolding word_after births_after layout_of kind_of is_late
is_run32 last = (is_run31 last, (at19, tt))

abbrev run33 : List Happening
run33 = OfCollector (Free 1) ∷ run32

abbrev at20 : (c : Collection) × Collects heap (turns_of (heap_of run33)) c
unfolding kind_of layout_of
at20 = (_, (at19.0, at19.1, (refl, lit≤ tt, refl)))

is_run33 : (last : List WordValue → Action) → IsModuleRun heap forgetful (starts last) run33
unfolding word_after births_after layout_of kind_of is_late
is_run33 last = (is_run32 last, (at20, tt))

-- ---- the freed cell is read

abbrev read_it : List WordValue → Action
read_it v = Read (first v) 0

abbrev touches_blue : List Happening
touches_blue = OfThread 0 (ReadsWord old 0 null) ∷ run33

is_touching_blue : IsModuleRun heap forgetful (starts read_it) touches_blue
unfolding word_after births_after layout_of kind_of is_late
is_touching_blue = (is_run33 read_it, (lit< tt, (tt, inr (refl, refl)), (lit< tt, tt, refl), refl))

-- the cause is named
blue_cause : IsCause heap forgetful (starts read_it) touches_blue (TouchBlue 1)
unfolding word_after births_after layout_of kind_of is_late
blue_cause = record { shows = (refl, refl); first = before }
  where
    before : (other : Cause) → GoesBefore other (TouchBlue 1) → ¬ Shows heap forgetful (starts read_it) touches_blue other
    before Wrong b x = x
    before (TouchBlue c) (inl b) x = absurd (omega (arith, b))
    before (TouchBlue c) (inr b) x = absurd (omega (arith, b.1, x.0))
    before (TouchBirth c) (inl b) x = absurd (omega (arith, b))
    before (TouchBirth c) (inr b) x = absurd (omega (arith, b.0))
    before (ReachBlue c) (inl b) x = absurd (omega (arith, b))
    before (ReachBlue c) (inr b) x = absurd (omega (arith, b.0))
    before (ReachBirth c) (inl b) x = absurd (omega (arith, b))
    before (ReachBirth c) (inr b) x = absurd (omega (arith, b.0))

-- ---- the cell is read when it was claimed again

abbrev run34 : List Happening
run34 = OfThread 1 (Claims anew true) ∷ run33

is_run34 : (last : List WordValue → Action) → IsModuleRun heap forgetful (starts last) run34
unfolding word_after births_after layout_of kind_of is_late
is_run34 last = (is_run33 last, (lit< tt, ((lit< tt, lit< tt), inr (lit< tt, lit< tt, refl)), (lit< tt, (lit< tt, lit< tt), refl), refl))

abbrev touches_reborn : List Happening
touches_reborn = OfThread 0 (ReadsWord old 0 null) ∷ run34

is_touching_reborn : IsModuleRun heap forgetful (starts read_it) touches_reborn
unfolding word_after births_after layout_of kind_of is_late
is_touching_reborn = (is_run34 read_it, (lit< tt, (tt, inr (refl, refl)), (lit< tt, tt, refl), refl))

birth_cause : IsCause heap forgetful (starts read_it) touches_reborn (TouchBirth 1)
unfolding word_after births_after layout_of kind_of is_late
birth_cause = record { shows = (refl, λ e. absurd (omega (arith, e))); first = before }
  where
    before : (other : Cause) → GoesBefore other (TouchBirth 1) → ¬ Shows heap forgetful (starts read_it) touches_reborn other
    before Wrong b x = x
    before (TouchBlue c) b x = absurd (omega (arith, x.1))
    before (TouchBirth c) (inl b) x = absurd (omega (arith, b))
    before (TouchBirth c) (inr b) x = absurd (omega (arith, b.1, x.0))
    before (ReachBlue c) (inl b) x = absurd (omega (arith, b))
    before (ReachBlue c) (inr b) x = absurd (omega (arith, b.0))
    before (ReachBirth c) (inl b) x = absurd (omega (arith, b))
    before (ReachBirth c) (inr b) x = absurd (omega (arith, b.0))

-- for the thread that claimed it, it isn't gone
stays : ¬ IsGone heap run34 anew
unfolding word_after births_after layout_of kind_of is_late
stays (inl e) = absurd (omega (arith, e))
stays (inr n) = n refl

-- ---- the stale reference is stored, with no touch of its cell: a path from the globals reaches another birth

abbrev store_it : List WordValue → Action
store_it v = Write null 0 (first v)

abbrev reads_old : List Happening
reads_old = OfThread 0 (ReadsOldValue null 0 null) ∷ run34

abbrev stored : List Happening
stored = OfThread 0 (StoresAfterBarrier null 0 old) ∷ reads_old

is_reading_old : IsModuleRun heap forgetful (starts store_it) reads_old
unfolding word_after births_after layout_of kind_of is_late
is_reading_old = (is_run34 store_it, (lit< tt, (tt, inr (refl, refl)), (lit< tt, tt, refl), refl))

is_storing : IsModuleRun heap forgetful (starts store_it) stored
unfolding word_after births_after layout_of kind_of is_late
is_storing = (is_reading_old, (lit< tt, ((refl, refl, λ e. absurd cc), inr (refl, refl, refl)), (lit< tt, (refl, refl, λ e. absurd cc), tt), tt))

-- only the cell of the globals and the stale reference are reached
abbrev IsKnown : WordValue → Type 0
IsKnown r = (r ≡ null) ⊎ (r ≡ old)

from_globals : (word : ℕ) → IsTrue (is_reference_kind (kind_of heap 0 word)) → IsKnown (record { cell = word_after heap (heap_of stored) (Word 0 word); birth = birth_in stored 0 word })
unfolding word_after births_after layout_of kind_of is_late
from_globals zero ref = inr refl
from_globals (suc word) ref = absurd cc

from_old : (word : ℕ) → IsTrue (is_reference_kind (kind_of heap 1 word)) → word_after heap (heap_of stored) (Word 1 word) ≢ 0
    → IsKnown (record { cell = word_after heap (heap_of stored) (Word 1 word); birth = birth_in stored 1 word })
unfolding word_after births_after layout_of kind_of is_late
from_old zero ref some = absurd cc
from_old (suc zero) ref some = absurd (some refl)
from_old (suc (suc word)) ref some = absurd cc

known : (r : WordValue) → Reached heap stored (IsRoot heap forgetful (starts store_it) stored) r → IsKnown r
known r x = go x
  where
    Next : ℕ → WordValue → Type 0
    Next word r = IsTrue (is_reference_kind (kind_of heap r.cell word)) → word_after heap (heap_of stored) (Word r.cell word) ≢ 0
        → IsKnown (record { cell = word_after heap (heap_of stored) (Word r.cell word); birth = birth_in stored r.cell word })

    next : (word : ℕ) (r : WordValue) → IsKnown r → Next word r
    next word r (inl e) = subst (Next word) (sym e) (λ ref some. from_globals word ref)
    next word r (inr e) = subst (Next word) (sym e) (λ ref some. from_old word ref some)

    go : {r : WordValue} → Reached heap stored (IsRoot heap forgetful (starts store_it) stored) r → IsKnown r
    go broken.globals = inl refl
    go (broken.from r root n) = absurd root.is_root
    go (broken.further r word x ref n) = next word r (go x) ref n

-- and neither is blue
null_not_blue : ¬ broken.IsBlue heap stored null
unfolding word_after births_after layout_of kind_of is_late
null_not_blue z = absurd (omega (arith, z))

old_not_blue : ¬ broken.IsBlue heap stored old
unfolding word_after births_after layout_of kind_of is_late
old_not_blue z = absurd (omega (arith, z))

not_blue : (r : WordValue) → IsKnown r → ¬ broken.IsBlue heap stored r
not_blue r (inl e) = subst (λ (q : WordValue). ¬ broken.IsBlue heap stored q) (sym e) null_not_blue
not_blue r (inr e) = subst (λ (q : WordValue). ¬ broken.IsBlue heap stored q) (sym e) old_not_blue

-- the globals' cell is of birth 0
null_stays : ¬ broken.IsReborn heap stored null
unfolding word_after births_after layout_of kind_of is_late
null_stays n = n refl

reached : IsReachable heap forgetful (starts store_it) stored old
unfolding word_after births_after layout_of kind_of is_late
reached = broken.further null 0 broken.globals refl (λ e. absurd (omega (arith, e)))

is_reborn : broken.IsReborn heap stored old
unfolding word_after births_after layout_of kind_of is_late
is_reborn e = absurd (omega (arith, e))

-- the last move, a store in the globals' cell, touched none that was gone
globals_not_blue : ¬ broken.IsBlue heap reads_old null
unfolding word_after births_after layout_of kind_of is_late
globals_not_blue z = absurd (omega (arith, z))

globals_not_reborn : ¬ broken.IsReborn heap reads_old null
unfolding word_after births_after layout_of kind_of is_late
globals_not_reborn n = n refl

reach_cause : IsCause heap forgetful (starts store_it) stored (ReachBirth 1)
reach_cause = record { shows = (old, reached, refl, is_reborn); first = before }
  where
    below : (r : WordValue) → IsKnown r → r.cell < 1 → ¬ broken.IsReborn heap stored r
    below r (inl e) b = subst (λ (q : WordValue). ¬ broken.IsReborn heap stored q) (sym e) null_stays
    below r (inr e) b = absurd (omega (arith, subst (λ (q : WordValue). q.cell < 1) e b))

    before : (other : Cause) → GoesBefore other (ReachBirth 1) → ¬ Shows heap forgetful (starts store_it) stored other
    before Wrong b x = x
    before (TouchBlue c) b x = globals_not_blue x.1
    before (TouchBirth c) b x = globals_not_reborn x.1
    before (ReachBlue c) b x = not_blue x.0 (known x.0 x.1) x.3
    before (ReachBirth c) (inl b) x = absurd (omega (arith, b))
    before (ReachBirth c) (inr b) x = below x.0 (known x.0 x.1) (omega (arith, b.1, x.2)) x.3

-- so the three ends are broken
all_broken : IsBroken heap forgetful (starts read_it) touches_blue × IsBroken heap forgetful (starts read_it) touches_reborn × IsBroken heap forgetful (starts store_it) stored
all_broken = (
  shows_broken heap forgetful (starts read_it) touches_blue (TouchBlue 1) blue_cause.shows,
  shows_broken heap forgetful (starts read_it) touches_reborn (TouchBirth 1) birth_cause.shows,
  shows_broken heap forgetful (starts store_it) stored (ReachBirth 1) reach_cause.shows,
)
