-- A thread claims a cell, stores it in a global at the first stage and again at a sync stage, and answers a stage between
-- the two. It finds no cell in an empty pool, and ends.
use Rattle.std.proofs.Common.{ℕ, inr, true, List, [], ◌∷◌, refl, lit<}
use Rattle.pools.specs.declared.word_kind.WordKind.TheVariants as kind
use Rattle.pools.specs.Heap.{Setup, kind_of, layout_of, is_late}
use Rattle.colours.specs.declared.turn.Turn.TheVariants.{PostStage, ReadStage}
use Rattle.colours.specs.Colours.{done}
use Rattle.colours.specs.Collector.{Collection, Posting, Collects}
use Rattle.colours.specs.Runs.{turns_of, word_after, births_after}
use Rattle.runs.specs.Machine.{WordValue, Alloc, Write, Safepoint}
use Rattle.runs.specs.Moves.{Works, ReadsOldValue, Marks, StoresAfterBarrier, Claims, ReadsPosted, StoresStage, null}
use Rattle.runs.specs.ModuleRuns.{Happening, OfThread, OfCollector, heap_of, IsModuleRun}
use Rattle.worked_runs.proofs.Scripts.{Script, first, scripts}

abbrev heap : Setup
heap = record { threads = 1; late = []; layouts = (kind.Integer 64 ∷ kind.Reference 0 ∷ []) ∷ []; pools = 1 ∷ []; globals = kind.Reference 0 ∷ []; values = 0 ∷ [] }

abbrev starts : ℕ → Script
starts t = record {
  code = (λ v. Alloc 0) ∷ (λ v. Write null 0 (first v)) ∷ (λ v. Safepoint) ∷ (λ v. Write null 0 (first v)) ∷ (λ v. Alloc 1) ∷ [];
  values = [];
}

abbrev cell : WordValue
cell = record { cell = 1; birth = 1 }

abbrev at0 : (c : Collection) × Collects heap [] c
at0 = (Posting, refl)

abbrev run1 : List Happening
run1 = OfThread 0 (Claims cell true) ∷ []

is_run1 : IsModuleRun heap scripts starts run1
unfolding word_after births_after layout_of kind_of is_late
is_run1 = (tt, (lit< tt, ((lit< tt, lit< tt), inr (lit< tt, lit< tt, refl)), (lit< tt, (lit< tt, lit< tt), refl), refl))

abbrev run2 : List Happening
run2 = OfThread 0 (ReadsOldValue null 0 null) ∷ run1

is_run2 : IsModuleRun heap scripts starts run2
unfolding word_after births_after layout_of kind_of is_late
is_run2 = (is_run1, (lit< tt, (tt, inr (refl, refl)), (lit< tt, tt, refl), refl))

abbrev run3 : List Happening
run3 = OfThread 0 (StoresAfterBarrier null 0 cell) ∷ run2

is_run3 : IsModuleRun heap scripts starts run3
unfolding word_after births_after layout_of kind_of is_late
is_run3 = (is_run2, (lit< tt, ((refl, refl, λ e. absurd cc), inr (refl, refl, refl)), (lit< tt, (refl, refl, λ e. absurd cc), tt), tt))

abbrev run4 : List Happening
run4 = OfCollector (PostStage 1) ∷ run3

abbrev at1 : (c : Collection) × Collects heap (turns_of (heap_of run4)) c
unfolding kind_of layout_of
at1 = (_, (at0.0, at0.1, (refl, lit< tt, refl)))

is_run4 : IsModuleRun heap scripts starts run4
unfolding word_after births_after layout_of kind_of is_late
is_run4 = (is_run3, (at1, tt))

abbrev run5 : List Happening
run5 = OfThread 0 (ReadsPosted 1) ∷ run4

is_run5 : IsModuleRun heap scripts starts run5
unfolding word_after births_after layout_of kind_of is_late
is_run5 = (is_run4, (lit< tt, (tt, inr tt), (lit< tt, tt, refl), tt))

abbrev run6 : List Happening
run6 = OfCollector (ReadStage 0 0) ∷ run5

abbrev at2 : (c : Collection) × Collects heap (turns_of (heap_of run6)) c
unfolding kind_of layout_of
at2 = (_, (at1.0, at1.1, (refl, refl)))

is_run6 : IsModuleRun heap scripts starts run6
unfolding word_after births_after layout_of kind_of is_late
is_run6 = (is_run5, (at2, refl))

abbrev run7 : List Happening
run7 = OfThread 0 (StoresStage 1 (cell ∷ [])) ∷ run6

is_run7 : IsModuleRun heap scripts starts run7
unfolding word_after births_after layout_of kind_of is_late
is_run7 = (is_run6, (lit< tt, ((refl, λ e. absurd cc), inr refl), (lit< tt, (refl, λ e. absurd cc), tt), tt))

abbrev run8 : List Happening
run8 = OfThread 0 (ReadsOldValue null 0 cell) ∷ run7

is_run8 : IsModuleRun heap scripts starts run8
unfolding word_after births_after layout_of kind_of is_late
is_run8 = (is_run7, (lit< tt, (tt, inr (refl, refl)), (lit< tt, tt, refl), refl))

abbrev run9 : List Happening
run9 = OfThread 0 (Marks cell) ∷ run8

is_run9 : IsModuleRun heap scripts starts run9
unfolding word_after births_after layout_of kind_of is_late
is_run9 = (is_run8, (lit< tt, (refl, inr refl), (lit< tt, refl, tt), tt))

abbrev run10 : List Happening
run10 = OfThread 0 (Marks cell) ∷ run9

is_run10 : IsModuleRun heap scripts starts run10
unfolding word_after births_after layout_of kind_of is_late
is_run10 = (is_run9, (lit< tt, ((refl, λ e. absurd cc), inr refl), (lit< tt, (refl, λ e. absurd cc), tt), tt))

abbrev run11 : List Happening
run11 = OfThread 0 (StoresAfterBarrier null 0 cell) ∷ run10

is_run11 : IsModuleRun heap scripts starts run11
unfolding word_after births_after layout_of kind_of is_late
is_run11 = (is_run10, (lit< tt, ((refl, refl, refl), inr (refl, refl, refl)), (lit< tt, (refl, refl, refl), tt), tt))

abbrev run12 : List Happening
run12 = OfThread 0 Works ∷ run11

is_run12 : IsModuleRun heap scripts starts run12
unfolding word_after births_after layout_of kind_of is_late
is_run12 = (is_run11, (lit< tt, (tt, inr refl), tt, tt))

abbrev run13 : List Happening
run13 = OfThread 0 (StoresStage done []) ∷ run12

is_run13 : IsModuleRun heap scripts starts run13
unfolding word_after births_after layout_of kind_of is_late
is_run13 = (is_run12, (lit< tt, ((refl, refl), inr (refl, refl)), (lit< tt, (refl, refl), tt), tt))

-- the whole run
whole : IsModuleRun heap scripts starts run13
whole = is_run13
