-- A late thread tries to begin while a stage is posted, takes it back, begins at that stage, and makes its first call.
use Rattle.std.proofs.Common.{◌≡◌, ℕ, inl, inr, true, List, [], ◌∷◌, refl, lit<}
use Rattle.pools.specs.declared.word_kind.WordKind.TheVariants as kind
use Rattle.pools.specs.Heap.{Setup, kind_of, layout_of, is_late}
use Rattle.colours.specs.declared.place.Place.TheVariants.{Colour}
use Rattle.colours.specs.declared.turn.Turn.TheVariants.{PostStage, ReadStage}
use Rattle.colours.specs.Colours.{done}
use Rattle.colours.specs.Collector.{Collection, Posting, Collects}
use Rattle.colours.specs.Runs.{turns_of, word_after, births_after}
use Rattle.runs.specs.Machine.{WordValue, Alloc}
use Rattle.runs.specs.Moves.{Claims, StoresStage, ReadsPostedFirst, EntersStage, ReadsPostedAgain, state_after}
use Rattle.runs.specs.ModuleRuns.{Happening, OfThread, OfCollector, share_of, heap_of, IsModuleRun}
use Rattle.worked_runs.proofs.Scripts.{Script, scripts}

abbrev heap : Setup
heap = record { threads = 1; late = true ∷ []; layouts = (kind.Integer 64 ∷ []) ∷ []; pools = 1 ∷ []; globals = []; values = [] }

abbrev starts : ℕ → Script
starts t = record { code = (λ v. Alloc 0) ∷ []; values = [] }

abbrev cell : WordValue
cell = record { cell = 1; birth = 1 }

abbrev at0 : (c : Collection) × Collects heap [] c
at0 = (Posting, refl)

abbrev run1 : List Happening
run1 = OfThread 0 (ReadsPostedFirst 0) ∷ []

is_run1 : IsModuleRun heap scripts starts run1
unfolding word_after births_after layout_of kind_of is_late
is_run1 = (tt, (lit< tt, (tt, inl tt), (lit< tt, tt, refl), tt))

abbrev run2 : List Happening
run2 = OfThread 0 (EntersStage 0) ∷ run1

is_run2 : IsModuleRun heap scripts starts run2
unfolding word_after births_after layout_of kind_of is_late
is_run2 = (is_run1, (lit< tt, (refl, inl tt), (lit< tt, refl, tt), tt))

abbrev run3 : List Happening
run3 = OfCollector (PostStage 1) ∷ run2

abbrev at1 : (c : Collection) × Collects heap (turns_of (heap_of run3)) c
unfolding kind_of layout_of
at1 = (_, (at0.0, at0.1, (refl, lit< tt, refl)))

is_run3 : IsModuleRun heap scripts starts run3
unfolding word_after births_after layout_of kind_of is_late
is_run3 = (is_run2, (at1, tt))

abbrev run4 : List Happening
run4 = OfThread 0 (ReadsPostedAgain 1) ∷ run3

is_run4 : IsModuleRun heap scripts starts run4
unfolding word_after births_after layout_of kind_of is_late
is_run4 = (is_run3, (lit< tt, (tt, inl tt), (lit< tt, tt, refl), tt))

abbrev run5 : List Happening
run5 = OfThread 0 (StoresStage done []) ∷ run4

is_run5 : IsModuleRun heap scripts starts run5
unfolding word_after births_after layout_of kind_of is_late
is_run5 = (is_run4, (lit< tt, ((refl, refl), inl (refl, refl)), (lit< tt, (refl, refl), tt), tt))

abbrev run6 : List Happening
run6 = OfThread 0 (ReadsPostedFirst 1) ∷ run5

is_run6 : IsModuleRun heap scripts starts run6
unfolding word_after births_after layout_of kind_of is_late
is_run6 = (is_run5, (lit< tt, (tt, inl tt), (lit< tt, tt, refl), tt))

abbrev run7 : List Happening
run7 = OfThread 0 (EntersStage 1) ∷ run6

is_run7 : IsModuleRun heap scripts starts run7
unfolding word_after births_after layout_of kind_of is_late
is_run7 = (is_run6, (lit< tt, (refl, inl tt), (lit< tt, refl, tt), tt))

abbrev run8 : List Happening
run8 = OfThread 0 (ReadsPostedAgain 1) ∷ run7

is_run8 : IsModuleRun heap scripts starts run8
unfolding word_after births_after layout_of kind_of is_late
is_run8 = (is_run7, (lit< tt, (tt, inl tt), (lit< tt, tt, refl), tt))

abbrev run9 : List Happening
run9 = OfThread 0 (Claims cell true) ∷ run8

is_run9 : IsModuleRun heap scripts starts run9
unfolding word_after births_after layout_of kind_of is_late
is_run9 = (is_run8, (lit< tt, ((lit< tt, lit< tt), inr (lit< tt, lit< tt, refl)), (lit< tt, (lit< tt, lit< tt), refl), refl))

abbrev run10 : List Happening
run10 = OfCollector (ReadStage 0 1) ∷ run9

abbrev at2 : (c : Collection) × Collects heap (turns_of (heap_of run10)) c
unfolding kind_of layout_of
at2 = (_, (at1.0, at1.1, (refl, refl)))

is_run10 : IsModuleRun heap scripts starts run10
unfolding word_after births_after layout_of kind_of is_late
is_run10 = (is_run9, (at2, refl))

-- the tries leave the state as it was, and the call brings the cell
stays : state_after heap scripts 0 (starts 0) (share_of 0 run8) ≡ starts 0
unfolding is_late
stays = refl

goes_on : state_after heap scripts 0 (starts 0) (share_of 0 run9) ≡ record { code = []; values = cell ∷ [] }
unfolding is_late
goes_on = refl

-- the claim is white, since the thread begins at a sync stage
is_white : word_after heap (heap_of run10) (Colour 1) ≡ 1
unfolding word_after
is_white = refl
