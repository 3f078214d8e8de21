-- The actors after some steps, as the end of a run of schedules.
use Rattle.std.proofs.Common.{◌≡◌, ℕ, zero, suc, Some, List, [], ◌∷◌, map, slice_get, slice_index_or, refl, sym, ap, ◌∙◌, subst}
use Rattle.std.proofs.lemmas.List.{length-map}
use Rattle.std.proofs.lemmas.Option.{get_or_from_slice_get}
use Rattle.colours.specs.declared.place.Place.TheVariants.{Posted, Stage, Colour, Word}
use Rattle.colours.specs.Runs.{turns_of}
use Rattle.pools.specs.Heap as heap
use Rattle.trace_sweep.specs.Collecting.{Collecting}
use Rattle.trace_sweep.specs.Stands as collector
use Rattle.runs.specs.Machine.{WordValue, Machine}
use Rattle.runs.specs.Moves.{null}
use Rattle.runs.specs.ModuleRuns.{Happening, heap_of}
use Rattle.runs.specs.Ends.{Standing, StandsAfter, IsEndOf}
use Rattle.moves.specs.declared.actor.Actor.{Actor}
use Rattle.moves.specs.declared.shared.Shared.{Shared}
use Rattle.moves.specs.declared.thread_state.ThreadState.{ThreadState}
use Rattle.moves.specs.Rows.{word_at}
use Rattle.moves.specs.Stands.{standing}
use Rattle.moves.specs.Drawn.{drawn}
use Rattle.stepping.specs.Ends as stepping
use Rattle.program_runner.specs.Threads.{program_machine}
use Rattle.program_runner.specs.Heaps as heaps
use Rattle.program_runner.specs.Kinds.{FitsThread}
use Rattle.program_runner.specs.Setups.{starts_of}
use Rattle.replay.specs.Worlds.{World, AreEndings, IsAfter, run_of}

-- ---- the words

-- what is at a place of a list that was made by a function comes from what was there
pub from_map : {A B : Type 0} (f : A → B) (xs : List A) (k : ℕ) (b : B) → slice_get (map f xs) k ≡ Some b → (a : A) × (slice_get xs k ≡ Some a) × (f a ≡ b)
from_map f [] k b at = absurd cc
from_map f (x ∷ xs) zero b at = (x, refl, cc)
from_map f (x ∷ xs) (suc k) b at = from_map f xs k b at

-- a word of the rows is what is in its row
in_row : (rows : List (List WordValue)) (c i : ℕ) (r : WordValue) (row : List WordValue) → slice_get rows c ≡ Some row → slice_get row i ≡ Some r → word_at rows c i ≡ r
in_row rows c i r row at within =
    ap (λ (found : List WordValue). slice_index_or found i null) (get_or_from_slice_get rows c row [] at) ∙ get_or_from_slice_get row i r null within

-- ---- the end

-- where the actors are at the end of a run, after which the collector is so
pub is_end_of : (s : heap.Setup) (m : Machine) (Fits : m.State → Type 0) (starts : ℕ → m.State) (run : List Happening) (threads : List (ThreadState m.State)) (shared : Shared) (c : Collecting)
    → stepping.IsEnd s m Fits starts run threads shared c → (stands : collector.StandsAfter s (turns_of (heap_of run)) c)
    → IsEndOf s m starts run (record {
      threads = map (standing s m) threads;
      stages = shared.stages;
      posted = shared.posted;
      colours = shared.colours;
      births = shared.births;
      words = shared.words;
      collector = stands.place;
    })
is_end_of s m Fits starts run threads shared c e stands = record {
  count = length-map threads (standing s m) ∙ e.count;
  threads = λ t thread_state at. let found = from_map (standing s m) threads t thread_state at in subst (λ (x : Standing m.State). StandsAfter s m starts run t x) found.2 (e.stands t found.0 found.1);
  stages = λ t. e.words.afterwards.words (Stage t);
  posted = e.words.afterwards.words Posted;
  colours = λ c. e.words.afterwards.words (Colour c);
  births = e.words.afterwards.births;
  words = λ c i r row at within. let same = in_row shared.words c i r row at within in record {
    cell_is = ap (λ (x : WordValue). x.cell) (sym same) ∙ e.words.afterwards.words (Word c i);
    birth_is = ap (λ (x : WordValue). x.birth) (sym same) ∙ e.words.afterwards.word_births c i;
  };
  collector = stands.collects;
}

-- the world of some actors after their steps, with these endings
pub afterwards : (w : World) (before : List Actor)
    → stepping.IsAfter (heaps.heap_of w.program w.setup) program_machine (FitsThread (heaps.heap_of w.program w.setup)) (starts_of w.program w.setup) before w.threads w.shared w.collector
    → AreEndings w.program w.setup (run_of w.program w.setup before) w.endings → IsAfter w before
afterwards w before b endings =
    let s = heaps.heap_of w.program w.setup in
    let starts = starts_of w.program w.setup in
    let is = drawn s program_machine starts before b.are_actors in
    let stands = subst (λ (c : Collecting). collector.StandsAfter s (turns_of (heap_of (run_of w.program w.setup before))) c) (sym b.is_end.collects) is.stands in
    record {
      are_actors = b.are_actors;
      ends = record {
        is_run = is.is_run;
        tries = is.tries;
        place = stands.place;
        in_order = stands.at;
        ends = is_end_of s program_machine (FitsThread s) starts (run_of w.program w.setup before) w.threads w.shared w.collector b.is_end stands;
        is_end = b.is_end;
        endings = endings;
      };
    }
