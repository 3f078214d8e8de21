-- What comes of some seeds, and then of more, comes of all of them.
use Rattle.std.proofs.Common.{◌≡◌, ◌≤◌, ◌<◌, ℕ, Bool, true, false, List, Some, None, refl, arith}
use Rattle.command_line.specs.declared.options.Draws.{Draws}
use Rattle.command_line.specs.declared.options.Draws.TheVariants.{Uniform, Biased}
use Rattle.command_line.specs.declared.options.Search.{Search}
use Rattle.layout.specs.Layouts.{LaidOut}
use Rattle.trace_text.specs.Print.{trace_shown}
use Rattle.trace_text.specs.declared.trace.Setup.{Setup}
use Rattle.trace_text.specs.declared.trace.Trace.{Trace}
use Rattle.replay.specs.Soaks.{IsLeastBreak}
use Rattle.replay.specs.declared.outcome.Break.{Break}
use Rattle.replay.specs.declared.outcome.SeedBreak.{SeedBreak}
use Rattle.replay.proofs.Chunks.{sound_on}
use Rattle.hunting.specs.Shorter.{IsBreaking}
use Rattle.hunting.specs.declared.biased_searching.BrokenSeed.{BrokenSeed}
use Rattle.reports.specs.declared.files.Traced.{Traced}
use Rattle.search_commands.specs.declared.sources.Searched.{Searched}
use Rattle.search_commands.specs.declared.sources.Searched.TheVariants.{SoundBelow, BrokenAt, Found}
use Rattle.search_commands.specs.declared.sources.Source.{Source}
use Rattle.search_commands.specs.declared.sources.Source.TheVariants.{Soak, Hunt}
use Rattle.search_commands.specs.Searches.{IsAdded, IsDrawnIf}
use Rattle.search_commands.specs.Sources.{AreSound, AreSoundBy, AreTried, IsBreakBy, IsFound, IsHuntEnd, IsSearched, IsSoaked, IsTried, begins_of, past_seed, seed_break}

-- the seeds before some, and those
sound_by : (draws : Draws) (p : LaidOut) (begins : ℕ → Setup) (steps first next end : ℕ) → AreSoundBy draws p begins steps first next → AreSoundBy draws p begins steps next end → AreSoundBy draws p begins steps first end
sound_by Uniform p begins steps first next end sound more = sound_on p begins steps first next end sound more
sound_by Biased p begins steps first next end sound more = tt

-- and so of any source
pub sound_further : (source : Source) (drawn : Bool) (steps first next end : ℕ) → AreSound source drawn steps first next → IsTried source (record { first = next; past = end; steps = steps; drawn_values = drawn }) None
    → AreSound source drawn steps first end
sound_further (Soak traced draws) drawn steps first next end sound more = sound_by draws traced.now.program (begins_of drawn traced.now) steps first next end sound more
sound_further (Hunt of) drawn steps first next end sound more = tt

-- a seed of some that is broken, after seeds that are sound
broken_by : (draws : Draws) (search : Search) (traced : Traced) (next end : ℕ) (searched : Searched) → search.first ≤ next → end ≤ past_seed search
    → AreSoundBy draws traced.program (begins_of search.drawn_values traced) search.steps search.first next
    → IsBreakBy draws traced.program (begins_of search.drawn_values traced) search.steps next end searched → IsSoaked draws search traced searched
broken_by Uniform search traced next end (BrokenAt at) low within sound broken = record {
  is_seed = let from = broken.is_seed.0 in let below = broken.is_seed.1 in (omega (arith, low, from), omega (arith, below, within));
  before = sound_on traced.program (begins_of search.drawn_values traced) search.steps search.first next at.seed sound broken.before;
  breaks = broken.breaks;
}
broken_by Uniform search traced next end (SoundBelow past) low within sound broken = absurd broken
broken_by Uniform search traced next end (Found found) low within sound broken = absurd broken
broken_by Biased search traced next end (Found found) low within sound broken = record {
  low = let from = broken.low in omega (arith, low, from);
  high = let below = broken.high in omega (arith, below, within);
  starts = broken.starts;
  breaking = broken.breaking;
}
broken_by Biased search traced next end (SoundBelow past) low within sound broken = absurd broken
broken_by Biased search traced next end (BrokenAt at) low within sound broken = absurd broken

-- the same of a hunt
hunted_by : (p : LaidOut) (search : Search) (next end : ℕ) (searched : Searched) → search.first ≤ next → end ≤ past_seed search
    → IsHuntEnd p next end searched → IsHuntEnd p search.first (past_seed search) searched
hunted_by p search next end (SoundBelow past) low within ended = let from = ended.0 in let below = ended.1 in (omega (arith, low, from), omega (arith, below, within))
hunted_by p search next end (BrokenAt at) low within ended = absurd ended
hunted_by p search next end (Found broken) low within ended = let from = ended.0 in let below = ended.1 in (omega (arith, low, from), omega (arith, below, within), ended.2)

-- and so of any source
pub ends_with : (source : Source) (search : Search) (next end : ℕ) (searched : Searched) → search.first ≤ next → end ≤ past_seed search
    → AreSound source search.drawn_values search.steps search.first next
    → IsTried source (record { first = next; past = end; steps = search.steps; drawn_values = search.drawn_values }) (Some searched) → IsSearched source search searched
ends_with (Soak traced draws) search next end searched low within sound tried = broken_by draws search traced.now next end searched low within sound tried
ends_with (Hunt of) search next end searched low within sound tried = hunted_by of.program.now search next end searched low within tried

-- a search that found nothing
pub finds_nothing : (source : Source) (search : Search) (past : ℕ) → AreTried search past → AreSound source search.drawn_values search.steps search.first past → IsSearched source search (SoundBelow past)
finds_nothing (Soak traced draws) search past tried sound = (tried, sound)
finds_nothing (Hunt of) search past tried sound = (tried.from, tried.within)

-- a seed of which the steps are not at hand was drawn uniformly
pub drawn_uniformly : (draws : Draws) (p : LaidOut) (begins : ℕ → Setup) (steps first past : ℕ) (at : SeedBreak) → IsBreakBy draws p begins steps first past (BrokenAt at)
    → (draws ≡ Uniform) × IsLeastBreak p begins first past steps at
drawn_uniformly Uniform p begins steps first past at broken = (refl, broken)
drawn_uniformly Biased p begins steps first past at broken = absurd broken

-- a seed of which the steps are at hand was drawn with few switches
pub drawn_biased : (draws : Draws) (p : LaidOut) (begins : ℕ → Setup) (steps first past : ℕ) (b : BrokenSeed) → IsBreakBy draws p begins steps first past (Found b)
    → (draws ≡ Biased) × IsFound first past p begins (seed_break b) b.found.trace
drawn_biased Uniform p begins steps first past b broken = absurd broken
drawn_biased Biased p begins steps first past b broken = (refl, broken)

-- the steps of a broken seed are saved, if that is wanted
pub drawn_if : (wanted : Bool) (p : LaidOut) (setup : Setup) (trace : Trace) (b : Break) (before after : List ℕ) → trace.setup ≡ setup → IsBreaking p trace b
    → IsAdded wanted (trace_shown p trace) before after → IsDrawnIf wanted p setup b before after
drawn_if true p setup trace b before after begins breaking added = record { trace = trace; begins = begins; breaking = breaking; added = added }
drawn_if false p setup trace b before after begins breaking added = added

-- nothing is saved where that is not wanted
pub not_drawn : (wanted : Bool) (p : LaidOut) (setup : Setup) (b : Break) (before : List ℕ) → wanted ≡ false → IsDrawnIf wanted p setup b before before
not_drawn true p setup b before none = absurd cc
not_drawn false p setup b before none = refl
