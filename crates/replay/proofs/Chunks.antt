-- The least seed of a chunk that breaks its run is the least of all, where each seed before the chunk is sound.
use Rattle.std.proofs.Common.{◌<◌, ◌≤◌, ◌⊎◌, ◌≡◌, ◌-◌, ◌+◌, ℕ, Some, arith, inl, inr}
use Rattle.std.specs.Prelude.{min}
use Rattle.layout.specs.Layouts.{LaidOut}
use Rattle.trace_text.specs.declared.trace.Setup.{Setup}
use Rattle.replay.specs.declared.outcome.SeedBreak.{SeedBreak}
use Rattle.replay.specs.Soaks.{AreSoundFrom, IsLeastBreak, IsLeastFrom, IsSoundSeed}

-- a seed lies before the chunk, or it does not
before_or_after : (seed next : ℕ) → (seed < next) ⊎ (next ≤ seed)
before_or_after seed next = grind arith

-- a chunk ends within the seeds
pub chunk_ends : (past next chunk size : ℕ) → next ≤ past → size ≡ min chunk (past - next) → next + size ≤ past
chunk_ends past next chunk size within is = grind (arith, within, is)

-- the seeds before a chunk and those of the chunk
pub sound_on : (p : LaidOut) (begins : ℕ → Setup) (steps first next end : ℕ) → AreSoundFrom p begins steps first next → AreSoundFrom p begins steps next end → AreSoundFrom p begins steps first end
sound_on p begins steps first next end sound more seed low high = go (before_or_after seed next)
  where
    go : (seed < next) ⊎ (next ≤ seed) → IsSoundSeed p begins steps seed
    go (inl early) = sound seed low early
    go (inr late) = more seed late high

-- the least seed of a chunk that ends within the seeds
pub least_of_all : (p : LaidOut) (begins : ℕ → Setup) (first past steps next end : ℕ) (b : SeedBreak) → first ≤ next → AreSoundFrom p begins steps first next → end ≤ past
    → IsLeastFrom p begins steps next end (Some b) → IsLeastBreak p begins first past steps b
least_of_all p begins first past steps next end b low sound within least = record {
  is_seed = let after = least.0 in let high = least.1 in (omega (arith, low, after), omega (arith, high, within));
  before = sound_on p begins steps first next b.seed sound least.2;
  breaks = least.3;
}
