-- The numbers that a seed draws: each by the generator PCG32, from 0 to a last one.
use Rattle.std.specs.Prelude.{ℕ, zero, suc, ◌+◌, ◌^◌, List, [], ◌∷◌}
use Rattle.rand_core.specs.Stream.{Stream, next_u32}
use Rattle.rand_core.specs.Steps.{stream_of, steps_u32}
use Rattle.rand_core.specs.Pcg32Seed.{pcg32_seed}
use Rattle.rand.specs.Uniform.{canon}
use Rattle.rand_pcg.specs.Pcg.{pcg32, pcg32_of_seed}

-- one number from 0 to the last, and the stream that is left
unfoldable pub one_draw : (last : ℕ) → Stream → ℕ × Stream
one_draw last s = canon (2 ^ 32) next_u32 (last + 1) s

-- the next n numbers of a stream
unfoldable pub draws_from : (last count : ℕ) → Stream → List ℕ
draws_from last zero s = []
draws_from last (suc count) s = (one_draw last s).0 ∷ draws_from last count (one_draw last s).1

-- what the generator of a seed gives
unfoldable pub seeded : (seed : ℕ) → Stream
seeded seed = stream_of (steps_u32 pcg32) (pcg32_of_seed (pcg32_seed 16 seed))

-- the first n numbers of a seed
unfoldable pub drawn : (last seed count : ℕ) → List ℕ
drawn last seed count = draws_from last count (seeded seed)
