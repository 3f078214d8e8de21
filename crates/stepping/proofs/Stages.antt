-- The stages of threads that have begun are low.
use Rattle.std.proofs.Common.{◌≢◌, ℕ, ◌*◌, ◌^◌, ◌<◌, inl, inr, List, arith}
use Rattle.pools.specs.Heap.{Setup}
use Rattle.colours.specs.Mutator.{Ended, stage_of, phase_of}
use Rattle.colours.specs.Collector.{posted_of}
use Rattle.colours.specs.Runs.{Event, log_of, turns_of, IsRun}
use Rattle.colours.specs.Safety.{IsInStep}
use Rattle.colours.specs.Stages.{Begun, Handshake, handshake}

-- a stage in step with a low one is low, or done
pub stage_low : (s : Setup) (h : List Event) (t : ℕ) → IsRun s h → t < s.threads → Begun s h t → phase_of s t (log_of t h) ≢ Ended
    → stage_of (log_of t h) < 2 ^ 62
stage_low s h t r lt begun under_way = go (hands.in_step t lt begun)
  where
    hands : Handshake s h
    hands = handshake s h r

    go : IsInStep (posted_of (turns_of h)) (stage_of (log_of t h)) → stage_of (log_of t h) < 2 ^ 62
    go (inl e) = let low : posted_of (turns_of h) < 3 * 2 ^ 60 = hands.low in omega arith
    go (inr (inl e)) = let low : posted_of (turns_of h) < 3 * 2 ^ 60 = hands.low in omega arith
    go (inr (inr e)) = absurd (under_way (hands.ended t lt begun e))
