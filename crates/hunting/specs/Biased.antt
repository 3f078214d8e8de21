-- What comes of schedules that seeds draw.
use Rattle.std.specs.Prelude.{ℕ, ◌≡◌, ◌<◌, ◌≤◌}
use Rattle.layout.specs.Layouts.{LaidOut}
use Rattle.trace_text.specs.declared.trace.Setup.{Setup}
use Rattle.hunting.specs.Shorter.{IsBreaking}
use Rattle.hunting.specs.declared.biased_searching.BiasedOutcome.{BiasedOutcome}
use Rattle.hunting.specs.declared.biased_searching.BiasedOutcome.TheVariants.{Broken, Sound}

-- of the seeds from the first one to one past the last: a trace of one of them, from the setup with which its run begins, whose last step is the first that breaks its run. Where none is found, nothing is said
abbrev pub IsBiasedOutcome : LaidOut → (begins : ℕ → Setup) → (first past : ℕ) → BiasedOutcome → Type 0
IsBiasedOutcome p begins first past (Broken b) =
    (first ≤ b.seed) × (b.seed < past) × IsBreaking p b.found.trace b.found.broken × (b.found.trace.setup ≡ begins b.seed)
IsBiasedOutcome p begins first past Sound = Unit {0}

-- none was found
abbrev pub IsSoundOutcome : BiasedOutcome → Type 0
IsSoundOutcome (Broken b) = ⊥
IsSoundOutcome Sound = Unit {0}
