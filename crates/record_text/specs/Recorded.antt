-- What an entry says, by its actor and its kind.
use Rattle.std.specs.Prelude.{ℕ, ◌==◌, Bool, true, false, Option, Some, None, if◌then◌else◌}
use Rattle.colours.specs.declared.turn.Turn.{Turn}
use Rattle.colours.specs.declared.turn.Turn.TheVariants as turn
use Rattle.record_text.specs.declared.entry.Entry.{Entry}
use Rattle.record_text.specs.declared.steps.ThreadStep.{ThreadStep}
use Rattle.record_text.specs.declared.steps.ThreadStep.TheVariants.{ReadWord, ReadOldValue, Mark, StoreAfterBarrier, StorePlain, Claim, ReadPosted, StoreStage, ReadPostedFirst, EnterStage, ReadPostedAgain}
use Rattle.record_text.specs.declared.steps.Recorded.{Recorded}
use Rattle.record_text.specs.declared.steps.Recorded.TheVariants.{Thread, Root, Collector, Unknown}

-- a step of a thread
abbrev pub thread_step : Entry → Option ThreadStep
thread_step e =
    if e.kind == 1 then Some (ReadWord e.cell e.word e.value)
    else (if e.kind == 2 then Some (ReadOldValue e.cell e.word e.value)
    else (if e.kind == 3 then Some (Mark e.cell)
    else (if e.kind == 4 then Some (StoreAfterBarrier e.cell e.word e.value)
    else (if e.kind == 5 then Some (StorePlain e.cell e.word e.value)
    else (if e.kind == 6 then Some (Claim e.cell true)
    else (if e.kind == 7 then Some (Claim e.cell false)
    else (if e.kind == 8 then Some (ReadPosted e.value)
    else (if e.kind == 9 then Some (StoreStage e.value)
    else (if e.kind == 10 then Some (ReadPostedFirst e.value)
    else (if e.kind == 11 then Some (EnterStage e.value)
    else (if e.kind == 12 then Some (ReadPostedAgain e.value) else None)))))))))))

-- a step of the collector
abbrev pub turn_recorded : Entry → Option Turn
turn_recorded e =
    if e.kind == 21 then Some (turn.PostStage e.value)
    else (if e.kind == 22 then Some (turn.ReadStage e.cell e.value)
    else (if e.kind == 23 then Some (turn.MarkFound e.cell e.value)
    else (if e.kind == 24 then Some (turn.ReadColour e.cell e.value)
    else (if e.kind == 25 then Some (turn.ScanWord e.cell e.word e.value)
    else (if e.kind == 26 then Some (turn.Blacken e.cell)
    else (if e.kind == 27 then Some (turn.ClearWord e.cell e.word)
    else (if e.kind == 28 then Some (turn.Free e.cell) else None)))))))

-- what an entry of a thread says, if its kind is one of a thread's steps
abbrev pub of_thread : (thread : ℕ) → Option ThreadStep → Recorded
of_thread thread None = Unknown
of_thread thread (Some step) = Thread thread step

-- what an entry of the collector says, if its kind is one of the collector's steps
abbrev pub of_collector : Option Turn → Recorded
of_collector None = Unknown
of_collector (Some turn) = Collector turn

-- what an entry says: the collector is actor 255, and a thread's kind 13 names a root
abbrev pub recorded_of : Entry → Recorded
recorded_of e = if e.actor == 255 then of_collector (turn_recorded e) else (if e.kind == 13 then Root e.actor e.cell else of_thread e.actor (thread_step e))
