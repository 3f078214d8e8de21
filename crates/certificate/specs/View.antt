-- What a `Progress` shows.
use Rattle.certificate.specs.declared.progress.Progress.TheInside.{Inside}
use Rattle.certificate.specs.Input.{Progress}

-- the sections that are read, the draft of the next one, the shapes, and the functions outside
abbrev pub progress_of : Inside → Progress
progress_of p = record { sections = p.sections.items; draft = p.draft; shapes = p.shapes; foreign = p.foreign; numbers = p.numbers }
