-- Certificates by the numbers of their functions.
use Rattle.std.specs.Prelude.{ℕ, List, Option, Some, None, slice_get}
use Rattle.certs.specs.declared.section.Mark.{Mark}
use Rattle.certs.specs.declared.section.Section.{Section}

-- how a section marks its function
abbrev pub mark_in : Option Section → Option Mark
mark_in None = None
mark_in (Some section) = Some section.mark

-- how a function is marked, if it has a certificate
abbrev pub mark_of : List Section → (function : ℕ) → Option Mark
mark_of sections function = mark_in (slice_get sections function)
