-- What is known of a value, as a claim of a certificate.
use Rattle.std.specs.Prelude.{ℕ, Bool, List, [], Option, Some, None, option_map, if◌then◌else◌}
use Rattle.certs.specs.declared.section.Age.{Age}
use Rattle.certs.specs.declared.section.Age.TheVariants as age
use Rattle.certs.specs.declared.section.Claim.{Claim}
use Rattle.certs.specs.declared.section.Claim.TheVariants as claim
use Rattle.certs.specs.declared.section.Fact.{Fact}
use Rattle.certs.specs.declared.section.Fact.TheVariants as fact
use Rattle.certs.specs.declared.section.Mark.TheVariants as mark
use Rattle.certs.specs.declared.section.Section.{Section}
use Rattle.fact_tables.specs.declared.known.Known.{Known}
use Rattle.fact_tables.specs.declared.known.Known.TheVariants as known
use Rattle.fact_tables.specs.Rows.{known_at, class_at}
use Rattle.facts.specs.Facts.{FactSet}

-- whether a reference is stale, or fresh
abbrev pub age_of : FactSet → (class : ℕ) → (stale : Bool) → Age
age_of facts class stale = if stale then age.Stale else (if (class_at facts.classes class).fresh then age.Fresh else age.Held)

-- what is known of a reference of this class
abbrev pub reference : FactSet → (class layout : ℕ) → (stale : Bool) → Fact
reference facts class layout stale = fact.Reference layout (class_at facts.classes class).nonnull (age_of facts class stale) None

-- the fact that says what is known, if one does
abbrev pub fact_of : FactSet → Known → Option Fact
fact_of facts known.Nothing = None
fact_of facts known.Null = None
fact_of facts (known.Number bits below) = Some (fact.Number bits below)
fact_of facts (known.Cell class layout stale) = Some (reference facts class layout stale)
fact_of facts (known.Address base words) = Some (fact.Address base words)
fact_of facts (known.GlobalAddress symbol) = Some (fact.GlobalAddress symbol)

-- what is known of a value as a claim, if one says it
abbrev pub claim_of : FactSet → (value : ℕ) → Option Claim
claim_of facts value = option_map (λ said. claim.Value value said) (fact_of facts (known_at facts.values value))

-- a section with these claims of its first blocks, and nothing else
abbrev pub section_of : List (List Claim) → Section
section_of blocks = record { mark = mark.None; parameters = []; result = None; blocks = blocks }
