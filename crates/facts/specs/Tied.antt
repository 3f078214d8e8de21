-- References that claims list as the same, in the facts.
use Rattle.std.specs.Prelude.{◌≡◌, ℕ, ◌==◌, ◌||◌, Bool, true, List, map}
use Rattle.fact_tables.specs.declared.known.Class.{Class}
use Rattle.fact_tables.specs.declared.known.Known.{Known}
use Rattle.fact_tables.specs.declared.known.Known.TheVariants.{Cell}
use Rattle.fact_tables.specs.declared.ties.Ties.{Ties}
use Rattle.fact_tables.specs.Rows.{known_at}
use Rattle.fact_tables.specs.Ties.{known_now}
use Rattle.facts.specs.Facts.{FactSet, set_known}

-- u, of which this is known, is of the class that it has for itself
abbrev pub is_own : (u : ℕ) → Known → Bool
is_own u (Cell c layout stale) = c == u
is_own u _ = true

-- each reference is of the class that it has for itself
abbrev pub AreOwn : List Known → Type 0
AreOwn values = (u : ℕ) → is_own u (known_at values u) ≡ true

-- the facts where values are tied
abbrev pub facts_now : Ties → FactSet → FactSet
facts_now ties f = record f { values = map (known_now ties) f.values }

-- what is known of a class that two became
abbrev pub class_of_both : (one other : Class) → Class
class_of_both one other = record { nonnull = one.nonnull || other.nonnull; fresh = one.fresh || other.fresh }

-- a value is of the class that it has now
abbrev pub settle_value : Ties → (v : ℕ) → FactSet → FactSet
settle_value ties v f = set_known v (known_now ties (known_at f.values v)) f
