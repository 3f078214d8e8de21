-- The classes that a target lists as fresh.
use Rattle.std.specs.Prelude.{◌≡◌, ℕ, ◌&&◌, true, if◌then◌else◌, Option, Some, None}
use Rattle.certs.specs.declared.section.Age.{Age}
use Rattle.certs.specs.declared.section.Age.TheVariants as age
use Rattle.certs.specs.declared.section.Fact.{Fact}
use Rattle.certs.specs.declared.section.Fact.TheVariants as fact
use Rattle.certs.specs.declared.section.Claim.{Claim}
use Rattle.certs.specs.declared.section.Claim.TheVariants as claim
use Rattle.fact_tables.specs.declared.known.Known.{Known}
use Rattle.fact_tables.specs.declared.known.Known.TheVariants.{Cell}
use Rattle.fact_tables.specs.Rows.{known_at, class_at}
use Rattle.facts.specs.Facts.{FactSet}
use Rattle.facts.specs.Claims.{is_fresh, covers}

-- this class here, and that of a reference at the target
abbrev pub with_class : (here : ℕ) → (there : Known) → Option (ℕ × ℕ)
with_class c (Cell d layout stale) = Some (c, d)
with_class c _ = None

-- the classes of a reference here and at the target
abbrev pub both_classes : (here there : Known) → Option (ℕ × ℕ)
both_classes (Cell c layout stale) there = with_class c there
both_classes _ there = None

-- the classes of a value that is listed with this fact, where it is listed as fresh
abbrev pub classes_of : FactSet → (there : FactSet) → (v : ℕ) → Fact → Option (ℕ × ℕ)
classes_of here there v (fact.Reference layout nonnull old same) = if is_fresh old then both_classes (known_at here.values v) (known_at there.values v) else None
classes_of here there v _ = None

-- the classes of a value that a claim lists as fresh
abbrev pub classes_listed : FactSet → (there : FactSet) → Claim → Option (ℕ × ℕ)
classes_listed here there (claim.Value v fact) = classes_of here there v fact
classes_listed here there _ = None

-- not fresh
abbrev pub unfresh_age : Age → Age
unfresh_age age.Fresh = age.Held
unfresh_age other = other

-- the fact, but not of a fresh reference
abbrev pub unfresh_fact : Fact → Fact
unfresh_fact (fact.Reference layout nonnull old same) = fact.Reference layout nonnull (unfresh_age old) same
unfresh_fact f = f

-- the claim, which does not list its value as fresh
abbrev pub unfresh : Claim → Claim
unfresh (claim.Value v fact) = claim.Value v (unfresh_fact fact)
unfresh l = l

-- a class is recorded with this one of the target
abbrev pub IsRecorded : (recorded : ℕ → Option ℕ) → Option (ℕ × ℕ) → Type 0
IsRecorded recorded None = ⊥
IsRecorded recorded (Some (c, d)) = recorded c ≡ Some d

-- each class that is recorded is fresh, and all that is of it is listed there as of the class that is recorded for it
abbrev pub AreCovered : FactSet → (there : FactSet) → (recorded : ℕ → Option ℕ) → Type 0
AreCovered here there recorded = (c d : ℕ) → recorded c ≡ Some d → ((class_at here.classes c).fresh && covers here there c d) ≡ true
