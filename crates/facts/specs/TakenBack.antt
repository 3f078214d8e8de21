-- What phis change, where it can be taken back.
use Rattle.std.specs.Prelude.{◌≡◌, ◌<◌, ◌≤◌, ◌⊎◌, ℕ, true, List, [], ◌∷◌, length, slice_set}
use Rattle.fact_tables.specs.declared.known.Class.{Class}
use Rattle.facts.specs.declared.entry.Entry.{Entry}
use Rattle.fact_tables.specs.declared.known.Known.{Known}
use Rattle.fact_tables.specs.declared.known.Known.TheVariants.{Nothing, Cell}
use Rattle.fact_tables.specs.Rows.{known_at, class_at, is_of}
use Rattle.facts.specs.Facts.{FactSet, forget, set_known, set_class}

-- a value is one of these phis
abbrev pub IsPhi : ℕ → List Entry → Type 0
IsPhi v [] = ⊥
IsPhi v (entry ∷ entries) = (entry.phi ≡ v) ⊎ IsPhi v entries

-- a reference of this class comes in to one of these phis
abbrev pub ComesIn : ℕ → List Entry → Type 0
ComesIn c [] = ⊥
ComesIn c (entry ∷ entries) = (is_of c entry.known ≡ true) ⊎ ComesIn c entries

-- facts differ only in what is known of these phis, in the classes that come in to them, and in classes that were added
pub record DifferBy (entries : List Entry) (before after : FactSet) : Type 0 where
  pub slots : after.slots ≡ before.slots
  pub tests : after.tests ≡ before.tests
  pub many : length after.values ≡ length before.values
  pub values : (v : ℕ) → IsPhi v entries ⊎ (known_at after.values v ≡ known_at before.values v)
  pub more : length before.classes ≤ length after.classes
  pub classes : (c : ℕ) → c < length before.classes → ComesIn c entries ⊎ (class_at after.classes c ≡ class_at before.classes c)

-- the end of what is known of a value ends nothing else, whatever is known of classes
abbrev pub EndsAlone : ℕ → FactSet → Type 0
EndsAlone v f = (classes : List Class) → forget v (record f { classes = classes }) ≡ record f { values = slice_set f.values v Nothing; classes = classes }

-- the class of what came in is as before
abbrev pub class_back : Known → (before f : FactSet) → FactSet
class_back (Cell c layout stale) before f = set_class c (class_at before.classes c) f
class_back _ before f = f

-- what is known of a phi and of the class that came in to it is as before
abbrev pub entry_back : Entry → (before f : FactSet) → FactSet
entry_back entry before f = class_back entry.known before (set_known entry.phi (known_at before.values entry.phi) f)
