-- What the blocks of a function begin with.
use Rattle.std.specs.Prelude.{◌≡◌, ℕ, List, map, length, slice_get, Option, Some, None}
use Rattle.std.specs.List.{range_with_len}
use Rattle.ir_ast.specs.declared.function.Function.{Function}
use Rattle.certs.specs.declared.section.Section.{Section}
use Rattle.layout.specs.Layouts.{LaidOut}
use Rattle.facts.specs.Facts.{FactSet}
use Rattle.block_rules.specs.Certified.{context_of}
use Rattle.block_rules.specs.Edges.{RuleContext, entry_facts_at}

-- what the first blocks of a function begin with
abbrev pub first_entry_facts : RuleContext → (count : ℕ) → List FactSet
first_entry_facts s count = map (entry_facts_at s) (range_with_len 0 count)

-- what each of its blocks begins with
abbrev pub given_all : RuleContext → List FactSet
given_all s = first_entry_facts s (length s.function.blocks)

-- these are what the first blocks of a function begin with
abbrev pub AreEntryFacts : RuleContext → List FactSet → Type 0
AreEntryFacts s rows = (block : ℕ) (facts : FactSet) → slice_get rows block ≡ Some facts → facts ≡ entry_facts_at s block

-- these are what the blocks of a function begin with, if it exists
abbrev pub AreRowsIn : LaidOut → (certs : List Section) → Option Section → Option Function → List FactSet → Type 0
AreRowsIn program certs section None rows = ⊥
AreRowsIn program certs section (Some f) rows = rows ≡ given_all (context_of program certs f section)

-- these are what the blocks of a function of the program begin with
abbrev pub AreRowsOf : LaidOut → List Section → (func : ℕ) → List FactSet → Type 0
AreRowsOf program certs func rows = AreRowsIn program certs (slice_get certs func) (slice_get program.of_module.functions func) rows

-- these are what the first blocks of a function begin with, if it exists
abbrev pub AreEntryFactsIn : LaidOut → (certs : List Section) → Option Section → Option Function → List FactSet → Type 0
AreEntryFactsIn program certs section None rows = Unit {0}
AreEntryFactsIn program certs section (Some f) rows = AreEntryFacts (context_of program certs f section) rows

-- these are what the first blocks of a function of the program begin with
abbrev pub AreEntryFactsOf : LaidOut → List Section → (func : ℕ) → List FactSet → Type 0
AreEntryFactsOf program certs func rows = AreEntryFactsIn program certs (slice_get certs func) (slice_get program.of_module.functions func) rows
