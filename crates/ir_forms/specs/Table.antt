-- Names, and what each of them means so far.
use Rattle.std.specs.Prelude.{ℕ, List, [], ◌∷◌, ◌++◌, Option, Some, None, if◌then◌else◌, nat_lt, length, slice_set}
use Rattle.ir_ast.specs.Names.{place_of, numbered}
use Rattle.ir_forms.specs.declared.table.Table.{Table}

-- a table without a name
abbrev pub empty : {S : Type 0} → Table S
empty = record { names = []; sorts = [] }

-- a new name means nothing so far
abbrev pub sorts_with : {S : Type 0} → Option ℕ → S → List S → List S
sorts_with None nothing sorts = sorts ++ nothing ∷ []
sorts_with (Some n) nothing sorts = sorts

-- the table after a mention of a name
abbrev pub mentioned : {S : Type 0} → List ℕ → S → Table S → Table S
mentioned name nothing t = record { names = numbered name t.names; sorts = sorts_with (place_of name t.names) nothing t.sorts }

-- the table in which a name means this
abbrev pub defined : {S : Type 0} → ℕ → S → Table S → Table S
defined number sort t = record t { sorts = if nat_lt number (length t.sorts) then slice_set t.sorts number sort else t.sorts }
