-- The tables of a module.
use Rattle.ir_ast.specs.declared.module.Module.{Module}
use Rattle.copies.specs.declared.tables.Tables.{Tables}

-- the names and types that a module mentions, and what its names stand for
abbrev pub tables_of : Module → Tables
tables_of m = record { types = m.types; struct_names = m.struct_names; struct_of = m.struct_of; symbols = m.symbols; sorts = m.sorts; wide = m.wide }
