-- Where an instruction is.
use Rattle.std.specs.Prelude.{ℕ, ◌+◌}
use Rattle.ir_ast.specs.declared.instr.Instr.{Instr}
use Rattle.ir_forms.specs.declared.site.Site.{Site}

-- before the first instruction of a block's body
abbrev pub first_of : ℕ → Site
first_of block = record { block = block; place = 0 }

-- after a further instruction
abbrev pub afterwards : Site → Instr → Site
afterwards site x = record site { place = site.place + 1 }
