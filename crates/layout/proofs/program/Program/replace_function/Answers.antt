use Rattle.std.proofs.Common.{sym, ◌∙◌}
use Rattle.layout.proofs.Grown.{layouts_with, sizes_with, globals_with}
use Rattle.layout.proofs.program.Program.replace_function.Goals as goal

pub invariant_of-self : goal.invariant_of-self
invariant_of-self c =
    let m = c.self.inside.of_module in
    let fs = c.replace.new.self in
    let old = c.self.invariant in
    (layouts_with m fs c.self.inside.layouts old.0, sizes_with m fs c.self.inside.sizes.each old.1, old.2, old.3 ∙ sym (globals_with m fs))
