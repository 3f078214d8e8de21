use Rattle.std.proofs.Common.{◌≡◌, ◌-◌, length}
use Rattle.ir_ast.specs.Links.{texts_of, chain, first_named}
use Rattle.ir_ast.proofs.links.Links.first_named.Given as goal

abbrev pub invariant-loop-step : goal.invariant-loop-step
invariant-loop-step l =
    let names = texts_of l.bytes l.spans in
    first_named l.text names (chain (length l.self.befores.items) l.self.befores.items l.initial.number) ≡ first_named l.text names (chain (length l.self.befores.items - l._step) l.self.befores.items l.number)
