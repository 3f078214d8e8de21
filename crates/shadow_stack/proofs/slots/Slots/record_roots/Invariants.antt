use Rattle.std.proofs.Common.{◌≡◌, drop}
use Rattle.shadow_stack.specs.Slots.{with_roots}
use Rattle.shadow_stack.proofs.slots.Slots.record_roots.Given as goal

abbrev pub invariant-loop-instr : goal.invariant-loop-instr
invariant-loop-instr l = record {
  names : l.self.names ≡ l.initial.self.names;
  addresses : l.self.addresses ≡ l.initial.self.addresses;
  held : l.self.held ≡ l.initial.self.held;
  layouts : l.self.layouts ≡ l.initial.self.layouts;
  roots : with_roots l.fn.«module» l.initial.self.names l.initial.self.held l.fn.body l.initial.self.roots ≡ with_roots l.fn.«module» l.initial.self.names l.initial.self.held (drop l.instr-index l.fn.body) l.self.roots;
}
