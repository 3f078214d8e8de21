use Rattle.std.proofs.Common.{◌≡◌, drop}
use Rattle.shadow_stack.specs.Slots.{with_roots_of}
use Rattle.shadow_stack.proofs.slots.Slots.record_blocks.Given as goal

abbrev pub invariant-loop-block : goal.invariant-loop-block
invariant-loop-block l = record {
  names : l.self.names ≡ l.initial.self.names;
  addresses : l.self.addresses ≡ l.initial.self.addresses;
  held : l.self.held ≡ l.initial.self.held;
  layouts : l.self.layouts ≡ l.initial.self.layouts;
  roots : with_roots_of l.fn.«module» l.initial.self.names l.initial.self.held l.fn.blocks l.initial.self.roots ≡ with_roots_of l.fn.«module» l.initial.self.names l.initial.self.held (drop l.block-index l.fn.blocks) l.self.roots;
}
