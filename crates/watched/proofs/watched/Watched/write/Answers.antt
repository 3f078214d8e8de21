use Rattle.std.proofs.Common.{◌≡◌, ◌∙◌, Some, sym, subst, ap, rules, true}
use Rattle.pools.specs.Heap.{kind_of}
use Rattle.pools.specs.Layouts.{is_reference_kind}
use Rattle.colours.specs.Mutator.{stage_of, IsPossibleLog}
use Rattle.heap_table.specs.Holders.{Holder}
use Rattle.watch.specs.Knows.{Knows}
use Rattle.watched.proofs.Steps.{of_references, replaced_low, replaced_known}
use Rattle.watched.proofs.watched.Watched.write.Goals as goal

pub invariant_of-self : goal.invariant_of-self
invariant_of-self c =
    let s = c.self.inside.me.setup in
    let before = c.self.inside.me.log in
    let after = c.write-old.new.me.log in
    let stage = stage_of before in
    let cell = c.args.cell in
    let word = c.args.word in
    let old = c.write-old.result in
    let x = c.found.new.self in
    let kind = subst (λ (h : Holder). kind_of h.setup cell word ≡ Some c.in_ok-kind.kind) (sym c.self.view_is) c.in_ok-kind.ensures.ok.1 in
    let reference : is_reference_kind (kind_of s cell word) ≡ true = of_references _ _ c.in-Reference.field-0 kind c.in-Reference.is in
    let possible = subst (λ (h : Holder). IsPossibleLog h.setup after) c.write-old.ensures.token.0 c.write-old.ensures.possible in (
      subst (λ (h : Holder). Knows h.setup after c.stored.new.self) (sym c.write-old.ensures.token.0)
          (replaced_known s x c.stored.new.self stage cell word old c.args.new before after c.write-old.ensures.log (λ log marked k. c.others_law.ensures.mark s log x marked k)
          (c.found.ensures.read_old s before cell word reference (replaced_low s stage cell word old c.args.new before after reference c.write-old.ensures.log possible) c.self.invariant.0)
          (λ log k. c.stored.ensures.barrier s log cell word reference k)),
      c.self.invariant.1 ∙ sym (ap (λ (h : Holder). h.setup) c.write-old.ensures.token.0),
    )
