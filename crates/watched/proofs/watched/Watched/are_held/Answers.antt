use Rattle.std.proofs.Common.{◌≡◌, ℕ, ◌<◌, List, inl, inr, true, false, refl, sym, subst, ◌∙◌, get_or, arith}
use Rattle.heap_table.specs.Holders.{Holder}
use Rattle.colours.specs.Mutator.{MayUse}
use Rattle.watched.proofs.Items.{in_list, each_in}
use Rattle.watched.proofs.watched.Watched.are_held.Goals as goal

pub returns : goal.returns
returns c = record {
  ok = λ root is. each_in (λ r. MayUse c.args.self.now.setup c.args.self.now.log r) c.args.roots.now (λ i lt. c.loop-root.invariant i (omega (arith, lt, c.loop-root-test.false))) root is;
  why = tt;
}

pub returns-then-not-holds-clause-why : goal.returns-then-not-holds-clause-why
returns-then-not-holds-clause-why c =
    (in_list c.args.roots.now c.loop-root.root-index c.loop-root-test.true, (λ may. refused (subst (λ (h : Holder). MayUse h.setup h.log root) (sym c.self.view_is) may)))
  where
    root : ℕ
    root = get_or c.args.roots.now c.loop-root.root-index 0

    refused : MayUse c.self.inside.me.setup c.self.inside.me.log root → ⊥
    refused (inl null) = c.if-root-ne0.true null
    refused (inr held) = let is : c.holds.result ≡ true = (c.holds.ensures.held c.self.inside.me.setup c.self.inside.me.log c.self.invariant.0).1 held in absurd (cc (is, c.if-not-holds.true))
