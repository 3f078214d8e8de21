use Rattle.std.proofs.Common.{arith, ◌≡◌, [], refl, sym, ap, subst, ◌∙◌}
use Rattle.std.proofs.lemmas.Grind.{common_steps}
use Rattle.pools.specs.Heap.{Setup}
use Rattle.heap_words.specs.Tokens.{Holding}
use Rattle.heap_words.specs.Endings.{Ends}
use Rattle.heap_table.proofs.Ends.{next_is_of, all_came}
use Rattle.heap_table.proofs.heap.Heap.close.Goals as goal

pub take_back-requires : goal.take_back-requires
take_back-requires c = let i = c.loop-mutator.invariant in let made = c.into_token-in-Some.ensures in
    let of = next_is_of _ _ _ _ _ _ _ c.requires.mutators i.back c.in-Some.ensures.items in record {
      table = ap (λ (x : Holding). x.table) made ∙ (of.table ∙ sym i.table);
      setup = ap (λ (x : Holding). x.setup) made ∙ (of.setup ∙ sym i.setup);
    }

pub returns-clause-run : goal.returns-clause-run
returns-clause-run c = let i = c.loop-mutator.invariant in let none : c.loop-mutator.mutators.items ≡ [] = grind (arith, common_steps) in
    all_came _ _ _ _ _ c.args.sweeper c.close.result i.back none refl (subst (λ (s : Setup). Ends s c.loop-mutator.ending.shares c.close.result) i.setup c.close.ensures.run)
