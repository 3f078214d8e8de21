use Rattle.std.proofs.Common.{◌∙◌, ap}
use Rattle.indexmap.specs.IndexSet.{insert_all}
use Rattle.ir_ast.proofs.KeysAgain.{all_again}
use Rattle.ir_ast.proofs.rehashed.rehash.Goals as goal

pub returns : goal.returns
returns g c =
    c.in_ok-append.ensures.keys ∙ ap (λ keys. insert_all g.T.PartialEq.eq keys c.args.each.now.keys) c.in_ok-rehashed.ensures.empty
    ∙ all_again g.T.PartialEq.eq g.met.T.Eq.laws c.args.each.now.keys c.len-count.ensures.unique
