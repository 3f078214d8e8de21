-- The walk went on, and met nothing that is gone.
use Rattle.std.proofs.Common.{ℕ, ◌≤◌, ◌^◌, subst, arith}
use Rattle.stepping.specs.Walks.{IsShaped}
use Rattle.stepping.proofs.Schemas.{cells-of_schema}
use Rattle.stepping.proofs.cover.walked_on.Goals as goal

pub go_on-requires-clause-few : goal.go_on-requires-clause-few
go_on-requires-clause-few c = omega (arith, c.requires.shaped.wide, c.requires.few)

pub returns-in-None-None : goal.returns-in-None-None
returns-in-None-None c = λ s all fits near.
    let closed = c.in_ok-go_on.ensures.closed s all fits near in
    let same = cells-of_schema s c.args.schema fits in (
      record {
        shaped = subst (λ (count : ℕ). IsShaped count c.go_on.new.self) same c.in_ok-go_on.ensures.shaped;
        few = subst (λ (count : ℕ). count ≤ 2 ^ 20) same c.requires.few;
        listed = closed.looked.listed;
        none_free = c.in-None-None.is-0;
        none_reborn = c.in-None-None.is-1;
      },
      closed,
    )
