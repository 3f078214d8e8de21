-- The cell at its place in the pool.
use Rattle.std.proofs.Common.{◌<◌, sym, ◌∙◌, subst}
use Rattle.std.proofs.lemmas.Option.{unwrap_or-slice_get}
use Rattle.moves.proofs.hints.next_cell.Goals as goal

pub place_from-place-requires : goal.place_from-place-requires
place_from-place-requires c = subst (λ n. c.args.tried < n) (sym (c.count.ensures ∙ unwrap_or-slice_get c.args.pools.now c.args.layout 0)) c.requires.left
