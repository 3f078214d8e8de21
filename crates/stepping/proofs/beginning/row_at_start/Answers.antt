-- The row has each word of the cell.
use Rattle.std.proofs.Common.{◌≡◌, length, ap, ◌∙◌, arith}
use Rattle.stepping.proofs.Beginnings.{row-at-start}
use Rattle.stepping.proofs.beginning.row_at_start.Goals as goal

pub returns : goal.returns
returns c s schema setup values =
    let last : c.loop-word.word ≡ length c.words-word-end.result.now = omega (arith, c.loop-word-test.false) in
    let count = c.loop-word.invariant.count ∙ last ∙ ap length (c.words-word-end.ensures s schema) in
    row-at-start s c.args.values.now c.args.cell c.loop-word.row setup values count c.loop-word.invariant.holds c.loop-word.invariant.fits
