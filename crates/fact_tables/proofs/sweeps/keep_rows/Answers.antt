use Rattle.fact_tables.proofs.Marked.{keep_more}
use Rattle.fact_tables.proofs.sweeps.keep_rows.Goals as goal

pub loop-u-preserved : goal.loop-u-preserved
loop-u-preserved c =
    let more = keep_more c.args.added.now c.args.rows.now.items c.loop-u.rows.items c.args.marked.now c.loop-u.u-index c.loop-u-test.true c.loop-u.invariant.changed c.loop-u.invariant.same c.keep_row.new.rows.items c.keep_row.ensures in
    record { changed = more.0; same = more.1 }
