-- There is room for one entry more.
use Rattle.std.proofs.Common.{arith}
use Rattle.step_records.proofs.Saying.{one_more}
use Rattle.step_records.proofs.writing.put_said.Goals as goal

pub returns-clause-said : goal.returns-clause-said
returns-clause-said c entries is =
    one_more c.args.bytes.now.items c.put_entry.new.bytes.items entries c.in-Some.entry c.args.said (omega (arith, c.if-len-ge-RECORD_LIMIT.false)) c.in-Some.ensures.some is (c.in_ok-put_entry.ensures entries is)
