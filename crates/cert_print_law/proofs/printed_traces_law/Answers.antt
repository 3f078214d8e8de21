use Rattle.cert_print_law.proofs.NamedTraces.{program_named}
use Rattle.cert_print_law.proofs.printed_traces_law.Goals as goal

pub returns-clause-named : goal.returns-clause-named
returns-clause-named c p own laid short = program_named p own laid short

pub returns-clause-read : goal.returns-clause-read
returns-clause-read c bytes p own is laid short = program_named p (c.named_law.ensures bytes p.of_module own is) laid short
