use Rattle.colours.specs.Lists.{read_exact, plain_exact, finish_exact}
use Rattle.colours.specs.Hints.{pool_by_hint}
use Rattle.colours.proofs.Arrivals.{begin_exact}
use Rattle.colours.proofs.Barriers.{write_exact}
use Rattle.colours.proofs.Tries.{alloc_exact}
use Rattle.colours.proofs.laws.op_law.Goals as goal

pub returns-clause-read : goal.returns-clause-read
returns-clause-read c = read_exact

pub returns-clause-store_plain : goal.returns-clause-store_plain
returns-clause-store_plain c = plain_exact

pub returns-clause-write : goal.returns-clause-write
returns-clause-write c s thread stage cell word new = write_exact s stage cell word new thread

pub returns-clause-alloc : goal.returns-clause-alloc
returns-clause-alloc c s thread stage layout cell cells pool = alloc_exact s stage layout thread cell cells pool

pub returns-clause-hints : goal.returns-clause-hints
returns-clause-hints c s layout hint is_layout within = pool_by_hint s layout hint is_layout within

pub returns-clause-begin : goal.returns-clause-begin
returns-clause-begin c s thread own stage = begin_exact s thread own stage

pub returns-clause-finish : goal.returns-clause-finish
returns-clause-finish c = finish_exact
