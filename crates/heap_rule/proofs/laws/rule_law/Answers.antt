-- The law of the rule, clause by clause.
use Rattle.heap_rule.specs.Seats.{opens, splits, joins}
use Rattle.heap_rule.specs.Stepping.{extends, keeps_rule}
use Rattle.heap_rule.proofs.laws.rule_law.Goals as goal

pub returns-clause-run : goal.returns-clause-run
returns-clause-run c s share event ask found run is mine holds step = extends s run share event ask found is mine holds step

pub returns-clause-keeps : goal.returns-clause-keeps
returns-clause-keeps c s share event ask table seat v slots ruled at is here step = keeps_rule s share event ask table seat v slots here is step ruled at

pub returns-clause-opens : goal.returns-clause-opens
returns-clause-opens c s words ok sized are = opens s words ok sized are

pub returns-clause-deals : goal.returns-clause-deals
returns-clause-deals c s seat thread below = splits s seat thread below

pub returns-clause-joins : goal.returns-clause-joins
returns-clause-joins c s seat v other w bare = joins s seat v other w bare
