use Rattle.clap.specs.Words.{found_of, rows_of}
use Rattle.command_line.proofs.LineLemmas.{line_from}
use Rattle.command_line.proofs.reader.command_found.Goals as goal

pub returns-in-Some-command_given-clause-found : goal.returns-in-Some-command_given-clause-found
returns-in-Some-command_given-clause-found c =
    line_from c.args.matches.now c.in-Some.name.now (rows_of (found_of c.in-Some.given.now)) _ c.in-Some.ensures.name c.in-Some.ensures.rows c.in-Some-command_given.ensures.asked

pub returns-in-None-clause-lacks : goal.returns-in-None-clause-lacks
returns-in-None-clause-lacks c =
    line_from c.args.matches.now c.in-Some.name.now (rows_of (found_of c.in-Some.given.now)) _ c.in-Some.ensures.name c.in-Some.ensures.rows c.in-None.ensures.asked
