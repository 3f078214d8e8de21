use Rattle.search_commands.proofs.shorter.save_shorter.Goals as goal

pub returns-clause-shorter : goal.returns-clause-shorter
returns-clause-shorter c = record { trace = c.args.shorter.found.trace; breaking = c.requires; added = c.in_ok-add_trace.ensures.added }
