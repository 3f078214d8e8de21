use Rattle.std.proofs.Common.{◌∙◌, ap, map, subst, sym}
use Rattle.clap.specs.Words.{HasKind, fault_of, is_simple, is_simple_and_free, subcommand_of}
use Rattle.command_line.specs.Grammar.{line_found}
use Rattle.command_line.proofs.LineLemmas.{is_simple_and_free_dgc, is_simple_dgc, refuses}
use Rattle.command_line.proofs.reader.read_command.Goals as goal

pub returns-in_err-matches-clause-refused : goal.returns-in_err-matches-clause-refused
returns-in_err-matches-clause-refused c =
    let words = map (λ word. word.now) c.args.words.now in
    let app = c.in_ok-dgc_command.ensures.app in
    let error = c.in_err-matches.field-0.0 in
    let kind = c.in_err-matches.ensures.kinds (ap is_simple_and_free app ∙ is_simple_and_free_dgc) in
    refuses words error c.from_residual-in_err-matches.result (subst (λ a. HasKind (fault_of a words) error) app kind)
    c.from_residual-in_err-matches.ensures.1

pub returns-in-Ok-clause-taken : goal.returns-in-Ok-clause-taken
returns-in-Ok-clause-taken c ok =
    let words = map (λ word. word.now) c.args.words.now in
    let app = c.in_ok-dgc_command.ensures.app in
    let none = c.in_ok-matches.ensures.kinds (ap is_simple_and_free app ∙ is_simple_and_free_dgc) in
    sym (ap (λ a. fault_of a words) app) ∙ none

pub returns-in-Ok-clause-found : goal.returns-in-Ok-clause-found
returns-in-Ok-clause-found c =
    let words = map (λ word. word.now) c.args.words.now in
    let app = c.in_ok-dgc_command.ensures.app in
    let parse = c.in_ok-matches.ensures.matches (ap is_simple app ∙ is_simple_dgc) in
    sym (ap line_found (parse.1 ∙ ap (λ a. subcommand_of a words) app)) ∙ c.in-Ok.ensures.found

pub returns-in-Err-clause-refused : goal.returns-in-Err-clause-refused
returns-in-Err-clause-refused c =
    let words = map (λ word. word.now) c.args.words.now in
    let app = c.in_ok-dgc_command.ensures.app in
    let parse = c.in_ok-matches.ensures.matches (ap is_simple app ∙ is_simple_dgc) in
    sym (ap line_found (parse.1 ∙ ap (λ a. subcommand_of a words) app)) ∙ c.in-Err.ensures.lacks
