use Rattle.std.proofs.Common.{◌∙◌, ◌++◌, ℕ, List, ap, subst, sym}
use Rattle.check_commands.specs.Rechecks.{OfEdits}
use Rattle.library_answers.proofs.sessions.lines_of.Goals as goal

pub returns : goal.returns
returns c =
    let told = c.in_ok-write_edits.ensures in
    let text = told.2 ∙ ap (λ (l : List ℕ). l ++ told.0) c.new-lines.ensures.items in
    subst (λ (l : List ℕ). OfEdits 1 c.args.session.now c.args.edits.now c.write_edits.new.session l) (sym text) told.1
