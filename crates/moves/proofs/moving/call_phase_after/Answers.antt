-- A mark and a lost try go by where the thread is.
use Rattle.std.proofs.Common.{◌≡◌, Bool, false, [], Some, rules, subst, sym, ap, ◌∙◌}
use Rattle.colours.specs.Steps as steps
use Rattle.runs.specs.Machine.{WordValue}
use Rattle.runs.specs.Moves.{phase_afterwards}
use Rattle.moves.specs.declared.moves.Move.{Move}
use Rattle.moves.specs.declared.moves.Move.TheVariants.{Claims}
use Rattle.moves.specs.Calls.{action_of}
use Rattle.moves.specs.Moving.{MayMake, MarksNext}
use Rattle.moves.specs.Stands.{cells_to_try, phase_at}
use Rattle.moves.proofs.moving.call_phase_after.Goals as goal

pub returns-in-Marks : goal.returns-in-Marks
returns-in-Marks c s hints roots e may =
    let cells = cells_to_try s hints (action_of c.args.call.now) in
    let here = subst (λ (v : Move). MayMake s hints roots c.args.call.now c.args.call_phase v) c.in-Marks.is may in
    let same = ap (λ (r : WordValue). r.cell) c.marked.view_is in
    rw c.in-Marks.is
    (subst (λ n. phase_at cells roots c.afterwards_mark.result ≡ phase_afterwards s c.args.stage (phase_at cells roots c.args.call_phase) (Some (steps.Mark n))) same
    (c.afterwards_mark.ensures s c.args.stage cells roots (subst (λ n. MarksNext roots c.args.call_phase n) (sym same) here)))

pub returns-in-Claims : goal.returns-in-Claims
returns-in-Claims c s hints roots e may =
    let lost : c.in-Claims.won ≡ false = search rules in
    let is = c.in-Claims.is ∙ ap (λ (b : Bool). Claims c.in-Claims.claimed b) lost in
    let here = subst (λ (v : Move). MayMake s hints roots c.args.call.now c.args.call_phase v) is may in
    rw is (c.afterwards_loss.ensures s c.args.stage hints roots c.in-Claims.claimed.cell e here)

pub returns-in-Ends : goal.returns-in-Ends
returns-in-Ends c s hints roots e may = rw c.in-Ends.is (c.after_stage.ensures s c.args.stage (cells_to_try s hints (action_of c.args.call.now)) roots [])

pub returns-in-Answers : goal.returns-in-Answers
returns-in-Answers c s hints roots e may = rw c.in-Answers.is (c.after_stage-in-Answers.ensures s c.args.stage (cells_to_try s hints (action_of c.args.call.now)) roots roots)
