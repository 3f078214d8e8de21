-- The thread after its move, by whether its call ends.
use Rattle.std.proofs.Common.{◌≡◌, sym, ap, ◌∙◌, subst}
use Rattle.runs.specs.Machine.{Action, machine_of}
use Rattle.runs.specs.Moves.{answer_of, phase_afterwards, step_of}
use Rattle.runs.specs.Ends.{stage_afterwards}
use Rattle.runs.specs.Tries.{hints_by}
use Rattle.moves.specs.declared.call.Call.{Call}
use Rattle.moves.specs.declared.thread_state.ThreadState.{ThreadState}
use Rattle.moves.specs.Calls.{answer_in, move_in}
use Rattle.moves.specs.Moving.{MayMake}
use Rattle.moves.specs.Stands.{cells_to_try, phase_at}
use Rattle.moves.proofs.Wins.{wins-of-layout}
use Rattle.moves.specs.GoesOn.{same-call, moved-between, moved-within}
use Rattle.moves.proofs.going.go_on.Goals as goal
use Rattle.moves.proofs.going.go_on.Goals.{then-ends_call+in_ok-roots_after, else-ends_call}

pub returns-clause-ok : goal.returns-clause-ok
returns-clause-ok g c s call e asked may =
    let m = machine_of g.M.Machine.action g.M.Machine.after_answer g.M.Machine.roots in
    let roots = g.M.Machine.roots c.args.thread_state.now.state in
    let here = subst (λ (v : Call). MayMake s c.args.thread_state.now.hints roots v c.args.thread_state.now.call_phase c.args.made.now) (same-call call c.call-call.result (asked ∙ sym c.call-call.ensures)) may in
    let cells = cells_to_try s c.args.thread_state.now.hints (g.M.Machine.action c.args.thread_state.now.state) in
    let phase =
    subst
    (λ (a : Action). phase_at (cells_to_try s c.args.thread_state.now.hints a) roots c.call_phase_after-call_phase.result ≡ phase_afterwards s c.args.thread_state.now.stage (phase_at (cells_to_try s c.args.thread_state.now.hints a) roots c.args.thread_state.now.call_phase) (step_of (move_in roots c.args.made.now)))
    c.call-call.ensures (c.call_phase_after-call_phase.ensures s c.args.thread_state.now.hints roots e here) in
    let noted = c.record_win.ensures s roots e (wins-of-layout s c.args.thread_state.now.hints roots c.call-call.result c.args.thread_state.now.call_phase c.args.made.now here) in
    elim c.if-ends_call.branch [
      | then-ends_call+in_ok-roots_after w ↦
          rw w.thread_state-is
          (moved-between s m c.args.thread_state.now c.args.made.now w.answer.new.self c.stage_afterwards-thread_state.result c.call_phase_after-call_phase.result c.old_by-thread_state.result c.record_win.new.hints (answer_in w.answer_of.result)
          phase (sym (c.ends_call.ensures cells roots) ∙ w.if-ends_call.true) w.in_ok-roots_after.ensures.ok
          (w.answer_of.ensures roots ∙ ap (λ a. answer_of a (move_in roots c.args.made.now)) c.call-call.ensures) (c.stage_afterwards-thread_state.ensures roots ∙ ap (λ (v : ThreadState g.row.M.Denot). stage_afterwards v.stage (move_in roots c.args.made.now)) w.thread_state-is) (c.old_by-thread_state.ensures roots)
          (noted ∙ ap (λ (v : ThreadState g.row.M.Denot). hints_by s v.hints (step_of (move_in roots c.args.made.now))) w.thread_state-is))
      | else-ends_call w ↦
          rw w.thread_state-is
          (moved-within s m c.args.thread_state.now c.args.made.now c.stage_afterwards-thread_state.result c.call_phase_after-call_phase.result c.old_by-thread_state.result c.record_win.new.hints
          phase (sym (c.ends_call.ensures cells roots) ∙ w.if-ends_call.false) (c.stage_afterwards-thread_state.ensures roots ∙ ap (λ (v : ThreadState g.row.M.Denot). stage_afterwards v.stage (move_in roots c.args.made.now)) w.thread_state-is) (c.old_by-thread_state.ensures roots)
          (noted ∙ ap (λ (v : ThreadState g.row.M.Denot). hints_by s v.hints (step_of (move_in roots c.args.made.now))) w.thread_state-is))
    ]
