-- Where the thread is, and what it asks for, give its next move.
use Rattle.std.proofs.Common.{Some, ap, sym, ◌∙◌, subst}
use Rattle.runs.specs.Machine.{machine_of, Safepoint}
use Rattle.moves.specs.Calls.{action_of}
use Rattle.moves.specs.declared.thread_state.CallPhase.{CallPhase}
use Rattle.moves.specs.Moving.{HasRoom, HasRoomForNext}
use Rattle.moves.specs.Stands.{sight_in}
use Rattle.moves.specs.Nexts.{stands-next, tried_of-length, counts-none}
use Rattle.moves.proofs.next.next_move.Goals as goal

-- where it is, nothing is counted

pub returns-in-Ready-clause-room : goal.returns-in-Ready-clause-room
returns-in-Ready-clause-room g c = counts-none c.args.thread_state.now.call_phase _ c.in-Ready.is tt tt (Some c.first_move.result)

pub returns-in-MarkingOld-clause-room : goal.returns-in-MarkingOld-clause-room
returns-in-MarkingOld-clause-room g c = counts-none c.args.thread_state.now.call_phase _ c.in-MarkingOld.is tt tt c.mark_of_old.result

pub returns-in-MarkingNew-clause-room : goal.returns-in-MarkingNew-clause-room
returns-in-MarkingNew-clause-room g c = counts-none c.args.thread_state.now.call_phase _ c.in-MarkingNew.is tt tt c.mark_or_store.result

pub returns-in-Writing-clause-room : goal.returns-in-Writing-clause-room
returns-in-Writing-clause-room g c = counts-none c.args.thread_state.now.call_phase _ c.in-Writing.is tt tt c.store_of_new.result

-- cells of a pool, and roots of a list

pub returns-in-Trying-clause-room : goal.returns-in-Trying-clause-room
returns-in-Trying-clause-room g c = subst (λ (v : CallPhase). HasRoomForNext v c.next_try.result) (sym c.in-Trying.is) c.next_try.ensures.room

pub returns-in_ok-answering_move-in-Safepoint-clause-room : goal.returns-in_ok-answering_move-in-Safepoint-clause-room
returns-in_ok-answering_move-in-Safepoint-clause-room g c =
    subst (λ (v : CallPhase). HasRoom v c.in_ok-answering_move-in-Safepoint.field-0) (sym c.in-Answering.is) c.in_ok-answering_move-in-Safepoint.ensures.room

-- the move

pub returns-in-Ready-clause-next : goal.returns-in-Ready-clause-next
returns-in-Ready-clause-next g c s e =
    stands-next s (machine_of g.M.Machine.action g.M.Machine.after_answer g.M.Machine.roots) (sight_in s c.args.shared.now c.args.thread_state.now.hints) c.args.thread_state.now _ (action_of c.call-call.result) c.in-Ready.is c.call-call.ensures ∙ c.first_move.ensures s c.args.thread_state.now.stage (g.M.Machine.roots c.args.thread_state.now.state) c.args.thread_state.now.replaced e

pub returns-in-MarkingOld-clause-next : goal.returns-in-MarkingOld-clause-next
returns-in-MarkingOld-clause-next g c s e =
    stands-next s (machine_of g.M.Machine.action g.M.Machine.after_answer g.M.Machine.roots) (sight_in s c.args.shared.now c.args.thread_state.now.hints) c.args.thread_state.now _ (action_of c.call-call.result) c.in-MarkingOld.is c.call-call.ensures ∙ c.mark_of_old.ensures s (sight_in s c.args.shared.now c.args.thread_state.now.hints) c.args.thread_state.now.stage (g.M.Machine.roots c.args.thread_state.now.state) _ _ _

pub returns-in-MarkingNew-clause-next : goal.returns-in-MarkingNew-clause-next
returns-in-MarkingNew-clause-next g c s e =
    stands-next s (machine_of g.M.Machine.action g.M.Machine.after_answer g.M.Machine.roots) (sight_in s c.args.shared.now c.args.thread_state.now.hints) c.args.thread_state.now _ (action_of c.call-call.result) c.in-MarkingNew.is c.call-call.ensures ∙ c.mark_or_store.ensures s (sight_in s c.args.shared.now c.args.thread_state.now.hints) (g.M.Machine.roots c.args.thread_state.now.state) c.args.thread_state.now.replaced _ _ _

pub returns-in-Writing-clause-next : goal.returns-in-Writing-clause-next
returns-in-Writing-clause-next g c s e =
    stands-next s (machine_of g.M.Machine.action g.M.Machine.after_answer g.M.Machine.roots) (sight_in s c.args.shared.now c.args.thread_state.now.hints) c.args.thread_state.now _ (action_of c.call-call.result) c.in-Writing.is c.call-call.ensures ∙ c.store_of_new.ensures s (sight_in s c.args.shared.now c.args.thread_state.now.hints) c.args.thread_state.now.stage (g.M.Machine.roots c.args.thread_state.now.state) c.args.thread_state.now.replaced _ _ _ _

pub returns-in-Trying-clause-next : goal.returns-in-Trying-clause-next
returns-in-Trying-clause-next g c s e =
    stands-next s (machine_of g.M.Machine.action g.M.Machine.after_answer g.M.Machine.roots) (sight_in s c.args.shared.now c.args.thread_state.now.hints) c.args.thread_state.now _ (action_of c.call-call.result) c.in-Trying.is c.call-call.ensures ∙ c.next_try.ensures.next s c.args.thread_state.now.stage (g.M.Machine.roots c.args.thread_state.now.state) c.args.thread_state.now.replaced _ e (tried_of-length _ _)

pub returns-in_ok-answering_move-in-Safepoint-clause-next : goal.returns-in_ok-answering_move-in-Safepoint-clause-next
returns-in_ok-answering_move-in-Safepoint-clause-next g c s e =
    stands-next s (machine_of g.M.Machine.action g.M.Machine.after_answer g.M.Machine.roots) (sight_in s c.args.shared.now c.args.thread_state.now.hints) c.args.thread_state.now _ Safepoint c.in-Answering.is (ap action_of (sym c.in-Safepoint.is) ∙ c.call-call.ensures) ∙ c.in_ok-answering_move-in-Safepoint.ensures.next s (sight_in s c.args.shared.now c.args.thread_state.now.hints) c.args.thread_state.now.stage c.args.thread_state.now.replaced
