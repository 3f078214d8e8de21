-- A thread's move on the words as they are is its next one in the run.
use Rattle.std.proofs.Common.{◌≡◌, ℕ, Option, Some, List, slice_get, slice_set, sym, ap, ◌∙◌, subst}
use Rattle.std.specs.Vec.{with_item}
use Rattle.std.proofs.lemmas.Option.{slice_get_read}
use Rattle.std.proofs.lemmas.List.{set-get_or}
use Rattle.runs.specs.Machine.{machine_of}
use Rattle.runs.specs.Moves.{answer_of}
use Rattle.runs.specs.Ends.{moved}
use Rattle.moves.specs.declared.moves.Move.{Move}
use Rattle.moves.specs.declared.shared.Shared.{Shared}
use Rattle.moves.specs.declared.thread_state.ThreadState.{ThreadState}
use Rattle.moves.specs.declared.actor.Actor.TheVariants as actor
use Rattle.moves.specs.Calls.{move_in, made_by}
use Rattle.moves.specs.Kinds.{MayAnswer}
use Rattle.moves.specs.RootsAfter.{IsToldOfRoots}
use Rattle.moves.specs.Moving.{HasHint, HasRoom, HasRoomForNext, MayMake}
use Rattle.moves.specs.Runs.{run_by}
use Rattle.moves.specs.Stands.{standing, HasTryLeft}
use Rattle.moves.specs.GoesOn.{call_of, action_of-call_of}
use Rattle.stepping.specs.declared.happening.Happening.TheVariants as happening
use Rattle.stepping.specs.Ends.{IsOneStep}
use Rattle.stepping.proofs.Lists.{on-err}
use Rattle.stepping.proofs.Threads.{thread_is_after, same-actors, moved-none, moved-on}
use Rattle.stepping.proofs.acting.Actors.step_of_thread.Goals as goal

-- a place holds one element
one-element : {X : Type 0} (x y : X) → Some x ≡ Some y → x ≡ y
one-element x y e = cc

pub next_move-requires-clause-births : goal.next_move-requires-clause-births
next_move-requires-clause-births g c =
    let m = machine_of g.M.Machine.action g.M.Machine.after_answer g.M.Machine.roots in
    let r = c.requires in
    let is : slice_get c.args.self.now.threads.items c.args.thread ≡ Some c.index-thread_state.result.now = slice_get_read _ _ _ _ (sym r.3.is_after.is_end.count) r.4 c.index-thread_state.ensures in
    (c.growth_law.ensures.threads r.0 r.1 (run_by r.0 m r.1 r.2) c.args.thread c.index-thread_state.result.now c.args.self.now.shared
    (thread_is_after r.0 m (g.M.Runner.fits r.0) r.1 r.2 c.args.self.now r.3 c.args.thread r.4 c.index-thread_state.result.now is)).births

pub next_move-requires-clause-room : goal.next_move-requires-clause-room
next_move-requires-clause-room g c =
    let m = machine_of g.M.Machine.action g.M.Machine.after_answer g.M.Machine.roots in
    let r = c.requires in
    let is : slice_get c.args.self.now.threads.items c.args.thread ≡ Some c.index-thread_state.result.now = slice_get_read _ _ _ _ (sym r.3.is_after.is_end.count) r.4 c.index-thread_state.ensures in
    subst (λ (pools : List ℕ). HasTryLeft pools (g.M.Machine.action c.index-thread_state.result.now.state) c.index-thread_state.result.now.call_phase) r.3.schema.pools
    (c.growth_law.ensures.threads r.0 r.1 (run_by r.0 m r.1 r.2) c.args.thread c.index-thread_state.result.now c.args.self.now.shared
    (thread_is_after r.0 m (g.M.Runner.fits r.0) r.1 r.2 c.args.self.now r.3 c.args.thread r.4 c.index-thread_state.result.now is)).try_left

pub returns-in_default-clause-ok : goal.returns-in_default-clause-ok
returns-in_default-clause-ok g c s starts before b lt =
    let m = machine_of g.M.Machine.action g.M.Machine.after_answer g.M.Machine.roots in
    let thread_state = c.index-thread_state.result.now in
    let is : slice_get c.args.self.now.threads.items c.args.thread ≡ Some thread_state = slice_get_read _ _ _ _ (sym b.is_after.is_end.count) lt c.index-thread_state.ensures in
    moved-none s m (g.M.Runner.fits s) starts before c.args.self.now b c.args.thread lt thread_state is (c.in_ok-made.ensures.next s b.schema.pools ∙ ap (λ (o : Option Move). made_by (m.roots thread_state.state) o) c.in_default.is)

pub go_on-requires-clause-room : goal.go_on-requires-clause-room
go_on-requires-clause-room g c =
    let r = c.requires in
    let thread_state = c.index-thread_state.result.now in
    let is : slice_get c.args.self.now.threads.items c.args.thread ≡ Some thread_state = slice_get_read _ _ _ _ (sym r.3.is_after.is_end.count) r.4 c.index-thread_state.ensures in
    let at : slice_get c.args.self.now.threads.items c.args.thread ≡ Some c.index_mut.result.now = slice_get_read _ _ _ _ (sym r.3.is_after.is_end.count) r.4 c.index_mut.ensures.value in
    subst (λ (v : ThreadState g.row.M.Denot). HasRoom v.call_phase c.in-Some.made) (one-element thread_state c.index_mut.result.now (sym is ∙ at))
    (subst (λ (o : Option Move). HasRoomForNext thread_state.call_phase o) c.in-Some.is c.in_ok-made.ensures.room)

pub go_on-requires-clause-hint : goal.go_on-requires-clause-hint
go_on-requires-clause-hint g c =
    let m = machine_of g.M.Machine.action g.M.Machine.after_answer g.M.Machine.roots in
    let r = c.requires in
    let thread_state = c.index-thread_state.result.now in
    let move = c.in-Some.made in
    let is : slice_get c.args.self.now.threads.items c.args.thread ≡ Some thread_state = slice_get_read _ _ _ _ (sym r.3.is_after.is_end.count) r.4 c.index-thread_state.ensures in
    let at : slice_get c.args.self.now.threads.items c.args.thread ≡ Some c.index_mut.result.now = slice_get_read _ _ _ _ (sym r.3.is_after.is_end.count) r.4 c.index_mut.ensures.value in
    let grows = c.growth_law.ensures.threads r.0 r.1 (run_by r.0 m r.1 r.2) c.args.thread thread_state c.args.self.now.shared
    (thread_is_after r.0 m (g.M.Runner.fits r.0) r.1 r.2 c.args.self.now r.3 c.args.thread r.4 thread_state is) in
    let moves = grows.move move (c.in_ok-made.ensures.next r.0 r.3.schema.pools ∙ ap (λ (o : Option Move). made_by (m.roots thread_state.state) o) c.in-Some.is) in
    subst (λ (v : ThreadState g.row.M.Denot). HasHint c.args.self.now.schema.pools.now v.hints move (m.action v.state)) (one-element thread_state c.index_mut.result.now (sym is ∙ at))
    (subst (λ (pools : List ℕ). HasHint pools thread_state.hints move (m.action thread_state.state)) r.3.schema.pools moves.hint)

pub go_on-requires-clause-answer : goal.go_on-requires-clause-answer
go_on-requires-clause-answer g c =
    let m = machine_of g.M.Machine.action g.M.Machine.after_answer g.M.Machine.roots in
    let r = c.requires in
    let thread_state = c.index-thread_state.result.now in
    let move = c.in-Some.made in
    let is : slice_get c.args.self.now.threads.items c.args.thread ≡ Some thread_state = slice_get_read _ _ _ _ (sym r.3.is_after.is_end.count) r.4 c.index-thread_state.ensures in
    let at : slice_get c.args.self.now.threads.items c.args.thread ≡ Some c.index_mut.result.now = slice_get_read _ _ _ _ (sym r.3.is_after.is_end.count) r.4 c.index_mut.ensures.value in
    let grows = c.growth_law.ensures.threads r.0 r.1 (run_by r.0 m r.1 r.2) c.args.thread thread_state c.args.self.now.shared
    (thread_is_after r.0 m (g.M.Runner.fits r.0) r.1 r.2 c.args.self.now r.3 c.args.thread r.4 thread_state is) in
    let moves = grows.move move (c.in_ok-made.ensures.next r.0 r.3.schema.pools ∙ ap (λ (o : Option Move). made_by (m.roots thread_state.state) o) c.in-Some.is) in
    let may : MayAnswer r.0 (g.M.Runner.fits r.0) m.action thread_state.state (answer_of (m.action thread_state.state) (move_in (m.roots thread_state.state) move)) = record {
      few_cells = r.3.is_after.is_end.few_cells;
      fits = r.3.is_after.is_end.fits c.args.thread thread_state is;
      by_kind = moves.answers;
    } in
    (r.0, subst (λ (v : ThreadState g.row.M.Denot). MayAnswer r.0 (g.M.Runner.fits r.0) m.action v.state (answer_of (m.action v.state) (move_in (m.roots v.state) move))) (one-element thread_state c.index_mut.result.now (sym is ∙ at)) may)

pub returns-in_err-roots_after-clause-err : goal.returns-in_err-roots_after-clause-err
returns-in_err-roots_after-clause-err g c =
    let a = c.args.self.now in
    let stays : slice_set a.threads.items c.args.thread c.go_on.new.thread_state ≡ a.threads.items =
    ap (slice_set a.threads.items c.args.thread) (c.in_err-roots_after.ensures.err ∙ c.index_mut.ensures.value) ∙ set-get_or a.threads.items c.args.thread c.index_mut.result.now in
    on-err _ (same-actors a c.args.thread c.go_on.new.thread_state stays)

pub apply-requires : goal.apply-requires
apply-requires g c =
    let m = machine_of g.M.Machine.action g.M.Machine.after_answer g.M.Machine.roots in
    let r = c.requires in
    let thread_state = c.index-thread_state.result.now in
    let is : slice_get c.args.self.now.threads.items c.args.thread ≡ Some thread_state = slice_get_read _ _ _ _ (sym r.3.is_after.is_end.count) r.4 c.index-thread_state.ensures in
    let grows = c.growth_law.ensures.threads r.0 r.1 (run_by r.0 m r.1 r.2) c.args.thread thread_state c.args.self.now.shared
    (thread_is_after r.0 m (g.M.Runner.fits r.0) r.1 r.2 c.args.self.now r.3 c.args.thread r.4 thread_state is) in
    (grows.move c.in-Some.made (c.in_ok-made.ensures.next r.0 r.3.schema.pools ∙ ap (λ (o : Option Move). made_by (m.roots thread_state.state) o) c.in-Some.is)).can_take

pub returns-clause-ok : goal.returns-clause-ok
returns-clause-ok g c s starts before b lt =
    let m = machine_of g.M.Machine.action g.M.Machine.after_answer g.M.Machine.roots in
    let a = c.args.self.now in
    let thread_state = c.index-thread_state.result.now in
    let move = c.in-Some.made in
    let is : slice_get a.threads.items c.args.thread ≡ Some thread_state = slice_get_read _ _ _ _ (sym b.is_after.is_end.count) lt c.index-thread_state.ensures in
    let at : slice_get a.threads.items c.args.thread ≡ Some c.index_mut.result.now = slice_get_read _ _ _ _ (sym b.is_after.is_end.count) lt c.index_mut.ensures.value in
    let same : thread_state ≡ c.index_mut.result.now = one-element thread_state c.index_mut.result.now (sym is ∙ at) in
    let grows = c.growth_law.ensures.threads s starts (run_by s m starts before) c.args.thread thread_state a.shared (thread_is_after s m (g.M.Runner.fits s) starts before a b c.args.thread lt thread_state is) in
    let asked = c.in_ok-made.ensures.next s b.schema.pools ∙ ap (λ (o : Option Move). made_by (m.roots thread_state.state) o) c.in-Some.is in
    let moves = grows.move move asked in
    let afterwards : standing s m c.go_on.new.thread_state ≡ moved s m (standing s m thread_state) (move_in (m.roots thread_state.state) move) =
    subst (λ (v : ThreadState g.row.M.Denot). standing s m c.go_on.new.thread_state ≡ moved s m (standing s m v) (move_in (m.roots v.state) move)) (sym same)
    (c.in_ok-roots_after.ensures.ok s (call_of (m.action c.index_mut.result.now.state)) b.schema.pools (action_of-call_of (m.action c.index_mut.result.now.state))
    (subst (λ (v : ThreadState g.row.M.Denot). MayMake s v.hints (m.roots v.state) (call_of (m.action v.state)) v.call_phase move) same (moves.may_make (call_of (m.action thread_state.state)) (action_of-call_of (m.action thread_state.state))))) in
    let told = c.loss_of_move-loss.ensures (m.roots thread_state.state) (m.roots c.go_on.new.thread_state.state)
    (subst (λ (v : ThreadState g.row.M.Denot). IsToldOfRoots c.in_ok-roots_after.roots_after (m.roots v.state) (m.roots c.go_on.new.thread_state.state)) (sym same) c.in_ok-roots_after.ensures.roots) in
    let done = moved-on s m (g.M.Runner.fits s) starts before a b c.args.thread lt thread_state is move asked moves c.go_on.new.thread_state afterwards c.broken_by-broke.result c.broken_by-broke.ensures
    (c.loss_law.ensures s starts) c.loss_of_move-loss.result told in
    subst (λ (h : Shared). IsOneStep s m (g.M.Runner.fits s) starts before (actor.Thread c.args.thread)
    (Some (record { happening = happening.Thread c.args.thread move; broke = c.broken_by-broke.result; loss = c.loss_of_move-loss.result }))
    (record { schema = a.schema; threads = with_item a.threads c.args.thread c.go_on.new.thread_state; shared = h; collector = a.collector })) (sym c.apply.ensures) done
