-- One thread more.
use Rattle.std.proofs.Common.{map, ◌++◌, ◌∷◌, [], ap, sym, ◌∙◌}
use Rattle.std.proofs.lemmas.List.{map-append}
use Rattle.stepping.specs.Starts.{thread_state_at_start}
use Rattle.stepping.proofs.beginning.stands_at_start.Goals as goal

pub loop-thread-preserved : goal.loop-thread-preserved
loop-thread-preserved g c =
    c.in_ok-push.ensures.items
    ∙ ap (λ stands. stands ++ c.in_ok-thread_state.thread_state ∷ []) c.loop-thread.invariant
    ∙ ap (λ stand. map (thread_state_at_start c.args.layouts) c.loop-thread.yielded ++ stand ∷ []) c.in_ok-thread_state.ensures
    ∙ sym (map-append (thread_state_at_start c.args.layouts) c.loop-thread.yielded (c.in-Some.thread ∷ []))
