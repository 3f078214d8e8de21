-- With one root more.
use Rattle.std.proofs.Common.{◌≡◌, ◌+◌, ◌++◌, List, [], ◌∷◌, map, take, sym, ap, ◌∙◌}
use Rattle.std.proofs.lemmas.List.{append_assoc, take_more, map_push}
use Rattle.std.proofs.lemmas.Option.{get_or_from_slice_get, slice_get_within}
use Rattle.machine.specs.declared.value.Value.{Value}
use Rattle.runs.specs.Machine.{WordValue}
use Rattle.program_safety.specs.Threads.{reference_in}
use Rattle.program_runner.proofs.newest.add_names.Goals as goal

pub loop-place-preserved : goal.loop-place-preserved
loop-place-preserved c =
    let own = c.args.own.now in
    let n = c.loop-place.place in
    let v = c.value.result in
    let before = c.args.names.now.items in
    let one_more : take (n + 1) own ≡ take n own ++ v ∷ [] =
    take_more own n v (slice_get_within own n v c.value.ensures) ∙ ap (λ (x : Value). take n own ++ x ∷ []) (get_or_from_slice_get own n v v c.value.ensures) in
    c.in_ok-push.ensures.items
    ∙ ap (λ (l : List WordValue). l ++ c.reference_in.result ∷ []) c.loop-place.invariant
    ∙ append_assoc before (map reference_in (take n own)) (c.reference_in.result ∷ [])
    ∙ ap (λ (l : List WordValue). before ++ l) (ap (λ (r : WordValue). map reference_in (take n own) ++ r ∷ []) c.reference_in.ensures ∙ sym (map_push reference_in (take n own) v) ∙ ap (map reference_in) (sym one_more))
