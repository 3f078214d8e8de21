use Rattle.std.proofs.Common.{◌≡◌, ◌∙◌, [], ap, map, refl, option_map, slice_index_or, sym, take, true}
use Rattle.std.proofs.lemmas.List.{map_more, take-map}
use Rattle.std.proofs.lemmas.List.Elements.{All-push}
use Rattle.std.proofs.lemmas.Option.{slice_get-get_or, slice_get-map}
use Rattle.pair_lists.specs.Lists.{is_line}
use Rattle.pair_lists.proofs.Lines.{named_line, pairs_next, pairs_silent, silent_line, wrong_line}
use Rattle.pair_lists.proofs.reader.pairs_of.Goals as goal

pub loop-place-preserved-then-is_silent : goal.loop-place-preserved-then-is_silent
loop-place-preserved-then-is_silent c =
    let i = c.loop-place.place in
    let line = slice_index_or c.args.found.now i (record { ref_ptr = (0, 0); now = [] }) in
    let more = map_more (λ line. line.now) c.args.found.now i (record { ref_ptr = (0, 0); now = [] }) c.loop-place-test.true in
    let silent = sym c.is_silent.ensures ∙ c.if-is_silent.true in
    record {
      pairs = rw more (pairs_silent (map (λ line. line.now) (take i c.args.found.now)) line.now c.loop-place.pairs.items silent c.loop-place.invariant.pairs);
      fine = rw more (All-push (λ line. is_line line ≡ true) (map (λ line. line.now) (take i c.args.found.now)) line.now c.loop-place.invariant.fine (silent_line line.now silent));
    }

pub loop-place-preserved : goal.loop-place-preserved
loop-place-preserved c =
    let i = c.loop-place.place in
    let line = slice_index_or c.args.found.now i (record { ref_ptr = (0, 0); now = [] }) in
    let more = map_more (λ line. line.now) c.args.found.now i (record { ref_ptr = (0, 0); now = [] }) c.loop-place-test.true in
    record {
      pairs = rw (more, c.in_ok-push-in-Some.ensures.items) (pairs_next (map (λ line. line.now) (take i c.args.found.now)) line.now c.loop-place.pairs.items c.in-Some.pair (sym c.is_silent.ensures ∙ c.if-is_silent.false) c.in-Some.ensures c.loop-place.invariant.pairs);
      fine = rw more (All-push (λ line. is_line line ≡ true) (map (λ line. line.now) (take i c.args.found.now)) line.now c.loop-place.invariant.fine (named_line line.now _ c.in-Some.ensures));
    }

pub returns-in-None-clause-fault : goal.returns-in-None-clause-fault
returns-in-None-clause-fault c =
    let i = c.loop-place.place in
    let line = slice_index_or c.args.found.now i (record { ref_ptr = (0, 0); now = [] }) in
    let there = slice_get-map (λ line. line.now) c.args.found.now i ∙ ap (option_map (λ line. line.now)) (slice_get-get_or c.args.found.now i (record { ref_ptr = (0, 0); now = [] }) c.loop-place-test.true) in
    (i, line.now, refl, there, wrong_line line.now (sym c.is_silent.ensures ∙ c.if-is_silent.false) c.in-None.ensures, rw (take-map (λ line. line.now) i c.args.found.now) c.loop-place.invariant.fine)
