use Rattle.std.proofs.Common.{◌≡◌, ◌∙◌, ◌++◌, [], Some, slice_get, refl, sym, ap, arith}
use Rattle.std.proofs.lemmas.Option.{slice_get-get_or}
use Rattle.std.proofs.KnownBytes.{Appends-nil, Appends-trans}
use Rattle.check_commands.proofs.Edits.{edits_next}
use Rattle.check_commands.proofs.rechecking.write_edits.Goals as goal

pub loop-place-init : goal.loop-place-init
loop-place-init g c = ([], (refl, refl), Appends-nil _)

pub loop-place-preserved : goal.loop-place-preserved
loop-place-preserved g c =
    let edits = c.args.edits.now in
    let i = c.loop-place.place in
    let edit = c.index-edits-place.result in
    let there : slice_get edits i ≡ Some edit = slice_get-get_or edits i edit (omega (arith, c.loop-place-test.true)) ∙ ap Some (sym c.index-edits-place.is) in
    let before = c.loop-place.invariant in
    let one = c.in_ok-write_edit.ensures in
    (before.0 ++ one.0, edits_next _ _ _ edits i edit before.0 one.0 there before.1 one.1, Appends-trans _ _ _ _ _ before.2 one.2)
