use Rattle.std.proofs.Common.{◌≡◌, ◌<◌, length, slice_get, Some, None, ap, sym, ◌∙◌, arith}
use Rattle.copies.specs.Opaque.{opaque_types}
use Rattle.copies.specs.declared.type_numbers.Renumbered.{Renumbered}
use Rattle.copies.proofs.TypesMore.{one_more, some_within}
use Rattle.copies.proofs.type_numbers.opaque_types.Goals.{in-Some+in_ok-add, in_default}
use Rattle.copies.proofs.type_numbers.opaque_types.Goals as goal

pub loop-number-preserved : goal.loop-number-preserved
loop-number-preserved c = elim c.match-get.branch [
  | in-Some+in_ok-add w ↦
      let at : slice_get c.args.types.now c.loop-number.number ≡ Some w.in-Some.written = ap (slice_get c.args.types.now) (sym c.new-in-loop-number.ensures) ∙ sym c.get.ensures ∙ w.in-Some.is in
      one_more c.args.types.now c.loop-number.number w.in-Some.written c.loop-number.made.types c.match-get.made.types c.loop-number.made.numbers c.match-get.made.numbers (opaque_types c.args.types.now) at
      (ap (λ (r : Renumbered). r.types) w.made-is ∙ w.in_ok-add.ensures.types) (ap (λ (r : Renumbered). r.numbers) w.made-is ∙ w.in_ok-add.ensures.numbers) c.loop-number.invariant
  | in_default w ↦
      let none : slice_get c.args.types.now c.loop-number.number ≡ None = ap (slice_get c.args.types.now) (sym c.new-in-loop-number.ensures) ∙ sym c.get.ensures ∙ w.in_default.is in
      absurd (some_within c.args.types.now c.loop-number.number (omega (arith, c.loop-number-test.true, c.count-number-end.ensures.count)) none)
]
