use Rattle.std.proofs.Common.{◌≡◌, false, below_more, subst, arith, rules}
use Rattle.std.specs.Prelude.{replicate}
use Rattle.layout.specs.Survey.{is_new, mark_at}
use Rattle.layout.specs.declared.survey.SizeMark.TheVariants.{New}
use Rattle.layout.proofs.Moves.{nothing_known, all_met}
use Rattle.layout.proofs.survey.Survey.of.Goals as goal

pub loop-number-init : goal.loop-number-init
loop-number-init c =
    let e : c.from_vec.result ≡ replicate c.count-count.result New = search rules in
    (nothing_known _ _ _ c.count-count.result c.count-count.ensures.count e c.new.ensures.items, λ p lt. absurd (omega (arith, lt)))

pub loop-number-preserved : goal.loop-number-preserved
loop-number-preserved c = (
  c.in_ok-meet.ensures.survey,
  below_more _ _ (λ p lt. c.in_ok-meet.ensures.kept p (c.loop-number.invariant.1 p lt))
      (subst (λ t. is_new (mark_at c.meet.new.self.marks t) ≡ false) c.new-in-loop-number.ensures c.in_ok-meet.ensures.met),
)

pub returns : goal.returns
returns c =
    let all = c.loop-number-test.false in
    let count = c.count-count.ensures.count in
    all_met _ _ _ c.loop-number.invariant.0 (λ p lt. c.loop-number.invariant.1 p (omega (arith, lt, all, count)))
