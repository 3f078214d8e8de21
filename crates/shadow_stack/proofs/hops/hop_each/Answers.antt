use Rattle.std.proofs.Common.{◌≡◌, arith, length, refl, ap, ◌∙◌, subst}
use Rattle.std.proofs.lemmas.List.{length-set}
use Rattle.shadow_stack.specs.Slots.{hop, origin_at}
use Rattle.shadow_stack.proofs.Turns.{AreHopped, none_hopped, one_hopped, all_hopped}
use Rattle.shadow_stack.proofs.hops.hop_each.Goals as goal

pub loop-at-init : goal.loop-at-init
loop-at-init c = record { as_many = refl; hopped = λ origins n h. none_hopped origins c.args.row.now n h }

pub loop-at-preserved : goal.loop-at-preserved
loop-at-preserved c =
    let many = c.loop-at.invariant.as_many in
    record {
      as_many = ap length c.hop_at.ensures ∙ length-set c.loop-at.row c.loop-at.at (hop c.loop-at.row (origin_at c.loop-at.row c.loop-at.at)) ∙ many;
      hopped = λ origins n h. one_hopped origins c.loop-at.row c.hop_at.new.row n c.loop-at.at (omega (arith, many)) c.hop_at.ensures (c.loop-at.invariant.hopped origins n h);
    }

pub returns : goal.returns
returns c =
    let whole : c.loop-at.at ≡ length c.loop-at.row = omega (arith, c.loop-at.invariant.as_many) in
    λ origins n h. all_hopped origins c.loop-at.row n (subst (λ place. AreHopped origins n place c.loop-at.row) whole (c.loop-at.invariant.hopped origins n h))
