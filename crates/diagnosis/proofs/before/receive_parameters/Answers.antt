use Rattle.std.proofs.Common.{◌≡◌, ◌∙◌, ◌+◌, ap, sym, drop, refl, arith, None}
use Rattle.facts.specs.Claims.{receive_all}
use Rattle.block_rules.specs.Edges.{parameters_given}
use Rattle.diagnosis.proofs.Parameters.{after, received_with, received_without, first_of, others_of}
use Rattle.diagnosis.proofs.before.receive_parameters.Goals.{in-empty+in_ok-receive-in-empty, in-len1-up+in_ok-receive-in-len1-up}
use Rattle.diagnosis.proofs.before.receive_parameters.Goals as goal

pub loop-parameter-preserved : goal.loop-parameter-preserved
loop-parameter-preserved c = elim c.if-rest-lt1.branch [
  | in-empty+in_ok-receive-in-empty w ↦
      let step = received_without c.args.module.now c.args.parameters.now c.loop-parameter.parameter-index c.parameter-item.result c.loop-parameter.rest.now c.loop-parameter.facts (omega arith) c.parameter-item.is (omega arith) in
      c.loop-parameter.invariant ∙ step ∙ rw (w.rest-is, w.facts-is, w.in_ok-receive-in-empty.ensures.ok, c.given_by-given.ensures, c.of.ensures) refl
  | in-len1-up+in_ok-receive-in-len1-up w ↦
      let left = first_of c.loop-parameter.rest.now w.promise-item.result (omega arith) w.promise-item.is in
      let step = received_with c.args.module.now c.args.parameters.now c.loop-parameter.parameter-index c.parameter-item.result w.promise-item.result (drop 1 c.loop-parameter.rest.now) c.loop-parameter.facts (omega arith) c.parameter-item.is in
      c.loop-parameter.invariant ∙ rw left (step ∙ rw (w.rest-is, w.facts-is, w.in_ok-receive-in-len1-up.ensures.ok, c.given_by-given.ensures, c.of.ensures) (ap (λ rest. receive_all (parameters_given c.args.module.now (drop (c.loop-parameter.parameter-index + 1) c.args.parameters.now) rest) (after c.args.module.now c.parameter-item.result w.promise-item.result c.loop-parameter.facts)) (sym (others_of c.loop-parameter.rest.now (omega arith)))))
]
