use Rattle.std.proofs.Common.{◌-◌, ◌∙◌, length, take, drop, sym, ap}
use Rattle.ir_ast.specs.KeyedHash as spec
use Rattle.ir_ast.proofs.Coefficients.{four, one, fewer, none}
use Rattle.ir_ast.proofs.keyed_hasher.KeyedHasherHasher.write.Goals as goal

pub loop-rest-preserved : goal.loop-rest-preserved
loop-rest-preserved c =
    let rest = c.loop-rest.rest.now in
    c.loop-rest.invariant ∙ four c.loop-rest.self rest c.in-len4-up.len_at_least
    ∙ ap (λ s. spec.write s (take (length rest - 4) (drop 4 rest))) (sym (c.step.ensures ∙ ap (spec.step c.loop-rest.self) (c.from.ensures ∙ c.from_le_bytes.ensures)))

pub loop-rest-2-preserved : goal.loop-rest-2-preserved
loop-rest-2-preserved c =
    let rest = c.loop-rest-2.rest.now in (
      c.loop-rest-2.invariant.0 ∙ one c.loop-rest-2.self rest c.in-len1-up.len_at_least c.loop-rest-2.invariant.1
          ∙ ap (λ s. spec.write s (take (length rest - 1) (drop 1 rest))) (sym (c.step-in-len1-up.ensures ∙ ap (spec.step c.loop-rest-2.self) c.from-in-len1-up.ensures)),
      fewer rest c.in-len1-up.len_at_least c.loop-rest-2.invariant.1,
    )

pub returns : goal.returns
returns c = sym (c.loop-rest-2.invariant.0 ∙ none c.loop-rest-2.self c.loop-rest-2.rest.now c.in_default-rest.len_below)
