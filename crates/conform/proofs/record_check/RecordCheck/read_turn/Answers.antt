use Rattle.std.proofs.Common.{◌∷◌, arith, refl, subst}
use Rattle.std.specs.Prelude.{IfNone}
use Rattle.colours.specs.Runs.{ByCollector}
use Rattle.record_text.specs.Records.{run_of}
use Rattle.conform.specs.Checks.{IsCheckAfter}
use Rattle.conform.proofs.Records.{few_turns, run_short, read_turn}
use Rattle.conform.proofs.record_check.RecordCheck.read_turn.Goals as goal

pub turn-requires : goal.turn-requires
turn-requires c = let r = c.requires in let few = few_turns r.1 in let l = r.3 in (r.0, run_of r.1, r.2.run, omega (arith, few, l))

pub overflow_add-self : goal.overflow_add-self
overflow_add-self c = let r = c.requires in let few = run_short r.1 in let l = r.3 in let k = r.2.steps in omega (arith, few, l, k)

pub returns-clause-read : goal.returns-clause-read
returns-clause-read c = λ s entries is entry said.
    let check = subst (λ o. IfNone o (IsCheckAfter s (ByCollector c.args.turn ∷ run_of entries) c.turn.new.self)) c.in_default.is (c.in_ok-rule.ensures.none s (run_of entries) is.run) in
    read_turn s entries c.args.self.now is entry c.args.turn said _ check refl refl
