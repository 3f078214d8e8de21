use Rattle.std.proofs.Common.{◌<◌, ◌-◌, ◌∙◌, ap, arith, sym, length, List, ℕ}
use Rattle.fact_tables.specs.EachListed.{each_listed}
use Rattle.fact_tables.specs.Sheets.{blank, changed}
use Rattle.fact_tables.proofs.Users.{chain_none, chain_step}
use Rattle.fact_tables.proofs.sweeps.sweep_uses.Goals as goal

pub loop-step-preserved : goal.loop-step-preserved
loop-step-preserved c =
    let lt : c.loop-step.step < length c.args.uses.now = omega arith in
    chain_step (changed c.args.change.now) (length c.args.uses.now) c.loop-step.step c.args.uses.now c.loop-step.at c.in-Some.found _ c.loop-step.rows.items c.change_row.new.rows.items lt c.loop-step.invariant (sym c.in-Some.ensures) c.change_row.ensures

pub returns-in_default : goal.returns-in_default
returns-in_default c =
    sym (c.loop-step.invariant ∙ ap (λ (us : List ℕ). each_listed blank (changed c.args.change.now) us c.loop-step.rows.items) (chain_none (length c.args.uses.now - c.loop-step.step) c.args.uses.now c.loop-step.at (sym c.in_default.ensures)))
