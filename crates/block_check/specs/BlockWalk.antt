-- A block that is walked over, with what is found of it once.
use Rattle.std.specs.Prelude.{◌≡◌}
use Rattle.block_rules.specs.InstrContext.{head_in, begins_collected}
use Rattle.block_check.specs.FunctionUnderCheck.{IsReady}
use Rattle.block_check.specs.declared.block_walk.BlockWalk.{BlockWalk}

-- what is found is right: its function, how far its head goes, and whether its first instruction may be there
pub record IsFound (w : BlockWalk) : Type 0 where
  pub ready : IsReady w.under_check.now
  pub head : w.head ≡ head_in w.under_check.now.context.program.now.of_module w.under_check.now.context.function.now w.under_check.now.context.slots.now w.block
  pub begins : w.begins ≡ begins_collected w.under_check.now.context.program.now.of_module w.under_check.now.context.function.now w.block
