use Rattle.std.proofs.Common.{◌≡◌, sym, subst}
use Rattle.fact_tables.specs.declared.known.Known.{Known}
use Rattle.facts.specs.Facts.{slots_without}
use Rattle.facts.proofs.Slots.{free_slots}
use Rattle.facts.proofs.contents.Contents.may_be_held.Goals as goal

pub returns-in-Cell : goal.returns-in-Cell
returns-in-Cell c = λ e values classes. subst (λ (known : Known). slots_without known values classes c.args.self.now.slots ≡ c.args.self.now.slots) (sym c.in-Cell.is)
    (free_slots c.in-Cell.class values classes c.args.self.now.slots (c.may_hold.ensures e))
