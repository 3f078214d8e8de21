use Rattle.colours.specs.declared.ask.Ask.TheVariants.{CompareExchange}
use Rattle.heap_words.proofs.Stepping.{may_step}
use Rattle.heap_words.proofs.words.SharedWords.compare_exchange.Goals as goal

pub compare_exchange-requires : goal.compare_exchange-requires
compare_exchange-requires g c = may_step _ _ _ _ _ _ g.J.Told.event (CompareExchange c.args.place c.args.old c.args.new) _ _ _ c.self.view_is c.token.view_is c.token.invariant.one c.self.invariant.words c.requires.token c.requires.place c.requires.may c.index-at.ensures.place c.index-at.ensures.within
