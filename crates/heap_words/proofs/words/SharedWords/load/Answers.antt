use Rattle.colours.specs.declared.ask.Ask.TheVariants.{Load}
use Rattle.heap_words.proofs.Stepping.{may_step}
use Rattle.heap_words.proofs.words.SharedWords.load.Goals as goal

pub load-requires : goal.load-requires
load-requires g c = may_step _ _ _ _ _ _ g.J.Told.event (Load c.args.place) _ _ _ c.self.view_is c.token.view_is c.token.invariant.one c.self.invariant.words c.requires.token c.requires.place c.requires.may c.index-at.ensures.place c.index-at.ensures.within
