use Rattle.colours.specs.declared.ask.Ask.TheVariants.{FetchMax}
use Rattle.heap_words.proofs.Stepping.{may_step}
use Rattle.heap_words.proofs.words.SharedWords.fetch_max.Goals as goal

pub fetch_max-requires : goal.fetch_max-requires
fetch_max-requires g c = may_step _ _ _ _ _ _ g.J.Told.event (FetchMax c.args.place c.args.value) _ _ _ c.self.view_is c.token.view_is c.token.invariant.one c.self.invariant.words c.requires.token c.requires.place c.requires.may c.index-at.ensures.place c.index-at.ensures.within
