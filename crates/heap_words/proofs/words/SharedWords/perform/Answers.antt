use Rattle.std.proofs.Common.{subst}
use Rattle.colours.specs.declared.ask.Ask.{Ask}
use Rattle.heap_rule.specs.Rule.{MayStep}
use Rattle.heap_words.proofs.words.SharedWords.perform.Goals as goal

pub load-requires-clause-may : goal.load-requires-clause-may
load-requires-clause-may g c = subst (λ (a : Ask). MayStep c.args.self.now.setup c.args.token.now.share g.J.Told.event a) c.in-Load.is c.requires.may

pub store-requires-clause-may : goal.store-requires-clause-may
store-requires-clause-may g c = subst (λ (a : Ask). MayStep c.args.self.now.setup c.args.token.now.share g.J.Told.event a) c.in-Store.is c.requires.may

pub fetch_max-requires-clause-may : goal.fetch_max-requires-clause-may
fetch_max-requires-clause-may g c = subst (λ (a : Ask). MayStep c.args.self.now.setup c.args.token.now.share g.J.Told.event a) c.in-FetchMax.is c.requires.may

pub compare_exchange-requires-clause-may : goal.compare_exchange-requires-clause-may
compare_exchange-requires-clause-may g c = subst (λ (a : Ask). MayStep c.args.self.now.setup c.args.token.now.share g.J.Told.event a) c.in-CompareExchange.is c.requires.may
