use Rattle.collector_places.proofs.WordsThere.{words_there}
use Rattle.collector_places.proofs.places.CollectorPlaces.words_law.Goals as goal

pub returns : goal.returns
returns c = λ s log turn d cycle st collects. words_there s log c.args.self.now turn d cycle st collects
