use Rattle.std.proofs.Common.{List, ap, sym, ◌-◌, ◌∙◌, length}
use Rattle.pools.specs.declared.word_kind.WordKind.{WordKind}
use Rattle.trace_sweep.specs.Words.{place_from}
use Rattle.collector_places.proofs.WordPlaces.{reference_from-place}
use Rattle.collector_places.proofs.places.CollectorPlaces.reference_from.Goals as goal

pub returns : goal.returns
returns c = c.first_reference.ensures ∙ (ap (λ (words : List WordKind). place_from words c.args.word (length words - c.args.word)) c.words.ensures.words ∙ sym (reference_from-place c.args.self.now.heap c.args.cell c.args.word))
