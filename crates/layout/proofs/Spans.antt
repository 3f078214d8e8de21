-- The part of a list at a span, where it ends with the list at the latest.
use Rattle.std.proofs.Common.{◌≡◌, ℕ, List, length, take, drop, min, ◌∙◌, ap}
use Rattle.std.proofs.lemmas.List.{take_min, drop_min}
use Rattle.layout.specs.Survey.{fields_at}
use Rattle.layout.specs.declared.survey.Span.{Span}

pub part_is : (fields : List ℕ) (span : Span) → take (min span.count (length (drop (min span.start (length fields)) fields))) (drop (min span.start (length fields)) fields) ≡ fields_at fields span
part_is fields span = ap (λ (xs : List ℕ). take (min span.count (length xs)) xs) (drop_min span.start fields) ∙ take_min span.count (drop span.start fields)
