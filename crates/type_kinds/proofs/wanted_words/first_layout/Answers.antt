use Rattle.std.proofs.Common.{sym, ap, ◌∙◌}
use Rattle.type_kinds.specs.WantedWords.{layout_of_word, cell_words}
use Rattle.type_kinds.proofs.Members.{layout_of_first, first_found}
use Rattle.type_kinds.proofs.wanted_words.first_layout.Goals as goal

pub returns-in_err-word : goal.returns-in_err-word
returns-in_err-word c =
    c.from_residual.ensures ∙ ap (λ o. layout_of_first c.args.layouts.now c.args.layout o) (sym c.in_err-word.was ∙ c.next_from.ensures.next)
    ∙ first_found c.args.layouts.now c.args.layout c.args.words.now cell_words

pub returns : goal.returns
returns c =
    c.layout_of_word.ensures ∙ ap (λ k. layout_of_word k) c.kind_of_word.ensures
    ∙ ap (λ o. layout_of_first c.args.layouts.now c.args.layout o) (sym c.in_ok-word.was ∙ c.next_from.ensures.next)
    ∙ first_found c.args.layouts.now c.args.layout c.args.words.now cell_words
