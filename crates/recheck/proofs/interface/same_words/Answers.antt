use Rattle.std.proofs.Common.{rules, sym, ◌∙◌}
use Rattle.certs.specs.declared.section.Promise.{Promise}
use Rattle.recheck.proofs.Same.{same_list, same_option}
use Rattle.recheck.proofs.interface.same_words.Goals as goal

pub returns-then-eq-clause-parameters : goal.returns-then-eq-clause-parameters
returns-then-eq-clause-parameters c = λ e.
    let same = same_list _ (same_option _ (λ (a b : Promise) h. search rules)) c.as_slice.result.now c.as_slice-then-eq.result.now (sym c.eq-then-eq.ensures ∙ e) in
    sym (sym c.as_slice.ensures ∙ same ∙ c.as_slice-then-eq.ensures)
