use Rattle.std.proofs.Common.{length, ap, sym, ◌∙◌}
use Rattle.heap_rule.specs.Rule.{size}
use Rattle.run_words.specs.Words.{Words}
use Rattle.run_words.proofs.Steps.{extends}
use Rattle.run_words.proofs.run_words.RunWords.perform.Goals as goal

pub returns-clause-extends : goal.returns-clause-extends
returns-clause-extends c = extends c.args.ask c.args.self.now c.put.new.self (sym (ap (λ (w : Words). length w.table) c.self.view_is) ∙ (c.self.invariant.words ∙ ap (λ (w : Words). size w.heap) c.self.view_is)) c.requires c.put.ensures
