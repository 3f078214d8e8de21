use Rattle.std.proofs.Common.{◌∙◌, refl}
use Rattle.std.proofs.lemmas.Result.{IfOk-weaker}
use Rattle.command_line.specs.Asked.{are_told}
use Rattle.reports.specs.Said.{OnOutput, OnError}
use Rattle.reports.specs.declared.outputs.Outputs.{Outputs}
use Rattle.commands.specs.Replaying.{came, not_begun}
use Rattle.commands.proofs.Following.{none_follows, words_follow}
use Rattle.commands.proofs.replaying.replay_traced.Goals as goal

pub returns-in_ok-words-in-Ok-clause-said : goal.returns-in_ok-words-in-Ok-clause-said
returns-in_ok-words-in-Ok-clause-said c =
    let err = c.args.results.now.outputs.err in
    IfOk-weaker c.write_outcome.result _ _
    (λ status told.
    (let said : Outputs = record { out = told.0; err = err } in
    let words = words_follow (are_told c.args.options.steps) _ _ _ (λ none. c.as_slice.ensures.value ∙ c.in_ok-words-in-Ok.ensures.told none) told.2 in
    (said, (OnOutput _, came c.in-Ok.outcome c.in-Ok.ensures.no_fault c.in-Ok.ensures.outcome c.in_ok-words-in-Ok.ensures.recorded, (told.1, refl)), words, refl)))
    c.write_outcome.ensures

pub returns-in-Err-clause-said : goal.returns-in-Err-clause-said
returns-in-Err-clause-said c =
    let said : Outputs = record { out = c.args.results.now.outputs.out; err = c.no_threads.new.err } in
    IfOk-weaker c.no_threads.result _ _
    (λ status told. (said, (OnError _, not_begun c.in-Err.fault c.in-Err.ensures.fault refl, (refl, told)), none_follows (are_told c.args.options.steps) _, refl))
    c.no_threads.ensures
