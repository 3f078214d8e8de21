use Rattle.std.proofs.Common.{refl, subst}
use Rattle.std.proofs.lemmas.Result.{IfOk-weaker}
use Rattle.reports.specs.Said.{OnOutput, OnError}
use Rattle.search_commands.specs.Searches.{nothing, not_hunted, search_of_hunt}
use Rattle.search_commands.specs.Sources.{IsHuntEnd, past_seed}
use Rattle.search_commands.specs.declared.sources.Searched.{Searched}
use Rattle.search_commands.proofs.hunts.hunt_program.Goals as goal

pub returns-in-Ok-SoundBelow-clause-said : goal.returns-in-Ok-SoundBelow-clause-said
returns-in-Ok-SoundBelow-clause-said g c =
    let options = c.args.asked.options in
    let ended = subst (λ (s : Searched). IsHuntEnd c.args.of.program.now options.first (past_seed (search_of_hunt options)) s) c.in-Ok-SoundBelow.field-0-is c.in-Ok-SoundBelow.ensures.searched in
    IfOk-weaker c.nothing.result _ _ (λ status told. (OnOutput _, nothing c.in-Ok-SoundBelow.past ended.0 ended.1 refl, (told, refl))) c.nothing.ensures

pub returns-in-Err-clause-said : goal.returns-in-Err-clause-said
returns-in-Err-clause-said g c = IfOk-weaker c.memory.result _ _ (λ status told. (OnError _, not_hunted refl, (refl, told))) c.memory.ensures
