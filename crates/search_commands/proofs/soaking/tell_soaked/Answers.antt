use Rattle.std.proofs.Common.{◌≡◌, refl, subst, sym}
use Rattle.std.proofs.lemmas.Result.{IfOk-weaker}
use Rattle.command_line.specs.declared.options.Draws.{Draws}
use Rattle.reports.specs.Said.{OnOutput}
use Rattle.search_commands.specs.Searches.{IsBrokenBy, sound}
use Rattle.search_commands.specs.Sources.{IsSoaked, seed_break}
use Rattle.search_commands.specs.declared.sources.Searched.{Searched}
use Rattle.search_commands.proofs.Searched.{drawn_biased, drawn_uniformly}
use Rattle.search_commands.proofs.soaking.tell_soaked.Goals as goal

pub tell_drawn-requires-clause-uniform : goal.tell_drawn-requires-clause-uniform
tell_drawn-requires-clause-uniform g c =
    let search = c.args.soak.options.search in
    (drawn_uniformly search.draws _ _ _ _ _ c.in-BrokenAt.at (subst (λ (s : Searched). IsSoaked search.draws search c.args.traced s) c.in-BrokenAt.is c.requires.searched)).0

pub tell_drawn-requires-clause-least : goal.tell_drawn-requires-clause-least
tell_drawn-requires-clause-least g c =
    let search = c.args.soak.options.search in
    (drawn_uniformly search.draws _ _ _ _ _ c.in-BrokenAt.at (subst (λ (s : Searched). IsSoaked search.draws search c.args.traced s) c.in-BrokenAt.is c.requires.searched)).1

pub tell_found-status-requires : goal.tell_found-status-requires
tell_found-status-requires g c =
    let search = c.args.soak.options.search in
    (drawn_biased search.draws _ _ _ _ _ c.in-Found.broken (subst (λ (s : Searched). IsSoaked search.draws search c.args.traced s) c.in-Found.is c.requires.searched)).1.breaking

pub returns-in-Found-clause-said : goal.returns-in-Found-clause-said
returns-in-Found-clause-said g c =
    let search = c.args.soak.options.search in
    let traced = c.args.traced in
    let b = c.in-Found.broken in
    let drawn = drawn_biased search.draws _ _ _ _ _ b (subst (λ (s : Searched). IsSoaked search.draws search traced s) c.in-Found.is c.requires.searched) in
    let is_broken = subst (λ (draws : Draws). IsBrokenBy draws search traced.program traced.trace (seed_break b)) (sym drawn.0) (b.found.trace, drawn.1) in
    c.tell_found-status.ensures.said traced.trace c.requires.no_fault drawn.1.starts is_broken

pub returns-in-SoundBelow-clause-said : goal.returns-in-SoundBelow-clause-said
returns-in-SoundBelow-clause-said g c =
    let search = c.args.soak.options.search in
    let tried = subst (λ (s : Searched). IsSoaked search.draws search c.args.traced s) c.in-SoundBelow.is c.requires.searched in
    IfOk-weaker c.sound.result _ _ (λ status told. (OnOutput _, sound c.in-SoundBelow.past c.requires.no_fault tried.0 tried.1 refl, (told, refl))) c.sound.ensures
