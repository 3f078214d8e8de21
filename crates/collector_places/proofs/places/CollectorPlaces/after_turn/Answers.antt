use Rattle.std.proofs.Common.{ap, sym, ◌∙◌}
use Rattle.collector_places.specs.declared.spot.Spot.{Spot}
use Rattle.collector_places.specs.Nexts.{after_turn}
use Rattle.collector_places.proofs.places.CollectorPlaces.after_turn.Goals as goal

pub returns-in-ShadingGlobals : goal.returns-in-ShadingGlobals
returns-in-ShadingGlobals c = c.after_globals.ensures c.args.self.now.heap c.args.self.now.posted ∙ ap (λ (x : Spot). after_turn c.args.self.now.heap c.args.self.now.posted x c.args.turn) (sym c.in-ShadingGlobals.is)

pub returns-in-Shading : goal.returns-in-Shading
returns-in-Shading c = c.after_shading.ensures c.args.self.now.heap c.args.self.now.posted ∙ ap (λ (x : Spot). after_turn c.args.self.now.heap c.args.self.now.posted x c.args.turn) (sym c.in-Shading.is)
