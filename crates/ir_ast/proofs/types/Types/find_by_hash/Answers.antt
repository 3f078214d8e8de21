use Rattle.std.proofs.Common.{◌≡◌, ◌∙◌, Some, ap}
use Rattle.ir_ast.specs.TypePlaces.{place-is}
use Rattle.ir_ast.proofs.types.Types.find_by_hash.Goals as goal

pub returns : goal.returns
returns c = ap Some c.new.ensures ∙ c.in_ok-number.ensures.index ∙ place-is c.args.sought c.self.inside.each.keys c.args.self.now c.self.view_is
