use Rattle.std.proofs.Common.{◌^◌, ◌∙◌, ap, arith, List, ℕ}
use Rattle.ir_ast.specs.Places.{map-length}
use Rattle.ir_ast.specs.Links.{hash_by, text_of, texts_of, listed, first_named}
use Rattle.ir_ast.proofs.KeptNames.{first_place, place_below}
use Rattle.ir_ast.proofs.links.Links.find.Goals as goal

pub returns-clause-place : goal.returns-clause-place
returns-clause-place c =
    let text = c.args.text.now in
    let links = c.args.self.now in
    let names : List (List ℕ) = texts_of c.args.bytes.now c.args.spans.now in
    c.first_named.ensures
    ∙ ap (λ h. first_named text names (listed links.heads.items links.befores.items h)) c.requires.hash
    ∙ first_place text names (listed links.heads.items links.befores.items (hash_by links.key text)) c.requires.names.distinct (λ m at. c.requires.names.listed m text at)

pub returns-clause-limit : goal.returns-clause-limit
returns-clause-limit c =
    let long = map-length (text_of c.args.bytes.now) c.args.spans.now in
    place_below c.args.text.now (texts_of c.args.bytes.now c.args.spans.now) (2 ^ 32) c.first_named.result (returns-clause-place c) (omega (arith, long, c.requires.names.limit))
