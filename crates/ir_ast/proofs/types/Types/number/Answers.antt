use Rattle.std.proofs.Common.{Some, ◌≡◌, ◌∙◌, length, slice_get, sym, ap}
use Rattle.lemmas.specs.Lists.{get_end}
use Rattle.ir_ast.specs.Types.{place_of_type}
use Rattle.ir_ast.proofs.HintsStay.{type_here}
use Rattle.ir_ast.specs.TypePlaces.{stands}
use Rattle.ir_ast.proofs.types.Types.number.Goals as goal

pub returns-in-Some-clause-there : goal.returns-in-Some-clause-there
returns-in-Some-clause-there c = stands c.args.written c.args.self.now c.in-Some.number (sym c.find.ensures ∙ c.in-Some.is)

pub returns-clause-there : goal.returns-clause-there
returns-clause-there c =
    let types = c.args.self.now in
    let number : c.new-number.result ≡ length types = c.new-number.ensures ∙ c.len-number.ensures.len ∙ ap length c.self.view_is in
    ap (λ each. slice_get each c.new-number.result) c.note.ensures ∙ ap (slice_get c.add.new.self) number ∙ ap (λ each. slice_get each (length types)) c.in_ok-add.ensures.types ∙ get_end types c.args.written

pub note-requires : goal.note-requires
note-requires c =
    let types = c.args.self.now in
    let number : c.new-number.result ≡ length types = c.new-number.ensures ∙ c.len-number.ensures.len ∙ ap length c.self.view_is in
    ap (place_of_type c.args.written) c.in_ok-add.ensures.types ∙ type_here c.args.written types (sym c.find.ensures ∙ c.in_default.is) ∙ ap Some (sym number)
