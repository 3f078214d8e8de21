use Rattle.std.proofs.Common.{◌≡◌, ◌∙◌, Some, slice_get, sym, ap}
use Rattle.ir_ast.specs.Types.{place_of_type}
use Rattle.ir_ast.proofs.types.Types.find.Goals as goal

pub returns-in-Some : goal.returns-in-Some
returns-in-Some c =
    let hint = c.in-Some.ensures in
    let there = ap (λ each. slice_get each hint.0) (sym c.deref.ensures.value) ∙ hint.1 in
    sym (c.self.invariant.3 hint.0 (record { written = c.args.sought; number = c.in-Some.number }) there) ∙ ap (place_of_type c.args.sought) c.self.view_is
