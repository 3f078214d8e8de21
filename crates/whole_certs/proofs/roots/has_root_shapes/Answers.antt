use Rattle.std.proofs.Common.{◌≡◌, subst}
use Rattle.std.specs.Prelude.{IfOk}
use Rattle.std.specs.List.{list_all}
use Rattle.whole_certs.specs.Roots.{are_roots_shaped}
use Rattle.whole_certs.proofs.RootSlots.{roots_found}
use Rattle.whole_certs.proofs.roots.has_root_shapes.Goals as goal

pub returns : goal.returns
returns c =
    let m = c.args.module.now in
    let shapes = c.args.shapes.now in
    let found = c.each_function_is_shaped.result in
    let is = subst (λ functions. IfOk found (λ shaped. shaped ≡ list_all (are_roots_shaped m shapes) functions)) c.as_slice.ensures c.each_function_is_shaped.ensures in
    roots_found m shapes found is
