use Rattle.std.proofs.Common.{Some, ◌≡◌, ◌+◌, ◌++◌, ◌∷◌, ◌∙◌, [], length, length-append, is_some, if◌then◌else◌, sym, ap, subst, arith}
use Rattle.ir_ast.specs.Fields.{AreJumps}
use Rattle.ir_ast.specs.TypePlaces.{types-are}
use Rattle.ir_ast.specs.Types.{place_of_type}
use Rattle.ir_ast.proofs.HintsStay.{type_stays}
use Rattle.ir_ast.proofs.Jumps.{one_more}
use Rattle.ir_ast.proofs.types.Types.add.Goals as goal

types_now : (c : goal.In-Ok) → c.insert.new.self.keys ≡ c.args.self.now ++ c.args.written ∷ []
types_now c =
    c.in-Ok.ensures.keys ∙ types-are c.args.written c.self.inside.each.keys c.args.self.now (c.self.view_is ∙ c.make_hints.ensures ∙ c.take_key.ensures)
    ∙ ap (λ place. if is_some place then c.args.self.now else c.args.self.now ++ c.args.written ∷ []) c.requires.new

pub invariant_of-self-in-Ok : goal.invariant_of-self-in-Ok
invariant_of-self-in-Ok c =
    let types = c.args.self.now in
    let old = c.self.inside.jumps.items in
    let now = types_now c in
    let view : c.self.inside.each.keys ≡ types = c.self.view_is ∙ c.make_hints.ensures ∙ c.take_key.ensures in
    let longer : length c.insert.new.self.keys ≡ length types + 1 = ap length now ∙ length-append types (c.args.written ∷ []) in
    let pushed : c.push.new.self.items ≡ old ++ c.args.jump ∷ [] = c.in_ok-push.ensures.items in
    let more : length c.push.new.self.items ≡ length old + 1 = ap length pushed ∙ length-append old (c.args.jump ∷ []) in
    let same : length old ≡ length types = c.self.invariant.1 ∙ ap length view in
    let limit = c.requires.limit in
    let are : AreJumps types old = subst (λ each. AreJumps each old) view c.self.invariant.2 in (
      omega (arith, longer, limit),
      omega (arith, longer, more, same),
      subst (λ each. AreJumps each c.push.new.self.items) (sym now) (subst (AreJumps (types ++ c.args.written ∷ [])) (sym pushed) (one_more types old c.args.written c.args.jump same are c.requires.jump)),
      (λ place hint is.
          let was : place_of_type hint.written types ≡ Some hint.number = subst (λ each. place_of_type hint.written each ≡ Some hint.number) view (c.self.invariant.3 place hint is) in
          subst (λ each. place_of_type hint.written each ≡ Some hint.number) (sym now) (type_stays hint.written c.args.written types hint.number was)),
    )

pub returns-in-Ok-clause-types : goal.returns-in-Ok-clause-types
returns-in-Ok-clause-types c = types_now c
