use Rattle.std.proofs.Common.{◌≡◌, false, length, sym, ◌∙◌, rules, arith}
use Rattle.std.specs.Prelude.{replicate}
use Rattle.std.proofs.lemmas.Grind.{common_steps}
use Rattle.shadow_stack.specs.Slots.{slots_of}
use Rattle.certificate.specs.Allocas.{makes_slots}
use Rattle.certificate.proofs.NoRoots.{no_roots}
use Rattle.certificate.proofs.draft.root_names.Goals as goal

pub returns-then-not-makes_slots : goal.returns-then-not-makes_slots
returns-then-not-makes_slots c =
    let row : c.from_vec-roots.result ≡ replicate (length c.args.function.now.locals) false = first_of (search rules, grind (arith, common_steps)) in
    let none : makes_slots c.args.function.now.blocks ≡ false = first_of (search rules, cc, grind (arith, common_steps)) in
    row ∙ sym (no_roots (slots_of c.args.module.now c.args.function.now) c.args.function.now.blocks (replicate (length c.args.function.now.locals) false) none)
