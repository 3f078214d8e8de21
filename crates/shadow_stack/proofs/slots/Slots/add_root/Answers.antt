use Rattle.std.proofs.Common.{◌≡◌, ◌<◌, length, true, false, slice_set, rules, sym, ◌∙◌, ap}
use Rattle.std.specs.Prelude.{slice_get, unwrap_or}
use Rattle.std.proofs.lemmas.List.{length-set}
use Rattle.shadow_stack.specs.Slots.{is_among}
use Rattle.shadow_stack.proofs.Rows.{rooted_push}
use Rattle.shadow_stack.proofs.slots.Slots.add_root.Goals as goal

pub invariant_of-self-2 : goal.invariant_of-self-2
invariant_of-self-2 c =
    let within : c.args.slot < length c.self.inside.rooted = search (rules, c.requires, c.self.invariant, c.self.view_is) in
    let is_set : c.set.new.self ≡ slice_set c.self.inside.rooted c.args.slot true = c.set.ensures ∙ ap (λ n. slice_set c.self.inside.rooted n true) c.number.ensures in (
      ap length is_set ∙ length-set c.self.inside.rooted c.args.slot true ∙ c.self.invariant.0,
      λ t. ap (λ r. unwrap_or (slice_get r t) false) is_set
          ∙ rooted_push c.self.inside.rooted c.self.inside.roots c.args.slot within c.self.invariant.1 t
          ∙ ap (λ r. is_among r t) (sym c.in_ok-push.ensures.ok),
    )
