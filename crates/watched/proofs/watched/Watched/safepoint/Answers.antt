use Rattle.std.proofs.Common.{◌≡◌, ◌∙◌, ◌∷◌, sym, subst, ap}
use Rattle.colours.specs.Steps.{ReadPosted, StoreStage}
use Rattle.colours.specs.Mutator.{MayUse}
use Rattle.heap_table.specs.Holders.{Holder, with_log}
use Rattle.heap_table.specs.Safepoints.{before_answer}
use Rattle.watch.specs.Knows.{Knows}
use Rattle.watched.proofs.Steps.{answer_known, owed_use}
use Rattle.watched.proofs.watched.Watched.safepoint.Goals as goal

pub invariant_of-self-2 : goal.invariant_of-self-2
invariant_of-self-2 c =
    let s = c.self.inside.me.setup in
    let x = c.self.inside.known in
    let log = c.self.inside.me.log in
    let roots = c.args.roots.now in
    let posted = c.in-Some.posted in
    let now : c.respond.new.me ≡ with_log c.self.inside.me (StoreStage posted roots ∷ before_answer posted roots (ReadPosted posted ∷ log)) =
    c.respond.ensures.log ∙ ap (λ (h : Holder). with_log h (StoreStage posted roots ∷ before_answer posted roots h.log)) c.in-Some.ensures.other.1 in (
      subst (λ (h : Holder). Knows h.setup h.log c.answered.new.self) (sym now)
          (c.answered.ensures s (before_answer posted roots (ReadPosted posted ∷ log)) posted
          (λ root is. owed_use s posted roots log root (subst (λ (h : Holder). MayUse h.setup h.log root) (sym c.self.view_is) (c.in_ok-are_held.ensures.ok root is)))
          (answer_known s x posted roots (ReadPosted posted ∷ log) (λ l cell k. c.others_law.ensures.mark s l x cell k) (c.others_law.ensures.posted s log x posted c.self.invariant.0))),
      c.self.invariant.1 ∙ sym (ap (λ (h : Holder). h.setup) now),
    )
