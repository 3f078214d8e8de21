use Rattle.std.proofs.Common.{sym, ap, ◌∙◌}
use Rattle.record_text.specs.Records.{step_with}
use Rattle.thread_order.specs.declared.at.At.{At}
use Rattle.thread_order.specs.Standings.{Standing}
use Rattle.thread_order.specs.Follows.{may_follow}
use Rattle.thread_order.proofs.order.ThreadOrder.is_next.Goals as goal

pub returns-in-MarkingOld : goal.returns-in-MarkingOld
returns-in-MarkingOld c = let v = c.args.self.now in let i = c.in-MarkingOld in
    c.is_old.ensures v i._cell i._word c.args.roots.now ∙ ap (λ (x : At). may_follow v x (step_with c.args.roots.now c.args.step)) (sym i.is ∙ ap (λ (w : Standing). w.at) c.self.view_is)

pub returns-in-MarkingNew : goal.returns-in-MarkingNew
returns-in-MarkingNew c = let v = c.args.self.now in let i = c.in-MarkingNew in
    c.is_new.ensures i._old c.args.roots.now ∙ ap (λ (x : At). may_follow v x (step_with c.args.roots.now c.args.step)) (sym i.is ∙ ap (λ (w : Standing). w.at) c.self.view_is)

pub returns-in-Writing : goal.returns-in-Writing
returns-in-Writing c = let v = c.args.self.now in let i = c.in-Writing in
    c.is_store.ensures v i._old c.args.roots.now ∙ ap (λ (x : At). may_follow v x (step_with c.args.roots.now c.args.step)) (sym i.is ∙ ap (λ (w : Standing). w.at) c.self.view_is)

pub returns-in-Arriving : goal.returns-in-Arriving
returns-in-Arriving c = let v = c.args.self.now in
    c.is_entry.ensures v c.args.roots.now ∙ ap (λ (x : At). may_follow v x (step_with c.args.roots.now c.args.step)) (sym c.in-Arriving.is ∙ ap (λ (w : Standing). w.at) c.self.view_is)

pub returns-in-Leaving : goal.returns-in-Leaving
returns-in-Leaving c = let v = c.args.self.now in
    c.is_end.ensures v ∙ ap (λ (x : At). may_follow v x (step_with c.args.roots.now c.args.step)) (sym c.in-Leaving.is ∙ ap (λ (w : Standing). w.at) c.self.view_is)
