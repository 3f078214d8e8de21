use Rattle.std.proofs.Common.{◌≡◌, ◌∙◌, ap, inl, inr, refl, List, ℕ, Some}
use Rattle.fact_tables.specs.declared.ties.Group.{Group}
use Rattle.fact_tables.specs.Ties.{group_of, class_in}
use Rattle.fact_tables.proofs.Tied.{on_ok_two, class_tied, class_through}
use Rattle.fact_tables.proofs.ties.Ties.tie.Goals as goal

pub returns-then-one-other-clause-moved : goal.returns-then-one-other-clause-moved
returns-then-one-other-clause-moved c =
    let a : ℕ = c.in_ok-from.from in
    let b : ℕ = c.in_ok-to.to in
    let placed : group_of c.place-2.new.self c.args.v ≡ Some a = c.in_ok-to.ensures.kept c.args.v a c.in_ok-from.ensures.of in
    let of : c.group_at-other.result.class ≡ class_in c.place-2.new.self.groups.items b = ap (λ (g : Group). g.class) c.group_at-other.ensures ∙ ap (λ (gs : List Group). class_in gs b) c.deref-2.ensures.value in
    on_ok_two c.merge.result c.merge.ensures.groups c.merge.ensures.class
    (λ moves renamed. class_through c.args.self.now c.place-2.new.self c.merge.new.self c.args.v c.args.w (λ q. c.in_ok-to.ensures.same q ∙ c.in_ok-from.ensures.same q)
    (class_tied c.place-2.new.self c.in_ok-to.ensures.ties a b c.args.v c.args.w a b c.group_at-other.result.class placed c.in_ok-to.ensures.of of (inl (refl, refl)) c.merge.new.self moves renamed))

pub returns-else-one-other-clause-moved : goal.returns-else-one-other-clause-moved
returns-else-one-other-clause-moved c =
    let a : ℕ = c.in_ok-from.from in
    let b : ℕ = c.in_ok-to.to in
    let placed : group_of c.place-2.new.self c.args.v ≡ Some a = c.in_ok-to.ensures.kept c.args.v a c.in_ok-from.ensures.of in
    let of : c.group_at-other.result.class ≡ class_in c.place-2.new.self.groups.items b = ap (λ (g : Group). g.class) c.group_at-other.ensures ∙ ap (λ (gs : List Group). class_in gs b) c.deref-2.ensures.value in
    on_ok_two c.merge-else-one-other.result c.merge-else-one-other.ensures.groups c.merge-else-one-other.ensures.class
    (λ moves renamed. class_through c.args.self.now c.place-2.new.self c.merge-else-one-other.new.self c.args.v c.args.w (λ q. c.in_ok-to.ensures.same q ∙ c.in_ok-from.ensures.same q)
    (class_tied c.place-2.new.self c.in_ok-to.ensures.ties b a c.args.v c.args.w a b c.group_at-other.result.class placed c.in_ok-to.ensures.of of (inr (refl, refl)) c.merge-else-one-other.new.self moves renamed))
