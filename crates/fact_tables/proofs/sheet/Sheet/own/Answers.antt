use Rattle.std.proofs.Common.{sym, subst, List}
use Rattle.fact_tables.specs.declared.owners.Owners.{Owners}
use Rattle.fact_tables.specs.Owners.{ListsNonOwners}
use Rattle.fact_tables.proofs.OwnersOf.{own_non_owners}
use Rattle.fact_tables.proofs.sheet.Sheet.own.Goals as goal

pub invariant_of-self : goal.invariant_of-self
invariant_of-self c = (c.self.invariant.0, c.self.invariant.1, subst (λ (class_owners : List Owners). ListsNonOwners c.self.inside.non_owners.items class_owners c.self.inside.rows.items) (sym c.in_err-push.ensures.items) c.self.invariant.2)

pub invariant_of-self-2 : goal.invariant_of-self-2
invariant_of-self-2 c = (c.self.invariant.0, c.self.invariant.1, subst (λ (class_owners : List Owners). ListsNonOwners c.self.inside.non_owners.items class_owners c.self.inside.rows.items) (sym c.in_ok-push.ensures.items) (own_non_owners (record { first = c.number-first.result; second = c.number-first.result }) c.self.inside.non_owners.items c.self.inside.class_owners.items c.self.inside.rows.items c.self.invariant.2))
