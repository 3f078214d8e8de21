use Rattle.std.proofs.Common.{◌≡◌, ◌∙◌, ap, sym, subst, inl, length, false, ℕ, List}
use Rattle.lemmas.specs.Lists.{last_in, IsIn}
use Rattle.fact_tables.specs.declared.owners.Owners.{Owners}
use Rattle.fact_tables.specs.declared.row.Row.{Row}
use Rattle.fact_tables.specs.Owners.{ListsNonOwners}
use Rattle.fact_tables.specs.Owned.{is_new_non_owner}
use Rattle.fact_tables.specs.Sheets.{row_at}
use Rattle.fact_tables.proofs.OwnersOf.{more_non_owners}
use Rattle.fact_tables.proofs.OwnersChange.{after_owner, stays_owner}
use Rattle.fact_tables.proofs.owners.record_non_owner.Goals as goal

pub returns-in_err-push-clause-kept : goal.returns-in_err-push-clause-kept
returns-in_err-push-clause-kept c = λ only. subst (λ (us : List ℕ). ListsNonOwners us c.add_owner_of.new.class_owners.items c.args.rows.now) (sym c.in_err-push.ensures.items)
    (after_owner c.args.at c.args.after.now.known c.args.non_owners.now.items c.args.class_owners.now.items c.add_owner_of.new.class_owners.items c.args.rows.now c.add_owner_of.ensures only)

pub returns-in_ok-push-clause-kept : goal.returns-in_ok-push-clause-kept
returns-in_ok-push-clause-kept c = λ only. subst (λ (us : List ℕ). ListsNonOwners us c.add_owner_of.new.class_owners.items c.args.rows.now) (sym c.in_ok-push.ensures.items)
    (more_non_owners c.args.at c.args.non_owners.now.items c.add_owner_of.new.class_owners.items c.args.rows.now
    (after_owner c.args.at c.args.after.now.known c.args.non_owners.now.items c.args.class_owners.now.items c.add_owner_of.new.class_owners.items c.args.rows.now c.add_owner_of.ensures only))

pub returns-in_ok-push-clause-recorded : goal.returns-in_ok-push-clause-recorded
returns-in_ok-push-clause-recorded c = λ only. inl (subst (IsIn c.args.at) (sym c.in_ok-push.ensures.items) (last_in c.args.at c.args.non_owners.now.items))

pub returns-else-is_new_non_owner-clause-kept : goal.returns-else-is_new_non_owner-clause-kept
returns-else-is_new_non_owner-clause-kept c = λ only. after_owner c.args.at c.args.after.now.known c.args.non_owners.now.items c.args.class_owners.now.items c.add_owner_of.new.class_owners.items c.args.rows.now c.add_owner_of.ensures only

pub returns-else-is_new_non_owner-clause-recorded : goal.returns-else-is_new_non_owner-clause-recorded
returns-else-is_new_non_owner-clause-recorded c = λ only.
    let rows : List Row = c.args.rows.now in
    let next : List Owners = c.add_owner_of.new.class_owners.items in
    let stays : is_new_non_owner (length rows) next c.args.at (row_at rows c.args.at) c.args.after.now ≡ false =
    ap (λ (class_owners : List Owners). is_new_non_owner (length rows) class_owners c.args.at (row_at rows c.args.at) c.args.after.now) (sym c.deref.ensures.value)
    ∙ ap (λ (row : Row). is_new_non_owner (length rows) c.deref.result.now c.args.at row c.args.after.now) (sym c.requires) ∙ sym c.is_new_non_owner.ensures ∙ c.if-is_new_non_owner.false in
    stays_owner c.args.at c.args.after.now c.args.non_owners.now.items next rows (after_owner c.args.at c.args.after.now.known c.args.non_owners.now.items c.args.class_owners.now.items next rows c.add_owner_of.ensures only) stays
