use Rattle.std.proofs.Common.{◌≡◌, ◌∙◌, ap, arith, length, List, ℕ, Option, slice_set}
use Rattle.std.specs.Prelude.{map}
use Rattle.std.specs.List.{list_any}
use Rattle.fact_tables.specs.declared.known.Known.TheVariants.{Nothing}
use Rattle.fact_tables.specs.declared.owners.Owners.{Owners}
use Rattle.fact_tables.specs.declared.row.Row.{Row}
use Rattle.fact_tables.specs.Rows.{is_of}
use Rattle.fact_tables.specs.Owners.{owners_of, members}
use Rattle.fact_tables.specs.Sheets.{other_is_of, known_of}
use Rattle.fact_tables.proofs.Defines.{other_listed}
use Rattle.fact_tables.proofs.OwnersOf.{only_members, same_owners}
use Rattle.fact_tables.proofs.sheet.Sheet.any_other.Goals as goal

pub returns : goal.returns
returns c =
    let rows : List Row = c.self.inside.rows.items in
    let first : c.owners_of-owners.result ≡ owners_of (length rows) c.self.inside.class_owners.items c.args.c = c.owners_of-owners.ensures ∙ same_owners c.args.c c.len.result (length rows) c.deref.result.now c.self.inside.class_owners.items (omega (arith, c.len.ensures, c.self.inside.rows.ok.0)) c.deref.ensures.value in
    c.any_other.ensures ∙ ap (λ (at : ℕ). list_any (other_is_of at c.args.c c.deref-2.result.now) (members c.owners_of-owners.result c.deref-3.result.now)) c.number.ensures
    ∙ ap (λ (l : List Row). list_any (other_is_of c.args.v c.args.c l) (members c.owners_of-owners.result c.deref-3.result.now)) c.deref-2.ensures.value
    ∙ ap (λ (non_owners : List ℕ). list_any (other_is_of c.args.v c.args.c rows) (members c.owners_of-owners.result non_owners)) c.deref-3.ensures.value
    ∙ ap (λ (first : Option Owners). list_any (other_is_of c.args.v c.args.c rows) (members first c.self.inside.non_owners.items)) first
    ∙ other_listed c.args.v c.args.c rows (members (owners_of (length rows) c.self.inside.class_owners.items c.args.c) c.self.inside.non_owners.items) (only_members c.args.c c.self.inside.non_owners.items c.self.inside.class_owners.items rows c.self.invariant.2)
    ∙ ap (λ (l : List Row). list_any (is_of c.args.c) (slice_set (map known_of l) c.args.v Nothing)) c.self.view_is
