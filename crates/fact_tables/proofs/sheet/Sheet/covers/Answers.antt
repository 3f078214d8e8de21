use Rattle.std.proofs.Common.{◌≡◌, ◌∙◌, ap, arith, length, List, ℕ, Option}
use Rattle.std.specs.Prelude.{map}
use Rattle.std.specs.List.{list_all, zip}
use Rattle.fact_tables.specs.declared.owners.Owners.{Owners}
use Rattle.fact_tables.specs.declared.row.Row.{Row}
use Rattle.fact_tables.specs.Owners.{owners_of, members}
use Rattle.fact_tables.specs.Covers.{covers_value}
use Rattle.fact_tables.specs.Sheets.{known_of}
use Rattle.fact_tables.proofs.OwnersOf.{only_members, same_owners}
use Rattle.fact_tables.proofs.Marked.{covers_here, covers_there, same_question}
use Rattle.fact_tables.proofs.sheet.Sheet.covers.Goals as goal

pub returns-then-len : goal.returns-then-len
returns-then-len c =
    let here : List Row = c.self.inside.rows.items in
    let there : List Row = c.there.inside.rows.items in
    let non_owners : List ℕ = c.self.inside.non_owners.items in
    let first : c.owners_of-owners.result ≡ owners_of (length here) c.self.inside.class_owners.items c.args.c = c.owners_of-owners.ensures ∙ same_owners c.args.c c.len-then-len.result (length here) c.deref.result.now c.self.inside.class_owners.items (omega (arith, c.len-then-len.ensures, c.self.inside.rows.ok.0)) c.deref.ensures.value in
    c.covers.ensures
    ∙ same_question c.args.c c.args.d c.deref-then-len.result.now here c.deref-then-len-3.result.now there (members c.owners_of-owners.result c.deref-then-len-2.result.now) (members (owners_of (length here) c.self.inside.class_owners.items c.args.c) non_owners) c.deref-then-len.ensures.value
    (ap (λ (first : Option Owners). members first c.deref-then-len-2.result.now) first ∙ ap (members (owners_of (length here) c.self.inside.class_owners.items c.args.c)) c.deref-then-len-2.ensures.value) c.deref-then-len-3.ensures.value
    ∙ covers_here c.args.c c.args.d here there (members (owners_of (length here) c.self.inside.class_owners.items c.args.c) non_owners) (only_members c.args.c non_owners c.self.inside.class_owners.items here c.self.invariant.2)
    ∙ ap (λ (rows : List Row). list_all (covers_value c.args.c c.args.d) (zip (map known_of rows) (map known_of there))) c.self.view_is
    ∙ ap (λ (rows : List Row). list_all (covers_value c.args.c c.args.d) (zip (map known_of c.args.self.now) (map known_of rows))) c.there.view_is

pub returns-else-len : goal.returns-else-len
returns-else-len c = c.covers-else-len.ensures ∙ same_question c.args.c c.args.d c.deref-else-len.result.now c.self.inside.rows.items c.deref-else-len-3.result.now c.there.inside.rows.items c.deref-else-len-2.result.now c.there.inside.marked.items c.deref-else-len.ensures.value c.deref-else-len-2.ensures.value c.deref-else-len-3.ensures.value
    ∙ covers_there c.args.c c.args.d c.self.inside.rows.items c.there.inside.rows.items c.there.inside.marked.items c.there.invariant.0
    ∙ ap (λ (rows : List Row). list_all (covers_value c.args.c c.args.d) (zip (map known_of rows) (map known_of c.there.inside.rows.items))) c.self.view_is
    ∙ ap (λ (rows : List Row). list_all (covers_value c.args.c c.args.d) (zip (map known_of c.args.self.now) (map known_of rows))) c.there.view_is
