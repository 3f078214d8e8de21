use Rattle.std.proofs.Common.{◌∙◌, ap, List}
use Rattle.std.specs.List.{list_all, enumerate_from}
use Rattle.fact_tables.specs.declared.known.SlotFact.{SlotFact}
use Rattle.fact_tables.specs.Chains.{listed}
use Rattle.fact_tables.specs.Covers.{covers_slot}
use Rattle.fact_tables.specs.SlotRows.{covers_at}
use Rattle.fact_tables.proofs.SlotCovers.{keepers_cover}
use Rattle.fact_tables.proofs.slot_rows.SlotRows.covers.Goals as goal

pub returns : goal.returns
returns c =
    let here : List SlotFact = c.self.inside.slots.items in
    let there : List SlotFact = c.there.inside.slots.items in
    c.covers.ensures ∙ ap (λ (l : List SlotFact). list_all (covers_at c.args.c c.args.d l c.deref-2.result.now) (listed c.self.inside.keepers c.args.c)) c.deref.ensures.value
    ∙ ap (λ (l : List SlotFact). list_all (covers_at c.args.c c.args.d here l) (listed c.self.inside.keepers c.args.c)) c.deref-2.ensures.value
    ∙ keepers_cover c.args.c c.args.d here there c.self.inside.keepers c.self.invariant.2
    ∙ ap (λ (l : List SlotFact). list_all (covers_slot c.args.c c.args.d there) (enumerate_from 0 l)) c.self.view_is ∙ ap (λ (l : List SlotFact). list_all (covers_slot c.args.c c.args.d l) (enumerate_from 0 c.args.self.now)) c.there.view_is
