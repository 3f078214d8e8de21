use Rattle.std.proofs.Common.{◌≡◌, ◌<◌, arith, length, sym, subst}
use Rattle.std.proofs.lemmas.Result.{IfOk-weaker}
use Rattle.lemmas.specs.Lists.{IsIn}
use Rattle.fact_tables.specs.SlotRows.{OnlyHolding}
use Rattle.fact_tables.proofs.SlotLists.{names_holding}
use Rattle.fact_tables.proofs.slot_rows.SlotRows.holding.Goals as goal

pub returns : goal.returns
returns c = IfOk-weaker c.shorter.result _ _
    (λ names all. subst (OnlyHolding names.items) c.self.view_is (names_holding c.self.inside.holding.items names.items c.self.inside.slots.items (λ s lt one. all s (subst (λ n. s < n) (sym count) lt) (subst (IsIn s) (sym c.deref.ensures.value) one)) c.self.invariant.1)) c.shorter.ensures
  where
    count : c.len.result ≡ length c.self.inside.slots.items
    count = omega (arith, c.len.ensures, c.self.inside.slots.ok.0)
