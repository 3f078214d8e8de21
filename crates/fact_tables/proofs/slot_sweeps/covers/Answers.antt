use Rattle.std.proofs.Common.{◌≡◌, ◌<◌, ◌+◌, ◌-◌, ◌∙◌, ap, arith, sym, length, List, ℕ, Bool, Option, Some, None}
use Rattle.std.specs.Prelude.{◌&&◌, nat_eq}
use Rattle.std.specs.List.{list_all}
use Rattle.indexmap.specs.IndexMap.{get}
use Rattle.fact_tables.specs.declared.uses.Use.{Use}
use Rattle.fact_tables.specs.Chains.{listed}
use Rattle.fact_tables.specs.SlotRows.{covers_at}
use Rattle.fact_tables.specs.Uses.{use_at, chain}
use Rattle.fact_tables.proofs.SlotCovers.{cover_step}
use Rattle.fact_tables.proofs.Users.{chain_none}
use Rattle.fact_tables.proofs.slot_sweeps.covers.Goals as goal

pub returns-in_default : goal.returns-in_default
returns-in_default c =
    let links : List Use = c.args.keepers.now.links.items in
    let p : ℕ → Bool = covers_at c.args.c c.args.d c.args.here.now c.args.there.now in
    let none : use_at links c.loop-step.at ≡ None = ap (λ (uses : List Use). use_at uses c.loop-step.at) (sym c.deref.ensures.value) ∙ sym c.in_default.ensures in
    let newest : c.newest-at.result ≡ get nat_eq c.args.keepers.now.newest c.args.c = c.newest-at.ensures ∙ ap (get nat_eq c.args.keepers.now.newest) c.number.ensures in
    let base : list_all p (listed c.args.keepers.now c.args.c) ≡ list_all p (chain (length links - c.loop-step.step) links c.loop-step.at) = ap (λ (at : Option ℕ). list_all p (chain (length links) links at)) (sym newest) ∙ c.loop-step.invariant in
    sym (base ∙ ap (list_all p) (chain_none (length links - c.loop-step.step) links c.loop-step.at none))

pub returns-then-not-covers_at : goal.returns-then-not-covers_at
returns-then-not-covers_at c =
    let links : List Use = c.args.keepers.now.links.items in
    let p : ℕ → Bool = covers_at c.args.c c.args.d c.args.here.now c.args.there.now in
    let newest : c.newest-at.result ≡ get nat_eq c.args.keepers.now.newest c.args.c = c.newest-at.ensures ∙ ap (get nat_eq c.args.keepers.now.newest) c.number.ensures in
    let base : list_all p (listed c.args.keepers.now c.args.c) ≡ list_all p (chain (length links - c.loop-step.step) links c.loop-step.at) = ap (λ (at : Option ℕ). list_all p (chain (length links) links at)) (sym newest) ∙ c.loop-step.invariant in
    let lt : c.loop-step.step < length links = omega (arith, c.loop-step-test.true, c.len-step-end.ensures, c.args.keepers.now.links.ok.0) in
    let is : use_at links c.loop-step.at ≡ Some c.in-Some.found = ap (λ (uses : List Use). use_at uses c.loop-step.at) (sym c.deref.ensures.value) ∙ sym c.in-Some.ensures in
    let rest : Bool = list_all p (chain (length links - (c.loop-step.step + 1)) links c.in-Some.found.before) in
    sym (cover_step p (length links) c.loop-step.step links c.loop-step.at c.in-Some.found _ lt base is ∙ ap (λ (b : Bool). b && rest) (sym c.covers_at.ensures ∙ c.if-not-covers_at.true))

pub loop-step-preserved : goal.loop-step-preserved
loop-step-preserved c =
    let links : List Use = c.args.keepers.now.links.items in
    let p : ℕ → Bool = covers_at c.args.c c.args.d c.args.here.now c.args.there.now in
    let lt : c.loop-step.step < length links = omega (arith, c.loop-step-test.true, c.len-step-end.ensures, c.args.keepers.now.links.ok.0) in
    let is : use_at links c.loop-step.at ≡ Some c.in-Some.found = ap (λ (uses : List Use). use_at uses c.loop-step.at) (sym c.deref.ensures.value) ∙ sym c.in-Some.ensures in
    let rest : Bool = list_all p (chain (length links - (c.loop-step.step + 1)) links c.in-Some.found.before) in
    cover_step p (length links) c.loop-step.step links c.loop-step.at c.in-Some.found _ lt c.loop-step.invariant is ∙ ap (λ (b : Bool). b && rest) (sym c.covers_at.ensures ∙ c.if-not-covers_at.false)
