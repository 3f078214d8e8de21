-- A token may step where its actor may.
use Rattle.std.proofs.Common.{◌≡◌, ℕ, ◌<◌, refl, sym, ap, subst, ◌∙◌}
use Rattle.atomic_table.specs.Table.{Me, Allows}
use Rattle.atomic_table.specs.Seated.{TableId}
use Rattle.pools.specs.Heap.{Setup}
use Rattle.colours.specs.declared.ask.Ask.{Ask}
use Rattle.colours.specs.Steps.{place_of}
use Rattle.colours.specs.Runs.{Event}
use Rattle.heap_rule.specs.View.{Share, View, IsSeatOf, share_of, logged}
use Rattle.heap_rule.specs.Rule.{size, HasPlace, index, Ruled, told, MayStep, Happens}
use Rattle.heap_rule.specs.Stepping.{allows, becomes}
use Rattle.heap_words.specs.Tokens.{Holding, Shared, IsOf}

module _ (key : Setup) (tid of : TableId) (me : Me (Unit {0}) View) (v : Shared) (h : Holding) (event : ℕ → Event) (ask : Ask) (slots id i : ℕ) where
  pub may_step : record { setup = key; table = tid } ≡ v → record { table = of; setup = me.0.setup; share = share_of me.0 } ≡ h → IsSeatOf (share_of me.0) me.0 → tid.words ≡ size key
      → IsOf v h → HasPlace v.setup (place_of ask) → MayStep v.setup h.share event ask → i ≡ index v.setup (place_of ask) → i < size v.setup
      → (of ≡ tid) × (i < tid.words) × Allows (Ruled key) slots id me i (becomes ask) (λ n after. (after ≡ (logged me.0 (event (told ask n)), me.1)) × Happens me.0.setup (share_of me.0) (event (told ask n)))
  may_step view held one words same here may at below = (
    ap (λ (x : Holding). x.table) held ∙ (same.table ∙ sym (ap (λ (x : Shared). x.table) view)),
    subst (λ (n : ℕ). i < n) (sym words) (subst (λ (s : Setup). i < size s) (sym key_is) below),
    allows key (share_of me.0) me event ask one (subst (λ (s : Setup). HasPlace s (place_of ask)) (sym key_is) here)
        (subst (λ (s : Setup). MayStep s (share_of me.0) event ask) (sym key_is) (subst (λ (x : Share). MayStep v.setup x event ask) (sym (ap (λ (x : Holding). x.share) held)) may))
        (ap (λ (x : Holding). x.setup) held ∙ (same.setup ∙ sym key_is))
        key slots id i refl (at ∙ ap (λ (s : Setup). index s (place_of ask)) (sym key_is)),
  )
    where
      key_is : key ≡ v.setup
      key_is = ap (λ (x : Shared). x.setup) view
