-- The plan of a setup's heap.
use Rattle.std.proofs.Common.{◌≡◌, ℕ, Bool, List, length, map, slice_get, slice_index, sym, ap, subst, ◌∙◌}
use Rattle.pools.specs.Heap.{Setup as HeapSetup, kind_of, IsStartOf, IsSetup}
use Rattle.pools.specs.declared.word_kind.WordKind.{WordKind}
use Rattle.layout.specs.Globals.{globals_of}
use Rattle.layout.specs.Layouts.{LaidOut}
use Rattle.program_runner.specs.Heaps.{heap_of, value_of_global}
use Rattle.program_runner.specs.SetupHeaps.{is_setup}
use Rattle.trace_text.specs.Arrivals.{is_late}
use Rattle.trace_text.specs.declared.trace.Setup.{Setup}
use Rattle.trace_text.specs.declared.trace.Start.{Start}

-- the plan is that of the setup's heap
pub plan_is : (p : LaidOut) (setup : Setup) {threads : ℕ} {late : List Bool} {layouts : List (List WordKind)} {globals : List WordKind} {values : List ℕ} → threads ≡ length setup.starts
    → late ≡ map (λ (start : Start). is_late start.arrival) setup.starts → layouts ≡ p.layouts → globals ≡ globals_of p.of_module → values ≡ map (value_of_global p.of_module) p.of_module.globals
    → record { threads = threads; late = late; layouts = layouts; pools = setup.pools; globals = globals; values = values } ≡ heap_of p setup
plan_is p setup {threads} {late} {layouts} {globals} {values} a b c d e =
    ap (λ n. plan n late layouts globals values) a ∙ ap (λ l. plan (length setup.starts) l layouts globals values) b ∙ ap (λ l. plan (length setup.starts) (map (λ (start : Start). is_late start.arrival) setup.starts) l globals values) c
    ∙ ap (λ g. plan (length setup.starts) (map (λ (start : Start). is_late start.arrival) setup.starts) p.layouts g values) d
    ∙ ap (λ v. plan (length setup.starts) (map (λ (start : Start). is_late start.arrival) setup.starts) p.layouts (globals_of p.of_module) v) e
  where
    plan : ℕ → List Bool → List (List WordKind) → List WordKind → List ℕ → HeapSetup
    plan threads late layouts globals values = record { threads = threads; late = late; layouts = layouts; pools = setup.pools; globals = globals; values = values }

-- the values of its globals fit
pub plan_fits : (p : LaidOut) (setup : Setup) (plan : HeapSetup) → plan.globals ≡ globals_of p.of_module → plan.values ≡ map (value_of_global p.of_module) p.of_module.globals → IsSetup plan
unfolding kind_of
plan_fits p setup plan globals values word =
    subst (λ (v : List ℕ). IsStartOf (slice_get plan.globals word) (slice_index v word)) (sym values)
    (subst (λ (g : List WordKind). IsStartOf (slice_get g word) (slice_index (map (value_of_global p.of_module) p.of_module.globals) word)) (sym globals) (is_setup p setup word))
