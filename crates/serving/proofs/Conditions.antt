-- A careful thread meets the conditions of each call that it asks for.
use Rattle.std.proofs.Common.{◌≡◌, ◌≢◌, ℕ, None, List, sym, ap, subst, ◌∙◌}
use Rattle.std.specs.Prelude.{IsTrue}
use Rattle.lemmas.specs.Lists.{IsIn}
use Rattle.pools.specs.Heap.{kind_of}
use Rattle.pools.specs.Layouts.{is_reference_kind}
use Rattle.colours.specs.Steps.{Step}
use Rattle.colours.specs.Mutator.{Ready, phase_of, MayUse, MayStore, IsPossibleLog, Fresh}
use Rattle.runs.specs.Machine.{WordValue, Action, Read, StorePlain, Write, Wrong, Machine}
use Rattle.runs.specs.Moves.{cells_of, steps_of}
use Rattle.runs.specs.Broken.{IsUnderWay}
use Rattle.runs.specs.Discipline.{MayName, ArePossible}
use Rattle.runs.specs.Discipline as discipline
use Rattle.runs.specs.Shares.{possible_share, may_use, may_store, name_cells}
use Rattle.heap_table.specs.Holders.{Holder}
use Rattle.serving.specs.Serving.{Serves}

module _ (m : Machine) (start : m.State) (moves : ℕ) (t : Holder) (state : m.State) (v : Serves m start moves t state) (ready : phase_of t.setup t.thread t.log ≡ Ready) (possible : IsPossibleLog t.setup t.log) where
  at_ready : phase_of t.setup t.thread (steps_of v.real.share) ≡ Ready
  at_ready = ap (phase_of t.setup t.thread) v.real.steps ∙ ready

  are_possible : ArePossible t.setup v.real.share
  are_possible = possible_share t.setup v.real.share (subst (IsPossibleLog t.setup) (sym v.real.steps) possible)

  calls : (action : Action) → m.action state ≡ action → discipline.MayCall t.setup v.real.share action
  calls action e = subst (discipline.MayCall t.setup v.real.share) (ap m.action v.real.leads_to ∙ e) (v.careful.calls v.real.share v.real.asked are_possible at_ready)

  pub may_read : (base : WordValue) (word cell : ℕ) → cell ≡ base.cell → m.action state ≡ Read base word → MayUse t.setup t.log cell × (kind_of t.setup cell word ≢ None)
  may_read base word cell number e = let c : discipline.MayCall t.setup v.real.share (Read base word) = calls (Read base word) e in
      subst (λ (d : ℕ). MayUse t.setup t.log d × (kind_of t.setup d word ≢ None)) (sym number) (subst (λ (l : List Step). MayUse t.setup l base.cell) v.real.steps (may_use t.setup v.real.share base c.0), c.1)

  pub may_write : (base : WordValue) (word : ℕ) (value : WordValue) (cell new : ℕ) → cell ≡ base.cell → new ≡ value.cell → m.action state ≡ Write base word value
      → MayUse t.setup t.log cell × IsTrue (is_reference_kind (kind_of t.setup cell word)) × MayStore t.setup t.log (kind_of t.setup cell word) new
  may_write base word value cell new number same e = let c : discipline.MayCall t.setup v.real.share (Write base word value) = calls (Write base word value) e in
      subst (λ (d : ℕ). MayUse t.setup t.log d × IsTrue (is_reference_kind (kind_of t.setup d word)) × MayStore t.setup t.log (kind_of t.setup d word) new) (sym number) (
        subst (λ (l : List Step). MayUse t.setup l base.cell) v.real.steps (may_use t.setup v.real.share base c.0),
        c.1,
        subst (λ (n : ℕ). MayStore t.setup t.log (kind_of t.setup base.cell word) n) (sym same) (subst (λ (l : List Step). MayStore t.setup l (kind_of t.setup base.cell word) value.cell) v.real.steps (may_store t.setup v.real.share (kind_of t.setup base.cell word) value c.2)),
      )

  pub may_store_plain : (base : WordValue) (word : ℕ) (value : WordValue) (cell : ℕ) → cell ≡ base.cell → m.action state ≡ StorePlain base word value
      → MayUse t.setup t.log cell × (IsTrue (is_reference_kind (kind_of t.setup cell word)) → Fresh t.setup t.log cell) × MayStore t.setup t.log (kind_of t.setup cell word) value.cell
  may_store_plain base word value cell number e = let c : discipline.MayCall t.setup v.real.share (StorePlain base word value) = calls (StorePlain base word value) e in
      subst (λ (d : ℕ). MayUse t.setup t.log d × (IsTrue (is_reference_kind (kind_of t.setup d word)) → Fresh t.setup t.log d) × MayStore t.setup t.log (kind_of t.setup d word) value.cell) (sym number) (
        subst (λ (l : List Step). MayUse t.setup l base.cell) v.real.steps (may_use t.setup v.real.share base c.0),
        subst (λ (l : List Step). IsTrue (is_reference_kind (kind_of t.setup base.cell word)) → Fresh t.setup l base.cell) v.real.steps c.1,
        subst (λ (l : List Step). MayStore t.setup l (kind_of t.setup base.cell word) value.cell) v.real.steps (may_store t.setup v.real.share (kind_of t.setup base.cell word) value c.2),
      )

  pub never_wrong : m.action state ≡ Wrong → ⊥
  never_wrong e = calls Wrong e

  -- each root may be named at a safepoint
  pub may_name : (c : ℕ) → IsIn c (cells_of (m.roots state)) → MayUse t.setup t.log c
  may_name c a = subst (λ (l : List Step). MayUse t.setup l c) v.real.steps (name_cells t.setup v.real.share (m.roots state)
      (subst (λ (x : m.State). (r : WordValue) → IsIn r (m.roots x) → MayName t.setup v.real.share r) v.real.leads_to
      (v.careful.roots v.real.share v.real.asked are_possible (subst IsUnderWay (sym at_ready) tt))) c a)
