-- Roots that are marked one after the other.
use Rattle.std.proofs.Common.{◌≡◌, ℕ, zero, suc, ◌+◌, ◌<◌, ◌==◌, not, Bool, true, false, Some, List, [], ◌∷◌, length, take, reverse, length-take, slice_get, ◌≤◌, arith, nat_le, min, refl, sym, ap, ◌∙◌, subst, if◌then◌else◌, add-one}
use Rattle.std.proofs.lemmas.List.{reverse-append, length-reverse}
use Rattle.std.proofs.lemmas.Option.{slice_get_within, slice_get_past, get_or_from_slice_get}
use Rattle.std.proofs.lemmas.Bool.Decides.{nat_tests}
use Rattle.std.proofs.Math.Seq.{take-suc}
use Rattle.pools.specs.Heap.{Setup}
use Rattle.colours.specs.Mutator as order
use Rattle.colours.specs.Mutator.{non_null, phase_after}
use Rattle.colours.specs.Steps.{Mark}
use Rattle.runs.specs.Machine.{WordValue}
use Rattle.runs.specs.Moves.{cells_of, next_root}
use Rattle.moves.specs.declared.thread_state.CallPhase.{CallPhase}
use Rattle.moves.specs.declared.thread_state.CallPhase.TheVariants.{Answering}
use Rattle.moves.specs.Moving.{not_null, MarksNext}
use Rattle.moves.specs.Stands.{marked_of, phase_at}

-- the cell of a root that is not null
non_null-get : (roots : List WordValue) (at : ℕ) (r : WordValue) → slice_get (not_null roots) at ≡ Some r → slice_get (non_null (cells_of roots)) at ≡ Some r.cell
non_null-get [] at r e = absurd cc
non_null-get (root ∷ roots) at r e = go (non_null-get roots) at (not (root.cell == 0)) e
  where
    go : ((at : ℕ) (r : WordValue) → slice_get (not_null roots) at ≡ Some r → slice_get (non_null (cells_of roots)) at ≡ Some r.cell) → (at : ℕ) (b : Bool)
        → slice_get (if b then root ∷ not_null roots else not_null roots) at ≡ Some r → slice_get (if b then root.cell ∷ non_null (cells_of roots) else non_null (cells_of roots)) at ≡ Some r.cell
    go rest zero true e = let same : root ≡ r = cc in ap (λ (q : WordValue). Some q.cell) same
    go rest (suc at) true e = rest at r e
    go rest at false e = rest at r e

-- one more of a list, the last one first
taken-more : (cells : List ℕ) (count cell : ℕ) → slice_get cells count ≡ Some cell → reverse (take (count + 1) cells) ≡ cell ∷ reverse (take count cells)
taken-more cells count cell e =
    let within = slice_get_within cells count cell e in
    rw add-one (ap reverse (take-suc cells count 0 within) ∙ reverse-append (take count cells) _ ∙ ap (λ v. v ∷ reverse (take count cells)) (get_or_from_slice_get cells count cell 0 e))

-- a thread that answers a stage, after the mark of its next root
pub answering-mark : (s : Setup) (stage : ℕ) (cells : List ℕ) (roots : List WordValue) (call_phase : CallPhase) (answered marked cell : ℕ) → call_phase ≡ Answering answered marked → MarksNext roots call_phase cell
    → order.Answering answered (marked_of roots (marked + 1)) ≡ phase_after s stage (phase_at cells roots call_phase) (Mark cell)
answering-mark s stage cells roots call_phase answered marked cell e next =
    let here : MarksNext roots (Answering answered marked) cell = subst (λ (v : CallPhase). MarksNext roots v cell) e next in
    let got = non_null-get roots marked here.0 here.1 in
    rw e (ap (order.Answering answered) (taken-more (non_null (cells_of roots)) marked cell (got ∙ ap (λ c. Some c) here.2)))

-- as many roots have cells as are not null
non_null-length : (roots : List WordValue) → length (non_null (cells_of roots)) ≡ length (not_null roots)
non_null-length [] = refl
non_null-length (root ∷ roots) = go (non_null-length roots) (not (root.cell == 0))
  where
    go : length (non_null (cells_of roots)) ≡ length (not_null roots) → (b : Bool)
        → length (if b then root.cell ∷ non_null (cells_of roots) else non_null (cells_of roots)) ≡ length (if b then root ∷ not_null roots else not_null roots)
    go rest true = ap suc rest
    go rest false = rest

-- the root after those that are marked
pub next_root-marked : (roots : List WordValue) (marked : ℕ) → next_root roots (marked_of roots marked) ≡ slice_get (not_null roots) marked
next_root-marked roots marked = go (nat_le marked (length (not_null roots))) refl
  where
    counted : length (marked_of roots marked) ≡ min marked (length (not_null roots))
    counted = length-reverse (take marked (non_null (cells_of roots))) ∙ length-take marked (non_null (cells_of roots)) ∙ ap (min marked) (non_null-length roots)

    go : (b : Bool) → nat_le marked (length (not_null roots)) ≡ b → next_root roots (marked_of roots marked) ≡ slice_get (not_null roots) marked
    go true e =
        let few : marked ≤ length (not_null roots) = grind (arith, nat_tests) in
        let same : length (marked_of roots marked) ≡ marked = omega (arith, counted) in
        ap (slice_get (not_null roots)) same
    go false e =
        let many : length (not_null roots) < marked = grind (arith, nat_tests) in
        let all : length (not_null roots) ≤ length (marked_of roots marked) = omega (arith, counted) in
        slice_get_past (not_null roots) (length (marked_of roots marked)) all ∙ sym (slice_get_past (not_null roots) marked (omega arith))
