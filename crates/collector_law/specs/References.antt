-- All references that a thread holds to one cell have the cell's birth.
use Rattle.std.proofs.Common.{◌≡◌, ◌≢◌, inl, inr, ℕ, ◌==◌, ◌&&◌, not, Bool, true, false, List, [], ◌∷◌, refl, sym, ◌∙◌, subst, if◌then◌else◌}
use Rattle.std.proofs.lemmas.Bool.{cases_eq}
use Rattle.lemmas.specs.Numbers.{test_true, test_yes, test_no, not_null}
use Rattle.lemmas.specs.Bools.{and_parts}
use Rattle.colours.specs.declared.place.Place.TheVariants.{Colour, Word}
use Rattle.pools.specs.Heap.{Setup, kind_of}
use Rattle.pools.specs.Layouts.{is_reference_kind}
use Rattle.colours.specs.Steps.{Step, ReadWord, ReadOldValue, Claim}
use Rattle.colours.specs.Mutator.{MayUse, IsDisciplined, Held, gains, Keeps}
use Rattle.colours.specs.Runs.{Event, ByThread, ByCollector, log_of, word_after, births_after, given, MayHappen, IsHeapRun, Kept, globals, held, further, IsAlive}
use Rattle.colours.specs.Frames.{won_blue}
use Rattle.collector_law.specs.Laws.{HoldsReference}
use Rattle.collector_law.specs.Events.{log_here, log_other}
use Rattle.collector_law.specs.Safeties.{kept_alive}

-- what a reader finds in a word of a cell that it may use is alive
found : (s : Setup) (run : List Event) → IsHeapRun s run → (t cell word value c : ℕ) → MayUse s (log_of t run) cell → word_after s run (Word cell word) ≡ value
    → ((is_reference_kind (kind_of s cell word) && (c == value)) && not (c == 0)) ≡ true → (births_after s run).of_cell c ≡ (births_after s run).in_word cell word
found s run h t cell word value c used is g =
    let p = and_parts (is_reference_kind (kind_of s cell word) && (c == value)) (not (c == 0)) g in
    let q = and_parts (is_reference_kind (kind_of s cell word)) (c == value) p.0 in
    let same : word_after s run (Word cell word) ≡ c = is ∙ sym (test_true c value q.1) in
    let some : c ≢ 0 = not_null c p.1 in
    (subst (λ (d : ℕ). IsAlive s run d ((births_after s run).in_word cell word)) same (kept_alive s run h (word_after s run (Word cell word)) ((births_after s run).in_word cell word) (step used q.0 (λ z. some (sym same ∙ z))))).same_birth
  where
    step : MayUse s (log_of t run) cell → is_reference_kind (kind_of s cell word) ≡ true → word_after s run (Word cell word) ≢ 0 → Kept s run (word_after s run (Word cell word)) ((births_after s run).in_word cell word)
    step (inl e) ref n = further cell 0 word (subst (λ (d : ℕ). Kept s run d 0) (sym e) globals) ref n
    step (inr x) ref n = further cell ((births_after s run).with_thread t cell) word (held t cell x) ref n

-- a cell that is alive is given by its birth
given_birth : (s : Setup) (run : List Event) → IsHeapRun s run → (t : ℕ) (step : Step) (c : ℕ) → MayHappen s run (ByThread t step) → IsDisciplined s (log_of t run) step → gains s step c ≡ true
    → word_after s run (Colour c) ≢ 0 → (births_after s run).of_cell c ≡ given (births_after s run) step c
given_birth s run h t (ReadWord cell word value) c m d g n = found s run h t cell word value c d.0 m.2 g
given_birth s run h t (ReadOldValue cell word value) c m d g n = found s run h t cell word value c d.0 m.2 g
given_birth s run h t (Claim cell won) c m d g n = absurd (n (won_blue s run t (Claim cell won) c m g))
given_birth s run h t _ c m d g n = absurd cc

-- a reference that is held is to a held cell, by the birth that the thread got last
abbrev IsLast : Setup → List Event → (t c b : ℕ) → Type 0
IsLast s run t c b = Held s (log_of t run) c × ((births_after s run).with_thread t c ≡ b)

-- what the step gives is held by the birth got last
gained_last : (s : Setup) (run : List Event) (t : ℕ) (step : Step) (c b : ℕ) → gains s step c ≡ true → b ≡ given (births_after s run) step c → IsLast s (ByThread t step ∷ run) t c b
unfolding births_after
gained_last s run t step c b g e = (subst (λ (l : List Step). Held s l c) (sym (log_here t step run t refl)) (inl g), rw (test_yes t t refl, g) (sym e))

-- what was held by the birth got last, and is kept, is held so
kept_last : (s : Setup) (run : List Event) → IsHeapRun s run → (u : ℕ) (step : Step) (t c b : ℕ) → MayHappen s run (ByThread u step) → IsDisciplined s (log_of u run) step → (u ≡ t → Keeps step c) → IsLast s run t c b → IsLast s (ByThread u step ∷ run) t c b
unfolding births_after
kept_last s run h u step t c b m d keeps last = elim (cases_eq u t) [
  | inl e ↦ (subst (λ (l : List Step). Held s l c) (sym (log_here u step run t (sym e))) (inr (keeps e, subst (λ (v : ℕ). Held s (log_of v run) c) (sym e) last.0)), rw (test_yes u t e) (go (gains s step c) refl))
  | inr n ↦ (subst (λ (l : List Step). Held s l c) (sym (log_other u step run t (λ z. n (sym z)))) last.0, rw (test_no u t n) last.1)
]
  where
    alive : IsAlive s run c ((births_after s run).with_thread t c)
    alive = kept_alive s run h c ((births_after s run).with_thread t c) (held t c last.0)

    go : (g : Bool) → gains s step c ≡ g → (if g then given (births_after s run) step c else (births_after s run).with_thread t c) ≡ b
    go true e = sym (given_birth s run h u step c m d e alive.not_blue) ∙ alive.same_birth ∙ last.1
    go false e = last.1

-- each reference that is held is of the birth got last
is_last : (s : Setup) (run : List Event) → IsHeapRun s run → (t c b : ℕ) → HoldsReference s run t c b → IsLast s run t c b
unfolding births_after
is_last s [] h t c b x = absurd x
is_last s (ByThread u step ∷ run) h t c b (inl x) = subst (λ (v : ℕ). IsLast s (ByThread u step ∷ run) v c b) x.0 (gained_last s run u step c b x.1 x.2)
is_last s (ByThread u step ∷ run) h t c b (inr x) =
    let before : IsHeapRun s run = record { setup = h.setup; run_of = h.run_of.0; discipline = h.discipline.0 } in
    kept_last s run before u step t c b h.run_of.1 h.discipline.1 x.0 (is_last s run before t c b x.1)
is_last s (ByCollector turn ∷ run) h t c b x = is_last s run (record { setup = h.setup; run_of = h.run_of.0; discipline = h.discipline }) t c b x

-- each reference that a thread holds is alive
pub references_alive : (s : Setup) (run : List Event) → IsHeapRun s run → (t c b : ℕ) → HoldsReference s run t c b → IsAlive s run c b
references_alive s run h t c b x = let l = is_last s run h t c b x in subst (λ (d : ℕ). IsAlive s run c d) l.1 (kept_alive s run h c ((births_after s run).with_thread t c) (held t c l.0))
