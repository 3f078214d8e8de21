-- The words after a step are those that its operation leaves.
use Rattle.std.proofs.Common.{◌≡◌, ℕ, ◌<◌, ◌==◌, Bool, true, false, List, [], ◌∷◌, length, get_or, max, if◌then◌else◌, inl, inr, refl, sym, ap, subst, ◌∙◌, true≢false}
use Rattle.std.specs.Prelude.{slice_set}
use Rattle.std.proofs.lemmas.List.{get_or-set_same, get_or-set_other}
use Rattle.lemmas.specs.Bools.{yes_or_no}
use Rattle.pools.specs.Heap.{Setup}
use Rattle.colours.specs.declared.place.Place.{Place}
use Rattle.colours.specs.declared.ask.Ask.{Ask}
use Rattle.colours.specs.declared.ask.Ask.TheVariants.{Load, Store, FetchMax, CompareExchange}
use Rattle.colours.specs.Steps.{place_of, left_by, same_place}
use Rattle.colours.specs.Runs.{Event, ask_in, word_after, word_at_start}
use Rattle.heap_rule.specs.Rule.{index, size, HasPlace}
use Rattle.heap_rule.specs.Places.{within, same_self, same_true, one_place}
use Rattle.heap_rule.specs.Stepping.{after_step}
use Rattle.run_words.specs.Words.{Words, AreAfter, Extends, performed, word_in, left_in}

-- an operation changes no other word than its own
left_else : (ask : Ask) (p : Place) (m : ℕ) → same_place (place_of ask) p ≡ false → left_by ask p m ≡ m
left_else (Load q) p m e = refl
left_else (Store q v) p m e = rw e refl
left_else (FetchMax q v) p m e = rw e refl
left_else (CompareExchange q old new) p m e = rw e refl

left_here : (ask : Ask) (m : ℕ) → left_in ask m ≡ left_by ask (place_of ask) m
left_here (Load q) m = refl
left_here (Store q v) m = rw (same_self q) refl
left_here (FetchMax q v) m = rw (same_self q) refl
left_here (CompareExchange q old new) m = rw (same_self q) refl

pub extends : (ask : Ask) (old new : Words) → length old.table ≡ size old.heap → HasPlace old.heap (place_of ask) → new ≡ performed ask old → Extends ask old new
extends ask old new sized here is s run event are operation = subst (AreAfter s (event ∷ run)) (sym is) (record { heap = are.heap; words = λ q ok. elim (yes_or_no (same_place p q)) [ inl e ↦ same q ok e | inr e ↦ other q ok e ] })
  where
    p : Place
    p = place_of ask

    h : Setup
    h = old.heap

    here_s : HasPlace s p
    here_s = subst (λ x. HasPlace x p) are.heap here

    wide : index h p < length old.table
    wide = subst (λ n. index h p < n) (sym sized) (within h p here)

    after : ℕ
    after = left_in ask (word_in old p)

    same : (q : Place) → HasPlace s q → same_place p q ≡ true → get_or (slice_set old.table (index h p) after) (index h q) 0 ≡ word_after s (event ∷ run) q
    same q ok e = subst (λ x. get_or (slice_set old.table (index h p) after) (index h x) 0 ≡ word_after s (event ∷ run) x) (same_true p q e)
        (get_or-set_same old.table (index h p) after 0 wide ∙ (ap (left_in ask) (are.words p here_s) ∙ (left_here ask (word_after s run p) ∙ sym (after_step s run event ask p operation))))

    other : (q : Place) → HasPlace s q → same_place p q ≡ false → get_or (slice_set old.table (index h p) after) (index h q) 0 ≡ word_after s (event ∷ run) q
    other q ok e = get_or-set_other old.table (index h p) (index h q) after 0 (λ (x : index h q ≡ index h p). true≢false (sym (subst (λ w. same_place p w ≡ true) (one_place h p q here (subst (λ y. HasPlace y q) (sym are.heap) ok) (sym x)) (same_self p)) ∙ e))
        ∙ (are.words q ok ∙ sym (after_step s run event ask q operation ∙ left_else ask q (word_after s run q) e))

-- the words before the first step
pub at_start : (s : Setup) (p : Place) → word_at_start s p ≡ word_after s [] p
unfolding word_after
at_start s p = refl
