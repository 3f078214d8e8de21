-- A run with one more step that its actor may make is a run, and the table that the step leaves meets the rule.
use Rattle.std.proofs.Common.{◌≡◌, ◌≢◌, ℕ, ◌<◌, ◌==◌, Bool, true, false, List, [], ◌∷◌, length, get_or, set, max, if◌then◌else◌, refl, sym, ap, subst, ◌∙◌, ⊎_elim, arith, true≢false}
use Rattle.std.proofs.lemmas.List.{get_or-set_same, get_or-set_other}
use Rattle.std.proofs.Math.ListN.{length-set}
use mathlib.Core.Option.{some}
use prog.Atomic.{either}
use lib.ListN.{get_elem?}
use Rattle.atomic_table.specs.Table.{State, Me, Allows, stepped, keeps}
use Rattle.atomic_table.proofs.Lists.{at_set}
use Rattle.pools.specs.Heap.{Setup}
use Rattle.colours.specs.declared.place.Place.{Place}
use Rattle.colours.specs.declared.ask.Ask.{Ask}
use Rattle.colours.specs.declared.ask.Ask.TheVariants.{Load, Store, FetchMax, CompareExchange}
use Rattle.colours.specs.Colours.{cycle_of}
use Rattle.colours.specs.Steps.{Step, ask_of, turn_of, place_of, left_by, same_place}
use Rattle.colours.specs.declared.turn.Turn.{Turn}
use Rattle.colours.specs.Mutator.{stage_of, phase_of, MayFollow, IsDisciplined}
use Rattle.colours.specs.Collector.{posted_of, Collects}
use Rattle.colours.specs.Runs.{Event, ByThread, ByCollector, log_of, ask_in, word_after, MayHappen, IsHeapRun}
use Rattle.lemmas.specs.Bools.{yes_or_no}
use Rattle.heap_rule.specs.View.{Actor, Share, OfThread, OfCollector, View, IsSeatOf, actor_of, logged, first_share, share_of}
use Rattle.heap_rule.specs.Rule.{index, HasPlace, IsShareIn, AreSharesIn, Knows, Ruled, ask_after, MayMake, SaysFound, Happens, IsStepBy, told, MayStep}
use Rattle.heap_rule.specs.Places.{within, same_self, same_true, one_place}
use Rattle.heap_rule.specs.Shares.{grows, knows_else, same_actor}

-- the operation of the event in the run is the one after its actor's share
pub ask_is : (s : Setup) (run : List Event) (share : Share) (event : Event) → MayMake s share event → IsShareIn run share → ask_in run event ≡ ask_after share event
ask_is s run (OfThread t log) (ByThread u step) m h = ap (λ (v : ℕ). ask_of v (stage_of (log_of v run)) step) m.0 ∙ ap (λ (l : List Step). ask_of t (stage_of l) step) h
ask_is s run (OfThread t log) (ByCollector turn) m h = absurd m
ask_is s run (OfCollector log) (ByThread u step) m h = absurd m
ask_is s run (OfCollector log) (ByCollector turn) m h = ap (λ (l : List Turn). turn_of (cycle_of (posted_of l)) turn) h

-- what the event says of the number is true of its word in the run
found_at : (s : Setup) (run : List Event) (event : Event) (ask : Ask) (n : ℕ) → ask_in run event ≡ ask → word_after s run (place_of ask) ≡ n → SaysFound event n → SaysFound event (word_after s run (place_of (ask_in run event)))
found_at s run event ask n e w f = subst (SaysFound event) (sym w ∙ ap (λ (a : Ask). word_after s run (place_of a)) (sym e)) f

-- the run with the step is a run of the heap
pub extends : (s : Setup) (run : List Event) (share : Share) (event : Event) (ask : Ask) (n : ℕ) → IsHeapRun s run → IsShareIn run share → word_after s run (place_of ask) ≡ n
    → IsStepBy s share event ask n → IsHeapRun s (event ∷ run)
extends s run (OfThread t log) (ByThread u step) ask n r h w k = record {
  setup = r.setup;
  run_of = (r.run_of, happens);
  discipline = (r.discipline, subst (λ (v : ℕ). IsDisciplined s (log_of v run) step) (sym k.may.0) (subst (λ (l : List Step). IsDisciplined s l step) (sym h) k.may.3));
} where
  happens : MayHappen s run (ByThread u step)
  happens = (
    subst (λ (v : ℕ). v < s.threads) (sym k.may.0) k.may.1,
    subst (λ (v : ℕ). MayFollow s (stage_of (log_of v run)) (phase_of s v (log_of v run)) step) (sym k.may.0) (subst (λ (l : List Step). MayFollow s (stage_of l) (phase_of s t l) step) (sym h) k.may.2),
    found_at s run (ByThread u step) ask n (ask_is s run (OfThread t log) (ByThread u step) k.may h ∙ k.operation) w k.says,
  )
extends s run (OfThread t log) (ByCollector turn) ask n r h w k = absurd k.may
extends s run (OfCollector log) (ByThread u step) ask n r h w k = absurd k.may
extends s run (OfCollector log) (ByCollector turn) ask n r h w k = record {
  setup = r.setup;
  run_of = (r.run_of, ((k.may.0, subst (λ (l : List Turn). Collects s (turn ∷ l) k.may.0) (sym h) k.may.1), found_at s run (ByCollector turn) ask n (ask_is s run (OfCollector log) (ByCollector turn) k.may h ∙ k.operation) w k.says));
  discipline = r.discipline;
}

-- an operation changes no other word than its own
left_else : (ask : Ask) (p : Place) (m : ℕ) → same_place (place_of ask) p ≡ false → left_by ask p m ≡ m
left_else (Load q) p m e = refl
left_else (Store q v) p m e = rw e refl
left_else (FetchMax q v) p m e = rw e refl
left_else (CompareExchange q old new) p m e = rw e refl

-- a word after the step is what the operation leaves in it
pub after_step : (s : Setup) (run : List Event) (event : Event) (ask : Ask) (p : Place) → ask_in run event ≡ ask → word_after s (event ∷ run) p ≡ left_by ask p (word_after s run p)
unfolding word_after
after_step s run event ask p e = ap (λ (a : Ask). left_by a p (word_after s run p)) e

module _ (s : Setup) (share : Share) (event : Event) (ask : Ask) where
  -- what the seat of the step knows is true of the longer run
  knows_own : (run : List Event) (owner : Actor → ℕ) (id : ℕ) (v : View) → IsSeatOf share v → MayMake s share event → Knows run owner id v → Knows (event ∷ run) owner id (logged v event)
  knows_own run owner id v is m k = record {
    undealt = λ t low high. let d = is.dealt in absurd (omega arith);
    shares = subst (λ (xs : List Share). AreSharesIn (event ∷ run) owner id (logged (record { setup = v.setup; next = v.next; until = v.until; shares = xs }) event).shares) (sym is.shares) ((ap owner (same_actor event share) ∙ mine.0.0, grows s run share event m mine.0.1), tt);
  } where
    mine : AreSharesIn run owner id (share ∷ [])
    mine = subst (AreSharesIn run owner id) is.shares k.shares

  -- the table that the step leaves meets the rule
  pub keeps_rule : (table : State (Unit {0}) View) (id : ℕ) (v : View) (c : List (ℕ × Unit {0})) → HasPlace s (place_of ask) → IsSeatOf share v → IsStepBy s share event ask (get_or table.words (index s (place_of ask)) 0)
      → Ruled s table → get_elem? table.views id ≡ some v
      → Ruled s (stepped table (index s (place_of ask)) (left_by ask (place_of ask) (get_or table.words (index s (place_of ask)) 0)) id c (logged v event) keeps)
  keeps_rule table id v c here is step h at = record {
    run = event ∷ h.run;
    owner = h.owner;
    is_run = extends s h.run share event ask n h.is_run mine.0.1 (sym found) step;
    sized = length-set table.words at_word _ ∙ h.sized;
    words = λ q ok. ⊎_elim (same q ok) (other q ok) (yes_or_no (same_place p q));
    views = λ j w there. ⊎_elim
        (λ (t : (j ≡ id) × (logged v event ≡ w)). subst (λ (x : ℕ). Knows (event ∷ h.run) h.owner x w) (sym t.0) (subst (Knows (event ∷ h.run) h.owner id) t.1 (knows_own h.run h.owner id v is step.may mine_all)))
        (λ (t : (j ≢ id) × (get_elem? table.views j ≡ some w)). knows_else s h.run h.owner share event step.may j (λ (e : j ≡ h.owner (actor_of share)). t.0 (e ∙ mine.0.0)) w (h.views j w t.1))
        (at_set table.views id j (logged v event) w there);
  } where
    p : Place
    p = place_of ask

    at_word : ℕ
    at_word = index s p

    n : ℕ
    n = get_or table.words at_word 0

    found : n ≡ word_after s h.run p
    found = h.words p here

    mine_all : Knows h.run h.owner id v
    mine_all = h.views id v at

    mine : AreSharesIn h.run h.owner id (share ∷ [])
    mine = subst (AreSharesIn h.run h.owner id) is.shares mine_all.shares

    operation : ask_in h.run event ≡ ask
    operation = ask_is s h.run share event step.may mine.0.1 ∙ step.operation

    wide : at_word < length table.words
    wide = subst (λ (x : ℕ). at_word < x) (sym h.sized) (within s p here)

    same : (q : Place) → HasPlace s q → same_place p q ≡ true → get_or (set table.words at_word (left_by ask p n)) (index s q) 0 ≡ word_after s (event ∷ h.run) q
    same q ok e = subst (λ (x : Place). get_or (set table.words at_word (left_by ask p n)) (index s x) 0 ≡ word_after s (event ∷ h.run) x) (same_true p q e)
        (get_or-set_same table.words at_word (left_by ask p n) 0 wide ∙ (ap (λ (x : ℕ). left_by ask p x) found ∙ sym (after_step s h.run event ask p operation)))

    other : (q : Place) → HasPlace s q → same_place p q ≡ false → get_or (set table.words at_word (left_by ask p n)) (index s q) 0 ≡ word_after s (event ∷ h.run) q
    other q ok e = get_or-set_other table.words at_word (index s q) (left_by ask p n) 0 (λ (x : index s q ≡ at_word). true≢false (sym (subst (λ (w : Place). same_place p w ≡ true) (one_place s p q here ok (sym x)) (same_self p)) ∙ e))
        ∙ (h.words q ok ∙ sym (after_step s h.run event ask q operation ∙ left_else ask q (word_after s h.run q) e))

-- a word after an operation on it
abbrev pub becomes : Ask → ℕ → ℕ
becomes (Load q) n = n
becomes (Store q v) n = v
becomes (FetchMax q v) n = max n v
becomes (CompareExchange q old new) n = either (n == old) new n

-- a choice, in the words of the table
either_if : (b : Bool) (x y : ℕ) → either b x y ≡ (if b then x else y)
either_if true x y = refl
either_if false x y = refl

-- it is what the operation leaves
becomes_left : (ask : Ask) (n : ℕ) → becomes ask n ≡ left_by ask (place_of ask) n
becomes_left (Load q) n = refl
becomes_left (Store q v) n = rw (same_self q) refl
becomes_left (FetchMax q v) n = rw (same_self q) refl
becomes_left (CompareExchange q old new) n = rw (same_self q) (either_if (n == old) new n)

-- a seat of one actor may step by the operation, and then its log has the step
module _ (s : Setup) (share : Share) (me : Me (Unit {0}) View) (event : ℕ → Event) (ask : Ask) (is : IsSeatOf share me.0) (here : HasPlace s (place_of ask)) (may : MayStep s share event ask) (labelled : me.0.setup ≡ s) where
  -- the seat has logged the step, and it was a step of a run
  abbrev pub Then : ℕ → Me (Unit {0}) View → Type 0
  Then n after = (after ≡ (logged me.0 (event n), me.1)) × Happens me.0.setup (share_of me.0) (event n)

  allows_here : (slots id : ℕ) → Allows (Ruled s) slots id me (index s (place_of ask)) (becomes ask) (λ n. Then (told ask n))
  allows_here slots id table h wide at fits =
      (logged me.0 made, keeps, tt, subst (λ (x : ℕ). Ruled s (stepped table (index s (place_of ask)) x id me.1 (logged me.0 made) keeps)) (sym (becomes_left ask n)) (keeps_rule s share made ask table id me.0 me.1 here is step h at), (refl, happens))
    where
      n : ℕ
      n = get_or table.words (index s (place_of ask)) 0

      made : Event
      made = event (told ask n)

      found : n ≡ word_after s h.run (place_of ask)
      found = h.words (place_of ask) here

      mine : AreSharesIn h.run h.owner id (share ∷ [])
      mine = subst (AreSharesIn h.run h.owner id) is.shares (h.views id me.0 at).shares

      step : IsStepBy s share made ask n
      step = may n fits (record { run = h.run; is_run = h.is_run; mine = mine.0.1; holds = sym found })

      happens : Happens me.0.setup (share_of me.0) made
      happens = subst (λ (k : Setup). Happens k (share_of me.0) made) (sym labelled) (subst (λ (xs : List Share). Happens s (first_share xs) made) (sym is.shares) record { run = h.run; is_run = extends s h.run share made ask n h.is_run mine.0.1 (sym found) step; mine = mine.0.1 })

  pub allows : (key : Setup) (slots id i : ℕ) → key ≡ s → i ≡ index s (place_of ask) → Allows (Ruled key) slots id me i (becomes ask) (λ n. Then (told ask n))
  allows key slots id i ke ie = subst (λ (k : Setup). Allows (Ruled k) slots id me i (becomes ask) (λ n. Then (told ask n))) (sym ke)
      (subst (λ (j : ℕ). Allows (Ruled s) slots id me j (becomes ask) (λ n. Then (told ask n))) (sym ie) (allows_here slots id))
