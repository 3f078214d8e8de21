-- Entries of a record, one more at a time.
use Rattle.std.proofs.Common.{◌≡◌, ◌≢◌, ◌⊎◌, inl, inr, ℕ, zero, suc, ◌+◌, ◌*◌, ◌/◌, ◌<◌, ◌≤◌, ◌==◌, Bool, true, false, List, [], ◌∷◌, ◌++◌, length, reverse, take, drop, get_or, Option, Some, None, refl, sym, ap, ◌∙◌, subst, if◌then◌else◌, arith}
use Rattle.std.specs.Prelude.{slice_get, slice_set, nat_lt}
use Rattle.std.proofs.lemmas.List.{append_assoc, reverse-append, reverse-reverse, length-append, length-set, length-reverse, drop-drop}
use Rattle.std.proofs.lemmas.Option.{slice_get_within, slice_get-get_or, none-some}
use Rattle.lemmas.specs.Bools.{yes_or_no}
use Rattle.lemmas.specs.Numbers.{test_same, test_no, test_true, test_false, lt_false, lt_true}
use Rattle.lemmas.specs.Lists.{set_is, set_other}
use Rattle.pools.specs.Heap.{Setup}
use Rattle.colours.specs.declared.turn.Turn.{Turn}
use Rattle.colours.specs.Mutator.{IsDisciplined}
use Rattle.colours.specs.Runs.{Event, ByThread, ByCollector, log_of, turns_of, IsRun, KeepsDiscipline, IsHeapRun}
use Rattle.colours.specs.Safety.{KeptIsAlive}
use Rattle.record_text.specs.declared.entry.Entry.{Entry}
use Rattle.record_text.specs.declared.steps.ThreadStep.{ThreadStep}
use Rattle.record_text.specs.declared.steps.Recorded.{Recorded}
use Rattle.record_text.specs.declared.steps.Recorded.TheVariants.{Thread, Root, Collector, Unknown}
use Rattle.record_text.specs.Entries.{entry_at, first_entries, entries_of}
use Rattle.record_text.specs.Recorded.{recorded_of}
use Rattle.record_text.specs.Records.{IsKnown, AreKnown, run_of, with_said, roots_named, roots_after, roots_left, step_with}
use Rattle.conform.specs.declared.rule.Rule.{Rule}
use Rattle.conform.specs.declared.rule.Rule.TheVariants as rule
use Rattle.conform.specs.declared.verdict.Verdict.{Verdict}
use Rattle.conform.specs.declared.verdict.Verdict.TheVariants.{Conforms, Broken}
use Rattle.conform.specs.declared.run_check.RunCheck.{RunCheck}
use Rattle.conform.specs.declared.record_check.RecordCheck.{RecordCheck}
use Rattle.conform.specs.Rules.{GoesOn, Breaks}
use Rattle.conform.specs.Checks.{IsCheckAfter}
use Rattle.conform.specs.Verdicts.{IsConforming, BreaksRule, IsFirstBroken, IsVerdict, IsMet, AreNamed, with_root, with_step, IsReadTo, IsRead, IsCheckedTo, IsChecked}
use Rattle.conform.proofs.RuleLemmas.{broken}

-- ---- the run of entries

pub said_run : (entry : Entry) (entries : List Entry) (said : Recorded) → recorded_of entry ≡ said → run_of (entry ∷ entries) ≡ with_said said entries (run_of entries)
unfolding run_of
said_run entry entries said e = ap (λ x. with_said x entries (run_of entries)) e

no_run : run_of [] ≡ []
unfolding run_of
no_run = refl

with_short : (said : Recorded) (entries : List Entry) (run : List Event) → length (with_said said entries run) ≤ suc (length run)
with_short (Thread t step) entries run = omega arith
with_short (Root t cell) entries run = omega arith
with_short (Collector turn) entries run = omega arith
with_short Unknown entries run = omega arith

pub run_short : (entries : List Entry) → length (run_of entries) ≤ length entries
run_short [] = let e = ap length no_run in omega (arith, e)
run_short (entry ∷ entries) =
    let e = ap length (said_run entry entries (recorded_of entry) refl) in
    let l = with_short (recorded_of entry) entries (run_of entries) in
    let k = run_short entries in
    omega (arith, e, l, k)

turns_short : (run : List Event) → length (turns_of run) ≤ length run
turns_short [] = omega arith
turns_short (ByThread t step ∷ run) = let k = turns_short run in omega (arith, k)
turns_short (ByCollector turn ∷ run) = let k = turns_short run in omega (arith, k)

pub few_turns : (entries : List Entry) → length (turns_of (run_of entries)) ≤ length entries
few_turns entries = let k = turns_short (run_of entries) in let l = run_short entries in omega (arith, k, l)

-- ---- the roots that were named

named_on : (t u : ℕ) (step : ThreadStep) (entry : Entry) (entries : List Entry) → recorded_of entry ≡ Thread t step → roots_named u (entry ∷ entries) ≡ (if t == u then roots_left step (roots_named u entries) else roots_named u entries)
named_on t u step entry entries e = ap (λ x. roots_after u x (roots_named u entries)) e

named_too : (t cell u : ℕ) (entry : Entry) (entries : List Entry) → recorded_of entry ≡ Root t cell → roots_named u (entry ∷ entries) ≡ (if t == u then roots_named u entries ++ cell ∷ [] else roots_named u entries)
named_too t cell u entry entries e = ap (λ x. roots_after u x (roots_named u entries)) e

named_still : (u : ℕ) (turn : Turn) (entry : Entry) (entries : List Entry) → recorded_of entry ≡ Collector turn → roots_named u (entry ∷ entries) ≡ roots_named u entries
named_still u turn entry entries e = ap (λ x. roots_after u x (roots_named u entries)) e

-- what a thread has named, where it is there
module _ (s : Setup) (entries : List Entry) (roots : List (List ℕ)) (are : AreNamed s entries roots) where
  named_at : (t : ℕ) → t < length roots → get_or roots t [] ≡ roots_named t entries
  named_at t lt = are.each t (get_or roots t []) (slice_get-get_or roots t [] lt)

  named_set : (entry : Entry) (t : ℕ) (new : List ℕ) → (t < length roots → new ≡ roots_named t (entry ∷ entries)) → ((u : ℕ) → t ≢ u → roots_named u (entry ∷ entries) ≡ roots_named u entries) → AreNamed s (entry ∷ entries) (slice_set roots t new)
  named_set entry t new here there = record {
    long = length-set roots t new ∙ are.long;
    each = λ u x got. elim (yes_or_no (t == u)) [
      | inl e ↦ let same : t ≡ u = test_true t u e in
          let at : slice_get (slice_set roots t new) t ≡ Some x = subst (λ n. slice_get (slice_set roots t new) n ≡ Some x) (sym same) got in
          let lt = slice_get_within (slice_set roots t new) t x at in
          let l = length-set roots t new in
          sym (set_is roots t new x at) ∙ (here (omega (arith, lt, l)) ∙ ap (λ n. roots_named n (entry ∷ entries)) same)
      | inr e ↦ let ne : t ≢ u = test_false t u e in
          are.each u x (sym (set_other roots t u new (λ y. ne (sym y))) ∙ got) ∙ sym (there u ne)
    ];
  }

  pub named_step : (entry : Entry) (t : ℕ) (step : ThreadStep) → recorded_of entry ≡ Thread t step → AreNamed s (entry ∷ entries) (with_step roots t step)
  named_step entry t step e = named_set entry t (roots_left step (get_or roots t []))
      (λ lt. ap (roots_left step) (named_at t lt) ∙ sym (named_on t t step entry entries e ∙ rw (test_same t) refl))
      (λ u ne. named_on t u step entry entries e ∙ rw (test_no t u ne) refl)

  pub named_root : (entry : Entry) (t cell : ℕ) → recorded_of entry ≡ Root t cell → AreNamed s (entry ∷ entries) (with_root roots t cell)
  named_root entry t cell e = elim (yes_or_no (nat_lt t (length roots))) [
    | inl is ↦ rw is (named_set entry t (get_or roots t [] ++ cell ∷ [])
        (λ lt. ap (λ (l : List ℕ). l ++ cell ∷ []) (named_at t lt) ∙ sym (named_too t cell t entry entries e ∙ rw (test_same t) refl))
        (λ u ne. named_too t cell u entry entries e ∙ rw (test_no t u ne) refl))
    | inr not_there ↦ rw not_there (record {
      long = are.long;
      each = λ u x got. are.each u x got ∙ sym (named_too t cell u entry entries e ∙ rw (test_no t u (λ same. let lt = slice_get_within roots u x got in let ge = lt_false t (length roots) not_there in absurd (omega (arith, lt, ge, same)))) refl);
    })
  ]

  pub named_turn : (entry : Entry) (turn : Turn) → recorded_of entry ≡ Collector turn → AreNamed s (entry ∷ entries) roots
  named_turn entry turn e = record { long = are.long; each = λ u x got. are.each u x got ∙ sym (named_still u turn entry entries e) }

-- ---- one entry more

module _ (s : Setup) (entries : List Entry) (old : RecordCheck) (is : IsReadTo s entries old) (entry : Entry) where
  read_as : (said : Recorded) → recorded_of entry ≡ said → IsKnown said → (new : RecordCheck) → IsCheckAfter s (with_said said entries (run_of entries)) new.run → AreNamed s (entry ∷ entries) new.roots.items → new.steps ≡ length (with_said said entries (run_of entries)) → IsReadTo s (entry ∷ entries) new
  read_as said e known new check named steps = record {
    known = (is.known, subst IsKnown (sym e) known);
    run = subst (λ (r : List Event). IsCheckAfter s r new.run) (sym (said_run entry entries said e)) check;
    roots = named;
    steps = steps ∙ sym (ap length (said_run entry entries said e));
  }

  pub read_thread : (t : ℕ) (step : ThreadStep) (roots : List ℕ) → recorded_of entry ≡ Thread t step → roots ≡ roots_named t entries → (new : RecordCheck) → IsCheckAfter s (ByThread t (step_with roots step) ∷ run_of entries) new.run
      → new.roots.items ≡ with_step old.roots.items t step → new.steps ≡ old.steps + 1 → IsReadTo s (entry ∷ entries) new
  read_thread t step roots e f new check named steps = read_as (Thread t step) e tt new
      (subst (λ (l : List ℕ). IsCheckAfter s (ByThread t (step_with l step) ∷ run_of entries) new.run) f check)
      (subst (λ (l : List (List ℕ)). AreNamed s (entry ∷ entries) l) (sym named) (named_step s entries old.roots.items is.roots entry t step e))
      (let k = is.steps in omega (arith, k, steps))

  pub read_root : (t cell : ℕ) → recorded_of entry ≡ Root t cell → (new : RecordCheck) → new.run ≡ old.run → new.roots.items ≡ with_root old.roots.items t cell → new.steps ≡ old.steps → IsReadTo s (entry ∷ entries) new
  read_root t cell e new same named steps = read_as (Root t cell) e tt new
      (subst (λ (r : RunCheck). IsCheckAfter s (run_of entries) r) (sym same) is.run)
      (subst (λ (l : List (List ℕ)). AreNamed s (entry ∷ entries) l) (sym named) (named_root s entries old.roots.items is.roots entry t cell e))
      (steps ∙ is.steps)

  pub read_turn : (turn : Turn) → recorded_of entry ≡ Collector turn → (new : RecordCheck) → IsCheckAfter s (ByCollector turn ∷ run_of entries) new.run → new.roots.items ≡ old.roots.items → new.steps ≡ old.steps + 1 → IsReadTo s (entry ∷ entries) new
  read_turn turn e new check named steps = read_as (Collector turn) e tt new check
      (subst (λ (l : List (List ℕ)). AreNamed s (entry ∷ entries) l) (sym named) (named_turn s entries old.roots.items is.roots entry turn e))
      (let k = is.steps in omega (arith, k, steps))

-- ---- where a step breaks a rule

keeps : (s : Setup) (run : List Event) (event : Event) → IsHeapRun s (event ∷ run) → GoesOn s run event
keeps s run (ByThread t step) r = (r.run_of.1, r.discipline.1)
keeps s run (ByCollector turn) r = (r.run_of.1, tt)

refused : (s : Setup) (entries : List Entry) (said : Recorded) (r : Rule) → BreaksRule s entries said r → IsKnown said → IsHeapRun s (with_said said entries (run_of entries)) → ⊥
refused s entries (Thread t step) r b known h = broken r s (run_of entries) (ByThread t (step_with (roots_named t entries) step)) b (keeps s (run_of entries) (ByThread t (step_with (roots_named t entries) step)) h)
refused s entries (Collector turn) r b known h = broken r s (run_of entries) (ByCollector turn) b (keeps s (run_of entries) (ByCollector turn) h)
refused s entries (Root t cell) r b known h = b
refused s entries Unknown r b known h = known

cons_end : (entry : Entry) (entries : List Entry) → reverse (entry ∷ entries) ≡ reverse entries ++ entry ∷ []
cons_end entry entries = reverse-append (entry ∷ []) entries

pub met_here : (s : Setup) (entries : List Entry) (old : RecordCheck) (entry : Entry) (r : Rule) → IsReadTo s entries old → BreaksRule s entries (recorded_of entry) r → IsMet s (reverse (entry ∷ entries)) (Broken (old.steps + 1) entry.actor r)
met_here s entries old entry r is b = record {
  before = entries;
  entry = entry;
  after = [];
  all = cons_end entry entries;
  conforming = record { known = is.known; is_run = is.run.is_run };
  not_with = λ c. refused s entries (recorded_of entry) r b c.known.1 (subst (IsHeapRun s) (said_run entry entries (recorded_of entry) refl) c.is_run);
  number = (let k = is.steps in omega (arith, k));
  actor = refl;
  breaks = b;
}

pub met_still : (s : Setup) (entries : List Entry) (entry : Entry) (told : Verdict) → IsMet s (reverse entries) told → IsMet s (reverse (entry ∷ entries)) told
met_still s entries entry (Conforms steps) m = absurd m
met_still s entries entry (Broken step actor r) m = record {
  before = m.before;
  entry = m.entry;
  after = m.after ++ entry ∷ [];
  all = cons_end entry entries ∙ (ap (λ (l : List Entry). l ++ entry ∷ []) m.all ∙ append_assoc (reverse m.before) (m.entry ∷ m.after) (entry ∷ []));
  conforming = m.conforming;
  not_with = m.not_with;
  number = m.number;
  actor = m.actor;
  breaks = m.breaks;
}

-- ---- what is told in the end

pub met_told : (s : Setup) (entries : List Entry) (told : Verdict) → IsMet s entries told → IsVerdict s entries told
met_told s entries (Conforms steps) m = absurd m
met_told s entries (Broken step actor r) m = m

front : (s : Setup) (after before : List Event) → IsHeapRun s (after ++ before) → IsHeapRun s before
front s [] before h = h
front s (ByThread t step ∷ after) before h = front s after before (record { setup = h.setup; run_of = h.run_of.0; discipline = h.discipline.0 })
front s (ByCollector turn ∷ after) before h = front s after before (record { setup = h.setup; run_of = h.run_of.0; discipline = h.discipline })

pub read_told : (s : Setup) (entries : List Entry) (v : RecordCheck) → ((run : List Event) → IsHeapRun s run → KeptIsAlive s run) → IsReadTo s entries v → IsVerdict s (reverse entries) (Conforms v.steps)
read_told s entries v law is = subst (λ (l : List Entry). IsConforming s l × (v.steps ≡ length (run_of l)) × ((after before : List Event) → run_of l ≡ after ++ before → KeptIsAlive s before)) (sym (reverse-reverse entries))
    (record { known = is.known; is_run = is.run.is_run }, is.steps, λ after before e. law before (front s after before (subst (IsHeapRun s) e is.run.is_run)))

-- ---- before the first entry

pub none_named : (s : Setup) (count : ℕ) (roots : List (List ℕ)) → s.threads ≡ count → length roots ≡ count → ((t : ℕ) (x : List ℕ) → slice_get roots t ≡ Some x → x ≡ []) → AreNamed s [] roots
none_named s count roots e l each = record { long = l ∙ sym e; each = each }

pub read_none : (s : Setup) (v : RecordCheck) → IsCheckAfter s [] v.run → AreNamed s [] v.roots.items → v.steps ≡ 0 → IsReadTo s [] v
read_none s v check named steps = record {
  known = tt;
  run = subst (λ (r : List Event). IsCheckAfter s r v.run) (sym no_run) check;
  roots = named;
  steps = steps ∙ sym (ap length no_run);
}

-- ---- the entries of bytes

more_entries : (n : ℕ) (bytes : List ℕ) → first_entries (suc n) bytes ≡ first_entries n bytes ++ entry_at (drop (n * 16) bytes) ∷ []
unfolding first_entries
more_entries zero bytes = refl
more_entries (suc n) bytes =
    let past : 16 + n * 16 ≡ suc n * 16 = omega arith in
    ap (λ (l : List Entry). entry_at bytes ∷ l) (more_entries n (drop 16 bytes) ∙ ap (λ (b : List ℕ). first_entries n (drop 16 bytes) ++ entry_at b ∷ []) (drop-drop (n * 16) 16 bytes))
    ∙ ap (λ (k : ℕ). entry_at bytes ∷ (first_entries n (drop 16 bytes) ++ entry_at (drop k bytes) ∷ [])) past

no_entries : (bytes : List ℕ) → first_entries 0 bytes ≡ []
unfolding first_entries
no_entries bytes = refl

pub entries_long : (n : ℕ) (bytes : List ℕ) → length (first_entries n bytes) ≡ n
unfolding first_entries
entries_long zero bytes = refl
entries_long (suc n) bytes = ap suc (entries_long n (drop 16 bytes))

pub back_none : (bytes : List ℕ) → reverse (first_entries 0 bytes) ≡ []
back_none bytes = ap reverse (no_entries bytes)

pub back_more : (n : ℕ) (bytes : List ℕ) → reverse (first_entries (n + 1) bytes) ≡ entry_at (drop (n * 16) bytes) ∷ reverse (first_entries n bytes)
back_more n bytes = let next : n + 1 ≡ suc n = omega arith in ap (λ (k : ℕ). reverse (first_entries k bytes)) next ∙ ap reverse (more_entries n bytes) ∙ reverse-append (first_entries n bytes) (entry_at (drop (n * 16) bytes) ∷ [])
