-- What is printed of a trace is a text of it.
use Rattle.std.proofs.Common.{◌≡◌, ℕ, zero, suc, ◌+◌, ◌<◌, ◌≤◌, ◌^◌, Bool, true, false, not, if◌then◌else◌, List, [], ◌∷◌, ◌++◌, length, map, Option, Some, None, refl, ap, sym, subst, ◌∙◌, arith, append_assoc, get_or}
use Rattle.std.specs.Prelude.{codes, is_none, replicate, slice_get, sum, nat_le, ◌==◌}
use Rattle.std.specs.List.{AllByRecursion, flat_map, list_any}
use Rattle.std.specs.Str.{bytes_eq}
use Rattle.std.proofs.lemmas.Bool.{eqb-true}
use Rattle.std.proofs.lemmas.Bool.Decides.{nat_tests}
use Rattle.std.proofs.lemmas.List.FromFn.{fill_by_all}
use Rattle.lemmas.specs.Bools.{or_neither}
use Rattle.layout.specs.Layouts.{LaidOut}
use Rattle.pools.specs.Heap.{cells_in}
use Rattle.ir_tokens.specs.Bytes.{Text}
use Rattle.name_text.specs.Reader.{recorded}
use Rattle.trace_text.specs.Input.{Input, emptied}
use Rattle.trace_text.specs.Arrivals.{is_late, start_word, arrival_of_word, past_starts, version_of}
use Rattle.trace_text.specs.Text.{count_or_none, counts_of, if_fitting, pools_of, finished_by, finished, heading, pools, past_pools, starts, setup, all_steps, steps, file, IsTrace}
use Rattle.trace_text.specs.Print.{pools_text, start_text, heading_text, trace_shown}
use Rattle.trace_text.specs.Print as print
use Rattle.trace_text.specs.Traces.{IsStartOf, IsTraceOf, step_sum}
use Rattle.trace_text.specs.declared.trace.Arrival.{Arrival}
use Rattle.trace_text.specs.declared.trace.Arrival.TheVariants.{AtStart, Late}
use Rattle.trace_text.specs.declared.trace.Start.{Start}
use Rattle.trace_text.specs.declared.trace.Steps.{Steps}
use Rattle.trace_text.specs.declared.trace.Trace.{Trace}
use Rattle.trace_text.specs.declared.versions.Version.{Version}
use Rattle.trace_text.specs.declared.versions.Version.TheVariants.{One, Two}
use Rattle.trace_text.proofs.Named.{AreRead}
use Rattle.trace_text.proofs.Seams.{inner_word}
use Rattle.trace_text.proofs.Reading.{at, looked, IsFresh, word_is, expected, version_says, begins_so, line_ended}
use Rattle.trace_text.proofs.Lines.{Allows}
use Rattle.trace_text.proofs.Lists.{start_words, HasNoValues, listed_count, no_counts, pools_from, fresh_pools, pools_listed, pools_are, fresh_starts, starts_listed, fresh_steps, steps_listed}

-- ---- the pools that are listed

count_by : (count : ℕ) (t : Bool) → count == 0 ≡ t → count ≡ count_or_none (Some (if t then None else Some count))
count_by count true e = eqb-true count 0 e
count_by count false e = refl

count_is : (counts : List ℕ) (layout : ℕ) → get_or counts layout 0 ≡ count_or_none (slice_get (map listed_count counts) layout)
count_is [] layout = refl
count_is (count ∷ counts) zero = count_by count (count == 0) refl
count_is (count ∷ counts) (suc layout) = count_is counts layout

counts_are : (counts : List ℕ) (layouts : ℕ) → length counts ≡ layouts → counts_of layouts (map listed_count counts) ≡ counts
counts_are counts layouts long = sym (fill_by_all (λ layout. count_or_none (slice_get (map listed_count counts) layout)) counts layouts 0 long (λ layout within. count_is counts layout))

pools_fit : (p : LaidOut) (counts : List ℕ) → length counts ≡ length p.layouts → cells_in counts ≤ 2 ^ 20 → pools_of p (map listed_count counts) ≡ Some counts
pools_fit p counts long few =
    let fits : nat_le (cells_in counts) 1048576 ≡ true = grind (arith, nat_tests) in
    ap if_fitting (counts_are counts (length p.layouts) long) ∙ ap (λ (t : Bool). if t then Some counts else None) fits

no_counts_are : (counts : List ℕ) → replicate (length counts) None ≡ no_counts counts
no_counts_are [] = refl
no_counts_are (count ∷ counts) = ap (λ (others : List (Option ℕ)). None ∷ others) (no_counts_are counts)

-- ---- when threads begin

by_any : (v : Version) → Allows v AtStart
by_any One = refl
by_any Two = refl

by_second : (begun : Arrival) → Allows Two begun
by_second AtStart = refl
by_second Late = refl

all_by_second : (starts : List Start) → AllByRecursion (λ (s : Start). Allows Two s.arrival) starts
all_by_second [] = tt
all_by_second (s ∷ starts) = (by_second s.arrival, all_by_second starts)

not_late : (begun : Arrival) → is_late begun ≡ false → Allows One begun
not_late AtStart e = refl
not_late Late e = absurd cc

all_by_first : (starts : List Start) → list_any (λ (s : Start). is_late s.arrival) starts ≡ false → AllByRecursion (λ (s : Start). Allows One s.arrival) starts
all_by_first [] e = tt
all_by_first (s ∷ starts) e =
    let parts = or_neither (is_late s.arrival) (list_any (λ (s : Start). is_late s.arrival) starts) e in
    (not_late s.arrival parts.0, all_by_first starts parts.1)

-- the version in which threads are written allows each of them
all_allowed : (starts : List Start) → AllByRecursion (λ (s : Start). Allows (version_of starts) s.arrival) starts
all_allowed starts = by (list_any (λ (s : Start). is_late s.arrival) starts) refl
  where
    by : (t : Bool) → list_any (λ (s : Start). is_late s.arrival) starts ≡ t → AllByRecursion (λ (s : Start). Allows (if t then Two else One) s.arrival) starts
    by true e = all_by_second starts
    by false e = all_by_first starts e

-- ---- the parts of the text

-- what is left, with all that is read so far
abbrev state : Text → List (Option ℕ) → List Start → List Steps → (made : ℕ) → Input
state text counts starts steps made = record { rest = text; read = record { counts = counts; starts = starts; steps = steps; made = made } }

-- no thread's line begins as a pool's does
no_pool : (begun : Arrival) → bytes_eq (start_word begun) (codes "pool") ≡ false
no_pool AtStart = refl
no_pool Late = refl

-- no pool comes where threads begin, or after them
past_all_pools : (p : LaidOut) → AreRead p → (all : List Start) → AllByRecursion (IsStartOf p) all → (afterwards : Text) → IsFresh (codes "steps" ++ 10 ∷ afterwards) → (i : Input)
    → past_pools (at (flat_map (start_text p.of_module) all ++ (codes "steps" ++ 10 ∷ afterwards)) i) ≡ true
past_all_pools p named [] own afterwards fresh i = ap not (begins_so (codes "steps") (10 ∷ afterwards) (10 ∷ afterwards) (inner_word (codes "steps") refl) refl refl i (codes "pool"))
past_all_pools p named (s ∷ all) own afterwards fresh i =
    let m = p.of_module in
    let tail = codes "steps" ++ 10 ∷ afterwards in
    let here = start_words m s (flat_map (start_text m) all) tail (fresh_starts m all tail fresh) (named.functions s.function own.0.0) (codes "pool") i in
    ap not here ∙ ap not (no_pool s.arrival)

-- no thread begins after the others
past_all_starts : (v : Version) (afterwards : Text) (i : Input) → past_starts v (at (codes "steps" ++ 10 ∷ afterwards) i) ≡ true
past_all_starts v afterwards i =
    ap (λ (word : Text). is_none (arrival_of_word v word)) (word_is (codes "steps") (10 ∷ afterwards) (10 ∷ afterwards) (inner_word (codes "steps") refl) refl refl i)

-- nor does a line of numbers from outside come there
no_more_values : (afterwards : Text) → HasNoValues (codes "steps" ++ 10 ∷ afterwards)
no_more_values afterwards i = begins_so (codes "steps") (10 ∷ afterwards) (10 ∷ afterwards) (inner_word (codes "steps") refl) refl refl i (codes "values")

-- the first line
fresh_heading : (v : Version) (afterwards : Text) → IsFresh (heading_text v ++ afterwards)
fresh_heading One afterwards = refl
fresh_heading Two afterwards = refl

heading_by : (v : Version) (afterwards : Text) (i : Input) → IsFresh afterwards → heading.says (at (heading_text v ++ afterwards) i) v (at afterwards i)
unfolding heading
heading_by One afterwards i fresh = (
  tt,
  at (codes "1" ++ 10 ∷ afterwards) i,
  expected (codes "trace") (32 ∷ (codes "1" ++ 10 ∷ afterwards)) (codes "1" ++ 10 ∷ afterwards) (inner_word (codes "trace") refl) refl refl i,
  (
    One,
    at (10 ∷ afterwards) i,
    version_says (codes "1") (10 ∷ afterwards) (10 ∷ afterwards) (inner_word (codes "1") refl) refl refl i One refl,
    (tt, at afterwards i, line_ended afterwards i fresh, (refl, refl)),
  ),
)
heading_by Two afterwards i fresh = (
  tt,
  at (codes "2" ++ 10 ∷ afterwards) i,
  expected (codes "trace") (32 ∷ (codes "2" ++ 10 ∷ afterwards)) (codes "2" ++ 10 ∷ afterwards) (inner_word (codes "trace") refl) refl refl i,
  (
    Two,
    at (10 ∷ afterwards) i,
    version_says (codes "2") (10 ∷ afterwards) (10 ∷ afterwards) (inner_word (codes "2") refl) refl refl i Two refl,
    (tt, at afterwards i, line_ended afterwards i fresh, (refl, refl)),
  ),
)

module _ (p : LaidOut) (trace : Trace) (named : AreRead p) (own : IsTraceOf p trace) where
  abbrev written_in : Version
  written_in = version_of trace.setup.starts

  abbrev last : Text
  last = codes "end" ++ 10 ∷ []

  abbrev of_steps : Text
  of_steps = flat_map print.steps_line trace.steps ++ last

  abbrev after_starts : Text
  after_starts = codes "steps" ++ 10 ∷ of_steps

  abbrev after_pools : Text
  after_pools = flat_map (start_text p.of_module) trace.setup.starts ++ after_starts

  abbrev after_heading : Text
  after_heading = pools_from p.of_module 0 trace.setup.pools ++ after_pools

  abbrev whole : Text
  whole = heading_text written_in ++ after_heading

  all_shown : trace_shown p trace ≡ whole
  all_shown =
      let counts = trace.setup.pools in
      let lines : pools_text p.of_module (length p.layouts) counts ≡ pools_from p.of_module 0 counts =
      ap (λ (n : ℕ). pools_text p.of_module n counts) (sym own.one_each) ∙ pools_are p.of_module counts counts 0 (λ n. (let same : 0 + n ≡ n = omega arith in ap (slice_get counts) same)) in
      let of_starts = flat_map (start_text p.of_module) trace.setup.starts in
      append_assoc ((heading_text written_in ++ pools_text p.of_module (length p.layouts) counts) ++ of_starts) (codes "steps" ++ 10 ∷ flat_map print.steps_line trace.steps) last
      ∙ append_assoc (heading_text written_in ++ pools_text p.of_module (length p.layouts) counts) of_starts after_starts
      ∙ append_assoc (heading_text written_in) (pools_text p.of_module (length p.layouts) counts) after_pools
      ∙ ap (λ (text : Text). heading_text written_in ++ (text ++ after_pools)) lines

  abbrev counts_read : List (Option ℕ)
  counts_read = map listed_count trace.setup.pools

  fresh_afterwards : IsFresh after_pools
  fresh_afterwards = fresh_starts p.of_module trace.setup.starts after_starts refl

  heading_says : (i : Input) → heading.says (at whole i) written_in (at after_heading i)
  heading_says i = heading_by written_in after_heading i (fresh_pools p.of_module 0 trace.setup.pools after_pools fresh_afterwards)

  setup_says : (setup p.of_module written_in).says (state after_heading (no_counts trace.setup.pools) [] [] 0) tt (state after_starts counts_read trace.setup.starts [] 0)
  unfolding setup pools starts
  setup_says =
      let before = state after_heading (no_counts trace.setup.pools) [] [] 0 in
      let between = state after_pools counts_read [] [] 0 in
      let small : sum trace.setup.pools < 2 ^ 32 = omega (arith, own.cells) in
      let all_pools =
      pools_listed p.of_module (length p.layouts) named.layouts after_pools (past_all_pools p named trace.setup.starts own.starts of_steps refl) fresh_afterwards before trace.setup.pools 0 [] refl
      (omega (arith, own.one_each)) small in
      let all_starts = starts_listed p named written_in after_starts (past_all_starts written_in of_steps) (no_more_values of_steps) refl between trace.setup.starts [] own.starts (all_allowed trace.setup.starts) (omega (arith, own.threads)) in
      (tt, between, (all_pools.0, between, all_pools.1, (refl, refl)), (all_starts.0, state after_starts counts_read trace.setup.starts [] 0, all_starts.1, (refl, refl)))

  steps_are_said : steps.says (state after_starts counts_read trace.setup.starts [] 0) tt (state [] counts_read trace.setup.starts trace.steps (0 + step_sum trace.steps))
  unfolding steps all_steps
  steps_are_said =
      let before = state after_starts counts_read trace.setup.starts [] 0 in
      let afterwards = state last counts_read trace.setup.starts trace.steps (0 + step_sum trace.steps) in
      let past_them = λ (i : Input). begins_so (codes "end") (10 ∷ []) (10 ∷ []) (inner_word (codes "end") refl) refl refl i (codes "end") in
      let all_lines =
      steps_listed (length trace.setup.starts) own.threads last past_them refl before refl trace.steps [] 0 own.actors
      (omega (arith, own.steps)) in (
        tt,
        at (10 ∷ of_steps) before,
        expected (codes "steps") (10 ∷ of_steps) (10 ∷ of_steps) (inner_word (codes "steps") refl) refl refl before,
        (
          tt,
          at of_steps before,
          line_ended of_steps before (fresh_steps trace.steps last refl),
          (
            tt,
            afterwards,
            (all_lines.0, afterwards, all_lines.1, (refl, refl)),
            (
              tt,
              at (10 ∷ []) afterwards,
              expected (codes "end") (10 ∷ []) (10 ∷ []) (inner_word (codes "end") refl) refl refl afterwards,
              (tt, at [] afterwards, line_ended [] afterwards refl, (refl, refl)),
            ),
          ),
        ),
      )

  finished_says : (i : Input) → i.read.counts ≡ counts_read → i.read.starts ≡ trace.setup.starts → i.read.steps ≡ trace.steps → (finished p).says i trace (recorded emptied i)
  unfolding finished
  finished_says i same_counts same_starts same_steps =
      looked (λ i. pools_of p i.read.counts) finished_by i (Some trace.setup.pools) trace (recorded emptied i)
      (ap (pools_of p) same_counts ∙ pools_fit p trace.setup.pools own.one_each own.cells)
      (rw (same_starts, same_steps) refl, refl)

  file_says : (file p).says (state whole (no_counts trace.setup.pools) [] [] 0) trace (recorded emptied (state [] counts_read trace.setup.starts trace.steps (0 + step_sum trace.steps)))
  unfolding file
  file_says =
      let before = state whole (no_counts trace.setup.pools) [] [] 0 in
      let afterwards = state [] counts_read trace.setup.starts trace.steps (0 + step_sum trace.steps) in (
        written_in,
        at after_heading before,
        heading_says before,
        (
          tt,
          state after_starts counts_read trace.setup.starts [] 0,
          setup_says,
          (tt, afterwards, steps_are_said, finished_says afterwards refl refl refl),
        ),
      )

  pub round_trip : IsTrace (trace_shown p trace) p trace
  round_trip =
      let afterwards = recorded emptied (state [] counts_read trace.setup.starts trace.steps (0 + step_sum trace.steps)) in
      let none : replicate (length p.layouts) None ≡ no_counts trace.setup.pools = ap (λ (n : ℕ). replicate n None) (sym own.one_each) ∙ no_counts_are trace.setup.pools in
      subst (λ (text : Text). IsTrace text p trace) (sym all_shown) (
        afterwards,
        subst (λ (text : Text). (file p).says (state text (replicate (length p.layouts) None) [] [] 0) trace afterwards) (sym (fresh_heading written_in after_heading))
            (subst (λ (counts : List (Option ℕ)). (file p).says (state whole counts [] [] 0) trace afterwards) (sym none) file_says),
      )
