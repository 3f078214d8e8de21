-- What is read is a trace of the program.
use Rattle.std.proofs.Common.{◌≡◌, ℕ, ◌+◌, ◌<◌, ◌≤◌, ◌^◌, Bool, true, false, ◌&&◌, if◌then◌else◌, List, [], ◌∷◌, ◌++◌, length, map, Option, Some, None, refl, ap, sym, subst, ◌∙◌, arith, length-append}
use Rattle.std.specs.Prelude.{codes, slice_get, nat_le, nat_lt}
use Rattle.std.specs.List.{AllByRecursion}
use Rattle.std.proofs.lemmas.Bool.Decides.{nat_tests}
use Rattle.std.proofs.lemmas.List.FromFn.{length-map-range_with_len}
use Rattle.std.proofs.lemmas.List.Sums.{sum_by-cons}
use Rattle.moves.specs.Runs.{IsActor}
use Rattle.lemmas.specs.All.{all_join}
use Rattle.ir_ast.specs.Names.{place_of}
use Rattle.ir_ast.specs.declared.module.Module.{Module}
use Rattle.ir_ast.specs.declared.items_of_module.SymbolSort.{SymbolSort}
use Rattle.ir_ast.specs.declared.items_of_module.SymbolSort.TheVariants as sort
use Rattle.grammar.specs.Many.{Listed}
use Rattle.layout.specs.Layouts.{LaidOut}
use Rattle.pools.specs.Heap.{cells_in}
use Rattle.ir_tokens.specs.Bytes.{Text}
use Rattle.name_text.specs.Numbers.{small, number_of_word, is_number}
use Rattle.name_text.specs.Numbers as numbers
use Rattle.name_text.specs.Naming.{name_in}
use Rattle.name_text.specs.Reader.{recorded}
use Rattle.trace_text.specs.Numbers.{count_of_word}
use Rattle.trace_text.specs.Names.{function_by, sort_at, function_named, function_of_word, layout_of_word}
use Rattle.trace_text.specs.Input.{Input, start_of, with_pool, with_start, with_steps}
use Rattle.name_text.specs.Reader.{word, begins, line_ends, after, next_line}
use Rattle.trace_text.specs.Forms.{function_name, new_layout, layout_named, layout_by, cell_count, argument, thread, thread_numbered, thread_by, put_pool, put_start, put_steps, step_count, steps_counted, steps_by}
use Rattle.name_text.specs.Forms.{skip, taken, taken_as, expect, line_end}
use Rattle.trace_text.specs.Arrivals.{arrival, arrival_of_word, past_starts, version, version_of_word}
use Rattle.trace_text.specs.Text.{pool, past_pools, pools, arguments, has_values, values_by, values, start, starts, steps_of, steps_line, past_steps, all_steps, count_or_none, counts_of, trace_with, finished_by, finished, heading, setup, steps, file, IsTrace}
use Rattle.trace_text.specs.Text as form
use Rattle.trace_text.specs.Traces.{IsStartOf, IsTraceOf, step_sum}
use Rattle.name_text.specs.declared.naming.Sigil.TheVariants as sigil
use Rattle.moves.specs.declared.actor.Actor.{Actor}
use Rattle.moves.specs.declared.actor.Actor.TheVariants as actor
use Rattle.trace_text.specs.declared.trace.Arrival.{Arrival}
use Rattle.trace_text.specs.declared.trace.Start.{Start}
use Rattle.trace_text.specs.declared.trace.Steps.{Steps}
use Rattle.trace_text.specs.declared.trace.Trace.{Trace}
use Rattle.trace_text.specs.declared.versions.Version.{Version}
use Rattle.trace_text.specs.declared.mistake.TraceMistake.{TraceMistake}

-- ---- what forms keep

-- the threads and the steps that are read so far
abbrev kept : Input → Input
kept i = record { rest = []; read = record { counts = []; starts = i.read.starts; steps = i.read.steps; made = i.read.made } }

skip_keeps : (i o : Input) (u : Unit {0}) → (skip {M = TraceMistake}).says i u o → kept i ≡ kept o
unfolding skip after
skip_keeps i o u h = ap kept h.1

expect_keeps : (w : Text) (i o : Input) (u : Unit {0}) → (expect {M = TraceMistake} w).says i u o → kept i ≡ kept o
unfolding expect
expect_keeps w i o u h = ap kept h.2.1 ∙ skip_keeps h.1 o u h.3

line_end_keeps : (i o : Input) (u : Unit {0}) → (line_end {M = TraceMistake}).says i u o → kept i ≡ kept o
unfolding line_end next_line
line_end_keeps i o u h = ap kept h.2.1 ∙ ap kept h.3.1

taken_keeps : {A : Type 0} (a b : A) (i o : Input) → (taken {M = TraceMistake} a).says i b o → (a ≡ b) × (kept i ≡ kept o)
taken_keeps a b i o h = (h.3.0, skip_keeps i h.1 h.0 h.2 ∙ ap kept h.3.1)

taken_as_keeps : {A : Type 0} (k : Option A) (b : A) (i o : Input) → (taken_as {M = TraceMistake} k).says i b o → (k ≡ Some b) × (kept i ≡ kept o)
taken_as_keeps None b i o h = absurd h
taken_as_keeps (Some a) b i o h = let r = taken_keeps a b i o h in (ap Some r.0, r.1)

version_keeps : (i o : Input) (v : Version) → version.says i v o → kept i ≡ kept o
unfolding version
version_keeps i o v h = (taken_as_keeps (version_of_word (word i)) v i o h).1

arrival_keeps : (v : Version) (i o : Input) (begun : Arrival) → (arrival v).says i begun o → kept i ≡ kept o
unfolding arrival
arrival_keeps v i o begun h = (taken_as_keeps (arrival_of_word v (word i)) begun i o h).1

-- ---- pools

layout_by_keeps : (layout b : ℕ) (k : Option (Option ℕ)) (i o : Input) → (layout_by layout k).says i b o → kept i ≡ kept o
layout_by_keeps layout b (Some None) i o h = (taken_keeps layout b i o h).1
layout_by_keeps layout b (Some (Some count)) i o h = absurd h
layout_by_keeps layout b None i o h = absurd h

layout_named_keeps : (k : Option ℕ) (b : ℕ) (i o : Input) → (layout_named k).says i b o → kept i ≡ kept o
layout_named_keeps None b i o h = absurd h
layout_named_keeps (Some layout) b i o h = layout_by_keeps layout b (slice_get i.read.counts layout) i o h

pool_keeps : (m : Module) (i o : Input) (u : Unit {0}) → (pool m).says i u o → kept i ≡ kept o
unfolding pool new_layout cell_count put_pool with_pool
pool_keeps m i o u h =
    expect_keeps _ i h.1 h.0 h.2
    ∙ layout_named_keeps (layout_of_word m (word h.1)) h.3.0 h.1 h.3.1 h.3.2
    ∙ (taken_as_keeps (count_of_word (word h.3.1)) h.3.3.0 h.3.1 h.3.3.1 h.3.3.2).1
    ∙ line_end_keeps h.3.3.1 h.3.3.3.1 h.3.3.3.0 h.3.3.3.2
    ∙ ap kept h.3.3.3.3.1

pools_keep : (m : Module) (units : List (Unit {0})) (i o : Input) → Listed past_pools (pool m).says i units o → kept i ≡ kept o
pools_keep m [] i o h = ap kept h.1
pools_keep m (u ∷ units) i o h = pool_keeps m i h.1 u h.2 ∙ pools_keep m units h.1 o h.3

-- ---- threads

small_by : (t : Bool) (d n : ℕ) → nat_lt d 18446744073709551616 ≡ t → (if t then Some d else None) ≡ Some n → n < 2 ^ 64
small_by true d n e h = let same : d ≡ n = cc in let less : d < 18446744073709551616 = grind (arith, nat_tests) in omega (arith, same, less)
small_by false d n e h = absurd cc

number_by : (t : Bool) (w : Text) (n : ℕ) → (if t then small (numbers.decimal w) else None) ≡ Some n → n < 2 ^ 64
number_by true w n h = small_by (nat_lt (numbers.decimal w) 18446744073709551616) (numbers.decimal w) n refl h
number_by false w n h = absurd cc

arguments_keep : (given : List ℕ) (i o : Input) → Listed line_ends argument.says i given o → AllByRecursion (λ argument. argument < 2 ^ 64) given × (kept i ≡ kept o)
unfolding argument
arguments_keep [] i o h = (tt, ap kept h.1)
arguments_keep (a ∷ given) i o h =
    let r = taken_as_keeps (number_of_word (word i)) a i h.1 h.2 in
    let more = arguments_keep given h.1 o h.3 in
    ((number_by (is_number (word i)) (word i) a r.0, more.0), r.1 ∙ more.1)

values_by_keep : (t : Bool) (given : List ℕ) (i o : Input) → (values_by t).says i given o → AllByRecursion (λ value. value < 2 ^ 64) given × (kept i ≡ kept o)
unfolding arguments
values_by_keep false given i o h = (subst (AllByRecursion (λ value. value < 2 ^ 64)) h.0 tt, ap kept h.1)
values_by_keep true given i o h =
    let e = h.3 in
    let l = e.3 in
    let listed = arguments_keep e.0 h.1 e.1 e.2 in (
      subst (AllByRecursion (λ value. value < 2 ^ 64)) l.3.0 listed.0,
      expect_keeps _ i h.1 h.0 h.2 ∙ listed.1 ∙ line_end_keeps e.1 l.1 l.0 l.2 ∙ ap kept l.3.1,
    )

-- in a text of core there are no numbers from outside
none_in_core : (m : Module) (given : List ℕ) (i o : Input) → (values m).says i given o → m.wide ≡ false → given ≡ []
unfolding values
none_in_core m given i o h core =
    let none : has_values m i ≡ false = ap (λ (wide : Bool). wide && begins (codes "values") i) core in
    let said : (values_by false).says i given o = subst (λ (t : Bool). (values_by t).says i given o) none h in
    sym said.0

-- how the threads begin so far, where no step is made
abbrev AreStarts : LaidOut → Input → Type 0
AreStarts p i = AllByRecursion (IsStartOf p) i.read.starts × (length i.read.starts ≤ 64) × (i.read.steps ≡ []) × (i.read.made ≡ 0)

module _ (p : LaidOut) where
  there_by : (t : Bool) (other function : ℕ) → nat_lt other (length p.of_module.functions) ≡ t → (if t then Some other else None) ≡ Some function → function < length p.of_module.functions
  there_by true other function is h = let same : other ≡ function = cc in grind (arith, nat_tests)
  there_by false other function is h = absurd cc

  symbol_by : (k : Option SymbolSort) (function : ℕ) → function_by p.of_module k ≡ Some function → function < length p.of_module.functions
  symbol_by None function h = absurd cc
  symbol_by (Some (sort.Defined other)) function h = there_by (nat_lt other (length p.of_module.functions)) other function refl h
  symbol_by (Some sort.Unknown) function h = absurd cc
  symbol_by (Some (sort.Global other)) function h = absurd cc
  symbol_by (Some (sort.Declared other)) function h = absurd cc

  named_by : (k : Option Text) (function : ℕ) → function_named p.of_module k ≡ Some function → function < length p.of_module.functions
  named_by None function h = absurd cc
  named_by (Some name) function h = symbol_by (sort_at p.of_module (place_of name p.of_module.symbols)) function h

  start_kept : (v : Version) (i o : Input) (u : Unit {0}) → (start p.of_module v).says i u o → AreStarts p i → AreStarts p o
  unfolding start function_name arguments values put_start with_start
  start_kept v i o u h so_far =
      let e = h.3 in
      let f = e.3 in
      let g = f.3 in
      let l = g.3 in
      let x = l.3 in
      let named = taken_as_keeps (function_of_word p.of_module (word e.1)) f.0 e.1 f.1 f.2 in
      let given = arguments_keep g.0 f.1 g.1 g.2 in
      let outside = values_by_keep (has_values p.of_module l.1) x.0 l.1 x.1 x.2 in
      let same : kept i ≡ kept x.1 = ap kept h.2.1 ∙ arrival_keeps v h.1 e.1 e.0 e.2 ∙ named.1 ∙ given.1 ∙ line_end_keeps g.1 l.1 l.0 l.2 ∙ outside.1 in
      let room : length i.read.starts < 64 = (let has = h.2.0 in grind (arith, nat_tests)) in
      let s : Start = record { arrival = e.0; function = f.0; arguments = g.0; values = x.0 } in
      let begun : i.read.starts ++ s ∷ [] ≡ o.read.starts = ap (λ (j : Input). j.read.starts ++ s ∷ []) same ∙ ap (λ (j : Input). j.read.starts) x.3.1 in
      let own : IsStartOf p s = (named_by (name_in sigil.Global (word e.1)) f.0 named.0, given.0, outside.0, none_in_core p.of_module x.0 l.1 x.1 x.2) in (
        subst (AllByRecursion (IsStartOf p)) begun (all_join (IsStartOf p) i.read.starts (s ∷ []) so_far.0 (own, tt)),
        (let long = sym (ap length begun) in omega (arith, long, room, length-append i.read.starts (s ∷ []))),
        sym (ap (λ (j : Input). j.read.steps) x.3.1) ∙ sym (ap (λ (j : Input). j.read.steps) same) ∙ so_far.2,
        sym (ap (λ (j : Input). j.read.made) x.3.1) ∙ sym (ap (λ (j : Input). j.read.made) same) ∙ so_far.3,
      )

  starts_kept : (v : Version) (units : List (Unit {0})) (i o : Input) → Listed (past_starts v) (start p.of_module v).says i units o → AreStarts p i → AreStarts p o
  starts_kept v [] i o h so_far = subst (AreStarts p) h.1 so_far
  starts_kept v (u ∷ units) i o h so_far = starts_kept v units h.1 o h.3 (start_kept v i h.1 u h.2 so_far)

-- ---- steps

thread_by_keeps : (i o : Input) (n b : ℕ) (t : Bool) → nat_lt n (length i.read.starts) ≡ t → (thread_by n t).says i b o → (b < length i.read.starts) × (kept i ≡ kept o)
thread_by_keeps i o n b true e h =
    let r = taken_keeps n b i o h in
    let less : n < length i.read.starts = grind (arith, nat_tests) in
    (omega (arith, less, r.0), r.1)
thread_by_keeps i o n b false e h = absurd h

thread_keeps : (i o : Input) (k : Option ℕ) (b : ℕ) → (thread_numbered k).says i b o → (b < length i.read.starts) × (kept i ≡ kept o)
thread_keeps i o None b h = absurd h
thread_keeps i o (Some n) b h = thread_by_keeps i o n b (nat_lt n (length i.read.starts)) refl h

-- n more steps of the actor, within the limit
abbrev Makes : Actor → (i o : Input) → Type 0
Makes a i o = (count : ℕ) × (i.read.made + count ≤ 10000000) × (kept (recorded (with_steps a count) i) ≡ kept o)

steps_by_kept : (a : Actor) (count : ℕ) (i o : Input) (u : Unit {0}) (t : Bool) → nat_le (i.read.made + count) 10000000 ≡ t → (steps_by a count t).says i u o → Makes a i o
unfolding put_steps
steps_by_kept a count i o u true e h =
    let few : i.read.made + count ≤ 10000000 = grind (arith, nat_tests) in
    (count, few, ap kept h.2.1 ∙ skip_keeps h.1 o u h.3)
steps_by_kept a count i o u false e h = absurd h

count_kept : (a : Actor) (i o : Input) (u : Unit {0}) (k : Option ℕ) → (steps_counted a k).says i u o → Makes a i o
count_kept a i o u None h = absurd h
count_kept a i o u (Some count) h = steps_by_kept a count i o u (nat_le (i.read.made + count) 10000000) refl h

steps_of_kept : (a : Actor) (i o : Input) (u : Unit {0}) → (steps_of a).says i u o → Makes a i o
unfolding step_count
steps_of_kept a i o u h =
    let r = count_kept a i h.1 h.0 (count_of_word (word i)) h.2 in
    (r.0, r.1, r.2 ∙ line_end_keeps h.1 o u h.3)

-- after a part that keeps all, the steps are made from what is kept
makes_after : (a : Actor) (i m o : Input) → kept i ≡ kept m → Makes a m o → Makes a i o
unfolding with_steps
makes_after a i m o same r =
    let made : i.read.made ≡ m.read.made = ap (λ (j : Input). j.read.made) same in
    (r.0, (let few = r.1 in omega (arith, made, few)), ap (λ (j : Input). kept (recorded (with_steps a r.0) j)) same ∙ r.2)

-- a line of steps of one of the threads or of the collector
abbrev MakesLine : (i o : Input) → Type 0
MakesLine i o = (a : Actor) × IsActor (length i.read.starts) a × Makes a i o

line_by_kept : (i o : Input) (u : Unit {0}) (t : Bool) → (form.steps_by t).says i u o → MakesLine i o
unfolding thread
line_by_kept i o u true h =
    let first = skip_keeps i h.1 h.0 h.2 in
    let t = thread_keeps h.1 h.3.1 (count_of_word (word h.1)) h.3.0 h.3.2 in
    let begun : h.3.0 < length i.read.starts = (let same = ap (λ (j : Input). length j.read.starts) first in let less = t.0 in omega (arith, same, less)) in
    (actor.Thread h.3.0, begun, makes_after (actor.Thread h.3.0) i h.3.1 o (first ∙ t.1) (steps_of_kept (actor.Thread h.3.0) h.3.1 o u h.3.3))
line_by_kept i o u false h =
    (actor.Collector, tt, makes_after actor.Collector i h.1 o (expect_keeps _ i h.1 h.0 h.2) (steps_of_kept actor.Collector h.1 o u h.3))

sum_with : (steps : List Steps) (s : Steps) → step_sum (steps ++ s ∷ []) ≡ step_sum steps + s.count
sum_with [] s = sum_by-cons (λ (n : ℕ). n) s.count [] ∙ omega arith
sum_with (x ∷ steps) s =
    let one = sum_by-cons (λ (n : ℕ). n) x.count (map (λ (y : Steps). y.count) (steps ++ s ∷ [])) in
    let other = sum_by-cons (λ (n : ℕ). n) x.count (map (λ (y : Steps). y.count) steps) in
    let more = sum_with steps s in
    omega (arith, one, other, more)

-- the steps so far are of these threads and of the collector, and within the limit
abbrev AreSteps : List Start → Input → Type 0
AreSteps begun i = (i.read.starts ≡ begun) × AllByRecursion (λ (s : Steps). IsActor (length begun) s.actor) i.read.steps × (i.read.made ≡ step_sum i.read.steps) × (i.read.made ≤ 10000000)

line_kept : (begun : List Start) (i o : Input) (u : Unit {0}) → steps_line.says i u o → AreSteps begun i → AreSteps begun o
unfolding steps_line with_steps
line_kept begun i o u h so_far =
    let r = line_by_kept i o u (begins _ i) h in
    let s : Steps = record { actor = r.0; count = r.2.0 } in
    let own : IsActor (length begun) r.0 = subst (λ (starts : List Start). IsActor (length starts) r.0) so_far.0 r.1 in
    let all_steps : i.read.steps ++ s ∷ [] ≡ o.read.steps = ap (λ (j : Input). j.read.steps) r.2.2 in
    let made : i.read.made + r.2.0 ≡ o.read.made = ap (λ (j : Input). j.read.made) r.2.2 in
    let few : i.read.made + r.2.0 ≤ 10000000 = r.2.1 in
    let sums : o.read.made ≡ step_sum o.read.steps = sym made ∙ ap (λ (n : ℕ). n + r.2.0) so_far.2 ∙ sym (sum_with i.read.steps s) ∙ ap step_sum all_steps in (
      sym (ap (λ (j : Input). j.read.starts) r.2.2) ∙ so_far.0,
      subst (AllByRecursion (λ (x : Steps). IsActor (length begun) x.actor)) all_steps (all_join (λ (x : Steps). IsActor (length begun) x.actor) i.read.steps (s ∷ []) so_far.1 (own, tt)),
      sums,
      omega (arith, made, few),
    )

lines_kept : (begun : List Start) (units : List (Unit {0})) (i o : Input) → Listed past_steps steps_line.says i units o → AreSteps begun i → AreSteps begun o
lines_kept begun [] i o h so_far = subst (AreSteps begun) h.1 so_far
lines_kept begun (u ∷ units) i o h so_far = lines_kept begun units h.1 o h.3 (line_kept begun i h.1 u h.2 so_far)

-- ---- the whole

finished_by_kept : (counts : List ℕ) (i o : Input) (trace : Trace) (t : Bool) → nat_le (cells_in counts) 1048576 ≡ t → (finished_by (if t then Some counts else None)).says i trace o
    → (trace_with counts i ≡ trace) × (cells_in counts ≤ 2 ^ 20)
finished_by_kept counts i o trace true e h = (h.0, grind (arith, nat_tests))
finished_by_kept counts i o trace false e h = absurd h

module _ (p : LaidOut) (bytes : Text) (trace : Trace) where
  pub is_trace_of : IsTrace bytes p trace → IsTraceOf p trace
  unfolding file heading setup pools starts steps all_steps finished
  is_trace_of r =
      let h = r.1 in
      let begin = start_of p bytes in
      let first = h.2 in
      let told = first.3 in
      let line = told.3 in
      let heading_keeps : kept begin ≡ kept h.1 = expect_keeps _ begin first.1 first.0 first.2 ∙ version_keeps first.1 told.1 told.0 told.2 ∙ line_end_keeps told.1 line.1 line.0 line.2 ∙ ap kept line.3.1 in
      let second = h.3 in
      let all_pools = second.2.2 in
      let all_starts = second.2.3 in
      let pools_kept : kept begin ≡ kept second.2.1 = heading_keeps ∙ pools_keep p.of_module all_pools.0 h.1 all_pools.1 all_pools.2 ∙ ap kept all_pools.3.1 in
      let none : AreStarts p begin = (tt, omega arith, refl, refl) in
      let begun : AreStarts p second.1 = subst (AreStarts p) all_starts.3.1 (starts_kept p h.0 all_starts.0 second.2.1 all_starts.1 all_starts.2 (subst (AreStarts p) pools_kept none)) in
      let third = second.3 in
      let e = third.2 in
      let f = e.3 in
      let g = f.3 in
      let l = g.3 in
      let n = l.3 in
      let lines = g.2 in
      let before_steps : kept second.1 ≡ kept f.1 = expect_keeps _ second.1 e.1 e.0 e.2 ∙ line_end_keeps e.1 f.1 f.0 f.2 in
      let no_step : AreSteps second.1.read.starts second.1 = (refl, subst (AllByRecursion (λ (s : Steps). IsActor (length second.1.read.starts) s.actor)) (sym begun.2) tt, (begun.3 ∙ ap step_sum (sym begun.2)), omega (arith, begun.3)) in
      let made : AreSteps second.1.read.starts g.1 = subst (AreSteps second.1.read.starts) lines.3.1 (lines_kept second.1.read.starts lines.0 f.1 lines.1 lines.2 (subst (AreSteps second.1.read.starts) before_steps no_step)) in
      let after_steps : kept g.1 ≡ kept third.1 = expect_keeps _ g.1 l.1 l.0 l.2 ∙ line_end_keeps l.1 n.1 n.0 n.2 ∙ ap kept n.3.1 in
      let at_end : AreSteps second.1.read.starts third.1 = subst (AreSteps second.1.read.starts) after_steps made in
      let counts = counts_of (length p.layouts) third.1.read.counts in
      let given = finished_by_kept counts third.1 r.0 trace (nat_le (cells_in counts) 1048576) refl third.3 in
      let same_starts = at_end.0 in
      subst (IsTraceOf p) given.0 (record {
        one_each = length-map-range_with_len (λ layout. count_or_none (slice_get third.1.read.counts layout)) 0 (length p.layouts);
        cells = given.1;
        starts = subst (AllByRecursion (IsStartOf p)) (sym same_starts) begun.0;
        threads = subst (λ (all : List Start). length all ≤ 64) (sym same_starts) begun.1;
        actors = subst (λ (all : List Start). AllByRecursion (λ (s : Steps). IsActor (length all) s.actor) third.1.read.steps) (sym same_starts) at_end.1;
        steps = (let sums = at_end.2 in let few = at_end.3 in omega (arith, sums, few));
      })
