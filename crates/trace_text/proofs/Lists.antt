-- Printed lists of lines are read as their elements.
use Rattle.std.proofs.Common.{◌≡◌, ℕ, suc, ◌+◌, ◌<◌, ◌≤◌, ◌^◌, Bool, true, false, not, if◌then◌else◌, List, [], ◌∷◌, ◌++◌, length, map, Option, Some, None, refl, ap, sym, subst, ◌∙◌, arith, append_assoc, length-append}
use Rattle.std.specs.Prelude.{codes, is_none, slice_get, slice_set, sum, unwrap_or, ◌==◌}
use Rattle.std.specs.List.{AllByRecursion, flat_map, range_with_len}
use Rattle.std.specs.Fmt.{decimal}
use Rattle.std.specs.Str.{bytes_eq}
use Rattle.std.proofs.Math.Seq.{set-append_seam}
use Rattle.std.proofs.lemmas.List.{append-nil}
use Rattle.std.proofs.lemmas.List.Sums.{sum_by-cons}
use Rattle.moves.specs.Runs.{IsActor}
use Rattle.ir_ast.specs.declared.module.Module.{Module}
use Rattle.grammar.specs.Many.{Listed}
use Rattle.layout.specs.Layouts.{LaidOut}
use Rattle.ir_tokens.specs.Bytes.{Text}
use Rattle.name_text.specs.Reader.{recorded, begins}
use Rattle.trace_text.specs.Names.{function_of_word, layout_of_word}
use Rattle.trace_text.specs.Input.{Input, with_pool, with_start, with_steps}
use Rattle.trace_text.specs.Arrivals.{arrival_of_word, start_word, past_starts}
use Rattle.trace_text.specs.Text.{pool, past_pools, start, steps_line, past_steps}
use Rattle.trace_text.specs.Print.{pool_line, pool_text, layout_text, struct_name, function_text, arguments_text, values_text, start_line, start_text, actor_text}
use Rattle.trace_text.specs.Print as print
use Rattle.trace_text.specs.Traces.{IsStartOf, step_sum}
use Rattle.moves.specs.declared.actor.Actor.{Actor}
use Rattle.moves.specs.declared.actor.Actor.TheVariants as actor
use Rattle.trace_text.specs.declared.trace.Arrival.{Arrival}
use Rattle.trace_text.specs.declared.trace.Arrival.TheVariants.{AtStart, Late}
use Rattle.trace_text.specs.declared.trace.Start.{Start}
use Rattle.trace_text.specs.declared.trace.Steps.{Steps}
use Rattle.trace_text.specs.declared.versions.Version.{Version}
use Rattle.trace_text.proofs.Named.{AreRead}
use Rattle.trace_text.proofs.Seams.{inner_word}
use Rattle.trace_text.proofs.NameSeams.{name_stays}
use Rattle.trace_text.proofs.Reading.{at, IsFresh, begins_so}
use Rattle.trace_text.proofs.Lines.{Allows, pool_says, fresh_values, start_says, start_begins, thread_steps_say, thread_begins, collector_steps_say, collector_begins}

-- ---- pools

-- what the line of a pool lists; a pool without a cell has none
abbrev pub listed_count : ℕ → Option ℕ
listed_count count = if count == 0 then None else Some count

-- no count is listed
abbrev pub no_counts : List ℕ → List (Option ℕ)
no_counts = map (λ _. None)

-- the lines of the pools from this layout on
abbrev pub pools_from : Module → (layout : ℕ) → List ℕ → Text
pools_from m layout [] = []
pools_from m layout (count ∷ counts) = pool_line m layout count ++ pools_from m (layout + 1) counts

-- what is left, and the counts that are listed so far
abbrev pub with_counts : Text → List (Option ℕ) → Input → Input
with_counts text counts i = at text (recorded (λ p. record p { counts = counts }) i)

abbrev line_of : Module → (layout count : ℕ) → Text
line_of m layout count = codes "pool " ++ layout_text m layout ++ 32 ∷ (decimal count ++ 10 ∷ [])

-- two words of a line, and what follows it
seam : (one two more : Text) → (one ++ 32 ∷ (two ++ 10 ∷ [])) ++ more ≡ one ++ 32 ∷ (two ++ 10 ∷ more)
seam one two more = append_assoc one (32 ∷ (two ++ 10 ∷ [])) more ∙ ap (λ (text : Text). one ++ 32 ∷ text) (append_assoc two (10 ∷ []) more)

pool_seam : (m : Module) (layout count : ℕ) (others tail : Text)
    → (line_of m layout count ++ others) ++ tail ≡ codes "pool " ++ (layout_text m layout ++ 32 ∷ (decimal count ++ 10 ∷ (others ++ tail)))
pool_seam m layout count others tail =
    append_assoc (line_of m layout count) others tail
    ∙ ap (λ (text : Text). codes "pool " ++ text) (seam (layout_text m layout) (decimal count) (others ++ tail))

get_seam : (done : List (Option ℕ)) (x : Option ℕ) (more : List (Option ℕ)) → slice_get (done ++ x ∷ more) (length done) ≡ Some x
get_seam [] x more = refl
get_seam (y ∷ done) x more = get_seam done x more

pub fresh_pools : (m : Module) (layout : ℕ) (counts : List ℕ) (tail : Text) → IsFresh tail → IsFresh (pools_from m layout counts ++ tail)
fresh_pools m layout [] tail fresh = fresh
fresh_pools m layout (count ∷ counts) tail fresh = by (count == 0) (fresh_pools m (layout + 1) counts tail fresh)
  where
    by : (t : Bool) → IsFresh (pools_from m (layout + 1) counts ++ tail) → IsFresh (((if t then [] else line_of m layout count) ++ pools_from m (layout + 1) counts) ++ tail)
    by true others = others
    by false others = refl

module _ (m : Module) (layouts : ℕ) (named : (layout : ℕ) → layout < layouts → layout_of_word m (layout_text m layout) ≡ Some layout)
    (tail : Text) (past : (i : Input) → past_pools (at tail i) ≡ true) (fresh : IsFresh tail) (i : Input) where
  pub pools_listed : (counts : List ℕ) (layout : ℕ) (done : List (Option ℕ)) → length done ≡ layout → layout + length counts ≤ layouts → sum counts < 2 ^ 32
      → (units : List (Unit {0})) × Listed past_pools (pool m).says (with_counts (pools_from m layout counts ++ tail) (done ++ no_counts counts) i) units (with_counts tail (done ++ map listed_count counts) i)
  unfolding with_pool
  pools_listed [] layout done long within small = ([], (past (with_counts tail (done ++ []) i), refl))
  pools_listed (count ∷ counts) layout done long within small =
      by (λ x. pools_listed counts (layout + 1) (done ++ x ∷ []) (omega (arith, long, length-append done (x ∷ []))) (omega (arith, within)) (omega (arith, small, sum_by-cons (λ (n : ℕ). n) count counts))) (count == 0) refl
    where
      others : Text
      others = pools_from m (layout + 1) counts ++ tail

      Rest : Option ℕ → Type 0
      Rest x = (units : List (Unit {0})) × Listed past_pools (pool m).says (with_counts others ((done ++ x ∷ []) ++ no_counts counts) i) units (with_counts tail ((done ++ x ∷ []) ++ map listed_count counts) i)

      rest : (x : Option ℕ) → Rest x → (units : List (Unit {0})) × Listed past_pools (pool m).says (with_counts others (done ++ x ∷ no_counts counts) i) units (with_counts tail (done ++ x ∷ map listed_count counts) i)
      rest x r = (
        r.0,
        subst (λ (before : List (Option ℕ)). Listed past_pools (pool m).says (with_counts others before i) r.0 (with_counts tail (done ++ x ∷ map listed_count counts) i)) (append_assoc done (x ∷ []) (no_counts counts))
            (subst (λ (afterwards : List (Option ℕ)). Listed past_pools (pool m).says (with_counts others ((done ++ x ∷ []) ++ no_counts counts) i) r.0 (with_counts tail afterwards i)) (append_assoc done (x ∷ []) (map listed_count counts)) r.1),
      )

      by : ((x : Option ℕ) → Rest x) → (t : Bool) → count == 0 ≡ t
          → (units : List (Unit {0})) × Listed past_pools (pool m).says (with_counts (((if t then [] else line_of m layout count) ++ pools_from m (layout + 1) counts) ++ tail) (done ++ None ∷ no_counts counts) i) units
          (with_counts tail (done ++ (if t then None else Some count) ∷ map listed_count counts) i)
      by rests true e = rest None (rests None)
      by rests false e =
          let before = with_counts others (done ++ None ∷ no_counts counts) i in
          let name = layout_text m layout in
          let afterwards = 32 ∷ (decimal count ++ 10 ∷ others) in
          let free : slice_get (done ++ None ∷ no_counts counts) layout ≡ Some None = ap (slice_get (done ++ None ∷ no_counts counts)) (sym long) ∙ get_seam done None (no_counts counts) in
          let set : slice_set (done ++ None ∷ no_counts counts) layout (Some count) ≡ done ++ Some count ∷ no_counts counts =
          ap (λ (n : ℕ). slice_set (done ++ None ∷ no_counts counts) n (Some count)) (sym long) ∙ set-append_seam done None (no_counts counts) (Some count) in
          let said = pool_says m others (fresh_pools m (layout + 1) counts tail fresh) before layout count (named layout (omega (arith, within))) (omega (arith, small, sum_by-cons (λ (n : ℕ). n) count counts)) free in
          let r = rest (Some count) (rests (Some count)) in
          let here = begins_so (codes "pool") (32 ∷ (name ++ afterwards)) (name ++ afterwards) (inner_word (codes "pool") refl) refl (name_stays (struct_name m (slice_get m.structs layout)) afterwards) before (codes "pool") in (
            tt ∷ r.0,
            subst (λ (text : Text). Listed past_pools (pool m).says (with_counts text (done ++ None ∷ no_counts counts) i) (tt ∷ r.0) (with_counts tail (done ++ Some count ∷ map listed_count counts) i))
                (sym (pool_seam m layout count (pools_from m (layout + 1) counts) tail)) (
                  ap not here,
                  with_counts others (done ++ Some count ∷ no_counts counts) i,
                  subst (λ (set_counts : List (Option ℕ)). (pool m).says (with_counts (codes "pool " ++ (name ++ afterwards)) (done ++ None ∷ no_counts counts) i) tt (with_counts others set_counts i)) set said,
                  r.1,
                ),
          )

-- the lines of all pools
pub pools_are : (m : Module) (pools counts : List ℕ) (layout : ℕ) → ((n : ℕ) → slice_get pools (layout + n) ≡ slice_get counts n)
    → flat_map (pool_text m pools) (range_with_len layout (length counts)) ≡ pools_from m layout counts
pools_are m pools [] layout same = refl
pools_are m pools (count ∷ counts) layout same =
    let none : layout ≡ layout + 0 = omega arith in
    let first : slice_get pools layout ≡ Some count = ap (slice_get pools) none ∙ same 0 in
    let others : (n : ℕ) → slice_get pools (layout + 1 + n) ≡ slice_get counts n = λ n. (let next : layout + 1 + n ≡ layout + suc n = omega arith in ap (slice_get pools) next ∙ same (suc n)) in
    ap (λ (x : Option ℕ). pool_line m layout (unwrap_or x 0) ++ flat_map (pool_text m pools) (range_with_len (layout + 1) (length counts))) first
    ∙ ap (λ (text : Text). pool_line m layout count ++ text) (pools_are m pools counts (layout + 1) others)

-- ---- threads

-- what is left, and how the threads begin so far
abbrev pub with_starts : Text → List Start → Input → Input
with_starts text starts i = at text (recorded (λ p. record p { starts = starts }) i)

start_seam : (m : Module) (s : Start) (others tail : Text)
    → (start_text m s ++ others) ++ tail ≡ start_word s.arrival ++ 32 ∷ (function_text m s.function ++ (arguments_text s.arguments ++ 10 ∷ (values_text s.values ++ (others ++ tail))))
start_seam m s others tail =
    let name = function_text m s.function in
    let given = arguments_text s.arguments in
    let after_line = values_text s.values ++ (others ++ tail) in
    append_assoc (start_text m s) others tail
    ∙ append_assoc (start_line m s) (values_text s.values) (others ++ tail)
    ∙ append_assoc (start_word s.arrival ++ 32 ∷ name ++ given) (10 ∷ []) after_line
    ∙ append_assoc (start_word s.arrival ++ 32 ∷ name) given (10 ∷ after_line)
    ∙ append_assoc (start_word s.arrival) (32 ∷ name) (given ++ 10 ∷ after_line)

pub fresh_starts : (m : Module) (starts : List Start) (tail : Text) → IsFresh tail → IsFresh (flat_map (start_text m) starts ++ tail)
fresh_starts m [] tail fresh = fresh
fresh_starts m (s ∷ starts) tail fresh = by s.arrival
  where
    by : (begun : Arrival) → IsFresh ((((start_word begun ++ 32 ∷ function_text m s.function ++ arguments_text s.arguments ++ 10 ∷ []) ++ values_text s.values) ++ flat_map (start_text m) starts) ++ tail)
    by AtStart = refl
    by Late = refl

-- a thread's line begins with no other word
pub start_words : (m : Module) (s : Start) (others tail : Text) → IsFresh (others ++ tail) → function_of_word m (function_text m s.function) ≡ Some s.function → (wanted : Text) (i : Input)
    → begins wanted (at ((start_text m s ++ others) ++ tail) i) ≡ bytes_eq (start_word s.arrival) wanted
start_words m s others tail fresh named wanted i =
    let more = others ++ tail in
    let here = start_begins m (values_text s.values ++ more) (fresh_values m more fresh i s.values) i s named in
    ap (λ (text : Text). begins wanted (at text i)) (start_seam m s others tail) ∙ ap (λ (word : Text). bytes_eq word wanted) here

-- a thread's line is none of numbers from outside
no_values : (begun : Arrival) → bytes_eq (start_word begun) (codes "values") ≡ false
no_values AtStart = refl
no_values Late = refl

-- a text that begins with no line of numbers from outside
abbrev pub HasNoValues : Text → Type 0
HasNoValues text = (i : Input) → begins (codes "values") (at text i) ≡ false

-- no line of numbers from outside comes where threads begin, or after them
past_all_values : (p : LaidOut) → AreRead p → (starts : List Start) → AllByRecursion (IsStartOf p) starts → (tail : Text) → IsFresh tail → HasNoValues tail → HasNoValues (flat_map (start_text p.of_module) starts ++ tail)
past_all_values p named [] own tail fresh none i = none i
past_all_values p named (s ∷ starts) own tail fresh none i =
    let m = p.of_module in
    start_words m s (flat_map (start_text m) starts) tail (fresh_starts m starts tail fresh) (named.functions s.function own.0.0) (codes "values") i ∙ no_values s.arrival

module _ (p : LaidOut) (named : AreRead p) (v : Version) (tail : Text) (past : (i : Input) → past_starts v (at tail i) ≡ true) (none : HasNoValues tail) (fresh : IsFresh tail) (i : Input) where
  pub starts_listed : (starts done : List Start) → AllByRecursion (IsStartOf p) starts → AllByRecursion (λ (s : Start). Allows v s.arrival) starts → length done + length starts ≤ 64
      → (units : List (Unit {0})) × Listed (past_starts v) (start p.of_module v).says (with_starts (flat_map (start_text p.of_module) starts ++ tail) done i) units (with_starts tail (done ++ starts) i)
  unfolding with_start
  starts_listed [] done all allowed few = ([], (past (with_starts tail done i), ap (λ (starts : List Start). with_starts tail starts i) (sym (append-nil done))))
  starts_listed (s ∷ starts) done all allowed few =
      let m = p.of_module in
      let others = flat_map (start_text m) starts ++ tail in
      let before = with_starts others done i in
      let is_named = named.functions s.function all.0.0 in
      let fresh_others = fresh_starts m starts tail fresh in
      let said = start_says m others fresh_others before v s allowed.0 is_named (all.0.1, all.0.2, all.0.3) (past_all_values p named starts all.1 tail fresh none before) (omega (arith, few)) in
      let here = ap (arrival_of_word v) (start_begins m (values_text s.values ++ others) (fresh_values m others fresh_others before s.values) before s is_named) ∙ allowed.0 in
      let r = starts_listed starts (done ++ s ∷ []) all.1 allowed.1 (omega (arith, few, length-append done (s ∷ []))) in (
        tt ∷ r.0,
        subst (λ (text : Text). Listed (past_starts v) (start m v).says (with_starts text done i) (tt ∷ r.0) (with_starts tail (done ++ s ∷ starts) i))
            (sym (start_seam m s (flat_map (start_text m) starts) tail)) (
              ap is_none here,
              with_starts others (done ++ s ∷ []) i,
              said,
              subst (λ (all_starts : List Start). Listed (past_starts v) (start m v).says (with_starts others (done ++ s ∷ []) i) r.0 (with_starts tail all_starts i)) (append_assoc done (s ∷ []) starts) r.1,
            ),
      )

-- ---- steps

-- what is left, and the steps so far, with their number
abbrev pub with_all : Text → List Steps → (made : ℕ) → Input → Input
with_all text steps made i = at text (recorded (λ p. record p { steps = steps; made = made }) i)

pub fresh_steps : (steps : List Steps) (tail : Text) → IsFresh tail → IsFresh (flat_map print.steps_line steps ++ tail)
fresh_steps [] tail fresh = fresh
fresh_steps (s ∷ steps) tail fresh = by s.actor
  where
    by : (a : Actor) → IsFresh (((actor_text a ++ decimal s.count ++ 10 ∷ []) ++ flat_map print.steps_line steps) ++ tail)
    by (actor.Thread thread) = refl
    by actor.Collector = refl

thread_seam : (thread count : ℕ) (more : Text) → (actor_text (actor.Thread thread) ++ decimal count ++ 10 ∷ []) ++ more ≡ codes "t " ++ (decimal thread ++ 32 ∷ (decimal count ++ 10 ∷ more))
thread_seam thread count more =
    ap (λ (text : Text). codes "t " ++ text)
    (append_assoc ((decimal thread ++ 32 ∷ []) ++ decimal count) (10 ∷ []) more
    ∙ append_assoc (decimal thread ++ 32 ∷ []) (decimal count) (10 ∷ more)
    ∙ append_assoc (decimal thread) (32 ∷ []) (decimal count ++ 10 ∷ more))

collector_seam : (count : ℕ) (more : Text) → (actor_text actor.Collector ++ decimal count ++ 10 ∷ []) ++ more ≡ codes "c " ++ (decimal count ++ 10 ∷ more)
collector_seam count more = ap (λ (text : Text). codes "c " ++ text) (append_assoc (decimal count) (10 ∷ []) more)

-- a line of steps, which is no end of them
abbrev IsRead : Actor → (count : ℕ) → (more : Text) → Input → Type 0
IsRead a count more i =
    (past_steps (at ((actor_text a ++ decimal count ++ 10 ∷ []) ++ more) i) ≡ false)
    × steps_line.says (at ((actor_text a ++ decimal count ++ 10 ∷ []) ++ more) i) tt (at more (recorded (with_steps a count) i))

line_is_read : (a : Actor) (count : ℕ) (more : Text) (i : Input) → IsFresh more → IsActor (length i.read.starts) a → length i.read.starts ≤ 64 → i.read.made + count ≤ 10000000 → IsRead a count more i
line_is_read (actor.Thread thread) count more i fresh begun few_threads few =
    subst (λ (text : Text). (past_steps (at text i) ≡ false) × steps_line.says (at text i) tt (at more (recorded (with_steps (actor.Thread thread) count) i))) (sym (thread_seam thread count more))
    (thread_begins more fresh i thread count begun few_threads (codes "end"), thread_steps_say more fresh i thread count begun few_threads few)
line_is_read actor.Collector count more i fresh begun few_threads few =
    subst (λ (text : Text). (past_steps (at text i) ≡ false) × steps_line.says (at text i) tt (at more (recorded (with_steps actor.Collector count) i))) (sym (collector_seam count more))
    (collector_begins more fresh i count few (codes "end"), collector_steps_say more fresh i count few)

module _ (threads : ℕ) (few_threads : threads ≤ 64) (tail : Text) (past : (i : Input) → past_steps (at tail i) ≡ true) (fresh : IsFresh tail) (i : Input) (begun : length i.read.starts ≡ threads) where
  pub steps_listed : (steps done : List Steps) (made : ℕ) → AllByRecursion (λ (s : Steps). IsActor threads s.actor) steps → made + step_sum steps ≤ 10000000
      → (units : List (Unit {0})) × Listed past_steps steps_line.says (with_all (flat_map print.steps_line steps ++ tail) done made i) units (with_all tail (done ++ steps) (made + step_sum steps) i)
  unfolding with_steps
  steps_listed [] done made all few =
      let same : made ≡ made + 0 = omega arith in
      ([], (past (with_all tail done made i), ap (λ (steps : List Steps). with_all tail steps made i) (sym (append-nil done)) ∙ ap (λ (n : ℕ). with_all tail (done ++ []) n i) same))
  steps_listed (s ∷ steps) done made all few =
      let others = flat_map print.steps_line steps ++ tail in
      let parts = sum_by-cons (λ (n : ℕ). n) s.count (map (λ (x : Steps). x.count) steps) in
      let before = with_all others done made i in
      let own = subst (λ (n : ℕ). IsActor n s.actor) (sym begun) all.0 in
      let read = line_is_read s.actor s.count others before (fresh_steps steps tail fresh) own (omega (arith, few_threads, begun)) (omega (arith, few, parts)) in
      let r = steps_listed steps (done ++ s ∷ []) (made + s.count) all.1 (omega (arith, few, parts)) in
      let count : made + s.count + step_sum steps ≡ made + step_sum (s ∷ steps) = omega (arith, parts) in
      let afterwards = ap (λ (all_steps : List Steps). with_all tail all_steps (made + s.count + step_sum steps) i) (append_assoc done (s ∷ []) steps) ∙ ap (λ (n : ℕ). with_all tail (done ++ s ∷ steps) n i) count in (
        tt ∷ r.0,
        subst (λ (text : Text). Listed past_steps steps_line.says (with_all text done made i) (tt ∷ r.0) (with_all tail (done ++ s ∷ steps) (made + step_sum (s ∷ steps)) i))
            (sym (append_assoc (print.steps_line s) (flat_map print.steps_line steps) tail)) (
              read.0,
              with_all others (done ++ s ∷ []) (made + s.count) i,
              read.1,
              subst (λ (o : Input). Listed past_steps steps_line.says (with_all others (done ++ s ∷ []) (made + s.count) i) r.0 o) afterwards r.1,
            ),
      )
