-- Printed lines are read as what they are printed of.
use Rattle.std.proofs.Common.{◌≡◌, ℕ, ◌+◌, ◌<◌, ◌≤◌, ◌^◌, Bool, true, false, ◌&&◌, List, [], ◌∷◌, ◌++◌, length, Option, Some, None, refl, ap, sym, subst, ◌∙◌, arith, append_assoc}
use Rattle.std.specs.Prelude.{codes, slice_get, nat_lt}
use Rattle.std.specs.List.{AllByRecursion}
use Rattle.std.specs.Fmt.{decimal}
use Rattle.std.specs.Str.{bytes_eq}
use Rattle.std.proofs.lemmas.Bool.Decides.{nat_tests}
use Rattle.std.proofs.Math.Bool.{and-false}
use Rattle.lemmas.specs.Bools.{and_true}
use Rattle.ir_ast.specs.declared.function.Function.{Function}
use Rattle.ir_ast.specs.declared.module.Module.{Module}
use Rattle.ir_tokens.specs.Tokens.{lex_from, past_gap}
use Rattle.grammar.specs.Many.{Listed}
use Rattle.ir_tokens.specs.Bytes.{Text}
use Rattle.name_text.specs.Words.{past_blanks, stops}
use Rattle.name_text.specs.Reader.{recorded}
use Rattle.trace_text.specs.Names.{function_of_word, layout_of_word}
use Rattle.trace_text.specs.Arrivals.{arrival_of_word, start_word}
use Rattle.trace_text.specs.Input.{Input, with_pool, with_start, with_steps}
use Rattle.name_text.specs.Reader.{line_ends, word, begins}
use Rattle.trace_text.specs.Forms.{argument, put_pool, put_start}
use Rattle.trace_text.specs.Text.{pool, arguments, has_values, values_by, values, start, steps_of, steps_by, steps_line}
use Rattle.trace_text.specs.Print.{name_text, name_at, struct_name, layout_text, name_of_function, function_text, arguments_text, values_text}
use Rattle.moves.specs.declared.actor.Actor.{Actor}
use Rattle.moves.specs.declared.actor.Actor.TheVariants as actor
use Rattle.trace_text.specs.declared.trace.Arrival.{Arrival}
use Rattle.trace_text.specs.declared.trace.Arrival.TheVariants.{AtStart, Late}
use Rattle.trace_text.specs.declared.trace.Start.{Start}
use Rattle.trace_text.specs.declared.versions.Version.{Version}
use Rattle.name_text.specs.Spelled.{number_is_inner, number_has_bytes}
use Rattle.trace_text.proofs.Seams.{IsWord, inner_word, inner_stays, inner_goes_on}
use Rattle.trace_text.proofs.NameSeams.{name_word, name_stays, signed_word}
use Rattle.trace_text.proofs.Reading.{at, looked, IsFresh, word_is, skipped, expected, arrival_says, function_says, layout_says, argument_says, cells_say, thread_says, steps_say, line_ended, begins_so}

abbrev Arguments : List ℕ → Type 0
Arguments = AllByRecursion (λ argument. argument < 2 ^ 64)

-- ---- arguments

-- what is at the first argument, or at the line's end
abbrev pub at_argument : List ℕ → Text → Text
at_argument [] more = 10 ∷ more
at_argument (a ∷ others) more = decimal a ++ (arguments_text others ++ 10 ∷ more)

arguments_end : (others : List ℕ) (more : Text) → stops (arguments_text others ++ 10 ∷ more) ≡ true
arguments_end [] more = refl
arguments_end (a ∷ others) more = refl

arguments_stand : (others : List ℕ) (more : Text) → Arguments others → past_blanks (arguments_text others ++ 10 ∷ more) ≡ at_argument others more
arguments_stand [] more all = refl
arguments_stand (a ∷ others) more all =
    ap past_blanks (append_assoc (decimal a) (arguments_text others) (10 ∷ more))
    ∙ inner_stays (decimal a) (arguments_text others ++ 10 ∷ more) (number_has_bytes a all.0) (number_is_inner a all.0)

arguments_listed : (others : List ℕ) (more : Text) (i : Input) → Arguments others → Listed line_ends argument.says (at (at_argument others more) i) others (at (10 ∷ more) i)
arguments_listed [] more i all = (refl, refl)
arguments_listed (a ∷ others) more i all = (
  inner_goes_on (decimal a) (arguments_text others ++ 10 ∷ more) (number_has_bytes a all.0) (number_is_inner a all.0),
  at (at_argument others more) i,
  argument_says a (arguments_text others ++ 10 ∷ more) (at_argument others more) all.0 (arguments_end others more) (arguments_stand others more all.1) i,
  arguments_listed others more i all.1,
)

-- ---- numbers from outside

not_none : (value : ℕ) (given : List ℕ) → value ∷ given ≡ [] → ⊥
not_none value given e = cc

-- some numbers from outside are those of a text of the wide forms
wide_by : (value : ℕ) (given : List ℕ) (wide : Bool) → (wide ≡ false → value ∷ given ≡ []) → wide ≡ true
wide_by value given true core = refl
wide_by value given false core = absurd (not_none value given (core refl))

-- ---- threads

-- the first words of threads' lines are words
pub start_is_word : (begun : Arrival) → IsWord (start_word begun)
start_is_word AtStart = inner_word (codes "start") refl
start_is_word Late = inner_word (codes "late") refl

-- in a text of this version a line may begin a thread so
abbrev pub Allows : Version → Arrival → Type 0
Allows v begun = arrival_of_word v (start_word begun) ≡ Some begun

-- ---- lines

module _ (m : Module) (more : Text) (fresh : IsFresh more) (i : Input) where
  pub pool_says : (layout count : ℕ) → layout_of_word m (layout_text m layout) ≡ Some layout → count < 2 ^ 32 → slice_get i.read.counts layout ≡ Some None
      → (pool m).says (at (codes "pool " ++ (layout_text m layout ++ 32 ∷ (decimal count ++ 10 ∷ more))) i) tt (at more (recorded (with_pool layout count) i))
  unfolding pool put_pool with_pool
  pool_says layout count named small free =
      let name = struct_name m (slice_get m.structs layout) in
      let afterwards = 32 ∷ (decimal count ++ 10 ∷ more) in
      let wide : count < 2 ^ 64 = omega (arith, small) in (
        tt,
        at (layout_text m layout ++ afterwards) i,
        expected (codes "pool") (32 ∷ (layout_text m layout ++ afterwards)) (layout_text m layout ++ afterwards) (inner_word (codes "pool") refl) refl (name_stays name afterwards) i,
        (
          layout,
          at (decimal count ++ 10 ∷ more) i,
          layout_says (layout_text m layout) afterwards (decimal count ++ 10 ∷ more) (name_word name) refl
              (inner_stays (decimal count) (10 ∷ more) (number_has_bytes count wide) (number_is_inner count wide)) i m layout named free,
          (
            count,
            at (10 ∷ more) i,
            cells_say count (10 ∷ more) (10 ∷ more) wide refl refl i small,
            (tt, at more i, line_ended more i fresh, (refl, refl)),
          ),
        ),
      )

  function_by : (f : Option Function) (function : ℕ) → function_of_word m (name_of_function m f) ≡ Some function
      → IsWord (name_of_function m f) × ((rest : Text) → past_blanks (name_of_function m f ++ rest) ≡ name_of_function m f ++ rest)
  unfolding lex_from past_gap
  function_by None function e = absurd cc
  function_by (Some f) function e = (signed_word 64 (name_text (name_at m.symbols f.symbol)) refl refl (name_word (name_at m.symbols f.symbol)), λ rest. refl)

  -- what is printed of numbers from outside stands at the beginning of a line
  pub fresh_values : (given : List ℕ) → IsFresh (values_text given ++ more)
  fresh_values [] = fresh
  fresh_values (value ∷ given) = refl

  values_seam : (value : ℕ) (given : List ℕ) → values_text (value ∷ given) ++ more ≡ codes "values" ++ (arguments_text (value ∷ given) ++ 10 ∷ more)
  values_seam value given = ap (λ (text : Text). codes "values" ++ text) (append_assoc (arguments_text (value ∷ given)) (10 ∷ []) more)

  -- the numbers that a thread gets from outside, before a text that is no line of them
  values_say : (given : List ℕ) → Arguments given → (m.wide ≡ false → given ≡ []) → begins (codes "values") (at more i) ≡ false → (values m).says (at (values_text given ++ more) i) given (at more i)
  unfolding values arguments
  values_say [] all core other =
      looked (has_values m) values_by (at more i) false [] (at more i) (ap (λ (b : Bool). m.wide && b) other ∙ and-false m.wide) (refl, refl)
  values_say (value ∷ given) all core other =
      let rest = arguments_text (value ∷ given) ++ 10 ∷ more in
      let next = at_argument (value ∷ given) more in
      let word = inner_word (codes "values") refl in
      let ends = arguments_end (value ∷ given) more in
      let stand = arguments_stand (value ∷ given) more all in
      let here = begins_so (codes "values") rest next word ends stand i (codes "values") in
      subst (λ (text : Text). (values m).says (at text i) (value ∷ given) (at more i)) (sym (values_seam value given))
      (looked (has_values m) values_by (at (codes "values" ++ rest) i) true (value ∷ given) (at more i)
      (and_true m.wide (begins (codes "values") (at (codes "values" ++ rest) i)) (wide_by value given m.wide core) here) (
        tt,
        at next i,
        expected (codes "values") rest next word ends stand i,
        (value ∷ given, at (10 ∷ more) i, arguments_listed (value ∷ given) more i all, (tt, at more i, line_ended more i fresh, (refl, refl))),
      ))

  -- a thread begins so, before a text that is no line of numbers from outside
  pub start_says : (v : Version) (s : Start) → Allows v s.arrival → function_of_word m (function_text m s.function) ≡ Some s.function
      → Arguments s.arguments × Arguments s.values × (m.wide ≡ false → s.values ≡ []) → begins (codes "values") (at more i) ≡ false → length i.read.starts < 64
      → (start m v).says (at (start_word s.arrival ++ 32 ∷ (function_text m s.function ++ (arguments_text s.arguments ++ 10 ∷ (values_text s.values ++ more)))) i) tt
      (at more (recorded (with_start s.arrival s.function s.arguments s.values) i))
  unfolding start put_start with_start arguments
  start_says v s allowed named all other room =
      let is_word = function_by (slice_get m.functions s.function) s.function named in
      let after_line = values_text s.values ++ more in
      let afterwards = arguments_text s.arguments ++ 10 ∷ after_line in
      let name = function_text m s.function in
      let has : nat_lt (length i.read.starts) 64 ≡ true = grind (arith, nat_tests) in (
        tt,
        at (start_word s.arrival ++ 32 ∷ (name ++ afterwards)) i,
        (has, refl),
        (
          s.arrival,
          at (name ++ afterwards) i,
          arrival_says (start_word s.arrival) (32 ∷ (name ++ afterwards)) (name ++ afterwards) (start_is_word s.arrival) refl (is_word.1 afterwards) i v s.arrival allowed,
          (
            s.function,
            at (at_argument s.arguments after_line) i,
            function_says name afterwards (at_argument s.arguments after_line) is_word.0 (arguments_end s.arguments after_line) (arguments_stand s.arguments after_line all.0) i m s.function named,
            (
              s.arguments,
              at (10 ∷ after_line) i,
              arguments_listed s.arguments after_line i all.0,
              (
                tt,
                at after_line i,
                line_ended after_line i (fresh_values s.values),
                (s.values, at more i, values_say s.values all.1 all.2 other, (refl, refl)),
              ),
            ),
          ),
        ),
      )

  -- the first word of a thread's line
  pub start_begins : (s : Start) → function_of_word m (function_text m s.function) ≡ Some s.function
      → word (at (start_word s.arrival ++ 32 ∷ (function_text m s.function ++ (arguments_text s.arguments ++ 10 ∷ more))) i) ≡ start_word s.arrival
  start_begins s named =
      let afterwards = arguments_text s.arguments ++ 10 ∷ more in
      let name = function_text m s.function in
      let is_word = function_by (slice_get m.functions s.function) s.function named in
      word_is (start_word s.arrival) (32 ∷ (name ++ afterwards)) (name ++ afterwards) (start_is_word s.arrival) refl (is_word.1 afterwards) i

module _ (more : Text) (fresh : IsFresh more) (i : Input) where
  count_says : (actor : Actor) (count : ℕ) → i.read.made + count ≤ 10000000
      → (steps_of actor).says (at (decimal count ++ 10 ∷ more) i) tt (at more (recorded (with_steps actor count) i))
  count_says actor count few =
      let narrow : count < 2 ^ 32 = omega (arith, few) in
      let wide : count < 2 ^ 64 = omega (arith, few) in
      (tt, at (10 ∷ more) (recorded (with_steps actor count) i), steps_say count (10 ∷ more) (10 ∷ more) wide refl refl i narrow actor few, line_ended more (recorded (with_steps actor count) i) fresh)

  stands : (count : ℕ) → i.read.made + count ≤ 10000000 → past_blanks (decimal count ++ 10 ∷ more) ≡ decimal count ++ 10 ∷ more
  stands count few = let wide : count < 2 ^ 64 = omega (arith, few) in inner_stays (decimal count) (10 ∷ more) (number_has_bytes count wide) (number_is_inner count wide)

  pub thread_steps_say : (thread count : ℕ) → thread < length i.read.starts → length i.read.starts ≤ 64 → i.read.made + count ≤ 10000000
      → steps_line.says (at (codes "t " ++ (decimal thread ++ 32 ∷ (decimal count ++ 10 ∷ more))) i) tt (at more (recorded (with_steps (actor.Thread thread) count) i))
  unfolding steps_line
  thread_steps_say thread count begun few_threads few =
      let narrow : thread < 2 ^ 32 = omega (arith, begun, few_threads) in
      let wide : thread < 2 ^ 64 = omega (arith, begun, few_threads) in
      let afterwards = 32 ∷ (decimal count ++ 10 ∷ more) in
      let text = codes "t " ++ (decimal thread ++ afterwards) in
      let here = inner_stays (decimal thread) afterwards (number_has_bytes thread wide) (number_is_inner thread wide) in
      let word = inner_word (codes "t") refl in
      looked (begins (codes "t")) steps_by (at text i) true tt (at more (recorded (with_steps (actor.Thread thread) count) i))
      (begins_so (codes "t") (32 ∷ (decimal thread ++ afterwards)) (decimal thread ++ afterwards) word refl here i (codes "t")) (
        tt,
        at (decimal thread ++ afterwards) i,
        skipped (codes "t") (32 ∷ (decimal thread ++ afterwards)) (decimal thread ++ afterwards) word refl here i,
        (
          thread,
          at (decimal count ++ 10 ∷ more) i,
          thread_says thread afterwards (decimal count ++ 10 ∷ more) wide refl (stands count few) i narrow begun,
          count_says (actor.Thread thread) count few,
        ),
      )

  pub collector_steps_say : (count : ℕ) → i.read.made + count ≤ 10000000
      → steps_line.says (at (codes "c " ++ (decimal count ++ 10 ∷ more)) i) tt (at more (recorded (with_steps actor.Collector count) i))
  unfolding steps_line
  collector_steps_say count few =
      let next = decimal count ++ 10 ∷ more in
      let word = inner_word (codes "c") refl in
      looked (begins (codes "t")) steps_by (at (codes "c " ++ next) i) false tt (at more (recorded (with_steps actor.Collector count) i))
      (begins_so (codes "c") (32 ∷ next) next word refl (stands count few) i (codes "t"))
      (tt, at next i, expected (codes "c") (32 ∷ next) next word refl (stands count few) i, count_says actor.Collector count few)

  -- nor do lines of steps end the list of steps
  pub thread_begins : (thread count : ℕ) → thread < length i.read.starts → length i.read.starts ≤ 64 → (wanted : Text)
      → begins wanted (at (codes "t " ++ (decimal thread ++ 32 ∷ (decimal count ++ 10 ∷ more))) i) ≡ bytes_eq (codes "t") wanted
  thread_begins thread count begun few_threads wanted =
      let wide : thread < 2 ^ 64 = omega (arith, begun, few_threads) in
      let afterwards = 32 ∷ (decimal count ++ 10 ∷ more) in
      begins_so (codes "t") (32 ∷ (decimal thread ++ afterwards)) (decimal thread ++ afterwards) (inner_word (codes "t") refl) refl (inner_stays (decimal thread) afterwards (number_has_bytes thread wide) (number_is_inner thread wide)) i wanted

  pub collector_begins : (count : ℕ) → i.read.made + count ≤ 10000000 → (wanted : Text) → begins wanted (at (codes "c " ++ (decimal count ++ 10 ∷ more)) i) ≡ bytes_eq (codes "c") wanted
  collector_begins count few wanted =
      let next = decimal count ++ 10 ∷ more in
      begins_so (codes "c") (32 ∷ next) next (inner_word (codes "c") refl) refl (stands count few) i wanted
