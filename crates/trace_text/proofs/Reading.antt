-- How printed words and lines are read.
use Rattle.std.proofs.Common.{◌≡◌, ℕ, ◌+◌, ◌<◌, ◌≤◌, ◌^◌, true, false, ◌∷◌, ◌++◌, length, Some, None, refl, ap, sym, subst, ◌∙◌, arith}
use Rattle.std.specs.Prelude.{slice_get, nat_le, nat_lt}
use Rattle.std.specs.Fmt.{decimal}
use Rattle.std.specs.Str.{bytes_eq}
use Rattle.std.proofs.lemmas.Bool.Decides.{nat_tests}
use Rattle.ir_ast.specs.declared.module.Module.{Module}
use Rattle.grammar.specs.Grammar.{look}
use Rattle.ir_tokens.specs.Bytes.{Text}
use Rattle.name_text.specs.Words.{past_blanks, past_lines, stops}
use Rattle.name_text.specs.Numbers.{number_of_word}
use Rattle.name_text.specs.Reader.{recorded}
use Rattle.trace_text.specs.Numbers.{count_of_word}
use Rattle.trace_text.specs.Names.{function_of_word, layout_of_word}
use Rattle.trace_text.specs.Input.{Input, Form, with_steps}
use Rattle.name_text.specs.Reader.{word, begins, after, next_line}
use Rattle.trace_text.specs.Arrivals.{arrival, arrival_of_word, version, version_of_word}
use Rattle.trace_text.specs.Forms.{function_name, new_layout, layout_named, layout_by, cell_count, argument, thread, thread_numbered, thread_by, step_count, steps_counted, steps_by, put_steps}
use Rattle.name_text.specs.Forms.{skip, taken, taken_as, expect, line_end}
use Rattle.moves.specs.declared.actor.Actor.{Actor}
use Rattle.trace_text.specs.declared.trace.Arrival.{Arrival}
use Rattle.trace_text.specs.declared.versions.Version.{Version}
use Rattle.name_text.specs.Spelled.{number_read, number_is_inner}
use Rattle.name_text.specs.Equal.{same_bytes}
use Rattle.trace_text.proofs.Seams.{IsWord, word_before, count_read, inner_word}
use Rattle.trace_text.specs.declared.mistake.TraceMistake.{TraceMistake}

-- with this text left
abbrev pub at : Text → Input → Input
at text i = record i { rest = text }

-- what a form says where the state tells it
pub looked : {K A : Type 0} (kind : Input → K) (f : K → Form A) (i : Input) (k : K) (a : A) (o : Input) → kind i ≡ k → (f k).says i a o → (look kind f).says i a o
looked kind f i k a o e h = subst (λ x. (f x).says i a o) (sym e) h

-- no line and no blank comes before the text
abbrev pub IsFresh : Text → Type 0
IsFresh text = past_lines false text ≡ text

module _ (w rest next : Text) (is_word : IsWord w) (ends : stops rest ≡ true) (blanks : past_blanks rest ≡ next) (i : Input) where
  afterwards : after (at (w ++ rest) i) ≡ at next i
  unfolding after
  afterwards = ap (λ (text : Text). at (past_blanks text) i) (is_word rest ends) ∙ ap (λ (text : Text). at text i) blanks

  pub word_is : word (at (w ++ rest) i) ≡ w
  word_is = word_before w rest is_word ends

  pub skipped : (skip {M = TraceMistake}).says (at (w ++ rest) i) tt (at next i)
  unfolding skip
  skipped = (refl, afterwards)

  pub taken_says : {A : Type 0} (a : A) → (taken {M = TraceMistake} a).says (at (w ++ rest) i) a (at next i)
  taken_says a = (tt, at next i, skipped, (refl, refl))

  pub begins_so : (wanted : Text) → begins wanted (at (w ++ rest) i) ≡ bytes_eq w wanted
  begins_so wanted = ap (λ (text : Text). bytes_eq text wanted) word_is

  pub expected : (expect {M = TraceMistake} w).says (at (w ++ rest) i) tt (at next i)
  unfolding expect
  expected = (tt, at (w ++ rest) i, (begins_so w ∙ same_bytes w, refl), skipped)

  pub function_says : (m : Module) (function : ℕ) → function_of_word m w ≡ Some function → (function_name m).says (at (w ++ rest) i) function (at next i)
  unfolding function_name
  function_says m function named =
      looked (λ i. function_of_word m (word i)) taken_as (at (w ++ rest) i) (Some function) function (at next i) (ap (function_of_word m) word_is ∙ named) (taken_says function)

  pub version_says : (v : Version) → version_of_word w ≡ Some v → version.says (at (w ++ rest) i) v (at next i)
  unfolding version
  version_says v is = looked (λ i. version_of_word (word i)) taken_as (at (w ++ rest) i) (Some v) v (at next i) (ap version_of_word word_is ∙ is) (taken_says v)

  pub arrival_says : (v : Version) (begun : Arrival) → arrival_of_word v w ≡ Some begun → (arrival v).says (at (w ++ rest) i) begun (at next i)
  unfolding arrival
  arrival_says v begun is = looked (λ i. arrival_of_word v (word i)) taken_as (at (w ++ rest) i) (Some begun) begun (at next i) (ap (arrival_of_word v) word_is ∙ is) (taken_says begun)

  pub layout_says : (m : Module) (layout : ℕ) → layout_of_word m w ≡ Some layout → slice_get i.read.counts layout ≡ Some None → (new_layout m).says (at (w ++ rest) i) layout (at next i)
  unfolding new_layout
  layout_says m layout named free =
      looked (λ i. layout_of_word m (word i)) layout_named (at (w ++ rest) i) (Some layout) layout (at next i) (ap (layout_of_word m) word_is ∙ named)
      (looked (λ i. slice_get i.read.counts layout) (layout_by layout) (at (w ++ rest) i) (Some None) layout (at next i) free (taken_says layout))

module _ (n : ℕ) (rest next : Text) (less : n < 2 ^ 64) (ends : stops rest ≡ true) (blanks : past_blanks rest ≡ next) (i : Input) where
  number_word : IsWord (decimal n)
  number_word = inner_word (decimal n) (number_is_inner n less)

  digits_are : word (at (decimal n ++ rest) i) ≡ decimal n
  digits_are = word_is (decimal n) rest next number_word ends blanks i

  number_taken : (taken {M = TraceMistake} n).says (at (decimal n ++ rest) i) n (at next i)
  number_taken = taken_says (decimal n) rest next number_word ends blanks i n

  pub argument_says : argument.says (at (decimal n ++ rest) i) n (at next i)
  unfolding argument
  argument_says = looked (λ i. number_of_word (word i)) taken_as (at (decimal n ++ rest) i) (Some n) n (at next i) (ap number_of_word digits_are ∙ number_read n less) number_taken

  count_is : n < 2 ^ 32 → count_of_word (word (at (decimal n ++ rest) i)) ≡ Some n
  count_is narrow = ap count_of_word digits_are ∙ count_read n narrow

  pub cells_say : n < 2 ^ 32 → cell_count.says (at (decimal n ++ rest) i) n (at next i)
  unfolding cell_count
  cells_say narrow = looked (λ i. count_of_word (word i)) taken_as (at (decimal n ++ rest) i) (Some n) n (at next i) (count_is narrow) number_taken

  pub thread_says : n < 2 ^ 32 → n < length i.read.starts → thread.says (at (decimal n ++ rest) i) n (at next i)
  unfolding thread
  thread_says narrow begun =
      let is_thread : nat_lt n (length i.read.starts) ≡ true = grind (arith, nat_tests) in
      looked (λ i. count_of_word (word i)) thread_numbered (at (decimal n ++ rest) i) (Some n) n (at next i) (count_is narrow)
      (looked (λ i. nat_lt n (length i.read.starts)) (thread_by n) (at (decimal n ++ rest) i) true n (at next i) is_thread number_taken)

  pub steps_say : n < 2 ^ 32 → (actor : Actor) → i.read.made + n ≤ 10000000 → (step_count actor).says (at (decimal n ++ rest) i) tt (at next (recorded (with_steps actor n) i))
  unfolding step_count put_steps with_steps
  steps_say narrow actor few =
      let fits : nat_le (i.read.made + n) 10000000 ≡ true = grind (arith, nat_tests) in
      looked (λ i. count_of_word (word i)) (steps_counted actor) (at (decimal n ++ rest) i) (Some n) tt (at next (recorded (with_steps actor n) i)) (count_is narrow)
      (looked (λ i. nat_le (i.read.made + n) 10000000) (steps_by actor n) (at (decimal n ++ rest) i) true tt (at next (recorded (with_steps actor n) i)) fits
      (tt, at (decimal n ++ rest) (recorded (with_steps actor n) i), (refl, refl), skipped (decimal n) rest next number_word ends blanks (recorded (with_steps actor n) i)))

-- the end of a line before such a text
pub line_ended : (more : Text) (i : Input) → IsFresh more → (line_end {M = TraceMistake}).says (at (10 ∷ more) i) tt (at more i)
unfolding line_end next_line
line_ended more i fresh = (tt, at (10 ∷ more) i, (refl, refl), (refl, ap (λ (text : Text). at text i) fresh))
