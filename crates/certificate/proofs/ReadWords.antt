-- What the forms of words, numbers and names leave as it was, and what they return.
use Rattle.std.proofs.Common.{◌≡◌, ℕ, zero, suc, ◌<◌, Bool, true, false, cond, ◌||◌, nat_lt, List, [], ◌∷◌, length, slice_get, Option, Some, None, is_some, refl, ap, sym, subst, ◌∙◌, arith}
use Rattle.std.specs.Prelude.{◌==◌, if◌then◌else◌}
use Rattle.std.specs.List.{list_any, position_or_len}
use Rattle.std.specs.Str.{bytes_eq}
use Rattle.std.proofs.lemmas.Bool.{eq-eqb, ltb-true}
use Rattle.ir_ast.specs.Names.{place_of}
use Rattle.ir_ast.specs.declared.function.Function.{Function}
use Rattle.ir_ast.specs.declared.function.LocalSort.{LocalSort}
use Rattle.ir_ast.specs.declared.function.LocalSort.TheVariants as local
use Rattle.ir_ast.specs.declared.module.Module.{Module}
use Rattle.pools.specs.declared.word_set.WordSet.{WordSet}
use Rattle.types.specs.Globals.{global_named}
use Rattle.types.specs.References.{struct_named, struct_in}
use Rattle.ir_tokens.specs.Bytes.{Text as Bytes}
use Rattle.certs.specs.Fits.{small, from_one}
use Rattle.name_text.specs.Numbers.{is_number, decimal, number_of_word}
use Rattle.name_text.specs.Naming.{name_in}
use Rattle.certificate.specs.Numbers.{count_of_word, bits_of_word, words_of_word}
use Rattle.certificate.specs.Names as names
use Rattle.certificate.specs.Names.{global_of_word, value_of_word, value_named, value_at, value_by, layout_of_word, layout_named, struct_at}
use Rattle.certs.specs.Families.{refers_to}
use Rattle.certificate.specs.Input.{Input, Form}
use Rattle.name_text.specs.Reader.{word, begins, after, next_line}
use Rattle.certificate.specs.Forms.{taken_if, flag, flag_by, count, word_set, mark_of_word, marked, age, age_by, age_of_word, layout_by, layout_name}
use Rattle.name_text.specs.Forms.{skip, taken, taken_as, expect, line_end}
use Rattle.certs.specs.Fits.{is_count, stands_for, layout_fits, words_fit, is_value_sort, is_value}
use Rattle.certificate.proofs.ReadSets.{read_words_fit}
use Rattle.certs.specs.declared.family.Family.{Family}
use Rattle.certificate.specs.declared.naming.Naming.{Naming}
use Rattle.certificate.specs.declared.naming.Naming.TheVariants as naming
use Rattle.name_text.specs.declared.naming.Sigil.TheVariants as sigil
use Rattle.certs.specs.declared.section.Age.{Age}
use Rattle.certificate.specs.declared.mistake.Mistake.{Mistake}

-- ---- forms that change nothing but what is left of the text

-- what is read so far; the form changes nothing else
abbrev pub still : Input → Input
still i = record i { rest = [] }

abbrev pub Still : {A : Type 0} → Form A → Type 0
Still {A = A} g = (i : Input) (a : A) (o : Input) → g.says i a o → still i ≡ still o

pub still_skip : Still skip
unfolding skip after
still_skip i a o h = ap still h.1

pub still_taken : {A : Type 0} (x : A) → Still (taken x)
still_taken x i a o h = still_skip i h.0 h.1 h.2 ∙ ap still h.3.1

pub taken_is : {A : Type 0} (x : A) (i : Input) (a : A) (o : Input) → (taken {M = Mistake} x).says i a o → x ≡ a
taken_is x i a o h = h.3.0

pub still_expect : (wanted : Bytes) → Still (expect wanted)
unfolding expect
still_expect wanted i a o h = ap still h.2.1 ∙ still_skip h.1 a o h.3

pub still_line_end : Still line_end
unfolding line_end next_line
still_line_end i a o h = ap still h.2.1 ∙ ap still h.3.1

pub still_flag : (wanted : Bytes) → Still (flag wanted)
unfolding flag
still_flag wanted i a o h = by (begins wanted i) h
  where
    by : (b : Bool) → (flag_by b).says i a o → still i ≡ still o
    by true h = still_taken true i a o h
    by false h = ap still h.1

pub still_as : {A : Type 0} (x : Option A) → Still (taken_as x)
still_as None i a o h = absurd h
still_as (Some x) i a o h = still_taken x i a o h

pub as_is : {A : Type 0} (x : Option A) (i : Input) (a : A) (o : Input) → (taken_as {M = Mistake} x).says i a o → x ≡ Some a
as_is None i a o h = absurd h
as_is (Some x) i a o h = ap (λ y. Some y) (taken_is x i a o h)

pub still_marked : Still marked
unfolding marked
still_marked i a o h = still_as (mark_of_word (word i)) i a o h

pub still_age : Still age
unfolding age
still_age i a o h = by (age_of_word (word i)) h
  where
    by : (x : Option Age) → (age_by x).says i a o → still i ≡ still o
    by (Some given) h = still_taken given i a o h
    by None h = ap still h.1

-- ---- numbers and words

pub number_is : (w : Bytes) (n : ℕ) → number_of_word w ≡ Some n → small n ≡ Some n
number_is w n e = by (is_number w) (nat_lt (decimal w) 18446744073709551616) refl e
  where
    by : (b t : Bool) → nat_lt (decimal w) 18446744073709551616 ≡ t → (if b then (if t then Some (decimal w) else None) else None) ≡ Some n → small n ≡ Some n
    by false t is e = absurd cc
    by true false is e = absurd cc
    by true true is e = let same : decimal w ≡ n = cc in subst (λ x. small x ≡ Some x) same (rw is refl)

pub from_is : (x : Option ℕ) (n : ℕ) → from_one x ≡ Some n → x ≡ Some n
from_is None n e = absurd cc
from_is (Some k) n e = by (k == 0) e
  where
    by : (b : Bool) → (if b then None else Some k) ≡ Some n → Some k ≡ Some n
    by true e = absurd cc
    by false e = e

pub count_fits : (w : Bytes) (n : ℕ) → count_of_word w ≡ Some n → is_count n ≡ true
count_fits w n e =
    let is = from_is (number_of_word w) n e in
    let same : from_one (Some n) ≡ Some n = ap from_one (sym is) ∙ e in
    ap (λ x. is_some (from_one x)) (number_is w n is) ∙ ap is_some same

pub count_is : (i : Input) (n : ℕ) (o : Input) → count.says i n o → (is_count n ≡ true) × (still i ≡ still o)
unfolding count
count_is i n o h = (count_fits (word i) n (as_is (count_of_word (word i)) i n o h), still_as (count_of_word (word i)) i n o h)

pub word_set_is : (i : Input) (set : WordSet) (o : Input) → word_set.says i set o → (words_fit set ≡ true) × (still i ≡ still o)
unfolding word_set
word_set_is i set o h = (read_words_fit (word i) set (as_is (words_of_word (word i)) i set o h), still_as (words_of_word (word i)) i set o h)

pub bits_are : (w : Bytes) (n : ℕ) → bits_of_word w ≡ Some n → small n ≡ Some n
bits_are [] n e = absurd cc
bits_are (byte ∷ digits) n e = by (byte == 105) e
  where
    by : (b : Bool) → (if b then number_of_word digits else None) ≡ Some n → small n ≡ Some n
    by true e = number_is digits n e
    by false e = absurd cc

-- ---- names

pub placed_within : (name : Bytes) (xs : List Bytes) (n : ℕ) → place_of name xs ≡ Some n → n < length xs
placed_within name xs n e = by (position_or_len (bytes_eq name) xs) (length xs) (nat_lt (position_or_len (bytes_eq name) xs) (length xs)) refl e
  where
    by : (at end : ℕ) (b : Bool) → nat_lt at end ≡ b → cond b (Some at) None ≡ Some n → n < end
    by at end true is e = let same : at ≡ n = cc in let below = ltb-true at end is in omega (arith, same, below)
    by at end false is e = absurd cc

-- a value that a word names
pub value_is : (f : Function) (w : Bytes) (v : ℕ) → value_of_word f w ≡ naming.Named v → (v < length f.locals) × (is_value f v ≡ true)
value_is f w v e = by_name (name_in sigil.Local w) e
  where
    by_sort : (p : ℕ) (s : Option LocalSort) → slice_get f.sorts p ≡ s → value_by (Some p) s ≡ naming.Named v → (p ≡ v) × (is_value_sort s ≡ true)
    by_sort p None is e = absurd cc
    by_sort p (Some (local.Value written)) is e = (let q : p ≡ v = cc in q, refl)
    by_sort p (Some (local.Slot held)) is e = (let q : p ≡ v = cc in q, refl)
    by_sort p (Some (local.Element block place)) is e = (let q : p ≡ v = cc in q, refl)
    by_sort p (Some local.Unknown) is e = absurd cc
    by_sort p (Some (local.Block block)) is e = absurd cc

    by_place : (name : Bytes) (p : Option ℕ) → place_of name f.locals ≡ p → value_at f p ≡ naming.Named v → (v < length f.locals) × (is_value f v ≡ true)
    by_place name None is e = absurd cc
    by_place name (Some p) is e =
        let q = by_sort p (slice_get f.sorts p) refl e in
        let below = placed_within name f.locals p is in
        (omega (arith, below, q.0), ap (λ x. is_value f x) (sym q.0) ∙ q.1)

    by_name : (n : Option Bytes) → value_named f n ≡ naming.Named v → (v < length f.locals) × (is_value f v ≡ true)
    by_name None e = absurd cc
    by_name (Some name) e = by_place name (place_of name f.locals) refl e

-- a layout that a word names
pub layout_is : (m : Module) (w : Bytes) (l : ℕ) → layout_of_word m w ≡ naming.Named l → list_any (stands_for l) m.struct_of ≡ true
layout_is m w l e = by_name (name_in sigil.Layout (37 ∷ w)) e
  where
    or_true : (a b : Bool) → b ≡ true → (a || b) ≡ true
    or_true true b e = refl
    or_true false b e = e

    found : (xs : List (Option ℕ)) (i : ℕ) → struct_in (slice_get xs i) ≡ Some l → list_any (stands_for l) xs ≡ true
    found [] i e = absurd cc
    found (x ∷ xs) zero e = rw (ap (stands_for l) e ∙ eq-eqb l l refl) refl
    found (x ∷ xs) (suc i) e = or_true (stands_for l x) (list_any (stands_for l) xs) (found xs i e)

    by_layout : (x : Option ℕ) → names.layout_by x ≡ naming.Named l → x ≡ Some l
    by_layout None e = absurd cc
    by_layout (Some k) e = let q : k ≡ l = cc in ap (λ y. Some y) q

    by_place : (p : Option ℕ) → names.layout_by (struct_at m p) ≡ naming.Named l → list_any (stands_for l) m.struct_of ≡ true
    by_place None e = absurd cc
    by_place (Some p) e = found m.struct_of p (by_layout (struct_named m p) e)

    by_name : (n : Option Bytes) → layout_named m n ≡ naming.Named l → list_any (stands_for l) m.struct_of ≡ true
    by_name None e = absurd cc
    by_name (Some name) e = by_place (place_of name m.struct_names) e

-- a global that a word names
pub global_is : (m : Module) (w : Bytes) (s : ℕ) → global_of_word m w ≡ naming.Named s → is_some (global_named m s) ≡ true
global_is m w s e = by_name (name_in sigil.Global w) e
  where
    by_global : (p : ℕ) (g : Option ℕ) → global_named m p ≡ g → names.global_by p g ≡ naming.Named s → is_some (global_named m s) ≡ true
    by_global p None is e = absurd cc
    by_global p (Some g) is e = let q : p ≡ s = cc in ap (λ x. is_some (global_named m x)) (sym q) ∙ ap is_some is

    by_place : (p : Option ℕ) → names.global_at m p ≡ naming.Named s → is_some (global_named m s) ≡ true
    by_place None e = absurd cc
    by_place (Some p) e = by_global p (global_named m p) refl e

    by_name : (n : Option Bytes) → names.global_of_name m n ≡ naming.Named s → is_some (global_named m s) ≡ true
    by_name None e = absurd cc
    by_name (Some name) e = by_place (place_of name m.symbols) e

pub layout_name_is : (m : Module) (family : Family) (i : Input) (l : ℕ) (o : Input) → (layout_name m family).says i l o → (layout_fits m family l ≡ true) × (still i ≡ still o)
unfolding layout_name
layout_name_is m family i l o h = by (layout_of_word m (word i)) refl h
  where
    fits_by : (b : Bool) (k : ℕ) → refers_to k family ≡ b → (taken_if b k).says i l o → list_any (stands_for k) m.struct_of ≡ true → (layout_fits m family l ≡ true) × (still i ≡ still o)
    fits_by false k is h known = absurd h
    fits_by true k is h known = (subst (λ x. layout_fits m family x ≡ true) (taken_is k i l o h) (rw (is, known) refl), still_taken k i l o h)

    by : (n : Naming) → layout_of_word m (word i) ≡ n → (layout_by family n).says i l o → (layout_fits m family l ≡ true) × (still i ≡ still o)
    by naming.NoName is h = absurd h
    by naming.Unknown is h = absurd h
    by (naming.Named k) is h = fits_by (refers_to k family) k refl h (layout_is m (word i) k is)
