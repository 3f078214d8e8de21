-- Printed lines are read as what they were printed for.
use Rattle.std.proofs.Common.{◌≡◌, ℕ, Bool, true, false, ◌&&◌, ◌||◌, List, [], ◌∷◌, ◌++◌, length, slice_get, codes, Option, Some, None, is_some, is_none, refl, ap, ap₂, sym, subst, ◌∙◌, inl, inr, ◌⊎◌, append_assoc}
use Rattle.std.specs.Prelude.{◌==◌, if◌then◌else◌, unwrap_or}
use Rattle.std.specs.List.{list_any}
use Rattle.std.specs.Str.{bytes_eq}
use Rattle.std.specs.Fmt.{decimal}
use Rattle.std.proofs.lemmas.Bool.{eqb-true}
use Rattle.lemmas.specs.Bools.{and_second, and_first, and_parts, or_parts}
use Rattle.ir_ast.specs.declared.function.Function.{Function}
use Rattle.ir_ast.specs.declared.function.LocalSort.{LocalSort}
use Rattle.ir_ast.specs.declared.function.LocalSort.TheVariants as local
use Rattle.ir_ast.specs.declared.module.Module.{Module}
use Rattle.pools.specs.declared.word_set.WordSet.{WordSet}
use Rattle.types.specs.Globals.{global_named}
use Rattle.ir_tokens.specs.Bytes.{Text}
use Rattle.name_text.specs.Words.{begins_with, past_blanks, past_lines, word_at, stops, is_word}
use Rattle.certs.specs.Fits.{small}
use Rattle.certificate.specs.Numbers.{count_of_word, words_of_word}
use Rattle.certificate.specs.Names.{value_of_word, global_of_word, layout_of_word}
use Rattle.certs.specs.Families.{family_of_value, family_of_sort, is_reference, is_address, may_be_outside, refers_to, same_bits}
use Rattle.certs.specs.RootNames.{root_names}
use Rattle.certificate.specs.Drafts.{wanting, listing, listing_slot, is_in}
use Rattle.certificate.specs.Input.{Input, wants, with_claim, with_slot_claim}
use Rattle.name_text.specs.Reader.{recorded, left, word, begins, after, next_line}
use Rattle.certificate.specs.Forms.{taken_if, flag, flag_by, count, word_set, age, age_by, age_of_word, free_by, new_value, new_value_named, new_slot, root_by, slot_named, want, listed_by, listed_name, layout_by, layout_name, put_value, put_slot}
use Rattle.name_text.specs.Forms.{skip, taken, taken_as, expect, line_end}
use Rattle.certificate.specs.Lines.{number_head, bits_head, head_by, below_by, below, listed_if, listed_after, number, reference, words_of_cell, global_by, global_address, address_by, address, fact_by, fact_of, fact_end, slot_end, value_claim, slot_claim, line_by, line}
use Rattle.certs.specs.Fits.{is_count, below_fits, stands_for, layout_fits, words_fit, is_outside_fact, fact_fits, is_value_sort, is_value, claim_fits, named_in_fact, named_in}
use Rattle.certificate.specs.Named.{IsNamed, IsNamedFunction}
use Rattle.certificate.specs.Print.{word_if, below_text, value_text, age_text, words_text, fact_text, claim_text, local_text, global_text, layout_text}
use Rattle.name_text.specs.Seams.{past_word_on, word_on, blanks_on, all_bytes}
use Rattle.name_text.specs.Equal.{same_bytes}
use Rattle.certificate.proofs.PrintedWords.{small_is, count_read, bits_read}
use Rattle.certificate.proofs.PrintedSets.{words_read}
use Rattle.certificate.proofs.PrintedNames.{value_printed, global_printed, layout_printed}
use Rattle.certs.specs.declared.family.Family.{Family}
use Rattle.certs.specs.declared.family.Family.TheVariants as fam
use Rattle.certificate.specs.declared.facts.Head.TheVariants as head
use Rattle.certs.specs.declared.section.Age.{Age}
use Rattle.certs.specs.declared.section.Age.TheVariants as ages
use Rattle.certs.specs.declared.section.Fact.{Fact}
use Rattle.certs.specs.declared.section.Fact.TheVariants as fact
use Rattle.certs.specs.declared.section.Claim.{Claim}
use Rattle.certs.specs.declared.section.Claim.TheVariants as line
use Rattle.certificate.specs.declared.mistake.Mistake.{Mistake}

-- ---- one word

-- this text is left
abbrev pub at : Input → Text → Input
at i text = record i { rest = text }

-- after a word comes this
abbrev pub ComesAfter : (t u : Text) → Type 0
ComesAfter t u = (stops t ≡ true) × (past_blanks t ≡ u)

pub skip_on : (i : Input) (w t u : Text) → is_word w ≡ true → ComesAfter t u → (skip {M = Mistake}).says (at i (w ++ t)) tt (at i u)
unfolding skip after
skip_on i w t u e b = (refl, ap (λ x. at i (past_blanks x)) (past_word_on false w t (all_bytes w e) b.0) ∙ ap (at i) b.1)

pub word_is : (i : Input) (w t u : Text) → is_word w ≡ true → ComesAfter t u → word (at i (w ++ t)) ≡ w
word_is i w t u e b = word_on w t (all_bytes w e) b.0

pub taken_on : {A : Type 0} (x : A) (i : Input) (w t u : Text) → is_word w ≡ true → ComesAfter t u → (taken {M = Mistake} x).says (at i (w ++ t)) x (at i u)
taken_on x i w t u e b = (tt, at i u, skip_on i w t u e b, (refl, refl))

pub expect_on : (i : Input) (w t u : Text) → is_word w ≡ true → ComesAfter t u → (expect {M = Mistake} w).says (at i (w ++ t)) tt (at i u)
unfolding expect
expect_on i w t u e b = (tt, at i (w ++ t), (ap (λ x. bytes_eq x w) (word_is i w t u e b) ∙ same_bytes w, refl), skip_on i w t u e b)

pub line_end_on : (i : Input) (t u : Text) → past_lines false t ≡ u → (line_end {M = Mistake}).says (at i (10 ∷ t)) tt (at i u)
unfolding line_end next_line
line_end_on i t u e = (tt, at i (10 ∷ t), (refl, refl), (refl, ap (at i) e))

pub as_on : {A : Type 0} (f : Text → Option A) (a : A) (i : Input) (w t u : Text) → is_word w ≡ true → ComesAfter t u → f w ≡ Some a → (taken_as {M = Mistake} (f (word (at i (w ++ t))))).says (at i (w ++ t)) a (at i u)
as_on f a i w t u e b is = subst (λ x. (taken_as {M = Mistake} x).says (at i (w ++ t)) a (at i u)) (sym (ap f (word_is i w t u e b) ∙ is)) (taken_on a i w t u e b)

pub count_on : (i : Input) (n : ℕ) (t u : Text) → is_count n ≡ true → ComesAfter t u → count.says (at i (decimal n ++ t)) n (at i u)
unfolding count
count_on i n t u e b = let r = count_read n e in as_on count_of_word n i (decimal n) t u r.1 b r.0

word_set_on : (i : Input) (set : List Bool) (t u : Text) → words_fit set ≡ true → ComesAfter t u → word_set.says (at i (words_text set ++ t)) set (at i u)
unfolding word_set
word_set_on i set t u e b = let r = words_read set e in as_on words_of_word set i (words_text set) t u r.1 b r.0

pub flag_yes : (i : Input) (w t u : Text) → is_word w ≡ true → ComesAfter t u → (flag w).says (at i (w ++ t)) true (at i u)
unfolding flag
flag_yes i w t u e b = subst (λ x. (flag_by x).says (at i (w ++ t)) true (at i u)) (sym (ap (λ x. bytes_eq x w) (word_is i w t u e b) ∙ same_bytes w)) (taken_on true i w t u e b)

pub flag_no : (i : Input) (wanted w t : Text) → word_at t ≡ w → bytes_eq w wanted ≡ false → (flag wanted).says (at i t) false (at i t)
unfolding flag
flag_no i wanted w t e differ = subst (λ x. (flag_by x).says (at i t) false (at i t)) (sym (ap (λ x. bytes_eq x wanted) e ∙ differ)) (refl, refl)

-- there is no word where a line ends
pub no_word : (t : Text) → word_at (10 ∷ t) ≡ []
no_word t = word_on [] (10 ∷ t) refl refl

-- ---- what may follow

below_on : (i : Input) (n : Option ℕ) (t : Text) → below_fits n ≡ true → below.says (at i (past_blanks (below_text n ++ 10 ∷ t))) n (at i (10 ∷ t))
unfolding below
below_on i None t e = subst (λ x. (below_by x).says (at i (10 ∷ t)) None (at i (10 ∷ t))) (sym (ap (λ x. bytes_eq x (codes "below")) (no_word t))) (refl, refl)
below_on i (Some n) t e =
    let afterwards : ComesAfter (32 ∷ (decimal n ++ 10 ∷ t)) (decimal n ++ 10 ∷ t) = (refl, blanks_on (decimal n) (10 ∷ t) (count_read n e).1) in
    subst (λ x. (below_by x).says (at i (codes "below" ++ 32 ∷ (decimal n ++ 10 ∷ t))) (Some n) (at i (10 ∷ t)))
    (sym (ap (λ x. bytes_eq x (codes "below")) (word_is i (codes "below") (32 ∷ (decimal n ++ 10 ∷ t)) (decimal n ++ 10 ∷ t) refl afterwards)))
    (n, at i (10 ∷ t), (tt, at i (decimal n ++ 10 ∷ t), skip_on i (codes "below") (32 ∷ (decimal n ++ 10 ∷ t)) (decimal n ++ 10 ∷ t) refl afterwards, count_on i n (10 ∷ t) (10 ∷ t) e (refl, refl)), (refl, refl))

-- with a value that the block has to list, if there is one
abbrev pub noting : Option ℕ → (left : ℕ) → Input → Input
noting None left i = i
noting (Some value) left i = recorded (λ p. record p { draft = wanting value left p.draft }) i

-- the value that a line names besides its own is a value
abbrev pub IsValue : Function → Option ℕ → Type 0
IsValue f None = Unit {0}
IsValue f (Some value) = is_value f value ≡ true

-- with this line of the block
abbrev pub lined : (block left : ℕ) → Claim → Input → Input
lined block left (line.Value value fact) i = recorded (λ p. record p { draft = listing block value (line.Value value fact) p.draft }) (noting (named_in_fact fact) left i)
lined block left (line.Slot slot nonnull holds) i = recorded (λ p. record p { draft = listing_slot block slot (line.Slot slot nonnull holds) p.draft }) (noting holds left i)

-- the block does not list it so far
abbrev pub IsNew : (block : ℕ) → Claim → Input → Type 0
IsNew block (line.Value value fact) i = is_in block (slice_get i.read.draft.values value) ≡ false
IsNew block (line.Slot slot nonnull holds) i = (unwrap_or (slice_get i.read.draft.roots slot) false ≡ true) × (is_in block (slice_get i.read.draft.slots slot) ≡ false)

-- what refers to cells of a layout is a reference
pub refers_is : (family : Family) (layout : ℕ) → refers_to layout family ≡ true → is_reference family ≡ true
refers_is (fam.Reference own) layout e = refl
refers_is fam.AnyReference layout e = refl
refers_is fam.Opaque layout e = refl
refers_is (fam.Number bits) layout e = absurd cc
refers_is fam.Address layout e = absurd cc
refers_is fam.Nothing layout e = absurd cc

module _ (m : Module) (f : Function) (named : IsNamed m) (own : IsNamedFunction f) where
  listed_on : (i : Input) (value : ℕ) (t u : Text) → is_value f value ≡ true → ComesAfter t u → (listed_name f).says (at i (local_text f value ++ t)) value (at (noting (Some value) (length (local_text f value ++ t)) i) u)
  unfolding listed_name want wants
  listed_on i value t u e b =
      let p = value_printed f value own e in
      let w = local_text f value in
      let here = at i (w ++ t) in
      let now = noting (Some value) (length (w ++ t)) i in
      subst (λ x. (listed_by x).says here value (at now u)) (sym (ap (value_of_word f) (word_is i w t u p.1 b) ∙ p.0))
      (tt, at now u, (tt, at now (w ++ t), (refl, refl), skip_on now w t u p.1 b), (refl, refl))

  -- a word with a value after it, where there is one, and the line's end
  optional_on : (i : Input) (wanted : Text) (value : Option ℕ) (t : Text) → is_word wanted ≡ true → bytes_eq [] wanted ≡ false → IsValue f value
      → (n : ℕ) × (listed_after f wanted).says (at i (past_blanks (value_text f (32 ∷ (wanted ++ 32 ∷ [])) value ++ 10 ∷ t))) value (at (noting value n i) (10 ∷ t))
  unfolding listed_after
  optional_on i wanted None t e differ is = (0, subst (λ x. (listed_if f x).says (at i (10 ∷ t)) None (at i (10 ∷ t))) (sym (ap (λ x. bytes_eq x wanted) (no_word t) ∙ differ)) (refl, refl))
  optional_on i wanted (Some value) t e differ is =
      let p = value_printed f value own is in
      let name = local_text f value in
      let end = name ++ 10 ∷ t in
      let afterwards : ComesAfter (32 ∷ end) end = (refl, blanks_on name (10 ∷ t) p.1) in
      let text : past_blanks ((32 ∷ (wanted ++ 32 ∷ [])) ++ (name ++ 10 ∷ t)) ≡ wanted ++ 32 ∷ end =
      ap past_blanks (ap (λ (x : Text). 32 ∷ x) (append_assoc wanted (32 ∷ []) end)) ∙ blanks_on wanted (32 ∷ end) e in
      let joined : past_blanks (((32 ∷ (wanted ++ 32 ∷ [])) ++ name) ++ 10 ∷ t) ≡ wanted ++ 32 ∷ end = ap past_blanks (append_assoc (32 ∷ (wanted ++ 32 ∷ [])) name (10 ∷ t)) ∙ text in (
        length end,
        subst (λ x. (listed_after f wanted).says (at i x) (Some value) (at (noting (Some value) (length end) i) (10 ∷ t))) (sym joined)
            (subst (λ x. (listed_if f x).says (at i (wanted ++ 32 ∷ end)) (Some value) (at (noting (Some value) (length end) i) (10 ∷ t))) (sym (ap (λ x. bytes_eq x wanted) (word_is i wanted (32 ∷ end) end e afterwards) ∙ same_bytes wanted))
            (value, at (noting (Some value) (length end) i) (10 ∷ t), (tt, at i end, skip_on i wanted (32 ∷ end) end e afterwards, listed_on i value (10 ∷ t) (10 ∷ t) is (refl, refl)), (refl, refl))),
      )

  pub layout_on : (i : Input) (family : Family) (layout : ℕ) (t u : Text) → layout_fits m family layout ≡ true → ComesAfter t u → (layout_name m family).says (at i (layout_text m layout ++ t)) layout (at i u)
  unfolding layout_name
  layout_on i family layout t u e b =
      let p = layout_printed m layout named (and_second (refers_to layout family) (list_any (stands_for layout) m.struct_of) e) in
      let w = layout_text m layout in
      subst (λ x. (layout_by family x).says (at i (w ++ t)) layout (at i u)) (sym (ap (layout_of_word m) (word_is i w t u p.1 b) ∙ p.0))
      (subst (λ x. (taken_if x layout).says (at i (w ++ t)) layout (at i u)) (sym (and_first (refers_to layout family) (list_any (stands_for layout) m.struct_of) e)) (taken_on layout i w t u p.1 b))

  -- ---- facts of references

  -- what follows the age
  abbrev same_end : Option ℕ → Text → Text
  same_end same t = value_text f (codes " same ") same ++ 10 ∷ t

  abbrev same_word : Option ℕ → Text
  same_word None = []
  same_word (Some value) = codes "same"

  same_first : (same : Option ℕ) (t : Text) → (word_at (past_blanks (same_end same t)) ≡ same_word same) × (stops (same_end same t) ≡ true)
  same_first None t = (no_word t, refl)
  same_first (Some value) t = (word_on (codes "same") (32 ∷ (local_text f value ++ 10 ∷ t)) refl refl, refl)

  abbrev age_end : Age → Option ℕ → Text → Text
  age_end how same t = age_text how ++ same_end same t

  abbrev age_word : Age → Option ℕ → Text
  age_word ages.Fresh same = codes "fresh"
  age_word ages.Stale same = codes "stale"
  age_word ages.Held same = same_word same

  age_first : (how : Age) (same : Option ℕ) (t : Text) → (word_at (past_blanks (age_end how same t)) ≡ age_word how same) × (stops (age_end how same t) ≡ true)
  age_first ages.Fresh same t = (word_on (codes "fresh") (same_end same t) refl (same_first same t).1, refl)
  age_first ages.Stale same t = (word_on (codes "stale") (same_end same t) refl (same_first same t).1, refl)
  age_first ages.Held same t = same_first same t

  age_no : (how : Age) (same : Option ℕ) → bytes_eq (age_word how same) (codes "nonnull") ≡ false
  age_no ages.Fresh same = refl
  age_no ages.Stale same = refl
  age_no ages.Held None = refl
  age_no ages.Held (Some value) = refl

  same_no : (same : Option ℕ) → age_of_word (same_word same) ≡ None
  same_no None = refl
  same_no (Some value) = refl

  age_on : (i : Input) (how : Age) (same : Option ℕ) (t : Text) → age.says (at i (past_blanks (age_end how same t))) how (at i (past_blanks (same_end same t)))
  unfolding age
  age_on i ages.Fresh same t = subst (λ x. (age_by x).says (at i (codes "fresh" ++ same_end same t)) ages.Fresh (at i (past_blanks (same_end same t)))) (sym (ap age_of_word (age_first ages.Fresh same t).0)) (taken_on ages.Fresh i (codes "fresh") (same_end same t) (past_blanks (same_end same t)) refl ((same_first same t).1, refl))
  age_on i ages.Stale same t = subst (λ x. (age_by x).says (at i (codes "stale" ++ same_end same t)) ages.Stale (at i (past_blanks (same_end same t)))) (sym (ap age_of_word (age_first ages.Stale same t).0)) (taken_on ages.Stale i (codes "stale") (same_end same t) (past_blanks (same_end same t)) refl ((same_first same t).1, refl))
  age_on i ages.Held same t = subst (λ x. (age_by x).says (at i (past_blanks (same_end same t))) ages.Held (at i (past_blanks (same_end same t)))) (sym (ap age_of_word (same_first same t).0 ∙ same_no same)) (refl, refl)

  abbrev null_end : Bool → Age → Option ℕ → Text → Text
  null_end nonnull how same t = word_if nonnull (codes " nonnull") ++ age_end how same t

  null_stops : (nonnull : Bool) (how : Age) (same : Option ℕ) (t : Text) → stops (null_end nonnull how same t) ≡ true
  null_stops true how same t = refl
  null_stops false how same t = (age_first how same t).1

  null_on : (i : Input) (nonnull : Bool) (how : Age) (same : Option ℕ) (t : Text) → (flag (codes "nonnull")).says (at i (past_blanks (null_end nonnull how same t))) nonnull (at i (past_blanks (age_end how same t)))
  null_on i true how same t = flag_yes i (codes "nonnull") (age_end how same t) (past_blanks (age_end how same t)) refl ((age_first how same t).1, refl)
  null_on i false how same t = flag_no i (codes "nonnull") (age_word how same) (past_blanks (age_end how same t)) (age_first how same t).0 (age_no how same)

  -- ---- facts

  -- a fact after its value's name, and the line's end
  abbrev FactOn : Input → Family → Fact → Text → Type 0
  FactOn i family fact t = (stops (fact_text m f fact ++ 10 ∷ t) ≡ true) × (n : ℕ) × (fact_of m f family).says (at i (past_blanks (fact_text m f fact ++ 10 ∷ t))) fact (at (noting (named_in_fact fact) n i) (10 ∷ t))

  -- the bits of a number are no address outside
  number_bits : (family : Family) (bits : ℕ) → is_some (same_bits family (Some bits)) ≡ true → bits_head m family (Some bits) ≡ head.Number bits
  number_bits (fam.Number own) bits e = pick (own == bits) refl e
    where
      pick : (b : Bool) → own == bits ≡ b → is_some (if b then Some own else None) ≡ true → number_head (if b then Some own else None) ≡ head.Number bits
      pick true is e = ap (λ x. head.Number x) (eqb-true own bits is)
      pick false is e = absurd cc
  number_bits (fam.Reference l) bits e = absurd cc
  number_bits fam.AnyReference bits e = absurd cc
  number_bits fam.Address bits e = absurd cc
  number_bits fam.Opaque bits e = absurd cc
  number_bits fam.Nothing bits e = absurd cc

  bits_are : (family : Family) (bits : ℕ) → is_some (same_bits family (small bits)) ≡ true → (is_some (small bits) ≡ true) × (bits_head m family (Some bits) ≡ head.Number bits)
  bits_are family bits e = by (small bits) refl e
    where
      none : (family : Family) → is_some (same_bits family None) ≡ true → ⊥
      none (fam.Number own) e = cc
      none (fam.Reference l) e = cc
      none fam.AnyReference e = cc
      none fam.Address e = cc
      none fam.Opaque e = cc
      none fam.Nothing e = cc

      by : (x : Option ℕ) → small bits ≡ x → is_some (same_bits family x) ≡ true → (is_some x ≡ true) × (bits_head m family (Some bits) ≡ head.Number bits)
      by None is e = absurd (none family e)
      by (Some n) is e =
          let s = (small_is bits (ap is_some is)).0 in
          (refl, number_bits family bits (ap (λ y. is_some (same_bits family y)) (sym s ∙ is) ∙ e))

  own_number_on : (i : Input) (family : Family) (bits : ℕ) (n : Option ℕ) (t : Text) → is_some (same_bits family (small bits)) ≡ true → below_fits n ≡ true → FactOn i family (fact.Number bits n) t
  unfolding fact_of number
  own_number_on i family bits n t fits low =
      let h = bits_are family bits fits in
      let r = bits_read bits h.0 in
      let w = 105 ∷ decimal bits in
      let end = below_text n ++ 10 ∷ t in
      let afterwards : ComesAfter end (past_blanks end) = (below_stops n, refl) in
      let text : past_blanks (fact_text m f (fact.Number bits n) ++ 10 ∷ t) ≡ w ++ end = ap (λ (x : Text). 105 ∷ x) (append_assoc (decimal bits) (below_text n) (10 ∷ t)) in
      let is : word (at i (w ++ end)) ≡ w = word_is i w end (past_blanks end) r.1 afterwards in
      let kind : head_by m family (word (at i (w ++ end))) ≡ head.Number bits = ap (head_by m family) is ∙ ap (bits_head m family) r.0 ∙ h.1 in (
        refl,
        0,
        subst (λ x. (fact_of m f family).says (at i x) (fact.Number bits n) (at i (10 ∷ t))) (sym text)
            (subst (λ x. (fact_by m f family x).says (at i (w ++ end)) (fact.Number bits n) (at i (10 ∷ t))) (sym kind)
            (tt, at i (past_blanks end), skip_on i w end (past_blanks end) r.1 afterwards, (n, at i (10 ∷ t), below_on i n t low, (refl, refl)))),
      )
    where
      below_stops : (n : Option ℕ) → stops (below_text n ++ 10 ∷ t) ≡ true
      below_stops None = refl
      below_stops (Some k) = refl

  -- an address outside
  outside_on : (i : Input) (family : Family) (t : Text) → may_be_outside m family ≡ true → FactOn i family (fact.Number 64 None) t
  unfolding fact_of
  outside_on i family t outside =
      let w = 105 ∷ decimal 64 in
      let r = bits_read 64 refl in
      let is : word (at i (w ++ 10 ∷ t)) ≡ w = word_is i w (10 ∷ t) (10 ∷ t) r.1 (refl, refl) in
      let kind : head_by m family (word (at i (w ++ 10 ∷ t))) ≡ head.Outside =
      ap (head_by m family) is ∙ ap (bits_head m family) r.0 ∙ ap (λ (x : Bool). if x && true then head.Outside else number_head (same_bits family (Some 64))) outside in
      let text : past_blanks (fact_text m f (fact.Number 64 None) ++ 10 ∷ t) ≡ w ++ 10 ∷ t = ap (λ (x : Text). 105 ∷ x) (append_assoc (decimal 64) [] (10 ∷ t)) in (
        refl,
        0,
        subst (λ x. (fact_of m f family).says (at i x) (fact.Number 64 None) (at i (10 ∷ t))) (sym text)
            (subst (λ x. (fact_by m f family x).says (at i (w ++ 10 ∷ t)) (fact.Number 64 None) (at i (10 ∷ t))) (sym kind) (taken_on (fact.Number 64 None) i w (10 ∷ t) (10 ∷ t) r.1 (refl, refl))),
      )

  number_on : (i : Input) (family : Family) (bits : ℕ) (n : Option ℕ) (t : Text) → fact_fits m family (fact.Number bits n) ≡ true → FactOn i family (fact.Number bits n) t
  number_on i family bits n t e = by (or_parts (is_some (same_bits family (small bits)) && below_fits n) (is_outside_fact m family bits n) e)
    where
      none : (n : Option ℕ) → is_none n ≡ true → n ≡ None
      none None e = refl
      none (Some k) e = absurd cc

      by : ((is_some (same_bits family (small bits)) && below_fits n) ≡ true) ⊎ (is_outside_fact m family bits n ≡ true) → FactOn i family (fact.Number bits n) t
      by (inl own) = let both = and_parts (is_some (same_bits family (small bits))) (below_fits n) own in own_number_on i family bits n t both.0 both.1
      by (inr outside) =
          let both = and_parts (may_be_outside m family) ((bits == 64) && is_none n) outside in
          let what = and_parts (bits == 64) (is_none n) both.1 in
          let same : fact.Number 64 None ≡ fact.Number bits n = ap₂ (λ x y. fact.Number x y) (sym (eqb-true bits 64 what.0)) (sym (none n what.1)) in
          subst (λ x. FactOn i family x t) same (outside_on i family t both.0)

  reference_on : (i : Input) (family : Family) (layout : ℕ) (nonnull : Bool) (how : Age) (same : Option ℕ) (t : Text) → fact_fits m family (fact.Reference layout nonnull how same) ≡ true → IsValue f same → FactOn i family (fact.Reference layout nonnull how same) t
  unfolding fact_of reference
  reference_on i family layout nonnull how same t e is =
      let w = layout_text m layout in
      let a = null_end nonnull how same t in
      let p = layout_printed m layout named (and_second (refers_to layout family) (list_any (stands_for layout) m.struct_of) e) in
      let refers = refers_is family layout (and_first (refers_to layout family) (list_any (stands_for layout) m.struct_of) e) in
      let one : fact_text m f (fact.Reference layout nonnull how same) ++ 10 ∷ t ≡ codes " ref " ++ (w ++ a) =
      ap (λ (x : Text). codes " ref " ++ x)
      (append_assoc (w ++ word_if nonnull (codes " nonnull") ++ age_text how) (value_text f (codes " same ") same) (10 ∷ t)
      ∙ append_assoc (w ++ word_if nonnull (codes " nonnull")) (age_text how) (same_end same t)
      ∙ append_assoc w (word_if nonnull (codes " nonnull")) (age_end how same t)) in
      let first : ComesAfter (32 ∷ (w ++ a)) (w ++ a) = (refl, blanks_on w a p.1) in
      let kind : head_by m family (word (at i (codes "ref" ++ 32 ∷ (w ++ a)))) ≡ head.Reference =
      ap (head_by m family) (word_is i (codes "ref") (32 ∷ (w ++ a)) (w ++ a) refl first) ∙ ap (λ (x : Bool). if x then head.Reference else head.Other) refers in
      let last = optional_on i (codes "same") same t refl refl is in
      let out = at (noting same last.0 i) (10 ∷ t) in (
        refl,
        last.0,
        subst (λ x. (fact_of m f family).says (at i (past_blanks x)) (fact.Reference layout nonnull how same) out) (sym one)
            (subst (λ x. (fact_by m f family x).says (at i (codes "ref" ++ 32 ∷ (w ++ a))) (fact.Reference layout nonnull how same) out) (sym kind) (
              tt,
              at i (w ++ a),
              skip_on i (codes "ref") (32 ∷ (w ++ a)) (w ++ a) refl first,
              (
                layout,
                at i (past_blanks a),
                layout_on i family layout a (past_blanks a) e (null_stops nonnull how same t, refl),
                (
                  nonnull,
                  at i (past_blanks (age_end how same t)),
                  null_on i nonnull how same t,
                  (
                    how,
                    at i (past_blanks (same_end same t)),
                    age_on i how same t,
                    (same, out, last.1, (refl, refl)),
                  ),
                ),
              ),
            )),
      )

  address_on : (i : Input) (family : Family) (base : ℕ) (words : WordSet) (t : Text) → fact_fits m family (fact.Address base words) ≡ true → is_value f base ≡ true → FactOn i family (fact.Address base words) t
  unfolding fact_of address words_of_cell
  address_on i family base words t e is =
      let w = local_text f base in
      let set = words_text words in
      let p = value_printed f base own is in
      let fits = and_second (is_address family) (words_fit words) e in
      let r = words_read words fits in
      let b = set ++ 10 ∷ t in
      let a = 32 ∷ b in
      let one : fact_text m f (fact.Address base words) ++ 10 ∷ t ≡ codes " addr " ++ (w ++ a) =
      ap (λ (x : Text). codes " addr " ++ x) (append_assoc w (32 ∷ set) (10 ∷ t)) in
      let first : ComesAfter (32 ∷ (w ++ a)) (w ++ a) = (refl, blanks_on w a p.1) in
      let kind : head_by m family (word (at i (codes "addr" ++ 32 ∷ (w ++ a)))) ≡ head.Address =
      ap (head_by m family) (word_is i (codes "addr") (32 ∷ (w ++ a)) (w ++ a) refl first) ∙ ap (λ (x : Bool). if x then head.Address else head.Other) (and_first (is_address family) (words_fit words) e) in
      let n = length (w ++ a) in
      let afterwards : ComesAfter a b = (refl, blanks_on set (10 ∷ t) r.1) in
      let other : begins_with 64 (word (at i (w ++ a))) ≡ false = ap (begins_with 64) (word_is i w a b p.1 afterwards) in
      let now = noting (Some base) n i in
      let out = at now (10 ∷ t) in (
        refl,
        n,
        subst (λ x. (fact_of m f family).says (at i (past_blanks x)) (fact.Address base words) out) (sym one)
            (subst (λ x. (fact_by m f family x).says (at i (codes "addr" ++ 32 ∷ (w ++ a))) (fact.Address base words) out) (sym kind) (
              tt,
              at i (w ++ a),
              skip_on i (codes "addr") (32 ∷ (w ++ a)) (w ++ a) refl first,
              subst (λ x. (address_by m f x).says (at i (w ++ a)) (fact.Address base words) out) (sym other) (
                base,
                at now b,
                listed_on i base a b is afterwards,
                (words, out, word_set_on now words (10 ∷ t) (10 ∷ t) fits (refl, refl), (refl, refl)),
              ),
            )),
      )

  global_on : (i : Input) (family : Family) (symbol : ℕ) (t : Text) → fact_fits m family (fact.GlobalAddress symbol) ≡ true → FactOn i family (fact.GlobalAddress symbol) t
  unfolding fact_of address global_address
  global_on i family symbol t e =
      let w = global_text m symbol in
      let a = 10 ∷ t in
      let p = global_printed m symbol named (and_second (is_address family) (is_some (global_named m symbol)) e) in
      let first : ComesAfter (32 ∷ (w ++ a)) (w ++ a) = (refl, blanks_on w a p.1) in
      let kind : head_by m family (word (at i (codes "addr" ++ 32 ∷ (w ++ a)))) ≡ head.Address =
      ap (head_by m family) (word_is i (codes "addr") (32 ∷ (w ++ a)) (w ++ a) refl first) ∙ ap (λ (x : Bool). if x then head.Address else head.Other) (and_first (is_address family) (is_some (global_named m symbol)) e) in
      let is = word_is i w a a p.1 (refl, refl) in (
        refl,
        0,
        subst (λ x. (fact_by m f family x).says (at i (codes "addr" ++ 32 ∷ (w ++ a))) (fact.GlobalAddress symbol) (at i a)) (sym kind) (
          tt,
          at i (w ++ a),
          skip_on i (codes "addr") (32 ∷ (w ++ a)) (w ++ a) refl first,
          subst (λ x. (address_by m f x).says (at i (w ++ a)) (fact.GlobalAddress symbol) (at i a)) (sym (ap (begins_with 64) is))
              (subst (λ x. (global_by x).says (at i (w ++ a)) (fact.GlobalAddress symbol) (at i a)) (sym (ap (global_of_word m) is ∙ p.0)) (taken_on (fact.GlobalAddress symbol) i w a a p.1 (refl, refl))),
        ),
      )

  fact_on : (i : Input) (family : Family) (fact : Fact) (t : Text) → fact_fits m family fact ≡ true → IsValue f (named_in_fact fact) → FactOn i family fact t
  fact_on i family (fact.Number bits n) t e is = number_on i family bits n t e
  fact_on i family (fact.Reference layout nonnull how same) t e is = reference_on i family layout nonnull how same t e is
  fact_on i family (fact.Address base words) t e is = address_on i family base words t e is
  fact_on i family (fact.GlobalAddress symbol) t e is = global_on i family symbol t e

  -- ---- lines

  new_value_on : (i : Input) (block value : ℕ) (t u : Text) → is_value f value ≡ true → is_in block (slice_get i.read.draft.values value) ≡ false → ComesAfter t u → (new_value f block).says (at i (local_text f value ++ t)) value (at i u)
  unfolding new_value
  new_value_on i block value t u is new b =
      let p = value_printed f value own is in
      let w = local_text f value in
      subst (λ x. (new_value_named block x).says (at i (w ++ t)) value (at i u)) (sym (ap (value_of_word f) (word_is i w t u p.1 b) ∙ p.0))
      (subst (λ x. (free_by value x).says (at i (w ++ t)) value (at i u)) (sym new) (taken_on value i w t u p.1 b))

  new_slot_on : (i : Input) (block slot : ℕ) (t u : Text) → is_value f slot ≡ true → unwrap_or (slice_get i.read.draft.roots slot) false ≡ true → is_in block (slice_get i.read.draft.slots slot) ≡ false → ComesAfter t u → (new_slot f block).says (at i (local_text f slot ++ t)) slot (at i u)
  unfolding new_slot
  new_slot_on i block slot t u is root new b =
      let p = value_printed f slot own is in
      let w = local_text f slot in
      subst (λ x. (slot_named block x).says (at i (w ++ t)) slot (at i u)) (sym (ap (value_of_word f) (word_is i w t u p.1 b) ∙ p.0))
      (subst (λ x. (root_by block slot x).says (at i (w ++ t)) slot (at i u)) (sym root)
      (subst (λ x. (free_by slot x).says (at i (w ++ t)) slot (at i u)) (sym new) (taken_on slot i w t u p.1 b)))

  fact_end_on : (i : Input) (fact : Fact) (t u : Text) → past_lines false t ≡ u → (fact_end fact).says (at i (10 ∷ t)) tt (at i u)
  unfolding fact_end
  fact_end_on i fact t u e = (tt, at i (10 ∷ t), (refl, refl), line_end_on i t u e)

  slot_end_on : (i : Input) (nonnull : Bool) (holds : Option ℕ) (t u : Text) → past_lines false t ≡ u → (slot_end nonnull holds).says (at i (10 ∷ t)) tt (at i u)
  unfolding slot_end
  slot_end_on i nonnull holds t u e = (tt, at i (10 ∷ t), (refl, refl), line_end_on i t u e)

  value_claim_on : (i : Input) (block value : ℕ) (fact : Fact) (t u : Text) → is_value f value ≡ true → fact_fits m (family_of_value m f value) fact ≡ true → IsValue f (named_in_fact fact) → is_in block (slice_get i.read.draft.values value) ≡ false → past_lines false t ≡ u
      → (n : ℕ) × (line m f block).says (at i (claim_text m f (line.Value value fact) ++ 10 ∷ t)) tt (at (lined block n (line.Value value fact) i) u)
  unfolding line value_claim put_value with_claim
  value_claim_on i block value fact t u is fits names new e =
      let w = local_text f value in
      let a = fact_text m f fact ++ 10 ∷ t in
      let p = value_printed f value own is in
      let said = fact_on i (family_of_value m f value) fact t fits names in
      let n = said.1 in
      let now = noting (named_in_fact fact) n i in
      let one : claim_text m f (line.Value value fact) ++ 10 ∷ t ≡ w ++ a = append_assoc w (fact_text m f fact) (10 ∷ t) in
      let b : ComesAfter a (past_blanks a) = (said.0, refl) in
      let kind : begins (codes "slot") (at i (w ++ a)) ≡ false = ap (λ x. bytes_eq x (codes "slot")) (word_is i w a (past_blanks a) p.1 b) in
      let out = at (lined block n (line.Value value fact) i) u in (
        n,
        subst (λ x. (line m f block).says (at i x) tt out) (sym one)
            (subst (λ x. (line_by m f block x).says (at i (w ++ a)) tt out) (sym kind) (
              value,
              at i (past_blanks a),
              new_value_on i block value a (past_blanks a) is new b,
              (
                fact,
                at now (10 ∷ t),
                said.2,
                (tt, at now u, fact_end_on now fact t u e, (refl, refl)),
              ),
            )),
      )

  -- ---- lines of slots

  abbrev holds_end : Option ℕ → Text → Text
  holds_end holds t = value_text f (codes " holds ") holds ++ 10 ∷ t

  abbrev holds_word : Option ℕ → Text
  holds_word None = []
  holds_word (Some value) = codes "holds"

  holds_first : (holds : Option ℕ) (t : Text) → (word_at (past_blanks (holds_end holds t)) ≡ holds_word holds) × (stops (holds_end holds t) ≡ true) × (bytes_eq (holds_word holds) (codes "nonnull") ≡ false)
  holds_first None t = (no_word t, refl, refl)
  holds_first (Some value) t = (word_on (codes "holds") (32 ∷ (local_text f value ++ 10 ∷ t)) refl refl, refl, refl)

  slot_claim_on : (i : Input) (block slot : ℕ) (nonnull : Bool) (holds : Option ℕ) (t u : Text) → is_value f slot ≡ true → unwrap_or (slice_get i.read.draft.roots slot) false ≡ true → IsValue f holds → is_in block (slice_get i.read.draft.slots slot) ≡ false → past_lines false t ≡ u
      → (n : ℕ) × (line m f block).says (at i (claim_text m f (line.Slot slot nonnull holds) ++ 10 ∷ t)) tt (at (lined block n (line.Slot slot nonnull holds) i) u)
  unfolding line slot_claim put_slot with_slot_claim
  slot_claim_on i block slot nonnull holds t u is root names new e =
      let w = local_text f slot in
      let c = holds_end holds t in
      let a = word_if nonnull (codes " nonnull") ++ c in
      let p = value_printed f slot own is in
      let h = holds_first holds t in
      let one : claim_text m f (line.Slot slot nonnull holds) ++ 10 ∷ t ≡ codes "slot " ++ (w ++ a) =
      ap (λ (x : Text). codes "slot " ++ x) (append_assoc (w ++ word_if nonnull (codes " nonnull")) (value_text f (codes " holds ") holds) (10 ∷ t)
      ∙ append_assoc w (word_if nonnull (codes " nonnull")) (holds_end holds t)) in
      let first : ComesAfter (32 ∷ (w ++ a)) (w ++ a) = (refl, blanks_on w a p.1) in
      let kind : begins (codes "slot") (at i (codes "slot" ++ 32 ∷ (w ++ a))) ≡ true = ap (λ x. bytes_eq x (codes "slot")) (word_is i (codes "slot") (32 ∷ (w ++ a)) (w ++ a) refl first) in
      let b : ComesAfter a (past_blanks a) = (null_stop nonnull, refl) in
      let last = optional_on i (codes "holds") holds t refl refl names in
      let n = last.0 in
      let now = noting holds n i in
      let out = at (lined block n (line.Slot slot nonnull holds) i) u in (
        n,
        subst (λ x. (line m f block).says (at i x) tt out) (sym one)
            (subst (λ x. (line_by m f block x).says (at i (codes "slot" ++ 32 ∷ (w ++ a))) tt out) (sym kind) (
              tt,
              at i (w ++ a),
              expect_on i (codes "slot") (32 ∷ (w ++ a)) (w ++ a) refl first,
              (
                slot,
                at i (past_blanks a),
                new_slot_on i block slot a (past_blanks a) is root new b,
                (
                  nonnull,
                  at i (past_blanks c),
                  null nonnull,
                  (
                    holds,
                    at now (10 ∷ t),
                    last.1,
                    (tt, at now u, slot_end_on now nonnull holds t u e, (refl, refl)),
                  ),
                ),
              ),
            )),
      )
    where
      null_stop : (nonnull : Bool) → stops (word_if nonnull (codes " nonnull") ++ holds_end holds t) ≡ true
      null_stop true = refl
      null_stop false = (holds_first holds t).1

      null : (nonnull : Bool) → (flag (codes "nonnull")).says (at i (past_blanks (word_if nonnull (codes " nonnull") ++ holds_end holds t))) nonnull (at i (past_blanks (holds_end holds t)))
      null true = flag_yes i (codes "nonnull") (holds_end holds t) (past_blanks (holds_end holds t)) refl ((holds_first holds t).1, refl)
      null false = flag_no i (codes "nonnull") (holds_word holds) (past_blanks (holds_end holds t)) (holds_first holds t).0 (holds_first holds t).2

  -- a value of which a fact may be given is a value
  pub value_is : (value : ℕ) (said : Fact) → fact_fits m (family_of_value m f value) said ≡ true → is_value f value ≡ true
  value_is value said e = by (slice_get f.sorts value) refl e
    where
      no_number : (n : Option ℕ) (x : Option ℕ) → ((is_some (same_bits fam.Nothing x) && below_fits n) || false) ≡ true → ⊥
      no_number n None e = cc
      no_number n (Some k) e = cc

      none : (said : Fact) → fact_fits m fam.Nothing said ≡ true → ⊥
      none (fact.Number bits n) e = no_number n (small bits) e
      none (fact.Reference layout nonnull how same) e = cc
      none (fact.Address base words) e = cc
      none (fact.GlobalAddress symbol) e = cc

      by : (s : Option LocalSort) → slice_get f.sorts value ≡ s → fact_fits m (family_of_sort m f s) said ≡ true → is_value_sort s ≡ true
      by (Some (local.Value written)) is e = refl
      by (Some (local.Slot held)) is e = refl
      by (Some (local.Element block place)) is e = refl
      by (Some local.Unknown) is e = absurd (none said e)
      by (Some (local.Block block)) is e = absurd (none said e)
      by None is e = absurd (none said e)

  -- a printed line that fits is read, where the block does not list it so far
  pub line_on : (i : Input) (block : ℕ) (said : Claim) (t u : Text) → claim_fits m f said ≡ true → IsValue f (named_in said) → IsNew block said i → past_lines false t ≡ u
      → (n : ℕ) × (line m f block).says (at i (claim_text m f said ++ 10 ∷ t)) tt (at (lined block n said i) u)
  line_on i block (line.Value value fact) t u fits names new e = value_claim_on i block value fact t u (value_is value fact fits) fits names new e
  line_on i block (line.Slot slot nonnull holds) t u fits names new e =
      slot_claim_on i block slot nonnull holds t u (and_first (is_value f slot) (unwrap_or (slice_get (root_names m f) slot) false) fits) new.0 names new.1 e
