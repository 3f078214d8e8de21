-- The certificates that a text is are certificates of the module.
use Rattle.std.proofs.Common.{◌≡◌, ℕ, suc, ◌+◌, ◌<◌, Bool, true, false, not, ◌&&◌, ◌||◌, List, [], ◌∷◌, length, slice_get, slice_set, codes, Option, Some, None, is_some, refl, ap, sym, subst, ◌∙◌, arith}
use Rattle.std.specs.Prelude.{◌==◌, if◌then◌else◌, map, unwrap_or}
use Rattle.std.specs.List.{list_all, zip}
use Rattle.std.specs.Str.{bytes_eq}
use Rattle.std.proofs.lemmas.Bool.{eqb-true, eq-eqb}
use Rattle.std.proofs.lemmas.List.{length-set}
use Rattle.lemmas.specs.Bools.{and_true, or_first, or_second}
use Rattle.grammar.specs.Many.{Listed}
use Rattle.ir_ast.specs.declared.function.Function.{Function}
use Rattle.ir_ast.specs.declared.module.Module.{Module}
use Rattle.ir_tokens.specs.Bytes.{Text as Bytes}
use Rattle.name_text.specs.Words.{begins_with}
use Rattle.certs.specs.Fits.{small}
use Rattle.certificate.specs.Numbers.{bits_of_word}
use Rattle.certificate.specs.Names as names
use Rattle.certificate.specs.Names.{global_of_word, value_of_word}
use Rattle.certs.specs.Families.{family_of_type, family_of_value, is_reference, is_integer, is_address, may_be_outside, same_bits}
use Rattle.certs.specs.RootNames.{root_names}
use Rattle.certificate.specs.Drafts.{wanting, listing, listing_slot, block_ended, is_in, first_unlisted}
use Rattle.certificate.specs.Input.{Input, begun, with_promise, wants, with_claim, with_slot_claim, with_block, with_section, kept}
use Rattle.name_text.specs.Forms.{taken}
use Rattle.name_text.specs.Reader.{recorded, left, ended, word, begins, line_ends}
use Rattle.certificate.specs.Forms.{free_by, new_function, function_named, function_by, new_parameter, is_parameter, unpromised, parameter_by, parameter_named, new_block, block_by, block_named, new_value, new_value_named, new_slot, root_by, slot_named, want, listed_by, listed_name, begin, put_value, put_slot}
use Rattle.certificate.specs.Lines.{no_promise, fact_if, promised_by, may_stand_alone, promised_in, promise_by, promised_fact, more_by, more_facts, promise, number_head, has_bits, bits_head, head_by, below_by, below, listed_if, listed_after, number, reference, words_of_cell, global_by, global_address, address_by, address, fact_by, fact_of, fact_end, slot_end, value_claim, slot_claim, line_by, line}
use Rattle.certificate.specs.Text as text
use Rattle.certificate.specs.Text.{first_gap, gap_in, gap_or, sections_in, finished_by}
use Rattle.certs.specs.Fits.{below_fits, is_outside_fact, says_something, promised_layout_fits, promised_below_fits, promised_number_fits, promise_fits, promised_fits, fact_fits, is_value, named_in_fact, section_fits, fits}
use Rattle.certificate.proofs.Between.{all_set_zip, Between, Within, is_wanted, last_wanted, at_start, with_parameter, block_begins, block_ends, with_wanted, with_value, with_slot}
use Rattle.certificate.specs.declared.draft.SectionDraft.{SectionDraft}
use Rattle.certs.specs.declared.family.Family.{Family}
use Rattle.certs.specs.declared.family.Family.TheVariants as family
use Rattle.certificate.specs.declared.facts.Head.{Head}
use Rattle.certificate.specs.declared.facts.Head.TheVariants as head
use Rattle.certificate.specs.declared.mistake.Mistake.{Mistake}
use Rattle.certificate.specs.declared.progress.Kept.{Kept}
use Rattle.certificate.specs.declared.naming.Naming.{Naming}
use Rattle.certificate.specs.declared.naming.Naming.TheVariants as naming
use Rattle.certificate.specs.declared.promises.Promised.{Promised}
use Rattle.certificate.specs.declared.promises.Promised.TheVariants as promised
use Rattle.certs.specs.declared.section.Fact.{Fact}
use Rattle.certs.specs.declared.section.Fact.TheVariants as facts
use Rattle.certs.specs.declared.section.Claim.TheVariants as line
use Rattle.certs.specs.declared.section.Mark.{Mark}
use Rattle.certs.specs.declared.section.Promise.{Promise}
use Rattle.certs.specs.declared.section.Section.{Section}
use Rattle.certificate.proofs.ReadWords.{still, Still, still_skip, still_taken, taken_is, still_expect, still_line_end, still_flag, still_marked, still_age, count_is, word_set_is, bits_are, value_is, global_is, layout_name_is}

-- ---- promises

-- what is promised so far fits
abbrev Parts : Module → Family → Promise → Type 0
Parts m family p = (promised_layout_fits m family p.layout ≡ true) × ((not p.nonnull || is_reference family) ≡ true) × (promised_below_fits family p.below ≡ true) × (promised_number_fits m family p ≡ true)

-- and something is promised
abbrev Whole : Module → Family → Promise → Type 0
Whole m family p = Parts m family p × (says_something p ≡ true)

-- where one thing is promised, something is
some_null : (a c d : Bool) → (a || true || c || d) ≡ true
some_null true c d = refl
some_null false c d = refl

some_below : (a b d : Bool) → (a || b || true || d) ≡ true
some_below true b d = refl
some_below false true d = refl
some_below false false d = refl

-- which word gives which fact
given_by : (given fits : Bool) (x : Promised) → fact_if given fits x ≡ promised.Nonnull → (x ≡ promised.Nonnull) × (fits ≡ true)
given_by true fits x e = absurd cc
given_by false true x e = (e, refl)
given_by false false x e = absurd cc

below_given_by : (given fits : Bool) (x : Promised) → fact_if given fits x ≡ promised.Below → (x ≡ promised.Below) × (fits ≡ true)
below_given_by true fits x e = absurd cc
below_given_by false true x e = (e, refl)
below_given_by false false x e = absurd cc

nonnull_fits : (family : Family) (p : Promise) (a b c : Bool)
    → (if a then fact_if (is_some p.layout) (is_reference family) promised.Layout else (if b then fact_if p.nonnull (is_reference family) promised.Nonnull else (if c then fact_if (is_some p.below) (is_integer family) promised.Below else promised.Other))) ≡ promised.Nonnull → is_reference family ≡ true
nonnull_fits family p true b c e = (given_by (is_some p.layout) (is_reference family) promised.Layout e).1
nonnull_fits family p false true c e = (given_by p.nonnull (is_reference family) promised.Nonnull e).1
nonnull_fits family p false false true e = let q = (given_by (is_some p.below) (is_integer family) promised.Below e).0 in absurd cc
nonnull_fits family p false false false e = absurd cc

below_may : (family : Family) (p : Promise) (a b c : Bool)
    → (if a then fact_if (is_some p.layout) (is_reference family) promised.Layout else (if b then fact_if p.nonnull (is_reference family) promised.Nonnull else (if c then fact_if (is_some p.below) (is_integer family) promised.Below else promised.Other))) ≡ promised.Below → is_integer family ≡ true
below_may family p true b c e = let q = (below_given_by (is_some p.layout) (is_reference family) promised.Layout e).0 in absurd cc
below_may family p false true c e = let q = (below_given_by p.nonnull (is_reference family) promised.Nonnull e).0 in absurd cc
below_may family p false false true e = (below_given_by (is_some p.below) (is_integer family) promised.Below e).1
below_may family p false false false e = absurd cc

-- the word of something that may stand beside others
abbrev is_plain : Promised → Bool
is_plain promised.Layout = true
is_plain promised.Nonnull = true
is_plain promised.Below = true
is_plain promised.Number = false
is_plain promised.Again = false
is_plain promised.Other = false

-- so it is where no address outside is promised
plain_word : (w given may : Bool) (what k : Promised) → is_plain k ≡ true → (if w then fact_if given may promised.Number else (if given then promised.Other else what)) ≡ k → (given ≡ false) × (what ≡ k)
plain_word true true may what k plain e = let q : is_plain promised.Again ≡ true = ap is_plain e ∙ plain in absurd cc
plain_word true false true what k plain e = let q : is_plain promised.Number ≡ true = ap is_plain e ∙ plain in absurd cc
plain_word true false false what k plain e = let q : is_plain promised.Other ≡ true = ap is_plain e ∙ plain in absurd cc
plain_word false true may what k plain e = let q : is_plain promised.Other ≡ true = ap is_plain e ∙ plain in absurd cc
plain_word false false may what k plain e = (refl, e)

-- the word of an address outside stands where it may stand alone
never_by : (given may : Bool) (x : Promised) → fact_if given may x ≡ promised.Number → x ≡ promised.Number
never_by true may x e = absurd cc
never_by false true x e = e
never_by false false x e = absurd cc

never_number : (family : Family) (p : Promise) (a b c : Bool)
    → (if a then fact_if (is_some p.layout) (is_reference family) promised.Layout else (if b then fact_if p.nonnull (is_reference family) promised.Nonnull else (if c then fact_if (is_some p.below) (is_integer family) promised.Below else promised.Other))) ≡ promised.Number → ⊥
never_number family p true b c e = let q = never_by (is_some p.layout) (is_reference family) promised.Layout e in cc
never_number family p false true c e = let q = never_by p.nonnull (is_reference family) promised.Nonnull e in cc
never_number family p false false true e = let q = never_by (is_some p.below) (is_integer family) promised.Below e in cc
never_number family p false false false e = cc

number_word : (w given may : Bool) (what : Promised) → (what ≡ promised.Number → ⊥) → (if w then fact_if given may promised.Number else (if given then promised.Other else what)) ≡ promised.Number → may ≡ true
number_word true true may what never e = absurd cc
number_word true false true what never e = refl
number_word true false false what never e = absurd cc
number_word false true may what never e = absurd cc
number_word false false may what never e = absurd (never e)

-- what is promised beside no address outside fits with that
beside : (a b : Bool) → a ≡ false → (not a || b) ≡ true
beside a b e = or_first (not a) b (ap not e)

promised_fact_is : (m : Module) (family : Family) (p : Promise) (i : Input) (q : Promise) (o : Input) → Parts m family p → (promised_fact m family p).says i q o → Whole m family q × (still i ≡ still o)
unfolding promised_fact
promised_fact_is m family p i q o parts h = by (promised_in m family p (word i)) refl h
  where
    plain : (k : Promised) → is_plain k ≡ true → promised_in m family p (word i) ≡ k → (p.number ≡ false) × (promised_by family p (word i) ≡ k)
    plain k = plain_word (bytes_eq (word i) (codes "i64")) p.number (may_stand_alone m family p) (promised_by family p (word i)) k

    by : (k : Promised) → promised_in m family p (word i) ≡ k → (promise_by m family p k).says i q o → Whole m family q × (still i ≡ still o)
    by promised.Layout is h =
        let l = layout_name_is m family h.2.1 h.0 h.1 h.2.3 in
        let other = plain promised.Layout refl is in
        let new : Promise = record p { layout = Some h.0 } in
        (subst (Whole m family) h.3.0 ((l.0, parts.1, parts.2, beside p.number (may_stand_alone m family new) other.0), refl), still_skip i h.2.0 h.2.1 h.2.2 ∙ l.1 ∙ ap still h.3.1)
    by promised.Nonnull is h =
        let other = plain promised.Nonnull refl is in
        let fits = nonnull_fits family p (bytes_eq (word i) (codes "ref")) (bytes_eq (word i) (codes "nonnull")) (bytes_eq (word i) (codes "below")) other.1 in
        let new : Promise = record p { nonnull = true } in
        (subst (Whole m family) (taken_is new i q o h) ((parts.0, fits, parts.2, beside p.number (may_stand_alone m family new) other.0), some_null (is_some p.layout) (is_some p.below) p.number), still_taken (record p { nonnull = true }) i q o h)
    by promised.Below is h =
        let other = plain promised.Below refl is in
        let fits = below_may family p (bytes_eq (word i) (codes "ref")) (bytes_eq (word i) (codes "nonnull")) (bytes_eq (word i) (codes "below")) other.1 in
        let n = count_is h.2.1 h.0 h.1 h.2.3 in
        let new : Promise = record p { below = Some h.0 } in
        (subst (Whole m family) h.3.0 ((parts.0, parts.1, rw (fits, n.0) refl, beside p.number (may_stand_alone m family new) other.0), some_below (is_some p.layout) p.nonnull p.number), still_skip i h.2.0 h.2.1 h.2.2 ∙ n.1 ∙ ap still h.3.1)
    by promised.Number is h =
        let never = never_number family p (bytes_eq (word i) (codes "ref")) (bytes_eq (word i) (codes "nonnull")) (bytes_eq (word i) (codes "below")) in
        let alone = number_word (bytes_eq (word i) (codes "i64")) p.number (may_stand_alone m family p) (promised_by family p (word i)) never is in
        let new : Promise = record p { number = true } in
        (subst (Whole m family) (taken_is new i q o h) ((parts.0, parts.1, parts.2, alone), or_second (is_some p.layout || p.nonnull || is_some p.below) true refl), still_taken new i q o h)
    by promised.Again is h = absurd h
    by promised.Other is h = absurd h

more_facts_is : (m : Module) (family : Family) (p : Promise) (i : Input) (q : Promise) (o : Input) → Whole m family p → (more_facts m family p).says i q o → Whole m family q × (still i ≡ still o)
unfolding more_facts
more_facts_is m family p i q o whole h = by (line_ends i) h
  where
    by : (b : Bool) → (more_by m family p b).says i q o → Whole m family q × (still i ≡ still o)
    by true h = (subst (Whole m family) h.0 whole, ap still h.1)
    by false h = promised_fact_is m family p i q o whole.0 h

whole_fits : (m : Module) (family : Family) (p : Promise) → Whole m family p → promise_fits m family p ≡ true
whole_fits m family p h = rw (h.1, h.0.3, h.0.0, h.0.1, h.0.2) refl

promise_is : (m : Module) (family : Family) (i : Input) (p : Promise) (o : Input) → (promise m family).says i p o → (promise_fits m family p ≡ true) × (still i ≡ still o)
unfolding promise
promise_is m family i p o h =
    let one = promised_fact_is m family no_promise i h.0 h.1 (refl, refl, refl, refl) h.2 in
    let two = more_facts_is m family h.0 h.1 h.3.0 h.3.1 one.0 h.3.2 in
    let three = more_facts_is m family h.3.0 h.3.1 h.3.3.0 h.3.3.1 two.0 h.3.3.2 in
    let all = more_facts_is m family h.3.3.0 h.3.3.1 h.3.3.3.0 h.3.3.3.1 three.0 h.3.3.3.2 in
    let end = still_line_end h.3.3.3.1 h.3.3.3.3.0 h.3.3.3.3.1 h.3.3.3.3.2 in
    (whole_fits m family p (subst (Whole m family) h.3.3.3.3.3.0 all.0), one.1 ∙ two.1 ∙ three.1 ∙ all.1 ∙ end ∙ ap still h.3.3.3.3.3.1)

-- ---- facts

-- a value is named that the block has to list, if one is
abbrev Asks : Option ℕ → Input → Input → Type 0
Asks None i o = still i ≡ still o
Asks (Some v) i o = (n : ℕ) × (still (recorded (λ p. record p { draft = wanting v n p.draft }) i) ≡ still o)

listed_name_is : (f : Function) (i : Input) (v : ℕ) (o : Input) → (listed_name f).says i v o → Asks (Some v) i o
unfolding listed_name want wants
listed_name_is f i v o h = by (value_of_word f (word i)) h
  where
    by : (n : Naming) → (listed_by n).says i v o → Asks (Some v) i o
    by naming.NoName h = absurd h
    by naming.Unknown h = absurd h
    by (naming.Named k) h =
        let same : k ≡ v = h.3.0 in
        (left i, ap (λ x. still (recorded (λ p. record p { draft = wanting x (left i) p.draft }) i)) (sym same) ∙ ap still h.2.2.1 ∙ still_skip h.2.1 h.0 h.1 h.2.3 ∙ ap still h.3.1)

asks_before : (v : Option ℕ) (i j o : Input) → still i ≡ still j → Asks v j o → Asks v i o
asks_before None i j o e h = e ∙ h
asks_before (Some v) i j o e h = (h.0, ap (λ (x : Input). recorded (λ p. record p { draft = wanting v h.0 p.draft }) x) e ∙ h.1)

asks_after : (v : Option ℕ) (i j o : Input) → Asks v i j → still j ≡ still o → Asks v i o
asks_after None i j o h e = h ∙ e
asks_after (Some v) i j o h e = (h.0, h.1 ∙ e)

listed_after_is : (f : Function) (wanted : Bytes) (i : Input) (v : Option ℕ) (o : Input) → (listed_after f wanted).says i v o → Asks v i o
unfolding listed_after
listed_after_is f wanted i v o h = by (begins wanted i) h
  where
    by : (b : Bool) → (listed_if f b).says i v o → Asks v i o
    by true h =
        let asks = listed_name_is f h.2.1 h.0 h.1 h.2.3 in
        subst (λ x. Asks x i o) h.3.0 (asks_after (Some h.0) i h.1 o (asks_before (Some h.0) i h.2.1 h.1 (still_skip i h.2.0 h.2.1 h.2.2) asks) (ap still h.3.1))
    by false h = subst (λ x. Asks x i o) h.0 (ap still h.1)

below_is : (i : Input) (n : Option ℕ) (o : Input) → below.says i n o → (below_fits n ≡ true) × (still i ≡ still o)
unfolding below
below_is i n o h = by (begins (codes "below") i) h
  where
    by : (b : Bool) → (below_by b).says i n o → (below_fits n ≡ true) × (still i ≡ still o)
    by true h =
        let c = count_is h.2.1 h.0 h.1 h.2.3 in
        (subst (λ x. below_fits x ≡ true) h.3.0 c.0, still_skip i h.2.0 h.2.1 h.2.2 ∙ c.1 ∙ ap still h.3.1)
    by false h = (ap below_fits (sym h.0), ap still h.1)

-- the fact of a value of this family fits, and its value is asked for
abbrev FactIs : Module → Family → Input → Fact → Input → Type 0
FactIs m family i fact o = (fact_fits m family fact ≡ true) × Asks (named_in_fact fact) i o

number_fact : (m : Module) (family : Family) (bits : ℕ) (i : Input) (fact : Fact) (o : Input) → is_some (same_bits family (small bits)) ≡ true → (number bits).says i fact o → FactIs m family i fact o
unfolding number
number_fact m family bits i fact o fits h =
    let n = below_is h.1 h.3.0 h.3.1 h.3.2 in
    subst (λ x. FactIs m family i x o) h.3.3.0 (rw (fits, n.0) refl, still_skip i h.0 h.1 h.2 ∙ n.1 ∙ ap still h.3.3.1)

reference_fact : (m : Module) (f : Function) (family : Family) (i : Input) (fact : Fact) (o : Input) → (reference m f family).says i fact o → FactIs m family i fact o
unfolding reference
reference_fact m f family i fact o h =
    let skipped = still_skip i h.0 h.1 h.2 in
    let l = layout_name_is m family h.1 h.3.0 h.3.1 h.3.2 in
    let b = h.3.3 in
    let nonnull = still_flag (codes "nonnull") h.3.1 b.0 b.1 b.2 in
    let c = b.3 in
    let how = still_age b.1 c.0 c.1 c.2 in
    let d = c.3 in
    let same = listed_after_is f (codes "same") c.1 d.0 d.1 d.2 in
    subst (λ x. FactIs m family i x o) d.3.0 (l.0, asks_after d.0 i d.1 o (asks_before d.0 i c.1 d.1 (skipped ∙ l.1 ∙ nonnull ∙ how) same) (ap still d.3.1))

cell_fact : (m : Module) (f : Function) (family : Family) (i : Input) (fact : Fact) (o : Input) → is_address family ≡ true → (words_of_cell f).says i fact o → FactIs m family i fact o
unfolding words_of_cell
cell_fact m f family i fact o fits h =
    let base = listed_name_is f i h.0 h.1 h.2 in
    let b = h.3 in
    let set = word_set_is h.1 b.0 b.1 b.2 in
    subst (λ x. FactIs m family i x o) b.3.0 (rw (fits, set.0) refl, asks_after (Some h.0) i h.1 o base (set.1 ∙ ap still b.3.1))

global_fact : (m : Module) (family : Family) (i : Input) (fact : Fact) (o : Input) → is_address family ≡ true → (global_address m).says i fact o → FactIs m family i fact o
unfolding global_address
global_fact m family i fact o fits h = by (global_of_word m (word i)) refl h
  where
    by : (n : Naming) → global_of_word m (word i) ≡ n → (global_by n).says i fact o → FactIs m family i fact o
    by naming.NoName is h = absurd h
    by naming.Unknown is h = absurd h
    by (naming.Named s) is h =
        let same = taken_is (facts.GlobalAddress s) i fact o h in
        subst (λ x. FactIs m family i x o) same (rw (fits, global_is m (word i) s is) refl, still_taken (facts.GlobalAddress s) i fact o h)

address_fact : (m : Module) (f : Function) (family : Family) (i : Input) (fact : Fact) (o : Input) → is_address family ≡ true → (address m f).says i fact o → FactIs m family i fact o
unfolding address
address_fact m f family i fact o fits h =
    let said = by (begins_with 64 (word h.1)) h.3 in
    (said.0, asks_before (named_in_fact fact) i h.1 o (still_skip i h.0 h.1 h.2) said.1)
  where
    by : (b : Bool) → (address_by m f b).says h.1 fact o → FactIs m family h.1 fact o
    by true g = global_fact m family h.1 fact o fits g
    by false g = cell_fact m f family h.1 fact o fits g

bits_fit : (family : Family) (x : Option ℕ) (bits : ℕ) → number_head (same_bits family x) ≡ head.Number bits → (x ≡ Some bits) × (is_some (same_bits family (Some bits)) ≡ true)
bits_fit (family.Number own) None bits e = absurd cc
bits_fit (family.Number own) (Some b) bits e = by (own == b) refl e
  where
    by : (t : Bool) → own == b ≡ t → number_head (if t then Some own else None) ≡ head.Number bits → (Some b ≡ Some bits) × (is_some (same_bits (family.Number own) (Some bits)) ≡ true)
    by false is e = absurd cc
    by true is e =
        let same : own ≡ bits = cc in
        let there = eqb-true own b is in
        (ap (λ y. Some y) (sym there ∙ same), rw (eq-eqb own bits same) refl)
bits_fit (family.Reference l) x bits e = absurd cc
bits_fit family.AnyReference x bits e = absurd cc
bits_fit family.Address x bits e = absurd cc
bits_fit family.Opaque x bits e = absurd cc
bits_fit family.Nothing x bits e = absurd cc

head_address : (m : Module) (family : Family) (w : Bytes) (a b : Bool) → (if a then (if is_reference family then head.Reference else head.Other) else (if b then (if is_address family then head.Address else head.Other) else bits_head m family (bits_of_word w))) ≡ head.Address → is_address family ≡ true
head_address m family w true b e = by (is_reference family) e
  where
    by : (t : Bool) → (if t then head.Reference else head.Other) ≡ head.Address → is_address family ≡ true
    by true e = absurd cc
    by false e = absurd cc
head_address m family w false true e = by (is_address family) e
  where
    by : (t : Bool) → (if t then head.Address else head.Other) ≡ head.Address → t ≡ true
    by true e = refl
    by false e = absurd cc
head_address m family w false false e = by (may_be_outside m family && has_bits 64 (bits_of_word w)) (same_bits family (bits_of_word w)) e
  where
    by : (t : Bool) (x : Option ℕ) → (if t then head.Outside else number_head x) ≡ head.Address → is_address family ≡ true
    by true x e = absurd cc
    by false None e = absurd cc
    by false (Some n) e = absurd cc

-- the bits of a word begin this fact
bits_begin : (m : Module) (family : Family) (w : Bytes) (k : Head) (a b : Bool) → (k ≡ head.Reference → ⊥) → (k ≡ head.Address → ⊥) → (k ≡ head.Other → ⊥)
    → (if a then (if is_reference family then head.Reference else head.Other) else (if b then (if is_address family then head.Address else head.Other) else bits_head m family (bits_of_word w))) ≡ k → bits_head m family (bits_of_word w) ≡ k
bits_begin m family w k true b reference address other e = by (is_reference family) e
  where
    by : (t : Bool) → (if t then head.Reference else head.Other) ≡ k → bits_head m family (bits_of_word w) ≡ k
    by true e = absurd (reference (sym e))
    by false e = absurd (other (sym e))
bits_begin m family w k false true reference address other e = by (is_address family) e
  where
    by : (t : Bool) → (if t then head.Address else head.Other) ≡ k → bits_head m family (bits_of_word w) ≡ k
    by true e = absurd (address (sym e))
    by false e = absurd (other (sym e))
bits_begin m family w k false false reference address other e = e

head_number : (m : Module) (family : Family) (w : Bytes) (bits : ℕ) (a b : Bool) → (if a then (if is_reference family then head.Reference else head.Other) else (if b then (if is_address family then head.Address else head.Other) else bits_head m family (bits_of_word w))) ≡ head.Number bits → is_some (same_bits family (small bits)) ≡ true
head_number m family w bits a b e = by (may_be_outside m family && has_bits 64 (bits_of_word w)) (bits_begin m family w (head.Number bits) a b (λ e. cc) (λ e. cc) (λ e. cc) e)
  where
    by : (t : Bool) → (if t then head.Outside else number_head (same_bits family (bits_of_word w))) ≡ head.Number bits → is_some (same_bits family (small bits)) ≡ true
    by true e = absurd cc
    by false e =
        let p = bits_fit family (bits_of_word w) bits e in
        ap (λ x. is_some (same_bits family x)) (bits_are w bits p.0) ∙ p.1

head_outside : (m : Module) (family : Family) (w : Bytes) (a b : Bool) → (if a then (if is_reference family then head.Reference else head.Other) else (if b then (if is_address family then head.Address else head.Other) else bits_head m family (bits_of_word w))) ≡ head.Outside → may_be_outside m family ≡ true
head_outside m family w a b e = by (may_be_outside m family) (has_bits 64 (bits_of_word w)) (same_bits family (bits_of_word w)) (bits_begin m family w head.Outside a b (λ e. cc) (λ e. cc) (λ e. cc) e)
  where
    by : (s t : Bool) (x : Option ℕ) → (if s && t then head.Outside else number_head x) ≡ head.Outside → s ≡ true
    by true t x e = refl
    by false t None e = absurd cc
    by false t (Some n) e = absurd cc

-- an address outside
outside_fact : (m : Module) (family : Family) (i : Input) (fact : Fact) (o : Input) → may_be_outside m family ≡ true → (taken {M = Mistake} (facts.Number 64 None)).says i fact o → FactIs m family i fact o
outside_fact m family i fact o outside h =
    let fits : fact_fits m family (facts.Number 64 None) ≡ true = or_second (is_some (same_bits family (small 64)) && below_fits None) (is_outside_fact m family 64 None) (and_true (may_be_outside m family) true outside refl) in
    subst (λ x. FactIs m family i x o) (taken_is (facts.Number 64 None) i fact o h) (fits, still_taken (facts.Number 64 None) i fact o h)

fact_is : (m : Module) (f : Function) (family : Family) (i : Input) (fact : Fact) (o : Input) → (fact_of m f family).says i fact o → FactIs m family i fact o
unfolding fact_of
fact_is m f family i fact o h = by (head_by m family (word i)) refl h
  where
    by : (k : Head) → head_by m family (word i) ≡ k → (fact_by m f family k).says i fact o → FactIs m family i fact o
    by (head.Number bits) is h = number_fact m family bits i fact o (head_number m family (word i) bits (bytes_eq (word i) (codes "ref")) (bytes_eq (word i) (codes "addr")) is) h
    by head.Outside is h = outside_fact m family i fact o (head_outside m family (word i) (bytes_eq (word i) (codes "ref")) (bytes_eq (word i) (codes "addr")) is) h
    by head.Reference is h = reference_fact m f family i fact o h
    by head.Address is h = address_fact m f family i fact o (head_address m family (word i) (bytes_eq (word i) (codes "ref")) (bytes_eq (word i) (codes "addr")) is) h
    by head.Other is h = absurd h

still_fact_end : (fact : Fact) → Still (fact_end fact)
unfolding fact_end
still_fact_end fact i a o h = ap still h.2.1 ∙ still_line_end h.1 a o h.3

still_slot_end : (nonnull : Bool) (holds : Option ℕ) → Still (slot_end nonnull holds)
unfolding slot_end
still_slot_end nonnull holds i a o h = ap still h.2.1 ∙ still_line_end h.1 a o h.3

-- ---- lines

-- a state whose section fits, in a block
abbrev pub InBlock : Module → Function → (block : ℕ) → Input → Input → Type 0
InBlock m f block i o = Within m f block i.read.draft → Within m f block o.read.draft × (i.read.sections ≡ o.read.sections) × (i.read.draft.given ≡ o.read.draft.given)

free_is : (n : ℕ) (t : Bool) (i : Input) (a : ℕ) (o : Input) → (free_by n t).says i a o → (t ≡ false) × (n ≡ a) × (still i ≡ still o)
free_is n true i a o h = absurd h
free_is n false i a o h = (refl, taken_is n i a o h, still_taken n i a o h)

new_value_is : (f : Function) (block : ℕ) (i : Input) (v : ℕ) (o : Input) → (new_value f block).says i v o → (v < length f.locals) × (is_in block (slice_get i.read.draft.values v) ≡ false) × (still i ≡ still o)
unfolding new_value
new_value_is f block i v o h = by (value_of_word f (word i)) refl h
  where
    by : (n : Naming) → value_of_word f (word i) ≡ n → (new_value_named block n).says i v o → (v < length f.locals) × (is_in block (slice_get i.read.draft.values v) ≡ false) × (still i ≡ still o)
    by naming.NoName is h = absurd h
    by naming.Unknown is h = absurd h
    by (naming.Named k) is h =
        let p = free_is k (is_in block (slice_get i.read.draft.values k)) i v o h in
        let q = (value_is f (word i) k is).0 in
        (omega (arith, q, p.1), ap (λ x. is_in block (slice_get i.read.draft.values x)) (sym p.1) ∙ p.0, p.2)

new_slot_is : (f : Function) (block : ℕ) (i : Input) (s : ℕ) (o : Input) → (new_slot f block).says i s o
    → (s < length f.locals) × (is_value f s ≡ true) × (unwrap_or (slice_get i.read.draft.roots s) false ≡ true) × (is_in block (slice_get i.read.draft.slots s) ≡ false) × (still i ≡ still o)
unfolding new_slot
new_slot_is f block i s o h = by (value_of_word f (word i)) refl h
  where
    root : (k : ℕ) (t : Bool) → (root_by block k t).says i s o → (t ≡ true) × (free_by k (is_in block (slice_get i.read.draft.slots k))).says i s o
    root k false h = absurd h
    root k true h = (refl, h)

    by : (n : Naming) → value_of_word f (word i) ≡ n → (slot_named block n).says i s o
        → (s < length f.locals) × (is_value f s ≡ true) × (unwrap_or (slice_get i.read.draft.roots s) false ≡ true) × (is_in block (slice_get i.read.draft.slots s) ≡ false) × (still i ≡ still o)
    by naming.NoName is h = absurd h
    by naming.Unknown is h = absurd h
    by (naming.Named k) is h =
        let r = root k (unwrap_or (slice_get i.read.draft.roots k) false) h in
        let p = free_is k (is_in block (slice_get i.read.draft.slots k)) i s o r.1 in
        let q = value_is f (word i) k is in
        (omega (arith, q.0, p.1), ap (λ x. is_value f x) (sym p.1) ∙ q.1, ap (λ x. unwrap_or (slice_get i.read.draft.roots x) false) (sym p.1) ∙ r.0, ap (λ x. is_in block (slice_get i.read.draft.slots x)) (sym p.1) ∙ p.0, p.2)

-- what is asked for is wanted, and the rest of the section is as it was
asked : (m : Module) (f : Function) (block : ℕ) (v : Option ℕ) (i o : Input) → Asks v i o → Within m f block i.read.draft
    → Within m f block o.read.draft × (is_wanted o.read.draft.wanted v ≡ true) × (i.read.sections ≡ o.read.sections) × (i.read.draft.given ≡ o.read.draft.given) × (i.read.draft.values ≡ o.read.draft.values) × (i.read.draft.slots ≡ o.read.draft.slots) × (i.read.draft.roots ≡ o.read.draft.roots)
asked m f block None i o e within =
    (subst (λ (x : Input). Within m f block x.read.draft) e within, refl, ap (λ (x : Input). x.read.sections) e, ap (λ (x : Input). x.read.draft.given) e, ap (λ (x : Input). x.read.draft.values) e, ap (λ (x : Input). x.read.draft.slots) e, ap (λ (x : Input). x.read.draft.roots) e)
asked m f block (Some v) i o h within =
    let e = h.1 in (
      subst (λ (x : Input). Within m f block x.read.draft) e (with_wanted m f block v h.0 i.read.draft within),
      sym (ap (λ (x : Input). is_wanted x.read.draft.wanted (Some v)) e) ∙ last_wanted i.read.draft.wanted v h.0,
      ap (λ (x : Input). x.read.sections) e,
      ap (λ (x : Input). x.read.draft.given) e,
      ap (λ (x : Input). x.read.draft.values) e,
      ap (λ (x : Input). x.read.draft.slots) e,
      ap (λ (x : Input). x.read.draft.roots) e,
    )

value_claim_is : (m : Module) (f : Function) (block : ℕ) (i : Input) (u : Unit {0}) (o : Input) → (value_claim m f block).says i u o → InBlock m f block i o
unfolding value_claim put_value with_claim
value_claim_is m f block i u o h within =
    let v = h.0 in
    let new = new_value_is f block i v h.1 h.2 in
    let b = h.3 in
    let fact = b.0 in
    let said = fact_is m f (family_of_value m f v) h.1 fact b.1 b.2 in
    let end = still_fact_end fact b.1 b.3.0 b.3.1 b.3.2 in
    let asks = asks_after (named_in_fact fact) i b.1 b.3.1 (asks_before (named_in_fact fact) i h.1 b.1 new.2 said.1) end in
    let at = asked m f block (named_in_fact fact) i b.3.1 asks within in
    let free : is_in block (slice_get b.3.1.read.draft.values v) ≡ false = ap (λ x. is_in block (slice_get x v)) (sym at.4) ∙ new.1 in
    let put : Within m f block (listing block v (line.Value v fact) b.3.1.read.draft) = with_value m f block v fact b.3.1.read.draft new.0 free said.0 at.1 at.0 in
    (subst (λ (x : Input). Within m f block x.read.draft) b.3.3.1 put, at.2 ∙ ap (λ (x : Input). x.read.sections) b.3.3.1, at.3 ∙ ap (λ (x : Input). x.read.draft.given) b.3.3.1)

slot_claim_is : (m : Module) (f : Function) (block : ℕ) (i : Input) (u : Unit {0}) (o : Input) → (slot_claim f block).says i u o → InBlock m f block i o
unfolding slot_claim put_slot with_slot_claim
slot_claim_is m f block i u o h within =
    let word = still_expect (codes "slot") i h.0 h.1 h.2 in
    let b = h.3 in
    let s = b.0 in
    let new = new_slot_is f block h.1 s b.1 b.2 in
    let c = b.3 in
    let nonnull = still_flag (codes "nonnull") b.1 c.0 c.1 c.2 in
    let d = c.3 in
    let holds = listed_after_is f (codes "holds") c.1 d.0 d.1 d.2 in
    let e = d.3 in
    let end = still_slot_end c.0 d.0 d.1 e.0 e.1 e.2 in
    let asks = asks_after d.0 i d.1 e.1 (asks_before d.0 i c.1 d.1 (word ∙ new.4 ∙ nonnull) holds) end in
    let at = asked m f block d.0 i e.1 asks within in
    let rooted : unwrap_or (slice_get (root_names m f) s) false ≡ true = ap (λ (x : List Bool). unwrap_or (slice_get x s) false) (sym within.0.roots ∙ ap (λ (x : Input). x.read.draft.roots) word) ∙ new.2 in
    let free : is_in block (slice_get e.1.read.draft.slots s) ≡ false = ap (λ x. is_in block (slice_get x s)) (sym at.5 ∙ ap (λ (x : Input). x.read.draft.slots) word) ∙ new.3 in
    let put : Within m f block (listing_slot block s (line.Slot s c.0 d.0) e.1.read.draft) = with_slot m f block s c.0 d.0 e.1.read.draft new.0 free (rw (new.1, rooted) refl) at.1 at.0 in
    (subst (λ (x : Input). Within m f block x.read.draft) e.3.1 put, at.2 ∙ ap (λ (x : Input). x.read.sections) e.3.1, at.3 ∙ ap (λ (x : Input). x.read.draft.given) e.3.1)

pub line_is : (m : Module) (f : Function) (block : ℕ) (i : Input) (u : Unit {0}) (o : Input) → (line m f block).says i u o → InBlock m f block i o
unfolding line
line_is m f block i u o h = by (begins (codes "slot") i) h
  where
    by : (b : Bool) → (line_by m f block b).says i u o → InBlock m f block i o
    by true h = slot_claim_is m f block i u o h
    by false h = value_claim_is m f block i u o h

lines_are : (m : Module) (f : Function) (block : ℕ) (i : Input) (xs : List (Unit {0})) (o : Input) → Listed text.past_lines (line m f block).says i xs o → InBlock m f block i o
lines_are m f block i [] o h within = (subst (λ (x : Input). Within m f block x.read.draft) h.1 within, ap (λ (x : Input). x.read.sections) h.1, ap (λ (x : Input). x.read.draft.given) h.1)
lines_are m f block i (u ∷ xs) o h within =
    let one = line_is m f block i u h.1 h.2 within in
    let more = lines_are m f block h.1 xs o h.3 one.0 in
    (more.0, one.1 ∙ more.1, one.2 ∙ more.2)

-- ---- blocks

-- a state whose section fits, between its blocks
abbrev pub InSection : Module → Function → Input → Input → Type 0
InSection m f i o = Between m f i.read.draft → Between m f o.read.draft × (i.read.sections ≡ o.read.sections)

new_block_is : (f : Function) (i : Input) (block : ℕ) (o : Input) → (new_block f).says i block o → (slice_get i.read.draft.given block ≡ Some false) × (still i ≡ still o)
unfolding new_block
new_block_is f i block o h = by (names.block_of_word f (word i)) h
  where
    by_given : (k : ℕ) (g : Option Bool) → slice_get i.read.draft.given k ≡ g → (block_by k g).says i block o → (slice_get i.read.draft.given block ≡ Some false) × (still i ≡ still o)
    by_given k None is h = absurd h
    by_given k (Some true) is h = absurd h
    by_given k (Some false) is h = (ap (slice_get i.read.draft.given) (sym (taken_is k i block o h)) ∙ is, still_taken k i block o h)

    by : (n : Naming) → (block_named n).says i block o → (slice_get i.read.draft.given block ≡ Some false) × (still i ≡ still o)
    by naming.NoName h = absurd h
    by naming.Unknown h = absurd h
    by (naming.Named k) h = by_given k (slice_get i.read.draft.given k) refl h

all_listed_is : (block : ℕ) (i : Input) (u : Unit {0}) (o : Input) → (text.all_listed block).says i u o → (first_unlisted block i.read.draft.values i.read.draft.wanted ≡ None) × (i ≡ o)
unfolding text.all_listed
all_listed_is block i u o h = by (first_unlisted block i.read.draft.values i.read.draft.wanted) refl h
  where
    by : (x : Option ℕ) → first_unlisted block i.read.draft.values i.read.draft.wanted ≡ x → (text.listed_by x).says i u o → (first_unlisted block i.read.draft.values i.read.draft.wanted ≡ None) × (i ≡ o)
    by None is h = (is, h.1)
    by (Some left) is h = absurd h

pub block_is : (m : Module) (f : Function) (i : Input) (u : Unit {0}) (o : Input) → (text.block m f).says i u o → InSection m f i o
unfolding text.block text.lines with_block
block_is m f i u o h between =
    let word = still_expect (codes "block") i h.0 h.1 h.2 in
    let b = h.3 in
    let block = b.0 in
    let new = new_block_is f h.1 block b.1 b.2 in
    let c = b.3 in
    let end = still_line_end b.1 c.0 c.1 c.2 in
    let d = c.3 in
    let same = word ∙ new.1 ∙ end in
    let given : slice_get c.1.read.draft.given block ≡ Some false = sym (ap (λ (x : Input). slice_get x.read.draft.given block) (new.1 ∙ end)) ∙ new.0 in
    let begun : Within m f block c.1.read.draft = block_begins m f block c.1.read.draft given (subst (λ (x : Input). Between m f x.read.draft) same between) in
    let read = lines_are m f block c.1 d.2.0 d.2.1 d.2.2 begun in
    let afterwards : d.2.1 ≡ d.1 = d.2.3.1 in
    let e = d.3 in
    let listed = all_listed_is block d.1 e.0 e.1 e.2 in
    let here : Within m f block d.1.read.draft = subst (λ (x : Input). Within m f block x.read.draft) afterwards read.0 in
    let given_here : slice_get d.1.read.draft.given block ≡ Some false = sym (ap (λ x. slice_get x block) (read.2 ∙ ap (λ (x : Input). x.read.draft.given) afterwards)) ∙ given in
    let ended : Between m f (block_ended block d.1.read.draft) = block_ends m f block d.1.read.draft given_here listed.0 here in
    let out : recorded (with_block block) d.1 ≡ o = ap (recorded (with_block block)) listed.1 ∙ e.3.1 in (
      subst (λ (x : Input). Between m f x.read.draft) out ended,
      ap (λ (x : Input). x.read.sections) same ∙ read.1 ∙ ap (λ (x : Input). x.read.sections) afterwards ∙ ap (λ (x : Input). x.read.sections) out,
    )

blocks_are : (m : Module) (f : Function) (i : Input) (xs : List (Unit {0})) (o : Input) → Listed text.past_blocks (text.block m f).says i xs o → InSection m f i o
blocks_are m f i [] o h between = (subst (λ (x : Input). Between m f x.read.draft) h.1 between, ap (λ (x : Input). x.read.sections) h.1)
blocks_are m f i (u ∷ xs) o h between =
    let one = block_is m f i u h.1 h.2 between in
    let more = blocks_are m f h.1 xs o h.3 one.0 in
    (more.0, one.1 ∙ more.1)

-- ---- parameters

new_parameter_is : (f : Function) (i : Input) (place : ℕ) (o : Input) → (new_parameter f).says i place o → (is_parameter f place ≡ true) × (still i ≡ still o)
unfolding new_parameter
new_parameter_is f i place o h = by (value_of_word f (word i)) h
  where
    by_promise : (k : ℕ) (x : Option (Option Promise)) → is_parameter f k ≡ true → (unpromised k x).says i place o → (is_parameter f place ≡ true) × (still i ≡ still o)
    by_promise k None is h = absurd h
    by_promise k (Some (Some promise)) is h = absurd h
    by_promise k (Some None) is h = (ap (is_parameter f) (sym (taken_is k i place o h)) ∙ is, still_taken k i place o h)

    by_parameter : (k : ℕ) (b : Bool) → is_parameter f k ≡ b → (parameter_by k b).says i place o → (is_parameter f place ≡ true) × (still i ≡ still o)
    by_parameter k false is h = absurd h
    by_parameter k true is h = by_promise k (slice_get i.read.draft.parameters k) is h

    by : (n : Naming) → (parameter_named f n).says i place o → (is_parameter f place ≡ true) × (still i ≡ still o)
    by naming.NoName h = absurd h
    by naming.Unknown h = absurd h
    by (naming.Named k) h = by_parameter k (is_parameter f k) refl h

pub parameter_is : (m : Module) (f : Function) (i : Input) (u : Unit {0}) (o : Input) → (text.parameter m f).says i u o → InSection m f i o
unfolding text.parameter with_promise
parameter_is m f i u o h between =
    let word = still_expect (codes "param") i h.0 h.1 h.2 in
    let b = h.3 in
    let place = b.0 in
    let new = new_parameter_is f h.1 place b.1 b.2 in
    let c = b.3 in
    let said = promise_is m (family_of_value m f place) b.1 c.0 c.1 c.2 in
    let same = word ∙ new.1 ∙ said.1 in
    let put = with_parameter m f place c.0 c.1.read.draft new.0 said.0 (subst (λ (x : Input). Between m f x.read.draft) same between) in
    (subst (λ (x : Input). Between m f x.read.draft) c.3.1 put, ap (λ (x : Input). x.read.sections) same ∙ ap (λ (x : Input). x.read.sections) c.3.1)

parameters_are : (m : Module) (f : Function) (i : Input) (xs : List (Unit {0})) (o : Input) → Listed text.past_parameters (text.parameter m f).says i xs o → InSection m f i o
parameters_are m f i [] o h between = (subst (λ (x : Input). Between m f x.read.draft) h.1 between, ap (λ (x : Input). x.read.sections) h.1)
parameters_are m f i (u ∷ xs) o h between =
    let one = parameter_is m f i u h.1 h.2 between in
    let more = parameters_are m f h.1 xs o h.3 one.0 in
    (more.0, one.1 ∙ more.1)

result_is : (m : Module) (f : Function) (i : Input) (p : Option Promise) (o : Input) → (text.result_line m f).says i p o → (promised_fits m (family_of_type m f.returned) p ≡ true) × (still i ≡ still o)
unfolding text.result_line
result_is m f i p o h = by (begins (codes "result") i) h
  where
    by : (b : Bool) → (text.result_by m f b).says i p o → (promised_fits m (family_of_type m f.returned) p ≡ true) × (still i ≡ still o)
    by true h =
        let said = promise_is m (family_of_type m f.returned) h.2.1 h.0 h.1 h.2.3 in
        (subst (λ x. promised_fits m (family_of_type m f.returned) x ≡ true) h.3.0 said.0, still_skip i h.2.0 h.2.1 h.2.2 ∙ said.1 ∙ ap still h.3.1)
    by false h = (ap (promised_fits m (family_of_type m f.returned)) (sym h.0), ap still h.1)

-- ---- sections

body_is : (m : Module) (f : Function) (i : Input) (p : Option Promise) (o : Input) → (text.body m f).says i p o → Between m f o.read.draft × (promised_fits m (family_of_type m f.returned) p ≡ true) × (i.read.sections ≡ o.read.sections)
unfolding text.body begin begun text.parameters text.blocks
body_is m f i p o h =
    let begun = h.2.1 in
    let start : Between m f h.1.read.draft = subst (λ (x : Input). Between m f x.read.draft) begun (at_start m f) in
    let b = h.3 in
    let params = parameters_are m f h.1 b.2.0 b.2.1 b.2.2 start in
    let params_end : b.2.1 ≡ b.1 = b.2.3.1 in
    let c = b.3 in
    let result = result_is m f b.1 c.0 c.1 c.2 in
    let at : Between m f c.1.read.draft = subst (λ (x : Input). Between m f x.read.draft) (ap still params_end ∙ result.1) params.0 in
    let d = c.3 in
    let blocks = blocks_are m f c.1 d.2.0 d.2.1 d.2.2 at in
    let out : d.2.1 ≡ o = d.2.3.1 ∙ d.3.1 in (
      subst (λ (x : Input). Between m f x.read.draft) out blocks.0,
      subst (λ x. promised_fits m (family_of_type m f.returned) x ≡ true) d.3.0 result.0,
      ap (λ (x : Input). x.read.sections) begun ∙ params.1 ∙ ap (λ (x : Input). x.read.sections) params_end ∙ ap (λ (x : Input). x.read.sections) result.1 ∙ blocks.1 ∙ ap (λ (x : Input). x.read.sections) out,
    )

section_fits_between : (m : Module) (f : Function) (mark : Mark) (p : Option Promise) (d : SectionDraft) → Between m f d → promised_fits m (family_of_type m f.returned) p ≡ true → section_fits m f (kept mark p d).section ≡ true
section_fits_between m f mark p d h fits =
    let same : length d.blocks == length f.blocks ≡ true = eq-eqb (length d.blocks) (length f.blocks) h.0.as_many in
    rw (h.0.promises, fits, same, h.0.entry, h.0.fit) refl

-- what is kept of a function is a section that fits
abbrev pub kept_fits : Module → Function × Option Kept → Bool
kept_fits m p = kept_by p.0 p.1
  where
    kept_by : Function → Option Kept → Bool
    kept_by f None = true
    kept_by f (Some k) = section_fits m f k.section

-- what is read of each function fits
abbrev pub Fine : Module → Input → Type 0
Fine m i = (length i.read.sections ≡ length m.functions) × (list_all (kept_fits m) (zip m.functions i.read.sections) ≡ true)

-- the section that is read fits, and is kept at this place
pub section_read : (m : Module) (place : ℕ) (f : Function) (i : Input) (u : Unit {0}) (o : Input) → (text.section_of m place f).says i u o
    → (k : Kept) × (section_fits m f k.section ≡ true) × (slice_set i.read.sections place (Some k) ≡ o.read.sections)
unfolding text.section_of with_section
section_read m place f i u o h =
    let mark = h.0 in
    let b = h.3 in
    let c = b.3 in
    let d = c.3 in
    let e = d.3 in
    let first = still_marked i mark h.1 h.2 ∙ still_line_end h.1 b.0 b.1 b.2 in
    let body = body_is m f b.1 c.0 c.1 c.2 in
    let last = still_expect (codes "end") c.1 d.0 d.1 d.2 ∙ still_line_end d.1 e.0 e.1 e.2 in
    let between : Between m f e.1.read.draft = subst (λ (x : Input). Between m f x.read.draft) last body.0 in
    let same : i.read.sections ≡ e.1.read.sections = ap (λ (x : Input). x.read.sections) first ∙ body.2 ∙ ap (λ (x : Input). x.read.sections) last in
    let k : Kept = kept mark c.0 e.1.read.draft in
    (k, section_fits_between m f mark c.0 e.1.read.draft between body.1, ap (λ x. slice_set x place (Some k)) same ∙ ap (λ (x : Input). x.read.sections) e.3.1)

section_of_is : (m : Module) (function : ℕ) (f : Function) (i : Input) (u : Unit {0}) (o : Input) → slice_get m.functions function ≡ Some f → (text.section_of m function f).says i u o → Fine m i → Fine m o
section_of_is m function f i u o at h fine =
    let read = section_read m function f i u o h in
    subst (λ x. (length x ≡ length m.functions) × (list_all (kept_fits m) (zip m.functions x) ≡ true)) read.2
    (length-set i.read.sections function (Some read.0) ∙ fine.0, all_set_zip (kept_fits m) m.functions i.read.sections function f (Some read.0) at fine.1 read.1)

still_new_function : (m : Module) → Still (new_function m)
unfolding new_function
still_new_function m i a o h = by (names.function_of_word m (word i)) h
  where
    by_kept : (k : ℕ) (x : Option (Option Kept)) → (function_by k x).says i a o → still i ≡ still o
    by_kept k None h = absurd h
    by_kept k (Some (Some kept)) h = absurd h
    by_kept k (Some None) h = still_taken k i a o h

    by : (n : Naming) → (function_named n).says i a o → still i ≡ still o
    by naming.NoName h = absurd h
    by naming.Unknown h = absurd h
    by (naming.Named k) h = by_kept k (slice_get i.read.sections k) h

section_is : (m : Module) (i : Input) (u : Unit {0}) (o : Input) → (text.section m).says i u o → Fine m i → Fine m o
unfolding text.section text.section_after
section_is m i u o h fine =
    let word = still_expect (codes "function") i h.0 h.1 h.2 in
    let b = h.3 in
    let name = still_new_function m h.1 b.0 b.1 b.2 in
    by (slice_get m.functions b.0) refl b.3 (subst (λ (x : Input). Fine m x) (word ∙ name) fine)
  where
    by : (x : Option Function) → slice_get m.functions h.3.0 ≡ x → (text.section_by m h.3.0 x).says h.3.1 u o → Fine m (still h.3.1) → Fine m o
    by None is g fine = absurd g
    by (Some f) is g fine = section_of_is m h.3.0 f h.3.1 u o is g fine

pub sections_are : (m : Module) (i : Input) (xs : List (Unit {0})) (o : Input) → Listed (λ i. ended i) (text.section m).says i xs o → Fine m i → Fine m o
sections_are m i [] o h fine = subst (Fine m) h.1 fine
sections_are m i (u ∷ xs) o h fine = sections_are m h.1 xs o h.3 (section_is m i u h.1 h.2 fine)

abbrev pub unkept : List Function → List (Option Kept)
unkept fs = map (λ _. None) fs

pub none_kept : (m : Module) (fs : List Function) → (length (unkept fs) ≡ length fs) × (list_all (kept_fits m) (zip fs (unkept fs)) ≡ true)
none_kept m [] = (refl, refl)
none_kept m (f ∷ fs) = let more = none_kept m fs in (ap suc more.0, more.1)

-- where nothing is missing, all that is kept is handed on
all_kept : (m : Module) (n : ℕ) (fs : List Function) (ks : List (Option Kept)) → length ks ≡ length fs → first_gap n ks ≡ None → list_all (kept_fits m) (zip fs ks) ≡ true
    → (length (sections_in ks) ≡ length fs) × (list_all (λ p. section_fits m p.0 p.1) (zip fs (sections_in ks)) ≡ true)
all_kept m n [] [] len gap all = (refl, refl)
all_kept m n [] (k ∷ ks) len gap all = absurd (omega arith)
all_kept m n (f ∷ fs) [] len gap all = absurd (omega arith)
all_kept m n (f ∷ fs) (None ∷ ks) len gap all = absurd cc
all_kept m n (f ∷ fs) (Some k ∷ ks) len gap all =
    let more = all_kept m (n + 1) fs ks (omega arith) (rest k.missing gap) (second (section_fits m f k.section) (list_all (kept_fits m) (zip fs ks)) all) in
    (ap suc more.0, and_true (section_fits m f k.section) (list_all (λ p. section_fits m p.0 p.1) (zip fs (sections_in ks))) (first (section_fits m f k.section) (list_all (kept_fits m) (zip fs ks)) all) more.1)
  where
    rest : (missing : Option ℕ) → gap_or (gap_in n missing) (first_gap (n + 1) ks) ≡ None → first_gap (n + 1) ks ≡ None
    rest None e = e
    rest (Some block) e = absurd cc

    first : (a b : Bool) → (a && b) ≡ true → a ≡ true
    first true b e = refl
    first false b e = absurd cc

    second : (a b : Bool) → (a && b) ≡ true → b ≡ true
    second true b e = e
    second false b e = absurd cc

pub finished_is : (m : Module) (i : Input) (s : List Section) (o : Input) → text.finished.says i s o → Fine m i → fits m s ≡ true
unfolding text.finished
finished_is m i s o h fine = by (first_gap 0 i.read.sections) refl h
  where
    by : (x : Option Mistake) → first_gap 0 i.read.sections ≡ x → (finished_by x).says i s o → fits m s ≡ true
    by None is h =
        let all = all_kept m 0 m.functions i.read.sections fine.0 is fine.1 in
        subst (λ x. fits m x ≡ true) h.0 (and_true (length (sections_in i.read.sections) == length m.functions) (list_all (λ p. section_fits m p.0 p.1) (zip m.functions (sections_in i.read.sections))) (eq-eqb (length (sections_in i.read.sections)) (length m.functions) all.0) all.1)
    by (Some gap) is h = absurd h
