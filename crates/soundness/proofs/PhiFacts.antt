-- What phis keep: each takes a copy of its entry, all at once.
use Rattle.std.proofs.Common.{◌≡◌, ◌≢◌, ℕ, ◌<◌, ◌≤◌, List, [], ◌∷◌, ◌++◌, length, refl, sym, ap, ◌∙◌, subst, arith, true, false, Bool, slice_set, inl, inr}
use Rattle.std.proofs.lemmas.List.{length-set}
use Rattle.std.specs.Prelude.{◌⊎◌}
use Rattle.pools.specs.Heap.{Setup}
use Rattle.layout.specs.Layouts.{LaidOut}
use Rattle.shadow_stack.specs.Slots.{SlotTable}
use Rattle.fact_tables.specs.declared.known.Class.{Class}
use Rattle.facts.specs.declared.entry.Entry.{Entry}
use Rattle.fact_tables.specs.declared.known.Known.{Known}
use Rattle.fact_tables.specs.declared.known.Known.TheVariants.{Nothing, Number, Cell, Null, Address, GlobalAddress}
use Rattle.fact_tables.specs.Rows.{known_at, class_at, lost_class, values_without}
use Rattle.facts.specs.Facts.{FactSet, define, drop_fresh_of, drop_fresh_all, enter_phi, enter_phis, after_phis}
use Rattle.machine.specs.declared.value.Value.{Value}
use Rattle.machine.specs.declared.value.Value.TheVariants as value
use Rattle.machine.specs.Kinds.{register_at}
use Rattle.machine.specs.Log.{Log}
use Rattle.soundness.specs.Meaning.{Cells, Guarded, IsReferenceTo, IsOwn, AreApart, IsInteger, Means, Holds}
use Rattle.soundness.proofs.Lists.{at_set, at_old, longer, at_end}
use Rattle.soundness.proofs.Keep.{set_cell, forget_cell, known_within}
use Rattle.soundness.proofs.Change.{extend, extend_old, drop_keeps, define_plain, new_keeps}

-- entries with the values that come in
abbrev pub entries_of : List (Entry × Value) → List Entry
entries_of [] = []
entries_of (copy ∷ copies) = copy.0 ∷ entries_of copies

-- each is put into its register
abbrev pub copied : List (Entry × Value) → List Value → List Value
copied [] registers = registers
copied (copy ∷ copies) registers = copied copies (slice_set registers copy.0.phi copy.1)

-- no entry is of this class
abbrev NotOf : List Entry → ℕ → Type 0
NotOf [] c = Unit {0}
NotOf (entry ∷ entries) c = ((l : ℕ) (s : Bool) → entry.known ≡ Cell c l s → ⊥) × NotOf entries c

pub drop_one : (k : Known) (f : FactSet) (c : ℕ) → (class_at (drop_fresh_of k f).classes c).fresh ≡ true → ((class_at f.classes c).fresh ≡ true) × ((l : ℕ) (s : Bool) → k ≡ Cell c l s → ⊥)
drop_one (Cell d l s) f c fr = at_set (λ x. x.fresh ≡ true → ((class_at f.classes c).fresh ≡ true) × ((m : ℕ) (t : Bool) → Cell d l s ≡ Cell c m t → ⊥)) f.classes d c _ lost_class
    (λ e lt z. absurd cc) (λ ne z. (z, λ m t e. ne cc)) (λ z. absurd cc) fr
drop_one Nothing f c fr = (fr, λ m t e. cc)
drop_one (Number n b) f c fr = (fr, λ m t e. cc)
drop_one Null f c fr = (fr, λ m t e. cc)
drop_one (Address x w) f c fr = (fr, λ m t e. cc)
drop_one (GlobalAddress g) f c fr = (fr, λ m t e. cc)

dropped : (entries : List Entry) (f : FactSet) (c : ℕ) → (class_at (drop_fresh_all entries f).classes c).fresh ≡ true → ((class_at f.classes c).fresh ≡ true) × NotOf entries c
dropped [] f c fr = (fr, tt)
dropped (entry ∷ entries) f c fr =
    let r = dropped entries (drop_fresh_of entry.known f) c fr in
    let o = drop_one entry.known f c r.0 in
    (o.0, (o.1, r.1))

pub drop_of_values : (k : Known) (f : FactSet) → (drop_fresh_of k f).values ≡ f.values
drop_of_values (Cell d l s) f = refl
drop_of_values Nothing f = refl
drop_of_values (Number n b) f = refl
drop_of_values Null f = refl
drop_of_values (Address x w) f = refl
drop_of_values (GlobalAddress g) f = refl

drop_values : (entries : List Entry) (f : FactSet) → (drop_fresh_all entries f).values ≡ f.values
drop_values [] f = refl
drop_values (entry ∷ entries) f = drop_values entries (drop_fresh_of entry.known f) ∙ drop_of_values entry.known f

module _ (heap : Setup) (p : LaidOut) (table : SlotTable) (guarded : Guarded) (log : Log) (slots : List Value) where
  abbrev Stands : Cells → FactSet → List Value → Type 0
  Stands cells facts registers = Holds heap p table guarded log cells facts registers slots

  pub drop_of_keeps : (cells : Cells) (k : Known) (facts : FactSet) (registers : List Value) → Stands cells facts registers → Stands cells (drop_fresh_of k facts) registers
  drop_of_keeps cells (Cell c l s) facts registers h = drop_keeps heap p table guarded log cells facts registers slots h c
  drop_of_keeps cells Nothing facts registers h = h
  drop_of_keeps cells (Number n b) facts registers h = h
  drop_of_keeps cells Null facts registers h = h
  drop_of_keeps cells (Address x w) facts registers h = h
  drop_of_keeps cells (GlobalAddress g) facts registers h = h

  pub drop_all_keeps : (cells : Cells) (entries : List Entry) (facts : FactSet) (registers : List Value) → Stands cells facts registers → Stands cells (drop_fresh_all entries facts) registers
  drop_all_keeps cells [] facts registers h = h
  drop_all_keeps cells (entry ∷ entries) facts registers h = drop_all_keeps cells entries (drop_fresh_of entry.known facts) registers (drop_of_keeps cells entry.known facts registers h)

  -- a reference that may be copied: no fresh value is of its cell
  record MayCopy (cells : Cells) (facts : FactSet) (c l : ℕ) (s : Bool) (x : Value) : Type 0 where
    within : c < length facts.classes
    refers : IsReferenceTo heap l x
    own : s ≡ false → IsOwn log guarded x
    nonnull : (class_at facts.classes c).nonnull ≡ true → x ≢ value.Null
    apart : s ≡ false → (w d m : ℕ) (t : Bool) → known_at facts.values w ≡ Cell d m t → (class_at facts.classes d).fresh ≡ true → AreApart (cells d) x

  abbrev Copyable : Cells → FactSet → Known → Value → Type 0
  Copyable cells facts Nothing x = Unit {0}
  Copyable cells facts (Number bits below) x = IsInteger bits below x
  Copyable cells facts (Cell c l s) x = MayCopy cells facts c l s x
  Copyable cells facts Null x = x ≡ value.Null
  Copyable cells facts (Address b w) x = Unit {0}
  Copyable cells facts (GlobalAddress g) x = Unit {0}

  -- what a copy leaves
  record Entered (cells : Cells) (facts : FactSet) (v : ℕ) (k : Known) (x : Value) (registers : List Value) : Type 0 where
    more : Cells
    holds : Stands more (enter_phi v k facts) (slice_set registers v x)
    grown : length facts.classes ≤ length (enter_phi v k facts).classes
    agree : (c : ℕ) → c < length facts.classes → more c ≡ cells c
    same : (c : ℕ) → c < length facts.classes → class_at (enter_phi v k facts).classes c ≡ class_at facts.classes c
    was : (w c l : ℕ) (s : Bool) → known_at (enter_phi v k facts).values w ≡ Cell c l s → (class_at (enter_phi v k facts).classes c).fresh ≡ true → (known_at facts.values w ≡ Cell c l s) × ((class_at facts.classes c).fresh ≡ true)

  plain_enters : (cells : Cells) (facts : FactSet) (v : ℕ) (k : Known) (x : Value) (registers : List Value) → ((c l : ℕ) (s : Bool) → k ≡ Cell c l s → ⊥) → Stands cells facts registers → Means heap p guarded log cells (length facts.classes) (slice_set registers v x) k x
      → (w c l : ℕ) (s : Bool) → known_at (define v k facts).values w ≡ Cell c l s → known_at facts.values w ≡ Cell c l s
  plain_enters cells facts v k x registers none h means w c l s e = pick (set_cell (values_without v facts.values) v w k c l s e) where
    pick : ((v ≡ w) × (k ≡ Cell c l s)) ⊎ (known_at (values_without v facts.values) w ≡ Cell c l s) → known_at facts.values w ≡ Cell c l s
    pick (inl z) = absurd (none c l s z.1)
    pick (inr z) = forget_cell v facts.values w c l s z

  nothing_enters : (cells : Cells) (facts : FactSet) (v : ℕ) (k : Known) (x : Value) (registers : List Value) → enter_phi v k facts ≡ define v Nothing facts → Stands cells facts registers → Entered cells facts v k x registers
  nothing_enters cells facts v k x registers is h = record {
    more = cells;
    holds = subst (λ f. Stands cells f (slice_set registers v x)) (sym is) (define_plain heap p table guarded log cells facts registers slots h v Nothing x (λ c l s z. cc) tt);
    grown = omega (arith, ap (λ f. length f.classes) is);
    agree = λ c lt. refl;
    same = λ c lt. ap (λ f. class_at f.classes c) is;
    was = λ w c l s e fr. (plain_enters cells facts v Nothing x registers (λ c l s z. cc) h tt w c l s (sym (ap (λ f. known_at f.values w) is) ∙ e), sym (ap (λ f. (class_at f.classes c).fresh) is) ∙ fr);
  }

  enters : (cells : Cells) (facts : FactSet) (v : ℕ) (k : Known) (x : Value) (registers : List Value) → Stands cells facts registers → Copyable cells facts k x → Entered cells facts v k x registers
  enters cells facts v (Number bits below) x registers h m = record {
    more = cells;
    holds = define_plain heap p table guarded log cells facts registers slots h v (Number bits below) x (λ c l s z. cc) m;
    grown = omega arith;
    agree = λ c lt. refl;
    same = λ c lt. refl;
    was = λ w c l s e fr. (plain_enters cells facts v (Number bits below) x registers (λ c l s z. cc) h m w c l s e, fr);
  }
  enters cells facts v Null x registers h m = record {
    more = cells;
    holds = define_plain heap p table guarded log cells facts registers slots h v Null x (λ c l s z. cc) m;
    grown = omega arith;
    agree = λ c lt. refl;
    same = λ c lt. refl;
    was = λ w c l s e fr. (plain_enters cells facts v Null x registers (λ c l s z. cc) h m w c l s e, fr);
  }
  enters cells facts v (Cell c l s) x registers h m = record {
    more = extend cells (length facts.classes) x;
    holds = new_keeps heap p table guarded log cells facts registers slots h v l s class x m.refers m.own (record { nonnull = m.nonnull; fresh = λ z. absurd cc }) (λ z. absurd cc) (λ z w d k t is fr. m.apart z w d k t is fr) (λ z. absurd cc);
    grown = omega (arith, longer facts.classes class);
    agree = λ d lt. extend_old cells (length facts.classes) x d lt;
    same = λ d lt. at_old facts.classes class d lost_class lt;
    was = λ w d k t e fr. before w d k t (set_cell (values_without v facts.values) v w (Cell (length facts.classes) l s) d k t e) fr;
  } where
    class : Class
    class = record { nonnull = (class_at facts.classes c).nonnull; fresh = false }

    before : (w d k : ℕ) (t : Bool) → ((v ≡ w) × (Cell (length facts.classes) l s ≡ Cell d k t)) ⊎ (known_at (values_without v facts.values) w ≡ Cell d k t) → (class_at (facts.classes ++ class ∷ []) d).fresh ≡ true → (known_at facts.values w ≡ Cell d k t) × ((class_at facts.classes d).fresh ≡ true)
    before w d k t (inl z) fr =
        let n : length facts.classes ≡ d = let y = z.1 in cc in
        let no : false ≡ true = sym (ap (λ y. y.fresh) (at_end facts.classes class lost_class)) ∙ subst (λ y. (class_at (facts.classes ++ class ∷ []) y).fresh ≡ true) (sym n) fr in
        absurd cc
    before w d k t (inr z) fr =
        let is = forget_cell v facts.values w d k t z in
        let lt = (known_within heap p table guarded log cells facts registers slots h w d k t is).within in
        (is, sym (ap (λ y. y.fresh) (at_old facts.classes class d lost_class lt)) ∙ fr)
  enters cells facts v Nothing x registers h m = nothing_enters cells facts v Nothing x registers refl h
  enters cells facts v (Address b w) x registers h m = nothing_enters cells facts v (Address b w) x registers refl h
  enters cells facts v (GlobalAddress g) x registers h m = nothing_enters cells facts v (GlobalAddress g) x registers refl h

  copyable_stays : (cells : Cells) (facts : FactSet) (v : ℕ) (k : Known) (x : Value) (registers : List Value) → Stands cells facts registers → (e : Entered cells facts v k x registers) → (j : Known) (y : Value) → Copyable cells facts j y → Copyable e.more (enter_phi v k facts) j y
  copyable_stays cells facts v k x registers h e Nothing y m = tt
  copyable_stays cells facts v k x registers h e (Number n b) y m = m
  copyable_stays cells facts v k x registers h e (Cell c l s) y m = record {
    within = omega (arith, e.grown, m.within);
    refers = m.refers;
    own = m.own;
    nonnull = λ z. m.nonnull (sym (ap (λ t. t.nonnull) (e.same c m.within)) ∙ z);
    apart = λ z w d n t is fr.
        let o = e.was w d n t is fr in
        subst (λ q. AreApart q y) (sym (e.agree d (known_within heap p table guarded log cells facts registers slots h w d n t o.0).within)) (m.apart z w d n t o.0 o.1);
  }
  copyable_stays cells facts v k x registers h e Null y m = m
  copyable_stays cells facts v k x registers h e (Address b w) y m = tt
  copyable_stays cells facts v k x registers h e (GlobalAddress g) y m = tt

  abbrev AllCopyable : Cells → FactSet → List (Entry × Value) → Type 0
  AllCopyable cells facts [] = Unit {0}
  AllCopyable cells facts (copy ∷ copies) = Copyable cells facts copy.0.known copy.1 × AllCopyable cells facts copies

  all_stay : (cells : Cells) (facts : FactSet) (v : ℕ) (k : Known) (x : Value) (registers : List Value) → Stands cells facts registers → (e : Entered cells facts v k x registers) → (copies : List (Entry × Value)) → AllCopyable cells facts copies → AllCopyable e.more (enter_phi v k facts) copies
  all_stay cells facts v k x registers h e [] m = tt
  all_stay cells facts v k x registers h e (copy ∷ copies) m = (copyable_stays cells facts v k x registers h e copy.0.known copy.1 m.0, all_stay cells facts v k x registers h e copies m.1)

  all_enter : (cells : Cells) (facts : FactSet) (registers : List Value) (copies : List (Entry × Value)) → Stands cells facts registers → AllCopyable cells facts copies → (more : Cells) × Stands more (enter_phis (entries_of copies) facts) (copied copies registers)
  all_enter cells facts registers [] h m = (cells, h)
  all_enter cells facts registers (copy ∷ copies) h m =
      let e = enters cells facts copy.0.phi copy.0.known copy.1 registers h m.0 in
      all_enter e.more (enter_phi copy.0.phi copy.0.known facts) (slice_set registers copy.0.phi copy.1) copies e.holds (all_stay cells facts copy.0.phi copy.0.known copy.1 registers h e copies m.1)

  -- what is known of an entry holds of the value that comes in
  pub record ComesFrom (facts : FactSet) (registers : List Value) (c l : ℕ) (s : Bool) (x : Value) : Type 0 where
    pub of : ℕ
    pub known : known_at facts.values of ≡ Cell c l s
    pub is : x ≡ register_at registers of

  abbrev pub ComesIn : FactSet → List Value → Known → Value → Type 0
  ComesIn facts registers Nothing x = Unit {0}
  ComesIn facts registers (Number bits below) x = IsInteger bits below x
  ComesIn facts registers (Cell c l s) x = ComesFrom facts registers c l s x
  ComesIn facts registers Null x = x ≡ value.Null
  ComesIn facts registers (Address b w) x = Unit {0}
  ComesIn facts registers (GlobalAddress g) x = Unit {0}

  abbrev pub AllComeIn : FactSet → List Value → List (Entry × Value) → Type 0
  AllComeIn facts registers [] = Unit {0}
  AllComeIn facts registers (copy ∷ copies) = ComesIn facts registers copy.0.known copy.1 × AllComeIn facts registers copies

  module _ (cells : Cells) (facts : FactSet) (registers : List Value) (h : Stands cells facts registers) (copies : List (Entry × Value)) where
    abbrev rest : FactSet
    rest = drop_fresh_all (entries_of copies) facts

    size : (entries : List Entry) (f : FactSet) → length (drop_fresh_all entries f).classes ≡ length f.classes
    size [] f = refl
    size (entry ∷ entries) f = size entries (drop_fresh_of entry.known f) ∙ one entry.known where
      one : (k : Known) → length (drop_fresh_of k f).classes ≡ length f.classes
      one (Cell d l s) = length-set f.classes d _
      one Nothing = refl
      one (Number n b) = refl
      one Null = refl
      one (Address x w) = refl
      one (GlobalAddress g) = refl

    stands : Stands cells rest registers
    stands = drop_all_keeps cells (entries_of copies) facts registers h

    source : (k : Known) (x : Value) → ((c : ℕ) → (class_at rest.classes c).fresh ≡ true → (l : ℕ) (s : Bool) → k ≡ Cell c l s → ⊥) → ComesIn facts registers k x → Copyable cells rest k x
    source Nothing x none m = tt
    source (Number n b) x none m = m
    source (Cell c l s) x none m =
        let is = ap (λ v. known_at v m.of) (drop_values (entries_of copies) facts) ∙ m.known in
        let w = known_within heap p table guarded log cells rest registers slots stands m.of c l s is in
        let cell : x ≡ cells c = m.is ∙ w.is in
        record {
          within = w.within;
          refers = subst (IsReferenceTo heap l) (sym m.is) w.refers;
          own = λ z. subst (IsOwn log guarded) (sym m.is) (w.own z);
          nonnull = λ z y. (stands.classes c).nonnull z (sym cell ∙ y);
          apart = λ z v d n t isv fr. subst (AreApart (cells d)) (sym cell) (stands.alone v m.of d c n l t isv (is ∙ ap (Cell c l) z) fr (λ q. none d fr l s (ap (λ y. Cell y l s) (sym q))));
        }
    source Null x none m = m
    source (Address b w) x none m = tt
    source (GlobalAddress g) x none m = tt

    sources : (some : List (Entry × Value)) → ((c : ℕ) → (class_at rest.classes c).fresh ≡ true → NotOf (entries_of some) c) → AllComeIn facts registers some → AllCopyable cells rest some
    sources [] none m = tt
    sources (copy ∷ some) none m = (source copy.0.known copy.1 (λ c fr. (none c fr).0) m.0, sources some (λ c fr. (none c fr).1) m.1)

    -- the classes of all entries lose fresh, then each phi takes its entry
    pub phis_keep : AllComeIn facts registers copies → (more : Cells) × Stands more (after_phis (entries_of copies) facts) (copied copies registers)
    phis_keep m = all_enter cells rest registers copies stands (sources copies (λ c fr. (dropped (entries_of copies) facts c fr).1) m)
