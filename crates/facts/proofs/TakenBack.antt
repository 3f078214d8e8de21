-- What phis change, and how it is taken back.
use Rattle.std.proofs.Common.{◌≡◌, ◌<◌, ◌≤◌, ◌⊎◌, inl, inr, ℕ, zero, suc, List, [], ◌∷◌, ◌++◌, ◌+◌, length, get_or, take, refl, sym, ap, subst, arith, ◌∙◌, true, Option, slice_set}
use Rattle.std.proofs.lemmas.Bool.{cases_eq, cases_lt}
use Rattle.std.proofs.lemmas.List.{ext_get_or, get_or_past, get_or-set_same, get_or-set_other, get_or-take, get_or_append_left, length-append, length-set, length-take-le}
use Rattle.std.specs.Prelude.{false}
use Rattle.lemmas.specs.Numbers.{test_true, test_yes}
use Rattle.fact_tables.specs.declared.known.Class.{Class}
use Rattle.facts.specs.declared.entry.Entry.{Entry}
use Rattle.fact_tables.specs.declared.known.Known.{Known}
use Rattle.fact_tables.specs.declared.known.Known.TheVariants.{Nothing, Number, Cell, Null, Address, GlobalAddress}
use Rattle.fact_tables.specs.declared.known.SlotFact.{SlotFact}
use Rattle.fact_tables.specs.declared.known.Test.{Test}
use Rattle.fact_tables.specs.Rows.{known_at, class_at, lost_class, is_of}
use Rattle.facts.specs.Facts.{FactSet, set_known, define, drop_fresh_of, drop_fresh_all, enter_phi}
use Rattle.facts.specs.TakenBack.{IsPhi, ComesIn, DifferBy, EndsAlone, class_back, entry_back}

-- ---- what phis change

module _ (entries : List Entry) where
  pub no_difference : (f : FactSet) → DifferBy entries f f
  no_difference f = record {
    slots = refl;
    tests = refl;
    many = refl;
    values = λ v. inr refl;
    more = omega arith;
    classes = λ c lt. inr refl;
  }

  module _ (before : FactSet) where
    dropped : (known : Known) → ((c : ℕ) → is_of c known ≡ true → ComesIn c entries) → (f : FactSet) → DifferBy entries before f → DifferBy entries before (drop_fresh_of known f)
    dropped (Cell c layout stale) comes f d = record {
      slots = d.slots;
      tests = d.tests;
      many = d.many;
      values = d.values;
      more = rw length-set d.more;
      classes = λ b lt. elim (cases_eq c b) [
        | inl same ↦ inl (comes b (test_yes c b same))
        | inr ne ↦ elim (d.classes b lt) [ inl one ↦ inl one | inr e ↦ inr (get_or-set_other f.classes c b (record (class_at f.classes c) { fresh = false }) lost_class (λ e. ne (sym e)) ∙ e) ]
      ];
    }
    dropped Nothing comes f d = d
    dropped (Number bits below) comes f d = d
    dropped Null comes f d = d
    dropped (Address base words) comes f d = d
    dropped (GlobalAddress g) comes f d = d

    all_dropped : (rest : List Entry) → ((c : ℕ) → ComesIn c rest → ComesIn c entries) → (f : FactSet) → DifferBy entries before f → DifferBy entries before (drop_fresh_all rest f)
    all_dropped [] within f d = d
    all_dropped (entry ∷ rest) within f d = all_dropped rest (λ c there. within c (inr there)) (drop_fresh_of entry.known f) (dropped entry.known (λ c e. within c (inl e)) f d)

    -- a phi whose last meaning ends alone is defined
    module _ (v : ℕ) (phi : IsPhi v entries) (f : FactSet) (alone : EndsAlone v f) (d : DifferBy entries before f) where
      defined_alone : (known : Known) (classes : List Class) → length f.classes ≤ length classes → ((c : ℕ) → c < length f.classes → class_at classes c ≡ class_at f.classes c) → DifferBy entries before (define v known (record f { classes = classes }))
      defined_alone known classes longer kept = subst (DifferBy entries before) (sym (ap (set_known v known) (alone classes))) (record {
        slots = d.slots;
        tests = d.tests;
        many = length-set (slice_set f.values v Nothing) v known ∙ length-set f.values v Nothing ∙ d.many;
        values = λ u. elim (cases_eq v u) [
          | inl same ↦ inl (subst (λ x. IsPhi x entries) same phi)
          | inr ne ↦ elim (d.values u) [ inl one ↦ inl one | inr e ↦ inr (get_or-set_other (slice_set f.values v Nothing) v u known Nothing (λ e. ne (sym e)) ∙ get_or-set_other f.values v u Nothing Nothing (λ e. ne (sym e)) ∙ e) ]
        ];
        more = omega (arith, d.more, longer);
        classes = λ c lt. elim (d.classes c lt) [ inl one ↦ inl one | inr e ↦ inr (kept c (omega (arith, lt, d.more)) ∙ e) ];
      })

      defined_plain : (known : Known) → DifferBy entries before (define v known f)
      defined_plain known = defined_alone known f.classes (omega arith) (λ c lt. refl)

      pub entered : (known : Known) → DifferBy entries before (enter_phi v known f)
      entered (Cell c layout stale) = defined_alone (Cell (length f.classes) layout stale) (f.classes ++ class ∷ []) (omega (arith, length-append f.classes (class ∷ []))) (λ b lt. get_or_append_left f.classes (class ∷ []) lost_class b lt) where
        class : Class
        class = record { nonnull = (class_at f.classes c).nonnull; fresh = false }
      entered Nothing = defined_plain Nothing
      entered (Number bits below) = defined_plain (Number bits below)
      entered Null = defined_plain Null
      entered (Address base words) = defined_plain Nothing
      entered (GlobalAddress g) = defined_plain Nothing

  -- where the classes of all that comes in are fresh no more
  pub dropped_all : (f : FactSet) → DifferBy entries f (drop_fresh_all entries f)
  dropped_all f = all_dropped f entries (λ c there. there) f (no_difference f)

-- an entry is one of the entries
pub phi_there : (entries : List Entry) (i : ℕ) → i < length entries → (entry : Entry) → entry ≡ get_or entries i entry → IsPhi entry.phi entries
phi_there [] i lt entry is = absurd (omega (arith, lt))
phi_there (first ∷ entries) zero lt entry is = inl (ap (λ (e : Entry). e.phi) (sym is))
phi_there (first ∷ entries) (suc i) lt entry is = inr (phi_there entries i (omega (arith, lt)) entry is)

-- ---- it is taken back

module _ (rest : List Entry) (before : FactSet) where
  module _ (g : FactSet) (slots : g.slots ≡ before.slots) (tests : g.tests ≡ before.tests) (many : length g.values ≡ length before.values) (values : (v : ℕ) → IsPhi v rest ⊎ (known_at g.values v ≡ known_at before.values v)) (more : length before.classes ≤ length g.classes) where
    plain : (known : Known) → ((c : ℕ) → is_of c known ≡ true → ⊥) → ((c : ℕ) → c < length before.classes → ((is_of c known ≡ true) ⊎ ComesIn c rest) ⊎ (class_at g.classes c ≡ class_at before.classes c)) → DifferBy rest before g
    plain known none classes = record {
      slots = slots;
      tests = tests;
      many = many;
      values = values;
      more = more;
      classes = λ c lt. elim (classes c lt) [ inl one ↦ elim one [ inl of ↦ absurd (none c of) | inr there ↦ inl there ] | inr e ↦ inr e ];
    }

    class_is_back : (known : Known) → ((c : ℕ) → c < length before.classes → ((is_of c known ≡ true) ⊎ ComesIn c rest) ⊎ (class_at g.classes c ≡ class_at before.classes c)) → DifferBy rest before (class_back known before g)
    class_is_back (Cell c layout stale) classes = record {
      slots = slots;
      tests = tests;
      many = many;
      values = values;
      more = rw length-set more;
      classes = λ b lt. elim (cases_eq c b) [
        | inl same ↦ inr (subst (λ (x : ℕ). class_at (slice_set g.classes c (class_at before.classes c)) x ≡ class_at before.classes x) same (get_or-set_same g.classes c (class_at before.classes c) lost_class (within b lt same)))
        | inr ne ↦ elim (classes b lt) [
          | inl one ↦ elim one [ inl of ↦ absurd (ne (test_true c b of)) | inr there ↦ inl there ]
          | inr e ↦ inr (get_or-set_other g.classes c b (class_at before.classes c) lost_class (λ e. ne (sym e)) ∙ e)
        ]
      ];
    } where
      within : (b : ℕ) → b < length before.classes → c ≡ b → c < length g.classes
      within b lt same = omega (arith, lt, same, more)
    class_is_back Nothing classes = plain Nothing (λ c e. absurd cc) classes
    class_is_back (Number bits below) classes = plain (Number bits below) (λ c e. absurd cc) classes
    class_is_back Null classes = plain Null (λ c e. absurd cc) classes
    class_is_back (Address base words) classes = plain (Address base words) (λ c e. absurd cc) classes
    class_is_back (GlobalAddress h) classes = plain (GlobalAddress h) (λ c e. absurd cc) classes

  -- an entry less
  pub entry_is_back : (entry : Entry) (f : FactSet) → DifferBy (entry ∷ rest) before f → DifferBy rest before (entry_back entry before f)
  entry_is_back entry f d = class_is_back (set_known v known f) d.slots d.tests (length-set f.values v known ∙ d.many) values d.more entry.known d.classes where
    v : ℕ
    v = entry.phi

    known : Known
    known = known_at before.values v

    here : (v < length f.values) ⊎ (length f.values ≤ v) → known_at (slice_set f.values v known) v ≡ known
    here (inl lt) = get_or-set_same f.values v known Nothing lt
    here (inr past) = get_or_past (slice_set f.values v known) v Nothing (rw length-set past) ∙ sym (get_or_past before.values v Nothing (rw (← d.many) past))

    values : (u : ℕ) → IsPhi u rest ⊎ (known_at (slice_set f.values v known) u ≡ known_at before.values u)
    values u = elim (cases_eq v u) [
      | inl same ↦ inr (subst (λ (x : ℕ). known_at (slice_set f.values v known) x ≡ known_at before.values x) same (here (cases_lt v (length f.values))))
      | inr ne ↦ elim (d.values u) [
        | inl one ↦ elim one [ inl same ↦ absurd (ne same) | inr there ↦ inl there ]
        | inr e ↦ inr (get_or-set_other f.values v u known Nothing (λ e. ne (sym e)) ∙ e)
      ]
    ]

-- where no entry is left, only classes were added
pub all_is_back : (before f : FactSet) → DifferBy [] before f → record f { classes = take (length before.classes) f.classes } ≡ before
all_is_back before f d =
    ap (λ (values : List Known). record { values = values; slots = f.slots; classes = take count f.classes; tests = f.tests }) same_values
    ∙ ap (λ (slots : List SlotFact). record { values = before.values; slots = slots; classes = take count f.classes; tests = f.tests }) d.slots
    ∙ ap (λ (classes : List Class). record { values = before.values; slots = before.slots; classes = classes; tests = f.tests }) same_classes
    ∙ ap (λ (tests : List (Option Test)). record { values = before.values; slots = before.slots; classes = before.classes; tests = tests }) d.tests
  where
    count : ℕ
    count = length before.classes

    same_values : f.values ≡ before.values
    same_values = ext_get_or Nothing f.values before.values d.many (λ v lt. elim (d.values v) [ inl one ↦ absurd one | inr e ↦ e ])

    same_classes : take count f.classes ≡ before.classes
    same_classes = ext_get_or lost_class (take count f.classes) before.classes (length-take-le count f.classes d.more)
        (λ c lt. let at : c < count = rw (← length-take-le count f.classes d.more) lt in get_or-take count f.classes c lost_class at ∙ elim (d.classes c at) [ inl one ↦ absurd one | inr e ↦ e ])
