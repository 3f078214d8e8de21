-- Values that were tied, each of the class that it has now.
use Rattle.std.proofs.Common.{◌≡◌, ◌<◌, ◌≤◌, ◌⊎◌, inl, inr, ℕ, List, [], ◌∷◌, length, map, refl, sym, ap, ◌∙◌, subst, true, Option, Some, None, slice_set}
use Rattle.std.specs.Prelude.{◌||◌}
use Rattle.std.proofs.lemmas.Bool.{cases_eq, cases_lt}
use Rattle.std.proofs.lemmas.List.{ext_get_or, get_or_past, get_or-set_same, get_or-set_other, length-set, length-map}
use Rattle.lemmas.specs.Lists.{IsIn, at_map}
use Rattle.lemmas.specs.Numbers.{test_true}
use Rattle.fact_tables.specs.declared.known.Class.{Class}
use Rattle.fact_tables.specs.declared.known.Known.{Known}
use Rattle.fact_tables.specs.declared.known.Known.TheVariants.{Nothing, Number, Cell, Null, Address, GlobalAddress}
use Rattle.fact_tables.specs.declared.ties.Ties.{Ties}
use Rattle.fact_tables.specs.Rows.{known_at, class_at}
use Rattle.facts.specs.Facts.{FactSet, set_class}
use Rattle.fact_tables.specs.Ties.{moved, class_of_place, group_of, class_now, known_now, AreTies}
use Rattle.facts.specs.Claims.{move, join}
use Rattle.facts.specs.Tied.{is_own, AreOwn, facts_now, settle_value}

-- each value but the rest is what it is now, and each of the rest that or as before
abbrev pub AreSettled : Ties → (rest : List ℕ) → (before after : List Known) → Type 0
AreSettled ties rest before after = (length after ≡ length before) × ((u : ℕ) → (known_at after u ≡ known_now ties (known_at before u)) ⊎ (IsIn u rest × (known_at after u ≡ known_at before u)))

-- each of these values is of the class that it has now
abbrev pub settle_each : Ties → List ℕ → FactSet → FactSet
settle_each ties [] f = f
settle_each ties (v ∷ list) f = settle_each ties list (settle_value ties v f)

-- nothing but values changes
same_rest : (ties : Ties) (list : List ℕ) (f : FactSet) → settle_each ties list f ≡ record f { values = (settle_each ties list f).values }
same_rest ties [] f = refl
same_rest ties (v ∷ list) f = same_rest ties list (settle_value ties v f)

settled_all : (ties : Ties) (before after : List Known) → AreSettled ties [] before after → after ≡ map (known_now ties) before
settled_all ties before after is = ext_get_or Nothing after (map (known_now ties) before) (is.0 ∙ sym (length-map before (known_now ties)))
    (λ u lt. elim (is.1 u) [ inl e ↦ e ∙ sym (at_map (known_now ties) before u Nothing refl) | inr both ↦ absurd both.0 ])

module _ (ties : Ties) (are : AreTies ties) where
  -- what a class is now it stays
  class_twice : (c : ℕ) → class_now ties (class_now ties c) ≡ class_now ties c
  class_twice c = by (group_of ties c) refl where
    by : (place : Option ℕ) → group_of ties c ≡ place → class_now ties (class_now ties c) ≡ class_now ties c
    by None e = ap (class_now ties) (ap (class_of_place ties.groups.items c) e)
    by (Some place) e = let is = ap (class_of_place ties.groups.items c) e in ap (class_now ties) is ∙ ap (class_of_place ties.groups.items (class_of_place ties.groups.items c (Some place))) (are.1 c place e).1 ∙ sym is

  known_twice : (known : Known) → known_now ties (known_now ties known) ≡ known_now ties known
  known_twice (Cell c layout stale) = ap (λ d. Cell d layout stale) (class_twice c)
  known_twice Nothing = refl
  known_twice (Number bits below) = refl
  known_twice Null = refl
  known_twice (Address base words) = refl
  known_twice (GlobalAddress g) = refl

  -- a value that was not tied is what it was
  unchanged : (u : ℕ) (known : Known) → group_of ties u ≡ None → is_own u known ≡ true → known_now ties known ≡ known
  unchanged u (Cell c layout stale) none own = let same = test_true c u own in ap (λ d. Cell d layout stale) (ap (class_now ties) same ∙ ap (class_of_place ties.groups.items u) none ∙ sym same)
  unchanged u Nothing none own = refl
  unchanged u (Number bits below) none own = refl
  unchanged u Null none own = refl
  unchanged u (Address base words) none own = refl
  unchanged u (GlobalAddress g) none own = refl

  pub settled_first : (values : List Known) → AreOwn values → AreSettled ties ties.tied.items values values
  settled_first values own = (refl, λ u. elim (are.2 u) [ inl one ↦ inr (one, refl) | inr none ↦ inl (sym (unchanged u (known_at values u) none (own u))) ])

  -- one value more is what it is now
  settled_one : (v : ℕ) (rest : List ℕ) (before after : List Known) → AreSettled ties (v ∷ rest) before after → AreSettled ties rest before (slice_set after v (known_now ties (known_at after v)))
  settled_one v rest before after was = (length-set after v now ∙ was.0, at) where
    now : Known
    now = known_now ties (known_at after v)

    is_now : now ≡ known_now ties (known_at before v)
    is_now = elim (was.1 v) [ inl e ↦ ap (known_now ties) e ∙ known_twice (known_at before v) | inr both ↦ ap (known_now ties) both.1 ]

    here : (v < length after) ⊎ (length after ≤ v) → known_at (slice_set after v now) v ≡ known_now ties (known_at before v)
    here (inl lt) = get_or-set_same after v now Nothing lt ∙ is_now
    here (inr past) = get_or_past (slice_set after v now) v Nothing (rw length-set past) ∙ ap (known_now ties) (sym (get_or_past before v Nothing (rw (← was.0) past)))

    at : (u : ℕ) → (known_at (slice_set after v now) u ≡ known_now ties (known_at before u)) ⊎ (IsIn u rest × (known_at (slice_set after v now) u ≡ known_at before u))
    at u = elim (cases_eq v u) [
      | inl same ↦ inl (subst (λ x. known_at (slice_set after v now) x ≡ known_now ties (known_at before x)) same (here (cases_lt v (length after))))
      | inr ne ↦ other ne (was.1 u)
    ] where
      kept : (v ≡ u → ⊥) → known_at (slice_set after v now) u ≡ known_at after u
      kept ne = get_or-set_other after v u now Nothing (λ e. ne (sym e))

      other : (v ≡ u → ⊥) → (known_at after u ≡ known_now ties (known_at before u)) ⊎ (IsIn u (v ∷ rest) × (known_at after u ≡ known_at before u)) → (known_at (slice_set after v now) u ≡ known_now ties (known_at before u)) ⊎ (IsIn u rest × (known_at (slice_set after v now) u ≡ known_at before u))
      other ne (inl e) = inl (kept ne ∙ e)
      other ne (inr both) = elim both.0 [ inl same ↦ absurd (ne (sym same)) | inr one ↦ inr (one, kept ne ∙ both.1) ]

  settled_rest : (list : List ℕ) (before : List Known) (f : FactSet) → AreSettled ties list before f.values → AreSettled ties [] before (settle_each ties list f).values
  settled_rest [] before f is = is
  settled_rest (v ∷ list) before f is = settled_rest list before (settle_value ties v f) (settled_one v list before f.values is)

  -- all values are what they are now
  pub settled_facts : (f : FactSet) → AreOwn f.values → settle_each ties ties.tied.items f ≡ facts_now ties f
  settled_facts f own = same_rest ties ties.tied.items f ∙ ap (λ (values : List Known). record f { values = values }) (settled_all ties f.values (settle_each ties ties.tied.items f).values (settled_rest ties.tied.items f.values f (settled_first f.values own)))

-- ---- where no value was tied

pub alone_facts : (ties : Ties) → ((c : ℕ) → class_now ties c ≡ c) → (f : FactSet) → facts_now ties f ≡ f
alone_facts ties alone f = ap (λ (values : List Known). record f { values = values }) (all f.values) where
  same : (known : Known) → known_now ties known ≡ known
  same (Cell c layout stale) = ap (λ d. Cell d layout stale) (alone c)
  same Nothing = refl
  same (Number bits below) = refl
  same Null = refl
  same (Address base words) = refl
  same (GlobalAddress g) = refl

  all : (values : List Known) → map (known_now ties) values ≡ values
  all [] = refl
  all (known ∷ values) = ap (λ k. k ∷ map (known_now ties) values) (same known) ∙ ap (λ l. known ∷ l) (all values)

-- ---- one class becomes another

module _ (ties next : Ties) (from to : ℕ) (moves : (c : ℕ) → class_now next c ≡ moved from to (class_now ties c)) where
  moved_known : (known : Known) → known_now next known ≡ move from to (known_now ties known)
  moved_known (Cell c layout stale) = ap (λ d. Cell d layout stale) (moves c)
  moved_known Nothing = refl
  moved_known (Number bits below) = refl
  moved_known Null = refl
  moved_known (Address base words) = refl
  moved_known (GlobalAddress g) = refl

  pub moved_values : (values : List Known) → map (known_now next) values ≡ map (move from to) (map (known_now ties) values)
  moved_values [] = refl
  moved_values (known ∷ values) = ap (λ k. k ∷ map (known_now next) values) (moved_known known) ∙ ap (λ l. move from to (known_now ties known) ∷ l) (moved_values values)

  pub joined_facts : (f last : FactSet) (one other : Class) → one ≡ class_at f.classes from → other ≡ class_at f.classes to → last ≡ set_class to (record { nonnull = one.nonnull || other.nonnull; fresh = one.fresh || other.fresh }) f → facts_now next last ≡ join from to (facts_now ties f)
  joined_facts f last one other a b e = ap (facts_now next) (e ∙ ap (λ (x : Class). set_class to (record { nonnull = x.nonnull || other.nonnull; fresh = x.fresh || other.fresh }) f) a ∙ ap (λ (x : Class). set_class to (record { nonnull = (class_at f.classes from).nonnull || x.nonnull; fresh = (class_at f.classes from).fresh || x.fresh }) f) b)
      ∙ ap (λ (values : List Known). set_class to (record { nonnull = (class_at f.classes from).nonnull || (class_at f.classes to).nonnull; fresh = (class_at f.classes from).fresh || (class_at f.classes to).fresh }) (record f { values = values })) (moved_values f.values)
