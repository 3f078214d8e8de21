-- A row that is defined: no row names its value, and it is new.
use Rattle.std.proofs.Common.{◌≡◌, ◌<◌, ◌⊎◌, ℕ, length, List, [], ◌∷◌, ◌++◌, zero, suc, map, refl, sym, ap, subst, inl, inr, ◌∙◌, true, false, Bool, Option, None, slice_set}
use Rattle.std.proofs.Math.ListN.{get_or-map}
use Rattle.std.proofs.Math.Seq.{map-set_same}
use Rattle.std.proofs.lemmas.Bool.{cases_eq, cases_lt}
use Rattle.std.proofs.lemmas.List.{ext_get_or, get_or_past, get_or-set_same, get_or-set_other, length-set, length-map, map-set, set-set}
use Rattle.std.specs.Prelude.{not, ◌&&◌, ◌||◌, ◌==◌, if◌then◌else◌}
use Rattle.std.specs.List.{list_any}
use Rattle.lemmas.specs.Numbers.{test_no, test_same}
use Rattle.lemmas.specs.Lists.{in_first, IsIn}
use Rattle.fact_tables.specs.declared.owners.Owners.{Owners}
use Rattle.fact_tables.specs.declared.known.Class.{Class}
use Rattle.fact_tables.specs.declared.known.Known.{Known}
use Rattle.fact_tables.specs.declared.known.Known.TheVariants.{Nothing, Number, Cell, Null, Address, GlobalAddress}
use Rattle.fact_tables.specs.declared.known.Test.{Test}
use Rattle.fact_tables.specs.declared.row.Row.{Row}
use Rattle.fact_tables.specs.declared.sweeps.Change.TheVariants.{Off}
use Rattle.fact_tables.specs.declared.uses.Use.{Use}
use Rattle.fact_tables.specs.Rows.{is_of, off_base, off_test, values_without}
use Rattle.fact_tables.specs.Owners.{ListsNonOwners, owns_class}
use Rattle.fact_tables.specs.Sheets.{blank, row_at, known_of, class_of, test_of, names, EachRow, OnlyMarked, OnlyCurrent, with_mark, with_current, is_settled, off_row, changed, row_is_of, other_is_of}
use Rattle.fact_tables.specs.Uses.{chain, IsUser, OnlyUsers}
use Rattle.fact_tables.specs.Values.{facts_of_rows, defined, defined_row}
use Rattle.fact_tables.proofs.Changes.{off_less}
use Rattle.fact_tables.proofs.Current.{marked_after, off_settled}
use Rattle.fact_tables.proofs.OwnersOf.{OnlyMembers, as_many, off_owns, put_non_owners}
use Rattle.fact_tables.proofs.Listed.{Unless, with_row, unless_after, set_unless}
use Rattle.fact_tables.proofs.Marked.{any_listed}
use Rattle.fact_tables.proofs.Says.{same_facts, each_same, each_mapped}
use Rattle.fact_tables.proofs.Sets.{set_empty}
use Rattle.fact_tables.proofs.Sheets.{set_marked}
use Rattle.fact_tables.proofs.Users.{users_set}

-- ---- the rows that name a value end to name it

module _ (v : ℕ) (rows : List Row) where
  abbrev offs : List Row
  offs = map (off_row v) rows

  at_off : (u : ℕ) → row_at offs u ≡ off_row v (row_at rows u)
  at_off u = get_or-map (off_row v) rows u blank

  off_each : EachRow (changed (Off v)) rows offs
  off_each = (length-map rows (off_row v), λ u lt. at_off u)

  pub off_all : (between : List Row) → EachRow (changed (Off v)) rows between → between ≡ offs
  off_all between each = ext_get_or blank between offs (each.0 ∙ sym (length-map rows (off_row v))) (λ u lt. each.1 u (rw (← each.0) lt) ∙ sym (at_off u))

  off_users : (uses : List Use) → OnlyUsers uses rows → OnlyUsers uses offs
  off_users uses only u w e lt =
      let named = off_less v w (row_at rows u) (ap (names w) (sym (at_off u)) ∙ e) in
      let long : w < length rows = rw (← length-map rows (off_row v)) lt in
      subst (λ (used : Option ℕ). IsIn u (chain (length uses) uses used)) (sym (ap (λ (row : Row). row.used) (at_off w))) (only u w named.0 long)

  module _ (row : Row) where
    abbrev after : List Row
    after = slice_set offs v row

    row_there : row_at after v ≡ row_at (slice_set rows v row) v
    row_there = elim (cases_lt v (length rows)) [
      | inl lt ↦ get_or-set_same offs v row blank (rw length-map lt) ∙ sym (get_or-set_same rows v row blank lt)
      | inr past ↦ get_or_past after v blank (rw (length-set, length-map) past) ∙ sym (get_or_past (slice_set rows v row) v blank (rw length-set past))
    ]

    other_row : (u : ℕ) → (v ≡ u → ⊥) → row_at after u ≡ row_at offs u
    other_row u ne = get_or-set_other offs v u row blank (λ x. ne (sym x))

    pub defined_marked : (marked : List ℕ) → OnlyMarked marked rows → OnlyMarked (with_mark v (row_at rows v) marked) after
    defined_marked marked only u = pick (cases_eq v u) where
      more : (b : Bool) → IsIn u marked → IsIn u (if b then marked ++ v ∷ [] else marked)
      more true one = in_first u marked (v ∷ []) one
      more false one = one

      pick : (v ≡ u) ⊎ (v ≡ u → ⊥) → IsIn u (with_mark v (row_at rows v) marked) ⊎ (row_at after u ≡ blank)
      pick (inl same) = subst (λ x. IsIn x (with_mark v (row_at rows v) marked) ⊎ (row_at after x ≡ blank)) same (elim (set_marked v row marked rows only v) [ inl one ↦ inl one | inr e ↦ inr (row_there ∙ e) ])
      pick (inr ne) = elim (marked_after (changed (Off v)) (λ w. refl) rows offs off_each marked only u) [ inl one ↦ inl (more _ one) | inr e ↦ inr (other_row u ne ∙ e) ]

    pub defined_unless : (p : ℕ → Row → Bool) → ((u : ℕ) → p u blank ≡ true) → ((u : ℕ) (r : Row) → p u r ≡ true → p u (off_row v r) ≡ true) → (listed : List ℕ) → Unless p listed rows → Unless p (with_row p v (row_at rows v) row listed) after
    defined_unless p of_blank keeps listed only u = pick (cases_eq v u) where
      more : (b : Bool) → IsIn u listed → IsIn u (if b then listed ++ v ∷ [] else listed)
      more true one = in_first u listed (v ∷ []) one
      more false one = one

      pick : (v ≡ u) ⊎ (v ≡ u → ⊥) → IsIn u (with_row p v (row_at rows v) row listed) ⊎ (p u (row_at after u) ≡ true)
      pick (inl same) = subst (λ x. IsIn x (with_row p v (row_at rows v) row listed) ⊎ (p x (row_at after x) ≡ true)) same
          (elim (set_unless p of_blank v row listed rows only v) [ inl one ↦ inl one | inr e ↦ inr (ap (p v) row_there ∙ e) ])
      pick (inr ne) = elim (unless_after (changed (Off v)) (λ w. refl) rows offs off_each p listed keeps only u) [ inl one ↦ inl (more _ one) | inr e ↦ inr (ap (p u) (other_row u ne) ∙ e) ]

    pub defined_current : (current : List ℕ) → OnlyCurrent current rows → OnlyCurrent (with_current v (row_at rows v) row current) after
    defined_current current only = defined_unless is_settled (λ u. refl) (off_settled v) current only

    pub defined_non_owners : (class_owners : List Owners) (non_owners : List ℕ) → ListsNonOwners non_owners class_owners rows → IsIn v non_owners ⊎ (owns_class (length rows) class_owners v row ≡ true) → ListsNonOwners non_owners class_owners after
    defined_non_owners class_owners non_owners only recorded = put_non_owners v row offs class_owners non_owners
        (as_many class_owners non_owners rows offs off_each.0 (unless_after (changed (Off v)) (λ w. refl) rows offs off_each (owns_class (length rows) class_owners) non_owners (off_owns (length rows) class_owners v) only))
        (subst (λ n. IsIn v non_owners ⊎ (owns_class n class_owners v row ≡ true)) (sym off_each.0) recorded)

    pub defined_users : (uses : List Use) → OnlyUsers uses rows → row.used ≡ (row_at rows v).used → ((w : ℕ) → names w row ≡ true → w < length rows → IsUser uses rows v w) → OnlyUsers uses after
    defined_users uses only same says = users_set uses offs v row (off_users uses only) (same ∙ sym (ap (λ (r : Row). r.used) (at_off v)))
        (λ w e lt. subst (λ (used : Option ℕ). IsIn v (chain (length uses) uses used)) (sym (ap (λ (r : Row). r.used) (at_off w))) (says w e (rw (← length-map rows (off_row v)) lt)))

  pub defined_facts : (known : Known) (test : Option Test) (added : List Class) → facts_of_rows (slice_set offs v (defined_row known test (row_at rows v))) added ≡ defined v known test (facts_of_rows rows added)
  defined_facts known test added = same_facts _ _ _ _ _ _
      (map-set known_of offs v row ∙ ap (λ (l : List Known). slice_set l v known) (each_mapped known_of (changed (Off v)) rows offs off_each (off_base v) (λ u r. refl)) ∙ sym (set-set (map (off_base v) (map known_of rows)) v Nothing known))
      (ap (λ (l : List Class). l ++ added) (map-set_same class_of offs v row blank (sym (ap class_of (at_off v))) ∙ each_same class_of (changed (Off v)) rows offs off_each (λ u r. refl)))
      (map-set test_of offs v row ∙ ap (λ (l : List (Option Test)). slice_set l v test) (each_mapped test_of (changed (Off v)) rows offs off_each (off_test v) (λ u r. refl)) ∙ sym (set-set (map (off_test v) (map test_of rows)) v None test))
    where
      row : Row
      row = defined_row known test (row_at rows v)

-- ---- whether another value is of a class

any_same : (p q : ℕ → Bool) → ((u : ℕ) → p u ≡ q u) → (us : List ℕ) → list_any p us ≡ list_any q us
any_same p q same [] = refl
any_same p q same (u ∷ us) = ap (λ b. b || list_any p us) (same u) ∙ ap (λ b. q u || b) (any_same p q same us)

module _ (v c : ℕ) (rows : List Row) where
  abbrev without : List Row
  without = slice_set rows v blank

  other_is : (u : ℕ) → other_is_of v c rows u ≡ row_is_of c without u
  other_is u = pick (cases_eq v u) where
    pick : (v ≡ u) ⊎ (v ≡ u → ⊥) → other_is_of v c rows u ≡ row_is_of c without u
    pick (inl same) = subst (λ x. other_is_of v c rows x ≡ row_is_of c without x) same (ap (λ b. not b && row_is_of c rows v) (test_same v) ∙ sym (ap (λ (row : Row). is_of c row.known) (set_empty rows v blank)))
    pick (inr ne) = ap (λ b. not b && row_is_of c rows u) (test_no u v (λ e. ne (sym e))) ∙ sym (ap (λ (row : Row). is_of c row.known) (get_or-set_other rows v u blank blank (λ e. ne (sym e))))

  pub other_listed : (listed : List ℕ) → OnlyMembers c listed rows → list_any (other_is_of v c rows) listed ≡ list_any (is_of c) (slice_set (map known_of rows) v Nothing)
  other_listed listed only = any_same (other_is_of v c rows) (row_is_of c without) other_is listed
      ∙ any_listed c listed without (λ u. members u (cases_eq v u)) ∙ ap (list_any (is_of c)) (map-set known_of rows v blank)
    where
      members : (u : ℕ) → (v ≡ u) ⊎ (v ≡ u → ⊥) → IsIn u listed ⊎ (is_of c (row_at without u).known ≡ false)
      members u (inl same) = inr (subst (λ x. is_of c (row_at without x).known ≡ false) same (ap (λ (row : Row). is_of c row.known) (set_empty rows v blank)))
      members u (inr ne) = elim (only u) [ inl one ↦ inl one | inr e ↦ inr (ap (λ (row : Row). is_of c row.known) (get_or-set_other rows v u blank blank (λ x. ne (sym x))) ∙ e) ]

off_of : (v c : ℕ) (known : Known) → is_of c (off_base v known) ≡ is_of c known
off_of v c (Address base words) = pick (base == v) where
  pick : (b : Bool) → is_of c (if b then Nothing else Address base words) ≡ false
  pick true = refl
  pick false = refl
off_of v c (Cell d layout stale) = refl
off_of v c Nothing = refl
off_of v c (Number bits below) = refl
off_of v c Null = refl
off_of v c (GlobalAddress g) = refl

any_off : (v c : ℕ) (values : List Known) → list_any (is_of c) (map (off_base v) values) ≡ list_any (is_of c) values
any_off v c [] = refl
any_off v c (known ∷ values) = ap (λ b. b || list_any (is_of c) (map (off_base v) values)) (off_of v c known) ∙ ap (λ b. is_of c known || b) (any_off v c values)

any_off_but : (v c : ℕ) (values : List Known) (i : ℕ) → list_any (is_of c) (slice_set (map (off_base v) values) i Nothing) ≡ list_any (is_of c) (slice_set values i Nothing)
any_off_but v c [] i = refl
any_off_but v c (known ∷ values) zero = any_off v c values
any_off_but v c (known ∷ values) (suc i) = ap (λ b. b || list_any (is_of c) (slice_set (map (off_base v) values) i Nothing)) (off_of v c known) ∙ ap (λ b. is_of c known || b) (any_off_but v c values i)

-- an address is of no class
pub any_without : (v c : ℕ) (values : List Known) → list_any (is_of c) (slice_set values v Nothing) ≡ list_any (is_of c) (values_without v values)
any_without v c values = sym (any_off_but v c values v)
