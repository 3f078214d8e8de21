-- Following names back along bitcasts: more turns than there are names show nothing new.
use Rattle.std.proofs.Common.{◌≡◌, ◌<◌, ◌≤◌, ℕ, zero, suc, ◌+◌, ◌-◌, Bool, true, false, List, [], ◌∷◌, length, slice_index_or, slice_set, ◌≢◌, refl, ap, sym, ◌∙◌, subst, arith, rules, inl, inr, ◌⊎◌, zero-add}
use Rattle.std.proofs.lemmas.Option.{unwrap_or-slice_get}
use Rattle.std.specs.List.{list_any}
use Rattle.std.specs.Prelude.{◌||◌, map, Option, Some, None, is_some, slice_get, unwrap_or}
use Rattle.std.proofs.lemmas.List.{get_or-set_same, get_or-set_other, length-set}
use Rattle.std.proofs.lemmas.Bool.{cases_eq, cases_lt}
use Rattle.lemmas.specs.Bools.{yes_or_no, or_neither}
use Rattle.shadow_stack.specs.declared.draft.Origin.{Origin}
use Rattle.shadow_stack.specs.declared.draft.Origin.TheVariants.{Nowhere, Slot, Address, Same}
use Rattle.shadow_stack.specs.Hops.{hops_nowhere, hops_slot, hops_address}
use Rattle.shadow_stack.specs.Slots.{origin_at, IsBack, AreBack, NamesSlot, Given, Renamed, hop, hops, is_same, slot_at, is_address_at, names_of, addresses_of, NamesAreExact}

-- some turns, and then more
hops_add : (origins : List Origin) (m n : ℕ) (o : Origin) → hops origins (m + n) o ≡ hops origins n (hops origins m o)
hops_add origins zero n o = ap (λ k. hops origins k o) (zero-add n)
hops_add origins (suc m) n o =
    let e : suc m + n ≡ suc (m + n) = omega arith in
    ap (λ k. hops origins k o) e ∙ hops_add origins m n (hop origins o)

-- an element of a mapped list
at_map : {B : Type 0} (f : Origin → B) (xs : List Origin) (v : ℕ) → slice_index_or (map f xs) v (f Nowhere) ≡ f (origin_at xs v)
at_map f [] v = refl
at_map f (x ∷ xs) zero = refl
at_map f (x ∷ xs) (suc v) = at_map f xs v

-- two rows of which tests say the same, place by place
rows_alike : {B : Type 0} (f g : Origin → B) (xs ys : List Origin) → length xs ≡ length ys → ((v : ℕ) → f (origin_at xs v) ≡ g (origin_at ys v)) → map f xs ≡ map g ys
rows_alike f g [] [] many same = refl
rows_alike f g [] (y ∷ ys) many same = absurd (omega (arith, many))
rows_alike f g (x ∷ xs) [] many same = absurd (omega (arith, many))
rows_alike f g (x ∷ xs) (y ∷ ys) many same =
    ap (λ z. z ∷ map f xs) (same zero) ∙ ap (λ l. g y ∷ l) (rows_alike f g xs ys (omega (arith, many)) (λ v. same (suc v)))

-- before the first turn each origin is as it was
pub none_back : (origins : List Origin) → AreBack origins 0 origins
none_back origins = record { as_many = refl; back = λ v. (0, (omega arith, refl)) }

-- some turns back from what is some turns back
further : (origins : List Origin) (k m : ℕ) (origin o end : Origin) → o ≡ hops origins k origin → end ≡ hops origins m o → end ≡ hops origins (k + m) origin
further origins k m origin o end before after = after ∙ ap (hops origins m) before ∙ sym (hops_add origins k m origin)

-- a hop in a row that is n turns back goes on by more than n turns
hop_back : (origins row : List Origin) (n : ℕ) → ((v : ℕ) → IsBack origins n (origin_at origins v) (origin_at row v))
    → (origin o : Origin) → IsBack origins n origin o → IsBack origins (n + suc n) origin (hop row o)
hop_back origins row n back origin Nowhere b = (b.0 + suc n, (omega (arith, b.1.0), further origins b.0 (suc n) origin Nowhere Nowhere b.1.1 (sym (hops_nowhere origins (suc n)))))
hop_back origins row n back origin (Slot s) b = (b.0 + suc n, (omega (arith, b.1.0), further origins b.0 (suc n) origin (Slot s) (Slot s) b.1.1 (sym (hops_slot origins (suc n) s))))
hop_back origins row n back origin Address b = (b.0 + suc n, (omega (arith, b.1.0), further origins b.0 (suc n) origin Address Address b.1.1 (sym (hops_address origins (suc n)))))
hop_back origins row n back origin (Same w) b =
    let there : IsBack origins n (origin_at origins w) (origin_at row w) = back w in
    (b.0 + suc there.0, (omega (arith, b.1.0, there.1.0), further origins b.0 (suc there.0) origin (Same w) (origin_at row w) b.1.1 there.1.1))

-- a row n turns back, whose names before a place were hopped once more
pub record AreHopped (origins : List Origin) (n place : ℕ) (row : List Origin) : Type 0 where
  pub as_many : length row ≡ length origins
  pub back : (v : ℕ) → IsBack origins n (origin_at origins v) (origin_at row v)
  pub more : (v : ℕ) → v < place → IsBack origins (n + suc n) (origin_at origins v) (origin_at row v)

-- no name was hopped
pub none_hopped : (origins row : List Origin) (n : ℕ) → AreBack origins n row → AreHopped origins n 0 row
none_hopped origins row n h = record { as_many = h.as_many; back = h.back; more = λ v below. absurd (omega (arith, below)) }

-- one name more was hopped
pub one_hopped : (origins row next : List Origin) (n place : ℕ) → place < length row → next ≡ slice_set row place (hop row (origin_at row place))
    → AreHopped origins n place row → AreHopped origins n (place + 1) next
one_hopped origins row next n place within is_next h =
    let end : Origin = hop row (origin_at row place) in
    let here : IsBack origins (n + suc n) (origin_at origins place) end = hop_back origins row n h.back (origin_at origins place) (origin_at row place) (h.back place) in
    let at : origin_at next place ≡ end = ap (λ r. origin_at r place) is_next ∙ get_or-set_same row place end Nowhere within in
    let other : (v : ℕ) → v ≢ place → origin_at next v ≡ origin_at row v = λ v not. ap (λ r. origin_at r v) is_next ∙ get_or-set_other row place v end Nowhere not in
    record {
      as_many = ap length is_next ∙ length-set row place end ∙ h.as_many;
      back = λ v. elim (cases_eq v place) [
        | inl same ↦ subst (λ w. IsBack origins n (origin_at origins w) (origin_at next w)) (sym same) (here.0, (omega (arith, here.1.0), at ∙ here.1.1))
        | inr not ↦ subst (IsBack origins n (origin_at origins v)) (sym (other v not)) (h.back v)
      ];
      more = λ v below. elim (cases_eq v place) [
        | inl same ↦ subst (λ w. IsBack origins (n + suc n) (origin_at origins w) (origin_at next w)) (sym same) (here.0, (here.1.0, at ∙ here.1.1))
        | inr not ↦ subst (IsBack origins (n + suc n) (origin_at origins v)) (sym (other v not)) (h.more v (omega (arith, below, not)))
      ];
    }

past_end : (row : List Origin) (v : ℕ) → length row ≤ v → origin_at row v ≡ Nowhere
past_end [] v h = refl
past_end (o ∷ row) zero h = absurd (omega (arith, h))
past_end (o ∷ row) (suc v) h = past_end row v (omega (arith, h))

-- each name was hopped
pub all_hopped : (origins row : List Origin) (n : ℕ) → AreHopped origins n (length row) row → AreBack origins (n + suc n) row
all_hopped origins row n h = record {
  as_many = h.as_many;
  back = λ v. elim (cases_lt v (length row)) [
    | inl within ↦ h.more v within
    | inr past ↦
        let first : origin_at origins v ≡ Nowhere = past_end origins v (omega (arith, past, h.as_many)) in
        (n + suc n, (omega arith, past_end row v past ∙ sym (ap (hops origins (n + suc n)) first ∙ hops_nowhere origins (n + suc n))))
  ];
}

-- what an origin is, by a number: 0 is an address, and the others are slots
abbrev end_at : Origin → Option ℕ
end_at Nowhere = None
end_at (Slot slot) = Some (suc slot)
end_at Address = Some 0
end_at (Same value) = None

-- the slot of such a number
abbrev slot_in : Option ℕ → Option ℕ
slot_in None = None
slot_in (Some zero) = None
slot_in (Some (suc slot)) = Some slot

-- whether such a number is an address
abbrev is_address_in : Option ℕ → Bool
is_address_in None = false
is_address_in (Some zero) = true
is_address_in (Some (suc slot)) = false

slot_by_end : (o : Origin) → slot_at o ≡ slot_in (end_at o)
slot_by_end Nowhere = refl
slot_by_end (Slot slot) = refl
slot_by_end Address = refl
slot_by_end (Same value) = refl

address_by_end : (o : Origin) → is_address_at o ≡ is_address_in (end_at o)
address_by_end Nowhere = refl
address_by_end (Slot slot) = refl
address_by_end Address = refl
address_by_end (Same value) = refl

-- whether a slot or an address shows after k turns
abbrev done : List Origin → ℕ → Origin → Bool
done origins k o = is_some (end_at (hops origins k o))

no_true : false ≡ true → ⊥
no_true e = search (rules, e)

is_some_value : (w : Option ℕ) → is_some w ≡ true → (s : ℕ) × (w ≡ Some s)
is_some_value None e = absurd (no_true e)
is_some_value (Some s) e = (s, refl)

some_same : (t s : ℕ) → Some t ≡ Some s → t ≡ s
some_same t s e = ap (λ w. unwrap_or w t) e

-- what shows once stays
end_kept : (origins : List Origin) (i : ℕ) (o : Origin) (s : ℕ) → end_at o ≡ Some s → end_at (hops origins i o) ≡ Some s
end_kept origins i Nowhere s e = absurd (no_true (ap is_some e))
end_kept origins i (Slot t) s e = ap end_at (hops_slot origins i t) ∙ e
end_kept origins i Address s e = ap end_at (hops_address origins i) ∙ e
end_kept origins i (Same v) s e = absurd (no_true (ap is_some e))

shown_kept : (origins : List Origin) (k i : ℕ) (o : Origin) (s : ℕ) → end_at (hops origins k o) ≡ Some s → end_at (hops origins (k + i) o) ≡ Some s
shown_kept origins k i o s e = ap end_at (hops_add origins k i o) ∙ end_kept origins i (hops origins k o) s e

done_kept : (origins : List Origin) (k i : ℕ) (o : Origin) → done origins k o ≡ true → done origins (k + i) o ≡ true
done_kept origins k i o e =
    let found : (s : ℕ) × (end_at (hops origins k o) ≡ Some s) = is_some_value (end_at (hops origins k o)) e in
    ap is_some (shown_kept origins k i o found.0 found.1)

-- how many origins pass a test
abbrev one_if : Bool → ℕ
one_if true = 1
one_if false = 0

abbrev count : (Origin → Bool) → List Origin → ℕ
count f [] = 0
count f (x ∷ xs) = one_if (f x) + count f xs

one_if_bound : (b : Bool) → one_if b ≤ 1
one_if_bound true = omega arith
one_if_bound false = omega arith

one_if_le : (b c : Bool) → (b ≡ true → c ≡ true) → one_if b ≤ one_if c
one_if_le true c imp = let e : c ≡ true = imp refl in rw e (omega arith)
one_if_le false c imp = omega arith

count_bound : (f : Origin → Bool) (xs : List Origin) → count f xs ≤ length xs
count_bound f [] = omega arith
count_bound f (x ∷ xs) = omega (arith, count_bound f xs, one_if_bound (f x))

count_le : (f g : Origin → Bool) (xs : List Origin) → ((o : Origin) → f o ≡ true → g o ≡ true) → count f xs ≤ count g xs
count_le f g [] imp = omega arith
count_le f g (x ∷ xs) imp = omega (arith, count_le f g xs imp, one_if_le (f x) (g x) (imp x))

same_at : (f g : Origin → Bool) (x : Origin) (xs : List Origin) → (g x ≡ true → f x ≡ true)
    → ((v : ℕ) → g (origin_at xs v) ≡ true → f (origin_at xs v) ≡ true)
    → (v : ℕ) → g (origin_at (x ∷ xs) v) ≡ true → f (origin_at (x ∷ xs) v) ≡ true
same_at f g x xs first rest zero = first
same_at f g x xs first rest (suc v) = rest v

more_at : (b c : Bool) (m n : ℕ) → m ≤ n → b ≡ false → c ≡ true → one_if b + m < one_if c + n
more_at b c m n h b_is c_is = rw (b_is, c_is) (omega (arith, h))

-- a test that passes wherever another does passes there alone, or more often
same_or_more : (f g : Origin → Bool) (xs : List Origin) → ((o : Origin) → f o ≡ true → g o ≡ true) → (g Nowhere ≡ true → f Nowhere ≡ true)
    → ((v : ℕ) → g (origin_at xs v) ≡ true → f (origin_at xs v) ≡ true) ⊎ (count f xs < count g xs)
same_or_more f g [] imp nowhere = inl (λ v e. nowhere e)
same_or_more f g (x ∷ xs) imp nowhere =
    elim (same_or_more f g xs imp nowhere) [
      | inl same ↦ elim (yes_or_no (f x)) [
        | inl passes ↦ inl (same_at f g x xs (λ _. passes) same)
        | inr fails ↦ elim (yes_or_no (g x)) [
          | inl more ↦ inr (more_at (f x) (g x) (count f xs) (count g xs) (count_le f g xs imp) fails more)
          | inr neither ↦ inl (same_at f g x xs (λ e. absurd (no_true (sym neither ∙ e))) same)
        ]
      ]
      | inr more ↦ inr (omega (arith, more, one_if_le (f x) (g x) (imp x)))
    ]

-- a turn after which no more names show their slot than before it
abbrev Stable : List Origin → ℕ → Type 0
Stable origins j = (v : ℕ) → done origins (suc j) (origin_at origins v) ≡ true → done origins j (origin_at origins v) ≡ true

done_next : (origins : List Origin) (k : ℕ) (o : Origin) → done origins k o ≡ true → done origins (suc k) o ≡ true
done_next origins k o e = let at : k + 1 ≡ suc k = omega arith in subst (λ n. done origins n o ≡ true) at (done_kept origins k 1 o e)

nowhere_done : (origins : List Origin) (k : ℕ) (P : Type 0) → done origins k Nowhere ≡ true → P
nowhere_done origins k P e = absurd (no_true (sym (ap (λ o. is_some (end_at o)) (hops_nowhere origins k)) ∙ e))

progress : (origins : List Origin) (k : ℕ) → ((j : ℕ) × ((j < k) × Stable origins j)) ⊎ (k ≤ count (done origins k) origins)
progress origins zero = inr (omega arith)
progress origins (suc k) =
    elim (progress origins k) [
      | inl early ↦ inl (early.0, (omega (arith, early.1.0), early.1.1))
      | inr many ↦ elim (same_or_more (done origins k) (done origins (suc k)) origins (done_next origins k) (nowhere_done origins (suc k) (done origins k Nowhere ≡ true))) [
        | inl stable ↦ inl (k, (omega arith, stable))
        | inr more ↦ inr (omega (arith, more, many))
      ]
    ]

-- after such a turn nothing new shows
stays : (origins : List Origin) (j : ℕ) → Stable origins j → (i v : ℕ) (o : Origin) → origin_at origins v ≡ o → done origins (i + j) o ≡ true → done origins j o ≡ true
stays origins j stable zero v o is e = subst (λ n. done origins n o ≡ true) (zero-add j) e
stays origins j stable (suc i) v Nowhere is e = nowhere_done origins (suc i + j) (done origins j Nowhere ≡ true) e
stays origins j stable (suc i) v (Slot s) is e = ap (λ o. is_some (end_at o)) (hops_slot origins j s)
stays origins j stable (suc i) v Address is e = ap (λ o. is_some (end_at o)) (hops_address origins j)
stays origins j stable (suc i) v (Same w) is e =
    let at : suc i + j ≡ suc (i + j) = omega arith in
    let before : done origins j (origin_at origins w) ≡ true = stays origins j stable i w (origin_at origins w) refl (subst (λ n. done origins n (Same w) ≡ true) at e) in
    subst (λ o. done origins j o ≡ true) is (stable v (subst (λ o. done origins (suc j) o ≡ true) (sym is) before))

-- what shows at all shows after as many turns as there are names
shows_early : (origins : List Origin) (n v : ℕ) → length origins ≤ n → done origins n (origin_at origins v) ≡ true → done origins (length origins) (origin_at origins v) ≡ true
shows_early origins n v h e =
    elim (progress origins (suc (length origins))) [
      | inl early ↦
          let j : ℕ = early.0 in
          let below : j < suc (length origins) = early.1.0 in
          let back : n - j + j ≡ n = omega arith in
          let first : done origins j (origin_at origins v) ≡ true = stays origins j early.1.1 (n - j) v (origin_at origins v) refl (subst (λ k. done origins k (origin_at origins v) ≡ true) (sym back) e) in
          let on : j + (length origins - j) ≡ length origins = omega arith in
          subst (λ k. done origins k (origin_at origins v) ≡ true) on (done_kept origins j (length origins - j) (origin_at origins v) first)
      | inr many ↦ absurd (omega (arith, many, count_bound (done origins (suc (length origins))) origins))
    ]

none_or_same : (a b : Option ℕ) → ((s : ℕ) → a ≡ Some s → b ≡ Some s) → (is_some b ≡ true → is_some a ≡ true) → b ≡ a
none_or_same (Some s) b kept early = kept s refl
none_or_same None None kept early = refl
none_or_same None (Some s) kept early = absurd (no_true (early refl))

settled : (origins : List Origin) (n v : ℕ) → length origins ≤ n → end_at (hops origins n (origin_at origins v)) ≡ end_at (hops origins (length origins) (origin_at origins v))
settled origins n v h =
    let o : Origin = origin_at origins v in
    let on : length origins + (n - length origins) ≡ n = omega arith in
    none_or_same (end_at (hops origins (length origins) o)) (end_at (hops origins n o))
    (λ s e. subst (λ k. end_at (hops origins k o) ≡ Some s) on (shown_kept origins (length origins) (n - length origins) o s e))
    (shows_early origins n v h)

slot_settled : (origins : List Origin) (n v : ℕ) → length origins ≤ n → slot_at (hops origins n (origin_at origins v)) ≡ slot_at (hops origins (length origins) (origin_at origins v))
slot_settled origins n v h =
    slot_by_end (hops origins n (origin_at origins v)) ∙ ap slot_in (settled origins n v h) ∙ sym (slot_by_end (hops origins (length origins) (origin_at origins v)))

address_settled : (origins : List Origin) (n v : ℕ) → length origins ≤ n → is_address_at (hops origins n (origin_at origins v)) ≡ is_address_at (hops origins (length origins) (origin_at origins v))
address_settled origins n v h =
    address_by_end (hops origins n (origin_at origins v)) ∙ ap is_address_in (settled origins n v h) ∙ sym (address_by_end (hops origins (length origins) (origin_at origins v)))

-- what is no bitcast stays, however many turns there are
ended : (origins : List Origin) (k : ℕ) (o : Origin) → is_same o ≡ false → hops origins k o ≡ o
ended origins k Nowhere e = hops_nowhere origins k
ended origins k (Slot slot) e = hops_slot origins k slot
ended origins k Address e = hops_address origins k
ended origins k (Same value) e = absurd (no_true (sym e))

-- no origin of a row is a bitcast, nor what is past its end
none_same : (row : List Origin) (v : ℕ) → list_any is_same row ≡ false → is_same (origin_at row v) ≡ false
none_same [] v e = refl
none_same (o ∷ row) zero e = (or_neither (is_same o) (list_any is_same row) e).0
none_same (o ∷ row) (suc v) e = none_same row v (or_neither (is_same o) (list_any is_same row) e).1

-- after this number of turns no name is a bitcast, or there were as many turns as there are names
abbrev pub IsSettled : (origins row : List Origin) → (n : ℕ) → Type 0
IsSettled origins row n = (length origins ≤ n) ⊎ (list_any is_same row ≡ false)

-- a row after which no turn is made is settled
pub settled_at : (origins row shown : List Origin) → shown ≡ row → (reach : ℕ) → 0 < reach → AreBack origins (reach - 1) row → (length shown < reach) ⊎ (list_any is_same shown ≡ false) → IsSettled origins row (reach - 1)
settled_at origins row shown is reach positive back (inl h) = inl (omega (arith, back.as_many, ap length is, h))
settled_at origins row shown is reach positive back (inr h) = inr (sym (ap (list_any is_same) is) ∙ h)

-- what is no bitcast after some turns is the same after more
rest : (origins : List Origin) (k m : ℕ) (origin end : Origin) → k ≤ m → end ≡ hops origins k origin → is_same end ≡ false → end ≡ hops origins m origin
rest origins k m origin end h is ends =
    let on : k + (m - k) ≡ m = omega (arith, h) in
    sym (ended origins (m - k) end ends) ∙ ap (hops origins (m - k)) is ∙ sym (hops_add origins k (m - k) origin) ∙ ap (λ j. hops origins j origin) on

-- a row that is settled shows what as many turns as there are names show
at_settled : {B : Type 0} (f : Origin → B) (origins row : List Origin) (n : ℕ)
    → ((k v : ℕ) → length origins ≤ k → f (hops origins k (origin_at origins v)) ≡ f (hops origins (length origins) (origin_at origins v)))
    → IsSettled origins row n → AreBack origins n row → map f row ≡ map (λ o. f (hops origins (length origins) o)) origins
at_settled f origins row n late (inl h) back = rows_alike f (λ o. f (hops origins (length origins) o)) row origins back.as_many (λ v.
    let b : IsBack origins n (origin_at origins v) (origin_at row v) = back.back v in
    ap f b.1.1 ∙ late b.0 v (omega (arith, h, b.1.0)))
at_settled f origins row n late (inr none) back = rows_alike f (λ o. f (hops origins (length origins) o)) row origins back.as_many (λ v.
    let b : IsBack origins n (origin_at origins v) (origin_at row v) = back.back v in
    elim (cases_lt b.0 (length origins)) [
      | inl less ↦ ap f (rest origins b.0 (length origins) (origin_at origins v) (origin_at row v) (omega (arith, less)) b.1.1 (none_same row v none))
      | inr more ↦ ap f b.1.1 ∙ late b.0 v more
    ])

-- the names as the row shows them
pub names_at_row : (origins row : List Origin) (n : ℕ) → IsSettled origins row n → AreBack origins n row → map slot_at row ≡ names_of origins
names_at_row origins row n h back = at_settled slot_at origins row n (slot_settled origins) h back

-- and whether each is an address
pub addresses_at_row : (origins row : List Origin) (n : ℕ) → IsSettled origins row n → AreBack origins n row → map is_address_at row ≡ addresses_of origins
addresses_at_row origins row n h back = at_settled is_address_at origins row n (address_settled origins) h back

sound : (origins : List Origin) (k : ℕ) (o : Origin) (s : ℕ) → slot_at (hops origins k o) ≡ Some s → NamesSlot origins o s
sound origins zero Nowhere s e = absurd (no_true (ap is_some e))
sound origins zero (Slot t) s e = subst (λ u. NamesSlot origins (Slot t) u) (some_same t s e) (Given t)
sound origins zero Address s e = absurd (no_true (ap is_some e))
sound origins zero (Same v) s e = absurd (no_true (ap is_some e))
sound origins (suc k) Nowhere s e = absurd (no_true (sym (ap (λ o. is_some (slot_at o)) (hops_nowhere origins k)) ∙ ap is_some e))
sound origins (suc k) (Slot t) s e = subst (λ u. NamesSlot origins (Slot t) u) (some_same t s (sym (ap slot_at (hops_slot origins k t)) ∙ e)) (Given t)
sound origins (suc k) Address s e = absurd (no_true (sym (ap (λ o. is_some (slot_at o)) (hops_address origins k)) ∙ ap is_some e))
sound origins (suc k) (Same v) s e = Renamed v s (sound origins k (origin_at origins v) s e)

complete : (origins : List Origin) (o : Origin) (s : ℕ) → NamesSlot origins o s → (k : ℕ) × (slot_at (hops origins k o) ≡ Some s)
complete origins o s (Given t) = (zero, refl)
complete origins o s (Renamed v t before) = let found : (k : ℕ) × (slot_at (hops origins k (origin_at origins v)) ≡ Some t) = complete origins (origin_at origins v) t before in (suc found.0, found.1)

name_at : (origins : List Origin) (v : ℕ) → unwrap_or (slice_get (names_of origins) v) None ≡ slot_at (hops origins (length origins) (origin_at origins v))
name_at origins v =
    let f : Origin → Option ℕ = λ o. slot_at (hops origins (length origins) o) in
    let none : None ≡ f Nowhere = sym (ap slot_at (hops_nowhere origins (length origins))) in
    unwrap_or-slice_get (names_of origins) v None ∙ ap (λ d. slice_index_or (map f origins) v d) none ∙ at_map f origins v

-- a slot that shows once stays
slot_kept : (origins : List Origin) (i : ℕ) (o : Origin) (s : ℕ) → slot_at o ≡ Some s → slot_at (hops origins i o) ≡ Some s
slot_kept origins i Nowhere s e = absurd (no_true (ap is_some e))
slot_kept origins i (Slot t) s e = ap slot_at (hops_slot origins i t) ∙ e
slot_kept origins i Address s e = absurd (no_true (ap is_some e))
slot_kept origins i (Same v) s e = absurd (no_true (ap is_some e))

-- exactly the names that name a slot have one
pub names_are_exact : (origins : List Origin) → NamesAreExact origins (names_of origins)
names_are_exact origins v s = (
  (λ e. sound origins (length origins) (origin_at origins v) s (sym (name_at origins v) ∙ e)),
  (λ named.
      let found : (k : ℕ) × (slot_at (hops origins k (origin_at origins v)) ≡ Some s) = complete origins (origin_at origins v) s named in
      let later : slot_at (hops origins (found.0 + length origins) (origin_at origins v)) ≡ Some s =
      ap slot_at (hops_add origins found.0 (length origins) (origin_at origins v)) ∙ slot_kept origins (length origins) (hops origins found.0 (origin_at origins v)) s found.1 in
      name_at origins v ∙ sym (slot_settled origins (found.0 + length origins) v (omega arith)) ∙ later),
)
