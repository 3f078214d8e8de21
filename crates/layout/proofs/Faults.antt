-- A module has layouts exactly where its first fault is none.
use Rattle.std.proofs.Common.{◌≡◌, ◌≤◌, ◌<◌, inl, inr, ℕ, Bool, true, false, List, [], ◌∷◌, length, position, map, if◌then◌else◌, Option, Some, None, is_none, refl, sym, ap, ◌∙◌, subst, arith, unwrap_or, zero, suc, get_or, min}
use Rattle.std.specs.List.{list_any}
use Rattle.std.specs.Prelude.{slice_get}
use Rattle.std.proofs.lemmas.List.Quantifiers.{position-Some}
use Rattle.std.proofs.lemmas.Option.{slice_get-get_or, get_or_from_slice_get}
use Rattle.lemmas.specs.Bools.{or_neither}
use Rattle.ir_ast.specs.Places.{none_passes, map-length}
use Rattle.ir_ast.specs.declared.module.Module.{Module}
use Rattle.ir_ast.specs.declared.items_of_module.StructType.{StructType}
use Rattle.pools.specs.declared.word_kind.WordKind.{WordKind}
use Rattle.pools.specs.declared.word_kind.WordKind.TheVariants as kind
use Rattle.layout.specs.declared.fault.LayoutFault.{LayoutFault}
use Rattle.layout.specs.declared.fault.LayoutFault.TheVariants.{ShapesWanted, HoldsItself, TooManyWords, NoSuchLayout, Memory}
use Rattle.layout.specs.declared.survey.SizeMark.{SizeMark}
use Rattle.layout.specs.declared.survey.SizeMark.TheVariants.{New, Open, Endless, Large, Known}
use Rattle.layout.specs.declared.survey.Span.{Span}
use Rattle.ir_ast.specs.Shapes.{shape_at}
use Rattle.layout.specs.Words.{Scalars, shaped_word, shapes_of, AreWords, some_nowhere}
use Rattle.layout.specs.Layouts.{IsLayout, AreLayoutsOf, AreLayouts, IsFirst, HasNoEnd, HasTooManyWords, PointsNowhere, StructHoldsItself, IsLayoutFault, IsSize, AreSizes, wants_shapes}
use Rattle.layout.specs.Survey.{mark_at, fields_at, IsWithin, IsLarge, MarkFits, IsSettled, is_new, is_endless, is_large, span_of, size_in, struct_is_endless, struct_is_large, struct_fields, points_nowhere, known_words, words_of, fault_by, first_fault}
use Rattle.layout.specs.Ring.{IsFirstIfAny, at_ring}
use Rattle.layout.specs.Rings.{one_list}
use Rattle.layout.proofs.FirstRings.{order, ring_has_no_end, one_first, none_first}
use Rattle.layout.proofs.TourLists.{not_both}
use Rattle.layout.proofs.Turns.{length_at}
use Rattle.types.specs.Elements.{body_in, body_of_layout}

none_at : {A : Type 0} (p : A → Bool) (xs : List A) (i : ℕ) (x : A) → list_any p xs ≡ false → slice_get xs i ≡ Some x → p x ≡ false
none_at p [] i x e at = absurd cc
none_at p (y ∷ xs) zero x e at = let same : y ≡ x = cc in subst (λ z. p z ≡ false) same (or_neither (p y) (list_any p xs) e).0
none_at p (y ∷ xs) (suc i) x e at = none_at p xs i x (or_neither (p y) (list_any p xs) e).1 at

some_same : (a b : LayoutFault) → Some a ≡ Some b → a ≡ b
some_same a b e = cc

-- where no element passes there is no place
no_place : {A : Type 0} (p : A → Bool) (xs : List A) → list_any p xs ≡ false → position p xs ≡ None
no_place p [] e = refl
no_place p (x ∷ xs) e = cases (position p (x ∷ xs)) refl where
  cases : (o : Option ℕ) → position p (x ∷ xs) ≡ o → o ≡ None
  cases None is = refl
  cases (Some i) is =
      let found = position-Some p (x ∷ xs) i x is in
      let here = slice_get-get_or (x ∷ xs) i x found.0 in
      absurd (not_both (p (get_or (x ∷ xs) i x)) found.1 (none_at p (x ∷ xs) i (get_or (x ∷ xs) i x) e here))

-- a test of structs that says of which numbers something holds
record Says (structs : List StructType) (p : StructType → Bool) (P : ℕ → Type 0) : Type 0 where
  to : (s : ℕ) (st : StructType) → slice_get structs s ≡ Some st → p st ≡ true → P s
  back : (s : ℕ) → P s → (st : StructType) × ((slice_get structs s ≡ Some st) × (p st ≡ true))

module _ (structs : List StructType) (p : StructType → Bool) (P : ℕ → Type 0) (says : Says structs p P) where
  is_first : (n : ℕ) → position p structs ≡ Some n → IsFirst P n
  is_first n e =
      let d : StructType = record { name = 0; body = 0 } in
      let found = position-Some p structs n d e in
      record {
        holds = says.to n (get_or structs n d) (slice_get-get_or structs n d found.0) found.1;
        none_before = λ other lt h.
            let there : (st : StructType) × ((slice_get structs other ≡ Some st) × (p st ≡ true)) = says.back other h in
            let same : get_or structs other d ≡ there.0 = get_or_from_slice_get structs other there.0 d there.1.0 in
            not_both (p there.0) there.1.1 (subst (λ z. p z ≡ false) same (found.2 other lt));
      }

  is_none_of : position p structs ≡ None → (s : ℕ) → P s → ⊥
  is_none_of e s h =
      let there : (st : StructType) × ((slice_get structs s ≡ Some st) × (p st ≡ true)) = says.back s h in
      not_both (p there.0) there.1.1 (none_at p structs s there.0 (none_passes p structs e) there.1.0)

  only_first : (n : ℕ) → IsFirst P n → position p structs ≡ Some n
  only_first n h = cases (position p structs) refl where
    cases : (o : Option ℕ) → position p structs ≡ o → o ≡ Some n
    cases None is = absurd (is_none_of is n h.holds)
    cases (Some k) is =
        let found : IsFirst P k = is_first k is in
        elim (order k n) [ inl lt ↦ absurd (h.none_before k lt found.holds) | inr (inl lt) ↦ absurd (found.none_before n lt h.holds) | inr (inr e) ↦ ap Some e ]

  none_there : ((s : ℕ) → P s → ⊥) → position p structs ≡ None
  none_there h = cases (position p structs) refl where
    cases : (o : Option ℕ) → position p structs ≡ o → o ≡ None
    cases None is = refl
    cases (Some k) is = absurd (h k (is_first k is).holds)

-- ---- the words of a struct

known : (w : Option WordKind) → is_none w ≡ false → w ≡ Some (unwrap_or w (kind.Integer 64))
known None e = absurd cc
known (Some w) e = refl

are_words : (m : Module) (shapes : List (Option ℕ)) (place : ℕ) (fields : List ℕ) → some_nowhere m shapes place fields ≡ false → AreWords m shapes place fields (known_words m shapes place fields)
are_words m shapes place [] e = tt
are_words m shapes place (field ∷ fields) e =
    let b = or_neither (is_none (shaped_word m (shape_at shapes place) field)) (some_nowhere m shapes (suc place) fields) e in
    (known (shaped_word m (shape_at shapes place) field) b.0, are_words m shapes (suc place) fields b.1)

are_known : (m : Module) (shapes : List (Option ℕ)) (place : ℕ) (fields : List ℕ) (words : List WordKind) → AreWords m shapes place fields words
    → (some_nowhere m shapes place fields ≡ false) × (words ≡ known_words m shapes place fields)
are_known m shapes place [] [] h = (refl, refl)
are_known m shapes place [] (w ∷ ws) h = absurd h
are_known m shapes place (f ∷ fs) [] h = absurd h
are_known m shapes place (f ∷ fs) (w ∷ ws) h =
    let r = are_known m shapes (suc place) fs ws h.1 in
    (rw (h.0, r.0) refl, rw (h.0, r.1) refl)

-- ---- the structs

body_at : (m : Module) (s body : ℕ) (o : Option StructType) → slice_get m.structs s ≡ o → body_in o ≡ Some body → (st : StructType) × ((slice_get m.structs s ≡ Some st) × (st.body ≡ body))
body_at m s body None is e = absurd cc
body_at m s body (Some st) is e = (st, (is, cc))

body_from : (m : Module) (s : ℕ) (st : StructType) → slice_get m.structs s ≡ Some st → body_of_layout m (Some s) ≡ Some st.body
body_from m s st is = rw is refl

module _ (m : Module) (marks : List SizeMark) (fields : List ℕ) (settled : IsSettled m marks fields) where
  mark_is : (t : ℕ) (k : SizeMark) → mark_at marks t ≡ k → MarkFits m fields t k
  mark_is t k e = subst (MarkFits m fields t) e (settled.survey.fits t)

  never_new : (t : ℕ) → mark_at marks t ≡ New → ⊥
  never_new t e = not_both (is_new (mark_at marks t)) (ap is_new e) (settled.met t)

  never_open : (t : ℕ) → mark_at marks t ≡ Open → ⊥
  never_open t e = let at : (i : ℕ) × (slice_get [] i ≡ Some t) = settled.survey.open_in t e in no_such at.0 at.1 where
    no_such : (i : ℕ) → slice_get {X = ℕ} [] i ≡ Some t → ⊥
    no_such i h = cc

  -- the fields of a type that is known
  record KnownFields (t : ℕ) (fs : List ℕ) (k : SizeMark) : Type 0 where
    not_endless : is_endless k ≡ false
    not_large : is_large k ≡ false
    same : fields_at fields (span_of k) ≡ fs
    few : length fs ≤ 64

  with_fields : (t : ℕ) (fs : List ℕ) (k : SizeMark) → mark_at marks t ≡ k → Scalars m t fs → (is_large k ≡ false → KnownFields t fs k)
  with_fields t fs New e s l = absurd (never_new t e)
  with_fields t fs Open e s l = absurd (never_open t e)
  with_fields t fs Endless e s l = absurd (mark_is t Endless e fs s)
  with_fields t fs Large e s l = absurd cc
  with_fields t fs (Known span) e s l =
      let k = mark_is t (Known span) e in
      let same : fields_at fields span ≡ fs = one_list m t (fields_at fields span) fs k.1 s in
      let len : length (fields_at fields span) ≡ span.count = length_at fields span k.0 in
      let few = k.0.few in
      record { not_endless = refl; not_large = refl; same = same; few = subst (λ n. n ≤ 64) (sym len ∙ ap length same) few }

  is_large_type : (t : ℕ) (fs : List ℕ) (k : SizeMark) → mark_at marks t ≡ k → Scalars m t fs → 64 < length fs → is_large k ≡ true
  is_large_type t fs New e s l = absurd (never_new t e)
  is_large_type t fs Open e s l = absurd (never_open t e)
  is_large_type t fs Endless e s l = absurd (mark_is t Endless e fs s)
  is_large_type t fs Large e s l = refl
  is_large_type t fs (Known span) e s l = let few = (with_fields t fs (Known span) e s refl).few in absurd (omega (arith, few, l))

  is_endless_type : (t : ℕ) (k : SizeMark) → mark_at marks t ≡ k → ((fs : List ℕ) → Scalars m t fs → ⊥) → is_endless k ≡ true
  is_endless_type t New e h = absurd (never_new t e)
  is_endless_type t Open e h = absurd (never_open t e)
  is_endless_type t Endless e h = refl
  is_endless_type t Large e h = let l : IsLarge m t = mark_is t Large e in absurd (h l.fields l.scalars)
  is_endless_type t (Known span) e h = absurd (h (fields_at fields span) (mark_is t (Known span) e).1)

  endless_type : (t : ℕ) (k : SizeMark) → mark_at marks t ≡ k → is_endless k ≡ true → (fs : List ℕ) → Scalars m t fs → ⊥
  endless_type t New e h = absurd cc
  endless_type t Open e h = absurd cc
  endless_type t Endless e h = mark_is t Endless e
  endless_type t Large e h = absurd cc
  endless_type t (Known span) e h = absurd cc

  large_type : (t : ℕ) (k : SizeMark) → mark_at marks t ≡ k → is_large k ≡ true → IsLarge m t
  large_type t New e h = absurd cc
  large_type t Open e h = absurd cc
  large_type t Endless e h = absurd cc
  large_type t Large e h = mark_is t Large e
  large_type t (Known span) e h = absurd cc

  known_type : (t : ℕ) (k : SizeMark) → mark_at marks t ≡ k → is_endless k ≡ false → is_large k ≡ false → Scalars m t (fields_at fields (span_of k)) × (length (fields_at fields (span_of k)) ≤ 64)
  known_type t New e h l = absurd (never_new t e)
  known_type t Open e h l = absurd (never_open t e)
  known_type t Endless e h l = absurd cc
  known_type t Large e h l = absurd cc
  known_type t (Known span) e h l =
      let k = mark_is t (Known span) e in
      let few = k.0.few in
      (k.1, subst (λ n. n ≤ 64) (sym (length_at fields span k.0)) few)

  says_endless : Says m.structs (struct_is_endless marks) (HasNoEnd m)
  says_endless = record {
    to = λ s st is e. record { body = st.body; body_is = body_from m s st is; no_end = endless_type st.body (mark_at marks st.body) refl e };
    back = λ s h.
        let at : (st : StructType) × ((slice_get m.structs s ≡ Some st) × (st.body ≡ h.body)) = body_at m s h.body (slice_get m.structs s) refl h.body_is in
        (at.0, (at.1.0, is_endless_type at.0.body (mark_at marks at.0.body) refl (λ fs sc. h.no_end fs (subst (λ b. Scalars m b fs) at.1.1 sc))));
  }

  says_large : Says m.structs (struct_is_large marks) (HasTooManyWords m)
  says_large = record {
    to = λ s st is e. let l : IsLarge m st.body = large_type st.body (mark_at marks st.body) refl e in record { body = st.body; fields = l.fields; body_is = body_from m s st is; scalars = l.scalars; many = l.many };
    back = λ s h.
        let at : (st : StructType) × ((slice_get m.structs s ≡ Some st) × (st.body ≡ h.body)) = body_at m s h.body (slice_get m.structs s) refl h.body_is in
        (at.0, (at.1.0, is_large_type at.0.body h.fields (mark_at marks at.0.body) refl (subst (λ b. Scalars m b h.fields) (sym at.1.1) h.scalars) h.many));
  }

  says_nowhere : list_any (struct_is_endless marks) m.structs ≡ false → list_any (struct_is_large marks) m.structs ≡ false → Says m.structs (points_nowhere m marks fields) (PointsNowhere m)
  says_nowhere none_endless none_large = record {
    to = λ s st is e.
        let k = known_type st.body (mark_at marks st.body) refl (none_at (struct_is_endless marks) m.structs s st none_endless is) (none_at (struct_is_large marks) m.structs s st none_large is) in
        record { of_struct = st; fields = struct_fields marks fields st; struct_is = is; scalars = k.0; nowhere = e };
    back = λ s h.
        let k = with_fields h.of_struct.body h.fields (mark_at marks h.of_struct.body) refl h.scalars (none_at (struct_is_large marks) m.structs s h.of_struct none_large h.struct_is) in
        (h.of_struct, (h.struct_is, subst (λ fs. some_nowhere m (shapes_of m h.of_struct) 0 fs ≡ true) (sym k.same) h.nowhere));
  }

  laid_out_from : (structs : List StructType) → list_any (struct_is_endless marks) structs ≡ false → list_any (struct_is_large marks) structs ≡ false → list_any (points_nowhere m marks fields) structs ≡ false
      → AreLayoutsOf m structs (map (words_of m marks fields) structs)
  laid_out_from [] endless large nowhere = tt
  laid_out_from (s ∷ ss) endless large nowhere =
      let a = or_neither (struct_is_endless marks s) (list_any (struct_is_endless marks) ss) endless in
      let b = or_neither (struct_is_large marks s) (list_any (struct_is_large marks) ss) large in
      let c = or_neither (points_nowhere m marks fields s) (list_any (points_nowhere m marks fields) ss) nowhere in
      let k = known_type s.body (mark_at marks s.body) refl a.0 b.0 in
      (record { fields = struct_fields marks fields s; scalars = k.0; few = k.1; words_are = are_words m (shapes_of m s) 0 (struct_fields marks fields s) c.0 }, laid_out_from ss a.1 b.1 c.1)

  record NoFault (structs : List StructType) (layouts : List (List WordKind)) : Type 0 where
    endless : list_any (struct_is_endless marks) structs ≡ false
    large : list_any (struct_is_large marks) structs ≡ false
    nowhere : list_any (points_nowhere m marks fields) structs ≡ false
    same : layouts ≡ map (words_of m marks fields) structs

  not_large_type : (t : ℕ) (fs : List ℕ) (k : SizeMark) → mark_at marks t ≡ k → Scalars m t fs → length fs ≤ 64 → is_large k ≡ false
  not_large_type t fs New e s le = refl
  not_large_type t fs Open e s le = refl
  not_large_type t fs Endless e s le = refl
  not_large_type t fs Large e s le =
      let l : IsLarge m t = mark_is t Large e in
      let same : l.fields ≡ fs = one_list m t l.fields fs l.scalars s in
      let many : 64 < length fs = subst (λ x. 64 < length x) same l.many in
      absurd (omega (arith, many, le))
  not_large_type t fs (Known span) e s le = refl

  no_fault : (structs : List StructType) (layouts : List (List WordKind)) → AreLayoutsOf m structs layouts → NoFault structs layouts
  no_fault [] [] h = record { endless = refl; large = refl; nowhere = refl; same = refl }
  no_fault [] (w ∷ ws) h = absurd h
  no_fault (s ∷ ss) [] h = absurd h
  no_fault (s ∷ ss) (w ∷ ws) h =
      let r = no_fault ss ws h.1 in
      let one : IsLayout m s w = h.0 in
      let small = not_large_type s.body one.fields (mark_at marks s.body) refl one.scalars one.few in
      let k = with_fields s.body one.fields (mark_at marks s.body) refl one.scalars small in
      let words = are_known m (shapes_of m s) 0 one.fields w one.words_are in
      let fine : points_nowhere m marks fields s ≡ false = subst (λ fs. some_nowhere m (shapes_of m s) 0 fs ≡ false) (sym k.same) words.0 in
      let same : w ≡ words_of m marks fields s = words.1 ∙ ap (known_words m (shapes_of m s) 0) (sym k.same) in
      record {
        endless = rw k.not_endless r.endless;
        large = rw small r.large;
        nowhere = rw fine r.nowhere;
        same = ap (λ x. x ∷ ws) same ∙ ap (λ x. words_of m marks fields s ∷ x) r.same;
      }

  span_at : (t : ℕ) (k : SizeMark) → mark_at marks t ≡ k → IsWithin fields (span_of k)
  span_at t New e = record { inside = omega arith; few = omega arith }
  span_at t Open e = record { inside = omega arith; few = omega arith }
  span_at t Endless e = record { inside = omega arith; few = omega arith }
  span_at t Large e = record { inside = omega arith; few = omega arith }
  span_at t (Known span) e = (mark_is t (Known span) e).0

  -- the span of a type lies within the fields
  pub span_within : (t : ℕ) (span : Span) → span ≡ span_of (mark_at marks t) → IsWithin fields span
  span_within t span is = subst (IsWithin fields) (sym is) (span_at t (mark_at marks t) refl)

  -- ---- the results

  by_places : first_fault m marks fields ≡ None → (wants_shapes m ≡ false) × (position (struct_is_endless marks) m.structs ≡ None) × (position (struct_is_large marks) m.structs ≡ None) × (position (points_nowhere m marks fields) m.structs ≡ None)
  by_places e = cases (wants_shapes m) (position (struct_is_endless marks) m.structs) (position (struct_is_large marks) m.structs) (position (points_nowhere m marks fields) m.structs) e where
    cases : (w : Bool) (a b c : Option ℕ) → (if w then Some ShapesWanted else fault_by a b c) ≡ None → (w ≡ false) × (a ≡ None) × (b ≡ None) × (c ≡ None)
    cases true a b c e = absurd cc
    cases false (Some s) b c e = absurd cc
    cases false None (Some s) c e = absurd cc
    cases false None None (Some s) e = absurd cc
    cases false None None None e = (refl, refl, refl, refl)

  -- with no fault these are the layouts
  pub laid_out : first_fault m marks fields ≡ None → AreLayouts m (map (words_of m marks fields) m.structs)
  laid_out e =
      let p = by_places e in
      (laid_out_from m.structs (none_passes (struct_is_endless marks) m.structs p.1) (none_passes (struct_is_large marks) m.structs p.2) (none_passes (points_nowhere m marks fields) m.structs p.3), p.0)

  -- and no others
  pub only_layouts : (layouts : List (List WordKind)) → AreLayouts m layouts → map (words_of m marks fields) m.structs ≡ layouts
  only_layouts layouts h = sym (no_fault m.structs layouts h.0).same

  -- where there are layouts there is no fault
  pub no_layouts : (layouts : List (List WordKind)) → AreLayouts m layouts → first_fault m marks fields ≡ None
  no_layouts layouts h =
      let n = no_fault m.structs layouts h.0 in
      rw (h.1, no_place (struct_is_endless marks) m.structs n.endless, no_place (struct_is_large marks) m.structs n.large, no_place (points_nowhere m marks fields) m.structs n.nowhere) refl

  -- the first struct that holds itself is known, where the fault is one of a struct that has no end
  abbrev RingFor : Option ℕ → LayoutFault → Type 0
  RingFor ring fault = (s : ℕ) → fault ≡ HoldsItself s → IsFirstIfAny (StructHoldsItself m) ring

  -- the first fault is one, at the first struct that holds itself if there is one
  pub is_fault : (ring : Option ℕ) (fault : LayoutFault) → RingFor ring fault → first_fault m marks fields ≡ Some fault → IsLayoutFault m (at_ring ring fault)
  is_fault ring fault rings e =
      cases (wants_shapes m) (position (struct_is_endless marks) m.structs) (position (struct_is_large marks) m.structs) (position (points_nowhere m marks fields) m.structs) refl refl refl refl fault rings e where
        ring_or : (s : ℕ) (o : Option ℕ) → wants_shapes m ≡ false → IsFirstIfAny (StructHoldsItself m) o → IsFirst (HasNoEnd m) s → IsLayoutFault m (at_ring o (HoldsItself s))
        ring_or s None shaped none first = (shaped, inr (none, first))
        ring_or s (Some k) shaped found first = (shaped, inl found)

        cases : (w : Bool) (a b c : Option ℕ) → wants_shapes m ≡ w → position (struct_is_endless marks) m.structs ≡ a → position (struct_is_large marks) m.structs ≡ b → position (points_nowhere m marks fields) m.structs ≡ c
            → (fault : LayoutFault) → RingFor ring fault → (if w then Some ShapesWanted else fault_by a b c) ≡ Some fault → IsLayoutFault m (at_ring ring fault)
        cases true a b c iw ia ib ic fault rings e = subst (λ f. IsLayoutFault m (at_ring ring f)) (some_same ShapesWanted fault e) iw
        cases false (Some s) b c iw ia ib ic fault rings e =
            subst (λ f. IsLayoutFault m (at_ring ring f)) (some_same (HoldsItself s) fault e) (ring_or s ring iw (rings s (sym (some_same (HoldsItself s) fault e))) (is_first m.structs (struct_is_endless marks) (HasNoEnd m) says_endless s ia))
        cases false None (Some s) c iw ia ib ic fault rings e = subst (λ f. IsLayoutFault m (at_ring ring f)) (some_same (TooManyWords s) fault e)
            (iw, is_none_of m.structs (struct_is_endless marks) (HasNoEnd m) says_endless ia, is_first m.structs (struct_is_large marks) (HasTooManyWords m) says_large s ib)
        cases false None None (Some s) iw ia ib ic fault rings e = subst (λ f. IsLayoutFault m (at_ring ring f)) (some_same (NoSuchLayout s) fault e) (
          iw,
          is_none_of m.structs (struct_is_endless marks) (HasNoEnd m) says_endless ia,
          is_none_of m.structs (struct_is_large marks) (HasTooManyWords m) says_large ib,
          is_first m.structs (points_nowhere m marks fields) (PointsNowhere m) (says_nowhere (none_passes (struct_is_endless marks) m.structs ia) (none_passes (struct_is_large marks) m.structs ib)) s ic,
        )
        cases false None None None iw ia ib ic fault rings e = absurd cc

  -- there is a first struct that has no end
  endless_there : (s : ℕ) → HasNoEnd m s → (k : ℕ) × (position (struct_is_endless marks) m.structs ≡ Some k)
  endless_there s h = cases (position (struct_is_endless marks) m.structs) refl where
    cases : (o : Option ℕ) → position (struct_is_endless marks) m.structs ≡ o → (k : ℕ) × (position (struct_is_endless marks) m.structs ≡ Some k)
    cases None is = absurd (is_none_of m.structs (struct_is_endless marks) (HasNoEnd m) says_endless is s h)
    cases (Some k) is = (k, is)

  -- the fault that was found
  record FoundFault (fault : LayoutFault) : Type 0 where
    found : LayoutFault
    found_is : first_fault m marks fields ≡ Some found
    at : (ring : Option ℕ) → RingFor ring found → at_ring ring found ≡ fault

  -- and the only one
  there_is : (fault : LayoutFault) → IsLayoutFault m fault → FoundFault fault
  there_is ShapesWanted h = record { found = ShapesWanted; found_is = rw h refl; at = λ ring known. refl }
  there_is (HoldsItself s) (shaped, inl h) =
      let k : (k : ℕ) × (position (struct_is_endless marks) m.structs ≡ Some k) = endless_there s (ring_has_no_end m s h.holds) in
      let is = k.1 in
      record { found = HoldsItself k.0; found_is = rw (shaped, is) refl; at = λ ring known. let e : ring ≡ Some s = one_first (StructHoldsItself m) ring s (known k.0 refl) h in rw e refl }
  there_is (HoldsItself s) (shaped, inr h) =
      let is : position (struct_is_endless marks) m.structs ≡ Some s = only_first m.structs (struct_is_endless marks) (HasNoEnd m) says_endless s h.1 in
      record { found = HoldsItself s; found_is = rw (shaped, is) refl; at = λ ring known. let e : ring ≡ None = none_first (StructHoldsItself m) ring (known s refl) h.0 in rw e refl }
  there_is (TooManyWords s) h =
      let a = none_there m.structs (struct_is_endless marks) (HasNoEnd m) says_endless h.1 in
      let b = only_first m.structs (struct_is_large marks) (HasTooManyWords m) says_large s h.2 in
      record { found = TooManyWords s; found_is = rw (h.0, a, b) refl; at = λ ring known. refl }
  there_is (NoSuchLayout s) h =
      let a = none_there m.structs (struct_is_endless marks) (HasNoEnd m) says_endless h.1 in
      let b = none_there m.structs (struct_is_large marks) (HasTooManyWords m) says_large h.2 in
      let c = only_first m.structs (points_nowhere m marks fields) (PointsNowhere m) (says_nowhere (none_passes (struct_is_endless marks) m.structs a) (none_passes (struct_is_large marks) m.structs b)) s h.3 in
      record { found = NoSuchLayout s; found_is = rw (h.0, a, b, c) refl; at = λ ring known. refl }
  there_is Memory h = absurd h

  pub only_fault : (ring : Option ℕ) (fault other : LayoutFault) → RingFor ring fault → first_fault m marks fields ≡ Some fault → IsLayoutFault m other → at_ring ring fault ≡ other
  only_fault ring fault other rings e h =
      let there : FoundFault other = there_is other h in
      let same : fault ≡ there.found = some_same fault there.found (sym e ∙ there.found_is) in
      ap (at_ring ring) same ∙ there.at ring (λ s is. rings s (same ∙ is))

  elsewhere : (fault : LayoutFault) → ((s : ℕ) → fault ≡ HoldsItself s → ⊥) → at_ring None fault ≡ fault
  elsewhere ShapesWanted other = refl
  elsewhere (HoldsItself s) other = refl
  elsewhere (TooManyWords s) other = refl
  elsewhere (NoSuchLayout s) other = refl
  elsewhere Memory other = refl

  -- a fault of another kind is the first as it is
  pub is_other_fault : (fault : LayoutFault) → ((s : ℕ) → fault ≡ HoldsItself s → ⊥) → first_fault m marks fields ≡ Some fault → IsLayoutFault m fault
  is_other_fault fault other e = subst (IsLayoutFault m) (elsewhere fault other) (is_fault None fault (λ s is. absurd (other s is)) e)

  pub only_other_fault : (fault third : LayoutFault) → ((s : ℕ) → fault ≡ HoldsItself s → ⊥) → first_fault m marks fields ≡ Some fault → IsLayoutFault m third → fault ≡ third
  only_other_fault fault third other e h = sym (elsewhere fault other) ∙ only_fault None fault third (λ s is. absurd (other s is)) e h

  pub no_other_fault : (fault : LayoutFault) → first_fault m marks fields ≡ None → IsLayoutFault m fault → ⊥
  no_other_fault fault e h = let f = (there_is fault h).found_is in cc

sized_at : (marks : List SizeMark) (t : ℕ) (size : Option ℕ) → slice_get (map size_in marks) t ≡ Some size → size ≡ size_in (mark_at marks t)
sized_at [] t size e = absurd cc
sized_at (x ∷ marks) zero size e = cc
sized_at (x ∷ marks) (suc t) size e = sized_at marks t size e

size_is : (m : Module) (marks : List SizeMark) (fields : List ℕ) (settled : IsSettled m marks fields) (t : ℕ) (k : SizeMark) → mark_at marks t ≡ k → IsSize m t (size_in k)
size_is m marks fields settled t New e = absurd (never_new m marks fields settled t e)
size_is m marks fields settled t Open e = absurd (never_open m marks fields settled t e)
size_is m marks fields settled t Endless e = record { has = λ n is. absurd cc; has_none = λ is fs s. absurd (mark_is m marks fields settled t Endless e fs s) }
size_is m marks fields settled t Large e =
    let l : IsLarge m t = mark_is m marks fields settled t Large e in
    record { has = λ n is. absurd cc; has_none = λ is fs s. subst (λ x. 64 < length x) (one_list m t l.fields fs l.scalars s) l.many }
size_is m marks fields settled t (Known span) e =
    let k = mark_is m marks fields settled t (Known span) e in
    let few = k.0.few in
    let len : length (fields_at fields span) ≡ span.count = length_at fields span k.0 in
    record {
      has = λ n is. let same : min span.count 64 ≡ n = cc in (fields_at fields span, (k.1, omega (arith, len, same, few), omega (arith, same, few)));
      has_none = λ is fs s. absurd cc;
    }

-- these are the sizes of all types
pub are_sizes : (m : Module) (marks : List SizeMark) (fields : List ℕ) → IsSettled m marks fields → (sizes : List (Option ℕ)) → sizes ≡ map size_in marks → AreSizes m sizes
are_sizes m marks fields settled sizes is = subst (AreSizes m) (sym is) (record {
  one_each = map-length size_in marks ∙ settled.survey.one_each;
  each = λ t size e. subst (IsSize m t) (sym (sized_at marks t size e)) (size_is m marks fields settled t (mark_at marks t) refl);
})
