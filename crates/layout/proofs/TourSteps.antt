-- The steps of a tour, from its start to its end.
use Rattle.std.proofs.Common.{◌≡◌, inl, inr, ◌<◌, ◌≤◌, ◌+◌, ℕ, zero, suc, true, false, List, [], ◌∷◌, ◌++◌, length, take, replicate, Option, Some, None, refl, sym, ap, ◌∙◌, subst, arith, length-append}
use Rattle.std.proofs.lemmas.Bool.{cases_lt}
use Rattle.std.specs.Prelude.{slice_get}
use Rattle.std.proofs.lemmas.Option.{slice_get_past}
use Rattle.lemmas.specs.Numbers.{some_same}
use Rattle.ir_ast.specs.declared.module.Module.{Module}
use Rattle.layout.specs.Layouts.{IsPartOf, IsPart, Holds, StructHoldsItself}
use Rattle.layout.specs.Ring.{IsFirstIfAny}
use Rattle.layout.specs.Rings.{holds_more}
use Rattle.layout.specs.Tours.{State, at_start, with_top, opened, recorded, cut, left, parts_of, is_placeless, is_new, new_among, lowest, Has, IsCount, IsUpTo, IsTour, LooksBack, Nothing, Ring, IsAdvance}
use Rattle.layout.proofs.FirstRings.{named_body}
use Rattle.types.specs.References.{layout_of_struct}
use Rattle.layout.proofs.TourLists.{has_last, none_in, one_less_new, new_there, not_there, other_up_to, up_to_itself}
use Rattle.layout.proofs.TourParts.{new_part, all_known, lowest_up_to, lowest_part}
use Rattle.layout.proofs.Tours.{IsReady, left_apart, cut_keeps, record_keeps, ring_at, cut_low, holds_top, open_keeps, set_kept, set_met, leave_keeps, ring_keeps, no_bound, bound_is_top}

-- ---- steps

-- the type on top of the path may be left
record LookedBack (m : Module) (s : State) (p t : ℕ) (later : State) : Type 0 where
  tour : IsTour m (with_top p later)
  at : slice_get later.met p ≡ Some t
  ready : IsReady m later t
  same_places : later.places ≡ s.places
  same_path : later.path ≡ s.path

module _ (m : Module) (s : State) (p t : ℕ) (tour : IsTour m (with_top p s)) (at : slice_get s.met p ≡ Some t) where
  -- with no part whose group is not left
  nothing_back : new_among s.places (parts_of m (slice_get m.types t)) ≡ None → lowest s.places s.met (parts_of m (slice_get m.types t)) ≡ None → LookedBack m s p t s
  nothing_back none nothing = record { tour = tour; at = at; ready = ready; same_places = refl; same_path = refl } where
    apart : (q i : ℕ) → IsPart m t q → slice_get s.met i ≡ Some q → ⊥
    apart q i ip there = let up = lowest_up_to m s.places s.met (slice_get m.types t) q i ip (tour.places_are i q there) there in not_there up.least (sym nothing ∙ up.is)

    ready : IsReady m s t
    ready = record {
      low = λ q i b ip there w. absurd (apart q i ip there);
      known = λ q ip. all_known m s.places (slice_get m.types t) q none ip;
      counted = λ struct ring names. absurd (left_apart m s p t tour at ring.part t ring.back refl
          (record { known = all_known m s.places (slice_get m.types t) ring.part none ring.is_part; gone = λ w. apart ring.part w.0 ring.is_part w.1 }));
    }

  -- with a lowest part
  ring_back : (i n : ℕ) → new_among s.places (parts_of m (slice_get m.types t)) ≡ None → lowest s.places s.met (parts_of m (slice_get m.types t)) ≡ Some i → IsCount s.bounds (i + 1) n
      → LookedBack m s p t (recorded (layout_of_struct m (slice_get m.types t)) (cut n s))
  ring_back i n none lowest_is count = by (lowest_part m s.places s.met (slice_get m.types t) i lowest_is) where
    by : (q : ℕ) × (IsPart m t q × (slice_get s.met i ≡ Some q)) → LookedBack m s p t (recorded (layout_of_struct m (slice_get m.types t)) (cut n s))
    by q = record {
      tour = record_keeps m (cut n s) p t (cut_keeps m s p t tour at i q.0 n q.1.1 q.1.0 count) at (ring_at m s p t tour at i q.0 q.1.1 q.1.0);
      at = at;
      ready = record {
        low = λ r j b ip there w.
            let up = lowest_up_to m s.places s.met (slice_get m.types t) r j ip (tour.places_are j r there) there in
            let same : i ≡ up.least = some_same i up.least (sym lowest_is ∙ up.is) in
            let far = up.up_to in
            let near = cut_low m s p t tour at i q.0 n q.1.1 q.1.0 count b w in
            omega (arith, same, far, near);
        known = λ r ip. all_known m s.places (slice_get m.types t) r none ip;
        counted = λ struct ring names. other_up_to s.first (layout_of_struct m (slice_get m.types t)) struct (up_to_itself (layout_of_struct m (slice_get m.types t)) struct names);
      };
      same_places = refl;
      same_path = refl;
    }

  looked_back : (later : State) → new_among s.places (parts_of m (slice_get m.types t)) ≡ None → LooksBack m (slice_get m.types t) s later → LookedBack m s p t later
  looked_back later none (Nothing nothing same) = subst (LookedBack m s p t) (sym same) (nothing_back none nothing)
  looked_back later none (Ring i n lowest_is count same) = subst (LookedBack m s p t) (sym same) (ring_back i n none lowest_is count)

-- the type on top of the path is left
left_top : (m : Module) (s : State) (p : ℕ) (later : State) → IsTour m later → later.places ≡ s.places → later.path ≡ s.path → IsAdvance m (with_top p s) later
left_top m s p later tour places path = record {
  tour = tour;
  fewer = let len = length-append s.path (p ∷ []) in rw (places, path) (omega (arith, len));
  kept = λ q known. subst (λ x. is_new x q ≡ false) (sym places) known;
}

-- it is left alone
pub leaves : (m : Module) (s : State) (p t : ℕ) → IsTour m (with_top p s) → slice_get s.met p ≡ Some t → new_among s.places (parts_of m (slice_get m.types t)) ≡ None
    → (later : State) → LooksBack m (slice_get m.types t) s later → (bounds : List ℕ) → bounds ≡ later.bounds → (n : ℕ) → IsCount bounds p n → length later.bounds ≤ n → IsAdvance m (with_top p s) later
leaves m s p t tour at none later looks bounds same n count le =
    let back : LookedBack m s p t later = looked_back m s p t tour at later none looks in
    let counted : IsCount later.bounds p n = subst (λ x. IsCount x p n) same count in
    left_top m s p later (leave_keeps m later p t back.tour back.at back.ready (no_bound m later p t back.tour back.at n counted le)) back.same_places back.same_path

-- its group is left
pub leaves_ring : (m : Module) (s : State) (p t : ℕ) → IsTour m (with_top p s) → slice_get s.met p ≡ Some t → new_among s.places (parts_of m (slice_get m.types t)) ≡ None
    → (later : State) → LooksBack m (slice_get m.types t) s later → (bounds : List ℕ) → bounds ≡ later.bounds → (n : ℕ) → IsCount bounds p n → n < length later.bounds
    → (met after : List ℕ) → met ≡ take p later.met → after ≡ take n later.bounds → IsAdvance m (with_top p s) (record later { met = met; bounds = after })
leaves_ring m s p t tour at none later looks bounds same n count lt met after is_met is_after =
    let back : LookedBack m s p t later = looked_back m s p t tour at later none looks in
    let counted : IsCount later.bounds p n = subst (λ x. IsCount x p n) same count in
    let kept : IsTour m (left p n later) = ring_keeps m later p t back.tour back.at back.ready n counted (bound_is_top m later p t back.tour back.at n counted lt) in
    subst (λ x. IsAdvance m (with_top p s) (record later { met = x; bounds = after })) (sym is_met)
    (subst (λ x. IsAdvance m (with_top p s) (record later { met = take p later.met; bounds = x })) (sym is_after) (left_top m s p (left p n later) kept back.same_places back.same_path))

-- a part is met from the type on top of the path
pub opens : (m : Module) (s : State) (p t part : ℕ) → IsTour m (with_top p s) → slice_get s.met p ≡ Some t → new_among s.places (parts_of m (slice_get m.types t)) ≡ Some part
    → (path : List ℕ) → path ≡ s.path ++ p ∷ [] → (later : State) → later ≡ opened part (record s { path = path }) → IsAdvance m (with_top p s) later
opens m s p t part tour at is_part path is_path later is_later =
    subst (IsAdvance m (with_top p s)) (sym (is_later ∙ ap (λ x. opened part (record s { path = x })) is_path)) next where
      found : IsPart m t part × (is_new s.places part ≡ true)
      found = new_part m s.places (slice_get m.types t) part is_part

      new : slice_get s.places part ≡ Some None
      new = new_there s.places part found.1

      held : (x u : ℕ) → Has (s.path ++ p ∷ []) x → slice_get s.met x ≡ Some u → Holds m u part
      held x u w e = holds_more m u t part (holds_top m s p t tour at x u w e) found.0

      next : IsAdvance m (with_top p s) (opened part (with_top p s))
      next = record {
        tour = open_keeps m (with_top p s) tour part new held;
        fewer =
            let less = one_less_new s.places part (length s.met) new in
            let len = length-append (s.path ++ p ∷ []) (length s.met ∷ []) in
            omega (arith, less, len);
        kept = set_kept m (with_top p s) tour part new held;
      }

-- on top of the path is a type that was met
pub top_there : (m : Module) (s : State) (p : ℕ) → IsTour m (with_top p s) → slice_get s.met p ≡ None → ⊥
top_there m s p tour none = let h = tour.path_met p (has_last s.path p) in not_there h.0 (sym none ∙ h.1)

-- ---- from the start to the end

-- a type is met while none is open
pub opens_first : (m : Module) (s : State) (t : ℕ) → IsTour m s → s.path ≡ [] → is_new s.places t ≡ true → (later : State) → later ≡ opened t s
    → IsTour m later × (is_new later.places t ≡ false) × ((q : ℕ) → is_new s.places q ≡ false → is_new later.places q ≡ false)
opens_first m s t tour none new later is =
    subst (λ x. IsTour m x × (is_new x.places t ≡ false) × ((q : ℕ) → is_new s.places q ≡ false → is_new x.places q ≡ false)) (sym is)
    (open_keeps m s tour t there held, set_met m s tour t there held, set_kept m s tour t there held) where
      there : slice_get s.places t ≡ Some None
      there = new_there s.places t new

      held : (x u : ℕ) → Has s.path x → slice_get s.met x ≡ Some u → Holds m u t
      held x u w e = absurd (none_in x (subst (λ xs. Has xs x) none w))

known_past : (n t : ℕ) → is_new (replicate n None) t ≡ false → n ≤ t
known_past zero t e = omega arith
known_past (suc n) zero e = absurd cc
known_past (suc n) (suc t) e = let h = known_past n t e in omega (arith, h)

replicate_length : (n : ℕ) → length (at_start n).places ≡ n
replicate_length zero = refl
replicate_length (suc n) = ap suc (replicate_length n)

part_inside : (m : Module) (t q : ℕ) → length m.types ≤ t → IsPart m t q → ⊥
part_inside m t q le ip = subst (λ x. IsPartOf m x q) (slice_get_past m.types t le) ip

-- nothing is known at the start
pub starts : (m : Module) (count : ℕ) (s : State) → count ≡ length m.types → s ≡ at_start count → IsTour m s
starts m count s all is = subst (IsTour m) (sym is) (record {
  one_each = replicate_length count ∙ all;
  places_are = λ i t e. absurd (none_in t (i, e));
  path_met = λ x w. absurd (none_in x w);
  path_increasing = λ k l one other lt ek el. absurd (none_in one (k, ek));
  path_holds = λ k l lower upper one other lt ek el e1 e2. absurd (none_in lower (k, ek));
  bounds_open = λ b w. absurd (none_in b w);
  bounds_increasing = λ k l one other lt ek el. absurd (none_in one (k, ek));
  holds_bound = λ i t e. absurd (none_in t (i, e));
  within = λ i t q e shut ip. absurd (none_in t (i, e));
  closed = λ t q gone ip. absurd (let le = known_past count t gone.known in part_inside m t q (omega (arith, le, all)) ip);
  first_is = λ struct e. absurd (not_there struct e);
  no_less = λ t struct known shut ring names. absurd (let le = known_past count t known in part_inside m t ring.part (omega (arith, le, all)) ring.is_part);
})

-- where each type was met and none is open, the first struct is known
pub arrives : (m : Module) (s : State) → IsTour m s → s.path ≡ [] → ((t : ℕ) → t < length m.types → is_new s.places t ≡ false) → IsFirstIfAny (StructHoldsItself m) s.first
arrives m s tour none met = cases s.first refl where
  known : (t : ℕ) → is_new s.places t ≡ false
  known t = elim (cases_lt t (length m.types)) [
    | inl lt ↦ met t lt
    | inr le ↦ let len = tour.one_each in ap is_placeless (slice_get_past s.places t (omega (arith, le, len)))
  ]

  up_to : (struct : ℕ) → StructHoldsItself m struct → IsUpTo s.first struct
  up_to struct h = tour.no_less h.again.name struct (known h.again.name) (λ o. none_in o.place (subst (λ xs. Has xs o.place) none o.on_path))
      (record { part = h.body; is_part = named_body m struct h.body (slice_get m.types h.again.name) h.again.names h.body_is; back = h.again.held }) h.again.names

  cases : (o : Option ℕ) → s.first ≡ o → IsFirstIfAny (StructHoldsItself m) o
  cases None is = λ struct h. let up = up_to struct h in not_there up.least (sym is ∙ up.is)
  cases (Some k) is = record {
    holds = tour.first_is k is;
    none_before = λ struct lt h.
        let up = up_to struct h in
        let same : k ≡ up.least = some_same k up.least (sym is ∙ up.is) in
        let le = up.up_to in
        omega (arith, lt, same, le);
  }
