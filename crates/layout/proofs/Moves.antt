-- A turn at the type on top of the stack makes progress.
use Rattle.std.proofs.Common.{◌≡◌, ◌<◌, ◌≤◌, ◌+◌, ◌-◌, ◌*◌, ◌⊎◌, inl, inr, ℕ, zero, suc, false, List, [], ◌∷◌, ◌++◌, length, None, Some, refl, sym, ap, ◌∙◌, subst, arith, length-append, append_assoc}
use Rattle.std.proofs.lemmas.Option.{slice_get_within}
use Rattle.std.proofs.lemmas.List.{append-nil, length-set}
use Rattle.std.proofs.lemmas.Option.{slice_get_past}
use Rattle.layout.specs.Rings.{expected}
use Rattle.std.specs.Prelude.{slice_get, slice_set, replicate}
use Rattle.ir_ast.specs.declared.module.Module.{Module}
use Rattle.layout.specs.Words.{Scalars, Scalar, copies}
use Rattle.layout.specs.Survey.{IsSettled, turns_left, mark_at, fields_at, IsWithin, MarkFits, IsSettling, IsSurvey, IsAdvance, TurnFits, is_new, marks_after, fields_after, stack_after, turn_at}
use Rattle.layout.specs.declared.survey.SizeMark.{SizeMark}
use Rattle.layout.specs.declared.survey.SizeMark.TheVariants.{New, Open, Endless, Large, Known}
use Rattle.layout.specs.declared.survey.Span.{Span}
use Rattle.layout.specs.declared.survey.SizeTurn.{SizeTurn}
use Rattle.layout.specs.declared.survey.SizeTurn.TheVariants.{Wait, Done, Alone, Join, Repeat}
use Rattle.layout.specs.Steps.{part_opened, top_known, fields_afterwards, is_ready, same_fields, within_more, AfterSet, Other, Here, Outside, after_set, kept_at}
use Rattle.layout.proofs.Turns.{length_at, copies_length, turn_right}

-- one copy more at the end
pub copies_end : (n : ℕ) (fs : List ℕ) → copies n fs ++ fs ≡ copies (suc n) fs
copies_end zero fs = sym (append-nil fs)
copies_end (suc n) fs = append_assoc fs (copies n fs) fs ∙ ap (λ l. fs ++ l) (copies_end n fs)

module _ (m : Module) (marks : List SizeMark) (fields s : List ℕ) (top : ℕ) (survey : IsSurvey m marks fields (s ++ top ∷ [])) where
  plain : (k : SizeMark) → is_new k ≡ false → (k ≡ Open → ⊥) → MarkFits m fields top k → IsAdvance m marks fields (s ++ top ∷ []) (slice_set marks top k) fields s
  plain k old closed h =
      let e : fields ++ [] ≡ fields = append-nil fields in
      subst (λ fs. IsAdvance m marks fields (s ++ top ∷ []) (slice_set marks top k) fs s) e (top_known m marks fields s top survey [] k old closed (subst (λ fs. MarkFits m fs top k) (sym e) h))

  afterwards : (more : List ℕ) (n : ℕ) → length more ≡ n → n ≤ 64 → Scalars m top more
      → IsAdvance m marks fields (s ++ top ∷ []) (slice_set marks top (Known (record { start = length fields; count = n }))) (fields ++ more) s
  afterwards more n len few scalars = top_known m marks fields s top survey more (Known (record { start = length fields; count = n })) refl (λ e. absurd cc) (fields_afterwards m fields more top n len few scalars)

  by_turn : (turn : SizeTurn) → TurnFits m marks fields top turn → IsAdvance m marks fields (s ++ top ∷ []) (marks_after turn marks fields top) (fields_after turn fields top) (stack_after turn s top)
  by_turn (Wait part) h = part_opened m marks fields s top survey part h.0 h.1
  by_turn (Done New) h = absurd h
  by_turn (Done Open) h = absurd h
  by_turn (Done Endless) h = plain Endless refl (λ e. absurd cc) h
  by_turn (Done Large) h = plain Large refl (λ e. absurd cc) h
  by_turn (Done (Known span)) h = plain (Known span) refl (λ e. absurd cc) h
  by_turn Alone h = afterwards (top ∷ []) 1 refl (omega arith) (Scalar top h)
  by_turn (Join one other) h =
      let front = length_at fields one h.0 in
      let back = length_at fields other h.1 in
      afterwards (fields_at fields one ++ fields_at fields other) (one.count + other.count) (length-append (fields_at fields one) (fields_at fields other) ∙ (rw (front, back) refl)) h.2 h.3
  by_turn (Repeat times span) h =
      let len = length_at fields span h.0 in
      afterwards (copies times (fields_at fields span)) (times * span.count) (copies_length times (fields_at fields span) ∙ ap (λ n. times * n) len) h.1 h.2

-- a turn makes progress
pub advances : (m : Module) (marks : List SizeMark) (fields s : List ℕ) (top : ℕ) → IsSurvey m marks fields (s ++ top ∷ []) → (turn : SizeTurn) → turn ≡ turn_at m marks (slice_get m.types top)
    → IsAdvance m marks fields (s ++ top ∷ []) (marks_after turn marks fields top) (fields_after turn fields top) (stack_after turn s top)
advances m marks fields s top survey turn is =
    by_turn m marks fields s top survey turn (subst (TurnFits m marks fields top) (sym is) (turn_right m marks fields top (is_ready m marks fields s top survey)))

-- with one copy more
pub grown : (old fields later : List ℕ) (span : Span) (times left : ℕ) → IsWithin old span → (fields ≡ old ++ copies (times - left) (fields_at old span)) × (left ≤ times) → 0 < left
    → later ≡ fields ++ fields_at fields span → (later ≡ old ++ copies (times - (left - 1)) (fields_at old span)) × (left - 1 ≤ times)
grown old fields later span times left within inv some is =
    let fs : List ℕ = fields_at old span in
    let le = inv.1 in
    let same : fields_at fields span ≡ fs = ap (λ l. fields_at l span) inv.0 ∙ same_fields old (copies (times - left) fs) span within in
    let count : suc (times - left) ≡ times - (left - 1) = omega (arith, le, some) in (
      is ∙ ap (λ l. fields ++ l) same ∙ ap (λ l. l ++ fs) inv.0 ∙ append_assoc old (copies (times - left) fs) fs ∙ ap (λ l. old ++ l) (copies_end (times - left) fs)
          ∙ ap (λ n. old ++ copies n fs) count,
      omega (arith, le, some),
    )

pub grown_within : (old fields : List ℕ) (span : Span) (n : ℕ) → IsWithin old span → fields ≡ old ++ copies n (fields_at old span) → IsWithin fields span
grown_within old fields span n within is = subst (λ l. IsWithin l span) (sym is) (within_more old (copies n (fields_at old span)) span within)

-- a turn ends where it is said to
pub arrives : (m : Module) (marks : List SizeMark) (fields s : List ℕ) (top : ℕ) → IsSurvey m marks fields (s ++ top ∷ []) → (turn : SizeTurn) → turn ≡ turn_at m marks (slice_get m.types top)
    → (later_marks : List SizeMark) (later_fields later_stack : List ℕ) → later_marks ≡ marks_after turn marks fields top → later_fields ≡ fields_after turn fields top → later_stack ≡ stack_after turn s top
    → IsAdvance m marks fields (s ++ top ∷ []) later_marks later_fields later_stack
arrives m marks fields s top survey turn is ms fs ss e f g =
    subst (λ x. IsAdvance m marks fields (s ++ top ∷ []) x fs ss) (sym e)
    (subst (λ x. IsAdvance m marks fields (s ++ top ∷ []) (marks_after turn marks fields top) x ss) (sym f)
    (subst (λ x. IsAdvance m marks fields (s ++ top ∷ []) (marks_after turn marks fields top) (fields_after turn fields top) x) (sym g) (advances m marks fields s top survey turn is)))

none_open : (marks : List SizeMark) (p i : ℕ) → slice_get {X = ℕ} [] i ≡ Some p → ⊥
none_open marks p i e = cc

-- the first type waits
pub begins : (m : Module) (marks : List SizeMark) (fields : List ℕ) (first : ℕ) → IsSurvey m marks fields [] → mark_at marks first ≡ New → IsSurvey m (slice_set marks first Open) fields (first ∷ [])
begins m marks fields first survey new = record {
  one_each = length-set marks first Open ∙ survey.one_each;
  fits = λ p. fits_at p (after_set marks first Open p);
  open_in = λ p waits. open_at p waits (after_set marks first Open p);
  chain = λ i lower upper low up. absurd (let lt = slice_get_within (first ∷ []) (suc i) upper up in omega (arith, lt));
} where
  fits_at : (p : ℕ) → AfterSet marks first Open p → MarkFits m fields p (mark_at (slice_set marks first Open) p)
  fits_at p (Other ne same) = subst (MarkFits m fields p) (sym same) (survey.fits p)
  fits_at p (Here at is) = subst (MarkFits m fields p) (sym is) tt
  fits_at p (Outside at is was) = subst (MarkFits m fields p) (was ∙ sym is) (survey.fits p)

  open_at : (p : ℕ) → mark_at (slice_set marks first Open) p ≡ Open → AfterSet marks first Open p → (i : ℕ) × (slice_get (first ∷ []) i ≡ Some p)
  open_at p waits (Other ne same) = let old : (i : ℕ) × (slice_get [] i ≡ Some p) = survey.open_in p (sym same ∙ waits) in absurd (none_open marks p old.0 old.1)
  open_at p waits (Here at is) = (0, ap Some (sym at))
  open_at p waits (Outside at is was) = absurd (let e : Endless ≡ Open = sym is ∙ waits in cc)

-- a turn preserves the loop's invariant
pub goes_on : (m : Module) (marks : List SizeMark) (first : ℕ) (now_marks : List SizeMark) (now_fields now_stack s : List ℕ) (top : ℕ) (later_marks : List SizeMark) (later_fields later_stack : List ℕ)
    → IsSettling m marks first now_marks now_fields now_stack → now_stack ≡ s ++ top ∷ [] → IsAdvance m now_marks now_fields (s ++ top ∷ []) later_marks later_fields later_stack
    → IsSettling m marks first later_marks later_fields later_stack
goes_on m marks first nm nf ns s top lm lf ls inv is step = record {
  survey = step.survey;
  kept = λ p e. step.kept p (inv.kept p e);
  met = step.kept first inv.met;
}

-- and fewer turns are left
pub fewer_left : (m : Module) (now_marks : List SizeMark) (now_fields now_stack s : List ℕ) (top : ℕ) (later_marks : List SizeMark) (later_fields later_stack : List ℕ)
    → now_stack ≡ s ++ top ∷ [] → IsAdvance m now_marks now_fields (s ++ top ∷ []) later_marks later_fields later_stack → turns_left later_marks later_stack < turns_left now_marks now_stack
fewer_left m nm nf ns s top lm lf ls is step = subst (λ x. turns_left lm ls < turns_left nm x) (sym is) step.fewer

pub goes_from : (m : Module) (marks : List SizeMark) (fields : List ℕ) (first : ℕ) → IsSurvey m marks fields [] → mark_at marks first ≡ New → IsSettling m marks first (slice_set marks first Open) fields (first ∷ [])
goes_from m marks fields first survey new = record {
  survey = begins m marks fields first survey new;
  kept = λ p e. kept_at marks first Open p refl e;
  met = met_at (after_set marks first Open first);
} where
  met_at : AfterSet marks first Open first → is_new (mark_at (slice_set marks first Open) first) ≡ false
  met_at (Other ne same) = absurd (ne refl)
  met_at (Here at is) = ap is_new is
  met_at (Outside at is was) = ap is_new is

pub starts : (m : Module) (marks : List SizeMark) (fields : List ℕ) (first : ℕ) (later_marks : List SizeMark) (later_fields later_stack : List ℕ) → IsSurvey m marks fields [] → mark_at marks first ≡ New
    → later_marks ≡ slice_set marks first Open → later_fields ≡ fields → later_stack ≡ first ∷ [] → IsSettling m marks first later_marks later_fields later_stack
starts m marks fields first lm lf ls survey new e f g =
    subst (λ x. IsSettling m marks first x lf ls) (sym e)
    (subst (λ x. IsSettling m marks first (slice_set marks first Open) x ls) (sym f)
    (subst (λ x. IsSettling m marks first (slice_set marks first Open) fields x) (sym g) (goes_from m marks fields first survey new)))

-- a type that was met is settled
pub already : (m : Module) (marks : List SizeMark) (fields : List ℕ) (first : ℕ) → IsSurvey m marks fields [] → is_new (mark_at marks first) ≡ false → IsSettling m marks first marks fields []
already m marks fields first survey met = record { survey = survey; kept = λ p e. e; met = met }

-- ---- all types

new_or_past : (n p : ℕ) → (mark_at (replicate n New) p ≡ New) ⊎ ((mark_at (replicate n New) p ≡ Endless) × (n ≤ p))
new_or_past zero p = inr (refl, omega arith)
new_or_past (suc n) zero = inl refl
new_or_past (suc n) (suc p) = elim (new_or_past n p) [ inl e ↦ inl e | inr e ↦ inr (e.0, omega (arith, e.1)) ]

new_length : (n : ℕ) → length (replicate n New) ≡ n
new_length zero = refl
new_length (suc n) = ap suc (new_length n)

-- at first nothing is known
pub nothing_known : (m : Module) (marks : List SizeMark) (fields : List ℕ) (count : ℕ) → count ≡ length m.types → marks ≡ replicate count New → fields ≡ [] → IsSurvey m marks fields []
nothing_known m marks fields count is e f = subst (λ x. IsSurvey m x fields []) (sym e) (subst (λ x. IsSurvey m (replicate count New) x []) (sym f) (record {
  one_each = new_length count ∙ is;
  fits = λ p. fits_at p (new_or_past count p);
  open_in = λ p waits. absurd (open_at p waits (new_or_past count p));
  chain = λ i lower upper low up. absurd (none_open marks lower i low);
})) where
  fits_at : (p : ℕ) → (mark_at (replicate count New) p ≡ New) ⊎ ((mark_at (replicate count New) p ≡ Endless) × (count ≤ p)) → MarkFits m [] p (mark_at (replicate count New) p)
  fits_at p (inl new) = subst (MarkFits m [] p) (sym new) tt
  fits_at p (inr past) =
      let none : slice_get m.types p ≡ None = slice_get_past m.types p (omega (arith, past.1, is)) in
      subst (MarkFits m [] p) (sym past.0) (λ fs s. expected m p fs None none s)

  open_at : (p : ℕ) → mark_at (replicate count New) p ≡ Open → (mark_at (replicate count New) p ≡ New) ⊎ ((mark_at (replicate count New) p ≡ Endless) × (count ≤ p)) → ⊥
  open_at p waits (inl new) = let e : New ≡ Open = sym new ∙ waits in cc
  open_at p waits (inr past) = let e : Endless ≡ Open = sym past.0 ∙ waits in cc

-- once each type of the table was met, all are settled
pub all_met : (m : Module) (marks : List SizeMark) (fields : List ℕ) → IsSurvey m marks fields [] → ((p : ℕ) → p < length m.types → is_new (mark_at marks p) ≡ false) → IsSettled m marks fields
all_met m marks fields survey met = record { survey = survey; met = λ p. at p (lt_or_le p (length m.types)) } where
  lt_or_le : (a b : ℕ) → (a < b) ⊎ (b ≤ a)
  lt_or_le a b = grind arith

  at : (p : ℕ) → (p < length m.types) ⊎ (length m.types ≤ p) → is_new (mark_at marks p) ≡ false
  at p (inl lt) = met p lt
  at p (inr le) = let none : slice_get marks p ≡ None = slice_get_past marks p (omega (arith, le, survey.one_each)) in rw none refl
