-- A turn preserves what is known.
use Rattle.std.proofs.Common.{◌≡◌, ◌≢◌, ◌⊎◌, inl, inr, ◌<◌, ◌≤◌, ◌+◌, ◌-◌, ℕ, zero, suc, false, List, [], ◌∷◌, ◌++◌, length, take, drop, Some, refl, sym, ap, ◌∙◌, subst, arith, length-append, length-drop}
use Rattle.std.proofs.lemmas.Option.{slice_get_within}
use Rattle.std.proofs.lemmas.List.{take-append-le, drop-append-le, length-set}
use Rattle.std.proofs.Math.Seq.{drop-append_seam, take-length}
use Rattle.std.specs.Prelude.{slice_get, slice_set}
use Rattle.lemmas.specs.Lists.{get_some, get_front, get_end, get_either}
use Rattle.lemmas.specs.Numbers.{some_same}
use Rattle.ir_ast.specs.declared.module.Module.{Module}
use Rattle.layout.specs.Words.{Scalars}
use Rattle.layout.specs.Layouts.{IsPart, Holds, Itself, Deeper}
use Rattle.layout.specs.Survey.{mark_at, fields_at, IsWithin, MarkFits, IsReady, IsSurvey, IsAdvance, is_new, new_count}
use Rattle.layout.specs.declared.survey.SizeMark.{SizeMark}
use Rattle.layout.specs.declared.survey.SizeMark.TheVariants.{New, Open, Endless, Large, Known}
use Rattle.layout.specs.declared.survey.Span.{Span}

-- ---- marks

pub data AfterSet (marks : List SizeMark) (t : ℕ) (k : SizeMark) (p : ℕ) : Type 0 where
  Other : p ≢ t → mark_at (slice_set marks t k) p ≡ mark_at marks p → AfterSet marks t k p
  Here : p ≡ t → mark_at (slice_set marks t k) p ≡ k → AfterSet marks t k p
  Outside : p ≡ t → mark_at (slice_set marks t k) p ≡ Endless → mark_at marks p ≡ Endless → AfterSet marks t k p

next_after : (x : SizeMark) (marks : List SizeMark) (t p : ℕ) (k : SizeMark) → AfterSet marks t k p → AfterSet (x ∷ marks) (suc t) k (suc p)
next_after x marks t p k (Other ne e) = Other (λ q. ne (omega (arith, q))) e
next_after x marks t p k (Here at e) = Here (ap suc at) e
next_after x marks t p k (Outside at e d) = Outside (ap suc at) e d

pub after_set : (marks : List SizeMark) (t : ℕ) (k : SizeMark) (p : ℕ) → AfterSet marks t k p
after_set [] t k p = elim (same_or_not p t) [ inl e ↦ Outside e refl refl | inr ne ↦ Other ne refl ] where
  same_or_not : (a b : ℕ) → (a ≡ b) ⊎ (a ≢ b)
  same_or_not zero zero = inl refl
  same_or_not zero (suc b) = inr (λ e. omega (arith, e))
  same_or_not (suc a) zero = inr (λ e. omega (arith, e))
  same_or_not (suc a) (suc b) = elim (same_or_not a b) [ inl e ↦ inl (ap suc e) | inr ne ↦ inr (λ e. ne (omega (arith, e))) ]
after_set (x ∷ marks) zero k zero = Here refl refl
after_set (x ∷ marks) zero k (suc p) = Other (λ e. omega (arith, e)) refl
after_set (x ∷ marks) (suc t) k zero = Other (λ e. omega (arith, e)) refl
after_set (x ∷ marks) (suc t) k (suc p) = next_after x marks t p k (after_set marks t k p)

fewer_new : (marks : List SizeMark) (t : ℕ) (k : SizeMark) → is_new k ≡ false → new_count (slice_set marks t k) ≤ new_count marks
fewer_new [] t k e = omega arith
fewer_new (x ∷ marks) zero k e = rw e (omega arith)
fewer_new (x ∷ marks) (suc t) k e = let h = fewer_new marks t k e in omega arith

one_less_new : (marks : List SizeMark) (t : ℕ) → mark_at marks t ≡ New → suc (new_count (slice_set marks t Open)) ≡ new_count marks
one_less_new [] t e = absurd cc
one_less_new (x ∷ marks) zero e = rw e (omega arith)
one_less_new (x ∷ marks) (suc t) e = let h = one_less_new marks t e in omega arith

pub kept_at : (marks : List SizeMark) (t : ℕ) (k : SizeMark) (p : ℕ) → is_new k ≡ false → is_new (mark_at marks p) ≡ false → is_new (mark_at (slice_set marks t k) p) ≡ false
kept_at marks t k p e old = by (after_set marks t k p) where
  by : AfterSet marks t k p → is_new (mark_at (slice_set marks t k) p) ≡ false
  by (Other ne same) = ap is_new same ∙ old
  by (Here at is) = ap is_new is ∙ e
  by (Outside at is was) = ap is_new is

-- ---- fields

pub same_fields : (fields more : List ℕ) (span : Span) → IsWithin fields span → fields_at (fields ++ more) span ≡ fields_at fields span
same_fields fields more span w =
    let i = w.inside in
    let start : span.start ≤ length fields = omega arith in
    let left : span.count ≤ length (drop span.start fields) = simp length-drop (omega arith) in
    ap (take span.count) (drop-append-le span.start fields more start) ∙ take-append-le span.count (drop span.start fields) more left

pub within_more : (fields more : List ℕ) (span : Span) → IsWithin fields span → IsWithin (fields ++ more) span
within_more fields more span w = let i = w.inside in record { inside = simp length-append (omega arith); few = w.few }

pub fits_more : (m : Module) (fields more : List ℕ) (t : ℕ) (k : SizeMark) → MarkFits m fields t k → MarkFits m (fields ++ more) t k
fits_more m fields more t New h = h
fits_more m fields more t Open h = h
fits_more m fields more t Endless h = h
fits_more m fields more t Large h = h
fits_more m fields more t (Known span) h = (within_more fields more span h.0, subst (Scalars m t) (sym (same_fields fields more span h.0)) h.1)

-- new fields at the end
pub fields_afterwards : (m : Module) (fields more : List ℕ) (t n : ℕ) → length more ≡ n → n ≤ 64 → Scalars m t more → MarkFits m (fields ++ more) t (Known (record { start = length fields; count = n }))
fields_afterwards m fields more t n len few s =
    let all : take n (drop (length fields) (fields ++ more)) ≡ more = rw (drop-append_seam fields more, sym len) (take-length more) in
    (record { inside = simp length-append (omega arith); few = few }, subst (Scalars m t) (sym all) s)

-- ---- the turns

module _ (m : Module) (marks : List SizeMark) (fields s : List ℕ) (top : ℕ) (survey : IsSurvey m marks fields (s ++ top ∷ [])) where
  holds_from : (n i p : ℕ) → i + n ≡ length s → slice_get (s ++ top ∷ []) i ≡ Some p → Holds m p top
  holds_from zero i p e at =
      elim (get_either s top i p at) [
        | inl h ↦ absurd (let lt = slice_get_within s i p h in omega arith)
        | inr h ↦ subst (λ q. Holds m q top) (sym h.1) (Itself top)
      ]
  holds_from (suc n) i p e at =
      let lt : suc i < length (s ++ top ∷ []) = simp length-append (omega arith) in
      let next : (q : ℕ) × (slice_get (s ++ top ∷ []) (suc i) ≡ Some q) = get_some (s ++ top ∷ []) (suc i) lt in
      Deeper p next.0 top (survey.chain i p next.0 at next.1) (holds_from n (suc i) next.0 (omega (arith, e)) next.1)

  -- each open type holds the one on top
  pub is_ready : IsReady m marks fields top
  is_ready = record {
    fits = survey.fits;
    holds = λ p waits.
        let at : (i : ℕ) × (slice_get (s ++ top ∷ []) i ≡ Some p) = survey.open_in p waits in
        let lt : at.0 < length (s ++ top ∷ []) = slice_get_within (s ++ top ∷ []) at.0 p at.1 in
        let len : length (s ++ top ∷ []) ≡ length s + 1 = length-append s (top ∷ []) in
        holds_from (length s - at.0) at.0 p (omega arith) at.1;
  }

  -- the type on top waits for a part
  pub part_opened : (part : ℕ) → IsPart m top part → mark_at marks part ≡ New → IsAdvance m marks fields (s ++ top ∷ []) (slice_set marks part Open) fields ((s ++ top ∷ []) ++ part ∷ [])
  part_opened part ip new = record {
    survey = record {
      one_each = length-set marks part Open ∙ survey.one_each;
      fits = λ p. fits_at p (after_set marks part Open p);
      open_in = λ p waits. open_at p waits (after_set marks part Open p);
      chain = λ i lower upper low up. chain_at i lower upper (get_either (s ++ top ∷ []) part i lower low) (get_either (s ++ top ∷ []) part (suc i) upper up);
    };
    fewer = let less = one_less_new marks part new in let len = length-append (s ++ top ∷ []) (part ∷ []) in omega (arith, less, len);
    kept = λ p old. kept_at marks part Open p refl old;
  } where
    fits_at : (p : ℕ) → AfterSet marks part Open p → MarkFits m fields p (mark_at (slice_set marks part Open) p)
    fits_at p (Other ne same) = subst (MarkFits m fields p) (sym same) (survey.fits p)
    fits_at p (Here at is) = subst (MarkFits m fields p) (sym is) tt
    fits_at p (Outside at is was) = subst (MarkFits m fields p) (was ∙ sym is) (survey.fits p)

    open_at : (p : ℕ) → mark_at (slice_set marks part Open) p ≡ Open → AfterSet marks part Open p → (i : ℕ) × (slice_get ((s ++ top ∷ []) ++ part ∷ []) i ≡ Some p)
    open_at p waits (Other ne same) = let old : (i : ℕ) × (slice_get (s ++ top ∷ []) i ≡ Some p) = survey.open_in p (sym same ∙ waits) in (old.0, get_front (s ++ top ∷ []) (part ∷ []) old.0 p old.1)
    open_at p waits (Here at is) = (length (s ++ top ∷ []), subst (λ q. slice_get ((s ++ top ∷ []) ++ part ∷ []) (length (s ++ top ∷ [])) ≡ Some q) (sym at) (get_end (s ++ top ∷ []) part))
    open_at p waits (Outside at is was) = absurd (let e : Endless ≡ Open = sym is ∙ waits in cc)

    chain_at : (i lower upper : ℕ) → (slice_get (s ++ top ∷ []) i ≡ Some lower) ⊎ ((i ≡ length (s ++ top ∷ [])) × (lower ≡ part))
        → (slice_get (s ++ top ∷ []) (suc i) ≡ Some upper) ⊎ ((suc i ≡ length (s ++ top ∷ [])) × (upper ≡ part)) → IsPart m lower upper
    chain_at i lower upper (inl low) (inl up) = survey.chain i lower upper low up
    chain_at i lower upper (inl low) (inr up) =
        let len : length (s ++ top ∷ []) ≡ length s + 1 = length-append s (top ∷ []) in
        let at : i ≡ length s = omega (arith, up.0) in
        let is_top : lower ≡ top = some_same lower top (sym low ∙ ap (slice_get (s ++ top ∷ [])) at ∙ get_end s top) in
        subst (λ l. IsPart m l upper) (sym is_top) (subst (IsPart m top) (sym up.1) ip)
    chain_at i lower upper (inr low) (inl up) = absurd (let lt = slice_get_within (s ++ top ∷ []) (suc i) upper up in omega (arith, low.0, lt))
    chain_at i lower upper (inr low) (inr up) = absurd (omega (arith, low.0, up.0))

  -- the type on top is known
  pub top_known : (more : List ℕ) (k : SizeMark) → is_new k ≡ false → (k ≡ Open → ⊥) → MarkFits m (fields ++ more) top k → IsAdvance m marks fields (s ++ top ∷ []) (slice_set marks top k) (fields ++ more) s
  top_known more k old closed h = record {
    survey = record {
      one_each = length-set marks top k ∙ survey.one_each;
      fits = λ p. fits_at p (after_set marks top k p);
      open_in = λ p waits. open_at p waits (after_set marks top k p);
      chain = λ i lower upper low up. survey.chain i lower upper (get_front s (top ∷ []) i lower low) (get_front s (top ∷ []) (suc i) upper up);
    };
    fewer = let less = fewer_new marks top k old in let len = length-append s (top ∷ []) in omega (arith, less, len);
    kept = λ p was. kept_at marks top k p old was;
  } where
    fits_at : (p : ℕ) → AfterSet marks top k p → MarkFits m (fields ++ more) p (mark_at (slice_set marks top k) p)
    fits_at p (Other ne same) = subst (MarkFits m (fields ++ more) p) (sym same) (fits_more m fields more p (mark_at marks p) (survey.fits p))
    fits_at p (Here at is) = subst (MarkFits m (fields ++ more) p) (sym is) (subst (λ q. MarkFits m (fields ++ more) q k) (sym at) h)
    fits_at p (Outside at is was) = subst (MarkFits m (fields ++ more) p) (was ∙ sym is) (fits_more m fields more p (mark_at marks p) (survey.fits p))

    open_at : (p : ℕ) → mark_at (slice_set marks top k) p ≡ Open → AfterSet marks top k p → (i : ℕ) × (slice_get s i ≡ Some p)
    open_at p waits (Other ne same) =
        let was : (i : ℕ) × (slice_get (s ++ top ∷ []) i ≡ Some p) = survey.open_in p (sym same ∙ waits) in
        elim (get_either s top was.0 p was.1) [ inl e ↦ (was.0, e) | inr e ↦ absurd (ne e.1) ]
    open_at p waits (Here at is) = absurd (closed (sym is ∙ waits))
    open_at p waits (Outside at is was) = absurd (let e : Endless ≡ Open = sym is ∙ waits in cc)
