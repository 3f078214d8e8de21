-- Lists of forms of which other values are kept are lists of the forms.
use Rattle.std.proofs.Common.{◌≡◌, Bool, List, [], ◌∷◌, subst, ◌∙◌}
use Rattle.grammar.specs.Many.{Listed}
use Rattle.ir_forms.specs.ManyWith.{Follows}

module _ {S A B : Type 0} (Matches : A → B → Type 0) (Each : List A → List B → Type 0) (none : Each [] []) (one_more : (a : A) (b : B) (xs : List A) (bs : List B) → Matches a b → Each xs bs → Each (a ∷ xs) (b ∷ bs)) where
  pub listed_plain : (stop : S → Bool) (Says : S → A → S → Type 0) (Kept : S → B → S → Type 0) → ((i : S) (b : B) (o : S) → Kept i b o → (a : A) × Says i a o × Matches a b)
      → (i : S) (bs : List B) (o : S) → Listed stop Kept i bs o → (xs : List A) × Listed stop Says i xs o × Each xs bs
  listed_plain stop Says Kept plain i [] o h = ([], h, none)
  listed_plain stop Says Kept plain i (b ∷ bs) o h =
      let p = plain i b h.1 h.2 in
      let r = listed_plain stop Says Kept plain h.1 bs o h.3 in
      (p.0 ∷ r.0, (h.0, h.1, p.1, r.1), one_more p.0 b r.0 bs p.2 r.2)

  module _ {C D : Type 0} (stop : C → S → Bool) (Says : C → S → A → S → Type 0) (next : C → A → C) (halt : D → S → Bool) (Kept : D → S → B → S → Type 0) (further : D → B → D) (of : D → C) where
    pub follows_plain : ((d : D) (i : S) → stop (of d) i ≡ halt d i) → ((d : D) (a : A) (b : B) → of (further d b) ≡ next (of d) a)
        → ((d : D) (i : S) (b : B) (o : S) → Kept d i b o → (a : A) × Says (of d) i a o × Matches a b)
        → (d : D) (i : S) (bs : List B) (o : S) → Follows halt Kept further d i bs o → (xs : List A) × Follows stop Says next (of d) i xs o × Each xs bs
    follows_plain stops turns plain d i [] o h = ([], (stops d i ∙ h.0, h.1), none)
    follows_plain stops turns plain d i (b ∷ bs) o h =
        let p = plain d i b h.1 h.2 in
        let r = follows_plain stops turns plain (further d b) h.1 bs o h.3 in
        let rest : Follows stop Says next (next (of d) p.0) h.1 r.0 o = subst (λ (c : C). Follows stop Says next c h.1 r.0 o) (turns d p.0 b) r.1 in
        (p.0 ∷ r.0, (stops d i ∙ h.0, h.1, p.1, rest), one_more p.0 b r.0 bs p.2 r.2)
