-- How far the rules lead in a block: one phi or one instruction more, and that no two verdicts hold of one block.
use Rattle.std.proofs.Common.{◌≡◌, ◌⊎◌, inl, inr, ℕ, zero, suc, ◌+◌, ◌<◌, List, [], ◌∷◌, ◌++◌, length, take, get_or, refl, sym, ap, ◌∙◌, subst, arith, Some, None, slice_get}
use Rattle.std.proofs.lemmas.Bool.{cases_order}
use Rattle.std.proofs.lemmas.List.{take_more, length-take-le, take-take}
use Rattle.std.specs.Prelude.{Option}
use Rattle.lemmas.specs.Lists.{get_first}
use Rattle.ir_ast.specs.declared.choices.Phi.{Phi}
use Rattle.ir_ast.specs.declared.ends.End.{End}
use Rattle.ir_ast.specs.declared.instr.Instr.{Instr}
use Rattle.facts.specs.Facts.{FactSet}
use Rattle.block_rules.specs.Rules.{after}
use Rattle.block_rules.specs.InstrContext.{phis_of, body_of, end_of}
use Rattle.block_rules.specs.Edges.{RuleContext, entry_facts_at}
use Rattle.block_rules.specs.declared.block_fault.Breach.{Breach}
use Rattle.block_rules.specs.Certified.{stands, phi_breach, breach, end_breach, PhisPass, Passes, Follows, EndPasses, phi_count, end_place, IsCertified, BreaksAt, AtPhi, InBody, AtEnd}

-- the element that is read at a place is there
pub got_at : {A : Type 0} (xs : List A) (i : ℕ) (x : A) → i < length xs → x ≡ get_or xs i x → slice_get xs i ≡ Some x
got_at [] i x lt is = absurd (omega (arith, lt))
got_at (y ∷ ys) zero x lt is = ap Some (sym is)
got_at (y ∷ ys) (suc i) x lt is = got_at ys i x (omega (arith, lt)) is

module _ (s : RuleContext) (b : ℕ) where
  -- ---- phis

  -- one phi more
  phis_more : (place at : ℕ) (phis : List Phi) (phi : Phi) → at ≡ place + length phis → PhisPass s b place phis → None ≡ phi_breach s b (stands s b at) phi → PhisPass s b place (phis ++ phi ∷ [])
  phis_more place at [] phi e h a =
      let e1 : at ≡ place = omega (arith, e) in
      (subst (λ p. phi_breach s b (stands s b p) phi ≡ None) e1 (sym a), tt)
  phis_more place at (x ∷ xs) phi e h a = (h.0, phis_more (suc place) at xs phi (omega (arith, e)) h.1 a)

  -- phis that obey the rules break none
  phi_obeys : (place at i : ℕ) (phis : List Phi) (phi : Phi) (broken : Breach) → at ≡ place + i → PhisPass s b place phis → slice_get phis i ≡ Some phi → phi_breach s b (stands s b at) phi ≡ Some broken → ⊥
  phi_obeys place at i [] phi broken e h is k = cc
  phi_obeys place at zero (x ∷ xs) phi broken e h is k =
      let e1 : at ≡ place = omega (arith, e) in
      let same : x ≡ phi = cc in
      let obeys : phi_breach s b (stands s b at) phi ≡ None = subst (λ p. phi_breach s b (stands s b p) phi ≡ None) (sym e1) (subst (λ y. phi_breach s b (stands s b place) y ≡ None) same h.0) in
      let never : None ≡ Some broken = sym obeys ∙ k in
      cc
  phi_obeys place at (suc i) (x ∷ xs) phi broken e h is k = phi_obeys (suc place) at i xs phi broken (omega (arith, e)) h.1 is k

  -- ---- the body

  -- one instruction more
  follows_more : (place at : ℕ) (facts mid : FactSet) (instrs : List Instr) (instr : Instr) (next : FactSet) → at ≡ place + length instrs → Follows s b place facts instrs mid → Passes s (stands s b at) mid instr next → Follows s b place facts (instrs ++ instr ∷ []) next
  follows_more place at facts mid [] instr next e h a =
      let e1 : at ≡ place = omega (arith, e) in
      (next, subst (λ p. Passes s (stands s b p) facts instr next) e1 (subst (λ x. Passes s (stands s b at) x instr next) h a), refl)
  follows_more place at facts mid (i ∷ instrs) instr next e h a =
      (h.0, h.1, follows_more (suc place) at h.0 mid instrs instr next (omega (arith, e)) h.2 a)

  -- the rules lead to one set of facts
  same_facts : (place : ℕ) (facts : FactSet) (instrs : List Instr) (c d : FactSet) → Follows s b place facts instrs c → Follows s b place facts instrs d → c ≡ d
  same_facts place facts [] c d h k = h ∙ sym k
  same_facts place facts (x ∷ xs) c d h k =
      let e : k.0 ≡ h.0 = k.1.facts_after ∙ sym h.1.facts_after in
      same_facts (suc place) h.0 xs c d h.2 (subst (λ y. Follows s b (suc place) y xs d) e k.2)

  -- instructions through which the rules lead break none
  obeys : (place at i : ℕ) (instrs : List Instr) (instr : Instr) (facts last before : FactSet) (broken : Breach) → at ≡ place + i → Follows s b place facts instrs last → Follows s b place facts (take i instrs) before → slice_get instrs i ≡ Some instr → breach s (stands s b at) before instr ≡ Some broken → ⊥
  obeys place at i [] instr facts last before broken e h k is r = cc
  obeys place at zero (x ∷ xs) instr facts last before broken e h k is r =
      let e1 : at ≡ place = omega (arith, e) in
      let same : x ≡ instr = cc in
      let keeps : breach s (stands s b at) before instr ≡ None =
      subst (λ p. breach s (stands s b p) before instr ≡ None) (sym e1)
      (subst (λ y. breach s (stands s b place) y instr ≡ None) (sym k) (subst (λ y. breach s (stands s b place) facts y ≡ None) same h.1.keeps)) in
      let never : None ≡ Some broken = sym keeps ∙ r in
      cc
  obeys place at (suc i) (x ∷ xs) instr facts last before broken e h k is r =
      let e1 : k.0 ≡ h.0 = k.1.facts_after ∙ sym h.1.facts_after in
      obeys (suc place) at i xs instr h.0 last before broken (omega (arith, e)) h.2 (subst (λ y. Follows s b (suc place) y (take i xs) before) e1 k.2) is r

  -- ---- a whole block

  abbrev phis : List Phi
  phis = phis_of s.function b

  abbrev body : List Instr
  body = body_of s.function b

  abbrev first : ℕ
  first = phi_count s b

  abbrev entry_facts : FactSet
  entry_facts = entry_facts_at s b

  -- the end of a block that obeys the rules breaks none
  end_obeys : (last : FactSet) (found : Option End) (x : End) (broken : Breach) → EndPasses s b (end_place s b) last found → found ≡ Some x → end_breach s b (stands s b (end_place s b)) last x ≡ Some broken → ⊥
  end_obeys last None x broken h is k = cc
  end_obeys last (Some y) x broken h is k =
      let same : y ≡ x = cc in
      let passes : end_breach s b (stands s b (end_place s b)) last x ≡ None = subst (λ z. end_breach s b (stands s b (end_place s b)) last z ≡ None) same h in
      let never : None ≡ Some broken = sym passes ∙ k in
      cc

  -- a certified block breaks no rule
  pub never_both : (place : ℕ) (broken : Breach) → IsCertified s b → BreaksAt s b place broken → ⊥
  never_both place broken h (AtPhi at phi found passes is k) = phi_obeys 0 at at phis phi found (omega arith) h.phis is k
  never_both place broken h (InBody i instr before found passes follows is k) = obeys first (first + i) i body instr entry_facts h.last before found refl h.body follows is k
  never_both place broken h (AtEnd x before found passes follows is k) =
      end_obeys before (end_of s.function b) x found (subst (λ y. EndPasses s b (end_place s b) y (end_of s.function b)) (same_facts first entry_facts body h.last before h.body follows) h.end) is k

  -- no phi is the first to break a rule after one that does
  phi_order : (i j : ℕ) (x : Phi) (r : Breach) → i < j → slice_get phis i ≡ Some x → phi_breach s b (stands s b i) x ≡ Some r → PhisPass s b 0 (take j phis) → ⊥
  phi_order i j x r lt is k passes = phi_obeys 0 i i (take j phis) x r (omega arith) passes (get_first phis i j lt ∙ is) k

  one_phi : (i j : ℕ) (x y : Phi) (r t : Breach) → PhisPass s b 0 (take i phis) → slice_get phis i ≡ Some x → phi_breach s b (stands s b i) x ≡ Some r
      → PhisPass s b 0 (take j phis) → slice_get phis j ≡ Some y → phi_breach s b (stands s b j) y ≡ Some t → (i ≡ j) × (r ≡ t)
  one_phi i j x y r t passes is k passes_too is_too k_too = pick (cases_order i j)
    where
      pick : (i ≡ j) ⊎ ((i < j) ⊎ (j < i)) → (i ≡ j) × (r ≡ t)
      pick (inl e) =
          let there : Some x ≡ Some y = sym is ∙ ap (λ n. slice_get phis n) e ∙ is_too in
          let same : x ≡ y = cc in
          let broken : Some r ≡ Some t = sym k ∙ ap (λ n. phi_breach s b (stands s b n) x) e ∙ ap (λ z. phi_breach s b (stands s b j) z) same ∙ k_too in
          (e, cc)
      pick (inr (inl lt)) = absurd (phi_order i j x r lt is k passes_too)
      pick (inr (inr lt)) = absurd (phi_order j i y t lt is_too k_too passes)

  -- no instruction is the first to break a rule after one that does
  body_order : (i j : ℕ) (x : Instr) (before last : FactSet) (r : Breach) → i < j → Follows s b first entry_facts (take i body) before → slice_get body i ≡ Some x → breach s (stands s b (first + i)) before x ≡ Some r
      → Follows s b first entry_facts (take j body) last → ⊥
  body_order i j x before last r lt follows is k further =
      let front : take i (take j body) ≡ take i body = take-take i j body (omega (arith, lt)) in
      obeys first (first + i) i (take j body) x entry_facts last before r refl further (subst (λ ys. Follows s b first entry_facts ys before) (sym front) follows) (get_first body i j lt ∙ is) k

  one_in_body : (i j : ℕ) (x y : Instr) (c d : FactSet) (r t : Breach) → Follows s b first entry_facts (take i body) c → slice_get body i ≡ Some x → breach s (stands s b (first + i)) c x ≡ Some r
      → Follows s b first entry_facts (take j body) d → slice_get body j ≡ Some y → breach s (stands s b (first + j)) d y ≡ Some t → (first + i ≡ first + j) × (r ≡ t)
  one_in_body i j x y c d r t follows is k follows_too is_too k_too = pick (cases_order i j)
    where
      pick : (i ≡ j) ⊎ ((i < j) ⊎ (j < i)) → (first + i ≡ first + j) × (r ≡ t)
      pick (inl e) =
          let there : Some x ≡ Some y = sym is ∙ ap (λ n. slice_get body n) e ∙ is_too in
          let same : x ≡ y = cc in
          let known : c ≡ d = same_facts first entry_facts (take i body) c d follows (subst (λ n. Follows s b first entry_facts (take n body) d) (sym e) follows_too) in
          let broken : Some r ≡ Some t =
          sym k ∙ ap (λ n. breach s (stands s b (first + n)) c x) e ∙ ap (λ z. breach s (stands s b (first + j)) c z) same ∙ ap (λ z. breach s (stands s b (first + j)) z y) known ∙ k_too in
          (ap (λ n. first + n) e, cc)
      pick (inr (inl lt)) = absurd (body_order i j x c d r lt follows is k follows_too)
      pick (inr (inr lt)) = absurd (body_order j i y d c t lt follows_too is_too k_too follows)

  one_end : (x y : End) (c d : FactSet) (r t : Breach) → Follows s b first entry_facts body c → end_of s.function b ≡ Some x → end_breach s b (stands s b (end_place s b)) c x ≡ Some r
      → Follows s b first entry_facts body d → end_of s.function b ≡ Some y → end_breach s b (stands s b (end_place s b)) d y ≡ Some t → r ≡ t
  one_end x y c d r t follows is k follows_too is_too k_too =
      let there : Some x ≡ Some y = sym is ∙ is_too in
      let same : x ≡ y = cc in
      let known : c ≡ d = same_facts first entry_facts body c d follows follows_too in
      let broken : Some r ≡ Some t = sym k ∙ ap (λ z. end_breach s b (stands s b (end_place s b)) c z) same ∙ ap (λ z. end_breach s b (stands s b (end_place s b)) z y) known ∙ k_too in
      cc

  -- a block breaks at one place, and in one edge
  pub one_break : (p q : ℕ) (r t : Breach) → BreaksAt s b p r → BreaksAt s b q t → (p ≡ q) × (r ≡ t)
  one_break p q r t (AtPhi i x found passes is k) (AtPhi j y other passes_too is_too k_too) = one_phi i j x y found other passes is k passes_too is_too k_too
  one_break p q r t (AtPhi i x found passes is k) (InBody j y d other all follows_too is_too k_too) = absurd (phi_obeys 0 i i phis x found (omega arith) all is k)
  one_break p q r t (AtPhi i x found passes is k) (AtEnd y d other all follows_too is_too k_too) = absurd (phi_obeys 0 i i phis x found (omega arith) all is k)
  one_break p q r t (InBody i x c found all follows is k) (AtPhi j y other passes_too is_too k_too) = absurd (phi_obeys 0 j j phis y other (omega arith) all is_too k_too)
  one_break p q r t (InBody i x c found all follows is k) (InBody j y d other all_too follows_too is_too k_too) = one_in_body i j x y c d found other follows is k follows_too is_too k_too
  one_break p q r t (InBody i x c found all follows is k) (AtEnd y d other all_too follows_too is_too k_too) = absurd (obeys first (first + i) i body x entry_facts d c found refl follows_too follows is k)
  one_break p q r t (AtEnd x c found all follows is k) (AtPhi j y other passes_too is_too k_too) = absurd (phi_obeys 0 j j phis y other (omega arith) all is_too k_too)
  one_break p q r t (AtEnd x c found all follows is k) (InBody j y d other all_too follows_too is_too k_too) = absurd (obeys first (first + j) j body y entry_facts c d other refl follows follows_too is_too k_too)
  one_break p q r t (AtEnd x c found all follows is k) (AtEnd y d other all_too follows_too is_too k_too) = (refl, one_end x y c d found other follows is k follows_too is_too k_too)

  -- ---- the steps of a walk

  -- one phi more of a list
  pub phi_here : (items : List Phi) (i : ℕ) (phi : Phi) → i < length items → phi ≡ get_or items i phi → PhisPass s b 0 (take i items) → None ≡ phi_breach s b (stands s b i) phi → PhisPass s b 0 (take (i + 1) items)
  phi_here items i phi lt is h none =
      let len : length (take i items) ≡ i = length-take-le i items (omega (arith, lt)) in
      let more : take (i + 1) items ≡ take i items ++ phi ∷ [] = take_more items i phi lt ∙ ap (λ x. take i items ++ x ∷ []) (sym is) in
      subst (λ ps. PhisPass s b 0 ps) (sym more) (phis_more 0 i (take i items) phi (omega (arith, len)) h none)

  -- a phi breaks a rule
  pub breaks_at_phi : (items : List Phi) (i : ℕ) (phi : Phi) (broken : Breach) → i < length items → phi ≡ get_or items i phi → items ≡ phis → PhisPass s b 0 (take i items) → Some broken ≡ phi_breach s b (stands s b i) phi → BreaksAt s b i broken
  breaks_at_phi items i phi broken lt is all passes found =
      AtPhi i phi broken (subst (λ ps. PhisPass s b 0 (take i ps)) all passes) (subst (λ ps. slice_get ps i ≡ Some phi) all (got_at items i phi lt is)) (sym found)

  -- one instruction more of a list
  pub step_here : (place : ℕ) (start before next : FactSet) (items : List Instr) (i : ℕ) (instr : Instr) → i < length items → instr ≡ get_or items i instr → Follows s b place start (take i items) before → None ≡ breach s (stands s b (place + i)) before instr → next ≡ after s.program s.certs s.slots before instr
      → Follows s b place start (take (i + 1) items) next
  step_here place start before next items i instr lt is h none changed =
      let len : length (take i items) ≡ i = length-take-le i items (omega (arith, lt)) in
      let k = follows_more place (place + i) start before (take i items) instr next (ap (λ n. place + n) (sym len)) h (record { keeps = sym none; facts_after = changed }) in
      let more : take (i + 1) items ≡ take i items ++ instr ∷ [] = take_more items i instr lt ∙ ap (λ x. take i items ++ x ∷ []) (sym is) in
      subst (λ xs. Follows s b place start xs next) (sym more) k

  -- an instruction of the body breaks a rule
  pub breaks_in_body : (items : List Instr) (i : ℕ) (instr : Instr) (before : FactSet) (broken : Breach) → i < length items → instr ≡ get_or items i instr → items ≡ body → PhisPass s b 0 phis → Follows s b first entry_facts (take i items) before
      → Some broken ≡ breach s (stands s b (first + i)) before instr → BreaksAt s b (first + i) broken
  breaks_in_body items i instr before broken lt is all passes follows found =
      InBody i instr before broken passes (subst (λ xs. Follows s b first entry_facts (take i xs) before) all follows) (subst (λ xs. slice_get xs i ≡ Some instr) all (got_at items i instr lt is)) (sym found)

  -- the end breaks a rule
  pub breaks_at_end : (x : End) (before : FactSet) (broken : Breach) → PhisPass s b 0 phis → Follows s b first entry_facts body before → end_of s.function b ≡ Some x → Some broken ≡ end_breach s b (stands s b (end_place s b)) before x → BreaksAt s b (end_place s b) broken
  breaks_at_end x before broken passes follows is found = AtEnd x before broken passes follows is (sym found)
