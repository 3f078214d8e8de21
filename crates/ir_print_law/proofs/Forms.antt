-- What forms preserve of the state, and what they tell of what is read.
use Rattle.std.proofs.Common.{◌≡◌, ◌≤◌, Bool, true, List, [], ◌∷◌, sym, subst}
use Rattle.std.specs.List.{AllByRecursion}
use Rattle.grammar.specs.Grammar.{pure, step, checked, ◌>>=◌, ◌>>◌}
use Rattle.grammar.specs.Many.{many, Listed}
use Rattle.grammar.specs.Takes.{Takes}
use Rattle.ir_forms.specs.ManyWith.{Follows}
use Rattle.ir_forms.specs.declared.fault.Fault.{Fault}
use Rattle.ir_forms.specs.declared.input.Input.{Input}
use Rattle.ir_forms.specs.Input.{Form, left}

-- If `Fore` holds before a form, `After` holds after it. If `Back` is known after it, it is known before it, and what was read is good.
abbrev pub Keeps : {A : Type 0} → (Fore : Input → Type 0) → (After : A → Input → Type 0) → (Back : Input → Type 0) → Form A → (Good : A → Type 0) → Input → Type 0
Keeps {A = A} Fore After Back form Good i = (a : A) (o : Input) → form.says i a o → Fore i → After a o × (Back o → Back i × Good a)

-- what holds after a form is what holds before it
abbrev pub Same : {A : Type 0} → (Input → Type 0) → A → Input → Type 0
Same Fore a o = Fore o

-- nothing is asked of what was read
abbrev pub Any : {A : Type 0} → A → Type 0
Any a = Unit {0}

module _ (Back : Input → Type 0) where
  -- one form, and then another one, of which it may be used that the first one is good
  pub follow : {A B : Type 0} (F : Input → Type 0) (G : A → Input → Type 0) (H : B → Input → Type 0) (P : A → Type 0) (Q : B → Type 0) (g : Form A) (f : A → Form B) (i : Input)
      → Keeps F G Back g P i → ((a : A) (m : Input) → Keeps (G a) H Back (f a) (λ b. P a → Q b) m) → Keeps F H Back (g >>= f) Q i
  follow F G H P Q g f i first second b o h fore =
      let x = first h.0 h.1 h.2 fore in
      let y = second h.0 h.1 b o h.3 x.0 in
      (y.0, λ k. let r = y.1 k in let l = x.1 r.0 in (l.0, r.1 l.1))

  pub give : {A : Type 0} (F : Input → Type 0) (G : A → Input → Type 0) (Q : A → Type 0) (a : A) (i : Input) → (F i → G a i) → Q a → Keeps F G Back (pure {E = Fault} {left = left} a) Q i
  give F G Q a i on good b o h fore = (
    subst (λ (x : Input). G b x) h.1 (subst (λ (x : _). G x i) h.0 (on fore)),
    λ k. (subst Back (sym h.1) k, subst Q h.0 good),
  )

  -- what is read, wrapped as another thing
  pub wrapped : {A B : Type 0} (F G : Input → Type 0) (P : A → Type 0) (Q : B → Type 0) (wrap : A → B) (g : Form A) (i : Input)
      → ((a : A) → P a → Q (wrap a)) → Keeps F (λ _. G) Back g P i → Keeps F (λ _. G) Back (g >>= λ a. pure (wrap a)) Q i
  wrapped F G P Q wrap g i good first b o h fore =
      let x = first h.0 h.1 h.2 fore in
      (subst G h.3.1 x.0, λ k. let l = x.1 (subst Back (sym h.3.1) k) in (l.0, subst Q h.3.0 (good h.0 l.1)))

  pub stepped : {A : Type 0} (F : Input → Type 0) (G : A → Input → Type 0) (Q : A → Type 0) (value : Input → A) (n : Input → Input) (falls : (i : Input) → left (n i) ≤ left i) (i : Input)
      → (F i → G (value i) (n i) × (Back (n i) → Back i × Q (value i))) → Keeps F G Back (step {E = Fault} {left = left} value n falls) Q i
  stepped F G Q value n falls i on b o h fore =
      let r = on fore in (
        subst (λ (x : Input). G b x) h.1 (subst (λ (x : _). G x (n i)) h.0 r.0),
        λ k. let l = r.1 (subst Back (sym h.1) k) in (l.0, subst Q h.0 l.1),
      )

  pub tested : (F : Input → Type 0) (test : Input → Bool) (fault : Input → Fault) (i : Input) → Keeps F (Same F) Back (checked {left = left} test fault) (λ _. test i ≡ true) i
  tested F test fault i b o h fore = (subst F h.1 fore, λ k. (subst Back (sym h.1) k, h.0))

  -- a rule, and then a form of which it may be used that the rule holds
  pub where_true : {A : Type 0} (F : Input → Type 0) (G : A → Input → Type 0) (Q : A → Type 0) (test : Input → Bool) (fault : Input → Fault) (g : Form A) (i : Input)
      → (test i ≡ true → Keeps F G Back g Q i) → Keeps F G Back (checked test fault >> g) Q i
  where_true F G Q test fault g i on b o h fore = on h.2.0 b o (subst (λ (x : Input). g.says x b o) (sym h.2.1) h.3) fore

  -- more is known before the form, and less after it
  pub so : {A : Type 0} (F K : Input → Type 0) (G H : A → Input → Type 0) (P Q : A → Type 0) (g : Form A) (i : Input)
      → (K i → F i) → ((a : A) (o : Input) → G a o → H a o) → ((a : A) → P a → Q a) → Keeps F G Back g P i → Keeps K H Back g Q i
  so F K G H P Q g i before afterwards good h a o said fore =
      let r = h a o said (before fore) in
      (afterwards a o r.0, λ k. let l = r.1 k in (l.0, good a l.1))

  -- ---- lists

  pub each : {A : Type 0} (F : Input → Type 0) (P : A → Type 0) (stop : Input → Bool) (g : Form A) → ((i : Input) → Keeps F (Same F) Back g P i)
      → (i : Input) (xs : List A) (o : Input) → Listed stop g.says i xs o → F i → F o × (Back o → Back i × AllByRecursion P xs)
  each F P stop g on i [] o h fore = (subst F h.1 fore, λ k. (subst Back (sym h.1) k, tt))
  each F P stop g on i (a ∷ xs) o h fore =
      let x = on i a h.1 h.2 fore in
      let y = each F P stop g on h.1 xs o h.3 x.0 in
      (y.0, λ k. let r = y.1 k in let l = x.1 r.0 in (l.0, (l.1, r.1)))

  pub all : {A : Type 0} (F : Input → Type 0) (P : A → Type 0) (stop : Input → Bool) (g : Form A) (takes : Takes g) → ((i : Input) → Keeps F (Same F) Back g P i)
      → (i : Input) → Keeps F (Same F) Back (many stop g takes) (AllByRecursion P) i
  all F P stop g takes on i xs o h fore = each F P stop g on i xs o h fore

  -- each one of a list is good, as what comes before it tells
  pub each_with : {A C : Type 0} (F : C → Input → Type 0) (P : C → List A → Type 0) (stop : C → Input → Bool) (g : C → Form A) (next : C → A → C)
      → ((c : C) → P c [])
      → ((c : C) (i : Input) → Keeps (F c) (λ a o. F (next c a) o) Back (g c) (λ a. (xs : List A) → P (next c a) xs → P c (a ∷ xs)) i)
      → (c : C) (i : Input) (xs : List A) (o : Input) → Follows stop (λ c. (g c).says) next c i xs o → F c i → ((d : C) × F d o) × (Back o → Back i × P c xs)
  each_with F P stop g next none on c i [] o h fore = ((c, subst (F c) h.1 fore), λ k. (subst Back (sym h.1) k, none c))
  each_with F P stop g next none on c i (a ∷ xs) o h fore =
      let x = on c i a h.1 h.2 fore in
      let y = each_with F P stop g next none on (next c a) h.1 xs o h.3 x.0 in
      (y.0, λ k. let r = y.1 k in let l = x.1 r.0 in (l.0, l.1 xs r.1))

  -- so it is where what comes before it tells nothing of it
  pub all_with : {A C : Type 0} (F : Input → Type 0) (P : A → Type 0) (stop : C → Input → Bool) (g : C → Form A) (next : C → A → C) → ((c : C) (i : Input) → Keeps F (Same F) Back (g c) P i)
      → (c : C) (i : Input) (xs : List A) (o : Input) → Follows stop (λ c. (g c).says) next c i xs o → F i → F o × (Back o → Back i × AllByRecursion P xs)
  all_with F P stop g next on c i xs o h fore =
      let x = each_with (λ _. F) (λ c. AllByRecursion P) stop g next (λ c. tt)
      (λ c j a p said fore. let y = on c j a p said fore in (y.0, λ b. let z = y.1 b in (z.0, λ xs rest. (z.1, rest)))) c i xs o h fore in
      (x.0.1, x.1)
