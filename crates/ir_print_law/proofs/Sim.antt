-- What a form reads in a whole text, another form reads in the text of the function: at each step both states stay side by side, or the
-- second reading is refused for want of room in a table or for a pointer of another kind, or the first one has gone past the function.
use Rattle.std.proofs.Common.{◌≡◌, ◌≤◌, Bool, true, false, List, [], ◌∷◌, ◌⊎◌, inl, inr, length, refl, sym, ap, subst, ◌∙◌, arith}
use Rattle.grammar.specs.Grammar.{step, pure, checked, look, refuse, ◌>>=◌, ◌>>◌}
use Rattle.grammar.specs.Many.{many, Listed, Before}
use Rattle.grammar.specs.Takes.{Takes}
use Rattle.ir_tokens.specs.declared.token.Kind.{Kind}
use Rattle.ir_forms.specs.Cursor.{kind}
use Rattle.ir_forms.specs.declared.fault.Fault.{Fault}
use Rattle.ir_forms.specs.declared.input.Input.{Input}
use Rattle.ir_forms.specs.Input.{Form, left}
use Rattle.ir_forms.specs.ManyWith.{many_with, Follows, Leads}
use Rattle.ir_print_law.specs.Places.{IsExcuse}
use Rattle.ir_print_law.proofs.Seats.{Seat, Beside, Grown, grown_itself, grown_further, kind_same}

-- what is asked of two values and the states after them
abbrev pub Between : Type 0 → Type 0 → Type 1
Between A B = Input → Input → A → B → Type 0

-- nothing is asked
abbrev pub Any : {A B : Type 0} → Between A B
Any o p a b = Unit {0}

-- they are the same
abbrev pub Equal : {A : Type 0} → Between A A
Equal o p a b = a ≡ b

-- it is asked of the values at each place of two lists
abbrev pub Pointwise : {A B : Type 0} → Between A B → Between (List A) (List B)
Pointwise V o p [] [] = Unit {0}
Pointwise V o p (x ∷ xs) (y ∷ ys) = V o p x y × Pointwise V o p xs ys
Pointwise V o p _ _ = ⊥

module _ (s : Seat) where
  abbrev pub Read : {A B : Type 0} → Between A B → Form B → Input → Input → A → Input → Type 0
  Read {B = B} V h i j a o = (b : B) × (p : Input) × h.says j b p × Beside s o p × Grown i o × Grown j p × V o p a b

  abbrev pub Excused : {B : Type 0} → Form B → Input → Type 0
  Excused h j = (e : Fault) × IsExcuse e × h.stuck j e

  -- the first reading has gone past the function
  abbrev pub Past : Input → Type 0
  Past o = left o ≤ length s.tail

  -- what the first form reads from here, the second one reads from there
  pub record At {A B : Type 0} (V : Between A B) (g : Form A) (h : Form B) (i j : Input) : Type 0 where
    pub on : (a : A) (o : Input) → g.says i a o → Beside s i j → Read V h i j a o ⊎ (Excused h j ⊎ Past o)

  -- so it is wherever two states are side by side
  abbrev pub Both : {A B : Type 0} → Between A B → Form A → Form B → Type 0
  Both V g h = (i j : Input) → At V g h i j

  -- one form reads so in both
  abbrev pub Same : {A : Type 0} → Form A → Type 0
  Same g = (i j : Input) → At Any g g i j

  -- what is known of states that are side by side may be used
  pub given : {A B : Type 0} {V : Between A B} {g : Form A} {h : Form B} {i j : Input} → (Beside s i j → At V g h i j) → At V g h i j
  given on = record { on = λ a o said beside. (on beside).on a o said beside }

  -- one form, and then another, where it may be used what the second reading says
  pub then_said : {A B C D : Type 0} {V : Between A B} {W : Between C D} {g : Form A} {h : Form B} {f : A → Form C} {k : B → Form D} {i j : Input}
      → At V g h i j → ((a : A) (b : B) (m q : Input) → V m q a b → Grown i m → Grown j q → h.says j b q → At W (f a) (k b) m q) → At W (g >>= f) (h >>= k) i j
  then_said {f = f} {i = i} {j = j} first second = record {
    on = λ c o said beside. elim (first.on said.0 said.1 said.2 beside) [
      | inl r ↦ elim ((second said.0 r.0 said.1 r.1 r.6 r.4 r.5 r.2).on c o said.3 r.3) [
        | inl u ↦ inl (u.0, u.1, (r.0, r.1, r.2, u.2), u.3, grown_further i said.1 o r.4 u.4, grown_further j r.1 u.1 r.5 u.5, u.6)
        | inr bad ↦ elim bad [
          | inl x ↦ inr (inl (x.0, x.1, inr (r.0, r.1, r.2, x.2)))
          | inr over ↦ inr (inr over)
        ]
      ]
      | inr bad ↦ elim bad [
        | inl x ↦ inr (inl (x.0, x.1, inl x.2))
        | inr over ↦ inr (inr (let a = (f said.0).moves said.1 c o said.3 in omega (arith, a, over)))
      ]
    ];
  }

  -- one form, and then another
  pub then : {A B C D : Type 0} {V : Between A B} {W : Between C D} {g : Form A} {h : Form B} {f : A → Form C} {k : B → Form D} {i j : Input}
      → At V g h i j → ((a : A) (b : B) (m q : Input) → V m q a b → Grown i m → Grown j q → At W (f a) (k b) m q) → At W (g >>= f) (h >>= k) i j
  then first second = then_said first (λ a b m q v x y said. second a b m q v x y)

  -- one form, and then another that needs nothing of it
  pub past : {A B C D : Type 0} {V : Between A B} {W : Between C D} {g : Form A} {h : Form B} {f : Form C} {k : Form D} {i j : Input}
      → At V g h i j → Both W f k → At W (g >> f) (h >> k) i j
  past first second = then first (λ a b m q v x y. second m q)

  -- one form, and then another by the same value
  pub by : {A C D : Type 0} {W : Between C D} {g : Form A} {h : Form A} {f : A → Form C} {k : A → Form D} {i j : Input}
      → At Equal g h i j → ((a : A) → Both W (f a) (k a)) → At W (g >>= f) (h >>= k) i j
  by {A = A} {W = W} {f = f} {k = k} first second = then first (λ a b m q v x y. subst (λ (c : A). At W (f a) (k c) m q) v (second a m q))

  -- one form, and then whatever follows it in both
  pub and : {A B C D : Type 0} {V : Between A B} {W : Between C D} {g : Form A} {h : Form B} {f : A → Form C} {k : B → Form D} {i j : Input}
      → At V g h i j → ((a : A) (b : B) → Both W (f a) (k b)) → At W (g >>= f) (h >>= k) i j
  and first second = then first (λ a b m q v x y. second a b m q)

  pub give : {A B : Type 0} {V : Between A B} {i j : Input} (a : A) (b : B) → V i j a b → At V (pure a) (pure b) i j
  give {A = A} {V = V} {i = i} {j = j} a b v = record {
    on = λ c o said beside. inl (
      b,
      j,
      (refl, refl),
      subst (λ (x : Input). Beside s x j) said.1 beside,
      subst (Grown i) said.1 (grown_itself i),
      grown_itself j,
      subst (λ (x : Input). V x j c b) said.1 (subst (λ (x : A). V i j x b) said.0 v),
    );
  }

  -- a value of which nothing is asked
  pub gives : {A B : Type 0} (a : A) (b : B) (i j : Input) → At Any (pure a) (pure b) i j
  gives a b i j = give {V = Any} a b tt

  pub refuses : {A B : Type 0} {V : Between A B} {h : Form B} (fault : Input → Fault) (i j : Input) → At V (refuse {left = left} {A = A} fault) h i j
  refuses fault i j = record { on = λ a o said beside. absurd said }

  -- a rule that holds in the second where it holds in the first
  pub tested : (test other : Input → Bool) (fault further : Input → Fault) (i j : Input) → (Beside s i j → test i ≡ true → other j ≡ true)
      → At (Any {A = Unit {0}} {B = Unit {0}}) (checked {left = left} test fault) (checked {left = left} other further) i j
  tested test other fault further i j holds = record {
    on = λ a o said beside. inl (
      tt,
      j,
      (holds beside said.0, refl),
      subst (λ (x : Input). Beside s x j) said.1 beside,
      subst (Grown i) said.1 (grown_itself i),
      grown_itself j,
      tt,
    );
  }

  -- a rule that may fail in the second by an excuse
  pub excused : (test other : Input → Bool) (fault further : Input → Fault) (i j : Input) → IsExcuse (further j)
      → At (Any {A = Unit {0}} {B = Unit {0}}) (checked {left = left} test fault) (checked {left = left} other further) i j
  excused test other fault further i j excuse = by_test (other j) refl where
    by_test : (t : Bool) → other j ≡ t → At (Any {A = Unit {0}} {B = Unit {0}}) (checked {left = left} test fault) (checked {left = left} other further) i j
    by_test true e = tested test other fault further i j (λ beside holds. e)
    by_test false e = record { on = λ a o said beside. inr (inl (further j, excuse, (e, refl))) }

  -- a step in both
  pub stepped : {A B : Type 0} {V : Between A B} (value : Input → A) (other : Input → B) (n m : Input → Input) (falls : (i : Input) → left (n i) ≤ left i) (less : (i : Input) → left (m i) ≤ left i) (i j : Input)
      → (Beside s i j → (Beside s (n i) (m j) × Grown i (n i) × Grown j (m j) × V (n i) (m j) (value i) (other j)) ⊎ Past (n i))
      → At V (step {E = Fault} {left = left} value n falls) (step {E = Fault} {left = left} other m less) i j
  stepped {A = A} {V = V} value other n m falls less i j on = record {
    on = λ a o said beside. elim (on beside) [
      | inl r ↦ inl (
        other j,
        m j,
        (refl, refl),
        subst (λ (x : Input). Beside s x (m j)) said.1 r.0,
        subst (Grown i) said.1 r.1,
        r.2,
        subst (λ (x : Input). V x (m j) a (other j)) said.1 (subst (λ (x : A). V (n i) (m j) x (other j)) said.0 r.3),
      )
      | inr over ↦ inr (inr (subst Past said.1 over))
    ];
  }

  -- the form that the state tells, where both tell the same
  pub looks : {K A B : Type 0} {V : Between A B} (show other : Input → K) (f : K → Form A) (h : K → Form B) (i j : Input)
      → (Beside s i j → show i ≡ other j) → ((x : K) → At V (f x) (h x) i j) → At V (look show f) (look other h) i j
  looks {K = K} {V = V} show other f h i j same each = record {
    on = λ a o said beside.
        let e = same beside in
        (subst (λ (x : K). At V (f (show i)) (h x) i j) e (each (show i))).on a o said beside;
  }

  -- the same, where the form is only asked for what the second state tells
  pub looks_at : {K A B : Type 0} {V : Between A B} (show other : Input → K) (f : K → Form A) (h : K → Form B) (i j : Input)
      → (Beside s i j → show i ≡ other j) → ((x : K) → other j ≡ x → At V (f x) (h x) i j) → At V (look show f) (look other h) i j
  looks_at {K = K} {V = V} show other f h i j same each = record {
    on = λ a o said beside.
        let e = same beside in
        (subst (λ (x : K). At V (f (show i)) (h x) i j) e (each (show i) (sym e))).on a o said beside;
  }

  -- whatever both tell
  pub looks_any : {K A B : Type 0} {V : Between A B} (show other : Input → K) (f : K → Form A) (h : K → Form B) (i j : Input)
      → ((x y : K) → At V (f x) (h y) i j) → At V (look show f) (look other h) i j
  looks_any show other f h i j each = record { on = λ a o said beside. (each (show i) (other j)).on a o said beside }

  -- where it is known what both tell
  pub looks_known : {K A B : Type 0} {V : Between A B} (show other : Input → K) (f : K → Form A) (h : K → Form B) (i j : Input) (x y : K)
      → show i ≡ x → other j ≡ y → At V (f x) (h y) i j → At V (look show f) (look other h) i j
  looks_known {K = K} {V = V} show other f h i j x y is are at = record {
    on = λ a o said beside. (subst (λ (z : K). At V (f z) (h (other j)) i j) (sym is) (subst (λ (z : K). At V (f x) (h z) i j) (sym are) at)).on a o said beside;
  }

  -- more is asked of the values
  pub so : {A B : Type 0} {V W : Between A B} {g : Form A} {h : Form B} {i j : Input} → ((o p : Input) (a : A) (b : B) → V o p a b → W o p a b) → At V g h i j → At W g h i j
  so more at = record {
    on = λ a o said beside. elim (at.on a o said beside) [
      | inl r ↦ inl (r.0, r.1, r.2, r.3, r.4, r.5, more o r.1 a r.0 r.6)
      | inr bad ↦ inr bad
    ];
  }

  -- what is known of how the tables grow is kept beside what is known of the values
  pub growing : {A B : Type 0} {V : Between A B} {g : Form A} {h : Form B} {i j : Input} → At V g h i j → At (λ o p a b. Grown i o × Grown j p × V o p a b) g h i j
  growing at = record {
    on = λ a o said beside. elim (at.on a o said beside) [
      | inl r ↦ inl (r.0, r.1, r.2, r.3, r.4, r.5, (r.4, r.5, r.6))
      | inr bad ↦ inr bad
    ];
  }

  -- one form in both, and then another
  pub both : {A B : Type 0} {g : Form A} {f : Form B} → Same g → Same f → Same (g >> f)
  both first second i j = past (first i j) second

  -- the form that both tell
  pub tells : {K A : Type 0} (show : Input → K) (f : K → Form A) → ((i j : Input) → Beside s i j → show i ≡ show j) → ((x : K) → Same (f x)) → Same (look show f)
  tells show f same each i j = looks show show f f i j (same i j) (λ x. each x i j)

  -- by the kind of the next token
  pub kinds : {A B : Type 0} {V : Between A B} (f : Kind → Form A) (h : Kind → Form B) (i j : Input)
      → ((x : Kind) → At V (f x) (h x) i j) → At V (look (λ i. kind i.cursor) f) (look (λ i. kind i.cursor) h) i j
  kinds f h i j each = looks (λ i. kind i.cursor) (λ i. kind i.cursor) f h i j (λ beside. kind_same s i.cursor j.cursor beside.along) each

  pub by_kind : {A : Type 0} (f : Kind → Form A) → ((x : Kind) → Same (f x)) → Same (look (λ i. kind i.cursor) f)
  by_kind f each i j = kinds f f i j (λ x. each x i j)

  pub kinds_at : {A B : Type 0} {V : Between A B} (f : Kind → Form A) (h : Kind → Form B) (i j : Input)
      → ((x : Kind) → kind j.cursor ≡ x → At V (f x) (h x) i j) → At V (look (λ i. kind i.cursor) f) (look (λ i. kind i.cursor) h) i j
  kinds_at f h i j each = looks_at (λ i. kind i.cursor) (λ i. kind i.cursor) f h i j (λ beside. kind_same s i.cursor j.cursor beside.along) each

  -- ---- lists

  -- what is known of two values is known of them later
  abbrev pub Stays : {A B : Type 0} → Between A B → Type 0
  Stays {A = A} {B = B} V = (i j o p : Input) (a : A) (b : B) → Grown i o → Grown j p → V i j a b → V o p a b

  abbrev Listing : {A : Type 0} → Between A A → (Input → Bool) → Form A → Input → Input → List A → Input → Type 0
  Listing {A = A} V stop g i j xs o =
      ((ys : List A) × (p : Input) × Listed stop g.says j ys p × Beside s o p × Grown i o × Grown j p × Pointwise V o p xs ys)
      ⊎ (((e : Fault) × IsExcuse e × (ys : List A) × (m : Input) × Before stop g.says j ys m × (stop m ≡ false) × g.stuck m e) ⊎ Past o)

  listed : {A : Type 0} (V : Between A A) (stop : Input → Bool) (g : Form A) (takes : Takes g) → Stays V → ((i j : Input) → Beside s i j → stop i ≡ stop j) → Both V g g
      → (i : Input) (xs : List A) (o j : Input) → Listed stop g.says i xs o → Beside s i j → Listing V stop g i j xs o
  listed V stop g takes stays same each i [] o j said beside =
      inl ([], j, (sym (same i j beside) ∙ said.0, refl), subst (λ (x : Input). Beside s x j) said.1 beside, subst (Grown i) said.1 (grown_itself i), grown_itself j, tt)
  listed V stop g takes stays same each i (a ∷ xs) o j said beside =
      let goes : stop j ≡ false = sym (same i j beside) ∙ said.0 in
      elim ((each i j).on a said.1 said.2 beside) [
        | inl r ↦ elim (listed V stop g takes stays same each said.1 xs o r.1 said.3 r.3) [
          | inl u ↦ inl (r.0 ∷ u.0, u.1, (goes, r.1, r.2, u.2), u.3, grown_further i said.1 o r.4 u.4, grown_further j r.1 u.1 r.5 u.5, (stays said.1 r.1 o u.1 a r.0 u.4 u.5 r.6, u.6))
          | inr bad ↦ elim bad [
            | inl x ↦ inr (inl (x.0, x.1, r.0 ∷ x.2, x.3, (goes, r.1, r.2, x.4), x.5, x.6))
            | inr over ↦ inr (inr over)
          ]
        ]
        | inr bad ↦ elim bad [
          | inl x ↦ inr (inl (x.0, x.1, [], j, refl, goes, x.2))
          | inr over ↦ inr (inr (let less = (many stop g takes).moves said.1 xs o said.3 in omega (arith, less, over)))
        ]
      ]

  -- a list of forms, whose values are as these tell
  pub lists_of : {A : Type 0} (V : Between A A) (stop : Input → Bool) (g : Form A) (takes : Takes g) → Stays V → ((i j : Input) → Beside s i j → stop i ≡ stop j) → Both V g g
      → Both (Pointwise V) (many stop g takes) (many stop g takes)
  lists_of V stop g takes stays same each i j = record {
    on = λ xs o said beside. elim (listed V stop g takes stays same each i xs o j said beside) [
      | inl u ↦ inl (u.0, u.1, u.2, u.3, u.4, u.5, u.6)
      | inr bad ↦ elim bad [
        | inl x ↦ inr (inl (x.0, x.1, (x.2, x.3, x.4, x.5, x.6)))
        | inr over ↦ inr (inr over)
      ]
    ];
  }

  -- a list of forms
  pub lists : {A : Type 0} (stop : Input → Bool) (g : Form A) (takes : Takes g) → ((i j : Input) → Beside s i j → stop i ≡ stop j) → Same g → Same (many stop g takes)
  lists stop g takes same each i j = so {V = Pointwise Any} (λ o p a b v. tt) (lists_of Any stop g takes (λ i j o p a b x y v. tt) same each i j)

  -- What is asked of lists with an accumulator: `R` relates the accumulators of both wherever the states are side by side.
  pub record Pairs {A C : Type 0} (R : Input → Input → C → C → Type 0) (stop : C → Input → Bool) (g : C → Form A) (next : C → A → C) : Type 0 where
    pub stops : (i j : Input) (c d : C) → R i j c d → Beside s i j → stop c i ≡ stop d j
    pub goes : (i j : Input) (c d : C) → R i j c d → At (λ o p a b. R o p (next c a) (next d b)) (g c) (g d) i j

  abbrev Following : {A C : Type 0} → (C → Input → Bool) → (C → Form A) → (C → A → C) → C → Input → Input → Input → Type 0
  Following {A = A} {C = C} stop g next d i j o =
      ((ys : List A) × (p : Input) × Follows stop (λ c. (g c).says) next d j ys p × Beside s o p × Grown i o × Grown j p)
      ⊎ (((e : Fault) × IsExcuse e × (ys : List A) × (l : C) × (m : Input) × Leads stop (λ c. (g c).says) next d j ys l m × (stop l m ≡ false) × (g l).stuck m e) ⊎ Past o)

  followed : {A C : Type 0} (R : Input → Input → C → C → Type 0) (stop : C → Input → Bool) (g : C → Form A) (takes : (c : C) → Takes (g c)) (next : C → A → C) → Pairs R stop g next
      → (c d : C) (i : Input) (xs : List A) (o j : Input) → R i j c d → Follows stop (λ c. (g c).says) next c i xs o → Beside s i j → Following stop g next d i j o
  followed R stop g takes next pairs c d i [] o j r0 said beside =
      inl ([], j, (sym (pairs.stops i j c d r0 beside) ∙ said.0, refl), subst (λ (x : Input). Beside s x j) said.1 beside, subst (Grown i) said.1 (grown_itself i), grown_itself j)
  followed R stop g takes next pairs c d i (a ∷ xs) o j r0 said beside =
      let on : stop d j ≡ false = sym (pairs.stops i j c d r0 beside) ∙ said.0 in
      elim ((pairs.goes i j c d r0).on a said.1 said.2 beside) [
        | inl r ↦ elim (followed R stop g takes next pairs (next c a) (next d r.0) said.1 xs o r.1 r.6 said.3 r.3) [
          | inl u ↦ inl (r.0 ∷ u.0, u.1, (on, r.1, r.2, u.2), u.3, grown_further i said.1 o r.4 u.4, grown_further j r.1 u.1 r.5 u.5)
          | inr bad ↦ elim bad [
            | inl x ↦ inr (inl (x.0, x.1, r.0 ∷ x.2, x.3, x.4, (on, r.1, r.2, x.5), x.6, x.7))
            | inr over ↦ inr (inr over)
          ]
        ]
        | inr bad ↦ elim bad [
          | inl x ↦ inr (inl (x.0, x.1, [], d, j, (refl, refl), on, x.2))
          | inr over ↦ inr (inr (let less = (many_with stop g takes next (next c a)).moves said.1 xs o said.3 in omega (arith, less, over)))
        ]
      ]

  -- a list of forms with an accumulator
  pub lists_with : {A C : Type 0} (R : Input → Input → C → C → Type 0) (stop : C → Input → Bool) (g : C → Form A) (takes : (c : C) → Takes (g c)) (next : C → A → C) → Pairs R stop g next
      → (c d : C) (i j : Input) → R i j c d → At Any (many_with stop g takes next c) (many_with stop g takes next d) i j
  lists_with R stop g takes next pairs c d i j r0 = record {
    on = λ xs o said beside. elim (followed R stop g takes next pairs c d i xs o j r0 said beside) [
      | inl u ↦ inl (u.0, u.1, u.2, u.3, u.4, u.5, tt)
      | inr bad ↦ elim bad [
        | inl x ↦ inr (inl (x.0, x.1, (x.2, x.3, x.4, x.5, x.6, x.7)))
        | inr over ↦ inr (inr over)
      ]
    ];
  }

  -- where both begin with the same accumulator, and the values tell the same of the next one
  pub lists_by : {A C : Type 0} (stop : C → Input → Bool) (g : C → Form A) (takes : (c : C) → Takes (g c)) (next : C → A → C)
      → ((c : C) (i j : Input) → Beside s i j → stop c i ≡ stop c j) → ((c : C) → Both (λ o p a b. next c a ≡ next c b) (g c) (g c)) → (c : C) → Same (many_with stop g takes next c)
  lists_by {C = C} stop g takes next same each c i j = lists_with (λ i j c d. c ≡ d) stop g takes next pairs c c i j refl where
    pairs : Pairs (λ i j c d. c ≡ d) stop g next
    pairs = record {
      stops = λ i j c d e beside. ap (λ (x : C). stop x i) e ∙ same d i j beside;
      goes = λ i j c d e. subst (λ (x : C). At (λ o p a b. next c a ≡ next x b) (g c) (g x) i j) e (each c i j);
    }
