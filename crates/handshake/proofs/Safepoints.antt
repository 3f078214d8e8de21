-- The lists of a safepoint are those of the order of a thread's steps.
use Rattle.std.proofs.Common.{◌≡◌, ◌≢◌, ℕ, zero, suc, ◌==◌, Bool, true, false, List, [], ◌∷◌, ◌++◌, map, reverse, if◌then◌else◌, IsTrue, refl, sym, ◌∙◌, ap, append_assoc}
use Rattle.std.proofs.lemmas.List.{append-nil}
use Rattle.std.proofs.lemmas.Grind.{reverse_onto}
use Rattle.lemmas.specs.Numbers.{test_no}
use Rattle.pools.specs.Heap.{Setup}
use Rattle.colours.specs.Colours.{is_async, done}
use Rattle.colours.specs.Steps.{Step, Mark, ReadPosted, StoreStage}
use Rattle.colours.specs.Mutator.{Ready, Ended, Answering, is_between, non_null}
use Rattle.colours.specs.Calls.{marks_of_all, marks_of_roots, answer_to, Polling, Makes, AreEntries, MakesExactly, Ends, IsCall, Names, IsSafepoint}
use Rattle.colours.specs.Lists.{Silent, listed, list_made, list_entries}

-- ---- lists of roots

non_null-cons : (c : ℕ) (roots : List ℕ) → c ≢ 0 → non_null (c ∷ roots) ≡ c ∷ non_null roots
non_null-cons c roots n = rw (test_no c 0 n) refl

reverse-cons : (c : ℕ) (cs ds : List ℕ) → reverse (c ∷ cs) ++ ds ≡ reverse cs ++ (c ∷ ds)
reverse-cons c cs ds = ap (λ l. l ++ ds) (reverse_onto cs c []) ∙ append_assoc (reverse cs) (c ∷ []) ds

-- null is not marked
marks_of_non_null : (roots : List ℕ) → marks_of_all (non_null roots) ≡ marks_of_all roots
marks_of_non_null [] = refl
marks_of_non_null (zero ∷ roots) = marks_of_non_null roots
marks_of_non_null (suc c ∷ roots) = rw (non_null-cons (suc c) roots (λ e. absurd cc)) (ap (λ list. Mark (suc c) ∷ list) (marks_of_non_null roots))

silent_marks : (roots : List ℕ) (posted : ℕ) (named : List ℕ) → Silent (marks_of_all roots ++ StoreStage posted named ∷ [])
silent_marks [] posted named = (λ m. tt, tt)
silent_marks (zero ∷ roots) posted named = silent_marks roots posted named
silent_marks (suc c ∷ roots) posted named = (λ m. tt, silent_marks roots posted named)

between : (b : Bool) → is_between (if b then Ended else Ready) ≡ true
between true = refl
between false = refl

module _ (s : Setup) (stage : ℕ) (roots : List ℕ) where
  -- after the read of another stage
  module _ (posted : ℕ) where
    marks_end : is_async posted ≡ true → (more marked : List ℕ) → reverse marked ++ non_null more ≡ non_null roots
        → Ends s stage (Answering posted marked) (marks_of_all more ++ StoreStage posted roots ∷ [])
    marks_end a [] marked e = (refl, (refl, λ x. sym (append-nil _) ∙ e), between (posted == done))
    marks_end a (zero ∷ more) marked e = marks_end a more marked e
    marks_end a (suc c ∷ more) marked e =
        let same : non_null (suc c ∷ more) ≡ suc c ∷ non_null more = non_null-cons (suc c) more (λ z. absurd cc) in
        (refl, (a, λ z. absurd cc), marks_end a more (suc c ∷ marked) (reverse-cons (suc c) marked (non_null more) ∙ rw same at e))

    answer_ends : (b : Bool) → is_async posted ≡ b → Ends s stage (Answering posted []) ((if b then marks_of_all roots else []) ++ StoreStage posted roots ∷ [])
    answer_ends true a = marks_end a roots [] refl
    answer_ends false a = (refl, (refl, λ x. absurd (cc (x, a))), between (posted == done))

    -- and no other list
    record Marked (marked : List ℕ) (steps : List Step) : Type 0 where
      more : List ℕ
      are : steps ≡ marks_of_all more ++ StoreStage posted roots ∷ []
      all : IsTrue (is_async posted) → reverse marked ++ more ≡ non_null roots
      none : is_async posted ≡ false → more ≡ []

    only : (steps : List Step) (marked : List ℕ) → Ends s stage (Answering posted marked) steps → Names roots steps → Marked marked steps
    only [] marked h n = absurd (cc (h))
    only (Mark zero ∷ steps) marked h n = absurd (h.1.1 refl)
    only (Mark (suc c) ∷ steps) marked h n =
        let r = only steps (suc c ∷ marked) h.2 n in
        record {
          more = suc c ∷ r.more;
          are = ap (λ list. Mark (suc c) ∷ list) r.are;
          all = λ a. sym (reverse-cons (suc c) marked r.more) ∙ r.all a;
          none = λ f. absurd (cc (f, h.1.0));
        }
    only (StoreStage to named ∷ []) marked h n = record {
      more = [];
      are = cc (h.1.0, n);
      all = λ a. append-nil _ ∙ h.1.1 a ∙ ap non_null n;
      none = λ f. refl;
    }
    only (StoreStage to named ∷ y ∷ ys) marked h n = absurd (let b = between (to == done) in cc (h.2.0, b))
    only (_ ∷ steps) marked h n = absurd h.1

    only_answer : (steps : List Step) → Ends s stage (Answering posted []) steps → Names roots steps → (b : Bool) → is_async posted ≡ b
        → steps ≡ (if b then marks_of_all roots else []) ++ StoreStage posted roots ∷ []
    only_answer steps h n true a =
        let r = only steps [] h n in
        let list : marks_of_all r.more ≡ marks_of_all roots = ap marks_of_all (r.all a) ∙ marks_of_non_null roots in
        r.are ∙ ap (λ l. l ++ StoreStage posted roots ∷ []) list
    only_answer steps h n false a = let r = only steps [] h n in r.are ∙ rw (r.none a) refl

    names : (list : List ℕ) → Names roots (marks_of_all list ++ StoreStage posted roots ∷ [])
    names [] = refl
    names (zero ∷ list) = names list
    names (suc c ∷ list) = names list

    -- the whole answer, where the stage is the own one or another
    is_call : (b c : Bool) → (posted == stage) ≡ b → is_async posted ≡ c
        → Ends s stage (if b then Ready else Answering posted []) (if b then [] else ((if c then marks_of_all roots else []) ++ StoreStage posted roots ∷ []))
        × Names roots (if b then [] else ((if c then marks_of_all roots else []) ++ StoreStage posted roots ∷ []))
        × Silent (if b then [] else ((if c then marks_of_all roots else []) ++ StoreStage posted roots ∷ []))
    is_call true c e a = (refl, tt, tt)
    is_call false true e a = (answer_ends true a, names roots, silent_marks roots posted roots)
    is_call false false e a = (answer_ends false a, refl, (λ m. tt, tt))

    call_is : (b : Bool) → (posted == stage) ≡ b → (steps : List Step) → Ends s stage (if b then Ready else Answering posted []) steps → Names roots steps
        → steps ≡ (if b then [] else (marks_of_roots posted roots ++ StoreStage posted roots ∷ []))
    call_is true e [] h n = refl
    call_is true e (step ∷ steps) h n = absurd (cc (h.0))
    call_is false e steps h n = only_answer steps h n (is_async posted) refl

  only_made : (thread : ℕ) (found : List ℕ) (steps : List Step) → Makes thread stage (Polling roots) found steps → IsSafepoint s stage roots steps
  only_made thread [] [] h = absurd (cc (h))
  only_made thread [] (step ∷ steps) h = absurd h
  only_made thread (posted ∷ found) [] h = absurd h
  only_made thread (posted ∷ found) (step ∷ steps) h =
      let e : steps ≡ answer_to stage posted roots = listed thread stage _ found steps h.2 in
      let r = is_call posted (posted == stage) (is_async posted) refl refl in
      rw (h.1, e) (((posted, refl), (tt, r.0)), r.1)

  entries : (thread : ℕ) (found : List ℕ) (steps : List Step) → Makes thread stage (Polling roots) found steps → AreEntries thread stage (Polling roots) found steps
  entries thread [] steps h = tt
  entries thread (posted ∷ found) [] h = absurd h
  entries thread (posted ∷ found) (step ∷ steps) h =
      rw (h.1) (refl, refl, list_entries thread stage _ (is_call posted (posted == stage) (is_async posted) refl refl).2 found steps h.2)

  each : (thread : ℕ) (steps : List Step) → IsSafepoint s stage roots steps → (found : List ℕ) × Makes thread stage (Polling roots) found steps
  each thread [] h = absurd h.0
  each thread (step ∷ steps) (((posted, e), call), named) =
      let c : IsCall s stage (ReadPosted posted) steps = rw e at call in
      let n : Names roots (ReadPosted posted ∷ steps) = rw e at named in
      let same : steps ≡ answer_to stage posted roots = call_is posted (posted == stage) refl steps c.1 n in
      (posted ∷ map (λ (x : Step). 0) (answer_to stage posted roots), (λ x. absurd cc, e, rw same (list_made thread stage (answer_to stage posted roots))))

  pub safepoint_exact : (thread : ℕ) → MakesExactly thread stage (Polling roots) (IsSafepoint s stage roots)
  safepoint_exact thread = record { only = only_made thread; entries = entries thread; each = each thread }
