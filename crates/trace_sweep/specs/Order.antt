-- The collector's step is one of the order, and no other step is. Its list holds only cells that may be looked at out of turn.
use Rattle.std.proofs.Common.{◌≡◌, inl, inr, ℕ, zero, suc, ◌+◌, ◌-◌, ◌^◌, ◌<◌, ◌==◌, not, nat_lt, Bool, true, false, Option, Some, None, List, [], ◌∷◌, length, refl, sym, ap, ◌∙◌, subst, IsSome, if◌then◌else◌, arith}
use Rattle.pools.specs.Heap.{Setup, cells, layout_of, kind_of, words_of_cell}
use Rattle.pools.specs.Layouts.{is_reference_kind}
use Rattle.colours.specs.declared.place.Place.{Place}
use Rattle.colours.specs.declared.place.Place.TheVariants.{Word}
use Rattle.colours.specs.declared.ask.Ask.{Ask}
use Rattle.colours.specs.declared.turn.Turn.{Turn}
use Rattle.colours.specs.declared.turn.Turn.TheVariants.{PostStage, ReadStage, MarkFound, ReadColour, ScanWord, Blacken, ClearWord, Free}
use Rattle.colours.specs.Colours.{cycle_of, grey}
use Rattle.colours.specs.Steps.{turn_of, place_of, FoundBy}
use Rattle.lemmas.specs.Numbers.{lt_true, lt_false, lt_yes, lt_no, test_yes}
use Rattle.lemmas.specs.Bools.{yes_or_no}
use Rattle.lemmas.specs.Lists.{IsIn}
use Rattle.colours.specs.Collector.{Collection, Posting, Waiting, ShadingGlobals, Passing, Scanning, Shading, Sweeping, Clearing, Pass, posted_of, Turns, wait_from, sweep_from, pass_from, has_answered, looked, without, shaded_too, is_white, reference_from, Collects}
use Rattle.collector_law.specs.Theorems.{skip_found}
use Rattle.trace_sweep.specs.Turns.{is_at_limit, turn_in, afterwards, TurnsInOrder, IsPartOf, shaded_at, kept_list, list_after, list_after_look, list_limit, pass_after_look, next_cell}
use Rattle.trace_sweep.specs.Collecting.{Collecting, plan_of, in_order, without_list, scans, posted_by, moved, NamesCells}
use Rattle.trace_sweep.specs.Collecting as machine
use Rattle.trace_sweep.specs.Stands.{StandsAfter, IsStepOn, ExtendsLogs}

-- before the limit the next cycle is within it
further : (stage : ℕ) → is_at_limit stage Posting ≡ false → cycle_of (stage + 1) < 2 ^ 60
further stage e = lt_true (cycle_of (stage + 1)) (2 ^ 60) (both (nat_lt (cycle_of (stage + 1)) (2 ^ 60)) e)
  where
    both : (b : Bool) → not b ≡ false → b ≡ true
    both true e = refl
    both false e = absurd cc

-- one number more
next_is : (n : ℕ) → n + 1 ≡ suc n
next_is n = omega arith

-- ---- a list that is a part of another

-- it is a part of a longer one too
weaker : (cs : List ℕ) (d : ℕ) (ds : List ℕ) → IsPartOf cs ds → IsPartOf cs (d ∷ ds)
weaker [] d ds part = tt
weaker (c ∷ cs) d ds part = inr part

-- it is a part without its first cell too
rest : (c : ℕ) (cs ds : List ℕ) → IsPartOf (c ∷ cs) ds → IsPartOf cs ds
rest c cs [] part = absurd part
rest c cs (d ∷ ds) (inl x) = weaker cs d ds x.1
rest c cs (d ∷ ds) (inr x) = weaker cs d ds (rest c cs ds x)

-- its first cell is in the other
among : (c : ℕ) (cs ds : List ℕ) → IsPartOf (c ∷ cs) ds → IsIn c ds
among c cs [] part = absurd part
among c cs (d ∷ ds) (inl x) = inl x.0
among c cs (d ∷ ds) (inr x) = inr (among c cs ds x)

-- without that cell it is a part of the other without one entry of it
dropped : (c : ℕ) (cs ds : List ℕ) → IsPartOf (c ∷ cs) ds → IsPartOf cs (without c ds)
dropped c cs [] part = absurd part
dropped c cs (d ∷ ds) (inl x) = rw (test_yes c d x.0) x.1
dropped c cs (d ∷ ds) (inr x) = elim (yes_or_no (c == d)) [
  | inl e ↦ rw e (rest c cs ds x)
  | inr e ↦ rw e (weaker cs d (without c ds) (dropped c cs ds x))
]

-- of an empty list nothing is kept
kept-none : (c : Collection) → IsPartOf (kept_list c []) (shaded_at c)
kept-none Posting = tt
kept-none (Waiting thread) = tt
kept-none ShadingGlobals = tt
kept-none (Passing p) = tt
kept-none (Scanning cell word p) = tt
kept-none (Shading value cell word p) = tt
kept-none (Sweeping cell) = tt
kept-none (Clearing cell word) = tt

-- ---- the step is one of the order

-- a look in a pass, at the cell in turn or at the newest of the list
look-turns : (s : Setup) (stage : ℕ) (p : Pass) (found next : ℕ) → p.next ≡ next → (listed : List ℕ) → IsPartOf listed p.shaded
    → Turns s stage (Passing p) (ReadColour (next_cell next listed) found) (looked s stage (pass_after_look p next listed) (next_cell next listed) found)
look-turns s stage p found zero e listed part = inl (sym e, refl)
look-turns s stage p found (suc next) e [] part = inl (sym e, refl)
look-turns s stage p found (suc next) e (cell ∷ listed) part =
    let past_first : 0 < suc next = omega arith in
    inr (subst (λ n. 0 < n) (sym e) past_first, among cell listed p.shaded part, refl)

-- in the grammar it leads to the place after it
pub turns-turn_in : (s : Setup) (stage : ℕ) (listed : List ℕ) (c : Collection) (found : ℕ) → is_at_limit stage c ≡ false → IsPartOf listed (shaded_at c) → Turns s stage c (turn_in s stage listed c found) (afterwards s stage listed c found)
turns-turn_in s stage listed Posting found e part = (next_is stage, further stage e, refl)
turns-turn_in s stage listed (Waiting thread) found e part = (refl, ap (λ n. if has_answered stage found then wait_from s stage n else Waiting thread) (next_is thread))
turns-turn_in s stage listed ShadingGlobals found e part = (refl, refl)
turns-turn_in s stage listed (Passing p) found e part = look-turns s stage p found p.next refl listed part
turns-turn_in s stage listed (Scanning cell word p) found e part = elim (yes_or_no (nat_lt (reference_from s cell word) (length (words_of_cell s cell)))) [
  | inl f ↦ rw f (
    refl,
    refl,
    lt_true (reference_from s cell word) (length (words_of_cell s cell)) f,
    ap (λ n. if found == 0 then Scanning cell n p else Shading found cell n p) (next_is (reference_from s cell word)),
  )
  | inr f ↦ rw f (refl, lt_false (reference_from s cell word) (length (words_of_cell s cell)) f, refl)
]
turns-turn_in s stage listed (Shading value cell word p) found e part = (refl, refl)
turns-turn_in s stage listed (Sweeping cell) found e part = (refl, ap (λ n. if is_white stage found then Clearing cell 0 else sweep_from s n) (next_is cell))
turns-turn_in s stage listed (Clearing cell word) found e part = elim (yes_or_no (nat_lt word (length (words_of_cell s cell)))) [
  | inl f ↦ rw f (refl, refl, lt_true word (length (words_of_cell s cell)) f, ap (Clearing cell) (next_is word))
  | inr f ↦ rw f (refl, lt_false word (length (words_of_cell s cell)) f, ap (sweep_from s) (next_is cell))
]

-- ---- the list after the step is a part of what may be looked at then

-- a sweep keeps no list
part-sweep : (s : Setup) (cell : ℕ) (listed : List ℕ) → IsPartOf (kept_list (sweep_from s cell) listed) (shaded_at (sweep_from s cell))
part-sweep s cell listed = elim (yes_or_no (nat_lt cell (cells s))) [ inl e ↦ rw e tt | inr e ↦ rw e tt ]

-- a pass keeps the list
part-pass : (s : Setup) (p : Pass) (listed : List ℕ) → IsPartOf listed p.shaded → IsPartOf (kept_list (pass_from s p) listed) (shaded_at (pass_from s p))
part-pass s p listed part = elim (yes_or_no (nat_lt p.next (cells s))) [
  | inl e ↦ rw e part
  | inr e ↦ rw e (elim (yes_or_no p.met_grey) [ inl m ↦ rw m part | inr m ↦ rw m (part-sweep s 1 listed) ])
]

-- so after a look
part-looked : (s : Setup) (stage : ℕ) (p : Pass) (cell found : ℕ) (listed : List ℕ) → IsPartOf listed p.shaded
    → IsPartOf (kept_list (looked s stage p cell found) listed) (shaded_at (looked s stage p cell found))
part-looked s stage p cell found listed part = elim (yes_or_no (found == grey (cycle_of stage))) [
  | inl e ↦ rw e part
  | inr e ↦ rw e (part-pass s p listed part)
]

-- a cell that was looked at out of turn leaves both lists
part-look : (p : Pass) (next : ℕ) (listed : List ℕ) → IsPartOf listed p.shaded → IsPartOf (list_after_look next listed) (pass_after_look p next listed).shaded
part-look p zero listed part = part
part-look p (suc next) [] part = tt
part-look p (suc next) (cell ∷ listed) part = dropped cell listed p.shaded part

-- a cell that was made grey is put on both, or on the longer one alone
part-shade : (stage : ℕ) (p : Pass) (value found : ℕ) (listed : List ℕ) → IsPartOf listed p.shaded
    → IsPartOf (list_after stage listed (Shading value 0 0 p) found) (shaded_too stage p value found).shaded
part-shade stage p value found listed part = elim (yes_or_no (nat_lt found (grey (cycle_of stage)))) [
  | inl e ↦ rw e (elim (yes_or_no (nat_lt (length listed) list_limit)) [
    | inl room ↦ rw room (inl (refl, part))
    | inr full ↦ rw full (weaker listed value p.shaded part)
  ])
  | inr e ↦ rw e part
]

-- after every step
pub part-after : (s : Setup) (stage : ℕ) (listed : List ℕ) (c : Collection) (found : ℕ) → IsPartOf listed (shaded_at c)
    → IsPartOf (kept_list (afterwards s stage listed c found) (list_after stage listed c found)) (shaded_at (afterwards s stage listed c found))
part-after s stage listed (Passing p) found part =
    part-looked s stage (pass_after_look p p.next listed) (next_cell p.next listed) found (list_after_look p.next listed) (part-look p p.next listed part)
part-after s stage listed (Scanning cell word p) found part = elim (yes_or_no (nat_lt (reference_from s cell word) (length (words_of_cell s cell)))) [
  | inl e ↦ rw e (elim (yes_or_no (found == 0)) [ inl z ↦ rw z part | inr n ↦ rw n part ])
  | inr e ↦ rw e (part-pass s p listed part)
]
part-after s stage listed (Shading value cell word p) found part = part-shade stage p value found listed part
part-after s stage [] Posting found part = kept-none (afterwards s stage [] Posting found)
part-after s stage [] (Waiting thread) found part = kept-none (afterwards s stage [] (Waiting thread) found)
part-after s stage [] ShadingGlobals found part = tt
part-after s stage [] (Sweeping cell) found part = kept-none (afterwards s stage [] (Sweeping cell) found)
part-after s stage [] (Clearing cell word) found part = kept-none (afterwards s stage [] (Clearing cell word) found)
part-after s stage (d ∷ ds) c found part = absurd part

-- it says what its word holds
pub found-turn_in : (s : Setup) (stage : ℕ) (listed : List ℕ) (c : Collection) (found : ℕ) → FoundBy (turn_in s stage listed c found) found
found-turn_in s stage listed Posting found = tt
found-turn_in s stage listed (Waiting thread) found = refl
found-turn_in s stage listed ShadingGlobals found = refl
found-turn_in s stage listed (Passing p) found = refl
found-turn_in s stage listed (Scanning cell word p) found = elim (yes_or_no (nat_lt (reference_from s cell word) (length (words_of_cell s cell)))) [
  | inl f ↦ rw f refl
  | inr f ↦ rw f tt
]
found-turn_in s stage listed (Shading value cell word p) found = refl
found-turn_in s stage listed (Sweeping cell) found = refl
found-turn_in s stage listed (Clearing cell word) found = elim (yes_or_no (nat_lt word (length (words_of_cell s cell)))) [
  | inl f ↦ rw f tt
  | inr f ↦ rw f tt
]

-- the operation does not depend on what its word holds
pub turn_of-turn_in : (cycle : ℕ) (s : Setup) (stage : ℕ) (listed : List ℕ) (c : Collection) (found other : ℕ) → turn_of cycle (turn_in s stage listed c found) ≡ turn_of cycle (turn_in s stage listed c other)
turn_of-turn_in cycle s stage listed Posting found other = refl
turn_of-turn_in cycle s stage listed (Waiting thread) found other = refl
turn_of-turn_in cycle s stage listed ShadingGlobals found other = refl
turn_of-turn_in cycle s stage listed (Passing p) found other = refl
turn_of-turn_in cycle s stage listed (Scanning cell word p) found other = elim (yes_or_no (nat_lt (reference_from s cell word) (length (words_of_cell s cell)))) [
  | inl f ↦ rw f refl
  | inr f ↦ rw f refl
]
turn_of-turn_in cycle s stage listed (Shading value cell word p) found other = refl
turn_of-turn_in cycle s stage listed (Sweeping cell) found other = refl
turn_of-turn_in cycle s stage listed (Clearing cell word) found other = elim (yes_or_no (nat_lt word (length (words_of_cell s cell)))) [
  | inl f ↦ rw f refl
  | inr f ↦ rw f refl
]

-- ---- and no other step is

-- a step that the list asks for and that says what its word holds is this one, and leads to the place after it
pub turn_in-only : (s : Setup) (stage : ℕ) (listed : List ℕ) (c : Collection) (turn : Turn) (d : Collection) (found : ℕ) → TurnsInOrder s stage listed c turn d → FoundBy turn found
    → (is_at_limit stage c ≡ false) × (turn ≡ turn_in s stage listed c found) × (d ≡ afterwards s stage listed c found)
turn_in-only s stage listed Posting (PostStage to) d found x f = (limit, ap PostStage is, x.2 ∙ ap (λ n. wait_from s n 0) is)
  where
    is : to ≡ stage + 1
    is = x.0 ∙ sym (next_is stage)

    limit : not (nat_lt (cycle_of (stage + 1)) (2 ^ 60)) ≡ false
    limit = ap not (lt_yes (cycle_of (stage + 1)) (2 ^ 60) (subst (λ n. cycle_of n < 2 ^ 60) is x.1))
turn_in-only s stage listed (Waiting thread) (ReadStage t m) d found x f = (
  refl,
  ap (λ u. ReadStage u m) x.0 ∙ ap (ReadStage thread) (sym f),
  x.1 ∙ ap (λ v. if has_answered stage v then wait_from s stage (suc thread) else Waiting thread) (sym f)
      ∙ ap (λ n. if has_answered stage found then wait_from s stage n else Waiting thread) (sym (next_is thread)),
)
turn_in-only s stage listed ShadingGlobals (MarkFound cell m) d found x f = (refl, ap (λ u. MarkFound u m) x.0 ∙ ap (MarkFound 0) (sym f), x.1)
turn_in-only s stage listed (Passing p) (ReadColour cell m) d found x f = (
  refl,
  ap (λ u. ReadColour u m) x.0 ∙ ap (ReadColour (next_cell p.next listed)) (sym f),
  x.1 ∙ ap (λ u. looked s stage (pass_after_look p p.next listed) u m) x.0 ∙ ap (looked s stage (pass_after_look p p.next listed) (next_cell p.next listed)) (sym f),
)
turn_in-only s stage listed (Scanning cell word p) (ScanWord c w m) d found x f =
    let here : nat_lt (reference_from s cell word) (length (words_of_cell s cell)) ≡ true = lt_yes (reference_from s cell word) (length (words_of_cell s cell)) (subst (λ n. n < length (words_of_cell s cell)) x.1 x.2) in (
      refl,
      ap (λ u. ScanWord u w m) x.0 ∙ ap (λ u. ScanWord cell u m) x.1 ∙ ap (ScanWord cell (reference_from s cell word)) (sym f) ∙ rw here refl,
      x.3 ∙ ap (λ n. if m == 0 then Scanning cell (suc n) p else Shading m cell (suc n) p) x.1 ∙ ap (λ v. if v == 0 then Scanning cell (suc (reference_from s cell word)) p else Shading v cell (suc (reference_from s cell word)) p) (sym f)
          ∙ ap (λ n. if found == 0 then Scanning cell n p else Shading found cell n p) (sym (next_is (reference_from s cell word))) ∙ rw here refl,
    )
turn_in-only s stage listed (Scanning cell word p) (Blacken c) d found x f =
    let none : nat_lt (reference_from s cell word) (length (words_of_cell s cell)) ≡ false = lt_no (reference_from s cell word) (length (words_of_cell s cell)) x.1 in
    (refl, ap Blacken x.0 ∙ rw none refl, x.2 ∙ rw none refl)
turn_in-only s stage listed (Shading value cell word p) (MarkFound c m) d found x f = (refl, ap (λ u. MarkFound u m) x.0 ∙ ap (MarkFound value) (sym f), x.1 ∙ ap (λ v. Scanning cell word (shaded_too stage p value v)) (sym f))
turn_in-only s stage listed (Sweeping cell) (ReadColour c m) d found x f = (
  refl,
  ap (λ u. ReadColour u m) x.0 ∙ ap (ReadColour cell) (sym f),
  x.1 ∙ ap (λ v. if is_white stage v then Clearing cell 0 else sweep_from s (suc cell)) (sym f)
      ∙ ap (λ n. if is_white stage found then Clearing cell 0 else sweep_from s n) (sym (next_is cell)),
)
turn_in-only s stage listed (Clearing cell word) (ClearWord c w) d found x f =
    let here : nat_lt word (length (words_of_cell s cell)) ≡ true = lt_yes word (length (words_of_cell s cell)) (subst (λ n. n < length (words_of_cell s cell)) x.1 x.2) in
    (refl, ap (λ u. ClearWord u w) x.0 ∙ ap (ClearWord cell) x.1 ∙ rw here refl, x.3 ∙ ap (Clearing cell) (sym (next_is word)) ∙ rw here refl)
turn_in-only s stage listed (Clearing cell word) (Free c) d found x f =
    let none : nat_lt word (length (words_of_cell s cell)) ≡ false = lt_no word (length (words_of_cell s cell)) x.1 in
    (refl, ap Free x.0 ∙ rw none refl, x.2 ∙ ap (sweep_from s) (sym (next_is cell)) ∙ rw none refl)
turn_in-only s stage listed _ turn d found x f = absurd x

-- ---- the list of shaded cells does not change the step

-- the limit
same_limit : (stage : ℕ) (c : Collection) → is_at_limit stage (in_order c) ≡ is_at_limit stage c
same_limit stage Posting = refl
same_limit stage (Waiting thread) = refl
same_limit stage ShadingGlobals = refl
same_limit stage (Passing p) = refl
same_limit stage (Scanning cell word p) = refl
same_limit stage (Shading value cell word p) = refl
same_limit stage (Sweeping cell) = refl
same_limit stage (Clearing cell word) = refl

-- the step
same_turn : (s : Setup) (stage : ℕ) (listed : List ℕ) (c : Collection) (found : ℕ) → turn_in s stage listed (in_order c) found ≡ turn_in s stage listed c found
same_turn s stage listed Posting found = refl
same_turn s stage listed (Waiting thread) found = refl
same_turn s stage listed ShadingGlobals found = refl
same_turn s stage listed (Passing p) found = refl
same_turn s stage listed (Scanning cell word p) found = refl
same_turn s stage listed (Shading value cell word p) found = refl
same_turn s stage listed (Sweeping cell) found = refl
same_turn s stage listed (Clearing cell word) found = refl

-- the pass after it
same_pass : (s : Setup) (p : Pass) → in_order (pass_from s (without_list p)) ≡ in_order (pass_from s p)
same_pass s p = elim (yes_or_no (nat_lt p.next (cells s))) [
  | inl e ↦ rw e refl
  | inr e ↦ rw e (elim (yes_or_no p.met_grey) [ inl m ↦ rw m refl | inr m ↦ rw m refl ])
]

-- the pass after a look
same_look : (p : Pass) (next : ℕ) (listed : List ℕ) → without_list (pass_after_look (without_list p) next listed) ≡ without_list (pass_after_look p next listed)
same_look p zero listed = refl
same_look p (suc next) [] = refl
same_look p (suc next) (cell ∷ listed) = refl

-- and where the look leads
same_looked : (s : Setup) (stage : ℕ) (p q : Pass) (cell found : ℕ) → without_list p ≡ without_list q → in_order (looked s stage p cell found) ≡ in_order (looked s stage q cell found)
same_looked s stage p q cell found e = elim (yes_or_no (found == grey (cycle_of stage))) [
  | inl f ↦ rw f (ap (λ (r : Pass). Scanning cell 0 (record { next = r.next; met_grey = true; shaded = [] })) e)
  | inr f ↦ rw f (sym (same_pass s p) ∙ ap (λ (r : Pass). in_order (pass_from s r)) e ∙ same_pass s q)
]

-- and the place after the step
same_after : (s : Setup) (stage : ℕ) (listed : List ℕ) (c : Collection) (found : ℕ) → in_order (afterwards s stage listed (in_order c) found) ≡ in_order (afterwards s stage listed c found)
same_after s stage listed Posting found = refl
same_after s stage listed (Waiting thread) found = refl
same_after s stage listed ShadingGlobals found = refl
same_after s stage listed (Passing p) found =
    same_looked s stage (pass_after_look (without_list p) p.next listed) (pass_after_look p p.next listed) (next_cell p.next listed) found (same_look p p.next listed)
same_after s stage listed (Scanning cell word p) found = elim (yes_or_no (nat_lt (reference_from s cell word) (length (words_of_cell s cell)))) [
  | inl e ↦ rw e (elim (yes_or_no (found == 0)) [ inl z ↦ rw z refl | inr n ↦ rw n refl ])
  | inr e ↦ rw e (same_pass s p)
]
same_after s stage listed (Shading value cell word p) found = elim (yes_or_no (nat_lt found (grey (cycle_of stage)))) [ inl e ↦ rw e refl | inr e ↦ rw e refl ]
same_after s stage listed (Sweeping cell) found = refl
same_after s stage listed (Clearing cell word) found = refl

-- the list after it
same_list : (stage : ℕ) (listed : List ℕ) (c : Collection) (found : ℕ) → list_after stage listed (in_order c) found ≡ list_after stage listed c found
same_list stage listed Posting found = refl
same_list stage listed (Waiting thread) found = refl
same_list stage listed ShadingGlobals found = refl
same_list stage listed (Passing p) found = refl
same_list stage listed (Scanning cell word p) found = refl
same_list stage listed (Shading value cell word p) found = refl
same_list stage listed (Sweeping cell) found = refl
same_list stage listed (Clearing cell word) found = refl

-- where it is kept
same_kept : (c : Collection) (listed : List ℕ) → kept_list (in_order c) listed ≡ kept_list c listed
same_kept Posting listed = refl
same_kept (Waiting thread) listed = refl
same_kept ShadingGlobals listed = refl
same_kept (Passing p) listed = refl
same_kept (Scanning cell word p) listed = refl
same_kept (Shading value cell word p) listed = refl
same_kept (Sweeping cell) listed = refl
same_kept (Clearing cell word) listed = refl

-- and the list that is kept
same_kept_after : (s : Setup) (stage : ℕ) (listed : List ℕ) (c : Collection) (found : ℕ)
    → kept_list (in_order (afterwards s stage listed (in_order c) found)) (list_after stage listed (in_order c) found) ≡ kept_list (afterwards s stage listed c found) (list_after stage listed c found)
same_kept_after s stage listed c found =
    ap (λ (d : Collection). kept_list d (list_after stage listed (in_order c) found)) (same_after s stage listed c found)
    ∙ same_kept (afterwards s stage listed c found) (list_after stage listed (in_order c) found)
    ∙ ap (kept_list (afterwards s stage listed c found)) (same_list stage listed c found)

-- ---- what the collector does not know of a heap does not change the order

-- the order of a plan is that of its heaps
pub turns-plan : (s : Setup) (stage : ℕ) (b : Collection) (turn : Turn) (c : Collection) → Turns (plan_of s) stage b turn c → Turns s stage b turn c
unfolding kind_of layout_of
turns-plan s stage b turn c t = t

-- ---- after the step, a collector is at the end of the longer log

-- the stage posted last is that of the longer log
posted_by-posted_of : (turn : Turn) (log : List Turn) → posted_by turn (posted_of log) ≡ posted_of (turn ∷ log)
posted_by-posted_of (PostStage to) log = refl
posted_by-posted_of (ReadStage t m) log = refl
posted_by-posted_of (MarkFound c m) log = refl
posted_by-posted_of (ReadColour c m) log = refl
posted_by-posted_of (ScanWord c w m) log = refl
posted_by-posted_of (Blacken c) log = refl
posted_by-posted_of (ClearWord c w) log = refl
posted_by-posted_of (Free c) log = refl

-- after its step a collector is at the end of the longer log, where it is seen at this place
stands_as : (s : Setup) (stage : ℕ) (listed : List ℕ) (log : List Turn) (place : Collection) (found : ℕ) → stage ≡ posted_of log → Collects s log place → IsPartOf listed (shaded_at place)
    → is_at_limit stage (in_order place) ≡ false
    → StandsAfter s (turn_in (plan_of s) stage listed (in_order place) found ∷ log) (moved (record { heap = plan_of s; posted = stage; at = in_order place; listed = listed }) found)
stands_as s stage listed log place found e col part more = record {
  heap = refl;
  posted = ap (posted_by (turn_in (plan_of s) stage listed (in_order place) found)) e ∙ posted_by-posted_of (turn_in (plan_of s) stage listed (in_order place) found) log;
  place = afterwards (plan_of s) stage listed place found;
  at = same_after (plan_of s) stage listed place found;
  listed = subst (λ (l : List ℕ). IsPartOf l (shaded_at (afterwards (plan_of s) stage listed place found))) (sym (same_kept_after (plan_of s) stage listed place found))
      (part-after (plan_of s) stage listed place found part);
  collects = (
    place,
    col,
    subst (λ n. Turns s n place (turn_in (plan_of s) stage listed (in_order place) found) (afterwards (plan_of s) stage listed place found)) e
        (turns-plan s stage place (turn_in (plan_of s) stage listed (in_order place) found) (afterwards (plan_of s) stage listed place found)
        (subst (λ (turn : Turn). Turns (plan_of s) stage place turn (afterwards (plan_of s) stage listed place found)) (sym (same_turn (plan_of s) stage listed place found))
        (turns-turn_in (plan_of s) stage listed place found (sym (same_limit stage place) ∙ more) part))),
  );
}

-- and wherever it is
pub moved-stands : (s : Setup) (log : List Turn) (c : Collecting) (found : ℕ) → StandsAfter s log c → is_at_limit c.posted c.at ≡ false → StandsAfter s (machine.turn_of c found ∷ log) (moved c found)
moved-stands s log c found h more =
    let at : c ≡ record { heap = plan_of s; posted = c.posted; at = in_order h.place; listed = c.listed } = rw (sym h.heap, sym h.at) refl in
    subst (λ (d : Collecting). StandsAfter s (machine.turn_of d found ∷ log) (moved d found)) (sym at)
    (stands_as s c.posted c.listed log h.place found h.posted h.collects h.listed (subst (λ (d : Collection). is_at_limit c.posted d ≡ false) h.at more))

-- ---- what is read next is a cell's number

-- a word that is read as a reference holds a cell's number
pub fits-next : (s : Setup) (stage : ℕ) (listed : List ℕ) (c : Collection) (word_at : Place → ℕ) → NamesCells s word_at → (found : ℕ) → found ≡ word_at (place_of (turn_of (cycle_of stage) (turn_in s stage listed c 0)))
    → scans (turn_in s stage listed c found) ≡ true → found < cells s
fits-next s stage listed (Scanning cell word p) word_at names found is e = elim (yes_or_no (nat_lt (reference_from s cell word) (length (words_of_cell s cell)))) [
  | inl f ↦
      let within : reference_from s cell word < length (words_of_cell s cell) = lt_true (reference_from s cell word) (length (words_of_cell s cell)) f in
      let ref : is_reference_kind (kind_of s cell (reference_from s cell word)) ≡ true = skip_found s cell word (length (words_of_cell s cell) - word) (omega (arith, within)) in
      let turn : turn_in s stage listed (Scanning cell word p) 0 ≡ ScanWord cell (reference_from s cell word) 0 = rw f refl in
      let same : found ≡ word_at (Word cell (reference_from s cell word)) = is ∙ ap (λ (turn : Turn). word_at (place_of (turn_of (cycle_of stage) turn))) turn in
      subst (λ n. n < cells s) (sym same) (names cell (reference_from s cell word) ref)
  | inr f ↦ let turn : turn_in s stage listed (Scanning cell word p) found ≡ Blacken cell = rw f refl in absurd (none (ap scans (sym turn) ∙ e))
]
  where
    none : false ≡ true → ⊥
    none e = cc
fits-next s stage listed (Clearing cell word) word_at names found is e = elim (yes_or_no (nat_lt word (length (words_of_cell s cell)))) [
  | inl f ↦ let turn : turn_in s stage listed (Clearing cell word) found ≡ ClearWord cell word = rw f refl in absurd (none (ap scans (sym turn) ∙ e))
  | inr f ↦ let turn : turn_in s stage listed (Clearing cell word) found ≡ Free cell = rw f refl in absurd (none (ap scans (sym turn) ∙ e))
]
  where
    none : false ≡ true → ⊥
    none e = cc
fits-next s stage listed _ word_at names found is e = absurd cc

-- ---- as the calls say it

-- where something is asked the limit is not reached
pub asked-further : (c : Collecting) → IsSome (machine.ask_of c) → is_at_limit c.posted c.at ≡ false
asked-further c asked = go (is_at_limit c.posted c.at) asked
  where
    go : (b : Bool) → IsSome (if b then None else Some (turn_of (cycle_of c.posted) (turn_in c.heap c.posted c.listed c.at 0))) → b ≡ false
    go true x = absurd cc
    go false x = refl

-- the step taken extends each log
pub took-stands : (c : Collecting) (found : ℕ) (turn : Turn) (d : Collecting) → turn ≡ machine.turn_of c found → d ≡ moved c found → IsSome (machine.ask_of c)
    → ExtendsLogs c turn d
took-stands c found turn d is to asked s log h =
    subst (λ (t : Turn). StandsAfter s (t ∷ log) d) (sym is) (subst (λ (e : Collecting). StandsAfter s (machine.turn_of c found ∷ log) e) (sym to) (moved-stands s log c found h (asked-further c asked)))

-- what is asked is the operation of the step
pub asked-some : (c : Collecting) (ask : Ask) → machine.ask_of c ≡ Some ask → (is_at_limit c.posted c.at ≡ false) × (ask ≡ turn_of (cycle_of c.posted) (turn_in c.heap c.posted c.listed c.at 0))
asked-some c ask e = go (is_at_limit c.posted c.at) e
  where
    go : (b : Bool) → (if b then None else Some (turn_of (cycle_of c.posted) (turn_in c.heap c.posted c.listed c.at 0))) ≡ Some ask → (b ≡ false) × (ask ≡ turn_of (cycle_of c.posted) (turn_in c.heap c.posted c.listed c.at 0))
    go true x = absurd cc
    go false x = (refl, cc)

-- what is found at the place of the operation may be taken
pub next-fits : (c : Collecting) (word_at : Place → ℕ) (ask : Ask) (place : Place) (found : ℕ) → NamesCells c.heap word_at → machine.ask_of c ≡ Some ask → place ≡ place_of ask → found ≡ word_at place → machine.FitsNext c found
next-fits c word_at ask place found names e at is =
    fits-next c.heap c.posted c.listed c.at word_at names found (is ∙ ap word_at (at ∙ ap place_of (asked-some c ask e).1))

-- the motion is the collector's step on the words
pub next-step : (c : Collecting) (word_at : Place → ℕ) (ask : Ask) (place : Place) (found : ℕ) (turn : Turn) (stored : Option ℕ) (d : Collecting) → machine.ask_of c ≡ Some ask → place ≡ place_of ask → found ≡ word_at place
    → turn ≡ machine.turn_of c found → stored ≡ machine.stored_by ask found → d ≡ moved c found → IsStepOn word_at c (record { turn = turn; place = place; stored = stored }) d
next-step c word_at ask place found turn stored d e at is taken put to = record {
  further = (asked-some c ask e).0;
  turn = taken ∙ ap (machine.turn_of c) is;
  place = at ∙ ap place_of same;
  stored = put ∙ ap (λ (a : Ask). machine.stored_by a found) same ∙ ap (machine.stored_by (turn_of (cycle_of c.posted) turn)) is;
  found = subst (λ (t : Turn). FoundBy t (word_at place)) (sym taken) (subst (λ m. FoundBy (machine.turn_of c found) m) is (found-turn_in c.heap c.posted c.listed c.at found));
  moves = to ∙ ap (moved c) is;
}
  where
    same : ask ≡ turn_of (cycle_of c.posted) turn
    same = (asked-some c ask e).1 ∙ turn_of-turn_in (cycle_of c.posted) c.heap c.posted c.listed c.at 0 found ∙ ap (turn_of (cycle_of c.posted)) (sym taken)
