-- The spots after a step are those that stand for the places to which the longer log leads.
use Rattle.std.proofs.Common.{◌≡◌, ◌≢◌, ◌⊎◌, inl, inr, ℕ, zero, suc, ◌+◌, ◌^◌, ◌<◌, ◌≤◌, ◌==◌, ◌&&◌, ◌%◌, nat_lt, Bool, true, false, Option, Some, None, List, [], ◌∷◌, ◌++◌, length, get_or, refl, sym, ap, ◌∙◌, subst, if◌then◌else◌, arith, IsTrue, append_assoc, append-nil, take, add-one}
use Rattle.std.proofs.lemmas.List.{get_or-set_same, get_or-set_other}
use Rattle.std.proofs.Math.ListN.{length-set}
use Rattle.std.proofs.Math.Seq.{take-suc}
use Rattle.std.specs.Prelude.{replicate, slice_set, slice_index}
use Rattle.lemmas.specs.Numbers.{test_true, test_false, test_yes, test_no, lt_true, lt_false, lt_yes, lt_no}
use Rattle.lemmas.specs.Bools.{yes_or_no, and_parts, and_true}
use Rattle.std.specs.Prelude.{◌↔◌}
use Rattle.lemmas.specs.Lists.{IsIn, in_first, in_second, in_either, length_replicate}
use Rattle.pools.specs.Heap.{Setup, cells, words_of_cell}
use Rattle.colours.specs.declared.turn.Turn.{Turn}
use Rattle.colours.specs.declared.turn.Turn.TheVariants.{PostStage, ReadStage, MarkFound, ReadColour, ScanWord, Blacken, ClearWord, Free}
use Rattle.colours.specs.Colours.{cycle_of, grey}
use Rattle.colours.specs.Collector as order
use Rattle.colours.specs.Collector.{Collection, posted_of, Turns, Collects, has_answered, is_white}
use Rattle.collector_places.specs.declared.spot.Pass.{Pass}
use Rattle.collector_places.specs.declared.spot.Spot.{Spot}
use Rattle.collector_places.specs.declared.spot.Spot.TheVariants.{Posting, Waiting, ShadingGlobals, Passing, Scanning, Shading, Sweeping, Clearing}
use Rattle.collector_places.specs.Counts.{looks_at, shades_of, is_below_grey}
use Rattle.collector_places.specs.Spots.{IsAt, IsSame, IsBehind, IsPlaced, cell_of, next_of, rounds_of, thread_of}
use Rattle.collector_places.specs.Nexts.{after_turn, after_look, listed, spots_from, spots_after, cell_looked, only_if, is_shaded, is_needed, looked, pass_from, sweep_from, wait_from, after_wait, in_turn, with_grey, first_pass}
use Rattle.collector_places.specs.Places.{Places, AreOf, Stands, NamesCell}
use Rattle.collector_places.specs.Counted.{counted, with_one_more, looks_counted, shades_counted, posted_by}
use Rattle.collector_places.proofs.PassLemmas.{same_near, behind_near}
use Rattle.collector_places.proofs.Moves.{IsLook, passed, follows, reaches, Follows, Reaches}
use Rattle.collector_places.proofs.Looks.{looks_in, looks_out, looks_behind}

-- ---- the list of spots

abbrev Leads : Setup → (stage looks shades : ℕ) → Turn → Spot → Spot → Type 0
Leads s stage looks shades turn spot next = (after_turn s stage spot turn ≡ Some next) ⊎ (after_look s stage looks shades spot turn ≡ Some next)

in_listed : (o : Option Spot) (next : Spot) → IsIn next (listed o) → o ≡ Some next
in_listed None next is = absurd is
in_listed (Some x) next (inl e) = ap Some (sym e)
in_listed (Some x) next (inr none) = absurd none

listed_in : (o : Option Spot) (next : Spot) → o ≡ Some next → IsIn next (listed o)
listed_in o next e = rw e (inl refl)

in_spots : (s : Setup) (stage looks shades : ℕ) (turn : Turn) (next : Spot) (spots : List Spot) → IsIn next (spots_after s stage looks shades turn spots)
    → (spot : Spot) × IsIn spot spots × Leads s stage looks shades turn spot next
in_spots s stage looks shades turn next [] is = absurd is
in_spots s stage looks shades turn next (spot ∷ spots) is = elim (in_either next (spots_from s stage looks shades turn spot) (spots_after s stage looks shades turn spots) is) [
  | inl here ↦ elim (in_either next (listed (after_turn s stage spot turn)) (listed (after_look s stage looks shades spot turn)) here) [
    | inl a ↦ (spot, inl refl, inl (in_listed (after_turn s stage spot turn) next a))
    | inr b ↦ (spot, inl refl, inr (in_listed (after_look s stage looks shades spot turn) next b))
  ]
  | inr later ↦ let k = in_spots s stage looks shades turn next spots later in (k.0, inr k.1, k.2)
]

spots_in : (s : Setup) (stage looks shades : ℕ) (turn : Turn) (spot next : Spot) (spots : List Spot) → IsIn spot spots → Leads s stage looks shades turn spot next
    → IsIn next (spots_after s stage looks shades turn spots)
spots_in s stage looks shades turn spot next [] is leads = absurd is
spots_in s stage looks shades turn spot next (x ∷ spots) (inl e) leads = in_first next (spots_from s stage looks shades turn x) (spots_after s stage looks shades turn spots) (subst (λ y. IsIn next (spots_from s stage looks shades turn y)) e (elim leads [
  | inl a ↦ in_first next (listed (after_turn s stage spot turn)) (listed (after_look s stage looks shades spot turn)) (listed_in (after_turn s stage spot turn) next a)
  | inr b ↦ in_second next (listed (after_turn s stage spot turn)) (listed (after_look s stage looks shades spot turn)) (listed_in (after_look s stage looks shades spot turn) next b)
]))
spots_in s stage looks shades turn spot next (x ∷ spots) (inr later) leads = in_second next (spots_from s stage looks shades turn x) (spots_after s stage looks shades turn spots) (spots_in s stage looks shades turn spot next spots later leads)

-- one spot more
pub spots_more : (s : Setup) (stage looks shades : ℕ) (turn : Turn) (spots : List Spot) (spot : Spot) → spots_after s stage looks shades turn (spots ++ spot ∷ []) ≡ spots_after s stage looks shades turn spots ++ spots_from s stage looks shades turn spot
spots_more s stage looks shades turn [] spot = append-nil (spots_from s stage looks shades turn spot)
spots_more s stage looks shades turn (x ∷ spots) spot = ap (λ l. spots_from s stage looks shades turn x ++ l) (spots_more s stage looks shades turn spots spot) ∙ sym (append_assoc (spots_from s stage looks shades turn x) (spots_after s stage looks shades turn spots) (spots_from s stage looks shades turn spot))

-- and one more of those that a loop goes over
pub spots_next : (s : Setup) (stage looks shades : ℕ) (turn : Turn) (items : List Spot) (i : ℕ) (d : Spot) (old new : List Spot) → i < length items
    → old ≡ spots_after s stage looks shades turn (take i items) → new ≡ old ++ spots_from s stage looks shades turn (get_or items i d) → new ≡ spots_after s stage looks shades turn (take (i + 1) items)
spots_next s stage looks shades turn items i d old new lt e f = f ∙ (ap (λ l. l ++ spots_from s stage looks shades turn (get_or items i d)) e
    ∙ (sym (spots_more s stage looks shades turn (take i items) (get_or items i d)) ∙ ap (spots_after s stage looks shades turn) (let k : take (suc i) items ≡ take i items ++ (get_or items i d ∷ []) = take-suc items i d lt in rw add-one (sym k))))

pub got_in : (xs : List Spot) (i : ℕ) (d : Spot) → i < length xs → IsIn (get_or xs i d) xs
got_in [] i d lt = absurd (omega arith)
got_in (x ∷ xs) zero d lt = inl refl
got_in (x ∷ xs) (suc i) d lt = inr (got_in xs i d (omega arith))

-- ---- the numbers of the tables are those of the log

look_told : (s : Setup) (log : List Turn) (v : Places) → AreOf s log v → (spot : Spot) (turn : Turn)
    → after_look s (posted_of log) (slice_index v.looks (cell_looked turn)) (slice_index v.shades (cell_looked turn)) spot turn
    ≡ after_look s (posted_of log) (looks_at log (cell_looked turn)) (shades_of log (cell_looked turn)) spot turn
look_told s log v are (Passing p) (ReadColour cell colour) = elim (yes_or_no (nat_lt cell (cells s))) [
  | inl e ↦ let lt = lt_true cell (cells s) e in rw (are.looks cell lt, are.shades cell lt) refl
  | inr e ↦ rw e refl
]
look_told s log v are _ turn = refl

leads_told : (s : Setup) (log : List Turn) (v : Places) → AreOf s log v → (spot next : Spot) (turn : Turn)
    → Leads s (posted_of log) (slice_index v.looks (cell_looked turn)) (slice_index v.shades (cell_looked turn)) turn spot next
    → Leads s (posted_of log) (looks_at log (cell_looked turn)) (shades_of log (cell_looked turn)) turn spot next
leads_told s log v are spot next turn (inl a) = inl a
leads_told s log v are spot next turn (inr b) = inr (sym (look_told s log v are spot turn) ∙ b)

told_leads : (s : Setup) (log : List Turn) (v : Places) → AreOf s log v → (spot next : Spot) (turn : Turn)
    → Leads s (posted_of log) (looks_at log (cell_looked turn)) (shades_of log (cell_looked turn)) turn spot next
    → Leads s (posted_of log) (slice_index v.looks (cell_looked turn)) (slice_index v.shades (cell_looked turn)) turn spot next
told_leads s log v are spot next turn (inl a) = inl a
told_leads s log v are spot next turn (inr b) = inr (look_told s log v are spot turn ∙ b)

-- ---- from the code to the order, and back

leads_follow : (s : Setup) (log : List Turn) (spot next : Spot) (turn : Turn) (c : Collection) → NamesCell s turn
    → Leads s (posted_of log) (looks_at log (cell_looked turn)) (shades_of log (cell_looked turn)) turn spot next → IsAt IsSame s log spot c → Follows IsSame s log c turn next
leads_follow s log (Passing p) next (ReadColour cell colour) c n (inl a) at = looks_in s log p cell colour next c a at
leads_follow s log (Passing p) next (ReadColour cell colour) c n (inr b) at = looks_out s log p cell colour next c b at
leads_follow s log (Passing p) next turn c n (inl a) at = absurd cc
leads_follow s log (Passing p) next turn c n (inr b) at = absurd cc
leads_follow s log spot next turn c n (inl a) at = follows IsSame same_near s log spot turn next c (λ x. x) n a at
leads_follow s log spot next turn c n (inr b) at = absurd cc

abbrev Led : Setup → List Turn → Spot → Turn → Collection → Type 0
Led s log spot turn d = (next : Spot) × Leads s (posted_of log) (looks_at log (cell_looked turn)) (shades_of log (cell_looked turn)) turn spot next × IsAt IsBehind s (turn ∷ log) next d

order_leads : (s : Setup) (log : List Turn) (spot : Spot) (turn : Turn) (c d : Collection) → NamesCell s turn → IsAt IsBehind s log spot c → Turns s (posted_of log) c turn d → Led s log spot turn d
order_leads s log (Passing p) (ReadColour cell colour) c d n at t = elim (looks_behind s log p cell colour c d at t) [
  | inl a ↦ (a.0, inl a.1, a.2)
  | inr b ↦ (b.0, inr b.1, b.2)
]
order_leads s log (Passing p) turn c d n at t = let a = reaches IsBehind behind_near s log (Passing p) turn c d (λ x. x) n at t in (a.0, inl a.1, a.2)
order_leads s log spot turn c d n at t = let a = reaches IsBehind behind_near s log spot turn c d (λ x. x) n at t in (a.0, inl a.1, a.2)

-- ---- the spots have the numbers of the heap

-- a spot under way in no cell
bare : (s : Setup) (n : ℕ) (spot : Spot) → cell_of spot ≡ 0 → next_of spot ≡ 0 → rounds_of spot ≡ 0 → thread_of spot ≤ s.threads → IsPlaced s n spot
bare s n spot a b c d = record { cell = omega arith; next = omega arith; rounds = omega arith; thread = d }

sweep_placed : (s : Setup) (n cell : ℕ) → IsPlaced s n (sweep_from s cell)
sweep_placed s n cell = elim (yes_or_no (nat_lt cell (cells s))) [
  | inl e ↦ let k = lt_true cell (cells s) e in rw e (record { cell = k; next = omega arith; rounds = omega arith; thread = omega arith })
  | inr e ↦ rw e (bare s n Posting refl refl refl (omega arith))
]

pass_placed : (s : Setup) (n : ℕ) (p : Pass) → p.rounds ≤ n → IsPlaced s (n + 1) (pass_from s p)
pass_placed s n p r = elim (yes_or_no (nat_lt p.next (cells s))) [
  | inl e ↦ let k = lt_true p.next (cells s) e in rw e (record { cell = k; next = omega (arith, k); rounds = omega (arith, r); thread = omega arith })
  | inr e ↦ rw e (elim (yes_or_no p.met_grey) [
    | inl m ↦ rw m (record { cell = omega arith; next = omega arith; rounds = omega (arith, r); thread = omega arith })
    | inr m ↦ rw m (sweep_placed s (n + 1) 1)
  ])
]

looked_placed : (s : Setup) (n stage : ℕ) (p : Pass) (cell colour : ℕ) → p.rounds ≤ n → p.next ≤ cells s → cell < cells s → IsPlaced s (n + 1) (looked s stage p cell colour)
looked_placed s n stage p cell colour r h lt = elim (yes_or_no (colour == grey (cycle_of stage))) [
  | inl e ↦ rw e (record { cell = lt; next = h; rounds = omega (arith, r); thread = omega arith })
  | inr e ↦ rw e (pass_placed s n p r)
]

wait_placed : (s : Setup) (n stage thread : ℕ) → IsPlaced s n (wait_from s stage thread)
wait_placed s n stage thread = elim (yes_or_no (nat_lt thread s.threads)) [
  | inl e ↦ let k = lt_true thread s.threads e in rw e (record { cell = omega arith; next = omega arith; rounds = omega arith; thread = k })
  | inr e ↦ rw e (elim (yes_or_no (stage % 3 == 1)) [
    | inl f ↦ rw f (bare s n Posting refl refl refl (omega arith))
    | inr f ↦ rw f (elim (yes_or_no (stage % 3 == 2)) [
      | inl g ↦ rw g (bare s n ShadingGlobals refl refl refl (omega arith))
      | inr g ↦ rw g (bare s n (Passing first_pass) refl refl refl (omega arith))
    ])
  ])
]

-- the spot that a test let through
let_through : (s : Setup) (n : ℕ) (b : Bool) (spot next : Spot) → only_if b spot ≡ Some next → (b ≡ true → IsPlaced s n spot) → IsPlaced s n next
let_through s n b spot next e f = let p = passed b spot next e in subst (IsPlaced s n) p.1 (f p.0)

turn_placed : (s : Setup) (n stage : ℕ) (spot next : Spot) (turn : Turn) → IsPlaced s n spot → after_turn s stage spot turn ≡ Some next → IsPlaced s (n + 1) next
turn_placed s n stage Posting next (PostStage to) p e = let_through s (n + 1) _ _ next e (λ t. wait_placed s (n + 1) to 0)
turn_placed s n stage Posting next _ p e = absurd cc
turn_placed s n stage (Waiting thread) next (ReadStage t found) p e = let_through s (n + 1) _ _ next e (λ x. elim (yes_or_no (has_answered stage found)) [
  | inl f ↦ rw f (wait_placed s (n + 1) stage (suc thread))
  | inr f ↦ rw f (record { cell = p.cell; next = p.next; rounds = omega arith; thread = p.thread })
])
turn_placed s n stage (Waiting thread) next _ p e = absurd cc
turn_placed s n stage ShadingGlobals next (MarkFound cell colour) p e = let_through s (n + 1) _ _ next e (λ t. bare s (n + 1) Posting refl refl refl (omega arith))
turn_placed s n stage ShadingGlobals next _ p e = absurd cc
turn_placed s n stage (Passing x) next (ReadColour cell colour) p e = let_through s (n + 1) _ _ next e (λ t. let same : cell ≡ x.next = test_true _ _ t in let lt = p.cell in looked_placed s n stage (in_turn x) cell colour p.rounds (omega (arith, lt)) (omega (arith, lt, same)))
turn_placed s n stage (Passing x) next _ p e = absurd cc
turn_placed s n stage (Scanning cell word x) next (ScanWord d w value) p e = let_through s (n + 1) _ _ next e (λ t. elim (yes_or_no (value == 0)) [
  | inl f ↦ let r = p.rounds in rw f (record { cell = p.cell; next = p.next; rounds = omega (arith, r); thread = omega arith })
  | inr f ↦ let r = p.rounds in rw f (record { cell = p.cell; next = p.next; rounds = omega (arith, r); thread = omega arith })
])
turn_placed s n stage (Scanning cell word x) next (Blacken d) p e = let_through s (n + 1) _ _ next e (λ t. pass_placed s n x p.rounds)
turn_placed s n stage (Scanning cell word x) next _ p e = absurd cc
turn_placed s n stage (Shading value cell word x) next (MarkFound d colour) p e = let r = p.rounds in let_through s (n + 1) _ _ next e (λ t. record { cell = p.cell; next = p.next; rounds = omega (arith, r); thread = omega arith })
turn_placed s n stage (Shading value cell word x) next _ p e = absurd cc
turn_placed s n stage (Sweeping cell) next (ReadColour d colour) p e = let_through s (n + 1) _ _ next e (λ t. elim (yes_or_no (is_white stage colour)) [
  | inl f ↦ rw f (record { cell = p.cell; next = omega arith; rounds = omega arith; thread = omega arith })
  | inr f ↦ rw f (sweep_placed s (n + 1) (suc cell))
])
turn_placed s n stage (Sweeping cell) next _ p e = absurd cc
turn_placed s n stage (Clearing cell word) next (ClearWord d w) p e = let_through s (n + 1) _ _ next e (λ t. record { cell = p.cell; next = omega arith; rounds = omega arith; thread = omega arith })
turn_placed s n stage (Clearing cell word) next (Free d) p e = let_through s (n + 1) _ _ next e (λ t. sweep_placed s (n + 1) (suc cell))
turn_placed s n stage (Clearing cell word) next _ p e = absurd cc

look_placed : (s : Setup) (n stage looks shades : ℕ) (spot next : Spot) (turn : Turn) → IsPlaced s n spot → after_look s stage looks shades spot turn ≡ Some next → IsPlaced s (n + 1) next
look_placed s n stage looks shades (Passing x) next (ReadColour cell colour) p e =
    let_through s (n + 1) (nat_lt 0 x.next && ((nat_lt cell (cells s) && is_shaded looks shades x cell) && is_needed s x cell)) (looked s stage x cell colour) next e (λ t.
    let a = and_parts (nat_lt 0 x.next) _ t in let b = and_parts (nat_lt cell (cells s) && is_shaded looks shades x cell) _ a.1 in let d = and_parts (nat_lt cell (cells s)) _ b.0 in
    looked_placed s n stage x cell colour p.rounds p.next (lt_true _ _ d.0))
look_placed s n stage looks shades spot next turn p e = absurd cc

leads_placed : (s : Setup) (n stage looks shades : ℕ) (spot next : Spot) (turn : Turn) → IsPlaced s n spot → Leads s stage looks shades turn spot next → IsPlaced s (n + 1) next
leads_placed s n stage looks shades spot next turn p (inl a) = turn_placed s n stage spot next turn p a
leads_placed s n stage looks shades spot next turn p (inr b) = look_placed s n stage looks shades spot next turn p b

-- ---- the spots of the places after a step

-- as the code finds them
abbrev pub spots_of : Places → Turn → List Spot
spots_of v turn = spots_after v.heap v.posted (slice_index v.looks (cell_looked turn)) (slice_index v.shades (cell_looked turn)) turn v.spots

as_log : (s : Setup) (log : List Turn) (v : Places) (turn : Turn) → AreOf s log v
    → spots_of v turn ≡ spots_after s (posted_of log) (slice_index v.looks (cell_looked turn)) (slice_index v.shades (cell_looked turn)) turn v.spots
as_log s log v turn are = rw (are.heap, are.posted) refl

pub each_after : (s : Setup) (log : List Turn) (v : Places) (turn : Turn) → Stands s log v → NamesCell s turn → (next : Spot) → IsIn next (spots_of v turn)
    → (d : Collection) × Collects s (turn ∷ log) d × IsAt IsSame s (turn ∷ log) next d
each_after s log v turn st n next is =
    let k = in_spots s (posted_of log) _ _ turn next v.spots (subst (IsIn next) (as_log s log v turn st.numbers) is) in
    let c = st.each k.0 k.1 in
    let f = leads_follow s log k.0 next turn c.0 n (leads_told s log v st.numbers k.0 next turn k.2) c.2 in
    (f.0, (c.0, c.1, f.1), f.2)

pub all_after : (s : Setup) (log : List Turn) (v : Places) (turn : Turn) → Stands s log v → NamesCell s turn → (d : Collection) → Collects s (turn ∷ log) d
    → (next : Spot) × IsIn next (spots_of v turn) × IsAt IsBehind s (turn ∷ log) next d
all_after s log v turn st n d collects =
    let k = st.all collects.0 collects.1 in
    let f = order_leads s log k.0 turn collects.0 d n k.2 collects.2 in
    (f.0, subst (IsIn f.0) (sym (as_log s log v turn st.numbers)) (spots_in s (posted_of log) _ _ turn k.0 f.0 v.spots k.1 (told_leads s log v st.numbers k.0 f.0 turn f.1)), f.2)

placed_after : (s : Setup) (log : List Turn) (v : Places) (turn : Turn) → Stands s log v → (next : Spot) → IsIn next (spots_of v turn) → IsPlaced s (v.turns + 1) next
placed_after s log v turn st next is =
    let k = in_spots s (posted_of log) _ _ turn next v.spots (subst (IsIn next) (as_log s log v turn st.numbers) is) in
    leads_placed s v.turns (posted_of log) _ _ k.0 next turn (st.placed k.0 k.1) k.2

-- ---- the numbers after a step

pub looks_few : (log : List Turn) (c : ℕ) → looks_at log c ≤ length log
looks_few [] c = omega arith
looks_few (PostStage stage ∷ log) c = omega arith
looks_few (ReadColour cell colour ∷ log) c = let k = looks_few log c in elim (yes_or_no (cell == c)) [ inl e ↦ rw e (omega (arith, k)) | inr e ↦ rw e (omega (arith, k)) ]
looks_few (_ ∷ log) c = let k = looks_few log c in omega (arith, k)

pub shades_few : (log : List Turn) (c : ℕ) → shades_of log c ≤ length log
shades_few [] c = omega arith
shades_few (PostStage stage ∷ log) c = omega arith
shades_few (MarkFound cell colour ∷ log) c = let k = shades_few log c in elim (yes_or_no ((cell == c) && is_below_grey (posted_of log) colour)) [ inl e ↦ rw e (omega (arith, k)) | inr e ↦ rw e (omega (arith, k)) ]
shades_few (_ ∷ log) c = let k = shades_few log c in omega (arith, k)

one_more : (xs : List ℕ) (cell c n : ℕ) → c < length xs → get_or xs c 0 ≡ n → get_or (with_one_more xs cell) c 0 ≡ (if cell == c then suc n else n)
one_more xs cell c n lt e = elim (yes_or_no (cell == c)) [
  | inl f ↦ let same : cell ≡ c = test_true cell c f in rw (f, same) (get_or-set_same xs c (slice_index xs c + 1) 0 lt ∙ omega (arith, e))
  | inr f ↦ let ne = test_false cell c f in rw f (get_or-set_other xs cell c (slice_index xs cell + 1) 0 (λ x. ne (sym x)) ∙ e)
]

zero_at : (n c : ℕ) → get_or (replicate {A = ℕ} n 0) c 0 ≡ 0
zero_at zero c = refl
zero_at (suc n) zero = refl
zero_at (suc n) (suc c) = zero_at n c

looks_next : (s : Setup) (log : List Turn) (v : Places) (turn : Turn) → AreOf s log v → (c : ℕ) → c < cells s → get_or (looks_counted turn v.looks) c 0 ≡ looks_at (turn ∷ log) c
looks_next s log v (PostStage to) are c lt = zero_at (length v.looks) c
looks_next s log v (ReadColour cell colour) are c lt = let l = are.looks_length in one_more v.looks cell c (looks_at log c) (omega (arith, l)) (are.looks c lt)
looks_next s log v _ are c lt = are.looks c lt

shades_next : (s : Setup) (log : List Turn) (v : Places) (turn : Turn) → AreOf s log v → (c : ℕ) → c < cells s → get_or (shades_counted v.posted turn v.shades) c 0 ≡ shades_of (turn ∷ log) c
shades_next s log v (PostStage to) are c lt = zero_at (length v.shades) c
shades_next s log v (MarkFound cell colour) are c lt = rw (are.posted) (elim (yes_or_no (is_below_grey (posted_of log) colour)) [
  | inl e ↦ let l = are.shades_length in rw e (one_more v.shades cell c (shades_of log c) (omega (arith, l)) (are.shades c lt) ∙ both (cell == c) (shades_of log c))
  | inr e ↦ rw e (are.shades c lt ∙ neither (cell == c) (shades_of log c))
])
  where
    both : (b : Bool) (n : ℕ) → (if b then suc n else n) ≡ (if b && true then suc n else n)
    both true n = refl
    both false n = refl

    neither : (b : Bool) (n : ℕ) → n ≡ (if b && false then suc n else n)
    neither true n = refl
    neither false n = refl
shades_next s log v _ are c lt = are.shades c lt

looks_long : (turn : Turn) (xs : List ℕ) → length (looks_counted turn xs) ≡ length xs
looks_long (PostStage to) xs = length_replicate (length xs) 0
looks_long (ReadColour cell colour) xs = length-set xs cell (slice_index xs cell + 1)
looks_long _ xs = refl

shades_long : (stage : ℕ) (turn : Turn) (xs : List ℕ) → length (shades_counted stage turn xs) ≡ length xs
shades_long stage (PostStage to) xs = length_replicate (length xs) 0
shades_long stage (MarkFound cell colour) xs = elim (yes_or_no (is_below_grey stage colour)) [ inl e ↦ rw e (length-set xs cell (slice_index xs cell + 1)) | inr e ↦ rw e refl ]
shades_long stage _ xs = refl

posted_next : (log : List Turn) (turn : Turn) (stage : ℕ) → stage ≡ posted_of log → posted_by turn stage ≡ posted_of (turn ∷ log)
posted_next log (PostStage to) stage e = refl
posted_next log _ stage e = e

low_next : (s : Setup) (log : List Turn) (turn : Turn) (b d : Collection) → Turns s (posted_of log) b turn d → cycle_of (posted_of log) < 2 ^ 60 → cycle_of (posted_of (turn ∷ log)) < 2 ^ 60
low_next s log (PostStage to) order.Posting d t low = t.1
low_next s log (PostStage to) _ d t low = absurd t
low_next s log _ b d t low = low

pub stands_after : (s : Setup) (log : List Turn) (v : Places) (turn : Turn) (some : Spot) → Stands s log v → NamesCell s turn → IsIn some (spots_of v turn)
    → Stands s (turn ∷ log) (record (counted turn v) { spots = spots_of v turn })
stands_after s log v turn some st n is = let are = st.numbers in let collects = (each_after s log v turn st n some is).1 in record {
  numbers = record {
    heap = are.heap;
    posted = posted_next log turn v.posted are.posted;
    turns = let t = are.turns in omega (arith, t);
    low = low_next s log turn collects.0 _ collects.2 are.low;
    looks_length = looks_long turn v.looks ∙ are.looks_length;
    shades_length = shades_long v.posted turn v.shades ∙ are.shades_length;
    looks = looks_next s log v turn are;
    shades = shades_next s log v turn are;
  };
  placed = placed_after s log v turn st;
  each = each_after s log v turn st n;
  all = all_after s log v turn st n;
}

-- ---- what the call says

past_zero : (xs : List ℕ) (c : ℕ) → length xs ≤ c → get_or xs c 0 ≡ 0
past_zero [] c le = refl
past_zero (x ∷ xs) zero le = absurd (omega arith)
past_zero (x ∷ xs) (suc c) le = past_zero xs c (omega arith)

pub looks_low : (s : Setup) (log : List Turn) (v : Places) → Stands s log v → (c : ℕ) → slice_index v.looks c ≤ v.turns
looks_low s log v st c = let are = st.numbers in let l = are.looks_length in let t = are.turns in elim (yes_or_no (nat_lt c (cells s))) [
  | inl e ↦ let k = are.looks c (lt_true c (cells s) e) in let f = looks_few log c in omega (arith, k, f, t)
  | inr e ↦ let k = past_zero v.looks c (omega (arith, l, lt_false c (cells s) e)) in omega (arith, k)
]

pub shades_low : (s : Setup) (log : List Turn) (v : Places) → Stands s log v → (c : ℕ) → slice_index v.shades c ≤ v.turns
shades_low s log v st c = let are = st.numbers in let l = are.shades_length in let t = are.turns in elim (yes_or_no (nat_lt c (cells s))) [
  | inl e ↦ let k = are.shades c (lt_true c (cells s) e) in let f = shades_few log c in omega (arith, k, f, t)
  | inr e ↦ let k = past_zero v.shades c (omega (arith, l, lt_false c (cells s) e)) in omega (arith, k)
]

first_in : (xs : List Spot) → (xs ≡ [] → ⊥) → (x : Spot) × IsIn x xs
first_in [] some = absurd (some refl)
first_in (x ∷ xs) some = (x, inl refl)

-- no spot is left: the order does not allow the step
pub none_taken : (s : Setup) (log : List Turn) (v : Places) (turn : Turn) (spots : List Spot) → Stands s log v → NamesCell s turn → spots ≡ spots_of v turn → spots ≡ []
    → IsTrue false ↔ ((c : Collection) × Collects s (turn ∷ log) c)
none_taken s log v turn spots st n e none = (λ x. absurd cc, λ x. absurd (let k = all_after s log v turn st n x.0 x.1 in subst (IsIn k.0) (sym e ∙ none) k.1))

-- a spot is left: it does
pub some_taken : (s : Setup) (log : List Turn) (v : Places) (turn : Turn) (spots : List Spot) → Stands s log v → NamesCell s turn → spots ≡ spots_of v turn → (spots ≡ [] → ⊥)
    → IsTrue true ↔ ((c : Collection) × Collects s (turn ∷ log) c)
some_taken s log v turn spots st n e some = let f = first_in spots some in (λ x. let k = each_after s log v turn st n f.0 (subst (IsIn f.0) e f.1) in (k.0, k.1), λ x. refl)

pub taken_stands : (s : Setup) (log : List Turn) (v new : Places) (turn : Turn) (spots : List Spot) → Stands s log v → NamesCell s turn → spots ≡ spots_of v turn → (spots ≡ [] → ⊥)
    → new ≡ record (counted turn v) { spots = spots } → Stands s (turn ∷ log) new
taken_stands s log v new turn spots st n e some is = let f = first_in spots some in
    subst (Stands s (turn ∷ log)) (sym (is ∙ ap (λ l. record (counted turn v) { spots = l }) e)) (stands_after s log v turn f.0 st n (subst (IsIn f.0) e f.1))
