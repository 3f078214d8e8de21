-- The collector's passes and its sweep.
use Rattle.std.proofs.Common.{◌≡◌, ◌≢◌, ◌⊎◌, inl, inr, ℕ, suc, ◌-◌, ◌*◌, ◌<◌, ◌≤◌, ◌==◌, max, nat_lt, Bool, true, false, List, ◌∷◌, length, refl, sym, ap, ◌∙◌, subst, if◌then◌else◌, arith}
use Rattle.std.proofs.lemmas.Bool.{cases_eq}
use Rattle.lemmas.specs.Numbers.{test_true, test_yes, test_false, test_no, lt_true, lt_false, lt_yes}
use Rattle.lemmas.specs.Bools.{and_parts, yes_or_no}
use Rattle.colours.specs.declared.place.Place.TheVariants.{Colour, Word}
use Rattle.pools.specs.Heap.{Setup, cells, kind_of, words_of_cell}
use Rattle.pools.specs.Layouts.{is_reference_kind}
use Rattle.colours.specs.Colours.{done, cycle_of, claim_at, grey}
use Rattle.colours.specs.declared.turn.Turn.TheVariants.{MarkFound, ReadColour, ScanWord, Blacken, ClearWord, Free}
use Rattle.colours.specs.Collector.{Passing, Scanning, Shading, Sweeping, Clearing, Pass, posted_of, reference_from, skip_integers, sweep_from, pass_from, in_turn, out_of_turn, looked, shaded_too, is_white}
use Rattle.colours.specs.Runs.{Event, ByCollector, turns_of, word_after}
use Rattle.collector_law.specs.Invariant as law
use Rattle.collector_law.specs.Puts.{put, put-here, put-other, put_word, here_or_not, put_word-here, put_word-other}
use Rattle.collector_law.specs.Claim.{stands-grow}
use Rattle.collector_law.specs.Shade.{shaded, shades}
use Rattle.collector_law.specs.Turn.{turned, scans, drops, begins_scan, passes}
use Rattle.collector_law.specs.End.{ended_trace, ends_trace}
use Rattle.collector_law.specs.Post.{blackened, blackens}
use Rattle.collector_law.specs.Sweep.{begins_clearing, sweeps, cleared, clears, freed, frees}
use Rattle.collector_law.specs.Match.{IsSync, IsInvariant, Shows, Safe}
use Rattle.collector_law.specs.Numbers.{Rises, claim_black, async_three}
use Rattle.collector_law.specs.Marking.{mark_grows}
use Rattle.collector_law.specs.Storing.{word_put}
use Rattle.collector_law.specs.Moves.{turn_shows, IsLook, look_shows, moves, cycle_in, passes_on, sweeps_on, skips, skip_found, past_words}

-- a look at a colour changes no word
look_look : (s : Setup) (run : List Event) (cell colour : ℕ) → IsLook s run (ReadColour cell colour)
unfolding word_after
look_look s run cell colour = record { posted = refl; colour = λ c. refl; word = λ c i. refl }

-- a read of a word changes no word
scan_look : (s : Setup) (run : List Event) (cell word value : ℕ) → IsLook s run (ScanWord cell word value)
unfolding word_after
scan_look s run cell word value = record { posted = refl; colour = λ c. refl; word = λ c i. refl }

-- ---- looks of a pass

-- the colour found is grey in the invariant's sense
grey_found : (s : Setup) (run : List Event) (S : law.State) → IsInvariant S → Shows s run S → (cell colour : ℕ) → word_after s run (Colour cell) ≡ colour → (colour == grey (cycle_of (posted_of (turns_of run)))) ≡ true → law.IsGrey S cell
grey_found s run S inv h cell colour found e =
    let k : cycle_of (posted_of (turns_of run)) ≡ S.cycle = cycle_in s run S inv h in
    let is : colour ≡ 2 * cycle_of (posted_of (turns_of run)) = test_true colour (grey (cycle_of (posted_of (turns_of run)))) e in
    h.colour cell ∙ found ∙ is ∙ ap (λ n. 2 * n) k

-- and one that is not found grey is not
not_grey_found : (s : Setup) (run : List Event) (S : law.State) → IsInvariant S → Shows s run S → (cell colour : ℕ) → word_after s run (Colour cell) ≡ colour → (colour == grey (cycle_of (posted_of (turns_of run)))) ≡ false → law.IsGrey S cell → ⊥
not_grey_found s run S inv h cell colour found e is_grey =
    let k : cycle_of (posted_of (turns_of run)) ≡ S.cycle = cycle_in s run S inv h in
    test_false colour (grey (cycle_of (posted_of (turns_of run)))) e (sym (h.colour cell ∙ found) ∙ is_grey ∙ ap (λ n. 2 * n) (sym k))

-- a look out of turn leads to a state that satisfies the invariant
pub out_safe : (s : Setup) (run : List Event) (p : Pass) (cell colour : ℕ) → word_after s run (Colour cell) ≡ colour → Safe s run (Passing p)
    → Safe s (ByCollector (ReadColour cell colour) ∷ run) (looked s (posted_of (turns_of run)) (out_of_turn p cell) cell colour)
out_safe s run p cell colour found f = elim (yes_or_no (colour == grey (cycle_of (posted_of (turns_of run))))) [
  | inl e ↦ rw e (record {
    state = turned f.state (law.Scanning cell 0 0);
    inv = begins_scan done cycle_of claim_at IsSync f.state p.next p.met_grey cell f.at.0 (grey_found s run f.state f.inv f.shows cell colour found e) f.inv;
    shows = moves s (ByCollector (ReadColour cell colour) ∷ run) f.state (law.Scanning cell 0 0) shows;
    at = (refl, refl);
  })
  | inr e ↦ rw e (passes_on s (ByCollector (ReadColour cell colour) ∷ run) f.state (out_of_turn p cell) f.inv shows f.at.0 (inl f.at.1))
]
  where
    shows : Shows s (ByCollector (ReadColour cell colour) ∷ run) f.state
    shows = look_shows s run f.state (ReadColour cell colour) (look_look s run cell colour) f.shows

-- a look in turn does
pub in_safe : (s : Setup) (run : List Event) (p : Pass) (cell colour : ℕ) → cell ≡ p.next → word_after s run (Colour cell) ≡ colour → Safe s run (Passing p)
    → Safe s (ByCollector (ReadColour cell colour) ∷ run) (looked s (posted_of (turns_of run)) (in_turn p) cell colour)
in_safe s run p cell colour here found f = elim (yes_or_no (colour == grey (cycle_of (posted_of (turns_of run))))) [
  | inl e ↦ rw e (record {
    state = turned S (law.Scanning cell 0 0);
    inv = begins_scan done cycle_of claim_at IsSync S p.next p.met_grey cell f.at.0 (grey_found s run S f.inv f.shows cell colour found e) f.inv;
    shows = moves s (ByCollector (ReadColour cell colour) ∷ run) S (law.Scanning cell 0 0) shows;
    at = (refl, refl);
  })
  | inr e ↦ rw e (elim (yes_or_no p.met_grey) [
    | inl met ↦ passes_on s (ByCollector (ReadColour cell colour) ∷ run) (turned S (law.Passing (suc p.next) p.met_grey)) (in_turn p) (on e) shows_on refl (inr met)
    | inr none ↦ elim (yes_or_no (nat_lt (suc p.next) (cells s))) [
      | inl lt ↦ passes_on s (ByCollector (ReadColour cell colour) ∷ run) (turned S (law.Passing (suc p.next) p.met_grey)) (in_turn p) (on e) shows_on refl (inl (lt_true (suc p.next) (cells s) lt))
      | inr past ↦ rw (past, none) (sweeps_on s (ByCollector (ReadColour cell colour) ∷ run) (ended_trace S) 1
          (ends_trace done cycle_of claim_at IsSync S p.next (f.at.0 ∙ ap (law.Passing p.next) none) (subst (λ n. n ≤ suc p.next) (sym f.shows.cells) (lt_false (suc p.next) (cells s) past)) (not_grey e) f.inv)
          (moves s (ByCollector (ReadColour cell colour) ∷ run) S (law.Sweeping 1) shows) refl (omega arith))
    ]
  ])
]
  where
    S : law.State
    S = f.state

    shows : Shows s (ByCollector (ReadColour cell colour) ∷ run) S
    shows = look_shows s run S (ReadColour cell colour) (look_look s run cell colour) f.shows

    shows_on : Shows s (ByCollector (ReadColour cell colour) ∷ run) (turned S (law.Passing (suc p.next) p.met_grey))
    shows_on = moves s (ByCollector (ReadColour cell colour) ∷ run) S (law.Passing (suc p.next) p.met_grey) shows

    not_grey : (colour == grey (cycle_of (posted_of (turns_of run)))) ≡ false → law.IsGrey S p.next → ⊥
    not_grey e g = not_grey_found s run S f.inv f.shows cell colour found e (subst (λ c. law.IsGrey S c) (sym here) g)

    on : (colour == grey (cycle_of (posted_of (turns_of run)))) ≡ false → IsInvariant (turned S (law.Passing (suc p.next) p.met_grey))
    on e = passes done cycle_of claim_at IsSync S p.next p.met_grey f.at.0 (not_grey e) f.inv

-- ---- the scan of a cell

-- a read of a reference word does
pub scan_safe : (s : Setup) (run : List Event) (p : Pass) (cell from w value : ℕ) → w ≡ reference_from s cell from → w < length (words_of_cell s cell) → word_after s run (Word cell w) ≡ value → Safe s run (Scanning cell from p)
    → Safe s (ByCollector (ScanWord cell w value) ∷ run) (if value == 0 then Scanning cell (suc w) p else Shading value cell (suc w) p)
scan_safe s run p cell from w value is lt found f = elim (yes_or_no (value == 0)) [
  | inl e ↦ rw e (record { state = T; inv = inv; shows = shows; at = (ap (law.Scanning cell (suc w)) (now ∙ test_true value 0 e), f.at.1) })
  | inr e ↦ rw e (record { state = T; inv = inv; shows = shows; at = (ap (law.Scanning cell (suc w)) now, f.at.1) })
]
  where
    S : law.State
    S = f.state

    T : law.State
    T = turned S (law.Scanning cell (suc w) (S.word cell w))

    reached : IsInvariant (turned S (law.Scanning cell w 0))
    reached = subst (λ n. IsInvariant (turned S (law.Scanning cell n 0))) (sym is) (skips s S cell from (length (words_of_cell s cell) - from) (f.shows.no_word cell) f.at.0 f.inv)

    inv : IsInvariant T
    inv = scans done cycle_of claim_at IsSync (turned S (law.Scanning cell w 0)) cell w refl reached

    shows : Shows s (ByCollector (ScanWord cell w value) ∷ run) T
    shows = moves s (ByCollector (ScanWord cell w value) ∷ run) S (law.Scanning cell (suc w) (S.word cell w)) (look_shows s run S (ScanWord cell w value) (scan_look s run cell w value) f.shows)

    ref : is_reference_kind (kind_of s cell w) ≡ true
    ref = subst (λ n. is_reference_kind (kind_of s cell n) ≡ true) (sym is) (skip_found s cell from (length (words_of_cell s cell) - from) (let same : w ≡ skip_integers s cell from (length (words_of_cell s cell) - from) = is in omega (arith, same, lt)))

    now : S.word cell w ≡ value
    now = f.shows.word cell w ref ∙ found

-- the blackening of a cell whose words are read does
pub blacken_safe : (s : Setup) (run : List Event) (p : Pass) (cell from : ℕ) → length (words_of_cell s cell) ≤ reference_from s cell from → Safe s run (Scanning cell from p)
    → Safe s (ByCollector (Blacken cell) ∷ run) (pass_from s p)
unfolding word_after
blacken_safe s run p cell from le f =
    passes_on s (ByCollector (Blacken cell) ∷ run) (blackened S cell p.next) p
    (blackens done cycle_of claim_at IsSync (turned S (law.Scanning cell w 0)) cell w p.next (λ st e. (claim_black S.cycle st e, λ sync. let y = async_three S.cycle st e in absurd cc)) refl (λ j past. past_words s run S f.shows cell j (omega (arith, le, past))) reached)
    shows (ap (law.Passing p.next) (sym f.at.1)) (inr f.at.1)
  where
    S : law.State
    S = f.state

    w : ℕ
    w = reference_from s cell from

    reached : IsInvariant (turned S (law.Scanning cell w 0))
    reached = skips s S cell from (length (words_of_cell s cell) - from) (f.shows.no_word cell) f.at.0 f.inv

    k : cycle_of (posted_of (turns_of run)) ≡ S.cycle
    k = cycle_in s run S f.inv f.shows

    shows : Shows s (ByCollector (Blacken cell) ∷ run) (blackened S cell p.next)
    shows = turn_shows s run S (Blacken cell) (law.Passing p.next true) S.cycle S.posted (put S.colour cell (suc (2 * S.cycle))) S.word (record {
      posted = f.shows.posted;
      colour = λ c. elim (cases_eq c cell) [
        | inl e ↦ put-here S.colour cell (suc (2 * S.cycle)) c e ∙ rw (test_yes cell c (sym e)) (omega (arith, k))
        | inr n ↦ put-other S.colour cell (suc (2 * S.cycle)) c n ∙ rw (test_no cell c (λ e. n (sym e))) (f.shows.colour c)
      ];
      word = λ c i x. f.shows.word c i x;
      no_word = f.shows.no_word;
      null = λ c i n. n;
    }) f.shows

-- ---- the mark of the value in hand

-- the mark of the value in hand raises its colour as it may
hand_rises : (k colour : ℕ) → colour ≢ 0 → (colour ≡ 0) ⊎ ((suc colour ≡ 2 * k) ⊎ ((colour ≡ 2 * k) ⊎ (colour ≡ suc (2 * k)))) → (max colour (2 * k) ≡ colour) ⊎ ((suc colour ≡ 2 * k) × (max colour (2 * k) ≡ 2 * k))
hand_rises k colour live c = elim c [
  | inl e ↦ absurd (live e)
  | inr c ↦ elim c [
    | inl white ↦ inr (white, omega (arith, white))
    | inr c ↦ elim c [ inl is ↦ inl (omega (arith, is)) | inr is ↦ inl (omega (arith, is)) ]
  ]
]

-- the mark of the value in hand leads to a state that satisfies the invariant
pub shade_safe : (s : Setup) (run : List Event) (p : Pass) (value cell word colour : ℕ) → Safe s run (Shading value cell word p)
    → Safe s (ByCollector (MarkFound value colour) ∷ run) (Scanning cell word (shaded_too (posted_of (turns_of run)) p value colour))
unfolding word_after
shade_safe s run p value cell word colour f = record {
  state = turned T (law.Scanning cell word 0);
  inv = drops done cycle_of claim_at IsSync T cell word value f.at.0 marked inv;
  shows = turn_shows s run S (MarkFound value colour) (law.Scanning cell word 0) S.cycle S.posted (put S.colour value now) S.word (record {
    posted = f.shows.posted;
    colour = λ c. elim (cases_eq c value) [
      | inl e ↦ put-here S.colour value now c e ∙ rw (test_yes value c (sym e)) (top c e)
      | inr n ↦ put-other S.colour value now c n ∙ rw (test_no value c (λ e. n (sym e))) (f.shows.colour c)
    ];
    word = λ c i x. f.shows.word c i x;
    no_word = f.shows.no_word;
    null = λ c i n. n;
  }) f.shows;
  at = (refl, met);
}
  where
    S : law.State
    S = f.state

    now : ℕ
    now = max (S.colour value) (2 * S.cycle)

    T : law.State
    T = shaded S (put S.colour value now) S.phase

    late : law.time_of S.part ≡ law.Late
    late = ap law.time_of f.at.0

    met : (shaded_too (posted_of (turns_of run)) p value colour).met_grey ≡ true
    met = go (nat_lt colour (grey (cycle_of (posted_of (turns_of run)))))
      where
        go : (b : Bool) → (if b then record { next = p.next; met_grey = p.met_grey; shaded = value ∷ p.shaded } else p).met_grey ≡ true
        go true = f.at.1
        go false = f.at.1

    k : cycle_of (posted_of (turns_of run)) ≡ S.cycle
    k = cycle_in s run S f.inv f.shows

    top : (c : ℕ) → c ≡ value → now ≡ max (word_after s run (Colour c)) (grey (cycle_of (posted_of (turns_of run))))
    top c e = let same : S.colour value ≡ word_after s run (Colour c) = ap S.colour (sym e) ∙ f.shows.colour c in omega (arith, k, same)

    live : S.colour value ≢ 0
    live = elim (subst (λ q. law.IsUnderWay S q) f.at.0 f.inv.under_way).1 [
      | inl null ↦ λ z. let r = subst (λ q. law.RootAt q S.cycle (S.colour 0)) late f.inv.root in let y : S.colour 0 ≡ 0 = ap S.colour (sym null) ∙ z in omega (arith, r, y)
      | inr l ↦ subst (λ q. law.IsLiveAt q S.cycle (S.colour value)) late l
    ]

    rise : Rises S.part S.cycle (S.colour value) now
    rise = elim (hand_rises S.cycle (S.colour value) live (subst (λ q. law.IsColour q S.cycle (S.colour value)) f.at.0 (f.inv.colours value))) [
      | inl same ↦ inl same
      | inr x ↦ inr (x.0, x.1, λ clean. differ (sym late ∙ clean))
    ]
      where
        differ : law.Late ≡ law.Clean → ⊥
        differ z = cc

    inv : IsInvariant T
    inv = shades done cycle_of claim_at IsSync S (put S.colour value now) S.phase (record {
      up = λ d. elim (cases_eq d value) [
        | inl e ↦ elim rise [
          | inl same ↦ inl (put-here S.colour value now d e ∙ same ∙ ap S.colour (sym e))
          | inr r ↦ inr (subst (λ z. law.IsWhite S z) (sym e) r.0, put-here S.colour value now d e ∙ r.1, r.2, λ next is. absurd (differ next (sym f.at.0 ∙ is)))
        ]
        | inr n ↦ inl (put-other S.colour value now d n)
      ];
      differs = λ u y j n d. d;
      old = λ u y o. o;
      answers = f.inv.stages.answers;
      ready = λ u lu e. (f.inv.stages.ended u lu e).0;
      fresh = λ u y lu fr. inl (put-other S.colour value now y (λ e. f.inv.fresh.in_no_hand u y lu fr (ap law.hand_of f.at.0 ∙ sym e)), λ h. h);
      stands = λ u lu. stands-grow cycle_of IsSync S (put S.colour value now) S.birth S.IsHeld u (λ y b. b) (mark_grows S value now rise) (S.phase u) (f.inv.stands u lu);
    }) f.inv
      where
        differ : (next : ℕ) → law.Scanning cell word value ≡ law.Passing next false → ⊥
        differ next z = cc

    marked : law.IsMarked T value
    marked = let e = put-here S.colour value now value refl in omega (arith, e)

-- ---- the sweep

-- a look of the sweep does
pub sweep_safe : (s : Setup) (run : List Event) (cell colour : ℕ) → word_after s run (Colour cell) ≡ colour → Safe s run (Sweeping cell)
    → Safe s (ByCollector (ReadColour cell colour) ∷ run) (if is_white (posted_of (turns_of run)) colour then Clearing cell 0 else sweep_from s (suc cell))
sweep_safe s run cell colour found f = elim (yes_or_no (is_white (posted_of (turns_of run)) colour)) [
  | inl e ↦ rw e (record {
    state = turned S (law.Clearing cell 0);
    inv = begins_clearing done cycle_of claim_at IsSync S cell f.at.0 f.at.1 (white e) f.inv;
    shows = moves s (ByCollector (ReadColour cell colour) ∷ run) S (law.Clearing cell 0) shows;
    at = refl;
  })
  | inr e ↦ rw e (sweeps_on s (ByCollector (ReadColour cell colour) ∷ run) (turned S (law.Sweeping (suc cell))) (suc cell)
      (sweeps done cycle_of claim_at IsSync S cell f.at.0 (not_white e) f.inv)
      (moves s (ByCollector (ReadColour cell colour) ∷ run) S (law.Sweeping (suc cell)) shows) refl (omega arith))
]
  where
    S : law.State
    S = f.state

    shows : Shows s (ByCollector (ReadColour cell colour) ∷ run) S
    shows = look_shows s run S (ReadColour cell colour) (look_look s run cell colour) f.shows

    k : cycle_of (posted_of (turns_of run)) ≡ S.cycle
    k = cycle_in s run S f.inv f.shows

    is : S.colour cell ≡ colour
    is = f.shows.colour cell ∙ found

    white : is_white (posted_of (turns_of run)) colour ≡ true → law.IsWhite S cell
    white e =
        let q = and_parts (nat_lt 0 colour) (nat_lt colour (grey (cycle_of (posted_of (turns_of run))))) e in
        let above : 0 < colour = lt_true 0 colour q.0 in
        let below : colour < 2 * cycle_of (posted_of (turns_of run)) = lt_true colour (grey (cycle_of (posted_of (turns_of run)))) q.1 in
        elim (subst (λ p. law.IsColour p S.cycle (S.colour cell)) f.at.0 (f.inv.colours cell)) [
          | inl blue ↦ absurd (omega (arith, blue, is, above))
          | inr x ↦ elim x [ inl w ↦ w | inr b ↦ absurd (omega (arith, b, is, below, k)) ]
        ]

    not_white : is_white (posted_of (turns_of run)) colour ≡ false → law.IsWhite S cell → ⊥
    not_white e w = absurd (both (is_white (posted_of (turns_of run)) colour) e (rw (lt_yes 0 colour (omega (arith, w, is)), lt_yes colour (grey (cycle_of (posted_of (turns_of run)))) (omega (arith, w, is, k))) refl))
      where
        both : (b : Bool) → b ≡ false → b ≡ true → ⊥
        both b x y = cc

-- the clearing of a word does
pub clear_safe : (s : Setup) (run : List Event) (cell word : ℕ) → Safe s run (Clearing cell word) → Safe s (ByCollector (ClearWord cell word) ∷ run) (Clearing cell (suc word))
unfolding word_after
clear_safe s run cell word f = record {
  state = cleared S cell word;
  inv = clears done cycle_of claim_at IsSync S cell word f.at f.inv;
  shows = turn_shows s run S (ClearWord cell word) (law.Clearing cell (suc word)) S.cycle S.posted S.colour (put_word S.word cell word 0) (record {
    posted = f.shows.posted;
    colour = λ c. f.shows.colour c;
    word = λ c i r. word_put s run S f.shows cell word 0 c i r;
    no_word = λ c i n. zero_stays c i (f.shows.no_word c i n);
    null = λ c i n z. n (zero_stays c i z);
  }) f.shows;
  at = refl;
}
  where
    S : law.State
    S = f.state

    zero_stays : (c i : ℕ) → S.word c i ≡ 0 → put_word S.word cell word 0 c i ≡ 0
    zero_stays c i z = elim (here_or_not cell word c i) [
      | inl e ↦ put_word-here S.word cell word 0 c i e
      | inr n ↦ put_word-other S.word cell word 0 c i n ∙ z
    ]

-- the freeing of a cell does
pub free_safe : (s : Setup) (run : List Event) (cell word : ℕ) → length (words_of_cell s cell) ≤ word → Safe s run (Clearing cell word) → Safe s (ByCollector (Free cell) ∷ run) (sweep_from s (suc cell))
unfolding word_after
free_safe s run cell word le f = sweeps_on s (ByCollector (Free cell) ∷ run) (freed S cell) (suc cell)
    (frees done cycle_of claim_at IsSync S cell word f.at (λ j past. past_words s run S f.shows cell j (omega (arith, le, past))) f.inv)
    (turn_shows s run S (Free cell) (law.Sweeping (suc cell)) S.cycle S.posted (put S.colour cell 0) S.word (record {
      posted = f.shows.posted;
      colour = λ c. elim (cases_eq c cell) [
        | inl e ↦ put-here S.colour cell 0 c e ∙ rw (test_yes cell c (sym e)) refl
        | inr n ↦ put-other S.colour cell 0 c n ∙ rw (test_no cell c (λ e. n (sym e))) (f.shows.colour c)
      ];
      word = λ c i x. f.shows.word c i x;
      no_word = f.shows.no_word;
      null = λ c i n. n;
    }) f.shows)
    refl (omega arith)
  where
    S : law.State
    S = f.state
