-- The collector's posts and waits, and its mark of the globals' cell.
use Rattle.std.proofs.Common.{◌≡◌, ◌⊎◌, inl, inr, ℕ, suc, ◌+◌, ◌*◌, ◌^◌, ◌<◌, ◌==◌, max, Bool, true, false, List, ◌∷◌, refl, sym, ap, ◌∙◌, subst, if◌then◌else◌, arith}
use Rattle.std.proofs.lemmas.Bool.{cases_eq}
use Rattle.lemmas.specs.Numbers.{test_true, test_yes, test_no}
use Rattle.lemmas.specs.Bools.{yes_or_no}
use Rattle.colours.specs.declared.place.Place.TheVariants.{Stage, Colour}
use Rattle.pools.specs.Heap.{Setup}
use Rattle.colours.specs.Colours.{done, cycle_of, claim_at, grey}
use Rattle.colours.specs.declared.turn.Turn.TheVariants.{PostStage, ReadStage, MarkFound}
use Rattle.colours.specs.Collector.{Posting, Waiting, ShadingGlobals, posted_of, has_answered, wait_from}
use Rattle.colours.specs.Runs.{Event, ByCollector, log_of, turns_of, word_after, IsRun}
use Rattle.colours.specs.Stages.{stage_is, begun_stage, handshake}
use Rattle.colours.specs.Mutator.{phase_of, stage_of}
use Rattle.collector_law.specs.Match.{begun_or_done, stage_in}
use Rattle.collector_law.specs.Invariant as law
use Rattle.collector_law.specs.Puts.{put, put-here, put-other}
use Rattle.collector_law.specs.Turn.{turned}
use Rattle.collector_law.specs.Post.{posted_sync1, posts_sync1, posted_sync2, posts_sync2, posted_async, posts_async, sees}
use Rattle.collector_law.specs.Root.{rooted, marks_root}
use Rattle.collector_law.specs.Match.{IsSync, IsInvariant, IsAt, Shows, Safe}
use Rattle.collector_law.specs.Numbers.{async_three}
use Rattle.collector_law.specs.Storing.{low_cycle}
use Rattle.collector_law.specs.Moves.{afterwards, IsAfter, turn_shows, IsLook, look_shows, moves, cycle_in, IsWait, waits}

-- a post changes the posted word alone
post_after : (s : Setup) (run : List Event) (S : law.State) → Shows s run S → (to : ℕ) → to ≡ suc (posted_of (turns_of run)) → IsAfter s run S (PostStage to) (suc S.posted) S.colour S.word
unfolding word_after
post_after s run S h to e = record {
  posted = ap suc h.posted ∙ sym e;
  colour = λ c. h.colour c;
  word = λ c i r. h.word c i r;
  no_word = h.no_word;
  null = λ c i n. n;
}

-- a post leads to a state that satisfies the invariant
pub post_safe : (s : Setup) (run : List Event) (to : ℕ) → IsRun s run → to ≡ suc (posted_of (turns_of run)) → Safe s run Posting → Safe s (ByCollector (PostStage to) ∷ run) (wait_from s to 0)
post_safe s run to r e f = go f.at
  where
    S : law.State
    S = f.state

    low : 3 * S.cycle + 6 < done
    low = low_cycle s run S f.inv f.shows r

    next : to ≡ suc S.posted
    next = e ∙ ap suc (sym f.shows.posted)

    shows : (p : law.Part) (k : ℕ) → Shows s (ByCollector (PostStage to) ∷ run) (afterwards S p k (suc S.posted) S.colour S.word)
    shows p k = turn_shows s run S (PostStage to) p k (suc S.posted) S.colour S.word (post_after s run S f.shows to e) f.shows

    async : (st : ℕ) → st ≡ 3 * S.cycle → (cycle_of st ≡ S.cycle) × (IsSync st → ⊥)
    async st z = (omega (arith, z), λ sync. let y = async_three S.cycle st z in absurd cc)

    go : IsAt s Posting S.part → Safe s (ByCollector (PostStage to) ∷ run) (wait_from s to 0)
    go (inl rest) = waits s (ByCollector (PostStage to) ∷ run) (posted_sync1 S) to 0
        (posts_sync1 done cycle_of claim_at IsSync S (omega (arith, low)) async rest f.inv) (shows (law.Waiting 1 0) (suc S.cycle)) (omega arith) (inl refl) next
    go (inr (inl one)) = waits s (ByCollector (PostStage to) ∷ run) (posted_sync2 S) to 0
        (posts_sync2 done cycle_of claim_at IsSync S (omega (arith, low)) (one ∙ ap (law.Waiting 1) (sym f.shows.threads)) f.inv) (shows (law.Waiting 2 0) S.cycle) (omega arith) (inr (inl refl)) next
    go (inr (inr rooted)) = waits s (ByCollector (PostStage to) ∷ run) (posted_async S) to 0
        (posts_async done cycle_of claim_at IsSync S rooted f.inv) (shows (law.Waiting 3 0) S.cycle) (omega arith) (inr (inr refl)) next

-- a look at a stage changes no word
check_look : (s : Setup) (run : List Event) (t found : ℕ) → IsLook s run (ReadStage t found)
unfolding word_after
check_look s run t found = record { posted = refl; colour = λ c. refl; word = λ c i. refl }

-- a look at a thread's stage leads to a state that satisfies the invariant
pub check_safe : (s : Setup) (run : List Event) (t found : ℕ) → IsRun s run → word_after s run (Stage t) ≡ found → Safe s run (Waiting t)
    → Safe s (ByCollector (ReadStage t found) ∷ run) (if has_answered (posted_of (turns_of run)) found then wait_from s (posted_of (turns_of run)) (suc t) else Waiting t)
check_safe s run t found r is f = elim (yes_or_no (has_answered (posted_of (turns_of run)) found)) [
  | inl e ↦ rw e (on f.at.1 e)
  | inr e ↦ rw e (record { state = S; inv = f.inv; shows = shows; at = f.at })
]
  where
    S : law.State
    S = f.state

    shows : Shows s (ByCollector (ReadStage t found) ∷ run) S
    shows = look_shows s run S (ReadStage t found) (check_look s run t found) f.shows

    stage : (S.stage t ≡ found) ⊎ (S.stage t ≡ done)
    stage = elim (begun_or_done (phase_of s t (log_of t run)) (stage_of (log_of t run))) [
      | inl begun ↦ inl (stage_in s run S f.shows t begun ∙ sym (stage_is s run r t (begun_stage (phase_of s t (log_of t run)) begun)) ∙ is)
      | inr over ↦ inr (f.shows.stage t ∙ over)
    ]

    low : S.posted < done
    low = let l : posted_of (turns_of run) < 3 * 2 ^ 60 = (handshake s run r).low in let e : S.posted ≡ posted_of (turns_of run) = f.shows.posted in omega (arith, l, e)

    answered : (a b : Bool) → (found == posted_of (turns_of run)) ≡ a → (found == done) ≡ b → (if a then true else b) ≡ true → (S.stage t ≡ S.posted) ⊎ (S.stage t ≡ done)
    answered true b x y z = elim stage [ inl e ↦ inl (e ∙ test_true found (posted_of (turns_of run)) x ∙ sym f.shows.posted) | inr over ↦ inr over ]
    answered false true x y z = elim stage [ inl e ↦ inr (e ∙ test_true found done y) | inr over ↦ inr over ]
    answered false false x y z = absurd cc

    step : (w : ℕ) → has_answered (posted_of (turns_of run)) found ≡ true → S.part ≡ law.Waiting w t → IsInvariant (turned S (law.Waiting w (suc t)))
    step w e at = sees done cycle_of claim_at IsSync S w t at (answered (found == posted_of (turns_of run)) (found == done) refl refl e) low f.inv

    on : IsWait S t → has_answered (posted_of (turns_of run)) found ≡ true → Safe s (ByCollector (ReadStage t found) ∷ run) (wait_from s (posted_of (turns_of run)) (suc t))
    on (inl one) e = waits s (ByCollector (ReadStage t found) ∷ run) (turned S (law.Waiting 1 (suc t))) (posted_of (turns_of run)) (suc t) (step 1 e one) (moves s (ByCollector (ReadStage t found) ∷ run) S (law.Waiting 1 (suc t)) shows) f.at.0 (inl refl) (sym f.shows.posted)
    on (inr (inl two)) e = waits s (ByCollector (ReadStage t found) ∷ run) (turned S (law.Waiting 2 (suc t))) (posted_of (turns_of run)) (suc t) (step 2 e two) (moves s (ByCollector (ReadStage t found) ∷ run) S (law.Waiting 2 (suc t)) shows) f.at.0 (inr (inl refl)) (sym f.shows.posted)
    on (inr (inr three)) e = waits s (ByCollector (ReadStage t found) ∷ run) (turned S (law.Waiting 3 (suc t))) (posted_of (turns_of run)) (suc t) (step 3 e three) (moves s (ByCollector (ReadStage t found) ∷ run) S (law.Waiting 3 (suc t)) shows) f.at.0 (inr (inr refl)) (sym f.shows.posted)

-- ---- the mark of the globals' cell

-- the mark of the globals' cell leads to a state that satisfies the invariant
pub root_safe : (s : Setup) (run : List Event) (colour : ℕ) → IsRun s run → Safe s run ShadingGlobals → Safe s (ByCollector (MarkFound 0 colour) ∷ run) Posting
unfolding word_after
root_safe s run colour r f = record {
  state = rooted S;
  inv = marks_root done cycle_of claim_at IsSync S (omega (arith, low)) (f.at ∙ ap (law.Waiting 2) (sym f.shows.threads)) f.inv;
  shows = turn_shows s run S (MarkFound 0 colour) law.Rooted S.cycle S.posted (put S.colour 0 (2 * S.cycle)) S.word (record {
    posted = f.shows.posted;
    colour = λ c. elim (cases_eq c 0) [
      | inl e ↦ put-here S.colour 0 (2 * S.cycle) c e ∙ rw (test_yes 0 c (sym e)) (top c e)
      | inr n ↦ put-other S.colour 0 (2 * S.cycle) c n ∙ rw (test_no 0 c (λ e. n (sym e))) (f.shows.colour c)
    ];
    word = λ c i x. f.shows.word c i x;
    no_word = f.shows.no_word;
    null = λ c i n. n;
  }) f.shows;
  at = inr (inr refl);
}
  where
    S : law.State
    S = f.state

    low : 3 * S.cycle + 6 < done
    low = low_cycle s run S f.inv f.shows r

    top : (c : ℕ) → c ≡ 0 → 2 * S.cycle ≡ max (word_after s run (Colour c)) (grey (cycle_of (posted_of (turns_of run))))
    top c e =
        let k : cycle_of (posted_of (turns_of run)) ≡ S.cycle = cycle_in s run S f.inv f.shows in
        let now : S.colour 0 ≡ word_after s run (Colour c) = ap S.colour (sym e) ∙ f.shows.colour c in
        let fits = subst (λ p. law.IsColour p S.cycle (S.colour 0)) f.at (f.inv.colours 0) in
        let live = subst (λ p. law.RootAt (law.time_of p) S.cycle (S.colour 0)) f.at f.inv.root in
        elim fits [
          | inl blue ↦ absurd (live blue)
          | inr x ↦ elim x [ inl white ↦ omega (arith, k, now, white) | inr is_grey ↦ omega (arith, k, now, is_grey) ]
        ]
