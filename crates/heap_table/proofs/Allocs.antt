-- The tries of an allocation.
use Rattle.std.proofs.Common.{◌≡◌, ◌≢◌, ℕ, zero, suc, ◌+◌, ◌-◌, ◌<◌, ◌≤◌, ◌==◌, ◌^◌, inl, inr, ◌⊎◌, Bool, true, false, List, [], ◌∷◌, ◌++◌, length, get_or, slice_index, refl, sym, ap, subst, ◌∙◌, arith}
use Rattle.std.specs.Prelude.{slice_get, unwrap_or}
use Rattle.std.proofs.lemmas.Option.{unwrap_or-slice_get}
use Rattle.pools.specs.Heap.{Setup, cells, layout_of, IsOfLayout}
use Rattle.pools.specs.Pools.{first_cell}
use Rattle.pools.specs.Ends.{in_pool, pool_ends}
use Rattle.lemmas.specs.Numbers.{test_yes, test_no}
use Rattle.lemmas.specs.Lists.{IsIn}
use Rattle.colours.specs.Colours.{done, claim_at}
use Rattle.colours.specs.declared.place.Place.TheVariants.{Colour}
use Rattle.colours.specs.declared.ask.Ask.TheVariants.{CompareExchange}
use Rattle.colours.specs.Steps.{Step, Claim}
use Rattle.colours.specs.Mutator.{Phase, Ready, Trying, MayFollow, after_loss, phase_after, phase_of, stage_of}
use Rattle.collector_law.specs.Theorems.{claim_cell}
use Rattle.heap_words.specs.Tokens.{Shared}
use Rattle.heap_table.specs.declared.mutator.Mutator.TheInside.{Inside}
use Rattle.heap_table.specs.Holders.{Holder, IsOf, MayCall, IsNow, with_log}
use Rattle.heap_table.specs.MutatorView.{IsMutator, holder_of}
use Rattle.heap_table.specs.Nexts.{IsStage, IsNext}
use Rattle.heap_table.specs.Allocs.{AreOfPool, Allocates, IsPoolFrom, lost}

pub claim_next : (s : Setup) (t : ℕ) (log : List Step) (c : ℕ) → ((won : Bool) → MayFollow s (stage_of log) (phase_of s t log) (Claim c won)) → IsNext s t log (λ n. Claim c (n == 0)) (CompareExchange (Colour c) 0 (claim_at (stage_of log)))
claim_next s t log c may = record {
  there = λ k. (claim_cell s (stage_of log) (phase_of s t log) c true (may true)).1;
  operation = λ n. refl;
  follows = λ n. may (n == 0);
  keeps = λ n. tt;
  says = λ n. refl;
  stays = λ n. refl;
}

-- so for a token, whose code knows the stage
pub token_tries : (m : Inside) (held : Holder) (c value : ℕ) → IsMutator m → holder_of m ≡ held → stage_of held.log ≢ done → value ≡ claim_at m.stage
    → ((won : Bool) → MayFollow held.setup (stage_of held.log) (phase_of held.setup held.thread held.log) (Claim c won)) → IsNext held.setup held.thread held.log (λ n. Claim c (n == 0)) (CompareExchange (Colour c) 0 value)
token_tries m held c value k view runs is may = subst (λ (v : ℕ). IsNext held.setup held.thread held.log (λ n. Claim c (n == 0)) (CompareExchange (Colour c) 0 v)) (sym (is ∙ ap claim_at stage)) (claim_next held.setup held.thread held.log c may)
  where
    stage : m.stage ≡ stage_of held.log
    stage = (subst (λ (h : Holder). IsStage h.log m.stage) view k.stage runs).0

-- ---- cells that were tried one after another

-- these cells were tried first, and then this number of cells from this one up; the newest first
abbrev pub tried_up : (first count : ℕ) → List ℕ → List ℕ
tried_up first zero tried = tried
tried_up first (suc count) tried = (first + count) ∷ tried_up first count tried

pub up_length : (first count : ℕ) (tried : List ℕ) → length (tried_up first count tried) ≡ count + length tried
up_length first zero tried = omega arith
up_length first (suc count) tried = let rest = up_length first count tried in omega (arith, rest)

-- each of them is one of the stretch or one of those
pub up_among : (first count : ℕ) (tried : List ℕ) (c : ℕ) → IsIn c (tried_up first count tried) → ((first ≤ c) × (c < first + count)) ⊎ IsIn c tried
up_among first zero tried c a = inr a
up_among first (suc count) tried c (inl e) = inl (omega (arith, e), omega (arith, e))
up_among first (suc count) tried c (inr a) = elim (up_among first count tried c a) [
  | inl w ↦ let high = w.1 in inl (w.0, omega (arith, high))
  | inr b ↦ inr b
]

-- and another cell of the pool, where the stretch is of other cells of the pool
pub up_of_pool : (s : Setup) (layout first count : ℕ) (tried : List ℕ) → AreOfPool s layout tried → ((c : ℕ) → first ≤ c → c < first + count → IsOfLayout s layout c × ¬ IsIn c tried) → AreOfPool s layout (tried_up first count tried)
up_of_pool s layout first zero tried are each = are
up_of_pool s layout first (suc count) tried are each = (
  (each (first + count) (omega arith) (omega arith)).0,
  λ a. elim (up_among first count tried (first + count) a) [
    | inl w ↦ let high = w.1 in omega (arith, high)
    | inr b ↦ (each (first + count) (omega arith) (omega arith)).1 b
  ],
  up_of_pool s layout first count tried are (λ c low high. each c low (omega (arith, high))),
)

-- ---- the phase after lost tries

module _ (s : Setup) (t layout : ℕ) (log : List Step) (ready : phase_of s t log ≡ Ready) where
  pub stage_lost : (tried : List ℕ) → stage_of (lost tried ++ log) ≡ stage_of log
  stage_lost [] = refl
  stage_lost (c ∷ tried) = stage_lost tried

  abbrev phase_for : List ℕ → Phase
  phase_for [] = Ready
  phase_for (c ∷ tried) = Trying (c ∷ tried)

  lost_step : (stage : ℕ) (tried : List ℕ) (c : ℕ) → phase_after s stage (phase_for tried) (Claim c false) ≡ after_loss s tried c
  lost_step stage [] c = refl
  lost_step stage (d ∷ tried) c = refl

  loss_more : (tried : List ℕ) (c : ℕ) → IsOfLayout s layout c → suc (length tried) < slice_index s.pools layout → after_loss s tried c ≡ phase_for (c ∷ tried)
  loss_more tried c of h =
      let some : (suc (length tried) == slice_index s.pools layout) ≡ false = test_no _ _ (λ e. omega arith) in
      rw (of.2, some) refl

  loss_last : (tried : List ℕ) (c : ℕ) → IsOfLayout s layout c → suc (length tried) ≡ slice_index s.pools layout → after_loss s tried c ≡ Ready
  loss_last tried c of h =
      let all : (suc (length tried) == slice_index s.pools layout) ≡ true = test_yes _ _ h in
      rw (of.2, all) refl

  phase_lost : (tried : List ℕ) → AreOfPool s layout tried → length tried < slice_index s.pools layout → phase_of s t (lost tried ++ log) ≡ phase_for tried
  phase_lost [] are h = ready
  phase_lost (c ∷ tried) are h = ap (λ (p : Phase). phase_after s (stage_of (lost tried ++ log)) p (Claim c false)) (phase_lost tried are.2 (omega arith)) ∙ (lost_step (stage_of (lost tried ++ log)) tried c ∙ loss_more tried c are.0 h)

  -- after the last lost try
  pub all_lost : (tried : List ℕ) → AreOfPool s layout tried → length tried ≡ slice_index s.pools layout → phase_of s t (lost tried ++ log) ≡ Ready
  all_lost [] are h = ready
  all_lost (c ∷ tried) are h = ap (λ (p : Phase). phase_after s (stage_of (lost tried ++ log)) p (Claim c false)) (phase_lost tried are.2 (omega arith)) ∙ (lost_step (stage_of (lost tried ++ log)) tried c ∙ loss_last tried c are.0 h)

  may_for : (stage : ℕ) (tried : List ℕ) (c : ℕ) (won : Bool) → AreOfPool s layout (c ∷ tried) → MayFollow s stage (phase_for tried) (Claim c won)
  may_for stage [] c won are = (are.0.0, are.0.1)
  may_for stage (d ∷ tried) c won are = (subst (λ (l : ℕ). IsOfLayout s l c) (sym are.2.0.2) are.0, are.1)

  -- another cell of the pool may be tried
  pub may_try : (tried : List ℕ) (c : ℕ) (won : Bool) → AreOfPool s layout (c ∷ tried) → length tried < slice_index s.pools layout → MayFollow s (stage_of (lost tried ++ log)) (phase_of s t (lost tried ++ log)) (Claim c won)
  may_try tried c won are h = subst (λ (p : Phase). MayFollow s (stage_of (lost tried ++ log)) p (Claim c won)) (sym (phase_lost tried are.2 h)) (may_for (stage_of (lost tried ++ log)) tried c won are)

  won_ready : (stage : ℕ) (tried : List ℕ) (c : ℕ) → phase_after s stage (phase_for tried) (Claim c true) ≡ Ready
  won_ready stage [] c = refl
  won_ready stage (d ∷ tried) c = refl

  -- and where it is won the call is over
  pub won_last : (tried : List ℕ) (c : ℕ) → AreOfPool s layout tried → length tried < slice_index s.pools layout → phase_of s t (Claim c true ∷ (lost tried ++ log)) ≡ Ready
  won_last tried c are h = ap (λ (p : Phase). phase_after s (stage_of (lost tried ++ log)) p (Claim c true)) (phase_lost tried are h) ∙ won_ready (stage_of (lost tried ++ log)) tried c

one_won : (s : Setup) (layout c : ℕ) (tried : List ℕ) (log after : List Step) → AreOfPool s layout (c ∷ tried) → after ≡ Claim c true ∷ (lost tried ++ log) → Allocates s layout log c after
one_won s layout zero tried log after are e = let low = are.0.0 in absurd (omega (arith, low))
one_won s layout (suc c) tried log after are e = (tried, are, e)

-- ---- a token under way

module _ (heap : Shared) (m me : Holder) (layout : ℕ) (tried : List ℕ) (call : MayCall heap m) (are : AreOfPool m.setup layout tried) (is : IsNow m (lost tried ++ m.log) me) where
  pub still_running : stage_of me.log ≢ done
  still_running e = call.running (sym (stage_lost m.setup m.thread layout m.log call.ready tried) ∙ (ap stage_of (sym (ap (λ (x : Holder). x.log) is)) ∙ e))

  pub may_claim : (c : ℕ) → AreOfPool m.setup layout (c ∷ tried) → length tried < slice_index m.setup.pools layout → (won : Bool) → MayFollow me.setup (stage_of me.log) (phase_of me.setup me.thread me.log) (Claim c won)
  may_claim c more some won = subst (λ (x : Holder). MayFollow x.setup (stage_of x.log) (phase_of x.setup x.thread x.log) (Claim c won)) (sym is) (may_try m.setup m.thread layout m.log call.ready tried c won more some)

  may_call : (log : List Step) (after : Holder) → after ≡ with_log m log → phase_of m.setup m.thread log ≡ Ready → stage_of log ≡ stage_of m.log → MayCall heap after
  may_call log after whole last stage = record {
    of = record { table = ap (λ (x : Holder). x.table) whole ∙ call.of.table; setup = ap (λ (x : Holder). x.setup) whole ∙ call.of.setup };
    ready = subst (λ (x : Holder). phase_of x.setup x.thread x.log ≡ Ready) (sym whole) last;
    running = λ d. call.running (sym stage ∙ (ap (λ (x : Holder). stage_of x.log) (sym whole) ∙ d));
  }

  -- the try was won
  pub won : (c : ℕ) (b : Bool) (after : Holder) → AreOfPool m.setup layout (c ∷ tried) → length tried < slice_index m.setup.pools layout → IsNow me (Claim c b ∷ me.log) after → b ≡ true
      → (IsNow m after.log after × MayCall heap after) × Allocates m.setup layout m.log c after.log
  won c b after more some e so = (
    (
      whole ∙ ap (λ (l : List Step). with_log m l) (sym (ap (λ (x : Holder). x.log) whole)),
      may_call (Claim c true ∷ (lost tried ++ m.log)) after whole (won_last m.setup m.thread layout m.log call.ready tried c are some) (stage_lost m.setup m.thread layout m.log call.ready tried),
    ),
    one_won m.setup layout c tried m.log after.log more (ap (λ (x : Holder). x.log) whole),
  ) where
    whole : after ≡ with_log m (Claim c true ∷ (lost tried ++ m.log))
    whole = e ∙ (ap (λ (x : Bool). with_log me (Claim c x ∷ me.log)) so ∙ ap (λ (x : Holder). with_log x (Claim c true ∷ x.log)) is)

  -- each try was lost
  pub none : length tried ≡ slice_index m.setup.pools layout → (IsNow m me.log me × MayCall heap me) × Allocates m.setup layout m.log 0 me.log
  none all = (
    (
      is ∙ ap (λ (l : List Step). with_log m l) (sym (ap (λ (x : Holder). x.log) is)),
      may_call (lost tried ++ m.log) me is (all_lost m.setup m.thread layout m.log call.ready tried are all) (stage_lost m.setup m.thread layout m.log call.ready tried),
    ),
    (tried, are, all, ap (λ (x : Holder). x.log) is),
  )

-- ---- the two loops

-- the pool of a layout, as the heap knows it
pub pool_known : (heap : Shared) (m : Holder) (words : Shared) (pools : List ℕ) (layout first count hinted : ℕ) → IsOf heap m → layout < length m.setup.pools → words ≡ heap → pools ≡ words.setup.pools
    → first ≡ first_cell pools layout → count ≡ unwrap_or (slice_get pools layout) 0 → first ≤ hinted → hinted ≤ first + count → IsPoolFrom m.setup layout first hinted (first + count)
pool_known heap m words pools layout first count hinted of is_layout view same first_is count_is low high = record {
  is_layout = is_layout;
  first_is = first_is ∙ ap (λ (x : List ℕ). first_cell x layout) pools_are;
  end_is = ap (λ (n : ℕ). first + n) (count_is ∙ (unwrap_or-slice_get pools layout 0 ∙ ap (λ (x : List ℕ). get_or x layout 0) pools_are));
  low = low;
  high = high;
} where
  pools_are : pools ≡ m.setup.pools
  pools_are = same ∙ (ap (λ (x : Shared). x.setup.pools) view ∙ ap (λ (x : Setup). x.pools) (sym of.setup))

module _ (s : Setup) (layout first hinted stop : ℕ) (pool : IsPoolFrom s layout first hinted stop) where
  -- it ends below the limit of cells
  pub pool_fits : cells s ≤ 2 ^ 20 → stop ≤ 2 ^ 20
  pool_fits few = let ends = pool_ends s.pools layout pool.is_layout in let at = pool.first_is in let many = pool.end_is in omega (arith, few, ends, at, many)

  of_pool : (c : ℕ) → first ≤ c → c < stop → IsOfLayout s layout c
  unfolding layout_of
  of_pool c low high =
      let ends = pool_ends s.pools layout pool.is_layout in let at = pool.first_is in let many = pool.end_is in
      (omega (arith, low, at), omega (arith, high, at, many, ends), in_pool s.pools layout (c - 1) pool.is_layout (omega (arith, low, at)) (omega (arith, low, high, at, many)))

  -- the cells tried before this one in the first loop
  abbrev pub first_tries : ℕ → List ℕ
  first_tries c = tried_up hinted (c - hinted) []

  -- and in the second
  abbrev pub second_tries : ℕ → List ℕ
  second_tries c = tried_up first (c - first) (first_tries stop)

  pub first_are : (c : ℕ) → hinted ≤ c → c ≤ stop → AreOfPool s layout (first_tries c)
  first_are c from high = up_of_pool s layout hinted (c - hinted) [] tt (λ d l h. let low = pool.low in (of_pool d (omega (arith, l, low)) (omega (arith, l, h, high, from)), λ a. a))

  pub second_are : (c : ℕ) → first ≤ c → c ≤ hinted → AreOfPool s layout (second_tries c)
  second_are c from high = up_of_pool s layout first (c - first) (first_tries stop) (first_are stop pool.high (omega arith))
      (λ d l h. let top = pool.high in (of_pool d l (omega (arith, l, h, high, top, from)), λ a. elim (up_among hinted (stop - hinted) [] d a) [ inl w ↦ let low = w.0 in omega (arith, low, l, h, high, from) | inr b ↦ b ]))

  pub first_next : (c : ℕ) → hinted ≤ c → c < stop → AreOfPool s layout (c ∷ first_tries c) × (length (first_tries c) < slice_index s.pools layout)
  first_next c low high = let start = pool.low in let many = pool.end_is in let n = up_length hinted (c - hinted) [] in (
    (of_pool c (omega (arith, low, start)) high, (λ a. elim (up_among hinted (c - hinted) [] c a) [ inl w ↦ let top = w.1 in omega (arith, top, low) | inr b ↦ b ]), first_are c low (omega (arith, high))),
    omega (arith, n, many, low, high, start),
  )

  pub second_next : (c : ℕ) → first ≤ c → c < hinted → AreOfPool s layout (c ∷ second_tries c) × (length (second_tries c) < slice_index s.pools layout)
  second_next c low high = let top = pool.high in let many = pool.end_is in
      let n = up_length first (c - first) (first_tries stop) in let k = up_length hinted (stop - hinted) [] in (
        (
          of_pool c low (omega (arith, high, top)),
          (λ a. elim (up_among first (c - first) (first_tries stop) c a) [
            | inl w ↦ let over = w.1 in omega (arith, over, low)
            | inr b ↦ elim (up_among hinted (stop - hinted) [] c b) [ inl w ↦ let under = w.0 in omega (arith, under, high) | inr d ↦ d ]
          ]),
          second_are c low (omega (arith, high)),
        ),
        omega (arith, n, k, many, low, high, top),
      )

  -- both loops are over
  pub second_all : (c : ℕ) → c ≡ hinted → AreOfPool s layout (second_tries c) × (length (second_tries c) ≡ slice_index s.pools layout)
  second_all c is = let top = pool.high in let low = pool.low in let many = pool.end_is in
      let n = up_length first (c - first) (first_tries stop) in let k = up_length hinted (stop - hinted) [] in
      (second_are c (omega (arith, is, low)) (omega (arith, is)), omega (arith, n, k, many, low, top, is))

-- one lost try more
pub lost_more : (m me after : Holder) (c from : ℕ) (b : Bool) (tried : List ℕ) → from ≤ c → IsNow m (lost (tried_up from (c - from) tried) ++ m.log) me → IsNow me (Claim c b ∷ me.log) after → b ≡ false
    → IsNow m (lost (tried_up from (c + 1 - from) tried) ++ m.log) after
lost_more m me after c from b tried low is e so =
    e ∙ (ap (λ (x : Bool). with_log me (Claim c x ∷ me.log)) so ∙ (ap (λ (x : Holder). with_log x (Claim c false ∷ x.log)) is
    ∙ ap (λ (x : List ℕ). with_log m (lost x ++ m.log)) more))
  where
    at : from + (c - from) ≡ c
    at = omega (arith, low)

    one : c + 1 - from ≡ suc (c - from)
    one = omega (arith, low)

    more : (c ∷ tried_up from (c - from) tried) ≡ tried_up from (c + 1 - from) tried
    more = subst (λ (n : ℕ). (c ∷ tried_up from (c - from) tried) ≡ tried_up from n tried) (sym one) (ap (λ (x : ℕ). x ∷ tried_up from (c - from) tried) (sym at))

pub none_tried : (m : Holder) (from : ℕ) → IsNow m (lost (tried_up from (from - from) []) ++ m.log) m
none_tried m from = let none : from - from ≡ 0 = omega arith in subst (λ (n : ℕ). IsNow m (lost (tried_up from n []) ++ m.log) m) (sym none) refl

-- the second loop goes on where the first one ended
pub first_done : (m me : Holder) (c stop hinted first : ℕ) → c ≡ stop → IsNow m (lost (tried_up hinted (c - hinted) []) ++ m.log) me → IsNow m (lost (tried_up first (first - first) (tried_up hinted (stop - hinted) [])) ++ m.log) me
first_done m me c stop hinted first end is = let none : first - first ≡ 0 = omega arith in
    subst (λ (n : ℕ). IsNow m (lost (tried_up first n (tried_up hinted (stop - hinted) [])) ++ m.log) me) (sym none) (subst (λ (n : ℕ). IsNow m (lost (tried_up hinted (n - hinted) []) ++ m.log) me) end is)
