-- Tokens before the first step, and at the end.
use Rattle.std.proofs.Common.{◌≡◌, ℕ, suc, ◌+◌, ◌<◌, true, false, Bool, List, [], ◌∷◌, ◌++◌, length, refl, sym, ap, subst, ◌∙◌, arith, length-append}
use Rattle.std.specs.Prelude.{MatchBool, slice_index_or}
use Rattle.pools.specs.Heap.{Setup, IsSetup, is_late}
use Rattle.colours.specs.Steps.{Step}
use Rattle.colours.specs.declared.turn.Turn.{Turn}
use Rattle.colours.specs.Mutator.{Ready, Absent, phase_of}
use Rattle.colours.specs.Collector.{Collection, Collects}
use Rattle.colours.specs.Runs.{Event}
use Rattle.heap_rule.specs.View.{Share, OfThread, OfCollector}
use Rattle.heap_words.specs.Tokens.{Shared, Holding, IsFresh, AreFresh}
use Rattle.heap_words.specs.Endings.{Closing, AreSharesOf, Ends}
use Rattle.heap_table.specs.Holders.{Holder, IsOf, IsOfRun, MayCall, MayBegin}
use Rattle.heap_table.specs.Nexts.{HoldsCells, IsStage}
use Rattle.heap_table.specs.Sweepers.{SweeperLog, IsInRange}
use Rattle.heap_table.specs.Opening.{fresh_holder, IsNew, AreNew}
use Rattle.heap_table.specs.Closing.{AreOf, HaveLogs, EndsSo}

pub no_cells : (s : Setup) → HoldsCells s []
no_cells s c h = absurd h

pub first_stage : IsStage [] 0
first_stage n = (refl, omega arith)

-- the run without a step
pub no_run : (token : Holder) → IsSetup token.setup → token.log ≡ [] → IsOfRun token
no_run token ok none = subst (λ (l : List Step). IsOfRun record { table = token.table; setup = token.setup; thread = token.thread; log = l }) (sym none)
    record { run = []; is_run = record { setup = ok; run_of = tt; discipline = tt }; mine = refl; possible = tt }

pub placed_at_start : (s : Setup) (c : Collection) → Collects s [] c → IsInRange s c
placed_at_start s c k = subst (IsInRange s) (sym k) tt

-- ---- the tokens of a new heap

may_start : (w : Shared) (t : Holding) (thread : ℕ) → IsFresh w thread t → (b : Bool) → slice_index_or w.setup.late thread false ≡ b → MatchBool b (MayBegin w (fresh_holder t thread)) (MayCall w (fresh_holder t thread))
unfolding is_late
may_start w t thread f true e = record {
  of = record { table = f.0.table; setup = f.0.setup };
  absent = subst (λ (s : Setup). phase_of s thread [] ≡ Absent) (sym f.0.setup) (rw e refl);
}
may_start w t thread f false e = record {
  of = record { table = f.0.table; setup = f.0.setup };
  ready = subst (λ (s : Setup). phase_of s thread [] ≡ Ready) (sym f.0.setup) (rw e refl);
  running = λ d. cc;
}

-- a token that was dealt out
is_new : (w : Shared) (t : Holding) (thread : ℕ) → IsFresh w thread t → IsNew w thread (fresh_holder t thread)
is_new w t thread f = record {
  of = record { table = f.0.table; setup = f.0.setup };
  number = refl;
  log = refl;
  start = may_start w t thread f (slice_index_or w.setup.late thread false) refl;
}

fresh_last : (w : Shared) (first : ℕ) (ts : List Holding) (t : Holding) → AreFresh w first (ts ++ t ∷ []) → AreFresh w first ts × IsFresh w (first + length ts) t
fresh_last w first [] t h = (tt, subst (λ (n : ℕ). IsFresh w n t) (omega arith) h.0)
fresh_last w first (x ∷ ts) t h = let k = fresh_last w (suc first) ts t h.1 in ((h.0, k.0), subst (λ (n : ℕ). IsFresh w n t) (omega arith) k.1)

module _ (w : Shared) (ts rest : List Holding) (t : Holding) (n : ℕ) (e : ts ≡ rest ++ t ∷ []) (at : n ≡ length rest) (fresh : AreFresh w 0 ts) where
  pub last_fresh : AreFresh w 0 rest × IsFresh w n t
  last_fresh = let k = fresh_last w 0 rest t (subst (AreFresh w 0) e fresh) in let z : 0 + length rest ≡ n = omega arith in (k.0, subst (λ (x : ℕ). IsFresh w x t) z k.1)

  one_less : length ts ≡ suc n
  one_less = ap length e ∙ (length-append rest (t ∷ []) ∙ omega arith)

  pub last_below : (s : Setup) (ms : List Holder) (threads : ℕ) → w.setup ≡ s → s.threads ≡ threads → length ts + length ms ≡ threads → n < t.setup.threads
  last_below s ms threads set is count = let k = one_less in let g : t.setup.threads ≡ threads = ap (λ (x : Setup). x.threads) (last_fresh.1.0.setup ∙ set) ∙ is in omega arith

  pub new_more : (ms after : List Holder) (m : Holder) (threads : ℕ) → length ts + length ms ≡ threads → AreNew w (length ts) ms → m ≡ fresh_holder t n → after ≡ m ∷ ms
      → AreNew w (length rest) after × (length rest + length after ≡ threads)
  new_more ms after m threads count new made is = (
    subst (AreNew w (length rest)) (sym is) (subst (λ (x : ℕ). AreNew w x (m ∷ ms)) at (subst (λ (x : Holder). IsNew w n x) (sym made) (is_new w t n last_fresh.1), subst (λ (x : ℕ). AreNew w x ms) one_less new)),
    (let k = one_less in let l : length after ≡ suc (length ms) = ap length is in omega arith),
  )

-- ---- the tokens that come back

-- their shares, before these
abbrev pub shares_of : List Holder → List Share → List Share
shares_of [] shares = shares
shares_of (token ∷ tokens) shares = OfThread token.thread token.log ∷ shares_of tokens shares

of_last : (w : Shared) (ts gone : List Holder) (t : Holder) → AreOf w ((ts ++ t ∷ []) ++ gone) → IsOf w t
of_last w [] gone t h = h.0
of_last w (x ∷ ts) gone t h = of_last w ts gone t h.1

nothing_more : (xs : List Holder) → xs ≡ xs ++ []
nothing_more [] = refl
nothing_more (x ∷ xs) = ap (λ (ys : List Holder). x ∷ ys) (nothing_more xs)

moved : (rest gone : List Holder) (m : Holder) → (rest ++ m ∷ []) ++ gone ≡ rest ++ (m ∷ gone)
moved [] gone m = refl
moved (x ∷ rest) gone m = ap (λ (ys : List Holder). x ∷ ys) (moved rest gone m)

-- these tokens are left, and the shares of the others came back
pub record CameBack (all left : List Holder) (shares before : List Share) : Type 0 where
  pub gone : List Holder
  pub parts : all ≡ left ++ gone
  pub came : shares ≡ shares_of gone before

pub none_came : (all : List Holder) (shares : List Share) → CameBack all all shares shares
none_came all shares = record { gone = []; parts = nothing_more all; came = refl }

-- the token that comes next is of this heap
pub next_is_of : (w : Shared) (all left rest : List Holder) (m : Holder) (shares before : List Share) → AreOf w all → CameBack all left shares before → left ≡ rest ++ m ∷ [] → IsOf w m
next_is_of w all left rest m shares before of k e = of_last w rest k.gone m (subst (AreOf w) (k.parts ∙ ap (λ (xs : List Holder). xs ++ k.gone) e) of)

pub one_came : (all left rest : List Holder) (m : Holder) (shares after before : List Share) (share : Share) → CameBack all left shares before → left ≡ rest ++ m ∷ [] → share ≡ OfThread m.thread m.log → after ≡ share ∷ shares → CameBack all rest after before
one_came all left rest m shares after before share k e made is = record {
  gone = m ∷ k.gone;
  parts = k.parts ∙ (ap (λ (xs : List Holder). xs ++ k.gone) e ∙ moved rest k.gone m);
  came = is ∙ (ap (λ (x : Share). x ∷ shares) made ∙ ap (λ (xs : List Share). OfThread m.thread m.log ∷ xs) k.came);
}

logs_of : (run : List Event) (tokens : List Holder) (turns : List Turn) → AreSharesOf run (shares_of tokens (OfCollector turns ∷ [])) → HaveLogs run tokens × AreSharesOf run (OfCollector turns ∷ [])
logs_of run [] turns h = (tt, h)
logs_of run (t ∷ tokens) turns h = let k = logs_of run tokens turns h.1 in ((h.0, k.0), k.1)

pub all_came : (s : Setup) (all left : List Holder) (shares before : List Share) (sweeper : SweeperLog) (c : Closing) → CameBack all left shares before → left ≡ [] → before ≡ OfCollector sweeper.log ∷ [] → Ends s shares c → EndsSo s all sweeper c
all_came s all left shares before sweeper c k none last ends = record {
  run = ends.run;
  is_run = ends.is_run;
  words = ends.words;
  threads = logs.0;
  collector = logs.1.0;
} where
  gone_is : k.gone ≡ all
  gone_is = sym (k.parts ∙ ap (λ (xs : List Holder). xs ++ k.gone) none)

  logs : HaveLogs ends.run all × AreSharesOf ends.run (OfCollector sweeper.log ∷ [])
  logs = logs_of ends.run all sweeper.log (subst (AreSharesOf ends.run) (k.came ∙ (ap (shares_of k.gone) last ∙ ap (λ (ts : List Holder). shares_of ts (OfCollector sweeper.log ∷ [])) gone_is)) ends.shares_are)
