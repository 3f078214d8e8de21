-- The token after a step, and when a step comes next.
use Rattle.std.proofs.Common.{◌≡◌, ◌≢◌, ℕ, zero, suc, ◌<◌, ◌^◌, inl, inr, None, List, [], ◌∷◌, length, refl, sym, ap, subst, ◌∙◌, arith}
use Rattle.std.specs.Prelude.{slice_get}
use Rattle.pools.specs.Heap.{Setup, cells, kind_of, words_of_cell}
use Rattle.pools.specs.declared.word_kind.WordKind.{WordKind}
use Rattle.colours.specs.Colours.{done}
use Rattle.colours.specs.declared.place.Place.TheVariants.{Word}
use Rattle.colours.specs.declared.ask.Ask.{Ask}
use Rattle.colours.specs.declared.ask.Ask.TheVariants.{Load}
use Rattle.colours.specs.Steps.{Step, ReadWord, place_of}
use Rattle.colours.specs.Mutator.{Phase, Ready, stage_of, phase_of, MayFollow, MayUse}
use Rattle.colours.specs.Runs.{ByThread}
use Rattle.heap_rule.specs.View.{Share, OfThread, grown}
use Rattle.heap_rule.specs.Rule.{HasPlace, Happens}
use Rattle.heap_words.specs.Tokens as words
use Rattle.heap_table.specs.declared.mutator.Mutator.TheInside.{Inside}
use Rattle.heap_table.specs.Holders.{Holder, IsOfRun, with_log}
use Rattle.heap_table.specs.MutatorView.{IsMutator, log_in, holder_of}
use Rattle.heap_table.specs.Nexts.{HoldsCells, IsStage, IsNext}
use Rattle.heap_table.proofs.Sounds.{cells_next, of_run_next, stage_stays}

module _ (m : Inside) (s : Setup) (held : Holder) (after : words.Holding) (step : Step) (stage : ℕ) (k : IsMutator m) (view : holder_of m ≡ held) (set : held.setup ≡ s)
    (is : after ≡ record { table = m.token.table; setup = m.token.setup; share = grown (ByThread m.thread step) m.token.share }) (h : Happens s m.token.share (ByThread m.thread step)) where
  abbrev log : List Step
  log = log_in m.token.share

  log_was : log ≡ held.log
  log_was = ap (λ (x : Holder). x.log) view

  setup_is : after.setup ≡ m.token.setup
  setup_is = ap (λ (x : words.Holding). x.setup) is

  share_is : after.share ≡ OfThread m.thread (step ∷ log)
  share_is = ap (λ (x : words.Holding). x.share) is ∙ ap (grown (ByThread m.thread step)) k.own

  log_is : log_in after.share ≡ step ∷ log
  log_is = ap log_in share_is

  happens : Happens m.token.setup (OfThread m.thread log) (ByThread m.thread step)
  happens = subst (λ (x : Setup). Happens x (OfThread m.thread log) (ByThread m.thread step)) (sym set ∙ sym (ap (λ (x : Holder). x.setup) view)) (subst (λ (x : Share). Happens s x (ByThread m.thread step)) k.own h)

  whole : record { table = after.table; setup = after.setup; thread = m.thread; log = log_in after.share } ≡ with_log (holder_of m) (step ∷ log)
  whole = ap (λ (x : words.Holding). with_log record { table = x.table; setup = x.setup; thread = m.thread; log = log } (log_in x.share)) is ∙ ap (λ (x : Share). with_log (holder_of m) (log_in (grown (ByThread m.thread step) x))) k.own

  pub token_next : (hints : List ℕ) → IsStage (step ∷ held.log) stage → IsMutator record { token = after; thread = m.thread; stage = stage; hints = hints }
  token_next hints st = record {
    own = share_is ∙ ap (λ (l : List Step). OfThread m.thread l) (sym log_is);
    number = subst (λ (x : Setup). m.thread < x.threads) (sym setup_is) k.number;
    stage = subst (λ (l : List Step). IsStage l stage) (sym log_is) (subst (λ (l : List Step). IsStage (step ∷ l) stage) (sym log_was) st);
    of_run = subst IsOfRun (sym whole) (of_run_next (holder_of m) step happens k.of_run.possible);
    cells = subst (λ (x : Setup). HoldsCells x (log_in after.share)) (sym setup_is) (subst (λ (l : List Step). HoldsCells m.token.setup l) (sym log_is) (cells_next m.token.setup m.thread log step happens k.cells));
  }

  -- where the step leaves the stage
  pub token_stays : (hints : List ℕ) → stage_of (step ∷ held.log) ≡ stage_of held.log → stage ≡ m.stage → IsMutator record { token = after; thread = m.thread; stage = stage; hints = hints }
  token_stays hints stays same = token_next hints (stage_stays held.log (step ∷ held.log) stage stays (subst (λ (x : ℕ). IsStage held.log x) (sym same) (subst (λ (l : List Step). IsStage l m.stage) log_was k.stage)))

  -- where it stores one
  pub token_stores : (hints : List ℕ) → stage_of (step ∷ held.log) ≡ stage → (stage ≢ done → stage < 2 ^ 62) → IsMutator record { token = after; thread = m.thread; stage = stage; hints = hints }
  token_stores hints stores low = token_next hints (λ n. (sym stores, low (λ d. n (stores ∙ d))))

-- the word of a step is one of the heap
pub step_there : (m : Inside) (held : Holder) (s t : Setup) (step : ℕ → Step) (ask : Ask) → IsMutator m → holder_of m ≡ held → held.setup ≡ t → s ≡ t → IsNext held.setup held.thread held.log step ask → HasPlace s (place_of ask)
step_there m held s t step ask k view set same n = subst (λ (x : Setup). HasPlace x (place_of ask)) (set ∙ sym same) (n.there (subst (λ (h : Holder). HoldsCells h.setup h.log) view k.cells))

-- ---- the steps of the calls

there : (ks : List WordKind) (i : ℕ) → slice_get ks i ≢ None → i < length ks
there [] zero n = absurd (n refl)
there [] (suc i) n = absurd (n refl)
there (k ∷ ks) zero n = omega arith
there (k ∷ ks) (suc i) n = let h = there ks i n in omega arith

-- the cell that a thread may use is one of the heap
pub used : (s : Setup) (log : List Step) (c : ℕ) → HoldsCells s log → MayUse s log c → c < cells s
used s log c k (inl e) = omega arith
used s log c k (inr h) = (k c h).1

-- so is a word that has a kind
pub word_there : (s : Setup) (c i : ℕ) → kind_of s c i ≢ None → i < length (words_of_cell s c)
unfolding kind_of
word_there s c i n = there (words_of_cell s c) i n

pub read_next : (s : Setup) (t : ℕ) (log : List Step) (c i : ℕ) → phase_of s t log ≡ Ready → MayUse s log c → kind_of s c i ≢ None → IsNext s t log (ReadWord c i) (Load (Word c i))
read_next s t log c i ready may kind = record {
  there = λ k. (used s log c k may, word_there s c i kind);
  operation = λ n. refl;
  follows = λ n. subst (λ (p : Phase). MayFollow s (stage_of log) p (ReadWord c i n)) (sym ready) tt;
  keeps = λ n. (may, kind);
  says = λ n. refl;
  stays = λ n. refl;
}
