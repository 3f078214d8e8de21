-- The steps that store the own stage, and the try of a late thread.
use Rattle.std.proofs.Common.{◌≡◌, ◌≢◌, ℕ, ◌<◌, ◌^◌, List, [], ◌∷◌, refl, sym, ap, subst, ◌∙◌, arith}
use Rattle.pools.specs.Heap.{Setup}
use Rattle.lemmas.specs.Numbers.{test_yes, test_no}
use Rattle.lemmas.specs.Lists.{IsIn}
use Rattle.colours.specs.declared.place.Place.TheVariants.{Posted}
use Rattle.colours.specs.declared.ask.Ask.TheVariants.{Load}
use Rattle.colours.specs.Colours.{done}
use Rattle.colours.specs.Steps.{Step, ReadPostedFirst, EnterStage, ReadPostedAgain, StoreStage}
use Rattle.colours.specs.Mutator.{Phase, Ready, Absent, Arriving, Entering, Leaving, stage_of, phase_of, MayFollow, MayUse}
use Rattle.heap_words.specs.Tokens.{Shared}
use Rattle.heap_table.specs.Holders.{Holder, IsOf, MayCall, MayBegin, with_log}
use Rattle.heap_table.specs.Nexts.{IsNext, StoresStage}

-- ---- steps that store a stage

pub stores_answer : (s : Setup) (t : ℕ) (log : List Step) (posted : ℕ) (roots : List ℕ) → MayFollow s (stage_of log) (phase_of s t log) (StoreStage posted roots) → ((root : ℕ) → IsIn root roots → MayUse s log root)
    → StoresStage s t log (StoreStage posted roots) posted
stores_answer s t log posted roots may use_them = record { operation = refl; follows = may; keeps = use_them; says = λ n. tt; stores = refl }

pub stores_done : (s : Setup) (t : ℕ) (log : List Step) → MayFollow s (stage_of log) (phase_of s t log) (StoreStage done []) → StoresStage s t log (StoreStage done []) done
stores_done s t log may = stores_answer s t log done [] may (λ root a. absurd a)

pub stores_entered : (s : Setup) (t : ℕ) (log : List Step) (posted : ℕ) → phase_of s t log ≡ Arriving posted → StoresStage s t log (EnterStage posted) posted
stores_entered s t log posted phase = record {
  operation = refl;
  follows = subst (λ (p : Phase). MayFollow s (stage_of log) p (EnterStage posted)) (sym phase) refl;
  keeps = tt;
  says = λ n. tt;
  stores = refl;
}

pub may_finish : (s : Setup) (t : ℕ) (log : List Step) → phase_of s t log ≡ Ready → MayFollow s (stage_of log) (phase_of s t log) (StoreStage done [])
may_finish s t log ready = subst (λ (p : Phase). MayFollow s (stage_of log) p (StoreStage done [])) (sym ready) (refl, refl)

pub may_leave : (s : Setup) (t : ℕ) (log : List Step) → phase_of s t log ≡ Leaving → MayFollow s (stage_of log) (phase_of s t log) (StoreStage done [])
may_leave s t log leaving = subst (λ (p : Phase). MayFollow s (stage_of log) p (StoreStage done [])) (sym leaving) (refl, refl)

-- ---- the two readings

pub first_next : (s : Setup) (t : ℕ) (log : List Step) → phase_of s t log ≡ Absent → IsNext s t log ReadPostedFirst (Load Posted)
first_next s t log absent = record {
  there = λ k. tt;
  operation = λ n. refl;
  follows = λ n. subst (λ (p : Phase). MayFollow s (stage_of log) p (ReadPostedFirst n)) (sym absent) tt;
  keeps = λ n. tt;
  says = λ n. refl;
  stays = λ n. refl;
}

pub again_next : (s : Setup) (t : ℕ) (log : List Step) → phase_of s t log ≡ Entering → IsNext s t log ReadPostedAgain (Load Posted)
again_next s t log entering = record {
  there = λ k. tt;
  operation = λ n. refl;
  follows = λ n. subst (λ (p : Phase). MayFollow s (stage_of log) p (ReadPostedAgain n)) (sym entering) tt;
  keeps = λ n. tt;
  says = λ n. refl;
  stays = λ n. refl;
}

-- ---- the whole try

module _ (heap : Shared) (m : Holder) (posted found : ℕ) (may : MayBegin heap m) where
  abbrev pub entered : List Step
  entered = ReadPostedAgain found ∷ EnterStage posted ∷ ReadPostedFirst posted ∷ m.log

  of_after : (log : List Step) (after : Holder) → after ≡ with_log m log → IsOf heap after
  of_after log after is = record { table = ap (λ (x : Holder). x.table) is ∙ may.of.table; setup = ap (λ (x : Holder). x.setup) is ∙ may.of.setup }

  pub has_begun : (after : Holder) → after ≡ with_log m entered → found ≡ posted → posted < 2 ^ 62 → MayCall heap after
  has_begun after is same low = record {
    of = of_after entered after is;
    ready = subst (λ (x : Holder). phase_of x.setup x.thread x.log ≡ Ready) (sym is) (rw (test_yes found posted same) refl);
    running = λ d. let e : posted ≡ done = ap (λ (x : Holder). stage_of x.log) (sym is) ∙ d in omega (arith, e, low);
  }

  -- where the two readings differ it has to leave
  pub is_leaving : (after : Holder) → after ≡ with_log m entered → found ≢ posted → phase_of after.setup after.thread after.log ≡ Leaving
  is_leaving after is other = subst (λ (x : Holder). phase_of x.setup x.thread x.log ≡ Leaving) (sym is) (rw (test_no found posted other) refl)

  pub has_left : (after : Holder) → after ≡ with_log m (StoreStage done [] ∷ entered) → found ≢ posted → MayBegin heap after
  has_left after is other = record {
    of = of_after (StoreStage done [] ∷ entered) after is;
    absent = subst (λ (x : Holder). phase_of x.setup x.thread x.log ≡ Absent) (sym is) (rw (test_no found posted other) refl);
  }
