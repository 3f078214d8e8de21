-- A store without the barrier.
use Rattle.std.proofs.Common.{◌≡◌, ◌≢◌, ℕ, Option, Some, None, List, refl, sym, subst}
use Rattle.std.specs.Prelude.{IsTrue}
use Rattle.pools.specs.Heap.{Setup, kind_of}
use Rattle.pools.specs.declared.word_kind.WordKind.{WordKind}
use Rattle.pools.specs.Layouts.{is_reference_kind}
use Rattle.colours.specs.declared.place.Place.TheVariants.{Word}
use Rattle.colours.specs.declared.ask.Ask.TheVariants.{Store}
use Rattle.colours.specs.Steps.{Step, StorePlain}
use Rattle.colours.specs.Mutator.{Phase, Ready, stage_of, phase_of, MayFollow, MayUse, MayStore, Fresh}
use Rattle.heap_table.specs.Nexts.{IsNext}
use Rattle.heap_table.proofs.Steps.{used, word_there}

-- a word that may be stored to is there
stored_there : (s : Setup) (log : List Step) (k : Option WordKind) (value : ℕ) → MayStore s log k value → k ≢ None
stored_there s log None value m = absurd m
stored_there s log (Some kind) value m = λ e. cc

pub plain_next : (s : Setup) (t : ℕ) (log : List Step) (c i v : ℕ) → phase_of s t log ≡ Ready → MayUse s log c → (IsTrue (is_reference_kind (kind_of s c i)) → Fresh s log c) → MayStore s log (kind_of s c i) v
    → IsNext s t log (λ _. StorePlain c i v) (Store (Word c i) v)
plain_next s t log c i v ready may fresh store = record {
  there = λ k. (used s log c k may, word_there s c i (stored_there s log (kind_of s c i) v store));
  operation = λ n. refl;
  follows = λ n. subst (λ (p : Phase). MayFollow s (stage_of log) p (StorePlain c i v)) (sym ready) tt;
  keeps = λ n. (may, fresh, store);
  says = λ n. tt;
  stays = λ n. refl;
}
