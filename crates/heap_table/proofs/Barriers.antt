-- The steps of a barriered store.
use Rattle.std.proofs.Common.{◌≡◌, ◌≢◌, ℕ, ◌<◌, inl, inr, ◌⊎◌, true, Option, Some, None, List, refl, sym, ap, subst, ◌∙◌}
use Rattle.std.specs.Prelude.{IsTrue}
use Rattle.pools.specs.Heap.{Setup, cells, kind_of}
use Rattle.pools.specs.declared.word_kind.WordKind.{WordKind}
use Rattle.pools.specs.declared.word_kind.WordKind.TheVariants.{Integer, Reference}
use Rattle.pools.specs.Layouts.{is_reference_kind}
use Rattle.colours.specs.declared.place.Place.TheVariants.{Colour, Word}
use Rattle.colours.specs.declared.ask.Ask.TheVariants.{Load, Store, FetchMax}
use Rattle.colours.specs.Colours.{done, mark_at}
use Rattle.colours.specs.Steps.{Step, ReadOldValue, Mark, StoreAfterBarrier}
use Rattle.colours.specs.Mutator.{Phase, Ready, stage_of, phase_of, MayFollow, MayUse, MayStore, MayFind, IsPossible, Held}
use Rattle.heap_table.specs.declared.mutator.Mutator.TheInside.{Inside}
use Rattle.heap_table.specs.Holders.{Holder}
use Rattle.heap_table.specs.MutatorView.{IsMutator, holder_of}
use Rattle.heap_table.specs.Nexts.{IsStage, IsNext}
use Rattle.heap_table.proofs.Steps.{used, word_there}

-- a word that holds references is there
is_there : (k : Option WordKind) → is_reference_kind k ≡ true → k ≢ None
is_there None e = absurd cc
is_there (Some (Integer bits)) e = absurd cc
is_there (Some (Reference layout)) e = λ x. cc

pub read_old_next : (s : Setup) (t : ℕ) (log : List Step) (c i : ℕ) → phase_of s t log ≡ Ready → MayUse s log c → IsTrue (is_reference_kind (kind_of s c i)) → IsNext s t log (ReadOldValue c i) (Load (Word c i))
read_old_next s t log c i ready may kind = record {
  there = λ k. (used s log c k may, word_there s c i (is_there (kind_of s c i) kind));
  operation = λ n. refl;
  follows = λ n. subst (λ (p : Phase). MayFollow s (stage_of log) p (ReadOldValue c i n)) (sym ready) tt;
  keeps = λ n. (may, kind);
  says = λ n. refl;
  stays = λ n. refl;
}

pub put_next : (s : Setup) (t : ℕ) (log : List Step) (c i v : ℕ) → MayFollow s (stage_of log) (phase_of s t log) (StoreAfterBarrier c i v) → MayUse s log c → IsTrue (is_reference_kind (kind_of s c i)) → MayStore s log (kind_of s c i) v
    → IsNext s t log (λ _. StoreAfterBarrier c i v) (Store (Word c i) v)
put_next s t log c i v may use_it kind store = record {
  there = λ k. (used s log c k use_it, word_there s c i (is_there (kind_of s c i) kind));
  operation = λ n. refl;
  follows = λ n. may;
  keeps = λ n. (use_it, kind, store);
  says = λ n. tt;
  stays = λ n. refl;
}

pub token_marks : (m : Inside) (held : Holder) (c value : ℕ) → IsMutator m → holder_of m ≡ held → stage_of held.log ≢ done → value ≡ mark_at m.stage
    → MayFollow held.setup (stage_of held.log) (phase_of held.setup held.thread held.log) (Mark c) → Held held.setup held.log c → IsNext held.setup held.thread held.log (λ _. Mark c) (FetchMax (Colour c) value)
token_marks m held c value k view runs is may has = record {
  there = λ k. (k c has).1;
  operation = λ n. ap (FetchMax (Colour c)) (sym (is ∙ ap mark_at stage));
  follows = λ n. may;
  keeps = λ n. has;
  says = λ n. tt;
  stays = λ n. refl;
} where
  stage : m.stage ≡ stage_of held.log
  stage = (subst (λ (h : Holder). IsStage h.log m.stage) view k.stage runs).0

pub stage_known : (m : Inside) (held : Holder) → IsMutator m → holder_of m ≡ held → stage_of held.log ≢ done → m.stage ≡ stage_of held.log
stage_known m held k view runs = (subst (λ (h : Holder). IsStage h.log m.stage) view k.stage runs).0

-- what was read is null or a cell
old_found : (s : Setup) (log : List Step) (k : Option WordKind) (v : ℕ) → MayFind s log k v → is_reference_kind k ≡ true → (v ≡ 0) ⊎ (v < cells s)
old_found s log None v f e = absurd cc
old_found s log (Some (Integer bits)) v f e = absurd cc
old_found s log (Some (Reference layout)) v (inl z) e = inl z
old_found s log (Some (Reference layout)) v (inr l) e = inr l.0.1

pub old_is : (s : Setup) (log : List Step) (c i v : ℕ) → IsPossible s log (ReadOldValue c i v) → IsTrue (is_reference_kind (kind_of s c i)) → (v ≡ 0) ⊎ (v < cells s)
old_is s log c i v p kind = old_found s log (kind_of s c i) v p kind
