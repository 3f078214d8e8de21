-- A read, and a store without the barrier, of a watched thread.
use Rattle.std.proofs.Common.{◌≡◌, ◌≢◌, ℕ, suc, ◌<◌, ◌^◌, inl, inr, Option, Some, None, List, ◌∷◌, refl, sym, ap, subst, ◌∙◌}
use Rattle.pools.specs.Heap.{Setup, kind_of}
use Rattle.pools.specs.declared.word_kind.WordKind.{WordKind}
use Rattle.pools.specs.declared.word_kind.WordKind.TheVariants as kind
use Rattle.colours.specs.Steps.{Step, ReadWord, StorePlain}
use Rattle.colours.specs.Mutator.{Ready, IsPossible, MayFind}
use Rattle.runs.specs.Machine.{WordValue, Action, Machine, Done, Got}
use Rattle.runs.specs.Machine as machine
use Rattle.runs.specs.Moves.{ReadsWord, StoresPlain}
use Rattle.moves.specs.Kinds.{MayHold, AnswersByKind}
use Rattle.heap_words.specs.Tokens.{Shared}
use Rattle.heap_table.specs.Holders.{Holder, MayCall, IsNow, with_log}
use Rattle.watched_serving.specs.Serving.{IsServed}
use Rattle.serving.proofs.UnderWay.{last}
use Rattle.serving.proofs.ReadServed.{called, at_most}
use Rattle.watched_serving.proofs.UnderWay.{begins, ends}

-- what may be found fits the kind of its word
holds : (s : Setup) (log : List Step) (k : Option WordKind) (value : ℕ) → k ≢ None → MayFind s log k value → value < 2 ^ 64 → MayHold s k (record { cell = value; birth = 0 })
holds s log None value n f small = absurd (n refl)
holds s log (Some (kind.Integer bits)) value n f small = small
holds s log (Some (kind.Reference layout)) value n (inl z) small = inl z
holds s log (Some (kind.Reference layout)) value n (inr o) small = inr o.0

module _ (m : Machine) (heap : Shared) (t : Holder) (state : m.State) (call : MayCall heap t) (base : WordValue) (word cell : ℕ) (number : cell ≡ base.cell) (after : Holder) where
  pub read_served : (value : ℕ) → m.action state ≡ machine.Read base word → kind_of t.setup cell word ≢ None → IsPossible t.setup t.log (ReadWord cell word value) → value < 2 ^ 64
      → IsNow t (ReadWord cell word value ∷ t.log) after → IsServed m heap t state after (Got (record { cell = value; birth = 0 }))
  read_served value e there possible small now = record {
    token = token.0;
    ready = token.1;
    goes = λ start moves v. ends m start (suc moves) t after _ (suc moves) (at_most _) (ReadWord base.cell word value ∷ t.log) is
        (last t.setup m t.thread start state (machine.Read base word) moves t.log Ready _ (begins m start moves t state v (machine.Read base word) call.ready e)
        (ReadsWord base word (record { cell = value; birth = 0 })) (ReadWord base.cell word value) refl tt (refl, refl) refl Ready refl refl);
    by_kind = subst (λ (a : Action). AnswersByKind t.setup a (Got (record { cell = value; birth = 0 }))) (sym e)
        (holds t.setup t.log (kind_of t.setup base.cell word) value (subst (λ (c : ℕ). kind_of t.setup c word ≢ None) number there) (subst (λ (c : ℕ). IsPossible t.setup t.log (ReadWord c word value)) number possible) small);
  }
    where
      token : IsNow t after.log after × MayCall heap after
      token = called heap t after (ReadWord cell word value ∷ t.log) call now refl call.running

      is : IsNow t (ReadWord base.cell word value ∷ t.log) after
      is = now ∙ ap (λ (c : ℕ). with_log t (ReadWord c word value ∷ t.log)) number

  pub plain_served : (value : WordValue) (stored : ℕ) → m.action state ≡ machine.StorePlain base word value → stored ≡ value.cell
      → IsNow t (StorePlain cell word stored ∷ t.log) after → IsServed m heap t state after Done
  plain_served value stored e same now = record {
    token = token.0;
    ready = token.1;
    goes = λ start moves v. ends m start (suc moves) t after _ (suc moves) (at_most _) (StorePlain base.cell word value.cell ∷ t.log) is
        (last t.setup m t.thread start state (machine.StorePlain base word value) moves t.log Ready _ (begins m start moves t state v (machine.StorePlain base word value) call.ready e)
        (StoresPlain base word value) (StorePlain base.cell word value.cell) refl tt (refl, refl, refl) tt Ready refl refl);
    by_kind = subst (λ (a : Action). AnswersByKind t.setup a Done) (sym e) tt;
  }
    where
      token : IsNow t after.log after × MayCall heap after
      token = called heap t after (StorePlain cell word stored ∷ t.log) call now refl call.running

      is : IsNow t (StorePlain base.cell word value.cell ∷ t.log) after
      is = now ∙ (ap (λ (c : ℕ). with_log t (StorePlain c word stored ∷ t.log)) number ∙ ap (λ (v : ℕ). with_log t (StorePlain base.cell word v ∷ t.log)) same)
