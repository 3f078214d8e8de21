-- What a share bears out of a log, it bears out after one more call of both; and the answer to the call is possible.
use Rattle.std.proofs.Common.{◌≡◌, ◌≢◌, ◌<◌, ℕ, ◌==◌, ◌⊎◌, inl, inr, Bool, true, false, ◌&&◌, Option, Some, None, List, ◌∷◌, map, if◌then◌else◌, refl, sym, ap, subst, arith, IsTrue, IsFalse}
use Rattle.std.specs.List.{Contains}
use Rattle.lemmas.specs.Numbers.{test_yes, test_false, test_no}
use Rattle.lemmas.specs.Lists.{IsIn}
use Rattle.pools.specs.declared.word_kind.WordKind.{WordKind}
use Rattle.pools.specs.declared.word_kind.WordKind.TheVariants as kind
use Rattle.pools.specs.Heap.{Setup, kind_of, IsOfLayout}
use Rattle.pools.specs.Layouts.{is_reference_kind}
use Rattle.colours.specs.Mutator.{MayFind}
use Rattle.colours.specs.Mutator as mutator
use Rattle.machine.specs.declared.action.Action.{Action}
use Rattle.machine.specs.declared.action.Action.TheVariants.{Local, Foreign, Read, StorePlain, Write, Alloc, Safepoint, End, Wrong}
use Rattle.machine.specs.declared.answer.Answer.{Answer}
use Rattle.machine.specs.declared.answer.Answer.TheVariants as answer
use Rattle.machine.specs.declared.value.Reference.{Reference as ThreadReference}
use Rattle.machine.specs.declared.value.Value.{Value}
use Rattle.machine.specs.declared.value.Value.TheVariants as value
use Rattle.machine.specs.WrappedFits.{wrapped_fits}
use Rattle.machine.specs.Log.{Log, Held, HoldsCell, IsFresh, RefersTo, RefersToCell, IsNullOrHeld, IsNullOrHeldOf, MayBeRead, MayBeStored, MayBeWritten, MayTouch, Keeps, Possible}
use Rattle.runs.specs.Machine.{WordValue}
use Rattle.runs.specs.Moves.{Move, Works, ReadsWord, StoresAfterBarrier, StoresPlain, Claims, ReadsPosted, StoresStage, steps_of, answer_of}
use Rattle.runs.specs.Discipline as discipline
use Rattle.runs.specs.Discipline.{Holds, MayName, MayPut, MayCall, IsPossibleMove}
use Rattle.runs.specs.Soundness.{EndsCall}
use Rattle.runs.specs.Shares.{holds_held}
use Rattle.program_safety.specs.Threads.{in_run, at_thread, reference_in, stored, asked_as, null_or_cell, word_read, next_value, given_as}
use Rattle.program_safety.specs.Sound.{BearsOut}
use Rattle.program_safety.proofs.Roots.{from_values, among_values}

-- the log after a call
abbrev with_step : Action → Answer → (roots : List Value) → Log → Log
with_step asked given roots log = record { asked = asked; given = given; roots = roots } ∷ log

-- what a call leaves: its answer was possible, and the share bears out the log still
pub record Left (s : Setup) (share : List Move) (log : Log) (asked : Action) (given : Answer) (roots : List Value) (move : Move) : Type 0 where
  pub possible : Possible s log asked given
  pub borne_out : BearsOut s (move ∷ share) (with_step asked given roots log)

-- held after a call that brings nothing
none_more : {A B C : Type 0} → (A → B) → ⊥ ⊎ A → C ⊎ (Unit {0} × B)
none_more f (inl x) = absurd x
none_more f (inr x) = inr (tt, f x)

-- and fresh
none_fresh : {A B : Type 0} → (A → B) → ⊥ ⊎ A → B
none_fresh f (inl x) = absurd x
none_fresh f (inr x) = f x

-- ---- what a thread may call

touch : (s : Setup) (share : List Move) (log : Log) (at : ThreadReference) → BearsOut s share log → MayTouch log at → discipline.MayTouch s share (in_run at)
touch s share log at b (inl e) = inl (ap in_run e)
touch s share log at b (inr h) = inr (b.held at h)

put : (s : Setup) (share : List Move) (log : Log) (layout : ℕ) (v : Value) → BearsOut s share log → IsNullOrHeldOf s log layout v → MayPut s share (Some (kind.Reference layout)) (stored v)
put s share log layout value.Null b h = inl refl
put s share log layout (value.Cell own at) b h = inr (b.held at h.1, h.0)
put s share log layout value.Unset b h = absurd h
put s share log layout (value.Number n) b h = absurd h
put s share log layout (value.Address at) b h = absurd h

put_plain : (s : Setup) (share : List Move) (log : Log) (cell : ℕ) (k : Option WordKind) (v : Value) → BearsOut s share log → MayBeStored s log cell k v
    → (IsTrue (is_reference_kind k) → mutator.Fresh s (steps_of share) cell) × MayPut s share k (stored v)
put_plain s share log cell None v b h = absurd h
put_plain s share log cell (Some (kind.Integer bits)) (value.Number n) b h = (λ x. absurd cc, h)
put_plain s share log cell (Some (kind.Integer bits)) v b h = absurd h
put_plain s share log cell (Some (kind.Reference layout)) v b h = (λ x. (b.fresh cell h.0).1, put s share log layout v b h.1)

put_after : (s : Setup) (share : List Move) (log : Log) (k : Option WordKind) (v : Value) → BearsOut s share log → MayBeWritten s log k v → IsTrue (is_reference_kind k) × MayPut s share k (stored v)
put_after s share log None v b h = absurd h
put_after s share log (Some (kind.Integer bits)) v b h = absurd h
put_after s share log (Some (kind.Reference layout)) v b h = (refl, put s share log layout v b h)

-- a call that obeys the discipline of a log obeys that of the share
pub may_call : (s : Setup) (share : List Move) (log : Log) (asked : Action) → BearsOut s share log → Keeps s log asked → MayCall s share (asked_as asked)
may_call s share log Local b k = tt
may_call s share log (Foreign bits) b k = tt
may_call s share log (Read at word) b k = (touch s share log at b k.0, k.1)
may_call s share log (StorePlain at word v) b k =
    let fits = put_plain s share log at.cell (kind_of s at.cell word) v b k.1 in
    (touch s share log at b k.0, fits.0, fits.1)
may_call s share log (Write at word v) b k =
    let fits = put_after s share log (kind_of s at.cell word) v b k.1 in
    (touch s share log at b k.0, fits.0, fits.1)
may_call s share log (Alloc layout) b k = tt
may_call s share log Safepoint b k = tt
may_call s share log End b k = tt
may_call s share log Wrong b k = k

named : (s : Setup) (share : List Move) (log : Log) (v : Value) → BearsOut s share log → IsNullOrHeld log v → MayName s share (reference_in v)
named s share log value.Null b h = inl refl
named s share log (value.Cell layout at) b h = inr (b.held at h)
named s share log value.Unset b h = absurd h
named s share log (value.Number n) b h = absurd h
named s share log (value.Address at) b h = absurd h

-- roots that are null or held by a log may be named
pub may_name : (s : Setup) (share : List Move) (log : Log) (roots : List Value) → BearsOut s share log → ((root : Value) → Contains roots root → IsNullOrHeld log root)
    → (r : WordValue) → IsIn r (map reference_in roots) → MayName s share r
may_name s share log roots b rooted r h =
    let there = from_values roots r h in
    subst (λ q. MayName s share q) (sym there.2) (named s share log there.0 b (rooted there.0 there.1))

-- ---- a read

read_found : (s : Setup) (share : List Move) (log : Log) (at : ThreadReference) (word : ℕ) (v : WordValue) (roots : List Value) (layout : ℕ) (z : Bool)
    → kind_of s at.cell word ≡ Some (kind.Reference layout) → (v.cell == 0) ≡ z → BearsOut s share log → MayFind s (steps_of share) (Some (kind.Reference layout)) v.cell
    → MayBeRead s log (Some (kind.Reference layout)) (if z then answer.Null else answer.Cell (at_thread v))
    × BearsOut s (ReadsWord (in_run at) word v ∷ share) (with_step (Read at word) (if z then answer.Null else answer.Cell (at_thread v)) roots log)
read_found s share log at word v roots layout true is e b find =
    (tt, record { held = λ r. none_more (b.held r); fresh = λ c f. ((b.fresh c f).0, inr (refl, refl, (b.fresh c f).1)) })
read_found s share log at word v roots layout false is e b find =
    (not_fresh find, record { held = λ r h. brought r h; fresh = λ c f. ((b.fresh c f).0, inr (refl, refl, (b.fresh c f).1)) })
  where
    not_null : v.cell ≢ 0
    not_null = test_false v.cell 0 e

    not_fresh : MayFind s (steps_of share) (Some (kind.Reference layout)) v.cell → IsOfLayout s layout v.cell × (IsFresh log v.cell → ⊥)
    not_fresh (inl n) = absurd (not_null n)
    not_fresh (inr x) = (x.0, λ f. x.1 (b.fresh v.cell f).1)

    brought : (r : ThreadReference) → (at_thread v ≡ r) ⊎ Held log r → Holds s (ReadsWord (in_run at) word v ∷ share) (in_run r)
    brought r (inl g) = inl (ap in_run (sym g), rw is refl, not_null)
    brought r (inr h) = inr (tt, b.held r h)

read_after : (s : Setup) (share : List Move) (log : Log) (at : ThreadReference) (word : ℕ) (v : WordValue) (roots : List Value) (k : Option WordKind)
    → kind_of s at.cell word ≡ k → BearsOut s share log → k ≢ None → MayFind s (steps_of share) k v.cell
    → MayBeRead s log k (word_read k v) × BearsOut s (ReadsWord (in_run at) word v ∷ share) (with_step (Read at word) (word_read k v) roots log)
read_after s share log at word v roots None is b there find = absurd (there refl)
read_after s share log at word v roots (Some (kind.Integer bits)) is b there find =
    (find, record { held = λ r. none_more (b.held r); fresh = λ c f. ((b.fresh c f).0, inr (refl, refl, (b.fresh c f).1)) })
read_after s share log at word v roots (Some (kind.Reference layout)) is b there find = read_found s share log at word v roots layout (v.cell == 0) is refl b find

-- ---- a store

-- a cell that is not null, and to which a value does not refer, is not what is stored
not_the_cell : (s : Setup) (log : Log) (layout : ℕ) (v : Value) (c : ℕ) → IsNullOrHeldOf s log layout v → 0 < c → (RefersToCell v c → ⊥) → (c == (stored v).cell) ≡ false
not_the_cell s log layout value.Null c h n d = test_no c 0 (λ e. omega (arith, n, e))
not_the_cell s log layout (value.Cell own at) c h n d = test_no c at.cell (λ e. d (sym e))
not_the_cell s log layout value.Unset c h n d = absurd h
not_the_cell s log layout (value.Number i) c h n d = absurd h
not_the_cell s log layout (value.Address at) c h n d = absurd h

plain_leaves : (s : Setup) (log : Log) (cell : ℕ) (k : Option WordKind) (v : Value) (c : ℕ) → MayBeStored s log cell k v → 0 < c → (RefersToCell v c → ⊥) → IsFalse (is_reference_kind k && (c == (stored v).cell))
plain_leaves s log cell None v c h n d = absurd h
plain_leaves s log cell (Some (kind.Integer bits)) v c h n d = refl
plain_leaves s log cell (Some (kind.Reference layout)) v c h n d = not_the_cell s log layout v c h.1 n d

write_leaves : (s : Setup) (log : Log) (k : Option WordKind) (v : Value) (c : ℕ) → MayBeWritten s log k v → 0 < c → (RefersToCell v c → ⊥) → IsFalse (is_reference_kind k && (c == (stored v).cell))
write_leaves s log None v c h n d = absurd h
write_leaves s log (Some (kind.Integer bits)) v c h n d = absurd h
write_leaves s log (Some (kind.Reference layout)) v c h n d = not_the_cell s log layout v c h n d

-- ---- an alloc

-- a cell of a layout is no null
cell_given : (s : Setup) (layout : ℕ) (r : WordValue) → IsOfLayout s layout r.cell → null_or_cell r ≡ answer.Cell (at_thread r)
cell_given s layout r of = rw (test_no r.cell 0 (λ e. omega (arith, of.0, e))) refl

claimed : (s : Setup) (share : List Move) (log : Log) (layout : ℕ) (r : WordValue) (roots : List Value) → BearsOut s share log → IsOfLayout s layout r.cell → (mutator.Held s (steps_of share) r.cell → ⊥)
    → Left s share log (Alloc layout) (answer.Cell (at_thread r)) roots (Claims r true)
claimed s share log layout r roots b of apart = record {
  possible = (of, not_held);
  borne_out = record { held = λ q h. brought q h; fresh = λ c f. fresh c f };
}
  where
    not_held : HoldsCell log r.cell → ⊥
    not_held h = apart (subst (λ c. mutator.Held s (steps_of share) c) h.1 (holds_held s share (in_run h.0) (b.held h.0 h.2)))

    brought : (q : ThreadReference) → (at_thread r ≡ q) ⊎ Held log q → Holds s (Claims r true ∷ share) (in_run q)
    brought q (inl g) = inl (ap in_run (sym g), refl)
    brought q (inr h) = inr (tt, b.held q h)

    fresh : (c : ℕ) → (r.cell ≡ c) ⊎ IsFresh log c → (0 < c) × mutator.Fresh s (steps_of (Claims r true ∷ share)) c
    fresh c (inl e) = (omega (arith, of.0, e), inl (test_yes c r.cell (sym e)))
    fresh c (inr f) = ((b.fresh c f).0, inr (refl, refl, (b.fresh c f).1))

-- ---- a safepoint

answered : (s : Setup) (share : List Move) (log : Log) (roots : List Value) (stage : ℕ) → BearsOut s share log → ((root : Value) → Contains roots root → IsNullOrHeld log root)
    → Left s share log Safepoint answer.Answered roots (StoresStage stage (map reference_in roots))
answered s share log roots stage b rooted = record {
  possible = tt;
  borne_out = record { held = λ r h. kept r h.0 h.1 h.2; fresh = λ c f. absurd f };
}
  where
    kept : (r : ThreadReference) (v : Value) → Contains roots v → RefersTo v r → Holds s (StoresStage stage (map reference_in roots) ∷ share) (in_run r)
    kept r (value.Cell layout at) c e =
        inr (subst (λ q. IsIn (in_run q) (map reference_in roots)) e (among_values roots (value.Cell layout at) c), b.held r (subst (Held log) e (rooted (value.Cell layout at) c)))
    kept r value.Unset c e = absurd e
    kept r value.Null c e = absurd e
    kept r (value.Number n) c e = absurd e
    kept r (value.Address at) c e = absurd e

-- ---- every call

-- after the last move of a call that obeyed the discipline, by a thread that has these numbers from outside
pub afterwards_call : (s : Setup) (values : List ℕ) (share : List Move) (log : Log) (roots : List Value) (asked : Action) (move : Move) → BearsOut s share log → Keeps s log asked
    → ((root : Value) → Contains roots root → IsNullOrHeld log root) → EndsCall s (map reference_in roots) (asked_as asked) move → IsPossibleMove s share move
    → Left s share log asked (given_as s values asked (answer_of (asked_as asked) move)) roots move
afterwards_call s values share log roots Local Works b k rooted e p = record {
  possible = tt;
  borne_out = record { held = λ r. none_more (b.held r); fresh = b.fresh };
}
afterwards_call s values share log roots (Foreign bits) Works b k rooted e p = record {
  possible = wrapped_fits bits (next_value values);
  borne_out = record { held = λ r. none_more (b.held r); fresh = b.fresh };
}
afterwards_call s values share log roots (Read at word) (ReadsWord base w v) b k rooted e p = rw (e.0, e.1) read
  where
    read : Left s share log (Read at word) (word_read (kind_of s at.cell word) v) roots (ReadsWord (in_run at) word v)
    read =
        let found = read_after s share log at word v roots (kind_of s at.cell word) refl b k.1 (subst (λ q. MayFind s (steps_of share) (kind_of s q.cell word) v.cell) e.0 (subst (λ i. MayFind s (steps_of share) (kind_of s base.cell i) v.cell) e.1 p)) in
        record { possible = found.0; borne_out = found.1 }
afterwards_call s values share log roots (StorePlain at word v) (StoresPlain base w u) b k rooted e p = rw (e.0, e.1, e.2) (record {
  possible = tt;
  borne_out = record {
    held = λ r. none_more (b.held r);
    fresh = λ c f. ((b.fresh c f.1).0, inr (refl, plain_leaves s log at.cell (kind_of s at.cell word) v c k.1 (b.fresh c f.1).0 f.0, (b.fresh c f.1).1));
  };
})
afterwards_call s values share log roots (Write at word v) (StoresAfterBarrier base w u) b k rooted e p = rw (e.0, e.1, e.2) (record {
  possible = tt;
  borne_out = record {
    held = λ r. none_more (b.held r);
    fresh = λ c f. ((b.fresh c f.1).0, inr (refl, write_leaves s log (kind_of s at.cell word) v c k.1 (b.fresh c f.1).0 f.0, (b.fresh c f.1).1));
  };
})
afterwards_call s values share log roots (Alloc layout) Works b k rooted e p = record {
  possible = tt;
  borne_out = record { held = λ r. none_more (b.held r); fresh = λ c. none_fresh (b.fresh c) };
}
afterwards_call s values share log roots (Alloc layout) (Claims r true) b k rooted e p = rw (cell_given s layout r e) (claimed s share log layout r roots b e p)
afterwards_call s values share log roots (Alloc layout) (Claims r false) b k rooted e p = record {
  possible = tt;
  borne_out = record { held = λ q. none_more (b.held q); fresh = λ c f. lost c f };
}
  where
    lost : (c : ℕ) → ⊥ ⊎ IsFresh log c → (0 < c) × mutator.Fresh s (steps_of (Claims r false ∷ share)) c
    lost c (inl x) = absurd x
    lost c (inr f) = ((b.fresh c f).0, inr (refl, refl, (b.fresh c f).1))
afterwards_call s values share log roots Safepoint (ReadsPosted stage) b k rooted e p = record {
  possible = tt;
  borne_out = record { held = λ r. none_more (b.held r); fresh = λ c f. ((b.fresh c f).0, inr (refl, refl, (b.fresh c f).1)) };
}
afterwards_call s values share log roots Safepoint (StoresStage to rs) b k rooted e p = rw e (answered s share log roots to b rooted)
afterwards_call s values share log roots asked move b k rooted e p = absurd e
