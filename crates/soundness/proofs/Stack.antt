-- What holds of the frames of a thread.
use Rattle.std.proofs.Common.{◌≡◌, ℕ, List, [], ◌∷◌, ◌++◌, ◌+◌, length, map, drop, refl, sym, ◌∙◌, subst, arith, true, Bool, Option, Some, inl, inr, slice_get}
use Rattle.std.proofs.lemmas.List.Elements.{Contains-append_left, Contains-append_right, Contains-append_cases}
use Rattle.std.specs.Prelude.{◌⊎◌}
use Rattle.std.specs.List.{Contains}
use Rattle.ir_ast.specs.declared.function.Function.{Function}
use Rattle.pools.specs.Heap.{Setup}
use Rattle.layout.specs.Layouts.{LaidOut}
use Rattle.shadow_stack.specs.Slots.{slots_of, held_type, is_reference_held}
use Rattle.certs.specs.declared.section.Section.{Section}
use Rattle.fact_tables.specs.Rows.{known_at, class_at}
use Rattle.facts.specs.Facts.{FactSet}
use Rattle.fact_tables.specs.declared.known.Known.TheVariants.{Cell}
use Rattle.safepoints.specs.Marks.{is_may}
use Rattle.block_rules.specs.InstrContext.{body_of, end_of}
use Rattle.block_rules.specs.Promises.{promised_in, own_mark}
use Rattle.block_rules.specs.Calls.{receive_result}
use Rattle.block_rules.specs.Certified.{Follows, EndPasses, phi_count, end_place, context_of}
use Rattle.machine.specs.declared.action.Action.{Action}
use Rattle.machine.specs.declared.action.Action.TheVariants.{Local, Foreign, Read, StorePlain, Write, Alloc, Safepoint, End, Wrong}
use Rattle.machine.specs.declared.answer.Answer.{Answer}
use Rattle.machine.specs.declared.answer.Answer.TheVariants as answer
use Rattle.machine.specs.declared.frame.Frame.{Frame}
use Rattle.machine.specs.declared.value.Reference.{Reference}
use Rattle.machine.specs.declared.value.Value.{Value}
use Rattle.machine.specs.declared.value.Value.TheVariants as value
use Rattle.machine.specs.Machine.{slot_value, frame_roots, roots_of}
use Rattle.machine.specs.Log.{Log, Held, IsFresh, RefersToCell, IsReferredTo, IsNullOrHeld, Possible}
use Rattle.soundness.specs.Meaning.{Cells, Guarded, IsOwn, IsNullOrFresh, Holds}
use Rattle.soundness.proofs.Keep.{log_keeps, classes_log_keeps}
use Rattle.soundness.proofs.Stale.{IsStill, root_own, still_keeps}
use Rattle.soundness.specs.Goes.{HaveMembers, IsSpare, Spares}
use Rattle.soundness.proofs.Roots.{rooted}
use Rattle.soundness.proofs.Slots.{AreRooted, has_roots}

-- ---- the cells that are guarded

-- the facts of a frame, and the values of their classes
pub record Saved : Type 0 where
  pub facts : FactSet
  pub cells : Cells

-- the facts name the cell by a value of a fresh class
pub record FreshIn (w : Saved) (cell : ℕ) : Type 0 where
  pub name : ℕ
  pub class : ℕ
  pub layout : ℕ
  pub stale : Bool
  pub is : known_at w.facts.values name ≡ Cell class layout stale
  pub fresh : (class_at w.facts.classes class).fresh ≡ true
  pub refers : RefersToCell (w.cells class) cell

-- the cells that frames of these facts know to be fresh
abbrev pub GuardedBy : List Saved → Guarded
GuardedBy [] cell = ⊥
GuardedBy (w ∷ saves) cell = FreshIn w cell ⊎ GuardedBy saves cell

-- ---- the frames

-- a frame's facts hold, and from the next ones the rest of its block's body is certified, and its end
pub record IsAt (heap : Setup) (program : LaidOut) (certs : List Section) (guarded : Guarded) (log : Log) (frame : Frame) (f : Function) (w : Saved) (next : FactSet) : Type 0 where
  pub there : slice_get program.of_module.functions frame.function ≡ Some f
  pub size : length frame.registers ≡ length f.locals
  pub holds : Holds heap program (slots_of program.of_module f) guarded log w.cells w.facts frame.registers frame.slots
  pub members : HaveMembers w.facts
  pub rooted : AreRooted program.of_module (slots_of program.of_module f) frame.slots
  pub last : FactSet
  pub rest : Follows (context_of program certs f (slice_get certs frame.function)) frame.block (phi_count (context_of program certs f (slice_get certs frame.function)) frame.block + frame.place) next (drop frame.place (body_of f frame.block)) last
  pub ends : EndPasses (context_of program certs f (slice_get certs frame.function)) frame.block (end_place (context_of program certs f (slice_get certs frame.function)) frame.block) last (end_of f frame.block)

-- a function is marked as one that may reach a safepoint
abbrev pub Reaches : List Section → (function : ℕ) → Type 0
Reaches certs function = is_may (own_mark (slice_get certs function)) ≡ true

-- a frame under a call of a function with this number, whose result goes into a name of it
pub record Suspended (heap : Setup) (program : LaidOut) (certs : List Section) (guarded : Guarded) (log : Log) (into : Option ℕ) (number : ℕ) (called : Function) (frame : Frame) (w : Saved) : Type 0 where
  pub function : Function
  pub instr_context : IsAt heap program certs guarded log frame function w (receive_result program.of_module into called.returned (promised_in (slice_get certs number)) w.facts)
  pub marks : Reaches certs number → Reaches certs frame.function
  pub still : Reaches certs number → IsStill w.cells w.facts
  pub named : (c cell : ℕ) → (class_at w.facts.classes c).fresh ≡ true → RefersToCell (w.cells c) cell → FreshIn w cell

-- the frames under one of a function, each with its facts
abbrev pub Below : Setup → LaidOut → List Section → Log → (into : Option ℕ) → (number : ℕ) → (called : Function) → List Frame → List Saved → Type 0
Below heap program certs log into number called [] [] = Unit {0}
Below heap program certs log into number called [] (w ∷ saves) = ⊥
Below heap program certs log into number called (frame ∷ below) [] = ⊥
Below heap program certs log into number called (frame ∷ below) (w ∷ saves) =
    (s : Suspended heap program certs (GuardedBy saves) log into number called frame w) × Below heap program certs log frame.into frame.function s.function below saves

-- the running frame, with those under it
pub record Live (heap : Setup) (program : LaidOut) (certs : List Section) (frame : Frame) (below : List Frame) (log : Log) : Type 0 where
  pub function : Function
  pub saves : List Saved
  pub now : Saved
  pub instr_context : IsAt heap program certs (GuardedBy saves) log frame function now now.facts
  pub under : Below heap program certs log frame.into frame.function function below saves
  pub guards : (cell : ℕ) → GuardedBy saves cell → IsFresh log cell

-- a thread that has ended, or that has such frames
abbrev pub IsSound : Setup → LaidOut → List Section → List Frame → Log → Type 0
IsSound heap program certs [] log = Unit {0}
IsSound heap program certs (frame ∷ below) log = Live heap program certs frame below log

-- ---- how logs grow

-- nothing held and no fresh cell is lost
pub record Grows (log later : Log) : Type 0 where
  pub held : (r : Reference) → Held log r → Held later r
  pub fresh : (cell : ℕ) → IsFresh log cell → IsFresh later cell

-- nothing held is lost, and no guarded cell that is fresh
pub record Spared (guarded : Guarded) (log later : Log) : Type 0 where
  pub held : (r : Reference) → Held log r → Held later r
  pub fresh : (cell : ℕ) → guarded cell → IsFresh log cell → IsFresh later cell

-- a guarded cell is not that of a value which is spare
no_guarded : (guarded : Guarded) (v : Value) (cell : ℕ) → IsSpare guarded v → guarded cell → RefersToCell v cell → ⊥
no_guarded guarded value.Unset cell spare g refers = refers
no_guarded guarded (value.Number n) cell spare g refers = refers
no_guarded guarded value.Null cell spare g refers = refers
no_guarded guarded (value.Cell l at) cell spare g refers = spare at refl (subst guarded (sym refers) g)
no_guarded guarded (value.Address at) cell spare g refers = refers

-- what an instruction's step does to the log: it spares what is guarded, or a stage was answered, and what the roots refer to is held
pub log_after : (heap : Setup) (log : Log) (reaches : Bool) (guarded : Guarded) (roots : List Value) (asked : Action) (given : Answer) → Spares reaches guarded asked → Possible heap log asked given
    → Spared guarded log (record { asked = asked; given = given; roots = roots } ∷ log) ⊎ ((reaches ≡ true) × ((r : Reference) → IsReferredTo roots r → Held (record { asked = asked; given = given; roots = roots } ∷ log) r))
log_after heap log reaches guarded roots Local given spares p = inl (record { held = λ r x. inr x; fresh = λ cell g x. x })
log_after heap log reaches guarded roots (Foreign bits) given spares p = inl (record { held = λ r x. inr x; fresh = λ cell g x. x })
log_after heap log reaches guarded roots (Read at word) given spares p = inl (record { held = λ r x. inr x; fresh = λ cell g x. x })
log_after heap log reaches guarded roots (StorePlain at word v) given spares p = inl (record { held = λ r x. inr x; fresh = λ cell g x. (no_guarded guarded v cell spares g, x) })
log_after heap log reaches guarded roots (Write at word v) given spares p = inl (record { held = λ r x. inr x; fresh = λ cell g x. (no_guarded guarded v cell spares g, x) })
log_after heap log reaches guarded roots (Alloc layout) given spares p = inl (record { held = λ r x. inr x; fresh = λ cell g x. inr x })
log_after heap log reaches guarded roots Safepoint answer.Done spares p = inl (record { held = λ r x. inr x; fresh = λ cell g x. x })
log_after heap log reaches guarded roots Safepoint answer.Answered spares p = inr (spares, λ r x. x)
log_after heap log reaches guarded roots Safepoint (answer.Number n) spares p = absurd p
log_after heap log reaches guarded roots Safepoint answer.Null spares p = absurd p
log_after heap log reaches guarded roots Safepoint (answer.Cell at) spares p = absurd p
log_after heap log reaches guarded roots End given spares p = inl (record { held = λ r x. inr x; fresh = λ cell g x. x })
log_after heap log reaches guarded roots Wrong given spares p = inl (record { held = λ r x. inr x; fresh = λ cell g x. x })

-- a value whose cell is guarded stays null or fresh
fresh_spared : (guarded : Guarded) (log later : Log) → Spared guarded log later → (v : Value) → ((cell : ℕ) → RefersToCell v cell → guarded cell) → IsNullOrFresh log v → IsNullOrFresh later v
fresh_spared guarded log later spared value.Unset guards fresh = fresh
fresh_spared guarded log later spared (value.Number n) guards fresh = fresh
fresh_spared guarded log later spared value.Null guards fresh = fresh
fresh_spared guarded log later spared (value.Cell l at) guards fresh = spared.fresh at.cell (guards at.cell refl) fresh
fresh_spared guarded log later spared (value.Address at) guards fresh = fresh

-- ---- what frames below keep

module _ (heap : Setup) (program : LaidOut) (certs : List Section) where
  with_holds : (guarded : Guarded) (log later : Log) (frame : Frame) (f : Function) (w : Saved) (next : FactSet) → IsAt heap program certs guarded log frame f w next
      → Holds heap program (slots_of program.of_module f) guarded later w.cells w.facts frame.registers frame.slots → IsAt heap program certs guarded later frame f w next
  with_holds guarded log later frame f w next s h = record { there = s.there; size = s.size; holds = h; members = s.members; rooted = s.rooted; last = s.last; rest = s.rest; ends = s.ends }

  -- a frame stays where it is while its log grows
  pub stands_on : (guarded : Guarded) (log later : Log) (frame : Frame) (f : Function) (w : Saved) (next : FactSet) → Grows log later → IsAt heap program certs guarded log frame f w next → IsAt heap program certs guarded later frame f w next
  stands_on guarded log later frame f w next grows s =
      with_holds guarded log later frame f w next s (log_keeps heap program (slots_of program.of_module f) guarded log w.cells w.facts frame.registers frame.slots s.holds later grows.held grows.fresh)

  -- while no stage is answered, and what they know to be fresh is spared
  pub below_keeps : (log later : Log) (into : Option ℕ) (number : ℕ) (called : Function) (below : List Frame) (saves : List Saved) → Spared (GuardedBy saves) log later → Below heap program certs log into number called below saves → Below heap program certs later into number called below saves
  below_keeps log later into number called [] [] spared b = tt
  below_keeps log later into number called [] (w ∷ saves) spared b = absurd b
  below_keeps log later into number called (frame ∷ below) [] spared b = absurd b
  below_keeps log later into number called (frame ∷ below) (w ∷ saves) spared b =
      let s = b.0 in
      let next = receive_result program.of_module into called.returned (promised_in (slice_get certs number)) w.facts in
      let kept = classes_log_keeps heap program (slots_of program.of_module s.function) (GuardedBy saves) log w.cells w.facts frame.registers frame.slots s.instr_context.holds later spared.held
      (λ c fresh. fresh_spared (GuardedBy (w ∷ saves)) log later spared (w.cells c) (λ cell refers. inl (s.named c cell fresh refers))) in (
        record { function = s.function; instr_context = with_holds (GuardedBy saves) log later frame s.function w next s.instr_context kept; marks = s.marks; still = s.still; named = s.named },
        below_keeps log later frame.into frame.function s.function below saves (record { held = spared.held; fresh = λ cell g. spared.fresh cell (inr g) }) b.1,
      )

  -- the roots of a frame are those of its table
  roots_there : (frame : Frame) (f : Function) (v : Value) → slice_get program.of_module.functions frame.function ≡ Some f → Contains (map (slot_value frame.slots) (slots_of program.of_module f).roots) v
      → Contains (frame_roots program.of_module frame (slice_get program.of_module.functions frame.function)) v
  roots_there frame f v there c = subst (λ q. Contains (frame_roots program.of_module frame q) v) (sym there) c

  -- where a stage is answered
  pub below_stays : (log later : Log) (into : Option ℕ) (number : ℕ) (called : Function) (below : List Frame) (saves : List Saved) → Reaches certs number → ((r : Reference) → IsReferredTo (roots_of program.of_module below) r → Held later r)
      → Below heap program certs log into number called below saves → Below heap program certs later into number called below saves
  below_stays log later into number called [] [] reaches held b = tt
  below_stays log later into number called [] (w ∷ saves) reaches held b = absurd b
  below_stays log later into number called (frame ∷ below) [] reaches held b = absurd b
  below_stays log later into number called (frame ∷ below) (w ∷ saves) reaches held b =
      let s = b.0 in
      let table = slots_of program.of_module s.function in
      let own = frame_roots program.of_module frame (slice_get program.of_module.functions frame.function) in
      let stays : (t : ℕ) → is_reference_held program.of_module (held_type table t) ≡ true → IsOwn log (GuardedBy saves) (slot_value frame.slots t) → IsOwn later (GuardedBy saves) (slot_value frame.slots t) =
      λ t reference. root_own log later (GuardedBy saves) (roots_of program.of_module below ++ own) (slot_value frame.slots t) held
      (elim (has_roots program.of_module table frame.slots s.instr_context.rooted t reference) [
        | inl null ↦ inl null
        | inr c ↦ inr (Contains-append_right (roots_of program.of_module below) own (slot_value frame.slots t) (roots_there frame s.function (slot_value frame.slots t) s.instr_context.there c))
      ]) in
      let kept = still_keeps heap program table (GuardedBy saves) log w.cells w.facts frame.registers frame.slots s.instr_context.holds later (s.still reaches) stays in (
        record {
          function = s.function;
          instr_context = with_holds (GuardedBy saves) log later frame s.function w (receive_result program.of_module into called.returned (promised_in (slice_get certs number)) w.facts) s.instr_context kept;
          marks = s.marks;
          still = s.still;
          named = s.named;
        },
        below_stays log later frame.into frame.function s.function below saves (s.marks reaches) (λ r x. held r (x.0, Contains-append_left (roots_of program.of_module below) own x.0 x.1, x.2)) b.1,
      )

  -- under a function that may reach a safepoint nothing is known to be fresh
  pub no_guards : (log : Log) (into : Option ℕ) (number : ℕ) (called : Function) (below : List Frame) (saves : List Saved) → Reaches certs number → Below heap program certs log into number called below saves → (cell : ℕ) → GuardedBy saves cell → ⊥
  no_guards log into number called [] [] reaches b cell g = g
  no_guards log into number called [] (w ∷ saves) reaches b cell g = b
  no_guards log into number called (frame ∷ below) [] reaches b cell g = b
  no_guards log into number called (frame ∷ below) (w ∷ saves) reaches b cell (inl x) = let z = (b.0.still reaches).none_fresh x.name x.class x.layout x.stale x.is in absurd (let y = sym z ∙ x.fresh in cc)
  no_guards log into number called (frame ∷ below) (w ∷ saves) reaches b cell (inr g) = no_guards log frame.into frame.function b.0.function below saves (b.0.marks reaches) b.1 cell g

  -- the roots of a frame whose facts hold are null or held
  frame_rooted : (guarded : Guarded) (log : Log) (frame : Frame) (f : Function) (w : Saved) (next : FactSet) → IsAt heap program certs guarded log frame f w next → (root : Value)
      → Contains (frame_roots program.of_module frame (slice_get program.of_module.functions frame.function)) root → IsNullOrHeld log root
  frame_rooted guarded log frame f w next s root c = rooted heap program f guarded log w.cells w.facts frame s.holds s.there root c

  below_rooted : (log : Log) (into : Option ℕ) (number : ℕ) (called : Function) (below : List Frame) (saves : List Saved) → Below heap program certs log into number called below saves → (root : Value)
      → Contains (roots_of program.of_module below) root → IsNullOrHeld log root
  below_rooted log into number called [] [] b root c = absurd (omega (arith, c.1))
  below_rooted log into number called [] (w ∷ saves) b root c = absurd b
  below_rooted log into number called (frame ∷ below) [] b root c = absurd b
  below_rooted log into number called (frame ∷ below) (w ∷ saves) b root c =
      elim (Contains-append_cases (roots_of program.of_module below) (frame_roots program.of_module frame (slice_get program.of_module.functions frame.function)) root c) [
        | inl x ↦ below_rooted log frame.into frame.function b.0.function below saves b.1 root x
        | inr x ↦ frame_rooted (GuardedBy saves) log frame b.0.function w (receive_result program.of_module into called.returned (promised_in (slice_get certs number)) w.facts) b.0.instr_context root x
      ]

  -- and so are those of all frames
  pub all_rooted : (frame : Frame) (below : List Frame) (log : Log) → Live heap program certs frame below log → (root : Value) → Contains (roots_of program.of_module (frame ∷ below)) root → IsNullOrHeld log root
  all_rooted frame below log x root c =
      elim (Contains-append_cases (roots_of program.of_module below) (frame_roots program.of_module frame (slice_get program.of_module.functions frame.function)) root c) [
        | inl y ↦ below_rooted log frame.into frame.function x.function below x.saves x.under root y
        | inr y ↦ frame_rooted (GuardedBy x.saves) log frame x.function x.now x.now.facts x.instr_context root y
      ]

  -- ---- a step that touches no frame below

  -- the frames stay so while the log grows
  pub live_keeps : (frame : Frame) (below : List Frame) (log later : Log) → Grows log later → Live heap program certs frame below log → Live heap program certs frame below later
  live_keeps frame below log later grows x = record {
    function = x.function;
    saves = x.saves;
    now = x.now;
    instr_context = stands_on (GuardedBy x.saves) log later frame x.function x.now x.now.facts grows x.instr_context;
    under = below_keeps log later frame.into frame.function x.function below x.saves (record { held = grows.held; fresh = λ cell g. grows.fresh cell }) x.under;
    guards = λ cell g. grows.fresh cell (x.guards cell g);
  }

  pub sound_keeps : (frames : List Frame) (log later : Log) → Grows log later → IsSound heap program certs frames log → IsSound heap program certs frames later
  sound_keeps [] log later grows s = tt
  sound_keeps (frame ∷ below) log later grows s = live_keeps frame below log later grows s
