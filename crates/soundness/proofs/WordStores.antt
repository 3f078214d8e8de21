-- Stores of values in words, plain and with the barrier.
use Rattle.std.proofs.Common.{◌≡◌, ℕ, ◌<◌, ◌∷◌, length, refl, sym, ap, ◌∙◌, subst, true, false, Bool, Option, Some, None, inr, List}
use Rattle.std.specs.Prelude.{◌||◌, not, if◌then◌else◌}
use Rattle.lemmas.specs.Numbers.{test_true, test_yes}
use Rattle.lemmas.specs.Bools.{and_parts}
use Rattle.ir_ast.specs.declared.function.Function.{Function}
use Rattle.ir_ast.specs.declared.memory.MemoryOp.TheVariants as memory
use Rattle.ir_ast.specs.declared.operand.Constant.TheVariants as constant
use Rattle.ir_ast.specs.declared.operand.Operand.{Operand}
use Rattle.ir_ast.specs.declared.operand.Operand.TheVariants as operand
use Rattle.barriers.specs.Stores.{may_store_plain, is_fresh_cell}
use Rattle.pools.specs.Heap.{Setup}
use Rattle.pools.specs.Layouts.{kind_of_word}
use Rattle.pools.specs.WordSets.{has_word}
use Rattle.pools.specs.declared.word_kind.WordKind.{WordKind}
use Rattle.pools.specs.declared.word_kind.WordKind.TheVariants as word
use Rattle.pools.specs.declared.word_set.WordSet.{WordSet}
use Rattle.layout.specs.Globals.{IsHeapFor, global_word}
use Rattle.layout.specs.Layouts.{LaidOut}
use Rattle.types.specs.ValueTypes.{has_type}
use Rattle.shadow_stack.specs.Slots.{SlotTable}
use Rattle.certs.specs.declared.section.Section.{Section}
use Rattle.fact_tables.specs.declared.known.Known.{Known}
use Rattle.fact_tables.specs.declared.known.Known.TheVariants.{Nothing, Number, Cell, Null, Address, GlobalAddress}
use Rattle.fact_tables.specs.Rows.{known_at, class_at}
use Rattle.facts.specs.Facts.{FactSet, drop_fresh_of}
use Rattle.type_kinds.specs.declared.wanted_word.WantedWord.{WantedWord}
use Rattle.type_kinds.specs.declared.type_kind.TypeKind.{TypeKind}
use Rattle.type_kinds.specs.declared.type_kind.TypeKind.TheVariants.{NoValue, Bits, Reference, AnyReference, Address as AddressKind, Other}
use Rattle.block_rules.specs.Barriers.{is_own_place, needs_no_barrier}
use Rattle.block_rules.specs.Integers.{below_of}
use Rattle.block_rules.specs.Operands as o
use Rattle.block_rules.specs.Places as r
use Rattle.type_kinds.specs.WantedWords.{holds_wanted, each_word, wanted_by_store}
use Rattle.block_rules.specs.Rules.{after_memory}
use Rattle.type_kinds.specs.TypeKinds.{kind_of, is_integer, fits_layout, may_be_reference}
use Rattle.machine.specs.declared.action.Action.TheVariants.{Write, StorePlain, Wrong}
use Rattle.machine.specs.declared.frame.Frame.{Frame}
use Rattle.machine.specs.declared.value.Reference.{Reference as Ref}
use Rattle.machine.specs.declared.value.Value.{Value}
use Rattle.machine.specs.declared.value.Value.TheVariants as value
use Rattle.machine.specs.Asks as a
use Rattle.machine.specs.Elements.{takes_value}
use Rattle.machine.specs.Kinds as k
use Rattle.machine.specs.Kinds.{register_at, value_of}
use Rattle.machine.specs.Log.{Log, Held, IsFresh, RefersTo, RefersToCell, IsNullOrHeldOf, MayBeStored, MayBeWritten}
use Rattle.machine.specs.Machine as mc
use Rattle.soundness.specs.Meaning.{Cells, Guarded, IsReferenceTo, IsOwn, IsInteger, Means, Holds}
use Rattle.soundness.proofs.Keep.{log_keeps}
use Rattle.soundness.proofs.Lists.{turned}
use Rattle.soundness.proofs.PlaceFacts.{holds_as_asked}
use Rattle.soundness.specs.Goes.{Goes, HaveMembers, IsSpare}
use Rattle.soundness.proofs.SameKinds.{part_refers}
use Rattle.soundness.proofs.WordReads.{bits_of_word}
use Rattle.soundness.proofs.Steps.{available, integer_is, no_number, integer_refers, no_value, usable}
use Rattle.soundness.proofs.Stored.{class_stored}
use Rattle.soundness.proofs.Touches.{Touches, IsPlace, place_value_of, place_at, no_slot_at, on_base, on_global, known_place, place_inside, word_touches}

-- an operand whose value is stored: available, a value of its type, not stale, and no slot
pub record IsStored (p : LaidOut) (f : Function) (table : SlotTable) (facts : FactSet) (written : ℕ) (x : Operand) : Type 0 where
  pub there : o.is_available table facts x ≡ true
  pub typed : o.is_of_type p.of_module f facts written x ≡ true
  pub current : o.is_current facts (o.known_of facts x) ≡ true
  pub no_slot : o.slot_named table x ≡ None

-- ---- references

module _ (heap : Setup) (guarded : Guarded) (log : Log) where
  -- what is own spares what frames below know
  own_spare : (v : Value) → IsOwn log guarded v → IsSpare guarded v
  own_spare value.Unset own r refers = absurd own
  own_spare (value.Number n) own r refers = absurd own
  own_spare value.Null own r refers = absurd refers
  own_spare (value.Cell l at) own r refers = λ g. own.1 (subst (λ x. guarded x.cell) (sym refers) g)
  own_spare (value.Address x) own r refers = absurd own

  -- and a reference to a layout that is own may be put into a word of it
  own_held : (layout : ℕ) (v : Value) → IsReferenceTo heap layout v → IsOwn log guarded v → IsNullOrHeldOf heap log layout v
  own_held layout value.Unset refers own = absurd own
  own_held layout (value.Number n) refers own = absurd own
  own_held layout value.Null refers own = tt
  own_held layout (value.Cell l at) refers own = (refers.1, own.0)
  own_held layout (value.Address x) refers own = absurd own

  -- it is of the layout to the machine
  of_layout : (layout : ℕ) (v : Value) → IsReferenceTo heap layout v → k.fits_layout layout v ≡ true
  of_layout layout value.Unset refers = absurd refers
  of_layout layout (value.Number n) refers = absurd refers
  of_layout layout value.Null refers = refl
  of_layout layout (value.Cell own at) refers = test_yes own layout refers.0
  of_layout layout (value.Address at) refers = absurd refers

-- what a stored value is, by the word that takes it: an integer of its bits, or null or an own reference to its layout
pub data IsTaken (heap : Setup) (p : LaidOut) (guarded : Guarded) (log : Log) (stored : ℕ) (v : Value) (q : Option WordKind) : Type 0 where
  AsNumber : (bits : ℕ) → kind_of p.of_module stored ≡ Bits bits → q ≡ Some (word.Integer bits) → (below : Option ℕ) → IsInteger bits below v → IsTaken heap p guarded log stored v q
  AsReference : (layout : ℕ) → may_be_reference (kind_of p.of_module stored) ≡ true → fits_layout layout (kind_of p.of_module stored) ≡ true → q ≡ Some (word.Reference layout) → IsReferenceTo heap layout v → IsOwn log guarded v
      → IsTaken heap p guarded log stored v q

module _ (heap : Setup) (p : LaidOut) (certs : List Section) (reaches : Bool) (f : Function) (table : SlotTable) (guarded : Guarded) (log : Log) (fits : IsHeapFor heap p) (cells : Cells) (facts : FactSet) (frame : Frame)
    (h : Holds heap p table guarded log cells facts frame.registers frame.slots) (members : HaveMembers facts) where
  -- what is known as a current value that a word of references takes is one of its layout, and own
  known_reference : (layout : ℕ) (known : Known) (v : Value) → Means heap p guarded log cells (length facts.classes) frame.registers known v → o.is_known facts known ≡ true → o.is_current facts known ≡ true → r.fits_word (Some (word.Reference layout)) (r.wanted_by_value known) ≡ true
      → IsReferenceTo heap layout v × IsOwn log guarded v
  known_reference layout Nothing v means is current fit = absurd cc
  known_reference layout (Number bits below) v means is current fit = absurd cc
  known_reference layout (Cell c l true) v means is current fit = absurd cc
  known_reference layout (Cell c l false) v means is current fit = (subst (λ x. IsReferenceTo heap x v) (sym (test_true layout l fit)) means.refers, means.own refl)
  known_reference layout Null v means is current fit = subst (λ x. IsReferenceTo heap layout x × IsOwn log guarded x) (sym means) (tt, tt)
  known_reference layout (Address base words) v means is current fit = absurd cc
  known_reference layout (GlobalAddress symbol) v means is current fit = absurd cc

  -- and so is an operand
  reference_stored : (stored layout : ℕ) (x : Operand) → may_be_reference (kind_of p.of_module stored) ≡ true → IsStored p f table facts stored x → r.fits_word (Some (word.Reference layout)) (r.wanted_by_value (o.known_of facts x)) ≡ true
      → IsReferenceTo heap layout (value_of p.of_module frame.registers stored x) × IsOwn log guarded (value_of p.of_module frame.registers stored x)
  reference_stored stored layout (operand.Constant (constant.Number n)) refers i fit = absurd (no_number n (kind_of p.of_module stored) (and_parts (o.fits_bits n (kind_of p.of_module stored)) true i.typed).0 refers)
  reference_stored stored layout (operand.Constant (constant.Float n)) refers i fit = absurd (integer_refers (kind_of p.of_module stored) (and_parts (is_integer (kind_of p.of_module stored)) true i.typed).0 refers)
  reference_stored stored layout (operand.Constant (constant.Truth b)) refers i fit = absurd (let t = i.typed in cc)
  reference_stored stored layout (operand.Constant constant.Null) refers i fit = (tt, tt)
  reference_stored stored layout (operand.Local u) refers i fit =
      known_reference layout (known_at facts.values u) (register_at frame.registers u) (h.values u) (available heap p certs reaches f table guarded log cells facts frame h u i.no_slot i.there) i.current fit
  reference_stored stored layout (operand.Global symbol) refers i fit = absurd (no_value _ i.typed)
  reference_stored stored layout (operand.CastGlobal from symbol to) refers i fit = absurd (no_value _ i.typed)

  -- a word that takes the type and the value takes it so
  taken : (stored : ℕ) (x : Operand) → IsStored p f table facts stored x → (kind : TypeKind) → kind_of p.of_module stored ≡ kind → (q : Option WordKind) → holds_wanted (wanted_by_store kind) q ≡ true → r.fits_word q (r.wanted_by_value (o.known_of facts x)) ≡ true
      → IsTaken heap p guarded log stored (value_of p.of_module frame.registers stored x) q
  taken stored x i NoValue is q e fit = absurd cc
  taken stored x i (Bits bits) is None e fit = absurd cc
  taken stored x i (Bits bits) is (Some (word.Integer other)) e fit =
      AsNumber bits is (ap (λ b. Some (word.Integer b)) (test_true other bits e)) (below_of facts x) (integer_is heap p certs reaches f table guarded log cells facts frame h stored bits x is i.there i.typed i.no_slot)
  taken stored x i (Bits bits) is (Some (word.Reference other)) e fit = absurd cc
  taken stored x i (Reference layout) is None e fit = absurd cc
  taken stored x i (Reference layout) is (Some (word.Integer bits)) e fit = absurd cc
  taken stored x i (Reference layout) is (Some (word.Reference other)) e fit =
      let refers = ap may_be_reference is in
      let q = reference_stored stored other x refers i fit in
      AsReference other refers (ap (fits_layout other) is ∙ turned other layout e) refl q.0 q.1
  taken stored x i AnyReference is None e fit = absurd cc
  taken stored x i AnyReference is (Some (word.Integer bits)) e fit = absurd cc
  taken stored x i AnyReference is (Some (word.Reference other)) e fit =
      let refers = ap may_be_reference is in
      let q = reference_stored stored other x refers i fit in
      AsReference other refers (ap (fits_layout other) is) refl q.0 q.1
  taken stored x i AddressKind is q e fit = absurd cc
  taken stored x i Other is q e fit = absurd cc

  -- ---- what a store leaves

  -- where no cell was stored
  none_stored : (later : Log) → ((r : Ref) → Held log r → Held later r) → ((cell : ℕ) → IsFresh log cell → IsFresh later cell) → (more : Cells) × Holds heap p table guarded later more facts frame.registers frame.slots
  none_stored later held fresh = (cells, log_keeps heap p table guarded log cells facts frame.registers frame.slots h later held fresh)

  -- the class of the value is fresh no more
  stored_after : (stored : ℕ) (x : Operand) → IsStored p f table facts stored x → (later : Log) → ((r : Ref) → Held log r → Held later r) → ((cell : ℕ) → IsFresh log cell → (RefersToCell (value_of p.of_module frame.registers stored x) cell → ⊥) → IsFresh later cell)
      → (more : Cells) × Holds heap p table guarded later more (drop_fresh_of (o.known_of facts x) facts) frame.registers frame.slots
  stored_after stored (operand.Constant (constant.Number n)) i later held fresh = none_stored later held (λ cell y. fresh cell y (λ z. z))
  stored_after stored (operand.Constant (constant.Float n)) i later held fresh = none_stored later held (λ cell y. fresh cell y (λ z. z))
  stored_after stored (operand.Constant (constant.Truth b)) i later held fresh = absurd (let t = i.typed in cc)
  stored_after stored (operand.Constant constant.Null) i later held fresh = none_stored later held (λ cell y. fresh cell y (λ z. z))
  stored_after stored (operand.Global symbol) i later held fresh = absurd (no_value _ i.typed)
  stored_after stored (operand.CastGlobal from symbol to) i later held fresh = absurd (no_value _ i.typed)
  stored_after stored (operand.Local u) i later held fresh = by (known_at facts.values u) refl (h.values u) (and_parts (has_type p.of_module f stored u) (o.known_fits (kind_of p.of_module stored) (known_at facts.values u)) i.typed).1 i.current where
    by : (known : Known) → known_at facts.values u ≡ known → Means heap p guarded log cells (length facts.classes) frame.registers known (register_at frame.registers u) → o.known_fits (kind_of p.of_module stored) known ≡ true → o.is_current facts known ≡ true
        → (more : Cells) × Holds heap p table guarded later more (drop_fresh_of known facts) frame.registers frame.slots
    by Nothing is means fit current = absurd (let y = available heap p certs reaches f table guarded log cells facts frame h u i.no_slot i.there in let z = rw is at y in cc)
    by (Number bits below) is means fit current = none_stored later held (λ cell y. fresh cell y (λ z. subst (λ w. RefersToCell w cell) means.is z))
    by (Cell c l true) is means fit current = absurd cc
    by (Cell c l false) is means fit current = (
      _,
      class_stored heap p table guarded log cells facts frame.registers frame.slots h members later held u c l is (λ cell y other. fresh cell y (λ z. other (subst (λ w. RefersToCell w cell) means.is z))),
    )
    by Null is means fit current = none_stored later held (λ cell y. fresh cell y (λ z. subst (λ w. RefersToCell w cell) means z))
    by (Address base words) is means fit current = absurd cc
    by (GlobalAddress symbol) is means fit current = absurd cc

  -- ---- at a word

  module _ (stored : ℕ) (x : Operand) (i : IsStored p f table facts stored x) (v : Value) (q : Option WordKind) (t : Touches heap p log v q) where
    abbrev new : Value
    new = value_of p.of_module frame.registers stored x

    -- the word takes the value
    takes : IsTaken heap p guarded log stored new q → takes_value p.of_module stored q new ≡ true
    takes (AsNumber bits is there below n) = rw (there, bits_of_word p stored bits is, ap k.is_number n.is) refl
    takes (AsReference layout refers fit there is own) = rw (there, part_refers p.of_module layout stored fit, of_layout heap guarded log layout new is) refl

    -- and may take it so
    may_be_stored : IsTaken heap p guarded log stored new q → (may_be_reference (kind_of p.of_module stored) ≡ true → IsFresh log t.cell.cell) → MayBeStored heap log t.cell.cell q new
    may_be_stored (AsNumber bits is there below n) fresh = subst (λ y. MayBeStored heap log t.cell.cell y new) (sym there) (subst (λ y. MayBeStored heap log t.cell.cell (Some (word.Integer bits)) y) (sym n.is) n.fits)
    may_be_stored (AsReference layout refers fit there is own) fresh = subst (λ y. MayBeStored heap log t.cell.cell y new) (sym there) (fresh refers, own_held heap guarded log layout new is own)

    -- with the barrier a reference may be put into any
    may_be_written : IsTaken heap p guarded log stored new q → may_be_reference (kind_of p.of_module stored) ≡ true → MayBeWritten heap log q new
    may_be_written (AsNumber bits is there below n) refers = absurd (let z = sym refers ∙ ap may_be_reference is in cc)
    may_be_written (AsReference layout refers fit there is own) r = subst (λ y. MayBeWritten heap log y new) (sym there) (own_held heap guarded log layout new is own)

    -- frames below are spared
    spared : IsTaken heap p guarded log stored new q → IsSpare guarded new
    spared (AsNumber bits is there below n) r to = absurd (subst (λ y. RefersTo y r) n.is to)
    spared (AsReference layout refers fit there is own) r to = own_spare heap guarded log new own r to

    -- a plain store
    plain_goes : IsTaken heap p guarded log stored new q → (may_be_reference (kind_of p.of_module stored) ≡ true → IsFresh log t.cell.cell)
        → Goes heap p table frame.slots reaches guarded log (drop_fresh_of (o.known_of facts x) facts) (a.plain_action p stored new (Some t.at)) (λ given. frame)
    plain_goes taken fresh =
        subst (λ y. Goes heap p table frame.slots reaches guarded log (drop_fresh_of (o.known_of facts x) facts) y (λ given. frame)) (sym (t.stores stored new ∙ rw (takes taken) refl))
        (record {
          keeps = (t.may, subst (λ y. MayBeStored heap log t.cell.cell y new) (sym t.holds) (may_be_stored taken fresh));
          spares = spared taken;
          leads = λ given roots has q. stored_after stored x i (record { asked = StorePlain t.cell t.word new; given = given; roots = roots } ∷ log) (λ r y. inr y) (λ cell y z. (z, y));
        })

    -- a write with the barrier
    barrier_goes : IsTaken heap p guarded log stored new q → may_be_reference (kind_of p.of_module stored) ≡ true
        → Goes heap p table frame.slots reaches guarded log (drop_fresh_of (o.known_of facts x) facts) (a.barrier_action p stored new (Some t.at)) (λ given. frame)
    barrier_goes taken refers =
        subst (λ y. Goes heap p table frame.slots reaches guarded log (drop_fresh_of (o.known_of facts x) facts) y (λ given. frame)) (sym (t.writes stored new ∙ rw (takes taken) refl))
        (record {
          keeps = (t.may, subst (λ y. MayBeWritten heap log y new) (sym t.holds) (may_be_written taken refers));
          spares = spared taken;
          leads = λ given roots has q. stored_after stored x i (record { asked = Write t.cell t.word new; given = given; roots = roots } ∷ log) (λ r y. inr y) (λ cell y z. (z, y));
        })

  -- ---- at a place

  -- a word of a set fits as each does
  fit_word : (layout w : ℕ) (words : WordSet) → w < 64 → has_word words w ≡ true → (wanted : Option WantedWord) → r.fits_words p.layouts layout words wanted ≡ true → r.fits_word (kind_of_word p.layouts layout w) wanted ≡ true
  fit_word layout w words lt has None e = refl
  fit_word layout w words lt has (Some wanted) e = holds_as_asked heap p table guarded log cells facts frame.registers frame.slots fits h wanted layout w words lt has e

  -- a base that a reference may be stored in plainly is of a fresh class
  fresh_base : (base c layout : ℕ) → known_at facts.values base ≡ Cell c layout false → may_store_plain facts base ≡ true → (class_at facts.classes c).fresh ≡ true
  fresh_base base c layout is e = (and_parts (class_at facts.classes c).fresh true (subst (λ y. is_fresh_cell facts y ≡ true) is e)).0

  -- the word that a place names, which takes a value
  record Takes (stored : ℕ) (x : Operand) (written : ℕ) (place : Operand) : Type 0 where
    kind : Option WordKind
    touches : Touches heap p log (place_value_of p frame.registers written place) kind
    takes_it : IsTaken heap p guarded log stored (value_of p.of_module frame.registers stored x) kind
    own : is_own_place facts (o.place_known p.of_module facts written place) ≡ true → IsFresh log touches.cell.cell

  place_takes : (stored : ℕ) (x : Operand) (written : ℕ) (place : Operand) → IsStored p f table facts stored x → IsPlace p f table facts written place → r.stores_known p facts (kind_of p.of_module stored) (o.known_of facts x) (o.place_known p.of_module facts written place) ≡ true → Takes stored x written place
  place_takes stored x written place i s stores = by (o.place_known p.of_module facts written place) refl stores where
    at : Value
    at = place_value_of p frame.registers written place

    by : (known : Known) → o.place_known p.of_module facts written place ≡ known → r.stores_known p facts (kind_of p.of_module stored) (o.known_of facts x) known ≡ true → Takes stored x written place
    by Nothing is stores = absurd (known_place heap p certs reaches f table guarded log fits cells facts frame h written place s.there s.no_slot s.varies is)
    by (Number bits below) is stores = absurd cc
    by (Cell class layout stale) is stores = absurd cc
    by Null is stores = absurd cc
    by (Address base words) is stores =
        let wants : ℕ → WantedWord = λ layout. wanted_by_store (kind_of p.of_module stored) in
        let fits_each : (class layout : ℕ) → known_at facts.values base ≡ Cell class layout false → (each_word (wants layout) p.layouts layout words ≡ true) × (r.fits_words p.layouts layout words (r.wanted_by_value (o.known_of facts x)) ≡ true) = λ class layout known. and_parts (each_word (wants layout) p.layouts layout words) (r.fits_words p.layouts layout words (r.wanted_by_value (o.known_of facts x)))
        (subst (λ y. r.stores_base p (kind_of p.of_module stored) (o.known_of facts x) words y ≡ true) known stores) in
        let b = on_base heap p certs reaches f table guarded log fits cells facts frame h written place s base words is wants (λ class layout known. (fits_each class layout known).0) in
        let l = b.located in
        let each = fits_each b.class b.layout b.known in
        record {
          kind = kind_of_word p.layouts b.layout l.word;
          touches = word_touches heap p log b.layout words at l;
          takes_it = taken stored x i (kind_of p.of_module stored) refl (kind_of_word p.layouts b.layout l.word)
              (holds_as_asked heap p table guarded log cells facts frame.registers frame.slots fits h (wants b.layout) b.layout l.word words l.within l.has each.0)
              (fit_word b.layout l.word words l.within l.has (r.wanted_by_value (o.known_of facts x)) each.1);
          own = λ e. b.fresh (fresh_base base b.class b.layout b.known (subst (λ y. is_own_place facts y ≡ true) is e));
        }
    by (GlobalAddress symbol) is stores =
        let each = and_parts (holds_wanted (wanted_by_store (kind_of p.of_module stored)) (global_word p.of_module symbol)) (r.fits_word (global_word p.of_module symbol) (r.wanted_by_value (o.known_of facts x))) stores in
        record {
          kind = global_word p.of_module symbol;
          touches = on_global heap p certs reaches f table guarded log fits cells facts frame h written place s symbol is (wanted_by_store (kind_of p.of_module stored)) each.0;
          takes_it = taken stored x i (kind_of p.of_module stored) refl (global_word p.of_module symbol) each.0 each.1;
          own = λ e. absurd (let z = subst (λ y. is_own_place facts y ≡ true) is e in cc);
        }

  -- a reference is stored plainly in a fresh cell alone
  plainly : (stored : ℕ) (place : Operand) (known : Known) → o.slot_named table place ≡ None → needs_no_barrier p.of_module table facts stored place known ≡ true → may_be_reference (kind_of p.of_module stored) ≡ true → is_own_place facts known ≡ true
  plainly stored place known none e refers = pick (may_be_reference (kind_of p.of_module stored)) (rw none at e) refers where
    pick : (b : Bool) → (not b || is_own_place facts known) ≡ true → b ≡ true → is_own_place facts known ≡ true
    pick true e z = e
    pick false e z = absurd cc

  -- a store to an operand that is a place
  pub store_goes : (result : Option ℕ) (stored : ℕ) (x : Operand) (place_type : ℕ) (place : Operand) → IsStored p f table facts stored x → IsPlace p f table facts place_type place
      → r.stores_known p facts (kind_of p.of_module stored) (o.known_of facts x) (o.place_known p.of_module facts place_type place) ≡ true → needs_no_barrier p.of_module table facts stored place (o.place_known p.of_module facts place_type place) ≡ true
      → (k.is_usable_outside p.of_module f table frame.registers place_type place ≡ false) × Goes heap p table frame.slots reaches guarded log (after_memory p table result (memory.Store stored x place_type place) facts)
      (a.store_action p table stored (k.is_usable p.of_module f table frame.registers stored x) (value_of p.of_module frame.registers stored x) (k.slot_at_place p.of_module f table place_type place) (k.address_at_place p.of_module f table frame.registers place_type place))
      (λ given. mc.set_slot (k.slot_at_place p.of_module f table place_type place) (value_of p.of_module frame.registers stored x) frame)
  store_goes result stored x place_type place i s stores k6 =
      let t = place_takes stored x place_type place i s stores in (
        place_inside p f table frame.registers place_type place t.touches.at t.touches.is,
        subst (λ y. Goes heap p table frame.slots reaches guarded log (r.after_store (o.known_of facts x) y facts)
            (a.store_action p table stored (k.is_usable p.of_module f table frame.registers stored x) new (k.slot_at_place p.of_module f table place_type place) (k.address_at_place p.of_module f table frame.registers place_type place))
            (λ given. mc.set_slot (k.slot_at_place p.of_module f table place_type place) new frame)) (sym s.no_slot)
            (subst (λ y. Goes heap p table frame.slots reaches guarded log (drop_fresh_of (o.known_of facts x) facts)
            (a.store_action p table stored (k.is_usable p.of_module f table frame.registers stored x) new y (k.address_at_place p.of_module f table frame.registers place_type place)) (λ given. mc.set_slot y new frame))
            (sym (no_slot_at p f table place_type place s.no_slot))
            (subst (λ y. Goes heap p table frame.slots reaches guarded log (drop_fresh_of (o.known_of facts x) facts) (if y then a.plain_action p stored new (k.address_at_place p.of_module f table frame.registers place_type place) else Wrong) (λ given. frame))
            (sym (usable heap p certs reaches f table guarded log cells facts frame h stored x i.there i.typed i.no_slot))
            (subst (λ y. Goes heap p table frame.slots reaches guarded log (drop_fresh_of (o.known_of facts x) facts) (a.plain_action p stored new y) (λ given. frame))
            (sym (place_at heap p certs reaches f table guarded log fits cells facts frame h place_type place s t.touches.at t.touches.is))
            (plain_goes stored x i (place_value_of p frame.registers place_type place) t.kind t.touches t.takes_it (λ refers. t.own (plainly stored place (o.place_known p.of_module facts place_type place) s.no_slot k6 refers)))))),
      ) where
        new : Value
        new = value_of p.of_module frame.registers stored x

  -- a write with the barrier to an operand that is a place
  pub write_goes : (stored : ℕ) (x : Operand) (written : ℕ) (place : Operand) → IsStored p f table facts stored x → IsPlace p f table facts written place → may_be_reference (kind_of p.of_module stored) ≡ true
      → r.stores_known p facts (kind_of p.of_module stored) (o.known_of facts x) (o.place_known p.of_module facts written place) ≡ true
      → Goes heap p table frame.slots reaches guarded log (drop_fresh_of (o.known_of facts x) facts)
      (a.barrier_action p stored (value_of p.of_module frame.registers stored x) (k.address_at_place p.of_module f table frame.registers written place)) (λ given. frame)
  write_goes stored x written place i s refers stores =
      let t = place_takes stored x written place i s stores in
      subst (λ y. Goes heap p table frame.slots reaches guarded log (drop_fresh_of (o.known_of facts x) facts) (a.barrier_action p stored (value_of p.of_module frame.registers stored x) y) (λ given. frame))
      (sym (place_at heap p certs reaches f table guarded log fits cells facts frame h written place s t.touches.at t.touches.is))
      (barrier_goes stored x i (place_value_of p frame.registers written place) t.kind t.touches t.takes_it refers)
