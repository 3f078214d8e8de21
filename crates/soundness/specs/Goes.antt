-- The step of an instruction: it obeys the discipline, and what is known after the instruction holds of what the step leaves.
use Rattle.std.specs.Prelude.{◌≡◌, ◌<◌, ◌≤◌, ◌⊎◌, ℕ, Bool, true, false, List, ◌∷◌, length, Some, None}
use Rattle.std.specs.List.{Contains}
use Rattle.ir_ast.specs.declared.function.Function.{Function}
use Rattle.ir_ast.specs.declared.instr.Instr.{Instr}
use Rattle.ir_ast.specs.declared.module.Module.{Module}
use Rattle.pools.specs.Heap.{Setup}
use Rattle.layout.specs.Globals.{IsHeapFor}
use Rattle.layout.specs.Layouts.{LaidOut}
use Rattle.shadow_stack.specs.Slots.{SlotTable, slots_of, held_type, is_reference_held}
use Rattle.certs.specs.declared.section.Section.{Section}
use Rattle.fact_tables.specs.declared.known.Known.{Known}
use Rattle.fact_tables.specs.declared.known.Known.TheVariants.{Cell}
use Rattle.fact_tables.specs.Rows.{known_at, slot_at, class_at}
use Rattle.facts.specs.Facts.{FactSet, AreFacts}
use Rattle.block_rules.specs.declared.instr_context.InstrContext.{InstrContext}
use Rattle.safepoints.specs.Marks.{is_may}
use Rattle.block_rules.specs.FirstFailing.{first_failing}
use Rattle.block_rules.specs.Rules.{conditions, after}
use Rattle.machine.specs.Asks.{op_action}
use Rattle.machine.specs.declared.frame.Frame.{Frame}
use Rattle.machine.specs.declared.action.Action.{Action}
use Rattle.machine.specs.declared.action.Action.TheVariants.{StorePlain, Write, Safepoint}
use Rattle.machine.specs.declared.answer.Answer.{Answer}
use Rattle.machine.specs.declared.value.Reference.{Reference}
use Rattle.machine.specs.declared.value.Value.{Value}
use Rattle.machine.specs.declared.value.Value.TheVariants as value
use Rattle.machine.specs.Machine.{slot_value, after_op, function_called}
use Rattle.machine.specs.Log.{Log, IsFresh, RefersTo, Possible, Keeps}
use Rattle.soundness.specs.Meaning.{Cells, Guarded, Holds}

-- a value refers to no cell that frames below know to be fresh
abbrev pub IsSpare : Guarded → Value → Type 0
IsSpare guarded v = (r : Reference) → RefersTo v r → guarded r.cell → ⊥

-- a step leaves what frames below know: it stores no reference to a cell that they know to be fresh, and a stage is asked for only where it may be reached
abbrev pub Spares : (may : Bool) → Guarded → Action → Type 0
Spares may guarded Safepoint = may ≡ true
Spares may guarded (StorePlain at word v) = IsSpare guarded v
Spares may guarded (Write at word v) = IsSpare guarded v
Spares may guarded _ = Unit {0}

-- where a stage is asked for, what each reference slot holds is null or among the thread's roots
abbrev pub HasRoots : Module → Action → SlotTable → (slots roots : List Value) → Type 0
HasRoots m Safepoint table slots roots = (s : ℕ) → is_reference_held m (held_type table s) ≡ true → (slot_value slots s ≡ value.Null) ⊎ Contains roots (slot_value slots s)
HasRoots m _ table slots roots = Unit {0}

-- a step from these slots obeys the discipline, and after each possible answer the facts hold, whatever the thread's other roots are
pub record Goes (heap : Setup) (p : LaidOut) (table : SlotTable) (slots : List Value) (may : Bool) (guarded : Guarded) (log : Log) (next : FactSet) (action : Action) (after : Answer → Frame) : Type 0 where
  pub keeps : Keeps heap log action
  pub spares : Spares may guarded action
  pub leads : (given : Answer) (roots : List Value) → HasRoots p.of_module action table slots roots → Possible heap log action given → (cells : Cells) × Holds heap p table guarded (record { asked = action; given = given; roots = roots } ∷ log) cells next (after given).registers (after given).slots

-- some value is of a class
abbrev pub IsNamed : List Known → ℕ → Type 0
IsNamed values c = (w : ℕ) × (l : ℕ) × (stale : Bool) × (known_at values w ≡ Cell c l stale)

-- some value is of a class, or it is one that is not fresh
abbrev pub HasMember : FactSet → ℕ → Type 0
HasMember facts c = IsNamed facts.values c ⊎ ((c < length facts.classes) × ((class_at facts.classes c).fresh ≡ false))

-- a slot holds a fresh class only while some value is of it, and each value has a class for itself
abbrev pub HaveMembers : FactSet → Type 0
HaveMembers facts = ((s c : ℕ) → (slot_at facts.slots s).holds ≡ Some c → HasMember facts c) × AreFacts facts

-- the step of each instruction that the rules allow, and that calls no defined function, is such a step
abbrev pub InstructionsGo : Guarded → Type 0
InstructionsGo guarded =
    (heap : Setup) (p : LaidOut) (certs : List Section) (f : Function) (log : Log) (cells : Cells) (facts : FactSet) (frame : Frame) (here : InstrContext) (instr : Instr) → ((cell : ℕ) → guarded cell → IsFresh log cell) → IsHeapFor heap p → length frame.registers ≡ length f.locals
    → Holds heap p (slots_of p.of_module f) guarded log cells facts frame.registers frame.slots → HaveMembers facts → first_failing (conditions p certs f (slots_of p.of_module f) here facts instr) ≡ None → function_called p.of_module instr.op ≡ None
    → Goes heap p (slots_of p.of_module f) frame.slots (is_may here.mark) guarded log (after p certs (slots_of p.of_module f) facts instr) (op_action p f (slots_of p.of_module f) frame.registers instr.op) (λ given. after_op p f (slots_of p.of_module f) instr.result instr.op given frame)

-- after each instruction a slot still holds a fresh class only while some value is of it, and each value has a class for itself
abbrev pub MembersStay : Type 0
MembersStay = (p : LaidOut) (certs : List Section) (table : SlotTable) (facts : FactSet) (instr : Instr) → HaveMembers facts → HaveMembers (after p certs table facts instr)
