-- A program with opaque pointers, all of which the safety theorem asks for:
--     %T = type { ptr }
--     @g = global ptr null                 layout T 0 ref T, global @g ref T
--     define void @f() gc "shadow-stack" {
--     entry:
--       %x = load ptr, ptr @g
--       ret void
--     }
use Rattle.std.proofs.Common.{◌≡◌, ◌<◌, ℕ, zero, suc, false, List, [], ◌∷◌, length, Some, None, refl, sym, subst, arith, lit<, lit≤}
use Rattle.std.specs.Prelude.{codes}
use Rattle.ir_ast.specs.Outside.{none_outside}
use Rattle.ir_ast.specs.declared.module.Module.{Module}
use Rattle.ir_ast.specs.declared.ir_type.IrType.TheVariants as type
use Rattle.ir_ast.specs.declared.function.Function.{Function}
use Rattle.ir_ast.specs.declared.function.LocalSort.TheVariants as local
use Rattle.ir_ast.specs.declared.items_of_module.Global.{Global}
use Rattle.ir_ast.specs.declared.items_of_module.SymbolSort.TheVariants as symbol
use Rattle.ir_ast.specs.declared.memory.MemoryOp.TheVariants.{Load}
use Rattle.ir_ast.specs.declared.op.Op.TheVariants.{Memory}
use Rattle.ir_ast.specs.declared.operand.Operand.TheVariants as operand
use Rattle.ir_ast.specs.declared.operand.Constant.TheVariants.{Null}
use Rattle.ir_ast.specs.declared.ends.End.TheVariants.{ReturnVoid}
use Rattle.pools.specs.Heap.{Setup, IsSetup, kind_of}
use Rattle.pools.specs.declared.word_kind.WordKind.TheVariants.{Reference}
use Rattle.layout.specs.Globals.{AreGlobals, word_of_global}
use Rattle.layout.specs.Layouts.{LaidOut}
use Rattle.layout.specs.Words.{Scalar, NoField, Fields}
use Rattle.certs.specs.declared.section.Section.{Section}
use Rattle.certs.specs.declared.section.Mark.TheVariants as mark
use Rattle.machine.specs.Machine.{start}
use Rattle.program_safety.specs.Safety.{AreCertified}
use Rattle.program_safety.specs.Threads.{ProgramThread}
use Rattle.worked_module.specs.Worked.{IsWorked}

-- ---- the program

abbrev f0 : Function
f0 = record {
  symbol = 1;
  returned = 1;
  parameters = [];
  collector = Some (codes "shadow-stack");
  locals = codes "entry" ∷ codes "x" ∷ [];
  sorts = local.Block 0 ∷ local.Value 0 ∷ [];
  blocks = record { label = 0; phis = []; body = record { result = Some 1; op = Memory (Load 0 0 (operand.Global 0)) } ∷ []; end = ReturnVoid } ∷ [];
}

abbrev g0 : Global
g0 = record { symbol = 0; is_constant = false; held = 0; initial = Null }

abbrev m0 : Module
m0 = record {
  types = type.Opaque ∷ type.Void ∷ type.EmptyStruct ∷ type.Struct 0 2 ∷ [];
  struct_names = codes "T" ∷ [];
  struct_of = Some 0 ∷ [];
  symbols = codes "g" ∷ codes "f" ∷ [];
  sorts = symbol.Global 0 ∷ symbol.Defined 0 ∷ [];
  structs = record { name = 0; body = 3 } ∷ [];
  globals = g0 ∷ [];
  declares = [];
  functions = f0 ∷ [];
  shapes = Some (record { words = (Some 0 ∷ []) ∷ []; globals = Some 0 ∷ []; roots = [] });
  trusted = none_outside;
  wide = false;
}

abbrev pub program : LaidOut
program = record { of_module = m0; layouts = (Reference 0 ∷ []) ∷ []; sizes = Some 1 ∷ Some 1 ∷ Some 0 ∷ Some 1 ∷ [] }

abbrev pub certs : List Section
certs = record { mark = mark.None; parameters = []; result = None; blocks = [] ∷ [] } ∷ []

-- ---- its heap and its threads

abbrev pub heap : Setup
heap = record { threads = 1; late = []; layouts = (Reference 0 ∷ []) ∷ []; pools = 1 ∷ []; globals = Reference 0 ∷ []; values = 0 ∷ [] }

abbrev pub starts : ℕ → ProgramThread
starts t = record { heap = heap; program = program; state = start m0 (Some f0) 0 []; values = [] }

-- ---- what holds of them

certified : AreCertified program certs
certified zero f is zero below = record { phis = tt; last = _; body = (_, record { keeps = refl; facts_after = refl }, refl); end = refl }
certified zero f is (suc block) below =
    let same : f0 ≡ f = cc in
    let past : suc block < 1 = subst (λ (x : Function). suc block < length x.blocks) (sym same) below in
    absurd (omega (arith, past))
certified (suc function) f is block below = absurd cc

globals : AreGlobals m0 (Reference 0 ∷ [])
globals zero global kind is word =
    let same : g0 ≡ global = cc in
    subst (λ (x : Global). word_of_global m0 x ≡ Some kind) (sym same) word
globals (suc g) global kind is word = absurd cc

set_up : IsSetup heap
unfolding kind_of
set_up zero = refl
set_up (suc word) = refl

pub worked : IsWorked program certs heap starts
worked = record {
  laid_out = ((record { fields = 0 ∷ []; scalars = Fields 3 0 2 (0 ∷ []) [] refl (Scalar 0 refl) (NoField 2 refl); few = lit≤ tt; words_are = (refl, tt) }, tt), refl);
  certified = certified;
  of_program = record { layouts = refl; globals = globals };
  set_up = set_up;
  begun = λ t below. record { func = 0; function = f0; arguments = []; values = []; is = refl; takes = record { takes_integers = refl; fit = refl; meet = tt }; stands = refl };
  some_thread = lit< tt;
  reads = refl;
}
