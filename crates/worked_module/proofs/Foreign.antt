-- A program of the wide forms that calls a function outside, all of which the safety theorem asks for:
--     @g = global i8 0
--     declare i8 @get(i8)                  foreign @get none
--     define void @f() {
--     entry:
--       %x = load i8, i8* @g
--       %y = call i8 @get(i8 %x)
--       store i8 %y, i8* @g
--       ret void
--     }
use Rattle.std.proofs.Common.{◌≡◌, ◌<◌, ℕ, zero, suc, true, false, List, [], ◌∷◌, length, Some, None, refl, sym, subst, arith, lit<}
use Rattle.std.specs.Prelude.{codes}
use Rattle.ir_ast.specs.declared.module.Module.{Module}
use Rattle.ir_ast.specs.declared.ir_type.IrType.TheVariants as type
use Rattle.ir_ast.specs.declared.calls.Call.{Call}
use Rattle.ir_ast.specs.declared.function.Function.{Function}
use Rattle.ir_ast.specs.declared.function.LocalSort.TheVariants as local
use Rattle.ir_ast.specs.declared.items_of_module.Declare.{Declare}
use Rattle.ir_ast.specs.declared.items_of_module.Global.{Global}
use Rattle.ir_ast.specs.declared.items_of_module.SymbolSort.TheVariants as symbol
use Rattle.ir_ast.specs.declared.memory.MemoryOp.TheVariants.{Load, Store}
use Rattle.ir_ast.specs.declared.op.Op.TheVariants as op
use Rattle.ir_ast.specs.declared.operand.Operand.TheVariants as operand
use Rattle.ir_ast.specs.declared.operand.Constant.TheVariants.{Number}
use Rattle.ir_ast.specs.declared.ends.End.TheVariants.{ReturnVoid}
use Rattle.pools.specs.Heap.{Setup, IsSetup, kind_of}
use Rattle.pools.specs.declared.word_kind.WordKind.TheVariants.{Integer}
use Rattle.layout.specs.Globals.{AreGlobals, word_of_global}
use Rattle.layout.specs.Layouts.{LaidOut}
use Rattle.certs.specs.declared.section.Section.{Section}
use Rattle.certs.specs.declared.section.Mark.TheVariants as mark
use Rattle.machine.specs.Machine.{start}
use Rattle.program_safety.specs.Safety.{AreCertified}
use Rattle.program_safety.specs.Threads.{ProgramThread}
use Rattle.worked_module.specs.Worked.{CallsOutside, IsWorked}

-- ---- the program

-- the call of the function outside
abbrev get : Call
get = record { returned = 0; callee = 1; arguments = record { written = 0; operand = operand.Local 1 } ∷ [] }

abbrev f0 : Function
f0 = record {
  symbol = 2;
  returned = 2;
  parameters = [];
  collector = None;
  locals = codes "entry" ∷ codes "x" ∷ codes "y" ∷ [];
  sorts = local.Block 0 ∷ local.Value 0 ∷ local.Value 0 ∷ [];
  blocks = record {
    label = 0;
    phis = [];
    body = record { result = Some 1; op = op.Memory (Load 0 1 (operand.Global 0)) }
        ∷ record { result = Some 2; op = op.Call get }
        ∷ record { result = None; op = op.Memory (Store 0 (operand.Local 2) 1 (operand.Global 0)) } ∷ [];
    end = ReturnVoid;
  } ∷ [];
}

abbrev g0 : Global
g0 = record { symbol = 0; is_constant = false; held = 0; initial = Number 0 }

abbrev d0 : Declare
d0 = record { symbol = 1; runtime = None; returned = 0; parameters = 0 ∷ [] }

abbrev m0 : Module
m0 = record {
  types = type.Integer 8 ∷ type.Pointer 0 ∷ type.Void ∷ [];
  struct_names = [];
  struct_of = [];
  symbols = codes "g" ∷ codes "get" ∷ codes "f" ∷ [];
  sorts = symbol.Global 0 ∷ symbol.Declared 0 ∷ symbol.Defined 0 ∷ [];
  structs = [];
  globals = g0 ∷ [];
  declares = d0 ∷ [];
  functions = f0 ∷ [];
  shapes = None;
  trusted = record { functions = 1 ∷ []; numbers = [] };
  wide = true;
}

abbrev pub program : LaidOut
program = record { of_module = m0; layouts = []; sizes = Some 1 ∷ Some 1 ∷ Some 1 ∷ [] }

abbrev pub certs : List Section
certs = record { mark = mark.None; parameters = []; result = None; blocks = [] ∷ [] } ∷ []

-- ---- its heap and its threads

abbrev pub heap : Setup
heap = record { threads = 1; late = []; layouts = []; pools = []; globals = Integer 8 ∷ []; values = 0 ∷ [] }

-- each has one number from outside
abbrev pub starts : ℕ → ProgramThread
starts t = record { heap = heap; program = program; state = start m0 (Some f0) 0 []; values = 300 ∷ [] }

-- ---- what holds of them

certified : AreCertified program certs
certified zero f is zero below = record {
  phis = tt;
  last = _;
  body = (_, record { keeps = refl; facts_after = refl }, (_, record { keeps = refl; facts_after = refl }, (_, record { keeps = refl; facts_after = refl }, refl)));
  end = refl;
}
certified zero f is (suc block) below =
    let same : f0 ≡ f = cc in
    let past : suc block < 1 = subst (λ (x : Function). suc block < length x.blocks) (sym same) below in
    absurd (omega (arith, past))
certified (suc function) f is block below = absurd cc

globals : AreGlobals m0 (Integer 8 ∷ [])
globals zero global kind is word =
    let same : g0 ≡ global = cc in
    subst (λ (x : Global). word_of_global m0 x ≡ Some kind) (sym same) word
globals (suc g) global kind is word = absurd cc

set_up : IsSetup heap
unfolding kind_of
set_up zero = lit< tt
set_up (suc word) = refl

pub worked : IsWorked program certs heap starts
worked = record {
  laid_out = (tt, refl);
  certified = certified;
  of_program = record { layouts = refl; globals = globals };
  set_up = set_up;
  begun = λ t below. record { func = 0; function = f0; arguments = []; values = 300 ∷ []; is = refl; takes = record { takes_integers = refl; fit = refl; meet = tt }; stands = refl };
  some_thread = lit< tt;
  reads = refl;
}

pub calls_outside : CallsOutside program starts
unfolding kind_of
calls_outside = record { wide = refl; trusts = refl; gets = refl; writes = refl }
