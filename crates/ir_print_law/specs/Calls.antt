-- Calls: when they are printable, when their numbers are within the tables, and when one is another one again.
use Rattle.std.specs.Prelude.{List}
use Rattle.std.specs.List.{AllByRecursion}
use Rattle.lemmas.specs.Lists.{IsIn}
use Rattle.ir_ast.specs.declared.calls.Call.{Call}
use Rattle.ir_ast.specs.declared.function.Function.{Function}
use Rattle.ir_ast.specs.declared.module.Module.{Module}
use Rattle.ir_tokens.specs.Bytes.{Text}
use Rattle.ir_print.specs.Names.{name_at}
use Rattle.ir_print_law.specs.Definitions.{functions_of}
use Rattle.ir_print_law.specs.Parts.{IsArgument, IsReturned}
use Rattle.ir_print_law.specs.PartsWithin.{HasType, HasFunction, IsArgumentWithin}
use Rattle.ir_print_law.specs.PartsAgain.{AreAlike, IsNameAgain, IsResultAgain, IsArgumentAgain}

-- a call
abbrev pub IsCall : Module → Function → Call → Type 0
IsCall m f x = IsReturned m x.returned × IsIn (name_at m.symbols x.callee) (functions_of m) × AllByRecursion (IsArgument m f) x.arguments

-- a call whose numbers are within the tables
abbrev pub IsCallWithin : Module → Function → Call → Type 0
IsCallWithin m f x = HasType m x.returned × HasFunction m x.callee × AllByRecursion (IsArgumentWithin m f) x.arguments

-- Two modules, and the names of a function in each.
module _ (m n : Module) (locals others : List Text) where
  -- a call
  abbrev pub IsCallAgain : Call → Call → Type 0
  IsCallAgain x y = IsResultAgain m n x.returned y.returned × IsNameAgain m.symbols n.symbols x.callee y.callee × AreAlike (IsArgumentAgain m n locals others) x.arguments y.arguments
