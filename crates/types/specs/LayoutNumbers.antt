-- Which layout a call of dg_alloc means.
use Rattle.std.specs.Prelude.{ℕ, Bool, ◌==◌, ◌&&◌, if◌then◌else◌, List, [], ◌∷◌, length, nat_lt, Option, Some, None}
use Rattle.ir_ast.specs.declared.module.Module.{Module}
use Rattle.ir_ast.specs.declared.operand.Constant.TheVariants as constant
use Rattle.ir_ast.specs.declared.operand.Operand.{Operand}
use Rattle.ir_ast.specs.declared.operand.Operand.TheVariants as operand
use Rattle.ir_ast.specs.declared.outside.LayoutNumber.{LayoutNumber}

-- dg_alloc takes a number of 32 bits
abbrev pub is_layout_number : (n : ℕ) → Bool
is_layout_number n = nat_lt n 4294967296

-- the struct at this place of the text, of so many
abbrev pub layout_at : (count n : ℕ) → Option ℕ
layout_at count n = if nat_lt n count && is_layout_number n then Some n else None

-- the layout that is listed with this number
abbrev pub layout_listed : List LayoutNumber → (n : ℕ) → Option ℕ
layout_listed [] n = None
layout_listed (line ∷ lines) n = if line.number == n then Some line.layout else layout_listed lines n

-- the layout that a number means: the one that is listed with it, or where no number is listed the struct at this place
abbrev pub layout_numbered : (count : ℕ) → List LayoutNumber → (n : ℕ) → Option ℕ
layout_numbered count [] n = layout_at count n
layout_numbered count (line ∷ lines) n = layout_listed (line ∷ lines) n

-- an operand means a layout only if it is a number
abbrev pub layout_by : (count : ℕ) → List LayoutNumber → Operand → Option ℕ
layout_by count numbers (operand.Constant (constant.Number n)) = layout_numbered count numbers n
layout_by count numbers _ = None

-- the layout that dg_alloc means by an operand
abbrev pub layout_meant : Module → Operand → Option ℕ
layout_meant m o = layout_by (length m.structs) m.trusted.numbers o
