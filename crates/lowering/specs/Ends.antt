-- How the ends of blocks are lowered.
use Rattle.std.specs.Prelude.{Bool, List, [], ◌++◌, codes}
use Rattle.ir_ast.specs.declared.ends.End.{End}
use Rattle.ir_ast.specs.declared.ends.End.TheVariants as end
use Rattle.ir_ast.specs.declared.module.Module.{Module}
use Rattle.ir_tokens.specs.Bytes.{Text}
use Rattle.ir_print.specs.Ends.{end_line}
use Rattle.lowering.specs.Words.{local_line}

-- the line that ends the thread where its block has no other end
abbrev pub thread_line : End → Text
thread_line end.Unreachable = codes "  call void @dg_end()\n"
thread_line _ = []

-- the end of a block
abbrev pub end_text : (recorded : Bool) → Module → (locals : List Text) → End → Text
end_text recorded m locals x = local_line recorded ++ thread_line x ++ end_line m locals x
