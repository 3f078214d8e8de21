-- How blocks are printed.
use Rattle.std.specs.Prelude.{List, ◌++◌, codes}
use Rattle.std.specs.List.{flat_map}
use Rattle.ir_ast.specs.declared.block.Block.{Block}
use Rattle.ir_ast.specs.declared.module.Module.{Module}
use Rattle.ir_tokens.specs.Bytes.{Text}
use Rattle.ir_print.specs.Names.{name_at, key_text}
use Rattle.ir_print.specs.Choices.{phi_line}
use Rattle.ir_print.specs.Instructions.{instruction_line}
use Rattle.ir_print.specs.Ends.{end_line}

-- a block: the line of its label, and a line for each phi, each instruction and the end
abbrev pub block_text : Module → (locals : List Text) → Block → Text
block_text m locals block =
    key_text (name_at locals block.label) ++ codes ":\n" ++ flat_map (phi_line m locals) block.phis ++ flat_map (instruction_line m locals) block.body ++ end_line m locals block.end
