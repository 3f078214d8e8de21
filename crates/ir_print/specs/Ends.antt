-- How the ends of blocks are printed.
use Rattle.std.specs.Prelude.{ℕ, List, ◌∷◌, ◌++◌, codes}
use Rattle.std.specs.List.{flat_map}
use Rattle.ir_ast.specs.declared.ends.Case.{Case}
use Rattle.ir_ast.specs.declared.ends.End.{End}
use Rattle.ir_ast.specs.declared.ends.End.TheVariants as end
use Rattle.ir_ast.specs.declared.module.Module.{Module}
use Rattle.ir_tokens.specs.Bytes.{Text}
use Rattle.ir_print.specs.Names.{local_text}
use Rattle.ir_print.specs.Types.{type_text}
use Rattle.ir_print.specs.Operands.{constant_text, typed_text, argument_text}

-- a branch target
abbrev pub target_text : (locals : List Text) → (label : ℕ) → Text
target_text locals label = codes "label " ++ local_text locals label

-- `T c, label %b`, a case of a switch of this type, after a blank
abbrev pub case_text : Module → (locals : List Text) → (written : ℕ) → Case → Text
case_text m locals written x = 32 ∷ type_text m written ++ 32 ∷ constant_text m written x.constant ++ codes ", " ++ target_text locals x.target

-- `br label %b`
abbrev pub jump_text : (locals : List Text) → (target : ℕ) → Text
jump_text locals target = codes "br " ++ target_text locals target

-- the end of a block
abbrev pub end_text : Module → (locals : List Text) → End → Text
end_text m locals (end.Jump target) = jump_text locals target
end_text m locals (end.Branch condition_type condition taken other) =
    codes "br " ++ typed_text m locals condition_type condition ++ codes ", " ++ target_text locals taken ++ codes ", " ++ target_text locals other
end_text m locals (end.Switch written value otherwise cases) =
    codes "switch " ++ typed_text m locals written value ++ codes ", " ++ target_text locals otherwise ++ codes " [" ++ flat_map (case_text m locals written) cases ++ codes " ]"
end_text m locals end.Unreachable = codes "unreachable"
end_text m locals end.ReturnVoid = codes "ret void"
end_text m locals (end.Return x) = codes "ret " ++ argument_text m locals x

-- the line of the end of a block, after two blanks
abbrev pub end_line : Module → (locals : List Text) → End → Text
end_line m locals x = codes "  " ++ end_text m locals x ++ codes "\n"
