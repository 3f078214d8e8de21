-- The text that LLVM gets of a module.
use Rattle.std.specs.Prelude.{Bool, if◌then◌else◌, List, [], ◌++◌, length, codes}
use Rattle.std.specs.List.{flat_map}
use Rattle.ir_ast.specs.declared.module.Module.{Module}
use Rattle.ir_tokens.specs.Bytes.{Text}
use Rattle.pools.specs.declared.word_kind.WordKind.{WordKind}
use Rattle.lowering.specs.Items.{struct_line, global_line, declared_line, function_text}
use Rattle.lowering.specs.Starts.{starts_of, start_count, start_table}
use Rattle.lowering.specs.Tables.{layout_count, layout_table, global_count, global_table, name_table}

-- the functions of the runtime and of LLVM
unfoldable pub runtime_lines : Text
runtime_lines = codes "declare ptr @dg_alloc(i32) nounwind\ndeclare void @dg_safepoint() nounwind\ndeclare void @dg_write(ptr, ptr) nounwind\ndeclare void @dg_end() noreturn nounwind\ndeclare void @llvm.gcroot(ptr, ptr)\n"

-- the functions of the recorder
unfoldable pub recorder_lines : Text
recorder_lines = codes "declare i64 @dg_read(ptr) nounwind\ndeclare void @dg_store(ptr, i64) nounwind\ndeclare void @dg_local(i32) nounwind\n"

-- the same, where there is a recorder
abbrev pub hook_lines : (recorded : Bool) → Text
hook_lines recorded = if recorded then recorder_lines else []

-- the chain of roots, one for each thread, which LLVM shall not drop
unfoldable pub chain_lines : Text
chain_lines = codes "@llvm_gc_root_chain = external thread_local global ptr\n@llvm.compiler.used = appending global [1 x ptr] [ptr @llvm_gc_root_chain], section \"llvm.metadata\"\n"

-- the items of the module
unfoldable pub items_text : (recorded : Bool) → Module → Text
items_text recorded m =
    flat_map (struct_line m) m.structs ++ flat_map (global_line m) m.globals ++ flat_map (declared_line m) m.declares ++ flat_map (function_text recorded m) m.functions

-- the tables of the module, whose structs have these words
unfoldable pub tables_text : (layouts : List (List WordKind)) → Module → Text
tables_text layouts m =
    layout_count (length m.structs) ++ layout_table layouts m m.structs ++ global_count (length m.globals) ++ global_table m m.globals
    ++ name_table m m.structs ++ start_count (length (starts_of m)) ++ start_table m

-- the text of a module with `ptr` for its pointers, whose structs have these words
abbrev pub lowered_text : (recorded : Bool) → (layouts : List (List WordKind)) → Module → Text
lowered_text recorded layouts m = items_text recorded m ++ tables_text layouts m ++ runtime_lines ++ hook_lines recorded ++ chain_lines
