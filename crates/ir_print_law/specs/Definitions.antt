-- What a module and its functions define, in text order, by names and by keys of local names.
use Rattle.std.specs.Prelude.{◌≡◌, ℕ, ◌+◌, Bool, true, false, List, [], ◌∷◌, ◌++◌, drop, map, Option, Some, None, is_none, ◌⊎◌}
use Rattle.std.specs.List.{flat_map}
use Rattle.std.specs.Fmt.{decimal}
use Rattle.lemmas.specs.Lists.{IsIn}
use Rattle.ir_ast.specs.LocalKeys.{key_of_name}
use Rattle.ir_ast.specs.RuntimeNames.{runtime_of}
use Rattle.ir_ast.specs.declared.block.Block.{Block}
use Rattle.ir_ast.specs.declared.choices.Phi.{Phi}
use Rattle.ir_ast.specs.declared.function.Function.{Function}
use Rattle.ir_ast.specs.declared.function.Parameter.{Parameter}
use Rattle.ir_ast.specs.declared.instr.Instr.{Instr}
use Rattle.ir_ast.specs.declared.module.Module.{Module}
use Rattle.ir_tokens.specs.Bytes.{Text}
use Rattle.ir_forms.specs.declared.uses.Wanted.{Wanted}
use Rattle.ir_forms.specs.declared.uses.Wanted.TheVariants as wants
use Rattle.name_text.specs.Readings.{AreBytes}
use Rattle.ir_print.specs.Names.{name_at}

-- ---- a function

-- the key of the value that an instruction gives, if it gives one
abbrev pub key_of_result : (locals : List Text) → Option ℕ → List Text
key_of_result locals None = []
key_of_result locals (Some value) = name_at locals value ∷ []

-- the same of an instruction
abbrev pub result_keys : (locals : List Text) → Instr → List Text
result_keys locals x = key_of_result locals x.result

-- the key of the value of a phi
abbrev pub phi_key : (locals : List Text) → Phi → Text
phi_key locals x = name_at locals x.value

-- the values of a block: those of its phis, and those of its body
abbrev pub value_keys_of : (locals : List Text) → Block → List Text
value_keys_of locals block = map (phi_key locals) block.phis ++ flat_map (result_keys locals) block.body

-- the keys that a block defines: its label, and its values
abbrev pub block_keys : (locals : List Text) → Block → List Text
block_keys locals block = name_at locals block.label ∷ value_keys_of locals block

-- the key of a parameter
abbrev pub parameter_key : (locals : List Text) → Parameter → Text
parameter_key locals parameter = name_at locals parameter.value

-- the keys of the parameters of a function
abbrev pub parameter_keys : Function → List Text
parameter_keys f = map (parameter_key f.locals) f.parameters

-- the keys that a function defines
abbrev pub defined_keys : Function → List Text
defined_keys f = parameter_keys f ++ flat_map (block_keys f.locals) f.blocks

-- its values
abbrev pub value_keys : Function → List Text
value_keys f = parameter_keys f ++ flat_map (value_keys_of f.locals) f.blocks

-- its blocks
abbrev pub label_keys : Function → List Text
label_keys f = map (λ block. name_at f.locals block.label) f.blocks

-- the blocks that may be branched to: all but the entry
abbrev pub target_keys : Function → List Text
target_keys f = drop 1 (label_keys f)

-- Keys are defined in this order after those that were seen, each once: a name, or the next number.
abbrev pub AreDefined : (seen : List Text) → (unnamed : ℕ) → List Text → Type 0
AreDefined seen unnamed [] = Unit {0}
AreDefined seen unnamed (key ∷ keys) =
    (IsIn key seen → ⊥)
    × (((key ≡ decimal unnamed) × AreDefined (seen ++ key ∷ []) (unnamed + 1) keys)
    ⊎ (((name : Text) × AreBytes name × (key ≡ key_of_name name)) × AreDefined (seen ++ key ∷ []) unnamed keys))

-- ---- a module

-- each name is new after those that were seen
abbrev pub AreNew : (seen : List Text) → List Text → Type 0
AreNew seen [] = Unit {0}
AreNew seen (name ∷ names) = (IsIn name seen → ⊥) × AreNew (seen ++ name ∷ []) names

-- the names of the structs that a module defines
abbrev pub defined_structs : Module → List Text
defined_structs m = map (λ struct. name_at m.struct_names struct.name) m.structs

-- the names of its globals
abbrev pub defined_globals : Module → List Text
defined_globals m = map (λ global. name_at m.symbols global.symbol) m.globals

-- the names of the functions that it declares
abbrev pub declared_functions : Module → List Text
declared_functions m = map (λ declared. name_at m.symbols declared.symbol) m.declares

-- the names of those that it defines
abbrev pub defined_functions : Module → List Text
defined_functions m = map (λ function. name_at m.symbols function.symbol) m.functions

-- the names of its functions
abbrev pub functions_of : Module → List Text
functions_of m = declared_functions m ++ defined_functions m

-- ---- what may be used

-- which keys may be used as what
abbrev pub used_keys : Function → Wanted → List Text
used_keys f wants.Value = value_keys f
used_keys f wants.Block = label_keys f
used_keys f wants.Target = target_keys f

-- A global name may be called or be an operand: one of a function is called. One of a global is an operand, and where the wide forms
-- may stand one of something outside: it is declared, and is no function of the runtime.
abbrev pub IsUsed : Module → (is_call : Bool) → (name : Text) → Type 0
IsUsed m true name = IsIn name (functions_of m)
IsUsed m false name = IsIn name (defined_globals m) ⊎ ((m.wide ≡ true) × IsIn name (declared_functions m) × (is_none (runtime_of name) ≡ true))
