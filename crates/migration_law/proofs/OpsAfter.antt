-- Instructions that are printable are so once they are opaque.
use Rattle.std.proofs.Common.{◌≡◌, ◌<◌, ℕ, false, not, List, [], ◌∷◌, ◌++◌, map, Option, None, Some, inl, inr, refl, sym, ap, ap₂, ◌∙◌, subst}
use Rattle.std.specs.Prelude.{drop, option_map, slice_get}
use Rattle.std.specs.List.{AllByRecursion, flat_map}
use Rattle.lemmas.specs.Lists.{IsIn}
use Rattle.ir_ast.specs.Names.{name_at}
use Rattle.ir_ast.specs.Places.{map-length}
use Rattle.ir_ast.specs.declared.argument.Argument.{Argument}
use Rattle.ir_ast.specs.declared.block.Block.{Block}
use Rattle.ir_ast.specs.declared.calls.Call.{Call}
use Rattle.ir_ast.specs.declared.choices.Incoming.{Incoming}
use Rattle.ir_ast.specs.declared.choices.Phi.{Phi}
use Rattle.ir_ast.specs.declared.ends.Case.{Case}
use Rattle.ir_ast.specs.declared.ends.End.{End}
use Rattle.ir_ast.specs.declared.ends.End.TheVariants as end
use Rattle.ir_ast.specs.declared.function.Function.{Function}
use Rattle.ir_ast.specs.declared.instr.Instr.{Instr}
use Rattle.ir_ast.specs.declared.items_of_module.Declare.{Declare}
use Rattle.ir_ast.specs.declared.items_of_module.Global.{Global}
use Rattle.ir_ast.specs.declared.memory.MemoryOp.{MemoryOp}
use Rattle.ir_ast.specs.declared.memory.MemoryOp.TheVariants as memory
use Rattle.ir_ast.specs.declared.module.Module.{Module}
use Rattle.ir_ast.specs.declared.numbers.NumberOp.{NumberOp}
use Rattle.ir_ast.specs.declared.numbers.NumberOp.TheVariants as number
use Rattle.ir_ast.specs.declared.op.Op.{Op}
use Rattle.ir_ast.specs.declared.op.Op.TheVariants as op
use Rattle.ir_ast.specs.declared.operand.Operand.{Operand}
use Rattle.ir_ast.specs.declared.operand.Operand.TheVariants as operand
use Rattle.ir_forms.specs.CaseValues.{value_of, with_value}
use Rattle.ir_forms.specs.declared.case_values.CaseValue.{CaseValue}
use Rattle.ir_forms.specs.declared.written.Word.{Word}
use Rattle.copies.specs.Opaque.{opaque_float, new_number, opaque_argument, opaque_block, opaque_declare, opaque_end, opaque_function, opaque_global, opaque_incoming, opaque_instr, opaque_memory, opaque_number, opaque_op, opaque_operand, opaque_parameter, opaque_phi}
use Rattle.ir_print_law.specs.Calls.{IsCall}
use Rattle.ir_print_law.specs.Definitions.{IsUsed, block_keys, declared_functions, defined_globals, defined_keys, functions_of, label_keys, parameter_key, parameter_keys, phi_key, result_keys, value_keys, value_keys_of}
use Rattle.ir_print_law.specs.Memory.{IsCount, IsMemoryOp, memory_gives_value}
use Rattle.ir_print_law.specs.Numbers.{IsNumberOp}
use Rattle.ir_forms.specs.FloatOps.{may_convert}
use Rattle.ir_forms.specs.Written.{is_float_word}
use Rattle.ir_forms.specs.declared.written.Word.TheVariants as sort
use Rattle.ir_ast.specs.declared.floats.FloatOp.{FloatOp}
use Rattle.ir_ast.specs.declared.floats.FloatOp.TheVariants as float
use Rattle.ir_print_law.specs.Floats.{IsFloatOp}
use Rattle.ir_print_law.specs.Parts.{word_of_type, IsFloat, IsNoFloat, ArePair, IsArgument, IsCondition, IsConverted, IsGlobalUse, IsOperand, IsReturned, IsTarget}
use Rattle.ir_print_law.specs.Printable.{AreCases, IsBlock, IsEnd, IsIncoming, IsInstr, IsOp, IsPhi, gives_value}
use Rattle.ir_print_law.specs.Shapes.{Shape, Integer, HasShape, word_of_shape}
use Rattle.migration_law.specs.PartsBefore.{ArePartsBefore}
use Rattle.migration_law.proofs.ShapesAfter.{word_still, bits_same, integer_still, map_twice, no_scalar_still, numbers, o, opaque_shape, place_still, scalar_type_still, type_still, void_same, void_still}

-- ---- lists

-- of each element of a list that is mapped
pub all_map : {A B : Type 0} (P : A → Type 0) (Q : B → Type 0) (g : A → B) (xs : List A) → ((x : A) → P x → Q (g x)) → AllByRecursion P xs → AllByRecursion Q (map g xs)
all_map P Q g [] on h = tt
all_map P Q g (x ∷ xs) on h = (on x h.0, all_map P Q g xs on h.1)

flat_same : {A B C : Type 0} (f : B → List C) (g : A → B) (h : A → List C) (xs : List A) → ((x : A) → f (g x) ≡ h x) → flat_map f (map g xs) ≡ flat_map h xs
flat_same f g h [] each = refl
flat_same f g h (x ∷ xs) each = ap₂ (λ a b. a ++ b) (each x) (flat_same f g h xs each)

module _ (m : Module) (ordered : ArePartsBefore m.types) where
  -- ---- global names

  globals_same : defined_globals (o m ordered) ≡ defined_globals m
  globals_same = map_twice (λ (global : Global). name_at m.symbols global.symbol) (opaque_global (numbers m ordered)) m.globals

  declared_same : declared_functions (o m ordered) ≡ declared_functions m
  declared_same = map_twice (λ (declared : Declare). name_at m.symbols declared.symbol) (opaque_declare (numbers m ordered)) m.declares

  functions_same : functions_of (o m ordered) ≡ functions_of m
  functions_same =
      ap₂ (λ a b. a ++ b) declared_same
      (map_twice (λ (function : Function). name_at m.symbols function.symbol) (opaque_function (numbers m ordered)) m.functions)

  pub symbols_same : defined_globals (o m ordered) ++ functions_of (o m ordered) ≡ defined_globals m ++ functions_of m
  symbols_same = ap₂ (λ a b. a ++ b) globals_same functions_same

  used_still : (name : List ℕ) → IsUsed m false name → IsUsed (o m ordered) false name
  used_still name (inl is) = inl (subst (IsIn name) (sym globals_same) is)
  used_still name (inr h) = inr (h.0, subst (IsIn name) (sym declared_same) h.1, h.2)

  global_use : (symbol : ℕ) → IsGlobalUse m symbol → IsGlobalUse (o m ordered) symbol
  global_use symbol h = (used_still (name_at m.symbols symbol) h.0, h.1)

  -- ---- local names

  block_values : (locals : List (List ℕ)) (x : Block) → value_keys_of locals (opaque_block (numbers m ordered) x) ≡ value_keys_of locals x
  block_values locals x =
      ap₂ (λ a b. a ++ b) (map_twice (phi_key locals) (opaque_phi (numbers m ordered)) x.phis) (flat_same (result_keys locals) (opaque_instr (numbers m ordered)) (result_keys locals) x.body (λ y. refl))

  module _ (f : Function) where
    abbrev made : Function
    made = opaque_function (numbers m ordered) f

    parameters_same : parameter_keys made ≡ parameter_keys f
    parameters_same = map_twice (parameter_key f.locals) (opaque_parameter (numbers m ordered)) f.parameters

    pub defined_same : defined_keys made ≡ defined_keys f
    defined_same =
        ap₂ (λ a b. a ++ b) parameters_same
        (flat_same (block_keys f.locals) (opaque_block (numbers m ordered)) (block_keys f.locals) f.blocks (λ x. ap (λ keys. name_at f.locals x.label ∷ keys) (block_values f.locals x)))

    pub values_same : value_keys made ≡ value_keys f
    values_same = ap₂ (λ a b. a ++ b) parameters_same (flat_same (value_keys_of f.locals) (opaque_block (numbers m ordered)) (value_keys_of f.locals) f.blocks (block_values f.locals))

    labels_same : label_keys made ≡ label_keys f
    labels_same = map_twice (λ (block : Block). name_at f.locals block.label) (opaque_block (numbers m ordered)) f.blocks

    target : (label : ℕ) → IsTarget f label → IsTarget made label
    target label h = subst (IsIn (name_at f.locals label)) (sym (ap (drop 1) labels_same)) h

    -- ---- operands

    read : (bits : Word) (x : Operand) → IsOperand m f bits x → IsOperand (o m ordered) made bits (opaque_operand x)
    read bits (operand.Constant x) h = h
    read bits (operand.Local value) h = subst (IsIn (name_at f.locals value)) (sym values_same) h
    read bits (operand.Global symbol) h = global_use symbol h
    read bits (operand.CastGlobal from symbol to) h = global_use symbol h.1

    -- at a type of this shape
    read_at : (shape : Shape) (x : Operand) → IsOperand m f (word_of_shape shape) x → IsOperand (o m ordered) made (word_of_shape (opaque_shape shape)) (opaque_operand x)
    read_at shape x h = subst (λ (bits : Word). IsOperand (o m ordered) made bits (opaque_operand x)) (sym (bits_same shape)) (read (word_of_shape shape) x h)

    argument : (x : Argument) → IsArgument m f x → IsArgument (o m ordered) made (opaque_argument (numbers m ordered) x)
    argument x h = (opaque_shape h.0, scalar_type_still m ordered h.0 x.written h.1, read_at h.0 x.operand h.2)

    condition : (t : ℕ) (x : Operand) → IsCondition m f t x → IsCondition (o m ordered) made (new_number (numbers m ordered) t) (opaque_operand x)
    condition t x h = (integer_still m ordered t 1 h.0, read (sort.Integer 1) x h.1)

    pair : (t : ℕ) (x y : Operand) → ArePair m f t x y → ArePair (o m ordered) made (new_number (numbers m ordered) t) (opaque_operand x) (opaque_operand y)
    pair t x y h = (opaque_shape h.0, scalar_type_still m ordered h.0 t h.1, read_at h.0 x h.2, read_at h.0 y h.3)

    converted : (from : ℕ) (x : Operand) (to : ℕ) → IsConverted m f from x to → IsConverted (o m ordered) made (new_number (numbers m ordered) from) (opaque_operand x) (new_number (numbers m ordered) to)
    converted from x to h = (argument (record { written = from; operand = x }) h.0, (opaque_shape h.1.0, scalar_type_still m ordered h.1.0 to h.1.1))

    returned : (t : ℕ) → IsReturned m t → IsReturned (o m ordered) (new_number (numbers m ordered) t)
    returned t (inl h) = inl (void_still m ordered t h)
    returned t (inr h) = inr (opaque_shape h.0, scalar_type_still m ordered h.0 t h.1)

    -- ---- instructions

    -- a type is one of floating point numbers where it was one, and no other is
    no_float : (shape : Shape) (t : ℕ) → HasShape m.types m.struct_names shape t → IsNoFloat m t → IsNoFloat (o m ordered) (new_number (numbers m ordered) t)
    no_float shape t has h = ap is_float_word (word_still m ordered shape t has) ∙ h

    is_float : (shape : Shape) (t : ℕ) → HasShape m.types m.struct_names shape t → IsFloat m t → IsFloat (o m ordered) (new_number (numbers m ordered) t)
    is_float shape t has h = ap is_float_word (word_still m ordered shape t has) ∙ h

    float_op : (x : FloatOp) → IsFloatOp m f x → IsFloatOp (o m ordered) made (opaque_float (numbers m ordered) x)
    float_op (float.Arithmetic kind t x y) h = (is_float h.1.0 t h.1.1.0.0 h.0, pair t x y h.1)
    float_op (float.Negate t x) h = (is_float h.1.0 t h.1.1.0.0 h.0, argument (record { written = t; operand = x }) h.1)
    float_op (float.Compare kind t x y) h = (is_float h.1.0 t h.1.1.0.0 h.0, pair t x y h.1)
    float_op (float.Convert kind from x to) h = (
      ap (λ (w : Word). may_convert kind w (word_of_type (slice_get (o m ordered).types (new_number (numbers m ordered) to)))) (word_still m ordered h.1.0.0 from h.1.0.1.0.0)
          ∙ ap (may_convert kind (word_of_type (slice_get m.types from))) (word_still m ordered h.1.1.0 to h.1.1.1.0.0) ∙ h.0,
      converted from x to h.1,
    )

    number_op : (x : NumberOp) → IsNumberOp m f x → IsNumberOp (o m ordered) made (opaque_number (numbers m ordered) x)
    number_op (number.Arithmetic kind t x y) h = (h.0, no_float h.2.0 t h.2.1.0.0 h.1, pair t x y h.2)
    number_op (number.Resize kind from x to) h = (no_float h.2.0.0 from h.2.0.1.0.0 h.0, no_float h.2.1.0 to h.2.1.1.0.0 h.1, converted from x to h.2)
    number_op (number.Compare kind t x y) h = (no_float h.1.0 t h.1.1.0.0 h.0, pair t x y h.1)
    number_op (number.Float x) h = (h.0, float_op x h.1)

    counted : (shape : Shape) (x : Option Argument) → IsCount m f shape x → IsCount (o m ordered) made (opaque_shape shape) (option_map (opaque_argument (numbers m ordered)) x)
    counted shape None h = no_scalar_still shape h
    counted shape (Some x) h = (h.0, scalar_type_still m ordered (Integer h.0) x.written h.1, read (sort.Integer h.0) x.operand h.2)

    memory_op : (x : MemoryOp) → IsMemoryOp m f x → IsMemoryOp (o m ordered) made (opaque_memory (numbers m ordered) x)
    memory_op (memory.Alloca held) h = (opaque_shape h.0, scalar_type_still m ordered h.0 held h.1)
    memory_op (memory.Buffer held count) h = (h.0, (opaque_shape h.1.0, type_still m ordered h.1.0 held h.1.1, counted h.1.0 count h.1.2))
    memory_op (memory.Load loaded place_type place) h = (opaque_shape h.0, scalar_type_still m ordered h.0 loaded h.1, place_still m ordered h.0 loaded place_type h.2, read sort.Pointer place h.3)
    memory_op (memory.Store stored x place_type place) h =
        (opaque_shape h.0, scalar_type_still m ordered h.0 stored h.1, read_at h.0 x h.2, place_still m ordered h.0 stored place_type h.3, read sort.Pointer place h.4)

    call : (x : Call) → IsCall m f x → IsCall (o m ordered) made (record { returned = new_number (numbers m ordered) x.returned; callee = x.callee; arguments = map (opaque_argument (numbers m ordered)) x.arguments })
    call x h = (
      returned x.returned h.0,
      subst (IsIn (name_at m.symbols x.callee)) (sym functions_same) h.1,
      all_map (IsArgument m f) (IsArgument (o m ordered) made) (opaque_argument (numbers m ordered)) x.arguments argument h.2,
    )

    operation : (x : Op) → IsOp m f x → IsOp (o m ordered) made (opaque_op (numbers m ordered) x)
    operation (op.Number x) h = number_op x h
    operation (op.Memory x) h = memory_op x h
    operation (op.Element x) h = (
      opaque_shape h.0,
      type_still m ordered h.0 x.source h.1,
      place_still m ordered h.0 x.source x.base_type h.2,
      read sort.Pointer x.base h.3,
      subst (λ (k : ℕ). 0 < k) (sym (map-length (opaque_argument (numbers m ordered)) x.indices)) h.4,
      all_map (IsArgument m f) (IsArgument (o m ordered) made) (opaque_argument (numbers m ordered)) x.indices argument h.5,
    )
    operation (op.Cast x) h = converted x.from x.operand x.to h
    operation (op.Choice x) h = (condition x.condition_type x.condition h.0, pair x.written x.chosen x.other h.1)
    operation (op.Call x) h = call x h

    memory_gives : (x : MemoryOp) → memory_gives_value (opaque_memory (numbers m ordered) x) ≡ memory_gives_value x
    memory_gives (memory.Alloca held) = refl
    memory_gives (memory.Buffer held count) = refl
    memory_gives (memory.Load loaded place_type place) = refl
    memory_gives (memory.Store stored x place_type place) = refl

    gives : (x : Op) → gives_value (o m ordered) (opaque_op (numbers m ordered) x) ≡ gives_value m x
    gives (op.Number x) = refl
    gives (op.Memory x) = memory_gives x
    gives (op.Element x) = refl
    gives (op.Cast x) = refl
    gives (op.Choice x) = refl
    gives (op.Call x) = ap not (void_same m ordered x.returned)

    instruction : (x : Instr) → IsInstr m f x → IsInstr (o m ordered) made (opaque_instr (numbers m ordered) x)
    instruction x h = (operation x.op h.0, h.1 ∙ sym (gives x.op))

    -- ---- blocks

    incoming : (bits : Word) (x : Incoming) → IsIncoming m f bits x → IsIncoming (o m ordered) made bits (opaque_incoming x)
    incoming bits x h = (read bits x.operand h.0, subst (IsIn (name_at f.locals x.from)) (sym labels_same) h.1)

    phi : (x : Phi) → IsPhi m f x → IsPhi (o m ordered) made (opaque_phi (numbers m ordered) x)
    phi x h = (
      opaque_shape h.0,
      scalar_type_still m ordered h.0 x.written h.1,
      subst (λ (k : ℕ). 0 < k) (sym (map-length opaque_incoming x.incoming)) h.2,
      subst (λ (bits : Word). AllByRecursion (IsIncoming (o m ordered) made bits) (map opaque_incoming x.incoming)) (sym (bits_same h.0))
          (all_map (IsIncoming m f (word_of_shape h.0)) (IsIncoming (o m ordered) made (word_of_shape h.0)) opaque_incoming x.incoming (incoming (word_of_shape h.0)) h.3),
    )

    cases : (bits : Word) (seen : List CaseValue) (xs : List Case) → AreCases f bits seen xs → AreCases made bits seen xs
    cases bits seen [] h = tt
    cases bits seen (x ∷ xs) h = (h.0, h.1, target x.target h.2, cases bits (with_value (value_of x.constant) seen) xs h.3)

    ending : (x : End) → IsEnd m f x → IsEnd (o m ordered) made (opaque_end (numbers m ordered) x)
    ending (end.Jump label) h = target label h
    ending (end.Branch t x taken other) h = (condition t x h.0, target taken h.1, target other h.2)
    ending (end.Switch t x otherwise xs) k =
        let h = k.1 in (
          no_float h.0 t h.1.0.0 k.0,
          (
            opaque_shape h.0,
            scalar_type_still m ordered h.0 t h.1,
            read_at h.0 x h.2,
            target otherwise h.3,
            subst (λ (word : Word). AreCases made word [] xs) (sym (bits_same h.0)) (cases (word_of_shape h.0) [] xs h.4),
          ),
        )
    ending end.Unreachable h = tt
    ending end.ReturnVoid h = tt
    ending (end.Return x) h = argument x h

    pub block : (x : Block) → IsBlock m f x → IsBlock (o m ordered) made (opaque_block (numbers m ordered) x)
    block x h = (
      all_map (IsPhi m f) (IsPhi (o m ordered) made) (opaque_phi (numbers m ordered)) x.phis phi h.0,
      all_map (IsInstr m f) (IsInstr (o m ordered) made) (opaque_instr (numbers m ordered)) x.body instruction h.1,
      ending x.end h.2,
    )
