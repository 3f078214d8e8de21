-- A layout has few words.
use Rattle.std.proofs.Common.{◌<◌, ◌≤◌, ◌^◌, ℕ, zero, suc, List, [], ◌∷◌, length, arith}
use Rattle.ir_ast.specs.declared.items_of_module.StructType.{StructType}
use Rattle.ir_ast.specs.declared.module.Module.{Module}
use Rattle.pools.specs.declared.word_kind.WordKind.{WordKind}
use Rattle.pools.specs.Layouts.{words_of}
use Rattle.layout.specs.AsMany.{one_word_each}
use Rattle.layout.specs.Layouts.{AreLayouts, AreLayoutsOf}
use Rattle.layout.specs.Words.{shapes_of}

few_of : (m : Module) (structs : List StructType) (layouts : List (List WordKind)) (layout : ℕ) → AreLayoutsOf m structs layouts → length (words_of layouts layout) ≤ 64
few_of m [] [] layout are = omega arith
few_of m [] (words ∷ layouts) layout are = absurd are
few_of m (struct ∷ structs) [] layout are = absurd are
few_of m (struct ∷ structs) (words ∷ layouts) zero are = let few = are.0.few in omega (arith, one_word_each m (shapes_of m struct) 0 are.0.fields words are.0.words_are)
few_of m (struct ∷ structs) (words ∷ layouts) (suc n) are = few_of m structs layouts n are.1

-- a word of a layout has a small number
pub small_word : (m : Module) (layouts : List (List WordKind)) (layout word : ℕ) → AreLayouts m layouts → word < length (words_of layouts layout) → word < 2 ^ 32
small_word m layouts layout word are within = let few = few_of m m.structs layouts layout are.0 in omega arith
