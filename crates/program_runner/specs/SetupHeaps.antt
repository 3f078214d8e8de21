-- The heap of a setup: its globals begin with what fits them, and its layouts have few words.
use Rattle.std.proofs.Common.{◌≡◌, ◌<◌, ◌^◌, ℕ, zero, suc, Option, Some, None, List, [], ◌∷◌, length, map, slice_get, slice_index, slice_index_or, unwrap_or, refl, arith, lit<}
use Rattle.std.proofs.lemmas.Nat.{pow_pos}
use Rattle.ir_ast.specs.declared.items_of_module.Global.{Global}
use Rattle.ir_ast.specs.declared.items_of_module.StructType.{StructType}
use Rattle.ir_ast.specs.declared.module.Module.{Module}
use Rattle.ir_ast.specs.declared.operand.Constant.{Constant}
use Rattle.ir_ast.specs.declared.operand.Constant.TheVariants.{Number, Float, Null, Truth}
use Rattle.pools.specs.declared.word_kind.WordKind.{WordKind}
use Rattle.pools.specs.declared.word_kind.WordKind.TheVariants.{Integer, Reference}
use Rattle.pools.specs.Heap.{kind_of, IsStartOf, IsSetup}
use Rattle.layout.specs.Globals.{kind_of_global, word_of_global}
use Rattle.layout.specs.Layouts.{LaidOut, AreLayouts, AreLayoutsOf}
use Rattle.layout.specs.AsMany.{one_word_each}
use Rattle.layout.specs.Words.{shapes_of}
use Rattle.machine.specs.WrappedFits.{wrapped_fits}
use Rattle.program_runner.specs.Heaps.{heap_of, value_at_start, value_of_global}
use Rattle.trace_text.specs.declared.trace.Setup.{Setup}

-- what a word of this kind holds at the start fits it
fits_kind : (kind : Option WordKind) (initial : Constant) → IsStartOf (Some (unwrap_or kind (Integer 64))) (value_at_start kind initial)
fits_kind None initial = lit< tt
fits_kind (Some (Integer bits)) (Number n) = wrapped_fits bits n
fits_kind (Some (Integer bits)) (Float n) = wrapped_fits bits _
fits_kind (Some (Integer bits)) Null = pow_pos bits
fits_kind (Some (Integer bits)) (Truth b) = pow_pos bits
fits_kind (Some (Reference layout)) initial = refl

-- so of each of these globals
fits_each : (m : Module) (globals : List Global) (word : ℕ) → IsStartOf (slice_get (map (kind_of_global m) globals) word) (slice_index (map (value_of_global m) globals) word)
fits_each m [] word = refl
fits_each m (global ∷ globals) zero = fits_kind (word_of_global m global) global.initial
fits_each m (global ∷ globals) (suc word) = fits_each m globals word

-- the globals of a setup's heap begin with what fits them
pub is_setup : (p : LaidOut) (setup : Setup) → IsSetup (heap_of p setup)
unfolding kind_of
is_setup p setup word = fits_each p.of_module p.of_module.globals word

-- each layout has few words
few_words_of : (m : Module) (structs : List StructType) (layouts : List (List WordKind)) → AreLayoutsOf m structs layouts → (k : ℕ) (d : List WordKind) → k < length layouts → length (slice_index_or layouts k d) < 2 ^ 32
few_words_of m [] [] are k d within = absurd (omega arith)
few_words_of m [] (words ∷ layouts) are k d within = absurd are
few_words_of m (struct ∷ structs) [] are k d within = absurd are
few_words_of m (struct ∷ structs) (words ∷ layouts) are zero d within = let few = are.0.few in omega (arith, one_word_each m (shapes_of m struct) 0 are.0.fields words are.0.words_are)
few_words_of m (struct ∷ structs) (words ∷ layouts) are (suc k) d within = few_words_of m structs layouts are.1 k d (omega arith)

pub few_words : (m : Module) (layouts : List (List WordKind)) → AreLayouts m layouts → (k : ℕ) (d : List WordKind) → k < length layouts → length (slice_index_or layouts k d) < 2 ^ 32
few_words m layouts are = few_words_of m m.structs layouts are.0
