-- The blocks from which each block is entered, in a list for each.
use Rattle.std.specs.Prelude.{◌≡◌, ◌<◌, ℕ, ◌==◌, Bool, ◌&&◌, ◌||◌, List, [], ◌∷◌, length, slice_index_or}
use Rattle.std.specs.List.{list_any}
use Rattle.ir_ast.specs.declared.function.Function.{Function}
use Rattle.block_rules.specs.Edges.{is_predecessor}

-- the one list, and where it is empty the other
abbrev pub many_or_few : (many few : List ℕ) → List ℕ
many_or_few [] few = few
many_or_few (n ∷ many) few = n ∷ many

-- a block is in a list
abbrev pub is_in : List ℕ → (block : ℕ) → Bool
is_in blocks block = list_any (λ other. block == other) blocks

-- a block is in the list of another
abbrev pub is_listed : List (List ℕ) → (to from : ℕ) → Bool
is_listed lists to from = is_in (slice_index_or lists to []) from

-- a block was added to the lists of those to which it leads, and no other changed
pub record Adds (old new : List (List ℕ)) (from : ℕ) (leads : ℕ → Bool) : Type 0 where
  pub as_many : length new ≡ length old
  pub adds : (to other : ℕ) → to < length old → is_listed new to other ≡ (is_listed old to other || (leads to && (from == other)))

-- each block of a function is in the lists of those that it leads to
pub record ArePredecessors (f : Function) (lists : List (List ℕ)) : Type 0 where
  pub as_many : length lists ≡ length f.blocks
  pub are : (to from : ℕ) → to < length f.blocks → is_listed lists to from ≡ is_predecessor f to from
