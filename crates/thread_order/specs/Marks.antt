-- The roots that were marked, beside those that are named.
use Rattle.std.specs.Prelude.{ℕ, ◌==◌, ◌&&◌, Bool, true, false, List, [], ◌∷◌, if◌then◌else◌}

-- the root is the first one that was marked, or null
abbrev pub are_marked : (marked roots : List ℕ) → Bool
are_marked [] [] = true
are_marked (mark ∷ marked) [] = false
are_marked [] (root ∷ roots) = if root == 0 then are_marked [] roots else false
are_marked (mark ∷ marked) (root ∷ roots) = if root == 0 then are_marked (mark ∷ marked) roots else (mark == root) && are_marked marked roots
