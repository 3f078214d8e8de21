-- The turns of a collector alone over two cells: the global leads to the second, and that one to the first. By its list the
-- collector scans both in its first pass.
use Rattle.std.proofs.Common.{◌≡◌, ℕ, List, [], ◌∷◌, refl}
use Rattle.pools.specs.declared.word_kind.WordKind.TheVariants.{Integer, Reference}
use Rattle.pools.specs.Heap.{Setup, kind_of, layout_of}
use Rattle.colours.specs.declared.turn.Turn.{Turn}
use Rattle.colours.specs.declared.turn.Turn.TheVariants.{PostStage, MarkFound, ReadColour, ScanWord, Blacken}
use Rattle.trace_sweep.specs.Collecting.{Collecting, plan, begun, turn_of, moved}

-- the steps that a collector makes when its words hold these numbers
abbrev made : Collecting → List ℕ → List Turn
made c [] = []
made c (found ∷ rest) = turn_of c found ∷ made (moved c found) rest

-- one layout of an integer and a reference, two cells, one global
abbrev chain : Setup
chain = plan 0 ((Integer 64 ∷ Reference 0 ∷ []) ∷ []) (2 ∷ []) (Reference 0 ∷ [])

turns : made (begun chain) (0 ∷ 0 ∷ 1 ∷ 0 ∷ 2 ∷ 2 ∷ 1 ∷ 0 ∷ 2 ∷ 1 ∷ 1 ∷ 0 ∷ 2 ∷ 0 ∷ 0 ∷ 3 ∷ 3 ∷ 3 ∷ 3 ∷ 3 ∷ 3 ∷ 3 ∷ 0 ∷ [])
    ≡ PostStage 1 ∷ PostStage 2 ∷ MarkFound 0 1 ∷ PostStage 3
    ∷ ReadColour 0 2 ∷ ScanWord 0 0 2 ∷ MarkFound 2 1 ∷ Blacken 0
    ∷ ReadColour 2 2 ∷ ScanWord 2 1 1 ∷ MarkFound 1 1 ∷ Blacken 2
    ∷ ReadColour 1 2 ∷ ScanWord 1 1 0 ∷ Blacken 1
    ∷ ReadColour 1 3 ∷ ReadColour 2 3
    ∷ ReadColour 0 3 ∷ ReadColour 1 3 ∷ ReadColour 2 3
    ∷ ReadColour 1 3 ∷ ReadColour 2 3
    ∷ PostStage 4 ∷ []
unfolding kind_of layout_of
turns = refl
