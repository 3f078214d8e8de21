-- How often a trace looked at a cell and made it grey.
use Rattle.std.specs.Prelude.{ℕ, suc, ◌==◌, ◌&&◌, nat_lt, Bool, List, [], ◌∷◌, if◌then◌else◌}
use Rattle.colours.specs.declared.turn.Turn.{Turn}
use Rattle.colours.specs.declared.turn.Turn.TheVariants.{PostStage, MarkFound, ReadColour}
use Rattle.colours.specs.Colours.{cycle_of, grey}
use Rattle.colours.specs.Collector.{posted_of}

-- how often a cell is in a list
abbrev pub count_of : ℕ → List ℕ → ℕ
count_of c [] = 0
count_of c (d ∷ ds) = if c == d then suc (count_of c ds) else count_of c ds

-- how often the collector looked at the cell's colour since the last post
abbrev pub looks_at : List Turn → ℕ → ℕ
looks_at [] c = 0
looks_at (PostStage stage ∷ log) c = 0
looks_at (ReadColour cell colour ∷ log) c = if cell == c then suc (looks_at log c) else looks_at log c
looks_at (_ ∷ log) c = looks_at log c

-- the mark makes a cell of this colour grey
abbrev pub is_below_grey : (stage colour : ℕ) → Bool
is_below_grey stage colour = nat_lt colour (grey (cycle_of stage))

-- how often one of the collector's marks made the cell grey since the last post
abbrev pub shades_of : List Turn → ℕ → ℕ
shades_of [] c = 0
shades_of (PostStage stage ∷ log) c = 0
shades_of (MarkFound cell colour ∷ log) c = if (cell == c) && is_below_grey (posted_of log) colour then suc (shades_of log c) else shades_of log c
shades_of (_ ∷ log) c = shades_of log c
