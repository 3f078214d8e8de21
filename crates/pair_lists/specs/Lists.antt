-- Lists of pairs of paths: which pair a line names, and what a text of lines is.
use Rattle.std.specs.Prelude.{◌≡◌, ◌==◌, ◌||◌, ◌+◌, ℕ, Bool, true, false, not, List, [], ◌∷◌, Option, Some, None, if◌then◌else◌, is_some, length, map, take, slice_index, slice_get}
use Rattle.std.specs.List.{All, filter, list_any, slice_split}
use Rattle.std.specs.Str.{IsUtf8}
use Rattle.std.specs.Str.Lines.{lines}
use Rattle.pair_lists.specs.declared.fault.ListFault.{ListFault}
use Rattle.pair_lists.specs.declared.fault.ListFault.TheVariants.{NotText, Line, Memory}
use Rattle.pair_lists.specs.declared.pair.Pair.{Pair}

-- a text, as its bytes
abbrev pub Text : Type 0
Text = List ℕ

-- ---- lines

-- a line that names no pair and need not: an empty one, or one that begins with a semicolon
abbrev pub is_silent : Text → Bool
is_silent line = length line == 0 || slice_index line 0 == 59

-- the sign between the paths of a line: a tab, or a space where the line has no tab
abbrev pub sign_of : Text → ℕ
sign_of line = if list_any (λ b. b == 9) line then 9 else 32

-- two paths, if none of them is empty
abbrev pub two_paths : List Text → Option (Text × Text)
two_paths (of_module ∷ certificate ∷ []) = if length of_module == 0 || length certificate == 0 then None else Some (of_module, certificate)
two_paths _ = None

-- the module and the certificate that a line names: its parts around the sign, which are two
abbrev pub pair_in : Text → Option (Text × Text)
pair_in line = two_paths (slice_split (λ b. b == sign_of line) line)

-- whether a line may stand in a list
abbrev pub is_line : Text → Bool
is_line line = is_silent line || is_some (pair_in line)

-- ---- lists

-- a pair, as plain text
abbrev pub paths_of : Pair → Text × Text
paths_of pair = (pair.of_module.now, pair.certificate.now)

-- these are the pairs of the lines that name some, in their order
abbrev pub ArePairs : (lines : List Text) → List Pair → Type 0
ArePairs lines pairs = map (λ pair. Some (paths_of pair)) pairs ≡ map pair_in (filter (λ line. not (is_silent line)) lines)

-- the line of this number, counted from 1, may not stand in a list, and each line before it may
abbrev pub IsFirstWrong : (lines : List Text) → (number : ℕ) → Type 0
IsFirstWrong lines number =
    (before : ℕ) × (line : Text) × (number ≡ before + 1) × (slice_get lines before ≡ Some line) × (is_line line ≡ false) × All (λ line. is_line line ≡ true) (take before lines)

-- why these lines are no list
abbrev pub IsWrongAt : (lines : List Text) → ListFault → Type 0
IsWrongAt lines Memory = Unit
IsWrongAt lines NotText = ⊥
IsWrongAt lines (Line number) = IsFirstWrong lines number

-- why a text is no list: it is no UTF-8, or a line of it may not stand there
abbrev pub IsListFault : Text → ListFault → Type 0
IsListFault text NotText = ¬ (IsUtf8 text)
IsListFault text fault = IsWrongAt (lines text) fault
