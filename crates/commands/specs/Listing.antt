-- What `check-list` says of a pair of its list.
use Rattle.std.specs.Prelude.{◌≡◌, ◌==◌, ◌-◌, ◌++◌, ℕ, List, [], ◌∷◌, if◌then◌else◌, length, map, take}
use Rattle.command_line.specs.declared.options.Refusals.{Refusals}
use Rattle.reports.specs.Files.{file_of, path_of}
use Rattle.reports.specs.Said.{Said, OnOutput, OnError, OnBoth, OfCertified}
use Rattle.reports.specs.declared.files.Files.{Files}
use Rattle.check_commands.specs.Checks.{OfCerts}
use Rattle.commands.specs.declared.listing.Listed.{Listed}

-- what is printed on both outputs, the standard output first
abbrev pub text_of : Said → List ℕ
text_of (OnOutput answer) = answer.text
text_of (OnError answer) = answer.text
text_of (OnBoth answer text) = answer.text ++ text

-- the status with which it ends
abbrev pub status_of : Said → ℕ
status_of (OnOutput answer) = answer.status
status_of (OnError answer) = answer.status
status_of (OnBoth answer text) = answer.status

-- a space in the place of a line end
abbrev pub spaced : ℕ → ℕ
spaced byte = if byte == 10 then 32 else byte

-- some lines as one: a space in the place of each line end but the last
abbrev pub in_one_line : List ℕ → List ℕ
in_one_line text = map spaced (take (length text - 1) text) ++ 10 ∷ []

-- the line of a pair: the path of its module, a tab, and what is printed of the pair
abbrev pub line_of : (path text : List ℕ) → List ℕ
line_of path text = path ++ 9 ∷ in_one_line text

-- what `check` says of the files of a pair, in one line
abbrev pub IsListed : Refusals → Files → Listed → Type 0
IsListed refusals files listed =
    (said : Said) × OfCertified (OfCerts refusals) files.of_module files.certificate said × (listed.status ≡ status_of said)
    × (listed.line.items ≡ line_of (path_of (file_of files.of_module)) (text_of said))
