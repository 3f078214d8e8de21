-- What `fix` says of its files, and the two texts that it hands out.
use Rattle.std.specs.Prelude.{◌≡◌, ◌++◌, ◌⊎◌, ℕ, Bool, true, false, List, [], Option, Some, None}
use Rattle.command_line.specs.declared.options.Refusals.TheVariants.{First}
use Rattle.reports.specs.Report.{no_memory}
use Rattle.reports.specs.Files.{bytes_of, file_of, is_wide}
use Rattle.reports.specs.Said.{Said, Saved, OnOutput, OnError, OnBoth, OfCertified}
use Rattle.reports.specs.declared.files.File.{File}
use Rattle.reports.specs.declared.files.Files.{Files}
use Rattle.reports.specs.declared.files.ModuleFile.{ModuleFile}
use Rattle.check_commands.specs.Checks.{OfCerts}

-- the same after these lines on the standard output
abbrev pub after_lines : (lines : List ℕ) → Said → Said
after_lines lines (OnOutput answer) = OnOutput (record { text = lines ++ answer.text; status = answer.status })
after_lines lines (OnError answer) = OnBoth (record { text = lines; status = answer.status }) answer.text
after_lines lines (OnBoth answer text) = OnBoth (record { text = lines ++ answer.text; status = answer.status }) text

-- one of the two files cannot be read
abbrev pub MissesText : (first : Option ModuleFile) (certificate : Option File) → Type 0
MissesText first certificate = (bytes_of (file_of first) ≡ None) ⊎ (bytes_of certificate ≡ None)

-- these texts are handed out, if files are to be written
abbrev pub AreHandedOut : (saves : Bool) → (before after : Saved) → (of_module certificate : List ℕ) → Type 0
AreHandedOut false before after of_module certificate = after ≡ before
AreHandedOut true before after of_module certificate =
    after ≡ record { file = before.file ++ of_module; cert = before.cert ++ certificate }

-- the files have these texts, and what `check` says of them is this
abbrev pub IsCheckOf : (wide : Bool) → (of_module certificate : List ℕ) → Said → Type 0
IsCheckOf wide of_module certificate said =
    (first : Option ModuleFile) × (file : Option File) × (bytes_of (file_of first) ≡ Some of_module) × (is_wide first ≡ wide) × (bytes_of file ≡ Some certificate)
    × OfCertified (OfCerts First) first file said

-- what `check` says of these texts, after these lines
abbrev pub IsCheckAfter : (lines : List ℕ) → (wide : Bool) → (of_module certificate : List ℕ) → Said → Type 0
IsCheckAfter lines wide of_module certificate said = (checked : Said) × IsCheckOf wide of_module certificate checked × (said ≡ after_lines lines checked)

-- these are the texts of the files
abbrev pub AreTexts : (first : Option ModuleFile) (certificate : Option File) → (of_module of_certs : List ℕ) → Type 0
AreTexts first certificate of_module of_certs = (bytes_of (file_of first) ≡ Some of_module) × (bytes_of certificate ≡ Some of_certs)

-- what `fix` says of a module and its certificate: some lines and what `check` says of the two texts that are handed out, which are those of
-- the files where there are no lines; what `check` says of files of which one cannot be read; or that memory was refused
pub data OfFix (files : Files) (before after : Saved) : Said → Type 0 where
  fixed : (lines of_module certificate : List ℕ) (said : Said) → (lines ≡ [] → AreTexts files.of_module files.certificate of_module certificate)
      → AreHandedOut files.saves before after of_module certificate → IsCheckAfter lines (is_wide files.of_module) of_module certificate said
      → OfFix files before after said
  not_fixed : (said : Said) → MissesText files.of_module files.certificate → after ≡ before → OfCertified (OfCerts First) files.of_module files.certificate said
      → OfFix files before after said
  no_room : (said : Said) → said ≡ OnError no_memory → OfFix files before after said
