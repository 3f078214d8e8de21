-- The texts of a call, as the files of a command.
use Rattle.std.specs.Prelude.{◌≡◌, ◌==◌, ℕ, Bool, true, false, List, Option, Some, None, length}
use Rattle.reports.specs.Files.{bytes_of, file_of, is_wide}
use Rattle.reports.specs.declared.files.File.{File}
use Rattle.reports.specs.declared.files.Files.{Files}

-- the files have the text of a module, in which the wide forms may stand or not, and that of a certificate
pub record AreTexts (wide : Bool) (of_module cert : List ℕ) (files : Files) : Type 0 where
  pub has_module : bytes_of (file_of files.of_module) ≡ Some of_module
  pub has_forms : is_wide files.of_module ≡ wide
  pub has_cert : bytes_of files.certificate ≡ Some cert

-- the file has these shapes; without any there is none
abbrev pub IsShapesFile : (shapes : List ℕ) → Option File → Type 0
IsShapesFile shapes file = ((length shapes == 0) ≡ true → file ≡ None) × ((length shapes == 0) ≡ false → bytes_of file ≡ Some shapes)

-- the files have the text of a module, and that of its shapes if it is not empty
pub record AreShapedTexts (wide : Bool) (of_module shapes : List ℕ) (files : Files) : Type 0 where
  pub has_module : bytes_of (file_of files.of_module) ≡ Some of_module
  pub has_forms : is_wide files.of_module ≡ wide
  pub has_shapes : IsShapesFile shapes files.shapes
