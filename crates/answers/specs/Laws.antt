-- What holds of one function among other functions and certificates.
use Rattle.std.specs.Prelude.{◌≡◌, ℕ, List, Option}
use Rattle.ir_ast.specs.declared.function.Function.{Function}
use Rattle.ir_ast.specs.declared.module.Module.{Module}
use Rattle.ir_ast.specs.declared.shapes.Shapes.{Shapes}
use Rattle.certs.specs.Fits.{section_fits}
use Rattle.certs.specs.ShapesFit.{roots_fit}
use Rattle.certs.specs.declared.section.Section.{Section}
use Rattle.layout.specs.Layouts.{LaidOut}
use Rattle.block_rules.specs.Certified.{context_of}
use Rattle.block_rules.specs.Functions.{blocks_in, IsFunctionCertified, IsFirstInFunction}
use Rattle.block_rules.specs.Edges.{entry_facts_at}
use Rattle.block_rules.specs.declared.block_fault.Refusal.{Refusal}
use Rattle.answers.specs.Local.{laid_with, with_functions, SameScope}

-- a function that is certified stays so where its scope is the same
abbrev pub StayCertified : Type 0
StayCertified =
    (p : LaidOut) (certs : List Section) (fs : List Function) (others : List Section) (func : ℕ) → SameScope p certs fs others func
    → IsFunctionCertified p certs func → IsFunctionCertified (laid_with p fs) others func

-- so does the first refusal of a function
abbrev pub StayRefused : Type 0
StayRefused =
    (p : LaidOut) (certs : List Section) (fs : List Function) (others : List Section) (func : ℕ) (refusal : Refusal) → SameScope p certs fs others func
    → IsFirstInFunction p certs func (blocks_in p func) refusal → IsFirstInFunction (laid_with p fs) others func (blocks_in (laid_with p fs) func) refusal

-- what a block begins with stays so, whatever the other functions and certificates are
abbrev pub StayGiven : Type 0
StayGiven =
    (p : LaidOut) (certs : List Section) (fs : List Function) (others : List Section) (f : Function) (section : Option Section) (block : ℕ)
    → entry_facts_at (context_of (laid_with p fs) others f section) block ≡ entry_facts_at (context_of p certs f section) block

-- whether a certificate fits a function depends on no other function
abbrev pub FitAlone : Type 0
FitAlone = (m : Module) (fs : List Function) (f : Function) (section : Section) → section_fits (with_functions m fs) f section ≡ section_fits m f section

-- nor does it whether each of its root slots has a shape
abbrev pub RootsFitAlone : Type 0
RootsFitAlone = (m : Module) (fs : List Function) (shapes : Shapes) (f : Function) → roots_fit (with_functions m fs) shapes f ≡ roots_fit m shapes f
