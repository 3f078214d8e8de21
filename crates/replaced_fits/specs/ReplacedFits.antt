-- Certificates that fit a module, where one function is replaced.
use Rattle.std.specs.Prelude.{◌≡◌, ℕ, true, false, List, Some, slice_get}
use Rattle.ir_ast.specs.declared.function.Function.{Function}
use Rattle.ir_ast.specs.declared.module.Module.{Module}
use Rattle.ir_ast.specs.declared.outside.Outside.{Outside}
use Rattle.ir_ast.specs.declared.shapes.Shapes.{Shapes}
use Rattle.ir_tokens.specs.Bytes.{Text}
use Rattle.ir_text.specs.Replaced.{IsReplaced}
use Rattle.ir_print_law.specs.Wholes.{IsWhole}
use Rattle.ir_print_law.specs.Within.{IsWithin}
use Rattle.layout.specs.Layouts.{wants_shapes}
use Rattle.certs.specs.Families.{is_opaque_text}
use Rattle.certs.specs.Fits.{fits}
use Rattle.certs.specs.ForeignFit.{foreign_fits}
use Rattle.certs.specs.ShapesFit.{roots_fit, shapes_fit}
use Rattle.certs.specs.declared.section.Section.{Section}
use Rattle.certificate.specs.Replaced.{FitOthers}
use Rattle.replaced_fits.specs.Closed.{IsClosed}

-- the types of a whole module whose numbers are within its tables are within its table
abbrev pub AreWithinClosed : Type 0
AreWithinClosed = (m : Module) → IsWhole m → IsWithin m → IsClosed m

-- where the code of one function is replaced, the sections of the others fit as they did; the text writes `ptr` where it did
abbrev pub OthersStayFitting : Type 0
OthersStayFitting = (m : Module) (certs : List Section) (func : ℕ) (code : Text) (n : Module) → IsClosed m → fits m certs ≡ true → IsReplaced m func code n → is_opaque_text n ≡ is_opaque_text m
    → FitOthers n func certs

-- where the code of one function is replaced, a text that has its shapes, and wants none, writes `ptr` where it did
abbrev pub PointersStay : Type 0
PointersStay = (m : Module) (func : ℕ) (code : Text) (n : Module) → IsReplaced m func code n → wants_shapes n ≡ false → shapes_fit m m.shapes ≡ true → is_opaque_text n ≡ is_opaque_text m

-- each root slot of type `ptr` of the function with this number has a shape, where the module has shapes
abbrev pub AreRootsShaped : Module → (func : ℕ) → Type 0
AreRootsShaped n func = (given : Shapes) (f : Function) → n.shapes ≡ Some given → slice_get n.functions func ≡ Some f → roots_fit n given f ≡ true

-- where the code of one function is replaced, the module's shapes fit as they did, if they have one for each root slot of the new function; the text writes `ptr` where it did
abbrev pub ShapesStayFitting : Type 0
ShapesStayFitting = (m : Module) (func : ℕ) (code : Text) (n : Module) → IsClosed m → IsReplaced m func code n → is_opaque_text n ≡ is_opaque_text m → AreRootsShaped n func → shapes_fit m m.shapes ≡ true
    → shapes_fit n n.shapes ≡ true

-- where the code of one function is replaced, the module trusts what it did, and functions outside and numbers of layouts fit it as they did
abbrev pub ForeignStaysFitting : Type 0
ForeignStaysFitting = (m : Module) (func : ℕ) (code : Text) (n : Module) → IsClosed m → IsReplaced m func code n → is_opaque_text n ≡ is_opaque_text m
    → (n.trusted ≡ m.trusted) × ((foreign : Outside) → foreign_fits m foreign ≡ true → foreign_fits n foreign ≡ true)
