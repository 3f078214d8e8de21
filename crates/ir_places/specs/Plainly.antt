-- What is read with places is read by the reader's own form.
use Rattle.std.specs.Prelude.{◌≡◌, List, [], ◌∷◌, length}
use Rattle.ir_ast.specs.declared.block.Block.{Block}
use Rattle.ir_forms.specs.declared.input.Input.{Input}
use Rattle.ir_text.specs.ItemsOfText.{body_after, with_function}
use Rattle.ir_text.specs.declared.items_of_text.FunctionHead.{FunctionHead}
use Rattle.ir_places.specs.declared.places.BlockPlaces.{BlockPlaces}
use Rattle.ir_places.specs.Places.{body_places}

-- a block has as many phis and as many instructions as have places here
pub record AreThoseOf (b : Block) (p : BlockPlaces) : Type 0 where
  pub phis : length b.phis ≡ length p.phis
  pub body : length b.body ≡ length p.body

-- so has each of these blocks
abbrev pub EachHas : List Block → List BlockPlaces → Type 0
EachHas [] [] = Unit {0}
EachHas (b ∷ bs) (p ∷ ps) = AreThoseOf b p × EachHas bs ps
EachHas _ _ = ⊥

-- what is read with places as the body of a function is read by the reader as the body after any head: as blocks of so many phis and instructions, up to the same state
abbrev pub IsReadPlainly : Type 0
IsReadPlainly = (h : FunctionHead) (i : Input) (ps : List BlockPlaces) (o : Input) → body_places.says i ps o → (bs : List Block) × (body_after h).says i tt (with_function h bs o) × EachHas bs ps
