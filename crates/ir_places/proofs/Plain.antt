-- What is read with places is read by the reader's own forms.
use Rattle.std.proofs.Common.{◌≡◌, ℕ, suc, List, [], ◌∷◌, length, refl, ap, subst}
use Rattle.ir_ast.specs.declared.block.Block.{Block}
use Rattle.ir_ast.specs.declared.choices.Phi.{Phi}
use Rattle.ir_ast.specs.declared.instr.Instr.{Instr}
use Rattle.ir_forms.specs.declared.input.Input.{Input}
use Rattle.ir_forms.specs.Choices.{phi, phis, at_no_phi}
use Rattle.ir_forms.specs.Ends.{block_end}
use Rattle.ir_forms.specs.Input.{Form}
use Rattle.ir_forms.specs.Instructions.{body, placed, at_terminator}
use Rattle.ir_forms.specs.Sites.{afterwards, first_of}
use Rattle.ir_text.specs.declared.blocks.Blocks.{Blocks}
use Rattle.ir_text.specs.Blocks as plain
use Rattle.ir_text.specs.Blocks.{block, blocks}
use Rattle.ir_text.specs.ItemsOfText.{with_function}
use Rattle.ir_places.specs.declared.places.BlockPlaces.{BlockPlaces}
use Rattle.ir_places.specs.declared.places.BlocksSoFar.{BlocksSoFar}
use Rattle.ir_places.specs.declared.places.SoFar.{SoFar}
use Rattle.ir_places.specs.Places.{place_of, phi_place, phi_places, instruction_place, instruction_places, at_end, after_instruction, block_places, further, at_close, after_block, all_places, body_places}
use Rattle.ir_places.specs.Plainly.{AreThoseOf, EachHas, IsReadPlainly}
use Rattle.ir_places.proofs.Lists.{listed_plain, follows_plain}

-- ---- lists of which the lengths are the same

Any : {A : Type 0} → A → ℕ → Type 0
Any a n = Unit {0}

AsMany : {A : Type 0} → List A → List ℕ → Type 0
AsMany xs ns = length xs ≡ length ns

one_more : {A : Type 0} (a : A) (n : ℕ) (xs : List A) (ns : List ℕ) → Any a n → AsMany xs ns → AsMany (a ∷ xs) (n ∷ ns)
unfolding Any AsMany
one_more a n xs ns _ e = ap suc e

none : (A : Type 0) → AsMany {A = A} [] []
unfolding AsMany
none A = refl

-- a form of which the place is kept is the form
kept : {A : Type 0} (g : Form A) (i : Input) (n : ℕ) (o : Input) → (place_of g).says i n o → (a : A) × g.says i a o × Any a n
unfolding Any
kept g i n o h = (h.0, subst (λ (m : Input). g.says i h.0 m) h.3.1 h.2, tt)

-- ---- blocks

phi_kept : (i : Input) (n : ℕ) (o : Input) → phi_place.says i n o → (a : Phi) × phi.says i a o × Any a n
unfolding phi_place
phi_kept i n o h = kept phi i n o h

phis_kept : (i : Input) (ns : List ℕ) (o : Input) → phi_places.says i ns o → (ps : List Phi) × phis.says i ps o × (length ps ≡ length ns)
unfolding phis AsMany
phis_kept i ns o h = listed_plain Any AsMany (none Phi) one_more at_no_phi phi.says phi_place.says phi_kept i ns o h

body_kept : (number : ℕ) (i : Input) (ns : List ℕ) (o : Input) → (instruction_places number).says i ns o → (xs : List Instr) × (body number).says i xs o × (length xs ≡ length ns)
unfolding body AsMany instruction_places
body_kept number i ns o h =
    follows_plain Any AsMany (none Instr) one_more at_terminator (λ s. (placed s).says) afterwards at_end (λ s. (instruction_place s).says) after_instruction (λ (s : SoFar). s.site)
    (λ d i. refl) (λ d a b. refl) (λ d. kept (placed d.site)) (record { site = first_of number }) i ns o h

block_kept : (number : ℕ) (i : Input) (p : BlockPlaces) (o : Input) → (block_places number).says i p o → (b : Block) × (block number).says i b o × AreThoseOf b p
unfolding block block_places
block_kept number i p o h =
    let after_label = h.3 in
    let after_records = after_label.3 in
    let phis = phis_kept after_label.1 after_records.0 after_records.1 after_records.2 in
    let after_phis = after_records.3 in
    let body = body_kept number after_records.1 after_phis.0 after_phis.1 after_phis.2 in
    let after_body = after_phis.3 in
    let end = kept block_end after_phis.1 after_body.0 after_body.1 after_body.2 in
    let b : Block = record { label = h.0; phis = phis.0; body = body.0; end = end.0 } in
    let those : AreThoseOf b (record { phis = after_records.0; body = after_phis.0; end = after_body.0 }) = record { phis = phis.2; body = body.2 } in (
      b,
      (h.0, h.1, h.2, (after_label.0, after_label.1, after_label.2, (phis.0, after_records.1, phis.1, (body.0, after_phis.1, body.1, (end.0, after_body.1, end.1, (refl, after_body.3.1)))))),
      subst (λ (q : BlockPlaces). AreThoseOf b q) after_body.3.0 those,
    )

-- ---- the body of a function

one_block_more : (b : Block) (p : BlockPlaces) (bs : List Block) (ps : List BlockPlaces) → AreThoseOf b p → EachHas bs ps → EachHas (b ∷ bs) (p ∷ ps)
one_block_more b p bs ps h t = (h, t)

blocks_kept : (i : Input) (ps : List BlockPlaces) (o : Input) → all_places.says i ps o → (bs : List Block) × blocks.says i bs o × EachHas bs ps
unfolding blocks
blocks_kept i ps o h =
    follows_plain AreThoseOf EachHas tt one_block_more plain.at_close (λ b. (plain.further b).says) plain.after_block at_close (λ s. (further s).says) after_block
    (λ (s : BlocksSoFar). let it : Blocks = record { count = s.count } in it)
    (λ d i. refl) (λ d a b. refl) (λ d. block_kept d.count) (record { count = 0 }) i ps o h

pub read_plainly : IsReadPlainly
unfolding body_places
read_plainly h i ps o says =
    let opened = says in
    let inside = opened.3 in
    let bs = blocks_kept opened.1 inside.0 inside.1 inside.2 in
    let closed = inside.3 in
    let same = closed.3 in (
      bs.0,
      (opened.0, opened.1, opened.2, (bs.0, inside.1, bs.1, (closed.0, closed.1, closed.2, (refl, ap (with_function h bs.0) same.1)))),
      subst (λ (qs : List BlockPlaces). EachHas bs.0 qs) same.0 bs.2,
    )
