-- Where the words of each row agree, exactly the words of type `ptr` have a shape.
use Rattle.std.proofs.Common.{◌≡◌, ◌≤◌, inl, inr, ℕ, zero, suc, Bool, true, false, List, [], ◌∷◌, length, Option, Some, None, is_some, slice_get, unwrap_or, refl, ap, sym, subst, ◌∙◌, arith}
use Rattle.std.specs.Prelude.{◌↔◌, max, is_none, if◌then◌else◌}
use Rattle.std.proofs.lemmas.Bool.{cases_lt}
use Rattle.std.proofs.lemmas.Option.{slice_get_past}
use Rattle.lemmas.specs.Bools.{and_first, and_second, and_true}
use Rattle.ir_ast.specs.Shapes.{shape_at, row_at}
use Rattle.ir_ast.specs.declared.items_of_module.StructType.{StructType}
use Rattle.ir_ast.specs.declared.module.Module.{Module}
use Rattle.ir_ast.specs.declared.shapes.Shapes.{Shapes}
use Rattle.layout.specs.PointerRows.{ArePointerRows, one_rows}
use Rattle.certificate.specs.Alike.{HasWordShapes}
use Rattle.whole_certs.specs.Marked.{is_marked}
use Rattle.whole_certs.specs.Words.{word_agrees, words_agree, struct_agrees, structs_agree}
use Rattle.whole_certs.proofs.Ranges.{in_range, all_in_range}

-- ---- a row

same_if_agrees : (marked : Bool) (shape : Option ℕ) → (if marked then is_some shape else is_none shape) ≡ true → is_some shape ≡ marked
same_if_agrees true shape agrees = agrees
same_if_agrees false None agrees = refl
same_if_agrees false (Some layout) agrees = absurd cc

agrees_if_same : (marked : Bool) (shape : Option ℕ) → is_some shape ≡ marked → (if marked then is_some shape else is_none shape) ≡ true
agrees_if_same true shape same = same
agrees_if_same false None same = refl
agrees_if_same false (Some layout) same = absurd cc

-- a word past both rows has no shape, and is not of type `ptr`
past_both : (row : List (Option ℕ)) (pointers : List Bool) (word : ℕ) → length row ≤ word → length pointers ≤ word → is_some (shape_at row word) ≡ is_marked pointers word
past_both row pointers word no_shape no_pointer =
    let shape : is_some (shape_at row word) ≡ false = ap (λ (x : Option (Option ℕ)). is_some (unwrap_or x None)) (slice_get_past row word no_shape) in
    let marked : is_marked pointers word ≡ false = ap (λ (x : Option Bool). unwrap_or x false) (slice_get_past pointers word no_pointer) in
    shape ∙ sym marked

each_word : (row : List (Option ℕ)) (pointers : List Bool) → words_agree row pointers ≡ true → (word : ℕ) → is_some (shape_at row word) ≡ is_marked pointers word
each_word row pointers agrees word =
    elim (cases_lt word (max (length row) (length pointers))) [
      | inl less ↦ same_if_agrees (is_marked pointers word) (shape_at row word) (in_range (word_agrees row pointers) (max (length row) (length pointers)) word agrees less)
      | inr past ↦ past_both row pointers word (omega (arith, past)) (omega (arith, past))
    ]

all_words : (row : List (Option ℕ)) (pointers : List Bool) → ((word : ℕ) → is_some (shape_at row word) ≡ is_marked pointers word) → words_agree row pointers ≡ true
all_words row pointers each =
    all_in_range (word_agrees row pointers) 0 (max (length row) (length pointers)) (λ word. agrees_if_same (is_marked pointers word) (shape_at row word) (each word))

-- ---- the structs of a module

agree_at : (shapes : Shapes) (structs : List StructType) (pointers : List (List Bool)) → structs_agree shapes structs pointers ≡ true → (k : ℕ) (struct : StructType) (row : List Bool) → slice_get structs k ≡ Some struct → slice_get pointers k ≡ Some row
    → struct_agrees shapes struct row ≡ true
agree_at shapes [] pointers all k struct row at there = absurd cc
agree_at shapes (s ∷ structs) [] all k struct row at there = absurd cc
agree_at shapes (s ∷ structs) (r ∷ pointers) all zero struct row at there =
    let one : s ≡ struct = cc in
    let other : r ≡ row = cc in
    let first : struct_agrees shapes s r ≡ true = and_first (struct_agrees shapes s r) (structs_agree shapes structs pointers) all in
    subst (λ (x : List Bool). struct_agrees shapes struct x ≡ true) other (subst (λ (x : StructType). struct_agrees shapes x r ≡ true) one first)
agree_at shapes (s ∷ structs) (r ∷ pointers) all (suc k) struct row at there = agree_at shapes structs pointers (and_second (struct_agrees shapes s r) (structs_agree shapes structs pointers) all) k struct row at there

agree_if : (shapes : Shapes) (structs : List StructType) (pointers : List (List Bool))
    → ((k : ℕ) (struct : StructType) (row : List Bool) → slice_get structs k ≡ Some struct → slice_get pointers k ≡ Some row → struct_agrees shapes struct row ≡ true) → structs_agree shapes structs pointers ≡ true
agree_if shapes [] pointers each = refl
agree_if shapes (s ∷ structs) [] each = refl
agree_if shapes (s ∷ structs) (r ∷ pointers) each = and_true (struct_agrees shapes s r) (structs_agree shapes structs pointers) (each 0 s r refl refl) (agree_if shapes structs pointers (λ k. each (suc k)))

has_words : (m : Module) (shapes : Shapes) (pointers : List (List Bool)) → ArePointerRows m pointers → structs_agree shapes m.structs pointers ≡ true → HasWordShapes m shapes
has_words m shapes pointers rows agree =
    (pointers, rows, λ layout struct row at there word. each_word (row_at shapes.words struct.name) row (agree_at shapes m.structs pointers agree layout struct row at there) word)

words_had : (m : Module) (shapes : Shapes) (pointers : List (List Bool)) → ArePointerRows m pointers → HasWordShapes m shapes → structs_agree shapes m.structs pointers ≡ true
words_had m shapes pointers rows has =
    let same : has.0 ≡ pointers = one_rows m has.0 pointers has.1 rows in
    agree_if shapes m.structs pointers (λ layout struct row at there.
    all_words (row_at shapes.words struct.name) row (λ word. has.2 layout struct row at (ap (λ (x : List (List Bool)). slice_get x layout) same ∙ there) word))

-- what is found of the rows says whether exactly the words of type `ptr` have a shape
pub words_found : (m : Module) (shapes : Shapes) (pointers : List (List Bool)) (found : Bool) → ArePointerRows m pointers → found ≡ structs_agree shapes m.structs pointers → (found ≡ true) ↔ HasWordShapes m shapes
words_found m shapes pointers found rows is = (λ (e : found ≡ true). has_words m shapes pointers rows (sym is ∙ e), λ (has : HasWordShapes m shapes). is ∙ words_had m shapes pointers rows has)
