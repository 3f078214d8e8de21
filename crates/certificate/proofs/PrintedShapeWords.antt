-- The printed shapes of the words of all structs are read as they were printed.
use Rattle.std.proofs.Common.{◌≡◌, ◌≢◌, inl, inr, ◌<◌, ◌≤◌, ◌^◌, ◌-◌, ◌||◌, ℕ, zero, suc, ◌+◌, Bool, true, false, [], ◌∷◌, ◌++◌, List, length, Option, Some, None, is_some, slice_get, unwrap_or, refl, ap, sym, subst, ◌∙◌, arith}
use Rattle.std.specs.List.{list_all, list_any, flat_map}
use Rattle.std.proofs.lemmas.Bool.{cases_eq, eq-eqb}
use Rattle.std.proofs.lemmas.List.{length-map}
use Rattle.lemmas.specs.Bools.{or_first, or_second}
use Rattle.lemmas.specs.Lists.{get_some}
use Rattle.ir_ast.specs.Shapes.{shape_at, row_at}
use Rattle.ir_ast.specs.declared.items_of_module.StructType.{StructType}
use Rattle.ir_ast.specs.declared.module.Module.{Module}
use Rattle.ir_ast.specs.declared.shapes.Shapes.{Shapes}
use Rattle.ir_tokens.specs.Bytes.{Text}
use Rattle.layout.specs.PointerRows.{ArePointerRows, IsPointerRow}
use Rattle.types.specs.References.{is_opaque}
use Rattle.name_text.specs.Words.{past_lines}
use Rattle.certs.specs.Fits.{stands_for}
use Rattle.certs.specs.ShapesFit.{row_fits}
use Rattle.certificate.specs.Alike.{word_shape}
use Rattle.certificate.specs.Input.{Input}
use Rattle.certificate.specs.Named.{IsNamed, HasStructs}
use Rattle.certificate.specs.ShapeDrafts.{none_given, pointers_at, is_pointer}
use Rattle.certificate.specs.ShapesPrint.{words_text}
use Rattle.certificate.proofs.CertShapes.{no_shape, row_fits_at}
use Rattle.certificate.proofs.PrintedRows.{Chain, chain_then, but_words, words_in, RowOn, row_on, begins_words}

-- ---- layouts and rows

target_there : (xs : List (Option ℕ)) (name layout : ℕ) → slice_get xs name ≡ Some (Some layout) → list_any (stands_for layout) xs ≡ true
target_there [] name layout e = absurd cc
target_there (x ∷ xs) zero layout e = let same : x ≡ Some layout = cc in rw same (here layout)
  where
    here : (n : ℕ) → (stands_for n (Some n) || list_any (stands_for n) xs) ≡ true
    here n = or_first (stands_for n (Some n)) (list_any (stands_for n) xs) (eq-eqb n n refl)
target_there (x ∷ xs) (suc name) layout e = or_second (stands_for layout x) (list_any (stands_for layout) xs) (target_there xs name layout e)

-- a word of type `ptr` is one of at most 64
pointer_few : (row : List Bool) (word : ℕ) → unwrap_or (slice_get row word) false ≡ true → word < length row
pointer_few [] word e = absurd cc
pointer_few (x ∷ row) zero e = omega arith
pointer_few (x ∷ row) (suc word) e = let more = pointer_few row word e in omega (arith, more)

pub none_length : {A : Type 0} (xs : List A) → length (none_given xs) ≡ length xs
none_length [] = refl
none_length (x ∷ xs) = ap suc (none_length xs)

row_small : (m : Module) (struct : StructType) (row : List Bool) (word : ℕ) → IsPointerRow m struct row → word < length row → word < 2 ^ 64
row_small m struct row word (inl is) less = omega (arith, less, is.2, ap length is.3, length-map is.0 (is_opaque m))
row_small m struct row word (inr is) less = absurd (omega (arith, less, ap length is.1))

pub from_zero : (k : ℕ) → k ≡ 0 + k
from_zero k = omega arith

-- ---- structs

-- the words of structs that are the next text
pub record WordsOn (m : Module) (shapes : Shapes) (n : ℕ) (structs : List StructType) (i : Input) (t : Text) : Type 0 where
  pub out : Input
  pub chain : Chain m i (flat_map (words_text m shapes) structs) t out
  pub rest : but_words i.read.shapes ≡ but_words out.read.shapes
  pub own : (layout : ℕ) (struct : StructType) → n ≤ layout → slice_get m.structs layout ≡ Some struct → (word : ℕ) → shape_at (row_at (words_in out) struct.name) word ≡ word_shape shapes struct word
  pub other : (name : ℕ) → ((layout : ℕ) (struct : StructType) → n ≤ layout → slice_get m.structs layout ≡ Some struct → name ≢ struct.name) → row_at (words_in out) name ≡ row_at (words_in i) name

-- what the words of structs need to be read
pub record WordsFree (m : Module) (shapes : Shapes) (pointers : List (List Bool)) (n : ℕ) (i : Input) : Type 0 where
  pub rows : i.read.shapes.pointers ≡ pointers
  pub there : (layout : ℕ) (struct : StructType) → slice_get m.structs layout ≡ Some struct → struct.name < length (words_in i)
  pub free : (layout : ℕ) (struct : StructType) → n ≤ layout → slice_get m.structs layout ≡ Some struct → row_at (words_in i) struct.name ≡ none_given (pointers_at pointers layout)

module _ (m : Module) (named : IsNamed m) (structs : HasStructs m) (shapes : Shapes) (pointers : List (List Bool)) (rows : ArePointerRows m pointers) (fit : list_all (row_fits m) shapes.words ≡ true)
    (whole : (layout : ℕ) (struct : StructType) (row : List Bool) → slice_get m.structs layout ≡ Some struct → slice_get pointers layout ≡ Some row → (word : ℕ) → is_some (word_shape shapes struct word) ≡ unwrap_or (slice_get row word) false) where
  -- the row of a struct
  struct_row : (layout : ℕ) (struct : StructType) → slice_get m.structs layout ≡ Some struct → (row : List Bool) × (slice_get pointers layout ≡ Some row) × IsPointerRow m struct row
  struct_row layout struct at =
      let within = within_of m.structs layout struct at in
      let p = get_some pointers layout (omega (arith, within, rows.one_each)) in
      (p.0, p.1, rows.each layout struct p.0 at p.1)
    where
      within_of : {A : Type 0} (xs : List A) (k : ℕ) (x : A) → slice_get xs k ≡ Some x → k < length xs
      within_of [] k x e = absurd cc
      within_of (y ∷ xs) zero x e = omega arith
      within_of (y ∷ xs) (suc k) x e = let more = within_of xs k x e in omega (arith, more)

  one_name : (one other : ℕ) (a b : StructType) → slice_get m.structs one ≡ Some a → slice_get m.structs other ≡ Some b → a.name ≡ b.name → one ≡ other
  one_name one other a b here there e = some_is one other (sym (structs one a here) ∙ ap (slice_get m.struct_of) e ∙ structs other b there)
    where
      some_is : (x y : ℕ) → ◌≡◌ {A = Option (Option ℕ)} (Some (Some x)) (Some (Some y)) → x ≡ y
      some_is x y e = cc

  struct_on : (layout : ℕ) (struct : StructType) → slice_get m.structs layout ≡ Some struct → (i : Input) (t : Text) → WordsFree m shapes pointers layout i → past_lines false t ≡ t → RowOn m struct.name 0 (row_at shapes.words struct.name) i t
  struct_on layout struct at i t free e =
      let r = struct_row layout struct at in
      let own_row : pointers_at i.read.shapes.pointers layout ≡ r.0 = ap (λ x. pointers_at x layout) free.rows ∙ ap (λ (x : Option (List Bool)). unwrap_or x []) r.1 in
      let none : row_at (words_in i) struct.name ≡ none_given r.0 = free.free layout struct (omega arith) at ∙ ap none_given (ap (λ (x : Option (List Bool)). unwrap_or x []) r.1) in
      let is = λ (k : ℕ) (some : is_some (shape_at (row_at shapes.words struct.name) k) ≡ true). sym (whole layout struct r.0 at r.1 k) ∙ some in
      row_on m named layout struct 0 (row_at shapes.words struct.name) i t (record {
        own = target_there m.struct_of struct.name layout (structs layout struct at);
        is = at;
        there = free.there layout struct at;
        targets = row_fits_at m shapes.words struct.name fit;
        pointers = λ k some. subst (λ x. is_pointer i.read.shapes layout x ≡ true) (from_zero k) (ap (λ x. unwrap_or (slice_get x k) false) own_row ∙ is k some);
        small = λ k some. subst (λ x. x < 2 ^ 64) (from_zero k) (row_small m struct r.0 k r.2 (pointer_few r.0 k (is k some)));
        room = λ k some. (let few = pointer_few r.0 k (is k some) in omega (arith, few, ap length none, none_length r.0));
        free = λ k. subst (λ x. shape_at (row_at (words_in i) struct.name) x ≡ None) (from_zero k) (ap (λ x. shape_at x k) none ∙ no_shape r.0 k);
      }) e

  pub words_on : (list : List StructType) (n : ℕ) (i : Input) (t : Text) → ((k : ℕ) → slice_get m.structs (n + k) ≡ slice_get list k) → WordsFree m shapes pointers n i → past_lines false t ≡ t → WordsOn m shapes n list i t
  words_on [] n i t at free e = record {
    out = i;
    chain = ([], refl);
    rest = refl;
    own = λ layout struct le there. absurd (past layout struct le there);
    other = λ name apart. refl;
  }
    where
      past : (layout : ℕ) (struct : StructType) → n ≤ layout → slice_get m.structs layout ≡ Some struct → ⊥
      past layout struct le there = (let z : n + (layout - n) ≡ layout = omega (arith, le) in none_some struct (sym (at (layout - n)) ∙ ap (slice_get m.structs) z ∙ there))
        where
          none_some : (struct : StructType) → ◌≡◌ {A = Option StructType} None (Some struct) → ⊥
          none_some struct e = cc
  words_on (struct ∷ list) n i t at free e =
      let here : slice_get m.structs n ≡ Some struct = (let z : n ≡ n + 0 = omega arith in ap (slice_get m.structs) z ∙ at 0) in
      let next : (k : ℕ) → slice_get m.structs ((n + 1) + k) ≡ slice_get list k = λ k. (let z : (n + 1) + k ≡ n + suc k = omega arith in ap (slice_get m.structs) z ∙ at (suc k)) in
      let after = flat_map (words_text m shapes) list in
      let one = struct_on n struct here i (after ++ t) free (begins_words m shapes list t e) in
      let apart : (layout : ℕ) (s : StructType) → n + 1 ≤ layout → slice_get m.structs layout ≡ Some s → s.name ≢ struct.name = λ layout s le there same. (let z = one_name layout n s struct there here same in omega (arith, le, z)) in
      let more = words_on list (n + 1) one.out t next (record {
        rows = sym (ap (λ d. d.pointers) one.rest) ∙ free.rows;
        there = λ layout s there. (let was = free.there layout s there in omega (arith, was, one.wide));
        free = λ layout s le there. one.other s.name (apart layout s le there) ∙ free.free layout s (omega (arith, le)) there;
      }) e in
      record {
        out = more.out;
        chain = chain_then m i one.out more.out (words_text m shapes struct) after t one.chain more.chain;
        rest = one.rest ∙ more.rest;
        own = λ layout s le there word. own_at one more apart here layout s le there word;
        other = λ name none. more.other name (λ layout s le there. none layout s (omega (arith, le)) there) ∙ one.other name (none n struct (omega arith) here);
      }
    where
      own_at : (one : RowOn m struct.name 0 (row_at shapes.words struct.name) i (flat_map (words_text m shapes) list ++ t)) (more : WordsOn m shapes (n + 1) list one.out t)
          → ((layout : ℕ) (s : StructType) → n + 1 ≤ layout → slice_get m.structs layout ≡ Some s → s.name ≢ struct.name) → slice_get m.structs n ≡ Some struct
          → (layout : ℕ) (s : StructType) → n ≤ layout → slice_get m.structs layout ≡ Some s → (word : ℕ) → shape_at (row_at (words_in more.out) s.name) word ≡ word_shape shapes s word
      own_at one more apart here layout s le there word = elim (cases_eq layout n) [
        | inl same ↦ (let is : s ≡ struct = same_struct s struct (sym there ∙ ap (slice_get m.structs) same ∙ here) in
            ap (λ (x : StructType). shape_at (row_at (words_in more.out) x.name) word) is
            ∙ ap (λ x. shape_at x word) (more.other struct.name (λ other o lo at e. apart other o lo at (sym e)))
            ∙ ap (λ x. shape_at (row_at (words_in one.out) struct.name) x) (from_zero word)
            ∙ one.own word
            ∙ ap (λ (x : StructType). word_shape shapes x word) (sym is))
        | inr ne ↦ more.own layout s (omega (arith, le, ne)) there word
      ]
        where
          same_struct : (a b : StructType) → ◌≡◌ {A = Option StructType} (Some a) (Some b) → a ≡ b
          same_struct a b e = cc
