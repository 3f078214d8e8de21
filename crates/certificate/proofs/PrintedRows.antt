-- Printed shapes of words are read as they were printed.
use Rattle.std.proofs.Common.{◌≡◌, ◌≢◌, ◌<◌, ◌^◌, ℕ, zero, suc, ◌+◌, true, false, [], ◌∷◌, ◌++◌, List, length, Option, Some, None, is_some, slice_get, slice_set, refl, ap, sym, subst, ◌∙◌, append_assoc, arith}
use Rattle.std.proofs.lemmas.List.{length-set}
use Rattle.std.specs.List.{flat_map}
use Rattle.lemmas.specs.Bools.{and_first, and_second}
use Rattle.grammar.specs.Many.{Before, Listed}
use Rattle.ir_ast.specs.Shapes.{shape_at, row_at}
use Rattle.ir_ast.specs.declared.items_of_module.StructType.{StructType}
use Rattle.ir_ast.specs.declared.module.Module.{Module}
use Rattle.ir_ast.specs.declared.shapes.Shapes.{Shapes}
use Rattle.ir_tokens.specs.Bytes.{Text}
use Rattle.name_text.specs.Reader.{recorded}
use Rattle.name_text.specs.Words.{past_lines}
use Rattle.certs.specs.ShapesFit.{shape_fits, row_fits}
use Rattle.certificate.specs.Input.{Input, shaping}
use Rattle.certificate.specs.Named.{IsNamed}
use Rattle.certificate.specs.ShapeDrafts.{name_in, name_of, is_pointer, has_word_shape, with_word_shape}
use Rattle.certificate.specs.ShapeForms.{past_shapes, shape_line, shape_lines}
use Rattle.certificate.specs.ShapesPrint.{word_text, row_text, words_text}
use Rattle.certificate.specs.declared.shape_draft.ShapeDraft.{ShapeDraft}
use Rattle.certificate.proofs.PrintedLines.{at}
use Rattle.certificate.proofs.PrintedShapeLines.{word_on}
use Rattle.certificate.proofs.ReadShapes.{IsTarget}

-- ---- lines one after another

-- this text is read as lines of shapes
abbrev pub Chain : Module → Input → (text rest : Text) → Input → Type 0
Chain m i text t o = (count : List (Unit {0})) × Before past_shapes (shape_line m).says (at i (text ++ t)) count (at o t)

pub chain_one : (m : Module) (i o : Input) (text t : Text) → past_shapes (at i (text ++ t)) ≡ false → (shape_line m).says (at i (text ++ t)) tt (at o t) → Chain m i text t o
chain_one m i o text t stop says = (tt ∷ [], (stop, at o t, says, refl))

before_then : (m : Module) (i : Input) (xs : List (Unit {0})) (o : Input) (ys : List (Unit {0})) (p : Input) → Before past_shapes (shape_line m).says i xs o → Before past_shapes (shape_line m).says o ys p → Before past_shapes (shape_line m).says i (xs ++ ys) p
before_then m i [] o ys p a b = subst (λ (x : Input). Before past_shapes (shape_line m).says x ys p) (sym a) b
before_then m i (u ∷ xs) o ys p a b = (a.0, a.1, a.2, before_then m a.1 xs o ys p a.3 b)

pub chain_then : (m : Module) (i o p : Input) (text more t : Text) → Chain m i text (more ++ t) o → Chain m o more t p → Chain m i (text ++ more) t p
chain_then m i o p text more t a b =
    let count = a.0 ++ b.0 in
    (count, subst (λ (x : Text). Before past_shapes (shape_line m).says (at i x) count (at p t)) (sym (append_assoc text more t)) (before_then m (at i (text ++ (more ++ t))) a.0 (at o (more ++ t)) b.0 (at p t) a.1 b.1))

listed_of : (m : Module) (i : Input) (xs : List (Unit {0})) (o : Input) → Before past_shapes (shape_line m).says i xs o → past_shapes o ≡ true → Listed past_shapes (shape_line m).says i xs o
listed_of m i [] o a stop = (ap past_shapes a ∙ stop, a)
listed_of m i (u ∷ xs) o a stop = (a.0, a.1, a.2, listed_of m a.1 xs o a.3 stop)

-- shapes after which no other comes
pub chain_ends : (m : Module) (i o : Input) (text t : Text) → Chain m i text t o → past_shapes (at o t) ≡ true → (shape_lines m).says (at i (text ++ t)) tt (at o t)
unfolding shape_lines
chain_ends m i o text t a stop = (a.0, at o t, listed_of m (at i (text ++ t)) a.0 (at o t) a.1 stop, (refl, refl))

-- ---- rows

pub put_here : (xs : List (Option ℕ)) (i target : ℕ) → i < length xs → shape_at (slice_set xs i (Some target)) i ≡ Some target
put_here [] i target lt = absurd (omega (arith, lt))
put_here (x ∷ xs) zero target lt = refl
put_here (x ∷ xs) (suc i) target lt = put_here xs i target (omega (arith, lt))

pub put_other : (xs : List (Option ℕ)) (i target j : ℕ) → j ≢ i → shape_at (slice_set xs i (Some target)) j ≡ shape_at xs j
put_other [] i target j ne = refl
put_other (x ∷ xs) zero target zero ne = absurd (ne refl)
put_other (x ∷ xs) zero target (suc j) ne = refl
put_other (x ∷ xs) (suc i) target zero ne = refl
put_other (x ∷ xs) (suc i) target (suc j) ne = put_other xs i target j (λ e. ne (ap suc e))

row_here : (rows : List (List (Option ℕ))) (i : ℕ) (row : List (Option ℕ)) → i < length rows → row_at (slice_set rows i row) i ≡ row
row_here [] i row lt = absurd (omega (arith, lt))
row_here (x ∷ rows) zero row lt = refl
row_here (x ∷ rows) (suc i) row lt = row_here rows i row (omega (arith, lt))

row_other : (rows : List (List (Option ℕ))) (i : ℕ) (row : List (Option ℕ)) (j : ℕ) → j ≢ i → row_at (slice_set rows i row) j ≡ row_at rows j
row_other [] i row j ne = refl
row_other (x ∷ rows) zero row zero ne = absurd (ne refl)
row_other (x ∷ rows) zero row (suc j) ne = refl
row_other (x ∷ rows) (suc i) row zero ne = refl
row_other (x ∷ rows) (suc i) row (suc j) ne = row_other rows i row j (λ e. ne (ap suc e))

-- what is read so far but for the words
abbrev pub but_words : ShapeDraft → ShapeDraft
but_words d = record d { shapes = record d.shapes { words = [] } }

abbrev pub words_in : Input → List (List (Option ℕ))
words_in i = i.read.shapes.shapes.words

-- a row that is the next text
pub record RowOn (m : Module) (name n : ℕ) (row : List (Option ℕ)) (i : Input) (t : Text) : Type 0 where
  pub out : Input
  pub chain : Chain m i (row_text m name n row) t out
  pub rest : but_words i.read.shapes ≡ but_words out.read.shapes
  pub own : (k : ℕ) → shape_at (row_at (words_in out) name) (n + k) ≡ shape_at row k
  pub before : (k : ℕ) → k < n → shape_at (row_at (words_in out) name) k ≡ shape_at (row_at (words_in i) name) k
  pub other : (x : ℕ) → x ≢ name → row_at (words_in out) x ≡ row_at (words_in i) x
  pub wide : length (words_in out) ≡ length (words_in i)

begins_row : (m : Module) (name n : ℕ) (row : List (Option ℕ)) (t : Text) → past_lines false t ≡ t → past_lines false (row_text m name n row ++ t) ≡ row_text m name n row ++ t
begins_row m name n [] t e = e
begins_row m name n (None ∷ row) t e = begins_row m name (n + 1) row t e
begins_row m name n (Some target ∷ row) t e = refl

pub begins_words : (m : Module) (shapes : Shapes) (structs : List StructType) (t : Text) → past_lines false t ≡ t → past_lines false (flat_map (words_text m shapes) structs ++ t) ≡ flat_map (words_text m shapes) structs ++ t
begins_words m shapes [] t e = e
begins_words m shapes (s ∷ structs) t e =
    let row = words_text m shapes s in
    let more = flat_map (words_text m shapes) structs in
    let same = append_assoc row more t in
    ap (past_lines false) same ∙ begins_row m s.name 0 (row_at shapes.words s.name) (more ++ t) (begins_words m shapes structs t e) ∙ sym same

module _ (m : Module) (named : IsNamed m) where
  -- what a row needs to be read
  pub record RowFree (layout : ℕ) (struct : StructType) (n : ℕ) (row : List (Option ℕ)) (i : Input) : Type 0 where
    pub own : IsTarget m layout
    pub is : slice_get m.structs layout ≡ Some struct
    pub there : struct.name < length (words_in i)
    pub targets : row_fits m row ≡ true
    pub pointers : (k : ℕ) → is_some (shape_at row k) ≡ true → is_pointer i.read.shapes layout (n + k) ≡ true
    pub small : (k : ℕ) → is_some (shape_at row k) ≡ true → n + k < 2 ^ 64
    pub room : (k : ℕ) → is_some (shape_at row k) ≡ true → n + k < length (row_at (words_in i) struct.name)
    pub free : (k : ℕ) → shape_at (row_at (words_in i) struct.name) (n + k) ≡ None

  pub row_on : (layout : ℕ) (struct : StructType) (n : ℕ) (row : List (Option ℕ)) (i : Input) (t : Text) → RowFree layout struct n row i → past_lines false t ≡ t → RowOn m struct.name n row i t
  unfolding with_word_shape shaping
  row_on layout struct n [] i t free e = record { out = i; chain = ([], refl); rest = refl; own = free.free; before = λ k lt. refl; other = λ x ne. refl; wide = refl }
  row_on layout struct n (None ∷ row) i t free e =
      let next = (λ (k : ℕ). (let z : n + suc k ≡ (n + 1) + k = omega arith in z)) in
      let more = row_on layout struct (n + 1) row i t (record {
        own = free.own;
        is = free.is;
        there = free.there;
        targets = free.targets;
        pointers = λ k some. ap (is_pointer i.read.shapes layout) (sym (next k)) ∙ free.pointers (suc k) some;
        small = λ k some. subst (λ x. x < 2 ^ 64) (next k) (free.small (suc k) some);
        room = λ k some. subst (λ x. x < length (row_at (words_in i) struct.name)) (next k) (free.room (suc k) some);
        free = λ k. ap (shape_at (row_at (words_in i) struct.name)) (sym (next k)) ∙ free.free (suc k);
      }) e in
      record {
        out = more.out;
        chain = more.chain;
        rest = more.rest;
        own = λ k. own_at more k;
        before = λ k lt. more.before k (omega (arith, lt));
        other = more.other;
        wide = more.wide;
      }
    where
      own_at : (more : RowOn m struct.name (n + 1) row i t) (k : ℕ) → shape_at (row_at (words_in more.out) struct.name) (n + k) ≡ shape_at (None ∷ row) k
      own_at more zero = (let z : n + 0 ≡ n = omega arith in ap (shape_at (row_at (words_in more.out) struct.name)) z ∙ more.before n (omega arith) ∙ ap (shape_at (row_at (words_in i) struct.name)) (sym z) ∙ free.free 0)
      own_at more (suc k) = (let z : n + suc k ≡ (n + 1) + k = omega arith in ap (shape_at (row_at (words_in more.out) struct.name)) z ∙ more.own k)
  row_on layout struct n (Some target ∷ row) i t free e =
      let old = row_at (words_in i) struct.name in
      let is_name : name_of m layout ≡ struct.name = ap name_in free.is in
      let z0 : n + 0 ≡ n = omega arith in
      let next = (λ (k : ℕ). (let z : n + suc k ≡ (n + 1) + k = omega arith in z)) in
      let rest = row_text m struct.name (n + 1) row in
      let o : Input = recorded (shaping (with_word_shape m layout n target)) i in
      let words : words_in o ≡ slice_set (words_in i) struct.name (slice_set old n (Some target)) = ap (λ x. slice_set (words_in i) x (slice_set (row_at (words_in i) x) n (Some target))) is_name in
      let here : row_at (words_in o) struct.name ≡ slice_set old n (Some target) = ap (λ x. row_at x struct.name) words ∙ row_here (words_in i) struct.name (slice_set old n (Some target)) free.there in
      let apart : (k : ℕ) → (n + 1) + k ≢ n = λ k e. omega (arith, e) in
      let lets_free : has_word_shape i.read.shapes (name_of m layout) n ≡ false =
      ap (λ x. has_word_shape i.read.shapes x n) is_name ∙ ap (λ x. is_some (shape_at old x)) (sym z0) ∙ ap is_some (free.free 0) in
      let one = word_on m named i layout struct n target (rest ++ t) free.is (subst (λ x. x < 2 ^ 64) z0 (free.small 0 refl)) free.own (and_first (shape_fits m (Some target)) (row_fits m row) free.targets)
      (ap (is_pointer i.read.shapes layout) (sym z0) ∙ free.pointers 0 refl) lets_free (begins_row m struct.name (n + 1) row t e) in
      let more = row_on layout struct (n + 1) row o t (record {
        own = free.own;
        is = free.is;
        there = omega (arith, free.there, ap length words, length-set (words_in i) struct.name (slice_set old n (Some target)));
        targets = and_second (shape_fits m (Some target)) (row_fits m row) free.targets;
        pointers = λ k some. ap (is_pointer i.read.shapes layout) (sym (next k)) ∙ free.pointers (suc k) some;
        small = λ k some. subst (λ x. x < 2 ^ 64) (next k) (free.small (suc k) some);
        room = λ k some. (let in_old = subst (λ x. x < length old) (next k) (free.room (suc k) some) in omega (arith, in_old, ap length here, length-set old n (Some target)));
        free = λ k. ap (λ x. shape_at x ((n + 1) + k)) here ∙ put_other old n target ((n + 1) + k) (apart k) ∙ ap (shape_at old) (sym (next k)) ∙ free.free (suc k);
      }) e in
      record {
        out = more.out;
        chain = chain_then m i o more.out (word_text m struct.name n (Some target)) rest t (chain_one m i o (word_text m struct.name n (Some target)) (rest ++ t) one.0 one.1) more.chain;
        rest = more.rest;
        own = λ k. own_at more (more.before n (omega arith) ∙ ap (λ x. shape_at x n) here ∙ put_here old n target (subst (λ x. x < length old) z0 (free.room 0 refl))) k;
        before = λ k lt. (let ne : k ≢ n = λ e. omega (arith, e, lt) in more.before k (omega (arith, lt)) ∙ ap (λ x. shape_at x k) here ∙ put_other old n target k ne);
        other = λ x ne. more.other x ne ∙ ap (λ w. row_at w x) words ∙ row_other (words_in i) struct.name (slice_set old n (Some target)) x ne;
        wide = more.wide ∙ ap length words ∙ length-set (words_in i) struct.name (slice_set old n (Some target));
      }
    where
      own_at : (more : RowOn m struct.name (n + 1) row (recorded (shaping (with_word_shape m layout n target)) i) t) → shape_at (row_at (words_in more.out) struct.name) n ≡ Some target → (k : ℕ) → shape_at (row_at (words_in more.out) struct.name) (n + k) ≡ shape_at (Some target ∷ row) k
      own_at more first zero = (let z : n + 0 ≡ n = omega arith in ap (shape_at (row_at (words_in more.out) struct.name)) z ∙ first)
      own_at more first (suc k) = (let z : n + suc k ≡ (n + 1) + k = omega arith in ap (shape_at (row_at (words_in more.out) struct.name)) z ∙ more.own k)
