-- The shapes that a text is are shapes of the module.
use Rattle.std.proofs.Common.{◌≡◌, ◌⊎◌, inl, inr, ℕ, zero, suc, ◌+◌, Bool, true, false, not, ◌&&◌, ◌||◌, [], ◌∷◌, List, map, Option, Some, None, is_some, slice_get, slice_set, unwrap_or, refl, ap, sym, subst, ◌∙◌, arith}
use Rattle.std.specs.Prelude.{if◌then◌else◌, is_none}
use Rattle.std.specs.List.{list_all}
use Rattle.lemmas.specs.Bools.{and_true, and_first, and_second}
use Rattle.lemmas.specs.Lists.{all_end}
use Rattle.ir_ast.specs.Shapes.{shape_at, row_at}
use Rattle.ir_ast.specs.declared.block.Block.{Block}
use Rattle.ir_ast.specs.declared.function.Function.{Function}
use Rattle.ir_ast.specs.declared.instr.Instr.{Instr}
use Rattle.ir_ast.specs.declared.items_of_module.Global.{Global}
use Rattle.ir_ast.specs.declared.items_of_module.SymbolSort.{SymbolSort}
use Rattle.ir_ast.specs.declared.memory.MemoryOp.TheVariants.{Alloca}
use Rattle.ir_ast.specs.declared.module.Module.{Module}
use Rattle.ir_ast.specs.declared.outside.Outside.{Outside}
use Rattle.ir_ast.specs.declared.op.Op.{Op}
use Rattle.ir_ast.specs.declared.op.Op.TheVariants.{Memory}
use Rattle.ir_ast.specs.declared.shapes.RootShapes.{RootShapes}
use Rattle.ir_ast.specs.declared.shapes.Shapes.{Shapes}
use Rattle.ir_ast.specs.PointerKinds.{has_typed}
use Rattle.ir_tokens.specs.Bytes.{Text}
use Rattle.name_text.specs.Reader.{word, begins}
use Rattle.std.specs.Str.{bytes_eq}
use Rattle.types.specs.Globals.{global_of_sort, held_by, held_in}
use Rattle.types.specs.References.{is_opaque}
use Rattle.certs.specs.Families.{is_opaque_text}
use Rattle.certs.specs.Fits.{is_value}
use Rattle.certs.specs.RootNames.{root_names}
use Rattle.certs.specs.ShapesFit.{shape_fits, row_fits, root_row_fits, global_fits, root_of, slot_fits, op_fits, body_fits, roots_fit, all_shapes_fit, shapes_fit}
use Rattle.certs.specs.declared.certs.Certs.{Certs}
use Rattle.certificate.specs.Input.{Progress, Input, start_of, shaping}
use Rattle.certificate.specs.Named.{HasGlobals}
use Rattle.certificate.specs.ShapeDrafts.{none_given, pointers_at, row_of, no_roots, roots_at, shapes_begun, name_of, is_pointer, has_word_shape, is_opaque_global, is_held_opaque, has_global_shape, has_root_shape, with_word_shape, with_global_shape, with_root_shape, first_of, words_gap, globals_gap, slot_gap, roots_gap_in, roots_gap, shapes_gap}
use Rattle.certificate.specs.ShapeForms.{shape_lines, taken_shapes}
use Rattle.certificate.specs.Starts.{AreBegun, AreStart, are_begun_if, may_be_shaped, goes_with}
use Rattle.certificate.specs.Text as text
use Rattle.certificate.specs.Text.{IsCert}
use Rattle.certificate.specs.declared.mistake.Mistake.{Mistake}
use Rattle.certificate.specs.declared.mistake.Mistake.TheVariants.{MissingGlobal, MissingRoot}
use Rattle.certificate.specs.declared.shape_draft.ShapeDraft.{ShapeDraft}
use Rattle.certificate.proofs.Between.{all_set}
use Rattle.certificate.proofs.CertFits.{still_head}
use Rattle.certificate.proofs.ReadOutside.{outside_are}
use Rattle.certificate.proofs.ReadShapes.{IsTarget, Gives, lines_hold, none_is_missing}
use Rattle.certificate.proofs.ReadWords.{taken_is}

-- ---- lists

-- one of them passes
pub all_at : {A : Type 0} (test : A → Bool) (xs : List A) (i : ℕ) (x : A) → list_all test xs ≡ true → slice_get xs i ≡ Some x → test x ≡ true
all_at test [] i x all e = absurd cc
all_at test (y ∷ xs) zero x all e = let same : y ≡ x = cc in subst (λ z. test z ≡ true) same (and_first (test y) (list_all test xs) all)
all_at test (y ∷ xs) (suc i) x all e = all_at test xs i x (and_second (test y) (list_all test xs) all) e

none_fit : {A : Type 0} (m : Module) (xs : List A) → row_fits m (none_given xs) ≡ true
none_fit m [] = refl
none_fit m (x ∷ xs) = none_fit m xs

pub no_shape : {A : Type 0} (xs : List A) (i : ℕ) → shape_at (none_given xs) i ≡ None
no_shape [] i = refl
no_shape (x ∷ xs) zero = refl
no_shape (x ∷ xs) (suc i) = no_shape xs i

-- what is there after a shape is put was there, or is it
put_either : (xs : List (Option ℕ)) (i target j : ℕ) → is_some (shape_at (slice_set xs i (Some target)) j) ≡ true → (is_some (shape_at xs j) ≡ true) ⊎ (j ≡ i)
put_either [] i target j e = inl e
put_either (x ∷ xs) zero target zero e = inr refl
put_either (x ∷ xs) zero target (suc j) e = inl e
put_either (x ∷ xs) (suc i) target zero e = inl e
put_either (x ∷ xs) (suc i) target (suc j) e = elim (put_either xs i target j e) [ inl h ↦ inl h | inr h ↦ inr (ap suc h) ]

-- a row after another is put is that one, or is the same as before
row_either : (rows : List (List (Option ℕ))) (i : ℕ) (row : List (Option ℕ)) (j : ℕ) → (row_at (slice_set rows i row) j ≡ row_at rows j) ⊎ ((j ≡ i) × (row_at (slice_set rows i row) j ≡ row))
row_either [] i row j = inl refl
row_either (x ∷ rows) zero row zero = inr (refl, refl)
row_either (x ∷ rows) zero row (suc j) = inl refl
row_either (x ∷ rows) (suc i) row zero = inl refl
row_either (x ∷ rows) (suc i) row (suc j) = elim (row_either rows i row j) [ inl h ↦ inl h | inr h ↦ inr (ap suc h.0, h.1) ]

pub row_fits_at : (m : Module) (rows : List (List (Option ℕ))) (i : ℕ) → list_all (row_fits m) rows ≡ true → row_fits m (row_at rows i) ≡ true
row_fits_at m [] i all = refl
row_fits_at m (row ∷ rows) zero all = and_first (row_fits m row) (list_all (row_fits m) rows) all
row_fits_at m (row ∷ rows) (suc i) all = row_fits_at m rows i (and_second (row_fits m row) (list_all (row_fits m) rows) all)

roots_fit_at : (m : Module) (rows : List RootShapes) (i : ℕ) → list_all (root_row_fits m) rows ≡ true → root_row_fits m (roots_at rows i) ≡ true
roots_fit_at m [] i all = refl
roots_fit_at m (row ∷ rows) zero all = and_first (root_row_fits m row) (list_all (root_row_fits m) rows) all
roots_fit_at m (row ∷ rows) (suc i) all = roots_fit_at m rows i (and_second (root_row_fits m row) (list_all (root_row_fits m) rows) all)

-- ---- what holds of the shapes that are read so far

pub record Shaped (m : Module) (pointers : List (List Bool)) (d : ShapeDraft) : Type 0 where
  pub rows : d.pointers ≡ pointers
  pub slots : d.slots ≡ map (root_names m) m.functions
  pub words : list_all (row_fits m) d.shapes.words ≡ true
  pub globals : row_fits m d.shapes.globals ≡ true
  pub roots : list_all (root_row_fits m) d.shapes.roots ≡ true
  pub of_words : (name word : ℕ) → has_word_shape d name word ≡ true → (layout : ℕ) × (name_of m layout ≡ name) × (is_pointer d layout word ≡ true)
  pub of_globals : (symbol : ℕ) → has_global_shape d symbol ≡ true → is_opaque_global m symbol ≡ true

module _ (m : Module) (pointers : List (List Bool)) where
  no_rows : (xs : List (Option ℕ)) → list_all (row_fits m) (map (row_of pointers) xs) ≡ true
  no_rows [] = refl
  no_rows (None ∷ xs) = no_rows xs
  no_rows (Some layout ∷ xs) = and_true (row_fits m (none_given (pointers_at pointers layout))) (list_all (row_fits m) (map (row_of pointers) xs)) (none_fit m (pointers_at pointers layout)) (no_rows xs)

  no_word : (xs : List (Option ℕ)) (name word : ℕ) → shape_at (row_at (map (row_of pointers) xs) name) word ≡ None
  no_word [] name word = refl
  no_word (None ∷ xs) zero word = refl
  no_word (Some layout ∷ xs) zero word = no_shape (pointers_at pointers layout) word
  no_word (x ∷ xs) (suc name) word = no_word xs name word

  no_root_rows : (xs : List SymbolSort) → list_all (root_row_fits m) (map (λ _. no_roots) xs) ≡ true
  no_root_rows [] = refl
  no_root_rows (x ∷ xs) = no_root_rows xs

  pub begun_shaped : Shaped m pointers (shapes_begun m pointers)
  begun_shaped = record {
    rows = refl;
    slots = refl;
    words = no_rows m.struct_of;
    globals = none_fit m m.sorts;
    roots = no_root_rows m.sorts;
    of_words = λ name word e. (let no : false ≡ true = sym (ap is_some (no_word m.struct_of name word)) ∙ e in absurd cc);
    of_globals = λ symbol e. (let no : false ≡ true = sym (ap is_some (no_shape m.sorts symbol)) ∙ e in absurd cc);
  }

  word_shaped : (d : ShapeDraft) (layout word target : ℕ) → is_pointer d layout word ≡ true → IsTarget m target → Shaped m pointers d → Shaped m pointers (with_word_shape m layout word target d)
  unfolding with_word_shape
  word_shaped d layout word target is to s =
      let n = name_of m layout in
      let row = slice_set (row_at d.shapes.words n) word (Some target) in
      let row_fine : row_fits m row ≡ true = all_set (shape_fits m) (row_at d.shapes.words n) word (Some target) (row_fits_at m d.shapes.words n s.words) to in
      record {
        rows = s.rows;
        slots = s.slots;
        words = all_set (row_fits m) d.shapes.words n row s.words row_fine;
        globals = s.globals;
        roots = s.roots;
        of_words = λ name w e.
            (elim (row_either d.shapes.words n row name) [
              | inl same ↦ s.of_words name w (sym (ap (λ (x : List (Option ℕ)). is_some (shape_at x w)) same) ∙ e)
              | inr here ↦ elim (put_either (row_at d.shapes.words n) word target w (sym (ap (λ (x : List (Option ℕ)). is_some (shape_at x w)) here.1) ∙ e)) [
                | inl before ↦ s.of_words name w (ap (λ x. has_word_shape d x w) here.0 ∙ before)
                | inr same ↦ (layout, sym here.0, ap (is_pointer d layout) same ∙ is)
              ]
            ]);
        of_globals = s.of_globals;
      }

  global_shaped : (d : ShapeDraft) (symbol target : ℕ) → is_opaque_global m symbol ≡ true → IsTarget m target → Shaped m pointers d → Shaped m pointers (with_global_shape symbol target d)
  unfolding with_global_shape
  global_shaped d symbol target is to s = record {
    rows = s.rows;
    slots = s.slots;
    words = s.words;
    globals = all_set (shape_fits m) d.shapes.globals symbol (Some target) s.globals to;
    roots = s.roots;
    of_words = s.of_words;
    of_globals = λ x e. (elim (put_either d.shapes.globals symbol target x e) [ inl before ↦ s.of_globals x before | inr same ↦ ap (is_opaque_global m) same ∙ is ]);
  }

  root_shaped : (d : ShapeDraft) (f : Function) (slot target : ℕ) → IsTarget m target → Shaped m pointers d → Shaped m pointers (with_root_shape f slot target d)
  unfolding with_root_shape
  root_shaped d f slot target to s =
      let old = roots_at d.shapes.roots f.symbol in
      record {
        rows = s.rows;
        slots = s.slots;
        words = s.words;
        globals = s.globals;
        roots = all_set (root_row_fits m) d.shapes.roots f.symbol _ s.roots (all_end (shape_fits m) old.layouts (Some target) (roots_fit_at m d.shapes.roots f.symbol s.roots) to);
        of_words = s.of_words;
        of_globals = s.of_globals;
      }

  stays : (p q : Progress) → Gives m p q → Shaped m pointers p.shapes → Shaped m pointers q.shapes
  unfolding shaping
  stays p q (inl g) s = subst (λ (x : Progress). Shaped m pointers x.shapes) g.5 (word_shaped p.shapes g.0 g.1 g.2 g.3 g.4 s)
  stays p q (inr (inl g)) s = subst (λ (x : Progress). Shaped m pointers x.shapes) g.4 (global_shaped p.shapes g.0 g.1 g.2 g.3 s)
  stays p q (inr (inr g)) s = subst (λ (x : Progress). Shaped m pointers x.shapes) g.4 (root_shaped p.shapes g.0 g.1 g.2 g.3 s)

  -- lines that are read give such shapes
  pub lines_shaped : (i : Input) (u : Unit {0}) (o : Input) → (shape_lines m).says i u o → Shaped m pointers i.read.shapes → Shaped m pointers o.read.shapes
  lines_shaped i u o h s = lines_hold m (λ (p : Progress). Shaped m pointers p.shapes) stays i u o h s

-- ---- what is not missing is there

none_of : {A : Type 0} (x : Option A) → is_some x ≡ false → is_none x ≡ true
none_of None e = refl
none_of (Some a) e = absurd cc

pub first_none : (one other : Option Mistake) → first_of one other ≡ None → (one ≡ None) × (other ≡ None)
first_none None other e = (refl, e)
first_none (Some x) other e = absurd cc

global_there : (m : Module) (d : ShapeDraft) (n : ℕ) (gs : List Global) → ((k : ℕ) → slice_get m.globals (n + k) ≡ slice_get gs k) → HasGlobals m → ((symbol : ℕ) → has_global_shape d symbol ≡ true → is_opaque_global m symbol ≡ true)
    → globals_gap m d gs ≡ None → list_all (global_fits m d.shapes) gs ≡ true
global_there m d n [] at named only e = refl
global_there m d n (g ∷ gs) at named only e =
    let here : slice_get m.globals n ≡ Some g = (let z : n ≡ n + 0 = omega arith in ap (slice_get m.globals) z ∙ at 0) in
    let next : (k : ℕ) → slice_get m.globals (suc n + k) ≡ slice_get gs k = λ k. (let z : suc n + k ≡ n + suc k = omega arith in ap (slice_get m.globals) z ∙ at (suc k)) in
    let held : is_opaque_global m g.symbol ≡ is_opaque m g.held =
    ap (λ (x : Option SymbolSort). is_held_opaque m (held_by m (global_of_sort x))) (named n g here) ∙ ap (λ (x : Option Global). is_held_opaque m (held_in x)) here in
    by held (global_there m d (suc n) gs next named only) (is_opaque m g.held) (has_global_shape d g.symbol) refl refl e
  where
    by : is_opaque_global m g.symbol ≡ is_opaque m g.held → (globals_gap m d gs ≡ None → list_all (global_fits m d.shapes) gs ≡ true) → (opaque there : Bool) → is_opaque m g.held ≡ opaque → has_global_shape d g.symbol ≡ there
        → (if opaque && not there then Some (MissingGlobal g.symbol) else globals_gap m d gs) ≡ None → (global_fits m d.shapes g && list_all (global_fits m d.shapes) gs) ≡ true
    by held more true false is has e = absurd cc
    by held more true true is has e = and_true (global_fits m d.shapes g) (list_all (global_fits m d.shapes) gs) (rw is has) (more e)
    by held more false true is has e = (let no : true ≡ false = sym (only g.symbol has) ∙ held ∙ is in absurd cc)
    by held more false false is has e = and_true (global_fits m d.shapes g) (list_all (global_fits m d.shapes) gs) (rw is (none_of (shape_at d.shapes.globals g.symbol) has)) (more e)

pub slot_there : (d : ShapeDraft) (function : ℕ) (f : Function) (n : ℕ) (slots : List Bool) → slot_gap d function f n slots ≡ None → (k : ℕ) → unwrap_or (slice_get slots k) false ≡ true → has_root_shape d f (n + k) ≡ true
slot_there d function f n [] e k is = absurd cc
slot_there d function f n (root ∷ slots) e k is = by root (slot_there d function f (n + 1) slots) (has_root_shape d f n) refl e k is
  where
    by : (r : Bool) → (slot_gap d function f (n + 1) slots ≡ None → (k : ℕ) → unwrap_or (slice_get slots k) false ≡ true → has_root_shape d f ((n + 1) + k) ≡ true) → (there : Bool) → has_root_shape d f n ≡ there
        → (if r && not there then Some (MissingRoot function n) else slot_gap d function f (n + 1) slots) ≡ None → (k : ℕ) → unwrap_or (slice_get (r ∷ slots) k) false ≡ true → has_root_shape d f (n + k) ≡ true
    by true more false has e k is = absurd cc
    by true more true has e zero is = (let z : n + 0 ≡ n = omega arith in ap (has_root_shape d f) z ∙ has)
    by false more there has e zero is = absurd cc
    by true more true has e (suc k) is = (let z : n + suc k ≡ (n + 1) + k = omega arith in ap (has_root_shape d f) z ∙ more e k is)
    by false more there has e (suc k) is = (let z : n + suc k ≡ (n + 1) + k = omega arith in ap (has_root_shape d f) z ∙ more e k is)

-- where each root slot has a shape, no alloca makes one without
module _ (m : Module) (shapes : Shapes) (f : Function) (there : (slot : ℕ) → unwrap_or (slice_get (root_names m f) slot) false ≡ true → is_some (root_of shapes f slot) ≡ true) where
  slot_fine : (name held : ℕ) → slot_fits m shapes f name held ≡ true
  slot_fine name held = by (is_opaque m held) (is_value f name) (unwrap_or (slice_get (root_names m f) name) false) refl
    where
      by : (opaque value root : Bool) → unwrap_or (slice_get (root_names m f) name) false ≡ root → (not opaque || not (value && root) || is_some (root_of shapes f name)) ≡ true
      by false value root is = refl
      by true false root is = refl
      by true true false is = refl
      by true true true is = there name is

  op_fine : (name : Option ℕ) (op : Op) → op_fits m shapes f name op ≡ true
  op_fine None (Memory (Alloca held)) = refl
  op_fine (Some name) (Memory (Alloca held)) = slot_fine name held
  op_fine name _ = refl

  body_fine : (body : List Instr) → body_fits m shapes f body ≡ true
  body_fine [] = refl
  body_fine (instr ∷ body) = and_true (op_fits m shapes f instr.result instr.op) (body_fits m shapes f body) (op_fine instr.result instr.op) (body_fine body)

  blocks_fine : (blocks : List Block) → list_all (λ (block : Block). body_fits m shapes f block.body) blocks ≡ true
  blocks_fine [] = refl
  blocks_fine (block ∷ blocks) = and_true (body_fits m shapes f block.body) (list_all (λ (b : Block). body_fits m shapes f b.body) blocks) (body_fine block.body) (blocks_fine blocks)

pub map_at : {A B : Type 0} (g : A → B) (xs : List A) (n : ℕ) (x : A) → slice_get xs n ≡ Some x → slice_get (map g xs) n ≡ Some (g x)
map_at g [] n x e = absurd cc
map_at g (y ∷ xs) zero x e = let same : y ≡ x = cc in ap (λ z. Some (g z)) same
map_at g (y ∷ xs) (suc n) x e = map_at g xs n x e

roots_there : (m : Module) (d : ShapeDraft) → d.slots ≡ map (root_names m) m.functions → (n : ℕ) (fs : List Function) → ((k : ℕ) → slice_get m.functions (n + k) ≡ slice_get fs k) → roots_gap d n fs ≡ None → list_all (roots_fit m d.shapes) fs ≡ true
roots_there m d slots n [] at e = refl
roots_there m d slots n (f ∷ fs) at e =
    let here : slice_get m.functions n ≡ Some f = (let z : n ≡ n + 0 = omega arith in ap (slice_get m.functions) z ∙ at 0) in
    let next : (k : ℕ) → slice_get m.functions ((n + 1) + k) ≡ slice_get fs k = λ k. (let z : (n + 1) + k ≡ n + suc k = omega arith in ap (slice_get m.functions) z ∙ at (suc k)) in
    let parts = first_none (roots_gap_in d n f (slice_get d.slots n)) (roots_gap d (n + 1) fs) e in
    let own : slice_get d.slots n ≡ Some (root_names m f) = ap (λ x. slice_get x n) slots ∙ map_at (root_names m) m.functions n f here in
    let gap : slot_gap d n f 0 (root_names m f) ≡ None = sym (ap (roots_gap_in d n f) own) ∙ parts.0 in
    and_true (roots_fit m d.shapes f) (list_all (roots_fit m d.shapes) fs) (blocks_fine m d.shapes f (λ slot is. (let z : 0 + slot ≡ slot = omega arith in subst (λ x. has_root_shape d f x ≡ true) z (slot_there d n f 0 (root_names m f) gap slot is))) f.blocks) (roots_there m d slots (n + 1) fs next parts.1)

-- shapes of which none is missing fit
pub shaped_fit : (m : Module) (pointers : List (List Bool)) (d : ShapeDraft) → HasGlobals m → Shaped m pointers d → shapes_gap m d ≡ None → all_shapes_fit m d.shapes ≡ true
shaped_fit m pointers d named s gap =
    let one = first_none (words_gap d 0 m.structs) (first_of (globals_gap m d m.globals) (roots_gap d 0 m.functions)) gap in
    let two = first_none (globals_gap m d m.globals) (roots_gap d 0 m.functions) one.1 in
    let w = list_all (row_fits m) d.shapes.words in
    let g = row_fits m d.shapes.globals in
    let r = list_all (root_row_fits m) d.shapes.roots in
    let each = list_all (global_fits m d.shapes) m.globals in
    let each_fits = global_there m d 0 m.globals (λ k. (let z : 0 + k ≡ k = omega arith in ap (slice_get m.globals) z)) named s.of_globals two.0 in
    let slots = roots_there m d s.slots 0 m.functions (λ k. (let z : 0 + k ≡ k = omega arith in ap (slice_get m.functions) z)) two.1 in
    rw (s.words, s.globals, s.roots, each_fits, slots) refl

-- ---- the whole

goes_one : (one two opaque may : Bool) → ((one && not opaque) || (two && may)) ≡ true → two ≡ false → opaque ≡ false
goes_one one two false may e is = refl
goes_one true true true may e is = absurd cc
goes_one true false true may e is = absurd cc
goes_one false true true may e is = absurd cc
goes_one false false true may e is = absurd cc

-- without shapes the text is not opaque
pub version_one : (m : Module) (i : Input) (shaped : Bool) (o : Input) → (text.version m).says i shaped o → shaped ≡ false → is_opaque_text m ≡ false
unfolding text.version
version_one m i shaped o h is =
    let j : Input = h.3.1 in
    let goes : goes_with m (word j) ≡ true = ap (λ (x : Input). goes_with m (word x)) (sym h.3.2.1) ∙ h.3.2.0 in
    goes_one (bytes_eq (word j) (49 ∷ [])) (bytes_eq (word j) (50 ∷ [])) (is_opaque_text m) (may_be_shaped m) goes (taken_is (begins (50 ∷ []) j) j shaped o h.3.3 ∙ is)

fit_if : (m : Module) (shapes : Shapes) (opaque : Bool) → is_opaque_text m ≡ opaque → (opaque ≡ true → all_shapes_fit m shapes ≡ true) → shapes_fit m (if opaque then Some shapes else None) ≡ true
fit_if m shapes true e all = and_true (is_opaque_text m) (all_shapes_fit m shapes) e (all refl)
fit_if m shapes false e all = ap not e

-- in opaque text nothing is given before the first line
pub opaque_begun : (m : Module) (shapes : ShapeDraft) → is_opaque_text m ≡ true → AreStart m shapes → AreBegun m shapes
opaque_begun m shapes e start = let may : may_be_shaped m ≡ true = ap (λ b. b || not (has_typed m.types)) e in subst (λ b. are_begun_if b m shapes) may start

-- the shapes after what is said of the code outside fit, if they were begun where the text is opaque
head_shaped : (m : Module) (foreign : Outside) (i : Input) (certs : Certs) (o : Input) → HasGlobals m → (is_opaque_text m ≡ true → AreBegun m i.read.shapes) → (text.with_shapes m foreign).says i certs o → shapes_fit m certs.shapes ≡ true
unfolding text.with_shapes taken_shapes
head_shaped m foreign i certs o named begun h =
    let b = h.3 in
    let c = b.3 in
    let d = c.3 in
    let e = d.3 in
    let gap = (none_is_missing m b.0 c.1 d.0 d.1 d.2).0 in
    let all : is_opaque_text m ≡ true → all_shapes_fit m b.0.shapes ≡ true = λ opaque.
    (let are = begun opaque in
    let start : Shaped m are.0 i.read.shapes = subst (Shaped m are.0) (sym are.2) (begun_shaped m are.0) in
    let read : Shaped m are.0 b.0 = subst (Shaped m are.0) b.2.0 (lines_shaped m are.0 i h.0 h.1 h.2 start) in
    shaped_fit m are.0 b.0 named read gap) in
    subst (λ (x : Certs). shapes_fit m x.shapes ≡ true) e.3.0 (fit_if m b.0.shapes (is_opaque_text m) refl all)

-- the shapes that a text is are shapes of the module, of a typed text none
pub cert_shaped : (bytes : Text) (m : Module) (certs : Certs) → HasGlobals m → IsCert bytes m certs → shapes_fit m certs.shapes ≡ true
unfolding text.file text.without_shapes
cert_shaped bytes m certs named h =
    let a = h.3 in
    let b = a.3 in
    let c = b.3 in
    let d = c.3 in
    let same = still_head m (start_of m h.0 bytes) a.0 a.1 a.2 b.0 b.1 b.2 c.0 c.1 c.2 in
    let names = outside_are m c.1 d.0 d.1 d.2 (sym (ap (λ (x : Input). x.read.numbers) same)) (sym (ap (λ (x : Input). x.read.foreign) same)) in
    let start : h.0 ≡ d.1.read.shapes = ap (λ (x : Input). x.read.shapes) same ∙ names.2 in
    by d.0 b.0 d.1 (λ is. version_one m a.1 b.0 b.1 b.2 is) (λ opaque. subst (AreBegun m) start (opaque_begun m h.0 opaque h.1)) d.3
  where
    by : (foreign : Outside) (shaped : Bool) (i : Input) → (shaped ≡ false → is_opaque_text m ≡ false) → (is_opaque_text m ≡ true → AreBegun m i.read.shapes) → (text.certs_by m foreign shaped).says i certs h.2 → shapes_fit m certs.shapes ≡ true
    by foreign true i typed begun says = head_shaped m foreign i certs h.2 named begun says
    by foreign false i typed begun says = subst (λ (x : Certs). shapes_fit m x.shapes ≡ true) says.3.3.0 (ap not (typed refl))
