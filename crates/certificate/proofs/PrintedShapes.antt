-- The printed shapes of a module are read as shapes that say the same.
use Rattle.std.proofs.Common.{◌≡◌, ◌<◌, ℕ, zero, suc, ◌+◌, Bool, true, false, not, ◌&&◌, [], ◌∷◌, ◌++◌, List, length, map, Option, Some, None, is_some, slice_get, unwrap_or, refl, ap, sym, subst, ◌∙◌, append_assoc, arith}
use Rattle.std.specs.Prelude.{if◌then◌else◌, is_none}
use Rattle.std.specs.List.{list_all, flat_map}
use Rattle.std.proofs.lemmas.List.{length-map}
use Rattle.ir_ast.specs.Shapes.{shape_at, row_at}
use Rattle.ir_ast.specs.declared.function.Function.{Function}
use Rattle.ir_ast.specs.declared.items_of_module.Global.{Global}
use Rattle.ir_ast.specs.declared.items_of_module.StructType.{StructType}
use Rattle.ir_ast.specs.declared.items_of_module.SymbolSort.{SymbolSort}
use Rattle.ir_ast.specs.declared.items_of_module.SymbolSort.TheVariants as sort
use Rattle.ir_ast.specs.declared.module.Module.{Module}
use Rattle.ir_ast.specs.declared.shapes.Shapes.{Shapes}
use Rattle.ir_tokens.specs.Bytes.{Text}
use Rattle.layout.specs.PointerRows.{ArePointerRows}
use Rattle.name_text.specs.Words.{past_lines}
use Rattle.types.specs.References.{is_opaque}
use Rattle.certs.specs.RootNames.{root_names}
use Rattle.certs.specs.ShapesFit.{row_fits, global_fits}
use Rattle.certificate.specs.Alike.{word_shape, AreAlike}
use Rattle.certificate.specs.Input.{Input}
use Rattle.certificate.specs.Named.{IsNamed, HasGlobals, HasStructs}
use Rattle.certificate.specs.ShapeDrafts.{none_given, pointers_at, row_of, no_roots, shapes_begun, has_word_shape, has_global_shape, has_root_shape, first_of, word_gap, struct_gap, words_gap, globals_gap, slot_gap, roots_gap_in, roots_gap, shapes_gap}
use Rattle.certificate.specs.ShapeForms.{past_shapes, shape_lines}
use Rattle.certificate.specs.ShapesPrint.{words_text, global_text_if, roots_text, shapes_text}
use Rattle.certificate.specs.declared.mistake.Mistake.TheVariants.{MissingWord, MissingGlobal, MissingRoot}
use Rattle.certificate.specs.declared.shape_draft.ShapeDraft.{ShapeDraft}
use Rattle.certificate.proofs.CertShapes.{all_at, map_at, no_shape}
use Rattle.certificate.proofs.PrintedLines.{at}
use Rattle.certificate.proofs.PrintedRows.{begins_words, chain_then, chain_ends, words_in}
use Rattle.certificate.proofs.PrintedShapeGlobals.{begins_globals, globals_in, globals_on}
use Rattle.certificate.proofs.PrintedShapeRoots.{AreRooted, begins_roots, roots_in, roots_on}
use Rattle.certificate.proofs.PrintedShapeWords.{from_zero, none_length, words_on}

-- ---- where each shape is there, none is missing

word_none : (d : ShapeDraft) (layout name n : ℕ) (row : List Bool) → ((k : ℕ) → unwrap_or (slice_get row k) false ≡ true → has_word_shape d name (n + k) ≡ true) → word_gap d layout name n row ≡ None
word_none d layout name n [] all = refl
word_none d layout name n (pointer ∷ row) all =
    by pointer (λ is. (let z : n ≡ n + 0 = omega arith in ap (has_word_shape d name) z ∙ all 0 is)) (word_none d layout name (n + 1) row (λ k is. (let z : (n + 1) + k ≡ n + suc k = omega arith in ap (has_word_shape d name) z ∙ all (suc k) is)))
  where
    by : (p : Bool) → (p ≡ true → has_word_shape d name n ≡ true) → word_gap d layout name (n + 1) row ≡ None → (if p && not (has_word_shape d name n) then Some (MissingWord layout n) else word_gap d layout name (n + 1) row) ≡ None
    by true has more = rw (has refl) more
    by false has more = more

words_none : (d : ShapeDraft) (n : ℕ) (structs : List StructType) → ((k : ℕ) (s : StructType) → slice_get structs k ≡ Some s → struct_gap d (n + k) s ≡ None) → words_gap d n structs ≡ None
words_none d n [] all = refl
words_none d n (s ∷ structs) all =
    let one : struct_gap d n s ≡ None = (let z : n ≡ n + 0 = omega arith in ap (λ x. struct_gap d x s) z ∙ all 0 s refl) in
    let more = words_none d (n + 1) structs (λ k x there. (let z : (n + 1) + k ≡ n + suc k = omega arith in ap (λ y. struct_gap d y x) z ∙ all (suc k) x there)) in
    ap (λ x. first_of x (words_gap d (n + 1) structs)) one ∙ more

globals_none : (m : Module) (d : ShapeDraft) (gs : List Global) → ((k : ℕ) (g : Global) → slice_get gs k ≡ Some g → is_opaque m g.held ≡ true → has_global_shape d g.symbol ≡ true) → globals_gap m d gs ≡ None
globals_none m d [] all = refl
globals_none m d (g ∷ gs) all = by (is_opaque m g.held) (all 0 g refl) (globals_none m d gs (λ k x there. all (suc k) x there))
  where
    by : (p : Bool) → (p ≡ true → has_global_shape d g.symbol ≡ true) → globals_gap m d gs ≡ None → (if p && not (has_global_shape d g.symbol) then Some (MissingGlobal g.symbol) else globals_gap m d gs) ≡ None
    by true has more = rw (has refl) more
    by false has more = more

slot_none : (d : ShapeDraft) (function : ℕ) (f : Function) (n : ℕ) (slots : List Bool) → ((k : ℕ) → slice_get slots k ≡ Some true → has_root_shape d f (n + k) ≡ true) → slot_gap d function f n slots ≡ None
slot_none d function f n [] all = refl
slot_none d function f n (root ∷ slots) all =
    by root (λ is. (let z : n ≡ n + 0 = omega arith in ap (has_root_shape d f) z ∙ all 0 (ap (λ (x : Bool). Some x) is)))
    (slot_none d function f (n + 1) slots (λ k is. (let z : (n + 1) + k ≡ n + suc k = omega arith in ap (has_root_shape d f) z ∙ all (suc k) is)))
  where
    by : (p : Bool) → (p ≡ true → has_root_shape d f n ≡ true) → slot_gap d function f (n + 1) slots ≡ None → (if p && not (has_root_shape d f n) then Some (MissingRoot function n) else slot_gap d function f (n + 1) slots) ≡ None
    by true has more = rw (has refl) more
    by false has more = more

roots_none : (d : ShapeDraft) (n : ℕ) (fs : List Function) → ((k : ℕ) (f : Function) → slice_get fs k ≡ Some f → roots_gap_in d (n + k) f (slice_get d.slots (n + k)) ≡ None) → roots_gap d n fs ≡ None
roots_none d n [] all = refl
roots_none d n (f ∷ fs) all =
    let one : roots_gap_in d n f (slice_get d.slots n) ≡ None = (let z : n ≡ n + 0 = omega arith in ap (λ x. roots_gap_in d x f (slice_get d.slots x)) z ∙ all 0 f refl) in
    let more = roots_none d (n + 1) fs (λ k x there. (let z : (n + 1) + k ≡ n + suc k = omega arith in ap (λ y. roots_gap_in d y x (slice_get d.slots y)) z ∙ all (suc k) x there)) in
    ap (λ x. first_of x (roots_gap d (n + 1) fs)) one ∙ more

-- ---- the whole

in_range : {A : Type 0} (xs : List A) (k : ℕ) (x : A) → slice_get xs k ≡ Some x → k < length xs
in_range [] k x e = absurd cc
in_range (y ∷ xs) zero x e = omega arith
in_range (y ∷ xs) (suc k) x e = let more = in_range xs k x e in omega (arith, more)

-- what is read of printed shapes
pub record ShapesOn (m : Module) (shapes : Shapes) (i : Input) (t : Text) : Type 0 where
  pub out : Input
  pub read : (shape_lines m).says (at i (shapes_text m shapes ++ t)) tt (at out t)
  pub whole : shapes_gap m out.read.shapes ≡ None
  pub alike : AreAlike m shapes out.read.shapes.shapes

module _ (m : Module) (named : IsNamed m) (globals : HasGlobals m) (structs : HasStructs m) (shapes : Shapes) (rooted : AreRooted m shapes) (pointers : List (List Bool)) (rows : ArePointerRows m pointers)
    (fit_words : list_all (row_fits m) shapes.words ≡ true) (fit_globals : row_fits m shapes.globals ≡ true) (each : list_all (global_fits m shapes) m.globals ≡ true)
    (full : (layout : ℕ) (struct : StructType) (row : List Bool) → slice_get m.structs layout ≡ Some struct → slice_get pointers layout ≡ Some row → (word : ℕ) → is_some (word_shape shapes struct word) ≡ unwrap_or (slice_get row word) false) where
  pub shapes_on : (i : Input) (t : Text) → i.read.shapes ≡ shapes_begun m pointers → past_lines false t ≡ t → past_shapes (at i t) ≡ true → ShapesOn m shapes i t
  shapes_on i t begun e stop =
      let w = flat_map (words_text m shapes) m.structs in
      let g = flat_map (global_text_if m shapes) m.globals in
      let r = flat_map (roots_text m shapes) m.functions in
      let words_are : words_in i ≡ map (row_of pointers) m.struct_of = ap (λ (d : ShapeDraft). d.shapes.words) begun in
      let globals_are : globals_in i ≡ none_given m.sorts = ap (λ (d : ShapeDraft). d.shapes.globals) begun in
      let roots_are : roots_in i ≡ map (λ _. no_roots) m.sorts = ap (λ (d : ShapeDraft). d.shapes.roots) begun in
      let words = words_on m named structs shapes pointers rows fit_words full m.structs 0 i (g ++ (r ++ t)) (λ k. ap (slice_get m.structs) (sym (from_zero k))) (record {
        rows = ap (λ (d : ShapeDraft). d.pointers) begun;
        there = λ layout s here. (let inside = in_range m.struct_of s.name (Some layout) (structs layout s here) in omega (arith, inside, ap length words_are, length-map m.struct_of (row_of pointers)));
        free = λ layout s le here. ap (λ x. row_at x s.name) words_are ∙ ap (λ (x : Option (List (Option ℕ))). unwrap_or x []) (map_at (row_of pointers) m.struct_of s.name (Some layout) (structs layout s here));
      }) (begins_globals m shapes m.globals (r ++ t) (begins_roots m shapes m.functions t e)) in
      let globals_then : globals_in words.out ≡ none_given m.sorts = sym (ap (λ (d : ShapeDraft). d.shapes.globals) words.rest) ∙ globals_are in
      let given = globals_on m named globals shapes fit_globals each m.globals 0 words.out (r ++ t) (λ k. ap (slice_get m.globals) (sym (from_zero k))) (record {
        room = λ k x here. (let inside = in_range m.sorts x.symbol (sort.Global k) (globals k x here) in omega (arith, inside, ap length globals_then, none_length m.sorts));
        free = λ k x le here. ap (λ y. shape_at y x.symbol) globals_then ∙ no_shape m.sorts x.symbol;
      }) (begins_roots m shapes m.functions t e) in
      let roots_then : roots_in given.out ≡ map (λ _. no_roots) m.sorts = sym (ap (λ (d : ShapeDraft). d.shapes.roots) given.rest) ∙ sym (ap (λ (d : ShapeDraft). d.shapes.roots) words.rest) ∙ roots_are in
      let slots_then : given.out.read.shapes.slots ≡ map (root_names m) m.functions = sym (ap (λ (d : ShapeDraft). d.slots) given.rest) ∙ sym (ap (λ (d : ShapeDraft). d.slots) words.rest) ∙ ap (λ (d : ShapeDraft). d.slots) begun in
      let roots = roots_on m named shapes rooted m.functions 0 given.out t (λ k. ap (slice_get m.functions) (sym (from_zero k))) (record {
        slots = slots_then;
        there = λ k f here. (let inside = in_range m.sorts f.symbol (sort.Defined k) (named.functions k f here).1 in omega (arith, inside, ap length roots_then, length-map m.sorts (λ (x : SymbolSort). no_roots)));
        fresh = λ k f le here. ap (λ x. slice_get x f.symbol) roots_then ∙ map_at (λ (x : SymbolSort). no_roots) m.sorts f.symbol (sort.Defined k) (named.functions k f here).1;
      }) e in
      let o = roots.out in
      let chain = chain_then m i given.out o (w ++ g) r t (chain_then m i words.out given.out w g (r ++ t) words.chain given.chain) roots.chain in
      let words_last : words_in o ≡ words_in words.out = sym (ap (λ (d : ShapeDraft). d.shapes.words) roots.rest) ∙ sym (ap (λ (d : ShapeDraft). d.shapes.words) given.rest) in
      let globals_last : globals_in o ≡ globals_in given.out = sym (ap (λ (d : ShapeDraft). d.shapes.globals) roots.rest) in
      let pointers_last : o.read.shapes.pointers ≡ pointers = sym (ap (λ (d : ShapeDraft). d.pointers) roots.rest) ∙ sym (ap (λ (d : ShapeDraft). d.pointers) given.rest) ∙ sym (ap (λ (d : ShapeDraft). d.pointers) words.rest) ∙ ap (λ (d : ShapeDraft). d.pointers) begun in
      let slots_last : o.read.shapes.slots ≡ map (root_names m) m.functions = sym (ap (λ (d : ShapeDraft). d.slots) roots.rest) ∙ slots_then in
      let alike : AreAlike m shapes o.read.shapes.shapes = record {
        words = λ layout s here word. sym (ap (λ x. shape_at (row_at x s.name) word) words_last ∙ words.own layout s (omega arith) here word);
        globals = λ k x here opaque. sym (ap (λ y. shape_at y x.symbol) globals_last ∙ given.own k x (omega arith) here opaque);
        roots = λ k f here slot is. sym (roots.own k f (omega arith) here slot is);
      } in
      record { out = o; read = chain_ends m i o (shapes_text m shapes) t chain stop; whole = none_gone o alike pointers_last slots_last; alike = alike }
    where
      none_gone : (o : Input) → AreAlike m shapes o.read.shapes.shapes → o.read.shapes.pointers ≡ pointers → o.read.shapes.slots ≡ map (root_names m) m.functions → shapes_gap m o.read.shapes ≡ None
      none_gone o alike pointers_are slots_are =
          let d = o.read.shapes in
          let words : words_gap d 0 m.structs ≡ None = words_none d 0 m.structs (λ k s here. subst (λ x. struct_gap d x s ≡ None) (from_zero k) (struct_full k s here (slice_get pointers k) refl)) in
          let gs : globals_gap m d m.globals ≡ None = globals_none m d m.globals (λ k x here opaque. sym (ap is_some (alike.globals k x here opaque)) ∙ there_is x opaque (all_at (global_fits m shapes) m.globals k x each here)) in
          let rs : roots_gap d 0 m.functions ≡ None = roots_none d 0 m.functions (λ k f here. subst (λ x. roots_gap_in d x f (slice_get d.slots x) ≡ None) (from_zero k)
          (ap (roots_gap_in d k f) (ap (λ x. slice_get x k) slots_are ∙ map_at (root_names m) m.functions k f here)
          ∙ slot_none d k f 0 (root_names m f) (λ slot is. subst (λ x. has_root_shape d f x ≡ true) (from_zero slot) (sym (ap is_some (alike.roots k f here slot is)) ∙ rooted.given k f here slot is)))) in
          ap (λ x. first_of x (first_of (globals_gap m d m.globals) (roots_gap d 0 m.functions))) words ∙ ap (λ x. first_of x (roots_gap d 0 m.functions)) gs ∙ rs
        where
          there_is : (x : Global) → is_opaque m x.held ≡ true → global_fits m shapes x ≡ true → is_some (shape_at shapes.globals x.symbol) ≡ true
          there_is x opaque fits = sym (ap (λ b. if b then is_some (shape_at shapes.globals x.symbol) else is_none (shape_at shapes.globals x.symbol)) opaque) ∙ fits

          struct_full : (k : ℕ) (s : StructType) → slice_get m.structs k ≡ Some s → (row : Option (List Bool)) → slice_get pointers k ≡ row → struct_gap o.read.shapes k s ≡ None
          struct_full k s here None is = ap (word_gap o.read.shapes k s.name 0) (ap (λ x. pointers_at x k) pointers_are ∙ ap (λ (x : Option (List Bool)). unwrap_or x []) is)
          struct_full k s here (Some row) is =
              ap (word_gap o.read.shapes k s.name 0) (ap (λ x. pointers_at x k) pointers_are ∙ ap (λ (x : Option (List Bool)). unwrap_or x []) is)
              ∙ word_none o.read.shapes k s.name 0 row (λ word pointer. subst (λ x. has_word_shape o.read.shapes s.name x ≡ true) (from_zero word) (sym (ap is_some (alike.words k s here word)) ∙ full k s row here is word ∙ pointer))

pub begins_shapes : (m : Module) (shapes : Shapes) (t : Text) → past_lines false t ≡ t → past_lines false (shapes_text m shapes ++ t) ≡ shapes_text m shapes ++ t
begins_shapes m shapes t e =
    let w = flat_map (words_text m shapes) m.structs in
    let g = flat_map (global_text_if m shapes) m.globals in
    let r = flat_map (roots_text m shapes) m.functions in
    let same : shapes_text m shapes ++ t ≡ w ++ (g ++ (r ++ t)) = append_assoc (w ++ g) r t ∙ append_assoc w g (r ++ t) in
    ap (past_lines false) same ∙ begins_words m shapes m.structs (g ++ (r ++ t)) (begins_globals m shapes m.globals (r ++ t) (begins_roots m shapes m.functions t e)) ∙ sym same
