-- A printed getelementptr is read as this getelementptr again.
use Rattle.std.proofs.Common.{◌≡◌, ℕ, ◌<◌, Bool, true, false, List, [], ◌∷◌, ◌++◌, length, refl, ap, subst, ◌∙◌, arith, append_assoc}
use Rattle.std.specs.Prelude.{◌&&◌, codes}
use Rattle.std.specs.List.{flat_map, AllByRecursion}
use Rattle.grammar.specs.Grammar.{pure, ◌>>=◌, ◌>>◌}
use Rattle.ir_ast.specs.declared.argument.Argument.{Argument}
use Rattle.ir_ast.specs.declared.elements.Element.{Element}
use Rattle.ir_ast.specs.declared.function.Function.{Function}
use Rattle.ir_ast.specs.declared.function.LocalSort.TheVariants as local
use Rattle.ir_ast.specs.declared.module.Module.{Module}
use Rattle.ir_tokens.specs.declared.token.Kind.TheVariants as k
use Rattle.ir_tokens.specs.Bytes.{Text, class_of}
use Rattle.ir_tokens.specs.Keywords.{word_kind, keywords}
use Rattle.ir_forms.specs.Cursor.{kind, same_kind}
use Rattle.ir_forms.specs.declared.input.Input.{Input}
use Rattle.ir_forms.specs.declared.site.Site.{Site}
use Rattle.ir_forms.specs.declared.written.WrittenType.{WrittenType}
use Rattle.ir_forms.specs.Decorations.{flagged_word}
use Rattle.ir_forms.specs.Elements as elements
use Rattle.ir_forms.specs.Input.{Form, advanced, expect}
use Rattle.ir_forms.specs.Lists as lists
use Rattle.ir_forms.specs.ManyWith.{Follows}
use Rattle.ir_forms.specs.Memory as memory
use Rattle.ir_forms.specs.Names.{set_element}
use Rattle.ir_forms.specs.Written as w
use Rattle.ir_print.specs.Elements.{index_text, element_word, element_text}
use Rattle.ir_print.specs.Operands.{operand_text, argument_text}
use Rattle.ir_print.specs.Parts.{typed, placed_text}
use Rattle.ir_print_law.specs.Stands.{Stands, IsSeam, AreBlanks}
use Rattle.ir_print.specs.Types.{type_text}
use Rattle.ir_print_law.specs.Elements.{IsElementAgain, IsElement}
use Rattle.ir_print_law.specs.Parts.{IsArgument}
use Rattle.ir_print_law.proofs.State.{Invariant, Ready, Grows, Reads}
use Rattle.ir_print_law.proofs.Shown.{shown, IsTypeRead, read_stays}
use Rattle.ir_print_law.proofs.Steps.{sign_reads, sign_kind, grows_itself, grows_further, later_before}
use Rattle.ir_print_law.proofs.WholeTypes.{type_begins}
use Rattle.ir_print_law.proofs.PrintedTypes.{type_shown, read_again, any_type_reads}
use Rattle.ir_print_law.proofs.ArgumentsAgain.{EndsLine, AllArgumentsAgain}
use Rattle.ir_print_law.proofs.ListsAgain.{no_metadata, list_ends, list_goes_on}
use Rattle.ir_print_law.proofs.Flags.{type_no_flag, word_flagged}
use Rattle.ir_print_law.proofs.MemoryAgain.{place_reads}
use Rattle.ir_print_law.proofs.Parts.{ends_comma, IsLaterAgain, ArgumentAgain, Sets, typed_reads, OpAgain}
use Rattle.ir_print_law.proofs.Setting.{on, set_reads}
use Rattle.ir_ast.specs.declared.op.Op.TheVariants as op
use Rattle.ir_print.specs.Instructions.{op_text}
use Rattle.ir_print_law.specs.PartsAgain.{IsArgumentAgain}
use Rattle.ir_tokens.specs.declared.token.Kind.{Kind}
use Rattle.ir_forms.specs.Place.{Place}
use Rattle.ir_print_law.proofs.Words.{word_comes}
use Rattle.ir_forms.specs.Instructions as whole
use Rattle.ir_forms.specs.declared.written.Word.TheVariants as sort
use Rattle.ir_print_law.proofs.OpsAgain.{op_reads, by_word}
use Rattle.ir_print_law.proofs.SameParts.{lines_same, argument_same, placed_same}
use Rattle.ir_print_law.proofs.LongerTypes.{with_types, type_again, place_again, operand_again, argument_again}
use Rattle.ir_ast.specs.declared.ir_type.IrType.{IrType}
use Rattle.ir_print_law.specs.Definitions.{defined_functions}
use Rattle.ir_print_law.specs.EqualParts.{same2}
use Rattle.ir_print_law.proofs.OneKind.{IsLonger}
use Rattle.std.proofs.Common.{None}
use Rattle.lemmas.specs.All.{all_so}

-- a getelementptr is this one again, in each module later on
abbrev pub ElementAgain : Module → (locals : List Text) → Element → Element → Input → Type 0
ElementAgain m locals = IsLaterAgain (λ n others. IsElementAgain m n locals others)

module _ {m : Module} {f : Function} (v : Invariant m f) where
  -- ---- indices

  -- a token ends before them
  seam_indices : (xs : List Argument) (rest : Text) → IsSeam rest → IsSeam (flat_map (index_text m f.locals) xs ++ rest)
  unfolding class_of
  seam_indices [] rest seam = seam
  seam_indices (x ∷ xs) rest seam = refl

  -- an index, after others or not
  index_reads : (x : Argument) (xs : List Argument) (is_further : Bool) (i : Input) (rest : Text) (s : ℕ) → IsArgument m f x → EndsLine rest → Ready v s i (codes ", " ++ (argument_text m f.locals x ++ (flat_map (index_text m f.locals) xs ++ rest)))
      → (lists.ends_indices (record { is_further = is_further }) i ≡ false) × Reads v s lists.index i (flat_map (index_text m f.locals) xs ++ rest) (ArgumentAgain m f.locals x)
  unfolding lists.index class_of
  index_reads x xs is_further i rest s own ends ready =
      let afterwards = flat_map (index_text m f.locals) xs ++ rest in
      let good = ArgumentAgain m f.locals x in
      let comma = sign_kind v 44 k.Comma i [] (32 ∷ (argument_text m f.locals x ++ afterwards)) s refl refl refl ready in
      let a = sign_reads v 44 k.Comma i [] (32 ∷ (argument_text m f.locals x ++ (flat_map (index_text m f.locals) xs ++ rest))) s s refl refl refl (omega arith) ready in
      let front = ap (λ (y : Text). (y ++ 32 ∷ operand_text m f.locals x.written x.operand) ++ afterwards) (type_shown m own.0 x.written own.1.0.0 own.1.0.1)
      ∙ append_assoc (shown false own.0) (32 ∷ operand_text m f.locals x.written x.operand) afterwards in
      let begins = type_begins v own.0 a.1 (32 ∷ []) (32 ∷ (operand_text m f.locals x.written x.operand ++ afterwards)) own.1.0.2 refl refl (subst (λ (y : Text). Stands a.1.cursor (32 ∷ y)) front a.3.stands) in
      let metadata = ap (λ (j : Input). lists.is_metadata (kind j.cursor)) a.5 ∙ no_metadata (kind a.1.cursor) begins in (
        stops is_further (list_goes_on i comma metadata),
        on v v (expect k.Comma) (λ _. lists.typed) i (32 ∷ (argument_text m f.locals x ++ (flat_map (index_text m f.locals) xs ++ rest))) afterwards s s (λ _ o. advanced i ≡ o) good a
            (λ _ o ready g e. typed_reads v x.written x.operand o (32 ∷ []) afterwards s own refl (seam_indices xs rest ends.0) ready),
      )
    where
      stops : (b : Bool) → lists.at_no_comma i ≡ false → (b && lists.at_no_comma i) ≡ false
      stops true e = e
      stops false e = refl

  -- further indices are read
  indices_after : (xs : List Argument) (i : Input) (rest : Text) (s : ℕ) → AllByRecursion (IsArgument m f) xs → EndsLine rest → Ready v s i (flat_map (index_text m f.locals) xs ++ rest)
      → (ys : List Argument) × (o : Input) × Follows lists.ends_indices (λ c. (lists.any_index c).says) lists.after_index (record { is_further = true }) i ys o × Ready v s o rest × Grows i o × AllArgumentsAgain m f.locals xs ys o
  indices_after [] i rest s own ends ready = ([], i, (list_ends i (ends.1 i ready.stands), refl), ready, grows_itself i, λ n others later. tt)
  indices_after (x ∷ xs) i rest s own ends ready =
      let ready = subst (λ (y : Text). Ready v s i y) (append_assoc (codes ", " ++ argument_text m f.locals x) (flat_map (index_text m f.locals) xs) rest ∙ append_assoc (codes ", ") (argument_text m f.locals x) (flat_map (index_text m f.locals) xs ++ rest)) ready in
      let h = index_reads x xs true i rest s own.0 ends ready in
      let a = h.1 in
      let b = indices_after xs a.1 rest s own.1 ends a.3 in (
        a.0 ∷ b.0,
        b.1,
        (h.0, a.1, a.2, b.2),
        b.3,
        grows_further i a.1 b.1 a.4 b.4,
        λ n others later. (a.5 n others (later_before a.1 b.1 n others b.4 later), b.5 n others later),
      )

  -- the indices of a getelementptr
  indices_read : (xs : List Argument) (i : Input) (rest : Text) (s : ℕ) → 0 < length xs → AllByRecursion (IsArgument m f) xs → EndsLine rest → Ready v s i (flat_map (index_text m f.locals) xs ++ rest)
      → Reads v s lists.indices i rest (AllArgumentsAgain m f.locals xs)
  unfolding lists.indices
  indices_read [] i rest s some own ends ready = absurd (omega (arith, some))
  indices_read (x ∷ xs) i rest s some own ends ready =
      let ready = subst (λ (y : Text). Ready v s i y) (append_assoc (codes ", " ++ argument_text m f.locals x) (flat_map (index_text m f.locals) xs) rest ∙ append_assoc (codes ", ") (argument_text m f.locals x) (flat_map (index_text m f.locals) xs ++ rest)) ready in
      let h = index_reads x xs false i rest s own.0 ends ready in
      let a = h.1 in
      let b = indices_after xs a.1 rest s own.1 ends a.3 in (
        a.0 ∷ b.0,
        b.1,
        (h.0, a.1, a.2, b.2),
        b.3,
        grows_further i a.1 b.1 a.4 b.4,
        λ n others later. (a.5 n others (later_before a.1 b.1 n others b.4 later), b.5 n others later),
      )

module _ {m : Module} {f : Function} (v u : Invariant m f) where
  -- `getelementptr T, T* V, T W, ..`
  pub element_reads : (site : Site) (value : ℕ) (x : Element) (i : Input) (gap rest : Text) (s : ℕ) → IsElement m f x → Sets v u value → EndsLine rest → AreBlanks gap
      → Ready v s i (gap ++ (element_text m f.locals x ++ rest)) → Reads u s (elements.element site value) i rest (ElementAgain m f.locals x)
  unfolding elements.element element_word class_of word_kind keywords
  element_reads site value x i gap rest s own sets ends blanks ready =
      let shape = own.0 in
      let is = own.1 in
      let good = ElementAgain m f.locals x in
      let type_is = type_shown m shape x.source is.0 is.1 in
      let t4 = flat_map (index_text m f.locals) x.indices ++ rest in
      let t3 = argument_text m f.locals (typed x.base_type x.base) ++ t4 in
      let t2 = codes ", " ++ t3 in
      let t1 = shown false shape ++ t2 in
      let ready = subst (λ (y : Text). Ready v s i (gap ++ y)) (front (type_text m x.source) (argument_text m f.locals (typed x.base_type x.base)) (flat_map (index_text m f.locals) x.indices)) ready in
      let ready = subst (λ (y : Text). Ready v s i (gap ++ (codes "getelementptr" ++ (32 ∷ (y ++ t2))))) type_is ready in
      let begins = λ (o : Input) (stands : Stands o.cursor (32 ∷ t1)). type_begins v shape o (32 ∷ []) t2 is.2 refl refl stands in
      on v u flagged_word (λ _. source_form) i (32 ∷ t1) rest s s (λ _ o. advanced i ≡ o) good
      (word_flagged v (codes "getelementptr") i gap (32 ∷ t1) s s blanks refl refl (omega arith) ready (λ o stands word. type_no_flag word (kind o.cursor) (begins o stands)))
      (λ _ o ready g e.
      on v u w.any_type comma_form o t2 rest s s (IsTypeRead shape 64) good
      (any_type_reads v shape o (32 ∷ []) t2 s is.2 is.1 refl (ends_comma (32 ∷ t3)) ready)
      (λ p q ready h read.
      on v u (expect k.Comma) (λ _. place_form p) q (32 ∷ t3) rest s s (λ _ r. advanced q ≡ r) good
      (sign_reads v 44 k.Comma q [] (32 ∷ t3) s s refl refl refl (omega arith) ready)
      (λ _ r ready hh e.
      on v u (memory.place_of p) (indices_form p) r t4 rest s s (ArgumentAgain m f.locals (typed x.base_type x.base)) good
      (place_reads v shape x.source x.base_type x.base p r (32 ∷ []) t4 s is own.2 own.3 (read_stays shape 64 p q r hh read) refl (seam_indices v x.indices rest ends.0) ready)
      (λ place z ready h3 placed.
      on v u lists.indices (set_form p place) z rest rest s s (AllArgumentsAgain m f.locals x.indices) good
      (indices_read v x.indices z rest s own.4 own.5 ends ready)
      (λ ys end ready h4 again.
      set_reads v u (λ n others. IsElementAgain m n f.locals others) value (local.Element site.block site.place) x (made p place ys) end rest s sets refl ready
      (λ n others later.
      let laterz = later_before z end n others h4 later in
      let laterq = later_before q z n others (grows_further q r z hh h3) laterz in
      let place_again = placed n others laterz in
      (read_again m shape x.source p.id q n others is.0 read.has_shape laterq, place_again.0, place_again.1, again n others later)))))))
    where
      front : (a b c : Text) → (codes "getelementptr " ++ (a ++ codes ", " ++ b) ++ c) ++ rest ≡ codes "getelementptr" ++ (32 ∷ (a ++ (codes ", " ++ (b ++ (c ++ rest)))))
      front a b c = simp append_assoc

      made : WrittenType → Argument → List Argument → Element
      made p place ys = record { source = p.id; base_type = place.written; base = place.operand; indices = ys }

      set_form : WrittenType → Argument → List Argument → Form Element
      set_form p place ys = set_element value site.block site.place >> pure (made p place ys)

      indices_form : WrittenType → Argument → Form Element
      indices_form p place = lists.indices >>= set_form p place

      place_form : WrittenType → Form Element
      place_form p = memory.place_of p >>= indices_form p

      comma_form : WrittenType → Form Element
      comma_form p = expect k.Comma >> place_form p

      source_form : Form Element
      source_form = w.any_type >>= comma_form

  -- what follows `%v =`
  pub named_element_reads : (site : Site) (value : ℕ) (x : Element) (i : Input) (gap rest : Text) (s : ℕ) → AreBlanks gap → IsElement m f x → Sets v u value → EndsLine rest
      → Ready v s i (gap ++ (op_text m f.locals (op.Element x) ++ rest)) → Reads u s (whole.named_op site value) i rest (OpAgain m f.locals (op.Element x))
  unfolding word_kind keywords class_of element_word
  named_element_reads site value x i gap rest s blanks own sets ends ready =
      let placed = placed_text m f.locals x.source (typed x.base_type x.base) in
      by_word v u site value (op.Element x) (codes "getelementptr") (32 ∷ ((placed_text m f.locals x.source (typed x.base_type x.base) ++ flat_map (index_text m f.locals) x.indices) ++ rest)) i gap rest s blanks refl refl
      (subst (λ (y : Text). Ready v s i (gap ++ y)) (ap (λ (y : Text). y ++ rest) (append_assoc (codes "getelementptr ") placed (flat_map (index_text m f.locals) x.indices))) ready)
      (op_reads u op.Element (elements.element site value) (λ n others. IsElementAgain m n f.locals others) x (op.Element x) i rest s (λ y o again. again)
      (element_reads site value x i gap rest s own sets ends blanks ready))

-- ---- its word

-- its word is not that of a phi
pub element_no_phi : (m : Module) (locals : List Text) (x : Element) (place : Place) (rest : Text) → Stands place (32 ∷ (element_text m locals x ++ 10 ∷ rest)) → same_kind (kind place) k.Phi ≡ false
unfolding class_of word_kind keywords same_kind element_word
element_no_phi m locals x place rest at = ap (λ (x : Kind). same_kind x k.Phi) (word_comes place (32 ∷ []) (codes "getelementptr") _ refl refl refl at).0

-- ---- its text

module _ (m n : Module) (locals others : List Text) where
  -- one index, one text
  index_same : (x y : Argument) → IsArgumentAgain m n locals others x y → index_text m locals x ≡ index_text n others y
  index_same x y h = ap (λ (t : Text). codes ", " ++ t) (argument_same m n locals others x y h)

  -- one getelementptr, one text
  pub element_same : (x y : Element) → IsElementAgain m n locals others x y → element_text m locals x ≡ element_text n others y
  element_same x y h =
      same2 (λ a b. element_word ++ a ++ b) (placed_same m n locals others x.source y.source (typed x.base_type x.base) (typed y.base_type y.base) h.0 (h.1, h.2))
      (lines_same (IsArgumentAgain m n locals others) (index_text m locals) (index_text n others) x.indices y.indices index_same h.3)

-- a getelementptr is printable where the module has more types, too
pub element_longer : (m : Module) (types : List IrType) (fs : List Function) (more : IsLonger m.types types) (same : defined_functions (with_types m types fs) ≡ defined_functions m) (f : Function)
    → (x : Element) → IsElement m f x → IsElement (with_types m types fs) f x
element_longer m types fs more same f x h = (
  h.0,
  type_again m types fs more same h.0 x.source h.1,
  place_again m types fs more same h.0 x.source x.base_type h.2,
  operand_again m types fs more same f sort.Pointer x.base h.3,
  h.4,
  all_so (IsArgument m f) (IsArgument (with_types m types fs) f) x.indices (argument_again m types fs more same f) h.5,
)
