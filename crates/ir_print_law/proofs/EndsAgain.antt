-- Printed ends of blocks are read as these ends again.
use Rattle.std.proofs.Common.{◌≡◌, ℕ, ◌+◌, true, false, not, List, [], ◌∷◌, ◌++◌, Option, refl, sym, ap, subst, ◌∙◌, arith, append_assoc}
use Rattle.std.specs.Prelude.{codes}
use Rattle.grammar.specs.Grammar.{pure, ◌>>=◌, ◌>>◌}
use Rattle.ir_ast.specs.declared.function.Function.{Function}
use Rattle.ir_ast.specs.declared.module.Module.{Module}
use Rattle.ir_ast.specs.declared.argument.Argument.{Argument}
use Rattle.ir_ast.specs.declared.ends.End.{End}
use Rattle.ir_ast.specs.declared.ends.End.TheVariants as end
use Rattle.ir_ast.specs.declared.operand.Operand.{Operand}
use Rattle.ir_tokens.specs.declared.token.Kind.TheVariants as k
use Rattle.ir_tokens.specs.Bytes.{Text, class_of}
use Rattle.ir_tokens.specs.Keywords.{word_kind, keywords}
use Rattle.ir_forms.specs.Cursor.{kind, sees}
use Rattle.ir_forms.specs.declared.input.Input.{Input}
use Rattle.ir_forms.specs.declared.written.WrittenType.{WrittenType}
use Rattle.ir_forms.specs.Input.{Form, advanced, skip, expect}
use Rattle.ir_forms.specs.Operand as form
use Rattle.ir_forms.specs.Written as w
use Rattle.ir_forms.specs.Decorations.{either, trailing}
use Rattle.ir_forms.specs.declared.decorating.Trail.TheVariants as trail
use Rattle.ir_print_law.proofs.ArgumentsAgain.{EndsLine}
use Rattle.ir_print_law.proofs.ListsAgain.{no_comma_seen, trailing_said}
use Rattle.ir_forms.specs.Lists as lists
use Rattle.ir_forms.specs.Numbers as numbers
use Rattle.ir_print.specs.Operands.{operand_text, typed_text, argument_text}
use Rattle.ir_print.specs.Ends.{case_text, target_text, end_text}
use Rattle.ir_print.specs.Parts.{typed}
use Rattle.ir_print_law.specs.Stands.{Stands, IsSeam, AreBlanks}
use Rattle.ir_print.specs.Types.{type_text}
use Rattle.ir_print_law.specs.Parts.{IsType, IsArgument, IsCondition, IsTarget}
use Rattle.ir_print_law.specs.Shapes.{Shape, Integer, word_of_shape}
use Rattle.ir_print_law.proofs.State.{Invariant, Ready, Grows, Reads}
use Rattle.ir_print_law.proofs.Shown.{shown, IsTypeRead, read_stays, bits_read}
use Rattle.ir_print_law.proofs.Steps.{looked, given, sign_reads, word_skipped, word_seen, unlike, grows_itself, grows_further, later_before}
use Rattle.ir_print_law.proofs.WholeTypes.{type_begins}
use Rattle.ir_print_law.proofs.PrintedTypes.{type_shown, read_again, scalar_reads, integer_scalar_reads}
use Rattle.ir_print_law.specs.Readings.{after_constant}
use Rattle.ir_print_law.proofs.OperandsAgain.{constant_ready, constant_grows, word_longer, OperandAgain, ends_operand}
use Rattle.ir_print_law.proofs.AgainTypes.{again_reads}
use Rattle.ir_print_law.proofs.Parts.{flat_shape, ends_again, IsLaterAgain, ArgumentAgain, operand_at, typed_reads}
use Rattle.ir_print_law.proofs.Setting.{on, said_on}
use Rattle.std.specs.List.{flat_map}
use Rattle.ir_forms.specs.ManyWith.{Follows}
use Rattle.ir_print.specs.Names.{name_at}
use Rattle.ir_print_law.proofs.Words.{seen}
use Rattle.ir_print_law.proofs.Steps.{sign_kind, said_then}
use Rattle.ir_print_law.specs.PartsAgain.{AreAlike}
use Rattle.ir_print_law.specs.Again.{IsCaseAgain, IsEndAgain}
use Rattle.ir_ast.specs.declared.ends.Case.{Case}
use Rattle.ir_forms.specs.Ends as ends
use Rattle.ir_forms.specs.CaseValues.{value_of, is_among, with_value}
use Rattle.ir_forms.specs.declared.case_values.CaseValue.{CaseValue}
use Rattle.ir_print_law.specs.Fits.{FitsType}
use Rattle.ir_print.specs.Names.{local_text}
use Rattle.ir_print.specs.Operands.{constant_text}
use Rattle.ir_print_law.proofs.Constants.{constant_is_read}
use Rattle.ir_print_law.specs.Printable.{AreCases, IsEnd}
use Rattle.ir_forms.specs.Names.{target}
use Rattle.ir_forms.specs.declared.written.Word.{Word}
use Rattle.ir_print_law.proofs.Steps.{grows_advanced, passed, shorter}
use Rattle.ir_print_law.proofs.OperandsAgain.{constant_by_shape}
use Rattle.ir_print_law.proofs.Parts.{target_reads, label_later, HasLabel}
use Rattle.ir_print_law.proofs.NumbersAgain.{condition_reads}
use Rattle.ir_ast.specs.declared.operand.Operand.TheVariants as operand

-- parts one after another
six_parts : (x p c q d r rest : Text) → (x ++ p ++ c ++ q ++ d ++ r) ++ rest ≡ x ++ (p ++ (c ++ (q ++ (d ++ (r ++ rest)))))
six_parts x p c q d r rest = simp append_assoc

-- parts after an operand with its type
parts_front : (w a b p c q d r rest : Text) → (w ++ (a ++ 32 ∷ b) ++ p ++ c ++ q ++ d ++ r) ++ rest ≡ w ++ (a ++ (32 ∷ (b ++ (p ++ (c ++ (q ++ (d ++ (r ++ rest))))))))
parts_front w a b p c q d r rest =
    let y = p ++ (c ++ (q ++ (d ++ (r ++ rest)))) in
    six_parts (w ++ (a ++ 32 ∷ b)) p c q d r rest ∙ append_assoc w (a ++ 32 ∷ b) y ∙ ap (λ (z : Text). w ++ z) (append_assoc a (32 ∷ b) y)

-- an end is this one again, in each module later on
abbrev pub EndAgain : Module → (locals : List Text) → End → End → Input → Type 0
EndAgain m locals = IsLaterAgain (λ n others. IsEndAgain m n locals others)

module _ {m : Module} {f : Function} (v : Invariant m f) where
  -- ---- cases

  -- cases are these again, in each module later on
  abbrev AllCasesAgain : List Case → List Case → Input → Type 0
  AllCasesAgain = IsLaterAgain (λ n others. AreAlike (IsCaseAgain m n f.locals others))

  -- a token ends before cases
  seam_cases : (t : ℕ) (xs : List Case) (rest : Text) → IsSeam (flat_map (case_text m f.locals t) xs ++ (codes " ]" ++ rest))
  unfolding class_of
  seam_cases t [] rest = refl
  seam_cases t (x ∷ xs) rest = refl

  -- a case is read
  case_reads : (shape : Shape) (t : ℕ) (x : Case) (p : WrittenType) (seen : List CaseValue) (i : Input) (rest : Text) (s : ℕ) → IsType m shape t → IsTypeRead shape 64 p i → FitsType (word_of_shape shape) x.constant
      → is_among (value_of x.constant) seen ≡ false → IsTarget f x.target → IsSeam rest → Ready v s i (case_text m f.locals t x ++ rest)
      → (w.begins_type (kind i.cursor) ≡ true)
      × (b : ℕ) × (o : Input) × (ends.case (record { written = p; seen = seen })).says i (record { constant = x.constant; target = b }) o × Ready v s o rest × Grows i o × HasLabel (name_at f.locals x.target) b o
  unfolding ends.case ends.case_constant class_of
  case_reads shape t x p seen i rest s own read fits new there seam ready =
      let type_is = type_shown m shape t own.0 own.1 in
      let c_text = constant_text m t x.constant in
      let t3 = target_text f.locals x.target ++ rest in
      let t2 = codes ", " ++ t3 in
      let t1 = constant_text m t x.constant ++ t2 in
      let ready = subst (λ (y : Text). Ready v s i y) (front (type_text m t) (constant_text m t x.constant) (target_text f.locals x.target)) ready in
      let ready : Ready v s i (32 ∷ (shown false shape ++ (32 ∷ t1))) = subst (λ (y : Text). Ready v s i (32 ∷ (y ++ (32 ∷ t1)))) type_is ready in
      let begins = type_begins v shape i (32 ∷ []) (32 ∷ t1) own.2 refl refl ready.stands in
      let a = again_reads v shape p i (32 ∷ []) (32 ∷ t1) s own.2 read.has_shape own.1 refl (ends_again (32 ∷ t1) (ends_operand v shape t (operand.Constant x.constant) t2 own.0 fits refl)) ready in
      let there_c = subst (λ (y : Text). Stands a.1.cursor (32 ∷ (y ++ t2))) (constant_by_shape m shape t x.constant own.0) a.3.stands in
      let r = constant_is_read (word_of_shape shape) x.constant a.1 (32 ∷ []) t2 fits refl refl there_c in
      let said = subst (λ (b : Word). (form.constant b).says a.1 x.constant (after_constant x.constant a.1)) (sym (bits_read shape 64 p i read)) r.0 in
      let after = after_constant x.constant a.1 in
      let at_comma : Ready v s (after_constant x.constant a.1) t2 = constant_ready v x.constant a.1 (32 ∷ t1) t2 s a.3 r.1 (word_longer v (32 ∷ []) c_text t2) in
      let d = sign_reads v 44 k.Comma after [] (32 ∷ t3) s s refl refl refl (omega arith) at_comma in
      let e = target_reads v x.target d.1 (32 ∷ []) rest s there refl seam d.3 in (
        begins,
        e.0,
        e.1,
        (a.0, a.1, a.2, (x.constant, after, (x.constant, after, said, (tt, after, (ap not new, refl), (refl, refl))), (d.0, d.1, d.2, (e.0, e.1, e.2, (refl, refl))))),
        e.3,
        grows_further i a.1 e.1 a.4 (grows_further a.1 after e.1 (constant_grows v x.constant a.1) (grows_further after d.1 e.1 d.4 e.4)),
        e.5,
      )
    where
      front : (a b c : Text) → (32 ∷ a ++ 32 ∷ b ++ codes ", " ++ c) ++ rest ≡ 32 ∷ (a ++ (32 ∷ (b ++ (codes ", " ++ (c ++ rest)))))
      front a b c = simp append_assoc

  -- the cases of a switch are read
  cases_read : (shape : Shape) (t : ℕ) (xs : List Case) (p : WrittenType) (seen_values : List CaseValue) (i : Input) (rest : Text) (s : ℕ) → IsType m shape t → IsTypeRead shape 64 p i → AreCases f (word_of_shape shape) seen_values xs
      → Ready v s i (flat_map (case_text m f.locals t) xs ++ (codes " ]" ++ rest))
      → (ys : List Case) × (o : Input) × Follows ends.at_square (λ c. (ends.case c).says) ends.after_case (record { written = p; seen = seen_values }) i ys o × Ready v s o (codes " ]" ++ rest) × Grows i o × AllCasesAgain xs ys o
  unfolding class_of
  cases_read shape t [] p seen_values i rest s own read cases ready =
      ([], i, (seen k.CloseSquare i (sign_kind v 93 k.CloseSquare i (32 ∷ []) rest s refl refl refl ready), refl), ready, grows_itself i, λ n others later. tt)
  cases_read shape t (x ∷ xs) p seen_values i rest s own read cases ready =
      let ready = subst (λ (y : Text). Ready v s i y) (append_assoc (case_text m f.locals t x) (flat_map (case_text m f.locals t) xs) (codes " ]" ++ rest)) ready in
      let a = case_reads shape t x p seen_values i (flat_map (case_text m f.locals t) xs ++ (codes " ]" ++ rest)) s own read cases.0 cases.1 cases.2 (seam_cases t xs rest) ready in
      let opens = unlike k.CloseSquare w.begins_type i refl a.0 in
      let b = cases_read shape t xs p (with_value (value_of x.constant) seen_values) a.2 rest s own (read_stays shape 64 p i a.2 a.5 read) cases.3 a.4 in (
        record { constant = x.constant; target = a.1 } ∷ b.0,
        b.1,
        (opens, a.2, a.3, b.2),
        b.3,
        grows_further i a.2 b.1 a.5 b.4,
        λ n others later. ((refl, label_later v x.target a.1 a.2 n others a.6 (later_before a.2 b.1 n others b.4 later)), b.5 n others later),
      )

  -- `switch T V, label %d [ .. ]`
  switch_reads : (t : ℕ) (x : Operand) (otherwise : ℕ) (xs : List Case) (i : Input) (gap rest : Text) (s : ℕ) → IsEnd m f (end.Switch t x otherwise xs)
      → AreBlanks gap
      → Ready v s i (gap ++ (end_text m f.locals (end.Switch t x otherwise xs) ++ rest)) → Reads v s ends.switch i rest (EndAgain m f.locals (end.Switch t x otherwise xs))
  unfolding ends.switch ends.bracketed_cases ends.all_cases class_of word_kind keywords
  switch_reads t x otherwise xs i gap rest s own blanks ready =
      let flat = own.0 in
      let own = own.1 in
      let shape = own.0 in
      let scalar = own.1 in
      let good = EndAgain m f.locals (end.Switch t x otherwise xs) in
      let type_is = type_shown m shape t scalar.0.0 scalar.0.1 in
      let t5 = flat_map (case_text m f.locals t) xs ++ (codes " ]" ++ rest) in
      let t4 = codes " [" ++ t5 in
      let t3 = target_text f.locals otherwise ++ t4 in
      let t2 = codes ", " ++ t3 in
      let t1 = shown false shape ++ (32 ∷ (operand_text m f.locals t x ++ t2)) in
      let ready = subst (λ (y : Text). Ready v s i (gap ++ y)) (front (type_text m t) (operand_text m f.locals t x) (target_text f.locals otherwise) (flat_map (case_text m f.locals t) xs)) ready in
      let ready = subst (λ (y : Text). Ready v s i (gap ++ (codes "switch" ++ (32 ∷ (y ++ (32 ∷ (operand_text m f.locals t x ++ t2))))))) type_is ready in
      on v v skip (λ _. ends.switch_after) i (32 ∷ t1) rest s s (λ _ o. advanced i ≡ o) good
      (word_skipped v (codes "switch") i gap (32 ∷ t1) s s blanks refl refl (omega arith) ready)
      (λ _ o ready g e.
      on v v w.integer_scalar operand_form o (32 ∷ (operand_text m f.locals t x ++ t2)) rest s s (IsTypeRead shape 64) good
      (integer_scalar_reads v shape o (32 ∷ []) (32 ∷ (operand_text m f.locals t x ++ t2)) s scalar.0.2 scalar.0.1 scalar.1 (flat_shape v shape t scalar.0.0 flat) refl (ends_operand v shape t x t2 scalar.0.0 own.2 refl) ready)
      (λ p q ready h read.
      on v v (form.operand (w.word_of p)) (comma_form p) q t2 rest s s (OperandAgain m f.locals x) good
      (operand_at v shape t x p q q (32 ∷ []) t2 s read scalar.0.0 own.2 refl refl ready)
      (λ y r ready hh again.
      on v v (expect k.Comma) (λ _. target_form p y) r (32 ∷ t3) rest s s (λ _ z. advanced r ≡ z) good
      (sign_reads v 44 k.Comma r [] (32 ∷ t3) s s refl refl refl (omega arith) ready)
      (λ _ z ready h3 e.
      on v v target (cases_form p y) z t4 rest s s (HasLabel (name_at f.locals otherwise)) good
      (target_reads v otherwise z (32 ∷ []) t4 s own.3 refl refl ready)
      (λ b c ready h4 there.
      let qc = grows_further q r c hh (grows_further r z c h3 h4) in
      let opened = sign_reads v 91 k.OpenSquare c (32 ∷ []) t5 s s refl refl refl (omega arith) ready in
      let each = cases_read shape t xs p [] opened.1 rest s scalar.0 (read_stays shape 64 p q opened.1 (grows_further q c opened.1 qc opened.4) read) own.4 opened.3 in
      let close = sign_reads v 93 k.CloseSquare each.1 (32 ∷ []) rest s s refl refl refl (omega arith) each.3 in
      let cd = grows_further c opened.1 close.1 opened.4 (grows_further opened.1 each.1 close.1 each.4 close.4) in
      said_then v (ends.bracketed_cases p) (λ ys. pure (end.Switch p.id y b ys)) c close.1 each.0 rest s good
      (opened.0, opened.1, opened.2, (each.0, each.1, each.2, (close.0, close.1, close.2, (refl, refl)))) cd
      (given v (end.Switch p.id y b each.0) close.1 rest s good close.3
      (λ n others later.
      let latere = later_before each.1 close.1 n others close.4 later in
      let laterc = later_before c close.1 n others cd later in
      let laterr = later_before r c n others (grows_further r z c h3 h4) laterc in
      let laterq = later_before q r n others hh laterr in
      (read_again m shape t p.id q n others scalar.0.0 read.has_shape laterq, again n others laterr, label_later v otherwise b c n others there laterc, each.5 n others latere))))))))
    where
      front : (a b c d : Text) → (codes "switch " ++ (a ++ 32 ∷ b) ++ codes ", " ++ c ++ codes " [" ++ d ++ codes " ]") ++ rest ≡ codes "switch" ++ (32 ∷ (a ++ (32 ∷ (b ++ (codes ", " ++ (c ++ (codes " [" ++ (d ++ (codes " ]" ++ rest)))))))))
      front a b c d = parts_front (codes "switch ") a b (codes ", ") c (codes " [") d (codes " ]") rest

      cases_form : WrittenType → Operand → ℕ → Form End
      cases_form p y b = ends.bracketed_cases p >>= λ ys. pure (end.Switch p.id y b ys)

      target_form : WrittenType → Operand → Form End
      target_form p y = target >>= cases_form p y

      comma_form : WrittenType → Operand → Form End
      comma_form p y = expect k.Comma >> target_form p y

      operand_form : WrittenType → Form End
      operand_form p = form.operand (w.word_of p) >>= comma_form p

  -- ---- branches

  -- `br label %b`
  jump_reads : (label : ℕ) (i : Input) (gap rest : Text) (s : ℕ) → IsTarget f label → AreBlanks gap → IsSeam rest
      → Ready v s i (gap ++ (end_text m f.locals (end.Jump label) ++ rest)) → Reads v s ends.br i rest (EndAgain m f.locals (end.Jump label))
  unfolding ends.br class_of word_kind keywords
  jump_reads label i gap rest s there blanks seam ready =
      let good = EndAgain m f.locals (end.Jump label) in
      let t1 = target_text f.locals label ++ rest in
      on v v skip (λ _. ends.br_after) i (32 ∷ t1) rest s s (λ _ o. advanced i ≡ o) good
      (word_skipped v (codes "br") i gap (32 ∷ t1) s s blanks refl refl (omega arith) ready)
      (λ _ o ready g e.
      looked v (λ i. sees k.Label i.cursor) (either ends.jump ends.branch) o rest s good true (seen k.Label o (word_seen v (codes "label") o (32 ∷ []) (32 ∷ (local_text f.locals label ++ rest)) s refl refl refl ready))
      (on v v target (λ b. pure (end.Jump b)) o rest rest s s (HasLabel (name_at f.locals label)) good
      (target_reads v label o (32 ∷ []) rest s there refl seam ready)
      (λ b q ready h named. given v (end.Jump b) q rest s good ready
      (λ n others later. label_later v label b q n others named later))))

  -- `br i1 V, label %a, label %b`
  branch_reads : (ct : ℕ) (c : Operand) (taken other : ℕ) (i : Input) (gap rest : Text) (s : ℕ) → IsCondition m f ct c → IsTarget f taken → IsTarget f other → AreBlanks gap → IsSeam rest
      → Ready v s i (gap ++ (end_text m f.locals (end.Branch ct c taken other) ++ rest)) → Reads v s ends.br i rest (EndAgain m f.locals (end.Branch ct c taken other))
  unfolding ends.br ends.branch class_of word_kind keywords
  branch_reads ct c taken other i gap rest s own at_taken at_other blanks seam ready =
      let good = EndAgain m f.locals (end.Branch ct c taken other) in
      let t4 = target_text f.locals other ++ rest in
      let t3 = codes ", " ++ t4 in
      let t2 = codes ", " ++ (target_text f.locals taken ++ t3) in
      let t1 = typed_text m f.locals ct c ++ t2 in
      let type_is = type_shown m (Integer 1) ct own.0 (omega arith) in
      let ready = subst (λ (y : Text). Ready v s i (gap ++ y)) (front (typed_text m f.locals ct c) (target_text f.locals taken) (target_text f.locals other)) ready in
      on v v skip (λ _. ends.br_after) i (32 ∷ t1) rest (s + 1) s (λ _ o. advanced i ≡ o) good
      (word_skipped v (codes "br") i gap (32 ∷ t1) s (s + 1) blanks refl refl (omega arith) ready)
      (λ _ o ready g e.
      let starts = ap (λ (y : Text). (y ++ 32 ∷ operand_text m f.locals ct c) ++ t2) type_is ∙ append_assoc (shown false (Integer 1)) (32 ∷ operand_text m f.locals ct c) t2 in
      let begins = type_begins v (Integer 1) o (32 ∷ []) (32 ∷ (operand_text m f.locals ct c ++ t2)) (omega arith, omega arith) refl refl (subst (λ (y : Text). Stands o.cursor (32 ∷ y)) starts ready.stands) in
      looked v (λ i. sees k.Label i.cursor) (either ends.jump ends.branch) o rest s good false (unlike k.Label w.begins_type o refl begins)
      (on v v numbers.condition first_form o t2 rest s s (ArgumentAgain m f.locals (typed ct c)) good
      (condition_reads v ct c o (32 ∷ []) t2 s own refl refl ready)
      (λ b q ready h again.
      on v v (expect k.Comma) (λ _. taken_form b) q (32 ∷ (target_text f.locals taken ++ t3)) rest s s (λ _ z. advanced q ≡ z) good
      (sign_reads v 44 k.Comma q [] (32 ∷ (target_text f.locals taken ++ t3)) s s refl refl refl (omega arith) ready)
      (λ _ z ready h3 e.
      on v v target (second_form b) z t3 rest s s (HasLabel (name_at f.locals taken)) good
      (target_reads v taken z (32 ∷ []) t3 s at_taken refl refl ready)
      (λ one y ready h4 first.
      on v v (expect k.Comma) (λ _. other_form b one) y (32 ∷ t4) rest s s (λ _ z. advanced y ≡ z) good
      (sign_reads v 44 k.Comma y [] (32 ∷ t4) s s refl refl refl (omega arith) ready)
      (λ _ a ready h5 e.
      on v v target (λ two. pure (end.Branch b.written b.operand one two)) a rest rest s s (HasLabel (name_at f.locals other)) good
      (target_reads v other a (32 ∷ []) rest s at_other refl seam ready)
      (λ two u ready h6 second. given v (end.Branch b.written b.operand one two) u rest s good ready
      (λ n others later.
      let latery = later_before y u n others (grows_further y a u h5 h6) later in
      let laterq = later_before q y n others (grows_further q z y h3 h4) latery in
      let bit = again n others laterq in
      (bit.0, bit.1, label_later v taken one y n others first latery, label_later v other two u n others second later)))))))))
    where
      front : (a b c : Text) → (codes "br " ++ a ++ codes ", " ++ b ++ codes ", " ++ c) ++ rest ≡ codes "br" ++ (32 ∷ (a ++ (codes ", " ++ (b ++ (codes ", " ++ (c ++ rest))))))
      front a b c = simp append_assoc

      other_form : Argument → ℕ → Form End
      other_form b one = target >>= λ two. pure (end.Branch b.written b.operand one two)

      second_form : Argument → ℕ → Form End
      second_form b one = expect k.Comma >> other_form b one

      taken_form : Argument → Form End
      taken_form b = target >>= second_form b

      first_form : Argument → Form End
      first_form b = expect k.Comma >> taken_form b

  -- ---- ends of a function

  -- `ret T V`
  return_reads : (x : Argument) (i : Input) (gap rest : Text) (s : ℕ) → IsArgument m f x → AreBlanks gap → IsSeam rest
      → Ready v s i (gap ++ (end_text m f.locals (end.Return x) ++ rest)) → Reads v s ends.ret i rest (EndAgain m f.locals (end.Return x))
  unfolding ends.ret class_of word_kind keywords
  return_reads x i gap rest s own blanks seam ready =
      let good = EndAgain m f.locals (end.Return x) in
      let t1 = argument_text m f.locals x ++ rest in
      let type_is = type_shown m own.0 x.written own.1.0.0 own.1.0.1 in
      on v v skip (λ _. ends.ret_after) i (32 ∷ t1) rest s s (λ _ o. advanced i ≡ o) good
      (word_skipped v (codes "ret") i gap (32 ∷ t1) s s blanks refl refl (omega arith) ready)
      (λ _ o ready g e.
      let starts = ap (λ (y : Text). (y ++ 32 ∷ operand_text m f.locals x.written x.operand) ++ rest) type_is ∙ append_assoc (shown false own.0) (32 ∷ operand_text m f.locals x.written x.operand) rest in
      let begins = type_begins v own.0 o (32 ∷ []) (32 ∷ (operand_text m f.locals x.written x.operand ++ rest)) own.1.0.2 refl refl (subst (λ (y : Text). Stands o.cursor (32 ∷ y)) starts ready.stands) in
      looked v (λ i. sees k.Void i.cursor) (either (skip >> pure end.ReturnVoid) ends.returned_value) o rest s good false (unlike k.Void w.begins_type o refl begins)
      (on v v lists.typed (λ y. pure (end.Return y)) o rest rest s s (ArgumentAgain m f.locals x) good
      (typed_reads v x.written x.operand o (32 ∷ []) rest s own refl seam ready)
      (λ y q ready h again. given v (end.Return y) q rest s good ready (λ n others later. again n others later))))

  -- the instruction that ends a block
  terminator_reads : (x : End) (i : Input) (gap rest : Text) (s : ℕ) → IsEnd m f x → AreBlanks gap → IsSeam rest
      → Ready v s i (gap ++ (end_text m f.locals x ++ rest)) → Reads v s ends.terminator i rest (EndAgain m f.locals x)
  unfolding ends.terminator ends.ret class_of word_kind keywords
  terminator_reads (end.Jump label) i gap rest s own blanks seam ready =
      looked v (λ i. kind i.cursor) ends.terminator_by i rest s (EndAgain m f.locals (end.Jump label)) k.Br (word_seen v (codes "br") i gap _ s blanks refl refl ready)
      (jump_reads label i gap rest s own blanks seam ready)
  terminator_reads (end.Branch ct c taken other) i gap rest s own blanks seam ready =
      looked v (λ i. kind i.cursor) ends.terminator_by i rest s (EndAgain m f.locals (end.Branch ct c taken other)) k.Br
      (word_seen v (codes "br") i gap _ s blanks refl refl ready)
      (branch_reads ct c taken other i gap rest s own.0 own.1 own.2 blanks seam ready)
  terminator_reads (end.Switch t x otherwise xs) i gap rest s own blanks seam ready =
      looked v (λ i. kind i.cursor) ends.terminator_by i rest s (EndAgain m f.locals (end.Switch t x otherwise xs)) k.Switch
      (word_seen v (codes "switch") i gap _ s blanks refl refl ready)
      (switch_reads t x otherwise xs i gap rest s own blanks ready)
  terminator_reads (end.Return x) i gap rest s own blanks seam ready =
      looked v (λ i. kind i.cursor) ends.terminator_by i rest s (EndAgain m f.locals (end.Return x)) k.Ret (word_seen v (codes "ret") i gap _ s blanks refl refl ready)
      (return_reads x i gap rest s own blanks seam ready)
  terminator_reads end.Unreachable i gap rest s own blanks seam ready =
      looked v (λ i. kind i.cursor) ends.terminator_by i rest s (EndAgain m f.locals end.Unreachable) k.Unreachable (word_seen v (codes "unreachable") i gap rest s blanks refl seam ready)
      (on v v skip (λ _. pure end.Unreachable) i rest rest s s (λ _ o. advanced i ≡ o) (EndAgain m f.locals end.Unreachable)
      (word_skipped v (codes "unreachable") i gap rest s s blanks refl seam (omega arith) ready)
      (λ _ o ready g e. given v end.Unreachable o rest s (EndAgain m f.locals end.Unreachable) ready (λ n others later. tt)))
  terminator_reads end.ReturnVoid i gap rest s own blanks seam ready =
      let good = EndAgain m f.locals end.ReturnVoid in
      looked v (λ i. kind i.cursor) ends.terminator_by i rest s good k.Ret (word_seen v (codes "ret") i gap (32 ∷ (codes "void" ++ rest)) s blanks refl refl ready)
      (on v v skip (λ _. ends.ret_after) i (32 ∷ (codes "void" ++ rest)) rest s s (λ _ o. advanced i ≡ o) good
      (word_skipped v (codes "ret") i gap (32 ∷ (codes "void" ++ rest)) s s blanks refl refl (omega arith) ready)
      (λ _ o ready g e.
      looked v (λ i. sees k.Void i.cursor) (either (skip >> pure end.ReturnVoid) ends.returned_value) o rest s good true (seen k.Void o (word_seen v (codes "void") o (32 ∷ []) rest s refl refl seam ready))
      (on v v skip (λ _. pure end.ReturnVoid) o rest rest s s (λ _ q. advanced o ≡ q) good
      (word_skipped v (codes "void") o (32 ∷ []) rest s s refl refl seam (omega arith) ready)
      (λ _ q ready h e. given v end.ReturnVoid q rest s good ready (λ n others later. tt)))))

  -- the end of a block, after which a line ends
  pub end_reads : (x : End) (i : Input) (gap rest : Text) (s : ℕ) → IsEnd m f x → AreBlanks gap → EndsLine rest
      → Ready v s i (gap ++ (end_text m f.locals x ++ rest)) → Reads v s ends.block_end i rest (EndAgain m f.locals x)
  unfolding ends.block_end
  end_reads x i gap rest s own blanks line ready =
      on v v ends.terminator ends.with_trail i rest rest s s (EndAgain m f.locals x) (EndAgain m f.locals x)
      (terminator_reads x i gap rest s own blanks line.0 ready)
      (λ y o ready g again.
      let said = trailing_said trail.Other o (no_comma_seen o (line.1 o ready.stands)) in
      said_on v (trailing trail.Other) (λ _. pure y) o tt rest s (EndAgain m f.locals x) said (given v y o rest s (EndAgain m f.locals x) ready again))
