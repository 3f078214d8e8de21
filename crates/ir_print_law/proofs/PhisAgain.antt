-- Printed phis are read as these phis again.
use Rattle.std.proofs.Common.{◌≡◌, ℕ, ◌<◌, true, false, List, [], ◌∷◌, ◌++◌, length, Option, refl, sym, ap, subst, ◌∙◌, arith, append_assoc}
use Rattle.std.specs.Prelude.{codes}
use Rattle.std.specs.List.{flat_map, AllByRecursion}
use Rattle.grammar.specs.Grammar.{pure, ◌>>=◌, ◌>>◌}
use Rattle.ir_ast.specs.declared.choices.Incoming.{Incoming}
use Rattle.ir_ast.specs.declared.choices.Phi.{Phi}
use Rattle.ir_ast.specs.declared.function.Function.{Function}
use Rattle.ir_ast.specs.declared.function.LocalSort.TheVariants as local
use Rattle.ir_ast.specs.declared.module.Module.{Module}
use Rattle.ir_ast.specs.declared.operand.Operand.{Operand}
use Rattle.ir_tokens.specs.declared.token.Kind.TheVariants as k
use Rattle.ir_tokens.specs.Bytes.{Text, class_of}
use Rattle.ir_tokens.specs.Keywords.{word_kind, keywords}
use Rattle.ir_forms.specs.Cursor.{kind}
use Rattle.ir_forms.specs.declared.decorating.Trail.TheVariants as trail
use Rattle.ir_forms.specs.declared.input.Input.{Input}
use Rattle.ir_forms.specs.declared.uses.Wanted.TheVariants as wants
use Rattle.ir_forms.specs.declared.written.WrittenType.{WrittenType}
use Rattle.ir_forms.specs.Choices as choices
use Rattle.ir_forms.specs.Records.{instruction_end}
use Rattle.ir_forms.specs.Input.{Form, advanced, expect}
use Rattle.ir_forms.specs.Lists as lists
use Rattle.ir_forms.specs.ManyWith.{Follows}
use Rattle.ir_forms.specs.Names.{incoming_label, set_type}
use Rattle.ir_forms.specs.Operand as form
use Rattle.ir_forms.specs.Written as w
use Rattle.ir_forms.specs.declared.written.Word.{Word}
use Rattle.ir_print.specs.Choices.{incoming_text}
use Rattle.ir_print.specs.Names.{name_at, local_text}
use Rattle.ir_print.specs.Operands.{operand_text, listed}
use Rattle.ir_print_law.specs.Stands.{AreBlanks}
use Rattle.ir_print.specs.Types.{type_text}
use Rattle.ir_print_law.specs.PartsAgain.{AreAlike, IsTypeAgain}
use Rattle.ir_print_law.specs.Again.{IsIncomingAgain}
use Rattle.ir_print_law.specs.Printable.{IsIncoming, IsPhi}
use Rattle.ir_print_law.specs.Shapes.{Shape, HasShape, word_of_shape}
use Rattle.ir_print_law.proofs.State.{Invariant, Ready, Grows, Reads}
use Rattle.ir_print_law.proofs.Shown.{shown, IsTypeRead, bits_read}
use Rattle.ir_print_law.proofs.Steps.{given, sign_reads, sign_kind, word_reads, grows_itself, grows_further, later_before}
use Rattle.ir_print_law.proofs.Types.{EndsType, ends_type}
use Rattle.ir_print_law.proofs.PrintedTypes.{type_shown, read_again, scalar_reads}
use Rattle.ir_print_law.proofs.OperandsAgain.{OperandAgain, operand_reads}
use Rattle.ir_print_law.proofs.ArgumentsAgain.{EndsLine}
use Rattle.ir_print_law.proofs.ListsAgain.{list_ends, list_goes_on, line_ended}
use Rattle.ir_print_law.proofs.Parts.{IsLaterAgain, Sets, HasLabel, label_reads, label_later}
use Rattle.ir_print_law.proofs.Setting.{on, sort_set}
use Rattle.ir_print_law.proofs.Words.{sign_comes}

-- the type and the entries of a phi are those of this one again
abbrev pub IsPhiRestAgain : (m n : Module) → (locals others : List Text) → Phi → Phi → Type 0
IsPhiRestAgain m n locals others x y = IsTypeAgain m n x.written y.written × AreAlike (IsIncomingAgain m n locals others) x.incoming y.incoming

-- a phi of this value, whose type and entries are those of this one again, in each module later on
abbrev pub PhiAgain : Module → (locals : List Text) → (value : ℕ) → Phi → Phi → Input → Type 0
PhiAgain m locals value x y o = (y.value ≡ value) × IsLaterAgain (λ n others. IsPhiRestAgain m n locals others) x y o

module _ {m : Module} {f : Function} (v : Invariant m f) where
  -- ---- entries of a phi

  -- an entry is this one again, in each module later on
  abbrev EntryAgain : Incoming → Incoming → Input → Type 0
  EntryAgain = IsLaterAgain (λ n others. IsIncomingAgain m n f.locals others)

  -- `[ V, %b ]`
  incoming_reads : (shape : Shape) (t : ℕ) (x : Incoming) (i : Input) (gap rest : Text) (s : ℕ) → HasShape m.types m.struct_names shape t → IsIncoming m f (word_of_shape shape) x → AreBlanks gap
      → Ready v s i (gap ++ (incoming_text m f.locals t x ++ rest)) → Reads v s (choices.incoming (word_of_shape shape)) i rest (EntryAgain x)
  unfolding choices.incoming class_of
  incoming_reads shape t x i gap rest s has own blanks ready =
      let good = EntryAgain x in
      let t3 = local_text f.locals x.from ++ (codes " ]" ++ rest) in
      let t2 = codes ", " ++ t3 in
      let t1 = operand_text m f.locals t x.operand ++ t2 in
      let ready = subst (λ (y : Text). Ready v s i (gap ++ y)) (front (operand_text m f.locals t x.operand) (local_text f.locals x.from)) ready in
      on v v (expect k.OpenSquare) (λ _. choices.incoming_after (word_of_shape shape)) i (32 ∷ t1) rest s s (λ _ o. advanced i ≡ o) good
      (sign_reads v 91 k.OpenSquare i gap (32 ∷ t1) s s blanks refl refl (omega arith) ready)
      (λ _ o ready g e.
      on v v (form.operand (word_of_shape shape)) comma_form o t2 rest s s (OperandAgain m f.locals x.operand) good
      (operand_reads v shape t x.operand o (32 ∷ []) t2 s has own.0 refl refl ready)
      (λ y q ready h again.
      on v v (expect k.Comma) (λ _. label_form y) q (32 ∷ t3) rest s s (λ _ r. advanced q ≡ r) good
      (sign_reads v 44 k.Comma q [] (32 ∷ t3) s s refl refl refl (omega arith) ready)
      (λ _ r ready hh e.
      on v v incoming_label (close_form y) r (codes " ]" ++ rest) rest s s (HasLabel (name_at f.locals x.from)) good
      (label_reads v wants.Block x.from r (32 ∷ []) (codes " ]" ++ rest) s own.1 refl refl ready)
      (λ b z ready h3 there.
      on v v (expect k.CloseSquare) (λ _. pure (record { operand = y; from = b })) z rest rest s s (λ _ u. advanced z ≡ u) good
      (sign_reads v 93 k.CloseSquare z (32 ∷ []) rest s s refl refl refl (omega arith) ready)
      (λ _ u ready h4 e. given v (record { operand = y; from = b }) u rest s good ready
      (λ n others later.
      let laterz = later_before z u n others h4 later in
      let laterq = later_before q z n others (grows_further q r z hh h3) laterz in
      (again n others laterq, label_later v x.from b z n others there laterz)))))))
    where
      front : (a b : Text) → (codes "[ " ++ a ++ codes ", " ++ b ++ codes " ]") ++ rest ≡ 91 ∷ 32 ∷ (a ++ (codes ", " ++ (b ++ (codes " ]" ++ rest))))
      front a b = simp append_assoc

      close_form : Operand → ℕ → Form Incoming
      close_form y b = expect k.CloseSquare >> pure (record { operand = y; from = b })

      label_form : Operand → Form Incoming
      label_form y = incoming_label >>= close_form y

      comma_form : Operand → Form Incoming
      comma_form y = expect k.Comma >> label_form y

  -- further entries, each after a comma
  abbrev further_entries : ℕ → List Incoming → Text
  further_entries t xs = flat_map (λ x. codes ", " ++ incoming_text m f.locals t x) xs

  -- entries are these again, in each module later on
  abbrev AllEntriesAgain : List Incoming → List Incoming → Input → Type 0
  AllEntriesAgain = IsLaterAgain (λ n others. AreAlike (IsIncomingAgain m n f.locals others))

  -- further entries are read
  entries_after : (shape : Shape) (t : ℕ) (xs : List Incoming) (i : Input) (rest : Text) (s : ℕ) → HasShape m.types m.struct_names shape t → AllByRecursion (IsIncoming m f (word_of_shape shape)) xs → EndsLine rest
      → Ready v s i (further_entries t xs ++ rest)
      → (ys : List Incoming) × (o : Input) × Follows choices.ends_entries (λ c. (choices.entry c).says) choices.after_entry (record { word = word_of_shape shape; is_further = true }) i ys o × Ready v s o rest × Grows i o × AllEntriesAgain xs ys o
  unfolding choices.entry choices.separated class_of
  entries_after shape t [] i rest s has own ends ready = ([], i, (list_ends i (ends.1 i ready.stands), refl), ready, grows_itself i, λ n others later. tt)
  entries_after shape t (x ∷ xs) i rest s has own ends ready =
      let afterwards = further_entries t xs ++ rest in
      let ready = subst (λ (y : Text). Ready v s i y) (append_assoc (codes ", " ++ incoming_text m f.locals t x) (further_entries t xs) rest ∙ append_assoc (codes ", ") (incoming_text m f.locals t x) (further_entries t xs ++ rest)) ready in
      let comma = sign_kind v 44 k.Comma i [] (32 ∷ (incoming_text m f.locals t x ++ afterwards)) s refl refl refl ready in
      let c = sign_reads v 44 k.Comma i [] (32 ∷ (incoming_text m f.locals t x ++ (further_entries t xs ++ rest))) s s refl refl refl (omega arith) ready in
      let a = incoming_reads shape t x c.1 (32 ∷ []) afterwards s has own.0 refl c.3 in
      let opens = square_first c.1 (operand_text m f.locals t x.operand) (local_text f.locals x.from) afterwards s c.3 in
      let metadata : lists.is_metadata (kind (advanced i).cursor) ≡ false = ap (λ (j : Input). lists.is_metadata (kind j.cursor)) c.5 ∙ ap lists.is_metadata opens in
      let b = entries_after shape t xs a.1 rest s has own.1 ends a.3 in (
        a.0 ∷ b.0,
        b.1,
        (list_goes_on i comma metadata, a.1, (c.0, c.1, c.2, a.2), b.2),
        b.3,
        grows_further i a.1 b.1 (grows_further i c.1 a.1 c.4 a.4) b.4,
        λ n others later. (a.5 n others (later_before a.1 b.1 n others b.4 later), b.5 n others later),
      )
    where
      square_first : (j : Input) (a b afterwards : Text) (s : ℕ) → Ready v s j (32 ∷ ((codes "[ " ++ a ++ codes ", " ++ b ++ codes " ]") ++ afterwards)) → kind j.cursor ≡ k.OpenSquare
      square_first j a b afterwards s ready = sign_kind v 91 k.OpenSquare j (32 ∷ []) _ s refl refl refl ready

  -- the entries of a phi
  entries_read : (shape : Shape) (t : ℕ) (xs : List Incoming) (i : Input) (rest : Text) (s : ℕ) → 0 < length xs → HasShape m.types m.struct_names shape t → AllByRecursion (IsIncoming m f (word_of_shape shape)) xs → EndsLine rest
      → Ready v s i (32 ∷ (listed (incoming_text m f.locals t) xs ++ rest)) → Reads v s (choices.all_entries (word_of_shape shape)) i rest (AllEntriesAgain xs)
  unfolding choices.all_entries choices.entry choices.separated
  entries_read shape t [] i rest s some has own ends ready = absurd (omega (arith, some))
  entries_read shape t (x ∷ xs) i rest s some has own ends ready =
      let ready = subst (λ (y : Text). Ready v s i (32 ∷ y)) (append_assoc (incoming_text m f.locals t x) (further_entries t xs) rest) ready in
      let a = incoming_reads shape t x i (32 ∷ []) (further_entries t xs ++ rest) s has own.0 refl ready in
      let b = entries_after shape t xs a.1 rest s has own.1 ends a.3 in (
        a.0 ∷ b.0,
        b.1,
        (refl, a.1, (tt, i, (refl, refl), a.2), b.2),
        b.3,
        grows_further i a.1 b.1 a.4 b.4,
        λ n others later. (a.5 n others (later_before a.1 b.1 n others b.4 later), b.5 n others later),
      )

module _ {m : Module} {f : Function} (v u : Invariant m f) where
  -- `= phi T [ V, %b ], ..` after the name of its value
  pub phi_reads : (x : Phi) (value : ℕ) (i : Input) (gap rest : Text) (s : ℕ) → IsPhi m f x → Sets v u value → EndsLine rest → AreBlanks gap
      → Ready v s i (gap ++ (codes "= phi " ++ (type_text m x.written ++ (32 ∷ (listed (incoming_text m f.locals x.written) x.incoming ++ rest)))))
      → Reads u s (choices.phi_after value) i rest (PhiAgain m f.locals value x)
  unfolding class_of word_kind keywords
  phi_reads x value i gap rest s own sets ends blanks ready =
      let shape = own.0 in
      let scalar = own.1 in
      let good = PhiAgain m f.locals value x in
      let type_is = type_shown m shape x.written scalar.0.0 scalar.0.1 in
      let t3 = 32 ∷ (listed (incoming_text m f.locals x.written) x.incoming ++ rest) in
      let t2 = shown false shape ++ t3 in
      let t1 = codes "phi" ++ (32 ∷ t2) in
      let ready = subst (λ (y : Text). Ready v s i (gap ++ (codes "= phi " ++ (y ++ t3)))) type_is ready in
      on v u (expect k.Equals) (λ _. phi_form) i (32 ∷ t1) rest s s (λ _ o. advanced i ≡ o) good
      (sign_reads v 61 k.Equals i gap (32 ∷ t1) s s blanks refl refl (omega arith) ready)
      (λ _ o ready g e.
      on v u (expect k.Phi) (λ _. type_form) o (32 ∷ t2) rest s s (λ _ q. advanced o ≡ q) good
      (word_reads v (codes "phi") o (32 ∷ []) (32 ∷ t2) s s refl refl refl (omega arith) ready)
      (λ _ q ready h e.
      on v u w.scalar entries_form q t3 rest s s (IsTypeRead shape 64) good
      (scalar_reads v shape q (32 ∷ []) t3 s scalar.0.2 scalar.0.1 scalar.1 refl (ends_entries x.incoming own.2) ready)
      (λ p r ready hh read.
      on v u (choices.all_entries (w.word_of p)) (set_form p) r rest rest s s (AllEntriesAgain v x.incoming) good
      (subst (λ (b : Word). Reads v s (choices.all_entries b) r rest (AllEntriesAgain v x.incoming)) (sym (bits_read shape 64 p r read)) (entries_read v shape x.written x.incoming r rest s own.2 scalar.0.0 own.3 ends ready))
      (λ ys z ready h3 again. trail_form p ys z ready
      (λ n others later. (read_again m shape x.written p.id r n others scalar.0.0 read.has_shape (later_before r z n others h3 later), again n others later))))))
    where
      made : WrittenType → List Incoming → Phi
      made p ys = record { value = value; written = p.id; incoming = ys }

      end_form : WrittenType → List Incoming → Form Phi
      end_form p ys = instruction_end trail.Other >> pure (made p ys)

      set_form : WrittenType → List Incoming → Form Phi
      set_form p ys = set_type value p.id >> end_form p ys

      entries_form : WrittenType → Form Phi
      entries_form p = choices.all_entries (w.word_of p) >>= set_form p

      type_form : Form Phi
      type_form = w.scalar >>= entries_form

      phi_form : Form Phi
      phi_form = expect k.Phi >> type_form

      ends_entries : (xs : List Incoming) → 0 < length xs → EndsType (32 ∷ (listed (incoming_text m f.locals x.written) xs ++ rest))
      ends_entries [] some = absurd (omega (arith, some))
      ends_entries (x ∷ xs) some = (refl, λ i at. ap ends_type (sign_comes i.cursor (32 ∷ []) 91 _ k.OpenSquare refl refl refl at).0)

      trail_form : (p : WrittenType) (ys : List Incoming) (z : Input) → Ready v s z rest → IsLaterAgain (λ n others. IsPhiRestAgain m n f.locals others) x (made p ys) z
          → Reads u s (set_form p ys) z rest (PhiAgain m f.locals value x)
      trail_form p ys z ready again =
          let a = sort_set v u (λ n others. IsPhiRestAgain m n f.locals others) value (local.Value p.id) x (made p ys) z rest s sets refl ready again in
          let o = a.1 in
          (made p ys, a.1, (tt, a.1, a.2, (tt, o, line_ended trail.Other o (ends.1 o a.3.stands) (ends.2 o a.3.stands), (refl, refl))), a.3, a.4, (refl, a.5))
