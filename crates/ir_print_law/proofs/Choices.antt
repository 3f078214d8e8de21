-- Selects and phis, as they are read.
use Rattle.std.proofs.Common.{◌≡◌, ℕ, ◌<◌, Bool, true, false, List, [], ◌∷◌, length, Option, refl, sym, subst, arith}
use Rattle.std.specs.List.{AllByRecursion}
use Rattle.ir_ast.specs.declared.choices.Incoming.{Incoming}
use Rattle.ir_ast.specs.declared.choices.Phi.{Phi}
use Rattle.ir_ast.specs.declared.function.Function.{Function}
use Rattle.ir_ast.specs.declared.function.LocalSort.TheVariants as local
use Rattle.ir_ast.specs.declared.module.Module.{Module}
use Rattle.ir_tokens.specs.declared.token.Kind.{Kind}
use Rattle.ir_tokens.specs.declared.token.Kind.TheVariants as k
use Rattle.ir_forms.specs.Choices.{select, separated, incoming, entry, ends_entries, after_entry, all_entries, phi_value_by, phi_value, phi_after, phi, at_no_phi, phis}
use Rattle.ir_forms.specs.Cursor.{kind}
use Rattle.ir_forms.specs.ManyWith.{Follows}
use Rattle.ir_forms.specs.Written.{has_opaque, is_scalar, word_of}
use Rattle.ir_forms.specs.declared.written.WrittenType.{WrittenType}
use Rattle.ir_forms.specs.declared.choices.Entries.{Entries}
use Rattle.ir_forms.specs.declared.decorating.Trail.TheVariants as trail
use Rattle.ir_forms.specs.declared.input.Input.{Input}
use Rattle.ir_forms.specs.declared.uses.Wanted.TheVariants as wants
use Rattle.ir_forms.specs.declared.written.Word.{Word}
use Rattle.ir_print_law.specs.Definitions.{defined_structs}
use Rattle.ir_print_law.specs.Choices.{IsChoice}
use Rattle.ir_print_law.specs.Printable.{IsIncoming, IsPhi}
use Rattle.ir_print_law.proofs.Arguments.{bits_written, typed_pair_keeps, condition_keeps}
use Rattle.ir_print_law.proofs.Records.{instruction_end_passes}
use Rattle.ir_print_law.proofs.Forms.{Keeps, Same, Any, each_with}
use Rattle.ir_print_law.proofs.Looks.{bits_are}
use Rattle.ir_print_law.proofs.Operands.{AreBits, operand_keeps, label_keeps}
use Rattle.ir_print_law.proofs.Passes.{Passes, skip_passes, expect_passes, pure_passes}
use Rattle.ir_print_law.proofs.Reading.{Within, Naming, Builder, Progress, with_named_value, within_of, naming_of}
use Rattle.ir_print_law.proofs.TypesThat.{IsFit, scalar_of, scalar_keeps}
use Rattle.ir_print_law.proofs.ValueLists.{with_values, values_from}
use Rattle.ir_print_law.proofs.ValueSorts.{Gives, sort_keeps, ends}

-- what is defined after these phis
abbrev pub with_phis : Progress → List Phi → Progress
with_phis = with_values (λ (x : Phi). x.value)

-- a type and entries that make a phi
phi_is : (m : Module) (f : Function) (n : ℕ) (w : WrittenType) (xs : List Incoming) → IsFit m is_scalar w → (0 < length xs) × (AreBits (word_of w) → AllByRecursion (IsIncoming m f (word_of w)) xs)
    → IsPhi m f (record { value = n; written = w.id; incoming = xs })
phi_is m f n w xs fit entries =
    let shape = fit.0.0 in
    let own = fit.0.1 in
    let bits = bits_are m 64 w shape own in
    let are = entries.1 (subst AreBits (sym bits) (bits_written m.wide (has_opaque m.types) (defined_structs m) shape own.is_written)) in
    (shape, scalar_of m w fit, entries.0, subst (λ (y : Word). AllByRecursion (IsIncoming m f y) xs) bits are)

module _ {m : Module} {f : Function} {value : ℕ} (n : Naming m f value) where
  pub select_keeps : Gives n (select value) (IsChoice m f)
  unfolding select
  select_keeps i x o h fore =
      let r = n.within.reading in
      let t = h.3 in
      let u = t.3 in
      let w = u.3 in
      let a = skip_passes r i h.0 h.1 h.2 fore in
      let b = condition_keeps n.within h.1 t.0 t.1 t.2 a.0 in
      let c = expect_passes r k.Comma t.1 u.0 u.1 u.2 b.0 in
      let d = typed_pair_keeps n.within u.1 w.0 w.1 w.2 c.0 in
      let e = ends n (local.Value w.0.written) tt (record { condition_type = t.0.written; condition = t.0.operand; written = w.0.written; chosen = w.0.first; other = w.0.second }) w.1 x o w.3 d.0 in (
        e.0,
        λ back.
            let eb = e.1 back in
            let db = d.1 eb.0 in
            let cb = c.1 db.0 in
            let bb = b.1 cb.0 in
            ((a.1 bb.0).0, subst (IsChoice m f) eb.1 (bb.1, db.1)),
      )

module _ {m : Module} {f : Function} (v : Within m f) where
  -- ---- the entries of a phi

  separated_passes : (t : Bool) → Passes v.reading (separated t)
  unfolding separated
  separated_passes true = expect_passes v.reading k.Comma
  separated_passes false = pure_passes v.reading tt

  abbrev IsEntry : Word → Incoming → Type 0
  IsEntry bits x = AreBits bits → IsIncoming m f bits x

  incoming_keeps : (bits : Word) (i : Input) → Keeps v.reading.Fore (Same v.reading.Fore) v.reading.Back (incoming bits) (IsEntry bits) i
  unfolding incoming
  incoming_keeps bits i x o h fore =
      let r = v.reading in
      let t = h.3 in
      let u = t.3 in
      let w = u.3 in
      let z = w.3 in
      let a = expect_passes r k.OpenSquare i h.0 h.1 h.2 fore in
      let b = operand_keeps v bits h.1 t.0 t.1 t.2 a.0 in
      let c = expect_passes r k.Comma t.1 u.0 u.1 u.2 b.0 in
      let d = label_keeps v wants.Block u.1 w.0 w.1 w.2 c.0 in
      let e = expect_passes r k.CloseSquare w.1 z.0 z.1 z.2 d.0 in (
        subst r.Fore z.3.1 e.0,
        λ back.
            let eb = e.1 (subst r.Back (sym z.3.1) back) in
            let db = d.1 eb.0 in
            let cb = c.1 db.0 in
            let bb = b.1 cb.0 in
            let ab = a.1 bb.0 in
            (ab.0, subst (IsEntry bits) z.3.0 (λ fit. (bb.1 fit, db.1))),
      )

  entry_keeps : (e : Entries) (i : Input) → Keeps v.reading.Fore (Same v.reading.Fore) v.reading.Back (entry e) (IsEntry e.word) i
  unfolding entry
  entry_keeps e i x o h fore =
      let a = separated_passes e.is_further i h.0 h.1 h.2 fore in
      let b = incoming_keeps e.word h.1 x o h.3 a.0 in
      (b.0, λ back. let bb = b.1 back in ((a.1 bb.0).0, bb.1))

  some_entry : (bits : Word) (i : Input) (xs : List Incoming) (o : Input) → Follows ends_entries (λ c. (entry c).says) after_entry (record { word = bits; is_further = false }) i xs o → 0 < length xs
  some_entry bits i [] o h = absurd (let e = h.0 in cc)
  some_entry bits i (x ∷ xs) o h = omega arith

  entries_keep : (bits : Word) (i : Input)
      → Keeps v.reading.Fore (Same v.reading.Fore) v.reading.Back (all_entries bits) (λ xs. (0 < length xs) × (AreBits bits → AllByRecursion (IsIncoming m f bits) xs)) i
  unfolding all_entries
  entries_keep bits i xs o h fore =
      let r = v.reading in
      let x = each_with r.Back (λ _. r.Fore) (λ (c : Entries) xs. AreBits c.word → AllByRecursion (IsIncoming m f c.word) xs) ends_entries entry after_entry (λ c fit. tt)
      (λ c j a p said fore. let y = entry_keeps c j a p said fore in (y.0, λ b. let z = y.1 b in (z.0, λ xs rest fit. (z.1 fit, rest fit)))) (record { word = bits; is_further = false }) i xs o h fore in
      (x.0.1, λ b. let c = x.1 b in (c.0, (some_entry bits i xs o h, c.1)))

module _ {m : Module} {f : Function} {Back : Input → Type 0} {Fore : Progress → Input → Type 0} {Open : Progress → ℕ → Input → Type 0} (b : Builder m f Back Fore Open) where
  phi_value_by_keeps : (g : Progress) (x : Kind) (i : Input) → kind i.cursor ≡ x → Keeps (Fore g) (Open g) Back (phi_value_by x) Any i
  phi_value_by_keeps g k.LocalName i is = b.named g i is
  phi_value_by_keeps g k.LocalNumber i is = b.numbered g i is
  phi_value_by_keeps g _ i is = λ a o h f. absurd h

  phi_value_keeps : (g : Progress) (i : Input) → Keeps (Fore g) (Open g) Back phi_value Any i
  unfolding phi_value
  phi_value_keeps g i = phi_value_by_keeps g (kind i.cursor) i refl

  -- what follows the name of the value of a phi
  phi_after_keeps : (g : Progress) (n : ℕ) (i : Input) (x : Phi) (o : Input) → (phi_after n).says i x o → Open g n i
      → Fore (with_named_value g x.value) o × (Back o → Back i × IsPhi m f x)
  phi_after_keeps g n i x o h fore =
      let naming = naming_of b g n in
      let r = naming.within.reading in
      let t = h.3 in
      let u = t.3 in
      let w = u.3 in
      let y = w.3 in
      let z = y.3 in
      let a = expect_passes r k.Equals i h.0 h.1 h.2 fore in
      let c = expect_passes r k.Phi h.1 t.0 t.1 t.2 a.0 in
      let d = scalar_keeps r t.1 u.0 u.1 u.2 c.0 in
      let e = entries_keep naming.within (word_of u.0) u.1 w.0 w.1 w.2 d.0 in
      let s = sort_keeps naming (local.Value u.0.id) w.1 tt y.0 y.1 y.2 e.0 in
      let q = instruction_end_passes (within_of (b.kit (with_named_value g n))).reading trail.Other y.1 z.0 z.1 z.2 s.0 in (
        subst (λ (p : Phi). Fore (with_named_value g p.value) o) z.3.0 (subst (Fore (with_named_value g n)) z.3.1 q.0),
        λ back.
            let qb = q.1 (subst Back (sym z.3.1) back) in
            let sb = s.1 qb.0 in
            let eb = e.1 sb.0 in
            let db = d.1 eb.0 in
            let cb = c.1 db.0 in
            ((a.1 cb.0).0, subst (IsPhi m f) z.3.0 (phi_is m f n u.0 w.0 db.1 eb.1)),
      )

  phi_keeps : (g : Progress) (i : Input) → Keeps (Fore g) (λ x. Fore (with_named_value g x.value)) Back phi (IsPhi m f) i
  unfolding phi
  phi_keeps g i x o h fore =
      let a = phi_value_keeps g i h.0 h.1 h.2 fore in
      let c = phi_after_keeps g h.0 h.1 x o h.3 a.0 in
      (c.0, λ back. let cb = c.1 back in ((a.1 cb.0).0, cb.1))

  -- the phis of a block
  pub phis_keep : (g : Progress) (i : Input) → Keeps (Fore g) (λ xs. Fore (with_phis g xs)) Back phis (AllByRecursion (IsPhi m f)) i
  unfolding phis
  phis_keep g i xs o h fore = values_from Back Fore (λ (x : Phi). x.value) (IsPhi m f) at_no_phi phi phi_keeps g i xs o h fore
