-- Operations on memory, as they are read.
use Rattle.std.proofs.Common.{◌≡◌, ℕ, Bool, true, false, None, refl, sym, ap, ◌∙◌, subst}
use Rattle.std.specs.Prelude.{◌&&◌, if◌then◌else◌}
use Rattle.lemmas.specs.Bools.{and_parts}
use Rattle.grammar.specs.Grammar.{look}
use Rattle.ir_ast.specs.declared.argument.Argument.{Argument}
use Rattle.ir_ast.specs.declared.function.Function.{Function}
use Rattle.ir_ast.specs.declared.function.LocalSort.TheVariants as local
use Rattle.ir_ast.specs.declared.memory.MemoryOp.{MemoryOp}
use Rattle.ir_ast.specs.declared.memory.MemoryOp.TheVariants as memory
use Rattle.ir_ast.specs.declared.module.Module.{Module}
use Rattle.ir_ast.specs.declared.op.Op.TheVariants as op
use Rattle.ir_tokens.specs.declared.token.Kind.TheVariants as k
use Rattle.ir_forms.specs.declared.input.Input.{Input}
use Rattle.ir_forms.specs.Cursor.{sees, same_kind, kind_after}
use Rattle.ir_forms.specs.declared.written.FloatType.TheVariants as size
use Rattle.ir_forms.specs.declared.written.Word.TheVariants as sort
use Rattle.ir_forms.specs.declared.written.WrittenType.{WrittenType}
use Rattle.ir_forms.specs.Memory.{held_by, counts, is_integer_word, count_type, counted_by, count, single, local_by, local_of, alloca, load, stored_afterwards, store}
use Rattle.ir_forms.specs.Written.{is_scalar, word_of}
use Rattle.ir_print_law.specs.Memory.{IsMemoryOp}
use Rattle.ir_print_law.specs.Printable.{gives_value}
use Rattle.ir_print_law.specs.Parts.{IsScalar, IsOperand}
use Rattle.ir_print_law.specs.Shapes.{Shape, Integer, Float, Pointer, Array, Empty, Struct, Named, Opaque, word_of_shape}
use Rattle.ir_print_law.proofs.Arguments.{operand_at, place_keeps}
use Rattle.ir_print_law.proofs.Decorations.{optional_passes}
use Rattle.ir_print_law.proofs.Forms.{Keeps, Same}
use Rattle.ir_print_law.proofs.Operands.{operand_keeps}
use Rattle.ir_print_law.proofs.Looks.{IsShaped, bits_are, scalar_is}
use Rattle.ir_print_law.proofs.Passes.{skip_passes, expect_passes}
use Rattle.ir_print_law.proofs.Reading.{Reading, Within, Naming}
use Rattle.ir_print_law.proofs.Tokens.{Has, having, having_within}
use Rattle.ir_print_law.proofs.TypesThat.{IsFit, type_of, scalar_of, any_type_there, scalar_keeps, scalar_there}
use Rattle.ir_print_law.proofs.ValueSorts.{Gives, ends, ends_as}

-- an operation that gives a value, or none
abbrev pub IsGivingMemory : Module → Function → (gives : Bool) → MemoryOp → Type 0
IsGivingMemory m f gives x = IsMemoryOp m f x × (gives_value m (op.Memory x) ≡ gives)

-- what is not false is true
is_so : (b : Bool) → (b ≡ false → ⊥) → b ≡ true
is_so true h = refl
is_so false h = absurd (h refl)

-- ---- the count of a buffer's elements

-- a shape whose word is an integer is one of integers
integer_shape : (shape : Shape) → is_integer_word (word_of_shape shape) ≡ true → (bits : ℕ) × (shape ≡ Integer bits)
integer_shape (Integer bits) e = (bits, refl)
integer_shape (Float size.Single) e = absurd cc
integer_shape (Float size.Double) e = absurd cc
integer_shape (Pointer part) e = absurd cc
integer_shape (Array count part) e = absurd cc
integer_shape Empty e = absurd cc
integer_shape (Struct first rest) e = absurd cc
integer_shape (Named name) e = absurd cc
integer_shape Opaque e = absurd cc

-- a number of a type of integers
abbrev IsNumberCount : Module → Function → Argument → Type 0
IsNumberCount m f x = (bits : ℕ) × IsScalar m (Integer bits) x.written × IsOperand m f (sort.Integer bits) x.operand

module _ {m : Module} (r : Reading m) where
  count_type_keeps : (i : Input) → Keeps r.Fore (Same r.Fore) r.Back count_type (λ w. (fit : IsFit m is_scalar w) × (is_integer_word (word_of_shape fit.0.0) ≡ true)) i
  unfolding count_type
  count_type_keeps i w o h f =
      let x = scalar_keeps r i h.0 h.1 h.2 f in
      let t = h.3 in
      let same = t.2.1 ∙ t.3.1 in (
        subst r.Fore same x.0,
        λ b.
            let c = x.1 (subst r.Back (sym same) b) in
            let is = ap is_integer_word (sym (bits_are m 64 h.0 c.1.0.0 c.1.0.1)) ∙ t.2.0 in
            (c.0, subst (λ (y : WrittenType). (fit : IsFit m is_scalar y) × (is_integer_word (word_of_shape fit.0.0) ≡ true)) t.3.0 (c.1, is)),
      )

  -- the type of an alloca
  held_there : (i : Input) → Keeps r.Fore (λ w. Has r.Fore w.id) r.Back (look (λ j. j.wide) held_by) (λ w. IsShaped m 64 w × (i.wide ≡ false → is_scalar w ≡ true)) i
  held_there i = by i.wide refl where
    by : (b : Bool) → i.wide ≡ b → Keeps r.Fore (λ w. Has r.Fore w.id) r.Back (held_by b) (λ w. IsShaped m 64 w × (i.wide ≡ false → is_scalar w ≡ true)) i
    by true e = λ w o h f. let x = any_type_there r i w o h f in (x.0, λ b. let c = x.1 b in (c.0, (c.1, λ no. let y = sym e ∙ no in absurd cc)))
    by false e = λ w o h f. let x = scalar_there r i w o h f in (x.0, λ b. let c = x.1 b in (c.0, (c.1.0, λ no. c.1.1)))

module _ {m : Module} {f : Function} (v : Within m f) where
  count_keeps : (i : Input) → Keeps v.reading.Fore (Same v.reading.Fore) v.reading.Back count (IsNumberCount m f) i
  unfolding count counted_by
  count_keeps i x o h fore =
      let r = v.reading in
      let t = h.3 in
      let u = t.3 in
      let a = expect_passes r k.Comma i h.0 h.1 h.2 fore in
      let b = count_type_keeps r h.1 t.0 t.1 t.2 a.0 in
      let c = operand_keeps v (word_of t.0) t.1 u.0 u.1 u.2 b.0 in (
        subst r.Fore u.3.1 c.0,
        λ back.
            let cb = c.1 (subst r.Back (sym u.3.1) back) in
            let bb = b.1 cb.0 in
            let fit = bb.1.0 in
            let is = integer_shape fit.0.0 bb.1.1 in (
              (a.1 bb.0).0,
              subst (IsNumberCount m f) u.3.0
                  (is.0, subst (λ (shape : Shape). IsScalar m shape t.0.id) is.1 (scalar_of m t.0 fit), subst (λ (shape : Shape). IsOperand m f (word_of_shape shape) u.0) is.1 (operand_at v t.0 fit u.0 cb.1)),
            ),
      )

-- ---- what an alloca makes

-- of a type that is read so it is an operation that gives a value
abbrev Makes : Module → Function → WrittenType → MemoryOp → Type 0
Makes m f held x = IsShaped m 64 held → (m.wide ≡ false → is_scalar held ≡ true) → IsGivingMemory m f true x

single_makes : (m : Module) (f : Function) (held : WrittenType) → Makes m f held (single held)
single_makes m f held = pick (is_scalar held) refl where
  pick : (b : Bool) → is_scalar held ≡ b → Makes m f held (if b then memory.Alloca held.id else memory.Buffer held.id None)
  pick true is = λ shaped wide. ((shaped.0, scalar_of m held (shaped, is)), refl)
  pick false is = λ shaped wide.
      ((is_so m.wide (λ no. let y = sym is ∙ wide no in absurd cc), (shaped.0, type_of m held shaped.0 shaped.1, sym (scalar_is m 64 held shaped.0 shaped.1) ∙ is)), refl)

module _ {m : Module} {f : Function} (v : Within m f) where
  local_keeps : (held : WrittenType) (i : Input) → Keeps (Has v.reading.Fore held.id) (λ _. Has v.reading.Fore held.id) v.reading.Back (local_of held) (Makes m f held) i
  unfolding counts
  local_keeps held i = by (counts i) refl where
    r : Reading m
    r = v.reading

    by : (b : Bool) → counts i ≡ b → Keeps (Has v.reading.Fore held.id) (λ _. Has v.reading.Fore held.id) v.reading.Back (local_by held b) (Makes m f held) i
    by false e = λ x o h fore. (subst (Has v.reading.Fore held.id) h.1 fore, λ back. (subst v.reading.Back (sym h.1) back, subst (Makes m f held) h.0 (single_makes m f held)))
    by true e = λ x o h fore.
        let c = count_keeps (having_within v held.id) i h.0 h.1 h.2 fore in (
          subst (Has v.reading.Fore held.id) h.3.1 c.0,
          λ back.
              let cb = c.1 (subst v.reading.Back (sym h.3.1) back) in
              let wide = sym (v.reading.forms i cb.0) ∙ (and_parts i.wide (sees k.Comma i.cursor && same_kind (kind_after i.cursor) k.IntegerType) e).0 in
              (cb.0, subst (Makes m f held) h.3.0 (λ shaped no. ((wide, (shaped.0, type_of m held shaped.0 shaped.1, cb.1)), refl))),
        )

module _ {m : Module} {f : Function} {value : ℕ} (n : Naming m f value) where
  pub alloca_keeps : Gives n (alloca value) (IsGivingMemory m f true)
  unfolding alloca
  alloca_keeps i x o h fore =
      let r = n.within.reading in
      let t = h.3 in
      let u = t.3 in
      let a = skip_passes r i h.0 h.1 h.2 fore in
      let b = held_there r h.1 t.0 t.1 t.2 a.0 in
      let l = local_keeps n.within t.0 t.1 u.0 u.1 u.2 b.0 in
      let c = ends_as n (local.Slot t.0.id) u.0 u.1 l.0.1 x o u.3 l.0.0 in (
        c.0,
        λ back.
            let cb = c.1 back in
            let lb = l.1 cb.0 in
            let bb = b.1 lb.0 in
            ((a.1 bb.0).0, subst (IsGivingMemory m f true) cb.1 (lb.1 bb.1.0 (λ no. bb.1.1 (r.forms h.1 bb.0 ∙ no)))),
      )

  pub load_keeps : Gives n (load value) (IsGivingMemory m f true)
  unfolding load
  load_keeps i x o h fore =
      let r = n.within.reading in
      let t = h.3 in
      let u = t.3 in
      let w = u.3 in
      let z = w.3 in
      let a = skip_passes r i h.0 h.1 h.2 fore in
      let b = optional_passes r k.Volatile h.1 t.0 t.1 t.2 a.0 in
      let c = scalar_there r t.1 u.0 u.1 u.2 b.0 in
      let d = expect_passes (having r u.0.id) k.Comma u.1 w.0 w.1 w.2 c.0 in
      let e = place_keeps n.within u.0 w.1 d.0.1 z.0 z.1 z.2 d.0.0 in
      let g = ends n (local.Value u.0.id) tt (memory.Load u.0.id z.0.written z.0.operand) z.1 x o z.3 e.0 in (
        g.0,
        λ back.
            let gb = g.1 back in
            let eb = e.1 gb.0 in
            let db = d.1 eb.0 in
            let cb = c.1 db.0 in
            let bb = b.1 cb.0 in
            ((a.1 bb.0).0, subst (IsGivingMemory m f true) gb.1 ((cb.1.0.0, scalar_of m u.0 cb.1, eb.1.0 cb.1.0.0 cb.1.0.1, eb.1.1), refl)),
      )

module _ {m : Module} {f : Function} (v : Within m f) where
  stored_keeps : (i : Input) → Keeps v.reading.Fore (Same v.reading.Fore) v.reading.Back stored_afterwards (IsGivingMemory m f false) i
  stored_keeps i x o h fore =
      let r = v.reading in
      let t = h.3 in
      let u = t.3 in
      let w = u.3 in
      let z = w.3 in
      let a = scalar_there r i h.0 h.1 h.2 fore in
      let b = operand_keeps (having_within v h.0.id) (word_of h.0) h.1 t.0 t.1 t.2 a.0 in
      let c = expect_passes (having r h.0.id) k.Comma t.1 u.0 u.1 u.2 b.0 in
      let d = place_keeps v h.0 u.1 c.0.1 w.0 w.1 w.2 c.0.0 in (
        subst r.Fore z.1 d.0,
        λ back.
            let db = d.1 (subst r.Back (sym z.1) back) in
            let cb = c.1 db.0 in
            let bb = b.1 cb.0 in
            let ab = a.1 bb.0 in
            (ab.0, subst (IsGivingMemory m f false) z.0 ((ab.1.0.0, scalar_of m h.0 ab.1, operand_at v h.0 ab.1 t.0 bb.1, db.1.0 ab.1.0.0 ab.1.0.1, db.1.1), refl)),
      )

  pub store_keeps : (i : Input) → Keeps v.reading.Fore (Same v.reading.Fore) v.reading.Back store (IsGivingMemory m f false) i
  unfolding store
  store_keeps i x o h fore =
      let r = v.reading in
      let t = h.3 in
      let a = skip_passes r i h.0 h.1 h.2 fore in
      let b = optional_passes r k.Volatile h.1 t.0 t.1 t.2 a.0 in
      let c = stored_keeps t.1 x o t.3 b.0 in
      (c.0, λ back. let cb = c.1 back in let bb = b.1 cb.0 in ((a.1 bb.0).0, cb.1))
