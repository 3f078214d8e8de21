-- How blocks end, as it is read.
use Rattle.std.proofs.Common.{◌≡◌, ℕ, Bool, true, false, [], Option, sym, subst, ◌∙◌}
use Rattle.lemmas.specs.Bools.{not_true}
use Rattle.grammar.specs.Grammar.{pure, ◌>>◌}
use Rattle.ir_ast.specs.declared.function.Function.{Function}
use Rattle.ir_ast.specs.declared.module.Module.{Module}
use Rattle.ir_ast.specs.declared.ends.Case.{Case}
use Rattle.ir_ast.specs.declared.ends.End.{End}
use Rattle.ir_ast.specs.declared.ends.End.TheVariants as end
use Rattle.ir_tokens.specs.declared.token.Kind.{Kind}
use Rattle.ir_tokens.specs.declared.token.Kind.TheVariants as k
use Rattle.ir_forms.specs.Cursor.{kind, sees}
use Rattle.ir_forms.specs.declared.input.Input.{Input}
use Rattle.ir_forms.specs.declared.written.WrittenType.{WrittenType}
use Rattle.ir_forms.specs.Input.{Form, skip}
use Rattle.ir_print_law.specs.Parts.{IsTarget}
use Rattle.ir_print_law.specs.Printable.{IsEnd, AreCases}
use Rattle.ir_print_law.proofs.Forms.{Keeps, Same, each_with}
use Rattle.ir_print_law.proofs.Passes.{skip_passes, expect_passes}
use Rattle.ir_print_law.proofs.Reading.{Within}
use Rattle.ir_ast.specs.declared.operand.Constant.{Constant}
use Rattle.ir_forms.specs.Written.{has_opaque, word_of}
use Rattle.ir_forms.specs.Ends.{jump, branch, br, case_constant, case, at_square, after_case, all_cases, bracketed_cases, switch, returned_value, ret, terminator_by, terminator, block_end}
use Rattle.ir_forms.specs.CaseValues.{value_of, is_among}
use Rattle.ir_forms.specs.Decorations.{either}
use Rattle.ir_forms.specs.declared.decorating.Trail.TheVariants as trail
use Rattle.ir_forms.specs.declared.ends.Cases.{Cases}
use Rattle.ir_forms.specs.declared.written.Word.{Word}
use Rattle.ir_print_law.specs.Fits.{FitsType}
use Rattle.ir_print_law.specs.Definitions.{defined_structs}
use Rattle.ir_print_law.specs.Shapes.{word_of_shape}
use Rattle.ir_print_law.proofs.Arguments.{operand_at, bits_written, typed_keeps, condition_keeps}
use Rattle.ir_print_law.proofs.Decorations.{trailing_passes}
use Rattle.ir_print_law.proofs.Looks.{bits_are}
use Rattle.ir_print_law.proofs.Operands.{AreBits, operand_keeps, constant_keeps, target_keeps}
use Rattle.ir_print_law.proofs.Passes.{again_passes}
use Rattle.ir_print_law.proofs.TypesThat.{scalar_of, integer_scalar_keeps}

module _ {m : Module} {f : Function} (v : Within m f) where
  -- what this form reads is the end of a block
  abbrev Ends : Form End → Type 0
  Ends form = (i : Input) → Keeps v.reading.Fore (Same v.reading.Fore) v.reading.Back form (IsEnd m f) i

  jump_keeps : Ends jump
  jump_keeps i x o h fore =
      let r = v.reading in
      let a = target_keeps v i h.0 h.1 h.2 fore in
      (subst r.Fore h.3.1 a.0, λ back. let ab = a.1 (subst r.Back (sym h.3.1) back) in (ab.0, subst (IsEnd m f) h.3.0 ab.1))

  branch_keeps : Ends branch
  unfolding branch
  branch_keeps i x o h fore =
      let r = v.reading in
      let t = h.3 in
      let u = t.3 in
      let w = u.3 in
      let z = w.3 in
      let a = condition_keeps v i h.0 h.1 h.2 fore in
      let b = expect_passes r k.Comma h.1 t.0 t.1 t.2 a.0 in
      let c = target_keeps v t.1 u.0 u.1 u.2 b.0 in
      let d = expect_passes r k.Comma u.1 w.0 w.1 w.2 c.0 in
      let e = target_keeps v w.1 z.0 z.1 z.2 d.0 in (
        subst r.Fore z.3.1 e.0,
        λ back.
            let eb = e.1 (subst r.Back (sym z.3.1) back) in
            let db = d.1 eb.0 in
            let cb = c.1 db.0 in
            let bb = b.1 cb.0 in
            let ab = a.1 bb.0 in
            (ab.0, subst (IsEnd m f) z.3.0 (ab.1, cb.1, eb.1)),
      )

  br_keeps : Ends br
  unfolding br
  br_keeps i x o h fore =
      let a = skip_passes v.reading i h.0 h.1 h.2 fore in
      let b = by (sees k.Label h.1.cursor) h.1 x o h.3 a.0 in
      (b.0, λ back. let bb = b.1 back in ((a.1 bb.0).0, bb.1))
    where
      by : (t : Bool) → Ends (either jump branch t)
      by true = jump_keeps
      by false = branch_keeps

  -- ---- cases

  abbrev IsCase : Cases → Case → Type 0
  IsCase c x = AreBits (word_of c.written) → FitsType (word_of c.written) x.constant × (is_among (value_of x.constant) c.seen ≡ false) × IsTarget f x.target

  case_keeps : (c : Cases) (i : Input) → Keeps v.reading.Fore (Same v.reading.Fore) v.reading.Back (case c) (IsCase c) i
  unfolding case case_constant
  case_keeps c i x o h fore =
      let r = v.reading in
      let t = h.3 in
      let u = t.3 in
      let w = u.3 in
      let rule = t.2.3 in
      let same = rule.2.1 ∙ rule.3.1 in
      let a = again_passes r c.written i h.0 h.1 h.2 fore in
      let b = constant_keeps r (word_of c.written) h.1 t.2.0 t.2.1 t.2.2 a.0 in
      let d = expect_passes r k.Comma t.1 u.0 u.1 u.2 (subst r.Fore same b.0) in
      let e = target_keeps v u.1 w.0 w.1 w.2 d.0 in (
        subst r.Fore w.3.1 e.0,
        λ back.
            let eb = e.1 (subst r.Back (sym w.3.1) back) in
            let db = d.1 eb.0 in
            let bb = b.1 (subst r.Back (sym same) db.0) in
            let ab = a.1 bb.0 in
            let apart : is_among (value_of t.2.0) c.seen ≡ false = not_true (is_among (value_of t.2.0) c.seen) rule.2.0 in
            let good : AreBits (word_of c.written) → FitsType (word_of c.written) t.0 × (is_among (value_of t.0) c.seen ≡ false) × IsTarget f w.0 =
            λ fit. (subst (FitsType (word_of c.written)) rule.3.0 (bb.1 fit), subst (λ (y : Constant). is_among (value_of y) c.seen ≡ false) rule.3.0 apart, eb.1) in
            (ab.0, subst (IsCase c) w.3.0 good),
      )

  cases_keep : (w : WrittenType) (i : Input) → Keeps v.reading.Fore (Same v.reading.Fore) v.reading.Back (all_cases w) (λ xs. AreBits (word_of w) → AreCases f (word_of w) [] xs) i
  unfolding all_cases
  cases_keep w i xs o h fore =
      let r = v.reading in
      let x = each_with r.Back (λ _. r.Fore) (λ (c : Cases) xs. AreBits (word_of c.written) → AreCases f (word_of c.written) c.seen xs) at_square case after_case (λ c fit. tt)
      (λ c j a p said fore. let y = case_keeps c j a p said fore in (y.0, λ b. let z = y.1 b in (z.0, λ xs rest fit. let g = z.1 fit in (g.0, g.1, g.2, rest fit)))) (record { written = w; seen = [] }) i xs o h fore in
      (x.0.1, x.1)

  switch_keeps : Ends switch
  unfolding switch bracketed_cases
  switch_keeps i x o h fore =
      let r = v.reading in
      let t0 = h.3 in
      let t1 = t0.3 in
      let t2 = t1.3 in
      let t3 = t2.3 in
      let t4 = t3.3 in
      let s0 = t4.2 in
      let s1 = s0.3 in
      let s2 = s1.3 in
      let w = t0.0 in
      let a = skip_passes r i h.0 h.1 h.2 fore in
      let b = integer_scalar_keeps r h.1 t0.0 t0.1 t0.2 a.0 in
      let c = operand_keeps v (word_of w) t0.1 t1.0 t1.1 t1.2 b.0 in
      let d = expect_passes r k.Comma t1.1 t2.0 t2.1 t2.2 c.0 in
      let e = target_keeps v t2.1 t3.0 t3.1 t3.2 d.0 in
      let g = expect_passes r k.OpenSquare t3.1 s0.0 s0.1 s0.2 e.0 in
      let j = cases_keep w s0.1 s1.0 s1.1 s1.2 g.0 in
      let l = expect_passes r k.CloseSquare s1.1 s2.0 s2.1 s2.2 j.0 in
      let same = s2.3.1 ∙ t4.3.1 in (
        subst r.Fore same l.0,
        λ back.
            let lb = l.1 (subst r.Back (sym same) back) in
            let jb = j.1 lb.0 in
            let gb = g.1 jb.0 in
            let eb = e.1 gb.0 in
            let db = d.1 eb.0 in
            let cb = c.1 db.0 in
            let bb = b.1 cb.0 in
            let ab = a.1 bb.0 in
            let fits = bb.1.0 in
            let shape = fits.0.0 in
            let own = fits.0.1 in
            let bits = bits_are m 64 w shape own in
            let fit = subst AreBits (sym bits) (bits_written m.wide (has_opaque m.types) (defined_structs m) shape own.is_written) in
            let cases = subst (λ (q : Word). AreCases f q [] s1.0) bits (jb.1 fit) in
            let same_cases = subst (AreCases f (word_of_shape shape) []) s2.3.0 cases in
            (ab.0, subst (IsEnd m f) t4.3.0 (bb.1.1, (shape, scalar_of m w fits, operand_at v w fits t1.0 cb.1, eb.1, same_cases))),
      )

  -- ---- ret

  ret_keeps : Ends ret
  unfolding ret
  ret_keeps i x o h fore =
      let a = skip_passes v.reading i h.0 h.1 h.2 fore in
      let b = by (sees k.Void h.1.cursor) h.1 x o h.3 a.0 in
      (b.0, λ back. let bb = b.1 back in ((a.1 bb.0).0, bb.1))
    where
      by : (t : Bool) → Ends (either (skip >> pure end.ReturnVoid) returned_value t)
      by true i x o h fore =
          let r = v.reading in
          let a = skip_passes r i h.0 h.1 h.2 fore in
          (subst r.Fore h.3.1 a.0, λ back. let ab = a.1 (subst r.Back (sym h.3.1) back) in (ab.0, subst (IsEnd m f) h.3.0 tt))
      by false i x o h fore =
          let r = v.reading in
          let a = typed_keeps v i h.0 h.1 h.2 fore in
          (subst r.Fore h.3.1 a.0, λ back. let ab = a.1 (subst r.Back (sym h.3.1) back) in (ab.0, subst (IsEnd m f) h.3.0 ab.1))

  unreachable_keeps : Ends (skip >> pure end.Unreachable)
  unreachable_keeps i x o h fore =
      let r = v.reading in
      let a = skip_passes r i h.0 h.1 h.2 fore in
      (subst r.Fore h.3.1 a.0, λ back. let ab = a.1 (subst r.Back (sym h.3.1) back) in (ab.0, subst (IsEnd m f) h.3.0 tt))

  terminator_by_keeps : (x : Kind) → Ends (terminator_by x)
  terminator_by_keeps k.Ret = ret_keeps
  terminator_by_keeps k.Br = br_keeps
  terminator_by_keeps k.Switch = switch_keeps
  terminator_by_keeps k.Unreachable = unreachable_keeps
  terminator_by_keeps _ = λ i x o h f. absurd h

  terminator_keeps : Ends terminator
  unfolding terminator
  terminator_keeps i = terminator_by_keeps (kind i.cursor) i

  -- the end of a block, and the decorations after it
  pub block_end_keeps : Ends block_end
  unfolding block_end
  block_end_keeps i x o h fore =
      let r = v.reading in
      let t = h.3 in
      let a = terminator_keeps i h.0 h.1 h.2 fore in
      let b = trailing_passes r trail.Other h.1 t.0 t.1 t.2 a.0 in (
        subst r.Fore t.3.1 b.0,
        λ back.
            let bb = b.1 (subst r.Back (sym t.3.1) back) in
            let ab = a.1 bb.0 in
            (ab.0, subst (IsEnd m f) t.3.0 ab.1),
      )
