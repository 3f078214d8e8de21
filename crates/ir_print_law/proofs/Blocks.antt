-- Blocks and parameters of a function, as they are read.
use Rattle.std.proofs.Common.{◌≡◌, ℕ, ◌+◌, ◌<◌, ◌≤◌, true, List, [], ◌∷◌, ◌++◌, length, length-append, Option, None, Some, refl, sym, ap, subst, ◌∙◌, arith}
use Rattle.std.proofs.lemmas.Bool.Decides.{nat_tests}
use Rattle.std.specs.List.{AllByRecursion}
use Rattle.std.specs.Prelude.{nat_lt}
use Rattle.ir_ast.specs.declared.block.Block.{Block}
use Rattle.ir_ast.specs.declared.choices.Phi.{Phi}
use Rattle.ir_ast.specs.declared.function.Function.{Function}
use Rattle.ir_ast.specs.declared.function.LocalSort.TheVariants as local
use Rattle.ir_ast.specs.declared.function.Parameter.{Parameter}
use Rattle.ir_ast.specs.declared.instr.Instr.{Instr}
use Rattle.ir_ast.specs.declared.module.Module.{Module}
use Rattle.ir_tokens.specs.declared.token.Kind.{Kind}
use Rattle.ir_tokens.specs.declared.token.Kind.TheVariants as k
use Rattle.ir_forms.specs.Cursor.{kind}
use Rattle.ir_forms.specs.Lists.{at_round}
use Rattle.ir_forms.specs.ManyWith.{Follows}
use Rattle.ir_forms.specs.Written.{is_passed}
use Rattle.ir_forms.specs.declared.decorating.Spot.TheVariants as spot
use Rattle.ir_forms.specs.declared.input.Input.{Input}
use Rattle.ir_text.specs.Blocks.{label_by, block_label, block, further, at_close, after_block, blocks}
use Rattle.ir_text.specs.Parameters.{parameter_type_by, parameter_type, parameter_name_by, parameter_name, parameter, parameters}
use Rattle.ir_text.specs.declared.blocks.Blocks.{Blocks}
use Rattle.ir_print_law.specs.Printable.{IsBlock, IsParameter}
use Rattle.ir_print_law.proofs.Choices.{with_phis, phis_keep}
use Rattle.ir_print_law.proofs.Decorations.{decorations_pass, separator_passes}
use Rattle.ir_print_law.proofs.Records.{debug_records_pass}
use Rattle.ir_print_law.proofs.Ends.{block_end_keeps}
use Rattle.ir_print_law.proofs.Forms.{Keeps, Same, Any}
use Rattle.ir_print_law.proofs.Instructions.{with_result, with_results, body_keeps}
use Rattle.ir_print_law.proofs.Reading.{Progress, with_named_value, with_named_label, Builder, within_of, naming_of}
use Rattle.ir_print_law.proofs.TypesThat.{IsFit, passed_of, passed_keeps}
use Rattle.ir_print_law.proofs.ValueLists.{with_values, values_from, values_labels}
use Rattle.ir_print_law.proofs.ValueSorts.{sort_keeps}

-- what is defined after a block
abbrev pub with_block : Progress → Block → Progress
with_block g block = with_results (with_phis (with_named_label g block.label) block.phis) block.body

-- the same after several blocks
abbrev pub with_blocks : Progress → List Block → Progress
with_blocks g [] = g
with_blocks g (x ∷ xs) = with_blocks (with_block g x) xs

-- what is defined after these parameters
abbrev pub with_parameters : Progress → List Parameter → Progress
with_parameters = with_values (λ (x : Parameter). x.value)

results_labels : (g : Progress) (xs : List Instr) → (with_results g xs).labels ≡ g.labels
results_labels g [] = refl
results_labels g (x ∷ xs) = results_labels (with_result g x.result) xs ∙ by x.result where
  by : (r : Option ℕ) → (with_result g r).labels ≡ g.labels
  by None = refl
  by (Some n) = refl

-- a block defines one label
pub block_labels : (g : Progress) (x : Block) → (with_block g x).labels ≡ g.labels ++ x.label ∷ []
block_labels g x = results_labels (with_phis (with_named_label g x.label) x.phis) x.body ∙ values_labels (λ (y : Phi). y.value) (with_named_label g x.label) x.phis

module _ {m : Module} {f : Function} {Back : Input → Type 0} {Fore : Progress → Input → Type 0} {Open : Progress → ℕ → Input → Type 0} (b : Builder m f Back Fore Open) where
  label_by_keeps : (g : Progress) (x : Kind) (i : Input) → kind i.cursor ≡ x → Keeps (Fore g) (λ n. Fore (with_named_label g n)) Back (label_by (length g.labels) x) Any i
  label_by_keeps g k.LabelName i is = b.named_label g i is
  label_by_keeps g k.LabelNumber i is = b.numbered_label_is g i is
  label_by_keeps g _ i is = b.unnamed_label_is g i

  block_keeps : (g : Progress) (i : Input) → Keeps (Fore g) (λ x. Fore (with_block g x)) Back (block (length g.labels)) (λ x. IsBlock m f x × (length g.labels < 65535)) i
  unfolding block block_label
  block_keeps g i x o h fore =
      let label = h.2 in
      let rule = label.2 in
      let s = h.3 in
      let t = s.3 in
      let u = t.3 in
      let w = u.3 in
      let labelled = with_named_label g h.0 in
      let after_phis = with_phis labelled t.0 in
      let after_body = with_results after_phis u.0 in
      let a = label_by_keeps g (kind label.1.cursor) label.1 refl h.0 h.1 label.3 (subst (Fore g) rule.1 fore) in
      let records = debug_records_pass (within_of (b.kit labelled)).reading h.1 s.0 s.1 s.2 a.0 in
      let c = phis_keep b labelled s.1 t.0 t.1 t.2 records.0 in
      let d = body_keeps b (length g.labels) after_phis t.1 u.0 u.1 u.2 c.0 in
      let e = block_end_keeps (within_of (b.kit after_body)) u.1 w.0 w.1 w.2 d.0 in (
        subst (λ (y : Block). Fore (with_block g y) o) w.3.0 (subst (Fore after_body) w.3.1 e.0),
        λ back.
            let eb = e.1 (subst Back (sym w.3.1) back) in
            let db = d.1 eb.0 in
            let cb = c.1 db.0 in
            let ab = a.1 (records.1 cb.0).0 in
            let few : nat_lt (length g.labels) 65535 ≡ true = rule.0 in
            (subst Back (sym rule.1) ab.0, (subst (IsBlock m f) w.3.0 (cb.1, db.1, eb.1), grind (arith, nat_tests))),
      )

  -- ---- the blocks of a function

  one_label : (g : Progress) (x : Block) → length (with_block g x).labels ≡ length g.labels + 1
  one_label g x = ap length (block_labels g x) ∙ length-append g.labels (x.label ∷ [])

  blocks_from : (c : Blocks) (g : Progress) (i : Input) (xs : List Block) (o : Input) → c.count ≡ length g.labels → Follows at_close (λ c. (further c).says) after_block c i xs o → Fore g i
      → Fore (with_blocks g xs) o × (Back o → Back i × AllByRecursion (IsBlock m f) xs × (c.count ≤ 65535 → c.count + length xs ≤ 65535))
  blocks_from c g i [] o e h fore = (subst (Fore g) h.1 fore, λ back. (subst Back (sym h.1) back, tt, λ le. omega (arith, le)))
  blocks_from c g i (x ∷ xs) o e h fore =
      let said : (block (length g.labels)).says i x h.1 = subst (λ (n : ℕ). (block n).says i x h.1) e h.2 in
      let a = block_keeps g i x h.1 said fore in
      let more = one_label g x in
      let count : c.count + 1 ≡ length (with_block g x).labels = omega (arith, e, more) in
      let d = blocks_from (after_block c x) (with_block g x) h.1 xs o count h.3 a.0 in (
        d.0,
        λ back.
            let db = d.1 back in
            let ab = a.1 db.0 in
            let few = ab.1.1 in
            let within : c.count + 1 ≤ 65535 = omega (arith, few, e) in
            let rest = db.2 within in
            (ab.0, (ab.1.0, db.1), λ le. omega (arith, rest)),
      )

  some_block : (i : Input) (xs : List Block) (o : Input) → Follows at_close (λ c. (further c).says) after_block (record { count = 0 }) i xs o → 0 < length xs
  some_block i [] o h = absurd (let e = h.0 in cc)
  some_block i (x ∷ xs) o h = omega arith

  -- the blocks of a function that has none so far
  pub blocks_keep : (g : Progress) (i : Input) → g.labels ≡ []
      → Keeps (Fore g) (λ xs. Fore (with_blocks g xs)) Back blocks (λ xs. (0 < length xs) × (length xs ≤ 65535) × AllByRecursion (IsBlock m f) xs) i
  unfolding blocks
  blocks_keep g i none xs o h fore =
      let a = blocks_from (record { count = 0 }) g i xs o (sym (ap length none)) h fore in (
        a.0,
        λ back.
            let ab = a.1 back in
            let few = ab.2 (omega arith) in
            (ab.0, (some_block i xs o h, omega (arith, few), ab.1)),
      )

  -- ---- parameters

  parameter_type_keeps : (g : Progress) (x : Kind) (i : Input) → Keeps (Fore g) (Same (Fore g)) Back (parameter_type_by x) (IsFit m is_passed) i
  parameter_type_keeps g k.Void = λ i a o h f. absurd h
  parameter_type_keeps g _ = passed_keeps (within_of (b.kit g)).reading

  name_by_keeps : (g : Progress) (x : Kind) (i : Input) → kind i.cursor ≡ x → Keeps (Fore g) (Open g) Back (parameter_name_by x) Any i
  name_by_keeps g k.LocalName i is = b.named g i is
  name_by_keeps g k.LocalNumber i is = b.numbered g i is
  name_by_keeps g k.Comma i is = b.unnamed g i
  name_by_keeps g k.CloseRound i is = b.unnamed g i
  name_by_keeps g _ i is = λ a o h f. absurd h

  parameter_keeps : (g : Progress) (i : Input) → Keeps (Fore g) (λ x. Fore (with_named_value g x.value)) Back parameter (IsParameter m) i
  unfolding parameter parameter_type parameter_name
  parameter_keeps g i x o h fore =
      let t = h.3 in
      let u = t.3 in
      let w = u.3 in
      let z = w.3 in
      let r = (within_of (b.kit g)).reading in
      let a = parameter_type_keeps g (kind i.cursor) i h.0 h.1 h.2 fore in
      let c = decorations_pass r spot.Parameter h.1 t.0 t.1 t.2 a.0 in
      let d = name_by_keeps g (kind t.1.cursor) t.1 refl u.0 u.1 u.2 c.0 in
      let e = sort_keeps (naming_of b g u.0) (local.Value h.0.id) u.1 tt w.0 w.1 w.2 d.0 in
      let s = separator_passes (within_of (b.kit (with_named_value g u.0))).reading k.CloseRound w.1 z.0 z.1 z.2 e.0 in (
        subst (λ (y : Parameter). Fore (with_named_value g y.value) o) z.3.0 (subst (Fore (with_named_value g u.0)) z.3.1 s.0),
        λ back.
            let sb = s.1 (subst Back (sym z.3.1) back) in
            let eb = e.1 sb.0 in
            let db = d.1 eb.0 in
            let cb = c.1 db.0 in
            let ab = a.1 cb.0 in
            (ab.0, subst (IsParameter m) z.3.0 (passed_of m h.0 ab.1)),
      )

  pub parameters_keep : (g : Progress) (i : Input) → Keeps (Fore g) (λ xs. Fore (with_parameters g xs)) Back parameters (AllByRecursion (IsParameter m)) i
  unfolding parameters
  parameters_keep g i xs o h fore = values_from Back Fore (λ (x : Parameter). x.value) (IsParameter m) at_round parameter parameter_keeps g i xs o h fore
