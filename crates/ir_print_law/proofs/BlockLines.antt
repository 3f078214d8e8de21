-- The blocks of a function are read as these blocks again.
use Rattle.std.proofs.Common.{◌≡◌, ℕ, suc, ◌+◌, ◌<◌, ◌≤◌, List, [], ◌∷◌, ◌++◌, length, map, refl, sym, subst, ◌∙◌, ap, arith, append_assoc, length-append}
use Rattle.std.specs.Prelude.{codes}
use Rattle.std.specs.List.{AllByRecursion, flat_map}
use Rattle.std.proofs.lemmas.List.{append-nil}
use Rattle.lemmas.specs.All.{all_first, all_second}
use Rattle.ir_ast.specs.declared.block.Block.{Block}
use Rattle.ir_ast.specs.declared.choices.Phi.{Phi}
use Rattle.ir_ast.specs.declared.function.Function.{Function}
use Rattle.ir_ast.specs.declared.instr.Instr.{Instr}
use Rattle.ir_ast.specs.declared.module.Module.{Module}
use Rattle.ir_tokens.specs.Bytes.{Text}
use Rattle.ir_forms.specs.declared.input.Input.{Input}
use Rattle.ir_forms.specs.Choices.{phis}
use Rattle.ir_forms.specs.Instructions.{body}
use Rattle.ir_forms.specs.Sites.{first_of}
use Rattle.ir_text.specs.Blocks.{block}
use Rattle.ir_print.specs.Blocks.{block_text}
use Rattle.ir_print.specs.Choices.{phi_line}
use Rattle.ir_print.specs.Ends.{end_line}
use Rattle.ir_print.specs.Instructions.{instruction_line}
use Rattle.ir_print.specs.Names.{name_at, key_text}
use Rattle.ir_print_law.specs.Readings.{IsKey}
use Rattle.ir_print_law.specs.Definitions.{phi_key, result_keys, value_keys_of, block_keys}
use Rattle.ir_print_law.specs.Printable.{IsBlock}
use Rattle.ir_print_law.specs.Again.{IsBlockAgain}
use Rattle.ir_print_law.proofs.Tables.{stays}
use Rattle.ir_print_law.proofs.State.{Ready}
use Rattle.ir_print_law.proofs.Bodies.{body_text, lines_go, next_ends, next_no_phi, end_line_is}
use Rattle.ir_print_law.proofs.WholeForms.{widens_further, grows_widens, Leads, later_widened}
use Rattle.ir_print_law.proofs.Known.{Far, AreNamed, known}
use Rattle.ir_print_law.proofs.InnerLines.{record_free}
use Rattle.ir_print_law.proofs.ListsAgain.{records_said}
use Rattle.ir_print_law.proofs.LabelLines.{far_label, label_goes}
use Rattle.ir_print_law.proofs.NewValues.{unnamed_then}
use Rattle.ir_print_law.proofs.OpNeeds.{EndsOp, OpsRead}
use Rattle.ir_print_law.proofs.Parts.{IsLaterAgain}
use Rattle.ir_print_law.proofs.PhiLines.{phi_lines, phis_end, phis_go}
use Rattle.ir_print_law.proofs.Steady.{Steady, Onward, onward_further, next_key, steady_label}

-- the lines after the label of a block, and what follows them
abbrev pub block_lines : Module → (locals : List Text) → Block → (rest : Text) → Text
block_lines m locals b rest = flat_map (phi_line m locals) b.phis ++ (flat_map (instruction_line m locals) b.body ++ (end_line m locals b.end ++ rest))

-- the text of a block, and what follows it
pub block_is : (m : Module) (locals : List Text) (b : Block) (rest : Text) → block_text m locals b ++ rest ≡ key_text (name_at locals b.label) ++ 58 ∷ 10 ∷ block_lines m locals b rest
block_is m locals b rest = parts (key_text (name_at locals b.label)) (flat_map (phi_line m locals) b.phis) (flat_map (instruction_line m locals) b.body) (end_line m locals b.end) where
  parts : (a b c d : Text) → (a ++ codes ":\n" ++ b ++ c ++ d) ++ rest ≡ a ++ 58 ∷ 10 ∷ (b ++ (c ++ (d ++ rest)))
  parts a b c d = simp append_assoc

-- each phi has a value
keys_long : (locals : List Text) (xs : List Phi) → length (map (phi_key locals) xs) ≡ length xs
keys_long locals [] = refl
keys_long locals (x ∷ xs) = ap suc (keys_long locals xs)

module _ (m : Module) (f : Function) (named : AreNamed m f) (ops : OpsRead m f named) where
  -- the block is this one again, and reading has gone on after it
  abbrev pub IsBlockRead : Far → (more : List Text) → Block → Block → Far → Input → Type 0
  IsBlockRead far more x y now o = Onward far now (value_keys_of f.locals x) (name_at f.locals x.label ∷ []) more × IsLaterAgain (λ n others. IsBlockAgain m n f.locals others) x y o

  lines_long : (xs : List Instr) → length xs ≤ length (flat_map (instruction_line m f.locals) xs)
  lines_long [] = omega arith
  lines_long (x ∷ xs) = let a = length-append (instruction_line m f.locals x) (flat_map (instruction_line m f.locals) xs) in let b = lines_long xs in omega (arith, a, b)

  -- the block's label and its values are keys
  abbrev pub HasKeys : Block → Type 0
  HasKeys b = IsKey (name_at f.locals b.label) × AllByRecursion IsKey (value_keys_of f.locals b)

  pub block_goes : (b : Block) (more : List Text) (far : Far) (i : Input) (rest : Text) → IsBlock m f b → AllByRecursion IsKey (value_keys_of f.locals b) → Steady far (block_keys f.locals b ++ more)
      → length far.values + length (value_keys_of f.locals b) ≤ 1000000 → length far.labels < 65535 → EndsOp (10 ∷ rest)
      → Ready (known m f named far) 0 i (10 ∷ (block_text m f.locals b ++ rest))
      → Leads m f named 0 (block (length far.labels)) i (10 ∷ rest) (IsBlockRead far more b)
  unfolding block phis body
  block_goes b more far i rest own keys steady room few_labels ends_op ready =
      let key = name_at f.locals b.label in
      let phi_keys = map (phi_key f.locals) b.phis in
      let values = flat_map (result_keys f.locals) b.body in
      let here = subst (λ (t : Text). Ready (known m f named far) 0 i (10 ∷ t)) (block_is m f.locals b rest) ready in
      let next = next_key far.seen far.unnamed key (value_keys_of f.locals b ++ more) steady.defines_next in
      let counted = steady.counted in
      let unnamed = steady.few_unnamed in
      let numbers : far.unnamed < 4294967295 = omega (arith, room, counted, unnamed, few_labels) in
      let w = label_goes m f named far key next.1.0 i (10 ∷ (phi_lines m f named ops b.phis ++ body_text m f named ops b.body b.end rest)) next.0 (λ value. next.0 (steady.values_seen key value)) steady.none_waits numbers few_labels here in
      let p = w.1 in
      let mid = far_label m f named far key (unnamed_then far.unnamed key next.1.0) in
      let steady_mid = steady_label far key (value_keys_of f.locals b ++ more) next.1.0 steady next.1.1 in
      let label_count = length-append far.labels (key ∷ []) in
      let size = length-append (map (phi_key f.locals) b.phis) (flat_map (result_keys f.locals) b.body) in
      let phi_count = keys_long f.locals b.phis in
      let front = all_first IsKey (map (phi_key f.locals) b.phis) (flat_map (result_keys f.locals) b.body) keys in
      let back = all_second IsKey (map (phi_key f.locals) b.phis) (flat_map (result_keys f.locals) b.body) keys in
      let a = phis_go m f named ops b.phis (flat_map (result_keys f.locals) b.body ++ more) (far_label m f named far key (unnamed_then far.unnamed key next.1.0)) p (body_text m f named ops b.body b.end rest) own.0 front
      (subst (λ (l : List Text). Steady (far_label m f named far key (unnamed_then far.unnamed key next.1.0)) l) (append_assoc (map (phi_key f.locals) b.phis) (flat_map (result_keys f.locals) b.body) more) steady_mid)
      (omega (arith, room, size, phi_count)) (omega (arith, label_count, few_labels)) (next_ends m f named ops b.body b.end rest own.1 back) (next_no_phi m f named ops b.body b.end rest own.1 back) w.3 in
      let none = record_free (10 ∷ (phi_lines m f named ops b.phis ++ body_text m f named ops b.body b.end rest)) p
      (phis_end m f named ops b.phis (body_text m f named ops b.body b.end rest) front (next_ends m f named ops b.body b.end rest own.1 back)) w.3.stands in
      let q = a.1 in
      let after = a.2 in
      let on_phis = a.6 in
      let value_count : length a.2.values ≡ length far.values + length b.phis = ap length on_phis.values_are ∙ length-append far.values (map (phi_key f.locals) b.phis) ∙ ap (λ (n : ℕ). length far.values + n) phi_count in
      let labels_same : length a.2.labels ≡ length far.labels + 1 = ap length on_phis.labels_are ∙ ap length (append-nil (far.labels ++ key ∷ [])) ∙ label_count in
      let body_size = lines_long b.body in
      let lines_size = length-append (flat_map (instruction_line m f.locals) b.body) (end_line m f.locals b.end ++ rest) in
      let bytes = a.4.room.types in
      let c = lines_go m f named ops b.body more a.2 (first_of (length far.labels)) q b.end rest own.1 back on_phis.steady (omega (arith, room, size, value_count)) (omega (arith, labels_same, few_labels))
      (omega (arith, bytes, body_size, lines_size)) a.4 in
      let r = c.1 in
      let last_here = subst (λ (t : Text). Ready (known m f named c.2) 0 r (10 ∷ t)) (end_line_is m f.locals b.end rest) c.4 in
      let t = ops.end_read b.end c.2 r (10 ∷ 32 ∷ 32 ∷ []) (10 ∷ rest) own.2 refl ends_op last_here in
      let o = t.1 in
      let wide_r = grows_widens r o t.4 in
      let wide_q = widens_further q r o c.5 wide_r in
      let wide_p = widens_further p q o a.5 wide_q in
      let on : Onward far mid [] (key ∷ []) (phi_keys ++ (values ++ more)) =
      record { values_are = sym (append-nil far.values); labels_are = refl; steady = subst (λ (l : List Text). Steady mid l) (append_assoc phi_keys values more) steady_mid; same_outside = refl } in
      let on_body = onward_further mid after c.2 phi_keys [] values [] (values ++ more) more on_phis c.6 in
      let all = onward_further far mid c.2 [] (key ∷ []) (phi_keys ++ values) [] (phi_keys ++ (values ++ more)) more on on_body in (
        record { label = w.0; phis = a.0; body = c.0; end = t.0 },
        t.1,
        c.2,
        (w.0, p, w.2, (tt, p, records_said p none, (a.0, q, a.3, (c.0, r, c.3, (t.0, o, t.2, (refl, refl)))))),
        t.3,
        widens_further i p o w.4 wide_p,
        (
          all,
          λ n others later. (
            stays o.locals.names others w.0 key later.locals (stays p.locals.names o.locals.names w.0 key wide_p.locals w.5),
            a.7 n others (later_widened q o n others wide_q later),
            c.7 n others (later_widened r o n others wide_r later),
            t.5 n others later,
          ),
        ),
      )
