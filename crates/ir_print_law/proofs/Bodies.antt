-- The instructions of the body of a block.
use Rattle.std.proofs.Common.{◌≡◌, ℕ, ◌+◌, ◌<◌, ◌≤◌, true, false, List, [], ◌∷◌, ◌++◌, length, Option, None, Some, refl, sym, ap, subst, ◌∙◌, arith, append_assoc, length-append, inl, inr, ◌⊎◌}
use Rattle.std.specs.Prelude.{codes}
use Rattle.std.specs.List.{AllByRecursion, flat_map}
use Rattle.std.proofs.lemmas.List.{append-nil}
use Rattle.lemmas.specs.All.{all_first, all_second}
use Rattle.ir_ast.specs.declared.ends.End.{End}
use Rattle.ir_ast.specs.declared.function.Function.{Function}
use Rattle.ir_ast.specs.declared.instr.Instr.{Instr}
use Rattle.ir_ast.specs.declared.module.Module.{Module}
use Rattle.ir_ast.specs.declared.op.Op.{Op}
use Rattle.ir_tokens.specs.declared.token.Kind.{Kind}
use Rattle.ir_tokens.specs.declared.token.Kind.TheVariants as k
use Rattle.ir_tokens.specs.Bytes.{Text, class_of}
use Rattle.ir_forms.specs.Cursor.{kind, kind_after, kind_third, next}
use Rattle.ir_forms.specs.declared.input.Input.{Input}
use Rattle.ir_forms.specs.declared.site.Site.{Site}
use Rattle.ir_forms.specs.Choices.{is_local, begins_phi}
use Rattle.ir_forms.specs.Ends as ends
use Rattle.ir_forms.specs.Instructions.{placed, at_terminator}
use Rattle.ir_forms.specs.ManyWith.{Follows}
use Rattle.ir_forms.specs.Records.{drops_at}
use Rattle.ir_forms.specs.Sites.{afterwards}
use Rattle.ir_print.specs.Instructions.{op_text, instruction_line}
use Rattle.ir_print.specs.Ends.{end_text, end_line}
use Rattle.ir_print.specs.Names.{name_at}
use Rattle.ir_print_law.specs.Readings.{IsKey}
use Rattle.ir_print_law.specs.Stands.{Stands}
use Rattle.ir_print_law.specs.Definitions.{result_keys}
use Rattle.ir_print_law.specs.Printable.{IsInstr}
use Rattle.ir_print_law.specs.PartsAgain.{AreAlike}
use Rattle.ir_print_law.specs.Again.{IsInstrAgain}
use Rattle.ir_print_law.proofs.State.{Ready}
use Rattle.ir_print_law.proofs.Begins.{plain_kind, plain_undropped, end_kind, value_word, ends_begins, ends_no_call}
use Rattle.ir_print_law.proofs.OpsAgain.{plain}
use Rattle.ir_print_law.proofs.Parts.{IsLaterAgain}
use Rattle.ir_print_law.proofs.PhiLines.{BeginsNoPhi, local_no_call, local_passed, other_word, no_local, seam_line}
use Rattle.ir_print_law.proofs.Undropped.{no_call_comes}
use Rattle.ir_print_law.proofs.Words.{sign_comes}
use Rattle.ir_print_law.proofs.WholeForms.{Widens, widens_itself, widens_further, Leads, later_widened}
use Rattle.ir_print_law.proofs.InnerLines.{plain_goes, value_goes_on, valued_line}
use Rattle.ir_print_law.proofs.Known.{Far, AreNamed, known}
use Rattle.ir_print_law.proofs.OpNeeds.{begins_body_line, EndsOp, OpsRead}
use Rattle.ir_print_law.proofs.Steady.{Steady, Onward, onward_itself, onward_further, next_key, steady_value}

-- a line without the name of a value
pub plain_line : (m : Module) (locals : List Text) (x : Op) (rest : Text) → instruction_line m locals (plain x) ++ rest ≡ 32 ∷ 32 ∷ (op_text m locals x ++ 10 ∷ rest)
plain_line m locals x rest = append_assoc (codes "  " ++ [] ++ op_text m locals x) (10 ∷ []) rest

-- the line of the end of a block
pub end_line_is : (m : Module) (locals : List Text) (x : End) (rest : Text) → end_line m locals x ++ rest ≡ 32 ∷ 32 ∷ (end_text m locals x ++ 10 ∷ rest)
end_line_is m locals x rest = append_assoc (codes "  " ++ end_text m locals x) (10 ∷ []) rest

abbrev IsInnerKind : Kind → Type 0
IsInnerKind x = (begins_body_line x ≡ true) × (ends.ends_block x ≡ false)

inner_kind : (x : Kind) → (x ≡ k.LocalName) ⊎ (x ≡ k.LocalNumber) → IsInnerKind x
inner_kind x (inl e) = (ap begins_body_line e, ap ends.ends_block e)
inner_kind x (inr e) = (ap begins_body_line e, ap ends.ends_block e)

plain_inner_kind : (x : Kind) → (x ≡ k.Store) ⊎ (x ≡ k.Call) → IsInnerKind x × (is_local x ≡ false)
plain_inner_kind x (inl e) = ((ap begins_body_line e, ap ends.ends_block e), ap is_local e)
plain_inner_kind x (inr e) = ((ap begins_body_line e, ap ends.ends_block e), ap is_local e)

-- no end of a block begins with a local name
end_not_local : (x : Kind) → ends.ends_block x ≡ true → is_local x ≡ false
end_not_local k.LocalName e = absurd cc
end_not_local k.LocalNumber e = absurd cc
end_not_local _ e = refl

module _ (m : Module) (f : Function) (named : AreNamed m f) (ops : OpsRead m f named) where
  -- which token an instruction's line begins with, and that no phi begins there and no call that is dropped
  line_kind_by : (result : Option ℕ) (x : Op) (i : Input) (rest : Text) → IsInstr m f (record { result = result; op = x }) → AllByRecursion IsKey (result_keys f.locals (record { result = result; op = x }))
      → Stands i.cursor (10 ∷ (instruction_line m f.locals (record { result = result; op = x }) ++ rest)) → IsInnerKind (kind i.cursor) × (begins_phi i ≡ false) × (drops_at i.cursor ≡ false)
  unfolding class_of kind kind_after kind_third next
  line_kind_by None x i rest own keys at =
      let at = subst (λ (t : Text). Stands i.cursor (10 ∷ t)) (plain_line m f.locals x rest) at in
      let e = plain_inner_kind (kind i.cursor) (plain_kind m f.locals x i.cursor (10 ∷ rest) (sym own.1) at) in
      (e.0, no_local i e.1, plain_undropped m f (λ name there. named.is_symbol true name there) x i.cursor (10 ∷ rest) own.0 (sym own.1) at)
  line_kind_by (Some value) x i rest own keys at =
      let at = subst (λ (t : Text). Stands i.cursor (10 ∷ t)) (valued_line m f.locals x value rest) at in
      let a = local_passed i.cursor (10 ∷ 32 ∷ 32 ∷ []) (name_at f.locals value) (codes " = " ++ (op_text m f.locals x ++ 10 ∷ rest)) keys.0 refl refl at in
      let b = sign_comes (next i.cursor) (32 ∷ []) 61 (32 ∷ (op_text m f.locals x ++ 10 ∷ rest)) k.Equals refl refl refl a.1 in
      let c = value_word m f.locals x (next (next i.cursor)) rest (sym own.1) b.3 in
      (inner_kind (kind i.cursor) a.0, other_word (kind i.cursor) (kind_after i.cursor) (kind_third i.cursor) c, no_call_comes i.cursor (local_no_call (kind i.cursor) a.0))

  pub line_kind : (x : Instr) (i : Input) (rest : Text) → IsInstr m f x → AllByRecursion IsKey (result_keys f.locals x)
      → Stands i.cursor (10 ∷ (instruction_line m f.locals x ++ rest)) → IsInnerKind (kind i.cursor) × (begins_phi i ≡ false) × (drops_at i.cursor ≡ false)
  line_kind x = line_kind_by x.result x.op

  -- the line of the end of a block begins with the word of an end
  end_comes : (x : End) (i : Input) (rest : Text) → Stands i.cursor (10 ∷ (end_line m f.locals x ++ rest)) → ends.ends_block (kind i.cursor) ≡ true
  end_comes x i rest at = end_kind m f.locals x i.cursor rest (subst (λ (t : Text). Stands i.cursor (10 ∷ t)) (end_line_is m f.locals x rest) at)

  -- ---- one instruction

  -- the instruction is this one again, and reading has gone on after its value
  abbrev pub IsOneRead : Far → (more : List Text) → Instr → Instr → Far → Input → Type 0
  IsOneRead far more x y now o = Onward far now (result_keys f.locals x) [] more × IsLaterAgain (λ n others. IsInstrAgain m n f.locals others) x y o

  one_by : (result : Option ℕ) (x : Op) (more : List Text) (far : Far) (site : Site) (i : Input) (rest : Text) → IsInstr m f (record { result = result; op = x })
      → Steady far (result_keys f.locals (record { result = result; op = x }) ++ more)
      → length far.values + length (result_keys f.locals (record { result = result; op = x })) ≤ 1000000 → length far.labels ≤ 65535 → site.place < 4294967295 → EndsOp (10 ∷ rest)
      → Ready (known m f named far) 0 i (10 ∷ (instruction_line m f.locals (record { result = result; op = x }) ++ rest))
      → Leads m f named 0 (placed site) i (10 ∷ rest) (IsOneRead far more (record { result = result; op = x }))
  one_by None x more far site i rest own steady room blocks less ends ready =
      let here = subst (λ (t : Text). Ready (known m f named far) 0 i (10 ∷ t)) (plain_line m f.locals x rest) ready in
      let h = plain_goes m f named ops far x site i rest less (ops.plain_read x far site i (10 ∷ 32 ∷ 32 ∷ []) (10 ∷ rest) own.0 (sym own.1) refl ends here) in
      (h.0, h.1, h.2, h.3, h.4, h.5, (subst (λ (now : Far). Onward far now [] [] more) (sym h.6.0) (onward_itself far more steady), h.6.1))
  one_by (Some value) x more far site i rest own steady room blocks less ends ready =
      let key = name_at f.locals value in
      let next = next_key far.seen far.unnamed key more steady.defines_next in
      let is = next.1.0 in
      let counted = steady.counted in
      let unnamed = steady.few_unnamed in
      let many : far.count < 1000000 = omega (arith, room, counted) in
      let numbers : far.unnamed < 4294967295 = omega (arith, room, counted, unnamed, blocks) in
      let h = value_goes_on m f named ops far x value site i rest is own.0 (sym own.1) less next.0 (λ label. next.0 (steady.labels_seen key label)) many numbers steady.none_waits ends ready in (
        h.0,
        h.1,
        h.2,
        h.3,
        h.4,
        h.5,
        (
          subst (λ (now : Far). Onward far now (key ∷ []) [] more) (sym h.6.0)
              (record { values_are = refl; labels_are = sym (append-nil far.labels); steady = steady_value far key more is steady next.1.1; same_outside = refl }),
          h.6.1,
        ),
      )

  one_goes : (x : Instr) (more : List Text) (far : Far) (site : Site) (i : Input) (rest : Text) → IsInstr m f x → Steady far (result_keys f.locals x ++ more)
      → length far.values + length (result_keys f.locals x) ≤ 1000000 → length far.labels ≤ 65535 → site.place < 4294967295 → EndsOp (10 ∷ rest)
      → Ready (known m f named far) 0 i (10 ∷ (instruction_line m f.locals x ++ rest))
      → Leads m f named 0 (placed site) i (10 ∷ rest) (IsOneRead far more x)
  one_goes x = one_by x.result x.op

  -- ---- the instructions of a body

  abbrev pub keys_of : List Instr → List Text
  keys_of xs = flat_map (result_keys f.locals) xs

  abbrev pub lines_of : List Instr → Text
  lines_of xs = flat_map (instruction_line m f.locals) xs

  -- the lines of a body and of the end of its block
  abbrev pub body_text : List Instr → End → (rest : Text) → Text
  body_text xs last rest = lines_of xs ++ (end_line m f.locals last ++ rest)

  -- the next line is another one of these, or the one that ends the block, and no phi begins there and no call that is dropped
  next_line : (xs : List Instr) (last : End) (i : Input) (rest : Text) → AllByRecursion (IsInstr m f) xs → AllByRecursion IsKey (keys_of xs) → Stands i.cursor (10 ∷ body_text xs last rest)
      → (begins_body_line (kind i.cursor) ≡ true) × (begins_phi i ≡ false) × (drops_at i.cursor ≡ false)
  next_line [] last i rest own keys at =
      let e = end_comes last i rest at in
      (ends_begins (kind i.cursor) e, no_local i (end_not_local (kind i.cursor) e), no_call_comes i.cursor (ends_no_call (kind i.cursor) e))
  next_line (x ∷ xs) last i rest own keys at =
      let h = line_kind x i (body_text xs last rest) own.0 (all_first IsKey (result_keys f.locals x) (keys_of xs) keys)
      (subst (λ (t : Text). Stands i.cursor (10 ∷ t)) (append_assoc (instruction_line m f.locals x) (lines_of xs) (end_line m f.locals last ++ rest)) at) in
      (h.0.0, h.1, h.2)

  pub next_ends : (xs : List Instr) (last : End) (rest : Text) → AllByRecursion (IsInstr m f) xs → AllByRecursion IsKey (keys_of xs) → EndsOp (10 ∷ body_text xs last rest)
  next_ends xs last rest own keys = (seam_line (body_text xs last rest), λ i at. (next_line xs last i rest own keys at).0, λ i at. (next_line xs last i rest own keys at).2)

  pub next_no_phi : (xs : List Instr) (last : End) (rest : Text) → AllByRecursion (IsInstr m f) xs → AllByRecursion IsKey (keys_of xs) → BeginsNoPhi (10 ∷ body_text xs last rest)
  next_no_phi xs last rest own keys = λ i at. (next_line xs last i rest own keys at).1

  abbrev pub Lines : List Instr → (more : List Text) → Far → Site → Input → (rest : Text) → Type 0
  Lines xs more far site i rest =
      (ys : List Instr) × (o : Input) × (now : Far) × Follows at_terminator (λ (s : Site). (placed s).says) afterwards site i ys o × Ready (known m f named now) 0 o (10 ∷ rest) × Widens i o
      × Onward far now (keys_of xs) [] more × IsLaterAgain (λ n others. AreAlike (IsInstrAgain m n f.locals others)) xs ys o

  pub lines_go : (xs : List Instr) (more : List Text) (far : Far) (site : Site) (i : Input) (last : End) (rest : Text) → AllByRecursion (IsInstr m f) xs → AllByRecursion IsKey (keys_of xs)
      → Steady far (keys_of xs ++ more) → length far.values + length (keys_of xs) ≤ 1000000 → length far.labels ≤ 65535 → site.place + length xs < 4294967295
      → Ready (known m f named far) 0 i (10 ∷ body_text xs last rest) → Lines xs more far site i (end_line m f.locals last ++ rest)
  lines_go [] more far site i last rest own keys steady room blocks less ready =
      ([], i, far, (end_comes last i rest ready.stands, refl), ready, widens_itself i, onward_itself far more steady, λ n others later. tt)
  lines_go (x ∷ xs) more far site i last rest own keys steady room blocks less ready =
      let more_lines = body_text xs last rest in
      let here = subst (λ (t : Text). Ready (known m f named far) 0 i (10 ∷ t)) (append_assoc (instruction_line m f.locals x) (lines_of xs) (end_line m f.locals last ++ rest)) ready in
      let first = all_first IsKey (result_keys f.locals x) (keys_of xs) keys in
      let others = all_second IsKey (result_keys f.locals x) (keys_of xs) keys in
      let size = length-append (result_keys f.locals x) (keys_of xs) in
      let goes = (line_kind x i more_lines own.0 first here.stands).0.1 in
      let one = one_goes x (keys_of xs ++ more) far site i more_lines own.0 (subst (λ (l : List Text). Steady far l) (append_assoc (result_keys f.locals x) (keys_of xs) more) steady)
      (omega (arith, room, size)) blocks (omega (arith, less)) (next_ends xs last rest own.1 others) here in
      let p = one.1 in
      let mid = one.2 in
      let on = one.6.0 in
      let values = on.values_are in
      let labels = on.labels_are in
      let value_count = ap length values ∙ length-append far.values (result_keys f.locals x) in
      let label_count : length one.2.labels ≡ length far.labels = ap length labels ∙ ap length (append-nil far.labels) in
      let further = lines_go xs more one.2 (afterwards site one.0) one.1 last rest own.1 others on.steady (omega (arith, room, size, value_count)) (omega (arith, blocks, label_count)) (omega (arith, less)) one.4 in (
        one.0 ∷ further.0,
        further.1,
        further.2,
        (goes, p, one.3, further.3),
        further.4,
        widens_further i p further.1 one.5 further.5,
        onward_further far mid further.2 (result_keys f.locals x) [] (keys_of xs) [] (keys_of xs ++ more) more on further.6,
        λ n names later. (one.6.1 n names (later_widened p further.1 n names further.5 later), further.7 n names later),
      )
