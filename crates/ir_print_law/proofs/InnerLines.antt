-- The lines of the instructions of a block's body.
use Rattle.std.proofs.Common.{◌≡◌, ℕ, ◌+◌, ◌<◌, true, false, List, [], ◌∷◌, ◌++◌, Some, refl, sym, ap, subst, ◌∙◌, arith, append_assoc, inl, inr}
use Rattle.std.specs.Prelude.{codes, nat_lt}
use Rattle.std.proofs.lemmas.Bool.Decides.{nat_tests}
use Rattle.lemmas.specs.Lists.{last_in, IsIn}
use Rattle.ir_ast.specs.declared.function.Function.{Function}
use Rattle.ir_ast.specs.declared.instr.Instr.{Instr}
use Rattle.ir_ast.specs.declared.module.Module.{Module}
use Rattle.ir_ast.specs.declared.op.Op.{Op}
use Rattle.ir_tokens.specs.declared.token.Kind.{Kind}
use Rattle.ir_tokens.specs.declared.token.Kind.TheVariants as k
use Rattle.ir_tokens.specs.Bytes.{Text, class_of}
use Rattle.ir_forms.specs.Cursor.{kind, sees}
use Rattle.ir_forms.specs.declared.input.Input.{Input}
use Rattle.ir_forms.specs.declared.site.Site.{Site}
use Rattle.ir_forms.specs.Instructions.{named_after, instruction, instruction_by, placed}
use Rattle.ir_forms.specs.Records.{begins_record}
use Rattle.ir_print.specs.Instructions.{op_text, instruction_line}
use Rattle.ir_print.specs.Names.{name_at, key_text, local_text}
use Rattle.ir_print_law.specs.Stands.{Stands}
use Rattle.ir_print_law.specs.Again.{IsInstrAgain}
use Rattle.ir_print_law.specs.Printable.{IsOp, gives_value}
use Rattle.ir_print_law.proofs.Tables.{stays}
use Rattle.ir_print_law.proofs.State.{Ready, Reads}
use Rattle.ir_print_law.proofs.Steps.{sign_reads, unlike}
use Rattle.ir_print_law.proofs.Empty.{not_trailed}
use Rattle.ir_print_law.proofs.WholeForms.{widens_further, grows_widens, Leads}
use Rattle.ir_print_law.proofs.Known.{Far, AreNamed, known}
use Rattle.ir_print_law.proofs.NewValues.{IsNext, unnamed_then, far_value, value_by, value_goes, kind_then}
use Rattle.ir_print_law.proofs.OpNeeds.{begins_body_line, EndsOp, OpsRead}
use Rattle.ir_print_law.proofs.OpsAgain.{plain, PlainAgain}
use Rattle.ir_print_law.proofs.Parts.{IsLaterAgain}
use Rattle.ir_print_law.proofs.Undropped.{no_record}

-- a form that is told by the kind of the next token
by_kind : (site : Site) (x : Kind) (i o : Input) (a : Instr) → kind i.cursor ≡ x → (instruction_by site x).says i a o → (instruction site).says i a o
unfolding instruction
by_kind site x i o a e h = subst (λ (y : Kind). (instruction_by site y).says i a o) (sym e) h

few_places : (n : ℕ) → n < 4294967295 → nat_lt n 4294967295 ≡ true
few_places n less = grind (arith, nat_tests)

placed_is : (site : Site) (i o : Input) (a : Instr) → site.place < 4294967295 → (instruction site).says i a o → (placed site).says i a o
placed_is site i o a less h = (tt, i, (few_places site.place less, refl), h)

-- no comma comes after a line
pub comma_free : (rest : Text) (i : Input) → EndsOp rest → Stands i.cursor rest → sees k.Comma i.cursor ≡ false
comma_free rest i ends at = unlike k.Comma begins_body_line i refl (ends.1 i at)

-- no debug record comes after a line, and no call that is dropped
pub record_free : (rest : Text) (i : Input) → EndsOp rest → Stands i.cursor rest → begins_record i ≡ false
record_free rest i ends at = no_record i (unlike k.DebugRecord begins_body_line i refl (ends.1 i at)) (ends.2 i at)

-- the line of an instruction with a value
pub valued_line : (m : Module) (locals : List Text) (x : Op) (value : ℕ) (rest : Text)
    → instruction_line m locals (record { result = Some value; op = x }) ++ rest ≡ 32 ∷ 32 ∷ 37 ∷ (key_text (name_at locals value) ++ (codes " = " ++ (op_text m locals x ++ 10 ∷ rest)))
valued_line m locals x value rest =
    let key = local_text locals value in
    let text = op_text m locals x in
    append_assoc (codes "  " ++ (key ++ codes " = ") ++ text) (10 ∷ []) rest ∙ append_assoc (codes "  " ++ (key ++ codes " = ")) text (10 ∷ rest)
    ∙ append_assoc (codes "  ") (key ++ codes " = ") (text ++ 10 ∷ rest) ∙ ap (λ (t : Text). 32 ∷ 32 ∷ t) (append_assoc key (codes " = ") (text ++ 10 ∷ rest))

module _ (m : Module) (f : Function) (named : AreNamed m f) (ops : OpsRead m f named) (far : Far) where
  -- what is known after the instruction's line
  abbrev pub far_result : (key : Text) (unnamed : ℕ) → Far
  far_result key unnamed = record far { seen = far.seen ++ key ∷ []; values = far.values ++ key ∷ []; pending = []; count = far.count + 1; unnamed = unnamed }

  -- the instruction is this one again, in each module later on
  abbrev pub IsInnerRead : Instr → (then : Far) → Instr → Far → Input → Type 0
  IsInnerRead x then y now o = (now ≡ then) × IsLaterAgain (λ n others. IsInstrAgain m n f.locals others) x y o

  -- ---- an instruction without a value

  pub plain_goes : (x : Op) (site : Site) (i : Input) (rest : Text) → site.place < 4294967295 → Reads (known m f named far) 0 (instruction site) i (10 ∷ rest) (PlainAgain m f.locals x)
      → Leads m f named 0 (placed site) i (10 ∷ rest) (IsInnerRead (plain x) far)
  plain_goes x site i rest less h = (h.0, h.1, far, placed_is site i h.1 h.0 less h.2, h.3, grows_widens i h.1 h.4, (refl, h.5))

  -- ---- an instruction with a value

  value_says : (site : Site) (key : Text) (is : IsNext far.unnamed key) (i p o : Input) (n : ℕ) (y : Op)
      → kind i.cursor ≡ kind_then k.LocalNumber k.LocalName far.unnamed key is → (value_by m f named far key is).says i n p → (named_after site n).says p (record { result = Some n; op = y }) o
      → (instruction site).says i (record { result = Some n; op = y }) o
  value_says site key (inl e) i p o n y is said afterwards = by_kind site k.LocalNumber i o (record { result = Some n; op = y }) is (n, p, said, afterwards)
  value_says site key (inr e) i p o n y is said afterwards = by_kind site k.LocalName i o (record { result = Some n; op = y }) is (n, p, said, afterwards)

  pub value_goes_on : (x : Op) (value : ℕ) (site : Site) (i : Input) (rest : Text) (is : IsNext far.unnamed (name_at f.locals value)) → IsOp m f x → gives_value m x ≡ true → site.place < 4294967295 → (IsIn (name_at f.locals value) far.seen → ⊥) → (IsIn (name_at f.locals value) far.labels → ⊥)
      → far.count < 1000000 → far.unnamed < 4294967295 → far.pending ≡ [] → EndsOp (10 ∷ rest)
      → Ready (known m f named far) 0 i (10 ∷ (instruction_line m f.locals (record { result = Some value; op = x }) ++ rest))
      → Leads m f named 0 (placed site) i (10 ∷ rest)
      (IsInnerRead (record { result = Some value; op = x }) (far_result (name_at f.locals value) (unnamed_then far.unnamed (name_at f.locals value) is)))
  unfolding class_of
  value_goes_on x value site i rest is own gives less none apart many few_numbers waits ends ready =
      let key = name_at f.locals value in
      let text = op_text m f.locals x ++ 10 ∷ rest in
      let here = subst (λ (t : Text). Ready (known m f named far) 0 i (10 ∷ t)) (valued_line m f.locals x value rest) ready in
      let w = value_goes m f named far key is i (10 ∷ 32 ∷ 32 ∷ []) (codes " = " ++ text) 0 none many few_numbers waits refl refl here in
      let n = w.1.0 in
      let p = w.1.1 in
      let unnamed = unnamed_then far.unnamed key is in
      let then = far_value m f named far key n unnamed in
      let after = far_result key unnamed in
      let equals = sign_reads (known m f named (far_value m f named far key n unnamed)) 61 k.Equals p (32 ∷ []) (32 ∷ text) 0 0 refl refl refl (omega arith) w.1.3 in
      let q = equals.1 in
      let r = ops.named_read x key n (far_value m f named far key n unnamed) site q (32 ∷ []) (10 ∷ rest) own gives refl (last_in key far.seen) apart refl ends equals.3 in
      let y = r.0 in
      let o = r.1 in
      let trail = not_trailed r.0 r.1 (comma_free (10 ∷ rest) r.1 ends r.3.stands) (record_free (10 ∷ rest) r.1 ends r.3.stands) in
      let afterwards : (named_after site n).says p (record { result = Some n; op = y }) o = (tt, q, equals.2, (r.0, r.1, r.2, (r.0, r.1, trail, (refl, refl)))) in
      let wide = widens_further i p o w.1.4 (widens_further p q o (grows_widens p q equals.4) (grows_widens q o r.4)) in
      let wide_p = widens_further p q o (grows_widens p q equals.4) (grows_widens q o r.4) in (
        record { result = Some w.1.0; op = r.0 },
        r.1,
        far_result key unnamed,
        placed_is site i o (record { result = Some n; op = y }) less (value_says site key is i p o n y w.0 w.1.2 afterwards),
        r.3,
        wide,
        (
          refl,
          λ later_m others later.
              let there = stays o.locals.names others n key later.locals (stays p.locals.names o.locals.names n key wide_p.locals w.1.5) in
              (there, r.5 later_m others later),
        ),
      )
