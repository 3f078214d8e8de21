-- Printed bitcasts are read as these bitcasts again.
use Rattle.std.proofs.Common.{◌≡◌, ℕ, List, [], ◌∷◌, ◌++◌, refl, arith, ap, false}
use Rattle.std.specs.Prelude.{codes}
use Rattle.grammar.specs.Grammar.{pure, ◌>>=◌, ◌>>◌}
use Rattle.ir_ast.specs.declared.argument.Argument.{Argument}
use Rattle.ir_ast.specs.declared.casts.Cast.{Cast}
use Rattle.ir_ast.specs.declared.function.Function.{Function}
use Rattle.ir_ast.specs.declared.module.Module.{Module}
use Rattle.ir_tokens.specs.declared.token.Kind.TheVariants as k
use Rattle.ir_tokens.specs.Bytes.{Text, class_of}
use Rattle.ir_forms.specs.Casts.{bitcast}
use Rattle.ir_forms.specs.declared.input.Input.{Input}
use Rattle.ir_forms.specs.Input.{advanced, skip, expect}
use Rattle.ir_forms.specs.Lists as lists
use Rattle.ir_forms.specs.Names.{set_type}
use Rattle.ir_forms.specs.Written as w
use Rattle.ir_print.specs.Casts.{cast_text}
use Rattle.ir_print.specs.Parts.{typed, converted_text}
use Rattle.ir_print_law.specs.Stands.{AreBlanks, Stands}
use Rattle.ir_print_law.specs.Casts.{IsCastAgain, IsCast}
use Rattle.ir_print_law.proofs.State.{Invariant, Ready, Reads}
use Rattle.ir_print_law.proofs.Steps.{word_skipped}
use Rattle.ir_print_law.proofs.Types.{EndsType}
use Rattle.ir_print_law.proofs.Parts.{IsLaterAgain, Sets, OpAgain}
use Rattle.ir_print_law.proofs.Setting.{on, converted_reads}
use Rattle.ir_ast.specs.declared.op.Op.TheVariants as op
use Rattle.ir_print.specs.Instructions.{op_text}
use Rattle.ir_tokens.specs.declared.token.Kind.{Kind}
use Rattle.ir_tokens.specs.Keywords.{word_kind, keywords}
use Rattle.ir_forms.specs.Cursor.{kind, same_kind}
use Rattle.ir_forms.specs.Place.{Place}
use Rattle.ir_print_law.proofs.Words.{word_comes}
use Rattle.ir_forms.specs.declared.site.Site.{Site}
use Rattle.ir_forms.specs.Instructions as whole
use Rattle.ir_print_law.proofs.ArgumentsAgain.{EndsLine, line_ends_type}
use Rattle.ir_print_law.proofs.OpsAgain.{op_reads, by_word}
use Rattle.ir_print_law.proofs.SameParts.{converted_same}

-- a bitcast is this one again, in each module later on
abbrev pub CastAgain : Module → (locals : List Text) → Cast → Cast → Input → Type 0
CastAgain m locals = IsLaterAgain (λ n others. IsCastAgain m n locals others)

module _ {m : Module} {f : Function} (v u : Invariant m f) where
  -- `bitcast T V to U`
  pub bitcast_reads : (value : ℕ) (x : Cast) (i : Input) (gap rest : Text) (s : ℕ) → IsCast m f x → Sets v u value → AreBlanks gap → EndsType rest
      → Ready v s i (gap ++ (cast_text m f.locals x ++ rest)) → Reads u s (bitcast value) i rest (CastAgain m f.locals x)
  unfolding bitcast class_of
  bitcast_reads value x i gap rest s own sets blanks ends ready =
      let good = CastAgain m f.locals x in
      let afterwards = 32 ∷ (converted_text m f.locals (typed x.from x.operand) x.to ++ rest) in
      on v u skip (λ _. lists.typed >>= λ from. expect k.To >> (w.scalar >>= λ to. set_type value to.id >> pure (made from to.id))) i afterwards rest s s (λ _ o. advanced i ≡ o) good
      (word_skipped v (codes "bitcast") i gap afterwards s s blanks refl refl (omega arith) ready)
      (λ _ o ready g e. converted_reads v u (λ n others. IsCastAgain m n f.locals others) made x value x.from x.operand x.to o (32 ∷ []) rest s
      (λ n others b k argument type. (argument.0, argument.1, type)) own sets refl ends ready)
    where
      made : Argument → ℕ → Cast
      made b to = record { from = b.written; operand = b.operand; to = to }

  -- what follows `%v =`
  pub named_cast_reads : (site : Site) (value : ℕ) (x : Cast) (i : Input) (gap rest : Text) (s : ℕ) → AreBlanks gap → IsCast m f x → Sets v u value → EndsLine rest
      → Ready v s i (gap ++ (op_text m f.locals (op.Cast x) ++ rest)) → Reads u s (whole.named_op site value) i rest (OpAgain m f.locals (op.Cast x))
  unfolding word_kind keywords class_of
  named_cast_reads site value x i gap rest s blanks own sets ends ready =
      by_word v u site value (op.Cast x) (codes "bitcast") (32 ∷ (converted_text m f.locals (typed x.from x.operand) x.to ++ rest)) i gap rest s blanks refl refl ready
      (op_reads u op.Cast (bitcast value) (λ n others. IsCastAgain m n f.locals others) x (op.Cast x) i rest s (λ y o again. again)
      (bitcast_reads value x i gap rest s own sets blanks (line_ends_type rest ends) ready))

-- ---- its word

-- its word is not that of a phi
pub cast_no_phi : (m : Module) (locals : List Text) (x : Cast) (place : Place) (rest : Text) → Stands place (32 ∷ (cast_text m locals x ++ 10 ∷ rest)) → same_kind (kind place) k.Phi ≡ false
unfolding class_of word_kind keywords same_kind
cast_no_phi m locals x place rest at = ap (λ (x : Kind). same_kind x k.Phi) (word_comes place (32 ∷ []) (codes "bitcast") _ refl refl refl at).0

-- ---- its text

module _ (m n : Module) (locals others : List Text) where
  -- one bitcast, one text
  pub cast_same : (x y : Cast) → IsCastAgain m n locals others x y → cast_text m locals x ≡ cast_text n others y
  cast_same x y h = ap (λ (z : Text). codes "bitcast " ++ z) (converted_same m n locals others (typed x.from x.operand) (typed y.from y.operand) x.to y.to (h.0, h.1) h.2)
