-- What is printed of the code outside is read as it was printed.
use Rattle.std.proofs.Common.{◌≡◌, Bool, true, false, not, ◌||◌, [], ◌∷◌, ◌++◌, codes, drop, ℕ, List, refl, ap, sym, subst, ◌∙◌, append_assoc}
use Rattle.std.specs.Str.{bytes_eq}
use Rattle.std.proofs.lemmas.Slice.Eq.{bytes_eq-Decides}
use Rattle.lemmas.specs.Bools.{and_parts, not_false}
use Rattle.grammar.specs.Many.{Listed}
use Rattle.ir_ast.specs.declared.module.Module.{Module}
use Rattle.ir_ast.specs.declared.outside.Outside.{Outside}
use Rattle.ir_tokens.specs.Bytes.{Text}
use Rattle.name_text.specs.Reader.{begins, word}
use Rattle.name_text.specs.Seams.{word_on}
use Rattle.name_text.specs.Words.{past_lines, word_at}
use Rattle.certs.specs.ForeignFit.{foreign_fits, functions_fit}
use Rattle.certs.specs.NumbersFit.{numbers_fit}
use Rattle.certificate.specs.ForeignForms.{past_foreign}
use Rattle.certificate.specs.ForeignPrint.{foreign_text}
use Rattle.certificate.specs.Input.{Input}
use Rattle.certificate.specs.Named.{IsNamed}
use Rattle.certificate.specs.NumberForms.{past_numbers}
use Rattle.certificate.specs.NumbersPrint.{numbers_text}
use Rattle.certificate.specs.Print.{outside_text}
use Rattle.certificate.specs.ShapeForms.{past_shapes, shape_line, shape_lines}
use Rattle.certificate.specs.Text.{outside_lines}
use Rattle.certificate.proofs.PrintedForeign.{begins_foreign, foreign_on}
use Rattle.certificate.proofs.PrintedLines.{at}
use Rattle.certificate.proofs.PrintedNumbers.{begins_numbers, numbers_on}

-- nothing of the code outside comes here
abbrev pub PastOutside : Input → Type 0
PastOutside i = (past_foreign i ≡ true) × (past_numbers i ≡ true)

-- ---- what follows the lines

-- the first word of a shape is no other word
shape_word : (w kind : Text) → bytes_eq (codes "layout") kind ≡ false → bytes_eq (codes "global") kind ≡ false → bytes_eq (codes "root") kind ≡ false
    → not (bytes_eq w (codes "layout") || bytes_eq w (codes "global") || bytes_eq w (codes "root")) ≡ false → not (bytes_eq w kind) ≡ true
shape_word w kind no_layout no_global no_root e = by (bytes_eq w (codes "layout")) (bytes_eq w (codes "global")) (bytes_eq w (codes "root")) refl refl refl (not_false (bytes_eq w (codes "layout") || bytes_eq w (codes "global") || bytes_eq w (codes "root")) e)
  where
    is : (other : Text) → bytes_eq w other ≡ true → bytes_eq other kind ≡ false → not (bytes_eq w kind) ≡ true
    is other same apart = ap (λ (x : Text). not (bytes_eq x kind)) ((bytes_eq-Decides w other).0 same) ∙ ap not apart

    by : (layout global root : Bool) → bytes_eq w (codes "layout") ≡ layout → bytes_eq w (codes "global") ≡ global → bytes_eq w (codes "root") ≡ root → (layout || global || root) ≡ true → not (bytes_eq w kind) ≡ true
    by true global root a b c some = is (codes "layout") a no_layout
    by false true root a b c some = is (codes "global") b no_global
    by false false true a b c some = is (codes "root") c no_root
    by false false false a b c some = absurd cc

-- where shapes come, and then no line of this kind, none comes before them
none_before : (kind : Text) → bytes_eq (codes "layout") kind ≡ false → bytes_eq (codes "global") kind ≡ false → bytes_eq (codes "root") kind ≡ false
    → (m : Module) (i : Input) (u : Unit {0}) (o : Input) → (shape_lines m).says i u o → not (begins kind o) ≡ true → not (begins kind i) ≡ true
unfolding shape_lines
none_before kind no_layout no_global no_root m i u o h stop = by h.0 h.2
  where
    by : (xs : List (Unit {0})) → Listed past_shapes (shape_line m).says i xs h.1 → not (begins kind i) ≡ true
    by [] listed = ap (λ (x : Input). not (begins kind x)) (listed.1 ∙ h.3.1) ∙ stop
    by (x ∷ xs) listed = shape_word (word i) kind no_layout no_global no_root listed.0

pub none_outside_before : (m : Module) (i : Input) (u : Unit {0}) (o : Input) → (shape_lines m).says i u o → PastOutside o → PastOutside i
none_outside_before m i u o h stop = (none_before (codes "foreign") refl refl refl m i u o h stop.0, none_before (codes "number") refl refl refl m i u o h stop.1)

-- ---- the lines

pub begins_outside : (m : Module) (outside : Outside) (t : Text) → past_lines false t ≡ t → past_lines false (outside_text m outside ++ t) ≡ outside_text m outside ++ t
begins_outside m outside t e =
    let same : outside_text m outside ++ t ≡ numbers_text m outside.numbers ++ (foreign_text m outside.functions ++ t) = append_assoc (numbers_text m outside.numbers) (foreign_text m outside.functions) t in
    ap (past_lines false) same ∙ begins_numbers m outside.numbers (foreign_text m outside.functions ++ t) (begins_foreign m outside.functions t e) ∙ sym same

-- no number of a layout comes where functions outside come, or what follows them
functions_follow : (m : Module) (i : Input) (symbols : List ℕ) (t : Text) → past_numbers (at i t) ≡ true → past_numbers (at i (foreign_text m symbols ++ t)) ≡ true
functions_follow m i [] t stop = stop
functions_follow m i (s ∷ symbols) t stop =
    let first : word_at (foreign_text m (s ∷ symbols) ++ t) ≡ codes "foreign" = word_on (codes "foreign") (drop 7 (foreign_text m (s ∷ symbols) ++ t)) refl refl in
    ap (λ w. not (bytes_eq w (codes "number"))) first

-- what is said of the code outside and fits the module is read where nothing is read so far
pub outside_on : (m : Module) → IsNamed m → (i : Input) (outside : Outside) (t : Text) → foreign_fits m outside ≡ true → i.read.numbers ≡ [] → i.read.foreign ≡ [] → past_lines false t ≡ t → PastOutside (at i t)
    → (outside_lines m).says (at i (outside_text m outside ++ t)) outside (at i t)
unfolding outside_lines
outside_on m named i outside t fit none unnamed e stop =
    let parts = and_parts (functions_fit m outside.functions) (numbers_fit m outside.numbers) fit in
    let rest = foreign_text m outside.functions ++ t in
    let numbers = numbers_on m named i outside.numbers rest parts.1 none (begins_foreign m outside.functions t e) (functions_follow m i outside.functions t stop.1) in
    let names = foreign_on m named i outside.functions t parts.0 unnamed e stop.0 in
    subst (λ x. (outside_lines m).says (at i x) outside (at i t)) (sym (append_assoc (numbers_text m outside.numbers) (foreign_text m outside.functions) t))
    (outside.numbers, at i rest, numbers, (outside.functions, at i t, names, (refl, refl)))
