-- Printed certificates are read as what they were printed for.
use Rattle.std.proofs.Common.{◌≡◌, ℕ, zero, suc, ◌+◌, Bool, true, false, not, ◌&&◌, ◌||◌, nat_lt, List, [], ◌∷◌, ◌++◌, length, slice_get, slice_set, codes, Option, Some, None, refl, ap, sym, subst, ◌∙◌, arith, append_assoc, length-append}
use Rattle.std.specs.Prelude.{◌==◌, replicate, map, drop, position}
use Rattle.std.specs.List.{list_all, zip, position_or_len}
use Rattle.std.specs.Str.{bytes_eq}
use Rattle.std.proofs.lemmas.Bool.{eqb-true, le-ltb}
use Rattle.std.proofs.lemmas.List.{append-nil}
use Rattle.lemmas.specs.Lists.{all_end}
use Rattle.lemmas.specs.Bools.{and_second, and_first}
use Rattle.grammar.specs.Many.{Listed}
use Rattle.ir_ast.specs.declared.block.Block.{Block}
use Rattle.ir_ast.specs.declared.function.Function.{Function}
use Rattle.ir_ast.specs.declared.function.Parameter.{Parameter}
use Rattle.ir_ast.specs.declared.module.Module.{Module}
use Rattle.ir_ast.specs.declared.outside.Outside.{Outside}
use Rattle.ir_tokens.specs.Bytes.{Text}
use Rattle.name_text.specs.Words.{past_blanks, past_lines, word_at, stops, is_word}
use Rattle.certificate.specs.Names.{function_of_word}
use Rattle.certificate.specs.Input.{Input, start_of, with_promise, begun, with_section, kept, emptied}
use Rattle.name_text.specs.Forms.{taken}
use Rattle.name_text.specs.Reader.{recorded, ended, word, begins}
use Rattle.certificate.specs.Forms.{begin, mark_of_word, marked, new_function, function_named, function_by}
use Rattle.name_text.specs.Numbers.{is_number}
use Rattle.certificate.specs.Text as text
use Rattle.certificate.specs.Text.{IsCert}
use Rattle.certificate.specs.Starts.{goes_with, may_be_shaped, AreStart}
use Rattle.certificate.specs.declared.mistake.Mistake.{Mistake}
use Rattle.certificate.specs.declared.shape_draft.ShapeDraft.{ShapeDraft}
use Rattle.certs.specs.Families.{family_of_type, family_of_value, is_opaque_text}
use Rattle.certs.specs.ForeignFit.{foreign_fits}
use Rattle.certs.specs.Fits.{claims_fit, promise_fits, promised_fits, parameter_fits, parameters_fit, blocks_fit, section_fits, fits, entry_is_empty}
use Rattle.certificate.specs.Named.{IsNamed, IsNamedFunction}
use Rattle.certificate.specs.Print.{local_text, global_text, claims_text, block_text, blocks_text, promise_text, parameter_text, parameters_text, result_text, mark_text, section_text, sections_text, outside_text, head_text, shapes_with, cert_text}
use Rattle.certificate.specs.Laws.{ArePrintedAgain}
use Rattle.certs.specs.declared.certs.Certs.{Certs}
use Rattle.ir_ast.specs.declared.shapes.Shapes.{Shapes}
use Rattle.name_text.specs.Seams.{word_on, blanks_on}
use Rattle.certificate.proofs.PrintedLines.{at, ComesAfter, word_is, taken_on, expect_on, line_end_on, as_on}
use Rattle.certificate.proofs.PrintedOutside.{PastOutside, begins_outside, outside_on}
use Rattle.certificate.proofs.PrintedNames.{function_printed}
use Rattle.certificate.proofs.PrintedPromises.{parameter_on, result_on}
use Rattle.certificate.proofs.PrintedBlocks.{EndsLines, block_on}
use Rattle.certificate.proofs.Between.{Between, at_start}
use Rattle.certificate.proofs.ReadFits.{block_is, parameter_is}
use Rattle.certificate.specs.declared.progress.Kept.{Kept}
use Rattle.certs.specs.declared.section.Claim.{Claim}
use Rattle.certs.specs.declared.section.Mark.{Mark}
use Rattle.certs.specs.declared.section.Mark.TheVariants as mark
use Rattle.certs.specs.declared.section.Section.{Section}
use Rattle.certs.specs.declared.section.Promise.{Promise}

-- ---- places of lists

get_mid : {A : Type 0} (xs : List A) (y : A) (ys : List A) (n : ℕ) → length xs ≡ n → slice_get (xs ++ y ∷ ys) n ≡ Some y
get_mid [] y ys zero e = refl
get_mid [] y ys (suc n) e = absurd (omega arith)
get_mid (x ∷ xs) y ys zero e = absurd (omega arith)
get_mid (x ∷ xs) y ys (suc n) e = get_mid xs y ys n (omega arith)

set_mid : {A : Type 0} (xs : List A) (y z : A) (ys : List A) (n : ℕ) → length xs ≡ n → slice_set (xs ++ y ∷ ys) n z ≡ (xs ++ z ∷ []) ++ ys
set_mid [] y z ys zero e = refl
set_mid [] y z ys (suc n) e = absurd (omega arith)
set_mid (x ∷ xs) y z ys zero e = absurd (omega arith)
set_mid {A = A} (x ∷ xs) y z ys (suc n) e = ap (λ (l : List A). x ∷ l) (set_mid xs y z ys n (omega arith))

longer : {A : Type 0} (xs : List A) (y : A) (n : ℕ) → length xs ≡ n → length (xs ++ y ∷ []) ≡ suc n
longer xs y n e = omega (arith, e, length-append xs (y ∷ []))

-- ---- the blocks of a section

-- the text continues with the section's end
abbrev EndsBlocks : Text → Type 0
EndsBlocks t = (word_at t ≡ codes "end") × (past_lines false t ≡ t)

-- blocks that are the next text
record BlocksOn (m : Module) (f : Function) (i : Input) (bs : List Block) (lists : List (List Claim)) (done : List (List Claim)) (t : Text) : Type 0 where
  pub out : Input
  pub count : List (Unit {0})
  pub read : Listed text.past_blocks (text.block m f).says (at i (blocks_text m f bs lists ++ t)) count (at out t)
  pub between : Between m f out.read.draft
  pub sections : i.read.sections ≡ out.read.sections
  pub parameters : i.read.draft.parameters ≡ out.read.draft.parameters
  pub blocks : out.read.draft.blocks ≡ done ++ lists
  pub given : list_all (λ b. b) out.read.draft.given ≡ true

-- promises of parameters that are the next text
record ParametersOn (m : Module) (f : Function) (i : Input) (ps : List Parameter) (promises done : List (Option Promise)) (t : Text) : Type 0 where
  pub out : Input
  pub count : List (Unit {0})
  pub read : Listed text.past_parameters (text.parameter m f).says (at i (parameters_text m f ps promises ++ t)) count (at out t)
  pub between : Between m f out.read.draft
  pub sections : i.read.sections ≡ out.read.sections
  pub parameters : out.read.draft.parameters ≡ done ++ promises
  pub blocks : i.read.draft.blocks ≡ out.read.draft.blocks
  pub given : i.read.draft.given ≡ out.read.draft.given

module _ (m : Module) (f : Function) (named : IsNamed m) (own : IsNamedFunction f) where
  -- what follows a block ends its lines
  block_ends : (bs : List Block) (lists : List (List Claim)) (t : Text) → EndsBlocks t → EndsLines (blocks_text m f bs lists ++ t)
  block_ends [] lists t ends = (ap (λ x. bytes_eq x (codes "block") || bytes_eq x (codes "end")) ends.0, ends.1)
  block_ends (b ∷ bs) [] t ends = (ap (λ x. bytes_eq x (codes "block") || bytes_eq x (codes "end")) ends.0, ends.1)
  block_ends (b ∷ bs) (l ∷ lists) t ends = (ap (λ x. bytes_eq x (codes "block") || bytes_eq x (codes "end")) (word_on (codes "block") (32 ∷ (local_text f b.label ++ (10 ∷ claims_text m f l) ++ blocks_text m f bs lists ++ t)) refl refl), refl)

  blocks_on_from : (bs : List Block) (lists : List (List Claim)) (n : ℕ) (i : Input) (t : Text) (done : List (List Claim)) (given : List Bool)
      → ((k : ℕ) → slice_get f.blocks (n + k) ≡ slice_get bs k) → length lists ≡ length bs → list_all (claims_fit m f) lists ≡ true
      → length done ≡ n → i.read.draft.blocks ≡ done ++ map (λ _. []) bs → length given ≡ n → list_all (λ b. b) given ≡ true → i.read.draft.given ≡ given ++ replicate (length bs) false
      → Between m f i.read.draft → EndsBlocks t → BlocksOn m f i bs lists done t
  blocks_on_from [] [] n i t done given at_place len fits dn blocks gn all are between ends = record {
    out = i;
    count = [];
    read = (ap (λ x. not (bytes_eq x (codes "block"))) ends.0, refl);
    between = between;
    sections = refl;
    parameters = refl;
    blocks = blocks;
    given = ap (list_all (λ b. b)) (are ∙ append-nil given) ∙ all;
  }
  blocks_on_from [] (l ∷ lists) n i t done given at_place len fits dn blocks gn all are between ends = absurd (omega arith)
  blocks_on_from (b ∷ bs) [] n i t done given at_place len fits dn blocks gn all are between ends = absurd (omega arith)
  blocks_on_from (b ∷ bs) (l ∷ lists) n i t done given at_place len fits dn blocks gn all are between ends =
      let here : n + 0 ≡ n = omega arith in
      let is : slice_get f.blocks n ≡ Some b = ap (slice_get f.blocks) (sym here) ∙ at_place 0 in
      let new : slice_get i.read.draft.given n ≡ Some false = ap (λ x. slice_get x n) are ∙ get_mid given false (replicate (length bs) false) n gn in
      let rest = blocks_text m f bs lists ++ t in
      let one = block_on m f named own i n b l rest is new between (and_first (claims_fit m f l) (list_all (claims_fit m f) lists) fits) (block_ends bs lists t ends) in
      let after = block_is m f (at i (block_text m f b l ++ rest)) tt (at one.out rest) one.read between in
      let places : (k : ℕ) → slice_get f.blocks (suc n + k) ≡ slice_get bs k = λ k. (let e : suc n + k ≡ n + suc k = omega arith in ap (slice_get f.blocks) e ∙ at_place (suc k)) in
      let blocks_then : one.out.read.draft.blocks ≡ (done ++ l ∷ []) ++ map (λ _. []) bs = one.blocks ∙ ap (λ x. slice_set x n l) blocks ∙ set_mid done [] l (map (λ _. []) bs) n dn in
      let given_then : one.out.read.draft.given ≡ (given ++ true ∷ []) ++ replicate (length bs) false = one.given ∙ ap (λ x. slice_set x n true) are ∙ set_mid given false true (replicate (length bs) false) n gn in
      let more = blocks_on_from bs lists (suc n) one.out t (done ++ l ∷ []) (given ++ true ∷ []) places (omega arith) (and_second (claims_fit m f l) (list_all (claims_fit m f) lists) fits)
      (longer done l n dn) blocks_then (longer given true n gn) (all_end (λ b. b) given true all refl) given_then after.0 ends in
      let whole : blocks_text m f (b ∷ bs) (l ∷ lists) ++ t ≡ block_text m f b l ++ rest = append_assoc (block_text m f b l) (blocks_text m f bs lists) t in
      let first : text.past_blocks (at i (block_text m f b l ++ rest)) ≡ false = ap (λ x. not (bytes_eq x (codes "block"))) (word_on (codes "block") (32 ∷ (local_text f b.label ++ (10 ∷ claims_text m f l) ++ rest)) refl refl) in
      record {
        out = more.out;
        count = tt ∷ more.count;
        read = subst (λ x. Listed text.past_blocks (text.block m f).says (at i x) (tt ∷ more.count) (at more.out t)) (sym whole) (first, at one.out rest, one.read, more.read);
        between = more.between;
        sections = one.sections ∙ more.sections;
        parameters = one.parameters ∙ more.parameters;
        blocks = more.blocks ∙ append_assoc done (l ∷ []) lists;
        given = more.given;
      }

  -- ---- the parameters of a section

  -- no parameter comes there
  abbrev NoParameter : Text → Type 0
  NoParameter t = (bytes_eq (word_at t) (codes "param") ≡ false) × (past_lines false t ≡ t)

  parameters_begin : (ps : List Parameter) (promises : List (Option Promise)) (t : Text) → past_lines false t ≡ t → past_lines false (parameters_text m f ps promises ++ t) ≡ parameters_text m f ps promises ++ t
  parameters_begin [] promises t e = e
  parameters_begin (p ∷ ps) [] t e = e
  parameters_begin (p ∷ ps) (None ∷ promises) t e = parameters_begin ps promises t e
  parameters_begin (p ∷ ps) (Some q ∷ promises) t e = refl

  parameters_on_from : (ps : List Parameter) (promises : List (Option Promise)) (n : ℕ) (i : Input) (t : Text) (done : List (Option Promise))
      → ((k : ℕ) → slice_get f.parameters (n + k) ≡ slice_get ps k) → length promises ≡ length ps → list_all (λ p. parameter_fits m f p.0 p.1) (zip ps promises) ≡ true
      → length done ≡ n → i.read.draft.parameters ≡ done ++ replicate (length ps) None → Between m f i.read.draft → NoParameter t → ParametersOn m f i ps promises done t
  unfolding with_promise
  parameters_on_from [] [] n i t done at_place len fits dn are between ends = record {
    out = i;
    count = [];
    read = (ap not ends.0, refl);
    between = between;
    sections = refl;
    parameters = are;
    blocks = refl;
    given = refl;
  }
  parameters_on_from [] (q ∷ promises) n i t done at_place len fits dn are between ends = absurd (omega arith)
  parameters_on_from (p ∷ ps) [] n i t done at_place len fits dn are between ends = absurd (omega arith)
  parameters_on_from (p ∷ ps) (None ∷ promises) n i t done at_place len fits dn are between ends =
      let places : (k : ℕ) → slice_get f.parameters (suc n + k) ≡ slice_get ps k = λ k. (let e : suc n + k ≡ n + suc k = omega arith in ap (slice_get f.parameters) e ∙ at_place (suc k)) in
      let then_are : i.read.draft.parameters ≡ (done ++ None ∷ []) ++ replicate (length ps) None = are ∙ sym (append_assoc done (None ∷ []) (replicate (length ps) None)) in
      let more = parameters_on_from ps promises (suc n) i t (done ++ None ∷ []) places (omega arith) fits (longer done None n dn) then_are between ends in
      record {
        out = more.out;
        count = more.count;
        read = more.read;
        between = more.between;
        sections = more.sections;
        parameters = more.parameters ∙ append_assoc done (None ∷ []) promises;
        blocks = more.blocks;
        given = more.given;
      }
  parameters_on_from (p ∷ ps) (Some q ∷ promises) n i t done at_place len fits dn are between ends =
      let here : n + 0 ≡ n = omega arith in
      let is : slice_get f.parameters n ≡ Some p = ap (slice_get f.parameters) (sym here) ∙ at_place 0 in
      let free : slice_get i.read.draft.parameters n ≡ Some None = ap (λ x. slice_get x n) are ∙ get_mid done None (replicate (length ps) None) n dn in
      let rest = parameters_text m f ps promises ++ t in
      let one = parameter_on m f named own i n p q rest rest is free (and_first (promise_fits m (family_of_value m f p.value) q) (list_all (λ p. parameter_fits m f p.0 p.1) (zip ps promises)) fits) (parameters_begin ps promises t ends.1) in
      let next = recorded (with_promise n q) i in
      let after = parameter_is m f (at i (parameter_text m f p (Some q) ++ rest)) tt (at next rest) one between in
      let places : (k : ℕ) → slice_get f.parameters (suc n + k) ≡ slice_get ps k = λ k. (let e : suc n + k ≡ n + suc k = omega arith in ap (slice_get f.parameters) e ∙ at_place (suc k)) in
      let then_are : next.read.draft.parameters ≡ (done ++ Some q ∷ []) ++ replicate (length ps) None = ap (λ x. slice_set x n (Some q)) are ∙ set_mid done None (Some q) (replicate (length ps) None) n dn in
      let more = parameters_on_from ps promises (suc n) next t (done ++ Some q ∷ []) places (omega arith) (and_second (promise_fits m (family_of_value m f p.value) q) (list_all (λ p. parameter_fits m f p.0 p.1) (zip ps promises)) fits) (longer done (Some q) n dn) then_are after.0 ends in
      let whole : parameters_text m f (p ∷ ps) (Some q ∷ promises) ++ t ≡ parameter_text m f p (Some q) ++ rest = append_assoc (parameter_text m f p (Some q)) (parameters_text m f ps promises) t in
      let first : text.past_parameters (at i (parameter_text m f p (Some q) ++ rest)) ≡ false = ap (λ x. not (bytes_eq x (codes "param"))) (word_on (codes "param") (32 ∷ (local_text f p.value ++ promise_text m q ++ rest)) refl refl) in
      record {
        out = more.out;
        count = tt ∷ more.count;
        read = subst (λ x. Listed text.past_parameters (text.parameter m f).says (at i x) (tt ∷ more.count) (at more.out t)) (sym whole) (first, at next rest, one, more.read);
        between = more.between;
        sections = more.sections;
        parameters = more.parameters ∙ append_assoc done (Some q ∷ []) promises;
        blocks = more.blocks;
        given = more.given;
      }

  -- ---- a section

  -- the word of a mark
  abbrev mark_word : Mark → Text
  mark_word mark.May = codes "may"
  mark_word mark.None = codes "none"

  mark_is : (given : Mark) (t : Text) → (stops (mark_text given ++ t) ≡ true) × (past_blanks (mark_text given ++ t) ≡ mark_word given ++ t) × (is_word (mark_word given) ≡ true) × (mark_of_word (mark_word given) ≡ Some given)
  mark_is mark.May t = (refl, refl, refl, refl)
  mark_is mark.None t = (refl, refl, refl, refl)

  -- what is kept of a section that is whole
  abbrev whole_kept : Section → Option Kept
  whole_kept section = Some (record { section = section; missing = None })

  none_missing : (given : List Bool) → list_all (λ b. b) given ≡ true → position_or_len not given ≡ length given
  none_missing [] e = refl
  none_missing (true ∷ given) e = let more = none_missing given e in omega (arith, more)
  none_missing (false ∷ given) e = absurd cc

  not_missing : (given : List Bool) → list_all (λ b. b) given ≡ true → position not given ≡ None
  not_missing given e =
      let same = none_missing given e in
      let no : nat_lt (position_or_len not given) (length given) ≡ false = le-ltb (position_or_len not given) (length given) (omega (arith, same)) in
      rw no refl

  result_begins : (p : Option Promise) (t : Text) → past_lines false t ≡ t → bytes_eq (word_at t) (codes "param") ≡ false → NoParameter (result_text m p ++ t)
  result_begins None t e other = (other, e)
  result_begins (Some p) t e other = (ap (λ x. bytes_eq x (codes "param")) (word_on (codes "result") (promise_text m p ++ t) refl (promise_stops p.layout p.nonnull p.below p.number t)), refl)
    where
      promise_stops : (layout : Option ℕ) (nonnull : Bool) (n : Option ℕ) (number : Bool) (t : Text) → stops (promise_text m (record { layout = layout; nonnull = nonnull; below = n; number = number }) ++ t) ≡ true
      promise_stops None false None false t = refl
      promise_stops None false (Some n) false t = refl
      promise_stops None true n false t = refl
      promise_stops (Some l) nonnull n false t = refl
      promise_stops layout nonnull n true t = refl

  blocks_word : (bs : List Block) (lists : List (List Claim)) (t : Text) → EndsBlocks t → (bytes_eq (word_at (blocks_text m f bs lists ++ t)) (codes "param") ≡ false) × (bytes_eq (word_at (blocks_text m f bs lists ++ t)) (codes "result") ≡ false)
  blocks_word [] lists t ends = (ap (λ x. bytes_eq x (codes "param")) ends.0, ap (λ x. bytes_eq x (codes "result")) ends.0)
  blocks_word (b ∷ bs) [] t ends = (ap (λ x. bytes_eq x (codes "param")) ends.0, ap (λ x. bytes_eq x (codes "result")) ends.0)
  blocks_word (b ∷ bs) (l ∷ lists) t ends = (ap (λ x. bytes_eq x (codes "param")) (word_on (codes "block") (32 ∷ (local_text f b.label ++ (10 ∷ claims_text m f l) ++ blocks_text m f bs lists ++ t)) refl refl), ap (λ x. bytes_eq x (codes "result")) (word_on (codes "block") (32 ∷ (local_text f b.label ++ (10 ∷ claims_text m f l) ++ blocks_text m f bs lists ++ t)) refl refl))

  -- the blocks of a section that begins
  all_blocks_on : (bs : List Block) (blocks : List (List Claim)) (i : Input) (t : Text) → f.blocks ≡ bs → length blocks ≡ length bs → entry_is_empty blocks ≡ true → list_all (claims_fit m f) blocks ≡ true
      → i.read.draft.blocks ≡ map (λ _. []) bs → i.read.draft.given ≡ slice_set (replicate (length bs) false) 0 true → Between m f i.read.draft → EndsBlocks t
      → (done : List (List Claim)) × BlocksOn m f i (drop 1 bs) (drop 1 blocks) done t × (done ++ drop 1 blocks ≡ blocks)
  all_blocks_on [] [] i t are len entry fits blocks given between ends =
      ([], blocks_on_from [] [] 0 i t [] [] (λ k. (let e : 0 + k ≡ k = omega arith in ap (slice_get f.blocks) e ∙ ap (λ x. slice_get x k) are)) refl refl refl blocks refl refl given between ends, refl)
  all_blocks_on [] (l ∷ blocks) i t are len entry fits bs given between ends = absurd (omega arith)
  all_blocks_on (b ∷ bs) [] i t are len entry fits blocks given between ends = absurd (omega arith)
  all_blocks_on (b ∷ bs) ((l ∷ ls) ∷ lists) i t are len entry fits blocks given between ends = absurd cc
  all_blocks_on (b ∷ bs) ([] ∷ lists) i t are len entry fits blocks given between ends =
      ([] ∷ [], blocks_on_from bs lists 1 i t ([] ∷ []) (true ∷ []) (λ k. (let e : 1 + k ≡ suc k = omega arith in ap (slice_get f.blocks) e ∙ ap (λ x. slice_get x (suc k)) are)) (omega arith) fits refl blocks refl refl given between ends, refl)

  -- a section that is the next text
  section_on : (n : ℕ) (section : Section) (i : Input) (t : Text) → slice_get m.functions n ≡ Some f → slice_get i.read.sections n ≡ Some None → section_fits m f section ≡ true → past_lines false t ≡ t
      → (o : Input) × (text.section m).says (at i (section_text m f section ++ t)) tt (at o t) × (o.read.sections ≡ slice_set i.read.sections n (whole_kept section))
  unfolding text.section text.section_after text.section_of text.body text.parameters text.blocks begin begun new_function marked with_section
  section_on n section i t is new fits start =
      let two = and_first (parameters_fit m f section.parameters && promised_fits m (family_of_type m f.returned) section.result) (blocks_fit m f section.blocks) fits in
      let params_fit = and_first (parameters_fit m f section.parameters) (promised_fits m (family_of_type m f.returned) section.result) two in
      let result_fits = and_second (parameters_fit m f section.parameters) (promised_fits m (family_of_type m f.returned) section.result) two in
      let all_fit = and_second (parameters_fit m f section.parameters && promised_fits m (family_of_type m f.returned) section.result) (blocks_fit m f section.blocks) fits in
      let blocks_two = and_first (length section.blocks == length f.blocks && entry_is_empty section.blocks) (list_all (claims_fit m f) section.blocks) all_fit in
      let blocks_len = eqb-true (length section.blocks) (length f.blocks) (and_first (length section.blocks == length f.blocks) (entry_is_empty section.blocks) blocks_two) in
      let entry = and_second (length section.blocks == length f.blocks) (entry_is_empty section.blocks) blocks_two in
      let lines = and_second (length section.blocks == length f.blocks && entry_is_empty section.blocks) (list_all (claims_fit m f) section.blocks) all_fit in
      let pairs = list_all (λ p. parameter_fits m f p.0 p.1) (zip f.parameters section.parameters) in
      let params_len = eqb-true (length section.parameters) (length f.parameters) (and_first (length section.parameters == length f.parameters) pairs params_fit) in
      let each_param = and_second (length section.parameters == length f.parameters) pairs params_fit in
      let g = global_text m f.symbol in
      let mk = mark_text section.mark in
      let p = parameters_text m f f.parameters section.parameters in
      let r = result_text m section.result in
      let b = blocks_text m f (drop 1 f.blocks) (drop 1 section.blocks) in
      let e : Text = codes "end" ++ 10 ∷ [] in
      let x1 : Text = codes "end" ++ 10 ∷ t in
      let ends : EndsBlocks x1 = (word_on (codes "end") (10 ∷ t) refl refl, refl) in
      let x2 = b ++ x1 in
      let x3 = r ++ x2 in
      let x4 = p ++ x3 in
      let after = block_ends (drop 1 f.blocks) (drop 1 section.blocks) x1 ends in
      let other = blocks_word (drop 1 f.blocks) (drop 1 section.blocks) x1 ends in
      let no_param = result_begins section.result x2 after.1 other.0 in
      let s0 : Input = recorded (begun m f) i in
      let params = parameters_on_from f.parameters section.parameters 0 s0 x3 [] (λ k. (let z : 0 + k ≡ k = omega arith in ap (slice_get f.parameters) z)) params_len each_param refl refl (at_start m f) no_param in
      let result = result_on m f named own params.out section.result x2 x2 result_fits after.1 after.1 other.1 refl in
      let blocks = all_blocks_on f.blocks section.blocks params.out x1 refl blocks_len entry lines (sym params.blocks) (sym params.given) params.between ends in
      let out = blocks.1.out in
      let o : Input = recorded (with_section n section.mark section.result) out in
      let printed = function_printed m n f named is in
      let a = mk ++ (10 ∷ x4) in
      let mark_here = mark_is section.mark (10 ∷ x4) in
      let head_text : (codes "function " ++ g ++ mk ++ 10 ∷ []) ++ x4 ≡ codes "function " ++ (g ++ a) = ap (λ (x : Text). codes "function " ++ x) (append_assoc (g ++ mk) (10 ∷ []) x4 ∙ append_assoc g mk (10 ∷ x4)) in
      let h : Text = codes "function " ++ g ++ mk ++ 10 ∷ [] in
      let whole : section_text m f section ++ t ≡ codes "function " ++ (g ++ a) =
      append_assoc (h ++ p ++ r ++ b) e t ∙ append_assoc (h ++ p ++ r) b x1 ∙ append_assoc (h ++ p) r x2 ∙ append_assoc h p x3 ∙ head_text in
      let first : ComesAfter (32 ∷ (g ++ a)) (g ++ a) = (refl, blanks_on g a printed.1) in
      let after_name : ComesAfter a (mark_word section.mark ++ 10 ∷ x4) = (mark_here.0, mark_here.1) in
      let w = mark_word section.mark in
      let name : (new_function m).says (at i (g ++ a)) n (at i (w ++ 10 ∷ x4)) =
      subst (λ x. (function_named x).says (at i (g ++ a)) n (at i (w ++ 10 ∷ x4))) (sym (ap (function_of_word m) (word_is i g a (w ++ 10 ∷ x4) printed.1 after_name) ∙ printed.0))
      (subst (λ x. (function_by n x).says (at i (g ++ a)) n (at i (w ++ 10 ∷ x4))) (sym new) (taken_on n i g a (w ++ 10 ∷ x4) printed.1 after_name)) in
      let body : (text.body m f).says (at i x4) section.result (at out x1) = (
        tt,
        at s0 x4,
        (refl, refl),
        (
          tt,
          at params.out x3,
          (params.count, at params.out x3, params.read, (refl, refl)),
          (
            section.result,
            at params.out x2,
            result,
            (tt, at out x1, (blocks.1.count, at out x1, blocks.1.read, (refl, refl)), (refl, refl)),
          ),
        ),
      ) in
      let rest : (text.section_of m n f).says (at i (w ++ 10 ∷ x4)) tt (at o t) = (
        section.mark,
        at i (10 ∷ x4),
        as_on mark_of_word section.mark i w (10 ∷ x4) (10 ∷ x4) mark_here.2 (refl, refl) mark_here.3,
        (
          tt,
          at i x4,
          line_end_on i x4 x4 (parameters_begin f.parameters section.parameters x3 no_param.1),
          (
            section.result,
            at out x1,
            body,
            (
              tt,
              at out (10 ∷ t),
              expect_on out (codes "end") (10 ∷ t) (10 ∷ t) refl (refl, refl),
              (tt, at out t, line_end_on out t t start, (refl, refl)),
            ),
          ),
        ),
      ) in
      let by_name : (text.section_by m n (slice_get m.functions n)).says (at i (w ++ 10 ∷ x4)) tt (at o t) = subst (λ x. (text.section_by m n x).says (at i (w ++ 10 ∷ x4)) tt (at o t)) (sym is) rest in
      let missing : position not out.read.draft.given ≡ None = not_missing out.read.draft.given blocks.1.given in
      let sections_same : i.read.sections ≡ out.read.sections = params.sections ∙ blocks.1.sections in
      let parameters_same : out.read.draft.parameters ≡ section.parameters = sym blocks.1.parameters ∙ params.parameters in
      let blocks_same : out.read.draft.blocks ≡ section.blocks = blocks.1.blocks ∙ blocks.2 in
      let kept_same : Some (kept section.mark section.result out.read.draft) ≡ whole_kept section =
      ap (λ x. Some (kept_of section.mark section.result x out.read.draft.blocks (position not out.read.draft.given))) parameters_same
      ∙ ap (λ x. Some (kept_of section.mark section.result section.parameters x (position not out.read.draft.given))) blocks_same
      ∙ ap (λ x. Some (kept_of section.mark section.result section.parameters section.blocks x)) missing in (
        o,
        subst (λ x. (text.section m).says (at i x) tt (at o t)) (sym whole)
            (tt, at i (g ++ a), expect_on i (codes "function") (32 ∷ (g ++ a)) (g ++ a) refl first, (n, at i (w ++ 10 ∷ x4), name, by_name)),
        ap (λ x. slice_set x n (Some (kept section.mark section.result out.read.draft))) (sym sections_same) ∙ ap (slice_set i.read.sections n) kept_same,
      )
    where
      kept_of : Mark → Option Promise → List (Option Promise) → List (List Claim) → Option ℕ → Kept
      kept_of mark result parameters blocks missing = record { section = record { mark = mark; parameters = parameters; result = result; blocks = blocks }; missing = missing }

-- ---- the whole

module _ (m : Module) (named : IsNamed m) where
  abbrev kept_whole : List Section → List (Option Kept)
  kept_whole sections = map (λ section. Some (record { section = section; missing = None })) sections

  pub sections_begin : (fs : List Function) (ss : List Section) → past_lines false (sections_text m fs ss) ≡ sections_text m fs ss
  sections_begin [] ss = refl
  sections_begin (f ∷ fs) [] = refl
  sections_begin (f ∷ fs) (s ∷ ss) = refl

  -- nothing of the code outside comes where a section begins, or the text ends
  pub sections_follow : (i : Input) (fs : List Function) (ss : List Section) → PastOutside (at i (sections_text m fs ss))
  sections_follow i [] ss = (refl, refl)
  sections_follow i (f ∷ fs) [] = (refl, refl)
  sections_follow i (f ∷ fs) (s ∷ ss) =
      let first : word_at (sections_text m (f ∷ fs) (s ∷ ss)) ≡ codes "function" = word_on (codes "function") (drop 8 (sections_text m (f ∷ fs) (s ∷ ss))) refl refl in
      (ap (λ w. not (bytes_eq w (codes "foreign"))) first, ap (λ w. not (bytes_eq w (codes "number"))) first)

  sections_on_from : (fs : List Function) (ss : List Section) (n : ℕ) (i : Input) (done : List (Option Kept)) → ((k : ℕ) → slice_get m.functions (n + k) ≡ slice_get fs k) → length ss ≡ length fs
      → list_all (λ p. section_fits m p.0 p.1) (zip fs ss) ≡ true → length done ≡ n → i.read.sections ≡ done ++ map (λ _. None) fs
      → (o : Input) × (count : List (Unit {0})) × Listed ended (text.section m).says (at i (sections_text m fs ss)) count (at o []) × (o.read.sections ≡ done ++ kept_whole ss)
  sections_on_from [] [] n i done at_place len fits dn are = (i, [], (refl, refl), are)
  sections_on_from [] (s ∷ ss) n i done at_place len fits dn are = absurd (omega arith)
  sections_on_from (f ∷ fs) [] n i done at_place len fits dn are = absurd (omega arith)
  sections_on_from (f ∷ fs) (s ∷ ss) n i done at_place len fits dn are =
      let here : n + 0 ≡ n = omega arith in
      let is : slice_get m.functions n ≡ Some f = ap (slice_get m.functions) (sym here) ∙ at_place 0 in
      let new : slice_get i.read.sections n ≡ Some None = ap (λ x. slice_get x n) are ∙ get_mid done None (map (λ _. None) fs) n dn in
      let rest = sections_text m fs ss in
      let own = (named.functions n f is).2 in
      let one = section_on m f named own n s i rest is new (and_first (section_fits m f s) (list_all (λ p. section_fits m p.0 p.1) (zip fs ss)) fits) (sections_begin fs ss) in
      let places : (k : ℕ) → slice_get m.functions (suc n + k) ≡ slice_get fs k = λ k. (let e : suc n + k ≡ n + suc k = omega arith in ap (slice_get m.functions) e ∙ at_place (suc k)) in
      let kept_s : Option Kept = Some (record { section = s; missing = None }) in
      let then_are : (one.0).read.sections ≡ (done ++ kept_s ∷ []) ++ map (λ _. None) fs = one.2 ∙ ap (λ x. slice_set x n kept_s) are ∙ set_mid done None kept_s (map (λ _. None) fs) n dn in
      let more = sections_on_from fs ss (suc n) one.0 (done ++ kept_s ∷ []) places (omega arith) (and_second (section_fits m f s) (list_all (λ p. section_fits m p.0 p.1) (zip fs ss)) fits) (longer done kept_s n dn) then_are in
      (more.0, tt ∷ more.1, (refl, at one.0 rest, one.1, more.2), more.3 ∙ append_assoc done (kept_s ∷ []) (kept_whole ss))

  no_gap : (n : ℕ) (ss : List Section) → text.first_gap n (kept_whole ss) ≡ None
  no_gap n [] = refl
  no_gap n (s ∷ ss) = no_gap (n + 1) ss

  all_there : (ss : List Section) → text.sections_in (kept_whole ss) ≡ ss
  all_there [] = refl
  all_there (s ∷ ss) = ap (λ (x : List Section). s ∷ x) (all_there ss)

  -- sections that fit are read where none is read so far
  pub sections_printed : (i : Input) (ss : List Section) → fits m ss ≡ true → i.read.sections ≡ map (λ _. None) m.functions
      → (o : Input) × (text.sections m).says (at i (sections_text m m.functions ss)) tt (at o []) × text.finished.says (at o []) ss (recorded emptied (at o []))
  unfolding text.sections text.finished emptied
  sections_printed i ss e none =
      let pairs = list_all (λ p. section_fits m p.0 p.1) (zip m.functions ss) in
      let len = eqb-true (length ss) (length m.functions) (and_first (length ss == length m.functions) pairs e) in
      let each = and_second (length ss == length m.functions) pairs e in
      let read = sections_on_from m.functions ss 0 i [] (λ k. (let z : 0 + k ≡ k = omega arith in ap (slice_get m.functions) z)) len each refl none in
      let o = read.0 in
      let gap : text.first_gap 0 o.read.sections ≡ None = ap (text.first_gap 0) read.3 ∙ no_gap 0 ss in
      let out = recorded emptied (at o []) in
      let last : text.finished.says (at o []) ss out = subst (λ x. (text.finished_by x).says (at o []) ss out) (sym gap) (ap text.sections_in read.3 ∙ all_there ss, refl) in
      (o, (read.1, at o [], read.2, (refl, refl)), last)

  goes_one : (one two opaque may : Bool) → one ≡ true → opaque ≡ false → ((one && not opaque) || (two && may)) ≡ true
  goes_one true two false may a b = refl
  goes_one true two true may a b = absurd cc
  goes_one false two opaque may a b = absurd cc

  -- what is printed of certificates of a typed text is a text of them
  pub typed_printed : (shapes : ShapeDraft) (ss : List Section) (foreign : Outside) → AreStart m shapes → is_opaque_text m ≡ false → fits m ss ≡ true → foreign_fits m foreign ≡ true
      → IsCert ((codes "cert 1" ++ 10 ∷ outside_text m foreign) ++ sections_text m m.functions ss) m (record { sections = ss; shapes = None; foreign = foreign })
  unfolding text.file text.version text.without_shapes emptied
  typed_printed shapes ss foreign start typed e trusted =
      let sect = sections_text m m.functions ss in
      let rest = outside_text m foreign ++ sect in
      let i : Input = start_of m shapes ((codes "cert 1" ++ 10 ∷ outside_text m foreign) ++ sect) in
      let read = sections_printed i ss e refl in
      let o = read.0 in
      let afterwards : ComesAfter (32 ∷ (codes "1" ++ 10 ∷ rest)) (codes "1" ++ 10 ∷ rest) = (refl, refl) in
      let one = word_is i (codes "1") (10 ∷ rest) (10 ∷ rest) refl (refl, refl) in
      let j : Input = at i (codes "1" ++ 10 ∷ rest) in
      let goes : goes_with m (word j) ≡ true = ap (goes_with m) one ∙ goes_one (bytes_eq (codes "1") (49 ∷ [])) (bytes_eq (codes "1") (50 ∷ [])) (is_opaque_text m) (may_be_shaped m) refl typed in
      let two : begins (50 ∷ []) j ≡ false = ap (λ x. bytes_eq x (50 ∷ [])) one in
      let number : (text.version m).says j false (at i (10 ∷ rest)) =
      (tt, j, (ap is_number one, refl), (tt, j, (goes, refl), subst (λ (b : Bool). (taken {M = Mistake} b).says j false (at i (10 ∷ rest))) (sym two) (taken_on false i (codes "1") (10 ∷ rest) (10 ∷ rest) refl (refl, refl)))) in
      let names = outside_on m named i foreign sect trusted refl refl (sections_begin m.functions ss) (sections_follow i m.functions ss) in (
        shapes,
        start,
        recorded emptied (at o []),
        (
          tt,
          j,
          expect_on i (codes "cert") (32 ∷ (codes "1" ++ 10 ∷ rest)) (codes "1" ++ 10 ∷ rest) refl afterwards,
          (
            false,
            at i (10 ∷ rest),
            number,
            (
              tt,
              at i rest,
              line_end_on i rest rest (begins_outside m foreign sect (sections_begin m.functions ss)),
              (foreign, at i sect, names, (tt, at o [], read.1, (ss, recorded emptied (at o []), read.2, (refl, refl)))),
            ),
          ),
        ),
      )

pub cert_printed : ArePrintedAgain
cert_printed m certs begun start named typed own none fit trusted =
    let rest = sections_text m m.functions certs.sections in
    let head : Text = codes "cert 1" ++ 10 ∷ outside_text m certs.foreign in
    let text : head ++ rest ≡ cert_text certs m = ap (λ x. head_text m certs.foreign x ++ rest) (sym (ap (λ x. shapes_with x m.shapes) none ∙ own)) in
    let same : ◌≡◌ {A = Certs} (record { sections = certs.sections; shapes = None; foreign = certs.foreign }) certs = ap (λ (x : Option Shapes). record { sections = certs.sections; shapes = x; foreign = certs.foreign }) (sym none) in
    subst (λ x. IsCert x m certs) text (subst (λ x. IsCert (head ++ rest) m x) same (typed_printed m named begun certs.sections certs.foreign start typed fit trusted))
