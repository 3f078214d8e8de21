-- Printed blocks are read as what they were printed for.
use Rattle.std.proofs.Common.{◌≡◌, ℕ, Bool, true, false, not, ◌&&◌, ◌||◌, List, [], ◌∷◌, ◌++◌, slice_get, slice_set, codes, Option, Some, None, refl, ap, sym, subst, ◌∙◌, append_assoc}
use Rattle.std.specs.Prelude.{◌==◌, unwrap_or}
use Rattle.std.specs.List.{list_all, list_any}
use Rattle.std.specs.Str.{bytes_eq}
use Rattle.std.proofs.lemmas.Bool.{eqb-true, eq-eqb}
use Rattle.std.proofs.lemmas.List.{append-nil}
use Rattle.lemmas.specs.Lists.{all_end}
use Rattle.lemmas.specs.Bools.{or_second, or_first, or_neither, and_second, and_first}
use Rattle.grammar.specs.Many.{Listed}
use Rattle.ir_ast.specs.declared.block.Block.{Block}
use Rattle.ir_ast.specs.declared.function.Function.{Function}
use Rattle.ir_ast.specs.declared.module.Module.{Module}
use Rattle.ir_tokens.specs.Bytes.{Text}
use Rattle.name_text.specs.Words.{past_lines, word_at, stops}
use Rattle.certificate.specs.Names.{block_of_word}
use Rattle.certs.specs.RootNames.{root_names}
use Rattle.certificate.specs.Drafts.{is_in, first_unlisted}
use Rattle.name_text.specs.Reader.{recorded}
use Rattle.certificate.specs.Input.{Input, with_block}
use Rattle.certificate.specs.Forms.{block_by, block_named, new_block}
use Rattle.certificate.specs.Lines.{line}
use Rattle.certificate.specs.Text as text
use Rattle.certs.specs.Fits.{claim_fits, lists, lists_slot, is_listed, lists_once, named_in, named_in_fact, lists_named, all_named_listed, claims_fit, is_value}
use Rattle.certificate.specs.Named.{IsNamed, IsNamedFunction}
use Rattle.certificate.specs.Print.{word_if, value_text, local_text, fact_text, claim_text, claims_text, block_text}
use Rattle.name_text.specs.Seams.{word_on, blanks_on, lines_on, all_bytes}
use Rattle.certificate.proofs.PrintedNames.{value_printed, block_printed}
use Rattle.certificate.proofs.PrintedLines.{at, ComesAfter, word_is, taken_on, expect_on, line_end_on, noting, lined, IsValue, IsNew, line_on, value_is}
use Rattle.certificate.proofs.Between.{turned, all_weaker, any_more, Between, Within, block_begins}
use Rattle.certificate.proofs.ReadFits.{line_is}
use Rattle.certificate.specs.declared.draft.SectionDraft.{SectionDraft}
use Rattle.certificate.specs.declared.draft.RequiredValue.{RequiredValue}
use Rattle.certs.specs.declared.section.Fact.{Fact}
use Rattle.certs.specs.declared.section.Fact.TheVariants as fact
use Rattle.certs.specs.declared.section.Claim.{Claim}
use Rattle.certs.specs.declared.section.Claim.TheVariants as line

-- ---- what a list of lines lists and names

abbrev names : (value : ℕ) → Option ℕ → Bool
names value None = false
names value (Some other) = other == value

-- each value that is wanted is named in some line
abbrev pub AllNamed : SectionDraft → Type 0
AllNamed d = list_all (λ (w : RequiredValue). list_any (λ (line : Claim). names w.value (named_in line)) d.lines) d.wanted ≡ true

not_false : (a b : Bool) → (not a && b) ≡ true → (a ≡ false) × (b ≡ true)
not_false true b e = absurd cc
not_false false b e = (refl, e)

-- a line that comes later is not listed before
same_apart : (old new : Claim) (lines : List Claim) → is_listed (new ∷ lines) old ≡ false → is_listed (old ∷ []) new ≡ false
same_apart (line.Value v fact) (line.Value w other) lines e = let h = or_neither (w == v) (list_any (lists v) lines) e in rw (turned w v h.0) refl
same_apart (line.Value v fact) (line.Slot s nonnull holds) lines e = refl
same_apart (line.Slot s nonnull holds) (line.Value w other) lines e = refl
same_apart (line.Slot s nonnull holds) (line.Slot t n h) lines e = let h = or_neither (t == s) (list_any (lists_slot s) lines) e in rw (turned t s h.0) refl

skip_listed : (old : Claim) (done : List Claim) (new : Claim) (lines : List Claim) → is_listed (done ++ new ∷ lines) old ≡ false → is_listed (new ∷ lines) old ≡ false
skip_listed old [] new lines e = e
skip_listed (line.Value v fact) (d ∷ done) new lines e = skip_listed (line.Value v fact) done new lines (or_neither (lists v d) (list_any (lists v) (done ++ new ∷ lines)) e).1
skip_listed (line.Slot s nonnull holds) (d ∷ done) new lines e = skip_listed (line.Slot s nonnull holds) done new lines (or_neither (lists_slot s d) (list_any (lists_slot s) (done ++ new ∷ lines)) e).1

no_or : (a b : Bool) → a ≡ false → b ≡ false → (a || b) ≡ false
no_or true b e g = absurd cc
no_or false b e g = g

listed_both : (old new : Claim) (done : List Claim) → is_listed (old ∷ []) new ≡ false → is_listed done new ≡ false → is_listed (old ∷ done) new ≡ false
listed_both old (line.Value v fact) done e g = no_or (lists v old) (list_any (lists v) done) (or_neither (lists v old) false e).0 g
listed_both old (line.Slot s nonnull holds) done e g = no_or (lists_slot s old) (list_any (lists_slot s) done) (or_neither (lists_slot s old) false e).0 g

none_listed : (new : Claim) → is_listed [] new ≡ false
none_listed (line.Value v fact) = refl
none_listed (line.Slot s nonnull holds) = refl

once_new : (done : List Claim) (new : Claim) (lines : List Claim) → lists_once (done ++ new ∷ lines) ≡ true → is_listed done new ≡ false
once_new [] new lines e = none_listed new
once_new (d ∷ done) new lines e =
    let h = not_false (is_listed (done ++ new ∷ lines) d) (lists_once (done ++ new ∷ lines)) e in
    listed_both d new done (same_apart d new lines (skip_listed d done new lines h.0)) (once_new done new lines h.1)

named_listed : (all lines : List Claim) (value : ℕ) → list_any (λ (line : Claim). names value (named_in line)) lines ≡ true → list_all (λ line. lists_named all (named_in line)) lines ≡ true → list_any (lists value) all ≡ true
named_listed all [] value e h = absurd cc
named_listed all (l ∷ lines) value e h = by (named_in l) e (and_first (lists_named all (named_in l)) (list_all (λ line. lists_named all (named_in line)) lines) h) (λ g. named_listed all lines value g (and_second (lists_named all (named_in l)) (list_all (λ line. lists_named all (named_in line)) lines) h))
  where
    here : (other : ℕ) (b : Bool) → other == value ≡ b → (b || list_any (λ (line : Claim). names value (named_in line)) lines) ≡ true → list_any (lists other) all ≡ true → (list_any (λ (line : Claim). names value (named_in line)) lines ≡ true → list_any (lists value) all ≡ true) → list_any (lists value) all ≡ true
    here other true is e g more = ap (λ x. list_any (lists x) all) (sym (eqb-true other value is)) ∙ g
    here other false is e g more = more e

    by : (o : Option ℕ) → (names value o || list_any (λ (line : Claim). names value (named_in line)) lines) ≡ true → lists_named all o ≡ true → (list_any (λ (line : Claim). names value (named_in line)) lines ≡ true → list_any (lists value) all ≡ true) → list_any (lists value) all ≡ true
    by None e g more = more e
    by (Some other) e g more = here other (other == value) refl e g more

-- nothing is unlisted where each value that is named is listed
all_listed : (block : ℕ) (values : List (Option ℕ)) (lines : List Claim) (wanted : List RequiredValue) → ((value : ℕ) → is_in block (slice_get values value) ≡ list_any (lists value) lines) → all_named_listed lines ≡ true
    → list_all (λ (w : RequiredValue). list_any (λ (line : Claim). names w.value (named_in line)) lines) wanted ≡ true → first_unlisted block values wanted ≡ None
all_listed block values lines [] same all named = refl
all_listed block values lines (w ∷ wanted) same all named =
    let one = and_first (list_any (λ (line : Claim). names w.value (named_in line)) lines) (list_all (λ (w : RequiredValue). list_any (λ (line : Claim). names w.value (named_in line)) lines) wanted) named in
    let more = and_second (list_any (λ (line : Claim). names w.value (named_in line)) lines) (list_all (λ (w : RequiredValue). list_any (λ (line : Claim). names w.value (named_in line)) lines) wanted) named in
    let here : is_in block (slice_get values w.value) ≡ true = same w.value ∙ named_listed lines lines w.value one all in
    rw here (all_listed block values lines wanted same all more)

-- ---- one line more

-- besides the lines of the block nothing has changed
abbrev pub SameRest : Input → Input → Type 0
SameRest i o = (i.read.sections ≡ o.read.sections) × (i.read.draft.parameters ≡ o.read.draft.parameters) × (i.read.draft.blocks ≡ o.read.draft.blocks) × (i.read.draft.given ≡ o.read.draft.given)

recorded_same : (value : Option ℕ) (n : ℕ) (i : Input) → SameRest i (noting value n i) × ((noting value n i).read.draft.lines ≡ i.read.draft.lines)
recorded_same None n i = ((refl, refl, refl, refl), refl)
recorded_same (Some value) n i = ((refl, refl, refl, refl), refl)

lined_same : (block n : ℕ) (said : Claim) (i : Input) → SameRest i (lined block n said i) × ((lined block n said i).read.draft.lines ≡ i.read.draft.lines ++ said ∷ [])
lined_same block n (line.Value value fact) i = let h = recorded_same (named_in_fact fact) n i in (h.0, ap (λ (x : List Claim). x ++ line.Value value fact ∷ []) h.1)
lined_same block n (line.Slot slot nonnull holds) i = let h = recorded_same holds n i in (h.0, ap (λ (x : List Claim). x ++ line.Slot slot nonnull holds ∷ []) h.1)

-- what is wanted stays named with one line more
more_named : (lines : List Claim) (wanted : List RequiredValue) (said : Claim) → list_all (λ (w : RequiredValue). list_any (λ (line : Claim). names w.value (named_in line)) lines) wanted ≡ true
    → list_all (λ (w : RequiredValue). list_any (λ (line : Claim). names w.value (named_in line)) (lines ++ said ∷ [])) wanted ≡ true
more_named lines wanted said e =
    all_weaker (λ (w : RequiredValue). list_any (λ (line : Claim). names w.value (named_in line)) lines) (λ (w : RequiredValue). list_any (λ (line : Claim). names w.value (named_in line)) (lines ++ said ∷ [])) wanted
    (λ w h. any_more (λ (line : Claim). names w.value (named_in line)) lines said ∙ or_first (list_any (λ (line : Claim). names w.value (named_in line)) lines) (names w.value (named_in said)) h) e

recorded_named : (value : Option ℕ) (n : ℕ) (i : Input) (said : Claim) → named_in said ≡ value → AllNamed i.read.draft
    → list_all (λ (w : RequiredValue). list_any (λ (line : Claim). names w.value (named_in line)) (i.read.draft.lines ++ said ∷ [])) (noting value n i).read.draft.wanted ≡ true
recorded_named None n i said is e = more_named i.read.draft.lines i.read.draft.wanted said e
recorded_named (Some value) n i said is e =
    all_end (λ (w : RequiredValue). list_any (λ (line : Claim). names w.value (named_in line)) (i.read.draft.lines ++ said ∷ [])) i.read.draft.wanted (record { value = value; left = n }) (more_named i.read.draft.lines i.read.draft.wanted said e)
    (any_more (λ (line : Claim). names value (named_in line)) i.read.draft.lines said ∙ or_second (list_any (λ (line : Claim). names value (named_in line)) i.read.draft.lines) (names value (named_in said)) (ap (names value) is ∙ eq-eqb value value refl))

lined_named : (block n : ℕ) (said : Claim) (i : Input) → AllNamed i.read.draft → AllNamed (lined block n said i).read.draft
lined_named block n (line.Value value fact) i e =
    let h = recorded_same (named_in_fact fact) n i in
    subst (λ (x : List Claim). list_all (λ (w : RequiredValue). list_any (λ (line : Claim). names w.value (named_in line)) (x ++ line.Value value fact ∷ [])) (noting (named_in_fact fact) n i).read.draft.wanted ≡ true) (sym h.1) (recorded_named (named_in_fact fact) n i (line.Value value fact) refl e)
lined_named block n (line.Slot slot nonnull holds) i e =
    let h = recorded_same holds n i in
    subst (λ (x : List Claim). list_all (λ (w : RequiredValue). list_any (λ (line : Claim). names w.value (named_in line)) (x ++ line.Slot slot nonnull holds ∷ [])) (noting holds n i).read.draft.wanted ≡ true) (sym h.1) (recorded_named holds n i (line.Slot slot nonnull holds) refl e)

-- ---- lines

-- the text continues with a word that ends the lines of a block
abbrev pub EndsLines : Text → Type 0
EndsLines t = ((bytes_eq (word_at t) (codes "block") || bytes_eq (word_at t) (codes "end")) ≡ true) × (past_lines false t ≡ t)

-- ---- what is read, with what is known then

-- lines that are the next text
pub record LinesOn (m : Module) (f : Function) (i : Input) (block : ℕ) (lines : List Claim) (t : Text) : Type 0 where
  pub out : Input
  pub count : List (Unit {0})
  pub read : Listed text.past_lines (line m f block).says (at i (claims_text m f lines ++ t)) count (at out t)
  pub within : Within m f block out.read.draft
  pub named_all : AllNamed out.read.draft
  pub lines_are : out.read.draft.lines ≡ i.read.draft.lines ++ lines
  pub rest : SameRest i out

-- a block that is the next text
pub record BlockOn (m : Module) (f : Function) (i : Input) (number : ℕ) (b : Block) (lines : List Claim) (t : Text) : Type 0 where
  pub out : Input
  pub read : (text.block m f).says (at i (block_text m f b lines ++ t)) tt (at out t)
  pub sections : i.read.sections ≡ out.read.sections
  pub parameters : i.read.draft.parameters ≡ out.read.draft.parameters
  pub blocks : out.read.draft.blocks ≡ slice_set i.read.draft.blocks number lines
  pub given : out.read.draft.given ≡ slice_set i.read.draft.given number true

-- a line and those after it
one_text : (m : Module) (f : Function) (l : Claim) (lines : List Claim) (t : Text) → claims_text m f (l ∷ lines) ++ t ≡ claim_text m f l ++ (10 ∷ (claims_text m f lines ++ t))
one_text m f l lines t = append_assoc (claim_text m f l ++ 10 ∷ []) (claims_text m f lines) t ∙ append_assoc (claim_text m f l) (10 ∷ []) (claims_text m f lines ++ t)

fact_stops : (m : Module) (f : Function) (said : Fact) (t : Text) → stops (fact_text m f said ++ 10 ∷ t) ≡ true
fact_stops m f (fact.Number bits n) t = refl
fact_stops m f (fact.Reference layout nonnull how same) t = refl
fact_stops m f (fact.Address base words) t = refl
fact_stops m f (fact.GlobalAddress symbol) t = refl

module _ (m : Module) (f : Function) (named : IsNamed m) (own : IsNamedFunction f) where
  is_new : (block : ℕ) (said : Claim) (i : Input) → Within m f block i.read.draft → claim_fits m f said ≡ true → is_listed i.read.draft.lines said ≡ false → IsNew block said i
  is_new block (line.Value value fact) i within fits new = within.1.values value ∙ new
  is_new block (line.Slot slot nonnull holds) i within fits new =
      (ap (λ x. unwrap_or (slice_get x slot) false) within.0.roots ∙ and_second (is_value f slot) (unwrap_or (slice_get (root_names m f) slot) false) fits, within.1.slots slot ∙ new)

  listed_value : (value : ℕ) (lines : List Claim) → list_all (claim_fits m f) lines ≡ true → list_any (lists value) lines ≡ true → is_value f value ≡ true
  listed_value value [] fits e = absurd cc
  listed_value value (l ∷ lines) fits e = by l (and_first (claim_fits m f l) (list_all (claim_fits m f) lines) fits) e (listed_value value lines (and_second (claim_fits m f l) (list_all (claim_fits m f) lines) fits))
    where
      by : (l : Claim) → claim_fits m f l ≡ true → (lists value l || list_any (lists value) lines) ≡ true → (list_any (lists value) lines ≡ true → is_value f value ≡ true) → is_value f value ≡ true
      by (line.Slot slot nonnull holds) fit e more = more e
      by (line.Value other fact) fit e more = here (other == value) refl e
        where
          here : (b : Bool) → other == value ≡ b → (b || list_any (lists value) lines) ≡ true → is_value f value ≡ true
          here true is e = ap (is_value f) (sym (eqb-true other value is)) ∙ value_is m f named own other fact fit
          here false is e = more e

  named_value : (all : List Claim) (value : Option ℕ) → list_all (claim_fits m f) all ≡ true → lists_named all value ≡ true → IsValue f value
  named_value all None fits e = tt
  named_value all (Some value) fits e = listed_value value all fits e

  -- a line begins with a word that ends no block
  line_begins : (said : Claim) (t : Text) → claim_fits m f said ≡ true → (past_lines false (claim_text m f said ++ t) ≡ claim_text m f said ++ t)
  line_begins (line.Value value fact) t fits =
      let p = value_printed f value own (value_is m f named own value fact fits) in
      ap (past_lines false) (append_assoc (local_text f value) _ t) ∙ lines_on (local_text f value) _ p.1 ∙ sym (append_assoc (local_text f value) _ t)
  line_begins (line.Slot slot nonnull holds) t fits = refl

  lines_begin : (lines : List Claim) (t : Text) → list_all (claim_fits m f) lines ≡ true → past_lines false t ≡ t → past_lines false (claims_text m f lines ++ t) ≡ claims_text m f lines ++ t
  lines_begin [] t fits e = e
  lines_begin (l ∷ lines) t fits e =
      let whole : claims_text m f (l ∷ lines) ++ t ≡ claim_text m f l ++ (10 ∷ (claims_text m f lines ++ t)) = one_text m f l lines t in
      ap (past_lines false) whole ∙ line_begins l (10 ∷ (claims_text m f lines ++ t)) (and_first (claim_fits m f l) (list_all (claim_fits m f) lines) fits) ∙ sym whole

  -- no line begins as a block or the end does
  goes_on : (i : Input) (said : Claim) (t : Text) → claim_fits m f said ≡ true → text.past_lines (at i (claim_text m f said ++ 10 ∷ t)) ≡ false
  goes_on i (line.Value value fact) t fits =
      let p = value_printed f value own (value_is m f named own value fact fits) in
      let w = local_text f value in
      let a = fact_text m f fact ++ 10 ∷ t in
      let is : word_at (claim_text m f (line.Value value fact) ++ 10 ∷ t) ≡ w = ap word_at (append_assoc w (fact_text m f fact) (10 ∷ t)) ∙ word_on w a (all_bytes w p.1) (fact_stops m f fact t) in
      ap (λ x. bytes_eq x (codes "block") || bytes_eq x (codes "end")) is
  goes_on i (line.Slot slot nonnull holds) t fits =
      ap (λ x. bytes_eq x (codes "block") || bytes_eq x (codes "end")) (word_on (codes "slot") (32 ∷ (local_text f slot ++ word_if nonnull (codes " nonnull") ++ value_text f (codes " holds ") holds ++ 10 ∷ t)) refl refl)

  lines_on_from : (block : ℕ) (all lines : List Claim) (i : Input) (t : Text) → list_all (claim_fits m f) all ≡ true → list_all (λ line. lists_named all (named_in line)) lines ≡ true → list_all (claim_fits m f) lines ≡ true
      → EndsLines t → lists_once (i.read.draft.lines ++ lines) ≡ true → Within m f block i.read.draft → AllNamed i.read.draft → LinesOn m f i block lines t
  lines_on_from block all [] i t fits_all listed fits ends once within named_all = record {
    out = i;
    count = [];
    read = (ends.0, refl);
    within = within;
    named_all = named_all;
    lines_are = sym (append-nil i.read.draft.lines);
    rest = (refl, refl, refl, refl);
  }
  lines_on_from block all (l ∷ lines) i t fits_all listed fits ends once within named_all =
      let fit = and_first (claim_fits m f l) (list_all (claim_fits m f) lines) fits in
      let more_fit = and_second (claim_fits m f l) (list_all (claim_fits m f) lines) fits in
      let afterwards = claims_text m f lines ++ t in
      let new = is_new block l i within fit (once_new i.read.draft.lines l lines once) in
      let value = named_value all (named_in l) fits_all (and_first (lists_named all (named_in l)) (list_all (λ line. lists_named all (named_in line)) lines) listed) in
      let one = line_on m f named own i block l afterwards afterwards fit value new (lines_begin lines t more_fit ends.1) in
      let next = lined block one.0 l i in
      let same = lined_same block one.0 l i in
      let inside = line_is m f block (at i (claim_text m f l ++ 10 ∷ afterwards)) tt (at next afterwards) one.1 within in
      let once_more : lists_once (next.read.draft.lines ++ lines) ≡ true = ap lists_once (ap (λ (x : List Claim). x ++ lines) same.1 ∙ append_assoc i.read.draft.lines (l ∷ []) lines) ∙ once in
      let more = lines_on_from block all lines next t fits_all (and_second (lists_named all (named_in l)) (list_all (λ line. lists_named all (named_in line)) lines) listed) more_fit ends once_more inside.0 (lined_named block one.0 l i named_all) in
      let whole = one_text m f l lines t in
      record {
        out = more.out;
        count = tt ∷ more.count;
        read = subst (λ x. Listed text.past_lines (line m f block).says (at i x) (tt ∷ more.count) (at more.out t)) (sym whole) (goes_on i l afterwards fit, at next afterwards, one.1, more.read);
        within = more.within;
        named_all = more.named_all;
        lines_are = more.lines_are ∙ ap (λ (x : List Claim). x ++ lines) same.1 ∙ append_assoc i.read.draft.lines (l ∷ []) lines;
        rest = (same.0.0 ∙ more.rest.0, same.0.1 ∙ more.rest.1, same.0.2 ∙ more.rest.2, same.0.3 ∙ more.rest.3);
      }

  -- ---- a block

  pub block_on : (i : Input) (number : ℕ) (b : Block) (lines : List Claim) (t : Text) → slice_get f.blocks number ≡ Some b → slice_get i.read.draft.given number ≡ Some false → Between m f i.read.draft → claims_fit m f lines ≡ true → EndsLines t → BlockOn m f i number b lines t
  unfolding text.block text.lines text.all_listed new_block with_block
  block_on i number b lines t is new between fits ends =
      let others = and_first (list_all (claim_fits m f) lines && lists_once lines) (all_named_listed lines) fits in
      let fit = and_first (list_all (claim_fits m f) lines) (lists_once lines) others in
      let once = and_second (list_all (claim_fits m f) lines) (lists_once lines) others in
      let listed = and_second (list_all (claim_fits m f) lines && lists_once lines) (all_named_listed lines) fits in
      let begun = block_begins m f number i.read.draft new between in
      let none : i.read.draft.lines ++ lines ≡ lines = ap (λ (x : List Claim). x ++ lines) between.1 in
      let none_wanted : AllNamed i.read.draft = ap (list_all (λ (w : RequiredValue). list_any (λ (line : Claim). names w.value (named_in line)) i.read.draft.lines)) between.2 in
      let read = lines_on_from number lines lines i t fit listed fit ends (ap lists_once none ∙ once) begun none_wanted in
      let w = local_text f b.label in
      let p = block_printed f number b own is in
      let ls = claims_text m f lines ++ t in
      let a = 10 ∷ ls in
      let one : block_text m f b lines ++ t ≡ codes "block " ++ (w ++ a) = ap (λ (x : Text). codes "block " ++ x) (append_assoc w (10 ∷ claims_text m f lines) t) in
      let first : ComesAfter (32 ∷ (w ++ a)) (w ++ a) = (refl, blanks_on w a p.1) in
      let name : (new_block f).says (at i (w ++ a)) number (at i a) =
      subst (λ x. (block_named x).says (at i (w ++ a)) number (at i a)) (sym (ap (block_of_word f) (word_is i w a a p.1 (refl, refl)) ∙ p.0))
      (subst (λ x. (block_by number x).says (at i (w ++ a)) number (at i a)) (sym new) (taken_on number i w a a p.1 (refl, refl))) in
      let lines_are : read.out.read.draft.lines ≡ lines = read.lines_are ∙ none in
      let unlisted : first_unlisted number read.out.read.draft.values read.out.read.draft.wanted ≡ None =
      all_listed number read.out.read.draft.values read.out.read.draft.lines read.out.read.draft.wanted read.within.1.values (ap all_named_listed lines_are ∙ listed) read.named_all in
      let ended : (text.all_listed number).says (at read.out t) tt (at read.out t) = subst (λ x. (text.listed_by x).says (at read.out t) tt (at read.out t)) (sym unlisted) (refl, refl) in
      record {
        out = recorded (with_block number) read.out;
        read = subst (λ x. (text.block m f).says (at i x) tt (at (recorded (with_block number) read.out) t)) (sym one) (
          tt,
          at i (w ++ a),
          expect_on i (codes "block") (32 ∷ (w ++ a)) (w ++ a) refl first,
          (
            number,
            at i a,
            name,
            (
              tt,
              at i ls,
              line_end_on i ls ls (lines_begin lines t fit ends.1),
              (tt, at read.out t, (read.count, at read.out t, read.read, (refl, refl)), (tt, at read.out t, ended, (refl, refl))),
            ),
          ),
        );
        sections = read.rest.0;
        parameters = read.rest.1;
        blocks = ap (λ x. slice_set x number read.out.read.draft.lines) (sym read.rest.2) ∙ ap (slice_set i.read.draft.blocks number) lines_are;
        given = ap (λ x. slice_set x number true) (sym read.rest.3);
      }
