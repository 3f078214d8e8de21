-- What has been read of a section fits its function.
use Rattle.std.proofs.Common.{◌≡◌, ℕ, zero, suc, ◌<◌, Bool, true, false, not, ◌&&◌, ◌||◌, ◌⊎◌, List, [], ◌∷◌, ◌++◌, length, slice_get, slice_set, Option, Some, None, refl, ap, sym, ◌∙◌, arith, inl, inr}
use Rattle.std.specs.Prelude.{◌==◌, if◌then◌else◌, replicate, map}
use Rattle.std.specs.List.{list_all, list_any, zip}
use Rattle.std.proofs.lemmas.Bool.{cases_eq, eqb-true, eq-eqb, ne_eqb}
use Rattle.std.proofs.lemmas.List.{length-map, length-set}
use Rattle.std.proofs.lemmas.Option.{slice_get_within}
use Rattle.std.proofs.lemmas.List.Folds.{list_any-append}
use Rattle.lemmas.specs.Lists.{length_replicate, all_end, set_here, set_other, set_either}
use Rattle.lemmas.specs.Numbers.{test_same}
use Rattle.lemmas.specs.Bools.{never_true, or_neither, and_second, and_first, and_true, or_false, or_second}
use Rattle.ir_ast.specs.declared.function.Function.{Function}
use Rattle.ir_ast.specs.declared.function.Parameter.{Parameter}
use Rattle.ir_ast.specs.declared.module.Module.{Module}
use Rattle.certs.specs.RootNames.{root_names}
use Rattle.certificate.specs.Drafts.{draft_of, promised, wanting, listing, listing_slot, block_ended, is_in, first_unlisted}
use Rattle.certs.specs.Families.{family_of_value}
use Rattle.certificate.specs.Forms.{is_parameter, is_named}
use Rattle.certs.specs.Fits.{fact_fits, promise_fits, parameter_fits, claim_fits, lists, lists_slot, is_listed, lists_once, named_in, named_in_fact, lists_named, all_named_listed, claims_fit, entry_is_empty, parameters_fit}
use Rattle.certificate.specs.declared.draft.SectionDraft.{SectionDraft}
use Rattle.certificate.specs.declared.draft.RequiredValue.{RequiredValue}
use Rattle.certs.specs.declared.section.Fact.{Fact}
use Rattle.certs.specs.declared.section.Claim.{Claim}
use Rattle.certs.specs.declared.section.Claim.TheVariants as line
use Rattle.certs.specs.declared.section.Promise.{Promise}

-- ---- lists

and_on : (a b c : Bool) → (a && b) ≡ true → (b ≡ true → c ≡ true) → (a && c) ≡ true
and_on true b c e on = on e
and_on false b c e on = absurd cc

-- what is put where all pass passes
pub all_set : {A : Type 0} (test : A → Bool) (xs : List A) (i : ℕ) (y : A) → list_all test xs ≡ true → test y ≡ true → list_all test (slice_set xs i y) ≡ true
all_set test [] i y all e = refl
all_set test (x ∷ xs) zero y all e = and_true (test y) (list_all test xs) e (and_second (test x) (list_all test xs) all)
all_set test (x ∷ xs) (suc i) y all e = and_on (test x) (list_all test xs) (list_all test (slice_set xs i y)) all (λ r. all_set test xs i y r e)

same_in : {A : Type 0} (a b : A) → (xs : List A) → slice_get (a ∷ xs) 0 ≡ Some b → a ≡ b
same_in a b xs e = cc

pub all_set_zip : {A B : Type 0} (test : A × B → Bool) (xs : List A) (ys : List B) (i : ℕ) (x : A) (y : B) → slice_get xs i ≡ Some x → list_all test (zip xs ys) ≡ true → test (x, y) ≡ true → list_all test (zip xs (slice_set ys i y)) ≡ true
all_set_zip test [] ys i x y e all h = absurd cc
all_set_zip test (z ∷ xs) [] i x y e all h = refl
all_set_zip test (z ∷ xs) (w ∷ ys) zero x y e all h =
    and_true (test (z, y)) (list_all test (zip xs ys)) (ap (λ k. test (k, y)) (same_in z x xs e) ∙ h) (and_second (test (z, w)) (list_all test (zip xs ys)) all)
all_set_zip test (z ∷ xs) (w ∷ ys) (suc i) x y e all h = and_on (test (z, w)) (list_all test (zip xs ys)) (list_all test (zip xs (slice_set ys i y))) all (λ r. all_set_zip test xs ys i x y e r h)

pub all_weaker : {A : Type 0} (test other : A → Bool) (xs : List A) → ((x : A) → test x ≡ true → other x ≡ true) → list_all test xs ≡ true → list_all other xs ≡ true
all_weaker test other [] weaker all = refl
all_weaker test other (x ∷ xs) weaker all =
    and_true (other x) (list_all other xs) (weaker x (and_first (test x) (list_all test xs) all)) (all_weaker test other xs weaker (and_second (test x) (list_all test xs) all))

pub any_more : {A : Type 0} (test : A → Bool) (xs : List A) (x : A) → list_any test (xs ++ x ∷ []) ≡ (list_any test xs || test x)
any_more test xs x = list_any-append test xs (x ∷ []) ∙ ap (λ b. list_any test xs || b) (or_false (test x))

-- ---- what a block lists

-- what one line lists, another one does not
apart_step : (a b c d : Bool) → (not a && b) ≡ true → c ≡ false → d ≡ true → (not (a || c) && d) ≡ true
apart_step true b c d e f g = absurd cc
apart_step false b c d e f g = rw (f, g) refl

pub turned : (x y : ℕ) → (x == y) ≡ false → (y == x) ≡ false
turned x y e = ne_eqb y x (λ h. let t = eq-eqb x y (sym h) in cc)

-- a line that lists what no other one lists is not listed by them
not_by : (new old : Claim) (lines : List Claim) → is_listed (old ∷ lines) new ≡ false → is_listed (new ∷ []) old ≡ false
not_by (line.Value v fact) (line.Value w other) lines e = let h = or_neither (w == v) (list_any (lists v) lines) e in rw (turned w v h.0) refl
not_by (line.Value v fact) (line.Slot s nonnull holds) lines e = refl
not_by (line.Slot s nonnull holds) (line.Value w other) lines e = refl
not_by (line.Slot s nonnull holds) (line.Slot t n h) lines e = let h = or_neither (t == s) (list_any (lists_slot s) lines) e in rw (turned t s h.0) refl

rest_not : (new old : Claim) (lines : List Claim) → is_listed (old ∷ lines) new ≡ false → is_listed lines new ≡ false
rest_not (line.Value v fact) old lines e = (or_neither (lists v old) (list_any (lists v) lines) e).1
rest_not (line.Slot s nonnull holds) old lines e = (or_neither (lists_slot s old) (list_any (lists_slot s) lines) e).1

listed_more : (old : Claim) (lines : List Claim) (new : Claim) → is_listed (lines ++ new ∷ []) old ≡ (is_listed lines old || is_listed (new ∷ []) old)
listed_more (line.Value v fact) lines new = list_any-append (lists v) lines (new ∷ [])
listed_more (line.Slot s nonnull holds) lines new = list_any-append (lists_slot s) lines (new ∷ [])

once_more : (lines : List Claim) (new : Claim) → lists_once lines ≡ true → is_listed lines new ≡ false → lists_once (lines ++ new ∷ []) ≡ true
once_more [] (line.Value v fact) once e = refl
once_more [] (line.Slot s nonnull holds) once e = refl
once_more (old ∷ lines) new once e =
    rw (listed_more old lines new)
    (apart_step (is_listed lines old) (lists_once lines) (is_listed (new ∷ []) old) (lists_once (lines ++ new ∷ [])) once (not_by new old lines e) (once_more lines new (rest (is_listed lines old) (lists_once lines) once) (rest_not new old lines e)))
  where
    rest : (a b : Bool) → (not a && b) ≡ true → b ≡ true
    rest true b e = absurd cc
    rest false b e = e

-- the value is wanted, if there is one
abbrev pub is_wanted : List RequiredValue → Option ℕ → Bool
is_wanted wanted None = true
is_wanted wanted (Some value) = list_any (λ (w : RequiredValue). w.value == value) wanted

wanted_more : (wanted : List RequiredValue) (w : RequiredValue) (value : Option ℕ) → is_wanted wanted value ≡ true → is_wanted (wanted ++ w ∷ []) value ≡ true
wanted_more wanted w None e = refl
wanted_more wanted w (Some value) e = any_more (λ (w : RequiredValue). w.value == value) wanted w ∙ rw e refl

-- what is wanted is listed, where nothing is unlisted
unlisted_by : (b : ℕ) (values : List (Option ℕ)) (w : RequiredValue) (more : List RequiredValue) (v : ℕ) (t : Bool) → is_in b (slice_get values w.value) ≡ t
    → (if t then first_unlisted b values more else Some w.left) ≡ None → (is_in b (slice_get values w.value) ≡ true) × (first_unlisted b values more ≡ None)
unlisted_by b values w more v true is e = (is, e)
unlisted_by b values w more v false is e = absurd cc

wanted_in : (b : ℕ) (values : List (Option ℕ)) (wanted : List RequiredValue) (v : ℕ) → first_unlisted b values wanted ≡ None → list_any (λ (w : RequiredValue). w.value == v) wanted ≡ true → is_in b (slice_get values v) ≡ true
wanted_in b values [] v e h = absurd cc
wanted_in b values (w ∷ wanted) v e h =
    let p = unlisted_by b values w wanted v (is_in b (slice_get values w.value)) refl e in
    pick (w.value == v) refl h p.0 (wanted_in b values wanted v p.1)
  where
    pick : (t : Bool) → w.value == v ≡ t → (t || list_any (λ (w : RequiredValue). w.value == v) wanted) ≡ true → is_in b (slice_get values w.value) ≡ true
        → (list_any (λ (w : RequiredValue). w.value == v) wanted ≡ true → is_in b (slice_get values v) ≡ true) → is_in b (slice_get values v) ≡ true
    pick true same h here more = ap (λ x. is_in b (slice_get values x)) (sym (eqb-true w.value v same)) ∙ here
    pick false other h here more = more h

-- ---- a section between its blocks

-- what is read of a section fits, apart from the lines of the block at hand; each other block that lists values or slots has had its lines
pub record Fitting (m : Module) (f : Function) (IsNow : ℕ → Type 0) (d : SectionDraft) : Type 0 where
  pub roots : d.roots ≡ root_names m f
  pub promises : parameters_fit m f d.parameters ≡ true
  pub as_many : length d.blocks ≡ length f.blocks
  pub entry : entry_is_empty d.blocks ≡ true
  pub fit : list_all (claims_fit m f) d.blocks ≡ true
  pub entry_given : slice_get d.given 0 ≡ Some false → ⊥
  pub value_places : length d.values ≡ length f.locals
  pub slot_places : length d.slots ≡ length f.locals
  pub values_before : (block value : ℕ) → is_in block (slice_get d.values value) ≡ true → IsNow block ⊎ (slice_get d.given block ≡ Some true)
  pub slots_before : (block slot : ℕ) → is_in block (slice_get d.slots slot) ≡ true → IsNow block ⊎ (slice_get d.given block ≡ Some true)

-- the lines that are read of this block fit, but for the values that it has to list
pub record Lines (m : Module) (f : Function) (block : ℕ) (d : SectionDraft) : Type 0 where
  pub each : list_all (claim_fits m f) d.lines ≡ true
  pub once : lists_once d.lines ≡ true
  pub asked : list_all (λ line. is_wanted d.wanted (named_in line)) d.lines ≡ true
  pub values : (value : ℕ) → is_in block (slice_get d.values value) ≡ list_any (lists value) d.lines
  pub slots : (slot : ℕ) → is_in block (slice_get d.slots slot) ≡ list_any (lists_slot slot) d.lines

-- between blocks
abbrev pub Between : Module → Function → SectionDraft → Type 0
Between m f d = Fitting m f (λ _. ⊥) d × (d.lines ≡ []) × (d.wanted ≡ [])

-- in a block
abbrev pub Within : Module → Function → (block : ℕ) → SectionDraft → Type 0
Within m f block d = Fitting m f (λ b. b ≡ block) d × Lines m f block d

none_in : (n block i : ℕ) → is_in block (slice_get (replicate n None) i) ≡ true → ⊥
none_in zero block i e = absurd cc
none_in (suc n) block zero e = absurd cc
none_in (suc n) block (suc i) e = none_in n block i e

no_promises : (m : Module) (f : Function) (ps : List Parameter) → list_all (λ p. parameter_fits m f p.0 p.1) (zip ps (replicate (length ps) None)) ≡ true
no_promises m f [] = refl
no_promises m f (p ∷ ps) = no_promises m f ps

no_lines : (m : Module) (f : Function) {A : Type 0} (xs : List A) → list_all (claims_fit m f) (map (λ _. []) xs) ≡ true
no_lines m f [] = refl
no_lines m f (x ∷ xs) = no_lines m f xs

first_empty : {A : Type 0} (xs : List A) → entry_is_empty (map (λ _. []) xs) ≡ true
first_empty [] = refl
first_empty (x ∷ xs) = refl

entry_set : (n : ℕ) → slice_get (slice_set (replicate n false) 0 true) 0 ≡ Some false → ⊥
entry_set zero e = cc
entry_set (suc n) e = cc

-- where the section begins
pub at_start : (m : Module) (f : Function) → Between m f (draft_of m f)
at_start m f = (
  record {
    roots = refl;
    promises = and_true (length (draft_of m f).parameters == length f.parameters) (list_all (λ p. parameter_fits m f p.0 p.1) (zip f.parameters (draft_of m f).parameters))
        (eq-eqb (length (draft_of m f).parameters) (length f.parameters) (length_replicate (length f.parameters) None)) (no_promises m f f.parameters);
    as_many = length-map f.blocks (λ _. []);
    entry = first_empty f.blocks;
    fit = no_lines m f f.blocks;
    entry_given = entry_set (length f.blocks);
    value_places = length_replicate (length f.locals) None;
    slot_places = length_replicate (length f.locals) None;
    values_before = λ block value e. absurd (none_in (length f.locals) block value e);
    slots_before = λ block slot e. absurd (none_in (length f.locals) block slot e);
  },
  refl,
  refl,
)

-- ---- parameters

parameter_at : (f : Function) (place : ℕ) → is_parameter f place ≡ true → (p : Parameter) × (slice_get f.parameters place ≡ Some p) × (p.value ≡ place)
parameter_at f place e = by (slice_get f.parameters place) refl e
  where
    by : (q : Option Parameter) → slice_get f.parameters place ≡ q → is_named place q ≡ true → (p : Parameter) × (slice_get f.parameters place ≡ Some p) × (p.value ≡ place)
    by None is e = absurd cc
    by (Some p) is e = (p, is, eqb-true p.value place e)

pub with_parameter : (m : Module) (f : Function) (place : ℕ) (promise : Promise) (d : SectionDraft) → is_parameter f place ≡ true → promise_fits m (family_of_value m f place) promise ≡ true → Between m f d → Between m f (promised place promise d)
with_parameter m f place promise d is fits h =
    let p = parameter_at f place is in
    let old = h.0.promises in
    let test : Parameter × Option Promise → Bool = λ p. parameter_fits m f p.0 p.1 in
    let here : test (p.0, Some promise) ≡ true = ap (λ v. promise_fits m (family_of_value m f v) promise) p.2 ∙ fits in
    let set = slice_set d.parameters place (Some promise) in
    let len : length set ≡ length f.parameters = length-set d.parameters place (Some promise) ∙ eqb-true (length d.parameters) (length f.parameters) (and_first (length d.parameters == length f.parameters) (list_all test (zip f.parameters d.parameters)) old) in (
      record {
        roots = h.0.roots;
        promises = and_true (length set == length f.parameters) (list_all test (zip f.parameters set)) (eq-eqb (length set) (length f.parameters) len)
            (all_set_zip test f.parameters d.parameters place p.0 (Some promise) p.1 (and_second (length d.parameters == length f.parameters) (list_all test (zip f.parameters d.parameters)) old) here);
        as_many = h.0.as_many;
        entry = h.0.entry;
        fit = h.0.fit;
        entry_given = h.0.entry_given;
        value_places = h.0.value_places;
        slot_places = h.0.slot_places;
        values_before = h.0.values_before;
        slots_before = h.0.slots_before;
      },
      h.1,
      h.2,
    )

-- ---- blocks

not_again : (given : List Bool) (block : ℕ) → slice_get given block ≡ Some false → slice_get given block ≡ Some true → ⊥
not_again given block e g = cc

-- a block begins of which no line is read
pub block_begins : (m : Module) (f : Function) (block : ℕ) (d : SectionDraft) → slice_get d.given block ≡ Some false → Between m f d → Within m f block d
block_begins m f block d new h = (
  record {
    roots = h.0.roots;
    promises = h.0.promises;
    as_many = h.0.as_many;
    entry = h.0.entry;
    fit = h.0.fit;
    entry_given = h.0.entry_given;
    value_places = h.0.value_places;
    slot_places = h.0.slot_places;
    values_before = λ b value e. before b (h.0.values_before b value e);
    slots_before = λ b slot e. before b (h.0.slots_before b slot e);
  },
  record {
    each = ap (list_all (claim_fits m f)) h.1;
    once = ap lists_once h.1;
    asked = ap (list_all (λ line. is_wanted d.wanted (named_in line))) h.1;
    values = λ value. never_true (is_in block (slice_get d.values value)) (λ e. none (h.0.values_before block value e)) ∙ sym (ap (list_any (lists value)) h.1);
    slots = λ slot. never_true (is_in block (slice_get d.slots slot)) (λ e. none (h.0.slots_before block slot e)) ∙ sym (ap (list_any (lists_slot slot)) h.1);
  },
)
  where
    before : (b : ℕ) → ⊥ ⊎ (slice_get d.given b ≡ Some true) → (b ≡ block) ⊎ (slice_get d.given b ≡ Some true)
    before b (inl e) = absurd e
    before b (inr e) = inr e

    none : ⊥ ⊎ (slice_get d.given block ≡ Some true) → ⊥
    none (inl e) = e
    none (inr e) = not_again d.given block new e

all_listed : (m : Module) (f : Function) (block : ℕ) (d : SectionDraft) → Lines m f block d → first_unlisted block d.values d.wanted ≡ None → all_named_listed d.lines ≡ true
all_listed m f block d h e = all_weaker (λ line. is_wanted d.wanted (named_in line)) (λ line. lists_named d.lines (named_in line)) d.lines (λ line. weaker (named_in line)) h.asked
  where
    weaker : (value : Option ℕ) → is_wanted d.wanted value ≡ true → lists_named d.lines value ≡ true
    weaker None w = refl
    weaker (Some value) w = sym (h.values value) ∙ wanted_in block d.values d.wanted value e w

entry_stays : (blocks : List (List Claim)) (given : List Bool) (block : ℕ) (lines : List Claim) → (slice_get given 0 ≡ Some false → ⊥) → slice_get given block ≡ Some false → entry_is_empty blocks ≡ true → entry_is_empty (slice_set blocks block lines) ≡ true
entry_stays blocks given zero lines none new e = absurd (none new)
entry_stays [] given (suc block) lines none new e = refl
entry_stays ([] ∷ blocks) given (suc block) lines none new e = refl
entry_stays ((l ∷ ls) ∷ blocks) given (suc block) lines none new e = absurd cc

-- the block's lines are all there
pub block_ends : (m : Module) (f : Function) (block : ℕ) (d : SectionDraft) → slice_get d.given block ≡ Some false → first_unlisted block d.values d.wanted ≡ None → Within m f block d → Between m f (block_ended block d)
block_ends m f block d new listed h =
    let lines = h.1 in
    let here : claims_fit m f d.lines ≡ true = rw (lines.each, lines.once, all_listed m f block d lines listed) refl in (
      record {
        roots = h.0.roots;
        promises = h.0.promises;
        as_many = length-set d.blocks block d.lines ∙ h.0.as_many;
        entry = entry_stays d.blocks d.given block d.lines h.0.entry_given new h.0.entry;
        fit = all_set (claims_fit m f) d.blocks block d.lines h.0.fit here;
        entry_given = still_given;
        value_places = h.0.value_places;
        slot_places = h.0.slot_places;
        values_before = λ b value e. inr (after b (h.0.values_before b value e));
        slots_before = λ b slot e. inr (after b (h.0.slots_before b slot e));
      },
      refl,
      refl,
    )
  where
    still_given : slice_get (slice_set d.given block true) 0 ≡ Some false → ⊥
    still_given e = elim (set_either d.given block true 0 false e) [ inl was ↦ h.0.entry_given was | inr put ↦ absurd (let t = put.1 in cc) ]

    here : (b : ℕ) → b ≡ block → slice_get (slice_set d.given block true) b ≡ Some true
    here b e = ap (slice_get (slice_set d.given block true)) e ∙ set_here d.given block true (slice_get_within d.given block false new)

    after : (b : ℕ) → (b ≡ block) ⊎ (slice_get d.given b ≡ Some true) → slice_get (slice_set d.given block true) b ≡ Some true
    after b (inl e) = here b e
    after b (inr e) = elim (cases_eq b block) [ inl same ↦ here b same | inr differ ↦ set_other d.given block b true differ ∙ e ]

-- ---- lines

-- a value is named that the block has to list
pub with_wanted : (m : Module) (f : Function) (block value left : ℕ) (d : SectionDraft) → Within m f block d → Within m f block (wanting value left d)
with_wanted m f block value left d h = (
  record {
    roots = h.0.roots;
    promises = h.0.promises;
    as_many = h.0.as_many;
    entry = h.0.entry;
    fit = h.0.fit;
    entry_given = h.0.entry_given;
    value_places = h.0.value_places;
    slot_places = h.0.slot_places;
    values_before = h.0.values_before;
    slots_before = h.0.slots_before;
  },
  record {
    each = h.1.each;
    once = h.1.once;
    asked = all_weaker (λ line. is_wanted d.wanted (named_in line)) (λ line. is_wanted (wanting value left d).wanted (named_in line)) d.lines (λ line. wanted_more d.wanted (record { value = value; left = left }) (named_in line)) h.1.asked;
    values = h.1.values;
    slots = h.1.slots;
  },
)

pub last_wanted : (wanted : List RequiredValue) (value left : ℕ) → is_wanted (wanted ++ record { value = value; left = left } ∷ []) (Some value) ≡ true
last_wanted wanted value left = any_more (λ (w : RequiredValue). w.value == value) wanted (record { value = value; left = left }) ∙ or_second (list_any (λ (w : RequiredValue). w.value == value) wanted) (value == value) (test_same value)

-- which values a block lists, with one more
listed_with : (block value : ℕ) (values : List (Option ℕ)) (listed : ℕ → Bool) → value < length values → ((u : ℕ) → is_in block (slice_get values u) ≡ listed u) → (u : ℕ) → is_in block (slice_get (slice_set values value (Some block)) u) ≡ (listed u || value == u)
listed_with block value values listed within old u = elim (cases_eq value u) [
  | inl same ↦
      ap (λ x. is_in block (slice_get (slice_set values value (Some block)) x)) (sym same) ∙ ap (is_in block) (set_here values value (Some block) within) ∙ test_same block ∙ sym (ap (λ b. listed u || b) (eq-eqb value u same) ∙ always (listed u))
  | inr differ ↦ ap (is_in block) (set_other values value u (Some block) (λ e. differ (sym e))) ∙ old u ∙ sym (ap (λ b. listed u || b) (ne_eqb value u differ) ∙ or_false (listed u))
]
  where
    always : (b : Bool) → (b || true) ≡ true
    always true = refl
    always false = refl

before_with : (block value : ℕ) (values : List (Option ℕ)) (given : List Bool) → ((b u : ℕ) → is_in b (slice_get values u) ≡ true → (b ≡ block) ⊎ (slice_get given b ≡ Some true))
    → (b u : ℕ) → is_in b (slice_get (slice_set values value (Some block)) u) ≡ true → (b ≡ block) ⊎ (slice_get given b ≡ Some true)
before_with block value values given old b u e = elim (set_either values value (Some block) u (Some b) (listed_in _ b e)) [
  | inl was ↦ old b u (ap (is_in b) was ∙ test_same b)
  | inr put ↦ inl (let same : block ≡ b = cc in sym same)
]
  where
    listed_in : (listed : Option (Option ℕ)) (b : ℕ) → is_in b listed ≡ true → listed ≡ Some (Some b)
    listed_in (Some (Some last)) b h = ap (λ (n : ℕ). Some (Some n)) (eqb-true last b h)
    listed_in (Some None) b h = absurd cc
    listed_in None b h = absurd cc

-- the block lists a value more
pub with_value : (m : Module) (f : Function) (block value : ℕ) (fact : Fact) (d : SectionDraft) → value < length f.locals → is_in block (slice_get d.values value) ≡ false
    → fact_fits m (family_of_value m f value) fact ≡ true → is_wanted d.wanted (named_in_fact fact) ≡ true → Within m f block d → Within m f block (listing block value (line.Value value fact) d)
with_value m f block value fact d within new fits wanted h =
    let one = line.Value value fact in
    let room : value < length d.values = omega (arith, within, h.0.value_places) in (
      record {
        roots = h.0.roots;
        promises = h.0.promises;
        as_many = h.0.as_many;
        entry = h.0.entry;
        fit = h.0.fit;
        entry_given = h.0.entry_given;
        value_places = length-set d.values value (Some block) ∙ h.0.value_places;
        slot_places = h.0.slot_places;
        values_before = before_with block value d.values d.given h.0.values_before;
        slots_before = h.0.slots_before;
      },
      record {
        each = all_end (claim_fits m f) d.lines one h.1.each fits;
        once = once_more d.lines one h.1.once (sym (h.1.values value) ∙ new);
        asked = all_end (λ line. is_wanted d.wanted (named_in line)) d.lines one h.1.asked wanted;
        values = λ u. listed_with block value d.values (λ u. list_any (lists u) d.lines) room h.1.values u ∙ sym (any_more (lists u) d.lines one);
        slots = λ s. h.1.slots s ∙ sym (any_more (lists_slot s) d.lines one ∙ or_false (list_any (lists_slot s) d.lines));
      },
    )

-- the block lists a slot more
pub with_slot : (m : Module) (f : Function) (block slot : ℕ) (nonnull : Bool) (holds : Option ℕ) (d : SectionDraft) → slot < length f.locals → is_in block (slice_get d.slots slot) ≡ false
    → claim_fits m f (line.Slot slot nonnull holds) ≡ true → is_wanted d.wanted holds ≡ true → Within m f block d → Within m f block (listing_slot block slot (line.Slot slot nonnull holds) d)
with_slot m f block slot nonnull holds d within new fits wanted h =
    let one = line.Slot slot nonnull holds in
    let room : slot < length d.slots = omega (arith, within, h.0.slot_places) in (
      record {
        roots = h.0.roots;
        promises = h.0.promises;
        as_many = h.0.as_many;
        entry = h.0.entry;
        fit = h.0.fit;
        entry_given = h.0.entry_given;
        value_places = h.0.value_places;
        slot_places = length-set d.slots slot (Some block) ∙ h.0.slot_places;
        values_before = h.0.values_before;
        slots_before = before_with block slot d.slots d.given h.0.slots_before;
      },
      record {
        each = all_end (claim_fits m f) d.lines one h.1.each fits;
        once = once_more d.lines one h.1.once (sym (h.1.slots slot) ∙ new);
        asked = all_end (λ line. is_wanted d.wanted (named_in line)) d.lines one h.1.asked wanted;
        values = λ u. h.1.values u ∙ sym (any_more (lists u) d.lines one ∙ or_false (list_any (lists u) d.lines));
        slots = λ s. listed_with block slot d.slots (λ s. list_any (lists_slot s) d.lines) room h.1.slots s ∙ sym (any_more (lists_slot s) d.lines one);
      },
    )
