-- The words and births before the first step.
use Rattle.std.proofs.Common.{◌≡◌, Bool, true, false, ◌<◌, ◌≤◌, ◌^◌, inl, inr, ℕ, zero, suc, ◌+◌, Option, Some, List, [], ◌∷◌, ◌++◌, length, replicate, slice_get, slice_set, slice_index, slice_index_or, map, length-append, length-set, refl, sym, ap, ◌∙◌, subst, arith, if◌then◌else◌}
use Rattle.std.proofs.Math.Seq.{get_or-append_seam}
use Rattle.std.proofs.lemmas.Bool.{cases_lt}
use Rattle.std.proofs.lemmas.List.{length-map, get_or_append_left, get_or-set_same, get_or-set_other, get_or_past}
use Rattle.std.proofs.lemmas.Option.{slice_get_within, slice_get_past}
use Rattle.pools.specs.declared.word_kind.WordKind.{WordKind}
use Rattle.pools.specs.declared.word_kind.WordKind.TheVariants as kind
use Rattle.pools.specs.Heap.{Setup, IsSetup, IsStartOf, cells, is_late, kind_of, words_of_cell}
use Rattle.colours.specs.declared.place.Place.{Place}
use Rattle.colours.specs.declared.place.Place.TheVariants.{Posted, Stage, Colour, Word}
use Rattle.colours.specs.Colours.{done}
use Rattle.colours.specs.Mutator.{Absent, Ready}
use Rattle.colours.specs.Runs.{word_at_start, word_after, births_after}
use Rattle.trace_sweep.specs.Collecting.{Collecting, plan, plan_of, begun}
use Rattle.runs.specs.Machine.{WordValue, Machine}
use Rattle.runs.specs.Moves.{null}
use Rattle.runs.specs.Ends.{StandsAfter}
use Rattle.runs.specs.Standings.{begins}
use Rattle.moves.specs.declared.shared.Shared.{Shared}
use Rattle.moves.specs.declared.thread_state.ThreadState.{ThreadState}
use Rattle.moves.specs.Kinds.{MayHold}
use Rattle.moves.specs.Rows.{word_at}
use Rattle.moves.specs.Runs.{collector_after, run_by}
use Rattle.moves.specs.Shared.{held_at, ThreadStateAfter}
use Rattle.moves.specs.Stands.{cells_to_try, phase_at, standing}
use Rattle.stepping.specs.Reach.{IsSchemaOf}
use Rattle.stepping.specs.Growth.{IsInHeap}
use Rattle.stepping.specs.declared.acting.Actors.{Actors}
use Rattle.stepping.specs.declared.beginning.NewThread.{NewThread}
use Rattle.stepping.specs.Starts.{value_at_start, IsRowAtStart, AreRowsAtStart, stage_at_start, call_phase_at_start, thread_state_at_start}
use Rattle.stepping.specs.Ends.{AreAfterSteps}

-- ---- late threads

-- the stage word of a thread is that of the setup
late-stage : (lates : List Bool) (t : ℕ) → slice_index (map stage_at_start lates) t ≡ (if slice_index_or lates t false then done else 0)
late-stage [] t = refl
late-stage (late ∷ lates) zero = refl
late-stage (late ∷ lates) (suc t) = late-stage lates t

-- so of a list of threads
stages-of : {State : Type 0} (threads : List (NewThread State)) → map (λ (thread : NewThread State). stage_at_start thread.is_late) threads ≡ map stage_at_start (map (λ (thread : NewThread State). thread.is_late) threads)
stages-of [] = refl
stages-of (thread ∷ threads) = ap (λ (xs : List ℕ). stage_at_start thread.is_late ∷ xs) (stages-of threads)

-- so each of their stage words
pub stage-of : {State : Type 0} (s : Setup) (threads : List (NewThread State)) (stages : List ℕ) → s.late ≡ map (λ (thread : NewThread State). thread.is_late) threads
    → stages ≡ map (λ (thread : NewThread State). stage_at_start thread.is_late) threads → (t : ℕ) → slice_index stages t ≡ (if is_late s t then done else 0)
unfolding is_late
stage-of {State} s threads stages late are t =
    ap (λ (xs : List ℕ). slice_index xs t) (are ∙ stages-of threads ∙ ap (map stage_at_start) (sym late)) ∙ late-stage s.late t

-- whether a thread is late
lateness : {State : Type 0} (threads : List (NewThread State)) (t : ℕ) (thread : NewThread State) → slice_get threads t ≡ Some thread → slice_index_or (map (λ (x : NewThread State). x.is_late) threads) t false ≡ thread.is_late
lateness [] t thread is = absurd cc
lateness (x ∷ threads) zero thread is = cc
lateness {State} (x ∷ threads) (suc t) thread is = lateness threads t thread is

-- ---- zeros

-- one zero more
pub zeros-more : (xs : List ℕ) → ((k : ℕ) → slice_index xs k ≡ 0) → (k : ℕ) → slice_index (xs ++ 0 ∷ []) k ≡ 0
zeros-more [] zeros zero = refl
zeros-more [] zeros (suc k) = refl
zeros-more (x ∷ xs) zeros zero = zeros 0
zeros-more (x ∷ xs) zeros (suc k) = zeros-more xs (λ j. zeros (suc j)) k

-- ---- a row

-- what the words of a cell hold is their value at the start
starts-at : (s : Setup) (values : List ℕ) → s.values ≡ values → (cell word : ℕ) → value_at_start values cell word ≡ word_at_start s (Word cell word)
starts-at s values e zero word = ap (λ (v : List ℕ). slice_index v word) (sym e)
starts-at s values e (suc cell) word = refl

-- a word outside a cell is 0
outside : (s : Setup) → IsSetup s → (cell word : ℕ) → length (words_of_cell s cell) ≤ word → word_at_start s (Word cell word) ≡ 0
unfolding kind_of
outside s setup zero word le = subst (λ (k : Option WordKind). IsStartOf k (slice_index s.values word)) (slice_get_past s.globals word le) (setup word)
outside s setup (suc cell) word le = refl

-- such a value may be held
may-hold : (s : Setup) → IsSetup s → (cell word : ℕ) (k : WordKind) → kind_of s cell word ≡ Some k → (value : WordValue) → value.cell ≡ word_at_start s (Word cell word) → value.cell < 2 ^ 64 → MayHold s (Some k) value
may-hold s setup cell word (kind.Integer bits) e value is few = few
may-hold s setup zero word (kind.Reference layout) e value is few = inl (is ∙ subst (λ (k : Option WordKind). IsStartOf k (slice_index s.values word)) e (setup word))
may-hold s setup (suc cell) word (kind.Reference layout) e value is few = inl is

-- a row of such words
pub row-at-start : (s : Setup) (values : List ℕ) (cell : ℕ) (row : List WordValue) → IsSetup s → s.values ≡ values → length row ≡ length (words_of_cell s cell)
    → ((word : ℕ) → word < length row → slice_index_or row word null ≡ record { cell = value_at_start values cell word; birth = 0 }) → ((word : ℕ) → word < length row → value_at_start values cell word < 2 ^ 64)
    → IsRowAtStart s cell row
unfolding kind_of
row-at-start s values cell row setup e count holds fits = record {
  count = count;
  holds = there;
  births = λ word. elim (cases_lt word (length row)) [
    | inl h ↦ ap (λ (r : WordValue). r.birth) (holds word h)
    | inr h ↦ ap (λ (r : WordValue). r.birth) (past word h)
  ];
  kinds = λ word k is.
      let here : word < length row = subst (λ n. word < n) (sym count) (within word k is) in
      may-hold s setup cell word k is (slice_index_or row word null) (there word) (subst (λ (r : WordValue). r.cell < 2 ^ 64) (sym (holds word here)) (fits word here));
}
  where
    past : (word : ℕ) → length row ≤ word → slice_index_or row word null ≡ null
    past word le = get_or_past row word null le

    within : (word : ℕ) (k : WordKind) → kind_of s cell word ≡ Some k → word < length (words_of_cell s cell)
    within word k is = slice_get_within (words_of_cell s cell) word k is

    there : (word : ℕ) → (slice_index_or row word null).cell ≡ word_at_start s (Word cell word)
    there word = elim (cases_lt word (length row)) [
      | inl h ↦ ap (λ (r : WordValue). r.cell) (holds word h) ∙ starts-at s values e cell word
      | inr h ↦ ap (λ (r : WordValue). r.cell) (past word h) ∙ sym (outside s setup cell word (subst (λ n. n ≤ word) count h))
    ]

-- ---- all rows

-- of no cell
pub no-rows : (s : Setup) → AreRowsAtStart s 0 []
no-rows s = record { count_is = refl; rows_are = λ cell lt. absurd (omega arith) }

-- one row more
pub rows-more : (s : Setup) (n : ℕ) (rows : List (List WordValue)) (row : List WordValue) → AreRowsAtStart s n rows → IsRowAtStart s n row → AreRowsAtStart s (n + 1) (rows ++ row ∷ [])
rows-more s n rows row are is = record {
  count_is = length-append rows (row ∷ []) ∙ ap (λ k. k + 1) are.count_is;
  rows_are = λ cell lt. elim (cases_lt cell n) [
    | inl h ↦ subst (λ (r : List WordValue). IsRowAtStart s cell r) (sym (get_or_append_left rows (row ∷ []) [] cell (subst (λ k. cell < k) (sym are.count_is) h))) (are.rows_are cell h)
    | inr h ↦
        let same : n ≡ cell = omega arith in
        let at : length rows ≡ cell = are.count_is ∙ same in
        subst (λ (r : List WordValue). IsRowAtStart s cell r) (sym (ap (λ k. slice_index_or (rows ++ row ∷ []) k []) (sym at) ∙ get_or-append_seam rows row [] [])) (subst (λ k. IsRowAtStart s k row) same is)
  ];
}

-- ---- all words

-- they are the words after no step
pub thread_state-afterwards-none : (s : Setup) → IsSetup s → (stages zeros births : List ℕ) (rows : List (List WordValue)) → length stages ≡ s.threads → length zeros ≡ cells s → length births ≡ cells s
    → ((k : ℕ) → slice_index stages k ≡ (if is_late s k then done else 0)) → ((k : ℕ) → slice_index zeros k ≡ 0) → ((k : ℕ) → slice_index births k ≡ 0) → AreRowsAtStart s (cells s) rows
    → ThreadStateAfter s [] (record { posted = 0; stages = stages; colours = slice_set zeros 0 1; births = births; words = rows })
unfolding births_after word_after
thread_state-afterwards-none s setup stages zeros births rows stages_count colours_count births_count no_stages no_colours no_births are = record {
  shape = record {
    stages = stages_count;
    colours = length-set zeros 0 1 ∙ colours_count;
    births = births_count;
    rows = are.count_is;
    row = λ cell lt. (are.rows_are cell lt).count;
    kinds = λ cell word k lt is. (are.rows_are cell lt).kinds word k is;
  };
  afterwards = record {
    words = words;
    word_births = word_births;
    births = λ cell. no_births cell ∙ sym (unborn cell);
  };
}
  where
    h : Shared
    h = record { posted = 0; stages = stages; colours = slice_set zeros 0 1; births = births; words = rows }

    unborn : (cell : ℕ) → (births_after s []).of_cell cell ≡ 0
    unborn cell = refl

    nothing : (cell : ℕ) → cells s ≤ cell → slice_index_or rows cell [] ≡ []
    nothing cell le = get_or_past rows cell [] (subst (λ n. n ≤ cell) (sym are.count_is) le)

    word_births : (cell word : ℕ) → (word_at rows cell word).birth ≡ 0
    word_births cell word = elim (cases_lt cell (cells s)) [
      | inl lt ↦ (are.rows_are cell lt).births word
      | inr le ↦ ap (λ (row : List WordValue). (slice_index_or row word null).birth) (nothing cell le)
    ]

    word : (cell i : ℕ) → (word_at rows cell i).cell ≡ word_at_start s (Word cell i)
    word zero i = (are.rows_are 0 (omega arith)).holds i
    word (suc cell) i = elim (cases_lt (suc cell) (cells s)) [
      | inl lt ↦ (are.rows_are (suc cell) lt).holds i
      | inr le ↦ ap (λ (row : List WordValue). (slice_index_or row i null).cell) (nothing (suc cell) le)
    ]

    words : (p : Place) → held_at h p ≡ word_after s [] p
    words Posted = refl
    words (Stage t) = no_stages t
    words (Colour zero) = get_or-set_same zeros 0 1 0 (subst (λ n. 0 < n) (sym colours_count) (omega arith))
    words (Colour (suc cell)) = get_or-set_other zeros 0 (suc cell) 1 0 (λ q. absurd cc) ∙ no_colours (suc cell)
    words (Word cell i) = word cell i

-- ---- all actors

-- a list of threads before their first move
pub got-start : {State : Type 0} (layouts : ℕ) (states : List (NewThread State)) (t : ℕ) (thread_state : ThreadState State) → slice_get (map (thread_state_at_start layouts) states) t ≡ Some thread_state
    → (thread : NewThread State) × (slice_get states t ≡ Some thread) × (thread_state ≡ thread_state_at_start layouts thread)
got-start layouts [] t thread_state e = absurd cc
got-start layouts (x ∷ xs) zero thread_state e = (x, refl, cc)
got-start layouts (x ∷ xs) (suc t) thread_state e = got-start layouts xs t thread_state e

-- where a thread is, late or not
phase-first : (cells : List ℕ) (roots : List WordValue) (late : Bool) → phase_at cells roots (call_phase_at_start late) ≡ (if late then Absent else Ready)
phase-first cells roots true = refl
phase-first cells roots false = refl

-- a thread is in this state before its first move
stands-first : (s : Setup) (m : Machine) (starts : ℕ → m.State) (t : ℕ) (thread : NewThread m.State) → is_late s t ≡ thread.is_late → starts t ≡ thread.machine → StandsAfter s m starts [] t (standing s m (thread_state_at_start (length s.pools) thread))
stands-first s m starts t thread late e =
    let first = begins s m starts t in
    record {
      state = sym e;
      stage = first.stage;
      phase = phase-first (cells_to_try s (replicate (length s.pools) 0) (m.action thread.machine)) (m.roots thread.machine) thread.is_late ∙ sym (ap (λ (b : Bool). if b then Absent else Ready) late) ∙ first.phase;
      old = first.old;
      hints = first.hints;
    }

-- the collector of a heap with this schema
pub begun-of : (s : Setup) (threads : ℕ) (layouts : List (List WordKind)) (pools : List ℕ) (globals : List WordKind) → s.threads ≡ threads → s.layouts ≡ layouts → s.pools ≡ pools → s.globals ≡ globals
    → begun (plan threads layouts pools globals) ≡ begun (plan_of s)
begun-of s threads layouts pools globals a b c d = rw (a, b, c, d) refl

-- the actors before their first step
pub actors-first : (s : Setup) (m : Machine) (Fits : m.State → Type 0) (starts : ℕ → m.State) (a : Actors m.State) (states : List (NewThread m.State)) → IsSchemaOf s a.schema → IsSetup s → s.late ≡ map (λ (thread : NewThread m.State). thread.is_late) states → cells s ≤ 2 ^ 32
    → s.threads ≡ length states → ((t : ℕ) (thread : NewThread m.State) → slice_get states t ≡ Some thread → (starts t ≡ thread.machine) × Fits thread.machine)
    → a.threads.items ≡ map (thread_state_at_start (length s.pools)) states → ThreadStateAfter s [] a.shared → a.collector ≡ begun (plan_of s) → AreAfterSteps s m Fits starts [] a
unfolding collector_after run_by is_late
actors-first s m Fits starts a states is_schema setup late few count begin threads words collects = record {
  schema = is_schema;
  setup = setup;
  is_after = record {
    are_actors = tt;
    is_end = record {
      few_cells = few;
      count = ap length threads ∙ length-map states (thread_state_at_start (length s.pools)) ∙ sym count;
      stands = λ t thread_state is.
          let o = got-start (length s.pools) states t thread_state (sym (ap (λ (v : List (ThreadState m.State)). slice_get v t) threads) ∙ is) in
          subst (λ (v : ThreadState m.State). StandsAfter s m starts [] t (standing s m v)) (sym o.2) (stands-first s m starts t o.0 (ap (λ (l : List Bool). slice_index_or l t false) late ∙ lateness states t o.0 o.1) (begin t o.0 o.1).0);
      fits = λ t thread_state is.
          let o = got-start (length s.pools) states t thread_state (sym (ap (λ (v : List (ThreadState m.State)). slice_get v t) threads) ∙ is) in
          subst (λ (v : ThreadState m.State). Fits v.state) (sym o.2) (begin t o.0 o.1).1;
      replaced = λ t thread_state is.
          let o = got-start (length s.pools) states t thread_state (sym (ap (λ (v : List (ThreadState m.State)). slice_get v t) threads) ∙ is) in
          subst (λ (v : ThreadState m.State). v.replaced.cell < cells s) (sym o.2) (omega arith);
      collects = collects;
      in_heap = subst (λ (c : Collecting). IsInHeap s c) (sym collects) (tt, tt);
      words = words;
    };
  };
}
