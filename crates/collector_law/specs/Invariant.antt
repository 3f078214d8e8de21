-- The invariant of heap runs, over one state: where the threads and the collector are, and what the words hold.
use Rattle.std.specs.Prelude.{ℕ, zero, suc, ◌+◌, ◌*◌, ◌<◌, ◌≤◌, ◌≡◌, ◌≢◌, ◌⊎◌, Bool, true, false, List}
use Rattle.lemmas.specs.Lists.{IsIn}
use Rattle.collector_law.specs.Picture.{Picture, IsSafe}

-- where a thread is. A reference is a cell's number, 0 for null
pub data Phase : Type 0 where
  -- between two calls, or trying to claim, or ended
  Ready : Phase
  -- in a barriered store, with the old value to mark
  MarkingOld : (cell word old : ℕ) → Phase
  -- the old value is marked, or null
  MarkingNew : (cell word old : ℕ) → Phase
  -- at a Sync stage: the new value is marked too, and not null
  Writing : (cell word old new : ℕ) → Phase
  -- another stage was read; the roots marked so far
  Answering : (stage : ℕ) (marked : List ℕ) → Phase

-- where the collector is
pub data Part : Type 0 where
  -- before the next cycle's first stage is posted
  Resting : Part
  -- after the first, second or third stage of a cycle; the threads below this one were seen at it, or done
  Waiting : (sync thread : ℕ) → Part
  -- the globals' cell is marked, and Async is not posted yet
  Rooted : Part
  -- in a pass over all cells: the next one, and whether a grey one was met
  Passing : (next : ℕ) (met_grey : Bool) → Part
  -- this number of words was read; the value in hand, or 0
  Scanning : (cell words hand : ℕ) → Part
  -- in the sweep: the next cell
  Sweeping : (next : ℕ) → Part
  -- a white cell is cleared: this number of its words is cleared so far
  Clearing : (cell words : ℕ) → Part

-- the threads, the collector and the shared words at one moment. Births, tags, held and fresh exist in the model alone
pub record State : Type 1 where
  pub threads : ℕ
  -- how many there are, the globals' cell among them
  pub cells : ℕ
  -- of the last Sync1 posted; 0 before the first
  pub cycle : ℕ
  pub part : Part
  pub posted : ℕ
  pub stage : ℕ → ℕ
  pub phase : ℕ → Phase
  pub colour : ℕ → ℕ
  pub word : ℕ → ℕ → ℕ
  -- the birth with which the word names its cell
  pub tag : ℕ → ℕ → ℕ
  pub birth : ℕ → ℕ
  pub IsHeld : (thread cell birth : ℕ) → Type 0
  pub IsFresh : (thread cell : ℕ) → Type 0

-- ---- colours in a cycle

-- in cycle k a white cell has the colour 2k-1
abbrev pub IsWhite : State → ℕ → Type 0
IsWhite s c = suc (s.colour c) ≡ 2 * s.cycle

-- a grey one 2k
abbrev pub IsGrey : State → ℕ → Type 0
IsGrey s c = s.colour c ≡ 2 * s.cycle

-- and a black one 2k+1
abbrev pub IsBlack : State → ℕ → Type 0
IsBlack s c = s.colour c ≡ suc (2 * s.cycle)

-- grey or black
abbrev pub IsMarked : State → ℕ → Type 0
IsMarked s c = 2 * s.cycle ≤ s.colour c

-- the three times of a cycle: up to the marking of the globals, up to the end of the trace, and the rest
pub data Time : Type 0 where
  Early : Time
  Late : Time
  Clean : Time

-- the time of a cycle at which the collector is in this part
abbrev pub time_of : Part → Time
time_of Resting = Clean
time_of (Waiting zero t) = Early
time_of (Waiting (suc zero) t) = Early
time_of (Waiting (suc (suc zero)) t) = Early
time_of (Waiting (suc (suc (suc n))) t) = Late
time_of Rooted = Late
time_of (Passing next met_grey) = Late
time_of (Scanning cell words hand) = Late
time_of (Sweeping next) = Clean
time_of (Clearing cell words) = Clean

-- up to the end of the trace a cell that is not blue is live, and then a black one
abbrev pub IsLiveAt : Time → (cycle colour : ℕ) → Type 0
IsLiveAt Early k colour = colour ≢ 0
IsLiveAt Late k colour = colour ≢ 0
IsLiveAt Clean k colour = colour ≡ suc (2 * k)

-- the cell is live
abbrev pub IsLive : State → ℕ → Type 0
IsLive s c = IsLiveAt (time_of s.part) s.cycle (s.colour c)

-- null, or a live cell of this birth
abbrev pub IsGood : State → (cell birth : ℕ) → Type 0
IsGood s c b = (c ≡ 0) ⊎ (IsLive s c × (b ≡ s.birth c))

-- the value in the collector's hand, or 0
abbrev pub hand_of : Part → ℕ
hand_of (Scanning cell words hand) = hand
hand_of _ = 0

-- the word is scanned already
abbrev pub IsScanned : Part → ℕ → ℕ → Type 0
IsScanned (Scanning cell words hand) x i = (x ≡ cell) × (i < words)
IsScanned _ x i = ⊥

-- the thread is before its store to this word, and its old value is another than this
abbrev pub Differs : Phase → (x i now : ℕ) → Type 0
Differs (MarkingOld cell word old) x i now = (cell ≡ x) × (word ≡ i) × (now ≢ old)
Differs (MarkingNew cell word old) x i now = (cell ≡ x) × (word ≡ i) × (now ≢ old)
Differs (Writing cell word old new) x i now = (cell ≡ x) × (word ≡ i) × (now ≢ old)
Differs _ x i now = ⊥

-- some thread is before its store to this word with another old value
abbrev pub IsLoose : State → ℕ → ℕ → Type 0
IsLoose s x i = (t : ℕ) × (t < s.threads) × Differs (s.phase t) x i (s.word x i)

-- what the trace's law is about
abbrev pub picture : State → Picture
picture s = record {
  word = s.word;
  hand = hand_of s.part;
  IsWhite = λ c. (c ≢ 0) × IsWhite s c;
  IsRead = λ x i. IsBlack s x ⊎ IsScanned s.part x i;
  IsLoose = λ x i. IsLoose s x i;
  IsHeld = λ c. (t : ℕ) × (b : ℕ) × (t < s.threads) × (s.stage t ≡ 3 * s.cycle) × s.IsHeld t c b;
}

-- ---- stages: cycle k posts 3k-2, 3k-1 and 3k; done is a number past all stages

-- the stage that is posted while the collector is here
abbrev pub posted_at : Part → (cycle : ℕ) → ℕ → Type 0
posted_at (Waiting zero t) k p = ⊥
posted_at (Waiting (suc zero) t) k p = p + 2 ≡ 3 * k
posted_at (Waiting (suc (suc zero)) t) k p = p + 1 ≡ 3 * k
posted_at Rooted k p = p + 1 ≡ 3 * k
posted_at _ k p = p ≡ 3 * k

-- a thread that was not seen yet may be at the stage before
abbrev pub MayLag : Part → (thread : ℕ) → Type 0
MayLag (Waiting sync seen) t = seen ≤ t
MayLag _ t = ⊥

-- each thread is at the posted stage, done, or not yet seen and at the stage before
pub record AreInStep (done : ℕ) (s : State) : Type 0 where
  pub posted : posted_at s.part s.cycle s.posted
  pub stages : (t : ℕ) → t < s.threads → (s.stage t ≡ s.posted) ⊎ ((s.stage t ≡ done) ⊎ ((suc (s.stage t) ≡ s.posted) × MayLag s.part t))
  -- a thread that read another stage than its own read the posted one
  pub answers : (t p : ℕ) (marked : List ℕ) → t < s.threads → s.phase t ≡ Answering p marked → (p ≡ s.posted) × (suc (s.stage t) ≡ s.posted)
  -- an ended thread holds nothing
  pub ended : (t : ℕ) → t < s.threads → s.stage t ≡ done → (s.phase t ≡ Ready) × ((c b : ℕ) → s.IsHeld t c b → ⊥) × ((c : ℕ) → s.IsFresh t c → ⊥)

-- ---- colours

-- the colours that a cell may have while the collector is here
abbrev pub IsColour : Part → (cycle colour : ℕ) → Type 0
IsColour Resting k c = (c ≡ 0) ⊎ (c ≡ suc (2 * k))
IsColour (Sweeping next) k c = (c ≡ 0) ⊎ ((suc c ≡ 2 * k) ⊎ (c ≡ suc (2 * k)))
IsColour (Clearing cell words) k c = (c ≡ 0) ⊎ ((suc c ≡ 2 * k) ⊎ (c ≡ suc (2 * k)))
IsColour Rooted k c = (c ≡ 0) ⊎ ((suc c ≡ 2 * k) ⊎ ((c ≡ 2 * k) ⊎ (c ≡ suc (2 * k))))
IsColour (Passing next met_grey) k c = (c ≡ 0) ⊎ ((suc c ≡ 2 * k) ⊎ ((c ≡ 2 * k) ⊎ (c ≡ suc (2 * k))))
IsColour (Scanning cell words hand) k c = (c ≡ 0) ⊎ ((suc c ≡ 2 * k) ⊎ ((c ≡ 2 * k) ⊎ (c ≡ suc (2 * k))))
IsColour (Waiting (suc (suc (suc n))) t) k c = (c ≡ 0) ⊎ ((suc c ≡ 2 * k) ⊎ ((c ≡ 2 * k) ⊎ (c ≡ suc (2 * k))))
IsColour (Waiting _ t) k c = (c ≡ 0) ⊎ ((suc c ≡ 2 * k) ⊎ (c ≡ 2 * k))

-- the globals' cell is not blue, then marked, and black once the trace has ended
abbrev pub RootAt : Time → (cycle colour : ℕ) → Type 0
RootAt Early k c = c ≢ 0
RootAt Late k c = (0 < k) × (2 * k ≤ c)
RootAt Clean k c = c ≡ suc (2 * k)

-- what a sweep has done, and a pass and a scan
abbrev pub IsUnderWay : State → Part → Type 0
IsUnderWay s (Sweeping next) = (c : ℕ) → 0 < c → c < next → IsWhite s c → ⊥
IsUnderWay s (Clearing cell words) = ((c : ℕ) → 0 < c → c < cell → IsWhite s c → ⊥) × IsWhite s cell × (0 < cell) × ((i : ℕ) → i < words → s.word cell i ≡ 0)
IsUnderWay s (Passing next true) = Unit {0}
IsUnderWay s (Passing next false) = ((c : ℕ) × (next ≤ c) × IsGrey s c) ⊎ ((c : ℕ) → IsGrey s c → ⊥)
IsUnderWay s (Scanning cell words hand) = IsGrey s cell × ((hand ≡ 0) ⊎ IsLive s hand)
IsUnderWay s _ = Unit {0}

-- ---- live cells

-- what is held is live and of its birth. A live cell's words point to live cells of their births. A blue cell's words are null
pub record AreLive (s : State) : Type 0 where
  pub held : (t c b : ℕ) → t < s.threads → s.IsHeld t c b → (c ≢ 0) × IsLive s c × (b ≡ s.birth c)
  pub words : (c i : ℕ) → IsLive s c → IsGood s (s.word c i) (s.tag c i)
  pub blue : (c i : ℕ) → s.colour c ≡ 0 → s.word c i ≡ 0

-- ---- fresh cells

-- the old value of a store under way is another cell
abbrev pub OldIsNot : Phase → ℕ → Type 0
OldIsNot (MarkingOld cell word old) c = old ≢ c
OldIsNot (MarkingNew cell word old) c = old ≢ c
OldIsNot (Writing cell word old new) c = old ≢ c
OldIsNot _ c = Unit {0}

-- the thread itself may have marked its fresh cell
abbrev pub HasMarked : Phase → ℕ → Type 0
HasMarked (Writing cell word old new) c = new ≡ c
HasMarked (Answering stage marked) c = Unit {0}
HasMarked _ c = ⊥

-- a fresh cell is held by its thread alone and has the colour of its claim. No live word, no hand and no store under way names it
pub record AreFresh (claim_at : ℕ → ℕ) (IsSync : ℕ → Type 0) (s : State) : Type 0 where
  pub held : (t c : ℕ) → t < s.threads → s.IsFresh t c → s.IsHeld t c (s.birth c)
  pub unnamed : (t c x i : ℕ) → t < s.threads → s.IsFresh t c → IsLive s x → s.word x i ≢ c
  pub alone : (t u c b : ℕ) → t < s.threads → u < s.threads → s.IsFresh t c → s.IsHeld u c b → u ≡ t
  pub in_no_hand : (t c : ℕ) → t < s.threads → s.IsFresh t c → hand_of s.part ≢ c
  pub not_old : (t c : ℕ) → t < s.threads → s.IsFresh t c → OldIsNot (s.phase t) c
  pub colour : (t c : ℕ) → t < s.threads → s.IsFresh t c → (s.colour c ≡ claim_at (s.stage t)) ⊎ (IsSync (s.stage t) × HasMarked (s.phase t) c)

-- ---- barriered stores and handshake answers under way

-- the globals' cell, or one that the thread holds
abbrev pub IsBase : State → (thread cell : ℕ) → Type 0
IsBase s t c = (c ≡ 0) ⊎ s.IsHeld t c (s.birth c)

-- the thread's stage is of the collector's cycle
abbrev pub IsInCycle : (cycle_of : ℕ → ℕ) → State → ℕ → Type 0
IsInCycle cycle_of s t = cycle_of (s.stage t) ≡ s.cycle

-- null, or the cell is marked
abbrev pub IsNullOrMarked : State → ℕ → Type 0
IsNullOrMarked s c = (c ≡ 0) ⊎ IsMarked s c

-- what a thread in this phase uses is held, and what it has marked is marked
abbrev pub Stands : (cycle_of : ℕ → ℕ) (IsSync : ℕ → Type 0) → State → (thread : ℕ) → Phase → Type 0
Stands cycle_of IsSync s t Ready = Unit {0}
Stands cycle_of IsSync s t (MarkingOld cell word old) = IsBase s t cell × (old ≢ 0) × IsBase s t old
Stands cycle_of IsSync s t (MarkingNew cell word old) = IsBase s t cell × IsBase s t old × (IsInCycle cycle_of s t → IsNullOrMarked s old)
Stands cycle_of IsSync s t (Writing cell word old new) = IsBase s t cell × IsBase s t old × (IsInCycle cycle_of s t → IsNullOrMarked s old) × IsSync (s.stage t) × (new ≢ 0) × IsBase s t new × IsMarked s new
Stands cycle_of IsSync s t (Answering stage marked) = (c : ℕ) → IsIn c marked → (c ≢ 0) × IsBase s t c × IsMarked s c × (stage ≡ 3 * s.cycle)

-- ---- the law of each time

-- what a loose word of a thread at the second stage points to is null or marked
abbrev pub LooseIsMarked : State → Type 0
LooseIsMarked s = (t x i : ℕ) → t < s.threads → suc (s.stage t) ≡ 3 * s.cycle → Differs (s.phase t) x i (s.word x i) → IsNullOrMarked s (s.word x i)

-- up to the marking of the globals the law of the handshake, up to the trace's end that of the trace
abbrev pub AtTime : State → Time → Type 0
AtTime s Early = LooseIsMarked s
AtTime s Late = IsSafe (picture s)
AtTime s Clean = Unit {0}

-- ---- all of it

-- the invariant of heap runs
pub record IsInvariant (done : ℕ) (cycle_of claim_at : ℕ → ℕ) (IsSync : ℕ → Type 0) (s : State) : Type 0 where
  pub stages : AreInStep done s
  pub colours : (c : ℕ) → IsColour s.part s.cycle (s.colour c)
  pub beyond : (c : ℕ) → s.cells ≤ c → s.colour c ≡ 0
  pub root : RootAt (time_of s.part) s.cycle (s.colour 0)
  pub under_way : IsUnderWay s s.part
  pub live : AreLive s
  pub fresh : AreFresh claim_at IsSync s
  pub stands : (t : ℕ) → t < s.threads → Stands cycle_of IsSync s t (s.phase t)
  pub law : AtTime s (time_of s.part)
