-- What the trace's law is about: a state of the heap between the marking of the globals and the end of the trace.
use Rattle.std.specs.Prelude.{ℕ, Bool, true, false, ◌≡◌, ◌⊎◌}

-- the words, the hand, and which cells and words are white, read, loose and held
pub record Picture : Type 1 where
  -- the cell that a word names, 0 for null
  pub word : ℕ → ℕ → ℕ
  -- the value in the collector's hand, or 0
  pub hand : ℕ
  pub IsWhite : ℕ → Type 0
  -- the word's cell is black, or in scan with this word already read
  pub IsRead : ℕ → ℕ → Type 0
  -- a thread is before its store to this word, and read another old value from it
  pub IsLoose : ℕ → ℕ → Type 0
  -- by a thread that answered the posted Async stage
  pub IsHeld : ℕ → Type 0

-- white cells, such that no word that will still be read or barriered points from outside into them
pub record IsUnsupported (p : Picture) (W : ℕ → Bool) : Type 0 where
  pub white : (c : ℕ) → W c ≡ true → p.IsWhite c
  pub hand : W p.hand ≡ false
  pub edge : (x i : ℕ) → W x ≡ false → p.IsRead x i ⊎ ((W (p.word x i) ≡ false) ⊎ p.IsLoose x i)

-- no held cell lies in the set, and no word from outside nor a loose one points into it
pub record IsSpared (p : Picture) (W : ℕ → Bool) : Type 0 where
  pub held : (c : ℕ) → p.IsHeld c → W c ≡ false
  pub word : (x i : ℕ) → W x ≡ false → W (p.word x i) ≡ false
  pub loose : (x i : ℕ) → p.IsLoose x i → W (p.word x i) ≡ false

-- the law of the trace: each unsupported set is spared
abbrev pub IsSafe : Picture → Type 0
IsSafe p = (W : ℕ → Bool) → IsUnsupported p W → IsSpared p W
