-- What reading gives: a value and the state from which reading goes on, or a fault.
use Rattle.std.specs.Prelude.{◌≡◌, ◌≢◌, Result, Ok, Err}

-- what reading gives: a value and where the text goes on, or a fault
abbrev pub Outcome : (S E A : Type 0) → Type 0
Outcome S E A = Result (A × S) E

-- reading from a place on
abbrev pub Parser : (S E A : Type 0) → Type 0
Parser S E A = S → Outcome S E A

-- one reader, and then the one that its value tells
abbrev pub and_then : {S E A B : Type 0} → Outcome S E A → (A → Parser S E B) → Outcome S E B
and_then (Ok p) f = f p.0 p.1
and_then (Err e) f = Err e

-- What a function that reads ensures: the outcome, unless memory runs out.
abbrev pub Reads : {S E A : Type 0} → E → Outcome S E A → Result A E → S → Type 0
Reads memory outcome (Ok a) new = outcome ≡ Ok (a, new)
Reads memory outcome (Err e) new = e ≢ memory → outcome ≡ Err e

-- What a function that returns a result ensures: what reading gives, unless memory runs out.
abbrev pub Gives : {E X : Type 0} → E → Result X E → Result X E → Type 0
Gives memory (Ok x) given = given ≡ Ok x
Gives memory (Err e) given = e ≢ memory → given ≡ Err e
