-- The index of a word is within the table.
use Rattle.std.proofs.Common.{◌≡◌, ℕ, zero, suc, [], ◌∷◌, ◌<◌, length, List, get_or, sym, ap, subst, ◌∙◌, arith}
use mathlib.Core.Option.{some, some-injective, some-ne-none}
use lib.ListN.{get_elem?}
use Rattle.std.proofs.lemmas.Grind.{get_or_default_zero}
use Rattle.pools.specs.Heap.{Setup, cells}
use Rattle.colours.specs.declared.place.Place.{Place}
use Rattle.heap_rule.specs.Rule.{start, size, HasPlace, index}
use Rattle.heap_rule.specs.Places.{within}
use Rattle.heap_words.specs.Places.{AreStarts}

pub has : (s : Setup) (p q : Place) → HasPlace s p → p ≡ q → HasPlace s q
has s p q here e = subst (HasPlace s) e here

-- and below the table's end
pub lies : (s : Setup) (p q : Place) → HasPlace s p → p ≡ q → index s q < size s
lies s p q here e = within s q (has s p q here e)

pub same_index : (s : Setup) (p q : Place) → p ≡ q → index s p ≡ index s q
same_index s p q e = ap (index s) e

-- a cell's place in the list of starts
pub start_of : (s : Setup) (starts : List ℕ) (c : ℕ) → AreStarts s starts → c < cells s → (c < length starts) × (get_or starts c 0 ≡ start s c)
start_of s starts c are h = (omega (arith, are.count, h), are.each c (omega (arith, h)))

-- what was found there
pub found_start : (s : Setup) (starts : List ℕ) (c x : ℕ) → AreStarts s starts → c < cells s → x ≡ get_or starts c x → x ≡ start s c
found_start s starts c x are h e = let k = start_of s starts c are h in e ∙ (get_or_default_zero starts c x k.0 ∙ k.1)

-- a number that was read there
pub read_at : (xs : List ℕ) (i r : ℕ) → get_elem? xs i ≡ some r → r ≡ get_or xs i 0
read_at [] i r e = absurd (some-ne-none r (sym e))
read_at (x ∷ xs) zero r e = sym (some-injective x r e)
read_at (x ∷ xs) (suc i) r e = read_at xs i r e
