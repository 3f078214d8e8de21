use Rattle.std.proofs.Common.{◌≡◌, ◌++◌, ℕ, List, Option, subst}
use Rattle.std.specs.Io.KnownBytes.{Appends}
use Rattle.std.proofs.KnownBytes.{Appends-trans}
use Rattle.search_commands.proofs.found_seeds.write_seed.Goals as goal

-- the words, the seed and then the break
written : (old begun new : Option (List ℕ)) (words own seed rest : List ℕ) → words ≡ own → Appends old begun (words ++ seed) → Appends begun new rest → Appends old new ((own ++ seed) ++ rest)
written old begun new words own seed rest is first more = Appends-trans old begun new (own ++ seed) rest (subst (λ (front : List ℕ). Appends old begun (front ++ seed)) is first) more

pub returns : goal.returns
returns g c = written _ _ _ _ _ _ _ c.seed_words.ensures c.in_ok-write.ensures.bytes c.in_ok-write_break.ensures
