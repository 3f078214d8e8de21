-- What is known of a value after a safepoint.
use Rattle.std.proofs.Common.{◌≡◌, ℕ, zero, suc, ◌+◌, List, [], ◌∷◌, map, refl, ap, ◌∙◌, arith}
use Rattle.std.specs.List.{enumerate_from}
use Rattle.fact_tables.specs.declared.known.Known.{Known}
use Rattle.fact_tables.specs.Rows.{known_at, stale_of}

-- what is known of a value, from the value with number n on
stale_from : (n : ℕ) (values : List Known) (v : ℕ) → known_at (map stale_of (enumerate_from n values)) v ≡ stale_of (n + v, known_at values v)
stale_from n [] v = refl
stale_from n (x ∷ xs) zero = let e : n ≡ n + 0 = omega arith in ap (λ m. stale_of (m, x)) e
stale_from n (x ∷ xs) (suc v) = let e : (n + 1) + v ≡ n + suc v = omega arith in stale_from (n + 1) xs v ∙ ap (λ m. stale_of (m, known_at xs v)) e

-- what is known of a value
pub stale_at : (values : List Known) (v : ℕ) → known_at (map stale_of (enumerate_from 0 values)) v ≡ stale_of (v, known_at values v)
stale_at values v = let e : 0 + v ≡ v = omega arith in stale_from 0 values v ∙ ap (λ m. stale_of (m, known_at values v)) e
