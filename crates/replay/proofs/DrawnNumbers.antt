-- The numbers that a seed draws for a thread, one by one, and that they have 64 bits.
use Rattle.std.proofs.Common.{◌≡◌, ◌<◌, ◌≤◌, ◌+◌, ◌-◌, ◌*◌, ◌^◌, ℕ, zero, suc, List, [], ◌∷◌, ◌++◌, refl, sym, ap, ◌∙◌, arith, append_assoc}
use Rattle.std.specs.Prelude.{◌%◌, ◌/◌, bit_xor}
use Rattle.std.specs.List.{AllByRecursion}
use Rattle.std.specs.Int.{w32, rotate_right}
use Rattle.std.proofs.lemmas.Nat.{or_lt}
use Rattle.std.proofs.Math.Nat.{div-le_self, mod-lt}
use Rattle.rand_core.specs.Pcg32Seed.{pcg32_seed}
use Rattle.rand_core.specs.Stream.{Stream, next_u64}
use Rattle.rand_core.specs.Steps.{stream_of, steps_u32, u64_via_u32}
use Rattle.rand_pcg.specs.Lcg.{Lcg}
use Rattle.rand_pcg.specs.Pcg.{pcg32, pcg32_of_seed, output_xsh_rr}
use Rattle.replay.specs.Draws.{seeded}
use Rattle.replay.specs.DrawnValues.{numbers_from, values_drawn}

-- ---- one by one

-- none is drawn so far
pub numbers-none : (before : List ℕ) (seed thread number : ℕ) (s : Stream) → s ≡ seeded number → number ≡ seed + (thread + 2) * 2 ^ 32 → before ++ values_drawn seed thread ≡ before ++ numbers_from (16 - 0) s
unfolding values_drawn
numbers-none before seed thread number s is number_is = ap (λ (t : Stream). before ++ numbers_from 16 t) (sym (is ∙ ap seeded number_is))

-- one more is drawn
pub numbers-more : (before done : List ℕ) (seed thread i x : ℕ) (s t : Stream) → i < 16 → (x, t) ≡ next_u64 s → before ++ values_drawn seed thread ≡ done ++ numbers_from (16 - i) s
    → before ++ values_drawn seed thread ≡ (done ++ x ∷ []) ++ numbers_from (16 - (i + 1)) t
unfolding numbers_from
numbers-more before done seed thread i x s t under is so_far =
    let next : 16 - i ≡ suc (16 - (i + 1)) = omega (arith, under) in
    let x_is : (next_u64 s).0 ≡ x = ap (λ (p : ℕ × Stream). p.0) (sym is) in
    let t_is : (next_u64 s).1 ≡ t = ap (λ (p : ℕ × Stream). p.1) (sym is) in
    so_far
    ∙ ap (λ n. done ++ numbers_from n s) next
    ∙ ap (λ (y : ℕ). done ++ (y ∷ numbers_from (16 - (i + 1)) (next_u64 s).1)) x_is
    ∙ ap (λ (u : Stream). done ++ (x ∷ numbers_from (16 - (i + 1)) u)) t_is
    ∙ sym (append_assoc done (x ∷ []) (numbers_from (16 - (i + 1)) t))

-- all are drawn
pub numbers-all : (done : List ℕ) (i : ℕ) (s : Stream) → 16 ≤ i → done ++ numbers_from (16 - i) s ≡ done ++ []
unfolding numbers_from
numbers-all done i s over =
    let none : 16 - i ≡ 0 = omega (arith, over) in
    ap (λ n. done ++ numbers_from n s) none

-- ---- of 64 bits

-- a word that is rotated has no more bits
rotated_below : (n by : ℕ) → n < 2 ^ 32 → rotate_right w32 n by < 2 ^ 32
rotated_below n by few =
    let less : n / 2 ^ (by % 32) ≤ n = div-le_self n (2 ^ (by % 32)) in
    or_lt 32 (n / 2 ^ (by % 32)) ((n * 2 ^ ((32 - by % 32) % 32)) % 2 ^ 32) (omega (arith, less, few)) (mod-lt (n * 2 ^ ((32 - by % 32) % 32)) (omega arith))

-- the generator's words have 32 bits
word_below : (g : Lcg) → (pcg32 g).0 < 2 ^ 32
word_below g = rotated_below (bit_xor (g.state / 2 ^ 18) g.state / 2 ^ 27 % 2 ^ 32) (g.state / 2 ^ 59) (mod-lt (bit_xor (g.state / 2 ^ 18) g.state / 2 ^ 27) (omega arith))

-- two of them have 64
two_below : (g : Lcg) → (u64_via_u32 pcg32 g).0 < 2 ^ 64
two_below g =
    let low : (pcg32 g).0 < 2 ^ 32 = word_below g in
    let high : (pcg32 (pcg32 g).1).0 < 2 ^ 32 = word_below (pcg32 g).1 in
    omega (arith, low, high)

-- so has each number of its stream
numbers_below : (count : ℕ) (g : Lcg) → AllByRecursion (λ value. value < 2 ^ 64) (numbers_from count (stream_of (steps_u32 pcg32) g))
unfolding numbers_from next_u64 stream_of
numbers_below zero g = tt
numbers_below (suc count) g = (two_below g, numbers_below count (u64_via_u32 pcg32 g).1)

-- and each number that a seed draws for a thread
pub values_below : (seed thread : ℕ) → AllByRecursion (λ value. value < 2 ^ 64) (values_drawn seed thread)
unfolding values_drawn seeded
values_below seed thread = numbers_below 16 (pcg32_of_seed (pcg32_seed 16 (seed + (thread + 2) * 2 ^ 32)))
