-- One number from 0 to the last is Canon's method at one more than the last.
use Rattle.std.proofs.Common.{◌≡◌, ◌≤◌, ◌+◌, ◌^◌, ℕ, arith, ap₂, ◌∙◌, sym, subst}
use Rattle.std.proofs.lemmas.Int.{ints}
use Rattle.std.specs.Prelude.{pos, ◌+ℤ◌, ◌-ℤ◌}
use Rattle.std.specs.Int.RustNames.{unsigned_abs}
use Rattle.rand_core.specs.Stream.{Stream, next_u32}
use Rattle.rand.specs.Uniform.{canon, DrawsBetween}
use Rattle.replay.specs.Draws.{one_draw}

-- how many numbers there are to draw from
pub width : (last : ℕ) → unsigned_abs ((pos last +ℤ pos 1) -ℤ pos 0) ≡ last + 1
width last = omega arith

-- they are not all of 32 bits
pub not_whole : (last : ℕ) → last ≤ 64 → ¬ (unsigned_abs ((pos last +ℤ pos 1) -ℤ pos 0) ≡ 2 ^ 32)
not_whole last le e = let bad : last + 1 ≡ 4294967296 = sym (width last) ∙ e in omega arith

-- a number that is drawn between 0 and the last is the one that is defined
pub drawn_is : {std : Stream → ℕ → Stream → Type 0} (last x : ℕ) (s t : Stream) → last ≤ 64 → DrawsBetween pos (2 ^ 32) std (canon (2 ^ 32) next_u32) (pos 0) (pos last +ℤ pos 1) s x t → (x, t) ≡ one_draw last s
unfolding one_draw
drawn_is last x s t le d =
    let low : pos x ≡ pos 0 +ℤ pos (canon (2 ^ 32) next_u32 (unsigned_abs ((pos last +ℤ pos 1) -ℤ pos 0)) s).0 = d.value (not_whole last le) in
    let rest : t ≡ (canon (2 ^ 32) next_u32 (unsigned_abs ((pos last +ℤ pos 1) -ℤ pos 0)) s).1 = d.rest (not_whole last le) in
    let x_is : x ≡ (canon (2 ^ 32) next_u32 (last + 1) s).0 =
    let placed = subst (λ w. pos x ≡ pos 0 +ℤ pos (canon (2 ^ 32) next_u32 w s).0) (width last) low in omega (arith, ints) in
    let t_is : t ≡ (canon (2 ^ 32) next_u32 (last + 1) s).1 = subst (λ w. t ≡ (canon (2 ^ 32) next_u32 w s).1) (width last) rest in
    ap₂ (λ (a : ℕ) (b : Stream). (a, b)) x_is t_is
