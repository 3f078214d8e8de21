-- Texts of parts that are told by their places, from 0.
use Rattle.std.specs.Prelude.{ℕ, suc, ◌==◌, if◌then◌else◌, List, [], ◌∷◌, ◌++◌, codes}
use Rattle.ir_tokens.specs.Bytes.{Text}

-- what stands before a row at this place
abbrev pub before_row : (place : ℕ) → Text
before_row place = if place == 0 then [] else codes ", "

-- the texts of these parts, each with its place, of which the first has this one
abbrev pub numbered : {A : Type 0} → (ℕ → A → Text) → (place : ℕ) → List A → Text
numbered shown place [] = []
numbered shown place (part ∷ parts) = shown place part ++ numbered shown (suc place) parts
