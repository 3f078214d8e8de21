-- Rows with their numbers, written among blank ones.
use Rattle.std.proofs.Common.{◌≡◌, ◌⊎◌, ◌∙◌, ℕ, List, [], ◌∷◌, length, map, refl, sym, inl, inr}
use Rattle.std.proofs.lemmas.List.{get_or-set_other, length-set, length-replicate}
use Rattle.std.specs.Prelude.{slice_set, replicate}
use Rattle.std.proofs.lemmas.Bool.{cases_eq}
use Rattle.lemmas.specs.Lists.{IsIn}
use Rattle.fact_tables.specs.EachListed.{each_listed, copied}
use Rattle.fact_tables.proofs.EachListed.{copied_all}
use Rattle.fact_tables.specs.declared.numbered.Numbered.{Numbered}
use Rattle.fact_tables.specs.declared.row.Row.{Row}
use Rattle.fact_tables.specs.Sheets.{blank, row_at, OnlyMarked}
use Rattle.fact_tables.specs.Numbered.{numbered_at, number_of, written, among_blank}
use Rattle.fact_tables.proofs.Sheets.{blank_at}

-- rows that are numbered are written as they are copied
written_copied : (others : List Row) (marked : List ℕ) (rows : List Row) → written (map (numbered_at others) marked) rows ≡ each_listed blank (copied blank others) marked rows
written_copied others [] rows = refl
written_copied others (u ∷ marked) rows = written_copied others marked (slice_set rows u (row_at others u))

length_written : (numbered : List Numbered) (rows : List Row) → length (written numbered rows) ≡ length rows
length_written [] rows = refl
length_written (one ∷ numbered) rows = length_written numbered (slice_set rows one.number one.row) ∙ length-set rows one.number one.row

pub length_among : (count : ℕ) (numbered : List Numbered) → length (among_blank count numbered) ≡ count
length_among count numbered = length_written numbered (replicate count blank) ∙ length-replicate count blank

-- a row that is not written is as it was
written_other : (numbered : List Numbered) (rows : List Row) (v : ℕ) → IsIn v (map number_of numbered) ⊎ (row_at (written numbered rows) v ≡ row_at rows v)
written_other [] rows v = inr refl
written_other (one ∷ numbered) rows v = pick (cases_eq one.number v) (written_other numbered next v) where
  next : List Row
  next = slice_set rows one.number one.row

  pick : (one.number ≡ v) ⊎ (one.number ≡ v → ⊥) → IsIn v (map number_of numbered) ⊎ (row_at (written numbered next) v ≡ row_at next v) → IsIn v (map number_of (one ∷ numbered)) ⊎ (row_at (written numbered next) v ≡ row_at rows v)
  pick (inl same) more = inl (inl (sym same))
  pick (inr ne) (inl later) = inl (inr later)
  pick (inr ne) (inr e) = inr (e ∙ get_or-set_other rows one.number v one.row blank (λ x. ne (sym x)))

-- among blank rows only those are filled that are written
pub written_marked : (count : ℕ) (numbered : List Numbered) → OnlyMarked (map number_of numbered) (among_blank count numbered)
written_marked count numbered v = elim (written_other numbered (replicate count blank) v) [ inl one ↦ inl one | inr e ↦ inr (e ∙ blank_at count v) ]

-- the rows that are marked, among blank ones, are all rows
pub kept_all : (marked : List ℕ) (rows : List Row) → OnlyMarked marked rows → among_blank (length rows) (map (numbered_at rows) marked) ≡ rows
kept_all marked rows only = written_copied rows marked (replicate (length rows) blank) ∙ copied_all blank marked (replicate (length rows) blank) rows only refl
