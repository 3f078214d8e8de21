-- The bytes of an entry.
use Rattle.std.specs.Prelude.{ℕ, zero, suc, ◌+◌, ◌*◌, ◌/◌, List, [], ◌∷◌, ◌++◌, length, drop, slice_index}
use Rattle.std.specs.Int.{from_le_bytes, w16, w32, w64}
use Rattle.record_text.specs.declared.entry.Entry.{Entry}

-- the entry with which bytes begin
abbrev pub entry_at : List ℕ → Entry
entry_at b = record {
  actor = slice_index b 0;
  kind = slice_index b 1;
  word = from_le_bytes w16 (slice_index b 2 ∷ slice_index b 3 ∷ []);
  cell = from_le_bytes w32 (slice_index b 4 ∷ slice_index b 5 ∷ slice_index b 6 ∷ slice_index b 7 ∷ []);
  value = from_le_bytes w64 (slice_index b 8 ∷ slice_index b 9 ∷ slice_index b 10 ∷ slice_index b 11 ∷ slice_index b 12 ∷ slice_index b 13 ∷ slice_index b 14 ∷ slice_index b 15 ∷ []);
}

-- the first entries of these bytes
unfoldable pub first_entries : (count : ℕ) → List ℕ → List Entry
first_entries zero bytes = []
first_entries (suc count) bytes = entry_at bytes ∷ first_entries count (drop 16 bytes)

-- the entries of a record: what is left after the last whole one does not count
abbrev pub entries_of : List ℕ → List Entry
entries_of bytes = first_entries (length bytes / 16) bytes
