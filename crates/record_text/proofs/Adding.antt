-- Entries that are added to a record are read again.
use Rattle.std.proofs.Common.{◌≡◌, ℕ, zero, suc, ◌+◌, ◌*◌, ◌/◌, ◌<◌, ◌≤◌, ◌^◌, List, [], ◌∷◌, ◌++◌, length, reverse, drop, slice_index, refl, sym, ap, ◌∙◌, arith}
use Rattle.std.specs.Int.{to_le_bytes, from_le_bytes, w32, w64}
use Rattle.std.proofs.lemmas.List.{reverse-append, length-append, drop-append-le, length-drop, get_or_append_left}
use Rattle.std.proofs.lemmas.Nat.{from_le_bytes-to_le_bytes_2, from_le_bytes-to_le_bytes_4, from_le_bytes-to_le_bytes_8}
use Rattle.record_text.specs.declared.entry.Entry.{Entry}
use Rattle.record_text.specs.Entries.{entry_at, first_entries}
use Rattle.record_text.specs.Written.{bytes_of, IsRecord}

-- an entry is read from its bytes
pub reads_entry : (e : Entry) → e.word < 2 ^ 16 → e.cell < 2 ^ 32 → e.value < 2 ^ 64 → entry_at (bytes_of e) ≡ e
reads_entry e word cell value =
    let keep : Entry → Entry = λ x. x in
    ap (λ n. keep (record { actor = e.actor; kind = e.kind; word = n; cell = from_le_bytes w32 (to_le_bytes w32 e.cell); value = from_le_bytes w64 (to_le_bytes w64 e.value) })) (from_le_bytes-to_le_bytes_2 e.word word)
    ∙ ap (λ n. keep (record { actor = e.actor; kind = e.kind; word = e.word; cell = n; value = from_le_bytes w64 (to_le_bytes w64 e.value) })) (from_le_bytes-to_le_bytes_4 e.cell cell)
    ∙ ap (λ n. keep (record { actor = e.actor; kind = e.kind; word = e.word; cell = e.cell; value = n })) (from_le_bytes-to_le_bytes_8 e.value value)

-- more bytes change nothing of the first entry
front_entry : (bytes last : List ℕ) → 16 ≤ length bytes → entry_at (bytes ++ last) ≡ entry_at bytes
front_entry bytes last long =
    let h : (i : ℕ) → i < 16 → slice_index (bytes ++ last) i ≡ slice_index bytes i = λ i lt. get_or_append_left bytes last 0 i (omega (arith, lt, long)) in
    rw (
      h 0 (omega arith),
      h 1 (omega arith),
      h 2 (omega arith),
      h 3 (omega arith),
      h 4 (omega arith),
      h 5 (omega arith),
      h 6 (omega arith),
      h 7 (omega arith),
      h 8 (omega arith),
      h 9 (omega arith),
      h 10 (omega arith),
      h 11 (omega arith),
      h 12 (omega arith),
      h 13 (omega arith),
      h 14 (omega arith),
      h 15 (omega arith),
    ) refl

-- bytes of one entry more are read as one entry more
more : (n : ℕ) (bytes last : List ℕ) → length bytes ≡ n * 16 → first_entries (suc n) (bytes ++ last) ≡ first_entries n bytes ++ entry_at last ∷ []
unfolding first_entries
more zero [] last long = refl
more zero (b ∷ bytes) last long = absurd (omega (arith, long))
more (suc n) bytes last long =
    let many : 16 ≤ length bytes = omega (arith, long) in
    let cut = length-drop 16 bytes in
    ap (λ (e : Entry). e ∷ first_entries (suc n) (drop 16 (bytes ++ last))) (front_entry bytes last many)
    ∙ ap (λ (l : List Entry). entry_at bytes ∷ l) (ap (first_entries (suc n)) (drop-append-le 16 bytes last many) ∙ more n (drop 16 bytes) last (omega (arith, long, cut)))

-- a record with the bytes of one entry more
pub written : (bytes : List ℕ) (entries : List Entry) (e : Entry) → IsRecord bytes entries → e.word < 2 ^ 16 → e.cell < 2 ^ 32 → e.value < 2 ^ 64 → IsRecord (bytes ++ bytes_of e) (e ∷ entries)
written bytes entries e is word cell value =
    let n = length entries in
    let w = is.whole in
    let longer = length-append bytes (bytes_of e) in
    let count : length (bytes ++ bytes_of e) / 16 ≡ suc n = omega (arith, w, longer) in
    let before : length bytes / 16 ≡ n = omega (arith, w) in
    record {
      whole = omega (arith, w, longer);
      reads = ap (λ k. reverse (first_entries k (bytes ++ bytes_of e))) count ∙ ap reverse (more n bytes (bytes_of e) w) ∙ reverse-append (first_entries n bytes) (entry_at (bytes_of e) ∷ [])
          ∙ ap (λ (x : Entry). x ∷ reverse (first_entries n bytes)) (reads_entry e word cell value)
          ∙ ap (λ k. e ∷ reverse (first_entries k bytes)) (sym before) ∙ ap (λ (l : List Entry). e ∷ l) is.reads;
    }
