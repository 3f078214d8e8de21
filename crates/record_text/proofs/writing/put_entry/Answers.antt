-- The bytes of the entry follow those of the record.
use Rattle.std.proofs.Common.{◌∷◌, ◌++◌, List, ℕ, sym, ap, ◌∙◌, subst}
use Rattle.record_text.specs.Written.{IsRecord}
use Rattle.record_text.proofs.Adding.{written}
use Rattle.record_text.proofs.writing.put_entry.Goals as goal

pub returns : goal.returns
returns c entries is =
    let old = c.args.bytes.now.items in
    let fits = c.bytes_of.ensures in
    subst (λ (bytes : List ℕ). IsRecord bytes (c.args.entry ∷ entries)) (sym (c.in_ok-extend_from_slice.ensures.items ∙ ap (λ (bytes : List ℕ). old ++ bytes) fits.bytes))
    (written old entries c.args.entry is fits.word fits.cell fits.value)
