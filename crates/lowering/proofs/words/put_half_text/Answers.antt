use Rattle.std.proofs.Common.{◌≡◌, ◌++◌, codes, append_assoc}
use Rattle.std.proofs.lemmas.Result.{on_ok_weaker}
use Rattle.lowering.specs.Words.{half_text}
use Rattle.lowering.proofs.Pieces.{on_ok_items}
use Rattle.lowering.proofs.words.put_half_text.Goals as goal

pub returns : goal.returns
unfolding half_text
returns c =
    on_ok_weaker c.extend_from_slice-3.result (
    λ (last : c.extend_from_slice-3.new.self.items ≡ c.put_seat.new.out.items ++ codes " to i32\n").
    rw (
      last,
      c.in_ok-put_seat.ensures,
      c.in_ok-extend_from_slice-2.ensures.items,
      c.in_ok-put_part.ensures,
      c.in_ok-extend_from_slice.ensures.items,
    ) (simp append_assoc)
    ) (on_ok_items c.extend_from_slice-3.result (c.put_seat.new.out.items ++ codes " to i32\n") c.extend_from_slice-3.new.self.items c.put_seat.new.out.items c.extend_from_slice-3.ensures.items)
