use Rattle.std.proofs.Common.{◌≡◌, ◌++◌, codes, append_assoc}
use Rattle.std.proofs.lemmas.Result.{on_ok_weaker}
use Rattle.lowering.specs.Starts.{argument_half}
use Rattle.lowering.proofs.Pieces.{on_ok_items}
use Rattle.lowering.proofs.starts.put_argument_half.Goals as goal

pub returns : goal.returns
unfolding argument_half
returns c =
    on_ok_weaker c.extend_from_slice-3.result (
    λ (last : c.extend_from_slice-3.new.self.items ≡ c.put_number-2.new.out.items ++ codes " to i32\n").
    rw (
      last,
      c.in_ok-put_number-2.ensures,
      c.in_ok-extend_from_slice-2.ensures.items,
      c.in_ok-put_number.ensures,
      c.in_ok-extend_from_slice.ensures.items,
    ) (simp append_assoc)
    ) (on_ok_items c.extend_from_slice-3.result (c.put_number-2.new.out.items ++ codes " to i32\n") c.extend_from_slice-3.new.self.items c.put_number-2.new.out.items c.extend_from_slice-3.ensures.items)
