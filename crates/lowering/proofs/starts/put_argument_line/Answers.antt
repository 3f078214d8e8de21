use Rattle.std.proofs.Common.{append_assoc}
use Rattle.lowering.specs.Starts.{argument_line}
use Rattle.lowering.proofs.starts.put_argument_line.Goals as goal

pub returns : goal.returns
unfolding argument_line
returns c =
    rw (
      c.in_ok-push.ensures.items,
      c.in_ok-put_type.ensures,
      c.in_ok-extend_from_slice-5.ensures.items,
      c.in_ok-put_number-2.ensures,
      c.in_ok-extend_from_slice-4.ensures.items,
      c.part_begin.ensures,
      c.is_halved-halved.ensures,
      c.get-2.ensures,
      c.in_ok-extend_from_slice-3.ensures.items,
      c.from_word.ensures,
      c.get.ensures,
      c.in_ok-extend_from_slice-2.ensures.items,
      c.in_ok-put_number.ensures,
      c.in_ok-extend_from_slice.ensures.items,
    ) (simp append_assoc)
