use Rattle.std.proofs.Common.{append_assoc}
use Rattle.lowering.specs.Starts.{argument_word}
use Rattle.lowering.proofs.starts.put_argument_word.Goals as goal

pub returns : goal.returns
unfolding argument_word
returns c =
    rw (
      c.in_ok-push.ensures.items,
      c.in_ok-put_number-4.ensures,
      c.in_ok-extend_from_slice-4.ensures.items,
      c.in_ok-put_number-3.ensures,
      c.in_ok-extend_from_slice-3.ensures.items,
      c.in_ok-put_number-2.ensures,
      c.in_ok-extend_from_slice-2.ensures.items,
      c.in_ok-put_number.ensures,
      c.in_ok-extend_from_slice.ensures.items,
    ) (simp append_assoc)
