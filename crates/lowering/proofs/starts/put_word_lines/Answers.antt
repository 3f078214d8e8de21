use Rattle.std.proofs.Common.{◌≡◌, ◌++◌, append_assoc}
use Rattle.std.proofs.lemmas.Result.{on_ok_weaker}
use Rattle.lowering.specs.Starts.{word_lines}
use Rattle.lowering.proofs.Pieces.{on_ok_items}
use Rattle.lowering.proofs.starts.put_word_lines.Goals as goal

pub returns : goal.returns
unfolding word_lines
returns c =
    on_ok_weaker c.extend_from_slice-3.result (
    λ (last : c.extend_from_slice-3.new.self.items ≡ c.put_type.new.out.items ++ c.word_end.result.now).
    rw (
      last,
      c.word_end.ensures,
      c.in_ok-put_type.ensures,
      c.in_ok-extend_from_slice-2.ensures.items,
      c.to_word.ensures,
      c.get-2.ensures,
      c.in_ok-extend_from_slice.ensures.items,
      c.word_begin.ensures,
      c.is_halved-halved.ensures,
      c.get.ensures,
    ) (simp append_assoc)
    ) (on_ok_items c.extend_from_slice-3.result (c.put_type.new.out.items ++ c.word_end.result.now) c.extend_from_slice-3.new.self.items c.put_type.new.out.items c.extend_from_slice-3.ensures.items)
