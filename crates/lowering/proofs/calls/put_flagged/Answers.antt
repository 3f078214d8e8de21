use Rattle.std.proofs.Common.{◌≡◌, ◌++◌, codes, append_assoc}
use Rattle.std.proofs.lemmas.Result.{on_ok_weaker}
use Rattle.lowering.proofs.Pieces.{on_ok_items}
use Rattle.lowering.proofs.calls.put_flagged.Goals as goal

pub returns : goal.returns
returns c =
    on_ok_weaker c.extend_from_slice.result (
    λ (last : c.extend_from_slice.new.self.items ≡ c.put_argument.new.out.items ++ codes ", i1 false)\n").
    rw (
      last,
      c.in_ok-put_argument.ensures,
      c.in_ok-put_call_head.ensures,
      c.in_ok-put_local_step.ensures,
    ) (simp append_assoc)
    ) (on_ok_items c.extend_from_slice.result (c.put_argument.new.out.items ++ codes ", i1 false)\n") c.extend_from_slice.new.self.items c.put_argument.new.out.items c.extend_from_slice.ensures.items)
