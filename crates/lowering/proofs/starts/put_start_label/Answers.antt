use Rattle.std.proofs.Common.{◌≡◌, ◌++◌, append_assoc}
use Rattle.std.specs.Fmt.{decimal}
use Rattle.std.proofs.lemmas.Result.{on_ok_weaker}
use Rattle.lowering.specs.Starts.{start_label}
use Rattle.lowering.proofs.starts.put_start_label.Goals as goal

pub returns : goal.returns
unfolding start_label
returns c =
    on_ok_weaker c.put_number.result (
    λ (last : c.put_number.new.out.items ≡ c.extend_from_slice.new.self.items ++ decimal c.args.place).
    rw (last, c.in_ok-extend_from_slice.ensures.items) (simp append_assoc)
    ) c.put_number.ensures
