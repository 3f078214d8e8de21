-- the starts so far with what is drawn for them
use Rattle.std.proofs.Common.{◌≡◌, length, take}
use Rattle.replay.specs.DrawnValues.{starts_drawn}
use Rattle.replay.proofs.drawn_values.starts_drawn.Given as goal

abbrev pub invariant-loop-start : goal.invariant-loop-start
invariant-loop-start l = record {
  drawn : l.drawn ≡ starts_drawn l.seed 0 (take l.start-index l.starts);
  count : length l.drawn ≡ l.start-index;
}
