-- the pairs so far are those of the lines so far, and each of these lines may stand in a list
use Rattle.std.proofs.Common.{◌≡◌, map, take, true}
use Rattle.std.specs.List.{All}
use Rattle.pair_lists.specs.Lists.{ArePairs, is_line}
use Rattle.pair_lists.proofs.reader.pairs_of.Given as goal

abbrev pub invariant-loop-place : goal.invariant-loop-place
invariant-loop-place l = record {
  pairs : ArePairs (map (λ line. line.now) (take l.place l.found)) l.pairs.items;
  fine : All (λ line. is_line line ≡ true) (map (λ line. line.now) (take l.place l.found));
}
