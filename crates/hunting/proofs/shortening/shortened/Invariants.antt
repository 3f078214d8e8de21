-- what was found so far breaks its run by the same kind of cause, and was found within the tries
use Rattle.std.proofs.Common.{◌≡◌, ◌≤◌}
use Rattle.hunting.specs.Shorter.{IsBreaking, kind_of}
use Rattle.hunting.proofs.shortening.shortened.Given as goal

abbrev pub invariant-loop-turn : goal.invariant-loop-turn
invariant-loop-turn l = record {
  breaking : IsBreaking l.program l.shorter.found.trace l.shorter.found.broken;
  kind : kind_of l.shorter.found.broken.cause ≡ l.kind;
  tries : l.shorter.tries ≤ l.limit;
}
