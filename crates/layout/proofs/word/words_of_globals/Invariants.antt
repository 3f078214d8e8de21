use Rattle.std.proofs.Common.{◌≡◌, map, take}
use Rattle.layout.specs.Globals.{kind_of_global}
use Rattle.layout.proofs.word.words_of_globals.Given as goal

abbrev pub invariant-loop-global : goal.invariant-loop-global
invariant-loop-global l = l.words ≡ map (kind_of_global l.«module») (take l.global-index l.global-items)
