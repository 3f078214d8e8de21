use Rattle.std.proofs.Common.{◌≡◌, ◌-◌, [], suc}
use Rattle.ir_forms.specs.ManyWith.{many_with_from}
use Rattle.ir_forms.specs.Input.{left}
use Rattle.ir_forms.proofs.following.many_with.Given as goal

abbrev pub invariant-loop-turn : goal.invariant-loop-turn
invariant-loop-turn g l =
    many_with_from g.F.Following.ends g.F.Following.form g.F.Following.next (suc (left l.fn.input)) l.fn.first [] l.fn.input
    ≡ many_with_from g.F.Following.ends g.F.Following.form g.F.Following.next (l._turn-end - l._turn) l.so_far l.found l.input
