-- What a thread of a program asks for fits its heap, and so does what it holds after each answer.
use Rattle.std.proofs.Common.{sym, subst}
use Rattle.pools.specs.Heap.{Setup}
use Rattle.machine.specs.Machine.{action, roots}
use Rattle.moves.specs.Kinds.{KeepsKinds}
use Rattle.program_safety.specs.Threads.{ProgramThread, asks, goes_on, names, given_as}
use Rattle.program_runner.specs.Kinds.{FitsThread}
use Rattle.program_runner.specs.Given.{FitsAsked, given_fits}
use Rattle.program_runner.specs.Asks.{action_asks}
use Rattle.program_runner.specs.Goes.{answer_fits}
use Rattle.program_runner.specs.Roots.{roots_fit, all_named}

-- whatever the program
pub thread_keeps_kinds : (s : Setup) (t : ProgramThread) → FitsThread s t → KeepsKinds s asks goes_on names (FitsThread s) t
thread_keeps_kinds s t fits = record {
  asks = action_asks s t.program fits.heap t.state fits.frames;
  roots_fit = λ r is. all_named s (roots t.program.of_module t.state) (roots_fit s t.program.of_module t.state.frames fits.frames) r is;
  goes_on = λ answer by_kind. record {
    over = fits.over;
    heap = fits.heap;
    frames = answer_fits s t.program fits.heap t.state (given_as t.heap t.values (action t.program t.state) answer) fits.frames
        (subst (λ h. FitsAsked s (action t.program t.state) (given_as h t.values (action t.program t.state) answer)) (sym fits.over) (given_fits s t.values (action t.program t.state) answer by_kind));
  };
}
