-- Threads that begin at functions of a certified program are sound, and so their runs are safe.
use Rattle.std.proofs.Common.{ℕ, List, [], ◌∷◌, map, refl, sym, subst}
use Rattle.lemmas.specs.Lists.{IsIn}
use Rattle.pools.specs.Heap.{Setup}
use Rattle.layout.specs.Layouts.{LaidOut}
use Rattle.layout.specs.Globals.{IsHeapFor}
use Rattle.certs.specs.declared.section.Section.{Section}
use Rattle.machine.specs.declared.answer.Answer.{Answer}
use Rattle.machine.specs.Machine.{State, action, after_answer, roots}
use Rattle.machine.specs.Log.{Log, IsSafe, Safe}
use Rattle.soundness.specs.Discipline.{AreCertified, CertifiedIsNeverWrong}
use Rattle.runs.specs.Machine.{WordValue}
use Rattle.runs.specs.Moves.{Move, answer_of}
use Rattle.runs.specs.Discipline.{MayName, MayCall, IsPossibleMove}
use Rattle.runs.specs.Soundness.{EndsCall, Grows, IsSound, AreSound}
use Rattle.program_safety.specs.Threads.{ProgramThread, asked_as, values_after, given_as, reference_in, asks, goes_on, names, program_machine}
use Rattle.program_safety.specs.Sound.{BearsOut, Sound}
use Rattle.program_safety.specs.Safety.{IsBegun, AreBegun}
use Rattle.program_safety.proofs.Steps.{Left, may_call, may_name, afterwards_call}

-- what a thread that is safe for every list of answers is now
now : (s : Setup) (share : List Move) (t : ProgramThread) (h : Sound s share t) → IsSafe s t.program t.state h.log
now s share t h = h.safe []

calls : (s : Setup) (share : List Move) (t : ProgramThread) → Sound s share t → MayCall s share (asks t)
calls s share t h = may_call s share h.log (action t.program t.state) h.borne_out (now s share t h).keeps

all_named : (s : Setup) (share : List Move) (t : ProgramThread) → Sound s share t → (r : WordValue) → IsIn r (names t) → MayName s share r
all_named s share t h = may_name s share h.log (roots t.program.of_module t.state) h.borne_out (now s share t h).rooted

grows : (s : Setup) (share more : List Move) (t : ProgramThread) → Sound s share t → Grows s share more → Sound s more t
grows s share more t h g = record {
  over = h.over;
  log = h.log;
  borne_out = record { held = λ at x. g.held _ (h.borne_out.held at x); fresh = λ cell x. ((h.borne_out.fresh cell x).0, g.fresh cell (h.borne_out.fresh cell x).1) };
  safe = h.safe;
}

-- a thread over this very heap goes on
goes_on_over : (s : Setup) (share : List Move) (program : LaidOut) (state : State) (values : List ℕ) (log : Log) (move : Move) → BearsOut s share log → ((answers : List Answer) → Safe s program state log answers)
    → EndsCall s (map reference_in (roots program.of_module state)) (asked_as (action program state)) move → IsPossibleMove s share move
    → Sound s (move ∷ share)
    (record { heap = s; program = program; state = after_answer program state (given_as s values (action program state) (answer_of (asked_as (action program state)) move)); values = values_after (action program state) values })
goes_on_over s share program state values log move b safe e p = record {
  over = refl;
  log = record { asked = action program state; given = given; roots = roots program.of_module state } ∷ log;
  borne_out = left.borne_out;
  safe = λ answers. (safe (given ∷ answers)).1 left.possible;
}
  where
    given : Answer
    given = given_as s values (action program state) (answer_of (asked_as (action program state)) move)

    left : Left s share log (action program state) given (roots program.of_module state) move
    left = afterwards_call s values share log (roots program.of_module state) (action program state) move b (safe []).keeps (safe []).rooted e p

goes_on_sound : (s : Setup) (share : List Move) (t : ProgramThread) (move : Move) → Sound s share t → EndsCall s (names t) (asks t) move → IsPossibleMove s share move
    → Sound s (move ∷ share) (goes_on t (answer_of (asks t) move))
goes_on_sound s share t move h e p =
    subst
    (λ heap. Sound s (move ∷ share)
    (record { heap = heap; program = t.program; state = after_answer t.program t.state (given_as heap t.values (action t.program t.state) (answer_of (asks t) move)); values = values_after (action t.program t.state) t.values }))
    (sym h.over)
    (goes_on_over s share t.program t.state t.values h.log move h.borne_out h.safe e p)

-- the predicate is sound for the machine of programs
pub sound : (s : Setup) → IsSound s program_machine (Sound s)
sound s = record { calls = calls s; roots = all_named s; grows = grows s; goes_on = goes_on_sound s }

-- and holds of a thread that begins at a function of a certified program
pub begun : CertifiedIsNeverWrong → (program : LaidOut) (certs : List Section) → AreCertified program certs → (s : Setup) (t : ProgramThread) → IsHeapFor s program → IsBegun s program certs t → Sound s [] t
begun law program certs all s t for b = subst (Sound s []) (sym b.stands) (record {
  over = refl;
  log = [];
  borne_out = record { held = λ at h. absurd h; fresh = λ cell f. absurd f };
  safe = λ answers. law program certs b.func b.function s b.arguments answers b.is for all b.takes;
})

-- so of all threads that do
pub all_sound : CertifiedIsNeverWrong → (program : LaidOut) (certs : List Section) → AreCertified program certs → (s : Setup) (starts : ℕ → ProgramThread) → IsHeapFor s program → AreBegun s program certs starts
    → AreSound s program_machine (Sound s) starts
all_sound law program certs all s starts for b = record { sound = sound s; begun = λ t lt. begun law program certs all s (starts t) for (b t lt) }
