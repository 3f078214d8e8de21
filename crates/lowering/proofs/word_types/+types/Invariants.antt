use Rattle.std.proofs.Common.{◌≡◌, ◌+◌, ◌*◌, ◌-◌, ◌++◌, length}
use Rattle.ir_print.specs.Types.{fields_text}
use Rattle.lowering.specs.Types.{words_within}
use Rattle.lowering.proofs.word_types.+types.Given as goal

abbrev pub decreases-put_within : goal.decreases-put_within
decreases-put_within l = 4 * l.levels

abbrev pub decreases-put_shown : goal.decreases-put_shown
decreases-put_shown l = 4 * l.levels + 3

abbrev pub decreases-put_array : goal.decreases-put_array
decreases-put_array l = 4 * l.levels + 1

abbrev pub decreases-put_struct : goal.decreases-put_struct
decreases-put_struct l = 4 * l.levels + 2

abbrev pub decreases-put_fields : goal.decreases-put_fields
decreases-put_fields l = 4 * l.levels + 1

abbrev pub invariant-put_fields-loop-turn : goal.invariant-put_fields-loop-turn
invariant-put_fields-loop-turn l =
    l.fn.out.items ++ fields_text (words_within l.levels l.«module») l.«module» (length l.«module».types) l.fn.fields
    ≡ l.out.items ++ fields_text (words_within l.levels l.«module») l.«module» (l._turn-end - l._turn) l.fields
