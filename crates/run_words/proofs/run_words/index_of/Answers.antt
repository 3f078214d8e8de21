use Rattle.std.proofs.Common.{arith}
use Rattle.colours.specs.declared.place.Place.TheVariants.{Stage, Colour, Word}
use Rattle.run_words.proofs.Indexing.{has, lies, found_start}
use Rattle.run_words.proofs.run_words.index_of.Goals as goal

pub overflow_add-result : goal.overflow_add-result
overflow_add-result c = let b = lies c.args._plan.now c.args.place (Stage c.in-Stage.thread) c.requires.place c.in-Stage.is in omega (arith, b, c.requires.small)

pub overflow_add-result-in-Word : goal.overflow_add-result-in-Word
overflow_add-result-in-Word c = let q = Word c.in-Word.cell c.in-Word.word in let b = lies c.args._plan.now c.args.place q c.requires.place c.in-Word.is in
    let f = found_start _ _ _ _ c.requires.starts (has c.args._plan.now c.args.place q c.requires.place c.in-Word.is).0 c.index-in-Word.ensures in omega (arith, b, f, c.requires.small)

pub overflow_add-result-in-Word-2 : goal.overflow_add-result-in-Word-2
overflow_add-result-in-Word-2 c = let q = Word c.in-Word.cell c.in-Word.word in let b = lies c.args._plan.now c.args.place q c.requires.place c.in-Word.is in
    let f = found_start _ _ _ _ c.requires.starts (has c.args._plan.now c.args.place q c.requires.place c.in-Word.is).0 c.index-in-Word.ensures in omega (arith, b, f, c.requires.small)

pub returns-in-Stage-clause-within : goal.returns-in-Stage-clause-within
returns-in-Stage-clause-within c = let b = lies c.args._plan.now c.args.place (Stage c.in-Stage.thread) c.requires.place c.in-Stage.is in omega (arith, b)

pub returns-in-Colour-clause-within : goal.returns-in-Colour-clause-within
returns-in-Colour-clause-within c = let q = Colour c.in-Colour.cell in let b = lies c.args._plan.now c.args.place q c.requires.place c.in-Colour.is in
    let f = found_start _ _ _ _ c.requires.starts (has c.args._plan.now c.args.place q c.requires.place c.in-Colour.is) c.index.ensures in omega (arith, b, f)

pub returns-in-Word-clause-within : goal.returns-in-Word-clause-within
returns-in-Word-clause-within c = let q = Word c.in-Word.cell c.in-Word.word in let b = lies c.args._plan.now c.args.place q c.requires.place c.in-Word.is in
    let f = found_start _ _ _ _ c.requires.starts (has c.args._plan.now c.args.place q c.requires.place c.in-Word.is).0 c.index-in-Word.ensures in omega (arith, b, f)
