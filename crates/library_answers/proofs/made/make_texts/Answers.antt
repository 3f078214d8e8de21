use Rattle.library_answers.proofs.made.make_texts.Goals as goal

pub returns : goal.returns
returns c = (c.texts_of_make-files.result, c.texts_of_make-files.ensures, c.make_files.ensures)
