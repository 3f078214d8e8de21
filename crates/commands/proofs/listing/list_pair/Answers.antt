-- What the check says of the files of the pair stands on the two outputs, which were empty, and so in the line.
use Rattle.std.proofs.Common.{◌∙◌, ap, ap₂}
use Rattle.commands.specs.Listing.{line_of}
use Rattle.reports.specs.Files.{path_of}
use Rattle.commands.proofs.PairText.{told_text}
use Rattle.commands.proofs.listing.list_pair.Goals as goal

pub returns-clause-listed : goal.returns-clause-listed
returns-clause-listed g c =
    let said = c.in_ok-status.ensures in
    let told = told_text _ _ _ said.0 said.2 c.new-outputs.ensures.out c.new-outputs.ensures.err in
    let path = c.path_of.ensures ∙ ap path_of c.file_of.ensures in
    (said.0, said.1, told.0, c.in_ok-line.ensures ∙ ap₂ line_of path told.1)
