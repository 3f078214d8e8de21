use Rattle.layout.proofs.Grown.{layouts_stay}
use Rattle.layout.proofs.laws.layouts_stay_law.Goals as goal

pub returns : goal.returns
returns c = λ m n layouts grow. layouts_stay m n grow layouts
