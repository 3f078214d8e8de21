use Rattle.ir_ast.proofs.Marks.{marks_after}
use Rattle.ir_ast.proofs.symbol_list.SymbolList.push.Goals as goal

pub invariant_of-self-2 : goal.invariant_of-self-2
invariant_of-self-2 c =
    let fields = c.self.inside in
    rw (c.set.ensures, c.number.ensures, c.in_ok-push.ensures.ok) (marks_after fields.listed fields.marks c.cover.new.marks c.args.symbol c.self.invariant c.cover.ensures.same c.in_ok-cover.ensures.long)
