use Rattle.std.proofs.Common.{◌≡◌, ◌<◌, ◌^◌, Some, arith}
use Rattle.ir_ast.specs.Types.{place_of_type}
use Rattle.ir_forms.proofs.NoneThere.{known_pointer}
use Rattle.ir_forms.proofs.input.Input.intern_pointer.Goals as goal

pub returns-in-Some : goal.returns-in-Some
returns-in-Some c =
    let there : place_of_type c.args.new c.args.self.now.types ≡ Some c.new.result = cc in
    let less : c.new.result < 2 ^ 32 = omega arith in
    known_pointer c.args.start c.args.new c.new.result c.args.self.now there less
