-- What certificates say of the code outside of a module.
use Rattle.std.specs.Prelude.{[]}
use Rattle.ir_ast.specs.declared.outside.Outside.{Outside}

-- nothing is said
abbrev pub none_outside : Outside
none_outside = record { functions = []; numbers = [] }
