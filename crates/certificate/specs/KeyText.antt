-- The key of a name, as it is printed.
use Rattle.std.proofs.Common.{◌≡◌, ap}
use Rattle.ir_ast.specs.Keys.{name_again, no_number}
use Rattle.ir_ast.specs.LocalKeys.{key_of_name}
use Rattle.ir_tokens.specs.Bytes.{Text}
use Rattle.certificate.specs.Print.{name_text, key_text}

-- the key of a name is printed as that name
pub name_key_text : (name : Text) → key_text (key_of_name name) ≡ name_text name
name_key_text name = rw (no_number name) (ap name_text (name_again name))
