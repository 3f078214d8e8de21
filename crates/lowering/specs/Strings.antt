-- Names as strings of C.
use Rattle.std.specs.Prelude.{◌∷◌, [], ◌++◌, length, codes}
use Rattle.std.specs.Fmt.{decimal}
use Rattle.ir_tokens.specs.Bytes.{Text}
use Rattle.name_text.specs.Names.{name_text, quoted_text}
use Rattle.name_text.specs.declared.blank.Blank.TheVariants as blank

-- how the line of a constant with these bytes goes on after its name
unfoldable pub string_of : Text → Text
string_of bytes = codes " = private constant [" ++ decimal (length bytes) ++ codes " x i8] c" ++ quoted_text blank.Kept bytes ++ 10 ∷ []

-- the same, with a name as it is printed without its sign, and then a 0
abbrev pub name_string : Text → Text
name_string name = string_of (name_text blank.Kept name ++ 0 ∷ [])
