-- What a `Cursor` shows.
use Rattle.std.specs.Prelude.{◌≡◌, length}
use Rattle.ir_forms.specs.declared.cursor.Cursor.TheInside.{Inside}
use Rattle.ir_forms.specs.Place.{Place}

-- a cursor of the code as a place
abbrev pub place_of : Inside → Place
place_of c = record { text = c.text.now; rest = c.rest.now; bad = c.bad; wide = c.wide }

-- it knows where the text ends
abbrev pub IsWithinText : Inside → Type 0
IsWithinText c = c.end ≡ length c.text.now
