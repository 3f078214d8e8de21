-- What `explain` says of a code.
use Rattle.std.specs.Prelude.{◌≡◌, ◌++◌, ℕ, List, [], ◌∷◌, Option, Some, None, codes}
use Rattle.std.specs.Option.{option_map_or}
use Rattle.explain.specs.Codes.{code_named, text_of}
use Rattle.explain.specs.declared.list_texts.TheConstants.{LIST}
use Rattle.reports.specs.Report.{Answer}
use Rattle.reports.specs.Said.{Said, OnOutput, OnError}

-- the page of a code, or the list of all codes
abbrev pub explained : (text : List ℕ) → Answer
explained text = record { text = text; status = 0 }

-- no code has this name
abbrev pub no_code : (name : List ℕ) → Answer
no_code name = record { text = codes "error: `dgc explain` lists no code " ++ name ++ 10 ∷ []; status = 4 }

-- what is said where the code of this name is asked for: its page, or that there is no such code; without a name, the list
abbrev pub said_of : (name : Option (List ℕ)) → Said
said_of (Some name) = option_map_or (λ code. OnOutput (explained (text_of code))) (code_named name) (OnError (no_code name))
said_of None = OnOutput (explained LIST.now)

-- just that is said
abbrev pub OfExplain : (name : Option (List ℕ)) → Said → Type 0
OfExplain name said = said ≡ said_of name
