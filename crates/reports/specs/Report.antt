-- The lines that the check's verdicts and the faults of its texts are printed as, and the status that the program then ends with.
use Rattle.std.specs.Prelude.{◌≡◌, ◌==◌, ◌++◌, if◌then◌else◌, ℕ, List, [], ◌∷◌, Option, Some, None, length, slice_get, option_and_then, codes}
use Rattle.std.specs.List.{flat_map}
use Rattle.std.specs.Fmt.{decimal}
use Rattle.std.specs.Io.KnownBytes.{Appends}
use Rattle.ir_ast.specs.declared.module.Module.{Module}
use Rattle.explain.specs.Codes.{name_of}
use Rattle.explain.specs.declared.code.Code.{Code}
use Rattle.explain.specs.declared.code.Code.TheVariants.{L7}
use Rattle.fault_codes.specs.FaultCodes.{cert_code, layout_code, read_code, trace_code}
use Rattle.fault_codes.specs.FaultPlaces.{cert_place, read_place, trace_place}
use Rattle.ir_tokens.specs.declared.position.Position.{Position}
use Rattle.ir_text.specs.declared.read_fault.ReadFault.{ReadFault}
use Rattle.ir_text.specs.declared.read_fault.ReadFault.TheVariants as read
use Rattle.layout.specs.declared.fault.LayoutFault.{LayoutFault}
use Rattle.layout.specs.declared.fault.LayoutFault.TheVariants as layout
use Rattle.certificate.specs.Print.{line_shown}
use Rattle.certificate.specs.declared.fault.CertFault.{CertFault}
use Rattle.certificate.specs.declared.fault.CertFault.TheVariants as cert
use Rattle.trace_text.specs.declared.fault.TraceFault.{TraceFault}
use Rattle.certs.specs.declared.section.Section.{Section}
use Rattle.block_rules.specs.declared.block_fault.Detail.{Detail}
use Rattle.block_rules.specs.declared.block_fault.Refusal.{Refusal}
use Rattle.module_check.specs.Trusts.{to_trust}
use Rattle.module_check.specs.declared.verdict.Reason.{Reason}
use Rattle.module_check.specs.declared.verdict.Reason.TheVariants.{Layout}
use Rattle.ir_print.specs.Names.{key_text}
use Rattle.name_text.specs.Names.{name_text}
use Rattle.name_text.specs.declared.blank.Blank.TheVariants as blank
use Rattle.block_rules.specs.RuleNames.{rule_name}

-- ---- names

-- the name of a function of the module
abbrev pub name_of_function : Module → (func : ℕ) → Option (List ℕ)
name_of_function m func = option_and_then (λ function. slice_get m.symbols function.symbol) (slice_get m.functions func)

-- the name of a block of a function of the module
abbrev pub name_of_block : Module → (func block : ℕ) → Option (List ℕ)
name_of_block m func block =
    option_and_then (λ function. option_and_then (λ block. slice_get function.locals block.label) (slice_get function.blocks block))
    (slice_get m.functions func)

-- the key of a local name of a function of the module
abbrev pub name_of_local : Module → (func local : ℕ) → Option (List ℕ)
name_of_local m func local = option_and_then (λ function. slice_get function.locals local) (slice_get m.functions func)

-- the name of a named struct of the module
abbrev pub name_of_struct : Module → (number : ℕ) → Option (List ℕ)
name_of_struct m number = option_and_then (λ named. slice_get m.struct_names named.name) (slice_get m.structs number)

-- a name, if there is one
abbrev pub found_name : Option (List ℕ) → List ℕ
found_name None = []
found_name (Some name) = name_text blank.Kept name

-- what has a key, if there is one
abbrev pub found_key : Option (List ℕ) → List ℕ
found_key None = []
found_key (Some key) = key_text key

-- ---- answers

-- what is printed, and the status with which the program ends after it
pub record Answer : Type 0 where
  pub text : List ℕ
  pub status : ℕ

-- a writer was given this text, and the status is this one
abbrev pub IsTold : (old new : Option (List ℕ)) → (status : ℕ) → Answer → Type 0
IsTold old new status answer = (status ≡ answer.status) × Appends old new answer.text

-- a line for something that is not read, not laid out or not begun
abbrev pub unread : (line : List ℕ) → Answer
unread line = record { text = codes "error " ++ line ++ 10 ∷ []; status = 2 }

-- where a fault is, after a blank, if it is at a place of its text
abbrev pub place_told : Option Position → List ℕ
place_told None = []
place_told (Some at) = 32 ∷ decimal at.line ++ 58 ∷ decimal at.column

-- out of memory
abbrev pub no_memory : Answer
no_memory = record { text = codes "error memory" ++ 10 ∷ []; status = 3 }

-- a file that cannot be read
abbrev pub no_file : (path : List ℕ) → Answer
no_file path = record { text = codes "error file " ++ path ++ 10 ∷ []; status = 4 }

-- a fault with its code, its place if it has one, and what else is told of it; where it has no code, memory was refused
abbrev pub of_fault : Option Code → Option Position → (told : List ℕ) → Answer
of_fault None at told = no_memory
of_fault (Some code) at told = unread (name_of code ++ place_told at ++ told)

-- the word at which a form begins that is left out
abbrev pub left_out_word : ReadFault → List ℕ
left_out_word (read.LeftOut at word) = 32 ∷ word
left_out_word _ = []

-- a text that is no module
abbrev pub of_read_fault : ReadFault → Answer
of_read_fault fault = of_fault (read_code fault) (read_place fault) (left_out_word fault)

-- what certificates lack
abbrev pub lacking : Module → CertFault → List ℕ
lacking m (cert.Missing func) = codes " @" ++ found_name (name_of_function m func)
lacking m (cert.MissingBlock func block) = codes " @" ++ found_name (name_of_function m func) ++ codes " %" ++ found_key (name_of_block m func block)
lacking m (cert.MissingWord layout word) = 32 ∷ found_name (name_of_struct m layout) ++ 32 ∷ decimal word
lacking m (cert.MissingGlobal symbol) = codes " @" ++ found_name (slice_get m.symbols symbol)
lacking m (cert.MissingRoot func slot) = codes " @" ++ found_name (name_of_function m func) ++ codes " %" ++ found_key (name_of_local m func slot)
lacking m _ = []

-- a text that is no certificate of the module
abbrev pub of_cert_fault : Module → CertFault → Answer
of_cert_fault m fault = of_fault (cert_code fault) (cert_place fault) (lacking m fault)

-- the struct that has no layout
abbrev pub without_layout : Module → LayoutFault → List ℕ
without_layout m (layout.HoldsItself number) = 32 ∷ found_name (name_of_struct m number)
without_layout m (layout.TooManyWords number) = 32 ∷ found_name (name_of_struct m number)
without_layout m _ = []

-- a module that has no layouts
abbrev pub of_layout_fault : Module → LayoutFault → Answer
of_layout_fault m fault = of_fault (layout_code fault) None (without_layout m fault)

-- why no instruction of a module is checked
abbrev pub of_layout_reason : Module → Reason → Answer
of_layout_reason m (Layout fault) = of_layout_fault m fault
of_layout_reason m _ = no_memory

-- a text that is no text of edits; its one fault is C1
abbrev pub of_edits_fault : CertFault → Answer
of_edits_fault fault = of_fault (cert_code fault) (cert_place fault) []

-- a text that is no trace of the program
abbrev pub of_trace_fault : TraceFault → Answer
of_trace_fault fault = of_fault (trace_code fault) (trace_place fault) []

-- ---- the check

-- the name of a function outside with its sign, after a blank
abbrev pub trusted_name : Module → (symbol : ℕ) → List ℕ
trusted_name m symbol = codes " @" ++ found_name (slice_get m.symbols symbol)

-- a text that is to be lowered has this function outside, which gives an address
abbrev pub of_address_given : Module → (symbol : ℕ) → Answer
of_address_given m symbol = of_fault (Some L7) None (trusted_name m symbol)

-- a line of the functions outside that are trusted, if there are some
abbrev pub trusts_line : Module → (trusts : List ℕ) → List ℕ
trusts_line m [] = []
trusts_line m trusts = codes "trusts" ++ flat_map (trusted_name m) trusts ++ 10 ∷ []

-- a module is accepted: how many functions it defines, and which functions outside are trusted
abbrev pub yes : Module → (trusts : List ℕ) → Answer
yes m trusts = record { text = codes "yes " ++ decimal (length m.functions) ++ 10 ∷ trusts_line m trusts; status = 0 }

-- how many functions outside are trusted, if some are
abbrev pub trusts_count : (trusts : ℕ) → List ℕ
trusts_count trusts = if trusts == 0 then [] else codes " trusts " ++ decimal trusts

-- the module of a session is accepted: the same in one line, with the number of those that are trusted
abbrev pub yes_again : Module → Answer
yes_again m = record { text = codes "yes " ++ decimal (length m.functions) ++ trusts_count (length (to_trust m)) ++ 10 ∷ []; status = 0 }

-- the line of a certificate that a refusal names, if it names one
abbrev pub line_of : List Section → Module → (func : ℕ) → Option Detail → List ℕ
line_of certs m func None = []
line_of certs m func (Some detail) = line_shown certs m func detail.target detail.claim

-- the target of an edge and the line of the claim that is not implied on it, if there are any
abbrev pub detail_text : Module → (func : ℕ) → (line : List ℕ) → Option Detail → List ℕ
detail_text m func line None = []
detail_text m func line (Some detail) = codes " %" ++ found_key (name_of_block m func detail.target) ++ 32 ∷ line

-- a function and a block of it
abbrev pub block_text : Module → (func block : ℕ) → List ℕ
block_text m func block = codes "@" ++ found_name (name_of_function m func) ++ codes " %" ++ found_key (name_of_block m func block)

-- where a refused instruction is: its function, its block and its place there
abbrev pub place_text : Module → Refusal → List ℕ
place_text m refusal = block_text m refusal.func refusal.block ++ 32 ∷ decimal refusal.instr

-- an instruction is refused: where it is and the rule that it breaks
abbrev pub no : Module → (line : List ℕ) → Refusal → Answer
no m line refusal = record {
  text = codes "no " ++ place_text m refusal ++ 32 ∷ rule_name refusal.rule ++ detail_text m refusal.func line refusal.detail ++ 10 ∷ [];
  status = 1;
}

-- ---- the maker

-- the text of certificates that are made
abbrev pub made_text : (text : List ℕ) → Answer
made_text text = record { text = text; status = 0 }

-- no certificates are made
abbrev pub no_answer : Answer
no_answer = record { text = codes "no answer" ++ 10 ∷ []; status = 1 }
