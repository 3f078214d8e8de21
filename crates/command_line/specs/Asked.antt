-- What a command line asks for, and what becomes of an error of `clap`.
use Rattle.std.specs.Prelude.{◌≤◌, ◌+◌, ℕ, Bool, true, false, Option, Some, None, codes, nat_lt, option_map, if◌then◌else◌}
use Rattle.std.specs.Option.{option_map_or}
use Rattle.std.specs.Str.{bytes_eq}
use Rattle.clap.specs.Words.{Text, kind_of}
use Rattle.clap.specs.declared.error.Error.{Error}
use Rattle.clap.specs.declared.error.kind.ErrorKind.{ErrorKind}
use Rattle.clap.specs.declared.error.kind.ErrorKind.TheVariants.{OutOfMemory}
use Rattle.command_line.specs.declared.command.Command.{Command}
use Rattle.command_line.specs.declared.command.Explained.{Explained}
use Rattle.command_line.specs.declared.command.Explained.TheVariants as when
use Rattle.command_line.specs.declared.command.Forms.{Forms}
use Rattle.command_line.specs.declared.command.Forms.TheVariants.{Wide}
use Rattle.command_line.specs.declared.command.Paths.{Paths}
use Rattle.command_line.specs.declared.fault.LineFault.{LineFault}
use Rattle.command_line.specs.declared.fault.LineFault.TheVariants.{Memory, Words}
use Rattle.command_line.specs.declared.options.StepsTold.{StepsTold}
use Rattle.command_line.specs.declared.options.StepsTold.TheVariants.{NotTold, WrittenBetween}
use Rattle.command_line.specs.declared.options.What.{What}
use Rattle.command_line.specs.declared.options.What.TheVariants.{Check, Replay}

-- whether the kind of error is out of memory
abbrev pub is_memory_kind : ErrorKind → Bool
is_memory_kind OutOfMemory = true
is_memory_kind _ = false

-- out of memory, or the error with the text that `clap` has for it
abbrev pub fault_of_error : Error → LineFault
fault_of_error error = if is_memory_kind (kind_of error) then Memory else Words error

-- the paths of a command's files, as plain text
pub record PathTexts : Type 0 where
  pub of_module : Option Text
  pub certificate : Option Text
  pub shapes : Option Text
  pub trace : Option Text
  pub edits : Option Text
  pub of_record : Option Text
  pub list : Option Text
  pub saved : Option Text
  pub saved_cert : Option Text

-- these paths
abbrev pub texts_of : Paths → PathTexts
texts_of paths = record {
  of_module = option_map (λ path. path.now) paths.of_module;
  certificate = option_map (λ path. path.now) paths.certificate;
  shapes = option_map (λ path. path.now) paths.shapes;
  trace = option_map (λ path. path.now) paths.trace;
  edits = option_map (λ path. path.now) paths.edits;
  of_record = option_map (λ path. path.now) paths.of_record;
  list = option_map (λ path. path.now) paths.list;
  saved = option_map (λ path. path.now) paths.saved;
  saved_cert = option_map (λ path. path.now) paths.saved_cert;
}

-- the paths of a pair: a module and its certificate
abbrev pub pair_texts : (of_module certificate : Text) → PathTexts
pair_texts of_module certificate = record {
  of_module = Some of_module;
  certificate = Some certificate;
  shapes = None;
  trace = None;
  edits = None;
  of_record = None;
  list = None;
  saved = None;
  saved_cert = None;
}

-- whether a path is `-`, which names the standard input
abbrev pub is_input : Text → Bool
is_input path = bytes_eq path (codes "-")

-- how many of a file are the standard input: one, or none
abbrev pub input : Option Text → ℕ
input path = if option_map_or is_input path false then 1 else 0

-- how many of the files that are read are the standard input
abbrev pub input_count : PathTexts → ℕ
input_count paths = input paths.of_module + input paths.certificate + input paths.shapes + input paths.trace + input paths.edits + input paths.of_record + input paths.list

-- at most one of them is
abbrev pub is_read_once : PathTexts → Bool
is_read_once paths = nat_lt (input_count paths) 2

-- a check has from 1 to 64 workers
abbrev pub HasWorkers : What → Type 0
HasWorkers (Check options) = (1 ≤ options.workers) × (options.workers ≤ 64)
HasWorkers _ = Unit {0}

-- whether a refusal is explained where nothing is known of the standard error
abbrev pub is_wanted : Explained → Bool
is_wanted when.Always = true
is_wanted _ = false

-- whether more than the forms of core may stand in a module
abbrev pub is_wide : Forms → Bool
is_wide Wide = true
is_wide _ = false

-- the same where the standard error is a terminal
abbrev pub when_on_terminal : Explained → Explained
when_on_terminal when.OnTerminal = when.Always
when_on_terminal explained = explained

-- the same where this is the default
abbrev pub when_by_default : (usual explained : Explained) → Explained
when_by_default usual when.ByDefault = usual
when_by_default usual explained = explained

-- a command where this is the default
abbrev pub by_default : (usual : Explained) → Command → Command
by_default usual command = record command { explained = when_by_default usual command.explained }

-- a command where the standard error is a terminal
abbrev pub on_terminal : Command → Command
on_terminal command = record command { explained = when_on_terminal command.explained }

-- whether any steps of a replay are told in words
abbrev pub are_told : StepsTold → Bool
are_told NotTold = false
are_told (WrittenBetween first last) = false
are_told _ = true

-- whether the command is asked for steps in words
abbrev pub asks_for_steps : What → Bool
asks_for_steps (Replay options) = are_told options.steps
asks_for_steps _ = false
