-- The grammar of the command line, as `clap` has it, and what the words of a line ask for.
use Rattle.std.specs.Prelude.{◌≡◌, ◌&&◌, ◌||◌, ◌^◌, ℕ, pos, length, nat_lt, List, [], ◌∷◌, map, Option, Some, None, is_some, unwrap_or, Bool, true, false, codes, option_map, option_and_then, if◌then◌else◌}
use Rattle.std.specs.Option.{option_map_or, option_or}
use Rattle.std.specs.Str.{all_ascii_digits, bytes_eq}
use Rattle.std.specs.Str.Parse.{digits_value, without_leading_plus}
use Rattle.clap.specs.Words.{App, IsAmong, Row, Rule, Text, fault_of, first_of, kind_of, new_app, new_rule, one_of, subcommand_of, with_subcommand}
use Rattle.clap.specs.declared.builder.action.ArgAction.TheVariants.{SetTrue}
use Rattle.clap.specs.declared.builder.value_parser.ValueParser.TheVariants.{Signed}
use Rattle.command_line.specs.Asked.{PathTexts, is_read_once, texts_of}
use Rattle.command_line.specs.declared.command.Command.{Command}
use Rattle.command_line.specs.declared.command.Explained.{Explained}
use Rattle.command_line.specs.declared.command.Explained.TheVariants.{Always, OnTerminal, Never, ByDefault}
use Rattle.command_line.specs.declared.command.Forms.{Forms}
use Rattle.command_line.specs.declared.command.Forms.TheVariants.{Core, Wide}
use Rattle.command_line.specs.declared.command.Written.{Written}
use Rattle.command_line.specs.declared.command.Written.TheVariants.{NotAtAll, AsJson, AsSarif}
use Rattle.command_line.specs.declared.fault.LineFault.{LineFault}
use Rattle.command_line.specs.declared.fault.LineFault.TheVariants.{Memory, NoCommand, Words}
use Rattle.command_line.specs.declared.options.CheckOptions.{CheckOptions}
use Rattle.command_line.specs.declared.options.MakeOptions.{MakeOptions}
use Rattle.command_line.specs.declared.options.ReplayOptions.{ReplayOptions}
use Rattle.command_line.specs.declared.options.SoakOptions.{SoakOptions}
use Rattle.command_line.specs.declared.options.HuntOptions.{HuntOptions}
use Rattle.command_line.specs.declared.options.RunOptions.{RunOptions}
use Rattle.command_line.specs.declared.options.LowerOptions.{LowerOptions}
use Rattle.command_line.specs.declared.options.Draws.{Draws}
use Rattle.command_line.specs.declared.options.Draws.TheVariants.{Uniform, Biased}
use Rattle.command_line.specs.declared.options.Refusals.{Refusals}
use Rattle.command_line.specs.declared.options.Refusals.TheVariants.{First, OfBlocks}
use Rattle.command_line.specs.declared.options.Search.{Search}
use Rattle.command_line.specs.declared.options.Shrink.{Shrink}
use Rattle.command_line.specs.declared.options.Shrink.TheVariants.{AsDrawn, WithTries}
use Rattle.command_line.specs.declared.options.StepsTold.{StepsTold}
use Rattle.command_line.specs.declared.options.StepsTold.TheVariants.{NotTold, Last, Between, WrittenBetween}
use Rattle.command_line.specs.declared.options.What.{What}
use Rattle.command_line.specs.declared.options.What.TheVariants as what
use Rattle.command_line.specs.declared.options.Why.{Why}
use Rattle.command_line.specs.declared.options.Why.TheVariants.{Wanted, NotWanted}
use Rattle.command_line.specs.declared.table.Argument.{Argument}
use Rattle.command_line.specs.declared.table.Argument.TheVariants.{File, MayBeGiven, Number, Workers, ExplainWhen, WhichForms, Optional, NumberOr, Flag, Path}
use Rattle.command_line.specs.declared.table.CommandRow.{CommandRow}

-- a word that has to be given: a file's path
abbrev pub file_rule : Text → Rule
file_rule name = record (new_rule name) { required = true }

-- an option that has a value, and which may be left out
abbrev pub valued_rule : Text → Rule
valued_rule name = record (new_rule name) {
  long = Some name;
  value_names = 1;
}

-- an option that may be left out, and whose value is a number of 32 bits
abbrev pub optional_rule : Text → Rule
optional_rule name = record (valued_rule name) { parser = Some (Signed (pos 0) (pos 4294967295)) }

-- the same, which has to be given
abbrev pub number_rule : Text → Rule
number_rule name = record (optional_rule name) { required = true }

-- a number of 32 bits again; where it is left out it is this number
abbrev pub default_rule : (name default : Text) → Rule
default_rule name default = record (optional_rule name) { defaults = default ∷ [] }

-- an option whose value is a number from 1 to 64, and 1 where it is not given
abbrev pub workers_rule : Rule
workers_rule = record (valued_rule (codes "workers")) {
  defaults = codes "1" ∷ [];
  parser = Some (Signed (pos 1) (pos 64));
}

-- an option whose value says when a refusal is explained, and which may be left out
abbrev pub explain_rule : Rule
explain_rule = valued_rule (codes "explain")

-- an option whose value says which forms a module may have, and which may be left out
abbrev pub forms_rule : Rule
forms_rule = record (valued_rule (codes "forms")) { defaults = codes "core" ∷ [] }

-- an option without a value, which may be left out
abbrev pub flag_rule : Text → Rule
flag_rule name = record (new_rule name) {
  long = Some name;
  action = Some SetTrue;
}

-- what `clap` asks of an argument
abbrev pub rule_of_argument : Argument → Rule
rule_of_argument (File name help) = file_rule name.now
rule_of_argument (MayBeGiven name help) = new_rule name.now
rule_of_argument (Number name shown help) = number_rule name.now
rule_of_argument (Workers help) = workers_rule
rule_of_argument (ExplainWhen help) = explain_rule
rule_of_argument (WhichForms help) = forms_rule
rule_of_argument (Optional name shown help) = optional_rule name.now
rule_of_argument (NumberOr name default shown help) = default_rule name.now default.now
rule_of_argument (Flag name help) = flag_rule name.now
rule_of_argument (Path name help) = valued_rule name.now

-- a command of this name with arguments of these rules
abbrev pub command_app : (name : Text) → List Rule → App
command_app name rules = record { top = record (new_app name).top { rules = rules }; subs = [] }

-- what `clap` asks of a command
abbrev pub app_of_row : CommandRow → App
app_of_row row = command_app row.name.now (map rule_of_argument row.arguments.now)

-- all commands, each with its files and options
abbrev pub command_apps : List App
command_apps =
    -- check MODULE CERT [--workers N] [--explain WHEN] [--all] [--limit N] [--json FILE] [--sarif FILE] [--forms FORMS]
    command_app (codes "check") (file_rule (codes "MODULE") ∷ file_rule (codes "CERT") ∷ workers_rule ∷ explain_rule ∷ flag_rule (codes "all") ∷ optional_rule (codes "limit")
    ∷ valued_rule (codes "json") ∷ valued_rule (codes "sarif") ∷ forms_rule ∷ [])
    ∷
    -- check-list LIST [--workers N] [--explain WHEN] [--forms FORMS]
    command_app (codes "check-list") (file_rule (codes "LIST") ∷ workers_rule ∷ explain_rule ∷ forms_rule ∷ [])
    ∷
    -- make MODULE [--shapes FILE] [--cert FILE] [--why] [--explain WHEN] [--json FILE] [--sarif FILE] [--forms FORMS]
    command_app (codes "make") (file_rule (codes "MODULE") ∷ valued_rule (codes "shapes") ∷ valued_rule (codes "cert") ∷ flag_rule (codes "why") ∷ explain_rule
    ∷ valued_rule (codes "json") ∷ valued_rule (codes "sarif") ∷ forms_rule ∷ [])
    ∷
    -- fix MODULE CERT --module FILE --cert FILE [--explain WHEN] [--forms FORMS]
    command_app (codes "fix") (file_rule (codes "MODULE") ∷ file_rule (codes "CERT") ∷ valued_rule (codes "module") ∷ valued_rule (codes "cert") ∷ explain_rule ∷ forms_rule ∷ [])
    ∷
    -- recheck MODULE CERT EDITS [--explain WHEN] [--json FILE] [--sarif FILE] [--forms FORMS]
    command_app (codes "recheck") (file_rule (codes "MODULE") ∷ file_rule (codes "CERT") ∷ file_rule (codes "EDITS") ∷ explain_rule
    ∷ valued_rule (codes "json") ∷ valued_rule (codes "sarif") ∷ forms_rule ∷ [])
    ∷
    -- replay MODULE TRACE [--shapes FILE] [--cert FILE] [--steps] [--from N] [--to M] [--json FILE] [--record FILE] [--explain WHEN] [--forms FORMS]
    command_app (codes "replay")
    (file_rule (codes "MODULE") ∷ file_rule (codes "TRACE") ∷ valued_rule (codes "shapes") ∷ valued_rule (codes "cert") ∷ flag_rule (codes "steps")
    ∷ optional_rule (codes "from") ∷ optional_rule (codes "to") ∷ valued_rule (codes "json") ∷ valued_rule (codes "record") ∷ explain_rule ∷ forms_rule ∷ [])
    ∷
    -- soak MODULE TRACE [--shapes FILE] [--cert FILE] --seeds N --steps S [--first F] [--save FILE] [--bias] [--drawn-values] [--seconds N] [--shrink] [--tries N] [--explain WHEN] [--forms FORMS]
    command_app (codes "soak")
    (file_rule (codes "MODULE") ∷ file_rule (codes "TRACE") ∷ valued_rule (codes "shapes") ∷ valued_rule (codes "cert") ∷ number_rule (codes "seeds") ∷ number_rule (codes "steps") ∷ default_rule (codes "first") (codes "0")
    ∷ valued_rule (codes "save") ∷ flag_rule (codes "bias") ∷ flag_rule (codes "drawn-values") ∷ optional_rule (codes "seconds") ∷ flag_rule (codes "shrink") ∷ optional_rule (codes "tries") ∷ explain_rule ∷ forms_rule ∷ [])
    ∷
    -- hunt MODULE [--shapes FILE] [--cert FILE] [--seeds N] [--steps S] [--first F] [--tries N] [--seconds N] [--save FILE] [--explain WHEN] [--forms FORMS]
    command_app (codes "hunt")
    (file_rule (codes "MODULE") ∷ valued_rule (codes "shapes") ∷ valued_rule (codes "cert") ∷ default_rule (codes "seeds") (codes "10000")
    ∷ default_rule (codes "steps") (codes "1000") ∷ default_rule (codes "first") (codes "0") ∷ default_rule (codes "tries") (codes "10000") ∷ optional_rule (codes "seconds") ∷ valued_rule (codes "save") ∷ explain_rule ∷ forms_rule ∷ [])
    ∷
    -- run MODULE CERT TRACE [--turns N] [--steps S] [--explain WHEN] [--forms FORMS]
    command_app (codes "run")
    (file_rule (codes "MODULE") ∷ file_rule (codes "CERT") ∷ file_rule (codes "TRACE")
    ∷ default_rule (codes "turns") (codes "1000000") ∷ default_rule (codes "steps") (codes "1000000") ∷ explain_rule ∷ forms_rule ∷ [])
    ∷
    -- watch MODULE TRACE [--shapes FILE] [--cert FILE] [--turns N] [--steps S] [--explain WHEN] [--forms FORMS]
    command_app (codes "watch")
    (file_rule (codes "MODULE") ∷ file_rule (codes "TRACE") ∷ valued_rule (codes "shapes") ∷ valued_rule (codes "cert")
    ∷ default_rule (codes "turns") (codes "1000000") ∷ default_rule (codes "steps") (codes "1000000") ∷ explain_rule ∷ forms_rule ∷ [])
    ∷
    -- conform MODULE TRACE RECORD [--shapes FILE] [--cert FILE] [--explain WHEN] [--forms FORMS]
    command_app (codes "conform")
    (file_rule (codes "MODULE") ∷ file_rule (codes "TRACE") ∷ file_rule (codes "RECORD") ∷ valued_rule (codes "shapes") ∷ valued_rule (codes "cert") ∷ explain_rule ∷ forms_rule ∷ [])
    ∷
    -- explain [CODE]
    command_app (codes "explain") (new_rule (codes "CODE") ∷ [])
    ∷
    -- migrate MODULE [CERT] [--forms FORMS]
    command_app (codes "migrate") (file_rule (codes "MODULE") ∷ new_rule (codes "CERT") ∷ forms_rule ∷ [])
    ∷
    -- lower MODULE [CERT] [--shapes FILE] [--record] [--forms FORMS]
    command_app (codes "lower") (file_rule (codes "MODULE") ∷ new_rule (codes "CERT") ∷ valued_rule (codes "shapes") ∷ flag_rule (codes "record") ∷ forms_rule ∷ [])
    ∷ []

-- the program's own line, without its commands
abbrev pub bare_app : App
bare_app = record { top = record (new_app (codes "dgc")).top { has_version = true; subcommand_required = true }; subs = [] }

-- a command that has these ones too
unfoldable pub with_commands : App → List App → App
with_commands app [] = app
with_commands app (command ∷ commands) = with_commands (with_subcommand app command.top) commands

-- the whole grammar
abbrev pub dgc_app : App
dgc_app = with_commands bare_app command_apps

-- the number that a text of decimal digits writes, where it is below 2 to the 32; a plus may come first
abbrev pub number_in : Text → Option ℕ
number_in text =
    let digits = without_leading_plus text in
    if nat_lt 0 (length digits) && all_ascii_digits digits && nat_lt (digits_value 10 digits) (2 ^ 32)
    then Some (digits_value 10 digits) else None

-- the number that was given as this option
abbrev pub number_of : Text → List Row → Option ℕ
number_of name given = option_and_then number_in (one_of name given)

-- whether this option was given
abbrev pub flag_of : Text → List Row → Bool
flag_of name given = option_map_or (λ text. bytes_eq text (codes "true")) (first_of name given) false

-- what was given under the first of these names, or else under the second
abbrev pub either_of : (first second : Text) → List Row → Option Text
either_of first second given = option_or (first_of first given) (first_of second given)

-- ---- the options of each command

-- what a command is to do, as plain text and numbers
pub data Asked : Type 0 where
  check : CheckOptions → Asked
  make : MakeOptions → Asked
  fix : Asked
  recheck : Asked
  replay : ReplayOptions → Asked
  soak : SoakOptions → Asked
  hunt : HuntOptions → Asked
  run : RunOptions → Asked
  watch : RunOptions → Asked
  conform : Asked
  explain : (code : Option Text) → Asked
  migrate : Asked
  lower : LowerOptions → Asked

-- what this command is to do
abbrev pub asked_by : What → Asked
asked_by (what.Check options) = check options
asked_by (what.Make options) = make options
asked_by what.Fix = fix
asked_by what.Recheck = recheck
asked_by (what.Replay options) = replay options
asked_by (what.Soak options) = soak options
asked_by (what.Hunt options) = hunt options
asked_by (what.Run options) = run options
asked_by (what.Watch options) = watch options
asked_by what.Conform = conform
asked_by (what.Explain options) = explain (option_map (λ code. code.now) options.code)
asked_by what.Migrate = migrate
asked_by (what.Lower options) = lower options

-- how many workers were given, from 1 to 64
abbrev pub workers_of : List Row → Option ℕ
workers_of given = option_and_then (λ workers. if nat_lt 0 workers && nat_lt workers 65 then Some workers else None) (number_of (codes "workers") given)

-- how many refusals are told where no limit is given
abbrev pub LIMIT : ℕ
LIMIT = 20

-- how many refusals are told: by the option `all` the first of each block, up to the limit, which may not stand without it
abbrev pub refusals_of : List Row → Option Refusals
refusals_of given =
    let limit = number_of (codes "limit") given in
    if flag_of (codes "all") given then Some (OfBlocks (unwrap_or limit LIMIT))
    else if is_some limit then None
    else Some First

-- the options of `check`, if they are a number of workers and how many refusals are told
abbrev pub check_of : List Row → Option Asked
check_of given =
    option_and_then (λ workers. option_map (λ refusals. check (record { workers = workers; refusals = refusals })) (refusals_of given)) (workers_of given)

-- the options of `check-list`, if they are a number of workers: of each pair the first refusal is told
abbrev pub check_list_of : List Row → Option Asked
check_list_of given = option_map (λ workers. check (record { workers = workers; refusals = First })) (workers_of given)

-- whether to say what is refused, by the option `why`
abbrev pub why_of : List Row → Why
why_of given = if flag_of (codes "why") given then Wanted else NotWanted

-- the options of `make`
abbrev pub make_of : List Row → Asked
make_of given = make (record { why = why_of given })

-- what `fix` is to do, if both files are given that it writes
abbrev pub fix_of : List Row → Option Asked
fix_of given = if is_some (first_of (codes "module") given) && is_some (first_of (codes "cert") given) then Some fix else None

-- the steps between these numbers, if one of them is given; otherwise the last ones
abbrev pub steps_between : (first last : Option ℕ) → StepsTold
steps_between None None = Last
steps_between first last = Between (unwrap_or first 1) (unwrap_or last 4294967295)

-- the steps between these numbers are written as JSON and not told in words, if a file for that is given
abbrev pub written_between : (json_path : Option Text) (first last : Option ℕ) → Option StepsTold
written_between None first last = None
written_between (Some json_path) first last = Some (WrittenBetween (unwrap_or first 1) (unwrap_or last 4294967295))

-- which steps are told: none without the option `steps`, and then numbers may be given only with the option `json`
abbrev pub steps_of : List Row → Option StepsTold
steps_of given =
    let first = number_of (codes "from") given in
    let last = number_of (codes "to") given in
    if flag_of (codes "steps") given then Some (steps_between first last)
    else if is_some first || is_some last then written_between (first_of (codes "json") given) first last
    else Some NotTold

-- whether the record of a run is written, if not both of these files are given
abbrev pub recorded_by : (record_path json_path : Option Text) → Option Bool
recorded_by None json_path = Some false
recorded_by (Some record_path) None = Some true
recorded_by (Some record_path) (Some json_path) = None

-- whether it is, by the options `record` and `json`
abbrev pub recorded_of : List Row → Option Bool
recorded_of given = recorded_by (first_of (codes "record") given) (first_of (codes "json") given)

-- the options of `replay`, if they are which steps are told, and whether the record is written
abbrev pub replay_of : List Row → Option Asked
replay_of given = option_and_then (λ recorded. option_map (λ steps. replay (record { steps = steps; recorded = recorded })) (steps_of given)) (recorded_of given)

-- how a seed draws, by the option `bias`
abbrev pub draws_of : List Row → Draws
draws_of given = if flag_of (codes "bias") given then Biased else Uniform

-- which forms a module may have, by their word
abbrev pub forms_by : Text → Option Forms
forms_by word =
    if bytes_eq word (codes "core") then Some Core
    else if bytes_eq word (codes "wide") then Some Wide
    else None

-- which forms a module may have, by the option `forms`: those of core for a command that has no such option
abbrev pub forms_of : List Row → Option Forms
forms_of given = option_map_or forms_by (first_of (codes "forms") given) (Some Core)

-- numbers from outside are drawn with the wide forms alone
abbrev pub drawn_with : Option Forms → Option Bool
drawn_with (Some Wide) = Some true
drawn_with forms = None

-- whether each seed draws numbers from outside, by the option `drawn-values`
abbrev pub drawn_values_of : List Row → Option Bool
drawn_values_of given = if flag_of (codes "drawn-values") given then drawn_with (forms_of given) else Some false

-- the first seed, how many, how many steps each draws, how, and whether it draws numbers from outside, and after how many seconds the search ends
abbrev pub search_of : List Row → Option Search
search_of given =
    option_and_then (λ seeds. option_and_then (λ steps. option_and_then (λ first. option_map
    (λ drawn. record { first = first; seeds = seeds; steps = steps; draws = draws_of given; drawn_values = drawn; seconds = number_of (codes "seconds") given })
    (drawn_values_of given)) (number_of (codes "first") given)) (number_of (codes "steps") given)) (number_of (codes "seeds") given)

-- how many traces are replayed at most for a shorter one where no limit is given
abbrev pub TRIES : ℕ
TRIES = 10000

-- whether the schedule of a broken seed is made shorter: by the option `shrink`, up to the limit of tries, which may not stand without it
abbrev pub shrink_of : List Row → Option Shrink
shrink_of given =
    let tries = number_of (codes "tries") given in
    if flag_of (codes "shrink") given then Some (WithTries (unwrap_or tries TRIES))
    else if is_some tries then None
    else Some AsDrawn

-- the options of `soak`, if they are a search, and whether a schedule is made shorter
abbrev pub soak_of : List Row → Option Asked
soak_of given = option_and_then (λ search. option_map (λ shrink. soak (record { search = search; shrink = shrink })) (shrink_of given)) (search_of given)

-- the options of `hunt`, if they are four numbers
abbrev pub hunt_of : List Row → Option Asked
hunt_of given =
    option_and_then (λ seeds. option_and_then (λ steps. option_and_then (λ first. option_map (λ tries. hunt (record { first = first; seeds = seeds; steps = steps; tries = tries; seconds = number_of (codes "seconds") given }))
    (number_of (codes "tries") given)) (number_of (codes "first") given)) (number_of (codes "steps") given)) (number_of (codes "seeds") given)

-- how far threads and collector go, if both limits are numbers
abbrev pub limits_of : List Row → Option RunOptions
limits_of given = option_and_then (λ turns. option_map (λ steps. record { turns = turns; steps = steps }) (number_of (codes "steps") given)) (number_of (codes "turns") given)

-- the options of `run`
abbrev pub run_of : List Row → Option Asked
run_of given = option_map run (limits_of given)

-- the options of `watch`
abbrev pub watch_of : List Row → Option Asked
watch_of given = option_map watch (limits_of given)

-- the options of `explain`: a code, or nothing
abbrev pub explain_of : List Row → Asked
explain_of given = explain (first_of (codes "CODE") given)

-- the options of `lower`: whether the text calls a recorder
abbrev pub lower_of : List Row → Asked
lower_of given = lower (record { recorded = flag_of (codes "record") given })

-- what the command of this name is to do, by what was given to it
abbrev pub asked_of : (name : Text) → List Row → Option Asked
asked_of name given =
    if bytes_eq name (codes "check") then check_of given
    else if bytes_eq name (codes "check-list") then check_list_of given
    else if bytes_eq name (codes "make") then Some (make_of given)
    else if bytes_eq name (codes "fix") then fix_of given
    else if bytes_eq name (codes "recheck") then Some recheck
    else if bytes_eq name (codes "replay") then replay_of given
    else if bytes_eq name (codes "soak") then soak_of given
    else if bytes_eq name (codes "hunt") then hunt_of given
    else if bytes_eq name (codes "run") then run_of given
    else if bytes_eq name (codes "watch") then watch_of given
    else if bytes_eq name (codes "conform") then Some conform
    else if bytes_eq name (codes "explain") then Some (explain_of given)
    else if bytes_eq name (codes "migrate") then Some migrate
    else if bytes_eq name (codes "lower") then Some (lower_of given)
    else None

-- ---- what all commands have

-- the path of the shapes, if it was given, and the certificate's was not
abbrev pub shapes_beside : (certificate : Option Text) → List Row → Option Text
shapes_beside None given = first_of (codes "shapes") given
shapes_beside (Some path) given = None

-- whether the command of this name reads shapes, and takes them from a certificate too
abbrev pub takes_shapes : (name : Text) → Bool
takes_shapes name =
    bytes_eq name (codes "make") || bytes_eq name (codes "replay") || bytes_eq name (codes "soak") || bytes_eq name (codes "watch") || bytes_eq name (codes "conform")

-- the path of the certificate, if it was given to the command of this name, and not for its shapes alone
abbrev pub certificate_of : (name : Text) → List Row → Option Text
certificate_of name given = if takes_shapes name then None else either_of (codes "CERT") (codes "cert") given

-- the path of the shapes, if it was given to the command of this name, and its certificate's was not
abbrev pub shapes_of : (name : Text) → (certificate : Option Text) → List Row → Option Text
shapes_of name certificate given = if takes_shapes name then either_of (codes "shapes") (codes "cert") given else shapes_beside certificate given

-- the path of the file that the command of this name writes, if it was given
abbrev pub saved_of : (name : Text) → List Row → Option Text
saved_of name given =
    if bytes_eq name (codes "replay") then either_of (codes "json") (codes "record") given
    else if bytes_eq name (codes "fix") then first_of (codes "module") given
    else if bytes_eq name (codes "soak") || bytes_eq name (codes "hunt") then first_of (codes "save") given
    else either_of (codes "json") (codes "sarif") given

-- the path of the certificate that it writes, if it was given
abbrev pub saved_cert_of : (name : Text) → List Row → Option Text
saved_cert_of name given = if bytes_eq name (codes "fix") then first_of (codes "cert") given else None

-- how the answer is written, if not both of these files are given
abbrev pub written_by : (json_path sarif_path : Option Text) → Option Written
written_by None None = Some NotAtAll
written_by (Some json_path) None = Some AsJson
written_by None (Some sarif_path) = Some AsSarif
written_by (Some json_path) (Some sarif_path) = None

-- how it is, by the options `json` and `sarif`
abbrev pub written_of : List Row → Option Written
written_of given = written_by (first_of (codes "json") given) (first_of (codes "sarif") given)

-- the paths of the files that were given to the command of this name
abbrev pub paths_of : (name : Text) → List Row → PathTexts
paths_of name given =
    let certificate = certificate_of name given in
    record {
      of_module = first_of (codes "MODULE") given;
      certificate = certificate;
      shapes = shapes_of name certificate given;
      trace = first_of (codes "TRACE") given;
      edits = first_of (codes "EDITS") given;
      of_record = first_of (codes "RECORD") given;
      list = first_of (codes "LIST") given;
      saved = saved_of name given;
      saved_cert = saved_cert_of name given;
    }

-- the same paths, if at most one of the files that are read is the standard input
abbrev pub read_once : PathTexts → Option PathTexts
read_once paths = if is_read_once paths then Some paths else None

-- when a refusal is explained, by its word
abbrev pub explained_by : Text → Option Explained
explained_by word =
    if bytes_eq word (codes "always") then Some Always
    else if bytes_eq word (codes "auto") then Some OnTerminal
    else if bytes_eq word (codes "never") then Some Never
    else None

-- when a refusal is explained, by the option `explain`: by the caller's default where it is not given
abbrev pub explained_of : List Row → Option Explained
explained_of given = option_map_or explained_by (first_of (codes "explain") given) (Some ByDefault)

-- what a line asks for
pub record AskedLine : Type 0 where
  pub paths : PathTexts
  pub explained : Explained
  pub forms : Forms
  pub written : Written
  pub asked : Asked

-- what this command asks for
abbrev pub line_by : Command → AskedLine
line_by command = record { paths = texts_of command.paths; explained = command.explained; forms = command.forms; written = command.written; asked = asked_by command.what }

-- what the command of this name asks for, by what was given to it
abbrev pub line_of : (name : Text) → List Row → Option AskedLine
line_of name given =
    option_and_then (λ explained. option_and_then (λ forms. option_and_then (λ written. option_and_then (λ asked. option_map
    (λ paths. record { paths = paths; explained = explained; forms = forms; written = written; asked = asked })
    (read_once (paths_of name given))) (asked_of name given)) (written_of given)) (forms_of given)) (explained_of given)

-- what a command's name with what was given to it asks for
abbrev pub line_found : Option (Text × List Row) → Option AskedLine
line_found None = None
line_found (Some found) = line_of found.0 found.1

-- what the words of a command line ask for, the program's own name first
abbrev pub line_in : List Text → Option AskedLine
line_in words = line_found (subcommand_of dgc_app words)

-- why these words are refused: an error of a kind that `clap` finds in them, or they ask for nothing
abbrev pub IsRefusalOf : List Text → LineFault → Type 0
IsRefusalOf words Memory = Unit
IsRefusalOf words (Words error) = IsAmong (kind_of error) (fault_of dgc_app words)
IsRefusalOf words (NoCommand hint) = line_in words ≡ None
