-- What an argument of the command line is. `-` is standard input, behind `--` too. Where no `--` has ended the options, `--` ends them,
-- `--help` and `--version` ask for a text, and anything else that starts with `-` is an unknown option. Every other argument names a file.
use Rattle.std.specs.Prelude.{Bool, List, [], ◌∷◌, ℕ, nat_eq}
use Rattle.std.specs.List.{starts_with}
use Rattle.std.specs.Str.{bytes_eq}
use Rattle.base.specs.Choice.{pick}
use Rattle.command_line.specs.declared.argument.Argument.{Argument}
use Rattle.command_line.specs.declared.argument.Argument.TheVariants.{Input, File, EndOfOptions, Help, Version, UnknownOption}

-- the texts, in ASCII
abbrev pub dash : List ℕ
dash = 45 ∷ []

abbrev pub dashes : List ℕ
dashes = 45 ∷ 45 ∷ []

abbrev pub help : List ℕ
help = 45 ∷ 45 ∷ 104 ∷ 101 ∷ 108 ∷ 112 ∷ []

abbrev pub version : List ℕ
version = 45 ∷ 45 ∷ 118 ∷ 101 ∷ 114 ∷ 115 ∷ 105 ∷ 111 ∷ 110 ∷ []

unfoldable pub option_or_file : List ℕ → Argument
option_or_file text =
    pick (bytes_eq text dashes) EndOfOptions
    (pick (bytes_eq text help) Help
    (pick (bytes_eq text version) Version
    (pick (starts_with nat_eq text dash) UnknownOption
    File)))

-- by whether options are still looked for
unfoldable pub kind_of : Bool → List ℕ → Argument
kind_of options text = pick (bytes_eq text dash) Input (pick options (option_or_file text) File)
