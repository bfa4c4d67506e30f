-- Arguments as they are typed, in ASCII, by computation: where options are looked for, and behind `--`.
use Rattle.std.proofs.Common.{◌≡◌, true, false, [], ◌∷◌, refl}
use Rattle.command_line.specs.Argument.{kind_of, option_or_file}
use Rattle.command_line.specs.declared.argument.Argument.TheVariants.{Input, File, EndOfOptions, Help, Version, UnknownOption}

pub record ArgumentCases : Type 0 where
  -- -
  pub input : kind_of true (45 ∷ []) ≡ Input
  -- --
  pub end : kind_of true (45 ∷ 45 ∷ []) ≡ EndOfOptions
  -- --help
  pub help : kind_of true (45 ∷ 45 ∷ 104 ∷ 101 ∷ 108 ∷ 112 ∷ []) ≡ Help
  -- --version
  pub version : kind_of true (45 ∷ 45 ∷ 118 ∷ 101 ∷ 114 ∷ 115 ∷ 105 ∷ 111 ∷ 110 ∷ []) ≡ Version
  -- -h
  pub short : kind_of true (45 ∷ 104 ∷ []) ≡ UnknownOption
  -- --hel
  pub cut : kind_of true (45 ∷ 45 ∷ 104 ∷ 101 ∷ 108 ∷ []) ≡ UnknownOption
  -- --help=
  pub longer : kind_of true (45 ∷ 45 ∷ 104 ∷ 101 ∷ 108 ∷ 112 ∷ 61 ∷ []) ≡ UnknownOption
  -- ---
  pub three : kind_of true (45 ∷ 45 ∷ 45 ∷ []) ≡ UnknownOption
  -- a-
  pub file : kind_of true (97 ∷ 45 ∷ []) ≡ File
  -- an argument of no character
  pub none : kind_of true [] ≡ File
  pub input_behind : kind_of false (45 ∷ []) ≡ Input
  pub end_behind : kind_of false (45 ∷ 45 ∷ []) ≡ File
  pub help_behind : kind_of false (45 ∷ 45 ∷ 104 ∷ 101 ∷ 108 ∷ 112 ∷ []) ≡ File
  pub short_behind : kind_of false (45 ∷ 104 ∷ []) ≡ File
  pub file_behind : kind_of false (97 ∷ []) ≡ File

pub argument-cases : ArgumentCases
unfolding kind_of option_or_file
argument-cases = record {
  input = refl;
  end = refl;
  help = refl;
  version = refl;
  short = refl;
  cut = refl;
  longer = refl;
  three = refl;
  file = refl;
  none = refl;
  input_behind = refl;
  end_behind = refl;
  help_behind = refl;
  short_behind = refl;
  file_behind = refl;
}
