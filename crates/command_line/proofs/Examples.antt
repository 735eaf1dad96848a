-- What is wrong with some words, computed: `parse` answers a command only where nothing is.
use Rattle.std.proofs.Common.{◌≡◌, [], ◌∷◌, Some, refl, codes}
use Rattle.clap.specs.Words.{Text}
use Rattle.clap.specs.declared.error.kind.ErrorKind.TheVariants.{DisplayHelp, DisplayHelpOnMissingArgumentOrSubcommand, DisplayVersion, InvalidSubcommand, MissingRequiredArgument, UnknownArgument}
use Rattle.clap.proofs.OnLiterals.{clap_on_literals}
use Rattle.command_line.specs.Words.{asked, faults}

-- `--` says that only values follow, and none does
pub faults-pipe_and_no_values : faults (codes "pipe" ∷ codes "--" ∷ []) ≡ []
unfolding clap_on_literals
faults-pipe_and_no_values = refl

pub faults-long_help : faults (codes "--help" ∷ []) ≡ DisplayHelp ∷ []
unfolding clap_on_literals
faults-long_help = refl

pub faults-version : faults (codes "--version" ∷ []) ≡ DisplayVersion ∷ []
unfolding clap_on_literals
faults-version = refl

pub faults-short_help : faults (codes "-h" ∷ []) ≡ DisplayHelp ∷ []
unfolding clap_on_literals
faults-short_help = refl

-- `help` answers with help, or refuses the word that follows it
pub faults-help : faults (codes "help" ∷ []) ≡ DisplayHelp ∷ InvalidSubcommand ∷ []
unfolding clap_on_literals
faults-help = refl

pub faults-no_words : faults [] ≡ DisplayHelpOnMissingArgumentOrSubcommand ∷ []
unfolding clap_on_literals
faults-no_words = refl

pub faults-unknown : faults (codes "frob" ∷ []) ≡ UnknownArgument ∷ InvalidSubcommand ∷ []
unfolding clap_on_literals
faults-unknown = refl

pub faults-word_too_many : faults (codes "check" ∷ codes "x" ∷ codes "y" ∷ []) ≡ UnknownArgument ∷ []
unfolding clap_on_literals
faults-word_too_many = refl

pub faults-unknown_option : faults (codes "pipe" ∷ codes "--port" ∷ codes "1" ∷ []) ≡ UnknownArgument ∷ []
unfolding clap_on_literals
faults-unknown_option = refl

pub faults-no_nodes : faults (codes "check" ∷ []) ≡ MissingRequiredArgument ∷ []
unfolding clap_on_literals
faults-no_nodes = refl

-- after `--` each word is a value, whatever it begins with
pub faults-after_hyphens : (nodes : Text) → faults (codes "check" ∷ codes "--" ∷ nodes ∷ []) ≡ []
unfolding clap_on_literals
faults-after_hyphens nodes = refl

pub asked-after_hyphens : (nodes : Text) → asked (codes "check" ∷ codes "--" ∷ nodes ∷ []) ≡ Some (codes "check", Some nodes)
unfolding clap_on_literals
asked-after_hyphens nodes = refl

-- elsewhere a word that begins with one is an option
pub faults-hyphen : faults (codes "check" ∷ codes "-1.toml" ∷ []) ≡ UnknownArgument ∷ []
unfolding clap_on_literals
faults-hyphen = refl
