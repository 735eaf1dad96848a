-- A command's one word goes to NODES where it does not begin with a hyphen.
use Rattle.std.proofs.Common.{◌≡◌, ◌∙◌, false, true, List, [], ◌∷◌, Some, None, refl, ap, ap₂, codes, find, if◌then◌else◌}
use Rattle.std.specs.Prelude.{unwrap_or, option_and_then}
use Rattle.std.specs.Str.{bytes_eq}
use Rattle.std.proofs.lemmas.Bool.{ne_eqb}
use Rattle.clap.specs.Lexer.{long_of, long_of_rest, short_of, short_of_rest, strip_byte}
use Rattle.clap.specs.Walk.{Held, Step, Text, Walk, after_step, answers_to, first_of, finished, idle, long_or_other, nothing_held, settled, short_or_plain, trailing, value, walk_from, walked, word_met}
use Rattle.clap.specs.Simple.{Shape, built, label_of, names_of}
use Rattle.clap.specs.Kinds.{Kinds, or_else}
use Rattle.clap.specs.Faults.{check_fault, defaults_fault, flag_word_fault, bundle_fault, level_fault, settle_fault, step_fault, turn_fault, walk_fault, word_fault}
use Rattle.clap.proofs.OnLiterals.{clap_on_literals}
use Rattle.std.specs.Option.{option_map_or}
use Rattle.clap.specs.Words.{subcommand_of}
use Rattle.command_line.specs.Words.{IsPlainWord, asked, check_app, faults, is_given, option_of, program}

-- the word has none of the forms that begin with a hyphen
record HasNoForm (word : Text) : Type 0 where
  dashes : bytes_eq word (45 ∷ 45 ∷ []) ≡ false
  long : long_of word ≡ None
  short : short_of word ≡ None

no_form : (word : Text) → IsPlainWord word → HasNoForm word
no_form [] plain = record { dashes = refl; long = refl; short = refl }
no_form (b ∷ rest) plain =
    let other = ne_eqb b 45 (λ e. plain (ap Some e)) in
    let strip : strip_byte 45 (b ∷ rest) ≡ None = rw other refl in
    record {
      dashes = rw other refl;
      long = ap (λ o. option_and_then long_of_rest (option_and_then (strip_byte 45) o)) strip;
      short = ap (option_and_then short_of_rest) strip;
    }

-- so it goes to the first positional
module _ (s : Shape) (word : Text) (none : HasNoForm word) where
  is_value : word_met s.rules [] false idle 1 word nothing_held ≡ (nothing_held, value)
  is_value = ap (λ b. if b then (nothing_held, trailing 1) else long_or_other s.rules idle word (long_of word) nothing_held) none.dashes
      ∙ (ap (λ o. long_or_other s.rules idle word o nothing_held) none.long
      ∙ ap (λ o. short_or_plain s.rules idle word o nothing_held) none.short)

  goes : walked s.rules [] (walk_from nothing_held) word ≡ after_step s.rules word (walk_from nothing_held) nothing_held value
  unfolding walked
  goes = ap (λ (met : Held × Step). after_step s.rules word (walk_from nothing_held) met.0 met.1) is_value

  word_right : word_fault s [] false idle word nothing_held ≡ []
  word_right = ap (λ b. if b then [] else flag_word_fault s.rules s.args_override_self (long_of word) word nothing_held) none.dashes
      ∙ (ap (λ o. flag_word_fault s.rules s.args_override_self o word nothing_held) none.long
      ∙ ap (λ o. option_map_or (λ flags. bundle_fault s.rules s.args_override_self flags nothing_held) o []) none.short)

  turn_is : turn_fault s [] (walk_from nothing_held) word ≡ step_fault s 1 nothing_held value
  turn_is = ap₂ (λ k (met : Held × Step). or_else k (step_fault s 1 met.0 met.1)) word_right is_value

  abbrev level : Walk → Kinds → Kinds
  level w turn = or_else (or_else turn (walk_fault s [] w []))
      (or_else [] (or_else (settle_fault s.rules s.args_override_self w.held)
      (or_else (defaults_fault (settled s.rules w.held).rows s.rules)
      (check_fault s (finished s.rules w.held) false))))

  level_is : level_fault s [] nothing_held (word ∷ []) false [] ≡ level (after_step s.rules word (walk_from nothing_held) nothing_held value) (step_fault s 1 nothing_held value)
  unfolding walk_fault
  level_is = ap₂ level goes turn_is

-- a command as it is built
abbrev built_at : Text → Shape
built_at name = unwrap_or (find (λ s. answers_to name (label_of s)) (built program).subs) check_app.top

-- what is wrong with the words after the command is what is wrong with all of them
abbrev whole : List Text → Kinds → Kinds
whole words below = level_fault (built program).top (names_of (built program)) nothing_held words true below

pub faults-pipe_nodes : (nodes : Text) → IsPlainWord nodes → faults (codes "pipe" ∷ nodes ∷ []) ≡ []
unfolding clap_on_literals
faults-pipe_nodes nodes plain = ap (whole (codes "pipe" ∷ nodes ∷ [])) (level_is (built_at (codes "pipe")) nodes (no_form nodes plain))

pub asked-pipe_nodes : (nodes : Text) → IsPlainWord nodes → asked (codes "pipe" ∷ nodes ∷ []) ≡ Some (codes "pipe", Some nodes)
unfolding clap_on_literals
asked-pipe_nodes nodes plain =
    let s = built_at (codes "pipe") in
    ap (λ (w : Walk). Some (codes "pipe", first_of (codes "NODES") (finished s.rules w.held))) (goes s nodes (no_form nodes plain))

pub faults-check : (nodes : Text) → IsPlainWord nodes → faults (codes "check" ∷ nodes ∷ []) ≡ []
unfolding clap_on_literals
faults-check nodes plain = ap (whole (codes "check" ∷ nodes ∷ [])) (level_is (built_at (codes "check")) nodes (no_form nodes plain))

pub asked-check : (nodes : Text) → IsPlainWord nodes → asked (codes "check" ∷ nodes ∷ []) ≡ Some (codes "check", Some nodes)
unfolding clap_on_literals
asked-check nodes plain =
    let s = built_at (codes "check") in
    ap (λ (w : Walk). Some (codes "check", first_of (codes "NODES") (finished s.rules w.held))) (goes s nodes (no_form nodes plain))

-- and nothing is to be explained
pub explain-check : (nodes : Text) → IsPlainWord nodes → is_given (option_of (codes "explain") (subcommand_of program (codes "check" ∷ nodes ∷ []))) ≡ false
unfolding clap_on_literals
explain-check nodes plain =
    let s = built_at (codes "check") in
    ap (λ (w : Walk). is_given (first_of (codes "explain") (finished s.rules w.held))) (goes s nodes (no_form nodes plain))
