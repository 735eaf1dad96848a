-- What the facts of a parse say of the program.
use Rattle.std.proofs.Common.{rules, arith, ◌≡◌, ◌⊎◌, ◌∙◌, true, false, List, ℕ, [], ◌∷◌, map, Option, Some, None, Result, Ok, Err, IfOk, IfErr, inl, inr, refl, sym, ap, ap₂, subst, codes, option_map}
use Rattle.std.specs.Prelude.{slice_index, unwrap_or}
use Rattle.std.proofs.lemmas.Option.{none-some}
use Rattle.std.specs.Borrow.{Bor}
use Rattle.clap.specs.Words.{App, HasMatchesOf, IsAmong, Row, Text, first_value, found_of, is_simple, is_simple_and_free, rows_of, subcommand_name_of, subcommand_of, subcommand_rows, subcommand_rows_of}
use Rattle.clap.specs.declared.error.kind.ErrorKind.{ErrorKind}
use Rattle.clap.specs.declared.error.kind.ErrorKind.TheVariants.{InvalidSubcommand, OutOfMemory}
use Rattle.clap.specs.declared.parser.matches.ArgMatches.{ArgMatches}
use Rattle.clap.specs.declared.parser.matches.ArgMatches.TheViews.{out-ArgMatches, out-SubCommand}
use Rattle.std.specs.Box.{box_value}
use Rattle.clap.proofs.WalkLemmas.{first_value-rows}
use Rattle.clap.proofs.OnLiterals.{clap_on_literals}
use Rattle.command_line.specs.Words.{Answers, Asked, AsksFor, Found, HasOptions, IsAddressIn, IsNoCommand, IsPlainWord, IsRequest, IsServedWith, IsStopOf, StopsBy, asked, asked_of, bound_of, faults, idle_of, is_given, option_of, port_of, program, total_of, words_of}
use Rattle.command_line.proofs.PlainWord.{asked-check, asked-pipe_nodes, explain-check, faults-check, faults-pipe_nodes}
use Rattle.command_line.specs.declared.command.Command.{Command}
use Rattle.command_line.specs.declared.command.ServeOptions.{ServeOptions}
use Rattle.command_line.specs.declared.command.Command.TheVariants.{Pipe, Check, Asm, Run, Trace, Serve}
use Rattle.command_line.specs.declared.stop.Stop.{Stop}
use Rattle.command_line.specs.declared.stop.Stop.TheVariants.{Help, Usage, Memory}

pub program-is_simple : is_simple program ≡ true
unfolding clap_on_literals
program-is_simple = refl

pub program-is_free : is_simple_and_free program ≡ true
unfolding clap_on_literals
program-is_free = refl

-- the words that are a command of the program, computed
pub faults-pipe : faults (codes "pipe" ∷ []) ≡ []
unfolding clap_on_literals
faults-pipe = refl

pub asked-pipe : asked (codes "pipe" ∷ []) ≡ Some (codes "pipe", None)
unfolding clap_on_literals
asked-pipe = refl

-- the subcommand that the matches have is the one of the words
pub found-rows : (a : App) (words : List Text) (m : ArgMatches) → a ≡ program → HasMatchesOf a words m
    → subcommand_rows_of m ≡ subcommand_of program words
found-rows a words m is matches = (subst (λ p. HasMatchesOf p words m) is matches program-is_simple).1

-- the rows of a subcommand, by its name and its rows
pub rows_met : (m : ArgMatches) (name : Text) (rows : List Row) → Some name ≡ subcommand_name_of m
    → Some rows ≡ option_map (λ p. p.1) (subcommand_rows_of m) → subcommand_rows_of m ≡ Some (name, rows)
rows_met m name rows named has =
    let same : subcommand_name_of m ≡ option_map (λ p. p.0) (subcommand_rows_of m) =
    elim ((out-ArgMatches m).subcommand) as (λ o. option_map (λ b. (out-SubCommand (box_value b)).name.now) o ≡ option_map (λ p. p.0) (subcommand_rows o)) [ None ↦ refl | Some b ↦ refl ] in
    go (subcommand_rows_of m) (named ∙ same) has
  where
    go : (o : Option (Text × List Row)) → Some name ≡ option_map (λ p. p.0) o → Some rows ≡ option_map (λ p. p.1) o → o ≡ Some (name, rows)
    go None n r = absurd (search rules)
    go (Some p) n r = ap Some (ap₂ (λ (x : Text) (y : List Row). (x, y)) (ap (λ (o : Option Text). unwrap_or o name) (sym n)) (ap (λ (o : Option (List Row)). unwrap_or o rows) (sym r)))

-- what was read of the matches is what they have
pub asked_met : (m : ArgMatches) (name : Bor Text) (given : Bor ArgMatches) (nodes : Option (Bor Text)) → Some name.now ≡ subcommand_name_of m
    → Some (rows_of (found_of given.now)) ≡ option_map (λ p. p.1) (subcommand_rows_of m)
    → option_map (λ n. n.now) nodes ≡ first_value (found_of given.now) (codes "NODES")
    → asked_of (subcommand_rows_of m) ≡ Some (name.now, option_map (λ n. n.now) nodes)
asked_met m name given nodes named has is =
    ap asked_of (rows_met m name.now (rows_of (found_of given.now)) named has)
    ∙ ap (λ n. Some (name.now, n)) (sym (is ∙ first_value-rows (found_of given.now) (codes "NODES")))

-- what was read behind an option is what the matches have there
pub option_met : (m : ArgMatches) (given : Bor ArgMatches) (id : Text) (value : Option (Bor Text)) (name : Bor Text) → Some name.now ≡ subcommand_name_of m
    → Some (rows_of (found_of given.now)) ≡ option_map (λ p. p.1) (subcommand_rows_of m)
    → option_map (λ n. n.now) value ≡ first_value (found_of given.now) id
    → option_of id (subcommand_rows_of m) ≡ option_map (λ n. n.now) value
option_met m given id value name named has is =
    ap (option_of id) (rows_met m name.now (rows_of (found_of given.now)) named has)
    ∙ sym (is ∙ first_value-rows (found_of given.now) id)

-- what stands in a subcommand's own matches is what the matches have there
pub options_met : (m : ArgMatches) (given : Bor ArgMatches) (name : Bor Text) → Some name.now ≡ subcommand_name_of m
    → Some (rows_of (found_of given.now)) ≡ option_map (λ p. p.1) (subcommand_rows_of m)
    → (id : Text) → first_value (found_of given.now) id ≡ option_of id (subcommand_rows_of m)
options_met m given name named has id =
    first_value-rows (found_of given.now) id
    ∙ sym (ap (option_of id) (rows_met m name.now (rows_of (found_of given.now)) named has))

first_letter : (a : Option Asked) (x y : Asked) → a ≡ Some x → a ≡ Some y → slice_index x.0 0 ≡ slice_index y.0 0
first_letter a x y p q = ap (λ (o : Option Asked). slice_index (unwrap_or o ([], None)).0 0) (sym p ∙ q)

nodes_same : (a : Option Asked) (x y : Asked) → a ≡ Some x → a ≡ Some y → x.1 ≡ y.1
nodes_same a x y p q = ap (λ (o : Option Asked). (unwrap_or o ([], None)).1) (sym p ∙ q)

-- `check` without NODES is no command
pub no_nodes : (f : Found) → asked_of f ≡ Some (codes "check", None) → IsNoCommand f
no_nodes f is (Pipe nodes) (named, _) =
    let first : ◌≡◌ {A = ℕ} 99 112 = first_letter (asked_of f) _ _ is named in
    absurd (omega (arith, first))
no_nodes f is (Check nodes explain) (named, _) = absurd (none-some nodes.now (nodes_same (asked_of f) _ _ is named))
no_nodes f is (Asm scenario) (named, _) =
    let first : ◌≡◌ {A = ℕ} 99 97 = first_letter (asked_of f) _ _ is named in
    absurd (omega (arith, first))
no_nodes f is (Run nodes scenario) (named, _) =
    let first : ◌≡◌ {A = ℕ} 99 114 = first_letter (asked_of f) _ _ is named in
    absurd (omega (arith, first))
no_nodes f is (Trace nodes scenario) (named, _) =
    let first : ◌≡◌ {A = ℕ} 99 116 = first_letter (asked_of f) _ _ is named in
    absurd (omega (arith, first))
no_nodes f is (Serve options) (named, _) =
    let first : ◌≡◌ {A = ℕ} 99 115 = first_letter (asked_of f) _ _ is named in
    absurd (omega (arith, first))

-- `asm` is no command where it has NODES, or no SCENARIO
pub no_asm : (f : Found) (nodes : Option Text) → asked_of f ≡ Some (codes "asm", nodes)
    → ((scenario : Text) → nodes ≡ None → option_of (codes "SCENARIO") f ≡ Some scenario → ⊥) → IsNoCommand f
no_asm f nodes is none (Pipe given) (named, _) =
    let first : ◌≡◌ {A = ℕ} 97 112 = first_letter (asked_of f) _ _ is named in
    absurd (omega (arith, first))
no_asm f nodes is none (Check given explain) (named, _) =
    let first : ◌≡◌ {A = ℕ} 97 99 = first_letter (asked_of f) _ _ is named in
    absurd (omega (arith, first))
no_asm f nodes is none (Asm scenario) (named, has) = none scenario.now (nodes_same (asked_of f) _ _ is named) has
no_asm f nodes is none (Run given scenario) (named, _) =
    let first : ◌≡◌ {A = ℕ} 97 114 = first_letter (asked_of f) _ _ is named in
    absurd (omega (arith, first))
no_asm f nodes is none (Trace given scenario) (named, _) =
    let first : ◌≡◌ {A = ℕ} 97 116 = first_letter (asked_of f) _ _ is named in
    absurd (omega (arith, first))
no_asm f nodes is none (Serve options) (named, _) =
    let first : ◌≡◌ {A = ℕ} 97 115 = first_letter (asked_of f) _ _ is named in
    absurd (omega (arith, first))

-- `run` is no command where it has no NODES, or no SCENARIO
pub no_run : (f : Found) (nodes : Option Text) → asked_of f ≡ Some (codes "run", nodes)
    → ((n scenario : Text) → nodes ≡ Some n → option_of (codes "SCENARIO") f ≡ Some scenario → ⊥) → IsNoCommand f
no_run f nodes is none (Pipe given) (named, _) =
    let first : ◌≡◌ {A = ℕ} 114 112 = first_letter (asked_of f) _ _ is named in
    absurd (omega (arith, first))
no_run f nodes is none (Check given explain) (named, _) =
    let first : ◌≡◌ {A = ℕ} 114 99 = first_letter (asked_of f) _ _ is named in
    absurd (omega (arith, first))
no_run f nodes is none (Asm scenario) (named, _) =
    let first : ◌≡◌ {A = ℕ} 114 97 = first_letter (asked_of f) _ _ is named in
    absurd (omega (arith, first))
no_run f nodes is none (Run given scenario) (named, has) = none given.now scenario.now (nodes_same (asked_of f) _ _ is named) has
no_run f nodes is none (Trace given scenario) (named, _) =
    let first : ◌≡◌ {A = ℕ} 114 116 = first_letter (asked_of f) _ _ is named in
    absurd (omega (arith, first))
no_run f nodes is none (Serve options) (named, _) =
    let first : ◌≡◌ {A = ℕ} 114 115 = first_letter (asked_of f) _ _ is named in
    absurd (omega (arith, first))

-- `trace` is no command where it has no NODES, or no SCENARIO
pub no_trace : (f : Found) (nodes : Option Text) → asked_of f ≡ Some (codes "trace", nodes)
    → ((n scenario : Text) → nodes ≡ Some n → option_of (codes "SCENARIO") f ≡ Some scenario → ⊥) → IsNoCommand f
no_trace f nodes is none (Pipe given) (named, _) =
    let first : ◌≡◌ {A = ℕ} 116 112 = first_letter (asked_of f) _ _ is named in
    absurd (omega (arith, first))
no_trace f nodes is none (Check given explain) (named, _) =
    let first : ◌≡◌ {A = ℕ} 116 99 = first_letter (asked_of f) _ _ is named in
    absurd (omega (arith, first))
no_trace f nodes is none (Asm scenario) (named, _) =
    let first : ◌≡◌ {A = ℕ} 116 97 = first_letter (asked_of f) _ _ is named in
    absurd (omega (arith, first))
no_trace f nodes is none (Run given scenario) (named, _) =
    let first : ◌≡◌ {A = ℕ} 116 114 = first_letter (asked_of f) _ _ is named in
    absurd (omega (arith, first))
no_trace f nodes is none (Trace given scenario) (named, has) = none given.now scenario.now (nodes_same (asked_of f) _ _ is named) has
no_trace f nodes is none (Serve options) (named, _) =
    let first : ◌≡◌ {A = ℕ} 116 115 = first_letter (asked_of f) _ _ is named in
    absurd (omega (arith, first))

-- `serve` is no command where its words say nothing
pub no_serve : (f : Found) (nodes : Option Text) → asked_of f ≡ Some (codes "serve", nodes)
    → ((options : ServeOptions) → IsServedWith (λ name. option_of name f) options → ⊥) → IsNoCommand f
no_serve f nodes is none (Pipe given) (named, _) =
    let first : ◌≡◌ {A = ℕ} 115 112 = first_letter (asked_of f) _ _ is named in
    absurd (omega (arith, first))
no_serve f nodes is none (Check given explain) (named, _) =
    let first : ◌≡◌ {A = ℕ} 115 99 = first_letter (asked_of f) _ _ is named in
    absurd (omega (arith, first))
no_serve f nodes is none (Asm scenario) (named, _) =
    let first : ◌≡◌ {A = ℕ} 115 97 = first_letter (asked_of f) _ _ is named in
    absurd (omega (arith, first))
no_serve f nodes is none (Run given scenario) (named, _) =
    let first : ◌≡◌ {A = ℕ} 115 114 = first_letter (asked_of f) _ _ is named in
    absurd (omega (arith, first))
no_serve f nodes is none (Trace given scenario) (named, _) =
    let first : ◌≡◌ {A = ℕ} 115 116 = first_letter (asked_of f) _ _ is named in
    absurd (omega (arith, first))
no_serve f nodes is none (Serve options) (named, has) = none options has

-- what is read behind `serve` by one way is read by another that finds the same words
pub served_at : (f g : Text → Option Text) (o : ServeOptions) → ((name : Text) → f name ≡ g name) → IsServedWith f o → IsServedWith g o
served_at f g o same has = record {
  nodes = sym (same (codes "NODES")) ∙ has.nodes;
  port = ap port_of (sym (same (codes "port"))) ∙ has.port;
  turns = ap bound_of (sym (same (codes "turns"))) ∙ has.turns;
  address = subst (λ t. IsAddressIn t o.address) (same (codes "address")) has.address;
  trace = ap is_given (sym (same (codes "trace"))) ∙ has.trace;
  idle = ap idle_of (sym (same (codes "idle"))) ∙ has.idle;
  per_address = ap bound_of (sym (same (codes "per-address"))) ∙ has.per_address;
  all_subscriptions = ap total_of (sym (same (codes "all-subscriptions"))) ∙ has.all_subscriptions;
  all_items = ap total_of (sym (same (codes "all-items"))) ∙ has.all_items;
  stop_file = sym (same (codes "stop-file")) ∙ has.stop_file;
  store = sym (same (codes "store")) ∙ has.store;
  url = sym (same (codes "url")) ∙ has.url;
  quiet = ap is_given (sym (same (codes "quiet"))) ∙ has.quiet;
  summary = ap is_given (sym (same (codes "summary"))) ∙ has.summary;
}

-- neither want of memory nor a word that is no command is a request
is_no_request : (k : ErrorKind) → k ≡ OutOfMemory → IsRequest k → ⊥
is_no_request k e (inl help) = absurd (search rules)
is_no_request k e (inr version) = absurd (search rules)

is_no_request_either : (k : ErrorKind) → k ≡ InvalidSubcommand → IsRequest k → ⊥
is_no_request_either k e (inl help) = absurd (search rules)
is_no_request_either k e (inr version) = absurd (search rules)

-- an error of a kind that may come stops by it
pub stops_by : (words : List (List ℕ)) (k : ErrorKind) (s : Stop) → (k ≡ OutOfMemory) ⊎ IsAmong k (faults words)
    → IsStopOf k s → StopsBy words s
stops_by words k (Help text) (inl e) is = absurd (is_no_request k e is)
stops_by words k (Help text) (inr among) is = (k, among, is)
stops_by words k (Usage text) (inl e) is = absurd (is.1 e)
stops_by words k (Usage text) (inr among) is = inl (k, among, is.0)
stops_by words k Memory h is = tt

-- words that name no command stop by it
pub stops_by_name : (words : List (List ℕ)) (k : ErrorKind) (s : Stop) → k ≡ InvalidSubcommand → faults words ≡ []
    → IsNoCommand (subcommand_of program words) → IsStopOf k s → StopsBy words s
stops_by_name words k (Help text) e right none is = absurd (is_no_request_either k e is)
stops_by_name words k (Usage text) e right none is = inr (right, none)
stops_by_name words k Memory e right none is = tt

-- where nothing is wrong and a command is named, it comes or memory ran out
pub comes : (words : List Text) (c : Command) (r : Result Command Stop) → IfOk r (AsksFor words) → IfErr r (StopsBy words)
    → faults words ≡ [] → asked words ≡ Some (words_of c) → HasOptions (subcommand_of program words) c → Answers (words_of c) r
comes words c (Ok d) ok err right named has = ap (λ (o : Option Asked). unwrap_or o (words_of d)) (sym ok.1.0 ∙ named)
comes words c (Err (Help text)) ok (k, among, request) right named has = absurd (subst (IsAmong k) right among)
comes words c (Err (Usage text)) ok (inl (k, among, other)) right named has = absurd (subst (IsAmong k) right among)
comes words c (Err (Usage text)) ok (inr (none_wrong, none)) right named has = absurd (none c (named, has))
comes words c (Err Memory) ok err right named has = refl

-- words have their references
pub second_word : (ws : List (Bor Text)) (x y : Text) → map (λ w. w.now) ws ≡ x ∷ y ∷ [] → (b : Bor Text) × (b.now ≡ y)
second_word [] x y is = absurd (search rules)
second_word (v ∷ []) x y is = absurd (search rules)
second_word (v ∷ w ∷ ws) x y is = (w, cc)

-- so it is for `pipe`, `pipe NODES` and `check NODES`
module _ (ws : List (Bor Text)) (r : Result Command Stop) (ok : IfOk r (AsksFor (map (λ w. w.now) ws))) (err : IfErr r (StopsBy (map (λ w. w.now) ws))) where
  pub pipe_comes : map (λ w. w.now) ws ≡ codes "pipe" ∷ [] → Answers (codes "pipe", None) r
  pipe_comes is = comes (map (λ w. w.now) ws) (Pipe None) r ok err (ap faults is ∙ faults-pipe) (ap asked is ∙ asked-pipe) tt

  pub pipe_nodes_comes : (nodes : Text) → IsPlainWord nodes → map (λ w. w.now) ws ≡ codes "pipe" ∷ nodes ∷ [] → Answers (codes "pipe", Some nodes) r
  pipe_nodes_comes nodes plain is =
      let b = second_word ws (codes "pipe") nodes is in
      subst (λ n. Answers (codes "pipe", Some n) r) b.1
      (comes (map (λ w. w.now) ws) (Pipe (Some b.0)) r ok err (ap faults is ∙ faults-pipe_nodes nodes plain)
      (ap asked is ∙ (asked-pipe_nodes nodes plain ∙ ap (λ n. Some (codes "pipe", Some n)) (sym b.1))) tt)

  pub check_comes : (nodes : Text) → IsPlainWord nodes → map (λ w. w.now) ws ≡ codes "check" ∷ nodes ∷ [] → Answers (codes "check", Some nodes) r
  check_comes nodes plain is =
      let b = second_word ws (codes "check") nodes is in
      subst (λ n. Answers (codes "check", Some n) r) b.1
      (comes (map (λ w. w.now) ws) (Check b.0 false) r ok err (ap faults is ∙ faults-check nodes plain)
      (ap asked is ∙ (asked-check nodes plain ∙ ap (λ n. Some (codes "check", Some n)) (sym b.1)))
      (ap (λ words. is_given (option_of (codes "explain") (subcommand_of program words))) is ∙ explain-check nodes plain))
