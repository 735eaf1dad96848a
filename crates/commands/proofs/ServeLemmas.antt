-- What `serve` comes to.
use Rattle.std.proofs.Common.{◌≡◌, ℕ, Bool, true, false, is_some, List, [], Some, None, Result, Ok, Err, MatchResult, refl, sym, ap, subst, ◌∙◌, inl, inr, append-nil}
use Rattle.std.specs.Borrow.{Bor}
use Rattle.std.specs.Io.KnownBytes.{Appends}
use Rattle.ua_types.specs.Configuration.{Configuration}
use Rattle.ua_space.specs.Nodes.{SpaceState}
use Rattle.server_core.specs.World.{opening}
use Rattle.server_messages.specs.declared.store_fault.StoreFault.{StoreFault}
use Rattle.server_messages.specs.declared.store_fault.StoreFault.TheVariants as store_fault
use Rattle.socket_server.specs.Keeping.{Keeping, keeping_all}
use Rattle.scenario_run.specs.TraceText.{rows_text}
use Rattle.socket_server.specs.Sockets.{ServeState}
use Rattle.socket_server.specs.Serving.{IsServed, IsStopped, IsOutside}
use Rattle.socket_server.specs.Output.{Puts, PutsPart, no_output}
use Rattle.socket_server.specs.declared.serve_fault.ServeFault.{ServeFault}
use Rattle.socket_server.specs.declared.serve_fault.ServeFault.TheVariants as serve_fault
use Rattle.scenario_run.specs.Held.{Place, Printed, CutShort}
use Rattle.commands.specs.Serving.{Between, ServesWith, text_of, output_at, ListensAndServes, ServesOn, ServesStored, ServesBy, BeginsWithStore, IsUnopened, idle_of, configured, status_served, status_stored}
use Rattle.commands.specs.NodeFiles.{Made}
use Rattle.commands.specs.declared.exit_status.ExitStatus.{ExitStatus}
use Rattle.commands.specs.declared.exit_status.ExitStatus.TheVariants.{Halted, Store}
use Rattle.command_line.specs.declared.command.ServeOptions.{ServeOptions}

module _ (old new : Place) (idle : ℕ) (o : ServeOptions) (server : Keeping) where
  -- nothing was said
  pub refused : (f : ServeFault) → IsOutside f → new ≡ old → ServesOn old new idle o server (status_served (Err f))
  refused (serve_fault.Step f) h e = absurd h
  refused serve_fault.Trace h e = absurd h
  refused (serve_fault.Store f) h e = absurd h
  refused serve_fault.Memory h e = (serve_fault.Memory, refl, inr (h, e))
  refused serve_fault.Network h e = (serve_fault.Network, refl, inr (h, e))
  refused serve_fault.Port h e = (serve_fault.Port, refl, inr (h, e))
  refused serve_fault.Address h e = (serve_fault.Address, refl, inr (h, e))

  stopped_by_store : (f : StoreFault) → ListensAndServes old new idle o server (Err (serve_fault.Store f)) → ServesOn old new idle o server (status_served (Err (serve_fault.Store f)))
  stopped_by_store store_fault.CannotOpen h = (serve_fault.Store store_fault.CannotOpen, refl, inl h)
  stopped_by_store store_fault.Locked h = (serve_fault.Store store_fault.Locked, refl, inl h)
  stopped_by_store store_fault.NotADatabase h = (serve_fault.Store store_fault.NotADatabase, refl, inl h)
  stopped_by_store store_fault.OtherTables h = (serve_fault.Store store_fault.OtherTables, refl, inl h)
  stopped_by_store store_fault.Unreadable h = (serve_fault.Store store_fault.Unreadable, refl, inl h)
  stopped_by_store store_fault.Full h = (serve_fault.Store store_fault.Full, refl, inl h)
  stopped_by_store store_fault.Failed h = (serve_fault.Store store_fault.Failed, refl, inl h)
  stopped_by_store store_fault.Memory h = (serve_fault.Store store_fault.Memory, refl, inl h)

  stopped : (f : ServeFault) → ListensAndServes old new idle o server (Err f) → ServesOn old new idle o server (status_served (Err f))
  stopped (serve_fault.Step f) h = (serve_fault.Step f, refl, inl h)
  stopped serve_fault.Trace h = inr h
  stopped (serve_fault.Store f) h = stopped_by_store f h
  stopped serve_fault.Memory h = (serve_fault.Memory, refl, inl h)
  stopped serve_fault.Network h = (serve_fault.Network, refl, inl h)
  stopped serve_fault.Port h = (serve_fault.Port, refl, inl h)
  stopped serve_fault.Address h = (serve_fault.Address, refl, inl h)

  pub ended : (r : Result (Unit {0}) ServeFault) → ListensAndServes old new idle o server r → ServesOn old new idle o server (status_served r)
  ended (Ok x) h = h
  ended (Err f) h = stopped f h

-- a store's fault that isn't want of memory
pub not_for_memory : (f : StoreFault) → (f ≡ store_fault.Memory → ⊥) → Store ≡ status_stored f
not_for_memory store_fault.CannotOpen other = refl
not_for_memory store_fault.Locked other = refl
not_for_memory store_fault.NotADatabase other = refl
not_for_memory store_fault.OtherTables other = refl
not_for_memory store_fault.Unreadable other = refl
not_for_memory store_fault.Full other = refl
not_for_memory store_fault.Failed other = refl
not_for_memory store_fault.Memory other = absurd (other refl)

-- there is no memory, and nothing was said
memory_wanting : (at : Place) (idle : ℕ) (o : ServeOptions) (config : Configuration) (space : SpaceState) (stores : Bool) → ServesStored at at idle o config space stores Halted
memory_wanting at idle o config space false = refused at at idle o (keeping_all (Some (opening config space)) None) serve_fault.Memory tt refl
memory_wanting at idle o config space true = inr (inr refl, refl)

pub no_memory_by : (at : Place) (o : ServeOptions) (made : Made) → ServesBy at at o made Halted
no_memory_by at o made = memory_wanting at (idle_of made.0.session_time o.idle) o (configured made.0 o) made.1 (is_some o.store)

module _ (old new : Place) (idle : ℕ) (o : ServeOptions) (config : Configuration) (space : SpaceState) (status : ExitStatus) where
  -- by a server that has begun, or that didn't
  abbrev Begun : {S : Type 0} → (S → Keeping) → Result S ExitStatus → Type 0
  Begun view begun = MatchResult begun (λ server. ServesOn old new idle o (view server) status) (λ s. (status ≡ s) × (new ≡ old))

  from_store : {S : Type 0} (view : S → Keeping) (begun : Result S ExitStatus) → MatchResult begun (λ server. BeginsWithStore config space (view server)) IsUnopened → Begun view begun
      → ServesStored old new idle o config space true status
  from_store view (Ok server) begins h = inl (view server, begins, h)
  from_store view (Err s) unopened (is, same) = inr (subst IsUnopened (sym is) unopened, same)

  without_store : {S : Type 0} (view : S → Keeping) (begun : Result S ExitStatus) → MatchResult begun (λ server. view server ≡ keeping_all (Some (opening config space)) None) (λ s. s ≡ Halted)
      → Begun view begun → ServesStored old new idle o config space false status
  without_store view (Ok server) begins h = subst (λ (s : Keeping). ServesOn old new idle o s status) begins h
  without_store view (Err s) halted (is, same) =
      subst (λ (s : ExitStatus). ServesStored old new idle o config space false s) (sym (is ∙ halted))
      (subst (λ (p : Place). ServesStored old p idle o config space false Halted) (sym same) (memory_wanting old idle o config space false))

  -- with a store
  pub served_from_store : {S : Type 0} (path : Bor (List ℕ)) → o.store ≡ Some path → (view : S → Keeping) (begun : Result S ExitStatus)
      → MatchResult begun (λ server. BeginsWithStore config space (view server)) IsUnopened → Begun view begun → ServesStored old new idle o config space (is_some o.store) status
  served_from_store path some view begun begins h =
      subst (λ (b : Bool). ServesStored old new idle o config space b status) (sym (ap is_some some)) (from_store view begun begins h)

  -- and without one
  pub served_without_store : {S : Type 0} → o.store ≡ None → (view : S → Keeping) (begun : Result S ExitStatus)
      → MatchResult begun (λ server. view server ≡ keeping_all (Some (opening config space)) None) (λ s. s ≡ Halted) → Begun view begun
      → ServesStored old new idle o config space (is_some o.store) status
  served_without_store none view begun begins h =
      subst (λ (b : Bool). ServesStored old new idle o config space b status) (sym (ap is_some none)) (without_store view begun begins h)

-- as the words say
pub by_words : (old new : Place) (o : ServeOptions) (made : Made) (status : ExitStatus) (idle : ℕ) (config : Configuration) → idle ≡ idle_of made.0.session_time o.idle
    → config ≡ configured made.0 o → ServesStored old new idle o config made.1 (is_some o.store) status → ServesBy old new o made status
by_words old new o made status idle config e f h =
    subst (λ (n : ℕ). ServesStored old new n o (configured made.0 o) made.1 (is_some o.store) status) e
    (subst (λ (k : Configuration). ServesStored old new idle o k made.1 (is_some o.store) status) f h)

module _ (o : ServeOptions) (sockets : ServeState) (server : Keeping) (old new : Place) where
  -- with a trace, which is put into the writer that was lent
  pub served_with : o.trace ≡ true → (w w' : ℕ) (r : Result (Unit {0}) ServeFault) → w' ≡ w
      → MatchResult r (λ _. IsServed rows_text sockets server (is_some o.stop_file) o.turns (output_at w old) (output_at w' new))
      (λ f. IsStopped rows_text sockets server f (output_at w old) (output_at w' new))
      → ServesWith o sockets server old new r
  served_with traces w w' (Ok x) e h =
      subst (λ (t : Bool). Between t (IsServed (text_of t) sockets server (is_some o.stop_file) o.turns) old new) (sym traces)
      (w, subst (λ v. IsServed rows_text sockets server (is_some o.stop_file) o.turns (output_at w old) (output_at v new)) e h)
  served_with traces w w' (Err f) e h =
      subst (λ (t : Bool). Between t (IsStopped (text_of t) sockets server f) old new) (sym traces)
      (w, subst (λ v. IsStopped rows_text sockets server f (output_at w old) (output_at v new)) e h)

  -- and without
  pub served_without : o.trace ≡ false → (r : Result (Unit {0}) ServeFault) → new ≡ old
      → MatchResult r (λ _. IsServed (text_of false) sockets server (is_some o.stop_file) o.turns no_output no_output)
      (λ f. IsStopped (text_of false) sockets server f no_output no_output)
      → ServesWith o sockets server old new r
  served_without quiet (Ok x) e h =
      subst (λ (t : Bool). Between t (IsServed (text_of t) sockets server (is_some o.stop_file) o.turns) old new) (sym quiet) (h, e)
  served_without quiet (Err f) e h =
      subst (λ (t : Bool). Between t (IsStopped (text_of t) sockets server f) old new) (sym quiet) (h, e)

-- ---- the lines of a trace

module _ (text : List ℕ) (old new : Place) (writer : ℕ) where
  pub lines_put : Printed old new text [] → Puts (output_at writer old) (output_at writer new) text
  lines_put p = record {
    writer = refl;
    written = subst (Appends old.bytes new.bytes) (sym (p.whole ∙ append-nil p.out)) p.written;
    failures = p.failures;
  }

  -- or a part of them
  pub part_put : CutShort old new text → PutsPart (output_at writer old) (output_at writer new) text
  part_put q = record {
    out = q.out;
    left = q.left;
    whole = q.whole;
    puts = record { writer = refl; written = q.written; failures = q.failures };
    failed = q.failed;
  }
