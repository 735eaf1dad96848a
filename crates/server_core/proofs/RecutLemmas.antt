-- Where the bytes of a run are cut makes no difference.
use Rattle.std.proofs.Common.{◌≡◌, ℕ, ◌==◌, Bool, true, false, cond, List, [], ◌∷◌, ◌++◌, Option, Some, None, is_some, Result, Ok, Err, refl, sym, ◌∙◌, ap, append_assoc, append-nil}
use Rattle.std.proofs.lemmas.Bool.{eqb-true, false≢true}
use Rattle.server_connections.specs.Connecting.{is_known}
use Rattle.server_core.specs.declared.event.Event.{Event}
use Rattle.server_core.specs.declared.event.Event.TheVariants.{Opened, Bytes, Gone, Tick, Shutdown}
use Rattle.server_core.specs.declared.out.StepFault.{StepFault}
use Rattle.server_core.specs.declared.out.StepFault.TheVariants.{UnknownConnection}
use Rattle.server_core.specs.Effects.{Effect}
use Rattle.server_core.specs.Running.{Running, run_after, then_run, run_of, Joined, joined_as, joined_effects, joined_run, joined_front, uncut, heard, heard_run}
use Rattle.server_core.specs.Stepping.{WorldStep, fed, step_on}
use Rattle.server_core.specs.World.{World}
use Rattle.server_core.proofs.ApartLemmas.{fed_known}
use Rattle.server_core.proofs.CutLemmas.{fed-cut}
use Rattle.server_core.proofs.RunLemmas.{and_run_by, run_of-append}

-- effects, and then those of another run
abbrev pub behind : List Effect → Joined → Joined
behind effects j = joined_as (effects ++ j.effects) j.fault j.server

-- ---- a run goes on alike after the same event

alike_by : (server : Option World) (r : Result WorldStep StepFault) (more other : Option World → Running) → ((s : Option World) → joined_run (more s) ≡ joined_run (other s)) →
    joined_run (then_run server r more) ≡ joined_run (then_run server r other)
alike_by server (Ok s) more other f = ap (behind s.effects) (f (Some s.world))
alike_by server (Err fault) more other f = refl

alike : (server : Option World) (event : Event) (xs ys : List Event) → ((s : Option World) → joined_run (run_of s xs) ≡ joined_run (run_of s ys)) →
    joined_run (run_of server (event ∷ xs)) ≡ joined_run (run_of server (event ∷ ys))
alike server event xs ys f = alike_by server (step_on server event) (λ s. run_of s xs) (λ s. run_of s ys) f

-- ---- two pieces are one

-- both pieces of a connection that is known, or none
two_by : (world : World) (conn : ℕ) (a b : List ℕ) (known : Bool) (more : Option World → Running) → is_known world.core.connections conn ≡ known →
    joined_run (then_run (Some world) (cond known (Ok (fed world conn a)) (Err UnknownConnection)) (λ s. then_run s (step_on s (Bytes conn b)) more))
    ≡ joined_run (then_run (Some world) (cond known (Ok (fed world conn (a ++ b))) (Err UnknownConnection)) more)
two_by world conn a b false more e = refl
two_by world conn a b true more e =
    let first = fed world conn a in
    let second = fed first.world conn b in
    let still : is_known first.world.core.connections conn ≡ true = fed_known world conn a ∙ e in
    let rest = more (Some second.world) in
    ap (λ (k : Bool). behind first.effects (joined_run (then_run (Some first.world) (cond k (Ok second) (Err UnknownConnection)) more))) still
    ∙ ap (λ (es : List Effect). joined_as es rest.fault rest.server) (sym (append_assoc first.effects second.effects (joined_effects rest.steps)))
    ∙ ap (λ (s : WorldStep). joined_run (run_after (s.effects ∷ []) (more (Some s.world)))) (sym (fed-cut world conn a b))

pub two_pieces : (server : Option World) (conn : ℕ) (a b : List ℕ) (events : List Event) →
    joined_run (run_of server (Bytes conn a ∷ Bytes conn b ∷ events)) ≡ joined_run (run_of server (Bytes conn (a ++ b) ∷ events))
two_pieces None conn a b events = refl
two_pieces (Some world) conn a b events = two_by world conn a b (is_known world.core.connections conn) (λ s. run_of s events) refl

-- ---- any cut of any events

front_by : (server : Option World) (conn other : ℕ) (a b : List ℕ) (events : List Event) (same : Bool) → (conn == other) ≡ same →
    joined_run (run_of server (Bytes conn a ∷ Bytes other b ∷ events)) ≡ joined_run (run_of server (cond same (Bytes conn (a ++ b) ∷ events) (Bytes conn a ∷ Bytes other b ∷ events)))
front_by server conn other a b events true e =
    ap (λ (n : ℕ). joined_run (run_of server (Bytes conn a ∷ Bytes n b ∷ events))) (sym (eqb-true conn other e)) ∙ two_pieces server conn a b events
front_by server conn other a b events false e = refl

front : (server : Option World) (event : Event) (events : List Event) → joined_run (run_of server (event ∷ events)) ≡ joined_run (run_of server (joined_front event events))
front server (Bytes conn a) (Bytes other b ∷ events) = front_by server conn other a b events (conn == other) refl
front server (Bytes conn a) [] = refl
front server (Bytes conn a) (Opened other key ∷ events) = refl
front server (Bytes conn a) (Gone other ∷ events) = refl
front server (Bytes conn a) (Tick now ∷ events) = refl
front server (Bytes conn a) (Shutdown ∷ events) = refl
front server (Opened conn key) events = refl
front server (Gone conn) events = refl
front server (Tick now) events = refl
front server Shutdown events = refl

pub uncut_same : (server : Option World) (events : List Event) → joined_run (run_of server events) ≡ joined_run (run_of server (uncut events))
uncut_same server [] = refl
uncut_same server (event ∷ events) = alike server event events (uncut events) (λ s. uncut_same s events) ∙ front server event (uncut events)

-- events that are the same but for where bytes are cut run alike
pub recut_same : (server : Option World) (events others : List Event) → uncut events ≡ uncut others → joined_run (run_of server events) ≡ joined_run (run_of server others)
recut_same server events others e =
    uncut_same server events ∙ ap (λ (es : List Event). joined_run (run_of server es)) e ∙ sym (uncut_same server others)

-- ---- bytes that are heard piece by piece

-- a piece after what was heard is heard with it
heard_more : (server : Option World) (conn : ℕ) (bytes : List ℕ) (byte : ℕ) (piece : List ℕ) →
    joined_run (run_of server (heard conn (bytes ++ byte ∷ piece))) ≡ joined_run (run_of server (heard conn bytes ++ Bytes conn (byte ∷ piece) ∷ []))
heard_more server conn [] byte piece = refl
heard_more server conn (b ∷ bytes) byte piece = sym (two_pieces server conn (b ∷ bytes) (byte ∷ piece) [])

-- the effects of a run without a fault, and then of what runs next
joined_steps : (xs ys : List (List Effect)) → joined_effects (xs ++ ys) ≡ joined_effects xs ++ joined_effects ys
joined_steps [] ys = refl
joined_steps (x ∷ xs) ys = ap (λ (es : List Effect). x ++ es) (joined_steps xs ys) ∙ sym (append_assoc x (joined_effects xs) (joined_effects ys))

and_joined_by : (r : Running) (more : Option World → Running) (fault : Option StepFault) → fault ≡ None →
    joined_run (and_run_by r fault more) ≡ behind (joined_effects r.steps) (joined_run (more r.server))
and_joined_by r more None e =
    let next = more r.server in
    ap (λ (es : List Effect). joined_as es next.fault next.server) (joined_steps r.steps next.steps)
and_joined_by r more (Some fault) e = absurd (false≢true (sym (ap is_some e)))

heard_next : (server : Option World) (conn : ℕ) (bytes : List ℕ) (byte : ℕ) (piece : List ℕ) → (run_of server (heard conn bytes)).fault ≡ None →
    (let r = run_of server (heard conn bytes) in
    joined_run (run_of server (heard conn (bytes ++ byte ∷ piece))) ≡ behind (joined_effects r.steps) (joined_run (run_of r.server (Bytes conn (byte ∷ piece) ∷ []))))
heard_next server conn bytes byte piece e =
    let r = run_of server (heard conn bytes) in
    heard_more server conn bytes byte piece
    ∙ ap joined_run (run_of-append server (heard conn bytes) (Bytes conn (byte ∷ piece) ∷ []))
    ∙ and_joined_by r (λ s. run_of s (Bytes conn (byte ∷ piece) ∷ [])) r.fault e

-- bytes that are heard after others
pub heard_both : (server : Option World) (conn : ℕ) (bytes more : List ℕ) → (heard_run server conn bytes).fault ≡ None →
    (let r = heard_run server conn bytes in heard_run server conn (bytes ++ more) ≡ behind r.effects (heard_run r.server conn more))
heard_both server conn bytes [] e =
    let r = heard_run server conn bytes in
    ap (heard_run server conn) (append-nil bytes)
    ∙ ap (λ (f : Option StepFault). joined_as r.effects f r.server) e
    ∙ ap (λ (es : List Effect). joined_as es None r.server) (sym (append-nil r.effects))
heard_both server conn bytes (byte ∷ piece) e = heard_next server conn bytes byte piece e

-- a piece that is answered
answered_by : (server : Option World) (r : Result WorldStep StepFault) (s : WorldStep) → r ≡ Ok s → joined_run (then_run server r (λ t. run_of t [])) ≡ joined_as s.effects None (Some s.world)
answered_by server (Ok t) s e = ap (λ (r : Result WorldStep StepFault). joined_run (then_run server r (λ t. run_of t []))) e ∙ ap (λ (es : List Effect). joined_as es None (Some s.world)) (append-nil s.effects)
answered_by server (Err fault) s e = absurd cc

pub heard_piece : (server : Option World) (conn byte : ℕ) (piece : List ℕ) (s : WorldStep) → step_on server (Bytes conn (byte ∷ piece)) ≡ Ok s →
    heard_run server conn (byte ∷ piece) ≡ joined_as s.effects None (Some s.world)
heard_piece server conn byte piece s e = answered_by server (step_on server (Bytes conn (byte ∷ piece))) s e
