-- What a shutdown leaves of the connections: each is known as it was, and closed.
use Rattle.std.proofs.Common.{◌≡◌, ◌≢◌, ℕ, Bool, true, false, cond, List, [], ◌∷◌, Option, Some, None, is_some, refl, sym, ap, subst, ◌∙◌}
use Rattle.std.proofs.lemmas.Bool.{false≢true}
use Rattle.std.specs.FinMap.{find, get, insert, entries, get-entries, get-insert}
use Rattle.std.specs.Map.{keys_of}
use Rattle.std.specs.Ordering.{nat_cmp, eq_by_cmp}
use Rattle.std.specs.Cmp.{nat_cmp_total}
use Rattle.collections.proofs.NumberMaps.{same_number, insert_same}
use Rattle.ua_types.specs.Configuration.{Configuration}
use Rattle.server_connections.specs.Coherent.{IsAgreedAt, AreAgreed, IsFresh, AreNumbered, number_at, is_going_on, is_open_at, is_open, AreAllClosed}
use Rattle.server_connections.specs.Connecting.{Connections, is_new, refusing}
use Rattle.server_connections.specs.Shutting.{shut_by, shut_on, shut_at, shut_one, and_refusing, all_shut, shut, ended}
use Rattle.server_connections.specs.declared.connection.Connection.{Connection}
use Rattle.server_connections.specs.declared.connection.Phase.{Phase}
use Rattle.server_connections.specs.declared.connection.Phase.TheVariants.{Greeting, Talking, Closed}

-- ---- where none is open, nothing is done

module _ (connections : Connections) (conn : ℕ) (connection : Connection) where
  closed_at : (phase : Phase) → connection.phase ≡ phase → is_going_on phase ≡ false → get connections.known conn ≡ Some connection
      → shut_on connections conn connection (shut_by conn connection.phase) ≡ refusing connections []
  closed_at Greeting is closed there = absurd (false≢true (sym closed))
  closed_at (Talking s) is closed there = absurd (false≢true (sym closed))
  closed_at Closed is closed there =
      let same : record connection { phase = Closed } ≡ connection = ap (λ phase. record connection { phase = phase }) (sym is) in
      ap (λ phase. shut_on connections conn connection (shut_by conn phase)) is
      ∙ ap (λ (c : Connection). refusing (record connections { known = insert connections.known conn c }) []) same
      ∙ ap (λ known. refusing (record connections { known = known }) []) (insert_same connections.known conn connection there)

closed_stays : (connections : Connections) (conn : ℕ) → is_open connections conn ≡ false → shut_one connections conn ≡ refusing connections []
unfolding shut_one
closed_stays connections conn closed = by (get connections.known conn) refl closed
  where
    by : (o : Option Connection) → get connections.known conn ≡ o → is_open_at o ≡ false → shut_at connections conn o ≡ refusing connections []
    by None e closed = refl
    by (Some connection) e closed = closed_at connections conn connection connection.phase refl closed e

all_closed_stay : (connections : Connections) (conns : List ℕ) → AreAllClosed connections → all_shut connections conns ≡ refusing connections []
all_closed_stay connections [] closed = refl
all_closed_stay connections (conn ∷ conns) closed =
    ap (λ first. and_refusing first (λ c. all_shut c conns)) (closed_stays connections conn (closed conn))
    ∙ all_closed_stay connections conns closed

pub none_shut : (connections : Connections) → AreAllClosed connections → shut connections ≡ refusing connections []
none_shut connections closed = all_closed_stay connections (keys_of (entries connections.known)) closed

-- ---- where some are open, all are closed

closes : (conn : ℕ) (phase : Phase) → (shut_by conn phase).phase ≡ Closed
closes conn Greeting = refl
closes conn (Talking s) = refl
closes conn Closed = refl

unknown_stays : (b : Bool) (x : Option Connection) → x ≡ None → x ≡ cond b (ended x) x
unknown_stays true None e = refl
unknown_stays true (Some c) e = absurd (false≢true (sym (ap is_some e)))
unknown_stays false x e = refl

module _ (connections : Connections) (conn q : ℕ) where
  one_at : (o : Option Connection) → get connections.known conn ≡ o
      → get (shut_at connections conn o).connections.known q ≡ cond (eq_by_cmp nat_cmp q conn) (ended (get connections.known q)) (get connections.known q)
  one_at None e = by (eq_by_cmp nat_cmp q conn) refl
    where
      by : (b : Bool) → eq_by_cmp nat_cmp q conn ≡ b → get connections.known q ≡ cond b (ended (get connections.known q)) (get connections.known q)
      by true s = unknown_stays true (get connections.known q) (ap (get connections.known) (same_number q conn s) ∙ e)
      by false s = refl
  one_at (Some connection) e =
      get-insert nat_cmp_total connections.known conn _ q ∙ by (eq_by_cmp nat_cmp q conn) refl
    where
      by : (b : Bool) → eq_by_cmp nat_cmp q conn ≡ b → cond b (Some (record connection { phase = (shut_by conn connection.phase).phase })) (get connections.known q) ≡ cond b (ended (get connections.known q)) (get connections.known q)
      by true s = ap (λ phase. Some (record connection { phase = phase })) (closes conn connection.phase) ∙ ap ended (sym (ap (get connections.known) (same_number q conn s) ∙ e))
      by false s = refl

one_shut : (connections : Connections) (conn q : ℕ)
    → get (shut_one connections conn).connections.known q ≡ cond (eq_by_cmp nat_cmp q conn) (ended (get connections.known q)) (get connections.known q)
unfolding shut_one
one_shut connections conn q = one_at connections conn q (get connections.known conn) refl

-- ---- all of some

abbrev among : ℕ → List ℕ → Bool
among q [] = false
among q (n ∷ ns) = cond (eq_by_cmp nat_cmp q n) true (among q ns)

either_ends : (b m : Bool) (x : Option Connection) → cond m (ended (cond b (ended x) x)) (cond b (ended x) x) ≡ cond (cond b true m) (ended x) x
either_ends true true None = refl
either_ends true true (Some c) = refl
either_ends true false x = refl
either_ends false true x = refl
either_ends false false x = refl

shut_among : (conns : List ℕ) (connections : Connections) (q : ℕ)
    → get (all_shut connections conns).connections.known q ≡ cond (among q conns) (ended (get connections.known q)) (get connections.known q)
shut_among [] connections q = refl
shut_among (n ∷ ns) connections q =
    shut_among ns (shut_one connections n).connections q
    ∙ ap (λ x. cond (among q ns) (ended x) x) (one_shut connections n q)
    ∙ either_ends (eq_by_cmp nat_cmp q n) (among q ns) (get connections.known q)

found_among : (es : List (ℕ × Connection)) (q : ℕ) (connection : Connection) → find nat_cmp q es ≡ Some connection → among q (keys_of es) ≡ true
found_among [] q connection e = absurd (false≢true (ap is_some e))
found_among (e ∷ es) q connection is = by (found_among es q connection) (eq_by_cmp nat_cmp q e.0) is
  where
    by : (find nat_cmp q es ≡ Some connection → among q (keys_of es) ≡ true) → (b : Bool) → cond b (Some e.1) (find nat_cmp q es) ≡ Some connection → cond b true (among q (keys_of es)) ≡ true
    by rest true h = refl
    by rest false h = rest h

-- ---- all that are known

either_none : (b : Bool) → cond b (ended None) None ≡ ended None
either_none true = refl
either_none false = refl

-- a connection that is known still is, with its key, and is closed
pub shut_ends : (connections : Connections) (q : ℕ) → get (shut connections).connections.known q ≡ ended (get connections.known q)
shut_ends connections q = shut_among numbers connections q ∙ by (get connections.known q) refl
  where
    numbers : List ℕ
    numbers = keys_of (entries connections.known)

    by : (o : Option Connection) → get connections.known q ≡ o → cond (among q numbers) (ended (get connections.known q)) (get connections.known q) ≡ ended (get connections.known q)
    by None e = ap (λ x. cond (among q numbers) (ended x) x) e ∙ either_none (among q numbers) ∙ ap ended (sym e)
    by (Some connection) e = ap (λ b. cond b (ended (get connections.known q)) (get connections.known q)) (found_among (entries connections.known) q connection (sym (get-entries connections.known q) ∙ e))

shut_greatest : (conns : List ℕ) (connections : Connections) → (all_shut connections conns).connections.greatest ≡ connections.greatest
unfolding shut_one
shut_greatest [] connections = refl
shut_greatest (n ∷ ns) connections = shut_greatest ns (shut_one connections n).connections ∙ one (get connections.known n)
  where
    one : (o : Option Connection) → (shut_at connections n o).connections.greatest ≡ connections.greatest
    one None = refl
    one (Some connection) = refl

agreed_ended : (config : Configuration) (o : Option Connection) → IsAgreedAt config (ended o)
agreed_ended config None = tt
agreed_ended config (Some connection) = tt

pub shut_agreed : (config : Configuration) (connections : Connections) → AreAgreed config (shut connections).connections
shut_agreed config connections q = subst (IsAgreedAt config) (sym (shut_ends connections q)) (agreed_ended config (get connections.known q))

-- none is open
pub shut_closed : (connections : Connections) (q : ℕ) → is_open (shut connections).connections q ≡ false
shut_closed connections q = ap is_open_at (shut_ends connections q) ∙ by (get connections.known q)
  where
    by : (o : Option Connection) → is_open_at (ended o) ≡ false
    by None = refl
    by (Some connection) = refl

known_ended : (o : Option Connection) → is_some (ended o) ≡ is_some o
known_ended None = refl
known_ended (Some connection) = refl

pub shut_fresh : (connections : Connections) → IsFresh connections → IsFresh (shut connections).connections
shut_fresh connections fresh q new =
    ap is_some (shut_ends connections q) ∙ known_ended (get connections.known q)
    ∙ fresh q (ap (λ greatest. is_new (record connections { greatest = greatest }) q) (sym (shut_greatest (keys_of (entries connections.known)) connections)) ∙ new)

number_ended : (o : Option Connection) → number_at (ended o) ≡ None
number_ended None = refl
number_ended (Some connection) = refl

unnumbered : (connections : Connections) (q number : ℕ) → number_at (get (shut connections).connections.known q) ≢ Some number
unnumbered connections q number is = false≢true (ap is_some (sym (ap number_at (shut_ends connections q) ∙ number_ended (get connections.known q)) ∙ is))

pub shut_numbered : (connections : Connections) → AreNumbered (shut connections).connections
shut_numbered connections = record {
  counted = λ conn number is. absurd (unnumbered connections conn number is);
  distinct = λ conn other number is also. absurd (unnumbered connections conn number is);
}
