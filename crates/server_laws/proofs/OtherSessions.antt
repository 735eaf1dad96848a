-- What a request of one session leaves of the session table, and which session its header names.
use Rattle.std.proofs.Common.{◌≡◌, ◌≢◌, ◌⊎◌, inl, inr, ℕ, ◌+◌, ◌==◌, ◌≤◌, ◌<◌, arith, Bool, true, false, not, ◌&&◌, cond, List, [], ◌∷◌, Option, Some, None, refl, sym, subst, ◌∙◌}
use Rattle.std.proofs.lemmas.Bool.{leb-false, leb-true}
use Rattle.std.specs.Cmp.{nat_cmp_total}
use Rattle.std.specs.FinMap.{FinMap, get, remove, get-remove}
use Rattle.std.specs.Ordering.{nat_cmp, eq_by_cmp}
use Rattle.std.specs.Prelude.{⊤, IfOk, IfSome, nat_le}
use Rattle.std.specs.Str.{bytes_eq}
use Rattle.collections.proofs.NumberMaps.{get_inserted_elsewhere, get_removed_elsewhere}
use Rattle.ua_types.specs.Answers.{Step}
use Rattle.ua_types.specs.declared.moment.Moment.{Moment}
use Rattle.ua_types.specs.declared.node_id.NodeId.{NodeId}
use Rattle.ua_types.specs.declared.status.Status.{Status}
use Rattle.ua_types.specs.declared.status.TheConstants.Status as status
use Rattle.ua_session.specs.Points.{PointsState}
use Rattle.ua_session.specs.Sessions.{SessionsState, Named, if_secret, named_by, named, without, ticked, ended_by, with_session, with_points, refused, is_full, found, find_of, activated, activate_of, closed, close_of, create_of}
use Rattle.ua_session.specs.Tokens.{parts_of}
use Rattle.ua_session.specs.declared.session.Session.{Session}
use Rattle.ua_session.specs.declared.sessions.Created.{Created}
use Rattle.server_laws.specs.Apart.{SessionsStay}

-- ---- steps of the sessions

-- no session has a number that wasn't given yet
abbrev pub IsFresh : SessionsState → Type 0
IsFresh s = (number : ℕ) → s.made < number → get s.sessions number ≡ None

-- nothing changes of any number but this one and those that are given
pub record Keeps (session : ℕ) (before after : SessionsState) : Type 0 where
  pub grows : before.made ≤ after.made
  pub sessions : (other : ℕ) → other ≢ session → (other ≤ before.made) ⊎ (after.made < other) → get after.sessions other ≡ get before.sessions other
  pub points : (other : ℕ) → other ≢ session → other ≤ before.made → get after.points other ≡ get before.points other

pub unchanged : (session : ℕ) (s : SessionsState) → Keeps session s s
unchanged session s = record { grows = omega arith; sessions = λ other apart given. refl; points = λ other apart given. refl }

-- a step leaves the others, and what it answers is so
pub record Leaves {A : Type 0} (P : A → Type 0) (session : ℕ) (s : SessionsState) (said : Step A Status SessionsState) : Type 0 where
  pub stay : Keeps session s said.state
  pub made : said.state.made ≡ s.made
  pub answer : IfOk said.answer P

module _ {A : Type 0} (P : A → Type 0) (session : ℕ) (s : SessionsState) where
  refused_leaves : (code : Status) → Leaves P session s (refused s code)
  refused_leaves code = record { stay = unchanged session s; made = refl; answer = tt }

  either_leaves : (b : Bool) (x y : Step A Status SessionsState) → Leaves P session s x → Leaves P session s y → Leaves P session s (cond b x y)
  either_leaves true x y p q = p
  either_leaves false x y p q = q

same_made : (s : SessionsState) → s.made ≤ s.made
same_made s = omega arith

-- its own is put into its place
put_stays : (session : ℕ) (s : SessionsState) (n : ℕ) → n ≡ session → (v : Session) → Keeps session s (with_session s n v)
put_stays session s n is v = record {
  grows = same_made s;
  sessions = λ other apart given. get_inserted_elsewhere s.sessions n v other (λ same. apart (same ∙ is));
  points = λ other apart given. refl;
}

abbrev Is : ℕ → ℕ → Type 0
Is session number = number ≡ session

found_leaves : (session : ℕ) (s : SessionsState) (conn : ℕ) (o : Option Named) → IfSome o (λ n. n.number ≡ session) → Leaves (Is session) session s (found s conn o)
found_leaves session s conn None h = refused_leaves (Is session) session s status.BAD_SESSION_ID_INVALID
found_leaves session s conn (Some n) h =
    either_leaves (Is session) session s (not (n.session.conn == conn)) _ _ (refused_leaves (Is session) session s status.BAD_SECURE_CHANNEL_ID_INVALID)
    (either_leaves (Is session) session s (not n.session.is_activated) _ _ (refused_leaves (Is session) session s status.BAD_SESSION_NOT_ACTIVATED)
    (record { stay = put_stays session s n.number h _; made = refl; answer = h }))

pub find_leaves : (session : ℕ) (s : SessionsState) (token : NodeId) (conn : ℕ) → IfSome (named s token) (λ n. n.number ≡ session) → Leaves (Is session) session s (find_of s token conn)
unfolding find_of
find_leaves session s token conn h = found_leaves session s conn (named s token) h

abbrev Any : List ℕ → Type 0
Any nonce = ⊤

activated_leaves : (session : ℕ) (s : SessionsState) (conn : ℕ) (key : List ℕ) (is_anonymous : Bool) (o : Option Named) → IfSome o (λ n. n.number ≡ session) → Leaves Any session s (activated s conn key is_anonymous o)
activated_leaves session s conn key is_anonymous None h = refused_leaves Any session s status.BAD_SESSION_ID_INVALID
activated_leaves session s conn key is_anonymous (Some n) h =
    either_leaves Any session s (not (n.session.conn == conn) && not n.session.is_activated) _ _ (refused_leaves Any session s status.BAD_SECURE_CHANNEL_ID_INVALID)
    (either_leaves Any session s (not is_anonymous) _ _ (refused_leaves Any session s status.BAD_IDENTITY_TOKEN_REJECTED)
    (record {
      stay = record {
        grows = same_made s;
        sessions = λ other apart given. get_inserted_elsewhere s.sessions n.number _ other (λ same. apart (same ∙ h));
        points = λ other apart given. refl;
      };
      made = refl;
      answer = tt;
    }))

pub activate_leaves : (session : ℕ) (s : SessionsState) (token : NodeId) (conn : ℕ) (key : List ℕ) (is_anonymous : Bool) → IfSome (named s token) (λ n. n.number ≡ session) →
    Leaves Any session s (activate_of s token conn key is_anonymous)
unfolding activate_of
activate_leaves session s token conn key is_anonymous h = activated_leaves session s conn key is_anonymous (named s token) h

closed_leaves : (session : ℕ) (s : SessionsState) (conn : ℕ) (o : Option Named) → IfSome o (λ n. n.number ≡ session) → Leaves (Is session) session s (closed s conn o)
closed_leaves session s conn None h = refused_leaves (Is session) session s status.BAD_SESSION_ID_INVALID
closed_leaves session s conn (Some n) h =
    either_leaves (Is session) session s (not (n.session.conn == conn)) _ _ (refused_leaves (Is session) session s status.BAD_SECURE_CHANNEL_ID_INVALID)
    (record {
      stay = record {
        grows = same_made s;
        sessions = λ other apart given. get_removed_elsewhere s.sessions n.number other (λ same. apart (same ∙ h));
        points = λ other apart given. get_removed_elsewhere s.points n.number other (λ same. apart (same ∙ h));
      };
      made = refl;
      answer = h;
    })

pub close_leaves : (session : ℕ) (s : SessionsState) (token : NodeId) (conn : ℕ) → IfSome (named s token) (λ n. n.number ≡ session) → Leaves (Is session) session s (close_of s token conn)
unfolding close_of
close_leaves session s token conn h = closed_leaves session s conn (named s token) h

-- a new session is no other that was made
pub create_stays : (session : ℕ) (s : SessionsState) (conn : ℕ) (key : List ℕ) → Keeps session s (create_of s conn key).state
unfolding create_of
create_stays session s conn key = by (is_full s) _ _ (unchanged session s) (record {
  grows = omega arith;
  sessions = λ other apart given. get_inserted_elsewhere s.sessions (s.made + 1) _ other (not_new other given);
  points = λ other apart given. get_removed_elsewhere s.points (s.made + 1) other (not_new other (inl given));
})
  where
    not_new : (other : ℕ) → (other ≤ s.made) ⊎ (s.made + 1 < other) → other ≢ s.made + 1
    not_new other (inl given) same = omega (arith, given, same)
    not_new other (inr above) same = omega (arith, above, same)

    by : (b : Bool) (x y : Step Created Status SessionsState) → Keeps session s x.state → Keeps session s y.state → Keeps session s (cond b x y).state
    by true x y p q = p
    by false x y p q = q

pub points_stay : (session : ℕ) (s : SessionsState) (points : PointsState) → Keeps session s (with_points s session points)
points_stay session s points = record {
  grows = same_made s;
  sessions = λ other apart given. refl;
  points = λ other apart given. get_inserted_elsewhere s.points session points other apart;
}

-- a step behind one that makes no session
pub stay_behind : (session : ℕ) (s mid after : SessionsState) → mid.made ≡ s.made → Keeps session s mid → Keeps session mid after → Keeps session s after
stay_behind session s mid after made p q = record {
  grows = omega (arith, p.grows, q.grows);
  sessions = λ other apart given. q.sessions other apart (to_mid other given) ∙ p.sessions other apart (from_mid other given);
  points = λ other apart given. q.points other apart (omega (arith, made, given)) ∙ p.points other apart given;
}
  where
    to_mid : (other : ℕ) → (other ≤ s.made) ⊎ (after.made < other) → (other ≤ mid.made) ⊎ (after.made < other)
    to_mid other (inl given) = inl (omega (arith, made, given))
    to_mid other (inr above) = inr above

    from_mid : (other : ℕ) → (other ≤ s.made) ⊎ (after.made < other) → (other ≤ s.made) ⊎ (mid.made < other)
    from_mid other (inl given) = inl given
    from_mid other (inr above) = let grew = q.grows in inr (omega (arith, grew, above))

-- ---- where no session has a number that wasn't given yet

-- a session that is there has a number that was given
there_given : (s : SessionsState) → IsFresh s → (number : ℕ) (v : Session) → get s.sessions number ≡ Some v → number ≤ s.made
there_given s fresh number v there = by (nat_le number s.made) refl
  where
    by : (b : Bool) → nat_le number s.made ≡ b → number ≤ s.made
    by true e = leb-true number s.made e
    by false e = absurd (none_some (sym (fresh number (leb-false number s.made e)) ∙ there))
      where
        none_some : None ≡ Some v → ⊥
        none_some h = absurd (cc)

pub sessions_stay : (session : ℕ) (before after : SessionsState) → IsFresh before → Keeps session before after → SessionsStay session before after
sessions_stay session before after fresh p = record {
  sessions = λ other v apart there. p.sessions other apart (inl (there_given before fresh other v there)) ∙ there;
  points = λ other v apart there. p.points other apart (there_given before fresh other v there);
  none_comes = λ other v apart there. by other v apart there (nat_le other before.made) refl;
}
  where
    by : (other : ℕ) (v : Session) → other ≢ session → get after.sessions other ≡ Some v → (b : Bool) → nat_le other before.made ≡ b → (get before.sessions other ≡ Some v) ⊎ (before.made < other)
    by other v apart there true e = inl (sym (p.sessions other apart (inl (leb-true other before.made e))) ∙ there)
    by other v apart there false e = inr (leb-false other before.made e)

-- the session that a token names is there
secret_there : (s : SessionsState) (secret : List ℕ) (number : ℕ) (o : Option Session) (n : Named) → get s.sessions number ≡ o → if_secret secret number o ≡ Some n → get s.sessions n.number ≡ Some n.session
secret_there s secret number None n found e = absurd (cc)
secret_there s secret number (Some v) n found e = by (bytes_eq secret v.secret) e
  where
    by : (b : Bool) → cond b (Some (record { number = number; session = v })) None ≡ Some n → get s.sessions n.number ≡ Some n.session
    by true is = let it : n ≡ record { number = number; session = v } = cc in subst (λ (m : Named). get s.sessions m.number ≡ Some m.session) (sym it) found
    by false is = absurd (cc)

pub parts_there : (s : SessionsState) (parts : Option (List ℕ × ℕ)) (n : Named) → named_by s parts ≡ Some n → get s.sessions n.number ≡ Some n.session
parts_there s None n e = absurd (cc)
parts_there s (Some parts) n e = secret_there s parts.0 parts.1 (get s.sessions parts.1) n refl e

pub named_given : (s : SessionsState) (token : NodeId) (n : Named) → IsFresh s → named s token ≡ Some n → n.number ≤ s.made
named_given s token n fresh e = there_given s fresh n.number n.session (parts_there s (parts_of token) n e)

-- a step that keeps all but a session that was made leaves it so
pub fresh_after : (session : ℕ) (before after : SessionsState) → session ≤ before.made → IsFresh before → Keeps session before after → IsFresh after
fresh_after session before after given fresh p number above =
    let grew = p.grows in
    p.sessions number (λ same. omega (arith, given, grew, above, same)) (inr above) ∙ fresh number (omega (arith, grew, above))

-- sessions that end leave it so
without_none : {V : Type 0} (numbers : List ℕ) (m : FinMap nat_cmp V) (n : ℕ) → get m n ≡ None → get (without m numbers) n ≡ None
without_none [] m n e = e
without_none {V = V} (k ∷ ks) m n e = without_none ks (remove m k) n (get-remove nat_cmp_total m k n ∙ gone (eq_by_cmp nat_cmp n k) (get m n) e)
  where
    gone : (b : Bool) (o : Option V) → o ≡ None → cond b None o ≡ None
    gone true o h = refl
    gone false o h = h

pub ticked_fresh : (s : SessionsState) (now : Moment) → IsFresh s → IsFresh (ticked s now)
ticked_fresh s now fresh number above = without_none (ended_by s now) s.sessions number (fresh number above)
