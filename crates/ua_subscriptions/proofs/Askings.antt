-- Requests of sessions, and the connections by which they came.
use Rattle.std.proofs.Common.{◌≡◌, ◌≢◌, ℕ, ◌&&◌, Bool, true, false, cond, List, [], ◌∷◌, Option, Some, None, unwrap_or, refl, sym, ap, subst, ◌∙◌, arith}
use Rattle.std.proofs.lemmas.Bool.{false≢true}
use Rattle.std.specs.Prelude.{map, filter}
use Rattle.std.specs.List.Sorted.{IsStrictlySortedBy}
use Rattle.std.specs.BTreeMap.{is_at}
use Rattle.std.specs.Map.{lookup, keys_of, set_value}
use Rattle.std.specs.Ordering.{nat_cmp, is_eq, ordering_then}
use Rattle.std.specs.declared.cmp.Ordering.{Ordering}
use Rattle.std.specs.declared.cmp.Ordering.TheVariants.{Less, Equal, Greater}
use Rattle.collections.proofs.NumberMaps.{same_number, numbers_same}
use Rattle.ua_subscriptions.specs.declared.askers.Asker.{Asker}
use Rattle.ua_subscriptions.specs.declared.publish_call.PublishCall.{PublishCall}
use Rattle.ua_subscriptions.specs.declared.session_part.SessionSubscriptions.{SessionSubscriptions}
use Rattle.ua_subscriptions.specs.Askers.{asker_at, asker_cmp, has_asker, AreAsked}
use Rattle.ua_subscriptions.specs.Ending.{came_by_other, part_without_conn, entry_without_conn}
use Rattle.ua_subscriptions.specs.Owing.{AllBy}
use Rattle.ua_subscriptions.specs.Subscriptions.{no_part}
use Rattle.ua_subscriptions.specs.Tables.{part_at}
use Rattle.ua_subscriptions.proofs.MapEntries.{set_elsewhere, AreFound, all_found}
use Rattle.ua_subscriptions.proofs.Meetings.{set_absent}

abbrev Sessions : Type 0
Sessions = List (ℕ × SessionSubscriptions)

abbrev pub StandsWith : List Asker → ℕ → ℕ → Type 0
StandsWith askers session conn = has_asker askers (asker_at conn session) ≡ true

-- ---- requests of which something holds

pub all_weaker : (P Q : ℕ → Type 0) → ((conn : ℕ) → P conn → Q conn) → (calls : List PublishCall) → AllBy P calls → AllBy Q calls
all_weaker P Q f [] h = tt
all_weaker P Q f (call ∷ calls) h = (f call.origin.conn h.0, all_weaker P Q f calls h.1)

-- one session has other requests, and the others stand with their connections
pub asked_by : (k : ℕ) (o : Option SessionSubscriptions) (sessions after : Sessions) (askers : List Asker)
    → ((n : ℕ) → lookup (is_at (nat_cmp n)) after ≡ cond (is_at (nat_cmp k) n) o (lookup (is_at (nat_cmp n)) sessions))
    → ((n : ℕ) → is_at (nat_cmp k) n ≡ false → AllBy (StandsWith askers n) (part_at n sessions).requests)
    → AllBy (StandsWith askers k) (unwrap_or o no_part).requests → AreAsked after askers
asked_by k o sessions after askers now others own = λ n. by n (is_at (nat_cmp k) n) refl
  where
    by : (n : ℕ) (b : Bool) → is_at (nat_cmp k) n ≡ b → AllBy (StandsWith askers n) (part_at n after).requests
    by n true at =
        let it : lookup (is_at (nat_cmp n)) after ≡ o = now n ∙ ap (λ (x : Bool). cond x o (lookup (is_at (nat_cmp n)) sessions)) at in
        subst (λ (x : Option SessionSubscriptions). AllBy (StandsWith askers n) (unwrap_or x no_part).requests) (sym it)
        (subst (λ (m : ℕ). AllBy (StandsWith askers m) (unwrap_or o no_part).requests) (same_number k n at) own)
    by n false at =
        let it : lookup (is_at (nat_cmp n)) after ≡ lookup (is_at (nat_cmp n)) sessions = now n ∙ ap (λ (x : Bool). cond x o (lookup (is_at (nat_cmp n)) sessions)) at in
        subst (λ (x : Option SessionSubscriptions). AllBy (StandsWith askers n) (unwrap_or x no_part).requests) (sym it) (others n at)

-- ---- a connection that is gone

module _ (conn : ℕ) where
  without_by : (call : PublishCall) (calls : List PublishCall) (b : Bool) → came_by_other conn call ≡ b → filter (came_by_other conn) (filter (came_by_other conn) calls) ≡ filter (came_by_other conn) calls
      → filter (came_by_other conn) (cond b (call ∷ filter (came_by_other conn) calls) (filter (came_by_other conn) calls)) ≡ cond b (call ∷ filter (came_by_other conn) calls) (filter (came_by_other conn) calls)
  without_by call calls true is rest = rw is (ap (λ (xs : List PublishCall). call ∷ xs) rest)
  without_by call calls false is rest = rest

  twice : (calls : List PublishCall) → filter (came_by_other conn) (filter (came_by_other conn) calls) ≡ filter (came_by_other conn) calls
  twice [] = refl
  twice (call ∷ calls) = without_by call calls (came_by_other conn call) refl (twice calls)

  same_part : (part : SessionSubscriptions) → part_without_conn conn (part_without_conn conn part) ≡ part_without_conn conn part
  same_part part = ap (λ (calls : List PublishCall). record part { requests = calls }) (twice part.requests)

  -- the requests of one session that came by it go: the others that do go all the same
  set_by : (test : ℕ → Bool) (v : SessionSubscriptions) (e : ℕ × SessionSubscriptions) (es rest : Sessions) (o : Option SessionSubscriptions) (b : Bool) → cond b (Some e.1) o ≡ Some v
      → (o ≡ Some v → map (entry_without_conn conn) rest ≡ map (entry_without_conn conn) es)
      → map (entry_without_conn conn) (cond b ((e.0, part_without_conn conn v) ∷ es) (e ∷ rest)) ≡ map (entry_without_conn conn) (e ∷ es)
  set_by test v e es rest o true found more =
      let it : e.1 ≡ v = cc in
      ap (λ (p : SessionSubscriptions). (e.0, p) ∷ map (entry_without_conn conn) es) (same_part v ∙ ap (part_without_conn conn) (sym it))
  set_by test v e es rest o false found more = ap (λ (xs : Sessions). entry_without_conn conn e ∷ xs) (more found)

  set_found : (test : ℕ → Bool) (v : SessionSubscriptions) (es : Sessions) → lookup test es ≡ Some v → map (entry_without_conn conn) (set_value test es (part_without_conn conn v)) ≡ map (entry_without_conn conn) es
  set_found test v [] found = absurd (cc)
  set_found test v (e ∷ es) found = set_by test v e es (set_value test es (part_without_conn conn v)) (lookup test es) (test e.0) found (λ there. set_found test v es there)

  pub one_forgotten : (k : ℕ) (es : Sessions) → map (entry_without_conn conn) (set_value (is_at (nat_cmp k)) es (part_without_conn conn (part_at k es))) ≡ map (entry_without_conn conn) es
  one_forgotten k es = by (lookup (is_at (nat_cmp k)) es) refl
    where
      by : (o : Option SessionSubscriptions) → lookup (is_at (nat_cmp k)) es ≡ o → map (entry_without_conn conn) (set_value (is_at (nat_cmp k)) es (part_without_conn conn (unwrap_or o no_part))) ≡ map (entry_without_conn conn) es
      by None is = ap (map (entry_without_conn conn)) (set_absent (is_at (nat_cmp k)) es (part_without_conn conn no_part) is)
      by (Some v) is = set_found (is_at (nat_cmp k)) v es is

  -- ---- the connections that stand there yet

  apart_parts : (s : ℕ) (q : Asker) → is_at (asker_cmp (asker_at conn s)) q ≡ (is_at (nat_cmp conn) q.conn && is_at (nat_cmp s) q.session)
  apart_parts s q = by (nat_cmp s q.session)
    where
      by : (o : Ordering) → is_eq (ordering_then (nat_cmp conn q.conn) o) ≡ (is_at (nat_cmp conn) q.conn && is_eq o)
      by Less = grind arith
      by Equal = grind arith
      by Greater = grind arith

  module _ (s : ℕ) (askers left : List Asker) (taken : (q : Asker) → has_asker left q ≡ cond (is_at (asker_cmp (asker_at conn s)) q) false (has_asker askers q)) where
    stays_by : (q : Asker) → (is_at (nat_cmp conn) q.conn && is_at (nat_cmp s) q.session) ≡ false → has_asker left q ≡ has_asker askers q
    stays_by q apart = taken q ∙ ap (λ (b : Bool). cond b false (has_asker askers q)) (apart_parts s q ∙ apart)

    elsewhere : (n : ℕ) → is_at (nat_cmp s) n ≡ false → (c : ℕ) → StandsWith askers n c → StandsWith left n c
    elsewhere n apart c h = stays_by (asker_at c n) (ap (λ (b : Bool). is_at (nat_cmp conn) c && b) apart ∙ none (is_at (nat_cmp conn) c)) ∙ h
      where
        none : (b : Bool) → (b && false) ≡ false
        none true = refl
        none false = refl

    kept_by : (call : PublishCall) (calls : List PublishCall) (b : Bool) → came_by_other conn call ≡ b → StandsWith askers s call.origin.conn → AllBy (StandsWith left s) (filter (came_by_other conn) calls)
        → AllBy (StandsWith left s) (cond b (call ∷ filter (came_by_other conn) calls) (filter (came_by_other conn) calls))
    kept_by call calls true is h rest =
        let apart : is_at (nat_cmp conn) call.origin.conn ≡ false = grind (arith, is) in
        (stays_by (asker_at call.origin.conn s) (ap (λ (b : Bool). b && is_at (nat_cmp s) s) apart) ∙ h, rest)
    kept_by call calls false is h rest = rest

    kept_asked : (calls : List PublishCall) → AllBy (StandsWith askers s) calls → AllBy (StandsWith left s) (filter (came_by_other conn) calls)
    kept_asked [] h = tt
    kept_asked (call ∷ calls) h = kept_by call calls (came_by_other conn call) refl h.0 (kept_asked calls h.1)

    set_at : (w : SessionSubscriptions) → AllBy (StandsWith left s) w.requests → (es : Sessions) → AllBy (StandsWith left s) (part_at s (set_value (is_at (nat_cmp s)) es w)).requests
    set_at w own [] = tt
    set_at w own (e ∷ es) = by (is_at (nat_cmp s) e.0) refl (set_at w own es)
      where
        by : (b : Bool) → is_at (nat_cmp s) e.0 ≡ b → AllBy (StandsWith left s) (part_at s (set_value (is_at (nat_cmp s)) es w)).requests
            → AllBy (StandsWith left s) (part_at s (cond b ((e.0, w) ∷ es) (e ∷ set_value (is_at (nat_cmp s)) es w))).requests
        by true is rest = rw is own
        by false is rest = rw is rest

    pub step_asked : (es : Sessions) → AreAsked es askers → AreAsked (set_value (is_at (nat_cmp s)) es (part_without_conn conn (part_at s es))) left
    step_asked es asked = λ n. by n (is_at (nat_cmp s) n) refl
      where
        by : (n : ℕ) (b : Bool) → is_at (nat_cmp s) n ≡ b → AllBy (StandsWith left n) (part_at n (set_value (is_at (nat_cmp s)) es (part_without_conn conn (part_at s es)))).requests
        by n true at =
            subst (λ (m : ℕ). AllBy (StandsWith left m) (part_at m (set_value (is_at (nat_cmp s)) es (part_without_conn conn (part_at s es)))).requests) (same_number s n at)
            (set_at (part_without_conn conn (part_at s es)) (kept_asked (part_at s es).requests (asked s)) es)
        by n false at =
            let other_number : n ≢ s = λ e. false≢true (sym at ∙ numbers_same s n (sym e)) in
            subst (λ (o : Option SessionSubscriptions). AllBy (StandsWith left n) (unwrap_or o no_part).requests) (sym (set_elsewhere s n other_number es (part_without_conn conn (part_at s es))))
            (all_weaker (StandsWith askers n) (StandsWith left n) (elsewhere n at) (part_at n es).requests (asked n))

  -- ---- where it stands there no more

  module _ (askers : List Asker) (none : (s : ℕ) → has_asker askers (asker_at conn s) ≡ false) where
    whole : (k : ℕ) (calls : List PublishCall) → AllBy (StandsWith askers k) calls → filter (came_by_other conn) calls ≡ calls
    whole k [] h = refl
    whole k (call ∷ calls) h = by (came_by_other conn call) refl (whole k calls h.1)
      where
        by : (b : Bool) → came_by_other conn call ≡ b → filter (came_by_other conn) calls ≡ calls → cond b (call ∷ filter (came_by_other conn) calls) (filter (came_by_other conn) calls) ≡ call ∷ calls
        by true is rest = ap (λ (xs : List PublishCall). call ∷ xs) rest
        by false is rest =
            let it : call.origin.conn ≡ conn = grind (arith, is) in
            absurd (false≢true (sym (none k) ∙ subst (λ (c : ℕ). has_asker askers (asker_at c k) ≡ true) it h.0))

    none_by : (all es : Sessions) → AreAsked all askers → AreFound all es → es ≡ map (entry_without_conn conn) es
    none_by all [] asked found = refl
    none_by all (e ∷ es) asked found =
        let own : AllBy (StandsWith askers e.0) e.1.requests = subst (λ (o : Option SessionSubscriptions). AllBy (StandsWith askers e.0) (unwrap_or o no_part).requests) found.0 (asked e.0) in
        let same : e.1 ≡ part_without_conn conn e.1 = ap (λ (calls : List PublishCall). let part : SessionSubscriptions = e.1 in record part { requests = calls }) (sym (whole e.0 e.1.requests own)) in
        ap (λ (p : SessionSubscriptions). (e.0, p) ∷ es) same ∙ ap (λ (xs : Sessions). entry_without_conn conn e ∷ xs) (none_by all es asked found.1)

    pub none_left : (es : Sessions) → IsStrictlySortedBy nat_cmp (keys_of es) → AreAsked es askers → es ≡ map (entry_without_conn conn) es
    none_left es rising asked = none_by es es asked (all_found es rising)

-- the keys stay
pub keys_stay : (test : ℕ → Bool) (es : Sessions) (w : SessionSubscriptions) → keys_of (set_value test es w) ≡ keys_of es
keys_stay test [] w = refl
keys_stay test (e ∷ es) w = by (test e.0) (keys_stay test es w)
  where
    by : (b : Bool) → keys_of (set_value test es w) ≡ keys_of es → keys_of (cond b ((e.0, w) ∷ es) (e ∷ set_value test es w)) ≡ keys_of (e ∷ es)
    by true rest = refl
    by false rest = ap (λ (ks : List ℕ). e.0 ∷ ks) rest

-- ---- as the code changes them

-- the requests of one session are others
set_anywhere : (k n : ℕ) (v w : SessionSubscriptions) (es : Sessions) → lookup (is_at (nat_cmp k)) es ≡ Some v
    → lookup (is_at (nat_cmp n)) (set_value (is_at (nat_cmp k)) es w) ≡ cond (is_at (nat_cmp k) n) (Some w) (lookup (is_at (nat_cmp n)) es)
set_anywhere k n v w es found = by (is_at (nat_cmp k) n) refl
  where
    here : (fs : Sessions) → lookup (is_at (nat_cmp k)) fs ≡ Some v → lookup (is_at (nat_cmp k)) (set_value (is_at (nat_cmp k)) fs w) ≡ Some w
    here [] h = absurd (cc)
    here (e ∷ fs) h = at (is_at (nat_cmp k) e.0) refl h (here fs)
      where
        at : (b : Bool) → is_at (nat_cmp k) e.0 ≡ b → cond b (Some e.1) (lookup (is_at (nat_cmp k)) fs) ≡ Some v
            → (lookup (is_at (nat_cmp k)) fs ≡ Some v → lookup (is_at (nat_cmp k)) (set_value (is_at (nat_cmp k)) fs w) ≡ Some w)
            → lookup (is_at (nat_cmp k)) (cond b ((e.0, w) ∷ fs) (e ∷ set_value (is_at (nat_cmp k)) fs w)) ≡ Some w
        at true is h rest = rw is refl
        at false is h rest = rw is (rest h)

    by : (b : Bool) → is_at (nat_cmp k) n ≡ b → lookup (is_at (nat_cmp n)) (set_value (is_at (nat_cmp k)) es w) ≡ cond b (Some w) (lookup (is_at (nat_cmp n)) es)
    by true is = subst (λ (m : ℕ). lookup (is_at (nat_cmp m)) (set_value (is_at (nat_cmp k)) es w) ≡ Some w) (same_number k n is) (here es found)
    by false is = set_elsewhere k n (λ e. false≢true (sym is ∙ numbers_same k n (sym e))) es w

pub row_asked : (k : ℕ) (v w : SessionSubscriptions) (es after : Sessions) (askers more : List Asker) → lookup (is_at (nat_cmp k)) es ≡ Some v → after ≡ set_value (is_at (nat_cmp k)) es w
    → AreAsked es askers → ((q : Asker) → has_asker askers q ≡ true → has_asker more q ≡ true) → AllBy (StandsWith more k) w.requests → AreAsked after more
row_asked k v w es after askers more found set asked grows own =
    asked_by k (Some w) es after more (λ n. ap (lookup (is_at (nat_cmp n))) set ∙ set_anywhere k n v w es found)
    (λ n apart. all_weaker (StandsWith askers n) (StandsWith more n) (λ conn. grows (asker_at conn n)) (part_at n es).requests (asked n)) own

pub own_asked : (k : ℕ) (v : SessionSubscriptions) (es : Sessions) (askers : List Asker) → lookup (is_at (nat_cmp k)) es ≡ Some v → AreAsked es askers → AllBy (StandsWith askers k) v.requests
own_asked k v es askers found asked = subst (λ (o : Option SessionSubscriptions). AllBy (StandsWith askers k) (unwrap_or o no_part).requests) found (asked k)

-- a session is taken out
pub out_asked : (k : ℕ) (es after : Sessions) (askers more : List Asker) → ((n : ℕ) → lookup (is_at (nat_cmp n)) after ≡ cond (is_at (nat_cmp k) n) None (lookup (is_at (nat_cmp n)) es))
    → AreAsked es askers → ((q : Asker) → is_at (nat_cmp k) q.session ≡ false → has_asker askers q ≡ true → has_asker more q ≡ true) → AreAsked after more
out_asked k es after askers more gone asked grows =
    asked_by k None es after more gone
    (λ n apart. all_weaker (StandsWith askers n) (StandsWith more n) (λ conn. grows (asker_at conn n) apart) (part_at n es).requests (asked n)) tt

-- and put in
pub in_asked : (k : ℕ) (w : SessionSubscriptions) (es after : Sessions) (askers : List Asker) → ((n : ℕ) → lookup (is_at (nat_cmp n)) after ≡ cond (is_at (nat_cmp k) n) (Some w) (lookup (is_at (nat_cmp n)) es))
    → AreAsked es askers → AllBy (StandsWith askers k) w.requests → AreAsked after askers
in_asked k w es after askers put asked own = asked_by k (Some w) es after askers put (λ n apart. asked n) own
