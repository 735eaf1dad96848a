-- What decided the fate of a value: the first call, or the first thing done with its queue, after which it has one.
use Rattle.std.proofs.Common.{◌≡◌, ◌⊎◌, inl, inr, ℕ, zero, suc, ◌≤◌, ◌-◌, Bool, true, false, cond, List, [], ◌∷◌, ◌++◌, drop, length, fold, Option, Some, None, is_some, refl, sym, subst, ap, ◌∙◌, append_assoc, append-nil, arith}
use Rattle.std.specs.Prelude.{⊤, not, nat_lt}
use Rattle.std.proofs.lemmas.Bool.{false≢true, not-true, not-false, ltb-true, ltb-false}
use Rattle.std.proofs.lemmas.List.Sums.{fold-append}
use Rattle.ua_types.specs.Configuration.{Configuration}
use Rattle.ua_types.specs.declared.data_value.DataValue.{DataValue}
use Rattle.ua_item_queue.specs.Causes.{GetsOnly, may_give}
use Rattle.ua_item_queue.specs.Fates.{Fate, AccountEntry, IsKept, GoesOn, NewLossesAreMarked, account, account_after, accounted, any_marked, is_first_marked, entered, first_get, first_marked, is_waiting, is_lost, others_get, settled, waiting, with_fate}
use Rattle.ua_item_queue.specs.Fates.Fate.{Waits, WasSent, WasLost, WasCleared}
use Rattle.ua_item_queue.specs.ItemQueue.{QueueMove, entry}
use Rattle.ua_item_queue.specs.ItemQueue.QueueChange.{Queued, FrontDropped, NewestReplaced, OnlyReplaced}
use Rattle.ua_item_queue.specs.ItemQueue.QueueMove.{Sample, Send, Clear, Resize}
use Rattle.ua_item_queue.specs.Marks.{fate_at, is_uncleared}
use Rattle.ua_monitored_items.specs.Causes.{call_may_give}
use Rattle.ua_monitored_items.specs.Moves as item_moves
use Rattle.ua_monitored_items.specs.Moves.{account_of}
use Rattle.ua_monitored_items.proofs.Causing.{fates_have_their_causes}
use Rattle.ua_monitored_items.proofs.Runs.{fates_are_final}
use Rattle.subscription_laws.proofs.Entries.{some_same}
use Rattle.subscription_laws.proofs.ValueFates.{have_their_causes, each_loss_is_marked, marks_what_follows, stays}
use Rattle.server_laws.specs.Reaching.{is_decided, IsCausedBy, IsDrivenOut}

-- ---- the first step after which something holds

record Turn {A : Type 0} (P : List A → Bool) (all : List A) : Type 0 where
  before : List A
  step : A
  after : List A
  split : all ≡ before ++ step ∷ after
  not_yet : P before ≡ false
  then : P (before ++ step ∷ []) ≡ true

module _ {A : Type 0} (P : List A → Bool) where
  turn : (passed left : List A) → P passed ≡ false → P (passed ++ left) ≡ true → Turn P (passed ++ left)
  turn passed [] not_yet holds = absurd (false≢true (sym not_yet ∙ ap P (sym (append-nil passed)) ∙ holds))
  turn passed (x ∷ xs) not_yet holds = by (P (passed ++ x ∷ [])) refl (λ is. turn (passed ++ x ∷ []) xs is (ap P joined ∙ holds))
    where
      joined : (passed ++ x ∷ []) ++ xs ≡ passed ++ x ∷ xs
      joined = append_assoc passed (x ∷ []) xs

      by : (b : Bool) → P (passed ++ x ∷ []) ≡ b → (P (passed ++ x ∷ []) ≡ false → Turn P ((passed ++ x ∷ []) ++ xs)) → Turn P (passed ++ x ∷ xs)
      by true is rest = record { before = passed; step = x; after = xs; split = refl; not_yet = not_yet; then = is }
      by false is rest = subst (Turn P) joined (rest is)

-- ---- a place of an account

no_fate : (f : Fate) → None ≡ Some f → ⊥
no_fate f e = false≢true (ap is_some e)

uncleared : (f : Fate) → (f ≡ WasCleared → ⊥) → is_uncleared f ≡ true
uncleared Waits never = refl
uncleared WasSent never = refl
uncleared WasLost never = refl
uncleared WasCleared never = absurd (never refl)

module _ {V : Type 0} where
  -- where what is cleared was cleared before, nothing becomes cleared
  gets_others : (ts us : List (AccountEntry V)) → GoesOn ts us → ((other : ℕ) → fate_at other us ≡ Some WasCleared → fate_at other ts ≡ Some WasCleared) → GetsOnly is_uncleared ts us
  gets_others [] [] goes same = tt
  gets_others [] (u ∷ us) goes same = ((λ final. uncleared u.fate (λ is. no_fate WasCleared (same 0 (ap Some is)))), gets_others [] us tt (λ other is. same (suc other) is))
  gets_others (t ∷ ts) [] goes same = absurd goes
  gets_others (t ∷ ts) (u ∷ us) goes same = (
    (λ waits final. uncleared u.fate (λ is. false≢true (sym (ap is_waiting (some_same (same 0 (ap Some is)))) ∙ waits))),
    gets_others ts us goes.1 (λ other is. same (suc other) is),
  )

  -- what is decided at a place stays
  stays_decided : (place : ℕ) (ts us : List (AccountEntry V)) (fate : Fate) → GoesOn ts us → fate_at place ts ≡ Some fate → is_waiting fate ≡ false → fate_at place us ≡ Some fate
  stays_decided place [] us fate goes is w = absurd (no_fate fate is)
  stays_decided place (t ∷ ts) [] fate goes is w = absurd goes
  stays_decided zero (t ∷ ts) (u ∷ us) fate goes is w =
      let same = some_same is in
      let kept : IsKept t u = goes.0 in
      ap Some (kept.last_fate (ap is_waiting same ∙ w) ∙ same)
  stays_decided (suc place) (t ∷ ts) (u ∷ us) fate goes is w = stays_decided place ts us fate goes.1 is w

  -- a fate that is new at a place is one that may be given
  is_given : (may : Fate → Bool) (place : ℕ) (ts us : List (AccountEntry V)) (fate : Fate) → GetsOnly may ts us → is_decided (fate_at place ts) ≡ false → fate_at place us ≡ Some fate → is_waiting fate ≡ false → may fate ≡ true
  is_given may place [] [] fate gets before is w = absurd (no_fate fate is)
  is_given may zero [] (u ∷ us) fate gets before is w = let same = some_same is in ap may (sym same) ∙ gets.0 (ap is_waiting same ∙ w)
  is_given may (suc place) [] (u ∷ us) fate gets before is w = is_given may place [] us fate gets.1 refl is w
  is_given may place (t ∷ ts) [] fate gets before is w = absurd gets
  is_given may zero (t ∷ ts) (u ∷ us) fate gets before is w =
      let same = some_same is in ap may (sym same) ∙ gets.0 (not-false (is_waiting t.fate) before) (ap is_waiting same ∙ w)
  is_given may (suc place) (t ∷ ts) (u ∷ us) fate gets before is w = is_given may place ts us fate gets.1 before is w

  -- behind one that waited and is lost, a marked one waits
  marked_behind : (place : ℕ) (ts us : List (AccountEntry V)) → NewLossesAreMarked ts us → fate_at place ts ≡ Some Waits → fate_at place us ≡ Some WasLost → any_marked (drop (suc place) us) ≡ true
  marked_behind place [] us marks waits lost = absurd (no_fate Waits waits)
  marked_behind place (t ∷ ts) [] marks waits lost = absurd marks
  marked_behind zero (t ∷ ts) (u ∷ us) marks waits lost =
      marks.0 (ap is_waiting (some_same waits)) (ap is_lost (some_same lost))
  marked_behind (suc place) (t ∷ ts) (u ∷ us) marks waits lost = marked_behind place ts us marks.1 waits lost

  -- ---- a value that comes in waits

  abbrev AllWait : List (AccountEntry V) → Type 0
  AllWait [] = ⊤
  AllWait (u ∷ us) = (is_waiting u.fate ≡ true) × AllWait us

  abbrev NewOnesWait : List (AccountEntry V) → List (AccountEntry V) → Type 0
  NewOnesWait [] us = AllWait us
  NewOnesWait (t ∷ ts) [] = ⊥
  NewOnesWait (t ∷ ts) (u ∷ us) = NewOnesWait ts us

  new_one_waits : (place : ℕ) (ts us : List (AccountEntry V)) (fate : Fate) → NewOnesWait ts us → fate_at place ts ≡ None → fate_at place us ≡ Some fate → is_waiting fate ≡ true
  new_one_waits place [] [] fate new none is = absurd (no_fate fate is)
  new_one_waits zero [] (u ∷ us) fate new none is = ap is_waiting (sym (some_same is)) ∙ new.0
  new_one_waits (suc place) [] (u ∷ us) fate new none is = new_one_waits place [] us fate new.1 refl is
  new_one_waits place (t ∷ ts) [] fate new none is = absurd new
  new_one_waits zero (t ∷ ts) (u ∷ us) fate new none is = absurd (no_fate t.fate (sym none))
  new_one_waits (suc place) (t ∷ ts) (u ∷ us) fate new none is = new_one_waits place ts us fate new none is

  appended : (ts : List (AccountEntry V)) (v : V) (marked : Bool) → NewOnesWait ts (ts ++ entered v marked ∷ [])
  appended [] v marked = (refl, tt)
  appended (t ∷ ts) v marked = appended ts v marked

  marked_too : (ts us : List (AccountEntry V)) → NewOnesWait ts us → NewOnesWait ts (first_marked us)
  marked_too [] [] new = tt
  marked_too [] (u ∷ us) new = by (is_waiting u.fate) refl
    where
      by : (b : Bool) → is_waiting u.fate ≡ b → AllWait (cond b (record u { marked = true } ∷ us) (u ∷ first_marked us))
      by true e = (new.0, new.1)
      by false e = absurd (false≢true (sym e ∙ new.0))
  marked_too (t ∷ ts) [] new = absurd new
  marked_too (t ∷ ts) (u ∷ us) new = by (is_waiting u.fate) (marked_too ts us new)
    where
      by : (b : Bool) → NewOnesWait ts (first_marked us) → NewOnesWait (t ∷ ts) (cond b (record u { marked = true } ∷ us) (u ∷ first_marked us))
      by true rest = new
      by false rest = rest

  settled_too : (ts us : List (AccountEntry V)) → NewOnesWait ts us → NewOnesWait ts (settled us)
  settled_too [] [] new = tt
  settled_too [] (u ∷ us) new = (new.0, settled_too [] us new.1)
  settled_too (t ∷ ts) [] new = absurd new
  settled_too (t ∷ ts) (u ∷ us) new = settled_too ts us new

  got_none : (f : Fate) (ts : List (AccountEntry V)) → first_get f 0 ts ≡ ts
  got_none f [] = refl
  got_none f (t ∷ ts) = refl

  -- the oldest that waits is lost, which is none that comes in
  oldest_lost : (ts : List (AccountEntry V)) (v : V) (marked : Bool) → 1 ≤ length (waiting ts) → NewOnesWait ts (first_get WasLost 1 (ts ++ entered v marked ∷ []))
  oldest_lost [] v marked some = absurd (omega (arith, some))
  oldest_lost (t ∷ ts) v marked some = by (is_waiting t.fate) some (λ more. oldest_lost ts v marked more)
    where
      by : (b : Bool) → 1 ≤ length (cond b (entry t.value t.marked ∷ waiting ts) (waiting ts)) → (1 ≤ length (waiting ts) → NewOnesWait ts (first_get WasLost 1 (ts ++ entered v marked ∷ []))) →
          NewOnesWait (t ∷ ts) (cond b (with_fate WasLost t ∷ first_get WasLost 0 (ts ++ entered v marked ∷ [])) (t ∷ first_get WasLost 1 (ts ++ entered v marked ∷ [])))
      by true some rest = subst (NewOnesWait ts) (sym (got_none WasLost (ts ++ entered v marked ∷ []))) (appended ts v marked)
      by false some rest = rest some

  others_lost : (n : ℕ) (ts : List (AccountEntry V)) (v : V) (marked : Bool) → NewOnesWait ts (others_get WasLost n ts ++ entered v marked ∷ [])
  others_lost n [] v marked = (refl, tt)
  others_lost zero (t ∷ ts) v marked = by (is_waiting t.fate) (others_lost zero ts v marked)
    where
      by : (b : Bool) → NewOnesWait ts (others_get WasLost zero ts ++ entered v marked ∷ []) → NewOnesWait (t ∷ ts) (cond b (with_fate WasLost t ∷ others_get WasLost zero ts) (t ∷ others_get WasLost zero ts) ++ entered v marked ∷ [])
      by true rest = rest
      by false rest = rest
  others_lost (suc n) (t ∷ ts) v marked = by (is_waiting t.fate) (others_lost n ts v marked) (others_lost (suc n) ts v marked)
    where
      by : (b : Bool) → NewOnesWait ts (others_get WasLost n ts ++ entered v marked ∷ []) → NewOnesWait ts (others_get WasLost (suc n) ts ++ entered v marked ∷ []) → NewOnesWait (t ∷ ts) (cond b (t ∷ others_get WasLost n ts) (t ∷ others_get WasLost (suc n) ts) ++ entered v marked ∷ [])
      by true first rest = first
      by false first rest = rest

  all_settled : (n : ℕ) (ts : List (AccountEntry V)) (v : V) (marked : Bool) → NewOnesWait ts (settled (others_get WasLost n ts) ++ entered v marked ∷ [])
  all_settled n [] v marked = (refl, tt)
  all_settled zero (t ∷ ts) v marked = by (is_waiting t.fate) (all_settled zero ts v marked)
    where
      by : (b : Bool) → NewOnesWait ts (settled (others_get WasLost zero ts) ++ entered v marked ∷ []) → NewOnesWait (t ∷ ts) (settled (cond b (with_fate WasLost t ∷ others_get WasLost zero ts) (t ∷ others_get WasLost zero ts)) ++ entered v marked ∷ [])
      by true rest = rest
      by false rest = rest
  all_settled (suc n) (t ∷ ts) v marked = by (is_waiting t.fate) (all_settled n ts v marked) (all_settled (suc n) ts v marked)
    where
      by : (b : Bool) → NewOnesWait ts (settled (others_get WasLost n ts) ++ entered v marked ∷ []) → NewOnesWait ts (settled (others_get WasLost (suc n) ts) ++ entered v marked ∷ []) → NewOnesWait (t ∷ ts) (settled (cond b (t ∷ others_get WasLost n ts) (t ∷ others_get WasLost (suc n) ts)) ++ entered v marked ∷ [])
      by true first rest = first
      by false first rest = rest

  come_in : (ts : List (AccountEntry V)) (size : ℕ) (discard_oldest : Bool) (v : V) → NewOnesWait ts (account_after ts (Sample size discard_oldest v))
  come_in ts size discard_oldest v = by (nat_lt (length (waiting ts)) size) (nat_lt 1 size) discard_oldest refl refl
    where
      by : (room more oldest : Bool) → nat_lt (length (waiting ts)) size ≡ room → nat_lt 1 size ≡ more →
          NewOnesWait ts (fold accounted ts (cond room (Queued v ∷ []) (cond more (cond oldest (Queued v ∷ FrontDropped ∷ []) (NewestReplaced v ∷ [])) (OnlyReplaced v ∷ []))))
      by true more oldest x y = appended ts v false
      by false true true x y = let full = ltb-false (length (waiting ts)) size x in let large = ltb-true 1 size y in
          marked_too ts (first_get WasLost 1 (ts ++ entered v false ∷ [])) (oldest_lost ts v false (omega (arith, full, large)))
      by false true false x y = others_lost (length (waiting ts) - 1) ts v true
      by false false oldest x y = all_settled 0 ts v false

-- ---- which call

-- what is decided has a fate
record HasFate (o : Option Fate) : Type 0 where
  fate : Fate
  is : o ≡ Some fate
  final : is_waiting fate ≡ false

has_fate : (o : Option Fate) → is_decided o ≡ true → HasFate o
has_fate None e = absurd (false≢true e)
has_fate (Some fate) e = record { fate = fate; is = refl; final = not-true (is_waiting fate) e }

pub is_caused_by : (config : Configuration) (calls : List item_moves.Move) (number place : ℕ) (fate : Fate) → fate_at place (account_of config calls number) ≡ Some fate → is_waiting fate ≡ false → IsCausedBy config calls number place fate
is_caused_by config calls number place fate is final =
    let P : List item_moves.Move → Bool = λ cs. is_decided (fate_at place (account_of config cs number)) in
    let t = turn P [] calls refl (ap is_decided is ∙ ap not final) in
    let h = has_fate (fate_at place (account_of config (t.before ++ t.step ∷ []) number)) t.then in
    let whole : (t.before ++ t.step ∷ []) ++ t.after ≡ calls = append_assoc t.before (t.step ∷ []) t.after ∙ sym t.split in
    let later = stays_decided place (account_of config (t.before ++ t.step ∷ []) number) (account_of config calls number) h.fate
    (subst (λ cs. GoesOn (account_of config (t.before ++ t.step ∷ []) number) (account_of config cs number)) whole (fates_are_final config (t.before ++ t.step ∷ []) t.after number)) h.is h.final in
    let same : h.fate ≡ fate = some_same (sym later ∙ is) in
    let decided = h.is ∙ ap Some same in
    record {
      before = t.before;
      call = t.step;
      after = t.after;
      among = t.split;
      gives = is_given (call_may_give t.step) place (account_of config t.before number) (account_of config (t.before ++ t.step ∷ []) number) fate (fates_have_their_causes config t.before t.step number) t.not_yet decided final;
      undecided = t.not_yet;
      decided = decided;
    }

-- ---- what drove a value out

is_or_waits : (o : Option Fate) → is_decided o ≡ false → (o ≡ None) ⊎ (o ≡ Some Waits)
is_or_waits None e = inl refl
is_or_waits (Some Waits) e = inr refl
is_or_waits (Some WasSent) e = absurd (false≢true (sym e))
is_or_waits (Some WasLost) e = absurd (false≢true (sym e))
is_or_waits (Some WasCleared) e = absurd (false≢true (sym e))

module _ (all before : List (QueueMove DataValue)) (place : ℕ) (undecided : is_decided (fate_at place (account before)) ≡ false) where
  driven_out : (step : QueueMove DataValue) (after : List (QueueMove DataValue)) → all ≡ before ++ step ∷ after → may_give (account before) step WasLost ≡ true →
      fate_at place (account (before ++ step ∷ [])) ≡ Some WasLost → IsDrivenOut all place
  driven_out (Sample size discard_oldest newer) after split may lost =
      let full = ltb-false (length (waiting (account before))) size (not-true (nat_lt (length (waiting (account before))) size) may) in
      let told : account (before ++ Sample size discard_oldest newer ∷ []) ≡ account_after (account before) (Sample size discard_oldest newer) = fold-append account_after [] before (Sample size discard_oldest newer ∷ []) in
      let waited : fate_at place (account before) ≡ Some Waits = waited_by (is_or_waits (fate_at place (account before)) undecided) (λ none.
      false≢true (new_one_waits place (account before) (account_after (account before) (Sample size discard_oldest newer)) WasLost (come_in (account before) size discard_oldest newer) none (ap (fate_at place) (sym told) ∙ lost))) in
      record {
        before = before;
        size = size;
        discard_oldest = discard_oldest;
        newer = newer;
        after = after;
        among = split;
        full = full;
        waited = waited;
        lost = lost;
        followed = λ large above same.
            let step = Sample size discard_oldest newer in
            let mid = account_after (account before) step in
            let whole : account all ≡ fold account_after mid after = ap account split ∙ fold-append account_after [] before (step ∷ after) in
            let goes = subst (λ ds. GoesOn (account (before ++ step ∷ [])) (account ds)) (sym split) (stays before step after) in
            let still = subst (GetsOnly is_uncleared mid) whole (subst (λ ts. GetsOnly is_uncleared ts (account all)) told (gets_others (account (before ++ step ∷ [])) (account all) goes same)) in
            subst (λ ts. is_first_marked (drop (suc place) ts) ≡ true) (sym whole) (marks_what_follows all before after size discard_oldest newer (sym split) large above place waited (ap (fate_at place) (sym told) ∙ lost) still);
        marked = λ large. marked_behind place (account before) (account (before ++ Sample size discard_oldest newer ∷ [])) (each_loss_is_marked all before after size discard_oldest newer split large).at_once waited lost;
      }
    where
      waited_by : (fate_at place (account before) ≡ None) ⊎ (fate_at place (account before) ≡ Some Waits) → (fate_at place (account before) ≡ None → ⊥) → fate_at place (account before) ≡ Some Waits
      waited_by (inl none) never = absurd (never none)
      waited_by (inr waits) never = waits
  driven_out (Send n) after split may lost = absurd (false≢true may)
  driven_out Clear after split may lost = absurd (false≢true may)
  driven_out (Resize size discard_oldest) after split may lost = absurd (false≢true may)

pub is_driven_out : (queue_moves : List (QueueMove DataValue)) (place : ℕ) → fate_at place (account queue_moves) ≡ Some WasLost → IsDrivenOut queue_moves place
is_driven_out queue_moves place is =
    let P : List (QueueMove DataValue) → Bool = λ ds. is_decided (fate_at place (account ds)) in
    let t = turn P [] queue_moves refl (ap is_decided is) in
    let h = has_fate (fate_at place (account (t.before ++ t.step ∷ []))) t.then in
    let later = stays_decided place (account (t.before ++ t.step ∷ [])) (account queue_moves) h.fate
    (subst (λ ds. GoesOn (account (t.before ++ t.step ∷ [])) (account ds)) (sym t.split) (stays t.before t.step t.after)) h.is h.final in
    let decided : fate_at place (account (t.before ++ t.step ∷ [])) ≡ Some WasLost = h.is ∙ ap Some (some_same (sym later ∙ is)) in
    driven_out queue_moves t.before place t.not_yet t.step t.after t.split
    (is_given (may_give (account t.before) t.step) place (account t.before) (account (t.before ++ t.step ∷ [])) WasLost (have_their_causes queue_moves t.before t.after t.step t.split) t.not_yet decided refl) decided
