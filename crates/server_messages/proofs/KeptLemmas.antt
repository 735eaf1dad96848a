-- Stores that keep the same, and go on alike.
use Rattle.std.proofs.Common.{◌≡◌, ℤ, Bool, true, false, cond, List, [], ◌∷◌, ◌++◌, Option, Some, None, refl, sym, ap, subst, ◌∙◌}
use Rattle.std.proofs.lemmas.List.Sums.{fold-append}
use Rattle.std.specs.Ordering.{is_eq, int_cmp}
use Rattle.ua_types.specs.declared.moment.Moment.{Moment}
use Rattle.ua_types.specs.declared.node_id.NodeId.{NodeId}
use Rattle.ua_types.specs.declared.data_value.DataValue.{DataValue}
use Rattle.server_messages.specs.Kept.{Kept, Past, is_same, put_at, dropped_at, past_with, with_stored, with_all_stored, AreAlike}
use Rattle.server_messages.specs.declared.stored.Stored.{Stored}

pub alike_refl : (k : Kept) → AreAlike k k
alike_refl k = record { values = λ id. refl; histories = λ id time. refl }

pub alike_sym : (k l : Kept) → AreAlike k l → AreAlike l k
alike_sym k l a = record { values = λ id. sym (a.values id); histories = λ id time. sym (a.histories id time) }

pub alike_trans : (k l m : Kept) → AreAlike k l → AreAlike l m → AreAlike k m
alike_trans k l m a b = record { values = λ id. a.values id ∙ b.values id; histories = λ id time. a.histories id time ∙ b.histories id time }

put_alike : (o : Option Moment) (value : DataValue) (p q : Past) (time : ℤ) → p time ≡ q time → put_at o value p time ≡ put_at o value q time
put_alike None value p q time e = e
put_alike (Some moment) value p q time e = ap (λ (rest : Option DataValue). cond (is_eq (int_cmp moment.0 time)) (Some value) rest) e

dropped_alike : (o : Option Moment) (p q : Past) (time : ℤ) → p time ≡ q time → dropped_at o p time ≡ dropped_at o q time
dropped_alike None p q time e = e
dropped_alike (Some moment) p q time e = ap (λ (rest : Option DataValue). cond (is_eq (int_cmp moment.0 time)) None rest) e

past_alike : (s : Stored) (p q : Past) (time : ℤ) → p time ≡ q time → past_with s p time ≡ past_with s q time
past_alike s p q time e = by s.is_historical
  where
    by : (b : Bool) → cond b (dropped_at s.dropped (put_at s.value.source_time s.value p) time) (p time) ≡ cond b (dropped_at s.dropped (put_at s.value.source_time s.value q) time) (q time)
    by true = dropped_alike s.dropped (put_at s.value.source_time s.value p) (put_at s.value.source_time s.value q) time (put_alike s.value.source_time s.value p q time e)
    by false = e

pub one_alike : (k l : Kept) (s : Stored) → AreAlike k l → AreAlike (with_stored k s) (with_stored l s)
one_alike k l s a = record {
  values = λ id. ap (λ (rest : Option DataValue). cond (is_same s.node_id id) (Some s.value) rest) (a.values id);
  histories = λ id time. by id time (is_same s.node_id id);
}
  where
    by : (id : NodeId) (time : ℤ) (b : Bool) → cond b (past_with s (k.histories id) time) (k.histories id time) ≡ cond b (past_with s (l.histories id) time) (l.histories id time)
    by id time true = past_alike s (k.histories id) (l.histories id) time (a.histories id time)
    by id time false = a.histories id time

pub all_alike : (k l : Kept) (ss : List Stored) → AreAlike k l → AreAlike (with_all_stored k ss) (with_all_stored l ss)
all_alike k l [] a = a
all_alike k l (s ∷ ss) a = all_alike (with_stored k s) (with_stored l s) ss (one_alike k l s a)

-- some, and then more
pub alike_chain : (k l m : Kept) (xs ys : List Stored) → AreAlike (with_all_stored k xs) l → AreAlike (with_all_stored l ys) m → AreAlike (with_all_stored k (xs ++ ys)) m
alike_chain k l m xs ys a b =
    subst (λ (x : Kept). AreAlike x m) (sym (fold-append with_stored k xs ys))
    (alike_trans (with_all_stored (with_all_stored k xs) ys) (with_all_stored l ys) m (all_alike (with_all_stored k xs) l ys a) b)
