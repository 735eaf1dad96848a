use Rattle.std.proofs.Common.{◌∙◌, IfSome, ap, refl, subst, sym, option_map}
use Rattle.std.proofs.lemmas.Option.{none-some}
use Rattle.command_line.specs.Words.{IsAddressIn, bound_of, idle_of, is_given, port_of, total_of}
use Rattle.command_line.proofs.parsing.serve_options.Goals as goal

pub returns-in_err-get_str-clause-none : goal.returns-in_err-get_str-clause-none
returns-in_err-get_str-clause-none c = λ is_none options has.
    none-some options.nodes.now (ap (option_map (λ t. t.now)) (sym c.in_err-get_str.was) ∙ c.get_str.ensures ∙ has.nodes)

pub returns-in_err-port_of-clause-none : goal.returns-in_err-port_of-clause-none
returns-in_err-port_of-clause-none c = λ is_none options has.
    none-some options.port (sym c.in_err-port_of.was ∙ c.port_of.ensures ∙ ap port_of c.get_str-2.ensures ∙ has.port)

pub returns-in_err-bound_of-clause-none : goal.returns-in_err-bound_of-clause-none
returns-in_err-bound_of-clause-none c = λ is_none options has.
    none-some options.turns (sym c.in_err-bound_of.was ∙ c.bound_of.ensures ∙ ap bound_of c.get_str-3.ensures ∙ has.turns)

pub returns-in_err-address_of-clause-none : goal.returns-in_err-address_of-clause-none
returns-in_err-address_of-clause-none c = λ is_none options has.
    c.address_of.ensures.none (rw c.in_err-address_of.was refl) options.address (subst (λ t. IsAddressIn t options.address) (sym c.get_str-4.ensures) has.address)

pub returns-in_err-idle_of-clause-none : goal.returns-in_err-idle_of-clause-none
returns-in_err-idle_of-clause-none c = λ is_none options has.
    none-some options.idle (sym c.in_err-idle_of.was ∙ c.idle_of.ensures ∙ ap idle_of c.get_str-6.ensures ∙ has.idle)

pub returns-in_err-bound_of-2-clause-none : goal.returns-in_err-bound_of-2-clause-none
returns-in_err-bound_of-2-clause-none c = λ is_none options has.
    none-some options.per_address (sym c.in_err-bound_of-2.was ∙ c.bound_of-2.ensures ∙ ap bound_of c.get_str-7.ensures ∙ has.per_address)

pub returns-in_err-total_of-clause-none : goal.returns-in_err-total_of-clause-none
returns-in_err-total_of-clause-none c = λ is_none options has.
    none-some options.all_subscriptions (sym c.in_err-total_of.was ∙ c.total_of.ensures ∙ ap total_of c.get_str-8.ensures ∙ has.all_subscriptions)

pub returns-in_err-total_of-2-clause-none : goal.returns-in_err-total_of-2-clause-none
returns-in_err-total_of-2-clause-none c = λ is_none options has.
    none-some options.all_items (sym c.in_err-total_of-2.was ∙ c.total_of-2.ensures ∙ ap total_of c.get_str-9.ensures ∙ has.all_items)

pub returns-clause-some : goal.returns-clause-some
returns-clause-some c = record {
  nodes = sym c.get_str.ensures ∙ ap (option_map (λ t. t.now)) c.in_ok-get_str.was;
  port = ap port_of (sym c.get_str-2.ensures) ∙ sym c.port_of.ensures ∙ c.in_ok-port_of.was;
  turns = ap bound_of (sym c.get_str-3.ensures) ∙ sym c.bound_of.ensures ∙ c.in_ok-bound_of.was;
  address = subst (λ t. IsAddressIn t c.in_ok-address_of.field-0) c.get_str-4.ensures
      (subst (λ r. IfSome r (IsAddressIn (option_map (λ t. t.now) c.get_str-4.result))) c.in_ok-address_of.was c.address_of.ensures.some);
  trace = ap is_given (sym c.get_str-5.ensures) ∙ sym c.is_given.ensures;
  idle = ap idle_of (sym c.get_str-6.ensures) ∙ sym c.idle_of.ensures ∙ c.in_ok-idle_of.was;
  per_address = ap bound_of (sym c.get_str-7.ensures) ∙ sym c.bound_of-2.ensures ∙ c.in_ok-bound_of-2.was;
  all_subscriptions = ap total_of (sym c.get_str-8.ensures) ∙ sym c.total_of.ensures ∙ c.in_ok-total_of.was;
  all_items = ap total_of (sym c.get_str-9.ensures) ∙ sym c.total_of-2.ensures ∙ c.in_ok-total_of-2.was;
  stop_file = sym c.get_str-10.ensures;
  store = sym c.get_str-11.ensures;
  url = sym c.get_str-12.ensures;
  quiet = ap is_given (sym c.get_str-13.ensures) ∙ sym c.is_given-2.ensures;
  summary = ap is_given (sym c.get_str-14.ensures) ∙ sym c.is_given-3.ensures;
}
