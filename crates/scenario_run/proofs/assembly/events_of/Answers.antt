use Rattle.std.proofs.Common.{◌≡◌, sym, ap, ◌∙◌, Err, length, subst}
use Rattle.std.proofs.lemmas.Result.{err_from_is_err_and}
use Rattle.scenario_run.specs.Assembly.{group_of, groups_from, joined}
use Rattle.scenario_run.specs.Members.{nothing_sent}
use Rattle.scenario_run.proofs.AssemblyLemmas.{goes_on, fails, exceeds, ends_well, ends_badly, taken, refused, put_well, put_badly, few_put}
use Rattle.scenario_run.specs.Reading.{AfterCounted}
use Rattle.scenario_run.proofs.CountLemmas.{assembled_counted}
use Rattle.scenario_run.proofs.HappeningLemmas.{of_line, line_grouped, goes_on_grouped, all_grouped}
use Rattle.scenario_run.proofs.assembly.events_of.Goals as goal

pub returns-in_err-member : goal.returns-in_err-member
returns-in_err-member c =
    let p = err_from_is_err_and c.from_residual.result c.from_residual.ensures.1 in
    let total = joined (groups_from c.args.fault nothing_sent 0 c.args.lines.items) in
    let so_far = rw c.in-Some.ensures.steps.0 at c.loop-line.invariant.whole in
    rw (p.1, p.2) (record {
      given = λ other.
          (let r = refused c.take.result c.loop-line.assembler c.take.new.self c.in-Some.line.statement c.in-Some.line.number _ c.take.ensures.given c.in_err-member.ensures other in
          fails c.args.fault c.loop-line.assembler c.loop-line.events.items c.in-Some.line c.next.new.self.rest.items _ total r.0 so_far ∙ ap Err (sym r.1));
      meant = tt;
    })

pub loop-line-preserved : goal.loop-line-preserved
loop-line-preserved c =
    let total = joined (groups_from c.args.fault nothing_sent 0 c.args.lines.items) in
    let so_far = rw c.in-Some.ensures.steps.0 at c.loop-line.invariant.whole in
    let assembled = taken c.take.result c.loop-line.assembler c.take.new.self c.in-Some.line.statement c.in-Some.line.number c.in_ok-member.member c.take.ensures.given c.in_ok-member.ensures in
    let put = put_well c.put_group.result c.loop-line.events.items c.put_group.new.events.items (group_of c.take.new.self.cut c.in_ok-member.member) c.in-Some.line.number c.in_ok-in_line.field-0 c.put_group.ensures c.in_ok-in_line.ensures in
    record {
      whole = goes_on c.args.fault c.loop-line.assembler c.take.new.self c.in_ok-member.member c.loop-line.events.items c.put_group.new.events.items c.in-Some.line c.next.new.self.rest.items total assembled put.0 put.1 so_far;
      counted = subst AfterCounted assembled (assembled_counted c.loop-line.assembler c.in-Some.line.statement c.loop-line.invariant.counted);
      grouped =
          (let grouped_so_far = rw c.in-Some.ensures.steps.0 at c.loop-line.invariant.grouped in
          let read = of_line c.take.result c.in-Some.line.number c.in_ok-member.member _ c.take.ensures.read c.in_ok-member.ensures in
          goes_on_grouped _ c.loop-line.assembler (c.in_ok-member.member, c.take.new.self) c.loop-line.events.items c.put_group.new.events.items c.in-Some.line c.next.new.self.rest.items
          (line_grouped c.loop-line.assembler c.in-Some.line.statement (c.in_ok-member.member, c.take.new.self) assembled c.loop-line.invariant.counted read) put.0 grouped_so_far);
      few = few_put c.loop-line.events.items c.put_group.new.events.items (group_of c.take.new.self.cut c.in_ok-member.member) put.0 put.1;
    }

pub returns-in_err-in_line : goal.returns-in_err-in_line
returns-in_err-in_line c =
    let p = err_from_is_err_and c.from_residual-in_err-in_line.result c.from_residual-in_err-in_line.ensures.1 in
    let total = joined (groups_from c.args.fault nothing_sent 0 c.args.lines.items) in
    let so_far = rw c.in-Some.ensures.steps.0 at c.loop-line.invariant.whole in
    let assembled = taken c.take.result c.loop-line.assembler c.take.new.self c.in-Some.line.statement c.in-Some.line.number c.in_ok-member.member c.take.ensures.given c.in_ok-member.ensures in
    rw (p.1, p.2) (record {
      given = λ other.
          (let r = put_badly c.put_group.result c.loop-line.events.items c.put_group.new.events.items (group_of c.take.new.self.cut c.in_ok-member.member) c.in-Some.line.number _ c.put_group.ensures c.in_err-in_line.ensures other in
          exceeds c.args.fault c.loop-line.assembler c.take.new.self c.in_ok-member.member c.loop-line.events.items c.in-Some.line c.next.new.self.rest.items total assembled r.1 so_far ∙ ap Err (sym r.0));
      meant = tt;
    })

pub returns-in-None-fault : goal.returns-in-None-fault
returns-in-None-fault c =
    let left : length c.loop-line.line-iterator.rest.items ≡ 0 = sym c.loop-line.line-iterator.rest.ok.0 ∙ c.in-None.ensures.steps.0 in
    record {
      given = ends_well c.args.fault c.loop-line.assembler c.loop-line.events.items c.loop-line.line-iterator.rest.items (joined (groups_from c.args.fault nothing_sent 0 c.args.lines.items)) c.in-None-fault.is left c.loop-line.invariant.whole;
      meant = (c.in-None-fault.is, all_grouped _ c.loop-line.assembler c.loop-line.events.items c.loop-line.line-iterator.rest.items left c.loop-line.invariant.grouped);
    }

pub returns : goal.returns
returns c =
    let left : length c.loop-line.line-iterator.rest.items ≡ 0 = sym c.loop-line.line-iterator.rest.ok.0 ∙ c.in-None.ensures.steps.0 in
    let bad = ends_badly c.args.fault c.loop-line.assembler c.loop-line.events.items c.in-Some-fault.fault c.loop-line.line-iterator.rest.items (joined (groups_from c.args.fault nothing_sent 0 c.args.lines.items)) c.in-Some-fault.is left c.loop-line.invariant.whole in
    record { given = λ _. bad; meant = tt }
