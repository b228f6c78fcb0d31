use Rattle.std.proofs.Common.{[], ◌++◌, Ok, refl, ◌∙◌, append-nil, append_assoc, sym, ap, subst, rules}
use Rattle.std.proofs.lemmas.List.Elements.{All-nil}
use Rattle.std.specs.List.{All}
use Rattle.std.proofs.KnownBytes.{Appends-nil, Appends-trans}
use Rattle.node_world.specs.World.{empty_world, groups, groups_from}
use Rattle.node_world.proofs.WorldRests.{empty_rests}
use Rattle.script_text.specs.Held.{IsGroupHeld}
use Rattle.script_text.specs.Transcript.{print_of}
use Rattle.dcp_io.specs.Writes.{Wrote}
use Rattle.dcp_io.proofs.Stopping.{stopped_after, wrote_stop}
use Rattle.dcp_main.specs.Writes.{to_write, LineWrote}
use Rattle.dcp_main.proofs.Groups.{if_ok, never_ok, wrote_rest}
use Rattle.dcp_main.proofs.output.run_script.Goals as goal

pub loop-text-init : goal.loop-text-init
loop-text-init g c = record {
  plain = empty_world;
  stands = c.new-world.ensures;
  rests = empty_rests;
  done = [];
  appended = Appends-nil _;
  rest = ap (λ t. t ++ print_of (groups c.args.lines)) c.new-text.ensures.items;
  holds = λ held. held;
  faults = refl;
}

pub returns-in_err-run_line-clause-wrote : goal.returns-in_err-run_line-clause-wrote
returns-in_err-run_line-clause-wrote g c =
    let before = c.loop-text.invariant in
    let stop = c.in_err-run_line.field-0.0 in
    let start = g.O.Sink.outlet c.args.output.now in
    let last = g.O.Sink.outlet c.run_line.new.output in
    let rest = to_write c.loop-text.text.items before.plain c.loop-text.lines in
    wrote_stop start last _ c.from_residual.result stop c.from_residual.ensures.1
    (stopped_after start (g.O.Sink.outlet c.loop-text.output) last before.done rest [] _ stop before.faults before.appended
    (ap (λ t. before.done ++ t) (append-nil rest) ∙ before.rest) (c.in_err-run_line.ensures before.plain before.stands before.rests))

pub loop-text-preserved : goal.loop-text-preserved
loop-text-preserved g c =
    let before = c.loop-text.invariant in
    let (plain, stands, rests, less, holds, (part, (appended, faults), is)) = c.in_ok-run_line.ensures before.plain before.stands before.rests in
    record {
      plain = plain;
      stands = stands;
      rests = rests;
      done = before.done ++ part;
      appended = Appends-trans _ _ _ _ _ before.appended appended;
      rest = append_assoc before.done part _ ∙ ap (λ t. before.done ++ t) is ∙ before.rest;
      holds = λ held. before.holds (holds held);
      faults = faults ∙ before.faults;
    }

pub loop-text-smaller : goal.loop-text-smaller
loop-text-smaller g c =
    let before = c.loop-text.invariant in
    (subst
    (λ more. LineWrote before.plain c.loop-text.lines c.run_line.new.lines c.run_line.new.world c.loop-text.text.items c.run_line.new.text.items (g.O.Sink.outlet c.loop-text.output) (g.O.Sink.outlet c.run_line.new.output) (Ok more))
    c.if-branch.true (c.in_ok-run_line.ensures before.plain before.stands before.rests)).3

pub returns-clause-wrote : goal.returns-clause-wrote
returns-clause-wrote g c =
    let before = c.loop-text.invariant in
    let middle = g.O.Sink.outlet c.run_line.new.output in
    let last = g.O.Sink.outlet c.put_text.new.output in
    let waits = c.run_line.new.text.items in
    let (plain, stands, rests, none, holds, (part, (appended, faults), is)) = (subst
    (λ more. LineWrote before.plain c.loop-text.lines c.run_line.new.lines c.run_line.new.world c.loop-text.text.items c.run_line.new.text.items (g.O.Sink.outlet c.loop-text.output) (g.O.Sink.outlet c.run_line.new.output) (Ok more))
    c.if-branch.false (c.in_ok-run_line.ensures before.plain before.stands before.rests)) in
    let left = sym (append-nil waits) ∙ ap (λ ls. waits ++ print_of (groups_from plain ls)) (sym none) in
    let wrote : Wrote middle last waits c.put_text.result = search rules in
    wrote_rest (g.O.Sink.outlet c.args.output.now) middle last (before.done ++ part) waits _ _ (faults ∙ before.faults) (Appends-trans _ _ _ _ _ before.appended appended)
    (append_assoc before.done part waits ∙ ap (λ t. before.done ++ t) (ap (λ t. part ++ t) left ∙ is) ∙ before.rest) wrote

pub returns-clause-held : goal.returns-clause-held
returns-clause-held g c =
    let before = c.loop-text.invariant in
    let (plain, stands, rests, none, holds, wrote) = (subst
    (λ more. LineWrote before.plain c.loop-text.lines c.run_line.new.lines c.run_line.new.world c.loop-text.text.items c.run_line.new.text.items (g.O.Sink.outlet c.loop-text.output) (g.O.Sink.outlet c.run_line.new.output) (Ok more))
    c.if-branch.false (c.in_ok-run_line.ensures before.plain before.stands before.rests)) in
    if_ok c.put_text.result (before.holds (holds (subst (λ ls. All IsGroupHeld (groups_from plain ls)) (sym none) (All-nil IsGroupHeld))))

pub returns-in_err-run_line-clause-held : goal.returns-in_err-run_line-clause-held
returns-in_err-run_line-clause-held g c = never_ok (All IsGroupHeld (groups c.args.lines)) c.from_residual.result c.in_err-run_line.field-0.0 c.from_residual.ensures.1
