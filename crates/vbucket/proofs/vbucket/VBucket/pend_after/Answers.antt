use Rattle.std.proofs.Common.{◌≡◌, rules, ap, sym, ◌∙◌}
use Rattle.std.specs.Prelude.{None}
use Rattle.std.specs.FinMap as map
use Rattle.vbucket.specs.Plans.{keys_of}
use Rattle.vbucket.specs.Settling.{pend_at}
use Rattle.vbucket.proofs.Planning.{pend_left, pend_more}
use Rattle.vbucket.proofs.vbucket.VBucket.pend_after.Goals.{in-Some+in_ok-clone-in-Some, in-None}
use Rattle.vbucket.proofs.vbucket.VBucket.pend_after.Goals as goal

pub returns-then-is_none : goal.returns-then-is_none
returns-then-is_none c =
    let base = c.args.self.now.rest.base in
    let key = c.args.key.now in
    let there : c.match-pend.pend ≡ map.get base.pending key = elim c.match-pend.branch [ in-Some+in_ok-clone-in-Some w ↦ search rules | in-None w ↦ search rules ] in
    let none : map.get (keys_of c.args.made.now) key ≡ None = search rules in
    there ∙ sym (pend_left base c.args.made.now key none)

pub loop-change-preserved : goal.loop-change-preserved
loop-change-preserved c =
    let x = c.change-item.result in
    c.in_ok-pend.ensures ∙ ap (λ o. pend_at c.args.key.now o x) c.loop-change.invariant
    ∙ sym (pend_more c.args.self.now.rest.base c.args.made.now c.loop-change.change-index x x c.args.key.now c.loop-change-test.true c.change-item.is)
