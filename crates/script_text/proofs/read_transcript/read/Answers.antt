use Rattle.std.proofs.Common.{sym, ◌∙◌, arith}
use Rattle.script_text.proofs.Cuts.{goes_on, stops}
use Rattle.script_text.proofs.read_transcript.read.Goals as goal

pub returns-in_default-2 : goal.returns-in_default-2
returns-in_default-2 c =
    sym
    (c.loop-text.invariant.same
    ∙ stops c.loop-text.line c.loop-text.reading c.loop-text.rest.now c.in-Some.text.now c.in-Some.after.now c.in-Some.ensures.0 (sym c.in_ok-more.ensures ∙ c.in_default-2.is))

pub loop-text-preserved : goal.loop-text-preserved
loop-text-preserved c = record {
  same =
      c.loop-text.invariant.same
      ∙ goes_on c.loop-text.line c.loop-text.reading c.in-Some-2.more c.loop-text.rest.now c.in-Some.text.now c.in-Some.after.now c.in-Some.ensures.0 (sym c.in_ok-more.ensures ∙ c.in-Some-2.is);
  within = let shorter = c.in-Some.ensures.1 in omega (arith, c.loop-text.invariant.within, shorter);
}
