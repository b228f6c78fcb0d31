-- a call that was not made changes nothing
use Rattle.std.proofs.Common.{◌≡◌, true, false, [], refl, sym, ◌∙◌}
use Rattle.vb_calls.specs.declared.calls.VbCall.{VbCall}
use Rattle.vb_calls.specs.declared.calls.VbReply.{VbReply}
use Rattle.vb_calls.specs.State.{Plain}
use Rattle.vbucket.specs.Laws.{RefusalsKeep, is_refusal}
use Rattle.vbucket.proofs.RowIs.{RowIs, Settles, Streams, Tells, begins, restreams, row_is}

row_keeps : (vb : Plain) {c : VbCall} {made : Plain × VbReply} → RowIs vb c made → is_refusal made.1.answer ≡ true → (made.0 ≡ vb) × (made.1.changes ≡ [])
row_keeps vb (Tells c said) e = (refl, refl)
row_keeps vb (Streams c streams said is) e = let z : true ≡ false = sym e ∙ (restreams vb is).0 in cc
row_keeps vb (Settles c start is) e = let z : true ≡ false = sym e ∙ (begins vb is).0 in cc
row_keeps vb other e = cc

pub keeps : RefusalsKeep
keeps vb call e = row_keeps vb (row_is vb call) e
