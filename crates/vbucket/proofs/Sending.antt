-- what stands in a snapshot for a change of the vBucket
use Rattle.std.proofs.Common.{◌≡◌, Bool, true, false, refl, sym, ◌∙◌}
use Rattle.std.specs.Prelude.{not}
use Rattle.vb_types.specs.declared.change.Act.{Act}
use Rattle.vb_types.specs.declared.change.Act.TheVariants as act
use Rattle.vb_types.specs.declared.change.Change.{Change}
use Rattle.vb_types.specs.Histories.{plain_act}
use Rattle.vb_calls.specs.declared.stream.Stream.{Stream}
use Rattle.vb_calls.specs.Streams.{is_plain, sent_as}
use Rattle.vbucket.specs.Takes.{IsWrittenOut, IsSentFor}

written_out : (a : Act) → IsWrittenOut a (plain_act a)
written_out (act.Set doc) = refl
written_out (act.Remove cas rev) = refl
written_out (act.Prepare level doc deleted) = refl
written_out (act.Commit prepared doc true) = refl
written_out (act.Commit prepared doc false) = refl
written_out (act.Abort prepared) = refl

pub sent_for : (s : Stream) (c : Change) → IsSentFor s c (sent_as (is_plain s) c)
sent_for s c = by s.sync refl
  where
    by : (b : Bool) → s.sync ≡ b → IsSentFor s c (sent_as (not b) c)
    by true e = record { seq = refl; key = refl; out = λ plain. let z : true ≡ false = sym e ∙ plain in cc; as_is = λ sync. refl }
    by false e = record { seq = refl; key = refl; out = λ plain. written_out c.act; as_is = λ sync. let z : true ≡ false = sym sync ∙ e in cc }
