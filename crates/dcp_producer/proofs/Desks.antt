-- a producer stays at its desk, whatever it answers and puts
use Rattle.std.proofs.Common.{◌≡◌, ℕ, ◌∙◌}
use Rattle.mcbp_frame.specs.declared.frame.Frame.{Frame}
use Rattle.vb_calls.specs.Jobs.{AlwaysJob, IsRead}
use Rattle.vb_calls.specs.Programs.{Always, AnyCall, AnyReply}
use Rattle.vb_calls.proofs.Conduct.{always_so}
use Rattle.vb_calls.proofs.JobConduct.{always_so_job}
use Rattle.dcp_producer.specs.declared.desk.Desk.{Desk}
use Rattle.dcp_producer.specs.declared.halt.Halt.{Halt}
use Rattle.dcp_producer.specs.Pairs.{AnyChange, IsOneOf, PullsPairs}
use Rattle.dcp_producer.specs.Producers.{Served}
use Rattle.dcp_producer.specs.Pulling.{frames_put}
use Rattle.dcp_producer.specs.Serving.{frame_answered}
use Rattle.dcp_producer.proofs.Pairs.{any_pairs}
use Rattle.dcp_producer.proofs.Uncounted.{Same, frame_same}

module _ (desk : Desk) where
  -- a producer at this desk
  abbrev pub At : Served → Type 0
  At s = s.end.desk ≡ desk

  pub answered_at : (f : Frame) (s : Served) → At s → Always AnyCall At (frame_answered f s)
  answered_at f s at = always_so AnyReply AnyCall (Same s) At (frame_answered f s) (λ t same. same.1 ∙ at) (frame_same f s)

  -- so it is behind a pull
  abbrev pub PutAt : Served × Halt → Type 0
  PutAt put = At put.0

  pub pulled_at : (k : ℕ) (s : Served) → At s → AlwaysJob AnyReply AnyCall IsRead PutAt (frames_put k s)
  pulled_at k s at = always_so_job AnyReply AnyCall IsRead (PullsPairs (IsOneOf AnyChange s.end.streams) k s) PutAt (frames_put k s) (λ put pairs. pairs.desk ∙ at) (any_pairs k s)
