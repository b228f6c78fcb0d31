-- that no client is left without an answer
use Rattle.std.specs.Prelude.{◌≡◌, ℕ, true, false, None, Some, Ok}
use Rattle.client_session.specs.Serving.{is_dcp}
use Rattle.client_session.specs.declared.session.Settings.{Settings}
use Rattle.mcbp_frame.specs.Cutting.{front_fault}
use Rattle.mcbp_frame.specs.declared.frame.Frame.{Frame}
use Rattle.mcbp_kv.specs.Requests.{request_of}
use Rattle.mcbp_kv.specs.declared.durable.Durability.{Durability}
use Rattle.mcbp_kv.specs.declared.request.KvRequest.TheVariants as request
use Rattle.vb_types.specs.declared.write.Write.{Write}
use Rattle.transcript_law.specs.LinesTold.{Chronicle}
use Rattle.transcript_law.specs.Questions.{Question, behind_frames, question_of}
use Rattle.transcript_law.specs.StreamsTold.{Asking}

-- a frame asks for a durable write
pub record AsksDurably (settings : Settings) (f : Frame) : Type 0 where
  pub own : is_dcp f.opcode ≡ false
  pub write : Write
  pub wish : Durability
  pub asks : request_of settings.json f ≡ Ok (request.Write write (Some wish))

-- no whole frame that wants an answer is left; or the first one asks for a durable write, which may wait for its outcome, and all behind it wait for that
abbrev pub NoneAsks : Asking → Type 0
NoneAsks k = (q : Question) → question_of k ≡ Some q → AsksDurably k.settings q.frame

-- nor is a fault left behind the frames, which closes a connection once nothing else is asked
pub record NoneWaits (k : Asking) : Type 0 where
  pub asks : NoneAsks k
  pub whole : question_of k ≡ None → front_fault (behind_frames k.bytes) ≡ None

-- so it is of each connection of a client that is open
abbrev pub AllAnswered : Chronicle → Type 0
AllAnswered chronicle = (n c : ℕ) → chronicle.conn_at n c ≡ true → NoneWaits (chronicle.clients_at n c).asking
