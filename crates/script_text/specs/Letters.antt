-- lines of changes, streams and logs in letters, the words of roles, acts and ends, and whole groups
use Rattle.std.specs.Prelude.{◌≡◌, false, true, List, [], ◌∷◌, codes}
use Rattle.vb_events.specs.declared.event.Answer.TheVariants as answer
use Rattle.vb_events.specs.declared.event.Cause.TheVariants as cause
use Rattle.vb_events.specs.declared.event.EndReason.{EndReason}
use Rattle.vb_events.specs.declared.event.EndReason.TheVariants as reason
use Rattle.vb_events.specs.declared.event.Event.{Event}
use Rattle.vb_events.specs.declared.event.Event.TheVariants as event
use Rattle.vb_events.specs.declared.event.Group.{Group}
use Rattle.vb_events.specs.declared.event.ItemAct.{ItemAct}
use Rattle.vb_events.specs.declared.event.ItemAct.TheVariants as sent
use Rattle.vb_events.specs.declared.event.StreamName.TheVariants as stream
use Rattle.vb_events.specs.declared.event.Why.{Why}
use Rattle.vb_events.specs.declared.event.Why.TheVariants as why
use Rattle.vb_types.specs.declared.change.Act.{Act}
use Rattle.vb_types.specs.declared.change.Act.TheVariants as act
use Rattle.vb_types.specs.declared.change.Level.TheVariants as level
use Rattle.vb_types.specs.declared.doc.Doc.{Doc}
use Rattle.vb_types.specs.declared.role.LogEntry.{LogEntry}
use Rattle.vb_types.specs.declared.role.Role.{Role}
use Rattle.vb_types.specs.declared.role.Role.TheVariants as role
use Rattle.vb_types.specs.declared.stream.AskAnswer.{AskAnswer}
use Rattle.vb_types.specs.declared.stream.AskAnswer.TheVariants as asked
use Rattle.vb_types.specs.declared.stream.StreamAsk.{StreamAsk}
use Rattle.script_text.specs.Transcript.{answer_text, event_text, group_text, print_of, reason_text, role_text, sent_text, why_text}
use Rattle.script_text.specs.Wordings.{IsWordOf}

-- a document of which no two numbers are alike, and a change of the key `k`, whose code has a letter in hexadecimal
abbrev pub some_doc : Doc
some_doc = record { value = 0xab ∷ 0x0c ∷ []; cas = 5; rev = 6; flags = 7; expiry = 8; datatype = 9 }

abbrev pub changed : Act → Event
changed a = event.Changed 1 2 3 (record { seq = 4; key = 0x6b ∷ []; act = a })

-- a request, and a failover log
abbrev pub some_ask : StreamAsk
some_ask = record { flags = 10; start = 6; end = 7; uuid = 5; ss = 8; se = 9 }

abbrev pub some_log : List LogEntry
some_log = record { uuid = 11; seq = 12 } ∷ record { uuid = 13; seq = 14 } ∷ []

abbrev pub answered : List LogEntry → AskAnswer → Event
answered log said = event.Asked (stream.Link 1) 2 3 some_ask 4 log said

-- the line of a change: the branch, the seqno, the act and the key, and then what the act has
pub record ChangesInLetters : Type 0 where
  pub set : event_text (changed (act.Set some_doc)) ≡ codes "change 1 2 3 4 set 6b 5 6 7 8 9 ab0c"
  pub removed : event_text (changed (act.Remove 5 6)) ≡ codes "change 1 2 3 4 remove 6b 5 6"
  pub prepared : event_text (changed (act.Prepare level.MajorityPersistActive some_doc false)) ≡ codes "change 1 2 3 4 prepare 6b 5 6 7 8 9 ab0c 2 0"
  pub committed : event_text (changed (act.Commit 10 some_doc true)) ≡ codes "change 1 2 3 4 commit 6b 5 6 7 8 9 ab0c 10 1"
  pub aborted : event_text (changed (act.Abort 10)) ≡ codes "change 1 2 3 4 abort 6b 10"
  pub got : event_text (event.Got 1 2 (stream.Link 3) (record { seq = 4; key = 0x6b ∷ []; act = act.Remove 5 6 })) ≡ codes "got 1 2 L3 4 remove 6b 5 6"
  pub item : event_text (event.Item (stream.Link 1) 2 sent.Set (0x6b ∷ [])) ≡ codes "item L1 2 set 6b"
  pub document : event_text (event.Document (0x6b ∷ []) some_doc) ≡ codes "doc 6b 5 6 7 8 9 ab0c"

-- the line of a request for a stream: the link, the vBucket, the branch, start and end, the snapshot's start and end and the flags; then the last seqno, the log and the answer; and the other lines of logs, of answers to clients and of ends
pub record StreamsInLetters : Type 0 where
  pub go : event_text (answered some_log asked.Go) ≡ codes "ask L1 2 3 5 6 7 8 9 10 4 11:12,13:14 go"
  pub roll : event_text (answered [] (asked.Roll 15)) ≡ codes "ask L1 2 3 5 6 7 8 9 10 4 - roll 15"
  pub refuse : event_text (answered [] (asked.Refuse 34)) ≡ codes "ask L1 2 3 5 6 7 8 9 10 4 - refuse 34"
  pub adopted : event_text (event.Adopted 1 2 some_log) ≡ codes "adopt 1 2 11:12,13:14"
  pub logged : event_text (event.Logged 1 2 some_log) ≡ codes "logged 1 2 11:12,13:14"
  pub no_log : event_text (event.Logged 1 2 []) ≡ codes "logged 1 2 -"
  pub replied : event_text (event.Reply 1 2 (0x81 ∷ 0x0f ∷ [])) ≡ codes "reply 1 2 810f"
  pub ended : event_text (event.Ended 1 reason.Cut) ≡ codes "end L1 cut"

-- lines of a stream of a client's connection: the node and its number there
pub record ClientsInLetters : Type 0 where
  pub asked : event_text (event.Asked (stream.Client 0 1) 2 3 some_ask 4 some_log asked.Go) ≡ codes "ask C0.1 2 3 5 6 7 8 9 10 4 11:12,13:14 go"
  pub marked : event_text (event.Marked (stream.Client 0 1) 2 3 4) ≡ codes "mark C0.1 2 3 4"
  pub item : event_text (event.Item (stream.Client 0 1) 2 sent.Set (0x6b ∷ [])) ≡ codes "item C0.1 2 set 6b"
  pub finished : event_text (event.Finished (stream.Client 0 1) 2) ≡ codes "fin C0.1 2"
  pub wide : event_text (event.Finished (stream.Client 255 4294967295) 2) ≡ codes "fin C255.4294967295 2"
  pub state_replica : event_text (event.Stated (stream.Client 0 1) role.Replica) ≡ codes "state C0.1 replica"
  pub state_dead : event_text (event.Stated (stream.Client 255 4294967295) role.Dead) ≡ codes "state C255.4294967295 dead"

-- the words of roles, of acts and of ends, each of one alone
pub record WordsInLetters : Type 0 where
  pub active : IsWordOf Role role_text role.Active (codes "active")
  pub replica : IsWordOf Role role_text role.Replica (codes "replica")
  pub dead : IsWordOf Role role_text role.Dead (codes "dead")
  pub set : IsWordOf ItemAct sent_text sent.Set (codes "set")
  pub remove : IsWordOf ItemAct sent_text sent.Remove (codes "remove")
  pub cut : IsWordOf EndReason reason_text reason.Cut (codes "cut")
  pub refused : IsWordOf EndReason reason_text reason.Refused (codes "refused")
  pub protocol : IsWordOf EndReason reason_text reason.Protocol (codes "protocol")
  pub done : IsWordOf EndReason reason_text reason.Done (codes "done")
  pub state : IsWordOf EndReason reason_text reason.State (codes "state")
  pub all : IsWordOf Why why_text why.All (codes "-")
  pub idle : IsWordOf Why why_text why.Idle (codes "idle")

-- a group of two lines
abbrev pub some_group : Group
some_group = record { line = 12; events = event.CallFailed 3 ∷ event.NodeStopped 4 ∷ []; answer = answer.No cause.Stopped }

-- Answers; and of a group the number of its line first, then its lines in their order, then the answer, each with a newline. Groups stand in their order.
pub record GroupsInLetters : Type 0 where
  pub ok : answer_text answer.Ok ≡ codes "ok"
  pub number : answer_text (answer.Number 12) ≡ codes "ok 12"
  pub put_all : answer_text (answer.Pulled 3 why.All) ≡ codes "ok 3 -"
  pub put_few : answer_text (answer.Pulled 0 why.Idle) ≡ codes "ok 0 idle"
  pub refused : answer_text (answer.No cause.UnknownVb) ≡ codes "no unknown-vb"
  pub group : group_text some_group ≡ codes "#12\nfailed 3\nstopped 4\nno stopped\n"
  pub bare : group_text (record { line = 7; events = []; answer = answer.Ok }) ≡ codes "#7\nok\n"
  pub groups : print_of (record { line = 7; events = []; answer = answer.Ok } ∷ some_group ∷ []) ≡ codes "#7\nok\n#12\nfailed 3\nstopped 4\nno stopped\n"
