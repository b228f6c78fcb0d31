-- changes, streams, words and groups in letters
use Rattle.std.proofs.Common.{refl}
use Rattle.std.specs.Prelude.{codes}
use Rattle.std.specs.Fmt.{digits}
use Rattle.hex.specs.Hex.{encode_with}
use Rattle.vb_events.specs.declared.event.EndReason.TheVariants as reason
use Rattle.vb_events.specs.declared.event.ItemAct.TheVariants as sent
use Rattle.vb_events.specs.declared.event.Why.TheVariants as why
use Rattle.vb_types.specs.declared.role.Role.TheVariants as role
use Rattle.script_text.specs.Transcript.{act_text, ask_text, request_text, doc_text, entry_text, event_text, group_text, hex_text, link_text, client_text, place_text, reason_text, role_text, sent_text, why_text}
use Rattle.script_text.specs.Letters.{ChangesInLetters, ClientsInLetters, GroupsInLetters, StreamsInLetters, WordsInLetters}
use Rattle.script_text.proofs.KindWords.{reason_of, reason_is, role_of, role_is, sent_of, sent_is, why_of, why_is}
use Rattle.script_text.proofs.Wordings.{word_of}

pub changes : ChangesInLetters
unfolding event_text place_text link_text doc_text act_text hex_text encode_with digits
changes = record { set = refl; removed = refl; prepared = refl; committed = refl; aborted = refl; got = refl; item = refl; document = refl }

pub streams : StreamsInLetters
unfolding event_text place_text link_text ask_text request_text entry_text hex_text encode_with digits
streams = record { go = refl; roll = refl; refuse = refl; adopted = refl; logged = refl; no_log = refl; replied = refl; ended = refl }

pub clients : ClientsInLetters
unfolding event_text place_text client_text ask_text request_text entry_text hex_text encode_with digits
clients = record { asked = refl; marked = refl; item = refl; finished = refl; wide = refl; state_replica = refl; state_dead = refl }

pub words : WordsInLetters
words = record {
  active = word_of role_of role_text role_is role.Active (codes "active") refl;
  replica = word_of role_of role_text role_is role.Replica (codes "replica") refl;
  dead = word_of role_of role_text role_is role.Dead (codes "dead") refl;
  set = word_of sent_of sent_text sent_is sent.Set (codes "set") refl;
  remove = word_of sent_of sent_text sent_is sent.Remove (codes "remove") refl;
  cut = word_of reason_of reason_text reason_is reason.Cut (codes "cut") refl;
  refused = word_of reason_of reason_text reason_is reason.Refused (codes "refused") refl;
  protocol = word_of reason_of reason_text reason_is reason.Protocol (codes "protocol") refl;
  done = word_of reason_of reason_text reason_is reason.Done (codes "done") refl;
  state = word_of reason_of reason_text reason_is reason.State (codes "state") refl;
  all = word_of why_of why_text why_is why.All (codes "-") refl;
  idle = word_of why_of why_text why_is why.Idle (codes "idle") refl;
}

pub groups : GroupsInLetters
unfolding event_text group_text digits
groups = record { ok = refl; number = refl; put_all = refl; put_few = refl; refused = refl; group = refl; bare = refl; groups = refl }
