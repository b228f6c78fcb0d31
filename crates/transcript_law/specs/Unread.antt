-- what a pull may end for whose stream goes on from a journal that can't be read
use Rattle.std.specs.Prelude.{◌≡◌, ℕ, ◌<◌, true, false, Some}
use Rattle.flow_control.specs.Windows.{is_open as lets_through}
use Rattle.script_text.specs.declared.verb.ClientVerb.TheVariants as client_verb
use Rattle.script_text.specs.declared.verb.LinkVerb.TheVariants as link_verb
use Rattle.script_text.specs.declared.verb.Verb.{Verb}
use Rattle.script_text.specs.declared.verb.Verb.TheVariants as verb
use Rattle.vb_events.specs.declared.event.StreamName.TheVariants as name
use Rattle.vb_types.specs.declared.role.Role.TheVariants.{Active}
use Rattle.transcript_law.specs.ClientFrames.{is_closed_by}
use Rattle.transcript_law.specs.LawfulClients.{HasReached}
use Rattle.transcript_law.specs.LinesTold.{Chronicle, Dial, Granted}
use Rattle.transcript_law.specs.Questions.{flow_now, served_frames}
use Rattle.transcript_law.specs.StreamLaws.{IsPutWhole}
use Rattle.transcript_law.specs.StreamsTold.{ClientKnown, ClientStream}

-- the journal of the vBucket v at the node n can't be read, as an append to it failed, and the vBucket counts changes above this place as saved, which may be there alone
pub record IsUnreadable (chronicle : Chronicle) (n v place : ℕ) : Type 0 where
  pub closed : (chronicle.disk_at n v).closed ≡ true
  pub saved : place < (chronicle.disk_at n v).saved

-- the stream of the link l goes on from such a journal: it is not over, and its last snapshot was put to its end
pub record LinkUnread (chronicle : Chronicle) (l : ℕ) : Type 0 where
  pub dial : Dial
  pub stream : Granted
  pub dialed : chronicle.dial_of l ≡ Some dial
  pub granted : chronicle.stream_of (name.Link l) dial.vb ≡ Some stream
  pub opens : stream.over ≡ false
  pub whole : IsPutWhole stream.last
  pub unreadable : IsUnreadable chronicle dial.producer dial.vb stream.place

-- and so does one of the streams of a client's connection to the node n, which its own end is not due of
pub record ClientUnread (chronicle : Chronicle) (n : ℕ) (known : ClientKnown) : Type 0 where
  pub vb : ℕ
  pub stream : ClientStream
  pub known_as : known.streams vb ≡ Some stream
  pub opens : stream.over ≡ false
  pub unclosed : is_closed_by (served_frames known) vb ≡ false
  pub whole : IsPutWhole stream.last
  pub stays : stream.turned ≡ false
  pub goes_on : HasReached stream → ⊥
  pub active : chronicle.role_at n vb ≡ Some (Some Active)
  pub unreadable : IsUnreadable chronicle n vb stream.place

-- a `pump` or a `pull` ends with `disk` for such a stream; the window of a client's connection is open then
abbrev pub StopsForDisk : Chronicle → Verb → Type 0
StopsForDisk chronicle (verb.AtLink l (link_verb.Pump wanted)) = LinkUnread chronicle l
StopsForDisk chronicle (verb.AtClient n c (client_verb.Pull wanted)) = ClientUnread chronicle n (chronicle.clients_at n c) × (lets_through (flow_now (chronicle.clients_at n c)).window ≡ true)
StopsForDisk chronicle other = Unit {0}
