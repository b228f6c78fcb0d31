-- short transcripts, and short texts that break off
use Rattle.std.specs.Prelude.{ℕ, List, [], ◌∷◌, codes}
use Rattle.vb_types.specs.declared.role.Role.TheVariants as role
use Rattle.vb_events.specs.declared.event.Answer.TheVariants as answer
use Rattle.vb_events.specs.declared.event.Event.{Event}
use Rattle.vb_events.specs.declared.event.Event.TheVariants as event
use Rattle.vb_events.specs.declared.event.Group.{Group}
use Rattle.vb_events.specs.declared.event.ItemAct.TheVariants as sent
use Rattle.vb_events.specs.declared.event.StreamName.TheVariants as stream
use Rattle.vb_events.specs.declared.event.Why.{Why}
use Rattle.vb_events.specs.declared.event.Why.TheVariants as why
use Rattle.vb_types.specs.declared.stream.AskAnswer.TheVariants as asked
use Rattle.script_text.specs.Letters.{some_ask, some_log}
use Rattle.script_text.specs.ReadBack.{IsTranscript, BreaksAt}

-- a group of this script line that was carried out, and of these events
abbrev pub carried_out : ℕ → List Event → Group
carried_out number events = record { line = number; events = events; answer = answer.Ok }

-- no group, one, and two; the widest numbers of a line; and zero
pub record ReadInLetters : Type 0 where
  pub empty : IsTranscript [] []
  pub one : IsTranscript (codes "#1\nok\n") (carried_out 1 [] ∷ [])
  pub two : IsTranscript (codes "#2\nclosed 0 0\nok\n#1\nok\n") (carried_out 2 (event.Closed 0 0 ∷ []) ∷ carried_out 1 [] ∷ [])
  pub wide : IsTranscript (codes "#1\nrole 255 65535 dead\nok\n") (carried_out 1 (event.Role 255 65535 role.Dead ∷ []) ∷ [])

-- a group of this script line that asked for frames: what was put, how many frames, and why no more
abbrev pub pulled : ℕ → List Event → ℕ → Why → Group
pulled number events frames why = record { line = number; events = events; answer = answer.Pulled frames why }

-- lines of a stream of a client's connection, and the widest numbers of one
pub record ClientsReadInLetters : Type 0 where
  pub asked : IsTranscript (codes "#1\nask C0.1 2 3 5 6 7 8 9 10 4 11:12,13:14 go\nok\n")
      (carried_out 1 (event.Asked (stream.Client 0 1) 2 3 some_ask 4 some_log asked.Go ∷ []) ∷ [])
  pub marked : IsTranscript (codes "#1\nmark C0.1 2 3 4\nok\n") (carried_out 1 (event.Marked (stream.Client 0 1) 2 3 4 ∷ []) ∷ [])
  pub item : IsTranscript (codes "#1\nitem C0.1 2 set 6b\nok\n") (carried_out 1 (event.Item (stream.Client 0 1) 2 sent.Set (0x6b ∷ []) ∷ []) ∷ [])
  pub finished : IsTranscript (codes "#1\nfin C0.1 2\nok\n") (carried_out 1 (event.Finished (stream.Client 0 1) 2 ∷ []) ∷ [])
  pub wide : IsTranscript (codes "#1\nfin C255.4294967295 2\nok\n") (carried_out 1 (event.Finished (stream.Client 255 4294967295) 2 ∷ []) ∷ [])

-- each role that a state tells, of a stream of a link and of a client's connection; the widest number of a link; and a pull that
-- waits for the answer to a state, with no frame, with some, and with the most
pub record StatesReadInLetters : Type 0 where
  pub pending : IsTranscript (codes "#1\nstate L1 pending\nok 4 wait-state\n") (pulled 1 (event.Stated (stream.Link 1) role.Pending ∷ []) 4 why.WaitState ∷ [])
  pub active : IsTranscript (codes "#1\nstate C0.1 active\nok 1 wait-state\n") (pulled 1 (event.Stated (stream.Client 0 1) role.Active ∷ []) 1 why.WaitState ∷ [])
  pub replica : IsTranscript (codes "#1\nstate L0 replica\nok\n") (carried_out 1 (event.Stated (stream.Link 0) role.Replica ∷ []) ∷ [])
  pub dead : IsTranscript (codes "#1\nstate L4294967295 dead\nok\n") (carried_out 1 (event.Stated (stream.Link 4294967295) role.Dead ∷ []) ∷ [])
  pub none : IsTranscript (codes "#1\nok 0 wait-state\n") (pulled 1 [] 0 why.WaitState ∷ [])
  pub most : IsTranscript (codes "#1\nok 18446744073709551615 wait-state\n") (pulled 1 [] 18446744073709551615 why.WaitState ∷ [])

-- Lines out of place; a last line with no newline; an end inside a group; and lines that are none: zeros in front, a number that
-- is too wide, a word too few and too many, two spaces, no word, an empty line, digits of the other case, and an unknown word.
pub record BreaksInLetters : Type 0 where
  pub event_outside : BreaksAt (codes "closed 0 1\n#1\nok\n") 1
  pub event_behind : BreaksAt (codes "#1\nok\nclosed 0 1\n") 3
  pub answer_outside : BreaksAt (codes "ok\n") 1
  pub head_inside : BreaksAt (codes "#1\n#2\nok\n") 2
  pub no_newline : BreaksAt (codes "#1\nok") 2
  pub no_newline_bad : BreaksAt (codes "#1\nok\nx") 3
  pub ends_at_head : BreaksAt (codes "#1\n") 2
  pub ends_at_event : BreaksAt (codes "#1\nok\n#2\nclosed 0 1\n") 5
  pub head_zeros : BreaksAt (codes "#007\nok\n") 1
  pub zeros : BreaksAt (codes "#1\nclosed 007 1\nok\n") 2
  pub node : BreaksAt (codes "#1\nclosed 256 1\nok\n") 2
  pub few : BreaksAt (codes "#1\nclosed 1\nok\n") 2
  pub many : BreaksAt (codes "#1\nclosed 1 1 1\nok\n") 2
  pub spaces : BreaksAt (codes "#1\nclosed 1  1\nok\n") 2
  pub no_line : BreaksAt (codes "#1\n\nok\n") 2
  pub other_case : BreaksAt (codes "#1\nreply 0 1 AB\nok\n") 2
  pub unknown : BreaksAt (codes "#1\nclose 0 1\nok\n") 2

-- Other spellings of a client's connection: zeros in front; no dot, and two; no number in front of the dot, behind it, and at
-- all; a number that is too wide; a letter of the other case, and a link's; and a sign.
pub record ClientsBreakInLetters : Type 0 where
  pub node_zeros : BreaksAt (codes "#1\nfin C00.1 2\nok\n") 2
  pub client_zeros : BreaksAt (codes "#1\nfin C0.01 2\nok\n") 2
  pub no_dot : BreaksAt (codes "#1\nfin C0 2\nok\n") 2
  pub two_dots : BreaksAt (codes "#1\nfin C0.1.2 2\nok\n") 2
  pub no_node : BreaksAt (codes "#1\nfin C.1 2\nok\n") 2
  pub no_client : BreaksAt (codes "#1\nfin C0. 2\nok\n") 2
  pub no_number : BreaksAt (codes "#1\nfin C 2\nok\n") 2
  pub node : BreaksAt (codes "#1\nfin C256.1 2\nok\n") 2
  pub client : BreaksAt (codes "#1\nfin C0.4294967296 2\nok\n") 2
  pub other_case : BreaksAt (codes "#1\nfin c0.1 2\nok\n") 2
  pub link : BreaksAt (codes "#1\nfin L0.1 2\nok\n") 2
  pub sign : BreaksAt (codes "#1\nfin C0.+1 2\nok\n") 2
  pub asked : BreaksAt (codes "#1\nask C00.1 2 3 5 6 7 8 9 10 4 - go\nok\n") 2
  pub marked : BreaksAt (codes "#1\nmark C0 2 3 4\nok\n") 2
  pub item : BreaksAt (codes "#1\nitem C0.01 2 set 6b\nok\n") 2

-- Other spellings of a state: a role of another case, no role, a word behind it, a role that is none, a number, and a word that goes
-- on; no stream, a stream of a number alone, with zeros in front, of the other case, that is too wide, and a vBucket of a node; the line's
-- word of another case, and another one. And other spellings of a pull that waits: of another case, with no dash, with a space,
-- a word that goes on or stops short, no number, and a word behind it.
pub record StatesBreakInLetters : Type 0 where
  pub other_case : BreaksAt (codes "#1\nstate L1 Pending\nok\n") 2
  pub no_role : BreaksAt (codes "#1\nstate L1\nok\n") 2
  pub more : BreaksAt (codes "#1\nstate L1 pending x\nok\n") 2
  pub no_such_role : BreaksAt (codes "#1\nstate L1 waiting\nok\n") 2
  pub number : BreaksAt (codes "#1\nstate L1 3\nok\n") 2
  pub longer : BreaksAt (codes "#1\nstate L1 actively\nok\n") 2
  pub no_stream : BreaksAt (codes "#1\nstate pending\nok\n") 2
  pub no_letter : BreaksAt (codes "#1\nstate 1 pending\nok\n") 2
  pub zeros : BreaksAt (codes "#1\nstate L01 pending\nok\n") 2
  pub small_letter : BreaksAt (codes "#1\nstate l1 pending\nok\n") 2
  pub wide : BreaksAt (codes "#1\nstate L4294967296 pending\nok\n") 2
  pub vb : BreaksAt (codes "#1\nstate 1 0 pending\nok\n") 2
  pub capital : BreaksAt (codes "#1\nState L1 pending\nok\n") 2
  pub other_word : BreaksAt (codes "#1\nstat L1 pending\nok\n") 2
  pub waits_case : BreaksAt (codes "#1\nok 4 wait-State\n") 2
  pub waits_no_dash : BreaksAt (codes "#1\nok 4 waitstate\n") 2
  pub waits_space : BreaksAt (codes "#1\nok 4 wait state\n") 2
  pub waits_longer : BreaksAt (codes "#1\nok 4 wait-stated\n") 2
  pub waits_shorter : BreaksAt (codes "#1\nok 4 wait-\n") 2
  pub waits_alone : BreaksAt (codes "#1\nok wait-state\n") 2
  pub waits_more : BreaksAt (codes "#1\nok 4 wait-state 4\n") 2

-- a pull that ends as a journal can't be read, with no frame, behind a marker of a disk snapshot, and with the most frames
pub record UnreadInLetters : Type 0 where
  pub none : IsTranscript (codes "#1\nok 0 disk\n") (pulled 1 [] 0 why.Disk ∷ [])
  pub marked : IsTranscript (codes "#1\nmark L1 0 2 2\nok 1 disk\n") (pulled 1 (event.Marked (stream.Link 1) 0 2 2 ∷ []) 1 why.Disk ∷ [])
  pub most : IsTranscript (codes "#1\nok 18446744073709551615 disk\n") (pulled 1 [] 18446744073709551615 why.Disk ∷ [])

-- Other spellings of it: of another case, a word that goes on or stops short, no number, a word behind it, a space behind it, and zeros in front.
pub record UnreadBreaksInLetters : Type 0 where
  pub other_case : BreaksAt (codes "#1\nok 0 Disk\n") 2
  pub longer : BreaksAt (codes "#1\nok 0 disks\n") 2
  pub shorter : BreaksAt (codes "#1\nok 0 dis\n") 2
  pub alone : BreaksAt (codes "#1\nok disk\n") 2
  pub more : BreaksAt (codes "#1\nok 0 disk 0\n") 2
  pub space : BreaksAt (codes "#1\nok 0 disk \n") 2
  pub zeros : BreaksAt (codes "#1\nok 00 disk\n") 2
