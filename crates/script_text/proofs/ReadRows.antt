-- short transcripts are read, and short texts that are none break off where they do
use Rattle.std.proofs.Common.{refl}
use Rattle.std.specs.Fmt.{digits}
use Rattle.hex.specs.Hex.{encode_with, decode_pairs}
use Rattle.script_text.specs.Numbers.{number_of}
use Rattle.script_text.specs.Grammar.{hex_bytes_of}
use Rattle.script_text.specs.Transcript.{hex_text, place_text, link_text, client_text, ask_text, request_text, entry_text, event_text}
use Rattle.script_text.specs.Taken.{as_bytes, as_log}
use Rattle.script_text.specs.TakenLines.{line_taken}
use Rattle.script_text.specs.ReadBack.{line_text, line_of, transcript_of}
use Rattle.script_text.specs.ReadRows.{ReadInLetters, ClientsReadInLetters, StatesReadInLetters, BreaksInLetters, ClientsBreakInLetters, StatesBreakInLetters, UnreadInLetters, UnreadBreaksInLetters}
use Rattle.script_text.proofs.ReadLaws.{found, broken}

pub read : ReadInLetters
unfolding transcript_of line_of line_taken line_text event_text place_text number_of digits
read = record {
  empty = found _ _ refl;
  one = found _ _ refl;
  two = found _ _ refl;
  wide = found _ _ refl;
}

pub breaks : BreaksInLetters
unfolding transcript_of line_of line_taken line_text event_text place_text hex_text as_bytes hex_bytes_of number_of digits encode_with decode_pairs
breaks = record {
  event_outside = broken _ _ refl;
  event_behind = broken _ _ refl;
  answer_outside = broken _ _ refl;
  head_inside = broken _ _ refl;
  no_newline = broken _ _ refl;
  no_newline_bad = broken _ _ refl;
  ends_at_head = broken _ _ refl;
  ends_at_event = broken _ _ refl;
  head_zeros = broken _ _ refl;
  zeros = broken _ _ refl;
  node = broken _ _ refl;
  few = broken _ _ refl;
  many = broken _ _ refl;
  spaces = broken _ _ refl;
  no_line = broken _ _ refl;
  other_case = broken _ _ refl;
  unknown = broken _ _ refl;
}

pub clients : ClientsReadInLetters
unfolding transcript_of line_of line_taken line_text event_text place_text client_text ask_text request_text entry_text hex_text as_log as_bytes hex_bytes_of number_of digits encode_with decode_pairs
clients = record {
  asked = found _ _ refl;
  marked = found _ _ refl;
  item = found _ _ refl;
  finished = found _ _ refl;
  wide = found _ _ refl;
}

pub clients_break : ClientsBreakInLetters
unfolding transcript_of line_of line_taken line_text event_text place_text link_text client_text ask_text request_text hex_text as_log as_bytes hex_bytes_of number_of digits encode_with decode_pairs
clients_break = record {
  node_zeros = broken _ _ refl;
  client_zeros = broken _ _ refl;
  no_dot = broken _ _ refl;
  two_dots = broken _ _ refl;
  no_node = broken _ _ refl;
  no_client = broken _ _ refl;
  no_number = broken _ _ refl;
  node = broken _ _ refl;
  client = broken _ _ refl;
  other_case = broken _ _ refl;
  link = broken _ _ refl;
  sign = broken _ _ refl;
  asked = broken _ _ refl;
  marked = broken _ _ refl;
  item = broken _ _ refl;
}

pub states : StatesReadInLetters
unfolding transcript_of line_of line_taken line_text event_text link_text client_text number_of digits
states = record {
  pending = found _ _ refl;
  active = found _ _ refl;
  replica = found _ _ refl;
  dead = found _ _ refl;
  none = found _ _ refl;
  most = found _ _ refl;
}

pub states_break : StatesBreakInLetters
unfolding transcript_of line_of line_taken line_text event_text place_text link_text client_text number_of digits
states_break = record {
  other_case = broken _ _ refl;
  no_role = broken _ _ refl;
  more = broken _ _ refl;
  no_such_role = broken _ _ refl;
  number = broken _ _ refl;
  longer = broken _ _ refl;
  no_stream = broken _ _ refl;
  no_letter = broken _ _ refl;
  zeros = broken _ _ refl;
  small_letter = broken _ _ refl;
  wide = broken _ _ refl;
  vb = broken _ _ refl;
  capital = broken _ _ refl;
  other_word = broken _ _ refl;
  waits_case = broken _ _ refl;
  waits_no_dash = broken _ _ refl;
  waits_space = broken _ _ refl;
  waits_longer = broken _ _ refl;
  waits_shorter = broken _ _ refl;
  waits_alone = broken _ _ refl;
  waits_more = broken _ _ refl;
}

pub unread : UnreadInLetters
unfolding transcript_of line_of line_taken line_text event_text link_text number_of digits
unread = record { none = found _ _ refl; marked = found _ _ refl; most = found _ _ refl }

pub unread_breaks : UnreadBreaksInLetters
unfolding transcript_of line_of line_taken line_text event_text link_text number_of digits
unread_breaks = record {
  other_case = broken _ _ refl;
  longer = broken _ _ refl;
  shorter = broken _ _ refl;
  alone = broken _ _ refl;
  more = broken _ _ refl;
  space = broken _ _ refl;
  zeros = broken _ _ refl;
}
