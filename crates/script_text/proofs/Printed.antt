-- lines and causes of a transcript in letters
use Rattle.std.proofs.Common.{refl}
use Rattle.std.specs.Prelude.{codes}
use Rattle.std.specs.Fmt.{digits}
use Rattle.vb_events.specs.declared.event.Cause.TheVariants as cause
use Rattle.script_text.specs.Transcript.{cause_text, event_text, place_text, link_text, extent_text, doc_text, hex_text}
use Rattle.script_text.specs.Printed.{CausesInLetters, LinesInLetters}
use Rattle.script_text.proofs.KindWords.{cause_of, cause_is}
use Rattle.script_text.proofs.Wordings.{word_of}

pub causes : CausesInLetters
causes = record {
  unknown_node = word_of cause_of cause_text cause_is cause.UnknownNode (codes "unknown-node") refl;
  node_exists = word_of cause_of cause_text cause_is cause.NodeExists (codes "node-exists") refl;
  unknown_vb = word_of cause_of cause_text cause_is cause.UnknownVb (codes "unknown-vb") refl;
  vb_exists = word_of cause_of cause_text cause_is cause.VbExists (codes "vb-exists") refl;
  limit = word_of cause_of cause_text cause_is cause.Limit (codes "limit") refl;
  uuid_zero = word_of cause_of cause_text cause_is cause.UuidZero (codes "uuid-zero") refl;
  uuid_used = word_of cause_of cause_text cause_is cause.UuidUsed (codes "uuid-used") refl;
  wrong_role = word_of cause_of cause_text cause_is cause.WrongRole (codes "wrong-role") refl;
  link_open = word_of cause_of cause_text cause_is cause.LinkOpen (codes "link-open") refl;
  link_closed = word_of cause_of cause_text cause_is cause.LinkClosed (codes "link-closed") refl;
}

pub lines : LinesInLetters
unfolding event_text place_text link_text extent_text doc_text hex_text digits
lines = record {
  branch = refl;
  first = refl;
  roles = refl;
  shown = refl;
  document = refl;
  range = refl;
  rolled = refl;
  marked = refl;
  item = refl;
  finished = refl;
  state_pending = refl;
  state_active = refl;
  closed = refl;
}
