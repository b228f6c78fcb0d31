-- the words that tell of durable writes and of chains, of what is saved, of nodes that stop, and of windows
use Rattle.std.proofs.Common.{◌≡◌, ℕ, true, false, List, [], ◌∷◌, ◌++◌, Option, Some, refl, sym, ap, ◌∙◌, append_assoc}
use Rattle.std.specs.Prelude.{codes, decimal}
use Rattle.vb_types.specs.declared.change.Level.TheVariants as level
use Rattle.vb_events.specs.declared.event.Cause.TheVariants as cause
use Rattle.vb_events.specs.declared.event.EndReason.TheVariants as reason
use Rattle.vb_events.specs.declared.event.ItemAct.TheVariants as sent
use Rattle.vb_events.specs.declared.event.Why.TheVariants as why
use Rattle.vb_types.specs.declared.role.Role.TheVariants as role
use Rattle.script_text.specs.Numbers.{number_of}
use Rattle.script_text.specs.Grammar.{terms_in}
use Rattle.script_text.specs.Transcript.{act_text, cause_text, client_text, event_text, flag_text, level_text, link_text, place_text, reason_text, role_text, sent_text, spaced, why_text}
use Rattle.script_text.specs.Wordings.{IsWordOf, LevelsInWords, ActsInWords, DurableWords, ChainsInWords, ChainsAreRead, ChainsAreRefused, AcknowledgementWords, SavingInWords, SavingWords, StopsInWords, StopWords, StopsAreRead, StopsAreRefused, WindowWords, StateWords, LinksAreRead, LinksAreRefused, PullsAreRead, PullsAreRefused, TrimsAreRead, TrimsAreRefused}
use Rattle.script_text.proofs.KindWords.{level_of, level_is, sent_of, sent_is, flag_of, flag_is, role_of, role_is, cause_of, cause_is, reason_of, reason_is, why_of, why_is}

-- what is read back is the one thing of its word
pub word_of : {A : Type 0} (read : List ℕ → Option A) (text : A → List ℕ) (back : (a : A) → read (text a) ≡ Some a) (a : A) (word : List ℕ) → text a ≡ word → IsWordOf A text a word
word_of read text back a word is b = (λ e. let s : Some b ≡ Some a = sym (back b) ∙ ap read (e ∙ sym is) ∙ back a in cc, λ e. ap text e ∙ is)

pub levels : LevelsInWords
levels = record {
  majority = word_of level_of level_text level_is level.Majority (codes "1") refl;
  active = word_of level_of level_text level_is level.MajorityPersistActive (codes "2") refl;
  persist = word_of level_of level_text level_is level.PersistMajority (codes "3") refl;
}

pub acts : ActsInWords
acts = record {
  prepare = word_of sent_of sent_text sent_is sent.Prepare (codes "prepare") refl;
  commit = word_of sent_of sent_text sent_is sent.Commit (codes "commit") refl;
  abort = word_of sent_of sent_text sent_is sent.Abort (codes "abort") refl;
  deleted = word_of flag_of flag_text flag_is true (codes "1") refl;
  kept = word_of flag_of flag_text flag_is false (codes "0") refl;
  pending = word_of role_of role_text role_is role.Pending (codes "pending") refl;
}

pub lines : DurableWords
unfolding act_text event_text
lines = record { prepare = λ key level doc deleted. refl; commit = λ key prepared doc deleted. refl; abort = λ key prepared. refl; waits = λ key seq level. refl }

pub chains : ChainsInWords
chains = word_of cause_of cause_text cause_is cause.ChainBad (codes "chain-bad") refl

-- a link's name and a place's two words are among the words of a line
link_in_line : (word : List ℕ) (link node vb next : ℕ) (more : List (List ℕ))
    → spaced (word ∷ link_text link ∷ place_text node vb ∷ decimal next ∷ more)
    ≡ word ++ 32 ∷ (codes "L" ++ decimal link ++ 32 ∷ spaced (decimal node ∷ decimal vb ∷ decimal next ∷ more))
unfolding link_text place_text
link_in_line word link node vb next more =
    ap (λ rest. word ++ 32 ∷ (codes "L" ++ decimal link ++ 32 ∷ rest)) (append_assoc (decimal node) (32 ∷ decimal vb) (32 ∷ spaced (decimal next ∷ more)))

pub acknowledgements : AcknowledgementWords
unfolding event_text
acknowledgements = record {
  written = λ link node vb seq saved. link_in_line (codes "ack") link node vb seq (decimal saved ∷ []);
  counted = λ link node vb member seq. link_in_line (codes "acked") link node vb member (decimal seq ∷ []);
}

pub chains_read : ChainsAreRead
unfolding number_of
chains_read = record { alone = refl; one_other = refl; not_set = refl; most = refl; tick = refl }

pub chains_refused : ChainsAreRefused
unfolding number_of
chains_refused = record {
  too_many = refl;
  unset_too_many = refl;
  no_vb = refl;
  vb = refl;
  node = refl;
  member = refl;
  dashes = refl;
  last_member = refl;
  zeros = refl;
  own_dash = refl;
  tick_alone = refl;
  tick_more = refl;
  tick_vb = refl;
}

pub savings : SavingInWords
savings = record {
  batch_out = word_of cause_of cause_text cause_is cause.BatchOut (codes "batch-out") refl;
  nothing_taken = word_of cause_of cause_text cause_is cause.NothingTaken (codes "nothing-taken") refl;
  closed = word_of cause_of cause_text cause_is cause.Closed (codes "closed") refl;
  disk = word_of cause_of cause_text cause_is cause.Disk (codes "disk") refl;
  ended = word_of reason_of reason_text reason_is reason.Disk (codes "disk") refl;
  waits = word_of why_of why_text why_is why.WaitSaved (codes "wait-saved") refl;
  unread = word_of why_of why_text why_is why.Disk (codes "disk") refl;
}

-- a place's two words are among the words of a line
place_in_line : (word : List ℕ) (node vb next : ℕ) (more : List (List ℕ))
    → spaced (word ∷ place_text node vb ∷ decimal next ∷ more) ≡ spaced (word ∷ decimal node ∷ decimal vb ∷ decimal next ∷ more)
unfolding place_text
place_in_line word node vb next more = ap (λ rest. word ++ 32 ∷ rest) (append_assoc (decimal node) (32 ∷ decimal vb) (32 ∷ spaced (decimal next ∷ more)))

pub saving_lines : SavingWords
unfolding event_text link_text
saving_lines = record {
  batch = λ node vb ss se at count. place_in_line (codes "batch") node vb ss (decimal se ∷ decimal at ∷ decimal count ∷ []);
  stat = λ node vb windows items cursors saved high. place_in_line (codes "stat") node vb windows (decimal items ∷ decimal cursors ∷ decimal saved ∷ decimal high ∷ []);
  ended = λ link. refl;
  waits = λ frames. refl;
  unread = λ frames. refl;
}

pub stops : StopsInWords
stops = record {
  node_up = word_of cause_of cause_text cause_is cause.NodeUp (codes "node-up") refl;
  node_down = word_of cause_of cause_text cause_is cause.NodeDown (codes "node-down") refl;
  ids_short = word_of cause_of cause_text cause_is cause.IdsShort (codes "ids-short") refl;
  stopped = word_of cause_of cause_text cause_is cause.Stopped (codes "stopped") refl;
}

pub stop_lines : StopWords
unfolding event_text
stop_lines = record { failed = λ node. refl; stopped = λ node. refl }

pub stops_read : StopsAreRead
unfolding number_of
stops_read = record {
  stop_old = refl;
  stop_new = refl;
  stop_fill = refl;
  fail_none = refl;
  fail = refl;
  crash_old = refl;
  crash_new = refl;
  crash_fill = refl;
  start = refl;
  start_again = refl;
}

pub stops_refused : StopsAreRefused
unfolding number_of
stops_refused = record {
  call = refl;
  failing_call = refl;
  no_outcome = refl;
  byte = refl;
  no_byte = refl;
  zeros = refl;
  two_words = refl;
  other_word = refl;
  node = refl;
  no_node = refl;
  wide = refl;
}

pub windows : WindowWords
windows = record { full = word_of why_of why_text why_is why.Full (codes "full") refl; stops = λ frames. refl }

pub states : StateWords
unfolding event_text link_text client_text
states = record {
  waits = word_of why_of why_text why_is why.WaitState (codes "wait-state") refl;
  stops = λ frames. refl;
  link = λ link role. refl;
  client = λ node client role. ap (λ rest. codes "state C" ++ rest) (append_assoc (decimal node) (46 ∷ decimal client) (32 ∷ role_text role));
}

pub links_read : LinksAreRead
unfolding number_of terms_in
links_read = record { none = refl; some = refl; most = refl; least_over = refl; some_over = refl; most_over = refl }

pub links_refused : LinksAreRefused
unfolding number_of terms_in
links_refused = record {
  wide = refl;
  zeros = refl;
  two_zeros = refl;
  sign = refl;
  empty = refl;
  dash = refl;
  no_buffer = refl;
  no_mode = refl;
  other_mode = refl;
  more = refl;
  link = refl;
  producer = refl;
  node = refl;
  vb = refl;
  wide_over = refl;
  great_letter = refl;
  with_digit = refl;
  with_letter = refl;
  short = refl;
  both_modes = refl;
  more_over = refl;
  no_buffer_over = refl;
  space_over = refl;
  other_word = refl;
}

pub pulls_read : PullsAreRead
unfolding number_of
pulls_read = record { pull = refl; least = refl; most = refl; pump = refl; pump_least = refl; pump_most = refl }

pub pulls_refused : PullsAreRefused
unfolding number_of
pulls_refused = record {
  none = refl;
  too_many = refl;
  zeros = refl;
  empty = refl;
  no_count = refl;
  no_client = refl;
  two_counts = refl;
  node = refl;
  client = refl;
  dotted = refl;
  other_word = refl;
  pump_none = refl;
  pump_too_many = refl;
  pump_client = refl;
}

pub trims_read : TrimsAreRead
unfolding number_of
trims_read = record { trim = refl; trim_least = refl; trim_most = refl; drop = refl; drop_least = refl; drop_most = refl }

pub trims_refused : TrimsAreRefused
unfolding number_of
trims_refused = record {
  no_numbers = refl;
  no_vb = refl;
  more = refl;
  node = refl;
  vb = refl;
  zeros = refl;
  space = refl;
  great_letter = refl;
  other_word = refl;
  no_link = refl;
  drop_more = refl;
  drop_link = refl;
  drop_zeros = refl;
  drop_space = refl;
  drop_client = refl;
  drop_great_letter = refl;
  drop_other_word = refl;
}
