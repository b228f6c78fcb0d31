-- lines of a group behind others
use Rattle.std.specs.Prelude.{◌≡◌, ◌∷◌, ◌++◌}
use Rattle.transcript_law.proofs.Words.{ℕ, List, [], ap, refl, inl, inr, ⊎_elim, Event, Chronicle, after_line, after_lines, LawfulLine, LawfulFrom, StreamName}
use Rattle.mcbp_dcp.specs.declared.message.DcpMsg.{DcpMsg}
use Rattle.transcript_law.specs.{LawfulAnswers.{LawfulReply}, LawfulClients.{IsPut, StandsBehind}, StreamsTold.{Asking, ClientKnown}}

-- a line that stays lawful with more lines at the end of its group: any but that of a vBucket that is shown
abbrev pub IsQuiet : Event → Type 0
IsQuiet (Event.Shown n v role uuid at ss se docs preps) = ⊥
IsQuiet other = Unit {0}

-- all of them do
abbrev pub AreQuiet : List Event → Type 0
AreQuiet [] = Unit {0}
AreQuiet (line ∷ lines) = IsQuiet line × AreQuiet lines

-- the frame directly behind a line stays there
stands_more : (n c : ℕ) (bytes : List ℕ) (behind more : List Event) → StandsBehind n c bytes behind → StandsBehind n c bytes (behind ++ more)
stands_more n c bytes behind more (rest, is) = (rest ++ more, ap (λ lines. lines ++ more) is)

abbrev put_more : (n c : ℕ) (known : ClientKnown) (m : DcpMsg) (behind more : List Event) → IsPut n c known m behind → IsPut n c known m (behind ++ more)
put_more n c known m behind more put = record { bytes = put.bytes; stands = stands_more n c put.bytes behind more put.stands; stream = put.stream; known_as = put.known_as; spelled = put.spelled; unclosed = put.unclosed; through = put.through }

-- so does what tells that a connection closed, behind the answer to a fault
reply_more : (r : Chronicle) (n c : ℕ) (asking : Asking) (bytes : List ℕ) (behind more : List Event) → LawfulReply r n c asking bytes behind → LawfulReply r n c asking bytes (behind ++ more)
reply_more r n c asking bytes behind more l = ⊎_elim
    (λ x. inl x)
    (λ x. inr (record {
      none = x.none;
      fault = x.fault;
      stands = x.stands;
      head = x.head;
      named = x.named;
      spelled = x.spelled;
      closes = (x.closes.0 ++ more, ap (λ lines. lines ++ more) x.closes.1);
      calm = x.calm;
    }))
    l

-- a quiet line stays lawful with more lines at the end
pub quiet_lawful : (r : Chronicle) (line : Event) (behind more : List Event) → IsQuiet line → LawfulLine r line behind → LawfulLine r line (behind ++ more)
quiet_lawful r (Event.Shown n v role uuid at ss se docs preps) behind more q l = absurd q
quiet_lawful r (Event.Reply n c bytes) behind more q l = λ none. reply_more r n c (r.clients_at n c).asking bytes behind more (l none)
quiet_lawful r (Event.Asked (StreamName.Link k) n v ask high log said) behind more q l = l
quiet_lawful r (Event.Asked (StreamName.Client n c) m v ask high log said) behind more q l = record {
  own_node = l.own_node;
  request = l.request;
  next = l.next;
  numbers = l.numbers;
  vb = l.vb;
  answered = l.answered;
  own = l.own;
  reason = l.reason;
  frame = stands_more n c _ behind more l.frame;
}
quiet_lawful r (Event.Marked (StreamName.Link k) start end flags) behind more q l = l
quiet_lawful r (Event.Marked (StreamName.Client n c) start end flags) behind more q l = record { put = put_more n c (r.clients_at n c) _ behind more l.put; source = l.source; marker = l.marker }
quiet_lawful r (Event.Item (StreamName.Link k) seq act key) behind more q l = l
quiet_lawful r (Event.Item (StreamName.Client n c) seq act key) behind more q l = record {
  change = l.change;
  told = l.told;
  put = put_more n c (r.clients_at n c) _ behind more l.put;
  opens = l.opens;
  begun = l.begun;
  last = l.last;
  shown = l.shown;
  held = l.held;
  next = l.next;
  unreplaced = l.unreplaced;
}
quiet_lawful r (Event.Finished (StreamName.Link k) reason) behind more q l = l
quiet_lawful r (Event.Finished (StreamName.Client n c) reason) behind more q l = record { put = put_more n c (r.clients_at n c) _ behind more l.put; opens = l.opens; whole = l.whole; cause = l.cause }
quiet_lawful r (Event.Stated (StreamName.Link k) role) behind more q l = l
quiet_lawful r (Event.Stated (StreamName.Client n c) role) behind more q l = l
quiet_lawful r (Event.Got n v (StreamName.Link k) change) behind more q l = l
quiet_lawful r (Event.Got n v (StreamName.Client m c) change) behind more q l = l
quiet_lawful r (Event.Acknowledged (StreamName.Link k) n v seq saved) behind more q l = l
quiet_lawful r (Event.Acknowledged (StreamName.Client m c) n v seq saved) behind more q l = l
quiet_lawful r (Event.Counted (StreamName.Link k) n v member seq) behind more q l = l
quiet_lawful r (Event.Counted (StreamName.Client m c) n v member seq) behind more q l = l
quiet_lawful r line behind more q l = l

-- what is read of lines and then of others
pub after_more : (r : Chronicle) (lines more : List Event) → after_lines r (lines ++ more) ≡ after_lines (after_lines r lines) more
after_more r [] more = refl
after_more r (line ∷ lines) more = after_more (after_line r line) lines more

-- lawful lines, and lawful ones behind them
pub lawful_more : (r : Chronicle) (lines more : List Event) → AreQuiet lines → LawfulFrom r lines → LawfulFrom (after_lines r lines) more → LawfulFrom r (lines ++ more)
lawful_more r [] more q l m = m
lawful_more r (line ∷ lines) more q l m =
    (quiet_lawful r line lines more q.0 l.0, lawful_more (after_line r line) lines more q.1 l.1 m)

pub quiet_more : (lines more : List Event) → AreQuiet lines → AreQuiet more → AreQuiet (lines ++ more)
quiet_more [] more q m = m
quiet_more (line ∷ lines) more q m = (q.0, quiet_more lines more q.1 m)
