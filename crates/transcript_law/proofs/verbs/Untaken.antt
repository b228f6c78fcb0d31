-- lines of a script other than `up`, `down` and `pump` tell nothing that a takeover has a word on: no request, marker or end of a link's stream, and of links' ends cuts alone
use Rattle.std.specs.Prelude.{◌≡◌, ◌∷◌, ◌&&◌, ◌||◌, ◌==◌}
use Rattle.transcript_law.proofs.Words.{ℕ, Bool, true, false, List, [], refl, inl, ⊎_elim, and_parts, Option, Some, None, Answer, Chronicle, ClientVerb, Event, LinkVerb, NodeVerb, StreamName, Verb, VbVerb, after_line}
use Rattle.transcript_law.proofs.verbs.Tellings.{each_told}
use Rattle.transcript_law.specs.LinesTold.{Dial}
use Rattle.transcript_law.specs.TakeoverAnswers.{HandsOver, PumpsOn}
use Rattle.transcript_law.specs.TakeoverLines.{TakeoverFrom, TakeoverLine}
use Rattle.transcript_law.specs.Takeovers.{MovesAt, TellsMove, TellsOnly}
use Rattle.transcript_law.specs.Tellings.{TellsOf, are_all, at_client, at_link, at_node, at_vb, is_none, is_of_ack, is_of_batch, is_of_client, is_of_clients, is_of_cut, is_of_disk, is_of_end, is_of_feed, is_of_image, is_of_log, is_of_pull, is_of_role, is_of_show, is_of_start, is_of_stat, is_of_turn, may_tell}
use Rattle.vb_events.specs.declared.event.EndReason.{EndReason}

-- a line of which nothing is said there
abbrev pub is_beside : Event → Bool
is_beside (Event.Asked (StreamName.Link l) n v ask high log said) = false
is_beside (Event.Marked (StreamName.Link l) start end flags) = false
is_beside (Event.Finished (StreamName.Link l) why) = false
is_beside (Event.Stated (StreamName.Link l) role) = false
is_beside (Event.Ended l EndReason.Cut) = true
is_beside (Event.Ended l why) = false
is_beside other = true

line_beside : (r : Chronicle) (line : Event) → is_beside line ≡ true → TakeoverLine r line
line_beside r (Event.Asked (StreamName.Link l) n v ask high log said) e = cc
line_beside r (Event.Marked (StreamName.Link l) start end flags) e = cc
line_beside r (Event.Finished (StreamName.Link l) why) e = cc
line_beside r (Event.Stated (StreamName.Link l) role) e = cc
line_beside r (Event.Ended l EndReason.Cut) e = λ dial t. tt
line_beside r (Event.Ended l why) e = cc
line_beside r other e = tt

pub lines_beside : (r : Chronicle) (lines : List Event) → are_all is_beside lines ≡ true → TakeoverFrom r lines
lines_beside r [] a = tt
lines_beside r (line ∷ lines) a = let p = and_parts (is_beside line) (are_all is_beside lines) a in (line_beside r line p.0, lines_beside (after_line r line) lines p.1)

-- ---- what may be told of each

-- one or the other
either : (a b : Bool) (Q : Type 0) → (a ≡ true → Q) → (b ≡ true → Q) → (a || b) ≡ true → Q
either true b Q f g e = f refl
either false b Q f g e = g e

of_clients : (n : ℕ) (line : Event) → is_of_clients n line ≡ true → is_beside line ≡ true
of_clients n (Event.Asked (StreamName.Link l) m v ask high log said) e = cc
of_clients n (Event.Marked (StreamName.Link l) start end flags) e = cc
of_clients n (Event.Finished (StreamName.Link l) why) e = cc
of_clients n (Event.Stated (StreamName.Link l) role) e = cc
of_clients n (Event.Ended l EndReason.Cut) e = refl
of_clients n (Event.Ended l why) e = cc
of_clients n other e = refl

of_client : (n c : ℕ) (line : Event) → is_of_client n c line ≡ true → is_beside line ≡ true
of_client n c (Event.Asked (StreamName.Link l) m v ask high log said) e = cc
of_client n c (Event.Marked (StreamName.Link l) start end flags) e = cc
of_client n c (Event.Finished (StreamName.Link l) why) e = cc
of_client n c (Event.Stated (StreamName.Link l) role) e = cc
of_client n c (Event.Ended l EndReason.Cut) e = refl
of_client n c (Event.Ended l why) e = cc
of_client n c other e = refl

of_pull : (n c : ℕ) (line : Event) → is_of_pull n c line ≡ true → is_beside line ≡ true
of_pull n c (Event.Asked (StreamName.Link l) m v ask high log said) e = cc
of_pull n c (Event.Marked (StreamName.Link l) start end flags) e = cc
of_pull n c (Event.Finished (StreamName.Link l) why) e = cc
of_pull n c (Event.Stated (StreamName.Link l) role) e = cc
of_pull n c (Event.Ended l EndReason.Cut) e = refl
of_pull n c (Event.Ended l why) e = cc
of_pull n c other e = refl

pub of_end : (r : Chronicle) (n : ℕ) (line : Event) → is_of_end r n line ≡ true → is_beside line ≡ true
of_end r n (Event.Asked (StreamName.Link l) m v ask high log said) e = cc
of_end r n (Event.Marked (StreamName.Link l) start end flags) e = cc
of_end r n (Event.Finished (StreamName.Link l) why) e = cc
of_end r n (Event.Stated (StreamName.Link l) role) e = cc
of_end r n (Event.Ended l EndReason.Cut) e = refl
of_end r n (Event.Ended l why) e = cc
of_end r n other e = refl

of_disk : (n : ℕ) (line : Event) → is_of_disk n line ≡ true → is_beside line ≡ true
of_disk n (Event.Asked (StreamName.Link l) m v ask high log said) e = cc
of_disk n (Event.Marked (StreamName.Link l) start end flags) e = cc
of_disk n (Event.Finished (StreamName.Link l) why) e = cc
of_disk n (Event.Stated (StreamName.Link l) role) e = cc
of_disk n (Event.Ended l EndReason.Cut) e = refl
of_disk n (Event.Ended l why) e = cc
of_disk n other e = refl

of_role : (n v : ℕ) (line : Event) → is_of_role n v line ≡ true → is_beside line ≡ true
of_role n v (Event.Asked (StreamName.Link l) m u ask high log said) e = cc
of_role n v (Event.Marked (StreamName.Link l) start end flags) e = cc
of_role n v (Event.Finished (StreamName.Link l) why) e = cc
of_role n v (Event.Stated (StreamName.Link l) role) e = cc
of_role n v (Event.Ended l EndReason.Cut) e = refl
of_role n v (Event.Ended l why) e = cc
of_role n v other e = refl

of_feed : (r : Chronicle) (n v : ℕ) (line : Event) → is_of_feed r n v line ≡ true → is_beside line ≡ true
of_feed r n v (Event.Asked (StreamName.Link l) m u ask high log said) e = cc
of_feed r n v (Event.Marked (StreamName.Link l) start end flags) e = cc
of_feed r n v (Event.Finished (StreamName.Link l) why) e = cc
of_feed r n v (Event.Stated (StreamName.Link l) role) e = cc
of_feed r n v (Event.Ended l EndReason.Cut) e = refl
of_feed r n v (Event.Ended l why) e = cc
of_feed r n v other e = refl

of_turn : (r : Chronicle) (n v : ℕ) (line : Event) → is_of_turn r n v line ≡ true → is_beside line ≡ true
of_turn r n v line = either (is_of_role n v line || is_of_clients n line) (is_of_feed r n v line) (is_beside line ≡ true)
    (either (is_of_role n v line) (is_of_clients n line) (is_beside line ≡ true) (of_role n v line) (of_clients n line)) (of_feed r n v line)

of_start : (n : ℕ) (line : Event) → is_of_start n line ≡ true → is_beside line ≡ true
of_start n (Event.Asked (StreamName.Link l) m v ask high log said) e = cc
of_start n (Event.Marked (StreamName.Link l) start end flags) e = cc
of_start n (Event.Finished (StreamName.Link l) why) e = cc
of_start n (Event.Stated (StreamName.Link l) role) e = cc
of_start n (Event.Ended l EndReason.Cut) e = refl
of_start n (Event.Ended l why) e = cc
of_start n other e = refl

of_batch : (n v : ℕ) (line : Event) → is_of_batch n v line ≡ true → is_beside line ≡ true
of_batch n v (Event.Batch m u ss se at count) e = refl
of_batch n v other e = cc

of_ack : (n v : ℕ) (line : Event) → is_of_ack n v line ≡ true → is_beside line ≡ true
of_ack n v (Event.Acknowledged stream m u seq saved) e = refl
of_ack n v other e = cc

of_stat : (n v : ℕ) (line : Event) → is_of_stat n v line ≡ true → is_beside line ≡ true
of_stat n v (Event.Stat m u windows items cursors saved high) e = refl
of_stat n v other e = cc

of_log : (n v : ℕ) (line : Event) → is_of_log n v line ≡ true → is_beside line ≡ true
of_log n v (Event.Logged m u log) e = refl
of_log n v other e = cc

of_image : (line : Event) → is_of_image line ≡ true → is_beside line ≡ true
of_image (Event.Document key doc) e = refl
of_image (Event.Prepared key seq level) e = refl
of_image other e = cc

of_show : (n v : ℕ) (line : Event) → is_of_show n v line ≡ true → is_beside line ≡ true
of_show n v (Event.Shown m u role uuid at ss se docs preps) e = refl
of_show n v other e = cc

of_cut : (l : ℕ) (line : Event) → is_of_cut l line ≡ true → is_beside line ≡ true
of_cut l (Event.Ended k EndReason.Cut) e = refl
of_cut l other e = cc

of_none : (line : Event) → is_none line ≡ true → is_beside line ≡ true
of_none line e = cc

-- ---- by the line of the script

-- a line that takes no part in a takeover
abbrev pub is_apart : Verb → Bool
is_apart (Verb.AtLink l (LinkVerb.Up wanted)) = false
is_apart (Verb.AtLink l (LinkVerb.Down wanted)) = false
is_apart (Verb.AtLink l (LinkVerb.Pump wanted)) = false
is_apart other = true

at_node_beside : (r : Chronicle) (n : ℕ) (what : NodeVerb) (line : Event) → at_node r n what line ≡ true → is_beside line ≡ true
at_node_beside r n (NodeVerb.Crash out) line e = of_end r n line e
at_node_beside r n (NodeVerb.Start uuids) line e = of_start n line e
at_node_beside r n other line e = of_none line e

at_vb_beside : (r : Chronicle) (n v : ℕ) (what : VbVerb) (line : Event) → at_vb r n v what line ≡ true → is_beside line ≡ true
at_vb_beside r n v (VbVerb.MakeActive uuid) line = either (is_of_role n v line) (is_of_disk n line) (is_beside line ≡ true) (of_role n v line) (of_disk n line)
at_vb_beside r n v VbVerb.MakeReplica line = either (is_of_role n v line) (is_of_disk n line) (is_beside line ≡ true) (of_role n v line) (of_disk n line)
at_vb_beside r n v (VbVerb.Chain others) line = of_clients n line
at_vb_beside r n v (VbVerb.Promote uuid) line = either (is_of_turn r n v line) (is_of_disk n line) (is_beside line ≡ true) (of_turn r n v line) (of_disk n line)
at_vb_beside r n v VbVerb.Follow line = either (is_of_turn r n v line) (is_of_disk n line) (is_beside line ≡ true) (of_turn r n v line) (of_disk n line)
at_vb_beside r n v VbVerb.Dead line = either (is_of_turn r n v line) (is_of_disk n line) (is_beside line ≡ true) (of_turn r n v line) (of_disk n line)
at_vb_beside r n v VbVerb.Tick line = of_clients n line
at_vb_beside r n v VbVerb.Trim line = of_none line
at_vb_beside r n v VbVerb.Seal line = of_none line
at_vb_beside r n v VbVerb.Take line = of_batch n v line
at_vb_beside r n v VbVerb.Save line = of_disk n line
at_vb_beside r n v VbVerb.Done line = either (is_of_clients n line) (is_of_ack n v line) (is_beside line ≡ true) (of_clients n line) (of_ack n v line)
at_vb_beside r n v VbVerb.Stat line = of_stat n v line
at_vb_beside r n v VbVerb.Log line = of_log n v line
at_vb_beside r n v VbVerb.Show line = either (is_of_show n v line) (is_of_image line) (is_beside line ≡ true) (of_show n v line) (of_image line)

at_client_beside : (n c : ℕ) (what : ClientVerb) (line : Event) → at_client n c what line ≡ true → is_beside line ≡ true
at_client_beside n c (ClientVerb.Bytes bytes) line e = of_client n c line e
at_client_beside n c (ClientVerb.Pull wanted) line e = of_pull n c line e
at_client_beside n c other line e = of_none line e

at_cut_beside : (dial : Option Dial) (l : ℕ) (line : Event) → at_link dial l LinkVerb.Cut line ≡ true → is_beside line ≡ true
at_cut_beside None l line e = of_none line e
at_cut_beside (Some dial) l line e = of_cut l line e

at_drop_beside : (dial : Option Dial) (l : ℕ) (line : Event) → at_link dial l LinkVerb.Drop line ≡ true → is_beside line ≡ true
at_drop_beside None l line e = of_none line e
at_drop_beside (Some dial) l line e = of_none line e

may_beside : (r : Chronicle) (asked : Verb) → is_apart asked ≡ true → (line : Event) → may_tell r asked line ≡ true → is_beside line ≡ true
may_beside r (Verb.Node n) apart line e = of_none line e
may_beside r (Verb.Link l m n v buffer takeover) apart line e = of_none line e
may_beside r (Verb.AtNode n what) apart line e = at_node_beside r n what line e
may_beside r (Verb.AtVb n v what) apart line e = at_vb_beside r n v what line e
may_beside r (Verb.AtClient n c what) apart line e = at_client_beside n c what line e
may_beside r (Verb.AtLink l (LinkVerb.Up wanted)) apart line e = cc
may_beside r (Verb.AtLink l (LinkVerb.Down wanted)) apart line e = cc
may_beside r (Verb.AtLink l (LinkVerb.Pump wanted)) apart line e = cc
may_beside r (Verb.AtLink l LinkVerb.Drop) apart line e = at_drop_beside (r.dial_of l) l line e
may_beside r (Verb.AtLink l LinkVerb.Cut) apart line e = at_cut_beside (r.dial_of l) l line e

pub all_beside : (r : Chronicle) (asked : Verb) (lines : List Event) → is_apart asked ≡ true → TellsOf r asked lines → are_all is_beside lines ≡ true
all_beside r asked lines apart t = each_told (may_tell r asked) (is_of_end r) is_beside (may_beside r asked apart) (λ m stops line e. of_end r m line e) lines t

-- the group of such a line tells of nothing but what its line may, and hands no vBucket over
pub hands_beside : (r : Chronicle) (asked : Verb) (lines : List Event) (said : Answer) → is_apart asked ≡ true → TellsOf r asked lines → HandsOver r asked lines said
hands_beside r asked lines said apart t = record {
  tells = inl t;
  each = lines_beside r lines (all_beside r asked lines apart t);
  pumps = by asked apart;
}
  where
    by : (asked : Verb) → is_apart asked ≡ true → PumpsOn r asked lines said
    by (Verb.AtLink l (LinkVerb.Pump wanted)) e = cc
    by other e = tt

-- ---- what is told of each line

-- by what it may tell; by a `down` a vBucket may take over, or be about to, and of a `pump` nothing is said here
abbrev pub ToldBy : Chronicle → Verb → List Event → Type 0
ToldBy r (Verb.AtLink l (LinkVerb.Down wanted)) lines = TellsOnly r (Verb.AtLink l (LinkVerb.Down wanted)) lines
ToldBy r (Verb.AtLink l (LinkVerb.Pump wanted)) lines = Unit {0}
ToldBy r other lines = TellsOf r other lines

-- lines by which no vBucket is handed over tell of nothing else
apart_tells : (r : Chronicle) (asked : Verb) (lines : List Event) → (TellsMove r asked lines → ⊥) → TellsOnly r asked lines → TellsOf r asked lines
apart_tells r asked lines none t = ⊎_elim (λ told. told) (λ m. absurd (none m)) t

up_moves : (r : Chronicle) (dial : Option Dial) (l wanted : ℕ) (lines : List Event) → MovesAt r dial l (LinkVerb.Up wanted) lines → ⊥
up_moves r None l wanted lines m = m
up_moves r (Some dial) l wanted lines m = m

cut_moves : (r : Chronicle) (dial : Option Dial) (l : ℕ) (lines : List Event) → MovesAt r dial l LinkVerb.Cut lines → ⊥
cut_moves r None l lines m = m
cut_moves r (Some dial) l lines m = m

drop_moves : (r : Chronicle) (dial : Option Dial) (l : ℕ) (lines : List Event) → MovesAt r dial l LinkVerb.Drop lines → ⊥
drop_moves r None l lines m = m
drop_moves r (Some dial) l lines m = m

pub told_by : (r : Chronicle) (asked : Verb) (lines : List Event) → TellsOnly r asked lines → ToldBy r asked lines
told_by r (Verb.Node n) lines t = apart_tells r (Verb.Node n) lines (λ m. m) t
told_by r (Verb.Link l m n v buffer takeover) lines t = apart_tells r (Verb.Link l m n v buffer takeover) lines (λ y. y) t
told_by r (Verb.AtNode n what) lines t = apart_tells r (Verb.AtNode n what) lines (λ m. m) t
told_by r (Verb.AtVb n v what) lines t = apart_tells r (Verb.AtVb n v what) lines (λ m. m) t
told_by r (Verb.AtClient n c what) lines t = apart_tells r (Verb.AtClient n c what) lines (λ m. m) t
told_by r (Verb.AtLink l (LinkVerb.Up wanted)) lines t = apart_tells r (Verb.AtLink l (LinkVerb.Up wanted)) lines (up_moves r (r.dial_of l) l wanted lines) t
told_by r (Verb.AtLink l (LinkVerb.Down wanted)) lines t = t
told_by r (Verb.AtLink l (LinkVerb.Pump wanted)) lines t = tt
told_by r (Verb.AtLink l LinkVerb.Drop) lines t = apart_tells r (Verb.AtLink l LinkVerb.Drop) lines (drop_moves r (r.dial_of l) l lines) t
told_by r (Verb.AtLink l LinkVerb.Cut) lines t = apart_tells r (Verb.AtLink l LinkVerb.Cut) lines (cut_moves r (r.dial_of l) l lines) t
