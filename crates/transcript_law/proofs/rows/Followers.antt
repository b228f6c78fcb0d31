-- transcripts of a replica that follows, judged by hand
use Rattle.std.specs.Prelude.{◌≡◌, ◌<◌, ◌≤◌, ◌∷◌, ◌++◌, ◌==◌, ◌&&◌, if◌then◌else◌}
use Rattle.transcript_law.proofs.Words.{ℕ, suc, is_some, List, [], length, map, take, drop, refl, ap, sym, subst, ◌∙◌, ⊎_elim, inl, inr, arith, eqb-true, Option, Some, None}
use Rattle.transcript_law.proofs.Words.{nat_list_cmp_total, key_cmp, Change, Pend, Event, LogEntry, Continue, Roll, Rises, IsIn, Picture, image_of, is_older, last_seq, StandsAs, IsOf, front, uuid_of, Covers, Branch}
use Rattle.transcript_law.proofs.Words.{Role, rises_in, document_line, prepare_line, image_lines, ItemLine, Begun, Granted, Dial, Chronicle, granted, is_dial_of, empty_chronicle, after_lines, item_of_change}
use Rattle.transcript_law.proofs.Words.{IsMarker, IsNextItem, LawfulAsk, LawfulMark, LawfulItem, LawfulFrom, Lawful, frames_in_lines, first_doc, one_change, two_followed, next_change, log_of, ask_within}
use Rattle.transcript_law.proofs.{Words.{granted_inside, after_both, made_from, marker_line, first_item_line, both_sent_lines}, rows.Transcripts.{no_entries, docs}, rows.AskedTests.{is_asked_so}, rows.Ended.{is_quiet}, rows.Groups.{all_stored, AreFired, AreTold, both_left, fired_all, is_answered_so, is_unclosed, none_stored}, rows.StoredRows.{made_stored}, rows.NextRows.{first_next, second_next}, rows.Sets.{first_told, heard_then, next_told, nine_sent, nine_then, seven_past, seven_then}, rows.Silent.{silent_heard, silent_start}}
use Rattle.{std.specs.List.{list_any}, branch_model.proofs.Lists.{last_in}, std.proofs.Common.{◌⊎◌}, std.specs.Prelude.{Bool, true, false}, transcript_law.specs.Followers.{ask_above, ask_lines, other_ask_lines, late_ask_lines, granted_lines}}
use Rattle.transcript_law.specs.Followers.{adopted_lines, stranger_lines, ended_lines, both_got, again_got, followed_groups, dialed_elsewhere, made_dead, replica_ask_lines, made_ask_lines, set_item_line, next_item_line}
use Rattle.{transcript_law.specs.Tellings.{TellsOf, are_told, at_link, at_vb, is_of_end}, transcript_law.specs.LineAnswers.{IsCarriedOut}, transcript_law.specs.Followers.{show_answer, replica_shown, two_docs, third_doc, ask_groups, answered_so, adopted_so, sent_so, got_so, shown_so}, transcript_law.specs.Chronicles.{at_line, is_rollback}, transcript_law.specs.Lawfulness.{IsFrontOf, IsStream}, transcript_law.specs.Prefixes.{known_after}}
use Rattle.{transcript_law.specs.Bound.{IsAnswered, IsBound, bound_by, if_down, if_over, is_told_down}, transcript_law.specs.LineAnswers.{LawfulAnswer}, script_text.specs.declared.verb.Verb.{Verb}, vb_types.specs.Histories.{Slot, touches}, vb_types.specs.Images.{settled}, vb_events.specs.declared.event.Answer.{Answer}, vb_events.specs.declared.event.Group.{Group}}
use Rattle.{vb_events.specs.declared.event.ItemAct.TheVariants.{Set}, vb_events.specs.declared.event.StreamName.TheVariants.{Link}}
use Rattle.std.specs.FinMap as finite
use Rattle.transcript_law.specs.Undone.{AllAcknowledged, IsDue, LeavesNone, is_taking}
use Rattle.vb_types.specs.declared.stream.AskAnswer.TheVariants as ask_answer
use Rattle.vb_events.specs.declared.event.Answer.TheVariants as answer
use Rattle.vb_events.specs.declared.event.Why.TheVariants as why
use Rattle.script_text.specs.declared.verb.Verb.TheVariants as verb
use Rattle.script_text.specs.declared.verb.VbVerb.TheVariants as vb_verb
use Rattle.script_text.specs.declared.verb.LinkVerb.{LinkVerb}
use Rattle.script_text.specs.declared.verb.LinkVerb.TheVariants as link_verb
use Rattle.transcript_law.specs.LinesTold.{LastLine}
use Rattle.transcript_law.proofs.lines.Rises.{made_here}
use Rattle.transcript_law.proofs.links.Sources.{from_memory}
use Rattle.transcript_law.proofs.lines.Takeovers.{front_follows, none_known}
use Rattle.transcript_law.proofs.rows.Groups.{are_plain}
use Rattle.transcript_law.proofs.verbs.Handing.{no_rise, plain_all}
use Rattle.transcript_law.specs.Chronicles.{is_rise}
use Rattle.transcript_law.specs.Takeovers.{AllFollow}

infixr 2 ◌▹◌
-- a pair
pub ◌▹◌ : {A B : Type 0} → A → B → A × B
a ▹ b = (a, b)

-- the changes, and their image

abbrev pub changes : List Change
changes = one_change ∷ next_change ∷ []

abbrev image : Picture
image = image_of changes

both_docs : finite.entries image.docs ≡ (7 ∷ [], first_doc 1 (8 ∷ [])) ∷ (9 ∷ [], first_doc 2 (6 ∷ [])) ∷ []
both_docs = finite.entries-insert nat_list_cmp_total (image_of (one_change ∷ [])).docs (9 ∷ []) (first_doc 2 (6 ∷ [])) ∙ ap (λ es. finite.put key_cmp (9 ∷ []) (first_doc 2 (6 ∷ [])) es) docs

nothing_settled : (seq : ℕ) (key : List ℕ) → settled finite.empty seq key ≡ finite.empty
nothing_settled seq key = ap (λ o. if is_older seq o then finite.remove {R = key_cmp} finite.empty key else finite.empty) (finite.get-empty key_cmp key)

no_pending : finite.entries image.pending ≡ []
no_pending = ap (λ pends. finite.entries (settled pends 2 (9 ∷ []))) (nothing_settled 1 (7 ∷ [])) ∙ ap (λ (pends : finite.FinMap key_cmp Pend). finite.entries pends) (nothing_settled 2 (9 ∷ [])) ∙ no_entries Pend

image_told : image_lines image ≡ two_docs
image_told = ap (λ ds. map document_line ds ++ map prepare_line (finite.entries image.pending)) both_docs ∙ ap (λ ps. two_docs ++ map prepare_line ps) no_pending

-- one of the changes is the first or the next

pub one_of : (c : Change) → IsIn c changes → (c ≡ one_change) ⊎ (c ≡ next_change)
one_of c i = ⊎_elim (λ e. inl e) (λ j. ⊎_elim (λ e. inr e) (λ k. absurd k) j) i

-- a change in another list has its seqno and key

pub seq_as : (x c : Change) → StandsAs x c → x.seq ≡ c.seq
seq_as x c stands = ⊎_elim (λ e. ap (λ (y : Change). y.seq) e) (λ e. ap (λ (y : Change). y.seq) e) stands

pub key_as : (x c : Change) → StandsAs x c → x.key ≡ c.key
key_as x c stands = ⊎_elim (λ e. ap (λ (y : Change). y.key) e) (λ e. ap (λ (y : Change). y.key) e) stands

-- whole snapshots of them

pub both_cover : Covers changes changes 0 2
both_cover = record {
  goes_on = omega arith;
  remains = record { rises = (omega arith, (omega arith, omega arith)); of = λ x i. (x, i, inl refl); has = λ s c e a b. (c, (last_in (touches s) changes c e).0, inl refl) };
  reaches = refl;
}

first_covers : Covers (one_change ∷ []) changes 0 1
first_covers = record {
  goes_on = omega arith;
  remains = record { rises = (omega arith, omega arith); of = λ x i. (x, ⊎_elim (λ e. inl e) (λ k. absurd k) i, inl refl); has = λ s c e a b. (c, (last_in (touches s) (one_change ∷ []) c e).0, inl refl) };
  reaches = refl;
}

pub next_covers : Covers (next_change ∷ []) changes 1 2
next_covers = record {
  goes_on = omega arith;
  remains = record {
    rises = (omega arith, omega arith);
    of = λ x i. (x, ⊎_elim (λ e. inr (inl e)) (λ k. absurd k) i, inl refl);
    has = λ s c e a b. ⊎_elim (λ one. let n : c.seq ≡ 1 = ap (λ (x : Change). x.seq) one in absurd (omega arith)) (λ next. (c, inl next, inl refl)) (one_of c (last_in (touches s) changes c e).0);
  };
  reaches = refl;
}

abbrev pub own_stream : Granted
own_stream = granted (ask_above 0 0) (log_of 5)

abbrev tree : List Branch
tree = record { id = 5; parent = None; fork = 0; own = changes } ∷ []

-- the stream after markers and items

abbrev pub begun : ℕ → ℕ → List ItemLine → Begun
begun from end items = record { history = changes; from = from; end = end; disk = false; items = items }

abbrev pub streamed : Begun → Granted
streamed b = record { ask = ask_above 0 0; log = log_of 5; place = b.end; last = Some b; over = false; marks = (b.from, b.end) ∷ []; coming = b.items; wrote = [] }

abbrev pub first_item : ItemLine
first_item = item_of_change one_change

abbrev pub next_item : ItemLine
next_item = item_of_change next_change

-- a transcript is lawful that is so from the request on

abbrev before_asked : Chronicle
before_asked = known_after empty_chronicle (take 8 two_followed) (take 8 (ask_groups []))

abbrev pub own_dial : Dial
own_dial = record { producer = 0; node = 1; vb = 0 }

-- in front of each of its lines the link is dialed as it was, and in front of the last line its node runs
abbrev behind : ℕ → List Group → Chronicle
behind k told = known_after empty_chronicle (take k two_followed) (take k told)

abbrev StaysSo : List Group → Type 0
StaysSo told = ((behind 9 told).dial_of 1 ≡ Some own_dial) × ((behind 10 told).dial_of 1 ≡ Some own_dial) × ((behind 11 told).dial_of 1 ≡ Some own_dial) × (is_told_down (behind 12 told) 1 ≡ false)

-- so none of them is bound to be refused
unbound : (r : Chronicle) (line : Verb) (lines : List Event) (said : Answer) → bound_by r line ≡ [] → LawfulAnswer r line lines said → IsAnswered r line lines said
unbound r line lines said e rule = subst (λ whys. IsBound whys (LawfulAnswer r line lines said) lines said) (sym e) rule

-- what was read when the first key was set
abbrev once_set : Chronicle
once_set = known_after empty_chronicle (take 6 two_followed) (take 6 (ask_groups []))

-- lines tell what they may, whatever ends with a node
abbrev TellsIf : (Event → Bool) → List Event → Type 0
TellsIf may lines = (ends : ℕ → Event → Bool) → are_told may ends lines ≡ true

-- what each line asked for is told, and nothing else
abbrev AskedSo : List Event → List Event → List Event → List Event → List Event → Type 0
AskedSo asked adopted sent got shown = TellsIf (at_link (Some own_dial) 1 (link_verb.Up 1000)) asked × TellsIf (at_link (Some own_dial) 1 (link_verb.Down 1000)) adopted × TellsIf (at_link (Some own_dial) 1 (link_verb.Pump 9)) sent × TellsIf (at_link (Some own_dial) 1 (link_verb.Down 1000)) got
    × TellsIf (at_vb empty_chronicle 1 0 vb_verb.Show) shown × (is_asked_so (verb.AtVb 1 0 vb_verb.Show) shown (show_answer shown) ≡ true)

-- so it is over the link as it was dialed
told_in : (r : Chronicle) (number : ℕ) (what : LinkVerb) (lines : List Event) → r.dial_of 1 ≡ Some own_dial → TellsIf (at_link (Some own_dial) 1 what) lines → TellsOf (at_line r number) (verb.AtLink 1 what) lines
told_in r number what lines dialed t = subst (λ (o : Option Dial). are_told (at_link o 1 what) (is_of_end (at_line r number)) lines ≡ true) (sym dialed) (t (is_of_end (at_line r number)))

-- and by its bytes no vBucket becomes active
level_in : (r : Chronicle) (number : ℕ) (lines : List Event) → r.dial_of 1 ≡ Some own_dial → TellsIf (at_link (Some own_dial) 1 (link_verb.Down 1000)) lines → list_any is_rise lines ≡ true → ⊥
level_in r number lines dialed t rises = let z : false ≡ true = sym (no_rise (at_line r number) 1 1000 lines (told_in r number (link_verb.Down 1000) lines dialed t)) ∙ rises in cc

-- a show is carried out or refused
carried : (shown : List Event) → IsCarriedOut (show_answer shown)
carried [] = tt
carried (line ∷ lines) = tt

shows_so : (shown : List Event) → is_answered_so shown (show_answer shown) ≡ true
shows_so [] = refl
shows_so (line ∷ lines) = refl

-- of a vBucket that holds no prepare nothing is due
none_due : (read : Chronicle) → read.dial_of 1 ≡ Some own_dial → finite.entries (image_of (read.held 1 0)).pending ≡ [] → AllAcknowledged read 1
none_due read dialed none dial g is told e owed =
    let one : Some own_dial ≡ Some dial = sym dialed ∙ is in let same : own_dial ≡ dial = cc in
    let mine : IsDue read 1 0 e = subst (λ (d : Dial). IsDue read d.node d.vb e) (sym same) owed in
    let z : None ≡ Some e = sym (finite.get-entries (image_of (read.held 1 0)).pending mine.waits.0 ∙ ap (finite.find key_cmp mine.waits.0) none) ∙ mine.waits.1 in cc

shows_left : (read : Chronicle) (shown : List Event) → LeavesNone read (verb.AtVb 1 0 vb_verb.Show) shown (show_answer shown)
shows_left read [] = tt
shows_left read (line ∷ lines) = tt

-- and ends no link
quiet_show : (shown : List Event) → is_quiet (verb.AtVb 1 0 vb_verb.Show) (show_answer shown) ≡ true
quiet_show [] = refl
quiet_show (line ∷ lines) = refl

-- its link follows, and none is dialed for a takeover
follow_two : AllFollow two_followed
follow_two = (tt, (tt, (tt, (tt, (tt, (tt, (tt, (refl, (tt, (tt, (tt, (tt, (tt, tt)))))))))))))

plain_in : (k : ℕ) (told : List Group) (asked : Verb) (lines : List Event) → are_plain (at_line (behind k told) (suc k)) asked lines ≡ true
plain_in k told asked lines = plain_all (at_line (behind k told) (suc k)) asked lines (none_known (take k two_followed) (take k told) (front_follows k two_followed follow_two))

from_asked : (asked adopted sent got shown : List Event) → frames_in_lines sent < 9 → none_stored (drop 8 (followed_groups asked adopted sent got shown)) ≡ true → (is_unclosed asked ≡ true) × (is_unclosed adopted ≡ true) × (is_unclosed sent ≡ true) × (is_unclosed got ≡ true) × (is_unclosed shown ≡ true) → (list_any is_rollback adopted ≡ true → ⊥) → (list_any is_rollback got ≡ true → ⊥) → StaysSo (followed_groups asked adopted sent got shown) → AskedSo asked adopted sent got shown → AreTold before_asked (drop 8 two_followed) (drop 8 (followed_groups asked adopted sent got shown))
    → AreFired before_asked (drop 8 two_followed) (drop 8 (followed_groups asked adopted sent got shown)) → (let told = followed_groups asked adopted sent got shown in
    (list_any is_taking adopted ≡ true → AllAcknowledged (after_lines (at_line (behind 9 told) 10) adopted) 1) × (list_any is_taking got ≡ true → AllAcknowledged (after_lines (at_line (behind 11 told) 12) got) 1)) → Lawful two_followed (followed_groups asked adopted sent got shown)
from_asked asked adopted sent got shown few none shut straight sound so told_so l f acks = let told = followed_groups asked adopted sent got shown in both_left empty_chronicle two_followed (followed_groups asked adopted sent got shown)
    (λ i. told_so.0 (is_of_end (at_line before_asked 9)) i && (shut.0 i && (plain_in 8 told (verb.AtLink 1 (link_verb.Up 1000)) asked i && (told_in (behind 9 told) 10 (link_verb.Down 1000) adopted so.0 told_so.1 i && (shut.1 i && (plain_in 9 told (verb.AtLink 1 (link_verb.Down 1000)) adopted i && (told_in (behind 10 told) 11 (link_verb.Pump 9) sent so.1 told_so.2 i && (shut.2 i && (plain_in 10 told (verb.AtLink 1 (link_verb.Pump 9)) sent i && (told_in (behind 11 told) 12 (link_verb.Down 1000) got so.2 told_so.3 i && (shut.3 i && (plain_in 11 told (verb.AtLink 1 (link_verb.Down 1000)) got i && (shows_so shown i && (told_so.4 (is_of_end (at_line (behind 12 told) 13)) i && (told_so.5 i && (shut.4 i && (plain_in 12 told (verb.AtVb 1 0 vb_verb.Show) shown i && true)))))))))))))))))
    (tt ▹ tt ▹ tt ▹ (record { new = tt; newest = refl; last = refl; leaves = refl } ▹ record { another = λ e. cc; anew = λ e. made_here _ _ _ 5 refl refl refl; pending = λ e. cc } ▹ tt) ▹ (record { another = λ e. cc; anew = λ e. cc; pending = λ e. cc } ▹ tt) ▹ (search (arith, first_next) ▹ (refl, λ z. first_told _ _ _ refl refl refl) ▹ tt) ▹ (search (arith, second_next) ▹ (refl, λ z. next_told _ _ _ (nine_sent (once_set.clients_at 0 1) seven_past) refl refl) ▹ tt) ▹ tt ▹ l)
    (tt ▹ tt ▹ refl ▹ (refl ▹ tt) ▹ (refl ▹ tt) ▹ refl ▹ refl ▹ (refl ▹ (λ k. refl)) ▹ omega arith ▹ unbound (behind 9 told) (verb.AtLink 1 (link_verb.Down 1000)) adopted (answer.Number 100) (ap if_over so.0) ((omega arith, λ e. absurd (straight e), λ e. absurd (level_in (behind 9 told) 10 adopted so.0 told_so.1 e)), tt) ▹ unbound (behind 10 told) (verb.AtLink 1 (link_verb.Pump 9)) sent (answer.Pulled (frames_in_lines sent) why.Full) (ap if_over so.1) (record { told = refl; most = omega (arith, few); all = λ e. cc; only = λ e. absurd (omega (arith, few, e)) }) ▹ unbound (behind 11 told) (verb.AtLink 1 (link_verb.Down 1000)) got (answer.Number 100) (ap if_over so.2) ((omega arith, λ e. absurd (sound e), λ e. absurd (level_in (behind 11 told) 12 got so.2 told_so.3 e)), tt) ▹ unbound (behind 12 told) (verb.AtVb 1 0 vb_verb.Show) shown (show_answer shown) (ap if_down so.3) (carried shown) ▹ tt)
    (refl ▹ refl ▹ refl ▹ refl ▹ refl ▹ refl ▹ refl ▹ refl ▹ f)
    (tt ▹ tt ▹ tt ▹ tt ▹ tt ▹ tt ▹ tt ▹ tt ▹ (λ z. tt, λ t. tt) ▹ (λ z. tt, acks.0) ▹ tt ▹ (λ z. tt, acks.1) ▹ shows_left (behind 12 told) shown ▹ tt)
    (heard_then _ _ _ _ _ refl silent_start (λ s. heard_then _ _ _ _ _ refl s (λ s. heard_then _ _ _ _ _ refl s (λ s. heard_then _ _ _ _ _ refl s (λ s. heard_then _ _ _ _ _ refl s (λ s. seven_then _ 6 6 5 _ one_change _ _ refl refl s (λ s e. nine_then _ 7 7 5 _ next_change _ _ refl e s (λ s e. silent_heard _ _ _ s refl))))))))
    (tt, (tt, (tt, (tt, (tt, (made_stored 5 1 one_change refl, (made_stored 5 2 next_change refl, (tt, all_stored (drop 8 (followed_groups asked adopted sent got shown)) none))))))))
    (fired_all empty_chronicle two_followed (followed_groups asked adopted sent got shown) (λ i. quiet_show shown i && true) (refl ▹ refl ▹ refl ▹ refl ▹ refl ▹ refl ▹ refl ▹ refl ▹ f))

-- the request of the empty replica is granted, and the log is taken over
own_request : (l : Option LastLine) → LawfulAsk (record before_asked { last = l }) 1 0 0 (ask_above 0 0) 2 (log_of 5) ask_answer.Go
own_request l = record { dialed = (1, refl); plain = inl refl; answered = record { own_log = refl; own_high = refl; verdict = (refl, λ z. absurd (omega arith)); active = refl } }

pub asks : Lawful two_followed (ask_groups granted_lines)
asks = from_asked granted_lines [] [] [] [] (omega arith) refl (refl, refl, refl, refl, refl) (λ e. cc) (λ e. cc) (refl, refl, refl, refl) (λ e. refl, λ e. refl, λ e. refl, λ e. refl, λ e. refl, refl) ((own_request _, tt), (tt, (tt, (tt, (tt, tt))))) (refl ▹ refl ▹ refl ▹ refl ▹ refl ▹ tt) (λ t. cc, λ t. cc)

pub adopts : Lawful two_followed (adopted_so 5)
adopts = from_asked granted_lines (adopted_lines 5) [] [] [] (omega arith) refl (refl, refl, refl, refl, refl) (λ e. cc) (λ e. cc) (refl, refl, refl, refl) (λ e. refl, λ e. refl, λ e. refl, λ e. refl, λ e. refl, refl) ((own_request _, tt), (((1, 0, own_stream, refl, refl, refl), tt), (tt, (tt, (tt, tt))))) (refl ▹ refl ▹ refl ▹ refl ▹ refl ▹ tt) (λ t. none_due _ refl (no_entries Pend), λ t. cc)

-- both changes in one snapshot

abbrev before_sent : Chronicle
before_sent = after_lines before_asked (granted_lines ++ adopted_lines 5)

both_sent : (l : Option LastLine) → LawfulFrom (record before_sent { last = l }) both_sent_lines
both_sent l = (own_stream, (0, refl, refl), record { opens = refl; starts = refl; behind = tt; reaches = omega arith; whole = (changes, both_cover) }, from_memory _ _)
    ▹ (streamed (begun 0 2 []), begun 0 2 [], (0, refl, refl), refl, refl, (next_change ∷ [], record { whole = changes; covers = both_cover; front = refl }, λ e. absurd (omega arith)), λ e. cc)
    ▹ (streamed (begun 0 2 (first_item ∷ [])), begun 0 2 (first_item ∷ []), (0, refl, refl), refl, refl, ([], record { whole = changes; covers = both_cover; front = refl }, λ e. refl), λ e. cc) ▹ tt

pub whole : Lawful two_followed (sent_so both_sent_lines)
whole = from_asked granted_lines (adopted_lines 5) both_sent_lines [] [] (omega arith) refl (refl, refl, refl, refl, refl) (λ e. cc) (λ e. cc) (refl, refl, refl, refl) (λ e. refl, λ e. refl, λ e. refl, λ e. refl, λ e. refl, refl) ((own_request _, tt), (((1, 0, own_stream, refl, refl, refl), tt), (both_sent ((at_line (behind 10 (sent_so both_sent_lines)) 11).last), (tt, (tt, tt))))) (refl ▹ refl ▹ refl ▹ refl ▹ refl ▹ tt) (λ t. none_due _ refl (no_entries Pend), λ t. cc)

pub right : Lawful two_followed (shown_so (replica_shown 2 two_docs))
right = from_asked granted_lines (adopted_lines 5) both_sent_lines both_got (replica_shown 2 two_docs) (omega arith) refl (refl, refl, refl, refl, refl) (λ e. cc) (λ e. cc) (refl, refl, refl, refl) (λ e. refl, λ e. refl, λ e. refl, λ e. refl, λ e. refl, refl)
    ((own_request _ ▹ tt) ▹ ((1, 0, own_stream, refl, refl, refl) ▹ tt) ▹ both_sent ((at_line (behind 10 (sent_so both_sent_lines)) 11).last)
    ▹ (record { ends = omega arith; put = (1, streamed (begun 0 2 (first_item ∷ next_item ∷ [])), (0, refl, refl, refl), (0, [], refl, refl), (next_change, inr (inl refl), refl)) }
    ▹ record { above = omega arith; put = (_, (0, refl, refl, refl), (one_change, inl refl, inl refl), (next_item ∷ [], refl)) }
    ▹ record { above = omega arith; put = (_, (0, refl, refl, refl), (next_change, inr (inl refl), inl refl), ([], refl)) } ▹ tt)
    ▹ (record { role = refl; newest = refl; at = refl; snapshot = refl; left = sym image_told; docs_left = sym (ap length both_docs); preps_left = sym (ap length no_pending); complete = λ _. record { lines = sym image_told; docs_shown = sym (ap length both_docs); preps_shown = sym (ap length no_pending); shared = λ _. refl; active = λ e. cc } }
    ▹ tt ▹ tt ▹ tt) ▹ tt) (refl ▹ refl ▹ refl ▹ refl ▹ refl ▹ tt) (λ t. none_due _ refl (no_entries Pend), λ t. none_due _ refl no_pending)

-- each change in a snapshot of its own
pub parts : Lawful two_followed (sent_so (marker_line 0 1 ∷ first_item_line ∷ marker_line 1 2 ∷ next_item_line ∷ []))
parts = from_asked granted_lines (adopted_lines 5) (marker_line 0 1 ∷ first_item_line ∷ marker_line 1 2 ∷ next_item_line ∷ []) [] [] (omega arith) refl (refl, refl, refl, refl, refl) (λ e. cc) (λ e. cc) (refl, refl, refl, refl) (λ e. refl, λ e. refl, λ e. refl, λ e. refl, λ e. refl, refl)
    ((own_request _ ▹ tt) ▹ ((1, 0, own_stream, refl, refl, refl) ▹ tt)
    ▹ ((own_stream, (0, refl, refl), record { opens = refl; starts = refl; behind = tt; reaches = omega arith; whole = (one_change ∷ [], first_covers) }, from_memory _ _)
    ▹ (streamed (begun 0 1 []), begun 0 1 [], (0, refl, refl), refl, refl, ([], record { whole = one_change ∷ []; covers = first_covers; front = refl }, λ e. refl), λ e. cc)
    ▹ (streamed (begun 0 1 (first_item ∷ [])), (0, refl, refl), record { opens = refl; starts = refl; behind = record { whole = one_change ∷ []; covers = first_covers; front = refl }; reaches = omega arith; whole = (next_change ∷ [], next_covers) }, from_memory _ _)
    ▹ (_, begun 1 2 [], (0, refl, refl), refl, refl, ([], record { whole = next_change ∷ []; covers = next_covers; front = refl }, λ e. refl), λ e. cc) ▹ tt)
    ▹ tt ▹ tt ▹ tt) (refl ▹ refl ▹ refl ▹ refl ▹ refl ▹ tt) (λ t. none_due _ refl (no_entries Pend), λ t. cc)

-- answers to the request that are not lawful

dialed_vb : Option Dial → ℕ
dialed_vb None = 0
dialed_vb (Some d) = d.vb

pub log : Lawful two_followed (ask_groups (ask_lines (ask_above 0 0) 2 (log_of 6) ask_answer.Go)) → ⊥
log l = let e : ◌≡◌ {A = ℕ} 5 6 = ap (λ es. uuid_of (front es)) l.1.1.1.1.1.1.1.1.0.0.0.answered.own_log in omega arith

pub high : Lawful two_followed (ask_groups (ask_lines (ask_above 0 0) 3 (log_of 5) ask_answer.Go)) → ⊥
high l = let e : ◌≡◌ {A = ℕ} 3 2 = l.1.1.1.1.1.1.1.1.0.0.0.answered.own_high in omega arith

pub unknown : Lawful two_followed (ask_groups (ask_lines (ask_above 1 9) 2 (log_of 5) ask_answer.Go)) → ⊥
unknown l = let e : Roll 0 ≡ Continue = l.1.1.1.1.1.1.1.1.0.0.0.answered.verdict.0 in cc

pub ahead : Lawful two_followed (ask_groups (ask_lines (ask_above 3 5) 2 (log_of 5) ask_answer.Go)) → ⊥
ahead l = let e : Roll 2 ≡ Continue = l.1.1.1.1.1.1.1.1.0.0.0.answered.verdict.0 in cc

pub back : Lawful two_followed (ask_groups (ask_lines (ask_above 0 0) 2 (log_of 5) (ask_answer.Roll 0))) → ⊥
back l = let e : Continue ≡ Roll 0 = l.1.1.1.1.1.1.1.1.0.0.0.answered.verdict.0 in cc

pub other : Lawful two_followed (ask_groups other_ask_lines) → ⊥
unfolding dialed_vb
other l = let d = l.1.1.1.1.1.1.1.1.0.0.0.dialed in let e : ◌≡◌ {A = ℕ} 0 1 = ap dialed_vb d.1 in omega arith

pub late : Lawful two_followed (ask_groups late_ask_lines) → ⊥
late l = let d = l.1.1.1.1.1.1.1.1.0.0.1.0.dialed in let e : false ≡ true = ap is_some d.1 in cc

pub nameless : Lawful two_followed (ask_groups (ask_lines (ask_above 0 0) 2 (log_of 5) (ask_answer.Refuse 0))) → ⊥
nameless l = l.1.1.1.1.1.1.1.1.0.0.0.answered.verdict refl

-- the log that the link's producer told is the one to take over

link_stream : ℕ → Option Granted
link_stream k = if k == 1 && true then Some own_stream else if k == 1 then None else None

adopted_log : (es : List LogEntry) (k : ℕ) (g : Granted) → link_stream k ≡ Some g → es ≡ g.log → es ≡ log_of 5
unfolding link_stream
adopted_log es k g told same = elim (k == 1) as (λ b. (if b && true then Some own_stream else if b then None else None) ≡ Some g → es ≡ log_of 5)
    [ true ↦ (λ e. let h : own_stream ≡ g = cc in same ∙ ap (λ (x : Granted). x.log) (sym h)) | false ↦ (λ e. cc) ] told

pub adopted : Lawful two_followed (adopted_so 6) → ⊥
unfolding link_stream
adopted l =
    let (k, m, g, dialed, told, same) = l.1.1.1.1.1.1.1.1.1.0.0.0 in
    let e : ◌≡◌ {A = ℕ} 6 5 = ap (λ es. uuid_of (front es)) (adopted_log (log_of 6) k g told same) in omega arith

-- a vBucket that did not dial the link takes no log over

pub stranger_takes : Lawful two_followed (answered_so stranger_lines) → ⊥
unfolding dialed_vb
stranger_takes l = let (k, m, g, dialed, told, same) = l.1.1.1.1.1.1.1.1.1.0.0.0 in by (k == 1) m dialed
  where
    by : (b : Bool) (m : ℕ) → (if b then Some own_dial else None) ≡ Some (record { producer = m; node = 1; vb = 1 }) → ⊥
    by true m e = let z : ◌≡◌ {A = ℕ} 0 1 = ap dialed_vb e in omega arith
    by false m e = cc

-- a link that ended has no stream, and no log to take over

none_left : (k : ℕ) (g : Granted) → (if k == 1 then None else link_stream k) ≡ Some g → ⊥
unfolding link_stream
none_left k g = elim (k == 1) as (λ b. (if b then None else if b && true then Some own_stream else if b then None else None) ≡ Some g → ⊥) [ true ↦ (λ e. cc) | false ↦ (λ e. cc) ]

pub ended : Lawful two_followed (answered_so ended_lines) → ⊥
unfolding link_stream
ended l = let (k, m, g, dialed, told, same) = l.1.1.1.1.1.1.1.1.1.0.0.1.0 in none_left k g told

-- a change that is got twice

pub again : Lawful two_followed (got_so again_got) → ⊥
again l = let e : 2 < 2 = l.1.1.1.1.1.1.1.1.1.1.1.0.0.1.1.1.0.above in omega arith

-- the stream that the lines before tell is the one that a marker or an item is judged by

pub stream_is : (r : Chronicle) (g h : Granted) → r.dial_of 1 ≡ Some own_dial → r.stream_of (Link 1) 0 ≡ Some g → IsStream r (Link 1) h → g ≡ h
stream_is r g h dialed told (v, is, has) =
    let at : 0 ≡ v = eqb-true 0 v (sym (ap (is_dial_of v) dialed) ∙ is) in
    let same : Some g ≡ Some h = sym told ∙ ap (r.stream_of (Link 1)) at ∙ has in cc

marker_of : (r : Chronicle) (g : Granted) (start end : ℕ) → r.dial_of 1 ≡ Some own_dial → r.stream_of (Link 1) 0 ≡ Some g → LawfulMark r (Link 1) start end 1 → IsMarker r.tree g start end
marker_of r g start end dialed told (h, stream, m, source) = subst (λ x. IsMarker r.tree x start end) (sym (stream_is r g h dialed told stream)) m

item_of : (r : Chronicle) (b : Begun) (item : ItemLine) → r.dial_of 1 ≡ Some own_dial → r.stream_of (Link 1) 0 ≡ Some (streamed b) → LawfulItem r (Link 1) item → IsNextItem b item
item_of r b item dialed told (g, c, stream, opens, last, next, source) =
    let o : Some b ≡ Some c = ap (λ (x : Granted). x.last) (stream_is r (streamed b) g dialed told stream) ∙ last in let e : b ≡ c = cc in
    subst (λ x. IsNextItem x item) (sym e) next

-- markers that are not lawful

pub start : Lawful two_followed (sent_so (marker_line 1 2 ∷ first_item_line ∷ next_item_line ∷ [])) → ⊥
start l = let e : ◌≡◌ {A = ℕ} 1 0 = (marker_of before_sent own_stream 1 2 refl refl l.1.1.1.1.1.1.1.1.1.1.0.0.0).starts in omega arith

seq_of : (x : Change) → IsOf changes x → x.seq ≤ 2
seq_of x (c, i, stands) = let s : x.seq ≡ c.seq = seq_as x c stands in
    ⊎_elim (λ one. let n : c.seq ≡ 1 = ap (λ (y : Change). y.seq) one in omega arith) (λ next. let n : c.seq ≡ 2 = ap (λ (y : Change). y.seq) next in omega arith) (one_of c i)

pub ends_within : (n : ℕ) (xs : List Change) → n ≤ 2 → ((x : Change) → IsIn x xs → IsOf changes x) → last_seq n xs ≤ 2
ends_within n [] l of = l
ends_within n (x ∷ xs) l of = ends_within x.seq xs (seq_of x (of x (inl refl))) (λ y i. of y (inr i))

pub beyond : Lawful two_followed (sent_so (marker_line 0 3 ∷ [])) → ⊥
beyond l =
    let (xs, covers) = (marker_of before_sent own_stream 0 3 refl refl l.1.1.1.1.1.1.1.1.1.1.0.0.0).whole in
    let least : last_seq 0 xs ≤ 2 = ends_within 0 xs (omega arith) covers.remains.of in let e : last_seq 0 xs ≡ 3 = covers.reaches in omega arith

pub none_put : (xs : List Change) → map item_of_change xs ≡ [] → last_seq 0 xs ≡ 1 → ⊥
none_put [] e r = omega arith
none_put (x ∷ xs) e r = cc

pub unput : Lawful two_followed (sent_so (marker_line 0 1 ∷ marker_line 1 2 ∷ next_item_line ∷ [])) → ⊥
unput l =
    let b : IsFrontOf (begun 0 1 []) [] [] = (marker_of (after_lines before_sent (marker_line 0 1 ∷ [])) (streamed (begun 0 1 [])) 1 2 refl refl l.1.1.1.1.1.1.1.1.1.1.0.0.1.0).behind in
    none_put b.whole b.front b.covers.reaches

-- items that are not lawful

first_is : (whole : List Change) (item : ItemLine) (rest : List ItemLine) → map item_of_change whole ≡ item ∷ rest → (x : Change) × (xs : List Change) × (whole ≡ x ∷ xs) × (item_of_change x ≡ item)
first_is [] item rest e = cc
first_is (x ∷ xs) item rest e = (x, xs, refl, cc)

pub strange_key : IsNextItem (begun 0 2 []) (record { seq = 1; act = Set; key = 9 ∷ [] }) → ⊥
strange_key (more, f, ends) =
    let (x, xs, whole, item) = first_is f.whole (record { seq = 1; act = Set; key = 9 ∷ [] }) (map item_of_change more) f.front in
    let (c, i, stands) = f.covers.remains.of x (subst (λ ys. IsIn x ys) (sym whole) (inl refl)) in
    let s : x.seq ≡ c.seq = seq_as x c stands in let k : x.key ≡ c.key = key_as x c stands in
    let n : x.seq ≡ 1 = ap (λ (y : ItemLine). y.seq) item in let nine : x.key ≡ 9 ∷ [] = ap (λ (y : ItemLine). y.key) item in
    ⊎_elim (λ one. let seven : c.key ≡ 7 ∷ [] = ap (λ (y : Change). y.key) one in let e : ◌≡◌ {A = List ℕ} (9 ∷ []) (7 ∷ []) = sym nine ∙ k ∙ seven in cc)
    (λ next. let two : c.seq ≡ 2 = ap (λ (y : Change). y.seq) next in omega arith) (one_of c i)

pub key : Lawful two_followed (sent_so (marker_line 0 2 ∷ set_item_line 1 (9 ∷ []) ∷ [])) → ⊥
key l = strange_key (item_of (after_lines before_sent (marker_line 0 2 ∷ [])) (begun 0 2 []) (record { seq = 1; act = Set; key = 9 ∷ [] }) refl refl l.1.1.1.1.1.1.1.1.1.1.0.0.1.0)

pub skips : IsNextItem (begun 0 2 []) next_item → ⊥
skips (more, f, ends) =
    let (x, xs, whole, item) = first_is f.whole next_item (map item_of_change more) f.front in
    let (y, i, stands) = f.covers.remains.has (Slot.Committed (7 ∷ [])) one_change refl (omega arith) (omega arith) in
    let s : y.seq ≡ 1 = seq_as y one_change stands in let n : x.seq ≡ 2 = ap (λ (z : ItemLine). z.seq) item in
    let rises : Rises 0 2 (x ∷ xs) = subst (λ ys. Rises 0 2 ys) whole f.covers.remains.rises in
    let j : IsIn y (x ∷ xs) = subst (λ ys. IsIn y ys) whole i in
    ⊎_elim (λ same. let q : y.seq ≡ x.seq = ap (λ (z : Change). z.seq) same in omega arith) (λ later. let q : x.seq < y.seq = (rises_in x.seq 2 xs y rises.1 later).0 in omega arith) j

pub skipped : Lawful two_followed (sent_so (marker_line 0 2 ∷ next_item_line ∷ [])) → ⊥
skipped l = skips (item_of (after_lines before_sent (marker_line 0 2 ∷ [])) (begun 0 2 []) next_item refl refl l.1.1.1.1.1.1.1.1.1.1.0.0.1.0)

second_is : (whole : List Change) (a b : ItemLine) (rest : List ItemLine) → map item_of_change whole ≡ a ∷ b ∷ rest → Rises 0 2 whole → a.seq < b.seq
second_is [] a b rest e r = cc
second_is (x ∷ []) a b rest e r = cc
second_is (x ∷ y ∷ ys) a b rest e r =
    let first : item_of_change x ≡ a = cc in let next : item_of_change y ≡ b = cc in
    let m : x.seq ≡ a.seq = ap (λ (z : ItemLine). z.seq) first in let n : y.seq ≡ b.seq = ap (λ (z : ItemLine). z.seq) next in let l : x.seq < y.seq = r.1.0 in omega arith

pub repeats : IsNextItem (begun 0 2 (first_item ∷ [])) first_item → ⊥
repeats (more, f, ends) = let e : ◌<◌ 1 1 = second_is f.whole first_item first_item (map item_of_change more) f.front f.covers.remains.rises in omega arith

pub twice : Lawful two_followed (sent_so (marker_line 0 2 ∷ first_item_line ∷ first_item_line ∷ [])) → ⊥
twice l = repeats (item_of (after_lines before_sent (marker_line 0 2 ∷ first_item_line ∷ [])) (begun 0 2 (first_item ∷ [])) first_item refl refl l.1.1.1.1.1.1.1.1.1.1.0.0.1.1.0)

-- what the replica is not to be shown with

pub more : Lawful two_followed (shown_so (replica_shown 3 (two_docs ++ third_doc))) → ⊥
more l = let e : ◌≡◌ {A = ℕ} 3 2 = (l.1.1.1.1.1.1.1.1.1.1.1.1.0.0.0.complete refl).docs_shown ∙ ap length both_docs in omega arith

pub missing : Lawful two_followed (shown_so (replica_shown 1 (take 1 two_docs))) → ⊥
missing l = let e : ◌≡◌ {A = ℕ} 1 2 = (l.1.1.1.1.1.1.1.1.1.1.1.1.0.0.0.complete refl).docs_shown ∙ ap length both_docs in omega arith

pub another : Lawful two_followed (shown_so (replica_shown 2 (take 1 two_docs ++ third_doc))) → ⊥
another l =
    let e : take 1 two_docs ++ third_doc ≡ two_docs = (l.1.1.1.1.1.1.1.1.1.1.1.1.0.0.0.complete refl).lines ∙ image_told in let k : ◌≡◌ {A = List ℕ} (11 ∷ []) (9 ∷ []) = cc in cc

-- a request from inside a snapshot

inside_stream : ℕ → Granted
inside_stream se = granted (ask_within 0 1 se 5) (log_of 5)

pub inside : LawfulFrom (granted_inside 2) (marker_line 0 2 ∷ [])
unfolding inside_stream
inside = ((inside_stream 2, (0, refl, refl), record { opens = refl; starts = refl; behind = tt; reaches = omega arith; whole = (next_change ∷ [], next_covers) }, from_memory _ _), tt)

pub later_start : LawfulFrom (granted_inside 2) (marker_line 1 2 ∷ []) → ⊥
unfolding inside_stream
later_start l = let e : ◌≡◌ {A = ℕ} 1 0 = (marker_of (granted_inside 2) (inside_stream 2) 1 2 refl refl l.0).starts in omega arith

pub short : LawfulFrom (granted_inside 3) (marker_line 0 2 ∷ []) → ⊥
unfolding inside_stream
short l = let e : ◌≤◌ 3 2 = (marker_of (granted_inside 3) (inside_stream 3) 0 2 refl refl l.0).reaches in omega arith

-- a stream is that of the vBucket that its link dials for
pub elsewhere : LawfulFrom dialed_elsewhere (marker_line 0 2 ∷ []) → ⊥
elsewhere l =
    let (g, (v, is, has), marker, source) = l.0 in let at : 1 ≡ v = eqb-true 1 v is in
    let none : ◌≡◌ {A = Option Granted} None (Some g) = ap (dialed_elsewhere.stream_of (Link 1)) at ∙ has in cc

-- a vBucket that was put on a branch made from its own, or from another

pub continues : LawfulFrom (made_from 5) (made_ask_lines 1 ask_answer.Go)
continues = (record { dialed = (1, refl); plain = inl refl; answered = record { own_log = refl; own_high = refl; verdict = (refl, λ z. refl); active = refl } }, tt)

pub rolls : LawfulFrom (made_from 5) (made_ask_lines 2 (ask_answer.Roll 1))
rolls = (record { dialed = (1, refl); plain = inl refl; answered = record { own_log = refl; own_high = refl; verdict = (refl, λ z. refl); active = refl } }, tt)

-- a vBucket that is dead does neither
dead_grants : ◌≡◌ {A = Option (Option Role)} (Some (Some Role.Dead)) (Some (Some Role.Active)) → ⊥
dead_grants e = let same : Role.Dead ≡ Role.Active = cc in cc

pub dead_continues : LawfulFrom made_dead (made_ask_lines 1 ask_answer.Go) → ⊥
dead_continues l = dead_grants l.0.answered.active

pub dead_rolls : LawfulFrom made_dead (made_ask_lines 2 (ask_answer.Roll 1)) → ⊥
dead_rolls l = dead_grants l.0.answered.active

pub dead_refuses : LawfulFrom made_dead (made_ask_lines 1 (ask_answer.Refuse 7))
dead_refuses = (record { dialed = (1, refl); plain = inl refl; answered = record { own_log = refl; own_high = refl; verdict = λ e. absurd (omega arith); active = tt } }, tt)

pub stranger : LawfulFrom (made_from 6) (made_ask_lines 1 ask_answer.Go) → ⊥
stranger l = let e : ◌≡◌ {A = List Change} (one_change ∷ []) [] = l.0.answered.verdict.1 (omega arith) in cc

pub rolls_stranger : LawfulFrom (made_from 6) (made_ask_lines 2 (ask_answer.Roll 1)) → ⊥
rolls_stranger l = let e : ◌≡◌ {A = List Change} (one_change ∷ []) [] = l.0.answered.verdict.1 (omega arith) in cc

-- a replica that is asked itself

pub onward : LawfulFrom after_both (replica_ask_lines 2)
onward = (record { dialed = (2, refl); plain = inl refl; answered = record { own_log = refl; own_high = refl; verdict = λ e. absurd (omega arith); active = tt } }, tt)

pub onward_none : LawfulFrom after_both (replica_ask_lines 0) → ⊥
onward_none l = let e : ◌≡◌ {A = ℕ} 0 2 = l.0.answered.own_high in omega arith
