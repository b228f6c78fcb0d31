-- the end of a stream on its way to a link's consumer: its reason is whether the vBucket that feeds the link turned
use Rattle.std.specs.Prelude.{◌≡◌, ◌∷◌, ◌++◌, ◌&&◌, ◌||◌, ◌==◌, ◌⊎◌, if◌then◌else◌}
use Rattle.std.specs.List.{list_any}
use Rattle.std.proofs.lemmas.List.{take-append-drop}
use Rattle.vb_types.specs.declared.change.Act.{Act}
use Rattle.vb_types.specs.declared.change.Act.TheVariants as act
use Rattle.transcript_law.proofs.Words.{ℕ, Bool, true, false, not, List, [], drop, take, refl, ap, sym, ◌∙◌, inl, inr, Option, AskAnswer, Answer, Change, Chronicle, Cluster, DcpMsg, Event, Frame, Granted, LogEntry, Member, Plain, PlainConsumer, PlainLink, PlainProducer, PlainWorld, RESPONSE, Role, Verb, act_message, dcp_frame, empty_chronicle, empty_world, frames_in, link_number, LinkVerb}
use Rattle.transcript_law.proofs.balance.{Levels.{Has}, Measures.{frames_back, spelled}}
use Rattle.transcript_law.proofs.invariant.Agreement.{Agrees, EndsStand, Handing, IsLink, LinkAgrees, Wants, answer_frame, coming_items, end_frames, end_reason, flight_frames, is_granted, is_refused_ack, items_frames, marker_start, spoken, state_frames, stream_frames, tail_frames}
use Rattle.transcript_law.proofs.links.Firsts.{answers_from, buffer_first, first_answers, firsts, name_first, open_first, sync_first}
use Rattle.dcp_consumer.specs.declared.handshake.Dialed.{Dialed}
use Rattle.transcript_law.proofs.noted.Groups.{known_is, read_with}
use Rattle.transcript_law.specs.Chronicles.{after_group}
use Rattle.transcript_law.specs.LinesTold.{Dial, TakeoverKnown, with_moved, with_role, with_state}
use Rattle.transcript_law.specs.TakeoverNotes.{is_ended, is_grant_of, is_pump_of, is_state_of, obeyed_after, stream_over, turned_after, turns_consumer, turns_feeder}

-- ---- which frames tell of an end

abbrev pub is_end : Frame → Bool
is_end f = not (f.magic == RESPONSE) && f.opcode == 0x55

abbrev pub has_end : List Frame → Bool
has_end fs = list_any is_end fs

pub end_is_end : (why o v : ℕ) → is_end (dcp_frame (DcpMsg.StreamEnd why) o v) ≡ true
unfolding dcp_frame
end_is_end why o v = refl

-- one of them is an end
pub end_there : (why o v : ℕ) (fs : List Frame) → Has (dcp_frame (DcpMsg.StreamEnd why) o v) fs → has_end fs ≡ true
end_there why o v [] h = absurd h
end_there why o v (f ∷ fs) (inl same) = ap (λ g. is_end g || has_end fs) same ∙ ap (λ b. b || has_end fs) (end_is_end why o v)
end_there why o v (f ∷ fs) (inr later) = by (is_end f) (end_there why o v fs later)
  where
    by : (b : Bool) → has_end fs ≡ true → (b || has_end fs) ≡ true
    by true e = refl
    by false e = e

-- ---- lists that have none

pub none_both : (xs ys : List Frame) → has_end xs ≡ false → has_end ys ≡ false → has_end (xs ++ ys) ≡ false
none_both [] ys a b = b
none_both (x ∷ xs) ys a b = by (is_end x) a (λ rest. none_both xs ys rest b)
  where
    by : (h : Bool) → (h || has_end xs) ≡ false → (has_end xs ≡ false → has_end (xs ++ ys) ≡ false) → (h || has_end (xs ++ ys)) ≡ false
    by true e rest = e
    by false e rest = rest e

none_front : (xs ys : List Frame) → has_end (xs ++ ys) ≡ false → has_end xs ≡ false
none_front [] ys e = refl
none_front (x ∷ xs) ys e = by (is_end x) e (λ rest. none_front xs ys rest)
  where
    by : (h : Bool) → (h || has_end (xs ++ ys)) ≡ false → (has_end (xs ++ ys) ≡ false → has_end xs ≡ false) → (h || has_end xs) ≡ false
    by true e rest = e
    by false e rest = rest e

none_behind : (xs ys : List Frame) → has_end (xs ++ ys) ≡ false → has_end ys ≡ false
none_behind [] ys e = e
none_behind (x ∷ xs) ys e = none_behind xs ys (by (is_end x) e)
  where
    by : (h : Bool) → (h || has_end (xs ++ ys)) ≡ false → has_end (xs ++ ys) ≡ false
    by true e = cc
    by false e = e

none_drop : (k : ℕ) (xs : List Frame) → has_end xs ≡ false → has_end (drop k xs) ≡ false
none_drop k xs e = none_behind (take k xs) (drop k xs) (ap has_end (take-append-drop k xs) ∙ e)

none_take : (k : ℕ) (xs : List Frame) → has_end xs ≡ false → has_end (take k xs) ≡ false
none_take k xs e = none_front (take k xs) (drop k xs) (ap has_end (take-append-drop k xs) ∙ e)

-- the frames that are spoken tell of all ends
refused_none : (f : Frame) → is_refused_ack f ≡ true → is_end f ≡ false
refused_none f e = by (f.magic == RESPONSE) (f.opcode == 0x61) (f.opcode == 0x55) e
  where
    by : (a b c : Bool) → (a && b) ≡ true → (not a && c) ≡ false
    by true b c e = refl
    by false b c e = cc

pub spoken_end : (fs : List Frame) → has_end (spoken fs) ≡ has_end fs
spoken_end [] = refl
spoken_end (f ∷ fs) = by (is_refused_ack f) refl (spoken_end fs)
  where
    by : (b : Bool) → is_refused_ack f ≡ b → has_end (spoken fs) ≡ has_end fs → has_end (if not b then f ∷ spoken fs else spoken fs) ≡ (is_end f || has_end fs)
    by true e same = same ∙ ap (λ h. h || has_end fs) (sym (refused_none f e))
    by false e same = ap (λ h. is_end f || h) same

-- ---- what is put before

firsts_none : (d : Dialed) → has_end (first_answers d) ≡ false
unfolding firsts dcp_frame
firsts_none d = elim (d.buffer == 0) as (λ b. has_end (answers_from 1 (open_first d.node ∷ ((if b then [] else buffer_first d.buffer ∷ []) ++ (sync_first ∷ name_first d.node ∷ [])))) ≡ false) [ true ↦ refl | false ↦ refl ]

answer_none : (o : ℕ) (log : List LogEntry) (said : AskAnswer) → is_end (answer_frame o log said) ≡ false
unfolding dcp_frame
answer_none o log AskAnswer.Go = refl
answer_none o log (AskAnswer.Roll to) = refl
answer_none o log (AskAnswer.Refuse code) = refl

answered_none : (o : ℕ) (log : List LogEntry) (said : AskAnswer) → has_end (answer_frame o log said ∷ []) ≡ false
answered_none o log said = ap (λ b. b || false) (answer_none o log said)

act_none : (o v : ℕ) (c : Change) (a : Act) → is_end (dcp_frame (act_message c a) o v) ≡ false
unfolding dcp_frame
act_none o v c (act.Set doc) = refl
act_none o v c (act.Remove cas rev) = refl
act_none o v c (act.Prepare level doc deleted) = refl
act_none o v c (act.Commit prepared doc deleted) = refl
act_none o v c (act.Abort prepared) = refl

items_none : (o v : ℕ) (xs : List Change) → has_end (items_frames o v xs) ≡ false
items_none o v [] = refl
items_none o v (x ∷ xs) = λ i. act_none o v x x.act i || items_none o v xs i

flights_none : (o v : ℕ) (tail : List Frame) (start : ℕ) (snapshots : List (Bool × (ℕ × List Change))) → has_end tail ≡ false → has_end (flight_frames o v tail start snapshots) ≡ false
unfolding dcp_frame
flights_none o v tail start [] e = e
flights_none o v tail start (s ∷ more) e = none_both (items_frames o v s.1.1) (flight_frames o v tail s.1.0 more) (items_none o v s.1.1) (flights_none o v tail s.1.0 more e)

states_none : (o v : ℕ) (h : Handing) → has_end (state_frames o v h ++ []) ≡ false
unfolding dcp_frame
states_none o v Handing.Unstated = refl
states_none o v Handing.Offered = refl
states_none o v Handing.Pended = refl
states_none o v Handing.Due = refl
states_none o v Handing.Ceded = refl
states_none o v Handing.Stated = refl

-- ---- where the ends of a link stand

stands_over : (fv : Wants) (kn : Member) (pv : Option Plain) (leader : Member) (g : Option Granted) (said : Option Role) (point : Option ℕ) (served : PlainProducer) (asker : PlainConsumer) (up down : List Frame) → EndsStand fv kn pv leader g said point served asker up down
    → has_end down ≡ true → is_ended g ≡ true
stands_over fv kn pv leader g said point served asker up down (EndsStand.IsAsking ask none x) some =
    let none : has_end down ≡ false = ap has_end x.said_is ∙ none_drop x.seen (take x.answered (first_answers asker.dialed)) (none_take x.answered (first_answers asker.dialed) (firsts_none asker.dialed)) in cc
stands_over fv kn pv leader g said point served asker up down (EndsStand.IsRefusedYet none x) some =
    let none : has_end down ≡ false = ap has_end x.said_is ∙ none_both (drop x.seen (first_answers asker.dialed)) (answer_frame asker.asked [] x.said ∷ []) (none_drop x.seen (first_answers asker.dialed) (firsts_none asker.dialed)) (answered_none asker.asked [] x.said) in cc
stands_over fv kn pv leader g said point served asker up down (EndsStand.IsStreaming x is) some = ap is_ended x.told ∙ by x.granted_is.over refl
  where
    by : (over : Bool) → x.granted_is.over ≡ over → over ≡ true
    by true e = refl
    by false e =
        let o : ℕ = asker.asked in let v : ℕ = asker.dialed.vb in
        let front : List Frame = first_answers asker.dialed ++ answer_frame o x.feed.log AskAnswer.Go ∷ [] in
        let tail : has_end (tail_frames o v x.serving.handing x.granted_is.over) ≡ false = ap (λ b. has_end (tail_frames o v x.serving.handing b)) e ∙ states_none o v x.serving.handing in
        let start : ℕ = marker_start (is_granted asker.dialed x.seen && not fv.first) kn.position in
        let all = none_both (drop x.seen front) (stream_frames o v (tail_frames o v x.serving.handing x.granted_is.over) (is_granted asker.dialed x.seen && not fv.first) kn.position kn.coming x.snapshots)
        (none_drop x.seen front (none_both (first_answers asker.dialed) (answer_frame o x.feed.log AskAnswer.Go ∷ []) (firsts_none asker.dialed) (answered_none o x.feed.log AskAnswer.Go)))
        (none_both (items_frames o v (coming_items kn.coming)) (flight_frames o v (tail_frames o v x.serving.handing x.granted_is.over) start x.snapshots) (items_none o v (coming_items kn.coming))
        (flights_none o v (tail_frames o v x.serving.handing x.granted_is.over) start x.snapshots tail)) in
        let none : has_end down ≡ false = none_front down x.serving.unput (sym (ap has_end x.all) ∙ all) in
        cc
stands_over fv kn pv leader g said point served asker up down (EndsStand.IsHeir x is) some = ap is_ended x.told ∙ by x.granted_is.over (ap has_end (sym x.end_is) ∙ some)
  where
    by : (over : Bool) → has_end (end_frames asker.asked asker.dialed.vb (end_reason x.stream.ended) over) ≡ true → over ≡ true
    by true e = refl
    by false e = cc

-- the bytes on their way to the consumer
abbrev pub coming_down : PlainLink → List Frame
coming_down link = frames_in (link.down_heard ++ link.down)

-- a stream whose end is on its way is over
pub ends_over : (w : PlainWorld) (r : Chronicle) (c : Cluster) (link : PlainLink) → LinkAgrees w r c link [] [] → has_end (coming_down link) ≡ true → is_ended (stream_over r (link_number link) (r.dial_of (link_number link))) ≡ true
ends_over w r c link a some =
    let downs = a.talk.downs in
    let said : coming_down link ≡ a.talk.said = ap frames_in (downs.bytes ∙ ap spelled (sym downs.joined)) ∙ frames_back a.talk.said downs.readable in
    ap (λ d. is_ended (stream_over r (link_number link) d)) a.dial.dialed
    ∙ stands_over _ _ _ _ _ _ _ link.server link.consumer _ _ a.talk.stands (spoken_end a.talk.said ∙ sym (ap has_end said) ∙ some)

-- ---- what is known of it

abbrev pub end_of : ℕ → ℕ → Bool → Frame
end_of o v b = dcp_frame (DcpMsg.StreamEnd (end_reason b)) o v

abbrev pub EndsAs : TakeoverKnown → PlainLink → Type 0
EndsAs t link = link.consumer.dialed.takeover ≡ true → (b : Bool) (o v : ℕ) → Has (end_of o v b) (coming_down link) → t.turned ≡ b

abbrev pub AllEnding : PlainWorld → Chronicle → Type 0
AllEnding w r = (link : PlainLink) → IsLink link w.links → EndsAs (r.takeover_of (link_number link)) link

pub ending_none : AllEnding empty_world empty_chronicle
ending_none link i = absurd i

-- one that is over turns no more
turned_over : (read : Chronicle) (asked : Verb) (lines : List Event) (l : ℕ) (before : Bool) → list_any (is_grant_of l) lines ≡ false → is_ended (stream_over read l (read.dial_of l)) ≡ true → turned_after read asked lines l before ≡ before
turned_over read asked lines l before none over = by (list_any (is_grant_of l) lines) (is_ended (stream_over read l (read.dial_of l))) none over
  where
    more : Bool
    more = before || (turns_feeder (read.dial_of l) lines && not (is_pump_of l asked))

    by : (a b : Bool) → a ≡ false → b ≡ true → (if a then false else if b then before else more) ≡ before
    by true b e f = cc
    by false true e f = refl
    by false false e f = cc

-- a link is dialed
abbrev pub is_dialing : Verb → Bool
is_dialing (Verb.Link k m n v buffer takeover) = true
is_dialing other = false

-- what is noted of its last state is not whether it turned
pub obeyed_turned : (dial : Option Dial) (asked : Verb) (lines : List Event) (said : Answer) (l : ℕ) (t : TakeoverKnown) → is_dialing asked ≡ false → (obeyed_after dial asked lines said l t).turned ≡ t.turned
obeyed_turned dial (Verb.Link k m n v buffer takeover) lines said l t e = cc
obeyed_turned dial (Verb.AtLink k (LinkVerb.Pump wanted)) lines said l t e = elim (k == l && list_any (is_state_of l) lines) as (λ b. (if b then with_state t else t).turned ≡ t.turned) [ true ↦ refl | false ↦ refl ]
obeyed_turned dial (Verb.AtLink k (LinkVerb.Down wanted)) lines said l t e = elim (k == l && turns_consumer dial lines) as (λ b. (if b then with_role t else t).turned ≡ t.turned) [ true ↦ refl | false ↦ refl ]
obeyed_turned dial (Verb.AtLink k (LinkVerb.Up wanted)) lines (Answer.Number n) l t e = elim (k == l) as (λ b. (if b then with_moved wanted n t else t).turned ≡ t.turned) [ true ↦ refl | false ↦ refl ]
obeyed_turned dial (Verb.AtLink k (LinkVerb.Up wanted)) lines Answer.Ok l t e = refl
obeyed_turned dial (Verb.AtLink k (LinkVerb.Up wanted)) lines (Answer.Pulled n why) l t e = refl
obeyed_turned dial (Verb.AtLink k (LinkVerb.Up wanted)) lines (Answer.No why) l t e = refl
obeyed_turned dial (Verb.AtLink k LinkVerb.Drop) lines said l t e = refl
obeyed_turned dial (Verb.AtLink k LinkVerb.Cut) lines said l t e = refl
obeyed_turned dial (Verb.Node n) lines said l t e = refl
obeyed_turned dial (Verb.AtNode n what) lines said l t e = refl
obeyed_turned dial (Verb.AtVb n v what) lines said l t e = refl
obeyed_turned dial (Verb.AtClient n c what) lines said l t e = refl

-- a link that was y and is x, of which nothing came to be on its way but what was
pub record EndsRemain (y x : PlainLink) : Type 0 where
  pub dialed : x.consumer.dialed ≡ y.consumer.dialed
  pub coming : (b : Bool) (o v : ℕ) → Has (end_of o v b) (coming_down x) → Has (end_of o v b) (coming_down y)

module _ (w' : PlainWorld) (r : Chronicle) (asked : Verb) (lines : List Event) (said : Answer) (a : Agrees w' (after_group r asked lines said)) where
  abbrev read : Chronicle
  read = read_with r asked lines said

  -- it is known of it behind a group in which its stream is over
  pub turned_same : (x : PlainLink) → IsLink x w'.links → has_end (coming_down x) ≡ true → list_any (is_grant_of (link_number x)) lines ≡ false
      → (obeyed_after (read.dial_of (link_number x)) asked lines said (link_number x) (r.takeover_of (link_number x))).turned ≡ (r.takeover_of (link_number x)).turned
      → ((after_group r asked lines said).takeover_of (link_number x)).turned ≡ (r.takeover_of (link_number x)).turned
  turned_same x i some none same =
      let l = link_number x in
      ap (λ (k : TakeoverKnown). k.turned) (known_is w' r asked lines said a l)
      ∙ turned_over read asked lines l _ none (ends_over w' (after_group r asked lines said) a.0 x (a.1.links x i) some) ∙ same

  pub link_ends : (y x : PlainLink) → IsLink x w'.links → ((b : Bool) (o v : ℕ) → Has (end_of o v b) (coming_down x) → list_any (is_grant_of (link_number x)) lines ≡ false)
      → (obeyed_after (read.dial_of (link_number x)) asked lines said (link_number x) (r.takeover_of (link_number x))).turned ≡ (r.takeover_of (link_number x)).turned
      → EndsRemain y x → EndsAs (r.takeover_of (link_number y)) y → EndsAs ((after_group r asked lines said).takeover_of (link_number x)) x
  link_ends y x i none same on old takes b o v has =
      turned_same x i (end_there (end_reason b) o v (coming_down x) has) (none b o v has) same ∙ ap (λ l. (r.takeover_of l).turned) (ap (λ d. d.link) on.dialed)
      ∙ old (ap (λ d. d.takeover) (sym on.dialed) ∙ takes) b o v (on.coming b o v has)
