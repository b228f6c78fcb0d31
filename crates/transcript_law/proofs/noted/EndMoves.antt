-- ends of streams on their way are known behind the lines `up` and `down`
use Rattle.std.specs.Prelude.{◌≡◌, ◌∷◌}
use Rattle.std.specs.List.{list_any}
use Rattle.transcript_law.proofs.Words.{ℕ, Bool, true, false, List, [], refl, ap, sym, ◌∙◌, subst, ⊎_elim, Option, Some, None, Answer, Cause, Chronicle, DialResult, EndReason, Event, LinkVerb, Outcome, PeerResult, PlainLink, PlainNode, PlainWorld, StaysSound, StreamName, Verb, after_job, consumer_node, dial_bytes, link_number, link_outcome, moved_len, node_outcome, on_link, over_why, peer_of, producer_node, refusal, row_at, row_put, take, up_at, with_branches, with_link, with_links, with_node_at}
use Rattle.node_world.specs.{Arms.{placed}, Links.{dial_of, left_unless, peer_given, with_down, with_up}, World.{down_in, down_outcome, down_step, relinked}}
use Rattle.transcript_law.proofs.balance.{Leaving.{out_among, put_among, with_broken_among}, Levels.{Has}}
use Rattle.transcript_law.proofs.invariant.{Agreement.{Agrees, IsLink, LinkAgrees, end_reason}, LinkRows.{found_is_link, put_links}, Ranged.{IsRanged, NodeRangedIf}}
use Rattle.transcript_law.proofs.noted.{DownMoves.{down_are, down_none, downward_grants}, EndDowns.{down_ends}, EndLines.{EndsOn, same_ends}, EndUps.{up_ends}, Ending.{AllEnding, EndsRemain, coming_down, end_of, end_there, ends_over, link_ends, obeyed_turned}, Groups.{read_with}, Known.{AllKnown}, UpMoves.{all_own, own_grants}}
use Rattle.transcript_law.proofs.verbs.{NodeLines.{on_link_by}, Settling.{Steady}}
use Rattle.transcript_law.specs.Chronicles.{after_group}
use Rattle.transcript_law.specs.LawfulAnswers.{AllDurable}
use Rattle.transcript_law.specs.TakeoverNotes.{is_ended, is_grant_of, stream_over}
use Rattle.transcript_law.specs.Tellings.{TellsOf}

-- ---- the line `up`

module _ (stays : StaysSound) (steady : Steady) (w : PlainWorld) (r : Chronicle) (wanted : ℕ) (ranged : IsRanged w) (calm : AllDurable r.made) (a : Agrees w r) (known : AllKnown w r) (all : AllEnding w r) where
  abbrev asked : ℕ → Verb
  asked l = Verb.AtLink l (LinkVerb.Up wanted)

  abbrev Ending : ℕ → Outcome → Type 0
  Ending l o = TellsOf r (asked l) o.1.events → Agrees (with_branches o.1.events o.0) (after_group r (asked l) o.1.events o.1.answer) → AllEnding (with_branches o.1.events o.0) (after_group r (asked l) o.1.events o.1.answer)

  -- where it is refused
  none_up : (l : ℕ) (links : List PlainLink) (why : Cause) → ((x : PlainLink) → IsLink x links → IsLink x w.links) → Ending l (with_links w links, refusal why)
  none_up l links why among t later x i = link_ends (with_branches [] (with_links w links)) r (asked l) [] (Answer.No why) later x x i (λ b o v has. refl)
      (obeyed_turned ((read_with r (asked l) [] (Answer.No why)).dial_of (link_number x)) (asked l) [] (Answer.No why) (link_number x) (r.takeover_of (link_number x)) refl) (same_ends x) (all x (among x i))

  up_link : (link : PlainLink) (node : PlainNode) (found : row_at link_number (link_number link) w.links ≡ Some link) → w.nodes (producer_node link) ≡ Some node → Ending (link_number link) (with_link link (with_node_at w (producer_node link) (up_at wanted link node).0, (up_at wanted link node).1))
  up_link link node found at t later x i =
      let l = link_number link in let is = found_is_link l w.links link found in
      let went = up_ends stays steady w r wanted link found (known link is.0).noted.dialed node at (subst (NodeRangedIf (producer_node link)) at (ranged (producer_node link))) calm a in
      let n : ℕ = moved_len wanted link.up in let came : PlainNode × PeerResult = peer_given (take n link.up) (peer_of link) node in
      let link' : PlainLink = with_up link n came.1 in let lines : List Event = came.1.events in let said : Answer = Answer.Number n in
      let w' : PlainWorld = with_branches lines (with_links (with_node_at w (producer_node link) came.0) (row_put link_number l link' w.links)) in
      let turned = λ (k : ℕ). obeyed_turned ((read_with r (asked l) lines said).dial_of k) (asked l) lines said k (r.takeover_of k) refl in
      ⊎_elim
      (λ e. link_ends w' r (asked l) lines said later link x i
      (λ b p q has. subst (λ (k : PlainLink). list_any (is_grant_of (link_number k)) lines ≡ false) (sym e) (went.1 (over link is.0 b p q (went.0.coming b p q (subst (λ (k : PlainLink). Has (end_of p q b) (coming_down k)) e has)))))
      (turned (link_number x)) (subst (EndsRemain link) (sym e) went.0) (all link is.0))
      (λ old. link_ends w' r (asked l) lines said later x x i (λ b p q has. own_grants l lines (all_own r l wanted lines t) (link_number x) old.1) (turned (link_number x)) (same_ends x) (all x old.0))
      (put_links l w.links link link' x a.1.differ found refl i)
    where
      over : (link : PlainLink) → IsLink link w.links → (b : Bool) (p q : ℕ) → Has (end_of p q b) (coming_down link) → is_ended (r.stream_of (StreamName.Link (link_number link)) link.consumer.dialed.vb) ≡ true
      over link j b p q has =
          let la : LinkAgrees w r a.0 link [] [] = a.1.links link j in
          sym (ap (λ d. is_ended (stream_over r (link_number link) d)) la.dial.dialed) ∙ ends_over w r a.0 link la (end_there (end_reason b) p q (coming_down link) has)

  -- the whole line
  pub ups_ending : (l : ℕ) → Ending l (on_link w l producer_node (up_at wanted))
  ups_ending l = by (row_at link_number l w.links) refl
    where
      at : (link : PlainLink) → row_at link_number (link_number link) w.links ≡ Some link → (o : Option PlainNode) → w.nodes (producer_node link) ≡ o
          → Ending (link_number link) (with_link link (node_outcome w (producer_node link) (Some link, refusal Cause.UnknownNode) o (up_at wanted link)))
      at link found None e = none_up (link_number link) (row_put link_number (link_number link) link w.links) Cause.UnknownNode (λ x i. ⊎_elim (λ e. subst (λ k. IsLink k w.links) (sym e) (found_is_link (link_number link) w.links link found).0) (λ old. old.0) (put_links (link_number link) w.links link link x a.1.differ found refl i))
      at link found (Some node) e = up_link link node found e

      by : (o : Option PlainLink) → row_at link_number l w.links ≡ o → Ending l (link_outcome w l producer_node (up_at wanted) o)
      by None e = none_up l w.links Cause.LinkClosed (λ x i. i)
      by (Some link) e = let same = (found_is_link l w.links link e).1 in
          subst (λ k. Ending k (link_outcome w k producer_node (up_at wanted) (Some link))) same (at link (ap (λ k. row_at link_number k w.links) same ∙ e) (w.nodes (producer_node link)) refl)

-- ---- the line `down`

module _ (w : PlainWorld) (wanted : ℕ) where
  abbrev Left : PlainWorld → Type 0
  Left now = EndsOn w.links now.links

  same_left : Left w
  same_left x i = (x, i, same_ends x)

  own_link : (link : PlainLink) → row_at link_number (link_number link) w.links ≡ Some link → IsLink link w.links
  own_link link found = (found_is_link (link_number link) w.links link found).0

  put_left : (link link' : PlainLink) → IsLink link w.links → EndsRemain link link' → (x : PlainLink) → IsLink x (row_put link_number (link_number link) link' w.links) → (y : PlainLink) × IsLink y w.links × EndsRemain y x
  put_left link link' own on x i = ⊎_elim (λ e. (link, own, subst (EndsRemain link) (sym e) on)) (λ old. (x, old, same_ends x)) (put_among (link_number link) link' w.links x i)

  -- what becomes of the link, by whether it is over
  module _ (link : PlainLink) (node : PlainNode) (own : IsLink link w.links) where
    abbrev armed : PlainNode
    armed = placed link.consumer.dialed.vb node

    abbrev moved : ℕ
    moved = moved_len wanted link.down

    abbrev came : DialResult
    came = (after_job (dial_bytes (take moved link.down) (dial_of link)) armed.vbs armed.shelves).1

    left_on : (node' : PlainNode) (why : Option EndReason) → Left (relinked link (left_unless why (with_down link moved came)) (with_node_at w (consumer_node link) node'))
    left_on node' (Some why) x i = (x, out_among (link_number link) w.links x i, same_ends x)
    left_on node' None x i = put_left link (with_down link moved came) own (down_ends link moved armed.vbs armed.shelves) x i

  moved_left : (l : ℕ) → Left (on_link w l consumer_node (down_in wanted)).0
  moved_left l = on_link_by (λ o. Left o.0) w l consumer_node (down_in wanted) same_left (λ link found x i. put_left link link (own_link link found) (same_ends link) x i)
      (λ link node found known. left_on link node (own_link link found) (down_in wanted link node).0 (over_why (came link node (own_link link found)).dial.consumer.handshake))

  pub downs_left : (l : ℕ) → Left (down_step w l wanted).0
  downs_left l = by (row_at link_number l w.links)
    where
      by : (o : Option PlainLink) → Left (down_outcome w l o (on_link w l consumer_node (down_in wanted))).0
      by None x i = moved_left l x i
      by (Some link) x i = moved_left l x (with_broken_among (consumer_node link) l w (on_link w l consumer_node (down_in wanted)) x i)

-- its lines let no link continue
down_grants : (w : PlainWorld) (l wanted k : ℕ) → list_any (is_grant_of k) (down_step w l wanted).1.events ≡ false
down_grants w l wanted k = by (row_at link_number l w.links) refl
  where
    by : (o : Option PlainLink) → row_at link_number l w.links ≡ o → list_any (is_grant_of k) (down_step w l wanted).1.events ≡ false
    by None e = ap (list_any (is_grant_of k)) (down_none w l wanted e)
    by (Some link) e = downward_grants link.consumer.dialed.node link.consumer.dialed.vb k (down_step w l wanted).1.events (down_are w l wanted link e)

pub downs_ending : (w : PlainWorld) (r : Chronicle) (l wanted : ℕ) → (let o = down_step w l wanted in let asked : Verb = Verb.AtLink l (LinkVerb.Down wanted) in
    AllEnding w r → Agrees (with_branches o.1.events o.0) (after_group r asked o.1.events o.1.answer) → AllEnding (with_branches o.1.events o.0) (after_group r asked o.1.events o.1.answer))
downs_ending w r l wanted all later x i =
    let o = down_step w l wanted in let asked : Verb = Verb.AtLink l (LinkVerb.Down wanted) in let (y, j, on) = downs_left w wanted l x i in
    link_ends (with_branches o.1.events o.0) r asked o.1.events o.1.answer later y x i (λ b p q has. down_grants w l wanted (link_number x))
    (obeyed_turned ((read_with r asked o.1.events o.1.answer).dial_of (link_number x)) asked o.1.events o.1.answer (link_number x) (r.takeover_of (link_number x)) refl) on (all y j)
