-- the line `pump`: no link ends with it, and it is answered by the frames that it put, not by what is told of vBuckets that were given up
use Rattle.std.specs.Prelude.{◌≡◌, ◌++◌, ◌∷◌}
use Rattle.transcript_law.proofs.Words.{ℕ, Bool, true, false, List, [], length, map, not, refl, ap, sym, ◌∙◌, subst, and_parts, cond, filter, filter-append, flat_map, option_map, Option, Some, None, Answer, Event, StreamName, Dial, IsPumped, LinkResult, PlainLink, PlainNode, PlainWorld, Role, States, after, done, frames_in_lines, is_frame, link_number, on_link, peer_of, producer_node, pump_at, row_at, with_ended, with_node_at}
use Rattle.dcp_producer.specs.declared.yields.Yielded.{Yielded}
use Rattle.node_core.specs.Clients.{PlainClient}
use Rattle.node_core.specs.GivingUp.{dead_line, peer_gives_up, resolved_in}
use Rattle.node_core.specs.Peers.{PullResult, peer_pulled}
use Rattle.node_world.specs.{GivesFirst.{losing_client, losing_end, losing_node}, Links.{with_server}, Pumps.{gives_at, gone_told, with_end, with_given, with_gone}, World.{pump_outcome, pump_step, relinked}}
use Rattle.node_world.proofs.GivesFirst.{gives_first}
use Rattle.transcript_law.proofs.balance.Leaving.{posted_links}
use Rattle.transcript_law.proofs.ends.Links.{Kept, kept_behind, kept_both, kept_put, kept_same, kept_told}
use Rattle.transcript_law.proofs.{invariant.Ranged.{IsRanged, NodeRangedIf}, lines.{ClientLines.{AllKept}, SessionLines.{IsKept}}, links.PumpAnswers.{pump_says}, verbs.{NodeLines.{on_link_by}, Tellings.{Are, are_map, are_more, are_posts}}}
use Rattle.transcript_law.specs.{Plainness.{IsOfClient}, Tellings.{are_all}}
use Rattle.vb_calls.specs.Jobs.{after_job}
use Rattle.transcript_law.proofs.lines.Reads.{pumps_read}

-- ---- links

-- a line of one end of a link, which has another one in its place then
pub puts_kept : (w : PlainWorld) (l : ℕ) (end : PlainLink → ℕ) (f : PlainLink → PlainNode → PlainNode × LinkResult) → ((link : PlainLink) (node : PlainNode) → (k : PlainLink) × ((f link node).1.0 ≡ Some k) × (link_number k ≡ link_number link))
    → (let o = on_link w l end f in Kept w.links o.0.links o.1.events)
puts_kept w l end f puts = on_link_by (λ o. Kept w.links o.0.links o.1.events) w l end f (kept_same w.links w.links [] refl)
    (λ link found. kept_put (link_number link) link w.links [] refl)
    (λ link node found known. let (k, is, same) = puts link node in let lines = (f link node).1.1.events in
    subst (λ o. Kept w.links (relinked link o (with_node_at w (end link) (f link node).0)).links lines) (sym is) (kept_put (link_number link) k w.links lines same))

-- streams end as vBuckets are given up
given_kept : (n : ℕ) (given : List Yielded) (w : PlainWorld) (lines : List Event) → Kept w.links (with_given n given w).links lines
given_kept n [] w lines = kept_same w.links w.links lines refl
given_kept n (one ∷ more) w lines =
    let next : PlainWorld = with_ended n one.vb one.ended w in
    kept_both w.links next.links (with_given n more next).links lines (kept_told n one.vb one.ended w.links lines) (given_kept n more next lines)

gave_kept : (w : PlainWorld) (frames : ℕ) (link : PlainLink) (o : Option PlainNode) (lines : List Event) → Kept w.links (gives_at frames link w o).0.links lines
gave_kept w frames link None lines = kept_same w.links w.links lines refl
gave_kept w frames link (Some node) lines =
    let n : ℕ = producer_node link in
    let came = after (peer_gives_up frames (peer_of link)) node.vbs in
    let gone : PlainWorld = with_gone link node came.0 came.1.peer w in
    let told : PlainWorld = with_given n came.1.given gone in
    let last : PlainWorld = (gone_told link node w came).0 in
    kept_both w.links gone.links last.links lines (kept_put (link_number link) (with_end link came.1.peer) w.links lines refl)
    (kept_both gone.links told.links last.links lines (given_kept n came.1.given gone lines) (kept_same told.links last.links lines (posted_links n (flat_map resolved_in came.1.given) (told, done (map (dead_line n) came.1.given)))))

pub pump_kept : (w : PlainWorld) (l frames : ℕ) → (let o = pump_step w l frames in Kept w.links o.0.links o.1.events)
pump_kept w l frames = by (row_at link_number l w.links)
  where
    by : (o : Option PlainLink) → (let x = pump_outcome w l frames o in Kept w.links x.0.links x.1.events)
    by None = kept_same w.links w.links [] refl
    by (Some link) =
        let gave = gives_at frames link w (w.nodes (producer_node link)) in
        let put = on_link gave.0 l producer_node (pump_at frames) in
        kept_both w.links gave.0.links put.0.links (gave.1.events ++ put.1.events) (gave_kept w frames link (w.nodes (producer_node link)) (gave.1.events ++ put.1.events))
        (kept_behind gave.0.links put.0.links gave.1.events put.1.events
        (puts_kept gave.0 l producer_node (pump_at frames) (λ link node. let x = after_job (peer_pulled frames (peer_of link)) node.vbs node.shelves in (with_server link x.1.peer x.1.out, refl, refl))))

-- ---- the answer

-- a line that tells of no frame
abbrev is_other : Event → Bool
is_other line = not (is_frame line)

other_clients : (n : ℕ) (line : Event) → IsOfClient n line → is_other line ≡ true
other_clients n (Event.Changed m u uuid change) c = refl
other_clients n (Event.Reply m k bytes) c = refl
other_clients n (Event.Closed m k) c = refl
other_clients n (Event.Asked (StreamName.Client m k) u q ask high log said) c = refl
other_clients n other c = absurd c

none_framed : (lines : List Event) → Are is_other lines → filter is_frame lines ≡ []
none_framed [] a = refl
none_framed (line ∷ lines) a = let p = and_parts (is_other line) (are_all is_other lines) a in by (is_frame line) p.0 (none_framed lines p.1)
  where
    by : (b : Bool) → not b ≡ true → filter is_frame lines ≡ [] → cond b (line ∷ filter is_frame lines) (filter is_frame lines) ≡ []
    by true e rest = cc
    by false e rest = rest

-- of frames tell the lines behind them alone
frames_behind : (front lines : List Event) → Are is_other front → frames_in_lines (front ++ lines) ≡ frames_in_lines lines
frames_behind front lines others = ap (λ (xs : List Event). length xs) (filter-append is_frame front lines ∙ ap (λ (xs : List Event). xs ++ filter is_frame lines) (none_framed front others))

pumped_behind : (dial : Option Dial) (frames : ℕ) (front lines : List Event) (said : Answer) → Are is_other front → IsPumped dial frames lines said → IsPumped dial frames (front ++ lines) said
pumped_behind dial frames front lines Answer.Ok others p = p
pumped_behind dial frames front lines (Answer.Number n) others p = p
pumped_behind dial frames front lines (Answer.Pulled n why) others p = record { told = p.told ∙ sym (frames_behind front lines others); most = p.most; all = p.all; only = p.only }
pumped_behind dial frames front lines (Answer.No why) others p = p

-- a node whose clients lose streams keeps them
losing_kept : (n c : ℕ) (given : List Yielded) (o : Option PlainClient) → IsKept n c o → IsKept n c (option_map (losing_client given) o)
losing_kept n c given None kept = kept
losing_kept n c given (Some client) kept = (record { node = kept.0.node; number = kept.0.number; stream = kept.0.stream; desk = kept.0.desk }, kept.1)

-- a `pump` over a link, whose node is made
pub pump_told : (w : PlainWorld) → IsRanged w → (dial : Option Dial) (l frames : ℕ) (link : PlainLink) (node : PlainNode) → row_at link_number l w.links ≡ Some link → w.nodes (producer_node link) ≡ Some node
    → (let told = (pump_step w l frames).1 in IsPumped dial frames told.events told.answer)
pump_told w ranged dial l frames link node found known =
    let n : ℕ = producer_node link in
    let g = gives_first w 0 l frames link node found known in
    let own : AllKept n node = (subst (NodeRangedIf n) known (ranged n)).own in
    let losing : PlainNode = losing_node g.gave.given g.states node in
    let front : List Event = map (λ one. Event.Role n one.vb Role.Dead) g.gave.given ++ g.replies in
    let replies : Are is_other g.replies = subst (λ (x : PlainNode × List Event). Are is_other x.1) g.posts (are_posts is_other n (other_clients n) (flat_map (λ one. one.resolved) g.gave.given) losing (λ c. losing_kept n c g.gave.given (node.clients c) (own c))) in
    let others : Are is_other front = are_more is_other (map (λ one. Event.Role n one.vb Role.Dead) g.gave.given) g.replies (are_map is_other (λ one. Event.Role n one.vb Role.Dead) g.gave.given (λ one. refl)) replies in
    let peer = record g.gave.peer { producer = losing_end g.gave.given g.gave.peer.producer } in
    let put = subst (λ pump. IsPumped dial frames (pump (with_end link peer) g.posted).1.1.events (pump (with_end link peer) g.posted).1.1.answer) (pumps_read frames) (pump_says dial frames (with_end link peer) g.posted).0 in
    let so : IsPumped dial frames g.put.events g.put.answer = subst (λ (x : States × PullResult). IsPumped dial frames x.1.events x.1.answer) g.puts put in
    subst (IsPumped dial frames (pump_step w l frames).1.events) (sym g.said) (subst (λ lines. IsPumped dial frames lines g.put.answer) (sym g.lines) (pumped_behind dial frames front g.put.events g.put.answer others so))
