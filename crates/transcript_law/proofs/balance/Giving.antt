-- vBuckets that are given up in front of a pump: the bytes of links are as they were
use Rattle.std.specs.Prelude.{◌≡◌, ℕ, ◌==◌, ◌&&◌, if◌then◌else◌, List, [], ◌∷◌, nat_lt}
use Rattle.std.specs.List.{flat_map}
use Rattle.transcript_law.proofs.Words.{Bool, true, false, refl, ap, ◌∙◌, ⊎_elim, Some, Call, Done, Prog, States, after, PlainLink, link_number, producer_node, PlainNode, PlainWorld, PlainProducer, done, map, peer_of, row_at, row_put, with_ended}
use Rattle.dcp_producer.specs.Giving.{Yields, all_given, given_of, given_up, none_given, one_given}
use Rattle.dcp_producer.specs.declared.yields.Yielded.{Yielded}
use Rattle.flow_control.specs.Windows.{is_open}
use Rattle.node_core.specs.GivingUp.{GiveResult, dead_line, give_result, peer_gives_up, resolved_in}
use Rattle.node_world.specs.Pumps.{gives_at, gone_told, with_end, with_given, with_gone}
use Rattle.vb_calls.specs.Programs.{AnyCall, AnyReply, Always, each}
use Rattle.vb_calls.proofs.Conduct.{after_always, always_bind}
use Rattle.transcript_law.proofs.balance.{Leaving.{ended_on, posted_links, put_among, same_on, then_on}, Levels.{FlowOn, flow_of}, Rooms.{room_of}}
use Rattle.transcript_law.proofs.invariant.{Agreement.{IsLink}, LinkRows.{found_is_link}}

-- ---- the producer that gives them up

abbrev Any : {A : Type 0} → A → Type 0
Any a = Unit {0}

any_prog : {A : Type 0} (prog : Prog A) → Always AnyCall Any prog
any_prog (Done a) = tt
any_prog (Call v call next) = (tt, λ reply any. any_prog (next reply))

-- it keeps its window
abbrev KeepsRoom : PlainProducer → Yields → Type 0
KeepsRoom end came = room_of came.end ≡ room_of end

either_keeps : (b : Bool) (end : PlainProducer) (p q : Prog Yields) → Always AnyCall (KeepsRoom end) p → Always AnyCall (KeepsRoom end) q → Always AnyCall (KeepsRoom end) (if b then p else q)
either_keeps true end p q first second = first
either_keeps false end p q first second = second

given_keeps : (k : ℕ) (end : PlainProducer) → Always AnyCall (KeepsRoom end) (given_up k end)
unfolding given_up
given_keeps k end = either_keeps (nat_lt 0 k && is_open end.window) end (all_given end) (Done (record { end = end; yielded = [] }))
    (always_bind AnyReply AnyCall Any (KeepsRoom end) (each one_given end.streams none_given) (λ g. Done (given_of end g)) (any_prog (each one_given end.streams none_given)) (λ g any. refl)) refl

-- and what it has heard
abbrev KeepsFlow : PlainLink → GiveResult → Type 0
KeepsFlow link came = flow_of (with_end link came.peer) ≡ flow_of link

peer_keeps : (frames : ℕ) (link : PlainLink) (states : States) → KeepsFlow link (after (peer_gives_up frames (peer_of link)) states).1
peer_keeps frames link states = after_always AnyCall (KeepsFlow link) (peer_gives_up frames (peer_of link)) states
    (always_bind AnyReply AnyCall (KeepsRoom link.server) (KeepsFlow link) (given_up frames link.server) (λ yields. Done (give_result link.up_heard yields)) (given_keeps frames link.server)
    (λ came same. ap (λ room. record (flow_of link) { window = room }) same))

-- ---- the world

-- streams end at all connections of the node
given_on : (n : ℕ) (given : List Yielded) (w : PlainWorld) → FlowOn w.links (with_given n given w).links
given_on n [] w = same_on w.links w.links refl
given_on n (one ∷ more) w =
    let next : PlainWorld = with_ended n one.vb one.ended w in then_on w.links next.links (with_given n more next).links (ended_on n one.vb one.ended w.links) (given_on n more next)

-- the link itself has another producer's end
gone_on : (w : PlainWorld) (link link' : PlainLink) → IsLink link w.links → flow_of link' ≡ flow_of link → FlowOn w.links (row_put link_number (link_number link) link' w.links)
gone_on w link link' own same x i = ⊎_elim (λ e. (link, own, ap flow_of e ∙ same)) (λ old. (x, old, refl)) (put_among (link_number link) link' w.links x i)

pub gives_on : (frames : ℕ) (link : PlainLink) (w : PlainWorld) (node : PlainNode) → row_at link_number (link_number link) w.links ≡ Some link → FlowOn w.links (gives_at frames link w (Some node)).0.links
gives_on frames link w node found =
    let n : ℕ = producer_node link in
    let came = after (peer_gives_up frames (peer_of link)) node.vbs in
    let gone : PlainWorld = with_gone link node came.0 came.1.peer w in
    let told : PlainWorld = with_given n came.1.given gone in
    then_on w.links told.links (gone_told link node w came).0.links
    (then_on w.links gone.links told.links (gone_on w link (with_end link came.1.peer) (found_is_link (link_number link) w.links link found).0 (peer_keeps frames link node.vbs)) (given_on n came.1.given gone))
    (same_on told.links (gone_told link node w came).0.links (posted_links n (flat_map resolved_in came.1.given) (told, done (map (dead_line n) came.1.given))))
