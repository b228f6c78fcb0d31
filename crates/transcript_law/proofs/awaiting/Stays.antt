-- connections of nodes that wait on as they waited, through what no vBucket forgets
use Rattle.std.specs.Prelude.{◌≡◌, ◌∷◌, ◌==◌, if◌then◌else◌}
use Rattle.transcript_law.proofs.Words.{Outcome, ℕ, Bool, true, false, List, [], refl, ap, sym, ◌∙◌, subst, eqb-true, filter, Option, Some, None, is_some, Cause, LinkResult, PlainLink, PlainNode, PlainSession, PlainWorld, Told}
use Rattle.transcript_law.proofs.Words.{end_closed, link_number, link_outcome, node_if, node_outcome, on_link, on_node, producer_node, refusal, refused_or, row_at, unlinked, with_link, with_node_at}
use Rattle.node_core.specs.Clients.{PlainClient}
use Rattle.node_world.specs.{Arms.{fired_by}, Cuts.{closed_at}, Nodes.{if_up}, Power.{after_broken, after_fire, all_cut, all_unlinked, dropped, is_broken_answer, stopped_node, touches, with_arm, with_broken}, World.{relinked}, Worlds.{arm_in, on_made}}
use Rattle.node_world.specs.declared.arm.Fired.{Fired}
use Rattle.node_world.specs.declared.arm.Fired.TheVariants as fired
use Rattle.transcript_law.proofs.awaiting.{Jobs.{IsIdle, ran_idle}, States.{Kept}}
use Rattle.transcript_law.proofs.invariant.TimelyCalls.{closed_makes}
use Rattle.transcript_law.specs.{Feeding.{client_in}, OwnWaits.{vbs_of}, Waits.{NoneWaitsInVain}}
use Rattle.vb_disk.specs.declared.made.Outcome.{Outcome as Left}
use Rattle.vb_events.specs.declared.event.Cause.TheVariants as cause

-- ---- nodes

-- each connection was there, with the session that it has, and who waited at the vBuckets waits on
abbrev pub Stays : Option PlainNode → Option PlainNode → Type 0
Stays o o' = (c : ℕ) (client' : PlainClient) → client_in o' c ≡ Some client' → (client : PlainClient) × (client_in o c ≡ Some client) × (client'.session ≡ client.session) × Kept (vbs_of o) (vbs_of o')

pub stays_same : (o : Option PlainNode) → Stays o o
stays_same o c client is = (client, is, refl, λ k w. w)

pub stays_on : (a b c : Option PlainNode) → Stays a b → Stays b c → Stays a c
stays_on a b c first second d client'' is =
    let (client', was, same, kept) = second d client'' is in let (client, there, alike, old) = first d client' was in (client, there, same ∙ alike, λ k w. kept k (old k w))

-- by its vBuckets, where the connections are as they were
pub stays_kept : (node node' : PlainNode) → ((c : ℕ) → node'.clients c ≡ node.clients c) → Kept node.vbs node'.vbs → Stays (Some node) (Some node')
stays_kept node node' same kept c client is = (client, sym (same c) ∙ is, refl, kept)

-- one with no connection
pub stays_none : (o o' : Option PlainNode) → ((c : ℕ) → client_in o' c ≡ None) → Stays o o'
stays_none o o' none c client is = let z : None ≡ Some client = sym (none c) ∙ is in absurd (cc z)

-- nobody waits for nothing at a node, if it is made
abbrev pub NoneIn : Option PlainNode → Type 0
NoneIn None = Unit {0}
NoneIn (Some node) = NoneWaitsInVain node

pub none_on : (o o' : Option PlainNode) → Stays o o' → NoneIn o → NoneIn o'
none_on o None s none = tt
none_on None (Some node) s none = λ c client a lt is has. absurd (cc (s c client is).1)
none_on (Some before) (Some node) s none = λ c client a lt is has.
    let (old, was, same, kept) = s c client is in
    kept a.waiter (none c old a lt was (sym (ap (λ (x : PlainSession). x.awaited) same) ∙ has))

-- ---- worlds

abbrev pub AllStay : PlainWorld → PlainWorld → Type 0
AllStay w w' = (n : ℕ) → Stays (w.nodes n) (w'.nodes n)

abbrev pub NoneWaits : PlainWorld → Type 0
NoneWaits w = (n : ℕ) → NoneIn (w.nodes n)

pub none_after : (w w' : PlainWorld) → AllStay w w' → NoneWaits w → NoneWaits w'
none_after w w' s none n = none_on (w.nodes n) (w'.nodes n) (s n) (none n)

pub all_same : (w : PlainWorld) → AllStay w w
all_same w n = stays_same (w.nodes n)

pub all_on : (w w' w'' : PlainWorld) → AllStay w w' → AllStay w' w'' → AllStay w w''
all_on w w' w'' first second n = stays_on (w.nodes n) (w'.nodes n) (w''.nodes n) (first n) (second n)

-- another node in the place of one
pub put_stays : (w : PlainWorld) (n : ℕ) (node : PlainNode) → Stays (w.nodes n) (Some node) → AllStay w (with_node_at w n node)
put_stays w n node s m = by (m == n) refl
  where
    by : (b : Bool) → (m == n) ≡ b → Stays (w.nodes m) (if b then Some node else w.nodes m)
    by true e = subst (λ k. Stays (w.nodes k) (Some node)) (sym (eqb-true m n e)) s
    by false e = stays_same (w.nodes m)

pub put_none : (w : PlainWorld) (n : ℕ) (node : PlainNode) → NoneWaits w → NoneWaitsInVain node → NoneWaits (with_node_at w n node)
put_none w n node all here m = elim (m == n) as (λ b. NoneIn (if b then Some node else w.nodes m)) [ true ↦ here | false ↦ all m ]

pub if_stays : (w : PlainWorld) (n : ℕ) (f : PlainNode → PlainNode) → ((node : PlainNode) → Stays (Some node) (Some (f node))) → AllStay w (node_if n f w (w.nodes n))
if_stays w n f s = by (w.nodes n) refl
  where
    by : (o : Option PlainNode) → w.nodes n ≡ o → AllStay w (node_if n f w o)
    by None e = all_same w
    by (Some node) e = put_stays w n (f node) (subst (λ o. Stays o (Some (f node))) (sym e) (s node))

-- links that end
pub unlinked_stays : (w : PlainWorld) (link : PlainLink) → AllStay w (unlinked link w)
unlinked_stays w link = if_stays w (producer_node link) (closed_at link) (λ node. stays_kept node (closed_at link node) (λ c. refl) (ran_idle (end_closed link.server) node.vbs (closed_makes IsIdle (λ id. tt) link.server)))

all_unlinked_stay : (links : List PlainLink) (w : PlainWorld) → AllStay w (all_unlinked links w)
all_unlinked_stay [] w = all_same w
all_unlinked_stay (link ∷ links) w = all_on w (unlinked link w) (all_unlinked links (unlinked link w)) (unlinked_stays w link) (all_unlinked_stay links (unlinked link w))

-- nodes that stop
pub dropped_stay : (n : ℕ) (out : Left) (w : PlainWorld) → AllStay w (dropped n out w)
dropped_stay n out w =
    let cut : PlainWorld = all_cut n w in
    all_on w cut (dropped n out w) (all_unlinked_stay (filter (touches n) w.links) w) (if_stays cut n (stopped_node out) (λ node. stays_none (Some node) (Some (stopped_node out node)) (λ c. refl)))

-- ---- lines

pub armed_none : (n : ℕ) (before : PlainWorld) (came : Outcome) → NoneWaits came.0 → NoneWaits (with_arm n before came).0
armed_none n before came all = by (fired_by (arm_in (before.nodes n)).fuse (arm_in (came.0.nodes n)).fuse)
  where
    out : Left
    out = (arm_in (before.nodes n)).out

    by : (f : Fired) → NoneWaits (after_fire n out f came).0
    by fired.No = all
    by fired.Failed = all
    by fired.Stopped = none_after came.0 (dropped n out came.0) (dropped_stay n out came.0) all

pub broken_none : (n l : ℕ) (before : PlainWorld) (came : Outcome) → NoneWaits came.0 → NoneWaits (with_broken n l before came).0
broken_none n l before came all = by (is_broken_answer came.1.answer)
  where
    out : Left
    out = (arm_in (before.nodes n)).out

    at : (f : Fired) → NoneWaits (after_broken n l out f came).0
    at fired.No = all
    at fired.Failed = all
    at fired.Stopped = none_after came.0 (dropped n out came.0) (dropped_stay n out came.0) all

    by : (b : Bool) → NoneWaits (if b then after_broken n l out (fired_by (arm_in (before.nodes n)).fuse (arm_in (came.0.nodes n)).fuse) came else came).0
    by true = at (fired_by (arm_in (before.nodes n)).fuse (arm_in (came.0.nodes n)).fuse)
    by false = all

-- a line that may be refused
pub unless_none : (w : PlainWorld) (o : Outcome) (why : Option Cause) → NoneWaits w → NoneWaits o.0 → NoneWaits (refused_or why w o).0
unless_none w o (Some why) before now = before
unless_none w o None before now = now

-- a line of a node, and one of an open link
pub on_made_none : (w : PlainWorld) (n : ℕ) (f : PlainNode → PlainNode × Told) → NoneWaits w → ((node : PlainNode) → w.nodes n ≡ Some node → NoneWaitsInVain node → NoneWaitsInVain (f node).0) → NoneWaits (on_made w n f).0
on_made_none w n f all kept = by (w.nodes n) refl (all n)
  where
    by : (o : Option PlainNode) → w.nodes n ≡ o → NoneIn o → NoneWaits (node_outcome w n (refusal cause.UnknownNode) o f).0
    by None e there = all
    by (Some node) e there = put_none w n (f node).0 all (kept node e there)

pub on_node_none : (w : PlainWorld) (n : ℕ) (f : PlainNode → PlainNode × Told) → NoneWaits w → ((node : PlainNode) → w.nodes n ≡ Some node → NoneWaitsInVain node → NoneWaitsInVain (f node).0) → NoneWaits (on_node w n f).0
on_node_none w n f all kept = on_made_none w n (if_up f) all (λ node e there.
    elim (is_some node.off) as (λ b. let x : PlainNode × Told = if b then (node, refusal cause.NodeDown) else f node in NoneWaitsInVain x.0) [ true ↦ there | false ↦ kept node e there ])

relinked_none : (w : PlainWorld) (before : PlainLink) (o : Option PlainLink) → NoneWaits w → NoneWaits (relinked before o w)
relinked_none w before None all = none_after w (unlinked before w) (unlinked_stays w before) all
relinked_none w before (Some link) all = all

pub on_link_none : (w : PlainWorld) (l : ℕ) (end : PlainLink → ℕ) (f : PlainLink → PlainNode → PlainNode × LinkResult) → NoneWaits w
    → ((link : PlainLink) (node : PlainNode) → row_at link_number l w.links ≡ Some link → w.nodes (end link) ≡ Some node → NoneWaitsInVain node → NoneWaitsInVain (f link node).0) → NoneWaits (on_link w l end f).0
on_link_none w l end f all kept = by (row_at link_number l w.links) refl
  where
    at : (link : PlainLink) → row_at link_number l w.links ≡ Some link → (o : Option PlainNode) → w.nodes (end link) ≡ o → NoneIn o → NoneWaits (with_link link (node_outcome w (end link) (Some link, refusal cause.UnknownNode) o (f link))).0
    at link found None e there = all
    at link found (Some node) e there = relinked_none (with_node_at w (end link) (f link node).0) link (f link node).1.0 (put_none w (end link) (f link node).0 all (kept link node found e there))

    by : (o : Option PlainLink) → row_at link_number l w.links ≡ o → NoneWaits (link_outcome w l end f o).0
    by None found = all
    by (Some link) found = at link found (w.nodes (end link)) refl (all (end link))
