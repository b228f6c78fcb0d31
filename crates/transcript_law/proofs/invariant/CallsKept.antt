-- what each call of a kind keeps of a vBucket holds of all of a world, through what makes no other call
use Rattle.std.specs.Prelude.{◌≡◌, ◌∷◌, ◌==◌, if◌then◌else◌}
use Rattle.transcript_law.proofs.Words.{Outcome, ℕ, List, [], subst, refl, Bool, true, false, Option, Some, None, is_some, Cause, Plain, VbCall, VbReply, plain_step, after, after_job, Prog, Call, Done, Job, Ended, end_closed}
use Rattle.transcript_law.proofs.Words.{States, with_vb_at, call_at, row_at, Told, PlainLink, LinkResult, link_number, producer_node, node_if, unlinked, with_ended}
use Rattle.transcript_law.proofs.Words.{PlainNode, PlainWorld, with_node_at, refusal, refused_or, node_outcome, on_node}
use Rattle.transcript_law.proofs.Words.{with_link, link_outcome, on_link}
use Rattle.transcript_law.proofs.invariant.TimelyCalls.{Makes, closed_makes}
use Rattle.node_world.specs.{Arms.{fired_by}, Cuts.{closed_at}}
use Rattle.node_world.specs.Nodes.{if_up, with_clients_ended}
use Rattle.node_world.specs.Power.{after_broken, after_fire, all_cut, all_unlinked, dropped, is_broken_answer, stopped_node, touches, with_arm, with_broken}
use Rattle.node_world.specs.World.{relinked}
use Rattle.node_world.specs.Worlds.{arm_in, on_made}
use Rattle.node_world.specs.declared.arm.Fired.{Fired}
use Rattle.node_world.specs.declared.arm.Fired.TheVariants as fired
use Rattle.transcript_law.proofs.Words.{filter}
use Rattle.vb_calls.specs.Jobs.{AlwaysJob}
use Rattle.vb_calls.specs.Jobs as job
use Rattle.vb_calls.specs.Programs.{AnyReply}
use Rattle.vb_calls.specs.Shelves.{Ask, Shelves, shelves_step}
use Rattle.vb_calls.specs.States.{states_step}
use Rattle.vb_calls.specs.declared.calls.VbCall.TheVariants as call
use Rattle.vb_disk.specs.declared.made.Outcome.{Outcome as Left}
use Rattle.vb_events.specs.declared.event.Cause.TheVariants as cause

-- each vBucket of a node, and of the world, has this
abbrev pub AllAt : (Plain → Type 0) → States → Type 0
AllAt P states = (v : ℕ) (vb : Plain) → states v ≡ Some vb → P vb

abbrev pub AllIn : (Plain → Type 0) → Option PlainNode → Type 0
AllIn P None = Unit {0}
AllIn P (Some node) = AllAt P node.vbs

abbrev pub InWorld : (Plain → Type 0) → PlainWorld → Type 0
InWorld P w = (n : ℕ) → AllIn P (w.nodes n)

-- what each call of a kind keeps, of which one closes a stream, holds of the vBuckets of a world through what has no other call
module _ (P : Plain → Type 0) (kind : VbCall → Type 0) (keeps : (vb : Plain) (made : VbCall) → kind made → P vb → P (plain_step vb made).0) (closes : (id : ℕ) → kind (call.CloseStream id)) where
  pub put_all : (states : States) (v : ℕ) (vb : Plain) → AllAt P states → P vb → AllAt P (with_vb_at states v vb)
  put_all states v vb all here u x = by (u == v)
    where
      by : (b : Bool) → (if b then Some vb else states u) ≡ Some x → P x
      by true e = let same : vb ≡ x = cc in subst P same here
      by false e = all u x e

  pub stepped : (states : States) (v : ℕ) (made : VbCall) → kind made → AllAt P states → AllAt P (states_step states v made).0
  stepped states v made k all = by (states v) refl
    where
      by : (o : Option Plain) → states v ≡ o → AllAt P (call_at states v made o).0
      by None e = all
      by (Some vb) e = put_all states v (plain_step vb made).0 all (keeps vb made k (all v vb e))

  -- programs and jobs
  pub ran : {A : Type 0} (prog : Prog A) (states : States) → Makes kind prog → AllAt P states → AllAt P (after prog states).0
  ran (Done a) states makes all = all
  ran (Call v made next) states makes all =
      let step : States × Option VbReply = states_step states v made in
      ran (next step.1) step.0 (makes.1 step.1 tt) (stepped states v made makes.0 all)

  pub ran_job : {A : Type 0} (calls : ℕ → VbCall → Type 0) (requests : ℕ → Ask → Type 0) (answers : A → Type 0) (so_made : (v : ℕ) (made : VbCall) → calls v made → kind made) (one : Job A) (states : States) (shelves : Shelves)
      → AlwaysJob AnyReply calls requests answers one → AllAt P states → AllAt P (after_job one states shelves).0.0
  ran_job calls requests answers so_made (Ended a) states shelves makes all = all
  ran_job calls requests answers so_made (job.Call v made next) states shelves makes all =
      let step : States × Option VbReply = states_step states v made in
      ran_job calls requests answers so_made (next step.1) step.0 shelves (makes.1 step.1 tt) (stepped states v made (so_made v made makes.0) all)
  ran_job calls requests answers so_made (job.Request v ask next) states shelves makes all =
      let step = shelves_step shelves v ask in
      ran_job calls requests answers so_made (next step.1) states step.0 (makes.1 step.1) all

  -- a line of one node
  pub put_node : (w : PlainWorld) (n : ℕ) (node : PlainNode) → InWorld P w → AllAt P node.vbs → InWorld P (with_node_at w n node)
  put_node w n node all here m = elim (m == n) as (λ b. AllIn P (if b then Some node else w.nodes m)) [ true ↦ here | false ↦ all m ]

  pub on_made_all : (w : PlainWorld) (n : ℕ) (f : PlainNode → PlainNode × Told) → InWorld P w → ((node : PlainNode) → w.nodes n ≡ Some node → AllAt P node.vbs → AllAt P (f node).0.vbs) → InWorld P (on_made w n f).0
  on_made_all w n f all kept = by (w.nodes n) refl (all n)
    where
      by : (o : Option PlainNode) → w.nodes n ≡ o → AllIn P o → InWorld P (node_outcome w n (refusal cause.UnknownNode) o f).0
      by None e there = all
      by (Some node) e there = put_node w n (f node).0 all (kept node e there)

  pub on_node_all : (w : PlainWorld) (n : ℕ) (f : PlainNode → PlainNode × Told) → InWorld P w → ((node : PlainNode) → w.nodes n ≡ Some node → AllAt P node.vbs → AllAt P (f node).0.vbs) → InWorld P (on_node w n f).0
  on_node_all w n f all kept = on_made_all w n (if_up f) all (λ node e there.
      elim (is_some node.off) as (λ b. let x : PlainNode × Told = if b then (node, refusal cause.NodeDown) else f node in AllAt P x.0.vbs) [ true ↦ there | false ↦ kept node e there ])

  -- links that end
  pub unlinked_all : (w : PlainWorld) (link : PlainLink) → InWorld P w → InWorld P (unlinked link w)
  unlinked_all w link all =
      let n : ℕ = producer_node link in elim (w.nodes n) as (λ o. AllIn P o → InWorld P (node_if n (closed_at link) w o))
      [ None ↦ (λ there. all) | Some node ↦ (λ there. put_node w n (closed_at link node) all (ran (end_closed link.server) node.vbs (closed_makes kind closes link.server) there)) ] (all n)

  pub relinked_all : (w : PlainWorld) (before : PlainLink) (o : Option PlainLink) → InWorld P w → InWorld P (relinked before o w)
  relinked_all w before None all = unlinked_all w before all
  relinked_all w before (Some link) all = all

  pub on_link_found : (w : PlainWorld) (l : ℕ) (end : PlainLink → ℕ) (f : PlainLink → PlainNode → PlainNode × LinkResult) → InWorld P w
      → ((link : PlainLink) (node : PlainNode) → row_at link_number l w.links ≡ Some link → w.nodes (end link) ≡ Some node → AllAt P node.vbs → AllAt P (f link node).0.vbs) → InWorld P (on_link w l end f).0
  on_link_found w l end f all kept = by (row_at link_number l w.links) refl
    where
      at : (link : PlainLink) → row_at link_number l w.links ≡ Some link → (o : Option PlainNode) → w.nodes (end link) ≡ o → AllIn P o → InWorld P (with_link link (node_outcome w (end link) (Some link, refusal cause.UnknownNode) o (f link))).0
      at link found None e there = all
      at link found (Some node) e there = relinked_all (with_node_at w (end link) (f link node).0) link (f link node).1.0 (put_node w (end link) (f link node).0 all (kept link node found e there))

      by : (o : Option PlainLink) → row_at link_number l w.links ≡ o → InWorld P (link_outcome w l end f o).0
      by None found = all
      by (Some link) found = at link found (w.nodes (end link)) refl (all (end link))

  pub on_link_all : (w : PlainWorld) (l : ℕ) (end : PlainLink → ℕ) (f : PlainLink → PlainNode → PlainNode × LinkResult) → InWorld P w → ((link : PlainLink) (node : PlainNode) → w.nodes (end link) ≡ Some node → AllAt P node.vbs → AllAt P (f link node).0.vbs)
      → InWorld P (on_link w l end f).0
  on_link_all w l end f all kept = on_link_found w l end f all (λ link node found e there. kept link node e there)

  -- connections whose streams a change of role ended
  pub ended_all : (w : PlainWorld) (n v : ℕ) (ids : List ℕ) → InWorld P w → InWorld P (with_ended n v ids w)
  ended_all w n v ids all = elim (w.nodes n) as (λ o. AllIn P o → InWorld P (node_if n (with_clients_ended v ids) w o)) [ None ↦ (λ there. all) | Some node ↦ (λ there. put_node w n (with_clients_ended v ids node) all there) ] (all n)

  -- nodes that stop
  pub all_unlinked_all : (links : List PlainLink) (w : PlainWorld) → InWorld P w → InWorld P (all_unlinked links w)
  all_unlinked_all [] w all = all
  all_unlinked_all (link ∷ links) w all = all_unlinked_all links (unlinked link w) (unlinked_all w link all)

  pub none_at : AllAt P (λ v. None)
  none_at v vb e = absurd (cc e)

  pub dropped_all : (n : ℕ) (out : Left) (w : PlainWorld) → InWorld P w → InWorld P (dropped n out w)
  dropped_all n out w all =
      let cut : PlainWorld = all_cut n w in let rest : InWorld P cut = all_unlinked_all (filter (touches n) w.links) w all in
      elim (cut.nodes n) as (λ o. InWorld P (node_if n (stopped_node out) cut o)) [ None ↦ rest | Some node ↦ put_node cut n (stopped_node out node) rest none_at ]

  pub armed_all : (n : ℕ) (before : PlainWorld) (came : Outcome) → InWorld P came.0 → InWorld P (with_arm n before came).0
  armed_all n before came all = by (fired_by (arm_in (before.nodes n)).fuse (arm_in (came.0.nodes n)).fuse)
    where
      by : (f : Fired) → InWorld P (after_fire n (arm_in (before.nodes n)).out f came).0
      by fired.No = all
      by fired.Failed = all
      by fired.Stopped = dropped_all n (arm_in (before.nodes n)).out came.0 all

  pub broken_all : (n l : ℕ) (before : PlainWorld) (came : Outcome) → InWorld P came.0 → InWorld P (with_broken n l before came).0
  broken_all n l before came all = by (is_broken_answer came.1.answer)
    where
      at : (f : Fired) → InWorld P (after_broken n l (arm_in (before.nodes n)).out f came).0
      at fired.No = all
      at fired.Failed = all
      at fired.Stopped = dropped_all n (arm_in (before.nodes n)).out came.0 all

      by : (b : Bool) → InWorld P (if b then after_broken n l (arm_in (before.nodes n)).out (fired_by (arm_in (before.nodes n)).fuse (arm_in (came.0.nodes n)).fuse) came else came).0
      by true = at (fired_by (arm_in (before.nodes n)).fuse (arm_in (came.0.nodes n)).fuse)
      by false = all

  -- a line that may be refused
  pub unless_all : (w : PlainWorld) (o : Outcome) (why : Option Cause) → InWorld P w → InWorld P o.0 → InWorld P (refused_or why w o).0
  unless_all w o (Some why) before now = before
  unless_all w o None before now = now

  pub kept_or : (node : PlainNode) (x : PlainNode × Told) (why : Option Cause) → AllAt P node.vbs → AllAt P x.0.vbs → AllAt P (refused_or why node x).0.vbs
  kept_or node x (Some why) before now = before
  kept_or node x None before now = now
