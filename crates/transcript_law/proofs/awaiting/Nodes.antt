-- lines that a node carries out: nobody waits for nothing behind them
use Rattle.std.specs.Prelude.{◌≡◌, ◌≢◌, ◌<◌, ◌⊎◌, ◌∷◌, if◌then◌else◌}
use Rattle.transcript_law.proofs.Words.{ℕ, Bool, true, false, not, List, [], refl, ap, sym, ◌∙◌, subst, inl, inr, ⊎_elim, eq-eqb, ne_eqb, Option, Some, None, is_some, Plain, PlainNode, States, VbReply, after, after_job, bytes_at, bytes_if, call_at, first_cause, left_open, quiet_reply, refusal_reply, refused_or, with_states, is_active}
use Rattle.client_session.specs.declared.session.Awaited.{Awaited}
use Rattle.dcp_producer.specs.Producers.{is_client}
use Rattle.durability.specs.Chains.{Links, Members, is_chain}
use Rattle.node_core.specs.Clients.{Handling, PlainClient, client_fed}
use Rattle.node_core.specs.Flushing.{FlushResult, chain_changed, flush_at, flush_result, resolved_in, settled_by, settled_result, ticked}
use Rattle.vb_calls.specs.Durable.{expired}
use Rattle.vb_calls.specs.declared.journals.Flushed.{Flushed}
use Rattle.vb_calls.specs.declared.journals.Flushed.TheVariants as flushed
use Rattle.vb_types.specs.declared.journal.Batch.{Batch}
use Rattle.vb_types.specs.declared.journal.FlushPart.{FlushPart}
use Rattle.vb_types.specs.declared.journal.FlushPart.TheVariants as part
use Rattle.vbucket.specs.Laws.{IsTimely}
use Rattle.node_world.specs.Nodes.{flush_here, all_posted, chain_line, chain_made, flush_line, is_active_one, save_line, tick_line, with_kept}
use Rattle.node_world.specs.Arms.{placed}
use Rattle.node_world.specs.declared.script_node.TheConstants.{MAX_CLIENTS}
use Rattle.std.proofs.lemmas.Bool.{cases_eq}
use Rattle.transcript_law.proofs.awaiting.{Frames.{Well, fed_well, ran_well}, Jobs.{Ends, KeptOr, SettlesOnce, settles_once, step_tells}, Posts.{Good, posts_good}, States.{Kept}}
use Rattle.transcript_law.proofs.invariant.{AtRest.{Still, still_ran, still_steps}, CallsKept.{AllAt, ran_job}, Ranged.{NodeRanged, SessionRangedIf, kept_ranged}, TimelyCalls.{chain_tame, flush_tame, tick_tame}}
use Rattle.transcript_law.proofs.lines.SessionLines.{IsKept}
use Rattle.transcript_law.specs.Waits.{IsOutstandingAt, IsTold, NoneWaitsInVain}
use Rattle.vb_calls.specs.Flushes.{append_job, appended_job, batch_of_reply, done_job, flush_job, part_job, save_all_job, taken_job, took}
use Rattle.vb_calls.specs.Jobs.{Job, Ended, bind_job}
use Rattle.vb_calls.specs.Jobs as job
use Rattle.vb_calls.specs.Settling.{also_resolved, and_settled}
use Rattle.vb_calls.specs.Shelves.{DiskFailed, Fate, Flush, Idle, Out, Stood, WasClosed, Written}
use Rattle.vb_calls.specs.declared.calls.Resolved.{Resolved}
use Rattle.vb_calls.specs.declared.calls.VbAnswer.TheVariants as answer
use Rattle.vb_calls.specs.declared.calls.VbCall.TheVariants as call
use Rattle.vb_events.specs.declared.event.Cause.TheVariants as cause
use Rattle.vb_types.specs.declared.status.Status.TheVariants as status

-- ---- what stands between lines

pub waits_of : (n : ℕ) (node : PlainNode) → Good n [] node → NoneWaitsInVain node
waits_of n node g c client a lt is has = ⊎_elim (λ o. o) (λ none. absurd none) (g.waits c client a lt is has)

-- nobody awaits under 0
pub number_some : (n : ℕ) (node : PlainNode) → NodeRanged n node → (c : ℕ) (client : PlainClient) (a : Awaited) → node.clients c ≡ Some client → client.session.awaited ≡ Some a → a.waiter ≢ 0
number_some n node r c client a is has =
    let s = subst (SessionRangedIf n) is (r.clients c) in
    by client.session.awaited has s.numbered
  where
    by : (o : Option Awaited) → o ≡ Some a → (elim o as (λ x. Type 0) [ None ↦ Unit {0} | Some b ↦ (b.waiter ≡ 0 → ⊥) ]) → a.waiter ≢ 0
    by None e k = absurd (cc e)
    by (Some b) e k = let same : b ≡ a = cc in subst (λ (x : Awaited). x.waiter ≢ 0) same k

-- a node with other vBuckets, at which who waited waits on, or is about to be told
pub told_good : (n : ℕ) (rs : List Resolved) (node node' : PlainNode) → node'.clock ≡ node.clock → ((c : ℕ) → node'.clients c ≡ node.clients c) → node'.off ≡ node.off → AllAt Still node'.vbs → KeptOr rs node.vbs node'.vbs → Good n [] node → Good n rs node'
told_good n rs node node' clock clients off still kept g = record {
  still = still;
  ranged = kept_ranged n node node' clock clients off g.ranged;
  counted = λ c client is. g.counted c client (sym (clients c) ∙ is);
  apart = λ c d client other is has same. g.apart c d client other (sym (clients c) ∙ is) (sym (clients d) ∙ has) same;
  waits = λ c client a lt is has.
      let was = sym (clients c) ∙ is in
      kept a.waiter (number_some n node g.ranged c client a was has) (⊎_elim (λ o. o) (λ none. absurd none) (g.waits c client a lt was has));
}

-- outcomes are posted there
pub told_waits : (n : ℕ) (rs : List Resolved) (node node' : PlainNode) → node'.clock ≡ node.clock → ((c : ℕ) → node'.clients c ≡ node.clients c) → node'.off ≡ node.off → AllAt Still node'.vbs → KeptOr rs node.vbs node'.vbs → Good n [] node
    → NoneWaitsInVain (all_posted rs node').0
told_waits n rs node node' clock clients off still kept g = waits_of n (all_posted rs node').0 (posts_good n rs node' (told_good n rs node node' clock clients off still kept g))

-- ---- a client's bytes

pub bytes_wait : (n c : ℕ) (bytes : List ℕ) (node : PlainNode) → AllAt Still node.vbs → NodeRanged n node → NoneWaitsInVain node → NoneWaitsInVain (bytes_at c bytes node).0
bytes_wait n c bytes node still ranged none = by (node.clients c) refl
  where
    by : (o : Option PlainClient) → node.clients c ≡ o → NoneWaitsInVain (bytes_if c bytes node o).0
    by None e d x a lt is has = none d x a lt is has
    by (Some client) e d x a lt is has = ⊎_elim
        (λ same.
        let old : (b : Awaited) → client.session.awaited ≡ Some b → IsOutstandingAt b.waiter node.vbs = λ b k. none c client b (subst (λ m. m < MAX_CLIENTS) same lt) e k in
        let w : Well node.clock ranged.clock node.vbs y = fed_well node.clock ranged.clock node.vbs bytes client node.vbs own.1 still (λ k o. o) (ap is_client own.0.stream) old in
        w.backs a (ap (λ (z : PlainClient). z.session.awaited) (left_is y.1.client.session.closed (sym (ap (λ b. if b then left_open y.1.client else node.clients d) (eq-eqb d c same)) ∙ is)) ∙ has))
        (λ ne. fed_kept a.waiter (none d x a lt (sym (ap (λ b. if b then left_open y.1.client else node.clients d) (ne_eqb d c ne)) ∙ is) has))
        (cases_eq d c)
      where
        own : IsKept n c (Some client)
        own = subst (IsKept n c) e (ranged.own c)

        y : States × Handling
        y = after (client_fed node.clock bytes client) node.vbs

        left_is : (b : Bool) → (if b then None else Some y.1.client) ≡ Some x → y.1.client ≡ x
        left_is true k = absurd (cc k)
        left_is false k = cc

        fed_kept : Kept node.vbs y.0
        fed_kept = (ran_well node.clock ranged.clock bytes client node.vbs own.1 still (ap is_client own.0.stream)).kept

-- ---- chains and clocks

-- an active vBucket settles, any other refuses, and nothing is told
settles_if : (n v k : ℕ) (states : States) (b : Bool) (start : Plain × VbReply) (vb : Plain) → start.1.answer ≡ answer.Done → let x = if b then and_settled start else (vb, refusal_reply status.NotMyVbucket) in
    (now : States) → IsOutstandingAt k now ⊎ IsTold k x.1.resolved → IsOutstandingAt k now ⊎ IsTold k (settled_by n v x.1 x.1.answer).resolved
settles_if n v k states true start vb e now h = subst (λ s. IsOutstandingAt k now ⊎ IsTold k (settled_by n v (and_settled start).1 s).resolved) (sym e) h
settles_if n v k states false start vb e now h = h

module _ (n v : ℕ) (node : PlainNode) (g : Good n [] node) where
  chain_kept : (links : Links) → is_chain links.active links.others ≡ true → let x = after (chain_changed n v links) node.vbs in KeptOr x.1.resolved node.vbs x.0
  chain_kept links e k some o = by (node.vbs v) (step_tells node.vbs v (call.Chain links) e g.still k some o)
    where
      by : (p : Option Plain) → let step = call_at node.vbs v (call.Chain links) p in IsOutstandingAt k step.0 ⊎ IsTold k (resolved_in step.1) → IsOutstandingAt k step.0 ⊎ IsTold k (settled_result n v step.1).resolved
      by None h = h
      by (Some vb) h = settles_if n v k node.vbs (is_active vb.role) (record vb { others = links.others }, quiet_reply answer.Done) vb refl (call_at node.vbs v (call.Chain links) (Some vb)).0 h

  tick_kept : let x = after (ticked n v node.clock) node.vbs in KeptOr x.1.resolved node.vbs x.0
  tick_kept k some o = by (node.vbs v) (step_tells node.vbs v (call.Tick node.clock) tt g.still k some o)
    where
      by : (p : Option Plain) → let step = call_at node.vbs v (call.Tick node.clock) p in IsOutstandingAt k step.0 ⊎ IsTold k (resolved_in step.1) → IsOutstandingAt k step.0 ⊎ IsTold k (settled_result n v step.1).resolved
      by None h = h
      by (Some vb) h = settles_if n v k node.vbs (is_active vb.role) (also_resolved (quiet_reply answer.Done) (expired node.clock vb)) vb refl (call_at node.vbs v (call.Tick node.clock) (Some vb)).0 h

  pub tick_waits : NoneWaitsInVain (tick_line n v node).0
  tick_waits =
      let x = after (ticked n v node.clock) node.vbs in
      told_waits n x.1.resolved node (with_states node x.0) refl (λ c. refl) refl (still_ran (ticked n v node.clock) node.vbs (tick_tame n v node.clock) g.still) tick_kept g

  pub chain_waits : (others : Members) → NoneWaitsInVain (chain_line n v others node).0
  chain_waits others = by (not (is_some (node.vbs v))) (not (is_active_one (node.vbs v))) (is_chain n others) refl
    where
      made : is_chain n others ≡ true → NoneWaitsInVain (chain_made n v others node).0
      made e =
          let links : Links = record { active = n; others = others } in
          let x = after (chain_changed n v links) node.vbs in
          told_waits n x.1.resolved node (with_states node x.0) refl (λ c. refl) refl (still_ran (chain_changed n v links) node.vbs (chain_tame n v links e) g.still) (chain_kept links e) g

      by : (a b c : Bool) → is_chain n others ≡ c → NoneWaitsInVain (refused_or (first_cause ((a, cause.UnknownVb) ∷ (b, cause.WrongRole) ∷ (not c, cause.ChainBad) ∷ [])) node (chain_made n v others node)).0
      by true b c e = waits_of n node g
      by false true c e = waits_of n node g
      by false false false e = waits_of n node g
      by false false true e = made e

-- ---- writing down

-- a step's outcomes are those that it tells
abbrev Tells : FlushResult → List Resolved → Type 0
Tells told rs = told.resolved ≡ rs

-- what a job that settles at most once does, and what it is turned to
bind_ends : {A B : Type 0} (R : B → List Resolved → Type 0) (f : A → B) (rs : List Resolved) (one : Job A) → Ends (λ a rs. R (f a) rs) rs one → Ends R rs (bind_job one (λ a. Ended (f a)))
bind_ends R f rs (Ended a) e = e
bind_ends R f rs (job.Call v made next) e = (e.0, λ reply. bind_ends R f rs (next reply) (e.1 reply))
bind_ends R f rs (job.Request v ask next) e = λ got. bind_ends R f rs (next got) (e got)

pub bind_once : {A B : Type 0} (R : B → List Resolved → Type 0) (f : A → B) (one : Job A) → SettlesOnce (λ a rs. R (f a) rs) one → SettlesOnce R (bind_job one (λ a. Ended (f a)))
bind_once R f (Ended a) s = s
bind_once R f (job.Call v made next) s = ⊎_elim (λ q. inl (q.0, λ reply. bind_once R f (next reply) (q.1 reply))) (λ q. inr (q.0, λ reply. bind_ends R f (resolved_in reply) (next reply) (q.1 reply))) s
bind_once R f (job.Request v ask next) s = λ got. bind_once R f (next got) (s got)

module _ (n v : ℕ) where
  abbrev Of : Flushed → List Resolved → Type 0
  Of came rs = Tells (flush_result n v came) rs

  done_once : (seq : ℕ) → SettlesOnce Of (done_job v seq)
  done_once seq = λ kept. inr (tt, λ reply. refl)

  fate_once : (batch : Batch) (next : Job Flushed) → SettlesOnce Of next → (fate : Fate) → SettlesOnce Of (appended_job v batch next fate)
  fate_once batch next s Stood = λ kept. s
  fate_once batch next s WasClosed = λ kept. refl
  fate_once batch next s DiskFailed = λ kept. refl

  append_once : (batch : Batch) (next : Job Flushed) → SettlesOnce Of next → SettlesOnce Of (append_job v batch next)
  append_once batch next s = λ fate. fate_once batch next s fate

  taken_once : (next : Batch → Job Flushed) → ((batch : Batch) → SettlesOnce Of (next batch)) → (o : Option Batch) → SettlesOnce Of (taken_job v next o)
  taken_once next s None = refl
  taken_once next s (Some batch) = λ kept. s batch

  all_once : (batch : Batch) → SettlesOnce Of (save_all_job v batch)
  all_once batch = append_once batch (done_job v batch.position.at) (done_once batch.position.at)

  part_once : (p : FlushPart) (flush : Flush) → SettlesOnce Of (part_job v p flush)
  part_once part.Take Idle = inl ((tt, tt), λ reply. taken_once (λ batch. Ended (took batch)) (λ batch. refl) (batch_of_reply reply))
  part_once part.Take (Out batch) = refl
  part_once part.Take (Written seq) = refl
  part_once part.Save Idle = refl
  part_once part.Save (Out batch) = append_once batch (Ended flushed.Saved) refl
  part_once part.Save (Written seq) = refl
  part_once part.Done Idle = refl
  part_once part.Done (Out batch) = refl
  part_once part.Done (Written seq) = done_once seq
  part_once part.All Idle = inl ((tt, tt), λ reply. taken_once (save_all_job v) all_once (batch_of_reply reply))
  part_once part.All (Out batch) = all_once batch
  part_once part.All (Written seq) = done_once seq

  flush_once : (p : FlushPart) (there : Bool) → SettlesOnce Tells (flush_at n v p there)
  unfolding flush_job
  flush_once p true = bind_once Tells (flush_result n v) (flush_job v p) (λ flush. part_once p flush)
  flush_once p false = refl

  pub flush_waits : (p : FlushPart) (node : PlainNode) → Good n [] node → NoneWaitsInVain (flush_line n v p node).0
  flush_waits p node g =
      let x = after_job (flush_here n v p node) node.vbs node.shelves in
      let k = settles_once Tells (flush_here n v p node) node.vbs node.shelves (flush_once p (is_some (node.vbs v))) g.still in
      told_waits n x.1.resolved node (with_kept node x.0) refl (λ c. refl) refl
      (ran_job Still IsTimely still_steps (λ id. tt) (λ v made. IsTimely made) (λ v ask. Unit {0}) (λ a. Unit {0}) (λ v made k. k) (flush_here n v p node) node.vbs node.shelves (flush_tame n v p (is_some (node.vbs v))) g.still)
      (subst (λ rs. KeptOr rs node.vbs x.0.0) (sym k.2) k.1) g

  -- under the node's arm
  pub save_waits : (node : PlainNode) → Good n [] node → NoneWaitsInVain (save_line n v node).0
  save_waits node g = flush_waits part.Save (placed v node) (told_good n [] node (placed v node) refl (λ c. refl) refl g.still (λ k some o. inl o) g)
