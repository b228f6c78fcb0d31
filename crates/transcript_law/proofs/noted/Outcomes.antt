-- what the lines `promote`, `follow` and `dead` make of links, by what they tell
use Rattle.std.specs.Prelude.{◌≡◌, ◌∷◌, ◌++◌, ◌⊎◌, if◌then◌else◌}
use Rattle.transcript_law.proofs.Words.{ℕ, Bool, true, false, List, [], refl, ap, sym, ◌∙◌, subst, inl, inr, ⊎_elim, Option, Some, None, is_some, AdminCall, AdminResult, Cause, Event, Outcome, Plain, PlainLink, PlainNode, PlainWorld, Role, States, Status, Told, VbAnswer, VbCall, VbReply}
use Rattle.transcript_law.proofs.Words.{Ended, admin_call, admin_result, after_job, after_job_bind, call_at, called_at, cut_off, first_cause, links_ended, no_node, node_outcome, on_node, own_link, plain_step, promote_refusal, promoted, refused_or, role_outcome, stream_ids, turned_after, turned_if, vb_in, with_ended, with_node_at, turn_row, is_role, in_role, ending_reply, refusal_reply, vb_causes, replica_causes}
use Rattle.node_core.specs.Admin.{admin_job, admin_refused, role_at, role_noted}
use Rattle.node_world.specs.{Arms.{placed, under_arm}, Nodes.{vb_made}, Power.{with_arm}, Turns.{posted_in, role_called, turned, posted_at}}
use Rattle.transcript_law.proofs.balance.Leaving.{IsAmong, cut_among, posted_links}
use Rattle.transcript_law.proofs.invariant.Agreement.{IsLink, vb_of}
use Rattle.transcript_law.proofs.noted.Staying.{arm_among}
use Rattle.transcript_law.proofs.verbs.{Asking.{armed_behind}, NodeLines.{on_node_by}}
use Rattle.transcript_law.specs.Asked.{turns_in}
use Rattle.vb_calls.specs.Flushes.{is_refusal, note_role_job, role_job, role_of_call, role_told_job}
use Rattle.vb_calls.specs.Jobs.{Call as Asks}
use Rattle.vb_calls.specs.Shelves.{Shelves}
use Rattle.vb_calls.specs.declared.journals.Wrote.{Wrote}
use Rattle.vb_calls.specs.declared.journals.Wrote.TheVariants as wrote

abbrev pub IsSome : List Event → Type 0
IsSome lines = lines ≡ [] → ⊥

front_some : (xs ys : List Event) → IsSome xs → IsSome (xs ++ ys)
front_some [] ys some e = some refl
front_some (x ∷ xs) ys some e = cc

behind_some : (xs ys : List Event) → IsSome ys → IsSome (xs ++ ys)
behind_some [] ys some e = some e
behind_some (x ∷ xs) ys some e = cc

-- a call that gives this vBucket a role, if it is there, ended its streams and told of it, or it did neither
abbrev Turned : Option Plain → AdminResult → Type 0
Turned o told = ((told.ended ≡ None) × (told.events ≡ [])) ⊎ ((vb : Plain) × (o ≡ Some vb) × (told.ended ≡ Some (stream_ids vb.streams)) × IsSome told.events)

-- its reply
reply_is : (v : ℕ) (c : VbCall) (states : States) (shelves : Shelves) → (after_job (role_job v c) states shelves).1.0 ≡ (call_at states v c (states v)).1
unfolding role_job
reply_is v c states shelves = by (states v)
  where
    either : (reply : VbReply) (st : States) (b : Bool) → (after_job (if b then Ended (Some reply, wrote.NotAsked) else Asks v VbCall.Log (note_role_job v (role_of_call c) reply)) st shelves).1.0 ≡ Some reply
    either reply st true = refl
    either reply st false = refl

    by : (o : Option Plain) → (let y = call_at states v c o in (after_job (role_told_job v c y.1) y.0 shelves).1.0 ≡ y.1)
    by None = refl
    by (Some vb) = let x = plain_step vb c in either x.1 (call_at states v c (Some vb)).0 (is_refusal x.1.answer)

-- so it is with a line: it leaves all links and tells of nothing, or the streams of the vBucket ended, and links were cut
abbrev LinksTurned : ℕ → ℕ → PlainWorld → Outcome → Type 0
LinksTurned n v w came = ((came.0.links ≡ w.links) × (came.1.events ≡ [])) ⊎ ((vb : Plain) × (vb_of w n v ≡ Some vb) × IsAmong (links_ended n v (stream_ids vb.streams) w.links) came.0.links × IsSome came.1.events)

-- under an arm: no role is told, and links may be cut; or the streams ended
abbrev pub LinksUnder : ℕ → ℕ → PlainWorld → Outcome → Type 0
LinksUnder n v w came = (IsAmong w.links came.0.links × (turns_in came.1.events ≡ [])) ⊎ ((vb : Plain) × (vb_of w n v ≡ Some vb) × IsAmong (links_ended n v (stream_ids vb.streams) w.links) came.0.links × IsSome came.1.events)

module _ (n v : ℕ) (asked : AdminCall) (job : admin_job n v asked ≡ role_at n v asked) (replied : (vb : Plain) → Turned (Some vb) (admin_result n v asked (Some (plain_step vb (admin_call asked)).1))) where
  result_is : (states : States) (o : Option Plain) → Turned o (admin_result n v asked (call_at states v (admin_call asked) o).1)
  result_is states None = inl (refl, refl)
  result_is states (Some vb) = replied vb

  noted_is : (o : Option Plain) (reply : Option VbReply) (said : Wrote) → Turned o (admin_result n v asked reply) → Turned o (role_noted n v asked (reply, said))
  noted_is o reply said t = t

  called_is : (node : PlainNode) → Turned (node.vbs v) (called_at n v asked node).1
  called_is node =
      let y = after_job (role_job v (admin_call asked)) node.vbs node.shelves in
      subst (λ j. Turned (node.vbs v) (after_job j node.vbs node.shelves).1) (sym job)
      (subst (λ (x : (States × Shelves) × AdminResult). Turned (node.vbs v) x.1) (sym (after_job_bind (role_job v (admin_call asked)) (λ made. Ended (role_noted n v asked made)) node.vbs node.shelves))
      (noted_is (node.vbs v) y.1.0 y.1.1 (subst (λ o. Turned (node.vbs v) (admin_result n v asked o)) (sym (reply_is v (admin_call asked) node.vbs node.shelves)) (result_is node.vbs (node.vbs v)))))

  role_is : (node : PlainNode) → Turned (node.vbs v) (role_called n v asked node).1
  role_is node = by (is_some node.off)
    where
      by : (b : Bool) → Turned (node.vbs v) (let x : PlainNode × AdminResult = if b then (node, admin_refused Cause.NodeDown) else under_arm v (called_at n v asked) node in x.1)
      by true = inl (refl, refl)
      by false = called_is (placed v node)

  posted_some : (w : PlainWorld) (told : Told) (resolved : List _) → IsSome told.events → IsSome (posted_in n resolved (w, told)).1.events
  posted_some w told resolved some = by (w.nodes n)
    where
      by : (o : Option PlainNode) → IsSome (posted_at n resolved w told o).1.events
      by None = some
      by (Some node) = front_some told.events _ some

  ended_is : (w w' : PlainWorld) (told : AdminResult) (vb : Plain) → w'.links ≡ w.links → IsSome told.events
      → IsAmong (links_ended n v (stream_ids vb.streams) w.links) (turned_if n v w (Some (stream_ids vb.streams)) (w', told)).0.links × IsSome (turned_if n v w (Some (stream_ids vb.streams)) (w', told)).1.events
  ended_is w w' told vb same some =
      let ids : List ℕ = stream_ids vb.streams in
      let now : PlainWorld = with_ended n v ids w' in
      let cut : Outcome = turned n v told now in (
        λ x i. subst (λ links. IsLink x (links_ended n v ids links)) same (cut_among (own_link n v now.links) now x (subst (IsLink x) (posted_links n told.resolved cut) i)),
        posted_some cut.0 cut.1 told.resolved (behind_some (cut_off (own_link n v now.links) now).1 told.events some),
      )

  turned_is : (w w' : PlainWorld) (told : AdminResult) → w'.links ≡ w.links → (o : Option (List ℕ)) → told.ended ≡ o → Turned (vb_of w n v) told → LinksTurned n v w (turned_if n v w o (w', told))
  turned_is w w' told same None e (inl none) = inl (refl, none.1)
  turned_is w w' told same None e (inr (vb, there, ids, some)) = let z : Some (stream_ids vb.streams) ≡ None = sym ids ∙ e in cc
  turned_is w w' told same (Some ids) e (inl none) = let z : None ≡ Some ids = sym none.0 ∙ e in cc
  turned_is w w' told same (Some ids) e (inr (vb, there, are, some)) = let z : Some (stream_ids vb.streams) ≡ Some ids = sym are ∙ e in let is : stream_ids vb.streams ≡ ids = cc in
      subst (λ k. LinksTurned n v w (turned_if n v w (Some k) (w', told))) is (let x = ended_is w w' told vb same some in inr (vb, there, x.0, x.1))

  pub outcome_is : (w : PlainWorld) → LinksTurned n v w (role_outcome n v asked w)
  outcome_is w = by (w.nodes n) refl
    where
      by : (o : Option PlainNode) → w.nodes n ≡ o → LinksTurned n v w (turned_after n v w (node_outcome w n no_node o (role_called n v asked)))
      by None e = inl (refl, refl)
      by (Some node) e = let x = role_called n v asked node in
          turned_is w (with_node_at w n x.0) x.1 refl x.1.ended refl (subst (λ (o : Option PlainNode). Turned (vb_in o v) x.1) (sym e) (role_is node))

  refused_is : (w : PlainWorld) (why : Option Cause) → LinksTurned n v w (refused_or why w (role_outcome n v asked w))
  refused_is w None = outcome_is w
  refused_is w (Some why) = inl (refl, refl)

  pub under_is : (w : PlainWorld) (why : Option Cause) → LinksUnder n v w (with_arm n w (refused_or why w (role_outcome n v asked w)))
  under_is w why =
      let came : Outcome = refused_or why w (role_outcome n v asked w) in let (behind, is, calm) = armed_behind n w came in
      ⊎_elim
      (λ none. inl ((λ x i. subst (IsLink x) none.0 (arm_among n w came x i)), ap turns_in (is ∙ ap (λ ls. ls ++ behind) none.1) ∙ calm))
      (λ (vb, there, among, some). inr (vb, there, (λ x i. among x (arm_among n w came x i)), λ e. front_some came.1.events behind some (sym is ∙ e)))
      (refused_is w why)

-- ---- the calls

follow_replied : (n v : ℕ) (vb : Plain) → Turned (Some vb) (admin_result n v AdminCall.Follow (Some (plain_step vb VbCall.Follow).1))
follow_replied n v vb = elim (is_role vb.role Role.Replica) as (λ b. Turned (Some vb) (admin_result n v AdminCall.Follow (Some (let x : Plain × VbReply = if b then (vb, refusal_reply Status.NotMyVbucket) else (in_role vb Role.Replica, ending_reply vb VbAnswer.Done) in x.1)))) [
  | true ↦ inl (refl, refl)
  | false ↦ inr (vb, refl, refl, λ e. cc)
]

dead_replied : (n v : ℕ) (vb : Plain) → Turned (Some vb) (admin_result n v AdminCall.Dead (Some (plain_step vb VbCall.Dead).1))
dead_replied n v vb = elim (is_role vb.role Role.Dead) as (λ b. Turned (Some vb) (admin_result n v AdminCall.Dead (Some (let x : Plain × VbReply = if b then (vb, refusal_reply Status.NotMyVbucket) else (in_role vb Role.Dead, ending_reply vb VbAnswer.Done) in x.1)))) [
  | true ↦ inl (refl, refl)
  | false ↦ inr (vb, refl, refl, λ e. cc)
]

promote_replied : (n v uuid : ℕ) (vb : Plain) → Turned (Some vb) (admin_result n v (AdminCall.Promote uuid) (Some (plain_step vb (VbCall.Promote uuid)).1))
promote_replied n v uuid vb = by (promote_refusal vb uuid)
  where
    by : (o : Option Status) → Turned (Some vb) (admin_result n v (AdminCall.Promote uuid) (Some (promoted o vb uuid).1))
    by (Some st) = inl (refl, refl)
    by None = inr (vb, refl, refl, λ e. cc)

pub follow_links : (w : PlainWorld) (n v : ℕ) (why : Option Cause) → LinksUnder n v w (with_arm n w (refused_or why w (role_outcome n v AdminCall.Follow w)))
follow_links w n v why = under_is n v AdminCall.Follow refl (follow_replied n v) w why

pub dead_links : (w : PlainWorld) (n v : ℕ) (why : Option Cause) → LinksUnder n v w (with_arm n w (refused_or why w (role_outcome n v AdminCall.Dead w)))
dead_links w n v why = under_is n v AdminCall.Dead refl (dead_replied n v) w why

pub promote_links : (w : PlainWorld) (n v uuid : ℕ) (why : Option Cause) → LinksUnder n v w (with_arm n w (refused_or why w (role_outcome n v (AdminCall.Promote uuid) w)))
promote_links w n v uuid why = under_is n v (AdminCall.Promote uuid) refl (promote_replied n v uuid) w why
