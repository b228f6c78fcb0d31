-- vBuckets that are given up in front of a pump: who waited there is told, and nobody waits for nothing once that is posted
use Rattle.std.specs.Prelude.{◌≡◌, ◌==◌, ◌&&◌, ◌++◌, ◌∷◌, ◌⊎◌, if◌then◌else◌, nat_lt}
use Rattle.std.specs.List.{flat_map}
use Rattle.transcript_law.proofs.Words.{ℕ, Bool, true, false, List, [], map, refl, ap, sym, ◌∙◌, subst, inl, inr, ⊎_elim, append-nil, append_assoc, eq-eqb, eqb-true, Option, Some, None, Plain, PlainLink, PlainNode, PlainProducer, PlainStream, PlainWorld, Stream, States, refusal_reply, Told, VbReply, after, after_bind, after_fold, fold, stepped, call_at, done, each, is_active, link_number, peer_of, producer_node, pump_at, row_at, stream_at, on_link, with_ended, with_states, Call, Done, Prog}
use Rattle.dcp_producer.specs.Giving.{Given, Yields, all_given, behind_yield, given_of, given_up, is_due, none_given, one_given, stream_given, told_as, with_given as more_given, with_told}
use Rattle.dcp_producer.specs.declared.yields.Yielded.{Yielded}
use Rattle.flow_control.specs.Windows.{is_open}
use Rattle.node_core.specs.Flushing.{resolved_in}
use Rattle.node_core.specs.GivingUp.{GiveResult, dead_line, give_result, peer_gives_up, resolved_in as given_outcomes}
use Rattle.node_world.specs.{Nodes.{all_posted}, Pumps.{gives_at, with_given, with_gone}, Turns.{posted_at}, World.{pump_outcome, pump_step, put_behind}}
use Rattle.transcript_law.proofs.awaiting.{Idles.{pump_stays}, Jobs.{KeptOr, step_tells}, Nodes.{told_good, waits_of}, Posts.{Good, posts_good}, Stays.{AllStay, NoneIn, NoneWaits, Stays, all_on, all_same, none_on, on_link_none}, Turns.{ended_all_stay, good_stays}}
use Rattle.transcript_law.proofs.invariant.{AtRest.{Still, still_put, still_steps}, CallsKept.{AllAt, AllIn, InWorld, ended_all, stepped as stepped_all}, Ranged.{IsRanged, NodeRangedIf, with_ended_ranged, with_node}}
use Rattle.transcript_law.specs.Waits.{IsTold, NoneWaitsInVain}
use Rattle.vb_calls.specs.States.{states_step}
use Rattle.vb_calls.specs.declared.calls.Resolved.{Resolved}
use Rattle.vb_calls.specs.declared.calls.VbCall.TheVariants as call
use Rattle.vb_calls.specs.Roles.{yielded, yield_row}
use Rattle.vb_types.specs.declared.status.Status.TheVariants.{NotMyVbucket}
use Rattle.vbucket.specs.Laws.{IsTimely}

-- ---- the streams that give vBuckets up

-- what became of durable writes as they were
abbrev pub outcomes : List Yielded → List Resolved
outcomes given = flat_map given_outcomes given

-- these are told of one that was asked for
asked_told : (vb : Plain) (id v : ℕ) (front : List Yielded) → outcomes (with_told (told_as v (Some (yield_row vb id).1)) []) ≡ (yield_row vb id).1.resolved
asked_told vb id v front = by (is_active vb.role) (stream_at id vb.streams)
  where
    by : (b : Bool) (o : Option Stream) → (let x : Plain × VbReply = if b then yielded o vb else (vb, refusal_reply NotMyVbucket) in outcomes (with_told (told_as v (Some x.1)) []) ≡ x.1.resolved)
    by true None = refl
    by true (Some s) = append-nil (yielded (Some s) vb).1.resolved
    by false o = refl

told_more : (told : Option Yielded) (given : List Yielded) → with_told told given ≡ given ++ with_told told []
told_more None given = sym (append-nil given)
told_more (Some one) given = refl

outcomes_more : (a b : List Yielded) → outcomes (a ++ b) ≡ outcomes a ++ outcomes b
outcomes_more [] b = refl
outcomes_more (x ∷ a) b = ap (λ rs. given_outcomes x ++ rs) (outcomes_more a b) ∙ sym (append_assoc (given_outcomes x) (outcomes a) (outcomes b))

told_front : (k : ℕ) (a b : List Resolved) → IsTold k a → IsTold k (a ++ b)
told_front k [] b t = absurd t
told_front k (x ∷ a) b t = ⊎_elim (λ e. inl e) (λ later. inr (told_front k a b later)) t

told_behind : (k : ℕ) (a b : List Resolved) → IsTold k b → IsTold k (a ++ b)
told_behind k [] b t = t
told_behind k (x ∷ a) b t = inr (told_behind k a b t)

-- who waited waits on, or is told, through these and then those
kept_both : (rs more : List Resolved) (a b c : States) → KeptOr rs a b → KeptOr more b c → KeptOr (rs ++ more) a c
kept_both rs more a b c first second k some o = ⊎_elim (λ on. ⊎_elim (λ p. inl p) (λ t. inr (told_behind k rs more t)) (second k some on)) (λ t. inr (told_front k rs more t)) (first k some o)

-- what came of several of them, by what was told before
pub record Came (before : List Yielded) (old : States) (told : List Yielded) (new : States) : Type 0 where
  pub more : List Yielded
  pub told_is : told ≡ before ++ more
  pub kept : KeptOr (outcomes more) old new
  pub still : AllAt Still new

came_none : (before : List Yielded) (states : States) → AllAt Still states → Came before states before states
came_none before states still = record { more = []; told_is = sym (append-nil before); kept = λ k some o. inl o; still = still }

came_both : (before told last : List Yielded) (a b c : States) → Came before a told b → Came told b last c → Came before a last c
came_both before told last a b c first second = record {
  more = first.more ++ second.more;
  told_is = second.told_is ∙ ap (λ x. x ++ second.more) first.told_is ∙ append_assoc before first.more second.more;
  kept = subst (λ rs. KeptOr rs a c) (sym (outcomes_more first.more second.more)) (kept_both (outcomes first.more) (outcomes second.more) a b c first.kept second.kept);
  still = second.still;
}

-- one
one_came : (stream : PlainStream) (g : Given) (states : States) → AllAt Still states → (let x = after (one_given stream g) states in Came g.yielded states x.1.yielded x.0)
one_came stream g states still = subst (λ (x : States × Given). Came g.yielded states x.1.yielded x.0) (sym (after_bind (stream_given stream) (λ x. Done (more_given g x)) states)) (by (is_due stream))
  where
    asks : Bool → Prog (PlainStream × Option Yielded)
    asks b = if b then Call stream.vb (call.Yield stream.id) (λ reply. Done (behind_yield (told_as stream.vb reply) stream, told_as stream.vb reply)) else Done (stream, None)

    tells : (o : Option Plain) → states stream.vb ≡ o → (let y = call_at states stream.vb (call.Yield stream.id) o in outcomes (with_told (told_as stream.vb y.1) []) ≡ resolved_in y.1)
    tells None e = refl
    tells (Some vb) e = asked_told vb stream.id stream.vb []

    by : (b : Bool) → (let x = after (asks b) states in Came g.yielded states (more_given g x.1).yielded x.0)
    by false = came_none g.yielded states still
    by true =
        let step : States × Option VbReply = states_step states stream.vb (call.Yield stream.id) in
        let told : Option Yielded = told_as stream.vb step.1 in record {
          more = with_told told [];
          told_is = told_more told g.yielded;
          kept = subst (λ rs. KeptOr rs states step.0) (sym (tells (states stream.vb) refl)) (step_tells states stream.vb (call.Yield stream.id) tt still);
          still = stepped_all Still IsTimely still_steps (λ id. tt) states stream.vb (call.Yield stream.id) tt still;
        }

-- all of a connection
fold_came : (streams : List PlainStream) (y : States × Given) → AllAt Still y.0 → (let x = fold (stepped one_given) y streams in Came y.1.yielded y.0 x.1.yielded x.0)
fold_came [] y still = came_none y.1.yielded y.0 still
fold_came (stream ∷ more) y still =
    let x : States × Given = stepped one_given y stream in let first = one_came stream y.1 y.0 still in
    let last : States × Given = fold (stepped one_given) x more in
    came_both y.1.yielded x.1.yielded last.1.yielded y.0 x.0 last.0 first (fold_came more x first.still)

each_came : (streams : List PlainStream) (g : Given) (states : States) → AllAt Still states → (let x = after (each one_given streams g) states in Came g.yielded states x.1.yielded x.0)
each_came streams g states still = subst (λ (x : States × Given). Came g.yielded states x.1.yielded x.0) (sym (after_fold one_given streams (Done g) states)) (fold_came streams (states, g) still)

end_came : (k : ℕ) (end : PlainProducer) (states : States) → AllAt Still states → (let x = after (given_up k end) states in Came [] states x.1.yielded x.0)
unfolding given_up
end_came k end states still = by (nat_lt 0 k && is_open end.window)
  where
    by : (b : Bool) → (let x = after (if b then all_given end else Done (record { end = end; yielded = [] })) states in Came [] states x.1.yielded x.0)
    by true = subst (λ (x : States × Yields). Came [] states x.1.yielded x.0) (sym (after_bind (each one_given end.streams none_given) (λ g. Done (given_of end g)) states)) (each_came end.streams none_given states still)
    by false = came_none [] states still

pub peer_came : (frames : ℕ) (link : PlainLink) (states : States) → AllAt Still states → (let x = after (peer_gives_up frames (peer_of link)) states in KeptOr (outcomes x.1.given) states x.0 × AllAt Still x.0)
peer_came frames link states still =
    let came = end_came frames link.server states still in
    subst (λ (x : States × GiveResult). KeptOr (outcomes x.1.given) states x.0 × AllAt Still x.0) (sym (after_bind (given_up frames link.server) (λ yields. Done (give_result link.up_heard yields)) states))
    (subst (λ given. KeptOr (outcomes given) states (after (given_up frames link.server) states).0) (sym came.told_is) came.kept, came.still)

-- ---- the world

-- streams end at all connections of the node
record On (n : ℕ) (w w' : PlainWorld) : Type 0 where
  pub stay : AllStay w w'
  pub ranged : IsRanged w'
  pub still : InWorld Still w'

given_on : (n : ℕ) (given : List Yielded) (w : PlainWorld) → IsRanged w → InWorld Still w → On n w (with_given n given w)
given_on n [] w ranged still = record { stay = all_same w; ranged = ranged; still = still }
given_on n (one ∷ more) w ranged still =
    let next : PlainWorld = with_ended n one.vb one.ended w in
    let rest = given_on n more next (with_ended_ranged n one.vb one.ended w ranged) (ended_all Still IsTimely still_steps (λ id. tt) w n one.vb one.ended still) in
    record { stay = all_on w next (with_given n more next) (ended_all_stay n one.vb one.ended w) rest.stay; ranged = rest.ranged; still = rest.still }

module _ (w : PlainWorld) (all : NoneWaits w) (ranged : IsRanged w) (still : InWorld Still w) (frames : ℕ) (link : PlainLink) (node : PlainNode) (good : Good (producer_node link) [] node) where
  abbrev n : ℕ
  n = producer_node link

  abbrev x : States × GiveResult
  x = after (peer_gives_up frames (peer_of link)) node.vbs

  abbrev rs : List Resolved
  rs = outcomes x.1.given

  abbrev gone : PlainWorld
  gone = with_gone link node x.0 x.1.peer w

  abbrev told : PlainWorld
  told = with_given n x.1.given gone

  came : KeptOr rs node.vbs x.0 × AllAt Still x.0
  came = peer_came frames link node.vbs good.still

  good_gone : Good n rs (with_states node x.0)
  good_gone = told_good n rs node (with_states node x.0) refl (λ c. refl) refl came.1 came.0 good

  on : On n gone told
  on = given_on n x.1.given gone (with_node w n (with_states node x.0) ranged good_gone.ranged) (still_put w n (with_states node x.0) still came.1)

  other : (m : ℕ) → (m == n) ≡ false → NoneIn (told.nodes m)
  other m e = none_on (gone.nodes m) (told.nodes m) (on.stay m) (subst (λ b. NoneIn (if b then Some (with_states node x.0) else w.nodes m)) (sym e) (all m))

  at : (said : Told) (o : Option PlainNode) → told.nodes n ≡ o → NoneWaits (posted_at n rs told said o).0
  at said None e m = by (m == n) refl
    where
      by : (b : Bool) → (m == n) ≡ b → NoneIn (told.nodes m)
      by true k = subst (λ j. NoneIn (told.nodes j)) (sym (eqb-true m n k)) (subst NoneIn (sym e) tt)
      by false k = other m k
  at said (Some last) e m = by (m == n) refl
    where
      here : Stays (Some (with_states node x.0)) (Some last)
      here = subst (λ o. Stays o (Some last)) (ap (λ b. if b then Some (with_states node x.0) else w.nodes n) (eq-eqb n n refl)) (subst (λ o. Stays (gone.nodes n) o) e (on.stay n))

      posted : NoneWaitsInVain (all_posted rs last).0
      posted = waits_of n (all_posted rs last).0 (posts_good n rs last (good_stays n rs (with_states node x.0) last here (subst (NodeRangedIf n) e (on.ranged n)) (subst (AllIn Still) e (on.still n)) good_gone))

      by : (b : Bool) → (m == n) ≡ b → NoneIn (if b then Some (all_posted rs last).0 else told.nodes m)
      by true k = posted
      by false k = other m k

  pub gave_none : NoneWaits (gives_at frames link w (Some node)).0
  gave_none = at (done (map (dead_line n) x.1.given)) (told.nodes n) refl

-- `pump L K`
pub pump_none : (w : PlainWorld) → NoneWaits w → IsRanged w → InWorld Still w → ((n : ℕ) (node : PlainNode) → w.nodes n ≡ Some node → Good n [] node) → (l frames : ℕ) → NoneWaits (pump_step w l frames).0
pump_none w all ranged still good l frames = by (row_at link_number l w.links)
  where
    puts : (w' : PlainWorld) → NoneWaits w' → NoneWaits (on_link w' l producer_node (pump_at frames)).0
    puts w' none = on_link_none w' l producer_node (pump_at frames) none (λ link node found e here. none_on (Some node) (Some (pump_at frames link node).0) (pump_stays frames link node) here)

    at : (link : PlainLink) (o : Option PlainNode) → w.nodes (producer_node link) ≡ o → NoneWaits (put_behind l frames (gives_at frames link w o)).0
    at link None e = puts w all
    at link (Some node) e = puts (gives_at frames link w (Some node)).0 (gave_none w all ranged still frames link node (good (producer_node link) node e))

    by : (o : Option PlainLink) → NoneWaits (pump_outcome w l frames o).0
    by None = all
    by (Some link) = at link (w.nodes (producer_node link)) refl
