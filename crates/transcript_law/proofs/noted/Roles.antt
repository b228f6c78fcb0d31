-- the lines `vb`, `promote`, `follow` and `dead`: the streams of the vBucket that gets a role end, at all links
use Rattle.std.specs.Prelude.{◌≡◌, ◌∷◌, ◌++◌, ◌&&◌, ◌||◌, ◌==◌, ◌⊎◌, if◌then◌else◌}
use Rattle.std.specs.List.{All, list_any, filter}
use Rattle.transcript_law.proofs.Words.{ℕ, Bool, true, false, List, [], map, refl, ap, sym, ◌∙◌, subst, inl, inr, ⊎_elim, eqb-true, eqb-false, eq-eqb, ne_eqb, Option, Some, None, is_some, All-cons, All-head, All-nil, All-tail, AdminCall, AdminResult, Cause, Chronicle, Cluster, Event, Frame, Granted, Member, Outcome, Plain, PlainConsumer, PlainLink, PlainNode, PlainProducer, PlainStream, PlainWorld, Role, States, Status, Stream, VbAnswer, VbCall, VbReply, Told}
use Rattle.transcript_law.proofs.Words.{Ended, admin_call, admin_result, after_job, after_job_bind, call_at, called_at, cut_off, ended_in, first_cause, link_ended, links_ended, no_node, node_outcome, on_node, own_link, plain_step, producer_node, promote_refusal, promoted, refusal_reply, refused_or, role_outcome, stream_at, stream_ids, turned_after, turned_if, vb_in, with_ended, with_node_at, in_role, ending_reply, vb_causes, replica_causes, turn_row, is_role}
use Rattle.node_core.specs.Admin.{admin_job, admin_refused, role_at, role_noted}
use Rattle.node_world.specs.{Arms.{placed, under_arm}, Nodes.{vb_made}, Power.{with_arm}, Turns.{posted_in, role_called, turned}}
use Rattle.transcript_law.proofs.balance.Leaving.{IsAmong, cut_among, posted_links}
use Rattle.transcript_law.proofs.invariant.{Agreement.{AgreesIn, EndsStand, IsLink, LinkAgrees, Wants, idle, kept_stream, vb_of}, ClientsTurned.{id_listed}}
use Rattle.transcript_law.proofs.links.Turning.{told_is_link}
use Rattle.transcript_law.proofs.noted.{Groups.{RemainOn, dial_at}, Known.{Remains, StreamsOn}, Staying.{streams_same}}
use Rattle.transcript_law.specs.Asked.{IsRefused, RisesOn, TellsOnce, TurnsTo, is_turn, turns_in}
use Rattle.transcript_law.specs.LinesTold.{Dial}
use Rattle.transcript_law.specs.TakeoverNotes.{is_role_of, turns_feeder}
use Rattle.vb_calls.specs.Flushes.{is_refusal, note_role_job, role_job, role_of_call, role_told_job}
use Rattle.vb_calls.specs.Jobs.{Call as Asks}
use Rattle.vb_calls.specs.Shelves.{Shelves}
use Rattle.vb_calls.specs.declared.journals.Wrote.{Wrote}
use Rattle.vb_calls.specs.declared.journals.Wrote.TheVariants as wrote

-- ---- which roles lines tell of

role_turn : (n v : ℕ) (line : Event) → is_turn line ≡ false → is_role_of n v line ≡ false
role_turn n v (Event.Role m u role) e = cc
role_turn n v other e = refl

-- by those among them that tell of a branch or a role
roles_in : (n v : ℕ) (lines : List Event) → list_any (is_role_of n v) lines ≡ list_any (is_role_of n v) (turns_in lines)
roles_in n v [] = refl
roles_in n v (line ∷ lines) = by (is_turn line) refl (roles_in n v lines)
  where
    by : (b : Bool) → is_turn line ≡ b → list_any (is_role_of n v) lines ≡ list_any (is_role_of n v) (turns_in lines) → (is_role_of n v line || list_any (is_role_of n v) lines) ≡ list_any (is_role_of n v) (if b then line ∷ turns_in lines else turns_in lines)
    by true e rest = ap (λ b. is_role_of n v line || b) rest
    by false e rest = ap (λ b. b || list_any (is_role_of n v) lines) (role_turn n v line e) ∙ rest

or_none : (a : Bool) → (a || false) ≡ a
or_none true = refl
or_none false = refl

-- this vBucket got a role, and no other one
abbrev pub Turns : ℕ → ℕ → List Event → Type 0
Turns n v lines = (dial : Dial) → turns_feeder (Some dial) lines ≡ (n == dial.producer && v == dial.vb)

pub turns_to : (n v : ℕ) (role : Role) (lines : List Event) → TurnsTo n v role lines → Turns n v lines
turns_to n v role lines is dial = roles_in dial.producer dial.vb lines ∙ ap (list_any (is_role_of dial.producer dial.vb)) is ∙ or_none (n == dial.producer && v == dial.vb)

pub rises_to : (n v uuid : ℕ) (lines : List Event) → RisesOn n v uuid lines → Turns n v lines
rises_to n v uuid lines x dial = roles_in dial.producer dial.vb lines ∙ ap (list_any (is_role_of dial.producer dial.vb)) x.alone ∙ or_none (n == dial.producer && v == dial.vb)

-- no vBucket did
abbrev pub TurnsNone : List Event → Type 0
TurnsNone lines = (dial : Dial) → turns_feeder (Some dial) lines ≡ false

pub turns_none : (lines : List Event) → turns_in lines ≡ [] → TurnsNone lines
turns_none lines calm dial = roles_in dial.producer dial.vb lines ∙ ap (list_any (is_role_of dial.producer dial.vb)) calm

-- ---- the streams of a link

-- a stream of it is of the link's vBucket, and open there unless a change of role ended it
pub record Serves (w : PlainWorld) (n v : ℕ) (s : PlainStream) : Type 0 where
  pub vb_is : s.vb ≡ v
  opens : s.ended ≡ false → (p : Plain) × (vb_of w n v ≡ Some p) × (t : Stream) × (stream_at s.id p.streams ≡ Some t)

one_serves : (w : PlainWorld) (n v : ℕ) (over : Bool) (stream : PlainStream) → (over ≡ false → Serves w n v stream) → (streams : List PlainStream) → streams ≡ kept_stream over stream → All (Serves w n v) streams
one_serves w n v true stream s streams e = subst (All (Serves w n v)) (sym e) (All-nil (Serves w n v))
one_serves w n v false stream s streams e = subst (All (Serves w n v)) (sym e) (All-cons (Serves w n v) stream [] (s refl) (All-nil (Serves w n v)))

none_serves : (w : PlainWorld) (n v : ℕ) (streams : List PlainStream) → streams ≡ [] → All (Serves w n v) streams
none_serves w n v streams e = subst (All (Serves w n v)) (sym e) (All-nil (Serves w n v))

ends_serve : (w : PlainWorld) (n : ℕ) (fv : Wants) (kn : Member) (leader : Member) (g : Option Granted) (said : Option Role) (point : Option ℕ) (served : PlainProducer) (asker : PlainConsumer) (up down : List Frame)
    → EndsStand fv kn (vb_of w n asker.dialed.vb) leader g said point served asker up down → All (Serves w n asker.dialed.vb) served.streams
ends_serve w n fv kn leader g said point served asker up down (EndsStand.IsAsking ask none x) = none_serves w n asker.dialed.vb served.streams x.no_stream
ends_serve w n fv kn leader g said point served asker up down (EndsStand.IsRefusedYet none x) = none_serves w n asker.dialed.vb served.streams x.no_stream
ends_serve w n fv kn leader g said point served asker up down (EndsStand.IsStreaming x is) = one_serves w n asker.dialed.vb x.granted_is.over x.serving.stream (λ goes. record {
  vb_is = x.streams.vb_is;
  opens = λ e. let o = x.streams.opens e in (o.producer, o.producer_is, o.opened.0, o.opened.1);
}) served.streams x.serving.stream_is
ends_serve w n fv kn leader g said point served asker up down (EndsStand.IsHeir x is) = one_serves w n asker.dialed.vb x.granted_is.over x.stream (λ goes. record {
  vb_is = x.vb_is;
  opens = λ e. let o = x.opens e goes in (o.producer, o.producer_is, o.opened.0, o.opened.1);
}) served.streams x.stream_is

pub link_serves : (w : PlainWorld) (r : Chronicle) (c : Cluster) (link : PlainLink) → LinkAgrees w r c link [] [] → All (Serves w (producer_node link) link.consumer.dialed.vb) link.server.streams
link_serves w r c link a = ends_serve w (producer_node link) _ _ _ _ _ _ link.server link.consumer _ _ a.talk.stands

-- ---- a change of role ends them

and_parts_of : (a b c d : ℕ) → (a ≡ c → b ≡ d → ⊥) → (a == c && b == d) ≡ false
and_parts_of a b c d ne = by (a == c) (b == d) refl refl
  where
    by : (x y : Bool) → (a == c) ≡ x → (b == d) ≡ y → (x && y) ≡ false
    by true true e f = absurd (ne (eqb-true a c e) (eqb-true b d f))
    by true false e f = refl
    by false y e f = refl

always_ended : (b : Bool) → (b ≡ false → ⊥) → b ≡ true
always_ended true e = refl
always_ended false e = absurd (e refl)

or_true : (a : Bool) → (a || true) ≡ true
or_true true = refl
or_true false = refl

-- one stream, at the node whose vBucket turned
ended_as : (w : PlainWorld) (n v u : ℕ) (vb : Plain) (s : PlainStream) → vb_of w n v ≡ Some vb → Serves w n u s → (ended_in v (stream_ids vb.streams) s).ended ≡ (s.ended || (v == u))
ended_as w n v u vb s known serves = by (s.vb == v) (list_any (λ i. i == s.id) ids) refl refl
  where
    ids : List ℕ
    ids = stream_ids vb.streams

    -- one that is not among the open ones of the vBucket was ended before
    before : s.vb ≡ v → list_any (λ i. i == s.id) ids ≡ false → s.ended ≡ true
    before e none = always_ended s.ended (λ goes.
        let o = serves.opens goes in
        let is : Some o.0 ≡ Some vb = sym o.1 ∙ ap (vb_of w n) (sym serves.vb_is ∙ e) ∙ known in
        let same : o.0 ≡ vb = cc in
        let z : false ≡ true = sym none ∙ id_listed s.id vb.streams o.2 (subst (λ (p : Plain). stream_at s.id p.streams ≡ Some o.2) same o.3) in cc)

    here : s.vb ≡ v → (v == u) ≡ true
    here e = eq-eqb v u (sym e ∙ serves.vb_is)

    by : (a b : Bool) → (s.vb == v) ≡ a → list_any (λ i. i == s.id) ids ≡ b → (if a && b then record s { ended = true } else s).ended ≡ (s.ended || (v == u))
    by true true e f = sym (or_true s.ended) ∙ ap (λ b. s.ended || b) (sym (here (eqb-true s.vb v e)))
    by true false e f = let was = before (eqb-true s.vb v e) f in was ∙ ap (λ b. b || (v == u)) (sym was)
    by false b e f = sym (or_none s.ended) ∙ ap (λ b. s.ended || b) (sym (ne_eqb v u (λ same. eqb-false s.vb v e (serves.vb_is ∙ sym same))))

gives_same : (v : ℕ) (ids : List ℕ) (s : PlainStream) → (ended_in v ids s).gives ≡ s.gives
gives_same v ids s = elim (s.vb == v && list_any (λ i. i == s.id) ids) as (λ b. (if b then record s { ended = true } else s).gives ≡ s.gives) [ true ↦ refl | false ↦ refl ]

streams_ended : (w : PlainWorld) (n v u : ℕ) (vb : Plain) (turns : Bool) → vb_of w n v ≡ Some vb → turns ≡ (v == u) → (ss : List PlainStream) → All (Serves w n u) ss → StreamsOn turns ss (map (ended_in v (stream_ids vb.streams)) ss)
streams_ended w n v u vb turns known is [] all = tt
streams_ended w n v u vb turns known is (s ∷ ss) all =
    ((gives_same v (stream_ids vb.streams) s, ended_as w n v u vb s known (All-head (Serves w n u) s ss all) ∙ ap (λ b. s.ended || b) (sym is)), streams_ended w n v u vb turns known is ss (All-tail (Serves w n u) s ss all))

module _ (w : PlainWorld) (r : Chronicle) (c : Cluster) (a : AgreesIn idle w r c) (n v : ℕ) (lines : List Event) (turned : Turns n v lines) where
  -- a link once the streams of the vBucket ended
  ended_remains : (vb : Plain) → vb_of w n v ≡ Some vb → (y : PlainLink) → IsLink y w.links → Remains (turns_feeder (Some (dial_at y)) lines) y (link_ended n v (stream_ids vb.streams) y)
  ended_remains vb known y i = by (producer_node y == n) refl
    where
      ids : List ℕ
      ids = stream_ids vb.streams

      here : producer_node y ≡ n → turns_feeder (Some (dial_at y)) lines ≡ (v == y.consumer.dialed.vb)
      here e = turned (dial_at y) ∙ ap (λ b. b && (v == y.consumer.dialed.vb)) (eq-eqb n (producer_node y) (sym e))

      there : (producer_node y ≡ n → ⊥) → turns_feeder (Some (dial_at y)) lines ≡ false
      there ne = turned (dial_at y) ∙ and_parts_of n v (producer_node y) y.consumer.dialed.vb (λ e f. ne (sym e))

      by : (b : Bool) → (producer_node y == n) ≡ b → Remains (turns_feeder (Some (dial_at y)) lines) y (if b then record y { server = record y.server { streams = map (ended_in v ids) y.server.streams } } else y)
      by true e = let at = eqb-true (producer_node y) n e in record {
        dialed = refl;
        taking = refl;
        coming = λ m k. k;
        streams = streams_ended w n v y.consumer.dialed.vb vb (turns_feeder (Some (dial_at y)) lines) known (here at) y.server.streams (subst (λ k. All (Serves w k y.consumer.dialed.vb) y.server.streams) at (link_serves w r c y (a.links y i)));
      }
      by false e = record { dialed = refl; taking = refl; coming = λ m k. k; streams = streams_same (turns_feeder (Some (dial_at y)) lines) y.server.streams (there (eqb-false (producer_node y) n e)) }

  -- all links, of which some were cut
  pub ended_remain : (vb : Plain) → vb_of w n v ≡ Some vb → (links : List PlainLink) → IsAmong (links_ended n v (stream_ids vb.streams) w.links) links → RemainOn lines w.links links
  ended_remain vb known links among x i =
      let (y, j, e) = told_is_link n v (stream_ids vb.streams) w.links x (among x i) in
      (y, j, subst (λ (k : PlainLink). Remains (turns_feeder (Some (dial_at k)) lines) y k) (sym e) (subst (λ d. Remains (turns_feeder (Some d) lines) y (link_ended n v (stream_ids vb.streams) y)) (sym (dial_same y)) (ended_remains vb known y j)))
    where
      dial_same : (y : PlainLink) → dial_at (link_ended n v (stream_ids vb.streams) y) ≡ dial_at y
      dial_same y = elim (producer_node y == n) as (λ b. dial_at (if b then record y { server = record y.server { streams = map (ended_in v (stream_ids vb.streams)) y.server.streams } } else y) ≡ dial_at y) [ true ↦ refl | false ↦ refl ]

  -- a vBucket that was not there fed no link
  made_streams : (u : ℕ) (turns : Bool) → (turns ≡ true → vb_of w n u ≡ None) → (ss : List PlainStream) → All (Serves w n u) ss → StreamsOn turns ss ss
  made_streams u turns none [] all = tt
  made_streams u turns none (s ∷ ss) all = ((refl, by turns refl), made_streams u turns none ss (All-tail (Serves w n u) s ss all))
    where
      by : (b : Bool) → turns ≡ b → s.ended ≡ (s.ended || b)
      by false e = sym (or_none s.ended)
      by true e = always_ended s.ended (λ goes. let o = (All-head (Serves w n u) s ss all).opens goes in let z : None ≡ Some o.0 = sym (none e) ∙ o.1 in cc) ∙ sym (or_true s.ended)

  pub made_remain : vb_of w n v ≡ None → (links : List PlainLink) → IsAmong w.links links → RemainOn lines w.links links
  made_remain none links among x i = (x, among x i, record { dialed = refl; taking = refl; coming = λ m k. k; streams = by (producer_node x == n) refl })
    where
      j : IsLink x w.links
      j = among x i

      by : (b : Bool) → (producer_node x == n) ≡ b → StreamsOn (turns_feeder (Some (dial_at x)) lines) x.server.streams x.server.streams
      by true e = let at = eqb-true (producer_node x) n e in let turns = turns_feeder (Some (dial_at x)) lines in
          made_streams x.consumer.dialed.vb turns
          (λ t. ap (vb_of w n) (sym (eqb-true v x.consumer.dialed.vb (sym (ap (λ b. b && (v == x.consumer.dialed.vb)) (eq-eqb n (producer_node x) (sym at))) ∙ sym (turned (dial_at x)) ∙ t))) ∙ none)
          x.server.streams (subst (λ k. All (Serves w k x.consumer.dialed.vb) x.server.streams) at (link_serves w r c x (a.links x j)))
      by false e = streams_same (turns_feeder (Some (dial_at x)) lines) x.server.streams (turned (dial_at x) ∙ and_parts_of n v (producer_node x) x.consumer.dialed.vb (λ k f. eqb-false (producer_node x) n e (sym k)))
