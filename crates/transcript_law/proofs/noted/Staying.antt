-- lines of a script that are for no link, or cut one: each link is one that was there, whose streams end where the vBucket that feeds it gets a role
use Rattle.std.specs.Prelude.{◌≡◌, ◌<◌, ◌≤◌, ◌^◌, ◌+◌, ◌∷◌, ◌++◌, ◌&&◌, ◌||◌, ◌==◌, if◌then◌else◌}
use Rattle.std.specs.List.{list_any}
use Rattle.transcript_law.proofs.Words.{ℕ, Bool, true, false, not, List, [], length, refl, ap, sym, ◌∙◌, subst, arith, inl, inr, ⊎_elim, and_parts, concat, concat-append, map, map-append, append-nil, append_assoc, length-append, Option, Some, None, All, All-cons, All-head, All-nil, All-tail, Cause, Chronicle, ClientVerb, Cluster, Event, Frame, Granted, LinkVerb, Member, Plain, PlainConsumer, PlainProducer, NodeVerb, Outcome, PlainLink, PlainNode, PlainStream, PlainWorld, Role, Verb, VbVerb, dcp_frame, DcpMsg, Readable, frames_in, spelling, refused_or}
use Rattle.mcbp_frame.specs.declared.frame.TheConstants.{HEADER_LEN}
use Rattle.node_world.specs.{Arms.{fired_by}, Dues.{with_due}, Power.{after_fire, with_arm}, Worlds.{arm_in}}
use Rattle.node_core.specs.Dials.{DialResult}
use Rattle.node_world.specs.Links.{dial_of}
use Rattle.transcript_law.proofs.balance.{Hearing.{Dued}, Leaving.{IsAmong, fire_among}, Measures.{frames_back, frames_front, spelled}, Writing.{seqno_readable}}
use Rattle.transcript_law.proofs.invariant.Agreement.{EndsStand, IsLink, LinkAgrees, Wants, is_state_answer}
use Rattle.transcript_law.proofs.noted.Groups.{RemainOn, dial_at, is_still}
use Rattle.transcript_law.proofs.noted.Known.{ComesUp, Remains, StreamsOn, behind_answer}
use Rattle.transcript_law.proofs.verbs.Tellings.{each_told}
use Rattle.transcript_law.specs.LinesTold.{Dial}
use Rattle.transcript_law.specs.TakeoverNotes.{is_role_of, turns_feeder}
use Rattle.transcript_law.specs.Tellings.{TellsOf, are_all, is_of_end, may_tell}

-- ---- lines that tell of no role

abbrev pub is_roleless : Event → Bool
is_roleless (Event.Role n v role) = false
is_roleless other = true

one_roleless : (n v : ℕ) (line : Event) → is_roleless line ≡ true → is_role_of n v line ≡ false
one_roleless n v (Event.Role m u role) e = cc
one_roleless n v other e = refl

pub none_turns : (dial : Dial) (lines : List Event) → are_all is_roleless lines ≡ true → turns_feeder (Some dial) lines ≡ false
none_turns dial [] a = refl
none_turns dial (line ∷ lines) a = let p = and_parts (is_roleless line) (are_all is_roleless lines) a in λ i. one_roleless dial.producer dial.vb line p.0 i || none_turns dial lines p.1 i

-- a line of a script that gives no vBucket a role
abbrev pub gives_none : Verb → Bool
gives_none (Verb.AtVb n v (VbVerb.MakeActive uuid)) = false
gives_none (Verb.AtVb n v VbVerb.MakeReplica) = false
gives_none (Verb.AtVb n v (VbVerb.Promote uuid)) = false
gives_none (Verb.AtVb n v VbVerb.Follow) = false
gives_none (Verb.AtVb n v VbVerb.Dead) = false
gives_none other = is_still other

may_role : (r : Chronicle) (asked : Verb) (m u : ℕ) (role : Role) → gives_none asked ≡ true → may_tell r asked (Event.Role m u role) ≡ false
may_role r (Verb.Node n) m u role e = refl
may_role r (Verb.Link l k n v buffer takeover) m u role e = cc
may_role r (Verb.AtNode n (NodeVerb.Clock nanos)) m u role e = refl
may_role r (Verb.AtNode n (NodeVerb.Stop call out)) m u role e = refl
may_role r (Verb.AtNode n (NodeVerb.Fail call)) m u role e = refl
may_role r (Verb.AtNode n (NodeVerb.Crash out)) m u role e = refl
may_role r (Verb.AtNode n (NodeVerb.Start uuids)) m u role e = refl
may_role r (Verb.AtVb n v (VbVerb.MakeActive uuid)) m u role e = cc
may_role r (Verb.AtVb n v VbVerb.MakeReplica) m u role e = cc
may_role r (Verb.AtVb n v (VbVerb.Promote uuid)) m u role e = cc
may_role r (Verb.AtVb n v VbVerb.Follow) m u role e = cc
may_role r (Verb.AtVb n v VbVerb.Dead) m u role e = cc
may_role r (Verb.AtVb n v (VbVerb.Chain others)) m u role e = refl
may_role r (Verb.AtVb n v VbVerb.Tick) m u role e = refl
may_role r (Verb.AtVb n v VbVerb.Trim) m u role e = refl
may_role r (Verb.AtVb n v VbVerb.Seal) m u role e = refl
may_role r (Verb.AtVb n v VbVerb.Take) m u role e = refl
may_role r (Verb.AtVb n v VbVerb.Save) m u role e = refl
may_role r (Verb.AtVb n v VbVerb.Done) m u role e = refl
may_role r (Verb.AtVb n v VbVerb.Stat) m u role e = refl
may_role r (Verb.AtVb n v VbVerb.Log) m u role e = refl
may_role r (Verb.AtVb n v VbVerb.Show) m u role e = refl
may_role r (Verb.AtClient n c ClientVerb.Open) m u role e = refl
may_role r (Verb.AtClient n c (ClientVerb.Bytes bytes)) m u role e = refl
may_role r (Verb.AtClient n c (ClientVerb.Pull wanted)) m u role e = refl
may_role r (Verb.AtClient n c ClientVerb.Hang) m u role e = refl
may_role r (Verb.AtLink l (LinkVerb.Up wanted)) m u role e = cc
may_role r (Verb.AtLink l (LinkVerb.Down wanted)) m u role e = cc
may_role r (Verb.AtLink l (LinkVerb.Pump wanted)) m u role e = cc
may_role r (Verb.AtLink l LinkVerb.Drop) m u role e = cuts (r.dial_of l)
  where
    cuts : (o : Option Dial) → may_tell (record r { dial_of = λ k. o }) (Verb.AtLink l LinkVerb.Drop) (Event.Role m u role) ≡ false
    cuts None = refl
    cuts (Some dial) = refl
may_role r (Verb.AtLink l LinkVerb.Cut) m u role e = cuts (r.dial_of l)
  where
    cuts : (o : Option Dial) → may_tell (record r { dial_of = λ k. o }) (Verb.AtLink l LinkVerb.Cut) (Event.Role m u role) ≡ false
    cuts None = refl
    cuts (Some dial) = refl

may_roleless : (r : Chronicle) (asked : Verb) → gives_none asked ≡ true → (line : Event) → may_tell r asked line ≡ true → is_roleless line ≡ true
may_roleless r asked none (Event.Role m u role) e = let z : false ≡ true = sym (may_role r asked m u role none) ∙ e in cc
may_roleless r asked none other e = refl

end_roleless : (r : Chronicle) (m : ℕ) (line : Event) → is_of_end r m line ≡ true → is_roleless line ≡ true
end_roleless r m (Event.Role n v role) e = cc
end_roleless r m other e = refl

pub all_roleless : (r : Chronicle) (asked : Verb) (lines : List Event) → gives_none asked ≡ true → TellsOf r asked lines → are_all is_roleless lines ≡ true
all_roleless r asked lines none t = each_told (may_tell r asked) (is_of_end r) is_roleless (may_roleless r asked none) (λ m stops line e. end_roleless r m line e) lines t

-- ---- links

or_false : (a b : Bool) → b ≡ false → a ≡ (a || b)
or_false true b e = refl
or_false false b e = sym e

pub streams_same : (turns : Bool) (ss : List PlainStream) → turns ≡ false → StreamsOn turns ss ss
streams_same turns [] e = tt
streams_same turns (s ∷ ss) e = ((refl, or_false s.ended turns e), streams_same turns ss e)

pub link_same : (turns : Bool) (x : PlainLink) → turns ≡ false → Remains turns x x
link_same turns x e = record { dialed = refl; taking = refl; coming = λ n c. c; streams = streams_same turns x.server.streams e }

-- fewer links, and no role
pub among_remain : (lines : List Event) (links links' : List PlainLink) → IsAmong links links' → are_all is_roleless lines ≡ true → RemainOn lines links links'
among_remain lines links links' among none x i = (x, among x i, link_same (turns_feeder (Some (dial_at x)) lines) x (none_turns (dial_at x) lines none))

pub same_among : (links links' : List PlainLink) → links' ≡ links → IsAmong links links'
same_among links links' same x i = subst (IsLink x) same i

pub refused_among : (w : PlainWorld) (why : Option Cause) (came : Outcome) → IsAmong w.links came.0.links → IsAmong w.links (refused_or why w came).0.links
refused_among w None came among = among
refused_among w (Some why) came among = λ x i. i

pub arm_among : (n : ℕ) (w : PlainWorld) (came : Outcome) → IsAmong came.0.links (with_arm n w came).0.links
arm_among n w came = fire_among n (arm_in (w.nodes n)).out (fired_by (arm_in (w.nodes n)).fuse (arm_in (came.0.nodes n)).fuse) came

-- ---- a consumer that acknowledges more

-- frames of which none answers a state
abbrev pub IsNoAnswer : Frame → Type 0
IsNoAnswer f = is_state_answer f ≡ false

spelled_more : (xs ys : List Frame) → length (spelled (xs ++ ys)) ≡ length (spelled xs) + length (spelled ys)
spelled_more xs ys = ap (λ fs. length (concat fs)) (map-append spelling xs ys) ∙ ap (λ (l : List ℕ). length l) (concat-append (map spelling xs) (map spelling ys)) ∙ length-append (spelled xs) (spelled ys)

none_behind : (more : List Frame) → All IsNoAnswer more → behind_answer more ≡ []
none_behind [] none = refl
none_behind (f ∷ more) none = ap (λ b. if b then more else behind_answer more) (All-head IsNoAnswer f more none) ∙ none_behind more (All-tail IsNoAnswer f more none)

behind_more : (fs more : List Frame) → All IsNoAnswer more → length (spelled (behind_answer (fs ++ more))) ≤ length (spelled (behind_answer fs)) + length (spelled more)
behind_more [] more none = let z : length (spelled (behind_answer more)) ≡ 0 = ap (λ gs. length (spelled gs)) (none_behind more none) in omega (arith, z)
behind_more (f ∷ fs) more none = by (is_state_answer f) (behind_more fs more none)
  where
    by : (b : Bool) → length (spelled (behind_answer (fs ++ more))) ≤ length (spelled (behind_answer fs)) + length (spelled more)
        → length (spelled (if b then fs ++ more else behind_answer (fs ++ more))) ≤ length (spelled (if b then fs else behind_answer fs)) + length (spelled more)
    by true rest = let s = spelled_more fs more in omega (arith, s)
    by false rest = rest

-- an answer that is on its way up is, behind more that is written there
pub comes_more : (y x : PlainLink) (asked more : List Frame) (n : ℕ) → All Readable asked → y.up_heard ++ y.up ≡ spelled asked → All Readable more → All IsNoAnswer more → x.up_heard ≡ y.up_heard → x.up ≡ y.up ++ spelled more → ComesUp n y → ComesUp n x
comes_more y x asked more n readable wrote good none heard up comes =
    let joined : x.up_heard ++ x.up ≡ (y.up_heard ++ y.up) ++ spelled more = (λ i. heard i ++ up i) ∙ sym (append_assoc y.up_heard y.up (spelled more)) in
    let frames : frames_in (x.up_heard ++ x.up) ≡ frames_in (y.up_heard ++ y.up) ++ more = ap frames_in joined ∙ frames_front (y.up_heard ++ y.up) (spelled more) asked readable wrote ∙ ap (λ fs. frames_in (y.up_heard ++ y.up) ++ fs) (frames_back more good) in
    let less = behind_more (frames_in (y.up_heard ++ y.up)) more none in
    let same : length (spelled (behind_answer (frames_in (x.up_heard ++ x.up)))) ≡ length (spelled (behind_answer (frames_in (y.up_heard ++ y.up) ++ more))) = ap (λ fs. length (spelled (behind_answer fs))) frames in
    let long : length x.up ≡ length y.up + length (spelled more) = ap (λ (l : List ℕ). length l) up ∙ length-append y.up (spelled more) in
    omega (arith, comes, less, same, long)

-- what a consumer wrote are whole frames
pub record Wrote (link : PlainLink) : Type 0 where
  pub asked : List Frame
  pub readable : All Readable asked
  pub wrote : link.up_heard ++ link.up ≡ spelled asked
  pub opaque : link.consumer.asked < 2 ^ 32
  pub vb : link.consumer.dialed.vb < 2 ^ 16

opaque_in : (fv : Wants) (kn : Member) (pv : Option Plain) (leader : Member) (g : Option Granted) (said : Option Role) (point : Option ℕ) (served : PlainProducer) (asker : PlainConsumer) (up down : List Frame) → EndsStand fv kn pv leader g said point served asker up down → asker.asked < 2 ^ 32
opaque_in fv kn pv leader g said point served asker up down (EndsStand.IsAsking ask none x) = x.consumer.small
opaque_in fv kn pv leader g said point served asker up down (EndsStand.IsRefusedYet none x) = x.consumer.small
opaque_in fv kn pv leader g said point served asker up down (EndsStand.IsStreaming x is) = x.consumer.small
opaque_in fv kn pv leader g said point served asker up down (EndsStand.IsHeir x is) = x.small

pub wrote_of : (w : PlainWorld) (r : Chronicle) (c : Cluster) (link : PlainLink) → LinkAgrees w r c link [] [] → Wrote link
wrote_of w r c link a = record {
  asked = a.talk.asked;
  readable = a.talk.ups.readable;
  wrote = a.talk.ups.bytes ∙ ap spelled (sym a.talk.ups.joined);
  opaque = opaque_in _ _ _ _ _ _ _ link.server link.consumer _ _ a.talk.stands;
  vb = let few = a.dial.small.1 in omega arith;
}

-- so it is once more of a consumer is written down
seqno_answers : (seq o v : ℕ) → IsNoAnswer (dcp_frame (DcpMsg.SeqnoAcknowledged seq) o v)
unfolding dcp_frame
seqno_answers seq o v = refl

pub due_remains : (turns : Bool) (y : PlainLink) (told : DialResult) → turns ≡ false → Dued (dial_of y) told → Wrote y → Remains turns y (with_due y told)
due_remains turns y told none (inl is) writes = subst (λ t. Remains turns y (with_due y t)) (sym is) (record {
  dialed = refl;
  taking = refl;
  coming = λ n c. comes_more y (record y { up = y.up ++ [] }) writes.asked [] n writes.readable writes.wrote (All-nil Readable) (All-nil IsNoAnswer) refl refl c;
  streams = streams_same turns y.server.streams none;
})
due_remains turns y told none (inr (seq, saved, is)) writes =
    let f : Frame = dcp_frame (DcpMsg.SeqnoAcknowledged seq) y.consumer.asked y.consumer.dialed.vb in
    subst (λ t. Remains turns y (with_due y t)) (sym is) (record {
      dialed = refl;
      taking = refl;
      coming = λ n c. comes_more y (record y { up = y.up ++ spelling f }) writes.asked (f ∷ []) n writes.readable writes.wrote
          (All-cons Readable f [] (seqno_readable y.consumer.dialed.vb writes.vb y.consumer.asked seq writes.opaque) (All-nil Readable)) (All-cons IsNoAnswer f [] (seqno_answers seq y.consumer.asked y.consumer.dialed.vb) (All-nil IsNoAnswer)) refl
          (ap (λ l. y.up ++ l) (sym (append-nil (spelling f)))) c;
      streams = streams_same turns y.server.streams none;
    })
