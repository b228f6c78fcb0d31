-- vBuckets that are given up: each stream's turn as it is told in words, and what connections lose
use Rattle.std.proofs.Common.{◌≡◌, ◌≢◌, ◌<◌, ◌≤◌, ℕ, Bool, true, false, cond, List, [], ◌∷◌, ◌++◌, length, map, refl, sym, ap, ◌∙◌, subst, inl, inr, arith, Option, Some, None, append_assoc, append-nil}
use Rattle.std.specs.Prelude.{◌⊎◌, ◌==◌, ◌&&◌, ◌||◌, not, nat_lt, nat_le}
use Rattle.std.specs.List.{list_any}
use Rattle.std.specs.Option.{option_map}
use Rattle.std.proofs.Math.Bool.{or_assoc}
use Rattle.std.proofs.lemmas.Bool.Decides.{leb_tells, nat_tests}
use Rattle.takeover.specs.GivingUp.{behind, done}
use Rattle.takeover.specs.Laws.{number}
use Rattle.takeover.specs.declared.give_up.GiveStep.{GiveStep}
use Rattle.takeover.specs.declared.give_up.GiveStep.TheVariants as gives
use Rattle.takeover.specs.declared.give_up.GiveUp.{GiveUp}
use Rattle.dcp_producer.specs.Ends.{IsAt, IsBehind}
use Rattle.dcp_producer.specs.Giving.{Given, Yields, behind_yield, given_of, given_up, is_due, is_yield, none_given, one_given, stream_given, told_as, told_by, with_given, with_told, yields}
use Rattle.dcp_producer.specs.Holding.{IsShut}
use Rattle.dcp_producer.specs.Producers.{PlainProducer, PlainStream}
use Rattle.dcp_producer.specs.declared.yields.Yielded.{Yielded}
use Rattle.vb_calls.specs.Programs.{Prog, Done, Call, bind, each, Ran}
use Rattle.vb_calls.specs.declared.calls.VbAnswer.{VbAnswer}
use Rattle.vb_calls.specs.declared.calls.VbAnswer.TheVariants as answer
use Rattle.vb_calls.specs.declared.calls.VbCall.{VbCall}
use Rattle.vb_calls.specs.declared.calls.VbCall.TheVariants as call
use Rattle.vb_calls.specs.declared.calls.VbReply.{VbReply}
use Rattle.vb_calls.proofs.Binds.{fold_bind}
use Rattle.slab.specs.Slab.{get}
use Rattle.node_core.specs.Admin.{option_list}
use Rattle.node_core.specs.ClientLaws.{ended_too}
use Rattle.node_core.specs.EndingLaws.{IsMade}
use Rattle.node_core.specs.GivingLaws.{Gives, GivesAll, GivesOne, GivesVbsUp, IsDue, Loses, PeerGives, VbsAreGivenUp, YieldsAs, ended_also, losing, names}
use Rattle.node_core.specs.GivingUp.{ConnGaveUp, GaveUp, GiveResult, conn_given, give_result, peer_gives_up, told_one}
use Rattle.node_core.specs.Outcomes.{conn_ended}
use Rattle.node_core.specs.Peers.{KeptPeer, PlainPeer}
use Rattle.node_core.specs.declared.conn.Conn.{Conn}
use Rattle.node_core.specs.declared.conn.Conn.TheVariants as conn
use Rattle.node_core.specs.declared.node.Node.{Node}
use Rattle.node_core.specs.declared.out.NodeOut.{NodeOut}
use Rattle.node_core.proofs.ClientLaws.{ran_apart, roles_end}

-- ---- which streams are due

yields_at : (o : Option GiveUp) → yields o ≡ true → (g : GiveUp) × (o ≡ Some g) × (g.step ≡ gives.Yield)
yields_at None e = cc
yields_at (Some g) e = (g, refl, by g.step e)
  where
    by : (s : GiveStep) → is_yield s ≡ true → s ≡ gives.Yield
    by gives.SendAll e = cc
    by gives.SendPending e = cc
    by gives.AwaitPending e = cc
    by gives.Yield e = refl
    by gives.SendRest e = cc
    by gives.SendActive e = cc
    by gives.AwaitActive e = cc
    by gives.End e = cc

at_yields : (stream : PlainStream) → IsAt 4 stream → yields stream.gives ≡ true
at_yields stream (g, is, at) = ap yields is ∙ by g.step at
  where
    by : (s : GiveStep) → number s ≡ 4 → is_yield s ≡ true
    by gives.SendAll e = cc
    by gives.SendPending e = cc
    by gives.AwaitPending e = cc
    by gives.Yield e = refl
    by gives.SendRest e = cc
    by gives.SendActive e = cc
    by gives.AwaitActive e = cc
    by gives.End e = cc

three : (a b c : Bool) → (a && b && c) ≡ true → (a ≡ true) × (b ≡ true) × (c ≡ true)
three true true true e = (refl, refl, refl)
three true true false e = cc
three true false c e = cc
three false b c e = cc

alive : (b : Bool) → not b ≡ true → b ≡ false
alive true e = cc
alive false e = refl

pub due : (stream : PlainStream) → is_due stream ≡ true → IsDue stream
due stream e =
    let (at, past, live) = three (yields stream.gives) (nat_le (length stream.items) stream.next) (not stream.ended) e in
    let (g, is, step) = yields_at stream.gives at in
    record { step = (g, is, ap number step); behind = grind (arith, nat_tests, past); alive = alive stream.ended live }

all_true : (a b c : Bool) → a ≡ true → b ≡ true → c ≡ false → (a && b && not c) ≡ true
all_true true true false a b c = refl
all_true true true true a b c = cc
all_true true false x a b c = cc
all_true false y x a b c = cc

pub undue : (stream : PlainStream) → is_due stream ≡ false → IsDue stream → ⊥
undue stream e is =
    let b : nat_le (length stream.items) stream.next ≡ true = grind (arith, nat_tests, is.behind) in
    let all : is_due stream ≡ true = all_true (yields stream.gives) (nat_le (length stream.items) stream.next) stream.ended (at_yields stream is.step) b is.alive in
    cc

-- ---- a stream's turn

to_rest : (s : GiveStep) → number s ≡ 4 → number (behind s) ≡ 5
to_rest gives.SendAll e = cc
to_rest gives.SendPending e = cc
to_rest gives.AwaitPending e = cc
to_rest gives.Yield e = refl
to_rest gives.SendRest e = cc
to_rest gives.SendActive e = cc
to_rest gives.AwaitActive e = cc
to_rest gives.End e = cc

answered : (reply r : VbReply) (a : VbAnswer) → reply.answer ≡ a → Some reply ≡ Some r → r.answer ≡ answer.Done → a ≡ answer.Done
answered reply r a e same made = let s : reply ≡ r = cc in sym e ∙ ap (λ x. x.answer) s ∙ made

module _ (stream : PlainStream) where
  rest_follows : IsDue stream → IsAt 5 (record stream { gives = option_map done stream.gives })
  rest_follows is = let (g, so, at) = is.step in (done g, ap (option_map done) so, to_rest g.step at)

  by_answer : (reply : VbReply) (a : VbAnswer) → reply.answer ≡ a → IsDue stream → YieldsAs stream (Some reply) (behind_yield (told_by stream.vb reply a) stream) (option_list (told_by stream.vb reply a))
  by_answer reply answer.Done e is = record {
    done = λ r same made. (let s : reply ≡ r = cc in ap (λ (x : VbReply). record { vb = stream.vb; ended = x.ended; resolved = x.resolved } ∷ []) s, rest_follows is, refl);
    refused = λ not. absurd (not (reply, refl, e));
  }
  by_answer reply other e is = record {
    done = λ r same made. let k : other ≡ answer.Done = answered reply r other e same made in cc;
    refused = λ not. (refl, refl);
  }

  by_reply : (reply : Option VbReply) → IsDue stream → YieldsAs stream reply (behind_yield (told_as stream.vb reply) stream) (option_list (told_as stream.vb reply))
  by_reply None is = record { done = λ r same made. cc; refused = λ not. (refl, refl) }
  by_reply (Some reply) is = by_answer reply reply.answer refl is

told_last : (told : Option Yielded) (all : List Yielded) → with_told told all ≡ all ++ option_list told
told_last None all = sym (append-nil all)
told_last (Some one) all = refl

-- ---- windows

-- a connection's window lets a frame through
abbrev pub lets_through : PlainProducer → Bool
lets_through end = end.window.size == 0 || nat_lt end.window.outstanding end.window.size

pub not_shut : (end : PlainProducer) → lets_through end ≡ true → IsShut end.window → ⊥
not_shut end free (some, full) = grind (arith, nat_tests)

pub shut : (end : PlainProducer) → lets_through end ≡ false → IsShut end.window
shut end is = (grind (arith, nat_tests), grind (arith, nat_tests))

shut_by : (end : PlainProducer) → (IsShut end.window → ⊥) → lets_through end ≡ true
shut_by end not = by (lets_through end) refl
  where
    by : (b : Bool) → lets_through end ≡ b → lets_through end ≡ true
    by true e = e
    by false e = absurd (not (shut end e))

both : (a b : Bool) → (a && b) ≡ true → (a ≡ true) × (b ≡ true)
both true true e = (refl, refl)
both true false e = cc
both false b e = cc

-- ---- streams, one after the other

module _ {W : Type 0} (step : W → ℕ → VbCall → Option VbReply → W → Type 0) where
  one_gives : (stream : PlainStream) (old : W) (x : PlainStream × Option Yielded) (new : W) → Ran step (stream_given stream) old x new → GivesOne step stream old x.0 (option_list x.1) new
  one_gives stream old x new ran = by (is_due stream) refl ran
    where
      by : (b : Bool) → is_due stream ≡ b
          → Ran step (cond b (Call stream.vb (call.Yield stream.id) (λ reply. Done (behind_yield (told_as stream.vb reply) stream, told_as stream.vb reply))) (Done (stream, None))) old x new
          → GivesOne step stream old x.0 (option_list x.1) new
      by true e (reply, mid, called, (same, now)) = record {
        due = λ is. (reply, subst (step old stream.vb (call.Yield stream.id) reply) (sym now) called, subst (λ (y : PlainStream × Option Yielded). YieldsAs stream reply y.0 (option_list y.1)) (sym same) (by_reply stream reply is));
        other = λ not. absurd (not (due stream e));
      }
      by false e (same, now) = record {
        due = λ is. absurd (undue stream e is);
        other = λ not. (now, ap (λ (y : PlainStream × Option Yielded). y.0) same, ap (λ (y : PlainStream × Option Yielded). option_list y.1) same);
      }

  -- what the turns of some streams came to, behind those so far
  record Turns (streams : List PlainStream) (before : Given) (old : W) (now : Given) (new : W) : Type 0 where
    pub lefts : List PlainStream
    pub given : List Yielded
    pub all : GivesAll step streams old lefts given new
    pub stay : now.streams ≡ before.streams ++ lefts
    pub told : now.yielded ≡ before.yielded ++ given

  turn_first : (s : PlainStream) (more : List PlainStream) (g : Given) (old : W) (left : PlainStream) (told : Option Yielded) (mid : W) (now : Given) (new : W)
      → GivesOne step s old left (option_list told) mid → Turns more (with_given g (left, told)) mid now new → Turns (s ∷ more) g old now new
  turn_first s more g old left told mid now new one rest = record {
    lefts = left ∷ rest.lefts;
    given = option_list told ++ rest.given;
    all = (left, rest.lefts, option_list told, rest.given, mid, one, rest.all, refl, refl);
    stay = rest.stay ∙ append_assoc g.streams (left ∷ []) rest.lefts;
    told = rest.told ∙ ap (λ ys. ys ++ rest.given) (told_last told g.yielded) ∙ append_assoc g.yielded (option_list told) rest.given;
  }

  all_give : (streams : List PlainStream) (g : Given) (old : W) (now : Given) (new : W) → Ran step (each one_given streams g) old now new → Turns streams g old now new
  all_give [] g old now new ran = record {
    lefts = [];
    given = [];
    all = (ran.1, refl, refl);
    stay = ap (λ (x : Given). x.streams) ran.0 ∙ sym (append-nil g.streams);
    told = ap (λ (x : Given). x.yielded) ran.0 ∙ sym (append-nil g.yielded);
  }
  all_give (s ∷ more) g old now new ran =
      let apart : Ran step (bind (one_given s g) (each one_given more)) old now new = subst (λ p. Ran step p old now new) (fold_bind one_given more (one_given s g)) ran in
      let (g', mid, first, behind) = ran_apart step (one_given s g) (each one_given more) old now new apart in
      let ((left, told), mid', turn, (same, here)) = ran_apart step (stream_given s) (λ x. Done (with_given g x)) old g' mid first in
      turn_first s more g old left told mid now new (subst (GivesOne step s old left (option_list told)) (sym here) (one_gives s old (left, told) mid' turn))
      (subst (λ h. Turns more h mid now new) same (all_give more g' mid now new behind))

  module _ (frames : ℕ) (kept left : KeptPeer) (given : List Yielded) (old new : W) (alive : kept.spent ≡ false) (lives : left.spent ≡ false) where
    abbrev end : PlainProducer
    end = kept.plain.producer

    -- where the turns leave the connection
    stays_so : (y : Yields) (lefts : List PlainStream) → record { peer = left.plain; given = given } ≡ give_result kept.plain.heard y → y.end ≡ record end { streams = lefts }
        → left ≡ record kept { plain = record kept.plain { producer = record end { streams = lefts } } }
    stays_so y lefts same is = λ i. record {
      plain = (ap (λ (r : GiveResult). r.peer) same ∙ ap (λ (e : PlainProducer). record { heard = kept.plain.heard; producer = e }) is) i;
      spent = (lives ∙ sym alive) i;
    }

    put_so : (y : Yields) (mid : W) → (nat_lt 0 frames && lets_through end) ≡ true → record { peer = left.plain; given = given } ≡ give_result kept.plain.heard y → new ≡ mid
        → Ran step (bind (each one_given end.streams none_given) (λ g. Done (given_of end g))) old y mid → PeerGives step frames kept old given left new
    put_so y mid goes same here ran =
        let (g, mid', turns, (is, there)) = ran_apart step (each one_given end.streams none_given) (λ g. Done (given_of end g)) old y mid ran in
        let so : Turns end.streams none_given old g mid' = all_give end.streams none_given old g mid' turns in
        let told : given ≡ so.given = ap (λ (r : GiveResult). r.given) same ∙ ap (λ (y : Yields). y.yielded) is ∙ so.told in
        let moved : new ≡ mid' = here ∙ there in
        let (some, through) = both (nat_lt 0 frames) (lets_through end) goes in
        record {
          lefts = so.lefts;
          put = λ asked free. subst (λ w. GivesAll step end.streams old so.lefts given w) (sym moved) (subst (λ ys. GivesAll step end.streams old so.lefts ys mid') (sym told) so.all);
          held = λ either. absurd (elim either [
            | inl none ↦ grind (arith, nat_tests, none, some)
            | inr shut ↦ not_shut end through shut
          ]);
          same = stays_so y so.lefts same (ap (λ (y : Yields). y.end) is ∙ ap (λ ss. record end { streams = ss }) so.stay);
        }

    held_so : (y : Yields) (mid : W) → (nat_lt 0 frames && lets_through end) ≡ false → record { peer = left.plain; given = given } ≡ give_result kept.plain.heard y → new ≡ mid
        → Ran step (Done (record { end = end; yielded = [] })) old y mid → PeerGives step frames kept old given left new
    held_so y mid stops same here (is, there) = record {
      lefts = end.streams;
      put = λ asked free. absurd (no (grind (arith, nat_tests, asked)) (shut_by end free));
      held = λ either. (here ∙ there, refl, ap (λ (r : GiveResult). r.given) same ∙ ap (λ (y : Yields). y.yielded) is);
      same = stays_so y end.streams same (ap (λ (y : Yields). y.end) is);
    }
      where
        no : nat_lt 0 frames ≡ true → lets_through end ≡ true → ⊥
        no a b = let all : (nat_lt 0 frames && lets_through end) ≡ true = ap (λ x. x && lets_through end) a ∙ b in cc

    by_window : (b : Bool) → (nat_lt 0 frames && lets_through end) ≡ b → (y : Yields) (mid : W) → record { peer = left.plain; given = given } ≡ give_result kept.plain.heard y → new ≡ mid
        → Ran step (cond b (bind (each one_given end.streams none_given) (λ g. Done (given_of end g))) (Done (record { end = end; yielded = [] }))) old y mid → PeerGives step frames kept old given left new
    by_window true e y mid same here ran = put_so y mid e same here ran
    by_window false e y mid same here ran = held_so y mid e same here ran

    pub peer_gives : Ran step (peer_gives_up frames kept.plain) old (record { peer = left.plain; given = given }) new → PeerGives step frames kept old given left new
    unfolding given_up
    peer_gives ran =
        let (y, mid, gave, (same, here)) = ran_apart step (given_up frames end) (λ y. Done (give_result kept.plain.heard y)) old (record { peer = left.plain; given = given }) new ran in
        by_window (nat_lt 0 frames && lets_through end) refl y mid same here gave

  conn_gives : (frames : ℕ) (found : Conn) (old : W) (given : List Yielded) (left : Conn) (new : W) → ConnGaveUp step frames found old given left new → Gives step frames found old given left new
  conn_gives frames (conn.Client kept) old given left new gave = gave
  conn_gives frames (conn.Peer kept) old given (conn.Peer left) new (alive, lives, ran) = (alive, peer_gives frames kept left given old new alive lives ran)
  conn_gives frames (conn.Peer kept) old given (conn.Client left) new gave = gave

-- ---- what connections lose

none_lost : (streams : List PlainStream) → streams ≡ map (ended_also []) streams
none_lost [] = refl
none_lost (s ∷ more) = λ i. by s.ended refl i ∷ none_lost more i
  where
    by : (b : Bool) → s.ended ≡ b → s ≡ ended_also [] s
    by true e = λ i. record s { ended = (e ∙ sym (ap (λ x. x || false) e)) i }
    by false e = λ i. record s { ended = (e ∙ sym (ap (λ x. x || false) e)) i }

one_more_lost : (one : Yielded) (more : List Yielded) (streams : List PlainStream) → map (ended_also more) (map (ended_too one.vb one.ended) streams) ≡ map (ended_also (one ∷ more)) streams
one_more_lost one more [] = refl
one_more_lost one more (s ∷ ss) = λ i. record s { ended = or_assoc s.ended (names s one) (list_any (names s) more) i } ∷ one_more_lost one more ss i

given_lost : (given : List Yielded) (c : Conn) → conn_given given c ≡ losing given c
given_lost [] (conn.Client kept) = ap (λ streams. conn.Client (record kept { plain = record kept.plain { producer = record kept.plain.producer { streams = streams } } })) (none_lost kept.plain.producer.streams)
given_lost [] (conn.Peer kept) = ap (λ streams. conn.Peer (record kept { plain = record kept.plain { producer = record kept.plain.producer { streams = streams } } })) (none_lost kept.plain.producer.streams)
given_lost (one ∷ more) (conn.Client kept) =
    given_lost more (told_one (conn.Client kept) one) ∙ ap (losing more) (roles_end.clients one.vb one.ended kept)
    ∙ ap (λ streams. conn.Client (record kept { plain = record kept.plain { producer = record kept.plain.producer { streams = streams } } })) (one_more_lost one more kept.plain.producer.streams)
given_lost (one ∷ more) (conn.Peer kept) =
    given_lost more (told_one (conn.Peer kept) one) ∙ ap (losing more) (roles_end.peers one.vb one.ended kept)
    ∙ ap (λ streams. conn.Peer (record kept { plain = record kept.plain { producer = record kept.plain.producer { streams = streams } } })) (one_more_lost one more kept.plain.producer.streams)

loses : (given : List Yielded) (o new : Option Conn) → new ≡ option_map (conn_given given) o → Loses given o new
loses given None new e = e
loses given (Some c) new e = e ∙ ap Some (given_lost given c)

pub vbs_are_given_up : (W J : Type 0) (step : W → ℕ → VbCall → Option VbReply → W → Type 0) → VbsAreGivenUp W J step
vbs_are_given_up W J step frames key found old out new gave = record {
  given = gave.given;
  left = gave.left;
  gives = conn_gives step frames found old.vbs gave.given gave.left new.vbs gave.gave;
  lines = ap (λ (o : NodeOut). o.events) gave.said;
  outcomes = ap (λ (o : NodeOut). o.resolved) gave.said;
  says = (ap (λ (o : NodeOut). o.out) gave.said, ap (λ (o : NodeOut). o.answer) gave.said, ap (λ (o : NodeOut). o.closed) gave.said);
  own = gave.own ∙ ap Some (given_lost gave.given gave.left);
  others = λ other differs. loses gave.given (get old.conns other) (get new.conns other) (gave.others other differs);
  disks = ap (λ (n : Node W J). n.disks) gave.rest;
  dials = ap (λ (n : Node W J). n.dials) gave.rest;
  number = ap (λ (n : Node W J). n.number) gave.rest;
}
