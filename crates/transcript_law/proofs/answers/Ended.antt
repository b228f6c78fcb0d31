-- the end of a group: what is entered then of those connections that wait for an answer
use Rattle.transcript_law.proofs.Words.{ℕ, Bool, true, false, List, [], refl, ap, sym, ◌∙◌, subst, arith, inl, eq-eqb, Option, Some, None, is_some, Chronicle, Cluster, PlainNode, PlainWorld}
use Rattle.transcript_law.proofs.invariant.{Agreement.{AgreesIn, idle}, Carried.{all_there}, ClientsKept.{all_kept, clients_kept}}
use Rattle.std.specs.Prelude.{◌≡◌, ◌≤◌, ◌&&◌, if◌then◌else◌}
use Rattle.client_session.specs.declared.session.Awaited.{Awaited}
use Rattle.node_core.specs.Clients.{PlainClient}
use Rattle.transcript_law.proofs.answers.Rests.{none_asked}
use Rattle.transcript_law.proofs.invariant.{Begun.{ServesOpen}, ClientWorlds.{ConnsAre, open_then}, ClientsTold.{ClientAgrees}, Holdings.{vb_of}, Owing.{ConnOwed, IsIdle, IsWaitOf, Owed, OwedIf}, Ranged.{IsRanged, NodeRangedIf, SessionRangedIf}, Sessions.{SessionRanged, awaited_numbered}}
use Rattle.transcript_law.specs.{Feeding.{client_in}, LinesTold.{ClientsKnown, Conns, LastLine, OwnChange, TakeoverKnown, served_then, told_for, with_served}, Questions.{Question, question_of}, StreamsTold.{Asking}}

-- a connection's session is in its limits
session_ranged : (w : PlainWorld) (n c : ℕ) (client : PlainClient) → IsRanged w → client_in (w.nodes n) c ≡ Some client → SessionRanged n client.session
session_ranged w n c client ranged is = by (w.nodes n) (ranged n) is
  where
    by : (o : Option PlainNode) → NodeRangedIf n o → client_in o c ≡ Some client → SessionRanged n client.session
    by None there e = let z : None ≡ Some client = e in absurd cc
    by (Some node) there e = subst (SessionRangedIf n) e (there.clients c)

-- nothing is entered but for a connection that is open
pub serves_open : (last : Option LastLine) (clients : ClientsKnown) (made : List OwnChange) (conns : Conns) → ServesOpen (with_served last clients conns made) conns
serves_open None clients made conns line e n c shut = let z : None ≡ Some line = e in absurd cc
serves_open (Some l) clients made conns line e n c shut =
    let same : record l { served = λ m d. served_then (conns m d) (l.served m d) (clients m d).asking made } ≡ line = cc in
    ap (λ (y : LastLine). y.served n c) (sym same) ∙ ap (λ b. served_then b (l.served n c) (clients n c).asking made) shut

-- a group ends, where no frame is in hand
module _ (w : PlainWorld) (r : Chronicle) (takeovers : ℕ → TakeoverKnown) (conns : Conns) (ranged : IsRanged w) (are : ConnsAre w conns) (c : Cluster) (a : AgreesIn idle w r c) where
  abbrev ended : Chronicle
  ended = record r { last = with_served r.last r.clients_at conns r.made; takeover_of = takeovers; conn_at = conns; made = []; ticks = None; changed = false }

  conn_ended : (line : LastLine) (n d : ℕ) (client : PlainClient) → client_in (w.nodes n) d ≡ Some client → ClientAgrees w r n d client → ConnOwed line n d r.made (vb_of w n) (r.clients_at n d).asking client.session
      → ConnOwed (record line { served = λ m e. served_then (conns m e) (line.served m e) (r.clients_at m e).asking r.made }) n d [] (vb_of w n) (r.clients_at n d).asking client.session
  conn_ended line n d client is agrees x = record {
    base = x.base;
    used = x.used;
    number = x.number;
    past = x.past;
    own = λ b q v y p waits asks owing same.
        let Own : List OwnChange → Type 0 = IsWaitOf n asking.settings q.frame v y p in
        subst (λ o. Own (told_for o asking.answered [])) (sym (entered_then q asks)) (subst (λ t. Own (if t then told_for (line.served n d) asking.answered r.made else [])) (sym (eq-eqb asking.answered asking.answered refl)) (x.own b q v y p waits asks owing same));
    unserved = λ none told. ap (λ o. told_for o asking.answered told) (not_asked (by client.session.awaited refl none));
    upto = λ k told e. upto (conns n d) (question_of asking) k told e;
  }
    where
      asking : Asking
      asking = (r.clients_at n d).asking

      opened : conns n d ≡ true
      opened = open_then w conns n d are client is

      entered_then : (q : Question) → question_of asking ≡ Some q → served_then (conns n d) (line.served n d) asking r.made ≡ Some (asking.answered, told_for (line.served n d) asking.answered r.made)
      entered_then q asks = λ i. if◌then◌else◌ {A = Option (ℕ × List OwnChange)} (opened i && is_some (asks i)) (Some (asking.answered, told_for (line.served n d) asking.answered r.made)) None

      there : SessionRanged n client.session
      there = session_ranged w n d client ranged is

      by : (o : Option Awaited) → client.session.awaited ≡ o → IsIdle client.session → client.session.awaited ≡ None
      by None e none = e
      by (Some b) e none = absurd (awaited_numbered client.session b there.numbered e (none b e))

      not_asked : client.session.awaited ≡ None → served_then (conns n d) (line.served n d) asking r.made ≡ None
      not_asked free = λ i. if◌then◌else◌ {A = Option (ℕ × List OwnChange)} (opened i && is_some ((none_asked n d w r client agrees there free).0 i)) (Some (asking.answered, told_for (line.served n d) asking.answered r.made)) None

      upto : (b : Bool) (o : Option Question) (k : ℕ) (told : List OwnChange) → if◌then◌else◌ {A = Option (ℕ × List OwnChange)} (b && is_some o) (Some (asking.answered, told_for (line.served n d) asking.answered r.made)) None ≡ Some (k, told) → k ≤ asking.answered
      upto true (Some q) k told e = let same : asking.answered ≡ k = ap first_or e in omega (arith, same)
        where
          first_or : Option (ℕ × List OwnChange) → ℕ
          first_or None = k
          first_or (Some (m, rest)) = m
      upto true None k told e = let z : None ≡ Some (k, told) = e in absurd cc
      upto false o k told e = let z : None ≡ Some (k, told) = e in absurd cc

  owed_ended : Owed w r → Owed w ended
  owed_ended owed = by r.last owed
    where
      by : (o : Option LastLine) → OwedIf o w r → OwedIf (with_served o r.clients_at conns r.made) w ended
      by None x = tt
      by (Some line) x = record {
        low = x.low;
        each = λ n d client is. conn_ended line n d client is (a.clients.each n d client is) (x.each n d client is);
        apart = x.apart;
      }

  pub group_ended : AgreesIn idle w ended c
  group_ended =
      let kept = all_kept w w r ended (λ m d. refl) (λ m d. refl) refl (λ n v. refl) (λ n v. refl) in record {
        sound = a.sound;
        vbs = a.vbs;
        disks = a.disks;
        branches = a.branches;
        links = λ x i. let l = a.links x i in record { follower = l.follower; follower_is = l.follower_is; follows = l.follows; acks = l.acks; dial = l.dial; talk = l.talk };
        differ = a.differ;
        clients = clients_kept w w r ended 0 a.clients (all_there idle w r c a) kept (λ l n v id has. inl has) (owed_ended a.clients.owed);
        rests = record { powers = a.rests.powers; clocks = a.rests.clocks; aways = a.rests.aways; downs = a.rests.downs; ends = a.rests.ends; small = a.rests.small };
      }
