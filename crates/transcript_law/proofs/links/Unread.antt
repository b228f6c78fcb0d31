-- a link whose producer's end has frames before it that it is about to answer, seen as one that has only heard their bytes
use Rattle.std.specs.Prelude.{◌≡◌, ◌∷◌, ◌++◌}
use Rattle.transcript_law.proofs.Words.{ℕ, List, [], map, refl, ap, sym, ◌∙◌, subst, append_assoc, append-nil, concat, Option, Some, All, All-head, All-tail, All-nil, All-cons, concat-append, map-append, Frame, spelling, Readable, frames_in, left_of, Member}
use Rattle.transcript_law.proofs.Words.{Plain, Role, Cluster, Granted, PlainLink, PlainWorld, Chronicle, link_number, producer_node, consumer_node, row_at, row_put}
use Rattle.mcbp_frame.proofs.Pieces.{frames-spellings, left-spellings, parted}
use Rattle.transcript_law.proofs.invariant.Agreement.{AgreesIn, Busy, DownAgrees, LinkAgrees, Talk, UpIs, idle}
use Rattle.transcript_law.proofs.{invariant.Carried.{busy_one, one_here, one_idle, talk_same, told_of_same}, invariant.Carrying.{Relinked}, invariant.OneLink.{carries_link, mine}}

-- the frames of one link that are about to be answered
abbrev pub answering : ℕ → List Frame → Busy
answering l fs = busy_one l (fs, [])

-- the link that has heard these frames as well
abbrev pub heard_link : PlainLink → List Frame → PlainLink
heard_link link fs = record link { up_heard = concat (map spelling fs) ++ link.up_heard }

-- front frames of readable ones are readable
pub front_readable : (fs behind : List Frame) → All Readable (fs ++ behind) → All Readable fs
front_readable [] behind r = All-nil Readable
front_readable (f ∷ fs) behind r = All-cons Readable f fs (All-head Readable f (fs ++ behind) r) (front_readable fs behind (All-tail Readable f (fs ++ behind) r))

module _ (link : PlainLink) (fs : List Frame) where
  unread_up : (all : List Frame) → UpIs link fs all → UpIs (heard_link link fs) [] all
  unread_up all u = record {
    behind = all;
    joined = refl;
    bytes = append_assoc (concat (map spelling fs)) link.up_heard link.up ∙ ap (λ x. concat (map spelling fs) ++ x) u.bytes ∙ sym (concat-append (map spelling fs) (map spelling u.behind))
        ∙ ap concat (sym (map-append spelling fs u.behind)) ∙ ap (λ x. concat (map spelling x)) (sym u.joined);
    readable = u.readable;
  }

  pub readable_up : (all : List Frame) → UpIs link fs all → All Readable fs
  readable_up all u = front_readable fs u.behind (subst (All Readable) u.joined u.readable)

  pub unread_talk : {fv : Plain} {kn : Member} {pv : Option Plain} {leader : Member} {g : Option Granted} {stated : Option Role} {point : Option ℕ} → Talk fv kn pv leader g stated point link fs [] → Talk fv kn pv leader g stated point (heard_link link fs) [] []
  unread_talk t = record { asked = t.asked; said = t.said; stands = t.stands; ups = unread_up t.asked t.ups; downs = t.downs }

  -- where what was heard before is less than a frame
  module _ (readable : All Readable fs) (none : frames_in link.up_heard ≡ []) (same : left_of link.up_heard ≡ link.up_heard) where
    reread_up : (all : List Frame) → UpIs (heard_link link fs) [] all → UpIs link fs all
    reread_up all u =
        let come : List ℕ = concat (map spelling fs) ++ link.up_heard in
        let p = parted come link.up all u.readable (u.bytes ∙ ap (λ x. concat (map spelling x)) (sym u.joined)) in
        record {
          behind = p.later;
          joined = p.joined ∙ ap (λ x. x ++ p.later) (frames-spellings fs link.up_heard readable ∙ ap (λ x. fs ++ x) none ∙ append-nil fs);
          bytes = sym (ap (λ x. x ++ link.up) (left-spellings fs link.up_heard readable ∙ same)) ∙ p.behind;
          readable = u.readable;
        }

    pub reread_talk : {fv : Plain} {kn : Member} {pv : Option Plain} {leader : Member} {g : Option Granted} {stated : Option Role} {point : Option ℕ} → Talk fv kn pv leader g stated point (heard_link link fs) [] [] → Talk fv kn pv leader g stated point link fs []
    reread_talk t = record { asked = t.asked; said = t.said; stands = t.stands; ups = reread_up t.asked t.ups; downs = t.downs }

-- the same of the world
module _ (w w' : PlainWorld) (r : Chronicle) (c : Cluster) (l : ℕ) (link : PlainLink) (fs : List Frame) where
  pub unread : AgreesIn (answering l fs) w r c → row_at link_number l w.links ≡ Some link → Relinked w w' (row_put link_number l (heard_link link fs) w.links) → AgreesIn idle w' r c
  unread a found same =
      let la : LinkAgrees w r c link fs [] = subst (λ p. LinkAgrees w r c link p.0 p.1) (one_here l (fs, [])) (mine (answering l fs) w r r c c l link a found) in
      carries_link (answering l fs) idle w w' r r c l link (heard_link link fs) a found (record { dialed = refl; desk = refl }) same (λ v id has. has) (told_of_same l r) (λ k ne. sym (one_idle l (fs, []) k ne)) (record {
        follower = la.follower;
        follower_is = same.vbs (consumer_node link) link.consumer.dialed.vb ∙ la.follower_is;
        follows = la.follows;
        acks = la.acks;
        dial = la.dial;
        talk = talk_same refl (same.vbs (producer_node link) link.consumer.dialed.vb) refl refl refl refl (unread_talk link fs la.talk);
      })

  pub reread : All Readable fs → frames_in link.up_heard ≡ [] → left_of link.up_heard ≡ link.up_heard
      → AgreesIn idle w r c → row_at link_number l w.links ≡ Some (heard_link link fs) → Relinked w w' (row_put link_number l link w.links) → AgreesIn (answering l fs) w' r c
  reread readable none left a found same =
      let la : LinkAgrees w r c (heard_link link fs) [] [] = mine idle w r r c c l (heard_link link fs) a found in
      carries_link idle (answering l fs) w w' r r c l (heard_link link fs) link a found (record { dialed = refl; desk = refl }) same (λ v id has. has) (told_of_same l r) (one_idle l (fs, []))
      (subst (λ p. LinkAgrees w' r c link p.0 p.1) (sym (one_here l (fs, []))) (record {
        follower = la.follower;
        follower_is = same.vbs (consumer_node link) link.consumer.dialed.vb ∙ la.follower_is;
        follows = la.follows;
        acks = la.acks;
        dial = la.dial;
        talk = talk_same refl (same.vbs (producer_node link) link.consumer.dialed.vb) refl refl refl refl (reread_talk link fs readable none left la.talk);
      }))

-- ---- a link whose consumer's end has frames before it that it is about to take, seen as one that has only heard their bytes

abbrev pub heard_down : PlainLink → List Frame → PlainLink
heard_down link fs = record link { down_heard = concat (map spelling fs) ++ link.down_heard }

module _ (link : PlainLink) (fs : List Frame) where
  unread_down : (all : List Frame) → DownAgrees link fs all → DownAgrees (heard_down link fs) [] all
  unread_down all d = record {
    behind = all;
    joined = refl;
    bytes = append_assoc (concat (map spelling fs)) link.down_heard link.down ∙ ap (λ x. concat (map spelling fs) ++ x) d.bytes ∙ sym (concat-append (map spelling fs) (map spelling d.behind))
        ∙ ap concat (sym (map-append spelling fs d.behind)) ∙ ap (λ x. concat (map spelling x)) (sym d.joined);
    readable = d.readable;
  }

  pub unread_downs_talk : {fv : Plain} {kn : Member} {pv : Option Plain} {leader : Member} {g : Option Granted} {stated : Option Role} {point : Option ℕ} → Talk fv kn pv leader g stated point link [] fs → Talk fv kn pv leader g stated point (heard_down link fs) [] []
  unread_downs_talk t = record { asked = t.asked; said = t.said; stands = t.stands; ups = t.ups; downs = unread_down t.said t.downs }

  pub readable_down : (all : List Frame) → DownAgrees link fs all → All Readable fs
  readable_down all d = front_readable fs d.behind (subst (All Readable) d.joined d.readable)

  -- where what was heard before is less than a frame
  module _ (readable : All Readable fs) (none : frames_in link.down_heard ≡ []) (same : left_of link.down_heard ≡ link.down_heard) where
    reread_down : (all : List Frame) → DownAgrees (heard_down link fs) [] all → DownAgrees link fs all
    reread_down all d =
        let come : List ℕ = concat (map spelling fs) ++ link.down_heard in
        let p = parted come link.down all d.readable (d.bytes ∙ ap (λ x. concat (map spelling x)) (sym d.joined)) in
        record {
          behind = p.later;
          joined = p.joined ∙ ap (λ x. x ++ p.later) (frames-spellings fs link.down_heard readable ∙ ap (λ x. fs ++ x) none ∙ append-nil fs);
          bytes = sym (ap (λ x. x ++ link.down) (left-spellings fs link.down_heard readable ∙ same)) ∙ p.behind;
          readable = d.readable;
        }

    pub reread_downs_talk : {fv : Plain} {kn : Member} {pv : Option Plain} {leader : Member} {g : Option Granted} {stated : Option Role} {point : Option ℕ} → Talk fv kn pv leader g stated point (heard_down link fs) [] [] → Talk fv kn pv leader g stated point link [] fs
    reread_downs_talk t = record { asked = t.asked; said = t.said; stands = t.stands; ups = t.ups; downs = reread_down t.said t.downs }

-- the same of the world
pub unread_downs : (w w' : PlainWorld) (r : Chronicle) (c : Cluster) (l : ℕ) (link : PlainLink) (fs : List Frame) → AgreesIn (busy_one l ([], fs)) w r c → row_at link_number l w.links ≡ Some link → Relinked w w' (row_put link_number l (heard_down link fs) w.links) → AgreesIn idle w' r c
unread_downs w w' r c l link fs a found same =
    let la : LinkAgrees w r c link [] fs = subst (λ p. LinkAgrees w r c link p.0 p.1) (one_here l ([], fs)) (mine (busy_one l ([], fs)) w r r c c l link a found) in
    carries_link (busy_one l ([], fs)) idle w w' r r c l link (heard_down link fs) a found (record { dialed = refl; desk = refl }) same (λ v id has. has) (told_of_same l r) (λ k ne. sym (one_idle l ([], fs) k ne)) (record {
      follower = la.follower;
      follower_is = same.vbs (consumer_node link) link.consumer.dialed.vb ∙ la.follower_is;
      follows = la.follows;
      acks = la.acks;
      dial = la.dial;
      talk = talk_same refl (same.vbs (producer_node link) link.consumer.dialed.vb) refl refl refl refl (unread_downs_talk link fs la.talk);
    })

pub reread_downs : (w w' : PlainWorld) (r : Chronicle) (c : Cluster) (l : ℕ) (link : PlainLink) (fs : List Frame) → All Readable fs → frames_in link.down_heard ≡ [] → left_of link.down_heard ≡ link.down_heard
    → AgreesIn idle w r c → row_at link_number l w.links ≡ Some (heard_down link fs) → Relinked w w' (row_put link_number l link w.links) → AgreesIn (busy_one l ([], fs)) w' r c
reread_downs w w' r c l link fs readable none left a found same =
    let la : LinkAgrees w r c (heard_down link fs) [] [] = mine idle w r r c c l (heard_down link fs) a found in
    carries_link idle (busy_one l ([], fs)) w w' r r c l (heard_down link fs) link a found (record { dialed = refl; desk = refl }) same (λ v id has. has) (told_of_same l r) (one_idle l ([], fs))
    (subst (λ p. LinkAgrees w' r c link p.0 p.1) (sym (one_here l ([], fs))) (record {
      follower = la.follower;
      follower_is = same.vbs (consumer_node link) link.consumer.dialed.vb ∙ la.follower_is;
      follows = la.follows;
      acks = la.acks;
      dial = la.dial;
      talk = talk_same refl (same.vbs (producer_node link) link.consumer.dialed.vb) refl refl refl refl (reread_downs_talk link fs readable none left la.talk);
    }))
