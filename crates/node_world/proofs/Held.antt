-- links that stand for plain ones, after what nodes keep of them changed
use Rattle.std.proofs.Common.{◌≡◌, ◌≢◌, ℕ, zero, suc, ◌<◌, Bool, true, false, List, [], ◌∷◌, ◌++◌, length, map, get_or, set, remove, refl, ap, sym, ◌∙◌, arith, Option, Some, None, is_some}
use Rattle.std.specs.Prelude.{◌==◌, ◌&&◌, ◌||◌, if◌then◌else◌}
use Rattle.std.specs.List.{list_any}
use Rattle.std.specs.Option.{option_map}
use Rattle.std.proofs.lemmas.Bool.{eqb-true, eq-eqb}
use Rattle.std.proofs.lemmas.List.Folds.{list_any_at, list_any-append}
use Rattle.dcp_producer.specs.Ending.{ended_by}
use Rattle.node_core.specs.Outcomes.{live_dial}
use Rattle.node_core.specs.Peers.{KeptPeer}
use Rattle.node_world.specs.declared.link.Link.{Link}
use Rattle.node_world.specs.Cuts.{link_ended}
use Rattle.node_world.specs.Ends.{KeepsOthers, SameKeys, kept_peer_ended}
use Rattle.node_world.specs.Links.{PlainLink, producer_node, peer_of, dial_of}
use Rattle.node_world.specs.Pairing.{Pairs, Each}
use Rattle.node_world.specs.Stands.{Ends, LinkStands, Apart, has_peer, has_dial, LinksStand, live_peer}
use Rattle.node_world.proofs.Pairing.{pairs_each, pairs_set, pairs_out, pairs_snoc, pairs_map, differ_set, differ_out, differ_snoc}

-- two pairs of numbers that differ
pub both_differ : (a b c d : ℕ) → (c ≡ a → d ≢ b) → (a == c && b == d) ≡ false
both_differ a b c d ne = by (a == c) (b == d) refl refl
  where
    by : (s t : Bool) → (a == c) ≡ s → (b == d) ≡ t → (s && t) ≡ false
    by false t e f = refl
    by true false e f = refl
    by true true e f = absurd (ne (sym (eqb-true a c e)) (sym (eqb-true b d f)))

pub both_same : (a b c d : ℕ) → (a == c && b == d) ≡ true → (a ≡ c) × (b ≡ d)
both_same a b c d = by (a == c) (b == d) refl refl
  where
    by : (s t : Bool) → (a == c) ≡ s → (b == d) ≡ t → (s && t) ≡ true → (a ≡ c) × (b ≡ d)
    by true true e f h = (eqb-true a c e, eqb-true b d f)
    by true false e f h = cc
    by false t e f h = cc

pub is_same : (a b c d : ℕ) → a ≡ c → b ≡ d → (a == c && b == d) ≡ true
is_same a b c d e f = λ i. eq-eqb a c e i && eq-eqb b d f i

-- a test that some member of a list meets
module _ {X : Type 0} (f : X → Bool) where
  -- another member in a place that meets it as the old one
  pub any_set : (xs : List X) (i : ℕ) (d x : X) → i < length xs → f x ≡ f (get_or xs i d) → list_any f (set xs i x) ≡ list_any f xs
  any_set [] i d x lt e = absurd (omega arith)
  any_set (y ∷ xs) zero d x lt e = ap (λ b. b || list_any f xs) e
  any_set (y ∷ xs) (suc i) d x lt e = ap (λ b. f y || b) (any_set xs i d x (omega arith) e)

  -- without a member that does not
  pub any_out : (xs : List X) (i : ℕ) (d : X) → i < length xs → f (get_or xs i d) ≡ false → list_any f (remove xs i) ≡ list_any f xs
  any_out [] i d lt e = absurd (omega arith)
  any_out (y ∷ xs) zero d lt e = sym (ap (λ b. b || list_any f xs) e)
  any_out (y ∷ xs) (suc i) d lt e = ap (λ b. f y || b) (any_out xs i d (omega arith) e)

  -- with one more
  pub any_snoc : (xs : List X) (x : X) → list_any f xs ≡ true → list_any f (xs ++ x ∷ []) ≡ true
  any_snoc xs x e = list_any-append f xs (x ∷ []) ∙ ap (λ b. b || list_any f (x ∷ [])) e

  pub any_last : (xs : List X) (x : X) → f x ≡ true → list_any f (xs ++ x ∷ []) ≡ true
  any_last xs x e = list_any-append f xs (x ∷ []) ∙ ap (λ b. list_any f xs || (b || false)) e ∙ or_true (list_any f xs)
    where
      or_true : (b : Bool) → (b || true) ≡ true
      or_true true = refl
      or_true false = refl

apart_turn : (x y : Link) → Apart x y → Apart y x
apart_turn x y a = record { number = λ q. a.number (sym q); conn = λ p q. a.conn (sym p) (sym q); dial = λ p q. a.dial (sym p) (sym q) }

-- a link with the same keys is apart from the same others
keys_apart : (x x' y : Link) → SameKeys x x' → Apart x y → Apart x' y
keys_apart x x' y k a = record {
  number = λ q. a.number (sym k.number ∙ q);
  conn = λ p q. a.conn (sym k.producer ∙ p) (sym k.conn ∙ q);
  dial = λ p q. a.dial (sym k.node ∙ p) (sym k.vb ∙ q);
}

-- a link stands as before where its ends are as before
link_again : (e e' : Ends) (x : Link) (p : PlainLink) → e'.peers x.producer x.conn ≡ e.peers x.producer x.conn → e'.dials x.node x.vb ≡ e.dials x.node x.vb → LinkStands e x p → LinkStands e' x p
link_again e e' x p peer dial s = record {
  number = s.number;
  producer = s.producer;
  node = s.node;
  vb = s.vb;
  server = peer ∙ s.server;
  consumer = dial ∙ s.consumer;
  up = s.up;
  down = s.down;
}

-- all ends are as before
pub same_ends : (e e' : Ends) (links : List Link) (plain : List PlainLink) → ((n key : ℕ) → e'.peers n key ≡ e.peers n key) → ((n v : ℕ) → e'.dials n v ≡ e.dials n v) → LinksStand e links plain → LinksStand e' links plain
same_ends e e' links plain peers dials h = record {
  each = pairs_each (LinkStands e) (LinkStands e') links plain (λ x p s. link_again e e' x p (peers x.producer x.conn) (dials x.node x.vb) s) h.each;
  apart = h.apart;
  peers = λ n key has. h.peers n key (ap is_some (sym (peers n key)) ∙ has);
  dials = λ n v has. h.dials n v (ap is_some (sym (dials n v)) ∙ has);
}

-- one link's ends changed
module _ (e e' : Ends) (links : List Link) (plain : List PlainLink) (i : ℕ) (d : Link) (lt : i < length links) (others : KeepsOthers (get_or links i d) e e') (h : LinksStand e links plain) where
  abbrev here : Link
  here = get_or links i d

  keep : (y : Link) (q : PlainLink) → Apart here y → LinkStands e y q → LinkStands e' y q
  keep y q a s =
      link_again e e' y q (others.peers y.producer y.conn (both_differ y.producer y.conn here.producer here.conn a.conn))
      (others.dials y.node y.vb (both_differ y.node y.vb here.node here.vb a.dial)) s

  -- it goes on
  module _ (x : Link) (p : PlainLink) (keys : SameKeys here x) (one : LinkStands e' x p) where
    pub set_stand : LinksStand e' (set links i x) (set plain i p)
    set_stand = record {
      each = pairs_set (LinkStands e) (LinkStands e') Apart apart_turn links plain i d x p lt keep one h.apart h.each;
      apart = differ_set Apart links i d x lt (λ y a. keys_apart here x y keys a) (λ y a. apart_turn x y (keys_apart here x y keys (apart_turn y here a))) h.apart;
      peers = λ n key has. any_set (λ (link : Link). link.producer == n && link.conn == key) links i d x lt (λ j. (keys.producer j == n) && (keys.conn j == key)) ∙ peer_at n key (n == here.producer && key == here.conn) refl has;
      dials = λ n v has. any_set (λ (link : Link). link.node == n && link.vb == v) links i d x lt (λ j. (keys.node j == n) && (keys.vb j == v)) ∙ dial_at n v (n == here.node && v == here.vb) refl has;
    }
      where
        peer_at : (n key : ℕ) (b : Bool) → (n == here.producer && key == here.conn) ≡ b → is_some (e'.peers n key) ≡ true → has_peer links n key ≡ true
        peer_at n key true t has =
            let same = both_same n key here.producer here.conn t in
            list_any_at (λ (link : Link). link.producer == n && link.conn == key) links i d lt (is_same here.producer here.conn n key (sym same.0) (sym same.1))
        peer_at n key false t has = h.peers n key (ap is_some (sym (others.peers n key t)) ∙ has)

        dial_at : (n v : ℕ) (b : Bool) → (n == here.node && v == here.vb) ≡ b → is_some (e'.dials n v) ≡ true → has_dial links n v ≡ true
        dial_at n v true t has =
            let same = both_same n v here.node here.vb t in
            list_any_at (λ (link : Link). link.node == n && link.vb == v) links i d lt (is_same here.node here.vb n v (sym same.0) (sym same.1))
        dial_at n v false t has = h.dials n v (ap is_some (sym (others.dials n v t)) ∙ has)

  -- it is taken out, and so are its ends
  pub out_stand : e'.peers here.producer here.conn ≡ None → e'.dials here.node here.vb ≡ None → LinksStand e' (remove links i) (remove plain i)
  out_stand no_peer no_dial = record {
    each = pairs_out (LinkStands e) (LinkStands e') Apart apart_turn links plain i d lt keep h.apart h.each;
    apart = differ_out Apart links i h.apart;
    peers = λ n key has. peer_at n key (n == here.producer && key == here.conn) refl has;
    dials = λ n v has. dial_at n v (n == here.node && v == here.vb) refl has;
  }
    where
      turned : (a b c f : ℕ) → (a == c && b == f) ≡ false → (c == a && f == b) ≡ false
      turned a b c f t = both_differ c f a b (λ x y. let yes = is_same a b c f x y in cc)

      peer_at : (n key : ℕ) (b : Bool) → (n == here.producer && key == here.conn) ≡ b → is_some (e'.peers n key) ≡ true → has_peer (remove links i) n key ≡ true
      peer_at n key true t has =
          let same = both_same n key here.producer here.conn t in
          let gone : e'.peers n key ≡ None = (λ j. e'.peers (same.0 j) (same.1 j)) ∙ no_peer in
          let no : is_some (e'.peers n key) ≡ false = ap is_some gone in
          cc
      peer_at n key false t has =
          any_out (λ (link : Link). link.producer == n && link.conn == key) links i d lt (turned n key here.producer here.conn t)
          ∙ h.peers n key (ap is_some (sym (others.peers n key t)) ∙ has)

      dial_at : (n v : ℕ) (b : Bool) → (n == here.node && v == here.vb) ≡ b → is_some (e'.dials n v) ≡ true → has_dial (remove links i) n v ≡ true
      dial_at n v true t has =
          let same = both_same n v here.node here.vb t in
          let gone : e'.dials n v ≡ None = (λ j. e'.dials (same.0 j) (same.1 j)) ∙ no_dial in
          let no : is_some (e'.dials n v) ≡ false = ap is_some gone in
          cc
      dial_at n v false t has =
          any_out (λ (link : Link). link.node == n && link.vb == v) links i d lt (turned n v here.node here.vb t)
          ∙ h.dials n v (ap is_some (sym (others.dials n v t)) ∙ has)

-- one link more, whose ends were not there
module _ (e e' : Ends) (links : List Link) (plain : List PlainLink) (x : Link) (p : PlainLink) (others : KeepsOthers x e e') (no_peer : e.peers x.producer x.conn ≡ None) (no_dial : e.dials x.node x.vb ≡ None)
    (fresh : Each (λ (y : Link). y.number ≢ x.number) links) (one : LinkStands e' x p) (h : LinksStand e links plain) where
  apart_new : (y : Link) (q : PlainLink) → y.number ≢ x.number → LinkStands e y q → Apart y x
  apart_new y q number s = record {
    number = number;
    conn = λ a b. let there : None ≡ Some (live_peer (peer_of q)) = sym no_peer ∙ (λ j. e.peers (sym a j) (sym b j)) ∙ s.server in cc;
    dial = λ a b. let there : None ≡ Some (live_dial (dial_of q)) = sym no_dial ∙ (λ j. e.dials (sym a j) (sym b j)) ∙ s.consumer in cc;
  }

  apart_all : (ys : List Link) (qs : List PlainLink) → Each (λ (y : Link). y.number ≢ x.number) ys → Pairs (LinkStands e) ys qs → Each (λ y. Apart y x) ys
  apart_all [] [] f s = tt
  apart_all [] (q ∷ qs) f s = absurd s
  apart_all (y ∷ ys) [] f s = absurd s
  apart_all (y ∷ ys) (q ∷ qs) f s = (apart_new y q f.0 s.0, apart_all ys qs f.1 s.1)

  again : (ys : List Link) (qs : List PlainLink) → Each (λ y. Apart y x) ys → Pairs (LinkStands e) ys qs → Pairs (LinkStands e') ys qs
  again [] [] a s = tt
  again [] (q ∷ qs) a s = absurd s
  again (y ∷ ys) [] a s = absurd s
  again (y ∷ ys) (q ∷ qs) a s = (
    link_again e e' y q (others.peers y.producer y.conn (both_differ y.producer y.conn x.producer x.conn (λ f g. a.0.conn (sym f) (sym g))))
        (others.dials y.node y.vb (both_differ y.node y.vb x.node x.vb (λ f g. a.0.dial (sym f) (sym g)))) s.0,
    again ys qs a.1 s.1,
  )

  pub more_stand : LinksStand e' (links ++ x ∷ []) (plain ++ p ∷ [])
  more_stand =
      let apart = apart_all links plain fresh h.each in
      record {
        each = pairs_snoc (LinkStands e') links plain x p one (again links plain apart h.each);
        apart = differ_snoc Apart links x apart h.apart;
        peers = λ n key has. peer_at n key (n == x.producer && key == x.conn) refl has;
        dials = λ n v has. dial_at n v (n == x.node && v == x.vb) refl has;
      }
    where
      peer_at : (n key : ℕ) (b : Bool) → (n == x.producer && key == x.conn) ≡ b → is_some (e'.peers n key) ≡ true → has_peer (links ++ x ∷ []) n key ≡ true
      peer_at n key true t has =
          let same = both_same n key x.producer x.conn t in
          any_last (λ (link : Link). link.producer == n && link.conn == key) links x (is_same x.producer x.conn n key (sym same.0) (sym same.1))
      peer_at n key false t has = any_snoc (λ (link : Link). link.producer == n && link.conn == key) links x (h.peers n key (ap is_some (sym (others.peers n key t)) ∙ has))

      dial_at : (n v : ℕ) (b : Bool) → (n == x.node && v == x.vb) ≡ b → is_some (e'.dials n v) ≡ true → has_dial (links ++ x ∷ []) n v ≡ true
      dial_at n v true t has =
          let same = both_same n v x.node x.vb t in
          any_last (λ (link : Link). link.node == n && link.vb == v) links x (is_same x.node x.vb n v (sym same.0) (sym same.1))
      dial_at n v false t has = any_snoc (λ (link : Link). link.node == n && link.vb == v) links x (h.dials n v (ap is_some (sym (others.dials n v t)) ∙ has))

-- the producers at a node were told which streams ended
module _ (e e' : Ends) (links : List Link) (plain : List PlainLink) (n v : ℕ) (ids : List ℕ)
    (peers : (m key : ℕ) → e'.peers m key ≡ (if m == n then option_map (kept_peer_ended v (Some ids)) (e.peers m key) else e.peers m key)) (dials : (m u : ℕ) → e'.dials m u ≡ e.dials m u) (h : LinksStand e links plain) where
  told_one : (x : Link) (p : PlainLink) → LinkStands e x p → LinkStands e' x (link_ended n v ids p)
  told_one x p s = by (producer_node p == n) refl
    where
      same_test : (x.producer == n) ≡ (producer_node p == n)
      same_test = ap (λ m. m == n) s.producer

      told : Option KeptPeer → Option KeptPeer
      told o = option_map (kept_peer_ended v (Some ids)) o

      at : (b : Bool) → (producer_node p == n) ≡ b → e'.peers x.producer x.conn ≡ (if b then told (e.peers x.producer x.conn) else e.peers x.producer x.conn)
      at b t = peers x.producer x.conn ∙ ap (λ c. if c then told (e.peers x.producer x.conn) else e.peers x.producer x.conn) (same_test ∙ t)

      by : (b : Bool) → (producer_node p == n) ≡ b → LinkStands e' x (if b then record p { server = ended_by v ids p.server } else p)
      by true t = record {
        number = s.number;
        producer = s.producer;
        node = s.node;
        vb = s.vb;
        server = at true t ∙ ap told s.server;
        consumer = dials x.node x.vb ∙ s.consumer;
        up = s.up;
        down = s.down;
      }
      by false t = link_again e e' x p (at false t) (dials x.node x.vb) s

  pub told_stand : LinksStand e' links (map (link_ended n v ids) plain)
  told_stand = record {
    each = pairs_map (LinkStands e) (LinkStands e') (link_ended n v ids) links plain told_one h.each;
    apart = h.apart;
    peers = λ m key has. h.peers m key (by m key (m == n) (e.peers m key) (ap is_some (sym (peers m key)) ∙ has));
    dials = λ m u has. h.dials m u (ap is_some (sym (dials m u)) ∙ has);
  }
    where
      by : (m key : ℕ) (b : Bool) (o : Option KeptPeer) → is_some (if b then option_map (kept_peer_ended v (Some ids)) o else o) ≡ true → is_some o ≡ true
      by m key true None e = e
      by m key true (Some kept) e = refl
      by m key false o e = e
