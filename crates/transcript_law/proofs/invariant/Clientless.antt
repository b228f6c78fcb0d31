-- a node that has no clients: what is told of clients there does not matter
use Rattle.std.specs.Prelude.{◌≡◌}
use Rattle.transcript_law.proofs.Words.{ℕ, refl, None, Cluster, Chronicle, PlainWorld}
use Rattle.transcript_law.proofs.invariant.{Agreement.{AgreesIn, Busy}, Carried.{all_there}, ClientsKept.{ConnsKept, OfOthers, clients_gone, goes_same, others_owed, spot_at}}
use Rattle.transcript_law.specs.{Feeding.{client_in}, StreamsTold.{ClientsKnown}}
use Rattle.transcript_law.proofs.invariant.Owing.{later_same}

pub known_apart : (busy : Busy) (w : PlainWorld) (r : Chronicle) (c : Cluster) (n : ℕ) (known : ClientsKnown) → AgreesIn busy w r c → ((d : ℕ) → client_in (w.nodes n) d ≡ None)
    → ((m d : ℕ) → (m ≡ n → ⊥) → known m d ≡ r.clients_at m d) → AgreesIn busy w (record r { clients_at = known }) c
known_apart busy w r c n known a none there = record {
  sound = a.sound;
  vbs = a.vbs;
  disks = a.disks;
  branches = a.branches;
  links = λ x i. let l = a.links x i in record { follower = l.follower; follower_is = l.follower_is; follows = l.follows; acks = l.acks; dial = l.dial; talk = l.talk };
  differ = a.differ;
  clients = clients_gone w w r r' n a.clients (all_there busy w r c a) conns none (λ l m v id has. has) (others_owed w w r r' n conns none (later_same _ _ refl refl) (λ m v x p o. o) a.clients.owed);
  rests = record { powers = a.powers; clocks = a.clocks; aways = a.aways; downs = a.downs; ends = a.ends; small = a.small };
}
  where
    r' : Chronicle
    r' = record r { clients_at = known }

    conns : ConnsKept (OfOthers n) w w r r'
    conns = record { conns = λ m d ne. refl; known = there; opens = λ m d v id ne has. goes_same (spot_at w r m v) (spot_at w r' m v) id refl }
