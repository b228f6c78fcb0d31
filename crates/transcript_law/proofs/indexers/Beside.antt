-- what the connections of clients are, which changes were made in a group, whether one was told since a client was sent a frame, and whose prepares its line gives up, is no part of what agrees
use Rattle.transcript_law.proofs.Words.{ℕ, Bool, Option, List, refl, inl, Chronicle, Cluster, PlainWorld}
use Rattle.transcript_law.proofs.invariant.{Agreement.{Agrees, AgreesIn, idle}, Begun.{owed_begins}, Carried.{all_there}, ClientsKept.{all_kept, clients_kept, every_owed}, Owing.{Grows}}
use Rattle.transcript_law.specs.LinesTold.{Conns, OwnChange, at_line}

-- all may be told otherwise
pub beside : (w : PlainWorld) (r : Chronicle) (conns : Conns) (made : List OwnChange) (ticks : Option (ℕ × ℕ)) (changed : Bool) (c : Cluster) → Grows r.made made → AgreesIn idle w r c → AgreesIn idle w (record r { conn_at = conns; made = made; ticks = ticks; changed = changed }) c
beside w r conns made ticks changed c grows a =
    let r' : Chronicle = record r { conn_at = conns; made = made; ticks = ticks; changed = changed } in let kept = all_kept w w r r' (λ m d. refl) (λ m d. refl) refl (λ n v. refl) (λ n v. refl) in record {
      sound = a.sound;
      vbs = a.vbs;
      disks = a.disks;
      branches = a.branches;
      links = λ x i. let l = a.links x i in record { follower = l.follower; follower_is = l.follower_is; follows = l.follows; acks = l.acks; dial = l.dial; talk = l.talk };
      differ = a.differ;
      clients = clients_kept w w r r' 0 a.clients (all_there idle w r c a) kept (λ l n v id has. inl has) (every_owed w w r r' kept (record { last = refl; grows = grows }) (λ n v x p o. o) a.clients.owed);
      rests = record { powers = a.rests.powers; clocks = a.rests.clocks; aways = a.rests.aways; downs = a.rests.downs; ends = a.rests.ends; small = a.rests.small };
    }

-- nor is the number of the line that is read
pub numbered : (w : PlainWorld) (r : Chronicle) (number : ℕ) → Agrees w r → Agrees w (at_line r number)
numbered w r number (c, a) =
    let r' : Chronicle = at_line r number in let kept = all_kept w w r r' (λ m d. refl) (λ m d. refl) refl (λ n v. refl) (λ n v. refl) in (
      c,
      record {
        sound = a.sound;
        vbs = a.vbs;
        disks = a.disks;
        branches = a.branches;
        links = λ x i. let l = a.links x i in record { follower = l.follower; follower_is = l.follower_is; follows = l.follows; acks = l.acks; dial = l.dial; talk = l.talk };
        differ = a.differ;
        clients = clients_kept w w r r' 0 a.clients (all_there idle w r c a) kept (λ l n v id has. inl has) (owed_begins w r number a.clients.owed);
        rests = record { powers = a.rests.powers; clocks = a.rests.clocks; aways = a.rests.aways; downs = a.rests.downs; ends = a.rests.ends; small = a.rests.small };
      },
    )
