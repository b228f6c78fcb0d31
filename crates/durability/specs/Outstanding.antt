-- the outstanding prepares: their order, those whose time is up, and what one that comes or goes leaves
use Rattle.std.specs.Prelude.{◌≡◌, ℕ, suc, ◌<◌, ◌≤◌, ◌==◌, nat_le, nat_lt, max, Bool, false, List, [], ◌∷◌, ◌++◌, length, take, drop, replicate, slice_index, slice_index_or, slice_set, Option, Some, None, refl}
use Rattle.std.specs.Coded.{Coded, code_by, coded×, coded_list, coded_option, coded_ℕ}
use Rattle.std.specs.List.{filter}
use Rattle.durability.specs.declared.waiting.Waiting.{Waiting}
use Rattle.durability.specs.contracts.waiting.Waiting as waiting_row
use Rattle.durability.specs.Chains.{Members}

-- what an active node knows: the greatest number that each member acknowledged, by the member's number and 0
-- for none; the chain's other members; the outstanding prepares, by rising seqnos; and for how many more there is
-- room
pub record Known : Type 0 where
  pub acks : List ℕ
  pub others : Members
  pub waiting : List Waiting
  pub spare : ℕ

abbrev pub known_code : Coded Known
known_code =
    code_by ((List ℕ × Members) × (List Waiting × ℕ)) (coded× (coded× (coded_list coded_ℕ) (coded_list (coded_option coded_ℕ))) (coded× (coded_list waiting_row.the_row.coded) coded_ℕ))
    (λ k. ((k.acks, k.others), (k.waiting, k.spare))) (λ p. record { acks = p.0.0; others = p.0.1; waiting = p.1.0; spare = p.1.1 }) (λ _. refl)

-- nobody acknowledged anything
abbrev pub no_acks : List ℕ
no_acks = replicate 256 0

-- what a member acknowledged
abbrev pub acked : List ℕ → ℕ → ℕ
acked acks m = slice_index acks m

-- an acknowledgement of q by member m: the greater one is kept
abbrev pub with_ack : List ℕ → ℕ → ℕ → List ℕ
with_ack acks m q = slice_set acks m (max (acked acks m) q)

-- the seqnos never fall, and are at least n
abbrev pub Rises : ℕ → List Waiting → Type 0
Rises n [] = Unit {0}
Rises n (w ∷ more) = (n ≤ w.seq) × Rises w.seq more

-- the first of a list
abbrev pub front : List Waiting → Option Waiting
front [] = None
front (w ∷ more) = Some w

-- the first one's seqno
abbrev pub front_seq : List Waiting → Option ℕ
front_seq [] = None
front_seq (w ∷ more) = Some w.seq

-- its deadline is not after the clock; a prepare that is to be committed again has none
abbrev pub is_late : ℕ → Option ℕ → Bool
is_late clock None = false
is_late clock (Some deadline) = nat_le deadline clock

-- the prepares whose time is up
abbrev pub late : ℕ → List Waiting → List Waiting
late clock waiting = filter (λ w. is_late clock w.deadline) waiting

-- the prepares of a seqno, below it and above it
abbrev pub at_seq : ℕ → List Waiting → List Waiting
at_seq q waiting = filter (λ w. w.seq == q) waiting

abbrev pub below : ℕ → List Waiting → List Waiting
below q waiting = filter (λ w. nat_lt w.seq q) waiting

abbrev pub upto : ℕ → List Waiting → List Waiting
upto q waiting = filter (λ w. nat_le w.seq q) waiting

abbrev pub above : ℕ → List Waiting → List Waiting
above q waiting = filter (λ w. nat_lt q w.seq) waiting

-- one more prepare, behind each one whose seqno is not above its own
abbrev pub placed : Waiting → List Waiting → List Waiting
placed p waiting = upto p.seq waiting ++ p ∷ above p.seq waiting

-- without the first prepare of a seqno
abbrev pub without : ℕ → List Waiting → List Waiting
without q waiting = below q waiting ++ drop 1 (at_seq q waiting) ++ above q waiting

-- at this place stands the first prepare of a seqno
pub record IsFirst (q : ℕ) (waiting : List Waiting) (at : ℕ) : Type 0 where
  pub within : at < length waiting
  pub first : (other : Waiting) → front (at_seq q waiting) ≡ Some (slice_index_or waiting at other)
  pub rest : take at waiting ++ drop (suc at) waiting ≡ without q waiting
