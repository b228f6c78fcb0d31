-- chains of nodes, and when a prepare has what it needs: counts of the members that hold it
use Rattle.std.specs.Prelude.{ℕ, ◌+◌, ◌/◌, ◌==◌, nat_le, ◌&&◌, not, Bool, true, if◌then◌else◌, List, [], ◌∷◌, length, Option, Some, None, refl}
use Rattle.std.specs.Coded.{Coded, code_by, coded×, coded_list, coded_option, coded_ℕ}
use Rattle.std.specs.List.{filter}
use Rattle.vb_types.specs.declared.change.Level.{Level}
use Rattle.vb_types.specs.declared.change.Level.TheVariants.{Majority, MajorityPersistActive, PersistMajority}
use Rattle.durability.specs.declared.waiting.Waiting.{Waiting}

-- a chain's members beside the active node: up to three, some of them unset
abbrev pub Members : Type 0
Members = List (Option ℕ)

-- the active node's number, and the other members
pub record Links : Type 0 where
  pub active : ℕ
  pub others : Members

abbrev pub links_code : Coded Links
links_code = code_by (ℕ × Members) (coded× coded_ℕ (coded_list (coded_option coded_ℕ))) (λ c. (c.active, c.others)) (λ p. record { active = p.0; others = p.1 }) (λ _. refl)

-- the members that are set
abbrev pub named : Members → List ℕ
named [] = []
named (None ∷ more) = named more
named (Some m ∷ more) = m ∷ named more

-- none of these numbers is m
abbrev pub has_not : ℕ → List ℕ → Bool
has_not m [] = true
has_not m (x ∷ xs) = not (x == m) && has_not m xs

-- no two of these numbers are the same
abbrev pub differ : List ℕ → Bool
differ [] = true
differ (x ∷ xs) = has_not x xs && differ xs

-- up to three other members, and all that are set are different
abbrev pub is_chain : ℕ → Members → Bool
is_chain active others = nat_le (length others) 3 && differ (active ∷ named others)

-- the chain of these members, where they may be one
abbrev pub chain_of : ℕ → Members → Option Links
chain_of active others = if is_chain active others then Some (record { active = active; others = others }) else None

-- the chain's length counts the active node and the unset members
abbrev pub chain_length : Members → ℕ
chain_length others = 1 + length others

-- more than half
abbrev pub majority : ℕ → ℕ
majority n = n / 2 + 1

-- as many members are set, the active node among them, as a majority of the chain has
abbrev pub is_possible : Members → Bool
is_possible others = nat_le (majority (chain_length others)) (1 + length (named others))

-- the set members that acknowledged p or more
abbrev pub holders : (ℕ → ℕ) → Members → ℕ → List ℕ
holders acks others p = filter (λ m. nat_le p (acks m)) (named others)

-- it holds at the active node itself: at level 3 only once it is saved there
abbrev pub holds_here : Level → ℕ → ℕ → Bool
holds_here Majority saved p = true
holds_here MajorityPersistActive saved p = true
holds_here PersistMajority saved p = nat_le p saved

-- how many places it holds at
abbrev pub places : (ℕ → ℕ) → Members → ℕ → Waiting → ℕ
places acks others saved w = length (holders acks others w.seq) + (if holds_here w.level saved w.seq then 1 else 0)

-- levels 2 and 3 want it saved at the active node
abbrev pub is_saved_for : Level → ℕ → ℕ → Bool
is_saved_for Majority saved p = true
is_saved_for MajorityPersistActive saved p = nat_le p saved
is_saved_for PersistMajority saved p = nat_le p saved

-- it may be committed
abbrev pub has_enough : (ℕ → ℕ) → Members → ℕ → Waiting → Bool
has_enough acks others saved w = nat_le (majority (chain_length others)) (places acks others saved w) && is_saved_for w.level saved w.seq

-- the seqno of the next commit: that of the lowest outstanding prepare, where that has what it needs. The
-- list is kept by rising seqnos
abbrev pub next_of : (ℕ → ℕ) → Members → ℕ → List Waiting → Option ℕ
next_of acks others saved [] = None
next_of acks others saved (w ∷ more) = if has_enough acks others saved w then Some w.seq else None

-- all that is committed one after the other before anything else happens
abbrev pub committed_now : (ℕ → ℕ) → Members → ℕ → List Waiting → List Waiting
committed_now acks others saved [] = []
committed_now acks others saved (w ∷ more) = if has_enough acks others saved w then w ∷ committed_now acks others saved more else []
