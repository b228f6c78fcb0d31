-- branches on which nobody writes, and never will; and that there is one writer at most
use Rattle.std.specs.Prelude.{◌≡◌, ◌⊎◌, ◌↔◌, ℕ, true, Some}
use Rattle.branch_model.specs.Trees.{Branch}
use Rattle.cluster_model.specs.Clusters.{IsBranch}
use Rattle.node_world.specs.World.{PlainWorld, vb_in}
use Rattle.vb_calls.specs.Plain.{Plain}
use Rattle.vb_events.specs.declared.event.StreamName.TheVariants as name
use Rattle.vb_types.specs.declared.role.Role.TheVariants.{Active, Pending}
use Rattle.transcript_law.specs.Heirs.{IsWriter, IsYielded}
use Rattle.transcript_law.specs.LinesTold.{Chronicle, Dial, Granted, stream_branch}
use Rattle.transcript_law.specs.Prefixes.{IsActiveOn}

-- ---- by lines

-- the vBucket v of the node n is active on the branch
pub record ActsOn (chronicle : Chronicle) (n v uuid : ℕ) : Type 0 where
  pub active : chronicle.role_at n v ≡ Some (Some Active)
  pub on_branch : chronicle.branch_at n v ≡ Some uuid

-- the branch may yet get an heir by the link l: its stream is of the branch, and its vBucket was given up over it, or active was stated; and the consumer's vBucket is pending yet
pub record MayGiveHeir (chronicle : Chronicle) (l uuid : ℕ) : Type 0 where
  pub dial : Dial
  pub stream : Granted
  pub dialed : chronicle.dial_of l ≡ Some dial
  pub takeover : (chronicle.takeover_of l).dialed ≡ true
  pub granted : chronicle.stream_of (name.Link l) dial.vb ≡ Some stream
  pub of_branch : stream_branch stream ≡ uuid
  pub given : IsYielded chronicle l dial ⊎ (chronicle.stated_of l ≡ Some Active)
  pub pending : chronicle.role_at dial.node dial.vb ≡ Some (Some Pending)

-- a branch that was made is without an heir: nobody is active on it, and no link may give it one
pub record IsHeirless (chronicle : Chronicle) (uuid : ℕ) : Type 0 where
  pub made : Branch
  pub is_made : IsBranch made chronicle.tree × (made.id ≡ uuid)
  pub none_acts : (n v : ℕ) → ActsOn chronicle n v uuid → ⊥
  pub none_comes : (l : ℕ) → MayGiveHeir chronicle l uuid → ⊥

-- ---- in the world

-- a vBucket is active on a branch exactly where the lines name it as its writer, on that branch and active
abbrev pub WritesAsTold : Chronicle → PlainWorld → Type 0
WritesAsTold chronicle w = (n v uuid : ℕ) (vb : Plain) → vb_in (w.nodes n) v ≡ Some vb → IsActiveOn chronicle w n v uuid vb ↔ (IsWriter chronicle n v uuid × (chronicle.role_at n v ≡ Some (Some Active)))

-- nobody is active on the branch
abbrev pub NobodyWrites : Chronicle → PlainWorld → ℕ → Type 0
NobodyWrites chronicle w uuid = (n v : ℕ) (vb : Plain) → IsActiveOn chronicle w n v uuid vb → ⊥
