-- what is committed behind a call, one prepare after the other
use Rattle.std.specs.Prelude.{◌≡◌, ◌≢◌, ℕ, ◌+◌, ◌<◌, ◌≤◌, true, false, List, [], ◌∷◌, ◌++◌, length, Some, None}
use Rattle.durability.specs.declared.waiting.Waiting.{Waiting}
use Rattle.durability.specs.Chains.{chain_length, holders, majority}
use Rattle.durability.specs.Laws.{HasMajority, WantsSaved}
use Rattle.durability.specs.Outstanding.{acked}
use Rattle.vb_types.specs.declared.change.Act.TheVariants as act
use Rattle.vb_types.specs.declared.change.Change.{Change}
use Rattle.vb_types.specs.declared.change.Pend.{Pend}
use Rattle.vb_calls.specs.declared.calls.Resolution.{Resolution}
use Rattle.vb_calls.specs.declared.calls.Resolution.TheVariants.{Committed}
use Rattle.vb_calls.specs.declared.calls.Resolved.{Resolved}
use Rattle.vb_calls.specs.declared.calls.VbReply.{VbReply}
use Rattle.vb_calls.specs.declared.span.Origin.TheVariants.{Own}
use Rattle.vb_calls.specs.State.{Plain, complete_position, doc_at, newest_branch, pending_of}
use Rattle.vbucket.specs.Filling.{Fills, ShutsOwn}

-- the first of these outcomes is this one for the waiter of w, and the rest of them is `rest`; nobody waits under 0
abbrev pub Tells : Waiting → Resolution → List Resolved → List Resolved → Type 0
Tells w how told rest = (w.waiter ≡ 0 → told ≡ rest) × (w.waiter ≢ 0 → told ≡ record { waiter = w.waiter; how = how } ∷ rest)

-- the lowest outstanding prepare is committed by c: distinct members of the chain that are a majority with the active node acknowledged it, and at levels 2 and 3 it is saved. The commit has the next seqno and the prepare's document, which the key then reads, and no prepare waits there any more; who waits is told the branch, the commit's seqno and the prepare's CAS. All else stays
pub record IsCommitted (vb : Plain) (w : Waiting) (p : Pend) (c : Change) (told rest : List Resolved) (after : Plain) : Type 0 where
  pub lowest : vb.waiting ≡ w ∷ after.waiting
  pub waits : (pending_of vb w.key ≡ Some p) × (p.seq ≡ w.seq) × (p.level ≡ w.level)
  pub held : HasMajority vb.others (λ m. w.seq ≤ acked vb.acks m)
  pub saved : WantsSaved w.level → w.seq ≤ vb.saved
  pub seqno : (c.seq ≡ vb.position.at + 1) × (c.seq ≤ 281474976710656)
  pub change : (c.key ≡ w.key) × (c.act ≡ act.Commit w.seq p.doc p.deleted)
  pub tells : Tells w (Committed (newest_branch vb.log) c.seq p.doc.cas) told rest
  pub position : after.position ≡ complete_position c.seq
  pub grows : after.held ≡ vb.held ++ c ∷ []
  pub stands : p.deleted ≡ false → doc_at after w.key ≡ Some p.doc
  pub gone : p.deleted ≡ true → doc_at after w.key ≡ None
  pub none : pending_of after w.key ≡ None
  pub others : (key : List ℕ) → key ≢ w.key → (doc_at after key ≡ doc_at vb key) × (pending_of after key ≡ pending_of vb key)
  pub fills : Fills vb Own (λ s. ShutsOwn vb.held s c) c after
  pub stays : after ≡ record vb { held = after.held; position = after.position; spans = after.spans; waiting = after.waiting }

-- these changes commit prepares, one after the other, and this is told
abbrev pub CommitsAll : Plain → List Change → List Resolved → Plain → Type 0
CommitsAll vb [] told after = (told ≡ []) × (after ≡ vb)
CommitsAll vb (c ∷ cs) told after = (w : Waiting) × (p : Pend) × (rest : List Resolved) × (mid : Plain) × IsCommitted vb w p c told rest mid × CommitsAll mid cs rest after

-- no more may be committed: where a seqno is left, the lowest outstanding prepare is not saved as its level asks, or fewer members than a majority acknowledged it, the active node counted
abbrev pub IsAtRest : Plain → Type 0
IsAtRest vb = (w : Waiting) (more : List Waiting) → vb.waiting ≡ w ∷ more → vb.position.at < 281474976710656 → (WantsSaved w.level → w.seq ≤ vb.saved) → majority (chain_length vb.others) ≤ length (holders (acked vb.acks) vb.others w.seq) + 1 → ⊥

-- a call as it was made, and what it comes to: prepares are committed until no more may be, behind the call's own changes and outcomes
pub record Commits (made after : Plain × VbReply) : Type 0 where
  pub answer : after.1.answer ≡ made.1.answer
  pub ended : after.1.ended ≡ made.1.ended
  pub commits : (cs : List Change) × (told : List Resolved) × CommitsAll made.0 cs told after.0 × (after.1.changes ≡ made.1.changes ++ cs) × (after.1.resolved ≡ made.1.resolved ++ told)
  pub branch : (after.1.changes ≡ made.1.changes → after.1.branch ≡ made.1.branch) × (after.1.changes ≢ made.1.changes → after.1.branch ≡ newest_branch made.0.log)
  pub rest : IsAtRest after.0
