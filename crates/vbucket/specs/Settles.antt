-- what is committed behind a call
use Rattle.std.specs.Prelude.{◌≡◌, ℕ, ◌+◌, Bool, false, List, [], ◌∷◌, ◌++◌, length}
use Rattle.durability.specs.declared.waiting.Waiting.{Waiting}
use Rattle.vb_types.specs.declared.change.Act.TheVariants as act
use Rattle.vb_types.specs.declared.change.Change.{Change}
use Rattle.vb_types.specs.declared.doc.Doc.{Doc}
use Rattle.vb_calls.specs.declared.calls.VbReply.{VbReply}
use Rattle.vb_calls.specs.State.{Plain, complete_position}
use Rattle.vb_calls.specs.Settling.{may_commit}

-- each of them commits a prepare
abbrev pub AreCommits : List Change → Type 0
AreCommits [] = Unit {0}
AreCommits (c ∷ cs) = ((prepared : ℕ) × (doc : Doc) × (deleted : Bool) × (c.act ≡ act.Commit prepared doc deleted)) × AreCommits cs

-- their seqnos are those behind n, one after the other
abbrev pub Count : ℕ → List Change → Type 0
Count n [] = Unit {0}
Count n (c ∷ cs) = (c.seq ≡ n + 1) × Count (n + 1) cs

-- a vBucket before and after changes of its own that resolve prepares: they are appended, and all else but the outstanding prepares stays
pub record Resolves (before after : Plain) (cs : List Change) : Type 0 where
  pub held : after.held ≡ before.held ++ cs
  pub counts : Count before.position.at cs
  pub at : after.position.at ≡ before.position.at + length cs
  pub position : before.position ≡ complete_position before.position.at → after.position ≡ complete_position after.position.at
  pub stays : after ≡ record before { held = after.held; position = after.position; spans = after.spans; waiting = after.waiting }

-- a call as it was made, and what it comes to once the prepares are committed that may be: the commits stand behind the call's own changes, and nothing else is done
pub record Settles (made after : Plain × VbReply) : Type 0 where
  pub answer : after.1.answer ≡ made.1.answer
  pub ended : after.1.ended ≡ made.1.ended
  pub commits : (cs : List Change) × AreCommits cs × Resolves made.0 after.0 cs × (after.1.changes ≡ made.1.changes ++ cs)

-- nothing may be committed: there is no outstanding prepare, or the lowest one lacks what it needs, or no seqno is left
abbrev pub IsSettled : Plain → Type 0
IsSettled vb = (w : Waiting) (more : List Waiting) → vb.waiting ≡ w ∷ more → may_commit vb w ≡ false
