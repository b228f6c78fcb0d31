-- how many vBuckets a node counts once it started
use Rattle.std.specs.Prelude.{◌≡◌, ◌≤◌, ◌==◌, ◌&&◌, ℕ, Bool, true, false, List, [], ◌∷◌, filter, length, Some, None, is_some}
use Rattle.std.specs.List.{list_any}
use Rattle.disk_journals.specs.Books.{Book}
use Rattle.script_text.specs.declared.verb.Verb.TheVariants as verb
use Rattle.script_text.specs.declared.verb.VbVerb.TheVariants as vb_verb
use Rattle.script_text.specs.declared.verb.NodeVerb.TheVariants as node_verb
use Rattle.vb_events.specs.declared.event.Answer.TheVariants as answer
use Rattle.vb_events.specs.declared.event.Cause.TheVariants as cause
use Rattle.node_world.specs.Causes.{RefusedFor}
use Rattle.node_world.specs.Nodes.{PlainNode}
use Rattle.node_world.specs.World.{verb_step}
use Rattle.node_world.specs.Worlds.{PlainWorld}

-- a record of this journal stands
abbrev pub has_record : Book → Bool
has_record (v, []) = false
has_record (v, last ∷ older) = true

-- the vBuckets of a node are those of which a record stands, and it counts so many; where it has 64 of them, none more is made
pub record CountsBooks (w : PlainWorld) (n : ℕ) (books : List Book) (node : PlainNode) : Type 0 where
  pub runs : node.off ≡ None
  pub count : node.made ≡ length (filter has_record books)
  pub there : (v : ℕ) → is_some (node.vbs v) ≡ list_any (λ book. book.0 == v && has_record book) books
  pub full : (v uuid : ℕ) → node.vbs v ≡ None → 64 ≤ length (filter has_record books) → RefusedFor w cause.Limit (verb.AtVb n v (vb_verb.MakeActive uuid)) × RefusedFor w cause.Limit (verb.AtVb n v vb_verb.MakeReplica)

-- so it is of a node of these journals that starts
abbrev pub Counted : PlainWorld → ℕ → List Book → Type 0
Counted w n books = (number : ℕ) (uuids : List ℕ) → let came = verb_step w number (verb.AtNode n (node_verb.Start uuids)) in came.1.answer ≡ answer.Ok → (node : PlainNode) × (came.0.nodes n ≡ Some node) × CountsBooks came.0 n books node
