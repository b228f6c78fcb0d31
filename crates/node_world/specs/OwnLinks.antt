-- a change of role and the link that feeds the vBucket
use Rattle.std.specs.Prelude.{◌≡◌, ℕ, List, [], ◌∷◌, Some, filter, length}
use Rattle.script_text.specs.declared.verb.Verb.TheVariants as verb
use Rattle.script_text.specs.declared.verb.VbVerb.TheVariants as vb_verb
use Rattle.vb_events.specs.declared.event.Answer.TheVariants as answer
use Rattle.vb_events.specs.declared.event.Event.{Event}
use Rattle.vb_events.specs.declared.event.Event.TheVariants as event
use Rattle.vb_events.specs.declared.event.EndReason.TheVariants as reason
use Rattle.vbucket.specs.Rows.{row_at}
use Rattle.node_world.specs.Links.{PlainLink, link_number, feeds}
use Rattle.node_world.specs.World.{verb_step}
use Rattle.node_world.specs.Worlds.{PlainWorld, Outcome}

-- a line that is answered `ok` cut the link that fed the vBucket v of the node n: its first line tells so, and no link feeds the vBucket then; where none did, all links are still there
pub record CutsOwn (n v : ℕ) (w : PlainWorld) (came : Outcome) : Type 0 where
  pub cut : (link : PlainLink) → came.1.answer ≡ answer.Ok → filter (feeds n v) w.links ≡ link ∷ [] → row_at link_number (link_number link) w.links ≡ Some link
      → (rest : List Event) × (came.1.events ≡ event.Ended (link_number link) reason.Cut ∷ rest) × (filter (feeds n v) came.0.links ≡ [])
  pub none : came.1.answer ≡ answer.Ok → filter (feeds n v) w.links ≡ [] → length came.0.links ≡ length w.links

-- each change of role cuts the link that feeds the vBucket
pub record RolesCutLinks (w : PlainWorld) (n v : ℕ) : Type 0 where
  pub promote : (number uuid : ℕ) → CutsOwn n v w (verb_step w number (verb.AtVb n v (vb_verb.Promote uuid)))
  pub follow : (number : ℕ) → CutsOwn n v w (verb_step w number (verb.AtVb n v vb_verb.Follow))
  pub dead : (number : ℕ) → CutsOwn n v w (verb_step w number (verb.AtVb n v vb_verb.Dead))
