-- starts that are refused, and logs that are taken over, judged by hand
use Rattle.std.specs.Prelude.{◌≡◌, ◌∷◌}
use Rattle.transcript_law.proofs.Words.{ℕ, List, [], refl, arith, Cause, Event, Answer, LawfulFrom}
use Rattle.transcript_law.proofs.rows.AloneRows.{own_only}
use Rattle.transcript_law.specs.{BoundRows.{LawfulHere, zero_down}, Contrary.{sent_known}, Effects.{adopts_at}}
use Rattle.script_text.specs.declared.verb.Verb.TheVariants as verb
use Rattle.script_text.specs.declared.verb.NodeVerb.TheVariants as node_verb

some_is_not_none : (line : Event) (lines : List Event) → line ∷ lines ≡ [] → ⊥
some_is_not_none line lines e = cc

pub used : (uuids : List ℕ) (first : Event) (lines : List Event) → LawfulHere zero_down (verb.AtNode 0 (node_verb.Start uuids)) (first ∷ lines, Answer.No Cause.UuidUsed) → ⊥
used uuids first lines l = some_is_not_none first lines l.0.1

pub zero_id : (uuids : List ℕ) (first : Event) (lines : List Event) → LawfulHere zero_down (verb.AtNode 0 (node_verb.Start uuids)) (first ∷ lines, Answer.No Cause.UuidZero) → ⊥
zero_id uuids first lines l = some_is_not_none first lines l.0.1.0

pub failed : (uuids : List ℕ) (lines : List Event) → LawfulHere zero_down (verb.AtNode 0 (node_verb.Start uuids)) (lines, Answer.No Cause.Disk) → ⊥
failed uuids lines l = l.0.1

pub stopped : (uuids : List ℕ) (lines : List Event) → LawfulHere zero_down (verb.AtNode 0 (node_verb.Start uuids)) (lines, Answer.No Cause.Stopped) → ⊥
stopped uuids lines l = l.0.1

pub closed : (uuids : List ℕ) (lines : List Event) → LawfulHere zero_down (verb.AtNode 0 (node_verb.Start uuids)) (lines, Answer.No Cause.Closed) → ⊥
closed uuids lines l = l.0.1

pub adopts : LawfulFrom (sent_known []) (adopts_at 1 0)
adopts = ((1, 0, _, refl, refl, refl), tt)

pub adopts_node : LawfulFrom (sent_known []) (adopts_at 2 0) → ⊥
adopts_node l = let (k, m, g, dialed, told, same) = l.0 in let e : ◌≡◌ {A = ℕ} 1 2 = (own_only k m 2 0 dialed).0 in omega arith

pub adopts_vb : LawfulFrom (sent_known []) (adopts_at 1 1) → ⊥
adopts_vb l = let (k, m, g, dialed, told, same) = l.0 in let e : ◌≡◌ {A = ℕ} 0 1 = (own_only k m 1 1 dialed).1 in omega arith
