-- nodes that crash, and nodes that start, in the world that is kept
use Rattle.std.specs.Prelude.{◌==◌, not}
use Rattle.std.proofs.Common.{◌≡◌, ℕ, Bool, true, false, List, [], ◌∷◌, get_or, set, refl, ap, sym, ◌∙◌, subst, Option, Some, None, is_some}
use Rattle.std.specs.List.{position}
use Rattle.disk_journals.specs.Books.{Book}
use Rattle.vb_disk.specs.declared.made.Outcome.{Outcome as Left}
use Rattle.vb_events.specs.declared.event.Cause.TheVariants as cause
use Rattle.node_world.specs.declared.script_node.ScriptNode.{ScriptNode}
use Rattle.node_world.specs.declared.told.Told.{Told}
use Rattle.node_world.specs.Ends.{peer_under, dial_under}
use Rattle.node_world.specs.Nodes.{PlainNode, done, first_cause, is_one_of, refusal, refused_or}
use Rattle.node_world.specs.Power.{any_used, crash_step, down_lines, dropped, start_at, start_step}
use Rattle.node_world.specs.Stands.{IdsStand, Kept, LinksStand, NodeMatch, OffStands, WorldStands, ends_of, node_number}
use Rattle.node_world.specs.Starts.{IsBare, StartsUp}
use Rattle.node_world.specs.Worlds.{PlainWorld, Outcome, is_up, on_made}
use Rattle.node_world.proofs.Befalling.{Comes}
use Rattle.node_world.proofs.Held.{same_ends}
use Rattle.node_world.proofs.OnNodes.{off_as_plain, outcome_uuids, outcome_links, with_nodes}
use Rattle.node_world.proofs.Places.{plain_at, numbered, step_stands, peers_stay, dials_stay}

-- `crash N OUT`, by what its causes come to
pub crash_row : (w : PlainWorld) (n : ℕ) (out : Left) (made up : Bool) → is_some (w.nodes n) ≡ made → is_up (w.nodes n) ≡ up
    → crash_step w n out ≡ refused_or (first_cause ((not made, cause.UnknownNode) ∷ (not up, cause.NodeDown) ∷ [])) w (dropped n out w, done (down_lines n None w))
crash_row w n out made up e f = λ i. refused_or (first_cause ((not (e i), cause.UnknownNode) ∷ (not (f i), cause.NodeDown) ∷ [])) w (dropped n out w, done (down_lines n None w))

pub crash_unmade : (kept : Kept) (w : PlainWorld) (n : ℕ) (out : Left) → w.nodes n ≡ None → WorldStands kept w → Comes kept (refusal cause.UnknownNode) (crash_step w n out)
crash_unmade kept w n out none stands = subst (Comes kept (refusal cause.UnknownNode)) (sym (crash_row w n out false (is_up (w.nodes n)) (ap is_some none) refl)) (stands, refl)

pub crash_down : (kept : Kept) (w : PlainWorld) (n : ℕ) (out : Left) → is_some (w.nodes n) ≡ true → is_up (w.nodes n) ≡ false → WorldStands kept w → Comes kept (refusal cause.NodeDown) (crash_step w n out)
crash_down kept w n out made down stands = subst (Comes kept (refusal cause.NodeDown)) (sym (crash_row w n out true false made down)) (stands, refl)

pub crash_made : (kept : Kept) (w : PlainWorld) (n : ℕ) (out : Left) (told : Told) → is_some (w.nodes n) ≡ true → is_up (w.nodes n) ≡ true → WorldStands kept (dropped n out w) → told ≡ done (down_lines n None w) → Comes kept told (crash_step w n out)
crash_made kept w n out told made up stands said = subst (Comes kept told) (sym (crash_row w n out true true made up)) (stands, said)

-- `start N ..`, by what its causes come to
module _ (kept : Kept) (w : PlainWorld) (n : ℕ) (uuids : List ℕ) where
  abbrev row : Bool → Bool → Bool → Bool → Outcome
  row made up zero used =
      refused_or (first_cause ((not made, cause.UnknownNode) ∷ (up, cause.NodeUp) ∷ (zero, cause.UuidZero) ∷ (used, cause.UuidUsed) ∷ [])) w (on_made w n (start_at n uuids))

  start_row : (made up zero used : Bool) → is_some (w.nodes n) ≡ made → is_up (w.nodes n) ≡ up → is_one_of 0 uuids ≡ zero → any_used w.uuids uuids ≡ used → start_step w n uuids ≡ row made up zero used
  start_row made up zero used e f g h = λ i. row (e i) (f i) (g i) (h i)

  pub start_unmade : w.nodes n ≡ None → WorldStands kept w → Comes kept (refusal cause.UnknownNode) (start_step w n uuids)
  start_unmade none stands = subst (Comes kept (refusal cause.UnknownNode)) (sym (start_row false _ _ _ (ap is_some none) refl refl refl)) (stands, refl)

  pub start_up : is_some (w.nodes n) ≡ true → is_up (w.nodes n) ≡ true → WorldStands kept w → Comes kept (refusal cause.NodeUp) (start_step w n uuids)
  start_up made up stands = subst (Comes kept (refusal cause.NodeUp)) (sym (start_row true true _ _ made up refl refl)) (stands, refl)

  pub start_zero : is_some (w.nodes n) ≡ true → is_up (w.nodes n) ≡ false → is_one_of 0 uuids ≡ true → WorldStands kept w → Comes kept (refusal cause.UuidZero) (start_step w n uuids)
  start_zero made down zero stands = subst (Comes kept (refusal cause.UuidZero)) (sym (start_row true false true _ made down zero refl)) (stands, refl)

  pub start_used : is_some (w.nodes n) ≡ true → is_up (w.nodes n) ≡ false → is_one_of 0 uuids ≡ false → any_used w.uuids uuids ≡ true → WorldStands kept w → Comes kept (refusal cause.UuidUsed) (start_step w n uuids)
  start_used made down zero used stands = subst (Comes kept (refusal cause.UuidUsed)) (sym (start_row true false false true made down zero used)) (stands, refl)

  pub start_free : (after : Kept) (told : Told) → is_some (w.nodes n) ≡ true → is_up (w.nodes n) ≡ false → is_one_of 0 uuids ≡ false → any_used w.uuids uuids ≡ false → Comes after told (on_made w n (start_at n uuids)) → Comes after told (start_step w n uuids)
  start_free after told made down zero used came = subst (Comes after told) (sym (start_row true false false false made down zero used)) came

-- a node that is down keeps no end of a link
off_peers : (node : ScriptNode) (o : Option (List Book)) → OffStands node o → is_some node.off ≡ true → (key : ℕ) → peer_under node key ≡ None
off_peers node None h down key = let no : true ≡ false = sym down ∙ ap is_some h in cc
off_peers node (Some books) h down key = h.peers key

off_dials : (node : ScriptNode) (o : Option (List Book)) → OffStands node o → is_some node.off ≡ true → (v : ℕ) → dial_under node v ≡ None
off_dials node None h down v = let no : true ≡ false = sym down ∙ ap is_some h in cc
off_dials node (Some books) h down v = h.dials v

-- it starts, or stays down
module _ (kept : Kept) (w : PlainWorld) (n at : ℕ) (uuids : List ℕ) (old new : ScriptNode) (told : Told) (is_placed : position (λ node. node_number node == n) kept.nodes ≡ Some at) (is : old ≡ get_or kept.nodes at old) (stands : WorldStands kept w)
    (down : is_some old.off ≡ true) (starts : StartsUp uuids old told new) where
  starts_here : (plain : PlainNode) → NodeMatch old plain → NodeMatch new (start_at n uuids plain).0 × (told ≡ (start_at n uuids plain).1) × (node_number new ≡ node_number old) × IsBare new
  starts_here plain alike =
      subst (λ m. NodeMatch new (start_at m uuids plain).0 × (told ≡ (start_at m uuids plain).1) × (node_number new ≡ node_number old) × IsBare new) (numbered kept.nodes n at old new is_placed is) (starts plain alike (sym (off_as_plain old plain alike) ∙ down))

  pub started : Comes (with_nodes kept (set kept.nodes at new)) told (on_made w n (start_at n uuids))
  started =
      let (plain, there, alike) = plain_at kept.nodes n at old new is_placed is w stands.nodes in
      let (still, said, number, bare) = starts_here plain alike in
      let known = step_stands kept.nodes n at old new is_placed is number w (refusal cause.UnknownNode) (start_at n uuids) (λ t. told ≡ t) stands.nodes (λ x same. let went = starts_here x same in (went.0, went.1)) in (
        record {
          nodes = known.0;
          ids = subst (IdsStand kept.ids) (sym (outcome_uuids w n (refusal cause.UnknownNode) (w.nodes n) (start_at n uuids))) stands.ids;
          links = subst (LinksStand (ends_of (set kept.nodes at new)) kept.links) (sym (outcome_links w n (refusal cause.UnknownNode) (w.nodes n) (start_at n uuids)))
              (same_ends (ends_of kept.nodes) (ends_of (set kept.nodes at new)) kept.links w.links
              (peers_stay kept.nodes n at old new is_placed is number (λ key. bare.peers key ∙ sym (off_peers old plain.off alike.off down key)))
              (dials_stay kept.nodes n at old new is_placed is number (λ v. bare.dials v ∙ sym (off_dials old plain.off alike.off down v))) stands.links);
        },
        known.1,
      )
