-- a start that is refused leaves the disks
use Rattle.std.proofs.Common.{◌≡◌, ℕ, ◌<◌, Bool, true, false, List, [], length, refl, ap, ◌∙◌, Option, Some, None}
use Rattle.std.specs.Prelude.{◌≢◌, if◌then◌else◌}
use Rattle.std.proofs.lemmas.Bool.{eq-eqb, lt-ltb, ne_eqb}
use Rattle.disk_journals.specs.Arms.{opens_all}
use Rattle.disk_journals.specs.Books.{Book}
use Rattle.node_core.specs.Loading.{active_ones, starts_of}
use Rattle.vb_events.specs.declared.event.Cause.{Cause}
use Rattle.vb_events.specs.declared.event.Cause.TheVariants as cause
use Rattle.node_world.specs.declared.told.Told.{Told}
use Rattle.node_world.specs.Nodes.{PlainNode, done, first_cause, refusal, refused_or}
use Rattle.node_world.specs.Power.{burnt_arm, loaded_node, not_opened, opened_at, start_at, start_books, start_causes, start_if, starts_from}
use Rattle.node_world.specs.StartsRefused.{LeavesDisks, StaysDown}
use Rattle.node_world.specs.Worlds.{PlainWorld, Outcome, node_outcome, on_made, with_node_at}
use Rattle.node_world.proofs.OnNodes.{outcome_links}
use Rattle.node_world.proofs.Unfired.{made_as}

-- other nodes and the links are left
module _ (w : PlainWorld) (n : ℕ) (f : PlainNode → PlainNode × Told) where
  others_stay : (m : ℕ) → m ≢ n → (why : Option Cause) → (refused_or why w (on_made w n f)).0.nodes m ≡ w.nodes m
  others_stay m ne (Some why) = refl
  others_stay m ne None = by (w.nodes n)
    where
      by : (o : Option PlainNode) → (node_outcome w n (refusal cause.UnknownNode) o f).0.nodes m ≡ w.nodes m
      by None = refl
      by (Some node) = ap (λ b. if b then Some (f node).0 else w.nodes m) (ne_eqb m n ne)

  links_stay : (why : Option Cause) → (refused_or why w (on_made w n f)).0.links ≡ w.links
  links_stay (Some why) = refl
  links_stay None = outcome_links w n (refusal cause.UnknownNode) (w.nodes n) f

module _ (w : PlainWorld) (n : ℕ) (node : PlainNode) (books : List Book) (there : w.nodes n ≡ Some node) (off : node.off ≡ Some books) where
  module _ (uuids : List ℕ) where
    abbrev came : PlainNode × Told
    came = start_books n uuids books node

    start_is : on_made w n (start_at n uuids) ≡ (with_node_at w n came.0, came.1)
    start_is = made_as w n node there (start_at n uuids) ∙ ap (λ (o : Option (List Book)). let x : PlainNode × Told = start_if n uuids node o in (with_node_at w n x.0, x.1)) off

    stays_down : came.0.off ≡ Some books → (why : Option Cause) → StaysDown n books (refused_or why w (on_made w n (start_at n uuids)))
    stays_down down (Some why) = (node, there, off)
    stays_down down None = (came.0, ap (λ (o : Outcome). o.0.nodes n) start_is ∙ ap (λ b. if b then Some came.0 else w.nodes n) (eq-eqb n n refl), down)

    -- by whether there are too few ids
    abbrev by_short : Bool → PlainNode × Told
    by_short b = if b then (record node { arm = burnt_arm (length books) node.arm }, refusal cause.IdsShort) else starts_from n (starts_of books uuids) (loaded_node n books (burnt_arm (length books) node.arm), done [])

    -- and whether all disks are opened
    abbrev by_opening : Bool → PlainNode × Told
    by_opening b = if b then opened_at n uuids books node else not_opened n node

    short : length uuids < length (active_ones books) → came.0.off ≡ Some books
    short few = by (opens_all node.arm.fuse (length books))
      where
        by : (b : Bool) → (by_opening b).0.off ≡ Some books
        by true = ap (λ b. (by_short b).0.off) (lt-ltb (length uuids) (length (active_ones books)) few) ∙ off
        by false = off

    unopened : opens_all node.arm.fuse (length books) ≡ false → came.0.off ≡ Some books
    unopened hit = ap (λ b. (by_opening b).0.off) hit ∙ off

  pub leaves_disks : LeavesDisks w n node books
  leaves_disks = record {
    short = λ number uuids few. stays_down uuids (short uuids few) (first_cause (start_causes w n uuids));
    unopened = λ number uuids hit. stays_down uuids (unopened uuids hit) (first_cause (start_causes w n uuids));
    others = λ number uuids m ne. others_stay w n (start_at n uuids) m ne (first_cause (start_causes w n uuids));
    links = λ number uuids. links_stay w n (start_at n uuids) (first_cause (start_causes w n uuids));
  }
