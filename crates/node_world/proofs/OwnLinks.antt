-- changes of role cut the link that feeds the vBucket
use Rattle.std.proofs.Common.{◌≡◌, ℕ, Bool, true, false, cond, List, [], ◌∷◌, map, filter, find, length, refl, ap, sym, ◌∙◌, subst, Option, Some, None, ◌++◌, is_some}
use Rattle.std.specs.Prelude.{◌==◌, if◌then◌else◌, option_map}
use Rattle.std.proofs.lemmas.Bool.{eq-eqb, false≢true}
use Rattle.std.proofs.lemmas.List.{length-map}
use Rattle.vb_events.specs.declared.event.Answer.TheVariants as answer
use Rattle.vb_events.specs.declared.event.Cause.{Cause}
use Rattle.vb_events.specs.declared.event.Cause.TheVariants as cause
use Rattle.vb_types.specs.declared.role.Role.TheVariants as role
use Rattle.vb_events.specs.declared.event.Event.{Event}
use Rattle.vb_events.specs.declared.event.Event.TheVariants as event
use Rattle.vb_events.specs.declared.event.EndReason.TheVariants as reason
use Rattle.vb_calls.specs.declared.calls.Resolved.{Resolved}
use Rattle.vbucket.specs.Rows.{row_at, row_out}
use Rattle.node_core.specs.declared.admin.AdminCall.{AdminCall}
use Rattle.node_core.specs.declared.admin.AdminCall.TheVariants as admin
use Rattle.node_core.specs.Admin.{AdminResult, admin_refused}
use Rattle.dcp_producer.specs.Ending.{ended_by}
use Rattle.node_world.specs.declared.arm.Fired.{Fired}
use Rattle.node_world.specs.declared.arm.Fired.TheVariants as fired
use Rattle.node_world.specs.Arms.{fired_by, placed, under_arm}
use Rattle.node_world.specs.Power.{after_fire, with_arm}
use Rattle.node_world.specs.Cuts.{own_link, cut_off, link_ended}
use Rattle.node_world.specs.Lines.{ChangesRole}
use Rattle.node_world.specs.Links.{PlainLink, link_number, producer_node, feeds}
use Rattle.node_world.specs.Nodes.{PlainNode, all_posted, first_cause, refused_or}
use Rattle.node_world.specs.OwnLinks.{CutsOwn, RolesCutLinks}
use Rattle.node_world.specs.Turns.{call_told, called_at, posted_at, posted_in, role_called, after_cuts, turned, with_ended, turned_if, turned_after, no_node, role_outcome, promote_causes, turn_causes}
use Rattle.node_world.specs.Worlds.{PlainWorld, Outcome, arm_in, with_node_at, node_outcome}
use Rattle.node_world.proofs.RoleJobs.{turn_stays}

module _ {X : Type 0} (f : X → Bool) where
  -- the first of what meets a test meets it
  pub meets : (x : X) (rest xs : List X) → filter f xs ≡ x ∷ rest → f x ≡ true
  meets x rest [] e = cc
  meets x rest (y ∷ ys) e = by (f y) refl e (meets x rest ys)
    where
      by : (b : Bool) → f y ≡ b → cond b (y ∷ filter f ys) (filter f ys) ≡ x ∷ rest → (filter f ys ≡ x ∷ rest → f x ≡ true) → f x ≡ true
      by true t e later = let is : y ≡ x = cc in ap f (sym is) ∙ t
      by false t e later = later e

  pub found : (x : X) (rest xs : List X) → filter f xs ≡ x ∷ rest → find f xs ≡ Some x
  found x rest [] e = cc
  found x rest (y ∷ ys) e = by (f y) e (found x rest ys)
    where
      by : (b : Bool) → cond b (y ∷ filter f ys) (filter f ys) ≡ x ∷ rest → (filter f ys ≡ x ∷ rest → find f ys ≡ Some x) → cond b (Some y) (find f ys) ≡ Some x
      by true e later = let is : y ≡ x = cc in ap Some is
      by false e later = later e

  pub found_none : (xs : List X) → filter f xs ≡ [] → find f xs ≡ None
  found_none [] e = refl
  found_none (y ∷ ys) e = by (f y) e (found_none ys)
    where
      by : (b : Bool) → cond b (y ∷ filter f ys) (filter f ys) ≡ [] → (filter f ys ≡ [] → find f ys ≡ None) → cond b (Some y) (find f ys) ≡ None
      by true e later = cc
      by false e later = later e

  -- members that are changed in what neither the test nor the number reads
  module _ (g : X → X) (same : (x : X) → f (g x) ≡ f x) where
    pub mapped : (xs : List X) → filter f (map g xs) ≡ map g (filter f xs)
    mapped [] = refl
    mapped (x ∷ xs) = ap (λ b. cond b (g x ∷ filter f (map g xs)) (filter f (map g xs))) (same x) ∙ by (f x) (mapped xs)
      where
        by : (b : Bool) → filter f (map g xs) ≡ map g (filter f xs) → cond b (g x ∷ filter f (map g xs)) (filter f (map g xs)) ≡ map g (cond b (x ∷ filter f xs) (filter f xs))
        by true later = ap (λ ys. g x ∷ ys) later
        by false later = later

  module _ (number : X → ℕ) where
    numbered_map : (g : X → X) → ((x : X) → number (g x) ≡ number x) → (n : ℕ) (xs : List X) → row_at number n (map g xs) ≡ option_map g (row_at number n xs)
    numbered_map g same n [] = refl
    numbered_map g same n (x ∷ xs) = ap (λ m. if m == n then Some (g x) else row_at number n (map g xs)) (same x) ∙ by (number x == n) (numbered_map g same n xs)
      where
        by : (b : Bool) → row_at number n (map g xs) ≡ option_map g (row_at number n xs) → (if b then Some (g x) else row_at number n (map g xs)) ≡ option_map g (if b then Some x else row_at number n xs)
        by true later = refl
        by false later = later

    -- where one member alone meets the test, none does without it
    only_out : (x : X) (xs : List X) → filter f xs ≡ x ∷ [] → row_at number (number x) xs ≡ Some x → filter f (row_out number (number x) xs) ≡ []
    only_out x [] e at = cc
    only_out x (y ∷ ys) e at = by (number y == number x) (f y) refl refl e at (only_out x ys)
      where
        by : (same b : Bool) → (number y == number x) ≡ same → f y ≡ b → cond b (y ∷ filter f ys) (filter f ys) ≡ x ∷ [] → (if same then Some y else row_at number (number x) ys) ≡ Some x
            → (filter f ys ≡ x ∷ [] → row_at number (number x) ys ≡ Some x → filter f (row_out number (number x) ys) ≡ [])
            → filter f (if same then ys else y ∷ row_out number (number x) ys) ≡ []
        by true true s t e at later = cc
        by true false s t e at later = let is : y ≡ x = cc in absurd (false≢true (sym t ∙ ap f is ∙ meets x [] ys e))
        by false true s t e at later = let is : y ≡ x = cc in absurd (false≢true (sym s ∙ eq-eqb (number y) (number x) (ap number is)))
        by false false s t e at later = ap (λ b. cond b (y ∷ filter f (row_out number (number x) ys)) (filter f (row_out number (number x) ys))) t ∙ later e at

-- a link whose producer was told of ended streams feeds what it fed
module _ (m u : ℕ) (ids : List ℕ) where
  same_number : (link : PlainLink) → link_number (link_ended m u ids link) ≡ link_number link
  same_number link = by (producer_node link == m)
    where
      by : (b : Bool) → link_number (if b then record link { server = ended_by u ids link.server } else link) ≡ link_number link
      by true = refl
      by false = refl

  pub same_fed : (n v : ℕ) (link : PlainLink) → feeds n v (link_ended m u ids link) ≡ feeds n v link
  same_fed n v link = by (producer_node link == m)
    where
      by : (b : Bool) → feeds n v (if b then record link { server = ended_by u ids link.server } else link) ≡ feeds n v link
      by true = refl
      by false = refl

-- the vBucket's own link is cut
module _ (w : PlainWorld) (n v : ℕ) (told : AdminResult) (ids : List ℕ) (w1 : PlainWorld) (links : w1.links ≡ w.links) where
  abbrev w2 : PlainWorld
  w2 = with_ended n v ids w1

  abbrev g : PlainLink → PlainLink
  g = link_ended n v ids

  abbrev after_cut : Option PlainLink → Outcome
  after_cut o = after_cuts told (cut_off o w2)

  fed_then : filter (feeds n v) w2.links ≡ map g (filter (feeds n v) w.links)
  fed_then = mapped (feeds n v) g (same_fed n v ids n v) w1.links ∙ ap (λ ls. map g (filter (feeds n v) ls)) links

  was_cut : CutsOwn n v w (after_cut (own_link n v w2.links))
  was_cut = record { cut = cut; none = none }
    where
      cut : (link : PlainLink) → (after_cut (own_link n v w2.links)).1.answer ≡ answer.Ok → filter (feeds n v) w.links ≡ link ∷ [] → row_at link_number (link_number link) w.links ≡ Some link
          → (rest : List Event) × ((after_cut (own_link n v w2.links)).1.events ≡ event.Ended (link_number link) reason.Cut ∷ rest) × (filter (feeds n v) (after_cut (own_link n v w2.links)).0.links ≡ [])
      cut link ok one numbered =
          let only : filter (feeds n v) w2.links ≡ g link ∷ [] = fed_then ∙ ap (map g) one in
          let own : own_link n v w2.links ≡ Some (g link) = found (feeds n v) (g link) [] w2.links only in
          let at : row_at link_number (link_number (g link)) w2.links ≡ Some (g link) =
          (λ i. row_at link_number (same_number n v ids link i) w2.links)
          ∙ numbered_map (feeds n v) link_number g (same_number n v ids) (link_number link) w1.links
          ∙ ap (λ ls. option_map g (row_at link_number (link_number link) ls)) links ∙ ap (option_map g) numbered in
          subst (λ o. (rest : List Event) × ((after_cut o).1.events ≡ event.Ended (link_number link) reason.Cut ∷ rest) × (filter (feeds n v) (after_cut o).0.links ≡ [])) (sym own)
          (told.events, ap (λ l. event.Ended l reason.Cut ∷ told.events) (same_number n v ids link), only_out (feeds n v) link_number (g link) w2.links only at)

      none : (after_cut (own_link n v w2.links)).1.answer ≡ answer.Ok → filter (feeds n v) w.links ≡ [] → length (after_cut (own_link n v w2.links)).0.links ≡ length w.links
      none ok e =
          ap (λ o. length (after_cut o).0.links) (found_none (feeds n v) w2.links (fed_then ∙ ap (map g) e)) ∙ length-map w1.links g ∙ ap length links

-- a line that is not answered `ok` cuts nothing
uncut : (n v : ℕ) (w : PlainWorld) (came : Outcome) → (came.1.answer ≡ answer.Ok → ⊥) → CutsOwn n v w came
uncut n v w came never = record { cut = λ link ok. absurd (never ok); none = λ ok. absurd (never ok) }

module _ (w : PlainWorld) (n v : ℕ) (asked : AdminCall) (changes : ChangesRole asked) where
  -- what became of durable writes is told behind
  posted : (rs : List Resolved) (came : Outcome) → CutsOwn n v w came → CutsOwn n v w (posted_in n rs came)
  posted rs came cuts = by (came.0.nodes n)
    where
      by : (o : Option PlainNode) → CutsOwn n v w (posted_at n rs came.0 came.1 o)
      by None = cuts
      by (Some node) =
          let lines = (all_posted rs node).1 in record {
            cut = λ link ok one numbered. let (rest, told, left) = cuts.cut link ok one numbered in (rest ++ lines, ap (λ xs. xs ++ lines) told, left);
            none = cuts.none;
          }

  role_cuts : CutsOwn n v w (role_outcome n v asked w)
  role_cuts = by (w.nodes n)
    where
      by_told : (w1 : PlainWorld) → w1.links ≡ w.links → (told : AdminResult) → (told.ended ≡ None → told.answer ≡ answer.Ok → ⊥) → (ended : Option (List ℕ)) → told.ended ≡ ended → CutsOwn n v w (turned_if n v w ended (w1, told))
      by_told w1 links told never None e = uncut n v w (turned_if n v w None (w1, told)) (never e)
      by_told w1 links told never (Some ids) e = posted told.resolved (turned n v told (with_ended n v ids w1)) (was_cut w n v told ids w1 links)

      by_off : (node : PlainNode) (b : Bool) → let x : PlainNode × AdminResult = if b then (node, admin_refused cause.NodeDown) else under_arm v (called_at n v asked) node in CutsOwn n v w (turned_after n v w (with_node_at w n x.0, x.1))
      by_off node true = uncut n v w (w, call_told (admin_refused cause.NodeDown)) (λ ok. cc)
      by_off node false =
          let x : PlainNode × AdminResult = under_arm v (called_at n v asked) node in
          by_told (with_node_at w n x.0) refl x.1 (λ none ok. (turn_stays n v asked changes (placed v node) none).2 ok) x.1.ended refl

      by : (o : Option PlainNode) → CutsOwn n v w (turned_after n v w (node_outcome w n no_node o (role_called n v asked)))
      by None = uncut n v w (turned_after n v w (w, no_node)) (λ ok. cc)
      by (Some node) = by_off node (is_some node.off)

  unless : (why : Option Cause) → CutsOwn n v w (refused_or why w (role_outcome n v asked w))
  unless None = role_cuts
  unless (Some why) = uncut n v w (refused_or (Some why) w (role_outcome n v asked w)) (λ ok. cc)

  -- what befalls the line then, or not
  armed : (came : Outcome) → CutsOwn n v w came → CutsOwn n v w (with_arm n w came)
  armed came cuts = by (fired_by (arm_in (w.nodes n)).fuse (arm_in (came.0.nodes n)).fuse)
    where
      by : (f : Fired) → CutsOwn n v w (after_fire n (arm_in (w.nodes n)).out f came)
      by fired.No = cuts
      by fired.Failed = record {
        cut = λ link ok one numbered. let (rest, told, left) = cuts.cut link ok one numbered in (rest ++ event.CallFailed n ∷ [], ap (λ xs. xs ++ event.CallFailed n ∷ []) told, left);
        none = cuts.none;
      }
      by fired.Stopped = uncut n v w (after_fire n (arm_in (w.nodes n)).out fired.Stopped came) (λ ok. cc)

  cuts_if : (why : Option Cause) → CutsOwn n v w (with_arm n w (refused_or why w (role_outcome n v asked w)))
  cuts_if why = armed (refused_or why w (role_outcome n v asked w)) (unless why)

pub roles_cut : (w : PlainWorld) (n v : ℕ) → RolesCutLinks w n v
roles_cut w n v = record {
  promote = λ number uuid. cuts_if w n v (admin.Promote uuid) tt (first_cause (promote_causes w n v uuid));
  follow = λ number. cuts_if w n v admin.Follow tt (first_cause (turn_causes w n v role.Replica));
  dead = λ number. cuts_if w n v admin.Dead tt (first_cause (turn_causes w n v role.Dead));
}
