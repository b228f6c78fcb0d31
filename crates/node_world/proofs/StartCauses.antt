-- why lines for a node that is down are refused
use Rattle.std.proofs.Common.{◌≡◌, ℕ, Bool, true, false, List, [], ◌∷◌, ◌++◌, length, refl, ap, ◌∙◌, Some, None, is_some, sym, arith}
use Rattle.std.specs.Prelude.{◌≢◌, ◌+◌, ◌*◌, ◌==◌, ◌||◌, not, if◌then◌else◌}
use Rattle.std.proofs.lemmas.Bool.{eq-eqb, le-ltb, lt-ltb, ne_eqb}
use Rattle.disk_journals.specs.Arms.{opens_all}
use Rattle.disk_journals.specs.Books.{Book}
use Rattle.vb_disk.specs.declared.fuse.Fuse.{Fuse}
use Rattle.vb_disk.specs.declared.fuse.Fuse.TheVariants as fuse
use Rattle.vb_events.specs.declared.event.Answer.TheVariants as answer
use Rattle.vb_events.specs.declared.event.Cause.{Cause}
use Rattle.vb_events.specs.declared.event.Cause.TheVariants as cause
use Rattle.vb_types.specs.declared.journal.FlushPart.TheVariants as part
use Rattle.vb_types.specs.declared.role.Role.{Role}
use Rattle.vb_types.specs.declared.role.Role.TheVariants as role
use Rattle.node_core.specs.declared.admin.AdminCall.TheVariants as admin
use Rattle.node_core.specs.Loading.{are_short, active_ones, starts_of}
use Rattle.node_world.specs.declared.told.Told.{Told}
use Rattle.node_world.specs.Arms.{fired_by}
use Rattle.node_world.specs.Causes.{AreFree, AtDown, IsFree}
use Rattle.node_world.specs.Nodes.{PlainNode, bytes_at, chain_line, client_at, clock_at, done, first_cause, flush_line, hang_at, is_one_of, refusal, refused_or, replica_at, save_line, tick_line, uuid_causes, vb_at}
use Rattle.node_world.specs.Pairing.{Differ, Each}
use Rattle.node_world.specs.Power.{any_used, burnt_arm, down_lines, dropped, loaded_node, not_opened, opened_at, opening_told, start_at, start_books, start_if, start_step, starts_from, with_arm}
use Rattle.node_world.specs.Turns.{admin_line, role_causes, role_outcome}
use Rattle.node_world.specs.World.{base_of}
use Rattle.node_world.specs.Worlds.{PlainWorld, Outcome, is_off, is_up, on_made, on_node, vb_in}
use Rattle.node_world.proofs.ChainCauses.{due_answer}
use Rattle.node_world.proofs.StartsWell.{loaded_starts, opens_beyond}
use Rattle.node_world.proofs.Unfired.{made_as, refused_armed, resting, resting_armed}

-- ---- ids

-- one that stands among them is one of them
one_at : (before later : List ℕ) (id : ℕ) → is_one_of id (before ++ id ∷ later) ≡ true
one_at [] later id = ap (λ b. b || is_one_of id later) (eq-eqb id id refl)
one_at (x ∷ xs) later id = second (x == id) (is_one_of id (xs ++ id ∷ later)) (one_at xs later id)
  where
    second : (a b : Bool) → b ≡ true → (a || b) ≡ true
    second true b e = refl
    second false b e = e

none_at : (ids : List ℕ) (id : ℕ) → Each (λ other. other ≢ id) ids → is_one_of id ids ≡ false
none_at [] id each = refl
none_at (x ∷ xs) id each = ap (λ b. b || is_one_of id xs) (ne_eqb x id each.0) ∙ none_at xs id each.1

last : (a b c : Bool) → c ≡ true → (a || b || c) ≡ true
last true b c e = refl
last false true c e = refl
last false false c e = e

middle : (a b c : Bool) → b ≡ true → (a || b || c) ≡ true
middle true b c e = refl
middle false true c e = refl
middle false false c e = cc

-- one that was given before is used
given_used : (given before later : List ℕ) (id : ℕ) → is_one_of id given ≡ true → any_used given (before ++ id ∷ later) ≡ true
given_used given [] later id is = ap (λ b. b || is_one_of id later || any_used given later) is
given_used given (x ∷ xs) later id is = last (is_one_of x given) (is_one_of x (xs ++ id ∷ later)) (any_used given (xs ++ id ∷ later)) (given_used given xs later id is)

-- so is one that stands twice
twice_used : (given before between later : List ℕ) (id : ℕ) → any_used given (before ++ id ∷ between ++ id ∷ later) ≡ true
twice_used given [] between later id = middle (is_one_of id given) (is_one_of id (between ++ id ∷ later)) (any_used given (between ++ id ∷ later)) (one_at between later id)
twice_used given (x ∷ xs) between later id =
    last (is_one_of x given) (is_one_of x (xs ++ id ∷ between ++ id ∷ later)) (any_used given (xs ++ id ∷ between ++ id ∷ later)) (twice_used given xs between later id)

unlike : (x : ℕ) (ids : List ℕ) → Each (λ other. x ≢ other) ids → Each (λ other. other ≢ x) ids
unlike x [] each = tt
unlike x (y ∷ ys) each = (λ e. each.0 (sym e), unlike x ys each.1)

none_used : (w : PlainWorld) (ids : List ℕ) → Each (IsFree w) ids → Differ (λ one other. one ≢ other) ids → any_used w.uuids ids ≡ false
none_used w [] free apart = refl
none_used w (x ∷ xs) free apart = (λ i. free.0 i || none_at xs x (unlike x xs apart.0) i || any_used w.uuids xs) ∙ none_used w xs free.1 apart.1

-- ---- a node that is made and not running

module _ (w : PlainWorld) (n : ℕ) (node : PlainNode) (books : List Book) (there : w.nodes n ≡ Some node) (off : node.off ≡ Some books) where
  down : is_some node.off ≡ true
  down = ap is_some off

  down_turn : (v : ℕ) (r : Role) (rest : List (Bool × Cause)) (came : Outcome)
      → (with_arm n w (refused_or (first_cause ((not (is_some (w.nodes n)), cause.UnknownNode) ∷ (is_off (w.nodes n), cause.NodeDown) ∷ role_causes r (vb_in (w.nodes n) v) ++ rest)) w came)).1.answer ≡ answer.No cause.NodeDown
  down_turn v r rest came =
      refused_armed w n _ cause.NodeDown (
      ap (λ x. refused_or (first_cause ((not (is_some x), cause.UnknownNode) ∷ (is_off x, cause.NodeDown) ∷ role_causes r (vb_in x v) ++ rest)) w came) there
      ∙ ap (λ b. refused_or (first_cause ((b, cause.NodeDown) ∷ role_causes r (node.vbs v) ++ rest)) w came) down
      )

  -- a start, by whether an id is 0 or used
  start_row : (uuids : List ℕ) (zero used : Bool) → is_one_of 0 uuids ≡ zero → any_used w.uuids uuids ≡ used
      → start_step w n uuids ≡ refused_or (first_cause ((zero, cause.UuidZero) ∷ (used, cause.UuidUsed) ∷ [])) w (on_made w n (start_at n uuids))
  start_row uuids zero used e f =
      (λ i. refused_or (first_cause ((not (is_some (there i)), cause.UnknownNode) ∷ (is_up (there i), cause.NodeUp) ∷ (e i, cause.UuidZero) ∷ (f i, cause.UuidUsed) ∷ [])) w (on_made w n (start_at n uuids)))
      ∙ ap (λ b. refused_or (first_cause ((not b, cause.NodeUp) ∷ (zero, cause.UuidZero) ∷ (used, cause.UuidUsed) ∷ [])) w (on_made w n (start_at n uuids))) down

  -- none is
  started : (uuids : List ℕ) → AreFree w uuids → (start_step w n uuids).1.answer ≡ (start_books n uuids books node).1.answer
  started uuids are =
      ap (λ (x : Outcome). x.1.answer) (start_row uuids false false (none_at uuids 0 are.named) (none_used w uuids are.free are.apart))
      ∙ ap (λ (x : Outcome). x.1.answer) (made_as w n node there (start_at n uuids)) ∙ ap (λ o. (start_if n uuids node o).1.answer) off

  unopened : (uuids : List ℕ) → AreFree w uuids → opens_all node.arm.fuse (length books) ≡ false → (start_step w n uuids).1.answer ≡ (opening_told n (fired_by node.arm.fuse fuse.Off)).answer
  unopened uuids are hit = started uuids are ∙ ap (λ b. (if b then opened_at n uuids books node else not_opened n node).1.answer) hit

  -- by whether there are too few ids
  abbrev by_short : List ℕ → Bool → PlainNode × Told
  by_short uuids b = if b then (record node { arm = burnt_arm (length books) node.arm }, refusal cause.IdsShort) else starts_from n (starts_of books uuids) (loaded_node n books (burnt_arm (length books) node.arm), done [])

  opened : (uuids : List ℕ) → AreFree w uuids → opens_all node.arm.fuse (length books) ≡ true → (start_step w n uuids).1.answer ≡ (by_short uuids (are_short books uuids)).1.answer
  opened uuids are opens = started uuids are ∙ ap (λ b. (if b then opened_at n uuids books node else not_opened n node).1.answer) opens

  pub at_stopped_node : AtDown w n node books
  at_stopped_node = record {
    vb_active = λ v uuid number. resting_armed w n node there down (vb_at w.uuids n v uuid);
    vb_replica = λ v number. resting_armed w n node there down (replica_at n v);
    chain = λ v others number. resting w n node there down (chain_line n v others);
    clock = λ nanos number. resting w n node there down (clock_at nanos);
    client = λ c number. resting w n node there down (client_at n (base_of number) c);
    bytes = λ c bytes number. resting w n node there down (bytes_at c bytes);
    hang = λ c number. resting w n node there down (hang_at c);
    promote = λ v uuid number. down_turn v role.Active (uuid_causes w.uuids uuid) (role_outcome n v (admin.Promote uuid) w);
    follow = λ v number. down_turn v role.Replica [] (role_outcome n v admin.Follow w);
    dead = λ v number. down_turn v role.Dead [] (role_outcome n v admin.Dead w);
    seal = λ v number. resting w n node there down (admin_line n v admin.Seal);
    trim = λ v number. resting w n node there down (admin_line n v admin.Trim);
    take = λ v number. resting w n node there down (flush_line n v part.Take);
    save = λ v number. resting_armed w n node there down (save_line n v);
    done = λ v number. due_answer n v (on_node w n (flush_line n v part.Done)) ∙ resting w n node there down (flush_line n v part.Done);
    tick = λ v number. resting w n node there down (tick_line n v);
    stat = λ v number. resting w n node there down (admin_line n v admin.Stat);
    log = λ v number. resting w n node there down (admin_line n v admin.Log);
    show = λ v number. resting w n node there down (admin_line n v admin.Show);
    crash = λ out number.
        (λ i. (refused_or (first_cause ((not (is_some (there i)), cause.UnknownNode) ∷ (not (is_up (there i)), cause.NodeDown) ∷ [])) w (dropped n out w, done (down_lines n None w))).1.answer)
        ∙ ap (λ b. (refused_or (first_cause ((not (not b), cause.NodeDown) ∷ [])) w (dropped n out w, done (down_lines n None w))).1.answer) down;
    zero = λ before later number.
        ap (λ (x : Outcome). x.1.answer) (start_row (before ++ 0 ∷ later) true (any_used w.uuids (before ++ 0 ∷ later)) (one_at before later 0) refl);
    used = λ before later uuid named given number.
        ap (λ (x : Outcome). x.1.answer) (start_row (before ++ uuid ∷ later) false true (none_at (before ++ uuid ∷ later) 0 named) (given_used w.uuids before later uuid given));
    twice = λ before between later uuid named number.
        ap (λ (x : Outcome). x.1.answer) (start_row (before ++ uuid ∷ between ++ uuid ∷ later) false true (none_at (before ++ uuid ∷ between ++ uuid ∷ later) 0 named) (twice_used w.uuids before between later uuid));
    unopened = λ uuids k are hit is number. unopened uuids are hit ∙ ap (λ (f : Fuse). (opening_told n (fired_by f fuse.Off)).answer) is;
    stopped = λ uuids k are hit is number. unopened uuids are hit ∙ ap (λ (f : Fuse). (opening_told n (fired_by f fuse.Off)).answer) is;
    short = λ uuids are opens few number. opened uuids are opens ∙ ap (λ b. (by_short uuids b).1.answer) (lt-ltb (length uuids) (length (active_ones books)) few);
    starts = λ uuids are far many number.
        opened uuids are (opens_beyond (length books) (length books + 4 * length (active_ones books)) (4 * length (active_ones books)) node.arm.fuse (omega arith) far).0
        ∙ ap (λ b. (by_short uuids b).1.answer) (le-ltb (length uuids) (length (active_ones books)) many) ∙ loaded_starts n uuids books node.arm far;
  }
